-- `rules::writers` meets its contract. The loop's invariant: the masks of the threads below `i` are stored. Assumes nothing.
use borrow.Author.Rules.{rules}
use mathlib.Core.Path.{◌≡◌, ap, ◌∙◌}
use Prim.Native.Nat.{ℕ}
use native.Mathlib.Omega.{arith}
use Rattle.rules.specs.Writers.{set_register, later_register, plain_below, later_below}
use Rattle.rules.proofs.Counting.{at_most-min}
use Rattle.rules.proofs.Writing.{masks-none, masks-turn}
use Rattle.rules.proofs.writers.Goals as goal

pub loop-i-init : goal.loop-i-init
loop-i-init c =
    let a = c.args in (
      search rules,
      masks-none (set_register a.inputs) a.sheet.now a.code.now a.sizes.now a.plain.now,
      masks-none (later_register a.inputs) a.sheet.now a.code.now a.sizes.now a.later.now,
    )

pub loop-i-preserved : goal.loop-i-preserved
loop-i-preserved c =
    let a = c.args in
    let l = c.loop-i in
    let n = c.min-n.result in
    let g = c.min-n.ensures ∙ at_most-min 256 _ in
    let w = c.thread_writes-w.ensures in (
      omega arith,
      masks-turn (set_register a.inputs) a.sheet.now a.code.now a.sizes.now l.i a.plain.now n l.invariant.1 g (search rules) w.plain_value,
      masks-turn (later_register a.inputs) a.sheet.now a.code.now a.sizes.now l.i a.later.now n l.invariant.2 g (search rules) w.later_value,
    )

pub returns : goal.returns
returns c =
    let a = c.args in
    let l = c.loop-i in
    let e : l.i ≡ c.min-count.result = omega arith in
    let n = e ∙ c.min-count.ensures ∙ at_most-min 8 a.threads in record {
      plain_after = l.invariant.1 ∙ ap (λ (n : ℕ). plain_below a.sheet.now a.code.now a.sizes.now a.inputs n a.plain.now) n;
      later_after = l.invariant.2 ∙ ap (λ (n : ℕ). later_below a.sheet.now a.code.now a.sizes.now a.inputs n a.later.now) n;
    }
