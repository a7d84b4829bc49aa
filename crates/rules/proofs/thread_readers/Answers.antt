-- `rules::thread_readers` meets its contract. The loop's invariant: the threads below `i` are marked. Assumes nothing.
use borrow.Author.Rules.{rules}
use mathlib.Core.Path.{◌≡◌, ap, ◌∙◌}
use Prim.Native.Nat.{ℕ}
use native.Mathlib.Omega.{arith}
use Rattle.rules.specs.Reading.{reading_below}
use Rattle.rules.proofs.Counting.{at_most-min}
use Rattle.rules.proofs.Reading.{reading-none, reading-turn}
use Rattle.rules.proofs.thread_readers.Goals as goal

pub loop-i-init : goal.loop-i-init
loop-i-init c =
    let a = c.args in
    (search rules, reading-none a.sheet.now a.definitions.now a.code.now a.sizes.now a.reading.now)

pub loop-i-preserved : goal.loop-i-preserved
loop-i-preserved c =
    let a = c.args in
    let l = c.loop-i in
    let n = c.min-n.ensures ∙ at_most-min 256 _ in
    (omega arith, reading-turn a.sheet.now a.definitions.now a.code.now a.sizes.now l.i a.reading.now l.invariant.1 n c.mark_thread.ensures)

pub returns : goal.returns
returns c =
    let a = c.args in
    let l = c.loop-i in
    let e : l.i ≡ c.min-count.result = omega arith in
    l.invariant.1
    ∙ ap (λ (n : ℕ). reading_below a.sheet.now a.definitions.now a.code.now a.sizes.now n a.reading.now)
    (e ∙ c.min-count.ensures ∙ at_most-min 8 a.threads)
