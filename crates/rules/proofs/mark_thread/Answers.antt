-- `rules::mark_thread` meets its contract. The loop's invariant: the variables that the instructions below `p` read are marked.
-- Assumes nothing.
use borrow.Author.Rules.{rules}
use mathlib.Core.Path.{◌≡◌, ap, ◌∙◌}
use Prim.Native.Nat.{ℕ}
use native.Mathlib.Omega.{arith}
use Rattle.rules.specs.Reading.{mark_thread}
use Rattle.rules.proofs.Reading.{thread-none, thread-turn}
use Rattle.rules.proofs.mark_thread.Goals as goal

pub loop-p-init : goal.loop-p-init
loop-p-init c =
    let a = c.args in
    (search rules, thread-none a.sheet.now a.definitions.now a.code.now a.thread a.reading.now)

pub loop-p-preserved : goal.loop-p-preserved
loop-p-preserved c =
    let a = c.args in
    let l = c.loop-p in
    (omega arith, thread-turn a.sheet.now a.definitions.now a.code.now a.thread l.p a.reading.now l.invariant.1 c.fetch.ensures c.mark_instr.ensures)

pub returns : goal.returns
returns c =
    let a = c.args in
    let l = c.loop-p in
    let e : l.p ≡ a.n = omega arith in
    l.invariant.1 ∙ ap (λ (n : ℕ). mark_thread a.sheet.now a.definitions.now a.code.now a.thread n a.reading.now) e
