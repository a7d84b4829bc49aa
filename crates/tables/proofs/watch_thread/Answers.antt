-- `tables::watch_thread` meets its contract. The loop's invariant: the variables that the instructions below `p` name are marked.
-- Assumes nothing.
use borrow.Author.Rules.{rules}
use mathlib.Core.Path.{◌≡◌, ap, ◌∙◌}
use Prim.Native.Nat.{ℕ}
use native.Mathlib.Omega.{arith}
use Rattle.tables.specs.Readers.{watch_thread}
use Rattle.tables.proofs.Readers.{thread-none, thread-turn}
use Rattle.tables.proofs.watch_thread.Goals as goal

pub loop-p-init : goal.loop-p-init
loop-p-init c =
    let a = c.args in
    (search rules, thread-none a.sheet.now a.code.now a.thread a.watched.now)

pub loop-p-preserved : goal.loop-p-preserved
loop-p-preserved c =
    let a = c.args in
    let l = c.loop-p in
    let e = c.fetch.ensures in
    (omega arith, thread-turn a.sheet.now a.code.now a.thread l.p a.watched.now l.invariant.1 e c.watch_instr.ensures)

pub returns : goal.returns
returns c =
    let a = c.args in
    let l = c.loop-p in
    let e : l.p ≡ a.n = omega arith in
    l.invariant.1 ∙ ap (λ (n : ℕ). watch_thread a.sheet.now a.code.now a.thread n a.watched.now) e
