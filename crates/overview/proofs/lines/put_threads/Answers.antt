-- `overview::lines::put_threads` meets its contract. The loop's invariant: the lines of the threads below `i` are put. Assumes nothing.
use borrow.Author.Rules.{rules}
use mathlib.Core.Path.{◌≡◌, ap, ◌∙◌}
use Prim.Native.Nat.{ℕ, ◌-◌, ◌≤◌}
use native.Mathlib.Omega.{arith}
use Rattle.writing.specs.Buffer.{filled, puts}
use Rattle.overview.specs.Shown.{thread_lines}
use Rattle.overview.proofs.Threads.{threads-none, threads-turn}
use Rattle.overview.proofs.lines.put_threads.Goals as goal

pub loop-i-init : goal.loop-i-init
loop-i-init c =
    let a = c.args in
    (search rules, threads-none a.sheet.now a.code.now a.sizes.now _)

pub loop-i-preserved : goal.loop-i-preserved
loop-i-preserved c =
    let a = c.args in
    let l = c.loop-i in (
      omega arith,
      threads-turn a.sheet.now a.code.now a.sizes.now l.i _ _ _ l.invariant.1 c.size_of-n.ensures
          c.waits_in-waits.ensures c.put_thread-p.ensures,
    )

pub returns : goal.returns
returns c =
    let a = c.args in
    let l = c.loop-i in
    let e : l.i ≡ a.threads = omega arith in
    l.invariant.1 ∙ ap (λ (n : ℕ). puts (filled a.text.now a.pos) (thread_lines a.sheet.now a.code.now a.sizes.now n)) e
