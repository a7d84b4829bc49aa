-- `overview::lines::put_threads` meets its contract. The loop's invariant: the lines of the threads below `i` are put. Assumes nothing.
use borrow.Author.Rules.{rules}
use mathlib.Core.Path.{◌≡◌, ap, ◌∙◌}
use Prim.Native.Nat.{◌≤◌}
use native.Mathlib.Omega.{arith}
use Rattle.writing.specs.Buffer.{filled, puts}
use Rattle.overview.specs.Shown.{thread_lines}
use Rattle.overview.proofs.Threads.{threads-none, threads-turn}
use Rattle.overview.proofs.lines.put_threads.Given as goal

abbrev pub invariant-loop-i : goal.invariant-loop-i
invariant-loop-i l =
    (l.i ≤ l.threads) × (filled l.text l.p ≡ puts (filled l.initial.text l.pos) (thread_lines l.sheet l.code l.sizes l.i))
