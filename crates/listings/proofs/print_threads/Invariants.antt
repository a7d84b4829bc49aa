-- `listings::print_threads` meets its contract. The loop's invariant: what is still to be put gives the whole. Assumes nothing.
use Prim.Native.Nat.{◌≤◌, ◌-◌}
use mathlib.Core.Path.{◌≡◌}
use Rattle.writing.specs.Buffer.{filled, puts}
use Rattle.listings.specs.Lines.{thread_lines}
use Rattle.listings.proofs.print_threads.Given as goal

abbrev pub invariant-loop-thread : goal.invariant-loop-thread
invariant-loop-thread l =
    (l.thread ≤ l.threads) × (puts (filled l.text l.p) (thread_lines l.sheet l.definitions l.code l.sizes (l.threads - l.thread) l.thread) ≡ puts (filled l.initial.text l.pos) (thread_lines l.sheet l.definitions l.code l.sizes l.threads 0))
