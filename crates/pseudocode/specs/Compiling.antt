-- The code table of a whole sheet, filled once from a sheet that was accepted.
-- Defined for any bytes; proofs/Compiling says that for a sheet that is accepted it holds the translation of each thread.
use Rattle.std.specs.Prelude.{ℕ, zero, suc, ◌+◌, List, set, replicate, ltb}
use Rattle.values.specs.Values.{pick}
use Rattle.pseudocode.specs.Filling.{filling, fill_forever, fill_at}

-- How far the sheet was taken, each thread's size, and the table.
pub record Compiled : Type 0 where
  pub next : ℕ
  pub sizes : List ℕ
  pub code : List ℕ

abbrev pub compiled : ℕ → List ℕ → List ℕ → Compiled
compiled next sizes code = record { next = next; sizes = sizes; code = code }

-- ---- compile_thread: "A thread is a forever of its statement"; of a statement, "Depth at most 64". The functions' definitions
-- stand at the places ds.

unfoldable pub compile_thread : List ℕ → List ℕ → ℕ → Compiled → Compiled
compile_thread s ds thread c =
    let f = fill_forever s ds thread (fill_at s ds thread 64) (filling c.next 0 c.code) in
    compiled f.next (set c.sizes thread f.place) f.code

-- ---- compile_from: so many threads in turn, the first with this number

unfoldable pub compile_from : List ℕ → List ℕ → ℕ → ℕ → Compiled → Compiled
compile_from s ds zero thread c = c
compile_from s ds (suc n) thread c = compile_from s ds n (thread + 1) (compile_thread s ds thread c)

-- ---- compile_at: all threads, the first one's statement at `body`. A thread past the last has size 0.

-- "threads (1 to 8)"
unfoldable pub thread_count : ℕ → ℕ
thread_count threads = pick (ltb threads 8) threads 8

unfoldable pub compile_at : List ℕ → List ℕ → ℕ → ℕ → List ℕ → Compiled
compile_at s ds threads body code = compile_from s ds (thread_count threads) 0 (compiled body (replicate 8 0) code)
