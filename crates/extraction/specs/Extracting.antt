-- The whole of extraction as the code makes it, from a sheet that was read, and what it answers. proofs/Extracting ties it to
-- nextstate's `expressions` and `extract`.
use Rattle.std.specs.Prelude.{ℕ, ◌+◌, ◌≤◌, ◌≡◌, List, replicate}
use Rattle.sheet.specs.declared.Layout.{Layout}
use Rattle.sheet.specs.Reading.{Res, ok, no}
use Rattle.tables.specs.Readers.{at_most}
use Rattle.rules.specs.Writers.{plain_below, later_below}
use Rattle.nextstate.specs.Nodes.{all_words, padded}
use Rattle.nextstate.specs.Extraction.{Tables}
use Rattle.extraction.specs.Filling.{Filling, filling, extent, variables_below, threads_below_at}

-- One node for each variable, then the walks of all threads.
unfoldable pub fill_at : List ℕ → Layout → List ℕ → List ℕ → List ℕ → List ℕ → Filling
fill_at s y code sizes l rs =
    let n = y.inputs + y.registers + y.wires in
    threads_below_at s code sizes y.inputs y.registers
    (plain_below s code sizes y.inputs (at_most 8 y.threads) (replicate 8 0))
    (later_below s code sizes y.inputs (at_most 8 y.threads) (replicate 8 0))
    (at_most 8 y.threads) (filling (extent n 0) (variables_below n l) rs)

-- The number, 0 or a refusal's, and where it is 0 the two tables.
unfoldable pub Answers : Res Tables → ℕ → List ℕ → List ℕ → Type 0
Answers (ok T) r ns rs = (r ≡ 0) × (ns ≡ padded 16384 (all_words T.nodes)) × (rs ≡ padded 1056 T.rows)
Answers (no n p) r ns rs = (r ≡ n) × (1 ≤ n)

-- The number of a refusal, else 0.
unfoldable pub number_in : Res Tables → ℕ
number_in (ok T) = 0
number_in (no n p) = n
