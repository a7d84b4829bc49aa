-- Extraction (document 01, "Extraction and the cycle run"): the nodes and rows of a module, and the call with its numbers in
-- order: "Extraction: 23, 1 to 21."
use Rattle.std.specs.Prelude.{ℕ, zero, suc, ◌+◌, Bool, ◌&&◌, List, [], ◌∷◌, ◌++◌, length, eqb}
use Rattle.values.specs.Values.{pick}
use Rattle.sheet.specs.Reading.{Res, ok, no, ◌>>=◌, ◌>>◌, check}
use Rattle.sheet.specs.Expression.{Expr}
use Rattle.sheet.specs.Module.{Module, read}
use Rattle.state.specs.Rows.{list_of}
use Rattle.events.specs.Cycle.{variables, code_of, instr_at, is_wait}
use Rattle.nextstate.specs.Rules.{rule}
use Rattle.nextstate.specs.Nodes.{Node, a_variable, all_words, padded}
use Rattle.nextstate.specs.Walk.{own_rows, walk}

-- The nodes, and the rows one after the other, 33 entries each: "Rows, by thread and wait: 32 register nodes (an unwritten
-- register's own variable; 0 past the last register), then the place."
pub record Tables : Type 0 where
  pub nodes : List Node
  pub rows : List ℕ

module _ (m : Module Expr) where
  -- "Nodes: first one per variable"
  unfoldable pub variable_nodes : List Node
  variable_nodes = list_of (variables m) a_variable

  -- "A walk goes from each wait to the next": the walk from thread i's wait at p, and its row.
  unfoldable pub walk_from : ℕ → ℕ → Tables → Res Tables
  walk_from i p T = do
    w ← walk m i (length (code_of m i)) (p + 1) (own_rows m) T.nodes
    ok (record { nodes = w.nodes; rows = T.rows ++ (w.registers ++ (w.place ∷ [])) })

  -- The walks from thread i's waits below place n.
  unfoldable pub walks_below : ℕ → ℕ → Tables → Res Tables
  walks_below i zero T = ok T
  walks_below i (suc p) T = do
    U ← walks_below i p T
    pick (is_wait (instr_at (code_of m i) p)) (walk_from i p U) (ok U)

  -- The walks of the threads below i.
  unfoldable pub threads_below : ℕ → Res Tables
  threads_below zero = ok (record { nodes = variable_nodes; rows = [] })
  threads_below (suc i) = do
    T ← threads_below i
    walks_below i (length (code_of m i)) T

  -- "Extraction only, lowest first": 12 to 20, then 21 in the walks. None of these has a place in the sheet.
  unfoldable pub extracted : Res Tables
  extracted = do
    check (eqb (rule m) 0) (rule m) 0
    threads_below (length m.threads)

-- The nodes and rows of a sheet, or the number of its refusal, 1 to 21.
unfoldable pub expressions : List ℕ → Res Tables
expressions s = do
  m ← read s
  extracted m

-- ---- the call, on the lent words

pub record Extracted : Type 0 where
  pub number : ℕ
  pub nodes : List ℕ
  pub rows : List ℕ

-- "The caller lends 16,384 words and 1,056 words; what isn't filled is set to 0." Refused, "lent words keep their contents".
unfoldable pub filled : Res Tables → List ℕ → List ℕ → Extracted
filled (ok T) ns rs = record { number = 0; nodes = padded 16384 (all_words T.nodes); rows = padded 1056 T.rows }
filled (no n p) ns rs = record { number = n; nodes = ns; rows = rs }

-- "23 a lent table of another length."
unfoldable pub right_lengths : List ℕ → List ℕ → Bool
right_lengths ns rs = eqb (length ns) 16384 && eqb (length rs) 1056

unfoldable pub extract : List ℕ → List ℕ → List ℕ → Extracted
extract s ns rs = pick (right_lengths ns rs) (filled (expressions s) ns rs) (record { number = 23; nodes = ns; rows = rs })
