-- The node table and the rows of a whole sheet, as the code fills them: on bytes, code words and tables of any contents.
-- proofs/Rows ties them to nextstate's `threads_below`.
use Rattle.std.specs.Prelude.{ℕ, zero, suc, ◌+◌, ◌*◌, Bool, true, false, List, [], ◌∷◌, get_or, set, ltb}
use Rattle.values.specs.Values.{pick}
use Rattle.pseudocode.specs.declared.Instruction.{Instruction}
use Rattle.pseudocode.specs.declared.Instruction.TheVariants.{Wait, Act}
use Rattle.pseudocode.specs.Filling.{after}
use Rattle.pseudocode.specs.Fetching.{fetch_at}
use Rattle.masks.specs.Masks.{bits, mask, either}
use Rattle.extraction.specs.declared.Thread.{Thread}
use Rattle.extraction.specs.declared.Walked.{Walked}
use Rattle.extraction.specs.declared.Extent.{Extent}
use Rattle.extraction.specs.Emitting.{emit_words}
use Rattle.extraction.specs.Walking.{own_at, walk_at}

-- ---- first one node for each variable

unfoldable pub variables_below : ℕ → List ℕ → List ℕ
variables_below zero l = l
variables_below (suc v) l = emit_words v 0 v 0 0 (variables_below v l)

-- ---- row r: 32 register nodes, then the place

-- The registers below n.
unfoldable pub row_below : ℕ → List ℕ → ℕ → List ℕ → List ℕ
row_below r row zero l = l
row_below r row (suc n) l = set (row_below r row n l) (33 * r + n) (get_or row n 0)

unfoldable pub put_row : ℕ → Walked → List ℕ → List ℕ
put_row r w l = set (row_below r w.registers 32 l) (33 * r + 32) w.place

-- ---- the walks

-- How many nodes and rows there are, and the two tables.
pub record Filling : Type 0 where
  pub extent : Extent
  pub words : List ℕ
  pub rows : List ℕ

abbrev pub filling : Extent → List ℕ → List ℕ → Filling
filling e l rs = record { extent = e; words = l; rows = rs }

abbrev pub extent : ℕ → ℕ → Extent
extent nodes rows = record { nodes = nodes; rows = rows }

unfoldable pub waits : Instruction → Bool
waits (Wait ts) = true
waits (Act a) = false

module _ (s code : List ℕ) (t : Thread) (size : ℕ) where
  -- The walk from the wait at p, and its row.
  unfoldable pub walk_row : ℕ → Filling → Filling
  walk_row p x =
      let own = own_at t.inputs t.registers in
      let w = walk_at s code t size (after p) (own ∷ own ∷ []) x.extent.nodes x.words in
      filling (extent w.answer.count (x.extent.rows + 1)) w.words (put_row x.extent.rows w.answer x.rows)

  -- There is room for 32 rows.
  unfoldable pub walk_from_at : ℕ → Filling → Filling
  walk_from_at p x =
      pick (waits (fetch_at s code t.number p)) (pick (ltb x.extent.rows 32) (walk_row p x) x) x

  unfoldable pub walks_below_at : ℕ → Filling → Filling
  walks_below_at zero x = x
  walks_below_at (suc p) x = walk_from_at p (walks_below_at p x)

-- ---- the threads

-- By thread, the masks of the registers that it assigns plainly, and of those that it assigns later: it writes both.
unfoldable pub thread_at : ℕ → ℕ → List ℕ → List ℕ → ℕ → Thread
thread_at inputs registers plain later i =
    record {
      number = i;
      inputs = inputs;
      registers = registers;
      written = mask (either (bits (get_or plain i 0)) (bits (get_or later i 0)));
      deferred = get_or later i 0;
    }

unfoldable pub threads_below_at : List ℕ → List ℕ → List ℕ → ℕ → ℕ → List ℕ → List ℕ → ℕ → Filling → Filling
threads_below_at s code sizes inputs registers plain later zero x = x
threads_below_at s code sizes inputs registers plain later (suc i) x =
    walks_below_at s code (thread_at inputs registers plain later i) (get_or sizes i 0) (get_or sizes i 0)
    (threads_below_at s code sizes inputs registers plain later i x)
