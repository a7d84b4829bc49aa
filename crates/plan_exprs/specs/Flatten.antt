-- The expression at a place of a sheet, laid out as nodes in a plan's words from node n on: operands first, left first.
-- Defined for any bytes; proofs/Flatten says that where the sheet's reader accepted, it lies there as `Flat` says.
use Rattle.std.specs.Prelude.{List, ℕ, zero, suc, ◌+◌, ltb, get_or, set}
use Rattle.values.specs.Values.{pick, ◌is◌then◌else◌}
use Rattle.values.specs.Operators.{unary_width, binary_width}
use Rattle.sheet.specs.Reading.{word_of}
use Rattle.plan.specs.Sections.{cells, node_place}
use Rattle.plan.specs.Plan.{width_at}
use Rattle.plan_exprs.specs.declared.Added.{Added}

-- ---- what was added, and the words after it

pub record Adding : Type 0 where
  pub added : Added
  pub words : List ℕ

abbrev pub adding : ℕ → ℕ → ℕ → ℕ → List ℕ → Adding
adding root free width next ws =
    record { added = record { root = root; free = free; width = width; next = next }; words = ws }

-- The code's answer, with the words that it leaves.
abbrev pub made : Added → List ℕ → Adding
made r ws = record { added = r; words = ws }

-- Where no expression stands.
abbrev pub none : ℕ → ℕ → Added
none p n = record { root = 0; free = n; width = 0; next = p }

-- ---- one node put at n. There are as many as cells.

unfoldable pub put_node : ℕ → ℕ → ℕ → ℕ → ℕ → List ℕ → List ℕ
put_node n k a b c ws =
    pick (ltb n cells) (set (set (set (set ws (node_place n) k) (node_place n + 1) a) (node_place n + 2) b) (node_place n + 3) c) ws

unfoldable pub more : ℕ → ℕ
more n = pick (ltb n cells) (n + 1) n

-- A node at the next free number, which is then the root.
unfoldable pub emit : ℕ → ℕ → ℕ → ℕ → ℕ → ℕ → ℕ → List ℕ → Adding
emit n k a b c width next ws = adding n (more n) width next (put_node n k a b c ws)

-- ---- add_at: the expression at p, with so many levels left

module _ (s : List ℕ) (operand : ℕ → ℕ → List ℕ → Adding) where
  unfoldable pub add_unary : ℕ → ℕ → ℕ → List ℕ → Adding
  add_unary o p n ws =
      let a = operand p n ws in
      emit a.added.free (10 + o) a.added.root 0 a.added.width (unary_width o a.added.width) a.added.next a.words

  unfoldable pub add_binary : ℕ → ℕ → ℕ → List ℕ → Adding
  add_binary o p n ws =
      let a = operand p n ws in
      let b = operand a.added.next a.added.free a.words in
      emit b.added.free (10 + o) a.added.root b.added.root a.added.width (binary_width o a.added.width)
      b.added.next b.words

  unfoldable pub add_conditional : ℕ → ℕ → List ℕ → Adding
  add_conditional p n ws =
      let c = operand p n ws in
      let a = operand c.added.next c.added.free c.words in
      let b = operand a.added.next a.added.free a.words in
      emit b.added.free 20 c.added.root a.added.root b.added.root a.added.width b.added.next b.words

  -- A variable's node is its own cell; its width stands in the plan.
  unfoldable pub add_node : ℕ → ℕ → ℕ → List ℕ → Adding
  add_node m p n ws =
      m is 0x02 then adding (get_or s (p + 1) 0) n (width_at ws (get_or s (p + 1) 0)) (p + 2) ws else
      m is 0x0C then emit n 1 0 (word_of s (p + 2)) 0 (get_or s (p + 1) 0) (p + 6) ws else
      m is 0x11 then add_unary (get_or s (p + 1) 0) (p + 2) n ws else
      m is 0x31 then add_binary (get_or s (p + 1) 0) (p + 2) n ws else
      m is 0x71 then add_conditional (p + 2) n ws else
      emit n 2 0 0 (get_or s (p + 1) 0) (get_or s (p + 1) 0) (p + 2) ws

unfoldable pub add_at : ℕ → List ℕ → ℕ → ℕ → List ℕ → Adding
add_at zero s p n ws = adding 0 n 0 p ws
add_at (suc d) s p n ws = pick (ltb p 8192) (add_node s (add_at d s) (get_or s p 0) p n ws) (adding 0 n 0 p ws)
