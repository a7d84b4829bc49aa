-- Expressions read from a table of tokens and written as a sheet has them, for tables of any contents. One definition for each of
-- the grammar's readers (verilog_grammar, specs/Reader), in its order; an operator is put in front of its first
-- operand.
use Rattle.std.specs.Prelude.{Bool, false, List, [], ◌∷◌, ℕ, zero, suc, ◌+◌, ◌%◌, leb, eqb}
use Rattle.values.specs.Values.{pick, ◌is◌then◌else◌}
use Rattle.writing.specs.Buffer.{filled, puts}
use Rattle.verilog_grammar.specs.Meaning.{up_to}
use Rattle.verilog_bytes.specs.Turning.{fronted}
use Rattle.verilog_exprs.specs.Rows.{row_at, wrote, Step, passed, refused, written, and_then, expected}
use Rattle.verilog_exprs.specs.Constants.{constant_bytes}

-- ---- operators by the kind of their sign: + 38, - 39, < 31, == 29, & 35, ^ 37, | 36

-- Table 5-4; 0 for what is no binary operator.
unfoldable pub precedence_of : ℕ → ℕ
precedence_of k =
    k is 38 then 7 else
    k is 39 then 7 else
    k is 31 then 6 else
    k is 29 then 5 else
    k is 35 then 4 else
    k is 37 then 3 else
    k is 36 then 2 else
    0

-- "3 &, 4 |, 5 ^, 6 +, 7 -, 8 ==, 9 <"
unfoldable pub operator_of : ℕ → ℕ
operator_of k =
    k is 38 then 6 else
    k is 39 then 7 else
    k is 31 then 9 else
    k is 29 then 8 else
    k is 35 then 3 else
    k is 37 then 5 else
    4

-- Does an operator of this kind bind at this level or closer?
unfoldable pub binds : ℕ → ℕ → Bool
binds level k = pick (eqb (precedence_of k) 0) false (leb level (precedence_of k))

module _ (kinds numbers : List ℕ) where
  -- ---- primaries

  -- The value behind a size: known (67) or not (68).
  unfoldable pub value_at : ℕ → Step
  value_at width i p bs =
      row_at kinds i is 67 then written (i + 1) (puts (filled bs p) (constant_bytes width (row_at numbers i))) else
      row_at kinds i is 68 then written (i + 1) (puts (filled bs p) (0x04 ∷ width ∷ [])) else
      refused i p bs

  -- A name (64), or a size (65) and its value.
  unfoldable pub atom_at : Step
  atom_at i p bs =
      row_at kinds i is 64 then written (i + 1) (puts (filled bs p) (0x02 ∷ row_at numbers i % 256 ∷ [])) else
      row_at kinds i is 65 then value_at (up_to 32 (row_at numbers i)) (i + 1) p bs else
      refused i p bs

  -- `inner` reads an expression of a level.
  module _ (inner : ℕ → Step) where
    unfoldable pub brackets_at : Step
    brackets_at i p bs = let e = inner 1 (i + 1) p bs in wrote (expected kinds 21 e.put) e.bytes

    unfoldable pub primary_at : Step
    primary_at i = pick (eqb (row_at kinds i) 20) brackets_at atom_at i

    -- ---- unary operators: ~ 33, ! 34

    unfoldable pub prefix_at : ℕ → Step
    prefix_at o i p bs = let t = puts (filled bs p) (0x11 ∷ o ∷ []) in primary_at (i + 1) t.at t.bytes

    unfoldable pub operand_at : Step
    operand_at i = pick (eqb (row_at kinds i) 33) (prefix_at 1) (pick (eqb (row_at kinds i) 34) (prefix_at 2) primary_at) i

    -- ---- binary operators; the first operand was written from a position on

    unfoldable pub join_at : Step → ℕ → Step
    join_at again from i p bs =
        let t = fronted from (0x31 ∷ operator_of (row_at kinds i) ∷ []) (filled bs p) in
        and_then (inner (precedence_of (row_at kinds i) + 1) (i + 1) t.at t.bytes) again

    unfoldable pub climb_at : ℕ → ℕ → ℕ → Step
    climb_at zero level from = refused
    climb_at (suc g) level from =
        λ i. pick (binds level (row_at kinds i)) (join_at (climb_at g level from) from) passed i

    -- ---- the arms of ?: (? 32, : 24)

    unfoldable pub choice_at : ℕ → Step
    choice_at from i p bs =
        let t = fronted from (0x71 ∷ 10 ∷ []) (filled bs p) in
        let a = inner 1 (i + 1) t.at t.bytes in
        and_then (wrote (expected kinds 24 a.put) a.bytes) (inner 1)

    unfoldable pub arms_at : ℕ → ℕ → Step
    arms_at level from i = pick (leb level 1) (pick (eqb (row_at kinds i) 32) (choice_at from) passed) passed i

  -- ---- an expression of a level or closer, with so much fuel

  unfoldable pub expr_at : ℕ → ℕ → Step
  expr_at zero level = refused
  expr_at (suc f) level = λ i p bs.
      and_then (and_then (operand_at (expr_at f) i p bs) (climb_at (expr_at f) (suc f) level p)) (arms_at (expr_at f) level p)
