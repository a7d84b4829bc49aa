-- How a reader of the table and the grammar's reader of tokens stand to each other: they take and refuse together, at the same token,
-- and what is read lies in the buffer behind what it held.
use Rattle.std.specs.Prelude.{◌≡◌, true, false, List, ◌∷◌, ◌++◌, map, ℕ, ◌+◌, ◌%◌, ◌≤◌, length, drop}
use Rattle.verilog_tokens.specs.Tokens.{Token}
use Rattle.verilog_tokens.specs.Table.{kind_of, number_in}
use Rattle.verilog_grammar.specs.Reader.{Res, ok, no}
use Rattle.verilog_bytes.specs.Held.{Held}
use Rattle.verilog_exprs.specs.Rows.{Wrote}

-- The tables hold these tokens: a kind and a number for each, and 0 behind the last kind.
pub record Tabled (index : List ℕ → ℕ) (ts : List Token) (kinds numbers : List ℕ) : Type 0 where
  pub few : length ts ≤ 16384
  pub other_kinds : List ℕ
  pub other_numbers : List ℕ
  pub kinds_are : kinds ≡ map kind_of ts ++ 0 ∷ other_kinds
  pub numbers_are : numbers ≡ map (number_in index) ts ++ other_numbers

-- A sheet has a byte for a variable; where a name's number passes it, its last eight bits are written.
unfoldable pub byte_of : (List ℕ → ℕ) → List ℕ → ℕ
byte_of index s = index s % 256

-- These tokens stand from a place on.
pub record From (ts : List Token) (i : ℕ) (us : List Token) : Type 0 where
  pub rest : drop i ts ≡ us
  pub count : i + length us ≡ length ts

-- Read up to these tokens: the buffer holds this list.
pub record Passed (ts : List Token) (w : Wrote) (us : List Token) (l : List ℕ) : Type 0 where
  pub yes : w.put.ok ≡ true
  pub to : From ts w.put.next us
  pub holds : Held w.bytes w.put.pos l

-- Refused where so many tokens are left.
pub record Stopped (ts : List Token) (w : Wrote) (n : ℕ) : Type 0 where
  pub not : w.put.ok ≡ false
  pub at : w.put.next + n ≡ length ts

-- What is read is written behind l.
unfoldable pub Follows : {A : Type 0} → List Token → List ℕ → (A → List ℕ) → Wrote → Res A → Type 0
Follows ts l bytes w (ok a us) = Passed ts w us (l ++ bytes a)
Follows ts l bytes w (no n) = Stopped ts w n
