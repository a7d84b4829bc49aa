-- What is noted of a text's tokens while its module is read: the role of each, and the width of a declared name.
use Rattle.std.specs.Prelude.{Bool, true, false, List, ℕ, ltb, set}
use Rattle.values.specs.Values.{pick}
use Rattle.verilog_exprs.specs.declared.Put.{Put}
use Rattle.verilog_exprs.specs.Rows.{Wrote, wrote}

-- Roles: 1 a name declared by `input`, 2 by `reg`, 3 by `wire`, 4 the target of an `assign`, 5 the word `always`; else 0.

-- A table of 16,385 entries with one of them changed.
unfoldable pub marked : ℕ → ℕ → List ℕ → List ℕ
marked i b xs = pick (ltb i 16385) (set xs i b) xs

-- Where reading is, and the two tables.
pub record Marks : Type 0 where
  pub put : Put
  pub roles : List ℕ
  pub widths : List ℕ

abbrev pub marks : Put → List ℕ → List ℕ → Marks
marks p rs ws = record { put = p; roles = rs; widths = ws }

-- The same with the buffer, into which expressions and statements are written from its beginning and left there.
pub record Notes : Type 0 where
  pub text : Wrote
  pub roles : List ℕ
  pub widths : List ℕ

abbrev pub notes : Wrote → List ℕ → List ℕ → Notes
notes t rs ws = record { text = t; roles = rs; widths = ws }
