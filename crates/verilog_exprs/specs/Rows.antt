-- A table of tokens as its readers see it, and what a reader leaves.
use Rattle.std.specs.Prelude.{Bool, true, false, ◌&&◌, List, ℕ, ◌+◌, ltb, eqb, get_or}
use Rattle.values.specs.Values.{pick}
use Rattle.writing.specs.Buffer.{Text}
use Rattle.verilog_exprs.specs.declared.Put.{Put}

-- The row of a token; past the table's end 0, as behind the text's last token.
unfoldable pub row_at : List ℕ → ℕ → ℕ
row_at rows i = pick (ltb i 16385) (get_or rows i 0) 0

-- ---- what a reader leaves: whether it read, the next token's place, the position, and the buffer

abbrev pub answer : Bool → ℕ → ℕ → Put
answer ok next pos = record { ok = ok; next = next; pos = pos }

pub record Wrote : Type 0 where
  pub put : Put
  pub bytes : List ℕ

abbrev pub wrote : Put → List ℕ → Wrote
wrote a bs = record { put = a; bytes = bs }

-- A reader begins at a token's place, at a position of a buffer.
abbrev pub Step : Type 0
Step = ℕ → ℕ → List ℕ → Wrote

abbrev pub passed : Step
passed i p bs = wrote (answer true i p) bs

abbrev pub refused : Step
refused i p bs = wrote (answer false i p) bs

-- A text written, and the next place.
abbrev pub written : ℕ → Text → Wrote
written i t = passed i t.at t.bytes

-- One reader behind another: a refusal stays where it was met.
unfoldable pub and_then : Wrote → Step → Wrote
and_then w f = pick w.put.ok f refused w.put.next w.put.pos w.bytes

-- ---- a token of a kind

unfoldable pub is_at : List ℕ → ℕ → ℕ → Bool
is_at kinds k i = ltb i 16385 && eqb (get_or kinds i 0) k

unfoldable pub expected : List ℕ → ℕ → Put → Put
expected kinds k a = pick (a.ok && is_at kinds k a.next) (answer true (a.next + 1) a.pos) (answer false a.next a.pos)
