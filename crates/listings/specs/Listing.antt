-- The listing as a call on a lent buffer: "A module sheet, of any bytes at all, is read whole or refused with the number that document
-- 01 gives. .. A refused call alters nothing". The words of a refusal are the program's to print.
use Rattle.std.specs.Prelude.{List, ℕ, length}
use Rattle.std.proofs.lemmas.List.Edits.{sets}
use Rattle.sheet.specs.Reading.{Res, ok, no}
use Rattle.sheet.specs.Expression.{Expr}
use Rattle.sheet.specs.Module.{Module}
use Rattle.text.specs.Listing.{listing}
use Rattle.listings.specs.declared.Listed.{Listed}

-- The call's answer: the refusal's number, 0 where the sheet is read, and the length of its listing.
unfoldable pub listed : Res (Module Expr) → Listed
listed (ok m) = record { number = 0; length = length (listing m) }
listed (no n p) = record { number = n; length = 0 }

-- What the buffer holds then: the listing in front, the rest as it was; refused, as it was.
unfoldable pub laid_in : List ℕ → Res (Module Expr) → List ℕ
laid_in text (ok m) = sets text 0 (listing m)
laid_in text (no n p) = text
