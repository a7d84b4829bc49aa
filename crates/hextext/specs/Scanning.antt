-- A scan of hex text, one character a step. Where it stands is the crate's struct Scan: the line and the column of the next
-- character, or between the two digits of a byte those of the first; whether it is in a comment; whether a first digit waits for
-- its second, and its value; how many bytes are whole; the error, 0 for none.
use Rattle.std.specs.Prelude.{Bool, true, false, List, [], ◌∷◌, ℕ, ◌+◌, ltb}
use Rattle.values.specs.Values.{pick, ◌is◌then◌else◌}
use Rattle.hextext.specs.declared.Scan.{Scan}
use Rattle.hextext.specs.Characters.{digit_of, is_digit, is_blank}

-- ---- more: one more. Lines, columns and bytes are counted up to 4,294,967,295.

unfoldable pub more : ℕ → ℕ
more n = pick (ltb n 4294967295) (n + 1) n

-- ---- where a scan starts, and where a character takes it

unfoldable pub start : Scan
start = record { line = 1; column = 1; comment = false; half = false; high = 0; count = 0; error = 0 }

unfoldable pub next_line : Scan → Scan
next_line s =
    record {
      line = more s.line;
      column = 1;
      comment = false;
      half = s.half;
      high = s.high;
      count = s.count;
      error = s.error;
    }

-- Past a character that is skipped: is what follows in a comment?
unfoldable pub along : Bool → Scan → Scan
along comment s =
    record {
      line = s.line;
      column = more s.column;
      comment = comment;
      half = s.half;
      high = s.high;
      count = s.count;
      error = s.error;
    }

unfoldable pub first : ℕ → Scan → Scan
first d s =
    record {
      line = s.line;
      column = s.column;
      comment = s.comment;
      half = true;
      high = d;
      count = s.count;
      error = s.error;
    }

unfoldable pub second : Scan → Scan
second s =
    record {
      line = s.line;
      column = more (more s.column);
      comment = s.comment;
      half = false;
      high = s.high;
      count = more s.count;
      error = s.error;
    }

unfoldable pub failed : ℕ → Scan → Scan
failed error s =
    record {
      line = s.line;
      column = s.column;
      comment = s.comment;
      half = s.half;
      high = s.high;
      count = s.count;
      error = error;
    }

-- ---- step: a comment goes from `#` (35) to LF (10); the two digits of a byte stand together (else error 2); besides digits there
-- are only blanks, line ends and comments (else error 1)

unfoldable pub step : Scan → ℕ → Scan
step s b =
    pick s.comment
    (b is 10 then next_line s else along true s)
    (pick s.half
    (pick (is_digit b) (second s) (failed 2 s))
    (pick (is_digit b)
    (first (digit_of b) s)
    (b is 10 then next_line s else
    b is 35 then along true s else
    pick (is_blank b) (along false s) (failed 1 s))))

-- ---- scan: step after step over the characters, up to where it stops

unfoldable pub scan : (Scan → Bool) → Scan → List ℕ → Scan
scan stop s [] = s
scan stop s (b ∷ bs) = pick (stop s) s (scan stop (step s b) bs)
