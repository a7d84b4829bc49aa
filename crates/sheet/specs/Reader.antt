-- What the Reader's functions give. A Reader is the sheet's bytes together with the next place in them.
use Rattle.std.specs.Prelude.{ℕ, ◌+◌, ◌-◌, ◌^◌, List, [], length, ltb, leb, eqb}
use Rattle.std.specs.Borrow.{Bor}
use Rattle.values.specs.Values.{pick}
use Rattle.sheet.specs.Reading.{Res, ok, no, ◌>>=◌, ◌>>◌, check, within, word_at}
use Rattle.sheet.specs.Expression.{located}
use Rattle.sheet.specs.Statement.{Stmt}
use Rattle.sheet.specs.Functions.{read_widths, Defined, read_functions}
use Rattle.sheet.specs.Module.{Listed, inputs_of, first_at, function_count, widths_at, Head, read_head, with_functions, read_wires, read_threads}
use Rattle.sheet.specs.Answers.{sheet_answer}
use Rattle.sheet.specs.Parts.{byte_answer, head_answer, functions_answer}
use Rattle.sheet.specs.declared.Reader.{Reader}
use Rattle.sheet.specs.declared.ByteRead as ByteRead
use Rattle.sheet.specs.declared.WordRead as WordRead
use Rattle.sheet.specs.declared.ExprRead as ExprRead
use Rattle.sheet.specs.declared.HeadRead as HeadRead
use Rattle.sheet.specs.declared.PlaceRead as PlaceRead
use Rattle.sheet.specs.declared.WiresRead.{WiresRead}
use Rattle.sheet.specs.declared.FunctionsRead.{FunctionsRead}
use Rattle.sheet.specs.declared.SheetRead.{SheetRead}

-- The Reader of a sheet, at a place.
abbrev pub reader_at : Bor (List ℕ) → ℕ → Reader
reader_at sheet p = record { sheet = sheet; at = p }

-- ---- a number of four bytes

unfoldable pub word_answer : Res ℕ → WordRead.WordRead
word_answer (ok v) = WordRead.TheVariants.Word v
word_answer (no n p) = WordRead.TheVariants.Refused n p

-- ---- a constant: what its width and its value gave; the value's place, and the next

unfoldable pub constant_from : ℕ → ℕ → ByteRead.ByteRead → WordRead.WordRead → ExprRead.ExprRead
constant_from place next (ByteRead.TheVariants.Refused n p) value = ExprRead.TheVariants.Refused n p
constant_from place next (ByteRead.TheVariants.Byte w) (WordRead.TheVariants.Refused n p) = ExprRead.TheVariants.Refused n p
constant_from place next (ByteRead.TheVariants.Byte w) (WordRead.TheVariants.Word v) =
    pick (ltb v (2 ^ w)) (ExprRead.TheVariants.Read next w) (ExprRead.TheVariants.Refused 6 place)

abbrev pub constant_at : List ℕ → ℕ → ℕ → ℕ → ExprRead.ExprRead
constant_at s width value next = constant_from value next (byte_answer (within 1 32 6 s width)) (word_answer (word_at s value))

-- ---- the counts, from a place on

-- "At most 8,192 bytes" is judged before anything is read.
unfoldable pub sized : List ℕ → Res (Unit {0})
sized s = check (leb (length s) 8192) 1 8192

-- The last count, that of the functions, and the clock's width; the others were read.
unfoldable pub read_clock : List ℕ → ℕ → ℕ → ℕ → ℕ → ℕ → Res HeadRead.HeadRead
read_clock s p b r w t = do
  n ← function_count b s (p + 4)
  c ← within 1 1 4 s (p + widths_at n)
  ok (HeadRead.TheVariants.Read (inputs_of b) r w t n)

unfoldable pub read_counts : List ℕ → ℕ → Res HeadRead.HeadRead
read_counts s p = do
  sized s
  b ← first_at s p
  r ← within 1 32 3 s (p + 1)
  w ← within 0 32 3 s (p + 2)
  t ← within 1 8 3 s (p + 3)
  read_clock s p b r w t

unfoldable pub counts_answer : Res HeadRead.HeadRead → HeadRead.HeadRead
counts_answer (ok h) = h
counts_answer (no n p) = HeadRead.TheVariants.Refused n p

abbrev pub counts_from : List ℕ → ℕ → HeadRead.HeadRead
counts_from s p = counts_answer (read_counts s p)

-- ---- the widths, from a place up to where the head ends

-- The place behind the clock's width, and the place behind a head; a refused one has none, and no widths are read.
unfoldable pub other_widths : HeadRead.HeadRead → ℕ
other_widths (HeadRead.TheVariants.Read i r w t n) = widths_at n + 1
other_widths (HeadRead.TheVariants.Refused n p) = 0

unfoldable pub head_end : HeadRead.HeadRead → ℕ
head_end (HeadRead.TheVariants.Read i r w t n) = widths_at n + i + r + w
head_end (HeadRead.TheVariants.Refused n p) = 0

unfoldable pub judged : HeadRead.HeadRead → Res (List ℕ) → HeadRead.HeadRead
judged h (ok ws) = h
judged h (no n p) = HeadRead.TheVariants.Refused n p

abbrev pub widths_from : List ℕ → ℕ → HeadRead.HeadRead → HeadRead.HeadRead
widths_from s p h = judged h (read_widths (head_end h - p) s p)

-- ---- the head of a sheet

unfoldable pub sheet_head : List ℕ → Res Head
sheet_head s = do
  sized s
  read_head s

abbrev pub head_read : List ℕ → HeadRead.HeadRead
head_read s = head_answer (sheet_head s)

-- ---- the functions, from a place on

unfoldable pub functions_from : List ℕ → ℕ → Res Defined
functions_from s p = do
  h ← sheet_head s
  read_functions h.scope.declared h.scope.declared [] s p

-- Those of the sheet stand behind its head.
unfoldable pub functions_read : List ℕ → Res Defined
functions_read s = functions_from s (head_end (head_read s))

-- ---- where a row ends; a refused one has no end

unfoldable pub place_end : PlaceRead.PlaceRead → ℕ
place_end (PlaceRead.TheVariants.At p) = p
place_end (PlaceRead.TheVariants.Refused n p) = 0

-- ---- the wires, from a place on

unfoldable pub wires_from : List ℕ → ℕ → Res (Listed ℕ)
wires_from s p = do
  fs ← functions_read s
  h ← sheet_head s
  read_wires (located s) (with_functions h.scope fs.functions) s h.wires (h.scope.inputs + h.scope.registers) p

abbrev pub functions_end : FunctionsRead → ℕ
functions_end all = place_end all.read

-- Those of the sheet stand behind its functions.
unfoldable pub wires_read : List ℕ → Res (Listed ℕ)
wires_read s = wires_from s (functions_end (functions_answer (functions_read s)))

abbrev pub row_end : WiresRead → ℕ
row_end row = place_end row.read

-- ---- the threads, from a place on

unfoldable pub threads_from : List ℕ → ℕ → Res (Listed (Stmt ℕ))
threads_from s p = do
  es ← wires_read s
  fs ← functions_read s
  h ← sheet_head s
  read_threads (located s) (with_functions h.scope fs.functions) s h.threads p

-- ---- the answer: what was read, the place of the first thread, what the threads gave, and the sheet's length

unfoldable pub finished_of : HeadRead.HeadRead → FunctionsRead → WiresRead → ℕ → PlaceRead.PlaceRead → ℕ → SheetRead
finished_of head all row body (PlaceRead.TheVariants.Refused n p) size = sheet_answer (no n p)
finished_of head all row body (PlaceRead.TheVariants.At e) size = pick (eqb e size) (made head) (sheet_answer (no 10 e))
  where
    made : HeadRead.HeadRead → SheetRead
    made (HeadRead.TheVariants.Refused n p) = sheet_answer (no n p)
    made (HeadRead.TheVariants.Read i r w t n) =
        record {
          number = 0;
          place = 0;
          layout =
              record {
                inputs = i;
                registers = r;
                wires = w;
                threads = t;
                functions = n;
                widths = widths_at n;
                definitions = all.definitions;
                starts = row.starts;
                body = body;
              };
        }
