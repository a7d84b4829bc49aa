-- A line of inputs: the values of inputs 1 up in their order, with blanks, or one comma and blanks, between two of them, and with a comment
-- behind them or none.
use Rattle.std.specs.Prelude.{true, false, ◌&&◌, List, ℕ, zero, suc, ◌+◌, ◌-◌, length, get_or, set, take, drop, replicate, ltb, eqb}
use Rattle.std.specs.Int.Bits.{bit_and}
use Rattle.values.specs.declared.Value.{Value}
use Rattle.values.specs.Values.{pick, known, all_unknown, fits}
use Rattle.values.specs.Planes.{number_of as number_in, marks_of}
use Rattle.stimulus.specs.declared.Class.TheVariants.{Blank, Word}
use Rattle.stimulus.specs.declared.Number.{Number}
use Rattle.stimulus.specs.declared.Bits.{Bits}
use Rattle.stimulus.specs.declared.Entry.{Entry}
use Rattle.stimulus.specs.declared.Taken.{Taken}
use Rattle.stimulus.specs.declared.Line.{Line}
use Rattle.stimulus.specs.Words.{run_end, ended}
use Rattle.stimulus.specs.Numbers.{number_of, is_x, is_hex, is_bits, quote_at, is_sized, bits_of}

-- The word from one place to another.
abbrev pub word_at : List ℕ → ℕ → ℕ → List ℕ
word_at line p to = take (to - p) (drop p line)

-- ---- entry_of: a word as a value of width w. Error 2: it is no number; 3: it is too wide.

abbrev pub entry : ℕ → ℕ → ℕ → Entry
entry error marks n = record { error = error; unknown = marks; number = n }

-- A value as an entry.
unfoldable pub admitted : ℕ → Value → Entry
admitted w a = pick (fits w a) (entry 0 (marks_of a) (number_in a)) (entry 3 0 0)

unfoldable pub fitted : ℕ → Number → Entry
fitted w a = pick a.good (pick (ltb a.n 4294967296) (admitted w (known a.n)) (entry 3 0 0)) (entry 2 0 0)

-- k digits as a value of v bits: they are at most as many.
unfoldable pub cut : ℕ → Bits → Value
cut v a =
    let m = marks_of (all_unknown v) in
    record { number = bit_and a.number m; unknown = bit_and a.marks m }

unfoldable pub sized : ℕ → ℕ → ℕ → Bits → Entry
sized w v k a = pick a.good (pick (ltb v k) (entry 3 0 0) (admitted w (cut v a))) (entry 2 0 0)

-- `W'b` and digits: W is at most 32.
unfoldable pub quoted : ℕ → Number → ℕ → Bits → Entry
quoted w v k a = pick v.good (pick (ltb v.n 33) (sized w v.n k a) (entry 3 0 0)) (entry 2 0 0)

unfoldable pub quoted_of : ℕ → List ℕ → Entry
quoted_of w word =
    let q = quote_at word in
    quoted w (number_of false (word_at word 0 q)) (length word - (q + 2)) (bits_of (drop (q + 2) word))

-- Digits without a width are as wide as the input.
unfoldable pub entry_of : ℕ → List ℕ → Entry
entry_of w word =
    pick (is_x word) (entry 0 (marks_of (all_unknown w)) 0)
    (pick (is_hex word) (fitted w (number_of true (drop 2 word)))
    (pick (is_bits word) (sized w w (length word - 1) (bits_of (drop 1 word)))
    (pick (is_sized word) (quoted_of w word)
    (fitted w (number_of false (drop 0 word))))))

-- ---- cell_at: where the value of input k stands, from the end of the one before: behind blanks, and from input 2 on behind a comma (44)

unfoldable pub cell_at : List ℕ → ℕ → ℕ → ℕ
cell_at line k at =
    let p = run_end Blank line at in
    pick (ltb k 2) p (pick (eqb (get_or line p 0) 44) (run_end Blank line (p + 1)) p)

-- ---- taken: the value at a place of the line. Error 4: there is none; 6: a comma stands there, so the cell is empty.

abbrev pub took : ℕ → ℕ → Entry → Taken
took p to e =
    record { error = e.error; column = p + 1; to = to; unknown = e.unknown; number = e.number }

unfoldable pub taken : List ℕ → ℕ → ℕ → Taken
taken line p w =
    let to = run_end Word line p in
    pick (ended line p) (took p p (entry 4 0 0))
    (pick (eqb (get_or line p 0) 44) (took p p (entry 6 0 0))
    (took p to (entry_of w (word_at line p to))))

-- ---- values_of: as many values as there are inputs behind the clock, and nothing more (error 5)

-- A row has 16 slots.
unfoldable pub slots : ℕ → ℕ
slots inputs = pick (ltb inputs 16) inputs 16

abbrev pub line_with : ℕ → ℕ → ℕ → List ℕ → List ℕ → Line
line_with error column count ns xs =
    record { error = error; column = column; count = count; value = ns; unknown = xs }

-- A value where the line should end is one too many.
unfoldable pub surplus : List ℕ → ℕ → ℕ
surplus line p = pick (ended line p) 0 5

module _ (line widths : List ℕ) where
  -- n values from input k on, from a place on, put in their slots.
  unfoldable pub values_from : ℕ → ℕ → ℕ → List ℕ → List ℕ → Line
  values_from zero k at ns xs =
      let p = run_end Blank line at in line_with (surplus line p) (p + 1) k ns xs
  values_from (suc n) k at ns xs =
      let t = taken line (cell_at line k at) (get_or widths k 0) in
      pick (eqb t.error 0)
      (values_from n (k + 1) t.to (set ns k t.number) (set xs k t.unknown))
      (line_with t.error t.column k ns xs)

  -- The clock's slot in front stays 0.
  unfoldable pub values_of : ℕ → ℕ → Line
  values_of inputs at = values_from (slots inputs - 1) 1 at (replicate 16 0) (replicate 16 0)

-- ---- line_of: a blank line or a comment is no cycle (error 1). Where there is no input but the clock, a cycle is written `-` (45).

unfoldable pub first_place : List ℕ → ℕ → ℕ → ℕ
first_place line inputs p =
    pick (ltb inputs 2) (pick (eqb (get_or line p 0) 45 && eqb (run_end Word line p) (p + 1)) (p + 1) p) p

unfoldable pub line_of : List ℕ → List ℕ → ℕ → Line
line_of line widths inputs =
    let p = run_end Blank line 0 in
    pick (ended line p)
    (line_with 1 (p + 1) 1 (replicate 16 0) (replicate 16 0))
    (values_of line widths inputs (first_place line inputs p))
