-- Samples, computed from the definitions: one input, two registers, a wire, two threads. The rows differ in a register, in a wire,
-- in a place, or nowhere; what stands past the module's counts does not matter. Assumes nothing.
use mathlib.Core.Path.{◌≡◌, refl}
use mathlib.Core.List.{List, [], ◌∷◌, ◌++◌}
use Prim.Native.Nat.{ℕ}
use lib.ListN.{replicate}
use Rattle.values.specs.Values.{known, ones, all_unknown, same}
use Rattle.values.specs.Planes.{number_of, marks_of}
use Rattle.values.specs.Cells.{number_in, marks_in, value_of, cell_at}
use Rattle.trace_row.specs.TraceRow.{place_in}
use Rattle.comparison.specs.declared.Counts.{Counts}
use Rattle.comparison.specs.declared.Difference.TheVariants.{Nowhere, Variable, Place}
use Rattle.comparison.specs.declared.Finding.TheVariants.{Same, Apart}
use Rattle.comparison.specs.declared.Verdict.TheVariants.{Agreed, Differs}
use Rattle.comparison.specs.Comparison.{values_differ, places_differ, difference, differs, finding_from, finding}
use Rattle.stimulus.specs.Counting.{counted, first_from}
use Rattle.comparison.specs.Verdicts.{verdict_from, verdict}
use Rattle.writing.specs.Ascii.{ascii}
use Rattle.writing.specs.Numbers.{digits, decimal}
use Rattle.naming.specs.Naming.{name_from, name_of}
use Rattle.binary_text.specs.BinaryText.{bit, bits, bits_of, is_known, is_x}
use Rattle.tabulate.specs.Tabulate.{numbered, lead, shown}
use Rattle.comparison.specs.Saying.{by_order, variable_line, place_line, difference_line, agreement_line, verdict_line}

abbrev counts : Counts
counts = record { inputs = 1; registers = 2; wires = 1; threads = 2 }

-- Rows: the clock, two registers, a wire, and one value past them; behind the 80 cells two places, and one past them.
abbrev sample : List ℕ → List ℕ → List ℕ
sample cells places = cells ++ replicate 75 0 ++ places

abbrev expressed : List ℕ
expressed = sample (1 ∷ 5 ∷ 7 ∷ 1 ∷ 0 ∷ []) (2 ∷ 0 ∷ 0 ∷ [])

-- Another clock, another value past the wires and another place past the threads are no difference.
pub sample-nowhere : difference counts (sample (0 ∷ 5 ∷ 7 ∷ 1 ∷ 9 ∷ []) (2 ∷ 0 ∷ 3 ∷ [])) expressed ≡ Nowhere
unfolding difference first_from values_differ places_differ cell_at value_of number_in marks_in place_in same
sample-nowhere = refl

-- A register, and after it a wire and a place: the register.
pub sample-register :
    difference counts (sample (1 ∷ 5 ∷ 6 ∷ 0 ∷ 0 ∷ []) (0 ∷ 0 ∷ 0 ∷ [])) expressed ≡ Variable 2 (known 6) (known 7)
unfolding known difference first_from values_differ places_differ cell_at value_of number_in marks_in place_in same
sample-register = refl

-- A wire that is x in one of them.
pub sample-wire :
    difference counts (sample (1 ∷ 5 ∷ 7 ∷ 4294967296 ∷ 0 ∷ []) (2 ∷ 0 ∷ 0 ∷ [])) expressed ≡ Variable 3 (all_unknown 1) (known 1)
unfolding known ones all_unknown difference first_from values_differ places_differ cell_at value_of number_in marks_in place_in same
sample-wire = refl

-- A place alone.
pub sample-place : difference counts (sample (1 ∷ 5 ∷ 7 ∷ 1 ∷ 0 ∷ []) (2 ∷ 3 ∷ 0 ∷ [])) expressed ≡ Place 1
unfolding difference first_from values_differ places_differ cell_at value_of number_in marks_in place_in same
sample-place = refl

-- Of three orders the third.
pub sample-order :
    finding counts (expressed ∷ expressed ∷ sample (1 ∷ 5 ∷ 7 ∷ 1 ∷ 0 ∷ []) (2 ∷ 3 ∷ 0 ∷ []) ∷ []) expressed ≡ Apart 2 (Place 1)
unfolding finding finding_from differs difference first_from values_differ places_differ cell_at value_of number_in marks_in place_in same
sample-order = refl

-- Two cycles agree, the third does not, and what comes after it does not matter.
pub sample-verdict : verdict (Same ∷ Same ∷ Apart 2 (Place 1) ∷ Same ∷ Apart 0 (Place 0) ∷ []) ≡ Differs 2 2 (Place 1)
unfolding verdict verdict_from counted
sample-verdict = refl

pub sample-agreed : verdict (Same ∷ Same ∷ Same ∷ []) ≡ Agreed 3
unfolding verdict verdict_from counted
sample-agreed = refl

-- ---- in words

abbrev names : List ℕ
names = 105 ∷ 48 ∷ replicate 30 0

abbrev widths : List ℕ
widths = 3 ∷ []

pub sample-words-variable :
    verdict_line widths names (Differs 2 0 (Variable 0 (all_unknown 3) (known 7)))
    ≡ ascii "cycle 2: i0 is x by the plain run and 7 by the expressions\n"
unfolding ascii verdict_line difference_line variable_line by_order shown lead numbered is_known is_x known ones all_unknown number_of marks_of decimal digits name_of name_from
sample-words-variable = refl

pub sample-words-bits :
    verdict_line widths names (Differs 2 0 (Variable 0 (known 7) (record { number = 4; unknown = 2 })))
    ≡ ascii "cycle 2: i0 is 7 by the plain run and b1x0 by the expressions\n"
unfolding ascii verdict_line difference_line variable_line by_order shown lead numbered bits_of bits bit is_known is_x known ones all_unknown number_of marks_of decimal digits name_of name_from
sample-words-bits = refl

pub sample-words-place :
    verdict_line widths names (Differs 12 2 (Place 1))
    ≡ ascii "cycle 12: thread 1 waits elsewhere by the order of seed 2 than by the expressions\n"
unfolding ascii verdict_line difference_line place_line by_order decimal digits
sample-words-place = refl

-- Agreement over two cycles, and over none.
pub sample-words-agreed :
    verdict_line widths names (Agreed 2)
    ≡ ascii "compared 2 cycles: the plain run, the orders of seeds 1 and 2 and the expressions agree in every register, wire and place\n"
unfolding ascii verdict_line agreement_line decimal digits
sample-words-agreed = refl

pub sample-words-none : verdict_line widths names (Agreed 0) ≡ ascii "there was nothing to compare: the inputs have no cycle\n"
unfolding ascii verdict_line agreement_line
sample-words-none = refl
