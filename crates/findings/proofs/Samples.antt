-- Samples, computed from the definitions: a register that a wire reads, a wire that reads a higher one, the walk that asks for one node
-- more. Assumes nothing.
use mathlib.Core.Path.{◌≡◌, refl}
use mathlib.Core.Bool.{Bool, true, false}
use Prim.Native.Nat.{ℕ}
use Rattle.writing.specs.Ascii.{ascii}
use Rattle.writing.specs.Numbers.{digits, decimal}
use Rattle.witness.specs.declared.Witness.{Witness}
use Rattle.findings.specs.Findings.{other_words, register_words, wait_words, clock_words, thread_words, rest_words, witness_words}

abbrev sample : ℕ → Bool → Witness
sample n t = record { number = n; thread = 1; other = 2; register = 3; wired = t; wire = 4; above = 5; place = 16 }

of-a-reader : witness_words (sample 14 true) ≡ ascii "register r3 is written by = in thread 1 and read by wire w4"
unfolding ascii digits decimal other_words register_words witness_words
of-a-reader = refl

of-wires : witness_words (sample 19 true) ≡ ascii "wire w4 reads w5"
unfolding ascii digits decimal rest_words witness_words
of-wires = refl

of-a-walk : witness_words (sample 21 false) ≡ ascii "the walk from the wait at thread 1, place 16 asks for one more"
unfolding ascii digits decimal wait_words rest_words witness_words
of-a-walk = refl
