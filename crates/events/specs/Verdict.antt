-- How a plain run ended, as document 01's number and as a word for each case of `Verdict`.
use Rattle.std.specs.Prelude.{ℕ}
use Rattle.events.specs.declared.Verdict.{Verdict}
use Rattle.events.specs.declared.Verdict.TheVariants.{Quiet, Spent, Stopped, Refused}

-- "the number that stopped them, 0 if none did". `Stopped` is a run that a choice's number stopped, `Refused` a call that was
-- refused: "a run stopped at a choice isn't a refused call".
unfoldable pub number_of_verdict : Verdict → ℕ
number_of_verdict Quiet = 0
number_of_verdict Spent = 0
number_of_verdict (Stopped n) = n
number_of_verdict (Refused n) = n

-- 0 quiet, 1 spent, 2 stopped, 3 refused.
unfoldable pub word_of_verdict : Verdict → ℕ
word_of_verdict Quiet = 0
word_of_verdict Spent = 1
word_of_verdict (Stopped n) = 2
word_of_verdict (Refused n) = 3
