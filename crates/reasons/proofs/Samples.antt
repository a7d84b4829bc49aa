-- The table's lines stand at their numbers: computed.
use mathlib.Core.Path.{◌≡◌, refl}
use mathlib.Core.List.{[]}
use Rattle.writing.specs.Ascii.{ascii}
use Rattle.reasons.specs.Reasons.{first_line, other_lines, line_of, refusals, permissions, reason, allowed}

first : reason 1 ≡ ascii "the sheet is over 8,192 bytes"
unfolding reason line_of first_line other_lines refusals ascii
first = refl

twelve : reason 12 ≡ ascii "two threads write one register"
unfolding reason line_of first_line other_lines refusals ascii
twelve = refl

full : reason 36 ≡ ascii "the time or a module's turns are full"
unfolding reason line_of first_line other_lines refusals ascii
full = refl

names : reason 43 ≡ ascii "a name is undeclared or declared twice, or a wire has not one assign"
unfolding reason line_of first_line other_lines refusals ascii
names = refl

no-user : reason 46 ≡ ascii "there is no such user"
unfolding reason line_of first_line other_lines refusals ascii
no-user = refl

used-up : reason 47 ≡ ascii "the user's allowance of choices is used up"
unfolding reason line_of first_line other_lines refusals ascii
used-up = refl

last : reason 49 ≡ ascii "the last-served number is outside the list"
unfolding reason line_of first_line other_lines refusals ascii
last = refl

none : reason 50 ≡ []
unfolding reason line_of first_line other_lines refusals ascii
none = refl

nineteen : allowed 19 ≡ ascii "wires that read inputs, registers and lower wires"
unfolding allowed line_of first_line other_lines permissions ascii
nineteen = refl

users : allowed 46 ≡ ascii "users 0 to 3"
unfolding allowed line_of first_line other_lines permissions ascii
users = refl

served : allowed 49 ≡ ascii "a number below the list's length"
unfolding allowed line_of first_line other_lines permissions ascii
served = refl
