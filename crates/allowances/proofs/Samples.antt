-- Words of a command line, computed.
use mathlib.Core.Path.{◌≡◌, refl}
use mathlib.Core.Bool.{true}
use mathlib.Core.List.{[], ◌∷◌}
use Rattle.hextext.specs.Characters.{digit_of}
use Rattle.writing.specs.Ascii.{ascii}
use Rattle.allowances.specs.Allowances.{user_of, nothing, spoilt, digit_taken, comma_taken, taken, taken_all, allowances, refused, allowed_by, allowances_of}

four : allowances_of (ascii "100,20,0,4294967295") ≡ allowances true (100 ∷ 20 ∷ 0 ∷ 4294967295 ∷ [])
unfolding allowances_of allowed_by taken_all taken digit_taken comma_taken nothing digit_of ascii
four = refl

-- A number of more than 32 bits, three numbers, five, one that is empty, another character.
long : allowances_of (ascii "1,2,3,4294967296") ≡ refused
unfolding allowances_of allowed_by taken_all taken digit_taken comma_taken spoilt nothing digit_of ascii
long = refl

three : allowances_of (ascii "1,2,3") ≡ refused
unfolding allowances_of allowed_by taken_all taken digit_taken comma_taken spoilt nothing digit_of ascii
three = refl

five : allowances_of (ascii "1,2,3,4,5") ≡ refused
unfolding allowances_of allowed_by taken_all taken digit_taken comma_taken spoilt nothing digit_of ascii
five = refl

empty : allowances_of (ascii "1,,3,4") ≡ refused
unfolding allowances_of allowed_by taken_all taken digit_taken comma_taken spoilt nothing digit_of ascii
empty = refl

other : allowances_of (ascii "1,2,x,4") ≡ refused
unfolding allowances_of allowed_by taken_all taken digit_taken comma_taken spoilt nothing digit_of ascii
other = refl

-- A number that is no byte's is a user that there isn't.
none : user_of 256 ≡ 255
unfolding user_of
none = refl
