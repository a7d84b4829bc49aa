-- Operators and constants as Verilog writes them, computed.
use mathlib.Core.Path.{◌≡◌, refl}
use mathlib.Core.List.{◌++◌}
use Rattle.writing.specs.Ascii.{ascii}
use Rattle.writing.specs.Numbers.{decimal, digits}
use Rattle.signs.specs.Signs.{sign, lead, constant_text, unknown_text}

sum : lead 6 2 ++ (ascii "a" ++ (lead 6 1 ++ ascii "b")) ≡ ascii "a + b"
unfolding lead sign ascii
sum = refl

complement : lead 1 1 ++ ascii "a" ≡ ascii "~a"
unfolding lead sign ascii
complement = refl

choice : lead 10 3 ++ (ascii "c" ++ (lead 10 2 ++ (ascii "a" ++ (lead 10 1 ++ ascii "b")))) ≡ ascii "c ? a : b"
unfolding lead sign ascii
choice = refl

five : constant_text 8 5 ≡ ascii "8'd5"
unfolding constant_text ascii decimal digits
five = refl

unknown : unknown_text 32 ≡ ascii "32'bx"
unfolding unknown_text ascii decimal digits
unknown = refl
