-- Words and characters as ASCII bytes.
use Rattle.std.specs.Prelude.{ℕ, List, [] as nil, ◌∷◌ as cons}
use Prim.Native.Char.{Char, code}
use Prim.Native.String.{String, [], ◌∷◌}

-- The bytes of a word.
unfoldable pub ascii : String → List ℕ
ascii [] = nil
ascii (c ∷ s) = cons (code c) (ascii s)

-- The byte of a character.
abbrev pub byte : Char → ℕ
byte c = code c
