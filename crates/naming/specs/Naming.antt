-- Names of variables: the plain ones, and a table that a user's names are kept in.
-- Variables are numbered inputs, registers, wires, in that order.
use Rattle.std.specs.Prelude.{ℕ, zero, suc, ◌+◌, ◌-◌, ◌*◌, ◌/◌, ◌%◌, Bool, true, false, List, [], ◌∷◌, ◌++◌, get_or, take, ltb, eqb}
use Rattle.std.proofs.lemmas.List.Edits.{sets}
use Rattle.values.specs.Values.{pick}
use Rattle.writing.specs.Ascii.{byte}
use Rattle.writing.specs.Numbers.{decimal}

-- ---- plain_name: i0, i1, .. r0, r1, .. w0, w1, ..

unfoldable pub plain_mark : ℕ → ℕ → ℕ → ℕ
plain_mark inputs registers v =
    pick (ltb v inputs) (byte "i") (pick (ltb v (inputs + registers)) (byte "r") (byte "w"))

unfoldable pub plain_number : ℕ → ℕ → ℕ → ℕ
plain_number inputs registers v =
    pick (ltb v inputs) v (pick (ltb v (inputs + registers)) (v - inputs) (v - (inputs + registers)))

unfoldable pub plain_name : ℕ → ℕ → ℕ → List ℕ
plain_name inputs registers v = plain_mark inputs registers v ∷ decimal (plain_number inputs registers v)

-- ---- name_of: a table has 80 rows of 32 bytes; a name ends before the first 0 of its row; past the table there is none

-- The bytes from place i on before the first 0, at most k.
unfoldable pub name_from : ℕ → List ℕ → ℕ → List ℕ
name_from zero names i = []
name_from (suc k) names i = pick (eqb (get_or names i 0) 0) [] (get_or names i 0 ∷ name_from k names (i + 1))

unfoldable pub name_of : List ℕ → ℕ → List ℕ
name_of names v = pick (ltb v 80) (name_from 32 names (v * 32)) []

-- ---- plain_table: byte k of the table is byte k % 32 of the plain name of variable k / 32, 0 behind the name's end

unfoldable pub plain_byte : ℕ → ℕ → ℕ → ℕ
plain_byte inputs registers k = get_or (plain_name inputs registers (k / 32)) (k % 32) 0

-- So many bytes of it from byte k on.
unfoldable pub plain_bytes : ℕ → ℕ → ℕ → ℕ → List ℕ
plain_bytes inputs registers zero k = []
plain_bytes inputs registers (suc n) k = plain_byte inputs registers k ∷ plain_bytes inputs registers n (k + 1)

unfoldable pub plain_table : ℕ → ℕ → List ℕ
plain_table inputs registers = plain_bytes inputs registers 2560 0

-- A table that the plain one is stored into, byte by byte. A table of 2,560 bytes becomes the plain one.
unfoldable pub plainly : List ℕ → ℕ → ℕ → List ℕ
plainly names inputs registers = sets names 0 (plain_table inputs registers)

-- ---- renamed: row v holds the first 31 bytes of a name, zeros behind; past the table nothing changes

-- The first n bytes of a text, zeros behind its end.
unfoldable pub padded : ℕ → List ℕ → List ℕ
padded zero t = []
padded (suc n) [] = 0 ∷ padded n []
padded (suc n) (b ∷ t) = b ∷ padded n t

unfoldable pub renamed : List ℕ → ℕ → List ℕ → List ℕ
renamed names v name = pick (ltb v 80) (sets names (v * 32) (padded 32 (take 31 name))) names

-- ---- within: how many of n variables the table has rows for

unfoldable pub within : ℕ → ℕ
within n = pick (ltb n 80) n 80

-- ---- texts: the texts of n variables from variable v on, one after the other

unfoldable pub texts : (ℕ → List ℕ) → ℕ → ℕ → List ℕ
texts text zero v = []
texts text (suc n) v = text v ++ texts text n (v + 1)

-- ---- same_text: are two texts equal?

unfoldable pub same_text : List ℕ → List ℕ → Bool
same_text [] [] = true
same_text [] (b ∷ t) = false
same_text (a ∷ s) [] = false
same_text (a ∷ s) (b ∷ t) = pick (eqb a b) (same_text s t) false
