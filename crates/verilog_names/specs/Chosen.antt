-- Tokens of a text by their tables. A token is its number, from 0 on; what a table has of it is its entry there.
use Rattle.std.specs.Prelude.{Bool, false, List, [], ◌∷◌, ◌++◌, ℕ, zero, suc, ◌+◌, ltb, eqb, length, get_or}
use Rattle.values.specs.Values.{pick}
use Rattle.verilog_names.specs.declared.Class.{Class}
use Rattle.verilog_names.specs.declared.Class.TheVariants.{Used, Declared, Wire, Target}

-- A table has 16,385 entries.
unfoldable pub capped : ℕ → ℕ
capped n = pick (ltb n 16385) n 16385

-- Token i, where a test takes it.
unfoldable pub here : (ℕ → Bool) → ℕ → List ℕ
here test i = pick (test i) (i ∷ []) []

-- Those of n tokens, from token i on, that a test takes.
unfoldable pub chosen : (ℕ → Bool) → ℕ → ℕ → List ℕ
chosen test zero i = []
chosen test (suc n) i = here test i ++ chosen test n (i + 1)

-- ---- tests

-- 1 a name declared by `input`, 2 by `reg`, 3 by `wire`, 4 the target of an `assign`, 5 the word `always`
unfoldable pub has_role : List ℕ → ℕ → ℕ → Bool
has_role roles r i = eqb (get_or roles i 0) r

-- A name (kind 64), and not the module's own, which is token 1.
unfoldable pub is_used : List ℕ → ℕ → Bool
is_used kinds i = pick (eqb (get_or kinds i 0) 64) (ltb 1 i) false

unfoldable pub is_declared : List ℕ → ℕ → Bool
is_declared roles i = pick (eqb (get_or roles i 0) 0) false (ltb (get_or roles i 0) 4)

unfoldable pub is_in : List ℕ → List ℕ → Class → ℕ → Bool
is_in kinds roles Used i = is_used kinds i
is_in kinds roles Declared i = is_declared roles i
is_in kinds roles Wire i = has_role roles 3 i
is_in kinds roles Target i = has_role roles 4 i

-- How many of the first n tokens have a role.
abbrev pub count_of : List ℕ → ℕ → ℕ → ℕ
count_of roles n r = length (chosen (has_role roles r) n 0)
