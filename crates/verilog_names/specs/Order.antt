-- The tokens in the order in which their bytes are written, from the tables: wires as declared, each with its `assign`; threads as
-- written.
use Rattle.std.specs.Prelude.{Bool, false, List, [], ◌∷◌, ℕ, ◌-◌, eqb, get_or}
use Rattle.values.specs.Values.{pick}
use Rattle.verilog_names.specs.Chosen.{chosen, has_role}

-- The first of some tokens; n where there are none.
unfoldable pub first_or : ℕ → List ℕ → ℕ
first_or n [] = n
first_or n (t ∷ ts) = t

-- The first token of a role from a token on; n where none of the first n is.
unfoldable pub next_of : List ℕ → ℕ → ℕ → ℕ → ℕ
next_of roles n r from = first_or n (chosen (has_role roles r) (n - from) from)

-- Is a token the target of an `assign` to a name? The first that is; n where none of the first n is.
unfoldable pub is_target : List ℕ → List ℕ → ℕ → ℕ → Bool
is_target ids roles x i = pick (has_role roles 4 i) (eqb (get_or ids i 0) x) false

unfoldable pub target_of : List ℕ → List ℕ → ℕ → ℕ → ℕ
target_of ids roles n x = first_or n (chosen (is_target ids roles x) n 0)
