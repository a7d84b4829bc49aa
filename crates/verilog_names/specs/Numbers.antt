-- Variables by number, from the tables: "variables number as declared within their kind", inputs, registers, wires.
use Rattle.std.specs.Prelude.{List, [], ◌∷◌, ◌++◌, ℕ, zero, suc, ◌+◌, ltb, eqb, length, get_or, set, replicate}
use Rattle.std.proofs.lemmas.List.Edits.{sets}
use Rattle.values.specs.Values.{pick}
use Rattle.verilog_grammar.specs.Meaning.{up_to}
use Rattle.verilog_names.specs.Chosen.{chosen, has_role}

-- The tokens that declare variables, in the order of their numbers.
unfoldable pub ordered : List ℕ → ℕ → List ℕ
ordered roles n = chosen (has_role roles 1) n 0 ++ chosen (has_role roles 2) n 0 ++ chosen (has_role roles 3) n 0

-- The place in a list of tokens of the first that is named so; the list's length where none is.
unfoldable pub place_of : List ℕ → List ℕ → ℕ → ℕ
place_of ids [] x = 0
place_of ids (t ∷ ts) x = pick (eqb (get_or ids t 0) x) 0 (suc (place_of ids ts x))

-- A table by id has room for those below 16,385.
unfoldable pub entry : List ℕ → ℕ → ℕ → List ℕ
entry table id v = pick (ltb id 16385) (set table id v) table

-- Numbers from one on for the names of some tokens, entered in a table by id, the last first: of those with one id the first stays.
unfoldable pub entered : List ℕ → List ℕ → ℕ → List ℕ → List ℕ
entered ids [] first table = table
entered ids (t ∷ ts) first table = entry (entered ids ts (suc first) table) (get_or ids t 0) (up_to 255 first)

-- The variables' numbers by id; an id that no variable has stands for the number behind the last.
unfoldable pub by_id : List ℕ → List ℕ → ℕ → List ℕ
by_id ids roles n = entered ids (ordered roles n) 0 (replicate 16385 (up_to 255 (length (ordered roles n))))

-- A name's token has its variable's number, any other what it had.
unfoldable pub number_at : List ℕ → List ℕ → List ℕ → ℕ → ℕ → ℕ
number_at kinds ids roles n i =
    pick (eqb (get_or kinds i 0) 64) (up_to 255 (place_of ids (ordered roles n) (get_or ids i 0))) (get_or ids i 0)

-- m tokens from token i on.
unfoldable pub numbers_from : List ℕ → List ℕ → List ℕ → ℕ → ℕ → ℕ → List ℕ
numbers_from kinds ids roles n zero i = []
numbers_from kinds ids roles n (suc m) i = number_at kinds ids roles n i ∷ numbers_from kinds ids roles n m (i + 1)

-- A table in front of which they are stored.
unfoldable pub numbered : List ℕ → List ℕ → List ℕ → ℕ → List ℕ → List ℕ
numbered kinds ids roles n table = sets table 0 (numbers_from kinds ids roles n n 0)
