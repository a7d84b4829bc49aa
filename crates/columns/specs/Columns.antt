-- The variables that a table has columns for, as a list of 80 places.
use Rattle.std.specs.Prelude.{Bool, List, [], ◌∷◌, ℕ, zero, suc, ◌+◌, ◌-◌, length, get_or, set, ltb, eqb}
use Rattle.std.proofs.lemmas.List.Edits.{sets}
use Rattle.values.specs.Values.{pick}
use Rattle.naming.specs.Naming.{name_of, same_text}
use Rattle.stimulus.specs.Counting.{counted, first_from}
use Rattle.stimulus.specs.Lines.{word_at}
use Rattle.columns.specs.declared.Choice.{Choice}

-- ---- in the sheet's order: the registers, with the inputs before them but not the clock, number 0, and with the wires behind them

unfoldable pub counting : ℕ → ℕ → List ℕ
counting zero k = []
counting (suc n) k = k ∷ counting n (k + 1)

-- Place i has variable i.
unfoldable pub in_order : List ℕ → List ℕ
in_order places = sets places 0 (counting 80 0)

-- The first column, and the one behind the last.
unfoldable pub first_of : Bool → ℕ → ℕ
first_of shown inputs = pick shown 1 inputs

unfoldable pub behind_of : Bool → ℕ → ℕ → ℕ → ℕ
behind_of shown inputs registers wires = pick shown (inputs + registers + wires) (inputs + registers)

-- ---- by their names, with commas (44) between them

-- Which of n variables has a name; n where none has.
unfoldable pub is_named : List ℕ → List ℕ → ℕ → Bool
is_named names word v = same_text (name_of names v) word

unfoldable pub variable_of : List ℕ → ℕ → List ℕ → ℕ
variable_of names n word = first_from (is_named names word) n 0

-- Where the name ends that starts at a place.
unfoldable pub is_comma : List ℕ → ℕ → Bool
is_comma word i = eqb (get_or word i 0) 44

unfoldable pub name_end : List ℕ → ℕ → ℕ
name_end word from = first_from (is_comma word) (length word - from) from

-- How many columns there are, and what is wrong: 0 nothing, 1 no such variable, 2 more than 80; with the place of that name, from 1 on.
abbrev pub choice : ℕ → ℕ → ℕ → Choice
choice count error column = record { count = count; error = error; column = column }

pub record Chosen : Type 0 where
  pub places : List ℕ
  pub choice : Choice

abbrev pub chosen : List ℕ → Choice → Chosen
chosen places c = record { places = places; choice = c }

-- At most k names more, from a place of the word on, behind those that there are.
unfoldable pub chosen_from : List ℕ → ℕ → List ℕ → ℕ → ℕ → List ℕ → ℕ → Chosen
chosen_from names n word zero from places count = chosen places (choice count 2 (counted from))
chosen_from names n word (suc k) from places count =
    let end = name_end word from in
    let v = variable_of names n (word_at word from end) in
    pick (ltb v n)
    (pick (ltb end (length word))
    (chosen_from names n word k (end + 1) (set places count v) (count + 1))
    (chosen (set places count v) (choice (count + 1) 0 0)))
    (chosen places (choice count 1 (counted from)))

unfoldable pub all_chosen : List ℕ → ℕ → List ℕ → List ℕ → Chosen
all_chosen names n word places = chosen_from names n word 80 0 places 0
