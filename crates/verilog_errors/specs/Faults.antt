-- Which of 43's rules a name breaks: "a name undeclared, declared twice, or an `assign` other than once to each wire". Tokens go by their
-- tables; a role is 1 to 3 where the name is declared (3 by `wire`), 4 where it is the target of an `assign` (`verilog_names`). Each rule is
-- told only where its own test holds.
use Rattle.std.specs.Prelude.{Bool, false, List, [], ◌++◌, ℕ, ltb, leb, eqb, length, get_or}
use Rattle.values.specs.Values.{pick, ◌is◌then◌else◌}
use Rattle.writing.specs.Ascii.{ascii}
use Rattle.writing.specs.Numbers.{decimal}
use Rattle.reasons.specs.Reasons.{line_of}
use Rattle.verilog_tokens.specs.Tokens.{tokens}
use Rattle.verilog_tokens.specs.Table.{kinds, numbers}
use Rattle.verilog_scan.specs.Scan.{starts, overlong}
use Rattle.verilog_names.specs.Chosen.{capped, chosen}
use Rattle.verilog_names.specs.Order.{first_or, next_of}
use Rattle.verilog_items.specs.Notes.{Notes}
use Rattle.verilog_items.specs.Items.{read_in}
use Rattle.verilog_errors.specs.declared.Broken.{Broken}
use Rattle.verilog_errors.specs.Spots.{spot_of}
use Rattle.verilog_errors.specs.Found.{quoted}
use Rattle.verilog_errors.specs.Choices.{zeros, short, table}

abbrev pub breaks : ℕ → ℕ → Broken
breaks rule first = record { rule = rule; first = first }

-- ---- the first of n tokens with a name x and a role from low to high; n where there is none

unfoldable pub is_named : List ℕ → List ℕ → ℕ → ℕ → ℕ → ℕ → Bool
is_named ids roles low high x i =
    pick (ltb (get_or roles i 0) low) false (pick (ltb high (get_or roles i 0)) false (eqb (get_or ids i 0) x))

unfoldable pub first_named : List ℕ → List ℕ → ℕ → ℕ → ℕ → ℕ → ℕ
first_named ids roles n low high x = first_or n (chosen (is_named ids roles low high x) n 0)

-- ---- the rule that token t of n breaks

module _ (ids places roles : List ℕ) (n t : ℕ) where
  -- The first token of these roles that is named as t is.
  abbrev pub namesake : ℕ → ℕ → ℕ
  namesake low high = first_named ids roles n low high (get_or ids t 0)

  -- Of the target of an `assign`: the name is no wire's, or an earlier `assign` has it.
  unfoldable pub of_target : Broken
  of_target =
      pick (leb n (namesake 3 3)) (breaks 4 0)
      (pick (ltb (namesake 4 4) t) (breaks 5 (get_or places (namesake 4 4) 0)) (breaks 0 0))

  -- Of a declared name, whose first declaration is token f: there is an earlier one, or it is a wire that no `assign` has.
  unfoldable pub of_declared : ℕ → Broken
  of_declared f =
      pick (ltb f t) (breaks 2 (get_or places f 0))
      (get_or roles t 0 is 3 then pick (leb n (namesake 4 4)) (breaks 3 0) (breaks 0 0) else breaks 0 0)

  unfoldable pub broken_by : Broken
  broken_by =
      pick (leb n (namesake 1 3)) (breaks 1 0) (get_or roles t 0 is 4 then of_target else of_declared (namesake 1 3))

-- Of the token at a place.
unfoldable pub broken_at : List ℕ → List ℕ → List ℕ → ℕ → ℕ → Broken
broken_at ids places roles n place =
    pick (leb n (next_of places n place 0)) (breaks 0 0) (broken_by ids places roles n (next_of places n place 0))

-- ---- the words: by the rule's number what stands before the name and behind it, and the first one's line

unfoldable pub opening : ℕ → List ℕ
opening rule = line_of rule (ascii "\n\n\nwire \nassign to \nwire ")

unfoldable pub closing : ℕ → List ℕ
closing rule =
    line_of rule
    (ascii "\n is not declared\n is declared twice, first at line \n has no assign\n, which is no wire\n has two assigns, first at line ")

unfoldable pub line_of_first : List ℕ → Broken → List ℕ
line_of_first text b =
    b.rule is 2 then decimal (spot_of text b.first).line else
    b.rule is 5 then decimal (spot_of text b.first).line else
    []

unfoldable pub broken_words : List ℕ → ℕ → Broken → List ℕ
broken_words text place b = ((opening b.rule ++ quoted text place) ++ closing b.rule) ++ line_of_first text b

-- ---- of a text: its tables, and what is noted while they are read

unfoldable pub count_of : List ℕ → ℕ
count_of text = short (pick (overlong text) 0 (length (tokens text)))

unfoldable pub fault_by : List ℕ → ℕ → Notes → List ℕ
fault_by text place s =
    broken_words text place
    (broken_at (table text (numbers text)) (table text (starts text)) s.roles (capped (count_of text)) place)

unfoldable pub fault_words : List ℕ → ℕ → List ℕ
fault_words text place =
    fault_by text place
    (read_in (table text (kinds text)) (table text (numbers text)) (count_of text) (zeros 65536) (zeros 16385) (zeros 16385))
