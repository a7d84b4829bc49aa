-- Samples, computed from the definitions: two registers, a table of three rows. Assumes nothing.
use mathlib.Core.Path.{◌≡◌, refl}
use mathlib.Core.List.{List}
use Prim.Native.Nat.{ℕ}
use lib.ListN.{replicate}
use Rattle.writing.specs.Ascii.{ascii}
use Rattle.naming.specs.Naming.{name_from, name_of, padded, renamed, same_text}
use Rattle.stimulus.specs.Counting.{first_from}
use Rattle.labels.specs.Labels.{is_other, is_taken, mark, right, named}

abbrev table : List ℕ
table = replicate 96 0

-- A name that no variable has, and one that another has.
of-a-name : (named table 1 (ascii "on") 1 4).mark ≡ right
unfolding ascii name_from name_of same_text first_from is_other is_taken named
of-a-name = refl

of-the-same-name : (named (renamed table 1 (ascii "on")) 2 (ascii "on") 2 4).mark ≡ mark 4 2 4
unfolding ascii name_from name_of padded renamed same_text first_from is_other is_taken named
of-the-same-name = refl

-- A variable may keep its name.
of-its-own-name : (named (renamed table 1 (ascii "on")) 1 (ascii "on") 2 4).mark ≡ right
unfolding ascii name_from name_of padded renamed same_text first_from is_other is_taken named
of-its-own-name = refl
