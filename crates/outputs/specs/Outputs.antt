-- Files that a command writes, how far a text is the one that was expected, and when the command tells how far it has come.
use Rattle.std.specs.Prelude.{Bool, not, ◌&&◌, ◌||◌, List, [], ◌∷◌, ◌++◌, ℕ, suc, leb, eqb}
use Rattle.values.specs.Values.{pick}
use Rattle.writing.specs.Ascii.{ascii}
use Rattle.outputs.specs.declared.Aim.{Aim}
use Rattle.outputs.specs.declared.Aim.TheVariants.{Own, Whole, Straight}

-- ---- aim_of: a file that the command itself reads is not written. One that is not there yet, or in which there are positions, as in a
-- regular file, is written under another name and takes the old one's place when it is whole; a pipe or a device is written into.

unfoldable pub aim_of : Bool → Bool → Bool → Aim
aim_of own found sought = pick own Own (pick (found && not sought) Straight Whole)

-- ---- part_name: the name that a file has until it is whole

unfoldable pub part_name : List ℕ → List ℕ → List ℕ
part_name path id = ((path ++ ascii ".") ++ id) ++ ascii ".part"

-- ---- is_told: never where the table goes to a terminal, in which it would stand; else where it is asked for, or from cycle 10,000 on where
-- errors go to a terminal

unfoldable pub is_told : Bool → ℕ → Bool → Bool → Bool
is_told asked cycle errors table = not table && (asked || (leb 10000 cycle && errors))

-- ---- common: how many bytes in front of two texts agree

unfoldable pub common : List ℕ → List ℕ → ℕ
common [] t = 0
common (a ∷ s) [] = 0
common (a ∷ s) (b ∷ t) = pick (eqb a b) (suc (common s t)) 0
