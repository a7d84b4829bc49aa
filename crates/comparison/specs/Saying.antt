-- A verdict in words.
use Rattle.std.specs.Prelude.{List, [], ◌++◌, ℕ, get_or}
use Rattle.values.specs.declared.Value.{Value}
use Rattle.values.specs.Values.{◌is◌then◌else◌}
use Rattle.writing.specs.Ascii.{ascii}
use Rattle.writing.specs.Numbers.{decimal}
use Rattle.naming.specs.Naming.{name_of}
use Rattle.tabulate.specs.Tabulate.{shown}
use Rattle.comparison.specs.declared.Difference.{Difference}
use Rattle.comparison.specs.declared.Difference.TheVariants.{Nowhere, Variable, Place}
use Rattle.comparison.specs.declared.Verdict.{Verdict}
use Rattle.comparison.specs.declared.Verdict.TheVariants.{Agreed, Differs}

-- ---- by_order: order 0 is the plain run, order k that of seed k

unfoldable pub by_order : ℕ → List ℕ
by_order k = k is 0 then ascii " by the plain run" else (ascii " by the order of seed " ++ decimal k)

-- ---- difference_line

-- In decimal, or bit by bit in the width of the variable.
unfoldable pub variable_line : List ℕ → List ℕ → ℕ → ℕ → Value → Value → List ℕ
variable_line widths names k v a b =
    let w = get_or widths v 0 in
    name_of names v ++ ascii " is " ++ shown 10 w a ++ by_order k ++ ascii " and " ++ shown 10 w b ++ ascii " by the expressions\n"

unfoldable pub place_line : ℕ → ℕ → List ℕ
place_line k i = ascii "thread " ++ decimal i ++ ascii " waits elsewhere" ++ by_order k ++ ascii " than by the expressions\n"

unfoldable pub difference_line : List ℕ → List ℕ → ℕ → Difference → List ℕ
difference_line widths names k Nowhere = []
difference_line widths names k (Variable v a b) = variable_line widths names k v a b
difference_line widths names k (Place i) = place_line k i

-- ---- verdict_line

-- Over no cycle nothing agrees.
unfoldable pub agreement_line : ℕ → List ℕ
agreement_line n =
    n is 0 then ascii "there was nothing to compare: the inputs have no cycle\n"
    else (ascii "compared " ++ decimal n ++ ascii " cycles: the plain run, the orders of seeds 1 and 2 and the expressions"
    ++ ascii " agree in every register, wire and place\n")

unfoldable pub verdict_line : List ℕ → List ℕ → Verdict → List ℕ
verdict_line widths names (Agreed n) = agreement_line n
verdict_line widths names (Differs n k d) = ascii "cycle " ++ decimal n ++ ascii ": " ++ difference_line widths names k d
