-- `sheet::functions::read_functions` meets its contract. The table so far, filled up with what is left to read, is the whole answer. Assumes nothing.
use mathlib.Core.Path.{◌≡◌}
use Prim.Native.Nat.{◌-◌}
use mathlib.Core.List.{[]}
use lib.ListN.{length}
use Rattle.sheet.specs.Functions.{read_functions}
use Rattle.sheet.specs.Parts.{outlines, defined, functions_answer}
use Rattle.sheet.proofs.functions.read_functions.Given as goal

abbrev pub invariant-loop-k : goal.invariant-loop-k
invariant-loop-k l =
    (length l.definitions ≡ 8)
    × (functions_answer (read_functions l.count l.count [] l.sheet l.at) ≡ defined l.definitions l.k (read_functions l.count (l.count - l.k) (outlines l.sheet l.definitions l.k) l.sheet l.place))
