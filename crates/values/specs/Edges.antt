-- Edges (document 01, "The simulation cycle"), and their numbers in a sheet ("The sheet").
use Rattle.std.specs.Prelude.{ℕ, ◌%◌, Bool, not, ◌&&◌, ◌||◌, ◌==◌}
use Rattle.values.specs.declared.Value.{Value}
use Rattle.values.specs.declared.Edge.{Edge}
use Rattle.values.specs.declared.Edge.TheVariants.{Change, Posedge, Negedge}
use Rattle.values.specs.Values.{pick, same, ◌is◌then◌else◌}

-- ---- level: a value by its lowest bit: 0, 1, or 2 for unknown. Edges 1 and 2 are awaited on variables of one bit (else 8).

unfoldable pub level : Value → ℕ
level a = pick (a.unknown % 2 == 0) (a.number % 2) 2

-- ---- moves: from one level on, or to the other

unfoldable pub moves : ℕ → ℕ → Value → Value → Bool
moves from to old new = not (level old == level new) && (level old == from || level new == to)

-- ---- fires: does a variable that held old and now holds new have the edge?
-- Document 01: "Posedge: now 1, before not 1. Negedge: now 0, before not 0." Document 02, request [2]: "IEEE 1364 has 0 to x and x to 1
-- as posedge, 1 to x and x to 0 as negedge."

unfoldable pub fires : Edge → Value → Value → Bool
fires Change old new = not (same old new)
fires Posedge old new = moves 0 1 old new
fires Negedge old new = moves 1 0 old new

-- ---- edge_of, edge_number: "edge (0 any change, 1 posedge, 2 negedge)". A sheet with a number above
-- 2 is refused (6); here it counts as 2.

unfoldable pub edge_of : ℕ → Edge
edge_of n = n is 0 then Change else n is 1 then Posedge else Negedge

unfoldable pub edge_number : Edge → ℕ
edge_number Change = 0
edge_number Posedge = 1
edge_number Negedge = 2
