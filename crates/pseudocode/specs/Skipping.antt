-- Where an expression of the sheet ends, found without reading it again: the maps tell how many bytes and operands follow,
-- and a called function's definition how many arguments.
-- Defined for any bytes; proofs/Skipping says that it is the reader's next place wherever the reader accepts.
use Rattle.std.specs.Prelude.{ℕ, zero, suc, ◌+◌, List, [], get_or, ltb}
use Rattle.values.specs.Values.{pick}
use Rattle.sheet.specs.Reading.{Res, ok, no}
use Rattle.sheet.specs.Expression.{Scope, Kind, a_variable, a_constant, an_unknown, a_unary, a_binary, a_conditional, a_call, kind_of}
use Rattle.sheet.specs.Parts.{scope_of, least}

-- A scope in which every map of an expression is allowed, a call's too.
abbrev pub every_map : Scope
every_map = scope_of 0 0 [] 1 []

-- ---- argument_count: how many arguments a call of function n has, where the definitions stand at these places.
-- Document 02, [5]: "Each function gives its parameter count (1 to 4)"; "a count of functions (1 to 8)": past them there are none.

unfoldable pub argument_count : List ℕ → List ℕ → ℕ → ℕ
argument_count s ds n = pick (ltb n 8) (least (get_or s (get_or ds n 0) 0) 4) 0

-- ---- skip_arguments: the place after n arguments, the first at p. `operand` gives the place after an operand.

unfoldable pub skip_arguments : (ℕ → ℕ) → ℕ → ℕ → ℕ
skip_arguments operand zero p = p
skip_arguments operand (suc n) p = skip_arguments operand n (operand p)

-- ---- skip_node: the place after the node whose map stands at p.
-- "Expression bits: 0 operator byte; 1 variable byte; 2 constant's width; 3 constant's value (4 bytes); 4, 5, 6 operands."
-- Document 02, [5]: "expression map 80h holds a function number .., then the arguments".

module _ (s ds : List ℕ) where
  unfoldable pub skip_node : (ℕ → ℕ) → ℕ → Res Kind → ℕ
  skip_node operand p (ok a_variable) = p + 2
  skip_node operand p (ok a_constant) = p + 6
  skip_node operand p (ok an_unknown) = p + 2
  skip_node operand p (ok a_unary) = operand (p + 2)
  skip_node operand p (ok a_binary) = operand (operand (p + 2))
  skip_node operand p (ok a_conditional) = operand (operand (operand (p + 2)))
  skip_node operand p (ok a_call) = skip_arguments operand (argument_count s ds (get_or s (p + 1) 0)) (p + 2)
  skip_node operand p (no n q) = p

-- ---- skip_at: the place after the expression at p, with so many levels left.
-- "At most 8,192 bytes": past them nothing is skipped.

unfoldable pub skip_at : ℕ → List ℕ → List ℕ → ℕ → ℕ
skip_at zero s ds p = p
skip_at (suc d) s ds p = pick (ltb p 8192) (skip_node s ds (skip_at d s ds) p (kind_of every_map (get_or s p 0) p)) p
