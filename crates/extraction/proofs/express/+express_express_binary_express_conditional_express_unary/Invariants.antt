-- An expression's nodes are made by four functions that call each other; each meets its contract.
-- The measure goes by the depth: an expression of depth d hands its operands on at depth d - 1. Assumes nothing.
use Prim.Native.Nat.{◌+◌, ◌*◌}
use mathlib.Core.Path.{refl}
use Rattle.extraction.proofs.Emitting.{unary-path, binary-path, conditional-path, express-deep, express-end}
use Rattle.extraction.proofs.Emitting.{at-variable, at_constant, at-unknown, at-unary, at-binary, at-conditional, at_none}
use Prim.Native.Nat.{ℕ, ◌<◌}
use borrow.Author.Rules.{rules}
use Rattle.extraction.proofs.express.+express_express_binary_express_conditional_express_unary.Given as goal

abbrev pub decreases-express : goal.decreases-express
decreases-express l = 2 * l.depth

abbrev pub decreases-express_binary : goal.decreases-express_binary
decreases-express_binary l = 2 * l.depth + 1

abbrev pub decreases-express_conditional : goal.decreases-express_conditional
decreases-express_conditional l = 2 * l.depth + 1

abbrev pub decreases-express_unary : goal.decreases-express_unary
decreases-express_unary l = 2 * l.depth + 1
