-- An expression's nodes are made by four functions that call each other; each meets its contract.
-- The measure goes by the depth: an expression of depth d hands its operands on at depth d - 1. Assumes nothing.
use Prim.Native.Nat.{◌+◌, ◌*◌}
use mathlib.Core.Path.{refl}
use Rattle.extraction.proofs.Emitting.{unary-path, binary-path, conditional-path, express-deep, express-end}
use Rattle.extraction.proofs.Emitting.{at-variable, at_constant, at-unknown, at-unary, at-binary, at-conditional, at_none}
use Prim.Native.Nat.{ℕ, ◌<◌}
use borrow.Author.Rules.{rules}
use Rattle.extraction.proofs.express.+express_express_binary_express_conditional_express_unary.Goals as goal

pub express-returns-then-depth-eq0 : goal.express-returns-then-depth-eq0
express-returns-then-depth-eq0 t c =
    express-deep _ _ _ _ _ _ c.if-depth-eq0.true c.unmade.ensures

pub express-returns-then-sheet-at : goal.express-returns-then-sheet-at
express-returns-then-sheet-at t c =
    express-end _ _ _ _ _ _ c.if-depth-eq0.false c.if-sheet-at.true c.unmade-then-sheet-at.ensures

pub express-returns-in-2 : goal.express-returns-in-2
express-returns-in-2 t c =
    at-variable _ _ _ _ _ _ c.if-depth-eq0.false c.in-2.is c.byte_at-op.ensures c.held_node.ensures

pub express-returns-in-12 : goal.express-returns-in-12
express-returns-in-12 t c =
    at_constant _ _ _ _ _ _ c.if-depth-eq0.false c.in-12.is c.byte_at-op.ensures c.express_constant.ensures

pub express-returns-in-4 : goal.express-returns-in-4
express-returns-in-4 t c =
    at-unknown _ _ _ _ _ _ c.if-depth-eq0.false c.in-4.is c.byte_at-op.ensures c.word.ensures c.make.ensures

pub express-returns-in-17 : goal.express-returns-in-17
express-returns-in-17 t c =
    at-unary _ _ _ _ _ _ c.if-depth-eq0.false c.in-17.is c.byte_at-op.ensures c.express_unary.ensures

pub express-returns-in-49 : goal.express-returns-in-49
express-returns-in-49 t c =
    at-binary _ _ _ _ _ _ c.if-depth-eq0.false c.in-49.is c.byte_at-op.ensures c.express_binary.ensures

pub express-returns-in-113 : goal.express-returns-in-113
express-returns-in-113 t c =
    at-conditional _ _ _ _ _ _ c.if-depth-eq0.false c.in-113.is c.byte_at-op.ensures c.express_conditional.ensures

pub express-returns-in_default : goal.express-returns-in_default
express-returns-in_default t c =
    let r = c.in_default.in_default-own.rest in
    at_none _ _ _ _ _ _ c.if-depth-eq0.false refl c.byte_at-op.ensures r.0.0.0.0.0.1 r.0.0.0.0.1 r.0.0.0.1 r.0.0.1
    r.0.1 r.1 c.unmade-in_default.ensures

pub express_binary-returns : goal.express_binary-returns
express_binary-returns t c =
    binary-path _ _ _ _ _ c.express-a.ensures c.express-b.ensures c.word.ensures c.make.ensures

pub express_conditional-returns : goal.express_conditional-returns
express_conditional-returns t c =
    conditional-path _ _ _ _ c.express-c.ensures c.express-a.ensures c.express-b.ensures c.make.ensures

pub express_unary-returns : goal.express_unary-returns
express_unary-returns t c =
    unary-path _ _ _ _ _ c.express-a.ensures c.word.ensures c.make.ensures
