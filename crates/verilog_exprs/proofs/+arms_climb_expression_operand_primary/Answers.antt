-- The expression and its parts meet their contracts: `arms`, `climb`, `expression`, `operand`, `primary`. Fuel falls, or the turns left.
-- Assumes nothing.
use mathlib.Core.Path.{sym, ◌∙◌}
use native.Mathlib.Nat.{pos_of_ne-zero}
use native.Mathlib.Omega.{arith}
use borrow.Author.Rules.{rules}
use borrow.Author.Tests.{not-true, not-false}
use Rattle.verilog_exprs.proofs.Table.{row_inside, then-no, then-yes}
use Rattle.verilog_exprs.proofs.Exprs.{precedence-few, operator-inside, weight-falls, primary-brackets, primary-atom}
use Rattle.verilog_exprs.proofs.Exprs.{operand-complement, operand-negation, operand-plain}
use Rattle.verilog_exprs.proofs.Exprs.{climb-spent, climb-none, climb-looser, climb-join, arms-closer, arms_none, arms-choice}
use Rattle.verilog_exprs.proofs.Exprs.{expr-spent, expr-more}
use Rattle.verilog_exprs.proofs.+arms_climb_expression_operand_primary.Goals as goal

pub arms-overflow_add-i : goal.arms-overflow_add-i
arms-overflow_add-i t c =
    let a = c.args in
    let h = row_inside a.kinds.now a.at.next 32 _ c.kind_at-k.ensures c.if-k.false (omega arith) in
    omega arith

pub climb-overflow_add-i : goal.climb-overflow_add-i
climb-overflow_add-i t c =
    let a = c.args in
    let h = operator-inside a.kinds.now a.at.next _ _ c.kind_at-k.ensures c.precedence_of-o.ensures
    c.if-o-eq0.false in
    omega arith

pub climb-overflow_add-o : goal.climb-overflow_add-o
climb-overflow_add-o t c =
    omega (arith, c.precedence_of-o.ensures, precedence-few c.kind_at-k.result)

pub climb-overflow_sub-turns : goal.climb-overflow_sub-turns
climb-overflow_sub-turns t c =
    pos_of_ne-zero c.if-turns-eq0.false

pub expression-returns-then-fuel-eq0 : goal.expression-returns-then-fuel-eq0
expression-returns-then-fuel-eq0 t c =
    let a = c.args in
    expr-spent a.kinds.now a.numbers.now a.fuel a.level a.i a.pos a.out.now c.if-fuel-eq0.true

pub expression-operand-a-requires : goal.expression-operand-a-requires
expression-operand-a-requires t c =
    let h = weight-falls c.args.fuel c.if-fuel-eq0.false
    c.ranges.fuel.fits in search rules

pub expression-climb-b-requires : goal.expression-climb-b-requires
expression-climb-b-requires t c =
    let h = weight-falls c.args.fuel c.if-fuel-eq0.false c.ranges.fuel.fits in search rules

pub expression-arms-requires : goal.expression-arms-requires
expression-arms-requires t c =
    let h = weight-falls c.args.fuel c.if-fuel-eq0.false c.ranges.fuel.fits in search rules

pub expression-returns : goal.expression-returns
expression-returns t c =
    let a = c.args in
    c.arms.ensures
    ∙ expr-more a.kinds.now a.numbers.now a.fuel a.level a.i a.pos a.out.now _ _ c.if-fuel-eq0.false
    c.operand-a.ensures
    c.climb-b.ensures

pub operand-overflow_add-i : goal.operand-overflow_add-i
operand-overflow_add-i t c =
    let a = c.args in
    let h = row_inside a.kinds.now a.i 33 _ c.kind_at-k.ensures c.if-k.true (omega arith) in
    omega arith

pub operand-returns-then-k : goal.operand-returns-then-k
operand-returns-then-k t c =
    let a = c.args in
    c.primary.ensures
    ∙ operand-complement a.kinds.now a.numbers.now _ a.i a.pos a.out.now c.kind_at-k.ensures _ _ _
    c.if-k.true
    c.put_pair-p.ensures

pub operand-overflow_add-i-then-k-2 : goal.operand-overflow_add-i-then-k-2
operand-overflow_add-i-then-k-2 t c =
    let a = c.args in
    let h = row_inside a.kinds.now a.i 34 _ c.kind_at-k.ensures c.if-k-2.true (omega arith) in
    omega arith

pub operand-returns-then-k-2 : goal.operand-returns-then-k-2
operand-returns-then-k-2 t c =
    let a = c.args in
    c.primary-then-k-2.ensures
    ∙ operand-negation a.kinds.now a.numbers.now _ a.i a.pos a.out.now c.kind_at-k.ensures _ _ _
    c.if-k-2.true
    c.put_pair-p-then-k-2.ensures

pub operand-returns : goal.operand-returns
operand-returns t c =
    let a = c.args in
    c.primary-2.ensures
    ∙ operand-plain a.kinds.now a.numbers.now _ a.i a.pos a.out.now c.kind_at-k.ensures _
    c.if-k.false c.if-k-2.false

pub primary-overflow_add-i : goal.primary-overflow_add-i
primary-overflow_add-i t c =
    let a = c.args in
    let h = row_inside a.kinds.now a.i 20 _ c.kind_at-k.ensures c.if-k.true (omega arith) in
    omega arith

pub primary-returns-then-k : goal.primary-returns-then-k
primary-returns-then-k t c =
    let a = c.args in
    primary-brackets a.kinds.now a.numbers.now _ a.i a.pos a.out.now c.kind_at-k.ensures _ _ _ _
    c.if-k.true
    c.expression-e.ensures c.expect.ensures

pub primary-returns : goal.primary-returns
primary-returns t c =
    let a = c.args in
    c.atom.ensures ∙ primary-atom a.kinds.now a.numbers.now _ a.i a.pos a.out.now c.kind_at-k.ensures _
    c.if-k.false

pub climb-returns : goal.climb-returns
climb-returns t c =
    let a = c.args in
    c.climb.ensures
    ∙ climb-join a.kinds.now a.numbers.now _ a.at a.out.now (not-false _ c.if-not-at.false) a.level a.from
    a.turns _ _
    c.if-turns-eq0.false c.kind_at-k.ensures c.precedence_of-o.ensures _ _ _ _ c.if-o-eq0.false
    c.if-o-level.false c.operator_of.ensures
    c.put_pair_front-p.ensures c.expression-r.ensures

pub climb-returns-then-o-level : goal.climb-returns-then-o-level
climb-returns-then-o-level t c =
    let a = c.args in
    climb-looser a.kinds.now a.numbers.now _ a.at a.out.now (not-false _ c.if-not-at.false) a.level a.from
    a.turns _ _
    c.if-turns-eq0.false c.kind_at-k.ensures c.precedence_of-o.ensures c.if-o-eq0.false c.if-o-level.true

pub climb-returns-then-o-eq0 : goal.climb-returns-then-o-eq0
climb-returns-then-o-eq0 t c =
    let a = c.args in
    climb-none a.kinds.now a.numbers.now _ a.at a.out.now (not-false _ c.if-not-at.false) a.level a.from
    a.turns _ _
    c.if-turns-eq0.false c.kind_at-k.ensures c.precedence_of-o.ensures c.if-o-eq0.true

pub climb-returns-then-turns-eq0 : goal.climb-returns-then-turns-eq0
climb-returns-then-turns-eq0 t c =
    let a = c.args in
    climb-spent a.kinds.now a.numbers.now _ a.at a.out.now (not-false _ c.if-not-at.false) a.level a.from
    a.turns c.if-turns-eq0.true

pub climb-returns-then-not-at : goal.climb-returns-then-not-at
climb-returns-then-not-at t c =
    then-no c.args.at c.args.out.now _ (not-true _ c.if-not-at.true)

pub arms-returns : goal.arms-returns
arms-returns t c =
    let a = c.args in
    c.expression.ensures
    ∙ sym (then-yes _ _ _ (not-false _ c.if-not-c.false))
    ∙ arms-choice a.kinds.now a.numbers.now _ a.at a.out.now (not-false _ c.if-not-at.false) a.level a.from _
    c.if-level-gt1.false
    c.kind_at-k.ensures _ _ _ _ _ c.if-k.false c.put_pair_front-p.ensures
    c.expression-a.ensures c.expect-c.ensures

pub arms-returns-then-not-c : goal.arms-returns-then-not-c
arms-returns-then-not-c t c =
    let a = c.args in
    then-no _ _ _ (not-true _ c.if-not-c.true)
    ∙ arms-choice a.kinds.now a.numbers.now _ a.at a.out.now (not-false _ c.if-not-at.false) a.level a.from _
    c.if-level-gt1.false
    c.kind_at-k.ensures _ _ _ _ _ c.if-k.false c.put_pair_front-p.ensures
    c.expression-a.ensures c.expect-c.ensures

pub arms-returns-then-k : goal.arms-returns-then-k
arms-returns-then-k t c =
    let a = c.args in
    arms_none a.kinds.now a.numbers.now _ a.at a.out.now (not-false _ c.if-not-at.false) a.level a.from _
    c.if-level-gt1.false
    c.kind_at-k.ensures c.if-k.true

pub arms-returns-then-level-gt1 : goal.arms-returns-then-level-gt1
arms-returns-then-level-gt1 t c =
    let a = c.args in
    arms-closer a.kinds.now a.numbers.now _ a.at a.out.now (not-false _ c.if-not-at.false) a.level a.from
    c.if-level-gt1.true

pub arms-returns-then-not-at : goal.arms-returns-then-not-at
arms-returns-then-not-at t c =
    then-no c.args.at c.args.out.now _ (not-true _ c.if-not-at.true)
