use mathlib.Core.Path.{refl}
use borrow.Author.Tests.{not-true, not-false}
use Rattle.verilog_stmts.proofs.StmtPaths as paths
use Rattle.verilog_stmts.proofs.+block_block_rest_case_items_case_statement_conditional_defaulted_items_behind_labelled_or_null_statement.Goals as goal

pub block-returns-then-turns-eq0 : goal.block-returns-then-turns-eq0
block-returns-then-turns-eq0 t c =
    paths.block_none _ _ _ _ _ _ _ _ c.left-turns.ensures c.if-turns-eq0.true (rw (← c.refused.ensures) refl)

pub block-returns-then-is_next : goal.block-returns-then-is_next
block-returns-then-is_next t c =
    paths.block-empty _ _ _ _ _ _ _ _ c.left-turns.ensures
    c.if-turns-eq0.false c.is_next.ensures
    c.if-is_next.true c.after.ensures c.write.ensures

pub block-returns : goal.block-returns
block-returns t c =
    paths.block-first _ _ _ _ _ _ _ _ c.left-turns.ensures
    c.if-turns-eq0.false c.is_next.ensures
    c.if-is_next.false c.statement-b.ensures c.block_rest.ensures

pub block_rest-returns-then-turns-eq0 : goal.block_rest-returns-then-turns-eq0
block_rest-returns-then-turns-eq0 t c =
    paths.rest-none _ _ _ _ _ _ _ _ _ _ c.if-turns-eq0.true (rw (← c.refused.ensures) refl)

pub block_rest-returns-then-not-at : goal.block_rest-returns-then-not-at
block_rest-returns-then-not-at t c =
    paths.rest-failed _ _ _ _ _ _ _ _ _ _ c.if-turns-eq0.false
    (not-true c.args.at.ok c.if-not-at.true) refl

pub block_rest-returns-then-is_next : goal.block_rest-returns-then-is_next
block_rest-returns-then-is_next t c =
    paths.rest_end _ _ _ _ _ _ _ _ _ _ c.if-turns-eq0.false
    (not-false c.args.at.ok c.if-not-at.false)
    c.is_next.ensures c.if-is_next.true (rw (← c.after.ensures) refl)

pub block_rest-returns : goal.block_rest-returns
block_rest-returns t c =
    paths.rest-again _ _ _ _ _ _ _ _ _ _ c.if-turns-eq0.false
    (not-false c.args.at.ok
    c.if-not-at.false)
    c.is_next.ensures
    c.if-is_next.false c.front-a.ensures
    c.statement-b.ensures c.block_rest.ensures

pub case_items-returns-then-turns-eq0 : goal.case_items-returns-then-turns-eq0
case_items-returns-then-turns-eq0 t c =
    paths.items-none _ _ _ _ _ _ _ _ _ _ c.if-turns-eq0.true (rw (← c.refused.ensures) refl)

pub case_items-returns-then-not-at : goal.case_items-returns-then-not-at
case_items-returns-then-not-at t c =
    paths.items-failed _ _ _ _ _ _ _ _ _ _ c.if-turns-eq0.false
    (not-true c.args.at.ok c.if-not-at.true) refl

pub case_items-returns-then-c : goal.case_items-returns-then-c
case_items-returns-then-c t c =
    paths.item-second _ _ _ _ _ _ _ _ _ _ c.if-turns-eq0.false
    (not-false c.args.at.ok c.if-not-at.false)
    c.is_next.ensures c.if-is_next.true c.if-c.true
    (rw (← c.refused-then-c.ensures) refl)

pub case_items-returns-then-is_next : goal.case_items-returns-then-is_next
case_items-returns-then-is_next t c =
    paths.item-default _ _ _ _ _ _ _ _ _ _ c.if-turns-eq0.false
    (not-false c.args.at.ok
    c.if-not-at.false)
    c.is_next.ensures c.if-is_next.true
    c.if-c.false c.defaulted-d.ensures c.items_behind.ensures

pub case_items-returns : goal.case_items-returns
case_items-returns t c =
    paths.item-label _ _ _ _ _ _ _ _ _ _ c.if-turns-eq0.false
    (not-false c.args.at.ok
    c.if-not-at.false) c.is_next.ensures
    c.if-is_next.false c.labelled-l.ensures c.items_behind-2.ensures

pub case_statement-returns : goal.case_statement-returns
case_statement-returns t c =
    paths.case-path _ _ _ _ _ _ _ _ c.after-a.ensures
    c.after-b.ensures c.subject-c.ensures c.left.ensures
    c.case_items.ensures

pub conditional-returns-then-is_next : goal.conditional-returns-then-is_next
conditional-returns-then-is_next t c =
    paths.if-else _ _ _ _ _ _ _ _
    c.after.ensures
    c.write-a.ensures
    c.condition-c.ensures
    c.or_null-b.ensures
    c.is_next.ensures c.if-is_next.true
    c.stamp.ensures c.after-then-is_next.ensures c.or_null.ensures

pub conditional-returns : goal.conditional-returns
conditional-returns t c =
    paths.if-only _ _ _ _ _ _ _ _ c.after.ensures
    c.write-a.ensures c.condition-c.ensures
    c.or_null-b.ensures c.is_next.ensures c.if-is_next.false refl

pub defaulted-returns-then-is_next : goal.defaulted-returns-then-is_next
defaulted-returns-then-is_next t c =
    paths.default-colon _ _ _ _ _ _ _ _ c.after-a.ensures
    c.is_next.ensures c.if-is_next.true c.after.ensures
    c.or_null.ensures

pub defaulted-returns : goal.defaulted-returns
defaulted-returns t c =
    paths.default-plain _ _ _ _ _ _ _ _ c.after-a.ensures c.is_next.ensures
    c.if-is_next.false c.or_null-2.ensures

pub items_behind-returns-then-is_next : goal.items_behind-returns-then-is_next
items_behind-returns-then-is_next t c =
    paths.items-end _ _ _ _ _ _ _ _ _ _ c.is_next.ensures c.if-is_next.true c.case_end.ensures

pub items_behind-returns : goal.items_behind-returns
items_behind-returns t c =
    paths.items_more _ _ _ _ _ _ _ _ _ _ c.is_next.ensures c.if-is_next.false
    c.case_items.ensures

pub labelled-returns : goal.labelled-returns
labelled-returns t c =
    paths.label-path _ _ _ _ _ _ _ _ _ c.heading-a.ensures
    c.label-l.ensures c.expect-b.ensures c.or_null.ensures

pub or_null-returns-then-is_next : goal.or_null-returns-then-is_next
or_null-returns-then-is_next t c =
    paths.null-taken _ _ _ _ _ _ _ _ c.is_next.ensures c.if-is_next.true
    c.after.ensures c.write.ensures

pub or_null-returns : goal.or_null-returns
or_null-returns t c =
    paths.null-left _ _ _ _ _ _ _ _ c.is_next.ensures c.if-is_next.false c.statement.ensures

pub statement-returns-then-fuel-eq0 : goal.statement-returns-then-fuel-eq0
statement-returns-then-fuel-eq0 t c =
    paths.stmt-none _ _ _ _ _ _ _ _ c.if-fuel-eq0.true (rw (← c.refused.ensures) refl)

pub statement-returns-then-not-at : goal.statement-returns-then-not-at
statement-returns-then-not-at t c =
    paths.stmt-failed _ _ _ _ _ _ _ _ c.if-fuel-eq0.false
    (not-true c.args.at.ok c.if-not-at.true) refl

pub statement-returns-in-10 : goal.statement-returns-in-10
statement-returns-in-10 t c =
    paths.stmt-if _ _ _ _ _ _ _ _ c.if-fuel-eq0.false
    (not-false c.args.at.ok c.if-not-at.false)
    c.kind_at.ensures c.in-10.is c.conditional.ensures

pub statement-returns-in-12 : goal.statement-returns-in-12
statement-returns-in-12 t c =
    paths.stmt-case _ _ _ _ _ _ _ _ c.if-fuel-eq0.false
    (not-false c.args.at.ok c.if-not-at.false)
    c.kind_at.ensures c.in-12.is c.case_statement.ensures

pub statement-returns-in-15 : goal.statement-returns-in-15
statement-returns-in-15 t c =
    paths.stmt-while _ _ _ _ _ _ _ _
    c.if-fuel-eq0.false
    (not-false c.args.at.ok
    c.if-not-at.false)
    c.kind_at.ensures
    c.in-15.is c.after.ensures
    c.write-a.ensures c.condition-c.ensures c.statement.ensures

pub statement-returns-in-16 : goal.statement-returns-in-16
statement-returns-in-16 t c =
    paths.stmt-forever _ _ _ _ _ _ _ _ c.if-fuel-eq0.false
    (not-false c.args.at.ok
    c.if-not-at.false)
    c.kind_at.ensures c.in-16.is
    c.after-in-16.ensures c.write-a-in-16.ensures c.statement-in-16.ensures

pub statement-returns-in-27 : goal.statement-returns-in-27
statement-returns-in-27 t c =
    paths.stmt-wait _ _ _ _ _ _ _ _ c.if-fuel-eq0.false
    (not-false c.args.at.ok
    c.if-not-at.false) c.kind_at.ensures
    c.in-27.is c.control-c.ensures c.or_null.ensures

pub statement-returns-in-8 : goal.statement-returns-in-8
statement-returns-in-8 t c =
    paths.stmt-block _ _ _ _ _ _ _ _ c.if-fuel-eq0.false
    (not-false c.args.at.ok
    c.if-not-at.false) c.kind_at.ensures
    c.in-8.is c.after-in-8.ensures c.block.ensures

pub statement-returns-in_default : goal.statement-returns-in_default
statement-returns-in_default t c =
    let r = c.in_default.in_default-own.rest in
    paths.stmt-assign _ _ _ _ _ _ _ _ c.if-fuel-eq0.false
    (not-false c.args.at.ok c.if-not-at.false)
    c.kind_at.ensures r.0.0.0.0.0.1 r.0.0.0.0.1 r.0.0.0.1 r.0.0.1 r.0.1 r.1
    c.assignment.ensures
