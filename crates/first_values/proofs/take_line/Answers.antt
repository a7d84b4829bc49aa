-- `first_values::take_line` meets its contract. Assumes nothing.
use Rattle.std.proofs.Common.{◌≤◌, true, false, length, ◌∙◌, arith}
use Rattle.first_values.proofs.FirstValues.{run_inside, line-blank, line_word}
use Rattle.first_values.proofs.take_line.Goals as goal

pub returns-then-whole-eq1 : goal.returns-then-whole-eq1
returns-then-whole-eq1 c =
    c.told.ensures ∙ line-blank _ _ _ _ _ _ _ _ c.value_in-whole.ensures c.if-whole-eq1.true

pub take_word-requires : goal.take_word-requires
take_word-requires c =
    let line = c.args.line.now in
    let from = c.run_end-from.result in
    let x = run_inside true line 0 (omega arith) in
    let h : from ≤ length line = omega (arith, c.run_end-from.ensures, x.1) in
    let y = run_inside false line from h in
    (record { from_le_to = omega (arith, c.run_end-to.ensures, y.0); to_in_bounds = omega (arith, c.run_end-to.ensures, y.1) })

pub returns : goal.returns
returns c =
    c.take_word.ensures
    ∙ line_word _ _ _ _ _ _ _ _ c.value_in-whole.ensures c.if-whole-eq1.false _ _
    c.run_end-from.ensures c.run_end-to.ensures
