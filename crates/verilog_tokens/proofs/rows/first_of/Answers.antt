-- `verilog_tokens::rows::first_of` meets its contract. The loop's invariant: the first row that fits is one from `i` on.
-- Assumes nothing.
use mathlib.Core.Path.{refl, sym, ◌∙◌}
use native.Mathlib.Omega.{arith}
use Rattle.verilog_tokens.specs.declared.Class.TheVariants.{Comment}
use Rattle.verilog_tokens.proofs.Runs.{run-after, run_inside}
use Rattle.verilog_tokens.proofs.Tables.{first_done, first-here, first_next, first-last}
use Rattle.verilog_tokens.proofs.rows.first_of.Goals as goal

pub loop-i-init : goal.loop-i-init
loop-i-init c =
    refl

pub slice_bounds-opens_with-count : goal.slice_bounds-opens_with-count
slice_bounds-opens_with-count c =
    let a = c.args in
    let l = c.loop-i in
    let r-run-end = c.run_end-end in
    omega (arith, run-after Comment a.table.now l.i, r-run-end.ensures)

pub slice_bounds-opens_with-start : goal.slice_bounds-opens_with-start
slice_bounds-opens_with-start c =
    let a = c.args in
    let l = c.loop-i in
    let t = c.loop-i-test in
    let r-run-end = c.run_end-end in
    omega (
      arith,
      run_inside Comment a.table.now l.i (omega (arith, t.true)),
      run-after Comment a.table.now l.i,
      r-run-end.ensures,
    )

pub slice_bounds-opens_with-end : goal.slice_bounds-opens_with-end
slice_bounds-opens_with-end c =
    let a = c.args in
    let l = c.loop-i in
    let t = c.loop-i-test in
    let r-run-end = c.run_end-end in
    omega (
      arith,
      run_inside Comment a.table.now l.i (omega (arith, t.true)),
      run-after Comment a.table.now l.i,
      r-run-end.ensures,
    )

pub overflow_sub-result : goal.overflow_sub-result
overflow_sub-result c =
    let a = c.args in
    let l = c.loop-i in
    let r-run-end = c.run_end-end in
    omega (arith, run-after Comment a.table.now l.i, r-run-end.ensures)

pub returns-then-opens_with : goal.returns-then-opens_with
returns-then-opens_with c =
    let a = c.args in
    let r-run-end = c.run_end-end in
    let t = c.loop-i-test in
    let l = c.loop-i in
    let r-opens-with = c.opens_with in
    let i1 = c.if-opens_with in
    first-here a.table.now a.text.now _ _ r-run-end.ensures t.true l.invariant (sym r-opens-with.ensures
    ∙ i1.true)

pub returns-then-table-end : goal.returns-then-table-end
returns-then-table-end c =
    let a = c.args in
    let r-run-end = c.run_end-end in
    let t = c.loop-i-test in
    let l = c.loop-i in
    let r-opens-with = c.opens_with in
    let i1 = c.if-opens_with in
    let i2 = c.if-table-end in
    first-last a.table.now a.text.now _ _ r-run-end.ensures t.true l.invariant (sym r-opens-with.ensures
    ∙ i1.false) i2.true

pub loop-i-smaller : goal.loop-i-smaller
loop-i-smaller c =
    let a = c.args in
    let l = c.loop-i in
    let r-run-end = c.run_end-end in
    let t = c.loop-i-test in
    let i2 = c.if-table-end in
    omega (arith, run-after Comment a.table.now l.i, r-run-end.ensures, t.true, i2.false)

pub loop-i-preserved : goal.loop-i-preserved
loop-i-preserved c =
    let a = c.args in
    let r-run-end = c.run_end-end in
    let t = c.loop-i-test in
    let l = c.loop-i in
    let r-opens-with = c.opens_with in
    let i1 = c.if-opens_with in
    first_next a.table.now a.text.now _ _ r-run-end.ensures t.true l.invariant (sym r-opens-with.ensures
    ∙ i1.false)

pub returns : goal.returns
returns c =
    let a = c.args in
    let l = c.loop-i in
    let t = c.loop-i-test in
    first_done a.table.now a.text.now _ l.invariant t.false
