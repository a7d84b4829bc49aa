-- `verilog_tokens::rows::place_in` meets its contract. The loop's invariant: the rows from `i` on, behind `n` of them, place the word.
-- Assumes nothing.
use mathlib.Core.Path.{sym, ◌∙◌}
use native.Mathlib.Omega.{arith}
use Rattle.verilog_tokens.specs.declared.Class.TheVariants.{Comment}
use Rattle.verilog_tokens.proofs.Runs.{run-after, run_inside}
use Rattle.verilog_tokens.proofs.Tables.{place-start, place-done, place_here, place-next, place-last}
use Rattle.verilog_tokens.proofs.rows.place_in.Goals as goal

pub loop-i-init : goal.loop-i-init
loop-i-init c =
    place-start _ _

pub slice_bounds-same-count : goal.slice_bounds-same-count
slice_bounds-same-count c =
    let a = c.args in
    let l = c.loop-i in
    let r-run-end = c.run_end-end in
    omega (arith, run-after Comment a.table.now l.i, r-run-end.ensures)

pub slice_bounds-same-start : goal.slice_bounds-same-start
slice_bounds-same-start c =
    let a = c.args in
    let l = c.loop-i in
    let t = c.loop-i-test in
    let r-run-end = c.run_end-end in
    omega (
      arith,
      run_inside Comment a.table.now l.i (omega (arith, t.true)),
      run-after Comment a.table.now l.i,
      r-run-end.ensures,
    )

pub slice_bounds-same-end : goal.slice_bounds-same-end
slice_bounds-same-end c =
    let a = c.args in
    let l = c.loop-i in
    let t = c.loop-i-test in
    let r-run-end = c.run_end-end in
    omega (
      arith,
      run_inside Comment a.table.now l.i (omega (arith, t.true)),
      run-after Comment a.table.now l.i,
      r-run-end.ensures,
    )

pub returns-then-same : goal.returns-then-same
returns-then-same c =
    let a = c.args in
    let r-run-end = c.run_end-end in
    let t = c.loop-i-test in
    let l = c.loop-i in
    let r-same = c.same in
    let i1 = c.if-same in
    place_here a.table.now a.word.now _ _ _ r-run-end.ensures t.true l.invariant (sym r-same.ensures ∙ i1.true)

pub overflow_add-n : goal.overflow_add-n
overflow_add-n c =
    let l = c.loop-i in
    let t = c.loop-i-test in
    omega (arith, l.invariant.0, t.true)

pub returns-then-table-end : goal.returns-then-table-end
returns-then-table-end c =
    let a = c.args in
    let r-run-end = c.run_end-end in
    let t = c.loop-i-test in
    let l = c.loop-i in
    let r-same = c.same in
    let i1 = c.if-same in
    let i2 = c.if-table-end in
    place-last a.table.now a.word.now _ _ _ r-run-end.ensures t.true l.invariant (sym r-same.ensures
    ∙ i1.false) i2.true

pub loop-i-smaller : goal.loop-i-smaller
loop-i-smaller c =
    let a = c.args in
    let l = c.loop-i in
    let r-run-end = c.run_end-end in
    let t = c.loop-i-test in
    let i2 = c.if-table-end in
    omega (arith, run-after Comment a.table.now l.i, r-run-end.ensures, t.true, i2.false)

pub loop-i-preserved : goal.loop-i-preserved
loop-i-preserved c =
    let a = c.args in
    let l = c.loop-i in
    let r-run-end = c.run_end-end in
    let t = c.loop-i-test in
    let r-same = c.same in
    let i1 = c.if-same in (
      omega (arith, run-after Comment a.table.now l.i, r-run-end.ensures, l.invariant.0),
      place-next a.table.now a.word.now _ _ _ r-run-end.ensures t.true l.invariant (sym r-same.ensures
          ∙ i1.false),
    )

pub returns : goal.returns
returns c =
    let a = c.args in
    let l = c.loop-i in
    let t = c.loop-i-test in
    place-done a.table.now a.word.now _ _ l.invariant t.false
