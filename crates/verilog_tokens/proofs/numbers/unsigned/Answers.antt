-- `verilog_tokens::numbers::unsigned` meets its contract. Assumes nothing.
use native.Mathlib.Omega.{arith}
use Rattle.verilog_tokens.specs.declared.Class.TheVariants.{Decimal}
use Rattle.verilog_tokens.proofs.Runs.{run-after, run_inside}
use Rattle.verilog_tokens.proofs.Pieces.{piece-number}
use Rattle.verilog_tokens.proofs.numbers.unsigned.Goals as goal

pub slice_bounds-number_kind-count : goal.slice_bounds-number_kind-count
slice_bounds-number_kind-count c =
    omega (arith, run-after Decimal c.args.text.now c.args.at, c.run_end-end.ensures)

pub slice_bounds-number_kind-start : goal.slice_bounds-number_kind-start
slice_bounds-number_kind-start c =
    let a = c.args in
    let p = c.requires in
    let r-run-end = c.run_end-end in
    omega (
      arith,
      run_inside Decimal a.text.now a.at (omega (arith, p)),
      run-after Decimal a.text.now a.at,
      r-run-end.ensures,
    )

pub slice_bounds-number_kind-end : goal.slice_bounds-number_kind-end
slice_bounds-number_kind-end c =
    let a = c.args in
    let p = c.requires in
    let r-run-end = c.run_end-end in
    omega (
      arith,
      run_inside Decimal a.text.now a.at (omega (arith, p)),
      run-after Decimal a.text.now a.at,
      r-run-end.ensures,
    )

pub slice_bounds-number_up_to-count : goal.slice_bounds-number_up_to-count
slice_bounds-number_up_to-count c =
    let a = c.args in
    let r-run-end = c.run_end-end in
    omega (arith, run-after Decimal a.text.now a.at, r-run-end.ensures)

pub slice_bounds-number_up_to-start : goal.slice_bounds-number_up_to-start
slice_bounds-number_up_to-start c =
    let a = c.args in
    let p = c.requires in
    let r-run-end = c.run_end-end in
    omega (
      arith,
      run_inside Decimal a.text.now a.at (omega (arith, p)),
      run-after Decimal a.text.now a.at,
      r-run-end.ensures,
    )

pub slice_bounds-number_up_to-end : goal.slice_bounds-number_up_to-end
slice_bounds-number_up_to-end c =
    let a = c.args in
    let p = c.requires in
    let r-run-end = c.run_end-end in
    omega (
      arith,
      run_inside Decimal a.text.now a.at (omega (arith, p)),
      run-after Decimal a.text.now a.at,
      r-run-end.ensures,
    )

pub overflow_sub-result : goal.overflow_sub-result
overflow_sub-result c =
    let a = c.args in
    let r-run-end = c.run_end-end in
    omega (arith, run-after Decimal a.text.now a.at, r-run-end.ensures)

pub returns : goal.returns
returns c =
    let a = c.args in
    let r-run-end = c.run_end-end in
    let r-number-kind = c.number_kind-kind in
    let r-number-up-to = c.number_up_to-n in
    piece-number a.text.now a.at _ _ _ r-run-end.ensures r-number-kind.ensures r-number-up-to.ensures
