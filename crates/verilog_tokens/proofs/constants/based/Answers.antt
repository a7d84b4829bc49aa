-- `verilog_tokens::constants::based` meets its contract, row by row. Assumes nothing.
use mathlib.Core.Path.{refl, sym, ◌∙◌}
use native.Mathlib.Omega.{arith}
use Prim.Native.Nat.{◌+◌}
use lib.ListN.{drop, length-drop}
use Rattle.verilog_tokens.specs.declared.Class.TheVariants.{Space}
use Rattle.verilog_tokens.specs.Table.{kind_of, number_in}
use Rattle.verilog_tokens.specs.Pieces.{piece_of}
use Rattle.verilog_tokens.proofs.Lengths.{is_length, no_length}
use Rattle.verilog_tokens.proofs.Runs.{run-after, run_inside}
use Rattle.verilog_tokens.proofs.Bases.{digits-few, based-end, based-none, based-value}
use Rattle.verilog_tokens.proofs.constants.based.Goals as goal

pub returns-then-text-at : goal.returns-then-text-at
unfolding piece_of kind_of number_in
returns-then-text-at c =
    c.broken.ensures ∙ based-end c.args.text.now c.args.at c.if-text-at.true

pub returns-in-None : goal.returns-in-None
unfolding piece_of kind_of number_in
returns-in-None c =
    let a = c.args in
    let q = sym (no_length _ (sym c.in-None.is ∙ c.radix_of.ensures)) in
    c.broken-in-None.ensures ∙ based-none a.text.now a.at c.if-text-at.false 0 q refl

pub slice_bounds-value_of-count : goal.slice_bounds-value_of-count
slice_bounds-value_of-count c =
    omega (arith, c.digits_end-end.ensures)

pub slice_bounds-value_of-start : goal.slice_bounds-value_of-start
slice_bounds-value_of-start c =
    let r-run-end = c.run_end-from in
    let r-digits-end = c.digits_end-end in
    let a = c.args in
    let i1 = c.if-text-at in
    let f = r-run-end.ensures in
    let g = r-digits-end.ensures in
    omega (
      arith,
      run_inside Space a.text.now (a.at + 1) (omega (arith, i1.false)),
      digits-few c.in-Some.radix (drop r-run-end.result a.text.now),
      length-drop r-run-end.result a.text.now,
    )

pub slice_bounds-value_of-end : goal.slice_bounds-value_of-end
slice_bounds-value_of-end c =
    let r-run-end = c.run_end-from in
    let r-digits-end = c.digits_end-end in
    let a = c.args in
    let i1 = c.if-text-at in
    let f = r-run-end.ensures in
    let g = r-digits-end.ensures in
    omega (
      arith,
      run_inside Space a.text.now (a.at + 1) (omega (arith, i1.false)),
      digits-few c.in-Some.radix (drop r-run-end.result a.text.now),
      length-drop r-run-end.result a.text.now,
    )

pub overflow_sub-end : goal.overflow_sub-end
overflow_sub-end c =
    let r-run-end = c.run_end-from in
    let r-digits-end = c.digits_end-end in
    let a = c.args in
    let f = r-run-end.ensures in
    let g = r-digits-end.ensures in
    omega (arith, run-after Space a.text.now (a.at + 1))

pub overflow_add-end : goal.overflow_add-end
overflow_add-end c =
    let r-run-end = c.run_end-from in
    let r-digits-end = c.digits_end-end in
    let a = c.args in
    let i1 = c.if-text-at in
    let f = r-run-end.ensures in
    let g = r-digits-end.ensures in
    omega (
      arith,
      run_inside Space a.text.now (a.at + 1) (omega (arith, i1.false)),
      digits-few c.in-Some.radix (drop r-run-end.result a.text.now),
      length-drop r-run-end.result a.text.now,
    )

pub returns-in-Some : goal.returns-in-Some
returns-in-Some c =
    let r-value-of = c.value_of in
    let a = c.args in
    let i1 = c.if-text-at in
    let k = is_length c.in-Some.radix _ (sym c.in-Some.is ∙ c.radix_of.ensures) in
    let r-run-end = c.run_end-from in
    let r-digits-end = c.digits_end-end in
    r-value-of.ensures
    ∙ based-value a.text.now a.at i1.false _ k.0 k.1 _ _ r-run-end.ensures r-digits-end.ensures
