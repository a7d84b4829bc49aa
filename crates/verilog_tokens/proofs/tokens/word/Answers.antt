-- `verilog_tokens::tokens::word` meets its contract. Assumes nothing.
use native.Mathlib.Omega.{arith}
use Rattle.verilog_tokens.specs.declared.Class.TheVariants.{Word}
use Rattle.verilog_tokens.proofs.Runs.{run-after, run_inside}
use Rattle.verilog_tokens.proofs.Pieces.{piece-word}
use Rattle.verilog_tokens.proofs.tokens.word.Goals as goal

pub slice_bounds-word_kind-count : goal.slice_bounds-word_kind-count
slice_bounds-word_kind-count c =
    omega (arith, run-after Word c.args.text.now c.args.at, c.run_end-end.ensures)

pub slice_bounds-word_kind-start : goal.slice_bounds-word_kind-start
slice_bounds-word_kind-start c =
    let a = c.args in
    let p = c.requires in
    let r-run-end = c.run_end-end in
    omega (arith, run_inside Word a.text.now a.at (omega (arith, p)), run-after Word a.text.now a.at, r-run-end.ensures)

pub slice_bounds-word_kind-end : goal.slice_bounds-word_kind-end
slice_bounds-word_kind-end c =
    let a = c.args in
    let p = c.requires in
    let r-run-end = c.run_end-end in
    omega (arith, run_inside Word a.text.now a.at (omega (arith, p)), run-after Word a.text.now a.at, r-run-end.ensures)

pub overflow_sub-result : goal.overflow_sub-result
overflow_sub-result c =
    let a = c.args in
    let r-run-end = c.run_end-end in
    omega (arith, run-after Word a.text.now a.at, r-run-end.ensures)

pub returns : goal.returns
returns c =
    let a = c.args in
    let r-run-end = c.run_end-end in
    let r-word-kind = c.word_kind-kind in
    piece-word a.text.now a.at _ _ r-run-end.ensures r-word-kind.ensures
