-- `verilog_scan::names::spelled_so` meets its contract. Assumes nothing.
use mathlib.Core.Path.{sym, ap, ◌∙◌}
use native.Mathlib.Omega.{arith}
use Rattle.naming.specs.Naming.{same_text}
use Rattle.verilog_tokens.specs.declared.Class.TheVariants.{Word}
use Rattle.verilog_tokens.proofs.Runs.{run-after, run_inside}
use Rattle.verilog_scan.proofs.Spelling.{spelled-run, spelled-past, differs-other}
use Rattle.verilog_scan.proofs.names.spelled_so.Goals as goal

pub returns-then-text-at : goal.returns-then-text-at
returns-then-text-at c =
    let a = c.args in
    let i1 = c.if-text-at in
    c.is_empty.ensures ∙ spelled-past a.text.now a.at a.word.now i1.true

pub returns-then-differs : goal.returns-then-differs
returns-then-differs c =
    let a = c.args in
    differs-other a.text.now a.at a.word.now (sym c.differs.ensures ∙ c.if-differs.true)

pub slice_bounds-same-count : goal.slice_bounds-same-count
slice_bounds-same-count c =
    let a = c.args in
    let r-run-end = c.run_end-end in
    omega (arith, run-after Word a.text.now a.at, r-run-end.ensures)

pub slice_bounds-same-start : goal.slice_bounds-same-start
slice_bounds-same-start c =
    let a = c.args in
    let i1 = c.if-text-at in
    let r-run-end = c.run_end-end in
    let e = run_inside Word a.text.now a.at (omega (arith, i1.false)) in
    omega (arith, e, run-after Word a.text.now a.at, r-run-end.ensures)

pub slice_bounds-same-end : goal.slice_bounds-same-end
slice_bounds-same-end c =
    let a = c.args in
    let i1 = c.if-text-at in
    let r-run-end = c.run_end-end in
    let e = run_inside Word a.text.now a.at (omega (arith, i1.false)) in
    omega (arith, e, run-after Word a.text.now a.at, r-run-end.ensures)

pub returns : goal.returns
returns c =
    let r-same = c.same in
    let a = c.args in
    let r-run-end = c.run_end-end in
    r-same.ensures ∙ ap (λ s. same_text s a.word.now) (spelled-run a.text.now a.at _ r-run-end.ensures)
