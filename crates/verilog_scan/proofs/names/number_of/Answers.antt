-- `verilog_scan::names::number_of` meets its contract. Assumes nothing.
use mathlib.Core.Path.{ap, ◌∙◌}
use native.Mathlib.Omega.{arith}
use Prim.Native.Nat.{◌-◌}
use lib.ListN.{take, drop}
use Rattle.verilog_tokens.specs.declared.Class.TheVariants.{Word}
use Rattle.verilog_tokens.specs.Table.{place_of}
use Rattle.verilog_scan.specs.Scan.{names_at}
use Rattle.verilog_tokens.proofs.Runs.{run-after, run_inside}
use Rattle.verilog_scan.proofs.Spelling.{spelled-run, names-few, number-other, number-name}
use Rattle.verilog_scan.proofs.names.number_of.Goals as goal

pub returns-then-kind-ne64 : goal.returns-then-kind-ne64
returns-then-kind-ne64 c =
    number-other _ _ _ c.if-kind-ne64.true

pub slice_bounds-first_spelled-count : goal.slice_bounds-first_spelled-count
slice_bounds-first_spelled-count c =
    let a = c.args in
    let r-run-end = c.run_end-end in
    omega (arith, run-after Word a.text.now a.at, r-run-end.ensures)

pub slice_bounds-first_spelled-start : goal.slice_bounds-first_spelled-start
slice_bounds-first_spelled-start c =
    let a = c.args in
    let p = c.requires in
    let r-run-end = c.run_end-end in
    omega (arith, run_inside Word a.text.now a.at p.2, run-after Word a.text.now a.at, r-run-end.ensures)

pub slice_bounds-first_spelled-end : goal.slice_bounds-first_spelled-end
slice_bounds-first_spelled-end c =
    let a = c.args in
    let p = c.requires in
    let r-run-end = c.run_end-end in
    omega (arith, run_inside Word a.text.now a.at p.2, run-after Word a.text.now a.at, r-run-end.ensures)

pub overflow_cast-result : goal.overflow_cast-result
overflow_cast-result c =
    let r-first-spelled = c.first_spelled in
    let a = c.args in
    let r-run-end = c.run_end-end in
    let p = c.requires in
    omega (
      arith,
      r-first-spelled.ensures,
      names-few a.text.now (take (r-run-end.result - a.at) (drop a.at a.text.now))
          a.starts.now a.names,
      p.0,
    )

pub returns : goal.returns
returns c =
    let r-first-spelled = c.first_spelled in
    let a = c.args in
    let r-run-end = c.run_end-end in
    let i1 = c.if-kind-ne64 in
    r-first-spelled.ensures
    ∙ ap (place_of (names_at a.text.now (take a.names a.starts.now))) (spelled-run a.text.now a.at _ r-run-end.ensures)
    ∙ number-name _ _ _ i1.false
