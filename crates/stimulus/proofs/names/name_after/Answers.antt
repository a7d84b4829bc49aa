-- `stimulus::names::name_after` meets its contract. Assumes nothing.
use native.Mathlib.Omega.{arith}
use Rattle.stimulus.specs.declared.Class.TheVariants.{Blank}
use Rattle.stimulus.proofs.Runs.{run_inside}
use Rattle.stimulus.proofs.Naming.{after_none, after-name}
use Rattle.stimulus.proofs.names.name_after.Goals as goal

pub returns-in-None : goal.returns-in-None
returns-in-None c =
    let a = c.args in
    rw c.in-None.is (after_none a.line.now a.p a.to 256 _ _ c.run_end-from.ensures c.run_end-end.ensures (omega arith))

pub overflow_add-result-in-Some : goal.overflow_add-result-in-Some
overflow_add-result-in-Some c =
    let g = c.well_formed in
    let h = c.run_end-from.ensures in
    let i = run_inside Blank c.args.line.now c.args.to c.requires.1 in
    record { fits = omega arith }

pub returns-in-Some : goal.returns-in-Some
returns-in-Some c =
    let a = c.args in
    rw c.in-Some.is
    (after-name a.line.now a.p a.to _ _ _ c.run_end-from.ensures c.run_end-end.ensures _ (omega arith)
    c.name_error.ensures)
