-- `verilog_bytes::shift` meets its contract. The loop's invariant: moving what is left gives the whole. Assumes nothing.
use Prim.Native.Nat.{◌-◌}
use mathlib.Core.Path.{refl, sym, ◌∙◌}
use native.Mathlib.Omega.{arith}
use Rattle.verilog_bytes.proofs.Moving.{moved-step, moved_none}
use Rattle.verilog_bytes.proofs.shift.Goals as goal

pub loop-j-init : goal.loop-j-init
loop-j-init c =
    (c.requires.0, omega arith, refl)

pub overflow_sub-j : goal.overflow_sub-j
overflow_sub-j c =
    omega arith

pub bounds-out-j : goal.bounds-out-j
bounds-out-j c =
    omega arith

pub overflow_add-out : goal.overflow_add-out
overflow_add-out c =
    omega arith

pub bounds-out-j-in-loop-j : goal.bounds-out-j-in-loop-j
bounds-out-j-in-loop-j c =
    omega arith

pub loop-j-smaller : goal.loop-j-smaller
loop-j-smaller c =
    omega arith

pub loop-j-preserved : goal.loop-j-preserved
loop-j-preserved c =
    let a = c.args in
    let l = c.loop-j in
    (omega arith, omega arith, moved-step a.k a.from l.j l.out c.loop-j-test.true ∙ l.invariant.2)

pub returns : goal.returns
returns c =
    let a = c.args in
    let l = c.loop-j in
    sym (moved_none a.k a.from (l.j - a.from) l.out (omega arith)) ∙ l.invariant.2
