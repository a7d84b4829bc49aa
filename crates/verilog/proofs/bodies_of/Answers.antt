-- `verilog::bodies_of` meets its contract. Assumes nothing.
use borrow.Author.Tests.{ne_eqb}
use Rattle.verilog.specs.Printing.{bodies_of}
use Rattle.verilog.proofs.bodies_of.Goals as goal

pub returns-in-12 : goal.returns-in-12
unfolding bodies_of
returns-in-12 c =
    rw c.in-12.is

pub returns-in-28 : goal.returns-in-28
unfolding bodies_of
returns-in-28 c =
    rw c.in-28.is

pub returns-in-44 : goal.returns-in-44
unfolding bodies_of
returns-in-44 c =
    rw c.in-44.is

pub returns-in-6 : goal.returns-in-6
unfolding bodies_of
returns-in-6 c =
    rw c.in-6.is

pub returns-in-14 : goal.returns-in-14
unfolding bodies_of
returns-in-14 c =
    rw c.in-14.is

pub returns-in-70 : goal.returns-in-70
unfolding bodies_of
returns-in-70 c =
    rw c.in-70.is

pub returns-in-68 : goal.returns-in-68
unfolding bodies_of
returns-in-68 c =
    rw c.in-68.is

pub returns-in_default : goal.returns-in_default
unfolding bodies_of
returns-in_default c =
    let r = c.in_default.in_default-own.rest in
    let l = r.0.0.0.0 in
    simp (
      ne_eqb _ _ l.0.0.1,
      ne_eqb _ _ l.0.1,
      ne_eqb _ _ l.1,
      ne_eqb _ _ r.0.0.0.1,
      ne_eqb _ _ r.0.0.1,
      ne_eqb _ _ r.0.1,
      ne_eqb _ _ r.1,
    )
