-- `verilog_names::numbers::place_of` meets its contract. The loop's invariant: those passed and the place among what is left give the
-- place among all. Assumes nothing.
use mathlib.Core.Path.{sym, ◌∙◌}
use native.Mathlib.Omega.{arith}
use Rattle.verilog_names.specs.Chosen.{has_role}
use Rattle.verilog_names.proofs.Chosen.{chosen-all}
use Rattle.verilog_names.proofs.Numbering.{place_found, place-past, place_out, place-done}
use Rattle.verilog_names.proofs.numbers.place_of.Goals.{else-has_role, then-has_role+else-numbers-i}
use Rattle.verilog_names.proofs.numbers.place_of.Goals as goal

pub loop-i-init : goal.loop-i-init
loop-i-init c =
    (omega arith, rw chosen-all (omega arith))

pub returns-then-numbers-i : goal.returns-then-numbers-i
returns-then-numbers-i c =
    let a = c.args in
    let l = c.loop-i in
    let test = has_role a.roles.now a.role in
    omega (
      arith,
      place_found a.numbers.now a.id test a.count l.i c.loop-i-test.true
          (sym c.has_role.ensures ∙ c.if-has_role.true) c.if-numbers-i.true,
    )

pub loop-i-preserved : goal.loop-i-preserved
loop-i-preserved c =
    let a = c.args in
    let l = c.loop-i in
    let h = c.loop-i-test.true in
    let test = has_role a.roles.now a.role in
    elim c.if-has_role.branch [
      | then-has_role+else-numbers-i w ↦ (
        omega (arith, w.k-is),
        omega (
          arith,
          w.k-is,
          place-past a.numbers.now a.id test a.count l.i h (sym c.has_role.ensures ∙ w.if-has_role.true) w.if-numbers-i.false,
        ),
      )
      | else-has_role w ↦ (
        omega (arith, w.k-is),
        omega (arith, w.k-is, place_out a.numbers.now a.id test a.count l.i h (sym c.has_role.ensures ∙ w.if-has_role.false)),
      )
    ]

pub returns : goal.returns
returns c =
    let a = c.args in
    omega (
      arith,
      place-done a.numbers.now a.id (has_role a.roles.now a.role) a.count c.loop-i.i c.loop-i-test.false,
    )
