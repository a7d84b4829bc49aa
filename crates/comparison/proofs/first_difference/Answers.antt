-- `comparison::first_difference` meets its contract, case by case. Assumes nothing.
use mathlib.Core.Path.{◌≡◌, refl, sym, ◌∙◌}
use native.Mathlib.Omega.{arith}
use Prim.Native.Nat.{◌+◌, ◌-◌}
use Rattle.stimulus.specs.Counting.{first_from}
use Rattle.stimulus.proofs.Searching.{found-some, found-none}
use Rattle.comparison.specs.Comparison.{values_differ}
use Rattle.comparison.proofs.Differences.{found_from, variable-same, difference-variable, difference-place, difference-none}
use Rattle.comparison.proofs.first_difference.Goals as goal

pub returns-in-Some : goal.returns-in-Some
returns-in-Some c =
    let a = c.args in
    let m = a.m in
    let f = values_differ a.a.now a.b.now in
    let n = m.registers + m.wires in
    let e : first_from f (m.inputs + n - m.inputs) m.inputs ≡ first_from f n m.inputs = found_from f refl (omega arith) in
    let s = found-some _ _ _ (sym c.in-Some.is ∙ c.first_variable.ensures) in
    variable-same c.value_in.ensures c.value_in-in-Some.ensures
    ∙ difference-variable m a.a.now a.b.now _ (s.0 ∙ e) (omega (arith, s.0, s.1))

pub returns-in-Some-first_place : goal.returns-in-Some-first_place
returns-in-Some-first_place c =
    let a = c.args in
    let m = a.m in
    let f = values_differ a.a.now a.b.now in
    let n = m.registers + m.wires in
    let e : first_from f (m.inputs + n - m.inputs) m.inputs ≡ first_from f n m.inputs = found_from f refl (omega arith) in
    let i = found-some _ _ _ (sym c.in-Some-first_place.is ∙ c.first_place.ensures) in
    difference-place m a.a.now a.b.now _ e (found-none _ _ (sym c.in_default.is ∙ c.first_variable.ensures)) _ i.0
    (omega (arith, i.0, i.1))

pub returns-in-None : goal.returns-in-None
returns-in-None c =
    let a = c.args in
    let m = a.m in
    let f = values_differ a.a.now a.b.now in
    let n = m.registers + m.wires in
    let e : first_from f (m.inputs + n - m.inputs) m.inputs ≡ first_from f n m.inputs = found_from f refl (omega arith) in
    difference-none m a.a.now a.b.now _ e (found-none _ _ (sym c.in_default.is ∙ c.first_variable.ensures)) _ refl
    (found-none _ _ (sym c.in-None.is ∙ c.first_place.ensures))
