-- `columns::choose` meets its contract. The loop's invariant: the names that are left come to what all names come to. Assumes nothing.
use Prim.Native.Nat.{◌-◌, ◌+◌, suc}
use mathlib.Core.Path.{◌≡◌, refl, sym, ◌∙◌}
use native.Mathlib.Omega.{arith}
use Rattle.stimulus.proofs.Searching.{found-some, found-none}
use Rattle.columns.specs.Columns.{all_chosen}
use Rattle.columns.proofs.Columns.{name-inside, chosen-many, chosen_none, chosen_last, chosen_more}
use Rattle.columns.proofs.choose.Goals as goal

pub loop-count-init : goal.loop-count-init
unfolding all_chosen
loop-count-init c =
    (omega arith, omega arith, refl)

pub slice_bounds-variable_of-count : goal.slice_bounds-variable_of-count
slice_bounds-variable_of-count c =
    let a = c.args in
    let l = c.loop-count in
    let x = rw (← c.name_end-end.ensures) at (name-inside a.word.now l.from l.invariant.1) in
    omega (arith, x.0, x.1)

pub slice_bounds-variable_of-start : goal.slice_bounds-variable_of-start
slice_bounds-variable_of-start c =
    let a = c.args in
    let l = c.loop-count in
    let x = rw (← c.name_end-end.ensures) at (name-inside a.word.now l.from l.invariant.1) in
    omega (arith, x.0, x.1)

pub slice_bounds-variable_of-end : goal.slice_bounds-variable_of-end
slice_bounds-variable_of-end c =
    let a = c.args in
    let l = c.loop-count in
    let x = rw (← c.name_end-end.ensures) at (name-inside a.word.now l.from l.invariant.1) in
    omega (arith, x.0, x.1)

pub returns-in_default : goal.returns-in_default
returns-in_default c =
    let l = c.loop-count in
    let a = c.args in
    let s : 80 - l.count ≡ suc (80 - (l.count + 1)) = omega (arith, c.loop-count-test.true) in
    rw (c.told.ensures, c.counted.ensures)
    (chosen_none a.names.now a.n a.word.now (80 - l.count) l.from l.places l.count _ s _ c.name_end-end.ensures _
    refl (found-none _ _ (sym c.in_default.is ∙ c.variable_of.ensures))
    ∙ l.invariant.2)

pub returns-then-size-end : goal.returns-then-size-end
returns-then-size-end c =
    let l = c.loop-count in
    let a = c.args in
    let s : 80 - l.count ≡ suc (80 - (l.count + 1)) = omega (arith, c.loop-count-test.true) in
    let v = found-some _ _ _ (sym c.in-Some.is ∙ c.variable_of.ensures) in
    rw c.told-then-size-end.ensures
    (chosen_last a.names.now a.n a.word.now (80 - l.count) l.from l.places l.count _ s _ c.name_end-end.ensures _
    v.0 (omega (arith, v.0, v.1)) c.if-size-end.true
    ∙ l.invariant.2)

pub loop-count-preserved : goal.loop-count-preserved
loop-count-preserved c =
    let l = c.loop-count in
    let a = c.args in
    let s : 80 - l.count ≡ suc (80 - (l.count + 1)) = omega (arith, c.loop-count-test.true) in
    let v = found-some _ _ _ (sym c.in-Some.is ∙ c.variable_of.ensures) in (
      omega (arith, c.loop-count-test.true),
      omega (arith, c.if-size-end.false),
      chosen_more a.names.now a.n a.word.now (80 - l.count) l.from l.places l.count _ s _ c.name_end-end.ensures _
          v.0 (omega (arith, v.0, v.1)) (omega (arith, c.if-size-end.false))
          ∙ l.invariant.2,
    )

pub returns : goal.returns
returns c =
    let l = c.loop-count in
    let a = c.args in
    let e : l.count ≡ 80 = omega (arith, l.invariant.0, c.loop-count-test.false) in
    rw (c.told-2.ensures, c.counted-2.ensures, ← e)
    (chosen-many a.names.now a.n a.word.now (80 - l.count) l.from l.places l.count
    (omega (arith, c.loop-count-test.false))
    ∙ l.invariant.2)
