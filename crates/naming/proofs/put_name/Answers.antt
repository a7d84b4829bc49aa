-- `naming::put_name` meets its contract. The loop's invariant: what is still to be put gives the whole.
-- Assumes nothing.
use Prim.Native.Nat.{◌≤◌, ◌<◌, ◌-◌}
use mathlib.Core.Path.{◌≡◌, refl, sym, ◌∙◌, ap}
use mathlib.Core.List.{[], ◌∷◌}
use native.Mathlib.Omega.{arith}
use borrow.Author.Rules.{rules}
use lib.ListN.{length, drop, drop_of_length-le}
use Rattle.writing.specs.Buffer.{filled, puts}
use Rattle.writing.proofs.Buffer.{puts-step, puts-nil}
use Rattle.naming.specs.Naming.{name_of}
use Rattle.naming.proofs.Naming.{name_of-past, length-name_of, get_d-name_of}
use Rattle.naming.proofs.put_name.Goals as goal

pub returns-then-v-ge80 : goal.returns-then-v-ge80
returns-then-v-ge80 c =
    let a = c.args in
    sym (puts-nil _)
    ∙ ap (λ x. puts (filled a.text.now a.pos) x) (sym (name_of-past a.names.now a.v c.if-v-ge80.true))

pub loop-i-init : goal.loop-i-init
loop-i-init c =
    let a = c.args in
    let e = length-name_of a.names.now a.v c.if-v-ge80.false in
    (search rules, omega (arith, c.name_length-n.ensures), refl)

pub loop-i-preserved : goal.loop-i-preserved
loop-i-preserved c =
    let a = c.args in
    let l = c.loop-i in
    let w = name_of a.names.now a.v in
    let h : l.i < length w = omega (arith, c.name_length-n.ensures, c.loop-i-test.true) in
    let e = get_d-name_of a.names.now a.v l.i c.if-v-ge80.false h in (
      search rules,
      l.invariant.1,
      puts-step (filled l.text l.p) _ w l.i h
          (c.put_byte-p.ensures ∙ ap (λ x. puts (filled l.text l.p) (x ∷ [])) (sym e))
          ∙ l.invariant.2,
    )

pub returns : goal.returns
returns c =
    let a = c.args in
    let l = c.loop-i in
    let e =
    drop_of_length-le (name_of a.names.now a.v) {i = l.i}
    (omega (arith, c.name_length-n.ensures, c.loop-i-test.false)) in
    sym (puts-nil _) ∙ ap (λ x. puts (filled l.text l.p) x) (sym e) ∙ l.invariant.2
