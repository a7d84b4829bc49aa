-- `naming::same_name` meets its contract. The loop's invariant: the texts are equal if their rests are.
-- Assumes nothing.
use Prim.Native.Nat.{◌≤◌, ◌<◌, ◌-◌}
use mathlib.Core.Path.{◌≡◌, refl, sym, ◌∙◌, ap}
use native.Mathlib.Omega.{arith}
use borrow.Author.Rules.{rules}
use lib.ListN.{length, drop}
use Rattle.naming.specs.Naming.{name_of, same_text}
use Rattle.naming.proofs.Naming.{name_of-past, length-name_of, get_d-name_of}
use Rattle.naming.proofs.Naming.{same_text-length, same_text-step, same_text-differ, same_text-rest}
use Rattle.naming.proofs.same_name.Goals as goal

pub returns-then-name-n : goal.returns-then-name-n
returns-then-name-n c =
    let a = c.args in
    sym (same_text-length (name_of a.names.now a.v) a.name.now
    (λ e. c.if-name-n.true (sym e ∙ sym c.name_length-n.ensures)))

pub returns-then-v-ge80 : goal.returns-then-v-ge80
returns-then-v-ge80 c =
    let a = c.args in
    let e = ap length (name_of-past a.names.now a.v c.if-v-ge80.true) in
    let n = c.name_length-n.ensures in
    sym (same_text-rest (name_of a.names.now a.v) a.name.now 0 (omega arith)
    (omega (arith, c.if-name-n.false)))

pub loop-i-init : goal.loop-i-init
loop-i-init c =
    let a = c.args in
    let e = length-name_of a.names.now a.v c.if-v-ge80.false in
    (search rules, omega (arith, c.name_length-n.ensures), refl)

pub returns-then-names-at : goal.returns-then-names-at
returns-then-names-at c =
    let a = c.args in
    let l = c.loop-i in
    let w = name_of a.names.now a.v in
    let n = c.name_length-n.ensures in
    let h : l.i < length w = omega (arith, c.loop-i-test.true) in
    let k : l.i < length a.name.now = omega (arith, c.if-name-n.false) in
    let e = get_d-name_of a.names.now a.v l.i c.if-v-ge80.false h in
    sym (same_text-differ w a.name.now l.i h k (λ z. c.if-names-at.true (sym e ∙ z))) ∙ l.invariant.2

pub loop-i-preserved : goal.loop-i-preserved
loop-i-preserved c =
    let a = c.args in
    let l = c.loop-i in
    let w = name_of a.names.now a.v in
    let n = c.name_length-n.ensures in
    let h : l.i < length w = omega (arith, c.loop-i-test.true) in
    let k : l.i < length a.name.now = omega (arith, c.if-name-n.false) in
    let e = get_d-name_of a.names.now a.v l.i c.if-v-ge80.false h in (
      search rules,
      l.invariant.1,
      same_text-step w a.name.now l.i h k (e ∙ c.if-names-at.false) ∙ l.invariant.2,
    )

pub returns : goal.returns
returns c =
    let a = c.args in
    let l = c.loop-i in
    let n = c.name_length-n.ensures in
    let left = c.loop-i-test.false in
    sym (same_text-rest (name_of a.names.now a.v) a.name.now l.i (omega arith)
    (omega (arith, c.if-name-n.false))) ∙ l.invariant.2
