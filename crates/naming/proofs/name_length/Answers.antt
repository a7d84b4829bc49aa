-- `naming::name_length` meets its contract. The loop's invariant: the bytes passed and the rest of the name are the whole.
-- Assumes nothing.
use Prim.Native.Nat.{◌≤◌, ◌-◌, ◌+◌, ◌*◌}
use mathlib.Core.Path.{◌≡◌, sym, ap, ◌∙◌}
use native.Mathlib.Omega.{arith}
use borrow.Author.Rules.{rules}
use lib.ListN.{length}
use Rattle.naming.specs.Naming.{name_from, name_of}
use Rattle.naming.proofs.Naming.{name_of-past, count_none, count-end, count-all, count-more}
use Rattle.naming.proofs.name_length.Goals as goal

pub returns-then-v-ge80 : goal.returns-then-v-ge80
returns-then-v-ge80 c =
    let a = c.args in
    sym (ap length (name_of-past a.names.now a.v c.if-v-ge80.true))

pub loop-n-init : goal.loop-n-init
loop-n-init c =
    let a = c.args in
    (search rules, count_none a.names.now a.v c.if-v-ge80.false)

pub returns-then-names-at-eq0 : goal.returns-then-names-at-eq0
returns-then-names-at-eq0 c =
    let a = c.args in
    let l = c.loop-n in
    count-end a.names.now a.v c.if-v-ge80.false l.n l.invariant.1 c.if-names-at-eq0.true

pub loop-n-preserved : goal.loop-n-preserved
loop-n-preserved c =
    let a = c.args in
    let l = c.loop-n in
    (search rules, count-more a.names.now a.v c.if-v-ge80.false l.n l.invariant.1 (search rules) c.if-names-at-eq0.false)

pub returns : goal.returns
returns c =
    let a = c.args in
    let l = c.loop-n in
    let last : 32 ≡ l.n = omega arith in
    last ∙ count-all a.names.now a.v c.if-v-ge80.false l.n l.invariant.1 c.loop-n-test.false
