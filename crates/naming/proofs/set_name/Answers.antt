-- `naming::set_name` meets its contract. The loop's invariant: the bytes still to be stored give the whole row.
-- Assumes nothing.
use Prim.Native.Nat.{◌≤◌, ◌-◌, ◌+◌, ◌*◌}
use mathlib.Core.Path.{◌≡◌, sym, ◌∙◌}
use native.Mathlib.Omega.{arith}
use borrow.Author.Rules.{rules}
use lib.ListN.{drop, take}
use lib.Seq.{sets}
use Rattle.naming.specs.Naming.{padded, renamed}
use Rattle.naming.proofs.Naming.{renamed-past, row-start, sets-step, row_done, length-padded}
use Rattle.naming.proofs.set_name.Goals as goal

pub returns-then-v-ge80 : goal.returns-then-v-ge80
returns-then-v-ge80 c =
    let a = c.args in
    sym (renamed-past a.names.now a.v a.name.now c.if-v-ge80.true)

pub loop-j-init : goal.loop-j-init
loop-j-init c =
    let a = c.args in
    (search rules, row-start a.names.now a.v a.name.now c.if-v-ge80.false)

pub loop-j-preserved : goal.loop-j-preserved
loop-j-preserved c =
    let a = c.args in
    let l = c.loop-j in
    let row = padded 32 (take 31 a.name.now) in (
      search rules,
      sets-step l.names row (a.v * 32) l.j _
          (omega (arith, c.loop-j-test.true, length-padded 32 (take 31 a.name.now))) c.row_byte.ensures
          ∙ l.invariant.1,
    )

pub returns : goal.returns
returns c =
    let a = c.args in
    let l = c.loop-j in
    sym (row_done l.names a.v l.j a.name.now c.loop-j-test.false) ∙ l.invariant.1
