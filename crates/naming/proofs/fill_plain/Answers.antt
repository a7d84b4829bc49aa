-- `naming::fill_plain` meets its contract. The loop's invariant: the bytes still to be stored give the whole table.
-- Assumes nothing.
use Prim.Native.Nat.{◌≤◌, ◌-◌, ◌/◌}
use mathlib.Core.Path.{◌≡◌, sym, ◌∙◌}
use native.Mathlib.Omega.{arith}
use borrow.Author.Rules.{rules}
use lib.ListN.{drop}
use lib.Seq.{sets}
use Rattle.naming.specs.Naming.{plain_table, plainly}
use Rattle.naming.proofs.Naming.{plain-start, plain_step, plain_end, plain_number-≤}
use Rattle.naming.proofs.fill_plain.Goals as goal

pub loop-k-init : goal.loop-k-init
loop-k-init c =
    let a = c.args in
    (search rules, plain-start a.inputs a.registers a.names.now)

pub marked_byte-requires : goal.marked_byte-requires
marked_byte-requires c =
    let a = c.args in
    let l = c.loop-k in
    omega (arith, c.plain_number-n.ensures, plain_number-≤ a.inputs a.registers (l.k / 32))

pub loop-k-preserved : goal.loop-k-preserved
loop-k-preserved c =
    let a = c.args in
    let l = c.loop-k in (
      search rules,
      plain_step a.inputs a.registers l.names l.k _ _ _ c.loop-k-test.true
          c.plain_mark-mark.ensures c.plain_number-n.ensures c.marked_byte.ensures
          ∙ l.invariant.1,
    )

pub returns : goal.returns
returns c =
    let a = c.args in
    let l = c.loop-k in
    sym (plain_end a.inputs a.registers l.names l.k c.loop-k-test.false) ∙ l.invariant.1
