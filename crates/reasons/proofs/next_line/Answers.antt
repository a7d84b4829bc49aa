-- `reasons::next_line` meets its contract. The loop's invariant: what stands behind the line is the same from here on. Assumes
-- nothing.
use Prim.Native.Nat.{◌≤◌}
use native.Mathlib.Omega.{arith}
use mathlib.Core.Path.{refl, sym, ◌∙◌}
use Rattle.std.specs.Prelude.{max}
use lib.ListN.{length, drop_of_length-le}
use Rattle.reasons.specs.Reasons.{other_lines}
use Rattle.reasons.proofs.Reasons.{rest-none, rest_end, rest_more}
use Rattle.reasons.proofs.next_line.Goals as goal

pub loop-i-init : goal.loop-i-init
loop-i-init c =
    refl

pub returns-then-table-i-eq10 : goal.returns-then-table-i-eq10
returns-then-table-i-eq10 c =
    let l = c.loop-i in
    let table = c.args.table.now in
    rest_end table l.i c.loop-i-test.true c.if-table-i-eq10.true ∙ l.invariant

pub loop-i-preserved : goal.loop-i-preserved
loop-i-preserved c =
    let l = c.loop-i in
    let table = c.args.table.now in
    rest_more table l.i c.loop-i-test.true c.if-table-i-eq10.false ∙ l.invariant

pub returns : goal.returns
returns c =
    let l = c.loop-i in
    let table = c.args.table.now in
    let all : length table ≤ max c.args.from (length table) = omega arith in
    rw c.max.ensures
    (drop_of_length-le table all ∙ sym (drop_of_length-le table c.loop-i-test.false)
    ∙ rest-none table l.i c.loop-i-test.false ∙ l.invariant)
