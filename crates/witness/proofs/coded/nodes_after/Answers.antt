-- `coded::nodes_after` meets its contract. Assumes nothing.
use mathlib.Core.Path.{refl}
use Prim.Native.Nat.{◌≤◌}
use native.Mathlib.Omega.{arith}
use Rattle.tables.proofs.Readers.{at_most-most, at_most-same}
use Rattle.witness.proofs.Ways.{nodes-way}
use borrow.Author.Rules.{rules}
use Rattle.witness.proofs.coded.nodes_after.Goals as goal

pub thread_at-t-requires : goal.thread_at-t-requires
thread_at-t-requires c =
    omega (arith, at_most-most 7 c.args.threads, c.at_most-i.ensures)

pub offset_bounds-sizes-i : goal.offset_bounds-sizes-i
offset_bounds-sizes-i c =
    omega (arith, at_most-most 7 c.args.threads, c.at_most-i.ensures)

pub bounds-sizes-i : goal.bounds-sizes-i
bounds-sizes-i c =
    omega (arith, at_most-most 7 c.args.threads, c.at_most-i.ensures)

pub returns : goal.returns
returns c =
    let most : c.at_most-i.result ≤ 8 = omega (arith, at_most-most 7 c.args.threads, c.at_most-i.ensures) in
    nodes-way _ _ _ _ _ _ _ _ c.at_most-i.ensures c.word.ensures c.word-2.ensures c.word-3.ensures refl c.put_variables.ensures
    (rw (at_most-same 8 c.at_most-i.result most) at c.walk_threads-x.ensures) c.thread_at-t.ensures c.walk_places-y.ensures
