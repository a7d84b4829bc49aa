-- `plan_engine::defer` meets its contract. Assumes nothing.
use borrow.Author.Tests.{lt-ltb, le-ltb}
use Rattle.plan_engine.specs.Acting.{pending_with, held_with}
use borrow.Author.Rules.{rules}
use Rattle.plan_engine.proofs.defer.Goals as goal

pub returns-then-r-ge32 : goal.returns-then-r-ge32
unfolding pending_with held_with
returns-then-r-ge32 c =
    let h = le-ltb _ _ (rw c.register_of-r.ensures at c.if-r-ge32.true) in
    (record { pending_after = rw h; result_value = rw h })

pub returns : goal.returns
unfolding pending_with held_with
returns c =
    let h = lt-ltb _ _ (rw c.register_of-r.ensures at c.if-r-ge32.false) in
    record {
      pending_after = rw (c.store.ensures, c.load.ensures, c.register_of-r.ensures, h);
      result_value = rw (c.with.ensures, c.register_of-r.ensures, h);
    }
