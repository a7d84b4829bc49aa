-- `plan_engine::settle` meets its contract. Assumes nothing.
use Rattle.plan_engine.proofs.Acting.{settle-made}
use borrow.Author.Rules.{rules}
use Rattle.plan_engine.proofs.settle.Goals as goal

pub returns : goal.returns
returns c = record {
  ready_after =
      settle-made _ _ _ _ _ _ _ _ _ _ _ _ c.wire-e.ensures c.evaluate-c.ensures.cells_after c.evaluate-c.ensures.value
      (rw (c.inputs.ensures, c.registers.ensures)) c.without.ensures c.store.ensures.ready_after;
  held_value = c.store.ensures.held_value;
}
