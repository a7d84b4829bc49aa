-- `verilog_origins::item_place` meets its contract. Assumes nothing.
use mathlib.Core.Path.{refl}
use Rattle.verilog_origins.proofs.Origins.{place-head, place-body}
use Rattle.verilog_origins.proofs.item_place.Goals as goal

pub returns-then-place-head : goal.returns-then-place-head
returns-then-place-head c =
    place-head _ _ _ _ _ _ _ c.read.ensures refl c.put_head-head.ensures
    c.if-place-head.true c.declared.ensures

pub returns : goal.returns
returns c =
    place-body _ _ _ _ _ _ _ c.read.ensures refl c.put_head-head.ensures
    c.if-place-head.false c.token_of-t.ensures c.place_at.ensures
