-- `verilog_bytes::has_room` meets its contract. Assumes nothing.
use borrow.Author.Tests.{le-ltb}
use Rattle.verilog_bytes.proofs.Moving.{room-test}
use Rattle.verilog_bytes.proofs.has_room.Goals as goal

pub returns-then-from-pos : goal.returns-then-from-pos
returns-then-from-pos c =
    room-test _ _ _ c.if-from-pos.true c.requires

pub returns-else-from-pos : goal.returns-else-from-pos
returns-else-from-pos c =
    rw (le-ltb _ _ c.if-from-pos.false)
