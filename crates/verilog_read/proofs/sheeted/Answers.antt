-- `verilog_read::sheeted` meets its contract. Assumes nothing.
use borrow.Author.Rules.{rules}
use Rattle.verilog_read.specs.Read.{padded}
use Rattle.verilog_read.proofs.Wholes.{held-room, held-take, sheeted-whole}
use Rattle.verilog_read.proofs.sheeted.Goals as goal

pub slice_bounds-held-end : goal.slice_bounds-held-end
slice_bounds-held-end c =
    held-room (padded c.write-end.new.out 65536 0) c.hold.ensures _ c.roomed-k.ensures.1

pub slice_bounds-judge-end : goal.slice_bounds-judge-end
slice_bounds-judge-end c =
    held-take (padded c.write-end.new.out 65536 0) c.hold.ensures _ c.roomed-k.ensures.1

pub returns : goal.returns
returns c =
    sheeted-whole _ _ _ _ _ c.read.ensures c.write-end.ensures c.hold.ensures c.roomed-k.ensures.0 c.judge.ensures
