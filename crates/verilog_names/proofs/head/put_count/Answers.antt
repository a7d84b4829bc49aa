-- `verilog_names::head::put_count` meets its contract. Assumes nothing.
use Rattle.verilog_names.proofs.Heading.{count-put}
use Rattle.verilog_names.proofs.head.put_count.Goals as goal

pub returns : goal.returns
returns c =
    count-put _ _ _ _ _ _ c.count_of-n.ensures c.up_to.ensures c.put_byte.ensures
