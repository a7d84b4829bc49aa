-- `netlist::words::cell_at` meets its contract: past the 4,096 nodes a blank one, else the node that its words are. Assumes nothing.
use mathlib.Core.Path.{◌∙◌}
use borrow.Author.Rules.{rules}
use Rattle.nodes.specs.Cells.{node_of}
use Rattle.netlist.proofs.Cells.{node-past, node-in}
use Rattle.netlist.proofs.words.cell_at.Goals as goal

pub returns-then-n-ge4096 : goal.returns-then-n-ge4096
unfolding node_of
returns-then-n-ge4096 c =
    node-past _ _ c.if-n-ge4096.true

pub returns : goal.returns
returns c =
    let args = c.args in
    c.cell_at.ensures ∙ node-in args.nodes.now args.n c.if-n-ge4096.false
