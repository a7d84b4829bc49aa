-- `verilog::put_edge` meets its contract. Assumes nothing.
use mathlib.Core.Path.{sym, ap, ◌∙◌}
use Rattle.writing.specs.Ascii.{ascii}
use Rattle.writing.specs.Buffer.{puts}
use Rattle.writing.proofs.Buffer.{puts-nil}
use Rattle.values.specs.Edges.{edge_of}
use Rattle.verilog.specs.Verilog.{edge_text}
use Rattle.verilog.proofs.Printing.{edge_other}
use Rattle.verilog.proofs.put_edge.Goals as goal

pub returns-in-0 : goal.returns-in-0
unfolding edge_of edge_text
returns-in-0 c =
    rw c.in-0.is (sym (puts-nil _))

pub returns-in-1 : goal.returns-in-1
unfolding edge_of edge_text ascii
returns-in-1 c =
    rw c.in-1.is c.put_word.ensures

pub returns-in_default : goal.returns-in_default
unfolding ascii
returns-in_default c =
    c.put_word-in_default.ensures ∙ ap (puts _)
    (sym (edge_other _ c.in_default.in_default-own.rest.0.1 c.in_default.in_default-own.rest.1))
