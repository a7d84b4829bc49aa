-- `rules::mark_instr` meets its contract. Assumes nothing.
use mathlib.Core.Path.{ap}
use Rattle.tables.specs.Readers.{Marking}
use Rattle.rules.specs.Reading.{mark_instr}
use Rattle.rules.proofs.mark_instr.Goals as goal

pub returns-in_default : goal.returns-in_default
unfolding mark_instr
returns-in_default c =
    rw c.in_default.is

pub returns-in-Set : goal.returns-in-Set
unfolding mark_instr
returns-in-Set c =
    rw (c.in-Act.is, c.in-Set.is) (ap (λ (x : Marking). x.readers) c.mark_expr.ensures)

pub returns-in-Later : goal.returns-in-Later
unfolding mark_instr
returns-in-Later c =
    rw (c.in-Act.is, c.in-Later.is) (ap (λ (x : Marking). x.readers) c.mark_expr-in-Later.ensures)

pub returns-in-IfNot : goal.returns-in-IfNot
unfolding mark_instr
returns-in-IfNot c =
    rw (c.in-Act.is, c.in-IfNot.is) (ap (λ (x : Marking). x.readers) c.mark_expr-in-IfNot.ensures)

pub returns-in-Go : goal.returns-in-Go
unfolding mark_instr
returns-in-Go c =
    rw (c.in-Act.is, c.in-Go.is)
