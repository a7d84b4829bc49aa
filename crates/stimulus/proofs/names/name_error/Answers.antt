-- `stimulus::names::name_error` meets its contract, row by row. Assumes nothing.
use native.Mathlib.Omega.{arith}
use mathlib.Core.Path.{sym, ap, ◌∙◌}
use Rattle.stimulus.specs.Words.{ended}
use Rattle.stimulus.proofs.Naming.{name-none, name-long, name-digit, name-alone, name-followed}
use Rattle.stimulus.proofs.names.name_error.Goals as goal

pub returns-then-to-from : goal.returns-then-to-from
returns-then-to-from c =
    name-none _ _ _ (omega arith)

pub returns-then-to-from-gt31 : goal.returns-then-to-from-gt31
returns-then-to-from-gt31 c =
    name-long _ _ _ (omega arith) (omega arith)

pub returns-then-byte_at-lt58 : goal.returns-then-byte_at-lt58
returns-then-byte_at-lt58 c =
    name-digit _ _ _ (omega arith) (omega arith) (omega arith)

pub returns-then-at_end : goal.returns-then-at_end
returns-then-at_end c =
    name-alone _ _ _ (omega arith) (omega arith) (omega arith)
    (ap (ended _) (sym c.run_end-p.ensures) ∙ sym c.at_end.ensures ∙ c.if-at_end.true)

pub returns-else-at_end : goal.returns-else-at_end
returns-else-at_end c =
    name-followed _ _ _ (omega arith) (omega arith) (omega arith)
    (ap (ended _) (sym c.run_end-p.ensures) ∙ sym c.at_end.ensures ∙ c.if-at_end.false)
