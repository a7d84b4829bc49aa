-- `evaluation::operands_of` meets its contract, map by map. Assumes nothing.
use mathlib.Core.Path.{sym}
use Rattle.evaluation.specs.Bytes.{operands_of}
use Rattle.evaluation.proofs.Bytes.{operands_of-none}
use Rattle.evaluation.proofs.operands_of.Goals as goal

pub returns-in-17 : goal.returns-in-17
unfolding operands_of
returns-in-17 c =
    rw c.in-17.is

pub returns-in-49 : goal.returns-in-49
unfolding operands_of
returns-in-49 c =
    rw c.in-49.is

pub returns-in-113 : goal.returns-in-113
unfolding operands_of
returns-in-113 c =
    rw c.in-113.is

pub returns-in-128 : goal.returns-in-128
unfolding operands_of
returns-in-128 c =
    rw (c.byte_at.ensures, c.definition_at.ensures, c.in-128.is)

pub returns-in_default : goal.returns-in_default
returns-in_default c =
    let r = c.in_default.in_default-own.rest in
    sym (operands_of-none _ _ _ _ r.0.0.0.1 r.0.0.1 r.0.1 r.1)
