-- `masks::lowest` meets its contract. Assumes nothing.
use mathlib.Core.Path.{sym}
use native.Mathlib.Nat.{lt_of_le_of_lt}
use lib.Count.{trailing_le}
use lib.Dec.{lit<}
use Rattle.masks.proofs.Masks.{first-bits}
use Rattle.masks.proofs.lowest.Goals as goal

pub overflow_cast-result : goal.overflow_cast-result
overflow_cast-result c =
    record { fits = lt_of_le_of_lt (trailing_le 32 _) (lit< tt) }

pub returns : goal.returns
returns c =
    sym (first-bits c.args.m)
