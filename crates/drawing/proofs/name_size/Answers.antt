-- `drawing::name_size` meets its contract. Assumes nothing.
use native.Mathlib.Omega.{arith}
use Rattle.drawing.proofs.Laws.{name-32, name-size-bit, name-size-bits}
use Rattle.drawing.proofs.name_size.Goals as goal

pub returns-then-byte_at-lt2 : goal.returns-then-byte_at-lt2
returns-then-byte_at-lt2 c =
    name-size-bit _ _ _ _ _ c.name_length-n.ensures c.byte_at.ensures c.if-byte_at-lt2.true

pub overflow_add-result : goal.overflow_add-result
overflow_add-result c =
    omega (arith, c.name_length-n.ensures, name-32 c.args.names.now c.args.v)

pub returns : goal.returns
returns c =
    name-size-bits _ _ _ _ _ c.name_length-n.ensures c.byte_at.ensures c.if-byte_at-lt2.false
