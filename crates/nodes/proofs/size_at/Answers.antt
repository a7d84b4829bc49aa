-- `nodes::size_at` meets its contract. Assumes nothing.
use mathlib.Core.Path.{refl}
use Rattle.nodes.proofs.Cells.{size-past, size-in}
use Rattle.nodes.proofs.size_at.Goals as goal

pub returns-then-n-lt4096 : goal.returns-then-n-lt4096
returns-then-n-lt4096 c =
    size-in _ _ refl _ c.if-n-lt4096.true

pub returns-else-n-lt4096 : goal.returns-else-n-lt4096
returns-else-n-lt4096 c =
    size-past _ _ refl _ c.if-n-lt4096.false
