-- `counted::readers` meets its contract. The loop: the wires so far are counted. Assumes nothing.
use native.Mathlib.Omega.{arith}
use mathlib.Core.Path.{◌≡◌, ◌∙◌, ap}
use Rattle.counted.specs.Counted.{readers_at}
use Rattle.counted.proofs.Counting.{readers-first, readers-next, from-small}
use Rattle.counted.proofs.readers.Goals as goal

pub loop-k-init : goal.loop-k-init
loop-k-init c =
    (omega arith, omega arith, readers-first _ _ _)

pub loop-k-preserved : goal.loop-k-preserved
loop-k-preserved c =
    let l = c.loop-k in (
      omega arith,
      omega (arith, c.from-count.ensures, from-small c.reads_changed-reads.result),
      readers-next _ _ _ l.k l.count _ l.invariant.2 c.reads_changed-reads.ensures c.from-count.ensures,
    )

pub returns : goal.returns
returns c =
    let l = c.loop-k in
    let e : l.k ≡ c.wires-wires.result = omega arith in
    l.invariant.2 ∙ ap (readers_at _ _ _) (e ∙ c.wires-wires.ensures)
