-- `counted::reads_changed` meets its contract. The loop: of the variables so far none is read and has changed. Assumes nothing.
use native.Mathlib.Omega.{arith}
use mathlib.Core.Path.{◌≡◌, sym, ◌∙◌}
use Rattle.counted.proofs.Counting.{reads_first, reads-found, reads-next}
use Rattle.counted.proofs.reads_changed.Goals as goal

pub loop-v-init : goal.loop-v-init
loop-v-init c =
    (omega arith, reads_first _ _ _ _)

pub returns-then-reads_it : goal.returns-then-reads_it
returns-then-reads_it c =
    let l = c.loop-v in
    reads-found _ _ _ _ l.v (omega arith) l.invariant.1 (sym c.reads_it.ensures ∙ c.if-reads_it.true)

pub loop-v-preserved : goal.loop-v-preserved
loop-v-preserved c =
    let l = c.loop-v in
    (omega arith, reads-next _ _ _ _ l.v l.invariant.1 (sym c.reads_it.ensures ∙ c.if-reads_it.false))

pub returns : goal.returns
returns c =
    let l = c.loop-v in
    let e : l.v ≡ 80 = omega arith in
    sym (rw e at l.invariant.1)
