-- `prepared::due_below` meets its contract. The loop's invariant: the marks so far are those of the wires below `k`. Assumes nothing.
use mathlib.Core.Path.{◌≡◌, ◌∙◌}
use native.Mathlib.Numerals.{add-one}
use native.Mathlib.Omega.{arith}
use Rattle.masks.proofs.Masks.{bits-zero}
use Rattle.events.specs.Calls.{due_below}
use Rattle.prepared.proofs.due_below.Goals as goal

pub loop-k-init : goal.loop-k-init
unfolding due_below
loop-k-init c =
    (omega arith, bits-zero)

pub loop-k-preserved : goal.loop-k-preserved
unfolding due_below
loop-k-preserved c =
    let l = c.loop-k in
    (omega arith, rw (add-one l.k, ← l.invariant.1) c.with-due.ensures)

pub returns : goal.returns
returns c =
    let l = c.loop-k in
    let e : l.k ≡ c.args.n = omega arith in
    c.flags.ensures ∙ (rw e at l.invariant.1)
