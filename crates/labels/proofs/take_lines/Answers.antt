-- `labels::take_lines` meets its contract. The loop's invariant: the lines that are left come to what all lines come to. Assumes nothing.
use mathlib.Core.Path.{refl, sym, ◌∙◌}
use native.Mathlib.Omega.{arith}
use native.Mathlib.Nat.{sub-zero}
use Prim.Native.Nat.{◌-◌}
use lib.ListN.{length}
use Rattle.labels.specs.Labels.{lines_taken}
use Rattle.labels.proofs.Labels.{line-inside, lines_none, lines-over, lines-stopped, lines_more}
use Rattle.labels.proofs.take_lines.Goals as goal

pub loop-init : goal.loop-init
unfolding lines_taken
loop-init c =
    rw (sub-zero (length c.args.bytes.now)) refl

pub returns-then-size-from : goal.returns-then-size-from
returns-then-size-from c =
    rw c.marked.ensures (lines-over _ _ _ c.args.bytes.now
    (length c.args.bytes.now - c.loop.counter) c.loop.from c.loop.number
    c.loop.names (omega (arith, c.loop-test.true))
    c.if-size-from.true ∙ c.loop.invariant)

pub slice_bounds-take_line-count : goal.slice_bounds-take_line-count
slice_bounds-take_line-count c =
    let x = rw (← c.line_end-end.ensures) at (line-inside c.args.bytes.now
    c.loop.from _ c.if-size-from.false) in
    omega arith

pub slice_bounds-take_line-start : goal.slice_bounds-take_line-start
slice_bounds-take_line-start c =
    let x = rw (← c.line_end-end.ensures) at (line-inside c.args.bytes.now
    c.loop.from _ c.if-size-from.false) in
    omega arith

pub slice_bounds-take_line-end : goal.slice_bounds-take_line-end
slice_bounds-take_line-end c =
    let x = rw (← c.line_end-end.ensures) at (line-inside c.args.bytes.now
    c.loop.from _ c.if-size-from.false) in
    omega arith

pub returns-then-m-ne0 : goal.returns-then-m-ne0
returns-then-m-ne0 c =
    lines-stopped _ _ _ c.args.bytes.now
    (length c.args.bytes.now - c.loop.counter)
    c.loop.from
    c.loop.number
    c.loop.names
    (omega (arith, c.loop-test.true))
    c.if-size-from.false _
    c.line_end-end.ensures _ _ c.take_line-m.ensures c.if-m-ne0.true
    ∙ c.loop.invariant

pub loop-preserved : goal.loop-preserved
loop-preserved c =
    sym (lines_more _ _ _
    c.args.bytes.now
    (length c.args.bytes.now - c.loop.counter)
    c.loop.from
    c.loop.number
    c.loop.names
    (omega (arith, c.loop-test.true))
    c.if-size-from.false _
    c.line_end-end.ensures _ _
    c.take_line-m.ensures c.if-m-ne0.false _ _ _ (omega arith)
    c.counted-from.ensures c.counted-number.ensures)
    ∙ c.loop.invariant

pub returns : goal.returns
returns c =
    rw c.marked-2.ensures (lines_none _ _ _ c.args.bytes.now (length c.args.bytes.now - c.loop.counter)
    c.loop.from c.loop.number c.loop.names
    (omega (arith, c.loop-test.false)) ∙ c.loop.invariant)
