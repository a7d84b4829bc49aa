-- `stimulus::read_values` meets its contract. The loop's invariant: the values from input `k` on, taken from `at` on and put beside those
-- that are there, give the whole. Assumes nothing.
use native.Mathlib.Omega.{arith}
use mathlib.Core.Path.{◌≡◌, refl, sym, ap, ◌∙◌}
use Prim.Native.Nat.{ℕ, ◌+◌, ◌-◌}
use lib.ListN.{get_or, length-set, replicate}
use Rattle.stimulus.specs.declared.Class.TheVariants.{Blank}
use Rattle.stimulus.specs.declared.Taken.{Taken}
use Rattle.stimulus.specs.Lines.{cell_at, taken, line_with, values_from, values_of}
use Rattle.stimulus.proofs.Runs.{run_inside}
use Rattle.stimulus.proofs.Lines.{slots-few, cell-inside, taken-inside, values-turn, values-stop, values-done}
use Rattle.stimulus.proofs.read_values.Goals as goal

pub loop-k-init : goal.loop-k-init
unfolding values_of
loop-k-init c =
    let a = c.args in (
      omega arith,
      c.requires,
      refl,
      refl,
      ap (λ (x : ℕ). values_from a.line.now a.widths.now (x - 1) 1 a.from (replicate 16 0) (replicate 16 0)) c.slots-n.ensures,
    )

pub cell_at-p-requires : goal.cell_at-p-requires
cell_at-p-requires c =
    c.loop-k.invariant.1

pub take_value-t-requires : goal.take_value-t-requires
take_value-t-requires c =
    let j = cell-inside c.args.line.now c.loop-k.k c.loop-k.at c.loop-k.invariant.1 in
    rw c.cell_at-p.ensures j

pub returns-then-t-ne0 : goal.returns-then-t-ne0
returns-then-t-ne0 c =
    let a = c.args in
    let w = c.byte_at.ensures in
    let e : c.take_value-t.result ≡ taken a.line.now (cell_at a.line.now c.loop-k.k c.loop-k.at) (get_or a.widths.now c.loop-k.k 0)
    = cc (c.take_value-t.ensures, c.cell_at-p.ensures, w) in
    sym
    (values-stop a.line.now a.widths.now _ c.loop-k.k c.loop-k.at c.loop-k.value c.loop-k.unknown _ e
    c.loop-k-test.true c.if-t-ne0.true)
    ∙ c.loop-k.invariant.4

pub bounds-value-slot : goal.bounds-value-slot
bounds-value-slot c =
    let h = slots-few c.args.inputs in
    let e = c.slots-n.ensures in
    let g = c.loop-k-test.true in
    let i = c.loop-k.invariant.2 in
    omega arith

pub bounds-unknown-slot : goal.bounds-unknown-slot
bounds-unknown-slot c =
    let h = slots-few c.args.inputs in
    let e = c.slots-n.ensures in
    let g = c.loop-k-test.true in
    let i = c.loop-k.invariant.3 in
    omega arith

pub loop-k-preserved : goal.loop-k-preserved
loop-k-preserved c =
    let a = c.args in
    let w = c.byte_at.ensures in
    let e : c.take_value-t.result ≡ taken a.line.now (cell_at a.line.now c.loop-k.k c.loop-k.at) (get_or a.widths.now c.loop-k.k 0)
    = cc (c.take_value-t.ensures, c.cell_at-p.ensures, w) in
    let j = cell-inside a.line.now c.loop-k.k c.loop-k.at c.loop-k.invariant.1 in
    let i = taken-inside a.line.now c.cell_at-p.result c.byte_at.result (rw c.cell_at-p.ensures j) in
    let f = ap (λ (x : Taken). x.to) c.take_value-t.ensures in (
      omega arith,
      omega arith,
      length-set c.loop-k.value _ _ ∙ c.loop-k.invariant.2,
      length-set c.loop-k.unknown _ _ ∙ c.loop-k.invariant.3,
      sym
          (values-turn a.line.now a.widths.now _ c.loop-k.k c.loop-k.at c.loop-k.value c.loop-k.unknown _ e
          c.loop-k-test.true _ refl c.if-t-ne0.false)
          ∙ c.loop-k.invariant.4,
    )

pub overflow_add-result : goal.overflow_add-result
overflow_add-result c =
    let g = c.well_formed in
    let h = c.run_end-p.ensures in
    let i = run_inside Blank c.args.line.now c.loop-k.at c.loop-k.invariant.1 in
    record { fits = omega arith }

pub returns : goal.returns
returns c =
    let a = c.args in
    let k : c.loop-k.k ≡ c.max.result = omega (arith, c.max.ensures) in
    ap (λ (x : ℕ). line_with c.surplus-error.result (c.run_end-p.result + 1) x c.loop-k.value c.loop-k.unknown) (sym k)
    ∙ sym
    (values-done a.line.now a.widths.now _ c.loop-k.k c.loop-k.at c.loop-k.value c.loop-k.unknown _ _
    c.run_end-p.ensures c.surplus-error.ensures c.loop-k-test.false)
    ∙ c.loop-k.invariant.4
