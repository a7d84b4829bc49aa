-- `filling::put_row` meets its contract. The loop's invariant: the registers below `k` are stored. Assumes nothing.
use mathlib.Core.Path.{◌≡◌, refl, ap, ◌∙◌}
use Prim.Native.Nat.{ℕ, ◌-◌, ◌≤◌}
use native.Mathlib.Omega.{arith}
use Rattle.extraction.specs.Filling.{row_below}
use Rattle.extraction.proofs.Tables.{row-none, row-turn, put-row-path}
use borrow.Author.Rules.{rules}
use Rattle.extraction.proofs.filling.put_row.Goals as goal

pub loop-k-init : goal.loop-k-init
loop-k-init c =
    let a = c.args in (search rules, row-none a.r a.w.registers a.rows.now)

pub loop-k-preserved : goal.loop-k-preserved
loop-k-preserved c =
    let a = c.args in
    let l = c.loop-k in
    (omega arith, row-turn a.r a.w.registers a.rows.now l.k refl l.invariant.1)

pub returns : goal.returns
returns c =
    let a = c.args in
    let l = c.loop-k in
    let e : l.k ≡ 32 = omega arith in
    put-row-path a.r a.w a.rows.now refl (l.invariant.1 ∙ ap (λ (n : ℕ). row_below a.r a.w.registers n a.rows.now) e)
