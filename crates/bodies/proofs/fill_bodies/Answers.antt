-- The loop: what is filled so far, then the functions that are left, is the whole. Assumes nothing.
use borrow.Author.Rules.{rules}
use Prim.Native.Nat.{ℕ, ◌+◌, ◌-◌}
use native.Mathlib.Omega.{arith}
use mathlib.Core.Path.{◌≡◌, refl, sym, ap, ◌∙◌}
use lib.ListN.{length-set, replicate}
use Rattle.bodies.specs.Laying.{Laid, laid, lay_from, lay_at}
use Rattle.bodies.proofs.Laying.{function_count-most, lay-turn, lay-end, one-path}
use Rattle.bodies.proofs.fill_bodies.Goals as goal

pub loop-k-init : goal.loop-k-init
loop-k-init c =
    let n = c.function_count-count.result in
    let a = c.args in
    let e : n - 0 ≡ n = omega arith in
    let start = laid 0 (replicate 8 0) (replicate 8 0) a.code.now in
    (search rules, refl, refl, ap (λ (k : ℕ). lay_from a.sheet.now a.definitions.now k 0 start) e)

pub offset_bounds-definitions-k : goal.offset_bounds-definitions-k
offset_bounds-definitions-k c =
    omega (arith, function_count-most c.args.functions, c.function_count-count.ensures)

pub bounds-definitions-k : goal.bounds-definitions-k
bounds-definitions-k c =
    omega (arith, function_count-most c.args.functions, c.function_count-count.ensures)

pub offset_bounds-starts-k : goal.offset_bounds-starts-k
offset_bounds-starts-k c =
    omega (arith, function_count-most c.args.functions, c.function_count-count.ensures)

pub bounds-starts-k : goal.bounds-starts-k
bounds-starts-k c =
    omega (arith, function_count-most c.args.functions, c.function_count-count.ensures)

pub offset_bounds-ends-k : goal.offset_bounds-ends-k
offset_bounds-ends-k c =
    omega (arith, function_count-most c.args.functions, c.function_count-count.ensures)

pub bounds-ends-k : goal.bounds-ends-k
bounds-ends-k c =
    omega (arith, function_count-most c.args.functions, c.function_count-count.ensures)

pub loop-k-preserved : goal.loop-k-preserved
loop-k-preserved c =
    let l = c.loop-k in
    let a = c.args in
    let s = a.sheet.now in
    let ds = a.definitions.now in
    let n = c.function_count-count.result in (
      omega arith,
      simp length-set l.invariant.1,
      simp length-set l.invariant.2,
      ap (lay_from s ds (n - (l.k + 1)) (l.k + 1))
          (one-path s ds l.k l.place l.starts l.ends l.code c.body_at-at.ensures c.fill_body-f.ensures)
          ∙ sym (lay-turn s ds n l.k (laid l.place l.starts l.ends l.code) c.loop-k-test.true)
          ∙ l.invariant.3,
    )

pub returns : goal.returns
unfolding lay_at
returns c =
    let l = c.loop-k in
    let a = c.args in
    let n = c.function_count-count.result in
    let start = laid 0 (replicate 8 0) (replicate 8 0) a.code.now in
    let e =
    sym (lay-end a.sheet.now a.definitions.now n l.k (laid l.place l.starts l.ends l.code) c.loop-k-test.false)
    ∙ l.invariant.3
    ∙ ap (λ (k : ℕ). lay_from a.sheet.now a.definitions.now k 0 start) c.function_count-count.ensures in
    record {
      starts_value = ap (λ (x : Laid). x.starts) e;
      ends_value = ap (λ (x : Laid). x.ends) e;
      code_after = ap (λ (x : Laid). x.code) e;
    }
