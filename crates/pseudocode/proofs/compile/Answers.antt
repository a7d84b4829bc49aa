-- The loop: what is filled so far, then the threads that are left, is the whole.
use Prim.Native.Nat.{ℕ, ◌+◌, ◌-◌}
use native.Mathlib.Omega.{arith}
use mathlib.Core.Path.{◌≡◌, refl, sym, ap, ◌∙◌}
use lib.ListN.{length-set, replicate}
use Rattle.pseudocode.specs.Compiling.{Compiled, compiled, compile_from, compile_at}
use Rattle.pseudocode.proofs.Compiling.{thread_count-most, compile-turn, compile-end, thread-path}
use borrow.Author.Rules.{rules}
use Rattle.pseudocode.proofs.compile.Goals as goal

pub loop-t-init : goal.loop-t-init
loop-t-init c =
    let n = c.thread_count-count.result in
    let e : n - 0 ≡ n = omega arith in
    let start = compiled c.args.body (replicate 8 0) c.args.code.now in
    (search rules, refl, ap (λ (k : ℕ). compile_from c.args.sheet.now c.args.definitions.now k 0 start) e)

pub offset_bounds-sizes-t : goal.offset_bounds-sizes-t
offset_bounds-sizes-t c =
    omega (arith, thread_count-most c.args.threads, c.thread_count-count.ensures)

pub bounds-sizes-t : goal.bounds-sizes-t
bounds-sizes-t c =
    omega (arith, thread_count-most c.args.threads, c.thread_count-count.ensures)

pub loop-t-preserved : goal.loop-t-preserved
loop-t-preserved c =
    let l = c.loop-t in
    let s = c.args.sheet.now in
    let ds = c.args.definitions.now in
    let n = c.thread_count-count.result in (
      omega arith,
      simp length-set l.invariant.1,
      ap (compile_from s ds (n - (l.t + 1)) (l.t + 1)) (thread-path s ds l.t l.next l.sizes l.code c.fill_forever-f.ensures)
          ∙ sym (compile-turn s ds n l.t (compiled l.next l.sizes l.code) c.loop-t-test.true)
          ∙ l.invariant.2,
    )

pub returns : goal.returns
unfolding compile_at
returns c =
    let l = c.loop-t in
    let a = c.args in
    let n = c.thread_count-count.result in
    let start = compiled a.body (replicate 8 0) a.code.now in
    let e =
    sym (compile-end a.sheet.now a.definitions.now n l.t (compiled l.next l.sizes l.code) c.loop-t-test.false)
    ∙ l.invariant.2
    ∙ ap (λ (k : ℕ). compile_from a.sheet.now a.definitions.now k 0 start) c.thread_count-count.ensures in
    (record { value = ap (λ (c : Compiled). c.sizes) e; code_after = ap (λ (c : Compiled). c.code) e })
