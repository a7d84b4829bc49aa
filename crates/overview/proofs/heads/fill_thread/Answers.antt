-- `overview::heads::fill_thread` meets its contract. The loop's invariant: the heads of the places below `p` are noted. Assumes nothing.
use borrow.Author.Rules.{rules}
use mathlib.Core.Path.{◌≡◌, ap, ◌∙◌}
use Prim.Native.Nat.{ℕ, ◌-◌, ◌≤◌}
use native.Mathlib.Omega.{arith}
use Rattle.overview.specs.Heads.{noted, notes, heads_in}
use Rattle.overview.proofs.Noting.{in-none, in-turn, in-most}
use Rattle.overview.proofs.heads.fill_thread.Goals as goal

pub loop-p-init : goal.loop-p-init
loop-p-init c =
    let a = c.args in
    (search rules, in-none a.sheet.now a.code.now a.thread _)

pub note_wait-k-requires : goal.note_wait-k-requires
note_wait-k-requires c =
    let a = c.args in
    let m = in-most a.sheet.now a.code.now a.thread c.loop-p.p _ _ c.loop-p.invariant.1 in
    (omega arith, omega arith, omega (arith, m))

pub loop-p-preserved : goal.loop-p-preserved
loop-p-preserved c =
    let a = c.args in
    let l = c.loop-p in (
      omega arith,
      in-turn a.sheet.now a.code.now a.thread l.p _ _ _ l.invariant.1 c.fetch-x.ensures
          c.note_wait-k.ensures,
    )

pub returns : goal.returns
returns c =
    let a = c.args in
    let l = c.loop-p in
    let e : l.p ≡ a.n = omega arith in
    l.invariant.1 ∙ ap (λ (n : ℕ). notes (noted a.heads.now a.first) (heads_in a.sheet.now a.code.now a.thread n)) e
