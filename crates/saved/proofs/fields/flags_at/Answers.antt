-- `saved::fields::flags_at` meets its contract. The loop's invariant: the elements so far are stored.
-- Assumes nothing.
use Prim.Native.Nat.{◌+◌, ◌*◌}
use mathlib.Core.Path.{◌≡◌, refl, ◌∙◌}
use native.Mathlib.Omega.{arith}
use borrow.Author.Rules.{rules}
use Rattle.state.specs.Rows.{list_of}
use Rattle.saved.specs.Saved.{flag_at, flags_at}
use Rattle.state.proofs.Rows.{list_of-step, list_of-whole}
use Rattle.saved.proofs.Bytes.{at_first, at_next}
use Rattle.saved.proofs.fields.flags_at.Goals as goal

pub loop-k-init : goal.loop-k-init
unfolding list_of
loop-k-init c =
    (search rules, search rules, at_first _ _, refl)

pub loop-k-preserved : goal.loop-k-preserved
loop-k-preserved c =
    let l = c.loop-k in
    let a = c.args in (
      search rules,
      search rules,
      at_next a.at a.step l.k l.invariant.2,
      rw (c.flag_at.ensures, l.invariant.3, l.invariant.2) (list_of-step (λ j. flag_at a.bytes.now (a.at + a.step * j)) _ l.k),
    )

pub returns : goal.returns
unfolding flags_at
returns c =
    let l = c.loop-k in
    let a = c.args in
    let e : l.k ≡ 32 = omega arith in
    rw e at l.invariant.3 ∙ list_of-whole (λ j. flag_at a.bytes.now (a.at + a.step * j)) _ 32 refl
