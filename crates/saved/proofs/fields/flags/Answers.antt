-- `saved::fields::flags` meets its contract. The loop's invariant: all so far are flags, and the place is the next one's. Assumes nothing.
use Prim.Native.Nat.{◌+◌, ◌*◌}
use mathlib.Core.Path.{◌≡◌, refl, sym, ◌∙◌}
use native.Mathlib.Omega.{arith}
use borrow.Author.Rules.{rules}
use Rattle.state.specs.Rows.{all_below}
use Rattle.saved.specs.Saved.{is_flag, flags}
use Rattle.state.proofs.Rows.{all_below-step, all_below-fails}
use Rattle.saved.proofs.Bytes.{at_first, at_next}
use Rattle.saved.proofs.fields.flags.Goals as goal

pub loop-init : goal.loop-init
unfolding all_below
loop-init c =
    (search rules, search rules, at_first _ _, refl)

pub returns-then-not-is_flag : goal.returns-then-not-is_flag
unfolding flags
returns-then-not-is_flag c =
    let l = c.loop in
    let a = c.args in
    let e = sym c.is_flag.ensures ∙ c.if-not-is_flag.true in
    sym (all_below-fails (λ j. is_flag a.bytes.now (a.at + a.step * j)) a.n l.counter (search rules) (rw l.invariant.2 at e))

pub loop-preserved : goal.loop-preserved
loop-preserved c =
    let l = c.loop in
    let a = c.args in
    let e = sym c.is_flag.ensures ∙ c.if-not-is_flag.false in (
      search rules,
      search rules,
      at_next a.at a.step l.counter l.invariant.2,
      all_below-step (λ j. is_flag a.bytes.now (a.at + a.step * j)) l.counter l.invariant.3 (rw l.invariant.2 at e),
    )

pub returns : goal.returns
unfolding flags
returns c =
    let l = c.loop in
    let a = c.args in
    let e : l.counter ≡ a.n = omega arith in
    sym (rw e at l.invariant.3)
