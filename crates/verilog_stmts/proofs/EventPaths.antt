-- Laws of `events` by the tests of the code.
-- Assumes nothing.
use mathlib.Core.Path.{◌≡◌, refl}
use mathlib.Core.Bool.{Bool, true, false}
use mathlib.Core.List.{List}
use Prim.Native.Nat.{ℕ, zero, suc, ◌-◌}
use native.Mathlib.Numerals.{sub-one}
use Rattle.verilog_exprs.specs.declared.Put.{Put}
use Rattle.verilog_exprs.specs.Rows.{wrote}
use Rattle.verilog_stmts.specs.Steps.{State, moved, refused, after, is_next, stamp_at}
use Rattle.verilog_stmts.specs.Events.{one_more, counted, event, onward, events_behind, events}
use Rattle.verilog_stmts.proofs.Picks.{taken, left, behind}

module _ (ks ns : List ℕ) (from n : ℕ) (s : State) {z : State} where
  pub none : (g : ℕ) → g ≡ 0 → z ≡ moved refused s → z ≡ events ks ns g from n s
  unfolding events
  none g e h = rw e h

  more : (g m : ℕ) → (g ≡ 0 → ⊥) → m ≡ one_more n → z ≡ events_behind ks ns (events ks ns (g - 1) from m) from m (event ks ns s)
      → z ≡ events ks ns g from n s
  unfolding events
  more zero m k e h = absurd (k refl)
  more (suc g) m k e h = rw (sub-one, e) at h

  module _ (g m : ℕ) (k : g ≡ 0 → ⊥) (e : m ≡ one_more n) {a : Put} {bs : List ℕ} (f : wrote a bs ≡ event ks ns s) {r : Bool}
      (t : r ≡ is_next ks 19 a) where
    pub on_or : r ≡ true → z ≡ events ks ns (g - 1) from m (moved after (wrote a bs)) → z ≡ events ks ns g from n s
    unfolding events_behind onward
    on_or h x = more g m k e (behind (λ u. events_behind ks ns (events ks ns (g - 1) from m) from m u) f
        (taken (onward ks ns (events ks ns (g - 1) from m)) _ t h x))

    module _ (w : r ≡ false) {q : Bool} (v : q ≡ is_next ks 26 a) where
      pub on-comma : q ≡ true → z ≡ events ks ns (g - 1) from m (moved after (wrote a bs)) → z ≡ events ks ns g from n s
      unfolding events_behind onward
      on-comma h x = more g m k e (behind (λ u. events_behind ks ns (events ks ns (g - 1) from m) from m u) f
          (left (onward ks ns (events ks ns (g - 1) from m)) _ t w
          (taken (onward ks ns (events ks ns (g - 1) from m)) (stamp_at (counted m) from) v h x)))

      pub ended : q ≡ false → z ≡ stamp_at (counted m) from (wrote a bs) → z ≡ events ks ns g from n s
      unfolding events_behind
      ended h x = more g m k e (behind (λ u. events_behind ks ns (events ks ns (g - 1) from m) from m u) f
          (left (onward ks ns (events ks ns (g - 1) from m)) _ t w
          (left (onward ks ns (events ks ns (g - 1) from m)) (stamp_at (counted m) from) v h x)))
