-- What the clock does to a wait that keeps rule 15: nothing where it is low afterwards (low-stays), and from 0 to 1 it fires it
-- (high-goes-on). Assumes nothing.
use mathlib.Core.Path.{◌≡◌, ◌∙◌}
use mathlib.Core.Bool.{true}
use mathlib.Core.List.{List}
use Prim.Native.Nat.{ℕ, ◌+◌, ◌<◌}
use native.Mathlib.Decide.{dec_lt}
use native.Mathlib.Omega.{arith}
use lib.ListN.{length, get_or-eq_default}
use Rattle.values.specs.Values.{known}
use Rattle.values.proofs.Edges.{posedge-0-1, posedge-to-0}
use Rattle.sheet.specs.Expression.{Expr}
use Rattle.sheet.specs.Module.{Module}
use Rattle.pseudocode.specs.Translation.{Instr, go}
use Rattle.state.specs.declared.State.{State}
use Rattle.state.specs.State.{value_of, place_of}
use Rattle.events.specs.Cycle.{instr_at, current, is_wait}
use Rattle.events.specs.Steps.{Fired, goes_on, stays}
use Rattle.events.proofs.Cycle.{absurd-bool}
use Rattle.nextstate.specs.Ruled.{Ruled}
use Rattle.threads.proofs.View.{fires-clock}

-- A wait stands inside its code.
pub wait-inside : (c : List (Instr Expr)) (p : ℕ) → is_wait (instr_at c p) ≡ true → p < length c
unfolding instr_at is_wait
wait-inside c p h = by (dec_lt p (length c))
  where
    by : Dec (p < length c) → p < length c
    by (yes l) = l
    by (no d) = absurd-bool h (rw (get_or-eq_default c (go 0) {n = p} (omega arith)))

module _ (m : Module Expr) (u : Ruled m) (old new : State) (i : ℕ) (h : is_wait (current m old i) ≡ true) where
  pub low-stays : value_of new 0 ≡ known 0 → Fired m old new i → place_of new i ≡ place_of old i
  unfolding current
  low-stays z (goes_on q e) =
      absurd-bool q (fires-clock m u i (place_of old i) (value_of old) (value_of new) h ∙ (rw z (posedge-to-0 (value_of old 0))))
  low-stays z (stays q e) = e

  pub high-goes-on :
      value_of old 0 ≡ known 0 → value_of new 0 ≡ known 1 → Fired m old new i → place_of new i ≡ place_of old i + 1
  unfolding current
  high-goes-on y z (goes_on q e) = e
  high-goes-on y z (stays q e) =
      absurd-bool (fires-clock m u i (place_of old i) (value_of old) (value_of new) h ∙ (rw (y, z) posedge-0-1)) q
