-- Rows of inputs as a single cycle run is given them, and cycle run after cycle run as `run` answers. Assumes nothing.
use mathlib.Core.Path.{◌≡◌, refl, ◌∙◌}
use mathlib.Core.Bool.{Bool, true, false}
use mathlib.Core.List.{List, [], ◌∷◌}
use Prim.Native.Nat.{ℕ, zero, suc, ◌+◌, ◌<◌}
use native.Mathlib.Omega.{arith}
use lib.ListN.{get_or, get_or-append}
use lib.Dec.{eqb}
use Rattle.values.specs.Values.{pick}
use Rattle.values.specs.Planes.{value_at}
use Rattle.sheet.specs.Expression.{Expr}
use Rattle.sheet.specs.Module.{Module}
use Rattle.state.specs.Rows.{list_of}
use Rattle.state.proofs.Rows.{length-list_of, get_d-list_of}
use Rattle.soundness.specs.Soundness.{Sound}
use Rattle.events.specs.declared.Inputs.{Inputs}
use Rattle.events.specs.Calls.{input_of}
use Rattle.nextstate.specs.declared.Registers.{Registers}
use Rattle.nextstate.specs.declared.Clocked.{Clocked}
use Rattle.clock_run.specs.Rounds as rounds
use Rattle.clock_run.specs.Rounds.{ended_at, row_at, repeat_from}
use Rattle.clock_claims.specs.Claims.{RowInputs}
use Rattle.clock_claims.proofs.Lists.{planes-same}
use Rattle.cycles.specs.Many.{items_from, inputs_from, row_inputs, registers_of, ended, cycles_from}
use Rattle.cycles.specs.Claims.{cycled_of}

-- ---- the items of a row

items_at : (ns : List ℕ) (i v : ℕ) → v < 15 → get_or (items_from ns i) v 0 ≡ get_or ns (i + v) 0
unfolding items_from
items_at ns i v l =
    get_or-append (list_of 15 (λ v. get_or ns (i + v) 0)) (0 ∷ []) 0 v (omega (arith, length-list_of (λ v. get_or ns (i + v) 0) 15))
    ∙ get_d-list_of (λ v. get_or ns (i + v) 0) 15 v 0 l

-- Item v of a row.
item-value : (inputs : ℕ) (ns us : List ℕ) (r v : ℕ) → v < 15 → input_of (row_inputs inputs ns us r) v ≡ value_at ns us (row_at r + v)
unfolding input_of row_inputs inputs_from
item-value inputs ns us r v l =
    planes-same (items_from ns (row_at r)) (items_from us (row_at r)) ns us v (row_at r + v) (items_at ns (row_at r) v l)
    (items_at us (row_at r) v l)

pub row-inputs : (m : Module Expr) → Sound m → (vs xs : List ℕ) → RowInputs m vs xs (row_inputs m.scope.inputs vs xs)
unfolding row_inputs inputs_from
row-inputs m z vs xs =
    record {
      count = λ r. omega (arith, z.inputs-some);
      item = λ r v o u. item-value m.scope.inputs vs xs r v (omega (arith, z.inputs-most));
    }

-- ---- cycle after cycle

module _ (call : Registers → Inputs → Clocked) (inputs : ℕ → Inputs) where
  pub repeat-is : (n r : ℕ) (c : Clocked) → cycled_of (repeat_from call inputs n r c) ≡ cycles_from call inputs n r c
  unfolding cycled_of repeat_from cycles_from ended_at registers_of
  repeat-is zero r c = refl
  repeat-is (suc n) r c =
      let d = call (rounds.registers_of c) (inputs r) in
      by (eqb d.number 0) (repeat-is n (r + 1) d)
    where
      d : Clocked
      d = call (rounds.registers_of c) (inputs r)

      by : (t : Bool) → cycled_of (repeat_from call inputs n (r + 1) d) ≡ cycles_from call inputs n (r + 1) d →
          cycled_of (pick t (repeat_from call inputs n (r + 1) d) (ended_at r d.number c))
          ≡ pick t (cycles_from call inputs n (r + 1) d) (ended r d.number c)
      by true h = h
      by false h = refl
