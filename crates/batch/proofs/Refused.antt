-- "A refused call alters nothing", as specs/Refused states it for `run_cycles`. Assumes nothing.
use mathlib.Core.Path.{◌≡◌, refl}
use mathlib.Core.Bool.{Bool, true, false}
use mathlib.Core.List.{List}
use Prim.Native.Nat.{ℕ, zero, suc, ◌+◌, ◌*◌, ◌/◌, ◌≤◌}
use native.Mathlib.Omega.{arith}
use lib.ListN.{length}
use lib.Dec.{ltb, eqb}
use Rattle.values.specs.Values.{pick}
use Rattle.sheet.specs.Expression.{Expr}
use Rattle.sheet.specs.Module.{Module}
use Rattle.state.specs.declared.State.{State}
use Rattle.state.specs.State.{users}
use Rattle.events.specs.declared.Inputs.{Inputs}
use Rattle.events.specs.declared.Chosen.{Chosen}
use Rattle.events.specs.declared.Rested.{Rested}
use Rattle.events.specs.Verdict.{number_of_verdict}
use Rattle.events.specs.Calls.{instant, run_plain}
use Rattle.events.specs.Rows.{whole_rows}
use Rattle.events.proofs.Accepted.{Judged, refuses, called, judged-judged}
use Rattle.batch.specs.declared.Cycled.{Cycled}
use Rattle.batch.specs.Cycles.{row_inputs, cycled, phases, run_cycles}
use Rattle.batch.specs.Refused.{Unaltered}

module _ (s : List ℕ) (u : ℕ) (inputs : ℕ → Inputs) where
  -- From instant number p on at least p are counted.
  least : (n p : ℕ) (st : State) → p ≤ (phases s u inputs n p st).phases
  unfolding phases
  least zero p st = omega arith
  least (suc n) p st = by (eqb i.number 0) (eqb k 0) (least n (p + 1) r.state)
    where
      i : Chosen
      i = instant s st (inputs p)

      r : Rested
      r = run_plain s i.state u 65535

      k : ℕ
      k = number_of_verdict r.verdict

      by : (a b : Bool) → p + 1 ≤ (phases s u inputs n (p + 1) r.state).phases →
          p ≤ (pick a (pick b (phases s u inputs n (p + 1) r.state) (cycled p k true r.state)) (cycled p i.number false st)).phases
      by true true h = omega arith
      by true false h = omega arith
      by false b h = omega arith

  -- Where none was accepted and no run was stopped, nothing has changed.
  unmoved :
      (n p : ℕ) (st : State) → (phases s u inputs n p st).phases ≡ p → (phases s u inputs n p st).running ≡ false →
      (phases s u inputs n p st).state ≡ st
  unfolding phases
  unmoved zero p st e f = refl
  unmoved (suc n) p st e f = by (eqb i.number 0) (eqb k 0) (least n (p + 1) r.state) e f
    where
      i : Chosen
      i = instant s st (inputs p)

      r : Rested
      r = run_plain s i.state u 65535

      k : ℕ
      k = number_of_verdict r.verdict

      on : Bool → Bool → Cycled
      on a b = pick a (pick b (phases s u inputs n (p + 1) r.state) (cycled p k true r.state)) (cycled p i.number false st)

      by : (a b : Bool) → p + 1 ≤ (phases s u inputs n (p + 1) r.state).phases → (on a b).phases ≡ p → (on a b).running ≡ false →
          (on a b).state ≡ st
      by true true h e f = absurd (omega arith)
      by true false h e f = cc
      by false b h e f = refl

pub unaltered : Unaltered
unfolding run_cycles
unaltered s st u ns xs e f = by (judged-judged s st bad good) e f
  where
    bad : ℕ → Cycled
    bad n = cycled 0 n false st

    run : Module Expr → Cycled
    run m = phases s u (row_inputs m.scope.inputs ns xs) (2 * (length ns / 16)) 0 st

    good : Module Expr → Cycled
    good m = pick (ltb u users) (pick (whole_rows ns xs) (run m) (cycled 0 25 false st)) (cycled 0 46 false st)

    whole : (m : Module Expr) (a b : Bool) →
        let c = pick a (pick b (run m) (cycled 0 25 false st)) (cycled 0 46 false st) in
        c.phases ≡ 0 → c.running ≡ false → c.state ≡ st
    whole m true true e f = unmoved s u (row_inputs m.scope.inputs ns xs) (2 * (length ns / 16)) 0 st e f
    whole m true false e f = refl
    whole m false b e f = refl

    by : {r : Cycled} → Judged s st bad good r → r.phases ≡ 0 → r.running ≡ false → r.state ≡ st
    by (refuses x q) e f = rw q refl
    by (called {m = m} k q) e f = rw q (whole m (ltb u users) (whole_rows ns xs) (rw q at e) (rw q at f))
