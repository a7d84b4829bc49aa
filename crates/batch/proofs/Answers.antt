-- What `run_cycles` answers on a sheet that is refused, and on one that is accepted. Assumes nothing.
use mathlib.Core.Path.{◌≡◌, refl, sym, ap, ◌∙◌}
use mathlib.Core.Bool.{Bool, true, false}
use mathlib.Core.List.{List}
use Prim.Native.Nat.{ℕ, zero, suc, ◌+◌, ◌*◌, ◌/◌}
use lib.Dec.{ltb, eqb}
use lib.ListN.{length}
use Rattle.values.specs.Values.{pick}
use Rattle.sheet.specs.Reading.{Res, ok, no}
use Rattle.sheet.specs.Expression.{Expr}
use Rattle.sheet.specs.Module.{Module, read}
use Rattle.state.specs.declared.State.{State}
use Rattle.state.specs.State.{Shaped, Bounded, users}
use Rattle.events.specs.declared.Inputs.{Inputs}
use Rattle.events.specs.declared.Chosen.{Chosen}
use Rattle.events.specs.declared.Rested.{Rested}
use Rattle.events.specs.Verdict.{number_of_verdict}
use Rattle.events.specs.Calls.{judged, state_fits, instant, run_plain}
use Rattle.events.specs.Rows.{whole_rows}
use Rattle.plan.specs.Plan.{plan_of}
use Rattle.prepared.specs.Prepared.{read_of, prepared_plan}
use Rattle.prepared.proofs.Answered.{Answered, accepted, refused, answered}
use Rattle.prepared_cycles.specs.declared.Cycled as prepared_cycles
use Rattle.prepared_cycles.specs.Cycles as prepared
use Rattle.prepared_cycles.specs.Phases.{cycles_at}
use Rattle.prepared_cycles.specs.Claims.{OnTheSheet}
use Rattle.prepared_cycles.proofs.Claims.{on-the-sheet}
use Rattle.batch.specs.declared.Cycled.{Cycled}
use Rattle.batch.specs.Cycles.{row_inputs, cycled, phases, run_cycles, told}

-- ---- the definition of the call on a plan is this one

module _ (s : List ℕ) (u : ℕ) (inputs : ℕ → Inputs) where
  same-phases : (n p : ℕ) (st : State) → told (prepared.phases s u inputs n p st) ≡ phases s u inputs n p st
  unfolding prepared.phases phases
  same-phases zero p st = refl
  same-phases (suc n) p st = by (eqb i.number 0) (eqb k 0) (same-phases n (p + 1) r.state)
    where
      i : Chosen
      i = instant s st (inputs p)

      r : Rested
      r = run_plain s i.state u 65535

      k : ℕ
      k = number_of_verdict r.verdict

      by : (a b : Bool) → told (prepared.phases s u inputs n (p + 1) r.state) ≡ phases s u inputs n (p + 1) r.state
          → told
          (pick a (pick b (prepared.phases s u inputs n (p + 1) r.state) (prepared.cycled p k true r.state))
          (prepared.cycled p i.number false st))
          ≡ pick a (pick b (phases s u inputs n (p + 1) r.state) (cycled p k true r.state)) (cycled p i.number false st)
      by true true h = h
      by true false h = refl
      by false b h = refl

module _ (s : List ℕ) (st : State) (u : ℕ) (ns xs : List ℕ) where
  abbrev rounds : ℕ
  rounds = 2 * (length ns / 16)

  abbrev on-plan : Module Expr → prepared_cycles.Cycled
  on-plan m = prepared.phases s u (row_inputs m.scope.inputs ns xs) rounds 0 st

  abbrev on-sheet : Module Expr → Cycled
  on-sheet m = phases s u (row_inputs m.scope.inputs ns xs) rounds 0 st

  -- Where the phases are the same, the call is: what is refused before them is refused alike.
  same-refusals : ((m : Module Expr) → told (on-plan m) ≡ on-sheet m) → told (prepared.run_cycles s st u ns xs) ≡ run_cycles s st u ns xs
  unfolding prepared.run_cycles run_cycles judged
  same-refusals h = by (read s)
    where
      whole : (m : Module Expr) (t a b : Bool)
          → told
          (pick t (pick a (pick b (on-plan m) (prepared.cycled 0 25 false st)) (prepared.cycled 0 46 false st)) (prepared.cycled 0 31 false st))
          ≡ pick t (pick a (pick b (on-sheet m) (cycled 0 25 false st)) (cycled 0 46 false st)) (cycled 0 31 false st)
      whole m false a b = refl
      whole m true false b = refl
      whole m true true false = refl
      whole m true true true = h m

      by : (x : Res (Module Expr))
          → told
          (judged x st (λ n. prepared.cycled 0 n false st)
          (λ m. pick (ltb u users) (pick (whole_rows ns xs) (on-plan m) (prepared.cycled 0 25 false st)) (prepared.cycled 0 46 false st)))
          ≡ judged x st (λ n. cycled 0 n false st)
          (λ m. pick (ltb u users) (pick (whole_rows ns xs) (on-sheet m) (cycled 0 25 false st)) (cycled 0 46 false st))
      by (ok m) = whole m (state_fits m st) (ltb u users) (whole_rows ns xs)
      by (no n p) = refl

  same-cycles : told (prepared.run_cycles s st u ns xs) ≡ run_cycles s st u ns xs
  same-cycles = same-refusals (λ m. same-phases s u (row_inputs m.scope.inputs ns xs) rounds 0 st)

  -- ---- a sheet that is refused, and one that is accepted

  pub read-refused : ((read_of s).number ≡ 0 → ⊥) → cycled 0 (read_of s).number false st ≡ run_cycles s st u ns xs
  unfolding run_cycles judged
  read-refused d = by (answered s)
    where
      by : Answered s → cycled 0 (read_of s).number false st ≡ run_cycles s st u ns xs
      by (accepted m e z) = absurd (d z)
      by (refused n p e z b) = rw (e, z) refl

  pub read-accepted : (read_of s).number ≡ 0 → (ws vs : List ℕ) → length ws ≡ 25212 → vs ≡ prepared_plan s ws → Shaped st → Bounded st
      → (c : prepared_cycles.Cycled) → c ≡ cycles_at (plan_of vs) st u ns xs → told c ≡ run_cycles s st u ns xs
  unfolding OnTheSheet
  read-accepted z ws vs l p h b c g = by (answered s)
    where
      by : Answered s → told c ≡ run_cycles s st u ns xs
      by (accepted m e o) =
          ap told (g ∙ ap (λ (us : List ℕ). cycles_at (plan_of us) st u ns xs) p ∙ (on-the-sheet s ws m e l st h b).cycles u ns xs) ∙ same-cycles
      by (refused n q e o d) = absurd (d (sym o ∙ z))
