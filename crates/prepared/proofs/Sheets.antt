-- A plan that `prepare` filled holds the sheet's module, and on it each call is document 01's call on the sheet. Assumes nothing.
use mathlib.Core.Path.{◌≡◌, refl, sym, ap, ◌∙◌}
use mathlib.Core.Bool.{true}
use mathlib.Core.List.{List}
use Prim.Native.Nat.{ℕ, ◌+◌}
use native.Mathlib.Omega.{arith}
use lib.Dec.{eqb}
use lib.ListN.{length}
use Rattle.values.specs.Cells.{small}
use Rattle.sheet.specs.Reading.{Res, ok, no}
use Rattle.sheet.specs.Expression.{Expr, located}
use Rattle.sheet.specs.Module.{Module, Sheet, read_sheet, read}
use Rattle.sheet.specs.Answers.{sheet_answer}
use Rattle.sheet.proofs.Reading.{no≢ok}
use Rattle.sheet.proofs.Trees.{read-located, map_res, trees}
use Rattle.state.specs.declared.State.{State}
use Rattle.state.specs.State.{Shaped, Bounded}
use Rattle.state.proofs.Rows.{list_of-is}
use Rattle.soundness.proofs.Soundness.{sound}
use Rattle.events.specs.declared.Inputs.{Inputs}
use Rattle.events.specs.Calls.{started, judged, start_of, start, choose, run_list, run_plain, input_of, instant}
use Rattle.plan.specs.Plan.{Plan, plan_of}
use Rattle.plan_fill.specs.Holding.{Holds}
use Rattle.plan_fill.proofs.Holding.{read-holds}
use Rattle.plan_fitting.proofs.Fitting.{plan-fits, plan-inputs-fit}
use Rattle.prepared.specs.Prepared.{read_of, prepared_plan, widths_of, start_at, choose_at, run_at, plain_at, instant_at}
use Rattle.prepared.proofs.Held.{plan-of}
use Rattle.prepared.proofs.Calls.{choose-at, run-at, plain-at, instant-at}

module _ (s : List ℕ) (m : Module Expr) (e : read s ≡ ok m) where
  accepted : eqb (read_of s).number 0 ≡ true
  unfolding sheet_answer map_res
  accepted = by (read_sheet (located s) s) refl
    where
      by : (x : Res (Sheet ℕ)) → read_sheet (located s) s ≡ x → eqb (sheet_answer x).number 0 ≡ true
      by (ok r) h = refl
      by (no n p) h = absurd (no≢ok (sym (read-located s ∙ ap (map_res (λ r. (trees s r).contents)) h) ∙ e))

  pub prepared-holds : (ws : List ℕ) → length ws ≡ 25212 → Holds m (plan_of (prepared_plan s ws))
  unfolding prepared_plan
  prepared-holds ws l = rw accepted (read-holds s m ws e l)

  module _ (ws : List ℕ) (l : length ws ≡ 25212) where
    abbrev q : Plan
    q = plan_of (prepared_plan s ws)

    widths-prepared : widths_of q ≡ m.scope.widths
    unfolding widths_of
    widths-prepared =
        let y = prepared-holds ws l in
        let n = q.inputs + q.registers + q.wires in
        let long : length m.scope.widths ≡ n =
        omega (arith, (sound s e).variables, y.inputs, y.registers, y.wires) in
        list_of-is q.width m.scope.widths 0 n long (λ v h. y.width v (omega (arith, long)))

    pub start-prepared : (allowances : List ℕ) → start_at q allowances ≡ (start s allowances).state
    unfolding start_at start start_of
    start-prepared allowances = (λ i. started (widths-prepared i) ((prepared-holds ws l).wires i) allowances) ∙ sym (rw e refl)

    module _ (st : State) (h : Shaped st) (b : Bounded st) where
      pub choose-prepared : (u c : ℕ) → choose_at q st u c ≡ choose s st u c
      unfolding choose judged
      choose-prepared u c =
          let y = prepared-holds ws l in
          rw e (choose-at (plan-of (prepared_plan s ws) (sound s e) y) st (plan-fits (sound s e) y st) h b u c)

      pub run-prepared : (u : ℕ) (cs : List ℕ) → run_at q st u cs ≡ run_list s st u cs
      unfolding run_list judged
      run-prepared u cs =
          let y = prepared-holds ws l in
          rw e (run-at (plan-of (prepared_plan s ws) (sound s e) y) st (plan-fits (sound s e) y st) h b u cs)

      pub plain-prepared : (u n : ℕ) → plain_at q st u n ≡ run_plain s st u n
      unfolding run_plain judged
      plain-prepared u n =
          let y = prepared-holds ws l in
          rw e (plain-at (plan-of (prepared_plan s ws) (sound s e) y) st (plan-fits (sound s e) y st) h b u n)

      -- The inputs and their marks are numbers of 32 bits, as every caller's are.
      pub instant-prepared : (a : Inputs) → ((v : ℕ) → small (input_of a v) ≡ true) → instant_at q st a ≡ instant s st a
      unfolding instant judged
      instant-prepared a f =
          let y = prepared-holds ws l in
          rw e
          (instant-at (plan-of (prepared_plan s ws) (sound s e) y) st (plan-fits (sound s e) y st) h b a
          (plan-inputs-fit (sound s e) y a) (λ n k. f n))
