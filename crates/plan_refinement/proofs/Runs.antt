-- Runs on a plan are the runs of the simulation cycle: over a list of choices, and the plain run. Assumes nothing.
use mathlib.Core.Path.{◌≡◌, refl, sym, ap, ◌∙◌, subst}
use mathlib.Core.Bool.{Bool, true, false, not}
use mathlib.Core.List.{List, [], ◌∷◌}
use Prim.Native.Nat.{ℕ, zero, suc, ◌+◌, ◌-◌, ◌<◌}
use native.Mathlib.Omega.{arith}
use lib.Dec.{eqb}
use borrow.Author.Tests.{eqb-true, eqb-false}
use Rattle.values.specs.Values.{pick}
use Rattle.sheet.specs.Expression.{Expr}
use Rattle.sheet.specs.Module.{Module}
use Rattle.state.specs.declared.State.{State}
use Rattle.state.specs.State.{Shaped, users, count_of, allowance_of}
use Rattle.events.specs.declared.Chosen.{Chosen}
use Rattle.events.specs.declared.Ran.{Ran}
use Rattle.events.specs.declared.Verdict.TheVariants.{Quiet, Spent, Stopped}
use Rattle.events.specs.declared.Rested.{Rested}
use Rattle.events.specs.Verdict.{number_of_verdict}
use Rattle.events.specs.Cycle.{quiet}
use Rattle.events.specs.Calls.{refusal, choose_in, run_in, resting, run_by}
use Rattle.events.specs.Calls as calls
use Rattle.events.proofs.Cycle.{absurd-bool}
use Rattle.events.proofs.Choices.{number-choose_in, choose_in-accepted, state-refused, count-performed, allowance-performed, shaped-choose_in}
use Rattle.events.proofs.Fits.{Fits, fits-choose_in}
use Rattle.refinement.proofs.Kept.{Kept, fits_kept}
use Rattle.plan.specs.Plan.{Plan}
use Rattle.plan_engine.specs.Live.{Live}
use Rattle.plan_engine.specs.Taking.{Taken, take_choice}
use Rattle.plan_engine.specs.Running.{Run, run, onward, run_list, busy, plain_choice, run_plain}
use Rattle.plan_engine.proofs.Taking.{choice-room}
use Rattle.plan_refinement.specs.Refinement.{Shows, Takes, Runs, Rests, Room, PlanOf}
use Rattle.plan_refinement.proofs.Choices.{busy-shows, plain-shows, take-shows}

module _ {m : Module Expr} {q : Plan} (w : PlanOf m q) (u : ℕ) (user : u < users) where
  -- The room that an accepted choice leaves.
  room-accepted : (st : State) (room c : ℕ) (l : Live) → Shaped st → Room u room st
      → Takes m (choose_in m st u c) (take_choice q room c l) → (choose_in m st u c).number ≡ 0
      → Room u (room - 1) (choose_in m st u c).state
  room-accepted st room c l g e t h =
      let x : refusal m st u c ≡ 0 = sym (number-choose_in m st u c) ∙ h in
      let f : room ≡ 0 → ⊥ = λ z. choice-room q room z c l (t.number ∙ h) in
      rw (choose_in-accepted m st u c x) (omega (arith, count-performed m st u c g user, allowance-performed m st u c u))

  -- ---- over a list

  onward-runs : (r : Chosen) (t : Taken) (a : Run) (b : Ran) → Takes m r t → (r.number ≡ 0 → Runs m b a)
      → Runs m (calls.onward r b) (onward t a)
  unfolding onward calls.onward
  onward-runs r t a b z h = by (eqb r.number 0) refl (eqb t.number 0) refl
    where
      same : eqb t.number 0 ≡ eqb r.number 0
      same = ap (λ (n : ℕ). eqb n 0) z.number

      by : (x : Bool) → eqb r.number 0 ≡ x → (y : Bool) → eqb t.number 0 ≡ y
          → Runs m
          (pick x (record { accepted = b.accepted + 1; number = b.number; state = b.state })
          (record { accepted = 0; number = r.number; state = r.state }))
          (pick y (run (a.accepted + 1) a.number a.left) (run 0 t.number t.left))
      by true e true f =
          let g = h (eqb-true r.number 0 e) in
          record { accepted = ap (λ (n : ℕ). n + 1) g.accepted; number = g.number; left = g.left }
      by true e false f = absurd-bool (same ∙ e) f
      by false e true f = absurd-bool f (same ∙ e)
      by false e false f = record { accepted = refl; number = z.number; left = z.left }

  pub run_list-shows : (cs : List ℕ) (st : State) (room : ℕ) (l : Live) → Shaped st → Fits m st → Room u room st → Shows m st l
      → Runs m (run_in m u cs st) (run_list q cs room l)
  unfolding run_list run_in
  run_list-shows [] st room l g f e z = record { accepted = refl; number = refl; left = z }
  run_list-shows (c ∷ cs) st room l g f e z =
      let t = take-shows w st (fits_kept g f) u user room e l z c in
      let x = (choose_in m st u c).state in
      onward-runs (choose_in m st u c) (take_choice q room c l) (run_list q cs (room - 1) (take_choice q room c l).left) (run_in m u cs x) t
      (λ h. run_list-shows cs x (room - 1) (take_choice q room c l).left (shaped-choose_in m st u c g)
      (fits-choose_in m w.sound st g f u c) (room-accepted st room c l g e t h) t.left)

  -- ---- the plain run

  resting-rests : (st : State) (c : ℕ) (t : Taken) (a : Run) (b : Rested) → Takes m (choose_in m st u c) t
      → ((choose_in m st u c).number ≡ 0 → Rests m b a) → Rests m (resting st (choose_in m st u c) b) (onward t a)
  unfolding onward resting number_of_verdict
  resting-rests st c t a b z h = by (eqb r.number 0) refl (eqb t.number 0) refl
    where
      r : Chosen
      r = choose_in m st u c

      same : eqb t.number 0 ≡ eqb r.number 0
      same = ap (λ (n : ℕ). eqb n 0) z.number

      by : (x : Bool) → eqb r.number 0 ≡ x → (y : Bool) → eqb t.number 0 ≡ y
          → Rests m
          (pick x (record { accepted = b.accepted + 1; verdict = b.verdict; state = b.state })
          (record { accepted = 0; verdict = Stopped r.number; state = st }))
          (pick y (run (a.accepted + 1) a.number a.left) (run 0 t.number t.left))
      by true e true f =
          let g = h (eqb-true r.number 0 e) in
          record { accepted = ap (λ (n : ℕ). n + 1) g.accepted; number = g.number; left = g.left }
      by true e false f = absurd-bool (same ∙ e) f
      by false e true f = absurd-bool f (same ∙ e)
      by false e false f =
          record {
            accepted = refl;
            number = z.number;
            left = subst (λ (x : State). Shows m x t.left) (state-refused m st u c (eqb-false r.number 0 e)) z.left;
          }

  spent-rests : (st : State) (l : Live) (t : Bool) → Shows m st l
      → Rests m (record { accepted = 0; verdict = pick t Quiet Spent; state = st }) (run 0 0 l)
  unfolding number_of_verdict
  spent-rests st l true z = record { accepted = refl; number = refl; left = z }
  spent-rests st l false z = record { accepted = refl; number = refl; left = z }

  -- One choice of the plain run; `rest` is the run that follows.
  plain_step : (st : State) (room : ℕ) (l : Live) → Kept m st → Shows m st l → (rest : Live → Run) (b : Rested)
      → Rests m (resting st (choose_in m st u (calls.plain_choice m st)) b)
      (onward (take_choice q room (calls.plain_choice m st) l) (rest (take_choice q room (calls.plain_choice m st) l).left))
      → Rests m
      (pick (quiet m st) (record { accepted = 0; verdict = Quiet; state = st })
      (resting st (choose_in m st u (calls.plain_choice m st)) b))
      (pick (busy l)
      (onward (take_choice q room (plain_choice q l) l) (rest (take_choice q room (plain_choice q l) l).left))
      (run 0 0 l))
  unfolding number_of_verdict
  plain_step st room l k z rest b h =
      subst (Rests m (pick (quiet m st) (record { accepted = 0; verdict = Quiet; state = st }) (resting st (choose_in m st u c) b)))
      (λ i. choices (sym (busy-shows w st k l z) i) (sym (plain-shows w st k l z) i))
      (by (quiet m st))
    where
      c : ℕ
      c = calls.plain_choice m st

      choices : Bool → ℕ → Run
      choices t x = pick t (onward (take_choice q room x l) (rest (take_choice q room x l).left)) (run 0 0 l)

      by : (t : Bool)
          → Rests m (pick t (record { accepted = 0; verdict = Quiet; state = st }) (resting st (choose_in m st u c) b))
          (choices (not t) c)
      by true = record { accepted = refl; number = refl; left = z }
      by false = h

  pub run_plain-shows : (n : ℕ) (st : State) (room : ℕ) (l : Live) → Shaped st → Fits m st → Room u room st → Shows m st l
      → Rests m (run_by m u (calls.plain_choice m) n st) (run_plain q n room l)
  unfolding run_plain run_by
  run_plain-shows zero st room l g f e z = spent-rests st l (quiet m st) z
  run_plain-shows (suc n) st room l g f e z =
      let c = calls.plain_choice m st in
      let t = take-shows w st (fits_kept g f) u user room e l z c in
      let x = (choose_in m st u c).state in
      let y = take_choice q room c l in
      plain_step st room l (fits_kept g f) z (run_plain q n (room - 1)) (run_by m u (calls.plain_choice m) n x)
      (resting-rests st c y (run_plain q n (room - 1) y.left) (run_by m u (calls.plain_choice m) n x) t
      (λ h. run_plain-shows n x (room - 1) y.left (shaped-choose_in m st u c g) (fits-choose_in m w.sound st g f u c)
      (room-accepted st room c l g e t h) t.left))
