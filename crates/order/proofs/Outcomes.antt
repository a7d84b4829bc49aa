-- What a call of a list does to a state that fits the sheet: accepted choices of one user, each a step of the simulation cycle, or an
-- instant, or nothing (`did`); and the state that it gives back fits again (`standing`). Number 31 never comes up along a list.
use mathlib.Core.Path.{◌≡◌, refl, sym, ap, subst, ◌∙◌}
use mathlib.Core.Bool.{true}
use mathlib.Core.List.{List, [], ◌∷◌}
use mathlib.Core.Option.{none, some}
use Prim.Native.Nat.{ℕ, ◌≤◌, ◌<◌}
use native.Mathlib.Decide.{ℕ_discrete, dec_lt}
use native.Mathlib.Omega.{arith}
use lib.ListN.{length, take}
use lib.Seq.{length-take-le}
use lib.Dec.{eqb}
use borrow.Author.Tests.{ne_eqb, eq-eqb, lt-ltb, le-ltb}
use Rattle.sheet.specs.Reading.{ok}
use Rattle.sheet.specs.Expression.{Expr}
use Rattle.sheet.specs.Module.{Module, read}
use Rattle.state.specs.declared.State.{State}
use Rattle.state.specs.State.{Shaped, users}
use Rattle.soundness.specs.Soundness.{Sound}
use Rattle.events.specs.declared.Inputs.{Inputs}
use Rattle.events.specs.declared.Ran.{Ran}
use Rattle.events.specs.declared.Rested.{Rested}
use Rattle.events.specs.declared.Verdict.TheVariants.{Refused}
use Rattle.events.specs.Calls.{judged, choose_in, choose, run_in, run_list, run_by, choices_by, plain_choice, run_plain, input_of, inputs_fit, timed, instant_refusal, instant_in, instant}
use Rattle.events.specs.Steps.{Instant}
use Rattle.events.proofs.Choices.{number-choose_in, user-refusal, state-refused, shaped-choose_in, number-instant_in, instant_in-accepted, instant_in-refused, accepted-instant, shaped-timed, shaped-feed}
use Rattle.events.proofs.Steps.{step-choose_in, instant-instant_in}
use Rattle.events.proofs.Fits.{Fits, state-fits, fits-choose_in, fits-instant_in}
use Rattle.events.proofs.Runs.{Chain, done, after, Over, all-ran, refused, over-run_in, chain-run_in, shaped-run_in, fits-run_in, length-choices_by, chain-run_by, shaped-run_by, fits-run_by}
use Rattle.order.specs.Calls.{Call, a-choice, a-run, a-plain-run, an-instant, Outcome, chosen, ran, rested, instanced, is_by, called}

-- Nothing, as in a call that is refused whole; choices of the call's user one after the other; or an instant.
pub data Did (m : Module Expr) (st : State) (k : Call) (o : Outcome) : Type 0 where
  nothing : o.state ≡ st → o.accepted ≡ 0 → o.fed ≡ none → Did m st k o
  chose : (u : ℕ) → u < users → ((v : ℕ) → is_by v k ≡ eqb u v) → (cs : List ℕ) → Chain m u st cs o.state →
      o.accepted ≡ length cs → o.fed ≡ none → Did m st k o
  was-fed : (a : Inputs) → inputs_fit m a ≡ true → Instant m st o.state (input_of a) → o.accepted ≡ 0 → o.fed ≡ some a →
      Did m st k o

-- A state as every call of the list is handed it.
pub record Standing (m : Module Expr) (st : State) : Type 0 where
  pub shaped : Shaped st
  pub fits : Fits m st

module _ (s : List ℕ) (m : Module Expr) (e : read s ≡ ok m) (w : Sound m) (st : State) (at-st : Standing m st) where
  -- The sheet is read and the state fits: the call is the call on the module.
  judged-in : {A : Type 0} (refused : ℕ → A) (accepted : Module Expr → A) → judged (read s) st refused accepted ≡ accepted m
  unfolding judged
  judged-in r f = rw (e, state-fits m st at-st.fits) refl

  pub choose-in : (u c : ℕ) → choose s st u c ≡ choose_in m st u c
  unfolding choose
  choose-in u c = judged-in (λ n. record { number = n; state = st }) (λ n. choose_in n st u c)

  run-in : (u : ℕ) → u < users → (cs : List ℕ) → run_list s st u cs ≡ run_in m u cs st
  unfolding run_list
  run-in u l cs = judged-in _ _ ∙ (rw (lt-ltb u users l) refl)

  plain_in : (u : ℕ) → u < users → (n : ℕ) → run_plain s st u n ≡ run_by m u (plain_choice m) n st
  unfolding run_plain
  plain_in u l n = judged-in _ _ ∙ (rw (lt-ltb u users l) refl)

  -- 46: no such user
  no_run : (u : ℕ) → users ≤ u → (cs : List ℕ) → run_list s st u cs ≡ record { accepted = 0; number = 46; state = st }
  unfolding run_list
  no_run u l cs = judged-in _ _ ∙ (rw (le-ltb u users l) refl)

  no_plain : (u : ℕ) → users ≤ u → (n : ℕ) → run_plain s st u n ≡ record { accepted = 0; verdict = Refused 46; state = st }
  unfolding run_plain
  no_plain u l n = judged-in _ _ ∙ (rw (le-ltb u users l) refl)

  instant-in : (a : Inputs) → instant s st a ≡ instant_in m st a
  unfolding instant
  instant-in a = judged-in (λ n. record { number = n; state = st }) (λ n. instant_in n st a)

  -- ---- a choice

  did-choice : (u c : ℕ) → Did m st (a-choice u c) (chosen (choose_in m st u c))
  unfolding chosen is_by
  did-choice u c = by (ℕ_discrete (choose_in m st u c).number 0)
    where
      by : Dec ((choose_in m st u c).number ≡ 0) → Did m st (a-choice u c) (chosen (choose_in m st u c))
      by (yes z) =
          chose u (user-refusal m st u c (sym (number-choose_in m st u c) ∙ z)) (λ v. refl) (c ∷ [])
          (after (step-choose_in m w st at-st.shaped u c z) done) (rw (eq-eqb (choose_in m st u c).number 0 z) refl) refl
      by (no z) = nothing (state-refused m st u c z) (rw (ne_eqb (choose_in m st u c).number 0 z) refl) refl

  -- ---- a run over a list

  accepted-most : (u : ℕ) (cs : List ℕ) (r : Ran) → Over m u cs r → r.accepted ≤ length cs
  accepted-most u cs r (all-ran z a) = omega arith
  accepted-most u cs r (refused l z n) = omega arith

  did-run : (u : ℕ) (cs : List ℕ) → Dec (u < users) → Did m st (a-run u cs) (ran (run_list s st u cs))
  unfolding ran is_by
  did-run u cs (yes l) =
      let n = (run_in m u cs st).accepted in
      rw (run-in u l cs)
      (chose u l (λ v. refl) (take n cs) (chain-run_in m u w cs st at-st.shaped)
      (sym (length-take-le n cs (accepted-most u cs (run_in m u cs st) (over-run_in m u cs st)))) refl)
  did-run u cs (no d) = rw (no_run u (omega arith) cs) (nothing refl refl refl)

  -- ---- a plain run

  did-plain : (u n : ℕ) → Dec (u < users) → Did m st (a-plain-run u n) (rested (run_plain s st u n))
  unfolding rested is_by
  did-plain u n (yes l) =
      rw (plain_in u l n)
      (chose u l (λ v. refl) (choices_by m u (plain_choice m) n st) (chain-run_by m u (plain_choice m) w n st at-st.shaped)
      (sym (length-choices_by m u (plain_choice m) n st)) refl)
  did-plain u n (no d) = rw (no_plain u (omega arith) n) (nothing refl refl refl)

  -- ---- an instant

  did-instant : (a : Inputs) → Did m st (an-instant a) (instanced a (instant_in m st a))
  unfolding instanced
  did-instant a = by (ℕ_discrete (instant_in m st a).number 0)
    where
      by : Dec ((instant_in m st a).number ≡ 0) → Did m st (an-instant a) (instanced a (instant_in m st a))
      by (yes z) =
          let h = accepted-instant m st a (sym (number-instant_in m st a) ∙ z) in
          was-fed a h.0 (instant-instant_in m w st at-st.shaped a z) refl (rw (eq-eqb (instant_in m st a).number 0 z) refl)
      by (no z) =
          let same : (instant_in m st a).state ≡ st = ap (λ r. r.state) (instant_in-refused m st a (λ x. z (number-instant_in m st a ∙ x))) in
          nothing same refl (rw (ne_eqb (instant_in m st a).number 0 z) refl)

  shaped-instant : (a : Inputs) → Shaped (instant_in m st a).state
  shaped-instant a = by (ℕ_discrete (instant_refusal m st a) 0)
    where
      by : Dec (instant_refusal m st a ≡ 0) → Shaped (instant_in m st a).state
      by (yes z) = rw (instant_in-accepted m st a z) (shaped-feed m (input_of a) (timed st) (shaped-timed st at-st.shaped))
      by (no z) = rw (instant_in-refused m st a z) at-st.shaped

  -- ---- every call

  pub did : (k : Call) → Did m st k (called s st k)
  unfolding called
  did (a-choice u c) = rw (choose-in u c) (did-choice u c)
  did (a-run u cs) = did-run u cs (dec_lt u users)
  did (a-plain-run u n) = did-plain u n (dec_lt u users)
  did (an-instant a) = rw (instant-in a) (did-instant a)

  ran-standing : (u : ℕ) (cs : List ℕ) → Dec (u < users) → Standing m (run_list s st u cs).state
  ran-standing u cs (yes l) =
      rw (run-in u l cs)
      (record { shaped = shaped-run_in m u w cs st at-st.shaped; fits = fits-run_in m u w cs st at-st.shaped at-st.fits })
  ran-standing u cs (no d) = rw (no_run u (omega arith) cs) at-st

  rested-standing : (u n : ℕ) → Dec (u < users) → Standing m (run_plain s st u n).state
  rested-standing u n (yes l) =
      rw (plain_in u l n)
      (record {
        shaped = shaped-run_by m u (plain_choice m) w n st at-st.shaped;
        fits = fits-run_by m u (plain_choice m) w n st at-st.shaped at-st.fits;
      })
  rested-standing u n (no d) = rw (no_plain u (omega arith) n) at-st

  pub standing : (k : Call) → Standing m (called s st k).state
  unfolding called chosen ran rested instanced
  standing (a-choice u c) =
      rw (choose-in u c)
      (record { shaped = shaped-choose_in m st u c at-st.shaped; fits = fits-choose_in m w st at-st.shaped at-st.fits u c })
  standing (a-run u cs) = ran-standing u cs (dec_lt u users)
  standing (a-plain-run u n) = rested-standing u n (dec_lt u users)
  standing (an-instant a) =
      rw (instant-in a) (record { shaped = shaped-instant a; fits = fits-instant_in m w st at-st.shaped at-st.fits a })
