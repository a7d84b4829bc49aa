-- Exact work of the plain run (`work`, the claim of specs/Work). Assumes nothing.
use Prim.Native.Nat.{ℕ, ◌<◌}
use mathlib.Core.Path.{◌≡◌, sym, ap, ◌∙◌, subst}
use mathlib.Core.Logic.{inl, inr}
use mathlib.Core.Bool.{true}
use mathlib.Core.List.{List}
use lib.ListN.{length}
use Rattle.sheet.specs.Reading.{ok}
use Rattle.sheet.specs.Expression.{Expr}
use Rattle.sheet.specs.Module.{Module, read}
use Rattle.sheet.proofs.Reading.{ok-injective}
use Rattle.state.specs.declared.State.{State}
use Rattle.state.specs.State.{Shaped, users, value_of}
use Rattle.soundness.specs.Soundness.{Sound}
use Rattle.soundness.proofs.Soundness.{sound}
use Rattle.events.specs.declared.Inputs.{Inputs}
use Rattle.events.specs.declared.Chosen.{Chosen}
use Rattle.events.specs.declared.Rested.{Rested}
use Rattle.events.specs.Calls.{state_fits, judged, timed, choose_in, choose, plain_choice, run_by, run_plain, input_of, instant_in, instant}
use Rattle.events.specs.Steps.{Step, Instant}
use Rattle.events.proofs.Choices.{number-instant_in, instant_in-accepted, shaped-timed, shaped-feed, shaped-choose_in}
use Rattle.events.proofs.Fits.{Fits, fits-state, state-fits, fits-choose_in, fits-instant_in}
use Rattle.events.proofs.Accepted.{demand-2}
use Rattle.nextstate.proofs.Numbers.{accepted, extracted-rule}
use Rattle.nextstate.specs.Ruled.{Ruled}
use Rattle.nextstate.proofs.Ruled.{ruled}
use Rattle.settling.proofs.Plain.{plain-sheet}
use Rattle.work.specs.Work.{up_to_commit, readers, LongEnough, taken, stores, there, Exact, Work}
use Rattle.work.proofs.Readers.{readers-count}
use Rattle.work.proofs.Turns.{Long}
use Rattle.work.proofs.Storing.{Fresh, instant-fresh, commit-fresh, stores-readers}
use Rattle.work.proofs.Enough.{long-enough}

module _ (s : List ℕ) (m : Module Expr) (r : read s ≡ ok m) (R : Ruled m) where
  abbrev w : Sound m
  w = sound s r

  exact-fresh : (u : ℕ) → u < users → (before after : State) → Shaped after → Fits m after → Fresh m (value_of before) after →
      Exact s m u before after
  unfolding readers
  exact-fresh u b before after shaped F fresh =
      record {
        exact = exactly;
        count = λ n h. ap length (exactly n h) ∙ readers-count m (value_of before) (length m.wires) (value_of (there s m u after n));
        enough = λ n l room. longer n (long-enough m w R u b n after shaped F l room);
      }
    where
      -- The call is the run, in a module that was read.
      same : (n : ℕ) → run_plain s after u n ≡ run_by m u (plain_choice m) n after
      same n = plain-sheet s m r u b after (state-fits m after F) n

      long : (n : ℕ) → LongEnough s m u after n → Long m u n after
      long n (inl h) = inl (sym (ap (λ (x : Rested). x.verdict) (same n)) ∙ h)
      long n (inr h) = inr h

      exactly : (n : ℕ) → LongEnough s m u after n → stores s m u after n ≡ readers m (value_of before) (value_of (there s m u after n))
      exactly n h =
          stores-readers m w R u (value_of before) n after shaped fresh (long n h)
          ∙ ap (λ (x : Rested). readers m (value_of before) (value_of x.state)) (sym (same (length (up_to_commit (taken s m u after n)))))

      longer : (n : ℕ) → Long m u n after → LongEnough s m u after n
      longer n (inl h) = inl (ap (λ (x : Rested). x.verdict) (same n) ∙ h)
      longer n (inr h) = inr h

  instant-sheet : (st : State) (a : Inputs) → state_fits m st ≡ true → instant s st a ≡ instant_in m st a
  unfolding instant judged
  instant-sheet st a f = rw (r, f)

  choose-sheet : (st : State) (v c : ℕ) → state_fits m st ≡ true → choose s st v c ≡ choose_in m st v c
  unfolding choose judged
  choose-sheet st v c f = rw (r, f)

  shaped-instant : (st : State) (a : Inputs) → Shaped st → (instant_in m st a).number ≡ 0 → Shaped (instant_in m st a).state
  shaped-instant st a shaped h =
      let z = sym (number-instant_in m st a) ∙ h in
      subst (λ (x : Chosen). Shaped x.state) (sym (instant_in-accepted m st a z))
      (shaped-feed m (input_of a) (timed st) (shaped-timed st shaped))

  exact-instant : (st : State) → Shaped st → (a : Inputs) → (instant s st a).number ≡ 0 → (u : ℕ) → u < users →
      Exact s m u st (instant s st a).state
  exact-instant st shaped a h u b =
      let A = demand-2.accepted-instant s st a shaped h in
      let e : A.0 ≡ m = ok-injective (sym A.1.reads ∙ r) in
      let f : state_fits m st ≡ true = subst (λ (x : Module Expr). state_fits x st ≡ true) e A.1.fits in
      let new = (instant s st a).state in
      let I : Instant m st new (input_of a) = subst (λ (x : Module Expr). Instant x st new (input_of a)) e A.2 in
      let same = sym (instant-sheet st a f) in
      exact-fresh u b st new
      (subst (λ (x : Chosen). Shaped x.state) same (shaped-instant st a shaped (ap (λ (x : Chosen). x.number) same ∙ h)))
      (subst (λ (x : Chosen). Fits m x.state) same (fits-instant_in m w st shaped (fits-state m st shaped f) a))
      (instant-fresh m w st new (input_of a) I)

  exact-commit : (st : State) → Shaped st → (v : ℕ) → (choose s st v 255).number ≡ 0 → (u : ℕ) → u < users →
      Exact s m u st (choose s st v 255).state
  exact-commit st shaped v h u b =
      let A = demand-2.accepted-choice s st v 255 shaped h in
      let e : A.0 ≡ m = ok-injective (sym A.1.reads ∙ r) in
      let f : state_fits m st ≡ true = subst (λ (x : Module Expr). state_fits x st ≡ true) e A.1.fits in
      let new = (choose s st v 255).state in
      let same = sym (choose-sheet st v 255 f) in
      exact-fresh u b st new (subst (λ (x : Chosen). Shaped x.state) same (shaped-choose_in m st v 255 shaped))
      (subst (λ (x : Chosen). Fits m x.state) same (fits-choose_in m w st shaped (fits-state m st shaped f) v 255))
      (commit-fresh m w st new (subst (λ (x : Module Expr). Step x st new v 255) e A.2))

pub work : Work
work s ns rs h =
    let A = accepted s ns rs h in
    let m = A.contents in
    let R = ruled m (sound s A.reads) (extracted-rule m A.extracts) in
    record {
      m = m;
      reads = A.reads;
      instants = exact-instant s m A.reads R;
      commits = exact-commit s m A.reads R;
    }
