-- Four users on one simulator (`users-tallied`, the claim of specs/Users), for every sheet: along a list of calls from the start, each
-- user's count is that user's accepted choices, the four together are all of them, the time is the accepted instants, and allowances
-- stay. Assumes nothing.
use mathlib.Core.Path.{◌≡◌, refl, sym, ap, subst, ◌∙◌}
use mathlib.Core.Logic.{◌≢◌}
use mathlib.Core.Bool.{Bool, true, false}
use mathlib.Core.List.{List, [], ◌∷◌}
use mathlib.Core.Option.{none}
use Prim.Native.Nat.{ℕ, ◌+◌, ◌≤◌, ◌<◌}
use native.Mathlib.Omega.{arith}
use lib.ListN.{length}
use lib.Dec.{eqb}
use borrow.Author.Tests.{eqb-true, eqb-false, ne_eqb}
use Rattle.values.specs.Values.{pick}
use Rattle.values.proofs.Values.{pick_same}
use Rattle.sheet.specs.Reading.{Res, ok, no}
use Rattle.sheet.specs.Expression.{Expr}
use Rattle.sheet.specs.Module.{Module, read}
use Rattle.state.specs.declared.State.{State}
use Rattle.state.specs.State.{users, count_of, allowance_of}
use Rattle.soundness.specs.Soundness.{Sound}
use Rattle.soundness.proofs.Soundness.{sound}
use Rattle.events.specs.declared.Inputs.{Inputs}
use Rattle.events.specs.Calls.{started, start_of, start, judged, choose, run_list, run_plain, instant}
use Rattle.events.specs.Refused.{RunRefused, the-sheet, a-later-function, a-barred-body, the-state, the-user}
use Rattle.events.proofs.Accepted.{numbered}
use Rattle.events.proofs.Fits.{CountsFit, shaped-started, fits-started, time-started, count-started, allowance-started}
use Rattle.events.proofs.Runs.{time-chain, count-chain, other-count-chain, allowance-chain}
use Rattle.order.specs.Calls.{Call, a-choice, a-run, a-plain-run, an-instant, Outcome, chosen, ran, rested, instanced, is_by, called, final, choices, choices_of, before, instants}
use Rattle.order.specs.Users.{together, Tallied, Users}
use Rattle.order.proofs.Outcomes.{Did, nothing, chose, was-fed, Standing, did, standing}

-- ---- one of the four numbers rises by n: so does their sum

four : (f g : ℕ → ℕ) (n u : ℕ) → u < users → f u ≡ g u + n → ((v : ℕ) → v ≢ u → f v ≡ g v) →
    f 0 + f 1 + f 2 + f 3 ≡ g 0 + g 1 + g 2 + g 3 + n
four f g n u l h same = by (eqb u 0) (eqb u 1) (eqb u 2) refl refl refl
  where
    at : (k : ℕ) → u ≡ k → f k ≡ g k + n
    at k e = subst (λ (k : ℕ). f k ≡ g k + n) e h

    by : (a b c : Bool) → eqb u 0 ≡ a → eqb u 1 ≡ b → eqb u 2 ≡ c → f 0 + f 1 + f 2 + f 3 ≡ g 0 + g 1 + g 2 + g 3 + n
    by true b c p q r =
        let e = eqb-true u 0 p in
        omega (arith, at 0 e, same 1 (λ d. omega arith), same 2 (λ d. omega arith), same 3 (λ d. omega arith))
    by false true c p q r =
        let e = eqb-true u 1 q in
        omega (arith, at 1 e, same 0 (λ d. omega arith), same 2 (λ d. omega arith), same 3 (λ d. omega arith))
    by false false true p q r =
        let e = eqb-true u 2 r in
        omega (arith, at 2 e, same 0 (λ d. omega arith), same 1 (λ d. omega arith), same 3 (λ d. omega arith))
    by false false false p q r =
        let x = eqb-false u 0 p in
        let y = eqb-false u 1 q in
        let z = eqb-false u 2 r in
        let e : u ≡ 3 = omega arith in
        omega (arith, at 3 e, same 0 (λ d. omega arith), same 1 (λ d. omega arith), same 2 (λ d. omega arith))

-- ---- one call

module _ (s : List ℕ) where
  -- What a call does to the counters.
  record Counted (st : State) (k : Call) (o : Outcome) : Type 0 where
    time : (l : List Inputs) → o.state.counters.time + length l ≡ st.counters.time + length (before s o.fed l)
    counts : (u : ℕ) → count_of o.state u ≡ count_of st u + pick (is_by u k) o.accepted 0
    all : together o.state ≡ together st + o.accepted
    allowances : (u : ℕ) → allowance_of o.state u ≡ allowance_of st u

  -- None accepted, and the counts as they were.
  none_more : (st : State) (k : Call) (o : Outcome) → o.accepted ≡ 0 → ((u : ℕ) → count_of o.state u ≡ count_of st u) → (u : ℕ) →
      count_of o.state u ≡ count_of st u + pick (is_by u k) o.accepted 0
  none_more st k o z same u =
      let p : pick (is_by u k) o.accepted 0 ≡ 0 = rw z (pick_same (is_by u k) 0) in
      let q = same u in
      omega arith

  none-together : (st : State) (o : Outcome) → o.accepted ≡ 0 → ((u : ℕ) → count_of o.state u ≡ count_of st u) →
      together o.state ≡ together st + o.accepted
  unfolding together
  none-together st o z same =
      let a = same 0 in
      let b = same 1 in
      let c = same 2 in
      let d = same 3 in
      omega arith

  counted-nothing : (st : State) (k : Call) (o : Outcome) → o.state ≡ st → o.accepted ≡ 0 → o.fed ≡ none → Counted st k o
  unfolding before
  counted-nothing st k o e z f =
      let same : (u : ℕ) → count_of o.state u ≡ count_of st u = λ u. ap (λ (x : State). count_of x u) e in
      record {
        time = λ l. rw f (ap (λ (x : State). x.counters.time + length l) e);
        counts = none_more st k o z same;
        all = none-together st o z same;
        allowances = λ u. ap (λ (x : State). allowance_of x u) e;
      }

  counted-did : (m : Module Expr) (st : State) (k : Call) (o : Outcome) → Did m st k o → Counted st k o
  unfolding before together
  counted-did m st k o (nothing e z f) = counted-nothing st k o e z f
  counted-did m st k o (was-fed a h i z f) =
      record {
        time = λ l. let t = i.time in rw f (omega arith);
        counts = none_more st k o z i.counts;
        all = none-together st o z i.counts;
        allowances = i.allowances;
      }
  counted-did m st k o (chose u l mine cs c a f) =
      record {
        time = λ l. let t = time-chain m u c in rw f (omega arith);
        counts = λ v. rw (mine v) (by v (eqb u v) refl);
        all = four (count_of o.state) (count_of st) o.accepted u l own (other-count-chain m u c);
        allowances = allowance-chain m u c;
      }
    where
      own : count_of o.state u ≡ count_of st u + o.accepted
      own = let t = count-chain m u c in omega arith

      by : (v : ℕ) (t : Bool) → eqb u v ≡ t → count_of o.state v ≡ count_of st v + pick t o.accepted 0
      by v true e = subst (λ (x : ℕ). count_of o.state x ≡ count_of st x + o.accepted) (eqb-true u v e) own
      by v false e = let t = other-count-chain m u c v (λ q. eqb-false u v e (sym q)) in omega arith

  -- ---- a list of calls, each from a state that they keep good

  module _ (Good : State → Type 0) (one : (st : State) → Good st → (k : Call) → Counted st k (called s st k))
      (next : (st : State) → Good st → (k : Call) → Good (called s st k).state) where
    record Sums (ks : List Call) (st : State) : Type 0 where
      time : (final s ks st).counters.time ≡ st.counters.time + length (instants s ks st)
      counts : (u : ℕ) → count_of (final s ks st) u ≡ count_of st u + choices_of s u ks st
      all : together (final s ks st) ≡ together st + choices s ks st
      allowances : (u : ℕ) → allowance_of (final s ks st) u ≡ allowance_of st u
      good : Good (final s ks st)

    sums : (ks : List Call) (st : State) → Good st → Sums ks st
    unfolding final instants choices choices_of
    sums [] st h =
        record { time = omega arith; counts = λ u. omega arith; all = omega arith; allowances = λ u. refl; good = h }
    sums (k ∷ ks) st h =
        let o = called s st k in
        let d = one st h k in
        let r = sums ks o.state (next st h k) in
        record {
          time = r.time ∙ d.time (instants s ks o.state);
          counts = λ u. let a = r.counts u in let b = d.counts u in omega arith;
          all = let a = r.all in let b = d.all in omega arith;
          allowances = λ u. r.allowances u ∙ d.allowances u;
          good = r.good;
        }

    -- From the start, with variables of the widths ws and n wires.
    tallied-from : (allowances : List ℕ) (ks : List Call) (ws : List ℕ) (n : ℕ) → (start s allowances).state ≡ started ws n allowances →
        Good (start s allowances).state → ((st : State) → Good st → CountsFit st) → Tallied s allowances ks
    unfolding together
    tallied-from allowances ks ws n e h fit =
        let st = (start s allowances).state in
        let r = sums ks st h in
        let zero : (u : ℕ) → count_of st u ≡ 0 = λ u. ap (λ (x : State). count_of x u) e ∙ count-started ws n allowances u in
        let time : st.counters.time ≡ 0 = ap (λ (x : State). x.counters.time) e ∙ time-started ws n allowances in
        let sum : together st ≡ 0 = let a = zero 0 in let b = zero 1 in let c = zero 2 in let d = zero 3 in omega arith in
        record {
          time = let a = r.time in omega arith;
          counts = λ u l. let a = r.counts u in let b = zero u in omega arith;
          all = let a = r.all in omega arith;
          allowances-stay = λ u.
              r.allowances u ∙ ap (λ (x : State). allowance_of x u) e ∙ allowance-started ws n allowances u;
          within = fit (final s ks st) r.good;
        }

-- ---- a sheet that is read

module _ (s : List ℕ) (m : Module Expr) (e : read s ≡ ok m) (w : Sound m) where
  pub all-standing : (ks : List Call) (st : State) → Standing m st → Standing m (final s ks st)
  unfolding final
  all-standing [] st h = h
  all-standing (k ∷ ks) st h = all-standing ks (called s st k).state (standing s m e w st h k)

  module _ (allowances : List ℕ) (right : length allowances ≡ users) where
    pub from_start : (start s allowances).state ≡ started m.scope.widths (length m.wires) allowances
    unfolding start start_of
    from_start = rw e refl

    pub standing-start : Standing m (start s allowances).state
    standing-start =
        rw from_start
        (record { shaped = shaped-started m.scope.widths (length m.wires) allowances right; fits = fits-started m w allowances })

    pub tallied : (ks : List Call) → Tallied s allowances ks
    tallied ks =
        tallied-from s (Standing m) (λ st h k. counted-did s m st k (called s st k) (did s m e w st h k))
        (λ st h k. standing s m e w st h k) allowances ks m.scope.widths (length m.wires) from_start standing-start (λ st h. h.fits.counts)

-- ---- a sheet that isn't: every call is refused

some_number : {n : ℕ} → RunRefused n → 1 ≤ n
some_number (the-sheet l h) = l
some_number a-later-function = omega arith
some_number a-barred-body = omega arith
some_number the-state = omega arith
some_number the-user = omega arith

module _ (s : List ℕ) (n p : ℕ) (e : read s ≡ no n p) where
  refused_all : (st : State) (k : Call) → Counted s st k (called s st k) × ((called s st k).state ≡ st)
  unfolding called chosen ran rested instanced choose run_list run_plain instant judged
  refused_all st (a-choice u c) =
      rw e (counted-nothing s st (a-choice u c) _ refl (rw (ne_eqb n 0 (λ q. omega (arith, q, some_number (numbered s n p e)))) refl) refl, refl)
  refused_all st (a-run u cs) = rw e (counted-nothing s st (a-run u cs) _ refl refl refl, refl)
  refused_all st (a-plain-run u k) = rw e (counted-nothing s st (a-plain-run u k) _ refl refl refl, refl)
  refused_all st (an-instant a) =
      rw e (counted-nothing s st (an-instant a) _ refl refl (rw (ne_eqb n 0 (λ q. omega (arith, q, some_number (numbered s n p e)))) refl), refl)

  refused-start : (allowances : List ℕ) → (start s allowances).state ≡ started [] 0 allowances
  unfolding start start_of
  refused-start allowances = rw e refl

  refused-tallied : (allowances : List ℕ) (ks : List Call) → Tallied s allowances ks
  refused-tallied allowances ks =
      let z : CountsFit (started [] 0 allowances) = λ u l. rw (count-started [] 0 allowances u) (omega arith) in
      tallied-from s CountsFit (λ st h k. (refused_all st k).0) (λ st h k. rw (refused_all st k).1 h) allowances ks [] 0
      (refused-start allowances) (rw (refused-start allowances) z) (λ st h. h)

-- ---- the theorem

pub users-tallied : Users
users-tallied s allowances right ks = by (read s) refl
  where
    by : (x : Res (Module Expr)) → read s ≡ x → Tallied s allowances ks
    by (ok m) e = tallied s m e (sound s e) allowances right ks
    by (no n p) e = refused-tallied s n p e allowances ks
