-- Laws of the two runs (document 01: "A run over a list of choices ends at the first refused one and returns the number
-- accepted. The plain run .. takes the lowest enabled item, else the commit. It says quiet exactly when the state reached is
-- quiet, spent exactly when N choices ran and it isn't, and otherwise gives 36, met before the Nth", 47 "where 36 stood"),
-- each of one user:
--   run_in-append, run_in-stopped   a run over two lists, one after the other;
--   chain-run_in, chain-run_by      the accepted choices, each a step from the state that the one before it left;
--   run_in-choices_by               a run that picks its choices is the run over the list of those that it took;
--   plain-lowest, plain-commit    what the plain run picks, and plainly-run_by: each of its choices is such a one;
--   ended-plain                   how the plain run ends, and verdict-quiet, verdict-spent, verdict-stopped both ways;
--   fits-run_in, fits-run_by        the state reached fits the sheet.
-- Assumes nothing.
use mathlib.Core.Path.{◌≡◌, refl, sym, ap, ◌∙◌}
use mathlib.Core.Logic.{◌≢◌, ◌↔◌}
use mathlib.Core.Bool.{Bool, true, false, ◌||◌}
use mathlib.Core.List.{List, [], ◌∷◌, ◌++◌}
use Prim.Native.Nat.{ℕ, zero, suc, ◌+◌, ◌≤◌, ◌<◌}
use native.Mathlib.Decide.{ℕ_discrete, dec_lt}
use native.Mathlib.Numerals.{add-one}
use native.Mathlib.Omega.{arith}
use lib.ListN.{length, take}
use lib.Seq.{length-take-le, take-length}
use lib.Dec.{eqb}
use borrow.Author.Tests.{not-false, eq-eqb, ne_eqb}
use Rattle.values.specs.Values.{pick}
use Rattle.sheet.specs.Expression.{Expr}
use Rattle.sheet.specs.Module.{Module}
use Rattle.state.specs.declared.State.{State}
use Rattle.state.specs.State.{Shaped, users, count_of, allowance_of}
use Rattle.soundness.specs.Soundness.{Sound}
use Rattle.events.specs.declared.Chosen.{Chosen}
use Rattle.events.specs.declared.Ran.{Ran}
use Rattle.events.specs.declared.Verdict.TheVariants.{Quiet, Spent, Stopped}
use Rattle.events.specs.declared.Rested.{Rested}
use Rattle.events.specs.Verdict.{number_of_verdict}
use Rattle.events.specs.Cycle.{items, any_below, enabled, any_enabled, any_pending, quiet}
use Rattle.events.specs.Calls.{spend, choose_in, onward, run_in, resting, run_by, choices_by, lowest, plain_choice}
pub use Rattle.events.specs.Runs.{Chain, done, after, Over, all-ran, refused, Ended, at_rest, spent, stopped}
use Rattle.events.specs.Runs.{Plainest, the-lowest, the-commit, Plainly, rests, goes, Says}
use Rattle.events.proofs.Cycle.{absurd-bool, or_left, or_right, none_below}
use Rattle.events.proofs.Choices.{spend-used, spend-zero, none-enabled, some-pending, Ready, commit-ready, ready-item, refusal-ready, number-choose_in, state-refused, shaped-choose_in}
use Rattle.events.proofs.Steps.{step-choose_in}
use Rattle.events.proofs.Fits.{Fits, fits-choose_in}

-- ---- one choice more

module _ (r : Chosen) (rest : Ran) where
  pub onward-accepted :
      r.number ≡ 0 → onward r rest ≡ record { accepted = rest.accepted + 1; number = rest.number; state = rest.state }
  unfolding onward
  onward-accepted h = rw h

  pub onward-refused : r.number ≢ 0 → onward r rest ≡ record { accepted = 0; number = r.number; state = r.state }
  unfolding onward
  onward-refused h = rw (ne_eqb r.number 0 h)

module _ (st : State) (r : Chosen) (rest : Rested) where
  pub resting-accepted :
      r.number ≡ 0 → resting st r rest ≡ record { accepted = rest.accepted + 1; verdict = rest.verdict; state = rest.state }
  unfolding resting
  resting-accepted h = rw h

  pub resting-refused : r.number ≢ 0 → resting st r rest ≡ record { accepted = 0; verdict = Stopped r.number; state = st }
  unfolding resting
  resting-refused h = rw (ne_eqb r.number 0 h)

-- ---- a run over two lists, one after the other

-- Two runs as one: the second from the state that the first reached.
unfoldable pub joined : Ran → Ran → Ran
joined a b = record { accepted = a.accepted + b.accepted; number = b.number; state = b.state }

module _ (a b : Ran) (z : ◌≡◌ {A = ℕ} a.accepted 0) where
  joined-zero : joined a b ≡ b
  unfolding joined
  joined-zero =
      let e : a.accepted + b.accepted ≡ b.accepted = omega arith in
      λ i. record { accepted = e i; number = b.number; state = b.state }

joined-suc :
    (a b : Ran) →
    ◌≡◌ {A = Ran} (record { accepted = (joined a b).accepted + 1; number = (joined a b).number; state = (joined a b).state })
    (joined (record { accepted = a.accepted + 1; number = a.number; state = a.state }) b)
unfolding joined
joined-suc a b =
    let e : a.accepted + b.accepted + 1 ≡ a.accepted + 1 + b.accepted = omega arith in
    λ i. record { accepted = e i; number = b.number; state = b.state }

module _ (m : Module Expr) (u : ℕ) (ds : List ℕ) where
  -- The second run goes on from where the first ended, if nothing stopped that.
  pub run_in-append :
      (cs : List ℕ) (st : State) → (run_in m u cs st).number ≡ 0 →
      run_in m u (cs ++ ds) st ≡ joined (run_in m u cs st) (run_in m u ds (run_in m u cs st).state)
  unfolding run_in
  run_in-append [] st h = sym (joined-zero (run_in m u [] st) (run_in m u ds st) refl)
  run_in-append (c ∷ cs) st h = by (ℕ_discrete r.number 0) (run_in-append cs r.state)
    where
      r : Chosen
      r = choose_in m st u c

      rest : Ran
      rest = run_in m u cs r.state

      by : Dec (r.number ≡ 0) → (rest.number ≡ 0 → run_in m u (cs ++ ds) r.state ≡ joined rest (run_in m u ds rest.state)) →
          onward r (run_in m u (cs ++ ds) r.state) ≡ joined (onward r rest) (run_in m u ds (onward r rest).state)
      by (yes z) ih =
          let e = onward-accepted r rest z in
          rw (onward-accepted r (run_in m u (cs ++ ds) r.state) z, e, ih (rw e at h)) (joined-suc rest (run_in m u ds rest.state))
      by (no z) ih = absurd (z (rw (onward-refused r rest z) at h))

  -- A run that was stopped is the whole run.
  pub run_in-stopped : (cs : List ℕ) (st : State) → (run_in m u cs st).number ≢ 0 → run_in m u (cs ++ ds) st ≡ run_in m u cs st
  unfolding run_in
  run_in-stopped [] st h = absurd (h refl)
  run_in-stopped (c ∷ cs) st h = by (ℕ_discrete r.number 0) (run_in-stopped cs r.state)
    where
      r : Chosen
      r = choose_in m st u c

      rest : Ran
      rest = run_in m u cs r.state

      by : Dec (r.number ≡ 0) → (rest.number ≢ 0 → run_in m u (cs ++ ds) r.state ≡ rest) →
          onward r (run_in m u (cs ++ ds) r.state) ≡ onward r rest
      by (yes z) ih = rw (ih (rw (onward-accepted r rest z) at h))
      by (no z) ih = onward-refused r (run_in m u (cs ++ ds) r.state) z ∙ sym (onward-refused r rest z)

-- ---- the accepted choices as steps

module _ (m : Module Expr) (u : ℕ) where
  pub over-run_in : (cs : List ℕ) (st : State) → Over m u cs (run_in m u cs st)
  unfolding run_in
  over-run_in [] st = all-ran refl refl
  over-run_in (c ∷ cs) st = by (ℕ_discrete r.number 0) (over-run_in cs r.state)
    where
      r : Chosen
      r = choose_in m st u c

      rest : Ran
      rest = run_in m u cs r.state

      on : Over m u cs rest → Over m u (c ∷ cs) (record { accepted = rest.accepted + 1; number = rest.number; state = rest.state })
      on (all-ran n a) = all-ran n (omega arith)
      on (refused l z n) = refused (omega arith) z (n ∙ (rw (add-one rest.accepted) refl))

      by : Dec (r.number ≡ 0) → Over m u cs rest → Over m u (c ∷ cs) (onward r rest)
      by (yes z) ih = rw (onward-accepted r rest z) (on ih)
      by (no z) ih = rw (onward-refused r rest z) (refused (omega arith) z (rw (state-refused m st u c z) (number-choose_in m st u c)))

  module _ (w : Sound m) where
    pub chain-run_in :
        (cs : List ℕ) (st : State) → Shaped st → Chain m u st (take (run_in m u cs st).accepted cs) (run_in m u cs st).state
    unfolding run_in
    chain-run_in [] st s = done
    chain-run_in (c ∷ cs) st s = by (ℕ_discrete r.number 0) (chain-run_in cs r.state (shaped-choose_in m st u c s))
      where
        r : Chosen
        r = choose_in m st u c

        rest : Ran
        rest = run_in m u cs r.state

        by : Dec (r.number ≡ 0) → Chain m u r.state (take rest.accepted cs) rest.state →
            Chain m u st (take (onward r rest).accepted (c ∷ cs)) (onward r rest).state
        by (yes z) ih =
            rw (onward-accepted r rest z, add-one rest.accepted) (after (step-choose_in m w st s u c z) ih)
        by (no z) ih =
            rw (onward-refused r rest z, state-refused m st u c z) done

    pub shaped-run_in : (cs : List ℕ) (st : State) → Shaped st → Shaped (run_in m u cs st).state
    unfolding run_in
    shaped-run_in [] st s = s
    shaped-run_in (c ∷ cs) st s = by (ℕ_discrete r.number 0) (shaped-run_in cs r.state (shaped-choose_in m st u c s))
      where
        r : Chosen
        r = choose_in m st u c

        rest : Ran
        rest = run_in m u cs r.state

        by : Dec (r.number ≡ 0) → Shaped rest.state → Shaped (onward r rest).state
        by (yes z) ih = rw (onward-accepted r rest z) ih
        by (no z) ih = rw (onward-refused r rest z) (shaped-choose_in m st u c s)

    pub fits-run_in : (cs : List ℕ) (st : State) → Shaped st → Fits m st → Fits m (run_in m u cs st).state
    unfolding run_in
    fits-run_in [] st s f = f
    fits-run_in (c ∷ cs) st s f =
        by (ℕ_discrete r.number 0) (fits-run_in cs r.state (shaped-choose_in m st u c s) (fits-choose_in m w st s f u c))
      where
        r : Chosen
        r = choose_in m st u c

        rest : Ran
        rest = run_in m u cs r.state

        by : Dec (r.number ≡ 0) → Fits m rest.state → Fits m (onward r rest).state
        by (yes z) ih = rw (onward-accepted r rest z) ih
        by (no z) ih = rw (onward-refused r rest z) (fits-choose_in m w st s f u c)

-- ---- a run that picks its choices: it is the run over the list of those that it took

module _ (m : Module Expr) (u : ℕ) (next : State → ℕ) where
  pub run_in-choices_by :
      (n : ℕ) (st : State) →
      run_in m u (choices_by m u next n st) st
      ≡ record { accepted = (run_by m u next n st).accepted; number = 0; state = (run_by m u next n st).state }
  unfolding run_in run_by choices_by
  run_in-choices_by zero st = refl
  run_in-choices_by (suc n) st = by (quiet m st) (ℕ_discrete r.number 0) (run_in-choices_by n r.state)
    where
      r : Chosen
      r = choose_in m st u (next st)

      cs : List ℕ
      cs = choices_by m u next n r.state

      rest : Rested
      rest = run_by m u next n r.state

      still : Rested
      still = record { accepted = 0; verdict = Quiet; state = st }

      by : (q : Bool) → Dec (r.number ≡ 0) →
          run_in m u cs r.state ≡ record { accepted = rest.accepted; number = 0; state = rest.state } →
          run_in m u (pick q [] (pick (eqb r.number 0) (next st ∷ cs) [])) st
          ≡ record {
            accepted = (pick q still (resting st r rest)).accepted;
            number = 0;
            state = (pick q still (resting st r rest)).state;
          }
      by true z ih = refl
      by false (yes z) ih =
          rw (resting-accepted st r rest z, eq-eqb r.number 0 z) (onward-accepted r (run_in m u cs r.state) z ∙ (rw ih refl))
      by false (no z) ih = rw (resting-refused st r rest z, ne_eqb r.number 0 z)

  pub length-choices_by : (n : ℕ) (st : State) → length (choices_by m u next n st) ≡ (run_by m u next n st).accepted
  unfolding run_by choices_by
  length-choices_by zero st = refl
  length-choices_by (suc n) st = by (quiet m st) (ℕ_discrete r.number 0) (length-choices_by n r.state)
    where
      r : Chosen
      r = choose_in m st u (next st)

      cs : List ℕ
      cs = choices_by m u next n r.state

      rest : Rested
      rest = run_by m u next n r.state

      by : (q : Bool) → Dec (r.number ≡ 0) → length cs ≡ rest.accepted →
          length (pick q [] (pick (eqb r.number 0) (next st ∷ cs) []))
          ≡ (pick q (record { accepted = 0; verdict = Quiet; state = st }) (resting st r rest)).accepted
      by true z ih = refl
      by false (yes z) ih = rw (resting-accepted st r rest z, eq-eqb r.number 0 z) (omega arith)
      by false (no z) ih = rw (resting-refused st r rest z, ne_eqb r.number 0 z)

  module _ (w : Sound m) (n : ℕ) (st : State) (s : Shaped st) where
    pub chain-run_by : Chain m u st (choices_by m u next n st) (run_by m u next n st).state
    chain-run_by =
        let cs = choices_by m u next n st in
        rw (run_in-choices_by n st, sym (length-choices_by n st), take-length cs) at (chain-run_in m u w cs st s)

    pub shaped-run_by : Shaped (run_by m u next n st).state
    shaped-run_by = rw (run_in-choices_by n st) at (shaped-run_in m u w (choices_by m u next n st) st s)

    pub fits-run_by : Fits m st → Fits m (run_by m u next n st).state
    fits-run_by f = rw (run_in-choices_by n st) at (fits-run_in m u w (choices_by m u next n st) st s f)

-- ---- the counters: one more for each accepted choice, for its user alone

module _ (m : Module Expr) (u : ℕ) where
  pub count-chain : {old new : State} {cs : List ℕ} → Chain m u old cs new → count_of new u ≡ count_of old u + length cs
  count-chain done = omega arith
  count-chain (after s h) = let x = count-chain h in omega (arith, s.count)

  pub other-count-chain :
      {old new : State} {cs : List ℕ} → Chain m u old cs new → (v : ℕ) → v ≢ u → count_of new v ≡ count_of old v
  other-count-chain done v d = refl
  other-count-chain (after s h) v d = other-count-chain h v d ∙ s.other-counts v d

  pub allowance-chain : {old new : State} {cs : List ℕ} → Chain m u old cs new → (v : ℕ) → allowance_of new v ≡ allowance_of old v
  allowance-chain done v = refl
  allowance-chain (after s h) v = allowance-chain h v ∙ s.allowances v

  pub time-chain : {old new : State} {cs : List ℕ} → Chain m u old cs new → new.counters.time ≡ old.counters.time
  time-chain done = refl
  time-chain (after s h) = time-chain h ∙ s.time

  module _ (w : Sound m) (st : State) (s : Shaped st) where
    pub count-run_in : (cs : List ℕ) → count_of (run_in m u cs st).state u ≡ count_of st u + (run_in m u cs st).accepted
    count-run_in cs = by (over-run_in m u cs st)
      where
        n : ℕ
        n = (run_in m u cs st).accepted

        within : n ≤ length cs → count_of (run_in m u cs st).state u ≡ count_of st u + n
        within l = rw (length-take-le n cs l) at (count-chain (chain-run_in m u w cs st s))

        by : Over m u cs (run_in m u cs st) → count_of (run_in m u cs st).state u ≡ count_of st u + n
        by (all-ran z a) = within (omega arith)
        by (refused l z e) = within (omega arith)

    pub other-count-run_in : (cs : List ℕ) (v : ℕ) → v ≢ u → count_of (run_in m u cs st).state v ≡ count_of st v
    other-count-run_in cs = other-count-chain (chain-run_in m u w cs st s)

    pub allowance-run_in : (cs : List ℕ) (v : ℕ) → allowance_of (run_in m u cs st).state v ≡ allowance_of st v
    allowance-run_in cs = allowance-chain (chain-run_in m u w cs st s)

    pub time-run_in : (cs : List ℕ) → (run_in m u cs st).state.counters.time ≡ st.counters.time
    time-run_in cs = time-chain (chain-run_in m u w cs st s)

    pub count-run_by :
        (next : State → ℕ) (n : ℕ) → count_of (run_by m u next n st).state u ≡ count_of st u + (run_by m u next n st).accepted
    count-run_by next n = rw (length-choices_by m u next n st) at (count-chain (chain-run_by m u next w n st s))

    pub other-count-run_by : (next : State → ℕ) (n v : ℕ) → v ≢ u → count_of (run_by m u next n st).state v ≡ count_of st v
    other-count-run_by next n = other-count-chain (chain-run_by m u next w n st s)

    pub allowance-run_by : (next : State → ℕ) (n v : ℕ) → allowance_of (run_by m u next n st).state v ≡ allowance_of st v
    allowance-run_by next n = allowance-chain (chain-run_by m u next w n st s)

    pub time-run_by : (next : State → ℕ) (n : ℕ) → (run_by m u next n st).state.counters.time ≡ st.counters.time
    time-run_by next n = time-chain (chain-run_by m u next w n st s)

-- ---- the plain choice: "takes the lowest enabled item, else the commit"

module _ (f : ℕ → Bool) where
  pub lowest-none : (n other : ℕ) → any_below n f ≡ false → lowest n f other ≡ other
  unfolding lowest any_below
  lowest-none zero other h = refl
  lowest-none (suc n) other h =
      lowest-none n (pick (f n) n other) (or_left (any_below n f) (f n) h) ∙ (rw (or_right (any_below n f) (f n) h) refl)

  pub lowest-some :
      (n other : ℕ) → any_below n f ≡ true →
      (lowest n f other < n) × (f (lowest n f other) ≡ true) × ((k : ℕ) → k < lowest n f other → f k ≡ false)
  unfolding lowest any_below
  lowest-some zero other h = absurd-bool h refl
  lowest-some (suc n) other h = by (any_below n f) refl (lowest-some n (pick (f n) n other)) h
    where
      k : ℕ
      k = lowest n f (pick (f n) n other)

      by : (t : Bool) → any_below n f ≡ t →
          (any_below n f ≡ true → (k < n) × (f k ≡ true) × ((j : ℕ) → j < k → f j ≡ false)) → (t || f n) ≡ true →
          (k < suc n) × (f k ≡ true) × ((j : ℕ) → j < k → f j ≡ false)
      by true e ih q = let s = ih e in (omega (arith, s.0), s.1, s.2)
      by false e ih q =
          let z : k ≡ n = lowest-none n (pick (f n) n other) e ∙ (rw q refl) in
          (omega arith, rw z q, λ j l. none_below f n e j (omega arith))

module _ (m : Module Expr) (st : State) where
  pub plain-lowest :
      any_enabled m st ≡ true →
      (plain_choice m st < items m) × (enabled m st (plain_choice m st) ≡ true)
      × ((c : ℕ) → c < plain_choice m st → enabled m st c ≡ false)
  unfolding plain_choice any_enabled
  plain-lowest h = lowest-some (enabled m st) (items m) 255 h

  pub plain-commit : any_enabled m st ≡ false → plain_choice m st ≡ 255
  unfolding plain_choice any_enabled
  plain-commit h = lowest-none (enabled m st) (items m) 255 h

  -- In a state that isn't quiet it is ready: nothing but 47 refuses it.
  pub plain_ready : quiet m st ≡ false → Ready m st (plain_choice m st)
  unfolding quiet
  plain_ready h = by (any_enabled m st) refl (not-false (any_enabled m st || any_pending m st) h)
    where
      by : (t : Bool) → any_enabled m st ≡ t → (t || any_pending m st) ≡ true → Ready m st (plain_choice m st)
      by true e q = let p = plain-lowest e in ready-item m st (plain_choice m st) p.0 p.1
      by false e q =
          let p = some-pending m st q in
          rw (plain-commit e) (commit-ready (none-enabled m st e) p.0 p.1 p.2)

  pub plain-refusal :
      (u : ℕ) → Sound m → u < users → quiet m st ≡ false → (choose_in m st u (plain_choice m st)).number ≡ spend st u
  plain-refusal u w b h = number-choose_in m st u (plain_choice m st) ∙ refusal-ready m st u w b (plain_ready h)

-- ---- the plain run's choices, each the plainest in its state

module _ (m : Module Expr) where
  plainest : (st : State) → quiet m st ≡ false → Plainest m st (plain_choice m st)
  plainest st q = by (any_enabled m st) refl
    where
      by : (t : Bool) → any_enabled m st ≡ t → Plainest m st (plain_choice m st)
      by true e = let p = plain-lowest m st e in the-lowest p.0 p.1 p.2
      by false e = rw (plain-commit m st e) (the-commit (none-enabled m st e))

  pub plainly-run_by :
      (u : ℕ) → Sound m → (n : ℕ) (st : State) → Shaped st →
      Plainly m u st (choices_by m u (plain_choice m) n st) (run_by m u (plain_choice m) n st).state
  unfolding run_by choices_by
  plainly-run_by u w zero st s = rests
  plainly-run_by u w (suc n) st s =
      by (quiet m st) refl (ℕ_discrete r.number 0) (plainly-run_by u w n r.state (shaped-choose_in m st u c s))
    where
      c : ℕ
      c = plain_choice m st

      r : Chosen
      r = choose_in m st u c

      cs : List ℕ
      cs = choices_by m u (plain_choice m) n r.state

      rest : Rested
      rest = run_by m u (plain_choice m) n r.state

      by : (q : Bool) → quiet m st ≡ q → Dec (r.number ≡ 0) → Plainly m u r.state cs rest.state →
          Plainly m u st (pick q [] (pick (eqb r.number 0) (c ∷ cs) []))
          (pick q (record { accepted = 0; verdict = Quiet; state = st }) (resting st r rest)).state
      by true e z ih = rests
      by false e (yes z) ih =
          rw (resting-accepted st r rest z, eq-eqb r.number 0 z) (goes (plainest st e) (step-choose_in m w st s u c z) ih)
      by false e (no z) ih = rw (resting-refused st r rest z, ne_eqb r.number 0 z) rests

-- ---- how the plain run ends

module _ (m : Module Expr) (u : ℕ) (w : Sound m) (b : u < users) where
  ended-zero :
      (st : State) (q : Bool) → quiet m st ≡ q →
      Ended m u 0 (record { accepted = 0; verdict = pick q Quiet Spent; state = st })
  ended-zero st true h = at_rest refl h (omega arith)
  ended-zero st false h = spent refl h refl

  ended-suc :
      (n : ℕ) (r : Rested) → Ended m u n r →
      Ended m u (suc n) (record { accepted = r.accepted + 1; verdict = r.verdict; state = r.state })
  ended-suc n r (at_rest v q a) = at_rest v q (omega arith)
  ended-suc n r (spent v q a) = spent v q (omega arith)
  ended-suc n r (stopped v q a c) = stopped v q (omega arith) c

  pub ended-plain : (n : ℕ) (st : State) → Shaped st → Fits m st → Ended m u n (run_by m u (plain_choice m) n st)
  unfolding run_by
  ended-plain zero st s f = ended-zero st (quiet m st) refl
  ended-plain (suc n) st s f =
      by (quiet m st) refl (ended-plain n r.state (shaped-choose_in m st u c s) (fits-choose_in m w st s f u c))
    where
      c : ℕ
      c = plain_choice m st

      r : Chosen
      r = choose_in m st u c

      rest : Rested
      rest = run_by m u (plain_choice m) n r.state

      room : quiet m st ≡ false → Dec (count_of st u < allowance_of st u) → Ended m u n rest → Ended m u (suc n) (resting st r rest)
      room q (no d) ih =
          let z : r.number ≡ 47 = plain-refusal m st u w b q ∙ spend-used st u (omega arith) in
          let most = f.counts u b in
          rw (resting-refused st r rest (λ x. omega arith)) (stopped (ap Stopped z) q (omega arith) (omega arith))
      room q (yes l) ih =
          let z : r.number ≡ 0 = plain-refusal m st u w b q ∙ spend-zero st u l in
          rw (resting-accepted st r rest z) (ended-suc n rest ih)

      by : (q : Bool) → quiet m st ≡ q → Ended m u n rest →
          Ended m u (suc n) (pick q (record { accepted = 0; verdict = Quiet; state = st }) (resting st r rest))
      by true q ih = at_rest refl q (omega arith)
      by false q ih = room q (dec_lt (count_of st u) (allowance_of st u)) ih

-- ---- the verdicts, both ways

module _ (m : Module Expr) (u n : ℕ) (r : Rested) where
  -- "It says quiet exactly when the state reached is quiet"
  pub verdict-quiet : Ended m u n r → (r.verdict ≡ Quiet) ↔ (quiet m r.state ≡ true)
  verdict-quiet (at_rest v q a) = (λ e. q, λ e. v)
  verdict-quiet (spent v q a) = (λ e. cc, λ e. absurd-bool e q)
  verdict-quiet (stopped v q a c) = (λ e. cc, λ e. absurd-bool e q)

  -- "spent exactly when N choices ran and it isn't"
  pub verdict-spent : Ended m u n r → (r.verdict ≡ Spent) ↔ ((r.accepted ≡ n) × (quiet m r.state ≡ false))
  verdict-spent (at_rest v q a) = (λ e. (cc, cc), λ e. absurd-bool q e.1)
  verdict-spent (spent v q a) = (λ e. (a, q), λ e. v)
  verdict-spent (stopped v q a c) = (λ e. (cc, cc), λ e. absurd (omega (arith, e.0)))

  -- "and otherwise gives 36, met before the Nth": 47 "where 36 stood"
  pub verdict-stopped :
      Ended m u n r → (r.verdict ≡ Stopped 47) ↔ ((r.accepted < n) × (quiet m r.state ≡ false))
  verdict-stopped (at_rest v q a) = (λ e. let z : ◌≡◌ {A = ℕ} 0 1 = cc in absurd (omega arith), λ e. absurd-bool q e.1)
  verdict-stopped (spent v q a) = (λ e. let z : ◌≡◌ {A = ℕ} 0 1 = cc in absurd (omega arith), λ e. absurd (omega (arith, e.0)))
  verdict-stopped (stopped v q a c) = (λ e. (a, q), λ e. v)

  -- The number, 0 if none stopped it.
  pub number-stopped : Ended m u n r → (number_of_verdict r.verdict ≡ 47) ↔ (r.verdict ≡ Stopped 47)
  unfolding number_of_verdict
  number-stopped (at_rest v q a) = (λ e. absurd (omega (arith, rw v at e)), λ e. cc)
  number-stopped (spent v q a) = (λ e. absurd (omega (arith, rw v at e)), λ e. cc)
  number-stopped (stopped v q a c) = (λ e. v, λ e. rw v)

  pub says : Ended m u n r → Says m n r
  says e =
      record {
        at-rest-exactly = verdict-quiet e;
        spent-exactly = verdict-spent e;
        stopped-exactly = verdict-stopped e;
        gives-47 = number-stopped e;
      }
