-- The counters of a state that choices of one user left: his count is higher by as many as were accepted, and all else is as it was.
-- Assumes nothing.
use mathlib.Core.Path.{◌≡◌, refl, sym, ◌∙◌}
use mathlib.Core.Logic.{◌≢◌}
use mathlib.Core.List.{List}
use Prim.Native.Nat.{ℕ, ◌+◌, ◌≤◌, ◌<◌}
use native.Mathlib.Decide.{ℕ_discrete}
use native.Mathlib.Omega.{arith}
use lib.ListN.{get_or, set, length-set}
use lib.Seq.{ext_get_or, get_or-set_same, get_or-set_other}
use borrow.Author.Tests.{le-leb, ne_eqb}
use Rattle.sheet.specs.Expression.{Expr}
use Rattle.sheet.specs.Module.{Module}
use Rattle.state.specs.declared.State.{State}
use Rattle.state.specs.State.{Shaped, counters_of, users, count_of, allowance_of}
use Rattle.events.specs.Calls.{refusal, choose_in, run_in, run_by}
use Rattle.events.proofs.Choices.{choose_in-accepted, choose_in-refused, shaped-choose_in}
use Rattle.events.proofs.Choices.{time-performed, count-performed, count-performed-other, allowance-performed}
use Rattle.events.proofs.Fits.{Fits, CountsFit, fits-choose_in}
use Rattle.events.proofs.Runs.{shaped-run_in, fits-run_in, count-run_in, other-count-run_in, allowance-run_in, time-run_in}
use Rattle.events.proofs.Runs.{shaped-run_by, fits-run_by, count-run_by, other-count-run_by, allowance-run_by, time-run_by}
use Rattle.soundness.specs.Soundness.{Sound}
use Rattle.prepared.specs.Prepared.{room_in, raised, accepted}

module _ (u : ℕ) (user : u < users) where
  -- ---- what n accepted choices leave

  pub record Counted (n : ℕ) (old new : State) : Type 0 where
    pub time : new.counters.time ≡ old.counters.time
    pub count : count_of new u ≡ count_of old u + n
    pub others : (v : ℕ) → v ≢ u → count_of new v ≡ count_of old v
    pub allowances : (v : ℕ) → allowance_of new v ≡ allowance_of old v

  module _ {n : ℕ} {old new : State} (k : Counted n old new) (s : Shaped old) (t : Shaped new) where
    counts-set : new.counters.counts ≡ set old.counters.counts u (count_of old u + n)
    unfolding count_of
    counts-set =
        ext_get_or 0 new.counters.counts (set old.counters.counts u (count_of old u + n))
        (t.counts ∙ sym (length-set old.counters.counts u (count_of old u + n) ∙ s.counts)) (λ v h. by v (ℕ_discrete v u))
      where
        by : (v : ℕ) → Dec (v ≡ u) → get_or new.counters.counts v 0 ≡ get_or (set old.counters.counts u (count_of old u + n)) v 0
        by v (yes e) = rw e (k.count ∙ sym (get_or-set_same old.counters.counts u (count_of old u + n) 0 (omega (arith, s.counts))))
        by v (no d) = k.others v d ∙ sym (get_or-set_other old.counters.counts u v (count_of old u + n) 0 d)

    allowances-same : new.counters.allowances ≡ old.counters.allowances
    unfolding allowance_of
    allowances-same =
        ext_get_or 0 new.counters.allowances old.counters.allowances (t.allowances ∙ sym s.allowances)
        (λ v h. k.allowances v)

    within : CountsFit new → n ≤ room_in old.counters u
    unfolding count_of allowance_of
    within f = omega (arith, f u user, k.count, k.allowances u)

    pub counted-raised : CountsFit new → new.counters ≡ raised n u old.counters
    unfolding raised count_of
    counted-raised f =
        rw (le-leb n (room_in old.counters u) (within f))
        (λ i. counters_of (k.time i) (counts-set i) (allowances-same i))

  pub counted_none : (st : State) → Counted 0 st st
  counted_none st = record { time = refl; count = omega arith; others = λ v d. refl; allowances = λ v. refl }

  -- ---- a choice, and runs

  module _ (m : Module Expr) (w : Sound m) (st : State) (s : Shaped st) (f : Fits m st) where
    counted-choice : (c : ℕ) → Counted (accepted (choose_in m st u c).number) st (choose_in m st u c).state
    unfolding accepted
    counted-choice c = by (ℕ_discrete (refusal m st u c) 0)
      where
        by : Dec (refusal m st u c ≡ 0) → Counted (accepted (choose_in m st u c).number) st (choose_in m st u c).state
        by (yes x) =
            rw (choose_in-accepted m st u c x)
            (record {
              time = time-performed m st u c;
              count = count-performed m st u c s user;
              others = count-performed-other m st u c;
              allowances = allowance-performed m st u c;
            })
        by (no d) = rw (choose_in-refused m st u c d, ne_eqb (refusal m st u c) 0 d) (counted_none st)

    pub counters-choice : (c : ℕ)
        → (choose_in m st u c).state.counters ≡ raised (accepted (choose_in m st u c).number) u st.counters
    counters-choice c = counted-raised (counted-choice c) s (shaped-choose_in m st u c s) (fits-choose_in m w st s f u c).counts

    pub counters-list : (cs : List ℕ) → (run_in m u cs st).state.counters ≡ raised (run_in m u cs st).accepted u st.counters
    counters-list cs =
        counted-raised
        (record {
          time = time-run_in m u w st s cs;
          count = count-run_in m u w st s cs;
          others = other-count-run_in m u w st s cs;
          allowances = allowance-run_in m u w st s cs;
        })
        s (shaped-run_in m u w cs st s) (fits-run_in m u w cs st s f).counts

    pub counters-run : (next : State → ℕ) (n : ℕ)
        → (run_by m u next n st).state.counters ≡ raised (run_by m u next n st).accepted u st.counters
    counters-run next n =
        counted-raised
        (record {
          time = time-run_by m u w st s next n;
          count = count-run_by m u w st s next n;
          others = other-count-run_by m u w st s next n;
          allowances = allowance-run_by m u w st s next n;
        })
        s (shaped-run_by m u next w n st s) (fits-run_by m u next w n st s f).counts
