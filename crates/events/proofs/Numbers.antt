-- The numbers of a choice and of an instant stand exactly on their conditions, as specs/Numbers states it. Assumes nothing.
use mathlib.Core.Path.{◌≡◌, refl}
use mathlib.Core.Logic.{◌≢◌, inl, inr}
use mathlib.Core.Bool.{Bool, true, false}
use mathlib.Core.List.{List}
use Prim.Native.Nat.{ℕ, ◌≤◌, ◌<◌}
use lib.Dec.{ltb, eqb}
use borrow.Author.Tests.{eqb-true, eqb-false, ltb-true, ltb-false}
use Rattle.values.specs.Values.{pick}
use Rattle.sheet.specs.Expression.{Expr}
use Rattle.sheet.specs.Module.{Module, read}
use Rattle.state.specs.declared.State.{State}
use Rattle.state.specs.State.{full, users, count_of, allowance_of}
use Rattle.events.specs.declared.Inputs.{Inputs}
use Rattle.events.specs.declared.Chosen.{Chosen}
use Rattle.events.specs.Cycle.{items, enabled, any_enabled, any_pending, quiet}
use Rattle.events.specs.Calls.{judged, spend_time, spend, by_user, refusal, choose_in, choose, inputs_fit, instant_refusal, instant_in, instant}
use Rattle.events.specs.Runs.{Refuses, a-sheet, a-state, Accepts}
use Rattle.events.specs.Numbers.{ChoiceNumber, no_item, no-user, not-enabled, item-used-up, item-taken, one-enabled, none-pending, commit-used-up, commit-taken}
use Rattle.events.specs.Numbers.{InstantNumber, ill-fitting, not-quiet, time-full, instant-taken, Exactly}
use Rattle.events.proofs.Choices.{number-choose_in, number-instant_in}
use Rattle.events.proofs.Accepted.{judged-fits}

-- 36 where the time is full, else 0.
spent-time : (P : ℕ → Type 0) (st : State) → (st.counters.time ≡ full → P 36) → (st.counters.time ≢ full → P 0) → P (spend_time st)
unfolding spend_time
spent-time P st h k = by (eqb st.counters.time full) refl
  where
    by : (t : Bool) → eqb st.counters.time full ≡ t → P (pick t 36 0)
    by true e = h (eqb-true st.counters.time full e)
    by false e = k (eqb-false st.counters.time full e)

-- 47 where the user's allowance is used up, else 0.
spent : (P : ℕ → Type 0) (st : State) (u : ℕ) → (allowance_of st u ≤ count_of st u → P 47) → (count_of st u < allowance_of st u → P 0) →
    P (spend st u)
unfolding spend
spent P st u h k = by (ltb (count_of st u) (allowance_of st u)) refl
  where
    by : (t : Bool) → ltb (count_of st u) (allowance_of st u) ≡ t → P (pick t 0 47)
    by true e = k (ltb-true (count_of st u) (allowance_of st u) e)
    by false e = h (ltb-false (count_of st u) (allowance_of st u) e)

-- 46 where there is no such user, else the number.
of-user : (P : ℕ → Type 0) (u n : ℕ) → (users ≤ u → P 46) → (u < users → P n) → P (by_user u n)
unfolding by_user
of-user P u n h k = by (ltb u users) refl
  where
    by : (t : Bool) → ltb u users ≡ t → P (pick t n 46)
    by true e = k (ltb-true u users e)
    by false e = h (ltb-false u users e)

-- ---- on a module

module _ (m : Module Expr) (st : State) where
  choice-number : (u c : ℕ) → ChoiceNumber m st u c (refusal m st u c)
  unfolding refusal
  choice-number u c = by (ltb c (items m)) refl
    where
      N : ℕ → Type 0
      N n = ChoiceNumber m st u c n

      item : c < items m → u < users → (t : Bool) → enabled m st c ≡ t → N (pick t (spend st u) 33)
      item l b true e = spent N st u (item-used-up l b e) (item-taken l b e)
      item l b false e = not-enabled l b e

      pending : items m ≤ c → c ≡ 255 → u < users → any_enabled m st ≡ false → (t : Bool) → any_pending m st ≡ t →
          N (pick t (spend st u) 35)
      pending l e b n true p = spent N st u (commit-used-up l e b n p) (commit-taken l e b n p)
      pending l e b n false p = none-pending l e b n p

      committing : items m ≤ c → c ≡ 255 → u < users → (t : Bool) → any_enabled m st ≡ t →
          N (pick t 34 (pick (any_pending m st) (spend st u) 35))
      committing l e b true n = one-enabled l e b n
      committing l e b false n = pending l e b n (any_pending m st) refl

      other : items m ≤ c → (t : Bool) → eqb c 255 ≡ t →
          N (pick t (by_user u (pick (any_enabled m st) 34 (pick (any_pending m st) (spend st u) 35))) 22)
      other l true e =
          of-user N u _ (no-user (inr (eqb-true c 255 e))) (λ b. committing l (eqb-true c 255 e) b (any_enabled m st) refl)
      other l false e = no_item l (eqb-false c 255 e)

      by : (t : Bool) → ltb c (items m) ≡ t →
          N
          (pick t (by_user u (pick (enabled m st c) (spend st u) 33))
          (pick (eqb c 255) (by_user u (pick (any_enabled m st) 34 (pick (any_pending m st) (spend st u) 35))) 22))
      by true e =
          let l = ltb-true c (items m) e in
          of-user N u _ (no-user (inl l)) (λ b. item l b (enabled m st c) refl)
      by false e = other (ltb-false c (items m) e) (eqb c 255) refl

  instant-number : (a : Inputs) → InstantNumber m st a (instant_refusal m st a)
  unfolding instant_refusal
  instant-number a = by (inputs_fit m a) refl
    where
      resting : inputs_fit m a ≡ true → (t : Bool) → quiet m st ≡ t → InstantNumber m st a (pick t (spend_time st) 32)
      resting f true q = spent-time (InstantNumber m st a) st (time-full f q) (instant-taken f q)
      resting f false q = not-quiet f q

      by : (t : Bool) → inputs_fit m a ≡ t → InstantNumber m st a (pick t (pick (quiet m st) (spend_time st) 32) 25)
      by true f = resting f (quiet m st) refl
      by false f = ill-fitting f

-- ---- on a sheet's bytes

judged-refuses : (s : List ℕ) (st : State) (call : Module Expr → Chosen) {n : ℕ} → Refuses s st n →
    (judged (read s) st (λ k. record { number = k; state = st }) call).number ≡ n
unfolding judged
judged-refuses s st call (a-sheet e) = rw e
judged-refuses s st call (a-state e f) = rw (e, f)

module _ (s : List ℕ) (st : State) where
  refused-choice : (u c n : ℕ) → Refuses s st n → (choose s st u c).number ≡ n
  unfolding choose
  refused-choice u c n x = judged-refuses s st (λ m. choose_in m st u c) x

  choice : (u c : ℕ) (m : Module Expr) → Accepts s st m → ChoiceNumber m st u c (choose s st u c).number
  unfolding choose
  choice u c m k =
      rw (judged-fits s m st (λ n. choose_in n st u c) k, number-choose_in m st u c) (choice-number m st u c)

  refused-instant : (a : Inputs) (n : ℕ) → Refuses s st n → (instant s st a).number ≡ n
  unfolding instant
  refused-instant a n x = judged-refuses s st (λ m. instant_in m st a) x

  instant-on : (a : Inputs) (m : Module Expr) → Accepts s st m → InstantNumber m st a (instant s st a).number
  unfolding instant
  instant-on a m k =
      rw (judged-fits s m st (λ n. instant_in n st a) k, number-instant_in m st a) (instant-number m st a)

pub exactly : Exactly
exactly =
    record { refused-choice = refused-choice; choice = choice; refused-instant = refused-instant; instant-on = instant-on }
