-- "A refused call alters nothing", as specs/Refused states it for each call. Assumes nothing.
use mathlib.Core.Path.{◌≡◌, refl, ap}
use mathlib.Core.Logic.{◌≢◌}
use mathlib.Core.Bool.{Bool, true, false}
use mathlib.Core.List.{List, []}
use Prim.Native.Nat.{ℕ, zero, suc, ◌+◌, ◌<◌}
use native.Mathlib.Omega.{arith}
use lib.Dec.{eqb, ltb}
use Rattle.values.specs.Values.{pick}
use Rattle.sheet.specs.Reading.{Res, ok, no}
use Rattle.sheet.specs.Expression.{Expr}
use Rattle.sheet.specs.Module.{Module, read}
use Rattle.state.specs.declared.State.{State}
use Rattle.state.specs.State.{users, count_of, allowance_of}
use Rattle.events.specs.declared.Inputs.{Inputs}
use Rattle.events.specs.declared.Chosen.{Chosen}
use Rattle.events.specs.declared.Ran.{Ran}
use Rattle.events.specs.declared.Verdict.{Verdict}
use Rattle.events.specs.declared.Verdict.TheVariants.{Quiet, Spent, Stopped, Refused}
use Rattle.events.specs.declared.Rested.{Rested}
use Rattle.events.specs.Cycle.{items, enabled, any_enabled, any_pending, quiet}
use Rattle.events.specs.Calls.{started, start_of, start, spend, refusal, choose_in, choose, run_in, run_list}
use Rattle.events.specs.Calls.{resting, run_by, plain_choice, run_plain, instant_refusal, instant_in, instant}
use Rattle.events.specs.Runs.{Refuses, a-sheet, a-state, RunRefuses, a_call, a-user, Over, all-ran, refused}
use Rattle.events.specs.Refused.{RunRefused, the-sheet, the-state, the-user, Unaltered}
use Rattle.events.proofs.Choices.{by_user-below, state-refused, instant_in-accepted, instant_in-refused}
use Rattle.events.proofs.Runs.{over-run_in}
use Rattle.events.proofs.Accepted.{numbered, Judged, refuses, called, judged-judged, RunJudged, run-refused, run-called, judged-run}

-- ---- start

refused-start : (s allowances : List ℕ) → (start s allowances).number ≢ 0 → (start s allowances).state ≡ started [] 0 allowances
unfolding start start_of
refused-start s allowances h = by (read s) h
  where
    by : (x : Res (Module Expr)) → (start_of x allowances).number ≢ 0 → (start_of x allowances).state ≡ started [] 0 allowances
    by (ok m) z = absurd (z refl)
    by (no n p) z = refl

-- ---- a choice, an instant

module _ (s : List ℕ) (st : State) where
  abbrev handed : ℕ → Chosen
  handed n = record { number = n; state = st }

  call-refused :
      (call : Module Expr → Chosen) → ((m : Module Expr) → (call m).number ≢ 0 → (call m).state ≡ st) →
      {r : Chosen} → Judged s st handed call r → r.number ≢ 0 → r.state ≡ st
  call-refused call h (refuses x q) z = rw q refl
  call-refused call h (called {m = m} k q) z = rw q (h m (rw q at z))

  refused-choice : (u c : ℕ) → (choose s st u c).number ≢ 0 → (choose s st u c).state ≡ st
  unfolding choose
  refused-choice u c =
      call-refused (λ m. choose_in m st u c) (λ m z. state-refused m st u c z) (judged-judged s st handed (λ m. choose_in m st u c))

  instant-unaltered : (a : Inputs) (m : Module Expr) → (instant_in m st a).number ≢ 0 → (instant_in m st a).state ≡ st
  instant-unaltered a m z =
      let d : instant_refusal m st a ≢ 0 = λ e. z (ap (λ (r : Chosen). r.number) (instant_in-accepted m st a e)) in
      ap (λ (r : Chosen). r.state) (instant_in-refused m st a d)

  refused-instant : (a : Inputs) → (instant s st a).number ≢ 0 → (instant s st a).state ≡ st
  unfolding instant
  refused-instant a =
      call-refused (λ m. instant_in m st a) (instant-unaltered a) (judged-judged s st handed (λ m. instant_in m st a))

-- ---- the numbers of a refused call, and those of a choice

refuses-number : (s : List ℕ) (st : State) {n : ℕ} → Refuses s st n → RunRefused n
refuses-number s st (a-sheet {n = n} {p = p} e) = numbered s n p e
refuses-number s st (a-state e f) = the-state

run-number : (s : List ℕ) (st : State) (u : ℕ) {n : ℕ} → RunRefuses s st u n → RunRefused n
run-number s st u (a_call x) = refuses-number s st x
run-number s st u (a-user k l) = the-user

-- The number of a choice of one of the four users is none of a refused run.
data OfChoice : ℕ → Type 0 where
  of-0 : OfChoice 0
  of-22 : OfChoice 22
  of-33 : OfChoice 33
  of-34 : OfChoice 34
  of-35 : OfChoice 35
  of-47 : OfChoice 47

of-pick : (t : Bool) (a b : ℕ) → OfChoice a → OfChoice b → OfChoice (pick t a b)
of-pick true a b x y = x
of-pick false a b x y = y

of-spend : (st : State) (u : ℕ) → OfChoice (spend st u)
unfolding spend
of-spend st u = of-pick (ltb (count_of st u) (allowance_of st u)) 0 47 of-0 of-47

of-refusal : (m : Module Expr) (st : State) (u c : ℕ) → u < users → OfChoice (refusal m st u c)
unfolding refusal
of-refusal m st u c l =
    rw (
      by_user-below u (pick (enabled m st c) (spend st u) 33) l,
      by_user-below u (pick (any_enabled m st) 34 (pick (any_pending m st) (spend st u) 35)) l,
    )
    (of-pick (ltb c (items m)) _ _ (of-pick (enabled m st c) _ _ (of-spend st u) of-33)
    (of-pick (eqb c 255) _ _ (of-pick (any_enabled m st) _ _ of-34 (of-pick (any_pending m st) _ _ (of-spend st u) of-35)) of-22))

apart : {n : ℕ} → OfChoice n → RunRefused n → ⊥
apart of-0 (the-sheet l h) = omega arith
apart of-22 (the-sheet l h) = omega arith
apart of-33 (the-sheet l h) = omega arith
apart of-34 (the-sheet l h) = omega arith
apart of-35 (the-sheet l h) = omega arith
apart of-47 (the-sheet l h) = omega arith

-- ---- a run over a list

refused-run : (s : List ℕ) (st : State) (u : ℕ) (cs : List ℕ) → RunRefused (run_list s st u cs).number →
    ((run_list s st u cs).accepted ≡ 0) × ((run_list s st u cs).state ≡ st)
unfolding run_list
refused-run s st u cs h = by (judged-run s st u bad (λ m. run_in m u cs st)) h
  where
    bad : ℕ → Ran
    bad n = record { accepted = 0; number = n; state = st }

    none : {m : Module Expr} {r : Ran} → u < users → Over m u cs r → OfChoice r.number
    none l (all-ran z a) = rw z of-0
    none {m = m} {r = r} l (refused b z e) = rw e (of-refusal m r.state u _ l)

    by : {r : Ran} → RunJudged s st u bad (λ m. run_in m u cs st) r → RunRefused r.number → (r.accepted ≡ 0) × (r.state ≡ st)
    by (run-refused x q) z = (rw q refl, rw q refl)
    by (run-called {m = m} k l q) z = absurd (apart (rw q (none l (over-run_in m u cs st))) z)

-- ---- the plain run

-- A run on a module rests, is spent or is stopped.
never-refused : (m : Module Expr) (u : ℕ) (next : State → ℕ) (k n : ℕ) (st : State) → (run_by m u next n st).verdict ≢ Refused k
unfolding run_by resting
never-refused m u next k zero st = by (quiet m st)
  where
    by : (q : Bool) → pick {A = Verdict} q Quiet Spent ≢ Refused k
    by true e = let z : ◌≡◌ {A = ℕ} 0 1 = cc in omega arith
    by false e = let z : ◌≡◌ {A = ℕ} 0 1 = cc in omega arith
never-refused m u next k (suc n) st = by (quiet m st) (eqb r.number 0) (never-refused m u next k n r.state)
  where
    r : Chosen
    r = choose_in m st u (next st)

    rest : Rested
    rest = run_by m u next n r.state

    by : (q t : Bool) → rest.verdict ≢ Refused k →
        (pick {A = Rested} q (record { accepted = 0; verdict = Quiet; state = st })
        (pick {A = Rested} t (record { accepted = rest.accepted + 1; verdict = rest.verdict; state = rest.state })
        (record { accepted = 0; verdict = Stopped r.number; state = st }))).verdict ≢ Refused k
    by true t ih e = let z : ◌≡◌ {A = ℕ} 0 1 = cc in omega arith
    by false true ih e = ih e
    by false false ih e = let z : ◌≡◌ {A = ℕ} 0 1 = cc in omega arith

refused-plain-run : (s : List ℕ) (st : State) (u n k : ℕ) → (run_plain s st u n).verdict ≡ Refused k →
    ((run_plain s st u n).accepted ≡ 0) × ((run_plain s st u n).state ≡ st) × RunRefused k
unfolding run_plain
refused-plain-run s st u n k h = by (judged-run s st u bad (λ m. run_by m u (plain_choice m) n st)) h
  where
    bad : ℕ → Rested
    bad k = record { accepted = 0; verdict = Refused k; state = st }

    by : {r : Rested} → RunJudged s st u bad (λ m. run_by m u (plain_choice m) n st) r → r.verdict ≡ Refused k →
        (r.accepted ≡ 0) × (r.state ≡ st) × RunRefused k
    by (run-refused {n = j} x q) e =
        let g : Refused j ≡ Refused k = rw q at e in
        let i : j ≡ k = cc in
        (rw q refl, rw q refl, rw i at (run-number s st u x))
    by (run-called {m = m} t l q) e = absurd (never-refused m u (plain_choice m) k n st (rw q at e))

pub unaltered : Unaltered
unaltered =
    record {
      refused-start = refused-start;
      refused-choice = refused-choice;
      refused-instant = refused-instant;
      refused-run = refused-run;
      refused-plain-run = refused-plain-run;
    }
