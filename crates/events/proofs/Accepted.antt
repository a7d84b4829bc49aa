-- Demand 2, as specs/Runs states it: the calls accept every step that the simulation cycle allows, with the state that it leaves,
-- and no other; and the runs' accepted choices are such steps, one after the other. Assumes nothing.
use mathlib.Core.Path.{◌≡◌, refl, sym, ◌∙◌}
use mathlib.Core.Logic.{◌≢◌}
use mathlib.Core.Bool.{Bool, true, false}
use mathlib.Core.List.{List}
use Prim.Native.Nat.{ℕ, ◌≤◌, ◌<◌}
use native.Mathlib.Omega.{arith}
use lib.Dec.{ltb}
use borrow.Author.Tests.{ltb-true, ltb-false}
use Rattle.values.specs.Values.{pick}
use Rattle.sheet.specs.Reading.{Res, ok, no}
use Rattle.sheet.specs.Expression.{Expr, tree}
use Rattle.sheet.specs.Module.{Module, Sheet, read_sheet, read}
use Rattle.sheet.proofs.Numbers.{Numbered, accepted, refused, later-call, no_body, tree-numbered, sheet-numbered}
use Rattle.state.specs.declared.State.{State}
use Rattle.state.specs.State.{Shaped, full, users, count_of, allowance_of}
use Rattle.soundness.proofs.Soundness.{sound}
use Rattle.events.specs.declared.Inputs.{Inputs}
use Rattle.events.specs.declared.Chosen.{Chosen}
use Rattle.events.specs.declared.Ran.{Ran}
use Rattle.events.specs.declared.Verdict.TheVariants.{Refused}
use Rattle.events.specs.declared.Rested.{Rested}
use Rattle.events.specs.Calls.{state_fits, judged, choose_in, choose, input_of, inputs_fit, instant_in, instant}
use Rattle.events.specs.Calls.{run_in, run_list, run_by, plain_choice, run_plain}
use Rattle.events.specs.Refused.{RunRefused, the-sheet, a-later-function, a-barred-body, the-state, the-user}
use Rattle.events.specs.Steps.{Step, Instant, Alike}
use Rattle.events.specs.Runs.{Refuses, a-sheet, a-state, Accepts, RunRefuses, a_call, a-user, ListRun, PlainRun, refused-call, a-run, a-plain-run, Demand2}
use Rattle.events.proofs.Runs.{over-run_in, chain-run_in, plainly-run_by, length-choices_by, ended-plain, says}
use Rattle.events.proofs.Fits.{fits-state}
use Rattle.events.proofs.Steps.{step-choose_in, alike-choose_in, instant-instant_in, alike-instant_in}

-- ---- a call that is answered with 0: the sheet was read, the state fits it, and the call on the module answers 0 with that state

pub record Taken (s : List ℕ) (st : State) (call : Module Expr → Chosen) (r : Chosen) : Type 0 where
  pub contents : Module Expr
  pub accepts : Accepts s st contents
  pub same : r ≡ call contents

abbrev refusing : State → ℕ → Chosen
refusing st n = record { number = n; state = st }

-- A refusal of the sheet has one of its numbers.
number-of : {A : Type 0} {x : Res A} {n p : ℕ} → Numbered x → x ≡ no n p → RunRefused n
number-of (accepted a) h = let z : ◌≡◌ {A = ℕ} 0 1 = cc in absurd (omega arith)
number-of {n = n} (refused k q l m) h = let e : k ≡ n = cc in rw (← e) (the-sheet l m)
number-of {n = n} (later-call q) h = let e : 44 ≡ n = cc in rw (← e) a-later-function
number-of {n = n} (no_body q) h = let e : 45 ≡ n = cc in rw (← e) a-barred-body

pub numbered : (s : List ℕ) (n p : ℕ) → read s ≡ no n p → RunRefused n
unfolding read
numbered s n p e = by (read_sheet (tree s) s) refl
  where
    by : (x : Res (Sheet Expr)) → read_sheet (tree s) s ≡ x → RunRefused n
    by (ok x) h = let z : ok x.contents ≡ no n p = (rw h at e) in let o : ◌≡◌ {A = ℕ} 0 1 = cc in absurd (omega arith)
    by (no k q) h =
        let z : ◌≡◌ {A = Res (Module Expr)} (no k q) (no n p) = (rw h at e) in
        let g : k ≡ n = cc in
        rw (← g) (number-of (sheet-numbered (tree s) (tree-numbered s) s) h)

some_number : {n : ℕ} → RunRefused n → 1 ≤ n
some_number (the-sheet l h) = l
some_number a-later-function = omega arith
some_number a-barred-body = omega arith
some_number the-state = omega arith
some_number the-user = omega arith

judged-taken : (s : List ℕ) (st : State) (call : Module Expr → Chosen) → ((n p : ℕ) → read s ≡ no n p → RunRefused n) →
    (judged (read s) st (refusing st) call).number ≡ 0 → Taken s st call (judged (read s) st (refusing st) call)
unfolding judged
judged-taken s st call numbered h = by (read s) refl h
  where
    fit : (m : Module Expr) → read s ≡ ok m → (t : Bool) → state_fits m st ≡ t → (judged (ok m) st (refusing st) call).number ≡ 0 →
        Taken s st call (judged (ok m) st (refusing st) call)
    fit m e true f z = record { contents = m; accepts = record { reads = e; fits = f }; same = rw f refl }
    fit m e false f z = let n : ◌≡◌ {A = ℕ} 31 0 = (rw f at z) in absurd (omega arith)

    by : (x : Res (Module Expr)) → read s ≡ x → (judged x st (refusing st) call).number ≡ 0 →
        Taken s st call (judged x st (refusing st) call)
    by (ok m) e z = fit m e (state_fits m st) refl z
    by (no n p) e z = let l = some_number (numbered n p e) in absurd (omega arith)

-- On a sheet that was read and a state that fits it, a call is the call on the module.
pub judged-fits : (s : List ℕ) (m : Module Expr) (st : State) (call : Module Expr → Chosen) → Accepts s st m →
    judged (read s) st (refusing st) call ≡ call m
unfolding judged
judged-fits s m st call k = rw (k.reads, k.fits) refl

-- ---- choices

accepted-choice : (s : List ℕ) (st : State) (u c : ℕ) → Shaped st → (choose s st u c).number ≡ 0 →
    (m : Module Expr) × Accepts s st m × Step m st (choose s st u c).state u c
unfolding choose
accepted-choice s st u c shaped h =
    let t = judged-taken s st (λ m. choose_in m st u c) (numbered s) h in
    let m = t.contents in
    let z : (choose_in m st u c).number ≡ 0 = rw t.same at h in
    (m, t.accepts, rw t.same (step-choose_in m (sound s t.accepts.reads) st shaped u c z))

allowed-choice : (s : List ℕ) (m : Module Expr) (old new : State) (u c : ℕ) → Accepts s old m → Shaped old → Step m old new u c →
    count_of old u ≢ allowance_of old u → ((choose s old u c).number ≡ 0) × Alike m (choose s old u c).state new
unfolding choose
allowed-choice s m old new u c k shaped step room =
    let most : count_of old u ≤ allowance_of old u = (fits-state m old shaped k.fits).counts u step.user in
    let below : count_of old u < allowance_of old u = omega arith in
    rw (judged-fits s m old (λ n. choose_in n old u c) k) (alike-choose_in m (sound s k.reads) old new shaped u c step below)

-- ---- instants

accepted-instant : (s : List ℕ) (st : State) (a : Inputs) → Shaped st → (instant s st a).number ≡ 0 →
    (m : Module Expr) × Accepts s st m × Instant m st (instant s st a).state (input_of a)
unfolding instant
accepted-instant s st a shaped h =
    let t = judged-taken s st (λ m. instant_in m st a) (numbered s) h in
    let m = t.contents in
    let z : (instant_in m st a).number ≡ 0 = rw t.same at h in
    (m, t.accepts, rw t.same (instant-instant_in m (sound s t.accepts.reads) st shaped a z))

allowed-instant : (s : List ℕ) (m : Module Expr) (old new : State) (a : Inputs) → Accepts s old m → Shaped old →
    inputs_fit m a ≡ true → Instant m old new (input_of a) → old.counters.time ≢ full →
    ((instant s old a).number ≡ 0) × Alike m (instant s old a).state new
unfolding instant
allowed-instant s m old new a k shaped fit step room =
    rw (judged-fits s m old (λ n. instant_in n old a) k) (alike-instant_in m (sound s k.reads) old new shaped a fit step room)

-- ---- a call is refused, or it is the call on the module

module _ {A : Type 0} (s : List ℕ) (st : State) (bad : ℕ → A) (good : Module Expr → A) where
  pub data Judged (r : A) : Type 0 where
    refuses : {n : ℕ} → Refuses s st n → r ≡ bad n → Judged r
    called : {m : Module Expr} → Accepts s st m → r ≡ good m → Judged r

  pub judged-judged : Judged (judged (read s) st bad good)
  unfolding judged
  judged-judged = by (read s) refl
    where
      fit : (m : Module Expr) → read s ≡ ok m → (t : Bool) → state_fits m st ≡ t → Judged (pick t (good m) (bad 31))
      fit m e true f = called (record { reads = e; fits = f }) refl
      fit m e false f = refuses (a-state e f) refl

      by : (x : Res (Module Expr)) → read s ≡ x → Judged (judged x st bad good)
      by (ok m) e = fit m e (state_fits m st) refl
      by (no n p) e = refuses (a-sheet e) refl

-- ---- the runs

-- A run is refused, or it is the run on the module, of one of the four users.
module _ {A : Type 0} (s : List ℕ) (st : State) (u : ℕ) (bad : ℕ → A) (good : Module Expr → A) where
  pub data RunJudged (r : A) : Type 0 where
    run-refused : {n : ℕ} → RunRefuses s st u n → r ≡ bad n → RunJudged r
    run-called : {m : Module Expr} → Accepts s st m → u < users → r ≡ good m → RunJudged r

  pub judged-run : RunJudged (judged (read s) st bad (λ m. pick (ltb u users) (good m) (bad 46)))
  judged-run = by (judged-judged s st bad (λ m. pick (ltb u users) (good m) (bad 46))) (ltb u users) refl
    where
      by : {r : A} → Judged s st bad (λ m. pick (ltb u users) (good m) (bad 46)) r → (t : Bool) → ltb u users ≡ t → RunJudged r
      by (refuses x q) t h = run-refused (a_call x) q
      by (called k q) true h = run-called k (ltb-true u users h) (q ∙ (rw h refl))
      by (called k q) false h = run-refused (a-user k (ltb-false u users h)) (q ∙ (rw h refl))

-- "for either run's one user, after 31": a sheet or a state that is refused is refused whoever the user is.
pub run_list-refused : (s : List ℕ) (st : State) (u : ℕ) (cs : List ℕ) (n : ℕ) → Refuses s st n →
    run_list s st u cs ≡ record { accepted = 0; number = n; state = st }
unfolding run_list judged
run_list-refused s st u cs n (a-sheet e) = rw e
run_list-refused s st u cs n (a-state e f) = rw (e, f)

pub run_plain-refused : (s : List ℕ) (st : State) (u k n : ℕ) → Refuses s st n →
    run_plain s st u k ≡ record { accepted = 0; verdict = Refused n; state = st }
unfolding run_plain judged
run_plain-refused s st u k n (a-sheet e) = rw e
run_plain-refused s st u k n (a-state e f) = rw (e, f)

list-run : (s : List ℕ) (st : State) (u : ℕ) (cs : List ℕ) → Shaped st → ListRun s st u cs (run_list s st u cs)
unfolding run_list
list-run s st u cs shaped = by (judged-run s st u bad (λ m. run_in m u cs st))
  where
    bad : ℕ → Ran
    bad n = record { accepted = 0; number = n; state = st }

    by : {r : Ran} → RunJudged s st u bad (λ m. run_in m u cs st) r → ListRun s st u cs r
    by (run-refused x q) = refused-call x q
    by (run-called {m = m} k l q) =
        rw q (a-run k l (chain-run_in m u (sound s k.reads) cs st shaped) (over-run_in m u cs st))

plain-run : (s : List ℕ) (st : State) (u n : ℕ) → Shaped st → PlainRun s st u n (run_plain s st u n)
unfolding run_plain
plain-run s st u n shaped = by (judged-run s st u bad (λ m. run_by m u (plain_choice m) n st))
  where
    bad : ℕ → Rested
    bad k = record { accepted = 0; verdict = Refused k; state = st }

    by : {r : Rested} → RunJudged s st u bad (λ m. run_by m u (plain_choice m) n st) r → PlainRun s st u n r
    by (run-refused x q) = refused-call x q
    by (run-called {m = m} k l q) =
        let w = sound s k.reads in
        let e = ended-plain m u w l n st shaped (fits-state m st shaped k.fits) in
        rw q
        (a-plain-run k l (plainly-run_by m u w n st shaped) (sym (length-choices_by m u (plain_choice m) n st)) e
        (says m u n (run_by m u (plain_choice m) n st) e))

-- ---- demand 2

pub demand-2 : Demand2
demand-2 =
    record {
      accepted-choice = accepted-choice;
      allowed-choice = allowed-choice;
      accepted-instant = accepted-instant;
      allowed-instant = allowed-instant;
      list-run = list-run;
      plain-run = plain-run;
    }
