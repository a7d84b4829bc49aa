-- On a plan that holds a module the counted run is the plain run of crates/work up to quiet or the next commit, with as many stores, and
-- the wires that read a changed variable are as many (`counts`, the claim of specs/Claims). Assumes nothing.
use Prim.Native.Nat.{ℕ, zero, suc, ◌+◌, ◌-◌, ◌≤◌, ◌<◌}
use native.Mathlib.Omega.{arith}
use native.Mathlib.Decide.{ℕ_discrete}
use native.Mathlib.Nat.{zero-add}
use mathlib.Core.Path.{◌≡◌, refl, sym, ap, ◌∙◌, subst}
use mathlib.Core.Bool.{Bool, true, false, ◌||◌, ◌&&◌}
use mathlib.Core.List.{List, [], ◌∷◌}
use lib.ListN.{length}
use lib.Dec.{ltb, eqb}
use borrow.Author.Tests.{eq-eqb, ne_eqb, lt-ltb, le-ltb}
use Rattle.values.specs.declared.Value.{Value}
use Rattle.values.specs.Values.{pick}
use Rattle.sheet.specs.Reading.{ok}
use Rattle.sheet.specs.Expression.{Expr}
use Rattle.sheet.specs.Module.{Module, read}
use Rattle.evaluation.specs.Evaluation.{reads}
use Rattle.state.specs.declared.State.{State}
use Rattle.state.specs.State.{Shaped, Bounded, users, count_of, allowance_of, value_of}
use Rattle.soundness.proofs.Soundness.{sound}
use Rattle.events.specs.declared.Rested.{Rested}
use Rattle.events.specs.Cycle.{variables, wire_expr, any_below, items, any_enabled, quiet, changed, touched}
use Rattle.events.specs.Calls.{state_fits, refusal, choose_in, run_by, choices_by, plain_choice}
use Rattle.events.proofs.Choices.{state-refused, shaped-choose_in, number-choose_in, choose_in-accepted, count-performed, allowance-performed}
use Rattle.events.proofs.Fits.{Fits, fits-state, fits-choose_in}
use Rattle.events.proofs.Runs.{plain-lowest, plain-commit}
use Rattle.nextstate.specs.Rules.{wire_reads}
use Rattle.nextstate.proofs.Ruled.{wire-within}
use Rattle.settling.proofs.Plain.{plain-sheet}
use Rattle.work.specs.Work.{up_to_commit, wires_of, reader_count}
use Rattle.work.proofs.Turns.{choices, next, choices-goes, run-goes}
use Rattle.refinement.proofs.Kept.{fits_kept}
use Rattle.plan.specs.Plan.{Plan, plan_of}
use Rattle.plan_engine.specs.Live.{Live}
use Rattle.plan_engine.specs.Taking.{take_choice}
use Rattle.plan_engine.proofs.Taking.{choice-room}
use Rattle.plan_state.specs.Packing.{unpacked, packed}
use Rattle.plan_fitting.specs.Fitting.{plan_fits}
use Rattle.plan_fitting.proofs.Fitting.{plan-fits}
use Rattle.plan_refinement.specs.Refinement.{Shows, Takes, Room, PlanOf}
use Rattle.plan_refinement.proofs.Choices.{plain-shows, take-shows}
use Rattle.prepared.specs.Prepared.{prepared_plan, room_in, raised}
use Rattle.prepared.proofs.Counting.{counters-run}
use Rattle.prepared.proofs.Held.{plan-of}
use Rattle.prepared.proofs.Sheets.{prepared-holds}
use Rattle.prepared.proofs.Unpacked.{unpacked-shows, packed-shows}
use Rattle.counted.specs.Counted.{Stretch, stretch, stores_at, following, up_to, work_at, reads_at, reads_changed, readers_at}
use Rattle.counted.specs.Claims.{Works, CountsOn, Counts}

module _ {m : Module Expr} {q : Plan} (w : PlanOf m q) (u : ℕ) (user : u < users) where
  -- What is taken before the first commit, and the plain run of so many choices.
  abbrev before : ℕ → State → List ℕ
  before n st = up_to_commit (choices m u n st)

  abbrev ran : ℕ → State → Rested
  ran n st = run_by m u (plain_choice m) (length (before n st)) st

  record Agrees (n : ℕ) (st : State) (t : Stretch) : Type 0 where
    stores : t.stores ≡ length (wires_of m (before n st))
    accepted : t.accepted ≡ length (before n st)
    all : (ran n st).accepted ≡ length (before n st)
    left : Shows m (ran n st).state t.left

  -- ---- nothing is taken

  agrees-none : (n : ℕ) (st : State) (k : ℕ) (l : Live) → before n st ≡ [] → Shows m st l → Agrees n st (stretch 0 0 k l)
  unfolding run_by wires_of
  agrees-none n st k l e z = record { stores = rw e refl; accepted = rw e refl; all = rw e refl; left = rw e z }

  before-commit : (n : ℕ) (st : State) → plain_choice m st ≡ 255 → before (suc n) st ≡ []
  unfolding choices_by up_to_commit
  before-commit n st e = by (quiet m st) (eqb (choose_in m st u (plain_choice m st)).number 0)
    where
      by : (a b : Bool) → up_to_commit (pick a [] (pick b (plain_choice m st ∷ choices m u n (next m u st)) [])) ≡ []
      by true b = refl
      by false true = rw (eq-eqb (plain_choice m st) 255 e) refl
      by false false = refl

  before-refused : (n : ℕ) (st : State) → quiet m st ≡ false →
      ((choose_in m st u (plain_choice m st)).number ≡ 0 → ⊥) → before (suc n) st ≡ []
  unfolding choices_by up_to_commit
  before-refused n st a z = rw (a, ne_eqb (choose_in m st u (plain_choice m st)).number 0 z) refl

  -- ---- an item is taken

  module _ (n : ℕ) (st : State) (a : quiet m st ≡ false) (z : (choose_in m st u (plain_choice m st)).number ≡ 0)
      (l : plain_choice m st < 255) where
    before-item : before (suc n) st ≡ plain_choice m st ∷ before n (next m u st)
    unfolding up_to_commit
    before-item = rw (choices-goes m u n st a z, ne_eqb (plain_choice m st) 255 (omega arith)) refl

    stores-item : (k : ℕ) → k ≡ length (wires_of m (before n (next m u st))) →
        k + stores_at q (plain_choice m st) ≡ length (wires_of m (plain_choice m st ∷ before n (next m u st)))
    unfolding stores_at wires_of
    stores-item k e = rw w.threads (by (ltb (plain_choice m st) (length m.threads)))
      where
        rest : List ℕ
        rest = wires_of m (before n (next m u st))

        by : (t : Bool) → k + pick t 0 1 ≡ length (pick t rest ((plain_choice m st - length m.threads) ∷ rest))
        by true = omega (arith, e)
        by false = omega (arith, e)

    agrees-item : (t : Stretch) → Agrees n (next m u st) t →
        Agrees (suc n) st (stretch (t.accepted + 1) (t.stores + stores_at q (plain_choice m st)) t.number t.left)
    agrees-item t A =
        let goes = run-goes m u n st a z (length (before n (next m u st))) in
        record {
          stores = rw before-item (stores-item t.stores A.stores);
          accepted = rw before-item (omega (arith, A.accepted));
          all = rw before-item (ap (λ (r : Rested). r.accepted) goes ∙ (omega (arith, A.all)));
          left = rw before-item (subst (λ (r : Rested). Shows m r.state t.left) (sym goes) A.left);
        }

  -- ---- the run

  -- The room that an accepted choice leaves.
  room-left : (st : State) (room c : ℕ) (l : Live) → Shaped st → Room u room st → Takes m (choose_in m st u c) (take_choice q room c l) →
      (choose_in m st u c).number ≡ 0 → Room u (room - 1) (choose_in m st u c).state
  room-left st room c l g e t h =
      let x : refusal m st u c ≡ 0 = sym (number-choose_in m st u c) ∙ h in
      let f : room ≡ 0 → ⊥ = λ z. choice-room q room z c l (t.number ∙ h) in
      rw (choose_in-accepted m st u c x) (omega (arith, count-performed m st u c g user, allowance-performed m st u c u))

  small : (st : State) → any_enabled m st ≡ true → plain_choice m st < 255
  unfolding items
  small st h = let l = (plain-lowest m st h).0 in omega (arith, w.sound.threads-most, w.sound.wires-most)

  busy : (st : State) → any_enabled m st ≡ true → quiet m st ≡ false
  unfolding quiet
  busy st h = rw h refl

  agrees : (n : ℕ) (st : State) (room : ℕ) (l : Live) → Shaped st → Fits m st → Room u room st → Shows m st l →
      Agrees n st (up_to q n room l)
  unfolding up_to choices_by up_to_commit following
  agrees zero st room l g f e z = agrees-none zero st 0 l refl z
  agrees (suc n) st room l g f e z =
      subst (λ (x : ℕ). Agrees (suc n) st (shape x)) (sym (plain-shows w st (fits_kept g f) l z))
      (by (agrees n) (any_enabled m st) refl)
    where
      c : ℕ
      c = plain_choice m st

      shape : ℕ → Stretch
      shape x =
          let t = take_choice q room x l in
          pick (ltb x 255) (following q x t (up_to q n (room - 1) t.left)) (stretch 0 0 0 l)

      takes : Takes m (choose_in m st u c) (take_choice q room c l)
      takes = take-shows w st (fits_kept g f) u user room e l z c

      Rest : Type 0
      Rest = (v : State) (room : ℕ) (l : Live) → Shaped v → Fits m v → Room u room v → Shows m v l → Agrees n v (up_to q n room l)

      taken : Rest → any_enabled m st ≡ true → Dec ((choose_in m st u c).number ≡ 0) →
          Agrees (suc n) st (following q c (take_choice q room c l) (up_to q n (room - 1) (take_choice q room c l).left))
      taken rest h (yes v) =
          rw (eq-eqb (take_choice q room c l).number 0 (takes.number ∙ v))
          (agrees-item n st (busy st h) v (small st h) (up_to q n (room - 1) (take_choice q room c l).left)
          (rest (next m u st) (room - 1) (take_choice q room c l).left (shaped-choose_in m st u c g)
          (fits-choose_in m w.sound st g f u c) (room-left st room c l g e takes v) takes.left))
      taken rest h (no v) =
          rw (ne_eqb (take_choice q room c l).number 0 (λ y. v (sym takes.number ∙ y)))
          (agrees-none (suc n) st (take_choice q room c l).number (take_choice q room c l).left (before-refused n st (busy st h) v)
          (subst (λ (x : State). Shows m x (take_choice q room c l).left) (state-refused m st u c v) takes.left))

      by : Rest → (t : Bool) → any_enabled m st ≡ t → Agrees (suc n) st (shape c)
      by rest false h =
          rw (le-ltb c 255 (let e : c ≡ 255 = plain-commit m st h in omega arith))
          (agrees-none (suc n) st 0 l (before-commit n st (plain-commit m st h)) z)
      by rest true h = rw (lt-ltb c 255 (small st h)) (taken rest h (ℕ_discrete (choose_in m st u c).number 0))

-- ---- the wires that read a changed variable

module _ {m : Module Expr} {q : Plan} (w : PlanOf m q) (a b : State) where
  abbrev f : ℕ → Value
  f = value_of a

  abbrev g : ℕ → Value
  g = value_of b

  module _ (k : ℕ) where
    abbrev test : ℕ → Bool
    test v = reads (wire_expr m k) v && changed f g v

    read_below : (n : ℕ) → n ≤ 80 → reads_changed q a b k n ≡ any_below n test
    unfolding reads_changed reads_at any_below
    read_below zero l = refl
    read_below (suc n) l = rw (read_below n (omega arith), w.read_by n k (omega arith)) refl

    none-past : (v : ℕ) → variables m ≤ v → test v ≡ false
    unfolding variables wire_reads
    none-past v l = by (reads (wire_expr m k) v) refl
      where
        by : (t : Bool) → reads (wire_expr m k) v ≡ t → (t && changed f g v) ≡ false
        by true r = let x = wire-within m w.sound k v r in absurd (omega arith)
        by false r = refl

    any-more : (d : ℕ) → any_below (d + variables m) test ≡ any_below (variables m) test
    unfolding any_below
    any-more zero = ap (λ (n : ℕ). any_below n test) (zero-add (variables m))
    any-more (suc d) =
        let e : suc d + variables m ≡ suc (d + variables m) = omega arith in
        rw (e, none-past (d + variables m) (omega arith), any-more d) (by (any_below (variables m) test))
      where
        by : (t : Bool) → (t || false) ≡ t
        by true = refl
        by false = refl

    reads-touched : reads_changed q a b k 80 ≡ touched m (wire_expr m k) f g
    unfolding touched variables
    reads-touched =
        let s = w.sound in
        let e : 80 - variables m + variables m ≡ 80 = omega (arith, s.variables, s.inputs-most, s.registers-most, s.wires-most) in
        read_below 80 (omega arith) ∙ sym (ap (λ (n : ℕ). any_below n test) e) ∙ any-more (80 - variables m)

  readers-same : (n : ℕ) → readers_at q a b n ≡ reader_count m n f g
  unfolding readers_at reader_count
  readers-same zero = refl
  readers-same (suc n) = rw (readers-same n, reads-touched n) refl

-- ---- on the plan of a sheet

module _ (s : List ℕ) (m : Module Expr) (r : read s ≡ ok m) (ws : List ℕ) (long : length ws ≡ 25212) where
  abbrev q : Plan
  q = plan_of (prepared_plan s ws)

  holds : PlanOf m q
  holds = plan-of (prepared_plan s ws) (sound s r) (prepared-holds s m r ws long)

  works : (st : State) → Shaped st → Bounded st → state_fits m st ≡ true → (u : ℕ) → u < users → (n : ℕ) → Works s m q st u n
  unfolding work_at count_of allowance_of
  works st h b fit u user n =
      record {
        stores = rw (f, lt-ltb u users user) A.stores;
        accepted = rw (f, lt-ltb u users user) A.accepted;
        state = rw (f, lt-ltb u users user) (same ∙ ap (λ (x : Rested). x.state) (sym (plain-sheet s m r u user st fit L)));
      }
    where
      f : plan_fits q st ≡ true
      f = plan-fits (sound s r) (prepared-holds s m r ws long) st ∙ fit

      F : Fits m st
      F = fits-state m st h fit

      t : Stretch
      t = up_to q n (room_in st.counters u) (unpacked q st)

      A : Agrees holds u user n st t
      A =
          agrees holds u user n st (room_in st.counters u) (unpacked q st) h F (omega (arith, F.counts u user))
          (unpacked-shows holds (fits_kept h F) b)

      L : ℕ
      L = length (before holds u user n st)

      same : packed t.left (raised t.accepted u st.counters) ≡ (run_by m u (plain_choice m) L st).state
      same =
          packed-shows A.left (raised t.accepted u st.counters)
          (counters-run u user m (sound s r) st h F (plain_choice m) L
          ∙ ap (λ (k : ℕ). raised k u st.counters) (A.all ∙ sym A.accepted))

  counts-on : CountsOn s m q
  counts-on =
      record {
        works = works;
        readers = λ a b. ap (readers_at q a b) holds.wires ∙ readers-same holds a b (length m.wires);
      }

pub counts : Counts
counts s ws m r long = counts-on s m r ws long
