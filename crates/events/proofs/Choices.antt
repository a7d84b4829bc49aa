-- Laws of single choices: when a choice is ready, what its number is, and what an accepted one performs, instruction by
-- instruction. Assumes nothing.
use mathlib.Core.Path.{◌≡◌, refl, sym, ap, ◌∙◌}
use mathlib.Core.Logic.{◌≢◌}
use mathlib.Core.Bool.{Bool, true, false, not, ◌||◌}
use mathlib.Core.List.{List, [], ◌∷◌}
use mathlib.Core.Option.{Option, none, some}
use Prim.Native.Nat.{ℕ, zero, suc, ◌+◌, ◌-◌, ◌≤◌, ◌<◌}
use native.Mathlib.Decide.{dec_lt}
use native.Mathlib.Omega.{arith}
use lib.ListN.{length, get_or, set, length-set, get_or-eq_default}
use lib.Seq.{get_or-set_same, get_or-set_other, set-get_or}
use lib.Dec.{ltb, eqb}
use borrow.Author.Tests.{not-true, ltb-true, ltb-false, lt-ltb, le-ltb, eqb-true, eq-eqb, ne_eqb}
use Rattle.values.specs.declared.Value.{Value}
use Rattle.values.specs.Values.{pick, holds}
use Rattle.sheet.specs.Expression.{Expr}
use Rattle.sheet.specs.Module.{Module}
use Rattle.evaluation.specs.Evaluation.{eval}
use Rattle.pseudocode.specs.Translation.{Instr, wait!, set!, later!, go, ifnot}
use Rattle.state.specs.declared.Counters.{Counters}
use Rattle.state.specs.declared.State.{State}
use Rattle.state.specs.State.{Shaped, full, counters_of, users, count_of, allowance_of, with_counters, value_of, with_value, pending_of, with_pending, without_pending, place_of, with_place, is_due, with_due}
use Rattle.state.proofs.Accessors.{shaped-with_counters, shaped-with_place, shaped-with_value, shaped-with_pending, shaped-with_due}
use Rattle.state.proofs.Accessors.{value-with_counters, pending-with_counters, place-with_counters, due-with_counters}
use Rattle.state.proofs.Accessors.{counters-with_place, counters-with_value, counters-with_pending, counters-without_pending, counters-with_due}
use Rattle.soundness.specs.Soundness.{Sound, SoundInstr, sound-go}
use Rattle.events.specs.declared.Chosen.{Chosen}
use Rattle.events.specs.declared.Inputs.{Inputs}
use Rattle.events.specs.Cycle.{code_of, instr_at, current, wire_expr, wire_variable, is_wait, thread_enabled, items, enabled, any_enabled, is_some, any_pending, quiet, react, run_instr, run_thread, run_wire, store_pending, commit, store_inputs, feed}
use Rattle.events.specs.Calls.{answer, spend_time, spend, counted_by, counted, timed, by_user, refusal, performed, choose_in, input_of, inputs_fit, instant_refusal, instant_in}
use Rattle.events.proofs.Cycle.{absurd-bool, or_left, or_right, any-below, some_below, none_below, below_none, kept-react, shaped-react, kept-store_pending, shaped-store_pending, kept-store_inputs, shaped-store_inputs}

-- ---- answers and the numbers 0, 36 and 47

pub answer-zero : (n : ℕ) (old new : State) → n ≡ 0 → answer n old new ≡ record { number = 0; state = new }
unfolding answer
answer-zero n old new e = rw e

pub answer-number : (n : ℕ) (old new : State) → (answer n old new).number ≡ n
unfolding answer
answer-number n old new = by (eqb n 0) refl
  where
    by : (t : Bool) → eqb n 0 ≡ t →
        (pick {A = Chosen} t (record { number = 0; state = new }) (record { number = n; state = old })).number ≡ n
    by true e = sym (eqb-true n 0 e)
    by false e = refl

pub answer-refused : (n : ℕ) (old new : State) → n ≢ 0 → answer n old new ≡ record { number = n; state = old }
unfolding answer
answer-refused n old new h = rw (ne_eqb n 0 h)

module _ (st : State) where
  pub spend_time-full : st.counters.time ≡ full → spend_time st ≡ 36
  unfolding spend_time
  spend_time-full h = rw (eq-eqb st.counters.time full h)

  pub spend_time-zero : st.counters.time ≢ full → spend_time st ≡ 0
  unfolding spend_time
  spend_time-zero h = rw (ne_eqb st.counters.time full h)

  pub zero-spend_time : spend_time st ≡ 0 → st.counters.time ≢ full
  zero-spend_time h e = let z = spend_time-full e in omega arith

module _ (st : State) (u : ℕ) where
  pub spend-used : allowance_of st u ≤ count_of st u → spend st u ≡ 47
  unfolding spend
  spend-used h = rw (le-ltb (count_of st u) (allowance_of st u) h)

  pub spend-zero : count_of st u < allowance_of st u → spend st u ≡ 0
  unfolding spend
  spend-zero h = rw (lt-ltb (count_of st u) (allowance_of st u) h)

  pub zero-spend : spend st u ≡ 0 → count_of st u < allowance_of st u
  zero-spend h = by (dec_lt (count_of st u) (allowance_of st u))
    where
      by : Dec (count_of st u < allowance_of st u) → count_of st u < allowance_of st u
      by (yes l) = l
      by (no d) = let z = spend-used (omega arith) in absurd (omega arith)

-- ---- a user of the four, and another

pub by_user-below : (u n : ℕ) → u < users → by_user u n ≡ n
unfolding by_user
by_user-below u n h = rw (lt-ltb u users h)

pub by_user-above : (u n : ℕ) → users ≤ u → by_user u n ≡ 46
unfolding by_user
by_user-above u n h = rw (le-ltb u users h)

pub zero-by_user : (u n : ℕ) → by_user u n ≡ 0 → (u < users) × (n ≡ 0)
zero-by_user u n h = by (dec_lt u users)
  where
    by : Dec (u < users) → (u < users) × (n ≡ 0)
    by (yes l) = (l, sym (by_user-below u n l) ∙ h)
    by (no d) = let z = by_user-above u n (omega arith) in absurd (omega arith)

-- ---- what is enabled, pending, quiet

module _ (m : Module Expr) (st : State) where
  pub enabled-thread : (i : ℕ) → i < length m.threads → enabled m st i ≡ not (is_wait (current m st i))
  unfolding enabled thread_enabled
  enabled-thread i h = rw (lt-ltb i (length m.threads) h)

  pub enabled-wire : (k : ℕ) → enabled m st (length m.threads + k) ≡ is_due st k
  unfolding enabled
  enabled-wire k =
      let e : length m.threads + k - length m.threads ≡ k = omega arith in
      rw (le-ltb (length m.threads + k) (length m.threads) (omega arith), e)

  pub none-enabled : any_enabled m st ≡ false → (c : ℕ) → c < items m → enabled m st c ≡ false
  unfolding any_enabled
  none-enabled h c l = none_below (enabled m st) (items m) h c l

  pub enabled-none : ((c : ℕ) → c < items m → enabled m st c ≡ false) → any_enabled m st ≡ false
  unfolding any_enabled
  enabled-none h = below_none (enabled m st) (items m) h

  pub some-enabled : any_enabled m st ≡ true → (c : ℕ) × (c < items m) × (enabled m st c ≡ true)
  unfolding any_enabled
  some-enabled h = some_below (enabled m st) (items m) h

pub is_some-some : (o : Option Value) → is_some o ≡ true → o ≢ none
unfolding is_some
is_some-some none h e = absurd-bool h refl
is_some-some (some a) h e = let z : ◌≡◌ {A = ℕ} 0 1 = cc in omega arith

pub some-is_some : (o : Option Value) → o ≢ none → is_some o ≡ true
unfolding is_some
some-is_some none h = absurd (h refl)
some-is_some (some a) h = refl

pub is_some-none : (o : Option Value) → is_some o ≡ false → o ≡ none
unfolding is_some
is_some-none none h = refl
is_some-none (some a) h = absurd-bool refl h

pub none-is_some : (o : Option Value) → o ≡ none → is_some o ≡ false
unfolding is_some
none-is_some o h = rw h

module _ (m : Module Expr) (st : State) where
  pub some-pending : any_pending m st ≡ true → (q : ℕ) × (q < m.scope.registers) × (pending_of st q ≢ none)
  unfolding any_pending
  some-pending h =
      let s = some_below (λ r. is_some (pending_of st r)) m.scope.registers h in
      (s.0, s.1, is_some-some (pending_of st s.0) s.2)

  pub pending-some : (q : ℕ) → q < m.scope.registers → pending_of st q ≢ none → any_pending m st ≡ true
  unfolding any_pending
  pending-some q l h =
      any-below (λ r. is_some (pending_of st r)) m.scope.registers q l (some-is_some (pending_of st q) h)

  pub none-pending : any_pending m st ≡ false → (r : ℕ) → r < m.scope.registers → pending_of st r ≡ none
  unfolding any_pending
  none-pending h r l = is_some-none (pending_of st r) (none_below (λ r. is_some (pending_of st r)) m.scope.registers h r l)

  pub quiet-enabled : quiet m st ≡ true → any_enabled m st ≡ false
  unfolding quiet
  quiet-enabled h = or_left (any_enabled m st) (any_pending m st) (not-true (any_enabled m st || any_pending m st) h)

  pub quiet-pending : quiet m st ≡ true → any_pending m st ≡ false
  unfolding quiet
  quiet-pending h = or_right (any_enabled m st) (any_pending m st) (not-true (any_enabled m st || any_pending m st) h)

-- ---- ready: the choices that nothing but a used allowance refuses

module _ (m : Module Expr) (st : State) where
  pub data Ready : ℕ → Type 0 where
    thread-ready : {i : ℕ} → i < length m.threads → is_wait (current m st i) ≡ false → Ready i
    wire-ready : {k : ℕ} → k < length m.wires → is_due st k ≡ true → Ready (length m.threads + k)
    commit-ready : ((c : ℕ) → c < items m → enabled m st c ≡ false) →
        (q : ℕ) → q < m.scope.registers → pending_of st q ≢ none → Ready 255

  pub ready-item : (c : ℕ) → c < items m → enabled m st c ≡ true → Ready c
  unfolding items
  ready-item c l h = by (ltb c (length m.threads)) refl
    where
      by : (t : Bool) → ltb c (length m.threads) ≡ t → Ready c
      by true q =
          let i = ltb-true c (length m.threads) q in
          thread-ready i (not-true (is_wait (current m st c)) (sym (enabled-thread m st c i) ∙ h))
      by false q =
          let le = ltb-false c (length m.threads) q in
          let e : length m.threads + (c - length m.threads) ≡ c = omega arith in
          rw e at (wire-ready {k = c - length m.threads} (omega arith) (sym (enabled-wire m st _) ∙ (rw e h)))

module _ (m : Module Expr) (st : State) (u : ℕ) where
  pub refusal-ready : Sound m → u < users → {c : ℕ} → Ready m st c → refusal m st u c ≡ spend st u
  unfolding refusal items
  refusal-ready w b (thread-ready {i = i} l h) =
      rw (lt-ltb i (length m.threads + length m.wires) (omega arith), enabled-thread m st i l, h) (by_user-below u (spend st u) b)
  refusal-ready w b (wire-ready {k = k} l h) =
      rw (
        lt-ltb (length m.threads + k) (length m.threads + length m.wires) (omega arith),
        enabled-wire m st k,
        h,
      )
      (by_user-below u (spend st u) b)
  refusal-ready w b (commit-ready h q l p) =
      rw (
        le-ltb 255 (length m.threads + length m.wires) (omega arith),
        enabled-none m st h,
        pending-some m st q l p,
      )
      (by_user-below u (spend st u) b)

  -- An accepted choice is a ready one, of one of the four users.
  accepts : (c : ℕ) → refusal m st u c ≡ 0 → Ready m st c × (u < users)
  unfolding refusal
  accepts c h = item (ltb c (items m)) refl h
    where
      commits : (s : Bool) → any_enabled m st ≡ s → (t : Bool) → any_pending m st ≡ t → pick s 34 (pick t (spend st u) 35) ≡ 0 →
          Ready m st 255
      commits true e t p q = absurd (omega arith)
      commits false e true p q =
          let r = some-pending m st p in
          commit-ready (none-enabled m st e) r.0 r.1 r.2
      commits false e false p q = absurd (omega arith)

      other : (t : Bool) → eqb c 255 ≡ t →
          pick t (by_user u (pick (any_enabled m st) 34 (pick (any_pending m st) (spend st u) 35))) 22 ≡ 0 → Ready m st c × (u < users)
      other true e q =
          let z = zero-by_user u (pick (any_enabled m st) 34 (pick (any_pending m st) (spend st u) 35)) q in
          (rw (eqb-true c 255 e) (commits (any_enabled m st) refl (any_pending m st) refl z.1), z.0)
      other false e q = absurd (omega arith)

      run : c < items m → (t : Bool) → enabled m st c ≡ t → pick t (spend st u) 33 ≡ 0 → Ready m st c
      run l true e q = ready-item m st c l e
      run l false e q = absurd (omega arith)

      item : (t : Bool) → ltb c (items m) ≡ t →
          pick t (by_user u (pick (enabled m st c) (spend st u) 33))
          (pick (eqb c 255) (by_user u (pick (any_enabled m st) 34 (pick (any_pending m st) (spend st u) 35))) 22)
          ≡ 0 →
          Ready m st c × (u < users)
      item true e q =
          let z = zero-by_user u (pick (enabled m st c) (spend st u) 33) q in
          (run (ltb-true c (items m) e) (enabled m st c) refl z.1, z.0)
      item false e q = other (eqb c 255) refl q

  pub ready-refusal : (c : ℕ) → refusal m st u c ≡ 0 → Ready m st c
  ready-refusal c h = (accepts c h).0

  pub user-refusal : (c : ℕ) → refusal m st u c ≡ 0 → u < users
  user-refusal c h = (accepts c h).1

  pub room-refusal : Sound m → (c : ℕ) → refusal m st u c ≡ 0 → count_of st u < allowance_of st u
  room-refusal w c h = zero-spend st u (sym (refusal-ready w (user-refusal c h) (ready-refusal c h)) ∙ h)

-- ---- the choice as a whole

module _ (m : Module Expr) (st : State) (u c : ℕ) where
  pub number-choose_in : (choose_in m st u c).number ≡ refusal m st u c
  unfolding choose_in
  number-choose_in = answer-number (refusal m st u c) st (performed m st u c)

  pub choose_in-accepted : refusal m st u c ≡ 0 → choose_in m st u c ≡ record { number = 0; state = performed m st u c }
  unfolding choose_in
  choose_in-accepted h = answer-zero (refusal m st u c) st (performed m st u c) h

  pub choose_in-refused : refusal m st u c ≢ 0 → choose_in m st u c ≡ record { number = refusal m st u c; state = st }
  unfolding choose_in
  choose_in-refused h = answer-refused (refusal m st u c) st (performed m st u c) h

  -- "A refusal hands back its number and the state it got".
  pub state-refused : (choose_in m st u c).number ≢ 0 → (choose_in m st u c).state ≡ st
  state-refused h = ap (λ r. r.state) (choose_in-refused (λ e. h (number-choose_in ∙ e)))

-- ---- the counters set anew: all else stays as it was, by computation

set-set : {A : Type 0} (l : List A) (i : ℕ) (a b : A) → set (set l i a) i b ≡ set l i b
set-set [] i a b = refl
set-set (x ∷ l) zero a b = refl
set-set (x ∷ l) (suc i) a b = ap (λ r. x ∷ r) (set-set l i a b)

module _ (n u : ℕ) (st : State) where
  pub values-counted_by : value_of (counted_by n u st) ≡ value_of st
  unfolding value_of counted_by with_counters
  values-counted_by = refl

  pub shaped-counted_by : Shaped st → Shaped (counted_by n u st)
  unfolding counted_by
  shaped-counted_by s =
      shaped-with_counters st _ s (length-set st.counters.counts u (count_of st u + n) ∙ s.counts) s.allowances

  pub value-counted_by : (v : ℕ) → value_of (counted_by n u st) v ≡ value_of st v
  unfolding counted_by
  value-counted_by v = value-with_counters st _ v

  pub pending-counted_by : (r : ℕ) → pending_of (counted_by n u st) r ≡ pending_of st r
  unfolding counted_by
  pending-counted_by r = pending-with_counters st _ r

  pub place-counted_by : (i : ℕ) → place_of (counted_by n u st) i ≡ place_of st i
  unfolding counted_by
  place-counted_by i = place-with_counters st _ i

  pub due-counted_by : (k : ℕ) → is_due (counted_by n u st) k ≡ is_due st k
  unfolding counted_by
  due-counted_by k = due-with_counters st _ k

  -- "is counted for that user alone"
  pub time-counted_by : (counted_by n u st).counters.time ≡ st.counters.time
  unfolding counted_by with_counters
  time-counted_by = refl

  pub count-counted_by : Shaped st → u < users → count_of (counted_by n u st) u ≡ count_of st u + n
  unfolding counted_by with_counters count_of
  count-counted_by s l = get_or-set_same st.counters.counts u (count_of st u + n) 0 (omega (arith, s.counts))

  pub count-counted_by-other : (v : ℕ) → v ≢ u → count_of (counted_by n u st) v ≡ count_of st v
  unfolding counted_by with_counters count_of
  count-counted_by-other v d = get_or-set_other st.counters.counts u v (count_of st u + n) 0 d

  pub allowance-counted_by : (v : ℕ) → allowance_of (counted_by n u st) v ≡ allowance_of st v
  unfolding counted_by with_counters allowance_of
  allowance-counted_by v = refl

-- None more, and some more twice.
pub counted_by-zero : (u : ℕ) (st : State) → counted_by 0 u st ≡ st
unfolding counted_by with_counters count_of
counted_by-zero u st =
    let e : count_of st u + 0 ≡ get_or st.counters.counts u 0 = omega arith in
    let f : set st.counters.counts u (count_of st u + 0) ≡ st.counters.counts =
    ap (set st.counters.counts u) e ∙ set-get_or st.counters.counts u 0 in
    ap (λ c. with_counters st (counters_of st.counters.time c st.counters.allowances)) f

pub counted_by-twice : (n k u : ℕ) (st : State) → Shaped st → u < users → counted_by k u (counted_by n u st) ≡ counted_by (n + k) u st
unfolding counted_by with_counters
counted_by-twice n k u st s l =
    let a = count-counted_by n u st s l in
    let e : count_of (counted_by n u st) u + k ≡ count_of st u + (n + k) = omega arith in
    let f = ap (set (set st.counters.counts u (count_of st u + n)) u) e
    ∙ set-set st.counters.counts u (count_of st u + n) (count_of st u + (n + k)) in
    ap (λ c. with_counters st (counters_of st.counters.time c st.counters.allowances)) f

module _ (u : ℕ) (st : State) where
  pub values-counted : value_of (counted u st) ≡ value_of st
  unfolding counted
  values-counted = values-counted_by 1 u st

  pub shaped-counted : Shaped st → Shaped (counted u st)
  unfolding counted
  shaped-counted s = shaped-counted_by 1 u st s

  pub value-counted : (v : ℕ) → value_of (counted u st) v ≡ value_of st v
  unfolding counted
  value-counted v = value-counted_by 1 u st v

  pub pending-counted : (r : ℕ) → pending_of (counted u st) r ≡ pending_of st r
  unfolding counted
  pending-counted r = pending-counted_by 1 u st r

  pub place-counted : (i : ℕ) → place_of (counted u st) i ≡ place_of st i
  unfolding counted
  place-counted i = place-counted_by 1 u st i

  pub due-counted : (k : ℕ) → is_due (counted u st) k ≡ is_due st k
  unfolding counted
  due-counted k = due-counted_by 1 u st k

  pub time-counted : (counted u st).counters.time ≡ st.counters.time
  unfolding counted
  time-counted = time-counted_by 1 u st

  pub count-counted : Shaped st → u < users → count_of (counted u st) u ≡ count_of st u + 1
  unfolding counted
  count-counted s l = count-counted_by 1 u st s l

  pub count-counted-other : (v : ℕ) → v ≢ u → count_of (counted u st) v ≡ count_of st v
  unfolding counted
  count-counted-other v d = count-counted_by-other 1 u st v d

  pub allowance-counted : (v : ℕ) → allowance_of (counted u st) v ≡ allowance_of st v
  unfolding counted
  allowance-counted v = allowance-counted_by 1 u st v

module _ (st : State) where
  pub values-timed : value_of (timed st) ≡ value_of st
  unfolding value_of timed with_counters
  values-timed = refl

  pub shaped-timed : Shaped st → Shaped (timed st)
  unfolding timed
  shaped-timed s = shaped-with_counters st _ s s.counts s.allowances

  pub value-timed : (v : ℕ) → value_of (timed st) v ≡ value_of st v
  unfolding timed
  value-timed v = value-with_counters st _ v

  pub pending-timed : (r : ℕ) → pending_of (timed st) r ≡ pending_of st r
  unfolding timed
  pending-timed r = pending-with_counters st _ r

  pub place-timed : (i : ℕ) → place_of (timed st) i ≡ place_of st i
  unfolding timed
  place-timed i = place-with_counters st _ i

  pub due-timed : (k : ℕ) → is_due (timed st) k ≡ is_due st k
  unfolding timed
  due-timed k = due-with_counters st _ k

  pub time-timed : (timed st).counters.time ≡ st.counters.time + 1
  unfolding timed with_counters
  time-timed = refl

  pub count-timed : (v : ℕ) → count_of (timed st) v ≡ count_of st v
  unfolding timed with_counters count_of
  count-timed v = refl

  pub allowance-timed : (v : ℕ) → allowance_of (timed st) v ≡ allowance_of st v
  unfolding timed with_counters allowance_of
  allowance-timed v = refl

-- ---- what is performed, by the instruction at which a thread stands

module _ (m : Module Expr) (st : State) (u : ℕ) where
  pub performed-thread :
      (i : ℕ) → i < length m.threads → performed m st u i ≡ run_instr m i (place_of st i) (current m st i) (counted u st)
  unfolding performed run_thread current place_of counted counted_by with_counters
  performed-thread i h = rw (lt-ltb i (length m.threads) h)

  module _ (i : ℕ) (l : i < length m.threads) where
    pub performed-set :
        (t : ℕ) (e : Expr) → current m st i ≡ set! t e →
        performed m st u i
        ≡ with_place (react m (value_of st) (with_value (counted u st) t (eval (value_of st) e))) i (place_of st i + 1)
    unfolding run_instr
    performed-set t e h = rw (performed-thread i l, h, values-counted u st)

    pub performed-later :
        (t : ℕ) (e : Expr) → current m st i ≡ later! t e →
        performed m st u i
        ≡ with_place (with_pending (counted u st) (t - m.scope.inputs) (eval (value_of st) e)) i (place_of st i + 1)
    unfolding run_instr
    performed-later t e h = rw (performed-thread i l, h, values-counted u st)

    pub performed-go : (g : ℕ) → current m st i ≡ go g → performed m st u i ≡ with_place (counted u st) i g
    unfolding run_instr
    performed-go g h = rw (performed-thread i l, h)

    pub performed-ifnot :
        (e : Expr) (g : ℕ) → current m st i ≡ ifnot e g →
        performed m st u i ≡ with_place (counted u st) i (pick (holds (eval (value_of st) e)) (place_of st i + 1) g)
    unfolding run_instr
    performed-ifnot e g h = rw (performed-thread i l, h, values-counted u st)

  pub performed-wire :
      (k : ℕ) → k < length m.wires →
      performed m st u (length m.threads + k)
      ≡ react m (value_of st)
      (with_value (with_due (counted u st) k false) (wire_variable m k) (eval (value_of st) (wire_expr m k)))
  unfolding performed run_wire items
  performed-wire k h =
      let e : length m.threads + k - length m.threads ≡ k = omega arith in
      rw (
        le-ltb (length m.threads + k) (length m.threads) (omega arith),
        lt-ltb (length m.threads + k) (length m.threads + length m.wires) (omega arith),
        e,
        values-counted u st,
      )
      refl

  pub performed-commit :
      Sound m → performed m st u 255 ≡ react m (value_of st) (store_pending m m.scope.registers (counted u st))
  unfolding performed commit items
  performed-commit w =
      rw (
        le-ltb 255 (length m.threads) (omega arith),
        le-ltb 255 (length m.threads + length m.wires) (omega arith),
        values-counted u st,
      )
      refl

module _ (m : Module Expr) (st : State) where
  pub feed-timed :
      (a : ℕ → Value) → feed m a (timed st) ≡ react m (value_of st) (store_inputs a m.scope.inputs (timed st))
  unfolding feed
  feed-timed a = rw (values-timed st)

-- ---- what no part set anew changes: the time, and the counts after a choice

module _ (m : Module Expr) {A : Type 0} (look : State → A)
    (values : (u : State) (v : ℕ) (a : Value) → look (with_value u v a) ≡ look u)
    (slots : (u : State) (r : ℕ) (a : Value) → look (with_pending u r a) ≡ look u)
    (empties : (u : State) (r : ℕ) → look (without_pending u r) ≡ look u)
    (places : (u : State) (i p : ℕ) → look (with_place u i p) ≡ look u)
    (marks : (u : State) (k : ℕ) (b : Bool) → look (with_due u k b) ≡ look u) where
  kept-reaction : (f : ℕ → Value) (st : State) → look (react m f st) ≡ look st
  kept-reaction f st = kept-react m f look places (λ u k. marks u k true) st

  kept-run_instr : (i p : ℕ) (x : Instr Expr) (st : State) → look (run_instr m i p x st) ≡ look st
  unfolding run_instr
  kept-run_instr i p (wait! ts) st = refl
  kept-run_instr i p (set! t e) st =
      places (react m (value_of st) (with_value st t (eval (value_of st) e))) i (p + 1)
      ∙ kept-reaction (value_of st) (with_value st t (eval (value_of st) e)) ∙ values st t (eval (value_of st) e)
  kept-run_instr i p (later! t e) st =
      places (with_pending st (t - m.scope.inputs) (eval (value_of st) e)) i (p + 1)
      ∙ slots st (t - m.scope.inputs) (eval (value_of st) e)
  kept-run_instr i p (go g) st = places st i g
  kept-run_instr i p (ifnot e g) st = places st i (pick (holds (eval (value_of st) e)) (p + 1) g)

  kept-run_wire : (k : ℕ) (st : State) → look (run_wire m k st) ≡ look st
  unfolding run_wire
  kept-run_wire k st =
      let a = eval (value_of st) (wire_expr m k) in
      kept-reaction (value_of st) (with_value (with_due st k false) (wire_variable m k) a)
      ∙ values (with_due st k false) (wire_variable m k) a ∙ marks st k false

  kept-commit : (st : State) → look (commit m st) ≡ look st
  unfolding commit
  kept-commit st =
      kept-reaction (value_of st) (store_pending m m.scope.registers st)
      ∙ kept-store_pending m look values empties m.scope.registers st

  pub kept-performed : (st : State) (u c : ℕ) → look (performed m st u c) ≡ look (counted u st)
  unfolding performed run_thread
  kept-performed st u c = by (ltb c (length m.threads)) (ltb c (items m))
    where
      by : (s t : Bool) →
          look
          (pick s (run_instr m c (place_of (counted u st) c) (current m (counted u st) c) (counted u st))
          (pick t (run_wire m (c - length m.threads) (counted u st)) (commit m (counted u st))))
          ≡ look (counted u st)
      by true t = kept-run_instr c (place_of (counted u st) c) (current m (counted u st) c) (counted u st)
      by false true = kept-run_wire (c - length m.threads) (counted u st)
      by false false = kept-commit (counted u st)

module _ (m : Module Expr) (st : State) (u : ℕ) where
  pub counters-performed : (c : ℕ) → (performed m st u c).counters ≡ (counted u st).counters
  counters-performed c =
      kept-performed m (λ x. x.counters) counters-with_value counters-with_pending counters-without_pending counters-with_place
      counters-with_due st u c

  pub time-performed : (c : ℕ) → (performed m st u c).counters.time ≡ st.counters.time
  time-performed c = ap (λ (k : Counters). k.time) (counters-performed c) ∙ time-counted u st

  pub count-performed : (c : ℕ) → Shaped st → u < users → count_of (performed m st u c) u ≡ count_of st u + 1
  unfolding count_of
  count-performed c s l = ap (λ (k : Counters). get_or k.counts u 0) (counters-performed c) ∙ count-counted u st s l

  pub count-performed-other : (c v : ℕ) → v ≢ u → count_of (performed m st u c) v ≡ count_of st v
  unfolding count_of
  count-performed-other c v d = ap (λ (k : Counters). get_or k.counts v 0) (counters-performed c) ∙ count-counted-other u st v d

  pub allowance-performed : (c v : ℕ) → allowance_of (performed m st u c) v ≡ allowance_of st v
  unfolding allowance_of
  allowance-performed c v = ap (λ (k : Counters). get_or k.allowances v 0) (counters-performed c) ∙ allowance-counted u st v

-- ---- an instant: its number, and its counters

module _ (m : Module Expr) (st : State) (a : Inputs) where
  pub number-instant_in : (instant_in m st a).number ≡ instant_refusal m st a
  unfolding instant_in
  number-instant_in = answer-number (instant_refusal m st a) st (feed m (input_of a) (timed st))

  pub instant_in-accepted :
      instant_refusal m st a ≡ 0 → instant_in m st a ≡ record { number = 0; state = feed m (input_of a) (timed st) }
  unfolding instant_in
  instant_in-accepted h = answer-zero (instant_refusal m st a) st (feed m (input_of a) (timed st)) h

  pub instant_in-refused :
      instant_refusal m st a ≢ 0 → instant_in m st a ≡ record { number = instant_refusal m st a; state = st }
  unfolding instant_in
  instant_in-refused h = answer-refused (instant_refusal m st a) st (feed m (input_of a) (timed st)) h

  pub refusal-quiet : inputs_fit m a ≡ true → quiet m st ≡ true → instant_refusal m st a ≡ spend_time st
  unfolding instant_refusal
  refusal-quiet f q = rw (f, q)

  pub accepted-instant : instant_refusal m st a ≡ 0 → (inputs_fit m a ≡ true) × (quiet m st ≡ true) × (st.counters.time ≢ full)
  unfolding instant_refusal
  accepted-instant h = by (inputs_fit m a) refl (quiet m st) refl h
    where
      by : (f : Bool) → inputs_fit m a ≡ f → (q : Bool) → quiet m st ≡ q → pick f (pick q (spend_time st) 32) 25 ≡ 0 →
          (inputs_fit m a ≡ true) × (quiet m st ≡ true) × (st.counters.time ≢ full)
      by true e true p z = (e, p, zero-spend_time st z)
      by true e false p z = absurd (omega arith)
      by false e q p z = absurd (omega arith)

module _ (m : Module Expr) (st : State) (a : ℕ → Value) where
  kept-feed :
      {A : Type 0} (look : State → A) → ((u : State) (v : ℕ) (b : Value) → look (with_value u v b) ≡ look u) →
      ((u : State) (i p : ℕ) → look (with_place u i p) ≡ look u) → ((u : State) (k : ℕ) → look (with_due u k true) ≡ look u) →
      look (feed m a (timed st)) ≡ look (timed st)
  unfolding feed
  kept-feed look values places marks =
      kept-react m (value_of (timed st)) look places marks (store_inputs a m.scope.inputs (timed st))
      ∙ kept-store_inputs a look values m.scope.inputs (timed st)

  pub counters-feed : (feed m a (timed st)).counters ≡ (timed st).counters
  counters-feed = kept-feed (λ u. u.counters) counters-with_value counters-with_place (λ u k. counters-with_due u k true)

  pub time-feed : (feed m a (timed st)).counters.time ≡ st.counters.time + 1
  time-feed = ap (λ (k : Counters). k.time) counters-feed ∙ time-timed st

  pub count-feed : (v : ℕ) → count_of (feed m a (timed st)) v ≡ count_of st v
  unfolding count_of
  count-feed v = ap (λ (k : Counters). get_or k.counts v 0) counters-feed ∙ count-timed st v

  pub allowance-feed : (v : ℕ) → allowance_of (feed m a (timed st)) v ≡ allowance_of st v
  unfolding allowance_of
  allowance-feed v = ap (λ (k : Counters). get_or k.allowances v 0) counters-feed ∙ allowance-timed st v

-- ---- the lengths stay

module _ (m : Module Expr) where
  pub shaped-run_instr : (i p : ℕ) (x : Instr Expr) (st : State) → Shaped st → Shaped (run_instr m i p x st)
  unfolding run_instr
  shaped-run_instr i p (wait! ts) st s = s
  shaped-run_instr i p (set! t e) st s =
      let u = with_value st t (eval (value_of st) e) in
      shaped-with_place (react m (value_of st) u) i (p + 1)
      (shaped-react m (value_of st) u (shaped-with_value st t (eval (value_of st) e) s))
  shaped-run_instr i p (later! t e) st s =
      shaped-with_place (with_pending st (t - m.scope.inputs) (eval (value_of st) e)) i (p + 1)
      (shaped-with_pending st (t - m.scope.inputs) (eval (value_of st) e) s)
  shaped-run_instr i p (go g) st s = shaped-with_place st i g s
  shaped-run_instr i p (ifnot e g) st s = shaped-with_place st i (pick (holds (eval (value_of st) e)) (p + 1) g) s

  pub shaped-run_wire : (k : ℕ) (st : State) → Shaped st → Shaped (run_wire m k st)
  unfolding run_wire
  shaped-run_wire k st s =
      let a = eval (value_of st) (wire_expr m k) in
      shaped-react m (value_of st) (with_value (with_due st k false) (wire_variable m k) a)
      (shaped-with_value (with_due st k false) (wire_variable m k) a (shaped-with_due st k false s))

  pub shaped-commit : (st : State) → Shaped st → Shaped (commit m st)
  unfolding commit
  shaped-commit st s =
      shaped-react m (value_of st) (store_pending m m.scope.registers st)
      (shaped-store_pending m m.scope.registers st s)

  pub shaped-feed : (a : ℕ → Value) (st : State) → Shaped st → Shaped (feed m a st)
  unfolding feed
  shaped-feed a st s =
      shaped-react m (value_of st) (store_inputs a m.scope.inputs st) (shaped-store_inputs a m.scope.inputs st s)

  pub shaped-performed : (st : State) (u c : ℕ) → Shaped st → Shaped (performed m st u c)
  unfolding performed run_thread
  shaped-performed st u c k = by (ltb c (length m.threads)) (ltb c (items m)) (counted u st) (shaped-counted u st k)
    where
      by : (s t : Bool) (x : State) → Shaped x →
          Shaped
          (pick s (run_instr m c (place_of x c) (current m x c) x)
          (pick t (run_wire m (c - length m.threads) x) (commit m x)))
      by true t x k = shaped-run_instr c (place_of x c) (current m x c) x k
      by false true x k = shaped-run_wire (c - length m.threads) x k
      by false false x k = shaped-commit x k

  pub shaped-choose_in : (st : State) (u c : ℕ) → Shaped st → Shaped (choose_in m st u c).state
  unfolding choose_in answer
  shaped-choose_in st u c k = by (eqb (refusal m st u c) 0)
    where
      by : (t : Bool) →
          Shaped
          (pick {A = Chosen} t (record { number = 0; state = performed m st u c })
          (record { number = refusal m st u c; state = st })).state
      by true = shaped-performed st u c k
      by false = k

-- ---- the instruction at which a thread stands is a sound one; past its code's end it is `go 0`

pub sound-current :
    (m : Module Expr) → Sound m → (st : State) (i : ℕ) → i < length m.threads →
    SoundInstr m.scope (length (code_of m i)) (place_of st i) (current m st i)
unfolding current instr_at code_of
sound-current m w st i l = by (dec_lt (place_of st i) (length (code_of m i)))
  where
    by : Dec (place_of st i < length (code_of m i)) →
        SoundInstr m.scope (length (code_of m i)) (place_of st i) (get_or (code_of m i) (place_of st i) (go 0))
    by (yes q) = (w.code i l).instruction (place_of st i) q
    by (no d) =
        rw (get_or-eq_default (code_of m i) (go 0) {n = place_of st i} (omega arith)) (sound-go (w.code i l).some)
