-- Laws of the simulation cycle's definitions, through the state's accessors: tests over the numbers below n, what fires the
-- waits and marks the wires, the commit's stores and an instant's. With them nobody has to open a recursion of specs/Cycle.
-- Assumes nothing.
use mathlib.Core.Path.{◌≡◌, refl, sym, ap, ◌∙◌}
use mathlib.Core.Logic.{◌≢◌}
use mathlib.Core.Bool.{Bool, true, false, ◌&&◌, ◌||◌, or-true, or-false}
use mathlib.Core.List.{List, [], ◌∷◌}
use mathlib.Core.Option.{Option, none, some}
use Prim.Native.Nat.{ℕ, zero, suc, ◌+◌, ◌-◌, ◌≤◌, ◌<◌}
use native.Mathlib.Decide.{dec_le, dec_lt}
use native.Mathlib.Omega.{arith}
use lib.ListN.{length, get_or, get_or-eq_default}
use borrow.Author.Tests.{not-true, not-false, ltb-true, ltb-false}
use lib.Dec.{ltb}
use Rattle.values.specs.declared.Value.{Value}
use Rattle.values.specs.Values.{pick, same}
use Rattle.values.proofs.Edges.{fires-refl}
use Rattle.values.proofs.Values.{same→≡, same→≢, ≡→same, ≢→same}
use Rattle.sheet.specs.declared.EdgeTerm.{EdgeTerm}
use Rattle.sheet.specs.Expression.{Expr, unknown}
use Rattle.sheet.specs.Statement.{empty}
use Rattle.sheet.specs.Module.{Module}
use Rattle.evaluation.specs.Evaluation.{reads}
use Rattle.pseudocode.specs.Translation.{Instr, go, translate, thread_code}
use Rattle.state.specs.declared.State.{State}
use Rattle.state.specs.State.{Shaped, value_of, with_value, pending_of, without_pending, place_of, with_place, is_due, with_due}
pub use Rattle.state.proofs.Rows.{all_below-each as all-below, each-all_below as below_all}
use Rattle.state.proofs.Accessors.{value-with_value-same, value-with_value-other, pending-with_value, place-with_value, due-with_value, counters-with_value, shaped-with_value}
use Rattle.state.proofs.Accessors.{pending-without_pending-same, pending-without_pending-other, value-without_pending, place-without_pending, due-without_pending, counters-without_pending, shaped-without_pending}
use Rattle.state.proofs.Accessors.{place-with_place-same, place-with_place-other, value-with_place, pending-with_place, due-with_place, counters-with_place, shaped-with_place}
use Rattle.state.proofs.Accessors.{due-with_due-same, due-with_due-other, value-with_due, pending-with_due, place-with_due, counters-with_due, shaped-with_due}
use Rattle.soundness.specs.Soundness.{Sound}
use Rattle.events.specs.Cycle.{variables, code_of, instr_at, current, wire_expr, any_below, all_below, changed, terms_fire, wait_fires, fire_below, touched, mark_below, react, store_one, store_pending, store_inputs}
use Rattle.events.specs.Steps.{latest}

-- ---- Bool

pub absurd-bool : {A : Type 0} {t : Bool} → t ≡ true → t ≡ false → A
absurd-bool h k = let z : ◌≡◌ {A = ℕ} 0 1 = cc in absurd (omega arith)

pub and_left : (s t : Bool) → (s && t) ≡ true → s ≡ true
and_left true t h = refl
and_left false t h = h

pub and_right : (s t : Bool) → (s && t) ≡ true → t ≡ true
and_right true t h = h
and_right false t h = absurd-bool h refl

pub or_left : (s t : Bool) → (s || t) ≡ false → s ≡ false
or_left true t h = h
or_left false t h = refl

pub or_right : (s t : Bool) → (s || t) ≡ false → t ≡ false
or_right true t h = absurd-bool refl h
or_right false t h = h

-- ---- "Each change of values then fires the waits": no wait fires where the variables that it names keep their values

pub terms-quiet : (f g : ℕ → Value) (ts : List EdgeTerm) (other : EdgeTerm)
    → ((k : ℕ) → k < length ts → g (get_or ts k other).variable ≡ f (get_or ts k other).variable) → terms_fire ts f g ≡ false
unfolding terms_fire
terms-quiet f g [] other h = refl
terms-quiet f g (t ∷ ts) other h =
    rw (h 0 (omega arith), fires-refl t.edge (f t.variable)) (terms-quiet f g ts other (λ k l. h (suc k) (omega arith)))

-- ---- any_below, all_below, as facts both ways

-- the numbers below suc n: the last of them, or one below n
pub data Below (n k : ℕ) : Type 0 where
  at-end : k ≡ n → Below n k
  before : k < n → Below n k

pub below_suc : (n k : ℕ) → k < suc n → Below n k
below_suc zero zero h = at-end refl
below_suc zero (suc k) h = absurd (omega arith)
below_suc (suc n) zero h = before (omega arith)
below_suc (suc n) (suc k) h = by (below_suc n k (omega arith))
  where
    by : Below n k → Below (suc n) (suc k)
    by (at-end e) = at-end (ap suc e)
    by (before l) = before (omega arith)

module _ (f : ℕ → Bool) where
  pub any-below : (n k : ℕ) → k < n → f k ≡ true → any_below n f ≡ true
  unfolding any_below
  any-below zero k h e = absurd (omega arith)
  any-below (suc n) k h e = by (any_below n f) (below_suc n k h) (λ l. any-below n k l e)
    where
      by : (t : Bool) → Below n k → (k < n → t ≡ true) → (t || f n) ≡ true
      by true b ih = refl
      by false (at-end q) ih = rw q at e
      by false (before l) ih = absurd-bool (ih l) refl

  pub some_below : (n : ℕ) → any_below n f ≡ true → (k : ℕ) × (k < n) × (f k ≡ true)
  unfolding any_below
  some_below zero h = absurd-bool h refl
  some_below (suc n) h = by (any_below n f) refl (some_below n) h
    where
      by : (t : Bool) → any_below n f ≡ t → (any_below n f ≡ true → (k : ℕ) × (k < n) × (f k ≡ true)) → (t || f n) ≡ true →
          (k : ℕ) × (k < suc n) × (f k ≡ true)
      by true e ih q = let s = ih e in (s.0, omega (arith, s.1), s.2)
      by false e ih q = (n, omega arith, q)

  pub none_below : (n : ℕ) → any_below n f ≡ false → (k : ℕ) → k < n → f k ≡ false
  none_below n h k l = by (f k) refl
    where
      by : (t : Bool) → f k ≡ t → f k ≡ false
      by true e = absurd-bool (any-below n k l e) h
      by false e = e

  pub below_none : (n : ℕ) → ((k : ℕ) → k < n → f k ≡ false) → any_below n f ≡ false
  below_none n h = by (any_below n f) refl
    where
      by : (t : Bool) → any_below n f ≡ t → any_below n f ≡ false
      by true e = let s = some_below n e in absurd-bool s.2 (h s.0 s.1)
      by false e = e

-- Tests that agree below n.
pub any_same : (f g : ℕ → Bool) (n : ℕ) → ((k : ℕ) → k < n → f k ≡ g k) → any_below n f ≡ any_below n g
unfolding any_below
any_same f g zero h = refl
any_same f g (suc n) h = rw (any_same f g n (λ k l. h k (omega arith)), h n (omega arith))

pub all_same : (f g : ℕ → Bool) (n : ℕ) → ((k : ℕ) → k < n → f k ≡ g k) → all_below n f ≡ all_below n g
unfolding all_below
all_same f g zero h = refl
all_same f g (suc n) h = rw (all_same f g n (λ k l. h k (omega arith)), h n (omega arith))

-- ---- a change of values

pub changed-true : (f g : ℕ → Value) (v : ℕ) → changed f g v ≡ true → g v ≢ f v
unfolding changed
changed-true f g v h e = same→≢ (f v) (g v) (not-true (same (f v) (g v)) h) (sym e)

pub changed-false : (f g : ℕ → Value) (v : ℕ) → changed f g v ≡ false → g v ≡ f v
unfolding changed
changed-false f g v h = sym (same→≡ (f v) (g v) (not-false (same (f v) (g v)) h))

pub changed-≢ : (f g : ℕ → Value) (v : ℕ) → g v ≢ f v → changed f g v ≡ true
unfolding changed
changed-≢ f g v h = rw (≢→same (f v) (g v) (λ e. h (sym e)))

pub changed-≡ : (f g : ℕ → Value) (v : ℕ) → g v ≡ f v → changed f g v ≡ false
unfolding changed
changed-≡ f g v h = rw (≡→same (f v) (g v) (sym h))

-- ---- touched: an expression reads a changed variable

module _ (m : Module Expr) (e : Expr) (f g : ℕ → Value) where
  pub touched-true : touched m e f g ≡ true → (v : ℕ) × (v < variables m) × (reads e v ≡ true) × (g v ≢ f v)
  unfolding touched
  touched-true h =
      let s = some_below (λ v. reads e v && changed f g v) (variables m) h in
      let v = s.0 in
      (v, s.1, and_left (reads e v) (changed f g v) s.2, changed-true f g v (and_right (reads e v) (changed f g v) s.2))

  pub touched-false : touched m e f g ≡ false → (v : ℕ) → v < variables m → reads e v ≡ true → g v ≡ f v
  unfolding touched
  touched-false h v l r =
      let q = none_below (λ v. reads e v && changed f g v) (variables m) h v l in
      changed-false f g v (rw r at q)

  pub touched-reads : (v : ℕ) → v < variables m → reads e v ≡ true → g v ≢ f v → touched m e f g ≡ true
  unfolding touched
  touched-reads v l r c = any-below (λ v. reads e v && changed f g v) (variables m) v l (rw (r, changed-≢ f g v c))

  pub touched_none : ((v : ℕ) → v < variables m → reads e v ≡ true → g v ≡ f v) → touched m e f g ≡ false
  unfolding touched
  touched_none h = below_none (λ v. reads e v && changed f g v) (variables m) (λ v l. by v l (reads e v) refl)
    where
      by : (v : ℕ) → v < variables m → (t : Bool) → reads e v ≡ t → (t && changed f g v) ≡ false
      by v l true r = changed-≡ f g v (h v l r)
      by v l false r = refl

-- ---- is a variable a register?

pub data Variable (m : Module Expr) (v : ℕ) : Type 0 where
  a-register : (r : ℕ) → r < m.scope.registers → m.scope.inputs + r ≡ v → Variable m v
  no_register : ((m.scope.inputs ≤ v) × (v < m.scope.inputs + m.scope.registers) → ⊥) → Variable m v

pub register? : (m : Module Expr) (v : ℕ) → Variable m v
register? m v = by (dec_le m.scope.inputs v) (dec_lt v (m.scope.inputs + m.scope.registers))
  where
    by : Dec (m.scope.inputs ≤ v) → Dec (v < m.scope.inputs + m.scope.registers) → Variable m v
    by (yes l) (yes h) = a-register (v - m.scope.inputs) (omega arith) (omega arith)
    by (yes l) (no h) = no_register (λ d. h d.1)
    by (no l) h = no_register (λ d. l d.0)

-- ---- past the last thread and the last wire

pub current-past : (m : Module Expr) (st : State) (i : ℕ) → length m.threads ≤ i → current m st i ≡ go 0
unfolding current instr_at code_of thread_code translate
current-past m st i h = rw (get_or-eq_default m.threads empty h) (by (place_of st i))
  where
    by : (p : ℕ) → get_or {A = Instr Expr} (go 0 ∷ []) p (go 0) ≡ go 0
    by zero = refl
    by (suc p) = refl

pub wire_expr-past : (m : Module Expr) (k : ℕ) → length m.wires ≤ k → wire_expr m k ≡ unknown 1
unfolding wire_expr
wire_expr-past m k h = get_or-eq_default m.wires (unknown 1) h

pub wait_fires-past :
    (m : Module Expr) (st : State) (i : ℕ) (f g : ℕ → Value) → length m.threads ≤ i → wait_fires (current m st i) f g ≡ false
unfolding wait_fires
wait_fires-past m st i f g h = rw (current-past m st i h)

pub touched-past :
    (m : Module Expr) (k : ℕ) (f g : ℕ → Value) → length m.wires ≤ k → touched m (wire_expr m k) f g ≡ false
unfolding reads
touched-past m k f g h = touched_none m (wire_expr m k) f g (λ v l r. absurd-bool r (rw (wire_expr-past m k h)))

-- The current instruction goes by the place.
pub current-place : (m : Module Expr) (s t : State) (i : ℕ) → place_of s i ≡ place_of t i → current m s i ≡ current m t i
unfolding current
current-place m s t i h = rw h

-- ---- fire_below: it changes places alone

module _ (m : Module Expr) (f g : ℕ → Value) where
  -- What no place set anew changes.
  pub kept-fire_below :
      {A : Type 0} (look : State → A) → ((u : State) (i p : ℕ) → look (with_place u i p) ≡ look u) →
      (n : ℕ) (st : State) → look (fire_below m f g n st) ≡ look st
  unfolding fire_below
  kept-fire_below look keeps zero st = refl
  kept-fire_below look keeps (suc n) st = by (fire_below m f g n st) (wait_fires _ f g) ∙ kept-fire_below look keeps n st
    where
      by : (u : State) (t : Bool) → look (pick t (with_place u n (place_of u n + 1)) u) ≡ look u
      by u true = keeps u n (place_of u n + 1)
      by u false = refl

  pub shaped-fire_below : (n : ℕ) (st : State) → Shaped st → Shaped (fire_below m f g n st)
  unfolding fire_below
  shaped-fire_below zero st s = s
  shaped-fire_below (suc n) st s = by (wait_fires _ f g) (fire_below m f g n st) (shaped-fire_below n st s)
    where
      by : (t : Bool) (u : State) → Shaped u → Shaped (pick t (with_place u n (place_of u n + 1)) u)
      by true u s = shaped-with_place u n (place_of u n + 1) s
      by false u s = s

  module _ (n : ℕ) (st : State) where
    pub value-fire_below : (v : ℕ) → value_of (fire_below m f g n st) v ≡ value_of st v
    value-fire_below v = kept-fire_below (λ u. value_of u v) (λ u i p. value-with_place u i p v) n st

    pub pending-fire_below : (r : ℕ) → pending_of (fire_below m f g n st) r ≡ pending_of st r
    pending-fire_below r = kept-fire_below (λ u. pending_of u r) (λ u i p. pending-with_place u i p r) n st

    pub due-fire_below : (k : ℕ) → is_due (fire_below m f g n st) k ≡ is_due st k
    due-fire_below k = kept-fire_below (λ u. is_due u k) (λ u i p. due-with_place u i p k) n st

    pub counters-fire_below : (fire_below m f g n st).counters ≡ st.counters
    counters-fire_below = kept-fire_below (λ u. u.counters) (λ u i p. counters-with_place u i p) n st

  -- ---- fire_below: places

  pub place-fire_below-above : (n : ℕ) (st : State) (j : ℕ) → n ≤ j → place_of (fire_below m f g n st) j ≡ place_of st j
  unfolding fire_below
  place-fire_below-above zero st j h = refl
  place-fire_below-above (suc n) st j h =
      by (wait_fires _ f g) (fire_below m f g n st) ∙ place-fire_below-above n st j (omega arith)
    where
      by : (t : Bool) (u : State) → place_of (pick t (with_place u n (place_of u n + 1)) u) j ≡ place_of u j
      by true u = place-with_place-other u n (place_of u n + 1) j (λ e. omega arith)
      by false u = refl

  pub place-fire_below :
      (n : ℕ) (st : State) → Shaped st → n ≤ 8 → (j : ℕ) → j < n →
      place_of (fire_below m f g n st) j ≡ pick (wait_fires (current m st j) f g) (place_of st j + 1) (place_of st j)
  unfolding fire_below
  place-fire_below zero st s b j h = absurd (omega arith)
  place-fire_below (suc n) st s b j h = by (below_suc n j h) (λ l. place-fire_below n st s (omega arith) j l)
    where
      u : State
      u = fire_below m f g n st

      here : (t : Bool) → place_of (pick t (with_place u n (place_of u n + 1)) u) n ≡ pick t (place_of u n + 1) (place_of u n)
      here true = place-with_place-same u n (place_of u n + 1) (shaped-fire_below n st s) (omega arith)
      here false = refl

      other : (t : Bool) → j < n → place_of (pick t (with_place u n (place_of u n + 1)) u) j ≡ place_of u j
      other true l = place-with_place-other u n (place_of u n + 1) j (λ e. omega arith)
      other false l = refl

      by : Below n j →
          (j < n → place_of u j ≡ pick (wait_fires (current m st j) f g) (place_of st j + 1) (place_of st j)) →
          place_of (pick (wait_fires (current m u n) f g) (with_place u n (place_of u n + 1)) u) j
          ≡ pick (wait_fires (current m st j) f g) (place_of st j + 1) (place_of st j)
      by (at-end e) below =
          let q : place_of u n ≡ place_of st n = place-fire_below-above n st n (omega arith) in
          rw (e, here (wait_fires (current m u n) f g), current-place m u st n q, q)
      by (before l) below = other (wait_fires (current m u n) f g) l ∙ below l

  -- ---- mark_below: it changes marks alone

  pub kept-mark_below :
      {A : Type 0} (look : State → A) → ((u : State) (k : ℕ) → look (with_due u k true) ≡ look u) →
      (n : ℕ) (st : State) → look (mark_below m f g n st) ≡ look st
  unfolding mark_below
  kept-mark_below look keeps zero st = refl
  kept-mark_below look keeps (suc n) st =
      by (mark_below m f g n st) (touched m (wire_expr m n) f g) ∙ kept-mark_below look keeps n st
    where
      by : (u : State) (t : Bool) → look (pick t (with_due u n true) u) ≡ look u
      by u true = keeps u n
      by u false = refl

  pub shaped-mark_below : (n : ℕ) (st : State) → Shaped st → Shaped (mark_below m f g n st)
  unfolding mark_below
  shaped-mark_below zero st s = s
  shaped-mark_below (suc n) st s = by (touched m (wire_expr m n) f g) (mark_below m f g n st) (shaped-mark_below n st s)
    where
      by : (t : Bool) (u : State) → Shaped u → Shaped (pick t (with_due u n true) u)
      by true u s = shaped-with_due u n true s
      by false u s = s

  module _ (n : ℕ) (st : State) where
    pub value-mark_below : (v : ℕ) → value_of (mark_below m f g n st) v ≡ value_of st v
    value-mark_below v = kept-mark_below (λ u. value_of u v) (λ u k. value-with_due u k true v) n st

    pub pending-mark_below : (r : ℕ) → pending_of (mark_below m f g n st) r ≡ pending_of st r
    pending-mark_below r = kept-mark_below (λ u. pending_of u r) (λ u k. pending-with_due u k true r) n st

    pub place-mark_below : (i : ℕ) → place_of (mark_below m f g n st) i ≡ place_of st i
    place-mark_below i = kept-mark_below (λ u. place_of u i) (λ u k. place-with_due u k true i) n st

    pub counters-mark_below : (mark_below m f g n st).counters ≡ st.counters
    counters-mark_below = kept-mark_below (λ u. u.counters) (λ u k. counters-with_due u k true) n st

  -- ---- mark_below: marks

  pub due-mark_below-above : (n : ℕ) (st : State) (k : ℕ) → n ≤ k → is_due (mark_below m f g n st) k ≡ is_due st k
  unfolding mark_below
  due-mark_below-above zero st k h = refl
  due-mark_below-above (suc n) st k h =
      by (touched m (wire_expr m n) f g) (mark_below m f g n st) ∙ due-mark_below-above n st k (omega arith)
    where
      by : (t : Bool) (u : State) → is_due (pick t (with_due u n true) u) k ≡ is_due u k
      by true u = due-with_due-other u n true k (λ e. omega arith)
      by false u = refl

  pub due-mark_below :
      (n : ℕ) (st : State) → Shaped st → n ≤ 32 → (k : ℕ) → k < n →
      is_due (mark_below m f g n st) k ≡ (is_due st k || touched m (wire_expr m k) f g)
  unfolding mark_below
  due-mark_below zero st s b k h = absurd (omega arith)
  due-mark_below (suc n) st s b k h = by (below_suc n k h) (λ l. due-mark_below n st s (omega arith) k l)
    where
      u : State
      u = mark_below m f g n st

      here : (t : Bool) → is_due (pick t (with_due u n true) u) n ≡ (is_due u n || t)
      here true = due-with_due-same u n true (shaped-mark_below n st s) (omega arith) ∙ sym (or-true (is_due u n))
      here false = sym (or-false (is_due u n))

      other : (t : Bool) → k < n → is_due (pick t (with_due u n true) u) k ≡ is_due u k
      other true l = due-with_due-other u n true k (λ e. omega arith)
      other false l = refl

      by : Below n k → (k < n → is_due u k ≡ (is_due st k || touched m (wire_expr m k) f g)) →
          is_due (pick (touched m (wire_expr m n) f g) (with_due u n true) u) k ≡ (is_due st k || touched m (wire_expr m k) f g)
      by (at-end e) below =
          rw (e, here (touched m (wire_expr m n) f g), due-mark_below-above n st n (omega arith))
      by (before l) below = other (touched m (wire_expr m n) f g) l ∙ below l

-- ---- react: it fires the waits and marks the wires, and changes nothing else

module _ (m : Module Expr) (f : ℕ → Value) where
  pub kept-react :
      {A : Type 0} (look : State → A) → ((u : State) (i p : ℕ) → look (with_place u i p) ≡ look u) →
      ((u : State) (k : ℕ) → look (with_due u k true) ≡ look u) → (st : State) → look (react m f st) ≡ look st
  unfolding react
  kept-react look places marks st =
      kept-mark_below m f (value_of st) look marks (length m.wires) (fire_below m f (value_of st) (length m.threads) st)
      ∙ kept-fire_below m f (value_of st) look places (length m.threads) st

  module _ (st : State) where
    pub shaped-react : Shaped st → Shaped (react m f st)
    unfolding react
    shaped-react s =
        shaped-mark_below m f (value_of st) (length m.wires) (fire_below m f (value_of st) (length m.threads) st)
        (shaped-fire_below m f (value_of st) (length m.threads) st s)

    pub value-react : (v : ℕ) → value_of (react m f st) v ≡ value_of st v
    value-react v = kept-react (λ u. value_of u v) (λ u i p. value-with_place u i p v) (λ u k. value-with_due u k true v) st

    pub pending-react : (r : ℕ) → pending_of (react m f st) r ≡ pending_of st r
    pending-react r = kept-react (λ u. pending_of u r) (λ u i p. pending-with_place u i p r) (λ u k. pending-with_due u k true r) st

    pub counters-react : (react m f st).counters ≡ st.counters
    counters-react = kept-react (λ u. u.counters) (λ u i p. counters-with_place u i p) (λ u k. counters-with_due u k true) st

    -- A thread at a wait that fires goes on, every other stays.
    pub place-react :
        Sound m → Shaped st → (j : ℕ) →
        place_of (react m f st) j ≡ pick (wait_fires (current m st j) f (value_of st)) (place_of st j + 1) (place_of st j)
    unfolding react
    place-react w s j = place-mark_below m f (value_of st) (length m.wires) fired j ∙ by (ltb j (length m.threads)) refl
      where
        fired : State
        fired = fire_below m f (value_of st) (length m.threads) st

        by : (t : Bool) → ltb j (length m.threads) ≡ t →
            place_of fired j ≡ pick (wait_fires (current m st j) f (value_of st)) (place_of st j + 1) (place_of st j)
        by true l =
            place-fire_below m f (value_of st) (length m.threads) st s w.threads-most j (ltb-true j (length m.threads) l)
        by false l =
            let past = ltb-false j (length m.threads) l in
            rw (wait_fires-past m st j f (value_of st) past)
            (place-fire_below-above m f (value_of st) (length m.threads) st j past)

    -- A wire is due if it was, or if it reads a changed variable.
    pub due-react :
        Sound m → Shaped st → (k : ℕ) →
        is_due (react m f st) k ≡ (is_due st k || touched m (wire_expr m k) f (value_of st))
    unfolding react
    due-react w s k =
        by (ltb k (length m.wires)) refl
        ∙ ap (λ t. t || touched m (wire_expr m k) f (value_of st)) (due-fire_below m f (value_of st) (length m.threads) st k)
      where
        fired : State
        fired = fire_below m f (value_of st) (length m.threads) st

        by : (t : Bool) → ltb k (length m.wires) ≡ t →
            is_due (mark_below m f (value_of st) (length m.wires) fired) k
            ≡ (is_due fired k || touched m (wire_expr m k) f (value_of st))
        by true l =
            due-mark_below m f (value_of st) (length m.wires) fired
            (shaped-fire_below m f (value_of st) (length m.threads) st s) w.wires-most k (ltb-true k (length m.wires) l)
        by false l =
            let past = ltb-false k (length m.wires) l in
            rw (touched-past m k f (value_of st) past, or-false (is_due fired k))
            (due-mark_below-above m f (value_of st) (length m.wires) fired k past)

-- ---- store_pending: the pending values stored, and none left

module _ (m : Module Expr) where
  pub kept-store_pending :
      {A : Type 0} (look : State → A) → ((u : State) (v : ℕ) (a : Value) → look (with_value u v a) ≡ look u) →
      ((u : State) (r : ℕ) → look (without_pending u r) ≡ look u) → (n : ℕ) (st : State) → look (store_pending m n st) ≡ look st
  unfolding store_pending store_one
  kept-store_pending look values slots zero st = refl
  kept-store_pending look values slots (suc n) st =
      by (store_pending m n st) (pending_of (store_pending m n st) n) ∙ kept-store_pending look values slots n st
    where
      by : (u : State) (o : Option Value) → look (store_one (m.scope.inputs + n) n o u) ≡ look u
      by u none = refl
      by u (some a) = slots (with_value u (m.scope.inputs + n) a) n ∙ values u (m.scope.inputs + n) a

  pub shaped-store_pending : (n : ℕ) (st : State) → Shaped st → Shaped (store_pending m n st)
  unfolding store_pending store_one
  shaped-store_pending zero st s = s
  shaped-store_pending (suc n) st s =
      by (store_pending m n st) (shaped-store_pending n st s) (pending_of (store_pending m n st) n)
    where
      by : (u : State) → Shaped u → (o : Option Value) → Shaped (store_one (m.scope.inputs + n) n o u)
      by u s none = s
      by u s (some a) =
          shaped-without_pending (with_value u (m.scope.inputs + n) a) n (shaped-with_value u (m.scope.inputs + n) a s)

  module _ (n : ℕ) (st : State) where
    pub place-store_pending : (i : ℕ) → place_of (store_pending m n st) i ≡ place_of st i
    place-store_pending i =
        kept-store_pending (λ u. place_of u i) (λ u v a. place-with_value u v a i) (λ u r. place-without_pending u r i) n st

    pub due-store_pending : (k : ℕ) → is_due (store_pending m n st) k ≡ is_due st k
    due-store_pending k =
        kept-store_pending (λ u. is_due u k) (λ u v a. due-with_value u v a k) (λ u r. due-without_pending u r k) n st

    pub counters-store_pending : (store_pending m n st).counters ≡ st.counters
    counters-store_pending =
        kept-store_pending (λ u. u.counters) (λ u v a. counters-with_value u v a) (λ u r. counters-without_pending u r) n st

-- ---- one register's store

module _ (v r : ℕ) (u : State) where
  pub value-store_one-same : (o : Option Value) → Shaped u → v < 80 → value_of (store_one v r o u) v ≡ latest o (value_of u v)
  unfolding store_one latest
  value-store_one-same none s h = refl
  value-store_one-same (some a) s h = value-without_pending (with_value u v a) r v ∙ value-with_value-same u v a s h

  pub value-store_one-other : (o : Option Value) (w : ℕ) → v ≢ w → value_of (store_one v r o u) w ≡ value_of u w
  unfolding store_one
  value-store_one-other none w h = refl
  value-store_one-other (some a) w h = value-without_pending (with_value u v a) r w ∙ value-with_value-other u v a w h

  pub pending-store_one-same : Shaped u → r < 32 → pending_of (store_one v r (pending_of u r) u) r ≡ none
  unfolding store_one
  pending-store_one-same s h = by (pending_of u r) refl
    where
      by : (o : Option Value) → pending_of u r ≡ o → pending_of (store_one v r o u) r ≡ none
      by none e = e
      by (some a) e = pending-without_pending-same (with_value u v a) r (shaped-with_value u v a s) h

  pub pending-store_one-other : (o : Option Value) (q : ℕ) → r ≢ q → pending_of (store_one v r o u) q ≡ pending_of u q
  unfolding store_one
  pending-store_one-other none q h = refl
  pending-store_one-other (some a) q h =
      pending-without_pending-other (with_value u v a) r q h ∙ pending-with_value u v a q

-- ---- store_pending: values and pending values

module _ (m : Module Expr) where
  -- A variable that is none of the first n registers.
  pub value-store_pending-other :
      (n : ℕ) (st : State) (v : ℕ) → ((r : ℕ) → r < n → m.scope.inputs + r ≢ v) → value_of (store_pending m n st) v ≡ value_of st v
  unfolding store_pending
  value-store_pending-other zero st v h = refl
  value-store_pending-other (suc n) st v h =
      let u = store_pending m n st in
      value-store_one-other (m.scope.inputs + n) n u (pending_of u n) v (h n (omega arith))
      ∙ value-store_pending-other n st v (λ r l. h r (omega arith))

  pub pending-store_pending-above : (n : ℕ) (st : State) (r : ℕ) → n ≤ r → pending_of (store_pending m n st) r ≡ pending_of st r
  unfolding store_pending
  pending-store_pending-above zero st r h = refl
  pending-store_pending-above (suc n) st r h =
      let u = store_pending m n st in
      pending-store_one-other (m.scope.inputs + n) n u (pending_of u n) r (λ e. omega arith)
      ∙ pending-store_pending-above n st r (omega arith)

  pub pending-store_pending :
      (n : ℕ) (st : State) → Shaped st → n ≤ 32 → (r : ℕ) → r < n → pending_of (store_pending m n st) r ≡ none
  unfolding store_pending
  pending-store_pending zero st s b r h = absurd (omega arith)
  pending-store_pending (suc n) st s b r h =
      by (store_pending m n st) (shaped-store_pending m n st s) (below_suc n r h) (pending-store_pending n st s (omega arith) r)
    where
      by : (u : State) → Shaped u → Below n r → (r < n → pending_of u r ≡ none) →
          pending_of (store_one (m.scope.inputs + n) n (pending_of u n) u) r ≡ none
      by u k (at-end e) below = rw e (pending-store_one-same (m.scope.inputs + n) n u k (omega arith))
      by u k (before l) below =
          pending-store_one-other (m.scope.inputs + n) n u (pending_of u n) r (λ e. omega arith) ∙ below l

  -- A register takes its pending value, or else keeps its own.
  pub value-store_pending :
      (n : ℕ) (st : State) → Shaped st → m.scope.inputs + n ≤ 80 → (r : ℕ) → r < n →
      value_of (store_pending m n st) (m.scope.inputs + r) ≡ latest (pending_of st r) (value_of st (m.scope.inputs + r))
  unfolding store_pending
  value-store_pending zero st s b r h = absurd (omega arith)
  value-store_pending (suc n) st s b r h = by (below_suc n r h) (value-store_pending n st s (omega arith) r)
    where
      u : State
      u = store_pending m n st

      v : ℕ
      v = m.scope.inputs + n

      by : Below n r →
          (r < n → value_of u (m.scope.inputs + r) ≡ latest (pending_of st r) (value_of st (m.scope.inputs + r))) →
          value_of (store_one v n (pending_of u n) u) (m.scope.inputs + r)
          ≡ latest (pending_of st r) (value_of st (m.scope.inputs + r))
      by (at-end e) below =
          rw (
            e,
            value-store_one-same v n u (pending_of u n) (shaped-store_pending m n st s) (omega arith),
            pending-store_pending-above n st n (omega arith),
            value-store_pending-other n st v (λ q l p. omega arith),
          )
          refl
      by (before l) below =
          value-store_one-other v n u (pending_of u n) (m.scope.inputs + r) (λ e. omega arith) ∙ below l

-- ---- store_inputs: it sets the values below n alone

module _ (a : ℕ → Value) where
  pub kept-store_inputs :
      {A : Type 0} (look : State → A) → ((u : State) (v : ℕ) (b : Value) → look (with_value u v b) ≡ look u) →
      (n : ℕ) (st : State) → look (store_inputs a n st) ≡ look st
  unfolding store_inputs
  kept-store_inputs look keeps zero st = refl
  kept-store_inputs look keeps (suc n) st = keeps (store_inputs a n st) n (a n) ∙ kept-store_inputs look keeps n st

  pub shaped-store_inputs : (n : ℕ) (st : State) → Shaped st → Shaped (store_inputs a n st)
  unfolding store_inputs
  shaped-store_inputs zero st s = s
  shaped-store_inputs (suc n) st s = shaped-with_value (store_inputs a n st) n (a n) (shaped-store_inputs n st s)

  module _ (n : ℕ) (st : State) where
    pub pending-store_inputs : (r : ℕ) → pending_of (store_inputs a n st) r ≡ pending_of st r
    pending-store_inputs r = kept-store_inputs (λ u. pending_of u r) (λ u v b. pending-with_value u v b r) n st

    pub place-store_inputs : (i : ℕ) → place_of (store_inputs a n st) i ≡ place_of st i
    place-store_inputs i = kept-store_inputs (λ u. place_of u i) (λ u v b. place-with_value u v b i) n st

    pub due-store_inputs : (k : ℕ) → is_due (store_inputs a n st) k ≡ is_due st k
    due-store_inputs k = kept-store_inputs (λ u. is_due u k) (λ u v b. due-with_value u v b k) n st

    pub counters-store_inputs : (store_inputs a n st).counters ≡ st.counters
    counters-store_inputs = kept-store_inputs (λ u. u.counters) (λ u v b. counters-with_value u v b) n st

  pub value-store_inputs-above : (n : ℕ) (st : State) (v : ℕ) → n ≤ v → value_of (store_inputs a n st) v ≡ value_of st v
  unfolding store_inputs
  value-store_inputs-above zero st v h = refl
  value-store_inputs-above (suc n) st v h =
      value-with_value-other (store_inputs a n st) n (a n) v (λ e. omega arith) ∙ value-store_inputs-above n st v (omega arith)

  pub value-store_inputs :
      (n : ℕ) (st : State) → Shaped st → n ≤ 80 → (v : ℕ) → v < n → value_of (store_inputs a n st) v ≡ a v
  unfolding store_inputs
  value-store_inputs zero st s b v h = absurd (omega arith)
  value-store_inputs (suc n) st s b v h =
      by (store_inputs a n st) (shaped-store_inputs n st s) (below_suc n v h) (value-store_inputs n st s (omega arith) v)
    where
      by : (u : State) → Shaped u → Below n v → (v < n → value_of u v ≡ a v) → value_of (with_value u n (a n)) v ≡ a v
      by u k (at-end e) below = rw e (value-with_value-same u n (a n) k (omega arith))
      by u k (before l) below = value-with_value-other u n (a n) v (λ e. omega arith) ∙ below l
