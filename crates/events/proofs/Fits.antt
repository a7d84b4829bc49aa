-- A state that fits the sheet (the condition of number 31), as facts: `Fits`. It is `state_fits` both ways (fits-state,
-- state-fits), the state at the start has it (fits-started), and every step and instant keeps it (fits-step, fits-instant,
-- fits-choose_in, fits-instant_in). Assumes nothing.
use mathlib.Core.Path.{◌≡◌, refl, sym, ap, ◌∙◌}
use mathlib.Core.Logic.{◌≢◌}
use mathlib.Core.Bool.{Bool, true, false, not, ◌&&◌}
use mathlib.Core.List.{List}
use mathlib.Core.Option.{Option, none, some}
use Prim.Native.Nat.{ℕ, zero, suc, ◌+◌, ◌-◌, ◌≤◌, ◌<◌}
use native.Mathlib.Decide.{ℕ_discrete, dec_lt}
use native.Mathlib.Omega.{arith}
use lib.ListN.{length, get_or, replicate, get_or-eq_default, set, length-set}
use lib.Seq.{set-get_or, get_or-set_same, get_or-set_other}
use lib.Dec.{ltb, leb, eqb}
use borrow.Author.Tests.{not-true, ltb-true, lt-ltb, le-ltb, leb-true, le-leb}
use Rattle.values.specs.declared.Value.{Value}
use Rattle.values.specs.Values.{ones, all_unknown, fits}
use Rattle.values.specs.Planes.{value_at}
use Rattle.values.proofs.Values.{fits-unknown}
use Rattle.sheet.specs.Expression.{Expr, Scope}
use Rattle.sheet.specs.Module.{Module}
use Rattle.evaluation.specs.Evaluation.{eval, reads}
use Rattle.pseudocode.specs.Translation.{Instr, set!, later!, go, ifnot}
use Rattle.state.specs.declared.State.{State}
use Rattle.state.specs.State.{Shaped, users, count_of, allowance_of, value_of, pending_of, place_of, is_due}
use Rattle.state.proofs.Rows.{length-list_of, get_d-list_of}
use Rattle.soundness.specs.Soundness.{Fitting, Sound, SoundTarget, SoundInstr, sound-wait, sound-set, sound-later, sound-go, sound-ifnot}
use Rattle.events.specs.declared.Inputs.{Inputs}
use Rattle.events.specs.Cycle.{code_of, wire_expr, wire_variable, all_below, is_some, quiet, wait_fires, feed}
use Rattle.events.specs.Calls.{unset, due_below, started, width_of, pending_fits, state_fits, refusal, performed, choose_in, input_of, inputs_fit, timed, instant_refusal, instant_in}
use Rattle.events.specs.Steps.{latest, Calm, Fired, goes_on, stays, Marked, was-due, reads-changed, not-due, Acts, assigns, defers, jumps, goes_in, passes-by, settles, commits, Step, Instant}
use Rattle.events.proofs.Cycle.{absurd-bool, and_left, and_right, all-below, below_all, wire_expr-past, Variable, a-register, no_register, register?}
use Rattle.events.proofs.Choices.{is_some-none, none-is_some, sound-current, ready-refusal, user-refusal, room-refusal, choose_in-accepted, choose_in-refused, accepted-instant, instant_in-accepted, instant_in-refused}
use Rattle.events.proofs.Steps.{step-performed, instant-feed}

-- ---- Fits: "31 state doesn't fit the sheet (value or pending too wide; place outside its thread ..; mark or pending past the
-- sheet's)", and "(a count above it is 31)"; here it does

-- No count is above its allowance.
abbrev pub CountsFit : State → Type 0
CountsFit st = (u : ℕ) → u < users → count_of st u ≤ allowance_of st u

pub record Fits (m : Module Expr) (st : State) : Type 0 where
  pub values : (v : ℕ) → v < length m.scope.widths → fits (width_of m v) (value_of st v) ≡ true
  pub pending : (r : ℕ) → r < m.scope.registers → pending_fits (width_of m (m.scope.inputs + r)) (pending_of st r) ≡ true
  pub places : (i : ℕ) → i < length m.threads → place_of st i < length (code_of m i)
  pub marks-past : (k : ℕ) → length m.wires ≤ k → is_due st k ≡ false
  pub pending-past : (r : ℕ) → m.scope.registers ≤ r → pending_of st r ≡ none
  pub counts : CountsFit st

-- ---- past the arrays' ends

pub due-past : (st : State) (k : ℕ) → Shaped st → 32 ≤ k → is_due st k ≡ false
unfolding is_due
due-past st k s h = get_or-eq_default st.due false (omega (arith, s.due))

pub none-past : (st : State) (r : ℕ) → Shaped st → 32 ≤ r → pending_of st r ≡ none
unfolding pending_of
none-past st r s h =
    let e : get_or st.held r false ≡ false = get_or-eq_default st.held false (omega (arith, s.held)) in
    rw e

-- ---- Fits is state_fits

module _ (m : Module Expr) (st : State) where
  abbrev registers : ℕ
  registers = m.scope.registers

  abbrev wires : ℕ
  wires = length m.wires

  abbrev values_fit : Bool
  values_fit = all_below (length m.scope.widths) (λ v. fits (width_of m v) (value_of st v))

  abbrev slots_fit : Bool
  slots_fit = all_below registers (λ r. pending_fits (width_of m (m.scope.inputs + r)) (pending_of st r))

  abbrev places_fit : Bool
  places_fit = all_below (length m.threads) (λ i. ltb (place_of st i) (length (code_of m i)))

  abbrev marks_fit : Bool
  marks_fit = all_below (32 - wires) (λ k. not (is_due st (wires + k)))

  abbrev past_fit : Bool
  past_fit = all_below (32 - registers) (λ r. not (is_some (pending_of st (registers + r))))

  abbrev counts_fit : Bool
  counts_fit = all_below users (λ u. leb (count_of st u) (allowance_of st u))

  -- A number from n up to 32, or past it.
  from : (n k : ℕ) (test : ℕ → Bool) → n ≤ k → all_below (32 - n) (λ j. not (test (n + j))) ≡ true → (32 ≤ k → test k ≡ false) →
      test k ≡ false
  from n k test h all past = by (dec_lt k 32)
    where
      by : Dec (k < 32) → test k ≡ false
      by (yes b) =
          let e : n + (k - n) ≡ k = omega arith in
          rw e at (not-true (test (n + (k - n))) (all-below (λ j. not (test (n + j))) (32 - n) all (k - n) (omega arith)))
      by (no d) = past (omega arith)

  pub fits-state : Shaped st → state_fits m st ≡ true → Fits m st
  unfolding state_fits
  fits-state s h =
      let h4 = and_left (values_fit && slots_fit && places_fit && marks_fit && past_fit) counts_fit h in
      let h3 = and_left (values_fit && slots_fit && places_fit && marks_fit) past_fit h4 in
      let h2 = and_left (values_fit && slots_fit && places_fit) marks_fit h3 in
      let h1 = and_left (values_fit && slots_fit) places_fit h2 in
      record {
        values = all-below (λ v. fits (width_of m v) (value_of st v)) (length m.scope.widths) (and_left values_fit slots_fit h1);
        pending =
            all-below (λ r. pending_fits (width_of m (m.scope.inputs + r)) (pending_of st r)) registers
            (and_right values_fit slots_fit h1);
        places = λ i l. ltb-true (place_of st i) (length (code_of m i))
            (all-below (λ i. ltb (place_of st i) (length (code_of m i))) (length m.threads)
            (and_right (values_fit && slots_fit) places_fit h2) i l);
        marks-past = λ k l. from wires k (is_due st) l (and_right (values_fit && slots_fit && places_fit) marks_fit h3)
            (due-past st k s);
        pending-past = λ r l. is_some-none (pending_of st r)
            (from registers r (λ q. is_some (pending_of st q)) l
            (and_right (values_fit && slots_fit && places_fit && marks_fit) past_fit h4)
            (λ b. none-is_some (pending_of st r) (none-past st r s b)));
        counts = λ u l. leb-true (count_of st u) (allowance_of st u)
            (all-below (λ u. leb (count_of st u) (allowance_of st u)) users
            (and_right (values_fit && slots_fit && places_fit && marks_fit && past_fit) counts_fit h) u l);
      }

  pub state-fits : Fits m st → state_fits m st ≡ true
  unfolding state_fits
  state-fits f =
      rw (
        below_all (λ v. fits (width_of m v) (value_of st v)) (length m.scope.widths) f.values,
        below_all (λ r. pending_fits (width_of m (m.scope.inputs + r)) (pending_of st r)) registers f.pending,
        below_all (λ i. ltb (place_of st i) (length (code_of m i))) (length m.threads)
            (λ i l. lt-ltb (place_of st i) (length (code_of m i)) (f.places i l)),
        below_all (λ k. not (is_due st (wires + k))) (32 - wires) (λ k l. rw (f.marks-past (wires + k) (omega arith)) refl),
        below_all (λ r. not (is_some (pending_of st (registers + r)))) (32 - registers)
            (λ r l. rw (none-is_some (pending_of st (registers + r)) (f.pending-past (registers + r) (omega arith))) refl),
        below_all (λ u. leb (count_of st u) (allowance_of st u)) users
            (λ u l. le-leb (count_of st u) (allowance_of st u) (f.counts u l)),
      )
      refl

-- ---- values that fit

fitting : (m : Module Expr) (st : State) → Fits m st → Fitting m.scope (value_of st)
unfolding width_of
fitting m st f = f.values

pub latest-fits : (w : ℕ) (o : Option Value) (a : Value) → pending_fits w o ≡ true → fits w a ≡ true → fits w (latest o a) ≡ true
unfolding latest pending_fits
latest-fits w none a p f = f
latest-fits w (some b) a p f = p

-- A variable that is t or another.
one_value :
    (m : Module Expr) (old new : State) → Fits m old → (t : ℕ) → fits (width_of m t) (value_of new t) ≡ true →
    ((v : ℕ) → (v ≡ t → ⊥) → value_of new v ≡ value_of old v) → (v : ℕ) → v < length m.scope.widths →
    fits (width_of m v) (value_of new v) ≡ true
one_value m old new f t h others v l = by (ℕ_discrete v t)
  where
    by : Dec (v ≡ t) → fits (width_of m v) (value_of new v) ≡ true
    by (yes e) = rw e h
    by (no d) = rw (others v d) (f.values v l)

-- ---- places that fit: no instruction leads out of its thread

next-set : {c : Scope} {n p t : ℕ} {e : Expr} → SoundInstr c n p (set! t e) → (p + 1 < n) × SoundTarget c t e
next-set (sound-set l g) = (l, g)

next-later : {c : Scope} {n p t : ℕ} {e : Expr} → SoundInstr c n p (later! t e) → (p + 1 < n) × SoundTarget c t e
next-later (sound-later l g) = (l, g)

goal-go : {c : Scope} {n p g : ℕ} → SoundInstr c n p (go g) → g < n
goal-go (sound-go l) = l

goal-ifnot : {c : Scope} {n p g : ℕ} {e : Expr} → SoundInstr c n p (ifnot e g) → (p + 1 < n) × (g < n)
goal-ifnot (sound-ifnot w l g s) = (l, g)

next-fired : {c : Scope} {n p : ℕ} {x : Instr Expr} (f g : ℕ → Value) → SoundInstr c n p x → wait_fires x f g ≡ true → p + 1 < n
unfolding wait_fires
next-fired f g (sound-wait l t) h = l
next-fired f g (sound-set l t) h = absurd-bool h refl
next-fired f g (sound-later l t) h = absurd-bool h refl
next-fired f g (sound-go l) h = absurd-bool h refl
next-fired f g (sound-ifnot w l k s) h = absurd-bool h refl

module _ (m : Module Expr) (w : Sound m) (old new : State) (f : Fits m old) where
  place-fired : (j : ℕ) → j < length m.threads → Fired m old new j → place_of new j < length (code_of m j)
  place-fired j l (goes_on h e) =
      rw e (next-fired (value_of old) (value_of new) (sound-current m w old j l) h)
  place-fired j l (stays h e) = rw e (f.places j l)

  -- Thread i at its new place, and the others.
  one_place :
      (i : ℕ) → place_of new i < length (code_of m i) →
      ((j : ℕ) → j < length m.threads → j ≢ i → place_of new j < length (code_of m j)) →
      (j : ℕ) → j < length m.threads → place_of new j < length (code_of m j)
  one_place i h others j l = by (ℕ_discrete j i)
    where
      by : Dec (j ≡ i) → place_of new j < length (code_of m j)
      by (yes e) = rw e h
      by (no d) = others j l d

  -- ---- marks past the sheet's stay down

  mark-past : (k : ℕ) → length m.wires ≤ k → (was : Bool) → was ≡ false → Marked m old new was k → is_due new k ≡ false
  unfolding reads
  mark-past k l was h (was-due e d) = absurd-bool e h
  mark-past k l was h (reads-changed v r c d) = absurd-bool r (rw (wire_expr-past m k l))
  mark-past k l was h (not-due e r d) = d

  -- ---- a step in which a thread runs an instruction that stores no value

  fits-calm :
      (i : ℕ) → place_of new i < length (code_of m i) → Calm m old new i →
      ((r : ℕ) → r < m.scope.registers → pending_fits (width_of m (m.scope.inputs + r)) (pending_of new r) ≡ true) →
      ((r : ℕ) → m.scope.registers ≤ r → pending_of new r ≡ none) → CountsFit new → Fits m new
  fits-calm i h c pending past counts =
      record {
        values = λ v l. rw (c.values v) (f.values v l);
        pending = pending;
        places = one_place i h (λ j l d. rw (c.places j d) (f.places j l));
        marks-past = λ k l. c.marks k ∙ f.marks-past k l;
        pending-past = past;
        counts = counts;
      }

  fits_moved :
      (i : ℕ) → place_of new i < length (code_of m i) → Calm m old new i → ((r : ℕ) → pending_of new r ≡ pending_of old r) →
      CountsFit new → Fits m new
  fits_moved i h c same counts =
      fits-calm i h c (λ r l. rw (same r) (f.pending r l)) (λ r l. same r ∙ f.pending-past r l) counts

  -- ---- a later assignment, and the commit of them all

  one-slot :
      (t : ℕ) (e : Expr) → SoundTarget m.scope t e → pending_of new (t - m.scope.inputs) ≡ some (eval (value_of old) e) →
      ((r : ℕ) → (r ≡ t - m.scope.inputs → ⊥) → pending_of new r ≡ pending_of old r) → (r : ℕ) → r < m.scope.registers →
      pending_fits (width_of m (m.scope.inputs + r)) (pending_of new r) ≡ true
  unfolding width_of pending_fits
  one-slot t e x slot others r b = by (ℕ_discrete r (t - m.scope.inputs))
    where
      by : Dec (r ≡ t - m.scope.inputs) → pending_fits (width_of m (m.scope.inputs + r)) (pending_of new r) ≡ true
      by (yes q) =
          let z : m.scope.inputs + (t - m.scope.inputs) ≡ t = omega (arith, x.not-input) in
          rw (q, slot, z) (x.expression.fits_width (value_of old) (fitting m old f))
      by (no d) = rw (others r d) (f.pending r b)

  committed-values :
      ((r : ℕ) → r < m.scope.registers →
      value_of new (m.scope.inputs + r) ≡ latest (pending_of old r) (value_of old (m.scope.inputs + r))) →
      ((v : ℕ) → ((m.scope.inputs ≤ v) × (v < m.scope.inputs + m.scope.registers) → ⊥) → value_of new v ≡ value_of old v) →
      (v : ℕ) → v < length m.scope.widths → fits (width_of m v) (value_of new v) ≡ true
  committed-values values others v b = by (register? m v)
    where
      by : Variable m v → fits (width_of m v) (value_of new v) ≡ true
      by (no_register d) = rw (others v d) (f.values v b)
      by (a-register r c e) =
          let x = m.scope.inputs + r in
          let y : fits (width_of m x) (latest (pending_of old r) (value_of old x)) ≡ true =
          latest-fits (width_of m x) (pending_of old r) (value_of old x) (f.pending r c) (rw e (f.values v b)) in
          rw (sym (values r c), e) at y

  -- ---- the steps

  pub fits-acts : {c : ℕ} → CountsFit new → Acts m old new c → Fits m new
  unfolding width_of pending_fits wire_variable wire_expr
  fits-acts counts (assigns {i = i} {t = t} {e = e} l h value others place reacted same) =
      let x = next-set (rw h at (sound-current m w old i l)) in
      record {
        values = one_value m old new f t (rw value (x.1.expression.fits_width (value_of old) (fitting m old f))) others;
        pending = λ r b. rw (same r) (f.pending r b);
        places = one_place i (rw place x.0) (λ j b d. place-fired j b (reacted.threads j d));
        marks-past = λ k b. mark-past k b (is_due old k) (f.marks-past k b) (reacted.wires k);
        pending-past = λ r b. same r ∙ f.pending-past r b;
        counts = counts;
      }
  fits-acts counts (defers {i = i} {t = t} {e = e} l h slot others place calm) =
      let x = next-later (rw h at (sound-current m w old i l)) in
      let high = x.1.register in
      let low = x.1.not-input in
      fits-calm i (rw place x.0) calm (one-slot t e x.1 slot others)
      (λ r b. others r (λ q. omega arith) ∙ f.pending-past r b) counts
  fits-acts counts (jumps {i = i} l h place calm same) =
      fits_moved i (rw place (goal-go (rw h at (sound-current m w old i l)))) calm same counts
  fits-acts counts (goes_in {i = i} l h holds place calm same) =
      fits_moved i (rw place (goal-ifnot (rw h at (sound-current m w old i l))).0) calm same counts
  fits-acts counts (passes-by {i = i} l h holds place calm same) =
      fits_moved i (rw place (goal-ifnot (rw h at (sound-current m w old i l))).1) calm same counts
  fits-acts counts (settles {k = k} l h value others reacted same) =
      record {
        values = one_value m old new f (wire_variable m k)
            (rw value ((w.wire k l).fits_width (value_of old) (fitting m old f))) others;
        pending = λ r b. rw (same r) (f.pending r b);
        places = λ j b. place-fired j b (reacted.threads j (λ z. z));
        marks-past = λ j b. mark-past j b (is_due old j && not (eqb j k)) (rw (f.marks-past j b) refl) (reacted.wires j);
        pending-past = λ r b. same r ∙ f.pending-past r b;
        counts = counts;
      }
  fits-acts counts (commits h q l p values others emptied rest reacted) =
      record {
        values = committed-values values others;
        pending = λ r b. rw (emptied r b) refl;
        places = λ j b. place-fired j b (reacted.threads j (λ z. z));
        marks-past = λ k b. mark-past k b (is_due old k) (f.marks-past k b) (reacted.wires k);
        pending-past = λ r b. rest r (λ z. omega arith) ∙ f.pending-past r b;
        counts = counts;
      }

  -- A step of a user that has room.
  pub counts_step : (u c : ℕ) → Step m old new u c → count_of old u < allowance_of old u → CountsFit new
  counts_step u c s room v l = by (ℕ_discrete v u)
    where
      by : Dec (v ≡ u) → count_of new v ≤ allowance_of new v
      by (yes e) = rw e (rw (s.count, s.allowances u) (omega arith))
      by (no d) = rw (s.other-counts v d, s.allowances v) (f.counts v l)

  pub fits-step : (u c : ℕ) → Step m old new u c → count_of old u < allowance_of old u → Fits m new
  fits-step u c s room = fits-acts (counts_step u c s room) s.acts

  pub fits-instant :
      (a : ℕ → Value) → ((v : ℕ) → v < m.scope.inputs → fits (width_of m v) (a v) ≡ true) → Instant m old new a → Fits m new
  fits-instant a h s =
      record {
        values = λ v b. by v b (dec_lt v m.scope.inputs);
        pending = λ r b. rw (s.pending r) (f.pending r b);
        places = λ j b. place-fired j b (s.reacted.threads j (λ z. z));
        marks-past = λ k b. mark-past k b (is_due old k) (f.marks-past k b) (s.reacted.wires k);
        pending-past = λ r b. s.pending r ∙ f.pending-past r b;
        counts = λ v b. rw (s.counts v, s.allowances v) (f.counts v b);
      }
    where
      by : (v : ℕ) → v < length m.scope.widths → Dec (v < m.scope.inputs) → fits (width_of m v) (value_of new v) ≡ true
      by v b (yes l) = rw (s.inputs v l) (h v l)
      by v b (no d) = rw (s.others v d) (f.values v b)

-- ---- the calls keep it

pub fits-inputs :
    (m : Module Expr) (a : Inputs) → inputs_fit m a ≡ true → (v : ℕ) → v < m.scope.inputs →
    fits (width_of m v) (input_of a v) ≡ true
unfolding inputs_fit
fits-inputs m a h v l =
    let test : ℕ → Bool = λ v. fits (width_of m v) (input_of a v) in
    all-below test m.scope.inputs
    (and_right (eqb a.count m.scope.inputs) (all_below m.scope.inputs test) h) v l

module _ (m : Module Expr) (w : Sound m) (st : State) (s : Shaped st) (f : Fits m st) where
  pub fits-performed : (u c : ℕ) → refusal m st u c ≡ 0 → Fits m (performed m st u c)
  fits-performed u c z =
      fits-step m w st (performed m st u c) f u c (step-performed m w st s u c (user-refusal m st u c z) (ready-refusal m st u c z))
      (room-refusal m st u w c z)

  pub fits-choose_in : (u c : ℕ) → Fits m (choose_in m st u c).state
  fits-choose_in u c = by (ℕ_discrete (refusal m st u c) 0)
    where
      by : Dec (refusal m st u c ≡ 0) → Fits m (choose_in m st u c).state
      by (yes z) = rw (choose_in-accepted m st u c z) (fits-performed u c z)
      by (no d) = rw (choose_in-refused m st u c d) f

  pub fits-feed : (a : Inputs) → inputs_fit m a ≡ true → quiet m st ≡ true → Fits m (feed m (input_of a) (timed st))
  fits-feed a h q =
      fits-instant m w st (feed m (input_of a) (timed st)) f (input_of a) (fits-inputs m a h)
      (instant-feed m w st s (input_of a) q)

  pub fits-instant_in : (a : Inputs) → Fits m (instant_in m st a).state
  fits-instant_in a = by (ℕ_discrete (instant_refusal m st a) 0)
    where
      by : Dec (instant_refusal m st a ≡ 0) → Fits m (instant_in m st a).state
      by (yes z) =
          let h = accepted-instant m st a z in
          rw (instant_in-accepted m st a z) (fits-feed a h.0 h.1)
      by (no d) = rw (instant_in-refused m st a d) f

-- ---- the start

-- within a list the default counts for nothing
get_d-within : {A : Type 0} (l : List A) (n : ℕ) (d e : A) → n < length l → get_or l n d ≡ get_or l n e
get_d-within l n d e h = ap (λ s. get_or s n d) (sym (set-get_or l n e)) ∙ get_or-set_same l n (get_or l n e) d h

get_d-all : {A : Type 0} (n i : ℕ) (a : A) → get_or (replicate n a) i a ≡ a
get_d-all zero i a = refl
get_d-all (suc n) zero a = refl
get_d-all (suc n) (suc i) a = get_d-all n i a

pub length-due_below : (n : ℕ) → length (due_below n) ≡ 32
unfolding due_below
length-due_below zero = refl
length-due_below (suc n) = length-set (due_below n) n true ∙ length-due_below n

pub get_d-due_below : (n k : ℕ) → n ≤ 32 → get_or (due_below n) k false ≡ ltb k n
unfolding due_below
get_d-due_below zero k h = get_d-all 32 k false ∙ sym (le-ltb k 0 (omega arith))
get_d-due_below (suc n) k h = by (ℕ_discrete k n) (dec_lt k n) (get_d-due_below n k (omega arith)) (length-due_below n)
  where
    by : Dec (k ≡ n) → Dec (k < n) → get_or (due_below n) k false ≡ ltb k n → length (due_below n) ≡ 32 →
        get_or (set (due_below n) n true) k false ≡ ltb k (suc n)
    by (yes e) o q l = rw (e, get_or-set_same (due_below n) n true false (omega arith), lt-ltb n (suc n) (omega arith))
    by (no d) (yes b) q l =
        get_or-set_other (due_below n) n k true false d ∙ q ∙ lt-ltb k n b ∙ sym (lt-ltb k (suc n) (omega arith))
    by (no d) (no b) q l =
        get_or-set_other (due_below n) n k true false d ∙ q ∙ le-ltb k n (omega arith) ∙ sym (le-ltb k (suc n) (omega arith))

-- The start with these widths, n wires and these four allowances.
module _ (ws : List ℕ) (n : ℕ) (allowances : List ℕ) where
  pub shaped-started : length allowances ≡ users → Shaped (started ws n allowances)
  unfolding started
  shaped-started h =
      record {
        value = refl;
        unknown = length-list_of (λ v. ones (get_or ws v 32)) 80;
        pending = refl;
        unsure = refl;
        held = refl;
        places = refl;
        due = length-due_below n;
        counts = refl;
        allowances = h;
      }

  pub value-started : (v : ℕ) → v < 80 → value_of (started ws n allowances) v ≡ unset ws v
  unfolding started value_of value_at unset all_unknown
  value-started v h =
      let none = get_d-all {A = ℕ} 80 v 0 in
      let marks = get_d-list_of (λ u. ones (get_or ws u 32)) 80 v 0 h in
      λ i. record { number = none i; unknown = marks i }

  pub pending-started : (r : ℕ) → pending_of (started ws n allowances) r ≡ none
  unfolding started pending_of
  pending-started r = rw (get_d-all 32 r false)

  pub place-started : (i : ℕ) → place_of (started ws n allowances) i ≡ 0
  unfolding started place_of
  place-started i = get_d-all 8 i 0

  pub due-started : (k : ℕ) → n ≤ 32 → is_due (started ws n allowances) k ≡ ltb k n
  unfolding started is_due
  due-started k h = get_d-due_below n k h

  pub time-started : (started ws n allowances).counters.time ≡ 0
  unfolding started
  time-started = refl

  pub count-started : (u : ℕ) → count_of (started ws n allowances) u ≡ 0
  unfolding started count_of
  count-started u = get_d-all 4 u 0

  pub allowance-started : (u : ℕ) → allowance_of (started ws n allowances) u ≡ get_or allowances u 0
  unfolding started allowance_of
  allowance-started u = refl

-- A variable that nothing was stored in fits its width.
pub unset-fits : (m : Module Expr) (v : ℕ) → v < length m.scope.widths → fits (width_of m v) (unset m.scope.widths v) ≡ true
unfolding unset width_of
unset-fits m v h =
    rw (get_d-within m.scope.widths v 32 0 h) (fits-unknown (get_or m.scope.widths v 0))

-- "At the start all is x, places and counters 0, every wire due."
pub fits-started : (m : Module Expr) → Sound m → (allowances : List ℕ) → Fits m (started m.scope.widths (length m.wires) allowances)
unfolding pending_fits code_of
fits-started m w allowances =
    let n = length m.wires in
    let ws = m.scope.widths in
    record {
      values = λ v l.
          rw (value-started ws n allowances v (omega (arith, w.variables, w.inputs-most, w.registers-most, w.wires-most)))
          (unset-fits m v l);
      pending = λ r l. rw (pending-started ws n allowances r) refl;
      places = λ i l. rw (place-started ws n allowances i) (w.code i l).some;
      marks-past = λ k l. due-started ws n allowances k w.wires-most ∙ le-ltb k n l;
      pending-past = λ r l. pending-started ws n allowances r;
      counts = λ u l. rw (count-started ws n allowances u) (omega arith);
    }
