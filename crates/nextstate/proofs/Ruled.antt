-- A module that was read and breaks none of extraction's rules is `Ruled`: from the tests of nextstate/specs/Rules to facts for
-- every thread, wire and variable. Past the last thread and the last wire nothing is read or written, and every target is a
-- register, so the tests over threads, wires and registers meet all there is. Assumes nothing.
use Prim.Native.Nat.{ℕ, zero, suc, ◌+◌, ◌-◌, ◌≤◌, ◌<◌}
use mathlib.Core.Path.{◌≡◌, refl}
use mathlib.Core.Logic.{◌≢◌}
use mathlib.Core.Bool.{Bool, true, false, not, ◌&&◌, ◌||◌}
use mathlib.Core.List.{List, [], ◌∷◌, ◌++◌, append_assoc}
use native.Mathlib.Decide.{dec_lt}
use native.Mathlib.Omega.{arith}
use lib.ListN.{length, get_or, get_or-eq_default}
use lib.Dec.{eqb, leb}
use borrow.Author.Tests.{not-false, eqb-true, ne_eqb, leb-false}
use Rattle.values.specs.Values.{pick}
use Rattle.sheet.specs.declared.EdgeTerm.{EdgeTerm}
use Rattle.sheet.specs.Expression.{Expr, Scope}
use Rattle.sheet.specs.Statement.{Stmt, empty, assign, later, sequence, if_then, if_else, while, forever, wait}
use Rattle.sheet.specs.Module.{Module}
use Rattle.evaluation.specs.Evaluation.{reads}
use Rattle.pseudocode.specs.Translation.{Instr, wait!, set!, later!, go, translate, thread_code}
use Rattle.soundness.specs.Soundness.{Sound, SoundTarget, SoundInstr, sound-wait, sound-set, sound-later, sound-go, sound-ifnot}
use Rattle.events.specs.Cycle.{code_of, instr_at, is_wait, wire_expr, wire_variable}
use Rattle.events.proofs.Cycle.{absurd-bool, or_left, or_right, any-below, none_below, wire_expr-past}
use Rattle.nextstate.specs.Rules.{sets_at, defers_at, reads_at, any_instr, plain_writes, defers, writes, thread_reads, wire_reads, some_thread, some_wire, some_register}
use Rattle.nextstate.specs.Rules.{two_writers, both_ways, read_elsewhere, plainly_shared, clock_edge, other_wait_at, other_wait, starts_waiting, body_of, starts_running}
use Rattle.nextstate.specs.Rules.{loops_wait, runs_away, clock_read, reads_upward, many_waits, rule}
use Rattle.nextstate.specs.Ruled.{Ruled}

-- ---- Bool

pub refuted : (t : Bool) → (t ≡ true → ⊥) → t ≡ false
refuted true h = absurd (h refl)
refuted false h = refl

pub or-either : {A : Type 0} (s t : Bool) → (s || t) ≡ true → (s ≡ true → A) → (t ≡ true → A) → A
or-either true t h f g = f refl
or-either false t h f g = g h

-- ---- any_instr: some instruction of a code, by its place

-- What no instruction of a code does, none at any place does.
pub at-instr : (f : Instr Expr → Bool) → f (go 0) ≡ false → (c : List (Instr Expr)) → any_instr f c ≡ false → (p : ℕ) →
    f (instr_at c p) ≡ false
unfolding any_instr instr_at
at-instr f z [] h p = z
at-instr f z (q ∷ c) h zero = or_left (f q) (any_instr f c) h
at-instr f z (q ∷ c) h (suc p) = at-instr f z c (or_right (f q) (any_instr f c) h) p

pub instr-any : (f : Instr Expr → Bool) → f (go 0) ≡ false → (c : List (Instr Expr)) (p : ℕ) → f (instr_at c p) ≡ true →
    any_instr f c ≡ true
instr-any f z c p h = by (any_instr f c) refl
  where
    by : (t : Bool) → any_instr f c ≡ t → any_instr f c ≡ true
    by true e = e
    by false e = absurd-bool h (at-instr f z c e p)

-- What some instruction of a code does, one at a place inside it does.
pub any-instr : (f : Instr Expr → Bool) (c : List (Instr Expr)) → any_instr f c ≡ true →
    (p : ℕ) × (p < length c) × (f (instr_at c p) ≡ true)
unfolding any_instr instr_at
any-instr f [] h = absurd-bool h refl
any-instr f (q ∷ c) h =
    or-either (f q) (any_instr f c) h (λ e. (0, omega arith, e))
    (λ e. let s = any-instr f c e in (suc s.0, omega (arith, s.1), s.2))

-- ---- past the last thread and the last wire

pub code_of-past : (m : Module Expr) (i : ℕ) → length m.threads ≤ i → code_of m i ≡ go 0 ∷ []
unfolding code_of thread_code translate
code_of-past m i h = rw (get_or-eq_default m.threads empty h)

module _ (m : Module Expr) where
  pub none-past : (f : Instr Expr → Bool) → f (go 0) ≡ false → (i : ℕ) → length m.threads ≤ i → any_instr f (code_of m i) ≡ false
  unfolding any_instr
  none-past f z i h = rw (code_of-past m i h, z)

  -- A thread that does something is one of the module's.
  pub is-thread : (f : Instr Expr → Bool) → f (go 0) ≡ false → (i : ℕ) → any_instr f (code_of m i) ≡ true → i < length m.threads
  is-thread f z i h = by (dec_lt i (length m.threads))
    where
      by : Dec (i < length m.threads) → i < length m.threads
      by (yes l) = l
      by (no d) = absurd-bool h (none-past f z i (omega arith))

  pub sets-thread : (i v : ℕ) → plain_writes m i v ≡ true → i < length m.threads
  unfolding plain_writes sets_at
  sets-thread i v h = is-thread (sets_at v) refl i h

  pub defers-thread : (i v : ℕ) → defers m i v ≡ true → i < length m.threads
  unfolding defers defers_at
  defers-thread i v h = is-thread (defers_at v) refl i h

  pub writes-thread : (i v : ℕ) → writes m i v ≡ true → i < length m.threads
  unfolding writes
  writes-thread i v h = or-either (plain_writes m i v) (defers m i v) h (sets-thread i v) (defers-thread i v)

  pub reads-thread : (i v : ℕ) → thread_reads m i v ≡ true → i < length m.threads
  unfolding thread_reads reads_at
  reads-thread i v h = is-thread (reads_at v) refl i h

  pub reads-wire : (k v : ℕ) → wire_reads m k v ≡ true → k < length m.wires
  unfolding wire_reads reads
  reads-wire k v h = by (dec_lt k (length m.wires))
    where
      by : Dec (k < length m.wires) → k < length m.wires
      by (yes l) = l
      by (no d) = absurd-bool (rw (wire_expr-past m k (omega arith)) at h) refl

-- ---- every target is a register

-- Variable v is a register.
abbrev pub Register : Module Expr → ℕ → Type 0
Register m v = (r : ℕ) × (r < m.scope.registers) × (m.scope.inputs + r ≡ v)

target-register : (m : Module Expr) (v : ℕ) {t : ℕ} {e : Expr} → SoundTarget m.scope t e → eqb t v ≡ true → Register m v
target-register m v {t} s h =
    let e = eqb-true t v h in
    let low = s.not-input in
    let high = s.register in
    (t - m.scope.inputs, omega arith, omega arith)

set-register : (m : Module Expr) (v n p : ℕ) {q : Instr Expr} → SoundInstr m.scope n p q → sets_at v q ≡ true → Register m v
unfolding sets_at
set-register m v n p (sound-wait l t) h = absurd-bool h refl
set-register m v n p (sound-set l t) h = target-register m v t h
set-register m v n p (sound-later l t) h = absurd-bool h refl
set-register m v n p (sound-go l) h = absurd-bool h refl
set-register m v n p (sound-ifnot w l g e) h = absurd-bool h refl

defer-register : (m : Module Expr) (v n p : ℕ) {q : Instr Expr} → SoundInstr m.scope n p q → defers_at v q ≡ true → Register m v
unfolding defers_at
defer-register m v n p (sound-wait l t) h = absurd-bool h refl
defer-register m v n p (sound-set l t) h = absurd-bool h refl
defer-register m v n p (sound-later l t) h = target-register m v t h
defer-register m v n p (sound-go l) h = absurd-bool h refl
defer-register m v n p (sound-ifnot w l g e) h = absurd-bool h refl

module _ (m : Module Expr) (w : Sound m) where
  -- The instruction at a place of a thread.
  pub sound-instr : (i p : ℕ) → i < length m.threads → p < length (code_of m i) →
      SoundInstr m.scope (length (code_of m i)) p (instr_at (code_of m i) p)
  unfolding code_of instr_at
  sound-instr i p l h = (w.code i l).instruction p h

  pub sets-register : (i v : ℕ) → plain_writes m i v ≡ true → Register m v
  unfolding plain_writes
  sets-register i v h =
      let s = any-instr (sets_at v) (code_of m i) h in
      set-register m v (length (code_of m i)) s.0 (sound-instr i s.0 (sets-thread m i v h) s.1) s.2

  pub defers-register : (i v : ℕ) → defers m i v ≡ true → Register m v
  unfolding defers
  defers-register i v h =
      let s = any-instr (defers_at v) (code_of m i) h in
      defer-register m v (length (code_of m i)) s.0 (sound-instr i s.0 (defers-thread m i v h) s.1) s.2

  pub writes-register : (i v : ℕ) → writes m i v ≡ true → Register m v
  unfolding writes
  writes-register i v h = or-either (plain_writes m i v) (defers m i v) h (sets-register i v) (defers-register i v)

  -- A variable that a wire reads is one of the module's.
  pub wire-within : (k v : ℕ) → wire_reads m k v ≡ true → v < length m.scope.widths
  unfolding wire_reads wire_expr
  wire-within k v h = (w.wire k (reads-wire m k v h)).reads-within v h

-- ---- the targets of a thread's assignments, at any place: past the code's end and past the last thread stands `go 0`

set-target : {c : Scope} {n p t : ℕ} {e : Expr} → SoundInstr c n p (set! t e) → SoundTarget c t e
set-target (sound-set l h) = h

later-target : {c : Scope} {n p t : ℕ} {e : Expr} → SoundInstr c n p (later! t e) → SoundTarget c t e
later-target (sound-later l h) = h

instr_at-past : (c : List (Instr Expr)) (p : ℕ) → length c ≤ p → instr_at c p ≡ go 0
unfolding instr_at
instr_at-past c p h = get_or-eq_default c (go 0) h

instr_at-none : (m : Module Expr) (i p : ℕ) → length m.threads ≤ i → instr_at (code_of m i) p ≡ go 0
unfolding instr_at
instr_at-none m i p h = rw (code_of-past m i h) (by p)
  where
    by : (p : ℕ) → get_or {A = Instr Expr} (go 0 ∷ []) p (go 0) ≡ go 0
    by zero = refl
    by (suc p) = refl

module _ (m : Module Expr) (w : Sound m) where
  -- An instruction that is no `go 0` stands inside a thread.
  placed : (i p : ℕ) → (instr_at (code_of m i) p ≡ go 0 → ⊥) → (i < length m.threads) × (p < length (code_of m i))
  placed i p h = by (dec_lt i (length m.threads)) (dec_lt p (length (code_of m i)))
    where
      by : Dec (i < length m.threads) → Dec (p < length (code_of m i)) → (i < length m.threads) × (p < length (code_of m i))
      by (yes l) (yes k) = (l, k)
      by (yes l) (no d) = absurd (h (instr_at-past (code_of m i) p (omega arith)))
      by (no d) k = absurd (h (instr_at-none m i p (omega arith)))

  pub target-set : (i p : ℕ) {t : ℕ} {e : Expr} → instr_at (code_of m i) p ≡ set! t e → SoundTarget m.scope t e
  target-set i p {t} {e} h =
      let k = placed i p (λ z. by h z) in
      set-target (rw h at (sound-instr m w i p k.0 k.1))
    where
      by : instr_at (code_of m i) p ≡ set! t e → instr_at (code_of m i) p ≡ go 0 → ⊥
      by a b = let z : ◌≡◌ {A = ℕ} 0 1 = cc in omega arith

  pub target-later : (i p : ℕ) {t : ℕ} {e : Expr} → instr_at (code_of m i) p ≡ later! t e → SoundTarget m.scope t e
  target-later i p {t} {e} h =
      let k = placed i p (λ z. by h z) in
      later-target (rw h at (sound-instr m w i p k.0 k.1))
    where
      by : instr_at (code_of m i) p ≡ later! t e → instr_at (code_of m i) p ≡ go 0 → ⊥
      by a b = let z : ◌≡◌ {A = ℕ} 0 1 = cc in omega arith

-- ---- the tests over threads, wires and registers

module _ (m : Module Expr) (f : ℕ → Bool) where
  no-thread : some_thread m f ≡ false → (i : ℕ) → i < length m.threads → f i ≡ false
  unfolding some_thread
  no-thread h i l = none_below f (length m.threads) h i l

  some-thread : (i : ℕ) → i < length m.threads → f i ≡ true → some_thread m f ≡ true
  unfolding some_thread
  some-thread i l h = any-below f (length m.threads) i l h

  no-wire : some_wire m f ≡ false → (k : ℕ) → k < length m.wires → f k ≡ false
  unfolding some_wire
  no-wire h k l = none_below f (length m.wires) h k l

  some-wire : (k : ℕ) → k < length m.wires → f k ≡ true → some_wire m f ≡ true
  unfolding some_wire
  some-wire k l h = any-below f (length m.wires) k l h

  no_register : some_register m f ≡ false → (v : ℕ) → Register m v → f v ≡ false
  unfolding some_register
  no_register h v r = rw r.2 at (none_below (λ q. f (m.scope.inputs + q)) m.scope.registers h r.0 r.1)

-- ---- rule m ≡ 0: none is broken

pub record Unbroken (m : Module Expr) : Type 0 where
  pub n12 : two_writers m ≡ false
  pub n13 : both_ways m ≡ false
  pub n14 : plainly_shared m ≡ false
  pub n15 : other_wait m ≡ false
  pub n16 : starts_running m ≡ false
  pub n17 : runs_away m ≡ false
  pub n18 : clock_read m ≡ false
  pub n19 : reads_upward m ≡ false
  pub n20 : many_waits m ≡ false

passed : (t : Bool) (n rest : ℕ) → 1 ≤ n → pick t n rest ≡ 0 → (t ≡ false) × (rest ≡ 0)
passed true n rest l h = absurd (omega arith)
passed false n rest l h = (refl, h)

pub unbroken : (m : Module Expr) → rule m ≡ 0 → Unbroken m
unfolding rule
unbroken m h =
    let a = passed (two_writers m) 12 _ (omega arith) h in
    let b = passed (both_ways m) 13 _ (omega arith) a.1 in
    let c = passed (plainly_shared m) 14 _ (omega arith) b.1 in
    let d = passed (other_wait m) 15 _ (omega arith) c.1 in
    let e = passed (starts_running m) 16 _ (omega arith) d.1 in
    let f = passed (runs_away m) 17 _ (omega arith) e.1 in
    let g = passed (clock_read m) 18 _ (omega arith) f.1 in
    let j = passed (reads_upward m) 19 _ (omega arith) g.1 in
    let k = passed (many_waits m) 20 _ (omega arith) j.1 in
    record {
      n12 = a.0;
      n13 = b.0;
      n14 = c.0;
      n15 = d.0;
      n16 = e.0;
      n17 = f.0;
      n18 = g.0;
      n19 = j.0;
      n20 = k.0;
    }

-- ---- a statement that starts with a wait has it first

starts_first : (s : Stmt Expr) (n : ℕ) (l : List (Instr Expr)) → starts_waiting s ≡ true → is_wait (instr_at (translate s n ++ l) 0) ≡ true
unfolding starts_waiting translate is_wait instr_at
starts_first empty n l h = absurd-bool h refl
starts_first (assign t e) n l h = absurd-bool h refl
starts_first (later t e) n l h = absurd-bool h refl
starts_first (sequence a b) n l h = rw append_assoc (starts_first a n _ h)
starts_first (if_then e a) n l h = absurd-bool h refl
starts_first (if_else e a b) n l h = absurd-bool h refl
starts_first (while e a) n l h = absurd-bool h refl
starts_first (forever a) n l h = rw append_assoc (starts_first a n _ h)
starts_first (wait ts) n l h = refl

pub first-waits : (m : Module Expr) (i : ℕ) → starts_waiting (body_of m i) ≡ true → is_wait (instr_at (code_of m i) 0) ≡ true
unfolding body_of code_of thread_code translate
first-waits m i h = starts_first (get_or m.threads i empty) 0 (go 0 ∷ []) h

-- ---- the rules as facts

module _ (m : Module Expr) (w : Sound m) (u : Unbroken m) where
  one_writer : (i j v : ℕ) → i ≢ j → writes m i v ≡ true → writes m j v ≡ false
  unfolding two_writers
  one_writer i j v ne wi = refuted (writes m j v) λ wj.
      let a = no_register m (λ v. some_thread m (λ i. some_thread m (λ j. not (eqb i j) && (writes m i v && writes m j v)))) u.n12 v
      (writes-register m w i v wi) in
      let b = no-thread m (λ i. some_thread m (λ j. not (eqb i j) && (writes m i v && writes m j v))) a i (writes-thread m i v wi) in
      let c = no-thread m (λ j. not (eqb i j) && (writes m i v && writes m j v)) b j (writes-thread m j v wj) in
      let d : (not (eqb i j) && (writes m i v && writes m j v)) ≡ true = rw (ne_eqb i j ne, wi, wj) in
      absurd-bool d c

  one_way : (i j v : ℕ) → defers m i v ≡ true → plain_writes m j v ≡ false
  unfolding both_ways
  one_way i j v di = refuted (plain_writes m j v) λ sj.
      let a = no_register m (λ v. some_thread m (λ i. plain_writes m i v) && some_thread m (λ i. defers m i v)) u.n13 v
      (defers-register m w i v di) in
      let b = some-thread m (λ i. plain_writes m i v) j (sets-thread m j v sj) sj in
      let c = some-thread m (λ i. defers m i v) i (defers-thread m i v di) di in
      let d : (some_thread m (λ i. plain_writes m i v) && some_thread m (λ i. defers m i v)) ≡ true = rw (b, c) in
      absurd-bool d a

  -- A register that thread j writes plainly is read elsewhere by none.
  not-elsewhere : (j v : ℕ) → plain_writes m j v ≡ true → read_elsewhere m j v ≡ false
  unfolding plainly_shared
  not-elsewhere j v sj =
      let a = no_register m (λ v. some_thread m (λ i. plain_writes m i v && read_elsewhere m i v)) u.n14 v (sets-register m w j v sj) in
      let b = no-thread m (λ i. plain_writes m i v && read_elsewhere m i v) a j (sets-thread m j v sj) in
      rw sj at b

  apart : (i j v : ℕ) → i ≢ j → thread_reads m i v ≡ true → plain_writes m j v ≡ false
  unfolding read_elsewhere
  apart i j v ne ri = refuted (plain_writes m j v) λ sj.
      let a = or_left (some_thread m (λ i. not (eqb j i) && thread_reads m i v)) (some_wire m (λ k. wire_reads m k v))
      (not-elsewhere j v sj) in
      let b = no-thread m (λ i. not (eqb j i) && thread_reads m i v) a i (reads-thread m i v ri) in
      let d : (not (eqb j i) && thread_reads m i v) ≡ true = rw (ne_eqb j i (λ (e : j ≡ i). ne (rw e)), ri) in
      absurd-bool d b

  apart-wire : (k j v : ℕ) → wire_reads m k v ≡ true → plain_writes m j v ≡ false
  unfolding read_elsewhere
  apart-wire k j v rk = refuted (plain_writes m j v) λ sj.
      let a = or_right (some_thread m (λ i. not (eqb j i) && thread_reads m i v)) (some_wire m (λ k. wire_reads m k v))
      (not-elsewhere j v sj) in
      absurd-bool rk (no-wire m (λ k. wire_reads m k v) a k (reads-wire m k v rk))

  no-other-wait : (i : ℕ) → any_instr other_wait_at (code_of m i) ≡ false
  unfolding other_wait other_wait_at
  no-other-wait i = by (dec_lt i (length m.threads))
    where
      by : Dec (i < length m.threads) → any_instr other_wait_at (code_of m i) ≡ false
      by (yes l) = no-thread m (λ i. any_instr other_wait_at (code_of m i)) u.n15 i l
      by (no d) = none-past m other_wait_at refl i (omega arith)

  waits : (i p : ℕ) {ts : List EdgeTerm} → instr_at (code_of m i) p ≡ wait! ts → clock_edge ts ≡ true
  unfolding other_wait_at
  waits i p {ts} e = not-false (clock_edge ts) (rw e at (at-instr other_wait_at refl (code_of m i) (no-other-wait i) p))

  first : (i : ℕ) → i < length m.threads → is_wait (instr_at (code_of m i) 0) ≡ true
  unfolding starts_running
  first i l =
      first-waits m i (not-false (starts_waiting (body_of m i)) (no-thread m (λ i. not (starts_waiting (body_of m i))) u.n16 i l))

  loops : (i : ℕ) → i < length m.threads → loops_wait (forever (body_of m i)) ≡ true
  unfolding runs_away
  loops i l =
      not-false (loops_wait (forever (body_of m i))) (no-thread m (λ i. not (loops_wait (forever (body_of m i)))) u.n17 i l)

  clock : (i : ℕ) → thread_reads m i 0 ≡ false
  unfolding clock_read
  clock i = refuted (thread_reads m i 0) λ h.
      let a = or_left (some_thread m (λ i. thread_reads m i 0)) (some_wire m (λ k. wire_reads m k 0)) u.n18 in
      absurd-bool h (no-thread m (λ i. thread_reads m i 0) a i (reads-thread m i 0 h))

  clock-wire : (k : ℕ) → wire_reads m k 0 ≡ false
  unfolding clock_read
  clock-wire k = refuted (wire_reads m k 0) λ h.
      let a = or_right (some_thread m (λ i. thread_reads m i 0)) (some_wire m (λ k. wire_reads m k 0)) u.n18 in
      absurd-bool h (no-wire m (λ k. wire_reads m k 0) a k (reads-wire m k 0 h))

  -- A wire that it reads is lower.
  wire-lower : (k j : ℕ) → j < length m.wires → wire_reads m k (wire_variable m j) ≡ true → j < k
  unfolding reads_upward
  wire-lower k j l h =
      let a = no-wire m (λ k. some_wire m (λ j. leb k j && wire_reads m k (wire_variable m j))) u.n19 k
      (reads-wire m k (wire_variable m j) h) in
      let b = no-wire m (λ j. leb k j && wire_reads m k (wire_variable m j)) a j l in
      leb-false k j (by (leb k j) (rw h at b))
    where
      by : (t : Bool) → (t && true) ≡ false → t ≡ false
      by true e = e
      by false e = refl

  lower : (k v : ℕ) → wire_reads m k v ≡ true → v < m.scope.inputs + m.scope.registers + k
  unfolding wire_variable
  lower k v h = by (dec_lt v base)
    where
      base : ℕ
      base = m.scope.inputs + m.scope.registers

      by : Dec (v < base) → v < base + k
      by (yes l) = omega arith
      by (no d) =
          let e : base + (v - base) ≡ v = omega arith in
          let l = wire-within m w k v h in
          let k = wire-lower k (v - base) (omega (arith, w.variables)) (rw e h) in
          omega arith

-- ---- THE LAW: a module that was read and breaks no rule is ruled

pub ruled : (m : Module Expr) → Sound m → rule m ≡ 0 → Ruled m
ruled m w h =
    let u = unbroken m h in
    record {
      one_writer = one_writer m w u;
      one_way = one_way m w u;
      apart = apart m w u;
      apart-wire = apart-wire m w u;
      waits = λ i p e. waits m w u i p e;
      first = first m w u;
      loops = loops m w u;
      clock = clock m w u;
      clock-wire = clock-wire m w u;
      lower = lower m w u;
    }
