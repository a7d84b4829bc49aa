-- The masks of the registers that the threads write: one turn of each loop, each mask by its marks, and for an accepted sheet's
-- tables the module's `sets` and `defers`. Assumes nothing.
use mathlib.Core.Path.{◌≡◌, refl, sym, ap, ◌∙◌}
use mathlib.Core.Bool.{Bool, true, false, ◌||◌}
use mathlib.Core.List.{List}
use Prim.Native.Nat.{ℕ, zero, suc, ◌+◌, ◌-◌, ◌^◌, ◌≤◌, ◌<◌}
use native.Mathlib.Nat.{not-suc-le-zero}
use native.Mathlib.Numerals.{add-one}
use native.Mathlib.Omega.{arith}
use borrow.Author.Tests.{lt-ltb, le-ltb, ltb-true, ltb-false, eqb-true, eqb-false, eq-eqb, ne_eqb}
use lib.Dec.{ltb, eqb}
use lib.ListN.{length, get_or, set, replicate, length-set}
use lib.Seq.{get_or-set_same, get_or-set_other}
use Rattle.sheet.specs.Expression.{Expr}
use Rattle.sheet.specs.Module.{Module}
use Rattle.pseudocode.specs.Translation.{Instr, go}
use Rattle.pseudocode.specs.declared.Instruction.{Instruction}
use Rattle.pseudocode.specs.Fetching.{fetch_at}
use Rattle.masks.specs.Masks.{bits, mask}
use Rattle.masks.proofs.Masks.{bits-zero, bits-mask, mask-bits, get_d-bits-past}
use Rattle.soundness.specs.Soundness.{Sound, SoundInstr, sound-wait, sound-set, sound-later, sound-go, sound-ifnot}
use Rattle.events.specs.Cycle.{any_below, code_of}
use Rattle.events.proofs.Cycle.{any_same, below_none}
use Rattle.nextstate.specs.Rules.{sets_at, defers_at, any_instr, plain_writes, defers}
use Rattle.tables.specs.Readers.{at_most}
use Rattle.tables.specs.Holding.{Holding, Fetched, a-wait, a-set, a-later, a-go, an-ifnot}
use Rattle.tables.proofs.Readers.{at_most-same}
use Rattle.rules.specs.Writers.{register_of, set_register, later_register, marks, masks_below, plain_below, later_below}
use Rattle.rules.proofs.Tests.{any-instr, mark_set}

-- ---- register_of

module _ (inputs t : ℕ) where
  pub register_of-input : t < inputs → register_of inputs t ≡ 32
  unfolding register_of
  register_of-input h = simp (lt-ltb t inputs h)

  pub register_of-past : inputs ≤ t → register_of inputs t ≡ t - inputs
  unfolding register_of
  register_of-past h = simp (le-ltb t inputs h)

  -- It is register r where the variable is that of register r.
  register_of-same : (r : ℕ) → r < 32 → eqb (register_of inputs t) r ≡ eqb t (inputs + r)
  register_of-same r l = by (ltb t inputs) refl
    where
      by : (b : Bool) → ltb t inputs ≡ b → eqb (register_of inputs t) r ≡ eqb t (inputs + r)
      by true e =
          let h = ltb-true t inputs e in
          ap (λ (k : ℕ). eqb k r) (register_of-input h)
          ∙ ne_eqb 32 r (λ q. omega arith)
          ∙ sym (ne_eqb t (inputs + r) (λ q. omega arith))
      by false e =
          let h = ltb-false t inputs e in
          ap (λ (k : ℕ). eqb k r) (register_of-past h) ∙ at h (eqb t (inputs + r)) refl
        where
          at : inputs ≤ t → (b : Bool) → eqb t (inputs + r) ≡ b → eqb (t - inputs) r ≡ b
          at h true q = let z = eqb-true t (inputs + r) q in eq-eqb (t - inputs) r (omega arith)
          at h false q = let z = eqb-false t (inputs + r) q in ne_eqb (t - inputs) r (λ y. z (omega arith))

-- ---- one turn of the loops

module _ (register : Instruction → ℕ) (s code : List ℕ) where
  pub marks-none : (i : ℕ) → bits 0 ≡ marks register s code i 0
  unfolding marks
  marks-none i = bits-zero

  pub marks-turn : (i p w r : ℕ) {k : ℕ} {x : Instruction} → bits w ≡ marks register s code i p → x ≡ fetch_at s code i p
      → k ≡ register x → bits r ≡ set (bits w) k true → bits r ≡ marks register s code i (p + 1)
  unfolding marks
  marks-turn i p w r e x k h = rw (add-one p) (h ∙ λ j. set (e j) ((k ∙ ap register x) j) true)

  pub masks-none : (sizes ms : List ℕ) → ms ≡ masks_below register s code sizes 0 ms
  unfolding masks_below
  masks-none sizes ms = refl

  pub masks-turn : (sizes : List ℕ) (i : ℕ) (ms : List ℕ) {vs : List ℕ} (n : ℕ) {w : ℕ} → vs ≡ masks_below register s code sizes i ms
      → n ≡ at_most 256 (get_or sizes i 0) → w < 2 ^ 32 → bits w ≡ marks register s code i n
      → set vs i w ≡ masks_below register s code sizes (i + 1) ms
  unfolding masks_below
  masks-turn sizes i ms n {w} e g l h =
      let q = sym (mask-bits w l) ∙ ap mask (h ∙ ap (marks register s code i) g) in
      rw (add-one i) (λ j. set (e j) i (q j))

  -- ---- a mask by its marks

  length-marks : (i n : ℕ) → length (marks register s code i n) ≡ 32
  unfolding marks
  length-marks i zero = refl
  length-marks i (suc n) = length-set (marks register s code i n) (register (fetch_at s code i n)) true ∙ length-marks i n

  none-marked : (n r : ℕ) → get_or (replicate n false) r false ≡ false
  none-marked zero r = refl
  none-marked (suc n) zero = refl
  none-marked (suc n) (suc r) = none-marked n r

  marks-at : (i n r : ℕ) → r < 32 → get_or (marks register s code i n) r false ≡ any_below n (λ p. eqb (register (fetch_at s code i p)) r)
  unfolding marks any_below
  marks-at i zero r h = none-marked 32 r
  marks-at i (suc n) r h =
      mark_set (marks register s code i n) (register (fetch_at s code i n)) r (omega (arith, length-marks i n))
      ∙ ap (λ t. t || eqb (register (fetch_at s code i n)) r) (marks-at i n r h)

  length-masks : (sizes : List ℕ) (n : ℕ) (ms : List ℕ) → length (masks_below register s code sizes n ms) ≡ length ms
  unfolding masks_below
  length-masks sizes zero ms = refl
  length-masks sizes (suc n) ms =
      length-set (masks_below register s code sizes n ms) n (mask (marks register s code n (at_most 256 (get_or sizes n 0))))
      ∙ length-masks sizes n ms

  masks-at : (sizes : List ℕ) (n i : ℕ) (ms : List ℕ) → i < n → n ≤ length ms
      → get_or (masks_below register s code sizes n ms) i 0 ≡ mask (marks register s code i (at_most 256 (get_or sizes i 0)))
  unfolding masks_below
  masks-at sizes zero i ms l h = absurd (not-suc-le-zero l)
  masks-at sizes (suc n) i ms l h = by (eqb i n) refl (λ k. masks-at sizes n i ms k (omega arith))
    where
      by : (t : Bool) → eqb i n ≡ t
          → (i < n → get_or (masks_below register s code sizes n ms) i 0 ≡ mask (marks register s code i (at_most 256 (get_or sizes i 0))))
          → get_or (set (masks_below register s code sizes n ms) n (mask (marks register s code n (at_most 256 (get_or sizes n 0))))) i 0
          ≡ mask (marks register s code i (at_most 256 (get_or sizes i 0)))
      by true e rest =
          let q = eqb-true i n e in
          rw q (get_or-set_same (masks_below register s code sizes n ms) n _ 0 (omega (arith, length-masks sizes n ms)))
      by false e rest =
          let q = eqb-false i n e in
          get_or-set_other (masks_below register s code sizes n ms) n i _ 0 q ∙ rest (omega arith)

  -- Mark r of thread i: some instruction of it writes register r.
  pub mark-at : (sizes : List ℕ) (n i r : ℕ) (ms : List ℕ) → i < n → n ≤ length ms → r < 32
      → get_or (bits (get_or (masks_below register s code sizes n ms) i 0)) r false
      ≡ any_below (at_most 256 (get_or sizes i 0)) (λ p. eqb (register (fetch_at s code i p)) r)
  mark-at sizes n i r ms l h k =
      let c = at_most 256 (get_or sizes i 0) in
      ap (λ (w : ℕ). get_or (bits w) r false) (masks-at sizes n i ms l h)
      ∙ ap (λ (bs : List Bool). get_or bs r false) (bits-mask (marks register s code i c) (length-marks i c))
      ∙ marks-at i c r k

-- ---- past the registers nothing is written

module _ (m : Module Expr) (r : ℕ) (past : m.scope.registers ≤ r) where
  set_past : {n p : ℕ} {x : Instr Expr} → SoundInstr m.scope n p x → sets_at (m.scope.inputs + r) x ≡ false
  unfolding sets_at
  set_past (sound-wait h t) = refl
  set_past (sound-set {t = t} h x) = ne_eqb t (m.scope.inputs + r) (λ q. omega (arith, x.register))
  set_past (sound-later h x) = refl
  set_past (sound-go h) = refl
  set_past (sound-ifnot w h g e) = refl

  later-past : {n p : ℕ} {x : Instr Expr} → SoundInstr m.scope n p x → defers_at (m.scope.inputs + r) x ≡ false
  unfolding defers_at
  later-past (sound-wait h t) = refl
  later-past (sound-set h x) = refl
  later-past (sound-later {t = t} h x) = ne_eqb t (m.scope.inputs + r) (λ q. omega (arith, x.register))
  later-past (sound-go h) = refl
  later-past (sound-ifnot w h g e) = refl

module _ {m : Module Expr} (z : Sound m) (i r : ℕ) (l : i < length m.threads) (past : m.scope.registers ≤ r) where
  abbrev v : ℕ
  v = m.scope.inputs + r

  pub sets-past : plain_writes m i (m.scope.inputs + r) ≡ false
  unfolding plain_writes code_of
  sets-past =
      any-instr (sets_at v) (code_of m i)
      ∙ below_none (λ p. sets_at v (get_or (code_of m i) p (go 0))) (length (code_of m i)) (λ p h. set_past m r past ((z.code i l).instruction p h))

  pub defers-past : defers m i (m.scope.inputs + r) ≡ false
  unfolding defers code_of
  defers-past =
      any-instr (defers_at v) (code_of m i)
      ∙ below_none (λ p. defers_at v (get_or (code_of m i) p (go 0))) (length (code_of m i)) (λ p h. later-past m r past ((z.code i l).instruction p h))

-- ---- the register of an instruction that was fetched

no_register : (r : ℕ) → r < 32 → eqb 32 r ≡ false
no_register r k = ne_eqb 32 r (λ e. omega arith)

module _ {s ws : List ℕ} (inputs r : ℕ) (k : r < 32) where
  set-fetched : {x : Instr Expr} {y : Instruction} → Fetched s ws x y → eqb (set_register inputs y) r ≡ sets_at (inputs + r) x
  unfolding set_register sets_at
  set-fetched (a-wait q) = no_register r k
  set-fetched (a-set {t = t} q) = register_of-same inputs t r k
  set-fetched (a-later q) = no_register r k
  set-fetched a-go = no_register r k
  set-fetched (an-ifnot q) = no_register r k

  later-fetched : {x : Instr Expr} {y : Instruction} → Fetched s ws x y → eqb (later_register inputs y) r ≡ defers_at (inputs + r) x
  unfolding later_register defers_at
  later-fetched (a-wait q) = no_register r k
  later-fetched (a-set q) = no_register r k
  later-fetched (a-later {t = t} q) = register_of-same inputs t r k
  later-fetched a-go = no_register r k
  later-fetched (an-ifnot q) = no_register r k

-- ---- an accepted sheet's tables

module _ {s : List ℕ} {m : Module Expr} {starts sizes code readers : List ℕ} {watched : List Bool}
    (z : Sound m) (h : Holding s m starts sizes code readers watched) where
  -- The places of thread i that are looked at are those of its code.
  pub size-of : (i : ℕ) → i < length m.threads → at_most 256 (get_or sizes i 0) ≡ length (code_of m i)
  unfolding code_of
  size-of i l =
      let e = h.size i l in
      at_most-same 256 (get_or sizes i 0) (omega (arith, (z.code i l).most)) ∙ e

  -- A test on the instructions that are fetched, and one on those of the module's code.
  pub any-fetched : (i : ℕ) → i < length m.threads → (g : Instruction → Bool) (f : Instr Expr → Bool)
      → ((x : Instr Expr) (y : Instruction) → Fetched s m.scope.widths x y → g y ≡ f x)
      → any_below (at_most 256 (get_or sizes i 0)) (λ p. g (fetch_at s code i p)) ≡ any_instr f (code_of m i)
  unfolding code_of
  any-fetched i l g f agree =
      ap (λ (n : ℕ). any_below n (λ p. g (fetch_at s code i p))) (size-of i l)
      ∙ any_same (λ p. g (fetch_at s code i p)) (λ p. f (get_or (code_of m i) p (go 0))) (length (code_of m i))
      (λ p k. agree _ _ (h.fetched i p l k))
      ∙ sym (any-instr f (code_of m i))

  module _ (ms : List ℕ) (eight : length ms ≡ 8) where
    abbrev inputs : ℕ
    inputs = m.scope.inputs

    abbrev count : ℕ
    count = length m.threads

    -- From register r's test, for every r below 32, to the law for every r.
    every : (register : Instruction → ℕ) (written : ℕ → Bool) (i r : ℕ)
        → (r < 32 → get_or (bits (get_or (masks_below register s code sizes count ms) i 0)) r false ≡ written r)
        → (m.scope.registers ≤ r → written r ≡ false)
        → get_or (bits (get_or (masks_below register s code sizes count ms) i 0)) r false ≡ written r
    every register written i r inside past = by (ltb r 32) refl
      where
        by : (t : Bool) → ltb r 32 ≡ t → get_or (bits (get_or (masks_below register s code sizes count ms) i 0)) r false ≡ written r
        by true e = inside (ltb-true r 32 e)
        by false e =
            let k = ltb-false r 32 e in
            get_d-bits-past (get_or (masks_below register s code sizes count ms) i 0) r k ∙ sym (past (omega (arith, z.registers-most)))

    pub plain-law : (i r : ℕ) → i < length m.threads →
        get_or (bits (get_or (plain_below s code sizes m.scope.inputs (length m.threads) ms) i 0)) r false
        ≡ plain_writes m i (m.scope.inputs + r)
    unfolding plain_writes
    plain-law i r l =
        every (set_register inputs) (λ r. plain_writes m i (inputs + r)) i r
        (λ k. mark-at (set_register inputs) s code sizes count i r ms l (omega (arith, z.threads-most)) k
        ∙ any-fetched i l (λ y. eqb (set_register inputs y) r) (sets_at (inputs + r)) (λ x y q. set-fetched inputs r k q))
        (λ p. sets-past z i r l p)

    pub later-law : (i r : ℕ) → i < length m.threads →
        get_or (bits (get_or (later_below s code sizes m.scope.inputs (length m.threads) ms) i 0)) r false
        ≡ defers m i (m.scope.inputs + r)
    unfolding defers
    later-law i r l =
        every (later_register inputs) (λ r. defers m i (inputs + r)) i r
        (λ k. mark-at (later_register inputs) s code sizes count i r ms l (omega (arith, z.threads-most)) k
        ∙ any-fetched i l (λ y. eqb (later_register inputs y) r) (defers_at (inputs + r)) (λ x y q. later-fetched inputs r k q))
        (λ p. defers-past z i r l p)
