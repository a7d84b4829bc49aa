-- The threads that read each variable: one turn of each loop, and for an accepted sheet's tables the module's `thread_reads`.
-- Assumes nothing.
use mathlib.Core.Path.{◌≡◌, refl, sym, ap, ◌∙◌}
use mathlib.Core.Bool.{Bool, true, false, ◌||◌, or-false, or_assoc}
use mathlib.Core.List.{List}
use Prim.Native.Nat.{ℕ, zero, suc, ◌+◌, ◌≤◌, ◌<◌}
use native.Mathlib.Nat.{not-suc-le-zero, le_refl}
use native.Mathlib.Numerals.{add-one}
use native.Mathlib.Omega.{arith}
use borrow.Author.Tests.{eqb-true, eqb-false}
use lib.Dec.{eqb}
use lib.ListN.{length, get_or, replicate}
use Rattle.sheet.specs.Expression.{Expr, Scope}
use Rattle.sheet.specs.Module.{Module}
use Rattle.pseudocode.specs.declared.Instruction.{Instruction}
use Rattle.pseudocode.specs.Translation.{Instr, go}
use Rattle.pseudocode.specs.Fetching.{fetch_at}
use Rattle.pseudocode.proofs.Skipping.{Counted}
use Rattle.masks.specs.Masks.{bits}
use Rattle.masks.proofs.Masks.{any_none, any-bits}
use Rattle.soundness.specs.Soundness.{Sound}
use Rattle.events.specs.Cycle.{any_below, code_of}
use Rattle.nextstate.specs.Rules.{reads_at, thread_reads}
use Rattle.tables.specs.Readers.{at_most}
use Rattle.tables.specs.Holding.{Holding}
use Rattle.tables.proofs.Marking.{bit, Marks, walk}
use Rattle.rules.specs.Reading.{mark_instr, mark_thread, reading_below}
use Rattle.rules.proofs.Tests.{any-instr}
use Rattle.rules.proofs.Writing.{size-of}
use Rattle.rules.proofs.Expressions.{Expressed, of-wait, of-set, of-later, of-go, of-ifnot, Expressions}

-- ---- one turn of the loops

module _ (s ds code : List ℕ) where
  pub thread-none : (i : ℕ) (rs : List ℕ) → rs ≡ mark_thread s ds code i 0 rs
  unfolding mark_thread
  thread-none i rs = refl

  pub thread-turn : (i p : ℕ) (rs : List ℕ) {vs us : List ℕ} {x : Instruction} → vs ≡ mark_thread s ds code i p rs
      → x ≡ fetch_at s code i p → us ≡ mark_instr s ds i x vs → us ≡ mark_thread s ds code i (p + 1) rs
  unfolding mark_thread
  thread-turn i p rs e x h = rw (add-one p) (h ∙ λ j. mark_instr s ds i (x j) (e j))

  pub reading-none : (sizes rs : List ℕ) → rs ≡ reading_below s ds code sizes 0 rs
  unfolding reading_below
  reading-none sizes rs = refl

  pub reading-turn : (sizes : List ℕ) (i : ℕ) (rs : List ℕ) {vs us : List ℕ} {n : ℕ} → vs ≡ reading_below s ds code sizes i rs
      → n ≡ at_most 256 (get_or sizes i 0) → us ≡ mark_thread s ds code i n vs → us ≡ reading_below s ds code sizes (i + 1) rs
  unfolding reading_below
  reading-turn sizes i rs e n h = rw (add-one i) (h ∙ λ j. mark_thread s ds code i (n j) (e j))

-- ---- marks of one thread after the other

marks-none : (k : ℕ) (rs : List ℕ) → length rs ≡ 80 → Marks k rs rs (λ v. false)
marks-none k rs long = record { long = long; own = λ v l. sym (or-false (bit rs v k)); others = λ v j n. refl }

marks_then : {k : ℕ} {rs ss us : List ℕ} {f g : ℕ → Bool} → Marks k rs ss f → Marks k ss us g → Marks k rs us (λ v. f v || g v)
marks_then {k} {rs} {f = f} {g = g} a b =
    record {
      long = b.long;
      own = λ v l. b.own v l ∙ ap (λ (x : Bool). x || g v) (a.own v l) ∙ or_assoc (bit rs v k) (f v) (g v);
      others = λ v j n. b.others v j n ∙ a.others v j n;
    }

module _ (c : Scope) (s ds : List ℕ) (few : length c.widths ≤ 80) (counted : Counted s ds c.functions) (k : ℕ) (low : k < 32) where
  pub instr-marks : {x : Instr Expr} {y : Instruction} → Expressed c s x y → (rs : List ℕ) → length rs ≡ 80
      → Marks k rs (mark_instr s ds k y rs) (λ v. reads_at v x)
  unfolding mark_instr reads_at
  instr-marks of-wait rs long = marks-none k rs long
  instr-marks (of-set q) rs long = rw (← q.2) (walk c s ds counted few k low q.1 rs long).marks
  instr-marks (of-later q) rs long = rw (← q.2) (walk c s ds counted few k low q.1 rs long).marks
  instr-marks of-go rs long = marks-none k rs long
  instr-marks (of-ifnot q) rs long = rw (← q.2) (walk c s ds counted few k low q.1 rs long).marks

  -- The places below n of thread k, whose code is js.
  thread-marks : (code : List ℕ) (js : List (Instr Expr)) (size : ℕ)
      → ((p : ℕ) → p < size → Expressed c s (get_or js p (go 0)) (fetch_at s code k p)) → (n : ℕ) → n ≤ size
      → (rs : List ℕ) → length rs ≡ 80 → Marks k rs (mark_thread s ds code k n rs) (λ v. any_below n (λ p. reads_at v (get_or js p (go 0))))
  unfolding mark_thread any_below
  thread-marks code js size at zero h rs long = marks-none k rs long
  thread-marks code js size at (suc n) h rs long =
      let a = thread-marks code js size at n (omega arith) rs long in
      marks_then a (instr-marks (at n h) (mark_thread s ds code k n rs) a.long)

-- ---- an accepted sheet's tables

-- The table holds the marks of the threads below n, and no other.
pub record Reading (m : Module Expr) (n : ℕ) (rs : List ℕ) : Type 0 where
  pub long : length rs ≡ 80
  pub own : (v j : ℕ) → v < 80 → j < n → bit rs v j ≡ thread_reads m j v
  pub none : (v j : ℕ) → n ≤ j → bit rs v j ≡ false

zeros : (n v : ℕ) → ◌≡◌ {A = ℕ} (get_or (replicate n 0) v 0) 0
zeros zero v = refl
zeros (suc n) zero = refl
zeros (suc n) (suc v) = zeros n v

reading-blank : (m : Module Expr) → Reading m 0 (replicate 80 0)
reading-blank m =
    record {
      long = refl;
      own = λ v j l k. absurd (not-suc-le-zero k);
      none = λ v j l. ap (λ (x : ℕ). get_or (bits x) j false) (zeros 80 v) ∙ any_none (bits 0) (any-bits 0 (omega arith)) j;
    }

reading-more : (m : Module Expr) (n : ℕ) {rs ss : List ℕ} → Reading m n rs → Marks n rs ss (λ v. thread_reads m n v) → Reading m (suc n) ss
reading-more m n {rs} {ss} b x =
    record {
      long = x.long;
      own = λ v j l k. by v j l k (eqb j n) refl;
      none = λ v j l. x.others v j (λ e. omega arith) ∙ b.none v j (omega arith);
    }
  where
    by : (v j : ℕ) → v < 80 → j < suc n → (t : Bool) → eqb j n ≡ t → bit ss v j ≡ thread_reads m j v
    by v j l k true e =
        let q = eqb-true j n e in
        ap (bit ss v) q
        ∙ x.own v l
        ∙ ap (λ (y : Bool). y || thread_reads m n v) (b.none v n (le_refl n))
        ∙ ap (λ (i : ℕ). thread_reads m i v) (sym q)
    by v j l k false e = let q = eqb-false j n e in x.others v j q ∙ b.own v j l (omega arith)

module _ {s ds : List ℕ} {m : Module Expr} {starts sizes code readers : List ℕ} {watched : List Bool}
    (z : Sound m) (h : Holding s m starts sizes code readers watched) (e : Expressions s ds m code) where
  pub few-widths : length m.scope.widths ≤ 80
  few-widths = omega (arith, z.variables, z.inputs-most, z.registers-most, z.wires-most)

  thread-reading : (i : ℕ) → i < length m.threads → (rs : List ℕ) → length rs ≡ 80
      → Marks i rs (mark_thread s ds code i (at_most 256 (get_or sizes i 0)) rs) (λ v. thread_reads m i v)
  unfolding thread_reads
  thread-reading i l rs long =
      let c = code_of m i in
      let x = thread-marks m.scope s ds few-widths e.counted i (omega (arith, z.threads-most)) code c (length c) (λ p k. e.at i p l k)
      (length c) (le_refl (length c)) rs long in
      rw (size-of z h i l)
      (record {
        long = x.long;
        own = λ v k. x.own v k ∙ ap (λ t. bit rs v i || t) (sym (any-instr (reads_at v) c));
        others = x.others;
      })

  pub reading-law : (n : ℕ) → n ≤ length m.threads → Reading m n (reading_below s ds code sizes n (replicate 80 0))
  unfolding reading_below
  reading-law zero k = reading-blank m
  reading-law (suc n) k =
      let b = reading-law n (omega arith) in
      reading-more m n b (thread-reading n k (reading_below s ds code sizes n (replicate 80 0)) b.long)
