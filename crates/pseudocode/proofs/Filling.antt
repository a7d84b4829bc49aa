-- Laws of filling the code table: one store, the ways through each form, and the table left as it was outside.
use mathlib.Core.Path.{◌≡◌, refl, ap, ◌∙◌}
use mathlib.Core.Logic.{◌≢◌, ◌⊎◌, inl, inr}
use Prim.Native.Nat.{ℕ, zero, suc, ◌+◌, ◌-◌, ◌%◌, ◌≤◌, ◌<◌}
use native.Mathlib.Omega.{arith}
use native.Mathlib.Numerals.{sub-one}
use mathlib.Core.Bool.{Bool, true, false}
use mathlib.Core.List.{List}
use lib.ListN.{length, get_or, set, length-set}
use lib.Seq.{get_or-set_same, get_or-set_other}
use lib.Dec.{ltb}
use borrow.Author.Tests.{lt-ltb, le-ltb, ne_eqb}
use Rattle.values.specs.Values.{pick}
use Rattle.sheet.specs.Reading.{Res, ok, no}
use Rattle.sheet.specs.Statement.{Form, form_of}
use Rattle.sheet.proofs.Statements.{form_map, map-form}
use Rattle.pseudocode.specs.declared.Filled.{Filled}
use Rattle.pseudocode.specs.Skipping.{skip_at}
use Rattle.pseudocode.specs.Filling.{cell, first_word, store, Filling, filling, filled, after, emit, go_kind, ifnot_kind, fill_sequence, fill_body, fill_if, fill_if_else, fill_while, fill_forever, fill_form, fill_at}

-- ---- store

module _ (t n kind at goal : ℕ) (code : List ℕ) where
  -- The table with the first word, and with both.
  abbrev once : List ℕ
  once = set code (cell t n) (first_word kind at)

  abbrev twice : List ℕ
  twice = set once (cell t n + 1) (goal % 65536)

  pub store_in : t < 8 → n < 256
      → store t n kind at goal code ≡ set (set code (cell t n) (first_word kind at)) (cell t n + 1) (goal % 65536)
  unfolding store
  store_in h l = simp (lt-ltb t 8 h, lt-ltb n 256 l)

  pub store-thread : 8 ≤ t → store t n kind at goal code ≡ code
  unfolding store
  store-thread h = simp (le-ltb t 8 h)

  pub store-place : t < 8 → 256 ≤ n → store t n kind at goal code ≡ code
  unfolding store
  store-place h l = simp (lt-ltb t 8 h, le-ltb n 256 l)

  pub store-outside : (8 ≤ t) ⊎ ((t < 8) × (256 ≤ n)) → store t n kind at goal code ≡ code
  store-outside (inl h) = store-thread h
  store-outside (inr h) = store-place h.0 h.1

  pub length-store : length (store t n kind at goal code) ≡ length code
  unfolding store
  length-store = by (ltb t 8) (ltb n 256)
    where
      by : (x y : Bool) → length (pick x (pick y twice code) code) ≡ length code
      by true true = simp length-set
      by true false = refl
      by false y = refl

  pub get_d-store-other : (i : ℕ) → i ≢ cell t n → i ≢ cell t n + 1 → get_or (store t n kind at goal code) i 0 ≡ get_or code i 0
  unfolding store
  get_d-store-other i a b = by (ltb t 8) (ltb n 256)
    where
      by : (x y : Bool) → get_or (pick x (pick y twice code) code) i 0 ≡ get_or code i 0
      by true true = get_or-set_other once (cell t n + 1) i (goal % 65536) 0 b ∙ get_or-set_other code (cell t n) i (first_word kind at) 0 a
      by true false = refl
      by false y = refl

  pub get_d-store-first : t < 8 → n < 256 → length code ≡ 4096 → get_or (store t n kind at goal code) (cell t n) 0 ≡ first_word kind at
  get_d-store-first h l e =
      rw (store_in h l)
      (get_or-set_other once (cell t n + 1) (cell t n) (goal % 65536) 0 (λ q. omega arith)
      ∙ get_or-set_same code (cell t n) (first_word kind at) 0 (omega arith))

  pub get_d-store-second : t < 8 → n < 256 → length code ≡ 4096 → get_or (store t n kind at goal code) (cell t n + 1) 0 ≡ goal % 65536
  get_d-store-second h l e =
      rw (store_in h l)
      (get_or-set_same once (cell t n + 1) (goal % 65536) 0 (simp length-set (omega arith)))

-- ---- after

pub after-in : (n : ℕ) → n < 256 → after n ≡ n + 1
unfolding after
after-in n h = simp (lt-ltb n 256 h)

pub after-out : (n : ℕ) → 256 ≤ n → after n ≡ n
unfolding after
after-out n h = simp (le-ltb n 256 h)

-- ---- the words outside a part of the table are as they were

pub record Frame (low high : ℕ) (code code' : List ℕ) : Type 0 where
  pub long : length code' ≡ length code
  pub below : (i : ℕ) → i < low → get_or code' i 0 ≡ get_or code i 0
  pub above : (i : ℕ) → high ≤ i → get_or code' i 0 ≡ get_or code i 0

pub frame-none : (low high : ℕ) (code : List ℕ) → Frame low high code code
frame-none low high code = record { long = refl; below = λ i h. refl; above = λ i h. refl }

pub frame-store : (t n kind at goal : ℕ) (code : List ℕ) → Frame (cell t n) (cell t n + 2) code (store t n kind at goal code)
frame-store t n kind at goal code =
    record {
      long = length-store t n kind at goal code;
      below = λ i h. get_d-store-other t n kind at goal code i (λ q. omega arith) (λ q. omega arith);
      above = λ i h. get_d-store-other t n kind at goal code i (λ q. omega arith) (λ q. omega arith);
    }

-- One after the other, each within the whole.
pub frame_then : {low high low' high' : ℕ} {a b c : List ℕ} (l h : ℕ) → Frame low high a b → Frame low' high' b c
    → l ≤ low → high ≤ h → l ≤ low' → high' ≤ h → Frame l h a c
frame_then l h x y p q r u =
    record {
      long = y.long ∙ x.long;
      below = λ i e. y.below i (omega arith) ∙ x.below i (omega arith);
      above = λ i e. y.above i (omega arith) ∙ x.above i (omega arith);
    }

-- ---- the ways through a statement

pub no-form : (m p : ℕ) → (m ≡ 0x00 → ⊥) → (m ≡ 0x03 → ⊥) → (m ≡ 0x23 → ⊥) → (m ≡ 0x0C → ⊥) → (m ≡ 0x06 → ⊥) → (m ≡ 0x0E → ⊥)
    → (m ≡ 0x46 → ⊥) → (m ≡ 0x44 → ⊥) → (m ≡ 0x10 → ⊥) → form_of m p ≡ no 5 p
unfolding form_of
no-form m p a b c d e f g h i =
    simp (ne_eqb _ _ a, ne_eqb _ _ b, ne_eqb _ _ c, ne_eqb _ _ d, ne_eqb _ _ e, ne_eqb _ _ f, ne_eqb _ _ g, ne_eqb _ _ h, ne_eqb _ _ i)

module _ (s ds : List ℕ) (t : ℕ) (f : Filling) where
  pub fill_none : (d : ℕ) → d ≡ 0 → fill_at s ds t d f ≡ f
  unfolding fill_at
  fill_none d e = rw e refl

  pub fill-far : (d : ℕ) → 8192 ≤ f.next → fill_at s ds t d f ≡ f
  unfolding fill_at
  fill-far zero h = refl
  fill-far (suc d) h = simp (le-ltb f.next 8192 h)

  pub fill-full : (d : ℕ) → f.next < 8192 → 256 ≤ f.place → fill_at s ds t d f ≡ f
  unfolding fill_at
  fill-full zero h l = refl
  fill-full (suc d) h l = simp (lt-ltb f.next 8192 h, le-ltb f.place 256 l)

  pub fill-stop : (d : ℕ) → (d ≡ 0) ⊎ (((d ≡ 0 → ⊥) × (8192 ≤ f.next)) ⊎ ((d ≡ 0 → ⊥) × (f.next < 8192) × (256 ≤ f.place))) → fill_at s ds t d f ≡ f
  fill-stop d (inl e) = fill_none d e
  fill-stop d (inr (inl e)) = fill-far d e.1
  fill-stop d (inr (inr e)) = fill-full d e.1 e.2

  fill-read : (d : ℕ) (k : Res Form) → (d ≡ 0 → ⊥) → f.next < 8192 → f.place < 256 → form_of (get_or s f.next 0) f.next ≡ k
      → fill_at s ds t d f ≡ fill_form s ds t (fill_at s ds t (d - 1)) f k
  unfolding fill_at
  fill-read zero k n h l e = absurd (n refl)
  fill-read (suc d) k n h l e = simp (lt-ltb f.next 8192 h, lt-ltb f.place 256 l, e, sub-one)

  pub fill-form : (d : ℕ) (k : Form) → (d ≡ 0 → ⊥) → f.next < 8192 → f.place < 256 → get_or s f.next 0 ≡ form_map k
      → fill_at s ds t d f ≡ fill_form s ds t (fill_at s ds t (d - 1)) f (ok k)
  fill-form d k n h l e = fill-read d (ok k) n h l (map-form (get_or s f.next 0) f.next k e)

  pub fill-at : (d : ℕ) (k : Form) → f.next < 8192 → f.place < 256 → get_or s f.next 0 ≡ form_map k
      → fill_at s ds t (suc d) f ≡ fill_form s ds t (fill_at s ds t d) f (ok k)
  unfolding fill_at
  fill-at d k h l e = simp (lt-ltb f.next 8192 h, lt-ltb f.place 256 l, map-form (get_or s f.next 0) f.next k e)

  pub fill-other : (d : ℕ) → (d ≡ 0 → ⊥) → f.next < 8192 → f.place < 256 → form_of (get_or s f.next 0) f.next ≡ no 5 f.next
      → fill_at s ds t d f ≡ f
  unfolding fill_form
  fill-other d n h l e = fill-read d (no 5 f.next) n h l e

-- ---- the forms, from what the code's calls give

module _ (s ds : List ℕ) (t : ℕ) (inner : Filling → Filling) (at n : ℕ) {code : List ℕ} where
  pub sequence-path : {a b : Filled} {c d : List ℕ} → filled a c ≡ inner (filling at n code) → filled b d ≡ inner (filled a c)
      → filled b d ≡ fill_sequence s ds t inner (filling at n code)
  unfolding fill_sequence
  sequence-path x y = y ∙ ap inner x

  -- The body behind a condition.
  body-path : {inside m : ℕ} {a : Filled} {c : List ℕ} → inside ≡ skip_at 16 s ds at → m ≡ after n → filled a c ≡ inner (filling inside m code)
      → filled a c ≡ fill_body s ds t inner (filling at n code)
  unfolding fill_body
  body-path p q x = x ∙ λ i. inner (filling (p i) (q i) code)

  pub if-path : {inside m : ℕ} {a : Filled} {c d : List ℕ} → inside ≡ skip_at 16 s ds at → m ≡ after n
      → filled a c ≡ inner (filling inside m code) → d ≡ store t n ifnot_kind at a.place c → filled a d ≡ fill_if s ds t inner (filling at n code)
  unfolding fill_if
  if-path {a = a} p q x y =
      let z = body-path p q x in
      ap (filled a) y ∙ λ i. filling (z i).next (z i).place (store t n ifnot_kind at (z i).place (z i).code)

  pub if-else-path : {inside m k : ℕ} {a b : Filled} {c d u v : List ℕ} → inside ≡ skip_at 16 s ds at → m ≡ after n
      → filled a c ≡ inner (filling inside m code) → k ≡ after a.place → filled b d ≡ inner (filling a.next k c)
      → u ≡ store t a.place go_kind 0 b.place d → v ≡ store t n ifnot_kind at k u
      → filled b v ≡ fill_if_else s ds t inner (filling at n code)
  unfolding fill_if_else
  if-else-path {k = k} {a = a} {b = b} {d = d} p q x e y g h =
      let z = body-path p q x in
      let w = y ∙ λ i. inner (filling (z i).next ((e ∙ λ j. after (z j).place) i) (z i).code) in
      let r = e ∙ λ j. after (z j).place in
      ap (filled b) (h ∙ ap (store t n ifnot_kind at k) g)
      ∙ λ i. filling (w i).next (w i).place (store t n ifnot_kind at (r i) (store t (z i).place go_kind 0 (w i).place (w i).code))

  pub while-path : {inside m : ℕ} {a b : Filled} {c d u : List ℕ} → inside ≡ skip_at 16 s ds at → m ≡ after n
      → filled a c ≡ inner (filling inside m code) → filled b d ≡ emit t go_kind 0 n a.next (filled a c)
      → u ≡ store t n ifnot_kind at b.place d → filled b u ≡ fill_while s ds t inner (filling at n code)
  unfolding fill_while
  while-path {b = b} p q x y g =
      let z = body-path p q x in
      let w = y ∙ λ i. emit t go_kind 0 n (z i).next (z i) in
      ap (filled b) g ∙ λ i. filling (w i).next (w i).place (store t n ifnot_kind at (w i).place (w i).code)

  pub forever-path : {a b : Filled} {c d : List ℕ} → filled a c ≡ inner (filling at n code)
      → filled b d ≡ emit t go_kind 0 n a.next (filled a c) → filled b d ≡ fill_forever s ds t inner (filling at n code)
  unfolding fill_forever
  forever-path x y = y ∙ λ i. emit t go_kind 0 n (x i).next (x i)
