-- Laws of filling the bodies' code table: one store, the ways through each form, and fetching what was stored. Assumes nothing.
use mathlib.Core.Path.{◌≡◌, refl, ap, ◌∙◌}
use mathlib.Core.Logic.{◌≢◌, ◌⊎◌, inl, inr}
use Prim.Native.Nat.{ℕ, zero, suc, ◌+◌, ◌-◌, ◌*◌, ◌/◌, ◌%◌, ◌≤◌, ◌<◌}
use native.Mathlib.Omega.{arith}
use native.Mathlib.Numerals.{sub-one}
use mathlib.Core.Bool.{Bool, true, false}
use mathlib.Core.List.{List}
use lib.ListN.{length, get_or, set, length-set}
use lib.Seq.{get_or-set_same, get_or-set_other}
use lib.Dec.{ltb}
use borrow.Author.Tests.{lt-ltb, le-ltb, ne_eqb}
use Rattle.values.specs.Values.{pick}
use Rattle.sheet.specs.Reading.{Res, ok, no}
use Rattle.sheet.specs.Statement.{Form, an_empty, an_assign, a_later, a_sequence, an_if, an_if_else, a_while, a_forever, a_wait, form_of}
use Rattle.sheet.proofs.Statements.{form_map, form-map, map-form}
use Rattle.pseudocode.specs.declared.Filled.{Filled}
use Rattle.pseudocode.specs.Skipping.{skip_at}
use Rattle.pseudocode.specs.Filling.{set_kind, go_kind, ifnot_kind, first_word, Filling, filling, filled}
use Rattle.pseudocode.proofs.Filling.{Frame}
use Rattle.pseudocode.proofs.Fetching.{word-kind, word-place}
use Rattle.bodies.specs.declared.Move.TheVariants.{Set, Go, IfNot}
use Rattle.bodies.specs.Filling.{store, after, fill_in_turn, fill_inside, fill_if, fill_if_else, fill_form, fill_at}
use Rattle.bodies.specs.Laying.{decode, fetch_at}

-- ---- store

module _ (n kind at goal : ℕ) (code : List ℕ) where
  -- The table with the first word, and with both.
  abbrev once : List ℕ
  once = set code (2 * n) (first_word kind at)

  abbrev twice : List ℕ
  twice = set once (2 * n + 1) (goal % 65536)

  pub store_in : n < 4096 → store n kind at goal code ≡ set (set code (2 * n) (first_word kind at)) (2 * n + 1) (goal % 65536)
  unfolding store
  store_in l = simp (lt-ltb n 4096 l)

  pub store_out : 4096 ≤ n → store n kind at goal code ≡ code
  unfolding store
  store_out l = simp (le-ltb n 4096 l)

  pub length-store : length (store n kind at goal code) ≡ length code
  unfolding store
  length-store = by (ltb n 4096)
    where
      by : (x : Bool) → length (pick x twice code) ≡ length code
      by true = simp length-set
      by false = refl

  get_d-store-other : (i : ℕ) → i ≢ 2 * n → i ≢ 2 * n + 1 → get_or (store n kind at goal code) i 0 ≡ get_or code i 0
  unfolding store
  get_d-store-other i a b = by (ltb n 4096)
    where
      by : (x : Bool) → get_or (pick x twice code) i 0 ≡ get_or code i 0
      by true = get_or-set_other once (2 * n + 1) i (goal % 65536) 0 b ∙ get_or-set_other code (2 * n) i (first_word kind at) 0 a
      by false = refl

  pub frame-store : Frame (2 * n) (2 * n + 2) code (store n kind at goal code)
  frame-store =
      record {
        long = length-store;
        below = λ i h. get_d-store-other i (λ q. omega arith) (λ q. omega arith);
        above = λ i h. get_d-store-other i (λ q. omega arith) (λ q. omega arith);
      }

  module _ (l : n < 4096) (e : length code ≡ 8192) where
    pub first-stored : get_or (store n kind at goal code) (2 * n) 0 ≡ first_word kind at
    first-stored =
        rw (store_in l)
        (get_or-set_other once (2 * n + 1) (2 * n) (goal % 65536) 0 (λ q. omega arith)
        ∙ get_or-set_same code (2 * n) (first_word kind at) 0 (omega arith))

    pub second-stored : get_or (store n kind at goal code) (2 * n + 1) 0 ≡ goal % 65536
    second-stored = rw (store_in l) (get_or-set_same once (2 * n + 1) (goal % 65536) 0 (simp length-set (omega arith)))

-- ---- after

pub after-in : (n : ℕ) → n < 4096 → after n ≡ n + 1
unfolding after
after-in n h = simp (lt-ltb n 4096 h)

pub after-out : (n : ℕ) → 4096 ≤ n → after n ≡ n
unfolding after
after-out n h = simp (le-ltb n 4096 h)

-- ---- decode and fetch_at

module _ (w x : ℕ) where
  pub decode-set : w % 8 ≡ set_kind → decode w x ≡ Set (w / 8)
  unfolding decode
  decode-set e = simp e

  pub decode-go : w % 8 ≡ go_kind → decode w x ≡ Go x
  unfolding decode
  decode-go e = simp e

  pub decode-rest : (w % 8 ≡ set_kind → ⊥) → (w % 8 ≡ go_kind → ⊥) → decode w x ≡ IfNot x (w / 8)
  unfolding decode
  decode-rest a b = simp (ne_eqb _ _ a, ne_eqb _ _ b)

module _ (code : List ℕ) (n : ℕ) where
  pub fetch-in : n < 4096 → fetch_at code n ≡ decode (get_or code (2 * n) 0) (get_or code (2 * n + 1) 0)
  unfolding fetch_at
  fetch-in l = simp (lt-ltb n 4096 l)

  pub fetch-out : 4096 ≤ n → fetch_at code n ≡ Go 0
  unfolding fetch_at
  fetch-out l = simp (le-ltb n 4096 l)

  -- The same two words are the same instruction.
  pub fetch-same : (code' : List ℕ) → get_or code' (2 * n) 0 ≡ get_or code (2 * n) 0 → get_or code' (2 * n + 1) 0 ≡ get_or code (2 * n + 1) 0
      → fetch_at code' n ≡ fetch_at code n
  unfolding fetch_at
  fetch-same code' e f = simp (e, f)

-- ---- what is fetched where an instruction was stored

module _ (n : ℕ) (code : List ℕ) (l : n < 4096) (long : length code ≡ 8192) where
  fetch-stored : (kind at goal : ℕ) → fetch_at (store n kind at goal code) n ≡ decode (first_word kind at) (goal % 65536)
  fetch-stored kind at goal =
      fetch-in (store n kind at goal code) n l
      ∙ λ i. decode (first-stored n kind at goal code l long i) (second-stored n kind at goal code l long i)

  pub fetch-set : (at : ℕ) → at < 8192 → fetch_at (store n set_kind at 0 code) n ≡ Set at
  fetch-set at h =
      fetch-stored set_kind at 0
      ∙ decode-set (first_word set_kind at) (0 % 65536) (word-kind set_kind at (omega arith))
      ∙ ap Set (word-place set_kind at (omega arith) h)

  pub fetch-go : (goal : ℕ) → goal < 65536 → fetch_at (store n go_kind 0 goal code) n ≡ Go goal
  fetch-go goal h =
      let e : goal % 65536 ≡ goal = omega arith in
      fetch-stored go_kind 0 goal
      ∙ decode-go (first_word go_kind 0) (goal % 65536) (word-kind go_kind 0 (omega arith))
      ∙ ap Go e

  pub fetch-ifnot : (at goal : ℕ) → at < 8192 → goal < 65536 → fetch_at (store n ifnot_kind at goal code) n ≡ IfNot goal at
  fetch-ifnot at goal h g =
      let e : goal % 65536 ≡ goal = omega arith in
      let k = word-kind ifnot_kind at (omega arith) in
      fetch-stored ifnot_kind at goal
      ∙ decode-rest (first_word ifnot_kind at) (goal % 65536) (λ a. omega arith) (λ a. omega arith)
      ∙ λ i. IfNot (e i) (word-place ifnot_kind at (omega arith) h i)

-- ---- the ways through a statement

module _ (s ds : List ℕ) (f : Filling) where
  pub fill_none : (d : ℕ) → d ≡ 0 → fill_at s ds d f ≡ f
  unfolding fill_at
  fill_none d e = rw e refl

  pub fill-far : (d : ℕ) → 8192 ≤ f.next → fill_at s ds d f ≡ f
  unfolding fill_at
  fill-far zero h = refl
  fill-far (suc d) h = simp (le-ltb f.next 8192 h)

  pub fill-full : (d : ℕ) → f.next < 8192 → 4096 ≤ f.place → fill_at s ds d f ≡ f
  unfolding fill_at
  fill-full zero h l = refl
  fill-full (suc d) h l = simp (lt-ltb f.next 8192 h, le-ltb f.place 4096 l)

  pub fill-stop : (d : ℕ) → (d ≡ 0) ⊎ (((d ≡ 0 → ⊥) × (8192 ≤ f.next)) ⊎ ((d ≡ 0 → ⊥) × (f.next < 8192) × (4096 ≤ f.place))) → fill_at s ds d f ≡ f
  fill-stop d (inl e) = fill_none d e
  fill-stop d (inr (inl e)) = fill-far d e.1
  fill-stop d (inr (inr e)) = fill-full d e.1 e.2

  pub fill-read : (d : ℕ) (k : Res Form) → (d ≡ 0 → ⊥) → f.next < 8192 → f.place < 4096 → form_of (get_or s f.next 0) f.next ≡ k
      → fill_at s ds d f ≡ fill_form s ds (fill_at s ds (d - 1)) f k
  unfolding fill_at
  fill-read zero k n h l e = absurd (n refl)
  fill-read (suc d) k n h l e = simp (lt-ltb f.next 8192 h, lt-ltb f.place 4096 l, e, sub-one)

  pub fill-form : (d : ℕ) (k : Form) → (d ≡ 0 → ⊥) → f.next < 8192 → f.place < 4096 → get_or s f.next 0 ≡ form_map k
      → fill_at s ds d f ≡ fill_form s ds (fill_at s ds (d - 1)) f (ok k)
  fill-form d k n h l e = fill-read d (ok k) n h l (map-form (get_or s f.next 0) f.next k e)

  pub fill-at : (d : ℕ) (k : Form) → f.next < 8192 → f.place < 4096 → get_or s f.next 0 ≡ form_map k
      → fill_at s ds (suc d) f ≡ fill_form s ds (fill_at s ds d) f (ok k)
  unfolding fill_at
  fill-at d k h l e = simp (lt-ltb f.next 8192 h, lt-ltb f.place 4096 l, map-form (get_or s f.next 0) f.next k e)

  -- A map that no body has.
  pub fill-other : (d : ℕ) → (d ≡ 0 → ⊥) → f.next < 8192 → f.place < 4096 → (get_or s f.next 0 ≡ 0x00 → ⊥) → (get_or s f.next 0 ≡ 0x03 → ⊥)
      → (get_or s f.next 0 ≡ 0x0C → ⊥) → (get_or s f.next 0 ≡ 0x06 → ⊥) → (get_or s f.next 0 ≡ 0x0E → ⊥) → fill_at s ds d f ≡ f
  unfolding fill_form form_map
  fill-other d n h l a b c e g =
      fill-read d (form_of (get_or s f.next 0) f.next) n h l refl
      ∙ no-filling (get_or s f.next 0) (form_of (get_or s f.next 0) f.next) refl a b c e g
    where
      no-filling : (m : ℕ) (k : Res Form) → form_of m f.next ≡ k → (m ≡ 0x00 → ⊥) → (m ≡ 0x03 → ⊥) → (m ≡ 0x0C → ⊥) → (m ≡ 0x06 → ⊥)
          → (m ≡ 0x0E → ⊥) → fill_form s ds (fill_at s ds (d - 1)) f k ≡ f
      no-filling m (ok an_empty) q a b c e g = absurd (a (form-map m f.next q))
      no-filling m (ok an_assign) q a b c e g = absurd (b (form-map m f.next q))
      no-filling m (ok a_later) q a b c e g = refl
      no-filling m (ok a_sequence) q a b c e g = absurd (c (form-map m f.next q))
      no-filling m (ok an_if) q a b c e g = absurd (e (form-map m f.next q))
      no-filling m (ok an_if_else) q a b c e g = absurd (g (form-map m f.next q))
      no-filling m (ok a_while) q a b c e g = refl
      no-filling m (ok a_forever) q a b c e g = refl
      no-filling m (ok a_wait) q a b c e g = refl
      no-filling m (no u v) q a b c e g = refl

-- ---- the forms, from what the code's calls give

module _ (s ds : List ℕ) (inner : Filling → Filling) (at n : ℕ) {code : List ℕ} where
  pub in-turn-path : {a b : Filled} {c d : List ℕ} → filled a c ≡ inner (filling at n code) → filled b d ≡ inner (filled a c)
      → filled b d ≡ fill_in_turn s ds inner (filling at n code)
  unfolding fill_in_turn
  in-turn-path x y = y ∙ ap inner x

  -- The body behind a condition.
  inside-path : {inside m : ℕ} {a : Filled} {c : List ℕ} → inside ≡ skip_at 16 s ds at → m ≡ after n → filled a c ≡ inner (filling inside m code)
      → filled a c ≡ fill_inside s ds inner (filling at n code)
  unfolding fill_inside
  inside-path p q x = x ∙ λ i. inner (filling (p i) (q i) code)

  pub if-path : {inside m : ℕ} {a : Filled} {c d : List ℕ} → inside ≡ skip_at 16 s ds at → m ≡ after n
      → filled a c ≡ inner (filling inside m code) → d ≡ store n ifnot_kind at a.place c → filled a d ≡ fill_if s ds inner (filling at n code)
  unfolding fill_if
  if-path {a = a} p q x y =
      let z = inside-path p q x in
      ap (filled a) y ∙ λ i. filling (z i).next (z i).place (store n ifnot_kind at (z i).place (z i).code)

  pub if-else-path : {inside m k : ℕ} {a b : Filled} {c d u v : List ℕ} → inside ≡ skip_at 16 s ds at → m ≡ after n
      → filled a c ≡ inner (filling inside m code) → k ≡ after a.place → filled b d ≡ inner (filling a.next k c)
      → u ≡ store a.place go_kind 0 b.place d → v ≡ store n ifnot_kind at k u
      → filled b v ≡ fill_if_else s ds inner (filling at n code)
  unfolding fill_if_else
  if-else-path {k = k} {a = a} {b = b} {d = d} p q x e y g h =
      let z = inside-path p q x in
      let w = y ∙ λ i. inner (filling (z i).next ((e ∙ λ j. after (z j).place) i) (z i).code) in
      let r = e ∙ λ j. after (z j).place in
      ap (filled b) (h ∙ ap (store n ifnot_kind at k) g)
      ∙ λ i. filling (w i).next (w i).place (store n ifnot_kind at (r i) (store (z i).place go_kind 0 (w i).place (w i).code))
