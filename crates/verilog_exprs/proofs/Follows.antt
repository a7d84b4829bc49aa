-- Laws of following: a reader of the table behind another, as the grammar's readers are bound.
-- Assumes nothing.
use mathlib.Core.Path.{◌≡◌, refl, sym, ap, ◌∙◌}
use mathlib.Core.Bool.{Bool, true, false}
use mathlib.Core.List.{List, [], ◌∷◌, ◌++◌, map}
use Prim.Native.Nat.{ℕ, zero, suc, ◌+◌, ◌≤◌, ◌<◌}
use native.Mathlib.Omega.{arith}
use lib.Dec.{eqb}
use lib.ListN.{length, drop, get_or}
use lib.Seq.{drop-drop}
use borrow.Author.Tests.{lt-ltb}
use Rattle.values.specs.Values.{pick}
use Rattle.verilog_tokens.specs.Tokens.{Token}
use Rattle.verilog_tokens.specs.Table.{kind_of, number_in}
use Rattle.verilog_grammar.specs.Reader.{Res, ok, no, Reader, bind, give, starts, if_next, expect}
use Rattle.verilog_bytes.specs.Held.{Held}
use Rattle.verilog_exprs.specs.declared.Put.{Put}
use Rattle.verilog_exprs.specs.Rows.{row_at, Wrote, wrote, Step, refused, and_then, is_at, expected}
use Rattle.verilog_exprs.specs.Following.{Tabled, From, Follows}
use Rattle.verilog_exprs.proofs.Table.{row_in, then-yes, then-refused, expected-no}
use Rattle.verilog_exprs.proofs.Marks.{Numbered, starts_is, kind_front}

-- ---- places

-- The place behind a first token.
pub from_next : (ts : List Token) (i : ℕ) (t : Token) (us : List Token) → From ts i (t ∷ us) → From ts (i + 1) us
from_next ts i t us f = record {
  rest = sym (drop-drop 1 i ts) ∙ ap (λ x. drop 1 x) f.rest;
  count = omega (arith, f.count);
}

-- A table's row at a place, from the rows of the tokens.
get_d_front : {A : Type 0} (g : A → ℕ) (ts : List A) (z : ℕ) (o : List ℕ) (i : ℕ) (t : A) (us : List A) → drop i ts ≡ t ∷ us
    → get_or (map g ts ++ o) i z ≡ g t
get_d_front g [] z o zero t us e = cc
get_d_front g [] z o (suc i) t us e = cc
get_d_front g (x ∷ ts) z o zero t us e = cc
get_d_front g (x ∷ ts) z o (suc i) t us e = get_d_front g ts z o i t us e

get_d-behind : {A : Type 0} (g : A → ℕ) (ts : List A) (z c : ℕ) (o : List ℕ) (i : ℕ) → i ≡ length ts → get_or (map g ts ++ c ∷ o) i z ≡ c
get_d-behind g [] z c o zero e = refl
get_d-behind g [] z c o (suc i) e = absurd (omega arith)
get_d-behind g (x ∷ ts) z c o zero e = absurd (omega arith)
get_d-behind g (x ∷ ts) z c o (suc i) e = get_d-behind g ts z c o i (omega arith)

module _ (index : List ℕ → ℕ) (ts : List Token) (kinds numbers : List ℕ) (tab : Tabled index ts kinds numbers) where
  from-inside : (i : ℕ) (us : List Token) → From ts i us → i < 16385
  from-inside i us f = omega (arith, f.count, tab.few)

  kind-raw : (i : ℕ) (us : List Token) → From ts i us → get_or kinds i 0 ≡ kind_front us
  unfolding kind_front
  kind-raw i [] f =
      ap (λ x. get_or x i 0) tab.kinds_are ∙ get_d-behind kind_of ts 0 0 tab.other_kinds i (omega (arith, f.count))
  kind-raw i (t ∷ us) f = ap (λ x. get_or x i 0) tab.kinds_are ∙ get_d_front kind_of ts 0 (0 ∷ tab.other_kinds) i t us f.rest

  pub kind-is : (i : ℕ) (us : List Token) → From ts i us → row_at kinds i ≡ kind_front us
  kind-is i us f = row_in kinds i (from-inside i us f) ∙ kind-raw i us f

  pub number_is : (i : ℕ) (t : Token) (us : List Token) → From ts i (t ∷ us) → row_at numbers i ≡ number_in index t
  number_is i t us f =
      row_in numbers i (from-inside i (t ∷ us) f) ∙ ap (λ x. get_or x i 0) tab.numbers_are
      ∙ get_d_front (number_in index) ts 0 tab.other_numbers i t us f.rest

  -- A mark in front, by the reader and by the table.
  pub mark-at : (s : List ℕ) (k : ℕ) → Numbered s k → 1 ≤ k → (i : ℕ) (us : List Token) → From ts i us → eqb (row_at kinds i) k ≡ starts s us
  mark-at s k m h i us f = ap (λ x. eqb x k) (kind-is i us f) ∙ sym (starts_is s k m h us)

  mark-raw : (s : List ℕ) (k : ℕ) → Numbered s k → 1 ≤ k → (i : ℕ) (us : List Token) → From ts i us → is_at kinds k i ≡ starts s us
  unfolding is_at
  mark-raw s k m h i us f =
      rw (lt-ltb i 16385 (from-inside i us f), kind-raw i us f) (sym (starts_is s k m h us))

-- ---- expect

pub starts_none : (s : List ℕ) → starts s [] ≡ true → ⊥
unfolding starts
starts_none s h = let o : ◌≡◌ {A = ℕ} 0 1 = cc in omega arith

-- What `starts` saw is there.
pub expect-first : (s : List ℕ) (t : Token) (us : List Token) → starts s (t ∷ us) ≡ true → expect s (t ∷ us) ≡ ok tt us
unfolding starts expect
expect-first s t us h = rw h refl

pub expect-other : (s : List ℕ) (us : List Token) → starts s us ≡ false → expect s us ≡ no (length us)
unfolding starts expect
expect-other s [] h = refl
expect-other s (t ∷ us) h = rw h refl

-- ---- Follows

module _ (ts : List Token) where
  -- One reader behind another.
  pub bind-follows : {A B : Type 0} (l m : List ℕ) (bytes_a : A → List ℕ) (bytes_b : B → List ℕ) (w : Wrote) (r : Res A) (g : Step)
      (f : A → Reader B) → Follows ts l bytes_a w r
      → ((a : A) (us : List Token) (j q : ℕ) (cs : List ℕ) → From ts j us → Held cs q (l ++ bytes_a a) → Follows ts m bytes_b (g j q cs)
      (f a us))
      → Follows ts m bytes_b (and_then w g) (bind r f)
  unfolding Follows
  bind-follows l m bytes_a bytes_b w (ok a us) g f h k =
      rw (then-yes w.put w.bytes g h.yes) (k a us w.put.next w.put.pos w.bytes h.to h.holds)
  bind-follows l m bytes_a bytes_b w (no n) g f h k = rw (then-refused w g h.not) (record { not = refl; at = h.at })

  -- What was read, as part of something else; the buffer's list is bracketed anew.
  pub map-follows : {A B : Type 0} (l m : List ℕ) (bytes_a : A → List ℕ) (bytes_b : B → List ℕ) (w : Wrote) (r : Res A) (x : A → B)
      → Follows ts l bytes_a w r → ((a : A) → l ++ bytes_a a ≡ m ++ bytes_b (x a)) → Follows ts m bytes_b w (bind r (λ a. give (x a)))
  unfolding Follows
  map-follows l m bytes_a bytes_b w (ok a us) x h e = record { yes = h.yes; to = h.to; holds = rw e at h.holds }
  map-follows l m bytes_a bytes_b w (no n) x h e = h

  -- A refusal where the reader stands.
  pub refused-follows : {B : Type 0} (m : List ℕ) (bytes_b : B → List ℕ) (i p : ℕ) (bs : List ℕ) (us : List Token) → From ts i us
      → Follows ts m bytes_b (refused i p bs) (no (length us))
  unfolding Follows
  refused-follows m bytes_b i p bs us f = record { not = refl; at = f.count }

-- ---- a mark behind what was read

module _ (index : List ℕ → ℕ) (ts : List Token) (kinds numbers : List ℕ) (tab : Tabled index ts kinds numbers) (s : List ℕ) (k : ℕ)
    (mark : Numbered s k) (one : 1 ≤ k) where
  -- Which of two readers, by the mark in front.
  pub next-follows : {B : Type 0} (m : List ℕ) (bytes_b : B → List ℕ) (x y : Step) (a b : Reader B) (i p : ℕ) (bs : List ℕ) (us : List Token)
      → From ts i us → (starts s us ≡ true → Follows ts m bytes_b (x i p bs) (a us)) →
      (starts s us ≡ false → Follows ts m bytes_b (y i p bs) (b us))
      → Follows ts m bytes_b (pick (eqb (row_at kinds i) k) x y i p bs) (if_next s a b us)
  unfolding if_next
  next-follows m bytes_b x y a b i p bs us f g h = rw (mark-at index ts kinds numbers tab s k mark one i us f) (by (starts s us) g h)
    where
      by : (t : Bool) → (t ≡ true → Follows ts m bytes_b (x i p bs) (a us)) → (t ≡ false → Follows ts m bytes_b (y i p bs) (b us))
          → Follows ts m bytes_b (pick t x y i p bs) (pick t a b us)
      by true u v = u refl
      by false u v = v refl

  closed_at : {B : Type 0} (m : List ℕ) (bytes_b : B → List ℕ) (a : Put) (cs : List ℕ) (us : List Token) (y : B) → a.ok ≡ true
      → From ts a.next us → Held cs a.pos (m ++ bytes_b y)
      → Follows ts m bytes_b (wrote (expected kinds k a) cs) (bind (expect s us) (λ u. give y))
  unfolding Follows expected
  closed_at m bytes_b a cs us y e f h = by us f (starts s us) refl
    where
      by : (vs : List Token) → From ts a.next vs → (b : Bool) → starts s vs ≡ b
          → Follows ts m bytes_b (wrote (expected kinds k a) cs) (bind (expect s vs) (λ u. give y))
      by vs g false q =
          rw (expect-other s vs q, e, mark-raw index ts kinds numbers tab s k mark one a.next vs g, q)
          (record { not = refl; at = g.count })
      by [] g true q = absurd (starts_none s q)
      by (t ∷ vs) g true q =
          rw (expect-first s t vs q, e, mark-raw index ts kinds numbers tab s k mark one a.next (t ∷ vs) g, q)
          (record { yes = refl; to = from_next ts a.next t vs g; holds = h })

  pub closed-follows : {A B : Type 0} (l m : List ℕ) (bytes_a : A → List ℕ) (bytes_b : B → List ℕ) (w : Wrote) (r : Res A) (x : A → B)
      → Follows ts l bytes_a w r → ((a : A) → l ++ bytes_a a ≡ m ++ bytes_b (x a))
      → Follows ts m bytes_b (wrote (expected kinds k w.put) w.bytes) (bind r (λ a us. bind (expect s us) (λ u. give (x a))))
  unfolding Follows
  closed-follows l m bytes_a bytes_b w (ok a us) x h e =
      closed_at m bytes_b w.put w.bytes us (x a) h.yes h.to (rw e at h.holds)
  closed-follows l m bytes_a bytes_b w (no n) x h e = rw (expected-no kinds k w.put h.not) (record { not = refl; at = h.at })

-- A mark read with what stands in front of it, or with what follows.
pub rebind : {A C : Type 0} (r : Res A) (s : List ℕ) (g : A → Reader C)
    → bind (bind r (λ a us. bind (expect s us) (λ u. give a))) g ≡ bind r (λ a us. bind (expect s us) (λ u. g a))
rebind (ok a us) s g = by (expect s us)
  where
    by : (e : Res (Unit {0})) → bind (bind e (λ u. give a)) g ≡ bind e (λ u. g a)
    by (ok u vs) = refl
    by (no n) = refl
rebind (no n) s g = refl
