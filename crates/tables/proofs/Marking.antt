-- The walk over an expression that was read marks its wire at the variables that stand in it, and changes no other mark.
-- Assumes nothing.
use mathlib.Core.Path.{◌≡◌, refl, sym, ap, ◌∙◌}
use mathlib.Core.Bool.{Bool, true, false, ◌||◌, or-true, or-false, or_assoc}
use mathlib.Core.List.{List}
use Prim.Native.Nat.{ℕ, zero, suc, ◌+◌, ◌≤◌, ◌<◌}
use native.Mathlib.Nat.{not-suc-le-zero, le_refl}
use native.Mathlib.Omega.{arith}
use borrow.Author.Tests.{eqb-true, eqb-false}
use lib.Dec.{eqb}
use lib.ListN.{length, get_or, set, length-set, replicate}
use lib.Seq.{get_or-set_same, get_or-set_other}
use Rattle.values.specs.Values.{pick}
use Rattle.sheet.specs.Expression.{Expr, Scope, Parsed, Passed}
use Rattle.sheet.proofs.Expression.{Reads, a-variable, a-constant, an-unknown, a-unary, a-binary, a-conditional, a-call, ReadsAll, no_arguments, an-argument}
use Rattle.evaluation.specs.Evaluation.{reads, reads_all}
use Rattle.pseudocode.proofs.Skipping.{Counted}
use Rattle.masks.specs.Masks.{bits, mask}
use Rattle.masks.proofs.Masks.{length-bits, bits-mask, any_none, any-bits}
use Rattle.tables.specs.Readers.{Marking, mark_variable, mark_binary, mark_conditional, mark_arguments, mark_node, mark_at, readers_below}
use Rattle.tables.proofs.Readers.{mark_variable-in}

-- ---- bit: is wire j marked at variable v?

abbrev pub bit : List ℕ → ℕ → ℕ → Bool
bit rs v j = get_or (bits (get_or rs v 0)) j false

-- ---- Marks: wire k is marked at the variables of f as well, and every other mark is as it was

pub record Marks (k : ℕ) (rs ss : List ℕ) (f : ℕ → Bool) : Type 0 where
  pub long : length ss ≡ 80
  pub own : (v : ℕ) → v < 80 → bit ss v k ≡ (bit rs v k || f v)
  pub others : (v j : ℕ) → (j ≡ k → ⊥) → bit ss v j ≡ bit rs v j

pub marks-none : (k : ℕ) (rs : List ℕ) → length rs ≡ 80 → Marks k rs rs (λ v. false)
marks-none k rs long = record { long = long; own = λ v l. sym (or-false (bit rs v k)); others = λ v j n. refl }

pub marks_then : {k : ℕ} {rs ss us : List ℕ} {f g : ℕ → Bool} → Marks k rs ss f → Marks k ss us g → Marks k rs us (λ v. f v || g v)
marks_then {k} {rs} {f = f} {g = g} a b =
    record {
      long = b.long;
      own = λ v l. b.own v l ∙ ap (λ (x : Bool). x || g v) (a.own v l) ∙ or_assoc (bit rs v k) (f v) (g v);
      others = λ v j n. b.others v j n ∙ a.others v j n;
    }

-- ---- one variable

module _ (k u : ℕ) (rs : List ℕ) where
  -- u's marks, with wire k's.
  abbrev more : List Bool
  more = set (bits (get_or rs u 0)) k true

  module _ (hk : k < 32) (hu : u < 80) (long : length rs ≡ 80) where
    stored : (v : ℕ) → bits (get_or (set rs u (mask more)) v 0) ≡ pick (eqb u v) more (bits (get_or rs v 0))
    stored v = by (eqb u v) refl
      where
        by : (t : Bool) → eqb u v ≡ t → bits (get_or (set rs u (mask more)) v 0) ≡ pick t more (bits (get_or rs v 0))
        by true e =
            ap (λ (x : ℕ). bits (get_or (set rs u (mask more)) x 0)) (sym (eqb-true u v e))
            ∙ ap bits (get_or-set_same rs u (mask more) 0 (omega arith))
            ∙ bits-mask more (length-set (bits (get_or rs u 0)) k true ∙ length-bits (get_or rs u 0))
        by false e = ap bits (get_or-set_other rs u v (mask more) 0 (λ q. eqb-false u v e (sym q)))

    stored-own : (v : ℕ) → bit (set rs u (mask more)) v k ≡ (bit rs v k || eqb u v)
    stored-own v = ap (λ (bs : List Bool). get_or bs k false) (stored v) ∙ by (eqb u v)
      where
        by : (t : Bool) → get_or (pick t more (bits (get_or rs v 0))) k false ≡ (bit rs v k || t)
        by true =
            get_or-set_same (bits (get_or rs u 0)) k true false (omega (arith, length-bits (get_or rs u 0))) ∙ sym (or-true (bit rs v k))
        by false = sym (or-false (bit rs v k))

    stored-others : (v j : ℕ) → (j ≡ k → ⊥) → bit (set rs u (mask more)) v j ≡ bit rs v j
    stored-others v j n = ap (λ (bs : List Bool). get_or bs j false) (stored v) ∙ by (eqb u v) refl
      where
        by : (t : Bool) → eqb u v ≡ t → get_or (pick t more (bits (get_or rs v 0))) j false ≡ bit rs v j
        by true e = get_or-set_other (bits (get_or rs u 0)) k j true false n ∙ ap (λ (x : ℕ). bit rs x j) (eqb-true u v e)
        by false e = refl

    pub marks-variable : Marks k rs (mark_variable k u rs) (eqb u)
    marks-variable =
        rw (mark_variable-in k u rs hu)
        (record { long = length-set rs u (mask more) ∙ long; own = λ v l. stored-own v; others = stored-others })

-- ---- the walk

pub record Walked (k : ℕ) (rs : List ℕ) (x : Marking) (q : Parsed Expr) : Type 0 where
  pub next : x.next ≡ q.next
  pub marks : Marks k rs x.readers (reads q.item)

pub record WalkedAll (k : ℕ) (rs : List ℕ) (x : Marking) (es : Passed) : Type 0 where
  pub next : x.next ≡ es.next
  pub marks : Marks k rs x.readers (reads_all es.items)

module _ (c : Scope) (s ds : List ℕ) (counted : Counted s ds c.functions) (few : length c.widths ≤ 80) (k : ℕ) (hk : k < 32) where
  -- A call's arguments, where the walk over each of them marks what it reads.
  walk-all : {d : ℕ} → ((p : ℕ) (q : Parsed Expr) → Reads c s d p q → (rs : List ℕ) → length rs ≡ 80 → Walked k rs (mark_at d s ds k p rs) q)
      → {n p : ℕ} {es : Passed} → ReadsAll c s d n p es → (rs : List ℕ) → length rs ≡ 80 → WalkedAll k rs (mark_arguments (mark_at d s ds k) n p rs) es
  unfolding mark_arguments reads_all
  walk-all inner no_arguments rs long = record { next = refl; marks = marks-none k rs long }
  walk-all {d} inner (an-argument {p = p} {e = e} a es) rs long =
      let x = inner p e a rs long in
      let y = walk-all inner es (mark_at d s ds k p rs).readers x.marks.long in
      rw x.next (record { next = y.next; marks = marks_then x.marks y.marks })

  -- By the depth.
  walks : (d : ℕ) {p : ℕ} {q : Parsed Expr} → Reads c s d p q → (rs : List ℕ) → length rs ≡ 80 → Walked k rs (mark_at d s ds k p rs) q
  unfolding mark_at mark_node mark_binary mark_conditional reads
  walks zero {p = p} {q = q} x'' rs long = elim x'' [ ]
  walks (suc d) (a-variable {v = v} m h e l) rs long =
      rw (m, e) (record { next = refl; marks = marks-variable k v rs hk (omega arith) long })
  walks (suc d) (a-constant m w h e l) rs long = rw m (record { next = refl; marks = marks-none k rs long })
  walks (suc d) (an-unknown m w) rs long = rw m (record { next = refl; marks = marks-none k rs long })
  walks (suc d) (a-unary m o a) rs long = let x = walks d a rs long in rw m (record { next = x.next; marks = x.marks })
  walks (suc d) {p} (a-binary m o a b e) rs long =
      let x = walks d a rs long in
      let y = walks d b (mark_at d s ds k (p + 2) rs).readers x.marks.long in
      rw (m, x.next) (record { next = y.next; marks = marks_then x.marks y.marks })
  walks (suc d) {p} (a-conditional {q = q} m o t a b e) rs long =
      let ss = (mark_at d s ds k (p + 2) rs).readers in
      let x = walks d t rs long in
      let y = walks d a ss x.marks.long in
      let z = walks d b (mark_at d s ds k q.next ss).readers y.marks.long in
      rw (m, x.next, y.next) (record { next = z.next; marks = marks_then (marks_then x.marks y.marks) z.marks })
  walks (suc d) {p} (a-call {n = n} m h e l f es w) rs long =
      let x = walk-all (λ i q r. walks d r) es rs long in
      rw (m, e, counted n f) (record { next = x.next; marks = x.marks })

  pub walk : {d p : ℕ} {q : Parsed Expr} → Reads c s d p q → (rs : List ℕ) → length rs ≡ 80 → Walked k rs (mark_at d s ds k p rs) q
  walk {d = d} r = walks d r

-- ---- the wires below n

-- An expression that was read at p, with its tree.
abbrev pub ReadAt : Scope → List ℕ → Expr → ℕ → Type 0
ReadAt c s e p = (q : Parsed Expr) × Reads c s 16 p q × (q.item ≡ e)

-- A table of zeros has no mark.
pub zeros : (n v : ℕ) → ◌≡◌ {A = ℕ} (get_or (replicate n 0) v 0) 0
zeros zero v = refl
zeros (suc n) zero = refl
zeros (suc n) (suc v) = zeros n v

-- f says which marks each of the numbers below n sets.
module _ (f : ℕ → ℕ → Bool) where
  -- The table holds the marks of the numbers below n, and no other.
  pub record Below (n : ℕ) (rs : List ℕ) : Type 0 where
    pub long : length rs ≡ 80
    pub own : (v j : ℕ) → v < 80 → j < n → bit rs v j ≡ f j v
    pub none : (v j : ℕ) → n ≤ j → bit rs v j ≡ false

  pub below_none : Below 0 (replicate 80 0)
  below_none =
      record {
        long = refl;
        own = λ v j l m. absurd (not-suc-le-zero m);
        none = λ v j l. ap (λ (x : ℕ). get_or (bits x) j false) (zeros 80 v) ∙ any_none (bits 0) (any-bits 0 (omega arith)) j;
      }

  pub below_more : (n : ℕ) {rs ss : List ℕ} → Below n rs → Marks n rs ss (f n) → Below (suc n) ss
  below_more n {rs} {ss} b x =
      record {
        long = x.long;
        own = λ v j l m. by v j l m (eqb j n) refl;
        none = λ v j l. x.others v j (λ e. omega arith) ∙ b.none v j (omega arith);
      }
    where
      by : (v j : ℕ) → v < 80 → j < suc n → (t : Bool) → eqb j n ≡ t → bit ss v j ≡ f j v
      by v j l m true e =
          let q = eqb-true j n e in
          ap (bit ss v) q
          ∙ x.own v l
          ∙ ap (λ (y : Bool). y || f n v) (b.none v n (le_refl n))
          ∙ ap (λ (i : ℕ). f i v) (sym q)
      by v j l m false e = let q = eqb-false j n e in x.others v j q ∙ b.own v j l (omega arith)

-- The readers of the wires below n.
pub below : (wire : ℕ → Expr) (c : Scope) (s ds starts : List ℕ) (count : ℕ) → Counted s ds c.functions → length c.widths ≤ 80 → count ≤ 32
    → ((j : ℕ) → j < count → ReadAt c s (wire j) (get_or starts j 0)) → (n : ℕ) → n ≤ count
    → Below (λ j. reads (wire j)) n (readers_below s ds starts n (replicate 80 0))
unfolding readers_below
below wire c s ds starts count counted few most at zero h = below_none (λ j. reads (wire j))
below wire c s ds starts count counted few most at (suc n) h =
    let b = below wire c s ds starts count counted few most at n (omega arith) in
    let q = at n h in
    let x = walk c s ds counted few n (omega arith) q.1 (readers_below s ds starts n (replicate 80 0)) b.long in
    below_more (λ j. reads (wire j)) n b (rw q.2 at x.marks)
