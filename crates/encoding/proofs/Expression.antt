-- An expression is read from p to q exactly when it is well typed and its encoding stands there.
-- Assumes nothing.
use mathlib.Core.Path.{◌≡◌, refl, ◌∙◌}
use Prim.Native.Nat.{ℕ, zero, suc, ◌+◌, ◌^◌, ◌≤◌, ◌<◌}
use native.Mathlib.Omega.{arith}
use native.Mathlib.Nat.{le_trans}
use mathlib.Core.List.{List, [], ◌∷◌, ◌++◌}
use mathlib.Core.Bool.{true, false≢true, and-eq-true_iff}
use lib.ListN.{length, get_or}
use lib.Dec.{eqb}
use lib.Pow.{pow_mono}
use borrow.Author.Tests.{eq-eqb, eqb-true}
use Rattle.sheet.specs.Reading.{ok}
use Rattle.sheet.specs.Expression.{Expr, variable, constant, unknown, unary, binary, conditional, call, Scope, Arguments, no_more, argument, Parsed, Passed, same_widths, tree}
use Rattle.sheet.proofs.Reading.{Within}
use Rattle.sheet.proofs.Expression.{Reads, a-variable, a-constant, an-unknown, a-unary, a-binary, a-conditional, a-call, ReadsAll, no_arguments, an-argument, derive, accept}
use Rattle.encoding.specs.Encoding.{Bytes, encode_word, encode_expr, encode_all}
use Rattle.encoding.specs.WellFormed.{WellTyped, AllTyped, HasWidth}
use Rattle.encoding.proofs.Spelling.{Spells, spells-nil, spells-two, spells-heads, spells-append, spells-split, word-spells, spells-word}

-- ---- same_widths

same_self : (ws : List ℕ) → same_widths ws ws ≡ true
unfolding same_widths
same_self [] = refl
same_self (w ∷ ws) = rw (eq-eqb w w refl, same_self ws) refl

-- ---- read, therefore well typed and encoded there

module _ {c : Scope} {s : List ℕ} {d : ℕ} where
  all_typed : ((p : ℕ) (q : Parsed Expr) → Reads c s d p q → WellTyped c d q.item q.width)
      → {n p : ℕ} {es : Passed} → ReadsAll c s d n p es → (ws : List ℕ) → same_widths ws es.widths ≡ true → AllTyped (WellTyped c d) ws es.items
  unfolding AllTyped same_widths
  all_typed inner no_arguments [] h = tt
  all_typed inner no_arguments (w ∷ ws) h = absurd (false≢true h)
  all_typed inner (an-argument x es) [] h = absurd (false≢true h)
  all_typed inner (an-argument {e = e} x es) (w ∷ ws) h =
      let y = (and-eq-true_iff (eqb w e.width) (same_widths ws _)).0 h in
      (rw (eqb-true w e.width y.0) (inner _ e x), all_typed inner es ws y.1)

  all-spells : ((p : ℕ) (q : Parsed Expr) → Reads c s d p q → Spells s p (encode_expr q.item) q.next)
      → {n p : ℕ} {es : Passed} → p ≤ length s → ReadsAll c s d n p es → Spells s p (encode_all es.items) es.next
  unfolding encode_all
  all-spells inner l no_arguments = spells-nil l
  all-spells inner l (an-argument {e = e} x es) = let y = inner _ e x in spells-append y (all-spells inner y.below es)

-- By the depth.
typed : {c : Scope} {s : List ℕ} (d : ℕ) {p : ℕ} {q : Parsed Expr} → Reads c s d p q → WellTyped c d q.item q.width
unfolding WellTyped
typed {c = c} {s = s} zero {p = p} {q = q} x' = elim x' [ ]
typed (suc d) (a-variable m h e l) = (l, refl)
typed (suc d) (a-constant m w h e l) = ((w.least, w.most), l, refl)
typed (suc d) (an-unknown m w) = ((w.least, w.most), refl)
typed (suc d) (a-unary m o a) = ((o.least, o.most), typed d a, refl)
typed (suc d) (a-binary m o a b e) = ((o.least, o.most), typed d a, rw e (typed d b), refl)
typed (suc d) (a-conditional m o q a b e) = ((_, typed d q), typed d a, rw e (typed d b))
typed (suc d) (a-call m h e l f es w) = (l, f, refl, refl, all_typed (λ p q r. typed d r) es _ w, refl)

pub reads-typed : {c : Scope} {s : List ℕ} {d p : ℕ} {q : Parsed Expr} → Reads c s d p q → WellTyped c d q.item q.width
reads-typed {d = d} r = typed d r

spelled : {c : Scope} {s : List ℕ} (d : ℕ) {p : ℕ} {q : Parsed Expr} → Bytes s → Reads c s d p q → Spells s p (encode_expr q.item) q.next
unfolding encode_expr
spelled {c = c} {s = s} zero {p = p} {q = q} bs x'' = elim x'' [ ]
spelled (suc d) bs (a-variable m h e l) = spells-two h m e (spells-nil (omega arith))
spelled {s = s} (suc d) {p = p} bs (a-constant m w h e l) =
    let t : p + 2 + 4 ≡ p + 6 = omega arith in
    spells-two w.below m w.same (rw (← e, ← t) (word-spells bs (omega arith)))
spelled (suc d) bs (an-unknown m w) = spells-two w.below m w.same (spells-nil (omega arith))
spelled (suc d) bs (a-unary m o a) = spells-two o.below m o.same (spelled d bs a)
spelled (suc d) bs (a-binary m o a b e) = spells-two o.below m o.same (spells-append (spelled d bs a) (spelled d bs b))
spelled (suc d) bs (a-conditional {o = n} m o q a b e) =
    let ten : n ≡ 10 = omega arith in
    spells-two o.below m (o.same ∙ ten) (spells-append (spells-append (spelled d bs q) (spelled d bs a)) (spelled d bs b))
spelled (suc d) bs (a-call m h e l f es w) = spells-two h m e (all-spells (λ p q r. spelled d bs r) (omega arith) es)

pub reads-spells : {c : Scope} {s : List ℕ} {d p : ℕ} {q : Parsed Expr} → Bytes s → Reads c s d p q → Spells s p (encode_expr q.item) q.next
reads-spells {d = d} bs r = spelled d bs r

-- ---- well typed and encoded there, therefore read

pub within_of : {s : List ℕ} {at low high b : ℕ} → at < length s → get_or s at 0 ≡ b → low ≤ b → b ≤ high → Within low high at b s
within_of h e l m = record { below = h; least = l; most = m; same = e }

all-reads : {c : Scope} {s : List ℕ} {d : ℕ}
    → ((p q w : ℕ) (e : Expr) → WellTyped c d e w → Spells s p (encode_expr e) q → Reads c s d p (record { item = e; width = w; next = q }))
    → (ws : List ℕ) (ys : Arguments) {p q : ℕ} → AllTyped (WellTyped c d) ws ys → Spells s p (encode_all ys) q
    → ReadsAll c s d (length ws) p (record { items = ys; widths = ws; next = q })
unfolding AllTyped encode_all
all-reads inner [] no_more {p} {q} t r = let e : q ≡ p = omega (arith, r.ends) in rw e no_arguments
all-reads inner [] (argument e ys) t r = absurd t
all-reads inner (w ∷ ws) no_more t r = absurd t
all-reads inner (w ∷ ws) (argument e ys) t r =
    let x = spells-split (encode_expr e) (encode_all ys) r in
    an-argument (inner _ _ w e t.0 x.0) (all-reads inner ws ys t.1 x.1)

at_reads : {c : Scope} {s : List ℕ} (d : ℕ) {p q w : ℕ} (e : Expr) → WellTyped c d e w → Spells s p (encode_expr e) q
    → Reads c s d p (record { item = e; width = w; next = q })
unfolding WellTyped encode_expr encode_word
at_reads zero e t r = absurd t
at_reads (suc d) (variable v) t r =
    let h = spells-heads r in
    rw (t.1, r.ends) (a-variable h.1 h.0 h.2 t.0)
at_reads (suc d) {p = p} (constant k v) t r =
    let h = spells-heads r in
    let small : v < 2 ^ 32 = le_trans t.1 (pow_mono t.0.1) in
    let x = spells-word small h.3 in
    let l = x.1 in
    rw (t.2, r.ends) (a-constant h.1 (within_of h.0 h.2 t.0.0 t.0.1) (omega arith) x.2 t.1)
at_reads (suc d) (unknown k) t r =
    let h = spells-heads r in
    rw (t.1, r.ends) (an-unknown h.1 (within_of h.0 h.2 t.0.0 t.0.1))
at_reads (suc d) (unary o k a) t r =
    let h = spells-heads r in
    rw t.2 (a-unary h.1 (within_of h.0 h.2 t.0.0 t.0.1) (at_reads d a t.1 h.3))
at_reads (suc d) (binary o k a b) t r =
    let h = spells-heads r in
    let x = spells-split (encode_expr a) (encode_expr b) h.3 in
    rw t.3
    (a-binary h.1 (within_of h.0 h.2 t.0.0 t.0.1)
    (at_reads d a t.1 x.0)
    (at_reads d b t.2 x.1)
    refl)
at_reads (suc d) (conditional y a b) t r =
    let h = spells-heads r in
    let z = spells-split (encode_expr y ++ encode_expr a) (encode_expr b) h.3 in
    let x = spells-split (encode_expr y) (encode_expr a) z.0 in
    a-conditional h.1 (within_of h.0 h.2 (omega arith) (omega arith))
    (at_reads d y t.0.1 x.0)
    (at_reads d a t.1 x.1)
    (at_reads d b t.2 z.1)
    refl
at_reads (suc d) (call n k ys b) t r =
    let h = spells-heads r in
    rw (t.5, t.2, t.3)
    (a-call h.1 h.0 h.2 t.0 t.1 (all-reads (λ p q w e x y. at_reads d e x y) _ ys t.4 h.3) (same_self _))

pub spells-reads : {c : Scope} {s : List ℕ} {d p q w : ℕ} (e : Expr) → WellTyped c d e w → Spells s p (encode_expr e) q
    → Reads c s d p (record { item = e; width = w; next = q })
spells-reads {d = d} e t r = at_reads d e t r

-- ---- tree

pub tree-typed : (c : Scope) (s : List ℕ) (p : ℕ) {q : Parsed Expr} → tree s c p ≡ ok q → HasWidth c q.item q.width
unfolding tree
tree-typed c s p h = reads-typed (derive c s 16 p h)

pub tree-spells : (c : Scope) (s : List ℕ) (p : ℕ) {q : Parsed Expr} → Bytes s → tree s c p ≡ ok q → Spells s p (encode_expr q.item) q.next
unfolding tree
tree-spells c s p bs h = reads-spells bs (derive c s 16 p h)

pub spells-tree : (c : Scope) {s : List ℕ} {p q w : ℕ} (e : Expr) → HasWidth c e w → Spells s p (encode_expr e) q
    → tree s c p ≡ ok (record { item = e; width = w; next = q })
unfolding tree
spells-tree c e t r = accept (spells-reads e t r)
