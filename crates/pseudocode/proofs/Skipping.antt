-- Laws of skipping an expression: one node, how many arguments a call has, and that skipping ends where the reader ends.
use mathlib.Core.Path.{◌≡◌, refl, sym, ap, ◌∙◌}
use Prim.Native.Nat.{ℕ, zero, suc, ◌+◌, ◌-◌, ◌≤◌, ◌<◌, min}
use native.Mathlib.Omega.{arith}
use native.Mathlib.Numerals.{sub-one}
use mathlib.Core.Bool.{Bool, true, false}
use mathlib.Core.List.{List, [], ◌∷◌, ◌++◌}
use mathlib.Core.Logic.{◌⊎◌, inl, inr}
use lib.ListN.{length, get_or, set, length-append, length-set, get_or-append}
use lib.Seq.{sets, get_or_at, get_or-set_same, get_or-set_other, length-take-le}
use lib.Dec.{ltb, leb}
use borrow.Author.Tests.{lt-ltb, le-ltb, ltb-true, ltb-false, le-leb, lt-leb, leb-true, leb-false}
use Rattle.values.specs.Values.{pick}
use Rattle.sheet.specs.Reading.{Res, ok, no, within}
use Rattle.sheet.specs.Expression.{Expr, Function, no_function, Scope, Parsed, Passed, Kind, a_variable, a_constant, an_unknown, a_unary, a_binary, a_conditional, a_call, kind_of, read_expr, tree, located}
use Rattle.sheet.specs.Functions.{read_widths, read_body, body_scope, function_of, Made, read_function, Defined, read_functions}
use Rattle.sheet.specs.Parts.{least}
use Rattle.sheet.proofs.Reading.{bind_ok, ok-injective, within-ok}
use Rattle.sheet.proofs.Expression.{Reads, a-variable, a-constant, an-unknown, a-unary, a-binary, a-conditional, a-call, ReadsAll, no_arguments, an-argument, reads-after, map_of, Allowed, map-kind, derive}
use Rattle.pseudocode.specs.Skipping.{every_map, argument_count, skip_arguments, skip_node, skip_at}

-- ---- every map is allowed

pub allowed : (k : Kind) → Allowed every_map k
unfolding Allowed
allowed a_variable = tt
allowed a_constant = tt
allowed an_unknown = tt
allowed a_unary = tt
allowed a_binary = tt
allowed a_conditional = tt
allowed a_call = omega arith

-- ---- how many arguments a call has

pub arguments-past : (s ds : List ℕ) (n : ℕ) → 8 ≤ n → argument_count s ds n ≡ 0
unfolding argument_count
arguments-past s ds n h = simp (le-ltb n 8 h)

module _ (s ds : List ℕ) (n : ℕ) (h : n < 8) where
  pub arguments-few : {c : ℕ} → c ≡ get_or s (get_or ds n 0) 0 → c ≤ 4 → argument_count s ds n ≡ c
  unfolding argument_count least
  arguments-few e l = rw (lt-ltb n 8 h, ← e, le-leb _ 4 l) refl

  pub arguments-cut : {c : ℕ} → c ≡ get_or s (get_or ds n 0) 0 → 4 < c → argument_count s ds n ≡ 4
  unfolding argument_count least
  arguments-cut e l = rw (lt-ltb n 8 h, ← e, lt-leb _ 4 l) refl

  pub arguments-least : {c : ℕ} → c ≡ get_or s (get_or ds n 0) 0 → min c 4 ≡ argument_count s ds n
  unfolding argument_count least
  arguments-least {c} e = rw (lt-ltb n 8 h, ← e) (by (leb c 4) refl)
    where
      by : (x : Bool) → leb c 4 ≡ x → min c 4 ≡ pick x c 4
      by true q = let l = leb-true c 4 q in omega arith
      by false q = let l = leb-false c 4 q in omega arith

pub arguments-most : (s ds : List ℕ) (n : ℕ) → argument_count s ds n ≤ 4
unfolding argument_count least
arguments-most s ds n = by (ltb n 8) (leb (get_or s (get_or ds n 0) 0) 4) refl
  where
    by : (x y : Bool) → leb (get_or s (get_or ds n 0) 0) 4 ≡ y → pick x (pick y (get_or s (get_or ds n 0) 0) 4) 0 ≤ 4
    by true true e = leb-true _ 4 e
    by true false e = omega arith
    by false y e = omega arith

-- ---- one node

module _ (s ds : List ℕ) (p : ℕ) where
  pub skip-none : (d : ℕ) → d ≡ 0 → skip_at d s ds p ≡ p
  unfolding skip_at
  skip-none d e = rw e refl

  pub skip-far : (d : ℕ) → 8192 ≤ p → skip_at d s ds p ≡ p
  unfolding skip_at
  skip-far zero h = refl
  skip-far (suc d) h = simp (le-ltb _ _ h)

  pub skip-stop : (d : ℕ) → (d ≡ 0) ⊎ ((d ≡ 0 → ⊥) × (8192 ≤ p)) → skip_at d s ds p ≡ p
  skip-stop d (inl e) = skip-none d e
  skip-stop d (inr e) = skip-far d e.1

  skip-node : (d : ℕ) (k : Res Kind) → (d ≡ 0 → ⊥) → p < 8192 → kind_of every_map (get_or s p 0) p ≡ k
      → skip_at d s ds p ≡ skip_node s ds (skip_at (d - 1) s ds) p k
  unfolding skip_at
  skip-node zero k n h e = absurd (n refl)
  skip-node (suc d) k n h e = simp (lt-ltb _ _ h, e, sub-one)

  pub skip-kind : (d : ℕ) (k : Kind) → (d ≡ 0 → ⊥) → p < 8192 → get_or s p 0 ≡ map_of k
      → skip_at d s ds p ≡ skip_node s ds (skip_at (d - 1) s ds) p (ok k)
  skip-kind d k n h e = skip-node d (ok k) n h (map-kind every_map (get_or s p 0) p k (allowed k) e)

  pub skip-other : (d : ℕ) → (d ≡ 0 → ⊥) → p < 8192 → kind_of every_map (get_or s p 0) p ≡ no 5 p → skip_at d s ds p ≡ p
  unfolding skip_node
  skip-other d n h e = skip-node d (no 5 p) n h e

-- ---- a call's arguments, one by one

module _ (operand : ℕ → ℕ) where
  pub arguments-none : (n p : ℕ) → n ≡ 0 → skip_arguments operand n p ≡ p
  unfolding skip_arguments
  arguments-none n p e = rw e refl

  pub arguments-next : (n p : ℕ) {q : ℕ} → (n ≡ 0 → ⊥) → q ≡ operand p → skip_arguments operand n p ≡ skip_arguments operand (n - 1) q
  unfolding skip_arguments
  arguments-next zero p h e = absurd (h refl)
  arguments-next (suc n) p h e = simp (e, sub-one)

-- ---- the functions' definitions stand at the places ds: each tells how many parameters there are

abbrev pub Counted : List ℕ → List ℕ → List Function → Type 0
Counted s ds fs = (n : ℕ) → n < length fs → argument_count s ds n ≡ length (get_or fs n no_function).parameters

pub counted_none : (s ds : List ℕ) → Counted s ds []
counted_none s ds n h = absurd (omega arith)

widths-long : (n : ℕ) (s : List ℕ) (at : ℕ) {ws : List ℕ} → read_widths n s at ≡ ok ws → length ws ≡ n
unfolding read_widths
widths-long zero s at h = ap length (sym (ok-injective h))
widths-long (suc n) s at h =
    let w = bind_ok (within 1 32 4 s at) _ h in
    let ws = bind_ok (read_widths n s (at + 1)) _ w.2 in
    ap length (sym (ok-injective ws.2)) ∙ ap suc (widths-long n s (at + 1) ws.1)

-- A function that was read has so many parameters as the first byte of its definition says.
function-counted : (declared : ℕ) (earlier : List Function) (s : List ℕ) (p : ℕ) {f : Made} → read_function declared earlier s p ≡ ok f
    → (get_or s p 0 ≤ 4) × (get_or s p 0 ≡ length f.function.parameters)
unfolding read_function function_of
function-counted declared earlier s p {f} h =
    let k = bind_ok (within 1 4 3 s p) _ h in
    let ws = bind_ok (read_widths (k.0 + 1) s (p + 1)) _ k.2 in
    let b = bind_ok (read_body 64 (body_scope declared earlier k.0 ws.0) s (p + 2 + k.0)) _ ws.2 in
    let x = within-ok 1 4 3 s p k.1 in
    let same = x.same in
    let most = x.most in
    let long = widths-long (k.0 + 1) s (p + 1) ws.1 in
    (omega arith, rw (← ok-injective b.2) (same ∙ sym (length-take-le k.0 ws.0 (omega arith))))

-- One more definition, behind the first k.
counted_next : (s ds : List ℕ) (fs : List Function) (k p : ℕ) (f : Function) → length fs ≡ k → k < 8 → length ds ≡ 8
    → get_or s p 0 ≤ 4 → get_or s p 0 ≡ length f.parameters → Counted s ds fs → Counted s (set ds k p) (fs ++ (f ∷ []))
unfolding argument_count
counted_next s ds fs k p f e few long low same counted n h = by (ltb n k) refl
  where
    by : (b : Bool) → ltb n k ≡ b → argument_count s (set ds k p) n ≡ length (get_or (fs ++ (f ∷ [])) n no_function).parameters
    by true q =
        let l = ltb-true n k q in
        let other = get_or-set_other ds k n p 0 (λ r. absurd (omega arith)) in
        rw (other, get_or-append fs (f ∷ []) no_function n (omega arith)) (counted n (omega arith))
    by false q =
        let l = ltb-false n k q in
        let size = length-append fs (f ∷ []) in
        let m : n ≡ k = omega arith in
        rw (m, get_or_at fs f [] no_function k e)
        (arguments-few s (set ds k p) k few (ap (λ (i : ℕ). get_or s i 0) (sym (get_or-set_same ds k p 0 (omega arith)))) low ∙ same)

pub functions-counted : (declared n : ℕ) (earlier : List Function) (s : List ℕ) (p : ℕ) (ds : List ℕ) (k : ℕ) {d : Defined}
    → length earlier ≡ k → k + n ≤ 8 → length ds ≡ 8 → Counted s ds earlier → read_functions declared n earlier s p ≡ ok d
    → Counted s (sets ds k d.places) d.functions
unfolding read_functions
functions-counted declared zero earlier s p ds k {d} e l m counted h = rw (← ok-injective h) counted
functions-counted declared (suc n) earlier s p ds k {d} e l m counted h =
    let f = bind_ok (read_function declared earlier s p) _ h in
    let fs = bind_ok (read_functions declared n (earlier ++ (f.0.function ∷ [])) s f.0.next) _ f.2 in
    let told = function-counted declared earlier s p f.1 in
    let next = counted_next s ds earlier k p f.0.function e (omega arith) m told.0 told.1 counted in
    let size = length-append earlier (f.0.function ∷ []) in
    let more : length (earlier ++ (f.0.function ∷ [])) ≡ suc k = omega arith in
    rw (← ok-injective fs.2)
    (functions-counted declared n (earlier ++ (f.0.function ∷ [])) s f.0.next (set ds k p) (suc k) more (omega arith) (length-set ds k p ∙ m) next fs.1)

-- ---- an expression ends where the reader ends

module _ (c : Scope) (s ds : List ℕ) (short : length s ≤ 8192) (counted : Counted s ds c.functions) where
  skip-map : (d p : ℕ) (k : Kind) → p < length s → get_or s p 0 ≡ map_of k → skip_at (suc d) s ds p ≡ skip_node s ds (skip_at d s ds) p (ok k)
  unfolding skip_at
  skip-map d p k h e = simp (lt-ltb p 8192 (omega arith), map-kind every_map (get_or s p 0) p k (allowed k) e)

  skip_all : {d : ℕ} → ((p : ℕ) (q : Parsed Expr) → Reads c s d p q → skip_at d s ds p ≡ q.next)
      → {n p : ℕ} {es : Passed} → ReadsAll c s d n p es → skip_arguments (skip_at d s ds) n p ≡ es.next
  unfolding skip_arguments
  skip_all inner no_arguments = refl
  skip_all {d} inner (an-argument {n = n} {e = e} x es) = ap (skip_arguments (skip_at d s ds) n) (inner _ e x) ∙ skip_all inner es

  -- By the depth.
  skips : (d : ℕ) {p : ℕ} {q : Parsed Expr} → Reads c s d p q → skip_at d s ds p ≡ q.next
  unfolding skip_node map_of
  skips zero {p = p} {q = q} x' = elim x' [ ]
  skips (suc d) {p} (a-variable m h e l) = skip-map d p a_variable (omega arith) m
  skips (suc d) {p} (a-constant m w h e l) = skip-map d p a_constant (omega arith) m
  skips (suc d) {p} (an-unknown m w) = let b = w.below in skip-map d p an_unknown (omega arith) m
  skips (suc d) {p} (a-unary m o a) =
      let b = o.below in
      skip-map d p a_unary (omega arith) m ∙ skips d a
  skips (suc d) {p} (a-binary m o a b e) =
      let h = o.below in
      skip-map d p a_binary (omega arith) m ∙ ap (skip_at d s ds) (skips d a) ∙ skips d b
  skips (suc d) {p} (a-conditional m o q a b e) =
      let h = o.below in
      skip-map d p a_conditional (omega arith) m
      ∙ ap (λ i. skip_at d s ds (skip_at d s ds i)) (skips d q)
      ∙ ap (skip_at d s ds) (skips d a)
      ∙ skips d b
  skips (suc d) {p} (a-call {n = n} m h e l f es w) =
      let count : argument_count s ds (get_or s (p + 1) 0) ≡ length (get_or c.functions n no_function).parameters = ap (argument_count s ds) e ∙ counted n f in
      skip-map d p a_call (omega arith) m
      ∙ ap (λ (k : ℕ). skip_arguments (skip_at d s ds) k (p + 2)) count
      ∙ skip_all (λ i q r. skips d r) es

  pub skip-reads : {d p : ℕ} {q : Parsed Expr} → Reads c s d p q → skip_at d s ds p ≡ q.next
  skip-reads {d = d} r = skips d r

-- ---- an expression kept as its place

-- What `located` accepts: the place itself, the next place where skipping ends, and both within the sheet.
pub record Located (s ds : List ℕ) (p : ℕ) (e : Parsed ℕ) : Type 0 where
  pub item : e.item ≡ p
  pub skip : skip_at 16 s ds p ≡ e.next
  pub after : p < e.next
  pub below : e.next ≤ length s

pub located-ok : (c : Scope) (s ds : List ℕ) (p : ℕ) {e : Parsed ℕ} → length s ≤ 8192 → Counted s ds c.functions → located s c p ≡ ok e
    → Located s ds p e
unfolding located tree
located-ok c s ds p short counted h =
    let q = bind_ok (read_expr 16 c s p) _ h in
    let r = derive c s 16 p q.1 in
    let b = reads-after r in
    rw (← ok-injective q.2) (record { item = refl; skip = skip-reads c s ds short counted r; after = b.0; below = b.1 })
