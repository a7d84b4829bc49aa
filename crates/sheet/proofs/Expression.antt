-- Laws of reading expressions. `Reads` says, without the reader, which bytes are an expression: `derive` and `accept`
-- show that the reader accepts those and no others. Every other law of expressions goes by `Reads`.
use mathlib.Core.Path.{◌≡◌, refl, sym, ap, ◌∙◌}
use Prim.Native.Nat.{ℕ, zero, suc, ◌+◌, ◌^◌, ◌≤◌, ◌<◌}
use native.Mathlib.Omega.{arith}
use mathlib.Core.List.{List, [], ◌∷◌}
use mathlib.Core.Bool.{Bool, true, false, ◌&&◌}
use lib.ListN.{length, get_or}
use lib.Dec.{ltb, eqb}
use borrow.Author.Tests.{lt-ltb, ltb-true, eq-eqb, eqb-true}
use Rattle.values.specs.Values.{pick}
use Rattle.values.specs.Operators.{unary_width, binary_width}
use Rattle.sheet.specs.Reading.{Res, ok, no, byte_at, within, word_of, word_at}
use Rattle.sheet.specs.Expression.{Expr, variable, constant, unknown, unary, binary, conditional, call, no_more, argument, no_function, Scope, Parsed, Kind, a_variable, a_constant, an_unknown, a_unary, a_binary, a_conditional, a_call, kind_of, variable_at, function_at, Passed, arguments_at, same_widths, node, read_expr}
use Rattle.sheet.proofs.Reading.{no≢ok, ok-injective, bind_ok, check-ok, byte-ok, byte-at, Within, within-ok, within-at, word_ok, word-at}

-- ---- variable_at

pub variable-ok : (ws s : List ℕ) (at : ℕ) {v : ℕ} → variable_at ws s at ≡ ok v → (at < length s) × (get_or s at 0 ≡ v) × (v < length ws)
unfolding variable_at
variable-ok ws s at {v} h =
    let x = bind_ok (byte_at s at) _ h in
    let y = byte-ok s at x.1 in
    let z = check-ok (ltb x.0 (length ws)) 6 at _ x.2 in
    let e : x.0 ≡ v = ok-injective z.1 in
    let l = ltb-true x.0 (length ws) z.0 in
    (y.0, y.1 ∙ e, omega arith)

pub variable-at : (ws s : List ℕ) (at : ℕ) {v : ℕ} → at < length s → get_or s at 0 ≡ v → v < length ws → variable_at ws s at ≡ ok v
unfolding variable_at
variable-at ws s at {v} h e l = rw (byte-at s at h, e) (simp (lt-ltb v (length ws) l))

-- ---- function_at

pub function-ok : (c : Scope) (s : List ℕ) (at : ℕ) {n : ℕ} → function_at c s at ≡ ok n
    → (at < length s) × (get_or s at 0 ≡ n) × (n < c.declared) × (n < length c.functions)
unfolding function_at
function-ok c s at {n} h =
    let x = bind_ok (byte_at s at) _ h in
    let y = byte-ok s at x.1 in
    let d = check-ok (ltb x.0 c.declared) 6 at _ x.2 in
    let f = check-ok (ltb x.0 (length c.functions)) 44 at _ d.1 in
    let e : x.0 ≡ n = ok-injective f.1 in
    let l = ltb-true x.0 c.declared d.0 in
    let m = ltb-true x.0 (length c.functions) f.0 in
    (y.0, y.1 ∙ e, omega arith, omega arith)

pub function-at : (c : Scope) (s : List ℕ) (at : ℕ) {n : ℕ} → at < length s → get_or s at 0 ≡ n → n < c.declared → n < length c.functions
    → function_at c s at ≡ ok n
unfolding function_at
function-at c s at {n} h e l m = rw (byte-at s at h, e) (simp (lt-ltb n c.declared l, lt-ltb n (length c.functions) m))

-- ---- which bytes are an expression

mutual
  pub data Reads (c : Scope) (s : List ℕ) : ℕ → ℕ → Parsed Expr → Type 0 where
    a-variable : {d p v : ℕ} → get_or s p 0 ≡ 0x02 → p + 1 < length s → get_or s (p + 1) 0 ≡ v → v < length c.widths
        → Reads c s (suc d) p (record { item = variable v; width = get_or c.widths v 0; next = p + 2 })
    a-constant : {d p w v : ℕ} → get_or s p 0 ≡ 0x0C → Within 1 32 (p + 1) w s → p + 6 ≤ length s
        → word_of s (p + 2) ≡ v → v < 2 ^ w
        → Reads c s (suc d) p (record { item = constant w v; width = w; next = p + 6 })
    an-unknown : {d p w : ℕ} → get_or s p 0 ≡ 0x04 → Within 1 32 (p + 1) w s
        → Reads c s (suc d) p (record { item = unknown w; width = w; next = p + 2 })
    a-unary : {d p o : ℕ} {a : Parsed Expr} → get_or s p 0 ≡ 0x11 → Within 1 2 (p + 1) o s → Reads c s d (p + 2) a
        → Reads c s (suc d) p (record { item = unary o a.width a.item; width = unary_width o a.width; next = a.next })
    a-binary : {d p o : ℕ} {a b : Parsed Expr} → get_or s p 0 ≡ 0x31 → Within 3 9 (p + 1) o s → Reads c s d (p + 2) a
        → Reads c s d a.next b → a.width ≡ b.width
        → Reads c s (suc d) p (record { item = binary o a.width a.item b.item; width = binary_width o a.width; next = b.next })
    a-conditional : {d p o : ℕ} {q a b : Parsed Expr} → get_or s p 0 ≡ 0x71 → Within 10 10 (p + 1) o s → Reads c s d (p + 2) q
        → Reads c s d q.next a → Reads c s d a.next b → a.width ≡ b.width
        → Reads c s (suc d) p (record { item = conditional q.item a.item b.item; width = a.width; next = b.next })
    a-call : {d p n : ℕ} {es : Passed} → get_or s p 0 ≡ 0x80 → p + 1 < length s → get_or s (p + 1) 0 ≡ n → n < c.declared
        → n < length c.functions → ReadsAll c s d (length (get_or c.functions n no_function).parameters) (p + 2) es
        → same_widths (get_or c.functions n no_function).parameters es.widths ≡ true
        → Reads c s (suc d) p
        (record {
          item = call n (get_or c.functions n no_function).result es.items (get_or c.functions n no_function).body;
          width = (get_or c.functions n no_function).result;
          next = es.next;
        })

  -- which bytes are so many arguments
  pub data ReadsAll (c : Scope) (s : List ℕ) : ℕ → ℕ → ℕ → Passed → Type 0 where
    no_arguments : {d p : ℕ} → ReadsAll c s d zero p (record { items = no_more; widths = []; next = p })
    an-argument : {d n p : ℕ} {e : Parsed Expr} {es : Passed} → Reads c s d p e → ReadsAll c s d n e.next es
        → ReadsAll c s d (suc n) p (record { items = argument e.item es.items; widths = e.width ∷ es.widths; next = es.next })

-- Arguments end no earlier than they start, and within the sheet, where each of them does.
all_after : {c : Scope} {s : List ℕ} {d : ℕ} → ((p : ℕ) (q : Parsed Expr) → Reads c s d p q → (p < q.next) × (q.next ≤ length s))
    → {n p : ℕ} {es : Passed} → ReadsAll c s d n p es → (p ≤ es.next) × (p ≤ length s → es.next ≤ length s)
all_after inner no_arguments = (omega arith, λ h. h)
all_after inner (an-argument {e = e} x es) =
    let y = inner _ e x in
    let z = all_after inner es in
    (omega arith, λ h. z.1 y.1)

-- An expression ends after its start and within the sheet: by its depth.
ends : {c : Scope} {s : List ℕ} (d : ℕ) {p : ℕ} {q : Parsed Expr} → Reads c s d p q → (p < q.next) × (q.next ≤ length s)
ends {c = c} {s = s} zero {p = p} {q = q} x' = elim x' [ ]
ends (suc d) (a-variable m h e l) = (omega arith, omega arith)
ends (suc d) (a-constant m w h e l) = (omega arith, omega arith)
ends (suc d) (an-unknown m w) = let b = w.below in (omega arith, omega arith)
ends (suc d) (a-unary m o a) = let x = ends d a in (omega arith, omega arith)
ends (suc d) (a-binary m o a b e) = let x = ends d a in let y = ends d b in (omega arith, omega arith)
ends (suc d) (a-conditional m o q a b e) =
    let z = ends d q in let x = ends d a in let y = ends d b in (omega arith, omega arith)
ends (suc d) (a-call m h e l f es w) = let x = all_after (λ p q r. ends d r) es in (omega arith, x.1 (omega arith))

pub reads-after : {c : Scope} {s : List ℕ} {d p : ℕ} {q : Parsed Expr} → Reads c s d p q → (p < q.next) × (q.next ≤ length s)
reads-after {d = d} r = ends d r

-- ---- a map and its kind

unfoldable pub map_of : Kind → ℕ
map_of a_variable = 0x02
map_of a_constant = 0x0C
map_of an_unknown = 0x04
map_of a_unary = 0x11
map_of a_binary = 0x31
map_of a_conditional = 0x71
map_of a_call = 0x80

-- One row of the table of maps.
row : (m c : ℕ) (k j : Kind) (r : Res Kind) → map_of k ≡ c → (r ≡ ok j → m ≡ map_of j) → pick (eqb m c) (ok k) r ≡ ok j → m ≡ map_of j
row m c k j r e rest h = by (eqb m c) refl h
  where
    by : (t : Bool) → eqb m c ≡ t → pick t (ok k) r ≡ ok j → m ≡ map_of j
    by true q g = eqb-true m c q ∙ sym e ∙ ap map_of (ok-injective g)
    by false q g = rest g

-- The last row: a call, where there are functions.
call-row : (c : Scope) (m p : ℕ) {j : Kind} → pick (eqb m 0x80 && ltb 0 c.declared) (ok a_call) (no 5 p) ≡ ok j → m ≡ map_of j
unfolding map_of
call-row c m p {j} h = by (eqb m 0x80) refl (ltb 0 c.declared) h
  where
    by : (t : Bool) → eqb m 0x80 ≡ t → (f : Bool) → pick (t && f) (ok a_call) (no 5 p) ≡ ok j → m ≡ map_of j
    by true q true g = eqb-true m 0x80 q ∙ ap map_of (ok-injective g)
    by true q false g = absurd (no≢ok g)
    by false q f g = absurd (no≢ok g)

pub kind-map : (c : Scope) (m p : ℕ) {k : Kind} → kind_of c m p ≡ ok k → m ≡ map_of k
unfolding kind_of map_of
kind-map c m p {k} h =
    row m 0x02 a_variable k _ refl
    (row m 0x0C a_constant k _ refl
    (row m 0x04 an_unknown k _ refl
    (row m 0x11 a_unary k _ refl
    (row m 0x31 a_binary k _ refl
    (row m 0x71 a_conditional k _ refl (call-row c m p))))))
    h

-- A kind that is allowed: a call only where there are functions.
unfoldable pub Allowed : Scope → Kind → Type 0
Allowed c a_variable = Unit {0}
Allowed c a_constant = Unit {0}
Allowed c an_unknown = Unit {0}
Allowed c a_unary = Unit {0}
Allowed c a_binary = Unit {0}
Allowed c a_conditional = Unit {0}
Allowed c a_call = 0 < c.declared

pub map-kind : (c : Scope) (m p : ℕ) (k : Kind) → Allowed c k → m ≡ map_of k → kind_of c m p ≡ ok k
unfolding kind_of map_of Allowed
map-kind c m p a_variable l e = rw e refl
map-kind c m p a_constant l e = rw e refl
map-kind c m p an_unknown l e = rw e refl
map-kind c m p a_unary l e = rw e refl
map-kind c m p a_binary l e = rw e refl
map-kind c m p a_conditional l e = rw e refl
map-kind c m p a_call l e = rw e (simp (lt-ltb 0 c.declared l))

-- ---- the reader accepts what is an expression, and nothing else

module _ (c : Scope) (s : List ℕ) (d : ℕ) (inner : (p : ℕ) (q : Parsed Expr) → read_expr d c s p ≡ ok q → Reads c s d p q) where
  pub derive-all : (n p : ℕ) {es : Passed} → arguments_at (read_expr d c s) n p ≡ ok es → ReadsAll c s d n p es
  unfolding arguments_at
  derive-all zero p h = rw (← ok-injective h) no_arguments
  derive-all (suc n) p h =
      let e = bind_ok (read_expr d c s p) _ h in
      let es = bind_ok (arguments_at (read_expr d c s) n e.0.next) _ e.2 in
      rw (← ok-injective es.2) (an-argument (inner p _ e.1) (derive-all n e.0.next es.1))

  derive-node : (p : ℕ) (k : Kind) {q : Parsed Expr} → get_or s p 0 ≡ map_of k → node (read_expr d c s) c s p k ≡ ok q → Reads c s (suc d) p q
  unfolding node map_of
  derive-node p a_variable m h =
      let v = bind_ok (variable_at c.widths s (p + 1)) _ h in
      let x = variable-ok c.widths s (p + 1) v.1 in
      rw (← ok-injective v.2) (a-variable m x.0 x.1 x.2)
  derive-node p a_constant m h =
      let w = bind_ok (within 1 32 6 s (p + 1)) _ h in
      let v = bind_ok (word_at s (p + 2)) _ w.2 in
      let b = check-ok (ltb v.0 (2 ^ w.0)) 6 (p + 2) _ v.2 in
      let x = word_ok s (p + 2) v.1 in
      rw (← ok-injective b.1) (a-constant m (within-ok _ _ _ _ _ w.1) (omega arith) x.1 (ltb-true _ _ b.0))
  derive-node p an_unknown m h =
      let w = bind_ok (within 1 32 6 s (p + 1)) _ h in
      rw (← ok-injective w.2) (an-unknown m (within-ok _ _ _ _ _ w.1))
  derive-node p a_unary m h =
      let o = bind_ok (within 1 2 6 s (p + 1)) _ h in
      let a = bind_ok (read_expr d c s (p + 2)) _ o.2 in
      rw (← ok-injective a.2) (a-unary m (within-ok _ _ _ _ _ o.1) (inner (p + 2) _ a.1))
  derive-node p a_binary m h =
      let o = bind_ok (within 3 9 6 s (p + 1)) _ h in
      let a = bind_ok (read_expr d c s (p + 2)) _ o.2 in
      let b = bind_ok (read_expr d c s a.0.next) _ a.2 in
      let z = check-ok (eqb a.0.width b.0.width) 8 p _ b.2 in
      rw (← ok-injective z.1) (a-binary m (within-ok _ _ _ _ _ o.1) (inner (p + 2) _ a.1) (inner _ _ b.1) (eqb-true _ _ z.0))
  derive-node p a_conditional m h =
      let o = bind_ok (within 10 10 6 s (p + 1)) _ h in
      let x = bind_ok (read_expr d c s (p + 2)) _ o.2 in
      let a = bind_ok (read_expr d c s x.0.next) _ x.2 in
      let b = bind_ok (read_expr d c s a.0.next) _ a.2 in
      let z = check-ok (eqb a.0.width b.0.width) 8 p _ b.2 in
      rw (← ok-injective z.1)
      (a-conditional m (within-ok _ _ _ _ _ o.1) (inner (p + 2) _ x.1) (inner _ _ a.1) (inner _ _ b.1) (eqb-true _ _ z.0))
  derive-node p a_call m h =
      let n = bind_ok (function_at c s (p + 1)) _ h in
      let f = function-ok c s (p + 1) n.1 in
      let es = bind_ok (arguments_at (read_expr d c s) (length (get_or c.functions n.0 no_function).parameters) (p + 2)) _ n.2 in
      let z = check-ok (same_widths (get_or c.functions n.0 no_function).parameters es.0.widths) 8 p _ es.2 in
      rw (← ok-injective z.1) (a-call m f.0 f.1 f.2 f.3 (derive-all _ (p + 2) es.1) z.0)

pub derive : (c : Scope) (s : List ℕ) (d p : ℕ) {q : Parsed Expr} → read_expr d c s p ≡ ok q → Reads c s d p q
unfolding read_expr
derive c s zero p h = absurd (no≢ok (bind_ok (byte_at s p) _ h).2)
derive c s (suc d) p h =
    let m = bind_ok (byte_at s p) _ h in
    let k = bind_ok (kind_of c m.0 p) _ m.2 in
    derive-node c s d (λ i q e. derive c s d i e) p k.0 ((byte-ok s p m.1).1 ∙ kind-map c _ p k.1) k.2

accept-node : (c : Scope) (s : List ℕ) (d p : ℕ) (k : Kind) → Allowed c k → p < length s → get_or s p 0 ≡ map_of k → read_expr (suc d) c s p ≡ node (read_expr d c s) c s p k
unfolding read_expr
accept-node c s d p k l h e = rw (byte-at s p h, map-kind c (get_or s p 0) p k l e) refl

accept-all : {c : Scope} {s : List ℕ} {d : ℕ} → ((p : ℕ) (q : Parsed Expr) → Reads c s d p q → read_expr d c s p ≡ ok q)
    → {n p : ℕ} {es : Passed} → ReadsAll c s d n p es → arguments_at (read_expr d c s) n p ≡ ok es
unfolding arguments_at
accept-all inner no_arguments = refl
accept-all inner (an-argument {e = e} x es) = simp (inner _ e x, accept-all inner es)

accepts : {c : Scope} {s : List ℕ} (d : ℕ) {p : ℕ} {q : Parsed Expr} → Reads c s d p q → read_expr d c s p ≡ ok q
unfolding node map_of Allowed
accepts {c = c} {s = s} zero {p = p} {q = q} x' = elim x' [ ]
accepts {c} {s} (suc d) {p = p} (a-variable m h e l) =
    accept-node c s d p a_variable tt (omega arith) m ∙ simp (variable-at c.widths s (p + 1) h e l)
accepts {c} {s} (suc d) {p = p} (a-constant {w = w} {v = v} m b h e l) =
    let x = b.below in
    accept-node c s d p a_constant tt (omega arith) m
    ∙ simp (within-at 1 32 6 s (p + 1) b, word-at s (p + 2) (omega arith), e, lt-ltb v (2 ^ w) l)
accepts {c} {s} (suc d) {p = p} (an-unknown m b) =
    let x = b.below in
    accept-node c s d p an_unknown tt (omega arith) m ∙ simp (within-at 1 32 6 s (p + 1) b)
accepts {c} {s} (suc d) {p = p} (a-unary m b a) =
    let x = b.below in
    accept-node c s d p a_unary tt (omega arith) m ∙ simp (within-at 1 2 6 s (p + 1) b, accepts d a)
accepts {c} {s} (suc d) {p = p} (a-binary m w a b e) =
    let x = w.below in
    accept-node c s d p a_binary tt (omega arith) m ∙ simp (within-at 3 9 6 s (p + 1) w, accepts d a, accepts d b, eq-eqb _ _ e)
accepts {c} {s} (suc d) {p = p} (a-conditional m w q a b e) =
    let x = w.below in
    accept-node c s d p a_conditional tt (omega arith) m
    ∙ simp (within-at 10 10 6 s (p + 1) w, accepts d q, accepts d a, accepts d b, eq-eqb _ _ e)
accepts {c} {s} (suc d) {p = p} (a-call m h e l f es w) =
    accept-node c s d p a_call (omega arith) (omega arith) m
    ∙ simp (function-at c s (p + 1) h e l f, accept-all (λ i q (r : Reads c s d i q). accepts d r) es, w)

pub accept : {c : Scope} {s : List ℕ} {d p : ℕ} {q : Parsed Expr} → Reads c s d p q → read_expr d c s p ≡ ok q
accept {d = d} r = accepts d r
