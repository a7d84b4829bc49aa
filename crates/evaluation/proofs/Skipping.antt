-- What isn't run is passed: the place after it is the reader's. Assumes nothing.
use mathlib.Core.Path.{◌≡◌, refl, sym, ap, ◌∙◌}
use mathlib.Core.List.{List, [], ◌∷◌, ◌++◌}
use Prim.Native.Nat.{ℕ, zero, suc, ◌+◌, ◌≤◌, ◌<◌}
use native.Mathlib.Omega.{arith}
use native.Mathlib.Decide.{dec_lt}
use lib.ListN.{length, get_or, take, set, length-append, length-set, get_or-append}
use lib.Seq.{sets, get_or_at, take_at, take-append-le, take-take, get_or-take, get_or-set_same, get_or-set_other, length-take-le}
use lib.Dec.{eqb}
use borrow.Author.Tests.{lt-ltb}
use Rattle.sheet.specs.Reading.{ok, byte_at, within}
use Rattle.sheet.specs.Expression.{Expr, Function, no_function, Scope, Parsed, Passed, read_expr}
use Rattle.sheet.specs.Statement.{is_register, Form, an_empty, an_assign, a_later, a_sequence, an_if, an_if_else, a_while, a_forever, a_wait, form_of}
use Rattle.sheet.specs.Functions.{read_widths, Bodied, body_form, read_body, body_scope, function_of, Made, read_function, Defined, read_functions}
use Rattle.sheet.specs.Parts.{definition_at}
use Rattle.sheet.proofs.Reading.{no≢ok, ok-injective, bind_ok, check-ok, byte-ok, within-ok}
use Rattle.sheet.proofs.Expression.{Reads, a-variable, a-constant, an-unknown, a-unary, a-binary, a-conditional, a-call, ReadsAll, no_arguments, an-argument, derive}
use Rattle.sheet.proofs.Statements.{form_map, form-map}
use Rattle.evaluation.specs.Bytes.{passed, operands_of, skip_node, skip_at, skip_form, skip_body}
use Rattle.evaluation.proofs.Functions.{widths-sound}

-- ---- functions whose definitions stand at places

-- Function n of fs was read at its place, behind the earlier ones.
pub record Stands (s ds : List ℕ) (declared : ℕ) (fs : List Function) (n : ℕ) : Type 0 where
  pub made : Made
  pub reads : read_function declared (take n fs) s (definition_at ds n) ≡ ok made
  pub same : made.function ≡ get_or fs n no_function

abbrev pub Standing : List ℕ → List ℕ → ℕ → List Function → Type 0
Standing s ds declared fs = (n : ℕ) → n < length fs → Stands s ds declared fs n

-- The first of them stand there too.
pub standing-take : (s ds : List ℕ) (declared : ℕ) (fs : List Function) (k : ℕ) → k ≤ length fs → Standing s ds declared fs →
    Standing s ds declared (take k fs)
standing-take s ds declared fs k l standing n h =
    let b : n < k = rw (length-take-le k fs l) at h in
    let x = standing n (omega arith) in
    record {
      made = x.made;
      reads = rw (take-take n k fs (omega arith)) x.reads;
      same = x.same ∙ sym (get_or-take k fs n no_function b);
    }

-- One more.
module _ (s ds : List ℕ) (declared : ℕ) (fs : List Function) (p : ℕ) (f : Made) where
  abbrev all : List Function
  all = fs ++ (f.function ∷ [])

  module _ (few : length fs < 8) (wide : length ds ≡ 8) (read : read_function declared fs s p ≡ ok f) (standing : Standing s ds declared fs) where
    same_place : (n : ℕ) → n < length fs → definition_at (set ds (length fs) p) n ≡ definition_at ds n
    unfolding definition_at
    same_place n h = rw (get_or-set_other ds (length fs) n p 0 (λ e. omega (arith, e))) refl

    this_place : definition_at (set ds (length fs) p) (length fs) ≡ p
    unfolding definition_at
    this_place = rw (lt-ltb (length fs) 8 few, get_or-set_same ds (length fs) p 0 (omega arith)) refl

    standing-next : Standing s (set ds (length fs) p) declared all
    standing-next n h = by (dec_lt n (length fs))
      where
        by : Dec (n < length fs) → Stands s (set ds (length fs) p) declared all n
        by (yes l) =
            let x = standing n l in
            record {
              made = x.made;
              reads = rw (same_place n l, take-append-le n fs (f.function ∷ []) (omega arith)) x.reads;
              same = x.same ∙ sym (get_or-append fs (f.function ∷ []) no_function n l);
            }
        by (no l) =
            let e : length fs ≡ n = omega (arith, length-append fs (f.function ∷ [])) in
            record {
              made = f;
              reads = rw (← e, this_place, take_at fs (f.function ∷ []) (length fs) refl) read;
              same = sym (get_or_at fs f.function [] no_function n e);
            }

-- The functions that were read stand at the places that were told.
pub functions-standing : (declared n : ℕ) (earlier : List Function) (s : List ℕ) (p : ℕ) (ds : List ℕ) {d : Defined} →
    Standing s ds declared earlier → length earlier + n ≤ 8 → length ds ≡ 8 → read_functions declared n earlier s p ≡ ok d →
    Standing s (sets ds (length earlier) d.places) declared d.functions
unfolding read_functions
functions-standing declared zero earlier s p ds standing l m h = rw (← ok-injective h) standing
functions-standing declared (suc n) earlier s p ds standing l m h =
    let f = bind_ok (read_function declared earlier s p) _ h in
    let more : List Function = earlier ++ (f.0.function ∷ []) in
    let fs = bind_ok (read_functions declared n more s f.0.next) _ f.2 in
    let next = standing-next s ds declared earlier p f.0 (omega arith) m f.1 standing in
    let e : length more ≡ suc (length earlier) = omega (arith, length-append earlier (f.0.function ∷ [])) in
    let r = functions-standing declared n more s f.0.next (set ds (length earlier) p) next (omega arith) (length-set ds (length earlier) p ∙ m) fs.1 in
    rw (← ok-injective fs.2) (rw e at r)

-- ---- how many arguments a call has

module _ (s ds : List ℕ) {declared : ℕ} {fs : List Function} {n : ℕ} (x : Stands s ds declared fs n) where
  pub count-is : get_or s (definition_at ds n) 0 ≡ length (get_or fs n no_function).parameters
  unfolding read_function function_of
  count-is =
      let D = definition_at ds n in
      let k = bind_ok (within 1 4 3 s D) _ x.reads in
      let ws = bind_ok (read_widths (k.0 + 1) s (D + 1)) _ k.2 in
      let b = bind_ok (read_body 64 (body_scope declared (take n fs) k.0 ws.0) s (D + 2 + k.0)) _ ws.2 in
      let l = (widths-sound (k.0 + 1) s (D + 1) ws.1).0 in
      let e : length (take k.0 ws.0) ≡ length x.made.function.parameters =
      ap (λ (m : Made). length m.function.parameters) (ok-injective b.2) in
      (within-ok 1 4 3 s D k.1).same ∙ sym (length-take-le k.0 ws.0 (omega arith)) ∙ e ∙ ap (λ (f : Function). length f.parameters) x.same

-- ---- expressions

module _ (c : Scope) (s ds : List ℕ) (standing : Standing s ds c.declared c.functions) where
  skip_step : (d p : ℕ) {m q : ℕ} → p < length s → get_or s p 0 ≡ m → skip_node (skip_at d s ds) s ds m p ≡ q → skip_at (suc d) s ds p ≡ q
  unfolding skip_at
  skip_step d p l e h = rw (lt-ltb p (length s) l, e) h

  skip_all : {d : ℕ} → ((p : ℕ) (q : Parsed Expr) → Reads c s d p q → skip_at d s ds p ≡ q.next) →
      {n p : ℕ} {es : Passed} → ReadsAll c s d n p es → passed (skip_at d s ds) n p ≡ es.next
  unfolding passed
  skip_all inner no_arguments = refl
  skip_all inner (an-argument {e = e} x es) = rw (inner _ e x) (skip_all inner es)

  pub skip-reads : (d p : ℕ) {q : Parsed Expr} → Reads c s d p q → skip_at d s ds p ≡ q.next
  unfolding skip_node operands_of passed
  skip-reads zero p {q = q} x' = elim x' [ ]
  skip-reads (suc d) p (a-variable m h e l) = skip_step d p (omega arith) m refl
  skip-reads (suc d) p (a-constant m w h e l) = skip_step d p (omega arith) m refl
  skip-reads (suc d) p (an-unknown m w) = let b = w.below in skip_step d p (omega arith) m refl
  skip-reads (suc d) p (a-unary m o a) = let b = o.below in skip_step d p (omega arith) m (skip-reads d (p + 2) a)
  skip-reads (suc d) p (a-binary m o a b e) =
      let i = o.below in
      skip_step d p (omega arith) m (rw (skip-reads d (p + 2) a) (skip-reads d _ b))
  skip-reads (suc d) p (a-conditional m o q a b e) =
      let i = o.below in
      skip_step d p (omega arith) m (rw (skip-reads d (p + 2) q, skip-reads d _ a) (skip-reads d _ b))
  skip-reads (suc d) p (a-call {n = n} m h e l f es w) =
      let x = count-is s ds (standing n f) in
      skip_step d p (omega arith) m (rw (e, x) (skip_all (λ i q r. skip-reads d i r) es))

  pub skip_read : (p : ℕ) {e : Parsed Expr} → read_expr 16 c s p ≡ ok e → skip_at 16 s ds p ≡ e.next
  skip_read p h = skip-reads 16 p (derive c s 16 p h)

  -- ---- statements of a body

  skip-form : (d : ℕ) → ((p : ℕ) (b : Bodied) → read_body d c s p ≡ ok b → skip_body d s ds p ≡ b.next) → (p : ℕ) (f : Form) {b : Bodied} →
      body_form (read_body d c s) c s p f ≡ ok b → skip_form (skip_body d s ds) (skip_at 16 s ds) (form_map f) p ≡ b.next
  unfolding body_form skip_form form_map
  skip-form d inner p an_empty h = rw (← ok-injective h) refl
  skip-form d inner p an_assign h =
      let t = bind_ok (byte_at s (p + 1)) _ h in
      let r = check-ok (is_register c t.0) 9 (p + 1) _ t.2 in
      let e = bind_ok (read_expr 16 c s (p + 2)) _ r.1 in
      let w = check-ok (eqb e.0.width (get_or c.widths t.0 0)) 8 p _ e.2 in
      rw (← ok-injective w.1) (skip_read (p + 2) e.1)
  skip-form d inner p a_later h = absurd (no≢ok h)
  skip-form d inner p a_sequence h =
      let a = bind_ok (read_body d c s (p + 1)) _ h in
      let b = bind_ok (read_body d c s a.0.next) _ a.2 in
      rw (← ok-injective b.2, inner (p + 1) a.0 a.1) (inner _ b.0 b.1)
  skip-form d inner p an_if h =
      let e = bind_ok (read_expr 16 c s (p + 1)) _ h in
      let a = bind_ok (read_body d c s e.0.next) _ e.2 in
      rw (← ok-injective a.2, skip_read (p + 1) e.1) (inner _ a.0 a.1)
  skip-form d inner p an_if_else h =
      let e = bind_ok (read_expr 16 c s (p + 1)) _ h in
      let a = bind_ok (read_body d c s e.0.next) _ e.2 in
      let b = bind_ok (read_body d c s a.0.next) _ a.2 in
      rw (← ok-injective b.2, skip_read (p + 1) e.1, inner _ a.0 a.1) (inner _ b.0 b.1)
  skip-form d inner p a_while h = absurd (no≢ok h)
  skip-form d inner p a_forever h = absurd (no≢ok h)
  skip-form d inner p a_wait h = absurd (no≢ok h)

  pub skip-body : (d p : ℕ) {b : Bodied} → read_body d c s p ≡ ok b → skip_body d s ds p ≡ b.next
  unfolding read_body skip_body
  skip-body zero p h = absurd (no≢ok (bind_ok (byte_at s p) _ h).2)
  skip-body (suc d) p h =
      let m = bind_ok (byte_at s p) _ h in
      let f = bind_ok (form_of m.0 p) _ m.2 in
      let x = byte-ok s p m.1 in
      let e : get_or s p 0 ≡ form_map f.0 = x.1 ∙ form-map m.0 p f.1 in
      rw (lt-ltb p (length s) x.0, e) (skip-form d (λ q b g. skip-body d q g) p f.0 f.2)
