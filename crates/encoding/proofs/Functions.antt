-- Functions are read exactly when they are well built and their encodings stand there. Assumes nothing.
use mathlib.Core.Path.{◌≡◌, refl, sym, ap, ◌∙◌}
use Prim.Native.Nat.{ℕ, zero, suc, ◌+◌, ◌≤◌, ◌<◌}
use native.Mathlib.Omega.{arith}
use mathlib.Core.List.{List, [], ◌∷◌, ◌++◌, append_assoc, append-nil}
use mathlib.Core.Bool.{true}
use lib.ListN.{length, get_or, take, length-append}
use lib.Seq.{length-take-le, take_all, take-suc, take-append_seam}
use lib.Dec.{eqb}
use borrow.Author.Tests.{eq-eqb, eqb-true}
use Rattle.sheet.specs.Reading.{ok, byte_at, within}
use Rattle.sheet.specs.Expression.{Body, nothing, result, in_turn, if_then, if_else, Function, Scope, read_expr}
use Rattle.sheet.specs.Statement.{is_register, Form, an_empty, an_assign, a_later, a_sequence, an_if, an_if_else, a_while, a_forever, a_wait, form_of}
use Rattle.sheet.specs.Functions.{read_widths, Bodied, body_form, read_body, body_scope, function_of, Made, read_function, Defined, read_functions}
use Rattle.sheet.proofs.Reading.{no≢ok, ok-injective, bind_ok, check-ok, byte-ok, byte-at, Within, within-ok, within-at}
use Rattle.sheet.proofs.Expression.{derive, accept}
use Rattle.sheet.proofs.Statements.{form_map, form-map, map-form}
use Rattle.encoding.specs.Encoding.{Bytes, encode_expr}
use Rattle.encoding.specs.WellFormed.{IsTarget, AreWidths}
use Rattle.encoding.specs.Whole.{encode_body, widths_of, encode_function, encode_functions, BodyFits, FunctionFits, FunctionsFit}
use Rattle.encoding.proofs.Spelling.{Spells, spells-nil, spells-cons, spells-head, spells-two, spells-heads, spells-append, spells-split}
use Rattle.encoding.proofs.Expression.{within_of, reads-typed, reads-spells, spells-reads}
use Rattle.encoding.proofs.Statements.{register-target, target-register}
use Rattle.encoding.proofs.Head.{widths-ok, widths-at}

-- ---- bodies, in a scope whose only register is the result

module _ (c : Scope) (one : c.registers ≡ 1) (s : List ℕ) where
  -- The result is the only target.
  only-result : (t : ℕ) → is_register c t ≡ true → t ≡ c.inputs
  unfolding IsTarget
  only-result t h = let x = register-target c t h in omega arith

  result-register : is_register c c.inputs ≡ true
  unfolding IsTarget
  result-register = target-register c c.inputs (omega arith, omega arith)

  -- What a body that was read is, and where it stands.
  abbrev Found : ℕ → ℕ → Bodied → Type 0
  Found d p b = BodyFits c d b.body × (Spells s p (encode_body c.inputs b.body) b.next)

  module _ (bs : Bytes s) (d : ℕ) (inner : (p : ℕ) (b : Bodied) → read_body d c s p ≡ ok b → Found d p b) where
    form-ok : (p : ℕ) (f : Form) {b : Bodied} → p < length s → get_or s p 0 ≡ form_map f → body_form (read_body d c s) c s p f ≡ ok b
        → Found (suc d) p b
    unfolding body_form form_map BodyFits encode_body
    form-ok p an_empty l m h = rw (← ok-injective h) (tt, spells-cons l m (spells-nil (omega arith)))
    form-ok p an_assign l m h =
        let t = bind_ok (byte_at s (p + 1)) _ h in
        let r = check-ok (is_register c t.0) 9 (p + 1) _ t.2 in
        let e = bind_ok (read_expr 16 c s (p + 2)) _ r.1 in
        let w = check-ok (eqb e.0.width (get_or c.widths t.0 0)) 8 p _ e.2 in
        let x = byte-ok s (p + 1) t.1 in
        let k = only-result t.0 r.0 in
        let y = derive c s 16 (p + 2) e.1 in
        let v : e.0.width ≡ get_or c.widths c.inputs 0 = eqb-true _ _ w.0 ∙ ap (λ (n : ℕ). get_or c.widths n 0) k in
        rw (← ok-injective w.1) (rw v at (reads-typed y), spells-two x.0 m (x.1 ∙ k) (reads-spells bs y))
    form-ok p a_later l m h = absurd (no≢ok h)
    form-ok p a_sequence l m h =
        let a = bind_ok (read_body d c s (p + 1)) _ h in
        let b = bind_ok (read_body d c s a.0.next) _ a.2 in
        let x = inner (p + 1) a.0 a.1 in
        let y = inner a.0.next b.0 b.1 in
        rw (← ok-injective b.2) ((x.0, y.0), spells-cons l m (spells-append x.1 y.1))
    form-ok p an_if l m h =
        let e = bind_ok (read_expr 16 c s (p + 1)) _ h in
        let a = bind_ok (read_body d c s e.0.next) _ e.2 in
        let r = derive c s 16 (p + 1) e.1 in
        let x = inner e.0.next a.0 a.1 in
        rw (← ok-injective a.2) (((_, reads-typed r), x.0), spells-cons l m (spells-append (reads-spells bs r) x.1))
    form-ok p an_if_else l m h =
        let e = bind_ok (read_expr 16 c s (p + 1)) _ h in
        let a = bind_ok (read_body d c s e.0.next) _ e.2 in
        let b = bind_ok (read_body d c s a.0.next) _ a.2 in
        let r = derive c s 16 (p + 1) e.1 in
        let x = inner e.0.next a.0 a.1 in
        let y = inner a.0.next b.0 b.1 in
        rw (← ok-injective b.2)
        (((_, reads-typed r), x.0, y.0), spells-cons l m (spells-append (spells-append (reads-spells bs r) x.1) y.1))
    form-ok p a_while l m h = absurd (no≢ok h)
    form-ok p a_forever l m h = absurd (no≢ok h)
    form-ok p a_wait l m h = absurd (no≢ok h)

  pub body_ok : (d p : ℕ) {b : Bodied} → Bytes s → read_body d c s p ≡ ok b → Found d p b
  unfolding read_body
  body_ok zero p bs h = absurd (no≢ok (bind_ok (byte_at s p) _ h).2)
  body_ok (suc d) p bs h =
      let m = bind_ok (byte_at s p) _ h in
      let f = bind_ok (form_of m.0 p) _ m.2 in
      let y = byte-ok s p m.1 in
      form-ok bs d (λ i b e. body_ok d i bs e) p f.0 y.0 (y.1 ∙ form-map _ p f.1) f.2

  at-form : (d p : ℕ) (f : Form) → p < length s → get_or s p 0 ≡ form_map f → read_body (suc d) c s p ≡ body_form (read_body d c s) c s p f
  unfolding read_body
  at-form d p f h e = rw (byte-at s p h, map-form (get_or s p 0) p f e) refl

  pub body_at : (d : ℕ) {p q : ℕ} (b : Body) → BodyFits c d b → Spells s p (encode_body c.inputs b) q
      → read_body d c s p ≡ ok (record { body = b; next = q })
  unfolding body_form form_map BodyFits encode_body
  body_at zero b t r = absurd t
  body_at (suc d) {p = p} nothing t r =
      let h = spells-head r in
      at-form d p an_empty h.0 h.1 ∙ rw r.ends refl
  body_at (suc d) {p = p} (result e) t r =
      let h = spells-heads r in
      let k = h.0 in
      at-form d p an_assign (omega arith) h.1
      ∙ simp (byte-at s (p + 1) k, h.2, result-register, accept (spells-reads e t h.3), eq-eqb (get_or c.widths c.inputs 0) _ refl)
  body_at (suc d) {p = p} (in_turn a b) t r =
      let h = spells-head r in
      let x = spells-split (encode_body c.inputs a) (encode_body c.inputs b) h.2 in
      at-form d p a_sequence h.0 h.1 ∙ simp (body_at d a t.0 x.0, body_at d b t.1 x.1)
  body_at (suc d) {p = p} (if_then e a) t r =
      let h = spells-head r in
      let x = spells-split (encode_expr e) (encode_body c.inputs a) h.2 in
      at-form d p an_if h.0 h.1 ∙ simp (accept (spells-reads e t.0.1 x.0), body_at d a t.1 x.1)
  body_at (suc d) {p = p} (if_else e a b) t r =
      let h = spells-head r in
      let y = spells-split (encode_expr e ++ encode_body c.inputs a) (encode_body c.inputs b) h.2 in
      let x = spells-split (encode_expr e) (encode_body c.inputs a) y.0 in
      at-form d p an_if_else h.0 h.1
      ∙ simp (accept (spells-reads e t.0.1 x.0), body_at d a t.1 x.1, body_at d b t.2 y.1)

-- ---- one function

-- The widths of k parameters and of a result.
split-last : (k : ℕ) (ws : List ℕ) → length ws ≡ k + 1 → take k ws ++ (get_or ws k 0 ∷ []) ≡ ws
split-last k ws e = sym (take-suc ws k 0 (omega arith)) ∙ take_all (suc k) ws (omega arith)

last_of : (l : List ℕ) (x : ℕ) → get_or (l ++ (x ∷ [])) (length l) 0 ≡ x
last_of [] x = refl
last_of (y ∷ l) x = last_of l x

function-of : (declared : ℕ) (earlier : List Function) (s : List ℕ) {p k : ℕ} {ws : List ℕ} (b : Bodied) → Within 1 4 p k s
    → (length ws ≡ k + 1) × AreWidths ws × (Spells s (p + 1) ws (p + 2 + k))
    → BodyFits (body_scope declared earlier k ws) 64 b.body × (Spells s (p + 2 + k) (encode_body k b.body) b.next)
    → FunctionFits declared earlier (function_of k ws b.body) × (Spells s p (encode_function (function_of k ws b.body)) b.next)
unfolding function_of FunctionFits encode_function
function-of declared earlier s {p} {k} {ws} b n w x =
    let few : length (take k ws) ≡ k = length-take-le k ws (omega (arith, w.0)) in
    rw (split-last k ws w.0, few)
    (((n.least, n.most), w.1, x.0), spells-cons n.below n.same (spells-append w.2 x.1))

pub function-ok : (declared : ℕ) (earlier : List Function) (s : List ℕ) (p : ℕ) {m : Made} → Bytes s → read_function declared earlier s p ≡ ok m
    → FunctionFits declared earlier m.function × (Spells s p (encode_function m.function) m.next)
unfolding read_function body_scope
function-ok declared earlier s p bs h =
    let k = bind_ok (within 1 4 3 s p) _ h in
    let ws = bind_ok (read_widths (k.0 + 1) s (p + 1)) _ k.2 in
    let b = bind_ok (read_body 64 (body_scope declared earlier k.0 ws.0) s (p + 2 + k.0)) _ ws.2 in
    let n = within-ok 1 4 3 s p k.1 in
    let below = n.below in
    let w = widths-ok (k.0 + 1) s (p + 1) (omega arith) ws.1 in
    let e : p + 1 + (k.0 + 1) ≡ p + 2 + k.0 = omega arith in
    let x = body_ok (body_scope declared earlier k.0 ws.0) refl s 64 (p + 2 + k.0) bs b.1 in
    rw (← ok-injective b.2) (function-of declared earlier s b.0 n (w.0, w.1, rw e at w.2) x)

pub function-at : (declared : ℕ) (earlier : List Function) (s : List ℕ) {p q : ℕ} (f : Function) → FunctionFits declared earlier f
    → Spells s p (encode_function f) q → read_function declared earlier s p ≡ ok (record { function = f; next = q })
unfolding FunctionFits encode_function read_function function_of body_scope
function-at declared earlier s {p} {q} f t r =
    let k = length f.parameters in
    let ws = widths_of f in
    let h = spells-head r in
    let x = spells-split ws (encode_body k f.body) h.2 in
    let many : length ws ≡ k + 1 = length-append f.parameters (f.result ∷ []) in
    let e : p + 1 + length ws ≡ p + 2 + k = omega arith in
    let w : read_widths (k + 1) s (p + 1) ≡ ok ws = rw many at (widths-at ws t.1 x.0) in
    let b = body_at (body_scope declared earlier k ws) refl s 64 f.body t.2 (rw e at x.1) in
    simp (
      within-at 1 4 3 s p (within_of h.0 h.1 t.0.0 t.0.1),
      w,
      b,
      take-append_seam f.parameters (f.result ∷ []),
      last_of f.parameters f.result,
    )

-- ---- all functions

pub functions-ok : (declared n : ℕ) (earlier : List Function) (s : List ℕ) (p : ℕ) {d : Defined} → Bytes s → p ≤ length s
    → read_functions declared n earlier s p ≡ ok d
    → (fs : List Function) × (d.functions ≡ earlier ++ fs) × (length fs ≡ n) × FunctionsFit declared earlier fs × (Spells s p (encode_functions fs) d.next)
unfolding read_functions FunctionsFit encode_functions
functions-ok declared zero earlier s p bs l h = rw (← ok-injective h) ([], sym (append-nil earlier), refl, tt, spells-nil l)
functions-ok declared (suc n) earlier s p bs l h =
    let f = bind_ok (read_function declared earlier s p) _ h in
    let fs = bind_ok (read_functions declared n (earlier ++ (f.0.function ∷ [])) s f.0.next) _ f.2 in
    let x = function-ok declared earlier s p bs f.1 in
    let y = functions-ok declared n (earlier ++ (f.0.function ∷ [])) s f.0.next bs x.1.below fs.1 in
    rw (← ok-injective fs.2)
    (f.0.function ∷ y.0, y.1 ∙ append_assoc earlier (f.0.function ∷ []) y.0, ap suc y.2, (x.0, y.3), spells-append x.1 y.4)

pub functions-at : (declared : ℕ) (earlier : List Function) (s : List ℕ) {p q : ℕ} (fs : List Function) → FunctionsFit declared earlier fs
    → Spells s p (encode_functions fs) q
    → (ps : List ℕ) × (read_functions declared (length fs) earlier s p ≡ ok (record { functions = earlier ++ fs; places = ps; next = q }))
unfolding read_functions FunctionsFit encode_functions
functions-at declared earlier s {p} {q} [] t r =
    let e : q ≡ p = omega (arith, r.ends) in
    ([], rw (e, append-nil earlier) refl)
functions-at declared earlier s {p} {q} (f ∷ fs) t r =
    let x = spells-split (encode_function f) (encode_functions fs) r in
    let y = functions-at declared (earlier ++ (f ∷ [])) s fs t.1 x.1 in
    (p ∷ y.0, simp (function-at declared earlier s f t.0 x.0, y.1, append_assoc earlier (f ∷ []) fs))
