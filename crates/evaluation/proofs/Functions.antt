-- Functions that were read: each body assigns its result's width. Assumes nothing.
use mathlib.Core.Path.{◌≡◌, refl, sym, ap, ◌∙◌}
use mathlib.Core.Bool.{Bool, true, false, ◌&&◌}
use mathlib.Core.List.{List, [], ◌∷◌, ◌++◌}
use Prim.Native.Nat.{ℕ, zero, suc, ◌+◌, ◌≤◌, ◌<◌}
use native.Mathlib.Omega.{arith}
use native.Mathlib.Decide.{dec_lt}
use lib.ListN.{length, get_or, take, length-append, get_or-append}
use lib.Seq.{get_or_at, take-suc, take_all}
use lib.Dec.{leb, ltb, eqb}
use borrow.Author.Tests.{leb-true, ltb-true, eqb-true}
use Rattle.sheet.specs.Reading.{Res, ok, byte_at, within}
use Rattle.sheet.specs.Expression.{Function, no_function, Scope, Parsed, Expr, read_expr}
use Rattle.sheet.specs.Statement.{is_register, Form, an_empty, an_assign, a_later, a_sequence, an_if, an_if_else, a_while, a_forever, a_wait, form_of}
use Rattle.sheet.specs.Functions.{read_widths, Bodied, body_form, read_body, body_scope, function_of, Made, read_function, Defined, read_functions}
use Rattle.sheet.proofs.Reading.{no≢ok, ok-injective, bind_ok, check-ok, within-ok}
use Rattle.sheet.proofs.Expression.{derive}
use Rattle.evaluation.specs.Widths.{Typed, BodyTyped}
use Rattle.evaluation.proofs.Evaluation.{TypedFunction, TypedFunctions, read-typed}

-- ---- read_widths: "one width byte for each variable (1 to 32)"

abbrev pub AreWidths : List ℕ → Type 0
AreWidths ws = (v : ℕ) → v < length ws → (1 ≤ get_or ws v 0) × (get_or ws v 0 ≤ 32)

pub are-widths-cons : {w : ℕ} (ws : List ℕ) → 1 ≤ w → w ≤ 32 → AreWidths ws → AreWidths (w ∷ ws)
are-widths-cons ws l m h zero b = (l, m)
are-widths-cons ws l m h (suc v) b = h v (omega arith)

pub widths-sound : (n : ℕ) (s : List ℕ) (p : ℕ) {ws : List ℕ} → read_widths n s p ≡ ok ws → (length ws ≡ n) × AreWidths ws
unfolding read_widths
widths-sound zero s p h = rw (← ok-injective h) (refl, λ v b. absurd (omega arith))
widths-sound (suc n) s p h =
    let w = bind_ok (within 1 32 4 s p) _ h in
    let ws = bind_ok (read_widths n s (p + 1)) _ w.2 in
    let i = within-ok 1 32 4 s p w.1 in
    let z = widths-sound n s (p + 1) ws.1 in
    rw (← ok-injective ws.2) (ap suc z.0, are-widths-cons ws.0 i.least i.most z.1)

-- ---- the only target of a body

pub &&-both : (a b : Bool) → (a && b) ≡ true → (a ≡ true) × (b ≡ true)
&&-both true b h = (refl, h)
&&-both false b h = (h, cc)

-- "the next byte the result, the only target"
pub only-target : (c : Scope) (t : ℕ) → c.registers ≡ 1 → is_register c t ≡ true → t ≡ c.inputs
unfolding is_register
only-target c t e h =
    let x = &&-both (leb c.inputs t) (ltb t (c.inputs + c.registers)) h in
    let l = leb-true c.inputs t x.0 in
    let m = ltb-true t (c.inputs + c.registers) x.1 in
    omega (arith, e)

-- ---- read_body

module _ (c : Scope) (s : List ℕ) (typed : TypedFunctions c.functions) (one : c.registers ≡ 1) where
  abbrev assigned : ℕ
  assigned = get_or c.widths c.inputs 0

  expr-typed : (p : ℕ) {e : Parsed Expr} → read_expr 16 c s p ≡ ok e → Typed c.widths e.item e.width
  expr-typed p h = read-typed typed (derive c s 16 p h)

  form-typed : (inner : ℕ → Res Bodied) → ((p : ℕ) (b : Bodied) → inner p ≡ ok b → BodyTyped c.widths b.body assigned) →
      (p : ℕ) (f : Form) {b : Bodied} → body_form inner c s p f ≡ ok b → BodyTyped c.widths b.body assigned
  unfolding body_form BodyTyped
  form-typed inner typed-inner p an_empty h = rw (← ok-injective h) tt
  form-typed inner typed-inner p an_assign h =
      let t = bind_ok (byte_at s (p + 1)) _ h in
      let r = check-ok (is_register c t.0) 9 (p + 1) _ t.2 in
      let e = bind_ok (read_expr 16 c s (p + 2)) _ r.1 in
      let w = check-ok (eqb e.0.width (get_or c.widths t.0 0)) 8 p _ e.2 in
      let k : e.0.width ≡ assigned = eqb-true _ _ w.0 ∙ ap (λ (v : ℕ). get_or c.widths v 0) (only-target c t.0 one r.0) in
      rw (← ok-injective w.1) (rw k at (expr-typed (p + 2) e.1))
  form-typed inner typed-inner p a_later h = absurd (no≢ok h)
  form-typed inner typed-inner p a_sequence h =
      let a = bind_ok (inner (p + 1)) _ h in
      let b = bind_ok (inner a.0.next) _ a.2 in
      rw (← ok-injective b.2) (typed-inner _ _ a.1, typed-inner _ _ b.1)
  form-typed inner typed-inner p an_if h =
      let e = bind_ok (read_expr 16 c s (p + 1)) _ h in
      let a = bind_ok (inner e.0.next) _ e.2 in
      rw (← ok-injective a.2) ((_, expr-typed (p + 1) e.1), typed-inner _ _ a.1)
  form-typed inner typed-inner p an_if_else h =
      let e = bind_ok (read_expr 16 c s (p + 1)) _ h in
      let a = bind_ok (inner e.0.next) _ e.2 in
      let b = bind_ok (inner a.0.next) _ a.2 in
      rw (← ok-injective b.2) ((_, expr-typed (p + 1) e.1), typed-inner _ _ a.1, typed-inner _ _ b.1)
  form-typed inner typed-inner p a_while h = absurd (no≢ok h)
  form-typed inner typed-inner p a_forever h = absurd (no≢ok h)
  form-typed inner typed-inner p a_wait h = absurd (no≢ok h)

  pub body_typed : (d p : ℕ) {b : Bodied} → read_body d c s p ≡ ok b → BodyTyped c.widths b.body assigned
  unfolding read_body
  body_typed zero p h = absurd (no≢ok (bind_ok (byte_at s p) _ h).2)
  body_typed (suc d) p h =
      let m = bind_ok (byte_at s p) _ h in
      let f = bind_ok (form_of m.0 p) _ m.2 in
      form-typed (read_body d c s) (λ q b e. body_typed d q e) p f.0 f.2

-- ---- read_function, read_functions

-- The parameters' widths and the result's are all of them.
pub all-widths : (k : ℕ) (ws : List ℕ) → length ws ≡ k + 1 → take k ws ++ (get_or ws k 0 ∷ []) ≡ ws
all-widths k ws l = sym (take-suc ws k 0 (omega arith)) ∙ take_all (suc k) ws (omega arith)

pub function-typed : (declared : ℕ) (earlier : List Function) (s : List ℕ) (p : ℕ) {f : Made} → TypedFunctions earlier →
    read_function declared earlier s p ≡ ok f → TypedFunction f.function
unfolding read_function function_of body_scope
function-typed declared earlier s p t h =
    let k = bind_ok (within 1 4 3 s p) _ h in
    let ws = bind_ok (read_widths (k.0 + 1) s (p + 1)) _ k.2 in
    let b = bind_ok (read_body 64 (body_scope declared earlier k.0 ws.0) s (p + 2 + k.0)) _ ws.2 in
    let w = widths-sound (k.0 + 1) s (p + 1) ws.1 in
    let l = w.0 in
    let r = w.1 k.0 (omega arith) in
    rw (← ok-injective b.2)
    (record {
      some = r.0;
      most = r.1;
      assigns = rw (all-widths k.0 ws.0 l) (body_typed (body_scope declared earlier k.0 ws.0) s t refl 64 _ b.1);
    })

typed-next : (fs : List Function) (f : Function) → TypedFunctions fs → TypedFunction f → TypedFunctions (fs ++ (f ∷ []))
typed-next fs f t x n l = by (dec_lt n (length fs))
  where
    by : Dec (n < length fs) → TypedFunction (get_or (fs ++ (f ∷ [])) n no_function)
    by (yes q) = rw (get_or-append fs (f ∷ []) no_function n q) (t n q)
    by (no q) =
        let e : length fs ≡ n = omega (arith, length-append fs (f ∷ [])) in
        rw (get_or_at fs f [] no_function n e) x

pub functions-typed : (declared n : ℕ) (earlier : List Function) (s : List ℕ) (p : ℕ) {d : Defined} → TypedFunctions earlier →
    read_functions declared n earlier s p ≡ ok d → TypedFunctions d.functions
unfolding read_functions
functions-typed declared zero earlier s p t h = rw (← ok-injective h) t
functions-typed declared (suc n) earlier s p t h =
    let f = bind_ok (read_function declared earlier s p) _ h in
    let fs = bind_ok (read_functions declared n (earlier ++ (f.0.function ∷ [])) s f.0.next) _ f.2 in
    let x = typed-next earlier f.0.function t (function-typed declared earlier s p t f.1) in
    rw (← ok-injective fs.2) (functions-typed declared n (earlier ++ (f.0.function ∷ [])) s f.0.next x fs.1)

pub none-typed : TypedFunctions []
none-typed n l = absurd (omega arith)
