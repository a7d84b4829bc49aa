-- Which bytes are a body, said without the reader, and how many bytes its instructions take. Assumes nothing.
use mathlib.Core.Path.{◌≡◌, ◌∙◌}
use Prim.Native.Nat.{ℕ, zero, suc, ◌+◌, ◌*◌, ◌≤◌, ◌<◌}
use native.Mathlib.Omega.{arith}
use mathlib.Core.List.{List}
use lib.ListN.{length, get_or}
use lib.Dec.{eqb}
use Rattle.sheet.specs.Reading.{ok, byte_at}
use Rattle.sheet.specs.Expression.{Expr, nothing, result, in_turn, if_then, if_else, Scope, Parsed, Passed, read_expr}
use Rattle.sheet.specs.Statement.{is_register, Form, an_empty, an_assign, a_later, a_sequence, an_if, an_if_else, a_while, a_forever, a_wait, form_of}
use Rattle.sheet.specs.Functions.{Bodied, body_form, read_body}
use Rattle.sheet.proofs.Reading.{no≢ok, ok-injective, bind_ok, check-ok, byte-ok}
use Rattle.sheet.proofs.Expression.{Reads, a-variable, a-constant, an-unknown, a-unary, a-binary, a-conditional, a-call}
use Rattle.sheet.proofs.Expression.{ReadsAll, no_arguments, an-argument, derive, reads-after}
use Rattle.sheet.proofs.Statements.{form_map, form-map}
use Rattle.bodies.specs.Steps.{size_of}

pub data ReadsBody (c : Scope) (s : List ℕ) : ℕ → ℕ → Bodied → Type 0 where
  an-empty : {d p : ℕ} → p < length s → get_or s p 0 ≡ 0x00 → ReadsBody c s (suc d) p (record { body = nothing; next = p + 1 })
  a-result : {d p : ℕ} {e : Parsed Expr} → p + 1 < length s → get_or s p 0 ≡ 0x03 → read_expr 16 c s (p + 2) ≡ ok e
      → ReadsBody c s (suc d) p (record { body = result e.item; next = e.next })
  in-turn : {d p : ℕ} {a b : Bodied} → p < length s → get_or s p 0 ≡ 0x0C → ReadsBody c s d (p + 1) a → ReadsBody c s d a.next b
      → ReadsBody c s (suc d) p (record { body = in_turn a.body b.body; next = b.next })
  an-if : {d p : ℕ} {e : Parsed Expr} {a : Bodied} → p < length s → get_or s p 0 ≡ 0x06 → read_expr 16 c s (p + 1) ≡ ok e
      → ReadsBody c s d e.next a → ReadsBody c s (suc d) p (record { body = if_then e.item a.body; next = a.next })
  an-if-else : {d p : ℕ} {e : Parsed Expr} {a b : Bodied} → p < length s → get_or s p 0 ≡ 0x0E → read_expr 16 c s (p + 1) ≡ ok e
      → ReadsBody c s d e.next a → ReadsBody c s d a.next b
      → ReadsBody c s (suc d) p (record { body = if_else e.item a.body b.body; next = b.next })

-- Arguments end no earlier than they start.
all_after : {c : Scope} {s : List ℕ} {d n p : ℕ} {es : Passed} → ReadsAll c s d n p es → p ≤ es.next
all_after no_arguments = omega arith
all_after (an-argument x es) =
    let y = reads-after x in
    let z = all_after es in
    omega arith

-- An expression takes two bytes or more.
two_bytes : {c : Scope} {s : List ℕ} (d : ℕ) {p : ℕ} {q : Parsed Expr} → Reads c s d p q → p + 2 ≤ q.next
two_bytes {c = c} {s = s} zero {p = p} {q = q} x' = elim x' [ ]
two_bytes (suc d) (a-variable m h e l) = omega arith
two_bytes (suc d) (a-constant m w h e l) = omega arith
two_bytes (suc d) (an-unknown m w) = omega arith
two_bytes (suc d) (a-unary m o a) = let x = reads-after a in omega arith
two_bytes (suc d) (a-binary m o a b e) =
    let x = reads-after a in
    let y = reads-after b in
    omega arith
two_bytes (suc d) (a-conditional m o q a b e) =
    let x = reads-after q in
    let y = reads-after a in
    let z = reads-after b in
    omega arith
two_bytes (suc d) (a-call m h e l f es w) = all_after es

module _ (c : Scope) (s : List ℕ) where
  derive-form : (d p : ℕ) → ((i : ℕ) (b : Bodied) → read_body d c s i ≡ ok b → ReadsBody c s d i b) → (k : Form) {b : Bodied} → p < length s
      → get_or s p 0 ≡ form_map k → body_form (read_body d c s) c s p k ≡ ok b → ReadsBody c s (suc d) p b
  unfolding body_form form_map
  derive-form d p inner an_empty l m h = rw (← ok-injective h) (an-empty l m)
  derive-form d p inner an_assign l m h =
      let t = bind_ok (byte_at s (p + 1)) _ h in
      let r = check-ok (is_register c t.0) 9 (p + 1) _ t.2 in
      let e = bind_ok (read_expr 16 c s (p + 2)) _ r.1 in
      let w = check-ok (eqb e.0.width (get_or c.widths t.0 0)) 8 p _ e.2 in
      rw (← ok-injective w.1) (a-result (byte-ok s (p + 1) t.1).0 m e.1)
  derive-form d p inner a_later l m h = absurd (no≢ok h)
  derive-form d p inner a_sequence l m h =
      let a = bind_ok (read_body d c s (p + 1)) _ h in
      let b = bind_ok (read_body d c s a.0.next) _ a.2 in
      rw (← ok-injective b.2) (in-turn l m (inner (p + 1) a.0 a.1) (inner a.0.next b.0 b.1))
  derive-form d p inner an_if l m h =
      let e = bind_ok (read_expr 16 c s (p + 1)) _ h in
      let a = bind_ok (read_body d c s e.0.next) _ e.2 in
      rw (← ok-injective a.2) (an-if l m e.1 (inner e.0.next a.0 a.1))
  derive-form d p inner an_if_else l m h =
      let e = bind_ok (read_expr 16 c s (p + 1)) _ h in
      let a = bind_ok (read_body d c s e.0.next) _ e.2 in
      let b = bind_ok (read_body d c s a.0.next) _ a.2 in
      rw (← ok-injective b.2) (an-if-else l m e.1 (inner e.0.next a.0 a.1) (inner a.0.next b.0 b.1))
  derive-form d p inner a_while l m h = absurd (no≢ok h)
  derive-form d p inner a_forever l m h = absurd (no≢ok h)
  derive-form d p inner a_wait l m h = absurd (no≢ok h)

  pub derive-body : (d p : ℕ) {b : Bodied} → read_body d c s p ≡ ok b → ReadsBody c s d p b
  unfolding read_body
  derive-body zero p h = absurd (no≢ok (bind_ok (byte_at s p) _ h).2)
  derive-body (suc d) p h =
      let m = bind_ok (byte_at s p) _ h in
      let x = byte-ok s p m.1 in
      let k = bind_ok (form_of m.0 p) _ m.2 in
      derive-form d p (λ i b e. derive-body d i e) k.0 x.0 (x.1 ∙ form-map m.0 p k.1) k.2

  -- Two bytes of an expression at least.
  expr-bytes : (p : ℕ) {e : Parsed Expr} → read_expr 16 c s p ≡ ok e → (p + 2 ≤ e.next) × (e.next ≤ length s)
  expr-bytes p h = let r = derive c s 16 p h in (two_bytes 16 r, (reads-after r).1)

  -- n instructions take 2n + 1 bytes or more, within the sheet.
  pub body_bytes : {d p : ℕ} {b : Bodied} → ReadsBody c s d p b → (p + 2 * size_of b.body + 1 ≤ b.next) × (b.next ≤ length s)
  unfolding size_of
  body_bytes (an-empty l m) = (omega arith, omega arith)
  body_bytes {p = p} (a-result l m e) = let x = expr-bytes (p + 2) e in (omega arith, x.1)
  body_bytes (in-turn l m a b) =
      let x = body_bytes a in
      let y = body_bytes b in
      (omega arith, y.1)
  body_bytes {p = p} (an-if l m e a) =
      let x = expr-bytes (p + 1) e in
      let y = body_bytes a in
      (omega arith, y.1)
  body_bytes {p = p} (an-if-else l m e a b) =
      let x = expr-bytes (p + 1) e in
      let y = body_bytes a in
      let z = body_bytes b in
      (omega arith, z.1)
