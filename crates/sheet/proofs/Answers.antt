-- Laws of the answers: what an answer says of the definition that it equals, and which answer a definition has.
use mathlib.Core.Path.{◌≡◌, refl}
use Prim.Native.Nat.{ℕ}
use mathlib.Core.Bool.{Bool}
use mathlib.Core.List.{List}
use native.Mathlib.Omega.{arith}
use Rattle.sheet.specs.Reading.{Res, ok, no}
use Rattle.sheet.specs.Expression.{Parsed, Passed, same_widths}
use Rattle.sheet.specs.Statement.{Stmt, Body, size, narrow_all}
use Rattle.sheet.specs.Answers.{expr_answer, stmt_answer}
use Rattle.sheet.specs.Parts.{byte_answer, arguments_answer, terms_answer}
use Rattle.sheet.specs.declared.EdgeTerm.{EdgeTerm}
use Rattle.sheet.specs.declared.ByteRead as ByteRead
use Rattle.sheet.specs.declared.ExprRead as ExprRead
use Rattle.sheet.specs.declared.ArgumentsRead as ArgumentsRead
use Rattle.sheet.specs.declared.TermsRead as TermsRead
use Rattle.sheet.specs.declared.StmtRead as StmtRead

-- ---- byte_answer

pub byte-read : {x : Res ℕ} {r : ByteRead.ByteRead} {b : ℕ} → r ≡ byte_answer x → r ≡ ByteRead.TheVariants.Byte b → x ≡ ok b
unfolding byte_answer
byte-read {x = ok a} p q = cc
byte-read {x = no n a} p q = cc

pub byte-refused : {x : Res ℕ} {r : ByteRead.ByteRead} {n p : ℕ} → r ≡ byte_answer x → r ≡ ByteRead.TheVariants.Refused n p → x ≡ no n p
unfolding byte_answer
byte-refused {x = ok a} p q = cc
byte-refused {x = no n a} p q = cc

pub answer-byte : {x : Res ℕ} {b : ℕ} → x ≡ ok b → ByteRead.TheVariants.Byte b ≡ byte_answer x
unfolding byte_answer
answer-byte h = rw h

pub answer-byte-refused : {x : Res ℕ} {n p : ℕ} → x ≡ no n p → ByteRead.TheVariants.Refused n p ≡ byte_answer x
unfolding byte_answer
answer-byte-refused h = rw h

-- ---- arguments_answer

module _ (ps : List ℕ) where
  pub arguments-read : {x : Res Passed} {r : ArgumentsRead.ArgumentsRead} {n : ℕ} {t : Bool} → r ≡ arguments_answer ps x → r ≡ ArgumentsRead.TheVariants.Read n t
      → (es : Passed) × (x ≡ ok es) × (es.next ≡ n) × (t ≡ same_widths ps es.widths)
  unfolding arguments_answer
  arguments-read {x = ok es} {n = n} {t = t} p q = let h : t ≡ same_widths ps es.widths = cc in let e : es.next ≡ n = cc in (es, refl, e, h)
  arguments-read {x = no n a} p q = let z : ◌≡◌ {A = ℕ} 0 1 = cc in absurd (omega arith)

  pub arguments-refused : {x : Res Passed} {r : ArgumentsRead.ArgumentsRead} {n p : ℕ} → r ≡ arguments_answer ps x → r ≡ ArgumentsRead.TheVariants.Refused n p
      → x ≡ no n p
  unfolding arguments_answer
  arguments-refused {x = ok a} p q = cc
  arguments-refused {x = no n a} p q = cc

  pub answer-arguments : {x : Res Passed} {es : Passed} {n : ℕ} {t : Bool} → x ≡ ok es → es.next ≡ n → t ≡ same_widths ps es.widths
      → ArgumentsRead.TheVariants.Read n t ≡ arguments_answer ps x
  unfolding arguments_answer
  answer-arguments h e g = rw (h, ← e, g)

  pub answer-arguments-refused : {x : Res Passed} {n p : ℕ} → x ≡ no n p → ArgumentsRead.TheVariants.Refused n p ≡ arguments_answer ps x
  unfolding arguments_answer
  answer-arguments-refused h = rw h

-- ---- expr_answer

module _ {E : Type 0} where
  -- The tree is the only part that the answer leaves out.
  pub expr-read : {x : Res (Parsed E)} {r : ExprRead.ExprRead} {n w : ℕ} → r ≡ expr_answer x → r ≡ ExprRead.TheVariants.Read n w
      → (e : E) × (x ≡ ok (record { item = e; width = w; next = n }))
  unfolding expr_answer
  expr-read {x = ok a} {n = n} {w = w} p q =
      let hn : a.next ≡ n = cc in
      let hw : a.width ≡ w = cc in
      (a.item, λ i. ok (record { item = a.item; width = hw i; next = hn i }))
  expr-read {x = no n a} p q = let z : ◌≡◌ {A = ℕ} 0 1 = cc in absurd (omega arith)

  pub expr-refused : {x : Res (Parsed E)} {r : ExprRead.ExprRead} {n p : ℕ} → r ≡ expr_answer x → r ≡ ExprRead.TheVariants.Refused n p → x ≡ no n p
  unfolding expr_answer
  expr-refused {x = ok a} p q = cc
  expr-refused {x = no n a} p q = cc

  pub answer-read : {x : Res (Parsed E)} {e : Parsed E} {w : ℕ} → x ≡ ok e → w ≡ e.width
      → ExprRead.TheVariants.Read e.next w ≡ expr_answer x
  unfolding expr_answer
  answer-read h g = rw (h, g)

  pub answer-refused : {x : Res (Parsed E)} {n p : ℕ} → x ≡ no n p → ExprRead.TheVariants.Refused n p ≡ expr_answer x
  unfolding expr_answer
  answer-refused h = rw h

-- ---- terms_answer

module _ (ws : List ℕ) where
  pub terms-read : {x : Res (List EdgeTerm)} {r : TermsRead.TermsRead} {t : Bool} → r ≡ terms_answer ws x → r ≡ TermsRead.TheVariants.Read t
      → (ts : List EdgeTerm) × (x ≡ ok ts) × (t ≡ narrow_all ws ts)
  unfolding terms_answer
  terms-read {x = ok ts} {t = t} p q = let h : t ≡ narrow_all ws ts = cc in (ts, refl, h)
  terms-read {x = no n a} p q = let z : ◌≡◌ {A = ℕ} 0 1 = cc in absurd (omega arith)

  pub terms-refused : {x : Res (List EdgeTerm)} {r : TermsRead.TermsRead} {n p : ℕ} → r ≡ terms_answer ws x → r ≡ TermsRead.TheVariants.Refused n p
      → x ≡ no n p
  unfolding terms_answer
  terms-refused {x = ok a} p q = cc
  terms-refused {x = no n a} p q = cc

  pub answer-terms : {x : Res (List EdgeTerm)} {ts : List EdgeTerm} {t : Bool} → x ≡ ok ts → t ≡ narrow_all ws ts
      → TermsRead.TheVariants.Read t ≡ terms_answer ws x
  unfolding terms_answer
  answer-terms h g = rw (h, g)

  pub answer-terms-refused : {x : Res (List EdgeTerm)} {n p : ℕ} → x ≡ no n p → TermsRead.TheVariants.Refused n p ≡ terms_answer ws x
  unfolding terms_answer
  answer-terms-refused h = rw h

-- ---- stmt_answer

module _ {E : Type 0} where
  -- What was read where the answer says so: a statement of that size.
  pub record Sized (x : Res (Body E)) (n z : ℕ) : Type 0 where
    pub stmt : Stmt E
    pub read : x ≡ ok (record { stmt = stmt; next = n })
    pub size_is : z ≡ size stmt

  pub stmt-read : {x : Res (Body E)} {r : StmtRead.StmtRead} {n z : ℕ} → r ≡ stmt_answer x → r ≡ StmtRead.TheVariants.Read n z → Sized x n z
  unfolding stmt_answer
  stmt-read {x = ok b} {n = n} {z = z} p q =
      let hn : b.next ≡ n = cc in
      let hz : z ≡ size b.stmt = cc in
      record { stmt = b.stmt; read = λ i. ok (record { stmt = b.stmt; next = hn i }); size_is = hz }
  stmt-read {x = no n a} p q = let z : ◌≡◌ {A = ℕ} 0 1 = cc in absurd (omega arith)

  pub stmt-refused : {x : Res (Body E)} {r : StmtRead.StmtRead} {n p : ℕ} → r ≡ stmt_answer x → r ≡ StmtRead.TheVariants.Refused n p → x ≡ no n p
  unfolding stmt_answer
  stmt-refused {x = ok a} p q = cc
  stmt-refused {x = no n a} p q = cc

  pub answer-stmt : {x : Res (Body E)} {b : Body E} {z : ℕ} → x ≡ ok b → z ≡ size b.stmt
      → StmtRead.TheVariants.Read b.next z ≡ stmt_answer x
  unfolding stmt_answer
  answer-stmt h g = rw (h, g)

  pub answer-stmt-refused : {x : Res (Body E)} {n p : ℕ} → x ≡ no n p → StmtRead.TheVariants.Refused n p ≡ stmt_answer x
  unfolding stmt_answer
  answer-stmt-refused h = rw h
