-- The ways through the reading of a call and of its arguments, on plain values: the function that a number names is the one
-- whose definition stands at its place, and each argument is held to its parameter's width.
use mathlib.Core.Path.{◌≡◌, refl, sym, ap, ◌∙◌}
use Prim.Native.Nat.{ℕ, zero, suc, ◌+◌, ◌-◌, ◌≤◌, ◌<◌}
use native.Mathlib.Omega.{arith}
use mathlib.Core.List.{List, [], ◌∷◌}
use mathlib.Core.Bool.{Bool, true, false, ◌&&◌}
use lib.ListN.{length, get_or, take, drop}
use lib.Seq.{take-length}
use lib.Dec.{eqb}
use borrow.Author.Tests.{eq-eqb, ne_eqb}
use Rattle.sheet.specs.Reading.{Res, ok, no}
use Rattle.sheet.specs.Expression.{Expr, Function, no_function, Scope, Parsed, a_call, function_at, Passed, arguments_at, same_widths, node}
use Rattle.sheet.specs.Answers.{expr_answer}
use Rattle.sheet.specs.Parts.{scope_of, definition_at, parameters_at, result_at, outline_at, outlines, arguments_answer}
use Rattle.sheet.specs.declared.ExprRead as ExprRead
use Rattle.sheet.specs.declared.ArgumentsRead as ArgumentsRead
use Rattle.sheet.proofs.Expression.{function-ok}
use Rattle.sheet.proofs.Answers.{answer-read, answer-refused, answer-arguments}
use Rattle.sheet.proofs.Nodes.{call-apart, call-made, arguments-made}
use Rattle.sheet.proofs.Outlines.{outlines-length, outlines-at, result-inside, result-behind}

pub positive : {n : ℕ} → (n ≡ 0 → ⊥) → 0 < n
positive {n = zero} h = absurd (h refl)
positive {n = suc n} h = omega arith

pub part_length : (n : ℕ) (l : List ℕ) → length (take n l) ≤ n
part_length zero l = omega arith
part_length (suc n) [] = omega arith
part_length (suc n) (x ∷ l) = let h = part_length n l in omega arith

-- ---- where the parameters stand

pub behind-of : (s : List ℕ) (d : ℕ) {f l : ℕ} → f ≡ parameters_at s d → l ≡ result_at s d → f ≤ l
behind-of s d e g = let h = result-behind s d in omega arith

pub inside_of : (s : List ℕ) (d : ℕ) {l : ℕ} → l ≡ result_at s d → l ≤ length s
inside_of s d g = let h = result-inside s d in omega arith

-- ---- the function that is named

pub function-below : (i g n : ℕ) (ws s ds : List ℕ) (k p : ℕ) {f : ℕ} → function_at (scope_of i g ws n (outlines s ds k)) s p ≡ ok f → f < k
function-below i g n ws s ds k p h =
    let a = (function-ok (scope_of i g ws n (outlines s ds k)) s p h).3 in
    let b = outlines-length s ds k in
    omega arith

-- Its parameters' widths are lent as a part of the sheet, from f to l, and its result's width stands at l.
pub record Outlined (fs : List Function) (n : ℕ) (s : List ℕ) (f l : ℕ) : Type 0 where
  pub parameters-are : (get_or fs n no_function).parameters ≡ take (l - f) (drop f s)
  pub result-is : (get_or fs n no_function).result ≡ get_or s l 0

pub outline-of : (s ds : List ℕ) (n k : ℕ) {d f l : ℕ} → d ≡ definition_at ds n → f ≡ parameters_at s d → l ≡ result_at s d → n < k → Outlined (outlines s ds k) n s f l
unfolding outline_at
outline-of s ds n k {d} {f} {l} e first last h =
    let o : get_or (outlines s ds k) n no_function ≡ outline_at s d = outlines-at s ds k n h ∙ ap (outline_at s) (sym e) in
    record {
      parameters-are = ap (λ (x : Function). x.parameters) o ∙ sym (λ i. take (last i - first i) (drop (first i) s));
      result-is = ap (λ (x : Function). x.result) o ∙ sym (λ i. get_or s (last i) 0);
    }

module _ (operand : ℕ → Res (Parsed Expr)) (fs : List Function) (s : List ℕ) (n f l : ℕ) (o : Outlined fs n s f l) where
  -- as many arguments as parameters
  counts : length (take (l - f) (drop f s)) ≡ length (get_or fs n no_function).parameters
  counts = ap length (sym o.parameters-are)

  pub named-arguments : (p : ℕ) {m q : ℕ} → arguments_at operand (length (take (l - f) (drop f s))) p ≡ no m q
      → arguments_at operand (length (get_or fs n no_function).parameters) p ≡ no m q
  named-arguments p h = rw (← counts) h

  named-read : (p : ℕ) {es : Passed} → arguments_at operand (length (take (l - f) (drop f s))) p ≡ ok es
      → arguments_at operand (length (get_or fs n no_function).parameters) p ≡ ok es
  named-read p h = rw (← counts) h

module _ (operand : ℕ → Res (Parsed Expr)) (c : Scope) (s : List ℕ) (p n f l : ℕ) {next : ℕ} {fits : Bool} (named : function_at c s (p + 1) ≡ ok n)
    (o : Outlined c.functions n s f l)
    (read : (es : Passed) × (arguments_at operand (length (take (l - f) (drop f s))) (p + 2) ≡ ok es) × (es.next ≡ next)
    × (fits ≡ same_widths (take (l - f) (drop f s)) es.widths)) where
  same-widths : {b : Bool} → fits ≡ b → same_widths (get_or c.functions n no_function).parameters read.0.widths ≡ b
  same-widths e = ap (λ (ps : List ℕ). same_widths ps read.0.widths) o.parameters-are ∙ sym read.3 ∙ e

  pub call-answer : {w : ℕ} → fits ≡ true → w ≡ get_or s l 0 → ExprRead.TheVariants.Read next w ≡ expr_answer (node operand c s p a_call)
  call-answer {w} t e =
      sym (λ i. ExprRead.TheVariants.Read (read.2 i) w)
      ∙ answer-read (call-made operand c s p named (named-read operand c.functions s n f l o (p + 2) read.1) (same-widths t)) (e ∙ sym o.result-is)

  pub call-wide : fits ≡ false → ExprRead.TheVariants.Refused 8 p ≡ expr_answer (node operand c s p a_call)
  call-wide t = answer-refused (call-apart operand c s p named (named-read operand c.functions s n f l o (p + 2) read.1) (same-widths t))

-- ---- the arguments, one for each parameter

pub none-same : (ps : List ℕ) → length ps ≡ 0 → true ≡ same_widths ps []
unfolding same_widths
none-same [] h = refl
none-same (u ∷ us) h = absurd (omega arith)

-- the others: all but the first
abbrev pub others : List ℕ → List ℕ
others ps = take (length ps - 1) (drop 1 ps)

others-are : (u : ℕ) (us : List ℕ) → others (u ∷ us) ≡ us
others-are u us = let e : length (u ∷ us) - 1 ≡ length us = omega arith in ap (λ (k : ℕ). take k us) e ∙ take-length us

others-count : (ps : List ℕ) → (length ps ≡ 0 → ⊥) → length (others ps) ≡ length ps - 1
others-count [] h = absurd (h refl)
others-count (u ∷ us) h = let e : length us ≡ length (u ∷ us) - 1 = omega arith in ap length (others-are u us) ∙ e

same_next : (ps : List ℕ) (w : ℕ) (ws : List ℕ) {b : Bool} → (length ps ≡ 0 → ⊥) → eqb (get_or ps 0 0) w ≡ b
    → same_widths ps (w ∷ ws) ≡ (b && same_widths (others ps) ws)
unfolding same_widths
same_next [] w ws h e = absurd (h refl)
same_next (u ∷ us) w ws h e = λ i. e i && same_widths (sym (others-are u us) i) ws

module _ (operand : ℕ → Res (Parsed Expr)) (ps : List ℕ) (some : length ps ≡ 0 → ⊥) where
  pub others-refused : (p : ℕ) {m q : ℕ} → arguments_at operand (length (others ps)) p ≡ no m q → arguments_at operand (length ps - 1) p ≡ no m q
  others-refused p h = rw (← others-count ps some) h

  module _ (p : ℕ) {next : ℕ} {fits : Bool} {e : Parsed Expr} (first : operand p ≡ ok e)
      (read : (es : Passed) × (arguments_at operand (length (others ps)) e.next ≡ ok es) × (es.next ≡ next) × (fits ≡ same_widths (others ps) es.widths)) where
    rest_read : arguments_at operand (length ps - 1) e.next ≡ ok read.0
    rest_read = rw (← others-count ps some) read.1

    pub arguments-same : get_or ps 0 0 ≡ e.width → ArgumentsRead.TheVariants.Read next fits ≡ arguments_answer ps (arguments_at operand (length ps) p)
    arguments-same w =
        answer-arguments ps (arguments-made operand (length ps) p some first rest_read) read.2
        (read.3 ∙ sym (same_next ps e.width read.0.widths some (eq-eqb _ _ w)))

    pub arguments-other : (get_or ps 0 0 ≡ e.width → ⊥) → ArgumentsRead.TheVariants.Read next false ≡ arguments_answer ps (arguments_at operand (length ps) p)
    arguments-other w =
        answer-arguments ps (arguments-made operand (length ps) p some first rest_read) read.2
        (sym (same_next ps e.width read.0.widths some (ne_eqb _ _ w)))
