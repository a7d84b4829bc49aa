-- The instructions of a statement that was read are sound: targets are registers of their expressions' widths, and no
-- place leads out of the thread. Assumes nothing.
use mathlib.Core.Path.{◌≡◌, refl, subst}
use mathlib.Core.Bool.{Bool, true, false, ◌&&◌}
use mathlib.Core.List.{List, [], ◌∷◌, ◌++◌}
use Prim.Native.Nat.{ℕ, zero, suc, ◌+◌, ◌≤◌, ◌<◌}
use native.Mathlib.Nat.{zero-add}
use native.Mathlib.Omega.{arith}
use lib.ListN.{length, get_or}
use borrow.Author.Tests.{leb-true, ltb-true}
use Rattle.sheet.specs.declared.EdgeTerm.{EdgeTerm}
use Rattle.sheet.specs.Reading.{ok}
use Rattle.sheet.specs.Expression.{Expr, Parsed, tree, Scope}
use Rattle.sheet.specs.Statement.{size, is_register, Body}
use Rattle.sheet.proofs.Statements.{ReadsTerms, no-terms, a-term, ReadsStmt, an-empty, an-assign, a-later, a-sequence, an-if, an-if-else, a-while, a-forever, a-wait}
use Rattle.evaluation.proofs.Evaluation.{TypedFunctions}
use Rattle.pseudocode.specs.Translation.{Instr, go, ifnot, translate, thread_code}
use Rattle.pseudocode.proofs.Translation.{translate-size, thread_code-size}
use Rattle.soundness.specs.Soundness.{SoundExpr, SoundTarget, SoundInstr, sound-wait, sound-set, sound-later, sound-go, sound-ifnot, SoundCode}
use Rattle.soundness.proofs.Expression.{tree-sound}

-- ---- targets and terms

&&-both : (a b : Bool) → (a && b) ≡ true → (a ≡ true) × (b ≡ true)
&&-both true b h = (refl, h)
&&-both false b h = (h, cc)

pub target_sound : (c : Scope) (s : List ℕ) (t p : ℕ) {q : Parsed Expr} → TypedFunctions c.functions → is_register c t ≡ true →
    tree s c p ≡ ok q → q.width ≡ get_or c.widths t 0 → SoundTarget c t q.item
unfolding is_register
target_sound c s t p fs r h e =
    let x = &&-both _ _ r in
    record { not-input = leb-true _ _ x.0; register = ltb-true _ _ x.1; expression = rw (← e) (tree-sound c s p fs h) }

pub terms-within : {ws s : List ℕ} {n at : ℕ} {ts : List EdgeTerm} → ReadsTerms ws s n at ts →
    (k : ℕ) (other : EdgeTerm) → k < length ts → (get_or ts k other).variable < length ws
terms-within no-terms k other h = absurd (omega arith)
terms-within (a-term e h x l ts) zero other b = l
terms-within (a-term e h x l ts) (suc k) other b = terms-within ts k other (omega arith)

-- ---- instructions that stand from place p on in a code of n

pub data SoundFrom (c : Scope) (n : ℕ) : ℕ → List (Instr Expr) → Type 0 where
  no_more : {p : ℕ} → SoundFrom c n p []
  one_more : {p : ℕ} {i : Instr Expr} {is : List (Instr Expr)} → SoundInstr c n p i → SoundFrom c n (p + 1) is →
      SoundFrom c n p (i ∷ is)

module _ {c : Scope} {n : ℕ} where
  from_at : {p q : ℕ} {is : List (Instr Expr)} → p ≡ q → SoundFrom c n p is → SoundFrom c n q is
  from_at {is = is} e h = subst (λ (x : ℕ). SoundFrom c n x is) e h

  from-append : {p : ℕ} {is js : List (Instr Expr)} → SoundFrom c n p is → SoundFrom c n (p + length is) js →
      SoundFrom c n p (is ++ js)
  from-append {p} no_more y = from_at (omega arith) y
  from-append {p} (one_more i x) y = one_more i (from-append x (from_at (omega arith) y))

  -- The instruction at p, which may go on to place g, and those after it.
  from-go : (p g : ℕ) {is : List (Instr Expr)} → g < n → SoundFrom c n (p + 1) is → SoundFrom c n p (go g ∷ is)
  from-go p g h x = one_more (sound-go h) x

  from-ifnot : (p g : ℕ) {w : ℕ} {e : Expr} {is : List (Instr Expr)} → p + 1 < n → g < n → SoundExpr c w e →
      SoundFrom c n (p + 1) is → SoundFrom c n p (ifnot e g ∷ is)
  from-ifnot p g l h e x = one_more (sound-ifnot _ l h e) x

  pub from-get_d : {p : ℕ} {is : List (Instr Expr)} → SoundFrom c n p is → (k : ℕ) → k < length is →
      SoundInstr c n (p + k) (get_or is k (go 0))
  from-get_d no_more k h = absurd (omega arith)
  from-get_d {p} (one_more i x) zero h = let e : p + 0 ≡ p = omega arith in rw e i
  from-get_d {p} (one_more i x) (suc k) h = let e : p + suc k ≡ p + 1 + k = omega arith in rw e (from-get_d x k (omega arith))

-- ---- translate

-- A statement's instructions are followed by one more at least, its thread's last `go`.
pub translate-sound : {c : Scope} {s : List ℕ} {d p : ℕ} {b : Body Expr} → TypedFunctions c.functions → (n at : ℕ) → at + size b.stmt < n →
    ReadsStmt (tree s) c s d p b → SoundFrom c n at (translate b.stmt at)
unfolding translate size
translate-sound fs n at l (an-empty h m) = no_more
translate-sound {c} {s} {p = p} fs n at l (an-assign {t = t} h m x r e w) =
    one_more {p = at} (sound-set (omega arith) (target_sound c s t (p + 2) fs r e w)) no_more
translate-sound {c} {s} {p = p} fs n at l (a-later {t = t} h m x r e w) =
    one_more {p = at} (sound-later (omega arith) (target_sound c s t (p + 2) fs r e w)) no_more
translate-sound fs n at l (a-sequence {a = a} {b = b} h m x y) =
    let e = translate-size a.stmt at in
    from-append (translate-sound fs n at (omega arith) x)
    (from_at (omega arith) (translate-sound fs n (at + size a.stmt) (omega arith) y))
translate-sound {c} {s} {p = p} fs n at l (an-if {a = a} h m e x) =
    from-ifnot at (at + 1 + size a.stmt) (omega arith) (omega arith) (tree-sound c s (p + 1) fs e)
    (translate-sound fs n (at + 1) (omega arith) x)
translate-sound {c} {s} {p = p} fs n at l (an-if-else {a = a} {b = b} h m e x y) =
    let f = translate-size a.stmt (at + 1) in
    from-ifnot at (at + 2 + size a.stmt) (omega arith) (omega arith) (tree-sound c s (p + 1) fs e)
    (from-append (translate-sound fs n (at + 1) (omega arith) x)
    (from-go _ (at + 2 + size a.stmt + size b.stmt) (omega arith)
    (from_at (omega arith) (translate-sound fs n (at + 2 + size a.stmt) (omega arith) y))))
translate-sound {c} {s} {p = p} fs n at l (a-while {a = a} h m e x) =
    from-ifnot at (at + size a.stmt + 2) (omega arith) (omega arith) (tree-sound c s (p + 1) fs e)
    (from-append (translate-sound fs n (at + 1) (omega arith) x) (from-go _ at (omega arith) no_more))
translate-sound fs n at l (a-forever h m x) =
    from-append (translate-sound fs n at (omega arith) x) (from-go _ at (omega arith) no_more)
translate-sound fs n at l (a-wait m w ts f) = one_more {p = at} (sound-wait (omega arith) (terms-within ts)) no_more

-- ---- thread_code

thread-from : {c : Scope} {s : List ℕ} {d p : ℕ} {b : Body Expr} → TypedFunctions c.functions → (n : ℕ) → n ≡ size b.stmt + 1 →
    ReadsStmt (tree s) c s d p b → SoundFrom c n 0 (thread_code b.stmt)
unfolding thread_code translate
thread-from fs n e r = from-append (translate-sound fs n 0 (omega arith) r) (from-go _ 0 (omega arith) no_more)

pub thread-sound : {c : Scope} {s : List ℕ} {d p : ℕ} {b : Body Expr} → TypedFunctions c.functions → size b.stmt + 1 ≤ 256 →
    ReadsStmt (tree s) c s d p b → SoundCode c (thread_code b.stmt)
thread-sound {b = b} fs l r =
    let e = thread_code-size b.stmt in
    let x = thread-from fs _ e r in
    record { some = omega arith; most = omega arith; instruction = λ k h. rw zero-add at (from-get_d x k h) }
