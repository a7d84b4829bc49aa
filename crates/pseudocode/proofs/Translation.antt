-- Laws of the translation: it has as many instructions as the size says, and it doesn't look at expressions.
use mathlib.Core.Path.{◌≡◌, refl, ap}
use Prim.Native.Nat.{ℕ, ◌+◌}
use native.Mathlib.Omega.{arith}
use mathlib.Core.List.{List, [], ◌∷◌, ◌++◌, map}
use lib.ListN.{length, length-append}
use Rattle.sheet.specs.Statement.{Stmt, empty, assign, later, sequence, if_then, if_else, while, forever, wait, size, map_stmt}
use Rattle.sheet.proofs.Trees.{size-map}
use Rattle.pseudocode.specs.Translation.{translate, thread_code, map_instr}

-- ---- translate and size

pub translate-size : {E : Type 0} (a : Stmt E) (n : ℕ) → length (translate a n) ≡ size a
unfolding translate size
translate-size empty n = refl
translate-size (assign t e) n = refl
translate-size (later t e) n = refl
translate-size (sequence a b) n =
    let x = translate-size a n in
    let y = translate-size b (n + size a) in
    simp length-append (omega arith)
translate-size (if_then e a) n = let x = translate-size a (n + 1) in omega arith
translate-size (if_else e a b) n =
    let x = translate-size a (n + 1) in
    let y = translate-size b (n + 2 + size a) in
    simp length-append (omega arith)
translate-size (while e a) n = let x = translate-size a (n + 1) in simp length-append (omega arith)
translate-size (forever a) n = let x = translate-size a n in simp length-append (omega arith)
translate-size (wait ts) n = refl

pub thread_code-size : {E : Type 0} (a : Stmt E) → length (thread_code a) ≡ size a + 1
unfolding thread_code size
thread_code-size a = translate-size (forever a) 0

-- ---- translate and f of each expression

map-append : {A B : Type 0} (f : A → B) (xs ys : List A) → map f (xs ++ ys) ≡ map f xs ++ map f ys
map-append f [] ys = refl
map-append f (x ∷ xs) ys = ap (λ zs. f x ∷ zs) (map-append f xs ys)

module _ {D E : Type 0} (f : D → E) where
  pub translate-map : (a : Stmt D) (n : ℕ) → translate (map_stmt f a) n ≡ map (map_instr f) (translate a n)
  unfolding translate map_stmt map_instr
  translate-map empty n = refl
  translate-map (assign t e) n = refl
  translate-map (later t e) n = refl
  translate-map (sequence a b) n =
      simp (size-map f a, translate-map a n, translate-map b (n + size a), map-append)
  translate-map (if_then e a) n = simp (size-map f a, translate-map a (n + 1))
  translate-map (if_else e a b) n =
      simp (size-map f a, size-map f b, translate-map a (n + 1), translate-map b (n + 2 + size a), map-append)
  translate-map (while e a) n = simp (size-map f a, translate-map a (n + 1), map-append)
  translate-map (forever a) n = simp (translate-map a n, map-append)
  translate-map (wait ts) n = refl

  pub thread_code-map : (a : Stmt D) → thread_code (map_stmt f a) ≡ map (map_instr f) (thread_code a)
  unfolding thread_code map_stmt
  thread_code-map a = translate-map (forever a) 0
