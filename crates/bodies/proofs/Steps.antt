-- Laws of the instructions of a body: as many as its size says, and what it is for a list of them to lie from a place on.
use mathlib.Core.Path.{◌≡◌, refl}
use Prim.Native.Nat.{ℕ, ◌+◌}
use native.Mathlib.Omega.{arith}
use mathlib.Core.List.{List, [], ◌∷◌, ◌++◌}
use lib.ListN.{length, length-append}
use Rattle.sheet.specs.Expression.{Body, nothing, result, in_turn, if_then, if_else}
use Rattle.bodies.specs.Steps.{Step, size_of, lay_out}

pub lay_out-size : (b : Body) (n : ℕ) → length (lay_out b n) ≡ size_of b
unfolding lay_out size_of
lay_out-size nothing n = refl
lay_out-size (result e) n = refl
lay_out-size (in_turn a b) n =
    let x = lay_out-size a n in
    let y = lay_out-size b (n + size_of a) in
    simp length-append (omega arith)
lay_out-size (if_then e a) n = let x = lay_out-size a (n + 1) in omega arith
lay_out-size (if_else e a b) n =
    let x = lay_out-size a (n + 1) in
    let y = lay_out-size b (n + 2 + size_of a) in
    simp length-append (omega arith)

-- ---- instructions that lie from a place on

pub data Lies {E : Type 0} (fetch : ℕ → Step E) : ℕ → List (Step E) → Type 0 where
  none : {p : ℕ} → Lies fetch p []
  more : {p : ℕ} {i : Step E} {js : List (Step E)} → fetch p ≡ i → Lies fetch (p + 1) js → Lies fetch p (i ∷ js)

module _ {E : Type 0} {fetch : ℕ → Step E} where
  pub lies-first : {p : ℕ} (is js : List (Step E)) → Lies fetch p (is ++ js) → Lies fetch p is
  lies-first [] js h = none
  lies-first {p = p} (i ∷ is) js (more x h) = more x (lies-first {p = p + 1} is js h)

  pub lies-second : {p : ℕ} (is : List (Step E)) {js : List (Step E)} (q : ℕ) → q ≡ p + length is → Lies fetch p (is ++ js) → Lies fetch q js
  lies-second {p} [] q e h = let z : q ≡ p = omega arith in rw z h
  lies-second {p} (i ∷ is) q e (more x h) = lies-second {p = p + 1} is q (omega arith) h

  pub lies-here : {p : ℕ} {i : Step E} {js : List (Step E)} → Lies fetch p (i ∷ js) → fetch p ≡ i
  lies-here (more x h) = x

  pub lies-on : {p : ℕ} {i : Step E} {js : List (Step E)} → Lies fetch p (i ∷ js) → Lies fetch (p + 1) js
  lies-on (more x h) = h
