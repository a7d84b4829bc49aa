-- Which width an expression has (document 01, "The sheet"; document 02, [5]), calls included: a call's tree holds its body, so
-- that nothing but the widths of the variables is asked for. An expression of any depth can have a width.
use Rattle.std.specs.Prelude.{◌≡◌, ℕ, ◌^◌, ◌≤◌, ◌<◌, List, [], ◌∷◌, ◌++◌, length, get_or}
use Rattle.values.specs.Operators.{unary_width, binary_width}
use Rattle.sheet.specs.Expression.{Expr, variable, constant, unknown, unary, binary, conditional, call, Arguments, no_more, argument}
use Rattle.sheet.specs.Expression.{Body, nothing, result, in_turn, if_then, if_else}

unfoldable mutual
  -- e has width w, over variables of widths ws.
  pub Typed : List ℕ → Expr → ℕ → Type 0
  -- It names one of the variables, and has its width.
  Typed ws (variable v) w = (v < length ws) × (w ≡ get_or ws v 0)
  -- "A value is a number below 2^width"; widths are 1 to 32.
  Typed ws (constant k v) w = (1 ≤ k) × (k ≤ 32) × (v < 2 ^ k) × (w ≡ k)
  Typed ws (unknown k) w = (1 ≤ k) × (k ≤ 32) × (w ≡ k)
  -- "11h with operators 1 ~, 2 !"; "2, 8 and 9 give width 1".
  Typed ws (unary o k a) w = (1 ≤ o) × (o ≤ 2) × Typed ws a k × (w ≡ unary_width o k)
  -- "Operands of 3 to 9 have equal widths, as have the last two of 10"
  Typed ws (binary o k a b) w = (3 ≤ o) × (o ≤ 9) × Typed ws a k × Typed ws b k × (w ≡ binary_width o k)
  Typed ws (conditional c a b) w = ((k : ℕ) × Typed ws c k) × Typed ws a w × Typed ws b w
  -- The arguments have the parameters' widths ps, and the body assigns its result's width k.
  Typed ws (call n k ys b) w = (1 ≤ k) × (k ≤ 32) × ((ps : List ℕ) × AllTyped ws ys ps × BodyTyped (ps ++ (k ∷ [])) b k) × (w ≡ k)

  pub AllTyped : List ℕ → Arguments → List ℕ → Type 0
  AllTyped ws no_more [] = Unit {0}
  AllTyped ws no_more (p ∷ ps) = ⊥
  AllTyped ws (argument e ys) [] = ⊥
  AllTyped ws (argument e ys) (p ∷ ps) = Typed ws e p × AllTyped ws ys ps

  -- Every expression that b assigns has width k; a condition has any.
  pub BodyTyped : List ℕ → Body → ℕ → Type 0
  BodyTyped ws nothing k = Unit {0}
  BodyTyped ws (result e) k = Typed ws e k
  BodyTyped ws (in_turn a b) k = BodyTyped ws a k × BodyTyped ws b k
  BodyTyped ws (if_then e a) k = ((j : ℕ) × Typed ws e j) × BodyTyped ws a k
  BodyTyped ws (if_else e a b) k = ((j : ℕ) × Typed ws e j) × BodyTyped ws a k × BodyTyped ws b k
