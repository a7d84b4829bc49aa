-- For a reviewer: the code table of an accepted sheet with functions holds the instructions of each function's body.
-- proofs/Laying proves it.
use Rattle.std.specs.Prelude.{◌≡◌, ℕ, ◌+◌, ◌<◌, List, [], ◌∷◌, ◌++◌, length, get_or, take}
use Rattle.sheet.specs.Reading.{Res, ok}
use Rattle.sheet.specs.Expression.{Expr, Function, no_function, Scope, Parsed, tree}
use Rattle.sheet.specs.Functions.{body_scope}
use Rattle.sheet.specs.Module.{Sheet, whole_sheet}
use Rattle.sheet.specs.Answers.{definitions_of}
use Rattle.bodies.specs.declared.Move.{Move}
use Rattle.bodies.specs.declared.Move.TheVariants.{Set, Go, IfNot}
use Rattle.bodies.specs.Steps.{Step, set!, go, ifnot, size_of, lay_out}
use Rattle.bodies.specs.Laying.{Laid, lay_at, fetch_at}

-- What may be named inside the body of function n: its parameters and its result, and the functions before it.
abbrev pub own_scope : ℕ → List Function → ℕ → Scope
own_scope declared fs n =
    let f = get_or fs n no_function in
    body_scope declared (take n fs) (length f.parameters) (f.parameters ++ (f.result ∷ []))

-- An instruction of a body, and the one that was fetched for it: its expression is the one that is read at that place.
pub data Fetched (c : Scope) (s : List ℕ) : Step Expr → Move → Type 0 where
  a-set : {at : ℕ} {e : Parsed Expr} → tree s c at ≡ ok e → Fetched c s (set! e.item) (Set at)
  a-go : {g : ℕ} → Fetched c s (go g) (Go g)
  an-ifnot : {g at : ℕ} {e : Parsed Expr} → tree s c at ≡ ok e → Fetched c s (ifnot e.item g) (IfNot g at)

-- The table holds the body of function n, from its start to its end.
pub record Holds (s : List ℕ) (declared : ℕ) (fs : List Function) (c : Laid) (n : ℕ) : Type 0 where
  pub size : get_or c.ends n 0 ≡ get_or c.starts n 0 + size_of (get_or fs n no_function).body
  pub fetched : (i : ℕ) → i < size_of (get_or fs n no_function).body
      → Fetched (own_scope declared fs n) s (get_or (lay_out (get_or fs n no_function).body (get_or c.starts n 0)) i (go 0))
      (fetch_at c.code (get_or c.starts n 0 + i))

-- Of every sheet that is accepted, whatever the lent table held before.
unfoldable pub BodiesLaid : Type 1
BodiesLaid = (E : Type 0) (expr : Scope → ℕ → Res (Parsed E)) (s code : List ℕ) (r : Sheet E) → whole_sheet expr s ≡ ok r → length code ≡ 8192
    → (n : ℕ) → n < length r.contents.scope.functions
    → Holds s r.contents.scope.declared r.contents.scope.functions
    (lay_at s (definitions_of r.definitions) r.contents.scope.declared code) n
