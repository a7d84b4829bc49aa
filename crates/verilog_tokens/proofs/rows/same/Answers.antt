-- `verilog_tokens::rows::same` meets its contract: what `==` answers is `same_text`. Assumes nothing.
use mathlib.Core.Path.{◌≡◌, refl, ap, ◌∙◌}
use mathlib.Core.Bool.{Bool, true, false, ◌&&◌}
use mathlib.Core.List.{List, [], ◌∷◌}
use Prim.Native.Nat.{ℕ}
use lib.Dec.{eqb}
use lib.Pointwise.{pointwise}
use Rattle.values.specs.Values.{pick}
use Rattle.naming.specs.Naming.{same_text}
use Rattle.verilog_tokens.proofs.rows.same.Goals as goal

both : (x y : Bool) → (x && y) ≡ pick x y false
both true y = refl
both false y = refl

pairs : (s t : List ℕ) → pointwise eqb s t ≡ same_text s t
unfolding same_text
pairs [] [] = refl
pairs [] (b ∷ t) = refl
pairs (a ∷ s) [] = refl
pairs (a ∷ s) (b ∷ t) = both (eqb a b) (pointwise eqb s t) ∙ ap (λ x. pick (eqb a b) x false) (pairs s t)

pub returns : goal.returns
returns c =
    c.eq.ensures ∙ pairs c.args.a.now c.args.b.now
