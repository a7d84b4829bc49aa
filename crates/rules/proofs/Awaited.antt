-- A wait other than the single posedge of input 0: each way through the code. Assumes nothing.
use mathlib.Core.Path.{◌≡◌, refl}
use mathlib.Core.Bool.{Bool, true, false, not, ◌&&◌}
use borrow.Author.Tests.{eq-eqb, ne_eqb}
use Rattle.pseudocode.specs.declared.EdgeTerms.{EdgeTerms}
use Rattle.pseudocode.specs.declared.Instruction.{Instruction}
use Rattle.pseudocode.specs.declared.Instruction.TheVariants.{Wait}
use Rattle.nextstate.specs.Rules.{is_posedge}
use Rattle.rules.specs.Judging.{other_wait_of}

and-false : (b : Bool) → (b && false) ≡ false
and-false true = refl
and-false false = refl

and-true : (b : Bool) → (b && true) ≡ b
and-true true = refl
and-true false = refl

module _ {x : Instruction} {t : EdgeTerms} (e : x ≡ Wait t) where
  pub other-count : (t.count ≡ 1 → ⊥) → true ≡ other_wait_of x
  unfolding other_wait_of
  other-count h = rw (e, ne_eqb _ _ h)

  pub other-variable : t.count ≡ 1 → (t.t0.variable ≡ 0 → ⊥) → true ≡ other_wait_of x
  unfolding other_wait_of
  other-variable n h = rw (e, eq-eqb _ _ n, ne_eqb _ _ h, and-false (is_posedge t.t0.edge))

  pub other_edge : {b : Bool} → t.count ≡ 1 → t.t0.variable ≡ 0 → b ≡ not (is_posedge t.t0.edge) → b ≡ other_wait_of x
  unfolding other_wait_of
  other_edge n v h = rw (e, eq-eqb _ _ n, eq-eqb _ _ v, and-true (is_posedge t.t0.edge)) h
