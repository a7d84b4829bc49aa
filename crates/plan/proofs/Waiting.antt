-- Where the instruction at a place waits, it is a wait with the terms of that place. Assumes nothing.
use mathlib.Core.Path.{◌≡◌, refl, ap}
use mathlib.Core.Bool.{Bool, true, false}
use mathlib.Core.List.{List}
use Prim.Native.Nat.{ℕ}
use lib.Dec.{ltb, eqb}
use lib.ListN.{get_or}
use Rattle.values.specs.Values.{pick}
use Rattle.pseudocode.specs.declared.EdgeTerms.{EdgeTerms}
use Rattle.plan.specs.declared.Instruction.{Instruction}
use Rattle.plan.specs.declared.Instruction.TheVariants.{Wait}
use Rattle.plan.specs.Sections.{code_place}
use Rattle.plan.specs.Plan.{decode, fetch_at, terms_at, waits_at}

chosen : (i k : Bool) (T U : EdgeTerms) (b c : Instruction) → pick i k false ≡ true → pick i (pick k (Wait T) b) c ≡ Wait (pick i T U)
chosen true true T U b c h = refl
chosen true false T U b c h = ap (λ (t : Bool). pick t (Wait T) b) h
chosen false k T U b c h = ap (λ (t : Bool). pick t (Wait U) c) h

pub wait-fetched : (ws : List ℕ) (i p : ℕ) → waits_at ws i p ≡ true → fetch_at ws i p ≡ Wait (terms_at ws i p)
unfolding waits_at fetch_at decode terms_at
wait-fetched ws i p h = chosen (ltb i 8) (eqb (get_or ws (code_place i p) 0) 0) _ _ _ _ h
