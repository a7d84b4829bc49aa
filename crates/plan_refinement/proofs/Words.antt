-- What any words of a plan give of `PlanOf`: a place waits by its instruction, and there are 32 readers' marks. Assumes nothing.
use mathlib.Core.Path.{◌≡◌, refl, sym, ◌∙◌}
use mathlib.Core.Bool.{Bool, true, false}
use mathlib.Core.List.{List}
use Prim.Native.Nat.{ℕ, ◌%◌, ◌+◌}
use lib.Dec.{ltb, eqb}
use lib.ListN.{length, get_or}
use Rattle.values.specs.Values.{pick}
use Rattle.sheet.specs.Expression.{Expr}
use Rattle.pseudocode.specs.Translation.{Instr}
use Rattle.events.specs.Cycle.{is_wait}
use Rattle.masks.proofs.Masks.{length-bits}
use Rattle.plan.specs.declared.Expression.{Expression}
use Rattle.plan.specs.declared.Action.TheVariants.{Set, Later, Go, IfNot}
use Rattle.plan.specs.declared.Instruction.{Instruction}
use Rattle.plan.specs.declared.Instruction.TheVariants.{Wait, Act}
use Rattle.plan.specs.Sections.{code_place}
use Rattle.plan.specs.Plan.{Plan, plan_of, terms_from, decode, expression_at, fetch_at, waits_at, readers_at}
use Rattle.plan_refinement.specs.Refinement.{Fetched, a-wait, a-set, a-later, a-go, an-ifnot}

waiting : Instruction → Bool
waiting (Wait t) = true
waiting (Act a) = false

waiting-decode : (ws : List ℕ) (k n : ℕ) (e : Expression) → waiting (decode ws k n e) ≡ eqb k 0
unfolding decode waiting
waiting-decode ws k n e = by (eqb k 0) (eqb k 1) (eqb k 2) (eqb k 3)
  where
    by : (a b c d : Bool)
        → waiting
        (pick a (Wait (terms_from ws e.first n))
        (pick b (Act (Set n e)) (pick c (Act (Later n e)) (pick d (Act (Go n)) (Act (IfNot n e))))))
        ≡ a
    by true b c d = refl
    by false true c d = refl
    by false false true d = refl
    by false false false true = refl
    by false false false false = refl

waiting-at : (ws : List ℕ) (i p : ℕ) → waits_at ws i p ≡ waiting (fetch_at ws i p)
unfolding waits_at fetch_at waiting
waiting-at ws i p =
    by (ltb i 8) (get_or ws (code_place i p) 0) (get_or ws (code_place i p + 1) 0 % 256)
    (expression_at ws (code_place i p + 2) (code_place i p + 3))
  where
    by : (t : Bool) (k n : ℕ) (e : Expression) → pick t (eqb k 0) false ≡ waiting (pick t (decode ws k n e) (Act (Go 0)))
    by true k n e = sym (waiting-decode ws k n e)
    by false k n e = refl

waiting-fetched : {q : Plan} {x : Instr Expr} {y : Instruction} → Fetched q x y → waiting y ≡ is_wait x
unfolding waiting is_wait
waiting-fetched (a-wait h) = refl
waiting-fetched (a-set h) = refl
waiting-fetched (a-later h) = refl
waiting-fetched a-go = refl
waiting-fetched (an-ifnot h) = refl

pub words-wait : (ws : List ℕ) (i p : ℕ) {x : Instr Expr} → Fetched (plan_of ws) x (fetch_at ws i p) → (plan_of ws).waits i p ≡ is_wait x
words-wait ws i p h = waiting-at ws i p ∙ waiting-fetched h

pub words-readers : (ws : List ℕ) (v : ℕ) → length ((plan_of ws).readers v) ≡ 32
unfolding readers_at
words-readers ws v = length-bits _
