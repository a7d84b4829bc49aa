-- A plan that holds a module is a plan of it, as the steps' refinement asks. Assumes nothing.
use mathlib.Core.Path.{◌≡◌, refl, ap, ◌∙◌}
use mathlib.Core.Bool.{Bool, true, false}
use mathlib.Core.List.{List}
use Prim.Native.Nat.{ℕ, ◌≤◌, ◌<◌}
use native.Mathlib.Omega.{arith}
use lib.Dec.{ltb, eqb}
use lib.ListN.{length, get_or, get_or-eq_default}
use borrow.Author.Tests.{ltb-true, ltb-false, eq-eqb}
use Rattle.sheet.specs.declared.EdgeTerm.{EdgeTerm}
use Rattle.sheet.specs.Expression.{Expr, unknown}
use Rattle.sheet.specs.Statement.{empty}
use Rattle.sheet.specs.Module.{Module}
use Rattle.evaluation.specs.Evaluation.{reads}
use Rattle.pseudocode.specs.Translation.{Instr, wait!, go, thread_code}
use Rattle.pseudocode.specs.Instruction.{no_term}
use Rattle.soundness.specs.Soundness.{Sound, SoundInstr, sound-wait}
use Rattle.events.specs.Cycle.{code_of, instr_at, is_wait, wire_expr}
use Rattle.plan.specs.declared.Expression.{Expression}
use Rattle.plan.specs.declared.Instruction.{Instruction}
use Rattle.plan.specs.Plan.{Node, Plan, plan_of}
use Rattle.plan_fill.specs.Holding.{Lies, Planned, a-wait, a-set, a-later, a-go, an-ifnot, named_by, names, Holds}
use Rattle.plan_fill.proofs.Watching.{any-true}
use Rattle.plan_refinement.specs.Refinement as refined
use Rattle.plan_refinement.specs.Refinement.{Stands, Fetched, PlanOf}
use Rattle.plan_refinement.proofs.Standing.{flat-stands}
use Rattle.plan_refinement.proofs.Words.{words-readers}

lies-stands : (q : Plan) (base : ℕ) (e : Expr) (x : Expression) → base ≤ 80 → Lies q.node base 4176 e x → Stands q e x
lies-stands q base e x few l = flat-stands q base e x l.nodes l.flat few l.above l.room l.root

planned-fetched : (q : Plan) (base : ℕ) {x : Instr Expr} {y : Instruction} {b : Bool} → base ≤ 80
    → Planned q.node base 4176 x y b → Fetched q x y
planned-fetched q base few (a-wait h) = refined.a-wait h
planned-fetched q base few (a-set {e = e} {x = x} h) = refined.a-set (lies-stands q base e x few h)
planned-fetched q base few (a-later {e = e} {x = x} h) = refined.a-later (lies-stands q base e x few h)
planned-fetched q base few a-go = refined.a-go
planned-fetched q base few (an-ifnot {e = e} {x = x} h) = refined.an-ifnot (lies-stands q base e x few h)

planned-waits : {f : ℕ → Node} {base end : ℕ} {x : Instr Expr} {y : Instruction} {b : Bool} → Planned f base end x y b → b ≡ is_wait x
unfolding is_wait
planned-waits (a-wait h) = refl
planned-waits (a-set h) = refl
planned-waits (a-later h) = refl
planned-waits a-go = refl
planned-waits (an-ifnot h) = refl

-- A variable that a wait names is named by its code.
wait-names : (is : List (Instr Expr)) (p k : ℕ) (ts : List EdgeTerm) → p < length is → get_or is p (go 0) ≡ wait! ts → k < length ts
    → names is (get_or ts k no_term).variable ≡ true
unfolding names named_by
wait-names is p k ts h e l =
    let v = (get_or ts k no_term).variable in
    any-true (λ i. named_by (get_or is i (go 0)) v) p (length is) h
    (ap (λ (x : Instr Expr). named_by x v) e
    ∙ any-true (λ j. eqb (get_or ts j no_term).variable v) k (length ts) l (eq-eqb v v refl))

wait-inside : {m : Module Expr} (z : Sound m) (i p k : ℕ) (ts : List EdgeTerm) → i < length m.threads
    → p < length (thread_code (get_or m.threads i empty)) → get_or (thread_code (get_or m.threads i empty)) p (go 0) ≡ wait! ts
    → k < length ts → (get_or ts k no_term).variable < length m.scope.widths
wait-inside {m} z i p k ts h l e b = by (rw e at ((z.code i h).instruction p l))
  where
    by : {n : ℕ} → SoundInstr m.scope n p (wait! ts) → (get_or ts k no_term).variable < length m.scope.widths
    by (sound-wait u f) = f k no_term b

module _ {m : Module Expr} (ws : List ℕ) (z : Sound m) (h : Holds m (plan_of ws)) where
  few : length m.scope.widths ≤ 80
  few = omega (arith, z.variables, z.inputs-most, z.registers-most, z.wires-most)

  read_at : (v k : ℕ) → v < 80 → get_or ((plan_of ws).readers v) k false ≡ reads (wire_expr m k) v
  unfolding wire_expr reads
  read_at v k l = by (ltb k (length m.wires)) refl
    where
      by : (t : Bool) → ltb k (length m.wires) ≡ t
          → get_or ((plan_of ws).readers v) k false ≡ reads (get_or m.wires k (unknown 1)) v
      by true e = h.read_by v k l (ltb-true k (length m.wires) e)
      by false e =
          let b = ltb-false k (length m.wires) e in
          h.read-by-none v k l b ∙ rw (get_or-eq_default m.wires (unknown 1) {n = k} b) refl

  pub plan-of : PlanOf m (plan_of ws)
  unfolding wire_expr code_of instr_at
  plan-of =
      record {
        sound = z;
        inputs = h.inputs;
        registers = h.registers;
        wires = h.wires;
        threads = h.threads;
        wire = λ k l. lies-stands (plan_of ws) (length m.scope.widths) (get_or m.wires k (unknown 1)) ((plan_of ws).wire k) few (h.wire k l);
        instruction = λ i p l b. planned-fetched (plan_of ws) (length m.scope.widths) few (h.instruction i p l b);
        waits = λ i p l b. planned-waits (h.instruction i p l b);
        read_by = read_at;
        length-readers = words-readers ws;
        named =
            λ i p {ts} k l b e n.
            let v = (get_or ts k no_term).variable in
            h.watched-by v i (omega (arith, few, wait-inside z i p k ts l b e n)) l
            ∙ wait-names (thread_code (get_or m.threads i empty)) p k ts b e n;
      }
