-- A plan that holds a module is one that clock_steps knows, and 31 and 25 are the module's. Assumes nothing.
use mathlib.Core.Path.{◌≡◌, refl, sym, ap, ◌∙◌}
use mathlib.Core.Bool.{Bool, true, false, ◌&&◌}
use mathlib.Core.List.{List}
use Prim.Native.Nat.{ℕ, ◌+◌, ◌-◌, ◌≤◌, ◌<◌}
use native.Mathlib.Decide.{dec_lt}
use native.Mathlib.Omega.{arith}
use borrow.Author.Tests.{lt-ltb, le-ltb}
use lib.Dec.{eqb}
use lib.ListN.{length, get_or, get_or-eq_default}
use Rattle.values.specs.declared.Value.{Value}
use Rattle.values.specs.Values.{fits}
use Rattle.values.specs.Planes.{value_at}
use Rattle.sheet.specs.Expression.{Expr}
use Rattle.sheet.specs.Module.{Module}
use Rattle.pseudocode.specs.Translation.{Instr, go}
use Rattle.state.specs.Rows.{all_below}
use Rattle.soundness.specs.Soundness.{Sound}
use Rattle.events.specs.declared.Inputs.{Inputs}
use Rattle.events.specs.Cycle.{variables, code_of, instr_at, is_wait, wire_expr, wire_variable}
use Rattle.events.specs.Calls.{width_of, input_of}
use Rattle.events.proofs.Cycle.{all_same}
use Rattle.plan.specs.declared.Instruction.{Instruction}
use Rattle.plan.specs.Plan.{Node, Plan}
use Rattle.plan_fill.specs.Holding.{Planned, a-wait, a-set, a-later, a-go, an-ifnot, Holds}
use Rattle.nextstate.specs.declared.Registers.{Registers}
use Rattle.nextstate.specs.CycleRun.{registers_fit, upper_inputs_fit}
use Rattle.clock_claims.proofs.Writers.{writes-register}
use Rattle.clock_steps.specs.Taking.{at_most}
use Rattle.clock_steps.specs.Claims.{Wired, Coded, Lent}
use Rattle.clock_steps.proofs.RowNumbers.{most-same, threads-is}
use Rattle.clock_run.specs.Running.{values_fit, waits_at, places_wait, upper_of, registers_fit_on, inputs_fit_on}
use Rattle.clock_claims.specs.Claims.{Ready}

planned-waits : {f : ℕ → Node} {base end : ℕ} {a : Instr Expr} {b : Instruction} {t : Bool} → Planned f base end a b t → t ≡ is_wait a
unfolding is_wait
planned-waits (a-wait l) = refl
planned-waits (a-set x) = refl
planned-waits (a-later x) = refl
planned-waits a-go = refl
planned-waits (an-ifnot x) = refl

both-same : {s t u v : Bool} → s ≡ t → u ≡ v → (s && u) ≡ (t && v)
both-same p q = λ i. p i && q i

module _ (m : Module Expr) (z : Sound m) (q : Plan) (h : Holds m q) where
  pub wired : Wired m q
  unfolding variables wire_variable wire_expr
  wired =
      record {
        inputs = h.inputs;
        registers = h.registers;
        wires = h.wires;
        few = omega (arith, z.variables, z.inputs-most, z.registers-most, z.wires-most);
        inside = λ k o. omega (arith, z.variables);
        wire = λ k o.
            let x = h.wire k o in
            record { nodes = x.nodes; flat = x.flat; above = x.above; room = x.room };
      }

  pub coded : Coded m q
  unfolding code_of instr_at
  coded =
      record {
        threads = h.threads;
        eight = z.threads-most;
        size = λ i o. h.size i o;
        short = λ i o. (z.code i o).most;
        waits = λ i p o u. planned-waits (h.instruction i p o u);
      }

  pub lent : {ns us rs written : List ℕ} → Ready m ns us rs written → Lent m ns us rs written
  unfolding variables
  lent y =
      record {
        fit = y.fit;
        sizes = y.sizes;
        narrow = λ v o. z.widths-most v o;
        few = y.few;
        registers = z.registers-most;
        inside = omega (arith, z.variables);
        writers = y.writers;
        only = λ i v o e. writes-register z i v o e;
      }

  -- ---- 31

  width_is : (v : ℕ) → v < length m.scope.widths → q.width v ≡ width_of m v
  unfolding width_of
  width_is v o = h.width v o

  wait-same : (i p : ℕ) → i < length m.threads → waits_at q i p ≡ is_wait (instr_at (code_of m i) p)
  unfolding waits_at is_wait instr_at
  wait-same i p o = by (dec_lt p (length (code_of m i)))
    where
      by : Dec (p < length (code_of m i)) → waits_at q i p ≡ is_wait (instr_at (code_of m i) p)
      by (yes u) = rw (coded.size i o, lt-ltb p (length (code_of m i)) u) (coded.waits i p o u)
      by (no d) =
          let l : length (code_of m i) ≤ p = omega arith in
          rw (coded.size i o, le-ltb p (length (code_of m i)) l) (sym (ap is_wait (get_or-eq_default (code_of m i) (go 0) l)))

  pub width_same : (v : ℕ) → v < m.scope.inputs - 1 → (b : Value) → fits (q.width (1 + v)) b ≡ fits (width_of m (v + 1)) b
  width_same v o b =
      let f : 1 + v ≡ v + 1 = omega arith in
      rw (f, width_is (v + 1) (omega (arith, z.variables)))

  module _ (ns xs : List ℕ) where
    register-same : (r : ℕ) → r < m.scope.registers →
        fits (q.width (q.inputs + r)) (value_at ns xs (0 + r)) ≡ fits (width_of m (m.scope.inputs + r)) (value_at ns xs r)
    register-same r o =
        let e : 0 + r ≡ r = omega arith in
        rw (h.inputs, width_is (m.scope.inputs + r) (omega (arith, z.variables)), e)

    input-same : (v : ℕ) → v < m.scope.inputs - 1 → fits (q.width (1 + v)) (value_at ns xs (0 + v))
        ≡ fits (width_of m (v + 1)) (value_at ns xs v)
    input-same v o =
        let e : 0 + v ≡ v = omega arith in
        width_same v o (value_at ns xs (0 + v)) ∙ ap (λ (u : ℕ). fits (width_of m (v + 1)) (value_at ns xs u)) e

  pub registers-fit-same : (g : Registers) → registers_fit_on q g ≡ registers_fit m g
  unfolding registers_fit_on registers_fit values_fit places_wait
  registers-fit-same g =
      both-same
      (ap (λ (n : ℕ). all_below n (λ r. fits (q.width (q.inputs + r)) (value_at g.value g.unknown (0 + r)))) h.registers
      ∙ all_same (λ r. fits (q.width (q.inputs + r)) (value_at g.value g.unknown (0 + r)))
      (λ r. fits (width_of m (m.scope.inputs + r)) (value_at g.value g.unknown r)) m.scope.registers
      (register-same g.value g.unknown))
      (ap (λ (n : ℕ). all_below n (λ i. waits_at q i (get_or g.places i 0))) (threads-is m q coded)
      ∙ all_same (λ i. waits_at q i (get_or g.places i 0)) (λ i. is_wait (instr_at (code_of m i) (get_or g.places i 0)))
      (length m.threads)
      (λ i o. wait-same i (get_or g.places i 0) o))

  -- ---- 25

  pub upper_is : upper_of q ≡ m.scope.inputs - 1
  unfolding upper_of
  upper_is = ap (λ (n : ℕ). at_most 15 (n - 1)) h.inputs ∙ most-same 15 (m.scope.inputs - 1) (omega (arith, z.inputs-most))

  pub inputs-fit-same : (a : Inputs) → inputs_fit_on q a ≡ upper_inputs_fit m a
  unfolding inputs_fit_on upper_inputs_fit values_fit input_of
  inputs-fit-same a =
      both-same
      (ap (eqb (a.count + 1)) h.inputs)
      (ap (λ (n : ℕ). all_below n (λ v. fits (q.width (1 + v)) (value_at a.value a.unknown (0 + v)))) upper_is
      ∙ all_same (λ v. fits (q.width (1 + v)) (value_at a.value a.unknown (0 + v)))
      (λ v. fits (width_of m (v + 1)) (value_at a.value a.unknown v)) (m.scope.inputs - 1) (input-same a.value a.unknown))
