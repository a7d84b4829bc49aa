-- The wires settled on a plane of cells are those that the cycle book settles, where each wire's expression lies flattened in the plan.
-- Assumes nothing.
use mathlib.Core.Path.{◌≡◌, refl, sym, ap, subst, ◌∙◌}
use mathlib.Core.List.{List}
use Prim.Native.Nat.{ℕ, zero, suc, ◌+◌, ◌-◌, ◌<◌, ◌≤◌}
use native.Mathlib.Decide.{ℕ_discrete}
use native.Mathlib.Omega.{arith}
use borrow.Author.Tests.{lt-ltb, eq-eqb, ne_eqb}
use lib.ListN.{length, get_or, length-set}
use lib.Seq.{get_or-set_same, get_or-set_other}
use Rattle.values.specs.declared.Value.{Value}
use Rattle.sheet.specs.Expression.{Expr}
use Rattle.sheet.specs.Module.{Module}
use Rattle.evaluation.specs.Evaluation.{eval}
use Rattle.events.specs.Cycle.{variables, wire_expr, wire_variable}
use Rattle.values.specs.Cells.{value_of, cell_at}
use Rattle.values.proofs.Cells.{at_same}
use Rattle.plan.specs.Plan.{Node, Plan}
use Rattle.plan.proofs.Sections.{slot_same}
use Rattle.plan_nodes.specs.Nodes.{work_from, work}
use Rattle.plan_nodes.specs.Flat.{Flat, a-variable, a-constant, an-unknown, a-unary, a-binary, a-conditional}
use Rattle.plan_nodes.proofs.Nodes.{work-within}
use Rattle.plan_nodes.proofs.Flat.{Done, flat-eval}
use Rattle.nextstate.specs.Book as book
use Rattle.clock_steps.specs.Claims.{Wired}
use Rattle.clock_steps.specs.Settling.{put_cell, root_of, work_wire, settle_wire, settle_to, settle}

-- ---- the root of a flattened expression is its last node, or a variable

flat-count : {f : ℕ → Node} {base n r k : ℕ} {e : Expr} → base ≤ n → Flat f base n e r k → r + 1 - n ≡ k
flat-count b (a-variable h) = omega arith
flat-count b (a-constant h e) = omega arith
flat-count b (an-unknown h e) = omega arith
flat-count b (a-unary g h w x e) = omega arith
flat-count b (a-binary g h w x y e) = omega arith
flat-count b (a-conditional x y z e) = omega arith

-- ---- put_cell

put-long : (v c : ℕ) (cs : List ℕ) → v < 80 → length (put_cell v c cs) ≡ length cs
unfolding put_cell
put-long v c cs h = rw (lt-ltb v 80 h) (length-set cs v c)

put_same : (v c : ℕ) (cs : List ℕ) → v < 80 → v < length cs → cell_at (put_cell v c cs) v ≡ value_of c
unfolding put_cell cell_at
put_same v c cs h l = rw (lt-ltb v 80 h) (ap value_of (get_or-set_same cs v c 0 l))

put_other : (v c u : ℕ) (cs : List ℕ) → v < 80 → (u ≡ v → ⊥) → cell_at (put_cell v c cs) u ≡ cell_at cs u
unfolding put_cell cell_at
put_other v c u cs h d = rw (lt-ltb v 80 h) (ap value_of (get_or-set_other cs v u c 0 d))

-- ---- one wire more

module _ (m : Module Expr) (q : Plan) (w : Wired m q) where
  pub record Settled (g : ℕ → Value) (cs : List ℕ) : Type 0 where
    pub long : length cs ≡ 4176
    pub value : (v : ℕ) → v < variables m → cell_at cs v ≡ g v

  module _ (k : ℕ) (h : k < length m.wires) (g : ℕ → Value) (cs : List ℕ) (s : Settled g cs) where
    abbrev e : Expr
    e = wire_expr m k

    abbrev ds : List ℕ
    ds = work_from q.node (q.wire k).first (w.wire k h).nodes cs

    done : Done cs ds (q.wire k).first (q.wire k).root (w.wire k h).nodes (eval g e)
    done =
        let x = w.wire k h in
        flat-eval q.node (variables m) cs g s.long (omega (arith, w.few, x.above)) x.room s.value x.flat

    root_is : root_of q k ≡ (q.wire k).root
    unfolding root_of
    root_is = slot_same (q.wire k).root (omega (arith, done.below, (w.wire k h).room))

    worked-is : work_wire q k cs ≡ ds
    unfolding work_wire
    worked-is =
        let x = w.wire k h in
        let n = flat-count (omega (arith, w.few, x.above)) x.flat in
        ap (λ (r : ℕ). work q.node (q.wire k).first (r + 1) cs) root_is
        ∙ work-within q.node (q.wire k).first ((q.wire k).root + 1) cs (omega (arith, done.below, x.room))
        ∙ ap (λ (j : ℕ). work_from q.node (q.wire k).first j cs) n

    variable-is : q.inputs + q.registers + k ≡ wire_variable m k
    unfolding wire_variable
    variable-is = omega (arith, w.inputs, w.registers)

    wire-is : settle_wire q k cs ≡ put_cell (wire_variable m k) (get_or ds (q.wire k).root 0) ds
    unfolding settle_wire
    wire-is =
        ap (λ (v : ℕ). put_cell v (get_or (work_wire q k cs) (root_of q k) 0) (work_wire q k cs)) variable-is
        ∙ ap (λ (r : ℕ). put_cell (wire_variable m k) (get_or (work_wire q k cs) r 0) (work_wire q k cs)) root_is
        ∙ ap (λ (l : List ℕ). put_cell (wire_variable m k) (get_or l (q.wire k).root 0) l) worked-is

    small : wire_variable m k < 80
    small = omega (arith, w.inside k h, w.few)

    root-value : value_of (get_or ds (q.wire k).root 0) ≡ eval g e
    unfolding cell_at
    root-value = done.value

    pub wire-settled : Settled (book.put g (wire_variable m k) (eval g e)) (settle_wire q k cs)
    unfolding book.put
    wire-settled =
        rw wire-is
        (record {
          long = put-long (wire_variable m k) _ ds small ∙ done.long ∙ s.long;
          value = λ v o. by v o (ℕ_discrete v (wire_variable m k));
        })
      where
        by : (v : ℕ) → v < variables m → Dec (v ≡ wire_variable m k)
            → cell_at (put_cell (wire_variable m k) (get_or ds (q.wire k).root 0) ds) v ≡ book.put g (wire_variable m k) (eval g e) v
        by v o (yes p) =
            rw (eq-eqb v (wire_variable m k) p, p)
            (put_same (wire_variable m k) _ ds small (omega (arith, small, done.long, s.long)) ∙ root-value)
        by v o (no d) =
            rw (ne_eqb v (wire_variable m k) d)
            (put_other (wire_variable m k) _ v ds small d
            ∙ at_same ds cs v (done.kept v (omega (arith, w.few, (w.wire k h).above)))
            ∙ s.value v o)

    -- The cells before the wires stay.
    wire-kept : (v : ℕ) → v < m.scope.inputs + m.scope.registers → get_or (settle_wire q k cs) v 0 ≡ get_or cs v 0
    unfolding put_cell wire_variable
    wire-kept v o =
        let z = small in
        rw (wire-is, lt-ltb (wire_variable m k) 80 small)
        (get_or-set_other ds (wire_variable m k) v _ 0 (λ e. omega arith) ∙ done.kept v (omega (arith, (w.wire k h).above)))

  -- ---- all wires

  settled-to : (k : ℕ) → k ≤ length m.wires → (f : ℕ → Value) (cs : List ℕ) → Settled f cs →
      Settled (book.settle_below m k f) (settle_to q k cs)
  unfolding settle_to book.settle_below
  settled-to zero h f cs s = s
  settled-to (suc k) h f cs s =
      wire-settled k (omega arith) (book.settle_below m k f) (settle_to q k cs) (settled-to k (omega arith) f cs s)

  -- Settling the plane is the cycle book's settling of the values that it holds.
  pub settled : (f : ℕ → Value) (cs : List ℕ) → Settled f cs → Settled (book.settle m f) (settle q cs)
  unfolding settle book.settle
  settled f cs s =
      let r = settled-to (length m.wires) (omega arith) f cs s in
      subst (λ (n : ℕ). Settled (book.settle_below m (length m.wires) f) (settle_to q n cs)) (sym w.wires) r

  kept-to : (k : ℕ) → k ≤ length m.wires → (f : ℕ → Value) (cs : List ℕ) → Settled f cs → (v : ℕ) →
      v < m.scope.inputs + m.scope.registers → get_or (settle_to q k cs) v 0 ≡ get_or cs v 0
  unfolding settle_to
  kept-to zero h f cs s v o = refl
  kept-to (suc k) h f cs s v o =
      wire-kept k (omega arith) (book.settle_below m k f) (settle_to q k cs) (settled-to k (omega arith) f cs s) v o
      ∙ kept-to k (omega arith) f cs s v o

  -- The cells of inputs and registers stay.
  pub settled-kept : (f : ℕ → Value) (cs : List ℕ) → Settled f cs → (v : ℕ) → v < m.scope.inputs + m.scope.registers →
      get_or (settle q cs) v 0 ≡ get_or cs v 0
  unfolding settle
  settled-kept f cs s v o =
      ap (λ (n : ℕ). get_or (settle_to q n cs) v 0) w.wires ∙ kept-to (length m.wires) (omega arith) f cs s v o
