-- The judgement on the plan of a module: nodes, landings and rows, each as nextstate has them. Assumes nothing.
use mathlib.Core.Path.{◌≡◌, refl, sym, ap, ◌∙◌}
use mathlib.Core.Bool.{Bool, true, false, not, ◌&&◌, ◌||◌}
use mathlib.Core.List.{List, [], ◌∷◌, ◌++◌}
use Prim.Native.Nat.{ℕ, zero, suc, ◌+◌, ◌*◌, ◌≤◌, ◌<◌}
use native.Mathlib.Decide.{dec_lt}
use native.Mathlib.Omega.{arith}
use borrow.Author.Tests.{lt-ltb, le-ltb, ltb-true}
use lib.Dec.{ltb, eqb}
use lib.ListN.{length, get_or, get_or-eq_default}
use Rattle.sheet.specs.Expression.{Expr}
use Rattle.sheet.specs.Module.{Module}
use Rattle.pseudocode.specs.Translation.{Instr, go}
use Rattle.state.specs.Rows.{list_of, all_below}
use Rattle.state.proofs.Rows.{length-list_of}
use Rattle.soundness.specs.Soundness.{Sound}
use Rattle.events.specs.Cycle.{variables, code_of, instr_at, is_wait}
use Rattle.events.specs.Calls.{width_of}
use Rattle.events.proofs.Cycle.{absurd-bool, and_left, and_right, all_same}
use Rattle.plan.specs.declared.Instruction.{Instruction}
use Rattle.plan.specs.Plan as plan
use Rattle.plan_fill.specs.Holding.{Planned, a-wait, a-set, a-later, a-go, an-ifnot, Holds}
use Rattle.nextstate.specs.Rules.{writes, waits_before}
use Rattle.nextstate.specs.Nodes.{Node, a_variable, a_constant, an_unknown, a_unary, a_binary, a_conditional, a_branch, node_at, node_width}
use Rattle.nextstate.specs.Extraction.{Tables}
use Rattle.nextstate.specs.Book.{row_of, entry}
use Rattle.nextstate.specs.CycleRun.{node_fits, nodes_fit, widths_from, landings, register_fits, row_fits, rows_fit, tables_in}
use Rattle.clock_nodes.specs.Rows.{entry_at}
use Rattle.clock_steps.specs.Taking.{at_most}
use Rattle.clock_steps.specs.Numbers.{waits_to, rows_to}
use Rattle.clock_steps.specs.Claims.{Coded}
use Rattle.clock_steps.proofs.RowNumbers.{most-same, rows_is, threads-is}
use Rattle.nodes.specs.Cells.{fits_at, width_at, lands_at}
use Rattle.nodes.proofs.Cells.{fits-list, width_same, lands-same}
use Rattle.nodes.proofs.FirstNodes.{widths_to, widths-next, fit_next, length-widths, landings-next, length-landings}
use Rattle.clock_check.specs.Judging.{variables_in, width_on, widths_below, nodes_fit_below, wait_of, lands_below}
use Rattle.clock_check.specs.Judging.{register_fits_on, entry_fits_on, row_fits_on, thread_fits_on, rows_fit_on}
use Rattle.clock_check.specs.Claims.{Writers}

planned-waits : {f : ℕ → plan.Node} {base end : ℕ} {a : Instr Expr} {b : Instruction} {t : Bool} → Planned f base end a b t → t ≡ is_wait a
unfolding is_wait
planned-waits (a-wait l) = refl
planned-waits (a-set x) = refl
planned-waits (a-later x) = refl
planned-waits a-go = refl
planned-waits (an-ifnot x) = refl

both-same : {s t u v : Bool} → s ≡ t → u ≡ v → (s && u) ≡ (t && v)
both-same p q = λ i. p i && q i

module _ (m : Module Expr) (z : Sound m) (q : plan.Plan) (h : Holds m q) where
  pub coded : Coded m q
  unfolding code_of instr_at
  coded =
      record {
        threads = h.threads;
        eight = z.threads-most;
        size = λ i o. h.size i o;
        short = λ i o. (z.code i o).most;
        waits = λ i p o u. planned-waits (h.instruction i p o u);
      }

  -- ---- a place of a thread, and the row of its wait

  size_is : (i : ℕ) → i < length m.threads → at_most 256 (q.size i) ≡ length (code_of m i)
  size_is i o = ap (at_most 256) (coded.size i o) ∙ most-same 256 (length (code_of m i)) (coded.short i o)

  wait-is : (i p : ℕ) → i < length m.threads → wait_of q i p ≡ is_wait (instr_at (code_of m i) p)
  unfolding wait_of is_wait instr_at
  wait-is i p o = by (dec_lt p (length (code_of m i)))
    where
      by : Dec (p < length (code_of m i)) → (ltb p (at_most 256 (q.size i)) && q.waits i p) ≡ is_wait (instr_at (code_of m i) p)
      by (yes u) = rw (size_is i o, lt-ltb p (length (code_of m i)) u) (coded.waits i p o u)
      by (no d) =
          let l : length (code_of m i) ≤ p = omega arith in
          rw (size_is i o, le-ltb p (length (code_of m i)) l) (sym (ap is_wait (get_or-eq_default (code_of m i) (go 0) l)))

  waits-is : (i : ℕ) → i < length m.threads → (p : ℕ) → p ≤ length (code_of m i) → waits_to q i p ≡ waits_before (code_of m i) p
  unfolding waits_to waits_before instr_at
  waits-is i o zero u = refl
  waits-is i o (suc p) u = rw (waits-is i o p (omega arith), coded.waits i p o u)

  row_is : (T : Tables) (i p : ℕ) → i < length m.threads → p < length (code_of m i) → rows_to q i + waits_to q i p ≡ row_of m T i p
  unfolding row_of
  row_is T i p o u = rw (rows_is m q coded i (omega arith), waits-is i o p (omega arith))

  -- ---- nodes

  variables-is : variables_in q ≡ variables m
  unfolding variables_in variables
  variables-is = rw (h.inputs, h.registers, h.wires) (sym z.variables)

  -- The width of a node that is in order.
  width_is :
      (us : List ℕ) (n : ℕ) (d : Node) → fits_at (variables m) n (λ a. get_or us a 0) d ≡ true →
      width_on q (λ a. get_or us a 0) d ≡ node_width m.scope.widths us d
  unfolding width_on width_at fits_at node_width variables
  width_is us n (a_variable v) f = h.width v (ltb-true v (length m.scope.widths) f)
  width_is us n (a_constant w k) f =
      width_same m.scope.widths us (variables m) n (λ a. get_or us a 0) (λ a l. refl) (a_constant w k) f
  width_is us n (an_unknown w) f =
      width_same m.scope.widths us (variables m) n (λ a. get_or us a 0) (λ a l. refl) (an_unknown w) f
  width_is us n (a_unary o a) f = refl
  width_is us n (a_binary o a b) f = refl
  width_is us n (a_conditional c a b) f = refl
  width_is us n (a_branch c a b) f = refl

  module _ (ns : List ℕ) where
    abbrev f : ℕ → Node
    f = node_at ns

    -- The nodes below n are judged alike, and where they are in order they have the same widths.
    pub record Alike (n : ℕ) : Type 0 where
      pub fit : nodes_fit_below q ns n ≡ nodes_fit m (list_of n f) []
      pub widths : nodes_fit_below q ns n ≡ true → widths_below q ns n ≡ widths_to m f n

    node-is :
        (n : ℕ) → widths_below q ns n ≡ widths_to m f n →
        fits_at (variables_in q) n (λ a. get_or (widths_below q ns n) a 0) (f n) ≡ node_fits m (widths_to m f n) (f n)
    node-is n e =
        rw (e, variables-is)
        (ap (λ (k : ℕ). fits_at (variables m) k (λ a. get_or (widths_to m f n) a 0) (f n)) (sym (length-widths m f n))
        ∙ sym (fits-list m (widths_to m f n) (f n)))

    next-width :
        (n : ℕ) → widths_below q ns n ≡ widths_to m f n →
        fits_at (variables_in q) n (λ a. get_or (widths_below q ns n) a 0) (f n) ≡ true → widths_below q ns (suc n) ≡ widths_to m f (suc n)
    unfolding widths_below
    next-width n e t =
        let u = rw (e, variables-is) at t in
        rw (e, width_is (widths_to m f n) n (f n) u) (sym (widths-next m f n))

    step-on : (n : ℕ) → Alike n → nodes_fit_below q ns n ≡ true → Alike (suc n)
    unfolding nodes_fit_below
    step-on n r e =
        record {
          fit = rw e (node-is n (r.widths e) ∙ sym (fit_next m f n ∙ rw (sym r.fit ∙ e)));
          widths = λ t. next-width n (r.widths e) (and_right (nodes_fit_below q ns n) _ t);
        }

    step-off : (n : ℕ) → Alike n → nodes_fit_below q ns n ≡ false → Alike (suc n)
    unfolding nodes_fit_below
    step-off n r e =
        record {
          fit = rw e (sym (fit_next m f n ∙ rw (sym r.fit ∙ e)));
          widths = λ t. absurd-bool (and_left (nodes_fit_below q ns n) _ t) e;
        }

    none_alike : Alike 0
    unfolding nodes_fit_below widths_below nodes_fit widths_from list_of
    none_alike = record { fit = refl; widths = λ t. refl }

    pub alike : (n : ℕ) → Alike n
    alike zero = none_alike
    alike (suc n) = by (nodes_fit_below q ns n) refl (alike n)
      where
        by : (t : Bool) → nodes_fit_below q ns n ≡ t → Alike n → Alike (suc n)
        by true e r = step-on n r e
        by false e r = step-off n r e

    -- ---- landings

    lands-none : (i : ℕ) → lands_below (wait_of q i) ns 0 ≡ landings m i (list_of 0 f) []
    unfolding lands_below landings list_of
    lands-none i = refl

    lands-next : (i n : ℕ) → i < length m.threads → lands_below (wait_of q i) ns n ≡ landings m i (list_of n f) [] →
        lands_below (wait_of q i) ns (suc n) ≡ landings m i (list_of (suc n) f) []
    unfolding lands_below
    lands-next i n o e =
        let ls = landings m i (list_of n f) [] in
        rw e
        (ap (λ (k : ℕ). ls ++ (lands_at (wait_of q i) k (λ a. get_or ls a false) (f n) ∷ [])) (sym (length-landings m f i n))
        ∙ rw (lands-same m i ls (wait_of q i) (λ a. get_or ls a false) (λ p. wait-is i p o) (λ a l. refl) (f n)) (sym (landings-next m f i n)))

    lands-is : (i : ℕ) → i < length m.threads → (n : ℕ) → lands_below (wait_of q i) ns n ≡ landings m i (list_of n f) []
    lands-is i o zero = lands-none i
    lands-is i o (suc n) = lands-next i n o (lands-is i o n)

    -- ---- rows

    module _ (rs : List ℕ) where
      abbrev T : Tables
      T = tables_in ns rs

      abbrev us : List ℕ
      us = widths_to m f 4096

      register-is : (i p r : ℕ) → r < m.scope.registers → register_fits_on q us rs (row_of m T i p) r ≡ register_fits m T i p r
      unfolding register_fits_on register_fits entry entry_at width_of tables_in
      register-is i p r o =
          let e = get_or rs (33 * row_of m (tables_in ns rs) i p + r) 0 in
          let v = get_or m.scope.widths (m.scope.inputs + r) 0 in
          rw (h.inputs, h.width (m.scope.inputs + r) (omega (arith, z.variables)))
          (ap (λ (k : ℕ). ltb e k && eqb (get_or us e 0) v) (sym (length-list_of f 4096)))

      mark-is : (i e : ℕ) → (ltb e 4096 && get_or (landings m i (list_of 4096 f) []) e false) ≡ get_or (landings m i (list_of 4096 f) []) e false
      mark-is i e = by (dec_lt e 4096)
        where
          ls : List Bool
          ls = landings m i (list_of 4096 f) []

          by : Dec (e < 4096) → (ltb e 4096 && get_or ls e false) ≡ get_or ls e false
          by (yes o) = rw (lt-ltb e 4096 o)
          by (no d) =
              rw (le-ltb e 4096 (omega arith)) (sym (get_or-eq_default ls false (omega (arith, length-landings m f i 4096))))

      module _ (written : List ℕ) (w : Writers m written) where
        row-fits-is :
            (i p : ℕ) → i < length m.threads →
            row_fits_on q us rs (get_or written i 0) (landings m i (list_of 4096 f) []) (row_of m T i p) ≡ row_fits m T i p
        unfolding row_fits_on row_fits entry_fits_on entry entry_at tables_in Writers
        row-fits-is i p o =
            both-same
            (ap (λ (n : ℕ). all_below n (entry_fits_on q us rs (get_or written i 0) (row_of m T i p))) h.registers
            ∙ all_same (entry_fits_on q us rs (get_or written i 0) (row_of m T i p))
            (λ r. not (writes m i (m.scope.inputs + r)) || register_fits m T i p r) m.scope.registers
            (λ r k. rw (w i r o, register-is i p r k)))
            (mark-is i (get_or rs (33 * row_of m T i p + 32) 0))

        thread-is :
            (i : ℕ) → i < length m.threads →
            thread_fits_on q us rs (get_or written i 0) (lands_below (wait_of q i) ns 4096) i (rows_to q i)
            ≡ all_below (length (code_of m i)) (λ p. not (is_wait (instr_at (code_of m i) p)) || row_fits m T i p)
        unfolding thread_fits_on
        thread-is i o =
            rw (size_is i o, lands-is i o 4096)
            (all_same
            (λ p. not (q.waits i p)
            || row_fits_on q us rs (get_or written i 0) (landings m i (list_of 4096 f) []) (rows_to q i + waits_to q i p))
            (λ p. not (is_wait (instr_at (code_of m i) p)) || row_fits m T i p) (length (code_of m i))
            (λ p u. rw (coded.waits i p o u, row_is T i p o u, row-fits-is i p o)))

        pub rows-is-fit : rows_fit_on q us rs written ns ≡ rows_fit m T
        unfolding rows_fit_on rows_fit
        rows-is-fit =
            rw (threads-is m q coded)
            (all_same
            (λ i. thread_fits_on q us rs (get_or written i 0) (lands_below (wait_of q i) ns 4096) i (rows_to q i))
            (λ i. all_below (length (code_of m i)) (λ p. not (is_wait (instr_at (code_of m i) p)) || row_fits m T i p))
            (length m.threads) thread-is)
