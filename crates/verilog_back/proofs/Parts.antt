-- What the derivation's parts declare, drive and run: the variables in their order, the wires' expressions, the threads.
-- Assumes nothing.
use mathlib.Core.Path.{◌≡◌, refl, ap}
use mathlib.Core.Bool.{Bool, true, false}
use mathlib.Core.List.{List, [], ◌∷◌, ◌++◌, map}
use Prim.Native.Nat.{ℕ, suc, ◌+◌, ◌-◌, ◌≤◌, ◌<◌}
use native.Mathlib.Omega.{arith}
use lib.Dec.{ltb, eqb}
use lib.ListN.{length}
use borrow.Author.Tests.{lt-ltb, le-ltb, ltb-true, ltb-false, eqb-true}
use Rattle.values.specs.Values.{pick}
use Rattle.sheet.specs.Expression.{Expr, Scope}
use Rattle.sheet.specs.Statement.{Stmt}
use Rattle.encoding.specs.Encoding.{encode_expr, encode_wires, encode_threads}
use Rattle.encoding.specs.WellFormed.{AreWidths, WiresFit, ThreadsFit}
use Rattle.naming.specs.Naming.{same_text}
use Rattle.naming.proofs.Naming.{same_text-refl}
use Rattle.verilog_tokens.specs.Tokens.{Name}
use Rattle.verilog_grammar.specs.AnnexA.{Item, input, reg, wire, one, no_range, down_to}
use Rattle.verilog_grammar.specs.Meaning.{Kind, an_input, a_register, a_wire, Driven, Part, declares, width_of, list_of, expr_of, stmt_of, driven_of, part_of, parts_of}
use Rattle.verilog_source.specs.Names.{Variable, kind_number, of_width, variables, declared, driven, threads, name_of, target_of}
use Rattle.verilog_source.specs.Written.{written_threads, written_widths, value_for, written_wires}
use Rattle.verilog_back.specs.Returned.{returned}
use Rattle.verilog_back.specs.Tree.{Each, InWidth, InStmt, InWire, range_of, name_at, expr_tree, declaration_tree, thread_trees, wire_trees, declaration_trees}
use Rattle.verilog_back.proofs.Meant.{up_to-same, expr-meant, thread-meant}
use Rattle.verilog_back.proofs.Rows.{Row, ends, next, row-length, different}

-- ---- kinds

unfoldable pub kind_by : ℕ → ℕ → ℕ → Kind
kind_by i r v = pick (ltb v i) an_input (pick (ltb v (i + r)) a_register a_wire)

kind-input : (i r v : ℕ) → v < i → kind_by i r v ≡ an_input
unfolding kind_by
kind-input i r v h = rw (lt-ltb v i h) refl

kind-register : (i r v : ℕ) → i ≤ v → v < i + r → kind_by i r v ≡ a_register
unfolding kind_by
kind-register i r v h l = rw (le-ltb v i h, lt-ltb v (i + r) l) refl

kind-wire : (i r v : ℕ) → i + r ≤ v → kind_by i r v ≡ a_wire
unfolding kind_by
kind-wire i r v h = rw (le-ltb v i (omega arith), le-ltb v (i + r) h) refl

range-width : (w : ℕ) → 1 ≤ w → width_of (range_of w) ≡ w
unfolding range_of width_of
range-width w h = by (eqb w 1) refl
  where
    by : (t : Bool) → eqb w 1 ≡ t → width_of (pick t no_range (down_to true (w - 1) false)) ≡ w
    by true q = let z = eqb-true w 1 q in omega arith
    by false q = omega arith

module _ (called : ℕ → List ℕ) where
  -- ---- the declarations as parts, and their variables

  unfoldable pub declared_parts : (i r v : ℕ) (ws : List ℕ) → Each InWidth ws → List Part → List Part
  declared_parts i r v [] d ps = ps
  declared_parts i r v (w ∷ ws) d ps = declares (kind_by i r v) w (name_at called d.0 v ∷ []) ∷ declared_parts i r (v + 1) ws d.1 ps

  part-declared : (index : List ℕ → ℕ) (i r v w : ℕ) (n : Name) → 1 ≤ w
      → part_of index (declaration_tree called i r v w n) ≡ declares (kind_by i r v) w (n ∷ [])
  unfolding declaration_tree kind_by part_of list_of
  part-declared index i r v w n h = by (ltb v i) (ltb v (i + r))
    where
      by : (x y : Bool) → part_of index (pick x (input (range_of w) (one n)) (pick y (reg (range_of w) (one n)) (wire (range_of w) (one n))))
          ≡ declares (pick x an_input (pick y a_register a_wire)) w (n ∷ [])
      by true y = rw (range-width w h) refl
      by false true = rw (range-width w h) refl
      by false false = rw (range-width w h) refl

  pub parts-declared : (index : List ℕ → ℕ) (i r v : ℕ) (ws : List ℕ) (d : Each InWidth ws) (xs : List Item) → AreWidths ws
      → parts_of index (declaration_trees called i r v ws d xs) ≡ declared_parts i r v ws d (parts_of index xs)
  unfolding declaration_trees parts_of declared_parts AreWidths
  parts-declared index i r v [] d xs h = refl
  parts-declared index i r v (w ∷ ws) d xs h =
      rw (part-declared index i r v w (name_at called d.0 v) h.0.0, parts-declared index i r (v + 1) ws d.1 xs h.1) refl

  unfoldable pub all_vars : (v : ℕ) (ws : List ℕ) → Each InWidth ws → List Variable
  all_vars v [] d = []
  all_vars v (w ∷ ws) d = record { named = name_at called d.0 v; width = w } ∷ all_vars (v + 1) ws d.1

  -- The same row with its end said otherwise.
  ending : {v u t : ℕ} {ns : List Name} → u ≡ t → Row called v ns u → Row called v ns t
  ending e r = rw e at r

  pub vars-row : (v : ℕ) (ws : List ℕ) (d : Each InWidth ws) → Row called v (map name_of (all_vars v ws d)) (v + length ws)
  unfolding all_vars name_of
  vars-row v [] d = ending (omega arith) ends
  vars-row v (w ∷ ws) d = ending (omega arith) (next refl (vars-row (v + 1) ws d.1))

  pub widths-written : (v : ℕ) (ws : List ℕ) (d : Each InWidth ws) → AreWidths ws → written_widths (all_vars v ws d) ≡ ws
  unfolding all_vars written_widths AreWidths
  widths-written v [] d h = refl
  widths-written v (w ∷ ws) d h = rw (up_to-same 32 w h.0.1, widths-written (v + 1) ws d.1 h.1) refl

  pub declared-row : (i r v : ℕ) (ws : List ℕ) (d : Each InWidth ws) (ps : List Part) → declared ps ≡ []
      → Row called v (declared (declared_parts i r v ws d ps)) (v + length ws)
  unfolding declared_parts declared
  declared-row i r v [] d ps h = rw h (ending (omega arith) ends)
  declared-row i r v (w ∷ ws) d ps h = ending (omega arith) (next refl (declared-row i r (v + 1) ws d.1 ps h))

  pub driven-kept : (i r v : ℕ) (ws : List ℕ) (d : Each InWidth ws) (ps : List Part) → driven (declared_parts i r v ws d ps) ≡ driven ps
  unfolding declared_parts driven
  driven-kept i r v [] d ps = refl
  driven-kept i r v (w ∷ ws) d ps = driven-kept i r (v + 1) ws d.1 ps

  pub threads-kept : (i r v : ℕ) (ws : List ℕ) (d : Each InWidth ws) (ps : List Part) → threads (declared_parts i r v ws d ps) ≡ threads ps
  unfolding declared_parts threads
  threads-kept i r v [] d ps = refl
  threads-kept i r v (w ∷ ws) d ps = threads-kept i r (v + 1) ws d.1 ps

  -- ---- by kind

  module _ (i r : ℕ) (ps : List Part) (none : (k : Kind) → variables k ps ≡ []) where
    wires-phase : (v : ℕ) (ws : List ℕ) (d : Each InWidth ws) → i + r ≤ v
        → (variables an_input (declared_parts i r v ws d ps) ≡ []) × (variables a_register (declared_parts i r v ws d ps) ≡ [])
        × (variables a_wire (declared_parts i r v ws d ps) ≡ all_vars v ws d)
    unfolding declared_parts variables kind_number of_width all_vars
    wires-phase v [] d h = (none an_input, none a_register, none a_wire)
    wires-phase v (w ∷ ws) d h =
        let x = wires-phase (v + 1) ws d.1 (omega arith) in
        let k = kind-wire i r v h in
        (rw k x.0, rw k x.1, rw (k, x.2) refl)

    record Registers (v : ℕ) (ws : List ℕ) (d : Each InWidth ws) : Type 0 where
      inputs : variables an_input (declared_parts i r v ws d ps) ≡ []
      rest : variables a_register (declared_parts i r v ws d ps) ++ variables a_wire (declared_parts i r v ws d ps) ≡ all_vars v ws d
      count : length (variables a_register (declared_parts i r v ws d ps)) + v ≡ i + r
      row : Row called (i + r) (map name_of (variables a_wire (declared_parts i r v ws d ps))) (v + length ws)

    at-wires : (v : ℕ) (ws : List ℕ) (d : Each InWidth ws) → v ≡ i + r → Registers v ws d
    at-wires v ws d e =
        let x = wires-phase v ws d (omega arith) in
        record {
          inputs = x.0;
          rest = rw (x.1, x.2) refl;
          count = rw x.1 (omega arith);
          row = rw (x.2, ← e) (vars-row v ws d);
        }

    registers-phase : (v : ℕ) (ws : List ℕ) (d : Each InWidth ws) → i ≤ v → v ≤ i + r → i + r ≤ v + length ws → Registers v ws d
    unfolding declared_parts variables kind_number of_width all_vars name_of
    registers-phase v [] d h l m = at-wires v [] d (omega arith)
    registers-phase v (w ∷ ws) d h l m = by (ltb v (i + r)) refl (λ a b c. registers-phase (v + 1) ws d.1 a b c)
      where
        by : (t : Bool) → ltb v (i + r) ≡ t
            → (i ≤ v + 1 → v + 1 ≤ i + r → i + r ≤ v + 1 + length ws → Registers (v + 1) ws d.1) → Registers v (w ∷ ws) d
        by true q f =
            let y = ltb-true v (i + r) q in
            let k = kind-register i r v h y in
            let x = f (omega arith) (omega arith) (omega arith) in
            record {
              inputs = rw k x.inputs;
              rest = rw (k, x.rest) refl;
              count = let z = x.count in rw k (omega arith);
              row = rw k (ending (omega arith) x.row);
            }
        by false q f = let y = ltb-false v (i + r) q in at-wires v (w ∷ ws) d (omega arith)

    pub record Variables (v : ℕ) (ws : List ℕ) (d : Each InWidth ws) : Type 0 where
      pub rest : variables an_input (declared_parts i r v ws d ps) ++ variables a_register (declared_parts i r v ws d ps)
          ++ variables a_wire (declared_parts i r v ws d ps) ≡ all_vars v ws d
      pub inputs : length (variables an_input (declared_parts i r v ws d ps)) + v ≡ i
      pub registers : length (variables a_register (declared_parts i r v ws d ps)) ≡ r
      pub row : Row called (i + r) (map name_of (variables a_wire (declared_parts i r v ws d ps))) (v + length ws)

    at-registers : (v : ℕ) (ws : List ℕ) (d : Each InWidth ws) → v ≡ i → i + r ≤ v + length ws → Variables v ws d
    at-registers v ws d e m =
        let x = registers-phase v ws d (omega arith) (omega arith) m in
        let z = x.count in
        record {
          rest = rw x.inputs x.rest;
          inputs = rw x.inputs (omega arith);
          registers = omega arith;
          row = x.row;
        }

    pub variables-phase : (v : ℕ) (ws : List ℕ) (d : Each InWidth ws) → v ≤ i → i + r ≤ v + length ws → Variables v ws d
    unfolding declared_parts variables kind_number of_width all_vars name_of
    variables-phase v [] d l m = at-registers v [] d (omega arith) m
    variables-phase v (w ∷ ws) d l m = by (ltb v i) refl (λ a b. variables-phase (v + 1) ws d.1 a b)
      where
        by : (t : Bool) → ltb v i ≡ t → (v + 1 ≤ i → i + r ≤ v + 1 + length ws → Variables (v + 1) ws d.1) → Variables v (w ∷ ws) d
        by true q f =
            let y = ltb-true v i q in
            let k = kind-input i r v y in
            let x = f (omega arith) (omega arith) in
            record {
              rest = rw (k, x.rest) refl;
              inputs = let z = x.inputs in rw k (omega arith);
              registers = rw k x.registers;
              row = rw k (ending (omega arith) x.row);
            }
        by false q f = let y = ltb-false v i q in at-registers v (w ∷ ws) d (omega arith) m

  -- ---- wires

  module _ (index : List ℕ → ℕ) where
    pub wires-variables : (k : Kind) (v : ℕ) (es : List Expr) (d : Each InWire es) (xs : List Item)
        → variables k (parts_of index (wire_trees called v es d xs)) ≡ variables k (parts_of index xs)
    unfolding wire_trees parts_of part_of variables
    wires-variables k v [] d xs = refl
    wires-variables k v (e ∷ es) d xs = wires-variables k (v + 1) es d.1 xs

    pub wires-declared : (v : ℕ) (es : List Expr) (d : Each InWire es) (xs : List Item)
        → declared (parts_of index (wire_trees called v es d xs)) ≡ declared (parts_of index xs)
    unfolding wire_trees parts_of part_of declared
    wires-declared v [] d xs = refl
    wires-declared v (e ∷ es) d xs = wires-declared (v + 1) es d.1 xs

    pub wires-threads : (v : ℕ) (es : List Expr) (d : Each InWire es) (xs : List Item)
        → threads (parts_of index (wire_trees called v es d xs)) ≡ threads (parts_of index xs)
    unfolding wire_trees parts_of part_of threads
    wires-threads v [] d xs = refl
    wires-threads v (e ∷ es) d xs = wires-threads (v + 1) es d.1 xs

    -- A wire's `assign`.
    abbrev pub driven_at : (v : ℕ) (e : Expr) → InWire e → Driven
    driven_at v e d = record { target = name_at called d.0 v; value = expr_of index (expr_tree called e d.1) }

    unfoldable pub driven_by : (v : ℕ) (es : List Expr) → Each InWire es → List Driven
    driven_by v [] d = []
    driven_by v (e ∷ es) d = driven_at v e d.0 ∷ driven_by (v + 1) es d.1

    pub wires-driven : (v : ℕ) (es : List Expr) (d : Each InWire es) (xs : List Item) → driven (parts_of index xs) ≡ []
        → driven (parts_of index (wire_trees called v es d xs)) ≡ driven_by v es d
    unfolding wire_trees parts_of part_of list_of driven_of driven driven_by
    wires-driven v [] d xs h = h
    wires-driven v (e ∷ es) d xs h = rw (wires-driven (v + 1) es d.1 xs h) refl

    pub driven-row : (v : ℕ) (es : List Expr) (d : Each InWire es) → Row called v (map target_of (driven_by v es d)) (v + length es)
    unfolding driven_by target_of
    driven-row v [] d = ending (omega arith) ends
    driven-row v (e ∷ es) d = ending (omega arith) (next refl (driven-row (v + 1) es d.1))

    -- ---- threads

    pub threads-variables : (k : Kind) (bs : List (Stmt Expr)) (d : Each InStmt bs)
        → variables k (parts_of index (thread_trees called bs d)) ≡ []
    unfolding thread_trees parts_of part_of variables
    threads-variables k [] d = refl
    threads-variables k (a ∷ bs) d = threads-variables k bs d.1

    pub threads-declared : (bs : List (Stmt Expr)) (d : Each InStmt bs) → declared (parts_of index (thread_trees called bs d)) ≡ []
    unfolding thread_trees parts_of part_of declared
    threads-declared [] d = refl
    threads-declared (a ∷ bs) d = threads-declared bs d.1

    pub threads-driven : (bs : List (Stmt Expr)) (d : Each InStmt bs) → driven (parts_of index (thread_trees called bs d)) ≡ []
    unfolding thread_trees parts_of part_of driven
    threads-driven [] d = refl
    threads-driven (a ∷ bs) d = threads-driven bs d.1

    pub threads-count : (bs : List (Stmt Expr)) (d : Each InStmt bs)
        → length (threads (parts_of index (thread_trees called bs d))) ≡ length bs
    unfolding thread_trees parts_of part_of threads
    threads-count [] d = refl
    threads-count (a ∷ bs) d = ap suc (threads-count bs d.1)

    -- ---- their bytes

    module _ (c : Scope) (right : (v : ℕ) → v < length c.widths → index (called v) ≡ v)
        (bound : c.inputs + c.registers ≤ length c.widths) where
      pub threads-written : (bs : List (Stmt Expr)) → ThreadsFit c bs → (d : Each InStmt bs)
          → written_threads (threads (parts_of index (thread_trees called bs d))) ≡ encode_threads (map returned bs)
      unfolding ThreadsFit thread_trees parts_of part_of threads written_threads encode_threads
      threads-written [] t d = refl
      threads-written (a ∷ bs) t d = rw (thread-meant called index c right bound a t.0 d.0, threads-written bs t.2 d.1) refl

      module _ (distinct : (u v : ℕ) → u < length c.widths → v < length c.widths → called u ≡ called v → u ≡ v) where
        -- A wire's `assign` is of no wire behind it.
        skipped : (v u t : ℕ) (a : Driven) (ds : List Driven) (vs : List Variable) → a.target.spelled ≡ called v
            → Row called u (map name_of vs) t → v < u → t ≤ length c.widths → written_wires (a ∷ ds) vs ≡ written_wires ds vs
        unfolding written_wires value_for name_of
        skipped v u t a ds [] e r l m = refl
        skipped v u t a ds (x ∷ vs) e (next f r) l m =
            let z = row-length called r in
            let q : same_text a.target.spelled x.named.spelled ≡ false =
            rw (e, f) (different called (length c.widths) distinct v u (omega arith) (omega arith) (λ q. omega arith)) in
            rw (q, skipped v (u + 1) t a ds vs e r (omega arith) m) refl

        pub wires-written : (v : ℕ) (es : List Expr) (d : Each InWire es) (vs : List Variable) → WiresFit c v es
            → Row called v (map name_of vs) (v + length es) → v + length es ≤ length c.widths
            → written_wires (driven_by v es d) vs ≡ encode_wires es
        unfolding WiresFit driven_by written_wires encode_wires expr_of name_of
        wires-written v [] d [] t r l = refl
        wires-written v [] d (x ∷ vs) t r l = let z = row-length called r in absurd (omega arith)
        wires-written v (e ∷ es) d [] t r l = let z = row-length called r in absurd (omega arith)
        wires-written v (e ∷ es) d (x ∷ vs) t (next f r) l =
            rw (
              skipped v (v + 1) (v + length (e ∷ es)) (driven_at v e d.0) (driven_by (v + 1) es d.1) vs refl r (omega arith) l,
              wires-written (v + 1) es d.1 vs t.1 (ending (omega arith) r) (omega arith),
            )
            (first x.named.spelled f)
          where
            first : (s : List ℕ) → s ≡ called v
                → encode_expr (value_for (driven_at v e d.0 ∷ driven_by (v + 1) es d.1) s) ++ encode_wires es
                ≡ encode_expr e ++ encode_wires es
            first s q = unfold value_for in rw (q, same_text-refl (called v), expr-meant called index c right 16 e _ t.0 d.0.1) refl
