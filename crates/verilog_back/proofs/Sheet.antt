-- The sheet of the derivation is the encoding of what comes back, and its names have no fault.
-- Assumes nothing.
use mathlib.Core.Path.{◌≡◌, refl, sym, ap, ◌∙◌}
use mathlib.Core.List.{List, [], map}
use Prim.Native.Nat.{ℕ, ◌+◌, ◌≤◌, ◌<◌}
use native.Mathlib.Omega.{arith}
use lib.ListN.{length, length-map}
use Rattle.sheet.specs.Expression.{Expr}
use Rattle.sheet.specs.Statement.{Stmt}
use Rattle.sheet.specs.Module.{Module}
use Rattle.encoding.specs.Encoding.{encode_wires, encode_threads, encode}
use Rattle.encoding.specs.WellFormed.{WellFormed}
use Rattle.verilog_tokens.specs.Table.{place_of}
use Rattle.verilog_grammar.specs.AnnexA.{yield}
use Rattle.verilog_grammar.specs.Meaning.{up_to, Kind, an_input, a_register, a_wire, Part, parts_of, meaning}
use Rattle.verilog_source.specs.Names.{variables, declared, driven, threads, in_order, name_of, number_of, target_of, faults}
use Rattle.verilog_source.specs.Written.{written_threads, written_widths, written_wires, written}
use Rattle.verilog_source.specs.Compiled.{unnumbered}
use Rattle.verilog_source.specs.Claims.{declared_by, sheet_by}
use Rattle.verilog_back.specs.Returned.{returned, returned_module}
use Rattle.verilog_back.specs.Tree.{InModule, name_at, thread_trees, wire_trees, tree_of}
use Rattle.verilog_back.proofs.Meant.{up_to-same}
use Rattle.verilog_back.proofs.Rows.{Row, row-length, place_in, among, no-repeats, none-missing}
use Rattle.verilog_back.proofs.Used.{all_named}
use Rattle.verilog_back.proofs.Parts.{declared_parts, parts-declared, all_vars, vars-row, widths-written, declared-row, driven-kept, threads-kept, Variables, variables-phase, wires-variables, wires-declared, wires-threads, driven_by, wires-driven, driven-row, threads-variables, threads-declared, threads-driven, threads-count, threads-written, wires-written}

module _ (called : ℕ → List ℕ) (m : Module Expr) (f : WellFormed m) (d : InModule m)
    (distinct : (u v : ℕ) → u < length m.scope.widths → v < length m.scope.widths → called u ≡ called v → u ≡ v) where
  -- The parts behind the declarations, and all parts.
  unfoldable under : (List ℕ → ℕ) → List Part
  under index =
      parts_of index
      (wire_trees called (m.scope.inputs + m.scope.registers) m.wires d.wires (thread_trees called m.threads d.threads))

  unfoldable parts : (List ℕ → ℕ) → List Part
  parts index = declared_parts called m.scope.inputs m.scope.registers 0 m.scope.widths d.widths (under index)

  meant : (index : List ℕ → ℕ) → (meaning index (tree_of called m d)).parts ≡ parts index
  unfolding meaning tree_of parts under
  meant index = parts-declared called index m.scope.inputs m.scope.registers 0 m.scope.widths d.widths _ f.widths

  module _ (index : List ℕ → ℕ) where
    none-under : (k : Kind) → variables k (under index) ≡ []
    unfolding under
    none-under k = wires-variables called index k _ m.wires d.wires _ ∙ threads-variables called index k m.threads d.threads

    undeclared : declared (under index) ≡ []
    unfolding under
    undeclared = wires-declared called index _ m.wires d.wires _ ∙ threads-declared called index m.threads d.threads

    laid : Variables called m.scope.inputs m.scope.registers (under index) none-under 0 m.scope.widths d.widths
    laid =
        let l = f.variables in
        variables-phase called m.scope.inputs m.scope.registers (under index) none-under 0 m.scope.widths d.widths
        (omega arith)
        (omega arith)

    in-order : in_order (parts index) ≡ all_vars called 0 m.scope.widths d.widths
    unfolding in_order parts
    in-order = laid.rest

    declared-names : Row called 0 (declared (parts index)) (0 + length m.scope.widths)
    unfolding parts
    declared-names = declared-row called m.scope.inputs m.scope.registers 0 m.scope.widths d.widths (under index) undeclared

    wire-names : Row called (m.scope.inputs + m.scope.registers) (map name_of (variables a_wire (parts index)))
        (0 + length m.scope.widths)
    unfolding parts
    wire-names = laid.row

    drivers : driven (parts index) ≡ driven_by called index (m.scope.inputs + m.scope.registers) m.wires d.wires
    unfolding parts under
    drivers =
        driven-kept called m.scope.inputs m.scope.registers 0 m.scope.widths d.widths _
        ∙ wires-driven called index _ m.wires d.wires _ (threads-driven called index m.threads d.threads)

    driven-names : Row called (m.scope.inputs + m.scope.registers) (map target_of (driven (parts index)))
        (m.scope.inputs + m.scope.registers + length m.wires)
    driven-names = rw drivers (driven-row called index (m.scope.inputs + m.scope.registers) m.wires d.wires)

    runners : threads (parts index) ≡ threads (parts_of index (thread_trees called m.threads d.threads))
    unfolding parts under
    runners =
        threads-kept called m.scope.inputs m.scope.registers 0 m.scope.widths d.widths _
        ∙ wires-threads called index _ m.wires d.wires _

    -- ---- each name's number is its variable's

    numbered : (v : ℕ) → v < length m.scope.widths → number_of (parts index) (called v) ≡ v
    unfolding number_of
    numbered v h =
        let row = vars-row called 0 m.scope.widths d.widths in
        let p = place_in called (length m.scope.widths) distinct row (omega arith) v (omega arith) (omega arith) in
        let e : place_of (map name_of (all_vars called 0 m.scope.widths d.widths)) (called v) ≡ v = omega arith in
        let l = f.variables in
        let a = f.inputs.1 in
        let b = f.registers.1 in
        let c = f.wires in
        rw (in-order, e) (up_to-same 255 v (omega arith))

    -- ---- no name is at fault

    faultless : faults (yield (tree_of called m d)) (parts index) ≡ []
    unfolding faults
    faultless =
        let n = length m.scope.widths in
        let l = f.variables in
        let a = all_named called (declared (parts index)) m
        (λ p v h. among called n distinct declared-names (name_at called p v) v refl (omega arith) (omega arith)) f d in
        let b = no-repeats called n distinct declared-names (omega arith) in
        let g = none-missing called n distinct driven-names wire-names (omega arith) (omega arith) in
        let h = no-repeats called n distinct driven-names (omega arith) in
        let k = none-missing called n distinct wire-names driven-names (omega arith) (omega arith) in
        rw (a, b, g, h, k) refl

    -- ---- the bytes

    inputs-count : length (variables an_input (parts index)) ≡ m.scope.inputs
    unfolding parts
    inputs-count = let z = laid.inputs in omega arith

    registers-count : length (variables a_register (parts index)) ≡ m.scope.registers
    unfolding parts
    registers-count = laid.registers

    wires-count : length (variables a_wire (parts index)) ≡ length m.wires
    wires-count =
        let l = f.variables in
        let z = row-length called wire-names in
        let e = length-map (variables a_wire (parts index)) name_of in
        omega arith

    runs-count : length (threads (parts index)) ≡ length (map returned m.threads)
    runs-count =
        ap (λ (l : List (Stmt Expr)). length l) runners ∙ threads-count called index m.threads d.threads
        ∙ sym (length-map m.threads returned)

    module _ (right : (v : ℕ) → v < length m.scope.widths → index (called v) ≡ v) where
      bound : m.scope.inputs + m.scope.registers ≤ length m.scope.widths
      bound = let l = f.variables in omega arith

      wires-bytes : written_wires (driven (parts index)) (variables a_wire (parts index)) ≡ encode_wires m.wires
      wires-bytes =
          let l = f.variables in
          let e : 0 + length m.scope.widths ≡ m.scope.inputs + m.scope.registers + length m.wires = omega arith in
          rw drivers
          (wires-written called index m.scope right bound distinct (m.scope.inputs + m.scope.registers) m.wires d.wires
          (variables a_wire (parts index))
          f.wired
          (rw e at wire-names)
          (omega arith))

      sheet-written : written (parts index) ≡ encode (returned_module m)
      unfolding written encode returned_module
      sheet-written =
          let c = m.scope in
          let i : up_to 16 (length (variables an_input (parts index))) ≡ c.inputs =
          rw inputs-count (up_to-same 16 c.inputs f.inputs.1) in
          let r : up_to 32 (length (variables a_register (parts index))) ≡ c.registers =
          rw registers-count (up_to-same 32 c.registers f.registers.1) in
          let w : up_to 32 (length (variables a_wire (parts index))) ≡ length m.wires =
          rw wires-count (up_to-same 32 (length m.wires) f.wires) in
          let n = length-map m.threads returned in
          let k = f.threads.1 in
          let t : up_to 8 (length (threads (parts index))) ≡ length (map returned m.threads) =
          rw runs-count (up_to-same 8 (length (map returned m.threads)) (omega arith)) in
          let a : written_widths (in_order (parts index)) ≡ c.widths =
          rw in-order (widths-written called 0 c.widths d.widths f.widths) in
          let g : written_threads (threads (parts index)) ≡ encode_threads (map returned m.threads) =
          rw runners (threads-written called index c right bound m.threads f.threaded d.threads) in
          rw (i, r, w, t, a, wires-bytes, g) refl

  -- ---- of the derivation

  pub tree-faultless : faults (yield (tree_of called m d)) (declared_by (tree_of called m d)) ≡ []
  unfolding declared_by
  tree-faultless = rw (meant unnumbered) (faultless unnumbered)

  pub tree-sheet : sheet_by (tree_of called m d) ≡ encode (returned_module m)
  unfolding sheet_by declared_by
  tree-sheet =
      let index = number_of (parts unnumbered) in
      rw (meant unnumbered, meant index) (sheet-written index (numbered unnumbered))
