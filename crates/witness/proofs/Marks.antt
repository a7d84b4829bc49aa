-- On an accepted sheet's tables the witnesses that are found by the masks are the module's: 12, 13, 14, 19. Assumes nothing.
use mathlib.Core.Path.{◌≡◌, refl, ap, ◌∙◌}
use mathlib.Core.Bool.{Bool, true, false, not, ◌&&◌}
use mathlib.Core.List.{List}
use Prim.Native.Nat.{ℕ, ◌+◌, ◌≤◌, ◌<◌}
use native.Mathlib.Omega.{arith}
use lib.Dec.{ltb, leb, eqb}
use lib.ListN.{length, get_or, set, replicate}
use Rattle.values.specs.Values.{pick}
use Rattle.sheet.specs.declared.Layout.{Layout}
use Rattle.sheet.specs.Expression.{Expr}
use Rattle.sheet.specs.Module.{widths_at, Module}
use Rattle.masks.specs.Masks.{bits}
use Rattle.soundness.specs.Soundness.{Sound}
use Rattle.events.specs.Cycle.{any_below, wire_expr, wire_variable}
use Rattle.events.proofs.Cycle.{any_same}
use Rattle.nextstate.specs.Rules.{plain_writes, defers, writes, thread_reads, wire_reads, some_thread, some_wire, read_elsewhere, reads_upward}
use Rattle.tables.specs.Holding.{Holding}
use Rattle.rules.specs.Writers.{plain_below, later_below}
use Rattle.rules.specs.Reading.{reading_below}
use Rattle.rules.specs.Judging.{writes_too, written_twice, other_writes, written_both, shared_by, shared_at, upward_at, reads_above}
use Rattle.rules.proofs.Tests.{mark-clear}
use Rattle.rules.proofs.Expressions.{Expressions}
use Rattle.rules.proofs.Rules.{entry_at, marks-plain, marks-later, marks-both, again, by-plain, by-later, by-thread, elsewhere}
use Rattle.rules.proofs.Rules as the-rules
use Rattle.witness.specs.declared.MarkTest.TheVariants.{Twice, Writes, OtherWrites, Both, Plain, Later, Shared, SharedBy, OtherReads, Reads, WireReads, Upward, Above}
use Rattle.witness.specs.Witness.{lowest, a_register, first_register, first_thread, first_wire, double_written, written_both_ways, shared_register, upward_wire}
use Rattle.witness.specs.Seeking.{a_wire, by_marks, double_written_at, written_both_ways_at, shared_register_at, upward_wire_at}
use Rattle.witness.proofs.Lowest.{lowest-same, lowest-some, lowest-most, lowest-holds}

-- A layout with the module's counts.
abbrev pub shape : Module Expr → List ℕ → List ℕ → ℕ → Layout
shape m ds places body =
    record {
      inputs = m.scope.inputs;
      registers = m.scope.registers;
      wires = length m.wires;
      threads = length m.threads;
      functions = m.scope.declared;
      widths = widths_at m.scope.declared;
      definitions = ds;
      starts = places;
      body = body;
    }

module _ {s ds : List ℕ} {m : Module Expr} {starts sizes code readers : List ℕ} {watched : List Bool}
    (z : Sound m) (h : Holding s m starts sizes code readers watched) (e : Expressions s ds m code) (places : List ℕ) (body : ℕ) where
  abbrev inputs : ℕ
  inputs = m.scope.inputs

  abbrev registers : ℕ
  registers = m.scope.registers

  abbrev wires : ℕ
  wires = length m.wires

  abbrev threads : ℕ
  threads = length m.threads

  abbrev ps : List ℕ
  ps = plain_below s code sizes m.scope.inputs (length m.threads) (replicate 8 0)

  abbrev ls : List ℕ
  ls = later_below s code sizes m.scope.inputs (length m.threads) (replicate 8 0)

  abbrev reading : List ℕ
  reading = reading_below s ds code sizes (length m.threads) (replicate 80 0)

  abbrev l : Layout
  l = shape m ds places body

  near : (r : ℕ) → r ≤ registers → inputs + r < 80
  near r k = omega (arith, z.inputs-most, z.registers-most)

  -- ---- 12

  twice-at : (r : ℕ) → by_marks l readers ps ls reading Twice r
      ≡ some_thread m (λ i. some_thread m (λ j. not (eqb i j) && (writes m i (inputs + r) && writes m j (inputs + r))))
  unfolding by_marks written_twice some_thread
  twice-at r =
      any_same (writes_too ps ls threads r)
      (λ i. any_below threads (λ j. not (eqb i j) && (writes m i (inputs + r) && writes m j (inputs + r)))) threads (λ i k. again z h e i r k)

  writes_at : (r i : ℕ) → i < threads → by_marks l readers ps ls reading (Writes r) i ≡ writes m i (inputs + r)
  unfolding by_marks
  writes_at r i k = marks-both z h e i r k

  others-at : (i r j : ℕ) → j < threads
      → by_marks l readers ps ls reading (OtherWrites i r) j ≡ (not (eqb i j) && writes m j (inputs + r))
  unfolding by_marks other_writes
  others-at i r j k = ap (λ t. not (eqb i j) && t) (marks-both z h e j r k)

  pub double-same : double_written_at l readers ps ls reading ≡ double_written m
  unfolding double_written_at double_written
  double-same =
      let f : ℕ → Bool = λ v. some_thread m (λ i. some_thread m (λ j. not (eqb i j) && (writes m i v && writes m j v))) in
      let r = first_register m f in
      let v = inputs + r in
      let i = first_thread m (λ i. writes m i v) in
      let er = lowest-same (by_marks l readers ps ls reading Twice) (λ r. f (inputs + r)) registers (λ k n. twice-at k) in
      let ei = lowest-same (by_marks l readers ps ls reading (Writes r)) (λ i. writes m i v) threads (λ k n. writes_at r k n) in
      let ej = lowest-same (by_marks l readers ps ls reading (OtherWrites i r)) (λ j. not (eqb i j) && writes m j v) threads (λ k n. others-at i r k n) in
      (λ t. let r = er t in
      let i = lowest threads (by_marks l readers ps ls reading (Writes r)) in
      a_register 12 r i (lowest threads (by_marks l readers ps ls reading (OtherWrites i r))))
      ∙ (λ t. a_register 12 r (ei t) (lowest threads (by_marks l readers ps ls reading (OtherWrites (ei t) r))))
      ∙ (λ t. a_register 12 r i (ej t))

  -- ---- 13

  both_at : (r : ℕ) → by_marks l readers ps ls reading Both r
      ≡ (some_thread m (λ i. plain_writes m i (inputs + r)) && some_thread m (λ i. defers m i (inputs + r)))
  unfolding by_marks written_both
  both_at r = λ j. (by-plain z h e r j && by-later z h e r j)

  plain-at : (r i : ℕ) → i < threads → by_marks l readers ps ls reading (Plain r) i ≡ plain_writes m i (inputs + r)
  unfolding by_marks
  plain-at r i k = marks-plain z h e i r k

  later-at : (r i : ℕ) → i < threads → by_marks l readers ps ls reading (Later r) i ≡ defers m i (inputs + r)
  unfolding by_marks
  later-at r i k = marks-later z h e i r k

  pub both-same : written_both_ways_at l readers ps ls reading ≡ written_both_ways m
  unfolding written_both_ways_at written_both_ways
  both-same =
      let f : ℕ → Bool = λ v. some_thread m (λ i. plain_writes m i v) && some_thread m (λ i. defers m i v) in
      let r = first_register m f in
      let v = inputs + r in
      let er = lowest-same (by_marks l readers ps ls reading Both) (λ r. f (inputs + r)) registers (λ k n. both_at k) in
      let ei = lowest-same (by_marks l readers ps ls reading (Plain r)) (λ i. plain_writes m i v) threads (λ k n. plain-at r k n) in
      let ej = lowest-same (by_marks l readers ps ls reading (Later r)) (λ i. defers m i v) threads (λ k n. later-at r k n) in
      (λ t. a_register 13 (er t) (lowest threads (by_marks l readers ps ls reading (Plain (er t)))) (lowest threads (by_marks l readers ps ls reading (Later (er t)))))
      ∙ (λ t. a_register 13 r (ei t) (ej t))

  -- ---- readers of a variable

  others-read : (i v j : ℕ) → v < 80 → j < threads
      → by_marks l readers ps ls reading (OtherReads i v) j ≡ (not (eqb i j) && thread_reads m j v)
  unfolding by_marks
  others-read i v j k n =
      ap (λ (w : ℕ). get_or (set (bits w) i false) j false) (entry_at reading v k)
      ∙ mark-clear (bits (get_or reading v 0)) i j
      ∙ ap (λ t. not (eqb i j) && t) ((by-thread z h e).own v j k n)

  pub threads-read : (v j : ℕ) → v < 80 → j < threads → by_marks l readers ps ls reading (Reads v) j ≡ thread_reads m j v
  unfolding by_marks
  threads-read v j k n = ap (λ (w : ℕ). get_or (bits w) j false) (entry_at reading v k) ∙ (by-thread z h e).own v j k n

  pub wires-read : (v k : ℕ) → v < 80 → k < wires → by_marks l readers ps ls reading (WireReads v) k ≡ wire_reads m k v
  unfolding by_marks wire_reads wire_expr
  wires-read v k n u = ap (λ (w : ℕ). get_or (bits w) k false) (entry_at readers v n) ∙ h.read_by v k n u

  -- ---- 14

  shared-by : (r i : ℕ) → r ≤ registers → i < threads
      → by_marks l readers ps ls reading (SharedBy r (inputs + r)) i ≡ (plain_writes m i (inputs + r) && read_elsewhere m i (inputs + r))
  unfolding by_marks shared_by
  shared-by r i k n = λ j. (marks-plain z h e i r n j && elsewhere z h e i (inputs + r) (near r k) j)

  shared-at : (r : ℕ) → r < registers → by_marks l readers ps ls reading Shared r
      ≡ some_thread m (λ i. plain_writes m i (inputs + r) && read_elsewhere m i (inputs + r))
  unfolding by_marks shared_at shared_by some_thread
  shared-at r k =
      any_same (shared_by ps reading readers r (inputs + r)) (λ i. plain_writes m i (inputs + r) && read_elsewhere m i (inputs + r)) threads
      (λ i n. λ j. (marks-plain z h e i r n j && elsewhere z h e i (inputs + r) (near r (omega arith)) j))

  -- By a thread, or else by a wire.
  reader : (r i j k : ℕ) (t : Bool)
      → pick t (a_register 14 r i j) (a_wire 14 r i k 0)
      ≡ record { number = 14; thread = i; other = pick t j 0; register = r; wired = not t; wire = pick t 0 k; above = 0; place = 0 }
  reader r i j k true = refl
  reader r i j k false = refl

  pub shared_same : shared_register_at l readers ps ls reading ≡ shared_register m
  unfolding shared_register_at shared_register some_thread
  shared_same =
      let f : ℕ → Bool = λ v. any_below threads (λ i. plain_writes m i v && read_elsewhere m i v) in
      let r = first_register m f in
      let v = inputs + r in
      let low = near r (lowest-most (λ r. f (inputs + r)) registers) in
      let i = first_thread m (λ i. plain_writes m i v && read_elsewhere m i v) in
      let g : ℕ → Bool = λ j. not (eqb i j) && thread_reads m j v in
      let j = first_thread m g in
      let er = lowest-same (by_marks l readers ps ls reading Shared) (λ r. f (inputs + r)) registers (λ k n. shared-at k n) in
      let ei =
      lowest-same (by_marks l readers ps ls reading (SharedBy r v)) (λ i. plain_writes m i v && read_elsewhere m i v) threads
      (λ k n. shared-by r k (lowest-most (λ r. f (inputs + r)) registers) n) in
      let ej = lowest-same (by_marks l readers ps ls reading (OtherReads i v)) g threads (λ k n. others-read i v k low n) in
      let ek = lowest-same (by_marks l readers ps ls reading (WireReads v)) (λ k. wire_reads m k v) wires (λ k n. wires-read v k low n) in
      (λ t. let r = er t in
      let v = inputs + r in
      let i = lowest threads (by_marks l readers ps ls reading (SharedBy r v)) in
      let j = lowest threads (by_marks l readers ps ls reading (OtherReads i v)) in
      pick (ltb j threads) (a_register 14 r i j) (a_wire 14 r i (lowest wires (by_marks l readers ps ls reading (WireReads v))) 0))
      ∙ (λ t. let i = ei t in
      let j = lowest threads (by_marks l readers ps ls reading (OtherReads i v)) in
      pick (ltb j threads) (a_register 14 r i j) (a_wire 14 r i (lowest wires (by_marks l readers ps ls reading (WireReads v))) 0))
      ∙ (λ t. pick (ltb (ej t) threads) (a_register 14 r i (ej t)) (a_wire 14 r i (ek t) 0))
      ∙ (λ t. pick (lowest-some g threads t) (a_register 14 r i j) (a_wire 14 r i (first_wire m (λ k. wire_reads m k v)) 0))
      ∙ reader r i j (first_wire m (λ k. wire_reads m k v)) (any_below threads g)

  -- ---- 19

  upward-at : (k : ℕ) → k < wires → by_marks l readers ps ls reading Upward k
      ≡ some_wire m (λ j. leb k j && wire_reads m k (wire_variable m j))
  unfolding by_marks reads_above some_wire
  upward-at k n =
      any_same (λ j. upward_at readers k (inputs + registers + j) j) (λ j. leb k j && wire_reads m k (wire_variable m j)) wires
      (λ j u. the-rules.upward-at z h e k j n u)

  above_at : (k j : ℕ) → k < wires → j < wires
      → by_marks l readers ps ls reading (Above k) j ≡ (leb k j && wire_reads m k (wire_variable m j))
  unfolding by_marks
  above_at k j n u = the-rules.upward-at z h e k j n u

  pub upward-same : reads_upward m ≡ true → upward_wire_at l readers ps ls reading ≡ upward_wire m
  unfolding upward_wire_at upward_wire reads_upward some_wire
  upward-same some =
      let f : ℕ → Bool = λ k. any_below wires (λ j. leb k j && wire_reads m k (wire_variable m j)) in
      let k = first_wire m f in
      let inside = (lowest-holds f wires some).0 in
      let ek = lowest-same (by_marks l readers ps ls reading Upward) f wires (λ k n. upward-at k n) in
      let ej = lowest-same (by_marks l readers ps ls reading (Above k)) (λ j. leb k j && wire_reads m k (wire_variable m j)) wires (λ j n. above_at k j inside n) in
      (λ t. a_wire 19 0 0 (ek t) (lowest wires (by_marks l readers ps ls reading (Above (ek t)))))
      ∙ (λ t. a_wire 19 0 0 k (ej t))
