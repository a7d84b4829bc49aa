-- The ways through the code that names a witness: from what its calls give to the definition in specs/Seeking. Assumes nothing.
use mathlib.Core.Path.{◌≡◌, ap, ◌∙◌}
use mathlib.Core.List.{List}
use Prim.Native.Nat.{ℕ, ◌+◌, ◌≤◌, ◌<◌}
use borrow.Author.Tests.{lt-ltb, le-ltb}
use lib.Dec.{ltb}
use lib.ListN.{get_or, replicate}
use Rattle.values.specs.Values.{pick}
use Rattle.sheet.specs.declared.Layout.{Layout}
use Rattle.tables.specs.Readers.{at_most}
use Rattle.rules.specs.Judging.{size_of}
use Rattle.extraction.specs.declared.Thread.{Thread}
use Rattle.extraction.specs.Filling.{Filling, filling, extent, variables_below, walks_below_at, thread_at, threads_below_at}
use Rattle.witness.specs.declared.Witness.{Witness}
use Rattle.witness.specs.declared.MarkTest.TheVariants.{Twice, Writes, OtherWrites, Both, Plain, Later, Shared, SharedBy, OtherReads, Reads, WireReads, Upward, Above}
use Rattle.witness.specs.declared.CodeTest.TheVariants.{OtherWait, OtherWaitAt, ClockAt, Waits, WaitsAt, Spills, SpillsAt}
use Rattle.witness.specs.Witness.{lowest, bare, a_register, a_place}
use Rattle.witness.specs.Seeking.{a_wire, by_marks, double_written_at, written_both_ways_at, shared_register_at, upward_wire_at}
use Rattle.witness.specs.Seeking.{walked_at, nodes_at, by_code, odd_wait_at, surplus_wait_at, overflowing_walk_at, clock_reader_at}

-- ---- by the masks

module _ (l : Layout) (readers ps ls reading : List ℕ) where
  pub double-way : {registers threads r i j : ℕ} {w : Witness} → registers ≡ l.registers → threads ≡ l.threads
      → r ≡ lowest registers (by_marks l readers ps ls reading Twice) → i ≡ lowest threads (by_marks l readers ps ls reading (Writes r))
      → j ≡ lowest threads (by_marks l readers ps ls reading (OtherWrites i r)) → w ≡ a_register 12 r i j
      → w ≡ double_written_at l readers ps ls reading
  unfolding double_written_at
  double-way {threads = threads} {r} {i} g t er ei ej e =
      e
      ∙ (λ y. a_register 12 r i (ej y))
      ∙ (λ y. a_register 12 r (ei y) (lowest threads (by_marks l readers ps ls reading (OtherWrites (ei y) r))))
      ∙ (λ y. let r = er y in
      let i = lowest threads (by_marks l readers ps ls reading (Writes r)) in
      a_register 12 r i (lowest threads (by_marks l readers ps ls reading (OtherWrites i r))))
      ∙ (λ y. let r = lowest (g y) (by_marks l readers ps ls reading Twice) in
      let i = lowest (t y) (by_marks l readers ps ls reading (Writes r)) in
      a_register 12 r i (lowest (t y) (by_marks l readers ps ls reading (OtherWrites i r))))

  pub both-way : {registers threads r i j : ℕ} {w : Witness} → registers ≡ l.registers → threads ≡ l.threads
      → r ≡ lowest registers (by_marks l readers ps ls reading Both) → i ≡ lowest threads (by_marks l readers ps ls reading (Plain r))
      → j ≡ lowest threads (by_marks l readers ps ls reading (Later r)) → w ≡ a_register 13 r i j
      → w ≡ written_both_ways_at l readers ps ls reading
  unfolding written_both_ways_at
  both-way {threads = threads} {r} g t er ei ej e =
      e
      ∙ (λ y. a_register 13 r (ei y) (ej y))
      ∙ (λ y. let r = er y in
      a_register 13 r (lowest threads (by_marks l readers ps ls reading (Plain r))) (lowest threads (by_marks l readers ps ls reading (Later r))))
      ∙ (λ y. let r = lowest (g y) (by_marks l readers ps ls reading Both) in
      a_register 13 r (lowest (t y) (by_marks l readers ps ls reading (Plain r))) (lowest (t y) (by_marks l readers ps ls reading (Later r))))

  -- The register, the thread and the other thread that the definition names.
  module _ {registers threads inputs r i j : ℕ} (g : registers ≡ l.registers) (t : threads ≡ l.threads) (n : inputs ≡ l.inputs)
      (er : r ≡ lowest registers (by_marks l readers ps ls reading Shared))
      (ei : i ≡ lowest threads (by_marks l readers ps ls reading (SharedBy r (inputs + r))))
      (ej : j ≡ lowest threads (by_marks l readers ps ls reading (OtherReads i (inputs + r)))) where
    shared-by : pick (ltb j threads) (a_register 14 r i j) (a_wire 14 r i (lowest l.wires (by_marks l readers ps ls reading (WireReads (inputs + r)))) 0)
        ≡ shared_register_at l readers ps ls reading
    unfolding shared_register_at
    shared-by =
        (λ y. let j = ej y in
        pick (ltb j threads) (a_register 14 r i j) (a_wire 14 r i (lowest l.wires (by_marks l readers ps ls reading (WireReads (inputs + r)))) 0))
        ∙ (λ y. let i = ei y in
        let j = lowest threads (by_marks l readers ps ls reading (OtherReads i (inputs + r))) in
        pick (ltb j threads) (a_register 14 r i j) (a_wire 14 r i (lowest l.wires (by_marks l readers ps ls reading (WireReads (inputs + r)))) 0))
        ∙ (λ y. let r = er y in
        let v = n y + r in
        let i = lowest threads (by_marks l readers ps ls reading (SharedBy r v)) in
        let j = lowest threads (by_marks l readers ps ls reading (OtherReads i v)) in
        pick (ltb j threads) (a_register 14 r i j) (a_wire 14 r i (lowest l.wires (by_marks l readers ps ls reading (WireReads v))) 0))
        ∙ (λ y. let r = lowest (g y) (by_marks l readers ps ls reading Shared) in
        let v = l.inputs + r in
        let i = lowest (t y) (by_marks l readers ps ls reading (SharedBy r v)) in
        let j = lowest (t y) (by_marks l readers ps ls reading (OtherReads i v)) in
        pick (ltb j (t y)) (a_register 14 r i j) (a_wire 14 r i (lowest l.wires (by_marks l readers ps ls reading (WireReads v))) 0))

    pub shared-thread : {w : Witness} → j < threads → w ≡ a_register 14 r i j → w ≡ shared_register_at l readers ps ls reading
    shared-thread k e = e ∙ rw (lt-ltb j threads k) at shared-by

    pub shared-wire : {wires k : ℕ} {w : Witness} → threads ≤ j → wires ≡ l.wires
        → k ≡ lowest wires (by_marks l readers ps ls reading (WireReads (inputs + r))) → w ≡ a_wire 14 r i k 0
        → w ≡ shared_register_at l readers ps ls reading
    shared-wire h u ek e =
        let p : a_wire 14 r i (lowest l.wires (by_marks l readers ps ls reading (WireReads (inputs + r)))) 0 ≡ shared_register_at l readers ps ls reading =
        rw (le-ltb j threads h) at shared-by in
        e
        ∙ (λ y. a_wire 14 r i (ek y) 0)
        ∙ (λ y. a_wire 14 r i (lowest (u y) (by_marks l readers ps ls reading (WireReads (inputs + r)))) 0)
        ∙ p

  pub upward-way : {wires k j : ℕ} {w : Witness} → wires ≡ l.wires → k ≡ lowest wires (by_marks l readers ps ls reading Upward)
      → j ≡ lowest wires (by_marks l readers ps ls reading (Above k)) → w ≡ a_wire 19 0 0 k j → w ≡ upward_wire_at l readers ps ls reading
  unfolding upward_wire_at
  upward-way {wires} {k} u ek ej e =
      e
      ∙ (λ y. a_wire 19 0 0 k (ej y))
      ∙ (λ y. let k = ek y in a_wire 19 0 0 k (lowest wires (by_marks l readers ps ls reading (Above k))))
      ∙ (λ y. let k = lowest (u y) (by_marks l readers ps ls reading Upward) in
      a_wire 19 0 0 k (lowest (u y) (by_marks l readers ps ls reading (Above k))))

-- ---- by the threads' code

module _ (s : List ℕ) (l : Layout) (code sizes ps ls : List ℕ) where
  pub odd-way : {threads i size p : ℕ} {w : Witness} → threads ≡ l.threads → i ≡ lowest threads (by_code s l code sizes ps ls OtherWait)
      → size ≡ size_of sizes i → p ≡ lowest size (by_code s l code sizes ps ls (OtherWaitAt i)) → w ≡ a_place 15 i p
      → w ≡ odd_wait_at s l code sizes ps ls
  unfolding odd_wait_at
  odd-way {i = i} t ei es ep e =
      e
      ∙ (λ y. a_place 15 i (ep y))
      ∙ (λ y. a_place 15 i (lowest (es y) (by_code s l code sizes ps ls (OtherWaitAt i))))
      ∙ (λ y. let i = ei y in a_place 15 i (lowest (size_of sizes i) (by_code s l code sizes ps ls (OtherWaitAt i))))
      ∙ (λ y. let i = lowest (t y) (by_code s l code sizes ps ls OtherWait) in
      a_place 15 i (lowest (size_of sizes i) (by_code s l code sizes ps ls (OtherWaitAt i))))

  pub surplus-way : {threads i size p : ℕ} {w : Witness} → threads ≡ l.threads → i ≡ lowest threads (by_code s l code sizes ps ls Waits)
      → size ≡ size_of sizes i → p ≡ lowest size (by_code s l code sizes ps ls (WaitsAt i)) → w ≡ a_place 20 i p
      → w ≡ surplus_wait_at s l code sizes ps ls
  unfolding surplus_wait_at
  surplus-way {i = i} t ei es ep e =
      e
      ∙ (λ y. a_place 20 i (ep y))
      ∙ (λ y. a_place 20 i (lowest (es y) (by_code s l code sizes ps ls (WaitsAt i))))
      ∙ (λ y. let i = ei y in a_place 20 i (lowest (size_of sizes i) (by_code s l code sizes ps ls (WaitsAt i))))
      ∙ (λ y. let i = lowest (t y) (by_code s l code sizes ps ls Waits) in
      a_place 20 i (lowest (size_of sizes i) (by_code s l code sizes ps ls (WaitsAt i))))

  module _ {threads i : ℕ} (t : threads ≡ l.threads) (ei : i ≡ lowest threads (by_code s l code sizes ps ls Spills)) where
    overflow-by : pick (ltb i threads) (a_place 21 i (lowest (size_of sizes i) (by_code s l code sizes ps ls (SpillsAt i)))) (bare 0)
        ≡ overflowing_walk_at s l code sizes ps ls
    unfolding overflowing_walk_at
    overflow-by =
        (λ y. let i = ei y in
        pick (ltb i threads) (a_place 21 i (lowest (size_of sizes i) (by_code s l code sizes ps ls (SpillsAt i)))) (bare 0))
        ∙ (λ y. let i = lowest (t y) (by_code s l code sizes ps ls Spills) in
        pick (ltb i (t y)) (a_place 21 i (lowest (size_of sizes i) (by_code s l code sizes ps ls (SpillsAt i)))) (bare 0))

    pub overflow-way : {size p : ℕ} {w : Witness} → i < threads → size ≡ size_of sizes i
        → p ≡ lowest size (by_code s l code sizes ps ls (SpillsAt i)) → w ≡ a_place 21 i p → w ≡ overflowing_walk_at s l code sizes ps ls
    overflow-way k es ep e =
        let q : a_place 21 i (lowest (size_of sizes i) (by_code s l code sizes ps ls (SpillsAt i))) ≡ overflowing_walk_at s l code sizes ps ls =
        rw (lt-ltb i threads k) at overflow-by in
        e ∙ (λ y. a_place 21 i (ep y)) ∙ (λ y. a_place 21 i (lowest (es y) (by_code s l code sizes ps ls (SpillsAt i)))) ∙ q

    pub overflow-none : {w : Witness} → threads ≤ i → w ≡ bare 0 → w ≡ overflowing_walk_at s l code sizes ps ls
    overflow-none k e = e ∙ rw (le-ltb i threads k) at overflow-by

  module _ (readers reading : List ℕ) {threads i : ℕ} (t : threads ≡ l.threads)
      (ei : i ≡ lowest threads (by_marks l readers ps ls reading (Reads 0))) where
    clock-by : pick (ltb i threads) (a_place 18 i (lowest (size_of sizes i) (by_code s l code sizes ps ls (ClockAt i))))
        (a_wire 18 0 0 (lowest l.wires (by_marks l readers ps ls reading (WireReads 0))) 0)
        ≡ clock_reader_at s l code sizes ps ls readers reading
    unfolding clock_reader_at
    clock-by =
        (λ y. let i = ei y in
        pick (ltb i threads) (a_place 18 i (lowest (size_of sizes i) (by_code s l code sizes ps ls (ClockAt i))))
        (a_wire 18 0 0 (lowest l.wires (by_marks l readers ps ls reading (WireReads 0))) 0))
        ∙ (λ y. let i = lowest (t y) (by_marks l readers ps ls reading (Reads 0)) in
        pick (ltb i (t y)) (a_place 18 i (lowest (size_of sizes i) (by_code s l code sizes ps ls (ClockAt i))))
        (a_wire 18 0 0 (lowest l.wires (by_marks l readers ps ls reading (WireReads 0))) 0))

    pub clock-thread : {size p : ℕ} {w : Witness} → i < threads → size ≡ size_of sizes i
        → p ≡ lowest size (by_code s l code sizes ps ls (ClockAt i)) → w ≡ a_place 18 i p → w ≡ clock_reader_at s l code sizes ps ls readers reading
    clock-thread k es ep e =
        let q : a_place 18 i (lowest (size_of sizes i) (by_code s l code sizes ps ls (ClockAt i))) ≡ clock_reader_at s l code sizes ps ls readers reading =
        rw (lt-ltb i threads k) at clock-by in
        e ∙ (λ y. a_place 18 i (ep y)) ∙ (λ y. a_place 18 i (lowest (es y) (by_code s l code sizes ps ls (ClockAt i)))) ∙ q

    pub clock-wire : {wires k : ℕ} {w : Witness} → threads ≤ i → wires ≡ l.wires
        → k ≡ lowest wires (by_marks l readers ps ls reading (WireReads 0)) → w ≡ a_wire 18 0 0 k 0
        → w ≡ clock_reader_at s l code sizes ps ls readers reading
    clock-wire h u ek e =
        let q : a_wire 18 0 0 (lowest l.wires (by_marks l readers ps ls reading (WireReads 0))) 0 ≡ clock_reader_at s l code sizes ps ls readers reading =
        rw (le-ltb i threads h) at clock-by in
        e ∙ (λ y. a_wire 18 0 0 (ek y) 0) ∙ (λ y. a_wire 18 0 0 (lowest (u y) (by_marks l readers ps ls reading (WireReads 0))) 0) ∙ q

  -- ---- the walks

  pub nodes-way : {i a b c n : ℕ} {la : List ℕ} {x y : Filling} {t : Thread} (threads places : ℕ) → i ≡ at_most 7 threads
      → a ≡ l.inputs → b ≡ l.registers → c ≡ l.wires → n ≡ a + b + c → la ≡ variables_below n (replicate 16384 0)
      → x ≡ threads_below_at s code sizes l.inputs l.registers ps ls i (filling (extent n 0) la (replicate 1056 0))
      → t ≡ thread_at l.inputs l.registers ps ls i → y ≡ walks_below_at s code t (get_or sizes i 0) places x
      → y.extent.nodes ≡ nodes_at s l code sizes ps ls threads places
  unfolding nodes_at walked_at
  nodes-way {i = i} {n = n} threads places k a b c e v ex et ey =
      let m = e ∙ (λ j. a j + b j + c j) in
      let f : Filling → ℕ = λ w. w.extent.nodes in
      ap f ey
      ∙ (λ j. f (walks_below_at s code (et j) (get_or sizes i 0) places (ex j)))
      ∙ (λ j. f (walks_below_at s code (thread_at l.inputs l.registers ps ls i) (get_or sizes i 0) places
      (threads_below_at s code sizes l.inputs l.registers ps ls i (filling (extent n 0) (v j) (replicate 1056 0)))))
      ∙ (λ j. f (walks_below_at s code (thread_at l.inputs l.registers ps ls (k j)) (get_or sizes (k j) 0) places
      (threads_below_at s code sizes l.inputs l.registers ps ls (k j)
      (filling (extent (m j) 0) (variables_below (m j) (replicate 16384 0)) (replicate 1056 0)))))
