-- On an accepted sheet's tables the witnesses that are found by the threads' code are the module's: 15, 18, 20, 21. Assumes nothing.
use mathlib.Core.Path.{◌≡◌, refl, ap, ◌∙◌}
use mathlib.Core.Bool.{Bool, true, false, not, ◌||◌}
use mathlib.Core.List.{List}
use Prim.Native.Nat.{ℕ, zero, suc, ◌+◌, ◌*◌, ◌≤◌, ◌<◌}
use native.Mathlib.Nat.{le_refl}
use native.Mathlib.Numerals.{add-one}
use native.Mathlib.Omega.{arith}
use borrow.Author.Tests.{lt-ltb, le-ltb, ltb-false}
use lib.Dec.{ltb}
use lib.ListN.{length, get_or, replicate}
use Rattle.values.specs.Values.{pick}
use Rattle.sheet.specs.declared.Layout.{Layout}
use Rattle.sheet.specs.Reading.{Res, ◌>>=◌}
use Rattle.sheet.specs.Expression.{Expr}
use Rattle.sheet.specs.Module.{Module}
use Rattle.pseudocode.specs.Translation.{go}
use Rattle.masks.specs.Masks.{bits}
use Rattle.masks.proofs.Masks.{any_none, any-bits}
use Rattle.soundness.specs.Soundness.{Sound}
use Rattle.events.specs.Cycle.{any_below, code_of, instr_at}
use Rattle.nextstate.specs.Rules.{reads_at, any_instr, thread_reads, wire_reads, some_thread, other_wait_at, other_wait, waits_before, waits_below, many_waits}
use Rattle.nextstate.specs.Extraction.{Tables, walks_below, threads_below}
use Rattle.tables.specs.Holding.{Holding}
use Rattle.tables.proofs.Readers.{at_most-same}
use Rattle.rules.specs.Writers.{plain_below, later_below}
use Rattle.rules.specs.Reading.{reading_below}
use Rattle.rules.specs.Judging.{size_of, other_wait_of, other_wait_in, waits_of}
use Rattle.rules.proofs.Writing.{size-of, any-fetched, plain-law, later-law}
use Rattle.rules.proofs.Expressions.{Expressions}
use Rattle.rules.proofs.Reading.{instr-marks, few-widths}
use Rattle.rules.proofs.Counting.{size_of-most, waits-most}
use Rattle.rules.proofs.Rules.{size_of-at, low, other-fetched, waits-in, waits-law}
use Rattle.extraction.specs.Filling.{Filling, filling, extent, variables_below, walks_below_at, thread_at, threads_below_at}
use Rattle.extraction.proofs.Placing.{AllFetched}
use Rattle.extraction.proofs.Rows as the-rows
use Rattle.extraction.proofs.Rows.{Fills, spilled, below-full, below-filled, threads-filled, waits-below}
use Rattle.witness.specs.declared.Witness.{Witness}
use Rattle.witness.specs.declared.MarkTest.TheVariants.{Reads, WireReads}
use Rattle.witness.specs.declared.CodeTest.TheVariants.{OtherWait, OtherWaitAt, ClockAt, Waits, WaitsAt, Spills, SpillsAt}
use Rattle.witness.specs.Witness.{lowest, bare, refuses, a_place, first_thread, first_wire, first_place, odd_wait, clock_reader, surplus_wait, overflowing_walk}
use Rattle.witness.specs.Seeking.{a_wire, by_marks, reads_clock, waits_over, walked_at, nodes_at, by_code, odd_wait_at, surplus_wait_at, overflowing_walk_at, clock_reader_at}
use Rattle.witness.proofs.Lowest.{lowest-same, lowest-some, lowest-holds, turns, any_next}
use Rattle.witness.proofs.Refusals.{refuses-bind}
use Rattle.witness.proofs.Marks.{shape, threads-read, wires-read}

-- ---- how many waits there are: the counts fit

pub waits_of-most : (s code sizes : List ℕ) (n : ℕ) → waits_of s code sizes n ≤ 256 * n
unfolding waits_of
waits_of-most s code sizes zero = omega arith
waits_of-most s code sizes (suc n) =
    omega (arith, waits_of-most s code sizes n, waits-most s code n (size_of sizes n), size_of-most sizes n)

-- ---- a pick by equal tests, of what is equal where it is picked

pub pick_same : {b c : Bool} {x y u v : Witness} → b ≡ c → (c ≡ true → x ≡ y) → (c ≡ false → u ≡ v) → pick b x u ≡ pick c y v
pick_same {b} {c} {x} {y} {u} {v} p f g = (λ i. pick (p i) x u) ∙ by c refl
  where
    by : (t : Bool) → c ≡ t → pick t x u ≡ pick t y v
    by true e = f e
    by false e = g e

-- ---- nodes that were walked: over 4,096 just where the walks are refused

fills-refuses : {x : Filling} {r : ℕ} {o : Res Tables} → Fills x r o → ltb 4096 x.extent.nodes ≡ refuses o
unfolding refuses
fills-refuses {x} (the-rows.filled v) = let e = ap (λ (y : Filling). y.extent.nodes) v.same in le-ltb 4096 x.extent.nodes (omega (arith, v.room))
fills-refuses {x} (spilled f) = lt-ltb 4096 x.extent.nodes (omega arith)

module _ {s ds : List ℕ} {m : Module Expr} {starts sizes code readers : List ℕ} {watched : List Bool}
    (z : Sound m) (h : Holding s m starts sizes code readers watched) (e : Expressions s ds m code) (places : List ℕ) (body : ℕ) where
  abbrev threads : ℕ
  threads = length m.threads

  abbrev ps : List ℕ
  ps = plain_below s code sizes m.scope.inputs (length m.threads) (replicate 8 0)

  abbrev ls : List ℕ
  ls = later_below s code sizes m.scope.inputs (length m.threads) (replicate 8 0)

  abbrev reading : List ℕ
  reading = reading_below s ds code sizes (length m.threads) (replicate 80 0)

  abbrev l : Layout
  l = shape m ds places body

  -- The places of a thread that are looked at.
  size_is : (i : ℕ) → i < threads → size_of sizes i ≡ length (code_of m i)
  size_is i k = size_of-at sizes i (low z h e i k) ∙ size-of z h i k

  -- A place of thread i that is sought by equal tests.
  place_same : (n i : ℕ) → i < threads → (f g : ℕ → Bool) → ((p : ℕ) → p < length (code_of m i) → f p ≡ g p)
      → a_place n i (lowest (size_of sizes i) f) ≡ a_place n i (lowest (length (code_of m i)) g)
  place_same n i k f g agree =
      ap (a_place n i) (ap (λ (c : ℕ). lowest c f) (size_is i k) ∙ lowest-same f g (length (code_of m i)) agree)

  -- ---- 15

  wait-in : (i : ℕ) → i < threads → by_code s l code sizes ps ls OtherWait i ≡ any_instr other_wait_at (code_of m i)
  unfolding by_code other_wait_in
  wait-in i k =
      ap (other_wait_in s code i) (size_of-at sizes i (low z h e i k)) ∙ any-fetched z h i k other_wait_of other_wait_at (λ x y q. other-fetched q)

  wait-at : (i p : ℕ) → i < threads → p < length (code_of m i)
      → by_code s l code sizes ps ls (OtherWaitAt i) p ≡ other_wait_at (instr_at (code_of m i) p)
  unfolding by_code instr_at code_of
  wait-at i p k n = other-fetched (h.fetched i p k n)

  pub odd-same : other_wait m ≡ true → odd_wait_at s l code sizes ps ls ≡ odd_wait m
  unfolding odd_wait_at odd_wait other_wait some_thread
  odd-same some =
      let f : ℕ → Bool = λ i. any_instr other_wait_at (code_of m i) in
      let i = first_thread m f in
      let k = (lowest-holds f threads some).0 in
      (λ t. let i = lowest-same (by_code s l code sizes ps ls OtherWait) f threads wait-in t in
      a_place 15 i (lowest (size_of sizes i) (by_code s l code sizes ps ls (OtherWaitAt i))))
      ∙ place_same 15 i k (by_code s l code sizes ps ls (OtherWaitAt i)) (λ p. other_wait_at (instr_at (code_of m i) p)) (λ p n. wait-at i p k n)

  -- ---- 18

  clock-at : (i p : ℕ) → i < threads → p < length (code_of m i)
      → by_code s l code sizes ps ls (ClockAt i) p ≡ reads_at 0 (instr_at (code_of m i) p)
  unfolding by_code reads_clock instr_at
  clock-at i p k n =
      let x = instr-marks m.scope s ds (few-widths z h e) e.counted 0 (omega arith) (e.at i p k n) (replicate 80 0) refl in
      x.own 0 (omega arith)
      ∙ ap (λ t. t || reads_at 0 (get_or (code_of m i) p (go 0))) (any_none (bits 0) (any-bits 0 (omega arith)) 0)

  -- By a thread, or else by a wire.
  reader : (i p k : ℕ) (t : Bool)
      → pick t (a_place 18 i p) (a_wire 18 0 0 k 0)
      ≡ record { number = 18; thread = pick t i 0; other = 0; register = 0; wired = not t; wire = pick t 0 k; above = 0; place = pick t p 0 }
  reader i p k true = refl
  reader i p k false = refl

  pub clock-same : clock_reader_at s l code sizes ps ls readers reading ≡ clock_reader m
  unfolding clock_reader_at clock_reader some_thread
  clock-same =
      let f : ℕ → Bool = λ i. thread_reads m i 0 in
      let i = first_thread m f in
      let p = first_place m i (reads_at 0) in
      let k = first_wire m (λ k. wire_reads m k 0) in
      let ei = lowest-same (by_marks l readers ps ls reading (Reads 0)) f threads (λ j n. threads-read z h e places body 0 j (omega arith) n) in
      let ek =
      lowest-same (by_marks l readers ps ls reading (WireReads 0)) (λ k. wire_reads m k 0) (length m.wires)
      (λ j n. wires-read z h e places body 0 j (omega arith) n) in
      (λ t. let i = ei t in
      pick (ltb i threads) (a_place 18 i (lowest (size_of sizes i) (by_code s l code sizes ps ls (ClockAt i)))) (a_wire 18 0 0 (ek t) 0))
      ∙ pick_same (lowest-some f threads)
      (λ some. let n = (lowest-holds f threads some).0 in
      place_same 18 i n (by_code s l code sizes ps ls (ClockAt i)) (λ p. reads_at 0 (instr_at (code_of m i) p)) (λ p u. clock-at i p n u))
      (λ none. refl)
      ∙ reader i p k (any_below threads f)

  -- ---- 20

  over-at : (i n : ℕ) → i < threads → n ≤ length (code_of m i)
      → waits_over s code sizes i n ≡ ltb 32 (waits_below m i + waits_before (code_of m i) n)
  unfolding waits_over
  over-at i n k u =
      let a = ap (waits_of s code sizes) (at_most-same 8 i (omega (arith, low z h e i k))) ∙ waits-law z h e i (omega arith) in
      let b = waits-in z h e i k n u in
      λ j. ltb 32 (a j + b j)

  waits-up-to : (i : ℕ) → i < threads → by_code s l code sizes ps ls Waits i ≡ ltb 32 (waits_below m (suc i))
  unfolding by_code waits_below
  waits-up-to i k = ap (waits_over s code sizes i) (size_is i k) ∙ over-at i (length (code_of m i)) k (le_refl (length (code_of m i)))

  waits-at : (i p : ℕ) → i < threads → p < length (code_of m i)
      → by_code s l code sizes ps ls (WaitsAt i) p ≡ ltb 32 (waits_below m i + waits_before (code_of m i) (suc p))
  unfolding by_code
  waits-at i p k n = rw (add-one p) (over-at i (suc p) k n)

  pub surplus-same : many_waits m ≡ true → surplus_wait_at s l code sizes ps ls ≡ surplus_wait m
  unfolding surplus_wait_at surplus_wait many_waits waits_below
  surplus-same some =
      let i = first_thread m (λ i. ltb 32 (waits_below m (suc i))) in
      let k = (turns (λ i. ltb 32 (waits_below m i)) refl threads some).inside in
      (λ t. let i = lowest-same (by_code s l code sizes ps ls Waits) (λ i. ltb 32 (waits_below m (suc i))) threads waits-up-to t in
      a_place 20 i (lowest (size_of sizes i) (by_code s l code sizes ps ls (WaitsAt i))))
      ∙ place_same 20 i k (by_code s l code sizes ps ls (WaitsAt i)) (λ p. ltb 32 (waits_below m i + waits_before (code_of m i) (suc p)))
      (λ p n. waits-at i p k n)

  -- ---- 21

  module _ (fetched : AllFetched s code m) (none : m.scope.declared ≡ 0) (kept : many_waits m ≡ false) where
    few : waits_below m (length m.threads) ≤ 32
    unfolding many_waits
    few = ltb-false 32 (waits_below m threads) kept

    own-size : (i : ℕ) → i < length m.threads → get_or sizes i 0 ≡ length (code_of m i)
    unfolding code_of
    own-size i k = h.size i k

    -- The walks from the first places of thread i, after those of the threads before it.
    then : (i : ℕ) (k : i < length m.threads) {x : Filling} {r : ℕ} {o : Res Tables} → Fills x r o
        → r + waits_before (code_of m i) (length (code_of m i)) ≤ 32 → (n : ℕ) → n ≤ length (code_of m i)
        → Fills (walks_below_at s code (thread_at m.scope.inputs m.scope.registers ps ls i) (length (code_of m i)) n x)
        (r + waits_before (code_of m i) n) (o >>= walks_below m i n)
    then i k {r = r} (the-rows.filled {T = T} v) most n u =
        rw v.same
        (below-filled m z none s code fetched ps ls (plain-law z h (replicate 8 0) refl) (later-law z h (replicate 8 0) refl) i k T r v.rows v.room most n u)
    then i k {x} (spilled f) most n u =
        spilled (below-full s code (thread_at m.scope.inputs m.scope.registers ps ls i) (length (code_of m i)) n x f)

    spills : (i n : ℕ) → i < threads → n ≤ length (code_of m i)
        → ltb 4096 (nodes_at s l code sizes ps ls i n) ≡ refuses (threads_below m i >>= walks_below m i n)
    unfolding nodes_at walked_at waits_below
    spills i n k u =
        let most = waits-below m (suc i) threads k in
        let t = thread_at m.scope.inputs m.scope.registers ps ls i in
        let v = m.scope.inputs + m.scope.registers + length m.wires in
        let x =
        threads_below_at s code sizes m.scope.inputs m.scope.registers ps ls i
        (filling (extent v 0) (variables_below v (replicate 16384 0)) (replicate 1056 0)) in
        ap (λ (j : ℕ). ltb 4096 (walked_at s l code sizes ps ls j n).extent.nodes) (at_most-same 7 i (omega (arith, low z h e i k)))
        ∙ ap (λ (c : ℕ). ltb 4096 (walks_below_at s code t c n x).extent.nodes) (own-size i k)
        ∙ (fills-refuses
        (then i k
        (threads-filled m z none s code fetched ps ls (plain-law z h (replicate 8 0) refl) (later-law z h (replicate 8 0) refl) sizes own-size
        (m.scope.inputs + m.scope.registers + length m.wires) z.variables few i (omega arith))
        (omega (arith, few)) n u))

    spills-up-to : (i : ℕ) → i < threads → by_code s l code sizes ps ls Spills i ≡ refuses (threads_below m (suc i))
    unfolding by_code threads_below
    spills-up-to i k =
        ap (λ (n : ℕ). ltb 4096 (nodes_at s l code sizes ps ls i n)) (size_is i k) ∙ spills i (length (code_of m i)) k (le_refl (length (code_of m i)))

    spills-at : (i p : ℕ) → i < threads → p < length (code_of m i)
        → by_code s l code sizes ps ls (SpillsAt i) p ≡ refuses (threads_below m i >>= walks_below m i (suc p))
    unfolding by_code
    spills-at i p k n = rw (add-one p) (spills i (suc p) k n)

    -- Refused walks stay refused.
    stays : (i : ℕ) → refuses (threads_below m i) ≡ true → refuses (threads_below m (suc i)) ≡ true
    unfolding threads_below
    stays i f = refuses-bind (threads_below m i) _ f

    at_first : refuses (threads_below m 0) ≡ false
    unfolding threads_below refuses
    at_first = refl

    pub overflow-same : overflowing_walk_at s l code sizes ps ls
        ≡ pick (refuses (threads_below m (length m.threads))) (overflowing_walk m) (bare 0)
    unfolding overflowing_walk_at overflowing_walk
    overflow-same =
        let f : ℕ → Bool = λ i. refuses (threads_below m (suc i)) in
        let i = first_thread m f in
        (λ t. let i = lowest-same (by_code s l code sizes ps ls Spills) f threads spills-up-to t in
        pick (ltb i threads) (a_place 21 i (lowest (size_of sizes i) (by_code s l code sizes ps ls (SpillsAt i)))) (bare 0))
        ∙ pick_same (lowest-some f threads ∙ any_next (λ i. refuses (threads_below m i)) at_first stays threads)
        (λ some. let k = (turns (λ i. refuses (threads_below m i)) at_first threads some).inside in
        place_same 21 i k (by_code s l code sizes ps ls (SpillsAt i)) (λ p. refuses (threads_below m i >>= walks_below m i (suc p)))
        (λ p n. spills-at i p k n))
        (λ none. refl)
