-- Demand 3 (`order`): in a module that extraction accepts, the order in which threads and wires are taken counts for nothing.
-- specs/Claim states it; Ending proves what it says of a list of calls, here comes the cycle run.
use mathlib.Core.Path.{◌≡◌, refl, ◌∙◌}
use mathlib.Core.Bool.{true, false}
use mathlib.Core.List.{List, [], ◌∷◌, ◌++◌}
use Prim.Native.Nat.{ℕ, zero, suc, ◌+◌, ◌-◌, ◌≤◌, ◌<◌}
use native.Mathlib.Omega.{arith}
use lib.ListN.{length, get_or}
use borrow.Author.Tests.{lt-ltb, le-ltb, le-leb, eq-eqb, ne_eqb, ltb-false}
use Rattle.values.specs.Values.{fits}
use Rattle.values.specs.Planes.{value_at}
use Rattle.sheet.specs.Reading.{ok}
use Rattle.sheet.specs.Expression.{Expr}
use Rattle.sheet.specs.Statement.{is_register}
use Rattle.sheet.specs.Module.{Module, read}
use Rattle.soundness.specs.Soundness.{Sound}
use Rattle.soundness.proofs.Soundness.{sound}
use Rattle.events.specs.declared.Inputs.{Inputs}
use Rattle.events.specs.Cycle.{variables, code_of, instr_at, is_wait, wire_variable}
use Rattle.events.specs.Calls.{width_of, input_of, inputs_fit}
use Rattle.events.proofs.Cycle.{below_all, none_below}
use Rattle.events.proofs.Fits.{fits-inputs}
use Rattle.nextstate.specs.declared.Registers.{Registers}
use Rattle.nextstate.specs.Rules.{writes, some_thread, waits_below, many_waits}
use Rattle.nextstate.specs.Nodes.{all_words, padded}
use Rattle.nextstate.specs.Extraction.{Tables, extracted, right_lengths}
use Rattle.nextstate.specs.Book.{Book, settled, taken, rise, turned, turned_all, opening, book}
use Rattle.nextstate.specs.CycleRun.{registers_fit, upper_inputs_fit, handed, clocked, given, clocked_in, extractable, clocked_or, cycle_run}
use Rattle.nextstate.proofs.Numbers.{accepted, extracted-rule}
use Rattle.nextstate.specs.Ruled.{Ruled}
use Rattle.nextstate.proofs.Ruled.{ruled, unbroken}
use Rattle.settling.proofs.Settle.{settle-below}
use Rattle.phases.proofs.Agreement.{Agree}
use Rattle.walking.proofs.Rows.{rows-length}
use Rattle.validity.proofs.Words.{length-padded, length-all_words}
use Rattle.validity.proofs.Valid.{short, lent, lent_is, tables-fit}
use Rattle.order.specs.Calls.{WholeCycles}
use Rattle.order.specs.Claim.{Handed, Gives, EveryCycle, Order}
use Rattle.order.proofs.Ending.{at-the-end}
use Rattle.order.proofs.Kept.{Kept, kept-book}
use Rattle.order.proofs.Clocking.{clocked-agree}
use Rattle.order.proofs.Giving.{given-registers, given-places, given-wires}

module _ (s : List ℕ) (m : Module Expr) (e : read s ≡ ok m) (w : Sound m) (u : Ruled m) (T : Tables) (x : extracted m ≡ ok T) where
  -- The lent words after extraction.
  abbrev ns : List ℕ
  ns = padded 16384 (all_words T.nodes)

  abbrev rs : List ℕ
  rs = padded 1056 T.rows

  -- ---- 23 and 1 to 21 aren't met

  few-rows : length T.rows ≤ 1056
  unfolding many_waits
  few-rows =
      let n = rows-length m T x in
      let k = ltb-false 32 (waits_below m (length m.threads)) (unbroken m (extracted-rule m x)).n20 in
      omega arith

  lengths : right_lengths ns rs ≡ true
  unfolding right_lengths
  lengths =
      let n = length-all_words T.nodes in
      let k = short m w u T x in
      rw (length-padded 16384 (all_words T.nodes) (omega arith), length-padded 1056 T.rows few-rows) refl

  accepts : extractable s ≡ ok m
  unfolding extractable
  accepts = rw (e, x) refl

  -- The call on the module and its tables.
  run-in : (g : Registers) (a : Inputs) → cycle_run s ns rs g a ≡ clocked_in m (lent m w u T x) g a
  unfolding cycle_run clocked_or
  run-in g a = rw (lengths, accepts, lent_is m w u T x) refl

  -- ---- 24, 31 and 25 aren't met

  module _ (b : Book) (k : Kept m b) (low high : Inputs) (fl : inputs_fit m low ≡ true) (fh : inputs_fit m high ≡ true)
      (cy : WholeCycles (low ∷ high ∷ [])) (g : Registers) (a : Inputs) (hand : Handed m b low g a) where
    registers-fit : registers_fit m g ≡ true
    unfolding registers_fit width_of
    registers-fit =
        rw (
          below_all (λ r. fits (get_or m.scope.widths (m.scope.inputs + r) 0) (value_at g.value g.unknown r)) m.scope.registers
              (λ r l. rw (hand.registers r l) (k.fits (m.scope.inputs + r) (omega (arith, w.variables)))),
          below_all (λ i. is_wait (instr_at (code_of m i) (get_or g.places i 0))) (length m.threads)
              (λ i l. rw (hand.places i l) (k.waits i l).1),
        )
        refl

    inputs-fit : upper_inputs_fit m a ≡ true
    unfolding upper_inputs_fit
    inputs-fit =
        rw (
          eq-eqb (a.count + 1) m.scope.inputs hand.inputs,
          below_all (λ v. fits (width_of m (v + 1)) (input_of a v)) (m.scope.inputs - 1)
              (λ v l. rw (hand.upper v (omega arith)) (fits-inputs m low fl (v + 1) (omega arith))),
        )
        refl

    result : clocked_in m (lent m w u T x) g a ≡ given m (clocked m (lent m w u T x) g a) g
    unfolding clocked_in
    result = rw (tables-fit m w u T x, registers-fit, inputs-fit) refl

    -- ---- what it gives

    -- A register that no thread writes is as it was handed.
    none-taken : (L : Tables) (c : Book) (v : ℕ) → some_thread m (λ i. writes m i v) ≡ false → (n : ℕ) → n ≤ length m.threads → taken m L c n v ≡ c.values v
    unfolding some_thread taken
    none-taken L c v h zero l = refl
    none-taken L c v h (suc n) l = rw (none_below (λ i. writes m i v) (length m.threads) h n (omega arith)) (none-taken L c v h n (omega arith))

    handed-register : (r : ℕ) → r < m.scope.registers → (handed m g a).values (m.scope.inputs + r) ≡ value_at g.value g.unknown r
    unfolding handed is_register
    handed-register r l =
        let z : m.scope.inputs + r - m.scope.inputs ≡ r = omega arith in
        rw (
          ne_eqb (m.scope.inputs + r) 0 (λ q. omega (arith, w.inputs-some)),
          le-ltb (m.scope.inputs + r) m.scope.inputs (omega arith),
          le-leb m.scope.inputs (m.scope.inputs + r) (omega arith),
          lt-ltb (m.scope.inputs + r) (m.scope.inputs + m.scope.registers) (omega arith),
          z,
        )
        refl

    register-within : (r : ℕ) → r < m.scope.registers → m.scope.inputs + r < variables m
    unfolding variables
    register-within r l = omega (arith, w.variables)

    wire-within : (j : ℕ) → j < length m.wires → wire_variable m j < variables m
    unfolding variables wire_variable
    wire-within j l = omega (arith, w.variables)

    zero_number : (given m (clocked m (lent m w u T x) g a) g).number ≡ 0
    unfolding given
    zero_number = refl

    unwritten : (r : ℕ) → r < m.scope.registers → some_thread m (λ i. writes m i (m.scope.inputs + r)) ≡ false →
        (clocked m (lent m w u T x) g a).values (m.scope.inputs + r) ≡ value_at g.value g.unknown r
    unfolding clocked settled rise
    unwritten r l h =
        let v = m.scope.inputs + r in
        settle-below m (taken m (lent m w u T x) (settled m (handed m g a)) (length m.threads)) (m.scope.inputs + r) (omega arith)
        ∙ none-taken (lent m w u T x) (settled m (handed m g a)) (m.scope.inputs + r) h (length m.threads) (omega arith)
        ∙ settle-below m (handed m g a).values (m.scope.inputs + r) (omega arith)
        ∙ handed-register r l

    after : Agree m (clocked m (lent m w u T x) g a) (turned m T (input_of high) (turned m T (input_of low) b))
    unfolding WholeCycles
    after = clocked-agree m w u T x b k low high fl fh cy.0 cy.1 cy.2 g a hand

    gives : Gives m (turned m T (input_of high) (turned m T (input_of low) b)) (cycle_run s ns rs g a)
    gives =
        let c = clocked m (lent m w u T x) g a in
        rw (run-in g a ∙ result)
        (record {
          accepted = zero_number;
          registers = λ r l. given-registers m w c g hand.value-length hand.unknown-length hand.places-length unwritten r l ∙ after.values (m.scope.inputs + r) (register-within r l);
          places = λ i l. given-places m w c g hand.value-length hand.unknown-length hand.places-length unwritten i l ∙ after.places i l;
          wires = λ j l. given-wires m w c g hand.value-length hand.unknown-length hand.places-length unwritten j l ∙ after.values (wire_variable m j) (wire-within j l);
        })

  -- ---- the book after a low and a high instant more

  two-more : (past : List Inputs) (low high : Inputs) (b : Book) →
      turned_all m T (past ++ (low ∷ high ∷ [])) b ≡ turned m T (input_of high) (turned m T (input_of low) (turned_all m T past b))
  unfolding turned_all
  two-more [] low high b = refl
  two-more (a ∷ past) low high b = two-more past low high (turned m T (input_of a) b)

  pub next-cycle : EveryCycle s m T ns rs
  unfolding book
  next-cycle past low high fits fl fh whole cy g a hand =
      rw (two-more past low high (opening m T)) (gives (book m T past) (kept-book m w u T x past fits) low high fl fh cy g a hand)

-- ---- the theorem

pub order : Order
order s ns rs h =
    let A = accepted s ns rs h in
    let m = A.contents in
    let w = sound s A.reads in
    let u = ruled m w (extracted-rule m A.extracts) in
    record {
      m = m;
      T = A.tables;
      reads = A.reads;
      expressions = A.extracts;
      list = at-the-end s m A.reads w u A.tables A.extracts;
      cycle = rw (A.nodes, A.rows) (next-cycle s m A.reads w u A.tables A.extracts);
    }
