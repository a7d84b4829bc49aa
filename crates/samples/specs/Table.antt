-- Document 01, "Samples from the stands": the samples with a star, as one table over the definitions that the contracts
-- cite. proofs/Table.antt computes it. The small modules stand beside the computed samples of their crates.
use Rattle.std.specs.Prelude.{◌≡◌, ℕ, true, false, List, [], ◌∷◌, map, replicate}
use Rattle.values.specs.declared.Value.{Value}
use Rattle.values.specs.declared.Edge.TheVariants.{Posedge}
use Rattle.values.specs.Values.{known, all_unknown, holds}
use Rattle.values.specs.Operators.{binary}
use Rattle.values.specs.Edges.{fires}
use Rattle.sheet.specs.Reading.{no}
use Rattle.sheet.specs.Expression.{Expr}
use Rattle.sheet.specs.Statement.{assign, later, if_else, size}
use Rattle.text.specs.Listing.{output}
use Rattle.text.proofs.Samples as text
use Rattle.state.specs.declared.State.{State}
use Rattle.state.specs.State.{value_of, place_of}
use Rattle.events.specs.Cycle.{quiet}
use Rattle.events.specs.Calls.{run_in}
use Rattle.events.proofs.Samples as events
use Rattle.nextstate.specs.Extraction.{expressions}
use Rattle.nextstate.proofs.Samples as nextstate

-- The choices that bring the second 5: the wire, the first 5 and its way back, the woken thread's way back, the wire, 5 again.
abbrev pub again : List ℕ
again = 2 ∷ 0 ∷ 0 ∷ 1 ∷ 2 ∷ 0 ∷ []

-- Every state that the five choices after the rise reach, where a was x and b was y: one for each order of the choices.
abbrev pub swaps : ℕ → ℕ → List State
swaps x y = events.reached events.swapping 5 (events.risen x y)

pub record Table : Type 0 where
  -- "Width 4: 15 + 1 = 0; 0 - 1 = 15."
  pub sum : binary 6 4 (known 15) (known 1) ≡ known 0
  pub difference : binary 7 4 (known 0) (known 1) ≡ known 15
  -- "8-bit x & 0 is x." By document 02, request [4], "0 & x is 0, in 01's sample too".
  pub x-and-0 : binary 3 8 (all_unknown 8) (known 0) ≡ known 0
  -- "If on 2 holds; on x fails."
  pub if-2 : holds (known 2) ≡ true
  pub if-x : holds (all_unknown 8) ≡ false
  -- "x to 1 fires posedge; 1 to 1 doesn't; 0 to x doesn't." The last is document 02's, request [2]: it does.
  pub x-to-1 : fires Posedge (all_unknown 1) (known 1) ≡ true
  pub 1-to-1 : fires Posedge (known 1) (known 1) ≡ false
  pub 0-to-x : fires Posedge (known 0) (all_unknown 1) ≡ true
  -- "If-else of two assignments: size 4.", plain and non-blocking
  pub if-else :
      (e x y : Expr) (a b : ℕ) →
      (size (if_else e (assign a x) (assign b y)) ≡ 4)
      × (size (if_else e (assign a x) (later b y)) ≡ 4)
      × (size (if_else e (later a x) (assign b y)) ≡ 4)
      × (size (if_else e (later a x) (later b y)) ≡ 4)
  -- "Register 5 assigned 5 wakes no thread." Thread 0 assigns 5 over and over, thread 1 waits for a change: the first 5 wakes it.
  pub five-first : place_of (run_in events.fives 0 (2 ∷ 0 ∷ []) (events.begun 1)).state 1 ≡ 1
  -- Of the second, every choice is accepted, the register holds 5, the assigning thread went on, the other is still at its wait.
  pub five-again :
      ((run_in events.fives 0 again (events.begun 1)).accepted ≡ 6)
      × (value_of (run_in events.fives 0 again (events.begun 1)).state 1 ≡ known 5)
      × (place_of (run_in events.fives 0 again (events.begun 1)).state 0 ≡ 1)
      × (place_of (run_in events.fives 0 again (events.begun 1)).state 1 ≡ 0)
  -- "Two threads `a <= b`, `b <= a`: swapped in any order." In each of the six orders a and b are swapped, the state is quiet, and
  -- no choice is left.
  pub swapped :
      (x y : ℕ) →
      (map {B = Value × Value} (λ s. (value_of s 1, value_of s 2)) (swaps x y) ≡ replicate 6 (known y, known x))
      × (map (quiet events.swapping) (swaps x y) ≡ replicate 6 true)
      × (events.reached events.swapping 6 (events.risen x y) ≡ [])
  -- "With plain assignment: 14." The same two threads by `a = b`, `b = a`, a sheet that extraction refuses.
  pub plain-swap : expressions nextstate.plain_swap_sheet ≡ no 14 0
  -- "Two pending values for one register: the second stands." All three choices are accepted.
  pub second-stands :
      ((run_in events.twice 0 (0 ∷ 0 ∷ 255 ∷ []) (events.begun 0)).accepted ≡ 3)
      × (value_of (run_in events.twice 0 (0 ∷ 0 ∷ 255 ∷ []) (events.begun 0)).state 1 ≡ known 5)
  -- "Flip-flop sheet (hex): `02 01 00 01 01 08 08 0C 10 01 01 00 23 02 02 01`." and what the listing program prints
  pub flip-flop :
      output
      (0x02 ∷ 0x01 ∷ 0x00 ∷ 0x01 ∷ 0x01 ∷ 0x08 ∷ 0x08 ∷ 0x0C ∷ 0x10 ∷ 0x01 ∷ 0x01 ∷ 0x00 ∷ 0x23 ∷ 0x02 ∷ 0x02 ∷ 0x01 ∷ [])
      ≡ text.lines ("threads 1" ∷ "0 0 wait 1 0" ∷ "0 1 later 2 v1" ∷ "0 2 go 0" ∷ [])
