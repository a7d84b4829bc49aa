-- Number 24 of document 01 on the plan of a sheet, for plans and lent words of any contents: the nodes, then the rows of all the
-- sheet's waits. specs/Claims says that on the plan of a module it is nextstate's tables_fit.
use Rattle.std.specs.Prelude.{◌≡◌, Bool, true, false, not, ◌&&◌, ◌||◌, List, [], ◌∷◌, ◌++◌, ℕ, zero, suc, ◌+◌, ◌%◌, ◌≤◌, ◌<◌, ltb, eqb, get_or, drop, replicate}
use Rattle.values.specs.Values.{pick}
use Rattle.values.specs.Operators.{unary_width, binary_width}
use Rattle.masks.specs.Masks.{bits}
use Rattle.state.specs.Rows.{all_below}
use Rattle.plan.specs.Plan.{Plan}
use Rattle.nextstate.specs.Nodes.{Node, a_variable, a_constant, an_unknown, a_unary, a_binary, a_conditional, a_branch, node_at}
use Rattle.clock_nodes.specs.Rows.{entry_at}
use Rattle.clock_steps.specs.Taking.{at_most}
use Rattle.clock_steps.specs.Numbers.{waits_to, rows_to}
use Rattle.nodes.specs.Cells.{fits_at, lands_at}

-- ---- "any of the 4,096 nodes .. with an unknown kind, no such variable or node, a wrong width, a constant too wide or an operand
-- not earlier"

module _ (q : Plan) where
  unfoldable pub variables_in : ℕ
  variables_in = q.inputs + q.registers + q.wires

  -- The width of a node, in a byte: one that is in order has at most 32. `size` gives those of the nodes before it.
  unfoldable pub width_on : (ℕ → ℕ) → Node → ℕ
  width_on size (a_variable v) = q.width v
  width_on size (a_constant w n) = w % 256
  width_on size (an_unknown w) = w % 256
  width_on size (a_unary o a) = unary_width o (size a)
  width_on size (a_binary o a b) = binary_width o (size a)
  width_on size (a_conditional c a b) = size a
  width_on size (a_branch c a b) = size a

  module _ (ns : List ℕ) where
    -- The widths of the nodes below n.
    unfoldable pub widths_below : ℕ → List ℕ
    widths_below zero = []
    widths_below (suc n) = let us = widths_below n in us ++ (width_on (λ a. get_or us a 0) (node_at ns n) ∷ [])

    -- Are they in order?
    unfoldable pub nodes_fit_below : ℕ → Bool
    nodes_fit_below zero = true
    nodes_fit_below (suc n) = nodes_fit_below n && fits_at variables_in n (λ a. get_or (widths_below n) a 0) (node_at ns n)

    -- How many of them stand before the first that isn't.
    unfoldable pub ordered_below : ℕ → ℕ
    ordered_below zero = 0
    ordered_below (suc n) = pick (nodes_fit_below (suc n)) (suc n) (ordered_below n)

    -- The table of the nodes' widths: those of the nodes before the first that isn't in order, then zeros.
    unfoldable pub width_table : List ℕ
    width_table = let k = ordered_below 4096 in widths_below k ++ drop k (replicate 4096 0)

-- ---- "a place entry whose branch arms end in anything but known 8-bit constants that are waits of its thread"

-- p is a place of thread i, of which there are 256 at most, and a wait.
unfoldable pub wait_of : Plan → ℕ → ℕ → Bool
wait_of q i p = ltb p (at_most 256 (q.size i)) && q.waits i p

-- Which of the nodes below n stand for a wait, where `waits` says which places are one.
unfoldable pub lands_below : (ℕ → Bool) → List ℕ → ℕ → List Bool
lands_below waits ns zero = []
lands_below waits ns (suc n) =
    let ls = lands_below waits ns n in
    ls ++ (lands_at waits n (λ a. get_or ls a false) (node_at ns n) ∷ [])

-- ---- "or an entry (written registers and place, in the rows of all the sheet's waits), with .. no such .. node, a wrong width"

module _ (q : Plan) (us rs : List ℕ) where
  -- The entry of register r, where the nodes have the widths us.
  unfoldable pub register_fits_on : ℕ → ℕ → Bool
  register_fits_on row r = ltb (entry_at rs row r) 4096 && eqb (get_or us (entry_at rs row r) 0) (q.width (q.inputs + r))

  module _ (mask : ℕ) where
    -- It counts if the mask has the register.
    unfoldable pub entry_fits_on : ℕ → ℕ → Bool
    entry_fits_on row r = not (get_or (bits mask) r false) || register_fits_on row r

    -- A row of a thread that writes these registers and whose nodes land so.
    unfoldable pub row_fits_on : List Bool → ℕ → Bool
    row_fits_on ls row =
        all_below q.registers (entry_fits_on row) && (ltb (entry_at rs row 32) 4096 && get_or ls (entry_at rs row 32) false)

    -- The rows of thread i's waits, the first of them number `first`.
    unfoldable pub thread_fits_on : List Bool → ℕ → ℕ → Bool
    thread_fits_on ls i first =
        all_below (at_most 256 (q.size i)) (λ p. not (q.waits i p) || row_fits_on ls (first + waits_to q i p))

  -- Of all threads. `written` has each thread's mask of the registers that it writes.
  unfoldable pub rows_fit_on : List ℕ → List ℕ → Bool
  rows_fit_on written ns =
      all_below (at_most 8 q.threads)
      (λ i. thread_fits_on (get_or written i 0) (lands_below (wait_of q i) ns 4096) i (rows_to q i))

-- ---- 24

unfoldable pub tables_fit_on : Plan → List ℕ → List ℕ → List ℕ → Bool
tables_fit_on q written ns rs = nodes_fit_below q ns 4096 && rows_fit_on q (widths_below q ns 4096) rs written ns

-- ---- nodes past the last that is in use: "what isn't filled is set to 0", and such a node is variable 0

pub record Rest (ns : List ℕ) (used : ℕ) : Type 0 where
  pub most : used ≤ 4096
  pub zeros : (n : ℕ) → used ≤ n → n < 4096 → node_at ns n ≡ a_variable 0
