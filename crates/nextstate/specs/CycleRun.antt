-- The cycle run (document 01, "Extraction and the cycle run"), on lent tables of any contents: "Cycle run: 23, 1 to 21, 24, 31, 25."
use Rattle.std.specs.Prelude.{ℕ, zero, suc, ◌+◌, ◌-◌, ◌^◌, Bool, true, false, not, ◌&&◌, ◌||◌, List, [], ◌∷◌, ◌++◌, length, get_or, set, replicate, ltb, leb, eqb}
use Rattle.values.specs.declared.Value.{Value}
use Rattle.values.specs.Values.{pick, known, ones, nowhere, fits}
use Rattle.values.specs.Planes.{value_at, number_of, marks_of}
use Rattle.sheet.specs.Reading.{Res, ok, no, ◌>>=◌}
use Rattle.sheet.specs.Expression.{Expr}
use Rattle.sheet.specs.Statement.{is_register}
use Rattle.sheet.specs.Module.{Module, read}
use Rattle.state.specs.Rows.{list_of}
use Rattle.events.specs.declared.Inputs.{Inputs}
use Rattle.events.specs.Cycle.{variables, code_of, instr_at, wire_variable, all_below, is_wait}
use Rattle.events.specs.Calls.{width_of, input_of}
use Rattle.nextstate.specs.declared.Registers.{Registers}
use Rattle.nextstate.specs.declared.Clocked.{Clocked}
use Rattle.nextstate.specs.Rules.{writes, some_thread}
use Rattle.nextstate.specs.Nodes.{Node, a_variable, a_constant, an_unknown, a_unary, a_binary, a_conditional, a_branch, node_at, node_width}
use Rattle.nextstate.specs.Extraction.{Tables, extracted, right_lengths}
use Rattle.nextstate.specs.Book.{Book, settled, entry, rise}

-- ---- 24: "any of the 4,096 nodes .. with an unknown kind, no such variable or node, a wrong width, a constant too wide or an
-- operand not earlier"

module _ (m : Module Expr) where
  unfoldable pub width? : ℕ → Bool
  width? w = leb 1 w && leb w 32

  -- A node whose earlier nodes have the widths us.
  unfoldable pub node_fits : List ℕ → Node → Bool
  node_fits us (a_variable v) = ltb v (variables m)
  node_fits us (a_constant w n) = width? w && ltb n (2 ^ w)
  node_fits us (an_unknown w) = width? w
  node_fits us (a_unary o a) = ltb a (length us)
  node_fits us (a_binary o a b) = ltb a (length us) && (ltb b (length us) && eqb (get_or us a 0) (get_or us b 0))
  node_fits us (a_conditional c a b) =
      ltb c (length us) && (ltb a (length us) && (ltb b (length us) && eqb (get_or us a 0) (get_or us b 0)))
  node_fits us (a_branch c a b) =
      ltb c (length us) && (ltb a (length us) && (ltb b (length us) && eqb (get_or us a 0) (get_or us b 0)))

  unfoldable pub nodes_fit : List Node → List ℕ → Bool
  nodes_fit [] us = true
  nodes_fit (n ∷ ns) us = node_fits us n && nodes_fit ns (us ++ (node_width m.scope.widths us n ∷ []))

  -- The nodes' widths.
  unfoldable pub widths_from : List Node → List ℕ → List ℕ
  widths_from [] us = us
  widths_from (n ∷ ns) us = widths_from ns (us ++ (node_width m.scope.widths us n ∷ []))

  -- ---- "or an entry (written registers and place, in the rows of all the sheet's waits), with .. no such .. node, a wrong
  -- width ..; or a place entry whose branch arms end in anything but known 8-bit constants that are waits of its thread."

  -- Does a node stand for a wait of thread i, where ls says which earlier ones do?
  unfoldable pub lands : ℕ → List Bool → Node → Bool
  lands i ls (a_variable v) = false
  lands i ls (a_constant w p) = eqb w 8 && is_wait (instr_at (code_of m i) p)
  lands i ls (an_unknown w) = false
  lands i ls (a_unary o a) = false
  lands i ls (a_binary o a b) = false
  lands i ls (a_conditional c a b) = false
  lands i ls (a_branch c a b) = get_or ls a false && get_or ls b false

  unfoldable pub landings : ℕ → List Node → List Bool → List Bool
  landings i [] ls = ls
  landings i (n ∷ ns) ls = landings i ns (ls ++ (lands i ls n ∷ []))

  module _ (T : Tables) where
    -- The entry of the register whose variable is v.
    unfoldable pub register_fits : ℕ → ℕ → ℕ → Bool
    register_fits i p r =
        let n = entry m T i p r in
        ltb n (length T.nodes) && eqb (get_or (widths_from T.nodes []) n 0) (width_of m (m.scope.inputs + r))

    unfoldable pub row_fits : ℕ → ℕ → Bool
    row_fits i p =
        all_below m.scope.registers (λ r. not (writes m i (m.scope.inputs + r)) || register_fits i p r)
        && get_or (landings i T.nodes []) (entry m T i p 32) false

    unfoldable pub rows_fit : Bool
    rows_fit =
        all_below (length m.threads)
        (λ i. all_below (length (code_of m i)) (λ p. not (is_wait (instr_at (code_of m i) p)) || row_fits i p))

    unfoldable pub tables_fit : Bool
    tables_fit = nodes_fit T.nodes [] && rows_fit

-- The lent words as nodes and rows: all 4,096 nodes. "rows past the sheet's waits aren't read"
unfoldable pub tables_in : List ℕ → List ℕ → Tables
tables_in ns rs = record { nodes = list_of 4096 (node_at ns); rows = rs }

-- ---- 31: "state doesn't fit the sheet", of registers and places: "value .. too wide; place outside its thread or, for a cycle run, no wait"

module _ (m : Module Expr) where
  unfoldable pub registers_fit : Registers → Bool
  registers_fit g =
      all_below m.scope.registers (λ r. fits (width_of m (m.scope.inputs + r)) (value_at g.value g.unknown r))
      && all_below (length m.threads) (λ i. is_wait (instr_at (code_of m i) (get_or g.places i 0)))

  -- ---- 25: "input values of wrong number or too wide". Item v is input v + 1.

  unfoldable pub upper_inputs_fit : Inputs → Bool
  upper_inputs_fit a =
      eqb (a.count + 1) m.scope.inputs && all_below (m.scope.inputs - 1) (λ v. fits (width_of m (v + 1)) (input_of a v))

  -- ---- the cycle: "It settles wires, takes the row of each thread's wait for the registers it writes, settles wires again"

  -- "A cycle run takes registers, wait places and inputs 1 up (an input may be x). The clock's node counts as 1".
  unfoldable pub handed : Registers → Inputs → Book
  handed g a =
      record {
        values =
            λ v.
            pick (eqb v 0) (known 1)
            (pick (ltb v m.scope.inputs) (input_of a (v - 1))
            (pick (is_register m.scope v) (value_at g.value g.unknown (v - m.scope.inputs))
            nowhere));
        places = λ i. get_or g.places i 0;
      }

  unfoldable pub clocked : Tables → Registers → Inputs → Book
  clocked T g a = settled m (rise m T (settled m (handed g a)))

  -- ---- "and gives registers, places and wires"

  -- A register's value, and a thread's place.
  unfoldable pub with_register : Registers → ℕ → Value → Registers
  with_register g r a =
      record { value = set g.value r (number_of a); unknown = set g.unknown r (marks_of a); places = g.places }

  unfoldable pub with_wait : Registers → ℕ → ℕ → Registers
  with_wait g i p = record { value = g.value; unknown = g.unknown; places = set g.places i p }

  -- The registers below n that some thread writes; the others, and those past the sheet's, stay as they were handed.
  unfoldable pub store_registers : Book → ℕ → Registers → Registers
  store_registers b zero g = g
  store_registers b (suc r) g =
      let h = store_registers b r g in
      let v = m.scope.inputs + r in
      pick (some_thread m (λ i. writes m i v)) (with_register h r (b.values v)) h

  unfoldable pub store_places : Book → ℕ → Registers → Registers
  store_places b zero g = g
  store_places b (suc i) g = with_wait (store_places b i g) i (b.places i)

  unfoldable pub stored : Book → Registers → Registers
  stored b g = store_places b (length m.threads) (store_registers b m.scope.registers g)

  -- A wire's value; past the sheet's wires x.
  unfoldable pub wire_value : Book → ℕ → Value
  wire_value b k = pick (ltb k (length m.wires)) (b.values (wire_variable m k)) nowhere

-- A refusal hands back the registers and places that it got, and wires all x.
unfoldable pub refused : ℕ → Registers → Clocked
refused n g =
    record {
      number = n;
      value = g.value;
      unknown = g.unknown;
      places = g.places;
      wire = replicate 32 0;
      unsure = replicate 32 (ones 32);
    }

unfoldable pub given : Module Expr → Book → Registers → Clocked
given m b g =
    record {
      number = 0;
      value = (stored m b g).value;
      unknown = (stored m b g).unknown;
      places = (stored m b g).places;
      wire = list_of 32 (λ k. number_of (wire_value m b k));
      unsure = list_of 32 (λ k. marks_of (wire_value m b k));
    }

-- ---- the call

unfoldable pub clocked_in : Module Expr → Tables → Registers → Inputs → Clocked
clocked_in m T g a =
    pick (tables_fit m T)
    (pick (registers_fit m g)
    (pick (upper_inputs_fit m a) (given m (clocked m T g a) g) (refused 25 g))
    (refused 31 g))
    (refused 24 g)

-- The module of a sheet that extraction accepts.
unfoldable pub extractable : List ℕ → Res (Module Expr)
extractable s = do
  m ← read s
  T ← extracted m
  ok m

unfoldable pub clocked_or : Res (Module Expr) → Tables → Registers → Inputs → Clocked
clocked_or (ok m) T g a = clocked_in m T g a
clocked_or (no n p) T g a = refused n g

unfoldable pub cycle_run : List ℕ → List ℕ → List ℕ → Registers → Inputs → Clocked
cycle_run s ns rs g a = pick (right_lengths ns rs) (clocked_or (extractable s) (tables_in ns rs) g a) (refused 23 g)
