-- Many clock cycles in one call: rows of inputs, for each row an instant with the clock low and one with the clock high, a plain
-- run after each. It is defined by the single calls, each on the state that the last one left, up to the first that is stopped.
use Rattle.std.specs.Prelude.{ℕ, zero, suc, ◌+◌, ◌*◌, ◌/◌, ◌%◌, Bool, true, false, List, [], ◌∷◌, length, get_or, ltb, eqb}
use Rattle.values.specs.Values.{pick}
use Rattle.sheet.specs.Module.{read}
use Rattle.state.specs.declared.State.{State}
use Rattle.state.specs.State.{users}
use Rattle.events.specs.declared.Inputs.{Inputs}
use Rattle.events.specs.Verdict.{number_of_verdict}
use Rattle.events.specs.Calls.{judged, instant, run_plain}
use Rattle.events.specs.Rows.{whole_rows}
use Rattle.prepared_cycles.specs.declared.Cycled.{Cycled}

-- ---- rows: the inputs of instant number p, two to a row of 16

-- The items of row r from the v-th on, n of them.
unfoldable pub row_from : List ℕ → ℕ → ℕ → ℕ → List ℕ
row_from ns r v zero = []
row_from ns r v (suc n) = get_or ns (16 * r + v) 0 ∷ row_from ns r (v + 1) n

-- The clock is low in a row's first instant and high in its second; what stands in its place in the row isn't looked at.
unfoldable pub row_inputs : ℕ → List ℕ → List ℕ → ℕ → Inputs
row_inputs inputs ns xs p =
    record {
      count = inputs;
      value = p % 2 ∷ row_from ns (p / 2) 1 15;
      unknown = 0 ∷ row_from xs (p / 2) 1 15;
    }

-- ---- an instant and the plain run after it

abbrev pub cycled : ℕ → ℕ → Bool → State → Cycled
cycled p n running st = record { phases = p; number = n; running = running; state = st }

module _ (s : List ℕ) (u : ℕ) (inputs : ℕ → Inputs) where
  -- From instant number p on, n of them, the runs those of user u: the rest is what the later ones give.
  unfoldable pub phases : ℕ → ℕ → State → Cycled
  phases zero p st = cycled p 0 false st
  phases (suc n) p st =
      let i = instant s st (inputs p) in
      let r = run_plain s i.state u 65535 in
      let k = number_of_verdict r.verdict in
      pick (eqb i.number 0)
      (pick (eqb k 0) (phases n (p + 1) r.state) (cycled p k true r.state))
      (cycled p i.number false st)

-- ---- run_cycles: the rows, one after the other

-- "1 to 11, 31", a user above 3, 25: a sheet, a state, a user or rows that aren't whole are refused at once.
unfoldable pub run_cycles : List ℕ → State → ℕ → List ℕ → List ℕ → Cycled
run_cycles s st u ns xs =
    judged (read s) st
    (λ n. cycled 0 n false st)
    (λ m.
    pick (ltb u users)
    (pick (whole_rows ns xs) (phases s u (row_inputs m.scope.inputs ns xs) (2 * (length ns / 16)) 0 st) (cycled 0 25 false st))
    (cycled 0 46 false st))
