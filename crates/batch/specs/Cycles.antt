-- Many clock cycles in one call: rows of inputs, for each row an instant with the clock low and one with the clock high, one user's plain
-- run after each. It is defined by the single calls, each on the state that the last one left, up to the first that is stopped.
use Rattle.std.specs.Prelude.{ℕ, zero, suc, ◌+◌, ◌*◌, ◌/◌, Bool, true, false, List, length, ltb, eqb}
use Rattle.values.specs.Values.{pick}
use Rattle.sheet.specs.Module.{read}
use Rattle.state.specs.declared.State.{State}
use Rattle.state.specs.State.{users}
use Rattle.events.specs.declared.Inputs.{Inputs}
use Rattle.events.specs.Verdict.{number_of_verdict}
use Rattle.events.specs.Calls.{judged, instant, run_plain}
use Rattle.events.specs.Rows.{whole_rows}
use Rattle.batch.specs.declared.Cycled.{Cycled}
use Rattle.prepared_cycles.specs.declared.Cycled as prepared_cycles
unfoldable pub use Rattle.prepared_cycles.specs.Cycles.{row_from, row_inputs}

-- ---- an instant and the plain run after it

abbrev pub cycled : ℕ → ℕ → Bool → State → Cycled
cycled p n running st = record { phases = p; number = n; running = running; state = st }

module _ (s : List ℕ) (u : ℕ) (inputs : ℕ → Inputs) where
  -- From instant number p on, n of them: the rest is what the later ones give.
  unfoldable pub phases : ℕ → ℕ → State → Cycled
  phases zero p st = cycled p 0 false st
  phases (suc n) p st =
      let i = instant s st (inputs p) in
      let r = run_plain s i.state u 65535 in
      let k = number_of_verdict r.verdict in
      pick (eqb i.number 0)
      (pick (eqb k 0) (phases n (p + 1) r.state) (cycled p k true r.state))
      (cycled p i.number false st)

-- ---- run_cycles: the rows, one after the other

-- "1 to 11, 31", 46, "25": a sheet, a state, a user above 3 or rows that aren't whole are refused at once.
unfoldable pub run_cycles : List ℕ → State → ℕ → List ℕ → List ℕ → Cycled
run_cycles s st u ns xs =
    judged (read s) st
    (λ n. cycled 0 n false st)
    (λ m.
    pick (ltb u users)
    (pick (whole_rows ns xs) (phases s u (row_inputs m.scope.inputs ns xs) (2 * (length ns / 16)) 0 st) (cycled 0 25 false st))
    (cycled 0 46 false st))

-- ---- what the call on a prepared plan gives, as this one does

abbrev pub told : prepared_cycles.Cycled → Cycled
told r = cycled r.phases r.number r.running r.state
