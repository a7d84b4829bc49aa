-- The calls of the simulator, with their numbers in document 01's order ("Numbers that come from the state", "Order").
use Rattle.std.specs.Prelude.{ℕ, zero, suc, ◌+◌, ◌-◌, Bool, true, false, not, ◌&&◌, List, [], ◌∷◌, length, get_or, set, replicate, ltb, leb, eqb}
use Rattle.std.proofs.Math.Option.{Option, none, some}
use Rattle.values.specs.declared.Value.{Value}
use Rattle.values.specs.Values.{pick, ones, all_unknown, fits}
use Rattle.values.specs.Planes.{value_at}
use Rattle.sheet.specs.Reading.{Res, ok, no}
use Rattle.sheet.specs.Expression.{Expr}
use Rattle.sheet.specs.Module.{Module, read}
use Rattle.state.specs.declared.State.{State}
use Rattle.state.specs.Rows.{list_of}
use Rattle.state.specs.State.{full, counters_of, users, count_of, allowance_of, with_counters, value_of, pending_of, place_of, is_due}
use Rattle.events.specs.declared.Inputs.{Inputs}
use Rattle.events.specs.declared.Chosen.{Chosen}
use Rattle.events.specs.declared.Ran.{Ran}
use Rattle.events.specs.declared.Verdict.TheVariants.{Quiet, Spent, Stopped, Refused}
use Rattle.events.specs.declared.Rested.{Rested}
use Rattle.events.specs.Cycle.{code_of, items, all_below, enabled, any_enabled, is_some, any_pending, quiet, run_thread, run_wire, commit, feed}

-- ---- start: "At the start all is x, places and counters 0, every wire due."

-- A variable that nothing was stored in: x in all bits of its width. Past the variables of the widths ws no width is at hand: 32 bits.
unfoldable pub unset : List ℕ → ℕ → Value
unset ws v = all_unknown (get_or ws v 32)

-- The marks of the wires below n, and of no others.
unfoldable pub due_below : ℕ → List Bool
due_below zero = replicate 32 false
due_below (suc n) = set (due_below n) n true

-- IEEE 1364 decides over 003: wires are due at the start. "Each has an allowance of choices fixed at the start".
unfoldable pub started : List ℕ → ℕ → List ℕ → State
started ws wires allowances =
    record {
      value = replicate 80 0;
      unknown = list_of 80 (λ v. ones (get_or ws v 32));
      pending = replicate 32 0;
      unsure = replicate 32 0;
      held = replicate 32 false;
      places = replicate 8 0;
      due = due_below wires;
      counters = counters_of 0 (replicate 4 0) allowances;
    }

-- A refused start hands back the state of no variables and no wires: all values x, everything else 0.
unfoldable pub start_of : Res (Module Expr) → List ℕ → Chosen
start_of (ok m) allowances = record { number = 0; state = started m.scope.widths (length m.wires) allowances }
start_of (no n p) allowances = record { number = n; state = started [] 0 allowances }

unfoldable pub start : List ℕ → List ℕ → Chosen
start s allowances = start_of (read s) allowances

-- ---- 31: "state doesn't fit the sheet (value or pending too wide; place outside its thread ..; mark or pending past the
-- sheet's)", "with 0 in the first number under each mark (else 31, inputs 25)", and "(a count above it is 31)"

unfoldable pub width_of : Module Expr → ℕ → ℕ
width_of m v = get_or m.scope.widths v 0

unfoldable pub pending_fits : ℕ → Option Value → Bool
pending_fits w none = true
pending_fits w (some a) = fits w a

unfoldable pub state_fits : Module Expr → State → Bool
state_fits m st =
    all_below (length m.scope.widths) (λ v. fits (width_of m v) (value_of st v))
    && all_below registers (λ r. pending_fits (width_of m (m.scope.inputs + r)) (pending_of st r))
    && all_below (length m.threads) (λ i. ltb (place_of st i) (length (code_of m i)))
    && all_below (32 - wires) (λ k. not (is_due st (wires + k)))
    && all_below (32 - registers) (λ r. not (is_some (pending_of st (registers + r))))
    && all_below users (λ u. leb (count_of st u) (allowance_of st u))
  where
    registers : ℕ
    registers = m.scope.registers

    wires : ℕ
    wires = length m.wires

-- ---- judged: "1 to 11, 31", and then what the call answers on a module and a state that fits it

unfoldable pub judged : {A : Type 0} → Res (Module Expr) → State → (ℕ → A) → (Module Expr → A) → A
judged (ok m) st refused accepted = pick (state_fits m st) (accepted m) (refused 31)
judged (no n p) st refused accepted = refused n

-- ---- answer: 0 and the state reached, or "its number and the state it got"

unfoldable pub answer : ℕ → State → State → Chosen
answer n old new = pick (eqb n 0) (record { number = 0; state = new }) (record { number = n; state = old })

-- ---- counting

-- 36: time at 18,446,744,073,709,551,615; "number 36 guards time only"
unfoldable pub spend_time : State → ℕ
spend_time st = pick (eqb st.counters.time full) 36 0

unfoldable pub timed : State → State
timed st = with_counters st (counters_of (st.counters.time + 1) st.counters.counts st.counters.allowances)

-- "a user whose allowance is used up (47)"
unfoldable pub spend : State → ℕ → ℕ
spend st u = pick (ltb (count_of st u) (allowance_of st u)) 0 47

-- "Each accepted choice names its user, 0 to 3, and is counted for that user alone": with n more accepted choices of user u.
unfoldable pub counted_by : ℕ → ℕ → State → State
counted_by n u st =
    with_counters st (counters_of st.counters.time (set st.counters.counts u (count_of st u + n)) st.counters.allowances)

unfoldable pub counted : ℕ → State → State
counted u st = counted_by 1 u st

-- ---- a choice: ".. 22", "a user above 3 (46), after 22", "33 to 35", "a user whose allowance is used up (47), last, where 36 stood"

-- 46 for a user above 3, else n.
unfoldable pub by_user : ℕ → ℕ → ℕ
by_user u n = pick (ltb u users) n 46

-- The number of a choice of user u, 0 where it is accepted. "22 choice names no item"; byte 255 is the commit. "33 item not enabled. 34
-- commit while one is. 35 commit with none pending."
unfoldable pub refusal : Module Expr → State → ℕ → ℕ → ℕ
refusal m st u c =
    pick (ltb c (items m)) (by_user u (pick (enabled m st c) (spend st u) 33))
    (pick (eqb c 255) (by_user u (pick (any_enabled m st) 34 (pick (any_pending m st) (spend st u) 35)))
    22)

-- The state that an accepted choice of user u leaves.
unfoldable pub performed : Module Expr → State → ℕ → ℕ → State
performed m st u c =
    pick (ltb c threads) (run_thread m c (counted u st))
    (pick (ltb c (items m)) (run_wire m (c - threads) (counted u st))
    (commit m (counted u st)))
  where
    threads : ℕ
    threads = length m.threads

unfoldable pub choose_in : Module Expr → State → ℕ → ℕ → Chosen
choose_in m st u c = answer (refusal m st u c) st (performed m st u c)

unfoldable pub choose : List ℕ → State → ℕ → ℕ → Chosen
choose s st u c = judged (read s) st (λ n. record { number = n; state = st }) (λ m. choose_in m st u c)

-- ---- a run over a list: "ends at the first refused one and returns the number accepted"

-- A run that goes on once a choice was answered: with the rest where it was accepted, else stopped by its number.
unfoldable pub onward : Chosen → Ran → Ran
onward r rest =
    pick (eqb r.number 0)
    (record { accepted = rest.accepted + 1; number = rest.number; state = rest.state })
    (record { accepted = 0; number = r.number; state = r.state })

unfoldable pub run_in : Module Expr → ℕ → List ℕ → State → Ran
run_in m u [] st = record { accepted = 0; number = 0; state = st }
run_in m u (c ∷ cs) st = onward (choose_in m st u c) (run_in m u cs (choose_in m st u c).state)

-- "Runs: 1 to 11, 31, then choice by choice", and a user above 3 "for either run's one user, after 31".
unfoldable pub run_list : List ℕ → State → ℕ → List ℕ → Ran
run_list s st u cs = judged (read s) st refused (λ m. pick (ltb u users) (run_in m u cs st) (refused 46))
  where
    refused : ℕ → Ran
    refused n = record { accepted = 0; number = n; state = st }

-- ---- a run that picks each choice from the state it has reached, at most n of them

-- A run that goes on from a state once a choice was answered.
unfoldable pub resting : State → Chosen → Rested → Rested
resting st r rest =
    pick (eqb r.number 0)
    (record { accepted = rest.accepted + 1; verdict = rest.verdict; state = rest.state })
    (record { accepted = 0; verdict = Stopped r.number; state = st })

-- "It says quiet exactly when the state reached is quiet, spent exactly when N choices ran and it isn't, and otherwise gives
-- 36, met before the Nth": 47 "where 36 stood".
unfoldable pub run_by : Module Expr → ℕ → (State → ℕ) → ℕ → State → Rested
run_by m u next zero st = record { accepted = 0; verdict = pick (quiet m st) Quiet Spent; state = st }
run_by m u next (suc n) st =
    pick (quiet m st) (record { accepted = 0; verdict = Quiet; state = st })
    (resting st (choose_in m st u (next st)) (run_by m u next n (choose_in m st u (next st)).state))

-- The choices that it takes.
unfoldable pub choices_by : Module Expr → ℕ → (State → ℕ) → ℕ → State → List ℕ
choices_by m u next zero st = []
choices_by m u next (suc n) st =
    pick (quiet m st) []
    (pick (eqb (choose_in m st u (next st)).number 0) (next st ∷ choices_by m u next n (choose_in m st u (next st)).state)
    [])

-- ---- the plain run: "takes the lowest enabled item, else the commit"

-- The lowest number below n of which the test holds, else the other one.
unfoldable pub lowest : ℕ → (ℕ → Bool) → ℕ → ℕ
lowest zero f other = other
lowest (suc n) f other = lowest n f (pick (f n) n other)

unfoldable pub plain_choice : Module Expr → State → ℕ
plain_choice m st = lowest (items m) (enabled m st) 255

unfoldable pub run_plain : List ℕ → State → ℕ → ℕ → Rested
run_plain s st u n = judged (read s) st refused (λ m. pick (ltb u users) (run_by m u (plain_choice m) n st) (refused 46))
  where
    refused : ℕ → Rested
    refused k = record { accepted = 0; verdict = Refused k; state = st }

-- ---- an instant: ".. 25, 32, 36"

unfoldable pub input_of : Inputs → ℕ → Value
input_of a v = value_at a.value a.unknown v

-- 25: "input values of wrong number or too wide", or with a number under a mark
unfoldable pub inputs_fit : Module Expr → Inputs → Bool
inputs_fit m a =
    eqb a.count m.scope.inputs && all_below m.scope.inputs (λ v. fits (width_of m v) (input_of a v))

-- The number of an instant, 0 where it is accepted. "An instant needs quiet": 32.
unfoldable pub instant_refusal : Module Expr → State → Inputs → ℕ
instant_refusal m st a = pick (inputs_fit m a) (pick (quiet m st) (spend_time st) 32) 25

-- "An instant needs quiet, sets all inputs (x allowed) as one change, adds 1 to time."
unfoldable pub instant_in : Module Expr → State → Inputs → Chosen
instant_in m st a = answer (instant_refusal m st a) st (feed m (input_of a) (timed st))

unfoldable pub instant : List ℕ → State → Inputs → Chosen
instant s st a = judged (read s) st (λ n. record { number = n; state = st }) (λ m. instant_in m st a)
