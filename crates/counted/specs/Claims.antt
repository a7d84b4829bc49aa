-- What is claimed of the counted run: on what `prepare` filled from an accepted sheet, whatever the plan held before, it stores as many
-- wires as the plain run of crates/work does, comes to the same state, and the wires that read a changed variable are as many as there.
-- proofs/Claims shows it.
use Rattle.std.specs.Prelude.{ℕ, ◌<◌, ◌≡◌, true, List, length}
use Rattle.sheet.specs.Reading.{ok}
use Rattle.sheet.specs.Expression.{Expr}
use Rattle.sheet.specs.Module.{Module, read}
use Rattle.state.specs.declared.State.{State}
use Rattle.state.specs.State.{Shaped, Bounded, users, value_of}
use Rattle.events.specs.Calls.{state_fits}
use Rattle.plan.specs.Plan.{Plan, plan_of}
use Rattle.prepared.specs.Prepared.{prepared_plan}
use Rattle.work.specs.Work.{up_to_commit, taken, stores, there, reader_count}
use Rattle.counted.specs.Counted.{work_at, readers_at}

pub record Works (s : List ℕ) (m : Module Expr) (q : Plan) (st : State) (u n : ℕ) : Type 0 where
  pub stores : (work_at q st u n).stores ≡ length (stores s m u st n)
  pub accepted : (work_at q st u n).accepted ≡ length (up_to_commit (taken s m u st n))
  pub state : (work_at q st u n).state ≡ there s m u st n

pub record CountsOn (s : List ℕ) (m : Module Expr) (q : Plan) : Type 0 where
  pub works : (st : State) → Shaped st → Bounded st → state_fits m st ≡ true → (u : ℕ) → u < users → (n : ℕ) → Works s m q st u n
  pub readers : (a b : State) → readers_at q a b q.wires ≡ reader_count m (length m.wires) (value_of a) (value_of b)

abbrev pub Counts : Type 0
Counts = (s ws : List ℕ) (m : Module Expr) → read s ≡ ok m → length ws ≡ 25212 → CountsOn s m (plan_of (prepared_plan s ws))
