-- Document 01, "The simulation cycle": "In a module that extraction accepts, the plain run stores each wire at most once after an
-- instant's last change of inputs or registers." proofs/PlainRun proves it.
use Rattle.std.specs.Prelude.{ℕ, ◌<◌, ◌≡◌, true, List}
use Rattle.sheet.specs.Reading.{ok}
use Rattle.sheet.specs.Expression.{Expr}
use Rattle.sheet.specs.Module.{Module, read}
use Rattle.state.specs.declared.State.{State}
use Rattle.state.specs.State.{Shaped, users}
use Rattle.events.specs.Calls.{state_fits, run_by, plain_choice, run_plain}
use Rattle.nextstate.specs.Extraction.{extract}
use Rattle.settling.specs.Plain.{StoresOnce}

-- The plain run of at most n choices of one user, from any state that fits: between two stores of one wire some choice changes an
-- input or a register. A state is Shaped where its arrays have their lengths, which every state passed by value has.
pub record PlainOnce (s : List ℕ) (u : ℕ) (st : State) (n : ℕ) : Type 0 where
  pub m : Module Expr
  pub reads : read s ≡ ok m
  pub once : state_fits m st ≡ true → (run_plain s st u n ≡ run_by m u (plain_choice m) n st) × StoresOnce m u st n

abbrev pub PlainRun : Type 0
PlainRun =
    (s ns rs : List ℕ) → (extract s ns rs).number ≡ 0 → (u : ℕ) → u < users → (st : State) → Shaped st → (n : ℕ) → PlainOnce s u st n
