-- The calls on what was prepared, for C and Rust: on a plan and a saved state, and on the four tables of the cycle run.
use Rattle.std.specs.Prelude.{ℕ, List, eqb}
use Rattle.std.proofs.Math.Option.{Option, none, some}
use Rattle.values.specs.Values.{pick}
use Rattle.state.specs.declared.State.{State}
use Rattle.events.specs.declared.Chosen.{Chosen}
use Rattle.events.specs.declared.Verdict.{Verdict}
use Rattle.events.specs.declared.Verdict.TheVariants.{Refused}
use Rattle.events.specs.declared.Rested.{Rested}
use Rattle.prepared_cycles.specs.declared.Cycled.{Cycled}
use Rattle.prepared_cycles.specs.Traces.{rounds, has_room}
use Rattle.nextstate.specs.declared.Registers.{Registers}
use Rattle.clock_run.specs.declared.Rounds.{Rounds}
use Rattle.clock_run.specs.Rounds.{registers_of}

-- ---- a call on what was loaded: bytes that are no saved state are no state that fits, 31

unfoldable pub number_at : Option State → (State → Chosen) → ℕ
number_at none call = 31
number_at (some st) call = (call st).number

unfoldable pub verdict_at : Option State → (State → Rested) → Verdict
verdict_at none call = Refused 31
verdict_at (some st) call = (call st).verdict

unfoldable pub cycled_at : Cycled → Chosen
cycled_at r = record { number = r.number; state = r.state }

-- ---- a trace: "23", then 31

unfoldable pub untraced : List ℕ → List ℕ → ℕ
untraced ns w = pick (has_room (rounds ns) w) 31 23

unfoldable pub trace_number : Option State → List ℕ → List ℕ → (State → Cycled) → ℕ
trace_number none ns w call = untraced ns w
trace_number (some st) ns w call = (call st).number

-- ---- a trace by expressions: registers and places are those of the last accepted cycle, or, where none was, what they were

unfoldable pub after_trace : Registers → Rounds → Registers
after_trace g r = pick (eqb r.cycles 0) g (registers_of r.last)
