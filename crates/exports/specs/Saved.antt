-- The calls on a saved state, for C and Rust: the state lies in a lent buffer of bytes, and becomes the one that the call gives
-- back. Bytes that are no saved state are no state that fits: 31, after the sheet's own 1 to 11, and they stay.
use Rattle.std.specs.Prelude.{ℕ, Bool, true, false, List, eqb}
use Rattle.std.proofs.Math.Option.{Option, none, some}
use Rattle.values.specs.Values.{pick}
use Rattle.sheet.specs.Reading.{Res, ok, no}
use Rattle.sheet.specs.Expression.{Expr}
use Rattle.sheet.specs.Module.{Module, read}
use Rattle.state.specs.declared.State.{State}
use Rattle.saved.specs.declared.Brought.{Brought}
use Rattle.saved.specs.Saved.{saved, loaded}
use Rattle.events.specs.declared.Chosen.{Chosen}
use Rattle.events.specs.declared.Ran.{Ran}
use Rattle.events.specs.declared.Verdict.{Verdict}
use Rattle.events.specs.declared.Verdict.TheVariants.{Refused}
use Rattle.events.specs.declared.Rested.{Rested}
use Rattle.events.specs.Verdict.{number_of_verdict}
use Rattle.batch.specs.declared.Cycled.{Cycled}

-- ---- a saved state brought over: where it is refused, the lent bytes stay

unfoldable pub brought_into : List ℕ → Brought → List ℕ
brought_into b r = pick (eqb r.number 0) (saved r.state) b

-- ---- the start: a refused one leaves the bytes, which may be any

unfoldable pub started_in : List ℕ → Chosen → List ℕ
started_in b c = pick (eqb c.number 0) (saved c.state) b

-- ---- a call on what was loaded: its number, its bytes, and what else it tells

-- "1 to 11, 31": the number where nothing was loaded.
unfoldable pub unfit : Res (Module Expr) → ℕ
unfit (ok m) = 31
unfit (no n p) = n

unfoldable pub number_on : List ℕ → Option State → (State → Chosen) → ℕ
number_on s none call = unfit (read s)
number_on s (some st) call = (call st).number

unfoldable pub bytes_on : List ℕ → Option State → (State → Chosen) → List ℕ
bytes_on b none call = b
bytes_on b (some st) call = saved (call st).state

-- Where nothing was loaded it tells what is said of nothing.
unfoldable pub told_on : {A : Type 0} → A → Option State → (State → A) → A
told_on nothing none tell = nothing
told_on nothing (some st) tell = tell st

-- Are the bytes a saved state, in the form that the calls take?
unfoldable pub is_state : List ℕ → Bool
is_state b = told_on false (loaded b) (λ st. true)

-- ---- runs as calls

unfoldable pub ran : Ran → Chosen
ran r = record { number = r.number; state = r.state }

unfoldable pub rested : Rested → Chosen
rested r = record { number = number_of_verdict r.verdict; state = r.state }

-- How a plain run ended: where nothing was loaded it is a refused call.
unfoldable pub verdict_on : List ℕ → Option State → (State → Rested) → Verdict
verdict_on s none call = Refused (unfit (read s))
verdict_on s (some st) call = (call st).verdict

unfoldable pub cycled_as : Cycled → Chosen
cycled_as r = record { number = r.number; state = r.state }
