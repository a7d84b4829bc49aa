-- A state as a choice works on it, and back: its planes in cells, its marks in masks, and the threads that stand off a wait. Defined for
-- plans and states of any contents; proofs/Packing says that a state packed again is the state.
use Rattle.std.specs.Prelude.{ℕ, zero, suc, Bool, true, false, List, get_or, set, replicate}
use Rattle.values.specs.Values.{pick}
use Rattle.values.specs.Cells.{number_in, marks_in}
use Rattle.state.specs.declared.Counters.{Counters}
use Rattle.state.specs.declared.State.{State}
use Rattle.state.specs.Rows.{list_of}
use Rattle.plan.specs.Plan.{Plan}
use Rattle.plan_changes.specs.Changes.{eight}
use Rattle.plan_engine.specs.Live.{Live, alive}
use Rattle.plan_state.specs.Planes.{cells_below}

-- ---- unpacked

-- The threads below n that stand off a wait, as 32 marks.
unfoldable pub ready_below : Plan → List ℕ → ℕ → List Bool
ready_below q ps zero = replicate 32 false
ready_below q ps (suc n) = pick (q.waits n (get_or ps n 0)) (ready_below q ps n) (set (ready_below q ps n) n true)

abbrev pub cells_of : State → List ℕ → List ℕ
cells_of st cs = cells_below st.value st.unknown 80 cs

abbrev pub slots_of : State → List ℕ
slots_of st = cells_below st.pending st.unsure 32 (replicate 32 0)

-- Into a plane of cells of any contents.
unfoldable pub unpacked_in : List ℕ → Plan → State → Live
unpacked_in cs q st =
    alive (cells_of st cs) (slots_of st) st.places st.due (ready_below q st.places (eight q.threads)) st.held

abbrev pub unpacked : Plan → State → Live
unpacked q st = unpacked_in (replicate 4176 0) q st

-- ---- packed

abbrev pub numbers_in : List ℕ → ℕ → List ℕ
numbers_in cs n = list_of n (λ v. number_in (get_or cs v 0))

abbrev pub unknowns_in : List ℕ → ℕ → List ℕ
unknowns_in cs n = list_of n (λ v. marks_in (get_or cs v 0))

unfoldable pub packed : Live → Counters → State
packed l c =
    record {
      value = numbers_in l.cells 80;
      unknown = unknowns_in l.cells 80;
      pending = numbers_in l.pending 32;
      unsure = unknowns_in l.pending 32;
      held = l.held;
      places = l.places;
      due = l.due;
      counters = c;
    }
