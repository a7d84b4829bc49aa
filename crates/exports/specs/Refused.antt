-- "A refused call alters nothing": for each call, as C and Rust make it, that every lent byte and word is as it was. What a call tells
-- beside its number (a place, a length, how many were accepted, a word) is its answer, told in any case. proofs/Refused has the proofs.
use Rattle.std.specs.Prelude.{◌≡◌, ◌≢◌, false, List, ℕ}
use Rattle.std.proofs.Math.Option.{Option, none, some}
use Rattle.values.specs.Values.{pick}
use Rattle.dispatch.specs.Claims.{PlanesKept}
use Rattle.sheet.specs.Reading.{Res, ok, no}
use Rattle.sheet.specs.Expression.{Expr}
use Rattle.sheet.specs.Module.{Module, read}
use Rattle.listings.specs.Listing.{listed, laid_in}
use Rattle.state.specs.declared.State.{State}
use Rattle.saved.specs.Saved.{Bytes, loaded}
use Rattle.saved.specs.Older.{brought_over}
use Rattle.events.specs.declared.Inputs.{Inputs}
use Rattle.events.specs.declared.Chosen.{Chosen}
use Rattle.events.specs.declared.Verdict.TheVariants.{Refused}
use Rattle.events.specs.Calls.{judged, by_user, start, choose, run_list, run_plain, instant}
use Rattle.events.specs.Rows.{whole_rows}
use Rattle.batch.specs.Cycles.{run_cycles}
use Rattle.nextstate.specs.declared.Registers.{Registers}
use Rattle.nextstate.specs.Extraction.{right_lengths, extract}
use Rattle.nextstate.specs.CycleRun.{tables_fit, tables_in, registers_fit, extractable, cycle_run}
use Rattle.cycles.specs.Many.{cycles_run}
use Rattle.verilog_source.specs.Claims as Text
use Rattle.verilog_labels.specs.Claims as Labels
use Rattle.exports.specs.Clocked.{Arrays, after_cycle, after_cycles}
use Rattle.exports.specs.Saved.{brought_into, started_in, unfit, number_on, bytes_on, told_on, ran, rested, verdict_on, cycled_as}

-- ---- Verilog text: the bytes for its sheet, the tables for its names

abbrev pub TextKeeps : Type 0
TextKeeps = Text.LeftAlone

abbrev pub NamesKeep : Type 0
NamesKeep = Labels.LeftAlone

-- ---- the sheet: the buffer of a listing

abbrev pub ListKeeps : Type 0
ListKeeps = (s text : List ℕ) → (listed (read s)).number ≢ 0 → laid_in text (read s) ≡ text

-- ---- a saved state brought over

abbrev pub BringKeeps : Type 0
BringKeeps =
    (s old b allowances : List ℕ) → (brought_over s old allowances).number ≢ 0 → brought_into b (brought_over s old allowances) ≡ b

-- ---- start, choice, instant: the saved state

abbrev pub StartKeeps : Type 0
StartKeeps = (s b allowances : List ℕ) → (start s allowances).number ≢ 0 → started_in b (start s allowances) ≡ b

-- A call on a sheet and a saved state.
abbrev pub Keeps : (List ℕ → State → Chosen) → Type 0
Keeps call =
    (s b : List ℕ) → Bytes b → number_on s (loaded b) (call s) ≢ 0 → bytes_on b (loaded b) (call s) ≡ b

abbrev pub ChooseKeeps : Type 0
ChooseKeeps = (u c : ℕ) → Keeps (λ s st. choose s st u c)

abbrev pub InstantKeeps : Type 0
InstantKeeps = (a : Inputs) → Keeps (λ s st. instant s st a)

-- ---- the runs: "a run stopped at a choice isn't a refused call"

-- The number that refuses a run as a call, 0 where none does: "Runs: 1 to 11, 31, then choice by choice", and 46 "for either run's one
-- user, after 31".
unfoldable pub run_refused : List ℕ → Option State → ℕ → ℕ
run_refused s none u = unfit (read s)
run_refused s (some st) u = judged (read s) st (λ n. n) (λ m. by_user u 0)

-- It is the run's number then, nothing was accepted, and the state stays.
abbrev pub RunKeeps : Type 0
RunKeeps =
    (s b : List ℕ) (u : ℕ) (cs : List ℕ) → Bytes b → run_refused s (loaded b) u ≢ 0 →
    (number_on s (loaded b) (λ st. ran (run_list s st u cs)) ≡ run_refused s (loaded b) u)
    × (told_on 0 (loaded b) (λ st. (run_list s st u cs).accepted) ≡ 0)
    × (bytes_on b (loaded b) (λ st. ran (run_list s st u cs)) ≡ b)

abbrev pub PlainRunKeeps : Type 0
PlainRunKeeps =
    (s b : List ℕ) (u limit : ℕ) → Bytes b → run_refused s (loaded b) u ≢ 0 →
    (verdict_on s (loaded b) (λ st. run_plain s st u limit) ≡ Refused (run_refused s (loaded b) u))
    × (told_on 0 (loaded b) (λ st. (run_plain s st u limit).accepted) ≡ 0)
    × (bytes_on b (loaded b) (λ st. rested (run_plain s st u limit)) ≡ b)

-- Rows of inputs that aren't whole are refused after the user.
unfoldable pub cycles_refused : List ℕ → Option State → ℕ → List ℕ → List ℕ → ℕ
cycles_refused s none u ns xs = unfit (read s)
cycles_refused s (some st) u ns xs = judged (read s) st (λ n. n) (λ m. by_user u (pick (whole_rows ns xs) 0 25))

abbrev pub RunCyclesKeeps : Type 0
RunCyclesKeeps =
    (s b : List ℕ) (u : ℕ) (ns xs : List ℕ) → Bytes b → cycles_refused s (loaded b) u ns xs ≢ 0 →
    (number_on s (loaded b) (λ st. cycled_as (run_cycles s st u ns xs)) ≡ cycles_refused s (loaded b) u ns xs)
    × (told_on 0 (loaded b) (λ st. (run_cycles s st u ns xs).phases) ≡ 0)
    × (told_on false (loaded b) (λ st. (run_cycles s st u ns xs).running) ≡ false)
    × (bytes_on b (loaded b) (λ st. cycled_as (run_cycles s st u ns xs)) ≡ b)

-- ---- extraction: "lent words keep their contents"

abbrev pub ExtractKeeps : Type 0
ExtractKeeps =
    (s ns rs : List ℕ) → (extract s ns rs).number ≢ 0 → ((extract s ns rs).nodes ≡ ns) × ((extract s ns rs).rows ≡ rs)

-- ---- the cycle run: registers, places and wires

abbrev pub CycleKeeps : Type 0
CycleKeeps =
    (s ns rs : List ℕ) (g : Registers) (a : Inputs) (lent : Arrays) → (cycle_run s ns rs g a).number ≢ 0 →
    after_cycle lent (cycle_run s ns rs g a) ≡ lent

-- The number that refuses many cycles as a call, 0 where none does: "23, 1 to 21, 24, 31, 25".
module _ (ns rs : List ℕ) (g : Registers) (value unknown : List ℕ) where
  unfoldable pub refused_in : Res (Module Expr) → ℕ
  refused_in (no n p) = n
  refused_in (ok m) =
      pick (tables_fit m (tables_in ns rs)) (pick (registers_fit m g) (pick (whole_rows value unknown) 0 25) 31) 24

  unfoldable pub many_refused : List ℕ → ℕ
  many_refused s = pick (right_lengths ns rs) (refused_in (extractable s)) 23

abbrev pub CyclesKeep : Type 0
CyclesKeep =
    (s ns rs : List ℕ) (g : Registers) (value unknown : List ℕ) (lent : Arrays) →
    many_refused ns rs g value unknown s ≢ 0 →
    ((cycles_run s ns rs g value unknown).number ≡ many_refused ns rs g value unknown s)
    × ((cycles_run s ns rs g value unknown).cycles ≡ 0)
    × (after_cycles lent (cycles_run s ns rs g value unknown) ≡ lent)

-- ---- the dispatcher: the turns

abbrev pub DispatchKeeps : Type 0
DispatchKeeps = PlanesKept
