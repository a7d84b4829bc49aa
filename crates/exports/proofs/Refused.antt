-- "A refused call alters nothing", call by call: the proofs of specs/Refused. Assumes nothing.
use mathlib.Core.Path.{◌≡◌, refl, ap, ◌∙◌}
use mathlib.Core.Logic.{◌≢◌}
use mathlib.Core.Bool.{Bool, true, false}
use mathlib.Core.List.{List}
use mathlib.Core.Option.{Option, none, some}
use Prim.Native.Nat.{ℕ}
use borrow.Author.Tests.{ne_eqb}
use lib.Dec.{ltb}
use Rattle.dispatch.proofs.Claims.{planes-kept}
use Rattle.values.specs.Values.{pick}
use Rattle.sheet.specs.Reading.{Res, ok, no}
use Rattle.sheet.specs.Expression.{Expr}
use Rattle.sheet.specs.Module.{Module, read}
use Rattle.listings.specs.Listing.{listed, laid_in}
use Rattle.state.specs.declared.State.{State}
use Rattle.state.specs.State.{users}
use Rattle.saved.specs.Saved.{saved, loaded}
use Rattle.saved.specs.Older.{brought_over}
use Rattle.saved.proofs.Saved.{saved-loaded}
use Rattle.events.specs.declared.Chosen.{Chosen}
use Rattle.events.specs.declared.Ran.{Ran}
use Rattle.events.specs.declared.Rested.{Rested}
use Rattle.events.specs.declared.Verdict.TheVariants.{Refused}
use Rattle.events.specs.Calls.{state_fits, judged, by_user, start, choose, run_in, run_list, run_by, plain_choice, run_plain, instant}
use Rattle.events.specs.Rows.{whole_rows}
use Rattle.events.proofs.Refused.{unaltered}
use Rattle.batch.specs.declared.Cycled.{Cycled}
use Rattle.batch.specs.Cycles.{cycled, run_cycles}
use Rattle.nextstate.specs.declared.Registers.{Registers}
use Rattle.nextstate.specs.Extraction.{Tables, Extracted, filled, expressions, right_lengths, extract}
use Rattle.nextstate.specs.CycleRun.{tables_fit, tables_in, registers_fit, extractable, cycle_run}
use Rattle.cycles.specs.declared.Cycled as many
use Rattle.cycles.specs.Many.{ended, at_once, cycles_of, cycles_in, cycles_or, cycles_run}
use Rattle.verilog_source.proofs.Compiled as Text
use Rattle.verilog_labels.proofs.Claims as Labels
use Rattle.exports.specs.Clocked.{after_cycle, after_cycles}
use Rattle.exports.specs.Saved.{brought_into, started_in, number_on, bytes_on, told_on, ran, rested, verdict_on, cycled_as}
use Rattle.exports.specs.Refused.{TextKeeps, NamesKeep}
use Rattle.exports.specs.Refused.{ListKeeps, BringKeeps, StartKeeps, Keeps, ChooseKeeps, InstantKeeps, ExtractKeeps, CycleKeeps, CyclesKeep, DispatchKeeps}
use Rattle.exports.specs.Refused.{run_refused, RunKeeps, PlainRunKeeps, cycles_refused, RunCyclesKeeps, refused_in, many_refused}

-- ---- Verilog text

pub text-keeps : TextKeeps
text-keeps = Text.left_alone

pub names-keep : NamesKeep
names-keep = Labels.left_alone

-- ---- the sheet

pub list-keeps : ListKeeps
unfolding listed laid_in
list-keeps s text h = by (read s) h
  where
    by : (x : Res (Module Expr)) → (listed x).number ≢ 0 → laid_in text x ≡ text
    by (ok m) o = absurd (o refl)
    by (no n p) o = refl

-- ---- a saved state brought over

pub bring-keeps : BringKeeps
unfolding brought_into
bring-keeps s old b allowances h = rw (ne_eqb (brought_over s old allowances).number 0 h)

-- ---- start, choice, instant

pub start-keeps : StartKeeps
unfolding started_in
start-keeps s b allowances h = rw (ne_eqb (start s allowances).number 0 h)

module _ (call : List ℕ → State → Chosen) (same : (s : List ℕ) (st : State) → (call s st).number ≢ 0 → (call s st).state ≡ st) where
  keeps : Keeps call
  unfolding number_on bytes_on
  keeps s b bytes h = by (loaded b) refl h
    where
      by : (o : Option State) → loaded b ≡ o → number_on s o (call s) ≢ 0 → bytes_on b o (call s) ≡ b
      by none e w = refl
      by (some st) e w = ap saved (same s st w) ∙ saved-loaded b st e bytes

pub choose-keeps : ChooseKeeps
choose-keeps u c = keeps (λ s st. choose s st u c) (λ s st. unaltered.refused-choice s st u c)

pub instant-keeps : InstantKeeps
instant-keeps a = keeps (λ s st. instant s st a) (λ s st. unaltered.refused-instant s st a)

-- ---- the runs

-- A call that is judged, and refused by a number k of its own where the state fits.
module _ {A : Type 0} (st : State) (r : ℕ → A) (k : Module Expr → ℕ) (f : Module Expr → A)
    (g : (m : Module Expr) → k m ≢ 0 → f m ≡ r (k m))
  where
    judged-refused :
        (x : Res (Module Expr)) → judged x st (λ n. n) k ≢ 0 → judged x st r f ≡ r (judged x st (λ n. n) k)
    unfolding judged
    judged-refused (no n p) h = refl
    judged-refused (ok m) h = by (state_fits m st) h
      where
        by : (t : Bool) → pick t (k m) 31 ≢ 0 → pick t (f m) (r 31) ≡ r (pick t (k m) 31)
        by true o = g m o
        by false o = refl

-- A run of a user above 3 is refused with 46, else by a number k of its own.
module _ {A : Type 0} (r : ℕ → A) (k : ℕ) (f : A) (g : k ≢ 0 → f ≡ r k) (u : ℕ) where
  user-refused : by_user u k ≢ 0 → pick (ltb u users) f (r 46) ≡ r (by_user u k)
  unfolding by_user
  user-refused h = by (ltb u users) h
    where
      by : (t : Bool) → pick t k 46 ≢ 0 → pick t f (r 46) ≡ r (pick t k 46)
      by true o = g o
      by false o = refl

-- Nothing was run, and the state is the one that was handed.
abbrev idle : State → ℕ → Ran
idle st n = record { accepted = 0; number = n; state = st }

abbrev idle_plain : State → ℕ → Rested
idle_plain st n = record { accepted = 0; verdict = Refused n; state = st }

pub run-keeps : RunKeeps
unfolding run_refused number_on told_on bytes_on ran run_list
run-keeps s b u cs bytes h = by (loaded b) refl h
  where
    by : (o : Option State) → loaded b ≡ o → run_refused s o u ≢ 0 →
        (number_on s o (λ st. ran (run_list s st u cs)) ≡ run_refused s o u)
        × (told_on 0 o (λ st. (run_list s st u cs).accepted) ≡ 0)
        × (bytes_on b o (λ st. ran (run_list s st u cs)) ≡ b)
    by none e w = (refl, refl, refl)
    by (some st) e w =
        let f : Module Expr → Ran = λ m. run_in m u cs st in
        let r = idle st in
        let q = judged-refused st r (λ m. by_user u 0) _ (λ m. user-refused r 0 (f m) (λ o. absurd (o refl)) u) (read s) w in (
          ap (λ (x : Ran). x.number) q,
          ap (λ (x : Ran). x.accepted) q,
          ap (λ (x : Ran). saved x.state) q ∙ saved-loaded b st e bytes,
        )

pub plain-run-keeps : PlainRunKeeps
unfolding run_refused verdict_on told_on bytes_on rested run_plain
plain-run-keeps s b u limit bytes h = by (loaded b) refl h
  where
    by : (o : Option State) → loaded b ≡ o → run_refused s o u ≢ 0 →
        (verdict_on s o (λ st. run_plain s st u limit) ≡ Refused (run_refused s o u))
        × (told_on 0 o (λ st. (run_plain s st u limit).accepted) ≡ 0)
        × (bytes_on b o (λ st. rested (run_plain s st u limit)) ≡ b)
    by none e w = (refl, refl, refl)
    by (some st) e w =
        let f : Module Expr → Rested = λ m. run_by m u (plain_choice m) limit st in
        let r = idle_plain st in
        let q = judged-refused st r (λ m. by_user u 0) _ (λ m. user-refused r 0 (f m) (λ o. absurd (o refl)) u) (read s) w in (
          ap (λ (x : Rested). x.verdict) q,
          ap (λ (x : Rested). x.accepted) q,
          ap (λ (x : Rested). saved x.state) q ∙ saved-loaded b st e bytes,
        )

-- 25, where rows aren't whole.
abbrev rows_number : Bool → ℕ
rows_number whole = pick whole 0 25

pub run-cycles-keeps : RunCyclesKeeps
unfolding cycles_refused number_on told_on bytes_on cycled_as run_cycles
run-cycles-keeps s b u ns xs bytes h = by (loaded b) refl h
  where
    rows : (st : State) (c : Cycled) (t : Bool) → rows_number t ≢ 0 →
        pick t c (cycled 0 25 false st) ≡ cycled 0 (rows_number t) false st
    rows st c true o = absurd (o refl)
    rows st c false o = refl

    by : (o : Option State) → loaded b ≡ o → cycles_refused s o u ns xs ≢ 0 →
        (number_on s o (λ st. cycled_as (run_cycles s st u ns xs)) ≡ cycles_refused s o u ns xs)
        × (told_on 0 o (λ st. (run_cycles s st u ns xs).phases) ≡ 0)
        × (told_on false o (λ st. (run_cycles s st u ns xs).running) ≡ false)
        × (bytes_on b o (λ st. cycled_as (run_cycles s st u ns xs)) ≡ b)
    by none e w = (refl, refl, refl, refl)
    by (some st) e w =
        let whole = whole_rows ns xs in
        let r : ℕ → Cycled = λ n. cycled 0 n false st in
        let k = rows_number whole in
        let q = judged-refused st r (λ m. by_user u k) _ (λ m. user-refused r k _ (rows st _ whole) u) (read s) w in (
          ap (λ (x : Cycled). x.number) q,
          ap (λ (x : Cycled). x.phases) q,
          ap (λ (x : Cycled). x.running) q,
          ap (λ (x : Cycled). saved x.state) q ∙ saved-loaded b st e bytes,
        )

-- ---- extraction

module _ (ns rs : List ℕ) where
  abbrev extracted_by : Bool → Res Tables → Extracted
  extracted_by t x = pick t (filled x ns rs) (record { number = 23; nodes = ns; rows = rs })

  extracted-keeps : (t : Bool) (x : Res Tables) → (extracted_by t x).number ≢ 0 →
      ((extracted_by t x).nodes ≡ ns) × ((extracted_by t x).rows ≡ rs)
  unfolding filled
  extracted-keeps true (ok T) o = absurd (o refl)
  extracted-keeps true (no n p) o = (refl, refl)
  extracted-keeps false x o = (refl, refl)

pub extract-keeps : ExtractKeeps
unfolding extract
extract-keeps s ns rs h = extracted-keeps ns rs (right_lengths ns rs) (expressions s) h

-- ---- the cycle run

pub cycle-keeps : CycleKeeps
unfolding after_cycle
cycle-keeps s ns rs g a lent h = rw (ne_eqb (cycle_run s ns rs g a).number 0 h)

module _ (s ns rs : List ℕ) (g : Registers) (value unknown : List ℕ) where
  abbrev run : ℕ → many.Cycled
  run inputs = cycles_of (cycle_run s ns rs) g value unknown inputs

  rows-once : (n : ℕ) (t : Bool) → rows_number t ≢ 0 → pick t (run n) (at_once 25 g) ≡ at_once (rows_number t) g
  rows-once n true o = absurd (o refl)
  rows-once n false o = refl

  module _ (n : ℕ) (w : Bool) where
    fit-once : (t u : Bool) → pick t (pick u (rows_number w) 31) 24 ≢ 0 →
        pick t (pick u (pick w (run n) (at_once 25 g)) (at_once 31 g)) (at_once 24 g)
        ≡ at_once (pick t (pick u (rows_number w) 31) 24) g
    fit-once true true o = rows-once n w o
    fit-once true false o = refl
    fit-once false u o = refl

  sheet-once : (x : Res (Module Expr)) → refused_in ns rs g value unknown x ≢ 0 →
      cycles_or (cycle_run s ns rs) g value unknown x (tables_in ns rs) ≡ at_once (refused_in ns rs g value unknown x) g
  unfolding cycles_or refused_in cycles_in
  sheet-once (ok m) o =
      fit-once m.scope.inputs (whole_rows value unknown) (tables_fit m (tables_in ns rs)) (registers_fit m g) o
  sheet-once (no n p) o = refl

  lengths-once : (t : Bool) (x : Res (Module Expr)) → pick t (refused_in ns rs g value unknown x) 23 ≢ 0 →
      pick t (cycles_or (cycle_run s ns rs) g value unknown x (tables_in ns rs)) (at_once 23 g)
      ≡ at_once (pick t (refused_in ns rs g value unknown x) 23) g
  lengths-once true x o = sheet-once x o
  lengths-once false x o = refl

  at-once : many_refused ns rs g value unknown s ≢ 0 →
      cycles_run s ns rs g value unknown ≡ at_once (many_refused ns rs g value unknown s) g
  unfolding cycles_run many_refused
  at-once h = lengths-once (right_lengths ns rs) (extractable s) h

pub cycles-keep : CyclesKeep
unfolding after_cycles ended
cycles-keep s ns rs g value unknown lent h =
    let q = at-once s ns rs g value unknown h in (
      ap (λ (x : many.Cycled). x.number) q,
      ap (λ (x : many.Cycled). x.cycles) q,
      ap (after_cycles lent) q,
    )

pub dispatch-keeps : DispatchKeeps
dispatch-keeps = planes-kept
