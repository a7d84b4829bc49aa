-- The claim of specs/Claims, shown: on what `prepare` filled, clock_run's calls are the cycle run. Assumes nothing.
use mathlib.Core.Path.{◌≡◌, refl, sym, ap, ◌∙◌}
use mathlib.Core.Bool.{Bool, true, false}
use mathlib.Core.List.{List, [], ◌∷◌}
use Prim.Native.Nat.{ℕ, ◌+◌, ◌/◌, ◌^◌, ◌≤◌, ◌<◌}
use native.Mathlib.Decide.{dec_lt}
use native.Mathlib.Omega.{arith}
use borrow.Author.Rules.{rules}
use borrow.Author.Tests.{ltb-false}
use denote.Laws.{Is}
use denote.Struct.Laws.{val}
use lib.ListN.{length, get_or, replicate, length-replicate, get_or-eq_default}
use Rattle.values.specs.Values.{pick}
use Rattle.values.specs.Planes.{value_at}
use Rattle.values.specs.Cells.{small}
use Rattle.values.proofs.Operators.{is-small}
use Rattle.sheet.specs.Reading.{Res, ok, no, ◌>>=◌}
use Rattle.sheet.proofs.Reading.{no≢ok}
use Rattle.sheet.specs.Expression.{Expr}
use Rattle.sheet.specs.Module.{Module, read}
use Rattle.masks.specs.Masks.{bits, mask}
use Rattle.masks.proofs.Masks.{bits-mask}
use Rattle.state.specs.Rows.{list_of}
use Rattle.state.proofs.Rows.{length-list_of, get_d-list_of}
use Rattle.soundness.specs.Soundness.{Sound}
use Rattle.soundness.proofs.Soundness.{sound}
use Rattle.events.specs.declared.Inputs.{Inputs}
use Rattle.events.specs.Rows.{whole_rows}
use Rattle.plan.specs.Plan as plan
use Rattle.plan_fill.specs.Holding.{Holds}
use Rattle.plan_fill.proofs.Holding.{read-holds}
use Rattle.nextstate.specs.declared.Registers.{Registers}
use Rattle.nextstate.specs.declared.Clocked.{Clocked}
use Rattle.nextstate.specs.Rules.{writes, waits_below, many_waits, rule}
use Rattle.nextstate.specs.Nodes.{node_at}
use Rattle.nextstate.specs.Extraction.{Tables, extracted, expressions, right_lengths}
use Rattle.nextstate.specs.CycleRun.{widths_from, tables_fit, tables_in, registers_fit, refused, clocked_in, extractable, clocked_or, cycle_run}
use Rattle.nextstate.specs.contracts.Registers.{the_type, the_row}
use Rattle.nextstate.proofs.Registers.TheLaws.{the_laws}
use Rattle.nextstate.proofs.Numbers.{extracted-rule}
use Rattle.nextstate.proofs.Ruled.{unbroken, ruled}
use Rattle.extraction.specs.Extracting.{number_in}
use Rattle.clock_nodes.specs.Reach.{reach}
use Rattle.clock_nodes.proofs.Reaching.{reach-counted}
use Rattle.clock_steps.specs.Claims.{Room}
use Rattle.clock_run.specs.declared.Rounds.{Rounds}
use Rattle.clock_run.specs.Running.{cycle_on}
use Rattle.clock_run.specs.Rounds.{ended_at, cycles_on, repeat_from}
use Rattle.clock_run.specs.Traces.{Traced, trace_on}
use Rattle.clock_claims.specs.Claims.{Whole, Ready, CycleIsTheRun, CyclesAreTheRuns, TraceIsTheRuns}
use Rattle.clock_claims.proofs.Writers.{writes-register}
use Rattle.clock_claims.proofs.Claims.{cycle-is-the-run, cycles-are-the-runs, trace-is-the-runs}
use Rattle.cycles.specs.declared.Cycled.{Cycled}
use Rattle.cycles.specs.Many.{row_inputs, ended, cycles_of, cycles_in, cycles_or, cycles_run, at_once}
use Rattle.cycles.specs.Preparing.{tables_number, prepared_number, Filled, filled, written_by, fill_lent, sheet_plan, filled_in, filled_or}
use Rattle.cycles.specs.Preparing.{prepared}
use Rattle.cycles.specs.Claims.{Long, cycled_of, traced_run, Same, OnTheSheet}
use Rattle.cycles.proofs.Masks.{below-32}
use Rattle.cycles.proofs.Sheets.{Numbered, number_same}
use Rattle.cycles.proofs.Rows.{row-inputs, repeat-is}

-- ---- a sheet and tables that are accepted

pub record Accepted (s ns rs : List ℕ) : Type 0 where
  pub lengths : right_lengths ns rs ≡ true
  pub contents : Module Expr
  pub reads : read s ≡ ok contents
  pub unbroken : rule contents ≡ 0
  pub extracts : extractable s ≡ ok contents
  pub fit : tables_fit contents (tables_in ns rs) ≡ true

extracts-own : (s : List ℕ) (m : Module Expr) → extractable s ≡ ok m → (read s ≡ ok m) × (rule m ≡ 0)
unfolding extractable
extracts-own s m h = by (read s) refl h
  where
    by : (x : Res (Module Expr)) → read s ≡ x → (x >>= (λ m. extracted m >>= (λ T. ok m))) ≡ ok m → (read s ≡ ok m) × (rule m ≡ 0)
    by (no n p) e k = absurd (no≢ok k)
    by (ok d) e k = on (extracted d) refl k
      where
        on : (y : Res Tables) → extracted d ≡ y → (y >>= (λ T. ok d)) ≡ ok m → (read s ≡ ok m) × (rule m ≡ 0)
        on (no n p) f u = absurd (no≢ok u)
        on (ok T) f u = (e ∙ u, let v : d ≡ m = cc in rw v at (extracted-rule d f))

refused-some : (s : List ℕ) (n p : ℕ) → extractable s ≡ no n p → n ≡ 0 → ⊥
unfolding Numbered
refused-some s n p h k = let b = rw h at (number_same s (number_in (expressions s)) refl) in omega (arith, b.1)

accepted : (s ns rs : List ℕ) → prepared_number s ns rs ≡ 0 → Accepted s ns rs
unfolding prepared_number tables_number
accepted s ns rs e = by (right_lengths ns rs) refl e
  where
    fits : right_lengths ns rs ≡ true → (m : Module Expr) → extractable s ≡ ok m → (t : Bool) → tables_fit m (tables_in ns rs) ≡ t →
        ◌≡◌ {A = ℕ} (pick t 0 24) 0 → Accepted s ns rs
    fits l m h true f k =
        let x = extracts-own s m h in
        record { lengths = l; contents = m; reads = x.0; unbroken = x.1; extracts = h; fit = f }
    fits l m h false f k = absurd (omega arith)

    sheet : right_lengths ns rs ≡ true → (x : Res (Module Expr)) → extractable s ≡ x → tables_number x (tables_in ns rs) ≡ 0 → Accepted s ns rs
    sheet l (ok m) h k = fits l m h (tables_fit m (tables_in ns rs)) refl k
    sheet l (no n p) h k = absurd (refused-some s n p h k)

    by : (t : Bool) → right_lengths ns rs ≡ t → pick t (tables_number (extractable s) (tables_in ns rs)) 23 ≡ 0 → Accepted s ns rs
    by true l k = sheet l (extractable s) refl k
    by false l k = absurd (omega arith)

-- ---- what was filled is ready

writers : (m : Module Expr) → Sound m → (i r : ℕ) → i < length m.threads →
    get_or (bits (get_or (written_by m) i 0)) r false ≡ writes m i (m.scope.inputs + r)
unfolding written_by
writers m z i r o =
    ap (λ (n : ℕ). get_or (bits n) r false) (get_d-list_of (λ i. mask (list_of 32 (own i))) (length m.threads) i 0 o)
    ∙ ap (λ (bs : List Bool). get_or bs r false) (bits-mask (list_of 32 (own i)) (length-list_of (own i) 32))
    ∙ by (dec_lt r 32)
  where
    own : ℕ → ℕ → Bool
    own i r = writes m i (m.scope.inputs + r)

    none : 32 ≤ r → (t : Bool) → own i r ≡ t → false ≡ t
    none l true e = absurd (omega (arith, (writes-register z i (m.scope.inputs + r) o e).1, z.registers-most))
    none l false e = refl

    by : Dec (r < 32) → get_or (list_of 32 (own i)) r false ≡ own i r
    by (yes l) = get_d-list_of (own i) 32 r false l
    by (Prim.no d) = get_or-eq_default (list_of 32 (own i)) false (omega (arith, length-list_of (own i) 32)) ∙ none (omega arith) (own i r) refl

module _ (s ns rs : List ℕ) (t : Filled) (long : Long t) (a : Accepted s ns rs) where
  abbrev m : Module Expr
  m = a.contents

  abbrev T : Tables
  T = tables_in ns rs

  z : Sound m
  z = sound s a.reads

  abbrev us : List ℕ
  us = widths_from m (list_of 4096 (node_at ns)) []

  abbrev ws : List ℕ
  ws = sheet_plan s

  holds : Holds m (plan.plan_of ws)
  holds = read-holds s m (replicate 25212 0) a.reads (length-replicate {A = ℕ} 25212 0)

  ready : Ready m ns us rs (written_by m)
  unfolding many_waits
  ready =
      record {
        fit = a.fit;
        sizes = refl;
        few = ltb-false 32 (waits_below m (length m.threads)) (unbroken m a.unbroken).n20;
        writers = writers m z;
      }

  room : Room t.lent (replicate 4096 0) t.table t.numbers
  room =
      record {
        plan = long.lent;
        lows = length-replicate {A = ℕ} 4096 0;
        rows = long.table;
        numbers = long.numbers;
      }

  filled_is : prepared s ns rs t ≡ filled_in s ns rs t m
  unfolding prepared filled_or
  filled_is = rw (a.lengths, a.extracts, a.fit)

  single : (g : Registers) (b : Inputs) → clocked_in m T g b ≡ cycle_run s ns rs g b
  unfolding cycle_run clocked_or
  single g b = rw (a.lengths, a.extracts)

  abbrev Cycle : Filled → Registers → Inputs → Clocked
  Cycle u g b = cycle_on (plan.plan_of u.plan) (plan.node_at u.lent) u.table u.numbers g b

  abbrev Cycles : Filled → Registers → List ℕ → List ℕ → Rounds
  Cycles u g vs xs = cycles_on (plan.plan_of u.plan) (plan.node_at u.lent) u.table u.numbers g vs xs

  abbrev Trace : Filled → Registers → List ℕ → List ℕ → List ℕ → Traced
  Trace u g vs xs out = trace_on (plan.plan_of u.plan) (plan.node_at u.lent) u.table u.numbers g vs xs out

  module _ (g : Registers) (w : Whole g) where
    pub cycle-same : (b : Inputs) → Cycle (prepared s ns rs t) g b ≡ cycle_run s ns rs g b
    unfolding CycleIsTheRun filled_in fill_lent
    cycle-same b =
        ap (λ (u : Filled). Cycle u g b) filled_is
        ∙ cycle-is-the-run m z (plan.plan_of ws) holds ns us rs (written_by m) ready (reach rs) (reach-counted rs) t.lent
        (replicate 4096 0) t.table t.numbers room g w b
        ∙ single g b

    abbrev many : (vs xs : List ℕ) → Rounds
    many vs xs =
        pick (registers_fit m g)
        (pick (whole_rows vs xs)
        (repeat_from (clocked_in m T) (row_inputs m.scope.inputs vs xs) (length vs / 16) 0 (refused 0 g)) (ended_at 0 25 (refused 25 g)))
        (ended_at 0 31 (refused 31 g))

    many_is : (vs xs : List ℕ) → cycled_of (many vs xs) ≡ cycles_in (clocked_in m T) g vs xs m T
    unfolding cycles_in cycles_of cycled_of ended_at
    many_is vs xs = rw a.fit (by (registers_fit m g) (whole_rows vs xs))
      where
        e : Rounds
        e = repeat_from (clocked_in m T) (row_inputs m.scope.inputs vs xs) (length vs / 16) 0 (refused 0 g)

        d : Cycled
        d = cycles_of (clocked_in m T) g vs xs m.scope.inputs

        same : cycled_of e ≡ d
        same = repeat-is (clocked_in m T) (row_inputs m.scope.inputs vs xs) (length vs / 16) 0 (refused 0 g)

        end : (n : ℕ) (c : Clocked) → cycled_of (ended_at 0 n c) ≡ ended 0 n c
        end n c = refl

        by : (p q : Bool) →
            cycled_of (pick p (pick q e (ended_at 0 25 (refused 25 g))) (ended_at 0 31 (refused 31 g)))
            ≡ pick p (pick q d (at_once 25 g)) (at_once 31 g)
        by true true = same
        by true false = end 25 (refused 25 g)
        by false q = end 31 (refused 31 g)

    pub cycles-same : (vs xs : List ℕ) → cycled_of (Cycles (prepared s ns rs t) g vs xs) ≡ cycles_run s ns rs g vs xs
    unfolding CyclesAreTheRuns filled_in fill_lent cycles_run cycles_or
    cycles-same vs xs =
        ap (λ (u : Filled). cycled_of (Cycles u g vs xs)) filled_is
        ∙ ap cycled_of
        (cycles-are-the-runs m z (ruled m z a.unbroken) (plan.plan_of ws) holds ns us rs (written_by m) ready (reach rs)
        (reach-counted rs) t.lent (replicate 4096 0) t.table t.numbers room g w vs xs (row_inputs m.scope.inputs vs xs)
        (λ e. row-inputs m z vs xs))
        ∙ many_is vs xs
        ∙ rw (a.lengths, a.extracts)
        (ap (λ (call : Registers → Inputs → Clocked). cycles_in call g vs xs m T) (λ i g b. single g b i))

    -- ---- with the rows

    pub trace-same : (d : Module Expr) → extractable s ≡ ok d → (vs xs out : List ℕ) →
        Trace (prepared s ns rs t) g vs xs out ≡ traced_run d (cycle_run s ns rs) g vs xs out
    unfolding TraceIsTheRuns filled_in fill_lent traced_run
    trace-same d o vs xs out =
        let e : ok m ≡ ok d = sym a.extracts ∙ o in
        let own : m ≡ d = cc in
        ap (λ (u : Filled). Trace u g vs xs out) filled_is
        ∙ trace-is-the-runs m z (ruled m z a.unbroken) (plan.plan_of ws) holds ns us rs (written_by m) ready (reach rs)
        (reach-counted rs) t.lent (replicate 4096 0) t.table t.numbers room g w vs xs (row_inputs m.scope.inputs vs xs)
        (λ e. row-inputs m z vs xs) out
        ∙ ap (λ (call : Registers → Inputs → Clocked). traced_run m call g vs xs out) (λ i g b. single g b i)
        ∙ ap (λ (n : Module Expr). traced_run n (cycle_run s ns rs) g vs xs out) own

pub on-the-sheet : OnTheSheet
unfolding OnTheSheet
on-the-sheet s ns rs t long e g w =
    let a = accepted s ns rs e in
    record {
      cycle = cycle-same s ns rs t long a g w;
      cycles = cycles-same s ns rs t long a g w;
      trace = trace-same s ns rs t long a g w;
    }

-- ---- what is refused

module _ (s ns rs : List ℕ) (n : ℕ) (e : n ≡ prepared_number s ns rs) (d : n ≡ 0 → ⊥) (g : Registers) where
  abbrev S : Tables
  S = tables_in ns rs

  pub cycle-off : (b : Inputs) → refused n g ≡ cycle_run s ns rs g b
  unfolding prepared_number tables_number cycle_run clocked_or clocked_in
  cycle-off b = by (right_lengths ns rs) e
    where
      fits : (m : Module Expr) (t : Bool) → tables_fit m S ≡ t → n ≡ pick t 0 24 → refused n g ≡ clocked_in m S g b
      fits m true f k = absurd (d k)
      fits m false f k = rw (f, k)

      sheet : (x : Res (Module Expr)) → n ≡ tables_number x S → refused n g ≡ clocked_or x S g b
      sheet (ok m) k = fits m (tables_fit m S) refl k
      sheet (no i p) k = rw k

      by : (t : Bool) → n ≡ pick t (tables_number (extractable s) S) 23 → refused n g ≡ pick t (clocked_or (extractable s) S g b) (refused 23 g)
      by true k = sheet (extractable s) k
      by false k = rw k

  pub cycles-off : (vs xs : List ℕ) → ended 0 n (refused n g) ≡ cycles_run s ns rs g vs xs
  unfolding prepared_number tables_number cycles_run cycles_or cycles_in
  cycles-off vs xs = by (right_lengths ns rs) e
    where
      call : Registers → Inputs → Clocked
      call = cycle_run s ns rs

      fits : (m : Module Expr) (t : Bool) → tables_fit m S ≡ t → n ≡ pick t 0 24 → at_once n g ≡ cycles_in call g vs xs m S
      fits m true f k = absurd (d k)
      fits m false f k = rw (f, k)

      sheet : (x : Res (Module Expr)) → n ≡ tables_number x S → at_once n g ≡ cycles_or call g vs xs x S
      sheet (ok m) k = fits m (tables_fit m S) refl k
      sheet (no i p) k = rw k

      by : (t : Bool) → n ≡ pick t (tables_number (extractable s) S) 23 →
          at_once n g ≡ pick t (cycles_or call g vs xs (extractable s) S) (at_once 23 g)
      by true k = sheet (extractable s) k
      by false k = rw k

-- ---- as the code has it: tables that were blank

-- Registers passed by value.
abbrev Good : Registers → Type 0
Good g = Is the_row g (val the_type the_laws g ∷ [])

words_small : (ns us : List ℕ) (r : ℕ) → get_or ns r 0 < 2 ^ 32 → get_or us r 0 < 2 ^ 32 → small (value_at ns us r) ≡ true
unfolding value_at
words_small ns us r n u = is-small _ n u

pub whole : (g : Registers) → Good g → Whole g
whole g h =
    record {
      numbers = search rules;
      marks = search rules;
      eight = search rules;
      words = λ r. words_small g.value g.unknown r (below-32 (search rules)) (below-32 (search rules));
    }

abbrev blank : Filled
blank = filled (replicate 25212 0) (replicate 25212 0) (replicate 1152 0) (replicate 2048 0)

blank-long : Long blank
blank-long =
    record {
      lent = length-replicate {A = ℕ} 25212 0;
      table = length-replicate {A = ℕ} 1152 0;
      numbers = length-replicate {A = ℕ} 2048 0;
    }

module _ (s ns rs : List ℕ) {ws ls ts ms : List ℕ} (e : filled ws ls ts ms ≡ prepared s ns rs blank) (z : prepared_number s ns rs ≡ 0)
    (g : Registers) (w : Whole g)
  where
    same : Same s ns rs (filled ws ls ts ms) g
    unfolding OnTheSheet
    same = rw e (on-the-sheet s ns rs blank blank-long z g w)

    pub cycle-on : (b : Inputs) → cycle_on (plan.plan_of ws) (plan.node_at ls) ts ms g b ≡ cycle_run s ns rs g b
    cycle-on b = same.cycle b

    pub cycles-on : (vs xs : List ℕ) →
        cycled_of (cycles_on (plan.plan_of ws) (plan.node_at ls) ts ms g vs xs) ≡ cycles_run s ns rs g vs xs
    cycles-on vs xs = same.cycles vs xs
