-- The ways through `prepare`, and what it fills where the sheet and the tables are accepted. Assumes nothing.
use mathlib.Core.Path.{◌≡◌, refl, sym, ap, ◌∙◌}
use mathlib.Core.Bool.{Bool, true, false}
use mathlib.Core.List.{List, []}
use Prim.Native.Nat.{ℕ, zero, suc, ◌+◌, ◌^◌, ◌≤◌, ◌<◌}
use native.Mathlib.Omega.{arith}
use borrow.Author.Tests.{eq-eqb, ne_eqb}
use lib.ListN.{length, get_or, replicate, length-replicate}
use lib.Seq.{ext_get_or}
use Rattle.sheet.specs.Reading.{Res, ok, no}
use Rattle.sheet.specs.Expression.{Expr, located}
use Rattle.sheet.specs.Module.{Module, read_sheet}
use Rattle.sheet.specs.Answers.{sheet_answer}
use Rattle.sheet.specs.declared.SheetRead.{SheetRead}
use Rattle.sheet.proofs.Trees.{trees}
use Rattle.masks.specs.Masks.{bits, mask}
use Rattle.masks.proofs.Masks.{mask-bits, length-bits}
use Rattle.state.specs.Rows.{list_of}
use Rattle.state.proofs.Rows.{length-list_of, get_d-list_of}
use Rattle.soundness.proofs.Soundness.{sound}
use Rattle.plan.specs.Plan.{Plan, plan_of}
use Rattle.plan_fill.specs.Filling.{filled_plan}
use Rattle.plan_fill.specs.Holding.{Holds}
use Rattle.plan_fill.proofs.Holding.{read-holds}
use Rattle.nextstate.specs.Rules.{writes}
use Rattle.nextstate.specs.Nodes.{node_at}
use Rattle.nextstate.specs.Extraction.{Tables, expressions, right_lengths}
use Rattle.nextstate.specs.CycleRun.{widths_from, tables_fit, tables_in, extractable}
use Rattle.extraction.specs.Extracting.{number_in}
use Rattle.clock_nodes.specs.Reach.{reach}
use Rattle.clock_nodes.specs.Copying.{copy_all, low_all}
use Rattle.clock_steps.specs.Taking.{at_most}
use Rattle.clock_steps.specs.Numbers.{fill_below, fill_rows, number_rows}
use Rattle.clock_steps.proofs.RowNumbers.{most-same}
use Rattle.clock_check.specs.Judging.{tables_fit_on, width_table}
use Rattle.clock_check.specs.Claims.{Writers, JudgedIsFit, WidthsAreTheNodes}
use Rattle.clock_check.proofs.Claims.{judged-is-fit, widths-are-the-nodes}
use Rattle.cycles.specs.Preparing.{tables_number, prepared_number, Filled, filled, written_by, fill_lent, sheet_plan, filled_in, filled_or}
use Rattle.cycles.specs.Preparing.{prepared}
use Rattle.cycles.specs.Written.{Written, WrittenBy}
use Rattle.cycles.proofs.Sheets.{Numbered, number_same, Own, own}

-- ---- the masks of the registers that are written

module _ (m : Module Expr) (written : List ℕ) (small : (i : ℕ) → get_or written i 0 < 2 ^ 32)
    (same : (i r : ℕ) → i < length m.threads → get_or (bits (get_or written i 0)) r false ≡ writes m i (m.scope.inputs + r))
  where
    abbrev marks : ℕ → List Bool
    marks i = list_of 32 (λ r. writes m i (m.scope.inputs + r))

    bits_are : (i : ℕ) → i < length m.threads → bits (get_or written i 0) ≡ marks i
    bits_are i o =
        let f : ℕ → Bool = λ r. writes m i (m.scope.inputs + r) in
        ext_get_or false (bits (get_or written i 0)) (list_of 32 f) (length-bits (get_or written i 0) ∙ sym (length-list_of f 32))
        (λ r l. same i r o ∙ sym (get_d-list_of f 32 r false (omega (arith, length-bits (get_or written i 0)))))

    mask_is : (i : ℕ) → i < length m.threads → get_or written i 0 ≡ get_or (written_by m) i 0
    unfolding written_by
    mask_is i o =
        sym (mask-bits (get_or written i 0) (small i))
        ∙ ap mask (bits_are i o)
        ∙ sym (get_d-list_of (λ i. mask (list_of 32 (λ r. writes m i (m.scope.inputs + r)))) (length m.threads) i 0 o)

    below-same : (ns ls rs : List ℕ) (q : Plan) (n : ℕ) → n ≤ length m.threads → (ts : List ℕ) →
        fill_below ns ls rs q written n ts ≡ fill_below ns ls rs q (written_by m) n ts
    unfolding fill_below
    below-same ns ls rs q zero h ts = refl
    below-same ns ls rs q (suc n) h ts = rw (mask_is n (omega arith), below-same ns ls rs q n (omega arith) ts)

    rows_same : (ns ls rs : List ℕ) (q : Plan) → q.threads ≡ length m.threads → length m.threads ≤ 8 → (ts : List ℕ) →
        fill_rows ns ls rs q written ts ≡ fill_rows ns ls rs q (written_by m) ts
    unfolding fill_rows
    rows_same ns ls rs q e l ts =
        let n : at_most 8 q.threads ≡ length m.threads = ap (at_most 8) e ∙ most-same 8 (length m.threads) l in
        rw n (below-same ns ls rs q (length m.threads) (omega arith) ts)

    pub lent_same : (ns us rs : List ℕ) (t : Filled) → (plan_of t.plan).threads ≡ length m.threads → length m.threads ≤ 8 →
        us ≡ widths_from m (list_of 4096 (node_at ns)) [] →
        fill_lent ns us rs written t ≡ fill_lent ns (widths_from m (list_of 4096 (node_at ns)) []) rs (written_by m) t
    unfolding fill_lent
    lent_same ns us rs t e l w =
        rw (w, rows_same ns (low_all ns (reach rs) (replicate 4096 0)) rs (plan_of t.plan) e l t.table)

-- ---- the ways

module _ (s ns rs : List ℕ) (t : Filled) where
  abbrev T : Tables
  T = tables_in ns rs

  abbrev pub Answer : ℕ → Filled → Type 0
  Answer n u = (n ≡ prepared_number s ns rs) × (u ≡ prepared s ns rs t)

  pub wrong-nodes : (length ns ≡ 16384 → ⊥) → Answer 23 t
  unfolding prepared_number prepared right_lengths
  wrong-nodes d = rw (ne_eqb (length ns) 16384 d) (refl, refl)

  pub wrong-rows : length ns ≡ 16384 → (length rs ≡ 1056 → ⊥) → Answer 23 t
  unfolding prepared_number prepared right_lengths
  wrong-rows e d = rw (eq-eqb (length ns) 16384 e, ne_eqb (length rs) 1056 d) (refl, refl)

  module _ (e : length ns ≡ 16384) (f : length rs ≡ 1056) where
    pub wrong-sheet : (n : ℕ) → n ≡ number_in (expressions s) → (n ≡ 0 → ⊥) → Answer n t
    unfolding prepared_number prepared right_lengths tables_number filled_or Numbered
    wrong-sheet n q d = rw (eq-eqb (length ns) 16384 e, eq-eqb (length rs) 1056 f) (by (extractable s) (number_same s n q))
      where
        by : (x : Res (Module Expr)) → Numbered x n → (n ≡ tables_number x T) × (t ≡ filled_or s ns rs t x)
        by (ok m) b = absurd (d b)
        by (no k p) b = (b.0, refl)

    module _ (m : Module Expr) (o : extractable s ≡ ok m) where
      pub wrong-tables : tables_fit m T ≡ false → Answer 24 t
      unfolding prepared_number prepared right_lengths tables_number filled_or
      wrong-tables h = rw (eq-eqb (length ns) 16384 e, eq-eqb (length rs) 1056 f, o, h) (refl, refl)

      pub all-filled : (u : Filled) → tables_fit m T ≡ true → u ≡ filled_in s ns rs t m → Answer 0 u
      unfolding prepared_number prepared right_lengths tables_number filled_or
      all-filled u h k = rw (eq-eqb (length ns) 16384 e, eq-eqb (length rs) 1056 f, o, h) (refl, k)

-- ---- as the code has it

-- `fill_lent`: each table by its own call.
pub lent-filled :
    (ws ns us rs written ls ts ms : List ℕ) {count : ℕ} {lows ls' ts' ms' : List ℕ} → count ≡ reach rs → ls' ≡ copy_all ns us count ls →
    lows ≡ low_all ns count (replicate 4096 0) → ms' ≡ number_rows (plan_of ws) ms → ts' ≡ fill_rows ns lows rs (plan_of ws) written ts →
    filled ws ls' ts' ms' ≡ fill_lent ns us rs written (filled ws ls ts ms)
unfolding fill_lent
lent-filled ws ns us rs written ls ts ms a b c d e = rw (b, d, e, c, a)

module _ (s ns rs : List ℕ) (t : Filled) (e : length ns ≡ 16384) (f : length rs ≡ 1056) (r : SheetRead)
    (w : r ≡ sheet_answer (read_sheet (located s) s)) (n : ℕ) (q : n ≡ number_in (expressions s)) (z : n ≡ 0)
    (written : List ℕ) (noted : WrittenBy s r.layout written) (ws : List ℕ) (k : ws ≡ filled_plan s r.layout (replicate 25212 0))
    (u : Bool) (j : u ≡ tables_fit_on (plan_of ws) written ns rs)
  where
    abbrev mine : Own s r
    mine = own s r w n q z

    abbrev m : Module Expr
    m = (trees s mine.sheet).contents

    x : Written m written
    x = noted mine.sheet m mine.place mine.same mine.layout

    here : ws ≡ sheet_plan s
    here = k ∙ ap (λ (l : SheetRead). filled_plan s l.layout (replicate 25212 0)) w

    holds : Holds m (plan_of (sheet_plan s))
    holds = read-holds s m (replicate 25212 0) mine.same (length-replicate {A = ℕ} 25212 0)

    fit_is : u ≡ tables_fit m (tables_in ns rs)
    unfolding JudgedIsFit Writers
    fit_is =
        j
        ∙ ap (λ (l : List ℕ). tables_fit_on (plan_of l) written ns rs) here
        ∙ judged-is-fit m (sound s mine.same) (plan_of (sheet_plan s)) holds written x.writers ns rs

    pub lent-wrong : u ≡ false → Answer s ns rs t 24 t
    lent-wrong h = wrong-tables s ns rs t e f m mine.extractable (sym fit_is ∙ h)

    pub lent-right :
        u ≡ true → (us : List ℕ) → us ≡ width_table (plan_of ws) ns → (v : Filled) →
        v ≡ fill_lent ns us rs written (filled ws t.lent t.table t.numbers) → Answer s ns rs t 0 v
    unfolding filled_in WidthsAreTheNodes
    lent-right h us g v p =
        let y : Filled = filled (sheet_plan s) t.lent t.table t.numbers in
        let fits : tables_fit_on (plan_of (sheet_plan s)) written ns rs ≡ true =
        sym (j ∙ ap (λ (l : List ℕ). tables_fit_on (plan_of l) written ns rs) here) ∙ h in
        let widths : us ≡ widths_from m (list_of 4096 (node_at ns)) [] =
        g
        ∙ ap (λ (l : List ℕ). width_table (plan_of l) ns) here
        ∙ widths-are-the-nodes m (sound s mine.same) (plan_of (sheet_plan s)) holds written ns rs fits in
        all-filled s ns rs t e f m mine.extractable v (sym fit_is ∙ h)
        (p
        ∙ ap (λ (ws : List ℕ). fill_lent ns us rs written (filled ws t.lent t.table t.numbers)) here
        ∙ lent_same m written x.small x.writers ns us rs y holds.threads (sound s mine.same).threads-most widths)
