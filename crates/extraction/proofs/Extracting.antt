-- Extraction's answers on an accepted sheet and on a refused one: each way through `fill`, `expressions` and `extract` is a law.
-- Assumes nothing.
use mathlib.Core.Path.{◌≡◌, refl, sym, ap, ◌∙◌}
use mathlib.Core.Bool.{Bool, true, false}
use mathlib.Core.List.{List}
use Prim.Native.Nat.{ℕ, suc, ◌+◌, ◌≤◌, ◌<◌}
use native.Mathlib.Nat.{le_refl}
use native.Mathlib.Decide.{ℕ_discrete}
use native.Mathlib.Omega.{arith}
use lib.ListN.{length, replicate, length-map, length-replicate}
use borrow.Author.Tests.{ltb-false, eq-eqb, ne_eqb}
use Rattle.values.specs.Values.{pick}
use Rattle.sheet.specs.declared.Layout.{Layout}
use Rattle.sheet.specs.declared.SheetRead.{SheetRead}
use Rattle.sheet.specs.Reading.{Res, ok, no}
use Rattle.sheet.specs.Expression.{Expr, located, expr_at}
use Rattle.sheet.specs.Statement.{map_stmt}
use Rattle.sheet.specs.Module.{Module, map_module, Sheet, read_sheet, read}
use Rattle.sheet.specs.Answers.{definitions_of, sheet_answer, layout_of}
use Rattle.sheet.proofs.Numbers.{numbered-no, located-numbered, sheet-numbered}
use Rattle.sheet.proofs.Trees.{read-located, map_res, trees}
use Rattle.sheet.proofs.Closed.{unfunctioned}
use Rattle.soundness.proofs.Soundness.{sound}
use Rattle.pseudocode.specs.Compiling.{compile_at}
use Rattle.events.specs.Cycle.{code_of}
use Rattle.tables.specs.Readers.{at_most, readers_below}
use Rattle.tables.proofs.Readers.{at_most-same}
use Rattle.tables.proofs.Holding.{module-same, holding-filled}
use Rattle.rules.specs.Writers.{plain_below, later_below}
use Rattle.rules.specs.Judging.{rule_at}
use Rattle.rules.proofs.Writing.{plain-law, later-law}
use Rattle.rules.proofs.Rules.{rule-law}
use Rattle.nextstate.specs.Rules.{two_writers, both_ways, plainly_shared, other_wait, starts_running, runs_away}
use Rattle.nextstate.specs.Rules.{clock_read, reads_upward, many_waits, waits_below, rule}
use Rattle.nextstate.proofs.Numbers as numbers
use Rattle.nextstate.specs.Extraction.{Tables, threads_below, extracted, expressions, Extracted, filled, right_lengths, extract}
use Rattle.extraction.specs.declared.Extent.{Extent}
use Rattle.extraction.specs.Filling.{Filling, filling, extent, variables_below, threads_below_at}
use Rattle.extraction.specs.Extracting.{fill_at, Answers, number_in}
use Rattle.extraction.proofs.Placing.{fetched}
use Rattle.extraction.proofs.Rows.{Fills, spilled, threads-filled}
use Rattle.extraction.proofs.Rows as the-rows

-- ---- fill

pub fill-path : (s : List ℕ) (y : Layout) (code sizes l rs : List ℕ) {x : Filling} {ps qs la : List ℕ} {i g w n k : ℕ}
    → ps ≡ plain_below s code sizes y.inputs (at_most 8 y.threads) (replicate 8 0)
    → qs ≡ later_below s code sizes y.inputs (at_most 8 y.threads) (replicate 8 0)
    → i ≡ y.inputs → g ≡ y.registers → w ≡ y.wires → n ≡ i + g + w → la ≡ variables_below n l → k ≡ at_most 8 y.threads
    → x ≡ threads_below_at s code sizes y.inputs y.registers ps qs k (filling (extent n 0) la rs)
    → x ≡ fill_at s y code sizes l rs
unfolding fill_at
fill-path s y code sizes l rs {n = n} {k} p q i g w e v t h =
    let m = e ∙ (λ j. i j + g j + w j) in
    h
    ∙ (λ j. threads_below_at s code sizes y.inputs y.registers (p j) (q j) (t j) (filling (extent n 0) (v j) rs))
    ∙ (λ j. threads_below_at s code sizes y.inputs y.registers
    (plain_below s code sizes y.inputs (at_most 8 y.threads) (replicate 8 0))
    (later_below s code sizes y.inputs (at_most 8 y.threads) (replicate 8 0))
    (at_most 8 y.threads) (filling (extent (m j) 0) (variables_below (m j) l) rs))

-- ---- the rules are kept: "20 over 32 waits" among them

pick-rest : (b : Bool) (k r : ℕ) → pick b (suc k) r ≡ 0 → r ≡ 0
pick-rest true k r e = absurd (omega arith)
pick-rest false k r e = e

last-kept : (b : Bool) → ◌≡◌ {A = ℕ} (pick b 20 0) 0 → b ≡ false
last-kept true e = absurd (omega arith)
last-kept false e = refl

few-waits : (m : Module Expr) → rule m ≡ 0 → waits_below m (length m.threads) ≤ 32
unfolding rule many_waits
few-waits m e =
    ltb-false 32 (waits_below m (length m.threads))
    (last-kept (many_waits m)
    (pick-rest (reads_upward m) 18 _
    (pick-rest (clock_read m) 17 _
    (pick-rest (runs_away m) 16 _
    (pick-rest (starts_running m) 15 _
    (pick-rest (other_wait m) 14 _
    (pick-rest (plainly_shared m) 13 _ (pick-rest (both_ways m) 12 _ (pick-rest (two_writers m) 11 _ e)))))))))

-- ---- an accepted sheet

module _ (s code : List ℕ) (x : Sheet ℕ) (m : Module Expr) (h : read_sheet (located s) s ≡ ok x) (e : read s ≡ ok m) (long : length code ≡ 4096) where
  abbrev compiled-code : List ℕ
  compiled-code = (compile_at s (definitions_of x.definitions) (length x.contents.threads) x.body code).code

  abbrev compiled-sizes : List ℕ
  compiled-sizes = (compile_at s (definitions_of x.definitions) (length x.contents.threads) x.body code).sizes

  same-scope : x.contents.scope ≡ m.scope
  unfolding trees map_module
  same-scope = ap (λ (n : Module Expr). n.scope) (module-same s x m h e)

  same-wires : length x.contents.wires ≡ length m.wires
  unfolding trees map_module
  same-wires = sym (length-map x.contents.wires (expr_at s x.contents.scope)) ∙ ap (λ (n : Module Expr). length n.wires) (module-same s x m h e)

  same-threads : length x.contents.threads ≡ length m.threads
  unfolding trees map_module
  same-threads =
      sym (length-map x.contents.threads (map_stmt (expr_at s x.contents.scope)))
      ∙ ap (λ (n : Module Expr). length n.threads) (module-same s x m h e)

  pub fills : rule m ≡ 0 → Fills (fill_at s (layout_of x) compiled-code compiled-sizes (replicate 16384 0) (replicate 1056 0))
      (waits_below m (length m.threads)) (threads_below m (length m.threads))
  unfolding fill_at layout_of code_of
  fills kept =
      let z = sound s e in
      let all = holding-filled s x m h e code long in
      let n = length m.threads in
      let none : m.scope.declared ≡ 0 = rw same-scope at (unfunctioned (located s) s h).0 in
      rw (same-threads, at_most-same 8 n z.threads-most, same-scope, same-wires)
      (threads-filled m z none s compiled-code (fetched s code x h long m e)
      (plain_below s compiled-code compiled-sizes m.scope.inputs n (replicate 8 0))
      (later_below s compiled-code compiled-sizes m.scope.inputs n (replicate 8 0))
      (plain-law z all (replicate 8 0) refl) (later-law z all (replicate 8 0) refl)
      compiled-sizes all.size (m.scope.inputs + m.scope.registers + length m.wires) z.variables (few-waits m kept) n (le_refl n))

-- ---- the ways through `expressions`

-- Tables that were filled, or had no room.
answer-fills : {x : Filling} {q : ℕ} {o : Res Tables} (e : Extent) (ns rs : List ℕ) → Fills x q o → filling e ns rs ≡ x → e.nodes ≤ 4096 → Answers o 0 ns rs
unfolding Answers
answer-fills e ns rs (the-rows.filled v) g room =
    let h = g ∙ v.same in
    (refl, ap (λ (x : Filling). x.words) h, ap (λ (x : Filling). x.rows) h)
answer-fills e ns rs (spilled f) g room = absurd (omega (arith, ap (λ (x : Filling). x.extent.nodes) g))

answer-spills : {x : Filling} {q : ℕ} {o : Res Tables} (e : Extent) (ns rs : List ℕ) → Fills x q o → filling e ns rs ≡ x → 4096 < e.nodes → Answers o 21 ns rs
unfolding Answers
answer-spills e ns rs (the-rows.filled v) g over =
    let h = ap (λ (x : Filling). x.extent.nodes) (g ∙ v.same) in
    let room = v.room in
    absurd (omega arith)
answer-spills e ns rs (spilled f) g over = (refl, omega arith)

module _ (s : List ℕ) (r : SheetRead) (given : r ≡ sheet_answer (read_sheet (located s) s)) where
  pub answer-refused : (ns rs : List ℕ) → (r.number ≡ 0 → ⊥) → Answers (expressions s) r.number ns rs
  unfolding expressions Answers sheet_answer map_res
  answer-refused ns rs no_zero = by (read_sheet (located s) s) refl
    where
      by : (x : Res (Sheet ℕ)) → read_sheet (located s) s ≡ x → Answers (expressions s) r.number ns rs
      by (ok x) h = absurd (no_zero (rw (given, h) refl))
      by (no n p) h =
          let l = numbered-no (sheet-numbered (located s) (located-numbered s) s) h in
          rw (rw h at (read-located s)) (rw (given, h) refl, l.0)

  -- An accepted sheet and its module.
  pub record Accepted : Type 0 where
    pub sheet-read : Sheet ℕ
    pub located-as : read_sheet (located s) s ≡ ok sheet-read
    pub read_as : read s ≡ ok (trees s sheet-read).contents
    pub layout : r.layout ≡ layout_of sheet-read

  pub accepted : r.number ≡ 0 → Accepted
  unfolding sheet_answer map_res
  accepted zero_number = by (read_sheet (located s) s) refl
    where
      by : (x : Res (Sheet ℕ)) → read_sheet (located s) s ≡ x → Accepted
      by (ok x) h = record { sheet-read = x; located-as = h; read_as = rw h at (read-located s); layout = rw (given, h) refl }
      by (no n p) h =
          let l = numbered-no (sheet-numbered (located s) (located-numbered s) s) h in
          let e : r.number ≡ n = rw (given, h) refl in
          absurd (omega (arith, l.0))

  module _ (fine : r.number ≡ 0) (code sizes readers : List ℕ) (broken : ℕ)
      (code_is : code ≡ (compile_at s r.layout.definitions r.layout.threads r.layout.body (replicate 4096 0)).code)
      (sizes-are : sizes ≡ (compile_at s r.layout.definitions r.layout.threads r.layout.body (replicate 4096 0)).sizes)
      (readers-are : readers ≡ readers_below s r.layout.definitions r.layout.starts (at_most 32 r.layout.wires) (replicate 80 0))
      (judged : broken ≡ rule_at s r.layout code sizes readers) where
    abbrev it : Accepted
    it = accepted fine

    abbrev m : Module Expr
    m = (trees s it.sheet-read).contents

    long : length (replicate {A = ℕ} 4096 0) ≡ 4096
    long = length-replicate {A = ℕ} 4096 0

    broken-rule : broken ≡ rule m
    unfolding layout_of
    broken-rule =
        judged
        ∙ (λ i. rule_at s r.layout (code_is i) (sizes-are i) (readers-are i))
        ∙ (λ i. let y = it.layout i in
        rule_at s y (compile_at s y.definitions y.threads y.body (replicate 4096 0)).code (compile_at s y.definitions y.threads y.body (replicate 4096 0)).sizes
        (readers_below s y.definitions y.starts (at_most 32 y.wires) (replicate 80 0)))
        ∙ rule-law s it.sheet-read m it.located-as it.read_as (replicate 4096 0) long

    pub answer-broken : (ns rs : List ℕ) → (broken ≡ 0 → ⊥) → Answers (expressions s) broken ns rs
    unfolding expressions extracted Answers
    answer-broken ns rs no_zero =
        let e = broken-rule in
        let n : rule m ≡ 0 → ⊥ = λ z. no_zero (e ∙ z) in
        rw (it.read_as, ne_eqb (rule m) 0 n) (e, omega arith)

    module _ (kept : broken ≡ 0) (e : Extent) (ns rs : List ℕ) {l k : List ℕ} (no-nodes : l ≡ replicate 16384 0) (no_rows : k ≡ replicate 1056 0)
        (done : filling e ns rs ≡ fill_at s r.layout code sizes l k) where
      filled-as : filling e ns rs
          ≡ fill_at s (layout_of it.sheet-read)
          (compile_at s (definitions_of it.sheet-read.definitions) (length it.sheet-read.contents.threads) it.sheet-read.body (replicate 4096 0)).code
          (compile_at s (definitions_of it.sheet-read.definitions) (length it.sheet-read.contents.threads) it.sheet-read.body (replicate 4096 0)).sizes
          (replicate 16384 0) (replicate 1056 0)
      unfolding layout_of
      filled-as =
          done
          ∙ (λ i. fill_at s r.layout (code_is i) (sizes-are i) (no-nodes i) (no_rows i))
          ∙ (λ i. let y = it.layout i in
          fill_at s y (compile_at s y.definitions y.threads y.body (replicate 4096 0)).code (compile_at s y.definitions y.threads y.body (replicate 4096 0)).sizes
          (replicate 16384 0) (replicate 1056 0))

      keeps : rule m ≡ 0
      keeps = sym broken-rule ∙ kept

      pub answer-filled : e.nodes ≤ 4096 → Answers (expressions s) 0 ns rs
      unfolding expressions extracted
      answer-filled room =
          rw (it.read_as, eq-eqb (rule m) 0 keeps)
          (answer-fills e ns rs (fills s (replicate 4096 0) it.sheet-read m it.located-as it.read_as long keeps) filled-as room)

      pub answer-spilled : 4096 < e.nodes → Answers (expressions s) 21 ns rs
      unfolding expressions extracted
      answer-spilled over =
          rw (it.read_as, eq-eqb (rule m) 0 keeps)
          (answer-spills e ns rs (fills s (replicate 4096 0) it.sheet-read m it.located-as it.read_as long keeps) filled-as over)

-- ---- the number alone

pub number-in : (o : Res Tables) (n : ℕ) (ns rs : List ℕ) → Answers o n ns rs → n ≡ number_in o
unfolding Answers number_in
number-in (ok T) n ns rs a = a.0
number-in (no k p) n ns rs a = a.0

-- A sheet that is refused has a number from 1 on.
module _ (s ns rs : List ℕ) (nodes : length ns ≡ 16384) (rows : length rs ≡ 1056) {n p : ℕ} (h : expressions s ≡ no n p) where
  zero_number : n ≡ 0 → (extract s ns rs).number ≡ 0
  unfolding extract right_lengths filled
  zero_number z = rw (eq-eqb (length ns) 16384 nodes, eq-eqb (length rs) 1056 rows, h) z

  never-zero : n ≡ 0 → ⊥
  unfolding expressions
  never-zero z =
      let a = numbers.accepted s ns rs (zero_number z) in
      let e : no n p ≡ ok a.tables = rw (a.reads, a.extracts) at (sym h) in
      let o : ◌≡◌ {A = ℕ} 0 1 = cc in omega arith

pub refused-some : (s : List ℕ) {n p : ℕ} → expressions s ≡ no n p → 1 ≤ n
refused-some s {n} h = by (ℕ_discrete n 0)
  where
    by : Dec (n ≡ 0) → 1 ≤ n
    by (yes z) =
        absurd
        (never-zero s (replicate 16384 0) (replicate 1056 0) (length-replicate {A = ℕ} 16384 0) (length-replicate {A = ℕ} 1056 0) h z)
    by (Prim.no z) = omega arith

-- ---- the ways through `extract`

-- The three parts of an answer.
abbrev pub Extracts : List ℕ → List ℕ → List ℕ → ℕ → List ℕ → List ℕ → Type 0
Extracts s ns rs n a b = (n ≡ (extract s ns rs).number) × ((a ≡ (extract s ns rs).nodes) × (b ≡ (extract s ns rs).rows))

extracts : (s ns rs : List ℕ) {n : ℕ} {a b : List ℕ} → extract s ns rs ≡ record { number = n; nodes = a; rows = b } → Extracts s ns rs n a b
extracts s ns rs e =
    (sym (ap (λ (x : Extracted). x.number) e), (sym (ap (λ (x : Extracted). x.nodes) e), sym (ap (λ (x : Extracted). x.rows) e)))

filled-refused : (o : Res Tables) (ns rs : List ℕ) (n : ℕ) (a b : List ℕ) → Answers o n a b → (n ≡ 0 → ⊥)
    → filled o ns rs ≡ record { number = n; nodes = ns; rows = rs }
unfolding Answers filled
filled-refused (ok T) ns rs n a b x h = absurd (h x.0)
filled-refused (no k p) ns rs n a b x h = λ i. record { number = sym x.0 i; nodes = ns; rows = rs }

filled-done : (o : Res Tables) (ns rs : List ℕ) (n : ℕ) (a b : List ℕ) → Answers o n a b → n ≡ 0
    → filled o ns rs ≡ record { number = 0; nodes = a; rows = b }
unfolding Answers filled
filled-done (ok T) ns rs n a b x h = λ i. record { number = 0; nodes = sym x.1 i; rows = sym x.2 i }
filled-done (no k p) ns rs n a b x h = absurd (omega (arith, x.0, x.1))

module _ (s ns rs : List ℕ) where
  pub extract-nodes : (length ns ≡ 16384 → ⊥) → Extracts s ns rs 23 ns rs
  unfolding extract right_lengths
  extract-nodes h = extracts s ns rs (simp (ne_eqb (length ns) 16384 h))

  module _ (nodes : length ns ≡ 16384) where
    pub extract-rows : (length rs ≡ 1056 → ⊥) → Extracts s ns rs 23 ns rs
    unfolding extract right_lengths
    extract-rows h = extracts s ns rs (simp (eq-eqb (length ns) 16384 nodes, ne_eqb (length rs) 1056 h))

    module _ (rows : length rs ≡ 1056) where
      right : extract s ns rs ≡ filled (expressions s) ns rs
      unfolding extract right_lengths
      right = simp (eq-eqb (length ns) 16384 nodes, eq-eqb (length rs) 1056 rows)

      pub extract-refused : (n : ℕ) (a b : List ℕ) → Answers (expressions s) n a b → (n ≡ 0 → ⊥) → Extracts s ns rs n ns rs
      extract-refused n a b x h = extracts s ns rs (right ∙ filled-refused (expressions s) ns rs n a b x h)

      pub extract-done : (n : ℕ) (a b : List ℕ) → Answers (expressions s) n a b → n ≡ 0 → (c d : List ℕ) → c ≡ a → d ≡ b → Extracts s ns rs 0 c d
      extract-done n a b x h c d e f =
          extracts s ns rs (right ∙ filled-done (expressions s) ns rs n a b x h ∙ (λ i. record { number = 0; nodes = sym e i; rows = sym f i }))
