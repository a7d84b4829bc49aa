-- For an accepted sheet, and the tables that are filled from it, the witness that the code finds is the module's; a sheet that isn't read
-- has its number. Assumes nothing.
use mathlib.Core.Path.{◌≡◌, refl, sym, ap, ◌∙◌}
use mathlib.Core.Bool.{Bool}
use mathlib.Core.List.{List}
use Prim.Native.Nat.{ℕ}
use lib.ListN.{length, replicate, length-replicate}
use Rattle.sheet.specs.declared.Layout.{Layout}
use Rattle.sheet.specs.declared.SheetRead.{SheetRead}
use Rattle.sheet.specs.Reading.{Res, ok, no}
use Rattle.sheet.specs.Expression.{Expr, located}
use Rattle.sheet.specs.Module.{widths_at, Module, Sheet, read_sheet, read}
use Rattle.sheet.specs.Answers.{definitions_of, sheet_answer, starts_of, layout_of}
use Rattle.sheet.proofs.Trees.{read-located, map_res, trees}
use Rattle.sheet.proofs.Closed.{unfunctioned}
use Rattle.pseudocode.specs.Compiling.{compile_at}
use Rattle.soundness.specs.Soundness.{Sound}
use Rattle.soundness.proofs.Soundness.{sound}
use Rattle.nextstate.specs.Rules.{starts_running, runs_away}
use Rattle.tables.specs.Readers.{at_most, readers_below}
use Rattle.tables.specs.Holding.{Holding}
use Rattle.tables.proofs.Readers.{at_most-same}
use Rattle.tables.proofs.Holding.{holding-filled}
use Rattle.rules.specs.Writers.{plain_below, later_below}
use Rattle.rules.specs.Reading.{reading_below}
use Rattle.rules.specs.Walking.{starts_running_from, runs_away_from}
use Rattle.rules.proofs.Expressions.{Expressions, expressed}
use Rattle.rules.proofs.Rules.{two-law, both-law, shared-law, other-law, clock-law, upward-law, many-law, starts-law, away-law, scope-same, wires-same, threads-same}
use Rattle.extraction.proofs.Placing.{AllFetched, fetched}
use Rattle.extraction.proofs.Extracting.{accepted}
use Rattle.witness.specs.declared.Witness.{Witness}
use Rattle.witness.specs.declared.BodyTest.TheVariants.{Running, Away}
use Rattle.witness.specs.Witness.{lowest, bare, a_place, higher_witness, witness, witness_in, witnessed, running_thread, runaway_thread}
use Rattle.witness.specs.Seeking.{by_body, last_at, higher_at, witness_at, filled_at}
use Rattle.witness.proofs.Marks.{shape, double-same, both-same, shared_same, upward-same}
use Rattle.witness.proofs.Codes.{pick_same, odd-same, clock-same, surplus-same, overflow-same}
use Rattle.witness.proofs.Bodies.{running-same, away-same}

-- ---- filled_at, from what the code's calls give

pub filled-path : (s : List ℕ) (l : Layout) (code sizes readers : List ℕ) {r : Witness} {ps ls reading : List ℕ}
    → ps ≡ plain_below s code sizes l.inputs (at_most 8 l.threads) (replicate 8 0)
    → ls ≡ later_below s code sizes l.inputs (at_most 8 l.threads) (replicate 8 0)
    → reading ≡ reading_below s l.definitions code sizes (at_most 8 l.threads) (replicate 80 0)
    → r ≡ witness_at s l code sizes readers ps ls reading → r ≡ filled_at s l code sizes readers
unfolding filled_at
filled-path s l code sizes readers p q t e = e ∙ λ i. witness_at s l code sizes readers (p i) (q i) (t i)

-- ---- an accepted sheet's tables

module _ {s ds : List ℕ} {m : Module Expr} {starts sizes code readers : List ℕ} {watched : List Bool}
    (z : Sound m) (h : Holding s m starts sizes code readers watched) (e : Expressions s ds m code) (fetches : AllFetched s code m)
    (none : m.scope.declared ≡ 0) (places : List ℕ) (body : ℕ) where
  witness-shape : starts_running_from s ds (length m.threads) body ≡ starts_running m → runs_away_from s ds (length m.threads) body ≡ runs_away m
      → a_place 16 (lowest (length m.threads) (by_body s ds body Running)) 0 ≡ running_thread m
      → a_place 17 (lowest (length m.threads) (by_body s ds body Away)) 0 ≡ runaway_thread m
      → filled_at s (shape m ds places body) code sizes readers ≡ witness m
  unfolding filled_at witness_at higher_at last_at witness higher_witness
  witness-shape starts away running runaway =
      rw (at_most-same 8 (length m.threads) z.threads-most)
      (pick_same (two-law z h e) (λ y. double-same z h e places body)
      (λ y. pick_same (both-law z h e) (λ y. both-same z h e places body)
      (λ y. pick_same (shared-law z h e) (λ y. shared_same z h e places body)
      (λ y. pick_same (other-law z h e) (odd-same z h e places body)
      (λ y. pick_same starts (λ y. running)
      (λ y. pick_same away (λ y. runaway)
      (λ y. pick_same (clock-law z h e) (λ y. clock-same z h e places body)
      (λ y. pick_same (upward-law z h e) (upward-same z h e places body)
      (λ y. pick_same (many-law z h e) (surplus-same z h e places body)
      (λ y. overflow-same z h e places body fetches none y))))))))))

-- ---- an accepted sheet

module _ (s : List ℕ) (x : Sheet ℕ) (m : Module Expr) (h : read_sheet (located s) s ≡ ok x) (e : read s ≡ ok m) where
  abbrev ds : List ℕ
  ds = definitions_of x.definitions

  same_shape : layout_of x ≡ shape m ds (starts_of x.contents.wires) x.body
  unfolding layout_of
  same_shape =
      λ i.
      record {
        inputs = (scope-same s x m h e i).inputs;
        registers = (scope-same s x m h e i).registers;
        wires = wires-same s x m h e i;
        threads = threads-same s x m h e i;
        functions = (scope-same s x m h e i).declared;
        widths = widths_at (scope-same s x m h e i).declared;
        definitions = ds;
        starts = starts_of x.contents.wires;
        body = x.body;
      }

  pub witness-law : (code : List ℕ) → length code ≡ 4096
      → let c = compile_at s ds (length x.contents.threads) x.body code in
      filled_at s (layout_of x) c.code c.sizes
      (readers_below s ds (starts_of x.contents.wires) (at_most 32 (length x.contents.wires)) (replicate 80 0))
      ≡ witness m
  unfolding running_thread runaway_thread
  witness-law code long =
      let c = compile_at s ds (length x.contents.threads) x.body code in
      let rs = readers_below s ds (starts_of x.contents.wires) (at_most 32 (length x.contents.wires)) (replicate 80 0) in
      ap (λ (l : Layout). filled_at s l c.code c.sizes rs) same_shape
      ∙ witness-shape (sound s e) (holding-filled s x m h e code long) (expressed s code x m h e long) (fetched s code x h long m e)
      (ap (λ c. c.declared) (sym (scope-same s x m h e)) ∙ (unfunctioned (located s) s h).0) (starts_of x.contents.wires) x.body (starts-law s x m h e) (away-law s x m h e)
      (ap (λ (i : ℕ). a_place 16 i 0) (running-same s x m h e)) (ap (λ (i : ℕ). a_place 17 i 0) (away-same s x m h e))

-- ---- the ways through `witness_of`

module _ (s : List ℕ) (r : SheetRead) (given : r ≡ sheet_answer (read_sheet (located s) s)) where
  pub witness-refused : (r.number ≡ 0 → ⊥) → {w : Witness} → w ≡ bare r.number → w ≡ witnessed s
  unfolding witnessed witness_in sheet_answer map_res
  witness-refused some {w} e = by (read_sheet (located s) s) refl
    where
      by : (x : Res (Sheet ℕ)) → read_sheet (located s) s ≡ x → w ≡ witnessed s
      by (ok x) h = absurd (some (rw (given, h) refl))
      by (no n p) h = e ∙ rw (rw h at (read-located s)) (rw (given, h) refl)

  pub witness-read : r.number ≡ 0 → (code sizes readers : List ℕ)
      → code ≡ (compile_at s r.layout.definitions r.layout.threads r.layout.body (replicate 4096 0)).code
      → sizes ≡ (compile_at s r.layout.definitions r.layout.threads r.layout.body (replicate 4096 0)).sizes
      → readers ≡ readers_below s r.layout.definitions r.layout.starts (at_most 32 r.layout.wires) (replicate 80 0)
      → {w : Witness} → w ≡ filled_at s r.layout code sizes readers → w ≡ witnessed s
  unfolding witnessed witness_in layout_of
  witness-read fine code sizes readers code_is sizes-are readers-are e =
      let it = accepted s r given fine in
      e
      ∙ (λ i. filled_at s r.layout (code_is i) (sizes-are i) (readers-are i))
      ∙ (λ i. let y = it.layout i in
      filled_at s y (compile_at s y.definitions y.threads y.body (replicate 4096 0)).code (compile_at s y.definitions y.threads y.body (replicate 4096 0)).sizes
      (readers_below s y.definitions y.starts (at_most 32 y.wires) (replicate 80 0)))
      ∙ rw it.read_as
      (witness-law s it.sheet-read (trees s it.sheet-read).contents it.located-as it.read_as (replicate 4096 0) (length-replicate {A = ℕ} 4096 0))
