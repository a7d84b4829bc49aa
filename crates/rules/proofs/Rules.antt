-- Extraction's rules on an accepted sheet's bytes and tables are the module's: numbers 12 to 20, and the lowest that is broken.
-- Assumes nothing.
use mathlib.Core.Path.{◌≡◌, refl, sym, ap, ◌∙◌}
use mathlib.Core.Bool.{Bool, true, false, not, ◌&&◌, ◌||◌}
use mathlib.Core.List.{List, [], ◌∷◌, map}
use Prim.Native.Nat.{ℕ, zero, suc, ◌+◌, ◌≤◌, ◌<◌}
use native.Mathlib.Nat.{le_refl}
use native.Mathlib.Omega.{arith}
use borrow.Author.Tests.{lt-ltb, ne_eqb}
use lib.Dec.{ltb, leb, eqb}
use lib.ListN.{length, get_or, set, replicate, length-map}
use Rattle.values.specs.Values.{pick}
use Rattle.sheet.specs.declared.Layout.{Layout}
use Rattle.sheet.specs.Reading.{ok}
use Rattle.sheet.specs.Expression.{Expr, located, expr_at}
use Rattle.sheet.specs.Statement.{Stmt, map_stmt}
use Rattle.sheet.specs.Module.{Module, map_module, Sheet, read_sheet, read}
use Rattle.sheet.specs.Answers.{definitions_of, starts_of, layout_of}
use Rattle.sheet.proofs.Trees.{trees}
use Rattle.pseudocode.specs.declared.Instruction.{Instruction}
use Rattle.pseudocode.specs.Translation.{Instr}
use Rattle.pseudocode.specs.Instruction.{terms_of}
use Rattle.pseudocode.specs.Compiling.{compile_at}
use Rattle.pseudocode.proofs.Skipping.{Counted}
use Rattle.pseudocode.proofs.Compiling.{sheet-counted}
use Rattle.masks.specs.Masks.{bits, any_mark}
use Rattle.soundness.specs.Soundness.{Sound}
use Rattle.soundness.proofs.Soundness.{sound}
use Rattle.events.specs.Cycle.{any_below, code_of, is_wait, wire_expr, wire_variable}
use Rattle.events.proofs.Cycle.{any_same}
use Rattle.nextstate.specs.Rules.{plain_writes, defers, writes, thread_reads, wire_reads, some_thread, some_wire, some_register, read_elsewhere, clock_edge, other_wait_at, any_instr}
use Rattle.nextstate.specs.Rules.{loops_wait, body_of, one, waits_before, waits_below}
use Rattle.nextstate.specs.Rules.{two_writers, both_ways, plainly_shared, other_wait, starts_running, runs_away, clock_read, reads_upward, many_waits, rule}
use Rattle.tables.specs.Readers.{at_most, readers_below}
use Rattle.tables.specs.Holding.{Holding, Fetched, a-wait, a-set, a-later, a-go, an-ifnot}
use Rattle.tables.proofs.Readers.{at_most-same}
use Rattle.tables.proofs.Holding.{module-same, holding-filled}
use Rattle.rules.specs.Writers.{plain_below, later_below}
use Rattle.rules.specs.Reading.{reading_below}
use Rattle.rules.specs.Walking.{starts_running_from, runs_away_from}
use Rattle.rules.specs.Judging.{marked, entry, size_of, writes_at, other_writes, written_again, writes_too, written_twice, two_writers_at}
use Rattle.rules.specs.Judging.{written_by, written_both, both_ways_at, read_elsewhere_at, shared_by, shared_at, plainly_shared_at}
use Rattle.rules.specs.Judging.{other_wait_of, other_wait_in, other_wait_below, clock_read_at, upward_at, reads_above, reads_upward_at}
use Rattle.rules.specs.Judging.{wait_of, waits_in, waits_of, many_waits_at, higher_rule, tables_of, lowest_rule, rule_at}
use Rattle.rules.proofs.Tests.{any-and, any-marks, mark-clear, clear-past}
use Rattle.rules.proofs.Writing.{size-of, any-fetched, plain-law, later-law}
use Rattle.rules.proofs.Expressions.{Expressions, expressed, threads-of}
use Rattle.rules.proofs.Reading.{Reading, reading-law}
use Rattle.rules.proofs.Walking.{runs_at, away_at, starts-read, away-read}

-- ---- rule_at, from what the code's calls give

pub rule-path : (s : List ℕ) (l : Layout) (code sizes readers : List ℕ) {r : ℕ} {ps ls reading : List ℕ}
    → ps ≡ plain_below s code sizes l.inputs (at_most 8 l.threads) (replicate 8 0)
    → ls ≡ later_below s code sizes l.inputs (at_most 8 l.threads) (replicate 8 0)
    → reading ≡ reading_below s l.definitions code sizes (at_most 8 l.threads) (replicate 80 0)
    → r ≡ lowest_rule (tables_of s l code sizes readers ps ls reading) → r ≡ rule_at s l code sizes readers
unfolding rule_at
rule-path s l code sizes readers p q t e = e ∙ λ i. lowest_rule (tables_of s l code sizes readers (p i) (q i) (t i))

-- ---- the tables' entries

marked-at : (ms : List ℕ) (i r : ℕ) → i < 8 → marked ms i r ≡ get_or (bits (get_or ms i 0)) r false
unfolding marked
marked-at ms i r h = simp (lt-ltb i 8 h)

pub entry_at : (rs : List ℕ) (v : ℕ) → v < 80 → entry rs v ≡ get_or rs v 0
unfolding entry
entry_at rs v h = simp (lt-ltb v 80 h)

pub size_of-at : (sizes : List ℕ) (i : ℕ) → i < 8 → size_of sizes i ≡ at_most 256 (get_or sizes i 0)
unfolding size_of
size_of-at sizes i h = simp (lt-ltb i 8 h)

and-swap : (a b c : Bool) → (a && (b && c)) ≡ (b && (a && c))
and-swap true b c = refl
and-swap false true c = refl
and-swap false false c = refl

-- ---- waits, by the instruction that was fetched

module _ {s ws : List ℕ} where
  pub other-fetched : {x : Instr Expr} {y : Instruction} → Fetched s ws x y → other_wait_of y ≡ other_wait_at x
  unfolding other_wait_of other_wait_at clock_edge terms_of
  other-fetched (a-wait {ts = []} h) = refl
  other-fetched (a-wait {ts = t ∷ []} h) = refl
  other-fetched (a-wait {ts = t ∷ u ∷ ts} h) = rw (ne_eqb (suc (suc (length ts))) 1 (λ e. omega arith))
  other-fetched (a-set q) = refl
  other-fetched (a-later q) = refl
  other-fetched a-go = refl
  other-fetched (an-ifnot q) = refl

  wait-fetched : {x : Instr Expr} {y : Instruction} → Fetched s ws x y → wait_of y ≡ one (is_wait x)
  unfolding wait_of one is_wait
  wait-fetched (a-wait h) = refl
  wait-fetched (a-set q) = refl
  wait-fetched (a-later q) = refl
  wait-fetched a-go = refl
  wait-fetched (an-ifnot q) = refl

-- ---- the rules, each on an accepted sheet's tables

module _ {s ds : List ℕ} {m : Module Expr} {starts sizes code readers : List ℕ} {watched : List Bool}
    (z : Sound m) (h : Holding s m starts sizes code readers watched) (e : Expressions s ds m code) where
  abbrev inputs : ℕ
  inputs = m.scope.inputs

  abbrev registers : ℕ
  registers = m.scope.registers

  abbrev wires : ℕ
  wires = length m.wires

  abbrev threads : ℕ
  threads = length m.threads

  abbrev ps : List ℕ
  ps = plain_below s code sizes m.scope.inputs (length m.threads) (replicate 8 0)

  abbrev ls : List ℕ
  ls = later_below s code sizes m.scope.inputs (length m.threads) (replicate 8 0)

  abbrev reading : List ℕ
  reading = reading_below s ds code sizes (length m.threads) (replicate 80 0)

  pub low : (i : ℕ) → i < threads → i < 8
  low i l = omega (arith, z.threads-most)

  pub marks-plain : (i r : ℕ) → i < threads → marked ps i r ≡ plain_writes m i (inputs + r)
  marks-plain i r l = marked-at ps i r (low i l) ∙ plain-law z h (replicate 8 0) refl i r l

  pub marks-later : (i r : ℕ) → i < threads → marked ls i r ≡ defers m i (inputs + r)
  marks-later i r l = marked-at ls i r (low i l) ∙ later-law z h (replicate 8 0) refl i r l

  -- ---- 12

  pub marks-both : (i r : ℕ) → i < threads → writes_at ps ls i r ≡ writes m i (inputs + r)
  unfolding writes_at writes
  marks-both i r l = λ j. (marks-plain i r l j || marks-later i r l j)

  pub again : (i r : ℕ) → i < threads
      → writes_too ps ls threads r i
      ≡ any_below threads (λ j. not (eqb i j) && (writes m i (inputs + r) && writes m j (inputs + r)))
  unfolding writes_too written_again other_writes
  again i r l =
      ap (λ t. t && any_below threads (other_writes ps ls i r)) (marks-both i r l)
      ∙ any-and (writes m i (inputs + r)) (other_writes ps ls i r) threads
      ∙ any_same (λ j. writes m i (inputs + r) && other_writes ps ls i r j)
      (λ j. not (eqb i j) && (writes m i (inputs + r) && writes m j (inputs + r))) threads
      (λ j k. ap (λ t. writes m i (inputs + r) && (not (eqb i j) && t)) (marks-both j r k)
      ∙ and-swap (writes m i (inputs + r)) (not (eqb i j)) (writes m j (inputs + r)))

  pub two-law : two_writers_at ps ls threads registers ≡ two_writers m
  unfolding two_writers_at written_twice two_writers some_register some_thread
  two-law =
      any_same (written_twice ps ls threads)
      (λ r. any_below threads (λ i. any_below threads (λ j. not (eqb i j) && (writes m i (inputs + r) && writes m j (inputs + r)))))
      registers
      (λ r k. any_same (writes_too ps ls threads r)
      (λ i. any_below threads (λ j. not (eqb i j) && (writes m i (inputs + r) && writes m j (inputs + r)))) threads (λ i l. again i r l))

  -- ---- 13

  pub by-plain : (r : ℕ) → written_by ps threads r ≡ some_thread m (λ i. plain_writes m i (inputs + r))
  unfolding written_by some_thread
  by-plain r = any_same (λ i. marked ps i r) (λ i. plain_writes m i (inputs + r)) threads (λ i l. marks-plain i r l)

  pub by-later : (r : ℕ) → written_by ls threads r ≡ some_thread m (λ i. defers m i (inputs + r))
  unfolding written_by some_thread
  by-later r = any_same (λ i. marked ls i r) (λ i. defers m i (inputs + r)) threads (λ i l. marks-later i r l)

  pub both-law : both_ways_at ps ls threads registers ≡ both_ways m
  unfolding both_ways_at written_both both_ways some_register
  both-law =
      any_same (written_both ps ls threads)
      (λ r. some_thread m (λ i. plain_writes m i (inputs + r)) && some_thread m (λ i. defers m i (inputs + r))) registers
      (λ r k. λ j. (by-plain r j && by-later r j))

  -- ---- 14

  pub by-thread : Reading m threads reading
  by-thread = reading-law z h e threads (le_refl threads)

  threads-reading : (v : ℕ) → v < 80 → any_mark (bits (get_or reading v 0)) ≡ some_thread m (λ j. thread_reads m j v)
  unfolding some_thread
  threads-reading v k =
      any-marks (bits (get_or reading v 0)) threads (λ j. thread_reads m j v) (λ j l. by-thread.own v j k l) (λ j l. by-thread.none v j l)

  wires-reading : (v : ℕ) → v < 80 → any_mark (bits (get_or readers v 0)) ≡ some_wire m (λ k. wire_reads m k v)
  unfolding some_wire wire_reads wire_expr
  wires-reading v k =
      any-marks (bits (get_or readers v 0)) wires (λ j. wire_reads m j v) (λ j l. h.read_by v j k l) (λ j l. h.read-by-none v j l)

  others-reading : (i v : ℕ) → v < 80
      → any_mark (set (bits (get_or reading v 0)) i false) ≡ some_thread m (λ j. not (eqb i j) && thread_reads m j v)
  unfolding some_thread
  others-reading i v k =
      let bs = bits (get_or reading v 0) in
      any-marks (set bs i false) threads (λ j. not (eqb i j) && thread_reads m j v)
      (λ j l. mark-clear bs i j ∙ ap (λ t. not (eqb i j) && t) (by-thread.own v j k l))
      (λ j l. clear-past bs i j (by-thread.none v j l))

  pub elsewhere : (i v : ℕ) → v < 80 → read_elsewhere_at reading readers i v ≡ read_elsewhere m i v
  unfolding read_elsewhere_at read_elsewhere
  elsewhere i v k =
      let a = ap (λ (w : ℕ). any_mark (set (bits w) i false)) (entry_at reading v k) ∙ others-reading i v k in
      let b = ap (λ (w : ℕ). any_mark (bits w)) (entry_at readers v k) ∙ wires-reading v k in
      λ j. (a j || b j)

  pub shared-law : plainly_shared_at ps reading readers threads inputs registers ≡ plainly_shared m
  unfolding plainly_shared_at shared_at shared_by plainly_shared some_register some_thread
  shared-law =
      any_same (λ r. shared_at ps reading readers threads r (inputs + r))
      (λ r. any_below threads (λ i. plain_writes m i (inputs + r) && read_elsewhere m i (inputs + r))) registers
      (λ r k. any_same (shared_by ps reading readers r (inputs + r))
      (λ i. plain_writes m i (inputs + r) && read_elsewhere m i (inputs + r)) threads
      (λ i l. λ j. (marks-plain i r l j && elsewhere i (inputs + r) (omega (arith, z.inputs-most, z.registers-most)) j)))

  -- ---- 15

  pub other-law : other_wait_below s code sizes threads ≡ other_wait m
  unfolding other_wait_below other_wait_in other_wait some_thread
  other-law =
      any_same (λ i. other_wait_in s code i (size_of sizes i)) (λ i. any_instr other_wait_at (code_of m i)) threads
      (λ i l. ap (other_wait_in s code i) (size_of-at sizes i (low i l))
      ∙ any-fetched z h i l other_wait_of other_wait_at (λ x y q. other-fetched q))

  -- ---- 18, 19

  pub clock-law : clock_read_at reading readers ≡ clock_read m
  unfolding clock_read_at clock_read
  clock-law = λ j. (threads-reading 0 (omega arith) j || wires-reading 0 (omega arith) j)

  pub upward-at : (k j : ℕ) → k < wires → j < wires
      → upward_at readers k (inputs + registers + j) j ≡ (leb k j && wire_reads m k (wire_variable m j))
  unfolding upward_at wire_reads wire_expr wire_variable
  upward-at k j l n =
      let v = inputs + registers + j in
      let most : v < 80 = omega (arith, z.inputs-most, z.registers-most, z.wires-most) in
      ap (λ t. leb k j && t) (ap (λ (w : ℕ). get_or (bits w) k false) (entry_at readers v most) ∙ h.read_by v k most l)

  pub upward-law : reads_upward_at readers inputs registers wires ≡ reads_upward m
  unfolding reads_upward_at reads_above reads_upward some_wire
  upward-law =
      any_same (reads_above readers inputs registers wires)
      (λ k. any_below wires (λ j. leb k j && wire_reads m k (wire_variable m j))) wires
      (λ k l. any_same (λ j. upward_at readers k (inputs + registers + j) j) (λ j. leb k j && wire_reads m k (wire_variable m j)) wires
      (λ j n. upward-at k j l n))

  -- ---- 20

  pub waits-in : (i : ℕ) → i < threads → (n : ℕ) → n ≤ length (code_of m i) → waits_in s code i n ≡ waits_before (code_of m i) n
  unfolding waits_in waits_before code_of
  waits-in i l zero k = refl
  waits-in i l (suc n) k =
      let a = waits-in i l n (omega arith) in
      let b = wait-fetched (h.fetched i n l k) in
      λ j. a j + b j

  pub waits-law : (n : ℕ) → n ≤ threads → waits_of s code sizes n ≡ waits_below m n
  unfolding waits_of waits_below
  waits-law zero k = refl
  waits-law (suc n) k =
      let a = waits-law n (omega arith) in
      let c = size_of-at sizes n (low n k) ∙ size-of z h n k in
      let b = ap (waits_in s code n) c ∙ waits-in n k (length (code_of m n)) (le_refl (length (code_of m n))) in
      λ j. a j + b j

  pub many-law : many_waits_at s code sizes threads ≡ many_waits m
  unfolding many_waits_at many_waits
  many-law = ap (ltb 32) (waits-law threads (le_refl threads))

  -- ---- the lowest

  -- Of a layout with the module's counts, and a place from which the threads wait as the module's do.
  lowest-law : (l : Layout) → l.inputs ≡ inputs → l.registers ≡ registers → l.wires ≡ wires → l.threads ≡ threads
      → l.definitions ≡ ds → starts_running_from s ds threads l.body ≡ starts_running m → runs_away_from s ds threads l.body ≡ runs_away m
      → rule_at s l code sizes readers ≡ rule m
  unfolding rule_at lowest_rule higher_rule rule
  lowest-law l i r w t d starts away =
      rw (i, r, w, t, d, at_most-same 8 threads z.threads-most)
      (λ j.
      pick (two-law j) 12
      (pick (both-law j) 13
      (pick (shared-law j) 14
      (pick (other-law j) 15
      (pick (starts j) 16
      (pick (away j) 17
      (pick (clock-law j) 18
      (pick (upward-law j) 19
      (pick (many-law j) 20
      0)))))))))

-- ---- the law

module _ (s : List ℕ) (x : Sheet ℕ) (m : Module Expr) (h : read_sheet (located s) s ≡ ok x) (e : read s ≡ ok m) where
  abbrev at : ℕ → Expr
  at = expr_at s x.contents.scope

  abbrev ds : List ℕ
  ds = definitions_of x.definitions

  pub scope-same : x.contents.scope ≡ m.scope
  unfolding trees map_module
  scope-same = ap (λ (n : Module Expr). n.scope) (module-same s x m h e)

  pub counted : Counted s ds x.contents.scope.functions
  counted = sheet-counted (located s) s h

  pub wires-same : length x.contents.wires ≡ length m.wires
  unfolding trees map_module
  wires-same = sym (length-map x.contents.wires at) ∙ ap (λ (n : Module Expr). length n.wires) (module-same s x m h e)

  pub threads-same : length x.contents.threads ≡ length m.threads
  unfolding trees map_module
  threads-same =
      sym (length-map x.contents.threads (map_stmt at)) ∙ ap (λ (n : Module Expr). length n.threads) (module-same s x m h e)

  pub stmts-same : map (map_stmt at) x.contents.threads ≡ m.threads
  unfolding trees map_module
  stmts-same = ap (λ (n : Module Expr). n.threads) (module-same s x m h e)

  -- 16
  pub starts-law : starts_running_from s ds (length m.threads) x.body ≡ starts_running m
  unfolding starts_running some_thread body_of
  starts-law =
      let t = threads-of s x h in
      let a = starts-read x.contents.scope s ds t.short counted at (length x.contents.threads) x.body t.from-body in
      ap (λ (n : ℕ). starts_running_from s ds n x.body) (sym threads-same)
      ∙ a
      ∙ ap (λ (ts : List (Stmt ℕ)). any_below (length ts) (runs_at (map (map_stmt at) ts))) t.items
      ∙ λ j. any_below (threads-same j) (runs_at (stmts-same j))

  -- 17
  pub away-law : runs_away_from s ds (length m.threads) x.body ≡ runs_away m
  unfolding runs_away some_thread body_of loops_wait
  away-law =
      let t = threads-of s x h in
      let a = away-read x.contents.scope s ds t.short counted at (length x.contents.threads) x.body t.from-body in
      ap (λ (n : ℕ). runs_away_from s ds n x.body) (sym threads-same)
      ∙ a
      ∙ ap (λ (ts : List (Stmt ℕ)). any_below (length ts) (away_at (map (map_stmt at) ts))) t.items
      ∙ λ j. any_below (threads-same j) (away_at (stmts-same j))

  -- For an accepted sheet, and the tables that are filled from it, the lowest rule that is broken is the module's.
  pub rule-law : (code : List ℕ) → length code ≡ 4096
      → let c = compile_at s ds (length x.contents.threads) x.body code in
      rule_at s (layout_of x) c.code c.sizes
      (readers_below s ds (starts_of x.contents.wires) (at_most 32 (length x.contents.wires)) (replicate 80 0))
      ≡ rule m
  unfolding layout_of
  rule-law code long =
      lowest-law (sound s e) (holding-filled s x m h e code long) (expressed s code x m h e long) (layout_of x)
      (ap (λ c. c.inputs) scope-same) (ap (λ c. c.registers) scope-same) wires-same threads-same refl starts-law away-law
