-- Extraction's tables pass the cycle run's check (`tables-fit`): number 24 isn't met on them.
use mathlib.Core.Path.{◌≡◌, refl}
use mathlib.Core.Bool.{Bool, true, false, not, ◌||◌}
use mathlib.Core.List.{List, []}
use Prim.Native.Nat.{ℕ, zero, suc, ◌+◌, ◌-◌, ◌≤◌, ◌<◌}
use native.Mathlib.Omega.{arith}
use lib.ListN.{length, get_or, replicate}
use borrow.Author.Tests.{lt-ltb, eq-eqb}
use Rattle.values.specs.declared.Value.{Value}
use Rattle.sheet.specs.Expression.{Expr}
use Rattle.sheet.specs.Reading.{ok}
use Rattle.sheet.specs.Module.{Module}
use Rattle.soundness.specs.Soundness.{Sound}
use Rattle.events.specs.Cycle.{variables, code_of, instr_at, is_wait}
use Rattle.events.specs.Calls.{width_of}
use Rattle.events.proofs.Cycle.{below_all}
use Rattle.nextstate.specs.Rules.{writes}
use Rattle.nextstate.specs.Nodes.{a_variable, all_words, padded}
use Rattle.nextstate.specs.Extraction.{Tables, extracted}
use Rattle.nextstate.specs.Book.{entry, worth}
use Rattle.nextstate.specs.CycleRun.{node_fits, nodes_fit, widths_from, register_fits, row_fits, rows_fit, tables_fit, tables_in}
use Rattle.nextstate.specs.Ruled.{Ruled}
use Rattle.walking.proofs.Growing.{Grows, grows-by}
use Rattle.validity.proofs.Folds.{fit_append}
use Rattle.validity.proofs.Made.{Made, has-grows}
use Rattle.validity.proofs.Walks.{lands-grows}
use Rattle.validity.proofs.Short.{nodes-short}
use Rattle.validity.proofs.Tables.{nodes-made, RowMade, row_made}
use Rattle.validity.proofs.Words.{words, words-nodes, entry_in, worth-in}

pub some-variables : (m : Module Expr) → Sound m → 0 < variables m
unfolding variables
some-variables m w = omega (arith, w.variables, w.inputs-some)

module _ (m : Module Expr) (w : Sound m) (u : Ruled m) (T : Tables) (x : extracted m ≡ ok T) where
  -- The clock's node, so many times.
  clocks-fit : (n : ℕ) (us : List ℕ) → nodes_fit m (replicate n (a_variable 0)) us ≡ true
  unfolding nodes_fit node_fits
  clocks-fit zero us = refl
  clocks-fit (suc n) us = rw (lt-ltb 0 (variables m) some) (clocks-fit n _)
    where
      some : 0 < variables m
      some = some-variables m w

  pub made : Made m T.nodes
  made = nodes-made m w u T x

  pub short : length T.nodes ≤ 4096
  short = nodes-short m w T x

  -- The lent words after extraction, as the cycle run reads them.
  pub lent : Tables
  lent = words m T made short

  grown : Grows T.nodes lent.nodes
  unfolding lent
  grown = grows-by (replicate (4096 - length T.nodes) (a_variable 0)) (words-nodes m T made short)

  nodes-fit : nodes_fit m lent.nodes [] ≡ true
  unfolding lent
  nodes-fit = rw (words-nodes m T made short) (fit_append m T.nodes (replicate (4096 - length T.nodes) (a_variable 0)) [] made.fit (clocks-fit (4096 - length T.nodes) (widths_from m T.nodes [])))

  pub lent-entry : (i p c : ℕ) → entry m lent i p c ≡ entry m T i p c
  unfolding lent
  lent-entry i p c = entry_in m T made short i p c

  pub lent-worth : (f : ℕ → Value) (n : ℕ) → n < length T.nodes → worth m lent f n ≡ worth m T f n
  unfolding lent
  lent-worth f n l = worth-in m T made short f n l

  pub lent_is : tables_in (padded 16384 (all_words T.nodes)) (padded 1056 T.rows) ≡ lent
  unfolding lent words
  lent_is = refl

  module _ (i p : ℕ) (li : i < length m.threads) (lp : p < length (code_of m i)) (e : is_wait (instr_at (code_of m i) p) ≡ true) where
    row : RowMade m w u T i p
    row = row_made m w u T x i p li lp e

    register-fits : (r : ℕ) → r < m.scope.registers → register_fits m lent i p r ≡ true
    unfolding register_fits width_of
    register-fits r l =
        let h = has-grows m grown (row.registers r l) in
        rw (lent-entry i p r, lt-ltb (entry m T i p r) (length lent.nodes) h.0)
        (eq-eqb (get_or (widths_from m lent.nodes []) (entry m T i p r) 0) (get_or m.scope.widths (m.scope.inputs + r) 0) h.1)

    row-fits : row_fits m lent i p ≡ true
    unfolding row_fits
    row-fits =
        let h = lands-grows m i grown row.place in
        rw (below_all (λ r. not (writes m i (m.scope.inputs + r)) || register_fits m lent i p r) m.scope.registers (λ r l. either (writes m i (m.scope.inputs + r)) (register-fits r l)), lent-entry i p 32)
        h.1
      where
        either : (b : Bool) {c : Bool} → c ≡ true → (not b || c) ≡ true
        either true h = h
        either false h = refl

  rows-fit : rows_fit m lent ≡ true
  unfolding rows_fit
  rows-fit =
      below_all _ (length m.threads) (λ i li. below_all _ (length (code_of m i)) (λ p lp. by i p li lp (is_wait (instr_at (code_of m i) p)) refl))
    where
      by : (i p : ℕ) → i < length m.threads → p < length (code_of m i) → (b : Bool) → is_wait (instr_at (code_of m i) p) ≡ b →
          (not b || row_fits m lent i p) ≡ true
      by i p li lp true e = row-fits i p li lp e
      by i p li lp false e = refl

  pub tables-fit : tables_fit m lent ≡ true
  unfolding tables_fit
  tables-fit = rw (nodes-fit, rows-fit) refl
