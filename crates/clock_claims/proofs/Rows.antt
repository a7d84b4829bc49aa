-- The words of a row, by the kinds of variable. Assumes nothing.
use mathlib.Core.Path.{◌≡◌, refl, sym, ap, ◌∙◌}
use mathlib.Core.Logic.{◌≢◌}
use mathlib.Core.List.{List}
use Prim.Native.Nat.{ℕ, zero, suc, ◌+◌, ◌-◌, ◌≤◌, ◌<◌}
use native.Mathlib.Decide.{ℕ_discrete, dec_lt}
use native.Mathlib.Omega.{arith}
use borrow.Author.Tests.{lt-ltb, le-ltb, eq-eqb, ne_eqb}
use lib.ListN.{length, get_or, set}
use Rattle.sheet.specs.Expression.{Expr}
use Rattle.sheet.specs.Module.{Module}
use Rattle.events.specs.declared.Inputs.{Inputs}
use Rattle.events.specs.Calls.{input_of}
use Rattle.values.specs.Values.{nowhere, all_unknown, ones}
use Rattle.values.specs.Cells.{cell_of, cell_at}
use Rattle.clock_run.specs.Running.{blank}
use Rattle.clock_run.specs.Traces.{word_of, put_words}
use Rattle.clock_claims.specs.Traced.{cycle_word}

pub blank-cell : blank ≡ cell_of nowhere
unfolding cell_of nowhere all_unknown ones
blank-cell = refl

pub words_same : (u v : ℕ → ℕ) (at n : ℕ) → ((k : ℕ) → u k ≡ v k) → (ws : List ℕ) → put_words u at n ws ≡ put_words v at n ws
unfolding put_words
words_same u v at zero h ws = refl
words_same u v at (suc n) h ws = rw (words_same u v at n h ws, h n)

module _ (m : Module Expr) (clock : ℕ) (a : Inputs) (register wire : ℕ → ℕ) (cs ps : List ℕ)
    (inputs : (v : ℕ) → v < m.scope.inputs - 1 → cell_of (cell_at cs (1 + v)) ≡ cell_of (input_of a v))
    (registers : (r : ℕ) → r < m.scope.registers → cell_of (cell_at cs (m.scope.inputs + r)) ≡ register r)
    (wires : (w : ℕ) → w < length m.wires → cell_of (cell_at cs (m.scope.inputs + m.scope.registers + w)) ≡ wire w)
  where
    abbrev I : ℕ
    I = m.scope.inputs

    abbrev R : ℕ
    R = m.scope.registers

    abbrev W : ℕ
    W = length m.wires

    input-at : (k : ℕ) → k ≢ 0 → k < I → cell_of (cell_at cs k) ≡ cell_of (input_of a (k - 1))
    input-at k d l =
        let e : 1 + (k - 1) ≡ k = omega arith in
        ap (λ (n : ℕ). cell_of (cell_at cs n)) (sym e) ∙ inputs (k - 1) (omega arith)

    register-at : (k : ℕ) → I ≤ k → k < I + R → cell_of (cell_at cs k) ≡ register (k - I)
    register-at k l o =
        let e : I + (k - I) ≡ k = omega arith in
        ap (λ (n : ℕ). cell_of (cell_at cs n)) (sym e) ∙ registers (k - I) (omega arith)

    wire-at : (k : ℕ) → I + R ≤ k → k < I + R + W → cell_of (cell_at cs k) ≡ wire (k - (I + R))
    wire-at k l o =
        let e : I + R + (k - (I + R)) ≡ k = omega arith in
        ap (λ (n : ℕ). cell_of (cell_at cs n)) (sym e) ∙ wires (k - (I + R)) (omega arith)

    abbrev Same : ℕ → Type 0
    Same k = word_of (I + R + W) clock cs ps k ≡ cycle_word m clock a register wire ps k

    pub word_same : (k : ℕ) → Same k
    unfolding word_of cycle_word
    word_same k = by (ℕ_discrete k 0) (dec_lt k 80) (dec_lt k I) (dec_lt k (I + R)) (dec_lt k (I + R + W))
      where
        by : Dec (k ≡ 0) → Dec (k < 80) → Dec (k < I) → Dec (k < I + R) → Dec (k < I + R + W) → Same k
        by (yes e) x y z u = rw (eq-eqb k 0 e)
        by (no d) (no x) y z u = rw (ne_eqb k 0 d, le-ltb k 80 (omega arith))
        by (no d) (yes x) (yes y) z u =
            rw (ne_eqb k 0 d, lt-ltb k 80 x, lt-ltb k (I + R + W) (omega arith), lt-ltb k I y) (input-at k d y)
        by (no d) (yes x) (no y) (yes z) u =
            rw (ne_eqb k 0 d, lt-ltb k 80 x, lt-ltb k (I + R + W) (omega arith), le-ltb k I (omega arith), lt-ltb k (I + R) z)
            (register-at k (omega arith) z)
        by (no d) (yes x) (no y) (no z) (yes u) =
            rw (ne_eqb k 0 d, lt-ltb k 80 x, le-ltb k (I + R) (omega arith), le-ltb k I (omega arith), lt-ltb k (I + R + W) u)
            (wire-at k (omega arith) u)
        by (no d) (yes x) (no y) (no z) (no u) =
            rw (ne_eqb k 0 d, lt-ltb k 80 x, le-ltb k (I + R) (omega arith), le-ltb k I (omega arith), le-ltb k (I + R + W) (omega arith))
            blank-cell
