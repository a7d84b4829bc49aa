-- The lent words read back: nodes that are Made are read from their words as they were written, and what isn't filled reads as the
-- clock's node (`nodes-in`); rows too (`entry_in`); so a filled node's worth is the same on the words (`worth-in`).
use mathlib.Core.Path.{◌≡◌, refl, sym, ap, ◌∙◌}
use mathlib.Core.List.{List, [], ◌∷◌, ◌++◌}
use Prim.Native.Nat.{ℕ, zero, suc, ◌+◌, ◌-◌, ◌*◌, ◌≤◌, ◌<◌}
use native.Mathlib.Omega.{arith}
use native.Mathlib.Decide.{dec_lt}
use lib.ListN.{length, get_or, replicate, length-append, length-replicate, get_or-append, get_or-eq_default}
use lib.Seq.{get_or-append-add, ext_get_or}
use Rattle.values.specs.declared.Value.{Value}
use Rattle.sheet.specs.Expression.{Expr}
use Rattle.sheet.specs.Module.{Module}
use Rattle.state.specs.Rows.{list_of}
use Rattle.state.proofs.Rows.{length-list_of, get_d-list_of}
use Rattle.nextstate.specs.Nodes.{Node, a_variable, a_constant, an_unknown, a_unary, a_binary, a_conditional, a_branch, four_words, node_words, all_words, padded, node_from, node_at}
use Rattle.nextstate.specs.Extraction.{Tables}
use Rattle.nextstate.specs.Book.{row_of, entry, worth}
use Rattle.nextstate.specs.CycleRun.{tables_in}
use Rattle.validity.proofs.Folds.{worked-grow}
use Rattle.validity.proofs.Made.{Coded, Made}

-- ---- what lies behind a list of words

pub get_d-padded : (n : ℕ) (l : List ℕ) (k : ℕ) → get_or (padded n l) k 0 ≡ get_or l k 0
unfolding padded
get_d-padded n l k = by (dec_lt k (length l))
  where
    zeros : (j i : ℕ) → ◌≡◌ {A = ℕ} (get_or {A = ℕ} (replicate j 0) i 0) 0
    zeros zero i = refl
    zeros (suc j) zero = refl
    zeros (suc j) (suc i) = zeros j i

    by : Dec (k < length l) → get_or (l ++ replicate (n - length l) 0) k 0 ≡ get_or l k 0
    by (yes h) = get_or-append l (replicate (n - length l) 0) 0 k h
    by (no h) =
        let e : k ≡ length l + (k - length l) = omega arith in
        ap (λ (x : ℕ). get_or (l ++ replicate (n - length l) 0) x 0) e
        ∙ get_or-append-add l (replicate (n - length l) 0) (k - length l) 0
        ∙ zeros (n - length l) (k - length l)
        ∙ sym (get_or-eq_default l 0 (omega arith))

pub length-padded : (n : ℕ) (l : List ℕ) → length l ≤ n → length (padded n l) ≡ n
unfolding padded
length-padded n l h = omega (arith, length-append l (replicate (n - length l) 0), length-replicate {A = ℕ} (n - length l) 0)

-- Four words that weren't filled.
clock : node_from 0 0 0 0 ≡ a_variable 0
unfolding node_from
clock = refl

-- ---- nodes

four : (n : Node) → length (node_words n) ≡ 4
unfolding node_words four_words
four (a_variable v) = refl
four (a_constant w n) = refl
four (an_unknown w) = refl
four (a_unary o a) = refl
four (a_binary o a b) = refl
four (a_conditional c a b) = refl
four (a_branch c a b) = refl

pub length-all_words : (t : List Node) → length (all_words t) ≡ 4 * length t
unfolding all_words
length-all_words [] = refl
length-all_words (n ∷ t) = omega (arith, length-append (node_words n) (all_words t), four n, length-all_words t)

-- Word j of node k.
word-at : (t : List Node) (k j : ℕ) → k < length t → j < 4 → get_or (all_words t) (4 * k + j) 0 ≡ get_or (node_words (get_or t k (a_variable 0))) j 0
unfolding all_words
word-at [] k j h l = absurd (omega arith)
word-at (n ∷ t) zero j h l = get_or-append (node_words n) (all_words t) 0 (4 * 0 + j) (omega (arith, four n)) ∙ ap (λ (x : ℕ). get_or (node_words n) x 0) (omega arith)
word-at (n ∷ t) (suc k) j h l =
    let e : 4 * suc k + j ≡ length (node_words n) + (4 * k + j) = omega (arith, four n) in
    ap (λ (x : ℕ). get_or (node_words n ++ all_words t) x 0) e ∙ get_or-append-add (node_words n) (all_words t) (4 * k + j) 0 ∙ word-at t k j (omega arith) l

module _ (m : Module Expr) (t : List Node) (d : Made m t) where
  node-in : (k : ℕ) → node_at (padded 16384 (all_words t)) k ≡ get_or t k (a_variable 0)
  unfolding node_at Coded
  node-in k = by (dec_lt k (length t))
    where
      p : List ℕ
      p = padded 16384 (all_words t)

      by : Dec (k < length t) →
          node_from (get_or (padded 16384 (all_words t)) (4 * k) 0) (get_or (padded 16384 (all_words t)) (4 * k + 1) 0)
          (get_or (padded 16384 (all_words t)) (4 * k + 2) 0) (get_or (padded 16384 (all_words t)) (4 * k + 3) 0) ≡ get_or t k (a_variable 0)
      by (yes h) =
          let z : 4 * k ≡ 4 * k + 0 = omega arith in
          let w0 = ap (λ (x : ℕ). get_or (all_words t) x 0) z ∙ word-at t k 0 h (omega arith) in
          rw (
            get_d-padded 16384 (all_words t) (4 * k),
            get_d-padded 16384 (all_words t) (4 * k + 1),
            get_d-padded 16384 (all_words t) (4 * k + 2),
            get_d-padded 16384 (all_words t) (4 * k + 3),
            w0,
            word-at t k 1 h (omega arith),
            word-at t k 2 h (omega arith),
            word-at t k 3 h (omega arith),
          )
          (d.coded k h)
      by (no h) =
          let none : (j : ℕ) → 4 * length t ≤ j → get_or (padded 16384 (all_words t)) j 0 ≡ 0
          = λ j l. get_d-padded 16384 (all_words t) j ∙ get_or-eq_default (all_words t) 0 (omega (arith, length-all_words t)) in
          rw (none (4 * k) (omega arith), none (4 * k + 1) (omega arith), none (4 * k + 2) (omega arith), none (4 * k + 3) (omega arith))
          (clock ∙ sym (get_or-eq_default t (a_variable 0) (omega arith)))

  -- All 4,096 nodes: those that were filled, and the clock's.
  pub nodes-in : length t ≤ 4096 → list_of 4096 (node_at (padded 16384 (all_words t))) ≡ t ++ replicate (4096 - length t) (a_variable 0)
  nodes-in h =
      ext_get_or (a_variable 0) (list_of 4096 (node_at (padded 16384 (all_words t)))) (t ++ replicate (4096 - length t) (a_variable 0))
      (length-list_of (node_at (padded 16384 (all_words t))) 4096 ∙ long)
      (λ k l. get_d-list_of (node_at (padded 16384 (all_words t))) 4096 k (a_variable 0) (omega (arith, length-list_of (node_at (padded 16384 (all_words t))) 4096)) ∙ node-in k ∙ behind k)
    where
      long : 4096 ≡ length (t ++ replicate (4096 - length t) (a_variable 0))
      long = omega (arith, length-append t (replicate (4096 - length t) (a_variable 0)), length-replicate (4096 - length t) (a_variable 0))

      clocks : (j i : ℕ) → get_or (replicate j (a_variable 0)) i (a_variable 0) ≡ a_variable 0
      clocks zero i = refl
      clocks (suc j) zero = refl
      clocks (suc j) (suc i) = clocks j i

      behind : (k : ℕ) → get_or t k (a_variable 0) ≡ get_or (t ++ replicate (4096 - length t) (a_variable 0)) k (a_variable 0)
      behind k = by (dec_lt k (length t))
        where
          by : Dec (k < length t) → get_or t k (a_variable 0) ≡ get_or (t ++ replicate (4096 - length t) (a_variable 0)) k (a_variable 0)
          by (yes l) = sym (get_or-append t (replicate (4096 - length t) (a_variable 0)) (a_variable 0) k l)
          by (no l) =
              let e : k ≡ length t + (k - length t) = omega arith in
              get_or-eq_default t (a_variable 0) (omega arith)
              ∙ sym (ap (λ (x : ℕ). get_or (t ++ replicate (4096 - length t) (a_variable 0)) x (a_variable 0)) e
              ∙ get_or-append-add t (replicate (4096 - length t) (a_variable 0)) (k - length t) (a_variable 0)
              ∙ clocks (4096 - length t) (k - length t))

-- ---- the filled tables

module _ (m : Module Expr) (T : Tables) (d : Made m T.nodes) (h : length T.nodes ≤ 4096) where
  unfoldable pub words : Tables
  words = tables_in (padded 16384 (all_words T.nodes)) (padded 1056 T.rows)

  pub words-nodes : words.nodes ≡ T.nodes ++ replicate (4096 - length T.nodes) (a_variable 0)
  unfolding words tables_in
  words-nodes = nodes-in m T.nodes d h

  pub entry_in : (i p c : ℕ) → entry m words i p c ≡ entry m T i p c
  unfolding words tables_in entry row_of
  entry_in i p c = get_d-padded 1056 T.rows _

  pub worth-in : (f : ℕ → Value) (n : ℕ) → n < length T.nodes → worth m words f n ≡ worth m T f n
  unfolding worth
  worth-in f n l =
      rw words-nodes (worked-grow m.scope.widths f T.nodes (replicate (4096 - length T.nodes) (a_variable 0)) n l)
