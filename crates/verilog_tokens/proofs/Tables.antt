-- Laws of tables of words: a table's rows from a place on, where a word stands among them, which one a text opens with. Assumes nothing.
use mathlib.Core.Path.{◌≡◌, refl, sym, ap, ◌∙◌}
use mathlib.Core.Bool.{Bool, true, false, ◌||◌}
use mathlib.Core.List.{List, [], ◌∷◌, ◌++◌}
use Prim.Native.Nat.{ℕ, zero, suc, ◌+◌, ◌-◌, ◌<◌, ◌≤◌}
use native.Mathlib.Omega.{arith}
use borrow.Author.Tests.{lt-ltb, le-ltb, ltb-true, ltb-false}
use lib.Dec.{ltb, eqb}
use lib.ListN.{length, take, drop, length-drop, length-take, drop_of_length-le}
use lib.Seq.{drop-drop, length-take-le}
use Rattle.values.specs.Values.{pick}
use Rattle.writing.specs.Ascii.{ascii}
use Rattle.naming.specs.Naming.{same_text}
use Rattle.verilog_tokens.specs.declared.Class.TheVariants.{Comment}
use Rattle.verilog_tokens.specs.Characters.{is_newline, is_text, in_class, span, run_end}
use Rattle.verilog_tokens.specs.Words.{keywords, is_among, is_keyword, signs, opens_with, first_of}
use Rattle.verilog_tokens.specs.Tokens.{word_token}
use Rattle.verilog_tokens.specs.Table.{terminals, number_from, kind_of}
use Rattle.verilog_tokens.specs.Rows.{rows_by, rows_of, row_in}
use Rattle.verilog_tokens.proofs.Runs.{run_inside}

-- ---- rows_of: steps to spare change nothing

rows-spare : (f g : ℕ) (s : List ℕ) → length s ≤ f → length s ≤ g → rows_by f s ≡ rows_by g s
unfolding rows_by
rows-spare zero zero s h k = refl
rows-spare zero (suc g) [] h k = refl
rows-spare zero (suc g) (b ∷ s) h k = absurd (omega arith)
rows-spare (suc f) zero [] h k = refl
rows-spare (suc f) zero (b ∷ s) h k = absurd (omega arith)
rows-spare (suc f) (suc g) [] h k = refl
rows-spare (suc f) (suc g) (b ∷ s) h k =
    let n = span Comment (b ∷ s) in
    let d = length-drop (suc n) (b ∷ s) in
    ap (λ r. take n (b ∷ s) ∷ r) (rows-spare f g (drop (suc n) (b ∷ s)) (omega arith) (omega arith))

module _ (table : List ℕ) (i : ℕ) where
  pub rows-past : length table ≤ i → rows_of (drop i table) ≡ []
  unfolding rows_of rows_by
  rows-past l = rw (drop_of_length-le table l)

  pub rows_next : (end : ℕ) → end ≡ run_end Comment table i → i < length table →
      rows_of (drop i table) ≡ take (end - i) (drop i table) ∷ rows_of (drop (end + 1) table)
  unfolding rows_of rows_by run_end
  rows_next end q l = by (drop i table) refl
    where
      by : (s : List ℕ) → drop i table ≡ s →
          rows_by (length s) s ≡ take (end - i) s ∷ rows_by (length (drop (end + 1) table)) (drop (end + 1) table)
      by [] e = absurd (omega (arith, simp length-drop at (ap length e)))
      by (b ∷ s) e =
          let n = span Comment (b ∷ s) in
          let m : span Comment (drop i table) ≡ n = ap (span Comment) e in
          let k : end - i ≡ n = omega arith in
          let j : i + suc n ≡ end + 1 = omega arith in
          let d : drop (suc n) (b ∷ s) ≡ drop (end + 1) table =
          ap (drop (suc n)) (sym e) ∙ drop-drop (suc n) i table ∙ ap (λ x. drop x table) j in
          let r = drop (suc n) (b ∷ s) in
          let z = length-drop (suc n) (b ∷ s) in
          rw (k, ← d) (ap (λ x. take n (b ∷ s) ∷ x) (rows-spare (length s) (length r) r (omega arith) (omega arith)))

-- ---- row_in

module _ (v w : List ℕ) (vs : List (List ℕ)) where
  row_here : same_text v w ≡ true → row_in (v ∷ vs) w ≡ 0
  unfolding row_in
  row_here e = rw e

  row-there : same_text v w ≡ false → row_in (v ∷ vs) w ≡ suc (row_in vs w)
  unfolding row_in
  row-there e = rw e

pub place-start : (table word : List ℕ) → (0 ≤ 0) × (0 + row_in (rows_of table) word ≡ row_in (rows_of table) word)
place-start table word = (omega arith, omega arith)

-- A loop over the rows stands at place `i` behind `n` of them.
module _ (table word : List ℕ) (i n : ℕ) where
  abbrev pub Placing : Type 0
  Placing = (n ≤ i) × (n + row_in (rows_of (drop i table)) word ≡ row_in (rows_of table) word)

  pub place-done : Placing → length table ≤ i → n ≡ row_in (rows_of table) word
  unfolding row_in
  place-done p l =
      let e : row_in (rows_of (drop i table)) word ≡ 0 = ap (λ r. row_in r word) (rows-past table i l) in
      let q = p.1 in
      omega arith

  module _ (end : ℕ) (q : end ≡ run_end Comment table i) (l : i < length table) (p : Placing) where
    pub place_here : same_text (take (end - i) (drop i table)) word ≡ true → n ≡ row_in (rows_of table) word
    place_here e =
        let h : row_in (rows_of (drop i table)) word ≡ 0 =
        ap (λ r. row_in r word) (rows_next table i end q l)
        ∙ row_here (take (end - i) (drop i table)) word (rows_of (drop (end + 1) table)) e in
        let k = p.1 in
        omega arith

    pub place-next : same_text (take (end - i) (drop i table)) word ≡ false →
        n + 1 + row_in (rows_of (drop (end + 1) table)) word ≡ row_in (rows_of table) word
    place-next e =
        let h : row_in (rows_of (drop i table)) word ≡ suc (row_in (rows_of (drop (end + 1) table)) word) =
        ap (λ r. row_in r word) (rows_next table i end q l)
        ∙ row-there (take (end - i) (drop i table)) word (rows_of (drop (end + 1) table)) e in
        let k = p.1 in
        omega arith

    pub place-last : same_text (take (end - i) (drop i table)) word ≡ false → length table ≤ end → n + 1 ≡ row_in (rows_of table) word
    unfolding row_in
    place-last e m =
        let h = place-next e in
        let z : row_in (rows_of (drop (end + 1) table)) word ≡ 0 = ap (λ r. row_in r word) (rows-past table (end + 1) (omega arith)) in
        omega arith

-- ---- opens_with: is the front of the text that word?

pub opens-short : (w s : List ℕ) → length s < length w → false ≡ opens_with w s
unfolding opens_with
opens-short [] s h = absurd (omega arith)
opens-short (c ∷ cs) [] h = refl
opens-short (c ∷ cs) (b ∷ s) h = by (eqb c b) (opens-short cs s (omega arith))
  where
    by : (t : Bool) → false ≡ opens_with cs s → false ≡ pick t (opens_with cs s) false
    by true e = e
    by false e = refl

pub opens-front : (w s : List ℕ) → length w ≤ length s → same_text w (take (length w) s) ≡ opens_with w s
unfolding opens_with same_text
opens-front [] s h = refl
opens-front (c ∷ cs) [] h = absurd (omega arith)
opens-front (c ∷ cs) (b ∷ s) h = ap (λ x. pick (eqb c b) x false) (opens-front cs s (omega arith))

-- ---- first_of

module _ (v s : List ℕ) (vs : List (List ℕ)) where
  first-row : opens_with v s ≡ true → first_of (v ∷ vs) s ≡ v
  unfolding first_of
  first-row e = rw e

  first-other : opens_with v s ≡ false → first_of (v ∷ vs) s ≡ first_of vs s
  unfolding first_of
  first-other e = rw e

module _ (table text : List ℕ) (i : ℕ) where
  abbrev pub Opening : Type 0
  Opening = length (first_of (rows_of (drop i table)) text) ≡ length (first_of (rows_of table) text)

  pub first_done : Opening → length table ≤ i → 0 ≡ length (first_of (rows_of table) text)
  unfolding first_of
  first_done p l = sym (ap (λ r. length (first_of r text)) (rows-past table i l)) ∙ p

  module _ (end : ℕ) (q : end ≡ run_end Comment table i) (l : i < length table) (p : Opening) where
    pub first-here : opens_with (take (end - i) (drop i table)) text ≡ true → end - i ≡ length (first_of (rows_of table) text)
    first-here e =
        let k = run_inside Comment table i (omega arith) in
        let d = length-drop i table in
        let z = length-take (end - i) (drop i table) in
        let w : length (take (end - i) (drop i table)) ≡ end - i = length-take-le (end - i) (drop i table) (omega arith) in
        sym w
        ∙ sym (ap length (first-row (take (end - i) (drop i table)) text (rows_of (drop (end + 1) table)) e))
        ∙ sym (ap (λ r. length (first_of r text)) (rows_next table i end q l))
        ∙ p

    pub first_next : opens_with (take (end - i) (drop i table)) text ≡ false →
        length (first_of (rows_of (drop (end + 1) table)) text) ≡ length (first_of (rows_of table) text)
    first_next e =
        sym (ap length (first-other (take (end - i) (drop i table)) text (rows_of (drop (end + 1) table)) e))
        ∙ sym (ap (λ r. length (first_of r text)) (rows_next table i end q l))
        ∙ p

    pub first-last : opens_with (take (end - i) (drop i table)) text ≡ false → length table ≤ end →
        0 ≡ length (first_of (rows_of table) text)
    unfolding first_of
    first-last e m = sym (ap (λ r. length (first_of r text)) (rows-past table (end + 1) (omega arith))) ∙ first_next e

-- ---- the tables of the code

-- Words as the lines of a text.
unfoldable pub lines : List (List ℕ) → List ℕ
lines [] = []
lines (w ∷ ws) = w ++ 10 ∷ lines ws

keyword-rows : rows_of (lines keywords) ≡ keywords
unfolding lines rows_of rows_by span in_class is_text is_newline ascii keywords
keyword-rows = refl

terminal-rows : rows_of (lines terminals) ≡ terminals
unfolding lines rows_of rows_by span in_class is_text is_newline ascii terminals
terminal-rows = refl

sign-rows : rows_of (lines signs) ≡ signs
unfolding lines rows_of rows_by span in_class is_text is_newline ascii signs
sign-rows = refl

ltb-suc : (a b : ℕ) → ltb (suc a) (suc b) ≡ ltb a b
ltb-suc a b = by (ltb a b) refl
  where
    by : (t : Bool) → ltb a b ≡ t → ltb (suc a) (suc b) ≡ t
    by true e = lt-ltb (suc a) (suc b) (omega (arith, ltb-true a b e))
    by false e = le-ltb (suc a) (suc b) (omega (arith, ltb-false a b e))

among-place : (ws : List (List ℕ)) (w : List ℕ) → ltb (row_in ws w) (length ws) ≡ is_among ws w
unfolding row_in is_among
among-place [] w = refl
among-place (v ∷ vs) w = by (same_text v w) (among-place vs w)
  where
    by : (t : Bool) → ltb (row_in vs w) (length vs) ≡ is_among vs w →
        ltb (pick t 0 (suc (row_in vs w))) (suc (length vs)) ≡ (t || is_among vs w)
    by true e = lt-ltb 0 (suc (length vs)) (omega arith)
    by false e = ltb-suc (row_in vs w) (length vs) ∙ e

number-place : (k : ℕ) (ws : List (List ℕ)) (w : List ℕ) →
    pick (ltb (row_in ws w) (length ws)) (row_in ws w + k) 70 ≡ number_from k ws w
unfolding row_in number_from
number-place k [] w = refl
number-place k (v ∷ vs) w = by (same_text v w) (number-place (suc k) vs w)
  where
    by : (t : Bool) → pick (ltb (row_in vs w) (length vs)) (row_in vs w + suc k) 70 ≡ number_from (suc k) vs w →
        pick (ltb (pick t 0 (suc (row_in vs w))) (suc (length vs))) (pick t 0 (suc (row_in vs w)) + k) 70
        ≡ pick t k (number_from (suc k) vs w)
    by true e = rw (lt-ltb 0 (suc (length vs)) (omega arith)) (omega arith)
    by false e = let z : suc (row_in vs w) + k ≡ row_in vs w + suc k = omega arith in rw (z, ltb-suc (row_in vs w) (length vs)) e

keyword-count : length keywords ≡ 124
unfolding keywords
keyword-count = refl

terminal-count : length terminals ≡ 39
unfolding terminals
terminal-count = refl

-- A terminal's number is at most 39, or 70.
pub terminal-kinds : (word : List ℕ) (k : ℕ) → 39 < k → k < 70 → number_from 1 terminals word ≡ k → ⊥
terminal-kinds word k h j e = by (ltb (row_in terminals word) 39) refl (number-place 1 terminals word)
  where
    by : (t : Bool) → ltb (row_in terminals word) 39 ≡ t →
        pick (ltb (row_in terminals word) (length terminals)) (row_in terminals word + 1) 70 ≡ number_from 1 terminals word → ⊥
    by true q z = let y = rw (terminal-count, q) at z in omega (arith, ltb-true (row_in terminals word) 39 q)
    by false q z = let y = rw (terminal-count, q) at z in omega arith

module _ (table word : List ℕ) (n : ℕ) (q : n ≡ row_in (rows_of table) word) where
  pub keyword-place : table ≡ lines keywords → ltb n 124 ≡ is_keyword word
  unfolding is_keyword
  keyword-place e =
      ap (λ x. ltb x 124) (q ∙ ap (λ t. row_in (rows_of t) word) e ∙ ap (λ r. row_in r word) keyword-rows)
      ∙ ap (ltb (row_in keywords word)) (sym keyword-count)
      ∙ among-place keywords word

  terminal-place : table ≡ lines terminals → pick (ltb n 39) (n + 1) 70 ≡ number_from 1 terminals word
  terminal-place e =
      ap (λ x. pick (ltb x 39) (x + 1) 70) (q ∙ ap (λ t. row_in (rows_of t) word) e ∙ ap (λ r. row_in r word) terminal-rows)
      ∙ ap (λ x. pick (ltb (row_in terminals word) x) (row_in terminals word + 1) 70) (sym terminal-count)
      ∙ number-place 1 terminals word

  pub terminal-inside : table ≡ lines terminals → n < 39 → n + 1 ≡ number_from 1 terminals word
  terminal-inside e h = rw (lt-ltb n 39 h) at (terminal-place e)

  pub terminal-outside : table ≡ lines terminals → 39 ≤ n → 70 ≡ number_from 1 terminals word
  terminal-outside e h = rw (le-ltb n 39 h) at (terminal-place e)

pub sign-first : (table text : List ℕ) (n : ℕ) → n ≡ length (first_of (rows_of table) text) → table ≡ lines signs →
    n ≡ length (first_of signs text)
sign-first table text n q e = q ∙ ap (λ t. length (first_of (rows_of t) text)) e ∙ ap (λ r. length (first_of r text)) sign-rows

-- ---- a word's kind

module _ (word : List ℕ) where
  pub kind-keyword : is_keyword word ≡ true → number_from 1 terminals word ≡ kind_of (word_token 0 word)
  unfolding kind_of word_token
  kind-keyword e = rw e

  pub kind-name : is_keyword word ≡ false → 64 ≡ kind_of (word_token 0 word)
  unfolding kind_of word_token
  kind-name e = rw e
