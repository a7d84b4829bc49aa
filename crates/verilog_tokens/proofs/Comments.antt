-- Laws of comments and gaps: each row of a definition at a place of the text, and that nothing reaches past the end. Assumes nothing.
use mathlib.Core.Path.{◌≡◌, refl, sym, ap, ◌∙◌}
use mathlib.Core.Bool.{Bool, true, false, ◌&&◌, false≢true}
use mathlib.Core.List.{List, [], ◌∷◌}
use Prim.Native.Nat.{ℕ, zero, suc, ◌+◌, ◌-◌, ◌<◌, ◌≤◌}
use native.Mathlib.Numerals.{add-one}
use native.Mathlib.Omega.{arith}
use borrow.Author.Tests.{lt-ltb, le-ltb, ne_eqb}
use lib.Dec.{ltb, eqb}
use lib.ListN.{length, get_or, drop, length-drop, drop_of_length-le, get_or-eq_default}
use lib.Seq.{drop-cons, drop-drop}
use Rattle.values.specs.Values.{pick}
use Rattle.verilog_tokens.specs.declared.Class.TheVariants.{Space, Comment}
use Rattle.verilog_tokens.specs.Characters.{is_newline, span, run_end}
use Rattle.verilog_tokens.specs.Tokens.{either, further, ended_by, line_comment, is_slash, closing, block_comment, comment, blank}
use Rattle.verilog_tokens.specs.Tokens.{onwards, gaps, gap}
use Rattle.verilog_tokens.proofs.Runs.{span-few}

-- ---- is_slash

module _ (text : List ℕ) (i : ℕ) where
  pub slash-there : i < length text → eqb (get_or text i 0) 47 ≡ is_slash (drop i text)
  unfolding is_slash
  slash-there l = rw (drop-cons text i 0 l)

  pub slash-past : length text ≤ i → false ≡ is_slash (drop i text)
  unfolding is_slash
  slash-past l = rw (drop_of_length-le text l)

  pub slash-inside : is_slash (drop i text) ≡ true → i < length text
  unfolding is_slash
  slash-inside e = by (drop i text) refl e
    where
      by : (s : List ℕ) → drop i text ≡ s → is_slash s ≡ true → i < length text
      by [] q e = absurd (false≢true e)
      by (b ∷ s) q e = omega (arith, simp length-drop at (ap length q))

-- ---- further

pub further-none : (n : ℕ) → further 0 n ≡ n
unfolding further
further-none zero = refl
further-none (suc n) = omega arith

pub further-one : (k n : ℕ) → further k (further 1 n) ≡ further (k + 1) n
unfolding further
further-one k zero = refl
further-one k (suc n) = let e : 1 + suc n ≡ suc (suc n) = omega arith in rw e (omega arith)

pub further-few : (k n m : ℕ) → n ≤ m → further k n ≤ k + m
unfolding further
further-few k zero m h = omega arith
further-few k (suc n) m h = omega arith

-- ---- closing

slash-some : (s : List ℕ) → is_slash s ≡ true → 1 ≤ length s
unfolding is_slash
slash-some [] e = absurd (false≢true e)
slash-some (b ∷ s) e = omega arith

and_second : (x y : Bool) → (x && y) ≡ true → y ≡ true
and_second true y e = e
and_second false y e = absurd (false≢true e)

pub closing-few : (s : List ℕ) → closing s ≤ length s
unfolding closing
closing-few [] = omega arith
closing-few (b ∷ s) = by (eqb b 42 && is_slash s) refl (ltb b 128) (further-few 1 (closing s) (length s) (closing-few s))
  where
    by : (t : Bool) → (eqb b 42 && is_slash s) ≡ t → (v : Bool) → further 1 (closing s) ≤ 1 + length s →
        pick t 2 (pick v (further 1 (closing s)) 0) ≤ suc (length s)
    by true e v h = omega (arith, slash-some s (and_second (eqb b 42) (is_slash s) e))
    by false e true h = omega arith
    by false e false h = omega arith

module _ (text : List ℕ) (i : ℕ) where
  abbrev pub closed : Bool
  closed = eqb (get_or text i 0) 42 && is_slash (drop (i + 1) text)

  pub closed-past : length text ≤ i → false ≡ closed
  closed-past l = rw (get_or-eq_default text 0 l)

  pub closed-star : get_or text i 0 ≡ 42 → is_slash (drop (i + 1) text) ≡ closed
  closed-star e = rw e

  pub closed-inside : closed ≡ true → i + 1 < length text
  closed-inside e = slash-inside text (i + 1) (and_second (eqb (get_or text i 0) 42) (is_slash (drop (i + 1) text)) e)

  pub closing-ends : i < length text → closed ≡ true → closing (drop i text) ≡ 2
  unfolding closing
  closing-ends l e = rw (drop-cons text i 0 l, ← add-one i, e)

  pub closing-stops : i < length text → closed ≡ false → 128 ≤ get_or text i 0 → closing (drop i text) ≡ 0
  unfolding closing
  closing-stops l e h = rw (drop-cons text i 0 l, ← add-one i, e, le-ltb (get_or text i 0) 128 h)

  pub closing-goes : i < length text → closed ≡ false → get_or text i 0 < 128 →
      closing (drop i text) ≡ further 1 (closing (drop (i + 1) text))
  unfolding closing
  closing-goes l e h = rw (drop-cons text i 0 l, ← add-one i, e, lt-ltb (get_or text i 0) 128 h, add-one i)

  pub closing-none : length text ≤ i → closing (drop i text) ≡ 0
  unfolding closing
  closing-none l = rw (drop_of_length-le text l)

pub closing-starts : (text : List ℕ) (at : ℕ) → (at ≤ at) × (further (at - at) (closing (drop at text)) ≡ closing (drop at text))
closing-starts text at =
    let e : at - at ≡ 0 = omega arith in
    (omega arith, ap (λ n. further n (closing (drop at text))) e ∙ further-none (closing (drop at text)))

-- The loop from `at` on stands at `i`: what is left to do from here makes the whole.
module _ (text : List ℕ) (at i : ℕ) where
  abbrev pub Closing : Type 0
  Closing = (at ≤ i) × (further (i - at) (closing (drop i text)) ≡ closing (drop at text))

  pub closes_here : Closing → i < length text → closed text i ≡ true → i - at + 2 ≡ closing (drop at text)
  unfolding further
  closes_here h l e = sym (ap (further (i - at)) (closing-ends text i l e)) ∙ h.1

  pub closes-never : Closing → closing (drop i text) ≡ 0 → 0 ≡ closing (drop at text)
  unfolding further
  closes-never h e = sym (ap (further (i - at)) e) ∙ h.1

  pub closes-later : Closing → i < length text → closed text i ≡ false → get_or text i 0 < 128 →
      further (i + 1 - at) (closing (drop (i + 1) text)) ≡ closing (drop at text)
  closes-later h l e a =
      let k : i + 1 - at ≡ i - at + 1 = omega arith in
      ap (λ n. further n (closing (drop (i + 1) text))) k
      ∙ sym (further-one (i - at) (closing (drop (i + 1) text)))
      ∙ sym (ap (further (i - at)) (closing-goes text i l e a))
      ∙ h.1

-- ---- line_comment, block_comment

module _ (text : List ℕ) (at end : ℕ) (q : end ≡ run_end Comment text at) where
  line-rest : drop (span Comment (drop at text)) (drop at text) ≡ drop end text
  unfolding run_end
  line-rest = drop-drop (span Comment (drop at text)) at text ∙ sym (ap (λ n. drop n text) q)

  line-size : end - at + 2 ≡ 2 + span Comment (drop at text)
  unfolding run_end
  line-size = omega arith

  pub line-last : length text ≤ end → end - at + 2 ≡ line_comment (drop at text)
  unfolding line_comment ended_by
  line-last l = rw (line-rest, drop_of_length-le text l) line-size

  pub line-ended : end < length text → is_newline (get_or text end 0) ≡ true → end - at + 2 ≡ line_comment (drop at text)
  unfolding line_comment ended_by
  line-ended l e = rw (line-rest, drop-cons text end 0 l, e) line-size

  pub line-broken : end < length text → is_newline (get_or text end 0) ≡ false → 0 ≡ line_comment (drop at text)
  unfolding line_comment ended_by
  line-broken l e = rw (line-rest, drop-cons text end 0 l, e)

module _ (text : List ℕ) (at n : ℕ) (q : n ≡ closing (drop at text)) where
  pub block_none : n ≡ 0 → 0 ≡ block_comment (drop at text)
  unfolding block_comment further
  block_none e = rw (← q, e)

  pub block-some : (n ≡ 0 → ⊥) → n + 2 ≡ block_comment (drop at text)
  unfolding block_comment further
  block-some h = rw (← q) (by n h)
    where
      by : (n : ℕ) → (n ≡ 0 → ⊥) → n + 2 ≡ further 2 n
      by zero h = absurd (h refl)
      by (suc n) h = omega arith

-- ---- comment

module _ (text : List ℕ) (at : ℕ) where
  two-there : at + 1 < length text → drop at text ≡ get_or text at 0 ∷ get_or text (at + 1) 0 ∷ drop (at + 2) text
  two-there l =
      let e : suc (at + 1) ≡ at + 2 = omega arith in
      let k : at < length text = omega arith in
      rw (drop-cons text at 0 k, ← add-one at, drop-cons text (at + 1) 0 l, e)

  pub comment-short : length text ≤ at + 1 → 0 ≡ comment (drop at text)
  unfolding comment
  comment-short l = by (drop at text) (omega (arith, length-drop at text))
    where
      by : (s : List ℕ) → length s ≤ 1 → 0 ≡ comment s
      by [] h = refl
      by (a ∷ []) h = refl
      by (a ∷ b ∷ s) h = absurd (omega arith)

  module _ (l : at + 1 < length text) where
    pub comment-other : (get_or text at 0 ≡ 47 → ⊥) → 0 ≡ comment (drop at text)
    unfolding comment
    comment-other h = rw (two-there l, ne_eqb (get_or text at 0) 47 h)

    pub comment-line : get_or text at 0 ≡ 47 → get_or text (at + 1) 0 ≡ 47 → line_comment (drop (at + 2) text) ≡ comment (drop at text)
    unfolding comment
    comment-line e f = rw (two-there l, e, f)

    pub comment-block : get_or text at 0 ≡ 47 → get_or text (at + 1) 0 ≡ 42 → block_comment (drop (at + 2) text) ≡ comment (drop at text)
    unfolding comment
    comment-block e f = rw (two-there l, e, f)

    pub comment-neither : get_or text at 0 ≡ 47 → (get_or text (at + 1) 0 ≡ 47 → ⊥) → (get_or text (at + 1) 0 ≡ 42 → ⊥) →
        0 ≡ comment (drop at text)
    unfolding comment
    comment-neither e f g = rw (two-there l, e, ne_eqb (get_or text (at + 1) 0) 47 f, ne_eqb (get_or text (at + 1) 0) 42 g)

-- ---- how far they reach

ended-few : (s : List ℕ) (n m : ℕ) → n ≤ m → ended_by s n ≤ m
unfolding ended_by
ended-few [] n m h = h
ended-few (b ∷ s) n m h = by (is_newline b)
  where
    by : (t : Bool) → pick t n 0 ≤ m
    by true = h
    by false = omega arith

line-few : (s : List ℕ) → line_comment s ≤ 2 + length s
unfolding line_comment
line-few s = ended-few (drop (span Comment s) s) (2 + span Comment s) (2 + length s) (omega (arith, span-few Comment s))

block-few : (s : List ℕ) → block_comment s ≤ 2 + length s
unfolding block_comment
block-few s = further-few 2 (closing s) (length s) (closing-few s)

pub comment-few : (s : List ℕ) → comment s ≤ length s
unfolding comment
comment-few [] = omega arith
comment-few (a ∷ []) = omega arith
comment-few (a ∷ b ∷ s) = by (eqb a 47) (eqb b 47) (eqb b 42) (line-few s) (block-few s)
  where
    by : (t u v : Bool) → line_comment s ≤ 2 + length s → block_comment s ≤ 2 + length s →
        pick t (pick u (line_comment s) (pick v (block_comment s) 0)) 0 ≤ suc (suc (length s))
    by false u v h k = omega arith
    by true true v h k = omega arith
    by true false true h k = omega arith
    by true false false h k = omega arith

either-few : (m n l : ℕ) → m ≤ l → n ≤ l → either m n ≤ l
unfolding either
either-few zero n l h k = k
either-few (suc m) n l h k = h

pub blank-few : (s : List ℕ) → blank s ≤ length s
unfolding blank
blank-few s = either-few (span Space s) (comment s) (length s) (span-few Space s) (comment-few s)

-- ---- blank

module _ (text : List ℕ) (at end : ℕ) (q : end ≡ run_end Space text at) where
  pub blank-space : 0 < end - at → end - at ≡ blank (drop at text)
  unfolding blank either run_end
  blank-space h = by (span Space (drop at text)) (omega arith)
    where
      by : (n : ℕ) → end - at ≡ n → end - at ≡ either n (comment (drop at text))
      by zero e = absurd (omega arith)
      by (suc n) e = e

  pub blank-comment : end - at ≤ 0 → comment (drop at text) ≡ blank (drop at text)
  unfolding blank either run_end
  blank-comment h = let e : span Space (drop at text) ≡ 0 = omega arith in rw e

-- ---- gap: steps to spare change nothing

gaps-spare : (f g : ℕ) (s : List ℕ) → length s ≤ f → length s ≤ g → gaps f s ≡ gaps g s
unfolding gaps onwards
gaps-spare zero zero s h k = refl
gaps-spare zero (suc g) s h k = by (blank s) (blank-few s)
  where
    by : (n : ℕ) → n ≤ length s → 0 ≡ onwards (gaps g) n s
    by zero e = refl
    by (suc n) e = absurd (omega arith)
gaps-spare (suc f) zero s h k = by (blank s) (blank-few s)
  where
    by : (n : ℕ) → n ≤ length s → onwards (gaps f) n s ≡ 0
    by zero e = refl
    by (suc n) e = absurd (omega arith)
gaps-spare (suc f) (suc g) s h k =
    by (blank s) (λ n. gaps-spare f g (drop (suc n) s) (omega (arith, length-drop (suc n) s)) (omega (arith, length-drop (suc n) s)))
  where
    by : (n : ℕ) → ((n : ℕ) → gaps f (drop (suc n) s) ≡ gaps g (drop (suc n) s)) → onwards (gaps f) n s ≡ onwards (gaps g) n s
    by zero e = refl
    by (suc n) e = ap (λ m. suc n + m) (e n)

gaps-few : (f : ℕ) (s : List ℕ) → gaps f s ≤ length s
unfolding gaps onwards
gaps-few zero s = omega arith
gaps-few (suc f) s = by (blank s) (blank-few s) (λ n. gaps-few f (drop (suc n) s))
  where
    by : (n : ℕ) → n ≤ length s → ((n : ℕ) → gaps f (drop (suc n) s) ≤ length (drop (suc n) s)) → onwards (gaps f) n s ≤ length s
    by zero h e = omega arith
    by (suc n) h e = omega (arith, e n, length-drop (suc n) s)

pub gap-few : (s : List ℕ) → gap s ≤ length s
unfolding gap
gap-few s = gaps-few (length s) s

module _ (text : List ℕ) (i : ℕ) where
  abbrev pub gap_end : ℕ
  gap_end = i + gap (drop i text)

  pub gap-past : length text ≤ i → i ≡ gap_end
  unfolding gap gaps
  gap-past l = rw (drop_of_length-le text l) (omega arith)

  pub gap-stays : blank (drop i text) ≡ 0 → i ≡ gap_end
  unfolding gap gaps onwards
  gap-stays e = by (length (drop i text))
    where
      by : (f : ℕ) → i ≡ i + gaps f (drop i text)
      by zero = omega arith
      by (suc f) = rw e (omega arith)

pub gap-goes : (text : List ℕ) (i n : ℕ) → i < length text → n ≡ blank (drop i text) → (n ≡ 0 → ⊥) → gap_end text i ≡ gap_end text (i + n)
unfolding gap gaps onwards
gap-goes text i n l e h = by n e h (length (drop i text)) refl
  where
    by : (n : ℕ) → n ≡ blank (drop i text) → (n ≡ 0 → ⊥) → (f : ℕ) → length (drop i text) ≡ f →
        i + gaps f (drop i text) ≡ i + n + gaps (length (drop (i + n) text)) (drop (i + n) text)
    by zero e h f k = absurd (h refl)
    by (suc n) e h zero k = absurd (omega (arith, length-drop i text))
    by (suc n) e h (suc f) k =
        let s = drop (i + suc n) text in
        let q = length-drop i text in
        let p = length-drop (i + suc n) text in
        rw (← e, drop-drop (suc n) i text, gaps-spare f (length s) s (omega arith) (omega arith)) (omega arith)
