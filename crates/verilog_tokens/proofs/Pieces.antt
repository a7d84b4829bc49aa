-- Laws of the token at a place, row by row. Assumes nothing.
use mathlib.Core.Path.{◌≡◌, refl, sym, ap, ◌∙◌}
use mathlib.Core.Bool.{Bool, true, false, false≢true}
use mathlib.Core.List.{List, [], ◌∷◌}
use Prim.Native.Nat.{ℕ, ◌+◌, ◌-◌, ◌<◌, ◌≤◌}
use native.Mathlib.Numerals.{add-one}
use native.Mathlib.Omega.{arith}
use borrow.Author.Tests.{eqb-true, eq-eqb, ne_eqb}
use lib.Dec.{eqb}
use lib.ListN.{length, get_or, take, drop, length-take, length-drop, drop_of_length-le}
use lib.Seq.{drop-cons, take_all}
use Rattle.values.specs.Values.{pick}
use Rattle.verilog_tokens.specs.declared.Class.{Class}
use Rattle.verilog_tokens.specs.declared.Class.TheVariants.{Word, Decimal}
use Rattle.verilog_tokens.specs.Characters.{is_letter, is_below, span, run_end, numeral}
use Rattle.verilog_tokens.specs.Words.{is_keyword, signs, opens_with, first_of}
use Rattle.verilog_tokens.specs.Tokens.{word_token, word, number_token, unsigned, based, sign_token, sign, opening, token_by}
use Rattle.verilog_tokens.specs.Table.{terminals, number_from, kind_of, up_to255, number_in}
use Rattle.verilog_tokens.specs.Pieces.{piece, piece_of, piece_in, piece_from, piece_at, unnamed}

-- ---- runs

pub run-size : (c : Class) (text : List ℕ) (at end : ℕ) → end ≡ run_end c text at → end - at ≡ span c (drop at text)
unfolding run_end
run-size c text at end q = omega arith

-- ---- words

module _ (p : ℕ) (w : List ℕ) where
  word-kind : kind_of (word_token 0 w) ≡ kind_of (word_token p w)
  unfolding kind_of word_token
  word-kind = by (is_keyword w) refl
    where
      by : (t : Bool) → is_keyword w ≡ t → kind_of (word_token 0 w) ≡ kind_of (word_token p w)
      by true e = rw e
      by false e = rw e

  word_number : 0 ≡ number_in unnamed (word_token p w)
  unfolding number_in word_token unnamed
  word_number = by (is_keyword w) refl
    where
      by : (t : Bool) → is_keyword w ≡ t → 0 ≡ number_in unnamed (word_token p w)
      by true e = rw e
      by false e = rw e

pub piece-word : (text : List ℕ) (at end k : ℕ) → end ≡ run_end Word text at →
    k ≡ kind_of (word_token 0 (take (end - at) (drop at text))) → piece k 0 (end - at) ≡ piece_in (word 0 (drop at text))
unfolding piece_in piece_of word
piece-word text at end k q e =
    let s = drop at text in
    let w = take (end - at) s in
    let z = run-size Word text at end q in
    rw (e, ← z) (ap (λ x. piece (kind_of (word_token 0 w)) x (end - at)) (word_number 0 w))

word-place : (p : ℕ) (s : List ℕ) → piece_in (word 0 s) ≡ piece_in (word p s)
unfolding piece_in piece_of word
word-place p s =
    let w = take (span Word s) s in
    ap (λ x. piece x (number_in unnamed (word_token 0 w)) (span Word s)) (word-kind p w)
    ∙ ap (λ x. piece (kind_of (word_token p w)) x (span Word s)) (sym (word_number 0 w) ∙ word_number p w)

-- ---- numbers

pub piece-number : (text : List ℕ) (at end k n : ℕ) → end ≡ run_end Decimal text at →
    k ≡ kind_of (number_token (take (end - at) (drop at text))) → n ≡ up_to255 (numeral 10 (take (end - at) (drop at text))) →
    piece k n (end - at) ≡ piece_in (unsigned (drop at text))
unfolding piece_in piece_of unsigned number_in number_token
piece-number text at end k n q e f = let z = run-size Decimal text at end q in rw (e, f, ← z)

-- ---- signs

opens-is : (w s : List ℕ) → opens_with w s ≡ true → w ≡ take (length w) s
unfolding opens_with
opens-is [] s e = refl
opens-is (c ∷ cs) [] e = absurd (false≢true e)
opens-is (c ∷ cs) (b ∷ s) e = by (eqb c b) refl e (opens-is cs s)
  where
    by : (t : Bool) → eqb c b ≡ t → pick t (opens_with cs s) false ≡ true → (opens_with cs s ≡ true → cs ≡ take (length cs) s) →
        c ∷ cs ≡ b ∷ take (length cs) s
    by true q e h = let z = eqb-true c b q in let r = h e in cc
    by false q e h = absurd (false≢true e)

first-front : (ws : List (List ℕ)) (s : List ℕ) → first_of ws s ≡ take (length (first_of ws s)) s
unfolding first_of
first-front [] s = refl
first-front (w ∷ ws) s = by (opens_with w s) refl (first-front ws s)
  where
    by : (t : Bool) → opens_with w s ≡ t → first_of ws s ≡ take (length (first_of ws s)) s →
        pick t w (first_of ws s) ≡ take (length (pick t w (first_of ws s))) s
    by true e h = opens-is w s e
    by false e h = h

pub first-few : (ws : List (List ℕ)) (s : List ℕ) → length (first_of ws s) ≤ length s
first-few ws s = omega (arith, ap length (first-front ws s), length-take (length (first_of ws s)) s)

module _ (text : List ℕ) (at n : ℕ) (q : n ≡ length (first_of signs (take (length text - at) (drop at text)))) where
  sign-length : n ≡ length (first_of signs (drop at text))
  sign-length = q ∙ ap (λ s. length (first_of signs s)) (take_all (length text - at) (drop at text) (omega (arith, length-drop at text)))

  pub sign-few : n ≤ length text - at
  sign-few =
      let s = drop at text in
      let e = sign-length in
      omega (arith, first-few signs s, length-drop at text)

  pub sign-none : n ≡ 0 → piece 69 0 0 ≡ piece_in (sign (drop at text))
  unfolding piece_in piece_of sign sign_token kind_of number_in
  sign-none e = by (first_of signs (drop at text)) (sym sign-length ∙ e)
    where
      by : (w : List ℕ) → length w ≡ 0 → piece 69 0 0 ≡ piece_of (sign_token w) (length w)
      by [] h = refl
      by (b ∷ w) h = absurd (omega arith)

  pub sign-some : (n ≡ 0 → ⊥) → (end k : ℕ) → end ≡ at + n → k ≡ number_from 1 terminals (take (end - at) (drop at text)) →
      piece k 0 n ≡ piece_in (sign (drop at text))
  unfolding piece_in piece_of sign sign_token kind_of number_in
  sign-some h end k f g =
      let s = drop at text in
      let e = sign-length in
      let z : end - at ≡ length (first_of signs s) = omega arith in
      by (first_of signs s) e (g ∙ ap (λ x. number_from 1 terminals (take x s)) z ∙ sym (ap (number_from 1 terminals) (first-front signs s)))
    where
      by : (w : List ℕ) → n ≡ length w → k ≡ number_from 1 terminals w → piece k 0 n ≡ piece_of (sign_token w) (length w)
      by [] e j = absurd (h e)
      by (b ∷ w) e j = rw (j, e)

-- ---- the token at a place

module _ (text : List ℕ) (at : ℕ) where
  pub at-end : length text ≤ at → piece 0 0 0 ≡ piece_at text at
  unfolding piece_at piece_from
  at-end l = rw (drop_of_length-le text l)

  module _ (l : at < length text) where
    pub at-word : is_letter (get_or text at 0) ≡ true → piece_in (word 0 (drop at text)) ≡ piece_at text at
    unfolding piece_at piece_from opening token_by
    at-word e = word-place at (drop at text) ∙ rw (drop-cons text at 0 l, e)

    pub at-number : is_letter (get_or text at 0) ≡ false → is_below 10 (get_or text at 0) ≡ true →
        piece_in (unsigned (drop at text)) ≡ piece_at text at
    unfolding piece_at piece_from opening token_by
    at-number e f = rw (drop-cons text at 0 l, e, f)

    pub at_value : is_letter (get_or text at 0) ≡ false → is_below 10 (get_or text at 0) ≡ false → get_or text at 0 ≡ 39 →
        piece_in (based (drop (at + 1) text)) ≡ piece_at text at
    unfolding piece_at piece_from opening token_by
    at_value e f g = rw (drop-cons text at 0 l, e, f, eq-eqb (get_or text at 0) 39 g, add-one at)

    pub at_sign : is_letter (get_or text at 0) ≡ false → is_below 10 (get_or text at 0) ≡ false → (get_or text at 0 ≡ 39 → ⊥) →
        piece_in (sign (drop at text)) ≡ piece_at text at
    unfolding piece_at piece_from opening token_by
    at_sign e f g = rw (drop-cons text at 0 l, e, f, ne_eqb (get_or text at 0) 39 g)
