-- A piece of the printed text in front of others: a keyword or a sign, a name, a number, a constant. Assumes nothing.
use mathlib.Core.Path.{◌≡◌, refl, ap, ◌∙◌}
use mathlib.Core.Bool.{Bool, true, false, not, ◌&&◌, false≢true}
use mathlib.Core.List.{List, [], ◌∷◌, ◌++◌}
use Prim.Native.Nat.{ℕ, suc, ◌+◌, ◌^◌, ◌≤◌, ◌<◌}
use native.Mathlib.Omega.{arith}
use borrow.Author.Tests.{ne_eqb, ltb-false}
use lib.Dec.{ltb, eqb}
use lib.ListN.{length, take, drop}
use lib.Seq.{take-append_seam}
use Rattle.values.specs.Values.{pick}
use Rattle.hextext.specs.Characters.{digit_of}
use Rattle.writing.specs.Ascii.{ascii}
use Rattle.writing.specs.Numbers.{decimal}
use Rattle.naming.specs.Naming.{plain_mark, plain_number, plain_name, same_text}
use Rattle.verilog_tokens.specs.declared.Class.TheVariants.{Space, Word, Decimal, Binary}
use Rattle.verilog_tokens.specs.Characters.{is_newline, is_space, is_letter, is_below, is_x, is_named, is_underscore, is_digit, in_class, span, every}
use Rattle.verilog_tokens.specs.Words.{keywords, is_among, is_keyword, signs, first_of}
use Rattle.verilog_tokens.specs.Tokens as T
use Rattle.verilog_tokens.specs.Tokens.{Token, terminal, name, known, lexeme, word_token, word, number_token, unsigned, base_of, radix_of, decimal_digits, digits_in, is_known, is_unknown, value_token, value_behind, value, based, sign_token, sign, opens_sign, opening, token_by, goes_on}
use Rattle.verilog_lexed.specs.Lexed.{From, blanks, names, counts, values, unknowns}
use Rattle.verilog_lexed.proofs.Steps.{Reads, reads_as, reads-blank, reads-token}
use Rattle.verilog_lexed.proofs.Digits.{Digit, Digits, decimal-digits, decimal-some, digit-below, digit-no-letter, digit-no-space, digit-no-slash, digit-no-x, digit-decimal-class, digit-word-class, span_run, every-digit, number-decimal, value-decimal}

-- ---- words

letter-high : (b : ℕ) → is_letter b ≡ true → 65 ≤ b
unfolding is_letter
letter-high b e = by (ltb b 65) refl e
  where
    by : (t : Bool) → ltb b 65 ≡ t → pick t false (pick (ltb b 91) true (pick (eqb b 95) true (pick (ltb b 97) false (ltb b 123)))) ≡ true
        → 65 ≤ b
    by true q h = absurd (false≢true h)
    by false q h = ltb-false b 65 q

module _ (b : ℕ) (e : is_letter b ≡ true) where
  letter-not : (n : ℕ) → n < 65 → eqb b n ≡ false
  letter-not n l = let h = letter-high b e in ne_eqb b n (omega arith)

  letter-no-space : is_space b ≡ false
  unfolding is_space is_newline
  letter-no-space =
      rw (
        letter-not 32 (omega arith),
        letter-not 9 (omega arith),
        letter-not 12 (omega arith),
        letter-not 10 (omega arith),
        letter-not 13 (omega arith),
      )

  letter-class : in_class Word b ≡ true
  unfolding in_class is_named
  letter-class = rw e

module _ (s : List ℕ) (b : ℕ) (v : List ℕ) (e : is_letter b ≡ true) (h : every (in_class Word) v ≡ true) (g : span Word s ≡ 0) where
  word-span : span Word (b ∷ v ++ s) ≡ suc (length v)
  unfolding every
  word-span = span_run Word (b ∷ v) s (rw (letter-class b e, h)) g

  word-lexes : (p : ℕ) → token_by (opening b) p b (v ++ s) ≡ lexeme (word_token p (b ∷ v)) (suc (length v))
  unfolding token_by opening word
  word-lexes p =
      rw e
      (ap (λ (n : ℕ). lexeme (word_token p (take n (b ∷ v ++ s))) n) word-span
      ∙ ap (λ (w : List ℕ). lexeme (word_token p (b ∷ w)) (suc (length v))) (take-append_seam v s))

  keyword-first : is_keyword (b ∷ v) ≡ true → {k : From} → Reads s k → Reads (b ∷ v ++ s) (λ p. terminal (b ∷ v) ∷ k (p + suc (length v)))
  unfolding word_token goes_on
  keyword-first q r =
      reads-token s b v (λ p. terminal (b ∷ v)) (letter-no-space b e) (letter-not b e 47 (omega arith))
      (λ p. word-lexes p ∙ rw q) (λ p. refl) r

  name-first : is_keyword (b ∷ v) ≡ false → {k : From} → Reads s k → Reads (b ∷ v ++ s) (names (b ∷ v) k)
  unfolding word_token goes_on names
  name-first q r =
      reads-token s b v (λ p. name (record { place = p; spelled = b ∷ v })) (letter-no-space b e) (letter-not b e 47 (omega arith))
      (λ p. word-lexes p ∙ rw q) (λ p. refl) r

-- ---- keywords

unfoldable pub worded : List ℕ → Bool
worded [] = false
worded (b ∷ v) = is_letter b && (every (in_class Word) v)

and_first : (a b : Bool) → (a && b) ≡ true → a ≡ true
and_first true b e = refl
and_first false b e = e

and_second : (a b : Bool) → (a && b) ≡ true → b ≡ true
and_second true b e = e
and_second false b e = absurd (false≢true e)

-- A keyword with a blank behind it.
pub keyword-reads : {s : List ℕ} {k : From} (u : List ℕ) (c : ℕ) → worded u ≡ true → is_keyword u ≡ true → is_space c ≡ true
    → is_named c ≡ false → Reads s k → Reads (u ++ c ∷ s) (λ p. terminal u ∷ k (p + length u + 1))
unfolding worded blanks span in_class
keyword-reads [] c w q e n r = absurd (false≢true w)
keyword-reads {s} (b ∷ v) c w q e n r =
    let a = is_letter b in
    let z = every (in_class Word) v in
    keyword-first (c ∷ s) b v (and_first a z w) (and_second a z w) (rw n) q (reads-blank c e r)

-- A name that is written out.
pub named-reads : {s : List ℕ} {k : From} (u : List ℕ) → worded u ≡ true → is_keyword u ≡ false → span Word s ≡ 0 → Reads s k
    → Reads (u ++ s) (names u k)
unfolding worded
named-reads [] w q e r = absurd (false≢true w)
named-reads {s} (b ∷ v) w q e r =
    let a = is_letter b in
    let z = every (in_class Word) v in
    name-first s b v (and_first a z w) (and_second a z w) e q r

-- ---- plain names: a letter, then digits. No keyword has a digit in its second place.

unfoldable secondly : List ℕ → Bool
secondly [] = true
secondly (a ∷ []) = true
secondly (a ∷ c ∷ w) = not (ltb c 58)

unfoldable all_secondly : List (List ℕ) → Bool
all_secondly [] = true
all_secondly (w ∷ ws) = secondly w && all_secondly ws

module _ (m d : ℕ) (v : List ℕ) (h : Digit d) where
  same_not : (w : List ℕ) → secondly w ≡ true → same_text w (m ∷ d ∷ v) ≡ false
  unfolding secondly same_text
  same_not [] e = refl
  same_not (a ∷ []) e = by (eqb a m)
    where
      by : (t : Bool) → pick t false false ≡ false
      by true = refl
      by false = refl
  same_not (a ∷ c ∷ w) e = by (ltb c 58) refl e (eqb a m)
    where
      by : (t : Bool) → ltb c 58 ≡ t → not t ≡ true → (u : Bool) → pick u (pick (eqb c d) (same_text w v) false) false ≡ false
      by true q f u = absurd (false≢true f)
      by false q f true = let high = h.high in let l = ltb-false c 58 q in rw (ne_eqb c d (omega arith))
      by false q f false = refl

  among-not : (ws : List (List ℕ)) → all_secondly ws ≡ true → is_among ws (m ∷ d ∷ v) ≡ false
  unfolding all_secondly is_among
  among-not [] e = refl
  among-not (w ∷ ws) e =
      let a = secondly w in
      let b = all_secondly ws in
      rw (same_not w (and_first a b e)) (among-not ws (and_second a b e))

all-secondly : all_secondly keywords ≡ true
unfolding all_secondly secondly keywords ascii
all-secondly = refl

plain-mark : (i r v : ℕ) → is_letter (plain_mark i r v) ≡ true
unfolding plain_mark is_letter
plain-mark i r v = by (ltb v i) (ltb v (i + r))
  where
    by : (a b : Bool) → is_letter (pick a 105 (pick b 114 119)) ≡ true
    by true b = refl
    by false true = refl
    by false false = refl

plain_by : {s : List ℕ} {k : From} (m : ℕ) (ds : List ℕ) → is_letter m ≡ true → 1 ≤ length ds → Digits ds → span Word s ≡ 0 → Reads s k
    → Reads (m ∷ ds ++ s) (names (m ∷ ds) k)
unfolding is_keyword Digits
plain_by m [] e l h g r = absurd (omega arith)
plain_by {s} m (d ∷ ds) e l h g r =
    name-first s m (d ∷ ds) e (every-digit (in_class Word) digit-word-class (d ∷ ds) h) g
    (among-not m d ds h.0 keywords all-secondly) r

pub name-reads : {s : List ℕ} {k : From} (i r v : ℕ) → span Word s ≡ 0 → Reads s k
    → Reads (plain_name i r v ++ s) (names (plain_name i r v) k)
unfolding plain_name
name-reads i r v g h =
    let n = plain_number i r v in
    plain_by (plain_mark i r v) (decimal n) (plain-mark i r v) (decimal-some n) (decimal-digits n) g h

-- ---- signs

module _ {s : List ℕ} {k : From} (b : ℕ) (v : List ℕ) where
  -- A sign: the first of the signs that the text opens with.
  pub sign_reads : opening b ≡ opens_sign → is_space b ≡ false → eqb b 47 ≡ false → first_of signs (b ∷ v ++ s) ≡ b ∷ v → Reads s k
      → Reads (b ∷ v ++ s) (λ p. terminal (b ∷ v) ∷ k (p + suc (length v)))
  unfolding goes_on token_by sign sign_token
  sign_reads o e h f r = reads-token s b v (λ p. terminal (b ∷ v)) e h lexes (λ p. refl) r
    where
      lexes : (p : ℕ) → token_by (opening b) p b (v ++ s) ≡ lexeme (terminal (b ∷ v)) (suc (length v))
      lexes p = rw (o, f)

-- ---- numbers

digits-reads : {s : List ℕ} {k : From} (ds : List ℕ) → 1 ≤ length ds → Digits ds → span Decimal s ≡ 0 → Reads s k
    → Reads (ds ++ s) (λ p. number_token ds ∷ k (p + length ds))
unfolding Digits goes_on number_token token_by opening unsigned
digits-reads [] l h g r = absurd (omega arith)
digits-reads {s} (d ∷ ds) l h g r =
    reads-token s d ds (λ p. number_token (d ∷ ds)) (digit-no-space d h.0) (digit-no-slash d h.0) (λ p. lexes p) (λ p. refl) r
  where
    lexes : (p : ℕ) → token_by (opening d) p d (ds ++ s) ≡ lexeme (number_token (d ∷ ds)) (suc (length ds))
    lexes p =
        let n = span_run Decimal (d ∷ ds) s (every-digit (in_class Decimal) digit-decimal-class (d ∷ ds) h) g in
        rw (digit-no-letter d h.0, digit-below d h.0)
        (ap (λ (n : ℕ). lexeme (number_token (take n (d ∷ ds ++ s))) n) n
        ∙ ap (λ (w : List ℕ). lexeme (number_token (d ∷ w)) (suc (length ds))) (take-append_seam ds s))

pub count-reads : {s : List ℕ} {k : From} (n : ℕ) → n < 2 ^ 64 → span Decimal s ≡ 0 → Reads s k → Reads (decimal n ++ s) (counts n k)
unfolding counts
count-reads {k = k} n h g r =
    reads_as (λ p. ap (λ (t : Token). t ∷ k (p + length (decimal n))) (number-decimal n h))
    (digits-reads (decimal n) (decimal-some n) (decimal-digits n) g r)

-- ---- values

module _ (s : List ℕ) (d : ℕ) (ds : List ℕ) (h : Digits (d ∷ ds)) (g : span Decimal s ≡ 0) where
  first-digit : Digit d
  unfolding Digits
  first-digit = h.0

  no-blank : span Space (d ∷ ds ++ s) ≡ 0
  unfolding span in_class
  no-blank = rw (digit-no-space d first-digit)

  value-size : digits_in T.decimal (d ∷ ds ++ s) ≡ suc (length ds)
  unfolding digits_in decimal_digits
  value-size =
      rw (digit-no-x d first-digit) (span_run Decimal (d ∷ ds) s (every-digit (in_class Decimal) digit-decimal-class (d ∷ ds) h) g)

  value-behind : value_behind T.decimal 0 (d ∷ ds ++ s) ≡ lexeme (value_token 10 (d ∷ ds)) (suc (suc (suc (length ds))))
  unfolding value_behind radix_of
  value-behind =
      let z : 2 + 0 + suc (length ds) ≡ suc (suc (suc (length ds))) = omega arith in
      ap (λ (n : ℕ). lexeme (value_token 10 (take n (d ∷ ds ++ s))) (2 + 0 + n)) value-size
      ∙ ap (λ (w : List ℕ). lexeme (value_token 10 (d ∷ w)) (2 + 0 + suc (length ds))) (take-append_seam ds s)
      ∙ ap (lexeme (value_token 10 (d ∷ ds))) z

  value-lexes : (p : ℕ)
      → token_by (opening 39) p 39 (100 ∷ d ∷ ds ++ s) ≡ lexeme (value_token 10 (d ∷ ds)) (suc (suc (suc (length ds))))
  unfolding token_by opening is_letter is_below digit_of based base_of value
  value-lexes p = ap (λ (n : ℕ). value_behind T.decimal n (drop n (d ∷ ds ++ s))) no-blank ∙ value-behind

value-by : {s : List ℕ} {k : From} (ds : List ℕ) (v : ℕ) → value_token 10 ds ≡ known v → 1 ≤ length ds → Digits ds → span Decimal s ≡ 0
    → Reads s k → Reads (39 ∷ 100 ∷ ds ++ s) (λ p. known v ∷ k (p + suc (suc (length ds))))
unfolding goes_on is_space is_newline
value-by [] v e l h g r = absurd (omega arith)
value-by {s} (d ∷ ds) v e l h g r =
    reads-token s 39 (100 ∷ d ∷ ds) (λ p. known v) refl refl
    (λ p. value-lexes s d ds h g p ∙ ap (λ (t : Token). lexeme t (suc (suc (suc (length ds))))) e) (λ p. refl) r

pub value-reads : {s : List ℕ} {k : From} (v : ℕ) → v < 2 ^ 64 → span Decimal s ≡ 0 → Reads s k
    → Reads (ascii "'d" ++ (decimal v ++ s)) (values v k)
unfolding ascii values
value-reads v h g r = value-by (decimal v) v (value-decimal v h) (decimal-some v) (decimal-digits v) g r

-- ---- x

x-size : (s : List ℕ) → span Binary s ≡ 0 → span Binary (120 ∷ s) ≡ 1
unfolding span in_class is_digit is_below digit_of is_x
x-size s g = ap suc g

x-lexes : (s : List ℕ) → span Binary s ≡ 0 → (p : ℕ) → token_by (opening 39) p 39 (98 ∷ 120 ∷ s) ≡ lexeme T.unknown 3
unfolding token_by opening is_letter is_below digit_of based base_of value value_behind radix_of digits_in value_token is_space is_newline is_x is_underscore span in_class every is_known is_unknown
x-lexes s g p =
    ap (λ (n : ℕ). lexeme (value_token 2 (take n (120 ∷ s))) (2 + 0 + n)) (x-size s g) ∙ x-token
  where
    x-token : lexeme (value_token 2 (120 ∷ [])) 3 ≡ lexeme T.unknown 3
    x-token = refl

pub unknown-reads : {s : List ℕ} {k : From} → span Binary s ≡ 0 → Reads s k → Reads (ascii "'bx" ++ s) (unknowns k)
unfolding ascii unknowns goes_on is_space is_newline
unknown-reads {s} g r = reads-token s 39 (98 ∷ 120 ∷ []) (λ p. T.unknown) refl refl (x-lexes s g) (λ p. refl) r
