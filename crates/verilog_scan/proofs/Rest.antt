-- The tokens from a place on. Each has at least one byte, so that the steps of `from_gap` are never spent. Assumes nothing.
use mathlib.Core.Path.{◌≡◌, refl, sym, ap, ◌∙◌}
use mathlib.Core.Bool.{Bool, true, false, not, ◌||◌, false≢true}
use mathlib.Core.List.{List, [], ◌∷◌}
use Prim.Native.Nat.{ℕ, zero, suc, ◌+◌, ◌<◌, ◌≤◌}
use native.Mathlib.Omega.{arith}
use borrow.Author.Tests.{ne_eqb}
use lib.Dec.{eqb}
use lib.ListN.{length, get_or, take, drop, length-map, length-drop, drop_of_length-le}
use lib.Seq.{drop-cons, drop-drop}
use Rattle.values.specs.Values.{pick}
use Rattle.verilog_tokens.specs.declared.Class.{Class}
use Rattle.verilog_tokens.specs.declared.Class.TheVariants.{Space, Word, Decimal}
use Rattle.verilog_tokens.specs.Characters.{is_letter, is_below, is_underscore, is_named, in_class, every, numeral, span}
use Rattle.verilog_tokens.specs.Words.{is_keyword, signs, first_of}
use Rattle.verilog_tokens.specs.Tokens.{Token, terminal, name, number, known, unknown, broken, Name, Lexeme, Located, gap, word_token, word}
use Rattle.verilog_tokens.specs.Tokens.{number_token, unsigned, Base, base, none, base_of, radix_of, digits_in, is_known, is_unknown, value_token}
use Rattle.verilog_tokens.specs.Tokens.{value_behind, value, based, sign_token, sign, Opening, opens_word, opens_number, opens_value, opens_sign}
use Rattle.verilog_tokens.specs.Tokens.{opening, token_by, goes_on, and_then, from_token, from_gap, located, tokens}
use Rattle.verilog_tokens.specs.Table.{terminals, number_from, kind_of, name_in, place_of, number_in}
use Rattle.verilog_tokens.specs.Pieces.{piece, piece_of, piece_in, piece_from, piece_at, unnamed}
use Rattle.verilog_tokens.proofs.Runs.{span-few}
use Rattle.verilog_tokens.proofs.Comments.{gap-few}
use Rattle.verilog_tokens.proofs.Bases.{digits-few, digits-by}
use Rattle.verilog_tokens.proofs.Pieces.{first-few}
use Rattle.verilog_tokens.proofs.Tables.{terminal-kinds}
use Rattle.verilog_scan.specs.Scan.{spelled_at, name_at, gap_from}

-- ---- a token's length

value-few : (B : Base) (s : List ℕ) → (value B s).size ≤ 2 + length s
unfolding value value_behind
value-few none s = omega arith
value-few (base r) s =
    let n = span Space s in
    omega (arith, digits-few (radix_of r) (drop n s), digits-by r (drop n s), length-drop n s, span-few Space s)

based-few : (s : List ℕ) → (based s).size ≤ 1 + length s
unfolding based
based-few [] = omega arith
based-few (b ∷ s) = omega (arith, value-few (base_of b) s)

pub token-few : (o : Opening) (p b : ℕ) (s : List ℕ) → (token_by o p b s).size ≤ suc (length s)
unfolding token_by word unsigned sign
token-few opens_word p b s = span-few Word (b ∷ s)
token-few opens_number p b s = span-few Decimal (b ∷ s)
token-few opens_value p b s = omega (arith, based-few s)
token-few opens_sign p b s = first-few signs (b ∷ s)

span-some : (c : Class) (b : ℕ) (s : List ℕ) → in_class c b ≡ true → 1 ≤ span c (b ∷ s)
unfolding span
span-some c b s e = rw e (omega arith)

word-class : (b : ℕ) → is_letter b ≡ true → in_class Word b ≡ true
unfolding in_class is_named
word-class b e = rw e

decimal-class : (b : ℕ) → is_below 10 b ≡ true → in_class Decimal b ≡ true
unfolding in_class
decimal-class b e = rw e (by (is_underscore b))
  where
    by : (t : Bool) → (t || true) ≡ true
    by true = refl
    by false = refl

value-some : (B : Base) (s : List ℕ) → 1 ≤ (value B s).size
unfolding value value_behind
value-some none s = omega arith
value-some (base r) s = omega arith

based-some : (s : List ℕ) → 1 ≤ (based s).size
unfolding based
based-some [] = omega arith
based-some (b ∷ s) = value-some (base_of b) s

sign-some : (w : List ℕ) → goes_on (sign_token w) ≡ true → 1 ≤ length w
unfolding sign_token goes_on
sign-some [] e = absurd (false≢true e)
sign-some (b ∷ w) e = omega arith

-- A token behind which others may stand has a byte.
pub token-some : (p b : ℕ) (s : List ℕ) → goes_on (token_by (opening b) p b s).token ≡ true → 1 ≤ (token_by (opening b) p b s).size
unfolding token_by word unsigned sign opening
token-some p b s e = by (is_letter b) refl (is_below 10 b) refl (eqb b 39) e
  where
    by : (t : Bool) → is_letter b ≡ t → (u : Bool) → is_below 10 b ≡ u → (v : Bool) →
        goes_on (token_by (pick t opens_word (pick u opens_number (pick v opens_value opens_sign))) p b s).token ≡ true →
        1 ≤ (token_by (pick t opens_word (pick u opens_number (pick v opens_value opens_sign))) p b s).size
    by true q u r v e = span-some Word b s (word-class b q)
    by false q true r v e = span-some Decimal b s (decimal-class b r)
    by false q false r true e = based-some s
    by false q false r false e = sign-some (first_of signs (b ∷ s)) e

-- ---- steps to spare change nothing

token-by : (F G : ℕ → List ℕ → List Located) (m : ℕ) → ((p : ℕ) (s : List ℕ) → length s < m → F p s ≡ G p s) →
    (p : ℕ) (s : List ℕ) → length s ≤ m → from_token F p s ≡ from_token G p s
unfolding from_token and_then
token-by F G m h p [] l = refl
token-by F G m h p (b ∷ s) l =
    let t = token_by (opening b) p b s in
    ap (λ (r : List Located). record { token = t.token; place = p } ∷ r) (by (goes_on t.token) refl)
  where
    by : (v : Bool) → goes_on (token_by (opening b) p b s).token ≡ v →
        and_then v F (p + (token_by (opening b) p b s).size) (drop (token_by (opening b) p b s).size (b ∷ s))
        ≡ and_then v G (p + (token_by (opening b) p b s).size) (drop (token_by (opening b) p b s).size (b ∷ s))
    by true e =
        let n = (token_by (opening b) p b s).size in
        h (p + n) (drop n (b ∷ s)) (omega (arith, token-some p b s e, length-drop n (b ∷ s)))
    by false e = refl

gap-spare : (f g p : ℕ) (s : List ℕ) → length s < f → length s < g → from_gap f p s ≡ from_gap g p s
unfolding from_gap
gap-spare zero g p s h k = absurd (omega arith)
gap-spare (suc f) zero p s h k = absurd (omega arith)
gap-spare (suc f) (suc g) p s h k =
    token-by (from_gap f) (from_gap g) (length s) (λ q r l. gap-spare f g q r (omega arith) (omega arith)) (p + gap s) (drop (gap s) s)
    (omega (arith, length-drop (gap s) s))

token-spare : (f g p : ℕ) (s : List ℕ) → length s ≤ f → length s ≤ g → from_token (from_gap f) p s ≡ from_token (from_gap g) p s
token-spare f g p s h k =
    token-by (from_gap f) (from_gap g) (length s) (λ q r l. gap-spare f g q r (omega arith) (omega arith)) p s (omega arith)

-- ---- no text has more tokens than bytes

count_by : (F : ℕ → List ℕ → List Located) → ((p : ℕ) (s : List ℕ) → length (F p s) ≤ length s) →
    (p : ℕ) (s : List ℕ) → length (from_token F p s) ≤ length s
unfolding from_token and_then
count_by F h p [] = omega arith
count_by F h p (b ∷ s) = by (goes_on (token_by (opening b) p b s).token) refl
  where
    by : (v : Bool) → goes_on (token_by (opening b) p b s).token ≡ v →
        suc (length (and_then v F (p + (token_by (opening b) p b s).size) (drop (token_by (opening b) p b s).size (b ∷ s)))) ≤ suc (length s)
    by true e =
        let n = (token_by (opening b) p b s).size in
        omega (arith, h (p + n) (drop n (b ∷ s)), token-some p b s e, length-drop n (b ∷ s))
    by false e = omega arith

count-gap : (f p : ℕ) (s : List ℕ) → length (from_gap f p s) ≤ length s
unfolding from_gap
count-gap zero p s = omega arith
count-gap (suc f) p s =
    omega (arith, count_by (from_gap f) (count-gap f) (p + gap s) (drop (gap s) s), length-drop (gap s) s)

pub tokens-few : (text : List ℕ) → length (tokens text) ≤ length text
unfolding tokens located
tokens-few text =
    omega (arith, count-gap (suc (length text)) 0 text, length-map (from_gap (suc (length text)) 0 text) (λ (l : Located). l.token))

-- ---- the tokens from a place on

goes-kind : (t : Token) → goes_on t ≡ not (eqb (kind_of t) 69)
unfolding goes_on kind_of
goes-kind (terminal s) = rw (ne_eqb (number_from 1 terminals s) 69 (terminal-kinds s 69 (omega arith) (omega arith)))
goes-kind (name n) = refl
goes-kind (number true n) = refl
goes-kind (number false n) = refl
goes-kind (known v) = refl
goes-kind unknown = refl
goes-kind broken = refl

module _ (text : List ℕ) (at : ℕ) where
  -- All of them, where no gap stands at the place.
  unfoldable pub rest_at : List Located
  rest_at = from_token (from_gap (length text)) at (drop at text)

  -- The first of them.
  unfoldable pub lex_at : Lexeme
  lex_at = token_by (opening (get_or text at 0)) at (get_or text at 0) (drop (suc at) text)

  -- Where the one behind it begins.
  unfoldable pub next_at : ℕ
  next_at = pick (eqb (kind_of lex_at.token) 69) (length text) (gap_from text (at + lex_at.size))

  pub gap-inside : at ≤ length text → gap_from text at ≤ length text
  unfolding gap_from
  gap-inside h = omega (arith, gap-few (drop at text), length-drop at text)

  pub gap-after : at ≤ gap_from text at
  unfolding gap_from
  gap-after = omega arith

  gap-rest : (f : ℕ) → from_gap (suc f) at (drop at text) ≡ from_token (from_gap f) (gap_from text at) (drop (gap_from text at) text)
  unfolding from_gap gap_from
  gap-rest f = rw (drop-drop (gap (drop at text)) at text)

  pub rest-past : length text ≤ at → rest_at ≡ []
  unfolding rest_at from_token
  rest-past l = rw (drop_of_length-le text l)

pub rest-first : (text : List ℕ) → located text ≡ rest_at text (gap_from text 0)
unfolding located rest_at
rest-first text = gap-rest text 0 (length text)

gap-whole : (text : List ℕ) (p : ℕ) → 1 ≤ p → 1 ≤ length text → from_gap (length text) p (drop p text) ≡ rest_at text (gap_from text p)
unfolding rest_at
gap-whole text p h k = by (length text) refl
  where
    by : (n : ℕ) → length text ≡ n →
        from_gap n p (drop p text) ≡ from_token (from_gap (length text)) (gap_from text p) (drop (gap_from text p) text)
    by zero e = absurd (omega arith)
    by (suc f) e =
        let q = gap_from text p in
        let z = length-drop q text in
        let y = gap-after text p in
        gap-rest text p f ∙ token-spare f (length text) q (drop q text) (omega arith) (omega arith)

module _ (text : List ℕ) (at : ℕ) (l : at < length text) where
  pub lex-few : at + (lex_at text at).size ≤ length text
  unfolding lex_at
  lex-few =
      let b = get_or text at 0 in
      let s = drop (suc at) text in
      omega (arith, token-few (opening b) at b s, length-drop (suc at) text)

  lex-some : eqb (kind_of (lex_at text at).token) 69 ≡ false → 1 ≤ (lex_at text at).size
  unfolding lex_at
  lex-some e =
      token-some at (get_or text at 0) (drop (suc at) text) (goes-kind (lex_at text at).token ∙ ap not e)

  pub lex-piece : piece_at text at ≡ piece (kind_of (lex_at text at).token) (number_in unnamed (lex_at text at).token) (lex_at text at).size
  unfolding lex_at piece_at piece_from piece_in piece_of
  lex-piece = rw (drop-cons text at 0 l)

  pub next-after : at + 1 ≤ next_at text at
  unfolding next_at
  next-after = by (eqb (kind_of (lex_at text at).token) 69) refl
    where
      by : (v : Bool) → eqb (kind_of (lex_at text at).token) 69 ≡ v →
          at + 1 ≤ pick v (length text) (gap_from text (at + (lex_at text at).size))
      by true e = omega arith
      by false e = omega (arith, gap-after text (at + (lex_at text at).size), lex-some e)

  pub next-inside : next_at text at ≤ length text
  unfolding next_at
  next-inside = by (eqb (kind_of (lex_at text at).token) 69)
    where
      by : (v : Bool) → pick v (length text) (gap_from text (at + (lex_at text at).size)) ≤ length text
      by true = omega arith
      by false = gap-inside text (at + (lex_at text at).size) lex-few

  rest-behind : (v : Bool) → eqb (kind_of (lex_at text at).token) 69 ≡ v →
      and_then (not v) (from_gap (length text)) (at + (lex_at text at).size) (drop (at + (lex_at text at).size) text)
      ≡ rest_at text (pick v (length text) (gap_from text (at + (lex_at text at).size)))
  unfolding and_then
  rest-behind true e = sym (rest-past text (length text) (omega arith))
  rest-behind false e = gap-whole text (at + (lex_at text at).size) (omega (arith, lex-some e)) (omega arith)

  rest-opened : rest_at text at
      ≡ record { token = (lex_at text at).token; place = at }
      ∷ and_then (goes_on (lex_at text at).token) (from_gap (length text)) (at + (lex_at text at).size)
      (drop (lex_at text at).size (drop at text))
  unfolding rest_at from_token lex_at
  rest-opened = by (drop at text) (drop-cons text at 0 l)
    where
      by : (r : List ℕ) → r ≡ get_or text at 0 ∷ drop (suc at) text →
          from_token (from_gap (length text)) at r
          ≡ record { token = (lex_at text at).token; place = at }
          ∷ and_then (goes_on (lex_at text at).token) (from_gap (length text)) (at + (lex_at text at).size) (drop (lex_at text at).size r)
      by r e = rw e

  pub rest-next : rest_at text at ≡ record { token = (lex_at text at).token; place = at } ∷ rest_at text (next_at text at)
  unfolding next_at
  rest-next =
      let t = (lex_at text at).token in
      let n = (lex_at text at).size in
      let F = from_gap (length text) in
      rest-opened
      ∙ ap (λ (r : List Located). record { token = t; place = at } ∷ r)
      (ap (λ v. and_then v F (at + n) (drop n (drop at text))) (goes-kind t)
      ∙ ap (and_then (not (eqb (kind_of t) 69)) F (at + n)) (drop-drop n at text)
      ∙ rest-behind (eqb (kind_of t) 69) refl)

-- ---- names

-- What there is to know of a token that may be a name at a place.
pub record Named (text : List ℕ) (at : ℕ) (t : Token) : Type 0 where
  pub number-known : (ns : List Name) →
      number_in (place_of ns) t ≡ pick (eqb (kind_of t) 64) (place_of ns (spelled_at text at)) (number_in unnamed t)
  pub name-known : name_in t ≡ pick (eqb (kind_of t) 64) (name_at text at ∷ []) []

module _ (text : List ℕ) (at : ℕ) where
  other-named : (t : Token) → name_in t ≡ [] → Named text at t
  unfolding kind_of number_in name_in
  other-named (terminal s) e =
      let z : eqb (number_from 1 terminals s) 64 ≡ false =
      ne_eqb (number_from 1 terminals s) 64 (terminal-kinds s 64 (omega arith) (omega arith)) in
      record { number-known = λ ns. rw z; name-known = rw z }
  other-named (name n) e = absurd (let z : ◌≡◌ {A = ℕ} 0 1 = cc in omega arith)
  other-named (number true n) e = record { number-known = λ ns. refl; name-known = refl }
  other-named (number false n) e = record { number-known = λ ns. refl; name-known = refl }
  other-named (known v) e = record { number-known = λ ns. refl; name-known = refl }
  other-named unknown e = record { number-known = λ ns. refl; name-known = refl }
  other-named broken e = record { number-known = λ ns. refl; name-known = refl }

  word-named : (w : List ℕ) → w ≡ spelled_at text at → Named text at (word_token at w)
  unfolding word_token kind_of number_in name_in name_at
  word-named w e = by (is_keyword w) refl
    where
      by : (t : Bool) → is_keyword w ≡ t → Named text at (pick t (terminal w) (name (record { place = at; spelled = w })))
      by true q = other-named (terminal w) refl
      by false q = record { number-known = λ ns. ap (place_of ns) e; name-known = rw e }

value-nameless : (radix : ℕ) (s : List ℕ) → name_in (value_token radix s) ≡ []
unfolding value_token name_in
value-nameless radix [] = refl
value-nameless radix (b ∷ s) = by (is_underscore b) (every (is_known radix) (b ∷ s)) (every is_unknown (b ∷ s))
  where
    by : (t u v : Bool) → name_in (pick t broken (pick u (known (numeral radix (b ∷ s))) (pick v unknown broken))) ≡ []
    by true u v = refl
    by false true v = refl
    by false false true = refl
    by false false false = refl

value-token : (B : Base) (s : List ℕ) → name_in (value B s).token ≡ []
unfolding value value_behind name_in
value-token none s = refl
value-token (base r) s =
    let d = drop (span Space s) s in
    value-nameless (radix_of r) (take (digits_in r d) d)

based-nameless : (s : List ℕ) → name_in (based s).token ≡ []
unfolding based name_in
based-nameless [] = refl
based-nameless (b ∷ s) = value-token (base_of b) s

number-nameless : (w : List ℕ) → name_in (number_token w) ≡ []
unfolding number_token name_in
number-nameless w = refl

sign-nameless : (w : List ℕ) → name_in (sign_token w) ≡ []
unfolding sign_token name_in
sign-nameless [] = refl
sign-nameless (b ∷ w) = refl

token-named : (o : Opening) (text : List ℕ) (at : ℕ) → at < length text →
    Named text at (token_by o at (get_or text at 0) (drop (suc at) text)).token
unfolding token_by word unsigned sign spelled_at
token-named opens_word text at l =
    let s = get_or text at 0 ∷ drop (suc at) text in
    word-named text at (take (span Word s) s) (sym (ap (λ r. take (span Word r) r) (drop-cons text at 0 l)))
token-named opens_number text at l =
    let s = get_or text at 0 ∷ drop (suc at) text in
    other-named text at (number_token (take (span Decimal s) s)) (number-nameless (take (span Decimal s) s))
token-named opens_value text at l = other-named text at (based (drop (suc at) text)).token (based-nameless (drop (suc at) text))
token-named opens_sign text at l =
    let w = first_of signs (get_or text at 0 ∷ drop (suc at) text) in
    other-named text at (sign_token w) (sign-nameless w)

pub lex-named : (text : List ℕ) (at : ℕ) → at < length text → Named text at (lex_at text at).token
unfolding lex_at
lex-named text at l = token-named (opening (get_or text at 0)) text at l
