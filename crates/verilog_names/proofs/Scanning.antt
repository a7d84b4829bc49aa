-- The tables of a text are tables of its tokens. Assumes nothing.
use mathlib.Core.Path.{◌≡◌, ◌∙◌}
use mathlib.Core.Bool.{Bool, true, false}
use mathlib.Core.List.{List, [], ◌∷◌, ◌++◌, map, append_assoc}
use Prim.Native.Nat.{ℕ, zero, suc, ◌+◌, ◌<◌, ◌≤◌}
use native.Mathlib.Omega.{arith}
use lib.ListN.{length, get_or, take, drop, length-append, length-drop, length-map}
use lib.Seq.{take_at, sets, sets-eq}
use Rattle.values.specs.Values.{pick}
use Rattle.verilog_tokens.specs.Words.{is_keyword}
use Rattle.verilog_tokens.specs.Characters.{is_underscore, every, numeral}
use Rattle.verilog_tokens.specs.Tokens.{Token, terminal, name, known, unknown, broken, Name, Located}
use Rattle.verilog_tokens.specs.Tokens.{Base, base, none as no_base}
use Rattle.verilog_tokens.specs.Tokens.{word_token, word, number_token, unsigned, is_known}
use Rattle.verilog_tokens.specs.Tokens.{is_unknown, value_token, value_behind, value, base_of, based}
use Rattle.verilog_tokens.specs.Tokens.{sign_token, sign, Opening, opens_word, opens_number, opens_value, opens_sign, opening, token_by}
use Rattle.verilog_tokens.specs.Tokens.{gap, goes_on, and_then, from_token, from_gap, located, tokens, places}
use Rattle.verilog_tokens.specs.Table.{kind_of, number_in, id_of, kinds, numbers}
use Rattle.verilog_names.specs.Claims.{OfText, OfStored}

-- ---- a name stands where its token does

abbrev At : ℕ → Token → Type 0
At p t = (n : Name) → t ≡ name n → p ≡ n.place

word-at : (p : ℕ) (w : List ℕ) → At p (word_token p w)
unfolding word_token
word-at p w n e = by (is_keyword w) e
  where
    by : (b : Bool) → pick b (terminal w) (name (record { place = p; spelled = w })) ≡ name n → p ≡ n.place
    by true e = cc
    by false e = cc

value-at : (p radix : ℕ) (s : List ℕ) → At p (value_token radix s)
unfolding value_token
value-at p radix [] n e = cc
value-at p radix (b ∷ s) n e = by (is_underscore b) (every (is_known radix) (b ∷ s)) (every is_unknown (b ∷ s)) e
  where
    by : (x y z : Bool) → pick x broken (pick y (known (numeral radix (b ∷ s))) (pick z unknown broken)) ≡ name n → p ≡ n.place
    by true y z e = cc
    by false true z e = cc
    by false false true e = cc
    by false false false e = cc

based-at : (p : ℕ) (s : List ℕ) → At p (based s).token
unfolding based value value_behind
based-at p [] n e = cc
based-at p (b ∷ s) n e = by (base_of b) e
  where
    by : (o : Base) → (value o s).token ≡ name n → p ≡ n.place
    by no_base e = cc
    by (base r) e = value-at p _ _ n e

sign_at : (p : ℕ) (s : List ℕ) → At p (sign_token s)
unfolding sign_token
sign_at p [] n e = cc
sign_at p (b ∷ s) n e = cc

token-at : (o : Opening) (p b : ℕ) (s : List ℕ) → At p (token_by o p b s).token
unfolding token_by word unsigned number_token sign
token-at opens_word p b s n e = word-at p _ n e
token-at opens_number p b s n e = cc
token-at opens_value p b s n e = based-at p s n e
token-at opens_sign p b s n e = sign_at p _ n e

-- ---- all tokens of a text

data Placed (limit : ℕ) : List Located → Type 0 where
  none : Placed limit []
  more : {l : Located} {ls : List Located} → ((n : Name) → l.token ≡ name n → (l.place ≡ n.place) × (n.place < limit))
      → Placed limit ls → Placed limit (l ∷ ls)

module _ (limit : ℕ) where
  -- What is left of the text lies within it.
  abbrev Fits : ℕ → List ℕ → Type 0
  Fits p s = 0 < length s → p + length s ≤ limit

  fits-drop : (p k : ℕ) (s : List ℕ) → Fits p s → Fits (p + k) (drop k s)
  fits-drop p k s h l = omega (arith, length-drop k s, h (omega (arith, length-drop k s)))

  placed-token : (rest : ℕ → List ℕ → List Located) → ((p : ℕ) (s : List ℕ) → Fits p s → Placed limit (rest p s))
      → (p : ℕ) (s : List ℕ) → Fits p s → Placed limit (from_token rest p s)
  unfolding from_token and_then
  placed-token rest g p [] h = none
  placed-token rest g p (b ∷ s) h =
      let t = token_by (opening b) p b s in
      more
      (λ n e. let q = token-at (opening b) p b s n e in (q, omega (arith, h (omega arith))))
      (by (goes_on t.token) (g (p + t.size) (drop t.size (b ∷ s)) (fits-drop p t.size (b ∷ s) h)))
    where
      by : (c : Bool) {q : ℕ} {l : List ℕ} → Placed limit (rest q l) → Placed limit (and_then c rest q l)
      by true r = r
      by false r = none

  placed-gap : (f p : ℕ) (s : List ℕ) → Fits p s → Placed limit (from_gap f p s)
  unfolding from_gap
  placed-gap zero p s h = none
  placed-gap (suc f) p s h =
      placed-token (from_gap f) (placed-gap f) (p + gap s) (drop (gap s) s) (fits-drop p (gap s) s h)

  placed-entry : (ls : List Located) (t : ℕ) (n : Name) (qs : List ℕ) (behind : List Token) → Placed limit ls
      → drop t (map (λ (l : Located). l.token) ls) ≡ name n ∷ behind
      → (get_or (map (λ (l : Located). l.place) ls ++ qs) t 0 ≡ n.place) × (n.place < limit)
  placed-entry [] zero n qs behind p d = let z : ◌≡◌ {A = ℕ} 0 1 = cc in absurd (omega arith)
  placed-entry [] (suc t) n qs behind p d = let z : ◌≡◌ {A = ℕ} 0 1 = cc in absurd (omega arith)
  placed-entry (l ∷ ls) zero n qs behind (more r p) d = r n (cc)
  placed-entry (l ∷ ls) (suc t) n qs behind (more r p) d = placed-entry ls t n qs behind p d

-- ---- the tables

front : (f : Token → ℕ) (ts : List Token) (ks : List ℕ) → take (length ts) ((map f ts ++ 0 ∷ []) ++ ks) ≡ map f ts
front f ts ks = rw append_assoc (take_at (map f ts) (0 ∷ ks) (length ts) (length-map ts f))

pub of-text : OfText
unfolding OfText kinds numbers tokens places located
of-text text ks is qs h =
    let at = placed-entry (length text) (located text) in
    let all = placed-gap (length text) (suc (length text)) 0 text (λ l. omega arith) in
    record {
      kinded = front kind_of (tokens text) ks;
      numbered = front (number_in (id_of (tokens text))) (tokens text) is;
      placed = λ t n s. (at t n qs s.behind all s.stands).0;
      below = λ t n s. omega (arith, (at t n qs s.behind all s.stands).1);
    }

-- ---- stored

-- A list stored from a table's first entry on.
stored-front : (xs table : List ℕ) → length xs ≤ length table → sets table 0 xs ≡ xs ++ drop (0 + length xs) table
stored-front xs table h = sets-eq xs table 0 (omega arith)

ended : (xs : List ℕ) (b : ℕ) → length (xs ++ b ∷ []) ≡ length xs + 1
ended xs b = length-append xs (b ∷ [])

pub of-stored : OfStored
unfolding OfText OfStored kinds numbers tokens places
of-stored text ks is qs h a b c =
    let ts = tokens text in
    let i : length (kinds text) ≡ length ts + 1 = ended (map kind_of ts) 0 ∙ rw (length-map ts) in
    let j : length (numbers text) ≡ length ts + 1 = ended (map (number_in (id_of ts)) ts) 0 ∙ rw (length-map ts) in
    let k : length (places text ++ length text ∷ []) ≡ length ts + 1 = ended (places text) (length text) ∙ simp length-map in
    rw (
      stored-front (kinds text) ks (omega arith),
      stored-front (numbers text) is (omega arith),
      stored-front (places text ++ length text ∷ []) qs (omega arith),
      append_assoc (places text) (length text ∷ []),
    )
    (of-text text _ _ _ h)
