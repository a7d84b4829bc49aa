-- The tokens of a text, from any place on: a blank in front of a text, and a token in front of it. Assumes nothing.
use mathlib.Core.Path.{◌≡◌, refl, ap, ◌∙◌}
use mathlib.Core.Bool.{true, false}
use mathlib.Core.List.{List, [], ◌∷◌, ◌++◌, map}
use Prim.Native.Nat.{ℕ, zero, suc, ◌+◌, ◌<◌}
use native.Mathlib.Omega.{arith}
use lib.Dec.{eqb}
use lib.ListN.{length, drop, replicate, length-append}
use lib.Seq.{drop-append_seam}
use Rattle.verilog_tokens.specs.declared.Class.TheVariants.{Space}
use Rattle.verilog_tokens.specs.Characters.{is_space, in_class, span}
use Rattle.verilog_tokens.specs.Tokens.{Token, Lexeme, lexeme, Located, either, comment, blank, onwards, gaps, gap, opening, token_by, goes_on, and_then, from_token, from_gap, located, tokens}
use Rattle.verilog_tokens.proofs.Comments.{gap-goes}
use Rattle.verilog_lexed.specs.Lexed.{From, blanks}

abbrev pub token_in : Located → Token
token_in l = l.token

-- From any place on, and with steps enough, these are the text's tokens.
pub record Reads (s : List ℕ) (k : From) : Type 0 where
  pub on : (f p : ℕ) → length s < f → map token_in (from_gap f p s) ≡ k p

-- The same text in other words, the same tokens in other words.
pub reads-from : {s t : List ℕ} {k : From} → Reads t k → s ≡ t → Reads s k
reads-from h e = rw e h

pub reads_as : {s : List ℕ} {j k : From} → ((p : ℕ) → j p ≡ k p) → Reads s j → Reads s k
reads_as e h = record { on = λ f p l. h.on f p l ∙ e p }

-- ---- the end

pub reads_none : Reads [] (λ p. [])
unfolding from_gap gap gaps from_token
reads_none = record { on = by }
  where
    by : (f p : ℕ) → 0 < f → map token_in (from_gap f p []) ≡ []
    by zero p l = refl
    by (suc f) p l = refl

-- ---- a blank in front

span-space : (b : ℕ) (s : List ℕ) → is_space b ≡ true → span Space (b ∷ s) ≡ suc (span Space s)
unfolding span in_class
span-space b s e = rw e

-- A gap goes on behind its white space.
gap-behind : (s : List ℕ) (n : ℕ) → span Space s ≡ suc n → gap s ≡ suc n + gap (drop (suc n) s)
unfolding span blank either
gap-behind [] n e = absurd (nil e)
  where
    nil : span Space [] ≡ suc n → ⊥
    nil e = omega arith
gap-behind (b ∷ s) n e =
    let t = b ∷ s in
    let start : gap t ≡ 0 + gap t = omega arith in
    let more : 0 + suc n ≡ suc n = omega arith in
    start ∙ gap-goes t 0 (suc n) (omega arith) (by e) (omega arith) ∙ ap (λ (m : ℕ). m + gap (drop m t)) more
  where
    by : span Space (b ∷ s) ≡ suc n → suc n ≡ blank (b ∷ s)
    by e = rw e

pub gap-blank : (b : ℕ) (s : List ℕ) → is_space b ≡ true → gap (b ∷ s) ≡ suc (gap s)
gap-blank b s e = gap-behind (b ∷ s) (span Space s) (span-space b s e) ∙ by (span Space s) refl
  where
    by : (n : ℕ) → span Space s ≡ n → suc n + gap (drop n s) ≡ suc (gap s)
    by zero q = omega arith
    by (suc n) q = omega (arith, gap-behind s n q)

pub reads-blank : {s : List ℕ} {k : From} (b : ℕ) → is_space b ≡ true → Reads s k → Reads (b ∷ s) (blanks 1 k)
unfolding from_gap blanks
reads-blank {s} {k} b e h = record { on = by }
  where
    by : (f p : ℕ) → suc (length s) < f → map token_in (from_gap f p (b ∷ s)) ≡ blanks 1 k p
    by zero p l = absurd (omega arith)
    by (suc f) p l =
        let q : p + suc (gap s) ≡ p + 1 + gap s = omega arith in
        ap (λ (n : ℕ). map token_in (from_token (from_gap f) (p + n) (drop n (b ∷ s)))) (gap-blank b s e)
        ∙ ap (λ (n : ℕ). map token_in (from_token (from_gap f) n (drop (gap s) s))) q
        ∙ h.on (suc f) (p + 1) (omega arith)

pub reads-blanks : {s : List ℕ} {k : From} (n : ℕ) → Reads s k → Reads (replicate n 32 ++ s) (blanks n k)
unfolding blanks is_space
reads-blanks {k = k} zero h = reads_as (λ p. ap k (omega arith)) h
reads-blanks {k = k} (suc n) h =
    reads_as (λ p. ap k (omega arith)) (reads-blank 32 space (reads-blanks n h))
  where
    space : is_space 32 ≡ true
    space = refl

-- ---- a token in front

comment-not : (b : ℕ) (s : List ℕ) → eqb b 47 ≡ false → comment (b ∷ s) ≡ 0
unfolding comment
comment-not b [] e = refl
comment-not b (a ∷ s) e = rw e

blank-not : (b : ℕ) (s : List ℕ) → is_space b ≡ false → eqb b 47 ≡ false → blank (b ∷ s) ≡ 0
unfolding blank span in_class either
blank-not b s e h = rw (e, comment-not b s h)

gap-not : (b : ℕ) (s : List ℕ) → is_space b ≡ false → eqb b 47 ≡ false → gap (b ∷ s) ≡ 0
unfolding gap gaps onwards
gap-not b s e h = rw (blank-not b s e h)

-- A token by its place, whose first byte is b and whose others are v.
module _ (s : List ℕ) (b : ℕ) (v : List ℕ) (t : ℕ → Token) where
  token-step : (f p : ℕ) → token_by (opening b) p b (v ++ s) ≡ lexeme (t p) (suc (length v)) → goes_on (t p) ≡ true
      → map token_in (from_token (from_gap f) p (b ∷ v ++ s)) ≡ t p ∷ map token_in (from_gap f (p + suc (length v)) s)
  unfolding from_token and_then
  token-step f p e g =
      ap (λ (l : Lexeme). l.token ∷ map token_in (and_then (goes_on l.token) (from_gap f) (p + l.size) (drop l.size (b ∷ v ++ s)))) e
      ∙ rw (g, drop-append_seam v s) refl

  pub reads-token : is_space b ≡ false → eqb b 47 ≡ false
      → ((p : ℕ) → token_by (opening b) p b (v ++ s) ≡ lexeme (t p) (suc (length v))) → ((p : ℕ) → goes_on (t p) ≡ true)
      → {k : From} → Reads s k → Reads (b ∷ v ++ s) (λ p. t p ∷ k (p + suc (length v)))
  unfolding from_gap
  reads-token e h lexes goes {k} r = record { on = by }
    where
      by : (f p : ℕ) → suc (length (v ++ s)) < f → map token_in (from_gap f p (b ∷ v ++ s)) ≡ t p ∷ k (p + suc (length v))
      by zero p l = absurd (omega arith)
      by (suc f) p l =
          let z : p + 0 ≡ p = omega arith in
          ap (λ (n : ℕ). map token_in (from_token (from_gap f) (p + n) (drop n (b ∷ v ++ s)))) (gap-not b (v ++ s) e h)
          ∙ ap (λ (n : ℕ). map token_in (from_token (from_gap f) n (b ∷ v ++ s))) z
          ∙ token-step f p (lexes p) (goes p)
          ∙ ap (λ (ts : List Token). t p ∷ ts) (r.on f (p + suc (length v)) (omega (arith, length-append v s)))

-- ---- a whole text

pub reads-tokens : {s : List ℕ} {k : From} → Reads s k → tokens s ≡ k 0
unfolding tokens located
reads-tokens {s} h = h.on (suc (length s)) 0 (omega arith)
