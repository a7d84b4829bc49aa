-- The kind of a token says which mark it is: what the grammar's reader asks of a token, the table's reader asks of its kind.
-- Assumes nothing.
use mathlib.Core.Path.{◌≡◌, refl, sym, ap, ◌∙◌}
use mathlib.Core.Bool.{Bool, true, false}
use mathlib.Core.List.{List, [], ◌∷◌}
use Prim.Native.Nat.{ℕ, suc, ◌+◌, ◌≤◌, ◌<◌}
use native.Mathlib.Omega.{arith}
use lib.Dec.{eqb}
use lib.ListN.{length}
use borrow.Author.Tests.{eq-eqb, ne_eqb}
use Rattle.values.specs.Values.{pick}
use Rattle.writing.specs.Ascii.{ascii}
use Rattle.naming.specs.Naming.{same_text}
use Rattle.naming.proofs.Naming.{same_text-refl, same_text→≡}
use Rattle.verilog_tokens.specs.Tokens.{Token, terminal, name, number, known, unknown, broken}
use Rattle.verilog_tokens.specs.Table.{terminals, number_from, kind_of}
use Rattle.verilog_grammar.specs.Reader.{is_mark, starts}

-- ---- number_from: a spelling's number in a list that is counted from n on

number-from : (n : ℕ) (ws : List (List ℕ)) (s : List ℕ) → n + length ws ≤ 70 → n ≤ number_from n ws s
unfolding number_from
number-from n [] s h = omega arith
number-from n (w ∷ ws) s h = by (same_text w s) (number-from (suc n) ws s (omega arith))
  where
    by : (t : Bool) → suc n ≤ number_from (suc n) ws s → n ≤ pick t n (number_from (suc n) ws s)
    by true k = omega arith
    by false k = omega arith

-- Of the list or none.
number-to : (n : ℕ) (ws : List (List ℕ)) (s : List ℕ) (k : ℕ) → n + length ws ≤ k → k < 70 → number_from n ws s ≡ k → ⊥
unfolding number_from
number-to n [] s k h m e = omega arith
number-to n (w ∷ ws) s k h m e = by (same_text w s) e (number-to (suc n) ws s k (omega arith) m)
  where
    by : (t : Bool) → pick t n (number_from (suc n) ws s) ≡ k → (number_from (suc n) ws s ≡ k → ⊥) → ⊥
    by true f g = omega arith
    by false f g = g f

-- Two spellings of one number are one.
number-one : (n : ℕ) (ws : List (List ℕ)) (s t : List ℕ) (k : ℕ) → n + length ws ≤ 70 → k < 70 → number_from n ws s ≡ k
    → number_from n ws t ≡ k → s ≡ t
unfolding number_from
number-one n [] s t k h m e f = absurd (omega arith)
number-one n (w ∷ ws) s t k h m e f = by (same_text w s) refl (same_text w t) refl e f (number-one (suc n) ws s t k (omega arith) m)
  where
    later : (u : List ℕ) → number_from (suc n) ws u ≡ n → ⊥
    later u g = omega (arith, number-from (suc n) ws u (omega arith))

    by : (a : Bool) → same_text w s ≡ a → (b : Bool) → same_text w t ≡ b → pick a n (number_from (suc n) ws s) ≡ k
        → pick b n (number_from (suc n) ws t) ≡ k → (number_from (suc n) ws s ≡ k → number_from (suc n) ws t ≡ k → s ≡ t) → s ≡ t
    by true p true q x y g = sym (same_text→≡ w s p) ∙ same_text→≡ w t q
    by true p false q x y g = absurd (later t (y ∙ sym x))
    by false p true q x y g = absurd (later s (x ∙ sym y))
    by false p false q x y g = g x y

-- ---- marks

-- A mark's number, which is one of the list.
abbrev pub Numbered : List ℕ → ℕ → Type 0
Numbered s k = (number_from 1 terminals s ≡ k) × (k < 64)

pub terminal-other : (s : List ℕ) (k : ℕ) → 40 ≤ k → k < 70 → number_from 1 terminals s ≡ k → ⊥
unfolding terminals
terminal-other s k h m e = number-to 1 terminals s k h m e

same_number : (s t : List ℕ) (k : ℕ) → Numbered s k → same_text s t ≡ eqb (number_from 1 terminals t) k
unfolding terminals
same_number s t k h = by (same_text s t) refl
  where
    by : (b : Bool) → same_text s t ≡ b → b ≡ eqb (number_from 1 terminals t) k
    by true q = sym (eq-eqb _ k (ap (λ x. number_from 1 terminals x) (sym (same_text→≡ s t q)) ∙ h.0))
    by false q = sym (ne_eqb _ k (λ e. differs (number-one 1 terminals s t k (omega arith) (omega (arith, h.1)) h.0 e)))
      where
        differs : s ≡ t → ⊥
        differs e =
            let z : true ≡ false = sym (same_text-refl s) ∙ ap (λ x. same_text s x) e ∙ q in
            let o : ◌≡◌ {A = ℕ} 0 1 = cc in
            omega arith

pub mark-is : (s : List ℕ) (k : ℕ) → Numbered s k → (t : Token) → is_mark s t ≡ eqb (kind_of t) k
unfolding is_mark kind_of
mark-is s k h (terminal t) = same_number s t k h
mark-is s k h (name n) = sym (ne_eqb 64 k (λ e. omega (arith, h.1)))
mark-is s k h (number true n) = sym (ne_eqb 65 k (λ e. omega (arith, h.1)))
mark-is s k h (number false n) = sym (ne_eqb 66 k (λ e. omega (arith, h.1)))
mark-is s k h (known v) = sym (ne_eqb 67 k (λ e. omega (arith, h.1)))
mark-is s k h unknown = sym (ne_eqb 68 k (λ e. omega (arith, h.1)))
mark-is s k h broken = sym (ne_eqb 69 k (λ e. omega (arith, h.1)))

-- ---- kind_front: the kind of the first token, 0 where there is none

unfoldable pub kind_front : List Token → ℕ
kind_front [] = 0
kind_front (t ∷ us) = kind_of t

pub starts_is : (s : List ℕ) (k : ℕ) → Numbered s k → 1 ≤ k → (us : List Token) → starts s us ≡ eqb (kind_front us) k
unfolding starts kind_front
starts_is s k h m [] = sym (ne_eqb 0 k (λ e. omega arith))
starts_is s k h m (t ∷ us) = mark-is s k h t

-- ---- the marks of expressions

pub open-mark : Numbered (ascii "(") 20
unfolding number_from terminals ascii same_text
open-mark = (refl, omega arith)

pub close-mark : Numbered (ascii ")") 21
unfolding number_from terminals ascii same_text
close-mark = (refl, omega arith)

pub colon-mark : Numbered (ascii ":") 24
unfolding number_from terminals ascii same_text
colon-mark = (refl, omega arith)

pub query-mark : Numbered (ascii "?") 32
unfolding number_from terminals ascii same_text
query-mark = (refl, omega arith)

pub tilde-mark : Numbered (ascii "~") 33
unfolding number_from terminals ascii same_text
tilde-mark = (refl, omega arith)

pub bang-mark : Numbered (ascii "!") 34
unfolding number_from terminals ascii same_text
bang-mark = (refl, omega arith)

pub plus-mark : Numbered (ascii "+") 38
unfolding number_from terminals ascii same_text
plus-mark = (refl, omega arith)

pub minus-mark : Numbered (ascii "-") 39
unfolding number_from terminals ascii same_text
minus-mark = (refl, omega arith)

pub less-mark : Numbered (ascii "<") 31
unfolding number_from terminals ascii same_text
less-mark = (refl, omega arith)

pub equals-mark : Numbered (ascii "==") 29
unfolding number_from terminals ascii same_text
equals-mark = (refl, omega arith)

pub and-mark : Numbered (ascii "&") 35
unfolding number_from terminals ascii same_text
and-mark = (refl, omega arith)

pub caret-mark : Numbered (ascii "^") 37
unfolding number_from terminals ascii same_text
caret-mark = (refl, omega arith)

pub bar-mark : Numbered (ascii "|") 36
unfolding number_from terminals ascii same_text
bar-mark = (refl, omega arith)
