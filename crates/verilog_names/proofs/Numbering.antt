-- Laws of numbers: how a loop goes along the tokens, and a place in several lists one behind the other. Assumes nothing.
use mathlib.Core.Path.{◌≡◌, refl, sym, ◌∙◌, ap}
use mathlib.Core.Bool.{Bool, true, false}
use mathlib.Core.List.{List, [], ◌∷◌, ◌++◌, append_assoc}
use Prim.Native.Nat.{ℕ, suc, ◌+◌, ◌-◌, ◌<◌, ◌≤◌}
use native.Mathlib.Nat.{sub-zero}
use native.Mathlib.Numerals.{add-one}
use native.Mathlib.Omega.{arith}
use borrow.Author.Tests.{eq-eqb, ne_eqb}
use lib.Dec.{eqb}
use lib.ListN.{length, get_or, set}
use lib.Seq.{sets}
use Rattle.values.specs.Values.{pick}
use Rattle.verilog_grammar.specs.Meaning.{up_to}
use Rattle.verilog_names.specs.Chosen.{capped, chosen, has_role, count_of}
use Rattle.verilog_names.specs.Numbers.{ordered, place_of, number_at, numbers_from, numbered}
use Rattle.verilog_names.proofs.Chosen.{here_in, here_out, chosen-step, chosen-done, chosen-few}

module _ (ids : List ℕ) (x : ℕ) where
  -- ---- place_of

  pub place-few : (ts : List ℕ) → place_of ids ts x ≤ length ts
  unfolding place_of
  place-few [] = omega arith
  place-few (t ∷ ts) = by (eqb (get_or ids t 0) x) (place-few ts)
    where
      by : (b : Bool) → place_of ids ts x ≤ length ts → pick b 0 (suc (place_of ids ts x)) ≤ suc (length ts)
      by true h = omega arith
      by false h = omega arith

  pub place-left : (xs ys : List ℕ) → place_of ids xs x < length xs → place_of ids (xs ++ ys) x ≡ place_of ids xs x
  unfolding place_of
  place-left [] ys h = omega arith
  place-left (t ∷ xs) ys h = by (eqb (get_or ids t 0) x) (place-left xs ys) h
    where
      by : (b : Bool) → (place_of ids xs x < length xs → place_of ids (xs ++ ys) x ≡ place_of ids xs x)
          → pick b 0 (suc (place_of ids xs x)) < suc (length xs)
          → pick b 0 (suc (place_of ids (xs ++ ys) x)) ≡ pick b 0 (suc (place_of ids xs x))
      by true f h = refl
      by false f h = ap suc (f (omega arith))

  pub place-right : (xs ys : List ℕ) → length xs ≤ place_of ids xs x → place_of ids (xs ++ ys) x ≡ length xs + place_of ids ys x
  unfolding place_of
  place-right [] ys h = omega arith
  place-right (t ∷ xs) ys h = by (eqb (get_or ids t 0) x) (place-right xs ys) h
    where
      by : (b : Bool) → (length xs ≤ place_of ids xs x → place_of ids (xs ++ ys) x ≡ length xs + place_of ids ys x)
          → suc (length xs) ≤ pick b 0 (suc (place_of ids xs x))
          → pick b 0 (suc (place_of ids (xs ++ ys) x)) ≡ suc (length xs) + place_of ids ys x
      by true f h = omega arith
      by false f h = omega (arith, f (omega arith))

  -- ---- along the tokens

  module _ (test : ℕ → Bool) where
    pub place_found : (n i : ℕ) → i < n → test i ≡ true → get_or ids i 0 ≡ x → place_of ids (chosen test (n - i) i) x ≡ 0
    unfolding place_of
    place_found n i h e f = rw (chosen-step test n i h, here_in test i e, eq-eqb (get_or ids i 0) x f)

    pub place-past : (n i : ℕ) → i < n → test i ≡ true → (get_or ids i 0 ≡ x → ⊥)
        → place_of ids (chosen test (n - i) i) x ≡ 1 + place_of ids (chosen test (n - (i + 1)) (i + 1)) x
    unfolding place_of
    place-past n i h e f = rw (chosen-step test n i h, here_in test i e, ne_eqb (get_or ids i 0) x f) (omega arith)

    pub place_out : (n i : ℕ) → i < n → test i ≡ false
        → place_of ids (chosen test (n - i) i) x ≡ place_of ids (chosen test (n - (i + 1)) (i + 1)) x
    place_out n i h e = rw (chosen-step test n i h, here_out test i e)

    pub place-done : (n i : ℕ) → n ≤ i → place_of ids (chosen test (n - i) i) x ≡ 0
    unfolding place_of
    place-done n i h = rw (chosen-done test n i h)

  -- ---- inputs, registers, wires

  module _ (roles : List ℕ) (n : ℕ) where
    abbrev inputs : List ℕ
    inputs = chosen (has_role roles 1) n 0

    abbrev registers : List ℕ
    registers = chosen (has_role roles 2) n 0

    abbrev wires : List ℕ
    wires = chosen (has_role roles 3) n 0

    pub place-input : (a : ℕ) → a ≡ place_of ids (chosen (has_role roles 1) n 0) x → a < count_of roles n 1
        → a ≡ place_of ids (ordered roles n) x
    unfolding ordered
    place-input a p h = rw append_assoc (p ∙ sym (place-left inputs (registers ++ wires) (omega arith)))

    pub place-register : (a b m : ℕ) → a ≡ place_of ids (chosen (has_role roles 1) n 0) x → m ≡ count_of roles n 1 → m ≤ a
        → b ≡ place_of ids (chosen (has_role roles 2) n 0) x → b < count_of roles n 2
        → m + b ≡ place_of ids (ordered roles n) x
    unfolding ordered
    place-register a b m p e h q l =
        rw append_assoc
        (omega (arith, place-right inputs (registers ++ wires) (omega arith), place-left registers wires (omega arith)))

    pub place-wire : (a b c m k : ℕ) → a ≡ place_of ids (chosen (has_role roles 1) n 0) x → m ≡ count_of roles n 1 → m ≤ a
        → b ≡ place_of ids (chosen (has_role roles 2) n 0) x → k ≡ count_of roles n 2 → k ≤ b
        → c ≡ place_of ids (chosen (has_role roles 3) n 0) x
        → m + k + c ≡ place_of ids (ordered roles n) x
    unfolding ordered
    place-wire a b c m k p e h q f l r =
        rw append_assoc
        (omega (arith, place-right inputs (registers ++ wires) (omega arith), place-right registers wires (omega arith)))

    pub place-fits : (r a : ℕ) → a ≡ place_of ids (chosen (has_role roles r) n 0) x → n ≤ 16385 → a ≤ 16385
    place-fits r a e h = omega (arith, place-few (chosen (has_role roles r) n 0), chosen-few (has_role roles r) n 0)

pub count_fits : (roles : List ℕ) (n r m : ℕ) → m ≡ count_of roles n r → n ≤ 16385 → m ≤ 16385
count_fits roles n r m e h = omega (arith, chosen-few (has_role roles r) n 0)

-- ---- number_at

module _ (kinds ids roles : List ℕ) (n : ℕ) where
  pub number-other : (i : ℕ) → (get_or kinds i 0 ≡ 64 → ⊥) → get_or ids i 0 ≡ number_at kinds ids roles n i
  unfolding number_at
  number-other i f = rw (ne_eqb (get_or kinds i 0) 64 f)

  pub number-name : (i v u r : ℕ) → get_or kinds i 0 ≡ 64 → v ≡ place_of ids (ordered roles n) (get_or ids i 0) → u ≡ up_to 255 v → r ≡ u
      → r ≡ number_at kinds ids roles n i
  unfolding number_at
  number-name i v u r e p q s = s ∙ q ∙ ap (up_to 255) p ∙ rw (eq-eqb (get_or kinds i 0) 64 e)

  -- ---- a table that is filled

  pub numbers-step : (m i : ℕ) → i < m
      → numbers_from kinds ids roles n (m - i) i ≡ number_at kinds ids roles n i ∷ numbers_from kinds ids roles n (m - (i + 1)) (i + 1)
  unfolding numbers_from
  numbers-step m i h = ap (λ k. numbers_from kinds ids roles n k i) {x = m - i} {y = suc (m - (i + 1))} (omega arith)

  pub numbers-done : (m i : ℕ) → m ≤ i → numbers_from kinds ids roles n (m - i) i ≡ []
  unfolding numbers_from
  numbers-done m i h = ap (λ k. numbers_from kinds ids roles n k i) {x = m - i} {y = 0} (omega arith)

  pub numbers-turn : (table new whole : List ℕ) (i v : ℕ) → i < n → v ≡ number_at kinds ids roles n i → new ≡ set table i v
      → sets table i (numbers_from kinds ids roles n (n - i) i) ≡ whole
      → sets new (i + 1) (numbers_from kinds ids roles n (n - (i + 1)) (i + 1)) ≡ whole
  numbers-turn table new whole i v h e f g =
      rw (f, e)
      (ap (λ k. sets (set table i (number_at kinds ids roles n i)) k (numbers_from kinds ids roles n (n - (i + 1)) (i + 1))) (add-one i)
      ∙ (rw (numbers-step n i h) at g))

  pub numbers-over : (table old : List ℕ) (i count : ℕ) → n ≤ i → n ≡ capped count
      → sets table i (numbers_from kinds ids roles n (n - i) i) ≡ numbered kinds ids roles n old
      → table ≡ numbered kinds ids roles (capped count) old
  numbers-over table old i count h e g = (rw (numbers-done n i h) at g) ∙ ap (λ k. numbered kinds ids roles k old) e

  pub numbers-all : (table : List ℕ) → sets table 0 (numbers_from kinds ids roles n (n - 0) 0) ≡ numbered kinds ids roles n table
  unfolding numbered
  numbers-all table = rw sub-zero
