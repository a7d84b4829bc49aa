-- Laws of rows: what is laid into a table, token by token. Assumes nothing.
use mathlib.Core.Path.{◌≡◌, refl, sym, ap, ◌∙◌}
use mathlib.Core.Bool.{true, false}
use mathlib.Core.List.{List, [], ◌∷◌, ◌++◌, append_assoc}
use Prim.Native.Nat.{ℕ, suc, ◌+◌, ◌-◌, ◌<◌, ◌≤◌}
use native.Mathlib.Omega.{arith}
use borrow.Author.Tests.{lt-ltb, le-ltb, eq-eqb, ne_eqb}
use lib.ListN.{length, get_or, drop, set, drop_of_length-le, length-drop}
use lib.Seq.{length-take-le}
use Rattle.verilog_tokens.specs.declared.Class.TheVariants.{Word}
use Rattle.verilog_tokens.specs.Characters.{span, run_end}
use Rattle.verilog_tokens.proofs.Pieces.{run-size}
use Rattle.verilog_tokens.proofs.Runs.{run-after, run_inside}
use Rattle.verilog_scan.specs.Scan.{spelled_at}
use Rattle.verilog_names.specs.Chosen.{capped, chosen, has_role, count_of}
use Rattle.verilog_names.specs.Numbers.{ordered}
use Rattle.verilog_names.proofs.Chosen.{capped-kept, here_in, here_out, chosen-step, chosen-done, chosen-few}
use Rattle.verilog_labels.specs.Steps.{zeros, put, laid, places_at, lengths_at, few}

-- ---- a word's length

module _ (text : List ℕ) (at : ℕ) where
  pub spelled-long : (end : ℕ) → at ≤ length text → end ≡ run_end Word text at → end - at ≡ length (spelled_at text at)
  unfolding spelled_at
  spelled-long end h q =
      let z = run-size Word text at end q in
      z ∙ sym (length-take-le (span Word (drop at text)) (drop at text)
      (omega (arith, run_inside Word text at h, run-after Word text at, length-drop at text)))

  pub spelled_none : length text ≤ at → 0 ≡ length (spelled_at text at)
  unfolding spelled_at span
  spelled_none l = rw (drop_of_length-le text l)

-- ---- one entry

pub put-inside : (table : List ℕ) (k x : ℕ) → k < 80 → set table k x ≡ put table k x
unfolding put
put-inside table k x h = rw (lt-ltb k 80 h)

pub put-past : (table : List ℕ) (k x : ℕ) → 80 ≤ k → table ≡ put table k x
unfolding put
put-past table k x h = rw (le-ltb k 80 h)

pub few-below : (n : ℕ) → n < 65536 → n ≡ few n
unfolding few
few-below n h = rw (lt-ltb n 65536 h)

-- ---- lists of entries

pub laid-append : (table : List ℕ) (k : ℕ) (xs ys : List ℕ) → laid table k (xs ++ ys) ≡ laid (laid table k xs) (k + length xs) ys
unfolding laid
laid-append table k [] ys = let e : k ≡ k + 0 = omega arith in ap (λ m. laid table m ys) e
laid-append table k (x ∷ xs) ys =
    let e : k + 1 + length xs ≡ k + suc (length xs) = omega arith in
    laid-append (put table k x) (k + 1) xs ys ∙ ap (λ m. laid (laid (put table k x) (k + 1) xs) m ys) e

module _ (text begun : List ℕ) where
  pub places-append : (ts us : List ℕ) → places_at begun (ts ++ us) ≡ places_at begun ts ++ places_at begun us
  unfolding places_at
  places-append [] us = refl
  places-append (t ∷ ts) us = ap (λ l. get_or begun t 0 ∷ l) (places-append ts us)

  pub lengths-append : (ts us : List ℕ) → lengths_at text begun (ts ++ us) ≡ lengths_at text begun ts ++ lengths_at text begun us
  unfolding lengths_at
  lengths-append [] us = refl
  lengths-append (t ∷ ts) us = ap (λ l. length (spelled_at text (get_or begun t 0)) ∷ l) (lengths-append ts us)

  pub places-many : (ts : List ℕ) → length (places_at begun ts) ≡ length ts
  unfolding places_at
  places-many [] = refl
  places-many (t ∷ ts) = ap suc (places-many ts)

  pub lengths-many : (ts : List ℕ) → length (lengths_at text begun ts) ≡ length ts
  unfolding lengths_at
  lengths-many [] = refl
  lengths-many (t ∷ ts) = ap suc (lengths-many ts)

-- ---- a loop's turn: the token is of the role, or it isn't

module _ (roles : List ℕ) (role n i : ℕ) where
  of-role : get_or roles i 0 ≡ role → has_role roles role i ≡ true
  unfolding has_role
  of-role e = eq-eqb (get_or roles i 0) role e

  of_other : (get_or roles i 0 ≡ role → ⊥) → has_role roles role i ≡ false
  unfolding has_role
  of_other e = ne_eqb (get_or roles i 0) role e

  taken_in : i < n → get_or roles i 0 ≡ role → chosen (has_role roles role) (n - i) i ≡ i ∷ chosen (has_role roles role) (n - (i + 1)) (i + 1)
  taken_in l e =
      chosen-step (has_role roles role) n i l
      ∙ ap (λ s. s ++ chosen (has_role roles role) (n - (i + 1)) (i + 1)) (here_in (has_role roles role) i (of-role e))

  taken_out : i < n → (get_or roles i 0 ≡ role → ⊥)
      → chosen (has_role roles role) (n - i) i ≡ chosen (has_role roles role) (n - (i + 1)) (i + 1)
  taken_out l e =
      chosen-step (has_role roles role) n i l
      ∙ ap (λ s. s ++ chosen (has_role roles role) (n - (i + 1)) (i + 1)) (here_out (has_role roles role) i (of_other e))

-- Where k entries are laid, what is left of the first n tokens of the role gives the whole.
pub record Laying (text begun roles : List ℕ) (n role from : ℕ) (places₀ lengths₀ places lengths : List ℕ) (k i : ℕ) : Type 0 where
  pub near : k ≤ from + i
  pub count : k + length (chosen (has_role roles role) (n - i) i) ≡ from + length (chosen (has_role roles role) n 0)
  pub places-left : laid places k (places_at begun (chosen (has_role roles role) (n - i) i))
      ≡ laid places₀ from (places_at begun (chosen (has_role roles role) n 0))
  pub lengths-left : laid lengths k (lengths_at text begun (chosen (has_role roles role) (n - i) i))
      ≡ laid lengths₀ from (lengths_at text begun (chosen (has_role roles role) n 0))

module _ (text begun roles : List ℕ) (n role from : ℕ) (places₀ lengths₀ : List ℕ) where
  pub laying-first : Laying text begun roles n role from places₀ lengths₀ places₀ lengths₀ from 0
  laying-first =
      let e : n - 0 ≡ n = omega arith in
      record { near = omega arith; count = rw e; places-left = rw e; lengths-left = rw e }

  module _ {places lengths : List ℕ} {k i : ℕ} (s : Laying text begun roles n role from places₀ lengths₀ places lengths k i) where
    pub laying-in : i < n → get_or roles i 0 ≡ role → {ps ls : List ℕ} {p x m : ℕ} → ps ≡ put places k (get_or begun i 0)
        → p ≡ get_or begun i 0 → x ≡ length (spelled_at text p) → ls ≡ put lengths k x → m ≡ k + 1
        → Laying text begun roles n role from places₀ lengths₀ ps ls m (i + 1)
    unfolding places_at lengths_at laid
    laying-in l e d f q r g =
        let t = taken_in roles role n i l e in
        let a = s.near in
        let b = s.count in
        record {
          near = omega (arith, g);
          count = omega (arith, ap length t, g);
          places-left = rw (g, d) (rw t at s.places-left);
          lengths-left = rw (g, r, q, f) (rw t at s.lengths-left);
        }

    pub laying-out : i < n → (get_or roles i 0 ≡ role → ⊥) → {ps ls : List ℕ} {m : ℕ} → ps ≡ places → ls ≡ lengths → m ≡ k
        → Laying text begun roles n role from places₀ lengths₀ ps ls m (i + 1)
    laying-out l e d r g =
        let t = taken_out roles role n i l e in
        let a = s.near in
        let b = rw t at s.count in
        record {
          near = omega (arith, g);
          count = omega (arith, g, b);
          places-left = rw (g, d) (rw t at s.places-left);
          lengths-left = rw (g, r) (rw t at s.lengths-left);
        }

    pub laying-last : n ≤ i
        → (k ≡ from + length (chosen (has_role roles role) n 0))
        × ((places ≡ laid places₀ from (places_at begun (chosen (has_role roles role) n 0)))
        × (lengths ≡ laid lengths₀ from (lengths_at text begun (chosen (has_role roles role) n 0))))
    unfolding places_at lengths_at laid
    laying-last l =
        let t = chosen-done (has_role roles role) n i l in
        let c = rw t at s.count in
        (omega arith, (rw t at s.places-left, rw t at s.lengths-left))

-- ---- the three roles one after the other

module _ (f : List ℕ → List ℕ) (append : (ts us : List ℕ) → f (ts ++ us) ≡ f ts ++ f us) (many : (ts : List ℕ) → length (f ts) ≡ length ts)
    (x y z : List ℕ) (table : List ℕ)
  where
    laid-three : laid table 0 (f (x ++ y ++ z))
        ≡ laid (laid (laid table 0 (f x)) (0 + length x) (f y)) (0 + length x + length y) (f z)
    laid-three =
        ap (laid table 0) (append (x ++ y) z ∙ ap (λ l. l ++ f z) (append x y) ∙ append_assoc (f x) (f y) (f z))
        ∙ laid-append table 0 (f x) (f y ++ f z)
        ∙ laid-append (laid table 0 (f x)) (0 + length (f x)) (f y) (f z)
        ∙ ap (λ k. laid (laid (laid table 0 (f x)) (0 + k) (f y)) (0 + k + length (f y)) (f z)) (many x)
        ∙ ap (λ k. laid (laid (laid table 0 (f x)) (0 + length x) (f y)) (0 + length x + k) (f z)) (many y)

module _ (roles : List ℕ) (count : ℕ) {n a : ℕ} (e : n ≡ capped count) (g : a ≡ 0 + count_of roles n 1) where
  pub first-few : a ≤ 65536
  first-few = omega (arith, g, chosen-few (has_role roles 1) n 0, capped-kept count n e)

  pub second-few : {b : ℕ} → b ≡ a + count_of roles n 2 → b ≤ 65536
  second-few h = omega (arith, g, h, chosen-few (has_role roles 1) n 0, chosen-few (has_role roles 2) n 0, capped-kept count n e)

module _ (text begun roles : List ℕ) (count : ℕ) {n a b : ℕ} (e : n ≡ capped count) (g : a ≡ 0 + count_of roles n 1)
    (h : b ≡ a + count_of roles n 2)
  where
    module _ (f : List ℕ → List ℕ) (append : (ts us : List ℕ) → f (ts ++ us) ≡ f ts ++ f us)
        (many : (ts : List ℕ) → length (f ts) ≡ length ts) {p q r : List ℕ}
        (i : p ≡ laid (zeros 80) 0 (f (chosen (has_role roles 1) n 0)))
        (j : q ≡ laid p a (f (chosen (has_role roles 2) n 0)))
        (k : r ≡ laid q b (f (chosen (has_role roles 3) n 0)))
      where
        all_three : r ≡ laid (zeros 80) 0 (f (ordered roles (capped count)))
        unfolding ordered
        all_three =
            let x = chosen (has_role roles 1) n 0 in
            let y = chosen (has_role roles 2) n 0 in
            let z = chosen (has_role roles 3) n 0 in
            k
            ∙ ap (λ l. laid l b (f z)) (j ∙ ap (λ l. laid l a (f y)) i)
            ∙ ap (λ m. laid (laid (laid (zeros 80) 0 (f x)) m (f y)) b (f z)) g
            ∙ ap (λ m. laid (laid (laid (zeros 80) 0 (f x)) (0 + length x) (f y)) m (f z)) (h ∙ ap (λ m. m + length y) g)
            ∙ sym (laid-three f append many x y z (zeros 80))
            ∙ ap (λ m. laid (zeros 80) 0 (f (ordered roles m))) e

    pub all-places : {p q r : List ℕ}
        → p ≡ laid (zeros 80) 0 (places_at begun (chosen (has_role roles 1) n 0))
        → q ≡ laid p a (places_at begun (chosen (has_role roles 2) n 0))
        → r ≡ laid q b (places_at begun (chosen (has_role roles 3) n 0))
        → r ≡ laid (zeros 80) 0 (places_at begun (ordered roles (capped count)))
    all-places i j k = all_three (places_at begun) (places-append text begun) (places-many text begun) i j k

    pub all-lengths : {p q r : List ℕ}
        → p ≡ laid (zeros 80) 0 (lengths_at text begun (chosen (has_role roles 1) n 0))
        → q ≡ laid p a (lengths_at text begun (chosen (has_role roles 2) n 0))
        → r ≡ laid q b (lengths_at text begun (chosen (has_role roles 3) n 0))
        → r ≡ laid (zeros 80) 0 (lengths_at text begun (ordered roles (capped count)))
    all-lengths i j k = all_three (lengths_at text begun) (lengths-append text begun) (lengths-many text begun) i j k
