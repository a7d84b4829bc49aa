-- Laws of ids marked in a table: an id is marked exactly where a token has it. Assumes nothing.
use mathlib.Core.Path.{◌≡◌, refl, sym, ◌∙◌, ap}
use mathlib.Core.Bool.{Bool, true, false, not}
use mathlib.Core.List.{List, [], ◌∷◌, ◌++◌}
use Prim.Native.Nat.{ℕ, ◌+◌, ◌-◌, ◌<◌, ◌≤◌}
use native.Mathlib.Omega.{arith}
use borrow.Author.Tests.{eqb-true, eqb-false}
use lib.Dec.{eqb}
use lib.ListN.{length, get_or, replicate, length-replicate, get_or-replicate}
use Rattle.values.specs.Values.{pick}
use Rattle.verilog_names.specs.Chosen.{here, chosen}
use Rattle.verilog_names.specs.Numbers.{entry}
use Rattle.verilog_names.specs.Faults.{is_among, marked, marks, lacks, missing, nearest}
use Rattle.verilog_names.proofs.Chosen.{here_in, here_out, chosen-step, chosen-done, chosen_none, chosen-next}
use Rattle.verilog_names.proofs.AtFault.{missing-out, missing-among, missing-not}
use Rattle.verilog_names.proofs.Entering.{entry_length, entry-same, entry_other}

module _ (ids : List ℕ) where
  marked_append : (xs ys table : List ℕ) → marked ids (xs ++ ys) table ≡ marked ids ys (marked ids xs table)
  unfolding marked
  marked_append [] ys table = refl
  marked_append (t ∷ xs) ys table = marked_append xs ys (entry table (get_or ids t 0) 1)

  -- ---- what is marked

  module _ (x t : ℕ) (table : List ℕ) (w : x < 16385) (h : x < length table) where
    marked-one : (b a : Bool) → eqb (get_or ids t 0) x ≡ b
        → pick a 1 (get_or (entry table (get_or ids t 0) 1) x 0) ≡ pick (pick b true a) 1 (get_or table x 0)
    marked-one true a q =
        ap (pick a 1) (ap (λ k. get_or (entry table k 1) x 0) (eqb-true (get_or ids t 0) x q) ∙ entry-same table x 1 w h) ∙ by a
      where
        by : (a : Bool) → ◌≡◌ {A = ℕ} (pick a 1 1) 1
        by true = refl
        by false = refl
    marked-one false a q =
        ap (pick a 1) (entry_other table (get_or ids t 0) 1 x (λ z. eqb-false (get_or ids t 0) x q (sym z)))

  marked-at : (x : ℕ) (ts table : List ℕ) → x < 16385 → x < length table
      → get_or (marked ids ts table) x 0 ≡ pick (is_among ids ts x) 1 (get_or table x 0)
  unfolding marked is_among
  marked-at x [] table w h = refl
  marked-at x (t ∷ ts) table w h =
      marked-at x ts (entry table (get_or ids t 0) 1) w (rw (entry_length table (get_or ids t 0) 1) h)
      ∙ marked-one x t table w h (eqb (get_or ids t 0) x) (is_among ids ts x) refl

  marked-known : (x n : ℕ) (ts : List ℕ) → x < 16385 → x < n → eqb (get_or (marked ids ts (replicate n 0)) x 0) 1 ≡ is_among ids ts x
  marked-known x n ts w h =
      ap (λ v. eqb v 1) (marked-at x ts (replicate n 0) w (rw (length-replicate {A = ℕ} n 0) h)
      ∙ ap (pick (is_among ids ts x) 1) (get_or-replicate {A = ℕ} n x 0 0 h))
      ∙ by (is_among ids ts x)
    where
      by : (b : Bool) → eqb (pick b 1 0) 1 ≡ b
      by true = refl
      by false = refl

  pub seen-known : (seen ts : List ℕ) (k id : ℕ) → seen ≡ marks ids ts → k ≡ id → k < 16385 → eqb (get_or seen k 0) 1 ≡ is_among ids ts id
  seen-known seen ts k id e q h =
      ap (λ l. eqb (get_or l k 0) 1) e ∙ marked-known k 16385 ts h h ∙ ap (is_among ids ts) q

  -- ---- along the tokens

  module _ (test : ℕ → Bool) where
    pub mark-none : (table : List ℕ) (i : ℕ) → test i ≡ false → table ≡ marked ids (here test i) table
    unfolding marked
    mark-none table i e = rw (here_out test i e)

    pub mark-one : (table new : List ℕ) (i : ℕ) → test i ≡ true → new ≡ entry table (get_or ids i 0) 1 → new ≡ marked ids (here test i) table
    unfolding marked
    mark-one table new i e s = rw (here_in test i e) s

    pub marking-turn : (table new whole : List ℕ) (n i : ℕ) → i < n → new ≡ marked ids (here test i) table
        → marked ids (chosen test (n - i) i) table ≡ whole → marked ids (chosen test (n - (i + 1)) (i + 1)) new ≡ whole
    marking-turn table new whole n i h e g =
        let rest = chosen test (n - (i + 1)) (i + 1) in
        ap (marked ids rest) e
        ∙ sym (marked_append (here test i) rest table)
        ∙ ap (λ l. marked ids l table) (sym (chosen-step test n i h))
        ∙ g

    pub marking-over : (table whole : List ℕ) (n i : ℕ) → n ≤ i → marked ids (chosen test (n - i) i) table ≡ whole → table ≡ whole
    unfolding marked
    marking-over table whole n i h g = rw (chosen-done test n i h) at g

    pub marks-first : replicate 16385 0 ≡ marks ids (chosen test 0 0)
    unfolding marked
    marks-first = ap (λ l. marked ids l (replicate 16385 0)) (sym (chosen_none test 0))

    pub marks-next : (seen new : List ℕ) (i : ℕ) → seen ≡ marks ids (chosen test i 0) → new ≡ marked ids (here test i) seen
        → new ≡ marks ids (chosen test (i + 1) 0)
    marks-next seen new i e g =
        g
        ∙ ap (marked ids (here test i)) e
        ∙ sym (marked_append (chosen test i 0) (here test i) (replicate 16385 0))
        ∙ ap (λ l. marked ids l (replicate 16385 0)) (sym (chosen-next test i))

    -- ---- lacks

    pub lacks-out : (ms : List ℕ) (i : ℕ) → test i ≡ false → false ≡ lacks ids test ms i
    unfolding lacks
    lacks-out ms i e = rw e

    pub lacks-in : (ms : List ℕ) (i : ℕ) (b : Bool) → test i ≡ true → b ≡ is_among ids ms (get_or ids i 0) → not b ≡ lacks ids test ms i
    unfolding lacks
    lacks-in ms i b e f = rw (e, f)

    module _ (places ms : List ℕ) (i found : ℕ) (gone : Bool) where
      pub lacks-place : gone ≡ lacks ids test ms i → found ≡ pick gone (get_or places i 0) 65536 → found ≤ 65536
          → found ≡ nearest places (missing ids (here test i) ms)
      lacks-place p q h = by (test i) (is_among ids ms (get_or ids i 0)) refl refl
        where
          at : (b : Bool) → lacks ids test ms i ≡ b → found ≡ pick b (get_or places i 0) 65536
          at b e = q ∙ ap (λ x. pick x (get_or places i 0) 65536) (p ∙ e)

          by : (s t : Bool) → test i ≡ s → is_among ids ms (get_or ids i 0) ≡ t → found ≡ nearest places (missing ids (here test i) ms)
          by false t e f = at false (sym (lacks-out ms i e)) ∙ missing-out ids places test ms i e
          by true true e f = at false (sym (lacks-in ms i true e (sym f))) ∙ missing-among ids places test ms i e f
          by true false e f =
              let r : found ≡ get_or places i 0 = at true (sym (lacks-in ms i false e (sym f))) in
              r ∙ missing-not ids places test ms i e f (omega arith)

-- ---- the place of a token that is missing

module _ (b : Bool) (p : ℕ) where
  pub place-gone : (r : ℕ) → b ≡ true → r ≡ p → r ≡ pick b p 65536
  place-gone r e q = rw e q

  pub place-there : b ≡ false → 65536 ≡ pick b p 65536
  place-there e = rw e
