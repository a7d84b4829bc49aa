-- Tests over numbers below n: one turn of a loop that looks for a number with a property, `any` over them, marks that are set,
-- and some instruction of a code by its place. Assumes nothing.
use mathlib.Core.Path.{◌≡◌, refl, sym, ap, ◌∙◌, subst}
use mathlib.Core.Bool.{Bool, true, false, not, ◌&&◌, ◌||◌, or-true, or-false, or_assoc}
use mathlib.Core.List.{List, [], ◌∷◌}
use Prim.Native.Nat.{ℕ, zero, suc, ◌+◌, ◌≤◌, ◌<◌}
use native.Mathlib.Numerals.{add-one}
use native.Mathlib.Omega.{arith}
use borrow.Author.Tests.{eqb-true, eqb-false, ltb-true, ltb-false}
use lib.Dec.{ltb, eqb}
use lib.ListN.{length, get_or, set}
use lib.Seq.{get_or-set_same, get_or-set_other}
use denote.Param.Members.{Mut}
use Rattle.std.specs.declared.option.Option.{Option}
use Rattle.std.specs.Iterator.{YieldsThen}
use Rattle.std.specs.List.{FoldsTo, range_with_len, AllWithin, HoldsAt}
use Rattle.std.specs.Fn.{Called}
use Rattle.std.specs.Option.{MatchOption}
use Rattle.std.specs.Bool.{MatchBool}
use Rattle.std.proofs.lemmas.List.FromFn.{length-range_with_len, get_or-range_with_len}
use Rattle.std.proofs.lemmas.Iterator.{YieldsList, cases_from_any}
use Rattle.sheet.specs.Expression.{Expr}
use Rattle.pseudocode.specs.Translation.{Instr, go}
use Rattle.masks.specs.Masks.{any_mark, first}
use Rattle.masks.proofs.Masks.{any_some, any_of}
use Rattle.events.specs.Cycle.{any_below}
use Rattle.events.proofs.Cycle.{absurd-bool, any-below, some_below, below_none}
use Rattle.nextstate.specs.Rules.{any_instr}

-- ---- a loop over the numbers below n: none so far

module _ (f : ℕ → Bool) where
  pub any-start : any_below 0 f ≡ false
  unfolding any_below
  any-start = refl

  pub any-turn : (k : ℕ) {b : Bool} → any_below k f ≡ false → b ≡ f k → b ≡ false → any_below (k + 1) f ≡ false
  unfolding any_below
  any-turn k e h g = rw (add-one k, e) (sym h ∙ g)

-- ---- what `any` gives over the numbers below n, where the closure gives f of each

module _ {S F : Type 0} {steps : S → Option ℕ → S → Type 0} {g : Mut F (ℕ × Unit {0}) Bool} (f : ℕ → Bool) (n : ℕ) {s : S} (u : S) {p : F} where
  pub any_in-range : (r : Bool)
      → (xs : List ℕ) × (o : Option ℕ) × (j : F) × YieldsThen steps s xs o u × FoldsTo (λ p x q. Called g p (x, tt) false q) p xs j
      × MatchOption o (r ≡ false) (λ x. (r ≡ true) × ((h : F) × Called g j (x, tt) true h))
      → YieldsList steps (λ x. x) s (range_with_len 0 n)
      → ((k : ℕ) (q : F) → Called g p (k, tt) true q → f k ≡ true) → ((k : ℕ) (q : F) → Called g p (k, tt) false q → (q ≡ p) × (f k ≡ false))
      → r ≡ any_below n f
  any_in-range r d y hit miss = by r (cases_from_any u p r (λ k. f k ≡ true) (λ k. f k ≡ false) d y hit miss)
    where
      all : List ℕ
      all = range_with_len 0 n

      long : length all ≡ n
      long = length-range_with_len 0 n

      place : (k : ℕ) → k < n → get_or all k 0 ≡ k
      place k l = omega (arith, get_or-range_with_len 0 n k 0 l)

      by : (r : Bool) → MatchBool r ((k : ℕ) × (k < length all) × HoldsAt (λ k. f k ≡ true) all k) (AllWithin (λ k. f k ≡ false) all 0 (length all))
          → r ≡ any_below n f
      by true h =
          let l : h.0 < n = omega (arith, long, h.1) in
          sym (any-below f n h.0 l (subst (λ (k : ℕ). f k ≡ true) (place h.0 l) (h.2 0)))
      by false h =
          sym (below_none f n (λ k l. subst (λ (k : ℕ). f k ≡ false) (place k l) (h k 0 (omega arith) (omega (arith, long)))))

-- The first of the numbers below suc n, and the rest.
pub any-front : (f : ℕ → Bool) (n : ℕ) → any_below (suc n) f ≡ (f 0 || any_below n (λ k. f (suc k)))
unfolding any_below
any-front f zero = sym (or-false (f 0))
any-front f (suc n) = ap (λ t. t || f (suc n)) (any-front f n) ∙ or_assoc (f 0) (any_below n (λ k. f (suc k))) (f (suc n))

-- A test that goes before each of them.
pub any-and : (a : Bool) (f : ℕ → Bool) (n : ℕ) → (a && any_below n f) ≡ any_below n (λ j. a && f j)
any-and true f n = refl
any-and false f n = sym (below_none (λ j. false) n (λ k l. refl))

-- ---- some instruction of a code, by its place

pub any-instr : (f : Instr Expr → Bool) (c : List (Instr Expr)) → any_instr f c ≡ any_below (length c) (λ p. f (get_or c p (go 0)))
unfolding any_instr any_below
any-instr f [] = refl
any-instr f (i ∷ c) = ap (λ t. f i || t) (any-instr f c) ∙ sym (any-front (λ p. f (get_or (i ∷ c) p (go 0))) (length c))

-- ---- a mark that is set

pub mark_set : (bs : List Bool) (k r : ℕ) → r < length bs → get_or (set bs k true) r false ≡ (get_or bs r false || eqb k r)
mark_set bs k r h = by (eqb k r) refl
  where
    by : (t : Bool) → eqb k r ≡ t → get_or (set bs k true) r false ≡ (get_or bs r false || t)
    by true e =
        let q = eqb-true k r e in
        ap (λ (j : ℕ). get_or (set bs k true) j false) (sym q)
        ∙ get_or-set_same bs k true false (rw q h)
        ∙ sym (or-true (get_or bs r false))
    by false e = get_or-set_other bs k r true false (λ q. eqb-false k r e (sym q)) ∙ sym (or-false (get_or bs r false))

-- ---- a mark that is taken away

clear-same : (bs : List Bool) (k : ℕ) → get_or (set bs k false) k false ≡ false
clear-same [] k = refl
clear-same (b ∷ bs) zero = refl
clear-same (b ∷ bs) (suc k) = clear-same bs k

pub mark-clear : (bs : List Bool) (k r : ℕ) → get_or (set bs k false) r false ≡ (not (eqb k r) && get_or bs r false)
mark-clear bs k r = by (eqb k r) refl
  where
    by : (t : Bool) → eqb k r ≡ t → get_or (set bs k false) r false ≡ (not t && get_or bs r false)
    by true e = ap (λ (j : ℕ). get_or (set bs k false) j false) (sym (eqb-true k r e)) ∙ clear-same bs k
    by false e = get_or-set_other bs k r false false (λ q. eqb-false k r e (sym q))

pub clear-past : (bs : List Bool) (k r : ℕ) → get_or bs r false ≡ false → get_or (set bs k false) r false ≡ false
clear-past bs k r h = mark-clear bs k r ∙ by (not (eqb k r))
  where
    by : (t : Bool) → (t && get_or bs r false) ≡ false
    by true = h
    by false = refl

-- ---- some mark, where the marks below n are a test and there are no others

pub any-marks : (bs : List Bool) (n : ℕ) (f : ℕ → Bool) → ((k : ℕ) → k < n → get_or bs k false ≡ f k)
    → ((k : ℕ) → n ≤ k → get_or bs k false ≡ false) → any_mark bs ≡ any_below n f
any-marks bs n f own none = by (any_mark bs) refl (any_below n f) refl
  where
    -- The first mark is one of those below n.
    at_first : any_mark bs ≡ true → (t : Bool) → ltb (first bs) n ≡ t → any_below n f ≡ true
    at_first h true e = let l = ltb-true (first bs) n e in any-below f n (first bs) l (sym (own (first bs) l) ∙ any_some bs h)
    at_first h false e = absurd-bool (any_some bs h) (none (first bs) (ltb-false (first bs) n e))

    by : (s : Bool) → any_mark bs ≡ s → (t : Bool) → any_below n f ≡ t → s ≡ t
    by true h true g = refl
    by true h false g = absurd-bool (at_first h (ltb (first bs) n) refl) g
    by false h true g = let k = some_below f n g in absurd-bool (any_of bs k.0 (own k.0 k.1 ∙ k.2)) h
    by false h false g = refl
