-- Laws of faults: what a loop goes along, and the first place of some tokens. Assumes nothing.
use mathlib.Core.Path.{◌≡◌, refl, sym, ◌∙◌, ap}
use mathlib.Core.Bool.{Bool, true, false}
use mathlib.Core.List.{List, [], ◌∷◌, ◌++◌, append_assoc, append-nil}
use Prim.Native.Nat.{ℕ, ◌+◌, ◌-◌, ◌<◌, ◌≤◌, min}
use native.Mathlib.Omega.{arith}
use borrow.Author.Tests.{ltb-true, ltb-false}
use lib.Dec.{ltb, eqb}
use lib.ListN.{get_or}
use Rattle.values.specs.Values.{pick}
use Rattle.verilog_source.specs.Names.{lower}
use Rattle.verilog_names.specs.declared.Class.TheVariants.{Used, Declared, Wire, Target}
use Rattle.verilog_names.specs.declared.Fault.{Fault}
use Rattle.verilog_names.specs.Chosen.{capped, here, chosen}
use Rattle.verilog_names.specs.Faults.{is_among, missing, repeated, nearest, of_class, faults_in, fault_at, fault_of}
use Rattle.verilog_names.proofs.Chosen.{chosen-step, chosen-done, chosen-next, here_in, here_out}

-- ---- lower

pub lower-min : (a b : ℕ) → lower a b ≡ min a b
unfolding lower
lower-min a b = by (ltb b a) refl
  where
    by : (t : Bool) → ltb b a ≡ t → pick (ltb b a) b a ≡ min a b
    by true e = rw e (omega (arith, ltb-true b a e))
    by false e = rw e (omega (arith, ltb-false b a e))

pub lower-assoc : (a b c : ℕ) → lower a (lower b c) ≡ lower (lower a b) c
lower-assoc a b c = simp lower-min (omega arith)

pub lower-most : (a b : ℕ) → a ≤ b → lower a b ≡ a
lower-most a b h = lower-min a b ∙ omega arith

pub lower-least : (a b : ℕ) → b ≤ a → lower a b ≡ b
lower-least a b h = lower-min a b ∙ omega arith

pub lower-second : (a b : ℕ) → b < a → b ≡ lower a b
lower-second a b h = sym (lower-least a b (omega arith))

pub lower-first : (a b : ℕ) → a ≤ b → a ≡ lower a b
lower-first a b h = sym (lower-most a b h)

pub lower-few : (a b k : ℕ) → a ≤ k → lower a b ≤ k
lower-few a b k h = rw lower-min (omega arith)

pub lower-kept : (a b new k : ℕ) → new ≡ lower a b → a ≤ k → new ≤ k
lower-kept a b new k e h = rw e (lower-few a b k h)

-- ---- nearest

module _ (places : List ℕ) where
  pub nearest-few : (ts : List ℕ) → nearest places ts ≤ 65536
  unfolding nearest
  nearest-few [] = omega arith
  nearest-few (t ∷ ts) = omega (arith, lower-min (get_or places t 0) (nearest places ts), nearest-few ts)

  pub nearest-append : (xs ys : List ℕ) → nearest places (xs ++ ys) ≡ lower (nearest places xs) (nearest places ys)
  unfolding nearest
  nearest-append [] ys = sym (lower-least 65536 (nearest places ys) (nearest-few ys))
  nearest-append (t ∷ xs) ys =
      ap (lower (get_or places t 0)) (nearest-append xs ys) ∙ lower-assoc (get_or places t 0) (nearest places xs) (nearest places ys)

-- ---- is_among

module _ (ids : List ℕ) (x : ℕ) where
  pub among-append : (xs ys : List ℕ) → is_among ids (xs ++ ys) x ≡ pick (is_among ids xs x) true (is_among ids ys x)
  unfolding is_among
  among-append [] ys = refl
  among-append (t ∷ xs) ys = by (eqb (get_or ids t 0) x) _ (is_among ids xs x) (is_among ids ys x) (among-append xs ys)
    where
      by : (b p q r : Bool) → p ≡ pick q true r → pick b true p ≡ pick (pick b true q) true r
      by true p q r e = refl
      by false p q r e = e

  module _ (test : ℕ → Bool) where
    pub among_in : (i : ℕ) → test i ≡ true → eqb (get_or ids i 0) x ≡ is_among ids (here test i) x
    unfolding is_among
    among_in i e = rw (here_in test i e) (by (eqb (get_or ids i 0) x))
      where
        by : (b : Bool) → b ≡ pick b true false
        by true = refl
        by false = refl

    pub among-out : (i : ℕ) → test i ≡ false → false ≡ is_among ids (here test i) x
    unfolding is_among
    among-out i e = rw (here_out test i e)

    pub among-found : (n i : ℕ) → i < n → is_among ids (here test i) x ≡ true → is_among ids (chosen test (n - i) i) x ≡ true
    among-found n i h e = rw (chosen-step test n i h, among-append, e)

    pub among-on : (n i : ℕ) → i < n → is_among ids (here test i) x ≡ false
        → is_among ids (chosen test (n - i) i) x ≡ is_among ids (chosen test (n - (i + 1)) (i + 1)) x
    among-on n i h e = rw (chosen-step test n i h, among-append, e)

    pub among-done : (n i : ℕ) → n ≤ i → is_among ids (chosen test (n - i) i) x ≡ false
    unfolding is_among
    among-done n i h = rw (chosen-done test n i h)

-- ---- missing

module _ (ids : List ℕ) where
  pub missing-append : (ms xs ys : List ℕ) → missing ids (xs ++ ys) ms ≡ missing ids xs ms ++ missing ids ys ms
  unfolding missing
  missing-append ms [] ys = refl
  missing-append ms (t ∷ xs) ys =
      ap (λ l. pick (is_among ids ms (get_or ids t 0)) [] (t ∷ []) ++ l) (missing-append ms xs ys)
      ∙ sym (append_assoc (pick (is_among ids ms (get_or ids t 0)) [] (t ∷ [])) (missing ids xs ms) (missing ids ys ms))

  -- The tokens before and behind are named alike.
  pub repeated-same : (seen others ts : List ℕ) → ((x : ℕ) → is_among ids seen x ≡ is_among ids others x)
      → repeated ids seen ts ≡ repeated ids others ts
  unfolding repeated is_among
  repeated-same seen others [] e = refl
  repeated-same seen others (t ∷ ts) e =
      ap2 (e (get_or ids t 0)) (repeated-same (t ∷ seen) (t ∷ others) ts (λ x. same x))
    where
      same : (x : ℕ) → is_among ids (t ∷ seen) x ≡ is_among ids (t ∷ others) x
      same x = rw (e x)

      ap2 : {a b : Bool} {l m : List ℕ} → a ≡ b → l ≡ m → pick a (t ∷ []) [] ++ l ≡ pick b (t ∷ []) [] ++ m
      ap2 p q = cc

  module _ (places : List ℕ) (test : ℕ → Bool) where
    -- ---- one token

    pub missing-out : (ms : List ℕ) (i : ℕ) → test i ≡ false → 65536 ≡ nearest places (missing ids (here test i) ms)
    unfolding missing nearest
    missing-out ms i e = rw (here_out test i e)

    pub missing-among : (ms : List ℕ) (i : ℕ) → test i ≡ true → is_among ids ms (get_or ids i 0) ≡ true
        → 65536 ≡ nearest places (missing ids (here test i) ms)
    unfolding missing nearest
    missing-among ms i e f = rw (here_in test i e, f)

    pub missing-not : (ms : List ℕ) (i : ℕ) → test i ≡ true → is_among ids ms (get_or ids i 0) ≡ false → get_or places i 0 ≤ 65536
        → get_or places i 0 ≡ nearest places (missing ids (here test i) ms)
    unfolding missing nearest
    missing-not ms i e f h = rw (here_in test i e, f) (lower-first (get_or places i 0) 65536 h)

    pub repeated-out : (seen : List ℕ) (i : ℕ) → test i ≡ false → 65536 ≡ nearest places (repeated ids seen (here test i))
    unfolding repeated nearest
    repeated-out seen i e = rw (here_out test i e)

    pub repeated-among : (seen : List ℕ) (i : ℕ) → test i ≡ true → is_among ids seen (get_or ids i 0) ≡ true → get_or places i 0 ≤ 65536
        → get_or places i 0 ≡ nearest places (repeated ids seen (here test i))
    unfolding repeated nearest
    repeated-among seen i e f h = rw (here_in test i e, f) (lower-first (get_or places i 0) 65536 h)

    pub repeated-not : (seen : List ℕ) (i : ℕ) → test i ≡ true → is_among ids seen (get_or ids i 0) ≡ false
        → 65536 ≡ nearest places (repeated ids seen (here test i))
    unfolding repeated nearest
    repeated-not seen i e f = rw (here_in test i e, f)

    -- ---- all of them, with the best so far

    pub missing-step : (ms : List ℕ) (n i best : ℕ) → i < n
        → lower (lower best (nearest places (missing ids (here test i) ms)))
        (nearest places (missing ids (chosen test (n - (i + 1)) (i + 1)) ms))
        ≡ lower best (nearest places (missing ids (chosen test (n - i) i) ms))
    missing-step ms n i best h = rw (chosen-step test n i h, missing-append, nearest-append, lower-assoc)

    pub missing-turn : (ms : List ℕ) (n i best found new whole : ℕ) → i < n
        → found ≡ nearest places (missing ids (here test i) ms) → new ≡ lower best found
        → lower best (nearest places (missing ids (chosen test (n - i) i) ms)) ≡ whole
        → lower new (nearest places (missing ids (chosen test (n - (i + 1)) (i + 1)) ms)) ≡ whole
    missing-turn ms n i best found new whole h f l e = rw (l, f) (missing-step ms n i best h ∙ e)

    pub missing-done : (ms : List ℕ) (n i best : ℕ) → n ≤ i → best ≤ 65536
        → lower best (nearest places (missing ids (chosen test (n - i) i) ms)) ≡ best
    unfolding missing nearest
    missing-done ms n i best h l = rw (chosen-done test n i h) (lower-most best 65536 l)

    pub repeated-step : (n i best : ℕ) → i < n
        → lower (lower best (nearest places (repeated ids (chosen test i 0) (here test i))))
        (nearest places (repeated ids (chosen test (i + 1) 0) (chosen test (n - (i + 1)) (i + 1))))
        ≡ lower best (nearest places (repeated ids (chosen test i 0) (chosen test (n - i) i)))
    unfolding repeated nearest is_among
    repeated-step n i best h = by (test i) refl
      where
        rest : List ℕ
        rest = chosen test (n - (i + 1)) (i + 1)

        seen : List ℕ
        seen = chosen test i 0

        Goal : Type 0
        Goal = lower (lower best (nearest places (repeated ids (chosen test i 0) (here test i))))
            (nearest places (repeated ids (chosen test (i + 1) 0) (chosen test (n - (i + 1)) (i + 1))))
            ≡ lower best (nearest places (repeated ids (chosen test i 0) (chosen test (n - i) i)))

        snoc : (x : ℕ) → is_among ids (seen ++ i ∷ []) x ≡ is_among ids (i ∷ seen) x
        snoc x = among-append ids x seen (i ∷ []) ∙ turn (is_among ids seen x) (eqb (get_or ids i 0) x)
          where
            turn : (a b : Bool) → pick a true (pick b true false) ≡ pick b true a
            turn true true = refl
            turn true false = refl
            turn false true = refl
            turn false false = refl

        join : (p r : List ℕ)
            → lower (lower best (nearest places (p ++ []))) (nearest places r) ≡ lower best (nearest places (p ++ r))
        join p r =
            rw (append-nil p, nearest-append places p r) (sym (lower-assoc best (nearest places p) (nearest places r)))

        by : (t : Bool) → test i ≡ t → Goal
        by false e =
            rw (chosen-step test n i h, chosen-next test i, here_out test i e, append-nil seen) (join [] (repeated ids seen rest))
        by true e =
            rw (chosen-step test n i h, chosen-next test i, here_in test i e, repeated-same (seen ++ i ∷ []) (i ∷ seen) rest snoc)
            (join (pick (is_among ids seen (get_or ids i 0)) (i ∷ []) []) (repeated ids (i ∷ seen) rest))

    pub repeated-turn : (n i best found new whole : ℕ) → i < n
        → found ≡ nearest places (repeated ids (chosen test i 0) (here test i)) → new ≡ lower best found
        → lower best (nearest places (repeated ids (chosen test i 0) (chosen test (n - i) i))) ≡ whole
        → lower new (nearest places (repeated ids (chosen test (i + 1) 0) (chosen test (n - (i + 1)) (i + 1)))) ≡ whole
    repeated-turn n i best found new whole h f l e = rw (l, f) (repeated-step n i best h ∙ e)

    pub repeated-done : (seen : List ℕ) (n i best : ℕ) → n ≤ i → best ≤ 65536
        → lower best (nearest places (repeated ids seen (chosen test (n - i) i))) ≡ best
    unfolding repeated nearest
    repeated-done seen n i best h l = rw (chosen-done test n i h) (lower-most best 65536 l)

-- ---- all faults

module _ (kinds ids places roles : List ℕ) where
  pub nearest-faults : (n : ℕ)
      → (let of = of_class kinds roles n in
      lower (nearest places (missing ids (of Used) (of Declared)))
      (lower (nearest places (repeated ids [] (of Declared)))
      (lower (nearest places (missing ids (of Target) (of Wire)))
      (lower (nearest places (repeated ids [] (of Target))) (nearest places (missing ids (of Wire) (of Target)))))))
      ≡ nearest places (faults_in kinds ids roles n)
  unfolding faults_in
  nearest-faults n = simp (nearest-append, lower-assoc)

  pub fault-all : (count n a b c d e w x y z : ℕ) → n ≡ capped count
      → a ≡ nearest places (missing ids (of_class kinds roles n Used) (of_class kinds roles n Declared))
      → b ≡ nearest places (repeated ids [] (of_class kinds roles n Declared))
      → c ≡ nearest places (missing ids (of_class kinds roles n Target) (of_class kinds roles n Wire))
      → d ≡ nearest places (repeated ids [] (of_class kinds roles n Target))
      → e ≡ nearest places (missing ids (of_class kinds roles n Wire) (of_class kinds roles n Target))
      → w ≡ lower d e → x ≡ lower c w → y ≡ lower b x → z ≡ lower a y
      → ◌≡◌ {A = Fault} record { found = ltb z 65536; place = z } (fault_of kinds ids places roles (capped count))
  unfolding fault_of fault_at
  fault-all count n a b c d e w x y z m p q r s t f g h k =
      ap fault_at {x = z} (k ∙ ap (lower a) (h ∙ ap (lower b) (g ∙ ap (lower c) f)) ∙ parts p q r s t ∙ nearest-faults n)
      ∙ ap (λ j. fault_of kinds ids places roles j) m
    where
      parts : {a b c d e a' b' c' d' e' : ℕ} → a ≡ a' → b ≡ b' → c ≡ c' → d ≡ d' → e ≡ e'
          → lower a (lower b (lower c (lower d e))) ≡ lower a' (lower b' (lower c' (lower d' e')))
      parts p q r s t = cc
