-- Names in the order of their variables: each is found where it stands, none is missing, none is there twice.
-- Assumes nothing.
use mathlib.Core.Path.{◌≡◌, refl}
use mathlib.Core.Bool.{Bool, true, false}
use mathlib.Core.List.{List, [], ◌∷◌}
use Prim.Native.Nat.{ℕ, suc, ◌+◌, ◌≤◌, ◌<◌}
use native.Mathlib.Omega.{arith}
use lib.Dec.{ltb}
use lib.ListN.{length}
use borrow.Author.Tests.{ltb-true, ltb-false}
use Rattle.values.specs.Values.{pick}
use Rattle.values.proofs.Values.{pick_same}
use Rattle.naming.specs.Naming.{same_text}
use Rattle.naming.proofs.Naming.{same_text-refl, same_text→≡}
use Rattle.verilog_tokens.specs.Tokens.{Name}
use Rattle.verilog_tokens.specs.Table.{place_of}
use Rattle.verilog_source.specs.Names.{is_among, missing, repeated}

module _ (called : ℕ → List ℕ) where
  -- The names of the variables from v up to u.
  pub data Row : ℕ → List Name → ℕ → Type 0 where
    ends : {v : ℕ} → Row v [] v
    next : {v u : ℕ} {m : Name} {ns : List Name} → m.spelled ≡ called v → Row (v + 1) ns u → Row v (m ∷ ns) u

  -- Names of variables below v.
  pub data Before (v : ℕ) : List Name → Type 0 where
    nothing : Before v []
    also : {j : ℕ} {m : Name} {ns : List Name} → m.spelled ≡ called j → j < v → Before v ns → Before v (m ∷ ns)

  pub row-length : {v u : ℕ} {ns : List Name} → Row v ns u → length ns + v ≡ u
  row-length ends = omega arith
  row-length (next h r) = let z = row-length r in omega arith

  later-before : {v : ℕ} {ns : List Name} → Before v ns → Before (v + 1) ns
  later-before nothing = nothing
  later-before (also h l b) = also h (omega arith) (later-before b)

  module _ (n : ℕ) (distinct : (u v : ℕ) → u < n → v < n → called u ≡ called v → u ≡ v) where
    pub different : (u v : ℕ) → u < n → v < n → (u ≡ v → ⊥) → same_text (called u) (called v) ≡ false
    different u v h k f = by (same_text (called u) (called v)) refl
      where
        by : (t : Bool) → same_text (called u) (called v) ≡ t → t ≡ false
        by true q = absurd (f (distinct u v h k (same_text→≡ (called u) (called v) q)))
        by false q = refl

    pub place_in : {v u : ℕ} {ns : List Name} → Row v ns u → u ≤ n → (k : ℕ) → v ≤ k → k < u → place_of ns (called k) + v ≡ k
    unfolding place_of
    place_in ends h k l m = absurd (omega arith)
    place_in {v} (next {m = m} {ns = ns} e r) h k l i = by (ltb v k) refl (λ y. place_in r h k y i)
      where
        by : (t : Bool) → ltb v k ≡ t → (v + 1 ≤ k → place_of ns (called k) + (v + 1) ≡ k)
            → pick (same_text m.spelled (called k)) 0 (suc (place_of ns (called k))) + v ≡ k
        by true q f =
            let y = ltb-true v k q in
            let x = f (omega arith) in
            rw (e, different v k (omega arith) (omega arith) (λ j. omega arith)) (omega arith)
        by false q f =
            let y = ltb-false v k q in
            let z : k ≡ v = omega arith in
            rw (e, z, same_text-refl (called v)) (omega arith)

    pub among : {v u : ℕ} {ns : List Name} → Row v ns u → (m : Name) (k : ℕ) → m.spelled ≡ called k → v ≤ k → k < u → is_among ns m ≡ true
    unfolding is_among
    among ends m k e l h = absurd (omega arith)
    among {v} (next {m = o} {ns = ns} f r) m k e l h = by (ltb v k) refl (λ y. among r m k e y h)
      where
        by : (t : Bool) → ltb v k ≡ t → (v + 1 ≤ k → is_among ns m ≡ true)
            → pick (same_text o.spelled m.spelled) true (is_among ns m) ≡ true
        by true q g =
            let y = ltb-true v k q in
            let x = g (omega arith) in
            rw x (pick_same (same_text o.spelled m.spelled) true)
        by false q g =
            let y = ltb-false v k q in
            let z : k ≡ v = omega arith in
            let x : same_text o.spelled m.spelled ≡ true = rw (f, e, z) (same_text-refl (called v)) in
            rw x refl

    not-before : {v : ℕ} {ns : List Name} → Before v ns → v < n → (m : Name) → m.spelled ≡ called v → is_among ns m ≡ false
    unfolding is_among
    not-before nothing h m e = refl
    not-before {v} (also {j = j} {m = o} f l b) h m e =
        let x : same_text o.spelled m.spelled ≡ false = rw (f, e) (different j v (omega arith) h (λ q. omega arith)) in
        rw x (not-before b h m e)

    none-repeated : {v u : ℕ} {seen ns : List Name} → Before v seen → Row v ns u → u ≤ n → repeated seen ns ≡ []
    unfolding repeated
    none-repeated b ends h = refl
    none-repeated {v} b (next {m = m} e r) h =
        let z = row-length r in
        rw (not-before b (omega arith) m e) (none-repeated (also e (omega arith) (later-before b)) r h)

    pub no-repeats : {v u : ℕ} {ns : List Name} → Row v ns u → u ≤ n → repeated [] ns ≡ []
    no-repeats r h = none-repeated nothing r h

    pub none-missing : {v u t s : ℕ} {ms ns : List Name} → Row v ms u → Row t ns s → t ≤ v → u ≤ s → missing ms ns ≡ []
    unfolding missing
    none-missing ends q h l = refl
    none-missing {v} (next {m = m} e r) q h l =
        let z = row-length r in
        rw (among q m v e h (omega arith)) (none-missing r q (omega arith) l)
