-- Laws of the tables' tokens: what a table has of a token, ids and spellings, and lists of tokens along lists of names.
-- Assumes nothing.
use mathlib.Core.Path.{◌≡◌, refl, sym, ap}
use mathlib.Core.Logic.{◌≢◌}
use mathlib.Core.Bool.{Bool, true, false}
use mathlib.Core.List.{List, [], ◌∷◌, ◌++◌, map}
use Prim.Native.Nat.{ℕ, zero, suc, ◌+◌, ◌<◌, ◌≤◌}
use native.Mathlib.Omega.{arith}
use borrow.Author.Tests.{eq-eqb, ne_eqb}
use lib.Dec.{eqb}
use lib.ListN.{length, get_or, take, drop}
use Rattle.values.specs.Values.{pick}
use Rattle.naming.specs.Naming.{same_text}
use Rattle.naming.proofs.Naming.{same_text-refl, same_text→≡}
use Rattle.verilog_tokens.specs.Tokens.{Token, terminal, name, Name}
use Rattle.verilog_tokens.specs.Table.{terminals, number_from, kind_of, name_in, names_in, place_of, id_of}
use Rattle.verilog_names.specs.Tables.{Along, none, next}
use Rattle.verilog_names.specs.Claims.{SameIds}

-- ---- Along

module _ {A B : Type 0} {R : A → B → Type 0} where
  pub along-append : {ks ls : List A} {ms ns : List B} → Along R ks ms → Along R ls ns → Along R (ks ++ ls) (ms ++ ns)
  along-append none q = q
  along-append (next {xs = xs} {ys = ys} r p) q = next r (along-append {ks = xs} {ms = ys} p q)

  pub along-length : {ks : List A} {ms : List B} → Along R ks ms → length ks ≡ length ms
  along-length none = refl
  along-length (next {xs = xs} {ys = ys} r p) = ap suc (along-length {ks = xs} {ms = ys} p)

-- Along what the elements stand for.
pub along-map : {A B C : Type 0} {R : A → B → Type 0} {S : A → C → Type 0} (f : B → C) → ((a : A) (b : B) → R a b → S a (f b))
    → {ks : List A} {ms : List B} → Along R ks ms → Along S ks (map f ms)
along-map f g none = none
along-map f g (next {a = a} {b = b} {xs = xs} {ys = ys} r p) = next (g a b r) (along-map f g {ks = xs} {ms = ys} p)

-- ---- what a table has of a token

pub entry_at : (f : Token → ℕ) (ts : List Token) (table : List ℕ) (t : ℕ) (x : Token) (behind : List Token)
    → take (length ts) table ≡ map f ts → drop t ts ≡ x ∷ behind → get_or table t 0 ≡ f x
entry_at f [] table zero x behind e d = cc
entry_at f [] table (suc t) x behind e d = cc
entry_at f (y ∷ ts) [] t x behind e d = cc
entry_at f (y ∷ ts) (a ∷ table) zero x behind e d = cc
entry_at f (y ∷ ts) (a ∷ table) (suc t) x behind e d = entry_at f ts table t x behind (cc) d

-- ---- ids

-- Of a list of names, the place of one that is spelled another way is another.
place-differs : (ns : List Name) (s u : List ℕ) → same_text s u ≡ false → place_of ns s < length ns → place_of ns s ≢ place_of ns u
unfolding place_of
place-differs [] s u e h q = omega arith
place-differs (n ∷ ns) s u e h q =
    by (same_text n.spelled s) (same_text n.spelled u) refl refl (place-differs ns s u e) h q
  where
    by : (a b : Bool) → same_text n.spelled s ≡ a → same_text n.spelled u ≡ b
        → (place_of ns s < length ns → place_of ns s ≡ place_of ns u → ⊥)
        → pick a 0 (suc (place_of ns s)) < suc (length ns) → pick a 0 (suc (place_of ns s)) ≡ pick b 0 (suc (place_of ns u)) → ⊥
    by true true p r f h q =
        let i = same_text→≡ n.spelled s p in
        let j = same_text→≡ n.spelled u r in
        let k : same_text s u ≡ true = rw (sym i, sym j) (same_text-refl n.spelled) in
        let z : ◌≡◌ {A = Bool} true false = cc in
        let o : ◌≡◌ {A = ℕ} 0 1 = ap (λ b. pick b 0 1) z in omega arith
    by true false p r f h q = omega arith
    by false true p r f h q = omega arith
    by false false p r f h q = f (omega arith) (omega arith)

place-behind : (xs ns : List Name) (s : List ℕ) → place_of ns s < length ns → place_of (xs ++ ns) s < length (xs ++ ns)
unfolding place_of
place-behind [] ns s h = h
place-behind (x ∷ xs) ns s h = by (same_text x.spelled s) (place-behind xs ns s h)
  where
    by : (a : Bool) → place_of (xs ++ ns) s < length (xs ++ ns) → pick a 0 (suc (place_of (xs ++ ns) s)) < suc (length (xs ++ ns))
    by true h = omega arith
    by false h = omega arith

place_inside : (ts : List Token) (t : ℕ) (m : Name) (behind : List Token) → drop t ts ≡ name m ∷ behind
    → place_of (names_in ts) m.spelled < length (names_in ts)
unfolding names_in name_in place_of
place_inside [] zero m behind d = let z : ◌≡◌ {A = ℕ} 0 1 = cc in omega arith
place_inside [] (suc t) m behind d = let z : ◌≡◌ {A = ℕ} 0 1 = cc in omega arith
place_inside (y ∷ ts) zero m behind d = let e : y ≡ name m = cc in rw (e, same_text-refl m.spelled) (omega arith)
place_inside (y ∷ ts) (suc t) m behind d = place-behind (name_in y) (names_in ts) m.spelled (place_inside ts t m behind d)

pub same-ids : SameIds
unfolding SameIds id_of
same-ids ts t m s st = by (same_text m.spelled s) refl
  where
    by : (b : Bool) → same_text m.spelled s ≡ b → eqb (place_of (names_in ts) m.spelled) (place_of (names_in ts) s) ≡ b
    by true e = eq-eqb _ _ (ap (place_of (names_in ts)) (same_text→≡ m.spelled s e))
    by false e =
        ne_eqb _ _ (place-differs (names_in ts) m.spelled s e (place_inside ts t m st.behind st.stands))

-- ---- kinds: a name's is 64, and no other token's

from-other : (k : ℕ) (ws : List (List ℕ)) (s : List ℕ) → k + length ws ≤ 64 → number_from k ws s ≢ 64
unfolding number_from
from-other k [] s h e = omega arith
from-other k (w ∷ ws) s h e = by (same_text w s) (from-other (suc k) ws s (omega arith)) e
  where
    by : (b : Bool) → (number_from (suc k) ws s ≡ 64 → ⊥) → pick b k (number_from (suc k) ws s) ≡ 64 → ⊥
    by true f e = omega arith
    by false f e = f e

pub terminal-kind : (s : List ℕ) → kind_of (terminal s) ≢ 64
unfolding kind_of terminals
terminal-kind s = from-other 1 terminals s (omega arith)
