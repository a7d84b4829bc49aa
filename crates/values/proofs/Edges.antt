-- Laws of edges: the whole chart of each edge, when none fires, and the numbers of the edges.
-- Assumes nothing.
use Rattle.std.proofs.Common.{◌≡◌, ℕ, zero, suc, ◌<◌, ◌≤◌, Bool, true, false, not, ◌&&◌, ◌||◌, eqb, ◌≢◌, List, [], ◌∷◌, map, get_or, sym, refl, ◌∙◌, arith, eq-eqb, ne_eqb, eqb-true}
use mathlib.Core.Bool.{or-true}
use borrow.Author.Tests.{eqb-false}
use Rattle.values.specs.declared.Value.{Value}
use Rattle.values.specs.declared.Edge.{Edge}
use Rattle.values.specs.declared.Edge.TheVariants.{Change, Posedge, Negedge}
use Rattle.values.specs.Values.{known, ones, all_unknown, same}
use Rattle.values.specs.Edges.{level, moves, fires, edge_of, edge_number}
use Rattle.values.specs.Charts.{posedges, negedges, Charts}
use Rattle.values.proofs.Values.{same_refl, same→≡, ≡→same}

-- ---- fires: no edge on equal values

pub fires-refl : (e : Edge) (a : Value) → fires e a a ≡ false
unfolding fires moves
fires-refl Change a = rw (same_refl a)
fires-refl Posedge a = rw (eq-eqb (level a) (level a) refl)
fires-refl Negedge a = rw (eq-eqb (level a) (level a) refl)

pub fires-same : (e : Edge) (a b : Value) → same a b ≡ true → fires e a b ≡ false
fires-same e a b h = rw (same→≡ a b h) (fires-refl e b)

pub fires→≢ : (e : Edge) (a b : Value) → fires e a b ≡ true → a ≢ b
fires→≢ e a b h p = let z : ◌≡◌ {A = ℕ} 0 1 = cc (fires-same e a b (≡→same a b p)) in omega arith

-- ---- fires: every old value against every new one. A row is an old value, 0, 1 and x; its columns
-- are the new values, 0, 1 and x.

abbrev pub bits : List Value
bits = known 0 ∷ known 1 ∷ all_unknown 1 ∷ []

abbrev pub chart : Edge → List (List Bool)
chart e = map (λ old. map (fires e old) bits) bits

pub change-chart :
    chart Change ≡
    (false ∷ true ∷ true ∷ []) ∷
    (true ∷ false ∷ true ∷ []) ∷
    (true ∷ true ∷ false ∷ []) ∷ []
unfolding fires moves level same known all_unknown ones
change-chart = refl

pub posedge-chart :
    chart Posedge ≡
    (false ∷ true ∷ true ∷ []) ∷
    (false ∷ false ∷ false ∷ []) ∷
    (false ∷ true ∷ false ∷ []) ∷ []
unfolding fires moves level same known all_unknown ones
posedge-chart = refl

pub negedge-chart :
    chart Negedge ≡
    (false ∷ false ∷ false ∷ []) ∷
    (true ∷ false ∷ true ∷ []) ∷
    (true ∷ false ∷ false ∷ []) ∷ []
unfolding fires moves level same known all_unknown ones
negedge-chart = refl

-- ---- fires: any change

pub fires-change : (a b : Value) → fires Change a b ≡ not (same a b)
unfolding fires
fires-change a b = refl

-- ---- fires: posedge

pub posedge-0-1 : fires Posedge (known 0) (known 1) ≡ true
unfolding fires moves level same known all_unknown ones
posedge-0-1 = refl

pub posedge-x-1 : fires Posedge (all_unknown 1) (known 1) ≡ true
unfolding fires moves level same known all_unknown ones
posedge-x-1 = refl

pub posedge-0-x : fires Posedge (known 0) (all_unknown 1) ≡ true
unfolding fires moves level known all_unknown ones
posedge-0-x = refl

-- Never to 0.
to-0 : (t : Bool) → (not t && (t || false)) ≡ false
to-0 true = refl
to-0 false = refl

pub posedge-to-0 : (a : Value) → fires Posedge a (known 0) ≡ false
unfolding fires moves level known all_unknown ones
posedge-to-0 a = to-0 (eqb (level a) 0)

-- ---- fires: negedge

pub negedge-1-0 : fires Negedge (known 1) (known 0) ≡ true
unfolding fires moves level same known all_unknown ones
negedge-1-0 = refl

pub negedge-x-0 : fires Negedge (all_unknown 1) (known 0) ≡ true
unfolding fires moves level same known all_unknown ones
negedge-x-0 = refl

-- ---- moves: exactly where the one level is left or the other comes

module _ (from to : ℕ) (old new : Value) where
  pub moves_from : level old ≡ from → level new ≢ from → moves from to old new ≡ true
  unfolding moves
  moves_from e h = rw (e, ne_eqb from (level new) (λ q. h (sym q)), eq-eqb from from refl)

  pub moves-to : level new ≡ to → level old ≢ to → moves from to old new ≡ true
  unfolding moves
  moves-to e h = rw (e, ne_eqb (level old) to h, eq-eqb to to refl, or-true (eqb (level old) from))

  pub moves-by : {P : Type 0} → (level old ≡ from → level new ≢ from → P) → (level new ≡ to → level old ≢ to → P)
      → moves from to old new ≡ true → P
  unfolding moves
  moves-by {P} leaves comes h = by (eqb (level old) (level new)) refl (eqb (level old) from) refl h
    where
      by : (s : Bool) → eqb (level old) (level new) ≡ s → (t : Bool) → eqb (level old) from ≡ t
          → (not s && (t || eqb (level new) to)) ≡ true → P
      by true d t e q = let z : ◌≡◌ {A = ℕ} 0 1 = cc q in absurd (omega arith)
      by false d true e q =
          let a = eqb-true (level old) from e in
          leaves a (λ z. eqb-false (level old) (level new) d (a ∙ sym z))
      by false d false e q =
          let b = eqb-true (level new) to q in
          comes b (λ z. eqb-false (level old) (level new) d (z ∙ sym b))

-- ---- each chart is the rule at all nine pairs

three : (P : ℕ → Type 0) → P 0 → P 1 → P 2 → (a : ℕ) → a < 3 → P a
three P x y z zero h = x
three P x y z (suc zero) h = y
three P x y z (suc (suc zero)) h = z
three P x y z (suc (suc (suc n))) h = absurd (omega arith)

pub posedges-chart : Charts posedges 0 1
posedges-chart a b h k =
    three (λ a. get_or (get_or posedges a []) b false ≡ (not (eqb a b) && (eqb a 0 || eqb b 1)))
    (three (λ b. get_or (get_or posedges 0 []) b false ≡ (not (eqb 0 b) && (eqb 0 0 || eqb b 1))) refl refl refl b k)
    (three (λ b. get_or (get_or posedges 1 []) b false ≡ (not (eqb 1 b) && (eqb 1 0 || eqb b 1))) refl refl refl b k)
    (three (λ b. get_or (get_or posedges 2 []) b false ≡ (not (eqb 2 b) && (eqb 2 0 || eqb b 1))) refl refl refl b k) a h

pub negedges-chart : Charts negedges 1 0
negedges-chart a b h k =
    three (λ a. get_or (get_or negedges a []) b false ≡ (not (eqb a b) && (eqb a 1 || eqb b 0)))
    (three (λ b. get_or (get_or negedges 0 []) b false ≡ (not (eqb 0 b) && (eqb 0 1 || eqb b 0))) refl refl refl b k)
    (three (λ b. get_or (get_or negedges 1 []) b false ≡ (not (eqb 1 b) && (eqb 1 1 || eqb b 0))) refl refl refl b k)
    (three (λ b. get_or (get_or negedges 2 []) b false ≡ (not (eqb 2 b) && (eqb 2 1 || eqb b 0))) refl refl refl b k) a h

-- ---- edge_of, edge_number: each undoes the other

pub edge_of-edge_number : (e : Edge) → edge_of (edge_number e) ≡ e
unfolding edge_of edge_number
edge_of-edge_number Change = refl
edge_of-edge_number Posedge = refl
edge_of-edge_number Negedge = refl

pub edge_number-edge_of : (n : ℕ) → n ≤ 2 → edge_number (edge_of n) ≡ n
unfolding edge_of edge_number
edge_number-edge_of zero h = refl
edge_number-edge_of (suc zero) h = refl
edge_number-edge_of (suc (suc zero)) h = refl
edge_number-edge_of (suc (suc (suc n))) h = absurd (omega arith)
