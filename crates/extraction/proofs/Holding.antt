-- The rows that a walk holds: each variable's node, a store, and the rows at a walk's start and end are as defined. Assumes nothing.
use mathlib.Core.Path.{◌≡◌, refl, ap, ◌∙◌}
use mathlib.Core.Bool.{Bool, true, false, ◌&&◌}
use mathlib.Core.List.{List, [], ◌∷◌, ◌++◌, append-nil}
use Prim.Native.Nat.{ℕ, zero, suc, ◌+◌, ◌-◌, ◌≤◌, ◌<◌}
use native.Mathlib.Omega.{arith}
use lib.Dec.{ltb, leb}
use lib.ListN.{length, get_or, set, drop, replicate, drop_of_length-le}
use borrow.Author.Tests.{ltb-true, ltb-false, le-leb, lt-leb}
use Rattle.values.specs.Values.{pick}
use Rattle.sheet.specs.Expression.{Expr}
use Rattle.sheet.specs.Statement.{is_register}
use Rattle.sheet.specs.Module.{Module}
use Rattle.state.specs.Rows.{list_of}
use Rattle.state.proofs.Rows.{length-list_of}
use Rattle.masks.specs.Masks.{bits}
use Rattle.nextstate.specs.Rules.{defers}
use Rattle.nextstate.specs.Walk.{Held, own_row, held_node, landed}
use Rattle.extraction.specs.Emitting.{held_at}
use Rattle.extraction.specs.Walking.{fill_below, own_node, own_at, put_at, land_at}
use Rattle.extraction.proofs.Emitting.{held-input, held-wire, held-register}
use Rattle.extraction.proofs.Walking.{put_in}
use Rattle.extraction.proofs.Merging.{row-turn}

-- ---- the two rows as the code keeps them

abbrev pub rows_of : Held → List (List ℕ)
rows_of h = h.current ∷ h.later ∷ []

pub put-current : (h : Held) (r n : ℕ) → r < 32 → put_at (rows_of h) 0 r n ≡ rows_of (record { current = set h.current r n; later = h.later })
put-current h r n l = put_in (rows_of h) 0 r n (omega arith) l

pub put-later : (h : Held) (r n : ℕ) → r < 32 → put_at (rows_of h) 1 r n ≡ rows_of (record { current = h.current; later = set h.later r n })
put-later h r n l = put_in (rows_of h) 1 r n (omega arith) l

-- ---- the node held for a variable

module _ (m : Module Expr) (few : m.scope.registers ≤ 32) (row : List ℕ) where
  abbrev inputs : ℕ
  inputs = m.scope.inputs

  abbrev registers : ℕ
  registers = m.scope.registers

  held_same : (v : ℕ) → held_at row inputs registers v ≡ held_node m row v
  unfolding held_node is_register
  held_same v = by (ltb v inputs) refl (ltb v (inputs + registers)) refl
    where
      by : (t : Bool) → ltb v inputs ≡ t → (u : Bool) → ltb v (inputs + registers) ≡ u
          → held_at row inputs registers v ≡ pick (leb inputs v && ltb v (inputs + registers)) (get_or row (v - inputs) 0) v
      by true e u f =
          let l = ltb-true v inputs e in
          rw (lt-leb inputs v l) (held-input row inputs registers v l)
      by false e true f =
          let l = ltb-false v inputs e in
          let g = ltb-true v (inputs + registers) f in
          rw (le-leb inputs v l, f) (held-register row inputs registers v l (omega arith) (omega arith))
      by false e false f =
          let l = ltb-false v inputs e in
          let g = ltb-false v (inputs + registers) f in
          rw (le-leb inputs v l, f) (held-wire row inputs registers v l (omega arith))

  pub held-nodes : held_at row inputs registers ≡ held_node m row
  held-nodes = λ i v. held_same v i

-- ---- fill_below: a list by index

fill-list : (f : ℕ → ℕ) (row : List ℕ) (n : ℕ) → n ≤ length row → fill_below f n row ≡ list_of n f ++ drop n row
unfolding fill_below list_of
fill-list f row zero h = refl
fill-list f row (suc n) h =
    ap (λ (l : List ℕ). set l n (f n)) (fill-list f row n (omega arith)) ∙ row-turn row (list_of n f) n (f n) (length-list_of f n) h

fill-whole : (f : ℕ → ℕ) (row : List ℕ) (n : ℕ) → length row ≡ n → fill_below f n row ≡ list_of n f
fill-whole f row n e =
    fill-list f row n (omega arith)
    ∙ ap (λ (l : List ℕ). list_of n f ++ l) (drop_of_length-le row {i = n} (omega arith))
    ∙ append-nil (list_of n f)

list_same : (f g : ℕ → ℕ) (n : ℕ) → ((r : ℕ) → r < n → f r ≡ g r) → list_of n f ≡ list_of n g
unfolding list_of
list_same f g zero h = refl
list_same f g (suc n) h =
    let e = list_same f g n (λ r l. h r (omega arith)) in
    let x = h n (omega arith) in
    λ i. e i ++ (x i ∷ [])

-- ---- the rows at a walk's start and end

pub own_same : (m : Module Expr) → own_at m.scope.inputs m.scope.registers ≡ own_row m
unfolding own_at own_row own_node
own_same m = fill-whole (own_node m.scope.inputs m.scope.registers) (replicate 32 0) 32 refl

pub length-own : (m : Module Expr) → length (own_row m) ≡ 32
unfolding own_row
length-own m = length-list_of _ 32

module _ (m : Module Expr) (i deferred : ℕ) (mask : (r : ℕ) → r < 32 → get_or (bits deferred) r false ≡ defers m i (m.scope.inputs + r)) where
  pub landed-same : (h : Held) → length h.current ≡ 32 → land_at (rows_of h) deferred ≡ landed m i h
  unfolding land_at landed
  landed-same h long =
      fill-whole (λ r. pick (get_or (bits deferred) r false) (get_or h.later r 0) (get_or h.current r 0)) h.current 32 long
      ∙ list_same
      (λ r. pick (get_or (bits deferred) r false) (get_or h.later r 0) (get_or h.current r 0))
      (λ r. pick (defers m i (m.scope.inputs + r)) (get_or h.later r 0) (get_or h.current r 0)) 32
      (λ r l. ap (λ (b : Bool). pick b (get_or h.later r 0) (get_or h.current r 0)) (mask r l))

  pub length-landed : (h : Held) → length (landed m i h) ≡ 32
  unfolding landed
  length-landed h = length-list_of _ 32
