-- Laws of one node, by its kind, and of the loop over nodes. Assumes nothing.
use mathlib.Core.Path.{◌≡◌, ap, ◌∙◌}
use mathlib.Core.List.{List}
use Prim.Native.Nat.{ℕ, zero, suc, ◌+◌, ◌-◌, ◌%◌, ◌<◌, ◌≤◌}
use native.Mathlib.Omega.{arith}
use native.Mathlib.Numerals.{add-one}
use borrow.Author.Tests.{lt-ltb, le-ltb, eq-eqb, ne_eqb, le-leb, lt-leb}
use Rattle.values.specs.declared.Value.{Value}
use Rattle.values.specs.Values.{pick, known, all_unknown, holds}
use Rattle.values.specs.Operators.{unary, binary, choice}
use Rattle.values.specs.Cells.{cell_of}
use Rattle.plan.specs.Sections.{slot_of}
use Rattle.plan.specs.Plan.{Node, node}
use Rattle.plan_nodes.specs.Nodes.{leaf_of, worth_of, work_node, work_from, work}

-- ---- the cell of a known number

pub known-cell : (n : ℕ) → cell_of (known n) ≡ n
unfolding cell_of known
known-cell n = omega arith

-- ---- leaf_of, worth_of, by the kind

module _ (g : ℕ → Value) (k a b c : ℕ) where
  pub leaf-constant : k ≡ 1 → leaf_of g (node k a b c) ≡ known b
  unfolding leaf_of
  leaf-constant e = rw (eq-eqb k 1 e)

  pub leaf-variable : (k ≡ 1 → ⊥) → k ≡ 0 → leaf_of g (node k a b c) ≡ g (slot_of a)
  unfolding leaf_of
  leaf-variable n e = rw (ne_eqb k 1 n, eq-eqb k 0 e)

  pub leaf-none : (k ≡ 1 → ⊥) → (k ≡ 0 → ⊥) → leaf_of g (node k a b c) ≡ all_unknown (c % 256)
  unfolding leaf_of
  leaf-none n m = rw (ne_eqb k 1 n, ne_eqb k 0 m)

  pub worth-leaf : k < 11 → worth_of g (node k a b c) ≡ leaf_of g (node k a b c)
  unfolding worth_of
  worth-leaf h = rw (lt-ltb k 11 h)

  module _ (h : 11 ≤ k) where
    pub worth-unary : k < 13 → worth_of g (node k a b c) ≡ unary ((k - 10) % 256) (c % 256) (g (slot_of a))
    unfolding worth_of
    worth-unary l = rw (le-ltb k 11 h, lt-ltb k 13 l)

    pub worth-binary : 13 ≤ k → k < 20
        → worth_of g (node k a b c) ≡ binary ((k - 10) % 256) (c % 256) (g (slot_of a)) (g (slot_of b))
    unfolding worth_of
    worth-binary m l = rw (le-ltb k 11 h, le-ltb k 13 m, lt-ltb k 20 l)

    module _ (m : 20 ≤ k) where
      wide : 13 ≤ k
      wide = omega arith

      pub worth-choice : k ≡ 20 → worth_of g (node k a b c) ≡ choice (g (slot_of a)) (g (slot_of b)) (g (slot_of c))
      unfolding worth_of
      worth-choice e = rw (le-ltb k 11 h, le-ltb k 13 wide, le-ltb k 20 m, eq-eqb k 20 e)

      pub worth-branch : (k ≡ 20 → ⊥) → k ≡ 40
          → worth_of g (node k a b c) ≡ pick (holds (g (slot_of a))) (g (slot_of b)) (g (slot_of c))
      unfolding worth_of
      worth-branch n e = rw (le-ltb k 11 h, le-ltb k 13 wide, le-ltb k 20 m, ne_eqb k 20 n, eq-eqb k 40 e)

      pub worth-none : (k ≡ 20 → ⊥) → (k ≡ 40 → ⊥) → worth_of g (node k a b c) ≡ all_unknown (c % 256)
      unfolding worth_of
      worth-none n o = rw (le-ltb k 11 h, le-ltb k 13 wide, le-ltb k 20 m, ne_eqb k 20 n, ne_eqb k 40 o)

-- ---- the loop: what is left of the nodes

module _ (ws : ℕ → Node) where
  pub work-some : (i hi : ℕ) (cs ds : List ℕ) → i < hi → ds ≡ work_node ws i cs
      → work_from ws (i + 1) (hi - (i + 1)) ds ≡ work_from ws i (hi - i) cs
  unfolding work_from
  work-some i hi cs ds h e =
      let p : hi - i ≡ suc (hi - (i + 1)) = omega arith in
      rw (p, e, add-one i)

  pub work_none : (i hi : ℕ) (cs : List ℕ) → hi ≤ i → work_from ws i (hi - i) cs ≡ cs
  unfolding work_from
  work_none i hi cs h =
      let p : hi - i ≡ 0 = omega arith in
      rw p

  pub work-past : (lo hi : ℕ) (cs : List ℕ) → 4176 < hi → cs ≡ work ws lo hi cs
  unfolding work
  work-past lo hi cs h = rw (lt-leb hi 4176 h)

  pub work-within : (lo hi : ℕ) (cs : List ℕ) → hi ≤ 4176 → work ws lo hi cs ≡ work_from ws lo (hi - lo) cs
  unfolding work
  work-within lo hi cs h = rw (le-leb hi 4176 h)

  -- Two stretches of nodes one after the other.
  pub work-add : (i n m : ℕ) (cs : List ℕ) → work_from ws i (n + m) cs ≡ work_from ws (i + n) m (work_from ws i n cs)
  unfolding work_from
  work-add i zero m cs =
      let p : 0 + m ≡ m = omega arith in
      let q : i + 0 ≡ i = omega arith in
      rw (p, q)
  work-add i (suc n) m cs =
      let p : suc n + m ≡ suc (n + m) = omega arith in
      let q : i + suc n ≡ suc i + n = omega arith in
      rw (p, q) (work-add (suc i) n m (work_node ws i cs))

  -- One node more.
  pub work-last : (i n : ℕ) (cs : List ℕ) → work_from ws i (suc n) cs ≡ work_node ws (i + n) (work_from ws i n cs)
  unfolding work_from
  work-last i n cs =
      let p : suc n ≡ n + 1 = omega arith in
      ap (λ (l : ℕ). work_from ws i l cs) p ∙ work-add i n 1 cs
