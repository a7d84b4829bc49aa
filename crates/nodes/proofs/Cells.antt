-- Laws of one node: it is the one of its four words, and with the widths and values of a list it fits, is as wide and lands
-- as nextstate says. Assumes nothing.
use mathlib.Core.Path.{◌≡◌, refl, sym, ap, ◌∙◌}
use mathlib.Core.Bool.{Bool, true, false, ◌&&◌}
use mathlib.Core.List.{List}
use Prim.Native.Nat.{ℕ, ◌-◌, ◌^◌, ◌%◌, ◌≤◌, ◌<◌}
use native.Mathlib.Omega.{arith}
use borrow.Author.Tests.{le-leb, lt-leb, lt-ltb, le-ltb, ne_eqb, ltb-true, ltb-false, leb-true}
use lib.ListN.{length, get_or, get_or-eq_default}
use lib.Dec.{ltb, leb, eqb}
use Rattle.values.specs.Operators.{unary_width, binary_width}
use Rattle.sheet.specs.Expression.{Expr}
use Rattle.sheet.specs.Module.{Module}
use Rattle.events.specs.Cycle.{variables, code_of, instr_at, is_wait}
use Rattle.events.proofs.Cycle.{and_left, and_right}
use Rattle.nextstate.specs.Nodes.{Node, a_variable, a_constant, an_unknown, a_unary, a_binary, a_conditional, a_branch, node_from, node_width}
use Rattle.nextstate.specs.CycleRun.{width?, node_fits, lands}
use Rattle.nodes.specs.Cells.{operator_of, size_in, is_width, arms_fit, fits_at, width_at, lands_at}

-- ---- operator_of, node_from: by the kind

module _ (k a b : ℕ) where
  pub operator-low : k < 11 → an_unknown 0 ≡ operator_of k a b
  unfolding operator_of
  operator-low h = rw (lt-leb 11 k h)

  pub operator-high : 19 < k → an_unknown 0 ≡ operator_of k a b
  unfolding operator_of
  operator-high h =
      rw (le-leb 11 k (omega arith), lt-leb k 12 (omega arith), lt-leb k 19 h)

  pub operator-unary : 11 ≤ k → k ≤ 12 → a_unary (k - 10) a ≡ operator_of k a b
  unfolding operator_of
  operator-unary h l = rw (le-leb 11 k h, le-leb k 12 l)

  pub operator-binary : 12 < k → k ≤ 19 → a_binary (k - 10) a b ≡ operator_of k a b
  unfolding operator_of
  operator-binary h l = rw (le-leb 11 k (omega arith), lt-leb k 12 h, le-leb k 19 l)

  pub from-operator :
      (c : ℕ) → (k ≡ 0 → ⊥) → (k ≡ 1 → ⊥) → (k ≡ 2 → ⊥) → (k ≡ 20 → ⊥) → (k ≡ 40 → ⊥) → operator_of k a b ≡ node_from k a b c
  unfolding operator_of node_from
  from-operator c p q r s t = rw (ne_eqb k 0 p, ne_eqb k 1 q, ne_eqb k 2 r, ne_eqb k 20 s, ne_eqb k 40 t)

-- ---- size_in: a slot of the table

module _ (n i : ℕ) (e : i ≡ n) where
  pub size-past : (us : List ℕ) → 4096 ≤ i → 0 ≡ size_in us n
  unfolding size_in
  size-past us h = rw (← e, le-ltb i 4096 h)

  pub size-in : (us : List ℕ) → i < 4096 → get_or us i 0 ≡ size_in us n
  unfolding size_in
  size-in us h = rw (← e, lt-ltb i 4096 h)

-- ---- a test that counts only below n

pub below-and : (a n : ℕ) (x y : Bool) → (a < n → x ≡ y) → (ltb a n && x) ≡ (ltb a n && y)
below-and a n x y h = by (ltb a n) refl
  where
    by : (t : Bool) → ltb a n ≡ t → (t && x) ≡ (t && y)
    by true e = h (ltb-true a n e)
    by false e = refl

-- ---- fits_at is node_fits, by what is known of the nodes before

pub fits-list :
    (m : Module Expr) (us : List ℕ) (d : Node) → node_fits m us d ≡ fits_at (variables m) (length us) (λ a. get_or us a 0) d
unfolding node_fits width? is_width arms_fit fits_at
fits-list m us (a_variable v) = refl
fits-list m us (a_constant w k) = refl
fits-list m us (an_unknown w) = refl
fits-list m us (a_unary o a) = refl
fits-list m us (a_binary o a b) = refl
fits-list m us (a_conditional c a b) = refl
fits-list m us (a_branch c a b) = refl

module _ (v n : ℕ) (s t : ℕ → ℕ) (h : (a : ℕ) → a < n → s a ≡ t a) where
  arms_same : (a b : ℕ) → arms_fit n s a b ≡ arms_fit n t a b
  unfolding arms_fit
  arms_same a b =
      below-and a n _ _ (λ k. below-and b n (eqb (s a) (s b)) (eqb (t a) (t b)) (λ l. rw (h a k, h b l)))

  pub fits-same : (d : Node) → fits_at v n s d ≡ fits_at v n t d
  unfolding fits_at
  fits-same (a_variable u) = refl
  fits-same (a_constant w k) = refl
  fits-same (an_unknown w) = refl
  fits-same (a_unary o a) = refl
  fits-same (a_binary o a b) = arms_same a b
  fits-same (a_conditional c a b) = ap (λ (x : Bool). ltb c n && x) (arms_same a b)
  fits-same (a_branch c a b) = ap (λ (x : Bool). ltb c n && x) (arms_same a b)

-- ---- the operands of a node that fits are earlier nodes

module _ (n : ℕ) (s : ℕ → ℕ) (a b : ℕ) (h : arms_fit n s a b ≡ true) where
  arm-left : a < n
  unfolding arms_fit
  arm-left = ltb-true a n (and_left (ltb a n) (ltb b n && eqb (s a) (s b)) h)

  arm-right : b < n
  unfolding arms_fit
  arm-right = ltb-true b n (and_left (ltb b n) (eqb (s a) (s b)) (and_right (ltb a n) (ltb b n && eqb (s a) (s b)) h))

module _ (n : ℕ) (s : ℕ → ℕ) (c a b : ℕ) (h : (ltb c n && arms_fit n s a b) ≡ true) where
  condition : c < n
  condition = ltb-true c n (and_left (ltb c n) (arms_fit n s a b) h)

  arms : arms_fit n s a b ≡ true
  arms = and_right (ltb c n) (arms_fit n s a b) h

small : (w : ℕ) → is_width w ≡ true → w % 256 ≡ w
unfolding is_width
small w h =
    let k : w ≤ 32 = leb-true w 32 (and_right (leb 1 w) (leb w 32) h) in
    omega arith

-- ---- its width is node_width

module _ (ws us : List ℕ) (v n : ℕ) (s : ℕ → ℕ) (h : (a : ℕ) → a < n → s a ≡ get_or us a 0) where
  pub width_same : (d : Node) → fits_at v n s d ≡ true → width_at ws s d ≡ node_width ws us d
  unfolding fits_at width_at node_width
  width_same (a_variable u) f = refl
  width_same (a_constant w k) f = small w (and_left (is_width w) (ltb k (2 ^ w)) f)
  width_same (an_unknown w) f = small w f
  width_same (a_unary o a) f = ap (unary_width o) (h a (ltb-true a n f))
  width_same (a_binary o a b) f = ap (binary_width o) (h a (arm-left n s a b f))
  width_same (a_conditional c a b) f = h a (arm-left n s a b (arms n s c a b f))
  width_same (a_branch c a b) f = h a (arm-left n s a b (arms n s c a b f))

-- ---- lands_at is lands, by what is known of the nodes before

marked-list : (ls : List Bool) (a : ℕ) → get_or ls a false ≡ (ltb a (length ls) && get_or ls a false)
marked-list ls a = by (ltb a (length ls)) refl
  where
    by : (t : Bool) → ltb a (length ls) ≡ t → get_or ls a false ≡ (t && get_or ls a false)
    by true e = refl
    by false e = get_or-eq_default ls false (ltb-false a (length ls) e)

module _ (m : Module Expr) (i : ℕ) (ls : List Bool) (waits : ℕ → Bool) (g : ℕ → Bool)
    (w : (p : ℕ) → waits p ≡ is_wait (instr_at (code_of m i) p)) (h : (a : ℕ) → a < length ls → g a ≡ get_or ls a false)
  where
    mark-same : (a : ℕ) → (ltb a (length ls) && g a) ≡ get_or ls a false
    mark-same a = below-and a (length ls) (g a) (get_or ls a false) (h a) ∙ sym (marked-list ls a)

    pub lands-same : (d : Node) → lands_at waits (length ls) g d ≡ lands m i ls d
    unfolding lands_at lands
    lands-same (a_variable v) = refl
    lands-same (a_constant u p) = ap (λ (x : Bool). eqb u 8 && x) (w p)
    lands-same (an_unknown u) = refl
    lands-same (a_unary o a) = refl
    lands-same (a_binary o a b) = refl
    lands-same (a_conditional c a b) = refl
    lands-same (a_branch c a b) = rw (mark-same a, mark-same b)
