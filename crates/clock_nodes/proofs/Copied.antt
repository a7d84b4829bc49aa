-- A node's four words, copied: with the right values in the cells of its operands it is worth what nextstate says. Assumes nothing.
use mathlib.Core.Path.{◌≡◌, refl, ◌∙◌}
use mathlib.Core.Bool.{true, ◌&&◌}
use mathlib.Core.List.{List}
use Prim.Native.Nat.{ℕ, ◌-◌, ◌%◌, ◌≤◌, ◌<◌}
use native.Mathlib.Nat.{mod-eq_of_lt}
use native.Mathlib.Decide.{ℕ_discrete, dec_lt}
use native.Mathlib.Omega.{arith}
use borrow.Author.Tests.{lt-ltb, le-ltb, ne_eqb, le-leb, lt-leb, ltb-true, leb-true}
use lib.Dec.{ltb, leb}
use lib.ListN.{length, get_or}
use Rattle.values.specs.declared.Value.{Value}
use Rattle.values.specs.Values.{nowhere}
use Rattle.sheet.specs.Expression.{Expr}
use Rattle.sheet.specs.Module.{Module}
use Rattle.events.specs.Cycle.{variables}
use Rattle.events.proofs.Cycle.{absurd-bool, and_right}
use Rattle.plan.specs.Sections.{slot_of}
use Rattle.plan.specs.Plan.{node}
use Rattle.plan_nodes.specs.Nodes.{worth_of}
use Rattle.plan_nodes.proofs.Nodes.{leaf-constant, leaf-variable, leaf-none, worth-leaf, worth-unary, worth-binary, worth-choice}
use Rattle.plan_nodes.proofs.Nodes.{worth-branch}
use Rattle.nextstate.specs.Nodes.{Node, an_unknown, a_unary, a_binary, node_from, node_value}
use Rattle.nextstate.specs.CycleRun.{width?, node_fits}
use Rattle.clock_nodes.specs.Copying.{cell_in, first_of, second_of, third_of}
use Rattle.clock_nodes.proofs.Worth.{arms, arm-left, arm-right, condition, both}

-- ---- the kinds

pub data Kind (k : ℕ) : Type 0 where
  variable : k ≡ 0 → Kind k
  constant : k ≡ 1 → Kind k
  blank : k ≡ 2 → Kind k
  unary-op : 11 ≤ k → k < 13 → Kind k
  binary-op : 13 ≤ k → k < 20 → Kind k
  conditional : k ≡ 20 → Kind k
  branch : k ≡ 40 → Kind k
  none : ((a b c : ℕ) → node_from k a b c ≡ an_unknown 0) → Kind k

module _ (k : ℕ) (p : k ≡ 0 → ⊥) (q : k ≡ 1 → ⊥) (r : k ≡ 2 → ⊥) (s : k ≡ 20 → ⊥) (t : k ≡ 40 → ⊥) (a b c : ℕ) where
  from_low : k < 11 → node_from k a b c ≡ an_unknown 0
  unfolding node_from
  from_low h = rw (ne_eqb k 0 p, ne_eqb k 1 q, ne_eqb k 2 r, ne_eqb k 20 s, ne_eqb k 40 t, lt-leb 11 k h)

  from-high : 19 < k → node_from k a b c ≡ an_unknown 0
  unfolding node_from
  from-high h =
      let l : 11 ≤ k = omega arith in
      let u : 12 < k = omega arith in
      rw (ne_eqb k 0 p, ne_eqb k 1 q, ne_eqb k 2 r, ne_eqb k 20 s, ne_eqb k 40 t, le-leb 11 k l, lt-leb k 12 u, lt-leb k 19 h)

pub from-unary : (k a b c : ℕ) → 11 ≤ k → k < 13 → node_from k a b c ≡ a_unary (k - 10) a
unfolding node_from
from-unary k a b c h l =
    let u : k ≤ 12 = omega arith in
    rw (
      ne_eqb k 0 (λ e. omega arith),
      ne_eqb k 1 (λ e. omega arith),
      ne_eqb k 2 (λ e. omega arith),
      ne_eqb k 20 (λ e. omega arith),
      ne_eqb k 40 (λ e. omega arith),
      le-leb 11 k h,
      le-leb k 12 u,
    )

pub from-binary : (k a b c : ℕ) → 13 ≤ k → k < 20 → node_from k a b c ≡ a_binary (k - 10) a b
unfolding node_from
from-binary k a b c h l =
    let o : 11 ≤ k = omega arith in
    let u : 12 < k = omega arith in
    let v : k ≤ 19 = omega arith in
    rw (
      ne_eqb k 0 (λ e. omega arith),
      ne_eqb k 1 (λ e. omega arith),
      ne_eqb k 2 (λ e. omega arith),
      ne_eqb k 20 (λ e. omega arith),
      ne_eqb k 40 (λ e. omega arith),
      le-leb 11 k o,
      lt-leb k 12 u,
      le-leb k 19 v,
    )

pub kind : (k : ℕ) → Kind k
kind k = at-0 (ℕ_discrete k 0)
  where
    operator : (k ≡ 0 → ⊥) → (k ≡ 1 → ⊥) → (k ≡ 2 → ⊥) → (k ≡ 20 → ⊥) → (k ≡ 40 → ⊥) → Dec (k < 11) → Dec (k < 13) → Dec (k < 20) → Kind k
    operator p q r s t (yes h) x y = none (λ a b c. from_low k p q r s t a b c h)
    operator p q r s t (no h) (yes x) y = unary-op (omega arith) x
    operator p q r s t (no h) (no x) (yes y) = binary-op (omega arith) y
    operator p q r s t (no h) (no x) (no y) = none (λ a b c. from-high k p q r s t a b c (omega arith))

    at-40 : (k ≡ 0 → ⊥) → (k ≡ 1 → ⊥) → (k ≡ 2 → ⊥) → (k ≡ 20 → ⊥) → Dec (k ≡ 40) → Kind k
    at-40 p q r s (yes e) = branch e
    at-40 p q r s (no t) = operator p q r s t (dec_lt k 11) (dec_lt k 13) (dec_lt k 20)

    at-20 : (k ≡ 0 → ⊥) → (k ≡ 1 → ⊥) → (k ≡ 2 → ⊥) → Dec (k ≡ 20) → Kind k
    at-20 p q r (yes e) = conditional e
    at-20 p q r (no s) = at-40 p q r s (ℕ_discrete k 40)

    at-2 : (k ≡ 0 → ⊥) → (k ≡ 1 → ⊥) → Dec (k ≡ 2) → Kind k
    at-2 p q (yes e) = blank e
    at-2 p q (no r) = at-20 p q r (ℕ_discrete k 20)

    at_1 : (k ≡ 0 → ⊥) → Dec (k ≡ 1) → Kind k
    at_1 p (yes e) = constant e
    at_1 p (no q) = at-2 p q (ℕ_discrete k 2)

    at-0 : Dec (k ≡ 0) → Kind k
    at-0 (yes e) = variable e
    at-0 (no p) = at_1 p (ℕ_discrete k 1)

-- ---- the operands of a node that fits are earlier, by its kind

none-fits : {A : Type 0} (m : Module Expr) (us : List ℕ) (d : Node) → d ≡ an_unknown 0 → node_fits m us d ≡ true → A
unfolding node_fits width?
none-fits m us d e h = absurd-bool (rw e at h) refl

module _ (m : Module Expr) (us : List ℕ) (k a b c : ℕ) (fit : node_fits m us (node_from k a b c) ≡ true) where
  pub fit-variable : k ≡ 0 → a < variables m
  unfolding node_from node_fits
  fit-variable e = ltb-true a (variables m) (rw e at fit)

  fit-blank : k ≡ 2 → a ≤ 32
  unfolding node_from node_fits width?
  fit-blank e = leb-true a 32 (and_right (leb 1 a) (leb a 32) (rw e at fit))

  fit-unary : 11 ≤ k → k < 13 → a < length us
  unfolding node_fits
  fit-unary h l = ltb-true a (length us) (rw (from-unary k a b c h l) at fit)

  fit-binary : 13 ≤ k → k < 20 → (a < length us) × (b < length us)
  unfolding node_fits
  fit-binary h l =
      let f = rw (from-binary k a b c h l) at fit in
      (arm-left us a b f, arm-right us a b f)

  abbrev Three : Type 0
  Three = (a < length us) × (b < length us) × (c < length us)

  fit-arms : (ltb a (length us) && arms us b c) ≡ true → Three
  fit-arms f = (condition us a b c f, arm-left us b c (both us a b c f), arm-right us b c (both us a b c f))

  fit-conditional : k ≡ 20 → Three
  unfolding node_from node_fits
  fit-conditional e = fit-arms (rw e at fit)

  fit-branch : k ≡ 40 → Three
  unfolding node_from node_fits
  fit-branch e = fit-arms (rw e at fit)

  pub fit-first : 11 ≤ k → a < length us
  fit-first h = by (kind k)
    where
      by : Kind k → a < length us
      by (variable e) = absurd (omega arith)
      by (constant e) = absurd (omega arith)
      by (blank e) = absurd (omega arith)
      by (unary-op x y) = fit-unary x y
      by (binary-op x y) = (fit-binary x y).0
      by (conditional e) = (fit-conditional e).0
      by (branch e) = (fit-branch e).0
      by (none n) = none-fits m us (node_from k a b c) (n a b c) fit

  pub fit-second : 13 ≤ k → b < length us
  fit-second h = by (kind k)
    where
      by : Kind k → b < length us
      by (variable e) = absurd (omega arith)
      by (constant e) = absurd (omega arith)
      by (blank e) = absurd (omega arith)
      by (unary-op x y) = absurd (omega arith)
      by (binary-op x y) = (fit-binary x y).1
      by (conditional e) = (fit-conditional e).1
      by (branch e) = (fit-branch e).1
      by (none n) = none-fits m us (node_from k a b c) (n a b c) fit

  pub fit-third : 20 ≤ k → c < length us
  fit-third h = by (kind k)
    where
      by : Kind k → c < length us
      by (variable e) = absurd (omega arith)
      by (constant e) = absurd (omega arith)
      by (blank e) = absurd (omega arith)
      by (unary-op x y) = absurd (omega arith)
      by (binary-op x y) = absurd (omega arith)
      by (conditional e) = (fit-conditional e).2
      by (branch e) = (fit-branch e).2
      by (none n) = none-fits m us (node_from k a b c) (n a b c) fit

-- ---- the words of the copy

first-operand : (ns : List ℕ) (k a : ℕ) → (k ≡ 0 → ⊥) → first_of ns k a ≡ cell_in ns a
unfolding first_of
first-operand ns k a h = rw (ne_eqb k 0 h)

second-operand : (ns : List ℕ) (k b c : ℕ) → (k ≡ 1 → ⊥) → second_of ns k b c ≡ cell_in ns b
unfolding second_of
second-operand ns k b c h = rw (ne_eqb k 1 h)

third-width : (ns us : List ℕ) (k a c : ℕ) → 11 ≤ k → k < 20 → third_of ns us k a c ≡ get_or us a 0
unfolding third_of
third-width ns us k a c l h = rw (ne_eqb k 2 (λ e. omega arith), lt-ltb k 20 h)

third-operand : (ns us : List ℕ) (k a c : ℕ) → 20 ≤ k → third_of ns us k a c ≡ cell_in ns c
unfolding third_of
third-operand ns us k a c h = rw (ne_eqb k 2 (λ e. omega arith), le-ltb k 20 h)

-- ---- its worth, where the operands' cells have the values vv, and of a variable the value f: the words are x, y, z

module _ (ns uu : List ℕ) (f g : ℕ → Value) (vv : List Value) (k a b c x y z : ℕ) (px : x ≡ first_of ns k a) (py : y ≡ second_of ns k b c)
    (pz : z ≡ third_of ns uu k a c) where
  abbrev Right : ℕ → Type 0
  Right i = g (slot_of (cell_in ns i)) ≡ get_or vv i nowhere

  abbrev Copied : Type 0
  Copied = worth_of g (node k x y z) ≡ node_value uu f vv (node_from k a b c)

  variable-worth : k ≡ 0 → g (slot_of a) ≡ f a → Copied
  unfolding node_from node_value first_of
  variable-worth e h =
      worth-leaf g k x y z (omega arith) ∙ leaf-variable g k x y z (λ q. omega arith) e ∙ rw (px, e) h

  constant-worth : k ≡ 1 → Copied
  unfolding node_from node_value second_of
  constant-worth e = worth-leaf g k x y z (omega arith) ∙ leaf-constant g k x y z e ∙ rw (py, e)

  blank-worth : k ≡ 2 → a ≤ 32 → Copied
  unfolding node_from node_value third_of
  blank-worth e h =
      let u : a % 256 ≡ a = mod-eq_of_lt (omega arith) in
      worth-leaf g k x y z (omega arith) ∙ leaf-none g k x y z (λ q. omega arith) (λ q. omega arith) ∙ rw (pz, e, u)

  number : k < 20 → (k - 10) % 256 ≡ k - 10
  number h = mod-eq_of_lt (omega arith)

  unary-worth : 11 ≤ k → k < 13 → get_or uu a 0 ≤ 32 → Right a → Copied
  unfolding node_value
  unary-worth h l w r =
      let u : get_or uu a 0 % 256 ≡ get_or uu a 0 = mod-eq_of_lt (omega arith) in
      worth-unary g k x y z h l
      ∙ rw (
        px,
        first-operand ns k a (λ q. omega arith),
        pz,
        third-width ns uu k a c h (omega arith),
        u,
        number (omega arith),
        r,
        from-unary k a b c h l,
      )

  binary-worth : 13 ≤ k → k < 20 → get_or uu a 0 ≤ 32 → Right a → Right b → Copied
  unfolding node_value
  binary-worth h l w r s =
      let u : get_or uu a 0 % 256 ≡ get_or uu a 0 = mod-eq_of_lt (omega arith) in
      worth-binary g k x y z (omega arith) h l
      ∙ rw (
        px,
        first-operand ns k a (λ q. omega arith),
        py,
        second-operand ns k b c (λ q. omega arith),
        pz,
        third-width ns uu k a c (omega arith) l,
        u,
        number l,
        r,
        s,
        from-binary k a b c h l,
      )

  conditional-worth : k ≡ 20 → Right a → Right b → Right c → Copied
  unfolding node_from node_value
  conditional-worth e r s t =
      worth-choice g k x y z (omega arith) (omega arith) e
      ∙ rw (
        px,
        first-operand ns k a (λ q. omega arith),
        py,
        second-operand ns k b c (λ q. omega arith),
        pz,
        third-operand ns uu k a c (omega arith),
        r,
        s,
        t,
        e,
      )

  branch-worth : k ≡ 40 → Right a → Right b → Right c → Copied
  unfolding node_from node_value
  branch-worth e r s t =
      worth-branch g k x y z (omega arith) (omega arith) (λ q. omega arith) e
      ∙ rw (
        px,
        first-operand ns k a (λ q. omega arith),
        py,
        second-operand ns k b c (λ q. omega arith),
        pz,
        third-operand ns uu k a c (omega arith),
        r,
        s,
        t,
        e,
      )

  pub copied-worth :
      (m : Module Expr) (us : List ℕ) → node_fits m us (node_from k a b c) ≡ true → (k ≡ 0 → g (slot_of a) ≡ f a) →
      (11 ≤ k → get_or uu a 0 ≤ 32) → (11 ≤ k → Right a) → (13 ≤ k → Right b) → (20 ≤ k → Right c) → Copied
  copied-worth m us fit v w r s t = by (kind k)
    where
      by : Kind k → Copied
      by (variable e) = variable-worth e (v e)
      by (constant e) = constant-worth e
      by (blank e) = blank-worth e (fit-blank m us k a b c fit e)
      by (unary-op h l) = unary-worth h l (w h) (r h)
      by (binary-op h l) = binary-worth h l (w (omega arith)) (r (omega arith)) (s h)
      by (conditional e) = conditional-worth e (r (omega arith)) (s (omega arith)) (t (omega arith))
      by (branch e) = branch-worth e (r (omega arith)) (s (omega arith)) (t (omega arith))
      by (none n) = none-fits m us (node_from k a b c) (n a b c) fit
