-- An expression that lies flattened in a table is worked out to its value, and cells below its nodes stay. Assumes nothing.
use mathlib.Core.Path.{◌≡◌, refl, sym, ap, ◌∙◌}
use mathlib.Core.Bool.{true}
use mathlib.Core.List.{List}
use Prim.Native.Nat.{ℕ, suc, ◌+◌, ◌-◌, ◌%◌, ◌<◌, ◌≤◌}
use native.Mathlib.Omega.{arith}
use native.Mathlib.Nat.{mod-eq_of_lt}
use lib.ListN.{length, get_or, set, length-set}
use lib.Seq.{get_or-set_other}
use Rattle.values.specs.declared.Value.{Value}
use Rattle.values.specs.Values.{known, all_unknown}
use Rattle.values.specs.Operators as operators
use Rattle.values.proofs.Values.{fits-known, fits-unknown}
use Rattle.values.proofs.Operators.{fits-small, unary-small, binary-small, choice-small}
use Rattle.sheet.specs.Expression.{Expr}
use Rattle.evaluation.specs.Evaluation.{eval}
use Rattle.values.specs.Cells.{small, cell_of, cell_at}
use Rattle.values.proofs.Cells.{at_small, at_set_same, at_same}
use Rattle.plan.specs.Sections.{slot_of}
use Rattle.plan.specs.Plan.{Node, node}
use Rattle.plan.proofs.Sections.{slot_same}
use Rattle.plan_nodes.specs.Nodes.{worth_of, work_node, work_from}
use Rattle.plan_nodes.specs.Flat.{Flat, a-variable, a-constant, an-unknown, a-unary, a-binary, a-conditional}
use Rattle.plan_nodes.proofs.Nodes.{leaf-constant, leaf-none, worth-leaf, worth-unary, worth-binary, worth-choice, work-add, work-last}

-- ---- what is known when the k nodes from n on are worked out on cs: ds is the plane then, r the cell of the value

pub record Done (cs ds : List ℕ) (n r k : ℕ) (a : Value) : Type 0 where
  pub value : cell_at ds r ≡ a
  pub sized : small a ≡ true
  pub kept : (i : ℕ) → i < n → get_or ds i 0 ≡ get_or cs i 0
  pub long : length ds ≡ length cs
  pub below : r < n + k

-- A node worked out last: its own cell, m, gets its worth.
module _ (ws : ℕ → Node) (cs ds : List ℕ) (n k m : ℕ) (a : Value) where
  pub last-node : ds ≡ work_from ws n k cs → m ≡ n + k → length ds ≡ length cs → m < length cs
      → ((i : ℕ) → i < n → get_or ds i 0 ≡ get_or cs i 0)
      → worth_of (cell_at ds) (ws m) ≡ a → small a ≡ true
      → Done cs (work_from ws n (suc k) cs) n m (suc k) a
  unfolding work_node
  last-node e p l h keep w f =
      let ends : work_from ws n (suc k) cs ≡ set ds m (cell_of a) =
      work-last ws n k cs ∙ rw (← p, ← e) (ap (λ (v : Value). set ds m (cell_of v)) w) in
      rw ends (record {
        value = at_set_same ds m a (rw l h) f;
        sized = f;
        kept = λ i u. get_or-set_other ds m i (cell_of a) 0 (λ q. omega arith) ∙ keep i u;
        long = length-set ds m (cell_of a) ∙ l;
        below = omega arith;
      })

-- ---- the value of a flattened expression

-- An operator's number, as its node has it.
number : (o : ℕ) → o ≤ 9 → (10 + o - 10) % 256 ≡ o
number o h =
    let p : 10 + o - 10 ≡ o = omega arith in
    rw p (mod-eq_of_lt (omega arith))

variable-done : (ws : ℕ → Node) (cs : List ℕ) (n v : ℕ) (a : Value) → cell_at cs v ≡ a → v < n → Done cs (work_from ws n 0 cs) n v 0 a
unfolding work_from
variable-done ws cs n v a e h =
    record {
      value = e;
      sized = rw e at (at_small cs v);
      kept = λ i j. refl;
      long = refl;
      below = omega arith;
    }

work-zero : (ws : ℕ → Node) (n : ℕ) (cs : List ℕ) → cs ≡ work_from ws n 0 cs
unfolding work_from
work-zero ws n cs = refl

-- One operator over operands that were worked out: ds, es, fs are the planes after each of them.
module _ (ws : ℕ → Node) (cs : List ℕ) (n : ℕ) (l : length cs ≡ 4176) (ds : List ℕ) (r k : ℕ) (x : Value)
    (p : ds ≡ work_from ws n k cs) (d : Done cs ds n r k x) where
  unary-done : (o w : ℕ) → n + suc k ≤ 4176 → 1 ≤ o → o ≤ 2 → w ≤ 32 → ws (n + k) ≡ node (10 + o) r 0 w
      → Done cs (work_from ws n (suc k) cs) n (n + k) (suc k) (operators.unary o w x)
  unary-done o w h a b c e =
      let s : slot_of r ≡ r = slot_same r (omega (arith, d.below)) in
      let z : w % 256 ≡ w = mod-eq_of_lt (omega arith) in
      last-node ws cs ds n k (n + k) (operators.unary o w x) p refl d.long (omega arith) d.kept
      (ap (worth_of (cell_at ds)) e ∙ worth-unary (cell_at ds) (10 + o) r 0 w (omega arith) (omega arith)
      ∙ rw (s, z, number o (omega arith), d.value))
      (unary-small o w x c d.sized)

  module _ (es : List ℕ) (t m : ℕ) (y : Value) (q : es ≡ work_from ws (n + k) m ds) (g : Done ds es (n + k) t m y) where
    left : cell_at es r ≡ x
    left = at_same es ds r (g.kept r d.below) ∙ d.value

    both : es ≡ work_from ws n (k + m) cs
    both = q ∙ ap (work_from ws (n + k) m) p ∙ sym (work-add ws n k m cs)

    binary-done : (o w : ℕ) → n + suc (k + m) ≤ 4176 → 3 ≤ o → o ≤ 9 → w ≤ 32 → ws (n + k + m) ≡ node (10 + o) r t w
        → Done cs (work_from ws n (suc (k + m)) cs) n (n + k + m) (suc (k + m)) (operators.binary o w x y)
    binary-done o w h a b c e =
        let i : slot_of r ≡ r = slot_same r (omega (arith, d.below)) in
        let j : slot_of t ≡ t = slot_same t (omega (arith, g.below)) in
        let z : w % 256 ≡ w = mod-eq_of_lt (omega arith) in
        last-node ws cs es n (k + m) (n + k + m) (operators.binary o w x y) both (omega arith) (g.long ∙ d.long) (omega arith)
        (λ v u. g.kept v (omega arith) ∙ d.kept v u)
        (ap (worth_of (cell_at es)) e ∙ worth-binary (cell_at es) (10 + o) r t w (omega arith) (omega arith) (omega arith)
        ∙ rw (i, j, z, number o (omega arith), left, g.value))
        (binary-small o w x y c d.sized g.sized)

    module _ (fs : List ℕ) (u b : ℕ) (v : Value) (q2 : fs ≡ work_from ws (n + k + m) b es) (f : Done es fs (n + k + m) u b v) where
      conditional-done : n + suc (k + m + b) ≤ 4176 → ws (n + k + m + b) ≡ node 20 r t u
          → Done cs (work_from ws n (suc (k + m + b)) cs) n (n + k + m + b) (suc (k + m + b)) (operators.choice x y v)
      conditional-done h e =
          let i : slot_of r ≡ r = slot_same r (omega (arith, d.below)) in
          let j : slot_of t ≡ t = slot_same t (omega (arith, g.below)) in
          let z : slot_of u ≡ u = slot_same u (omega (arith, f.below)) in
          let first : cell_at fs r ≡ x = at_same fs es r (f.kept r (omega (arith, d.below))) ∙ left in
          let second : cell_at fs t ≡ y = at_same fs es t (f.kept t g.below) ∙ g.value in
          let c : n + (k + m) ≡ n + k + m = omega arith in
          let all : fs ≡ work_from ws n (k + m + b) cs =
          q2 ∙ ap (work_from ws (n + k + m) b) both ∙ sym (work-add ws n (k + m) b cs ∙ rw c) in
          last-node ws cs fs n (k + m + b) (n + k + m + b) (operators.choice x y v) all (omega arith) (f.long ∙ g.long ∙ d.long)
          (omega arith)
          (λ a w. f.kept a (omega arith) ∙ g.kept a (omega arith) ∙ d.kept a w)
          (ap (worth_of (cell_at fs)) e ∙ worth-choice (cell_at fs) 20 r t u (omega arith) (omega arith) refl
          ∙ rw (i, j, z, first, second, f.value))
          (choice-small x y v g.sized f.sized)

-- The variables' cells stay while nodes above them are worked out.
kept-env : (base n : ℕ) (cs ds : List ℕ) (env : ℕ → Value) → base ≤ n → ((i : ℕ) → i < n → get_or ds i 0 ≡ get_or cs i 0)
    → ((v : ℕ) → v < base → cell_at cs v ≡ env v) → (v : ℕ) → v < base → cell_at ds v ≡ env v
kept-env base n cs ds env b keep f v u = at_same ds cs v (keep v (omega arith)) ∙ f v u

module _ (ws : ℕ → Node) (base : ℕ) where
  pub flat-eval : {n r k : ℕ} {e : Expr} (cs : List ℕ) (env : ℕ → Value) → length cs ≡ 4176 → base ≤ n → n + k ≤ 4176
      → ((v : ℕ) → v < base → cell_at cs v ≡ env v) → Flat ws base n e r k → Done cs (work_from ws n k cs) n r k (eval env e)
  unfolding eval
  flat-eval {n} cs env l b h f (a-variable {v = v} u) = variable-done ws cs n v (env v) (f v u) (omega arith)
  flat-eval {n} cs env l b h f (a-constant {k = k} u e) =
      last-node ws cs cs n 0 n (known k) (work-zero ws n cs) (omega arith) refl (omega arith) (λ i j. refl)
      (ap (worth_of (cell_at cs)) e ∙ worth-leaf (cell_at cs) 1 0 k 0 (omega arith) ∙ leaf-constant (cell_at cs) 1 0 k 0 refl)
      (fits-small 32 (known k) (omega arith) (fits-known 32 k u))
  flat-eval {n} cs env l b h f (an-unknown {w = w} u e) =
      let z : w % 256 ≡ w = mod-eq_of_lt (omega arith) in
      last-node ws cs cs n 0 n (all_unknown w) (work-zero ws n cs) (omega arith) refl (omega arith) (λ i j. refl)
      (ap (worth_of (cell_at cs)) e ∙ worth-leaf (cell_at cs) 2 0 0 w (omega arith)
      ∙ leaf-none (cell_at cs) 2 0 0 w (λ q. omega arith) (λ q. omega arith) ∙ ap all_unknown z)
      (fits-small w (all_unknown w) u (fits-unknown w))
  flat-eval {n} cs env l b h f (a-unary {o = o} {w = w} {r = r} {k = k} {a = a} p q x y e) =
      unary-done ws cs n l (work_from ws n k cs) r k (eval env a) refl (flat-eval cs env l b (omega arith) f y) o w h p q x e
  flat-eval {n} cs env l b h f (a-binary {o = o} {w = w} {r = r} {s = t} {k = k} {l = m} {a = a} {b = a2} p q x y z e) =
      let ds = work_from ws n k cs in
      let d = flat-eval cs env l b (omega arith) f y in
      binary-done ws cs n l ds r k (eval env a) refl d (work_from ws (n + k) m ds) t m (eval env a2) refl
      (flat-eval ds env (d.long ∙ l) (omega arith) (omega arith) (kept-env base n cs ds env b d.kept f) z) o w h p q x e
  flat-eval {n} cs env l b h f (a-conditional {q = q} {r = r} {s = t} {j = j} {k = k} {l = m} {c = a0} {a = a} {b = a2} x y z e) =
      let ds = work_from ws n j cs in
      let d = flat-eval cs env l b (omega arith) f x in
      let fd = kept-env base n cs ds env b d.kept f in
      let es = work_from ws (n + j) k ds in
      let g = flat-eval ds env (d.long ∙ l) (omega arith) (omega arith) fd y in
      conditional-done ws cs n l ds q j (eval env a0) refl d es r k (eval env a) refl g (work_from ws (n + j + k) m es) t m (eval env a2) refl
      (flat-eval es env (g.long ∙ d.long ∙ l) (omega arith) (omega arith) (kept-env base (n + j) ds es env (omega arith) g.kept fd) z) h e
