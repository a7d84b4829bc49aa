-- An expression that the sheet's reader accepted lies flattened in the plan. Assumes nothing.
use mathlib.Core.Path.{◌≡◌, refl, sym, ◌∙◌}
use mathlib.Core.Logic.{◌≢◌}
use mathlib.Core.Bool.{Bool, true, false}
use mathlib.Core.List.{List}
use Prim.Native.Nat.{ℕ, zero, suc, ◌+◌, ◌*◌, ◌^◌, ◌<◌, ◌≤◌}
use native.Mathlib.Nat.{not-suc-le-zero}
use native.Mathlib.Omega.{arith}
use borrow.Author.Tests.{lt-ltb}
use lib.Dec.{eqb}
use lib.ListN.{length, get_or, set, length-set}
use lib.Seq.{get_or-set_same, get_or-set_other}
use Rattle.values.specs.Values.{pick}
use Rattle.values.specs.Operators.{unary_width, binary_width}
use Rattle.values.proofs.Values.{below_wider}
use Rattle.sheet.specs.Reading.{word_of}
use Rattle.sheet.specs.Expression.{Expr, variable, constant, unknown, unary, binary, conditional, call, Scope, Parsed}
use Rattle.sheet.proofs.Expression as reading
use Rattle.sheet.proofs.Expression.{Reads, reads-after}
use Rattle.plan.specs.Plan.{Node, node, node_at, width_at}
use Rattle.plan_nodes.specs.Flat.{Flat, a-variable, a-constant, an-unknown, a-unary, a-binary, a-conditional}
use Rattle.plan_exprs.specs.Flatten.{Adding, adding, put_node, more, emit, add_unary, add_binary, add_conditional, add_node, add_at}

-- ---- four words put in a row

abbrev pub four : ℕ → ℕ → ℕ → ℕ → ℕ → List ℕ → List ℕ
four j k a b c ws = set (set (set (set ws j k) (j + 1) a) (j + 2) b) (j + 3) c

module _ (j k a b c : ℕ) (ws : List ℕ) where
  pub four-length : length (four j k a b c ws) ≡ length ws
  four-length = simp length-set

  pub four-other : (i : ℕ) → i ≢ j → i ≢ j + 1 → i ≢ j + 2 → i ≢ j + 3 → get_or (four j k a b c ws) i 0 ≡ get_or ws i 0
  four-other i p q r s =
      get_or-set_other (set (set (set ws j k) (j + 1) a) (j + 2) b) (j + 3) i c 0 s
      ∙ get_or-set_other (set (set ws j k) (j + 1) a) (j + 2) i b 0 r
      ∙ get_or-set_other (set ws j k) (j + 1) i a 0 q
      ∙ get_or-set_other ws j i k 0 p

  module _ (h : j + 3 < length ws) where
    pub four-0 : get_or (four j k a b c ws) j 0 ≡ k
    four-0 =
        get_or-set_other (set (set (set ws j k) (j + 1) a) (j + 2) b) (j + 3) j c 0 (λ q. omega arith)
        ∙ get_or-set_other (set (set ws j k) (j + 1) a) (j + 2) j b 0 (λ q. omega arith)
        ∙ get_or-set_other (set ws j k) (j + 1) j a 0 (λ q. omega arith)
        ∙ get_or-set_same ws j k 0 (omega arith)

    pub four-1 : get_or (four j k a b c ws) (j + 1) 0 ≡ a
    four-1 =
        get_or-set_other (set (set (set ws j k) (j + 1) a) (j + 2) b) (j + 3) (j + 1) c 0 (λ q. omega arith)
        ∙ get_or-set_other (set (set ws j k) (j + 1) a) (j + 2) (j + 1) b 0 (λ q. omega arith)
        ∙ get_or-set_same (set ws j k) (j + 1) a 0 (simp length-set (omega arith))

    pub four-2 : get_or (four j k a b c ws) (j + 2) 0 ≡ b
    four-2 =
        get_or-set_other (set (set (set ws j k) (j + 1) a) (j + 2) b) (j + 3) (j + 2) c 0 (λ q. omega arith)
        ∙ get_or-set_same (set (set ws j k) (j + 1) a) (j + 2) b 0 (simp length-set (omega arith))

    pub four-3 : get_or (four j k a b c ws) (j + 3) 0 ≡ c
    four-3 = get_or-set_same (set (set (set ws j k) (j + 1) a) (j + 2) b) (j + 3) c 0 (simp length-set h)

-- ---- a node put

module _ (n k a b c : ℕ) (ws : List ℕ) (h : n < 4176) where
  put_four : put_node n k a b c ws ≡ four (4 * n) k a b c ws
  unfolding put_node
  put_four = rw (lt-ltb n 4176 h)

  pub put-length : length (put_node n k a b c ws) ≡ length ws
  put-length = rw put_four (four-length (4 * n) k a b c ws)

  pub put_same : 16704 ≤ length ws → node_at (put_node n k a b c ws) n ≡ node k a b c
  put_same l =
      let j = 4 * n in
      let u : 4 * n + 3 < length ws = omega arith in
      rw put_four (rw (four-0 j k a b c ws u, four-1 j k a b c ws u, four-2 j k a b c ws u, four-3 j k a b c ws u))

  pub put-below : (i : ℕ) → i < 4 * n → get_or (put_node n k a b c ws) i 0 ≡ get_or ws i 0
  put-below i u = rw put_four (four-other (4 * n) k a b c ws i (λ q. omega arith) (λ q. omega arith) (λ q. omega arith) (λ q. omega arith))

  pub put-above : (i : ℕ) → 16704 ≤ i → get_or (put_node n k a b c ws) i 0 ≡ get_or ws i 0
  put-above i u = rw put_four (four-other (4 * n) k a b c ws i (λ q. omega arith) (λ q. omega arith) (λ q. omega arith) (λ q. omega arith))

pub node_kept : (ws us : List ℕ) (n : ℕ) → ((i : ℕ) → i < 4 * n → get_or us i 0 ≡ get_or ws i 0) → (i : ℕ) → i < n → node_at ws i ≡ node_at us i
node_kept ws us n h i u =
    sym (rw (h (4 * i) (omega arith), h (4 * i + 1) (omega arith), h (4 * i + 2) (omega arith), h (4 * i + 3) (omega arith)))

-- ---- nodes that stay

module _ (f g : ℕ → Node) (base : ℕ) where
  pub flat-kept : {n r k : ℕ} {e : Expr} → ((i : ℕ) → i < n + k → f i ≡ g i) → Flat f base n e r k → Flat g base n e r k
  flat-kept u (a-variable v) = a-variable v
  flat-kept u (a-constant v e) = a-constant v (sym (u _ (omega arith)) ∙ e)
  flat-kept u (an-unknown h e) = an-unknown h (sym (u _ (omega arith)) ∙ e)
  flat-kept u (a-unary p q x y e) = a-unary p q x (flat-kept (λ i j. u i (omega arith)) y) (sym (u _ (omega arith)) ∙ e)
  flat-kept u (a-binary p q x y z e) =
      a-binary p q x (flat-kept (λ i j. u i (omega arith)) y) (flat-kept (λ i j. u i (omega arith)) z) (sym (u _ (omega arith)) ∙ e)
  flat-kept u (a-conditional x y z e) =
      a-conditional (flat-kept (λ i j. u i (omega arith)) x) (flat-kept (λ i j. u i (omega arith)) y)
      (flat-kept (λ i j. u i (omega arith)) z) (sym (u _ (omega arith)) ∙ e)

-- ---- how many nodes an expression has

unfoldable pub count : Expr → ℕ
count (variable v) = 0
count (constant w n) = 1
count (unknown w) = 1
count (unary o w a) = suc (count a)
count (binary o w a b) = suc (count a + count b)
count (conditional c a b) = suc (count c + count a + count b)
-- No call is laid out.
count (call n w ys b) = 0

-- ---- what was laid out

pub record Laid (base n : ℕ) (ws : List ℕ) (q : Parsed Expr) (r : Adding) : Type 0 where
  pub free : r.added.free ≡ n + count q.item
  pub width : r.added.width ≡ q.width
  pub next : r.added.next ≡ q.next
  pub narrow : q.width ≤ 32
  pub flat : Flat (node_at r.words) base n q.item r.added.root (count q.item)
  pub below : (i : ℕ) → i < 4 * n → get_or r.words i 0 ≡ get_or ws i 0
  pub above : (i : ℕ) → 16704 ≤ i → get_or r.words i 0 ≡ get_or ws i 0
  pub long : length r.words ≡ length ws

unary-narrow : (o w : ℕ) → w ≤ 32 → unary_width o w ≤ 32
unfolding unary_width
unary-narrow o w h = by (eqb o 2)
  where
    by : (t : Bool) → pick t 1 w ≤ 32
    by true = omega arith
    by false = h

binary-narrow : (o w : ℕ) → w ≤ 32 → binary_width o w ≤ 32
unfolding binary_width
binary-narrow o w h = by (eqb o 8) (eqb o 9)
  where
    by : (t u : Bool) → pick t 1 (pick u 1 w) ≤ 32
    by true u = omega arith
    by false true = omega arith
    by false false = h

-- The widths of the variables, as they stand in the plan.
pub record Widths (vs ws : List ℕ) : Type 0 where
  pub same : (v : ℕ) → v < length vs → width_at ws v ≡ get_or vs v 0
  pub narrow : (v : ℕ) → v < length vs → get_or vs v 0 ≤ 32
  pub long : 16704 ≤ length ws

pub widths-kept : (vs ws us : List ℕ) → ((i : ℕ) → 16704 ≤ i → get_or us i 0 ≡ get_or ws i 0) → length us ≡ length ws → Widths vs ws → Widths vs us
unfolding width_at
widths-kept vs ws us h l w =
    record {
      same = λ v u. rw (h (25120 + v) (omega arith)) (w.same v u);
      narrow = w.narrow;
      long = rw l w.long;
    }

pub more-in : (n : ℕ) → n < 4176 → more n ≡ n + 1
unfolding more
more-in n h = rw (lt-ltb n 4176 h)

-- ---- leaves

module _ (base n : ℕ) (ws : List ℕ) (long : 16704 ≤ length ws) (r : n + 1 ≤ 4176) where
  pub constant-laid : (w v next : ℕ) → w ≤ 32 → v < 2 ^ w
      → Laid base n ws (record { item = constant w v; width = w; next = next }) (emit n 1 0 v 0 w next ws)
  unfolding emit count
  constant-laid w v next h l =
      let u : n < 4176 = omega arith in
      record {
        free = more-in n u;
        width = refl;
        next = refl;
        narrow = h;
        flat = a-constant (below_wider l h) (put_same n 1 0 v 0 ws u long);
        below = put-below n 1 0 v 0 ws u;
        above = put-above n 1 0 v 0 ws u;
        long = put-length n 1 0 v 0 ws u;
      }

  pub unknown-laid : (w next : ℕ) → w ≤ 32
      → Laid base n ws (record { item = unknown w; width = w; next = next }) (emit n 2 0 0 w w next ws)
  unfolding emit count
  unknown-laid w next h =
      let u : n < 4176 = omega arith in
      record {
        free = more-in n u;
        width = refl;
        next = refl;
        narrow = h;
        flat = an-unknown h (put_same n 2 0 0 w ws u long);
        below = put-below n 2 0 0 w ws u;
        above = put-above n 2 0 0 w ws u;
        long = put-length n 2 0 0 w ws u;
      }

-- ---- one node over operands that were laid out

module _ (base n o : ℕ) (ws : List ℕ) (a : Parsed Expr) (t : Adding) (y : Laid base n ws a t) (long : 16704 ≤ length ws) where
  pub unary-laid : n + suc (count a.item) ≤ 4176 → 1 ≤ o → o ≤ 2
      → Laid base n ws (record { item = unary o a.width a.item; width = unary_width o a.width; next = a.next })
      (emit t.added.free (10 + o) t.added.root 0 t.added.width (unary_width o t.added.width) t.added.next t.words)
  unfolding emit count
  unary-laid r b c =
      let us = t.words in
      let k = count a.item in
      let u : n + k < 4176 = omega arith in
      let g = t.added.root in
      let last = put_node (n + k) (10 + o) g 0 a.width us in
      let keep = put-below (n + k) (10 + o) g 0 a.width us u in
      rw (y.free, y.width, y.next) (record {
        free = more-in (n + k) u ∙ omega arith;
        width = refl;
        next = refl;
        narrow = unary-narrow o a.width y.narrow;
        flat = a-unary b c y.narrow
            (flat-kept (node_at us) (node_at last) base (node_kept us last (n + k) keep) y.flat)
            (put_same (n + k) (10 + o) g 0 a.width us u (rw y.long long));
        below = λ i j. keep i (omega arith) ∙ y.below i j;
        above = λ i j. put-above (n + k) (10 + o) g 0 a.width us u i j ∙ y.above i j;
        long = put-length (n + k) (10 + o) g 0 a.width us u ∙ y.long;
      })

  module _ (c : Parsed Expr) (t2 : Adding) (z : Laid base (n + count a.item) t.words c t2) where
    pub binary-laid : n + suc (count a.item + count c.item) ≤ 4176 → 3 ≤ o → o ≤ 9
        → Laid base n ws (record { item = binary o a.width a.item c.item; width = binary_width o a.width; next = c.next })
        (emit t2.added.free (10 + o) t.added.root t2.added.root t.added.width (binary_width o t.added.width)
        t2.added.next t2.words)
    unfolding emit count
    binary-laid r b d =
        let us = t.words in
        let k = count a.item in
        let us2 = t2.words in
        let l = count c.item in
        let u : n + k + l < 4176 = omega arith in
        let g = t.added.root in
        let g2 = t2.added.root in
        let last = put_node (n + k + l) (10 + o) g g2 a.width us2 in
        let keep = put-below (n + k + l) (10 + o) g g2 a.width us2 u in
        rw (y.width, z.free, z.next) (record {
          free = more-in (n + k + l) u ∙ omega arith;
          width = refl;
          next = refl;
          narrow = binary-narrow o a.width y.narrow;
          flat = a-binary b d y.narrow
              (flat-kept (node_at us2) (node_at last) base (λ i j. node_kept us2 last (n + k + l) keep i (omega arith))
              (flat-kept (node_at us) (node_at us2) base (node_kept us us2 (n + k) z.below) y.flat))
              (flat-kept (node_at us2) (node_at last) base (node_kept us2 last (n + k + l) keep) z.flat)
              (put_same (n + k + l) (10 + o) g g2 a.width us2 u (rw (z.long, y.long) long));
          below = λ i j. keep i (omega arith) ∙ z.below i (omega arith) ∙ y.below i j;
          above = λ i j. put-above (n + k + l) (10 + o) g g2 a.width us2 u i j ∙ z.above i j ∙ y.above i j;
          long = put-length (n + k + l) (10 + o) g g2 a.width us2 u ∙ z.long ∙ y.long;
        })

    -- Here a is the condition, c the first arm.
    module _ (e : Parsed Expr) (t3 : Adding) (x : Laid base (n + count a.item + count c.item) t2.words e t3) where
      pub conditional-laid : n + suc (count a.item + count c.item + count e.item) ≤ 4176
          → Laid base n ws (record { item = conditional a.item c.item e.item; width = c.width; next = e.next })
          (emit t3.added.free 20 t.added.root t2.added.root t3.added.root t2.added.width t3.added.next t3.words)
      unfolding emit count
      conditional-laid r =
          let us = t.words in
          let j0 = count a.item in
          let us2 = t2.words in
          let k = count c.item in
          let us3 = t3.words in
          let l = count e.item in
          let u : n + j0 + k + l < 4176 = omega arith in
          let g = t.added.root in
          let g2 = t2.added.root in
          let g3 = t3.added.root in
          let last = put_node (n + j0 + k + l) 20 g g2 g3 us3 in
          let keep = put-below (n + j0 + k + l) 20 g g2 g3 us3 u in
          rw (z.width, x.free, x.next) (record {
            free = more-in (n + j0 + k + l) u ∙ omega arith;
            width = refl;
            next = refl;
            narrow = z.narrow;
            flat = a-conditional
                (flat-kept (node_at us3) (node_at last) base (λ i j. node_kept us3 last (n + j0 + k + l) keep i (omega arith))
                (flat-kept (node_at us2) (node_at us3) base (λ i j. node_kept us2 us3 (n + j0 + k) x.below i (omega arith))
                (flat-kept (node_at us) (node_at us2) base (node_kept us us2 (n + j0) z.below) y.flat)))
                (flat-kept (node_at us3) (node_at last) base (λ i j. node_kept us3 last (n + j0 + k + l) keep i (omega arith))
                (flat-kept (node_at us2) (node_at us3) base (node_kept us2 us3 (n + j0 + k) x.below) z.flat))
                (flat-kept (node_at us3) (node_at last) base (node_kept us3 last (n + j0 + k + l) keep) x.flat)
                (put_same (n + j0 + k + l) 20 g g2 g3 us3 u (rw (x.long, z.long, y.long) long));
            below = λ i j. keep i (omega arith) ∙ x.below i (omega arith) ∙ z.below i (omega arith) ∙ y.below i j;
            above = λ i j. put-above (n + j0 + k + l) 20 g g2 g3 us3 u i j ∙ x.above i j ∙ z.above i j ∙ y.above i j;
            long = put-length (n + j0 + k + l) 20 g g2 g3 us3 u ∙ x.long ∙ z.long ∙ y.long;
          })

-- ---- a node whose operands any function lays out

module _ (s : List ℕ) (operand : ℕ → ℕ → List ℕ → Adding) (base n p : ℕ) (ws : List ℕ) (long : 16704 ≤ length ws)
    (a : Parsed Expr) (y : Laid base n ws a (operand p n ws)) where
  pub unary-step : (o : ℕ) → n + suc (count a.item) ≤ 4176 → 1 ≤ o → o ≤ 2
      → Laid base n ws (record { item = unary o a.width a.item; width = unary_width o a.width; next = a.next })
      (add_unary s operand o p n ws)
  unfolding add_unary
  unary-step o = unary-laid base n o ws a (operand p n ws) y long

  module _ (c : Parsed Expr)
      (z : Laid base (n + count a.item) (operand p n ws).words c
      (operand a.next (n + count a.item) (operand p n ws).words)) where
    pub binary-step : (o : ℕ) → n + suc (count a.item + count c.item) ≤ 4176 → 3 ≤ o → o ≤ 9
        → Laid base n ws (record { item = binary o a.width a.item c.item; width = binary_width o a.width; next = c.next })
        (add_binary s operand o p n ws)
    unfolding add_binary
    binary-step o r b d =
        rw (y.next, y.free)
        (binary-laid base n o ws a (operand p n ws) y long c (operand a.next (n + count a.item) (operand p n ws).words) z r b d)

    abbrev second : Adding
    second = operand a.next (n + count a.item) (operand p n ws).words

    pub conditional-step : (e : Parsed Expr)
        → Laid base (n + count a.item + count c.item) second.words e
        (operand c.next (n + count a.item + count c.item) second.words)
        → n + suc (count a.item + count c.item + count e.item) ≤ 4176
        → Laid base n ws (record { item = conditional a.item c.item e.item; width = c.width; next = e.next })
        (add_conditional s operand p n ws)
    unfolding add_conditional
    conditional-step e x r =
        rw (y.next, y.free, z.next, z.free)
        (conditional-laid base n 0 ws a (operand p n ws) y long c second z e
        (operand c.next (n + count a.item + count c.item) second.words) x r)

-- ---- add_at by the map

module _ (s : List ℕ) (d p n : ℕ) (ws : List ℕ) (h : p < 8192) where
  at-variable : (v : ℕ) → get_or s p 0 ≡ 0x02 → get_or s (p + 1) 0 ≡ v → add_at (suc d) s p n ws ≡ adding v n (width_at ws v) (p + 2) ws
  unfolding add_at add_node
  at-variable v m e = rw (lt-ltb p 8192 h, m, e)

  at_constant : (w v : ℕ) → get_or s p 0 ≡ 0x0C → get_or s (p + 1) 0 ≡ w → word_of s (p + 2) ≡ v
      → add_at (suc d) s p n ws ≡ emit n 1 0 v 0 w (p + 6) ws
  unfolding add_at add_node
  at_constant w v m e f = rw (lt-ltb p 8192 h, m, e, f)

  at-unknown : (w : ℕ) → get_or s p 0 ≡ 0x04 → get_or s (p + 1) 0 ≡ w → add_at (suc d) s p n ws ≡ emit n 2 0 0 w w (p + 2) ws
  unfolding add_at add_node
  at-unknown w m e = rw (lt-ltb p 8192 h, m, e)

  at-unary : (o : ℕ) → get_or s p 0 ≡ 0x11 → get_or s (p + 1) 0 ≡ o → add_at (suc d) s p n ws ≡ add_unary s (add_at d s) o (p + 2) n ws
  unfolding add_at add_node
  at-unary o m e = rw (lt-ltb p 8192 h, m, e)

  at-binary : (o : ℕ) → get_or s p 0 ≡ 0x31 → get_or s (p + 1) 0 ≡ o → add_at (suc d) s p n ws ≡ add_binary s (add_at d s) o (p + 2) n ws
  unfolding add_at add_node
  at-binary o m e = rw (lt-ltb p 8192 h, m, e)

  at-conditional : get_or s p 0 ≡ 0x71 → add_at (suc d) s p n ws ≡ add_conditional s (add_at d s) (p + 2) n ws
  unfolding add_at add_node
  at-conditional m = rw (lt-ltb p 8192 h, m)

-- ---- an expression that was read is laid out

after-widths : (vs ws : List ℕ) {base n : ℕ} {q : Parsed Expr} (r : Adding) → Laid base n ws q r → Widths vs ws → Widths vs r.words
after-widths vs ws r y w = widths-kept vs ws r.words y.above y.long w

variable-laid : (vs : List ℕ) (n v next : ℕ) (ws : List ℕ) → Widths vs ws → v < length vs
    → Laid (length vs) n ws (record { item = variable v; width = get_or vs v 0; next = next }) (adding v n (width_at ws v) next ws)
unfolding count
variable-laid vs n v next ws w l =
    record {
      free = omega arith;
      width = w.same v l;
      next = refl;
      narrow = w.narrow v l;
      flat = a-variable l;
      below = λ i u. refl;
      above = λ i u. refl;
      long = refl;
    }

-- A function is called only where there are some.
no-function : (c : Scope) → c.declared ≡ 0 → {n : ℕ} → n < c.declared → ⊥
no-function c e l = not-suc-le-zero (rw e at l)

-- The scope has no functions: no call was read. By the depth.
module _ (c : Scope) (alone : c.declared ≡ 0) (s : List ℕ) (size : length s ≤ 8192) where
  abbrev vs : List ℕ
  vs = c.widths

  flat-by : (d : ℕ) {p : ℕ} {q : Parsed Expr} (n : ℕ) (ws : List ℕ) → Widths vs ws → n + count q.item ≤ 4176
      → Reads c s d p q → Laid (length vs) n ws q (add_at d s p n ws)
  unfolding count
  flat-by zero {p = p} {q = q} n ws w r x3 = elim x3 [ ]
  flat-by (suc d) {p = p} n ws w r (reading.a-variable {v = v} m h e l) =
      rw (at-variable s d p n ws (omega arith) v m e) (variable-laid vs n v (p + 2) ws w l)
  flat-by (suc d) {p = p} n ws w r (reading.a-constant {w = x} {v = v} m b h e l) =
      rw (at_constant s d p n ws (omega arith) x v m b.same e) (constant-laid (length vs) n ws w.long r x v (p + 6) b.most l)
  flat-by (suc d) {p = p} n ws w r (reading.an-unknown {w = x} m b) =
      let h = b.below in
      rw (at-unknown s d p n ws (omega arith) x m b.same) (unknown-laid (length vs) n ws w.long r x (p + 2) b.most)
  flat-by (suc d) {p = p} n ws w r (reading.a-unary {o = o} {a = a} m b x) =
      let h = b.below in
      rw (at-unary s d p n ws (omega arith) o m b.same)
      (unary-step s (add_at d s) (length vs) n (p + 2) ws w.long a (flat-by d n ws w (omega arith) x) o r b.least b.most)
  flat-by (suc d) {p = p} n ws w r (reading.a-binary {o = o} {a = a} {b = g} m b x1 x2 e) =
      let h = b.below in
      let y = flat-by d n ws w (omega arith) x1 in
      rw (at-binary s d p n ws (omega arith) o m b.same)
      (binary-step s (add_at d s) (length vs) n (p + 2) ws w.long a y g
      (flat-by d (n + count a.item) (add_at d s (p + 2) n ws).words (after-widths vs ws (add_at d s (p + 2) n ws) y w) (omega arith) x2)
      o r b.least b.most)
  flat-by (suc d) {p = p} n ws w r (reading.a-conditional {q = f} {a = a} {b = g} m b x0 x1 x2 e) =
      let h = b.below in
      let t = add_at d s (p + 2) n ws in
      let y = flat-by d n ws w (omega arith) x0 in
      let w2 = after-widths vs ws t y w in
      let t2 = add_at d s f.next (n + count f.item) t.words in
      let z = flat-by d (n + count f.item) t.words w2 (omega arith) x1 in
      rw (at-conditional s d p n ws (omega arith) m)
      (conditional-step s (add_at d s) (length vs) n (p + 2) ws w.long f y a z g
      (flat-by d (n + count f.item + count a.item) t2.words (after-widths vs t.words t2 z w2) (omega arith) x2) r)
  flat-by (suc d) n ws w r (reading.a-call m h e l f es x) = absurd (no-function c alone l)

  pub add-flat : {d p : ℕ} {q : Parsed Expr} (n : ℕ) (ws : List ℕ) → Widths vs ws → n + count q.item ≤ 4176
      → Reads c s d p q → Laid (length vs) n ws q (add_at d s p n ws)
  add-flat {d} = flat-by d
