-- One wire and one instruction filled in: their words, their nodes, and what stays. Assumes nothing.
use mathlib.Core.Path.{◌≡◌, refl, sym, ap, ◌∙◌}
use mathlib.Core.Bool.{Bool, true, false}
use mathlib.Core.List.{List}
use Prim.Native.Nat.{ℕ, zero, suc, ◌+◌, ◌*◌, ◌%◌, ◌≤◌, ◌<◌}
use native.Mathlib.Nat.{not-suc-le-zero, mod-eq_of_lt}
use native.Mathlib.Omega.{arith}
use borrow.Author.Tests.{lt-ltb, ltb-true, ltb-false}
use lib.Dec.{ltb, eqb}
use lib.ListN.{length, get_or, get_or-eq_default}
use Rattle.values.specs.Values.{pick}
use Rattle.values.specs.declared.Edge.{Edge}
use Rattle.values.specs.declared.Edge.TheVariants.{Change, Posedge, Negedge}
use Rattle.values.specs.Edges.{edge_of, edge_number}
use Rattle.sheet.specs.declared.EdgeTerm.{EdgeTerm}
use Rattle.sheet.specs.Expression.{Expr, Scope, Parsed}
use Rattle.pseudocode.specs.Translation.{Instr, wait!, set!, later!, go, ifnot}
use Rattle.pseudocode.specs.Instruction.{no_term, terms_of}
use Rattle.pseudocode.specs.Fetching.{term_at}
use Rattle.pseudocode.specs.declared.Instruction as fetched
use Rattle.pseudocode.proofs.Fetching.{term_of}
use Rattle.plan.specs.declared.Expression.{Expression}
use Rattle.plan.specs.Sections.{slot_of, code_place, wire_place}
use Rattle.plan.specs.Plan.{Node, node, node_at, term_from, terms_from, decode, fetch_at, waits_at, wire_at, width_at}
use Rattle.plan.proofs.Sections.{slot_same}
use Rattle.plan_nodes.specs.Flat.{Flat, a-variable, a-constant, an-unknown, a-unary, a-binary, a-conditional}
use Rattle.plan_exprs.specs.Flatten.{Adding, put_node, more, add_at}
use Rattle.plan_exprs.proofs.Flatten.{four-length, four-other, four-0, four-1, four-2, four-3, put-length, put_same}
use Rattle.plan_exprs.proofs.Flatten.{put-below, put-above, node_kept, flat-kept, count, Laid, Widths, more-in, add-flat}
use Rattle.tables.proofs.Readers.{at_most-same}
use Rattle.tables.proofs.Marking.{ReadAt}
use Rattle.tables.proofs.Placing.{Coded, codes-wait, codes-set, codes-later, codes-go, codes-ifnot}
use Rattle.plan_fill.specs.Filling.{up_to, put_four, Filling, filling, put_term, fill_wait, fill_expr, fill_act, fill_instr}
use Rattle.plan_fill.specs.Holding.{Lies, Planned, a-wait, a-set, a-later, a-go, an-ifnot}
use Rattle.plan_fill.proofs.Kept.{up-to, Kept, kept_then}
use Rattle.plan_fill.proofs.Room.{nodes_of}

-- ---- Ready: the widths stand in the plan

pub record Ready (vs ws : List ℕ) : Type 0 where
  pub widths : Widths vs ws
  pub long : length ws ≡ 25212

pub ready-kept : (vs : List ℕ) {n a b : ℕ} (ws us : List ℕ) → b ≤ 25120 → Kept n a b ws us → Ready vs ws → Ready vs us
unfolding width_at
ready-kept vs ws us h k x =
    let e = k.long ∙ x.long in
    record {
      widths = record {
        same = λ v u. rw (k.after (25120 + v) (omega arith)) (x.widths.same v u);
        narrow = x.widths.narrow;
        long = omega arith;
      };
      long = e;
    }

-- ---- expressions that stay

pub flat-root : {f : ℕ → Node} {base n r k : ℕ} {e : Expr} → base ≤ n → Flat f base n e r k → r < n + k
flat-root h (a-variable v) = omega arith
flat-root h (a-constant v e) = omega arith
flat-root h (an-unknown w e) = omega arith
flat-root h (a-unary p q x y e) = omega arith
flat-root h (a-binary p q x y z e) = omega arith
flat-root h (a-conditional x y z e) = omega arith

pub lies-kept : (base m n : ℕ) (ws us : List ℕ) (e : Expr) (x : Expression) → m ≤ n → ((i : ℕ) → i < 4 * m → get_or us i 0 ≡ get_or ws i 0)
    → Lies (node_at ws) base m e x → Lies (node_at us) base n e x
lies-kept base m n ws us e x h k y =
    let r = y.room in
    record {
      nodes = y.nodes;
      flat = flat-kept (node_at ws) (node_at us) base (λ i j. node_kept ws us m k i (omega arith)) y.flat;
      above = y.above;
      room = omega arith;
      root = y.root;
    }

-- ---- an expression that was laid out

module _ (base n : ℕ) (ws : List ℕ) (q : Parsed Expr) (r : Adding) (y : Laid base n ws q r) where
  pub laid_kept : (a b : ℕ) → 16704 ≤ b → Kept n a b ws r.words
  laid_kept a b h = record { below = y.below; before = λ i u v. y.above i u; after = λ i u. y.above i (omega arith); long = y.long }

  pub laid-lies : (us : List ℕ) (e : Expr) → q.item ≡ e → base ≤ 80 → 80 ≤ n
      → ((i : ℕ) → i < 4 * (n + count e) → get_or us i 0 ≡ get_or r.words i 0)
      → Lies (node_at us) base (n + count e) e (record { first = n; root = r.added.root })
  laid-lies us e s h l k =
      let x : Lies (node_at r.words) base (n + count e) e (record { first = n; root = r.added.root }) =
      rw (← s) (record {
        nodes = count q.item;
        flat = y.flat;
        above = l;
        room = omega arith;
        root = flat-root (omega arith) y.flat;
      }) in
      lies-kept base (n + count e) (n + count e) r.words us e _ (omega arith) k x

-- ---- four words

pub record Four (ws : List ℕ) (at k a b c : ℕ) : Type 0 where
  pub kind : get_or ws at 0 ≡ k
  pub number : get_or ws (at + 1) 0 ≡ a
  pub first : get_or ws (at + 2) 0 ≡ b
  pub root : get_or ws (at + 3) 0 ≡ c

pub four-put : (at k a b c : ℕ) (ws : List ℕ) → at + 3 < length ws → Four (put_four at k a b c ws) at k a b c
unfolding put_four
four-put at k a b c ws h =
    record {
      kind = four-0 at k a b c ws h;
      number = four-1 at k a b c ws h;
      first = four-2 at k a b c ws h;
      root = four-3 at k a b c ws h;
    }

pub four-kept : {at k a b c n x z : ℕ} {ws us : List ℕ} → 16704 ≤ at → at + 4 ≤ x → Kept n x z ws us
    → Four ws at k a b c → Four us at k a b c
four-kept {at} h l y f =
    record {
      kind = y.before at (omega arith) (omega arith) ∙ f.kind;
      number = y.before (at + 1) (omega arith) (omega arith) ∙ f.number;
      first = y.before (at + 2) (omega arith) (omega arith) ∙ f.first;
      root = y.before (at + 3) (omega arith) (omega arith) ∙ f.root;
    }

pub put-kept : (n at k a b c : ℕ) (ws : List ℕ) → n ≤ 4176 → 16704 ≤ at → Kept n at (at + 4) ws (put_four at k a b c ws)
unfolding put_four
put-kept n at k a b c ws h l =
    record {
      below = λ i u. four-other at k a b c ws i (λ q. omega arith) (λ q. omega arith) (λ q. omega arith) (λ q. omega arith);
      before = λ i u v. four-other at k a b c ws i (λ q. omega arith) (λ q. omega arith) (λ q. omega arith) (λ q. omega arith);
      after = λ i u. four-other at k a b c ws i (λ q. omega arith) (λ q. omega arith) (λ q. omega arith) (λ q. omega arith);
      long = four-length at k a b c ws;
    }

-- ---- an instruction's words and nodes, all before node `end`

abbrev pub term_node : EdgeTerm → Node
term_node t = node (edge_number t.edge) t.variable 0 0

abbrev pub TermNodes : List ℕ → ℕ → List EdgeTerm → ℕ → Type 0
TermNodes ws n ts m = (k : ℕ) → k < m → node_at ws (n + k) ≡ term_node (get_or ts k no_term)

pub data PutIn (base end : ℕ) (ws : List ℕ) (at : ℕ) : Instr Expr → Type 0 where
  put-wait : {ts : List EdgeTerm} (n : ℕ) → length ts ≤ 8 → ((k : ℕ) → k < length ts → (get_or ts k no_term).variable < 80)
      → n + length ts ≤ end
      → Four ws at 0 (length ts) n 0 → TermNodes ws n ts (length ts) → PutIn base end ws at (wait! ts)
  put-set : {t : ℕ} {e : Expr} (n r : ℕ) → t < 256 → Four ws at 1 t n r → Lies (node_at ws) base end e (record { first = n; root = r })
      → PutIn base end ws at (set! t e)
  put-later : {t : ℕ} {e : Expr} (n r : ℕ) → t < 256 → Four ws at 2 t n r → Lies (node_at ws) base end e (record { first = n; root = r })
      → PutIn base end ws at (later! t e)
  put_go : {g : ℕ} → g < 256 → Four ws at 3 g 0 0 → PutIn base end ws at (go g)
  put-ifnot : {g : ℕ} {e : Expr} (n r : ℕ) → g < 256 → Four ws at 4 g n r → Lies (node_at ws) base end e (record { first = n; root = r })
      → PutIn base end ws at (ifnot e g)

pub put-stays : {base m n at a b : ℕ} {ws us : List ℕ} {j : Instr Expr} → m ≤ n → 16704 ≤ at → at + 4 ≤ a → Kept m a b ws us
    → PutIn base m ws at j → PutIn base n us at j
put-stays {base} {m} {n} {ws = ws} {us = us} h l o k (put-wait {ts = ts} i x v r f t) =
    put-wait {ts = ts} i x v (omega arith) (four-kept l o k f) (λ c u. sym (node_kept ws us m k.below (i + c) (omega arith)) ∙ t c u)
put-stays {base} {m} {n} {ws = ws} {us = us} h l o k (put-set i r b f x) =
    put-set i r b (four-kept l o k f) (lies-kept base m n ws us _ _ h k.below x)
put-stays {base} {m} {n} {ws = ws} {us = us} h l o k (put-later i r b f x) =
    put-later i r b (four-kept l o k f) (lies-kept base m n ws us _ _ h k.below x)
put-stays h l o k (put_go b f) = put_go b (four-kept l o k f)
put-stays {base} {m} {n} {ws = ws} {us = us} h l o k (put-ifnot i r b f x) =
    put-ifnot i r b (four-kept l o k f) (lies-kept base m n ws us _ _ h k.below x)

-- ---- the terms of a wait, put as nodes

pub record TermsPut (ts : List EdgeTerm) (n : ℕ) (f g : Filling) : Type 0 where
  pub free : g.free ≡ f.free + n
  pub below : (i : ℕ) → i < 4 * f.free → get_or g.words i 0 ≡ get_or f.words i 0
  pub above : (i : ℕ) → 16704 ≤ i → get_or g.words i 0 ≡ get_or f.words i 0
  pub long : length g.words ≡ length f.words
  pub nodes : TermNodes g.words f.free ts n

term-more : (ts : List EdgeTerm) (n : ℕ) (f g : Filling) (x : EdgeTerm) → x ≡ get_or ts n no_term → 16704 ≤ length f.words
    → f.free + n < 4176 → TermsPut ts n f g
    → TermsPut ts (suc n) f (filling (more g.free) (put_node g.free (edge_number x.edge) x.variable 0 0 g.words))
term-more ts n f g x e long h y =
    let us = g.words in
    let d = y.free in
    let l = y.long in
    let b : g.free < 4176 = omega arith in
    let vs = put_node g.free (edge_number x.edge) x.variable 0 0 us in
    let keep = put-below g.free (edge_number x.edge) x.variable 0 0 us b in
    record {
      free = more-in g.free b ∙ omega arith;
      below = λ i u. keep i (omega arith) ∙ y.below i u;
      above = λ i u. put-above g.free (edge_number x.edge) x.variable 0 0 us b i u ∙ y.above i u;
      long = put-length g.free (edge_number x.edge) x.variable 0 0 us b ∙ y.long;
      nodes = λ k u. up-to k n u
          (λ j. sym (node_kept us vs g.free keep (f.free + k) (omega arith)) ∙ y.nodes k j)
          (λ j. rw (j, ← e, ← d) (put_same g.free (edge_number x.edge) x.variable 0 0 us b (omega arith)));
    }

pub terms-put : (ts : List EdgeTerm) → length ts ≤ 8 → (n : ℕ) (f : Filling) → 16704 ≤ length f.words → f.free + n ≤ 4176
    → TermsPut ts n f (up_to (put_term (terms_of ts)) n f)
unfolding up_to put_term
terms-put ts h zero f l r =
    record { free = omega arith; below = λ i u. refl; above = λ i u. refl; long = refl; nodes = λ k u. absurd (not-suc-le-zero u) }
terms-put ts h (suc n) f l r =
    term-more ts n f (up_to (put_term (terms_of ts)) n f) (term_at (terms_of ts) n) (term_of ts n h) l (omega arith)
    (terms-put ts h n f l (omega arith))

-- ---- an instruction filled in

pub record Filled (base : ℕ) (j : Instr Expr) (at : ℕ) (f g : Filling) : Type 0 where
  pub free : g.free ≡ f.free + nodes_of j
  pub kept : Kept f.free at (at + 4) f.words g.words
  pub put : PutIn base g.free g.words at j

module _ (base at : ℕ) (f : Filling) (low : 16704 ≤ at) (high : at + 4 ≤ 25120) (long : length f.words ≡ 25212) where
  wait-filled : (ts : List EdgeTerm) (g : Filling) → length ts ≤ 8 → ((k : ℕ) → k < length ts → (get_or ts k no_term).variable < 80)
      → f.free + length ts ≤ 4175 → TermsPut ts (length ts) f g
      → Filled base (wait! ts) at f (filling g.free (put_four at 0 (length ts) f.free 0 g.words))
  unfolding nodes_of
  wait-filled ts g h v r y =
      let d = y.free in
      let l = y.long in
      let us = g.words in
      let k = put-kept g.free at 0 (length ts) f.free 0 us (omega arith) low in
      let t : Kept f.free at at f.words us =
      record { below = y.below; before = λ i u w. y.above i u; after = λ i u. y.above i (omega arith); long = l } in
      record {
        free = d;
        kept = kept_then t k (omega arith) (omega arith) (omega arith);
        put = put-wait {ts = ts} f.free h v (omega arith) (four-put at 0 (length ts) f.free 0 us (omega arith))
            (λ c u. sym (node_kept us (put_four at 0 (length ts) f.free 0 us) g.free k.below (f.free + c) (omega arith))
            ∙ y.nodes c u);
      }

  go-filled : (g : ℕ) → g < 256 → f.free ≤ 4175 → Filled base (go g) at f (filling f.free (put_four at 3 (g % 256) 0 0 f.words))
  unfolding nodes_of
  go-filled g h r =
      rw (mod-eq_of_lt {m = 256} h) (record {
        free = omega arith;
        kept = put-kept f.free at 3 g 0 0 f.words (omega arith) low;
        put = put_go h (four-put at 3 g 0 0 f.words (omega arith));
      })

  -- An expression that was laid out, with its four words.
  module _ (few : base ≤ 80) (some : 80 ≤ f.free) (e : Expr) (r : f.free + count e ≤ 4175)
      (q : Parsed Expr) (a : Adding) (y : Laid base f.free f.words q a) (same : q.item ≡ e) (kind number : ℕ) where
    abbrev us : List ℕ
    us = put_four at kind number f.free a.added.root a.words

    expr-free : a.added.free ≡ f.free + count e
    expr-free = y.free ∙ ap (λ (x : Expr). f.free + count x) same

    last-kept : Kept (f.free + count e) at (at + 4) a.words us
    last-kept = put-kept (f.free + count e) at kind number f.free a.added.root a.words (omega arith) low

    expr-kept : Kept f.free at (at + 4) f.words us
    expr-kept = kept_then (laid_kept base f.free f.words q a y at at low) last-kept (omega arith) (omega arith) (omega arith)

    expr-four : Four us at kind number f.free a.added.root
    expr-four = let l = y.long in four-put at kind number f.free a.added.root a.words (omega arith)

    expr-lies : Lies (node_at us) base a.added.free e (record { first = f.free; root = a.added.root })
    expr-lies = rw expr-free (laid-lies base f.free f.words q a y us e same few some last-kept.below)

module _ (c : Scope) (alone : c.declared ≡ 0) (s : List ℕ) (size : length s ≤ 8192) (few : length c.widths ≤ 80)
    (at : ℕ) (f : Filling) (low : 16704 ≤ at) (high : at + 4 ≤ 25120) (some : 80 ≤ f.free) (x : Ready c.widths f.words) where
  laid-at : (e : Expr) (p : ℕ) (r : f.free + count e ≤ 4175) (z : ReadAt c s e p)
      → Laid (length c.widths) f.free f.words z.0 (add_at 16 s p f.free f.words)
  laid-at e p r z =
      add-flat c alone s size f.free f.words x.widths
      (rw z.2 (omega arith)) z.1

  pub instr-filled : {j : Instr Expr} {i : fetched.Instruction} → Coded c s j i → f.free + nodes_of j ≤ 4175
      → Filled (length c.widths) j at f (fill_instr s i at f)
  unfolding fill_instr fill_act fill_expr fill_wait nodes_of terms_of
  instr-filled (codes-wait {ts = ts} h n) r =
      rw (at_most-same 8 (length ts) h)
      (wait-filled (length c.widths) at f low high x.long ts (up_to (put_term (terms_of ts)) (length ts) f) h
      (λ k l. omega (arith, n k no_term l)) r
      (terms-put ts h (length ts) f x.widths.long (omega arith)))
  instr-filled (codes-set {t = t} {p = p} {e = e} h z) r =
      let a = add_at 16 s p f.free f.words in
      let y = laid-at e p r z in
      record {
        free = expr-free (length c.widths) at f low high x.long few some e r z.0 a y z.2 1 t;
        kept = expr-kept (length c.widths) at f low high x.long few some e r z.0 a y z.2 1 t;
        put = put-set f.free a.added.root h
            (expr-four (length c.widths) at f low high x.long few some e r z.0 a y z.2 1 t)
            (expr-lies (length c.widths) at f low high x.long few some e r z.0 a y z.2 1 t);
      }
  instr-filled (codes-later {t = t} {p = p} {e = e} h z) r =
      let a = add_at 16 s p f.free f.words in
      let y = laid-at e p r z in
      record {
        free = expr-free (length c.widths) at f low high x.long few some e r z.0 a y z.2 2 t;
        kept = expr-kept (length c.widths) at f low high x.long few some e r z.0 a y z.2 2 t;
        put = put-later f.free a.added.root h
            (expr-four (length c.widths) at f low high x.long few some e r z.0 a y z.2 2 t)
            (expr-lies (length c.widths) at f low high x.long few some e r z.0 a y z.2 2 t);
      }
  instr-filled (codes-go {g = g} h) r = go-filled (length c.widths) at f low high x.long g h (omega arith)
  instr-filled (codes-ifnot {g = g} {p = p} {e = e} h z) r =
      let a = add_at 16 s p f.free f.words in
      let y = laid-at e p r z in
      rw (mod-eq_of_lt {m = 256} h) (record {
        free = expr-free (length c.widths) at f low high x.long few some e r z.0 a y z.2 4 g;
        kept = expr-kept (length c.widths) at f low high x.long few some e r z.0 a y z.2 4 g;
        put = put-ifnot f.free a.added.root h
            (expr-four (length c.widths) at f low high x.long few some e r z.0 a y z.2 4 g)
            (expr-lies (length c.widths) at f low high x.long few some e r z.0 a y z.2 4 g);
      })

-- ---- the instruction that the words stand for

edge-back : (e : Edge) → edge_of (edge_number e % 256) ≡ e
unfolding edge_of edge_number
edge-back Change = refl
edge-back Posedge = refl
edge-back Negedge = refl

module _ (ws : List ℕ) (n : ℕ) (ts : List EdgeTerm) (most : length ts ≤ 8) (room : n + length ts ≤ 4176)
    (small : (k : ℕ) → k < length ts → (get_or ts k no_term).variable < 80) (nodes : TermNodes ws n ts (length ts)) where
  term-back : (k : ℕ) → term_from ws n (length ts) k ≡ get_or ts k no_term
  unfolding term_from
  term-back k = by (ltb k (length ts)) refl
    where
      by : (b : Bool) → ltb k (length ts) ≡ b
          → pick b
          (record { edge = edge_of (get_or ws (4 * slot_of (n + k)) 0 % 256); variable = get_or ws (4 * slot_of (n + k) + 1) 0 % 256 })
          no_term
          ≡ get_or ts k no_term
      by true e =
          let l = ltb-true k (length ts) e in
          let t = get_or ts k no_term in
          let x : get_or ws (4 * (n + k)) 0 ≡ edge_number t.edge = ap (λ (y : Node). y.kind) (nodes k l) in
          let z : get_or ws (4 * (n + k) + 1) 0 ≡ t.variable = ap (λ (y : Node). y.first) (nodes k l) in
          let v = small k l in
          let m : t.variable % 256 ≡ t.variable = mod-eq_of_lt (omega arith) in
          rw (slot_same (n + k) (omega arith), x, z, edge-back t.edge, m)
      by false e = sym (get_or-eq_default ts no_term (ltb-false k (length ts) e))

  pub terms-back : terms_from ws n (length ts) ≡ terms_of ts
  unfolding terms_from terms_of
  terms-back =
      rw (term-back 0, term-back 1, term-back 2, term-back 3, term-back 4, term-back 5, term-back 6, term-back 7)

module _ (base end : ℕ) (ws : List ℕ) (i p : ℕ) (hi : i < 8) (he : end ≤ 4175) where
  words_back : {k a b c : ℕ} → Four ws (code_place i p) k a b c → a < 256 → b < 4176 → c < 4176
      → fetch_at ws i p ≡ decode ws k a (record { first = b; root = c })
  unfolding fetch_at
  words_back {a = a} {b = b} {c = c} f x y z =
      rw (lt-ltb i 8 hi, f.kind, f.number, f.first, f.root, mod-eq_of_lt {m = 256} x, slot_same b y, slot_same c z)

  waits_back : {k a b c : ℕ} → Four ws (code_place i p) k a b c → waits_at ws i p ≡ eqb k 0
  unfolding waits_at
  waits_back f = rw (lt-ltb i 8 hi, f.kind)

  pub planned : {j : Instr Expr} → PutIn base end ws (code_place i p) j
      → Planned (node_at ws) base 4176 j (fetch_at ws i p) (waits_at ws i p)
  unfolding decode
  planned (put-wait {ts = ts} n h v r f t) =
      rw (words_back f (omega arith) (omega arith) (omega arith), terms-back ws n ts h (omega arith) v t, waits_back f) (a-wait h)
  planned (put-set n r h f x) =
      let a = x.room in
      let b = x.root in
      rw (words_back f h (omega arith) (omega arith), waits_back f)
      (a-set (lies-kept base end 4176 ws ws _ _ (omega arith) (λ k u. refl) x))
  planned (put-later n r h f x) =
      let a = x.room in
      let b = x.root in
      rw (words_back f h (omega arith) (omega arith), waits_back f)
      (a-later (lies-kept base end 4176 ws ws _ _ (omega arith) (λ k u. refl) x))
  planned (put_go h f) = rw (words_back f h (omega arith) (omega arith), waits_back f) a-go
  planned (put-ifnot n r h f x) =
      let a = x.room in
      let b = x.root in
      rw (words_back f h (omega arith) (omega arith), waits_back f)
      (an-ifnot (lies-kept base end 4176 ws ws _ _ (omega arith) (λ k u. refl) x))

-- ---- a wire's words and nodes

pub record WireIn (base end : ℕ) (ws : List ℕ) (k : ℕ) (e : Expr) : Type 0 where
  pub first : ℕ
  pub root : ℕ
  pub at_first : get_or ws (wire_place k) 0 ≡ first
  pub at-root : get_or ws (wire_place k + 1) 0 ≡ root
  pub lies : Lies (node_at ws) base end e (record { first = first; root = root })

pub wire-stays : {base m n k a b : ℕ} {ws us : List ℕ} {e : Expr} → m ≤ n → wire_place (suc k) ≤ a → Kept m a b ws us
    → WireIn base m ws k e → WireIn base n us k e
wire-stays {base} {m} {n} {k} {ws = ws} {us = us} {e = e} h l y x =
    record {
      first = x.first;
      root = x.root;
      at_first = y.before (wire_place k) (omega arith) (omega arith) ∙ x.at_first;
      at-root = y.before (wire_place k + 1) (omega arith) (omega arith) ∙ x.at-root;
      lies = lies-kept base m n ws us e _ h y.below x.lies;
    }

pub wire-planned : {base end k : ℕ} {ws : List ℕ} {e : Expr} → k < 32 → end ≤ 4175 → WireIn base end ws k e
    → Lies (node_at ws) base 4176 e (wire_at ws k)
unfolding wire_at
wire-planned {base} {end} {k} {ws} {e} h l x =
    let a = x.lies.room in
    let b = x.lies.root in
    rw (lt-ltb k 32 h, x.at_first, x.at-root, slot_same x.first (omega arith), slot_same x.root (omega arith))
    (lies-kept base end 4176 ws ws e _ (omega arith) (λ i u. refl) x.lies)
