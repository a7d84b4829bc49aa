-- A body that was read fills in its instructions, from its place on, and leaves the rest of the table as it was. Assumes nothing.
use mathlib.Core.Path.{◌≡◌, refl, sym, ap, ◌∙◌, subst}
use Prim.Native.Nat.{ℕ, zero, suc, ◌+◌, ◌*◌, ◌≤◌, ◌<◌}
use native.Mathlib.Omega.{arith}
use mathlib.Core.List.{List, [], ◌∷◌, ◌++◌}
use lib.ListN.{length, get_or}
use Rattle.sheet.specs.Reading.{ok}
use Rattle.sheet.specs.Expression.{Expr, result, in_turn, if_then, if_else, Scope, Parsed, read_expr, tree}
use Rattle.sheet.specs.Statement.{Form, an_empty, an_assign, a_sequence, an_if, an_if_else}
use Rattle.sheet.specs.Functions.{Bodied}
use Rattle.sheet.proofs.Expression.{derive, reads-after}
use Rattle.sheet.proofs.Statements.{form_map}
use Rattle.pseudocode.specs.Skipping.{skip_at}
use Rattle.pseudocode.specs.Filling.{set_kind, go_kind, ifnot_kind, Filling, filling}
use Rattle.pseudocode.proofs.Skipping.{Counted, skip-reads}
use Rattle.pseudocode.proofs.Filling.{Frame, frame-none, frame_then}
use Rattle.bodies.specs.declared.Move.{Move}
use Rattle.bodies.specs.declared.Move.TheVariants.{Set, Go, IfNot}
use Rattle.bodies.specs.Steps.{Step, set!, go, ifnot, size_of, lay_out}
use Rattle.bodies.specs.Filling.{store, after, fill_result, fill_in_turn, fill_inside, fill_if, fill_if_else, fill_form, fill_at}
use Rattle.bodies.specs.Laying.{fetch_at}
use Rattle.bodies.specs.Claims.{Fetched, a-set, a-go, an-ifnot}
use Rattle.bodies.proofs.Steps.{lay_out-size}
use Rattle.bodies.proofs.Reading.{ReadsBody, an-empty, a-result, in-turn, an-if, an-if-else}
use Rattle.bodies.proofs.Filling.{length-store, frame-store, after-in, fetch-same, fetch-set, fetch-go, fetch-ifnot, fill-at}

-- ---- the table holds instructions from a place on

pub data Held (c : Scope) (s code : List ℕ) : ℕ → List (Step Expr) → Type 0 where
  none : {n : ℕ} → Held c s code n []
  more : {n : ℕ} {i : Step Expr} {js : List (Step Expr)} → Fetched c s i (fetch_at code n) → Held c s code (n + 1) js → Held c s code n (i ∷ js)

module _ {c : Scope} {s : List ℕ} where
  held-append : {code : List ℕ} {n : ℕ} (m : ℕ) {is js : List (Step Expr)} → m ≡ n + length is → Held c s code n is → Held c s code m js
      → Held c s code n (is ++ js)
  held-append {n = n} m e none k = let q : n ≡ m = omega arith in rw q k
  held-append m e (more x h) k = more x (held-append m (omega arith) h k)

  -- Instructions before, or behind, the part that was filled are still there.
  pub held-before : {code code' : List ℕ} {n low high : ℕ} {is : List (Step Expr)} → Frame low high code code' → 2 * (n + length is) ≤ low
      → Held c s code n is → Held c s code' n is
  held-before f l none = none
  held-before {code} {code'} {n} f l (more {i = i} x h) =
      let same = fetch-same code n code' (f.below (2 * n) (omega arith)) (f.below (2 * n + 1) (omega arith)) in
      more (subst (λ (u : Move). Fetched c s i u) (sym same) x) (held-before f (omega arith) h)

  held-behind : {code code' : List ℕ} {n low high : ℕ} {is : List (Step Expr)} → Frame low high code code' → high ≤ 2 * n
      → Held c s code n is → Held c s code' n is
  held-behind f l none = none
  held-behind {code} {code'} {n} f l (more {i = i} x h) =
      let same = fetch-same code n code' (f.above (2 * n) (omega arith)) (f.above (2 * n + 1) (omega arith)) in
      more (subst (λ (u : Move). Fetched c s i u) (sym same) x) (held-behind f (omega arith) h)

  pub held_at : {code : List ℕ} {n : ℕ} {is : List (Step Expr)} → Held c s code n is → (i : ℕ) → i < length is
      → Fetched c s (get_or is i (go 0)) (fetch_at code (n + i))
  held_at none i l = absurd (omega arith)
  held_at {n = n} (more x h) zero l = let e : n + 0 ≡ n = omega arith in rw e x
  held_at {n = n} (more x h) (suc i) l = let e : n + suc i ≡ n + 1 + i = omega arith in rw e (held_at h i (omega arith))

-- ---- a part of the table, from place n to place m, filled in with instructions, and nothing else changed

pub record Part (c : Scope) (s : List ℕ) (n m : ℕ) (code code' : List ℕ) (is : List (Step Expr)) : Type 0 where
  pub held : Held c s code' n is
  pub frame : Frame (2 * n) (2 * m) code code'

module _ {c : Scope} {s : List ℕ} where
  part_none : (n : ℕ) (code : List ℕ) → Part c s n n code code []
  part_none n code = record { held = none; frame = frame-none (2 * n) (2 * n) code }

  -- One more instruction in front of a part, stored after it.
  part-first : {n m : ℕ} {code code' : List ℕ} {js : List (Step Expr)} (i : Step Expr) (kind at goal : ℕ) → n < m
      → Fetched c s i (fetch_at (store n kind at goal code') n) → Part c s (n + 1) m code code' js
      → Part c s n m code (store n kind at goal code') (i ∷ js)
  part-first {n} {m} {code} {code'} i kind at goal l x p =
      let f = frame-store n kind at goal code' in
      record {
        held = more x (held-behind f (omega arith) p.held);
        frame = frame_then (2 * n) (2 * m) p.frame f (omega arith) (omega arith) (omega arith) (omega arith);
      }

  -- One part behind another.
  part_then : {n m k : ℕ} {code code' code'' : List ℕ} {is js : List (Step Expr)} → m ≡ n + length is → m ≤ k
      → Part c s n m code code' is → Part c s m k code' code'' js → Part c s n k code code'' (is ++ js)
  part_then {n} {m} {k} e l p q =
      record {
        held = held-append m e (held-before q.frame (omega arith) p.held) q.held;
        frame = frame_then (2 * n) (2 * k) p.frame q.frame (omega arith) (omega arith) (omega arith) (omega arith);
      }

-- ---- what filling from place n leaves, for a body that was read

pub record Fills (c : Scope) (s : List ℕ) (n : ℕ) (code : List ℕ) (g : Filling) (b : Bodied) : Type 0 where
  pub next : g.next ≡ b.next
  pub place : g.place ≡ n + size_of b.body
  pub part : Part c s n (n + size_of b.body) code g.code (lay_out b.body n)

-- An expression that was read ends where skipping ends, within the sheet.
record Ending (s ds : List ℕ) (p : ℕ) (e : Parsed Expr) : Type 0 where
  pub skip : skip_at 16 s ds p ≡ e.next
  pub after : p < e.next
  pub below : e.next ≤ length s

-- ---- each form, from its parts

module _ (c : Scope) (s ds : List ℕ) (short : length s ≤ 8192) (counted : Counted s ds c.functions) where
  ending : (p : ℕ) {e : Parsed Expr} → read_expr 16 c s p ≡ ok e → Ending s ds p e
  ending p h =
      let r = derive c s 16 p h in
      let b = reads-after r in
      record { skip = skip-reads c s ds short counted r; after = b.0; below = b.1 }

  fetched-set : {at : ℕ} {e : Parsed Expr} {u : Move} → read_expr 16 c s at ≡ ok e → u ≡ Set at → Fetched c s (set! e.item) u
  unfolding tree
  fetched-set {e = e} h q = rw q (a-set h)

  fetched-ifnot : {at g : ℕ} {e : Parsed Expr} {u : Move} → read_expr 16 c s at ≡ ok e → u ≡ IfNot g at → Fetched c s (ifnot e.item g) u
  unfolding tree
  fetched-ifnot {e = e} h q = rw q (an-ifnot h)

  fetched-go : {g : ℕ} {u : Move} → u ≡ Go g → Fetched c s (go g) u
  fetched-go q = rw q a-go

  result-fills : (n : ℕ) (code : List ℕ) (p : ℕ) {e : Parsed Expr} → n < 4096 → length code ≡ 8192 → read_expr 16 c s p ≡ ok e
      → Fills c s n code (fill_result s ds (filling p n code)) (record { body = result e.item; next = e.next })
  unfolding fill_result size_of lay_out
  result-fills n code p hn long h =
      let o = ending p h in
      let a = o.after in
      let b = o.below in
      record {
        next = o.skip;
        place = after-in n hn;
        part = part-first (set! _) set_kind p 0 (omega arith) (fetched-set h (fetch-set n code hn long p (omega arith))) (part_none (n + 1) code);
      }

  in-turn-fills : {n : ℕ} {code : List ℕ} {g h : Filling} {a b : Bodied} → Fills c s n code g a
      → Fills c s (n + size_of a.body) g.code h b
      → Fills c s n code h (record { body = in_turn a.body b.body; next = b.next })
  unfolding size_of lay_out
  in-turn-fills {n} {code} {a = a} {b = b} x y =
      let l = lay_out-size a.body n in
      let e : n + size_of a.body + size_of b.body ≡ n + (size_of a.body + size_of b.body) = omega arith in
      record { next = y.next; place = y.place ∙ e; part = rw (← e) (part_then (omega arith) (omega arith) x.part y.part) }

  if-fills : {n : ℕ} {code : List ℕ} {g : Filling} {a : Bodied} (p : ℕ) {e : Parsed Expr} → n + 1 + size_of a.body < 4096
      → length code ≡ 8192 → read_expr 16 c s p ≡ ok e → Fills c s (n + 1) code g a
      → Fills c s n code (filling g.next g.place (store n ifnot_kind p g.place g.code))
      (record { body = if_then e.item a.body; next = a.next })
  unfolding size_of lay_out
  if-fills {n} {code} {g} {a} p hn long h x =
      let o = ending p h in
      let i = o.after in
      let j = o.below in
      let e : n + 1 + size_of a.body ≡ n + (size_of a.body + 1) = omega arith in
      let q : g.place ≡ n + 1 + size_of a.body = x.place in
      let head = fetch-ifnot n g.code (omega arith) (x.part.frame.long ∙ long) p g.place (omega arith) (omega arith) in
      record {
        next = x.next;
        place = q ∙ e;
        part =
            rw (← e)
            (part-first (ifnot _ _) ifnot_kind p g.place (omega arith) (fetched-ifnot h (head ∙ ap (λ (k : ℕ). IfNot k p) q)) x.part);
      }

  if-else-fills : {n : ℕ} {code : List ℕ} {g h : Filling} {a b : Bodied} (p : ℕ) {e : Parsed Expr}
      → n + 2 + size_of a.body + size_of b.body < 4096 → length code ≡ 8192 → read_expr 16 c s p ≡ ok e → Fills c s (n + 1) code g a
      → Fills c s (n + 2 + size_of a.body) g.code h b
      → Fills c s n code (filling h.next h.place (store n ifnot_kind p (after g.place) (store g.place go_kind 0 h.place h.code)))
      (record { body = if_else e.item a.body b.body; next = b.next })
  unfolding size_of lay_out
  if-else-fills {n} {code} {g} {h} {a} {b} p hn long read x y =
      let o = ending p read in
      let i = o.after in
      let j = o.below in
      let l = lay_out-size a.body (n + 1) in
      let m : ℕ = n + 1 + size_of a.body in
      let end : ℕ = n + 2 + size_of a.body + size_of b.body in
      let e : end ≡ n + (size_of a.body + size_of b.body + 2) = omega arith in
      let u : n + 2 + size_of a.body ≡ m + 1 = omega arith in
      let q : g.place ≡ m = x.place in
      let r : h.place ≡ end = y.place in
      let v : after m ≡ n + 2 + size_of a.body = after-in m (omega arith) ∙ sym u in
      let leap = store m go_kind 0 h.place h.code in
      let hc : length h.code ≡ 8192 = y.part.frame.long ∙ x.part.frame.long ∙ long in
      let over = fetch-go m h.code (omega arith) hc h.place (omega arith) in
      let head = fetch-ifnot n leap (omega arith) (length-store m go_kind 0 h.place h.code ∙ hc) p (after m) (omega arith) (omega arith) in
      let is = lay_out b.body (n + 2 + size_of a.body) in
      let rest = subst (λ (k : ℕ). Part c s k end g.code h.code is) u y.part in
      let second = part-first (go end) go_kind 0 h.place (omega arith) (fetched-go (over ∙ ap Go r)) rest in
      record {
        next = y.next;
        place = r ∙ e;
        part =
            rw (q, ← e)
            (part-first (ifnot _ _) ifnot_kind p (after m) (omega arith) (fetched-ifnot read (head ∙ ap (λ (k : ℕ). IfNot k p) v))
            (part_then (omega arith) (omega arith) x.part second));
      }

  -- ---- every body that was read

  -- From the form to the statement, wherever filling stands at its map.
  started : (d : ℕ) {p n : ℕ} {b : Bodied} (k : Form) (f : Filling) → p < length s → get_or s p 0 ≡ form_map k → f.next ≡ p → f.place ≡ n
      → n < 4096 → Fills c s n f.code (fill_form s ds (fill_at s ds d) (filling p n f.code) (ok k)) b
      → Fills c s n f.code (fill_at s ds (suc d) f) b
  started d {p} {n} {b} k f l m e q hn x =
      let at : f ≡ filling p n f.code = λ i. filling (e i) (q i) f.code in
      let step = fill-at s ds (filling p n f.code) d k (omega arith) hn m in
      subst (λ (g : Filling). Fills c s n f.code g b) (sym (ap (fill_at s ds (suc d)) at ∙ step)) x

  pub fills : {d p : ℕ} {b : Bodied} → ReadsBody c s d p b → (n : ℕ) (f : Filling) → f.next ≡ p → f.place ≡ n
      → n + size_of b.body < 4096 → length f.code ≡ 8192 → Fills c s n f.code (fill_at s ds d f) b
  unfolding fill_form form_map size_of lay_out fill_in_turn fill_inside fill_if fill_if_else
  fills {p = p} (an-empty {d = d} l m) n f e q hn long =
      let z : n + 0 ≡ n = omega arith in
      started d an_empty f l m e q (omega arith) (record { next = refl; place = sym z; part = rw z (part_none n f.code) })
  fills {p = p} (a-result {d = d} l m h) n f e q hn long =
      started d an_assign f (omega arith) m e q (omega arith) (result-fills n f.code (p + 2) (omega arith) long h)
  fills {p = p} (in-turn {d = d} {a = a} l m x y) n f e q hn long =
      let u = fills x n (filling (p + 1) n f.code) refl refl (omega arith) long in
      let v = fills y (n + size_of a.body) _ u.next u.place (omega arith) (u.part.frame.long ∙ long) in
      started d a_sequence f l m e q (omega arith) (in-turn-fills u v)
  fills {p = p} (an-if {d = d} l m h x) n f e q hn long =
      let o = ending (p + 1) h in
      let u = fills x (n + 1) (filling (skip_at 16 s ds (p + 1)) (after n) f.code) o.skip (after-in n (omega arith)) (omega arith) long in
      started d an_if f l m e q (omega arith) (if-fills (p + 1) (omega arith) long h u)
  fills {p = p} (an-if-else {d = d} {a = a} l m h x y) n f e q hn long =
      let o = ending (p + 1) h in
      let u = fills x (n + 1) (filling (skip_at 16 s ds (p + 1)) (after n) f.code) o.skip (after-in n (omega arith)) (omega arith) long in
      let g = fill_at s ds d (filling (skip_at 16 s ds (p + 1)) (after n) f.code) in
      let z = u.place in
      let second : after g.place ≡ n + 2 + size_of a.body = after-in g.place (omega arith) ∙ omega arith in
      let k = filling g.next (after g.place) g.code in
      let v = fills y (n + 2 + size_of a.body) k u.next second (omega arith) (u.part.frame.long ∙ long) in
      started d an_if_else f l m e q (omega arith) (if-else-fills (p + 1) (omega arith) long h u v)
