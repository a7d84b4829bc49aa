-- A statement that was read fills in its translation, from its place on, and leaves the rest of the table as it was.
use mathlib.Core.Path.{◌≡◌, refl, sym, ap, ◌∙◌, subst}
use Prim.Native.Nat.{ℕ, zero, suc, ◌+◌, ◌*◌, ◌%◌, ◌≤◌, ◌<◌}
use native.Mathlib.Omega.{arith}
use mathlib.Core.Bool.{Bool, true, false, ◌&&◌}
use mathlib.Core.List.{List, [], ◌∷◌, ◌++◌}
use lib.ListN.{length, get_or}
use lib.Dec.{leb}
use borrow.Author.Tests.{ltb-true}
use Rattle.sheet.specs.Reading.{ok}
use Rattle.sheet.specs.Expression.{Scope, located}
use Rattle.sheet.specs.Statement.{Stmt, sequence, if_then, if_else, while, forever, size, is_register, Body, Form, an_empty, an_assign, a_later, a_sequence, an_if, an_if_else, a_while, a_forever, a_wait}
use Rattle.sheet.proofs.Statements.{ReadsStmt, an-empty, an-assign, a-later, a-sequence, an-if, an-if-else, a-while, a-forever, a-wait, form_map}
use Rattle.pseudocode.specs.declared.Action.TheVariants.{Set, Later, Go, IfNot}
use Rattle.pseudocode.specs.declared.Instruction.TheVariants.{Wait, Act}
use Rattle.pseudocode.specs.Translation.{Instr, wait!, set!, later!, go, ifnot, translate}
use Rattle.pseudocode.specs.Instruction.{instruction_of}
use Rattle.pseudocode.specs.Skipping.{skip_at}
use Rattle.pseudocode.specs.Filling.{cell, first_word, store, wait_kind, set_kind, later_kind, go_kind, ifnot_kind, Filling, filling, after, emit, fill_assign, fill_sequence, fill_body, fill_if, fill_if_else, fill_while, fill_forever, fill_form, fill_at}
use Rattle.pseudocode.specs.Fetching.{terms_at, decode, fetch_at}
use Rattle.pseudocode.proofs.Translation.{translate-size}
use Rattle.pseudocode.proofs.Skipping.{Counted, located-ok}
use Rattle.pseudocode.proofs.Fetching.{decode-wait, decode-set, decode-later, decode-go, decode-ifnot, word-kind, word-place, terms-at, fetch-in, fetch-same}
use Rattle.pseudocode.proofs.Filling.{get_d-store-first, get_d-store-second, after-in, Frame, frame-none, frame-store, frame_then, length-store, fill-at}

-- ---- the table holds instructions from a place of a thread on

pub data Holds (s code : List ℕ) (t : ℕ) : ℕ → List (Instr ℕ) → Type 0 where
  none : {n : ℕ} → Holds s code t n []
  more : {n : ℕ} {i : Instr ℕ} {js : List (Instr ℕ)} → fetch_at s code t n ≡ instruction_of i → Holds s code t (n + 1) js
      → Holds s code t n (i ∷ js)

module _ {s : List ℕ} {t : ℕ} where
  pub holds-append : {code : List ℕ} {n : ℕ} (m : ℕ) {is js : List (Instr ℕ)} → m ≡ n + length is
      → Holds s code t n is → Holds s code t m js → Holds s code t n (is ++ js)
  holds-append {n = n} m e none k = let q : n ≡ m = omega arith in rw q k
  holds-append m e (more x h) k = more x (holds-append m (omega arith) h k)

  -- Instructions before, or behind, the part that was filled are still there.
  pub holds-before : {code code' : List ℕ} {n low high : ℕ} {is : List (Instr ℕ)} → Frame low high code code' → cell t (n + length is) ≤ low
      → Holds s code t n is → Holds s code' t n is
  holds-before f l none = none
  holds-before {code} {code'} {n} f l (more x h) =
      let same = fetch-same s code t n code' (f.below (cell t n) (omega arith)) (f.below (cell t n + 1) (omega arith)) in
      more (same ∙ x) (holds-before f (omega arith) h)

  pub holds-behind : {code code' : List ℕ} {n low high : ℕ} {is : List (Instr ℕ)} → Frame low high code code' → high ≤ cell t n
      → Holds s code t n is → Holds s code' t n is
  holds-behind f l none = none
  holds-behind {code} {code'} {n} f l (more x h) =
      let same = fetch-same s code t n code' (f.above (cell t n) (omega arith)) (f.above (cell t n + 1) (omega arith)) in
      more (same ∙ x) (holds-behind f (omega arith) h)

  pub holds_at : {code : List ℕ} {n : ℕ} {is : List (Instr ℕ)} → Holds s code t n is → (i : ℕ) → i < length is
      → fetch_at s code t (n + i) ≡ instruction_of (get_or is i (go 0))
  holds_at none i l = absurd (omega arith)
  holds_at {n = n} (more x h) zero l = let e : n + 0 ≡ n = omega arith in rw e x
  holds_at {n = n} (more x h) (suc i) l = let e : n + suc i ≡ n + 1 + i = omega arith in rw e (holds_at h i (omega arith))

-- ---- what is fetched where an instruction was stored

module _ (s : List ℕ) (t n : ℕ) (code : List ℕ) (ht : t < 8) (hn : n < 256) (long : length code ≡ 4096) where
  fetch-stored : (kind at goal : ℕ) → fetch_at s (store t n kind at goal code) t n ≡ decode s (first_word kind at) (goal % 65536)
  fetch-stored kind at goal =
      fetch-in s (store t n kind at goal code) t n ht hn
      ∙ λ i. decode s (get_d-store-first t n kind at goal code ht hn long i) (get_d-store-second t n kind at goal code ht hn long i)

  pub fetch-wait : (at : ℕ) → at < 8192 → fetch_at s (store t n wait_kind at 0 code) t n ≡ Wait (terms_at s at)
  fetch-wait at h =
      fetch-stored wait_kind at 0
      ∙ decode-wait s (first_word wait_kind at) (0 % 65536) (word-kind wait_kind at (omega arith))
      ∙ ap (λ p. Wait (terms_at s p)) (word-place wait_kind at (omega arith) h)

  pub fetch-set : (at target : ℕ) → at < 8192 → target < 256 → fetch_at s (store t n set_kind at target code) t n ≡ Act (Set target at)
  fetch-set at target h l =
      let e : target % 65536 % 256 ≡ target = omega arith in
      fetch-stored set_kind at target
      ∙ decode-set s (first_word set_kind at) (target % 65536) (word-kind set_kind at (omega arith))
      ∙ λ i. Act (Set (e i) (word-place set_kind at (omega arith) h i))

  pub fetch-later : (at target : ℕ) → at < 8192 → target < 256 → fetch_at s (store t n later_kind at target code) t n ≡ Act (Later target at)
  fetch-later at target h l =
      let e : target % 65536 % 256 ≡ target = omega arith in
      fetch-stored later_kind at target
      ∙ decode-later s (first_word later_kind at) (target % 65536) (word-kind later_kind at (omega arith))
      ∙ λ i. Act (Later (e i) (word-place later_kind at (omega arith) h i))

  pub fetch-go : (goal : ℕ) → goal < 65536 → fetch_at s (store t n go_kind 0 goal code) t n ≡ Act (Go goal)
  fetch-go goal l =
      let e : goal % 65536 ≡ goal = omega arith in
      fetch-stored go_kind 0 goal
      ∙ decode-go s (first_word go_kind 0) (goal % 65536) (word-kind go_kind 0 (omega arith))
      ∙ ap (λ g. Act (Go g)) e

  pub fetch-ifnot : (at goal : ℕ) → at < 8192 → goal < 65536 → fetch_at s (store t n ifnot_kind at goal code) t n ≡ Act (IfNot goal at)
  fetch-ifnot at goal h l =
      let e : goal % 65536 ≡ goal = omega arith in
      fetch-stored ifnot_kind at goal
      ∙ decode-ifnot s (first_word ifnot_kind at) (goal % 65536) (word-kind ifnot_kind at (omega arith))
      ∙ λ i. Act (IfNot (e i) (word-place ifnot_kind at (omega arith) h i))

-- ---- a part of a thread's code, from place n to place m, filled in with instructions, and nothing else changed

pub record Part (s : List ℕ) (t n m : ℕ) (code code' : List ℕ) (is : List (Instr ℕ)) : Type 0 where
  pub holds : Holds s code' t n is
  pub frame : Frame (cell t n) (cell t m) code code'

module _ {s : List ℕ} {t : ℕ} where
  part_none : (n : ℕ) (code : List ℕ) → Part s t n n code code []
  part_none n code = record { holds = none; frame = frame-none (cell t n) (cell t n) code }

  -- One more instruction in front of a part, stored after it.
  part-first : {n m : ℕ} {code code' : List ℕ} {js : List (Instr ℕ)} (i : Instr ℕ) (kind at goal : ℕ) → n < m
      → fetch_at s (store t n kind at goal code') t n ≡ instruction_of i → Part s t (n + 1) m code code' js
      → Part s t n m code (store t n kind at goal code') (i ∷ js)
  part-first {n} {m} {code} {code'} i kind at goal l x p =
      let f = frame-store t n kind at goal code' in
      record {
        holds = more x (holds-behind f (omega arith) p.holds);
        frame = frame_then (cell t n) (cell t m) p.frame f (omega arith) (omega arith) (omega arith) (omega arith);
      }

  -- One part behind another.
  part_then : {n m k : ℕ} {code code' code'' : List ℕ} {is js : List (Instr ℕ)} → m ≡ n + length is → m ≤ k
      → Part s t n m code code' is → Part s t m k code' code'' js → Part s t n k code code'' (is ++ js)
  part_then {n} {m} {k} e l p q =
      record {
        holds = holds-append m e (holds-before q.frame (omega arith) p.holds) q.holds;
        frame = frame_then (cell t n) (cell t k) p.frame q.frame (omega arith) (omega arith) (omega arith) (omega arith);
      }

-- ---- what filling from place n of a thread leaves, for a statement that was read

pub record Fills (s : List ℕ) (t n : ℕ) (code : List ℕ) (g : Filling) (b : Body ℕ) : Type 0 where
  pub next : g.next ≡ b.next
  pub place : g.place ≡ n + size b.stmt
  pub part : Part s t n (n + size b.stmt) code g.code (translate b.stmt n)

-- ---- each form, from its parts

module _ (s : List ℕ) (t : ℕ) (ht : t < 8) where
  -- One instruction.
  emit-fills : (n : ℕ) (code : List ℕ) (kind at goal next p : ℕ) {q : ℕ} {a : Stmt ℕ} (i : Instr ℕ) → n < 256 → next ≡ q
      → size a ≡ 1 → translate a n ≡ i ∷ [] → fetch_at s (store t n kind at goal code) t n ≡ instruction_of i
      → Fills s t n code (emit t kind at goal next (filling p n code)) (record { stmt = a; next = q })
  unfolding emit
  emit-fills n code kind at goal next p i hn e one tr x =
      record {
        next = e;
        place = after-in n hn ∙ ap (λ (k : ℕ). n + k) (sym one);
        part = rw (tr, one) (part-first i kind at goal (omega arith) x (part_none (n + 1) code));
      }

  sequence-fills : {n : ℕ} {code : List ℕ} {g h : Filling} {a b : Body ℕ} → Fills s t n code g a
      → Fills s t (n + size a.stmt) g.code h b
      → Fills s t n code h (record { stmt = sequence a.stmt b.stmt; next = b.next })
  unfolding size translate
  sequence-fills {n} {code} {a = a} {b = b} x y =
      let l = translate-size a.stmt n in
      let e : n + size a.stmt + size b.stmt ≡ n + (size a.stmt + size b.stmt) = omega arith in
      record { next = y.next; place = y.place ∙ e; part = rw (← e) (part_then (omega arith) (omega arith) x.part y.part) }

  if-fills : {n : ℕ} {code : List ℕ} {g : Filling} {a : Body ℕ} (p : ℕ) {c : ℕ} → n + 1 + size a.stmt < 256 → p < 8192
      → length code ≡ 4096 → c ≡ p → Fills s t (n + 1) code g a
      → Fills s t n code
      (filling g.next g.place (store t n ifnot_kind p g.place g.code))
      (record { stmt = if_then c a.stmt; next = a.next })
  unfolding size translate instruction_of
  if-fills {n} {code} {g} {a} p hn hp long i x =
      let e : n + 1 + size a.stmt ≡ n + (size a.stmt + 1) = omega arith in
      let q : g.place ≡ n + 1 + size a.stmt = x.place in
      let head = fetch-ifnot s t n g.code ht (omega arith) (x.part.frame.long ∙ long) p g.place hp (omega arith) in
      record {
        next = x.next;
        place = q ∙ e;
        part = rw (← e) (part-first (ifnot _ _) ifnot_kind p g.place (omega arith) (head ∙ λ j. Act (IfNot (q j) (sym i j))) x.part);
      }

  if-else-fills : {n : ℕ} {code : List ℕ} {g h : Filling} {a b : Body ℕ} (p : ℕ) {c : ℕ}
      → n + 2 + size a.stmt + size b.stmt < 256 → p < 8192 → length code ≡ 4096 → c ≡ p → Fills s t (n + 1) code g a → Fills s t (n + 2 + size a.stmt) g.code h b
      → Fills s t n code
      (filling h.next h.place (store t n ifnot_kind p (after g.place) (store t g.place go_kind 0 h.place h.code)))
      (record { stmt = if_else c a.stmt b.stmt; next = b.next })
  unfolding size translate instruction_of
  if-else-fills {n} {code} {g} {h} {a} {b} p hn hp long i x y =
      let l = translate-size a.stmt (n + 1) in
      let m : ℕ = n + 1 + size a.stmt in
      let e : n + 2 + size a.stmt + size b.stmt ≡ n + (size a.stmt + size b.stmt + 2) = omega arith in
      let u : n + 2 + size a.stmt ≡ m + 1 = omega arith in
      let q : g.place ≡ m = x.place in
      let r : h.place ≡ n + 2 + size a.stmt + size b.stmt = y.place in
      let v : after m ≡ n + 2 + size a.stmt = after-in m (omega arith) ∙ sym u in
      let c = store t m go_kind 0 h.place h.code in
      let hc : length h.code ≡ 4096 = y.part.frame.long ∙ x.part.frame.long ∙ long in
      let back = fetch-go s t m h.code ht (omega arith) hc h.place (omega arith) in
      let head = fetch-ifnot s t n c ht (omega arith) (length-store t m go_kind 0 h.place h.code ∙ hc) p (after m) hp (omega arith) in
      let end : ℕ = n + 2 + size a.stmt + size b.stmt in
      let is = translate b.stmt (n + 2 + size a.stmt) in
      let rest = subst (λ (k : ℕ). Part s t k end g.code h.code is) u y.part in
      let second = part-first (go end) go_kind 0 h.place (omega arith) (back ∙ ap (λ k. Act (Go k)) r) rest in
      record {
        next = y.next;
        place = r ∙ e;
        part =
            rw (q, ← e)
            (part-first (ifnot _ _) ifnot_kind p (after m) (omega arith) (head ∙ λ j. Act (IfNot (v j) (sym i j)))
            (part_then (omega arith) (omega arith) x.part second));
      }

  while-fills : {n : ℕ} {code : List ℕ} {g : Filling} {a : Body ℕ} (p : ℕ) {c : ℕ} → n + 2 + size a.stmt < 256 → p < 8192
      → length code ≡ 4096 → c ≡ p → Fills s t (n + 1) code g a
      → Fills s t n code
      (filling g.next (after g.place) (store t n ifnot_kind p (after g.place) (store t g.place go_kind 0 n g.code)))
      (record { stmt = while c a.stmt; next = a.next })
  unfolding size translate instruction_of
  while-fills {n} {code} {g} {a} p hn hp long i x =
      let l = translate-size a.stmt (n + 1) in
      let m : ℕ = n + 1 + size a.stmt in
      let e : m + 1 ≡ n + (size a.stmt + 2) = omega arith in
      let q : g.place ≡ m = x.place in
      let v : after m ≡ n + size a.stmt + 2 = after-in m (omega arith) ∙ omega arith in
      let c = store t m go_kind 0 n g.code in
      let hc : length g.code ≡ 4096 = x.part.frame.long ∙ long in
      let back = fetch-go s t m g.code ht (omega arith) hc n (omega arith) in
      let head = fetch-ifnot s t n c ht (omega arith) (length-store t m go_kind 0 n g.code ∙ hc) p (after m) hp (omega arith) in
      let second = part-first (go n) go_kind 0 n (omega arith) back (part_none (m + 1) g.code) in
      record {
        next = x.next;
        place = rw q (v ∙ omega arith);
        part =
            rw (q, ← e)
            (part-first (ifnot _ _) ifnot_kind p (after m) (omega arith) (head ∙ λ j. Act (IfNot (v j) (sym i j)))
            (part_then (omega arith) (omega arith) x.part second));
      }

  pub forever-fills : {n : ℕ} {code : List ℕ} {g : Filling} {a : Body ℕ} → n + size a.stmt < 256 → length code ≡ 4096
      → Fills s t n code g a
      → Fills s t n code (emit t go_kind 0 n g.next g) (record { stmt = forever a.stmt; next = a.next })
  unfolding emit size translate instruction_of
  forever-fills {n} {code} {g} {a} hn long x =
      let l = translate-size a.stmt n in
      let m : ℕ = n + size a.stmt in
      let e : m + 1 ≡ n + (size a.stmt + 1) = omega arith in
      let q : g.place ≡ m = x.place in
      let back = fetch-go s t m g.code ht (omega arith) (x.part.frame.long ∙ long) n (omega arith) in
      let second = part-first (go n) go_kind 0 n (omega arith) back (part_none (m + 1) g.code) in
      record {
        next = x.next;
        place = rw q (after-in m (omega arith) ∙ e);
        part = rw (q, ← e) (part_then (omega arith) (omega arith) x.part second);
      }

-- ---- every statement that was read

module _ (s ds : List ℕ) (short : length s ≤ 8192) (c : Scope) (counted : Counted s ds c.functions) (few : c.inputs + c.registers ≤ 256) (t : ℕ)
    (ht : t < 8) where
  -- A target byte that names a register is below 256.
  target_below : (v : ℕ) → is_register c v ≡ true → v < 256
  unfolding is_register
  target_below v h = let l = ltb-true v (c.inputs + c.registers) (and_right (leb c.inputs v) _ h) in omega arith
    where
      and_right : (x y : Bool) → (x && y) ≡ true → y ≡ true
      and_right true y e = e
      and_right false y e = cc

  -- From the form to the statement, wherever filling stands at its map.
  started : (d : ℕ) {p n : ℕ} {b : Body ℕ} (k : Form) (f : Filling) → p < length s → get_or s p 0 ≡ form_map k
      → f.next ≡ p → f.place ≡ n → n < 256
      → Fills s t n f.code (fill_form s ds t (fill_at s ds t d) (filling p n f.code) (ok k)) b
      → Fills s t n f.code (fill_at s ds t (suc d) f) b
  started d {p} {n} {b} k f l m e q hn x =
      let at : f ≡ filling p n f.code = λ i. filling (e i) (q i) f.code in
      let step = fill-at s ds t (filling p n f.code) d k (omega arith) hn m in
      subst (λ (g : Filling). Fills s t n f.code g b) (sym (ap (fill_at s ds t (suc d)) at ∙ step)) x

  pub fills : {d p : ℕ} {b : Body ℕ} → ReadsStmt (located s) c s d p b → (n : ℕ) (f : Filling) → f.next ≡ p → f.place ≡ n
      → n + size b.stmt < 256 → length f.code ≡ 4096 → Fills s t n f.code (fill_at s ds t d f) b
  unfolding fill_form form_map size translate instruction_of fill_assign fill_sequence fill_body fill_if fill_if_else fill_while fill_forever emit
  fills {p = p} (an-empty {d = d} l m) n f e q hn long =
      let z : n + 0 ≡ n = omega arith in
      started d an_empty f l m e q (omega arith) (record { next = refl; place = sym z; part = rw z (part_none n f.code) })
  fills {p = p} (an-assign {d = d} {t = v} l m x r h w) n f e q hn long =
      let o = located-ok c s ds (p + 2) short counted h in
      let a = o.after in
      let b = o.below in
      let y = fetch-set s t n f.code ht (omega arith) long (p + 2) v (omega arith) (target_below v r) in
      started d an_assign f (omega arith) m e q (omega arith)
      (emit-fills s t ht n f.code set_kind (p + 2) (get_or s (p + 1) 0) (skip_at 16 s ds (p + 2)) p (set! v _) (omega arith) o.skip
      refl refl (rw x (y ∙ λ j. Act (Set v (sym o.item j)))))
  fills {p = p} (a-later {d = d} {t = v} l m x r h w) n f e q hn long =
      let o = located-ok c s ds (p + 2) short counted h in
      let a = o.after in
      let b = o.below in
      let y = fetch-later s t n f.code ht (omega arith) long (p + 2) v (omega arith) (target_below v r) in
      started d a_later f (omega arith) m e q (omega arith)
      (emit-fills s t ht n f.code later_kind (p + 2) (get_or s (p + 1) 0) (skip_at 16 s ds (p + 2)) p (later! v _) (omega arith) o.skip
      refl refl (rw x (y ∙ λ j. Act (Later v (sym o.item j)))))
  fills {p = p} (a-sequence {d = d} {a = a} l m x y) n f e q hn long =
      let u = fills x n (filling (p + 1) n f.code) refl refl (omega arith) long in
      let v = fills y (n + size a.stmt) _ u.next u.place (omega arith) (u.part.frame.long ∙ long) in
      started d a_sequence f l m e q (omega arith) (sequence-fills s t ht u v)
  fills {p = p} (an-if {d = d} l m h x) n f e q hn long =
      let o = located-ok c s ds (p + 1) short counted h in
      let a = o.after in
      let b = o.below in
      let u = fills x (n + 1) (filling (skip_at 16 s ds (p + 1)) (after n) f.code) o.skip (after-in n (omega arith)) (omega arith) long in
      started d an_if f l m e q (omega arith) (if-fills s t ht (p + 1) (omega arith) (omega arith) long o.item u)
  fills {p = p} (an-if-else {d = d} {a = a} l m h x y) n f e q hn long =
      let o = located-ok c s ds (p + 1) short counted h in
      let i = o.after in
      let j = o.below in
      let u = fills x (n + 1) (filling (skip_at 16 s ds (p + 1)) (after n) f.code) o.skip (after-in n (omega arith)) (omega arith) long in
      let g = fill_at s ds t d (filling (skip_at 16 s ds (p + 1)) (after n) f.code) in
      let z = u.place in
      let second : after g.place ≡ n + 2 + size a.stmt = after-in g.place (omega arith) ∙ omega arith in
      let k = filling g.next (after g.place) g.code in
      let v = fills y (n + 2 + size a.stmt) k u.next second (omega arith) (u.part.frame.long ∙ long) in
      started d an_if_else f l m e q (omega arith) (if-else-fills s t ht (p + 1) (omega arith) (omega arith) long o.item u v)
  fills {p = p} (a-while {d = d} l m h x) n f e q hn long =
      let o = located-ok c s ds (p + 1) short counted h in
      let a = o.after in
      let b = o.below in
      let u = fills x (n + 1) (filling (skip_at 16 s ds (p + 1)) (after n) f.code) o.skip (after-in n (omega arith)) (omega arith) long in
      started d a_while f l m e q (omega arith) (while-fills s t ht (p + 1) (omega arith) (omega arith) long o.item u)
  fills {p = p} (a-forever {d = d} l m x) n f e q hn long =
      let u = fills x n (filling (p + 1) n f.code) refl refl (omega arith) long in
      started d a_forever f l m e q (omega arith) (forever-fills s t ht (omega arith) long u)
  fills {p = p} (a-wait {d = d} {n = k} {ts = ts} m w r o) n f e q hn long =
      let l = w.below in
      let same = w.same in
      let two : p + 2 ≡ p + 1 + 1 = omega arith in
      started d a_wait f (omega arith) m e q (omega arith)
      (emit-fills s t ht n f.code wait_kind (p + 1) 0 (p + 2 + 2 * get_or s (p + 1) 0) p (wait! ts) (omega arith)
      (ap (λ (i : ℕ). p + 2 + 2 * i) same) refl refl
      (fetch-wait s t n f.code ht (omega arith) long (p + 1) (omega arith) ∙ ap (λ ts. Wait ts) (terms-at (p + 1) same (rw two at r))))
