-- Every refusal of extraction has a number from 1 on, so 0 is free to say "accepted" (`accepted`): then the sheet was read, no rule is
-- broken, and the lent words hold the module's nodes and rows. `accepts-exactly` says when, both ways.
use mathlib.Core.Path.{◌≡◌, refl}
use mathlib.Core.Bool.{Bool, true, false}
use mathlib.Core.List.{List}
use Prim.Native.Nat.{ℕ, zero, suc, ◌+◌, ◌≤◌}
use native.Mathlib.Omega.{arith}
use native.Mathlib.Decide.{ℕ_discrete}
use lib.ListN.{length}
use lib.Dec.{ltb, eqb}
use borrow.Author.Tests.{eq-eqb, ne_eqb}
use Rattle.values.specs.Values.{pick}
use Rattle.sheet.specs.Reading.{Res, ok, no, ◌>>=◌, ◌>>◌, check}
use Rattle.sheet.specs.Expression.{Expr, variable, constant, unknown, unary, binary, conditional, call, Arguments, no_more, argument, tree}
use Rattle.sheet.specs.Expression.{Body, nothing, result, in_turn, if_then, if_else}
use Rattle.sheet.specs.Module.{Module, Sheet, read_sheet, read}
use Rattle.sheet.proofs.Numbers.{numbered-no, tree-numbered, sheet-numbered}
use Rattle.pseudocode.specs.Translation.{Instr, wait!, set!, later!, go, ifnot}
use Rattle.events.specs.Cycle.{code_of, instr_at, is_wait}
use Rattle.nextstate.specs.Rules.{writes, rule}
use Rattle.nextstate.specs.Nodes.{Node, all_words, padded}
use Rattle.nextstate.specs.Walk.{Emitted, emit, held_in, ends, express, express_all, follow, Held, Walked, merge_one, merge, visit, walk}
use Rattle.nextstate.specs.Accepted.{Acceptable, AcceptsExactly}
use Rattle.nextstate.specs.Extraction.{Tables, walk_from, walks_below, threads_below, extracted, expressions, filled, right_lengths, extract}

-- ---- Numbered: accepted, or refused with a number from 1 on

pub data Numbered {A : Type 0} : Res A → Type 0 where
  taken : (a : A) → Numbered (ok a)
  refused : (n p : ℕ) → 1 ≤ n → Numbered (no n p)

number-some : {A : Type 0} {x : Res A} {n p : ℕ} → Numbered x → x ≡ no n p → 1 ≤ n
number-some {n = n} (taken a) h = let z : ◌≡◌ {A = ℕ} 0 1 = cc in absurd (omega arith)
number-some {n = n} (refused k q l) h = let e : k ≡ n = cc in omega arith

bind : {A B : Type 0} (x : Res A) (f : A → Res B) → Numbered x → ((a : A) → Numbered (f a)) → Numbered (x >>= f)
bind (ok a) f h g = g a
bind (no n p) f h g = refused n p (number-some h refl)

checked : {B : Type 0} (t : Bool) (n p : ℕ) (r : Res B) → 1 ≤ n → Numbered r → Numbered (check t n p >> r)
checked true n p r l h = h
checked false n p r l h = refused n p l

picked : {A : Type 0} (t : Bool) (x y : Res A) → Numbered x → Numbered y → Numbered (pick t x y)
picked true x y h g = h
picked false x y h g = g

-- ---- the walk

emit-numbered : (t : List Node) (n : Node) → Numbered (emit t n)
unfolding emit
emit-numbered t n = checked (ltb (length t) 4096) 21 0 _ (omega arith) (taken _)

mutual
  unfolding express

  express-numbered : (held : ℕ → ℕ) (e : Expr) (t : List Node) → Numbered (express held e t)
  express-numbered held (variable v) t = taken _
  express-numbered held (constant w n) t = emit-numbered t _
  express-numbered held (unknown w) t = emit-numbered t _
  express-numbered held (unary o w a) t = bind (express held a t) _ (express-numbered held a t) (λ x. emit-numbered x.nodes _)
  express-numbered held (binary o w a b) t =
      bind (express held a t) _ (express-numbered held a t)
      (λ x. bind (express held b x.nodes) _ (express-numbered held b x.nodes) (λ y. emit-numbered y.nodes _))
  express-numbered held (conditional c a b) t =
      bind (express held c t) _ (express-numbered held c t)
      (λ x. bind (express held a x.nodes) _ (express-numbered held a x.nodes)
      (λ y. bind (express held b y.nodes) _ (express-numbered held b y.nodes) (λ z. emit-numbered z.nodes _)))
  express-numbered held (call n w ys b) t =
      bind (express_all held ys t) _ (all-numbered held ys t)
      (λ x. bind (emit x.nodes _) _ (emit-numbered x.nodes _)
      (λ y. follow-numbered x.all b ends (λ r u. taken _) y.node y.nodes))

  all-numbered : (held : ℕ → ℕ) (ys : Arguments) (t : List Node) → Numbered (express_all held ys t)
  all-numbered held no_more t = taken _
  all-numbered held (argument e ys) t =
      bind (express held e t) _ (express-numbered held e t)
      (λ x. bind (express_all held ys x.nodes) _ (all-numbered held ys x.nodes) (λ y. taken _))

  follow-numbered : (ys : List ℕ) (b : Body) (next : ℕ → List Node → Res Emitted) → ((r : ℕ) (t : List Node) → Numbered (next r t)) →
      (r : ℕ) (t : List Node) → Numbered (follow ys b next r t)
  follow-numbered ys nothing next on r t = on r t
  follow-numbered ys (result e) next on r t =
      bind (express (held_in ys r) e t) _ (express-numbered (held_in ys r) e t) (λ x. on x.node x.nodes)
  follow-numbered ys (in_turn a b) next on r t =
      follow-numbered ys a (follow ys b next) (λ s u. follow-numbered ys b next on s u) r t
  follow-numbered ys (if_then e a) next on r t =
      bind (express (held_in ys r) e t) _ (express-numbered (held_in ys r) e t)
      (λ c. bind (follow ys a next r c.nodes) _ (follow-numbered ys a next on r c.nodes)
      (λ x. bind (next r x.nodes) _ (on r x.nodes) (λ y. emit-numbered y.nodes _)))
  follow-numbered ys (if_else e a b) next on r t =
      bind (express (held_in ys r) e t) _ (express-numbered (held_in ys r) e t)
      (λ c. bind (follow ys a next r c.nodes) _ (follow-numbered ys a next on r c.nodes)
      (λ x. bind (follow ys b next r x.nodes) _ (follow-numbered ys b next on r x.nodes) (λ y. emit-numbered y.nodes _)))

module _ (m : Module Expr) (i : ℕ) where
  merge-numbered : (c : ℕ) (a b : List ℕ) (n : ℕ) (t : List Node) → Numbered (merge m i c a b n t)
  unfolding merge merge_one
  merge-numbered c a b zero t = taken _
  merge-numbered c a b (suc n) t =
      bind (merge m i c a b n t) _ (merge-numbered c a b n t)
      (λ x. picked (writes m i (m.scope.inputs + n)) _ _ (bind (emit x.nodes _) _ (emit-numbered x.nodes _) (λ y. taken _)) (taken _))

  visit-numbered : (next : ℕ → Held → List Node → Res Walked) → ((p : ℕ) (h : Held) (t : List Node) → Numbered (next p h t)) →
      (p : ℕ) (h : Held) (t : List Node) (q : Instr Expr) → Numbered (visit m i next p h t q)
  unfolding visit
  visit-numbered next on p h t (wait! ts) = bind (emit t _) _ (emit-numbered t _) (λ y. taken _)
  visit-numbered next on p h t (set! v e) = bind (express _ e t) _ (express-numbered _ e t) (λ x. on _ _ _)
  visit-numbered next on p h t (later! v e) = bind (express _ e t) _ (express-numbered _ e t) (λ x. on _ _ _)
  visit-numbered next on p h t (go g) = on g h t
  visit-numbered next on p h t (ifnot e g) =
      bind (express _ e t) _ (express-numbered _ e t)
      (λ c. bind (next (p + 1) h c.nodes) _ (on _ _ _)
      (λ a. bind (next g h a.nodes) _ (on _ _ _)
      (λ b. bind (merge m i c.node a.registers b.registers 32 b.nodes) _ (merge-numbered _ _ _ 32 _)
      (λ x. bind (emit x.nodes _) _ (emit-numbered x.nodes _) (λ y. taken _)))))

  walk-numbered : (n p : ℕ) (h : Held) (t : List Node) → Numbered (walk m i n p h t)
  unfolding walk
  walk-numbered zero p h t = taken _
  walk-numbered (suc n) p h t = visit-numbered (walk m i n) (walk-numbered n) p h t (instr_at (code_of m i) p)

-- ---- extraction

module _ (m : Module Expr) where
  walks-numbered : (i n : ℕ) (T : Tables) → Numbered (walks_below m i n T)
  unfolding walks_below walk_from
  walks-numbered i zero T = taken T
  walks-numbered i (suc p) T =
      bind (walks_below m i p T) _ (walks-numbered i p T)
      (λ U. picked (is_wait (instr_at (code_of m i) p)) _ _ (bind (walk m i _ _ _ U.nodes) _ (walk-numbered m i _ _ _ _) (λ w. taken _)) (taken U))

  threads-numbered : (i : ℕ) → Numbered (threads_below m i)
  unfolding threads_below
  threads-numbered zero = taken _
  threads-numbered (suc i) = bind (threads_below m i) _ (threads-numbered i) (λ T. walks-numbered i _ T)

  extracted-numbered : Numbered (extracted m)
  unfolding extracted
  extracted-numbered = by (ℕ_discrete (rule m) 0)
    where
      by : Dec (rule m ≡ 0) → Numbered (check (eqb (rule m) 0) (rule m) 0 >> threads_below m (length m.threads))
      by (yes z) = rw (eq-eqb (rule m) 0 z) (threads-numbered (length m.threads))
      by (Prim.no z) = checked (eqb (rule m) 0) (rule m) 0 _ (omega arith) (threads-numbered (length m.threads))

  -- Accepted, no rule is broken, and the walks went through.
  pub extracted-rule : {T : Tables} → extracted m ≡ ok T → rule m ≡ 0
  unfolding extracted
  extracted-rule {T} h = by (ℕ_discrete (rule m) 0)
    where
      by : Dec (rule m ≡ 0) → rule m ≡ 0
      by (yes z) = z
      by (Prim.no z) = let f : no (rule m) 0 ≡ ok T = rw (ne_eqb (rule m) 0 z) at h in let o : ◌≡◌ {A = ℕ} 0 1 = cc in absurd (omega arith)

  pub extracted-walks : {T : Tables} → extracted m ≡ ok T → threads_below m (length m.threads) ≡ ok T
  unfolding extracted
  extracted-walks h = rw (eq-eqb (rule m) 0 (extracted-rule h)) at h

read-numbered : (s : List ℕ) → Numbered (read s)
unfolding read
read-numbered s = bind (read_sheet (tree s) s) _ (by (read_sheet (tree s) s) refl) (λ r. taken _)
  where
    by : (x : Res (Sheet Expr)) → read_sheet (tree s) s ≡ x → Numbered x
    by (ok x) h = taken x
    by (no n p) h = refused n p (numbered-no (sheet-numbered (tree s) (tree-numbered s) s) h).0

-- ---- accepted

pub record Accepted (s ns rs : List ℕ) : Type 0 where
  pub contents : Module Expr
  pub tables : Tables
  pub reads : read s ≡ ok contents
  pub extracts : extracted contents ≡ ok tables
  pub lengths : right_lengths ns rs ≡ true
  pub nodes : (extract s ns rs).nodes ≡ padded 16384 (all_words tables.nodes)
  pub rows : (extract s ns rs).rows ≡ padded 1056 tables.rows

pub accepted : (s ns rs : List ℕ) → (extract s ns rs).number ≡ 0 → Accepted s ns rs
unfolding extract expressions filled
accepted s ns rs h = long (right_lengths ns rs) refl
  where
    tabled : (m : Module Expr) → read s ≡ ok m → right_lengths ns rs ≡ true → (x : Res Tables) → extracted m ≡ x → Accepted s ns rs
    tabled m e l (ok T) q = record { contents = m; tables = T; reads = e; extracts = q; lengths = l; nodes = rw (l, e, q); rows = rw (l, e, q) }
    tabled m e l (no n p) q = let z = number-some (extracted-numbered m) q in let f : n ≡ 0 = rw (l, e, q) at h in absurd (omega arith)

    sheet : right_lengths ns rs ≡ true → (x : Res (Module Expr)) → read s ≡ x → Accepted s ns rs
    sheet l (ok m) e = tabled m e l (extracted m) refl
    sheet l (no n p) e = let z = number-some (read-numbered s) e in let f : n ≡ 0 = rw (l, e) at h in absurd (omega arith)

    long : (t : Bool) → right_lengths ns rs ≡ t → Accepted s ns rs
    long true l = sheet l (read s) refl
    long false l = let f : ◌≡◌ {A = ℕ} 23 0 = rw l at h in absurd (omega arith)

-- ---- when it accepts, both ways

accepts : (s ns rs : List ℕ) → Acceptable s ns rs → (extract s ns rs).number ≡ 0
unfolding extract expressions extracted filled
accepts s ns rs a = rw (a.lengths, a.reads, eq-eqb (rule a.contents) 0 a.unbroken, a.walks) refl

pub accepts-exactly : AcceptsExactly
accepts-exactly s ns rs = (acceptable, accepts s ns rs)
  where
    acceptable : (extract s ns rs).number ≡ 0 → Acceptable s ns rs
    acceptable h =
        let A = accepted s ns rs h in
        record {
          lengths = A.lengths;
          contents = A.contents;
          reads = A.reads;
          unbroken = extracted-rule A.contents A.extracts;
          tables = A.tables;
          walks = extracted-walks A.contents A.extracts;
        }
