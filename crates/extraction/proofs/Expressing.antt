-- Where the reader accepted an expression, the code's nodes for it are nextstate's `express` of its tree, in words. Assumes nothing.
use mathlib.Core.Path.{◌≡◌, refl, sym, ◌∙◌}
use mathlib.Core.Bool.{Bool, true, false}
use mathlib.Core.List.{List, [], ◌∷◌, ◌++◌}
use Prim.Native.Nat.{ℕ, ◌+◌, ◌/◌, ◌%◌, ◌≤◌}
use native.Mathlib.Omega.{arith}
use lib.Dec.{ltb}
use lib.ListN.{length, length-append}
use borrow.Author.Tests.{ltb-true, ltb-false}
use Rattle.sheet.specs.Reading.{Res, ok, no, ◌>>=◌, ◌>>◌, check}
use Rattle.sheet.specs.Expression.{Expr, Scope, Parsed}
use Rattle.sheet.proofs.Expression.{Reads, a-variable, a-constant, an-unknown, a-unary, a-binary, a-conditional, a-call}
use Rattle.nextstate.specs.Nodes.{Node, a_constant, an_unknown, a_unary, a_binary, a_conditional, four_words, node_words}
use Rattle.nextstate.specs.Walk.{Emitted, emit, express}
use Rattle.extraction.specs.Emitting.{emit_words, emit_count, Expression, expression, expressed, made}
use Rattle.extraction.specs.Emitting.{unary_at, binary_at, conditional_at, node_at, express_at}
use Rattle.extraction.proofs.Emitting.{count-more, count-full}
use Rattle.extraction.proofs.Words.{table_of, table_more}

-- ---- what the code leaves, beside what the definition says; the sheet goes on at `next`

-- Too many nodes.
pub record Full (x : Expression) (next : ℕ) : Type 0 where
  pub count : x.answer.count ≡ 4097
  pub goes_on : x.answer.next ≡ next

-- These nodes, and the number of one.
pub record Holds (x : Expression) (next : ℕ) (e : Emitted) : Type 0 where
  pub same : x ≡ expression (expressed next e.node (length e.nodes)) (table_of e.nodes)
  pub room : length e.nodes ≤ 4096

pub data Outcome (x : Expression) (next : ℕ) : Res Emitted → Type 0 where
  fine : {e : Emitted} → Holds x next e → Outcome x next (ok e)
  full : Full x next → Outcome x next (no 21 0)

-- ---- one after the other; `f` goes on with the place in the sheet, the node, the count and the words

full-then : {x : Expression} {q next : ℕ} (f : ℕ → ℕ → ℕ → List ℕ → Expression) → Full x q → ((k : ℕ) (l : List ℕ) → Full (f q k 4097 l) next)
    → Full (f x.answer.next x.answer.node x.answer.count x.words) next
full-then {x} f a b = rw (a.count, a.goes_on) (b x.answer.node x.words)

outcome-then : {r : Res Emitted} {x : Expression} {q next : ℕ} (k : Emitted → Res Emitted) (f : ℕ → ℕ → ℕ → List ℕ → Expression) → Outcome x q r
    → ((e : Emitted) → length e.nodes ≤ 4096 → Outcome (f q e.node (length e.nodes) (table_of e.nodes)) next (k e))
    → ((j : ℕ) (l : List ℕ) → Full (f q j 4097 l) next)
    → Outcome (f x.answer.next x.answer.node x.answer.count x.words) next (r >>= k)
outcome-then k f (fine {e = e} a) go more = rw a.same (go e a.room)
outcome-then k f (full a) go more = full (full-then f a more)

-- ---- one node

made-full : (next k a b c : ℕ) (l : List ℕ) → Full (made next 4097 k a b c l) next
unfolding made emit_count
made-full next k a b c l = record { count = refl; goes_on = refl }

pub emit-outcome : (t : List Node) (n : Node) (next k a b c : ℕ) → node_words n ≡ four_words k a b c → length t ≤ 4096
    → Outcome (made next (length t) k a b c (table_of t)) next (emit t n)
unfolding emit made
emit-outcome t n next k a b c e h = by (ltb (length t) 4096) refl
  where
    x : Expression
    x = expression (expressed next (length t) (emit_count (length t))) (emit_words (length t) k a b c (table_of t))

    by : (v : Bool) → ltb (length t) 4096 ≡ v
        → Outcome x next (check v 21 0 >> ok (record { nodes = t ++ (n ∷ []); node = length t }))
    by true q =
        let l = ltb-true (length t) 4096 q in
        let m : emit_count (length t) ≡ length (t ++ (n ∷ [])) = count-more (length t) l ∙ sym (length-append t (n ∷ [])) in
        fine
        (record {
          same = λ i. expression (expressed next (length t) (m i)) (table_more t n k a b c e l i);
          room = omega (arith, length-append t (n ∷ []));
        })
    by false q = full (record { count = count-full (length t) (ltb-false (length t) 4096 q); goes_on = refl })

-- ---- expressions

-- In a sheet without functions: no call was read.
module _ (held : ℕ → ℕ) {c : Scope} {s : List ℕ} (none : c.declared ≡ 0) where
  -- An operand goes on from a full table.
  pub express-full : {d p : ℕ} {q : Parsed Expr} → Reads c s d p q → (l : List ℕ) → Full (express_at held d s p 4097 l) q.next
  unfolding express_at node_at unary_at binary_at conditional_at
  express-full (a-variable m h e l) t = rw (m, e) (record { count = refl; goes_on = refl })
  express-full {p = p} (a-constant {w = w} {v = v} m b h e l) t = rw (m, b.same, e) (made-full (p + 6) 1 w (v % 65536) (v / 65536) t)
  express-full {p = p} (an-unknown {w = w} m b) t = rw (m, b.same) (made-full (p + 2) 2 w 0 0 t)
  express-full (a-unary {o = o} m b a) t =
      rw (m, b.same) (full-then (λ q k n l. made q n (10 + o) k 0 0 l) (express-full a t) (λ k l. made-full _ (10 + o) k 0 0 l))
  express-full (a-binary {d = d} {o = o} {a = qa} m b x y e) t =
      rw (m, b.same)
      (full-then
      (λ q j n l. let z = express_at held d s q n l in made z.answer.next z.answer.count (10 + o) j z.answer.node 0 z.words)
      (express-full x t)
      (λ j l. full-then (λ q k n l. made q n (10 + o) j k 0 l) (express-full y l) (λ k l. made-full _ (10 + o) j k 0 l)))
  express-full (a-conditional {d = d} {o = o} m b c x y e) t =
      rw m
      (full-then
      (λ q i n l. let u = express_at held d s q n l in
      let z = express_at held d s u.answer.next u.answer.count u.words in
      made z.answer.next z.answer.count 20 i u.answer.node z.answer.node z.words)
      (express-full c t)
      (λ i l. full-then
      (λ q j n l. let z = express_at held d s q n l in made z.answer.next z.answer.count 20 i j z.answer.node z.words)
      (express-full x l)
      (λ j l. full-then (λ q k n l. made q n 20 i j k l) (express-full y l) (λ k l. made-full _ 20 i j k l))))
  express-full (a-call m h e l f es w) t = absurd (omega arith)

  pub express-outcome : {d p : ℕ} {q : Parsed Expr} → Reads c s d p q → (t : List Node) → length t ≤ 4096
      → Outcome (express_at held d s p (length t) (table_of t)) q.next (express held q.item t)
  unfolding express express_at node_at unary_at binary_at conditional_at node_words
  express-outcome (a-variable m h e l) t room = rw (m, e) (fine (record { same = refl; room = room }))
  express-outcome {p = p} (a-constant {w = w} {v = v} m b h e l) t room = rw (m, b.same, e) (emit-outcome t (a_constant w v) (p + 6) 1 w (v % 65536) (v / 65536) refl room)
  express-outcome {p = p} (an-unknown {w = w} m b) t room = rw (m, b.same) (emit-outcome t (an_unknown w) (p + 2) 2 w 0 0 refl room)
  express-outcome (a-unary {o = o} {a = qa} m b a) t room =
      rw (m, b.same)
      (outcome-then (λ x. emit x.nodes (a_unary o x.node)) (λ q k n l. made q n (10 + o) k 0 0 l)
      (express-outcome a t room)
      (λ x h. emit-outcome x.nodes (a_unary o x.node) _ (10 + o) x.node 0 0 refl h)
      (λ k l. made-full _ (10 + o) k 0 0 l))
  express-outcome (a-binary {d = d} {o = o} {a = qa} {b = qb} m b x y e) t room =
      rw (m, b.same)
      (outcome-then
      (λ u. express held qb.item u.nodes >>= λ z. emit z.nodes (a_binary o u.node z.node))
      (λ q j n l. let z = express_at held d s q n l in made z.answer.next z.answer.count (10 + o) j z.answer.node 0 z.words)
      (express-outcome x t room)
      (λ u h. outcome-then (λ z. emit z.nodes (a_binary o u.node z.node))
      (λ q k n l. made q n (10 + o) u.node k 0 l)
      (express-outcome y u.nodes h)
      (λ z g. emit-outcome z.nodes (a_binary o u.node z.node) _ (10 + o) u.node z.node 0 refl g)
      (λ k l. made-full _ (10 + o) u.node k 0 l))
      (λ j l. full-then (λ q k n l. made q n (10 + o) j k 0 l) (express-full y l) (λ k l. made-full _ (10 + o) j k 0 l)))
  express-outcome (a-conditional {d = d} {o = o} {q = qc} {a = qa} {b = qb} m b c x y e) t room =
      rw m
      (outcome-then
      (λ v. express held qa.item v.nodes >>= λ u. express held qb.item u.nodes >>= λ z. emit z.nodes (a_conditional v.node u.node z.node))
      (λ q i n l. let u = express_at held d s q n l in
      let z = express_at held d s u.answer.next u.answer.count u.words in
      made z.answer.next z.answer.count 20 i u.answer.node z.answer.node z.words)
      (express-outcome c t room)
      (λ v f. outcome-then
      (λ u. express held qb.item u.nodes >>= λ z. emit z.nodes (a_conditional v.node u.node z.node))
      (λ q j n l. let z = express_at held d s q n l in made z.answer.next z.answer.count 20 v.node j z.answer.node z.words)
      (express-outcome x v.nodes f)
      (λ u h. outcome-then (λ z. emit z.nodes (a_conditional v.node u.node z.node))
      (λ q k n l. made q n 20 v.node u.node k l)
      (express-outcome y u.nodes h)
      (λ z g. emit-outcome z.nodes (a_conditional v.node u.node z.node) _ 20 v.node u.node z.node refl g)
      (λ k l. made-full _ 20 v.node u.node k l))
      (λ j l. full-then (λ q k n l. made q n 20 v.node j k l) (express-full y l) (λ k l. made-full _ 20 v.node j k l)))
      (λ i l. full-then
      (λ q j n l. let z = express_at held d s q n l in made z.answer.next z.answer.count 20 i j z.answer.node z.words)
      (express-full x l)
      (λ j l. full-then (λ q k n l. made q n 20 i j k l) (express-full y l) (λ k l. made-full _ 20 i j k l))))
  express-outcome (a-call m h e l f es w) t room = absurd (omega arith)
