-- Two legs joined: a branch node for each register that the thread writes, as nextstate's `merge` makes them. Assumes nothing.
use mathlib.Core.Path.{◌≡◌, refl, sym, ap, ◌∙◌}
use mathlib.Core.Bool.{Bool, true, false}
use mathlib.Core.List.{List, [], ◌∷◌, ◌++◌}
use Prim.Native.Nat.{ℕ, zero, suc, ◌+◌, ◌≤◌, ◌<◌}
use native.Mathlib.Omega.{arith}
use lib.Dec.{ltb}
use lib.ListN.{length, get_or, set, drop, length-append}
use lib.Seq.{set_at, append_snoc, drop-cons}
use Rattle.values.specs.Values.{pick}
use Rattle.sheet.specs.Reading.{Res, ok, no, ◌>>=◌}
use Rattle.sheet.specs.Expression.{Expr}
use Rattle.sheet.specs.Module.{Module}
use Rattle.sheet.proofs.Reading.{check-ok, ok-injective}
use Rattle.masks.specs.Masks.{bits}
use Rattle.nextstate.specs.Rules.{writes}
use Rattle.nextstate.specs.Nodes.{Node, a_branch, node_words}
use Rattle.nextstate.specs.Walk as the-walk
use Rattle.nextstate.specs.Walk.{Emitted, emit}
use Rattle.extraction.specs.declared.Walked.{Walked}
use Rattle.extraction.specs.Emitting.{emit_words, emit_count, Expression, expression, expressed, made}
use Rattle.extraction.specs.Walking.{Walking, walking, walked, merging, merged, merge_node, merge_one, merge_below, join_at}
use Rattle.extraction.proofs.Words.{table_of}
use Rattle.extraction.proofs.Expressing.{Outcome, fine, full, emit-outcome}

-- ---- a row: the next item in place

pub row-turn : (a xs : List ℕ) (r x : ℕ) → length xs ≡ r → r < length a → set (xs ++ drop r a) r x ≡ (xs ++ (x ∷ [])) ++ drop (suc r) a
row-turn a xs r x e h =
    ap (λ (l : List ℕ). set (xs ++ l) r x) (drop-cons a r 0 h)
    ∙ set_at xs (get_or a r 0) (drop (suc r) a) x r e
    ∙ sym (append_snoc xs x (drop (suc r) a))

-- ---- a new node, and its number

pub emit-number : (t : List Node) (n : Node) (e : Emitted) → emit t n ≡ ok e → e.node ≡ length t
unfolding emit
emit-number t n e h = ap (λ (e : Emitted). e.node) (sym (ok-injective (check-ok (ltb (length t) 4096) 21 0 _ h).1))

pub branch_outcome : (t : List Node) (c a b : ℕ) → length t ≤ 4096
    → Outcome (expression (expressed 0 (length t) (emit_count (length t))) (emit_words (length t) 40 c a b (table_of t))) 0 (emit t (a_branch c a b))
unfolding made node_words
branch_outcome t c a b room = emit-outcome t (a_branch c a b) 0 40 c a b refl room

-- ---- what the code leaves, beside what the definition says, of the registers below n; the others are those of row a

pub record Merges (a : List ℕ) (n : ℕ) (w : Walking) (x : the-walk.Merged) : Type 0 where
  pub same : w ≡ walking (walked (length x.nodes) 0 (x.registers ++ drop n a)) (table_of x.nodes)
  pub room : length x.nodes ≤ 4096
  pub count : length x.registers ≡ n

pub data Merged (a : List ℕ) (n : ℕ) (w : Walking) : Res the-walk.Merged → Type 0 where
  all : {x : the-walk.Merged} → Merges a n w x → Merged a n w (ok x)
  over : w.answer.count ≡ 4097 → Merged a n w (no 21 0)

-- ---- where the second leg left too many nodes

module _ (written c : ℕ) (a b : Walked) where
  one-full : (r : ℕ) (w : Walking) → w.answer.count ≡ 4097 → (merge_one written c a b r w).answer.count ≡ 4097
  unfolding merge_one merge_node emit_count
  one-full r w e = by (get_or (bits written) r false)
    where
      by : (t : Bool) → (pick t (merging (merged w.answer.count (emit_count w.answer.count)) (emit_words w.answer.count 40 c (get_or a.registers r 0) (get_or b.registers r 0) w.words))
          (merging (merged (get_or a.registers r 0) w.answer.count) w.words)).answer.count ≡ 4097
      by true = rw e refl
      by false = e

  merge-full : b.count ≡ 4097 → (n : ℕ) (l : List ℕ) → (merge_below written c a b n l).answer.count ≡ 4097
  unfolding merge_below
  merge-full e zero l = e
  merge-full e (suc n) l = one-full n (merge_below written c a b n l) (merge-full e n l)

  pub join-full : b.count ≡ 4097 → (l : List ℕ) → (join_at written c a b l).answer.count ≡ 4097
  unfolding join_at emit_count
  join-full e l = rw (merge-full e 32 l) refl

-- ---- all registers

module _ (m : Module Expr) (i written : ℕ) (mask : (r : ℕ) → r < 32 → get_or (bits written) r false ≡ writes m i (m.scope.inputs + r))
    (c : ℕ) (a b : Walked) (long : length a.registers ≡ 32) where
  abbrev ra : List ℕ
  ra = a.registers

  abbrev rb : List ℕ
  rb = b.registers

  -- ---- one register

  module _ (r : ℕ) (x : the-walk.Merged) (h : r < 32) (room : length x.nodes ≤ 4096) (count : length x.registers ≡ r) where
    abbrev before : Walking
    before = walking (walked (length x.nodes) 0 (x.registers ++ drop r ra)) (table_of x.nodes)

    -- A register that is written takes the new node.
    abbrev stored : Expression → Walking
    stored g = walking (walked g.answer.count 0 (set (x.registers ++ drop r ra) r (length x.nodes))) g.words

    written_one : {o : Res Emitted} {g : Expression} → Outcome g 0 o → ((e : Emitted) → o ≡ ok e → e.node ≡ length x.nodes)
        → Merged ra (suc r) (stored g) (o >>= λ y. ok (record { nodes = y.nodes; registers = x.registers ++ (y.node ∷ []) }))
    written_one (fine {e = e} v) node =
        let turn = row-turn ra x.registers r (length x.nodes) count (omega arith) in
        let own = sym (node e refl) in
        all
        (record {
          same =
              (λ j. stored (v.same j))
              ∙ (λ j. walking (walked (length e.nodes) 0 (turn j)) (table_of e.nodes))
              ∙ (λ j. walking (walked (length e.nodes) 0 ((x.registers ++ (own j ∷ [])) ++ drop (suc r) ra)) (table_of e.nodes));
          room = v.room;
          count = length-append x.registers (e.node ∷ []) ∙ omega arith;
        })
    written_one (full v) node = over v.count

    -- Any other keeps the node of the first leg.
    kept-one : Merged ra (suc r) (walking (walked (length x.nodes) 0 (set (x.registers ++ drop r ra) r (get_or ra r 0))) (table_of x.nodes))
        (ok (record { nodes = x.nodes; registers = x.registers ++ (get_or ra r 0 ∷ []) }))
    kept-one =
        let turn = row-turn ra x.registers r (get_or ra r 0) count (omega arith) in
        all
        (record {
          same = λ j. walking (walked (length x.nodes) 0 (turn j)) (table_of x.nodes);
          room = room;
          count = length-append x.registers (get_or ra r 0 ∷ []) ∙ omega arith;
        })

    merge-one : Merged ra (suc r) (merge_one written c a b r before) (the-walk.merge_one m i c ra rb r x)
    unfolding merge_one merge_node the-walk.merge_one node_words
    merge-one = rw (mask r h) (by (writes m i (m.scope.inputs + r)))
      where
        n : ℕ
        n = length x.nodes

        new : Node
        new = a_branch c (get_or ra r 0) (get_or rb r 0)

        by : (t : Bool)
            → let g = pick t (merging (merged n (emit_count n)) (emit_words n 40 c (get_or ra r 0) (get_or rb r 0) (table_of x.nodes)))
            (merging (merged (get_or ra r 0) n) (table_of x.nodes)) in
            Merged ra (suc r) (walking (walked g.answer.count 0 (set (x.registers ++ drop r ra) r g.answer.node)) g.words)
            (pick t (emit x.nodes new >>= λ y. ok (record { nodes = y.nodes; registers = x.registers ++ (y.node ∷ []) }))
            (ok (record { nodes = x.nodes; registers = x.registers ++ (get_or ra r 0 ∷ []) })))
        by true = written_one (branch_outcome x.nodes c (get_or ra r 0) (get_or rb r 0) room) (emit-number x.nodes new)
        by false = kept-one

  -- ---- the registers below n, on a table of these nodes

  module _ (t : List Node) (held : b.count ≡ length t) (room : length t ≤ 4096) where
    merge-then : (r : ℕ) → r < 32 → {o : Res the-walk.Merged} {w : Walking} → Merged ra r w o
        → Merged ra (suc r) (merge_one written c a b r w) (o >>= the-walk.merge_one m i c ra rb r)
    merge-then r h (all {x = x} v) = rw v.same (merge-one r x h v.room v.count)
    merge-then r h {w = w} (over e) = over (one-full written c a b r w e)

    pub merge-below : (n : ℕ) → n ≤ 32 → Merged ra n (merge_below written c a b n (table_of t)) (the-walk.merge m i c ra rb n t)
    unfolding merge_below the-walk.merge
    merge-below zero h =
        all (record { same = λ j. walking (walked (held j) 0 ra) (table_of t); room = room; count = refl })
    merge-below (suc n) h = merge-then n h (merge-below n (omega arith))
