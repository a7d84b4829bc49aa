-- The code's walk is nextstate's `walk`, in words, for a thread of an accepted sheet. Assumes nothing.
use mathlib.Core.Path.{◌≡◌, refl, sym, ap, ◌∙◌}
use mathlib.Core.Bool.{false}
use mathlib.Core.List.{List, ◌++◌, append-nil}
use Prim.Native.Nat.{ℕ, zero, suc, ◌+◌, ◌-◌, ◌/◌, ◌%◌, ◌≤◌, ◌<◌}
use native.Mathlib.Omega.{arith}
use lib.ListN.{length, get_or, set, length-set, drop_of_length-le}
use borrow.Author.Tests.{le-ltb}
use Rattle.sheet.specs.Reading.{Res, ok, no, ◌>>=◌}
use Rattle.sheet.specs.Expression.{Expr}
use Rattle.sheet.specs.Module.{Module}
use Rattle.soundness.specs.Soundness.{SoundInstr, sound-set, sound-later, sound-go, sound-ifnot, SoundCode}
use Rattle.masks.specs.Masks.{bits}
use Rattle.pseudocode.specs.Translation.{Instr, set!, later!, ifnot}
use Rattle.pseudocode.specs.declared.Instruction.{Instruction}
use Rattle.pseudocode.specs.Fetching.{fetch_at}
use Rattle.pseudocode.proofs.Filling.{after-in}
use Rattle.events.specs.Cycle.{code_of, instr_at}
use Rattle.nextstate.specs.Rules.{defers, writes}
use Rattle.nextstate.specs.Nodes.{Node, a_constant, a_branch, four_words, node_words}
use Rattle.nextstate.specs.Walk as the-walk
use Rattle.nextstate.specs.Walk.{Emitted, emit, Held, held_node, landed, merge, visit, walk}
use Rattle.tables.proofs.Marking.{ReadAt}
use Rattle.extraction.specs.declared.Thread.{Thread}
use Rattle.extraction.specs.declared.Walked.{Walked}
use Rattle.extraction.specs.Emitting.{emit_words, emit_count, Expression, made}
use Rattle.extraction.specs.Walking.{put_at, Walking, walking, walked, join_at, ended, wait_at, assign_at, branch_at, act_at, visit_at, walk_at}
use Rattle.extraction.proofs.Emitting.{count-full}
use Rattle.extraction.proofs.Words.{table_of}
use Rattle.extraction.proofs.Expressing.{Outcome, fine, full, emit-outcome, express-outcome}
use Rattle.extraction.proofs.Placing.{Fetched, a-wait!, a-set!, a-later!, a-go, an-ifnot}
use Rattle.extraction.proofs.Merging.{emit-number, branch_outcome, Merged, all, over, merge-below, join-full}
use Rattle.extraction.proofs.Holding.{rows_of, put-current, put-later, held-nodes, landed-same, length-landed}

-- ---- what the code leaves, beside what the definition says

pub record Arrives (w : Walking) (x : the-walk.Walked) : Type 0 where
  pub same : w ≡ walking (walked (length x.nodes) x.place x.registers) (table_of x.nodes)
  pub room : length x.nodes ≤ 4096
  pub long : length x.registers ≡ 32

pub data Ends (w : Walking) : Res the-walk.Walked → Type 0 where
  arrives : {x : the-walk.Walked} → Arrives w x → Ends w (ok x)
  too_many : w.answer.count ≡ 4097 → Ends w (no 21 0)

-- ---- one after the other

-- After an expression: `f` goes on with the node, the count and the words.
after-expression : {o : Res Emitted} {x : Expression} {q : ℕ} (k : Emitted → Res the-walk.Walked) (f : ℕ → ℕ → List ℕ → Walking) → Outcome x q o
    → ((e : Emitted) → length e.nodes ≤ 4096 → Ends (f e.node (length e.nodes) (table_of e.nodes)) (k e))
    → ((j : ℕ) (l : List ℕ) → (f j 4097 l).answer.count ≡ 4097)
    → Ends (f x.answer.node x.answer.count x.words) (o >>= k)
after-expression k f (fine {e = e} v) onward more = rw v.same (onward e v.room)
after-expression {x = x} k f (full v) onward more = too_many (rw v.count (more x.answer.node x.words))

-- After a walk: `f` goes on with what it left.
after-walk : {o : Res the-walk.Walked} {w : Walking} (k : the-walk.Walked → Res the-walk.Walked) (f : Walking → Walking) → Ends w o
    → ((x : the-walk.Walked) → length x.nodes ≤ 4096 → length x.registers ≡ 32
    → Ends (f (walking (walked (length x.nodes) x.place x.registers) (table_of x.nodes))) (k x))
    → ((w : Walking) → w.answer.count ≡ 4097 → (f w).answer.count ≡ 4097)
    → Ends (f w) (o >>= k)
after-walk k f (arrives {x = x} v) onward more = rw v.same (onward x v.room v.long)
after-walk {w = w} k f (too_many e) onward more = too_many (more w e)

-- The last node is the place's.
placed : (n : ℕ) (row : List ℕ) → length row ≡ 32 → {o : Res Emitted} {g : Expression} {q : ℕ} → Outcome g q o → ((e : Emitted) → o ≡ ok e → e.node ≡ n)
    → Ends (walking (walked g.answer.count n row) g.words) (o >>= λ y. ok (record { nodes = y.nodes; registers = row; place = y.node }))
placed n row long (fine {e = e} v) number =
    let own = sym (number e refl) in
    arrives
    (record {
      same =
          (λ j. let g = v.same j in walking (walked g.answer.count n row) g.words)
          ∙ (λ j. walking (walked (length e.nodes) (own j) row) (table_of e.nodes));
      room = v.room;
      long = long;
    })
placed n row long (full v) number = too_many v.count

-- After the registers are merged.
joined : (c pa pb : ℕ) (ra : List ℕ) → length ra ≡ 32 → {o : Res the-walk.Merged} {w : Walking} → Merged ra 32 w o
    → let n = w.answer.count in
    Ends (walking (walked (emit_count n) n w.answer.registers) (emit_words n 40 c pa pb w.words))
    (o >>= λ x. emit x.nodes (a_branch c pa pb) >>= λ y. ok (record { nodes = y.nodes; registers = x.registers; place = y.node }))
joined c pa pb ra long (all {x = x} v) =
    let e = ap (λ (l : List ℕ). x.registers ++ l) (drop_of_length-le ra {i = 32} (omega arith)) ∙ append-nil x.registers in
    rw (v.same, e)
    (placed (length x.nodes) x.registers v.count (branch_outcome x.nodes c pa pb v.room) (emit-number x.nodes (a_branch c pa pb)))
joined c pa pb ra long {w = w} (over e) = too_many (rw e (count-full 4097 (omega arith)))

-- ---- too many nodes stay too many

pub walk-stays : (s code : List ℕ) (t : Thread) (f p : ℕ) (h : List (List ℕ)) (l : List ℕ) → (walk_at s code t f p h 4097 l).answer.count ≡ 4097
unfolding walk_at ended
walk-stays s code t zero p h l = refl
walk-stays s code t (suc f) p h l = refl

-- ---- one instruction of thread i, whose masks are those of the registers that it writes and assigns later

module _ (m : Module Expr) (i written deferred : ℕ) (few : m.scope.registers ≤ 32)
    (writing : (r : ℕ) → r < 32 → get_or (bits written) r false ≡ writes m i (m.scope.inputs + r))
    (deferring : (r : ℕ) → r < 32 → get_or (bits deferred) r false ≡ defers m i (m.scope.inputs + r))
    (s : List ℕ) (none : m.scope.declared ≡ 0) where
  abbrev pub thread : Thread
  thread = record { number = i; inputs = m.scope.inputs; registers = m.scope.registers; written = written; deferred = deferred }

  -- Rows of 32.
  pub record Long (h : Held) : Type 0 where
    pub current : length h.current ≡ 32
    pub later : length h.later ≡ 32

  module _ (next : ℕ → Held → List Node → Res the-walk.Walked) (next_at : ℕ → List (List ℕ) → ℕ → List ℕ → Walking) (size : ℕ) (most : size ≤ 256)
      (goes : (p : ℕ) (h : Held) (t : List Node) → Long h → p < size → length t ≤ 4096 → Ends (next_at p (rows_of h) (length t) (table_of t)) (next p h t))
      (stays : (p : ℕ) (h : List (List ℕ)) (l : List ℕ) → (next_at p h 4097 l).answer.count ≡ 4097)
      (p : ℕ) (h : Held) (t : List Node) (long : Long h) (inside : p < size) (room : length t ≤ 4096) where
    -- ---- "the next place as an 8-bit constant at the walk's end"

    visit-wait : Ends (wait_at thread p (rows_of h) (length t) (table_of t))
        (emit t (a_constant 8 p) >>= λ y. ok (record { nodes = y.nodes; registers = landed m i h; place = y.node }))
    unfolding wait_at made node_words
    visit-wait =
        let high : p / 65536 ≡ 0 = omega arith in
        rw (landed-same m i deferred deferring h long.current)
        (placed (length t) (landed m i h) (length-landed m i deferred deferring h)
        (emit-outcome t (a_constant 8 p) 0 1 8 (p % 65536) 0 (ap (four_words 1 8 (p % 65536)) high) room)
        (emit-number t (a_constant 8 p)))

    -- ---- assignments

    visit-set : (v e : ℕ) {x : Expr} → ReadAt m.scope s x e → m.scope.inputs ≤ v → v < m.scope.inputs + m.scope.registers → p + 1 < size
        → Ends (assign_at s thread next_at 0 v e p (rows_of h) (length t) (table_of t)) (visit m i next p h t (set! v x))
    unfolding assign_at visit
    visit-set v e {x} (q, reads, same) low high further =
        let r = v - m.scope.inputs in
        let l : r < 32 = omega arith in
        rw (held-nodes m few h.current, after-in p (omega arith), ← same)
        (after-expression
        (λ y. next (p + 1) (record { current = set h.current r y.node; later = h.later }) y.nodes)
        (λ j n l. next_at (p + 1) (put_at (rows_of h) 0 r j) n l)
        (express-outcome (held_node m h.current) none reads t room)
        (λ y k. rw (put-current h r y.node l)
        (goes (p + 1) (record { current = set h.current r y.node; later = h.later }) y.nodes
        (record { current = length-set h.current r y.node ∙ long.current; later = long.later }) further k))
        (λ j l. stays (p + 1) (put_at (rows_of h) 0 r j) l))

    visit-later : (v e : ℕ) {x : Expr} → ReadAt m.scope s x e → m.scope.inputs ≤ v → v < m.scope.inputs + m.scope.registers → p + 1 < size
        → Ends (assign_at s thread next_at 1 v e p (rows_of h) (length t) (table_of t)) (visit m i next p h t (later! v x))
    unfolding assign_at visit
    visit-later v e {x} (q, reads, same) low high further =
        let r = v - m.scope.inputs in
        let l : r < 32 = omega arith in
        rw (held-nodes m few h.current, after-in p (omega arith), ← same)
        (after-expression
        (λ y. next (p + 1) (record { current = h.current; later = set h.later r y.node }) y.nodes)
        (λ j n l. next_at (p + 1) (put_at (rows_of h) 1 r j) n l)
        (express-outcome (held_node m h.current) none reads t room)
        (λ y k. rw (put-later h r y.node l)
        (goes (p + 1) (record { current = h.current; later = set h.later r y.node }) y.nodes
        (record { current = long.current; later = length-set h.later r y.node ∙ long.later }) further k))
        (λ j l. stays (p + 1) (put_at (rows_of h) 1 r j) l))

    -- ---- a branch: the condition's node is c

    visit-join : (c : ℕ) (a b : the-walk.Walked) (n : ℕ) → length a.registers ≡ 32 → length b.nodes ≤ 4096
        → Ends (join_at written c (walked n a.place a.registers) (walked (length b.nodes) b.place b.registers) (table_of b.nodes))
        (merge m i c a.registers b.registers 32 b.nodes
        >>= λ x. emit x.nodes (a_branch c a.place b.place)
        >>= λ y. ok (record { nodes = y.nodes; registers = x.registers; place = y.node }))
    unfolding join_at
    visit-join c a b n la rb =
        joined c a.place b.place a.registers la
        (merge-below m i written writing c (walked n a.place a.registers) (walked (length b.nodes) b.place b.registers) la
        b.nodes refl rb 32 (omega arith))

    visit-branch : (g e : ℕ) {x : Expr} → ReadAt m.scope s x e → p + 1 < size → g < size
        → Ends (branch_at s thread next_at g e p (rows_of h) (length t) (table_of t)) (visit m i next p h t (ifnot x g))
    unfolding branch_at visit
    visit-branch g e {x} (q, reads, same) further beyond =
        rw (held-nodes m few h.current, after-in p (omega arith), ← same)
        (after-expression _
        (λ j n l. let a = next_at (p + 1) (rows_of h) n l in
        let b = next_at g (rows_of h) a.answer.count a.words in
        join_at written j a.answer b.answer b.words)
        (express-outcome (held_node m h.current) none reads t room)
        (λ c k. after-walk _
        (λ w. let b = next_at g (rows_of h) w.answer.count w.words in join_at written c.node w.answer b.answer b.words)
        (goes (p + 1) h c.nodes long further k)
        (λ a ra la. after-walk _
        (λ w. join_at written c.node (walked (length a.nodes) a.place a.registers) w.answer w.words)
        (goes g h a.nodes long beyond ra)
        (λ b rb lb. visit-join c.node a b (length a.nodes) la rb)
        (λ w f. join-full written c.node (walked (length a.nodes) a.place a.registers) w.answer f w.words))
        (λ w f. second-full c.node w f))
        (λ j l. second-full j (next_at (p + 1) (rows_of h) 4097 l) (stays (p + 1) (rows_of h) l)))
      where
        second-full : (c : ℕ) (w : Walking) → w.answer.count ≡ 4097
            → let b = next_at g (rows_of h) w.answer.count w.words in (join_at written c w.answer b.answer b.words).answer.count ≡ 4097
        second-full c w f =
            let b = next_at g (rows_of h) w.answer.count w.words in
            join-full written c w.answer b.answer (rw f (stays g (rows_of h) w.words)) b.words

    -- ---- each instruction

    pub visits : {j : Instr Expr} {u : Instruction} → Fetched m.scope s j u → SoundInstr m.scope size p j
        → Ends (visit_at s thread next_at p (rows_of h) (length t) (table_of t) u) (visit m i next p h t j)
    unfolding visit_at act_at visit
    visits a-wait! x = visit-wait
    visits (a-set! {t = v} {p = e} r) (sound-set further x) = visit-set v e r x.not-input x.register further
    visits (a-later! {t = v} {p = e} r) (sound-later further x) = visit-later v e r x.not-input x.register further
    visits (a-go {g = g}) (sound-go beyond) = goes g h t long beyond room
    visits (an-ifnot {g = g} {p = e} r) (sound-ifnot w further beyond x) = visit-branch g e r further beyond

  -- ---- the walk

  module _ (code : List ℕ) (sound : SoundCode m.scope (code_of m i))
      (fetched : (p : ℕ) → p < length (code_of m i) → Fetched m.scope s (instr_at (code_of m i) p) (fetch_at s code i p)) where
    pub walks : (f p : ℕ) (h : Held) (t : List Node) → Long h → p < length (code_of m i) → length t ≤ 4096
        → Ends (walk_at s code thread f p (rows_of h) (length t) (table_of t)) (walk m i f p h t)
    unfolding walk_at walk ended instr_at
    walks zero p h t long inside room = arrives (record { same = refl; room = room; long = long.current })
    walks (suc f) p h t long inside room =
        rw (le-ltb 4096 (length t) room)
        (visits (walk m i f) (walk_at s code thread f) (length (code_of m i)) sound.most (walks f) (walk-stays s code thread f) p h t long inside room
        (fetched p inside) (sound.instruction p inside))
