-- The walk from a wait to the next, as the code makes it: on bytes, code words and a node table of any contents.
-- proofs/Walks ties it to nextstate's `walk`.
use Rattle.std.specs.Prelude.{ℕ, zero, suc, ◌+◌, ◌-◌, ◌%◌, false, List, [], get_or, set, replicate, ltb}
use Rattle.values.specs.Values.{pick}
use Rattle.pseudocode.specs.declared.Action.{Action}
use Rattle.pseudocode.specs.declared.Action.TheVariants.{Set, Later, Go, IfNot}
use Rattle.pseudocode.specs.declared.Instruction.{Instruction}
use Rattle.pseudocode.specs.declared.Instruction.TheVariants.{Wait, Act}
use Rattle.pseudocode.specs.Filling.{after}
use Rattle.pseudocode.specs.Fetching.{fetch_at}
use Rattle.masks.specs.Masks.{bits}
use Rattle.extraction.specs.declared.Thread.{Thread}
use Rattle.extraction.specs.declared.Merged.{Merged}
use Rattle.extraction.specs.declared.Walked.{Walked}
use Rattle.extraction.specs.Emitting.{emit_words, emit_count, held_at, express_at}

-- ---- rows of 32 node numbers

-- f of each number below n; the others stay.
unfoldable pub fill_below : (ℕ → ℕ) → ℕ → List ℕ → List ℕ
fill_below f zero row = row
fill_below f (suc n) row = set (fill_below f n row) n (f n)

-- Each register's own variable; 0 past the last register.
unfoldable pub own_node : ℕ → ℕ → ℕ → ℕ
own_node inputs registers r = pick (ltb r registers) (inputs + r) 0

unfoldable pub own_at : ℕ → ℕ → List ℕ
own_at inputs registers = fill_below (own_node inputs registers) 32 (replicate 32 0)

-- The two rows held, current and later; row k with node n for register r.
unfoldable pub put_at : List (List ℕ) → ℕ → ℕ → ℕ → List (List ℕ)
put_at h k r n = pick (ltb k 2) (pick (ltb r 32) (set h k (set (get_or h k []) r n)) h) h

-- At the walk's end: what is assigned later stands in the later row, all else in the current one.
unfoldable pub land_at : List (List ℕ) → ℕ → List ℕ
land_at h deferred =
    fill_below (λ r. pick (get_or (bits deferred) r false) (get_or (get_or h 1 []) r 0) (get_or (get_or h 0 []) r 0)) 32 (get_or h 0 [])

-- ---- what a walk leaves

-- The code's answer, with the table that it leaves.
pub record Walking : Type 0 where
  pub answer : Walked
  pub words : List ℕ

abbrev pub walking : Walked → List ℕ → Walking
walking r l = record { answer = r; words = l }

abbrev pub walked : ℕ → ℕ → List ℕ → Walked
walked count place registers = record { count = count; place = place; registers = registers }

-- ---- two legs joined: a branch node for each register written, rising, and one for the place

-- One register's node, and how many nodes there are.
pub record Merging : Type 0 where
  pub answer : Merged
  pub words : List ℕ

abbrev pub merging : Merged → List ℕ → Merging
merging r l = record { answer = r; words = l }

abbrev pub merged : ℕ → ℕ → Merged
merged node count = record { node = node; count = count }

-- Register r with nodes x and y in the two legs.
unfoldable pub merge_node : ℕ → ℕ → ℕ → ℕ → ℕ → ℕ → List ℕ → Merging
merge_node written c r x y n l =
    pick (get_or (bits written) r false) (merging (merged n (emit_count n)) (emit_words n 40 c x y l)) (merging (merged x n) l)

module _ (written c : ℕ) (a b : Walked) where
  unfoldable pub merge_one : ℕ → Walking → Walking
  merge_one r x =
      let g = merge_node written c r (get_or a.registers r 0) (get_or b.registers r 0) x.answer.count x.words in
      walking (walked g.answer.count 0 (set x.answer.registers r g.answer.node)) g.words

  unfoldable pub merge_below : ℕ → List ℕ → Walking
  merge_below zero l = walking (walked b.count 0 a.registers) l
  merge_below (suc r) l = merge_one r (merge_below r l)

  unfoldable pub join_at : List ℕ → Walking
  join_at l =
      let x = merge_below 32 l in
      let n = x.answer.count in
      walking (walked (emit_count n) n x.answer.registers) (emit_words n 40 c a.place b.place x.words)

-- ---- the walk

-- Where it ends early.
unfoldable pub ended : List (List ℕ) → ℕ → List ℕ → Walking
ended h n l = walking (walked n 0 (get_or h 0 [])) l

-- The next place as an 8-bit constant at the walk's end. A place is below 256.
unfoldable pub wait_at : Thread → ℕ → List (List ℕ) → ℕ → List ℕ → Walking
wait_at t p h n l = walking (walked (emit_count n) n (land_at h t.deferred)) (emit_words n 1 8 (p % 65536) 0 l)

-- One instruction, at place p; `next` walks on.
module _ (s : List ℕ) (t : Thread) (next : ℕ → List (List ℕ) → ℕ → List ℕ → Walking) where
  -- An assignment of the expression at e to variable v, in row k.
  unfoldable pub assign_at : ℕ → ℕ → ℕ → ℕ → List (List ℕ) → ℕ → List ℕ → Walking
  assign_at k v e p h n l =
      let x = express_at (held_at (get_or h 0 []) t.inputs t.registers) 16 s e n l in
      next (after p) (put_at h k (v - t.inputs) x.answer.node) x.answer.count x.words

  unfoldable pub branch_at : ℕ → ℕ → ℕ → List (List ℕ) → ℕ → List ℕ → Walking
  branch_at g e p h n l =
      let x = express_at (held_at (get_or h 0 []) t.inputs t.registers) 16 s e n l in
      let a = next (after p) h x.answer.count x.words in
      let b = next g h a.answer.count a.words in
      join_at t.written x.answer.node a.answer b.answer b.words

  unfoldable pub act_at : ℕ → List (List ℕ) → ℕ → List ℕ → Action → Walking
  act_at p h n l (Set v e) = assign_at 0 v e p h n l
  act_at p h n l (Later v e) = assign_at 1 v e p h n l
  act_at p h n l (Go g) = next g h n l
  act_at p h n l (IfNot g e) = branch_at g e p h n l

  unfoldable pub visit_at : ℕ → List (List ℕ) → ℕ → List ℕ → Instruction → Walking
  visit_at p h n l (Wait ts) = wait_at t p h n l
  visit_at p h n l (Act a) = act_at p h n l a

module _ (s code : List ℕ) (t : Thread) where
  -- From place p on, of at most so many instructions; no further where there are too many nodes.
  unfoldable pub walk_at : ℕ → ℕ → List (List ℕ) → ℕ → List ℕ → Walking
  walk_at zero p h n l = ended h n l
  walk_at (suc f) p h n l = pick (ltb 4096 n) (ended h n l) (visit_at s t (walk_at f) p h n l (fetch_at s code t.number p))
