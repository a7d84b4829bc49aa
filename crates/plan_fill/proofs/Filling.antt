-- Laws of the filling definitions, by the turns of the code: each takes what the calls left. Assumes nothing.
use mathlib.Core.Path.{◌≡◌, refl, ap, ◌∙◌}
use mathlib.Core.List.{List}
use Prim.Native.Nat.{ℕ, ◌+◌}
use native.Mathlib.Numerals.{add-one}
use lib.ListN.{get_or, set}
use Rattle.values.specs.Edges.{edge_number}
use Rattle.sheet.specs.declared.EdgeTerm.{EdgeTerm}
use Rattle.sheet.specs.declared.Layout.{Layout}
use Rattle.pseudocode.specs.declared.EdgeTerms.{EdgeTerms}
use Rattle.pseudocode.specs.declared.Instruction.{Instruction}
use Rattle.pseudocode.specs.Fetching.{term_at, fetch_at}
use Rattle.plan.specs.Sections.{code_place, wire_place, width_place, size_place}
use Rattle.plan_exprs.specs.declared.Added.{Added}
use Rattle.plan_exprs.specs.Flatten.{made, put_node, more, add_at}
use Rattle.tables.specs.Readers.{at_most, mark_variable}
use Rattle.plan_fill.specs.Filling.{up_to, put_four, put_width, put_size, watch_term, watch_instr, watch_place, watch_thread}
use Rattle.plan_fill.specs.Filling.{Filling, filling, fill_wire, put_term, fill_wait, fill_expr, fill_instr, fill_place, fill_thread}
use Rattle.plan_fill.specs.Filling.{with_counts, with_widths, with_readers, with_watchers, with_sizes, with_wires, with_threads}
use Rattle.plan_fill.specs.Filling.{code_of, filled_plan}

-- ---- up_to: no step, one more, and the last

module _ {A : Type 0} (step : ℕ → A → A) (x : A) where
  pub up_none : x ≡ up_to step 0 x
  unfolding up_to
  up_none = refl

  pub up_turn : (k : ℕ) {y z : A} → y ≡ up_to step k x → z ≡ step k y → z ≡ up_to step (k + 1) x
  unfolding up_to
  up_turn k e h = rw (add-one k) (h ∙ ap (step k) e)

  pub up-end : {k n : ℕ} {y : A} → y ≡ up_to step k x → k ≡ n → y ≡ up_to step n x
  up-end e h = e ∙ ap (λ (m : ℕ). up_to step m x) h

-- ---- widths, sizes

pub width-put : (s : List ℕ) (at : ℕ) (ws : List ℕ) (v : ℕ) {w : ℕ} → w ≡ get_or s (at + v) 0 → set ws (width_place v) w ≡ put_width s at v ws
unfolding put_width
width-put s at ws v e = rw e

pub size-put : (sizes ws : List ℕ) (i : ℕ) {w : ℕ} → w ≡ at_most 256 (get_or sizes i 0) → set ws (size_place i) w ≡ put_size sizes i ws
unfolding put_size
size-put sizes ws i e = rw e

-- ---- watchers

pub term-watched : (i : ℕ) (t : EdgeTerms) (k : ℕ) (rs : List ℕ) {x : EdgeTerm} {ss : List ℕ} → x ≡ term_at t k
    → ss ≡ mark_variable i x.variable rs → ss ≡ watch_term i t k rs
unfolding watch_term
term-watched i t k rs e h = h ∙ ap (λ (y : EdgeTerm). mark_variable i y.variable rs) e

pub place-watched : (s code : List ℕ) (i p : ℕ) (rs : List ℕ) {x : Instruction} {ss : List ℕ} → x ≡ fetch_at s code i p
    → ss ≡ watch_instr i x rs → ss ≡ watch_place s code i p rs
unfolding watch_place
place-watched s code i p rs e h = h ∙ ap (λ (y : Instruction). watch_instr i y rs) e

pub thread-watched : (s code sizes : List ℕ) (i : ℕ) (rs : List ℕ) {n : ℕ} {ss : List ℕ} → n ≡ at_most 256 (get_or sizes i 0)
    → ss ≡ up_to (watch_place s code i) n rs → ss ≡ watch_thread s code sizes i rs
unfolding watch_thread
thread-watched s code sizes i rs e h = h ∙ ap (λ (m : ℕ). up_to (watch_place s code i) m rs) e

-- ---- nodes

pub wire-filled : (s starts : List ℕ) (k n : ℕ) (ws : List ℕ) (a : Added) (us : List ℕ) → made a us ≡ add_at 16 s (get_or starts k 0) n ws
    → filling a.free (set (set us (wire_place k) n) (wire_place k + 1) a.root) ≡ fill_wire s starts k (filling n ws)
unfolding fill_wire
wire-filled s starts k n ws a us e = rw (← e)

pub expr-filled : (s : List ℕ) (p kind number at n : ℕ) (ws : List ℕ) (a : Added) (us vs : List ℕ) → made a us ≡ add_at 16 s p n ws
    → vs ≡ put_four at kind number n a.root us → filling a.free vs ≡ fill_expr s p kind number at (filling n ws)
unfolding fill_expr
expr-filled s p kind number at n ws a us vs e h = rw (h, ← e)

pub term-put : (t : EdgeTerms) (k n : ℕ) (ws : List ℕ) {x : EdgeTerm} {e v m : ℕ} {us : List ℕ} → x ≡ term_at t k → e ≡ edge_number x.edge
    → v ≡ x.variable → us ≡ put_node n e v 0 0 ws → m ≡ more n → filling m us ≡ put_term t k (filling n ws)
unfolding put_term
term-put t k n ws a b c d e = rw (d, e, b, c, a)

pub wait-filled : (t : EdgeTerms) (at n : ℕ) (ws : List ℕ) {k v m : ℕ} {us vs : List ℕ} → k ≡ at_most 8 t.count
    → filling m us ≡ up_to (put_term t) k (filling n ws) → v ≡ t.count → vs ≡ put_four at 0 v n 0 us
    → filling m vs ≡ fill_wait t at (filling n ws)
unfolding fill_wait
wait-filled t at n ws a b c d = rw (d, c, ← a, ← b)

pub place-filled : (s code : List ℕ) (i p : ℕ) (f : Filling) {x : Instruction} {g : Filling} → x ≡ fetch_at s code i p
    → g ≡ fill_instr s x (code_place i p) f → g ≡ fill_place s code i p f
unfolding fill_place
place-filled s code i p f e h = h ∙ ap (λ (y : Instruction). fill_instr s y (code_place i p) f) e

pub thread-filled : (s code sizes : List ℕ) (i : ℕ) (f : Filling) {n : ℕ} {g : Filling} → n ≡ at_most 256 (get_or sizes i 0)
    → g ≡ up_to (fill_place s code i) n f → g ≡ fill_thread s code sizes i f
unfolding fill_thread
thread-filled s code sizes i f e h = h ∙ ap (λ (m : ℕ). up_to (fill_place s code i) m f) e

-- ---- the whole plan: section by section

module _ (s : List ℕ) (l : Layout) (ws : List ℕ) where
  pub plan-filled : {code sizes us vs : List ℕ} {n : ℕ} {f g : Filling} → code ≡ (code_of s l).code → sizes ≡ (code_of s l).sizes
      → n ≡ at_most 8 l.threads
      → us ≡ with_watchers s code sizes n (with_readers s l (with_widths s l (with_counts l ws))) → vs ≡ with_sizes sizes us
      → f ≡ with_wires s l vs → g ≡ with_threads s code sizes n f → g.words ≡ filled_plan s l ws
  unfolding filled_plan
  plan-filled a b c d e f g = rw (g, f, e, d, c, b, a)
