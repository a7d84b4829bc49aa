-- In a sound module that breaks no rule, the entries of a wait's row are worth, on any values, what the thread alone comes to at
-- its next wait; so the book's rise of the clock, by the extracted nodes, is that by the threads alone.
use mathlib.Core.Path.{◌≡◌, refl}
use mathlib.Core.Bool.{Bool, true, false}
use Prim.Native.Nat.{ℕ, zero, suc, ◌+◌, ◌-◌, ◌≤◌, ◌<◌}
use native.Mathlib.Omega.{arith}
use lib.ListN.{length}
use lib.Dec.{ltb}
use borrow.Author.Tests.{ltb-true}
use Rattle.values.specs.declared.Value.{Value}
use Rattle.values.specs.Values.{pick, known}
use Rattle.values.specs.Planes.{number_of}
use Rattle.sheet.specs.Reading.{ok}
use Rattle.sheet.specs.Expression.{Expr}
use Rattle.sheet.specs.Module.{Module}
use Rattle.soundness.specs.Soundness.{Sound}
use Rattle.events.specs.Cycle.{code_of, instr_at, is_wait}
use Rattle.nextstate.specs.Rules.{writes}
use Rattle.nextstate.specs.Walk.{own_rows}
use Rattle.nextstate.specs.Extraction.{Tables, extracted}
use Rattle.nextstate.specs.Book.{Book, entry, worth, taken, next_place, rise}
use Rattle.nextstate.specs.Ruled.{Ruled}
use Rattle.threads.specs.Alone.{begin, alone, end_of, value_after, taken_alone, place_alone, rise_alone}
use Rattle.nextstate.proofs.Ruled.{writes-register}
use Rattle.threads.proofs.Alone.{ends}
use Rattle.walking.proofs.Growing.{Grows, grows-by}
use Rattle.walking.proofs.Worth.{Has, has-grows}
use Rattle.walking.proofs.Rows.{row-of}
use Rattle.walking.proofs.Walking.{Leaves, walk-leaves, begin-good}

-- ---- one row

module _ (m : Module Expr) (sound : Sound m) (ruled : Ruled m) (T : Tables) (h : extracted m ≡ ok T) where
  -- The nodes of the row of thread i's wait at p, of all nodes.
  pub row_has : (i p : ℕ) → i < length m.threads → p < length (code_of m i) → is_wait (instr_at (code_of m i) p) ≡ true →
      (f : ℕ → Value) →
      (Has m.scope.widths f T.nodes (entry m T i p 32) (known (end_of m i f p).place))
      × ((r : ℕ) → r < m.scope.registers → writes m i (m.scope.inputs + r) ≡ true →
      Has m.scope.widths f T.nodes (entry m T i p r) (value_after m i f (end_of m i f p) (m.scope.inputs + r)))
  unfolding begin
  row_has i p l k w f =
      let ws = m.scope.widths in
      let row = row-of m T h i p l k w in
      let stop = ends m sound ruled i p f l k w in
      let left : Leaves m i f row.walked (alone m i stop.0 (begin m i f p)) =
      walk-leaves m i f sound (λ v. ruled.one_way i i v) l (length (code_of m i)) stop.0 (begin m i f p) (own_rows m)
      row.before stop.1 stop.2 (begin-good m i f sound p row.before row.begins) row.is in
      let grown : Grows row.walked.nodes T.nodes = grows-by row.later row.nodes in
      rw stop.3 (
        rw row.place (has-grows ws f grown left.place),
        λ r a o. rw (row.registers r (omega (arith, sound.registers-most))) (has-grows ws f grown (left.registers r a o)),
      )

  pub row-of-wait : (i p : ℕ) → i < length m.threads → p < length (code_of m i) → is_wait (instr_at (code_of m i) p) ≡ true →
      (f : ℕ → Value) →
      (worth m T f (entry m T i p 32) ≡ known (end_of m i f p).place)
      × ((v : ℕ) → m.scope.inputs ≤ v → v < m.scope.inputs + m.scope.registers → writes m i v ≡ true →
      worth m T f (entry m T i p (v - m.scope.inputs)) ≡ value_after m i f (end_of m i f p) v)
  unfolding worth
  row-of-wait i p l k w f =
      let s = row_has i p l k w f in (
        s.0.value,
        λ v low high o.
            let z : m.scope.inputs + (v - m.scope.inputs) ≡ v = omega arith in
            rw z at (s.1 (v - m.scope.inputs) (omega arith) (rw z o)).value,
      )

-- ---- the rise of the clock

-- Every thread stands at a wait.
abbrev pub AllWait : Module Expr → Book → Type 0
AllWait m b =
    (i : ℕ) → i < length m.threads → (b.places i < length (code_of m i)) × (is_wait (instr_at (code_of m i) (b.places i)) ≡ true)

module _ (m : Module Expr) (sound : Sound m) (ruled : Ruled m) (T : Tables) (h : extracted m ≡ ok T) (b : Book)
    (waiting : AllWait m b) where
  taken-alone : (n v : ℕ) → n ≤ length m.threads → taken m T b n v ≡ taken_alone m b n v
  unfolding taken taken_alone
  taken-alone zero v l = refl
  taken-alone (suc i) v l = by (writes m i v) refl (taken-alone i v (omega arith))
    where
      by : (t : Bool) → writes m i v ≡ t → taken m T b i v ≡ taken_alone m b i v →
          pick (writes m i v) (worth m T b.values (entry m T i (b.places i) (v - m.scope.inputs))) (taken m T b i v)
          ≡ pick (writes m i v) (value_after m i b.values (end_of m i b.values (b.places i)) v) (taken_alone m b i v)
      by true e ih =
          let r = writes-register m sound i v e in
          let at-wait = waiting i l in
          rw e
          ((row-of-wait m sound ruled T h i (b.places i) l at-wait.0 at-wait.1 b.values).1 v (omega (arith, r.1, r.2))
          (omega (arith, r.1, r.2)) e)
      by false e ih = rw e ih

  place-alone : (i : ℕ) → next_place m T b i ≡ place_alone m b i
  unfolding next_place place_alone number_of known
  place-alone i = by (ltb i (length m.threads)) refl
    where
      by : (t : Bool) → ltb i (length m.threads) ≡ t →
          pick (ltb i (length m.threads)) (number_of (worth m T b.values (entry m T i (b.places i) 32))) (b.places i)
          ≡ pick (ltb i (length m.threads)) (end_of m i b.values (b.places i)).place (b.places i)
      by true e =
          let l = ltb-true i (length m.threads) e in
          let at-wait = waiting i l in
          rw (e, (row-of-wait m sound ruled T h i (b.places i) l at-wait.0 at-wait.1 b.values).0) refl
      by false e = rw e refl

pub rise-alone : (m : Module Expr) → Sound m → Ruled m → (T : Tables) → extracted m ≡ ok T → (b : Book) →
    AllWait m b →
    ((v : ℕ) → (rise m T b).values v ≡ (rise_alone m b).values v) × ((i : ℕ) → (rise m T b).places i ≡ (rise_alone m b).places i)
unfolding rise rise_alone
rise-alone m sound ruled T h b waiting = (
  λ v. taken-alone m sound ruled T h b waiting (length m.threads) v (omega arith),
  λ i. place-alone m sound ruled T h b waiting i,
)
