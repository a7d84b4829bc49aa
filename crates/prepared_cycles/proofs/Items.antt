-- Laws of rows: a row as it is copied, and the place of an instant's row among those that are lent. Assumes nothing.
use mathlib.Core.Path.{◌≡◌, refl, sym, ap, ◌∙◌}
use mathlib.Core.Bool.{true}
use mathlib.Core.List.{List, [], ◌∷◌, ◌++◌}
use Prim.Native.Nat.{ℕ, ◌+◌, ◌-◌, ◌*◌, ◌/◌, ◌%◌, ◌≤◌, ◌<◌}
use native.Mathlib.Numerals.{add-one}
use native.Mathlib.Omega.{arith}
use lib.Dec.{eqb}
use lib.ListN.{length, get_or, set, length-drop}
use lib.Seq.{sets, length-take-le, get_or-take, get_or-drop}
use Rattle.std.specs.Prelude.{take, drop}
use borrow.Author.Tests.{eqb-true}
use Rattle.values.specs.Planes.{value_at}
use Rattle.values.specs.Cells.{cell_of, number_in, marks_in, value_of}
use Rattle.state.specs.State as state
use Rattle.state.specs.Rows.{list_of}
use Rattle.state.specs.declared.Counters.{Counters}
use Rattle.state.proofs.Rows.{and_both, sets-append, length-list_of, get_d-list_of, list_of-is}
use Rattle.events.specs.Rows.{whole_rows}
use Rattle.plan_engine.specs.Live.{Live}
use Rattle.plan_state.specs.Packing.{packed}
use Rattle.prepared_cycles.specs.Cycles.{row_from}
use Rattle.prepared_cycles.specs.Traces.{places_in, row_of, written, word_in, words_in, row_in}

-- A whole row, with another item in the place of its first.
pub row_list : (ns : List ℕ) (first r : ℕ)
    → set (list_of 16 (λ v. get_or ns (16 * r + v) 0)) 0 first ≡ first ∷ row_from ns r 1 15
unfolding list_of row_from
row_list ns first r = refl

pub row_inside : (n p : ℕ) → p < 2 * (n / 16) → 16 * (p / 2) + 16 ≤ n
row_inside n p h = omega arith

pub whole-lengths : (ns xs : List ℕ) → whole_rows ns xs ≡ true → length xs ≡ length ns
unfolding whole_rows
whole-lengths ns xs h = eqb-true (length xs) (length ns) (and_both (eqb (length ns % 16) 0) (eqb (length xs) (length ns)) h).1

-- The same of a row that is copied.
pub row-copied : (ns : List ℕ) (first r : ℕ) (ys : List ℕ) → 16 * r + 16 ≤ length ns
    → ys ≡ take (16 * r + 16 - 16 * r) (drop (16 * r) ns) → set ys 0 first ≡ first ∷ row_from ns r 1 15
row-copied ns first r ys h e =
    let n : 16 * r + 16 - 16 * r ≡ 16 = omega arith in
    let f = λ (v : ℕ). get_or ns (16 * r + v) 0 in
    let l = take 16 (drop (16 * r) ns) in
    let long : length l ≡ 16 = length-take-le 16 (drop (16 * r) ns) (omega (arith, length-drop (16 * r) ns)) in
    let same : list_of 16 f ≡ l =
    list_of-is f l 0 16 long (λ k i. sym (get_or-take 16 (drop (16 * r) ns) k 0 i ∙ get_or-drop (16 * r) ns k 0)) in
    ap (λ us. set us 0 first) ((rw n at e) ∙ sym same) ∙ row_list ns first r

-- ---- a row of a trace

-- A turn of the loop that writes a list from a place on.
pub list_of-on : {A : Type 0} (f : ℕ → A) (l : List A) (at k : ℕ)
    → set (sets l at (list_of k f)) (at + k) (f k) ≡ sets l at (list_of (k + 1) f)
unfolding list_of
list_of-on f l at k = sym (rw add-one (sets-append l at (list_of k f) (f k ∷ []) ∙ rw (length-list_of f k) refl))

-- The row of a state that is packed, as it lies in cells and places.
pub row-packed : (l : Live) (c : Counters) → row_of (packed l c) ≡ row_in l.cells l.places
unfolding row_of packed state.value_of value_at value_of
row-packed l c =
    ap (λ (ws : List ℕ). ws ++ places_in l.places)
    (list_of-is _ (words_in l.cells) 0 80 (length-list_of (λ v. word_in (get_or l.cells v 0)) 80)
    (λ k h.
    (λ i. cell_of (record {
      number = get_d-list_of (λ v. number_in (get_or l.cells v 0)) 80 k 0 h i;
      unknown = get_d-list_of (λ v. marks_in (get_or l.cells v 0)) 80 k 0 h i;
    }))
    ∙ sym (get_d-list_of (λ v. word_in (get_or l.cells v 0)) 80 k 0 h)))

-- It is written in two parts.
pub row-parts : (p : ℕ) (w cs ps us vs : List ℕ) → us ≡ sets w (88 * p) (words_in cs) → vs ≡ sets us (88 * p + 80) (places_in ps)
    → vs ≡ sets w (88 * p) (row_in cs ps)
row-parts p w cs ps us vs e f =
    f
    ∙ ap (λ (xs : List ℕ). sets xs (88 * p + 80) (places_in ps)) e
    ∙ ap (λ (n : ℕ). sets (sets w (88 * p) (words_in cs)) (88 * p + n) (places_in ps))
    (sym (length-list_of (λ v. word_in (get_or cs v 0)) 80))
    ∙ sym (sets-append w (88 * p) (words_in cs) (places_in ps))

pub row_written : (p : ℕ) (w : List ℕ) (l : Live) (c : Counters) (us : List ℕ) → us ≡ sets w (88 * p) (row_in l.cells l.places)
    → us ≡ written p (packed l c) w
unfolding written
row_written p w l c us e = e ∙ ap (sets w (88 * p)) (sym (row-packed l c))
