-- The stores of `save`, part by part: what each puts into the buffer is a part of the saved form. Assumes nothing.
use mathlib.Core.Path.{◌≡◌, refl, sym, ◌∙◌}
use mathlib.Core.Bool.{Bool, true, false}
use mathlib.Core.List.{List, ◌∷◌, ◌++◌}
use Prim.Native.Nat.{ℕ, ◌≤◌, ◌+◌, ◌*◌, ◌/◌, ◌%◌}
use native.Mathlib.Numerals.{add-one}
use native.Mathlib.Omega.{arith}
use mir.Val.{bool_byte}
use lib.ListN.{length, get_or, set, take, drop, length-append}
use Rattle.std.proofs.lemmas.List.{append_assoc}
use lib.Seq.{sets, sets-eq, drop-drop}
use borrow.Rule.Slice.PartMut.{put_mid}
use Rattle.state.specs.declared.State.{State}
use Rattle.state.specs.Rows.{rows}
use Rattle.saved.specs.Saved.{flag_byte, word_bytes, long_bytes, value_row, slot_row, place_row, due_row}
use Rattle.saved.specs.Saved.{value_bytes, slot_bytes, place_bytes, due_bytes, body, count_bytes, allowance_bytes, tail, saved}
use Rattle.state.proofs.Rows.{sets-append, length-rows, rows_step}

-- ---- a flag as a byte

pub byte-flag : (b : Bool) → bool_byte b ≡ flag_byte b
unfolding flag_byte
byte-flag true = refl
byte-flag false = refl

-- ---- four bytes of a number

pub length-word : (n : ℕ) → length (word_bytes n) ≡ 4
unfolding word_bytes
length-word n = refl

part-sets : (l ys : List ℕ) (at k : ℕ) → length ys ≡ k → at + k ≤ length l → put_mid at k l ys ≡ sets l at ys
part-sets l ys at k e h = rw (drop-drop k at l) (sym (rw e at (sets-eq ys l at (rw e h)) ∙ append_assoc (take at l) ys (drop (at + k) l)))

pub word-placed : (l : List ℕ) (at n : ℕ) → at + 4 ≤ length l → put_mid at 4 l (word_bytes n) ≡ sets l at (word_bytes n)
word-placed l at n h = part-sets l (word_bytes n) at 4 (length-word n) h

-- ---- eight bytes of two numbers

pub length-pair : (x y : ℕ) → length (word_bytes x ++ word_bytes y) ≡ 8
length-pair x y = length-append (word_bytes x) (word_bytes y) ∙ rw (length-word x, length-word y)

pair-sets : (l : List ℕ) (at x y : ℕ)
    → sets (sets l at (word_bytes x)) (at + 4) (word_bytes y) ≡ sets l at (word_bytes x ++ word_bytes y)
pair-sets l at x y = sym (sets-append l at (word_bytes x) (word_bytes y) ∙ rw (length-word x) refl)

pub length-long : (n : ℕ) → length (long_bytes n) ≡ 8
unfolding long_bytes
length-long n = length-pair (n % 4294967296) (n / 4294967296)

pub long-sets : (l : List ℕ) (at n : ℕ)
    → sets (sets l at (word_bytes (n % 4294967296))) (at + 4) (word_bytes (n / 4294967296)) ≡ sets l at (long_bytes n)
unfolding long_bytes
long-sets l at n = pair-sets l at (n % 4294967296) (n / 4294967296)

-- ---- values

module _ (ns us : List ℕ) where
  pub length-value : (v : ℕ) → length (value_row ns us v) ≡ 8
  unfolding value_row
  length-value v = length-pair (get_or ns v 0) (get_or us v 0)

  pub length-values : length (value_bytes ns us) ≡ 640
  unfolding value_bytes
  length-values = length-rows 8 (value_row ns us) length-value 80

  pub value-sets : (l : List ℕ) (at v : ℕ)
      → sets (sets l at (word_bytes (get_or ns v 0))) (at + 4) (word_bytes (get_or us v 0)) ≡ sets l at (value_row ns us v)
  unfolding value_row
  value-sets l at v = pair-sets l at (get_or ns v 0) (get_or us v 0)

  -- a turn of the loop
  pub values-step : (l : List ℕ) (v : ℕ)
      → sets (sets (sets l 1 (rows v (value_row ns us))) (1 + 8 * v) (word_bytes (get_or ns v 0))) (1 + 8 * v + 4)
      (word_bytes (get_or us v 0))
      ≡ sets l 1 (rows (v + 1) (value_row ns us))
  values-step l v = value-sets _ (1 + 8 * v) v ∙ rows_step 8 (value_row ns us) length-value l 1 v

-- ---- pending slots

module _ (hs : List Bool) (ns us : List ℕ) where
  pub length-slot : (r : ℕ) → length (slot_row hs ns us r) ≡ 9
  unfolding slot_row
  length-slot r = rw (length-value ns us r)

  pub length-slots : length (slot_bytes hs ns us) ≡ 288
  unfolding slot_bytes
  length-slots = length-rows 9 (slot_row hs ns us) length-slot 32

  pub slot-sets : (l : List ℕ) (at r : ℕ)
      → sets (sets (set l at (flag_byte (get_or hs r false))) (at + 1) (word_bytes (get_or ns r 0))) (at + 5)
      (word_bytes (get_or us r 0))
      ≡ sets l at (slot_row hs ns us r)
  unfolding slot_row
  slot-sets l at r =
      let e : at + 1 + 4 ≡ at + 5 = omega arith in
      rw e at (value-sets ns us (set l at (flag_byte (get_or hs r false))) (at + 1) r) ∙ rw add-one

  pub slots-step : (l : List ℕ) (r : ℕ)
      → sets (sets (set (sets l 641 (rows r (slot_row hs ns us))) (641 + 9 * r) (flag_byte (get_or hs r false)))
      (641 + 9 * r + 1)
      (word_bytes (get_or ns r 0))) (641 + 9 * r + 5) (word_bytes (get_or us r 0))
      ≡ sets l 641 (rows (r + 1) (slot_row hs ns us))
  slots-step l r = slot-sets _ (641 + 9 * r) r ∙ rows_step 9 (slot_row hs ns us) length-slot l 641 r

-- ---- places, and the marks of wires

module _ (ps : List ℕ) where
  pub length-place : (i : ℕ) → length (place_row ps i) ≡ 1
  unfolding place_row
  length-place i = refl

  pub length-places : length (place_bytes ps) ≡ 8
  unfolding place_bytes
  length-places = length-rows 1 (place_row ps) length-place 8

  pub places-step : (l : List ℕ) (i : ℕ)
      → set (sets l 929 (rows i (place_row ps))) (929 + i) (get_or ps i 0) ≡ sets l 929 (rows (i + 1) (place_row ps))
  unfolding place_row
  places-step l i =
      let e : 929 + 1 * i ≡ 929 + i = omega arith in
      rw e at (rows_step 1 (place_row ps) length-place l 929 i)

module _ (ds : List Bool) where
  pub length-due : (k : ℕ) → length (due_row ds k) ≡ 1
  unfolding due_row
  length-due k = refl

  pub length-dues : length (due_bytes ds) ≡ 32
  unfolding due_bytes
  length-dues = length-rows 1 (due_row ds) length-due 32

  pub due-step : (l : List ℕ) (k : ℕ)
      → set (sets l 937 (rows k (due_row ds))) (937 + k) (flag_byte (get_or ds k false))
      ≡ sets l 937 (rows (k + 1) (due_row ds))
  unfolding due_row
  due-step l k =
      let e : 937 + 1 * k ≡ 937 + k = omega arith in
      rw e at (rows_step 1 (due_row ds) length-due l 937 k)

-- ---- counts and allowances

module _ (ns : List ℕ) where
  pub length-counts : length (count_bytes ns) ≡ 32
  unfolding count_bytes
  length-counts = length-rows 8 (λ u. long_bytes (get_or ns u 0)) (λ u. length-long (get_or ns u 0)) 4

  pub counts_step : (l : List ℕ) (u : ℕ)
      → sets (sets l 977 (rows u (λ k. long_bytes (get_or ns k 0)))) (977 + 8 * u) (long_bytes (get_or ns u 0))
      ≡ sets l 977 (rows (u + 1) (λ k. long_bytes (get_or ns k 0)))
  counts_step l u = rows_step 8 (λ k. long_bytes (get_or ns k 0)) (λ k. length-long (get_or ns k 0)) l 977 u

  pub length-allowances : length (allowance_bytes ns) ≡ 16
  unfolding allowance_bytes
  length-allowances = length-rows 4 (λ u. word_bytes (get_or ns u 0)) (λ u. length-word (get_or ns u 0)) 4

  pub allowances-step : (l : List ℕ) (u : ℕ)
      → sets (sets l 1009 (rows u (λ k. word_bytes (get_or ns k 0)))) (1009 + 4 * u) (word_bytes (get_or ns u 0))
      ≡ sets l 1009 (rows (u + 1) (λ k. word_bytes (get_or ns k 0)))
  allowances-step l u = rows_step 4 (λ k. word_bytes (get_or ns k 0)) (λ k. length-word (get_or ns k 0)) l 1009 u

-- ---- the whole: parts of the lengths that the form has, one after the other

join : (n : ℕ) (l vs ss ps ds ts cs qs : List ℕ)
    → length vs ≡ 640 → length ss ≡ 288 → length ps ≡ 8 → length ds ≡ 32 → length ts ≡ 8 → length cs ≡ 32
    → sets (sets (sets (sets (sets (sets (sets (set l 0 n) 1 vs) 641 ss) 929 ps) 937 ds) 969 ts) 977 cs) 1009 qs
    ≡ sets l 0 (n ∷ (vs ++ ss ++ ps ++ ds) ++ (ts ++ cs ++ qs))
join n l vs ss ps ds ts cs qs v s p d t c = sym (simp (sets-append, length-append, v, s, p, d, t, c))

pub saved-sets : (st : State) (l : List ℕ)
    → sets (sets (sets (sets (sets (sets (sets (set l 0 4)
    1 (value_bytes st.value st.unknown))
    641 (slot_bytes st.held st.pending st.unsure))
    929 (place_bytes st.places))
    937 (due_bytes st.due))
    969 (long_bytes st.counters.time))
    977 (count_bytes st.counters.counts))
    1009 (allowance_bytes st.counters.allowances)
    ≡ sets l 0 (saved st)
unfolding saved body tail
saved-sets st l =
    join 4 l (value_bytes st.value st.unknown) (slot_bytes st.held st.pending st.unsure)
    (place_bytes st.places) (due_bytes st.due) (long_bytes st.counters.time) (count_bytes st.counters.counts)
    (allowance_bytes st.counters.allowances)
    (length-values st.value st.unknown) (length-slots st.held st.pending st.unsure)
    (length-places st.places) (length-dues st.due) (length-long st.counters.time)
    (length-counts st.counters.counts)
