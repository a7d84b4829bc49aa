-- The parts of a state at their places in bytes of form 4: what both directions of the theorem on saved states are said in.
-- Assumes nothing.
use mathlib.Core.Path.{◌≡◌, ◌∙◌}
use mathlib.Core.Bool.{true, false}
use mathlib.Core.List.{List, ◌∷◌, ◌++◌}
use Prim.Native.Nat.{ℕ, ◌+◌, ◌*◌, ◌<◌}
use native.Mathlib.Omega.{arith}
use lib.ListN.{length, get_or}
use borrow.Author.Tests.{eqb-true, eq-eqb}
use Rattle.sheet.specs.Reading.{word_of}
use Rattle.state.specs.declared.State.{State}
use Rattle.state.specs.State.{Shaped, Bounded}
use Rattle.saved.specs.Saved.{flag_byte, word_bytes, value_row, slot_row, place_row, due_row}
use Rattle.saved.specs.Saved.{value_bytes, slot_bytes, place_bytes, due_bytes, body, tail, saved}
use Rattle.saved.specs.Saved.{Bytes, is_flag, is_form, is_saved, state_in}
use Rattle.saved.specs.Claims.{Counted}
use Rattle.state.proofs.Accessors.{state-same}
use Rattle.state.proofs.Rows.{get_d-list_of, list_of-is, and_both}
use Rattle.state.proofs.Rows.{Stands, stands-nil, stands-cons, stands-head, stands-tail, stands-append}
use Rattle.state.proofs.Rows.{stands-left, stands-right, stands-row, rows-stand}
use Rattle.saved.proofs.Stores.{length-word, length-value, length-values, length-slot, length-slots}
use Rattle.saved.proofs.Stores.{length-place, length-places, length-due, length-dues}
use Rattle.saved.proofs.Bytes.{stands_word, word_stands, byte-flag_at}
use Rattle.saved.proofs.Parts.{flags-all, flags-each, get_d-flags_at, flags_at-is, get_d-places_at, places_at-is, due-at}
use Rattle.saved.proofs.Parts.{tail-counters, counters-tail, Cut, length-form, form-cut, cut-form, length-tail}

abbrev pub Laid : List ℕ → State → Type 0
Laid b st =
    Cut 4 (value_bytes st.value st.unknown) (slot_bytes st.held st.pending st.unsure)
    (place_bytes st.places) (due_bytes st.due) (tail st.counters) 640 288 b

module _ (st : State) where
  pub length-saved : length (saved st) ≡ 1025
  unfolding saved body
  length-saved =
      length-form 4 (value_bytes st.value st.unknown) (slot_bytes st.held st.pending st.unsure)
      (place_bytes st.places) (due_bytes st.due) (tail st.counters) 640 288
      (length-values st.value st.unknown) (length-slots st.held st.pending st.unsure)
      (length-places st.places) (length-dues st.due)
      ∙ rw (length-tail st.counters)

  module _ (b : List ℕ) where
    pub saved-laid : Stands b 0 (saved st) → Laid b st
    unfolding saved body
    saved-laid =
        form-cut 4 (value_bytes st.value st.unknown) (slot_bytes st.held st.pending st.unsure)
        (place_bytes st.places) (due_bytes st.due) (tail st.counters) 640 288
        (length-values st.value st.unknown) (length-slots st.held st.pending st.unsure)
        (length-places st.places) (length-dues st.due) b

    pub laid-saved : Laid b st → Stands b 0 (saved st)
    unfolding saved body
    laid-saved =
        cut-form 4 (value_bytes st.value st.unknown) (slot_bytes st.held st.pending st.unsure)
        (place_bytes st.places) (due_bytes st.due) (tail st.counters) 640 288
        (length-values st.value st.unknown) (length-slots st.held st.pending st.unsure)
        (length-places st.places) (length-dues st.due) b

-- ---- bytes in which a state is laid are of the form, and the state in them is that state

module _ (b : List ℕ) (st : State) (l : Laid b st) where
  value-at : (v : ℕ) → v < 80 → Stands b (1 + 8 * v) (word_bytes (get_or st.value v 0) ++ word_bytes (get_or st.unknown v 0))
  unfolding value_bytes value_row
  value-at =
      stands-row 8 (value_row st.value st.unknown) (length-value st.value st.unknown) b 1 80 l.values

  number-at : (v : ℕ) → v < 80 → Stands b (1 + 8 * v) (word_bytes (get_or st.value v 0))
  number-at v h = stands-left (word_bytes (get_or st.value v 0)) (word_bytes (get_or st.unknown v 0)) (value-at v h)

  marks-at : (v : ℕ) → v < 80 → Stands b (5 + 8 * v) (word_bytes (get_or st.unknown v 0))
  marks-at v h =
      let e : 1 + 8 * v + 4 ≡ 5 + 8 * v = omega arith in
      rw (length-word (get_or st.value v 0), e)
      at (stands-right (word_bytes (get_or st.value v 0)) (word_bytes (get_or st.unknown v 0)) (value-at v h))

  slot_at : (r : ℕ) → r < 32
      → Stands b (641 + 9 * r)
      (flag_byte (get_or st.held r false) ∷ (word_bytes (get_or st.pending r 0) ++ word_bytes (get_or st.unsure r 0)))
  unfolding slot_bytes slot_row value_row
  slot_at =
      stands-row 9 (slot_row st.held st.pending st.unsure) (length-slot st.held st.pending st.unsure)
      b 641 32 l.slots

  held_at : (r : ℕ) → r < 32 → get_or b (641 + 9 * r) 0 ≡ flag_byte (get_or st.held r false)
  held_at r h = stands-head (slot_at r h)

  pending-at : (r : ℕ) → r < 32 → Stands b (642 + 9 * r) (word_bytes (get_or st.pending r 0))
  pending-at r h =
      let e : 641 + 9 * r + 1 ≡ 642 + 9 * r = omega arith in
      rw e at (stands-left (word_bytes (get_or st.pending r 0)) (word_bytes (get_or st.unsure r 0)) (stands-tail (slot_at r h)))

  unsure-at : (r : ℕ) → r < 32 → Stands b (646 + 9 * r) (word_bytes (get_or st.unsure r 0))
  unsure-at r h =
      let e : 641 + 9 * r + 1 + 4 ≡ 646 + 9 * r = omega arith in
      rw (length-word (get_or st.pending r 0), e)
      at (stands-right (word_bytes (get_or st.pending r 0)) (word_bytes (get_or st.unsure r 0)) (stands-tail (slot_at r h)))

  pub laid-is_saved : length b ≡ 1025 → is_saved b ≡ true
  unfolding is_saved is_form
  laid-is_saved e =
      let s = flags-all b 641 9 32 (λ r. get_or st.held r false) held_at in
      let d = flags-all b 937 1 32 (λ k. get_or st.due k false) (due-at b 937 st.due l.due) in
      rw (eq-eqb (length b) 1025 e, eq-eqb (get_or b 0 0) 4 l.first, s) d

  counted : Shaped st → Bounded st → Counted st.counters
  counted s n =
      record {
        time = n.time;
        counts = n.counts;
        allowances = n.allowances;
        four-counts = s.counts;
        four-allowances = s.allowances;
      }

  pub laid-state_in : Shaped st → Bounded st → state_in b ≡ st
  unfolding state_in
  laid-state_in s n =
      state-same _ _
      (list_of-is _ st.value 0 80 s.value (λ v h. stands_word b (1 + 8 * v) _ (n.value v) (number-at v h)))
      (list_of-is _ st.unknown 0 80 s.unknown (λ v h. stands_word b (5 + 8 * v) _ (n.unknown v) (marks-at v h)))
      (list_of-is _ st.pending 0 32 s.pending (λ r h. stands_word b (642 + 9 * r) _ (n.pending r) (pending-at r h)))
      (list_of-is _ st.unsure 0 32 s.unsure (λ r h. stands_word b (646 + 9 * r) _ (n.unsure r) (unsure-at r h)))
      (flags_at-is b 641 9 st.held s.held held_at)
      (places_at-is b 929 st.places s.places l.places)
      (flags_at-is b 937 1 st.due s.due (due-at b 937 st.due l.due))
      (tail-counters st.counters b 969 l.after (counted s n))

-- ---- in bytes of the form the state in them is laid

pub record Flags (b : List ℕ) : Type 0 where
  pub whole : length b ≡ 1025
  pub first : get_or b 0 0 ≡ 4
  pub held : (r : ℕ) → r < 32 → is_flag b (641 + 9 * r) ≡ true
  pub due : (k : ℕ) → k < 32 → is_flag b (937 + 1 * k) ≡ true

pub is_saved-flags : (b : List ℕ) → is_saved b ≡ true → Flags b
unfolding is_saved is_form
is_saved-flags b h =
    let d = and_both _ _ h in
    let s = and_both _ _ d.0 in
    let f = and_both _ _ s.0 in
    record {
      whole = eqb-true (length b) 1025 f.0;
      first = eqb-true (get_or b 0 0) 4 f.1;
      held = flags-each b 641 9 32 s.1;
      due = flags-each b 937 1 32 d.1;
    }

module _ (b : List ℕ) (bytes : Bytes b) (f : Flags b) where
  abbrev st : State
  st = state_in b

  value-stands : (v : ℕ) → v < 80 → Stands b (1 + 8 * v) (value_row st.value st.unknown v)
  unfolding state_in value_row
  value-stands v h =
      let e : 1 + 8 * v + 4 ≡ 5 + 8 * v = omega arith in
      rw (get_d-list_of (λ v. word_of b (1 + 8 * v)) 80 v 0 h, get_d-list_of (λ v. word_of b (5 + 8 * v)) 80 v 0 h)
      (stands-append (word_bytes (word_of b (1 + 8 * v))) (word_bytes (word_of b (5 + 8 * v))) (word_stands b (1 + 8 * v) bytes)
      (rw (length-word (word_of b (1 + 8 * v)), e) (word_stands b (5 + 8 * v) bytes)))

  slot-stands : (r : ℕ) → r < 32 → Stands b (641 + 9 * r) (slot_row st.held st.pending st.unsure r)
  unfolding state_in slot_row value_row
  slot-stands r h =
      let e : 641 + 9 * r + 1 ≡ 642 + 9 * r = omega arith in
      let d : 642 + 9 * r + 4 ≡ 646 + 9 * r = omega arith in
      rw (
        get_d-flags_at b 641 9 r h,
        get_d-list_of (λ r. word_of b (642 + 9 * r)) 32 r 0 h,
        get_d-list_of (λ r. word_of b (646 + 9 * r)) 32 r 0 h,
      )
      (stands-cons (byte-flag_at b (641 + 9 * r) (f.held r h))
      (rw e (stands-append (word_bytes (word_of b (642 + 9 * r))) (word_bytes (word_of b (646 + 9 * r))) (word_stands b (642 + 9 * r) bytes)
      (rw (length-word (word_of b (642 + 9 * r)), d) (word_stands b (646 + 9 * r) bytes)))))

  place-stands : (i : ℕ) → i < 8 → Stands b (929 + 1 * i) (place_row st.places i)
  unfolding state_in place_row
  place-stands i h =
      let e : 929 + 1 * i ≡ 929 + i = omega arith in
      rw (get_d-places_at b 929 i h) (stands-cons (rw e) stands-nil)

  due-stands : (k : ℕ) → k < 32 → Stands b (937 + 1 * k) (due_row st.due k)
  unfolding state_in due_row
  due-stands k h =
      rw (get_d-flags_at b 937 1 k h) (stands-cons (byte-flag_at b (937 + 1 * k) (f.due k h)) stands-nil)

  pub state_in-laid : Laid b st
  unfolding state_in value_bytes slot_bytes place_bytes due_bytes
  state_in-laid =
      record {
        first = f.first;
        values = rows-stand 8 (value_row st.value st.unknown) (length-value st.value st.unknown)
            b 1 80 value-stands;
        slots = rows-stand 9 (slot_row st.held st.pending st.unsure)
            (length-slot st.held st.pending st.unsure) b 641 32 slot-stands;
        places = rows-stand 1 (place_row st.places) (length-place st.places) b 929 8 place-stands;
        due = rows-stand 1 (due_row st.due) (length-due st.due) b 937 32 due-stands;
        after = counters-tail b 969 bytes;
      }
