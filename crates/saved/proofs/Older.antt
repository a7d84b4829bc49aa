-- The parts of an older state at their places in bytes of forms 1 to 3: such bytes are of the form, and each value is read there.
-- Assumes nothing.
use mathlib.Core.Path.{◌≡◌, refl}
use mathlib.Core.Bool.{Bool, true, false}
use mathlib.Core.List.{List, ◌∷◌, ◌++◌}
use Prim.Native.Nat.{ℕ, ◌+◌, ◌*◌, ◌^◌, ◌<◌}
use native.Mathlib.Omega.{arith}
use lib.ListN.{length, get_or}
use borrow.Author.Tests.{eq-eqb}
use Rattle.state.specs.Rows.{rows}
use Rattle.saved.specs.Saved.{flag_byte, word_bytes, place_bytes, due_bytes, is_form}
use Rattle.saved.specs.Older.{Older, older_row, older_slot, older_body, is_older, older_value}
use Rattle.saved.specs.Claims.{carried_value}
use Rattle.state.proofs.Rows.{length-rows, Stands, stands-head, stands-tail, stands-row}
use Rattle.saved.proofs.Stores.{length-places, length-dues}
use Rattle.saved.proofs.Bytes.{stands_word, flag_at-byte}
use Rattle.saved.proofs.Parts.{flags-all, due-at, Cut, length-form, form-cut}

length-row : (ns : List ℕ) (xs : List Bool) (v : ℕ) → length (older_row ns xs v) ≡ 5
unfolding older_row word_bytes
length-row ns xs v = refl

length-slot : (hs : List Bool) (ns : List ℕ) (xs : List Bool) (r : ℕ) → length (older_slot hs ns xs r) ≡ 6
unfolding older_slot older_row word_bytes
length-slot hs ns xs r = refl

abbrev pub Laid : ℕ → List ℕ → Older → List ℕ → Type 0
Laid form t o b =
    Cut form (rows 80 (older_row o.value o.unknown)) (rows 32 (older_slot o.held o.pending o.unsure))
    (place_bytes o.places) (due_bytes o.due) t 400 192 b

module _ (o : Older) (form : ℕ) (t : List ℕ) where
  pub length-older : length (form ∷ older_body o ++ t) ≡ 633 + length t
  unfolding older_body
  length-older =
      length-form form (rows 80 (older_row o.value o.unknown)) (rows 32 (older_slot o.held o.pending o.unsure))
      (place_bytes o.places) (due_bytes o.due) t 400 192
      (length-rows 5 (older_row o.value o.unknown) (length-row o.value o.unknown) 80)
      (length-rows 6 (older_slot o.held o.pending o.unsure) (length-slot o.held o.pending o.unsure) 32)
      (length-places o.places) (length-dues o.due)

  pub older-laid : (b : List ℕ) → Stands b 0 (form ∷ older_body o ++ t) → Laid form t o b
  unfolding older_body
  older-laid =
      form-cut form (rows 80 (older_row o.value o.unknown)) (rows 32 (older_slot o.held o.pending o.unsure))
      (place_bytes o.places) (due_bytes o.due) t 400 192
      (length-rows 5 (older_row o.value o.unknown) (length-row o.value o.unknown) 80)
      (length-rows 6 (older_slot o.held o.pending o.unsure) (length-slot o.held o.pending o.unsure) 32)
      (length-places o.places) (length-dues o.due)

-- A value where its flag and its number stand.
pub carried-at : (b : List ℕ) (at w : ℕ) (x : Bool) (n : ℕ) → n < 2 ^ 32 → Stands b at (flag_byte x ∷ word_bytes n)
    → older_value w b at ≡ carried_value w x n
unfolding older_value carried_value
carried-at b at w x n h s = rw (flag_at-byte b at x (stands-head s), stands_word b (at + 1) n h (stands-tail s))

module _ (form : ℕ) (t : List ℕ) (o : Older) (b : List ℕ) (l : Laid form t o b) where
  pub value-at : (v : ℕ) → v < 80
      → Stands b (1 + 5 * v) (flag_byte (get_or o.unknown v false) ∷ word_bytes (get_or o.value v 0))
  unfolding older_row
  value-at =
      stands-row 5 (older_row o.value o.unknown) (length-row o.value o.unknown) b 1 80 l.values

  slot_at : (r : ℕ) → r < 32
      → Stands b (401 + 6 * r)
      (flag_byte (get_or o.held r false) ∷ flag_byte (get_or o.unsure r false) ∷ word_bytes (get_or o.pending r 0))
  unfolding older_slot older_row
  slot_at =
      stands-row 6 (older_slot o.held o.pending o.unsure) (length-slot o.held o.pending o.unsure)
      b 401 32 l.slots

  pub held_at : (r : ℕ) → r < 32 → get_or b (401 + 6 * r) 0 ≡ flag_byte (get_or o.held r false)
  held_at r h = stands-head (slot_at r h)

  pub pending-at : (r : ℕ) → r < 32
      → Stands b (402 + 6 * r) (flag_byte (get_or o.unsure r false) ∷ word_bytes (get_or o.pending r 0))
  pending-at r h =
      let e : 401 + 6 * r + 1 ≡ 402 + 6 * r = omega arith in
      rw e at (stands-tail (slot_at r h))

  pub laid-is_older : (size : ℕ) → length b ≡ size → is_older form size b ≡ true
  unfolding is_older is_form
  laid-is_older size e =
      let v = flags-all b 1 5 80 (λ v. get_or o.unknown v false) (λ v h. stands-head (value-at v h)) in
      let s = flags-all b 401 6 32 (λ r. get_or o.held r false) held_at in
      let u = flags-all b 402 6 32 (λ r. get_or o.unsure r false) (λ r h. stands-head (pending-at r h)) in
      let d = flags-all b 601 1 32 (λ k. get_or o.due k false) (due-at b 601 o.due l.due) in
      rw (eq-eqb (length b) size e, eq-eqb (get_or b 0 0) form l.first, v, s, u) d
