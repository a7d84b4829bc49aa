-- Saving and loading are inverse: the proofs of specs/Claims on form 4. Assumes nothing.
use mathlib.Core.Path.{◌≡◌, refl, sym, ap, ◌∙◌}
use mathlib.Core.Logic.{◌≢◌}
use mathlib.Core.Bool.{Bool, true, false}
use mathlib.Core.List.{List, ◌++◌}
use mathlib.Core.Option.{none, some}
use Prim.Native.Nat.{ℕ, ◌+◌, ◌*◌, ◌^◌}
use native.Mathlib.Omega.{arith}
use borrow.Author.Tests.{ne_eqb}
use lib.ListN.{length, get_or}
use lib.Seq.{sets}
use Rattle.values.specs.Values.{pick}
use Rattle.state.specs.declared.State.{State}
use Rattle.state.specs.State.{Shaped, Bounded}
use Rattle.saved.specs.Saved.{value_row, slot_row, place_row, due_row, value_bytes, slot_bytes, place_bytes, due_bytes}
use Rattle.saved.specs.Saved.{word_bytes, body, saved}
use Rattle.saved.specs.Saved.{Bytes, is_form, flags_at, places_at, counters_at, is_saved, state_in, loaded}
use Rattle.saved.specs.Claims.{Inverse, NoOther}
use Rattle.state.proofs.Rows.{sets-whole, length-list_of, list_of-below, stands-whole, stands_self}
use Rattle.saved.proofs.Bytes.{word_of-below}
use Rattle.saved.proofs.Bytes.{AllBytes, no_byte, byte, all-bytes, bytes-append, bytes-rows, bytes_word, bytes-flag}
use Rattle.saved.proofs.Long.{long_of-below}
use Rattle.saved.proofs.Parts.{tail-bytes}
use Rattle.saved.proofs.Laid as laid
use Rattle.saved.proofs.Laid.{saved-laid, laid-saved, laid-is_saved, laid-state_in, is_saved-flags, state_in-laid}

-- ---- the body: bytes

body_bytes : (st : State) → Bounded st → AllBytes (body st)
unfolding body value_bytes slot_bytes place_bytes due_bytes value_row slot_row place_row due_row
body_bytes st n =
    let value : (ns us : List ℕ) (v : ℕ) → AllBytes (word_bytes (get_or ns v 0) ++ word_bytes (get_or us v 0)) =
    λ ns us v. bytes-append (bytes_word (get_or ns v 0)) (bytes_word (get_or us v 0)) in
    let vs = bytes-rows 80 (value st.value st.unknown) in
    let ss =
    bytes-append vs (bytes-rows 32 (λ r. bytes-flag (get_or st.held r false) (value st.pending st.unsure r)))
    in
    let ps = bytes-append ss (bytes-rows 8 (λ i. byte (get_or st.places i 0) (n.places i) no_byte)) in
    bytes-append ps (bytes-rows 32 (λ k. bytes-flag (get_or st.due k false) no_byte))

-- ---- what is saved is loaded

-- Bytes have one length.
pub other-form : (form size : ℕ) (b : List ℕ) → length b ≢ size → is_form form size b ≡ false
unfolding is_form
other-form form size b h = rw (ne_eqb (length b) size h)

pub other-saved : (b : List ℕ) → length b ≢ 1025 → is_saved b ≡ false
unfolding is_saved
other-saved b h = rw (other-form 4 1025 b h)

module _ (st : State) where
  pub length-saved : length (saved st) ≡ 1025
  length-saved = laid.length-saved st

  -- a buffer of so many bytes holds nothing else after the stores of `save`
  pub sets-saved : (l : List ℕ) → length l ≡ 1025 → sets l 0 (saved st) ≡ saved st
  sets-saved l e = sets-whole l (saved st) (e ∙ sym length-saved)

  pub saved-bytes : Bounded st → Bytes (saved st)
  unfolding saved
  saved-bytes n = all-bytes (bytes-append (byte 4 (omega arith) (body_bytes st n)) (tail-bytes st.counters))

  module _ (s : Shaped st) (n : Bounded st) where
    pub saved-form : is_saved (saved st) ≡ true
    saved-form = laid-is_saved (saved st) st (saved-laid st (saved st) (stands_self (saved st))) length-saved

    pub saved-state : state_in (saved st) ≡ st
    saved-state = laid-state_in (saved st) st (saved-laid st (saved st) (stands_self (saved st))) s n

    pub loaded-saved : loaded (saved st) ≡ some st
    unfolding loaded
    loaded-saved = rw saved-form (ap some saved-state)

pub no_other : NoOther
unfolding loaded
no_other b h = rw (other-saved b h)

-- ---- what is loaded was saved

state_in-shaped : (b : List ℕ) → Shaped (state_in b)
unfolding state_in flags_at places_at counters_at
state_in-shaped b =
    record {
      value = length-list_of _ 80;
      unknown = length-list_of _ 80;
      pending = length-list_of _ 32;
      unsure = length-list_of _ 32;
      held = length-list_of _ 32;
      places = length-list_of _ 8;
      due = length-list_of _ 32;
      counts = length-list_of _ 4;
      allowances = length-list_of _ 4;
    }

state_in-bounded : (b : List ℕ) → Bytes b → Bounded (state_in b)
unfolding state_in places_at counters_at
state_in-bounded b bytes =
    record {
      value = list_of-below _ 80 (2 ^ 32) (omega arith) (λ v. word_of-below b (1 + 8 * v) bytes);
      unknown = list_of-below _ 80 (2 ^ 32) (omega arith) (λ v. word_of-below b (5 + 8 * v) bytes);
      pending = list_of-below _ 32 (2 ^ 32) (omega arith) (λ r. word_of-below b (642 + 9 * r) bytes);
      unsure = list_of-below _ 32 (2 ^ 32) (omega arith) (λ r. word_of-below b (646 + 9 * r) bytes);
      places = list_of-below _ 8 (2 ^ 8) (omega arith) (λ i. bytes (929 + i));
      time = long_of-below b 969 bytes;
      counts = list_of-below _ 4 (2 ^ 64) (omega arith) (λ u. long_of-below b (977 + 8 * u) bytes);
      allowances = list_of-below _ 4 (2 ^ 32) (omega arith) (λ u. word_of-below b (1009 + 4 * u) bytes);
    }

module _ (b : List ℕ) (st : State) (found : loaded b ≡ some st) where
  found_in : (is_saved b ≡ true) × (state_in b ≡ st)
  unfolding loaded
  found_in = by (is_saved b) refl found
    where
      by : (t : Bool) → is_saved b ≡ t → pick t (some (state_in b)) none ≡ some st → (is_saved b ≡ true) × (state_in b ≡ st)
      by true q h = (q, cc)
      by false q h = let z : ◌≡◌ {A = ℕ} 0 1 = cc in absurd (omega arith)

  pub loaded-length : length b ≡ 1025
  loaded-length = (is_saved-flags b found_in.0).whole

  pub loaded-shaped : Shaped st
  loaded-shaped = rw found_in.1 at (state_in-shaped b)

  module _ (bytes : Bytes b) where
    pub loaded-bounded : Bounded st
    loaded-bounded = rw found_in.1 at (state_in-bounded b bytes)

    pub saved-loaded : saved st ≡ b
    saved-loaded =
        let f = is_saved-flags b found_in.0 in
        let s = laid-saved (state_in b) b (state_in-laid b bytes f) in
        rw (← found_in.1) (sym (stands-whole s (f.whole ∙ sym (length-saved (state_in b)))))

pub inverse : Inverse
inverse = record { loads = loaded-saved; saves = λ b st bytes found. saved-loaded b st found bytes }
