-- A state of each form is brought over: the proofs of specs/Claims on bringing over. Assumes nothing.
use mathlib.Core.Path.{◌≡◌, refl, sym, subst, ◌∙◌}
use mathlib.Core.Logic.{◌≢◌}
use mathlib.Core.Bool.{true, false}
use mathlib.Core.List.{List, ◌++◌}
use Prim.Native.Nat.{ℕ, ◌+◌, ◌*◌, ◌^◌, ◌≤◌, ◌<◌}
use native.Mathlib.Omega.{arith}
use borrow.Author.Tests.{le-leb, lt-leb}
use lib.ListN.{length, get_or, length-append}
use Rattle.values.specs.declared.Value.{Value}
use Rattle.values.specs.Planes.{value_at, number_of, marks_of}
use Rattle.sheet.specs.Reading.{ok, no, word_of}
use Rattle.sheet.specs.Expression.{Expr}
use Rattle.sheet.specs.Module.{Module, read}
use Rattle.state.specs.declared.Counters.{Counters}
use Rattle.state.specs.declared.State.{State}
use Rattle.state.specs.State.{Shaped, Bounded, count_of, allowance_of, value_of, place_of, is_due}
use Rattle.state.specs.Rows.{list_of}
use Rattle.saved.specs.Saved.{word_bytes, long_bytes, tail, saved, long_of, counters_at}
use Rattle.saved.specs.Older.{Older, saved_short, saved_long, saved_users, is_older, older_value, older_in, alone, taken, refused, admitted}
use Rattle.saved.specs.Older.{older_over, variable_width, register_width, over_of, brought_over}
use Rattle.saved.specs.Claims.{Narrow, Counted, Carried, CarriesOver, BroughtOver}
use Rattle.state.proofs.Rows.{get_d-list_of, stands-left, stands-right, stands_self}
use Rattle.saved.proofs.Stores.{length-word, length-long, length-pair}
use Rattle.saved.proofs.Bytes.{stands_word, flag_at-byte}
use Rattle.saved.proofs.Long.{stands-long}
use Rattle.saved.proofs.Parts.{get_d-flags_at, place_at, get_d-places_at, due-at, length-tail, tail-counters}
use Rattle.saved.proofs.Saved.{other-form, other-saved, saved-form, saved-state}
use Rattle.saved.proofs.Older.{Laid, length-older, older-laid, carried-at, value-at, held_at, pending-at, laid-is_older}

-- ---- planes that are listed, value by value

listed-value : (f : ℕ → Value) (n v : ℕ) → v < n → value_at (list_of n (λ k. number_of (f k))) (list_of n (λ k. marks_of (f k))) v ≡ f v
unfolding value_at number_of marks_of
listed-value f n v h =
    let p = get_d-list_of (λ k. (f k).number) n v 0 h in
    let q = get_d-list_of (λ k. (f k).unknown) n v 0 h in
    λ i. record { number = p i; unknown = q i }

-- ---- the state in bytes in which an older one is laid

module _ (m : Module Expr) (form : ℕ) (t : List ℕ) (o : Older) (n : Narrow o) (b : List ℕ) (l : Laid form t o b) (c : Counters) where
  carried : Carried m o c (taken (older_in (variable_width m.scope) (register_width m.scope) b c))
  unfolding taken older_in value_of place_of is_due
  carried =
      record {
        number = refl;
        value = λ v h.
            listed-value (λ k. older_value (variable_width m.scope k) b (1 + 5 * k)) 80 v h
            ∙ carried-at b (1 + 5 * v) _ _ _ (n.value v) (value-at form t o b l v h);
        pending = λ k h.
            listed-value (λ j. older_value (register_width m.scope j) b (402 + 6 * j)) 32 k h
            ∙ carried-at b (402 + 6 * k) _ _ _ (n.pending k) (pending-at form t o b l k h);
        held = λ k h. get_d-flags_at b 401 6 k h ∙ flag_at-byte b (401 + 6 * k) _ (held_at form t o b l k h);
        place = λ i h. get_d-places_at b 593 i h ∙ place_at b 593 o.places l.places i h;
        due = λ k h. get_d-flags_at b 601 1 k h ∙ flag_at-byte b (601 + 1 * k) _ (due-at b 601 o.due l.due k h);
        counters = refl;
      }

-- ---- the forms, by their lengths

other-older : (form size : ℕ) (b : List ℕ) → length b ≢ size → is_older form size b ≡ false
unfolding is_older
other-older form size b h = rw (other-form form size b h)

module _ (s : List ℕ) (m : Module Expr) (e : read s ≡ ok m) (b allowances : List ℕ) where
  abbrev state : Counters → State
  state c = older_in (variable_width m.scope) (register_width m.scope) b c

  of-short : length b ≡ 641 → is_older 1 641 b ≡ true
      → brought_over s b allowances ≡ admitted (state (alone (word_of b 633) (word_of b 637) allowances))
  unfolding brought_over over_of older_over
  of-short k h =
      rw (e, other-saved b (λ z. omega arith), other-older 3 689 b (λ z. omega arith), other-older 2 649 b (λ z. omega arith), h)

  of-long : length b ≡ 649 → is_older 2 649 b ≡ true
      → brought_over s b allowances ≡ admitted (state (alone (long_of b 633) (long_of b 641) allowances))
  unfolding brought_over over_of older_over
  of-long k h = rw (e, other-saved b (λ z. omega arith), other-older 3 689 b (λ z. omega arith), h)

  of-users : length b ≡ 689 → is_older 3 689 b ≡ true → brought_over s b allowances ≡ taken (state (counters_at b 633))
  unfolding brought_over over_of older_over
  of-users k h = rw (e, other-saved b (λ z. omega arith), h)

  of_none : length b ≢ 641 → length b ≢ 649 → length b ≢ 689 → length b ≢ 1025 → brought_over s b allowances ≡ refused 31
  unfolding brought_over over_of older_over
  of_none h k l n = rw (e, other-saved b n, other-older 3 689 b l, other-older 2 649 b k, other-older 1 641 b h)

  -- a count that the allowance reaches, and one above it
  module _ (time count : ℕ) where
    reached : count ≤ get_or allowances 0 0 → admitted (state (alone time count allowances)) ≡ taken (state (alone time count allowances))
    unfolding admitted count_of allowance_of older_in alone
    reached h = rw (le-leb count (get_or allowances 0 0) h)

    above : get_or allowances 0 0 < count → admitted (state (alone time count allowances)) ≡ refused 31
    unfolding admitted count_of allowance_of older_in alone
    above h = rw (lt-leb count (get_or allowances 0 0) h)

-- ---- each form

module _ (s : List ℕ) (m : Module Expr) (e : read s ≡ ok m) (o : Older) (n : Narrow o) (allowances : List ℕ) where
  abbrev in_bytes : List ℕ → Counters → State
  in_bytes b c = older_in (variable_width m.scope) (register_width m.scope) b c

  module _ (time count : ℕ) where
    short-laid : Laid 1 (word_bytes time ++ word_bytes count) o (saved_short o time count)
    unfolding saved_short
    short-laid = older-laid o 1 (word_bytes time ++ word_bytes count) (saved_short o time count) (stands_self (saved_short o time count))

    length-short : length (saved_short o time count) ≡ 641
    unfolding saved_short
    length-short = length-older o 1 (word_bytes time ++ word_bytes count) ∙ rw (length-pair time count)

    short-over : time < 2 ^ 32 → count < 2 ^ 32
        → brought_over s (saved_short o time count) allowances
        ≡ admitted (in_bytes (saved_short o time count) (alone time count allowances))
    short-over h k =
        let b = saved_short o time count in
        let a = short-laid.after in
        let t = stands_word b 633 time h (stands-left (word_bytes time) (word_bytes count) a) in
        let c = stands_word b 637 count k (rw (length-word time) at (stands-right (word_bytes time) (word_bytes count) a)) in
        of-short s m e b allowances length-short (laid-is_older 1 _ o b short-laid 641 length-short) ∙ rw (t, c)

    long-laid : Laid 2 (long_bytes time ++ long_bytes count) o (saved_long o time count)
    unfolding saved_long
    long-laid = older-laid o 2 (long_bytes time ++ long_bytes count) (saved_long o time count) (stands_self (saved_long o time count))

    length-of-long : length (saved_long o time count) ≡ 649
    unfolding saved_long
    length-of-long =
        length-older o 2 (long_bytes time ++ long_bytes count)
        ∙ rw (length-append (long_bytes time) (long_bytes count), length-long time, length-long count)

    long-over : time < 2 ^ 64 → count < 2 ^ 64
        → brought_over s (saved_long o time count) allowances
        ≡ admitted (in_bytes (saved_long o time count) (alone time count allowances))
    long-over h k =
        let b = saved_long o time count in
        let a = long-laid.after in
        let t = stands-long b 633 time h (stands-left (long_bytes time) (long_bytes count) a) in
        let c = stands-long b 641 count k (rw (length-long time) at (stands-right (long_bytes time) (long_bytes count) a)) in
        of-long s m e b allowances length-of-long (laid-is_older 2 _ o b long-laid 649 length-of-long) ∙ rw (t, c)

  users-laid : (c : Counters) → Laid 3 (tail c) o (saved_users o c)
  unfolding saved_users
  users-laid c = older-laid o 3 (tail c) (saved_users o c) (stands_self (saved_users o c))

  length-users : (c : Counters) → length (saved_users o c) ≡ 689
  unfolding saved_users
  length-users c = length-older o 3 (tail c) ∙ rw (length-tail c)

  users-over : (c : Counters) → Counted c → brought_over s (saved_users o c) allowances ≡ taken (in_bytes (saved_users o c) c)
  users-over c h =
      let b = saved_users o c in
      of-users s m e b allowances (length-users c) (laid-is_older 3 _ o b (users-laid c) 689 (length-users c))
      ∙ rw (tail-counters c b 633 (users-laid c).after h)

  carries_over : CarriesOver s m o allowances
  carries_over =
      record {
        short = λ time count h k a.
            let b = saved_short o time count in
            let c = alone time count allowances in
            subst (Carried m o c) (sym (short-over time count h k ∙ reached s m e b allowances time count a))
            (carried m 1 (word_bytes time ++ word_bytes count) o n b (short-laid time count) c);
        long = λ time count h k a.
            let b = saved_long o time count in
            let c = alone time count allowances in
            subst (Carried m o c) (sym (long-over time count h k ∙ reached s m e b allowances time count a))
            (carried m 2 (long_bytes time ++ long_bytes count) o n b (long-laid time count) c);
        users = λ c h.
            subst (Carried m o c) (sym (users-over c h)) (carried m 3 (tail c) o n (saved_users o c) (users-laid c) c);
        short-above = λ time count h k a.
            short-over time count h k ∙ above s m e (saved_short o time count) allowances time count a;
        long-above = λ time count h k a.
            long-over time count h k ∙ above s m e (saved_long o time count) allowances time count a;
      }

-- A state of form 4 is taken as it is.
kept : (s : List ℕ) (m : Module Expr) → read s ≡ ok m → (st : State) → Shaped st → Bounded st → (allowances : List ℕ)
    → brought_over s (saved st) allowances ≡ record { number = 0; state = st }
unfolding brought_over over_of taken
kept s m e st h n allowances = rw (e, saved-form st h n, saved-state st h n)

no-sheet : (s : List ℕ) (n p : ℕ) → read s ≡ no n p → (b allowances : List ℕ) → brought_over s b allowances ≡ refused n
unfolding brought_over over_of
no-sheet s n p e b allowances = rw e

pub brought-over : BroughtOver
brought-over =
    record {
      carries = λ s m e o n allowances. carries_over s m e o n allowances;
      kept = kept;
      no_other = of_none;
      no-sheet = no-sheet;
    }
