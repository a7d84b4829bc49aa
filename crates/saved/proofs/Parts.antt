-- The parts that all forms have, at any place in bytes: flags, places, marks of wires, and the counters; and a form cut into its parts.
-- Assumes nothing.
use mathlib.Core.Path.{◌≡◌, ◌∙◌}
use mathlib.Core.Bool.{Bool, true, false}
use mathlib.Core.List.{List, ◌∷◌, ◌++◌}
use Prim.Native.Nat.{ℕ, ◌+◌, ◌*◌, ◌<◌}
use native.Mathlib.Omega.{arith}
use lib.ListN.{length, get_or, length-append}
use Rattle.sheet.specs.Reading.{word_of}
use Rattle.state.specs.declared.Counters.{Counters}
use Rattle.saved.specs.Saved.{flag_byte, word_bytes, long_bytes, place_row, due_row, place_bytes, due_bytes}
use Rattle.saved.specs.Saved.{count_bytes, allowance_bytes, tail}
use Rattle.saved.specs.Saved.{Bytes, is_flag, flags, flag_at, flags_at, places_at, long_of, counters_at}
use Rattle.saved.specs.Claims.{Counted}
use Rattle.state.proofs.Rows.{get_d-list_of, list_of-is, all_below-each, each-all_below}
use Rattle.state.proofs.Rows.{Stands, stands-cons, stands-head, stands-tail, stands-append}
use Rattle.state.proofs.Rows.{stands-left, stands-right, stands-row, rows-stand}
use Rattle.saved.proofs.Stores.{length-word, length-long, length-place, length-due, length-counts, length-allowances}
use Rattle.saved.proofs.Bytes.{stands_word, word_stands, flag_at-byte, is_flag-byte}
use Rattle.saved.proofs.Bytes.{AllBytes, bytes-append, bytes-rows, bytes_word}
use Rattle.saved.proofs.Long.{bytes-long, stands-long, long-stands}

-- ---- flags

module _ (b : List ℕ) (at step : ℕ) where
  pub flags-all : (n : ℕ) (f : ℕ → Bool) → ((k : ℕ) → k < n → get_or b (at + step * k) 0 ≡ flag_byte (f k)) → flags b at step n ≡ true
  unfolding flags
  flags-all n f h = each-all_below (λ k. is_flag b (at + step * k)) n (λ k l. is_flag-byte b (at + step * k) (f k) (h k l))

  pub flags-each : (n : ℕ) → flags b at step n ≡ true → (k : ℕ) → k < n → is_flag b (at + step * k) ≡ true
  unfolding flags
  flags-each n h = all_below-each (λ k. is_flag b (at + step * k)) n h

  pub get_d-flags_at : (k : ℕ) → k < 32 → get_or (flags_at b at step) k false ≡ flag_at b (at + step * k)
  unfolding flags_at
  get_d-flags_at k h = get_d-list_of (λ j. flag_at b (at + step * j)) 32 k false h

  pub flags_at-is : (fs : List Bool) → length fs ≡ 32 → ((k : ℕ) → k < 32 → get_or b (at + step * k) 0 ≡ flag_byte (get_or fs k false))
      → flags_at b at step ≡ fs
  unfolding flags_at
  flags_at-is fs e h =
      list_of-is (λ j. flag_at b (at + step * j)) fs false 32 e (λ k l. flag_at-byte b (at + step * k) (get_or fs k false) (h k l))

-- ---- places, and the marks of wires

module _ (b : List ℕ) (at : ℕ) where
  pub place_at : (ps : List ℕ) → Stands b at (place_bytes ps) → (i : ℕ) → i < 8 → get_or b (at + i) 0 ≡ get_or ps i 0
  unfolding place_bytes place_row
  place_at ps s i h =
      let e : at + 1 * i ≡ at + i = omega arith in
      rw e at (stands-head (stands-row 1 (place_row ps) (length-place ps) b at 8 s i h))

  pub get_d-places_at : (i : ℕ) → i < 8 → get_or (places_at b at) i 0 ≡ get_or b (at + i) 0
  unfolding places_at
  get_d-places_at i h = get_d-list_of (λ j. get_or b (at + j) 0) 8 i 0 h

  pub places_at-is : (ps : List ℕ) → length ps ≡ 8 → Stands b at (place_bytes ps) → places_at b at ≡ ps
  unfolding places_at
  places_at-is ps e s = list_of-is (λ j. get_or b (at + j) 0) ps 0 8 e (place_at ps s)

  pub due-at : (ds : List Bool) → Stands b at (due_bytes ds) → (k : ℕ) → k < 32 → get_or b (at + 1 * k) 0 ≡ flag_byte (get_or ds k false)
  unfolding due_bytes due_row
  due-at ds s k h = stands-head (stands-row 1 (due_row ds) (length-due ds) b at 32 s k h)

-- ---- the tail: the time, the counts and the allowances

module _ (c : Counters) where
  length-times : length (long_bytes c.time ++ count_bytes c.counts) ≡ 40
  length-times =
      length-append (long_bytes c.time) (count_bytes c.counts) ∙ rw (length-long c.time, length-counts c.counts)

  pub length-tail : length (tail c) ≡ 56
  unfolding tail
  length-tail =
      length-append (long_bytes c.time ++ count_bytes c.counts) (allowance_bytes c.allowances)
      ∙ rw (length-times, length-allowances c.allowances)

  pub tail-bytes : AllBytes (tail c)
  unfolding tail count_bytes allowance_bytes
  tail-bytes =
      bytes-append (bytes-append (bytes-long c.time) (bytes-rows 4 (λ u. bytes-long (get_or c.counts u 0))))
      (bytes-rows 4 (λ u. bytes_word (get_or c.allowances u 0)))

  module _ (b : List ℕ) (at : ℕ) (s : Stands b at (tail c)) where
    counts-in : Stands b (at + 8) (count_bytes c.counts)
    unfolding tail
    counts-in =
        rw (length-long c.time)
        at (stands-right (long_bytes c.time) (count_bytes c.counts)
        (stands-left (long_bytes c.time ++ count_bytes c.counts) (allowance_bytes c.allowances) s))

    allowances-in : Stands b (at + 40) (allowance_bytes c.allowances)
    unfolding tail
    allowances-in =
        rw length-times at (stands-right (long_bytes c.time ++ count_bytes c.counts) (allowance_bytes c.allowances) s)

    time-in : Stands b at (long_bytes c.time)
    unfolding tail
    time-in =
        stands-left (long_bytes c.time) (count_bytes c.counts)
        (stands-left (long_bytes c.time ++ count_bytes c.counts) (allowance_bytes c.allowances) s)

    pub tail-counters : Counted c → counters_at b at ≡ c
    unfolding counters_at count_bytes allowance_bytes
    tail-counters n =
        let count : ℕ → List ℕ = λ u. long_bytes (get_or c.counts u 0) in
        let allowance : ℕ → List ℕ = λ u. word_bytes (get_or c.allowances u 0) in
        let time = stands-long b at c.time n.time time-in in
        let counts = list_of-is (λ u. long_of b (at + 8 + 8 * u)) c.counts 0 4 n.four-counts
        (λ u h. stands-long b (at + 8 + 8 * u) _ (n.counts u)
        (stands-row 8 count (λ k. length-long _) b (at + 8) 4 counts-in u h)) in
        let allowances = list_of-is (λ u. word_of b (at + 40 + 4 * u)) c.allowances 0 4 n.four-allowances
        (λ u h. stands_word b (at + 40 + 4 * u) _ (n.allowances u)
        (stands-row 4 allowance (λ k. length-word _) b (at + 40) 4 allowances-in u h)) in
        λ i. record { time = time i; counts = counts i; allowances = allowances i }

pub counters-tail : (b : List ℕ) (at : ℕ) → Bytes b → Stands b at (tail (counters_at b at))
unfolding tail counters_at count_bytes allowance_bytes
counters-tail b at bytes =
    let c = counters_at b at in
    let counts = rows-stand 8 (λ u. long_bytes (get_or c.counts u 0)) (λ u. length-long _) b (at + 8) 4
    (λ u h. rw (get_d-list_of (λ k. long_of b (at + 8 + 8 * k)) 4 u 0 h) (long-stands b (at + 8 + 8 * u) bytes)) in
    let allowances = rows-stand 4 (λ u. word_bytes (get_or c.allowances u 0)) (λ u. length-word _) b (at + 40) 4
    (λ u h. rw (get_d-list_of (λ k. word_of b (at + 40 + 4 * k)) 4 u 0 h) (word_stands b (at + 40 + 4 * u) bytes)) in
    stands-append (long_bytes c.time ++ count_bytes c.counts) (allowance_bytes c.allowances)
    (stands-append (long_bytes c.time) (count_bytes c.counts) (long-stands b at bytes) (rw (length-long c.time) counts))
    (rw (length-times c) allowances)

-- ---- a form, cut into its parts: its number, values of x bytes, slots of y, 8 places, 32 marks of wires, and what follows

pub record Cut (form : ℕ) (vs ss ps ds t : List ℕ) (x y : ℕ) (b : List ℕ) : Type 0 where
  pub first : get_or b 0 0 ≡ form
  pub values : Stands b 1 vs
  pub slots : Stands b (1 + x) ss
  pub places : Stands b (1 + x + y) ps
  pub due : Stands b (9 + x + y) ds
  pub after : Stands b (41 + x + y) t

module _ (form : ℕ) (vs ss ps ds t : List ℕ) (x y : ℕ)
    (lv : length vs ≡ x) (ls : length ss ≡ y) (lp : length ps ≡ 8) (ld : length ds ≡ 32) where
  to_slots : 1 + length vs ≡ 1 + x
  to_slots = rw lv

  to-places : 1 + length (vs ++ ss) ≡ 1 + x + y
  to-places = rw (length-append vs ss, lv, ls) (omega arith)

  to-due : 1 + length (vs ++ ss ++ ps) ≡ 9 + x + y
  to-due = rw (length-append (vs ++ ss) ps, lp) (omega (arith, to-places))

  to-after : 0 + length (form ∷ (vs ++ ss ++ ps ++ ds)) ≡ 41 + x + y
  to-after = rw (length-append (vs ++ ss ++ ps) ds, ld) (omega (arith, to-due))

  pub length-form : length (form ∷ (vs ++ ss ++ ps ++ ds) ++ t) ≡ 41 + x + y + length t
  length-form = length-append (form ∷ (vs ++ ss ++ ps ++ ds)) t ∙ omega (arith, to-after)

  module _ (b : List ℕ) where
    pub form-cut : Stands b 0 (form ∷ (vs ++ ss ++ ps ++ ds) ++ t) → Cut form vs ss ps ds t x y b
    form-cut s =
        let h = stands-left (form ∷ (vs ++ ss ++ ps ++ ds)) t s in
        let c = stands-tail h in
        let d = stands-left (vs ++ ss ++ ps) ds c in
        let e = stands-left (vs ++ ss) ps d in
        record {
          first = stands-head h;
          values = stands-left vs ss e;
          slots = rw to_slots at (stands-right vs ss e);
          places = rw to-places at (stands-right (vs ++ ss) ps d);
          due = rw to-due at (stands-right (vs ++ ss ++ ps) ds c);
          after = rw to-after at (stands-right (form ∷ (vs ++ ss ++ ps ++ ds)) t s);
        }

    pub cut-form : Cut form vs ss ps ds t x y b → Stands b 0 (form ∷ (vs ++ ss ++ ps ++ ds) ++ t)
    cut-form l =
        let c = stands-append vs ss l.values (rw to_slots l.slots) in
        let d = stands-append (vs ++ ss) ps c (rw to-places l.places) in
        let e = stands-append (vs ++ ss ++ ps) ds d (rw to-due l.due) in
        stands-append (form ∷ (vs ++ ss ++ ps ++ ds)) t (stands-cons l.first e) (rw to-after l.after)
