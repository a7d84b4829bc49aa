-- Laws of numbers entered by id: the table has for each id the place of the first token that has it. Assumes nothing.
use mathlib.Core.Path.{◌≡◌, refl, sym, ◌∙◌, ap}
use mathlib.Core.Bool.{Bool, true, false}
use mathlib.Core.List.{List, [], ◌∷◌, ◌++◌, append_assoc}
use Prim.Native.Nat.{ℕ, zero, suc, ◌+◌, ◌-◌, ◌<◌, ◌≤◌}
use native.Mathlib.Numerals.{add-one}
use native.Mathlib.Omega.{arith}
use borrow.Author.Tests.{eqb-true, eqb-false, lt-ltb, le-ltb}
use lib.Dec.{ltb, eqb}
use lib.ListN.{length, get_or, set, replicate, length-set, length-append, length-replicate, get_or-replicate}
use lib.Seq.{get_or-set_same, get_or-set_other}
use Rattle.values.specs.Values.{pick}
use Rattle.verilog_grammar.specs.Meaning.{up_to}
use Rattle.verilog_names.specs.Chosen.{here, chosen, has_role, count_of}
use Rattle.verilog_names.specs.Numbers.{ordered, place_of, entry, entered, by_id, number_at}
use Rattle.verilog_names.proofs.Chosen.{here_in, here_out, chosen-step, chosen-all, chosen-done}

-- ---- one entry

module _ (table : List ℕ) (id v : ℕ) where
  pub entry_length : length (entry table id v) ≡ length table
  unfolding entry
  entry_length = by (ltb id 16385)
    where
      by : (b : Bool) → length (pick b (set table id v) table) ≡ length table
      by true = length-set table id v
      by false = refl

  pub entry-same : id < 16385 → id < length table → get_or (entry table id v) id 0 ≡ v
  unfolding entry
  entry-same h l = rw (lt-ltb id 16385 h) (get_or-set_same table id v 0 l)

  pub entry_other : (x : ℕ) → (x ≡ id → ⊥) → get_or (entry table id v) x 0 ≡ get_or table x 0
  unfolding entry
  entry_other x f = by (ltb id 16385)
    where
      by : (b : Bool) → get_or (pick b (set table id v) table) x 0 ≡ get_or table x 0
      by true = get_or-set_other table id x v 0 f
      by false = refl

  pub at_slot : (k : ℕ) → k ≡ id → k < 16385 → set table k v ≡ entry table id v
  unfolding entry
  at_slot k e h = ap (λ j. set table j v) e ∙ rw (lt-ltb id 16385 (omega arith))

  pub past-slot : (k : ℕ) → k ≡ id → 16385 ≤ k → table ≡ entry table id v
  unfolding entry
  past-slot k e h = rw (le-ltb id 16385 (omega arith))

-- ---- many

module _ (ids : List ℕ) where
  entered-length : (ts : List ℕ) (first : ℕ) (table : List ℕ) → length (entered ids ts first table) ≡ length table
  unfolding entered
  entered-length [] first table = refl
  entered-length (t ∷ ts) first table =
      entry_length (entered ids ts (suc first) table) (get_or ids t 0) (up_to 255 first) ∙ entered-length ts (suc first) table

  -- One list entered behind another.
  pub entered-append : (xs ys : List ℕ) (first : ℕ) (table : List ℕ)
      → entered ids xs first (entered ids ys (first + length xs) table) ≡ entered ids (xs ++ ys) first table
  unfolding entered
  entered-append [] ys first table = ap (λ k. entered ids ys k table) {x = first + 0} {y = first} (omega arith)
  entered-append (t ∷ xs) ys first table =
      ap (λ l. entry l (get_or ids t 0) (up_to 255 first))
      (ap (λ k. entered ids xs (suc first) (entered ids ys k table))
      {x = first + suc (length xs)} {y = suc first + length xs} (omega arith)
      ∙ entered-append xs ys (suc first) table)

  module _ (x t first p : ℕ) (r : List ℕ) (w : x < 16385) (h : x < length r) (e : get_or r x 0 ≡ up_to 255 (suc first + p)) where
    entered-one : (b : Bool) → eqb (get_or ids t 0) x ≡ b
        → get_or (entry r (get_or ids t 0) (up_to 255 first)) x 0 ≡ up_to 255 (first + pick b 0 (suc p))
    entered-one true q =
        ap (λ k. get_or (entry r k (up_to 255 first)) x 0) (eqb-true (get_or ids t 0) x q)
        ∙ entry-same r x (up_to 255 first) w h
        ∙ ap (up_to 255) {x = first} {y = first + 0} (omega arith)
    entered-one false q =
        entry_other r (get_or ids t 0) (up_to 255 first) x (λ z. eqb-false (get_or ids t 0) x q (sym z))
        ∙ e
        ∙ ap (up_to 255) {x = suc first + p} {y = first + suc p} (omega arith)

  entered_at : (x : ℕ) (ts : List ℕ) (first : ℕ) (table : List ℕ) → x < 16385 → x < length table
      → get_or table x 0 ≡ up_to 255 (first + length ts) → get_or (entered ids ts first table) x 0 ≡ up_to 255 (first + place_of ids ts x)
  unfolding entered place_of
  entered_at x [] first table w h e = e
  entered_at x (t ∷ ts) first table w h e =
      entered-one x t first (place_of ids ts x) (entered ids ts (suc first) table) w
      (rw (entered-length ts (suc first) table) h)
      (entered_at x ts (suc first) table w h
      (e ∙ ap (up_to 255) {x = first + suc (length ts)} {y = suc first + length ts} (omega arith)))
      (eqb (get_or ids t 0) x)
      refl

  entered-known : (x n : ℕ) (ts : List ℕ) → x < 16385 → x < n
      → get_or (entered ids ts 0 (replicate n (up_to 255 (length ts)))) x 0 ≡ up_to 255 (place_of ids ts x)
  entered-known x n ts w h =
      let v = up_to 255 (length ts) in
      entered_at x ts 0 (replicate n v) w (rw (length-replicate n v) h)
      (get_or-replicate n x v 0 h ∙ ap (up_to 255) {x = length ts} {y = 0 + length ts} (omega arith))
      ∙ ap (up_to 255) {x = 0 + place_of ids ts x} {y = place_of ids ts x} (omega arith)

  -- The table by id.
  pub known : (roles table : List ℕ) (n x : ℕ) → table ≡ by_id ids roles n → x < 16385
      → get_or table x 0 ≡ up_to 255 (place_of ids (ordered roles n) x)
  unfolding by_id
  known roles table n x e h = ap (λ l. get_or l x 0) e ∙ entered-known x 16385 (ordered roles n) h h

  pub known-number : (kinds roles table : List ℕ) (n i k r : ℕ) → get_or kinds i 0 ≡ 64 → table ≡ by_id ids roles n → k ≡ get_or ids i 0
      → k < 16385 → r ≡ get_or table k 0 → r ≡ number_at kinds ids roles n i
  unfolding number_at
  known-number kinds roles table n i k r a e q h s =
      s ∙ known roles table n k e h ∙ ap (λ y. up_to 255 (place_of ids (ordered roles n) y)) q ∙ rw a

-- ---- one token

module _ (ids roles table : List ℕ) (r i above : ℕ) where
  pub enter-none : has_role roles r i ≡ false → (above + length (here (has_role roles r) i) ≡ above)
      × (table ≡ entered ids (here (has_role roles r) i) above table)
  unfolding entered
  enter-none e = rw (here_out (has_role roles r) i e) (omega arith, refl)

  pub enter-room : has_role roles r i ≡ true → length (here (has_role roles r) i) ≤ above → 1 ≤ above
  enter-room e h = rw (here_in (has_role roles r) i e) at h

  pub enter_one : (new : List ℕ) (v : ℕ) → has_role roles r i ≡ true → 1 ≤ above → v ≡ up_to 255 (above - 1)
      → new ≡ entry table (get_or ids i 0) v → (above - 1 + length (here (has_role roles r) i) ≡ above)
      × (new ≡ entered ids (here (has_role roles r) i) (above - 1) table)
  unfolding entered
  enter_one new v e h q s = rw (here_in (has_role roles r) i e) (omega arith, s ∙ ap (entry table (get_or ids i 0)) q)

-- ---- all tokens of a role, from the last on

module _ (test : ℕ → Bool) (n : ℕ) where
  count_less : (i : ℕ) → i < n → length (chosen test (n - (i + 1)) (i + 1)) ≤ length (chosen test (n - i) i)
  count_less i h =
      omega (arith, ap length (chosen-step test n i h), length-append (here test i) (chosen test (n - (i + 1)) (i + 1)))

  count-back : (i : ℕ) → i ≤ n → length (chosen test (n - i) i) ≤ length (chosen test n 0)
  count-back zero h = rw (chosen-all test n) (omega arith)
  count-back (suc i) h =
      let l : i < n = omega arith in
      let s = rw (add-one i) at (count_less i l) in
      omega (arith, s, count-back i (omega arith))

module _ (ids roles : List ℕ) (r n above : ℕ) (table₀ : List ℕ) where
  abbrev pub Entering : List ℕ → ℕ → ℕ → Type 0
  Entering table k i =
      (i ≤ n)
      × ((k + length (chosen (has_role roles r) (n - i) i) ≡ above)
      × (table ≡ entered ids (chosen (has_role roles r) (n - i) i) k table₀))

  pub entering-first : Entering table₀ above n
  unfolding entered
  entering-first =
      let e = chosen-done (has_role roles r) n n (omega arith) in
      (omega arith, (rw e (omega arith), rw e))

  pub entering-room : (table : List ℕ) (k i j : ℕ) → i ≡ j + 1 → count_of roles n r ≤ above → Entering table k i
      → length (here (has_role roles r) j) ≤ k
  entering-room table k i j e h (a, (b, c)) =
      let test = has_role roles r in
      let l : j < n = omega arith in
      let s = ap length (chosen-step test n j l) ∙ length-append (here test j) (chosen test (n - (j + 1)) (j + 1)) in
      let b' : k + length (chosen test (n - (j + 1)) (j + 1)) ≡ above = rw e at b in
      omega (arith, s, count-back test n j (omega arith))

  pub entering-next : (table new : List ℕ) (k i j m : ℕ) → i ≡ j + 1 → Entering table k i
      → (m + length (here (has_role roles r) j) ≡ k) × (new ≡ entered ids (here (has_role roles r) j) m table) → Entering new m j
  entering-next table new k i j m e (a, (b, c)) (p, q) =
      let test = has_role roles r in
      let rest = chosen test (n - (j + 1)) (j + 1) in
      let l : j < n = omega arith in
      let s = chosen-step test n j l in
      let b' : k + length rest ≡ above = rw e at b in
      let c' : table ≡ entered ids rest k table₀ = rw e at c in (
        omega arith,
        (
          omega (arith, ap length s, length-append (here test j) rest),
          q
              ∙ ap (entered ids (here test j) m) (c' ∙ ap (λ y. entered ids rest y table₀) (sym p))
              ∙ entered-append ids (here test j) rest m table₀
              ∙ ap (λ y. entered ids y m table₀) (sym s),
        ),
      )

  pub entering-last : (table : List ℕ) (k i : ℕ) → i ≡ 0 → Entering table k i → (k + count_of roles n r ≡ above)
      × (table ≡ entered ids (chosen (has_role roles r) n 0) k table₀)
  entering-last table k i e (a, (b, c)) =
      let all = ap (λ m. chosen (has_role roles r) (n - m) m) e ∙ chosen-all (has_role roles r) n in
      (omega (arith, ap length all), c ∙ ap (λ y. entered ids y k table₀) all)

-- ---- all variables

module _ (roles : List ℕ) (n : ℕ) where
  pub ordered-length : length (ordered roles n) ≡ count_of roles n 1 + count_of roles n 2 + count_of roles n 3
  unfolding ordered
  ordered-length =
      let a = chosen (has_role roles 1) n 0 in
      let b = chosen (has_role roles 2) n 0 in
      let c = chosen (has_role roles 3) n 0 in
      omega (arith, length-append (a ++ b) c, length-append a b)

  pub entered_all : (ids table t₃ t₂ t₁ : List ℕ) (all a b c : ℕ) → all ≡ length (ordered roles n)
      → (a + count_of roles n 3 ≡ all) × (t₃ ≡ entered ids (chosen (has_role roles 3) n 0) a table)
      → (b + count_of roles n 2 ≡ a) × (t₂ ≡ entered ids (chosen (has_role roles 2) n 0) b t₃)
      → (c + count_of roles n 1 ≡ b) × (t₁ ≡ entered ids (chosen (has_role roles 1) n 0) c t₂)
      → t₁ ≡ entered ids (ordered roles n) 0 table
  unfolding ordered
  entered_all ids table t₃ t₂ t₁ all a b c e (p₃, q₃) (p₂, q₂) (p₁, q₁) =
      let xs = chosen (has_role roles 1) n 0 in
      let ys = chosen (has_role roles 2) n 0 in
      let zs = chosen (has_role roles 3) n 0 in
      let z : c ≡ 0 = omega (arith, ordered-length) in
      let s₂ : t₂ ≡ entered ids (ys ++ zs) b table =
      q₂ ∙ ap (entered ids ys b) (q₃ ∙ ap (λ k. entered ids zs k table) (sym p₂)) ∙ entered-append ids ys zs b table in
      q₁
      ∙ ap (entered ids xs c) (s₂ ∙ ap (λ k. entered ids (ys ++ zs) k table) (sym p₁))
      ∙ entered-append ids xs (ys ++ zs) c table
      ∙ ap (λ l. entered ids l c table) (sym (append_assoc xs ys zs))
      ∙ ap (λ k. entered ids ((xs ++ ys) ++ zs) k table) z

  pub by-id : (ids table : List ℕ) (v all : ℕ) → v ≡ up_to 255 all → all ≡ length (ordered roles n)
      → table ≡ entered ids (ordered roles n) 0 (replicate 16385 v) → table ≡ by_id ids roles n
  unfolding by_id
  by-id ids table v all p q e =
      e ∙ ap (λ y. entered ids (ordered roles n) 0 (replicate 16385 y)) (p ∙ ap (up_to 255) q)

  pub counted-all : (a b c : ℕ) → a ≡ count_of roles n 1 → b ≡ count_of roles n 2 → c ≡ count_of roles n 3
      → a + b + c ≡ length (ordered roles n)
  counted-all a b c p q s = omega (arith, ordered-length)
