-- Words put one after the other: into cells from a variable on, and into a list from its start on, all of them or those for which a test
-- holds. Assumes nothing.
use mathlib.Core.Path.{◌≡◌, refl, sym, ap, ◌∙◌}
use mathlib.Core.Logic.{◌≢◌}
use mathlib.Core.Bool.{Bool, true, false}
use mathlib.Core.List.{List}
use Prim.Native.Nat.{ℕ, zero, suc, ◌+◌, ◌≤◌, ◌<◌}
use native.Mathlib.Decide.{dec_lt}
use native.Mathlib.Omega.{arith}
use borrow.Author.Tests.{lt-ltb}
use lib.ListN.{length, get_or, set, length-set}
use lib.Seq.{get_or-set_same, get_or-set_other, set-get_or, ext_get_or}
use Rattle.values.specs.Values.{pick}
use Rattle.values.specs.Planes.{value_at}
use Rattle.events.proofs.Cycle.{Below, at-end, before, below_suc}
use Rattle.clock_steps.specs.Settling.{put_cell}

-- ---- into cells

unfoldable pub put_from : (ℕ → ℕ) → ℕ → ℕ → List ℕ → List ℕ
put_from c first zero cs = cs
put_from c first (suc r) cs = put_cell (first + r) (c r) (put_from c first r cs)

pub put_is : (v c : ℕ) (cs : List ℕ) → v < 80 → put_cell v c cs ≡ set cs v c
unfolding put_cell
put_is v c cs h = rw (lt-ltb v 80 h)

module _ (c : ℕ → ℕ) (first : ℕ) (cs : List ℕ) where
  pub put-length : (n : ℕ) → first + n ≤ 80 → length (put_from c first n cs) ≡ length cs
  unfolding put_from
  put-length zero h = refl
  put-length (suc n) h =
      ap length (put_is (first + n) (c n) (put_from c first n cs) (omega arith))
      ∙ length-set (put_from c first n cs) (first + n) _
      ∙ put-length n (omega arith)

  pub put_other : (n : ℕ) → first + n ≤ 80 → (v : ℕ) → ((r : ℕ) → r < n → v ≢ first + r) → get_or (put_from c first n cs) v 0 ≡ get_or cs v 0
  unfolding put_from
  put_other zero h v d = refl
  put_other (suc n) h v d =
      ap (λ (l : List ℕ). get_or l v 0) (put_is (first + n) (c n) (put_from c first n cs) (omega arith))
      ∙ get_or-set_other (put_from c first n cs) (first + n) v _ 0 (d n (omega arith))
      ∙ put_other n (omega arith) v (λ r o. d r (omega arith))

  pub put-at : (n : ℕ) → first + n ≤ 80 → 80 ≤ length cs → (j : ℕ) → j < n → get_or (put_from c first n cs) (first + j) 0 ≡ c j
  unfolding put_from
  put-at zero h l j o = absurd (omega arith)
  put-at (suc n) h l j o =
      ap (λ (x : List ℕ). get_or x (first + j) 0) (put_is (first + n) (c n) (put_from c first n cs) (omega arith))
      ∙ by (λ u. put-at n (omega arith) l j u) (below_suc n j o)
    where
      xs : List ℕ
      xs = put_from c first n cs

      by : (j < n → get_or xs (first + j) 0 ≡ c j) → Below n j → get_or (set xs (first + n) (c n)) (first + j) 0 ≡ c j
      by r (at-end e) = rw e (get_or-set_same xs (first + n) (c n) 0 (omega (arith, put-length n (omega arith))))
      by r (before u) = get_or-set_other xs (first + n) (first + j) _ 0 (λ e. omega arith) ∙ r u

-- ---- into a list

unfoldable pub set_to : {A : Type 0} → (ℕ → A) → ℕ → List A → List A
set_to c zero xs = xs
set_to c (suc r) xs = set (set_to c r xs) r (c r)

-- Those for which t holds.
unfoldable pub pick_to : {A : Type 0} → (ℕ → Bool) → (ℕ → A) → ℕ → List A → List A
pick_to t c zero xs = xs
pick_to t c (suc r) xs = pick (t r) (set (pick_to t c r xs) r (c r)) (pick_to t c r xs)

module _ {A : Type 0} (c : ℕ → A) (other : A) (xs : List A) where
  pub to-length : (n : ℕ) → length (set_to c n xs) ≡ length xs
  unfolding set_to
  to-length zero = refl
  to-length (suc n) = length-set (set_to c n xs) n (c n) ∙ to-length n

  pub to-above : (n j : ℕ) → n ≤ j → get_or (set_to c n xs) j other ≡ get_or xs j other
  unfolding set_to
  to-above zero j h = refl
  to-above (suc n) j h = get_or-set_other (set_to c n xs) n j (c n) other (λ e. omega arith) ∙ to-above n j (omega arith)

  pub to_at : (n j : ℕ) → j < n → n ≤ length xs → get_or (set_to c n xs) j other ≡ c j
  unfolding set_to
  to_at zero j h l = absurd (omega arith)
  to_at (suc n) j h l = by (λ o. to_at n j o (omega arith)) (below_suc n j h)
    where
      ys : List A
      ys = set_to c n xs

      by : (j < n → get_or ys j other ≡ c j) → Below n j → get_or (set ys n (c n)) j other ≡ c j
      by r (at-end e) = rw e (get_or-set_same ys n (c n) other (omega (arith, to-length n)))
      by r (before o) = get_or-set_other ys n j (c n) other (λ e. omega arith) ∙ r o

  -- All put, where those for which t doesn't hold are as they were.
  pub to-picked : (t : ℕ → Bool) (d : ℕ → A) (n : ℕ) → ((r : ℕ) → r < n → c r ≡ pick (t r) (d r) (get_or xs r other)) →
      set_to c n xs ≡ pick_to t d n xs
  unfolding set_to pick_to
  to-picked t d zero h = refl
  to-picked t d (suc n) h = by (t n) (h n (omega arith)) (to-picked t d n (λ r o. h r (omega arith)))
    where
      ys : List A
      ys = set_to c n xs

      by : (u : Bool) → c n ≡ pick u (d n) (get_or xs n other) → ys ≡ pick_to t d n xs →
          set ys n (c n) ≡ pick u (set (pick_to t d n xs) n (d n)) (pick_to t d n xs)
      by true e p = rw (e, ← p)
      by false e p =
          ap (set ys n) (e ∙ sym (to-above n n (omega arith))) ∙ set-get_or ys n other ∙ p

-- What is put over is put.
pub to-twice : {A : Type 0} (f : ℕ → A) (other : A) (c : ℕ → A) (n : ℕ) (xs : List A) → n ≤ length xs → set_to f n (set_to c n xs)
    ≡ set_to f n xs
to-twice f other c n xs l =
    ext_get_or other (set_to f n (set_to c n xs)) (set_to f n xs)
    (to-length f other (set_to c n xs) n ∙ to-length c other xs n ∙ sym (to-length f other xs n)) (λ j o. by j (dec_lt j n))
  where
    by : (j : ℕ) → Dec (j < n) → get_or (set_to f n (set_to c n xs)) j other ≡ get_or (set_to f n xs) j other
    by j (yes h) = to_at f other (set_to c n xs) n j h (omega (arith, to-length c other xs n)) ∙ sym (to_at f other xs n j h l)
    by j (no d) =
        to-above f other (set_to c n xs) n j (omega arith)
        ∙ to-above c other xs n j (omega arith)
        ∙ sym (to-above f other xs n j (omega arith))

-- ---- two planes that hold the same number and the same marks

pub planes-same : (ns us ms ws : List ℕ) (v w : ℕ) → get_or ns v 0 ≡ get_or ms w 0 → get_or us v 0 ≡ get_or ws w 0 →
    value_at ns us v ≡ value_at ms ws w
unfolding value_at
planes-same ns us ms ws v w n u = λ i. record { number = n i; unknown = u i }
