-- What the loops of the rise leave, word by word: registers taken, loaded and put back. Assumes nothing.
use mathlib.Core.Path.{◌≡◌, refl, ap, ◌∙◌}
use mathlib.Core.Logic.{◌≢◌}
use mathlib.Core.Bool.{Bool, true, false}
use mathlib.Core.List.{List}
use Prim.Native.Nat.{ℕ, zero, suc, ◌+◌, ◌≤◌, ◌<◌}
use native.Mathlib.Omega.{arith}
use borrow.Author.Tests.{lt-ltb}
use lib.ListN.{length, get_or, set, length-set}
use lib.Seq.{get_or-set_same, get_or-set_other}
use Rattle.values.specs.Values.{pick}
use Rattle.masks.specs.Masks.{bits}
use Rattle.events.proofs.Cycle.{Below, at-end, before, below_suc}
use Rattle.values.specs.Cells.{cell_of, cell_at}
use Rattle.plan.specs.Sections.{slot_of}
use Rattle.plan.proofs.Sections.{slot_same}
use Rattle.clock_nodes.specs.Rows.{row_place}
use Rattle.clock_steps.specs.Settling.{put_cell}
use Rattle.clock_steps.specs.Taking.{entry_cell, take_register, take_registers, load_to, store_to}

-- ---- a word set, if a test holds

pick-length : (t : Bool) (xs : List ℕ) (r v : ℕ) → length (pick t (set xs r v) xs) ≡ length xs
pick-length true xs r v = length-set xs r v
pick-length false xs r v = refl

pick_same : (t : Bool) (xs : List ℕ) (r v : ℕ) → r < length xs → get_or (pick t (set xs r v) xs) r 0 ≡ pick t v (get_or xs r 0)
pick_same true xs r v h = get_or-set_same xs r v 0 h
pick_same false xs r v h = refl

pick_other : (t : Bool) (xs : List ℕ) (r v j : ℕ) → j ≢ r → get_or (pick t (set xs r v) xs) j 0 ≡ get_or xs j 0
pick_other true xs r v j d = get_or-set_other xs r j v 0 d
pick_other false xs r v j d = refl

-- ---- take_registers

module _ (ts : List ℕ) (row : ℕ) (cs news : List ℕ) where
  abbrev pub marks : ℕ → Bool
  marks r = get_or (bits (get_or ts (row_place row + 35) 0)) r false

  abbrev at : ℕ → ℕ
  at r = cell_of (cell_at cs (entry_cell ts row r))

  pub taken-length : (n : ℕ) → length (take_registers ts row cs n news) ≡ length news
  unfolding take_registers take_register
  taken-length zero = refl
  taken-length (suc n) = pick-length (marks n) (take_registers ts row cs n news) n (at n) ∙ taken-length n

  taken-above : (n j : ℕ) → n ≤ j → get_or (take_registers ts row cs n news) j 0 ≡ get_or news j 0
  unfolding take_registers take_register
  taken-above zero j h = refl
  taken-above (suc n) j h =
      pick_other (marks n) (take_registers ts row cs n news) n (at n) j (λ e. omega arith) ∙ taken-above n j (omega arith)

  pub taken_at : (n j : ℕ) → j < n → n ≤ length news → get_or (take_registers ts row cs n news) j 0 ≡ pick (marks j) (at j) (get_or news j 0)
  unfolding take_registers take_register
  taken_at zero j h l = absurd (omega arith)
  taken_at (suc n) j h l = by (λ o. taken_at n j o (omega arith)) (below_suc n j h)
    where
      xs : List ℕ
      xs = take_registers ts row cs n news

      by : (j < n → get_or xs j 0 ≡ pick (marks j) (at j) (get_or news j 0)) → Below n j →
          get_or (pick (marks n) (set xs n (at n)) xs) j 0 ≡ pick (marks j) (at j) (get_or news j 0)
      by r (at-end e) =
          rw e
          (pick_same (marks n) xs n (at n) (omega (arith, taken-length n))
          ∙ ap (pick (marks n) (at n)) (taken-above n n (omega arith)))
      by r (before o) = pick_other (marks n) xs n (at n) j (λ e. omega arith) ∙ r o

-- ---- load_to

module _ (cs : List ℕ) (first : ℕ) (news : List ℕ) where
  pub load-length : (n : ℕ) → length (load_to cs first n news) ≡ length news
  unfolding load_to
  load-length zero = refl
  load-length (suc n) = length-set (load_to cs first n news) n _ ∙ load-length n

  pub load_at : (n j : ℕ) → j < n → n ≤ length news → first + n ≤ 4176 → get_or (load_to cs first n news) j 0 ≡ get_or cs (first + j) 0
  unfolding load_to
  load_at zero j h l m = absurd (omega arith)
  load_at (suc n) j h l m = by (λ o. load_at n j o (omega arith) (omega arith)) (below_suc n j h)
    where
      xs : List ℕ
      xs = load_to cs first n news

      by : (j < n → get_or xs j 0 ≡ get_or cs (first + j) 0) → Below n j →
          get_or (set xs n (get_or cs (slot_of (first + n)) 0)) j 0 ≡ get_or cs (first + j) 0
      by r (at-end e) =
          rw e
          (get_or-set_same xs n _ 0 (omega (arith, load-length n)) ∙ ap (λ (k : ℕ). get_or cs k 0) (slot_same (first + n) (omega arith)))
      by r (before o) = get_or-set_other xs n j _ 0 (λ e. omega arith) ∙ r o

-- ---- store_to

put_is : (v c : ℕ) (cs : List ℕ) → v < 80 → put_cell v c cs ≡ set cs v c
unfolding put_cell
put_is v c cs h = rw (lt-ltb v 80 h)

module _ (news : List ℕ) (first : ℕ) (cs : List ℕ) where
  pub store_length : (n : ℕ) → first + n ≤ 80 → length (store_to news first n cs) ≡ length cs
  unfolding store_to
  store_length zero h = refl
  store_length (suc n) h =
      ap length (put_is (first + n) (get_or news n 0) (store_to news first n cs) (omega arith))
      ∙ length-set (store_to news first n cs) (first + n) _
      ∙ store_length n (omega arith)

  pub store_other : (n : ℕ) → first + n ≤ 80 → (v : ℕ) → ((r : ℕ) → r < n → v ≢ first + r) → get_or (store_to news first n cs) v 0
      ≡ get_or cs v 0
  unfolding store_to
  store_other zero h v d = refl
  store_other (suc n) h v d =
      ap (λ (l : List ℕ). get_or l v 0) (put_is (first + n) (get_or news n 0) (store_to news first n cs) (omega arith))
      ∙ get_or-set_other (store_to news first n cs) (first + n) v _ 0 (d n (omega arith))
      ∙ store_other n (omega arith) v (λ r o. d r (omega arith))

  pub store_at : (n : ℕ) → first + n ≤ 80 → 80 ≤ length cs → (j : ℕ) → j < n → get_or (store_to news first n cs) (first + j) 0 ≡ get_or news j 0
  unfolding store_to
  store_at zero h l j o = absurd (omega arith)
  store_at (suc n) h l j o =
      ap (λ (x : List ℕ). get_or x (first + j) 0) (put_is (first + n) (get_or news n 0) (store_to news first n cs) (omega arith))
      ∙ by (λ u. store_at n (omega arith) l j u) (below_suc n j o)
    where
      xs : List ℕ
      xs = store_to news first n cs

      by : (j < n → get_or xs (first + j) 0 ≡ get_or news j 0) → Below n j → get_or (set xs (first + n) (get_or news n 0)) (first + j) 0
          ≡ get_or news j 0
      by r (at-end e) = rw e (get_or-set_same xs (first + n) (get_or news n 0) 0 (omega (arith, store_length n (omega arith))))
      by r (before u) = get_or-set_other xs (first + n) (first + j) _ 0 (λ e. omega arith) ∙ r u
