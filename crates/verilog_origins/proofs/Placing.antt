-- Laws of the search for what a refusal of extraction concerns. Assumes nothing.
use mathlib.Core.Path.{◌≡◌}
use mathlib.Core.List.{List}
use Prim.Native.Nat.{ℕ, suc, ◌+◌, ◌-◌, ◌≤◌, ◌<◌}
use native.Mathlib.Omega.{arith}
use borrow.Author.Tests.{eq-eqb, ne_eqb}
use lib.ListN.{get_or}
use Rattle.verilog_scan.specs.Scan.{Scanned}
use Rattle.verilog_exprs.specs.declared.Put.{Put}
use Rattle.verilog_exprs.specs.Rows.{row_at, wrote}
use Rattle.verilog_names.specs.Chosen.{capped, chosen, has_role}
use Rattle.verilog_names.specs.Order.{target_of}
use Rattle.verilog_names.proofs.Chosen.{here_in, here_out, chosen-step, chosen-done, chosen-all}
use Rattle.verilog_items.specs.Notes.{notes}
use Rattle.verilog_items.specs.Items.{read_in}
use Rattle.verilog_origins.specs.declared.Item.{Item}
use Rattle.verilog_origins.specs.declared.Item.TheVariants.{Variable, Assign, Thread, Wait}
use Rattle.verilog_origins.specs.Origins.{zeros, short, count_of}
use Rattle.verilog_origins.specs.Items.{nth_of, target_for, variable_place, item_in, item_by, place_of}

-- ---- nth_of

module _ (row : List ℕ) (v n : ℕ) where
  pub nth-all : (count k : ℕ) → n ≡ capped count → get_or (chosen (has_role row v) (n - 0) 0) k n ≡ nth_of row (capped count) v k
  unfolding nth_of
  nth-all count k e = rw (chosen-all, e)

  pub nth-done : (i left : ℕ) → n ≤ i → get_or (chosen (has_role row v) (n - i) i) left n ≡ n
  nth-done i left h = rw (chosen-done (has_role row v) n i h)

  module _ (i left : ℕ) (h : i < n) where
    pub nth-hit : get_or row i 0 ≡ v → left ≡ 0 → get_or (chosen (has_role row v) (n - i) i) left n ≡ i
    unfolding has_role
    nth-hit e z = rw (chosen-step (has_role row v) n i h, here_in (has_role row v) i (eq-eqb _ _ e), z)

    pub nth-pass : get_or row i 0 ≡ v → (left ≡ 0 → ⊥) → (m : ℕ) → m ≡ left - 1
        → get_or (chosen (has_role row v) (n - (i + 1)) (i + 1)) m n ≡ get_or (chosen (has_role row v) (n - i) i) left n
    unfolding has_role
    nth-pass e z m q =
        let k : left ≡ suc m = omega arith in
        rw (chosen-step (has_role row v) n i h, here_in (has_role row v) i (eq-eqb _ _ e), k)

    pub nth-skip : (get_or row i 0 ≡ v → ⊥) → (m : ℕ) → m ≡ left
        → get_or (chosen (has_role row v) (n - (i + 1)) (i + 1)) m n ≡ get_or (chosen (has_role row v) (n - i) i) left n
    unfolding has_role
    nth-skip f m q = rw (chosen-step (has_role row v) n i h, here_out (has_role row v) i (ne_eqb _ _ f), q)

-- ---- target_for

pub target-for : (ids roles : List ℕ) (count k : ℕ) {i x m r : ℕ} → i ≡ nth_of roles (capped count) 3 k → x ≡ row_at ids i → m ≡ count
    → r ≡ target_of ids roles (capped m) x → r ≡ target_for ids roles (capped count) k
unfolding target_for
target-for ids roles count k d e f g = rw (f, e, d) at g

-- ---- item_in

module _ (text ks ids places roles : List ℕ) (count : ℕ) {item : Item} where
  pub of-variable : {v r : ℕ} → item ≡ Variable v → r ≡ variable_place text v → r ≡ item_in text ks ids places roles count item
  unfolding item_in
  of-variable d q = rw d q

  pub of-assign : {k t r : ℕ} → item ≡ Assign k → t ≡ target_for ids roles (capped count) k → r ≡ row_at places t
      → r ≡ item_in text ks ids places roles count item
  unfolding item_in
  of-assign d q a = rw (d, ← q) a

  pub of-thread : {k t r : ℕ} → item ≡ Thread k → t ≡ nth_of roles (capped count) 5 k → r ≡ row_at places t
      → r ≡ item_in text ks ids places roles count item
  unfolding item_in
  of-thread d q a = rw (d, ← q) a

  pub of-wait : {k t r : ℕ} → item ≡ Wait k → t ≡ nth_of ks (capped count) 27 k → r ≡ row_at places t
      → r ≡ item_in text ks ids places roles count item
  unfolding item_in
  of-wait d q a = rw (d, ← q) a

-- ---- place_of

pub place-whole : (text : List ℕ) (item : Item) {ks ns ps bs rs ws : List ℕ} {n m : ℕ} {p : Put}
    → Scanned text (zeros 16385) ks (zeros 16385) ns (zeros 16385) ps n → m ≡ short n
    → notes (wrote p bs) rs ws ≡ read_in ks ns m (zeros 65536) (zeros 16385) (zeros 16385)
    → {r : ℕ} → r ≡ item_in text ks ns ps rs m item → r ≡ place_of text item
unfolding place_of item_by count_of
place-whole text item s e g h =
    rw (← s.kinds-scanned, ← s.numbers-scanned, ← s.places-scanned, ← s.counted, ← e, ← g) h
