-- Laws of the rule that a name breaks. Assumes nothing.
use mathlib.Core.Path.{◌≡◌, refl, sym, ap, ◌∙◌}
use mathlib.Core.Bool.{Bool, true, false}
use mathlib.Core.List.{List}
use Prim.Native.Nat.{ℕ, ◌+◌, ◌-◌, ◌≤◌, ◌<◌}
use native.Mathlib.Omega.{arith}
use borrow.Author.Tests.{lt-ltb, le-ltb, le-leb, lt-leb, eq-eqb, ne_eqb}
use lib.ListN.{get_or}
use Rattle.writing.specs.Buffer.{Text, puts}
use Rattle.writing.proofs.Buffer.{both}
use Rattle.verilog_scan.specs.Scan.{Scanned}
use Rattle.verilog_exprs.specs.declared.Put.{Put}
use Rattle.verilog_exprs.specs.Rows.{wrote}
use Rattle.verilog_names.specs.Chosen.{capped, chosen, has_role}
use Rattle.verilog_names.specs.Order.{first_or, next_of}
use Rattle.verilog_names.proofs.Chosen.{chosen-all}
use Rattle.verilog_items.specs.Notes.{notes}
use Rattle.verilog_items.specs.Items.{read_in}
use Rattle.verilog_errors.specs.declared.Broken.{Broken}
use Rattle.verilog_errors.specs.Found.{quoted}
use Rattle.verilog_errors.specs.Choices.{zeros, short}
use Rattle.verilog_errors.specs.Faults.{breaks, is_named, first_named, namesake, of_target, of_declared, broken_by, broken_at}
use Rattle.verilog_errors.specs.Faults.{opening, closing, line_of_first, broken_words, count_of, fault_by, fault_words}

-- ---- names with a role

pub named-all : (ids roles : List ℕ) (n low high x : ℕ)
    → first_or n (chosen (is_named ids roles low high x) (n - 0) 0) ≡ first_named ids roles n low high x
unfolding first_named
named-all ids roles n low high x = rw chosen-all

pub token-all : (places : List ℕ) (n place : ℕ)
    → first_or n (chosen (has_role places place) (n - 0) 0) ≡ next_of places n place 0
unfolding next_of
token-all places n place = refl

module _ (places : List ℕ) (place i : ℕ) {p : ℕ} (e : p ≡ get_or places i 0) where
  pub stands_here : p ≡ place → has_role places place i ≡ true
  unfolding has_role
  stands_here h = eq-eqb _ _ (sym e ∙ h)

  pub stands-elsewhere : (p ≡ place → ⊥) → has_role places place i ≡ false
  unfolding has_role
  stands-elsewhere f = ne_eqb _ _ (λ h. f (e ∙ h))

-- ---- the rule

module _ (ids places roles : List ℕ) (n t : ℕ) where
  pub target-other : {w : ℕ} → w ≡ namesake ids places roles n t 3 3 → n ≤ w → {r : Broken} → r ≡ breaks 4 0
      → r ≡ of_target ids places roles n t
  unfolding of_target
  target-other e h g = rw (← e, le-leb _ _ h) g

  module _ {w : ℕ} (e : w ≡ namesake ids places roles n t 3 3) (h : w < n) {f : ℕ} (d : f ≡ namesake ids places roles n t 4 4) where
    pub target-again : f < t → {p : ℕ} → p ≡ get_or places f 0 → {r : Broken} → r ≡ breaks 5 p → r ≡ of_target ids places roles n t
    unfolding of_target
    target-again l q g = rw (← e, lt-leb _ _ h, ← d, lt-ltb _ _ l, ← q) g

    pub target_none : t ≤ f → {r : Broken} → r ≡ breaks 0 0 → r ≡ of_target ids places roles n t
    unfolding of_target
    target_none l g = rw (← e, lt-leb _ _ h, ← d, le-ltb _ _ l) g

  module _ (f : ℕ) where
    pub declared-again : f < t → {p : ℕ} → p ≡ get_or places f 0 → {r : Broken} → r ≡ breaks 2 p → r ≡ of_declared ids places roles n t f
    unfolding of_declared
    declared-again l q g = rw (lt-ltb _ _ l, ← q) g

    module _ (l : t ≤ f) where
      pub declared-other : (get_or roles t 0 ≡ 3 → ⊥) → {r : Broken} → r ≡ breaks 0 0 → r ≡ of_declared ids places roles n t f
      unfolding of_declared
      declared-other z g = rw (le-ltb _ _ l, ne_eqb _ _ z) g

      module _ (z : get_or roles t 0 ≡ 3) {d : ℕ} (e : d ≡ namesake ids places roles n t 4 4) where
        pub declared-lone : n ≤ d → {r : Broken} → r ≡ breaks 3 0 → r ≡ of_declared ids places roles n t f
        unfolding of_declared
        declared-lone h g = rw (le-ltb _ _ l, eq-eqb _ _ z, ← e, le-leb _ _ h) g

        pub declared-none : d < n → {r : Broken} → r ≡ breaks 0 0 → r ≡ of_declared ids places roles n t f
        unfolding of_declared
        declared-none h g = rw (le-ltb _ _ l, eq-eqb _ _ z, ← e, lt-leb _ _ h) g

  module _ {f : ℕ} (e : f ≡ namesake ids places roles n t 1 3) where
    pub by-none : n ≤ f → {r : Broken} → r ≡ breaks 1 0 → r ≡ broken_by ids places roles n t
    unfolding broken_by
    by-none h g = rw (← e, le-leb _ _ h) g

    pub by-target : f < n → get_or roles t 0 ≡ 4 → {r : Broken} → r ≡ of_target ids places roles n t → r ≡ broken_by ids places roles n t
    unfolding broken_by
    by-target h z g = rw (← e, lt-leb _ _ h, eq-eqb _ _ z) g

    pub by-declared : f < n → (get_or roles t 0 ≡ 4 → ⊥) → {r : Broken} → r ≡ of_declared ids places roles n t f
        → r ≡ broken_by ids places roles n t
    unfolding broken_by
    by-declared h z g = rw (← e, lt-leb _ _ h, ne_eqb _ _ z) g

module _ (ids places roles : List ℕ) (count place : ℕ) {n : ℕ} (e : n ≡ capped count) {t : ℕ} (d : t ≡ next_of places n place 0) where
  pub at_none : n ≤ t → {r : Broken} → r ≡ breaks 0 0 → r ≡ broken_at ids places roles (capped count) place
  unfolding broken_at
  at_none h g = rw (← e, ← d, le-leb _ _ h) g

  pub at-token : t < n → {r : Broken} → r ≡ broken_by ids places roles n t → r ≡ broken_at ids places roles (capped count) place
  unfolding broken_at
  at-token h g = rw (← e, ← d, lt-leb _ _ h) g

-- ---- the words

pub broken-whole : (t : Text) (text : List ℕ) (place : ℕ) (b : Broken) {u v w x : Text} → u ≡ puts t (opening b.rule)
    → v ≡ puts u (quoted text place) → w ≡ puts v (closing b.rule) → x ≡ puts w (line_of_first text b)
    → x ≡ puts t (broken_words text place b)
unfolding broken_words
broken-whole t text place b p q r s = both _ _ _ _ _ (both _ _ _ _ _ (both _ _ _ _ _ p q) r) s

pub fault-whole : (t : Text) (text : List ℕ) (place : ℕ) {ks ns ps bs rs ws : List ℕ} {n m : ℕ} {p : Put} {b : Broken} {u : Text}
    → Scanned text (zeros 16385) ks (zeros 16385) ns (zeros 16385) ps n → m ≡ short n
    → notes (wrote p bs) rs ws ≡ read_in ks ns m (zeros 65536) (zeros 16385) (zeros 16385)
    → b ≡ broken_at ns ps rs (capped m) place → u ≡ puts t (broken_words text place b) → u ≡ puts t (fault_words text place)
unfolding fault_words fault_by count_of
fault-whole t text place s e g h q =
    rw (← s.kinds-scanned, ← s.numbers-scanned, ← s.places-scanned, ← s.counted, ← e, ← g, ← h) q
