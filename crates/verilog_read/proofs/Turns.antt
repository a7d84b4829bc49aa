-- Laws of a sheet's bytes by the tests and the turns of the code. Assumes nothing.
use mathlib.Core.Path.{◌≡◌, refl, sym, ◌∙◌, ap}
use mathlib.Core.Bool.{Bool, true, false}
use mathlib.Core.List.{List, [], ◌∷◌}
use Prim.Native.Nat.{ℕ, zero, suc, ◌+◌, ◌-◌, ◌<◌, ◌≤◌}
use native.Mathlib.Nat.{sub-zero}
use native.Mathlib.Numerals.{add-one}
use native.Mathlib.Omega.{arith}
use borrow.Author.Tests.{lt-ltb, le-ltb, eq-eqb, ne_eqb}
use lib.Dec.{ltb, eqb}
use lib.ListN.{length, get_or, set, length-set}
use lib.Seq.{sets}
use Rattle.values.specs.Values.{pick}
use Rattle.writing.specs.Buffer.{Text, filled, puts}
use Rattle.verilog_exprs.specs.declared.Put.{Put}
use Rattle.verilog_exprs.specs.Rows.{answer, wrote}
use Rattle.verilog_stmts.specs.Steps.{after}
use Rattle.verilog_stmts.specs.Stmts.{value}
use Rattle.verilog_stmts.specs.Written.{statement_in}
use Rattle.verilog_names.specs.Chosen.{capped, has_role}
use Rattle.verilog_names.specs.Order.{target_of}
use Rattle.verilog_items.specs.Items.{statement_from}
use Rattle.verilog_read.specs.Read.{text_of, each, value_behind, statement_behind, wire_at, thread_at, roomed, padded, copied, short}

-- ---- numbers

module _ (n : ℕ) where
  pub roomed-below : n < 65536 → (n ≡ roomed n) × (n ≤ 65536)
  unfolding roomed
  roomed-below h = (rw (lt-ltb n 65536 h), omega arith)

  pub roomed-above : 65536 ≤ n → (65536 ≡ roomed n) × (65536 ≤ 65536)
  unfolding roomed
  roomed-above h = (rw (le-ltb n 65536 h), omega arith)

  pub short-below : n < 65536 → n ≡ short n
  unfolding short
  short-below h = rw (lt-ltb n 65536 h)

-- ---- one token

module _ (ks table : List ℕ) (count i pos : ℕ) (bs cs : List ℕ) where
  pub value-whole : {a b c e : Put} → a ≡ answer true i pos → b ≡ after a → c ≡ after b
      → wrote e cs ≡ value ks table count (wrote c bs)
      → filled cs e.pos ≡ value_behind ks table count i (filled bs pos)
  unfolding value_behind
  value-whole p q r s = ap text_of s ∙ ap (λ c. text_of (value ks table count (wrote c bs))) (r ∙ ap after (q ∙ ap after p))

  pub statement-whole : {a b e : Put} {n m : ℕ} → a ≡ answer true i pos → b ≡ after a → n ≡ count - b.next → m ≡ n
      → wrote e cs ≡ statement_in ks table count m (wrote b bs)
      → filled cs e.pos ≡ statement_behind ks table count i (filled bs pos)
  unfolding statement_behind statement_from
  statement-whole {b = b} p q r s t =
      ap text_of (t ∙ ap (λ k. statement_in ks table count k (wrote b bs)) (s ∙ r))
      ∙ ap (λ c. text_of (statement_from ks table count (wrote c bs))) (q ∙ ap after p)

module _ (ks ids table roles : List ℕ) (count i : ℕ) (t : Text) where
  pub wire-not : (get_or roles i 0 ≡ 3 → ⊥) → t ≡ wire_at ks ids table roles count i t
  unfolding wire_at has_role
  wire-not h = rw (ne_eqb (get_or roles i 0) 3 h)

  pub wire-one : get_or roles i 0 ≡ 3 → {u : Text} {n j : ℕ} → n ≡ count → j ≡ target_of ids roles (capped n) (get_or ids i 0)
      → u ≡ value_behind ks table count j t → u ≡ wire_at ks ids table roles count i t
  unfolding wire_at has_role
  wire-one h e f g =
      rw (eq-eqb (get_or roles i 0) 3 h)
      (g ∙ ap (λ k. value_behind ks table count k t) (f ∙ ap (λ m. target_of ids roles (capped m) (get_or ids i 0)) e))

module _ (ks table roles : List ℕ) (count i : ℕ) (t : Text) where
  pub thread-not : (get_or roles i 0 ≡ 5 → ⊥) → t ≡ thread_at ks table roles count i t
  unfolding thread_at has_role
  thread-not h = rw (ne_eqb (get_or roles i 0) 5 h)

  pub thread-one : get_or roles i 0 ≡ 5 → {u : Text} → u ≡ statement_behind ks table count i t → u ≡ thread_at ks table roles count i t
  unfolding thread_at has_role
  thread-one h g = rw (eq-eqb (get_or roles i 0) 5 h) g

-- ---- token by token

module _ (step : ℕ → Text → Text) where
  each_step : (n i : ℕ) (t : Text) → i < n → each step (n - i) i t ≡ each step (n - (i + 1)) (i + 1) (step i t)
  unfolding each
  each_step n i t h = let k : n - i ≡ suc (n - (i + 1)) = omega arith in rw k

  pub each_all : (n m : ℕ) (t : Text) → n ≡ m → each step (n - 0) 0 t ≡ each step m 0 t
  each_all n m t e = rw (sub-zero, e)

  pub each_turn : (n i : ℕ) (t u whole : Text) → i < n → u ≡ step i t → each step (n - i) i t ≡ whole
      → each step (n - (i + 1)) (i + 1) u ≡ whole
  each_turn n i t u whole h e f = ap (each step (n - (i + 1)) (i + 1)) e ∙ sym (each_step n i t h) ∙ f

  pub each_over : (n i : ℕ) (t whole : Text) → n ≤ i → each step (n - i) i t ≡ whole → t ≡ whole
  unfolding each
  each_over n i t whole h e = let k : n - i ≡ 0 = omega arith in sym (ap (λ m. each step m i t) k) ∙ e

-- ---- bytes copied

pub past-zero : (s : List ℕ) (i : ℕ) → length s ≤ i → 0 ≡ get_or s i 0
past-zero [] i h = refl
past-zero (b ∷ s) zero h = absurd (omega arith)
past-zero (b ∷ s) (suc i) h = past-zero s i (omega arith)

module _ (s : List ℕ) where
  padded-step : (n i : ℕ) → i < n → padded s (n - i) i ≡ get_or s i 0 ∷ padded s (n - (i + 1)) (i + 1)
  unfolding padded
  padded-step n i h = let k : n - i ≡ suc (n - (i + 1)) = omega arith in rw k

  pub held-turn : (n : ℕ) (old new whole : List ℕ) (i b : ℕ) → i < n → b ≡ get_or s i 0 → new ≡ set old i b
      → sets old i (padded s (n - i) i) ≡ whole → sets new (i + 1) (padded s (n - (i + 1)) (i + 1)) ≡ whole
  held-turn n old new whole i b h e f g =
      rw (f, e)
      (ap (λ k. sets (set old i (get_or s i 0)) k (padded s (n - (i + 1)) (i + 1))) (add-one i) ∙ (rw (padded-step n i h) at g))

  pub held-over : (n : ℕ) (old whole : List ℕ) (i : ℕ) → n ≤ i → sets old i (padded s (n - i) i) ≡ whole → old ≡ whole
  unfolding padded
  held-over n old whole i h e = let k : n - i ≡ 0 = omega arith in rw k at e

  pub copied_all : (lent : List ℕ) → sets lent 0 (padded s (length lent - 0) 0) ≡ copied s lent
  unfolding copied
  copied_all lent = rw sub-zero

  pub copied-turn : (lent new whole : List ℕ) (i b n : ℕ) → i < length lent → b ≡ get_or s i 0 → new ≡ set lent i b
      → (length lent ≡ n) × (sets lent i (padded s (length lent - i) i) ≡ whole)
      → (length new ≡ n) × (sets new (i + 1) (padded s (length new - (i + 1)) (i + 1)) ≡ whole)
  copied-turn lent new whole i b n h e f g = (
    rw (f, length-set) g.0,
    rw (f, length-set, e)
        (ap (λ k. sets (set lent i (get_or s i 0)) k (padded s (length lent - (i + 1)) (i + 1))) (add-one i)
        ∙ (rw (padded-step (length lent) i h) at g.1)),
  )

  pub copied-over : (lent whole : List ℕ) (i : ℕ) → length lent ≤ i → sets lent i (padded s (length lent - i) i) ≡ whole → lent ≡ whole
  unfolding padded
  copied-over lent whole i h e = let k : length lent - i ≡ 0 = omega arith in rw k at e
