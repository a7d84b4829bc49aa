-- Laws of the uses: one more, a turn of each loop, and which nodes have a line of their own. Assumes nothing.
use mathlib.Core.Path.{◌≡◌, refl, ap, ◌∙◌}
use mathlib.Core.Bool.{Bool, true, false}
use mathlib.Core.List.{List, [], ◌∷◌}
use Prim.Native.Nat.{ℕ, ◌+◌, ◌≤◌, ◌<◌}
use native.Mathlib.Numerals.{add-one}
use lib.ListN.{get_or, set}
use lib.Dec.{leb}
use borrow.Author.Tests.{lt-ltb, le-ltb}
use Rattle.nextstate.specs.Nodes.{Node}
use Rattle.netlist.specs.Cells.{node_in, is_operator}
use Rattle.netlist.specs.Uses.{operands_of, one_more, counted, all_counted, operand_uses, entry_uses, named}

-- ---- one_more

pub more-below : (u : ℕ) → u < 2 → u + 1 ≡ one_more u
unfolding one_more
more-below u h = rw (lt-ltb u 2 h)

pub more-full : (u : ℕ) → 2 ≤ u → 2 ≡ one_more u
unfolding one_more
more-full u h = rw (le-ltb u 2 h)

-- ---- counted

module _ (us : List ℕ) (n : ℕ) where
  pub counted-in : {v : ℕ} → n < 4096 → v ≡ one_more (get_or us n 0) → set us n v ≡ counted us n
  unfolding counted
  counted-in h e = rw (e, lt-ltb n 4096 h)

  pub counted-past : 4096 ≤ n → us ≡ counted us n
  unfolding counted
  counted-past h = rw (le-ltb n 4096 h)

-- ---- all_counted: two uses, and three

pub count-two : (us v w : List ℕ) (a b : ℕ) → v ≡ counted us a → w ≡ counted v b → w ≡ all_counted us (a ∷ b ∷ [])
unfolding all_counted
count-two us v w a b p q = q ∙ ap (λ x. counted x b) p

pub count-three : (us v w x : List ℕ) (a b c : ℕ) → v ≡ counted us a → w ≡ counted v b → x ≡ counted w c
    → x ≡ all_counted us (a ∷ b ∷ c ∷ [])
unfolding all_counted
count-three us v w x a b c p q r = r ∙ ap (λ y. counted y c) (q ∙ ap (λ y. counted y b) p)

-- ---- operand_uses, entry_uses: none, and a turn

pub operands-none : (ws us : List ℕ) → us ≡ operand_uses ws us 0
unfolding operand_uses
operands-none ws us = refl

pub entries_none : (rs us : List ℕ) → us ≡ entry_uses rs us 0
unfolding entry_uses
entries_none rs us = refl

module _ {us us' : List ℕ} (us₀ : List ℕ) (n : ℕ) where
  pub operands-turn : (ws : List ℕ) {d : Node} → us ≡ operand_uses ws us₀ n → d ≡ node_in ws n → us' ≡ all_counted us (operands_of d)
      → us' ≡ operand_uses ws us₀ (n + 1)
  unfolding operand_uses
  operands-turn ws p e q = rw (add-one, ← p, ← e) q

  pub entries-turn : (rs : List ℕ) → us ≡ entry_uses rs us₀ n → us' ≡ counted us (get_or rs n 0) → us' ≡ entry_uses rs us₀ (n + 1)
  unfolding entry_uses
  entries-turn rs p q = rw (add-one, ← p) q

-- ---- named

module _ (ws us : List ℕ) (n : ℕ) where
  pub named_past : 4096 ≤ n → false ≡ named ws us n
  unfolding named node_in is_operator
  named_past h = rw (le-ltb n 4096 h)

  module _ {d : Node} {t : Bool} (e : d ≡ node_in ws n) (q : t ≡ is_operator d) where
    pub named-not : t ≡ false → false ≡ named ws us n
    unfolding named
    named-not f = rw (← e, ← q, f)

    pub named_by : t ≡ true → leb 2 (get_or us n 0) ≡ named ws us n
    unfolding named
    named_by f = rw (← e, ← q, f)
