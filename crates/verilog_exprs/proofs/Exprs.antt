-- Laws of the definitions by the tests of the code.
-- Assumes nothing.
use mathlib.Core.Path.{◌≡◌, refl, sym, ap, ◌∙◌}
use mathlib.Core.Bool.{Bool, true, false}
use mathlib.Core.List.{List, [], ◌∷◌}
use Prim.Native.Nat.{ℕ, zero, suc, ◌+◌, ◌-◌, ◌*◌, ◌%◌, ◌^◌, ◌≤◌, ◌<◌}
use native.Mathlib.Numerals.{sub-one}
use native.Mathlib.Omega.{arith}
use lib.Dec.{ltb, eqb}
use borrow.Author.Tests.{ltb-true, ltb-false, ne_eqb, le-leb, lt-leb}
use Rattle.values.specs.Values.{pick}
use Rattle.writing.specs.Buffer.{Text, filled, puts}
use Rattle.verilog_grammar.specs.Meaning.{up_to}
use Rattle.verilog_bytes.specs.Turning.{fronted}
use Rattle.verilog_exprs.specs.declared.Put.{Put}
use Rattle.verilog_exprs.specs.Rows.{row_at, Wrote, wrote, Step, passed, refused, written, and_then, expected}
use Rattle.verilog_exprs.specs.Constants.{constant_bytes}
use Rattle.verilog_exprs.specs.Exprs.{precedence_of, operator_of, binds, value_at, atom_at, brackets_at, primary_at, prefix_at, operand_at}
use Rattle.verilog_exprs.specs.Exprs.{join_at, climb_at, choice_at, arms_at, expr_at}
use Rattle.verilog_exprs.proofs.Table.{row-past, then-yes, passed_is}

pub precedence-few : (k : ℕ) → precedence_of k ≤ 7
unfolding precedence_of
precedence-few k = few (eqb k 38) (eqb k 39) (eqb k 31) (eqb k 29) (eqb k 35) (eqb k 37) (eqb k 36)
  where
    few : (a b c d e f g : Bool) → pick a 7 (pick b 7 (pick c 6 (pick d 5 (pick e 4 (pick f 3 (pick g 2 0)))))) ≤ 7
    few true b c d e f g = omega arith
    few false true c d e f g = omega arith
    few false false true d e f g = omega arith
    few false false false true e f g = omega arith
    few false false false false true f g = omega arith
    few false false false false false true g = omega arith
    few false false false false false false true = omega arith
    few false false false false false false false = omega arith

-- ---- measures: fuel counts for more than all turns

unfoldable pub weight : ℕ → ℕ
weight f = f * 36893488147419103232

pub weight-falls : (f : ℕ) → (f ≡ 0 → ⊥) → f < 2 ^ 64 → weight (f - 1) + f + 2 < weight f
unfolding weight
weight-falls zero h k = absurd (h refl)
weight-falls (suc f) h k = rw sub-one (omega arith)

-- A row that is an operator's stands in the table.
pub operator-inside : (rows : List ℕ) (i k o : ℕ) → k ≡ row_at rows i → o ≡ precedence_of k → (o ≡ 0 → ⊥) → i < 16385
unfolding precedence_of
operator-inside rows i k o e f h = by (ltb i 16385) refl
  where
    by : (t : Bool) → ltb i 16385 ≡ t → i < 16385
    by true q = ltb-true i 16385 q
    by false q = absurd (h (f ∙ ap precedence_of (e ∙ row-past rows i (ltb-false i 16385 q))))

module _ (kinds numbers : List ℕ) where
  -- ---- primaries

  module _ (k i p : ℕ) (bs : List ℕ) (e : k ≡ row_at kinds i) where
    module _ (w : ℕ) where
      pub value-known : (v : ℕ) (t : Text) → k ≡ 67 → v ≡ row_at numbers i → t ≡ puts (filled bs p) (constant_bytes w v)
          → written (i + 1) t ≡ value_at kinds numbers w i p bs
      unfolding value_at
      value-known v t h f g = rw (← e, h, ← f, g) refl

      pub value-unknown : (t : Text) → k ≡ 68 → t ≡ puts (filled bs p) (0x04 ∷ w ∷ []) → written (i + 1) t ≡ value_at kinds numbers w i p bs
      unfolding value_at
      value-unknown t h g = rw (← e, h, g) refl

      pub value_none : (k ≡ 67 → ⊥) → (k ≡ 68 → ⊥) → refused i p bs ≡ value_at kinds numbers w i p bs
      unfolding value_at
      value_none h g = rw (← e, ne_eqb k 67 h, ne_eqb k 68 g) refl

    pub atom-name : (n : ℕ) (t : Text) → n ≡ row_at numbers i → k ≡ 64 → t ≡ puts (filled bs p) (0x02 ∷ n % 256 ∷ [])
        → written (i + 1) t ≡ atom_at kinds numbers i p bs
    unfolding atom_at
    atom-name n t f h g = rw (← e, h, ← f, g) refl

    pub atom-size : (n w : ℕ) → n ≡ row_at numbers i → k ≡ 65 → w ≡ up_to 32 n
        → value_at kinds numbers w (i + 1) p bs ≡ atom_at kinds numbers i p bs
    unfolding atom_at
    atom-size n w f h g = rw (← e, h, ← f, g) refl

    pub atom-none : (k ≡ 64 → ⊥) → (k ≡ 65 → ⊥) → refused i p bs ≡ atom_at kinds numbers i p bs
    unfolding atom_at
    atom-none h g = rw (← e, ne_eqb k 64 h, ne_eqb k 65 g) refl

    module _ (inner : ℕ → Step) where
      pub primary-brackets : (a b : Put) (us : List ℕ) → k ≡ 20 → wrote a us ≡ inner 1 (i + 1) p bs → b ≡ expected kinds 21 a
          → wrote b us ≡ primary_at kinds numbers inner i p bs
      unfolding primary_at brackets_at
      primary-brackets a b us h f g = rw (← e, h, ← f, g) refl

      pub primary-atom : (k ≡ 20 → ⊥) → atom_at kinds numbers i p bs ≡ primary_at kinds numbers inner i p bs
      unfolding primary_at
      primary-atom h = rw (← e, ne_eqb k 20 h) refl

      -- ---- unary operators

      pub operand-complement : (q : ℕ) (us : List ℕ) → k ≡ 33 → filled us q ≡ puts (filled bs p) (0x11 ∷ 1 ∷ [])
          → primary_at kinds numbers inner (i + 1) q us ≡ operand_at kinds numbers inner i p bs
      unfolding operand_at prefix_at
      operand-complement q us h f = rw (← e, h, ← f) refl

      pub operand-negation : (q : ℕ) (us : List ℕ) → k ≡ 34 → filled us q ≡ puts (filled bs p) (0x11 ∷ 2 ∷ [])
          → primary_at kinds numbers inner (i + 1) q us ≡ operand_at kinds numbers inner i p bs
      unfolding operand_at prefix_at
      operand-negation q us h f = rw (← e, h, ← f) refl

      pub operand-plain : (k ≡ 33 → ⊥) → (k ≡ 34 → ⊥) → primary_at kinds numbers inner i p bs ≡ operand_at kinds numbers inner i p bs
      unfolding operand_at
      operand-plain h g = rw (← e, ne_eqb k 33 h, ne_eqb k 34 g) refl

  -- ---- binary operators, behind what was read

  module _ (inner : ℕ → Step) (a : Put) (bs : List ℕ) (yes : a.ok ≡ true) (level from : ℕ) where
    pub climb-spent : (turns : ℕ) → turns ≡ 0 → refused a.next a.pos bs ≡ and_then (wrote a bs)
        (climb_at kinds numbers inner turns level from)
    unfolding climb_at
    climb-spent turns e = rw e (sym (then-yes a bs refused yes))

    module _ (turns k o : ℕ) (more : turns ≡ 0 → ⊥) (e : k ≡ row_at kinds a.next) (f : o ≡ precedence_of k) where
      climb-turn : and_then (wrote a bs) (climb_at kinds numbers inner turns level from)
          ≡ pick (binds level k) (join_at kinds numbers inner (climb_at kinds numbers inner (turns - 1) level from) from) passed a.next
          a.pos bs
      unfolding climb_at
      climb-turn = then-yes a bs (climb_at kinds numbers inner turns level from) yes ∙ by turns more
        where
          by : (n : ℕ) → (n ≡ 0 → ⊥) → climb_at kinds numbers inner n level from a.next a.pos bs
              ≡ pick (binds level k) (join_at kinds numbers inner (climb_at kinds numbers inner (n - 1) level from) from) passed a.next
              a.pos bs
          by zero h = absurd (h refl)
          by (suc n) h = rw (← e, sub-one) refl

      pub climb-none : o ≡ 0 → wrote a bs ≡ and_then (wrote a bs) (climb_at kinds numbers inner turns level from)
      unfolding binds
      climb-none h = passed_is a bs yes ∙ sym (climb-turn ∙ rw (← f, h) refl)

      pub climb-looser : (o ≡ 0 → ⊥) → o < level → wrote a bs ≡ and_then (wrote a bs) (climb_at kinds numbers inner turns level from)
      unfolding binds
      climb-looser h g = passed_is a bs yes ∙ sym (climb-turn ∙ rw (← f, ne_eqb o 0 h, lt-leb level o g) refl)

      pub climb-join : (n q : ℕ) (us : List ℕ) (w : Wrote) → (o ≡ 0 → ⊥) → level ≤ o → n ≡ operator_of k
          → filled us q ≡ fronted from (0x31 ∷ n ∷ []) (filled bs a.pos) → w ≡ inner (o + 1) (a.next + 1) q us
          → and_then w (climb_at kinds numbers inner (turns - 1) level from) ≡ and_then (wrote a bs)
          (climb_at kinds numbers inner turns level from)
      unfolding binds join_at
      climb-join n q us w h g j t r = sym (climb-turn ∙ rw (← f, ne_eqb o 0 h, le-leb level o g, ← e, ← f, ← j, ← t, ← r) refl)

    -- ---- arms

    pub arms-closer : 1 < level → wrote a bs ≡ and_then (wrote a bs) (arms_at kinds numbers inner level from)
    unfolding arms_at
    arms-closer h = passed_is a bs yes ∙ sym (then-yes a bs (arms_at kinds numbers inner level from) yes ∙ rw (lt-leb level 1 h) refl)

    module _ (k : ℕ) (h : level ≤ 1) (e : k ≡ row_at kinds a.next) where
      pub arms_none : (k ≡ 32 → ⊥) → wrote a bs ≡ and_then (wrote a bs) (arms_at kinds numbers inner level from)
      unfolding arms_at
      arms_none g =
          passed_is a bs yes
          ∙ sym (then-yes a bs (arms_at kinds numbers inner level from) yes ∙ rw (le-leb level 1 h, ← e, ne_eqb k 32 g) refl)

      -- `b` is the first arm, `c` the colon behind it.
      pub arms-choice : (q : ℕ) (us vs : List ℕ) (b c : Put) → k ≡ 32 → filled us q ≡ fronted from (0x71 ∷ 10 ∷ []) (filled bs a.pos)
          → wrote b vs ≡ inner 1 (a.next + 1) q us → c ≡ expected kinds 24 b
          → and_then (wrote c vs) (inner 1) ≡ and_then (wrote a bs) (arms_at kinds numbers inner level from)
      unfolding arms_at choice_at
      arms-choice q us vs b c g t r j =
          sym (then-yes a bs (arms_at kinds numbers inner level from) yes ∙ rw (le-leb level 1 h, ← e, g, ← t, ← r, ← j) refl)

  -- ---- expressions

  pub expr-spent : (f level i p : ℕ) (bs : List ℕ) → f ≡ 0 → refused i p bs ≡ expr_at kinds numbers f level i p bs
  unfolding expr_at
  expr-spent f level i p bs e = rw e refl

  pub expr-more : (f level i p : ℕ) (bs : List ℕ) (v w : Wrote) → (f ≡ 0 → ⊥) → v ≡ operand_at kinds numbers
      (expr_at kinds numbers (f - 1)) i p bs
      → w ≡ and_then v (climb_at kinds numbers (expr_at kinds numbers (f - 1)) f level p)
      → and_then w (arms_at kinds numbers (expr_at kinds numbers (f - 1)) level p) ≡ expr_at kinds numbers f level i p bs
  unfolding expr_at
  expr-more zero level i p bs v w h x y = absurd (h refl)
  expr-more (suc f) level i p bs v w h x y = rw (y, x, sub-one) refl
