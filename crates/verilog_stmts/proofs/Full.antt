-- At the buffer's end an expression is read and nothing is written.
-- Assumes nothing.
use mathlib.Core.Path.{◌≡◌, refl, ap, ◌∙◌}
use mathlib.Core.Bool.{Bool, true, false, ◌&&◌}
use mathlib.Core.List.{List, [], ◌∷◌}
use Prim.Native.Nat.{ℕ, zero, suc, ◌+◌, ◌-◌, ◌%◌, ◌≤◌}
use native.Mathlib.Omega.{arith}
use lib.Dec.{leb, eqb}
use Rattle.values.specs.Values.{pick}
use Rattle.writing.specs.Buffer.{Text, filled, puts}
use Rattle.writing.proofs.Buffer.{put_full, puts-nil, puts-cons}
use Rattle.verilog_grammar.specs.Meaning.{up_to}
use Rattle.verilog_bytes.specs.Turning.{reversed, thrice, turned, behind, fronted}
use Rattle.verilog_bytes.proofs.Turning.{turned-is}
use Rattle.verilog_exprs.specs.Rows.{row_at, Wrote, wrote, Step, passed, refused, answer, and_then, is_at, expected}
use Rattle.verilog_exprs.specs.Constants.{constant_bytes}
use Rattle.verilog_exprs.specs.Exprs

-- ---- a full buffer stays as it is

puts-full : (bs xs : List ℕ) → puts (filled bs 65536) xs ≡ filled bs 65536
puts-full bs [] = puts-nil (filled bs 65536)
puts-full bs (x ∷ xs) =
    puts-cons (filled bs 65536) x xs ∙ ap (λ t. puts t xs) (put_full (filled bs 65536) x (omega arith)) ∙ puts-full bs xs

turned_none : (bs : List ℕ) (n : ℕ) → n ≤ 65536 → turned n n n bs ≡ bs
unfolding thrice reversed
turned_none bs n h =
    let e : n - n ≡ 0 = omega arith in
    turned-is bs n n n (omega arith) (omega arith) h ∙ rw e refl

fronted-full : (bs xs : List ℕ) → fronted 65536 xs (filled bs 65536) ≡ filled bs 65536
unfolding fronted behind
fronted-full bs xs = rw (puts-full bs xs, turned_none bs 65536 (omega arith)) refl

-- ---- readers that leave it so

pub record Quiet (bs : List ℕ) (w : Wrote) : Type 0 where
  pub same : w.bytes ≡ bs
  pub stays : w.put.pos ≡ 65536

module _ (bs : List ℕ) where
  abbrev Calm : Step → Type 0
  Calm f = (i : ℕ) → Quiet bs (f i 65536 bs)

  calm-passed : Calm passed
  calm-passed i = record { same = refl; stays = refl }

  calm-refused : Calm refused
  calm-refused i = record { same = refl; stays = refl }

  calm-pick : (b : Bool) (f g : Step) (i : ℕ) → Quiet bs (f i 65536 bs) → Quiet bs (g i 65536 bs) → Quiet bs (pick b f g i 65536 bs)
  calm-pick true f g i x y = x
  calm-pick false f g i x y = y

  quiet-pick : (b : Bool) (x y : Wrote) → Quiet bs x → Quiet bs y → Quiet bs (pick b x y)
  quiet-pick true x y h k = h
  quiet-pick false x y h k = k

  pub calm-at : (f : Step) → Calm f → (i p : ℕ) (cs : List ℕ) → p ≡ 65536 → cs ≡ bs → Quiet bs (f i p cs)
  calm-at f h i p cs e d = rw (e, d) (h i)

  calm-then : (w : Wrote) (f : Step) → Quiet bs w → Calm f → Quiet bs (and_then w f)
  unfolding and_then
  calm-then w f h c = calm-at (pick w.put.ok f refused) (λ i. calm-pick w.put.ok f refused i (c i) (calm-refused i))
      w.put.next w.put.pos w.bytes h.stays h.same

  calm-text : (f : Step) → Calm f → (i : ℕ) (t : Text) → t ≡ filled bs 65536 → Quiet bs (f i t.at t.bytes)
  calm-text f h i t e = rw e (h i)

  module _ (kinds numbers : List ℕ) where
    pub expected-pos : (k : ℕ) (w : Wrote) → Quiet bs w → Quiet bs (wrote (expected kinds k w.put) w.bytes)
    unfolding expected
    expected-pos k w h = record { same = h.same; stays = by (w.put.ok && is_at kinds k w.put.next) }
      where
        by : (c : Bool) → (pick c (answer true (w.put.next + 1) w.put.pos) (answer false w.put.next w.put.pos)).pos ≡ 65536
        by true = h.stays
        by false = h.stays

    calm-value : (width : ℕ) → Calm (Exprs.value_at kinds numbers width)
    unfolding Exprs.value_at
    calm-value width i =
        rw (puts-full bs (constant_bytes width (row_at numbers i)), puts-full bs (0x04 ∷ width ∷ []))
        (quiet-pick (eqb (row_at kinds i) 67) _ _ (calm-passed (i + 1)) (quiet-pick (eqb (row_at kinds i) 68) _ _ (calm-passed (i + 1))
        (calm-refused i)))

    calm-atom : Calm (Exprs.atom_at kinds numbers)
    unfolding Exprs.atom_at
    calm-atom i =
        rw (puts-full bs (0x02 ∷ row_at numbers i % 256 ∷ []))
        (quiet-pick (eqb (row_at kinds i) 64) _ _ (calm-passed (i + 1))
        (quiet-pick (eqb (row_at kinds i) 65) _ _ (calm-value (up_to 32 (row_at numbers i)) (i + 1)) (calm-refused i)))

    module _ (inner : ℕ → Step) (ih : (k : ℕ) → Calm (inner k)) where
      calm-brackets : Calm (Exprs.brackets_at kinds numbers inner)
      unfolding Exprs.brackets_at
      calm-brackets i = expected-pos 21 (inner 1 (i + 1) 65536 bs) (ih 1 (i + 1))

      calm-primary : Calm (Exprs.primary_at kinds numbers inner)
      unfolding Exprs.primary_at
      calm-primary i = calm-pick (eqb (row_at kinds i) 20) _ _ i (calm-brackets i) (calm-atom i)

      calm-prefix : (o : ℕ) → Calm (Exprs.prefix_at kinds numbers inner o)
      unfolding Exprs.prefix_at
      calm-prefix o i = calm-text (Exprs.primary_at kinds numbers inner) calm-primary (i + 1) (puts (filled bs 65536) (0x11 ∷ o ∷ []))
          (puts-full bs (0x11 ∷ o ∷ []))

      calm-operand : Calm (Exprs.operand_at kinds numbers inner)
      unfolding Exprs.operand_at
      calm-operand i =
          calm-pick (eqb (row_at kinds i) 33) _ _ i (calm-prefix 1 i) (calm-pick (eqb (row_at kinds i) 34) _ _ i (calm-prefix 2 i)
          (calm-primary i))

      calm-join : (again : Step) → Calm again → Calm (Exprs.join_at kinds numbers inner again 65536)
      unfolding Exprs.join_at
      calm-join again h i =
          calm-then _ again (calm-text (inner (Exprs.precedence_of (row_at kinds i) + 1)) (ih (Exprs.precedence_of (row_at kinds i) + 1))
          (i + 1)
          (fronted 65536 (0x31 ∷ Exprs.operator_of (row_at kinds i) ∷ []) (filled bs 65536))
          (fronted-full bs (0x31 ∷ Exprs.operator_of (row_at kinds i) ∷ []))) h

      calm-climb : (g level : ℕ) → Calm (Exprs.climb_at kinds numbers inner g level 65536)
      unfolding Exprs.climb_at
      calm-climb zero level i = calm-refused i
      calm-climb (suc g) level i =
          calm-pick (Exprs.binds level (row_at kinds i)) _ _ i (calm-join (Exprs.climb_at kinds numbers inner g level 65536)
          (calm-climb g level) i) (calm-passed i)

      calm-choice : Calm (Exprs.choice_at kinds numbers inner 65536)
      unfolding Exprs.choice_at
      calm-choice i =
          let t = fronted 65536 (0x71 ∷ 10 ∷ []) (filled bs 65536) in
          let a = inner 1 (i + 1) t.at t.bytes in
          calm-then (wrote (expected kinds 24 a.put) a.bytes) (inner 1)
          (expected-pos 24 a (calm-text (inner 1) (ih 1) (i + 1) t (fronted-full bs (0x71 ∷ 10 ∷ [])))) (ih 1)

      calm_arms : (level : ℕ) → Calm (Exprs.arms_at kinds numbers inner level 65536)
      unfolding Exprs.arms_at
      calm_arms level i =
          calm-pick (leb level 1) _ _ i (calm-pick (eqb (row_at kinds i) 32) _ _ i (calm-choice i) (calm-passed i)) (calm-passed i)

    pub calm-expr : (f level : ℕ) → Calm (Exprs.expr_at kinds numbers f level)
    unfolding Exprs.expr_at
    calm-expr zero level i = calm-refused i
    calm-expr (suc f) level i =
        let inner = Exprs.expr_at kinds numbers f in
        calm-then _ (Exprs.arms_at kinds numbers inner level 65536)
        (calm-then (Exprs.operand_at kinds numbers inner i 65536 bs) (Exprs.climb_at kinds numbers inner (suc f) level 65536)
        (calm-operand inner (calm-expr f) i) (calm-climb inner (calm-expr f) (suc f) level))
        (calm_arms inner (calm-expr f) level)
