-- The ways through `bring_over`: a refused sheet, a state of form 4, and the older forms by the widths in the sheet's bytes.
-- Assumes nothing.
use mathlib.Core.Path.{◌≡◌, refl, sym, ap, ◌∙◌}
use mathlib.Core.Bool.{true, false}
use mathlib.Core.List.{List}
use Prim.Native.Nat.{ℕ, zero, suc, ◌+◌, ◌*◌, ◌≤◌, ◌<◌}
use native.Mathlib.Omega.{arith}
use lib.ListN.{length, get_or}
use Rattle.values.specs.Planes.{number_of, marks_of}
use Rattle.sheet.specs.declared.Layout.{Layout}
use Rattle.sheet.specs.declared.SheetRead.{SheetRead}
use Rattle.sheet.specs.Reading.{Res, ok, no, word_of}
use Rattle.sheet.specs.Expression.{located}
use Rattle.sheet.specs.Module.{map_module, widths_at, Sheet, read_sheet, read}
use Rattle.sheet.specs.Answers.{layout_of, blank, sheet_answer}
use Rattle.sheet.proofs.Stages.{widths-bound}
use Rattle.sheet.proofs.Trees.{map_res, trees, read-located}
use Rattle.sheet.proofs.Numbers.{numbered-no, located-numbered, sheet-numbered}
use Rattle.state.specs.declared.Counters.{Counters}
use Rattle.state.specs.Rows.{list_of}
use Rattle.saved.specs.Saved.{long_of, counters_at, is_saved, state_in}
use Rattle.saved.specs.Older.{older_value, older_in, alone, taken, refused, older_over, variable_width, register_width, width_in, over_of}
use Rattle.saved.specs.Older.{brought_over}
use Rattle.state.proofs.Accessors.{state-same}
use Rattle.state.proofs.Rows.{get_d-list_of}
use Rattle.saved.proofs.Widths.{sheet-headed, variable-width, register-width}

-- ---- equal widths give equal states

list_of-same : {A : Type 0} (n : ℕ) (f g : ℕ → A) → ((k : ℕ) → k < n → f k ≡ g k) → list_of n f ≡ list_of n g
unfolding list_of
list_of-same zero f g h = refl
list_of-same (suc n) f g h = rw (list_of-same n f g (λ k b. h k (omega arith)), h n (omega arith))

module _ (f g h k : ℕ → ℕ) (b : List ℕ) (x : (v : ℕ) → v < 80 → f v ≡ g v) (y : (r : ℕ) → r < 32 → h r ≡ k r) where
  in-same : (c : Counters) → older_in f h b c ≡ older_in g k b c
  unfolding older_in
  in-same c =
      state-same _ _
      (list_of-same 80 _ _ (λ v l. ap (λ w. number_of (older_value w b (1 + 5 * v))) (x v l)))
      (list_of-same 80 _ _ (λ v l. ap (λ w. marks_of (older_value w b (1 + 5 * v))) (x v l)))
      (list_of-same 32 _ _ (λ r l. ap (λ w. number_of (older_value w b (402 + 6 * r))) (y r l)))
      (list_of-same 32 _ _ (λ r l. ap (λ w. marks_of (older_value w b (402 + 6 * r))) (y r l)))
      refl refl refl refl

  over-same : (allowances : List ℕ) → older_over f h b allowances ≡ older_over g k b allowances
  unfolding older_over
  over-same allowances =
      rw (
        in-same (counters_at b 633),
        in-same (alone (long_of b 633) (long_of b 641) allowances),
        in-same (alone (word_of b 633) (word_of b 637) allowances),
      )

-- ---- the widths stand near the sheet's beginning

pub widths-near : (s : List ℕ) (r : SheetRead) → r ≡ sheet_answer (read_sheet (located s) s) → r.layout.widths ≤ 5
unfolding sheet_answer layout_of blank
widths-near s r e = rw e (by (read_sheet (located s) s))
  where
    by : (x : Res (Sheet ℕ)) → (sheet_answer x).layout.widths ≤ 5
    by (ok q) = widths-bound q.contents.scope.declared refl
    by (no n p) = omega arith

-- ---- the ways

module _ (s : List ℕ) (r : SheetRead) (e : r ≡ sheet_answer (read_sheet (located s) s)) (b allowances : List ℕ) where
  number-of-read : {x : Res (Sheet ℕ)} → read_sheet (located s) s ≡ x → r.number ≡ (sheet_answer x).number
  number-of-read g = ap (λ (a : SheetRead). a.number) e ∙ ap (λ (y : Res (Sheet ℕ)). (sheet_answer y).number) g

  pub over-refused : (r.number ≡ 0 → ⊥) → refused r.number ≡ brought_over s b allowances
  unfolding brought_over over_of sheet_answer map_res
  over-refused h = rw (read-located s) (by (read_sheet (located s) s) refl)
    where
      by : (x : Res (Sheet ℕ)) → read_sheet (located s) s ≡ x
          → refused r.number ≡ over_of (map_res (λ q. (trees s q).contents) x) b allowances
      by (ok q) g = absurd (h (number-of-read g))
      by (no n p) g = ap refused (number-of-read g)

  accepted : r.number ≡ 0 → (q : Sheet ℕ) × (read_sheet (located s) s ≡ ok q)
  unfolding sheet_answer
  accepted h = by (read_sheet (located s) s) refl
    where
      by : (x : Res (Sheet ℕ)) → read_sheet (located s) s ≡ x → (q : Sheet ℕ) × (read_sheet (located s) s ≡ ok q)
      by (ok q) g = (q, g)
      by (no n p) g =
          let z : n ≡ 0 = sym (number-of-read g) ∙ h in
          let k = numbered-no (sheet-numbered (located s) (located-numbered s) s) g in
          absurd (omega arith)

  read_as : (q : Sheet ℕ) → read_sheet (located s) s ≡ ok q → read s ≡ ok (trees s q).contents
  unfolding map_res
  read_as q g = read-located s ∙ ap (map_res (λ t. (trees s t).contents)) g

  pub over-saved : r.number ≡ 0 → is_saved b ≡ true → taken (state_in b) ≡ brought_over s b allowances
  unfolding brought_over over_of
  over-saved h t =
      let q = accepted h in
      rw (read_as q.0 q.1, t)

  module _ (ws rs : List ℕ) where
    pub over-older : r.number ≡ 0 → is_saved b ≡ false
        → ws ≡ list_of 80 (width_in s r.layout.widths (r.layout.inputs + r.layout.registers + r.layout.wires))
        → rs ≡ list_of 32 (width_in s (r.layout.widths + r.layout.inputs) r.layout.registers)
        → older_over (λ v. get_or ws v 0) (λ k. get_or rs k 0) b allowances ≡ brought_over s b allowances
    unfolding brought_over over_of sheet_answer layout_of trees map_module
    over-older h t u v =
        let q = accepted h in
        let a : r.layout ≡ layout_of q.0 =
        ap (λ (x : SheetRead). x.layout) e ∙ ap (λ (y : Res (Sheet ℕ)). (sheet_answer y).layout) q.1 in
        let c = q.0.contents.scope in
        let n = c.inputs + c.registers + length q.0.contents.wires in
        let hd = sheet-headed s q.0 q.1 in
        let u' : ws ≡ list_of 80 (width_in s (widths_at c.declared) n) =
        u ∙ ap (λ (y : Layout). list_of 80 (width_in s y.widths (y.inputs + y.registers + y.wires))) a in
        let v' : rs ≡ list_of 32 (width_in s (widths_at c.declared + c.inputs) c.registers) =
        v ∙ ap (λ (y : Layout). list_of 32 (width_in s (y.widths + y.inputs) y.registers)) a in
        let x : (k : ℕ) → k < 80 → get_or ws k 0 ≡ variable_width c k =
        λ k l. ap (λ (z : List ℕ). get_or z k 0) u' ∙ get_d-list_of (width_in s (widths_at c.declared) n) 80 k 0 l ∙ variable-width s c n hd k in
        let y : (k : ℕ) → k < 32 → get_or rs k 0 ≡ register_width c k =
        λ k l. ap (λ (z : List ℕ). get_or z k 0) v' ∙ get_d-list_of (width_in s (widths_at c.declared + c.inputs) c.registers) 32 k 0 l
        ∙ register-width s c n hd k in
        over-same (λ j. get_or ws j 0) (variable_width c) (λ j. get_or rs j 0) (register_width c) b x y allowances
        ∙ sym (rw (read_as q.0 q.1, t))
