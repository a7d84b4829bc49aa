-- The widths that the sheet's bytes give: those of the module that is read. Assumes nothing.
use mathlib.Core.Path.{◌≡◌, refl, sym, ap, ◌∙◌}
use mathlib.Core.Bool.{Bool, true, false}
use mathlib.Core.List.{List, [], ◌∷◌}
use Prim.Native.Nat.{ℕ, zero, suc, ◌+◌, ◌≤◌, ◌<◌}
use native.Mathlib.Nat.{not-suc-le-zero, le_of_suc-le-suc}
use native.Mathlib.Omega.{arith}
use lib.Dec.{leb, ltb, eqb}
use lib.ListN.{length, get_or, take, drop, length-take, length-drop, get_or-eq_default}
use lib.Seq.{get_or-take, get_or-drop}
use borrow.Author.Tests.{ltb-true, ltb-false}
use Rattle.values.specs.Values.{pick}
use Rattle.sheet.specs.Reading.{ok}
use Rattle.sheet.specs.Expression.{Scope, located}
use Rattle.sheet.specs.Functions.{read_functions}
use Rattle.sheet.specs.Module.{Head, widths_at, read_head, with_functions, read_wires, read_threads, Sheet, whole_sheet, read_sheet}
use Rattle.sheet.proofs.Reading.{bind_ok, check-ok, ok-injective}
use Rattle.sheet.proofs.Sections.{wires-count, headed}
use Rattle.sheet.proofs.Closed.{whole}
use Rattle.saved.specs.Older.{variable_width, register_width, width_in}

-- A scope whose widths are the n bytes after the counts.
pub record Headed (s : List ℕ) (c : Scope) (n : ℕ) : Type 0 where
  pub inputs : c.inputs ≤ 16
  pub within : c.inputs + c.registers ≤ n
  pub inside : widths_at c.declared + n ≤ length s
  pub same : c.widths ≡ take n (drop (widths_at c.declared) s)

-- ---- a sheet that is read

pub sheet-headed : (s : List ℕ) (r : Sheet ℕ) → read_sheet (located s) s ≡ ok r
    → Headed s r.contents.scope (r.contents.scope.inputs + r.contents.scope.registers + length r.contents.wires)
unfolding whole_sheet
sheet-headed s r h =
    let k = check-ok (leb (length s) 8192) 1 8192 _ (whole (located s) s h) in
    let hd = bind_ok (read_head s) _ k.1 in
    let n = hd.0.scope.declared in
    let fs = bind_ok (read_functions n n [] s hd.0.next) _ hd.2 in
    let c = with_functions hd.0.scope fs.0.functions in
    let es = bind_ok (read_wires (located s) c s hd.0.wires (c.inputs + c.registers) fs.0.next) _ fs.2 in
    let ts = bind_ok (read_threads (located s) c s hd.0.threads es.0.next) _ es.2 in
    let z = check-ok (eqb ts.0.next (length s)) 10 ts.0.next _ ts.2 in
    let x = headed s hd.1 in
    let w = wires-count (located s) c s hd.0.wires (c.inputs + c.registers) fs.0.next es.1 in
    rw (← ok-injective z.1)
    (record {
      inputs = x.inputs-most;
      within = omega arith;
      inside = rw w at x.inside;
      same = rw w at (ap (λ (g : Head). g.scope.widths) x.same);
    })

-- ---- the widths, by the bytes

-- the byte of a list inside it, whatever stands past its end
get_d-inside : (l : List ℕ) (i d e : ℕ) → i < length l → get_or l i d ≡ get_or l i e
get_d-inside [] i d e h = absurd (not-suc-le-zero h)
get_d-inside (x ∷ l) zero d e h = refl
get_d-inside (x ∷ l) (suc i) d e h = get_d-inside l i d e (le_of_suc-le-suc h)

module _ (s : List ℕ) (c : Scope) (n : ℕ) (h : Headed s c n) where
  -- Where the widths begin.
  abbrev first : ℕ
  first = widths_at c.declared

  width-byte : (v : ℕ) → v < n → get_or c.widths v 32 ≡ get_or s (first + v) 0
  width-byte v l =
      let i = h.inside in
      rw h.same (get_or-take n (drop first s) v 32 l ∙ get_or-drop first s v 32 ∙ get_d-inside s (first + v) 32 0 (omega arith))

  widths-length : length c.widths ≡ n
  widths-length =
      let i = h.inside in
      rw h.same (length-take n (drop first s) ∙ omega (arith, length-drop first s))

  pub variable-width : (v : ℕ) → width_in s first n v ≡ variable_width c v
  unfolding width_in variable_width
  variable-width v = by (ltb v n) refl
    where
      by : (t : Bool) → ltb v n ≡ t → pick t (get_or s (first + v) 0) 32 ≡ get_or c.widths v 32
      by true q = sym (width-byte v (ltb-true v n q))
      by false q =
          let k = ltb-false v n q in
          let e = widths-length in
          sym (get_or-eq_default c.widths 32 {n = v} (omega arith))

  pub register-width : (r : ℕ) → width_in s (first + c.inputs) c.registers r ≡ register_width c r
  unfolding width_in register_width
  register-width r = by (ltb r c.registers) refl
    where
      by : (t : Bool) → ltb r c.registers ≡ t
          → pick t (get_or s (first + c.inputs + r) 0) 32 ≡ get_or (take c.registers (drop c.inputs c.widths)) r 32
      by true q =
          let k = ltb-true r c.registers q in
          let w = h.within in
          let e : first + (c.inputs + r) ≡ first + c.inputs + r = omega arith in
          let b : get_or c.widths (c.inputs + r) 32 ≡ get_or s (first + c.inputs + r) 0 = rw e at (width-byte (c.inputs + r) (omega arith)) in
          sym (get_or-take c.registers (drop c.inputs c.widths) r 32 k ∙ get_or-drop c.inputs c.widths r 32 ∙ b)
      by false q =
          let k = ltb-false r c.registers q in
          let e = length-take c.registers (drop c.inputs c.widths) in
          sym (get_or-eq_default (take c.registers (drop c.inputs c.widths)) 32 {n = r} (omega arith))
