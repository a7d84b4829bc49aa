-- What is read is a sheet without functions: the whole reading gives the same, no function is declared and none may be called.
use mathlib.Core.Path.{◌≡◌, refl, sym, ap, ◌∙◌}
use Prim.Native.Nat.{ℕ, ◌+◌, ◌-◌, ◌≤◌, ◌<◌}
use native.Mathlib.Omega.{arith}
use mathlib.Core.List.{List, []}
use mathlib.Core.Bool.{Bool, true, false}
use lib.ListN.{length, get_or}
use lib.Dec.{ltb, leb, eqb}
use borrow.Author.Tests.{lt-ltb, le-ltb, le-leb, lt-leb, leb-true, ltb-true, eqb-true}
use Rattle.sheet.specs.Reading.{Res, ok, no, byte_at, within}
use Rattle.sheet.specs.Expression.{Function, Scope, Parsed, located}
use Rattle.sheet.specs.Statement.{Stmt}
use Rattle.sheet.specs.Functions.{read_widths, Defined, read_functions}
use Rattle.sheet.specs.Module.{Listed, inputs_of, first_at, function_count, widths_at, Head, read_head, with_functions, read_wires, read_threads, Sheet, whole_sheet, read_sheet}
use Rattle.sheet.proofs.Reading.{ok-injective, bind_ok, check-ok, byte-ok}
use Rattle.sheet.proofs.Sections.{count_none}

-- ---- a head whose first byte is below 128 has no functions

first-is : (s : List ℕ) (at : ℕ) {b : ℕ} → first_at s at ≡ ok b → get_or s at 0 ≡ b
unfolding first_at
first-is s at h =
    let x = bind_ok (byte_at s at) _ h in
    let y = check-ok (leb 1 (inputs_of x.0)) 3 at _ x.2 in
    let z = check-ok (leb (inputs_of x.0) 16) 3 at _ y.1 in
    (byte-ok s at x.1).1 ∙ ok-injective z.1

module _ (s : List ℕ) (small : get_or s 0 0 < 128) {h : Head} (read : read_head s ≡ ok h) where
  pub head-closed : (h.scope.declared ≡ 0) × (h.scope.functions ≡ [])
  unfolding read_head
  head-closed =
      let b = bind_ok (first_at s 0) _ read in
      let r = bind_ok (within 1 32 3 s 1) _ b.2 in
      let w = bind_ok (within 0 32 3 s 2) _ r.2 in
      let t = bind_ok (within 1 8 3 s 3) _ w.2 in
      let n = bind_ok (function_count b.0 s 4) _ t.2 in
      let c = bind_ok (within 1 1 4 s (widths_at n.0)) _ n.2 in
      let ws = bind_ok (read_widths (inputs_of b.0 + r.0 + w.0 - 1) s (widths_at n.0 + 1)) _ c.2 in
      let e = first-is s 0 b.1 in
      let z : 0 ≡ n.0 = ok-injective (sym (count_none b.0 s 4 (omega arith)) ∙ n.1) in
      rw (← ok-injective ws.2) (sym z, refl)

no-functions : (s : List ℕ) (h : Head) {d : Defined} → h.scope.declared ≡ 0
    → read_functions h.scope.declared h.scope.declared [] s h.next ≡ ok d
    → d ≡ record { functions = []; places = []; next = h.next }
unfolding read_functions
no-functions s h z e = ok-injective (sym e ∙ (λ i. read_functions (z i) (z i) [] s h.next))

same-scope : (c : Scope) {fs : List Function} → c.functions ≡ [] → fs ≡ [] → with_functions c fs ≡ c
same-scope c n e = ap (λ (l : List Function). with_functions c l) (e ∙ sym n)

-- ---- a sheet

module _ {E : Type 0} (expr : Scope → ℕ → Res (Parsed E)) (s : List ℕ) where
  -- The whole reading reads the same sheet, and its first byte is a count of inputs.
  pub small-first : {r : Sheet E} → read_sheet expr s ≡ ok r → get_or s 0 0 < 128
  unfolding read_sheet
  small-first h =
      let a = check-ok (leb (length s) 8192) 1 8192 _ h in
      ltb-true (get_or s 0 0) 128 (check-ok (ltb (get_or s 0 0) 128) 3 0 _ a.1).0

  pub whole : {r : Sheet E} → read_sheet expr s ≡ ok r → whole_sheet expr s ≡ ok r
  unfolding read_sheet
  whole h =
      let a = check-ok (leb (length s) 8192) 1 8192 _ h in
      (check-ok (ltb (get_or s 0 0) 128) 3 0 _ a.1).1

  -- Where the first byte is below 128 the two readings are one.
  pub closed : get_or s 0 0 < 128 → read_sheet expr s ≡ whole_sheet expr s
  unfolding read_sheet whole_sheet
  closed l = by (leb (length s) 8192) refl
    where
      by : (t : Bool) → leb (length s) 8192 ≡ t → read_sheet expr s ≡ whole_sheet expr s
      by true e = rw (e, lt-ltb _ _ l)
      by false e = rw e

  -- What was read, part by part.
  pub record Parts (r : Sheet E) : Type 0 where
    pub short : length s ≤ 8192
    pub head : Head
    pub head-read : read_head s ≡ ok head
    pub none-declared : head.scope.declared ≡ 0
    pub none-callable : head.scope.functions ≡ []
    pub row : Listed E
    pub row_read : read_wires expr head.scope s head.wires (head.scope.inputs + head.scope.registers) head.next ≡ ok row
    pub rest : Listed (Stmt E)
    pub rest_read : read_threads expr head.scope s head.threads row.next ≡ ok rest
    pub ended : rest.next ≡ length s
    pub made : r ≡ record { contents = record { scope = head.scope; wires = row.items; threads = rest.items }; definitions = []; body = row.next }

  pub parts : {r : Sheet E} → read_sheet expr s ≡ ok r → Parts r
  unfolding whole_sheet
  parts {r} g =
      let a = check-ok (leb (length s) 8192) 1 8192 _ (whole g) in
      let h = bind_ok (read_head s) _ a.1 in
      let f = bind_ok (read_functions h.0.scope.declared h.0.scope.declared [] s h.0.next) _ h.2 in
      let c : Scope = with_functions h.0.scope f.0.functions in
      let w = bind_ok (read_wires expr c s h.0.wires (h.0.scope.inputs + h.0.scope.registers) f.0.next) _ f.2 in
      let t = bind_ok (read_threads expr c s h.0.threads w.0.next) _ w.2 in
      let z = check-ok (eqb t.0.next (length s)) 10 t.0.next _ t.2 in
      let n = head-closed s (small-first g) h.1 in
      let d = no-functions s h.0 n.0 f.1 in
      let e = same-scope h.0.scope n.1 (ap (λ (x : Defined). x.functions) d) in
      record {
        short = leb-true (length s) 8192 a.0;
        head = h.0;
        head-read = h.1;
        none-declared = n.0;
        none-callable = n.1;
        row = w.0;
        row_read = sym (λ i. read_wires expr (e i) s h.0.wires (h.0.scope.inputs + h.0.scope.registers) (d i).next) ∙ w.1;
        rest = t.0;
        rest_read = sym (λ i. read_threads expr (e i) s h.0.threads w.0.next) ∙ t.1;
        ended = eqb-true t.0.next (length s) z.0;
        made =
            sym (ok-injective z.1)
            ∙ (λ i. record { contents = record { scope = e i; wires = w.0.items; threads = t.0.items }; definitions = (d i).places; body = w.0.next });
      }

  pub unfunctioned : {r : Sheet E} → read_sheet expr s ≡ ok r → (r.contents.scope.declared ≡ 0) × (r.contents.scope.functions ≡ [])
  unfunctioned g = let p = parts g in rw p.made (p.none-declared, p.none-callable)

-- ---- the code's answers

module _ (s : List ℕ) where
  pub sheet-long : 8192 < length s → read_sheet (located s) s ≡ no 1 8192
  unfolding read_sheet
  sheet-long l = simp (lt-leb (length s) 8192 l)

  -- 3, at the first byte: a sheet with functions.
  pub sheet-functioned : length s ≤ 8192 → 128 ≤ get_or s 0 0 → read_sheet (located s) s ≡ no 3 0
  unfolding read_sheet
  sheet-functioned l b = rw (le-leb (length s) 8192 l, le-ltb (get_or s 0 0) 128 b)
