-- What was read of a sheet, part by part: its head, its functions, its wires and its threads.
use mathlib.Core.Path.{◌≡◌, sym, ap, ◌∙◌}
use Prim.Native.Nat.{ℕ, ◌+◌, ◌≤◌}
use native.Mathlib.Omega.{arith}
use mathlib.Core.List.{List, []}
use lib.ListN.{length, drop, length-take}
use lib.Dec.{leb, eqb}
use borrow.Author.Tests.{leb-true, eqb-true}
use Rattle.sheet.specs.Reading.{Res, ok}
use Rattle.sheet.specs.Expression.{Scope, Parsed}
use Rattle.sheet.specs.Statement.{Stmt}
use Rattle.sheet.specs.Functions.{Defined, read_functions}
use Rattle.sheet.specs.Module.{Listed, widths_at, Head, read_head, with_functions, read_wires, read_threads, Sheet, whole_sheet, read_sheet}
use Rattle.sheet.proofs.Reading.{bind_ok, check-ok, ok-injective}
use Rattle.sheet.proofs.Sections.{Headed}
use Rattle.sheet.proofs.Closed.{whole}

-- The module's scope.
abbrev pub scope_with : Head → Defined → Scope
scope_with h d = with_functions h.scope d.functions

module _ {E : Type 0} (expr : Scope → ℕ → Res (Parsed E)) (s : List ℕ) where
  pub record Sections (r : Sheet E) : Type 0 where
    pub short : length s ≤ 8192
    pub head : Head
    pub head-read : read_head s ≡ ok head
    pub functions : Defined
    pub functions-read : read_functions head.scope.declared head.scope.declared [] s head.next ≡ ok functions
    pub wires : Listed E
    pub wires-read : read_wires expr (scope_with head functions) s head.wires (head.scope.inputs + head.scope.registers) functions.next ≡ ok wires
    pub threads : Listed (Stmt E)
    pub threads-read : read_threads expr (scope_with head functions) s head.threads wires.next ≡ ok threads
    pub ended : threads.next ≡ length s
    pub made :
        r
        ≡ record {
          contents = record { scope = scope_with head functions; wires = wires.items; threads = threads.items };
          definitions = functions.places;
          body = wires.next;
        }

  whole-sections : {r : Sheet E} → whole_sheet expr s ≡ ok r → Sections r
  unfolding whole_sheet
  whole-sections e =
      let k = check-ok (leb (length s) 8192) 1 8192 _ e in
      let h = bind_ok (read_head s) _ k.1 in
      let fs = bind_ok (read_functions h.0.scope.declared h.0.scope.declared [] s h.0.next) _ h.2 in
      let sc = scope_with h.0 fs.0 in
      let es = bind_ok (read_wires expr sc s h.0.wires (h.0.scope.inputs + h.0.scope.registers) fs.0.next) _ fs.2 in
      let ts = bind_ok (read_threads expr sc s h.0.threads es.0.next) _ es.2 in
      let z = check-ok (eqb ts.0.next (length s)) 10 ts.0.next _ ts.2 in
      record {
        short = leb-true (length s) 8192 k.0;
        head = h.0;
        head-read = h.1;
        functions = fs.0;
        functions-read = fs.1;
        wires = es.0;
        wires-read = es.1;
        threads = ts.0;
        threads-read = ts.1;
        ended = eqb-true ts.0.next (length s) z.0;
        made = sym (ok-injective z.1);
      }

  pub sections : {r : Sheet E} → read_sheet expr s ≡ ok r → Sections r
  sections e = whole-sections (whole expr s e)

-- "inputs (1 to 16), registers (1 to 32), wires (0 to 32)": 80 variables at most.
pub head-widths : (s : List ℕ) (h : Head) → Headed s h → length h.scope.widths ≤ 80
head-widths s h x =
    let n = h.scope.inputs + h.scope.registers + h.wires in
    let i = x.inputs-most in
    let r = x.registers-most in
    let w = x.wires-most in
    let e = ap (λ (g : Head). length g.scope.widths) x.same ∙ length-take n (drop (widths_at h.scope.declared) s) in
    omega (arith, e)
