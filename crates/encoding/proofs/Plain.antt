-- Modules without functions: the whole reading and the whole encoding of these are the reading and the encoding of document 01.
-- Assumes nothing.
use mathlib.Core.Path.{◌≡◌, refl, sym, ◌∙◌, subst, subst⁻¹}
use Prim.Native.Nat.{ℕ, ◌≤◌, ◌<◌}
use native.Mathlib.Omega.{arith}
use mathlib.Core.List.{List, [], append-nil}
use lib.ListN.{length, get_or}
use Rattle.sheet.specs.Reading.{ok}
use Rattle.sheet.specs.Expression.{Expr, tree}
use Rattle.sheet.specs.Module.{Module, Sheet, read_sheet}
use Rattle.sheet.proofs.Closed.{whole, unfunctioned, closed}
use Rattle.encoding.specs.Encoding.{Bytes, encode}
use Rattle.encoding.specs.WellFormed.{WellFormed}
use Rattle.encoding.specs.Whole.{encode_functions, first_byte, count_bytes, encode_whole, FunctionsFit, WholeFormed}
use Rattle.encoding.proofs.Whole.{whole-ok, whole-at}

-- No function is declared, and none may be called.
abbrev Plain : Module Expr → Type 0
Plain m = (m.scope.declared ≡ 0) × (m.scope.functions ≡ [])

pub plain-encode : (m : Module Expr) → Plain m → encode_whole m ≡ encode m
unfolding encode_whole encode first_byte count_bytes encode_functions
plain-encode m z = rw (z.0, z.1, append-nil m.scope.widths) refl

pub whole-formed : (m : Module Expr) → Plain m → WholeFormed m → WellFormed m
whole-formed m z f =
    record {
      inputs = f.inputs;
      registers = f.registers;
      wires = f.wires;
      threads = f.threads;
      plain = z;
      variables = f.variables;
      widths = f.widths;
      clock = f.clock;
      wired = f.wired;
      threaded = f.threaded;
      short = subst (λ (x : List ℕ). length x ≤ 8192) (plain-encode m z) f.short;
    }

pub formed-whole : (m : Module Expr) → WellFormed m → WholeFormed m
unfolding FunctionsFit
formed-whole m f =
    let z = f.plain in
    let n = z.0 in
    record {
      inputs = f.inputs;
      registers = f.registers;
      wires = f.wires;
      threads = f.threads;
      functions = omega arith;
      declared = rw (z.0, z.1) refl;
      variables = f.variables;
      widths = f.widths;
      clock = f.clock;
      functioned = rw z.1 tt;
      wired = f.wired;
      threaded = f.threaded;
      short = subst⁻¹ (λ (x : List ℕ). length x ≤ 8192) (plain-encode m z) f.short;
    }

-- ---- read_sheet

pub sheet-ok : (s : List ℕ) {r : Sheet Expr} → Bytes s → read_sheet (tree s) s ≡ ok r → WellFormed r.contents × (encode r.contents ≡ s)
sheet-ok s {r} bs e =
    let z = unfunctioned (tree s) s e in
    let x = whole-ok s bs (whole (tree s) s e) in
    (whole-formed r.contents z x.0, sym (plain-encode r.contents z) ∙ x.1)

-- The first byte of such a sheet is its count of inputs.
small : (m : Module Expr) → WellFormed m → get_or (encode m) 0 0 < 128
unfolding encode
small m f = let i = f.inputs.1 in omega arith

pub sheet-at : (m : Module Expr) → WellFormed m
    → (ps : List ℕ) × (b : ℕ) × (read_sheet (tree (encode m)) (encode m) ≡ ok (record { contents = m; definitions = ps; body = b }))
sheet-at m f =
    let x = whole-at (encode m) m (formed-whole m f) (plain-encode m f.plain) in
    (x.0, x.1, closed (tree (encode m)) (encode m) (small m f) ∙ x.2)
