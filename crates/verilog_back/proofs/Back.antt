-- The claims of specs/Claims.antt.
-- Assumes nothing.
use mathlib.Core.Path.{◌≡◌, refl, sym, ap, ◌∙◌}
use mathlib.Core.List.{List, []}
use Prim.Native.Nat.{ℕ, ◌≤◌, ◌<◌}
use native.Mathlib.Omega.{arith}
use lib.ListN.{length}
use borrow.Author.Tests.{eq-eqb, le-leb}
use Rattle.sheet.specs.Reading as Sheet
use Rattle.sheet.specs.Expression.{Expr}
use Rattle.sheet.specs.Module.{Module, read}
use Rattle.encoding.specs.Encoding.{Bytes, encode}
use Rattle.encoding.specs.WellFormed.{WellFormed}
use Rattle.encoding.proofs.Bytes.{all-bytes}
use Rattle.encoding.proofs.Encoding.{read-encode, encode-read}
use Rattle.naming.specs.Naming.{plain_name}
use Rattle.verilog.specs.Verilog.{verilog_text}
use Rattle.verilog_tokens.specs.Tokens.{tokens}
use Rattle.verilog_grammar.specs.AnnexA.{ModuleDeclaration, yield}
use Rattle.verilog_grammar.specs.Meaning.{meaning}
use Rattle.verilog_grammar.specs.Reader.{ok, read_module}
use Rattle.verilog_grammar.specs.Claims.{AllDerived}
use Rattle.verilog_grammar.proofs.Module.{all-derived}
use Rattle.verilog_source.specs.Names.{number_of, faults}
use Rattle.verilog_source.specs.Compiled.{unnumbered, parts_of, sheet_of, judged, named, derived, short, lent_right, compiled}
use Rattle.verilog_source.specs.Claims.{Derives, declared_by, sheet_by}
use Rattle.verilog_source.proofs.Bytes.{sheet-bytes}
use Rattle.verilog_lexed.specs.Lexed.{tokens_of}
use Rattle.verilog_lexed.specs.Claims.{PrintedTokens}
use Rattle.verilog_lexed.proofs.Lexed.{printed-tokens}
use Rattle.verilog_back.specs.Returned.{returned_module}
use Rattle.verilog_back.specs.Tree.{tree_of}
use Rattle.verilog_back.specs.Claims.{ReadsBack, Accepts, OnlyFits, TooLong, TooDeep, SameCode, SameSheet}
use Rattle.verilog_back.proofs.Returned.{same_code, module-kept}
use Rattle.verilog_back.proofs.Yields.{module-yields}
use Rattle.verilog_back.proofs.Counted.{tree-counts}
use Rattle.verilog_back.proofs.Plain.{plain-distinct}
use Rattle.verilog_back.proofs.Sheet.{tree-faultless, tree-sheet}
use Rattle.verilog_back.proofs.Unique.{fits-formed, only-returned, read_fits}
use Rattle.verilog_back.proofs.Limits.{too_long, too-deep}

-- ---- a text with a derivation whose names have no fault has the answer of its sheet

read_by : (index : List ℕ → ℕ) (text : List ℕ) (t : ModuleDeclaration) → Derives text t
    → read_module index (tokens text) ≡ ok (meaning index t) []
unfolding AllDerived
read_by index text t d =
    all-derived index (tokens text) (meaning index t) (record { tree = t; counts = d.counts; yields = d.yields; means = refl })

answered : (text lent : List ℕ) (t : ModuleDeclaration) → length lent ≡ 8192 → length text ≤ 16384 → Derives text t
    → faults (tokens text) (declared_by t) ≡ [] → compiled text lent ≡ judged lent (sheet_by t) (read (sheet_by t))
unfolding compiled lent_right short derived named declared_by sheet_of sheet_by parts_of
answered text lent t h l d f =
    rw (
      eq-eqb (length lent) 8192 h,
      le-leb (length text) 16384 l,
      read_by unnumbered text t d,
      f,
      read_by (number_of (meaning unnumbered t).parts) text t d,
    )
    refl

-- ---- of the printed text

few : (m : Module Expr) → WellFormed m → length m.scope.widths ≤ 80
few m f =
    let l = f.variables in
    let a = f.inputs.1 in
    let b = f.registers.1 in
    let c = f.wires in
    omega arith

plain-names : (m : Module Expr) → WellFormed m → (u v : ℕ) → u < length m.scope.widths → v < length m.scope.widths
    → plain_name m.scope.inputs m.scope.registers u ≡ plain_name m.scope.inputs m.scope.registers v → u ≡ v
plain-names m f u v a b e =
    let n = few m f in
    plain-distinct m.scope.inputs m.scope.registers u v (omega arith) (omega arith) e

reads-module : (lent : List ℕ) (m : Module Expr) → WellFormed m → length lent ≡ 8192 → length (verilog_text m) ≤ 16384
    → compiled (verilog_text m) lent ≡ judged lent (encode (returned_module m)) (read (encode (returned_module m)))
unfolding PrintedTokens tokens_of
reads-module lent m f h l =
    let called = plain_name m.scope.inputs m.scope.registers in
    let y = module-yields called m f in
    let t = tree_of called m y.0 in
    let e : yield t ≡ tokens (verilog_text m) = sym (printed-tokens m f ∙ y.1) in
    let g : faults (tokens (verilog_text m)) (declared_by t) ≡ [] = rw (← e) (tree-faultless called m f y.0 (plain-names m f)) in
    let a = answered (verilog_text m) lent t h l (record { counts = tree-counts called m y.0; yields = e }) g in
    rw (tree-sheet called m f y.0 (plain-names m f)) at a

pub reads-back : ReadsBack
unfolding ReadsBack
reads-back s lent m b r h l = reads-module lent m (read-encode s b r).0 h l

pub same-sheet : SameSheet
unfolding SameSheet judged
same-sheet s lent m b r h l o =
    let w = read-encode s b r in
    let e : encode (returned_module m) ≡ s = ap encode (module-kept m o) ∙ w.1 in
    reads-module lent m w.0 h l ∙ rw (e, r) refl

-- ---- of the sheet that comes back

pub accepts : Accepts
unfolding Accepts
accepts s m b r h = encode-read (fits-formed m (read-encode s b r).0 h)

back-bytes : (m : Module Expr) → WellFormed m → Bytes (encode (returned_module m))
back-bytes m f =
    let called = plain_name m.scope.inputs m.scope.registers in
    let y = module-yields called m f in
    rw (tree-sheet called m f y.0 (plain-names m f)) at (all-bytes (sheet-bytes (tree_of called m y.0)))

pub only-fits : OnlyFits
unfolding OnlyFits
only-fits s m d b r h =
    let f = (read-encode s b r).0 in
    let g = read-encode (encode (returned_module m)) (back-bytes m f) h in
    let e = only-returned m d f g.0 g.1 in
    let w : WellFormed (returned_module m) = rw e at g.0 in
    (read_fits m w, e)

pub long-refused : TooLong
unfolding TooLong
long-refused m h = too_long (encode (returned_module m)) h

pub deep-refused : TooDeep
unfolding TooDeep
deep-refused s m n p b r h e = too-deep m (read-encode s b r).0 h n p e

pub same-pseudocode : SameCode
unfolding SameCode
same-pseudocode m = same_code m
