-- What comes back is well formed where it passes no limit, and its encoding is that of no other module.
-- Assumes nothing.
use mathlib.Core.Path.{◌≡◌, refl, sym, ap, subst, ◌∙◌}
use mathlib.Core.Bool.{Bool, true, false}
use mathlib.Core.List.{List, [], ◌∷◌, ◌++◌, map, append_assoc, append_cancel_left}
use Prim.Native.Nat.{ℕ, zero, suc, ◌+◌}
use native.Mathlib.Omega.{arith}
use lib.ListN.{length, take, drop, length-map}
use lib.Seq.{take_at, drop_at}
use Rattle.values.specs.Values.{pick}
use Rattle.sheet.specs.Expression.{Expr, tree, Scope}
use Rattle.sheet.specs.Statement.{Stmt, empty, assign, later, sequence, if_then, if_else, while, forever, wait, Body}
use Rattle.sheet.specs.Module.{Module, Listed}
use Rattle.sheet.proofs.Reading.{ok-injective}
use Rattle.sheet.proofs.Statements.{accept-stmt}
use Rattle.encoding.specs.Encoding.{encode_stmt, encode_wires, encode_threads, encode}
use Rattle.encoding.specs.WellFormed.{WellBuilt, WiresFit, ThreadsFit, WellFormed}
use Rattle.encoding.proofs.Spelling.{Spells, spells-self, spells-split}
use Rattle.encoding.proofs.Statements.{spells-stmt}
use Rattle.encoding.proofs.Module.{wires-at}
use Rattle.verilog_back.specs.Returned.{is_wait, returned, returned_module, Shallow, AllShallow, Fits}
use Rattle.verilog_back.proofs.Returned.{returned-size}

-- ---- one level deeper

deeper : (c : Scope) (k : ℕ) (a : Stmt Expr) → WellBuilt c k a → WellBuilt c (suc k) a
unfolding WellBuilt
deeper c zero a t = absurd t
deeper c (suc k) empty t = tt
deeper c (suc k) (assign v e) t = t
deeper c (suc k) (later v e) t = t
deeper c (suc k) (sequence a b) t = (deeper c k a t.0, deeper c k b t.1)
deeper c (suc k) (if_then e a) t = (t.0, deeper c k a t.1)
deeper c (suc k) (if_else e a b) t = (t.0, deeper c k a t.1, deeper c k b t.2)
deeper c (suc k) (while e a) t = (t.0, deeper c k a t.1)
deeper c (suc k) (forever a) t = deeper c k a t
deeper c (suc k) (wait ts) t = t

picked-built : (c : Scope) (k : ℕ) (t : Bool) (a b : Stmt Expr) → WellBuilt c k a → WellBuilt c k b → WellBuilt c k (pick t a b)
picked-built c k true a b h l = h
picked-built c k false a b h l = l

pub returned-built : (c : Scope) (k : ℕ) (a : Stmt Expr) → WellBuilt c k a → WellBuilt c (suc k) (returned a)
unfolding WellBuilt returned
returned-built c zero a t = absurd t
returned-built c (suc k) empty t = tt
returned-built c (suc k) (assign v e) t = t
returned-built c (suc k) (later v e) t = t
returned-built c (suc k) (sequence a b) t =
    (picked-built c (suc k) (is_wait a) a (returned a) (deeper c k a t.0) (returned-built c k a t.0), returned-built c k b t.1)
returned-built c (suc k) (if_then e a) t = (t.0, returned-built c k a t.1)
returned-built c (suc k) (if_else e a b) t = (t.0, returned-built c k a t.1, returned-built c k b t.2)
returned-built c (suc k) (while e a) t = (t.0, returned-built c k a t.1)
returned-built c (suc k) (forever a) t = returned-built c k a t
returned-built c (suc k) (wait ts) t = (t, tt)

-- ---- depths

built-shallow : (c : Scope) (k : ℕ) (a : Stmt Expr) → WellBuilt c k a → Shallow k a
unfolding WellBuilt Shallow
built-shallow c zero a t = t
built-shallow c (suc k) empty t = tt
built-shallow c (suc k) (assign v e) t = tt
built-shallow c (suc k) (later v e) t = tt
built-shallow c (suc k) (sequence a b) t = (built-shallow c k a t.0, built-shallow c k b t.1)
built-shallow c (suc k) (if_then e a) t = built-shallow c k a t.1
built-shallow c (suc k) (if_else e a b) t = (built-shallow c k a t.1, built-shallow c k b t.2)
built-shallow c (suc k) (while e a) t = built-shallow c k a t.1
built-shallow c (suc k) (forever a) t = built-shallow c k a t
built-shallow c (suc k) (wait ts) t = tt

shallow-built : (c : Scope) (k j : ℕ) (a : Stmt Expr) → WellBuilt c j a → Shallow k a → WellBuilt c k a
unfolding WellBuilt Shallow
shallow-built c zero j a t h = h
shallow-built c (suc k) zero a t h = absurd t
shallow-built c (suc k) (suc j) empty t h = tt
shallow-built c (suc k) (suc j) (assign v e) t h = t
shallow-built c (suc k) (suc j) (later v e) t h = t
shallow-built c (suc k) (suc j) (sequence a b) t h = (shallow-built c k j a t.0 h.0, shallow-built c k j b t.1 h.1)
shallow-built c (suc k) (suc j) (if_then e a) t h = (t.0, shallow-built c k j a t.1 h)
shallow-built c (suc k) (suc j) (if_else e a b) t h = (t.0, shallow-built c k j a t.1 h.0, shallow-built c k j b t.2 h.1)
shallow-built c (suc k) (suc j) (while e a) t h = (t.0, shallow-built c k j a t.1 h)
shallow-built c (suc k) (suc j) (forever a) t h = shallow-built c k j a t h
shallow-built c (suc k) (suc j) (wait ts) t h = t

fit-shallow : (c : Scope) (bs : List (Stmt Expr)) → ThreadsFit c bs → AllShallow bs
unfolding ThreadsFit AllShallow
fit-shallow c [] t = tt
fit-shallow c (b ∷ bs) t = (built-shallow c 64 b t.0, fit-shallow c bs t.2)

shallow-fit : (c : Scope) (bs : List (Stmt Expr)) → ThreadsFit c bs → AllShallow (map returned bs) → ThreadsFit c (map returned bs)
unfolding ThreadsFit AllShallow
shallow-fit c [] t h = tt
shallow-fit c (b ∷ bs) t h = (
  shallow-built c 64 65 (returned b) (returned-built c 64 b t.0) h.0,
  rw (returned-size b) t.1,
  shallow-fit c bs t.2 h.1,
)

-- ---- well formed where it fits

pub fits-formed : (m : Module Expr) → WellFormed m → Fits m → WellFormed (returned_module m)
unfolding returned_module Fits
fits-formed m f h =
    let n = length-map m.threads returned in
    let a = f.threads.0 in
    let b = f.threads.1 in
    record {
      inputs = f.inputs;
      registers = f.registers;
      wires = f.wires;
      threads = (omega arith, omega arith);
      plain = f.plain;
      variables = f.variables;
      widths = f.widths;
      clock = f.clock;
      wired = f.wired;
      threaded = shallow-fit m.scope m.threads f.threaded h.1;
      short = h.0;
    }

-- ---- one statement for its bytes

same-stmt : (c : Scope) (k : ℕ) (a b : Stmt Expr) (x y : List ℕ) → WellBuilt c k a → WellBuilt c k b
    → encode_stmt a ++ x ≡ encode_stmt b ++ y → (a ≡ b) × (x ≡ y)
same-stmt c k a b x y h l e =
    let s = encode_stmt a ++ x in
    let p = spells-split (encode_stmt a) x (spells-self s) in
    let whole : Spells s 0 (encode_stmt b ++ y) (length s) = rw (← e) (spells-self s) in
    let q = spells-split (encode_stmt b) y whole in
    let u = accept-stmt (tree s) c s (spells-stmt a h p.0) in
    let v = accept-stmt (tree s) c s (spells-stmt b l q.0) in
    let same : a ≡ b = ap (λ (z : Body Expr). z.stmt) (ok-injective (sym u ∙ v)) in
    (same, append_cancel_left (encode_stmt b) x y (ap (λ (z : Stmt Expr). encode_stmt z ++ x) (sym same) ∙ e))

-- Statements of depth at most 65, one after the other.
unfoldable Built : Scope → List (Stmt Expr) → Type 0
Built c [] = Unit {0}
Built c (b ∷ bs) = WellBuilt c 65 b × Built c bs

fit-built : (c : Scope) (bs : List (Stmt Expr)) → ThreadsFit c bs → Built c bs
unfolding ThreadsFit Built
fit-built c [] t = tt
fit-built c (b ∷ bs) t = (deeper c 64 b t.0, fit-built c bs t.2)

back-built : (c : Scope) (bs : List (Stmt Expr)) → ThreadsFit c bs → Built c (map returned bs)
unfolding ThreadsFit Built
back-built c [] t = tt
back-built c (b ∷ bs) t = (returned-built c 64 b t.0, back-built c bs t.2)

same-threads : (c : Scope) (bs ds : List (Stmt Expr)) → Built c bs → Built c ds → length bs ≡ length ds
    → encode_threads bs ≡ encode_threads ds
    → bs ≡ ds
unfolding Built encode_threads
same-threads c [] [] h l n e = refl
same-threads c [] (d ∷ ds) h l n e = absurd (omega arith)
same-threads c (b ∷ bs) [] h l n e = absurd (omega arith)
same-threads c (b ∷ bs) (d ∷ ds) h l n e =
    let x = same-stmt c 65 b d (encode_threads bs) (encode_threads ds) h.0 l.0 e in
    let y = same-threads c bs ds h.1 l.1 (omega arith) x.1 in
    ap (λ (z : Stmt Expr). z ∷ bs) x.0 ∙ ap (λ (z : List (Stmt Expr)). d ∷ z) y

same-wires : (c : Scope) (v : ℕ) (es ds : List Expr) (x y : List ℕ) → WiresFit c v es → WiresFit c v ds
    → length es ≡ length ds → encode_wires es ++ x ≡ encode_wires ds ++ y → (es ≡ ds) × (x ≡ y)
same-wires c v es ds x y h l n e =
    let s = encode_wires es ++ x in
    let p = spells-split (encode_wires es) x (spells-self s) in
    let whole : Spells s 0 (encode_wires ds ++ y) (length s) = rw (← e) (spells-self s) in
    let q = spells-split (encode_wires ds) y whole in
    let u = wires-at c v es h p.0 in
    let w = rw (← n) at (wires-at c v ds l q.0) in
    let same : es ≡ ds = ap (λ (z : Listed Expr). z.items) (ok-injective (sym u ∙ w)) in
    (same, append_cancel_left (encode_wires ds) x y (ap (λ (z : List Expr). encode_wires z ++ x) (sym same) ∙ e))

-- ---- one module for its bytes

module-same : (a b : Scope) (es fs : List Expr) (bs ds : List (Stmt Expr)) → a ≡ b → es ≡ fs → bs ≡ ds
    → ◌≡◌ {A = Module Expr} (record { scope = a; wires = es; threads = bs }) (record { scope = b; wires = fs; threads = ds })
module-same a b es fs bs ds p q r = cc

scope-same : (a b : Scope) → a.inputs ≡ b.inputs → a.registers ≡ b.registers → a.widths ≡ b.widths → a.declared ≡ b.declared
    → a.functions ≡ b.functions → a ≡ b
scope-same a b i r w d f = λ j. record { inputs = i j; registers = r j; widths = w j; declared = d j; functions = f j }

parted : (ws us x y : List ℕ) → length ws ≡ length us → ws ++ x ≡ us ++ y → (ws ≡ us) × (x ≡ y)
parted ws us x y n e = (
  sym (take_at ws x (length us) n) ∙ ap (λ (l : List ℕ). take (length us) l) e ∙ take_at us y (length us) refl,
  sym (drop_at ws x (length us) n) ∙ ap (λ (l : List ℕ). drop (length us) l) e ∙ drop_at us y (length us) refl,
)

pub only-returned : (m d : Module Expr) → WellFormed m → WellFormed d → encode d ≡ encode (returned_module m) → d ≡ returned_module m
unfolding encode returned_module
only-returned m d f g e =
    let c = m.scope in
    let k = d.scope in
    let i : k.inputs ≡ c.inputs = cc in
    let r : k.registers ≡ c.registers = cc in
    let w : length d.wires ≡ length m.wires = cc in
    let t : length d.threads ≡ length (map returned m.threads) = cc in
    let z : k.widths ++ encode_wires d.wires ++ encode_threads d.threads
    ≡ c.widths ++ encode_wires m.wires ++ encode_threads (map returned m.threads) = cc in
    let z' = rw (append_assoc k.widths, append_assoc c.widths) at z in
    let a = f.variables in
    let b = g.variables in
    let p = parted k.widths c.widths _ _ (omega arith) z' in
    let same : k ≡ c = scope-same k c i r p.0 (g.plain.0 ∙ sym f.plain.0) (g.plain.1 ∙ sym f.plain.1) in
    let wired : WiresFit c (c.inputs + c.registers) d.wires =
    subst (λ (z : Scope). WiresFit z (z.inputs + z.registers) d.wires) same g.wired in
    let built : Built c d.threads = subst (λ (z : Scope). Built z d.threads) same (fit-built k d.threads g.threaded) in
    let u = same-wires c (c.inputs + c.registers) d.wires m.wires _ _ wired f.wired w p.1 in
    let v = same-threads c d.threads (map returned m.threads) built (back-built c m.threads f.threaded) t u.1 in
    module-same k c d.wires m.wires d.threads (map returned m.threads) same u.0 v

-- ---- what is read fits

pub read_fits : (m : Module Expr) → WellFormed (returned_module m) → Fits m
unfolding Fits returned_module
read_fits m f = (f.short, fit-shallow m.scope (map returned m.threads) f.threaded)
