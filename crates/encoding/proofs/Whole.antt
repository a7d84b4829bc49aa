-- The whole reading and the whole encoding undo each other: sheets with functions. Assumes nothing.
use mathlib.Core.Path.{◌≡◌, refl, sym, ap, ◌∙◌, subst, subst⁻¹}
use mathlib.Core.Logic.{◌↔◌}
use Prim.Native.Nat.{ℕ, ◌+◌, ◌≤◌}
use native.Mathlib.Omega.{arith}
use mathlib.Core.List.{List, [], ◌++◌}
use lib.ListN.{length}
use lib.Dec.{leb, eqb}
use borrow.Author.Tests.{le-leb, leb-true, eq-eqb, eqb-true}
use Rattle.sheet.specs.Reading.{ok}
use Rattle.sheet.specs.Expression.{Expr, Scope, tree}
use Rattle.sheet.specs.Functions.{Defined, read_functions}
use Rattle.sheet.specs.Module.{Module, widths_at, read_head, with_functions, read_wires, read_threads, Sheet, whole_sheet, read_whole}
use Rattle.sheet.proofs.Reading.{ok-injective, bind_ok, check-ok}
use Rattle.encoding.specs.Encoding.{Bytes, encode_wires, encode_threads}
use Rattle.encoding.specs.WellFormed.{WiresFit, ThreadsFit}
use Rattle.encoding.specs.Whole.{encode_functions, encode_whole, FunctionsFit, WholeFormed}
use Rattle.encoding.proofs.Spelling.{Spells, spells-append, spells-split, spells-self, spells-whole}
use Rattle.encoding.proofs.Head.{with-ok, front_bytes, FrontFits, head_of, Fronted, front-ok, front_at, front_length}
use Rattle.encoding.proofs.Module.{wires-ok, wires-at, threads-ok, threads-at}
use Rattle.encoding.proofs.Functions.{functions-ok, functions-at}

-- ---- the sheet

-- All functions, none before them.
all-ok : (declared n : ℕ) (s : List ℕ) (p : ℕ) {d : Defined} → Bytes s → p ≤ length s → read_functions declared n [] s p ≡ ok d
    → (length d.functions ≡ n) × FunctionsFit declared [] d.functions × (Spells s p (encode_functions d.functions) d.next)
all-ok declared n s p bs l h = let y = functions-ok declared n [] s p bs l h in rw y.1 (y.2, y.3, y.4)

-- Head, functions, wires and threads that stand one after the other and end with the sheet are its module.
whole_of : (s : List ℕ) (m : Module Expr) (w t : ℕ) {a n p q : ℕ} → length s ≤ 8192
    → FrontFits m.scope.inputs m.scope.registers w t m.scope.declared m.scope.widths
    × (Spells s 0 (front_bytes m.scope.inputs m.scope.registers w t m.scope.declared m.scope.widths) a)
    → (length m.scope.functions ≡ m.scope.declared) × FunctionsFit m.scope.declared [] m.scope.functions
    × (Spells s a (encode_functions m.scope.functions) n)
    → (length m.wires ≡ w) × WiresFit m.scope (m.scope.inputs + m.scope.registers) m.wires × (Spells s n (encode_wires m.wires) p)
    → (length m.threads ≡ t) × ThreadsFit m.scope m.threads × (Spells s p (encode_threads m.threads) q)
    → q ≡ length s → WholeFormed m × (encode_whole m ≡ s)
unfolding encode_whole
whole_of s m w t l h d x y e =
    let f = h.0 in
    let a = x.0 in
    let b = y.0 in
    let c = f.wires in
    let i = f.threads in
    let g = f.variables in
    let same : encode_whole m ≡ s =
    rw (a, b) (spells-whole (rw e at (spells-append (spells-append (spells-append h.1 d.2) x.2) y.2)))
    in (
      record {
        inputs = f.inputs;
        registers = f.registers;
        wires = omega arith;
        threads = omega arith;
        functions = f.functions;
        declared = d.0;
        variables = omega arith;
        widths = f.widths;
        clock = f.clock;
        functioned = d.1;
        wired = x.1;
        threaded = y.1;
        short = subst⁻¹ (λ (x : List ℕ). length x ≤ 8192) same l;
      },
      same,
    )

pub whole-ok : (s : List ℕ) {r : Sheet Expr} → Bytes s → whole_sheet (tree s) s ≡ ok r → WholeFormed r.contents × (encode_whole r.contents ≡ s)
unfolding whole_sheet Fronted
whole-ok s bs e₀ =
    let l = check-ok (leb (length s) 8192) 1 8192 _ e₀ in
    with-ok (read_head s) _ l.1 (λ h x e₁.
    with-ok (read_functions h.scope.declared h.scope.declared [] s h.next) _ e₁ (λ d z e₂.
    let c : Scope = with_functions h.scope d.functions in
    with-ok (read_wires (tree s) c s h.wires (h.scope.inputs + h.scope.registers) d.next) _ e₂ (λ es y e₃.
    with-ok (read_threads (tree s) c s h.threads es.next) _ e₃ (λ ts v e₄.
    let k = check-ok (eqb ts.next (length s)) 10 ts.next _ e₄ in
    let a = front-ok s x in
    let f = all-ok h.scope.declared h.scope.declared s h.next bs a.1.below z in
    let b = wires-ok c s h.wires (h.scope.inputs + h.scope.registers) d.next bs f.2.below y in
    let g = threads-ok c s h.threads es.next bs b.2.below v in
    rw (← ok-injective k.1)
    (whole_of s (record { scope = c; wires = es.items; threads = ts.items }) h.wires h.threads (leb-true _ _ l.0) a f b g (eqb-true _ _ k.0))))))

-- Its parts were read one after the other.
whole-made : (s : List ℕ) (m : Module Expr) (ps : List ℕ) {a b : ℕ} → length s ≤ 8192
    → read_head s ≡ ok (head_of m.scope.inputs m.scope.registers (length m.wires) (length m.threads) m.scope.declared m.scope.widths)
    → read_functions m.scope.declared m.scope.declared [] s (widths_at m.scope.declared + (m.scope.inputs + m.scope.registers + length m.wires))
    ≡ ok (record { functions = m.scope.functions; places = ps; next = a })
    → read_wires (tree s) (with_functions m.scope m.scope.functions) s (length m.wires) (m.scope.inputs + m.scope.registers) a
    ≡ ok (record { items = m.wires; next = b })
    → read_threads (tree s) (with_functions m.scope m.scope.functions) s (length m.threads) b ≡ ok (record { items = m.threads; next = length s })
    → whole_sheet (tree s) s ≡ ok (record { contents = m; definitions = ps; body = b })
unfolding whole_sheet
whole-made s m ps l h f w t = rw (le-leb (length s) 8192 l, h, f, w, t, eq-eqb (length s) (length s) refl) refl

pub whole-at : (s : List ℕ) (m : Module Expr) → WholeFormed m → encode_whole m ≡ s
    → (ps : List ℕ) × (b : ℕ) × (whole_sheet (tree s) s ≡ ok (record { contents = m; definitions = ps; body = b }))
unfolding encode_whole
whole-at s m f e =
    let i = m.scope.inputs in
    let r = m.scope.registers in
    let n = m.scope.declared in
    let ws = m.scope.widths in
    let fs = m.scope.functions in
    let front : List ℕ = front_bytes i r (length m.wires) (length m.threads) n ws in
    let fits : FrontFits i r (length m.wires) (length m.threads) n ws =
    record {
      inputs = f.inputs;
      registers = f.registers;
      wires = f.wires;
      threads = f.threads;
      functions = f.functions;
      variables = f.variables;
      widths = f.widths;
      clock = f.clock;
    }
    in
    let short : length s ≤ 8192 = subst (λ (x : List ℕ). length x ≤ 8192) e f.short in
    let whole : Spells s 0 (encode_whole m) (length s) = subst⁻¹ (λ (x : List ℕ). Spells s 0 x (length s)) e (spells-self s) in
    let z = spells-split (front ++ encode_functions fs ++ encode_wires m.wires) (encode_threads m.threads) whole in
    let y = spells-split (front ++ encode_functions fs) (encode_wires m.wires) z.0 in
    let x = spells-split front (encode_functions fs) y.0 in
    let k : 0 + length front ≡ widths_at n + (i + r + length m.wires) = front_length i r (length m.wires) (length m.threads) n ws f.variables in
    let d = functions-at n [] s fs f.functioned (rw k at x.1) in
    let g : read_functions n n [] s (widths_at n + (i + r + length m.wires)) ≡ ok (record { functions = fs; places = d.0; next = 0 + length (front ++ encode_functions fs) }) =
    rw f.declared at d.1
    in (
      d.0,
      0 + length (front ++ encode_functions fs ++ encode_wires m.wires),
      whole-made s m d.0 short
          (front_at s i r (length m.wires) (length m.threads) n ws fits x.0)
          g
          (wires-at m.scope (i + r) m.wires f.wired y.1)
          (threads-at m.scope m.threads f.threaded z.1),
    )

-- ---- THE THEOREM for sheets with functions (its proof is `reads-wholly`, below): the whole reading of the bytes s gives the module m
-- exactly when m is well formed and its encoding is s.

abbrev pub ReadsWholly : Type 0
ReadsWholly = (s : List ℕ) → Bytes s → (m : Module Expr) → (read_whole s ≡ ok m) ↔ (WholeFormed m × (encode_whole m ≡ s))

pub whole-encode : (s : List ℕ) → Bytes s → {m : Module Expr} → read_whole s ≡ ok m → WholeFormed m × (encode_whole m ≡ s)
unfolding read_whole
whole-encode s bs h =
    let r = bind_ok (whole_sheet (tree s) s) _ h in
    rw (← ok-injective r.2) (whole-ok s bs r.1)

pub encode-whole : {m : Module Expr} → WholeFormed m → read_whole (encode_whole m) ≡ ok m
unfolding read_whole
encode-whole {m} f = rw (whole-at (encode_whole m) m f refl).2 refl

pub reads-wholly : ReadsWholly
reads-wholly s bs m = (λ h. whole-encode s bs h, λ h. ap read_whole (sym h.1) ∙ encode-whole h.0)
