-- The counts and the widths of a sheet, with or without functions, are read exactly when they keep the rules and stand in front.
-- Assumes nothing.
use mathlib.Core.Path.{◌≡◌, refl, sym, ap, ◌∙◌}
use Prim.Native.Nat.{ℕ, zero, suc, ◌+◌, ◌-◌, ◌≤◌, ◌<◌}
use native.Mathlib.Omega.{arith}
use mathlib.Core.List.{List, [], ◌∷◌, ◌++◌}
use mathlib.Core.Bool.{Bool, true, false}
use lib.ListN.{length, get_or, length-append}
use lib.Dec.{ltb, leb}
use borrow.Author.Tests.{lt-ltb, le-ltb, ltb-true, ltb-false, le-leb, leb-true}
use Rattle.values.specs.Values.{pick}
use Rattle.sheet.specs.Reading.{Res, ok, ◌>>=◌, byte_at, within}
use Rattle.sheet.specs.Functions.{read_widths}
use Rattle.sheet.specs.Module.{inputs_of, first_at, function_count, widths_at, Head, read_head}
use Rattle.sheet.proofs.Reading.{ok-injective, bind_ok, check-ok, byte-ok, byte-at, Within, within-ok, within-at}
use Rattle.sheet.proofs.Sections.{count_none, count-given}
use Rattle.encoding.specs.WellFormed.{Between, AreWidths}
use Rattle.encoding.specs.Whole.{first_byte, count_bytes}
use Rattle.encoding.proofs.Spelling.{Spells, spells-nil, spells-cons, spells-head, spells-two, spells-heads, spells-append, spells-split}
use Rattle.encoding.proofs.Expression.{within_of}

-- ---- _>>=_, with each step's answer under a name

pub with-ok : {A B P : Type 0} (x : Res A) (f : A → Res B) {b : B} → (x >>= f) ≡ ok b → ((a : A) → x ≡ ok a → f a ≡ ok b → P) → P
with-ok x f h k = let r = bind_ok x f h in k r.0 r.1 r.2

-- ---- read_widths

pub widths-ok : (n : ℕ) (s : List ℕ) (p : ℕ) {ws : List ℕ} → p ≤ length s → read_widths n s p ≡ ok ws
    → (length ws ≡ n) × AreWidths ws × (Spells s p ws (p + n))
unfolding read_widths AreWidths
widths-ok zero s p b h =
    let t : p + 0 ≡ p = omega arith in
    rw (← ok-injective h, t) (refl, tt, spells-nil b)
widths-ok (suc n) s p b h =
    let w = bind_ok (within 1 32 4 s p) _ h in
    let ws = bind_ok (read_widths n s (p + 1)) _ w.2 in
    let x = within-ok 1 32 4 s p w.1 in
    let below = x.below in
    let y = widths-ok n s (p + 1) (omega arith) ws.1 in
    let t : p + 1 + n ≡ p + suc n = omega arith in
    rw (← ok-injective ws.2)
    (ap suc y.0, ((x.least, x.most), y.1), spells-cons x.below x.same (rw t at y.2))

pub widths-at : {s : List ℕ} {p q : ℕ} (ws : List ℕ) → AreWidths ws → Spells s p ws q → read_widths (length ws) s p ≡ ok ws
unfolding read_widths AreWidths
widths-at [] t r = refl
widths-at {s} {p = p} (w ∷ ws) t r =
    let h = spells-head r in
    simp (within-at 1 32 4 s p (within_of h.0 h.1 t.0.0 t.0.1), widths-at {p = p + 1} ws t.1 h.2)

-- ---- the first byte and the count of functions

first-ok : (s : List ℕ) {b : ℕ} → first_at s 0 ≡ ok b → (0 < length s) × (get_or s 0 0 ≡ b) × Between 1 16 (inputs_of b)
unfolding first_at
first-ok s {b} h =
    let x = bind_ok (byte_at s 0) _ h in
    let y = byte-ok s 0 x.1 in
    let u = check-ok (leb 1 (inputs_of x.0)) 3 0 _ x.2 in
    let v = check-ok (leb (inputs_of x.0) 16) 3 0 _ u.1 in
    rw (← ok-injective v.1) (y.0, y.1, (leb-true 1 (inputs_of x.0) u.0, leb-true (inputs_of x.0) 16 v.0))

-- By the first byte: a count of functions stands at byte 4, or none.
count-ok : (s : List ℕ) (b : ℕ) {n : ℕ} → 4 ≤ length s → function_count b s 4 ≡ ok n
    → (n ≤ 8) × (first_byte (inputs_of b) n ≡ b) × (Spells s 4 (count_bytes n) (widths_at n))
unfolding first_byte count_bytes inputs_of widths_at
count-ok s b {n} l h = by (ltb b 128) refl
  where
    by : (t : Bool) → ltb b 128 ≡ t → (n ≤ 8) × (first_byte (inputs_of b) n ≡ b) × (Spells s 4 (count_bytes n) (widths_at n))
    by true e =
        let z : 0 ≡ n = ok-injective (sym (count_none b s 4 (ltb-true b 128 e)) ∙ h) in
        rw (← z, e) (omega arith, refl, spells-nil l)
    by false e =
        let g = ltb-false b 128 e in
        let w = within-ok 1 8 3 s 4 (sym (count-given b s 4 g) ∙ h) in
        let a = w.least in
        let back : b - 128 + 128 ≡ b = omega arith in
        let next = w.below in
        rw (e, lt-ltb 0 n a) (w.most, back, spells-cons w.below w.same (spells-nil (omega arith)))

-- The inputs that are left of the first byte.
inputs-back : (i n : ℕ) → i ≤ 16 → inputs_of (first_byte i n) ≡ i
unfolding first_byte inputs_of
inputs-back i n h = by (ltb 0 n)
  where
    by : (t : Bool) → pick (ltb (pick t (i + 128) i) 128) (pick t (i + 128) i) (pick t (i + 128) i - 128) ≡ i
    by true = let e : i + 128 - 128 ≡ i = omega arith in simp (le-ltb (i + 128) 128 (omega arith), e)
    by false = simp (lt-ltb i 128 (omega arith))

first-at : (s : List ℕ) (i n : ℕ) → Between 1 16 i → 0 < length s → get_or s 0 0 ≡ first_byte i n → first_at s 0 ≡ ok (first_byte i n)
unfolding first_at
first-at s i n t l e = rw (byte-at s 0 l, e) (simp (inputs-back i n t.1, le-leb 1 i t.0, le-leb i 16 t.1))

count_at : (s : List ℕ) (i n : ℕ) {q : ℕ} → i ≤ 16 → n ≤ 8 → Spells s 4 (count_bytes n) q → function_count (first_byte i n) s 4 ≡ ok n
unfolding first_byte count_bytes
count_at s i zero h l r = count_none i s 4 (omega arith)
count_at s i (suc n) h l r =
    let x = spells-head (rw (lt-ltb 0 (suc n) (omega arith)) at r) in
    rw (lt-ltb 0 (suc n) (omega arith)) (count-given (i + 128) s 4 (omega arith) ∙ within-at 1 8 3 s 4 (within_of x.0 x.1 (omega arith) l))

count-length : (n : ℕ) → 4 + length (count_bytes n) ≡ widths_at n
unfolding count_bytes widths_at
count-length n = by (ltb 0 n)
  where
    by : (t : Bool) → 4 + length (pick t (n ∷ []) []) ≡ pick t 5 4
    by true = refl
    by false = refl

-- ---- the head

-- Its bytes, by its counts and widths.
abbrev pub front_bytes : ℕ → ℕ → ℕ → ℕ → ℕ → List ℕ → List ℕ
front_bytes i r w t n ws = first_byte i n ∷ r ∷ w ∷ t ∷ (count_bytes n ++ ws)

-- What holds of them.
pub record FrontFits (i r w t n : ℕ) (ws : List ℕ) : Type 0 where
  pub inputs : Between 1 16 i
  pub registers : Between 1 32 r
  pub wires : w ≤ 32
  pub threads : Between 1 8 t
  pub functions : n ≤ 8
  pub variables : length ws ≡ i + r + w
  pub widths : AreWidths ws
  pub clock : get_or ws 0 0 ≡ 1

-- The head that has these counts and widths.
abbrev pub head_of : ℕ → ℕ → ℕ → ℕ → ℕ → List ℕ → Head
head_of i r w t n ws =
    record {
      scope = record { inputs = i; registers = r; widths = ws; declared = n; functions = [] };
      wires = w;
      threads = t;
      next = widths_at n + (i + r + w);
    }

head-of : (s : List ℕ) (b : ℕ) {r w t n c : ℕ} {ws : List ℕ} → (0 < length s) × (get_or s 0 0 ≡ b) × Between 1 16 (inputs_of b)
    → Within 1 32 1 r s → Within 0 32 2 w s → Within 1 8 3 t s → (n ≤ 8) × (first_byte (inputs_of b) n ≡ b) × (Spells s 4 (count_bytes n) (widths_at n))
    → Within 1 1 (widths_at n) c s → read_widths (inputs_of b + r + w - 1) s (widths_at n + 1) ≡ ok ws
    → FrontFits (inputs_of b) r w t n (c ∷ ws) × (Spells s 0 (front_bytes (inputs_of b) r w t n (c ∷ ws)) (widths_at n + (inputs_of b + r + w)))
unfolding AreWidths
head-of s b {r} {w} {t} {n} {c} {ws} x xr xw xt xn xc e =
    let a = x.2.0 in
    let l = xc.below in
    let y = widths-ok (inputs_of b + r + w - 1) s (widths_at n + 1) (omega arith) e in
    let k = y.0 in
    let f : widths_at n + 1 + (inputs_of b + r + w - 1) ≡ widths_at n + (inputs_of b + r + w) = omega arith in (
      record {
        inputs = x.2;
        registers = (xr.least, xr.most);
        wires = xw.most;
        threads = (xt.least, xt.most);
        functions = xn.0;
        variables = omega arith;
        widths = ((omega arith, omega arith), y.1);
        clock = omega arith;
      },
      spells-two xr.below (x.1 ∙ sym xn.1) xr.same
          (spells-two xt.below xw.same xt.same (spells-append xn.2 (spells-cons xc.below xc.same (rw f at y.2)))),
    )

-- A head that was read: it is that of its counts and widths, which stand in front.
unfoldable pub Fronted : List ℕ → Head → Type 0
Fronted s h =
    FrontFits h.scope.inputs h.scope.registers h.wires h.threads h.scope.declared h.scope.widths
    × (Spells s 0 (front_bytes h.scope.inputs h.scope.registers h.wires h.threads h.scope.declared h.scope.widths) h.next)

pub front-ok : (s : List ℕ) {h : Head} → read_head s ≡ ok h → Fronted s h
unfolding read_head Fronted
front-ok s e₀ =
    with-ok (first_at s 0) _ e₀ (λ b xb e₁.
    with-ok (within 1 32 3 s 1) _ e₁ (λ r xr e₂.
    with-ok (within 0 32 3 s 2) _ e₂ (λ w xw e₃.
    with-ok (within 1 8 3 s 3) _ e₃ (λ t xt e₄.
    with-ok (function_count b s 4) _ e₄ (λ n xn e₅.
    with-ok (within 1 1 4 s (widths_at n)) _ e₅ (λ c xc e₆.
    with-ok (read_widths (inputs_of b + r + w - 1) s (widths_at n + 1)) _ e₆ (λ ws x e₇.
    let y = within-ok 1 8 3 s 3 xt in
    let l = y.below in
    rw (← ok-injective e₇)
    (head-of s b (first-ok s xb) (within-ok 1 32 3 s 1 xr) (within-ok 0 32 3 s 2 xw) y (count-ok s b (omega arith) xn)
    (within-ok 1 1 4 s (widths_at n) xc) x))))))))

pub front_at : (s : List ℕ) (i r w t n : ℕ) (ws : List ℕ) {q : ℕ} → FrontFits i r w t n ws → Spells s 0 (front_bytes i r w t n ws) q
    → read_head s ≡ ok (head_of i r w t n ws)
unfolding read_head AreWidths
front_at s i r w t n [] f x =
    let a = f.inputs.0 in
    let l = f.variables in
    absurd (omega arith)
front_at s i r w t n (c ∷ ws) f x =
    let h = spells-heads x in
    let k = spells-heads h.3 in
    let v = spells-split (count_bytes n) (c ∷ ws) k.3 in
    let y = spells-head (rw (count-length n) at v.1) in
    let a = f.inputs.0 in
    let l = f.variables in
    let m : i + r + w - 1 ≡ length ws = omega arith in
    simp (
      first-at s i n f.inputs (omega arith) h.1,
      within-at 1 32 3 s 1 (within_of h.0 h.2 f.registers.0 f.registers.1),
      within-at 0 32 3 s 2 (within_of (omega arith) k.1 (omega arith) f.wires),
      within-at 1 8 3 s 3 (within_of k.0 k.2 f.threads.0 f.threads.1),
      count_at s i n f.inputs.1 f.functions v.0,
      inputs-back i n f.inputs.1,
      within-at 1 1 4 s (widths_at n) (within_of y.0 y.1 (omega arith) (omega arith)),
      m,
      widths-at ws f.widths.1 y.2,
    )

pub front_length : (i r w t n : ℕ) (ws : List ℕ) → length ws ≡ i + r + w → 0 + length (front_bytes i r w t n ws) ≡ widths_at n + (i + r + w)
front_length i r w t n ws e =
    let a = count-length n in
    let b = length-append (count_bytes n) ws in
    omega arith
