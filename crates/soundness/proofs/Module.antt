-- The parts of a sheet that were read are sound: the head, the wires, the threads. Assumes nothing.
use mathlib.Core.Path.{◌≡◌, refl, ap}
use mathlib.Core.List.{List, [], ◌∷◌}
use Prim.Native.Nat.{ℕ, zero, suc, ◌+◌, ◌-◌, ◌≤◌, ◌<◌}
use native.Mathlib.Omega.{arith}
use lib.ListN.{length, get_or}
use lib.Dec.{leb, eqb}
use borrow.Author.Tests.{leb-true, eqb-true}
use Rattle.sheet.specs.Reading.{Res, ok, ◌>>=◌, byte_at, within}
use Rattle.sheet.specs.Expression.{Expr, unknown, tree, Scope}
use Rattle.sheet.specs.Statement.{Stmt, empty, size, read_stmt}
use Rattle.sheet.specs.Functions.{read_widths}
use Rattle.sheet.specs.Module.{Listed, Head, read_head, inputs_of, first_at, function_count, widths_at, read_wires, read_threads}
use Rattle.sheet.proofs.Reading.{ok-injective, bind_ok, check-ok, Within, within-ok}
use Rattle.sheet.proofs.Statements.{derive-stmt}
use Rattle.evaluation.proofs.Evaluation.{TypedFunctions}
use Rattle.evaluation.proofs.Functions.{AreWidths, are-widths-cons, widths-sound}
use Rattle.pseudocode.specs.Translation.{thread_code}
use Rattle.soundness.specs.Soundness.{SoundExpr, SoundCode}
use Rattle.soundness.proofs.Expression.{tree-sound}
use Rattle.soundness.proofs.Instructions.{thread-sound}

-- ---- _>>=_, with each step's answer under a name

pub with-ok : {A B P : Type 0} (x : Res A) (f : A → Res B) {b : B} → (x >>= f) ≡ ok b →
    ((a : A) → x ≡ ok a → f a ≡ ok b → P) → P
with-ok x f h k = let r = bind_ok x f h in k r.0 r.1 r.2

-- ---- read_head

pub record SoundHead (h : Head) : Type 0 where
  pub inputs-some : 1 ≤ h.scope.inputs
  pub inputs-most : h.scope.inputs ≤ 16
  pub registers-some : 1 ≤ h.scope.registers
  pub registers-most : h.scope.registers ≤ 32
  pub wires-most : h.wires ≤ 32
  pub threads-some : 1 ≤ h.threads
  pub threads-most : h.threads ≤ 8
  pub variables : length h.scope.widths ≡ h.scope.inputs + h.scope.registers + h.wires
  pub widths : AreWidths h.scope.widths

head-of : (s : List ℕ) {i r w t n c at : ℕ} {ws : List ℕ} →
    1 ≤ i → i ≤ 16 → Within 1 32 1 r s → Within 0 32 2 w s → Within 1 8 3 t s → Within 1 1 at c s →
    read_widths (i + r + w - 1) s (at + 1) ≡ ok ws →
    SoundHead
    (record {
      scope = record { inputs = i; registers = r; widths = c ∷ ws; declared = n; functions = [] };
      wires = w;
      threads = t;
      next = at + (i + r + w);
    })
head-of s {i} {r} {w} {t} {n} {c} {at} {ws} least most xr xw xt xc e =
    let y = widths-sound (i + r + w - 1) s (at + 1) e in
    let l = y.0 in
    let m = xc.most in
    record {
      inputs-some = least;
      inputs-most = most;
      registers-some = xr.least;
      registers-most = xr.most;
      wires-most = xw.most;
      threads-some = xt.least;
      threads-most = xt.most;
      variables = omega arith;
      widths = are-widths-cons ws xc.least (omega arith) y.1;
    }

first-sound : (s : List ℕ) (at : ℕ) {b : ℕ} → first_at s at ≡ ok b → (1 ≤ inputs_of b) × (inputs_of b ≤ 16)
unfolding first_at
first-sound s at h =
    with-ok (byte_at s at) _ h (λ b x h₁.
    let l = check-ok (leb 1 (inputs_of b)) 3 at _ h₁ in
    let m = check-ok (leb (inputs_of b) 16) 3 at _ l.1 in
    rw (← ok-injective m.1) (leb-true _ _ l.0, leb-true _ _ m.0))

pub head-sound : (s : List ℕ) {h : Head} → read_head s ≡ ok h → SoundHead h
unfolding read_head
head-sound s e₀ =
    with-ok (first_at s 0) _ e₀ (λ b xb e₁.
    with-ok (within 1 32 3 s 1) _ e₁ (λ r xr e₂.
    with-ok (within 0 32 3 s 2) _ e₂ (λ w xw e₃.
    with-ok (within 1 8 3 s 3) _ e₃ (λ t xt e₄.
    with-ok (function_count b s 4) _ e₄ (λ n xn e₅.
    with-ok (within 1 1 4 s (widths_at n)) _ e₅ (λ c xc e₆.
    with-ok (read_widths (inputs_of b + r + w - 1) s (widths_at n + 1)) _ e₆ (λ ws x e₇.
    let i = first-sound s 0 xb in
    rw (← ok-injective e₇)
    (head-of s i.0 i.1 (within-ok 1 32 3 s 1 xr) (within-ok 0 32 3 s 2 xw)
    (within-ok 1 8 3 s 3 xt) (within-ok 1 1 4 s (widths_at n) xc) x))))))))

-- ---- read_wires

-- "A target or wire has its expression's width." The first of these wires is variable v.
abbrev pub WiresSound : Scope → ℕ → List Expr → Type 0
WiresSound c v es = (k : ℕ) → k < length es → SoundExpr c (get_or c.widths (v + k) 0) (get_or es k (unknown 1))

wires-sound-cons : {c : Scope} (v : ℕ) {e : Expr} (es : List Expr) → SoundExpr c (get_or c.widths v 0) e →
    WiresSound c (v + 1) es → WiresSound c v (e ∷ es)
wires-sound-cons v es x h zero b = let e : v + 0 ≡ v = omega arith in rw e x
wires-sound-cons v es x h (suc k) b = let e : v + suc k ≡ v + 1 + k = omega arith in rw e (h k (omega arith))

pub wires-sound : (c : Scope) (s : List ℕ) (n v p : ℕ) {es : Listed Expr} → TypedFunctions c.functions → read_wires (tree s) c s n v p ≡ ok es →
    (length es.items ≡ n) × WiresSound c v es.items
unfolding read_wires
wires-sound c s zero v p fs h = rw (← ok-injective h) (refl, λ k b. absurd (omega arith))
wires-sound c s (suc n) v p fs h =
    with-ok (tree s c p) _ h (λ e x h₁.
    let k = check-ok (eqb e.width (get_or c.widths v 0)) 8 p _ h₁ in
    with-ok (read_wires (tree s) c s n (v + 1) e.next) _ k.1 (λ es y h₂.
    let z = wires-sound c s n (v + 1) e.next fs y in
    let w : e.width ≡ get_or c.widths v 0 = eqb-true _ _ k.0 in
    rw (← ok-injective h₂) (ap suc z.0, wires-sound-cons v es.items (rw w at (tree-sound c s p fs x)) z.1)))

-- ---- read_threads

-- "A thread is a forever of its statement, at most 256 instructions."
abbrev pub ThreadsSound : Scope → List (Stmt Expr) → Type 0
ThreadsSound c bs = (i : ℕ) → i < length bs → SoundCode c (thread_code (get_or bs i empty))

threads-sound-cons : {c : Scope} (b : Stmt Expr) (bs : List (Stmt Expr)) → SoundCode c (thread_code b) →
    ThreadsSound c bs → ThreadsSound c (b ∷ bs)
threads-sound-cons b bs x h zero l = x
threads-sound-cons b bs x h (suc i) l = h i (omega arith)

pub threads-sound : (c : Scope) (s : List ℕ) (n p : ℕ) {bs : Listed (Stmt Expr)} → TypedFunctions c.functions → read_threads (tree s) c s n p ≡ ok bs →
    (length bs.items ≡ n) × ThreadsSound c bs.items
unfolding read_threads
threads-sound c s zero p fs h = rw (← ok-injective h) (refl, λ k b. absurd (omega arith))
threads-sound c s (suc n) p fs h =
    with-ok (read_stmt (tree s) c s 64 p) _ h (λ b x h₁.
    let k = check-ok (leb (size b.stmt + 1) 256) 11 p _ h₁ in
    with-ok (read_threads (tree s) c s n b.next) _ k.1 (λ bs y h₂.
    let z = threads-sound c s n b.next fs y in
    let t = thread-sound fs (leb-true _ _ k.0) (derive-stmt (tree s) c s 64 p x) in
    rw (← ok-injective h₂) (ap suc z.0, threads-sound-cons b.stmt bs.items t z.1)))
