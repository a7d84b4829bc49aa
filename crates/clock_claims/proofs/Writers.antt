-- What a thread writes is a register of the module. Assumes nothing.
use mathlib.Core.Path.{◌≡◌, refl}
use mathlib.Core.Bool.{Bool, true, false, ◌||◌}
use mathlib.Core.List.{List, [], ◌∷◌}
use Prim.Native.Nat.{ℕ, suc, ◌+◌, ◌≤◌, ◌<◌}
use native.Mathlib.Omega.{arith}
use borrow.Author.Tests.{eqb-true}
use lib.ListN.{length, get_or}
use Rattle.sheet.specs.Expression.{Expr, Scope}
use Rattle.sheet.specs.Module.{Module}
use Rattle.pseudocode.specs.Translation.{Instr, go}
use Rattle.soundness.specs.Soundness.{Sound, SoundInstr, sound-wait, sound-set, sound-later, sound-go, sound-ifnot}
use Rattle.events.specs.Cycle.{code_of}
use Rattle.events.proofs.Cycle.{absurd-bool}
use Rattle.nextstate.specs.Rules.{sets_at, defers_at, any_instr, plain_writes, defers, writes}

module _ {c : Scope} {n p v : ℕ} where
  sets-target : {x : Instr Expr} → SoundInstr c n p x → sets_at v x ≡ true → (c.inputs ≤ v) × (v < c.inputs + c.registers)
  unfolding sets_at
  sets-target (sound-wait l t) h = absurd-bool h refl
  sets-target (sound-set {t = t} l k) h =
      let e = eqb-true t v h in
      (omega (arith, k.not-input), omega (arith, k.register))
  sets-target (sound-later l k) h = absurd-bool h refl
  sets-target (sound-go l) h = absurd-bool h refl
  sets-target (sound-ifnot w l g e) h = absurd-bool h refl

  defers-target : {x : Instr Expr} → SoundInstr c n p x → defers_at v x ≡ true → (c.inputs ≤ v) × (v < c.inputs + c.registers)
  unfolding defers_at
  defers-target (sound-wait l t) h = absurd-bool h refl
  defers-target (sound-set l k) h = absurd-bool h refl
  defers-target (sound-later {t = t} l k) h =
      let e = eqb-true t v h in
      (omega (arith, k.not-input), omega (arith, k.register))
  defers-target (sound-go l) h = absurd-bool h refl
  defers-target (sound-ifnot w l g e) h = absurd-bool h refl

instr-at :
    (f : Instr Expr → Bool) (c : List (Instr Expr)) → any_instr f c ≡ true → (p : ℕ) × (p < length c) × (f (get_or c p (go 0)) ≡ true)
unfolding any_instr
instr-at f [] h = absurd-bool h refl
instr-at f (i ∷ c) h = by (f i) refl h (instr-at f c)
  where
    by :
        (t : Bool) → f i ≡ t → (t || any_instr f c) ≡ true →
        (any_instr f c ≡ true → (p : ℕ) × (p < length c) × (f (get_or c p (go 0)) ≡ true)) →
        (p : ℕ) × (p < suc (length c)) × (f (get_or (i ∷ c) p (go 0)) ≡ true)
    by true e k r = (0, omega arith, e)
    by false e k r = let q = r k in (suc q.0, omega (arith, q.1), q.2)

pub writes-register :
    {m : Module Expr} → Sound m → (i v : ℕ) → i < length m.threads → writes m i v ≡ true →
    (m.scope.inputs ≤ v) × (v < m.scope.inputs + m.scope.registers)
unfolding writes plain_writes defers code_of
writes-register {m} z i v l h = by (plain_writes m i v) refl h
  where
    c : List (Instr Expr)
    c = code_of m i

    by : (t : Bool) → any_instr (sets_at v) c ≡ t → (t || any_instr (defers_at v) c) ≡ true → (m.scope.inputs ≤ v) × (v < m.scope.inputs + m.scope.registers)
    by true e k = let q = instr-at (sets_at v) c e in sets-target ((z.code i l).instruction q.0 q.1) q.2
    by false e k = let q = instr-at (defers_at v) c k in defers-target ((z.code i l).instruction q.0 q.1) q.2
