-- Each test of the simulation cycle holds exactly where its relation of specs/Tests does. Assumes nothing.
use mathlib.Core.Path.{◌≡◌, refl, sym, ap, subst, ◌∙◌}
use mathlib.Core.Logic.{◌≢◌}
use mathlib.Core.Bool.{Bool, true, false, not, ◌||◌, or-true}
use mathlib.Core.List.{List, [], ◌∷◌}
use Prim.Native.Nat.{ℕ, ◌+◌, ◌-◌, ◌≤◌, ◌<◌}
use native.Mathlib.Omega.{arith}
use lib.ListN.{length}
use lib.Dec.{ltb}
use borrow.Author.Tests.{not-true, ltb-true, ltb-false}
use Rattle.values.specs.declared.Value.{Value}
use Rattle.values.specs.declared.Edge.{Edge}
use Rattle.values.specs.declared.Edge.TheVariants.{Change, Posedge, Negedge}
use Rattle.values.specs.Edges.{fires}
use Rattle.values.proofs.Values.{≡→same, ≢→same}
use Rattle.values.proofs.Edges.{moves_from, moves-to, moves-by}
use Rattle.sheet.specs.Expression.{Expr}
use Rattle.sheet.specs.Module.{Module}
use Rattle.sheet.specs.declared.EdgeTerm.{EdgeTerm}
use Rattle.pseudocode.specs.Translation.{Instr, wait!, set!, later!, go, ifnot}
use Rattle.state.specs.declared.State.{State}
use Rattle.state.specs.State.{pending_of}
use Rattle.events.specs.Cycle.{current, is_wait, items, is_some, enabled, any_enabled, any_pending, quiet, terms_fire, wait_fires}
use Rattle.events.specs.Tests.{Enabled, off-a-wait, due, Still, TermFires, any-change, leaves-0, comes-to-1, leaves-1, comes-to-0, Fires, first, later, Tests}
use Rattle.events.proofs.Cycle.{absurd-bool, below_none}
use Rattle.events.proofs.Choices.{enabled-thread, enabled-wire, none-enabled, enabled-none, none-pending, none-is_some, quiet-enabled, quiet-pending}

-- ---- enabled

wait-off : (x : Instr Expr) → is_wait x ≡ false → (ts : List EdgeTerm) → x ≢ wait! ts
unfolding is_wait
wait-off x h ts e = absurd-bool (ap is_wait e) h

off-wait : (x : Instr Expr) → ((ts : List EdgeTerm) → x ≢ wait! ts) → is_wait x ≡ false
unfolding is_wait
off-wait (wait! ts) h = absurd (h ts refl)
off-wait (set! t e) h = refl
off-wait (later! t e) h = refl
off-wait (go g) h = refl
off-wait (ifnot e g) h = refl

module _ (m : Module Expr) (st : State) where
  to-enabled : (c : ℕ) → enabled m st c ≡ true → Enabled m st c
  to-enabled c h = by (ltb c (length m.threads)) refl
    where
      by : (t : Bool) → ltb c (length m.threads) ≡ t → Enabled m st c
      by true q =
          let l = ltb-true c (length m.threads) q in
          off-a-wait l (wait-off (current m st c) (not-true _ (sym (enabled-thread m st c l) ∙ h)))
      by false q =
          let l : length m.threads ≤ c = ltb-false c (length m.threads) q in
          let e : length m.threads + (c - length m.threads) ≡ c = omega arith in
          let d = sym (enabled-wire m st (c - length m.threads)) ∙ ap (enabled m st) e ∙ h in
          let x : Enabled m st (length m.threads + (c - length m.threads)) = due (c - length m.threads) d in
          subst (λ (n : ℕ). Enabled m st n) e x

  enabled-to : {c : ℕ} → Enabled m st c → enabled m st c ≡ true
  enabled-to (off-a-wait {i = i} l h) = enabled-thread m st i l ∙ ap not (off-wait (current m st i) h)
  enabled-to (due k h) = enabled-wire m st k ∙ h

  -- ---- quiet

  to-still : quiet m st ≡ true → Still m st
  to-still q =
      record {
        nothing-enabled = λ c l e. absurd-bool (enabled-to e) (none-enabled m st (quiet-enabled m st q) c l);
        nothing-pending = none-pending m st (quiet-pending m st q);
      }

  still-to : Still m st → quiet m st ≡ true
  unfolding quiet any_pending
  still-to s =
      let a : any_enabled m st ≡ false = enabled-none m st (λ c l. by c l (enabled m st c) refl) in
      let b = below_none (λ r. is_some (pending_of st r)) m.scope.registers
      (λ r l. none-is_some (pending_of st r) (s.nothing-pending r l)) in
      rw (a, b) refl
    where
      by : (c : ℕ) → c < items m → (t : Bool) → enabled m st c ≡ t → t ≡ false
      by c l true e = absurd (s.nothing-enabled c l (to-enabled c e))
      by c l false e = refl

-- ---- a wait fires

module _ (f g : ℕ → Value) where
  to-term : (e : Edge) (v : ℕ) → fires e (f v) (g v) ≡ true → TermFires f g (record { edge = e; variable = v })
  unfolding fires
  to-term Change v h = any-change (λ e. absurd-bool (≡→same (f v) (g v) (sym e)) (not-true _ h))
  to-term Posedge v h = moves-by 0 1 (f v) (g v) leaves-0 comes-to-1 h
  to-term Negedge v h = moves-by 1 0 (f v) (g v) leaves-1 comes-to-0 h

  term-to : {t : EdgeTerm} → TermFires f g t → fires t.edge (f t.variable) (g t.variable) ≡ true
  unfolding fires
  term-to (any-change {v = v} h) = rw (≢→same (f v) (g v) (λ e. h (sym e))) refl
  term-to (leaves-0 {v = v} a b) = moves_from 0 1 (f v) (g v) a b
  term-to (comes-to-1 {v = v} a b) = moves-to 0 1 (f v) (g v) a b
  term-to (leaves-1 {v = v} a b) = moves_from 1 0 (f v) (g v) a b
  term-to (comes-to-0 {v = v} a b) = moves-to 1 0 (f v) (g v) a b

  to-terms : (ts : List EdgeTerm) → terms_fire ts f g ≡ true → Fires f g (wait! ts)
  unfolding terms_fire
  to-terms [] h = absurd-bool h refl
  to-terms (t ∷ ts) h = by (fires t.edge (f t.variable) (g t.variable)) refl h (to-terms ts)
    where
      by : (b : Bool) → fires t.edge (f t.variable) (g t.variable) ≡ b → (b || terms_fire ts f g) ≡ true →
          (terms_fire ts f g ≡ true → Fires f g (wait! ts)) → Fires f g (wait! (t ∷ ts))
      by true e q ih = first (to-term t.edge t.variable e)
      by false e q ih = later (ih q)

  to-fires : (x : Instr Expr) → wait_fires x f g ≡ true → Fires f g x
  unfolding wait_fires
  to-fires (wait! ts) h = to-terms ts h
  to-fires (set! t e) h = absurd-bool h refl
  to-fires (later! t e) h = absurd-bool h refl
  to-fires (go a) h = absurd-bool h refl
  to-fires (ifnot e a) h = absurd-bool h refl

  fires-to : {x : Instr Expr} → Fires f g x → wait_fires x f g ≡ true
  unfolding wait_fires terms_fire
  fires-to (first {t = t} {ts = ts} h) = ap (λ (b : Bool). b || terms_fire ts f g) (term-to h)
  fires-to (later {t = t} {ts = ts} h) =
      ap (λ (b : Bool). fires t.edge (f t.variable) (g t.variable) || b) (fires-to h) ∙ or-true (fires t.edge (f t.variable) (g t.variable))

pub tests : Tests
tests =
    record {
      enabled-exactly = λ m st c. (to-enabled m st c, enabled-to m st);
      quiet-exactly = λ m st. (to-still m st, still-to m st);
      fires-exactly = λ x f g. (to-fires f g x, fires-to f g);
    }
