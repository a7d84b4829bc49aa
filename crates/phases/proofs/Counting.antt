-- Steps counted over the threads: one thread's step adds one (steps-more), no step adds none (steps-none), and if no thread makes
-- more steps than it has instructions, all together don't either (steps-most). Assumes nothing.
use mathlib.Core.Path.{◌≡◌, refl}
use mathlib.Core.Logic.{◌≢◌}
use Prim.Native.Nat.{ℕ, zero, suc, ◌+◌, ◌≤◌, ◌<◌}
use native.Mathlib.Decide.{ℕ_discrete}
use native.Mathlib.Omega.{arith}
use lib.ListN.{length}
use lib.Dec.{eqb}
use borrow.Author.Tests.{eq-eqb, ne_eqb}
use Rattle.values.specs.Values.{pick}
use Rattle.sheet.specs.Expression.{Expr}
use Rattle.sheet.specs.Module.{Module}
use Rattle.events.specs.Cycle.{code_of}
use Rattle.phases.specs.Phases.{instructions_up_to, steps_up_to}

-- One more step of thread i.
unfoldable pub one_more : (ℕ → ℕ) → ℕ → ℕ → ℕ
one_more steps i j = pick (eqb j i) (suc (steps j)) (steps j)

pub more-own : (steps : ℕ → ℕ) (i : ℕ) → one_more steps i i ≡ suc (steps i)
unfolding one_more
more-own steps i = rw (eq-eqb i i refl)

pub more-other : (steps : ℕ → ℕ) (i j : ℕ) → j ≢ i → one_more steps i j ≡ steps j
unfolding one_more
more-other steps i j d = rw (ne_eqb j i d)

more-past : (steps : ℕ → ℕ) (i n : ℕ) → n ≤ i → steps_up_to (one_more steps i) n ≡ steps_up_to steps n
unfolding steps_up_to
more-past steps i zero h = refl
more-past steps i (suc n) h = rw (more-past steps i n (omega arith), more-other steps i n (λ e. omega arith))

pub steps-more : (steps : ℕ → ℕ) (i n : ℕ) → i < n → steps_up_to (one_more steps i) n ≡ steps_up_to steps n + 1
unfolding steps_up_to
steps-more steps i zero h = absurd (omega arith)
steps-more steps i (suc n) h = by (ℕ_discrete n i) (steps-more steps i n)
  where
    by : Dec (n ≡ i) → (i < n → steps_up_to (one_more steps i) n ≡ steps_up_to steps n + 1) →
        steps_up_to (one_more steps i) n + one_more steps i n ≡ steps_up_to steps n + steps n + 1
    by (yes e) ih = rw (more-past steps i n (omega arith), e, more-own steps i) (omega arith)
    by (no d) ih = rw (ih (omega arith), more-other steps i n d) (omega arith)

pub steps-none : (n : ℕ) → steps_up_to (λ i. 0) n ≡ 0
unfolding steps_up_to
steps-none zero = refl
steps-none (suc n) = rw (steps-none n)

pub steps-most :
    (m : Module Expr) (steps : ℕ → ℕ) (n : ℕ) → ((i : ℕ) → i < n → steps i ≤ length (code_of m i)) →
    steps_up_to steps n ≤ instructions_up_to m n
unfolding steps_up_to instructions_up_to
steps-most m steps zero h = omega arith
steps-most m steps (suc n) h =
    let a = steps-most m steps n (λ i l. h i (omega arith)) in
    let b : steps n ≤ length (code_of m n) = h n (omega arith) in
    omega arith
