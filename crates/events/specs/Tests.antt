-- The three tests that specs/Steps shares with specs/Cycle, as relations: what is enabled, what is quiet, which wait fires. `Tests` is
-- the claim that each test holds exactly where its relation does; proofs/Tests proves it.
use Rattle.std.specs.Prelude.{ℕ, ◌+◌, ◌<◌, ◌≡◌, ◌≢◌, ◌↔◌, true, List, ◌∷◌, length}
use Rattle.std.proofs.Math.Option.{none}
use Rattle.values.specs.declared.Value.{Value}
use Rattle.values.specs.declared.Edge.TheVariants.{Change, Posedge, Negedge}
use Rattle.values.specs.Edges.{level}
use Rattle.sheet.specs.Expression.{Expr}
use Rattle.sheet.specs.Module.{Module}
use Rattle.sheet.specs.declared.EdgeTerm.{EdgeTerm}
use Rattle.pseudocode.specs.Translation.{Instr, wait! }
use Rattle.state.specs.declared.State.{State}
use Rattle.state.specs.State.{pending_of, is_due}
use Rattle.events.specs.Cycle.{current, items, enabled, quiet, wait_fires}

-- "A thread is enabled off a wait, a wire when due."
pub data Enabled (m : Module Expr) (st : State) : ℕ → Type 0 where
  off-a-wait : {i : ℕ} → i < length m.threads → ((ts : List EdgeTerm) → current m st i ≢ wait! ts) → Enabled m st i
  due : (k : ℕ) → is_due st k ≡ true → Enabled m st (length m.threads + k)

-- "Quiet: nothing enabled, nothing pending."
pub record Still (m : Module Expr) (st : State) : Type 0 where
  pub nothing-enabled : (c : ℕ) → c < items m → Enabled m st c → ⊥
  pub nothing-pending : (r : ℕ) → r < m.scope.registers → pending_of st r ≡ none

-- A change of values, from f to g. "edge (0 any change, 1 posedge, 2 negedge)"; a posedge leaves 0 or comes to 1, a negedge leaves 1 or
-- comes to 0: "IEEE 1364 has 0 to x and x to 1 as posedge, 1 to x and x to 0 as negedge" (document 02, request [2]).
pub data TermFires (f g : ℕ → Value) : EdgeTerm → Type 0 where
  any-change : {v : ℕ} → g v ≢ f v → TermFires f g (record { edge = Change; variable = v })
  leaves-0 : {v : ℕ} → level (f v) ≡ 0 → level (g v) ≢ 0 → TermFires f g (record { edge = Posedge; variable = v })
  comes-to-1 : {v : ℕ} → level (g v) ≡ 1 → level (f v) ≢ 1 → TermFires f g (record { edge = Posedge; variable = v })
  leaves-1 : {v : ℕ} → level (f v) ≡ 1 → level (g v) ≢ 1 → TermFires f g (record { edge = Negedge; variable = v })
  comes-to-0 : {v : ℕ} → level (g v) ≡ 0 → level (f v) ≢ 0 → TermFires f g (record { edge = Negedge; variable = v })

-- A wait fires if one of its terms does; another instruction never.
pub data Fires (f g : ℕ → Value) : Instr Expr → Type 0 where
  first : {t : EdgeTerm} {ts : List EdgeTerm} → TermFires f g t → Fires f g (wait! (t ∷ ts))
  later : {t : EdgeTerm} {ts : List EdgeTerm} → Fires f g (wait! ts) → Fires f g (wait! (t ∷ ts))

pub record Tests : Type 0 where
  pub enabled-exactly : (m : Module Expr) (st : State) (c : ℕ) → (enabled m st c ≡ true) ↔ Enabled m st c
  pub quiet-exactly : (m : Module Expr) (st : State) → (quiet m st ≡ true) ↔ Still m st
  pub fires-exactly : (x : Instr Expr) (f g : ℕ → Value) → (wait_fires x f g ≡ true) ↔ Fires f g x
