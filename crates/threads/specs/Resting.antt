-- Coming to rest: the places that a thread can go through between two waits.
use Rattle.std.specs.Prelude.{ℕ, suc, ◌+◌, ◌≡◌, ◌⊎◌, List}
use Rattle.sheet.specs.Expression.{Expr}
use Rattle.pseudocode.specs.Translation.{Instr, wait!, set!, later!, go, ifnot}
use Rattle.events.specs.Cycle.{instr_at}

-- From place p an instruction can lead to place q. A wait leads nowhere.
abbrev pub Leads : Instr Expr → ℕ → ℕ → Type 0
Leads (wait! ts) p q = ⊥
Leads (set! t e) p q = q ≡ p + 1
Leads (later! t e) p q = q ≡ p + 1
Leads (go g) p q = q ≡ g
Leads (ifnot e g) p q = (q ≡ p + 1) ⊎ (q ≡ g)

-- Every way on from place p comes to a wait.
pub data Rests (c : List (Instr Expr)) : ℕ → Type 0 where
  rests : {p : ℕ} → ((q : ℕ) → Leads (instr_at c p) p q → Rests c q) → Rests c p

-- A way of n steps from one place to another.
pub data Way (c : List (Instr Expr)) : ℕ → ℕ → ℕ → Type 0 where
  here : {p : ℕ} → Way c p 0 p
  step : {p q n r : ℕ} → Leads (instr_at c p) p q → Way c q n r → Way c p (suc n) r
