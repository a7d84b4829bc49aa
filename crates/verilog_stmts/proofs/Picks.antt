-- A test of the code, and the definition that goes by it.
-- Assumes nothing.
use mathlib.Core.Path.{◌≡◌, sym, ap, ◌∙◌}
use mathlib.Core.Bool.{Bool, true, false}
use mathlib.Core.List.{List}
use Prim.Native.Nat.{ℕ}
use Rattle.values.specs.Values.{pick}
use Rattle.verilog_exprs.specs.declared.Put.{Put}
use Rattle.verilog_exprs.specs.Rows.{wrote}
use Rattle.verilog_stmts.specs.Steps.{State, moved}

pub taken : {A B : Type 0} {r b : Bool} {z : B} (f g : A → B) {x : A} → r ≡ b → r ≡ true → z ≡ f x → z ≡ pick b f g x
taken f g e h k = rw (sym e ∙ h) k

pub left : {A B : Type 0} {r b : Bool} {z : B} (f g : A → B) {x : A} → r ≡ b → r ≡ false → z ≡ g x → z ≡ pick b f g x
left f g e h k = rw (sym e ∙ h) k

-- A step behind another.
pub behind : (f : State → State) {x y z : State} → y ≡ x → z ≡ f y → z ≡ f x
behind f e h = h ∙ ap (λ s. f s) e

-- Another token behind what was written.
pub onward : (f : Put → Put) {p q : Put} {bs : List ℕ} {s : State} → q ≡ f p → wrote p bs ≡ s → wrote q bs ≡ moved f s
onward f {bs = bs} e h = ap (λ p. wrote p bs) e ∙ ap (λ s. moved f s) h
