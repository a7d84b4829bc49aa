-- `tabulate::longer` meets its contract. Assumes nothing.
use mathlib.Core.Path.{◌≡◌, sym, refl, ◌∙◌}
use mathlib.Core.Bool.{Bool, true, false}
use Prim.Native.Nat.{ℕ, ◌≤◌, ◌<◌}
use native.Mathlib.Omega.{arith}
use borrow.Author.Tests.{ltb-true, ltb-false}
use lib.Dec.{ltb}
use Rattle.std.specs.Prelude.{max}
use Rattle.tabulate.specs.Tabulate.{longer}
use Rattle.tabulate.proofs.Tabulate.{longer-second, longer-first}
use Rattle.tabulate.proofs.longer.Goals as goal

max-longer : (a b : ℕ) → max a b ≡ longer a b
max-longer a b = by (ltb a b) refl
  where
    by : (t : Bool) → ltb a b ≡ t → max a b ≡ longer a b
    by true e = let h : a < b = ltb-true a b e in let m : max a b ≡ b = omega arith in m ∙ sym (longer-second a b h)
    by false e = let h : b ≤ a = ltb-false a b e in let m : max a b ≡ a = omega arith in m ∙ sym (longer-first a b h)

pub returns : goal.returns
returns c =
    c.max.ensures ∙ max-longer c.args.a c.args.b
