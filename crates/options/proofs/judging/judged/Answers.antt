-- `options::judging::judged` meets its contract, row by row. Assumes nothing.
use borrow.Author.Tests.{eq-eqb, ne_eqb}
use mathlib.Core.Path.{◌≡◌, refl, sym, ap, ◌∙◌}
use native.Mathlib.Omega.{arith}
use Prim.Native.Nat.{◌+◌}
use denote.Enum.Declared.{tag_of}
use Rattle.std.specs.Prelude.{Some}
use Rattle.options.specs.contracts.Missing.{the_type}
use Rattle.options.specs.declared.Missing.{Missing}
use Rattle.options.specs.declared.Missing.TheVariants.{Command, Sheet, Inputs}
use Rattle.options.specs.Requests.{lacking, lack_of, judged}
use Rattle.options.proofs.judging.judged.Goals as goal

pub returns-then-o-ne0 : goal.returns-then-o-ne0
unfolding judged
returns-then-o-ne0 c =
    rw (ne_eqb _ _ c.if-o-ne0.true)

pub returns-then-o-ne0-2 : goal.returns-then-o-ne0-2
unfolding judged
returns-then-o-ne0-2 c =
    rw (eq-eqb _ _ c.if-o-ne0.false, ne_eqb _ _ c.if-o-ne0-2.true)

-- The number of a word that is missing.
lack-is : (m : Missing) → tag_of the_type m + 1 ≡ lack_of (Some m)
lack-is Command = refl
lack-is Sheet = refl
lack-is Inputs = refl

pub returns-in-Some : goal.returns-in-Some
unfolding judged
returns-in-Some c =
    let m = c.in-Some.m in
    let z : lacking c.args.o ≡ tag_of the_type m + 1 = sym c.lacking.ensures ∙ ap lack_of c.in-Some.is ∙ sym (lack-is m) in
    rw (
      eq-eqb _ _ c.if-o-ne0.false,
      eq-eqb _ _ c.if-o-ne0-2.false,
      z,
      ne_eqb (tag_of the_type m + 1) 0 (λ e. omega arith),
    )

pub returns-in-None : goal.returns-in-None
unfolding judged
returns-in-None c =
    rw (
      eq-eqb _ _ c.if-o-ne0.false,
      eq-eqb _ _ c.if-o-ne0-2.false,
      eq-eqb _ _ (sym c.lacking.ensures ∙ ap lack_of c.in-None.is),
    )
    c.fitted.ensures
