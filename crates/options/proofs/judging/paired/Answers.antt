-- `options::judging::paired` meets its contract. Assumes nothing.
use mathlib.Core.Path.{refl, sym, ap, ◌∙◌}
use Prim.Native.Nat.{ℕ}
use Rattle.options.specs.declared.Request.TheVariants.{Wrong}
use Rattle.stimulus.proofs.Searching.{at-some, at-none}
use Rattle.options.proofs.Rows.{paired-beside, paired-asked}
use Rattle.options.specs.Requests.{paired}
use Rattle.options.proofs.judging.paired.Goals as goal

pub returns-then-clashing : goal.returns-then-clashing
unfolding paired
returns-then-clashing c =
    rw (sym c.clashing.ensures ∙ c.if-clashing.true) (ap (λ (n : ℕ). Wrong n 6) c.word_of.ensures)

pub returns-then-based : goal.returns-then-based
unfolding paired
returns-then-based c =
    rw (
      sym c.clashing.ensures ∙ c.if-clashing.false,
      sym c.based.ensures ∙ c.if-based.true,
    )
    (ap (λ (n : ℕ). Wrong n 9) c.word_of-then-based.ensures)

pub returns-in-Some : goal.returns-in-Some
returns-in-Some c =
    let s = at-some _ _ (sym c.in-Some.is ∙ c.misfit.ensures) in
    paired-beside _ (sym c.clashing.ensures ∙ c.if-clashing.false)
    (sym c.based.ensures ∙ c.if-based.false) c.kind_of-kind.ensures s.0 s.1 c.fault_of.ensures

pub returns-in-None : goal.returns-in-None
returns-in-None c =
    paired-asked _ (sym c.clashing.ensures ∙ c.if-clashing.false)
    (sym c.based.ensures ∙ c.if-based.false) c.kind_of-kind.ensures refl
    (at-none _ (sym c.in-None.is ∙ c.misfit.ensures)) c.commanded.ensures
