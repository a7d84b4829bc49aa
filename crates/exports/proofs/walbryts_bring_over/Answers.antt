-- `exports::walbryts_bring_over` meets its contract. Assumes nothing.
use borrow.Author.Tests.{eq-eqb, ne_eqb}
use mathlib.Core.Path.{refl, sym, ap, ◌∙◌}
use lib.Dec.{eqb}
use Rattle.saved.specs.declared.Brought.{Brought}
use Rattle.saved.specs.Saved.{saved}
use Rattle.exports.specs.Saved.{brought_into}
use Rattle.exports.proofs.walbryts_bring_over.Goals as goal

pub returns-then-brought-ne0 : goal.returns-then-brought-ne0
unfolding brought_into
returns-then-brought-ne0 c =
    let g = c.bring_over-brought.ensures in
    let n = ap (λ (x : Brought). eqb x.number 0) (sym g) ∙ ne_eqb c.bring_over-brought.result.number 0 c.if-brought-ne0.true in
    (record { value = ap (λ (x : Brought). x.number) g; state_after = rw n refl })

pub returns : goal.returns
unfolding brought_into
returns c =
    let g = c.bring_over-brought.ensures in
    let n = ap (λ (x : Brought). eqb x.number 0) (sym g) ∙ eq-eqb c.bring_over-brought.result.number 0 c.if-brought-ne0.false in
    (record { value = ap (λ (x : Brought). x.number) g; state_after = rw n (c.save.ensures ∙ ap (λ (x : Brought). saved x.state) g) })
