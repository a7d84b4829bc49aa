-- `exports::walbryts_start` meets its contract. Assumes nothing.
use borrow.Author.Tests.{eq-eqb, ne_eqb}
use mathlib.Core.Path.{refl, sym, ap, ◌∙◌}
use lib.Dec.{eqb}
use Rattle.saved.specs.Saved.{saved}
use Rattle.events.specs.declared.Chosen.{Chosen}
use Rattle.exports.specs.Saved.{started_in}
use Rattle.exports.proofs.walbryts_start.Goals as goal

pub returns-then-first-ne0 : goal.returns-then-first-ne0
unfolding started_in
returns-then-first-ne0 c =
    let g = c.start-first.ensures in
    let n = ap (λ (x : Chosen). eqb x.number 0) (sym g) ∙ ne_eqb c.start-first.result.number 0 c.if-first-ne0.true in
    (record { value = ap (λ (x : Chosen). x.number) g; state_after = rw n refl })

pub returns : goal.returns
unfolding started_in
returns c =
    let g = c.start-first.ensures in
    let n = ap (λ (x : Chosen). eqb x.number 0) (sym g) ∙ eq-eqb c.start-first.result.number 0 c.if-first-ne0.false in
    (record { value = ap (λ (x : Chosen). x.number) g; state_after = rw n (c.save.ensures ∙ ap (λ (x : Chosen). saved x.state) g) })
