-- `exports::words::walbryts_finding` meets its contract. Assumes nothing.
use mathlib.Core.Path.{ap, ◌∙◌}
use Rattle.witness.specs.declared.Witness.{Witness}
use Rattle.exports.proofs.Telling.{found_none, found_some}
use Rattle.exports.proofs.words.walbryts_finding.Goals as goal

pub returns-then-w-lt12 : goal.returns-then-w-lt12
returns-then-w-lt12 c =
    let g = c.witness_of-w.ensures in
    (record { value = ap (λ (x : Witness). x.number) g; length_after = found_none _ c.witness_of-w.result _ g c.if-w-lt12.true })

pub returns : goal.returns
returns c =
    let g = c.witness_of-w.ensures in
    (record { value = ap (λ (x : Witness). x.number) g; length_after = c.put_witness.ensures ∙ found_some _ c.witness_of-w.result _ g c.if-w-lt12.false })
