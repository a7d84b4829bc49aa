-- `exports::plan_calls::walbryts_prepare` meets its contract. Assumes nothing.
use mathlib.Core.Path.{ap, ◌∙◌, refl}
use Rattle.prepared.specs.declared.Prepared.{Prepared}
use Rattle.exports.proofs.Exports.{number_read, place_read}
use Rattle.exports.proofs.plan_calls.walbryts_prepare.Goals as goal

pub returns : goal.returns
returns c =
    let g = c.prepare-found.ensures in
    let s = c.args.sheet.now in record {
      value = ap (λ (x : Prepared). x.number) g.value ∙ number_read s _ refl;
      plan_after = g.plan_after;
      place_after = ap (λ (x : Prepared). x.place) g.value ∙ place_read s _ refl;
    }
