-- `exports::walbryts_list` meets its contract. Assumes nothing.
use mathlib.Core.Path.{ap}
use Rattle.listings.specs.declared.Listed.{Listed}
use Rattle.exports.proofs.walbryts_list.Goals as goal

pub returns : goal.returns
returns c =
    let g = c.list-listing.ensures in
    record {
      value = ap (λ (x : Listed). x.number) g.value;
      text_after = g.text_after;
      length_after = ap (λ (x : Listed). x.length) g.value;
    }
