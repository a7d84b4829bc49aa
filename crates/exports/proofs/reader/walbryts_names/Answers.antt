-- `exports::reader::walbryts_names` meets its contract. Assumes nothing.
use mathlib.Core.Path.{ap}
use Rattle.verilog_labels.specs.Labels.{Labels}
use Rattle.exports.proofs.reader.walbryts_names.Goals as goal

pub returns : goal.returns
returns c =
    let g = c.names.ensures in record {
      value = ap (λ (x : Labels). x.number) g;
      places_after = ap (λ (x : Labels). x.places) g;
      lengths_after = ap (λ (x : Labels). x.lengths) g;
    }
