-- `exports::reader::walbryts_read_text` meets its contract. Assumes nothing.
use mathlib.Core.Path.{ap}
use Rattle.verilog_source.specs.Compiled.{Compiled}
use Rattle.exports.proofs.reader.walbryts_read_text.Goals as goal

pub returns : goal.returns
returns c =
    let g = c.read_text-found.ensures in record {
      value = ap (λ (x : Compiled). x.answer.number) g;
      lent_after = ap (λ (x : Compiled). x.lent) g;
      place_after = ap (λ (x : Compiled). x.answer.place) g;
      length_after = ap (λ (x : Compiled). x.answer.length) g;
    }
