-- `exports::words::walbryts_witness` meets its contract. Assumes nothing.
use mathlib.Core.Path.{ap}
use Rattle.witness.specs.declared.Witness.{Witness}
use Rattle.exports.proofs.words.walbryts_witness.Goals as goal

pub returns : goal.returns
returns c =
    let g = c.witness_of-w.ensures in record {
      value = ap (λ (x : Witness). x.number) g;
      thread_after = ap (λ (x : Witness). x.thread) g;
      other_after = ap (λ (x : Witness). x.other) g;
      register_after = ap (λ (x : Witness). x.register) g;
      wired_after = ap (λ (x : Witness). x.wired) g;
      wire_after = ap (λ (x : Witness). x.wire) g;
      above_after = ap (λ (x : Witness). x.above) g;
      place_after = ap (λ (x : Witness). x.place) g;
    }
