-- `exports::words::walbryts_hex` meets its contract. Assumes nothing.
use mathlib.Core.Path.{ap, ◌∙◌}
use Rattle.hextext.specs.declared.Decoded.{Decoded}
use Rattle.exports.proofs.Telling.{hex-refused, hex-read}
use Rattle.exports.proofs.words.walbryts_hex.Goals as goal

pub returns-then-d-ne0 : goal.returns-then-d-ne0
returns-then-d-ne0 c =
    let g = c.decode-d.ensures in record {
      value = ap (λ (x : Decoded). x.error) g.0;
      bytes_after = hex-refused _ _ c.decode-d.result g.0 c.if-d-ne0.true;
      length_after = ap (λ (x : Decoded). x.length) g.0;
      line_after = ap (λ (x : Decoded). x.line) g.0;
      column_after = ap (λ (x : Decoded). x.column) g.0;
    }

pub returns : goal.returns
returns c =
    let g = c.decode-d.ensures in record {
      value = ap (λ (x : Decoded). x.error) g.0;
      bytes_after = g.1 ∙ hex-read _ _ c.decode-d.result g.0 c.if-d-ne0.false;
      length_after = ap (λ (x : Decoded). x.length) g.0;
      line_after = ap (λ (x : Decoded). x.line) g.0;
      column_after = ap (λ (x : Decoded). x.column) g.0;
    }
