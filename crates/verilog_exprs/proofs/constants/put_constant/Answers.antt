-- `verilog_exprs::constants::put_constant` meets its contract. Assumes nothing.
use mathlib.Core.Path.{ap, ◌∙◌}
use mathlib.Core.List.{◌∷◌}
use Rattle.encoding.specs.Encoding.{encode_word}
use Rattle.writing.specs.Buffer.{filled, puts}
use Rattle.writing.proofs.Buffer.{both}
use Rattle.verilog_exprs.specs.Constants.{constant_bytes}
use Rattle.verilog_exprs.proofs.constants.put_constant.Goals as goal

pub returns : goal.returns
unfolding constant_bytes
returns c =
    let a = c.args in
    both _ _ _ _ _ c.put_pair-p.ensures c.put_word.ensures
    ∙ ap (λ n. puts (filled a.out.now a.pos) (0x0C ∷ a.width ∷ encode_word n)) c.cut.ensures
