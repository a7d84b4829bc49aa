-- `verilog_exprs::constants::put_word` meets its contract. Assumes nothing.
use mathlib.Core.Path.{ap, ◌∙◌}
use mathlib.Core.List.{[], ◌∷◌}
use lib.ListN.{get_or}
use Rattle.encoding.specs.Encoding.{encode_word}
use Rattle.writing.specs.Buffer.{filled, puts}
use Rattle.writing.proofs.Buffer.{both}
use Rattle.verilog_exprs.proofs.constants.put_word.Goals as goal

pub returns : goal.returns
unfolding encode_word
returns c =
    let a = c.args in
    both _ _ _ _ _ c.put_pair-p.ensures c.put_pair.ensures
    ∙ ap (λ r. puts (filled a.out.now a.pos) (get_or r 0 0 ∷ get_or r 1 0 ∷ get_or r 2 0 ∷ get_or r 3 0 ∷ [])) c.to_le_bytes.ensures
