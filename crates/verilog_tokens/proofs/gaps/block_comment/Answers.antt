-- `verilog_tokens::gaps::block_comment` meets its contract. Assumes nothing.
use mathlib.Core.Path.{refl, sym, ◌∙◌}
use native.Mathlib.Omega.{arith}
use lib.ListN.{drop, length-drop}
use Rattle.verilog_tokens.specs.Tokens.{closing}
use Rattle.verilog_tokens.proofs.Comments.{closing-few, block_none, block-some}
use Rattle.verilog_tokens.proofs.Lengths.{length_some, length_none, is_length, no_length}
use Rattle.verilog_tokens.proofs.gaps.block_comment.Goals as goal

pub returns-in-None : goal.returns-in-None
returns-in-None c =
    let a = c.args in
    length_none _ (block_none a.text.now a.at 0 (sym (no_length _ (sym c.in-None.is ∙ c.closing.ensures))) refl)

pub overflow_add-result : goal.overflow_add-result
overflow_add-result c =
    let a = c.args in
    let k = is_length c.in-Some.n (closing (drop a.at a.text.now)) (sym c.in-Some.is ∙ c.closing.ensures) in
    omega (arith, k.0, closing-few (drop a.at a.text.now), length-drop a.at a.text.now)

pub returns-in-Some : goal.returns-in-Some
returns-in-Some c =
    let a = c.args in
    let k = is_length c.in-Some.n (closing (drop a.at a.text.now)) (sym c.in-Some.is ∙ c.closing.ensures) in
    length_some _ _ (omega arith) (block-some a.text.now a.at _ k.0 k.1)
