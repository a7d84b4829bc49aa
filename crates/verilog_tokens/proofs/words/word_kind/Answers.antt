-- `verilog_tokens::words::word_kind` meets its contract. Assumes nothing.
use mathlib.Core.Path.{sym, ◌∙◌}
use Rattle.verilog_tokens.proofs.Tables.{kind-keyword, kind-name}
use Rattle.verilog_tokens.proofs.words.word_kind.Goals as goal

pub returns-then-is_keyword : goal.returns-then-is_keyword
returns-then-is_keyword c =
    c.terminal_kind.ensures ∙ kind-keyword _ (sym c.is_keyword.ensures ∙ c.if-is_keyword.true)

pub returns : goal.returns
returns c =
    kind-name c.args.word.now (sym c.is_keyword.ensures ∙ c.if-is_keyword.false)
