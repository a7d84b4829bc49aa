-- `verilog_tokens::words::is_keyword` meets its contract: the table of the code has Annex B's words as its rows. Assumes nothing.
use mathlib.Core.Path.{refl}
use Rattle.writing.specs.Ascii.{ascii}
use Rattle.verilog_tokens.specs.Words.{keywords}
use Rattle.verilog_tokens.proofs.Tables.{lines, keyword-place}
use Rattle.verilog_tokens.proofs.words.is_keyword.Goals as goal

pub returns : goal.returns
unfolding lines keywords ascii
returns c =
    keyword-place _ _ _ c.place_in-n.ensures refl
