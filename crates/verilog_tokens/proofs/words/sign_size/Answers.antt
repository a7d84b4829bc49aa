-- `verilog_tokens::words::sign_size` meets its contract: the table of the code has the signs as its rows. Assumes nothing.
use mathlib.Core.Path.{refl}
use Rattle.writing.specs.Ascii.{ascii}
use Rattle.verilog_tokens.specs.Words.{signs}
use Rattle.verilog_tokens.proofs.Tables.{lines, sign-first}
use Rattle.verilog_tokens.proofs.words.sign_size.Goals as goal

pub returns : goal.returns
unfolding lines signs ascii
returns c =
    sign-first _ _ _ c.first_of.ensures refl
