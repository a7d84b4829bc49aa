-- `verilog_tokens::words::terminal_kind` meets its contract: the table of the code has the terminals as its rows. Assumes nothing.
use mathlib.Core.Path.{refl}
use Rattle.writing.specs.Ascii.{ascii}
use Rattle.verilog_tokens.specs.Table.{terminals}
use Rattle.verilog_tokens.proofs.Tables.{lines, terminal-inside, terminal-outside}
use Rattle.verilog_tokens.proofs.words.terminal_kind.Goals as goal

pub returns-then-n-lt39 : goal.returns-then-n-lt39
unfolding lines terminals ascii
returns-then-n-lt39 c =
    terminal-inside _ _ _ c.place_in-n.ensures refl c.if-n-lt39.true

pub returns : goal.returns
unfolding lines terminals ascii
returns c =
    terminal-outside _ _ _ c.place_in-n.ensures refl c.if-n-lt39.false
