-- What is claimed of a text's reader. `proofs/Compiled.antt` shows it.
use Rattle.std.specs.Prelude.{◌≡◌, List, ℕ}
use Rattle.verilog_source.specs.Compiled.{compiled}
use Rattle.verilog_read.specs.Read.{read_text}

-- What the code makes of every text and all lent bytes is what `verilog_source` has of them.
unfoldable pub ReadsText : Type 0
ReadsText = (text lent : List ℕ) → read_text text lent ≡ compiled text lent
