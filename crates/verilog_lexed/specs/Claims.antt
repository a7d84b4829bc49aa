-- What is claimed of the printed module's tokens. `proofs/Lexed.antt` shows all of it.
use Rattle.std.specs.Prelude.{◌≡◌, List, ℕ}
use Rattle.sheet.specs.Reading.{ok}
use Rattle.sheet.specs.Expression.{Expr}
use Rattle.sheet.specs.Module.{Module, read}
use Rattle.encoding.specs.Encoding.{Bytes}
use Rattle.encoding.specs.WellFormed.{WellFormed}
use Rattle.verilog.specs.Verilog.{verilog_text}
use Rattle.verilog_tokens.specs.Tokens.{tokens}
use Rattle.verilog_lexed.specs.Lexed.{tokens_of}

-- The text of every well-formed module has these tokens.
unfoldable pub PrintedTokens : Type 0
PrintedTokens = (m : Module Expr) → WellFormed m → tokens (verilog_text m) ≡ tokens_of m

-- And so has that of every module that was read from a sheet.
unfoldable pub ReadTokens : Type 0
ReadTokens = (s : List ℕ) → Bytes s → (m : Module Expr) → read s ≡ ok m → tokens (verilog_text m) ≡ tokens_of m
