-- What is claimed of the expressions' code beside its contracts. `proofs/Reading.antt` shows it.
use Rattle.std.specs.Prelude.{List, ℕ, ◌<◌, length}
use Rattle.encoding.specs.Encoding.{encode_expr}
use Rattle.verilog_tokens.specs.Tokens.{Token}
use Rattle.verilog_grammar.specs.AnnexA.{Expression}
use Rattle.verilog_grammar.specs.Meaning.{expr_of}
use Rattle.verilog_grammar.specs.Reader.{reader, expression}
use Rattle.verilog_bytes.specs.Held.{Held}
use Rattle.verilog_exprs.specs.Exprs.{expr_at}
use Rattle.verilog_exprs.specs.Following.{Tabled, byte_of, From, Follows}

unfoldable pub bytes_of : (List ℕ → ℕ) → Expression → List ℕ
bytes_of index e = encode_expr (expr_of index e)

-- At every level and with any fuel, the same of both.
unfoldable pub LevelsFollow : Type 0
LevelsFollow =
    (index : List ℕ → ℕ) (ts us : List Token) (kinds numbers : List ℕ) → Tabled index ts kinds numbers
    → (f k i p : ℕ) (bs l : List ℕ) → From ts i us → Held bs p l
    → Follows ts l (bytes_of (byte_of index)) (expr_at kinds numbers f k i p bs) (reader f k us)

-- The grammar's expression, where each name's number is a byte.
unfoldable pub ExpressionsFollow : Type 0
ExpressionsFollow =
    (index : List ℕ → ℕ) (ts us : List Token) (kinds numbers : List ℕ) → Tabled index ts kinds numbers
    → ((s : List ℕ) → index s < 256)
    → (i p : ℕ) (bs l : List ℕ) → From ts i us → Held bs p l
    → Follows ts l (bytes_of index) (expr_at kinds numbers (length us) 1 i p bs) (expression us)
