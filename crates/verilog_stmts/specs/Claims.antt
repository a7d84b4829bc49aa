-- What is claimed of the statements' code beside its contracts. `proofs/Following.antt` shows it.
use Rattle.std.specs.Prelude.{true, List, ℕ, ◌<◌, length}
use Rattle.verilog_tokens.specs.Tokens.{Token}
use Rattle.verilog_grammar.specs.Reader.{statement}
use Rattle.verilog_source.specs.Written.{written_stmt}
use Rattle.verilog_bytes.specs.Held.{Held}
use Rattle.verilog_exprs.specs.Rows.{wrote, answer}
use Rattle.verilog_exprs.specs.Following.{Tabled, From, Follows}
use Rattle.verilog_stmts.specs.Written.{statement_in}

-- Over tables that hold a text's tokens, where each name's number is a byte: with any fuel the table's reader takes and refuses what the
-- grammar's does, at the same token, and what is read lies in the buffer behind what it held.
unfoldable pub StatementsFollow : Type 0
StatementsFollow =
    (index : List ℕ → ℕ) (ts us : List Token) (kinds numbers : List ℕ) → Tabled index ts kinds numbers
    → ((s : List ℕ) → index s < 256)
    → (f i p : ℕ) (bs l : List ℕ) → From ts i us → Held bs p l
    → Follows ts l written_stmt (statement_in kinds numbers (length ts) f (wrote (answer true i p) bs)) (statement index f us)
