-- `verilog_tokens::numbers::number_in` meets its contract. The loop's invariant: with the digits that are left, `n` comes to the number
-- that the whole spells. Assumes nothing.
use lib.ListN.{length}
use Rattle.verilog_tokens.proofs.Digits.{Counted, cut-32}
use Rattle.verilog_tokens.proofs.numbers.number_in.Given as goal

abbrev pub invariant-loop-b : goal.invariant-loop-b
invariant-loop-b l =
    Counted (cut-32 l.radix) l.digits l.b-index l.n
