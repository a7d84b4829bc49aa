-- `verilog_tokens::numbers::number_up_to` meets its contract. The loop's invariant: with the digits that are left, `n` comes to the
-- number that the whole spells. Assumes nothing.
use lib.ListN.{length}
use Rattle.verilog_tokens.proofs.Digits.{Counted, up-to}
use Rattle.verilog_tokens.proofs.numbers.number_up_to.Given as goal

abbrev pub invariant-loop-b : goal.invariant-loop-b
invariant-loop-b l =
    Counted up-to l.digits l.b-index l.n
