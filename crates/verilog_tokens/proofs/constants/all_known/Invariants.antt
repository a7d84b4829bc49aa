-- `verilog_tokens::constants::all_known` meets its contract. The loop's invariant: the digits that are left decide. Assumes nothing.
use mathlib.Core.Path.{◌≡◌}
use lib.ListN.{length, drop}
use Rattle.verilog_tokens.specs.Characters.{every}
use Rattle.verilog_tokens.specs.Tokens.{is_known}
use Rattle.verilog_tokens.proofs.constants.all_known.Given as goal

abbrev pub invariant-loop-b : goal.invariant-loop-b
invariant-loop-b l =
    every (is_known l.radix) (drop l.b-index l.digits) ≡ every (is_known l.radix) l.digits
