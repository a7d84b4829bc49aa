-- `verilog_origins::token_of` meets its contract. Assumes nothing.
use mathlib.Core.Path.{refl}
use Rattle.verilog_origins.proofs.Origins.{token-wire, token-thread}
use Rattle.verilog_origins.proofs.token_of.Goals as goal

pub returns-then-token-capped : goal.returns-then-token-capped
returns-then-token-capped c =
    token-wire _ _ _ _ _ _ _ c.find_wire-h.ensures
    c.capped.ensures c.if-token-capped.true c.number_at-id.ensures
    refl c.target_of.ensures

pub returns : goal.returns
returns c =
    token-thread _ _ _ _ _ _ _ c.find_wire-h.ensures
    c.capped.ensures c.if-token-capped.false c.find_thread-g.ensures
