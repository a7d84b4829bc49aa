-- `verilog_origins::steps::find_wire` meets its contract. The loop's invariant: the tokens that are left find what all find. Assumes nothing.
use mathlib.Core.Path.{◌≡◌}
use Prim.Native.Nat.{◌-◌}
use Rattle.writing.specs.Buffer.{filled}
use Rattle.verilog_names.specs.Chosen.{capped}
use Rattle.verilog_read.specs.Read.{wire_at}
use Rattle.verilog_origins.specs.Origins.{first_past}
use Rattle.verilog_origins.proofs.steps.find_wire.Given as goal

abbrev pub invariant-loop-i : goal.invariant-loop-i
invariant-loop-i l =
    first_past (wire_at l.kinds l.numbers l.table l.roles l.count) l.place (l.n - l.i) l.i (filled l.out l.p)
    ≡ first_past (wire_at l.kinds l.numbers l.table l.roles l.count) l.place (capped l.count) 0 (filled l.initial.out l.pos)
