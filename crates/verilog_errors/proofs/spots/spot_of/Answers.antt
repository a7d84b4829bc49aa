-- `verilog_errors::spots::spot_of` meets its contract. The loop's invariant: what is left of the way leads to the place. Assumes nothing.
use borrow.Author.Rules.{rules}
use mathlib.Core.Path.{◌≡◌, refl, sym, ◌∙◌}
use Prim.Native.Nat.{◌-◌}
use lib.ListN.{length, drop}
use Rattle.verilog_errors.specs.Spots.{spot_from, spot_at, spot_of}
use Rattle.verilog_errors.proofs.Spotting.{spot-over, spot_past, spot-step}
use Rattle.verilog_errors.proofs.spots.spot_of.Goals as goal

pub loop-i-init : goal.loop-i-init
loop-i-init c =
    refl

pub returns-then-left-eq0 : goal.returns-then-left-eq0
unfolding spot_of
returns-then-left-eq0 c =
    sym
    (spot-over c.args.text.now c.loop-i.i c.loop-i.left
    c.loop-i.s c.if-left-eq0.true) ∙ c.loop-i.invariant

pub loop-i-preserved : goal.loop-i-preserved
loop-i-preserved c =
    spot-step c.args.text.now c.loop-i.i
    c.loop-i.left c.loop-i.s
    c.loop-i-test.true c.if-left-eq0.false _ c.stepped-s.ensures
    ∙ c.loop-i.invariant

pub returns : goal.returns
unfolding spot_of
returns c =
    sym
    (spot_past c.args.text.now c.loop-i.i c.loop-i.left c.loop-i.s
    c.loop-i-test.false) ∙ c.loop-i.invariant
