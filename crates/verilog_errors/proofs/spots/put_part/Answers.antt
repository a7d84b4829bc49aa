-- `verilog_errors::spots::put_part` meets its contract. The loop's invariant: what is left of the part gives the whole. Assumes nothing.
use borrow.Author.Rules.{rules}
use mathlib.Core.Path.{◌≡◌, refl, sym, ◌∙◌}
use mathlib.Core.List.{map}
use Prim.Native.Nat.{◌-◌}
use lib.ListN.{length}
use Rattle.writing.specs.Buffer.{filled, puts}
use Rattle.verilog_errors.specs.Spots.{part, sign_of}
use Rattle.verilog_errors.proofs.Spotting.{shown-none, shown-past, shown-step}
use Rattle.verilog_errors.proofs.spots.put_part.Goals as goal

pub loop-i-init : goal.loop-i-init
loop-i-init c =
    refl

pub returns-then-left-eq0 : goal.returns-then-left-eq0
returns-then-left-eq0 c =
    shown-none (sign_of c.args.blank) c.args.text.now
    c.loop-i.i c.loop-i.left (filled c.loop-i.out c.loop-i.p)
    c.if-left-eq0.true ∙ c.loop-i.invariant

pub loop-i-preserved : goal.loop-i-preserved
loop-i-preserved c =
    shown-step (sign_of c.args.blank)
    c.args.text.now
    c.loop-i.i c.loop-i.left
    (filled c.loop-i.out c.loop-i.p)
    c.loop-i-test.true c.if-left-eq0.false _ _
    c.sign_of.ensures c.put_byte-p.ensures ∙ c.loop-i.invariant

pub returns : goal.returns
returns c =
    shown-past (sign_of c.args.blank) c.args.text.now
    c.loop-i.i c.loop-i.left (filled c.loop-i.out c.loop-i.p) c.loop-i-test.false
    ∙ c.loop-i.invariant
