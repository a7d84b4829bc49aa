-- `sheet::head::read_widths` meets its contract. What the widths from here on give is what all of them give. Assumes nothing.
use mathlib.Core.Path.{refl, sym, ◌∙◌}
use Rattle.sheet.proofs.Answers.{byte-read, byte-refused}
use Rattle.sheet.proofs.Sections.{widths-done, widths-refused, widths-more}
use Rattle.sheet.proofs.head.read_widths.Goals as goal

pub loop-at-init : goal.loop-at-init
loop-at-init c =
    refl

pub returns-in-Refused : goal.returns-in-Refused
returns-in-Refused c =
    widths-refused _ _ _ c.loop-at-test.true (byte-refused c.read_within-read.ensures c.in-Refused.is) ∙ sym c.loop-at.invariant

pub loop-at-preserved : goal.loop-at-preserved
loop-at-preserved c =
    c.loop-at.invariant ∙ widths-more _ _ _ c.loop-at-test.true (byte-read c.read_within-read.ensures c.in_default.is)

pub returns : goal.returns
returns c =
    widths-done c.args.sheet.now c.args.end c.loop-at.at c.loop-at-test.false ∙ sym c.loop-at.invariant
