-- `sources::put_sheet` meets its contract. The loop's invariant: the bytes that are left give the whole. Assumes nothing.
use mathlib.Core.Path.{refl, ◌∙◌}
use lib.ListN.{length}
use Rattle.writing.specs.Buffer.{filled}
use Rattle.sources.proofs.Contents.{hex-turn, hex-over}
use Rattle.sources.proofs.put_sheet.Goals as goal

pub loop-i-init : goal.loop-i-init
loop-i-init c =
    refl

pub loop-i-preserved : goal.loop-i-preserved
loop-i-preserved c =
    hex-turn (length c.args.sheet.now)
    c.args.sheet.now
    c.loop-i.i
    (filled c.loop-i.out
    c.loop-i.p)
    c.loop-i-test.true _ _ _
    c.put_pair-q.ensures c.behind.ensures c.put_byte-p.ensures
    ∙ c.loop-i.invariant

pub returns : goal.returns
returns c =
    hex-over (length c.args.sheet.now) c.args.sheet.now
    c.loop-i.i (filled c.loop-i.out c.loop-i.p) c.loop-i-test.false ∙ c.loop-i.invariant
