-- `sheet::bytes::read_within` meets its contract, test by test. Assumes nothing.
use borrow.Author.Tests.{le-leb, lt-leb}
use Rattle.sheet.specs.Reading.{within}
use Rattle.sheet.specs.Parts.{byte_answer}
use Rattle.sheet.proofs.Reading.{byte-at, byte-end}
use Rattle.sheet.proofs.bytes.read_within.Goals as goal
use Rattle.sheet.proofs.bytes.read_within.Goals.{then-b-low-via-then-b-low, then-b-low-via-else-b-low+then-high-b}

pub returns-then-end-at : goal.returns-then-end-at
unfolding byte_answer within
returns-then-end-at c =
    simp (byte-end c.args.sheet.now c.args.at c.if-end-at.true)

pub returns-then-b-low : goal.returns-then-b-low
unfolding byte_answer within
returns-then-b-low c =
    elim c.then-b-low.branch [
      | then-b-low-via-then-b-low w ↦ simp (byte-at c.args.sheet.now c.args.at c.if-end-at.false, lt-leb _ _ w.if-b-low.true)
      | then-b-low-via-else-b-low+then-high-b w ↦
          simp (byte-at c.args.sheet.now c.args.at c.if-end-at.false, le-leb _ _ w.if-b-low.false, lt-leb _ _ w.if-high-b.true)
    ]

pub returns : goal.returns
unfolding byte_answer within
returns c =
    simp (byte-at c.args.sheet.now c.args.at c.if-end-at.false, le-leb _ _ c.if-b-low.false, le-leb _ _ c.if-high-b.false)
