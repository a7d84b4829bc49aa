-- `extraction::expressions` meets its contract: each way through the code is a law of proofs/Extracting. Assumes nothing.
use Rattle.extraction.proofs.Extracting.{answer-refused, answer-broken, answer-filled, answer-spilled}
use borrow.Author.Rules.{rules}
use Rattle.extraction.proofs.expressions.Goals as goal

pub returns-then-read-ne0 : goal.returns-then-read-ne0
returns-then-read-ne0 c =
    answer-refused _ _ c.read-read.ensures _ _ c.if-read-ne0.true

pub returns-then-broken-ne0 : goal.returns-then-broken-ne0
returns-then-broken-ne0 c =
    answer-broken _ _ c.read-read.ensures c.if-read-ne0.false _ _ _ _ c.compile-sizes.ensures.code_after c.compile-sizes.ensures.value
    c.fill_readers.ensures c.rule-broken.ensures _ _ c.if-broken-ne0.true

pub returns-then-e-gt4096 : goal.returns-then-e-gt4096
returns-then-e-gt4096 c =
    let p = c.requires in
    answer-spilled _ _ c.read-read.ensures c.if-read-ne0.false _ _ _ _ c.compile-sizes.ensures.code_after c.compile-sizes.ensures.value
    c.fill_readers.ensures c.rule-broken.ensures c.if-broken-ne0.false _ _ _ p.0 p.1 c.fill-e.ensures c.if-e-gt4096.true

pub returns : goal.returns
returns c =
    let p = c.requires in
    answer-filled _ _ c.read-read.ensures c.if-read-ne0.false _ _ _ _ c.compile-sizes.ensures.code_after c.compile-sizes.ensures.value
    c.fill_readers.ensures c.rule-broken.ensures c.if-broken-ne0.false _ _ _ p.0 p.1 c.fill-e.ensures c.if-e-gt4096.false
