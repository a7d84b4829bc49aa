-- `sheet::bytes::read_word` meets its contract: each way through the code is a law of proofs/Stages. Assumes nothing.
use Rattle.sheet.proofs.Stages.{word-short, word_made}
use Rattle.sheet.proofs.bytes.read_word.Goals as goal

pub returns-then-left_of-lt4 : goal.returns-then-left_of-lt4
returns-then-left_of-lt4 c =
    word-short _ _ _ c.left_of.ensures c.if-left_of-lt4.true

pub returns : goal.returns
returns c =
    word_made _ _ _ c.left_of.ensures c.if-left_of-lt4.false c.word_at.ensures
