-- `express::emit_node` meets its contract. Assumes nothing.
use mathlib.Core.Path.{refl, sym}
use Rattle.extraction.specs.Emitting.{put_node}
use Rattle.extraction.proofs.Emitting.{count-more, count-full, words_more, words-full}
use borrow.Author.Rules.{rules}
use Rattle.extraction.proofs.express.emit_node.Goals as goal

pub returns-then-count-ge4096 : goal.returns-then-count-ge4096
returns-then-count-ge4096 c =
    record { value = sym (count-full _ c.if-count-ge4096.true); nodes_after = sym (words-full _ _ _ _ _ _ c.if-count-ge4096.true) }

pub returns : goal.returns
unfolding put_node
returns c =
    let a = c.args in
    let h = c.if-count-ge4096.false in
    (record { value = sym (count-more a.count h); nodes_after = rw (words_more a.count a.kind a.a a.b a.c a.nodes.now h, c.wide-i.ensures) refl })
