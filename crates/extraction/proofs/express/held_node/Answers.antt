-- `express::held_node` meets its contract. Assumes nothing.
use mathlib.Core.Path.{sym, ap, ◌∙◌}
use Prim.Native.Nat.{ℕ}
use lib.ListN.{get_or}
use native.Mathlib.Omega.{arith}
use Rattle.extraction.proofs.Emitting.{held-input, held-wire, held_none, held-register}
use borrow.Author.Rules.{rules}
use Rattle.extraction.proofs.express.held_node.Goals as goal

pub returns-then-v-inputs : goal.returns-then-v-inputs
returns-then-v-inputs c =
    c.word.ensures ∙ sym (held-input _ _ _ _ c.if-v-inputs.true)

pub returns-then-registers-r : goal.returns-then-registers-r
returns-then-registers-r c =
    c.word-then-registers-r.ensures ∙ sym (held-wire _ _ _ _ c.if-v-inputs.false c.if-registers-r.true)

pub returns-then-i-ge32 : goal.returns-then-i-ge32
returns-then-i-ge32 c =
    sym (held_none _ _ _ _ c.if-v-inputs.false c.if-registers-r.false (omega (arith, c.if-i-ge32.true, c.wide_byte-i.ensures)))

pub returns : goal.returns
returns c =
    let a = c.args in
    ap (λ (i : ℕ). get_or a.row.now i 0) c.wide_byte-i.ensures ∙ sym
    (held-register _ _ _ _ c.if-v-inputs.false c.if-registers-r.false (omega (arith, c.if-i-ge32.false, c.wide_byte-i.ensures)))
