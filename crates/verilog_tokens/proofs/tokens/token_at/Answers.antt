-- `verilog_tokens::tokens::token_at` meets its contract, row by row. Assumes nothing.
use mathlib.Core.Path.{sym, ◌∙◌}
use Rattle.verilog_tokens.proofs.Pieces.{at-end, at-word, at-number, at_value, at_sign}
use Rattle.verilog_tokens.proofs.tokens.token_at.Goals as goal

pub returns-then-text-at : goal.returns-then-text-at
returns-then-text-at c =
    at-end c.args.text.now c.args.at c.if-text-at.true

pub returns-then-is_letter : goal.returns-then-is_letter
returns-then-is_letter c =
    let r-word = c.word in
    let a = c.args in
    let i1 = c.if-text-at in
    let r-is-letter = c.is_letter in
    let i2 = c.if-is_letter in
    r-word.ensures ∙ at-word a.text.now a.at i1.false (sym r-is-letter.ensures ∙ i2.true)

pub returns-then-is_below : goal.returns-then-is_below
returns-then-is_below c =
    let r-unsigned = c.unsigned in
    let a = c.args in
    let i1 = c.if-text-at in
    let r-is-letter = c.is_letter in
    let i2 = c.if-is_letter in
    let r-is-below = c.is_below in
    let i3 = c.if-is_below in
    r-unsigned.ensures
    ∙ at-number a.text.now a.at i1.false (sym r-is-letter.ensures
    ∙ i2.false) (sym r-is-below.ensures
    ∙ i3.true)

pub returns-then-b-eq39 : goal.returns-then-b-eq39
returns-then-b-eq39 c =
    let r-based = c.based in
    let a = c.args in
    let i1 = c.if-text-at in
    let r-is-letter = c.is_letter in
    let i2 = c.if-is_letter in
    let r-is-below = c.is_below in
    let i3 = c.if-is_below in
    let i4 = c.if-b-eq39 in
    r-based.ensures
    ∙ at_value a.text.now a.at i1.false (sym r-is-letter.ensures
    ∙ i2.false) (sym r-is-below.ensures
    ∙ i3.false) i4.true

pub returns : goal.returns
returns c =
    let r-sign = c.sign in
    let a = c.args in
    let i1 = c.if-text-at in
    let r-is-letter = c.is_letter in
    let i2 = c.if-is_letter in
    let r-is-below = c.is_below in
    let i3 = c.if-is_below in
    let i4 = c.if-b-eq39 in
    r-sign.ensures
    ∙ at_sign a.text.now a.at i1.false (sym r-is-letter.ensures
    ∙ i2.false) (sym r-is-below.ensures
    ∙ i3.false) i4.false
