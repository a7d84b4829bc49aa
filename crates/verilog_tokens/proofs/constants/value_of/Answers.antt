-- `verilog_tokens::constants::value_of` meets its contract, row by row. Assumes nothing.
use mathlib.Core.Path.{sym, ◌∙◌}
use Rattle.verilog_tokens.proofs.Bases.{value-empty, value-underscore, value-known, value-unknown, value-mixed}
use Rattle.verilog_tokens.specs.Table.{kind_of, number_in}
use Rattle.verilog_tokens.specs.Pieces.{piece_of}
use Rattle.verilog_tokens.proofs.constants.value_of.Goals as goal

pub returns-then-digits-eq0 : goal.returns-then-digits-eq0
unfolding piece_of kind_of number_in
returns-then-digits-eq0 c =
    c.broken.ensures ∙ value-empty _ _ c.args.digits.now c.if-digits-eq0.true

pub returns-then-digits-eq95 : goal.returns-then-digits-eq95
unfolding piece_of kind_of number_in
returns-then-digits-eq95 c =
    let a = c.args in
    let i1 = c.if-digits-eq0 in
    let i2 = c.if-digits-eq95 in
    c.broken-then-digits-eq95.ensures ∙ value-underscore _ _ a.digits.now i1.false i2.true

pub returns-then-all_known : goal.returns-then-all_known
returns-then-all_known c =
    let a = c.args in
    let i1 = c.if-digits-eq0 in
    let i2 = c.if-digits-eq95 in
    let r-all-known = c.all_known in
    let i3 = c.if-all_known in
    let r-number-in = c.number_in-number in
    value-known _ _ a.digits.now i1.false i2.false (sym r-all-known.ensures ∙ i3.true) _ r-number-in.ensures

pub returns-then-all_unknown : goal.returns-then-all_unknown
returns-then-all_unknown c =
    let a = c.args in
    let i1 = c.if-digits-eq0 in
    let i2 = c.if-digits-eq95 in
    let r-all-known = c.all_known in
    let i3 = c.if-all_known in
    let r-all-unknown = c.all_unknown in
    let i4 = c.if-all_unknown in
    value-unknown _ _ a.digits.now i1.false i2.false (sym r-all-known.ensures
    ∙ i3.false) (sym r-all-unknown.ensures
    ∙ i4.true)

pub returns : goal.returns
unfolding piece_of kind_of number_in
returns c =
    let a = c.args in
    let i1 = c.if-digits-eq0 in
    let i2 = c.if-digits-eq95 in
    let r-all-known = c.all_known in
    let i3 = c.if-all_known in
    let r-all-unknown = c.all_unknown in
    let i4 = c.if-all_unknown in
    c.broken-2.ensures ∙ value-mixed _ _ a.digits.now i1.false i2.false (sym r-all-known.ensures
    ∙ i3.false) (sym r-all-unknown.ensures
    ∙ i4.false)
