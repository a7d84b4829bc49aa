-- `verilog_tokens::constants::all_known` meets its contract. The loop's invariant: the digits that are left decide. Assumes nothing.
use mathlib.Core.Path.{refl, sym, ◌∙◌}
use Rattle.verilog_tokens.specs.Tokens.{is_known}
use Rattle.verilog_tokens.proofs.Digits.{every-next, every-fails, every-done}
use Rattle.verilog_tokens.proofs.constants.all_known.Goals as goal

pub loop-b-init : goal.loop-b-init
loop-b-init c =
    refl

pub returns : goal.returns
returns c =
    let a = c.args in
    let l = c.loop-b in
    let t = c.loop-b-test in
    every-done (is_known a.radix) a.digits.now l.b-index t.false ∙ l.invariant

pub loop-b-preserved : goal.loop-b-preserved
loop-b-preserved c =
    let a = c.args in
    let l = c.loop-b in
    let t = c.loop-b-test in
    let r-is-known = c.is_known in
    let i1 = c.if-not-is_known in
    every-next (is_known a.radix) a.digits.now l.b-index t.true (sym r-is-known.ensures
    ∙ i1.false)
    ∙ l.invariant

pub returns-then-not-is_known : goal.returns-then-not-is_known
returns-then-not-is_known c =
    let a = c.args in
    let l = c.loop-b in
    let t = c.loop-b-test in
    let r-is-known = c.is_known in
    let i1 = c.if-not-is_known in
    every-fails (is_known a.radix) a.digits.now l.b-index t.true (sym r-is-known.ensures
    ∙ i1.true)
    ∙ l.invariant
