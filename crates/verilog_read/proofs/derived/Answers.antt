-- `verilog_read::derived` meets its contract. Assumes nothing.
use mathlib.Core.Path.{refl}
use borrow.Author.Rules.{rules}
use borrow.Author.Tests.{not-true, not-false}
use Rattle.verilog_read.proofs.Wholes.{derived-no, derived-yes}
use Rattle.verilog_read.proofs.derived.Goals as goal

pub returns-then-not-end : goal.returns-then-not-end
returns-then-not-end c =
    derived-no _ _ _ _ _
    refl
    c.number.ensures
    c.read-end.ensures
    (not-true _ c.if-not-end.true)
    c.place_at.ensures
    c.refusal.ensures

pub returns : goal.returns
returns c =
    derived-yes _ _ _ _ _
    refl
    c.number.ensures
    c.read-end.ensures
    (not-false _ c.if-not-end.false)
    c.named.ensures
