-- `verilog_errors::spots::sign_of` meets its contract. Assumes nothing.
use borrow.Author.Rules.{rules}
use mathlib.Core.Path.{sym, ◌∙◌}
use borrow.Author.Tests.{eq-eqb, ne_eqb}
use Rattle.verilog_errors.specs.Spots.{sign_of}
use Rattle.verilog_errors.proofs.spots.sign_of.Goals as goal

pub returns-then-b-eq9 : goal.returns-then-b-eq9
unfolding sign_of
returns-then-b-eq9 c =
    rw (eq-eqb _ _ c.if-b-eq9.true)

pub returns-then-blank : goal.returns-then-blank
unfolding sign_of
returns-then-blank c =
    rw (ne_eqb _ _ c.if-b-eq9.false, c.if-blank.true)

pub returns-then-is_plain : goal.returns-then-is_plain
unfolding sign_of
returns-then-is_plain c =
    rw
    (ne_eqb _ _ c.if-b-eq9.false, c.if-blank.false, sym c.is_plain.ensures ∙ c.if-is_plain.true)

pub returns : goal.returns
unfolding sign_of
returns c =
    rw
    (ne_eqb _ _ c.if-b-eq9.false, c.if-blank.false, sym c.is_plain.ensures ∙ c.if-is_plain.false)
