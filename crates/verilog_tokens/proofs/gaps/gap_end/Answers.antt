-- `verilog_tokens::gaps::gap_end` meets its contract. The loop's invariant: the gap from `i` on ends where the whole does.
-- Assumes nothing.
use mathlib.Core.Path.{refl, sym, ◌∙◌}
use native.Mathlib.Omega.{arith}
use lib.ListN.{drop, length-drop}
use Rattle.verilog_tokens.proofs.Comments.{gap-past, gap-stays, gap-goes, blank-few}
use Rattle.verilog_tokens.specs.Tokens.{blank}
use Rattle.verilog_tokens.proofs.Lengths.{is_length, no_length}
use Rattle.verilog_tokens.proofs.gaps.gap_end.Goals as goal

pub loop-i-init : goal.loop-i-init
loop-i-init c =
    refl

pub returns-in_default : goal.returns-in_default
returns-in_default c =
    gap-stays _ _ (no_length _ (sym c.in_default.is ∙ c.blank.ensures)) ∙ c.loop-i.invariant

pub overflow_add-i : goal.overflow_add-i
overflow_add-i c =
    let l = c.loop-i in
    let a = c.args in
    let k = is_length c.in-Some.n (blank (drop l.i a.text.now)) (sym c.in-Some.is ∙ c.blank.ensures) in
    omega (arith, k.0, blank-few (drop l.i a.text.now), length-drop l.i a.text.now)

pub loop-i-preserved : goal.loop-i-preserved
loop-i-preserved c =
    let t = c.loop-i-test in
    let l = c.loop-i in
    let k = is_length c.in-Some.n (blank (drop l.i c.args.text.now)) (sym c.in-Some.is ∙ c.blank.ensures) in
    sym (gap-goes _ _ _ t.true k.0 k.1) ∙ l.invariant

pub returns : goal.returns
returns c =
    gap-past _ _ c.loop-i-test.false ∙ c.loop-i.invariant
