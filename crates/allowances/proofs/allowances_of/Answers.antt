-- `allowances::allowances_of` meets its contract. Assumes nothing.
use mathlib.Core.Path.{sym, ap, ◌∙◌}
use Prim.Native.Nat.{◌+◌}
use lib.ListN.{drop}
use Rattle.allowances.specs.declared.Reading.{Reading}
use Rattle.allowances.specs.Allowances.{taken_all, allowed_by, allowances_of}
use Rattle.allowances.proofs.Rows.{all-turn, all_done}
use Rattle.allowances.proofs.allowances_of.Goals as goal

pub loop-i-init : goal.loop-i-init
loop-i-init c =
    ap (λ (x : Reading). taken_all x c.args.word.now) c.nothing-r.ensures

pub loop-i-preserved : goal.loop-i-preserved
loop-i-preserved c =
    let word = c.args.word.now in
    ap (λ (x : Reading). taken_all x (drop (c.loop-i.i + 1) word)) c.taken-r.ensures
    ∙ sym (all-turn c.loop-i.r word c.loop-i.i c.loop-i-test.true)
    ∙ c.loop-i.invariant

pub returns : goal.returns
unfolding allowances_of
returns c =
    c.allowed_by.ensures ∙ ap allowed_by (sym (all_done _ _ _ c.loop-i-test.false) ∙ c.loop-i.invariant)
