-- `plan_fitting::flag_at` meets its contract: past the end `get_or` gives `false` too. Assumes nothing.
use mathlib.Core.Bool.{false}
use mathlib.Core.Path.{sym, ◌∙◌}
use borrow.Author.Tests.{le-ltb}
use lib.ListN.{get_or-eq_default}
use borrow.Author.Rules.{rules}
use Rattle.plan_fitting.proofs.flag_at.Goals as goal

pub returns-else-at-flags : goal.returns-else-at-flags
returns-else-at-flags c =
    le-ltb _ _ c.if-at-flags.false ∙ sym (get_or-eq_default c.args.flags.now false c.if-at-flags.false)
