-- `saved::bringing::widths_in` meets its contract. The loop's invariant: the elements so far are stored. Assumes nothing.
use mathlib.Core.Path.{◌≡◌, refl, ◌∙◌}
use native.Mathlib.Omega.{arith}
use borrow.Author.Rules.{rules}
use Rattle.std.proofs.lemmas.List.{length-replicate}
use lib.ListN.{length-set}
use Rattle.saved.specs.Older.{width_in}
use Rattle.state.specs.Rows.{list_of}
use Rattle.state.proofs.Rows.{list_of-step, list_of-whole}
use Rattle.saved.proofs.bringing.widths_in.Goals as goal

pub loop-v-init : goal.loop-v-init
unfolding list_of
loop-v-init g c =
    (search rules, length-replicate _ _, refl)

pub loop-v-preserved : goal.loop-v-preserved
loop-v-preserved g c =
    let l = c.loop-v in
    let sheet = c.args.sheet.now in
    let first = c.args.first in
    let n = c.args.n in
    (search rules, length-set _ _ _ ∙ l.invariant.1, rw (c.width_in.ensures, l.invariant.2) (list_of-step (width_in sheet first n) _ l.v))

pub returns : goal.returns
returns g c =
    let l = c.loop-v in
    let sheet = c.args.sheet.now in
    let first = c.args.first in
    let n = c.args.n in
    let e : l.v ≡ g.row.N = omega arith in
    rw e at l.invariant.2 ∙ list_of-whole (width_in sheet first n) _ g.row.N (length-replicate _ _)
