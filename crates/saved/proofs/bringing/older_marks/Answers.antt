-- `saved::bringing::older_marks` meets its contract. The loop's invariant: the elements so far are stored, and the place is the next one's. Assumes nothing.
use Prim.Native.Nat.{◌+◌, ◌*◌}
use mathlib.Core.Path.{◌≡◌, refl, ◌∙◌}
use native.Mathlib.Omega.{arith}
use borrow.Author.Rules.{rules}
use Rattle.std.proofs.lemmas.List.{length-replicate}
use lib.ListN.{length-set, get_or}
use Rattle.values.specs.Planes.{marks_of}
use Rattle.saved.specs.Older.{older_value}
use Rattle.state.specs.Rows.{list_of}
use Rattle.state.proofs.Rows.{list_of-step, list_of-whole}
use Rattle.saved.proofs.Bytes.{at_first, at_next}
use Rattle.saved.proofs.bringing.older_marks.Goals as goal

pub loop-v-init : goal.loop-v-init
unfolding list_of
loop-v-init g c =
    (search rules, length-replicate _ _, search rules, at_first _ _, refl)

pub loop-v-preserved : goal.loop-v-preserved
loop-v-preserved g c =
    let l = c.loop-v in
    let a = c.args in (
      search rules,
      length-set _ _ _ ∙ l.invariant.1,
      search rules,
      at_next a.at a.step l.v l.invariant.3,
      rw (c.marks_of.ensures, c.older_value-x.ensures, l.invariant.4, l.invariant.3) (list_of-step (λ j. marks_of (older_value (get_or c.args.widths.now j 0) c.args.bytes.now (c.args.at + c.args.step * j))) _ l.v),
    )

pub returns : goal.returns
returns g c =
    let l = c.loop-v in
    let e : l.v ≡ g.row.N = omega arith in
    rw e at l.invariant.4 ∙ list_of-whole (λ j. marks_of (older_value (get_or c.args.widths.now j 0) c.args.bytes.now (c.args.at + c.args.step * j))) _ g.row.N (length-replicate _ _)
