-- `saved::fields::words_at` meets its contract. The loop's invariant: the elements so far are stored, and the place is the next one's. Assumes nothing.
use Prim.Native.Nat.{◌+◌, ◌*◌}
use mathlib.Core.Path.{◌≡◌, refl, ◌∙◌}
use native.Mathlib.Omega.{arith}
use borrow.Author.Rules.{rules}
use Rattle.std.proofs.lemmas.List.{length-replicate}
use lib.ListN.{length-set}
use Rattle.sheet.specs.Reading.{word_of}
use Rattle.state.specs.Rows.{list_of}
use Rattle.state.proofs.Rows.{list_of-step, list_of-whole}
use Rattle.saved.proofs.Bytes.{at_first, at_next}
use Rattle.saved.proofs.fields.words_at.Goals as goal

pub loop-k-init : goal.loop-k-init
unfolding list_of
loop-k-init g c =
    (search rules, length-replicate _ _, search rules, at_first _ _, refl)

pub loop-k-preserved : goal.loop-k-preserved
loop-k-preserved g c =
    let l = c.loop-k in
    let a = c.args in (
      search rules,
      length-set _ _ _ ∙ l.invariant.1,
      search rules,
      at_next a.at a.step l.k l.invariant.3,
      rw (c.word_at.ensures, l.invariant.4, l.invariant.3) (list_of-step (λ j. word_of c.args.bytes.now (c.args.at + c.args.step * j)) _ l.k),
    )

pub returns : goal.returns
returns g c =
    let l = c.loop-k in
    let e : l.k ≡ g.row.N = omega arith in
    rw e at l.invariant.4 ∙ list_of-whole (λ j. word_of c.args.bytes.now (c.args.at + c.args.step * j)) _ g.row.N (length-replicate _ _)
