-- `waveform::put_comment` meets its contract. The loop's invariant: what is still to be put gives the whole.
-- Assumes nothing.
use Prim.Native.Nat.{◌≤◌, ◌-◌}
use mathlib.Core.Path.{◌≡◌, refl, sym, ◌∙◌, ap}
use mathlib.Core.List.{[], ◌∷◌, map}
use borrow.Author.Rules.{rules}
use lib.ListN.{length, drop}
use Rattle.writing.specs.Buffer.{filled, puts}
use Rattle.waveform.specs.Waveform.{comment_byte}
use Rattle.waveform.proofs.Waveform.{comment-step, comment-end}
use Rattle.waveform.proofs.put_comment.Goals as goal

pub loop-b-init : goal.loop-b-init
loop-b-init c =
    (search rules, refl)

pub loop-b-preserved : goal.loop-b-preserved
loop-b-preserved c =
    let l = c.loop-b in
    let file = c.args.file.now in
    let t = filled l.text l.p in
    let e = c.put_byte-p.ensures ∙ ap (λ b. puts t (b ∷ [])) c.comment_byte.ensures in (
      search rules,
      comment-step t _ file l.b-index c.loop-b-test.true e ∙ l.invariant.1,
    )

pub returns : goal.returns
returns c =
    let l = c.loop-b in
    let a = c.args in
    sym (comment-end (filled l.text l.p) a.file.now l.b-index c.loop-b-test.false) ∙ l.invariant.1
