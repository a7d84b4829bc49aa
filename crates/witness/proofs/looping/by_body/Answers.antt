-- `looping::by_body` meets its contract. Assumes nothing.
use mathlib.Core.Path.{ap, ◌∙◌}
use mathlib.Core.Bool.{not, ◌&&◌}
use Rattle.rules.specs.declared.Waiting.{Waiting}
use Rattle.rules.specs.Walking.{walk_at}
use Rattle.witness.specs.Seeking.{by_body}
use borrow.Author.Rules.{rules}
use Rattle.witness.proofs.looping.by_body.Goals as goal

pub returns-in-Running : goal.returns-in-Running
unfolding by_body
returns-in-Running c =
    let a = c.args in
    rw c.in-Running.is
    (ap (λ (x : Waiting). not x.starts) (c.walk-w.ensures ∙ ap (walk_at 64 a.sheet.now a.definitions.now) c.body_at.ensures))

pub returns-in-Away : goal.returns-in-Away
unfolding by_body
returns-in-Away c =
    let a = c.args in
    rw c.in-Away.is
    (ap not c.both.ensures
    ∙ ap (λ (x : Waiting). not (x.surely && x.loops)) (c.walk-w.ensures ∙ ap (walk_at 64 a.sheet.now a.definitions.now) c.body_at.ensures))
