-- `rules::runs_away` meets its contract. Assumes nothing.
use mathlib.Core.Path.{◌∙◌}
use mathlib.Core.Bool.{not, ◌&&◌}
use borrow.Author.Rules.{rules}
use Rattle.rules.specs.declared.Waiting.{Waiting}
use Rattle.rules.proofs.Walking.{some-away}
use Rattle.rules.proofs.runs_away.Goals as goal

pub returns : goal.returns
returns c =
    let a = c.args in
    c.some_body.ensures (λ (w : Waiting). not (w.surely && w.loops)) (λ w b e. search rules) ∙ some-away a.sheet.now a.definitions.now a.threads a.body
