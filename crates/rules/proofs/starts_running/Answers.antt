-- `rules::starts_running` meets its contract. Assumes nothing.
use mathlib.Core.Path.{◌∙◌}
use mathlib.Core.Bool.{not}
use borrow.Author.Rules.{rules}
use Rattle.rules.specs.declared.Waiting.{Waiting}
use Rattle.rules.proofs.Walking.{some-starts}
use Rattle.rules.proofs.starts_running.Goals as goal

pub returns : goal.returns
returns c =
    let a = c.args in
    c.some_body.ensures (λ (w : Waiting). not w.starts) (λ w b e. search rules) ∙ some-starts a.sheet.now a.definitions.now a.threads a.body
