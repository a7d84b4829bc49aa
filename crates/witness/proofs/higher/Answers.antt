-- `witness::higher` meets its contract. Assumes nothing.
use mathlib.Core.Path.{sym, ap, ◌∙◌}
use Prim.Native.Nat.{ℕ}
use Rattle.rules.specs.Judging.{other_wait_below}
use Rattle.witness.specs.declared.BodyTest.TheVariants.{Running, Away}
use Rattle.witness.specs.Witness.{lowest, a_place}
use Rattle.witness.specs.Seeking.{by_body, higher_at}
use borrow.Author.Rules.{rules}
use Rattle.witness.proofs.higher.Goals as goal

pub returns-then-other_wait : goal.returns-then-other_wait
unfolding higher_at
returns-then-other_wait c =
    let a = c.args in
    rw (sym (c.other_wait.ensures ∙ ap (other_wait_below a.sheet.now a.code.now a.sizes.now) c.wide-threads.ensures) ∙ c.if-other_wait.true) c.odd_wait.ensures

pub returns-then-starts_running : goal.returns-then-starts_running
unfolding higher_at
returns-then-starts_running c =
    let a = c.args in
    rw (
      sym (c.other_wait.ensures ∙ ap (other_wait_below a.sheet.now a.code.now a.sizes.now) c.wide-threads.ensures) ∙ c.if-other_wait.false,
      sym c.starts_running.ensures ∙ c.if-starts_running.true,
    )
    (c.a_place.ensures
    ∙ ap (λ (j : ℕ). a_place 16 j 0)
    (c.first_body-i.ensures ∙ ap (λ (n : ℕ). lowest n (by_body a.sheet.now a.layout.definitions a.layout.body Running)) c.wide-threads.ensures))

pub returns-then-runs_away : goal.returns-then-runs_away
unfolding higher_at
returns-then-runs_away c =
    let a = c.args in
    rw (
      sym (c.other_wait.ensures ∙ ap (other_wait_below a.sheet.now a.code.now a.sizes.now) c.wide-threads.ensures) ∙ c.if-other_wait.false,
      sym c.starts_running.ensures ∙ c.if-starts_running.false,
      sym c.runs_away.ensures ∙ c.if-runs_away.true,
    )
    (c.a_place-then-runs_away.ensures
    ∙ ap (λ (j : ℕ). a_place 17 j 0)
    (c.first_body-i-then-runs_away.ensures ∙ ap (λ (n : ℕ). lowest n (by_body a.sheet.now a.layout.definitions a.layout.body Away)) c.wide-threads.ensures))

pub returns : goal.returns
unfolding higher_at
returns c =
    let a = c.args in
    rw (
      sym (c.other_wait.ensures ∙ ap (other_wait_below a.sheet.now a.code.now a.sizes.now) c.wide-threads.ensures) ∙ c.if-other_wait.false,
      sym c.starts_running.ensures ∙ c.if-starts_running.false,
      sym c.runs_away.ensures ∙ c.if-runs_away.false,
    )
    c.last.ensures
