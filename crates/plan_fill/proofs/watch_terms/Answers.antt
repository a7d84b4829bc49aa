-- `plan_fill::watch_terms` meets its contract. The loop's invariant: the terms below `k` are marked. Assumes nothing.
use borrow.Author.Rules.{rules}
use native.Mathlib.Omega.{arith}
use Rattle.plan_fill.specs.Filling.{watch_term}
use Rattle.plan_fill.proofs.Filling.{up_none, up_turn, up-end, term-watched}
use Rattle.plan_fill.proofs.watch_terms.Goals as goal

pub returns : goal.returns
returns c =
    let a = c.args in
    up-end (watch_term a.i a.t) a.watchers.now c.loop-k.invariant.1 (omega arith)

pub loop-k-preserved : goal.loop-k-preserved
loop-k-preserved c =
    let a = c.args in
    let l = c.loop-k in (
      omega arith,
      up_turn (watch_term a.i a.t) a.watchers.now l.k l.invariant.1
          (term-watched a.i a.t l.k l.watchers c.term_at-term.ensures c.mark_variable.ensures),
    )

pub loop-k-init : goal.loop-k-init
loop-k-init c =
    (search rules, up_none (watch_term c.args.i c.args.t) c.args.watchers.now)
