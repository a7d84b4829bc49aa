-- `plan_fill::put_terms` meets its contract. The loop's invariant: the terms below `k` are put. Assumes nothing.
use borrow.Author.Rules.{rules}
use mathlib.Core.Path.{refl}
use native.Mathlib.Omega.{arith}
use Rattle.plan_fill.specs.Filling.{filling, put_term}
use Rattle.plan_fill.proofs.Filling.{up_none, up_turn, up-end, term-put}
use Rattle.plan_fill.proofs.put_terms.Goals as goal

pub returns : goal.returns
returns c =
    let a = c.args in
    up-end (put_term a.t) (filling a.first a.plan.now) c.loop-k.invariant.1 (omega arith)

pub loop-k-preserved : goal.loop-k-preserved
loop-k-preserved c =
    let a = c.args in
    let l = c.loop-k in (
      omega arith,
      up_turn (put_term a.t) (filling a.first a.plan.now) l.k l.invariant.1
          (term-put a.t l.k l.free l.plan c.term_at-term.ensures
          c.edge_number.ensures
          refl c.put_node.ensures c.more-free.ensures),
    )

pub loop-k-init : goal.loop-k-init
loop-k-init c =
    (search rules, up_none (put_term c.args.t) (filling c.args.first c.args.plan.now))
