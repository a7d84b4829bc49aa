-- `plan::terms_from` meets its contract. Assumes nothing.
use Rattle.plan.specs.Plan.{terms_from}
use Rattle.plan.proofs.terms_from.Goals as goal

pub returns : goal.returns
unfolding terms_from
returns c =
    λ i. record {
      count = c.args.count;
      t0 = c.term_from-t0.ensures i;
      t1 = c.term_from-t1.ensures i;
      t2 = c.term_from-t2.ensures i;
      t3 = c.term_from-t3.ensures i;
      t4 = c.term_from-t4.ensures i;
      t5 = c.term_from-t5.ensures i;
      t6 = c.term_from-t6.ensures i;
      t7 = c.term_from-t7.ensures i;
    }
