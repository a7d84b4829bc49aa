-- The eight fields, one by one.
use Rattle.pseudocode.specs.Fetching.{terms_from}
use Rattle.pseudocode.proofs.terms_from.Goals as goal

pub returns : goal.returns
unfolding terms_from
returns c =
    λ i. record {
      count = c.args.count;
      t0 = c.term_from.ensures i;
      t1 = c.term_from-2.ensures i;
      t2 = c.term_from-3.ensures i;
      t3 = c.term_from-4.ensures i;
      t4 = c.term_from-5.ensures i;
      t5 = c.term_from-6.ensures i;
      t6 = c.term_from-7.ensures i;
      t7 = c.term_from-8.ensures i;
    }
