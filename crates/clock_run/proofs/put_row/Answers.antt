-- `clock_run::put_row` meets its contract. The loop: the words so far put. Assumes nothing.
use mathlib.Core.Path.{◌≡◌, refl}
use native.Mathlib.Omega.{arith}
use lib.ListN.{length-set}
use Rattle.clock_run.proofs.Turns.{words-none, words_more}
use Rattle.clock_run.proofs.put_row.Goals as goal

pub loop-k-init : goal.loop-k-init
loop-k-init c =
    (omega arith, refl, words-none _ _ _)

pub loop-k-preserved : goal.loop-k-preserved
loop-k-preserved c =
    (omega arith, simp length-set c.loop-k.invariant.1, words_more _ _ _ _ c.loop-k.invariant.2 c.word_of.ensures)

pub returns : goal.returns
returns c =
    let e : c.loop-k.k ≡ 88 = omega arith in
    rw e at c.loop-k.invariant.2
