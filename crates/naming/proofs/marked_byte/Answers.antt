-- `naming::marked_byte` meets its contract. Assumes nothing.
use borrow.Author.Rules.{rules}
use native.Mathlib.Omega.{arith}
use Rattle.naming.proofs.Naming.{marked-first, marked-less-one, marked-less-past}
use Rattle.naming.proofs.Naming.{marked-more-one, marked-more-two, marked-more-past}
use Rattle.naming.proofs.marked_byte.Goals as goal

pub returns-then-j-eq0 : goal.returns-then-j-eq0
returns-then-j-eq0 c =
    marked-first _ _ _ c.if-j-eq0.true

pub returns-then-j-eq1 : goal.returns-then-j-eq1
returns-then-j-eq1 c =
    marked-less-one _ _ _ c.if-n-lt10.true c.if-j-eq1.true

pub returns-then-n-lt10 : goal.returns-then-n-lt10
returns-then-n-lt10 c =
    let a = c.args in
    marked-less-past a.mark a.n a.j c.if-n-lt10.true
    (omega (arith, c.if-j-eq0.false, c.if-j-eq1.false))

pub returns-then-j-eq1-2 : goal.returns-then-j-eq1-2
returns-then-j-eq1-2 c =
    marked-more-one _ _ _ c.if-n-lt10.false (search rules) c.if-j-eq1-2.true

pub returns-then-j-eq2 : goal.returns-then-j-eq2
returns-then-j-eq2 c =
    marked-more-two _ _ _ c.if-n-lt10.false (search rules) c.if-j-eq2.true

pub returns : goal.returns
returns c =
    let a = c.args in
    marked-more-past a.mark a.n a.j c.if-n-lt10.false (search rules)
    (omega (arith, c.if-j-eq0.false, c.if-j-eq1-2.false, c.if-j-eq2.false))
