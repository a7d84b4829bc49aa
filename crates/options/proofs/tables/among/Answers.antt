-- `options::tables::among` meets its contract. The loop's invariant: the rest of the line gives what the whole gives. Assumes nothing.
use mathlib.Core.Path.{refl, sym, ◌∙◌}
use native.Mathlib.Omega.{arith}
use lib.ListN.{get_or}
use Rattle.options.proofs.Among.{among_none, among-found, among-more, ended-≤, lettered-≤}
use Rattle.options.proofs.tables.among.Goals as goal

pub loop-i-init : goal.loop-i-init
loop-i-init c =
    (omega arith, omega arith, c.requires, refl)

pub overflow_add-result : goal.overflow_add-result
overflow_add-result c =
    let l = c.loop-i in
    let f = c.ranges in
    omega (arith, c.loop-i-test.true, l.invariant.0, l.invariant.2, f.base)

pub returns-then-is_found : goal.returns-then-is_found
returns-then-is_found c =
    let l = c.loop-i in
    let a = c.args in
    sym (among-found a.word.now a.line.now l.k l.n l.same l.i c.loop-i-test.true
    (sym c.is_found.ensures ∙ c.if-is_found.true))
    ∙ l.invariant.3

pub lettered-n-requires : goal.lettered-n-requires
lettered-n-requires c =
    let l = c.loop-i in
    omega (arith, c.loop-i-test.true, l.invariant.1, l.invariant.2)

pub ended-k-requires : goal.ended-k-requires
ended-k-requires c =
    let l = c.loop-i in
    let f = c.ranges in
    omega (arith, c.loop-i-test.true, l.invariant.0, l.invariant.2, f.base)

pub loop-i-preserved : goal.loop-i-preserved
loop-i-preserved c =
    let l = c.loop-i in
    let a = c.args in
    let b = get_or a.line.now l.i 0 in (
      omega (arith, c.ended-k.ensures, ended-≤ l.k b, l.invariant.0),
      omega (arith, c.lettered-n.ensures, lettered-≤ l.n b, l.invariant.1),
      l.invariant.2,
      rw (c.ended-k.ensures, c.lettered-n.ensures, c.goes_on-same.ensures)
          (sym (among-more a.word.now a.line.now l.k l.n l.same l.i c.loop-i-test.true
          (sym c.is_found.ensures ∙ c.if-is_found.false))
          ∙ l.invariant.3),
    )

pub returns : goal.returns
returns c =
    let l = c.loop-i in
    let a = c.args in
    sym (among_none a.word.now a.line.now l.k l.n l.same l.i c.loop-i-test.false) ∙ l.invariant.3
