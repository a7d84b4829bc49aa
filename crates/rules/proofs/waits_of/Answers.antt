-- `rules::waits_of` meets its contract. The loop's invariant: the waits of the threads below `i` are counted. Assumes nothing.
use borrow.Author.Rules.{rules}
use mathlib.Core.Path.{◌≡◌, sym, ap, ◌∙◌}
use native.Mathlib.Omega.{arith}
use Rattle.rules.specs.Judging.{waits_of}
use Rattle.rules.proofs.Counting.{size_of-most, waits-most, count_none, count_turn}
use Rattle.rules.proofs.waits_of.Goals as goal

pub loop-i-init : goal.loop-i-init
loop-i-init c =
    let a = c.args in
    (search rules, search rules, sym (count_none a.sheet.now a.code.now a.sizes.now))

pub overflow_add-count : goal.overflow_add-count
overflow_add-count c =
    let a = c.args in
    omega (arith, waits-most a.sheet.now a.code.now c.loop-i.i c.size_of.result, size_of-most a.sizes.now c.loop-i.i, c.size_of.ensures, c.waits_in-count.ensures)

pub loop-i-preserved : goal.loop-i-preserved
loop-i-preserved c =
    let a = c.args in
    let l = c.loop-i in
    let most = waits-most a.sheet.now a.code.now l.i c.size_of.result in (
      omega arith,
      omega (arith, size_of-most a.sizes.now l.i, c.size_of.ensures, c.waits_in-count.ensures),
      count_turn a.sheet.now a.code.now a.sizes.now l.i l.invariant.2 c.size_of.ensures c.waits_in-count.ensures,
    )

pub returns : goal.returns
returns c =
    let a = c.args in
    let l = c.loop-i in
    let e : l.i ≡ a.threads = omega arith in
    l.invariant.2 ∙ ap (waits_of a.sheet.now a.code.now a.sizes.now) e
