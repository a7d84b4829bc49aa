-- `rules::waits_in` meets its contract. The loop's invariant: the waits below `p` are counted. Assumes nothing.
use borrow.Author.Rules.{rules}
use mathlib.Core.Path.{◌≡◌, sym, ap, ◌∙◌}
use native.Mathlib.Omega.{arith}
use Rattle.rules.specs.Judging.{waits_in}
use Rattle.rules.proofs.Counting.{wait_of-most, waits-none, waits-turn, waits-most}
use Rattle.rules.proofs.waits_in.Goals as goal

pub loop-p-init : goal.loop-p-init
loop-p-init c =
    let a = c.args in
    (search rules, sym (waits-none a.sheet.now a.code.now a.thread))

pub overflow_add-count : goal.overflow_add-count
overflow_add-count c =
    let a = c.args in
    omega (arith, waits-most a.sheet.now a.code.now a.thread c.loop-p.p, wait_of-most c.fetch.result, c.wait_of-count.ensures)

pub loop-p-preserved : goal.loop-p-preserved
loop-p-preserved c =
    let a = c.args in
    let l = c.loop-p in
    (omega arith, waits-turn a.sheet.now a.code.now a.thread l.p l.invariant.1 c.fetch.ensures c.wait_of-count.ensures)

pub returns : goal.returns
returns c =
    let a = c.args in
    let l = c.loop-p in
    let e : l.p ≡ a.n = omega arith in
    l.invariant.1 ∙ ap (waits_in a.sheet.now a.code.now a.thread) e
