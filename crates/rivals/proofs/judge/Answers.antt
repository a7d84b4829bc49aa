-- `rivals::judge` meets its contract. The loop's invariant: what is still to be judged gives the whole. Assumes nothing.
use Prim.Native.Nat.{◌-◌}
use mathlib.Core.Path.{◌≡◌, sym, ap, ◌∙◌}
use native.Mathlib.Omega.{arith}
use Rattle.comparison.specs.Verdicts.{after_all}
use Rattle.rivals.specs.Judging.{lesser, found, cycles_in, findings, judged}
use Rattle.rivals.proofs.Judging.{lesser-≤, cycles-plain, judged-next, judged-end}
use Rattle.rivals.proofs.judge.Goals as goal

pub loop-c-init : goal.loop-c-init
unfolding judged
loop-c-init c =
    let a = c.args in
    let f = found a.m a.plain.now a.first.now a.second.now a.expressed.now in
    let i = cycles_in a.plain.now a.first.now a.second.now a.expressed.now in
    let e : c.lesser-n.result ≡ lesser a.cycles i =
    c.lesser-n.ensures ∙ ap (λ k. lesser a.cycles k) c.cycles_in.ensures in
    let n : c.lesser-n.result - 0 ≡ lesser a.cycles i = omega (arith, e) in (
      omega (
        arith,
        e,
        (lesser-≤ a.cycles i).1,
        cycles-plain a.plain.now a.first.now a.second.now a.expressed.now,
      ),
      ap (λ k. after_all a.v (findings f k 0)) n,
    )

pub loop-c-preserved : goal.loop-c-preserved
loop-c-preserved c =
    let l = c.loop-c in
    let n = c.lesser-n.result in
    let a = c.args in
    let f = found a.m a.plain.now a.first.now a.second.now a.expressed.now in
    (l.invariant.0, judged-next f n l.c l.verdict c.loop-c-test.true c.found-f.ensures c.after-verdict.ensures ∙ l.invariant.1)

pub returns : goal.returns
returns c =
    let l = c.loop-c in
    let n = c.lesser-n.result in
    let a = c.args in
    let f = found a.m a.plain.now a.first.now a.second.now a.expressed.now in
    sym (judged-end f n l.c l.verdict c.loop-c-test.false) ∙ l.invariant.1
