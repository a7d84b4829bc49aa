-- `rivals::judge` meets its contract. The loop's invariant: what is still to be judged gives the whole. Assumes nothing.
use Prim.Native.Nat.{◌-◌, ◌≤◌}
use mathlib.Core.Path.{◌≡◌}
use Rattle.comparison.specs.Verdicts.{after_all}
use Rattle.rivals.specs.Judging.{found, findings, judged}
use Rattle.rivals.proofs.judge.Given as goal

abbrev pub invariant-loop-c : goal.invariant-loop-c
invariant-loop-c l =
    (l.n ≤ 4611686018427387904) × (after_all l.verdict (findings (found l.m l.plain l.first l.second l.expressed) (l.n - l.c) l.c)
    ≡ judged l.m l.initial.verdict l.cycles l.plain l.first l.second l.expressed)
