-- `explaining::explain` meets its contract. Assumes nothing.
use mathlib.Core.Path.{sym, ◌∙◌}
use native.Mathlib.Omega.{arith}
use Rattle.explaining.proofs.Threads.{explain-refused, explain-past, explain-away, explain-read}
use Rattle.explaining.proofs.explain.Goals as goal

pub returns-then-number-ne0 : goal.returns-then-number-ne0
returns-then-number-ne0 c =
    explain-refused _ _ _ _ _ c.read-read.ensures c.if-number-ne0.true

pub returns-then-wide-thread : goal.returns-then-wide-thread
returns-then-wide-thread c =
    explain-past _ _ _ _ _ c.read-read.ensures c.if-number-ne0.false (omega (arith, c.wide.ensures, c.if-wide-thread.true))

pub returns-then-not-both : goal.returns-then-not-both
returns-then-not-both c =
    explain-away _ _ _ _ _ c.read-read.ensures c.if-number-ne0.false (omega (arith, c.wide.ensures, c.if-wide-thread.false))
    c.body_at-at.ensures c.walk-w.ensures
    (sym c.both.ensures ∙ c.if-not-both.true)

pub returns : goal.returns
returns c =
    explain-read _ _ _ _ _ c.read-read.ensures c.if-number-ne0.false (omega (arith, c.wide.ensures, c.if-wide-thread.false))
    c.body_at-at.ensures c.walk-w.ensures
    (sym c.both.ensures ∙ c.if-not-both.false) c.print_thread-length.ensures
