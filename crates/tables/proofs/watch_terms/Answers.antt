-- `tables::watch_terms` meets its contract. The loop's invariant: the terms below `k` are marked. Assumes nothing.
use borrow.Author.Rules.{rules}
use mathlib.Core.Path.{◌≡◌, ap, ◌∙◌}
use Prim.Native.Nat.{ℕ}
use native.Mathlib.Omega.{arith}
use Rattle.tables.specs.Readers.{watch_terms}
use Rattle.tables.proofs.Readers.{terms-none, terms-turn}
use Rattle.tables.proofs.watch_terms.Goals as goal

pub returns : goal.returns
returns c =
    let a = c.args in
    let l = c.loop-k in
    let e : l.k ≡ a.n = omega arith in
    l.invariant.1 ∙ ap (λ (n : ℕ). watch_terms a.t n a.watched.now) e

pub loop-k-preserved : goal.loop-k-preserved
loop-k-preserved c =
    let a = c.args in
    let l = c.loop-k in
    (omega arith, terms-turn a.t l.k a.watched.now l.invariant.1 c.term_at-term.ensures c.watch_variable.ensures)

pub loop-k-init : goal.loop-k-init
loop-k-init c =
    (search rules, terms-none c.args.t c.args.watched.now)
