-- `reasons::put_line` meets its contract. The loop's invariant: the line that is left to find is the one wanted. Assumes nothing.
use Prim.Native.Nat.{◌+◌, ◌-◌, ◌<◌}
use mathlib.Core.Path.{◌≡◌, refl, sym, ap, ◌∙◌}
use native.Mathlib.Omega.{arith}
use borrow.Author.Rules.{rules}
use lib.ListN.{drop}
use Rattle.writing.specs.Buffer.{filled, puts}
use Rattle.reasons.specs.Reasons.{first_line, line_of}
use Rattle.reasons.proofs.Reasons.{line_first, line-next}
use Rattle.reasons.proofs.put_line.Goals as goal

pub loop-init : goal.loop-init
loop-init c =
    let a = c.args in
    let all : a.n - 0 ≡ a.n = omega arith in
    (search rules, ap (λ k. line_of k a.table.now) all)

pub loop-preserved : goal.loop-preserved
loop-preserved c =
    let l = c.loop in
    let table = c.args.table.now in
    let left = c.args.n - l.counter in
    let some : 0 < left = omega (arith, c.loop-test.true) in
    let fewer : c.args.n - (l.counter + 1) ≡ left - 1 = omega arith in (
      search rules,
      ap (λ k. line_of k (drop c.next_line-from.result table)) fewer
          ∙ line-next left (drop l.from table) _ some c.next_line-from.ensures
          ∙ l.invariant.1,
    )

pub returns : goal.returns
returns c =
    let l = c.loop in
    let a = c.args in
    let table = a.table.now in
    let none : a.n - l.counter ≡ 0 = omega (arith, c.loop-test.false) in
    let e : first_line (drop l.from table) ≡ line_of a.n table =
    sym (line_first (drop l.from table)) ∙ ap (λ k. line_of k (drop l.from table)) (sym none) ∙ l.invariant.1 in
    c.put_rest.ensures ∙ ap (λ x. puts (filled a.text.now a.pos) x) e
