-- `explaining::print_points` meets its contract. The loop's invariant: what is still to be printed gives the whole. Assumes nothing.
use borrow.Author.Rules.{rules}
use Prim.Native.Nat.{◌+◌, ◌-◌}
use mathlib.Core.Path.{◌≡◌, ap, ◌∙◌}
use native.Mathlib.Omega.{arith}
use Rattle.writing.specs.Buffer.{filled}
use Rattle.naming.specs.Naming.{name_of}
use Rattle.explaining.specs.Walking.{points_at}
use Rattle.explaining.proofs.Walking.{points-turn, points-end}
use Rattle.explaining.proofs.print_points.Goals as goal

pub loop-k-init : goal.loop-k-init
loop-k-init c =
    let a = c.args in
    let whole : a.n - 0 ≡ a.n = omega arith in (
      search rules,
      ap (λ m. points_at (name_of a.names.now) a.sheet.now a.definitions.now m 1 a.at (filled a.text.now a.pos)) whole,
    )

pub loop-k-preserved : goal.loop-k-preserved
loop-k-preserved c =
    let a = c.args in
    let l = c.loop-k in (
      search rules,
      points-turn (name_of a.names.now) a.sheet.now a.definitions.now a.n l.k a.at (filled l.text l.p)
          c.loop-k-test.true c.print_point-w.ensures
          ∙ l.invariant.1,
    )

pub returns : goal.returns
returns c =
    let a = c.args in
    let l = c.loop-k in
    points-end (name_of a.names.now) a.sheet.now a.definitions.now a.n l.k (l.k + 1) a.at (filled l.text l.p) c.loop-k-test.false
    ∙ l.invariant.1
