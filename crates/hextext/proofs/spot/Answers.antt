-- `hextext::spot` meets its contract. The loop's invariant: the scan from `i` on ends where the whole does.
-- Assumes nothing.
use native.Mathlib.Omega.{arith}
use mathlib.Core.Path.{sym, ap, ◌∙◌}
use Prim.Native.Nat.{◌+◌}
use lib.ListN.{drop}
use Rattle.hextext.specs.declared.Scan.{Scan}
use Rattle.hextext.specs.Scanning.{scan}
use Rattle.hextext.specs.Decoding.{found, spotted, spot_of}
use Rattle.hextext.proofs.Scanning.{scan-stopped, scan-turn, scan-done}
use Rattle.hextext.proofs.spot.Goals as goal

pub loop-b-init : goal.loop-b-init
loop-b-init c =
    let a = c.args in
    (omega arith, ap (λ (x : Scan). scan (found a.n) x a.text.now) c.start-s.ensures)

pub returns-then-found : goal.returns-then-found
unfolding spot_of
returns-then-found c =
    let a = c.args in
    c.spotted.ensures
    ∙ ap spotted
    (sym (scan-stopped (found a.n) c.loop-b.s (drop c.loop-b.b-index a.text.now) (sym c.found.ensures ∙ c.if-found.true))
    ∙ c.loop-b.invariant.1)

pub loop-b-preserved : goal.loop-b-preserved
loop-b-preserved c =
    let a = c.args in (
      omega arith,
      ap (λ (x : Scan). scan (found a.n) x (drop (c.loop-b.b-index + 1) a.text.now)) c.step-s.ensures
          ∙ sym
          (scan-turn (found a.n) c.loop-b.s a.text.now c.loop-b.b-index c.loop-b-test.true
          (sym c.found.ensures ∙ c.if-found.false))
          ∙ c.loop-b.invariant.1,
    )

pub returns : goal.returns
unfolding spot_of
returns c =
    let a = c.args in
    c.spotted-2.ensures
    ∙ ap spotted (sym (scan-done (found a.n) c.loop-b.s a.text.now c.loop-b.b-index c.loop-b-test.false) ∙ c.loop-b.invariant.1)
