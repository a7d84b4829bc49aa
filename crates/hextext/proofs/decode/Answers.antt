-- `hextext::decode` meets its contract. The loop's invariant: the scan from `i` on ends where the whole does, and the bytes that are
-- still to come, stored behind those that are there, give the whole. Assumes nothing.
use native.Mathlib.Omega.{arith}
use mathlib.Core.Path.{sym, ap, ◌∙◌}
use mathlib.Core.List.{List}
use Prim.Native.Nat.{ℕ, ◌+◌}
use lib.ListN.{get_or, drop}
use lib.Seq.{sets}
use Rattle.hextext.specs.declared.Scan.{Scan}
use Rattle.hextext.specs.Scanning.{start, scan}
use Rattle.hextext.specs.Decoding.{full, bytes_from, bytes_of, stored, ending, decoded}
use Rattle.hextext.proofs.Scanning.{scan-stopped, scan-turn, scan-done}
use Rattle.hextext.proofs.Decoding.{bytes-stopped, bytes-turn, bytes-done}
use Rattle.hextext.proofs.decode.Goals as goal

pub loop-b-init : goal.loop-b-init
unfolding start
loop-b-init c =
    let a = c.args in (
      omega arith,
      ap (λ (x : Scan). scan full x a.text.now) c.start-s.ensures,
      ap (λ (x : Scan). sets a.bytes.now x.count (bytes_from x a.text.now)) c.start-s.ensures,
    )

pub returns-then-full : goal.returns-then-full
unfolding decoded bytes_of
returns-then-full c =
    let a = c.args in
    let t = sym c.full.ensures ∙ c.if-full.true in (
      c.ending.ensures ∙ ap ending (sym (scan-stopped full c.loop-b.s (drop c.loop-b.b-index a.text.now) t) ∙ c.loop-b.invariant.1),
      sym (ap (λ (x : List ℕ). sets c.loop-b.bytes c.loop-b.s.count x) (bytes-stopped c.loop-b.s (drop c.loop-b.b-index a.text.now) t))
          ∙ c.loop-b.invariant.2,
    )

pub loop-b-preserved : goal.loop-b-preserved
loop-b-preserved c =
    let a = c.args in
    let s = c.loop-b.s in
    let text = a.text.now in
    let i = c.loop-b.b-index in
    let j = c.loop-b-test.true in
    let t = sym c.full.ensures ∙ c.if-full.false in (
      omega arith,
      ap (λ (x : Scan). scan full x (drop (i + 1) text)) c.step-s.ensures ∙ sym (scan-turn full s text i j t) ∙ c.loop-b.invariant.1,
      ap (λ (x : List ℕ). sets x c.step-s.result.count (bytes_from c.step-s.result (drop (i + 1) text))) c.store.ensures
          ∙ ap (λ (x : Scan). sets (stored c.loop-b.bytes s (get_or text i 0)) x.count (bytes_from x (drop (i + 1) text))) c.step-s.ensures
          ∙ bytes-turn s c.loop-b.bytes text i j t
          ∙ c.loop-b.invariant.2,
    )

pub returns : goal.returns
unfolding decoded bytes_of
returns c =
    let a = c.args in
    let j = c.loop-b-test.false in (
      c.ending-2.ensures ∙ ap ending (sym (scan-done full c.loop-b.s a.text.now c.loop-b.b-index j) ∙ c.loop-b.invariant.1),
      sym (ap (λ (x : List ℕ). sets c.loop-b.bytes c.loop-b.s.count x) (bytes-done c.loop-b.s a.text.now c.loop-b.b-index j))
          ∙ c.loop-b.invariant.2,
    )
