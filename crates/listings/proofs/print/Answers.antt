-- `listings::print` meets its contract: the listing that `list` put, or the line of its refusal. Assumes nothing.
use mathlib.Core.Path.{sym, ap, ◌∙◌}
use native.Mathlib.Omega.{arith}
use mathlib.Core.List.{List}
use Prim.Native.Nat.{ℕ}
use lib.Seq.{sets}
use Rattle.text.specs.Listing.{output}
use Rattle.text.proofs.Length.{length-output}
use Rattle.listings.proofs.Lines.{front_length, front_bytes, output-refused, output-listed}
use Rattle.listings.proofs.print.Goals as goal

pub returns-then-number-ne0 : goal.returns-then-number-ne0
returns-then-number-ne0 c =
    let a = c.args in
    let s = a.sheet.now in
    let g = c.list-l.ensures in
    let o = output-refused s c.list-l.result a.text.now _ g.value g.text_after c.if-number-ne0.true in
    let few = length-output s in
    let n = front_length _ (output s) _ c.print_refusal.ensures (sym o.0) few in
    let b = front_bytes _ (output s) _ c.print_refusal.ensures (sym o.0) few in
    record { value = n; text_after = b ∙ ap (λ (l : List ℕ). sets l 0 (output s)) o.1; upper_bound = omega arith }

pub returns : goal.returns
returns c =
    let a = c.args in
    let g = c.list-l.ensures in
    let o = output-listed a.sheet.now c.list-l.result a.text.now _ g.value g.text_after c.if-number-ne0.false in
    record { value = o.0; text_after = o.1; upper_bound = g.length_bound }
