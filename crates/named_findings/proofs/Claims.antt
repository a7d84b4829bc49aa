-- The waits of a sheet that is read are counted as extraction counts them. Assumes nothing.
use mathlib.Core.Path.{◌≡◌, sym, ap, ◌∙◌}
use mathlib.Core.Bool.{Bool}
use mathlib.Core.List.{List}
use Prim.Native.Nat.{ℕ, ◌+◌, ◌≤◌, ◌<◌}
use native.Mathlib.Omega.{arith}
use lib.ListN.{length, replicate, length-replicate}
use Rattle.sheet.specs.Reading.{ok}
use Rattle.sheet.specs.Expression.{Expr, located}
use Rattle.sheet.specs.Module.{Module, Sheet, read_sheet, read}
use Rattle.sheet.specs.Answers.{sheet_answer, layout_of}
use Rattle.pseudocode.specs.Compiling.{compile_at}
use Rattle.soundness.specs.Soundness.{Sound}
use Rattle.soundness.proofs.Soundness.{sound}
use Rattle.events.specs.Cycle.{code_of}
use Rattle.nextstate.specs.Rules.{waits_before, waits_below}
use Rattle.tables.specs.Readers.{at_most}
use Rattle.tables.proofs.Readers.{at_most-same}
use Rattle.tables.specs.Holding.{Holding}
use Rattle.tables.proofs.Holding.{holding-filled}
use Rattle.rules.specs.Judging.{size_of, waits_in, waits_of}
use Rattle.rules.proofs.Writing.{size-of}
use Rattle.rules.proofs.Expressions.{Expressions, expressed}
use Rattle.rules.proofs.Rules.{size_of-at, low, waits-in, waits-law}
use Rattle.named_findings.specs.Items.{waits_with, waits_under, waits_at}
use Rattle.named_findings.specs.Claims.{WaitsCounted}

module _ {s ds : List ℕ} {m : Module Expr} {starts sizes code readers : List ℕ} {watched : List Bool}
    (z : Sound m) (h : Holding s m starts sizes code readers watched) (e : Expressions s ds m code) where
  with-tables : (i p : ℕ) → i < length m.threads → p ≤ length (code_of m i)
      → waits_with s i p code sizes ≡ waits_below m i + waits_before (code_of m i) p
  unfolding waits_with
  with-tables i p l k =
      let o : i ≤ length m.threads = omega arith in
      let eight : i < 8 = low z h e i l in
      let size : size_of sizes i ≡ length (code_of m i) = size_of-at sizes i eight ∙ size-of z h i l in
      let most : p ≤ size_of sizes i = rw size k in
      let a = ap (waits_of s code sizes) (at_most-same 8 i (omega arith)) ∙ waits-law z h e i o in
      let b = ap (waits_in s code i) (at_most-same (size_of sizes i) p most) ∙ waits-in z h e i l p k in
      λ j. a j + b j

pub waits-counted : WaitsCounted
unfolding WaitsCounted waits_at waits_under sheet_answer layout_of
waits-counted s x m h e i p l k =
    let code : List ℕ = replicate 4096 0 in
    let long : length code ≡ 4096 = length-replicate {A = ℕ} 4096 0 in
    rw h (with-tables (sound s e) (holding-filled s x m h e code long) (expressed s code x m h e long) i p l k)
