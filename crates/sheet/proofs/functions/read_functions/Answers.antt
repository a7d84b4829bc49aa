-- `sheet::functions::read_functions` meets its contract. The table so far, filled up with what is left to read, is the whole answer. Assumes nothing.
use mathlib.Core.Path.{refl, sym, ◌∙◌}
use Prim.Native.Nat.{◌+◌, ◌-◌}
use native.Mathlib.Nat.{sub-zero}
use native.Mathlib.Omega.{arith}
use lib.ListN.{set, length-set}
use Rattle.sheet.specs.Functions.{read_functions}
use Rattle.sheet.specs.Parts.{outlines, defined}
use Rattle.sheet.proofs.Outlines.{functions-done, functions-refused, functions_more, function-read, function-refused}
use Rattle.sheet.proofs.functions.read_functions.Goals as goal

pub loop-k-init : goal.loop-k-init
unfolding outlines
loop-k-init c =
    (refl, rw sub-zero)

pub returns-in-Refused : goal.returns-in-Refused
returns-in-Refused c =
    functions-refused _ _ _ _ _ _ c.loop-k-test.true (function-refused c.read_function-f.ensures c.in-Refused.is) ∙ sym c.loop-k.invariant.1

pub loop-k-preserved : goal.loop-k-preserved
loop-k-preserved c =
    let s = c.args.sheet.now in
    let n = c.args.count in
    let l = c.loop-k in
    let size = l.invariant.0 in
    let f = function-read c.read_function-f.ensures c.in-At.is in
    let more = functions_more s n l.definitions n l.k l.place c.loop-k-test.true (omega (arith, c.loop-k-test.true, c.requires)) size f.1 in
    (simp length-set size, l.invariant.1 ∙ more ∙ (λ i. defined (set l.definitions l.k l.place) (l.k + 1) (read_functions n (n - (l.k + 1)) (outlines s (set l.definitions l.k l.place) (l.k + 1)) s (f.2 i))))

pub returns : goal.returns
returns c =
    let l = c.loop-k in
    functions-done c.args.sheet.now c.args.count l.definitions c.args.count l.k l.place c.loop-k-test.false ∙ sym l.invariant.1
