-- `sheet::body::read_wires` meets its contract. The table so far, filled up with what is left to read, is the whole answer. Assumes nothing.
use mathlib.Core.Path.{refl, sym, ◌∙◌}
use native.Mathlib.Nat.{sub-zero}
use native.Mathlib.Omega.{arith}
use lib.ListN.{length-set}
use Rattle.sheet.specs.Parts.{scope_of, outlines}
use Rattle.sheet.proofs.Answers.{expr-read, expr-refused}
use Rattle.sheet.proofs.Nodes.{located-kept}
use Rattle.sheet.proofs.Sections.{wires-done, wires-expr, wires-apart, wires-more}
use Rattle.sheet.proofs.body.read_wires.Goals as goal

pub loop-k-init : goal.loop-k-init
loop-k-init c =
    (refl, omega arith, rw sub-zero)

pub returns-in-Refused : goal.returns-in-Refused
returns-in-Refused c =
    wires-expr _ _ _ _ _ _ _ c.loop-k-test.true (expr-refused (c.located-e.ensures _ _) c.in-Refused.is) ∙ sym c.loop-k.invariant.2

pub returns-then-width-byte_at : goal.returns-then-width-byte_at
returns-then-width-byte_at c =
    let e = (expr-read (c.located-e.ensures c.args.inputs c.args.registers) c.in-Read.is).1 in
    wires-apart _ _ _ _ _ _ _ c.loop-k-test.true e (λ h. c.if-width-byte_at.true (h ∙ sym c.byte_at.ensures)) ∙ sym c.loop-k.invariant.2

pub loop-k-preserved : goal.loop-k-preserved
loop-k-preserved c =
    let e = (expr-read (c.located-e.ensures c.args.inputs c.args.registers) c.in-Read.is).1 in
    let more = wires-more _ _ _ _ _ _ _ c.loop-k-test.true e (located-kept _ _ _ e).place (c.if-width-byte_at.false ∙ c.byte_at.ensures) in
    (simp length-set c.loop-k.invariant.0, omega arith, c.loop-k.invariant.2 ∙ more)

pub returns : goal.returns
returns c =
    let a = c.args in
    let l = c.loop-k in
    let scope = scope_of a.inputs a.registers a.widths.now a.declared (outlines a.sheet.now a.definitions.now a.declared) in
    wires-done scope a.sheet.now l.starts a.count l.k l.variable l.place c.loop-k-test.false ∙ sym l.invariant.2
