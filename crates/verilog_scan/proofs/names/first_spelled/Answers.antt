-- `verilog_scan::names::first_spelled` meets its contract. The loop's invariant: the first from `i` on is the first of all.
-- Assumes nothing.
use mathlib.Core.Path.{◌≡◌, sym, ◌∙◌}
use native.Mathlib.Omega.{arith}
use Rattle.verilog_scan.proofs.Spelling.{sought-start, first-here, first_next, first_done}
use Rattle.verilog_scan.proofs.names.first_spelled.Goals as goal

pub loop-i-init : goal.loop-i-init
loop-i-init c =
    sought-start _ _ _

pub returns-then-spelled_so : goal.returns-then-spelled_so
returns-then-spelled_so c =
    let a = c.args in
    let l = c.loop-i in
    let p = c.requires in
    let t = c.loop-i-test in
    let r-spelled-so = c.spelled_so in
    let i1 = c.if-spelled_so in
    first-here a.text.now a.word.now a.starts.now a.names l.i p.1 t.true l.invariant
    (sym r-spelled-so.ensures ∙ i1.true)

pub loop-i-preserved : goal.loop-i-preserved
loop-i-preserved c =
    let a = c.args in
    let l = c.loop-i in
    let p = c.requires in
    let t = c.loop-i-test in
    let r-spelled-so = c.spelled_so in
    let i1 = c.if-spelled_so in
    first_next a.text.now a.word.now a.starts.now a.names l.i p.1 t.true l.invariant
    (sym r-spelled-so.ensures ∙ i1.false)

pub returns : goal.returns
returns c =
    let a = c.args in
    let l = c.loop-i in
    let p = c.requires in
    let t = c.loop-i-test in
    let e : a.names ≡ l.i = omega (arith, l.auto.i-end, t.false) in
    e ∙ first_done a.text.now a.word.now a.starts.now a.names l.i p.1 l.invariant t.false
