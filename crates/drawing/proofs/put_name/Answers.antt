-- `drawing::put_name` meets its contract. The loop's invariant: what is still to be put gives the whole. Assumes nothing.
use Prim.Native.Nat.{◌<◌}
use mathlib.Core.Path.{◌∙◌, ap, refl, sym}
use native.Mathlib.Omega.{arith}
use borrow.Author.Rules.{rules}
use lib.ListN.{length}
use Rattle.drawing.specs.Drawing.{escaped, escaped_byte}
use Rattle.naming.proofs.Naming.{get_d-name_of, length-name_of, name_of-past}
use Rattle.naming.specs.Naming.{name_of}
use Rattle.tabulate.proofs.Tabulate.{columns-done, columns-next}
use Rattle.tabulate.specs.Tabulate.{columns}
use Rattle.writing.proofs.Buffer.{puts-nil}
use Rattle.writing.specs.Buffer.{filled, puts}
use Rattle.drawing.proofs.put_name.Goals as goal

pub returns-then-v-ge80 : goal.returns-then-v-ge80
unfolding escaped columns
returns-then-v-ge80 c =
    let a = c.args in
    sym (puts-nil _)
    ∙ ap (λ x. puts (filled a.text.now a.pos) (columns escaped_byte x)) (sym (name_of-past a.names.now a.v c.if-v-ge80.true))

pub loop-i-init : goal.loop-i-init
loop-i-init c =
    let a = c.args in
    let e = length-name_of a.names.now a.v c.if-v-ge80.false in
    (search rules, omega (arith, c.name_length-n.ensures), refl)

pub loop-i-preserved : goal.loop-i-preserved
loop-i-preserved c =
    let a = c.args in
    let l = c.loop-i in
    let t = filled l.text l.p in
    let w = name_of a.names.now a.v in
    let h : l.i < length w = omega (arith, c.name_length-n.ensures, c.loop-i-test.true) in
    let e = get_d-name_of a.names.now a.v l.i c.if-v-ge80.false h in (
      search rules,
      l.invariant.1,
      columns-next escaped_byte t _ w l.i h (c.put_escaped_byte-p.ensures ∙ ap (λ x. puts t (escaped_byte x)) (sym e)) ∙ l.invariant.2,
    )

pub returns : goal.returns
unfolding escaped
returns c =
    let a = c.args in
    let l = c.loop-i in
    let w = name_of a.names.now a.v in
    sym (columns-done escaped_byte (filled l.text l.p) w l.i (omega (arith, c.name_length-n.ensures, c.loop-i-test.false)))
    ∙ l.invariant.2
