-- `verilog::put_terms` meets its contract. The loop's invariant: what is still to be put gives the whole. Assumes nothing.
use Prim.Native.Nat.{◌-◌}
use mathlib.Core.Path.{◌≡◌, sym, ◌∙◌, ap}
use native.Mathlib.Omega.{arith}
use borrow.Author.Rules.{rules}
use Rattle.writing.specs.Buffer.{filled, puts}
use Rattle.writing.proofs.Buffer.{puts-nil}
use Rattle.naming.specs.Naming.{name_of}
use Rattle.verilog.specs.Printing.{terms_at}
use Rattle.verilog.proofs.Printing.{inside-below, inside-min, terms-inside, terms-turn, terms-end}
use Rattle.verilog.proofs.put_terms.Goals as goal

pub loop-k-init : goal.loop-k-init
loop-k-init c =
    let a = c.args in
    let s = a.sheet.now in
    let name = name_of a.names.now in
    let start = c.min-start.ensures ∙ inside-min s a.at in
    let whole : a.n - 0 ≡ a.n = omega arith in (
      search rules,
      search rules,
      omega (arith, start, inside-below s a.at),
      ap (puts (filled a.text.now a.pos))
          ((λ j. terms_at name s (whole j) 0 (start j)) ∙ terms-inside name s a.n a.at),
    )

pub loop-k-preserved : goal.loop-k-preserved
loop-k-preserved c =
    let a = c.args in
    let l = c.loop-k in (
      search rules,
      search rules,
      search rules,
      terms-turn (name_of a.names.now) a.sheet.now a.n l.k l.q
          (filled l.text l.p) _ c.loop-k-test.true c.put_term-p.ensures
          ∙ l.invariant.3,
    )

pub returns : goal.returns
returns c =
    let a = c.args in
    let l = c.loop-k in
    let e = terms-end (name_of a.names.now) a.sheet.now a.n l.k l.q c.loop-k-test.false in
    sym (puts-nil _) ∙ ap (λ x. puts (filled l.text l.p) x) (sym e) ∙ l.invariant.3
