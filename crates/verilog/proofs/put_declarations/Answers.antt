-- `verilog::put_declarations` meets its contract. The loop's invariant: what is still to be put gives the whole. Assumes nothing.
use Prim.Native.Nat.{◌-◌}
use mathlib.Core.Path.{◌≡◌, sym, ◌∙◌, ap}
use native.Mathlib.Omega.{arith}
use borrow.Author.Rules.{rules}
use Rattle.writing.specs.Buffer.{filled, puts}
use Rattle.writing.proofs.Buffer.{puts-nil}
use Rattle.naming.specs.Naming.{name_of}
use Rattle.verilog.specs.Printing.{declarations_at}
use Rattle.verilog.proofs.Printing.{declarations-turn, declarations-end}
use Rattle.verilog.proofs.put_declarations.Goals as goal

pub loop-v-init : goal.loop-v-init
loop-v-init c =
    let a = c.args in
    let whole : a.n - 0 ≡ a.n = omega arith in (
      search rules,
      ap (λ m. puts (filled a.text.now a.pos)
          (declarations_at (name_of a.names.now) a.sheet.now a.inputs a.registers a.first m 0)) whole,
    )

pub loop-v-preserved : goal.loop-v-preserved
loop-v-preserved c =
    let a = c.args in
    let l = c.loop-v in (
      search rules,
      declarations-turn (name_of a.names.now) a.sheet.now a.inputs a.registers a.first a.n l.v _ (filled l.text l.p) _
          c.loop-v-test.true c.byte_at-width.ensures c.put_declaration-p.ensures
          ∙ l.invariant.1,
    )

pub returns : goal.returns
returns c =
    let a = c.args in
    let l = c.loop-v in
    let e = declarations-end (name_of a.names.now) a.sheet.now a.inputs a.registers a.first a.n l.v c.loop-v-test.false in
    sym (puts-nil _) ∙ ap (λ x. puts (filled l.text l.p) x) (sym e) ∙ l.invariant.1
