-- `verilog_items::names::range_width` meets its contract. Assumes nothing.
use borrow.Author.Rules.{rules}
use mathlib.Core.Path.{refl, sym, ◌∙◌}
use Prim.Native.Nat.{◌+◌}
use native.Mathlib.Omega.{arith}
use borrow.Author.Tests.{not-true, not-false, le-leb, lt-leb}
use Rattle.verilog_grammar.specs.Meaning.{up_to}
use Rattle.verilog_items.specs.Items.{range_width}
use Rattle.verilog_items.proofs.names.range_width.Goals as goal

pub returns-then-not-is_next : goal.returns-then-not-is_next
unfolding range_width
returns-then-not-is_next c =
    rw (sym c.is_next.ensures ∙ c.if-not-is_next.true) refl

pub returns-then-n-lt32 : goal.returns-then-n-lt32
unfolding range_width up_to
returns-then-n-lt32 c =
    rw (sym c.is_next.ensures ∙ c.if-not-is_next.false, ← c.after.ensures, ← c.number_at-n.ensures, le-leb (c.number_at-n.result + 1) 32 (omega (arith, c.if-n-lt32.true))) refl

pub returns : goal.returns
unfolding range_width up_to
returns c =
    rw (sym c.is_next.ensures ∙ c.if-not-is_next.false, ← c.after.ensures, ← c.number_at-n.ensures, lt-leb (c.number_at-n.result + 1) 32 (omega (arith, c.if-n-lt32.false))) refl
