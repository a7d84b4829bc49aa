-- `overview::nets::put_register` meets its contract. Assumes nothing.
use borrow.Author.Rules.{rules}
use mathlib.Core.Path.{sym}
use borrow.Author.Tests.{eq-eqb, ne_eqb, lt-ltb, le-ltb}
use Rattle.writing.proofs.Buffer.{puts-nil}
use Rattle.overview.specs.Shown.{register_line}
use Rattle.overview.proofs.nets.put_register.Goals as goal

pub returns-then-registers-k : goal.returns-then-registers-k
unfolding register_line
returns-then-registers-k c =
    rw (le-ltb _ _ c.if-registers-k.true) (sym (puts-nil _))

pub returns-then-n-target : goal.returns-then-n-target
unfolding register_line
returns-then-n-target c =
    rw (lt-ltb _ _ c.if-registers-k.false, eq-eqb _ _ c.if-n-target.true) (sym (puts-nil _))

pub returns : goal.returns
unfolding register_line
returns c =
    rw (lt-ltb _ _ c.if-registers-k.false, ne_eqb _ _ c.if-n-target.false) c.print_entry.ensures
