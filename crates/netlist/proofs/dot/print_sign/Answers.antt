-- `netlist::dot::print_sign` meets its contract. Assumes nothing.
use mathlib.Core.Path.{sym, ap, ◌∙◌}
use Rattle.writing.specs.Ascii.{ascii}
use Rattle.writing.specs.Buffer.{puts}
use Rattle.writing.proofs.Buffer.{puts-nil}
use Rattle.signs.specs.Signs.{sign}
use Rattle.signs.proofs.Signs.{sign-none}
use Rattle.netlist.specs.Dot.{unblanked}
use borrow.Author.Rules.{rules}
use Rattle.netlist.proofs.dot.print_sign.Goals as goal

pub returns-in-1 : goal.returns-in-1
unfolding sign ascii unblanked
returns-in-1 c =
    rw c.in-1.is c.put_byte.ensures

pub returns-in-2 : goal.returns-in-2
unfolding sign ascii unblanked
returns-in-2 c =
    rw c.in-2.is c.put_byte-in-2.ensures

pub returns-in-3 : goal.returns-in-3
unfolding sign ascii unblanked
returns-in-3 c =
    rw c.in-3.is c.put_byte-in-3.ensures

pub returns-in-4 : goal.returns-in-4
unfolding sign ascii unblanked
returns-in-4 c =
    rw c.in-4.is c.put_byte-in-4.ensures

pub returns-in-5 : goal.returns-in-5
unfolding sign ascii unblanked
returns-in-5 c =
    rw c.in-5.is c.put_byte-in-5.ensures

pub returns-in-6 : goal.returns-in-6
unfolding sign ascii unblanked
returns-in-6 c =
    rw c.in-6.is c.put_byte-in-6.ensures

pub returns-in-7 : goal.returns-in-7
unfolding sign ascii unblanked
returns-in-7 c =
    rw c.in-7.is c.put_byte-in-7.ensures

pub returns-in-8 : goal.returns-in-8
unfolding sign ascii unblanked
returns-in-8 c =
    rw c.in-8.is c.put_word.ensures

pub returns-in-9 : goal.returns-in-9
unfolding sign ascii unblanked
returns-in-9 c =
    rw c.in-9.is c.put_byte-in-9.ensures

pub returns-in_default : goal.returns-in_default
unfolding unblanked
returns-in_default c =
    let r = c.in_default.in_default-own.rest in
    let l = r.0.0.0.0 in
    let none =
    sign-none _ l.0.0.0.0.1 l.0.0.0.1 l.0.0.1 l.0.1 l.1 r.0.0.0.1 r.0.0.1 r.0.1 r.1 in
    sym (puts-nil _) ∙ ap (puts _) (ap unblanked (sym none))
