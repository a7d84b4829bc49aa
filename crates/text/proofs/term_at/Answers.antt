-- `text::term_at` meets its contract. Assumes nothing.
use mathlib.Core.Path.{sym}
use Rattle.pseudocode.specs.Instruction.{no_term}
use Rattle.text.specs.Printing.{all_terms}
use Rattle.text.proofs.Printing.{term-none}
use Rattle.text.proofs.term_at.Goals as goal

pub returns-in-0 : goal.returns-in-0
unfolding all_terms
returns-in-0 c =
    rw c.in-0.is

pub returns-in-1 : goal.returns-in-1
unfolding all_terms
returns-in-1 c =
    rw c.in-1.is

pub returns-in-2 : goal.returns-in-2
unfolding all_terms
returns-in-2 c =
    rw c.in-2.is

pub returns-in-3 : goal.returns-in-3
unfolding all_terms
returns-in-3 c =
    rw c.in-3.is

pub returns-in-4 : goal.returns-in-4
unfolding all_terms
returns-in-4 c =
    rw c.in-4.is

pub returns-in-5 : goal.returns-in-5
unfolding all_terms
returns-in-5 c =
    rw c.in-5.is

pub returns-in-6 : goal.returns-in-6
unfolding all_terms
returns-in-6 c =
    rw c.in-6.is

pub returns-in-7 : goal.returns-in-7
unfolding all_terms
returns-in-7 c =
    rw c.in-7.is

pub returns-in_default : goal.returns-in_default
unfolding no_term
returns-in_default c =
    let r = c.in_default.in_default-own.rest in
    let l = r.0.0.0.0 in
    sym
    (term-none c.args.t c.args.k l.0.0.0.1 l.0.0.1 l.0.1 l.1
    r.0.0.0.1 r.0.0.1 r.0.1 r.1)
