-- Term k, by k.
use mathlib.Core.Path.{sym, ◌∙◌}
use Rattle.pseudocode.specs.Fetching.{term_at}
use Rattle.pseudocode.proofs.Fetching.{term-past}
use Rattle.pseudocode.proofs.term_at.Goals as goal

pub returns-in-0 : goal.returns-in-0
unfolding term_at
returns-in-0 c =
    rw c.in-0.is

pub returns-in-1 : goal.returns-in-1
unfolding term_at
returns-in-1 c =
    rw c.in-1.is

pub returns-in-2 : goal.returns-in-2
unfolding term_at
returns-in-2 c =
    rw c.in-2.is

pub returns-in-3 : goal.returns-in-3
unfolding term_at
returns-in-3 c =
    rw c.in-3.is

pub returns-in-4 : goal.returns-in-4
unfolding term_at
returns-in-4 c =
    rw c.in-4.is

pub returns-in-5 : goal.returns-in-5
unfolding term_at
returns-in-5 c =
    rw c.in-5.is

pub returns-in-6 : goal.returns-in-6
unfolding term_at
returns-in-6 c =
    rw c.in-6.is

pub returns-in-7 : goal.returns-in-7
unfolding term_at
returns-in-7 c =
    rw c.in-7.is

pub returns-in_default : goal.returns-in_default
returns-in_default c =
    let r = c.in_default.in_default-own.rest in
    c.no_term.ensures
    ∙ sym (term-past _ _ r.0.0.0.0.0.0.0.1 r.0.0.0.0.0.0.1 r.0.0.0.0.0.1
    r.0.0.0.0.1 r.0.0.0.1 r.0.0.1 r.0.1 r.1)
