-- `saved::bringing::bring_older` meets its contract: the three forms, one after the other. Assumes nothing.
use mathlib.Core.Path.{sym, ◌∙◌}
use Rattle.saved.specs.Older.{taken, older_over}
use Rattle.saved.proofs.bringing.bring_older.Goals as goal

pub returns-then-is_older : goal.returns-then-is_older
unfolding older_over taken
returns-then-is_older c =
    let e = sym c.is_older.ensures ∙ c.if-is_older.true in
    rw (e, c.older_in-state.ensures, c.counters_at-counters.ensures)

pub returns-then-is_older-2 : goal.returns-then-is_older-2
unfolding older_over
returns-then-is_older-2 c =
    let e = sym c.is_older.ensures ∙ c.if-is_older.false in
    let f = sym c.is_older-2.ensures ∙ c.if-is_older-2.true in
    c.admit.ensures
    ∙ rw (e, f, c.older_in-state-then-is_older-2.ensures, c.alone-counters.ensures, c.long_at-count.ensures, c.long_at-time.ensures)

pub returns-then-is_older-3 : goal.returns-then-is_older-3
unfolding older_over
returns-then-is_older-3 c =
    let e = sym c.is_older.ensures ∙ c.if-is_older.false in
    let f = sym c.is_older-2.ensures ∙ c.if-is_older-2.false in
    let d = sym c.is_older-3.ensures ∙ c.if-is_older-3.true in
    c.admit-then-is_older-3.ensures
    ∙ rw (e, f, d, c.older_in-state-then-is_older-3.ensures, c.alone-counters-then-is_older-3.ensures, c.word_at-count.ensures, c.word_at-time.ensures)

pub returns : goal.returns
unfolding older_over
returns c =
    let e = sym c.is_older.ensures ∙ c.if-is_older.false in
    let f = sym c.is_older-2.ensures ∙ c.if-is_older-2.false in
    let d = sym c.is_older-3.ensures ∙ c.if-is_older-3.false in
    rw (e, f, d) c.refused.ensures
