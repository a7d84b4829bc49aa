-- `witness::judged` meets its contract. Assumes nothing.
use mathlib.Core.Path.{sym, ap, ◌∙◌}
use Prim.Native.Nat.{ℕ}
use Rattle.rules.specs.Judging.{two_writers_at, both_ways_at, plainly_shared_at}
use Rattle.witness.specs.Seeking.{witness_at}
use borrow.Author.Rules.{rules}
use Rattle.witness.proofs.judged.Goals as goal

pub returns-then-two_writers : goal.returns-then-two_writers
unfolding witness_at
returns-then-two_writers c =
    let a = c.args in
    rw (sym (c.two_writers.ensures ∙ λ j. two_writers_at a.plain.now a.later.now (c.wide-threads.ensures j) (c.wide-registers.ensures j)) ∙ c.if-two_writers.true) c.double_written.ensures

pub returns-then-both_ways : goal.returns-then-both_ways
unfolding witness_at
returns-then-both_ways c =
    let a = c.args in
    rw (
      sym (c.two_writers.ensures ∙ λ j. two_writers_at a.plain.now a.later.now (c.wide-threads.ensures j) (c.wide-registers.ensures j)) ∙ c.if-two_writers.false,
      sym (c.both_ways.ensures ∙ λ j. both_ways_at a.plain.now a.later.now (c.wide-threads.ensures j) (c.wide-registers.ensures j)) ∙ c.if-both_ways.true,
    )
    c.written_both_ways.ensures

pub returns-then-plainly_shared : goal.returns-then-plainly_shared
unfolding witness_at
returns-then-plainly_shared c =
    let a = c.args in
    rw (
      sym (c.two_writers.ensures ∙ λ j. two_writers_at a.plain.now a.later.now (c.wide-threads.ensures j) (c.wide-registers.ensures j)) ∙ c.if-two_writers.false,
      sym (c.both_ways.ensures ∙ λ j. both_ways_at a.plain.now a.later.now (c.wide-threads.ensures j) (c.wide-registers.ensures j)) ∙ c.if-both_ways.false,
      sym (c.plainly_shared.ensures ∙ ap (λ (n : ℕ). plainly_shared_at a.plain.now a.reading.now a.readers.now n a.layout.inputs a.layout.registers) c.wide-threads.ensures) ∙ c.if-plainly_shared.true,
    )
    c.shared_register.ensures

pub returns : goal.returns
unfolding witness_at
returns c =
    let a = c.args in
    rw (
      sym (c.two_writers.ensures ∙ λ j. two_writers_at a.plain.now a.later.now (c.wide-threads.ensures j) (c.wide-registers.ensures j)) ∙ c.if-two_writers.false,
      sym (c.both_ways.ensures ∙ λ j. both_ways_at a.plain.now a.later.now (c.wide-threads.ensures j) (c.wide-registers.ensures j)) ∙ c.if-both_ways.false,
      sym (c.plainly_shared.ensures ∙ ap (λ (n : ℕ). plainly_shared_at a.plain.now a.reading.now a.readers.now n a.layout.inputs a.layout.registers) c.wide-threads.ensures) ∙ c.if-plainly_shared.false,
    )
    c.higher.ensures
