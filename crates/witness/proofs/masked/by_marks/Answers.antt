-- `masked::by_marks` meets its contract. Assumes nothing.
use Rattle.witness.specs.Seeking.{by_marks}
use borrow.Author.Rules.{rules}
use Rattle.witness.proofs.masked.by_marks.Goals as goal

pub returns-in-Twice : goal.returns-in-Twice
unfolding by_marks
returns-in-Twice c =
    rw (c.in-Twice.is, ← c.wide-threads.ensures) c.written_twice.ensures

pub returns-in-Writes : goal.returns-in-Writes
unfolding by_marks
returns-in-Writes c =
    rw c.in-Writes.is c.writes.ensures

pub returns-in-OtherWrites : goal.returns-in-OtherWrites
unfolding by_marks
returns-in-OtherWrites c =
    rw c.in-OtherWrites.is c.other_writes.ensures

pub returns-in-Both : goal.returns-in-Both
unfolding by_marks
returns-in-Both c =
    rw (c.in-Both.is, ← c.wide-threads.ensures) c.written_both.ensures

pub returns-in-Plain : goal.returns-in-Plain
unfolding by_marks
returns-in-Plain c =
    rw c.in-Plain.is c.marked.ensures

pub returns-in-Later : goal.returns-in-Later
unfolding by_marks
returns-in-Later c =
    rw c.in-Later.is c.marked-in-Later.ensures

pub returns-in-Shared : goal.returns-in-Shared
unfolding by_marks
returns-in-Shared c =
    rw (c.in-Shared.is, ← c.wide-threads.ensures, ← c.wide-inputs.ensures) c.shared.ensures

pub returns-in-SharedBy : goal.returns-in-SharedBy
unfolding by_marks
returns-in-SharedBy c =
    rw c.in-SharedBy.is c.shared_by.ensures

pub returns-in-OtherReads : goal.returns-in-OtherReads
unfolding by_marks
returns-in-OtherReads c =
    rw (c.in-OtherReads.is, ← c.entry.ensures, ← c.without.ensures) c.has.ensures

pub returns-in-Reads : goal.returns-in-Reads
unfolding by_marks
returns-in-Reads c =
    rw (c.in-Reads.is, ← c.entry-in-Reads.ensures) c.has-in-Reads.ensures

pub returns-in-WireReads : goal.returns-in-WireReads
unfolding by_marks
returns-in-WireReads c =
    rw (c.in-WireReads.is, ← c.entry-in-WireReads.ensures) c.has-in-WireReads.ensures

pub returns-in-Upward : goal.returns-in-Upward
unfolding by_marks
returns-in-Upward c =
    rw c.in-Upward.is c.reads_above.ensures

pub returns-in-Above : goal.returns-in-Above
unfolding by_marks
returns-in-Above c =
    rw (c.in-Above.is, ← c.wide-inputs.ensures, ← c.wide-registers.ensures) c.upward.ensures
