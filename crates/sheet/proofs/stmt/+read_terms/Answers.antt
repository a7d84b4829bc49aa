-- `sheet::stmt::read_terms` meets its contract: each way through the code is a law of proofs/Forms.
-- The measure is the number of pairs left. Assumes nothing.
use mathlib.Core.Path.{refl, sym, ◌∙◌}
use native.Mathlib.Omega.{arith}
use Rattle.sheet.specs.Statement.{narrow_all}
use Rattle.sheet.proofs.Reading.{within-ok}
use Rattle.sheet.proofs.Answers.{byte-read, byte-refused, terms-read, terms-refused, answer-terms, answer-terms-refused}
use Rattle.sheet.proofs.Forms.{terms-none, terms-edge, terms-variable, terms-rest, terms-made, narrow-more, wide-more}
use Rattle.sheet.proofs.stmt.+read_terms.Goals as goal

pub returns-then-count-eq0 : goal.returns-then-count-eq0
unfolding narrow_all
returns-then-count-eq0 t c =
    answer-terms _ (terms-none _ _ _ _ c.if-count-eq0.true) refl

pub returns-in-Refused : goal.returns-in-Refused
returns-in-Refused t c =
    answer-terms-refused _ (terms-edge _ _ _ _ c.if-count-eq0.false (byte-refused c.read_within-first.ensures c.in-Refused.is))

pub overflow_add-at : goal.overflow_add-at
overflow_add-at t c =
    omega (arith, (within-ok _ _ _ _ _ (byte-read c.read_within-first.ensures c.in-Byte.is)).below)

pub returns-in-Refused-second : goal.returns-in-Refused-second
returns-in-Refused-second t c =
    let e = byte-read c.read_within-first.ensures c.in-Byte.is in
    answer-terms-refused _ (terms-variable _ _ _ _ c.if-count-eq0.false e (byte-refused c.read_name-second.ensures c.in-Refused-second.is))

pub overflow_add-at-2 : goal.overflow_add-at-2
overflow_add-at-2 t c =
    omega (arith, (within-ok _ _ _ _ _ (byte-read c.read_within-first.ensures c.in-Byte.is)).below)

pub returns-in_default : goal.returns-in_default
returns-in_default t c =
    let e = byte-read c.read_within-first.ensures c.in-Byte.is in
    let v = byte-read c.read_name-second.ensures c.in-Byte-second.is in
    let told = c.in_default.is in
    told ∙ answer-terms-refused _ (terms-rest _ _ _ _ c.if-count-eq0.false e v (terms-refused _ c.read_terms-rest.ensures told))

pub returns-then-narrow : goal.returns-then-narrow
returns-then-narrow t c =
    let e = byte-read c.read_within-first.ensures c.in-Byte.is in
    let v = byte-read c.read_name-second.ensures c.in-Byte-second.is in
    let r = terms-read _ c.read_terms-rest.ensures c.in-Read.is in
    answer-terms _ (terms-made _ _ _ _ c.if-count-eq0.false e v r.1 c.before.before.edge_of.ensures) (narrow-more _ _ _ (sym c.narrow.ensures ∙ c.if-narrow.true) r.2)

pub returns-else-narrow : goal.returns-else-narrow
returns-else-narrow t c =
    let e = byte-read c.read_within-first.ensures c.in-Byte.is in
    let v = byte-read c.read_name-second.ensures c.in-Byte-second.is in
    let r = terms-read _ c.read_terms-rest.ensures c.in-Read.is in
    rw c.if-narrow.false
    (answer-terms _ (terms-made _ _ _ _ c.if-count-eq0.false e v r.1 c.before.before.edge_of.ensures) (wide-more _ _ _ (sym c.narrow.ensures ∙ c.if-narrow.false)))
