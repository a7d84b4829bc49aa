-- `sheet::stmt::read_wait` meets its contract: each way through the code is a law of proofs/Forms. Assumes nothing.
use mathlib.Core.Path.{refl, sym, ◌∙◌}
use native.Mathlib.Omega.{arith}
use Rattle.sheet.specs.Statement.{size}
use Rattle.sheet.proofs.Reading.{within-ok}
use Rattle.sheet.proofs.Answers.{byte-read, byte-refused, terms-read, terms-refused, answer-stmt, answer-stmt-refused}
use Rattle.sheet.proofs.Forms.{wait-count, wait-terms, wait-wide, wait-made}
use Rattle.sheet.proofs.stmt.read_wait.Goals as goal

pub returns-in-Refused : goal.returns-in-Refused
returns-in-Refused c =
    answer-stmt-refused (wait-count _ _ _ _ _ (byte-refused c.read_within-read.ensures c.in-Refused.is))

pub overflow_add-result : goal.overflow_add-result
overflow_add-result c =
    omega arith

pub overflow_mul-result : goal.overflow_mul-result
overflow_mul-result c =
    omega (arith, (within-ok _ _ _ _ _ (byte-read c.read_within-read.ensures c.in-Byte.is)).most)

pub overflow_add-result-then-narrow : goal.overflow_add-result-then-narrow
overflow_add-result-then-narrow c =
    omega (arith, (within-ok _ _ _ _ _ (byte-read c.read_within-read.ensures c.in-Byte.is)).most)

pub returns-in-Refused-read_terms : goal.returns-in-Refused-read_terms
returns-in-Refused-read_terms c =
    let k = byte-read c.read_within-read.ensures c.in-Byte.is in
    answer-stmt-refused (wait-terms _ _ _ _ _ k (terms-refused _ c.read_terms.ensures c.in-Refused-read_terms.is))

pub returns-then-narrow : goal.returns-then-narrow
unfolding size
returns-then-narrow c =
    let k = byte-read c.read_within-read.ensures c.in-Byte.is in
    let t = terms-read _ c.read_terms.ensures c.in-Read.is in
    answer-stmt (wait-made _ _ _ _ _ k t.1 (sym t.2 ∙ c.if-narrow.true)) refl

pub returns-else-narrow : goal.returns-else-narrow
returns-else-narrow c =
    let k = byte-read c.read_within-read.ensures c.in-Byte.is in
    let t = terms-read _ c.read_terms.ensures c.in-Read.is in
    answer-stmt-refused (wait-wide _ _ _ _ _ k t.1 (sym t.2 ∙ c.if-narrow.false))
