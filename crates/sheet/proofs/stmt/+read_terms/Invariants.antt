-- `sheet::stmt::read_terms` meets its contract: each way through the code is a law of proofs/Forms.
-- The measure is the number of pairs left. Assumes nothing.
use Rattle.sheet.proofs.stmt.+read_terms.Given as goal

abbrev pub decreases-read_terms : goal.decreases-read_terms
decreases-read_terms l = l.count
