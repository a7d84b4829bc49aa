-- `sheet::expr::read_variable` meets its contract. Assumes nothing.
use Rattle.sheet.proofs.Answers.{byte-read, byte-refused, answer-read, answer-refused}
use Rattle.sheet.proofs.Nodes.{variable-name, variable-made}
use Rattle.sheet.proofs.expr.read_variable.Goals as goal

pub returns-in-Byte : goal.returns-in-Byte
returns-in-Byte c =
    answer-read (variable-made _ _ _ _ (byte-read c.read_name.ensures c.in-Byte.is)) c.byte_at.ensures

pub returns-in-Refused : goal.returns-in-Refused
returns-in-Refused c =
    answer-refused (variable-name _ _ _ _ (byte-refused c.read_name.ensures c.in-Refused.is))
