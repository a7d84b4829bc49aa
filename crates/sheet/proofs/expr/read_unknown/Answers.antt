-- `sheet::expr::read_unknown` meets its contract. Assumes nothing.
use mathlib.Core.Path.{refl}
use Rattle.sheet.proofs.Answers.{byte-read, byte-refused, answer-read, answer-refused}
use Rattle.sheet.proofs.Nodes.{unknown-width, unknown-made}
use Rattle.sheet.proofs.expr.read_unknown.Goals as goal

pub returns-in-Byte : goal.returns-in-Byte
returns-in-Byte c =
    answer-read (unknown-made _ _ _ _ (byte-read c.read_within.ensures c.in-Byte.is)) refl

pub returns-in-Refused : goal.returns-in-Refused
returns-in-Refused c =
    answer-refused (unknown-width _ _ _ _ (byte-refused c.read_within.ensures c.in-Refused.is))
