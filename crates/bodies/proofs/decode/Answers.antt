-- An instruction by the kind in its first word. Assumes nothing.
use mathlib.Core.Path.{sym}
use Rattle.bodies.proofs.Filling.{decode-set, decode-go, decode-rest}
use Rattle.bodies.proofs.decode.Goals as goal

pub returns-in-1 : goal.returns-in-1
returns-in-1 c =
    sym (decode-set c.args.w c.args.x c.in-1.is)

pub returns-in-3 : goal.returns-in-3
returns-in-3 c =
    sym (decode-go c.args.w c.args.x c.in-3.is)

pub returns-in_default : goal.returns-in_default
returns-in_default c =
    let r = c.in_default.in_default-own.rest in
    sym (decode-rest c.args.w c.args.x r.0.1 r.1)
