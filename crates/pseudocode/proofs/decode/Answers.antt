-- An instruction by the kind in its first word.
use mathlib.Core.Path.{sym}
use Rattle.pseudocode.proofs.Fetching.{decode-wait, decode-set, decode-later, decode-go, decode-rest}
use Rattle.pseudocode.proofs.decode.Goals as goal

pub returns-in-0 : goal.returns-in-0
returns-in-0 c =
    let a = c.args in
    rw (decode-wait a.sheet.now a.w a.x c.in-0.is, c.terms_at.ensures)

pub returns-in-1 : goal.returns-in-1
returns-in-1 c =
    let a = c.args in
    sym (decode-set a.sheet.now a.w a.x c.in-1.is)

pub returns-in-2 : goal.returns-in-2
returns-in-2 c =
    let a = c.args in
    sym (decode-later a.sheet.now a.w a.x c.in-2.is)

pub returns-in-3 : goal.returns-in-3
returns-in-3 c =
    let a = c.args in
    sym (decode-go a.sheet.now a.w a.x c.in-3.is)

pub returns-in_default : goal.returns-in_default
returns-in_default c =
    let a = c.args in
    let r = c.in_default.in_default-own.rest in
    sym (decode-rest a.sheet.now a.w a.x r.0.0.0.1 r.0.0.1 r.0.1 r.1)
