-- The plain run stores each wire at most once between changes (`plain-run`), in a module that extraction accepts.
use Rattle.soundness.proofs.Soundness.{sound}
use Rattle.nextstate.proofs.Numbers.{accepted, extracted-rule}
use Rattle.nextstate.proofs.Ruled.{ruled}
use Rattle.settling.proofs.Plain.{plain-stores}
use Rattle.order.specs.PlainRun.{PlainRun}

pub plain-run : PlainRun
plain-run s ns rs h who l st shaped n =
    let A = accepted s ns rs h in
    let m = A.contents in
    let u = ruled m (sound s A.reads) (extracted-rule m A.extracts) in
    record { m = m; reads = A.reads; once = λ f. plain-stores s m A.reads u who l st shaped f n }
