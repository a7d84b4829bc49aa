-- `dispatch::records::first_eight` meets its contract: each of the eight is the record at its place.
use Rattle.dispatch.proofs.Planes.{eight-made}
use Rattle.dispatch.proofs.records.first_eight.Goals as goal

pub returns : goal.returns
returns c =
    eight-made _ c.record_at.ensures c.record_at-2.ensures c.record_at-3.ensures c.record_at-4.ensures c.record_at-5.ensures
    c.record_at-6.ensures c.record_at-7.ensures c.record_at-8.ensures
