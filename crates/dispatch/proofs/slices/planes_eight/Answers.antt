-- `dispatch::slices::planes_eight` meets its contract: each of the eight is the record at its place. Assumes nothing.
use Rattle.dispatch.proofs.Planes.{eight-made}
use Rattle.dispatch.proofs.slices.planes_eight.Goals as goal

pub returns : goal.returns
returns c =
    eight-made _ c.plane_at.ensures c.plane_at-2.ensures c.plane_at-3.ensures c.plane_at-4.ensures c.plane_at-5.ensures
    c.plane_at-6.ensures c.plane_at-7.ensures c.plane_at-8.ensures
