-- `listings::print_listing` meets its contract: the head, then the lines of the threads, from the table that `compile` filled.
-- Assumes nothing.
use Rattle.writing.specs.Buffer.{filled}
use Rattle.listings.proofs.Lines.{listing-path}
use Rattle.listings.proofs.print_listing.Goals as goal

pub returns : goal.returns
returns c =
    let a = c.args in
    listing-path a.sheet.now a.definitions.now a.threads a.body (filled a.text.now 0) _ _ c.compile-sizes.ensures.value c.compile-sizes.ensures.code_after c.print_head-p.ensures c.print_threads.ensures
