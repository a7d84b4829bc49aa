-- `listings::list` meets its contract: a refused sheet leaves the buffer, of every other it takes the lines by the code table.
-- Assumes nothing.
use Rattle.listings.proofs.Lines.{list-refused, list_read}
use Rattle.listings.proofs.list.Goals as goal

pub returns-then-number-ne0 : goal.returns-then-number-ne0
returns-then-number-ne0 c =
    let a = c.args in
    let r = list-refused a.sheet.now c.read-read.result c.read-read.ensures c.if-number-ne0.true a.text.now in
    record { value = r.0; text_after = r.1.0; length_bound = r.1.1 }

pub returns : goal.returns
returns c =
    let a = c.args in
    let r = list_read a.sheet.now c.read-read.result c.read-read.ensures c.if-number-ne0.false a.text.now c.print_listing-length.ensures in
    record { value = r.0; text_after = r.1.0; length_bound = r.1.1 }
