-- `saved::bringing::bring_over` meets its contract: each way through the code is a law of proofs/Ways. Assumes nothing.
use mathlib.Core.Path.{sym, ◌∙◌}
use borrow.Author.Rules.{rules}
use Rattle.saved.specs.Older.{taken}
use Rattle.saved.proofs.Ways.{widths-near, over-refused, over-saved, over-older}
use Rattle.saved.proofs.bringing.bring_over.Goals as goal

pub returns-then-number-ne0 : goal.returns-then-number-ne0
returns-then-number-ne0 c =
    let p = c.args in
    c.refused.ensures
    ∙ over-refused p.sheet.now _ c.read-read.ensures p.bytes.now p.allowances c.if-number-ne0.true

pub returns-then-is_saved : goal.returns-then-is_saved
unfolding taken
returns-then-is_saved c =
    let p = c.args in
    let t = sym c.is_saved.ensures ∙ c.if-is_saved.true in
    rw c.state_in-state.ensures
    (over-saved p.sheet.now _ c.read-read.ensures p.bytes.now p.allowances c.if-number-ne0.false t)

pub widths_in-widths-requires : goal.widths_in-widths-requires
widths_in-widths-requires c =
    let near = widths-near c.args.sheet.now c.read-read.result c.read-read.ensures in
    search (rules, near)

pub overflow_add-first : goal.overflow_add-first
overflow_add-first c =
    let near = widths-near c.args.sheet.now c.read-read.result c.read-read.ensures in
    search (rules, near)

pub widths_in-slots-requires : goal.widths_in-slots-requires
widths_in-slots-requires c =
    let near = widths-near c.args.sheet.now c.read-read.result c.read-read.ensures in
    search (rules, near)

pub returns : goal.returns
returns c =
    let p = c.args in
    let t = sym c.is_saved.ensures ∙ c.if-is_saved.false in
    c.bring_older.ensures
    ∙ over-older p.sheet.now _ c.read-read.ensures p.bytes.now p.allowances _ _ c.if-number-ne0.false t
    c.widths_in-widths.ensures c.widths_in-slots.ensures

-- The widths' place is near the sheet's beginning.
