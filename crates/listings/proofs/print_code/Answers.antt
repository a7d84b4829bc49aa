-- `listings::print_code` meets its contract. The loop's invariant: what is still to be put gives the whole. Assumes nothing.
use mathlib.Core.Path.{sym, ◌∙◌, ap}
use borrow.Author.Rules.{rules}
use Rattle.writing.specs.Buffer.{filled, puts}
use Rattle.text.specs.Listing.{show_line}
use Rattle.text.specs.Printing.{text_at, instr_of}
use Rattle.writing.proofs.Buffer.{puts-nil}
use Rattle.listings.specs.Lines.{code_lines}
use Rattle.listings.proofs.Lines.{sub-zero, code-turn, code-end}
use Rattle.listings.proofs.print_code.Goals as goal

pub loop-place-init : goal.loop-place-init
loop-place-init c =
    let a = c.args in
    (search rules, ap (λ n. puts (filled a.text.now a.pos) (code_lines a.sheet.now a.definitions.now a.code.now a.thread n 0)) (sub-zero a.size))

pub loop-place-preserved : goal.loop-place-preserved
loop-place-preserved c =
    let l = c.loop-place in
    let a = c.args in
    let line = show_line (text_at a.sheet.now a.definitions.now) a.thread l.place in
    let e = c.print_line-p.ensures ∙ ap (λ i. puts (filled l.text l.p) (line (instr_of i))) c.fetch-i.ensures in (
      search rules,
      code-turn a.sheet.now a.definitions.now a.code.now a.thread a.size l.place (filled l.text l.p) _ c.loop-place-test.true e
          ∙ l.invariant.1,
    )

pub returns : goal.returns
returns c =
    let l = c.loop-place in
    let a = c.args in
    let e = code-end a.sheet.now a.definitions.now a.code.now a.thread a.size l.place c.loop-place-test.false in
    sym (puts-nil _) ∙ ap (λ x. puts (filled l.text l.p) x) (sym e) ∙ l.invariant.1
