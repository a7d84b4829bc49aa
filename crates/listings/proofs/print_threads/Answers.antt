-- `listings::print_threads` meets its contract. The loop's invariant: what is still to be put gives the whole. Assumes nothing.
use mathlib.Core.Path.{sym, ◌∙◌, ap}
use borrow.Author.Rules.{rules}
use Rattle.writing.specs.Buffer.{filled, puts}
use Rattle.writing.proofs.Buffer.{puts-nil}
use Rattle.listings.specs.Lines.{code_lines, thread_lines}
use Rattle.listings.proofs.Lines.{sub-zero, thread-turn, thread-end}
use Rattle.listings.proofs.print_threads.Goals as goal

pub loop-thread-init : goal.loop-thread-init
loop-thread-init c =
    let a = c.args in
    (search rules, ap (λ n. puts (filled a.text.now a.pos) (thread_lines a.sheet.now a.definitions.now a.code.now a.sizes n 0)) (sub-zero a.threads))

pub loop-thread-preserved : goal.loop-thread-preserved
loop-thread-preserved c =
    let l = c.loop-thread in
    let a = c.args in
    let e = c.print_code-p.ensures ∙ ap (λ n. puts (filled l.text l.p) (code_lines a.sheet.now a.definitions.now a.code.now l.thread n 0)) c.size_at-size.ensures in (
      search rules,
      thread-turn a.sheet.now a.definitions.now a.code.now a.sizes a.threads l.thread (filled l.text l.p) _ c.loop-thread-test.true e
          ∙ l.invariant.1,
    )

pub returns : goal.returns
returns c =
    let l = c.loop-thread in
    let a = c.args in
    let e = thread-end a.sheet.now a.definitions.now a.code.now a.sizes a.threads l.thread c.loop-thread-test.false in
    sym (puts-nil _) ∙ ap (λ x. puts (filled l.text l.p) x) (sym e) ∙ l.invariant.1
