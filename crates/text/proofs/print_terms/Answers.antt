-- `text::print_terms` meets its contract. The loop's invariant: what is still to be put gives the whole.
-- Assumes nothing.
use Prim.Native.Nat.{◌<◌}
use mathlib.Core.Path.{refl, sym, ◌∙◌, ap}
use native.Mathlib.Omega.{arith}
use borrow.Author.Rules.{rules}
use lib.ListN.{length, drop_of_length-le}
use Rattle.writing.specs.Buffer.{filled, puts}
use Rattle.text.specs.Listing.{show_term, show_terms}
use Rattle.text.specs.Printing.{term_list}
use Rattle.writing.proofs.Buffer.{puts-nil}
use Rattle.text.proofs.Printing.{terms-step, term_of}
use Rattle.text.proofs.print_terms.Goals as goal

pub returns : goal.returns
unfolding show_terms
returns c =
    let t = c.args.t in
    let l = c.loop-k in
    let e = drop_of_length-le (term_list t) {i = l.k} (omega (arith, c.term_count-n.ensures)) in
    sym (puts-nil _) ∙ ap (λ x. puts (filled l.text l.p) (show_terms x)) (sym e) ∙ l.invariant.1

pub loop-k-preserved : goal.loop-k-preserved
loop-k-preserved c =
    let t = c.args.t in
    let l = c.loop-k in
    let h : l.k < length (term_list t) = omega (arith, c.term_count-n.ensures) in
    let e = c.term_at-e.ensures ∙ term_of t l.k h in (
      search rules,
      terms-step (filled l.text l.p) _ (term_list t) l.k h
          (c.print_term-p.ensures ∙ ap (λ x. puts (filled l.text l.p) (show_term x)) e)
          ∙ l.invariant.1,
    )

pub loop-k-init : goal.loop-k-init
loop-k-init c =
    (search rules, refl)
