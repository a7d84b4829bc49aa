-- `text::print_term` meets its contract. Assumes nothing.
use mathlib.Core.Path.{◌∙◌, ap}
use mathlib.Core.List.{◌∷◌}
use Rattle.writing.specs.Ascii.{byte}
use Rattle.writing.specs.Numbers.{decimal}
use Rattle.writing.specs.Buffer.{filled, puts}
use Rattle.text.specs.Listing.{show_term}
use Rattle.writing.proofs.Buffer.{both}
use Rattle.text.proofs.print_term.Goals as goal

pub returns : goal.returns
unfolding show_term
returns c =
    let a = c.args in
    let e =
    c.put_marked-p.ensures
    ∙ ap (λ n. puts (filled a.text.now a.pos) (byte " " ∷ decimal n)) c.edge_number-n.ensures in
    both _ _ _ _ _ e c.put_marked.ensures
