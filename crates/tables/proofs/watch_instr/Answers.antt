-- `tables::watch_instr` meets its contract. Assumes nothing.
use mathlib.Core.Path.{ap, ◌∙◌}
use Prim.Native.Nat.{ℕ}
use Rattle.tables.specs.Readers.{watch_terms, watch_instr}
use Rattle.tables.proofs.watch_instr.Goals as goal

pub returns-in_default : goal.returns-in_default
unfolding watch_instr
returns-in_default c =
    rw c.in_default.is

pub returns : goal.returns
unfolding watch_instr
returns c =
    let ws = c.args.watched.now in
    rw c.in-Wait.is
    (c.watch_terms.ensures ∙ ap (λ (n : ℕ). watch_terms c.in-Wait.t n ws) c.term_count.ensures)
