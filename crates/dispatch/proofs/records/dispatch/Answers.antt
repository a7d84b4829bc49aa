-- `dispatch::records::dispatch` meets its contract: the core's turn, and the store that it asks for.
use Rattle.std.proofs.Common.{◌≡◌, sym, ap, ◌∙◌, length}
use Rattle.dispatch.specs.declared.Turn.{Turn}
use Rattle.dispatch.specs.Dispatch.{given, records_after}
use Rattle.dispatch.specs.Turn.{turn_among}
use Rattle.dispatch.proofs.Turns.{turned, turned-answer, turned-given}
use Rattle.dispatch.proofs.records.dispatch.Goals as goal

pub returns : goal.returns
returns c =
    let rs = c.args.records.now in
    let last = c.args.last in
    let t : c.served-turn.result ≡ turned rs last = c.served-turn.ensures ∙ ap (λ l. turn_among l (length rs) last) c.first_eight.ensures in (
      ap (λ (x : Turn). x.answer) t ∙ turned-answer rs last,
      c.give.ensures ∙ ap (λ (x : Turn). given rs x.at x.turns) t ∙ turned-given rs last
          ∙ ap (λ (x : Turn). records_after rs x.answer) (sym t),
    )
