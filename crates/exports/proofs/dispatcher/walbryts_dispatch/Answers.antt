-- `exports::dispatcher::walbryts_dispatch` meets its contract. Assumes nothing.
use mathlib.Core.Path.{ap, ◌∙◌}
use Rattle.dispatch.specs.Dispatch.{number_of, picked_of}
use Rattle.dispatch.specs.Planes.{turns_after}
use Rattle.exports.proofs.dispatcher.walbryts_dispatch.Goals as goal

pub returns : goal.returns
returns c =
    let call = c.dispatch_planes-answer.ensures in record {
      value = c.number_of.ensures ∙ ap number_of call.0;
      turns_after = call.1 ∙ ap (turns_after _) call.0;
      picked_after = c.picked_of.ensures ∙ ap picked_of call.0;
    }
