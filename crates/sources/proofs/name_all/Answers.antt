-- `sources::name_all` meets its contract. The loop's invariant: the variables that are left give all names. Assumes nothing.
use mathlib.Core.Path.{refl, ◌∙◌}
use Rattle.sources.proofs.Contents.{names-turn, names-over}
use Rattle.sources.proofs.name_all.Goals as goal

pub loop-v-init : goal.loop-v-init
loop-v-init c =
    refl

pub loop-v-preserved : goal.loop-v-preserved
loop-v-preserved c =
    names-turn c.args.text.now
    c.args.places.now
    c.args.lengths.now
    c.loop-v.v c.loop-v.names
    c.loop-v-test.true _ c.name_one.ensures
    ∙ c.loop-v.invariant

pub returns : goal.returns
returns c =
    names-over c.args.text.now c.args.places.now
    c.args.lengths.now c.loop-v.v c.loop-v.names c.loop-v-test.false
    ∙ c.loop-v.invariant
