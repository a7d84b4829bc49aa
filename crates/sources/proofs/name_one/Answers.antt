-- `sources::name_one` meets its contract. Assumes nothing.
use mathlib.Core.Path.{refl}
use Rattle.sources.proofs.Contents.{named-empty, named-out, named_in}
use Rattle.sources.proofs.name_one.Goals as goal

pub returns-then-size-eq0 : goal.returns-then-size-eq0
returns-then-size-eq0 c =
    named-empty _ _ _ _ _ c.if-size-eq0.true

pub returns-then-text-to : goal.returns-then-text-to
returns-then-text-to c =
    named-out _ _ _ _ _ c.if-size-eq0.false refl refl
    c.if-text-to.true

pub returns : goal.returns
returns c =
    named_in _ _ _ _ _ c.if-size-eq0.false
    refl refl
    c.if-text-to.false c.set_name.ensures
