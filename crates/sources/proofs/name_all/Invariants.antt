-- `sources::name_all` meets its contract. The loop's invariant: the variables that are left give all names. Assumes nothing.
use mathlib.Core.Path.{◌≡◌}
use Prim.Native.Nat.{◌-◌}
use Rattle.sources.specs.Contents.{named_from}
use Rattle.sources.proofs.name_all.Given as goal

abbrev pub invariant-loop-v : goal.invariant-loop-v
invariant-loop-v l =
    named_from l.text l.places l.lengths
    (80 - l.v) l.v l.names ≡ named_from l.text l.places l.lengths 80 0 l.initial.names
