-- The kind and the place in one word.
use mathlib.Core.Path.{◌≡◌, refl, ap}
use Prim.Native.Nat.{ℕ, ◌+◌, ◌*◌, ◌%◌}
use denote.Enum.Declared.{tag_of}
use Rattle.pseudocode.specs.contracts.Kind.{the_type}
use Rattle.pseudocode.specs.declared.Kind as Kind
use Rattle.pseudocode.specs.Filling.{kind_number, first_word}
use Rattle.pseudocode.proofs.first_word.Goals as goal

tag-number : (k : Kind.Kind) → tag_of the_type k ≡ kind_number k % 8
tag-number Kind.TheVariants.Wait = refl
tag-number Kind.TheVariants.Set = refl
tag-number Kind.TheVariants.Later = refl
tag-number Kind.TheVariants.Go = refl
tag-number Kind.TheVariants.IfNot = refl

pub returns : goal.returns
unfolding first_word
returns c =
    ap (λ (k : ℕ). k + 8 * (c.args.at % 8192)) (tag-number c.args.kind)
