-- `saved::saving::put_word` meets its contract. Assumes nothing.
use mathlib.Core.Path.{◌≡◌}
use Prim.Native.Nat.{◌+◌, ◌-◌}
use native.Mathlib.Omega.{arith}
use Rattle.saved.specs.Saved.{word_bytes}
use Rattle.saved.proofs.Stores.{word-placed}
use Rattle.saved.proofs.saving.put_word.Goals as goal

pub returns : goal.returns
unfolding word_bytes
returns c =
    let e : c.args.at + 4 - c.args.at ≡ 4 = omega arith in
    rw (e, c.copy_from_slice.ensures.after, c.to_le_bytes.ensures) (word-placed _ _ _ (omega (arith, c.told-out)))
