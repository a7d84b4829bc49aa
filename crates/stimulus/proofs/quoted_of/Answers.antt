-- `stimulus::quoted_of` meets its contract. Assumes nothing.
use native.Mathlib.Omega.{arith}
use mathlib.Core.Path.{sym}
use Rattle.stimulus.specs.Lines.{quoted_of}
use Rattle.stimulus.proofs.Digits.{sized-long}
use Rattle.stimulus.proofs.quoted_of.Goals as goal

pub slice_bounds-front-end : goal.slice_bounds-front-end
slice_bounds-front-end c =
    let h = sized-long c.args.word.now c.args.q c.requires.quote c.requires.sized in
    omega arith

pub overflow_sub-word : goal.overflow_sub-word
overflow_sub-word c =
    let h = sized-long c.args.word.now c.args.q c.requires.quote c.requires.sized in
    omega arith

pub returns : goal.returns
unfolding quoted_of
returns c =
    rw (sym c.requires.quote, sym c.number_of-size.ensures, sym c.bits_of-a.ensures) c.quoted.ensures
