-- Document 01, "Samples from the stands": those with a * that concern values, computed from the
-- definitions. Assumes nothing.
use Rattle.std.proofs.Common.{◌≡◌, true, false, refl}
use Rattle.values.specs.declared.Edge.TheVariants.{Posedge}
use Rattle.values.specs.Values.{known, ones, all_unknown, holds, same}
use Rattle.values.specs.Operators.{sum, difference, possible, marked, between, certain, both, binary}
use Rattle.values.specs.Edges.{level, moves, fires}

-- "Width 4: 15 + 1 = 0; 0 - 1 = 15."
pub sample-sum : binary 6 4 (known 15) (known 1) ≡ known 0
unfolding binary certain marked known sum
sample-sum = refl

pub sample-difference : binary 7 4 (known 0) (known 1) ≡ known 15
unfolding binary certain marked known difference
sample-difference = refl

-- "8-bit x & 0 is x." By document 02, request [4], "0 & x is 0, in 01's sample too".
pub sample-x-and-0 : binary 3 8 (all_unknown 8) (known 0) ≡ known 0
unfolding binary both between possible known all_unknown ones
sample-x-and-0 = refl

-- "If on 2 holds; on x fails."
pub sample-if-2 : holds (known 2) ≡ true
unfolding holds known all_unknown
sample-if-2 = refl

pub sample-if-x : holds (all_unknown 8) ≡ false
unfolding holds known all_unknown
sample-if-x = refl

-- "x to 1 fires posedge; 1 to 1 doesn't; 0 to x doesn't." The last is document 02's, request [2]: it does.
pub sample-x-to-1 : fires Posedge (all_unknown 1) (known 1) ≡ true
unfolding fires moves level same known all_unknown ones
sample-x-to-1 = refl

pub sample-1-to-1 : fires Posedge (known 1) (known 1) ≡ false
unfolding fires moves level same known all_unknown ones
sample-1-to-1 = refl

pub sample-0-to-x : fires Posedge (known 0) (all_unknown 1) ≡ true
unfolding fires moves level same known all_unknown ones
sample-0-to-x = refl
