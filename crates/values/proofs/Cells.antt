-- Laws of cells: a small value comes back from its cell, every cell stands for such a value, and a plane after a store. Whoever cites
-- these need not open the form. Assumes nothing.
use Rattle.std.proofs.Common.{◌≡◌, ℕ, ◌+◌, ◌*◌, ◌%◌, ◌<◌, true, ◌≢◌, List, length, get_or, set, ap, ◌∙◌, mod-lt, mod-eq_of_lt, zero-add, lit<, get_or-set_other, get_or-set_same}
use native.Mathlib.Nat.{add-mul-mod_self_right, add-mul-div_right, div-eq_of_lt}
use Rattle.values.specs.declared.Value.{Value}
use Rattle.values.specs.Cells.{small, cell_of, number_in, marks_in, value_of, cell_at}
use Rattle.values.proofs.Operators.{is-small, small-number, small-marks}

positive : 0 < 4294967296
positive = lit< tt

-- ---- the halves of a cell

pub number-in : (n u : ℕ) → n < 4294967296 → number_in (n + u * 4294967296) ≡ n
unfolding number_in
number-in n u h = add-mul-mod_self_right n u 4294967296 ∙ mod-eq_of_lt h

pub marks-in : (n u : ℕ) → n < 4294967296 → u < 4294967296 → marks_in (n + u * 4294967296) ≡ u
unfolding marks_in
marks-in n u h k =
    ap (λ (m : ℕ). m % 4294967296) (add-mul-div_right n u positive ∙ ap (◌+ u) (div-eq_of_lt h) ∙ zero-add u) ∙ mod-eq_of_lt k

pub number-in-lt : (c : ℕ) → number_in c < 4294967296
unfolding number_in
number-in-lt c = mod-lt c positive

pub marks-in-lt : (c : ℕ) → marks_in c < 4294967296
unfolding marks_in
marks-in-lt c = mod-lt _ positive

-- ---- there and back

pub number-cell : (a : Value) → small a ≡ true → number_in (cell_of a) ≡ a.number
unfolding cell_of
number-cell a f = number-in a.number a.unknown (small-number a f)

pub marks-cell : (a : Value) → small a ≡ true → marks_in (cell_of a) ≡ a.unknown
unfolding cell_of
marks-cell a f = marks-in a.number a.unknown (small-number a f) (small-marks a f)

pub value_cell : (a : Value) → small a ≡ true → value_of (cell_of a) ≡ a
unfolding value_of
value_cell a f =
    let n = number-cell a f in
    let u = marks-cell a f in
    λ i. record { number = n i; unknown = u i }

pub value-small : (c : ℕ) → small (value_of c) ≡ true
unfolding value_of
value-small c = is-small _ (number-in-lt c) (marks-in-lt c)

-- ---- a plane

pub at_small : (cs : List ℕ) (v : ℕ) → small (cell_at cs v) ≡ true
unfolding cell_at
at_small cs v = value-small (get_or cs v 0)

pub at_set_same : (cs : List ℕ) (v : ℕ) (a : Value) → v < length cs → small a ≡ true → cell_at (set cs v (cell_of a)) v ≡ a
unfolding cell_at
at_set_same cs v a h f = ap value_of (get_or-set_same cs v (cell_of a) 0 h) ∙ value_cell a f

pub at_set_other : (cs : List ℕ) (u v c : ℕ) → v ≢ u → cell_at (set cs u c) v ≡ cell_at cs v
unfolding cell_at
at_set_other cs u v c h = ap value_of (get_or-set_other cs u v c 0 h)

pub at_same : (cs ds : List ℕ) (v : ℕ) → get_or cs v 0 ≡ get_or ds v 0 → cell_at cs v ≡ cell_at ds v
unfolding cell_at
at_same cs ds v e = ap value_of e
