-- Samples, computed: the tables of `module m ( a ) ; input a ; reg r ; wire x , y ; assign y = r , x = a ; always r = x ; endmodule`,
-- with a place for each token that is its number.
-- Assumes nothing.
use mathlib.Core.Path.{◌≡◌, refl}
use mathlib.Core.Bool.{true, false}
use mathlib.Core.List.{List, [], ◌∷◌}
use Prim.Native.Nat.{ℕ}
use Rattle.verilog_grammar.specs.Meaning.{up_to}
use Rattle.verilog_source.specs.Names.{lower}
use Rattle.verilog_names.specs.Chosen.{here, chosen, has_role, is_used, is_declared, is_in}
use Rattle.verilog_names.specs.Faults.{is_among, missing, repeated, nearest, faults_in, fault_at, fault_of}
use Rattle.verilog_names.specs.Numbers.{ordered, place_of, number_at, numbers_from}
use Rattle.verilog_names.specs.Head.{widths_of, head_of}
use Rattle.verilog_names.specs.Order.{first_or, next_of, is_target, target_of}

abbrev kinds : List ℕ
kinds =
    1 ∷ 64 ∷ 20 ∷ 64 ∷ 21 ∷ 25 ∷ 3 ∷ 64 ∷ 25 ∷ 4 ∷ 64 ∷ 25 ∷ 5 ∷ 64 ∷ 26 ∷ 64 ∷ 25 ∷ 6 ∷ 64 ∷ 28 ∷ 64 ∷ 26 ∷ 64 ∷ 28 ∷ 64 ∷ 25 ∷ 7 ∷ 64 ∷
    28 ∷ 64 ∷ 25 ∷ 2 ∷ []

abbrev ids : List ℕ
ids =
    0 ∷ 0 ∷ 0 ∷ 1 ∷ 0 ∷ 0 ∷ 0 ∷ 1 ∷ 0 ∷ 0 ∷ 3 ∷ 0 ∷ 0 ∷ 4 ∷ 0 ∷ 5 ∷ 0 ∷ 0 ∷ 5 ∷ 0 ∷ 3 ∷ 0 ∷ 4 ∷ 0 ∷ 1 ∷ 0 ∷ 0 ∷ 3 ∷ 0 ∷ 4 ∷ 0 ∷ 0 ∷ []

abbrev places : List ℕ
places =
    0 ∷ 1 ∷ 2 ∷ 3 ∷ 4 ∷ 5 ∷ 6 ∷ 7 ∷ 8 ∷ 9 ∷ 10 ∷ 11 ∷ 12 ∷ 13 ∷ 14 ∷ 15 ∷ 16 ∷ 17 ∷ 18 ∷ 19 ∷ 20 ∷ 21 ∷ 22 ∷ 23 ∷ 24 ∷ 25 ∷ 26 ∷ 27 ∷
    28 ∷ 29 ∷ 30 ∷ 31 ∷ []

abbrev roles : List ℕ
roles =
    0 ∷ 0 ∷ 0 ∷ 0 ∷ 0 ∷ 0 ∷ 0 ∷ 1 ∷ 0 ∷ 0 ∷ 2 ∷ 0 ∷ 0 ∷ 3 ∷ 0 ∷ 3 ∷ 0 ∷ 0 ∷ 4 ∷ 0 ∷ 0 ∷ 0 ∷ 4 ∷ 0 ∷ 0 ∷ 0 ∷ 5 ∷ 0 ∷ 0 ∷ 0 ∷ 0 ∷ 0 ∷ []

abbrev widths : List ℕ
widths = 0 ∷ 0 ∷ 0 ∷ 0 ∷ 0 ∷ 0 ∷ 0 ∷ 1 ∷ 0 ∷ 0 ∷ 8 ∷ 0 ∷ 0 ∷ 4 ∷ 0 ∷ 2 ∷ []

-- Wires number as declared, not as assigned.
pub wires-as-declared : ordered roles 32 ≡ 7 ∷ 10 ∷ 13 ∷ 15 ∷ []
unfolding here chosen has_role ordered
wires-as-declared = refl

pub numbers-sample : numbers_from kinds ids roles 32 12 18 ≡ 3 ∷ 0 ∷ 1 ∷ 0 ∷ 2 ∷ 0 ∷ 0 ∷ 0 ∷ 0 ∷ 1 ∷ 0 ∷ 2 ∷ []
unfolding here chosen has_role ordered up_to place_of number_at numbers_from
numbers-sample = refl

pub head-sample : head_of roles widths 32 ≡ 1 ∷ 1 ∷ 2 ∷ 1 ∷ 1 ∷ 8 ∷ 4 ∷ 2 ∷ []
unfolding here chosen has_role ordered up_to widths_of head_of
head-sample = refl

pub target-sample : target_of ids roles 32 4 ≡ 22
unfolding here chosen has_role first_or is_target target_of
target-sample = refl

pub thread-sample : next_of roles 32 5 0 ≡ 26
unfolding here chosen has_role first_or next_of
thread-sample = refl

-- No name is at fault; the module's own name isn't declared.
pub faultless-sample : fault_of kinds ids places roles 32 ≡ record { found = false; place = 65536 }
unfolding here chosen has_role is_used is_declared is_in lower is_among missing repeated nearest faults_in fault_at fault_of
faultless-sample = refl

-- Without the word `wire` behind token 12 the first `x` at fault is its declaration, now an undeclared name.
pub undeclared-sample :
    fault_of kinds ids places (0 ∷ 0 ∷ 0 ∷ 0 ∷ 0 ∷ 0 ∷ 0 ∷ 1 ∷ 0 ∷ 0 ∷ 2 ∷ 0 ∷ 0 ∷ 0 ∷ 0 ∷ 3 ∷ 0 ∷ 0 ∷ 4 ∷ 0 ∷ 0 ∷ 0 ∷ 4 ∷ []) 32
    ≡ record { found = true; place = 13 }
unfolding here chosen has_role is_used is_declared is_in lower is_among missing repeated nearest faults_in fault_at fault_of
undeclared-sample = refl
