-- 43 from the tables: "a name undeclared, declared twice, or an `assign` other than once to each wire". `verilog_source` has the same
-- on names; here a name is a token, and two are the same where their ids are.
use Rattle.std.specs.Prelude.{Bool, true, false, not, List, [], ◌∷◌, ◌++◌, ℕ, ltb, eqb, get_or, replicate}
use Rattle.values.specs.Values.{pick}
use Rattle.verilog_source.specs.Names.{lower}
use Rattle.verilog_names.specs.declared.Class.{Class}
use Rattle.verilog_names.specs.declared.Class.TheVariants.{Used, Declared, Wire, Target}
use Rattle.verilog_names.specs.declared.Fault.{Fault}
use Rattle.verilog_names.specs.Chosen.{chosen, is_in}
use Rattle.verilog_names.specs.Numbers.{entry}

-- ---- over the ids of all tokens

unfoldable pub is_among : List ℕ → List ℕ → ℕ → Bool
is_among ids [] x = false
is_among ids (t ∷ ts) x = pick (eqb (get_or ids t 0) x) true (is_among ids ts x)

-- The ids of some tokens, marked in a table by id.
unfoldable pub marked : List ℕ → List ℕ → List ℕ → List ℕ
marked ids [] table = table
marked ids (t ∷ ts) table = marked ids ts (entry table (get_or ids t 0) 1)

abbrev pub marks : List ℕ → List ℕ → List ℕ
marks ids ts = marked ids ts (replicate 16385 0)

-- Is token i one that a test takes, and its name not among some tokens?
unfoldable pub lacks : List ℕ → (ℕ → Bool) → List ℕ → ℕ → Bool
lacks ids test ms i = pick (test i) (not (is_among ids ms (get_or ids i 0))) false

-- Those of the first tokens that aren't among the second.
unfoldable pub missing : List ℕ → List ℕ → List ℕ → List ℕ
missing ids [] ms = []
missing ids (t ∷ ts) ms = pick (is_among ids ms (get_or ids t 0)) [] (t ∷ []) ++ missing ids ts ms

-- Those that are named as one before them.
unfoldable pub repeated : List ℕ → List ℕ → List ℕ → List ℕ
repeated ids seen [] = []
repeated ids seen (t ∷ ts) = pick (is_among ids seen (get_or ids t 0)) (t ∷ []) [] ++ repeated ids (t ∷ seen) ts

-- ---- the first place of some tokens; 65,536 where there are none: a place is below it

unfoldable pub nearest : List ℕ → List ℕ → ℕ
nearest places [] = 65536
nearest places (t ∷ ts) = lower (get_or places t 0) (nearest places ts)

-- ---- the tokens at fault

-- The tokens of a class among the first n.
abbrev pub of_class : List ℕ → List ℕ → ℕ → Class → List ℕ
of_class kinds roles n c = chosen (is_in kinds roles c) n 0

unfoldable pub faults_in : List ℕ → List ℕ → List ℕ → ℕ → List ℕ
faults_in kinds ids roles n =
    let us = of_class kinds roles n Used in
    let vs = of_class kinds roles n Declared in
    let ds = of_class kinds roles n Target in
    let ws = of_class kinds roles n Wire in
    missing ids us vs ++ repeated ids [] vs ++ missing ids ds ws ++ repeated ids [] ds ++ missing ids ws ds

unfoldable pub fault_at : ℕ → Fault
fault_at p = record { found = ltb p 65536; place = p }

unfoldable pub fault_of : List ℕ → List ℕ → List ℕ → List ℕ → ℕ → Fault
fault_of kinds ids places roles n = fault_at (nearest places (faults_in kinds ids roles n))
