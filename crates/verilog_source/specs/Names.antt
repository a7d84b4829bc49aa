-- Names (document 02, request [1]): "simple names declared by `input`, `reg` or `wire`"; "variables number as declared within their
-- kind".
use Rattle.std.specs.Prelude.{Bool, true, false, List, [], ◌∷◌, ◌++◌, map, ℕ, ltb, eqb, drop}
use Rattle.values.specs.Values.{pick}
use Rattle.sheet.specs.Expression.{Expr}
use Rattle.sheet.specs.Statement.{Stmt}
use Rattle.naming.specs.Naming.{same_text}
use Rattle.verilog_tokens.specs.Tokens.{Token, Name}
use Rattle.verilog_tokens.specs.Table.{names_in, place_of}
use Rattle.verilog_grammar.specs.Meaning.{up_to, Kind, an_input, a_register, a_wire, Driven, Part, declares, drives, runs}

-- ---- what a module's parts declare, drive and run

pub record Variable : Type 0 where
  pub named : Name
  pub width : ℕ

unfoldable pub kind_number : Kind → ℕ
kind_number an_input = 0
kind_number a_register = 1
kind_number a_wire = 2

unfoldable pub of_width : ℕ → List Name → List Variable
of_width w [] = []
of_width w (n ∷ ns) = record { named = n; width = w } ∷ of_width w ns

-- The variables of a kind, as declared.
unfoldable pub variables : Kind → List Part → List Variable
variables k [] = []
variables k (declares j w ns ∷ ps) = pick (eqb (kind_number j) (kind_number k)) (of_width w ns) [] ++ variables k ps
variables k (drives ds ∷ ps) = variables k ps
variables k (runs s ∷ ps) = variables k ps

-- All names as declared, of whatever kind.
unfoldable pub declared : List Part → List Name
declared [] = []
declared (declares j w ns ∷ ps) = ns ++ declared ps
declared (drives ds ∷ ps) = declared ps
declared (runs s ∷ ps) = declared ps

unfoldable pub driven : List Part → List Driven
driven [] = []
driven (declares j w ns ∷ ps) = driven ps
driven (drives ds ∷ ps) = ds ++ driven ps
driven (runs s ∷ ps) = driven ps

-- "threads as written"
unfoldable pub threads : List Part → List (Stmt Expr)
threads [] = []
threads (declares j w ns ∷ ps) = threads ps
threads (drives ds ∷ ps) = threads ps
threads (runs s ∷ ps) = s ∷ threads ps

-- ---- numbers: inputs, registers, wires, each as declared

unfoldable pub in_order : List Part → List Variable
in_order ps = variables an_input ps ++ variables a_register ps ++ variables a_wire ps

unfoldable pub name_of : Variable → Name
name_of v = v.named

unfoldable pub number_of : List Part → List ℕ → ℕ
number_of ps s = up_to 255 (place_of (map name_of (in_order ps)) s)

-- ---- 43: "a name undeclared, declared twice, or an `assign` other than once to each wire"

unfoldable pub is_among : List Name → Name → Bool
is_among [] n = false
is_among (m ∷ ms) n = pick (same_text m.spelled n.spelled) true (is_among ms n)

-- Those of the first names that aren't among the second.
unfoldable pub missing : List Name → List Name → List Name
missing [] ms = []
missing (n ∷ ns) ms = pick (is_among ms n) [] (n ∷ []) ++ missing ns ms

-- Those that are spelled as one before them.
unfoldable pub repeated : List Name → List Name → List Name
repeated seen [] = []
repeated seen (n ∷ ns) = pick (is_among seen n) (n ∷ []) [] ++ repeated (n ∷ seen) ns

-- The names in use: all of the text but the module's own, which is its second token.
unfoldable pub used : List Token → List Name
used ts = names_in (drop 2 ts)

unfoldable pub target_of : Driven → Name
target_of d = d.target

-- The names at fault: where each undeclared one stands, a second declaration, an `assign` to no wire or to one that has its own, a
-- wire's declaration that no `assign` has.
unfoldable pub faults : List Token → List Part → List Name
faults ts ps =
    let ds = map target_of (driven ps) in
    let ws = map name_of (variables a_wire ps) in
    missing (used ts) (declared ps) ++ repeated [] (declared ps) ++ missing ds ws ++ repeated [] ds ++ missing ws ds

-- The first place of a fault.
unfoldable pub lower : ℕ → ℕ → ℕ
lower a b = pick (ltb b a) b a

unfoldable pub lowest : Name → List Name → ℕ
lowest n [] = n.place
lowest n (m ∷ ms) = lower n.place (lowest m ms)
