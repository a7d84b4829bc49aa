-- A plan: all that is worked out once from a sheet. What runs cites the record and never sees its words.
-- Words of any contents stand for a plan: a word that names no cell names cell 0, other numbers count modulo 256.
use Rattle.std.specs.Prelude.{Bool, false, List, ℕ, ◌+◌, ◌%◌, ltb, eqb, get_or}
use Rattle.values.specs.Values.{pick, ◌is◌then◌else◌}
use Rattle.values.specs.Edges.{edge_of}
use Rattle.masks.specs.Masks.{bits}
use Rattle.sheet.specs.declared.EdgeTerm.{EdgeTerm}
use Rattle.pseudocode.specs.declared.EdgeTerms.{EdgeTerms}
use Rattle.pseudocode.specs.Instruction.{no_term}
use Rattle.plan.specs.declared.Expression.{Expression}
use Rattle.plan.specs.declared.Action.TheVariants.{Set, Later, Go, IfNot}
use Rattle.plan.specs.declared.Instruction.{Instruction}
use Rattle.plan.specs.declared.Instruction.TheVariants.{Wait, Act}
use Rattle.plan.specs.Sections.{slot_of, node_place, code_place, wire_place, readers_place, watchers_place, width_place, count_place, size_place}

-- ---- a node: its kind and three words

pub record Node : Type 0 where
  pub kind : ℕ
  pub first : ℕ
  pub second : ℕ
  pub third : ℕ

abbrev pub node : ℕ → ℕ → ℕ → ℕ → Node
node k a b c = record { kind = k; first = a; second = b; third = c }

abbrev pub node_at : List ℕ → ℕ → Node
node_at ws n =
    node (get_or ws (node_place n) 0) (get_or ws (node_place n + 1) 0) (get_or ws (node_place n + 2) 0) (get_or ws (node_place n + 3) 0)

-- ---- an instruction: kind (0 wait, 1 set, 2 later, 3 go, 4 ifnot), then target, goal or count, then the expression's nodes

-- Term k of a wait whose terms stand as nodes from `first` on: edge and variable.
unfoldable pub term_from : List ℕ → ℕ → ℕ → ℕ → EdgeTerm
term_from ws first count k =
    pick (ltb k count)
    (record { edge = edge_of (get_or ws (node_place at) 0 % 256); variable = get_or ws (node_place at + 1) 0 % 256 })
    no_term
  where
    at : ℕ
    at = slot_of (first + k)

unfoldable pub terms_from : List ℕ → ℕ → ℕ → EdgeTerms
terms_from ws first n =
    record {
      count = n;
      t0 = term_from ws first n 0;
      t1 = term_from ws first n 1;
      t2 = term_from ws first n 2;
      t3 = term_from ws first n 3;
      t4 = term_from ws first n 4;
      t5 = term_from ws first n 5;
      t6 = term_from ws first n 6;
      t7 = term_from ws first n 7;
    }

-- "An instruction holds its kind, and a wait its edges, inside one value."
unfoldable pub decode : List ℕ → ℕ → ℕ → Expression → Instruction
decode ws k n e =
    k is 0 then Wait (terms_from ws e.first n) else
    k is 1 then Act (Set n e) else
    k is 2 then Act (Later n e) else
    k is 3 then Act (Go n) else
    Act (IfNot n e)

-- An expression from two words.
abbrev pub expression_at : List ℕ → ℕ → ℕ → Expression
expression_at ws at end = record { first = slot_of (get_or ws at 0); root = slot_of (get_or ws end 0) }

-- The instruction at a place of a thread; past the eighth thread it is `go 0`.
unfoldable pub fetch_at : List ℕ → ℕ → ℕ → Instruction
fetch_at ws i p =
    pick (ltb i 8)
    (decode ws (get_or ws (code_place i p) 0) (get_or ws (code_place i p + 1) 0 % 256) (expression_at ws (code_place i p + 2) (code_place i p + 3)))
    (Act (Go 0))

-- The terms of the wait at a place of a thread; past the eighth thread there are none.
unfoldable pub terms_at : List ℕ → ℕ → ℕ → EdgeTerms
terms_at ws i p =
    pick (ltb i 8) (terms_from ws (slot_of (get_or ws (code_place i p + 2) 0)) (get_or ws (code_place i p + 1) 0 % 256)) (terms_from ws 0 0)

-- Does it wait?
unfoldable pub waits_at : List ℕ → ℕ → ℕ → Bool
waits_at ws i p = pick (ltb i 8) (eqb (get_or ws (code_place i p) 0) 0) false

-- ---- words by the number of a wire, a variable or a thread; 0 past the last

unfoldable pub wire_at : List ℕ → ℕ → Expression
wire_at ws k = pick (ltb k 32) (expression_at ws (wire_place k) (wire_place k + 1)) (record { first = 0; root = 0 })

unfoldable pub readers_at : List ℕ → ℕ → List Bool
readers_at ws v = bits (pick (ltb v 80) (get_or ws (readers_place v) 0) 0)

unfoldable pub watchers_at : List ℕ → ℕ → List Bool
watchers_at ws v = bits (pick (ltb v 80) (get_or ws (watchers_place v) 0) 0)

unfoldable pub width_at : List ℕ → ℕ → ℕ
width_at ws v = pick (ltb v 80) (get_or ws (width_place v) 0 % 256) 0

unfoldable pub size_at : List ℕ → ℕ → ℕ
size_at ws i = pick (ltb i 8) (get_or ws (size_place i) 0) 0

-- ---- the plan

pub record Plan : Type 0 where
  pub node : ℕ → Node
  pub instruction : ℕ → ℕ → Instruction
  pub terms : ℕ → ℕ → EdgeTerms
  pub waits : ℕ → ℕ → Bool
  pub wire : ℕ → Expression
  pub readers : ℕ → List Bool
  pub watchers : ℕ → List Bool
  pub width : ℕ → ℕ
  pub size : ℕ → ℕ
  pub inputs : ℕ
  pub registers : ℕ
  pub wires : ℕ
  pub threads : ℕ

abbrev pub plan_of : List ℕ → Plan
plan_of ws =
    record {
      node = node_at ws;
      instruction = fetch_at ws;
      terms = terms_at ws;
      waits = waits_at ws;
      wire = wire_at ws;
      readers = readers_at ws;
      watchers = watchers_at ws;
      width = width_at ws;
      size = size_at ws;
      inputs = get_or ws (count_place 0) 0 % 256;
      registers = get_or ws (count_place 1) 0 % 256;
      wires = get_or ws (count_place 2) 0 % 256;
      threads = get_or ws (count_place 3) 0 % 256;
    }
