-- The sheet (document 01, "The sheet"): one module, read from its first byte to its last.
use Rattle.std.specs.Prelude.{ℕ, zero, suc, ◌+◌, ◌-◌, List, [], ◌∷◌, map, length, get_or, ltb, leb, eqb}
use Rattle.values.specs.Values.{pick}
use Rattle.sheet.specs.Reading.{Res, ok, ◌>>=◌, ◌>>◌, check, byte_at, within}
use Rattle.sheet.specs.Expression.{Expr, Function, Scope, Parsed, tree}
use Rattle.sheet.specs.Statement.{Stmt, size, map_stmt, read_stmt}
use Rattle.sheet.specs.Functions.{read_widths, read_functions}

pub record Module (E : Type 0) : Type 0 where
  pub scope : Scope
  pub wires : List E
  pub threads : List (Stmt E)

-- The module with f of each of its expressions.
unfoldable pub map_module : {D E : Type 0} → (D → E) → Module D → Module E
map_module f m = record { scope = m.scope; wires = map f m.wires; threads = map (map_stmt f) m.threads }

-- A list that was read, and the next place in the sheet.
pub record Listed (A : Type 0) : Type 0 where
  pub items : List A
  pub next : ℕ

-- ---- "Four bytes: inputs (1 to 16), registers (1 to 32), wires (0 to 32), threads (1 to 8)"

-- Document 02, [5]: "A sheet whose first byte has 128 added carries a count of functions (1 to 8) after its four counts."
-- What is left of the first byte is the count of inputs.
unfoldable pub inputs_of : ℕ → ℕ
inputs_of b = pick (ltb b 128) b (b - 128)

-- The first byte: number 3 where the inputs are none or more than 16.
unfoldable pub first_at : List ℕ → ℕ → Res ℕ
first_at s at = do
  b ← byte_at s at
  check (leb 1 (inputs_of b)) 3 at
  check (leb (inputs_of b) 16) 3 at
  ok b

-- The count of functions, by the first byte: none where nothing is added to it.
unfoldable pub function_count : ℕ → List ℕ → ℕ → Res ℕ
function_count b s at = pick (ltb b 128) (ok 0) (within 1 8 3 s at)

-- The widths stand behind the counts: four, or five where there are functions.
unfoldable pub widths_at : ℕ → ℕ
widths_at functions = pick (ltb 0 functions) 5 4

-- Counts and widths; the scope has no functions yet.
pub record Head : Type 0 where
  pub scope : Scope
  pub wires : ℕ
  pub threads : ℕ
  pub next : ℕ

-- "Then one width byte for each variable (1 to 32)"; "Input 0 is the clock, width 1."
unfoldable pub read_head : List ℕ → Res Head
read_head s = do
  b ← first_at s 0
  r ← within 1 32 3 s 1
  w ← within 0 32 3 s 2
  t ← within 1 8 3 s 3
  n ← function_count b s 4
  c ← within 1 1 4 s (widths_at n)
  ws ← read_widths (inputs_of b + r + w - 1) s (widths_at n + 1)
  ok
      (record {
        scope = record { inputs = inputs_of b; registers = r; widths = c ∷ ws; declared = n; functions = [] };
        wires = w;
        threads = t;
        next = widths_at n + (inputs_of b + r + w);
      })

-- The scope once its functions were read.
abbrev pub with_functions : Scope → List Function → Scope
with_functions c fs =
    record { inputs = c.inputs; registers = c.registers; widths = c.widths; declared = c.declared; functions = fs }

module _ {E : Type 0} (expr : Scope → ℕ → Res (Parsed E)) (c : Scope) (s : List ℕ) where
  -- ---- "Then an expression for each wire": n of them, the first that of variable v

  -- "A target or wire has its expression's width."
  unfoldable pub read_wires : ℕ → ℕ → ℕ → Res (Listed E)
  read_wires zero v p = ok (record { items = []; next = p })
  read_wires (suc n) v p = do
    e ← expr c p
    check (eqb e.width (get_or c.widths v 0)) 8 p
    es ← read_wires n (v + 1) e.next
    ok (record { items = e.item ∷ es.items; next = es.next })

  -- ---- "a statement for each thread": n of them

  -- "A thread is a forever of its statement, at most 256 instructions"; number 11 is met at its end.
  unfoldable pub read_threads : ℕ → ℕ → Res (Listed (Stmt E))
  read_threads zero p = ok (record { items = []; next = p })
  read_threads (suc n) p = do
    b ← read_stmt expr c s 64 p
    check (leb (size b.stmt + 1) 256) 11 p
    bs ← read_threads n b.next
    ok (record { items = b.stmt ∷ bs.items; next = bs.next })

-- A module that was read, the places of its functions and of its first thread.
pub record Sheet (E : Type 0) : Type 0 where
  pub contents : Module E
  pub definitions : List ℕ
  pub body : ℕ

-- ---- the whole sheet, "and nothing more"

module _ {E : Type 0} (expr : Scope → ℕ → Res (Parsed E)) (s : List ℕ) where
  unfoldable pub whole_sheet : Res (Sheet E)
  whole_sheet = do
    check (leb (length s) 8192) 1 8192
    h ← read_head s
    fs ← read_functions h.scope.declared h.scope.declared [] s h.next
    es ← read_wires expr (with_functions h.scope fs.functions) s h.wires (h.scope.inputs + h.scope.registers) fs.next
    ts ← read_threads expr (with_functions h.scope fs.functions) s h.threads es.next
    check (eqb ts.next (length s)) 10 ts.next
    ok
        (record {
          contents = record { scope = with_functions h.scope fs.functions; wires = es.items; threads = ts.items };
          definitions = fs.places;
          body = es.next;
        })

  -- A sheet with functions is refused with 3 at its first byte until every part of the compiler and of the simulator works with
  -- calls: a first byte of 128 up is no count of inputs.
  unfoldable pub read_sheet : Res (Sheet E)
  read_sheet = do
    check (leb (length s) 8192) 1 8192
    check (ltb (get_or s 0 0) 128) 3 0
    whole_sheet

-- The module that a sheet holds, or the number and the place of its refusal: with functions, and without.
unfoldable pub read_whole : List ℕ → Res (Module Expr)
read_whole s = do
  r ← whole_sheet (tree s) s
  ok r.contents

unfoldable pub read : List ℕ → Res (Module Expr)
read s = do
  r ← read_sheet (tree s) s
  ok r.contents
