-- Statements of the sheet (document 01, "The sheet"), their sizes, and how they are read.
-- E is what stands for an expression: its tree, or its place in the sheet.
use Rattle.std.specs.Prelude.{ℕ, zero, suc, ◌+◌, ◌*◌, Bool, true, ◌&&◌, List, [], ◌∷◌, get_or, ltb, leb, eqb}
use Rattle.values.specs.Values.{pick}
use Rattle.values.specs.Edges.{edge_of}
use Rattle.values.specs.declared.Edge.{Edge}
use Rattle.values.specs.declared.Edge.TheVariants.{Change, Posedge, Negedge}
use Rattle.sheet.specs.declared.EdgeTerm.{EdgeTerm}
use Rattle.sheet.specs.Reading.{Res, ok, no, ◌>>=◌, ◌>>◌, check, byte_at, within}
use Rattle.sheet.specs.Expression.{Parsed, Scope, variable_at}

-- ---- trees

pub data Stmt (E : Type 0) : Type 0 where
  empty : Stmt E
  assign : ℕ → E → Stmt E
  later : ℕ → E → Stmt E
  sequence : Stmt E → Stmt E → Stmt E
  if_then : E → Stmt E → Stmt E
  if_else : E → Stmt E → Stmt E → Stmt E
  while : E → Stmt E → Stmt E
  forever : Stmt E → Stmt E
  wait : List EdgeTerm → Stmt E

-- "Sizes: assignment and wait 1, empty 0, sequence the sum, if 1 more, if-else 2 more,
-- while 2 more, forever 1 more."
unfoldable pub size : {E : Type 0} → Stmt E → ℕ
size empty = 0
size (assign t e) = 1
size (later t e) = 1
size (sequence a b) = size a + size b
size (if_then e a) = size a + 1
size (if_else e a b) = size a + size b + 2
size (while e a) = size a + 2
size (forever a) = size a + 1
size (wait ts) = 1

-- The statement with f of each of its expressions.
unfoldable pub map_stmt : {D E : Type 0} → (D → E) → Stmt D → Stmt E
map_stmt f empty = empty
map_stmt f (assign t e) = assign t (f e)
map_stmt f (later t e) = later t (f e)
map_stmt f (sequence a b) = sequence (map_stmt f a) (map_stmt f b)
map_stmt f (if_then e a) = if_then (f e) (map_stmt f a)
map_stmt f (if_else e a b) = if_else (f e) (map_stmt f a) (map_stmt f b)
map_stmt f (while e a) = while (f e) (map_stmt f a)
map_stmt f (forever a) = forever (map_stmt f a)
map_stmt f (wait ts) = wait ts

-- Number 9 is "target byte names no register".
unfoldable pub is_register : Scope → ℕ → Bool
is_register c v = leb c.inputs v && ltb v (c.inputs + c.registers)

-- A statement that was read, and the next place in the sheet.
pub record Body (E : Type 0) : Type 0 where
  pub stmt : Stmt E
  pub next : ℕ

-- ---- waits: "a count (1 to 8) and so many pairs of edge (0 any change, 1 posedge, 2 negedge) and variable"

unfoldable pub read_terms : ℕ → List ℕ → List ℕ → ℕ → Res (List EdgeTerm)
read_terms zero ws s at = ok []
read_terms (suc n) ws s at = do
  e ← within 0 2 6 s at
  v ← variable_at ws s (at + 1)
  ts ← read_terms n ws s (at + 2)
  ok (record { edge = edge_of e; variable = v } ∷ ts)

-- "Edges 1 and 2 need a one-bit variable."
unfoldable pub narrow : List ℕ → EdgeTerm → Bool
narrow ws t = edge_fits t.edge (get_or ws t.variable 0)
  where
    edge_fits : Edge → ℕ → Bool
    edge_fits Change w = true
    edge_fits Posedge w = eqb w 1
    edge_fits Negedge w = eqb w 1

unfoldable pub narrow_all : List ℕ → List EdgeTerm → Bool
narrow_all ws [] = true
narrow_all ws (t ∷ ts) = narrow ws t && narrow_all ws ts

-- ---- statements by their maps

-- "Allowed: 00h empty, 03h assignment, 23h non-blocking assignment, 0Ch sequence, 06h if, 0Eh if-else,
-- 46h while, 44h forever, 10h wait."
pub data Form : Type 0 where
  an_empty an_assign a_later a_sequence an_if an_if_else a_while a_forever a_wait : Form

unfoldable pub form_of : ℕ → ℕ → Res Form
form_of m p =
    pick (eqb m 0x00) (ok an_empty)
    (pick (eqb m 0x03) (ok an_assign)
    (pick (eqb m 0x23) (ok a_later)
    (pick (eqb m 0x0C) (ok a_sequence)
    (pick (eqb m 0x06) (ok an_if)
    (pick (eqb m 0x0E) (ok an_if_else)
    (pick (eqb m 0x46) (ok a_while)
    (pick (eqb m 0x44) (ok a_forever)
    (pick (eqb m 0x10) (ok a_wait)
    (no 5 p)))))))))

module _ {E : Type 0} (expr : Scope → ℕ → Res (Parsed E)) (c : Scope) (s : List ℕ) where
  -- "A target or wire has its expression's width"; number 9 is judged before the expression is read.
  unfoldable pub assignment : (ℕ → E → Stmt E) → ℕ → Res (Body E)
  assignment make p = do
    t ← byte_at s (p + 1)
    check (is_register c t) 9 (p + 1)
    e ← expr c (p + 2)
    check (eqb e.width (get_or c.widths t 0)) 8 p
    ok (record { stmt = make t e.item; next = e.next })

  -- The fields of the statement whose map stands at p. `inner` reads a statement at a place.
  unfoldable pub form : (ℕ → Res (Body E)) → ℕ → Form → Res (Body E)
  form inner p an_empty = ok (record { stmt = empty; next = p + 1 })
  form inner p an_assign = assignment assign p
  form inner p a_later = assignment later p
  form inner p a_sequence = do
    a ← inner (p + 1)
    b ← inner a.next
    ok (record { stmt = sequence a.stmt b.stmt; next = b.next })
  form inner p an_if = do
    e ← expr c (p + 1)
    a ← inner e.next
    ok (record { stmt = if_then e.item a.stmt; next = a.next })
  form inner p an_if_else = do
    e ← expr c (p + 1)
    a ← inner e.next
    b ← inner a.next
    ok (record { stmt = if_else e.item a.stmt b.stmt; next = b.next })
  form inner p a_while = do
    e ← expr c (p + 1)
    a ← inner e.next
    ok (record { stmt = while e.item a.stmt; next = a.next })
  form inner p a_forever = do
    a ← inner (p + 1)
    ok (record { stmt = forever a.stmt; next = a.next })
  form inner p a_wait = do
    n ← within 1 8 6 s (p + 1)
    ts ← read_terms n c.widths s (p + 2)
    check (narrow_all c.widths ts) 8 p
    ok (record { stmt = wait ts; next = p + 2 + 2 * n })

  -- The statement at p, with so many levels left.
  unfoldable pub read_stmt : ℕ → ℕ → Res (Body E)
  read_stmt zero p = do
    m ← byte_at s p
    no 7 p
  read_stmt (suc d) p = do
    m ← byte_at s p
    f ← form_of m p
    form (read_stmt d) p f
