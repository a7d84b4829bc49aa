-- Expressions of the sheet (document 01, "The sheet"; calls by document 02, [5]), and how they are read.
use Rattle.std.specs.Prelude.{ℕ, zero, suc, ◌+◌, ◌^◌, Bool, true, false, ◌&&◌, List, [], ◌∷◌, length, get_or, ltb, eqb}
use Rattle.values.specs.Values.{pick}
use Rattle.values.specs.Operators.{unary_width, binary_width}
use Rattle.sheet.specs.Reading.{Res, ok, no, ◌>>=◌, ◌>>◌, check, byte_at, within, word_at}

-- ---- trees

-- An operator stands by its number (1 ~, 2 !, 3 &, 4 |, 5 ^, 6 +, 7 -, 8 ==, 9 <) and its operands' width.
-- A call holds its function's number, its result's width, its arguments and the body that is run: a function calls
-- earlier ones only (44), so that the tree is finite.
mutual
  pub data Expr : Type 0 where
    variable : ℕ → Expr
    constant : ℕ → ℕ → Expr
    unknown : ℕ → Expr
    unary : ℕ → ℕ → Expr → Expr
    binary : ℕ → ℕ → Expr → Expr → Expr
    conditional : Expr → Expr → Expr → Expr
    call : ℕ → ℕ → Arguments → Body → Expr

  pub data Arguments : Type 0 where
    no_more : Arguments
    argument : Expr → Arguments → Arguments

  -- "the result, the only target": no wait, loop or later assignment (45).
  pub data Body : Type 0 where
    nothing : Body
    result : Expr → Body
    in_turn : Body → Body → Body
    if_then : Expr → Body → Body
    if_else : Expr → Body → Body → Body

-- ---- functions and scopes

-- Document 02, [5]: "Each function gives its parameter count (1 to 4), their widths, its result's width and a body".
pub record Function : Type 0 where
  pub parameters : List ℕ
  pub result : ℕ
  pub body : Body

unfoldable pub no_function : Function
no_function = record { parameters = []; result = 0; body = nothing }

-- What an expression may name: the variables (the inputs, then the registers, then the wires, with their widths), how
-- many functions the sheet has, and those of them that may be called here.
pub record Scope : Type 0 where
  pub inputs : ℕ
  pub registers : ℕ
  pub widths : List ℕ
  pub declared : ℕ
  pub functions : List Function

-- What was read, its width and the next place in the sheet.
pub record Parsed (E : Type 0) : Type 0 where
  pub item : E
  pub width : ℕ
  pub next : ℕ

-- ---- nodes

-- "Allowed maps: 02h variable, 0Ch constant, 04h unknown constant, 11h with operators 1 ~, 2 !;
-- 31h with 3 &, 4 |, 5 ^, 6 +, 7 -, 8 ==, 9 < (unsigned); 71h with 10 ?:." Document 02, [5]: "In such sheets expression
-- map 80h holds a function number"; a sheet without functions has no such map.
pub data Kind : Type 0 where
  a_variable a_constant an_unknown a_unary a_binary a_conditional a_call : Kind

unfoldable pub kind_of : Scope → ℕ → ℕ → Res Kind
kind_of c m p =
    pick (eqb m 0x02) (ok a_variable)
    (pick (eqb m 0x0C) (ok a_constant)
    (pick (eqb m 0x04) (ok an_unknown)
    (pick (eqb m 0x11) (ok a_unary)
    (pick (eqb m 0x31) (ok a_binary)
    (pick (eqb m 0x71) (ok a_conditional)
    (pick (eqb m 0x80 && ltb 0 c.declared) (ok a_call)
    (no 5 p)))))))

-- A byte that names one of the variables, whose widths are ws.
unfoldable pub variable_at : List ℕ → List ℕ → ℕ → Res ℕ
variable_at ws s at = do
  v ← byte_at s at
  check (ltb v (length ws)) 6 at
  ok v

-- A byte that names a function: "6 if there is none such"; "a call to the same or a later function (44) .. when the number is read".
unfoldable pub function_at : Scope → List ℕ → ℕ → Res ℕ
function_at c s at = do
  n ← byte_at s at
  check (ltb n c.declared) 6 at
  check (ltb n (length c.functions)) 44 at
  ok n

-- What was read of a call's arguments, their widths and the next place.
pub record Passed : Type 0 where
  pub items : Arguments
  pub widths : List ℕ
  pub next : ℕ

-- "then the arguments", n of them from p on. `operand` reads an expression at a place.
unfoldable pub arguments_at : (ℕ → Res (Parsed Expr)) → ℕ → ℕ → Res Passed
arguments_at operand zero p = ok (record { items = no_more; widths = []; next = p })
arguments_at operand (suc n) p = do
  e ← operand p
  es ← arguments_at operand n e.next
  ok (record { items = argument e.item es.items; widths = e.width ∷ es.widths; next = es.next })

unfoldable pub same_widths : List ℕ → List ℕ → Bool
same_widths [] [] = true
same_widths [] (v ∷ vs) = false
same_widths (u ∷ us) [] = false
same_widths (u ∷ us) (v ∷ vs) = eqb u v && same_widths us vs

-- The node whose map stands at p, by its kind: "each field as read, then widths".
-- `operand` reads an operand at a place.
unfoldable pub node : (ℕ → Res (Parsed Expr)) → Scope → List ℕ → ℕ → Kind → Res (Parsed Expr)
node operand c s p a_variable = do
  v ← variable_at c.widths s (p + 1)
  ok (record { item = variable v; width = get_or c.widths v 0; next = p + 2 })
node operand c s p a_constant = do
  w ← within 1 32 6 s (p + 1)
  v ← word_at s (p + 2)
  check (ltb v (2 ^ w)) 6 (p + 2)
  ok (record { item = constant w v; width = w; next = p + 6 })
node operand c s p an_unknown = do
  w ← within 1 32 6 s (p + 1)
  ok (record { item = unknown w; width = w; next = p + 2 })
node operand c s p a_unary = do
  o ← within 1 2 6 s (p + 1)
  a ← operand (p + 2)
  ok (record { item = unary o a.width a.item; width = unary_width o a.width; next = a.next })
node operand c s p a_binary = do
  o ← within 3 9 6 s (p + 1)
  a ← operand (p + 2)
  b ← operand a.next
  check (eqb a.width b.width) 8 p
  ok (record { item = binary o a.width a.item b.item; width = binary_width o a.width; next = b.next })
node operand c s p a_conditional = do
  o ← within 10 10 6 s (p + 1)
  q ← operand (p + 2)
  a ← operand q.next
  b ← operand a.next
  check (eqb a.width b.width) 8 p
  ok (record { item = conditional q.item a.item b.item; width = a.width; next = b.next })
node operand c s p a_call = do
  n ← function_at c s (p + 1)
  let f = get_or c.functions n no_function
  es ← arguments_at operand (length f.parameters) (p + 2)
  check (same_widths f.parameters es.widths) 8 p
  ok (record { item = call n f.result es.items f.body; width = f.result; next = es.next })

-- The expression at p, with so many levels left: "end, depth, map, each field as read, then widths".
unfoldable pub read_expr : ℕ → Scope → List ℕ → ℕ → Res (Parsed Expr)
read_expr zero c s p = do
  m ← byte_at s p
  no 7 p
read_expr (suc d) c s p = do
  m ← byte_at s p
  k ← kind_of c m p
  node (read_expr d c s) c s p k

-- ---- two ways to keep an expression that was read

-- As its tree. "Depth at most 16."
unfoldable pub tree : List ℕ → Scope → ℕ → Res (Parsed Expr)
tree s c p = read_expr 16 c s p

-- As its place in the sheet, which is how the code keeps it.
unfoldable pub located : List ℕ → Scope → ℕ → Res (Parsed ℕ)
located s c p = do
  e ← tree s c p
  ok (record { item = p; width = e.width; next = e.next })

-- The tree of what was read (an unknown constant where nothing was).
unfoldable pub tree_of : Res (Parsed Expr) → Expr
tree_of (ok e) = e.item
tree_of (no n p) = unknown 0

-- The tree of the expression at a place.
unfoldable pub expr_at : List ℕ → Scope → ℕ → Expr
expr_at s c p = tree_of (tree s c p)
