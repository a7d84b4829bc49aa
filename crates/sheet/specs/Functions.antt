-- Functions of the sheet (document 02, [5]): "Each function gives its parameter count (1 to 4), their widths, its result's
-- width and a body, all between the variables' widths and the wires' expressions."
use Rattle.std.specs.Prelude.{ℕ, zero, suc, ◌+◌, List, [], ◌∷◌, ◌++◌, get_or, take, eqb}
use Rattle.sheet.specs.Reading.{Res, ok, no, ◌>>=◌, ◌>>◌, check, byte_at, within}
use Rattle.sheet.specs.Expression.{Body, nothing, result, in_turn, if_then, if_else, Function, Scope, read_expr}
use Rattle.sheet.specs.Statement.{is_register, Form, an_empty, an_assign, a_later, a_sequence, an_if, an_if_else, a_while, a_forever, a_wait, form_of}

-- ---- widths: "one width byte for each variable (1 to 32)"

unfoldable pub read_widths : ℕ → List ℕ → ℕ → Res (List ℕ)
read_widths zero s at = ok []
read_widths (suc n) s at = do
  w ← within 1 32 4 s at
  ws ← read_widths n s (at + 1)
  ok (w ∷ ws)

-- ---- bodies

-- What was read of a body, and the next place.
pub record Bodied : Type 0 where
  pub body : Body
  pub next : ℕ

-- The fields of the body's statement whose map stands at p. `inner` reads a statement of the body at a place.
-- "It refuses .. a body with a wait, loop or later assignment (45) .. when the map is" read.
unfoldable pub body_form : (ℕ → Res Bodied) → Scope → List ℕ → ℕ → Form → Res Bodied
body_form inner c s p an_empty = ok (record { body = nothing; next = p + 1 })
body_form inner c s p an_assign = do
  t ← byte_at s (p + 1)
  check (is_register c t) 9 (p + 1)
  e ← read_expr 16 c s (p + 2)
  check (eqb e.width (get_or c.widths t 0)) 8 p
  ok (record { body = result e.item; next = e.next })
body_form inner c s p a_later = no 45 p
body_form inner c s p a_sequence = do
  a ← inner (p + 1)
  b ← inner a.next
  ok (record { body = in_turn a.body b.body; next = b.next })
body_form inner c s p an_if = do
  e ← read_expr 16 c s (p + 1)
  a ← inner e.next
  ok (record { body = if_then e.item a.body; next = a.next })
body_form inner c s p an_if_else = do
  e ← read_expr 16 c s (p + 1)
  a ← inner e.next
  b ← inner a.next
  ok (record { body = if_else e.item a.body b.body; next = b.next })
body_form inner c s p a_while = no 45 p
body_form inner c s p a_forever = no 45 p
body_form inner c s p a_wait = no 45 p

-- The body's statement at p, with so many levels left.
unfoldable pub read_body : ℕ → Scope → List ℕ → ℕ → Res Bodied
read_body zero c s p = do
  m ← byte_at s p
  no 7 p
read_body (suc d) c s p = do
  m ← byte_at s p
  f ← form_of m p
  body_form (read_body d c s) c s p f

-- ---- one function

-- "Inside a body, variable bytes 0 up name the parameters and the next byte the result, the only target": of the widths,
-- k are the parameters' and the last is the result's. It may call the earlier functions.
unfoldable pub body_scope : ℕ → List Function → ℕ → List ℕ → Scope
body_scope declared earlier k ws = record { inputs = k; registers = 1; widths = ws; declared = declared; functions = earlier }

unfoldable pub function_of : ℕ → List ℕ → Body → Function
function_of k ws b = record { parameters = take k ws; result = get_or ws k 0; body = b }

-- A function that was read, and the next place.
pub record Made : Type 0 where
  pub function : Function
  pub next : ℕ

-- The function at p, behind the earlier ones.
unfoldable pub read_function : ℕ → List Function → List ℕ → ℕ → Res Made
read_function declared earlier s p = do
  k ← within 1 4 3 s p
  ws ← read_widths (k + 1) s (p + 1)
  b ← read_body 64 (body_scope declared earlier k ws) s (p + 2 + k)
  ok (record { function = function_of k ws b.body; next = b.next })

-- ---- all functions

-- Functions that were read, the places at which those read last stand, and the next place.
pub record Defined : Type 0 where
  pub functions : List Function
  pub places : List ℕ
  pub next : ℕ

-- n more of the functions that the sheet has, from p on, behind the earlier ones.
unfoldable pub read_functions : ℕ → ℕ → List Function → List ℕ → ℕ → Res Defined
read_functions declared zero earlier s p = ok (record { functions = earlier; places = []; next = p })
read_functions declared (suc n) earlier s p = do
  f ← read_function declared earlier s p
  fs ← read_functions declared n (earlier ++ (f.function ∷ [])) s f.next
  ok (record { functions = fs.functions; places = p ∷ fs.places; next = fs.next })
