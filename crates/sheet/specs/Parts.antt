-- What the parts of the reader answer: the contracts of the functions that read a byte,
-- a node, a pair, a form, the head, the wires and the threads.
use Rattle.std.specs.Prelude.{◌≡◌, ℕ, zero, suc, ◌+◌, ◌-◌, List, [], ◌∷◌, ◌++◌, length, get_or, take, drop, replicate, ltb, leb}
use Rattle.std.proofs.lemmas.List.Edits.{sets}
use Rattle.values.specs.Values.{pick}
use Rattle.sheet.specs.Reading.{Res, ok, no}
use Rattle.sheet.specs.Expression.{nothing, Function, Scope, Kind, function_at, Passed, same_widths, node, read_expr, located}
use Rattle.sheet.specs.Statement.{Form, narrow_all, form, read_stmt}
use Rattle.sheet.specs.Functions.{Bodied, body_form, read_body, Made, Defined}
use Rattle.sheet.specs.Module.{Listed, widths_at, Head}
use Rattle.sheet.specs.Answers.{expr_answer, stmt_answer}
use Rattle.sheet.specs.declared.EdgeTerm.{EdgeTerm}
use Rattle.sheet.specs.declared.ByteRead as ByteRead
use Rattle.sheet.specs.declared.ExprRead as ExprRead
use Rattle.sheet.specs.declared.TermsRead as TermsRead
use Rattle.sheet.specs.declared.StmtRead as StmtRead
use Rattle.sheet.specs.declared.WidthsRead as WidthsRead
use Rattle.sheet.specs.declared.HeadRead as HeadRead
use Rattle.sheet.specs.declared.PlaceRead as PlaceRead
use Rattle.sheet.specs.declared.WiresRead.{WiresRead}
use Rattle.sheet.specs.declared.ArgumentsRead as ArgumentsRead
use Rattle.sheet.specs.declared.FunctionsRead.{FunctionsRead}

-- ---- a byte

unfoldable pub byte_answer : Res ℕ → ByteRead.ByteRead
byte_answer (ok b) = ByteRead.TheVariants.Byte b
byte_answer (no n p) = ByteRead.TheVariants.Refused n p

-- ---- the node at p, of kind k, with so many levels left for its operands

abbrev pub scope_of : ℕ → ℕ → List ℕ → ℕ → List Function → Scope
scope_of inputs registers ws declared fs =
    record { inputs = inputs; registers = registers; widths = ws; declared = declared; functions = fs }

abbrev pub node_answer : ℕ → Scope → List ℕ → ℕ → Kind → ExprRead.ExprRead
node_answer depth c s p k = expr_answer (node (read_expr depth c s) c s p k)

-- A node in which no function is called: of the scope it asks for the widths alone.
abbrev pub leaf_answer : List ℕ → List ℕ → ℕ → Kind → ExprRead.ExprRead
leaf_answer ws s p k = node_answer 0 (scope_of 0 0 ws 0 []) s p k

-- ---- functions as the code knows them: by the places of their definitions

unfoldable pub least : ℕ → ℕ → ℕ
least a b = pick (leb a b) a b

-- Where the widths of its parameters begin, and where its result's width stands; the sheet's end where it is cut short.
unfoldable pub parameters_at : List ℕ → ℕ → ℕ
parameters_at s d = least (d + 1) (length s)

unfoldable pub result_at : List ℕ → ℕ → ℕ
result_at s d = least (parameters_at s d + get_or s d 0) (length s)

-- The function whose definition stands at d, without its body.
unfoldable pub outline_at : List ℕ → ℕ → Function
outline_at s d =
    record {
      parameters = take (result_at s d - parameters_at s d) (drop (parameters_at s d) s);
      result = get_or s (result_at s d) 0;
      body = nothing;
    }

-- The place of definition n, of at most 8.
unfoldable pub definition_at : List ℕ → ℕ → ℕ
definition_at ds n = pick (ltb n 8) (get_or ds n 0) 0

-- The first k of those whose definitions stand at these places.
unfoldable pub outlines : List ℕ → List ℕ → ℕ → List Function
outlines s ds zero = []
outlines s ds (suc k) = outlines s ds k ++ (outline_at s (definition_at ds k) ∷ [])

-- ---- what holds for every scope with these variables' widths and these functions

-- A byte names a function, by how many there are and how many may be called.
abbrev pub FunctionNamed : ByteRead.ByteRead → ℕ → ℕ → List ℕ → ℕ → Type 0
FunctionNamed r declared callable s p =
    (i g : ℕ) (ws : List ℕ) (fs : List Function) → length fs ≡ callable → r ≡ byte_answer (function_at (scope_of i g ws declared fs) s p)

-- An expression, however many of the variables are inputs and registers.
abbrev pub ExprFound : ExprRead.ExprRead → List ℕ → ℕ → List Function → List ℕ → ℕ → Type 0
ExprFound r ws declared fs s p = (i g : ℕ) → r ≡ expr_answer (located s (scope_of i g ws declared fs) p)

-- ---- a call's arguments: where they end, and whether their widths are the parameters'

unfoldable pub arguments_answer : List ℕ → Res Passed → ArgumentsRead.ArgumentsRead
arguments_answer ps (ok es) = ArgumentsRead.TheVariants.Read es.next (same_widths ps es.widths)
arguments_answer ps (no n p) = ArgumentsRead.TheVariants.Refused n p

-- ---- the pairs of a wait

unfoldable pub terms_answer : List ℕ → Res (List EdgeTerm) → TermsRead.TermsRead
terms_answer ws (ok ts) = TermsRead.TheVariants.Read (narrow_all ws ts)
terms_answer ws (no n p) = TermsRead.TheVariants.Refused n p

-- ---- the statement at p, of form f, with so many levels left for the statements in it

abbrev pub form_answer : ℕ → Scope → List ℕ → ℕ → Form → StmtRead.StmtRead
form_answer depth c s p f = stmt_answer (form (located s) c s (read_stmt (located s) c s depth) p f)

-- ---- a body

unfoldable pub body_answer : Res Bodied → PlaceRead.PlaceRead
body_answer (ok b) = PlaceRead.TheVariants.At b.next
body_answer (no n p) = PlaceRead.TheVariants.Refused n p

abbrev pub body_form_answer : ℕ → Scope → List ℕ → ℕ → Form → PlaceRead.PlaceRead
body_form_answer depth c s p f = body_answer (body_form (read_body depth c s) c s p f)

-- ---- one function, and all of them: their places stand in the table from k on; it is blank where they are refused

unfoldable pub function_answer : Res Made → PlaceRead.PlaceRead
function_answer (ok f) = PlaceRead.TheVariants.At f.next
function_answer (no n p) = PlaceRead.TheVariants.Refused n p

unfoldable pub defined : List ℕ → ℕ → Res Defined → FunctionsRead
defined places k (ok d) = record { read = PlaceRead.TheVariants.At d.next; definitions = sets places k d.places }
defined places k (no n p) = record { read = PlaceRead.TheVariants.Refused n p; definitions = replicate 8 0 }

abbrev pub functions_answer : Res Defined → FunctionsRead
functions_answer x = defined (replicate 8 0) 0 x

-- ---- the widths

unfoldable pub widths_answer : Res (List ℕ) → WidthsRead.WidthsRead
widths_answer (ok ws) = WidthsRead.TheVariants.Fine
widths_answer (no n p) = WidthsRead.TheVariants.Refused n p

-- ---- the head

unfoldable pub head_answer : Res Head → HeadRead.HeadRead
head_answer (ok h) = HeadRead.TheVariants.Read h.scope.inputs h.scope.registers h.wires h.threads h.scope.declared
head_answer (no n p) = HeadRead.TheVariants.Refused n p

-- The head with these counts: its widths are a part of the sheet.
abbrev pub head_of : List ℕ → ℕ → ℕ → ℕ → ℕ → ℕ → Head
head_of s i r w t n =
    record { scope = scope_of i r (take (i + r + w) (drop (widths_at n) s)) n []; wires = w; threads = t; next = widths_at n + (i + r + w) }

-- ---- a row of expressions or statements

unfoldable pub place_answer : {A : Type 0} → Res (Listed A) → PlaceRead.PlaceRead
place_answer (ok l) = PlaceRead.TheVariants.At l.next
place_answer (no n p) = PlaceRead.TheVariants.Refused n p

-- ---- the wires: their places stand in the table from k on; it is blank where they are refused

unfoldable pub filled : List ℕ → ℕ → Res (Listed ℕ) → WiresRead
filled starts k (ok l) = record { read = PlaceRead.TheVariants.At l.next; starts = sets starts k l.items }
filled starts k (no n p) = record { read = PlaceRead.TheVariants.Refused n p; starts = replicate 32 0 }

abbrev pub wires_answer : Res (Listed ℕ) → WiresRead
wires_answer x = filled (replicate 32 0) 0 x
