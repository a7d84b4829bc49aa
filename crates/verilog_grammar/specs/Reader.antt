-- The reader of a list of tokens: one step of lookahead, operators by precedence climbing. `proofs/` shows that it reads what Annex A
-- derives and nothing else. A refusal holds how many tokens are left where it is met.
use Rattle.std.specs.Prelude.{Bool, true, false, List, [], ◌∷◌, ℕ, zero, suc, ◌+◌, leb, eqb, length}
use Rattle.std.proofs.Math.Option.{Option, none as nothing, some as just}
use Rattle.values.specs.Values.{pick}
use Rattle.values.specs.declared.Edge.{Edge}
use Rattle.values.specs.declared.Edge.TheVariants.{Change, Posedge, Negedge}
use Rattle.sheet.specs.declared.EdgeTerm.{EdgeTerm}
use Rattle.sheet.specs.Expression.{Expr}
use Rattle.sheet.specs.Statement.{Stmt, empty, assign as assigns, later, sequence, if_then, if_else, while, forever, wait}
use Rattle.writing.specs.Ascii.{ascii}
use Rattle.naming.specs.Naming.{same_text}
use Rattle.verilog_tokens.specs.Tokens.{Token, terminal, name, number, known, unknown, broken, Name}
use Rattle.verilog_grammar.specs.AnnexA.{Unary, negation, complement, Binary, plus, minus, equals, less, conjunction, disjunction, exclusive, unary_sign, binary_sign, Number, sized, sized_x, Expression, Primary, only, prefixed, joined, chosen, identified, numbered, bracketed}
use Rattle.verilog_grammar.specs.Conditions.{precedence}
use Rattle.verilog_grammar.specs.Meaning.{Arm, on, otherwise, case_of, block_of, number_expr, Kind, an_input, a_register, a_wire, Driven, Part, declares, drives, runs, Source, expr_of, term_of}

infixl 20 ◌>>=◌
infixl 20 ◌>>◌
-- ---- readers

pub data Res (A : Type 0) : Type 0 where
  ok : A → List Token → Res A
  no : ℕ → Res A

abbrev pub Reader : Type 0 → Type 0
Reader A = List Token → Res A

abbrev pub bind : {A B : Type 0} → Res A → (A → Reader B) → Res B
bind (ok a ts) f = f a ts
bind (no n) f = no n

abbrev pub ◌>>=◌ : {A B : Type 0} → Reader A → (A → Reader B) → Reader B
◌>>=◌ m f ts = bind (m ts) f

abbrev pub ◌>>◌ : {B : Type 0} → Reader (Unit {0}) → Reader B → Reader B
◌>>◌ m n ts = bind (m ts) (λ u. n)

abbrev pub give : {A : Type 0} → A → Reader A
give a ts = ok a ts

unfoldable pub refuse : {A : Type 0} → Reader A
refuse ts = no (length ts)

-- ---- one token

unfoldable pub is_mark : List ℕ → Token → Bool
is_mark s (terminal t) = same_text s t
is_mark s (name n) = false
is_mark s (number b n) = false
is_mark s (known v) = false
is_mark s unknown = false
is_mark s broken = false

unfoldable pub starts : List ℕ → List Token → Bool
starts s [] = false
starts s (t ∷ ts) = is_mark s t

unfoldable pub if_next : {A : Type 0} → List ℕ → Reader A → Reader A → Reader A
if_next s a b ts = pick (starts s ts) a b ts

unfoldable pub expect : List ℕ → Reader (Unit {0})
expect s [] = no 0
expect s (t ∷ ts) = pick (is_mark s t) (ok tt ts) (no (suc (length ts)))

unfoldable pub is_name : List Token → Bool
is_name [] = false
is_name (terminal s ∷ ts) = false
is_name (name n ∷ ts) = true
is_name (number b n ∷ ts) = false
is_name (known v ∷ ts) = false
is_name (unknown ∷ ts) = false
is_name (broken ∷ ts) = false

unfoldable pub ident : Reader Name
ident [] = no 0
ident (terminal s ∷ ts) = no (suc (length ts))
ident (name n ∷ ts) = ok n ts
ident (number b n ∷ ts) = no (suc (length ts))
ident (known v ∷ ts) = no (suc (length ts))
ident (unknown ∷ ts) = no (suc (length ts))
ident (broken ∷ ts) = no (suc (length ts))

-- size: an unsigned_number whose first digit isn't 0
unfoldable pub size : Reader ℕ
size [] = no 0
size (terminal s ∷ ts) = no (suc (length ts))
size (name n ∷ ts) = no (suc (length ts))
size (number true n ∷ ts) = ok n ts
size (number false n ∷ ts) = no (suc (length ts))
size (known v ∷ ts) = no (suc (length ts))
size (unknown ∷ ts) = no (suc (length ts))
size (broken ∷ ts) = no (suc (length ts))

unfoldable pub unsigned : Reader ℕ
unsigned [] = no 0
unsigned (terminal s ∷ ts) = no (suc (length ts))
unsigned (name n ∷ ts) = no (suc (length ts))
unsigned (number b n ∷ ts) = ok n ts
unsigned (known v ∷ ts) = no (suc (length ts))
unsigned (unknown ∷ ts) = no (suc (length ts))
unsigned (broken ∷ ts) = no (suc (length ts))

-- an unsigned_number of value 0
unfoldable pub naught : Reader (Unit {0})
naught [] = no 0
naught (terminal s ∷ ts) = no (suc (length ts))
naught (name n ∷ ts) = no (suc (length ts))
naught (number b zero ∷ ts) = ok tt ts
naught (number b (suc n) ∷ ts) = no (suc (length ts))
naught (known v ∷ ts) = no (suc (length ts))
naught (unknown ∷ ts) = no (suc (length ts))
naught (broken ∷ ts) = no (suc (length ts))

-- the value behind a size, known or not; the value of a label
unfoldable pub valued : ℕ → Reader Number
valued w [] = no 0
valued w (terminal s ∷ ts) = no (suc (length ts))
valued w (name n ∷ ts) = no (suc (length ts))
valued w (number b n ∷ ts) = no (suc (length ts))
valued w (known v ∷ ts) = ok (sized w v) ts
valued w (unknown ∷ ts) = ok (sized_x w) ts
valued w (broken ∷ ts) = no (suc (length ts))

unfoldable pub known_value : Reader ℕ
known_value [] = no 0
known_value (terminal s ∷ ts) = no (suc (length ts))
known_value (name n ∷ ts) = no (suc (length ts))
known_value (number b n ∷ ts) = no (suc (length ts))
known_value (known v ∷ ts) = ok v ts
known_value (unknown ∷ ts) = no (suc (length ts))
known_value (broken ∷ ts) = no (suc (length ts))

-- ---- expressions

unfoldable pub identifier : Reader Primary
identifier = do
  n ← ident
  give (identified n)

unfoldable pub constant : Reader Primary
constant = do
  w ← size
  n ← valued w
  give (numbered n)

unfoldable pub brackets : Reader Expression → Reader Primary
brackets inner = do
  expect (ascii "(")
  e ← inner
  expect (ascii ")")
  give (bracketed e)

unfoldable pub atom : Reader Primary
atom ts = pick (is_name ts) identifier constant ts

unfoldable pub primary : Reader Expression → Reader Primary
primary inner = if_next (ascii "(") (brackets inner) atom

-- unary_operator primary, or a primary
unfoldable pub prefix : Unary → Reader Expression → Reader Expression
prefix u inner = do
  expect (unary_sign u)
  p ← primary inner
  give (prefixed u p)

unfoldable pub plain : Reader Expression → Reader Expression
plain inner = do
  p ← primary inner
  give (only p)

unfoldable pub operand : Reader Expression → Reader Expression
operand inner = if_next (ascii "~") (prefix complement inner) (if_next (ascii "!") (prefix negation inner) (plain inner))

-- The binary operator in front of a list.
unfoldable pub operator : List Token → Option Binary
operator ts =
    pick (starts (ascii "+") ts) (just plus)
    (pick (starts (ascii "-") ts) (just minus)
    (pick (starts (ascii "<") ts) (just less)
    (pick (starts (ascii "==") ts) (just equals)
    (pick (starts (ascii "&") ts) (just conjunction)
    (pick (starts (ascii "^") ts) (just exclusive)
    (pick (starts (ascii "|") ts) (just disjunction)
    nothing))))))

-- Binary operators of level k and closer, to the left. `inner` reads a right operand of a level, `again` what follows.
unfoldable pub join : (ℕ → Reader Expression) → (Expression → Reader Expression) → Expression → Binary → Reader Expression
join inner again l o = do
  expect (binary_sign o)
  r ← inner (precedence o + 1)
  again (joined l o r)

unfoldable pub turn : (ℕ → Reader Expression) → (Expression → Reader Expression) → ℕ → Expression → Option Binary → Reader Expression
turn inner again k l nothing = give l
turn inner again k l (just o) = pick (leb k (precedence o)) (join inner again l o) (give l)

unfoldable pub climb : (ℕ → Reader Expression) → ℕ → ℕ → Expression → Reader Expression
climb inner zero k l = refuse
climb inner (suc g) k l = λ ts. turn inner (climb inner g k) k l (operator ts) ts

-- The arms of ?:, where the level asks for them.
unfoldable pub choice : Reader Expression → Expression → Reader Expression
choice inner c = do
  expect (ascii "?")
  a ← inner
  expect (ascii ":")
  b ← inner
  give (chosen c a b)

unfoldable pub arms : Reader Expression → ℕ → Expression → Reader Expression
arms inner k c = pick (leb k 1) (if_next (ascii "?") (choice inner c) (give c)) (give c)

-- An operand and the operators behind it, of level k and closer.
unfoldable pub start : (ℕ → Reader Expression) → ℕ → ℕ → Reader Expression
start inner f k = do
  l ← operand (inner 1)
  climb inner (suc f) k l

-- An expression of level k or closer.
unfoldable pub reader : ℕ → ℕ → Reader Expression
reader zero k = refuse
reader (suc f) k = do
  c ← start (reader f) f k
  arms (reader f 1) k c

unfoldable pub expression : Reader Expression
expression ts = reader (length ts) 1 ts

-- ( expression )
unfoldable pub condition : Reader Expression
condition = do
  expect (ascii "(")
  e ← expression
  expect (ascii ")")
  give e

-- ---- lists: thing { , thing }

unfoldable pub further_listed : {A : Type 0} → Reader (List A) → A → Reader (List A)
further_listed rest a = do
  expect (ascii ",")
  xs ← rest
  give (a ∷ xs)

unfoldable pub listed : {A : Type 0} → Reader A → ℕ → Reader (List A)
listed thing zero = refuse
listed thing (suc g) = do
  a ← thing
  if_next (ascii ",") (further_listed (listed thing g) a) (give (a ∷ []))

unfoldable pub list : {A : Type 0} → Reader A → Reader (List A)
list thing ts = listed thing (length ts) ts

-- ---- over the number of each name

module _ (index : List ℕ → ℕ) where
  -- ---- events

  unfoldable pub edge : List ℕ → Edge → Reader EdgeTerm
  edge s e = do
    expect s
    n ← ident
    give (term_of index e n)

  unfoldable pub change : Reader EdgeTerm
  change = do
    n ← ident
    give (term_of index Change n)

  unfoldable pub event : Reader EdgeTerm
  event = if_next (ascii "posedge") (edge (ascii "posedge") Posedge) (if_next (ascii "negedge") (edge (ascii "negedge") Negedge) change)

  unfoldable pub further_events : Reader (List EdgeTerm) → EdgeTerm → List ℕ → Reader (List EdgeTerm)
  further_events rest t s = do
    expect s
    ts ← rest
    give (t ∷ ts)

  unfoldable pub more_events : Reader (List EdgeTerm) → EdgeTerm → Reader (List EdgeTerm)
  more_events rest t =
      if_next (ascii "or") (further_events rest t (ascii "or"))
      (if_next (ascii ",") (further_events rest t (ascii ",")) (give (t ∷ [])))

  unfoldable pub events : ℕ → Reader (List EdgeTerm)
  events zero = refuse
  events (suc g) = do
    t ← event
    more_events (events g) t

  unfoldable pub event_list : Reader (List EdgeTerm)
  event_list = do
    expect (ascii "(")
    es ← (λ ts. events (length ts) ts)
    expect (ascii ")")
    give es

  unfoldable pub event_name : Reader (List EdgeTerm)
  event_name = do
    t ← change
    give (t ∷ [])

  unfoldable pub control : Reader (List EdgeTerm)
  control = do
    expect (ascii "@")
    if_next (ascii "(") event_list event_name

  -- ---- statements; `inner` reads one within

  unfoldable pub blocking_to : Name → Reader (Stmt Expr)
  blocking_to n = do
    expect (ascii "=")
    e ← expression
    expect (ascii ";")
    give (assigns (index n.spelled) (expr_of index e))

  unfoldable pub nonblocking_to : Name → Reader (Stmt Expr)
  nonblocking_to n = do
    expect (ascii "<=")
    e ← expression
    expect (ascii ";")
    give (later (index n.spelled) (expr_of index e))

  unfoldable pub assignment : Reader (Stmt Expr)
  assignment = do
    n ← ident
    if_next (ascii "=") (blocking_to n) (nonblocking_to n)

  unfoldable pub null_statement : Reader (Stmt Expr)
  null_statement = do
    expect (ascii ";")
    give empty

  unfoldable pub or_null : Reader (Stmt Expr) → Reader (Stmt Expr)
  or_null inner = if_next (ascii ";") null_statement inner

  unfoldable pub else_part : Reader (Stmt Expr) → Expr → Stmt Expr → Reader (Stmt Expr)
  else_part inner e a = do
    expect (ascii "else")
    b ← or_null inner
    give (if_else e a b)

  -- each `else` at the nearest `if`
  unfoldable pub or_else : Reader (Stmt Expr) → Expr → Stmt Expr → Reader (Stmt Expr)
  or_else inner e a = if_next (ascii "else") (else_part inner e a) (give (if_then e a))

  unfoldable pub conditional : Reader (Stmt Expr) → Reader (Stmt Expr)
  conditional inner = do
    expect (ascii "if")
    e ← condition
    a ← or_null inner
    or_else inner (expr_of index e) a

  unfoldable pub while_loop : Reader (Stmt Expr) → Reader (Stmt Expr)
  while_loop inner = do
    expect (ascii "while")
    e ← condition
    a ← inner
    give (while (expr_of index e) a)

  unfoldable pub forever_loop : Reader (Stmt Expr) → Reader (Stmt Expr)
  forever_loop inner = do
    expect (ascii "forever")
    a ← inner
    give (forever a)

  unfoldable pub timing : Reader (Stmt Expr) → Reader (Stmt Expr)
  timing inner = do
    es ← control
    a ← or_null inner
    give (sequence (wait es) a)

  unfoldable pub block_end : Reader (List (Stmt Expr))
  block_end = do
    expect (ascii "end")
    give []

  unfoldable pub block_more : Reader (Stmt Expr) → Reader (List (Stmt Expr)) → Reader (List (Stmt Expr))
  block_more inner rest = do
    a ← inner
    xs ← rest
    give (a ∷ xs)

  unfoldable pub statements : Reader (Stmt Expr) → ℕ → Reader (List (Stmt Expr))
  statements inner zero = refuse
  statements inner (suc g) = if_next (ascii "end") block_end (block_more inner (statements inner g))

  unfoldable pub block : Reader (Stmt Expr) → Reader (Stmt Expr)
  block inner = do
    expect (ascii "begin")
    xs ← (λ ts. statements inner (length ts) ts)
    give (block_of xs)

  -- ---- case: n of its items are its default so far

  unfoldable pub colon : Reader (Unit {0})
  colon = if_next (ascii ":") (expect (ascii ":")) (give tt)

  unfoldable pub default_item : Reader (Stmt Expr) → Reader Arm
  default_item inner = do
    expect (ascii "default")
    colon
    a ← or_null inner
    give (otherwise a)

  unfoldable pub labelled_item : Reader (Stmt Expr) → Reader Arm
  labelled_item inner = do
    w ← size
    v ← known_value
    expect (ascii ":")
    a ← or_null inner
    give (on (number_expr (sized w v)) a)

  unfoldable pub items_end : Arm → Reader (List Arm)
  items_end i = do
    expect (ascii "endcase")
    give (i ∷ [])

  unfoldable pub items_more : Reader (List Arm) → Arm → Reader (List Arm)
  items_more rest i = do
    is ← rest
    give (i ∷ is)

  unfoldable pub items_behind : Reader (List Arm) → Arm → Reader (List Arm)
  items_behind rest i = if_next (ascii "endcase") (items_end i) (items_more rest i)

  unfoldable pub default_first : Reader (Stmt Expr) → Reader (List Arm) → Reader (List Arm)
  default_first inner rest = do
    i ← default_item inner
    items_behind rest i

  unfoldable pub label_first : Reader (Stmt Expr) → Reader (List Arm) → Reader (List Arm)
  label_first inner rest = do
    i ← labelled_item inner
    items_behind rest i

  unfoldable pub case_items : Reader (Stmt Expr) → ℕ → ℕ → Reader (List Arm)
  case_items inner zero n = refuse
  case_items inner (suc g) n =
      if_next (ascii "default")
      (pick (eqb n 0) (default_first inner (case_items inner g (suc n))) refuse)
      (label_first inner (case_items inner g n))

  unfoldable pub case_statement : Reader (Stmt Expr) → Reader (Stmt Expr)
  case_statement inner = do
    expect (ascii "case")
    e ← condition
    xs ← (λ ts. case_items inner (length ts) 0 ts)
    give (case_of (expr_of index e) xs)

  -- ---- the statement in front of a list

  unfoldable pub statement_by : Reader (Stmt Expr) → Reader (Stmt Expr)
  statement_by inner =
      if_next (ascii "if") (conditional inner)
      (if_next (ascii "case") (case_statement inner)
      (if_next (ascii "while") (while_loop inner)
      (if_next (ascii "forever") (forever_loop inner)
      (if_next (ascii "@") (timing inner)
      (if_next (ascii "begin") (block inner)
      assignment)))))

  unfoldable pub statement : ℕ → Reader (Stmt Expr)
  statement zero = refuse
  statement (suc f) = statement_by (statement f)

  -- ---- modules

  unfoldable pub bounds : Reader ℕ
  bounds = do
    expect (ascii "[")
    n ← unsigned
    expect (ascii ":")
    naught
    expect (ascii "]")
    give (n + 1)

  unfoldable pub range : Reader ℕ
  range = if_next (ascii "[") bounds (give 1)

  unfoldable pub declaration : List ℕ → Kind → Reader Part
  declaration s k = do
    expect s
    w ← range
    ns ← list ident
    expect (ascii ";")
    give (declares k w ns)

  unfoldable pub net_assignment : Reader Driven
  net_assignment = do
    n ← ident
    expect (ascii "=")
    e ← expression
    give (record { target = n; value = expr_of index e })

  unfoldable pub continuous_assign : Reader Part
  continuous_assign = do
    expect (ascii "assign")
    ds ← list net_assignment
    expect (ascii ";")
    give (drives ds)

  unfoldable pub always_construct : Reader Part
  always_construct = do
    expect (ascii "always")
    a ← (λ ts. statement (length ts) ts)
    give (runs a)

  unfoldable pub module_item : Reader Part
  module_item =
      if_next (ascii "input") (declaration (ascii "input") an_input)
      (if_next (ascii "reg") (declaration (ascii "reg") a_register)
      (if_next (ascii "wire") (declaration (ascii "wire") a_wire)
      (if_next (ascii "assign") continuous_assign always_construct)))

  unfoldable pub module_end : Reader (List Part)
  module_end = do
    expect (ascii "endmodule")
    give []

  unfoldable pub module_more : Reader (List Part) → Reader (List Part)
  module_more rest = do
    p ← module_item
    ps ← rest
    give (p ∷ ps)

  unfoldable pub module_items : ℕ → Reader (List Part)
  module_items zero = refuse
  module_items (suc g) = if_next (ascii "endmodule") module_end (module_more (module_items g))

  -- "one module": nothing stands behind it
  unfoldable pub ended : Reader (Unit {0})
  ended [] = ok tt []
  ended (t ∷ ts) = no (suc (length ts))

  unfoldable pub read_module : Reader Source
  read_module = do
    expect (ascii "module")
    n ← ident
    expect (ascii "(")
    ns ← list ident
    expect (ascii ")")
    expect (ascii ";")
    ps ← (λ ts. module_items (length ts) ts)
    ended
    give (record { title = n; ports = ns; parts = ps })
