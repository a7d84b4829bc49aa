-- The module as Verilog text. It is text of the language that document 02's request [1] names, so that it can be read back: "simple names
-- declared by `input`, `reg` or `wire` with `[n:0]` or no range, sized constants known or all x", with the inputs as its ports.
--
-- Blocks. A statement is printed as one or more statements of a block, by what the request makes of them: "A `begin` block nests to the
-- right, an empty one or a bare `;` is 00h, `@` and what follows are a sequence". So what follows a wait stands in a block behind its
-- `@`, a sequence that is the first part of another stands in a block of its own, and the empty statement is an empty block (in a
-- block Annex A has no bare `;`). Read back, the text gives the same statement, but for a wait that opens no sequence: `@(..);` is the
-- sequence of the wait and the empty statement.
--
-- Widths. Verilog works an operand out at the widest width of its surroundings (IEEE 1364, expression bit lengths), document 01 at
-- its own. The two agree, since nothing in a sheet that was read is narrower than its surroundings: operands of 3 to 9 and both
-- arms of ?: have equal widths, and a target or wire has its expression's width. What has a width of its own has it in Verilog
-- too: the operands of == and < (their result is one bit), the operand of !, the condition of ?:, if and while. So ~ of a
-- comparison is worked out at one bit, (a == b) + c with a one-bit c wraps at one bit, and !a of a wide a is one bit in a
-- one-bit place. Every constant has its width and no sign, so < is unsigned.
--
-- Unknown values. x stands bit by bit, as in Verilog (document 02, request [4]): ~, &, |, ^ and ?: give the same bits, + - and < are
-- all x on any unknown bit. A condition holds in both if some known bit is 1; else if takes its second leg, and while ends.
--
-- A thread that can come round without a wait is text that Icarus refuses or never leaves; extraction refuses it too (17).
use Rattle.std.specs.Prelude.{ℕ, zero, suc, ◌+◌, ◌-◌, ◌*◌, List, [], ◌∷◌, ◌++◌, length, replicate, ltb}
use Rattle.values.specs.Values.{pick, ◌is◌then◌else◌}
use Rattle.values.specs.declared.Edge.{Edge}
use Rattle.values.specs.declared.Edge.TheVariants.{Change, Posedge, Negedge}
use Rattle.sheet.specs.declared.EdgeTerm.{EdgeTerm}
use Rattle.sheet.specs.Reading.{Res, ok, no}
use Rattle.sheet.specs.Expression.{Expr, variable, constant, unknown, unary, binary, conditional, call, Arguments, no_more, argument, Body, nothing, result, in_turn, Function}
use Rattle.sheet.specs.Expression as Tree
use Rattle.sheet.specs.Statement.{Stmt, empty, assign, later, sequence, if_then, if_else, while, forever, wait}
use Rattle.sheet.specs.Module.{Module, read}
use Rattle.writing.specs.Ascii.{ascii, byte}
use Rattle.writing.specs.Numbers.{decimal}
use Rattle.writing.specs.Buffer.{Text, filled, puts}
use Rattle.naming.specs.Naming.{plain_name, plain_table, name_of}
use Rattle.signs.specs.Signs.{sign, constant_text, unknown_text}

infixr 60 ◌&◌
-- One text and then the other.
abbrev pub ◌&◌ : List ℕ → List ℕ → List ℕ
◌&◌ a b = a ++ b

-- Two blanks a level.
unfoldable pub indent : ℕ → List ℕ
indent level = replicate (2 * level) (byte " ")

-- A separator in front of every item but the first.
unfoldable pub before : List ℕ → ℕ → List ℕ
before separator k = k is 0 then [] else separator

-- "edge (0 any change, 1 posedge, 2 negedge)"
unfoldable pub edge_text : Edge → List ℕ
edge_text Change = []
edge_text Posedge = ascii "posedge "
edge_text Negedge = ascii "negedge "

-- Of a variable that is wider than one bit.
unfoldable pub range_text : ℕ → List ℕ
range_text w = w is 1 then [] else ascii "[" & decimal (w - 1) & ascii ":0] "

-- What a variable is, with so many inputs and registers.
unfoldable pub direction_text : ℕ → ℕ → ℕ → List ℕ
direction_text i r v =
    pick (ltb v i) (ascii "input ")
    (pick (ltb v (i + r)) (ascii "reg ")
    (ascii "wire "))

-- ---- how a sequence is printed, by its first part: a wait, a sequence or any other statement

pub data Front : Type 0 where
  waiting : List EdgeTerm → Front
  nesting : Front
  single : Front

unfoldable pub front : Stmt Expr → Front
front empty = single
front (assign t e) = single
front (later t e) = single
front (sequence a b) = nesting
front (if_then e a) = single
front (if_else e a b) = single
front (while e a) = single
front (forever a) = single
front (wait ts) = waiting ts

-- ---- how a thread is printed: by the first part of a sequence, and what stands behind that part

unfoldable pub opening : Stmt Expr → Front
opening empty = single
opening (assign t e) = single
opening (later t e) = single
opening (sequence a b) = front a
opening (if_then e a) = single
opening (if_else e a b) = single
opening (while e a) = single
opening (forever a) = single
opening (wait ts) = single

unfoldable pub remainder : Stmt Expr → Stmt Expr
remainder empty = empty
remainder (assign t e) = empty
remainder (later t e) = empty
remainder (sequence a b) = b
remainder (if_then e a) = empty
remainder (if_else e a b) = empty
remainder (while e a) = empty
remainder (forever a) = empty
remainder (wait ts) = empty

-- name gives a variable's name.
module _ (name : ℕ → List ℕ) where
  -- ---- expressions: every operator with its operands stands in parentheses

  unfoldable mutual
    pub expr_text : Expr → List ℕ
    expr_text (variable v) = name v
    expr_text (constant w v) = constant_text w v
    expr_text (unknown w) = unknown_text w
    expr_text (unary o w a) = ascii "(" & sign o & expr_text a & ascii ")"
    expr_text (binary o w a b) = ascii "(" & expr_text a & sign o & expr_text b & ascii ")"
    expr_text (conditional c a b) = ascii "(" & expr_text c & ascii " ? " & expr_text a & ascii " : " & expr_text b & ascii ")"
    -- f0(a, b)
    expr_text (call n w ys b) = ascii "f" & decimal n & ascii "(" & arguments_text 0 ys & ascii ")"

    -- The arguments from the kth on.
    pub arguments_text : ℕ → Arguments → List ℕ
    arguments_text k no_more = []
    arguments_text k (argument e ys) = before (ascii ", ") k & expr_text e & arguments_text (k + 1) ys

  -- ---- waits: posedge i0 or negedge i2 or r1

  -- The wait's kth pair.
  unfoldable pub term_text : ℕ → EdgeTerm → List ℕ
  term_text k t = before (ascii " or ") k & edge_text t.edge & name t.variable

  -- Its pairs from the kth on.
  unfoldable pub terms_text : ℕ → List EdgeTerm → List ℕ
  terms_text k [] = []
  terms_text k (t ∷ ts) = term_text k t & terms_text (k + 1) ts

  -- ---- statements, n levels in, as they stand in a block; every body of theirs has a block of its own

  -- A sequence of two statements, which are printed so.
  unfoldable pub sequence_text : ℕ → Front → (ℕ → List ℕ) → (ℕ → List ℕ) → List ℕ
  sequence_text n (waiting ts) a b =
      indent n & ascii "@(" & terms_text 0 ts & ascii ") begin\n"
      & b (n + 1)
      & indent n & ascii "end\n"
  sequence_text n nesting a b =
      indent n & ascii "begin\n"
      & a (n + 1)
      & indent n & ascii "end\n"
      & b n
  sequence_text n single a b = a n & b n

  unfoldable pub stmt_text : ℕ → Stmt Expr → List ℕ
  stmt_text n empty = indent n & ascii "begin end\n"
  stmt_text n (assign t e) = indent n & name t & ascii " = " & expr_text e & ascii ";\n"
  stmt_text n (later t e) = indent n & name t & ascii " <= " & expr_text e & ascii ";\n"
  stmt_text n (sequence a b) = sequence_text n (front a) (λ l. stmt_text l a) (λ l. stmt_text l b)
  stmt_text n (if_then e a) =
      indent n & ascii "if (" & expr_text e & ascii ") begin\n"
      & stmt_text (n + 1) a
      & indent n & ascii "end\n"
  stmt_text n (if_else e a b) =
      indent n & ascii "if (" & expr_text e & ascii ") begin\n"
      & stmt_text (n + 1) a
      & indent n & ascii "end else begin\n"
      & stmt_text (n + 1) b
      & indent n & ascii "end\n"
  stmt_text n (while e a) =
      indent n & ascii "while (" & expr_text e & ascii ") begin\n"
      & stmt_text (n + 1) a
      & indent n & ascii "end\n"
  stmt_text n (forever a) =
      indent n & ascii "forever begin\n"
      & stmt_text (n + 1) a
      & indent n & ascii "end\n"
  stmt_text n (wait ts) = indent n & ascii "@(" & terms_text 0 ts & ascii ");\n"

  -- ---- the module's parts

  unfoldable pub port_text : ℕ → List ℕ
  port_text v = before (ascii ", ") v & name v

  -- The names of n variables, from v on.
  unfoldable pub ports_text : ℕ → ℕ → List ℕ
  ports_text zero v = []
  ports_text (suc n) v = port_text v & ports_text n (v + 1)

  -- An assignment for each wire, the first that of variable v.
  unfoldable pub wires_text : ℕ → List Expr → List ℕ
  wires_text v [] = []
  wires_text v (e ∷ es) = ascii "  assign " & name v & ascii " = " & expr_text e & ascii ";\n" & wires_text (v + 1) es

  -- "A thread is a forever of its statement": in a block, or, where the statement opens with a wait, in one behind that wait. Tools for
  -- synthesis take the latter form, where the thread has no other wait.
  unfoldable pub opened_text : Front → (ℕ → List ℕ) → (ℕ → List ℕ) → List ℕ
  opened_text (waiting ts) whole rest = ascii "  always " & ascii "@(" & terms_text 0 ts & ascii ") begin\n" & rest 2 & ascii "  end\n"
  opened_text nesting whole rest = ascii "  always begin\n" & whole 2 & ascii "  end\n"
  opened_text single whole rest = ascii "  always begin\n" & whole 2 & ascii "  end\n"

  unfoldable pub thread_text : Stmt Expr → List ℕ
  thread_text a = opened_text (opening a) (λ l. stmt_text l a) (λ l. stmt_text l (remainder a))

  unfoldable pub threads_text : List (Stmt Expr) → List ℕ
  threads_text [] = []
  threads_text (a ∷ bs) = thread_text a & threads_text bs

  -- One line for a variable of width w.
  unfoldable pub declaration_text : ℕ → ℕ → ℕ → ℕ → List ℕ
  declaration_text i r v w = ascii "  " & direction_text i r v & range_text w & name v & ascii ";\n"

  -- The variables from v on, by their widths.
  unfoldable pub declarations_text : ℕ → ℕ → ℕ → List ℕ → List ℕ
  declarations_text i r v [] = []
  declarations_text i r v (w ∷ ws) = declaration_text i r v w & declarations_text i r (v + 1) ws

-- ---- functions

-- A body as the statement that it is, with k parameters: "the next byte the result, the only target".
unfoldable pub statement_of : ℕ → Body → Stmt Expr
statement_of k nothing = empty
statement_of k (result e) = assign k e
statement_of k (in_turn a b) = sequence (statement_of k a) (statement_of k b)
statement_of k (Tree.if_then e a) = if_then e (statement_of k a)
statement_of k (Tree.if_else e a b) = if_else e (statement_of k a) (statement_of k b)

-- Its variables are named as those of a module with k inputs and one register: the parameters i0, .. and the result r0.
unfoldable pub own_name : ℕ → ℕ → List ℕ
own_name k = name_of (plain_table k 1)

-- The first line of function n, with a result of width w, and its last lines.
unfoldable pub function_head : ℕ → ℕ → List ℕ
function_head n w = ascii "  function automatic " & range_text w & ascii "f" & decimal n & ascii ";\n"

unfoldable pub function_end : ℕ → List ℕ
function_end n = ascii "    f" & decimal n & ascii " = r0;\n  end\n  endfunction\n"

-- Its result "starts unknown": a variable of an automatic function is x when a call begins (IEEE 1364, automatic functions), so that no
-- statement says it.
unfoldable pub function_text : ℕ → Function → List ℕ
function_text n f =
    let k = length f.parameters in
    function_head n f.result
    & declarations_text (own_name k) k 1 0 (f.parameters ++ (f.result ∷ []))
    & ascii "  begin\n"
    & stmt_text (own_name k) 2 (statement_of k f.body)
    & function_end n

-- The functions from the nth on.
unfoldable pub functions_text : ℕ → List Function → List ℕ
functions_text n [] = []
functions_text n (f ∷ fs) = function_text n f & functions_text (n + 1) fs

-- ---- the module

module _ (name : ℕ → List ℕ) where
  unfoldable pub module_text : Module Expr → List ℕ
  module_text m =
      let c = m.scope in
      ascii "module walbryts (" & ports_text name c.inputs 0 & ascii ");\n"
      & declarations_text name c.inputs c.registers 0 c.widths
      & functions_text 0 c.functions
      & wires_text name (c.inputs + c.registers) m.wires
      & threads_text name m.threads
      & ascii "endmodule\n"

-- ---- verilog_text: the module with plain names, i0.., r0.., w0..

unfoldable pub verilog_text : Module Expr → List ℕ
verilog_text m = module_text (plain_name m.scope.inputs m.scope.registers) m

-- ---- printed: what the call gives: number 0 and the text, with the names of a table, at the front of the buffer, or the refusal's number
-- and the buffer as it was. What would pass the buffer's end isn't put.

pub record Answer : Type 0 where
  pub number : ℕ
  pub text : Text

abbrev pub answer : ℕ → Text → Answer
answer number text = record { number = number; text = text }

unfoldable pub printed : List ℕ → List ℕ → Res (Module Expr) → Answer
printed names buffer (ok m) = answer 0 (puts (filled buffer 0) (module_text (name_of names) m))
printed names buffer (no n p) = answer n (filled buffer 0)

unfoldable pub verilog_of : List ℕ → List ℕ → List ℕ → Answer
verilog_of s names buffer = printed names buffer (read s)
