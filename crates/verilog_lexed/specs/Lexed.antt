-- The tokens of the printed module: the printer's definition (verilog/specs/Verilog.antt) with tokens in place of bytes.
-- A name's token holds the place of its first byte in the text. So each definition is handed what follows as a function of the place
-- at which that begins, and is such a function itself.
use Rattle.std.specs.Prelude.{ℕ, zero, suc, ◌+◌, ◌-◌, ◌*◌, not, List, [], ◌∷◌, ◌++◌, length, ltb, eqb}
use Prim.Native.String.{String}
use Rattle.values.specs.Values.{pick, ◌is◌then◌else◌}
use Rattle.values.specs.declared.Edge.{Edge}
use Rattle.values.specs.declared.Edge.TheVariants.{Change, Posedge, Negedge}
use Rattle.sheet.specs.declared.EdgeTerm.{EdgeTerm}
use Rattle.sheet.specs.Expression.{Expr, variable, constant, unknown, unary, binary, conditional, call, Arguments, no_more, argument}
use Rattle.sheet.specs.Statement.{Stmt, empty, assign, later, sequence, if_then, if_else, while, forever, wait}
use Rattle.sheet.specs.Module.{Module}
use Rattle.writing.specs.Ascii.{ascii}
use Rattle.writing.specs.Numbers.{decimal}
use Rattle.naming.specs.Naming.{plain_name}
use Rattle.verilog.specs.Verilog.{Front, waiting, nesting, single, front, opening, remainder}
use Rattle.verilog_tokens.specs.Tokens.{Token, terminal, name, number, known, unknown as unvalued}

-- The tokens of a text that begins at a place.
abbrev pub From : Type 0
From = ℕ → List Token

-- ---- pieces of a text in front of what follows

-- So many blanks and line feeds.
unfoldable pub blanks : ℕ → From → From
blanks n rest p = rest (p + n)

-- A keyword or a sign.
unfoldable pub marks : String → From → From
marks s rest p = terminal (ascii s) ∷ rest (p + length (ascii s))

-- A name.
unfoldable pub names : List ℕ → From → From
names s rest p = name (record { place = p; spelled = s }) ∷ rest (p + length s)

-- An unsigned number: is it another than 0? Its value.
unfoldable pub counts : ℕ → From → From
counts n rest p = number (not (eqb n 0)) n ∷ rest (p + length (decimal n))

-- The base and the value of a constant, known or all x.
unfoldable pub values : ℕ → From → From
values v rest p = known v ∷ rest (p + length (ascii "'d" ++ decimal v))

unfoldable pub unknowns : From → From
unknowns rest p = unvalued ∷ rest (p + length (ascii "'bx"))

-- A sign or keyword with a blank on both sides, and one with a blank or a line feed behind it.
unfoldable pub between : String → From → From
between s rest = blanks 1 (marks s (blanks 1 rest))

unfoldable pub spaced : String → From → From
spaced s rest = marks s (blanks 1 rest)

-- ---- words

unfoldable pub indented : ℕ → From → From
indented level rest = blanks (2 * level) rest

-- "1 ~, 2 !"; "3 &, 4 |, 5 ^, 6 +, 7 -, 8 ==, 9 <"
unfoldable pub sign_tokens : ℕ → From → From
sign_tokens o rest =
    o is 1 then marks "~" rest else
    o is 2 then marks "!" rest else
    o is 3 then between "&" rest else
    o is 4 then between "|" rest else
    o is 5 then between "^" rest else
    o is 6 then between "+" rest else
    o is 7 then between "-" rest else
    o is 8 then between "==" rest else
    o is 9 then between "<" rest else
    rest

-- In front of every term but the first, and of every port but the first.
unfoldable pub or_tokens : ℕ → From → From
or_tokens k rest = k is 0 then rest else between "or" rest

unfoldable pub comma_tokens : ℕ → From → From
comma_tokens k rest = k is 0 then rest else spaced "," rest

unfoldable pub edge_tokens : Edge → From → From
edge_tokens Change rest = rest
edge_tokens Posedge rest = spaced "posedge" rest
edge_tokens Negedge rest = spaced "negedge" rest

unfoldable pub range_tokens : ℕ → From → From
range_tokens w rest = w is 1 then rest else marks "[" (counts (w - 1) (marks ":" (counts 0 (spaced "]" rest))))

unfoldable pub direction_tokens : ℕ → ℕ → ℕ → From → From
direction_tokens i r v rest =
    pick (ltb v i) (spaced "input" rest)
    (pick (ltb v (i + r)) (spaced "reg" rest)
    (spaced "wire" rest))

-- The end of a line, the beginning of a block behind a parenthesis, the end of a block that opened n levels in.
unfoldable pub ended : From → From
ended rest = spaced ";" rest

unfoldable pub opened : From → From
opened rest = spaced ")" (spaced "begin" rest)

unfoldable pub closed : ℕ → From → From
closed n rest = indented n (spaced "end" rest)

-- called gives a variable's name.
module _ (called : ℕ → List ℕ) where
  -- ---- expressions

  unfoldable mutual
    pub expr_tokens : Expr → From → From
    expr_tokens (variable v) rest = names (called v) rest
    expr_tokens (constant w v) rest = counts w (values v rest)
    expr_tokens (unknown w) rest = counts w (unknowns rest)
    expr_tokens (unary o w a) rest = marks "(" (sign_tokens o (expr_tokens a (marks ")" rest)))
    expr_tokens (binary o w a b) rest = marks "(" (expr_tokens a (sign_tokens o (expr_tokens b (marks ")" rest))))
    expr_tokens (conditional c a b) rest =
        marks "(" (expr_tokens c (between "?" (expr_tokens a (between ":" (expr_tokens b (marks ")" rest))))))
    expr_tokens (call n w ys b) rest = names (ascii "f" ++ decimal n) (marks "(" (arguments_tokens 0 ys (marks ")" rest)))

    -- The arguments from the kth on.
    pub arguments_tokens : ℕ → Arguments → From → From
    arguments_tokens k no_more rest = rest
    arguments_tokens k (argument e ys) rest = comma_tokens k (expr_tokens e (arguments_tokens (k + 1) ys rest))

  -- ---- waits

  unfoldable pub term_tokens : ℕ → EdgeTerm → From → From
  term_tokens k t rest = or_tokens k (edge_tokens t.edge (names (called t.variable) rest))

  unfoldable pub terms_tokens : ℕ → List EdgeTerm → From → From
  terms_tokens k [] rest = rest
  terms_tokens k (t ∷ ts) rest = term_tokens k t (terms_tokens (k + 1) ts rest)

  -- ---- statements, n levels in

  unfoldable pub sequence_tokens : ℕ → Front → (ℕ → From → From) → (ℕ → From → From) → From → From
  sequence_tokens n (waiting ts) a b rest =
      indented n (marks "@" (marks "(" (terms_tokens 0 ts (opened (b (n + 1) (closed n rest))))))
  sequence_tokens n nesting a b rest = indented n (spaced "begin" (a (n + 1) (closed n (b n rest))))
  sequence_tokens n single a b rest = a n (b n rest)

  unfoldable pub stmt_tokens : ℕ → Stmt Expr → From → From
  stmt_tokens n empty rest = indented n (spaced "begin" (spaced "end" rest))
  stmt_tokens n (assign t e) rest = indented n (names (called t) (between "=" (expr_tokens e (ended rest))))
  stmt_tokens n (later t e) rest = indented n (names (called t) (between "<=" (expr_tokens e (ended rest))))
  stmt_tokens n (sequence a b) rest =
      sequence_tokens n (front a) (λ l k. stmt_tokens l a k) (λ l k. stmt_tokens l b k) rest
  stmt_tokens n (if_then e a) rest =
      indented n (spaced "if" (marks "(" (expr_tokens e (opened (stmt_tokens (n + 1) a (closed n rest))))))
  stmt_tokens n (if_else e a b) rest =
      indented n (spaced "if" (marks "(" (expr_tokens e (opened
      (stmt_tokens (n + 1) a (indented n (spaced "end" (spaced "else" (spaced "begin"
      (stmt_tokens (n + 1) b (closed n rest)))))))))))
  stmt_tokens n (while e a) rest =
      indented n (spaced "while" (marks "(" (expr_tokens e (opened (stmt_tokens (n + 1) a (closed n rest))))))
  stmt_tokens n (forever a) rest = indented n (spaced "forever" (spaced "begin" (stmt_tokens (n + 1) a (closed n rest))))
  stmt_tokens n (wait ts) rest = indented n (marks "@" (marks "(" (terms_tokens 0 ts (marks ")" (ended rest)))))

  -- ---- the module's parts

  unfoldable pub port_tokens : ℕ → From → From
  port_tokens v rest = comma_tokens v (names (called v) rest)

  unfoldable pub ports_tokens : ℕ → ℕ → From → From
  ports_tokens zero v rest = rest
  ports_tokens (suc n) v rest = port_tokens v (ports_tokens n (v + 1) rest)

  unfoldable pub wires_tokens : ℕ → List Expr → From → From
  wires_tokens v [] rest = rest
  wires_tokens v (e ∷ es) rest =
      indented 1 (spaced "assign" (names (called v) (between "=" (expr_tokens e (ended (wires_tokens (v + 1) es rest))))))

  unfoldable pub opened_tokens : Front → (ℕ → From → From) → (ℕ → From → From) → From → From
  opened_tokens (waiting ts) whole second rest =
      indented 1 (spaced "always" (marks "@" (marks "(" (terms_tokens 0 ts (opened (second 2 (closed 1 rest)))))))
  opened_tokens nesting whole second rest = indented 1 (spaced "always" (spaced "begin" (whole 2 (closed 1 rest))))
  opened_tokens single whole second rest = indented 1 (spaced "always" (spaced "begin" (whole 2 (closed 1 rest))))

  unfoldable pub thread_tokens : Stmt Expr → From → From
  thread_tokens a rest = opened_tokens (opening a) (λ l k. stmt_tokens l a k) (λ l k. stmt_tokens l (remainder a) k) rest

  unfoldable pub threads_tokens : List (Stmt Expr) → From → From
  threads_tokens [] rest = rest
  threads_tokens (a ∷ bs) rest = thread_tokens a (threads_tokens bs rest)

  unfoldable pub declaration_tokens : ℕ → ℕ → ℕ → ℕ → From → From
  declaration_tokens i r v w rest = indented 1 (direction_tokens i r v (range_tokens w (names (called v) (ended rest))))

  unfoldable pub declarations_tokens : ℕ → ℕ → ℕ → List ℕ → From → From
  declarations_tokens i r v [] rest = rest
  declarations_tokens i r v (w ∷ ws) rest = declaration_tokens i r v w (declarations_tokens i r (v + 1) ws rest)

  unfoldable pub module_tokens : Module Expr → From → From
  module_tokens m rest =
      let c = m.scope in
      spaced "module" (names (ascii "walbryts") (blanks 1 (marks "(" (ports_tokens c.inputs 0 (marks ")" (ended
      (declarations_tokens c.inputs c.registers 0 c.widths
      (wires_tokens (c.inputs + c.registers) m.wires
      (threads_tokens m.threads
      (spaced "endmodule" rest))))))))))

-- ---- tokens_of: those of the whole text, which begins at place 0

unfoldable pub nothing : From
nothing p = []

unfoldable pub tokens_of : Module Expr → List Token
tokens_of m = module_tokens (plain_name m.scope.inputs m.scope.registers) m nothing 0
