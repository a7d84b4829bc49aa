-- IEEE 1364-2005's Annex A, cut to the forms that request [1] of document 02 names: derivation trees, and the tokens they yield.
-- A data type is a nonterminal and a constructor one of its productions, which stands above it; a nonterminal whose one production
-- is another nonterminal has no type of its own. A production or an optional part that holds a form the request doesn't name is left
-- out; ports, bounds of a range, events, labels, left sides and numbers are narrowed to the request's words.
-- `spell` and its kin give a tree's tokens in front of others.
use Rattle.std.specs.Prelude.{Bool, List, [], ◌∷◌, ℕ}
use Prim.Native.String.{String}
use Rattle.writing.specs.Ascii.{ascii}
use Rattle.verilog_tokens.specs.Tokens.{Token, terminal, name, number, known, unknown, Name}

-- A keyword or a sign.
abbrev pub mark : String → Token
mark s = terminal (ascii s)

-- ---- A.8.6: unary_operator ::= ! | ~ and binary_operator ::= + | - | == | < | & | | | ^

pub data Unary : Type 0 where
  negation complement : Unary

pub data Binary : Type 0 where
  plus minus equals less conjunction disjunction exclusive : Binary

unfoldable pub unary_sign : Unary → List ℕ
unary_sign negation = ascii "!"
unary_sign complement = ascii "~"

unfoldable pub binary_sign : Binary → List ℕ
binary_sign plus = ascii "+"
binary_sign minus = ascii "-"
binary_sign equals = ascii "=="
binary_sign less = ascii "<"
binary_sign conjunction = ascii "&"
binary_sign disjunction = ascii "|"
binary_sign exclusive = ascii "^"

-- ---- A.8.7: numbers, "sized constants known or all x"

pub data Number : Type 0 where
  -- number ::= size known_value
  sized : ℕ → ℕ → Number
  -- number ::= size x_value
  sized_x : ℕ → Number

unfoldable pub spell_number : Number → List Token → List Token
spell_number (sized w v) rest = number Bool.true w ∷ known v ∷ rest
spell_number (sized_x w) rest = number Bool.true w ∷ unknown ∷ rest

-- ---- A.8.3, A.8.4: expressions

mutual
  pub data Expression : Type 0 where
    -- expression ::= primary
    only : Primary → Expression
    -- expression ::= unary_operator primary
    prefixed : Unary → Primary → Expression
    -- expression ::= expression binary_operator expression
    joined : Expression → Binary → Expression → Expression
    -- conditional_expression ::= expression1 ? expression2 : expression3
    chosen : Expression → Expression → Expression → Expression

  pub data Primary : Type 0 where
    -- primary ::= hierarchical_identifier
    identified : Name → Primary
    -- primary ::= number
    numbered : Number → Primary
    -- primary ::= ( mintypmax_expression )
    bracketed : Expression → Primary

unfoldable mutual
  pub spell : Expression → List Token → List Token
  spell (only p) rest = spell_primary p rest
  spell (prefixed u p) rest = terminal (unary_sign u) ∷ spell_primary p rest
  spell (joined a o b) rest = spell a (terminal (binary_sign o) ∷ spell b rest)
  spell (chosen c a b) rest = spell c (mark "?" ∷ spell a (mark ":" ∷ spell b rest))

  pub spell_primary : Primary → List Token → List Token
  spell_primary (identified n) rest = name n ∷ rest
  spell_primary (numbered n) rest = spell_number n rest
  spell_primary (bracketed e) rest = mark "(" ∷ spell e (mark ")" ∷ rest)

-- ---- A.6.5: events

pub data Event : Type 0 where
  -- event_expression ::= hierarchical_identifier
  changes : Name → Event
  -- event_expression ::= posedge hierarchical_identifier | negedge hierarchical_identifier
  rises : Name → Event
  falls : Name → Event
  -- event_expression ::= event_expression or event_expression
  or_else : Event → Event → Event
  -- event_expression ::= event_expression , event_expression
  comma : Event → Event → Event

unfoldable pub spell_event : Event → List Token → List Token
spell_event (changes n) rest = name n ∷ rest
spell_event (rises n) rest = mark "posedge" ∷ name n ∷ rest
spell_event (falls n) rest = mark "negedge" ∷ name n ∷ rest
spell_event (or_else a b) rest = spell_event a (mark "or" ∷ spell_event b rest)
spell_event (comma a b) rest = spell_event a (mark "," ∷ spell_event b rest)

pub data Control : Type 0 where
  -- event_control ::= @ hierarchical_event_identifier
  bare : Name → Control
  -- event_control ::= @ ( event_expression )
  among : Event → Control

unfoldable pub spell_control : Control → List Token → List Token
spell_control (bare n) rest = mark "@" ∷ name n ∷ rest
spell_control (among e) rest = mark "@" ∷ mark "(" ∷ spell_event e (mark ")" ∷ rest)

-- ---- A.6.2 to A.6.8: statements

mutual
  pub data Statement : Type 0 where
    -- statement ::= blocking_assignment ; and blocking_assignment ::= variable_lvalue = expression
    blocking : Name → Expression → Statement
    -- statement ::= nonblocking_assignment ; and nonblocking_assignment ::= variable_lvalue <= expression
    nonblocking : Name → Expression → Statement
    -- case_statement ::= case ( expression ) case_item { case_item } endcase
    selects : Expression → CaseItems → Statement
    -- conditional_statement ::= if ( expression ) statement_or_null
    whether : Expression → OrNull → Statement
    -- conditional_statement ::= if ( expression ) statement_or_null else statement_or_null
    either : Expression → OrNull → OrNull → Statement
    -- conditional_statement ::= if_else_if_statement
    chain : Chain → Statement
    -- loop_statement ::= forever statement
    endless : Statement → Statement
    -- loop_statement ::= while ( expression ) statement
    repeats : Expression → Statement → Statement
    -- procedural_timing_control_statement ::= event_control statement_or_null
    after : Control → OrNull → Statement
    -- seq_block ::= begin { statement } end
    block : Statements → Statement

  pub data OrNull : Type 0 where
    -- statement_or_null ::= statement
    some : Statement → OrNull
    -- statement_or_null ::= ;
    null : OrNull

  -- if_else_if_statement ::= if ( expression ) statement_or_null { else if ( expression ) statement_or_null } [ else statement_or_null ]
  pub data Chain : Type 0 where
    last : Expression → OrNull → Chain
    last_else : Expression → OrNull → OrNull → Chain
    leg : Expression → OrNull → Chain → Chain

  -- { statement }
  pub data Statements : Type 0 where
    none : Statements
    more : Statement → Statements → Statements

  pub data CaseItem : Type 0 where
    -- case_item ::= known_number : statement_or_null
    labelled : ℕ → ℕ → OrNull → CaseItem
    -- case_item ::= default statement_or_null
    default : OrNull → CaseItem
    -- case_item ::= default : statement_or_null
    default_colon : OrNull → CaseItem

  -- case_item { case_item }
  pub data CaseItems : Type 0 where
    last_item : CaseItem → CaseItems
    item : CaseItem → CaseItems → CaseItems

-- ( expression )
unfoldable pub spell_condition : Expression → List Token → List Token
spell_condition e rest = mark "(" ∷ spell e (mark ")" ∷ rest)

unfoldable mutual
  pub spell_statement : Statement → List Token → List Token
  spell_statement (blocking n e) rest = name n ∷ mark "=" ∷ spell e (mark ";" ∷ rest)
  spell_statement (nonblocking n e) rest = name n ∷ mark "<=" ∷ spell e (mark ";" ∷ rest)
  spell_statement (selects e xs) rest = mark "case" ∷ spell_condition e (spell_items xs rest)
  spell_statement (whether e a) rest = mark "if" ∷ spell_condition e (spell_or_null a rest)
  spell_statement (either e a b) rest = mark "if" ∷ spell_condition e (spell_or_null a (mark "else" ∷ spell_or_null b rest))
  spell_statement (chain c) rest = spell_chain c rest
  spell_statement (endless a) rest = mark "forever" ∷ spell_statement a rest
  spell_statement (repeats e a) rest = mark "while" ∷ spell_condition e (spell_statement a rest)
  spell_statement (after c a) rest = spell_control c (spell_or_null a rest)
  spell_statement (block xs) rest = mark "begin" ∷ spell_all xs rest

  pub spell_or_null : OrNull → List Token → List Token
  spell_or_null (some a) rest = spell_statement a rest
  spell_or_null null rest = mark ";" ∷ rest

  pub spell_chain : Chain → List Token → List Token
  spell_chain (last e a) rest = mark "if" ∷ spell_condition e (spell_or_null a rest)
  spell_chain (last_else e a b) rest = mark "if" ∷ spell_condition e (spell_or_null a (mark "else" ∷ spell_or_null b rest))
  spell_chain (leg e a c) rest = mark "if" ∷ spell_condition e (spell_or_null a (mark "else" ∷ spell_chain c rest))

  -- with `end` behind
  pub spell_all : Statements → List Token → List Token
  spell_all none rest = mark "end" ∷ rest
  spell_all (more a xs) rest = spell_statement a (spell_all xs rest)

  pub spell_item : CaseItem → List Token → List Token
  spell_item (labelled w v a) rest = number Bool.true w ∷ known v ∷ mark ":" ∷ spell_or_null a rest
  spell_item (default a) rest = mark "default" ∷ spell_or_null a rest
  spell_item (default_colon a) rest = mark "default" ∷ mark ":" ∷ spell_or_null a rest

  -- with `endcase` behind
  pub spell_items : CaseItems → List Token → List Token
  spell_items (last_item i) rest = spell_item i (mark "endcase" ∷ rest)
  spell_items (item i xs) rest = spell_item i (spell_items xs rest)

-- ---- lists: thing { , thing }

pub data Listed (T : Type 0) : Type 0 where
  one : T → Listed T
  also : T → Listed T → Listed T

unfoldable pub spell_listed : {T : Type 0} → (T → List Token → List Token) → Listed T → List Token → List Token
spell_listed f (one a) rest = f a rest
spell_listed f (also a xs) rest = f a (mark "," ∷ spell_listed f xs rest)

unfoldable pub spell_name : Name → List Token → List Token
spell_name n rest = name n ∷ rest

-- ---- A.2.5: range ::= [ msb_constant_expression : lsb_constant_expression ]. "`[n:0]` or no range"

pub data Range : Type 0 where
  no_range : Range
  -- range ::= [ unsigned_number : unsigned_number of value 0 ]
  down_to : Bool → ℕ → Bool → Range

unfoldable pub spell_range : Range → List Token → List Token
spell_range no_range rest = rest
spell_range (down_to a n b) rest = mark "[" ∷ number a n ∷ mark ":" ∷ number b 0 ∷ mark "]" ∷ rest

-- ---- A.6.1: net_assignment ::= net_lvalue = expression

pub record NetAssignment : Type 0 where
  pub target : Name
  pub value : Expression

unfoldable pub spell_net : NetAssignment → List Token → List Token
spell_net a rest = name a.target ∷ mark "=" ∷ spell a.value rest

-- ---- A.1.4, A.2.1, A.6.1, A.6.2: module items

pub data Item : Type 0 where
  -- module_item ::= port_declaration ; and input_declaration ::= input [ range ] list_of_port_identifiers
  input : Range → Listed Name → Item
  -- reg_declaration ::= reg [ range ] list_of_variable_identifiers ;
  reg : Range → Listed Name → Item
  -- net_declaration ::= wire [ range ] list_of_net_identifiers ;
  wire : Range → Listed Name → Item
  -- continuous_assign ::= assign list_of_net_assignments ;
  assign : Listed NetAssignment → Item
  -- always_construct ::= always statement
  always : Statement → Item

unfoldable pub spell_declared : String → Range → Listed Name → List Token → List Token
spell_declared s r ns rest = mark s ∷ spell_range r (spell_listed spell_name ns (mark ";" ∷ rest))

unfoldable pub spell_part : Item → List Token → List Token
spell_part (input r ns) rest = spell_declared "input" r ns rest
spell_part (reg r ns) rest = spell_declared "reg" r ns rest
spell_part (wire r ns) rest = spell_declared "wire" r ns rest
spell_part (assign xs) rest = mark "assign" ∷ spell_listed spell_net xs (mark ";" ∷ rest)
spell_part (always a) rest = mark "always" ∷ spell_statement a rest

-- with `endmodule` behind
unfoldable pub spell_parts : List Item → List Token → List Token
spell_parts [] rest = mark "endmodule" ∷ rest
spell_parts (i ∷ is) rest = spell_part i (spell_parts is rest)

-- ---- A.1.2, A.1.3: module_declaration ::= module module_identifier ( port { , port } ) ; { module_item } endmodule

pub record ModuleDeclaration : Type 0 where
  pub title : Name
  pub ports : Listed Name
  pub items : List Item

unfoldable pub yield : ModuleDeclaration → List Token
yield m =
    mark "module" ∷ name m.title ∷ mark "(" ∷
    spell_listed spell_name m.ports (mark ")" ∷ mark ";" ∷ spell_parts m.items [])
