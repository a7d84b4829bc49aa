-- Every statement with each `else` at the nearest `if` and one default a case means what the reader makes of its tokens.
-- Assumes nothing.
use mathlib.Core.Path.{◌≡◌, refl, sym, ap, ◌∙◌}
use mathlib.Core.Bool.{Bool, true, false}
use mathlib.Core.List.{List, [], ◌∷◌, ◌++◌, append_assoc, append-nil}
use Prim.Native.Nat.{ℕ, zero, suc, ◌+◌, ◌≤◌, ◌<◌}
use native.Mathlib.Nat.{add-zero}
use native.Mathlib.Omega.{arith}
use lib.ListN.{length}
use Rattle.values.specs.declared.Edge.TheVariants.{Change, Posedge, Negedge}
use Rattle.sheet.specs.declared.EdgeTerm.{EdgeTerm}
use Rattle.sheet.specs.Expression.{Expr}
use Rattle.sheet.specs.Statement.{Stmt, assign as assigns, later, if_then, if_else}
use Rattle.writing.specs.Ascii.{ascii}
use Rattle.naming.specs.Naming.{same_text}
use Rattle.verilog_tokens.specs.Tokens.{Token, name, number, known, Name}
use Rattle.verilog_grammar.specs.AnnexA.{mark, sized, Expression, spell, Event, changes, rises, falls, or_else as or_event, comma, spell_event, Control, bare, among, spell_control, spell_condition}
use Rattle.verilog_grammar.specs.AnnexA.{Statement, blocking, nonblocking, selects, whether, either, chain, endless, repeats, after, block as block_tree, OrNull, some, null, Chain, last, last_else, leg, Statements, none, more, CaseItem, labelled, default, default_colon, CaseItems, last_item, item, spell_statement, spell_or_null, spell_chain, spell_all, spell_item, spell_items}
use Rattle.verilog_grammar.specs.Conditions.{Grouped, is_open, is_open_or_null, is_open_chain, defaults_of, defaults, Settled, SettledOrNull, SettledChain, SettledAll, SettledItem, SettledItems}
use Rattle.verilog_grammar.specs.Meaning.{Arm, on, otherwise, number_expr, expr_of, term_of, terms_of, control_of, stmt_of, or_null_of, chain_of, stmts_of, arm_of, arms_of}
use Rattle.verilog_grammar.specs.Reader.{ok, Reader, give, is_mark, starts, if_next, expect, ident, size, known_value, expression, condition, edge, change, event, further_events, more_events, events, event_list, event_name, control, blocking_to, nonblocking_to, assignment, null_statement, or_null, else_part, or_else, conditional, while_loop, forever_loop, timing, block_end, block_more, statements, block, colon, default_item, labelled_item, items_end, items_more, items_behind, default_first, label_first, case_items, case_statement, statement_by, statement}
use Rattle.verilog_grammar.proofs.Steps.{expected, next-is, next-not}
use Rattle.verilog_grammar.proofs.ExpressionComplete.{longer, leads-close, leads-semicolon, expression-read}

-- ---- what may follow: no `else` behind what ends in an `if` without one

unfoldable pub Clear : Bool → List Token → Type 0
Clear true rest = starts (ascii "else") rest ≡ false
Clear false rest = Unit {0}

pub clear : (b : Bool) (rest : List Token) → starts (ascii "else") rest ≡ false → Clear b rest
unfolding Clear
clear true rest h = h
clear false rest h = tt

-- ---- every tree yields a token

pub longer-condition : (e : Expression) (rest : List Token) → length rest < length (spell_condition e rest)
unfolding spell_condition
longer-condition e rest = let h = longer e (mark ")" ∷ rest) in omega arith

pub longer-event : (e : Event) (rest : List Token) → length rest < length (spell_event e rest)
unfolding spell_event
longer-event (changes n) rest = omega arith
longer-event (rises n) rest = omega arith
longer-event (falls n) rest = omega arith
longer-event (or_event a b) rest =
    let h = longer-event a (mark "or" ∷ spell_event b rest) in
    let g = longer-event b rest in
    omega arith
longer-event (comma a b) rest =
    let h = longer-event a (mark "," ∷ spell_event b rest) in
    let g = longer-event b rest in
    omega arith

pub longer-control : (c : Control) (rest : List Token) → length rest < length (spell_control c rest)
unfolding spell_control
longer-control (bare n) rest = omega arith
longer-control (among e) rest = let h = longer-event e (mark ")" ∷ rest) in omega arith

mutual
  unfolding spell_statement spell_or_null spell_chain spell_all spell_item spell_items

  pub longer-statement : (a : Statement) (rest : List Token) → length rest < length (spell_statement a rest)
  longer-statement (blocking n e) rest = let h = longer e (mark ";" ∷ rest) in omega arith
  longer-statement (nonblocking n e) rest = let h = longer e (mark ";" ∷ rest) in omega arith
  longer-statement (selects e xs) rest =
      let h = longer-condition e (spell_items xs rest) in
      let g = longer-items xs rest in
      omega arith
  longer-statement (whether e a) rest =
      let h = longer-condition e (spell_or_null a rest) in
      let g = longer-or_null a rest in
      omega arith
  longer-statement (either e a b) rest =
      let h = longer-condition e (spell_or_null a (mark "else" ∷ spell_or_null b rest)) in
      let g = longer-or_null a (mark "else" ∷ spell_or_null b rest) in
      let d = longer-or_null b rest in
      omega arith
  longer-statement (chain c) rest = longer-chain c rest
  longer-statement (endless a) rest = let h = longer-statement a rest in omega arith
  longer-statement (repeats e a) rest =
      let h = longer-condition e (spell_statement a rest) in
      let g = longer-statement a rest in
      omega arith
  longer-statement (after c a) rest =
      let h = longer-control c (spell_or_null a rest) in
      let g = longer-or_null a rest in
      omega arith
  longer-statement (block_tree xs) rest = let h = longer-all xs rest in omega arith

  pub longer-or_null : (a : OrNull) (rest : List Token) → length rest < length (spell_or_null a rest)
  longer-or_null (some a) rest = longer-statement a rest
  longer-or_null null rest = omega arith

  pub longer-chain : (c : Chain) (rest : List Token) → length rest < length (spell_chain c rest)
  longer-chain (last e a) rest =
      let h = longer-condition e (spell_or_null a rest) in
      let g = longer-or_null a rest in
      omega arith
  longer-chain (last_else e a b) rest =
      let h = longer-condition e (spell_or_null a (mark "else" ∷ spell_or_null b rest)) in
      let g = longer-or_null a (mark "else" ∷ spell_or_null b rest) in
      let d = longer-or_null b rest in
      omega arith
  longer-chain (leg e a c) rest =
      let h = longer-condition e (spell_or_null a (mark "else" ∷ spell_chain c rest)) in
      let g = longer-or_null a (mark "else" ∷ spell_chain c rest) in
      let d = longer-chain c rest in
      omega arith

  pub longer-all : (xs : Statements) (rest : List Token) → length rest < length (spell_all xs rest)
  longer-all none rest = omega arith
  longer-all (more a xs) rest =
      let h = longer-statement a (spell_all xs rest) in
      let g = longer-all xs rest in
      omega arith

  pub longer-item : (i : CaseItem) (rest : List Token) → length rest < length (spell_item i rest)
  longer-item (labelled w v a) rest = let h = longer-or_null a rest in omega arith
  longer-item (default a) rest = let h = longer-or_null a rest in omega arith
  longer-item (default_colon a) rest = let h = longer-or_null a rest in omega arith

  pub longer-items : (xs : CaseItems) (rest : List Token) → length rest < length (spell_items xs rest)
  longer-items (last_item i) rest = let h = longer-item i (mark "endcase" ∷ rest) in omega arith
  longer-items (item i xs) rest =
      let h = longer-item i (spell_items xs rest) in
      let g = longer-items xs rest in
      omega arith

-- ---- how a statement and the items of a case open

pub record Opens (ts : List Token) : Type 0 where
  pub semicolon : starts (ascii ";") ts ≡ false
  pub end : starts (ascii "end") ts ≡ false
  pub else : starts (ascii "else") ts ≡ false
  pub colon : starts (ascii ":") ts ≡ false

by_token : (ts : List Token) → starts (ascii ";") ts ≡ false → starts (ascii "end") ts ≡ false → starts (ascii "else") ts ≡ false
    → starts (ascii ":") ts ≡ false → Opens ts
by_token ts a b c d = record { semicolon = a; end = b; else = c; colon = d }

pub opens : (a : Statement) (rest : List Token) → Opens (spell_statement a rest)
unfolding starts is_mark ascii same_text spell_statement spell_chain spell_control
opens (blocking n e) rest = by_token _ refl refl refl refl
opens (nonblocking n e) rest = by_token _ refl refl refl refl
opens (selects e xs) rest = by_token _ refl refl refl refl
opens (whether e a) rest = by_token _ refl refl refl refl
opens (either e a b) rest = by_token _ refl refl refl refl
opens (chain (last e a)) rest = by_token _ refl refl refl refl
opens (chain (last_else e a b)) rest = by_token _ refl refl refl refl
opens (chain (leg e a c)) rest = by_token _ refl refl refl refl
opens (endless a) rest = by_token _ refl refl refl refl
opens (repeats e a) rest = by_token _ refl refl refl refl
opens (after (bare n) a) rest = by_token _ refl refl refl refl
opens (after (among e) a) rest = by_token _ refl refl refl refl
opens (block_tree xs) rest = by_token _ refl refl refl refl

pub chain-open : (c : Chain) (rest : List Token) → starts (ascii ";") (spell_chain c rest) ≡ false
unfolding starts is_mark ascii same_text spell_chain
chain-open (last e a) rest = refl
chain-open (last_else e a b) rest = refl
chain-open (leg e a c) rest = refl

no-colon : (a : OrNull) (rest : List Token) → starts (ascii ":") (spell_or_null a rest) ≡ false
unfolding starts is_mark ascii same_text spell_or_null
no-colon (some a) rest = (opens a rest).colon
no-colon null rest = refl

all-clear : (xs : Statements) (rest : List Token) → starts (ascii "else") (spell_all xs rest) ≡ false
unfolding starts is_mark ascii same_text spell_all
all-clear none rest = refl
all-clear (more a xs) rest = (opens a (spell_all xs rest)).else

item-open : (i : CaseItem) (rest : List Token)
    → (starts (ascii "endcase") (spell_item i rest) ≡ false) × (starts (ascii "else") (spell_item i rest) ≡ false)
unfolding starts is_mark ascii same_text spell_item
item-open (labelled w v a) rest = (refl, refl)
item-open (default a) rest = (refl, refl)
item-open (default_colon a) rest = (refl, refl)

items-open : (xs : CaseItems) (rest : List Token)
    → (starts (ascii "endcase") (spell_items xs rest) ≡ false) × (starts (ascii "else") (spell_items xs rest) ≡ false)
unfolding spell_items
items-open (last_item i) rest = item-open i (mark "endcase" ∷ rest)
items-open (item i xs) rest = item-open i (spell_items xs rest)

endcase-clear : (rest : List Token) → starts (ascii "else") (mark "endcase" ∷ rest) ≡ false
unfolding starts is_mark ascii same_text
endcase-clear rest = refl

-- ---- conditions

pub condition-read : (e : Expression) (rest : List Token) → Grouped e → condition (spell_condition e rest) ≡ ok e rest
unfolding condition spell_condition
condition-read e rest w =
    rw (
      expected (ascii "(") (spell e (mark ")" ∷ rest)),
      expression-read e (mark ")" ∷ rest) w (rw (leads-close rest) (omega arith)),
      expected (ascii ")") rest,
    ) refl

module _ (index : List ℕ → ℕ) where
  -- ---- events

  -- Behind an event stands what is read as further ones.
  ReadEvents : Event → Type 0
  ReadEvents e = (f : ℕ) (rest : List Token) (us : List EdgeTerm) (end : List Token) → length (spell_event e rest) ≤ f
      → ((t : EdgeTerm) (g : ℕ) → length rest ≤ g → more_events index (events index g) t rest ≡ ok (t ∷ us) end)
      → events index f (spell_event e rest) ≡ ok (terms_of index e ++ us) end

  change-step : (n : Name) (rest : List Token) → event index (name n ∷ rest) ≡ ok (term_of index Change n) rest
  unfolding event if_next starts is_mark change ident
  change-step n rest = refl

  rises-step : (n : Name) (rest : List Token) → event index (mark "posedge" ∷ name n ∷ rest) ≡ ok (term_of index Posedge n) rest
  unfolding event edge ident
  rises-step n rest = next-is (ascii "posedge") _ _ (name n ∷ rest) ∙ rw (expected (ascii "posedge") (name n ∷ rest)) refl

  falls-no : (ts : List Token) → starts (ascii "posedge") (mark "negedge" ∷ ts) ≡ false
  unfolding starts is_mark ascii same_text
  falls-no ts = refl

  falls-step : (n : Name) (rest : List Token) → event index (mark "negedge" ∷ name n ∷ rest) ≡ ok (term_of index Negedge n) rest
  unfolding event edge ident
  falls-step n rest =
      next-not (ascii "posedge") _ _ (mark "negedge" ∷ name n ∷ rest) (falls-no (name n ∷ rest))
      ∙ next-is (ascii "negedge") _ _ (name n ∷ rest) ∙ rw (expected (ascii "negedge") (name n ∷ rest)) refl

  or_step : (inner : Reader (List EdgeTerm)) (t : EdgeTerm) (us : List EdgeTerm) (ts end : List Token) → inner ts ≡ ok us end
      → more_events index inner t (mark "or" ∷ ts) ≡ ok (t ∷ us) end
  unfolding more_events further_events
  or_step inner t us ts end e = next-is (ascii "or") _ _ ts ∙ rw (expected (ascii "or") ts, e) refl

  comma-no : (ts : List Token) → starts (ascii "or") (mark "," ∷ ts) ≡ false
  unfolding starts is_mark ascii same_text
  comma-no ts = refl

  comma-step : (inner : Reader (List EdgeTerm)) (t : EdgeTerm) (us : List EdgeTerm) (ts end : List Token) → inner ts ≡ ok us end
      → more_events index inner t (mark "," ∷ ts) ≡ ok (t ∷ us) end
  unfolding more_events further_events
  comma-step inner t us ts end e =
      next-not (ascii "or") _ _ (mark "," ∷ ts) (comma-no ts) ∙ next-is (ascii ",") _ _ ts ∙ rw (expected (ascii ",") ts, e) refl

  close-step : (inner : Reader (List EdgeTerm)) (t : EdgeTerm) (ts : List Token)
      → more_events index inner t (mark ")" ∷ ts) ≡ ok (t ∷ []) (mark ")" ∷ ts)
  unfolding more_events if_next starts is_mark ascii same_text
  close-step inner t ts = refl

  one-event : (f : ℕ) (t : EdgeTerm) (ts rest : List Token) (us : List EdgeTerm) (end : List Token) → event index ts ≡ ok t rest
      → length rest < f → ((t : EdgeTerm) (g : ℕ) → length rest ≤ g → more_events index (events index g) t rest ≡ ok (t ∷ us) end)
      → events index f ts ≡ ok (t ∷ us) end
  unfolding events
  one-event zero t ts rest us end e l k = absurd (omega arith)
  one-event (suc f) t ts rest us end e l k = rw e (k t f (omega arith))

  read-events : (e : Event) → ReadEvents e
  unfolding ReadEvents spell_event terms_of
  read-events (changes n) f rest us end l k = one-event f (term_of index Change n) (name n ∷ rest) rest us end (change-step n rest) l k
  read-events (rises n) f rest us end l k =
      one-event f (term_of index Posedge n) (mark "posedge" ∷ name n ∷ rest) rest us end (rises-step n rest) (omega arith) k
  read-events (falls n) f rest us end l k =
      one-event f (term_of index Negedge n) (mark "negedge" ∷ name n ∷ rest) rest us end (falls-step n rest) (omega arith) k
  read-events (or_event a b) f rest us end l k =
      read-events a f (mark "or" ∷ spell_event b rest) (terms_of index b ++ us) end l
      (λ t g h. or_step (events index g) t (terms_of index b ++ us) (spell_event b rest) end (read-events b g rest us end (omega arith) k))
      ∙ ap (λ (x : List EdgeTerm). ok x end) (sym (append_assoc (terms_of index a) (terms_of index b) us))
  read-events (comma a b) f rest us end l k =
      read-events a f (mark "," ∷ spell_event b rest) (terms_of index b ++ us) end l
      (λ t g h. comma-step (events index g) t (terms_of index b ++ us) (spell_event b rest) end (read-events b g rest us end (omega arith) k))
      ∙ ap (λ (x : List EdgeTerm). ok x end) (sym (append_assoc (terms_of index a) (terms_of index b) us))

  event-list : (e : Event) (rest : List Token)
      → events index (length (spell_event e (mark ")" ∷ rest))) (spell_event e (mark ")" ∷ rest)) ≡ ok (terms_of index e) (mark ")" ∷ rest)
  unfolding ReadEvents
  event-list e rest =
      read-events e (length (spell_event e (mark ")" ∷ rest))) (mark ")" ∷ rest) [] (mark ")" ∷ rest) (omega arith)
      (λ t g h. close-step (events index g) t rest)
      ∙ ap (λ (x : List EdgeTerm). ok x (mark ")" ∷ rest)) (append-nil (terms_of index e))

  bare_step : (n : Name) (ts : List Token)
      → if_next (ascii "(") (event_list index) (event_name index) (name n ∷ ts) ≡ ok (term_of index Change n ∷ []) ts
  unfolding if_next starts is_mark event_name change ident
  bare_step n ts = refl

  control-read : (c : Control) (rest : List Token) → control index (spell_control c rest) ≡ ok (control_of index c) rest
  unfolding control spell_control control_of event_list
  control-read (bare n) rest = rw (expected (ascii "@") (name n ∷ rest)) (bare_step n rest)
  control-read (among e) rest =
      let ts = spell_event e (mark ")" ∷ rest) in
      rw (expected (ascii "@") (mark "(" ∷ ts))
      (next-is (ascii "(") (event_list index) (event_name index) ts
      ∙ rw (expected (ascii "(") ts, event-list e rest, expected (ascii ")") rest) refl)

  -- ---- by what a statement opens with

  module _ (inner : Reader (Stmt Expr)) (ts : List Token) where
    by-if : statement_by index inner (mark "if" ∷ ts) ≡ conditional index inner (mark "if" ∷ ts)
    unfolding statement_by if_next starts is_mark ascii same_text
    by-if = refl

    by-case : statement_by index inner (mark "case" ∷ ts) ≡ case_statement index inner (mark "case" ∷ ts)
    unfolding statement_by if_next starts is_mark ascii same_text
    by-case = refl

    by-while : statement_by index inner (mark "while" ∷ ts) ≡ while_loop index inner (mark "while" ∷ ts)
    unfolding statement_by if_next starts is_mark ascii same_text
    by-while = refl

    by-forever : statement_by index inner (mark "forever" ∷ ts) ≡ forever_loop index inner (mark "forever" ∷ ts)
    unfolding statement_by if_next starts is_mark ascii same_text
    by-forever = refl

    by-at : statement_by index inner (mark "@" ∷ ts) ≡ timing index inner (mark "@" ∷ ts)
    unfolding statement_by if_next starts is_mark ascii same_text
    by-at = refl

    by-begin : statement_by index inner (mark "begin" ∷ ts) ≡ block index inner (mark "begin" ∷ ts)
    unfolding statement_by if_next starts is_mark ascii same_text
    by-begin = refl

    by_name : (n : Name) → statement_by index inner (name n ∷ ts) ≡ assignment index (name n ∷ ts)
    unfolding statement_by if_next starts is_mark
    by_name n = refl

  by-control : (inner : Reader (Stmt Expr)) (c : Control) (ts : List Token)
      → statement_by index inner (spell_control c ts) ≡ timing index inner (spell_control c ts)
  unfolding spell_control
  by-control inner (bare n) ts = by-at inner (name n ∷ ts)
  by-control inner (among e) ts = by-at inner (mark "(" ∷ spell_event e (mark ")" ∷ ts))

  -- ---- what is shown of each tree

  Read : Statement → Type 0
  Read a = (f : ℕ) (rest : List Token) → Clear (is_open a) rest → length (spell_statement a rest) ≤ f
      → statement index f (spell_statement a rest) ≡ ok (stmt_of index a) rest

  ReadOrNull : OrNull → Type 0
  ReadOrNull a = (f : ℕ) (rest : List Token) → Clear (is_open_or_null a) rest → length (spell_or_null a rest) ≤ f
      → or_null index (statement index f) (spell_or_null a rest) ≡ ok (or_null_of index a) rest

  ReadChain : Chain → Type 0
  ReadChain c = (f : ℕ) (rest : List Token) → Clear (is_open_chain c) rest → length (spell_chain c rest) ≤ f
      → statement index f (spell_chain c rest) ≡ ok (chain_of index c) rest

  ReadAll : Statements → Type 0
  ReadAll xs = (f g : ℕ) (rest : List Token) → length (spell_all xs rest) ≤ f → length (spell_all xs rest) ≤ g
      → statements index (statement index f) g (spell_all xs rest) ≡ ok (stmts_of index xs) rest

  -- An item, with what follows the case's items so far; n of them are its default.
  ReadItem : CaseItem → Type 0
  ReadItem i = (f g n : ℕ) (rest : List Token) → n + defaults_of i ≤ 1 → starts (ascii "else") rest ≡ false → length (spell_item i rest) ≤ f
      → case_items index (statement index f) (suc g) n (spell_item i rest)
      ≡ items_behind index (case_items index (statement index f) g (n + defaults_of i)) (arm_of index i) rest

  ReadItems : CaseItems → Type 0
  ReadItems xs = (f g n : ℕ) (rest : List Token) → n + defaults xs ≤ 1 → length (spell_items xs rest) ≤ f → length (spell_items xs rest) ≤ g
      → case_items index (statement index f) g n (spell_items xs rest) ≡ ok (arms_of index xs) rest

  -- ---- assignments

  assigns-step : (n : Name) (ts : List Token) → assignment index (name n ∷ mark "=" ∷ ts) ≡ blocking_to index n (mark "=" ∷ ts)
  unfolding assignment ident
  assigns-step n ts = next-is (ascii "=") (blocking_to index n) (nonblocking_to index n) ts

  later-no : (ts : List Token) → starts (ascii "=") (mark "<=" ∷ ts) ≡ false
  unfolding starts is_mark ascii same_text
  later-no ts = refl

  later-step : (n : Name) (ts : List Token) → assignment index (name n ∷ mark "<=" ∷ ts) ≡ nonblocking_to index n (mark "<=" ∷ ts)
  unfolding assignment ident
  later-step n ts = next-not (ascii "=") (blocking_to index n) (nonblocking_to index n) (mark "<=" ∷ ts) (later-no ts)

  module _ (n : Name) (e : Expression) (rest : List Token) (w : Grouped e) where
    value_read : expression (spell e (mark ";" ∷ rest)) ≡ ok e (mark ";" ∷ rest)
    value_read = expression-read e (mark ";" ∷ rest) w (rw (leads-semicolon rest) (omega arith))

    blocking-to : blocking_to index n (mark "=" ∷ spell e (mark ";" ∷ rest)) ≡ ok (assigns (index n.spelled) (expr_of index e)) rest
    unfolding blocking_to
    blocking-to = rw (expected (ascii "=") (spell e (mark ";" ∷ rest)), value_read, expected (ascii ";") rest) refl

    nonblocking-to : nonblocking_to index n (mark "<=" ∷ spell e (mark ";" ∷ rest)) ≡ ok (later (index n.spelled) (expr_of index e)) rest
    unfolding nonblocking_to
    nonblocking-to = rw (expected (ascii "<=") (spell e (mark ";" ∷ rest)), value_read, expected (ascii ";") rest) refl

  read-blocking : (n : Name) (e : Expression) → Grouped e → Read (blocking n e)
  unfolding Read spell_statement stmt_of statement
  read-blocking n e w zero rest c l = absurd (omega arith)
  read-blocking n e w (suc f) rest c l =
      let ts = spell e (mark ";" ∷ rest) in
      by_name (statement index f) (mark "=" ∷ ts) n ∙ assigns-step n ts ∙ blocking-to n e rest w

  read-nonblocking : (n : Name) (e : Expression) → Grouped e → Read (nonblocking n e)
  unfolding Read spell_statement stmt_of statement
  read-nonblocking n e w zero rest c l = absurd (omega arith)
  read-nonblocking n e w (suc f) rest c l =
      let ts = spell e (mark ";" ∷ rest) in
      by_name (statement index f) (mark "<=" ∷ ts) n ∙ later-step n ts ∙ nonblocking-to n e rest w

  -- ---- statement_or_null

  read_some : (a : Statement) → Read a → ReadOrNull (some a)
  unfolding Read ReadOrNull spell_or_null or_null_of is_open_or_null or_null
  read_some a r f rest c l =
      next-not (ascii ";") (null_statement index) (statement index f) (spell_statement a rest) (opens a rest).semicolon ∙ r f rest c l

  read-null : ReadOrNull null
  unfolding ReadOrNull spell_or_null or_null_of or_null null_statement
  read-null f rest c l = next-is (ascii ";") (null_statement index) (statement index f) rest ∙ rw (expected (ascii ";") rest) refl

  -- ---- if without else, if with else: as a conditional statement and as the end of a chain

  conditional-step : (inner : Reader (Stmt Expr)) (e : Expression) (a : Stmt Expr) (ts us vs : List Token) → condition ts ≡ ok e us
      → or_null index inner us ≡ ok a vs → conditional index inner (mark "if" ∷ ts) ≡ or_else index inner (expr_of index e) a vs
  unfolding conditional
  conditional-step inner e a ts us vs p q = rw (expected (ascii "if") ts, p, q) refl

  no-else : (inner : Reader (Stmt Expr)) (e : Expr) (a : Stmt Expr) (ts : List Token) → starts (ascii "else") ts ≡ false
      → or_else index inner e a ts ≡ ok (if_then e a) ts
  unfolding or_else
  no-else inner e a ts h = next-not (ascii "else") (else_part index inner e a) (give (if_then e a)) ts h

  else-step : (inner : Reader (Stmt Expr)) (e : Expr) (a b : Stmt Expr) (ts rest : List Token) → or_null index inner ts ≡ ok b rest
      → or_else index inner e a (mark "else" ∷ ts) ≡ ok (if_else e a b) rest
  unfolding or_else else_part
  else-step inner e a b ts rest q =
      next-is (ascii "else") (else_part index inner e a) (give (if_then e a)) ts ∙ rw (expected (ascii "else") ts, q) refl

  if-read : (e : Expression) (a : OrNull) (f : ℕ) (rest : List Token) → Grouped e → ReadOrNull a → starts (ascii "else") rest ≡ false
      → suc (length (spell_condition e (spell_or_null a rest))) ≤ f
      → statement index f (mark "if" ∷ spell_condition e (spell_or_null a rest)) ≡ ok (if_then (expr_of index e) (or_null_of index a)) rest
  unfolding statement ReadOrNull
  if-read e a zero rest w r h l = absurd (omega arith)
  if-read e a (suc f) rest w r h l =
      let ts = spell_or_null a rest in
      let m = longer-condition e ts in
      let q = r f rest (clear (is_open_or_null a) rest h) (omega arith) in
      by-if (statement index f) (spell_condition e ts)
      ∙ conditional-step (statement index f) e (or_null_of index a) (spell_condition e ts) ts rest (condition-read e ts w) q
      ∙ no-else (statement index f) (expr_of index e) (or_null_of index a) rest h

  -- The second part is whatever the reader reads as statement_or_null.
  else-read : (e : Expression) (a : OrNull) (b : Stmt Expr) (f : ℕ) (ts rest : List Token) → Grouped e → ReadOrNull a
      → is_open_or_null a ≡ false
      → suc (length (spell_condition e (spell_or_null a (mark "else" ∷ ts)))) ≤ f
      → ((h : ℕ) → length ts ≤ h → or_null index (statement index h) ts ≡ ok b rest)
      → statement index f (mark "if" ∷ spell_condition e (spell_or_null a (mark "else" ∷ ts))) ≡ ok
      (if_else (expr_of index e) (or_null_of index a) b) rest
  unfolding statement ReadOrNull
  else-read e a b zero ts rest w r c l k = absurd (omega arith)
  else-read e a b (suc f) ts rest w r c l k =
      let us = spell_or_null a (mark "else" ∷ ts) in
      let m = longer-condition e us in
      let n = longer-or_null a (mark "else" ∷ ts) in
      let q = r f (mark "else" ∷ ts) (rw c (unfold Clear in tt)) (omega arith) in
      by-if (statement index f) (spell_condition e us)
      ∙ conditional-step (statement index f) e (or_null_of index a) (spell_condition e us) us (mark "else" ∷ ts) (condition-read e us w) q
      ∙ else-step (statement index f) (expr_of index e) (or_null_of index a) b ts rest (k f (omega arith))

  read-whether : (e : Expression) (a : OrNull) → Grouped e → ReadOrNull a → Read (whether e a)
  unfolding Read spell_statement stmt_of is_open Clear
  read-whether e a w r f rest c l = if-read e a f rest w r c l

  read-either : (e : Expression) (a b : OrNull) → Grouped e → ReadOrNull a → ReadOrNull b → is_open_or_null a ≡ false → Read (either e a b)
  unfolding Read ReadOrNull spell_statement stmt_of is_open
  read-either e a b w r q o f rest c l = else-read e a (or_null_of index b) f (spell_or_null b rest) rest w r o l (λ h m. q h rest c m)

  read-last : (e : Expression) (a : OrNull) → Grouped e → ReadOrNull a → ReadChain (last e a)
  unfolding ReadChain spell_chain chain_of is_open_chain Clear
  read-last e a w r f rest c l = if-read e a f rest w r c l

  read-last-else : (e : Expression) (a b : OrNull) → Grouped e → ReadOrNull a → ReadOrNull b → is_open_or_null a ≡ false
      → ReadChain (last_else e a b)
  unfolding ReadChain ReadOrNull spell_chain chain_of is_open_chain
  read-last-else e a b w r q o f rest c l = else-read e a (or_null_of index b) f (spell_or_null b rest) rest w r o l (λ h m. q h rest c m)

  read-leg : (e : Expression) (a : OrNull) (d : Chain) → Grouped e → ReadOrNull a → ReadChain d → is_open_or_null a ≡ false
      → ReadChain (leg e a d)
  unfolding ReadChain ReadOrNull spell_chain chain_of is_open_chain or_null
  read-leg e a d w r q o f rest c l =
      else-read e a (chain_of index d) f (spell_chain d rest) rest w r o l
      (λ h m. next-not (ascii ";") (null_statement index) (statement index h) (spell_chain d rest) (chain-open d rest) ∙ q h rest c m)

  chain-read : (c : Chain) → ReadChain c → Read (chain c)
  unfolding Read ReadChain spell_statement stmt_of is_open
  chain-read c r = r

  -- ---- loops, waits and blocks

  read-endless : (a : Statement) → Read a → Read (endless a)
  unfolding Read spell_statement stmt_of is_open statement forever_loop
  read-endless a r zero rest c l = absurd (omega arith)
  read-endless a r (suc f) rest c l =
      let ts = spell_statement a rest in
      by-forever (statement index f) ts ∙ rw (expected (ascii "forever") ts, r f rest c (omega arith)) refl

  read-repeats : (e : Expression) (a : Statement) → Grouped e → Read a → Read (repeats e a)
  unfolding Read spell_statement stmt_of is_open statement while_loop
  read-repeats e a w r zero rest c l = absurd (omega arith)
  read-repeats e a w r (suc f) rest c l =
      let ts = spell_statement a rest in
      let m = longer-condition e ts in
      by-while (statement index f) (spell_condition e ts)
      ∙ rw (expected (ascii "while") (spell_condition e ts), condition-read e ts w, r f rest c (omega arith)) refl

  read-after : (d : Control) (a : OrNull) → ReadOrNull a → Read (after d a)
  unfolding Read ReadOrNull spell_statement stmt_of is_open statement timing
  read-after d a r zero rest c l = let m = longer-control d (spell_or_null a rest) in absurd (omega arith)
  read-after d a r (suc f) rest c l =
      let ts = spell_or_null a rest in
      let m = longer-control d ts in
      by-control (statement index f) d ts ∙ rw (control-read d ts, r f rest c (omega arith)) refl

  read_none : ReadAll none
  unfolding ReadAll spell_all stmts_of statements block_end
  read_none f zero rest l m = absurd (omega arith)
  read_none f (suc g) rest l m =
      next-is (ascii "end") (block_end index) (block_more index (statement index f) (statements index (statement index f) g)) rest
      ∙ rw (expected (ascii "end") rest) refl

  more-step : (inner : Reader (Stmt Expr)) (rest : Reader (List (Stmt Expr))) (a : Stmt Expr) (xs : List (Stmt Expr))
      (ts us vs : List Token)
      → inner ts ≡ ok a us → rest us ≡ ok xs vs → block_more index inner rest ts ≡ ok (a ∷ xs) vs
  unfolding block_more
  more-step inner rest a xs ts us vs p q = rw (p, q) refl

  read_more : (a : Statement) (xs : Statements) → Read a → ReadAll xs → ReadAll (more a xs)
  unfolding Read ReadAll spell_all stmts_of statements
  read_more a xs r q f zero rest l m = let n = longer-statement a (spell_all xs rest) in absurd (omega arith)
  read_more a xs r q f (suc g) rest l m =
      let ts = spell_all xs rest in
      let n = longer-statement a ts in
      next-not (ascii "end") (block_end index) (block_more index (statement index f) (statements index (statement index f) g))
      (spell_statement a ts) (opens a ts).end
      ∙ more-step (statement index f) (statements index (statement index f) g) (stmt_of index a) (stmts_of index xs)
      (spell_statement a ts) ts rest
      (r f ts (clear (is_open a) ts (all-clear xs rest)) l) (q f g rest (omega arith) (omega arith))

  read-block : (xs : Statements) → ReadAll xs → Read (block_tree xs)
  unfolding Read ReadAll spell_statement stmt_of statement block
  read-block xs r zero rest c l = absurd (omega arith)
  read-block xs r (suc f) rest c l =
      let ts = spell_all xs rest in
      by-begin (statement index f) ts ∙ rw (expected (ascii "begin") ts, r f (length ts) rest (omega arith) (omega arith)) refl

  -- ---- case

  label-step : (inner : Reader (Stmt Expr)) (w v : ℕ) (a : Stmt Expr) (ts rest : List Token) → or_null index inner ts ≡ ok a rest
      → labelled_item index inner (number true w ∷ known v ∷ mark ":" ∷ ts) ≡ ok (on (number_expr (sized w v)) a) rest
  unfolding labelled_item size known_value
  label-step inner w v a ts rest e = rw (expected (ascii ":") ts, e) refl

  colon-step : (ts : List Token) → colon index (mark ":" ∷ ts) ≡ ok tt ts
  unfolding colon
  colon-step ts = next-is (ascii ":") (expect (ascii ":")) (give tt) ts ∙ expected (ascii ":") ts

  no-colon-step : (ts : List Token) → starts (ascii ":") ts ≡ false → colon index ts ≡ ok tt ts
  unfolding colon
  no-colon-step ts h = next-not (ascii ":") (expect (ascii ":")) (give tt) ts h

  default-step : (inner : Reader (Stmt Expr)) (a : Stmt Expr) (ts us rest : List Token) → colon index ts ≡ ok tt us
      → or_null index inner us ≡ ok a rest
      → default_item index inner (mark "default" ∷ ts) ≡ ok (otherwise a) rest
  unfolding default_item
  default-step inner a ts us rest p q = rw (expected (ascii "default") ts, p, q) refl

  first-label : (inner : Reader (Stmt Expr)) (g n w : ℕ) (ts rest : List Token) (i : Arm)
      → labelled_item index inner (number true w ∷ ts) ≡ ok i rest
      → case_items index inner (suc g) n (number true w ∷ ts) ≡ items_behind index (case_items index inner g n) i rest
  unfolding case_items if_next starts is_mark label_first
  first-label inner g n w ts rest i e = rw e refl

  first-default : (inner : Reader (Stmt Expr)) (g n : ℕ) (ts rest : List Token) (i : Arm) → n + 1 ≤ 1
      → default_item index inner (mark "default" ∷ ts) ≡ ok i rest
      → case_items index inner (suc g) n (mark "default" ∷ ts) ≡ items_behind index (case_items index inner g (n + 1)) i rest
  unfolding case_items default_first
  first-default inner g zero ts rest i h e =
      next-is (ascii "default") (default_first index inner (case_items index inner g 1))
      (label_first index inner (case_items index inner g 0)) ts ∙ rw e refl
  first-default inner g (suc n) ts rest i h e = absurd (omega arith)

  read-labelled : (w v : ℕ) (a : OrNull) → ReadOrNull a → ReadItem (labelled w v a)
  unfolding ReadItem ReadOrNull spell_item arm_of defaults_of
  read-labelled w v a r f g n rest d c l =
      first-label (statement index f) g n w (known v ∷ mark ":" ∷ spell_or_null a rest) rest (on (number_expr (sized w v)) (or_null_of index a))
      (label-step (statement index f) w v (or_null_of index a) (spell_or_null a rest) rest
      (r f rest (clear (is_open_or_null a) rest c) (omega arith)))
      ∙ rw (add-zero n) refl

  read-default : (a : OrNull) → ReadOrNull a → ReadItem (default a)
  unfolding ReadItem ReadOrNull spell_item arm_of defaults_of
  read-default a r f g n rest d c l =
      let ts = spell_or_null a rest in
      first-default (statement index f) g n ts rest (otherwise (or_null_of index a)) d
      (default-step (statement index f) (or_null_of index a) ts ts rest (no-colon-step ts (no-colon a rest))
      (r f rest (clear (is_open_or_null a) rest c) (omega arith)))

  read-default-colon : (a : OrNull) → ReadOrNull a → ReadItem (default_colon a)
  unfolding ReadItem ReadOrNull spell_item arm_of defaults_of
  read-default-colon a r f g n rest d c l =
      let ts = spell_or_null a rest in
      first-default (statement index f) g n (mark ":" ∷ ts) rest (otherwise (or_null_of index a)) d
      (default-step (statement index f) (or_null_of index a) (mark ":" ∷ ts) ts rest (colon-step ts)
      (r f rest (clear (is_open_or_null a) rest c) (omega arith)))

  end_step : (later_ones : Reader (List Arm)) (i : Arm) (ts : List Token)
      → items_behind index later_ones i (mark "endcase" ∷ ts) ≡ ok (i ∷ []) ts
  unfolding items_behind items_end
  end_step later_ones i ts =
      next-is (ascii "endcase") (items_end index i) (items_more index later_ones i) ts ∙ rw (expected (ascii "endcase") ts) refl

  behind-step : (later_ones : Reader (List Arm)) (i : Arm) (is : List Arm) (ts rest : List Token) → starts (ascii "endcase") ts ≡ false
      → later_ones ts ≡ ok is rest → items_behind index later_ones i ts ≡ ok (i ∷ is) rest
  unfolding items_behind items_more
  behind-step later_ones i is ts rest h e = next-not (ascii "endcase") (items_end index i) (items_more index later_ones i) ts h ∙ rw e refl

  read-last-item : (i : CaseItem) → ReadItem i → ReadItems (last_item i)
  unfolding ReadItem ReadItems spell_items arms_of defaults
  read-last-item i r f zero n rest d l m = let k = longer-item i (mark "endcase" ∷ rest) in absurd (omega arith)
  read-last-item i r f (suc g) n rest d l m =
      r f g n (mark "endcase" ∷ rest) d (endcase-clear rest) l
      ∙ end_step (case_items index (statement index f) g (n + defaults_of i)) (arm_of index i) rest

  read-more-items : (i : CaseItem) (xs : CaseItems) → ReadItem i → ReadItems xs → ReadItems (item i xs)
  unfolding ReadItem ReadItems spell_items arms_of defaults
  read-more-items i xs r q f zero n rest d l m = let k = longer-item i (spell_items xs rest) in absurd (omega arith)
  read-more-items i xs r q f (suc g) n rest d l m =
      let ts = spell_items xs rest in
      let k = longer-item i ts in
      r f g n ts (omega arith) (items-open xs rest).1 l
      ∙ behind-step (case_items index (statement index f) g (n + defaults_of i)) (arm_of index i) (arms_of index xs) ts rest
      (items-open xs rest).0
      (q f g (n + defaults_of i) rest (omega arith) (omega arith) (omega arith))

  read-selects : (e : Expression) (xs : CaseItems) → Grouped e → defaults xs ≤ 1 → ReadItems xs → Read (selects e xs)
  unfolding Read ReadItems spell_statement stmt_of statement case_statement
  read-selects e xs w d r zero rest c l = absurd (omega arith)
  read-selects e xs w d r (suc f) rest c l =
      let ts = spell_items xs rest in
      let m = longer-condition e ts in
      by-case (statement index f) (spell_condition e ts)
      ∙ rw (
        expected (ascii "case") (spell_condition e ts),
        condition-read e ts w,
        r f (length ts) 0 rest (omega arith) (omega arith) (omega arith),
      ) refl

  -- ---- all trees

  mutual
    unfolding Settled SettledOrNull SettledChain SettledAll SettledItem SettledItems

    read-statement : (a : Statement) → Settled a → Read a
    read-statement (blocking n e) w = read-blocking n e w
    read-statement (nonblocking n e) w = read-nonblocking n e w
    read-statement (selects e xs) w = read-selects e xs w.0 w.2 (read-items xs w.1)
    read-statement (whether e a) w = read-whether e a w.0 (read-or_null a w.1)
    read-statement (either e a b) w = read-either e a b w.0 (read-or_null a w.1) (read-or_null b w.2) w.3
    read-statement (chain c) w = chain-read c (read-chain c w)
    read-statement (endless a) w = read-endless a (read-statement a w)
    read-statement (repeats e a) w = read-repeats e a w.0 (read-statement a w.1)
    read-statement (after c a) w = read-after c a (read-or_null a w)
    read-statement (block_tree xs) w = read-block xs (read_all xs w)

    read-or_null : (a : OrNull) → SettledOrNull a → ReadOrNull a
    read-or_null (some a) w = read_some a (read-statement a w)
    read-or_null null w = read-null

    read-chain : (c : Chain) → SettledChain c → ReadChain c
    read-chain (last e a) w = read-last e a w.0 (read-or_null a w.1)
    read-chain (last_else e a b) w = read-last-else e a b w.0 (read-or_null a w.1) (read-or_null b w.2) w.3
    read-chain (leg e a c) w = read-leg e a c w.0 (read-or_null a w.1) (read-chain c w.2) w.3

    read_all : (xs : Statements) → SettledAll xs → ReadAll xs
    read_all none w = read_none
    read_all (more a xs) w = read_more a xs (read-statement a w.0) (read_all xs w.1)

    read-case : (i : CaseItem) → SettledItem i → ReadItem i
    read-case (labelled k v a) w = read-labelled k v a (read-or_null a w)
    read-case (default a) w = read-default a (read-or_null a w)
    read-case (default_colon a) w = read-default-colon a (read-or_null a w)

    read-items : (xs : CaseItems) → SettledItems xs → ReadItems xs
    read-items (last_item i) w = read-last-item i (read-case i w)
    read-items (item i xs) w = read-more-items i xs (read-case i w.0) (read-items xs w.1)

  pub statement-read : (a : Statement) (rest : List Token) → Settled a → starts (ascii "else") rest ≡ false
      → statement index (length (spell_statement a rest)) (spell_statement a rest) ≡ ok (stmt_of index a) rest
  unfolding Read
  statement-read a rest w h = read-statement a w (length (spell_statement a rest)) rest (clear (is_open a) rest h) (omega arith)
