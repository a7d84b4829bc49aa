-- Statements, on the tables of a text's tokens and the buffer: what `verilog_grammar`'s reader does with tokens, with bytes in place
-- of statements.
use Rattle.std.specs.Prelude.{true, false, List, [], ◌∷◌, ℕ, zero, suc, ◌-◌}
use Rattle.values.specs.Values.{pick, ◌is◌then◌else◌}
use Rattle.verilog_grammar.specs.Meaning.{up_to}
use Rattle.verilog_exprs.specs.declared.Put.{Put}
use Rattle.verilog_exprs.specs.Rows.{row_at, answer, wrote, expected}
use Rattle.verilog_exprs.specs.Constants.{constant_bytes}
use Rattle.verilog_exprs.specs.Exprs.{expr_at}
use Rattle.verilog_stmts.specs.declared.Case.{Case}
use Rattle.verilog_stmts.specs.Steps.{State, moved, refused, after, is_next, write, front, stamp_at, last, named}
use Rattle.verilog_stmts.specs.Events.{control}

-- ---- an expression, with as many tokens as are left

abbrev pub stay : State → State
stay s = s

module _ (ks ns : List ℕ) (count : ℕ) where
  unfoldable pub value_at : State → State
  value_at s = expr_at ks ns (count - s.put.next) 1 s.put.next s.put.pos s.bytes

  unfoldable pub value : State → State
  value s = pick s.put.ok value_at stay s

-- ---- a label: a size (65) and a known value (67)

module _ (ks ns : List ℕ) where
  unfoldable pub known : ℕ → State → State
  known width s = write (constant_bytes width (row_at ns s.put.next)) (moved after s)

  unfoldable pub label_value : ℕ → State → State
  label_value width s = pick (is_next ks 67 s.put) (known width) (moved refused) s

  unfoldable pub sized : State → State
  sized s = label_value (up_to 32 (row_at ns s.put.next)) (moved after s)

  unfoldable pub label_at : State → State
  label_at s = pick (is_next ks 65 s.put) sized (moved refused) s

-- ---- another token, another place

abbrev pub at_token : ℕ → State → State
at_token i s = wrote (answer s.put.ok i s.put.pos) s.bytes

abbrev pub at_place : ℕ → State → State
at_place p s = wrote (answer s.put.ok s.put.next p) s.bytes

-- ---- a case's tests so far

abbrev pub opened : ℕ → Case
opened i = record { subject = i; last = 0; from = 0; mid = 0; closed = false }

abbrev pub tested : Case → ℕ → Case
tested c p = record { subject = c.subject; last = p; from = c.from; mid = c.mid; closed = c.closed }

abbrev pub closed_at : Case → ℕ → ℕ → Case
closed_at c p q = record { subject = c.subject; last = c.last; from = p; mid = q; closed = true }

-- `endcase`: the default's bytes come last; without one the last test is an if.
unfoldable pub case_end : Case → State → State
case_end c s = pick c.closed (last c.from c.mid) (stamp_at 0x06 c.last) (moved after s)

-- ---- over an expression and a label

module _ (ks ns : List ℕ) (count : ℕ) (expr label : State → State) where
  unfoldable pub condition : State → State
  condition s = moved (expected ks 21) (expr (moved (expected ks 20) s))

  -- A case's subject is read for its own sake once: at the buffer's end nothing is written.
  unfoldable pub subject : State → State
  subject s = at_place s.put.pos (condition (at_place 65536 s))

  -- ---- assignments

  unfoldable pub closed : State → State
  closed s = moved (expected ks 25) (expr s)

  unfoldable pub later : ℕ → State → State
  later from s = closed (moved (expected ks 30) (stamp_at 0x23 from s))

  unfoldable pub now : State → State
  now s = closed (moved after s)

  unfoldable pub assigned : ℕ → State → State
  assigned from s = pick (is_next ks 28 s.put) now (later from) s

  unfoldable pub assignment : State → State
  assignment s = assigned s.put.pos (named ks ns (write (0x03 ∷ []) s))

  -- ---- statements; `inner` reads one within

  unfoldable pub null : State → State
  null s = write (0x00 ∷ []) (moved after s)

  -- A test's first bytes, and the subject once more.
  unfoldable pub heading : ℕ → State → State
  heading i s = at_token s.put.next (expr (at_token i (write (0x31 ∷ 0x08 ∷ []) (write (0x0E ∷ []) s))))

  unfoldable pub colon : Put → Put
  colon p = pick (is_next ks 24 p) after (λ q. q) p

  module _ (inner : State → State) where
    unfoldable pub or_null : State → State
    or_null s = pick (is_next ks 25 s.put) null inner s

    -- each `else` at the nearest `if`, whose byte is at a place
    unfoldable pub else_part : ℕ → State → State
    else_part from s = or_null (moved after (stamp_at 0x0E from s))

    unfoldable pub or_else : ℕ → State → State
    or_else from s = pick (is_next ks 11 s.put) (else_part from) stay s

    unfoldable pub conditional : State → State
    conditional s = or_else s.put.pos (or_null (condition (write (0x06 ∷ []) (moved after s))))

    unfoldable pub while_loop : State → State
    while_loop s = inner (condition (write (0x46 ∷ []) (moved after s)))

    unfoldable pub forever_loop : State → State
    forever_loop s = inner (write (0x44 ∷ []) (moved after s))

    unfoldable pub timing : State → State
    timing s = or_null (control ks ns count s)

    -- ---- "A `begin` block nests to the right": a statement that isn't the last gets its 0Ch when the next one is met

    unfoldable pub block_next : (ℕ → State → State) → State → State
    block_next rest s = rest s.put.pos (inner s)

    unfoldable pub block_more : (ℕ → State → State) → ℕ → State → State
    block_more rest from s = block_next rest (front 0x0C from s)

    unfoldable pub block_by : (ℕ → State → State) → ℕ → State → State
    block_by rest from s = pick (is_next ks 9 s.put) (moved after) (block_more rest from) s

    unfoldable pub block_rest : ℕ → ℕ → State → State
    block_rest zero from s = moved refused s
    block_rest (suc g) from s = pick s.put.ok (block_by (block_rest g) from) stay s

    unfoldable pub block_first : ℕ → State → State
    block_first zero s = moved refused s
    block_first (suc g) s = pick (is_next ks 9 s.put) null (block_next (block_rest g)) s

    unfoldable pub block : State → State
    block s = block_first (count - s.put.next) s

    -- ---- case: "nested if-else on subject == label, the last an if without default"

    unfoldable pub labelled : ℕ → State → State
    labelled i s = or_null (moved (expected ks 24) (label (heading i s)))

    unfoldable pub defaulted : State → State
    defaulted s = or_null (moved colon (moved after s))

    unfoldable pub items_behind : (Case → State → State) → Case → State → State
    items_behind rest c s = pick (is_next ks 13 s.put) (case_end c) (rest c) s

    unfoldable pub case_label : (Case → State → State) → Case → State → State
    case_label rest c s = items_behind rest (tested c s.put.pos) (labelled c.subject s)

    unfoldable pub closing : (Case → State → State) → Case → ℕ → State → State
    closing rest c from s = items_behind rest (closed_at c from s.put.pos) s

    unfoldable pub first_default : (Case → State → State) → Case → State → State
    first_default rest c s = closing rest c s.put.pos (defaulted s)

    -- A second default is refused where it stands.
    unfoldable pub case_default : (Case → State → State) → Case → State → State
    case_default rest c s = pick c.closed (moved refused) (first_default rest c) s

    unfoldable pub case_item : (Case → State → State) → Case → State → State
    case_item rest c s = pick (is_next ks 14 s.put) (case_default rest c) (case_label rest c) s

    unfoldable pub case_items : ℕ → Case → State → State
    case_items zero c s = moved refused s
    case_items (suc g) c s = pick s.put.ok (case_item (case_items g) c) stay s

    unfoldable pub case_body : ℕ → State → State
    case_body i s = case_items (count - s.put.next) (opened i) s

    -- `case`, `(` and the subject's first token
    unfoldable pub case_statement : State → State
    case_statement s = case_body (after (after s.put)).next (subject (moved after s))

    unfoldable pub statement_by : ℕ → State → State
    statement_by k =
        k is 10 then conditional else
        k is 12 then case_statement else
        k is 15 then while_loop else
        k is 16 then forever_loop else
        k is 27 then timing else
        k is 8 then begin else
        assignment
      where
        begin : State → State
        begin s = block (moved after s)

  unfoldable pub statement_at : ℕ → State → State
  statement_at zero s = moved refused s
  statement_at (suc f) s = pick s.put.ok (statement_by (statement_at f) (row_at ks s.put.next)) stay s
