-- The definitions of Stmts at the tables' own expressions and labels: what the code is proved equal to.
use Rattle.std.specs.Prelude.{List, ℕ}
use Rattle.verilog_stmts.specs.declared.Case.{Case}
use Rattle.verilog_stmts.specs.Steps.{State}
use Rattle.verilog_stmts.specs.Stmts

module _ (ks ns : List ℕ) (count : ℕ) where
  abbrev pub condition_in : State → State
  condition_in = Stmts.condition ks ns count (Stmts.value ks ns count) (Stmts.label_at ks ns)

  abbrev pub subject_in : State → State
  subject_in = Stmts.subject ks ns count (Stmts.value ks ns count) (Stmts.label_at ks ns)

  abbrev pub closed_in : State → State
  closed_in = Stmts.closed ks ns count (Stmts.value ks ns count) (Stmts.label_at ks ns)

  abbrev pub assignment_in : State → State
  assignment_in = Stmts.assignment ks ns count (Stmts.value ks ns count) (Stmts.label_at ks ns)

  abbrev pub heading_in : ℕ → State → State
  heading_in = Stmts.heading ks ns count (Stmts.value ks ns count) (Stmts.label_at ks ns)

  abbrev pub statement_in : ℕ → State → State
  statement_in = Stmts.statement_at ks ns count (Stmts.value ks ns count) (Stmts.label_at ks ns)

  abbrev pub or_null_in : ℕ → State → State
  or_null_in f = Stmts.or_null ks ns count (Stmts.value ks ns count) (Stmts.label_at ks ns) (statement_in f)

  abbrev pub conditional_in : ℕ → State → State
  conditional_in f = Stmts.conditional ks ns count (Stmts.value ks ns count) (Stmts.label_at ks ns) (statement_in f)

  abbrev pub block_in : ℕ → State → State
  block_in f = Stmts.block ks ns count (Stmts.value ks ns count) (Stmts.label_at ks ns) (statement_in f)

  abbrev pub defaulted_in : ℕ → State → State
  defaulted_in f = Stmts.defaulted ks ns count (Stmts.value ks ns count) (Stmts.label_at ks ns) (statement_in f)

  abbrev pub labelled_in : ℕ → ℕ → State → State
  labelled_in f = Stmts.labelled ks ns count (Stmts.value ks ns count) (Stmts.label_at ks ns) (statement_in f)

  abbrev pub case_statement_in : ℕ → State → State
  case_statement_in f = Stmts.case_statement ks ns count (Stmts.value ks ns count) (Stmts.label_at ks ns) (statement_in f)

  abbrev pub block_rest_in : ℕ → ℕ → ℕ → State → State
  block_rest_in f g = Stmts.block_rest ks ns count (Stmts.value ks ns count) (Stmts.label_at ks ns) (statement_in f) g

  abbrev pub case_items_in : ℕ → ℕ → Case → State → State
  case_items_in f g = Stmts.case_items ks ns count (Stmts.value ks ns count) (Stmts.label_at ks ns) (statement_in f) g

  abbrev pub items_behind_in : ℕ → ℕ → Case → State → State
  items_behind_in f g = Stmts.items_behind ks ns count (Stmts.value ks ns count) (Stmts.label_at ks ns) (statement_in f) (case_items_in f g)
