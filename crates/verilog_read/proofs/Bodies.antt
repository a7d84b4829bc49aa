-- What a wire's expression and a thread's statement leave in the buffer. Assumes nothing.
use mathlib.Core.Path.{◌≡◌, refl, sym, ◌∙◌, ap}
use mathlib.Core.Bool.{true}
use mathlib.Core.List.{List, ◌++◌}
use Prim.Native.Nat.{ℕ, ◌+◌, ◌-◌, ◌<◌, ◌≤◌}
use native.Mathlib.Omega.{arith}
use borrow.Author.Tests.{lt-ltb}
use lib.ListN.{length, drop, length-drop}
use Rattle.sheet.specs.Expression.{Expr}
use Rattle.sheet.specs.Statement.{Stmt}
use Rattle.writing.specs.Buffer.{Text, filled}
use Rattle.verilog_tokens.specs.Tokens.{Token}
use Rattle.verilog_grammar.specs.Reader.{ok, statement}
use Rattle.verilog_source.specs.Written.{written_stmt}
use Rattle.verilog_bytes.specs.Held.{Held}
use Rattle.verilog_exprs.specs.Rows.{wrote, answer}
use Rattle.verilog_exprs.specs.Following.{Tabled, From, Passed, Follows}
use Rattle.encoding.specs.Encoding.{encode_expr}
use Rattle.verilog_grammar.specs.Meaning.{Driven}
use Rattle.verilog_exprs.specs.Exprs.{expr_at}
use Rattle.verilog_exprs.specs.Claims.{bytes_of, ExpressionsFollow}
use Rattle.verilog_exprs.proofs.Reading.{expressions-follow}
use Rattle.verilog_stmts.specs.Steps.{after}
use Rattle.verilog_stmts.specs.Stmts.{value, value_at}
use Rattle.verilog_stmts.specs.Written.{statement_in}
use Rattle.verilog_stmts.specs.Claims.{StatementsFollow}
use Rattle.verilog_stmts.proofs.Following.{statements-follow}
use Rattle.verilog_names.specs.Tables.{Drives, Runs}
use Rattle.verilog_items.specs.Items.{statement_from}
use Rattle.verilog_read.specs.Read.{text_of, value_behind, statement_behind}

module _ (index : List ℕ → ℕ) (ts : List Token) (ks table : List ℕ) (tab : Tabled index ts ks table)
    (small : (s : List ℕ) → index s < 256) (i p : ℕ) (bs l : List ℕ) (h : i < length ts) (held : Held bs p l) where
  statement-passed : {s : Stmt Expr} (r : Runs index ts i s)
      → Passed ts (statement_in ks table (length ts) (length (drop (i + 1) ts)) (wrote (answer true (i + 1) p) bs)) r.rest
      (l ++ written_stmt s)
  unfolding StatementsFollow Follows
  statement-passed r =
      rw r.reads at
      (statements-follow index ts (drop (i + 1) ts) ks table tab small (length (drop (i + 1) ts)) (i + 1) p bs l
      (record { rest = refl; count = omega (arith, length-drop (i + 1) ts) }) held)

  pub statement-held : {s : Stmt Expr} → Runs index ts i s
      → Held
      (statement_behind ks table (length ts) i (filled bs p)).bytes
      (statement_behind ks table (length ts) i (filled bs p)).at
      (l ++ written_stmt s)
  unfolding statement_behind statement_from after
  statement-held r =
      rw (lt-ltb i 16385 (omega (arith, tab.few)), ← length-drop (i + 1) ts) (statement-passed r).holds

module _ (index : List ℕ → ℕ) (ts : List Token) (ks table : List ℕ) (tab : Tabled index ts ks table)
    (small : (s : List ℕ) → index s < 256) (i p : ℕ) (bs l : List ℕ) (h : i + 2 ≤ length ts) (held : Held bs p l) where
  value-passed : {d : Driven} (r : Drives index ts i d)
      → Passed ts (expr_at ks table (length (drop (i + 2) ts)) 1 (i + 2) p bs) r.rest (l ++ bytes_of index r.tree)
  unfolding ExpressionsFollow Follows
  value-passed r =
      rw r.reads at
      (expressions-follow index ts (drop (i + 2) ts) ks table tab small (i + 2) p bs l
      (record { rest = refl; count = omega (arith, length-drop (i + 2) ts) }) held)

  pub value-held : {d : Driven} → Drives index ts i d
      → Held
      (value_behind ks table (length ts) i (filled bs p)).bytes
      (value_behind ks table (length ts) i (filled bs p)).at
      (l ++ encode_expr d.value)
  unfolding value_behind value value_at after bytes_of
  value-held r =
      let two : i + 1 + 1 ≡ i + 2 = omega arith in
      rw (r.value, lt-ltb i 16385 (omega (arith, tab.few)), lt-ltb (i + 1) 16385 (omega (arith, tab.few)), two, ← length-drop (i + 2) ts)
      (value-passed r).holds
