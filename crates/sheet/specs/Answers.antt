-- What the code answers: document 01's number and values for each case.
use Rattle.std.specs.Prelude.{ℕ, List, length, replicate}
use Rattle.std.proofs.lemmas.List.Edits.{sets}
use Rattle.sheet.specs.Reading.{Res, ok, no}
use Rattle.sheet.specs.Expression.{Parsed}
use Rattle.sheet.specs.Statement.{Body, size}
use Rattle.sheet.specs.Module.{widths_at, Sheet}
use Rattle.sheet.specs.declared.ExprRead as ExprRead
use Rattle.sheet.specs.declared.StmtRead as StmtRead
use Rattle.sheet.specs.declared.Layout.{Layout}
use Rattle.sheet.specs.declared.SheetRead.{SheetRead}

-- The tree is the only part of an expression that the answer leaves out.
unfoldable pub expr_answer : {E : Type 0} → Res (Parsed E) → ExprRead.ExprRead
expr_answer (ok e) = ExprRead.TheVariants.Read e.next e.width
expr_answer (no n p) = ExprRead.TheVariants.Refused n p

-- Of a statement's tree the answer keeps the size.
unfoldable pub stmt_answer : {E : Type 0} → Res (Body E) → StmtRead.StmtRead
stmt_answer (ok b) = StmtRead.TheVariants.Read b.next (size b.stmt)
stmt_answer (no n p) = StmtRead.TheVariants.Refused n p

-- The places of the wires' expressions, 0 past the last.
unfoldable pub starts_of : List ℕ → List ℕ
starts_of wires = sets (replicate 32 0) 0 wires

-- The places of the functions' definitions, 0 past the last.
unfoldable pub definitions_of : List ℕ → List ℕ
definitions_of places = sets (replicate 8 0) 0 places

unfoldable pub layout_of : Sheet ℕ → Layout
layout_of r =
    record {
      inputs = r.contents.scope.inputs;
      registers = r.contents.scope.registers;
      wires = length r.contents.wires;
      threads = length r.contents.threads;
      functions = r.contents.scope.declared;
      widths = widths_at r.contents.scope.declared;
      definitions = definitions_of r.definitions;
      starts = starts_of r.contents.wires;
      body = r.body;
    }

unfoldable pub blank : Layout
blank =
    record {
      inputs = 0;
      registers = 0;
      wires = 0;
      threads = 0;
      functions = 0;
      widths = 0;
      definitions = replicate 8 0;
      starts = replicate 32 0;
      body = 0;
    }

unfoldable pub sheet_answer : Res (Sheet ℕ) → SheetRead
sheet_answer (ok r) = record { number = 0; place = 0; layout = layout_of r }
sheet_answer (no n p) = record { number = n; place = p; layout = blank }
