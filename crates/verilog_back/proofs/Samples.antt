-- Samples, computed: two modules, printed as Verilog and read back.
-- Assumes nothing.
use mathlib.Core.Path.{◌≡◌, refl}
use mathlib.Core.List.{List, [], ◌∷◌}
use Prim.Native.Nat.{ℕ}
use Rattle.values.specs.declared.Edge.TheVariants.{Posedge}
use Rattle.sheet.specs.Expression.{Expr, variable, unary}
use Rattle.sheet.specs.Statement.{sequence, later, wait}
use Rattle.sheet.specs.Module.{Module}
use Rattle.writing.specs.Ascii.{ascii}
use Rattle.writing.specs.Numbers.{digits, decimal}
use Rattle.naming.specs.Naming.{plain_mark, plain_number, plain_name}
use Rattle.signs.specs.Signs.{sign}
use Rattle.verilog.specs.Verilog.{indent, before, edge_text, range_text, direction_text, front, expr_text, term_text, terms_text, sequence_text, stmt_text, port_text, ports_text, wires_text, opening, remainder, opened_text, thread_text, threads_text, declaration_text, declarations_text, functions_text, module_text, verilog_text}
use Rattle.verilog_tokens.specs.Tokens.{tokens}
use Rattle.verilog_grammar.specs.Reader.{read_module}
use Rattle.verilog_source.specs.Compiled.{unnumbered, parts_of, sheet_of}
use Rattle.verilog_source.proofs.Samples.{opened}

-- A module's printed text, with every definition open that makes it and reads it.
unfoldable printed : Module Expr → List ℕ
unfolding opened ascii digits decimal plain_mark plain_number plain_name sign indent before edge_text range_text direction_text front expr_text
    term_text terms_text sequence_text stmt_text port_text ports_text wires_text opening remainder opened_text thread_text threads_text declaration_text declarations_text functions_text module_text
    verilog_text
printed m = verilog_text m

-- The sheet that it gives.
abbrev Comes : Module Expr → List ℕ → Type 0
Comes m bytes = sheet_of (tokens (verilog_text m)) (parts_of (read_module unnumbered (tokens (verilog_text m)))) ≡ bytes

-- ---- document 01's flip-flop Comes back as it was, "`02 01 00 01 01 08 08 0C 10 01 01 00 23 02 02 01`": its wait opens a sequence

flip_flop : Module Expr
flip_flop =
    record {
      scope = record { inputs = 2; registers = 1; widths = 1 ∷ 8 ∷ 8 ∷ []; declared = 0; functions = [] };
      wires = [];
      threads = sequence (wait (record { edge = Posedge; variable = 0 } ∷ [])) (later 2 (variable 1)) ∷ [];
    }

flip-flop-back : Comes flip_flop
    (0x02 ∷ 0x01 ∷ 0x00 ∷ 0x01 ∷ 0x01 ∷ 0x08 ∷ 0x08 ∷ 0x0C ∷ 0x10 ∷ 0x01 ∷ 0x01 ∷ 0x00 ∷ 0x23 ∷ 0x02 ∷ 0x02 ∷ 0x01 ∷ [])
unfolding printed flip_flop
flip-flop-back = refl

-- ---- a wait at the end Comes back with an empty statement behind it

toggles : Module Expr
toggles =
    record {
      scope = record { inputs = 1; registers = 1; widths = 1 ∷ 1 ∷ []; declared = 0; functions = [] };
      wires = [];
      threads = sequence (later 1 (unary 1 1 (variable 1))) (wait (record { edge = Posedge; variable = 0 } ∷ [])) ∷ [];
    }

toggles-back : Comes toggles
    (1 ∷ 1 ∷ 0 ∷ 1 ∷ 1 ∷ 1 ∷ 0x0C ∷ 0x23 ∷ 1 ∷ 0x11 ∷ 1 ∷ 0x02 ∷ 1 ∷ 0x0C ∷ 0x10 ∷ 1 ∷ 1 ∷ 0 ∷ 0x00 ∷ [])
unfolding printed toggles
toggles-back = refl
