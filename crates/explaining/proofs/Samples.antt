-- A thread explained, computed by the definitions.
use mathlib.Core.Path.{◌≡◌, refl}
use Prim.Native.Nat.{ℕ}
use Prim.Native.String.{String}
use mathlib.Core.List.{List, [], ◌∷◌, ◌++◌}
use Rattle.values.specs.declared.Edge.TheVariants.{Posedge}
use Rattle.sheet.specs.Expression.{Expr, variable}
use Rattle.sheet.specs.Statement.{Stmt, later, sequence, while, wait}
use Rattle.pseudocode.specs.Filling.{after}
use Rattle.writing.specs.Ascii.{ascii, byte}
use Rattle.writing.specs.Numbers.{digits, decimal}
use Rattle.naming.specs.Naming.{plain_mark, plain_number, plain_name}
use Rattle.verilog.specs.Verilog.{indent, before, edge_text, expr_text, term_text, terms_text}
use Rattle.explaining.specs.Explaining.{counted, stopping, joined, going, followed, first, behind, ahead, heading_text}
use Rattle.explaining.specs.Explaining.{ahead_text, search_text, point_text, points_text, thread_text}

-- Lines, each ended by a line feed.
unfoldable pub lines : List String → List ℕ
lines [] = []
lines (l ∷ ls) = ascii l ++ (byte "\n" ∷ lines ls)

abbrev rising : Stmt Expr
rising = wait (record { edge = Posedge; variable = 0 } ∷ [])

-- `@(posedge i0) begin while (i1) begin r0 <= r0; @(posedge i0); end r0 <= i1; end`, over and over.
abbrev holding : Stmt Expr
holding =
    sequence rising (sequence (while (variable 1) (sequence (later 2 (variable 2)) rising)) (later 2 (variable 1)))

-- From either wait the loop is an if, and behind it the thread begins anew.
pub sample : thread_text (plain_name 2 1) 0 holding ≡ lines
    ("thread 0" ∷ "  from the start:" ∷ "    @(posedge i0); // wait 1" ∷
    "  from wait 1:" ∷ "    if (i1) begin" ∷ "      r0 <= r0;" ∷ "      @(posedge i0); // wait 2" ∷ "    end" ∷ "    r0 <= i1;" ∷
    "    @(posedge i0); // wait 1" ∷
    "  from wait 2:" ∷ "    if (i1) begin" ∷ "      r0 <= r0;" ∷ "      @(posedge i0); // wait 2" ∷ "    end" ∷ "    r0 <= i1;" ∷
    "    @(posedge i0); // wait 1" ∷ [])
unfolding lines thread_text point_text points_text heading_text search_text ahead_text ahead going behind counted joined stopping followed first after decimal digits ascii indent plain_name plain_mark plain_number expr_text terms_text term_text before edge_text
sample = refl
