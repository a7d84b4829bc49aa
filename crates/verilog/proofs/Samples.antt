-- The Verilog text of sheets that are written out, computed by the definitions.
use mathlib.Core.Path.{◌≡◌, refl}
use Prim.Native.Nat.{ℕ}
use Prim.Native.String.{String}
use mathlib.Core.List.{List, [], ◌∷◌, ◌++◌}
use Rattle.values.specs.Edges.{edge_of}
use Rattle.values.specs.Operators.{unary_width, binary_width}
use Rattle.sheet.specs.Reading.{Res, ok, no, byte_at, within, word, word_of, word_at}
use Rattle.sheet.specs.Expression.{Expr, kind_of, variable_at, node, read_expr, tree}
use Rattle.sheet.specs.Statement.{size, is_register, read_terms, narrow, narrow_all, form_of, assignment, form, read_stmt}
use Rattle.sheet.specs.Functions.{read_widths, read_functions}
use Rattle.sheet.specs.Module.{Module, inputs_of, first_at, function_count, widths_at, read_head, read_wires, read_threads, whole_sheet, read_sheet, read}
use Rattle.writing.specs.Ascii.{ascii, byte}
use Rattle.writing.specs.Numbers.{digits, decimal}
use Rattle.naming.specs.Naming.{plain_mark, plain_number, plain_name}
use Rattle.signs.specs.Signs.{sign, constant_text, unknown_text}
use Rattle.verilog.specs.Verilog.{indent, before, edge_text, range_text, direction_text, front, expr_text, term_text, terms_text, sequence_text, stmt_text, port_text, ports_text, wires_text, opening, remainder, opened_text, thread_text, threads_text, declaration_text, declarations_text, functions_text, module_text, verilog_text}

-- Lines, each ended by a line feed.
unfoldable pub lines : List String → List ℕ
lines [] = []
lines (l ∷ ls) = ascii l ++ (byte "\n" ∷ lines ls)

-- The text of a sheet, none of one that is refused.
unfoldable pub text_of : Res (Module Expr) → List ℕ
text_of (ok m) = verilog_text m
text_of (no n p) = []

-- ---- sheets

-- The flip-flop of document 01.
abbrev pub flip_flop : List ℕ
flip_flop =
    0x02 ∷ 0x01 ∷ 0x00 ∷ 0x01 ∷ 0x01 ∷ 0x08 ∷ 0x08 ∷ 0x0C ∷ 0x10 ∷ 0x01 ∷ 0x01 ∷ 0x00 ∷ 0x23 ∷ 0x02 ∷ 0x02 ∷ 0x01 ∷
    []

-- Two threads, while and if.
abbrev pub watchdog : List ℕ
watchdog =
    0x05 ∷ 0x04 ∷ 0x02 ∷ 0x02 ∷ 0x01 ∷ 0x01 ∷ 0x0C ∷ 0x08 ∷ 0x01 ∷ 0x0C ∷ 0x08 ∷ 0x01 ∷ 0x10 ∷ 0x01 ∷ 0x01 ∷ 0x31 ∷
    0x08 ∷ 0x02 ∷ 0x02 ∷ 0x02 ∷ 0x05 ∷ 0x31 ∷ 0x08 ∷ 0x02 ∷ 0x06 ∷ 0x02 ∷ 0x03 ∷ 0x0C ∷ 0x10 ∷ 0x01 ∷ 0x01 ∷ 0x00 ∷
    0x0E ∷ 0x02 ∷ 0x01 ∷ 0x0C ∷ 0x23 ∷ 0x05 ∷ 0x0C ∷ 0x0C ∷ 0x00 ∷ 0x00 ∷ 0x00 ∷ 0x00 ∷ 0x0C ∷ 0x23 ∷ 0x06 ∷ 0x0C ∷
    0x08 ∷ 0x00 ∷ 0x00 ∷ 0x00 ∷ 0x00 ∷ 0x23 ∷ 0x07 ∷ 0x0C ∷ 0x01 ∷ 0x00 ∷ 0x00 ∷ 0x00 ∷ 0x00 ∷ 0x0C ∷ 0x23 ∷ 0x05 ∷
    0x02 ∷ 0x02 ∷ 0x06 ∷ 0x02 ∷ 0x09 ∷ 0x0C ∷ 0x23 ∷ 0x06 ∷ 0x0C ∷ 0x08 ∷ 0x01 ∷ 0x00 ∷ 0x00 ∷ 0x00 ∷ 0x0C ∷ 0x10 ∷
    0x01 ∷ 0x01 ∷ 0x00 ∷ 0x0C ∷ 0x46 ∷ 0x31 ∷ 0x03 ∷ 0x02 ∷ 0x09 ∷ 0x31 ∷ 0x03 ∷ 0x11 ∷ 0x02 ∷ 0x02 ∷ 0x01 ∷ 0x11 ∷
    0x02 ∷ 0x02 ∷ 0x0A ∷ 0x0C ∷ 0x23 ∷ 0x06 ∷ 0x31 ∷ 0x06 ∷ 0x02 ∷ 0x06 ∷ 0x0C ∷ 0x08 ∷ 0x01 ∷ 0x00 ∷ 0x00 ∷ 0x00 ∷
    0x10 ∷ 0x01 ∷ 0x01 ∷ 0x00 ∷ 0x0C ∷ 0x06 ∷ 0x02 ∷ 0x0A ∷ 0x0C ∷ 0x23 ∷ 0x07 ∷ 0x0C ∷ 0x01 ∷ 0x01 ∷ 0x00 ∷ 0x00 ∷
    0x00 ∷ 0x0C ∷ 0x10 ∷ 0x01 ∷ 0x01 ∷ 0x00 ∷ 0x0C ∷ 0x46 ∷ 0x31 ∷ 0x03 ∷ 0x11 ∷ 0x02 ∷ 0x02 ∷ 0x04 ∷ 0x11 ∷ 0x02 ∷
    0x02 ∷ 0x01 ∷ 0x10 ∷ 0x01 ∷ 0x01 ∷ 0x00 ∷ 0x23 ∷ 0x07 ∷ 0x0C ∷ 0x01 ∷ 0x00 ∷ 0x00 ∷ 0x00 ∷ 0x00 ∷ 0x23 ∷ 0x06 ∷
    0x0C ∷ 0x08 ∷ 0x00 ∷ 0x00 ∷ 0x00 ∷ 0x00 ∷ 0x0C ∷ 0x10 ∷ 0x01 ∷ 0x01 ∷ 0x00 ∷ 0x0E ∷ 0x02 ∷ 0x01 ∷ 0x23 ∷ 0x08 ∷
    0x0C ∷ 0x10 ∷ 0x00 ∷ 0x00 ∷ 0x00 ∷ 0x00 ∷ 0x06 ∷ 0x02 ∷ 0x07 ∷ 0x23 ∷ 0x08 ∷ 0x31 ∷ 0x06 ∷ 0x02 ∷ 0x08 ∷ 0x0C ∷
    0x10 ∷ 0x01 ∷ 0x00 ∷ 0x00 ∷ 0x00 ∷ []

-- Plain assignment, ?:, an unknown constant, an edge and any change.
abbrev pub mixture : List ℕ
mixture =
    0x02 ∷ 0x01 ∷ 0x00 ∷ 0x01 ∷ 0x01 ∷ 0x08 ∷ 0x08 ∷ 0x0C ∷ 0x10 ∷ 0x02 ∷ 0x02 ∷ 0x00 ∷ 0x00 ∷ 0x01 ∷ 0x0C ∷ 0x03 ∷
    0x02 ∷ 0x31 ∷ 0x06 ∷ 0x02 ∷ 0x01 ∷ 0x0C ∷ 0x08 ∷ 0x05 ∷ 0x00 ∷ 0x00 ∷ 0x00 ∷ 0x06 ∷ 0x02 ∷ 0x00 ∷ 0x03 ∷ 0x02 ∷
    0x71 ∷ 0x0A ∷ 0x02 ∷ 0x00 ∷ 0x11 ∷ 0x01 ∷ 0x02 ∷ 0x02 ∷ 0x04 ∷ 0x08 ∷ []

-- The largest constant, and a forever within a thread.
abbrev pub widest : List ℕ
widest =
    0x01 ∷ 0x01 ∷ 0x00 ∷ 0x02 ∷ 0x01 ∷ 0x20 ∷ 0x0C ∷ 0x10 ∷ 0x01 ∷ 0x01 ∷ 0x00 ∷ 0x23 ∷ 0x01 ∷ 0x0C ∷ 0x20 ∷ 0xFF ∷
    0xFF ∷ 0xFF ∷ 0xFF ∷ 0x44 ∷ 0x10 ∷ 0x01 ∷ 0x00 ∷ 0x01 ∷ []

-- A sequence in front of another, an empty statement, and a wait that opens no sequence.
abbrev pub nested : List ℕ
nested =
    0x01 ∷ 0x01 ∷ 0x00 ∷ 0x01 ∷ 0x01 ∷ 0x01 ∷ 0x0C ∷ 0x0C ∷ 0x23 ∷ 0x01 ∷ 0x02 ∷ 0x00 ∷ 0x00 ∷ 0x10 ∷ 0x01 ∷ 0x01 ∷
    0x00 ∷ []

-- ---- what is printed

pub samples :
    (text_of (read flip_flop) ≡
    lines
    ("module walbryts (i0, i1);"
    ∷ "  input i0;"
    ∷ "  input [7:0] i1;"
    ∷ "  reg [7:0] r0;"
    ∷ "  always @(posedge i0) begin"
    ∷ "    r0 <= i1;"
    ∷ "  end"
    ∷ "endmodule"
    ∷ []))
    × (text_of (read watchdog) ≡
    lines
    ("module walbryts (i0, i1, i2, i3, i4);"
    ∷ "  input i0;"
    ∷ "  input i1;"
    ∷ "  input [11:0] i2;"
    ∷ "  input [7:0] i3;"
    ∷ "  input i4;"
    ∷ "  reg [11:0] r0;"
    ∷ "  reg [7:0] r1;"
    ∷ "  reg r2;"
    ∷ "  reg [15:0] r3;"
    ∷ "  wire w0;"
    ∷ "  wire w1;"
    ∷ "  assign w0 = (i2 == r0);"
    ∷ "  assign w1 = (r1 == i3);"
    ∷ "  always @(posedge i0) begin"
    ∷ "    if (i1) begin"
    ∷ "      r0 <= 12'd0;"
    ∷ "      r1 <= 8'd0;"
    ∷ "      r2 <= 1'd0;"
    ∷ "    end else begin"
    ∷ "      r0 <= i2;"
    ∷ "      if (w0) begin"
    ∷ "        r1 <= 8'd1;"
    ∷ "        @(posedge i0) begin"
    ∷ "          while ((w0 & ((!i1) & (!w1)))) begin"
    ∷ "            r1 <= (r1 + 8'd1);"
    ∷ "            @(posedge i0);"
    ∷ "          end"
    ∷ "          if (w1) begin"
    ∷ "            r2 <= 1'd1;"
    ∷ "            @(posedge i0) begin"
    ∷ "              while (((!i4) & (!i1))) begin"
    ∷ "                @(posedge i0);"
    ∷ "              end"
    ∷ "              r2 <= 1'd0;"
    ∷ "            end"
    ∷ "          end"
    ∷ "          r1 <= 8'd0;"
    ∷ "        end"
    ∷ "      end"
    ∷ "    end"
    ∷ "  end"
    ∷ "  always @(posedge i0) begin"
    ∷ "    if (i1) begin"
    ∷ "      r3 <= 16'd0;"
    ∷ "    end else begin"
    ∷ "      if (r2) begin"
    ∷ "        r3 <= (r3 + 16'd1);"
    ∷ "      end"
    ∷ "    end"
    ∷ "  end"
    ∷ "endmodule"
    ∷ []))
    × (text_of (read mixture) ≡
    lines
    ("module walbryts (i0, i1);"
    ∷ "  input i0;"
    ∷ "  input [7:0] i1;"
    ∷ "  reg [7:0] r0;"
    ∷ "  always @(negedge i0 or i1) begin"
    ∷ "    r0 = (i1 + 8'd5);"
    ∷ "    if (i0) begin"
    ∷ "      r0 = (i0 ? (~r0) : 8'bx);"
    ∷ "    end"
    ∷ "  end"
    ∷ "endmodule"
    ∷ []))
    × (text_of (read widest) ≡
    lines
    ("module walbryts (i0);"
    ∷ "  input i0;"
    ∷ "  reg [31:0] r0;"
    ∷ "  always @(posedge i0) begin"
    ∷ "    r0 <= 32'd4294967295;"
    ∷ "  end"
    ∷ "  always begin"
    ∷ "    forever begin"
    ∷ "      @(r0);"
    ∷ "    end"
    ∷ "  end"
    ∷ "endmodule"
    ∷ []))
    × (text_of (read nested) ≡
    lines
    ("module walbryts (i0);"
    ∷ "  input i0;"
    ∷ "  reg r0;"
    ∷ "  always begin"
    ∷ "    begin"
    ∷ "      r0 <= i0;"
    ∷ "      begin end"
    ∷ "    end"
    ∷ "    @(posedge i0);"
    ∷ "  end"
    ∷ "endmodule"
    ∷ []))
unfolding edge_of unary_width binary_width byte_at within word word_of word_at kind_of variable_at node read_expr tree size is_register read_terms narrow narrow_all form_of assignment form read_stmt read_widths read_functions inputs_of first_at function_count widths_at read_head read_wires read_threads whole_sheet read_sheet read ascii digits decimal plain_mark plain_number plain_name sign constant_text unknown_text indent before edge_text range_text direction_text front expr_text term_text terms_text sequence_text stmt_text port_text ports_text wires_text opening remainder opened_text thread_text threads_text declaration_text declarations_text functions_text module_text verilog_text lines text_of
samples = (refl, refl, refl, refl, refl)
