-- What is claimed of the way back (document 02, request [1]). `proofs/Back.antt` shows all of it.
use Rattle.std.specs.Prelude.{◌≡◌, true, List, ℕ, ◌≤◌, ◌<◌, length}
use Rattle.sheet.specs.Reading as Sheet
use Rattle.sheet.specs.Expression.{Expr}
use Rattle.sheet.specs.Module.{Module, read}
use Rattle.encoding.specs.Encoding.{Bytes, encode}
use Rattle.writing.specs.Buffer.{filled, puts}
use Rattle.naming.specs.Naming.{plain_table}
use Rattle.verilog.specs.Verilog.{verilog_text, answer, verilog_of}
use Rattle.verilog_source.specs.Compiled.{accepted, judged, compiled}
use Rattle.verilog_back.specs.Returned.{returned_module, Fits, all_open, code_of}

-- ---- With the table of the plain names the call prints the text with these names, which the claims below speak of.

unfoldable pub PlainlyPrinted : Type 0
PlainlyPrinted = (s buffer : List ℕ) (m : Module Expr) → Bytes s → read s ≡ Sheet.ok m
    → verilog_of s (plain_table m.scope.inputs m.scope.registers) buffer ≡ answer 0 (puts (filled buffer 0) (verilog_text m))

-- ---- The printed Verilog of every sheet is text of the language (never 42), and its names have no fault (never 43). So where its length
-- and the lent bytes' are right, it has the answer of the sheet that comes back: this sheet and its length, or its own number.

unfoldable pub ReadsBack : Type 0
ReadsBack = (s lent : List ℕ) (m : Module Expr) → Bytes s → read s ≡ Sheet.ok m → length lent ≡ 8192 → length (verilog_text m) ≤ 16384
    → compiled (verilog_text m) lent ≡ judged lent (encode (returned_module m)) (read (encode (returned_module m)))

-- ---- That sheet is accepted exactly where what was added passes no limit, and then holds what comes back.

unfoldable pub Accepts : Type 0
Accepts = (s : List ℕ) (m : Module Expr) → Bytes s → read s ≡ Sheet.ok m → Fits m
    → read (encode (returned_module m)) ≡ Sheet.ok (returned_module m)

unfoldable pub OnlyFits : Type 0
OnlyFits = (s : List ℕ) (m d : Module Expr) → Bytes s → read s ≡ Sheet.ok m → read (encode (returned_module m)) ≡ Sheet.ok d
    → Fits m × (d ≡ returned_module m)

-- Else its number is 1 for its length, or 7 for its depth.
unfoldable pub TooLong : Type 0
TooLong = (m : Module Expr) → 8192 < length (encode (returned_module m)) → read (encode (returned_module m)) ≡ Sheet.no 1 8192

unfoldable pub TooDeep : Type 0
TooDeep = (s : List ℕ) (m : Module Expr) (n p : ℕ) → Bytes s → read s ≡ Sheet.ok m → length (encode (returned_module m)) ≤ 8192
    → read (encode (returned_module m)) ≡ Sheet.no n p → n ≡ 7

-- ---- What comes back has the module's pseudo-code.

unfoldable pub SameCode : Type 0
SameCode = (m : Module Expr) → code_of (returned_module m) ≡ code_of m

-- ---- Where every wait opens a sequence, it is the sheet itself.

unfoldable pub SameSheet : Type 0
SameSheet = (s lent : List ℕ) (m : Module Expr) → Bytes s → read s ≡ Sheet.ok m → length lent ≡ 8192 → length (verilog_text m) ≤ 16384
    → all_open m.threads ≡ true → compiled (verilog_text m) lent ≡ accepted s
