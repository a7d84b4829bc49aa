-- The kinds of the statements' keywords and signs.
-- Assumes nothing.
use mathlib.Core.Path.{refl}
use native.Mathlib.Omega.{arith}
use Rattle.writing.specs.Ascii.{ascii}
use Rattle.naming.specs.Naming.{same_text}
use Rattle.verilog_tokens.specs.Table.{terminals, number_from}
use Rattle.verilog_exprs.proofs.Marks.{Numbered}

pub begin-mark : Numbered (ascii "begin") 8
unfolding number_from terminals ascii same_text
begin-mark = (refl, omega arith)

pub end_mark : Numbered (ascii "end") 9
unfolding number_from terminals ascii same_text
end_mark = (refl, omega arith)

pub if-mark : Numbered (ascii "if") 10
unfolding number_from terminals ascii same_text
if-mark = (refl, omega arith)

pub else-mark : Numbered (ascii "else") 11
unfolding number_from terminals ascii same_text
else-mark = (refl, omega arith)

pub case-mark : Numbered (ascii "case") 12
unfolding number_from terminals ascii same_text
case-mark = (refl, omega arith)

pub endcase-mark : Numbered (ascii "endcase") 13
unfolding number_from terminals ascii same_text
endcase-mark = (refl, omega arith)

pub default-mark : Numbered (ascii "default") 14
unfolding number_from terminals ascii same_text
default-mark = (refl, omega arith)

pub while-mark : Numbered (ascii "while") 15
unfolding number_from terminals ascii same_text
while-mark = (refl, omega arith)

pub forever-mark : Numbered (ascii "forever") 16
unfolding number_from terminals ascii same_text
forever-mark = (refl, omega arith)

pub posedge-mark : Numbered (ascii "posedge") 17
unfolding number_from terminals ascii same_text
posedge-mark = (refl, omega arith)

pub negedge-mark : Numbered (ascii "negedge") 18
unfolding number_from terminals ascii same_text
negedge-mark = (refl, omega arith)

pub or-mark : Numbered (ascii "or") 19
unfolding number_from terminals ascii same_text
or-mark = (refl, omega arith)

pub semicolon-mark : Numbered (ascii ";") 25
unfolding number_from terminals ascii same_text
semicolon-mark = (refl, omega arith)

pub comma-mark : Numbered (ascii ",") 26
unfolding number_from terminals ascii same_text
comma-mark = (refl, omega arith)

pub at_mark : Numbered (ascii "@") 27
unfolding number_from terminals ascii same_text
at_mark = (refl, omega arith)

pub gets-mark : Numbered (ascii "=") 28
unfolding number_from terminals ascii same_text
gets-mark = (refl, omega arith)

pub arrow-mark : Numbered (ascii "<=") 30
unfolding number_from terminals ascii same_text
arrow-mark = (refl, omega arith)
