-- Operators and constants as Verilog writes them, by the numbers of document 01, "The sheet":
-- 1 ~, 2 !, 3 &, 4 |, 5 ^, 6 +, 7 -, 8 ==, 9 < (unsigned), 10 ?:.
use Rattle.std.specs.Prelude.{ℕ, List, [], ◌++◌, ltb}
use Rattle.values.specs.Values.{pick, ◌is◌then◌else◌}
use Rattle.writing.specs.Ascii.{ascii}
use Rattle.writing.specs.Numbers.{decimal}

-- ---- sign: the operator's characters. One between two operands has blanks around it; a number that is no such operator has none.

unfoldable pub sign : ℕ → List ℕ
sign o =
    o is 1 then ascii "~" else
    o is 2 then ascii "!" else
    o is 3 then ascii " & " else
    o is 4 then ascii " | " else
    o is 5 then ascii " ^ " else
    o is 6 then ascii " + " else
    o is 7 then ascii " - " else
    o is 8 then ascii " == " else
    o is 9 then ascii " < " else
    []

-- ---- operands: how many an operator has

unfoldable pub operands : ℕ → ℕ
operands o = pick (ltb o 3) 1 (pick (ltb o 10) 2 3)

-- ---- lead: what stands in front of an operand, when so many operands are still to come, this one among them:
-- ~a, a + b, c ? a : b.

unfoldable pub lead : ℕ → ℕ → List ℕ
lead o n =
    n is 3 then [] else
    n is 2 then (o is 10 then ascii " ? " else []) else
    o is 10 then ascii " : " else
    sign o

-- ---- constants: 8'd5 and, for an x of width 8, 8'bx

unfoldable pub constant_text : ℕ → ℕ → List ℕ
constant_text w v = decimal w ++ (ascii "'d" ++ decimal v)

unfoldable pub unknown_text : ℕ → List ℕ
unknown_text w = decimal w ++ ascii "'bx"
