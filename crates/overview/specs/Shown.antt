-- What is said of a sheet that is read, and which nodes and entries of its extraction are shown.
use Rattle.std.specs.Prelude.{ℕ, zero, suc, ◌+◌, ◌/◌, ◌%◌, Bool, true, false, List, [], ◌∷◌, ◌++◌, get_or, ltb, eqb}
use Rattle.values.specs.Values.{pick, ◌is◌then◌else◌}
use Rattle.sheet.specs.declared.Layout.{Layout}
use Rattle.writing.specs.Ascii.{ascii}
use Rattle.writing.specs.Numbers.{decimal}
use Rattle.rules.specs.Judging.{size_of, waits_in}
use Rattle.netlist.specs.Uses.{named}
use Rattle.netlist.specs.Infix.{node_line, entry_line, place_line}

-- A word with a number behind it.
abbrev pub labelled : List ℕ → ℕ → List ℕ
labelled word n = word ++ decimal n

-- ---- lines of `check`

-- What a sheet of so many bytes declares.
unfoldable pub counts_line : ℕ → Layout → List ℕ
counts_line size l =
    labelled (ascii "accepted: bytes ") size
    ++ labelled (ascii ", inputs ") l.inputs
    ++ labelled (ascii ", registers ") l.registers
    ++ labelled (ascii ", wires ") l.wires
    ++ labelled (ascii ", threads ") l.threads
    ++ ascii "\n"

-- A thread, its instructions and its waits.
unfoldable pub thread_line : ℕ → ℕ → ℕ → List ℕ
thread_line i size waits =
    labelled (ascii "thread ") i ++ labelled (ascii ": instructions ") size ++ labelled (ascii ", waits ") waits ++ ascii "\n"

-- The first n threads.
unfoldable pub thread_lines : List ℕ → List ℕ → List ℕ → ℕ → List ℕ
thread_lines s code sizes zero = []
thread_lines s code sizes (suc n) =
    thread_lines s code sizes n ++ thread_line n (size_of sizes n) (waits_in s code n (size_of sizes n))

-- ---- lines of `extract`

unfoldable pub sizes_line : ℕ → ℕ → List ℕ
sizes_line nodes rows = labelled (ascii "nodes ") nodes ++ labelled (ascii ", rows ") rows ++ ascii "\n"

-- A node has a line where it has a name.
unfoldable pub shown_node : List ℕ → List ℕ → List ℕ → ℕ → List ℕ
shown_node names ws us n = pick (named ws us n) (node_line names ws us n) []

-- The head of a row: thread and place of its wait.
unfoldable pub head_line : ℕ → List ℕ
head_line h = labelled (ascii "thread ") (h / 256) ++ labelled (ascii ", wait at place ") (h % 256) ++ ascii ":\n"

-- In front of entry e of all rows, 33 in each: the head of the row that begins there; there are 32 rows at most.
unfoldable pub row_head : List ℕ → ℕ → List ℕ
row_head heads e = e % 33 is 0 then pick (ltb (e / 33) 32) (head_line (get_or heads (e / 33) 0)) [] else []

-- Register k, whose next value is node n: nothing where the module has no such register, or where n is the register's own variable,
-- which it then keeps.
unfoldable pub register_line : List ℕ → List ℕ → List ℕ → Layout → ℕ → ℕ → List ℕ
register_line names ws us l k n =
    pick (ltb k l.registers) (n is l.inputs + k then [] else entry_line names ws us (l.inputs + k) n) []

-- Entry e of all rows, where it is node n: in each row 32 registers, then the place.
unfoldable pub shown_entry : List ℕ → List ℕ → List ℕ → Layout → ℕ → ℕ → List ℕ
shown_entry names ws us l e n = e % 33 is 32 then place_line names ws us n else register_line names ws us l (e % 33) n
