-- Every refusal in words: what is refused, and what is allowed, by the numbers of documents 01 and 02. Each is a line of one table;
-- a number that neither has, up to the last that one has, is `no such number`.
use Rattle.std.specs.Prelude.{ℕ, zero, suc, List, [], ◌∷◌, eqb}
use Rattle.values.specs.Values.{pick}
use Rattle.writing.specs.Ascii.{ascii, byte}

-- The bytes before the first line end.
unfoldable pub first_line : List ℕ → List ℕ
first_line [] = []
first_line (b ∷ l) = pick (eqb b (byte "\n")) [] (b ∷ first_line l)

-- The bytes after it.
unfoldable pub other_lines : List ℕ → List ℕ
other_lines [] = []
other_lines (b ∷ l) = pick (eqb b (byte "\n")) l (other_lines l)

-- Line n of a text; past the last line nothing.
unfoldable pub line_of : ℕ → List ℕ → List ℕ
line_of zero l = first_line l
line_of (suc n) l = line_of n (other_lines l)

-- What a number refuses.
unfoldable pub refusals : List ℕ
refusals = ascii "nothing is refused\nthe sheet is over 8,192 bytes\nthe sheet ends early\na count is out of range\na width is out of range\na bit map that is not allowed\na field is out of range\nnested too deep\nwidths disagree\nthe target is no register\nbytes stand after the end\na thread has over 256 instructions\ntwo threads write one register\na register is written both ways\na register written by plain assignment is read elsewhere\na wait other than the single posedge of the clock\na thread does not start with a wait\na loop or a thread body does not surely wait\nthe clock is read in an expression\na wire reads itself or a higher wire\nover 32 waits\nover 4,096 nodes\nthe choice names no item\na lent table has another length\nthe tables do not hold together\nthe inputs are of the wrong number, too wide, or have a number under a mark\nno such number\nno such number\nno such number\nno such number\nno such number\nthe state does not fit the sheet\nan instant while the state is not quiet\nthe item is not enabled\na commit while an item is enabled\na commit with nothing pending\nthe time or a module's turns are full\nno such number\nno such number\nno such number\nno such number\nthe text is over 16,384 bytes\nthe text is none of the forms that are read\na name is undeclared or declared twice, or a wire has not one assign\nno such number\nno such number\nthere is no such user\nthe user's allowance of choices is used up\nthe list has no record, or more than eight\nthe last-served number is outside the list"

unfoldable pub reason : ℕ → List ℕ
reason n = line_of n refusals

-- What it asks for.
unfoldable pub permissions : List ℕ
permissions = ascii "\nat most 8,192 bytes\nas many bytes as the counts and the maps ask for\ninputs 1 to 16, registers 1 to 32, wires 0 to 32, threads 1 to 8\n1 to 32, and 1 for the clock, which is input 0\n02h 04h 0Ch 11h 31h 71h for expressions, 00h 03h 06h 0Ch 0Eh 10h 23h 44h 46h for statements\noperators 1 and 2 under 11h, 3 to 9 under 31h, 10 under 71h; a variable of the sheet; a constant below 2^width, its width 1 to 32; edges 0 to 2; 1 to 8 edges in a wait\nexpressions at most 16 deep, statements at most 64\nequal widths of both operands, of both arms, of a target or wire and its expression; edges 1 and 2 on one-bit variables\nthe variables of the registers, which follow the inputs\nnothing after the last thread\nat most 256 instructions a thread, the go at its end included\none writing thread for each register\nonly = or only <= for each register\na register that is written by = is read by its own thread only\nwaits on one edge, the posedge of input 0\na wait first: a wait, a sequence whose first part does, a forever whose body does\nbodies that surely wait: a wait, a forever, a sequence with a part that does, an if-else with both\nthe clock in waits only\nwires that read inputs, registers and lower wires\nat most 32 waits in all threads together\nat most 4,096 nodes, one for each variable included\nthreads, then wires, numbered from 0, and 255 for the commit\n16,384 words for the nodes and 1,056 for the rows\ntables as extraction gives them for this sheet\na value for each input but the clock, below 2^width\n\n\n\n\n\nvalues below 2^width, places inside their threads, marks of the sheet's wires and registers only, counts up to their allowances\nan instant when nothing is enabled or pending\na thread off a wait, a wire that is due\na commit when no thread and no wire is enabled\na commit when some assignment is pending\na time below 18,446,744,073,709,551,615, turns below 4,294,967,295\n\n\n\n\nat most 16,384 bytes\none module of inputs, registers, wires, assigns and always\neach name declared once by input, reg or wire, and one assign to each wire\n\n\nusers 0 to 3\na user with choices left: allowances are fixed at the start, up to 4,294,967,295\n1 to 8 records\na number below the list's length"

unfoldable pub allowed : ℕ → List ℕ
allowed n = line_of n permissions
