-- What is found wrong, in words: in hexadecimal text, in a line of inputs or of names, and what breaks a rule of extraction (`witness`).
use Rattle.std.specs.Prelude.{List, ◌++◌, ℕ}
use Rattle.values.specs.Values.{pick, ◌is◌then◌else◌}
use Rattle.writing.specs.Ascii.{ascii}
use Rattle.writing.specs.Numbers.{decimal}
use Rattle.witness.specs.declared.Witness.{Witness}

-- ---- by a line's error: of hexadecimal text (`hextext`), of inputs and of names (`stimulus`, `labels`)

unfoldable pub hex_words : ℕ → List ℕ
hex_words error = error is 1 then ascii "no hexadecimal digit\n" else ascii "a digit without its second\n"

unfoldable pub input_words : ℕ → List ℕ
input_words error =
    error is 2 then ascii "no value: decimal, 0x and hexadecimal, bits as b1x0 or 4'b1x0, or x is allowed\n" else
    error is 3 then ascii "too wide for its input\n" else
    error is 4 then ascii "too few values: one for each input but the clock is allowed\n" else
    ascii "too many values: one for each input but the clock is allowed, - where there is none\n"

unfoldable pub name_words : ℕ → List ℕ
name_words error =
    error is 2 then ascii "no such variable\n" else
    error is 3 then ascii "a name that is not allowed: 1 to 31 letters, digits and _, no digit first\n" else
    ascii "another variable has this name\n"

-- ---- by a rule's number, 12 to 21

-- Two words, each with a number behind it.
abbrev pub two : List ℕ → ℕ → List ℕ → ℕ → List ℕ
two a m b n = a ++ decimal m ++ b ++ decimal n

-- Who else is concerned with a register that is written: 12 to 14.
unfoldable pub other_words : Witness → List ℕ
other_words w =
    w.number is 12 then two (ascii "threads ") w.thread (ascii " and ") w.other else
    w.number is 13 then two (ascii "= in thread ") w.thread (ascii " and by <= in thread ") w.other else
    pick w.wired
    (two (ascii "= in thread ") w.thread (ascii " and read by wire w") w.wire)
    (two (ascii "= in thread ") w.thread (ascii " and read by thread ") w.other)

unfoldable pub register_words : Witness → List ℕ
register_words w = ascii "register r" ++ decimal w.register ++ ascii " is written by " ++ other_words w

-- A wait: 15, 20 and 21.
unfoldable pub wait_words : Witness → List ℕ
wait_words w =
    w.number is 15 then two (ascii "the wait at thread ") w.thread (ascii ", place ") w.place else
    w.number is 20 then two (ascii "the 33rd wait at thread ") w.thread (ascii ", place ") w.place else
    (two (ascii "the walk from the wait at thread ") w.thread (ascii ", place ") w.place ++ ascii " asks for one more")

-- Who reads the clock: 18.
unfoldable pub clock_words : Witness → List ℕ
clock_words w =
    pick w.wired
    (ascii "wire w" ++ decimal w.wire ++ ascii " reads i0")
    (two (ascii "thread ") w.thread (ascii " reads i0 at place ") w.place)

unfoldable pub thread_words : ℕ → List ℕ
thread_words i = ascii "thread " ++ decimal i

-- 16 and 17 name a thread, 19 a wire and the one that it reads.
unfoldable pub rest_words : Witness → List ℕ
rest_words w =
    w.number is 18 then clock_words w else
    w.number is 19 then two (ascii "wire w") w.wire (ascii " reads w") w.above else
    w.number is 16 then thread_words w.thread else
    w.number is 17 then thread_words w.thread else
    wait_words w

unfoldable pub witness_words : Witness → List ℕ
witness_words w =
    w.number is 12 then register_words w else
    w.number is 13 then register_words w else
    w.number is 14 then register_words w else
    rest_words w
