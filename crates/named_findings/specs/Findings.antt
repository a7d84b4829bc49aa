-- What breaks a rule of extraction (`witness`), in words with the names of the variables. 15 to 17, 20 and 21 name none: their words are
-- those of `findings`.
use Rattle.std.specs.Prelude.{List, ◌++◌, ℕ, ◌+◌, ltb}
use Rattle.values.specs.Values.{pick, ◌is◌then◌else◌}
use Rattle.writing.specs.Ascii.{ascii}
use Rattle.writing.specs.Numbers.{decimal}
use Rattle.naming.specs.Naming.{name_of}
use Rattle.witness.specs.declared.Witness.{Witness}
use Rattle.findings.specs.Findings.{witness_words as plain_words}

-- A variable's number: the first of its kind and its number within the kind; the table of names has 80.
unfoldable pub variable : ℕ → ℕ → ℕ
variable first k = pick (ltb k 80) (first + k) 80

abbrev pub counted : List ℕ → ℕ → List ℕ
counted a n = a ++ decimal n

abbrev pub named : List ℕ → List ℕ → ℕ → List ℕ
named a names v = a ++ name_of names v

module _ (names : List ℕ) where
  -- Who else is concerned with a register that is written: 12 to 14.
  unfoldable pub other_words : ℕ → Witness → List ℕ
  other_words wires w =
      w.number is 12 then counted (ascii "threads ") w.thread ++ counted (ascii " and ") w.other else
      counted (ascii "= in thread ") w.thread ++
      (w.number is 13 then counted (ascii " and by <= in thread ") w.other else
      pick w.wired
      (named (ascii " and read by wire ") names (variable wires w.wire))
      (counted (ascii " and read by thread ") w.other))

  unfoldable pub register_words : ℕ → ℕ → Witness → List ℕ
  register_words registers wires w =
      (named (ascii "register ") names (variable registers w.register) ++ ascii " is written by ") ++ other_words wires w

  -- Who reads the clock, which is variable 0: 18.
  unfoldable pub clock_words : ℕ → Witness → List ℕ
  clock_words wires w =
      pick w.wired
      (named (ascii "wire ") names (variable wires w.wire) ++ named (ascii " reads ") names 0)
      ((counted (ascii "thread ") w.thread ++ named (ascii " reads ") names 0) ++ counted (ascii " at place ") w.place)

  -- A wire and the one that it reads: 19.
  unfoldable pub wire_words : ℕ → Witness → List ℕ
  wire_words wires w =
      named (ascii "wire ") names (variable wires w.wire) ++ named (ascii " reads ") names (variable wires w.above)

  -- Registers and wires begin with these variables.
  unfoldable pub witness_words : ℕ → ℕ → Witness → List ℕ
  witness_words registers wires w =
      pick (ltb w.number 15) (register_words registers wires w)
      (w.number is 18 then clock_words wires w else
      w.number is 19 then wire_words wires w else
      plain_words w)
