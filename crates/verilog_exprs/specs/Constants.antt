-- The bytes of a constant, from a table's numbers: a size of at most 255 and the remainder of a value by 2^32.
use Rattle.std.specs.Prelude.{List, ◌∷◌, ℕ}
use Rattle.encoding.specs.Encoding.{encode_word}
use Rattle.verilog_grammar.specs.Meaning.{cut}

unfoldable pub constant_bytes : ℕ → ℕ → List ℕ
constant_bytes width v = 0x0C ∷ width ∷ encode_word (cut width v)
