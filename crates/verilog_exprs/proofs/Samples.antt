-- Samples, computed: the bytes of expressions of short texts.
-- Assumes nothing.
use mathlib.Core.Path.{◌≡◌, refl}
use mathlib.Core.List.{◌∷◌}
use Prim.Native.String.{String}
use lib.ListN.{replicate}
use Rattle.writing.specs.Ascii.{ascii}
use Rattle.writing.specs.Buffer.{put, puts}
use Rattle.encoding.specs.Encoding.{encode_word}
use Rattle.verilog_tokens.specs.Table.{terminals, number_from, kind_of, kinds, name_in, names_in, place_of, id_of, up_to255, number_in, numbers}
use Rattle.verilog_tokens.proofs.Samples.{seen}
use Rattle.verilog_grammar.specs.Meaning.{up_to, cut}
use Rattle.verilog_bytes.specs.Turning.{swapped, reversed, thrice, turned, behind, moved, opened, fronted}
use Rattle.verilog_exprs.specs.Rows.{row_at, Wrote, passed, refused, and_then, is_at, expected}
use Rattle.verilog_exprs.specs.Constants.{constant_bytes}
use Rattle.verilog_exprs.specs.Exprs.{precedence_of, operator_of, binds, value_at, atom_at, brackets_at, primary_at, prefix_at, operand_at}
use Rattle.verilog_exprs.specs.Exprs.{join_at, climb_at, choice_at, arms_at, expr_at}

-- What reading a text as an expression leaves in a buffer of 16 bytes, with every definition open.
unfoldable pub left : String → Wrote
unfolding seen terminals number_from kind_of kinds name_in names_in place_of id_of up_to255 number_in numbers up_to cut put puts encode_word swapped
    reversed thrice turned behind moved opened fronted row_at and_then is_at expected constant_bytes precedence_of operator_of binds value_at
    atom_at brackets_at primary_at prefix_at operand_at join_at climb_at choice_at arms_at expr_at
left s = expr_at (kinds (ascii s)) (numbers (ascii s)) 9 1 0 0 (replicate 16 0)

-- Operators of one level go to the left; the operator stands in front of its operands.
pub minus-left : left "a-b-c" ≡ passed 5 10 (0x31 ∷ 7 ∷ 0x31 ∷ 7 ∷ 2 ∷ 0 ∷ 2 ∷ 1 ∷ 2 ∷ 2 ∷ replicate 6 0)
unfolding left
minus-left = refl

-- `&` binds closer than `^`.
pub and-closer : left "a^b&c" ≡ passed 5 10 (0x31 ∷ 5 ∷ 2 ∷ 0 ∷ 0x31 ∷ 3 ∷ 2 ∷ 1 ∷ 2 ∷ 2 ∷ replicate 6 0)
unfolding left
and-closer = refl

-- ?: goes to the right; a constant is cut to its width.
pub choice-right : left "a?~b:8'd300" ≡ passed 7 14 (0x71 ∷ 10 ∷ 2 ∷ 0 ∷ 0x11 ∷ 1 ∷ 2 ∷ 1 ∷ 0x0C ∷ 8 ∷ 44 ∷ 0 ∷ 0 ∷ 0 ∷ replicate 2 0)
unfolding left
choice-right = refl

-- A width past 32 is written as 255; an expression ends where nothing goes on.
pub wide-unknown : left "(99'bx)c" ≡ passed 4 2 (0x04 ∷ 255 ∷ replicate 14 0)
unfolding left
wide-unknown = refl

-- A refusal stays at the token where it is met.
pub no_operand : left "(a+)" ≡ refused 3 4 (0x31 ∷ 6 ∷ 2 ∷ 0 ∷ replicate 12 0)
unfolding left
no_operand = refl
