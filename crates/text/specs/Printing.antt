-- The same text over any bytes and any instruction, as the code prints it; where the sheet was read, it is the listing
-- (proofs/Printing.antt, proofs/Located.antt).
use Rattle.std.specs.Prelude.{ℕ, zero, suc, ◌+◌, ◌≡◌, List, [], ◌∷◌, ◌++◌, length, get_or, take, ltb, eqb}
use Rattle.values.specs.Values.{pick}
use Rattle.sheet.specs.declared.EdgeTerm.{EdgeTerm}
use Rattle.sheet.specs.Reading.{Res, ok, no, word_of}
use Rattle.sheet.specs.Module.{Sheet}
use Rattle.sheet.specs.Answers.{definitions_of}
use Rattle.pseudocode.specs.Skipping.{argument_count}
use Rattle.pseudocode.specs.Translation.{Instr, wait!, set!, later!, go, ifnot}
use Rattle.pseudocode.specs.declared.EdgeTerms.{EdgeTerms}
use Rattle.pseudocode.specs.declared.Action.{Action}
use Rattle.pseudocode.specs.declared.Action.TheVariants.{Set, Later, Go, IfNot}
use Rattle.pseudocode.specs.declared.Instruction.{Instruction}
use Rattle.pseudocode.specs.declared.Instruction.TheVariants.{Wait, Act}
use Rattle.writing.specs.Ascii.{byte}
use Rattle.writing.specs.Numbers.{decimal}
use Rattle.writing.specs.Buffer.{Text, filled, puts}
use Rattle.text.specs.declared.Printed.{Printed}
use Rattle.text.specs.Listing.{◌␣◌, show_module, refusal}

-- ---- expressions

-- A text, and the next place in the sheet.
pub record Shown : Type 0 where
  pub next : ℕ
  pub text : List ℕ

abbrev pub shown : ℕ → List ℕ → Shown
shown next text = record { next = next; text = text }

-- What printing owes: the next place, and the buffer with the text.
pub record Prints (q : Shown) (before : Text) (r : Printed) (after : List ℕ) : Type 0 where
  pub place : r.next ≡ q.next
  pub bytes : filled after r.pos ≡ puts before q.text

-- How many operands a map has, with the byte after it: "4, 5, 6 operands"; a call's by its function's definition, at the places ds.
unfoldable pub operands_of : List ℕ → List ℕ → ℕ → ℕ → ℕ
operands_of s ds m b =
    pick (eqb m 0x11) 1 (pick (eqb m 0x31) 2 (pick (eqb m 0x71) 3 (pick (eqb m 0x80) (argument_count s ds b) 0)))

-- What stands before an operator's number, and before a function's: "the listing prints `f` with the number".
unfoldable pub mark_of : ℕ → ℕ
mark_of m = pick (eqb m 0x80) (byte "f") (byte "o")

-- A text in front of what is shown.
unfoldable pub behind : List ℕ → Shown → Shown
behind t q = shown q.next (t ++ q.text)

-- So many operands, each behind a space. `operand` shows the one at a place.
unfoldable pub operands_at : (ℕ → Shown) → ℕ → ℕ → Shown
operands_at operand zero p = shown p []
operands_at operand (suc n) p = behind ([] ␣ (operand p).text) (operands_at operand n (operand p).next)

-- The node whose map stands at p, with the byte after it: variable, constant, unknown constant, operator or call.
unfoldable pub node_at : (ℕ → Shown) → List ℕ → List ℕ → ℕ → ℕ → ℕ → Shown
node_at operand s ds p m b =
    pick (eqb m 0x02) (shown (p + 2) (byte "v" ∷ decimal b))
    (pick (eqb m 0x0C) (shown (p + 6) (byte "c" ∷ (decimal b ++ (byte ":" ∷ decimal (word_of s (p + 2))))))
    (pick (eqb m 0x04) (shown (p + 2) (byte "u" ∷ decimal b))
    (behind (mark_of m ∷ decimal b) (operands_at operand (operands_of s ds m b) (p + 2)))))

-- The expression at p, with so many levels left; nothing past the sheet's end.
unfoldable pub shown_at : ℕ → List ℕ → List ℕ → ℕ → Shown
shown_at zero s ds p = shown p []
shown_at (suc d) s ds p = pick (ltb p (length s)) (node_at (shown_at d s ds) s ds p (get_or s p 0) (get_or s (p + 1) 0)) (shown p [])

-- The text of the expression at a place. "Depth at most 16."
unfoldable pub text_at : List ℕ → List ℕ → ℕ → List ℕ
text_at s ds p = (shown_at 16 s ds p).text

-- ---- instructions

unfoldable pub all_terms : EdgeTerms → List EdgeTerm
all_terms t = t.t0 ∷ t.t1 ∷ t.t2 ∷ t.t3 ∷ t.t4 ∷ t.t5 ∷ t.t6 ∷ t.t7 ∷ []

-- The terms of a wait as a list.
unfoldable pub term_list : EdgeTerms → List EdgeTerm
term_list t = take t.count (all_terms t)

-- What an instruction of the code stands for.
unfoldable pub action_instr : Action → Instr ℕ
action_instr (Set t e) = set! t e
action_instr (Later t e) = later! t e
action_instr (Go g) = go g
action_instr (IfNot g e) = ifnot e g

unfoldable pub instr_of : Instruction → Instr ℕ
instr_of (Wait t) = wait! (term_list t)
instr_of (Act a) = action_instr a

-- ---- the program's output, by the places of the expressions that the code keeps

unfoldable pub printed_at : List ℕ → Res (Sheet ℕ) → List ℕ
printed_at s (ok r) = show_module (text_at s (definitions_of r.definitions)) r.contents
printed_at s (no n p) = refusal n
