-- `stimulus::entry_of` meets its contract, row by row. Assumes nothing.
use native.Mathlib.Omega.{arith}
use mathlib.Core.Path.{sym, ap, ◌∙◌}
use Rattle.values.specs.Planes.{marks_of}
use Rattle.stimulus.specs.Lines.{entry, fitted, sized}
use Rattle.stimulus.proofs.Digits.{bits-long, sized-some, sized-none}
use Rattle.stimulus.proofs.Lines.{entry-x, entry-hex, entry-bits, entry-sized, entry-decimal}
use Rattle.stimulus.proofs.entry_of.Goals as goal

pub returns-then-is_x : goal.returns-then-is_x
returns-then-is_x c =
    ap (λ m. entry 0 m 0) (c.marks_of.ensures ∙ ap marks_of c.all_unknown.ensures)
    ∙ entry-x _ _ (sym c.is_x.ensures ∙ c.if-is_x.true)

pub returns-then-is_hex : goal.returns-then-is_hex
returns-then-is_hex c =
    c.fitted.ensures
    ∙ ap (fitted _) c.number_of-a.ensures
    ∙ entry-hex _ _ (sym c.is_x.ensures ∙ c.if-is_x.false) (sym c.is_hex.ensures ∙ c.if-is_hex.true)

pub overflow_sub-word : goal.overflow_sub-word
overflow_sub-word c =
    let h = bits-long c.args.word.now (sym c.is_bits.ensures ∙ c.if-is_bits.true) in
    omega arith

pub returns-then-is_bits : goal.returns-then-is_bits
returns-then-is_bits c =
    c.sized.ensures
    ∙ ap (sized _ _ _) c.bits_of-a.ensures
    ∙ entry-bits _ _ (sym c.is_x.ensures ∙ c.if-is_x.false) (sym c.is_hex.ensures ∙ c.if-is_hex.false)
    (sym c.is_bits.ensures ∙ c.if-is_bits.true)

pub quoted_of-requires : goal.quoted_of-requires
quoted_of-requires c =
    let s = sized-some _ _ (sym c.in-Some.is ∙ c.sized_at.ensures) in
    record { sized = s.0; quote = s.1 }

pub returns-in-Some : goal.returns-in-Some
returns-in-Some c =
    let s = sized-some _ _ (sym c.in-Some.is ∙ c.sized_at.ensures) in
    c.quoted_of.ensures
    ∙ entry-sized _ _ (sym c.is_x.ensures ∙ c.if-is_x.false) (sym c.is_hex.ensures ∙ c.if-is_hex.false)
    (sym c.is_bits.ensures ∙ c.if-is_bits.false) s.0

pub returns-in-None : goal.returns-in-None
returns-in-None c =
    c.fitted-in-None.ensures
    ∙ ap (fitted _) c.number_of-a-in-None.ensures
    ∙ entry-decimal _ _ (sym c.is_x.ensures ∙ c.if-is_x.false) (sym c.is_hex.ensures ∙ c.if-is_hex.false)
    (sym c.is_bits.ensures ∙ c.if-is_bits.false) (sized-none _ (sym c.in-None.is ∙ c.sized_at.ensures))
