-- `values::binary` meets its contract. Assumes nothing.
use Rattle.std.proofs.Common.{◌≡◌, ◌+◌, ◌-◌, ◌%◌, ◌^◌, Bool, true, false, ltb, refl, arith, ne_eqb}
use mir.Val.{bool_byte}
use Rattle.values.specs.Operators.{flag, sum, difference, binary}
use Rattle.values.proofs.binary.Goals as goal

byte_flag : (t : Bool) → bool_byte t ≡ flag t
unfolding flag
byte_flag true = refl
byte_flag false = refl

pub returns-in-3 : goal.returns-in-3
unfolding binary
returns-in-3 c =
    rw (c.in-3.is, c.both.ensures)

pub returns-in-4 : goal.returns-in-4
unfolding binary
returns-in-4 c =
    rw (c.in-4.is, c.either.ensures)

pub returns-in-5 : goal.returns-in-5
unfolding binary
returns-in-5 c =
    rw (c.in-5.is, c.differing.ensures)

pub returns-in-6 : goal.returns-in-6
unfolding binary sum
returns-in-6 c =
    rw (c.in-6.is, c.certain.ensures, c.reduce.ensures, c.wrapping_add_u32.ensures.value)

pub returns-in-7 : goal.returns-in-7
unfolding binary difference
returns-in-7 c =
    let a = c.args.a.number in
    let b = c.args.b.number in
    let e : c.wrapping_sub_u32.result ≡ (a + (2 ^ 32 - b)) % 2 ^ 32 = omega arith in
    rw (c.in-7.is, c.certain-in-7.ensures, c.reduce-in-7.ensures, e)

pub returns-in-8 : goal.returns-in-8
unfolding binary
returns-in-8 c =
    rw (c.in-8.is, c.equal.ensures)

pub returns-in-9 : goal.returns-in-9
unfolding binary
returns-in-9 c =
    rw (c.in-9.is, c.certain-in-9.ensures, c.from.ensures, byte_flag (ltb c.args.a.number c.args.b.number))

pub returns-in_default : goal.returns-in_default
unfolding binary
returns-in_default c =
    let r = c.in_default.in_default-own.rest in
    simp (ne_eqb _ _ r.0.0.0.0.0.0.1, ne_eqb _ _ r.0.0.0.0.0.1, ne_eqb _ _ r.0.0.0.0.1, ne_eqb _ _ r.0.0.0.1, ne_eqb _ _ r.0.0.1, ne_eqb _ _ r.0.1, ne_eqb _ _ r.1, c.all_unknown.ensures, c.binary_width.ensures)
