-- A number that each wire's step lowers (document 01: "at most P + 2^W" choices, "W the wires").
use Rattle.std.specs.Prelude.{ℕ, zero, suc, ◌+◌, ◌*◌, Bool}
use Rattle.nextstate.specs.Rules.{one}

-- The marks of the wires below n read as a binary number, wire 0's the highest bit.
unfoldable pub potential : ℕ → (ℕ → Bool) → ℕ
potential zero d = 0
potential (suc n) d = 2 * potential n d + one (d n)
