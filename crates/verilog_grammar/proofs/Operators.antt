-- Precedence: the operator in front of a list, and how close it binds.
-- Assumes nothing.
use mathlib.Core.Path.{◌≡◌, refl}
use mathlib.Core.Bool.{Bool, true, false}
use mathlib.Core.List.{List, ◌∷◌}
use mathlib.Core.Option.{Option, none as nothing, some as just}
use Prim.Native.Nat.{ℕ, ◌≤◌, ◌<◌}
use native.Mathlib.Omega.{arith}
use Rattle.writing.specs.Ascii.{ascii}
use Rattle.naming.specs.Naming.{same_text}
use Rattle.verilog_tokens.specs.Tokens.{Token, terminal}
use Rattle.verilog_grammar.specs.AnnexA.{Binary, plus, minus, equals, less, conjunction, disjunction, exclusive, binary_sign, Expression, only, prefixed, joined, chosen}
use Rattle.verilog_grammar.specs.Conditions.{precedence, level}
use Rattle.verilog_grammar.specs.Reader.{is_mark, starts, operator}

-- ---- leads: the precedence of the operator in front of a list, 1 of `?`, 0 without one; binds: of a binary one alone

unfoldable pub leads_by : Option Binary → Bool → ℕ
leads_by (just o) q = precedence o
leads_by nothing true = 1
leads_by nothing false = 0

unfoldable pub leads : List Token → ℕ
leads ts = leads_by (operator ts) (starts (ascii "?") ts)

unfoldable pub binds_by : Option Binary → ℕ
binds_by (just o) = precedence o
binds_by nothing = 0

unfoldable pub binds : List Token → ℕ
binds ts = binds_by (operator ts)

-- ---- bounds

pub precedence-from : (o : Binary) → 2 ≤ precedence o
unfolding precedence
precedence-from plus = omega arith
precedence-from minus = omega arith
precedence-from less = omega arith
precedence-from equals = omega arith
precedence-from conjunction = omega arith
precedence-from exclusive = omega arith
precedence-from disjunction = omega arith

pub precedence-to : (o : Binary) → precedence o ≤ 7
unfolding precedence
precedence-to plus = omega arith
precedence-to minus = omega arith
precedence-to less = omega arith
precedence-to equals = omega arith
precedence-to conjunction = omega arith
precedence-to exclusive = omega arith
precedence-to disjunction = omega arith

pub level-from : (e : Expression) → 1 ≤ level e
unfolding level
level-from (only p) = omega arith
level-from (prefixed u p) = omega arith
level-from (joined a o b) = let h = precedence-from o in omega arith
level-from (chosen c a b) = omega arith

pub leads-to : (ts : List Token) → leads ts ≤ 7
unfolding leads leads_by
leads-to ts = by (operator ts) (starts (ascii "?") ts)
  where
    by : (o : Option Binary) (q : Bool) → leads_by o q ≤ 7
    by (just o) q = precedence-to o
    by nothing true = omega arith
    by nothing false = omega arith

pub binds-leads : (ts : List Token) → binds ts ≤ leads ts
unfolding leads leads_by binds binds_by
binds-leads ts = by (operator ts) (starts (ascii "?") ts)
  where
    by : (o : Option Binary) (q : Bool) → binds_by o ≤ leads_by o q
    by (just o) q = omega arith
    by nothing true = omega arith
    by nothing false = omega arith

-- Where no binary operator and no `?` lead, nothing binds.
pub leads-query : (ts : List Token) (k : ℕ) → 1 ≤ k → binds ts < k → starts (ascii "?") ts ≡ false → leads ts < k
unfolding leads leads_by binds binds_by
leads-query ts k p b q = rw q (by (operator ts) b)
  where
    by : (o : Option Binary) → binds_by o < k → leads_by o false < k
    by (just o) h = h
    by nothing h = p

pub leads-closer : (ts : List Token) (k : ℕ) → 2 ≤ k → binds ts < k → leads ts < k
unfolding leads leads_by binds binds_by
leads-closer ts k p b = by (operator ts) (starts (ascii "?") ts) b
  where
    by : (o : Option Binary) (q : Bool) → binds_by o < k → leads_by o q < k
    by (just o) q h = h
    by nothing true h = omega arith
    by nothing false h = omega arith

-- ---- a sign in front

pub operator-sign : (o : Binary) (ts : List Token) → operator (terminal (binary_sign o) ∷ ts) ≡ just o
unfolding operator starts is_mark binary_sign ascii same_text
operator-sign plus ts = refl
operator-sign minus ts = refl
operator-sign equals ts = refl
operator-sign less ts = refl
operator-sign conjunction ts = refl
operator-sign disjunction ts = refl
operator-sign exclusive ts = refl
