-- Which derivations count (document 02, request [1]): operators "at IEEE 1364's precedence and association", "at most one
-- `default`", "each `else` at the nearest `if`".
use Rattle.std.specs.Prelude.{◌≡◌, Bool, true, false, List, [], ◌∷◌, ℕ, ◌+◌, ◌≤◌, ◌<◌}
use Rattle.verilog_grammar.specs.AnnexA.{Binary, plus, minus, equals, less, conjunction, disjunction, exclusive, Expression, Primary, only, prefixed, joined, chosen, identified, numbered, bracketed}
use Rattle.verilog_grammar.specs.AnnexA.{Statement, blocking, nonblocking, selects, whether, either, chain, endless, repeats, after, block, OrNull, some, null, Chain, last, last_else, leg, Statements, none, more, CaseItem, labelled, default, default_colon, CaseItems, last_item, item}
use Rattle.verilog_grammar.specs.AnnexA.{Listed, one, also, NetAssignment, Item, input, reg, wire, assign, always, ModuleDeclaration}

-- ---- table 5-4, precedence: the closer an operator binds, the higher

unfoldable pub precedence : Binary → ℕ
precedence plus = 7
precedence minus = 7
precedence less = 6
precedence equals = 5
precedence conjunction = 4
precedence exclusive = 3
precedence disjunction = 2

-- That of an expression's outermost operator: 8 without one or of a unary one, 1 of ?:.
unfoldable pub level : Expression → ℕ
level (only p) = 8
level (prefixed u p) = 8
level (joined a o b) = precedence o
level (chosen c a b) = 1

-- Clause 5.1.2: operators associate to the left, ?: to the right. Operands are as close as that asks.
unfoldable mutual
  pub Grouped : Expression → Type 0
  Grouped (only p) = GroupedPrimary p
  Grouped (prefixed u p) = GroupedPrimary p
  Grouped (joined a o b) = Grouped a × Grouped b × (precedence o ≤ level a) × (precedence o < level b)
  Grouped (chosen c a b) = Grouped c × Grouped a × Grouped b × (1 < level c)

  pub GroupedPrimary : Primary → Type 0
  GroupedPrimary (identified n) = Unit {0}
  GroupedPrimary (numbered n) = Unit {0}
  GroupedPrimary (bracketed e) = Grouped e

-- ---- does a statement end in an `if` without `else`?

unfoldable mutual
  pub is_open : Statement → Bool
  is_open (blocking n e) = false
  is_open (nonblocking n e) = false
  is_open (selects e xs) = false
  is_open (whether e a) = true
  is_open (either e a b) = is_open_or_null b
  is_open (chain c) = is_open_chain c
  is_open (endless a) = is_open a
  is_open (repeats e a) = is_open a
  is_open (after c a) = is_open_or_null a
  is_open (block xs) = false

  pub is_open_or_null : OrNull → Bool
  is_open_or_null (some a) = is_open a
  is_open_or_null null = false

  pub is_open_chain : Chain → Bool
  is_open_chain (last e a) = true
  is_open_chain (last_else e a b) = is_open_or_null b
  is_open_chain (leg e a c) = is_open_chain c

-- ---- how many items of a case are its default

unfoldable pub defaults_of : CaseItem → ℕ
defaults_of (labelled w v a) = 0
defaults_of (default a) = 1
defaults_of (default_colon a) = 1

unfoldable pub defaults : CaseItems → ℕ
defaults (last_item i) = defaults_of i
defaults (item i xs) = defaults_of i + defaults xs

-- ---- the three conditions, in every part of a statement: each `else` has what is no open `if` before it

unfoldable mutual
  pub Settled : Statement → Type 0
  Settled (blocking n e) = Grouped e
  Settled (nonblocking n e) = Grouped e
  Settled (selects e xs) = Grouped e × SettledItems xs × (defaults xs ≤ 1)
  Settled (whether e a) = Grouped e × SettledOrNull a
  Settled (either e a b) = Grouped e × SettledOrNull a × SettledOrNull b × (is_open_or_null a ≡ false)
  Settled (chain c) = SettledChain c
  Settled (endless a) = Settled a
  Settled (repeats e a) = Grouped e × Settled a
  Settled (after c a) = SettledOrNull a
  Settled (block xs) = SettledAll xs

  pub SettledOrNull : OrNull → Type 0
  SettledOrNull (some a) = Settled a
  SettledOrNull null = Unit {0}

  pub SettledChain : Chain → Type 0
  SettledChain (last e a) = Grouped e × SettledOrNull a
  SettledChain (last_else e a b) = Grouped e × SettledOrNull a × SettledOrNull b × (is_open_or_null a ≡ false)
  SettledChain (leg e a c) = Grouped e × SettledOrNull a × SettledChain c × (is_open_or_null a ≡ false)

  pub SettledAll : Statements → Type 0
  SettledAll none = Unit {0}
  SettledAll (more a xs) = Settled a × SettledAll xs

  pub SettledItem : CaseItem → Type 0
  SettledItem (labelled w v a) = SettledOrNull a
  SettledItem (default a) = SettledOrNull a
  SettledItem (default_colon a) = SettledOrNull a

  pub SettledItems : CaseItems → Type 0
  SettledItems (last_item i) = SettledItem i
  SettledItems (item i xs) = SettledItem i × SettledItems xs

-- ---- and in every part of a module

unfoldable pub Every : {T : Type 0} → (T → Type 0) → Listed T → Type 0
Every P (one a) = P a
Every P (also a xs) = P a × Every P xs

unfoldable pub GroupedNet : NetAssignment → Type 0
GroupedNet a = Grouped a.value

unfoldable pub SettledPart : Item → Type 0
SettledPart (input r ns) = Unit {0}
SettledPart (reg r ns) = Unit {0}
SettledPart (wire r ns) = Unit {0}
SettledPart (assign xs) = Every GroupedNet xs
SettledPart (always a) = Settled a

unfoldable pub SettledParts : List Item → Type 0
SettledParts [] = Unit {0}
SettledParts (i ∷ is) = SettledPart i × SettledParts is

unfoldable pub Counts : ModuleDeclaration → Type 0
Counts m = SettledParts m.items
