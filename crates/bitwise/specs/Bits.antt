-- Unknown bit by bit (document 02, request [4]): what the operators make of each bit. "The per-bit laws are shown for every width
-- together." proofs/Bits proves them.
use Rattle.std.specs.Prelude.{◌≡◌, ◌≢◌, ◌↔◌, ◌⊎◌, true, List, [], ◌∷◌, ℕ, ◌+◌, ◌/◌, ◌%◌, ◌^◌, ◌≤◌, ◌<◌, ltb, eqb, get_or}
use Rattle.values.specs.declared.Value.{Value}
use Rattle.values.specs.Values.{pick, known, all_unknown, fits, holds}
use Rattle.values.specs.Operators.{difference, flag, unary, binary, choice}

-- ---- bit_of: bit i of a value, 0, 1, or 2 for unknown

abbrev pub bit_of : Value → ℕ → ℕ
bit_of a i = pick (eqb (a.unknown / 2 ^ i % 2) 0) (a.number / 2 ^ i % 2) 2

-- ---- "Bitwise operators follow IEEE 1364's tables": rows and columns are 0, 1 and unknown

abbrev pub table : List (List ℕ) → ℕ → ℕ → ℕ
table t a b = get_or (get_or t a []) b 0

abbrev pub ands : List (List ℕ)
ands =
    (0 ∷ 0 ∷ 0 ∷ []) ∷
    (0 ∷ 1 ∷ 2 ∷ []) ∷
    (0 ∷ 2 ∷ 2 ∷ []) ∷ []

abbrev pub ors : List (List ℕ)
ors =
    (0 ∷ 1 ∷ 2 ∷ []) ∷
    (1 ∷ 1 ∷ 1 ∷ []) ∷
    (2 ∷ 1 ∷ 2 ∷ []) ∷ []

abbrev pub xors : List (List ℕ)
xors =
    (0 ∷ 1 ∷ 2 ∷ []) ∷
    (1 ∷ 0 ∷ 2 ∷ []) ∷
    (2 ∷ 2 ∷ 2 ∷ []) ∷ []

abbrev pub nots : List ℕ
nots = 1 ∷ 0 ∷ 2 ∷ []

-- "`?:` on an unknown condition keeps bits in which both arms agree"
abbrev pub merges : List (List ℕ)
merges =
    (0 ∷ 2 ∷ 2 ∷ []) ∷
    (2 ∷ 1 ∷ 2 ∷ []) ∷
    (2 ∷ 2 ∷ 2 ∷ []) ∷ []

-- ---- of the bits of a width

-- Some bit is this.
abbrev pub Has : ℕ → Value → ℕ → Type 0
Has w a d = (i : ℕ) × (i < w) × (bit_of a i ≡ d)

-- All are 0.
abbrev pub Zero : ℕ → Value → Type 0
Zero w a = (i : ℕ) → i < w → bit_of a i ≡ 0

-- No bit is 1 for sure, and one may be.
abbrev pub Open : ℕ → Value → Type 0
Open w a = (¬ Has w a 1) × Has w a 2

-- "any unknown bit", of either operand
abbrev pub Blurred : ℕ → Value → Value → Type 0
Blurred w a b = Has w a 2 ⊎ Has w b 2

-- "bits known in both differ"
abbrev pub Clash : ℕ → ℕ → Type 0
Clash x y = (x < 2) × (y < 2) × (x ≢ y)

abbrev pub Differ : ℕ → Value → Value → Type 0
Differ w a b = (i : ℕ) × (i < w) × Clash (bit_of a i) (bit_of b i)

-- All bits are known and the same.
abbrev pub Agree : ℕ → Value → Value → Type 0
Agree w a b = (i : ℕ) → i < w → (bit_of a i ≡ bit_of b i) × (bit_of a i < 2)

-- ---- one value that fits its width

pub record OneLaws (w : ℕ) (a : Value) : Type 0 where
  pub not : (i : ℕ) → i < w → bit_of (unary 1 w a) i ≡ get_or nots (bit_of a i) 0
  -- "A condition holds if some known bit is 1"
  pub condition : Has w a 1 ↔ (holds a ≡ true)
  -- "and `!` gives 1, 0 or unknown by the same rule"
  pub negated-0 : Has w a 1 ↔ (unary 2 w a ≡ known 0)
  pub negated-x : Open w a ↔ (unary 2 w a ≡ all_unknown 1)
  pub negated-1 : Zero w a ↔ (unary 2 w a ≡ known 1)

-- ---- two values that fit their width

pub record TwoLaws (w : ℕ) (a b : Value) : Type 0 where
  pub and : (i : ℕ) → bit_of (binary 3 w a b) i ≡ table ands (bit_of a i) (bit_of b i)
  pub or : (i : ℕ) → bit_of (binary 4 w a b) i ≡ table ors (bit_of a i) (bit_of b i)
  pub xor : (i : ℕ) → bit_of (binary 5 w a b) i ≡ table xors (bit_of a i) (bit_of b i)
  -- "Arithmetic and `<` give all unknown on any unknown bit"
  pub sum-x : Blurred w a b → binary 6 w a b ≡ all_unknown w
  pub difference-x : Blurred w a b → binary 7 w a b ≡ all_unknown w
  pub less-x : Blurred w a b → binary 9 w a b ≡ all_unknown 1
  pub sum : ¬ Blurred w a b → binary 6 w a b ≡ known ((a.number + b.number) % 2 ^ w)
  pub difference : ¬ Blurred w a b → binary 7 w a b ≡ known (difference w a.number b.number)
  pub less : ¬ Blurred w a b → binary 9 w a b ≡ known (flag (ltb a.number b.number))
  -- "`==` gives 0 where bits known in both differ, else x on any unknown bit"
  pub equal-0 : Differ w a b ↔ (binary 8 w a b ≡ known 0)
  pub equal-x : ((¬ Differ w a b) × Blurred w a b) ↔ (binary 8 w a b ≡ all_unknown 1)
  pub equal-1 : Agree w a b ↔ (binary 8 w a b ≡ known 1)

-- ---- ?: on a condition c of width k

pub record ChoiceLaws (k : ℕ) (c a b : Value) : Type 0 where
  pub first : Has k c 1 → choice c a b ≡ a
  pub second : Zero k c → choice c a b ≡ b
  pub merged : Open k c → (i : ℕ) → bit_of (choice c a b) i ≡ table merges (bit_of a i) (bit_of b i)

-- ---- the claim

pub record BitByBit : Type 0 where
  pub one : (w : ℕ) → w ≤ 32 → (a : Value) → fits w a ≡ true → OneLaws w a
  pub two : (w : ℕ) → w ≤ 32 → (a b : Value) → fits w a ≡ true → fits w b ≡ true → TwoLaws w a b
  pub chosen :
      (w k : ℕ) (c a b : Value) → fits k c ≡ true → fits w a ≡ true → fits w b ≡ true → ChoiceLaws k c a b
