-- The waits of a sheet in the order of the rows, "by thread and wait": each one number, 256 times its thread and its place.
use Rattle.std.specs.Prelude.{ℕ, zero, suc, ◌+◌, ◌*◌, List, [], ◌∷◌, ◌++◌, set, ltb}
use Rattle.values.specs.Values.{pick}
use Rattle.pseudocode.specs.declared.Instruction.{Instruction}
use Rattle.pseudocode.specs.declared.Instruction.TheVariants.{Wait, Act}
use Rattle.pseudocode.specs.Fetching.{fetch_at}
use Rattle.rules.specs.Judging.{size_of}

-- ---- heads_of

-- Of the instruction at place p of thread i: one where it is a wait.
unfoldable pub head_of : Instruction → ℕ → ℕ → List ℕ
head_of (Wait t) i p = (256 * i + p) ∷ []
head_of (Act a) i p = []

-- Of thread i's first n instructions.
unfoldable pub heads_in : List ℕ → List ℕ → ℕ → ℕ → List ℕ
heads_in s code i zero = []
heads_in s code i (suc n) = heads_in s code i n ++ head_of (fetch_at s code i n) i n

-- Of the first n threads.
unfoldable pub heads_of : List ℕ → List ℕ → List ℕ → ℕ → List ℕ
heads_of s code sizes zero = []
heads_of s code sizes (suc n) = heads_of s code sizes n ++ heads_in s code n (size_of sizes n)

-- ---- noted: the lent table, which has room for 32, and how many waits there are

pub record Noted : Type 0 where
  pub heads : List ℕ
  pub count : ℕ

abbrev pub noted : List ℕ → ℕ → Noted
noted heads count = record { heads = heads; count = count }

-- One more: past the table's end it is only counted.
unfoldable pub note : Noted → ℕ → Noted
note t h = noted (pick (ltb t.count 32) (set t.heads t.count h) t.heads) (t.count + 1)

-- One after the other.
unfoldable pub notes : Noted → List ℕ → Noted
notes t [] = t
notes t (h ∷ hs) = notes (note t h) hs
