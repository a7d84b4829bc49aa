-- Whose choices a run's are, and how many each user has, out of the words of a command line: a user is a number, the four allowances are
-- decimal numbers below 2^32 with commas between them.
use Rattle.std.specs.Prelude.{Bool, true, false, not, ◌&&◌, List, [], ◌∷◌, ℕ, ◌+◌, ◌*◌, set, replicate, ltb, eqb}
use Rattle.values.specs.Values.{pick, ◌is◌then◌else◌}
use Rattle.hextext.specs.Characters.{digit_of}
use Rattle.allowances.specs.declared.Allowances.{Allowances}
use Rattle.allowances.specs.declared.Reading.{Reading}

-- ---- user_of: a number as a user; those that are no byte's are 255, a user that there isn't: "a user above 3 (46)"

unfoldable pub user_of : ℕ → ℕ
user_of n = pick (ltb n 255) n 255

-- ---- allowances_of: the word read character by character

abbrev pub reading : Bool → ℕ → Bool → ℕ → List ℕ → Reading
reading good commas fresh n each = record { good = good; commas = commas; fresh = fresh; n = n; each = each }

unfoldable pub nothing : Reading
nothing = reading true 0 true 0 (replicate 4 0)

unfoldable pub spoilt : Reading → Reading
spoilt r = reading false r.commas r.fresh r.n r.each

-- "a number of 32 bits"
unfoldable pub digit_taken : Reading → ℕ → Reading
digit_taken r d =
    pick (ltb (r.n * 10 + d) 4294967296) (reading r.good r.commas false (r.n * 10 + d) r.each) (spoilt r)

-- A comma ends a number, and is the third at most.
unfoldable pub comma_taken : Reading → Reading
comma_taken r =
    pick r.fresh (spoilt r)
    (pick (ltb r.commas 3) (reading r.good (r.commas + 1) true 0 (set r.each r.commas r.n)) (spoilt r))

unfoldable pub taken : Reading → ℕ → Reading
taken r b = b is 44 then comma_taken r else pick (ltb (digit_of b) 10) (digit_taken r (digit_of b)) (spoilt r)

unfoldable pub taken_all : Reading → List ℕ → Reading
taken_all r [] = r
taken_all r (b ∷ bs) = taken_all (taken r b) bs

abbrev pub allowances : Bool → List ℕ → Allowances
allowances good each = record { good = good; each = each }

unfoldable pub refused : Allowances
refused = allowances false (replicate 4 0)

unfoldable pub allowed_by : Reading → Allowances
allowed_by r =
    pick (r.good && not r.fresh && eqb r.commas 3) (allowances true (set r.each 3 r.n)) refused

unfoldable pub allowances_of : List ℕ → Allowances
allowances_of word = allowed_by (taken_all nothing word)
