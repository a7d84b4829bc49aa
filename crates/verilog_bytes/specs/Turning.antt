-- Bytes of the buffer that are put in front of others that stand there already: these are moved on; where there is no room, the bytes are
-- written behind, and then turned.
use Rattle.std.specs.Prelude.{◌≡◌, ◌&&◌, List, ◌++◌, ℕ, zero, suc, ◌+◌, ◌-◌, ◌≤◌, ltb, leb, length, get_or, set, take, drop}
use Rattle.std.proofs.Math.Seq.{slice}
use Rattle.std.proofs.lemmas.List.Edits.{sets}
use Rattle.values.specs.Values.{pick}
use Rattle.writing.specs.Buffer.{Text, filled, puts}

-- ---- reversed: n bytes from i on, the last first. The outer two are exchanged, then those between them.

unfoldable pub swapped : ℕ → ℕ → List ℕ → List ℕ
swapped i j bs = set (set bs i (get_or bs j 0)) j (get_or bs i 0)

unfoldable pub reversed : ℕ → ℕ → List ℕ → List ℕ
reversed zero i bs = bs
reversed (suc zero) i bs = bs
reversed (suc (suc n)) i bs = reversed n (i + 1) (swapped i (i + n + 1) bs)

-- ---- turned: what stands at from..mid comes behind what stands at mid..end; places out of order or past the end change nothing

unfoldable pub thrice : ℕ → ℕ → ℕ → List ℕ → List ℕ
thrice from mid end bs = reversed (end - from) from (reversed (end - mid) mid (reversed (mid - from) from bs))

unfoldable pub turned : ℕ → ℕ → ℕ → List ℕ → List ℕ
turned from mid end bs = pick (leb from mid && leb mid end && leb end 65536) (thrice from mid end bs) bs

-- What turning is, where all of it lies in the buffer. `proofs/Turning.antt` shows it.
unfoldable pub Turns : Type 0
Turns =
    (bs : List ℕ) (from mid end : ℕ) → length bs ≡ 65536 → from ≤ mid → mid ≤ end → end ≤ 65536
    → turned from mid end bs ≡ take from bs ++ (slice mid end bs ++ (slice from mid bs ++ drop end bs))

-- ---- fronted: bytes put in front of all that stands from a place on

unfoldable pub behind : ℕ → ℕ → Text → Text
behind from mid t = filled (turned from mid t.at t.bytes) t.at

-- n bytes from a place on, each moved on by k, the last first.
unfoldable pub moved : ℕ → ℕ → ℕ → List ℕ → List ℕ
moved k zero from bs = bs
moved k (suc n) from bs = moved k n from (set bs (from + n + k) (get_or bs (from + n) 0))

-- Where there is room for them, what stands there is moved on and they are written in its place: that is the same.
unfoldable pub opened : ℕ → List ℕ → Text → Text
opened from xs t = filled (sets (moved (length xs) (t.at - from) from t.bytes) from xs) (t.at + length xs)

unfoldable pub fronted : ℕ → List ℕ → Text → Text
fronted from xs t =
    pick (ltb from t.at && leb (t.at + length xs) 65536) (opened from xs t) (behind from t.at (puts t xs))

-- `proofs/Moving.antt` shows it.
unfoldable pub Fronts : Type 0
Fronts = (from : ℕ) (xs : List ℕ) (t : Text) → length t.bytes ≡ 65536 → fronted from xs t ≡ behind from t.at (puts t xs)
