-- Edges read from a table (document 02, request [3]): "a constant chart of old value against new, with the same outcome for all nine pairs
-- and both edges." A row is an old value, 0, 1 and unknown, its columns are the new values. proofs/Edges shows that each chart is the rule.
use Rattle.std.specs.Prelude.{◌≡◌, ℕ, ◌<◌, Bool, true, false, not, ◌&&◌, ◌||◌, List, [], ◌∷◌, ◌==◌, slice_index_or}

abbrev pub posedges : List (List Bool)
posedges =
    (false ∷ true ∷ true ∷ []) ∷
    (false ∷ false ∷ false ∷ []) ∷
    (false ∷ true ∷ false ∷ []) ∷ []

abbrev pub negedges : List (List Bool)
negedges =
    (false ∷ false ∷ false ∷ []) ∷
    (true ∷ false ∷ true ∷ []) ∷
    (true ∷ false ∷ false ∷ []) ∷ []

-- At all nine pairs of levels the chart says whether a value goes from the one level on, or to the other.
abbrev pub Charts : List (List Bool) → ℕ → ℕ → Type 0
Charts c from to =
    (a b : ℕ) → a < 3 → b < 3 → slice_index_or (slice_index_or c a []) b false ≡ (not (a == b) && (a == from || b == to))
