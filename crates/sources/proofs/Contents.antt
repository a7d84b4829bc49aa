-- Laws of names and of hexadecimal text, by the place that a loop has come to. Assumes nothing.
use mathlib.Core.Path.{◌≡◌, sym, ◌∙◌}
use mathlib.Core.List.{List, [], ◌∷◌}
use Prim.Native.Nat.{ℕ, suc, ◌+◌, ◌-◌, ◌≤◌, ◌<◌}
use native.Mathlib.Numerals.{add-one}
use native.Mathlib.Omega.{arith}
use borrow.Author.Tests.{eq-eqb, ne_eqb, lt-ltb, le-ltb}
use lib.ListN.{length, get_or, take, drop, drop_of_length-le}
use lib.Seq.{drop-cons}
use Rattle.writing.specs.Buffer.{Text, puts}
use Rattle.writing.proofs.Buffer.{puts-nil, puts-append}
use Rattle.naming.specs.Naming.{renamed}
use Rattle.sources.specs.Contents.{named_one, named_from, pair_of, behind, hex_from}

-- ---- named_one

module _ (text : List ℕ) (place n v : ℕ) (names : List ℕ) where
  pub named-empty : n ≡ 0 → names ≡ named_one text place n v names
  unfolding named_one
  named-empty h = rw (eq-eqb n 0 h)

  module _ (z : n ≡ 0 → ⊥) {from size : ℕ} (e : from ≡ place) (d : size ≡ n) where
    pub named-out : length text < from + size → names ≡ named_one text place n v names
    unfolding named_one
    named-out h = let l : length text < place + n = rw (e, d) at h in rw (ne_eqb n 0 z, lt-ltb (length text) (place + n) l)

    pub named_in : from + size ≤ length text → {after : List ℕ} → after ≡ renamed names v (take (from + size - from) (drop from text))
        → after ≡ named_one text place n v names
    unfolding named_one
    named_in h p =
        let l : place + n ≤ length text = rw (e, d) at h in
        let k : place + n - place ≡ n = omega arith in
        rw (ne_eqb n 0 z, le-ltb (length text) (place + n) l) (rw (e, d, k) at p)

-- ---- named_from

module _ (text places lengths : List ℕ) (v : ℕ) (names : List ℕ) where
  pub names-over : 80 ≤ v → names ≡ named_from text places lengths (80 - v) v names
  unfolding named_from
  names-over h = let k : 80 - v ≡ 0 = omega arith in rw k

  pub names-turn : v < 80 → (after : List ℕ) → after ≡ named_one text (get_or places v 0) (get_or lengths v 0) v names
      → named_from text places lengths (80 - (v + 1)) (v + 1) after ≡ named_from text places lengths (80 - v) v names
  unfolding named_from
  names-turn h after e = let k : 80 - v ≡ suc (80 - (v + 1)) = omega arith in rw (k, e)

-- ---- hex_from

module _ (n : ℕ) (s : List ℕ) (i : ℕ) (t : Text) where
  pub hex-over : length s ≤ i → t ≡ puts t (hex_from n i (drop i s))
  unfolding hex_from
  hex-over h = rw (drop_of_length-le s h) (sym (puts-nil t))

  pub hex-turn : i < length s → (u w : Text) (b : ℕ) → u ≡ puts t (pair_of (get_or s i 0)) → b ≡ behind (i + 1) n → w ≡ puts u (b ∷ [])
      → puts w (hex_from n (i + 1) (drop (i + 1) s)) ≡ puts t (hex_from n i (drop i s))
  unfolding hex_from
  hex-turn h u w b p e q =
      let d : drop i s ≡ get_or s i 0 ∷ drop (i + 1) s = rw add-one (drop-cons s i 0 h) in
      rw (d, q, e, p)
      (sym (puts-append t (pair_of (get_or s i 0)) (behind (i + 1) n ∷ hex_from n (i + 1) (drop (i + 1) s))
      ∙ puts-append (puts t (pair_of (get_or s i 0))) (behind (i + 1) n ∷ []) (hex_from n (i + 1) (drop (i + 1) s))))
