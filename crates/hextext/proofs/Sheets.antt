-- THE THEOREM: a sheet that is read is never taken for hex text. Its first three bytes are at most 32, so neither `#` nor a digit; its
-- fourth, the number of threads from 1 to 8, is no blank and no line end either. Assumes nothing.
use mathlib.Core.Path.{◌≡◌, refl}
use mathlib.Core.Bool.{Bool, true, false}
use mathlib.Core.List.{List, [], ◌∷◌}
use Prim.Native.Nat.{ℕ, ◌<◌, ◌≤◌}
use native.Mathlib.Omega.{arith}
use borrow.Author.Tests.{lt-ltb, leb-true, ne_eqb}
use lib.ListN.{length, get_or}
use lib.Dec.{leb}
use Rattle.values.specs.Values.{pick}
use Rattle.sheet.specs.Reading.{ok, byte_at, within}
use Rattle.sheet.specs.Expression.{Expr, tree}
use Rattle.sheet.specs.Module.{Module, inputs_of, first_at, read_head, read_sheet, read}
use Rattle.sheet.proofs.Reading.{bind_ok, check-ok, byte-ok, within-ok}
use Rattle.sheet.proofs.Closed.{small-first, parts}
use Rattle.hextext.specs.Characters.{digit_of, is_digit, is_blank, is_gap, is_text}

small-digit : (b : ℕ) → b < 48 → is_digit b ≡ false
unfolding is_digit digit_of
small-digit b h = rw (lt-ltb b 48 h)

-- A byte of at most 32 in front doesn't make a text.
small-front : (b : ℕ) (bs : List ℕ) → b ≤ 32 → is_text bs ≡ false → is_text (b ∷ bs) ≡ false
unfolding is_text
small-front b bs h e =
    rw (ne_eqb b 35 (λ p. omega arith), small-digit b (omega arith), e) (pick-false (is_gap b))
  where
    pick-false : (t : Bool) → pick t false false ≡ false
    pick-false true = refl
    pick-false false = refl

-- A byte from 1 to 8 is the first that counts.
few-front : (b : ℕ) (bs : List ℕ) → b ≤ 8 → is_text (b ∷ bs) ≡ false
unfolding is_text is_gap is_blank
few-front b bs h =
    rw (
      ne_eqb b 35 (λ p. omega arith),
      small-digit b (omega arith),
      ne_eqb b 10 (λ p. omega arith),
      ne_eqb b 32 (λ p. omega arith),
      ne_eqb b 9 (λ p. omega arith),
      ne_eqb b 13 (λ p. omega arith),
    )

head-front : (s : List ℕ) → 3 < length s → get_or s 0 0 ≤ 16 → get_or s 1 0 ≤ 32 → get_or s 2 0 ≤ 32 → get_or s 3 0 ≤ 8 → is_text s ≡ false
head-front (a ∷ b ∷ c ∷ d ∷ s) l x y z w =
    small-front a _ (omega arith) (small-front b _ y (small-front c _ z (few-front d s w)))
head-front (a ∷ b ∷ c ∷ []) l x y z w = absurd (omega arith)
head-front (a ∷ b ∷ []) l x y z w = absurd (omega arith)
head-front (a ∷ []) l x y z w = absurd (omega arith)
head-front [] l x y z w = absurd (omega arith)

-- The first byte, where the head is read and nothing is added to it.
first-few : (s : List ℕ) {b : ℕ} → get_or s 0 0 < 128 → first_at s 0 ≡ ok b → get_or s 0 0 ≤ 16
unfolding first_at inputs_of
first-few s {b} h e =
    let x = bind_ok (byte_at s 0) _ e in
    let y = (byte-ok s 0 x.1).1 in
    let c = x.0 in
    let i : inputs_of c ≡ c = simp (lt-ltb c 128 (omega arith)) in
    let u = check-ok (leb 1 (inputs_of c)) 3 0 _ x.2 in
    let v = check-ok (leb (inputs_of c) 16) 3 0 _ u.1 in
    let z = leb-true (inputs_of c) 16 v.0 in
    omega arith

pub sheet-no-text : (s : List ℕ) {m : Module Expr} → read s ≡ ok m → is_text s ≡ false
unfolding read read_head
sheet-no-text s e =
    let r = bind_ok (read_sheet (tree s) s) _ e in
    let p = parts (tree s) s r.1 in
    let a = bind_ok (first_at s 0) _ p.head-read in
    let b = bind_ok (within 1 32 3 s 1) _ a.2 in
    let c = bind_ok (within 0 32 3 s 2) _ b.2 in
    let d = bind_ok (within 1 8 3 s 3) _ c.2 in
    let i = first-few s (small-first (tree s) s r.1) a.1 in
    let j = within-ok 1 32 3 s 1 b.1 in
    let k = within-ok 0 32 3 s 2 c.1 in
    let t = within-ok 1 8 3 s 3 d.1 in
    head-front s t.below i (omega arith) (omega arith) (omega arith)
