-- THE LAW of spots: in a text that decodes without an error, what stands at the spot of byte n are the two digits of that byte.
-- Assumes nothing.
use mathlib.Core.Path.{◌≡◌, refl, sym, ap, ◌∙◌}
use mathlib.Core.Bool.{Bool, true, false}
use mathlib.Core.List.{List, [], ◌∷◌, ◌++◌}
use Prim.Native.Nat.{ℕ, zero, suc, ◌+◌, ◌*◌, ◌<◌, ◌≤◌}
use native.Mathlib.Nat.{le_refl, mod-eq_of_lt}
use native.Mathlib.Omega.{arith}
use borrow.Author.Tests.{ltb-true, ltb-false, eq-eqb, ne_eqb, eqb-true, eqb-false}
use lib.Dec.{eqb, ltb}
use lib.ListN.{length, get_or}
use Rattle.values.specs.Values.{◌is◌then◌else◌}
use Rattle.hextext.specs.declared.Scan.{Scan}
use Rattle.hextext.specs.declared.Place.{Place}
use Rattle.hextext.specs.Characters.{digit_of, is_blank}
use Rattle.hextext.specs.Scanning.{more, start, next_line, along, first, second, failed, step, scan}
use Rattle.hextext.specs.Decoding.{completes, byte_of, made, full, bytes_from, bytes_of, error_of, ending, decoded}
use Rattle.hextext.specs.Decoding.{found, spotted, spot_of}
use Rattle.hextext.proofs.Steps.{step-comment-end, step-comment, step-second, step-first, step_line, step-mark, step-blank, step-wrong}
use Rattle.hextext.proofs.Characters.{digit-is, digit_not}
use Rattle.hextext.proofs.Scanning.{more-below, scan-stopped}
use Rattle.hextext.proofs.Decoding.{full-not, bytes-stopped}

-- ---- place_from: the line and the column of the p-th character of a list whose first stands at a line and a column

abbrev place : ℕ → ℕ → Place
place line column = record { line = line; column = column }

unfoldable pub place_from : ℕ → ℕ → ℕ → List ℕ → Place
place_from line column zero l = place line column
place_from line column (suc p) [] = place line column
place_from line column (suc p) (b ∷ l) =
    b is 10 then place_from (more line) 1 p l else place_from line (more column) p l

-- A digit is no line end.
digit-no-end : (b : ℕ) → digit_of b < 16 → b ≡ 10 → ⊥
unfolding digit_of
digit-no-end b h e = let g = rw e at h in omega arith

-- ---- one character of a scan that goes on

scan-one : (stop : Scan → Bool) (s t : Scan) (b : ℕ) (l : List ℕ) → stop s ≡ false → step s b ≡ t → scan stop s (b ∷ l) ≡ scan stop t l
unfolding scan
scan-one stop s t b l f g = rw (f, g)

bytes_one : (s t : Scan) (b : ℕ) (m l : List ℕ) → full s ≡ false → step s b ≡ t → made s b ≡ m → bytes_from s (b ∷ l) ≡ m ++ bytes_from t l
unfolding bytes_from
bytes_one s t b m l f g k = rw (f, g, k)

-- Outside a byte no byte is found.
found-not : (n : ℕ) (s : Scan) → s.half ≡ false → s.error ≡ 0 → found n s ≡ false
unfolding found
found-not n s h e = rw (eq-eqb s.error 0 e, h)

-- ---- Stands: the k-th byte that is still to come stands at the spot of byte n

pub record Stands (s : Scan) (n k : ℕ) (l : List ℕ) : Type 0 where
  pub at : ℕ
  pub inside : suc at < length l
  pub spot_is : spotted (scan (found n) s l) ≡ place_from s.line s.column at l
  pub high : digit_of (get_or l at 0) < 16
  pub low : digit_of (get_or l (suc at) 0) < 16
  pub byte : get_or (bytes_from s l) k 0 ≡ digit_of (get_or l at 0) * 16 + digit_of (get_or l (suc at) 0)

-- ---- a character that is skipped

record Skips (s t : Scan) (b : ℕ) : Type 0 where
  steps : step s b ≡ t
  none : completes s b ≡ false
  half : t.half ≡ false
  error : t.error ≡ 0
  count : t.count ≡ s.count
  moves : (p : ℕ) (l : List ℕ) → place_from s.line s.column (suc p) (b ∷ l) ≡ place_from t.line t.column p l

module _ (s t : Scan) (b : ℕ) (l : List ℕ) (h : s.half ≡ false) (e : s.error ≡ 0) (f : full s ≡ false) (q : Skips s t b) where
  skip-scan : scan full s (b ∷ l) ≡ scan full t l
  skip-scan = scan-one full s t b l f q.steps

  skip-found : (n : ℕ) → scan (found n) s (b ∷ l) ≡ scan (found n) t l
  skip-found n = scan-one (found n) s t b l (found-not n s h e) q.steps

  skip-bytes : bytes_from s (b ∷ l) ≡ bytes_from t l
  unfolding bytes_from made
  skip-bytes = rw (f, q.none, q.steps)

  skip-stands : (n k : ℕ) → Stands t n k l → Stands s n k (b ∷ l)
  skip-stands n k r =
      let i = r.inside in
      record {
        at = suc r.at;
        inside = omega arith;
        spot_is = ap spotted (skip-found n) ∙ r.spot_is ∙ sym (q.moves r.at l);
        high = r.high;
        low = r.low;
        byte = ap (λ (xs : List ℕ). get_or xs k 0) skip-bytes ∙ r.byte;
      }

-- ---- the three kinds of characters outside a byte: skipped, a first digit, wrong

data Turn (s : Scan) (b : ℕ) : Type 0 where
  skips : (t : Scan) → Skips s t b → Turn s b
  digit : s.comment ≡ false → digit_of b < 16 → Turn s b
  wrong : ((step s b).error ≡ 0 → ⊥) → Turn s b

module _ (s : Scan) (b : ℕ) (h : s.half ≡ false) (e : s.error ≡ 0) where
  none_made : completes s b ≡ false
  unfolding completes
  none_made = by s.comment refl
    where
      by : (x : Bool) → s.comment ≡ x → completes s b ≡ false
      by true p = rw p
      by false p = rw (p, h)

  to-line : step s b ≡ next_line s → b ≡ 10 → Turn s b
  unfolding next_line place_from
  to-line g d =
      skips (next_line s)
      (record {
        steps = g;
        none = none_made;
        half = h;
        error = e;
        count = refl;
        moves = λ p l. rw (eq-eqb b 10 d);
      })

  to-next : (x : Bool) → step s b ≡ along x s → (b ≡ 10 → ⊥) → Turn s b
  unfolding along place_from
  to-next x g d =
      skips (along x s)
      (record {
        steps = g;
        none = none_made;
        half = h;
        error = e;
        count = refl;
        moves = λ p l. rw (ne_eqb b 10 d);
      })

  to-wrong : step s b ≡ failed 1 s → Turn s b
  unfolding failed
  to-wrong g = wrong (λ z. let y : ◌≡◌ {A = ℕ} 1 0 = sym (ap (λ (x : Scan). x.error) g) ∙ z in omega arith)

  turn : Turn s b
  turn = by s.comment (ltb (digit_of b) 16) (eqb b 10) (eqb b 35) (is_blank b) refl refl refl refl refl
    where
      by : (x d n m k : Bool) → s.comment ≡ x → ltb (digit_of b) 16 ≡ d → eqb b 10 ≡ n → eqb b 35 ≡ m → is_blank b ≡ k → Turn s b
      by true d true m k x₁ d₁ n₁ m₁ k₁ = to-line (step-comment-end s b x₁ (eqb-true b 10 n₁)) (eqb-true b 10 n₁)
      by true d false m k x₁ d₁ n₁ m₁ k₁ = to-next true (step-comment s b x₁ (eqb-false b 10 n₁)) (eqb-false b 10 n₁)
      by false true n m k x₁ d₁ n₁ m₁ k₁ = digit x₁ (ltb-true (digit_of b) 16 d₁)
      by false false true m k x₁ d₁ n₁ m₁ k₁ =
          to-line (step_line s b x₁ h (ltb-false (digit_of b) 16 d₁) (eqb-true b 10 n₁)) (eqb-true b 10 n₁)
      by false false false true k x₁ d₁ n₁ m₁ k₁ =
          to-next true
          (step-mark s b x₁ h (ltb-false (digit_of b) 16 d₁) (eqb-false b 10 n₁) (eqb-true b 35 m₁)) (eqb-false b 10 n₁)
      by false false false false true x₁ d₁ n₁ m₁ k₁ =
          to-next false
          (step-blank s b x₁ h (ltb-false (digit_of b) 16 d₁) (eqb-false b 10 n₁) (eqb-false b 35 m₁) k₁) (eqb-false b 10 n₁)
      by false false false false false x₁ d₁ n₁ m₁ k₁ =
          to-wrong (step-wrong s b x₁ h (ltb-false (digit_of b) 16 d₁) (eqb-false b 10 n₁) (eqb-false b 35 m₁) k₁)

-- ---- an error stays

error-stays : (s : Scan) (l : List ℕ) → (s.error ≡ 0 → ⊥) → error_of (scan full s l) ≡ 0 → ⊥
unfolding full error_of
error-stays s l e z = e (sym (kept (scan-stopped full s l (over e))) ∙ z)
  where
    over : (s.error ≡ 0 → ⊥) → full s ≡ true
    over e = rw (ne_eqb s.error 0 e)

    kept : scan full s l ≡ s → error_of (scan full s l) ≡ s.error
    kept g = rw (g, ne_eqb s.error 0 e)

-- ---- a byte: a first digit b and a second one d

module _ (s : Scan) (b d : ℕ) (l : List ℕ) (h : s.half ≡ false) (e : s.error ≡ 0) (f : full s ≡ false) (p : s.comment ≡ false)
    (x : digit_of b < 16) (y : digit_of d < 16) where
  abbrev one : Scan
  one = first (digit_of b) s

  abbrev two : Scan
  two = second one

  first-full : full one ≡ false
  unfolding full first
  first-full = f

  first_made : made s b ≡ []
  unfolding made
  first_made = rw (none_made s b h e)

  second-step : step one d ≡ two
  unfolding first
  second-step = step-second one d p refl y

  second-made : made one d ≡ (digit_of b * 16 + digit_of d) ∷ []
  unfolding made completes byte_of first
  second-made = rw (p, digit-is d y, mod-eq_of_lt x, mod-eq_of_lt y)

  pair-bytes : bytes_from s (b ∷ d ∷ l) ≡ (digit_of b * 16 + digit_of d) ∷ bytes_from two l
  pair-bytes =
      bytes_one s one b [] (d ∷ l) f (step-first s b p h x) first_made
      ∙ bytes_one one two d ((digit_of b * 16 + digit_of d) ∷ []) l first-full second-step second-made

  pair-scan : scan full s (b ∷ d ∷ l) ≡ scan full two l
  pair-scan =
      scan-one full s one b (d ∷ l) f (step-first s b p h x) ∙ scan-one full one two d l first-full second-step

  here_found : (n : ℕ) → n ≡ s.count → found n one ≡ true
  unfolding found first
  here_found n c = rw (eq-eqb s.error 0 e, eq-eqb s.count n (sym c))

  later-found : (n : ℕ) → (s.count ≡ n → ⊥) → found n one ≡ false
  unfolding found first
  later-found n c = rw (eq-eqb s.error 0 e, ne_eqb s.count n c)

  spot-one : spotted one ≡ place_from s.line s.column zero (b ∷ d ∷ l)
  unfolding spotted first place_from
  spot-one = refl

  moves-two : (q : ℕ) → place_from s.line s.column (suc (suc q)) (b ∷ d ∷ l) ≡ place_from two.line two.column q l
  unfolding first second place_from
  moves-two q = rw (ne_eqb b 10 (digit-no-end b x), ne_eqb d 10 (digit-no-end d y))

  pair-here : (n : ℕ) → n ≡ s.count → Stands s n 0 (b ∷ d ∷ l)
  pair-here n c =
      record {
        at = zero;
        inside = omega arith;
        spot_is =
            ap spotted
            (scan-one (found n) s one b (d ∷ l) (found-not n s h e) (step-first s b p h x)
            ∙ scan-stopped (found n) one (d ∷ l) (here_found n c))
            ∙ spot-one;
        high = x;
        low = y;
        byte = ap (λ (xs : List ℕ). get_or xs 0 0) pair-bytes;
      }

  pair-later : (n k : ℕ) → (s.count ≡ n → ⊥) → Stands two n k l → Stands s n (suc k) (b ∷ d ∷ l)
  pair-later n k c r =
      let i = r.inside in
      record {
        at = suc (suc r.at);
        inside = omega arith;
        spot_is =
            ap spotted
            (scan-one (found n) s one b (d ∷ l) (found-not n s h e) (step-first s b p h x)
            ∙ scan-one (found n) one two d l (later-found n c) second-step)
            ∙ r.spot_is
            ∙ sym (moves-two r.at);
        high = r.high;
        low = r.low;
        byte = ap (λ (xs : List ℕ). get_or xs (suc k) 0) pair-bytes ∙ r.byte;
      }

  two-half : two.half ≡ false
  unfolding second
  two-half = refl

  two-error : two.error ≡ 0
  unfolding first second
  two-error = e

  two-count : two.count ≡ suc s.count
  unfolding first second
  two-count = let c = full-not s f in more-below s.count (omega arith)

-- A first digit that no second one follows is an error.
single-ends : (s : Scan) (b : ℕ) → full s ≡ false → s.error ≡ 0 → step s b ≡ first (digit_of b) s → error_of (scan full s (b ∷ [])) ≡ 0 → ⊥
unfolding scan error_of first
single-ends s b f e g z = two-not (sym (ap error_of (scan-one full s (first (digit_of b) s) b [] f g)) ∙ z)
  where
    two-not : error_of (scan full (first (digit_of b) s) []) ≡ 0 → ⊥
    two-not z = let w = rw (eq-eqb s.error 0 e) at z in omega arith

single-fails : (s : Scan) (b d : ℕ) (l : List ℕ) → full s ≡ false → s.comment ≡ false → step s b ≡ first (digit_of b) s → 16 ≤ digit_of d →
    error_of (scan full s (b ∷ d ∷ l)) ≡ 0 → ⊥
unfolding full step first failed
single-fails s b d l f p g x z =
    error-stays (step (first (digit_of b) s) d) l (fails p)
    (sym (ap error_of (scan-one full s (first (digit_of b) s) b (d ∷ l) f g ∙ scan-one full (first (digit_of b) s) _ d l (same f) refl)) ∙ z)
  where
    same : full s ≡ false → full (first (digit_of b) s) ≡ false
    same f = f

    fails : s.comment ≡ false → (step (first (digit_of b) s) d).error ≡ 0 → ⊥
    fails p w = let v = rw (p, digit_not d x) at w in omega arith

-- ---- by the length of the rest of the text

abbrev Law : ℕ → Type 0
Law f =
    (l : List ℕ) → length l ≤ f → (s : Scan) (n k : ℕ) → s.half ≡ false → s.error ≡ 0 → error_of (scan full s l) ≡ 0 →
    n ≡ s.count + k → k < length (bytes_from s l) → Stands s n k l

none_left : (s : Scan) (k : ℕ) → k < length (bytes_from s []) → ⊥
unfolding bytes_from
none_left s k m = omega arith

module _ (f : ℕ) (rest : Law f) (b : ℕ) (l : List ℕ) (j : suc (length l) ≤ suc f) (s : Scan) (n k : ℕ) (h : s.half ≡ false) (e : s.error ≡ 0)
    (z : error_of (scan full s (b ∷ l)) ≡ 0) (c : n ≡ s.count + k) (m : k < length (bytes_from s (b ∷ l))) (u : full s ≡ false) where
  law-skips : (t : Scan) → Skips s t b → Stands s n k (b ∷ l)
  law-skips t q =
      let a = q.count in
      skip-stands s t b l h e u q n k
      (rest l (omega arith) t n k q.half q.error (sym (ap error_of (skip-scan s t b l h e u q)) ∙ z) (omega arith)
      (rw (skip-bytes s t b l h e u q) at m))

  law-wrong : ((step s b).error ≡ 0 → ⊥) → ⊥
  law-wrong w = error-stays (step s b) l w (sym (ap error_of (scan-one full s (step s b) b l u refl)) ∙ z)

module _ (f : ℕ) (rest : Law f) (b d : ℕ) (l : List ℕ) (j : suc (suc (length l)) ≤ suc f) (s : Scan) (n : ℕ) (h : s.half ≡ false)
    (e : s.error ≡ 0) (z : error_of (scan full s (b ∷ d ∷ l)) ≡ 0) (u : full s ≡ false) (p : s.comment ≡ false)
    (x : digit_of b < 16) (y : digit_of d < 16) where
  law-pair : (k : ℕ) → n ≡ s.count + k → k < length (bytes_from s (b ∷ d ∷ l)) → Stands s n k (b ∷ d ∷ l)
  law-pair zero c m = pair-here s b d l h e u p x y n (omega arith)
  law-pair (suc k) c m =
      let a = two-count s b d l h e u p x y in
      let v : suc k < length ((digit_of b * 16 + digit_of d) ∷ bytes_from (second (first (digit_of b) s)) l) =
      rw (pair-bytes s b d l h e u p x y) at m in
      pair-later s b d l h e u p x y n k (λ q. omega arith)
      (rest l (omega arith) (second (first (digit_of b) s)) n k (two-half s b d l h e u p x y) (two-error s b d l h e u p x y)
      (sym (ap error_of (pair-scan s b d l h e u p x y)) ∙ z) (omega arith) (omega arith))

law-digit :
    (f : ℕ) → Law f → (b : ℕ) (l : List ℕ) → suc (length l) ≤ suc f → (s : Scan) (n k : ℕ) → s.half ≡ false → s.error ≡ 0 →
    error_of (scan full s (b ∷ l)) ≡ 0 → n ≡ s.count + k → k < length (bytes_from s (b ∷ l)) → full s ≡ false → s.comment ≡ false →
    digit_of b < 16 → Stands s n k (b ∷ l)
law-digit f rest b [] j s n k h e z c m u p x = absurd (single-ends s b u e (step-first s b p h x) z)
law-digit f rest b (d ∷ l) j s n k h e z c m u p x = by (ltb (digit_of d) 16) refl
  where
    by : (t : Bool) → ltb (digit_of d) 16 ≡ t → Stands s n k (b ∷ d ∷ l)
    by true g = law-pair f rest b d l j s n h e z u p x (ltb-true (digit_of d) 16 g) k c m
    by false g = absurd (single-fails s b d l u p (step-first s b p h x) (ltb-false (digit_of d) 16 g) z)

law-turn : (f : ℕ) → Law f → Law (suc f)
law-turn f rest [] j s n k h e z c m = absurd (none_left s k m)
law-turn f rest (b ∷ l) j s n k h e z c m = on (full s) refl (turn s b h e)
  where
    on : (t : Bool) → full s ≡ t → Turn s b → Stands s n k (b ∷ l)
    on true u w = let v = rw (bytes-stopped s (b ∷ l) u) at m in absurd (omega arith)
    on false u (skips t q) = law-skips f rest b l j s n k h e z c m u t q
    on false u (digit p x) = law-digit f rest b l j s n k h e z c m u p x
    on false u (wrong w) = absurd (law-wrong f rest b l j s n k h e z c m u w)

law-none : Law 0
law-none [] j s n k h e z c m = absurd (none_left s k m)
law-none (b ∷ l) j s n k h e z c m = absurd (omega arith)

law : (f : ℕ) → Law f
law zero = law-none
law (suc f) = law-turn f (law f)

-- ---- THE LAW

-- The line and the column of the p-th character of a text.
abbrev pub place_of : List ℕ → ℕ → Place
place_of text p = place_from 1 1 p text

pub record Shown (text : List ℕ) (n : ℕ) : Type 0 where
  pub at : ℕ
  pub inside : suc at < length text
  pub spot_is : spot_of text n ≡ place_of text at
  pub high : digit_of (get_or text at 0) < 16
  pub low : digit_of (get_or text (suc at) 0) < 16
  pub byte : get_or (bytes_of text) n 0 ≡ digit_of (get_or text at 0) * 16 + digit_of (get_or text (suc at) 0)

pub spot-shows : (text : List ℕ) (n : ℕ) → (decoded text).error ≡ 0 → n < length (bytes_of text) → Shown text n
unfolding decoded ending bytes_of spot_of start
spot-shows text n z m =
    let r = law (length text) text (le_refl (length text)) start n n refl refl z (omega arith) m in
    record { at = r.at; inside = r.inside; spot_is = r.spot_is; high = r.high; low = r.low; byte = r.byte }
