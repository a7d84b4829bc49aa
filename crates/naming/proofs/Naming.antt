-- Laws of names: a name's bytes are those of its row, the plain table holds the plain names, a name that was set is
-- found again and no other row is touched, and `same_text` is equality.
-- Assumes nothing.
use mathlib.Core.Path.{◌≡◌, refl, sym, ap, ◌∙◌}
use mathlib.Core.Logic.{◌≢◌}
use mathlib.Core.Bool.{Bool, true, false}
use mathlib.Core.List.{List, [], ◌∷◌, ◌++◌, append-nil}
use Prim.Native.Nat.{ℕ, zero, suc, ◌+◌, ◌-◌, ◌*◌, ◌/◌, ◌%◌, ◌≤◌, ◌<◌}
use native.Mathlib.Nat.{add-zero, zero-add}
use native.Mathlib.Numerals.{add-one}
use native.Mathlib.Omega.{arith}
use borrow.Author.Tests.{lt-ltb, le-ltb, ltb-true, ltb-false, eq-eqb, ne_eqb, eqb-true}
use lib.Dec.{ltb, eqb}
use lib.ListN.{length, get_or, set, take, drop, length-append, length-take, drop_of_length-le, get_or-eq_default, get_or-append}
use lib.Seq.{sets, sets-eq, drop-cons, get_or-take, get_or-append_seam, get_or-set_same, get_or-set_other}
use Rattle.values.specs.Values.{pick}
use Rattle.writing.specs.Ascii.{byte}
use Rattle.writing.specs.Numbers.{digit, digits, decimal}
use Rattle.writing.specs.Buffer.{Text, puts}
use Rattle.writing.proofs.Buffer.{puts-append, puts-nil}
use Rattle.writing.proofs.Numbers.{decimal-less, decimal-more, decimal-twenty}
use Rattle.naming.specs.Naming.{plain_mark, plain_number, plain_name, plain_byte, plain_bytes, plain_table}
use Rattle.naming.specs.Naming.{name_from, name_of, plainly, padded, renamed, same_text, within, texts}

-- ---- plain_mark, plain_number: inputs, registers, wires

module _ (inputs registers v : ℕ) where
  pub plain_mark-input : v < inputs → plain_mark inputs registers v ≡ byte "i"
  unfolding plain_mark
  plain_mark-input h = rw (lt-ltb v inputs h)

  pub plain_mark-register : inputs ≤ v → v < inputs + registers → plain_mark inputs registers v ≡ byte "r"
  unfolding plain_mark
  plain_mark-register h l = rw (le-ltb v inputs h, lt-ltb v (inputs + registers) l)

  pub plain_mark-wire : inputs ≤ v → inputs + registers ≤ v → plain_mark inputs registers v ≡ byte "w"
  unfolding plain_mark
  plain_mark-wire h l = rw (le-ltb v inputs h, le-ltb v (inputs + registers) l)

  pub plain_number-input : v < inputs → plain_number inputs registers v ≡ v
  unfolding plain_number
  plain_number-input h = rw (lt-ltb v inputs h)

  pub plain_number-register : inputs ≤ v → v < inputs + registers → plain_number inputs registers v ≡ v - inputs
  unfolding plain_number
  plain_number-register h l = rw (le-ltb v inputs h, lt-ltb v (inputs + registers) l)

  pub plain_number-wire : inputs ≤ v → inputs + registers ≤ v
      → plain_number inputs registers v ≡ v - (inputs + registers)
  unfolding plain_number
  plain_number-wire h l = rw (le-ltb v inputs h, le-ltb v (inputs + registers) l)

  pub plain_number-≤ : plain_number inputs registers v ≤ v
  unfolding plain_number
  plain_number-≤ = by (ltb v inputs) (ltb v (inputs + registers))
    where
      by : (x y : Bool) → pick x v (pick y (v - inputs) (v - (inputs + registers))) ≤ v
      by true y = omega arith
      by false true = omega arith
      by false false = omega arith

-- ---- a letter and a number below 100, byte by byte

module _ (mark n j : ℕ) where
  pub marked-first : j ≡ 0 → mark ≡ get_or (mark ∷ decimal n) j 0
  marked-first e = rw e refl

  marked-less : n < 10 → get_or (mark ∷ decimal n) j 0 ≡ get_or (mark ∷ digit n ∷ []) j 0
  marked-less h = ap (λ t. get_or (mark ∷ t) j 0) (decimal-less n h)

  pub marked-less-one : n < 10 → j ≡ 1 → digit n ≡ get_or (mark ∷ decimal n) j 0
  marked-less-one h e = sym (marked-less h ∙ ap (λ i. get_or (mark ∷ digit n ∷ []) i 0) e)

  pub marked-less-past : n < 10 → 2 ≤ j → 0 ≡ get_or (mark ∷ decimal n) j 0
  marked-less-past h l = sym (marked-less h ∙ get_or-eq_default (mark ∷ digit n ∷ []) 0 l)

  marked_more : 10 ≤ n → n < 100
      → get_or (mark ∷ decimal n) j 0 ≡ get_or (mark ∷ digit (n / 10) ∷ digit (n % 10) ∷ []) j 0
  marked_more h l =
      ap (λ t. get_or (mark ∷ t) j 0)
      (decimal-more n h (omega arith)
      ∙ ap (λ t. t ++ (digit (n % 10) ∷ [])) (decimal-less (n / 10) (omega arith)))

  pub marked-more-one : 10 ≤ n → n < 100 → j ≡ 1 → digit (n / 10) ≡ get_or (mark ∷ decimal n) j 0
  marked-more-one h l e = sym (marked_more h l ∙ ap (λ i. get_or (mark ∷ digit (n / 10) ∷ digit (n % 10) ∷ []) i 0) e)

  pub marked-more-two : 10 ≤ n → n < 100 → j ≡ 2 → digit (n % 10) ≡ get_or (mark ∷ decimal n) j 0
  marked-more-two h l e = sym (marked_more h l ∙ ap (λ i. get_or (mark ∷ digit (n / 10) ∷ digit (n % 10) ∷ []) i 0) e)

  pub marked-more-past : 10 ≤ n → n < 100 → 3 ≤ j → 0 ≡ get_or (mark ∷ decimal n) j 0
  marked-more-past h l k =
      sym (marked_more h l ∙ get_or-eq_default (mark ∷ digit (n / 10) ∷ digit (n % 10) ∷ []) 0 k)

-- ---- name_from

pub name_from-end : (k : ℕ) (l : List ℕ) (i : ℕ) → get_or l i 0 ≡ 0 → name_from k l i ≡ []
unfolding name_from
name_from-end zero l i e = refl
name_from-end (suc k) l i e = rw (eq-eqb (get_or l i 0) 0 e)

name_from-none : (l : List ℕ) (i : ℕ) → name_from 0 l i ≡ []
unfolding name_from
name_from-none l i = refl

pub name_from-more : (k : ℕ) (l : List ℕ) (i : ℕ) → get_or l i 0 ≢ 0
    → name_from (suc k) l i ≡ get_or l i 0 ∷ name_from k l (i + 1)
unfolding name_from
name_from-more k l i h = rw (ne_eqb (get_or l i 0) 0 h)

pub length-name_from : (k : ℕ) (l : List ℕ) (i : ℕ) → length (name_from k l i) ≤ k
unfolding name_from
length-name_from zero l i = omega arith
length-name_from (suc k) l i = by (eqb (get_or l i 0) 0) (length-name_from k l (i + 1))
  where
    by : (x : Bool) → length (name_from k l (i + 1)) ≤ k
        → length (pick x [] (get_or l i 0 ∷ name_from k l (i + 1))) ≤ suc k
    by true rest = omega arith
    by false rest = omega arith

-- Byte j of a name is the byte of the table there.
pub get_d-name_from : (k : ℕ) (l : List ℕ) (i j : ℕ) → j < length (name_from k l i)
    → get_or (name_from k l i) j 0 ≡ get_or l (i + j) 0
unfolding name_from
get_d-name_from zero l i j h = absurd (omega arith)
get_d-name_from (suc k) l i j h = by (eqb (get_or l i 0) 0) j (λ m g. get_d-name_from k l (i + 1) m g) h
  where
    by : (x : Bool) (j : ℕ)
        → ((m : ℕ) → m < length (name_from k l (i + 1)) → get_or (name_from k l (i + 1)) m 0 ≡ get_or l (i + 1 + m) 0)
        → j < length (pick x [] (get_or l i 0 ∷ name_from k l (i + 1)))
        → get_or (pick x [] (get_or l i 0 ∷ name_from k l (i + 1))) j 0 ≡ get_or l (i + j) 0
    by true j rest h = absurd (omega arith)
    by false zero rest h = ap (λ m. get_or l m 0) (sym (add-zero i))
    by false (suc j) rest h =
        let e : i + 1 + j ≡ i + suc j = omega arith in
        rest j (omega arith) ∙ ap (λ m. get_or l m 0) e

-- A text without 0 whose bytes stand in the table, 0 behind it.
pub name_from-is : (k : ℕ) (l : List ℕ) (i : ℕ) (t : List ℕ) → length t ≤ k
    → ((j : ℕ) → j < length t → get_or t j 0 ≢ 0)
    → ((j : ℕ) → j < k → get_or l (i + j) 0 ≡ get_or t j 0)
    → name_from k l i ≡ t
name_from-is zero l i [] h some same = name_from-none l i
name_from-is zero l i (b ∷ t) h some same = absurd (omega arith)
name_from-is (suc k) l i [] h some same =
    name_from-end (suc k) l i (ap (λ m. get_or l m 0) (sym (add-zero i)) ∙ same 0 (omega arith))
name_from-is (suc k) l i (b ∷ t) h some same =
    let e : get_or l i 0 ≡ b = ap (λ m. get_or l m 0) (sym (add-zero i)) ∙ same 0 (omega arith) in
    let rest =
    name_from-is k l (i + 1) t (omega arith) (λ j g. some (suc j) (omega arith))
    (λ j g. let z : i + 1 + j ≡ i + suc j = omega arith in ap (λ m. get_or l m 0) z ∙ same (suc j) (omega arith)) in
    name_from-more k l i (λ z. some 0 (omega arith) (sym e ∙ z)) ∙ ap (λ x. x ∷ name_from k l (i + 1)) e ∙ ap (λ x. b ∷ x) rest

-- ---- name_of

pub name_of-row : (l : List ℕ) (v : ℕ) → v < 80 → name_of l v ≡ name_from 32 l (v * 32)
unfolding name_of
name_of-row l v h = rw (lt-ltb v 80 h)

-- Past the table there is no name.
pub name_of-past : (l : List ℕ) (v : ℕ) → 80 ≤ v → name_of l v ≡ []
unfolding name_of
name_of-past l v h = rw (le-ltb v 80 h)

pub length-name_of : (l : List ℕ) (v : ℕ) → v < 80 → length (name_of l v) ≤ 32
length-name_of l v h = rw (name_of-row l v h) (length-name_from 32 l (v * 32))

pub get_d-name_of : (l : List ℕ) (v j : ℕ) → v < 80 → j < length (name_of l v)
    → get_or (name_of l v) j 0 ≡ get_or l (v * 32 + j) 0
get_d-name_of l v j h g = rw (name_of-row l v h) (get_d-name_from 32 l (v * 32) j (rw (name_of-row l v h) at g))

-- The length that is counted: n bytes passed, and the rest to come.
module _ (l : List ℕ) (v : ℕ) (row : v < 80) where
  pub count_none : 0 + length (name_from 32 l (v * 32 + 0)) ≡ length (name_of l v)
  count_none = rw (zero-add, add-zero, name_of-row l v row)

  pub count-end : (n : ℕ) → n + length (name_from (32 - n) l (v * 32 + n)) ≡ length (name_of l v)
      → get_or l (v * 32 + n) 0 ≡ 0 → n ≡ length (name_of l v)
  count-end n h e = let z = ap length (name_from-end (32 - n) l (v * 32 + n) e) in omega (arith, z)

  pub count-all : (n : ℕ) → n + length (name_from (32 - n) l (v * 32 + n)) ≡ length (name_of l v)
      → 32 ≤ n → n ≡ length (name_of l v)
  count-all n h e = omega (arith, length-name_from (32 - n) l (v * 32 + n))

  pub count-more : (n : ℕ) → n + length (name_from (32 - n) l (v * 32 + n)) ≡ length (name_of l v)
      → n < 32 → get_or l (v * 32 + n) 0 ≢ 0
      → n + 1 + length (name_from (32 - (n + 1)) l (v * 32 + (n + 1))) ≡ length (name_of l v)
  count-more n h k e =
      let s : 32 - n ≡ suc (32 - (n + 1)) = omega arith in
      let a : v * 32 + n + 1 ≡ v * 32 + (n + 1) = omega arith in
      let z =
      ap (λ m. length (name_from m l (v * 32 + n))) s
      ∙ ap length (name_from-more (32 - (n + 1)) l (v * 32 + n) e)
      ∙ ap (λ m. suc (length (name_from (32 - (n + 1)) l m))) a in
      omega (arith, z)

-- ---- plain_name: no byte of it is 0

digits-ascii : (f n j : ℕ) → j < length (digits f n) → 48 ≤ get_or (digits f n) j 0
unfolding digits
digits-ascii zero n j h = absurd (omega arith)
digits-ascii (suc f) n j h = by (ltb n 10) (λ m g. digits-ascii f (n / 10) m g) h
  where
    last : (a : List ℕ) (d : ℕ) → ((m : ℕ) → m < length a → 48 ≤ get_or a m 0) → 48 ≤ d
        → j < length (a ++ (d ∷ [])) → 48 ≤ get_or (a ++ (d ∷ [])) j 0
    last a d rest k h = at (ltb j (length a)) refl
      where
        at : (x : Bool) → ltb j (length a) ≡ x → 48 ≤ get_or (a ++ (d ∷ [])) j 0
        at true q = let l = ltb-true j (length a) q in rw (get_or-append a (d ∷ []) 0 j l) (rest j l)
        at false q =
            let l = ltb-false j (length a) q in
            let e : length a ≡ j = omega (arith, length-append a (d ∷ [])) in
            rw (sym e, get_or-append_seam a d [] 0) k

    one : (d : ℕ) → 48 ≤ d → j < length (d ∷ []) → 48 ≤ get_or (d ∷ []) j 0
    one d k h = let e : j ≡ 0 = omega arith in rw e k

    by : (x : Bool) → ((m : ℕ) → m < length (digits f (n / 10)) → 48 ≤ get_or (digits f (n / 10)) m 0)
        → j < length (pick x (digit n ∷ []) (digits f (n / 10) ++ (digit (n % 10) ∷ [])))
        → 48 ≤ get_or (pick x (digit n ∷ []) (digits f (n / 10) ++ (digit (n % 10) ∷ []))) j 0
    by true rest h = one (digit n) (omega arith) h
    by false rest h = last (digits f (n / 10)) (digit (n % 10)) rest (omega arith) h

plain_mark-some : (inputs registers v : ℕ) → plain_mark inputs registers v ≢ 0
unfolding plain_mark
plain_mark-some inputs registers v = by (ltb v inputs) (ltb v (inputs + registers))
  where
    by : (x y : Bool) → pick x (byte "i") (pick y (byte "r") (byte "w")) ≢ 0
    by true y e = omega arith
    by false true e = omega arith
    by false false e = omega arith

plain_name-some : (inputs registers v j : ℕ) → j < length (plain_name inputs registers v)
    → get_or (plain_name inputs registers v) j 0 ≢ 0
unfolding plain_name decimal
plain_name-some inputs registers v zero h = plain_mark-some inputs registers v
plain_name-some inputs registers v (suc j) h =
    let l = digits-ascii 20 (plain_number inputs registers v) j (omega arith) in
    λ e. omega arith

length-plain_name : (inputs registers v : ℕ) → length (plain_name inputs registers v) ≤ 32
unfolding plain_name
length-plain_name inputs registers v = omega (arith, decimal-twenty (plain_number inputs registers v))

-- ---- plain_table

length-plain_bytes : (inputs registers n k : ℕ) → length (plain_bytes inputs registers n k) ≡ n
unfolding plain_bytes
length-plain_bytes inputs registers zero k = refl
length-plain_bytes inputs registers (suc n) k = ap suc (length-plain_bytes inputs registers n (k + 1))

get_d-plain_bytes : (inputs registers n k j : ℕ) → j < n
    → get_or (plain_bytes inputs registers n k) j 0 ≡ plain_byte inputs registers (k + j)
unfolding plain_bytes
get_d-plain_bytes inputs registers zero k j h = absurd (omega arith)
get_d-plain_bytes inputs registers (suc n) k zero h = ap (plain_byte inputs registers) (sym (add-zero k))
get_d-plain_bytes inputs registers (suc n) k (suc j) h =
    let e : k + 1 + j ≡ k + suc j = omega arith in
    get_d-plain_bytes inputs registers n (k + 1) j (omega arith) ∙ ap (plain_byte inputs registers) e

pub length-plain_table : (inputs registers : ℕ) → length (plain_table inputs registers) ≡ 2560
unfolding plain_table
length-plain_table inputs registers = length-plain_bytes inputs registers 2560 0

pub get_d-plain_table : (inputs registers k : ℕ) → k < 2560
    → get_or (plain_table inputs registers) k 0 ≡ plain_byte inputs registers k
unfolding plain_table
get_d-plain_table inputs registers k h =
    get_d-plain_bytes inputs registers 2560 0 k h ∙ ap (plain_byte inputs registers) (zero-add k)

-- The plain table holds the plain names.
pub name_of-plain : (inputs registers v : ℕ) → v < 80
    → name_of (plain_table inputs registers) v ≡ plain_name inputs registers v
unfolding plain_byte
name_of-plain inputs registers v h =
    name_of-row (plain_table inputs registers) v h
    ∙ name_from-is 32 (plain_table inputs registers) (v * 32) (plain_name inputs registers v)
    (length-plain_name inputs registers v) (plain_name-some inputs registers v) same
  where
    same : (j : ℕ) → j < 32 → get_or (plain_table inputs registers) (v * 32 + j) 0 ≡ get_or (plain_name inputs registers v) j 0
    same j l =
        let d : (v * 32 + j) / 32 ≡ v = omega arith in
        let m : (v * 32 + j) % 32 ≡ j = omega arith in
        get_d-plain_table inputs registers (v * 32 + j) (omega arith)
        ∙ ap (λ u. get_or (plain_name inputs registers u) ((v * 32 + j) % 32) 0) d
        ∙ ap (λ u. get_or (plain_name inputs registers v) u 0) m

-- ---- sets: one byte of a row stored, and the rest to come

pub sets-step : (l row : List ℕ) (i j b : ℕ) → j < length row → b ≡ get_or row j 0
    → sets (set l (i + j) b) (i + (j + 1)) (drop (j + 1) row) ≡ sets l (i + j) (drop j row)
sets-step l row i j b h e =
    let s : i + (j + 1) ≡ suc (i + j) = omega arith in
    rw (s, add-one, drop-cons row j 0 h, e)

-- Nothing stored out of a list.
sets-none : (l : List ℕ) (i j : ℕ) (row : List ℕ) → length row ≤ j → sets l i (drop j row) ≡ l
sets-none l i j row h = rw (drop_of_length-le row h)

get_d-sets-below : (l : List ℕ) (i : ℕ) (vs : List ℕ) (j : ℕ) → j < i → get_or (sets l i vs) j 0 ≡ get_or l j 0
get_d-sets-below l i [] j h = refl
get_d-sets-below l i (b ∷ vs) j h =
    get_d-sets-below (set l i b) (suc i) vs j (omega arith) ∙ get_or-set_other l i j b 0 (λ e. omega arith)

get_d-sets-above : (l : List ℕ) (i : ℕ) (vs : List ℕ) (j : ℕ) → i + length vs ≤ j → get_or (sets l i vs) j 0 ≡ get_or l j 0
get_d-sets-above l i [] j h = refl
get_d-sets-above l i (b ∷ vs) j h =
    get_d-sets-above (set l i b) (suc i) vs j (omega arith) ∙ get_or-set_other l i j b 0 (λ e. omega arith)

get_d-sets-in : (l : List ℕ) (i : ℕ) (vs : List ℕ) (j : ℕ) → j < length vs → i + j < length l
    → get_or (sets l i vs) (i + j) 0 ≡ get_or vs j 0
get_d-sets-in l i [] j h k = absurd (omega arith)
get_d-sets-in l i (b ∷ vs) zero h k =
    let e : i + 0 ≡ i = omega arith in
    rw e (get_d-sets-below (set l i b) (suc i) vs i (omega arith) ∙ get_or-set_same l i b 0 (omega arith))
get_d-sets-in l i (b ∷ vs) (suc j) h k =
    let e : i + suc j ≡ suc i + j = omega arith in
    rw e (get_d-sets-in (set l i b) (suc i) vs j (omega arith) (rw lib.ListN.length-set (omega arith)))

-- ---- plain_table, stored byte by byte

module _ (inputs registers : ℕ) where
  pub plainly-whole : (l : List ℕ) → length l ≡ 2560 → plainly l inputs registers ≡ plain_table inputs registers
  unfolding plainly
  plainly-whole l e = all l (plain_table inputs registers) (e ∙ sym (length-plain_table inputs registers))
    where
      all : (l t : List ℕ) → length l ≡ length t → sets l 0 t ≡ t
      all l t e =
          sets-eq t l 0 (omega arith)
          ∙ rw (drop_of_length-le l {i = 0 + length t} (omega arith)) (append-nil t)

  pub plain-start : (l : List ℕ) → sets l 0 (drop 0 (plain_table inputs registers)) ≡ plainly l inputs registers
  unfolding plainly
  plain-start l = refl

  -- byte k as the code makes it
  pub plain_step : (l : List ℕ) (k mark n b : ℕ) → k < 2560
      → mark ≡ plain_mark inputs registers (k / 32) → n ≡ plain_number inputs registers (k / 32)
      → b ≡ get_or (mark ∷ decimal n) (k % 32) 0
      → sets (set l k b) (k + 1) (drop (k + 1) (plain_table inputs registers))
      ≡ sets l k (drop k (plain_table inputs registers))
  unfolding plain_byte plain_name
  plain_step l k mark n b h p q e =
      let t = plain_table inputs registers in
      let s = sets-step l t 0 k b (omega (arith, length-plain_table inputs registers))
      (e ∙ ap (λ x. get_or (x ∷ decimal n) (k % 32) 0) p
      ∙ ap (λ x. get_or (plain_mark inputs registers (k / 32) ∷ decimal x) (k % 32) 0) q
      ∙ sym (get_d-plain_table inputs registers k h)) in
      simp zero-add at s

  pub plain_end : (l : List ℕ) (k : ℕ) → 2560 ≤ k → sets l k (drop k (plain_table inputs registers)) ≡ l
  plain_end l k h =
      sets-none l k k (plain_table inputs registers) (omega (arith, length-plain_table inputs registers))

-- ---- padded, renamed

pub length-padded : (n : ℕ) (t : List ℕ) → length (padded n t) ≡ n
unfolding padded
length-padded zero t = refl
length-padded (suc n) [] = ap suc (length-padded n [])
length-padded (suc n) (b ∷ t) = ap suc (length-padded n t)

get_d-padded : (n : ℕ) (t : List ℕ) (j : ℕ) → j < n → get_or (padded n t) j 0 ≡ get_or t j 0
unfolding padded
get_d-padded zero t j h = absurd (omega arith)
get_d-padded (suc n) [] zero h = refl
get_d-padded (suc n) [] (suc j) h = get_d-padded n [] j (omega arith)
get_d-padded (suc n) (b ∷ t) zero h = refl
get_d-padded (suc n) (b ∷ t) (suc j) h = get_d-padded n t j (omega arith)

-- The three ways to read byte j of a row.
module _ (name : List ℕ) (j : ℕ) where
  pub row-name : j < 31 → j < length name → get_or (padded 32 (take 31 name)) j 0 ≡ get_or name j 0
  row-name h l = get_d-padded 32 (take 31 name) j (omega arith) ∙ get_or-take 31 name j 0 h

  pub row-end : j < 31 → length name ≤ j → get_or (padded 32 (take 31 name)) j 0 ≡ 0
  row-end h l =
      get_d-padded 32 (take 31 name) j (omega arith) ∙ get_or-take 31 name j 0 h ∙ get_or-eq_default name 0 l

  pub row_last : 31 ≤ j → j < 32 → get_or (padded 32 (take 31 name)) j 0 ≡ 0
  row_last h l =
      get_d-padded 32 (take 31 name) j l
      ∙ get_or-eq_default (take 31 name) 0 (omega (arith, length-take 31 name))

pub renamed-row : (l : List ℕ) (v : ℕ) (name : List ℕ) → v < 80
    → renamed l v name ≡ sets l (v * 32) (padded 32 (take 31 name))
unfolding renamed
renamed-row l v name h = rw (lt-ltb v 80 h)

-- Past the table nothing changes.
pub renamed-past : (l : List ℕ) (v : ℕ) (name : List ℕ) → 80 ≤ v → renamed l v name ≡ l
unfolding renamed
renamed-past l v name h = rw (le-ltb v 80 h)

-- The row's bytes before the first is stored, and after the last.
pub row-start : (l : List ℕ) (v : ℕ) (name : List ℕ) → v < 80
    → sets l (v * 32 + 0) (drop 0 (padded 32 (take 31 name))) ≡ renamed l v name
row-start l v name h = rw (add-zero, renamed-row l v name h)

pub row_done : (l : List ℕ) (v j : ℕ) (name : List ℕ) → 32 ≤ j
    → sets l (v * 32 + j) (drop j (padded 32 (take 31 name))) ≡ l
row_done l v j name h =
    sets-none l (v * 32 + j) j (padded 32 (take 31 name)) (omega (arith, length-padded 32 (take 31 name)))

-- A name without 0 that was set is found again, cut at 31 bytes.
pub name_of-renamed : (l : List ℕ) (v : ℕ) (name : List ℕ) → length l ≡ 2560 → v < 80
    → ((j : ℕ) → j < length (take 31 name) → get_or (take 31 name) j 0 ≢ 0)
    → name_of (renamed l v name) v ≡ take 31 name
name_of-renamed l v name e h some =
    name_of-row (renamed l v name) v h
    ∙ ap (λ x. name_from 32 x (v * 32)) (renamed-row l v name h)
    ∙ name_from-is 32 (sets l (v * 32) (padded 32 (take 31 name))) (v * 32) (take 31 name)
    (omega (arith, length-take 31 name)) some same
  where
    same : (j : ℕ) → j < 32 → get_or (sets l (v * 32) (padded 32 (take 31 name))) (v * 32 + j) 0 ≡ get_or (take 31 name) j 0
    same j k =
        get_d-sets-in l (v * 32) (padded 32 (take 31 name)) j (rw length-padded k) (omega arith)
        ∙ get_d-padded 32 (take 31 name) j k

-- Every other row keeps its name.
name_from-alike : (k : ℕ) (l m : List ℕ) (i : ℕ) → ((j : ℕ) → j < k → get_or l (i + j) 0 ≡ get_or m (i + j) 0)
    → name_from k l i ≡ name_from k m i
unfolding name_from
name_from-alike zero l m i same = refl
name_from-alike (suc k) l m i same =
    let e : get_or l i 0 ≡ get_or m i 0 =
    ap (λ n. get_or l n 0) (sym (add-zero i)) ∙ same 0 (omega arith) ∙ ap (λ n. get_or m n 0) (add-zero i) in
    let rest =
    name_from-alike k l m (i + 1)
    (λ j g. let z : i + 1 + j ≡ i + suc j = omega arith in
    ap (λ n. get_or l n 0) z ∙ same (suc j) (omega arith) ∙ ap (λ n. get_or m n 0) (sym z)) in
    rw (e, rest)

pub name_of-renamed-other : (l : List ℕ) (v u : ℕ) (name : List ℕ) → u ≢ v → name_of (renamed l v name) u ≡ name_of l u
unfolding name_of
name_of-renamed-other l v u name d = by (ltb v 80) refl
  where
    row : List ℕ
    row = padded 32 (take 31 name)

    apart : (j : ℕ) → j < 32 → get_or (sets l (v * 32) row) (u * 32 + j) 0 ≡ get_or l (u * 32 + j) 0
    apart j k = side (ltb u v) refl
      where
        side : (x : Bool) → ltb u v ≡ x → get_or (sets l (v * 32) row) (u * 32 + j) 0 ≡ get_or l (u * 32 + j) 0
        side true q = let h = ltb-true u v q in get_d-sets-below l (v * 32) row (u * 32 + j) (omega arith)
        side false q =
            let h = ltb-false u v q in
            get_d-sets-above l (v * 32) row (u * 32 + j) (omega (arith, d, length-padded 32 (take 31 name)))

    by : (x : Bool) → ltb v 80 ≡ x
        → pick (ltb u 80) (name_from 32 (renamed l v name) (u * 32)) [] ≡ pick (ltb u 80) (name_from 32 l (u * 32)) []
    by true q =
        ap (λ x. pick (ltb u 80) (name_from 32 x (u * 32)) []) (renamed-row l v name (ltb-true v 80 q))
        ∙ ap (λ x. pick (ltb u 80) x []) (name_from-alike 32 (sets l (v * 32) row) l (u * 32) apart)
    by false q = ap (λ x. pick (ltb u 80) (name_from 32 x (u * 32)) []) (renamed-past l v name (ltb-false v 80 q))

-- ---- within

pub within-less : (n : ℕ) → n < 80 → within n ≡ n
unfolding within
within-less n h = rw (lt-ltb n 80 h)

pub within_all : (n : ℕ) → 80 ≤ n → within n ≡ 80
unfolding within
within_all n h = rw (le-ltb n 80 h)

pub within-80 : (n : ℕ) → within n ≤ 80
unfolding within
within-80 n = by (ltb n 80) refl
  where
    by : (x : Bool) → ltb n 80 ≡ x → pick x n 80 ≤ 80
    by true q = let h = ltb-true n 80 q in omega arith
    by false q = omega arith

-- ---- texts: one variable's text put, and the rest to come

pub texts-next : (text : ℕ → List ℕ) (t u : Text) (end v : ℕ) → v < end → u ≡ puts t (text v)
    → puts u (texts text (end - (v + 1)) (v + 1)) ≡ puts t (texts text (end - v) v)
unfolding texts
texts-next text t u end v h e =
    let k : end - v ≡ suc (end - (v + 1)) = omega arith in
    ap (λ x. puts x (texts text (end - (v + 1)) (v + 1))) e
    ∙ sym (puts-append t (text v) (texts text (end - (v + 1)) (v + 1)))
    ∙ ap (λ n. puts t (texts text n v)) (sym k)

pub texts-done : (text : ℕ → List ℕ) (t : Text) (end v : ℕ) → end ≤ v → puts t (texts text (end - v) v) ≡ t
unfolding texts
texts-done text t end v h =
    let k : end - v ≡ 0 = omega arith in
    ap (λ n. puts t (texts text n v)) k ∙ puts-nil t

-- ---- same_text

pub same_text-length : (a b : List ℕ) → length a ≢ length b → same_text a b ≡ false
unfolding same_text
same_text-length [] [] h = absurd (h refl)
same_text-length [] (y ∷ b) h = refl
same_text-length (x ∷ a) [] h = refl
same_text-length (x ∷ a) (y ∷ b) h = by (eqb x y) (same_text-length a b (λ e. h (ap suc e)))
  where
    by : (t : Bool) → same_text a b ≡ false → pick t (same_text a b) false ≡ false
    by true e = e
    by false e = refl

pub same_text-step : (a b : List ℕ) (i : ℕ) → i < length a → i < length b → get_or a i 0 ≡ get_or b i 0
    → same_text (drop (i + 1) a) (drop (i + 1) b) ≡ same_text (drop i a) (drop i b)
unfolding same_text
same_text-step a b i h k e =
    rw (add-one, drop-cons a i 0 h, drop-cons b i 0 k, eq-eqb (get_or a i 0) (get_or b i 0) e)

pub same_text-differ : (a b : List ℕ) (i : ℕ) → i < length a → i < length b → get_or a i 0 ≢ get_or b i 0
    → same_text (drop i a) (drop i b) ≡ false
unfolding same_text
same_text-differ a b i h k e =
    rw (drop-cons a i 0 h, drop-cons b i 0 k, ne_eqb (get_or a i 0) (get_or b i 0) e)

-- Nothing left of either.
pub same_text-rest : (a b : List ℕ) (i : ℕ) → length a ≤ i → length b ≤ i → same_text (drop i a) (drop i b) ≡ true
unfolding same_text
same_text-rest a b i h k = rw (drop_of_length-le a h, drop_of_length-le b k)

pub same_text-refl : (a : List ℕ) → same_text a a ≡ true
unfolding same_text
same_text-refl [] = refl
same_text-refl (x ∷ a) = rw (eq-eqb x x refl) (same_text-refl a)

pub same_text→≡ : (a b : List ℕ) → same_text a b ≡ true → a ≡ b
unfolding same_text
same_text→≡ [] [] h = refl
same_text→≡ [] (y ∷ b) h = cc
same_text→≡ (x ∷ a) [] h = cc
same_text→≡ (x ∷ a) (y ∷ b) h = by (eqb x y) refl h (λ g. same_text→≡ a b g)
  where
    by : (t : Bool) → eqb x y ≡ t → pick t (same_text a b) false ≡ true → (same_text a b ≡ true → a ≡ b) → x ∷ a ≡ y ∷ b
    by true q h rest = let e = eqb-true x y q in let r = rest h in cc
    by false q h rest = cc
