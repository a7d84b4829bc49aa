-- Laws of names by their places: how a word is compared, and where it is first among those before. Assumes nothing.
use mathlib.Core.Path.{◌≡◌, refl, sym, ap, ◌∙◌}
use mathlib.Core.Bool.{Bool, true, false, not}
use mathlib.Core.List.{List, [], ◌∷◌, ◌++◌, map, append_assoc}
use Prim.Native.Nat.{ℕ, zero, suc, ◌+◌, ◌-◌, ◌<◌, ◌≤◌}
use native.Mathlib.Numerals.{add-one}
use native.Mathlib.Omega.{arith}
use borrow.Author.Tests.{eq-eqb, ne_eqb}
use lib.Dec.{eqb}
use lib.ListN.{length, get_or, take, drop, length-map, length-take, drop_of_length-le}
use lib.Seq.{drop-cons, get_or-drop, get_or-take, length-take-le}
use Rattle.values.specs.Values.{pick}
use Rattle.naming.specs.Naming.{same_text}
use Rattle.naming.proofs.Naming.{same_text-refl}
use Rattle.verilog_tokens.specs.declared.Class.TheVariants.{Word}
use Rattle.verilog_tokens.specs.Characters.{span, run_end}
use Rattle.verilog_tokens.specs.Tokens.{Token, terminal, name, number, known, unknown, broken, Name}
use Rattle.verilog_tokens.specs.Table.{name_in, names_in, place_of, id_of, number_in}
use Rattle.verilog_tokens.proofs.Pieces.{run-size}
use Rattle.verilog_scan.specs.Scan.{spelled_at, differs, name_at, names_at}

-- ---- spelled_at

module _ (text : List ℕ) (at : ℕ) where
  pub spelled-run : (end : ℕ) → end ≡ run_end Word text at → take (end - at) (drop at text) ≡ spelled_at text at
  unfolding spelled_at
  spelled-run end q = ap (λ n. take n (drop at text)) (run-size Word text at end q)

  pub spelled-past : (word : List ℕ) → length text ≤ at → eqb (length word) 0 ≡ same_text (spelled_at text at) word
  unfolding spelled_at span same_text
  spelled-past word l = rw (drop_of_length-le text l) (by word)
    where
      by : (w : List ℕ) → eqb (length w) 0 ≡ same_text [] w
      by [] = refl
      by (b ∷ w) = ne_eqb (suc (length w)) 0 (λ e. omega arith)

-- ---- differs

other-first : (m : ℕ) (d : List ℕ) (w : ℕ) (ws : List ℕ) → eqb (get_or d 0 0) w ≡ false → same_text (take m d) (w ∷ ws) ≡ false
unfolding same_text
other-first zero d w ws e = refl
other-first (suc m) [] w ws e = refl
other-first (suc m) (x ∷ d) w ws e = rw e

untrue : false ≡ true → ⊥
untrue q = let z : ◌≡◌ {A = ℕ} 0 1 = cc in omega arith

module _ (text : List ℕ) (at : ℕ) where
  at_first : get_or (drop at text) 0 0 ≡ get_or text at 0
  at_first = get_or-drop at text 0 0 ∙ ap (λ n. get_or text n 0) {x = at + 0} {y = at} (omega arith)

  pub differs_none : (word : List ℕ) → length word ≡ 0 → false ≡ differs text at word
  unfolding differs
  differs_none word e = rw (eq-eqb (length word) 0 e)

  pub differs-some : (word : List ℕ) → (length word ≡ 0 → ⊥) → not (eqb (get_or text at 0) (get_or word 0 0)) ≡ differs text at word
  unfolding differs
  differs-some word f = rw (ne_eqb (length word) 0 f)

  pub differs-other : (word : List ℕ) → differs text at word ≡ true → false ≡ same_text (spelled_at text at) word
  unfolding spelled_at
  differs-other [] e = absurd (untrue (differs_none [] refl ∙ e))
  differs-other (w ∷ ws) e = by (eqb (get_or text at 0) w) (differs-some (w ∷ ws) (λ z. omega arith) ∙ e) refl
    where
      by : (b : Bool) → not (eqb (get_or text at 0) w) ≡ true → eqb (get_or text at 0) w ≡ b
          → false ≡ same_text (take (span Word (drop at text)) (drop at text)) (w ∷ ws)
      by true p q = absurd (untrue (rw q at p))
      by false p q = sym (other-first (span Word (drop at text)) (drop at text) w ws (ap (λ x. eqb x w) at_first ∙ q))

-- ---- place_of, along a list of places

module _ (text word places : List ℕ) (i : ℕ) where
  abbrev pub Sought : Type 0
  Sought = i + place_of (names_at text (drop i places)) word ≡ place_of (names_at text places) word

  pub sought-here : Sought → i < length places → same_text (spelled_at text (get_or places i 0)) word ≡ true →
      i ≡ place_of (names_at text places) word
  unfolding names_at place_of name_at
  sought-here p l e =
      let z : place_of (names_at text (drop i places)) word ≡ 0 = rw (drop-cons places i 0 l, e) in
      omega arith

  pub sought-next : Sought → i < length places → same_text (spelled_at text (get_or places i 0)) word ≡ false →
      i + 1 + place_of (names_at text (drop (i + 1) places)) word ≡ place_of (names_at text places) word
  unfolding names_at place_of name_at
  sought-next p l e =
      let z : place_of (names_at text (drop i places)) word ≡ suc (place_of (names_at text (drop (i + 1) places)) word) =
      rw (drop-cons places i 0 l, e, add-one i) in
      omega arith

  pub sought-done : Sought → length places ≤ i → i ≡ place_of (names_at text places) word
  unfolding names_at place_of
  sought-done p l =
      let z : place_of (names_at text (drop i places)) word ≡ 0 = rw (drop_of_length-le places l) in
      omega arith

pub sought-start : (text word places : List ℕ) → 0 + place_of (names_at text places) word ≡ place_of (names_at text places) word
sought-start text word places = omega arith

-- The same along the first so many of a table's entries.
module _ (text word starts : List ℕ) (names i : ℕ) (h : names ≤ length starts) (l : i < names) where
  entries : length (take names starts) ≡ names
  entries = length-take-le names starts h

  entry : spelled_at text (get_or (take names starts) i 0) ≡ spelled_at text (get_or starts i 0)
  entry = ap (spelled_at text) (get_or-take names starts i 0 l)

  pub first-here : Sought text word (take names starts) i → same_text (spelled_at text (get_or starts i 0)) word ≡ true →
      i ≡ place_of (names_at text (take names starts)) word
  first-here p e =
      let z = entries in
      sought-here text word (take names starts) i p (omega arith) (ap (λ s. same_text s word) entry ∙ e)

  pub first_next : Sought text word (take names starts) i → same_text (spelled_at text (get_or starts i 0)) word ≡ false →
      i + 1 + place_of (names_at text (drop (i + 1) (take names starts))) word ≡ place_of (names_at text (take names starts)) word
  first_next p e =
      let z = entries in
      sought-next text word (take names starts) i p (omega arith) (ap (λ s. same_text s word) entry ∙ e)

pub first_done : (text word starts : List ℕ) (names i : ℕ) → names ≤ length starts → Sought text word (take names starts) i →
    names ≤ i → i ≡ place_of (names_at text (take names starts)) word
first_done text word starts names i h p l =
    sought-done text word (take names starts) i p (omega (arith, length-take-le names starts h))

place-few : (ns : List Name) (s : List ℕ) → place_of ns s ≤ length ns
unfolding place_of
place-few [] s = omega arith
place-few (n ∷ ns) s = by (same_text n.spelled s) (place-few ns s)
  where
    by : (t : Bool) → place_of ns s ≤ length ns → pick t 0 (suc (place_of ns s)) ≤ suc (length ns)
    by true h = omega arith
    by false h = omega arith

pub names-few : (text word starts : List ℕ) (names : ℕ) → place_of (names_at text (take names starts)) word ≤ names
unfolding names_at
names-few text word starts names =
    let ps = take names starts in
    omega (arith, place-few (map (name_at text) ps) word, length-map ps (name_at text), length-take names starts)

-- ---- a token's number, by its kind

module _ (kind a number : ℕ) where
  pub number-other : (kind ≡ 64 → ⊥) → number ≡ pick (eqb kind 64) a number
  number-other h = rw (ne_eqb kind 64 h)

  pub number-name : kind ≡ 64 → a ≡ pick (eqb kind 64) a number
  number-name e = rw e

-- ---- numbers: a name's number is known from the names before it

-- What comes behind a name changes nothing of its number.
place-front : (ns : List Name) (n : Name) (ms : List Name) → place_of ns n.spelled ≡ place_of (ns ++ n ∷ ms) n.spelled
unfolding place_of
place-front [] n ms = rw (same_text-refl n.spelled)
place-front (m ∷ ns) n ms = ap (λ x. pick (same_text m.spelled n.spelled) 0 (suc x)) (place-front ns n ms)

-- The numbers of tokens behind others that have these names.
unfoldable pub numbered : List Name → List Token → List ℕ
numbered ns [] = []
numbered ns (t ∷ ts) = number_in (place_of ns) t ∷ numbered (ns ++ name_in t) ts

number-front : (ns : List Name) (t : Token) (ms : List Name) →
    number_in (place_of ns) t ≡ number_in (place_of (ns ++ (name_in t ++ ms))) t
unfolding number_in name_in
number-front ns (terminal s) ms = refl
number-front ns (name n) ms = place-front ns n ms
number-front ns (number b n) ms = refl
number-front ns (known v) ms = refl
number-front ns unknown ms = refl
number-front ns broken ms = refl

numbered-all : (ns : List Name) (ts : List Token) → numbered ns ts ≡ map (number_in (place_of (ns ++ names_in ts))) ts
unfolding numbered names_in
numbered-all ns [] = refl
numbered-all ns (t ∷ ts) =
    let e : numbered (ns ++ name_in t) ts ≡ map (number_in (place_of (ns ++ (name_in t ++ names_in ts)))) ts =
    numbered-all (ns ++ name_in t) ts ∙ ap (λ ms. map (number_in (place_of ms)) ts) (append_assoc ns (name_in t) (names_in ts)) in
    ap (λ x. x ∷ numbered (ns ++ name_in t) ts) (number-front ns t (names_in ts))
    ∙ ap (λ r. number_in (place_of (ns ++ (name_in t ++ names_in ts))) t ∷ r) e

pub numbered-ids : (ts : List Token) → numbered [] ts ≡ map (number_in (id_of ts)) ts
unfolding id_of
numbered-ids ts = numbered-all [] ts
