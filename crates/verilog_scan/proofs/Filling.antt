-- Laws of filling the tables: what is still to be stored gives the whole, entry by entry. Assumes nothing.
use mathlib.Core.Path.{◌≡◌, refl, sym, ap, ◌∙◌}
use mathlib.Core.Bool.{Bool, true, false}
use mathlib.Core.List.{List, [], ◌∷◌, ◌++◌, map, map-map, map-append, append-nil}
use Prim.Native.Nat.{ℕ, suc, ◌+◌, ◌<◌, ◌≤◌}
use native.Mathlib.Nat.{zero-add}
use native.Mathlib.Numerals.{add-one}
use native.Mathlib.Omega.{arith}
use borrow.Author.Tests.{lt-ltb, le-ltb}
use lib.Dec.{eqb}
use lib.ListN.{length, take, drop, set, length-set, length-map, length-append}
use lib.Seq.{sets, sets-eq, take-set-le, take-suc-set}
use Rattle.values.specs.Values.{pick}
use Rattle.verilog_tokens.specs.declared.Piece.{Piece}
use Rattle.verilog_tokens.specs.Tokens.{Name, Located, located, tokens, places}
use Rattle.verilog_tokens.specs.Table.{kind_of, kinds, name_in, place_of, id_of, number_in, numbers}
use Rattle.verilog_tokens.specs.Pieces.{piece, piece_at, unnamed}
use Rattle.verilog_scan.specs.Scan.{stored, overwritten, starts, overlong, Filled, Scanned, spelled_at, name_at, names_at, gap_from}
use Rattle.verilog_scan.proofs.Spelling.{numbered, numbered-ids}
use Rattle.verilog_scan.proofs.Rest.{tokens-few, rest_at, lex_at, next_at, gap-inside, rest-first, rest-past, rest-next, lex-piece}
use Rattle.verilog_scan.proofs.Rest.{next-after, next-inside, lex-named}

-- ---- a column of the table from a place on, with what stands behind the last token

unfoldable pub column : (Located → ℕ) → ℕ → List ℕ → ℕ → List ℕ
column f x text at = map f (rest_at text at) ++ x ∷ []

module _ (f : Located → ℕ) (x : ℕ) (text : List ℕ) (at : ℕ) where
  column-past : length text ≤ at → column f x text at ≡ x ∷ []
  unfolding column
  column-past l = rw (rest-past text at l)

  column-next : at < length text →
      column f x text at ≡ f (record { token = (lex_at text at).token; place = at }) ∷ column f x text (next_at text at)
  unfolding column
  column-next l = ap (λ r. map f r ++ x ∷ []) (rest-next text at l)

  module _ (table whole : List ℕ) (n : ℕ) (h : sets table n (column f x text at) ≡ whole) where
    pub column-turn : at < length text → (v : ℕ) → v ≡ f (record { token = (lex_at text at).token; place = at }) →
        sets (set table n v) (n + 1) (column f x text (next_at text at)) ≡ whole
    column-turn l v e =
        let r = column f x text (next_at text at) in
        ap (λ k. sets (set table n v) k r) (add-one n)
        ∙ ap (λ y. sets (set table n y) (suc n) r) e
        ∙ sym (ap (sets table n) (column-next l))
        ∙ h

    pub column-last : length text ≤ at → set table n x ≡ whole
    column-last l = sym (ap (sets table n) (column-past l)) ∙ h

abbrev pub kinds_from : List ℕ → ℕ → List ℕ
kinds_from text at = column (λ (l : Located). kind_of l.token) 0 text at

abbrev pub places_from : List ℕ → ℕ → List ℕ
places_from text at = column (λ (l : Located). l.place) (length text) text at

pub kinds-first : (text : List ℕ) → kinds_from text (gap_from text 0) ≡ kinds text
unfolding column kinds tokens
kinds-first text =
    sym (ap (λ r. r ++ 0 ∷ []) (map-map kind_of (λ (l : Located). l.token) (located text)
    ∙ ap (map (λ (l : Located). kind_of l.token)) (rest-first text)))

pub places-first : (text : List ℕ) → places_from text (gap_from text 0) ≡ starts text
unfolding column starts places
places-first text = sym (ap (λ r. map (λ (l : Located). l.place) r ++ length text ∷ []) (rest-first text))

-- ---- the column of numbers: it goes by the names before

unfoldable pub numbers_from : List ℕ → List Name → ℕ → List ℕ
numbers_from text ns at = numbered ns (map (λ (l : Located). l.token) (rest_at text at)) ++ 0 ∷ []

pub numbers-first : (text : List ℕ) → numbers_from text [] (gap_from text 0) ≡ numbers text
unfolding numbers_from numbers tokens
numbers-first text =
    ap (λ r. numbered [] (map (λ (l : Located). l.token) r) ++ 0 ∷ []) (sym (rest-first text))
    ∙ ap (λ r. r ++ 0 ∷ []) (numbered-ids (map (λ (l : Located). l.token) (located text)))

module _ (text : List ℕ) (ns : List Name) (at : ℕ) where
  numbers-past : length text ≤ at → numbers_from text ns at ≡ 0 ∷ []
  unfolding numbers_from numbered
  numbers-past l = rw (rest-past text at l)

  numbers-next : at < length text →
      numbers_from text ns at
      ≡ number_in (place_of ns) (lex_at text at).token ∷ numbers_from text (ns ++ name_in (lex_at text at).token) (next_at text at)
  unfolding numbers_from numbered
  numbers-next l = ap (λ r. numbered ns (map (λ (l : Located). l.token) r) ++ 0 ∷ []) (rest-next text at l)

  module _ (table whole : List ℕ) (n : ℕ) (h : sets table n (numbers_from text ns at) ≡ whole) where
    pub numbers-turn : at < length text → (v : ℕ) → v ≡ number_in (place_of ns) (lex_at text at).token →
        (ms : List Name) → ms ≡ ns ++ name_in (lex_at text at).token →
        sets (set table n v) (n + 1) (numbers_from text ms (next_at text at)) ≡ whole
    numbers-turn l v e ms q =
        let r = numbers_from text (ns ++ name_in (lex_at text at).token) (next_at text at) in
        ap (λ x. sets (set table n v) (n + 1) (numbers_from text x (next_at text at))) q
        ∙ ap (λ k. sets (set table n v) k r) (add-one n)
        ∙ ap (λ y. sets (set table n y) (suc n) r) e
        ∙ sym (ap (sets table n) (numbers-next l))
        ∙ h

    pub numbers-last : length text ≤ at → set table n 0 ≡ whole
    numbers-last l = sym (ap (sets table n) (numbers-past l)) ∙ h

-- ---- what the code learns of a token

module _ (text : List ℕ) (at : ℕ) (l : at < length text) (t : Piece) (e : t ≡ piece_at text at) where
  learnt : t ≡ piece (kind_of (lex_at text at).token) (number_in unnamed (lex_at text at).token) (lex_at text at).size
  learnt = e ∙ lex-piece text at l

  pub kind-is : t.kind ≡ kind_of (lex_at text at).token
  kind-is = ap (λ (p : Piece). p.kind) learnt

  number_is : t.number ≡ number_in unnamed (lex_at text at).token
  number_is = ap (λ (p : Piece). p.number) learnt

  pub size_is : t.size ≡ (lex_at text at).size
  size_is = ap (λ (p : Piece). p.size) learnt

  pub next-is : (x : ℕ) → x ≡ pick (eqb t.kind 69) (length text) (gap_from text (at + t.size)) → x ≡ next_at text at
  unfolding next_at
  next-is x q = rw (kind-is, size_is) at q

  pub number-value : (ns : List Name) (x : ℕ) → x ≡ pick (eqb t.kind 64) (place_of ns (spelled_at text at)) t.number →
      x ≡ number_in (place_of ns) (lex_at text at).token
  number-value ns x q = (rw (kind-is, number_is) at q) ∙ sym ((lex-named text at l).number-known ns)

  pub names-value : (places : List ℕ) (names k : ℕ) → names < length places → k ≡ pick (eqb t.kind 64) (names + 1) names →
      names_at text (take k (set places names at)) ≡ names_at text (take names places) ++ name_in (lex_at text at).token
  unfolding names_at
  names-value places names k h q =
      rw (rw kind-is at q, (lex-named text at l).name-known) (by (eqb (kind_of (lex_at text at).token) 64))
    where
      by : (v : Bool) →
          map (name_at text) (take (pick v (names + 1) names) (set places names at))
          ≡ map (name_at text) (take names places) ++ pick v (name_at text at ∷ []) []
      by true =
          ap (λ x. map (name_at text) (take x (set places names at))) (add-one names)
          ∙ ap (map (name_at text)) (take-suc-set places names at h)
          ∙ map-append (name_at text) (take names places) (at ∷ [])
      by false =
          ap (map (name_at text)) (take-set-le names places names at (omega arith))
          ∙ sym (append-nil (map (name_at text) (take names places)))

  pub count_turn : (n m : ℕ) → n + length (rest_at text at) ≡ m → n + 1 + length (rest_at text (next_at text at)) ≡ m
  count_turn n m h = omega (arith, ap length (rest-next text at l))

-- ---- the ends

pub count-first : (text : List ℕ) → 0 + length (rest_at text (gap_from text 0)) ≡ length (tokens text)
unfolding tokens
count-first text =
    zero-add (length (rest_at text (gap_from text 0)))
    ∙ sym (ap length (rest-first text))
    ∙ sym (length-map (located text) (λ (l : Located). l.token))

pub count-last : (text : List ℕ) (at n m : ℕ) → length text ≤ at → n + length (rest_at text at) ≡ m → n ≡ m
count-last text at n m l h = omega (arith, ap length (rest-past text at l))

-- A table that has room for a list.
pub stored-front : (xs ys : List ℕ) → length xs ≤ length ys → stored xs ys ≡ overwritten xs ys
unfolding stored overwritten
stored-front xs ys h =
    sets-eq xs ys 0 (omega arith) ∙ ap (λ n. xs ++ drop n ys) (zero-add (length xs))

module _ (text : List ℕ) where
  pub kinds-length : length (kinds text) ≡ length (tokens text) + 1
  unfolding kinds
  kinds-length = length-append (map kind_of (tokens text)) (0 ∷ []) ∙ ap (λ n. n + 1) (length-map (tokens text) kind_of)

  pub numbers-length : length (numbers text) ≡ length (tokens text) + 1
  unfolding numbers
  numbers-length =
      length-append (map (number_in (id_of (tokens text))) (tokens text)) (0 ∷ [])
      ∙ ap (λ n. n + 1) (length-map (tokens text) (number_in (id_of (tokens text))))

  pub starts-length : length (starts text) ≡ length (tokens text) + 1
  unfolding starts places tokens
  starts-length =
      length-append (map (λ (l : Located). l.place) (located text)) (length text ∷ [])
      ∙ ap (λ n. n + 1) (length-map (located text) (λ (l : Located). l.place)
      ∙ sym (length-map (located text) (λ (l : Located). l.token)))

-- A text that is read has at most 16,384 tokens: tables of 16,385 entries have room for them and for what stands behind.
module _ (text table : List ℕ) (l : length text ≤ 16384) (h : length table ≡ 16385) where
  pub kinds-front : stored (kinds text) table ≡ overwritten (kinds text) table
  kinds-front = stored-front (kinds text) table (omega (arith, kinds-length text, tokens-few text))

  pub numbers-front : stored (numbers text) table ≡ overwritten (numbers text) table
  numbers-front = stored-front (numbers text) table (omega (arith, numbers-length text, tokens-few text))

  pub places-front : stored (starts text) table ≡ overwritten (starts text) table
  places-front = stored-front (starts text) table (omega (arith, starts-length text, tokens-few text))

-- ---- the loop's state: the tables, the names' places, their number, the number of tokens, the place

module _ (text kinds₀ numbers₀ places₀ kinds₁ numbers₁ places₁ : List ℕ) where
  pub record Stands (names : List ℕ) (count n at : ℕ) : Type 0 where
    pub few-names : count ≤ n
    pub few : n ≤ at
    pub inside : at ≤ length text
    pub room : length names ≡ 16385
    pub all : n + length (rest_at text at) ≡ length (tokens text)
    pub kinds-rest : sets kinds₁ n (kinds_from text at) ≡ stored (kinds text) kinds₀
    pub numbers-rest : sets numbers₁ n (numbers_from text (names_at text (take count names)) at) ≡ stored (numbers text) numbers₀
    pub places-rest : sets places₁ n (places_from text at) ≡ stored (starts text) places₀

module _ (text kinds₀ numbers₀ places₀ : List ℕ) where
  pub stands-first : (names : List ℕ) (at : ℕ) → at ≡ gap_from text 0 → length names ≡ 16385 →
      Stands text kinds₀ numbers₀ places₀ kinds₀ numbers₀ places₀ names 0 0 at
  unfolding stored names_at
  stands-first names at e h = record {
    few-names = omega arith;
    few = omega arith;
    inside = rw e (gap-inside text 0 (omega arith));
    room = h;
    all = rw e (count-first text);
    kinds-rest = rw (e, kinds-first text);
    numbers-rest = rw (e, numbers-first text);
    places-rest = rw (e, places-first text);
  }

count-few : (b : Bool) (count : ℕ) → pick b (count + 1) count ≤ count + 1
count-few true count = omega arith
count-few false count = omega arith

module _
    (text kinds₀ numbers₀ places₀ kinds₁ numbers₁ places₁ names : List ℕ) (count n at : ℕ)
    (S : Stands text kinds₀ numbers₀ places₀ kinds₁ numbers₁ places₁ names count n at) where
  pub stands-next : at < length text → length text ≤ 16384 → (t : Piece) → t ≡ piece_at text at → (v k next : ℕ) →
      v ≡ pick (eqb t.kind 64) (place_of (names_at text (take count names)) (spelled_at text at)) t.number →
      k ≡ pick (eqb t.kind 64) (count + 1) count →
      next ≡ pick (eqb t.kind 69) (length text) (gap_from text (at + t.size)) →
      Stands text kinds₀ numbers₀ places₀ (set kinds₁ n t.kind) (set numbers₁ n v) (set places₁ n at) (set names count at) k (n + 1) next
  stands-next l m t e v k next f g h =
      let q = next-is text at l t e next h in
      let ns = names_at text (take count names) in
      let c = S.few-names in
      let d = S.few in
      let r = S.room in
      record {
        few-names = rw g (omega (arith, count-few (eqb t.kind 64) count));
        few = omega (arith, next-after text at l);
        inside = rw q (next-inside text at l);
        room = length-set names count at ∙ r;
        all = rw q (count_turn text at l t e n (length (tokens text)) S.all);
        kinds-rest =
            rw q (column-turn (λ (l : Located). kind_of l.token) 0 text at kinds₁ (stored (kinds text) kinds₀) n S.kinds-rest l
            t.kind (kind-is text at l t e));
        numbers-rest =
            rw q (numbers-turn text ns at numbers₁ (stored (numbers text) numbers₀) n S.numbers-rest l v
            (number-value text at l t e ns v f)
            (names_at text (take k (set names count at))) (names-value text at l t e names count k (omega arith) g));
        places-rest =
            rw q (column-turn (λ (l : Located). l.place) (length text) text at places₁ (stored (starts text) places₀) n S.places-rest l
            at refl);
      }

  pub stands-last : length text ≤ at →
      Filled text kinds₀ (set kinds₁ n 0) numbers₀ (set numbers₁ n 0) places₀ (set places₁ n (length text)) n
  stands-last l = record {
    kinds-filled = column-last (λ (l : Located). kind_of l.token) 0 text at kinds₁ (stored (kinds text) kinds₀) n S.kinds-rest l;
    numbers-filled = numbers-last text (names_at text (take count names)) at numbers₁ (stored (numbers text) numbers₀) n S.numbers-rest l;
    places-filled = column-last (λ (l : Located). l.place) (length text) text at places₁ (stored (starts text) places₀) n
        S.places-rest l;
    counted = count-last text at n (length (tokens text)) l S.all;
  }

-- ---- scan

module _ (text kinds₀ kinds₁ numbers₀ numbers₁ places₀ places₁ : List ℕ) (n : ℕ) where
  pub scanned-short : length text ≤ 16384 → Filled text kinds₀ kinds₁ numbers₀ numbers₁ places₀ places₁ n →
      Scanned text kinds₀ kinds₁ numbers₀ numbers₁ places₀ places₁ n
  unfolding overlong
  scanned-short l f = record {
    kinds-scanned = rw (le-ltb 16384 (length text) l) f.kinds-filled;
    numbers-scanned = rw (le-ltb 16384 (length text) l) f.numbers-filled;
    places-scanned = rw (le-ltb 16384 (length text) l) f.places-filled;
    counted = rw (le-ltb 16384 (length text) l) f.counted;
  }

pub scanned-long : (text kinds₀ numbers₀ places₀ : List ℕ) → 16384 < length text →
    Scanned text kinds₀ kinds₀ numbers₀ numbers₀ places₀ places₀ 0
unfolding overlong
scanned-long text kinds₀ numbers₀ places₀ l = record {
  kinds-scanned = rw (lt-ltb 16384 (length text) l);
  numbers-scanned = rw (lt-ltb 16384 (length text) l);
  places-scanned = rw (lt-ltb 16384 (length text) l);
  counted = rw (lt-ltb 16384 (length text) l);
}
