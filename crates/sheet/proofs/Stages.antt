-- The ways through the stages of reading, one law for each, and that the stages together are the reading of the sheet.
use mathlib.Core.Path.{◌≡◌, refl, sym, ap, ◌∙◌}
use Prim.Native.Nat.{ℕ, ◌+◌, ◌-◌, ◌≤◌, ◌<◌, ◌^◌}
use native.Mathlib.Omega.{arith}
use mathlib.Core.List.{List, [], ◌∷◌, map}
use mathlib.Core.Bool.{Bool, true, false}
use lib.ListN.{length, take, drop, replicate}
use lib.Dec.{ltb, leb, eqb}
use borrow.Author.Tests.{le-leb, lt-leb, leb-true, leb-false, eq-eqb, ne_eqb, eqb-true, eqb-false}
use Rattle.sheet.specs.Reading.{Res, ok, no, ◌>>=◌, ◌>>◌, check, within, word_of, word_at}
use Rattle.values.specs.Values.{pick}
use Rattle.sheet.specs.Expression.{Expr, constant, Scope, Parsed, a_constant, node, located}
use Rattle.sheet.specs.Statement.{Stmt}
use Rattle.sheet.specs.Functions.{read_widths, Defined, read_functions}
use Rattle.sheet.specs.Module.{Listed, inputs_of, first_at, function_count, widths_at, Head, with_functions, read_head, read_wires, read_threads, whole_sheet}
use Rattle.sheet.specs.Answers.{expr_answer, starts_of, definitions_of, sheet_answer}
use Rattle.sheet.specs.Parts.{byte_answer, scope_of, outlines, head_answer, head_of, place_answer, defined, functions_answer, filled, wires_answer}
use Rattle.sheet.specs.Reader.{word_answer, constant_from, constant_at, sized, read_clock, read_counts, counts_answer, counts_from, other_widths, head_end, judged, widths_from, sheet_head, head_read, functions_from, functions_read, place_end, functions_end, wires_from, wires_read, row_end, threads_from, finished_of}
use Rattle.sheet.specs.declared.ByteRead as ByteRead
use Rattle.sheet.specs.declared.WordRead as WordRead
use Rattle.sheet.specs.declared.ExprRead as ExprRead
use Rattle.sheet.specs.declared.HeadRead as HeadRead
use Rattle.sheet.specs.declared.PlaceRead as PlaceRead
use Rattle.sheet.specs.declared.WiresRead.{WiresRead}
use Rattle.sheet.specs.declared.FunctionsRead.{FunctionsRead}
use Rattle.sheet.specs.declared.SheetRead.{SheetRead}
use Rattle.sheet.proofs.Reading.{check-ok, bind_ok}
use Rattle.sheet.proofs.Sections.{headed, head-read, whole_long, whole-head, whole-functions, body-wires, body-threads, body-over, body-made, answer-sheet, wires-count, threads-count}
use Rattle.sheet.proofs.Outlines.{outline, Similar, functions-told, wires-similar, threads-similar}

-- ---- a number of four bytes; n bytes are left

module _ (s : List ℕ) (p n : ℕ) (left : n ≡ length s - p) where
  pub word-short : n < 4 → WordRead.TheVariants.Refused 2 (length s) ≡ word_answer (word_at s p)
  unfolding word_answer word_at
  word-short h = let l : length s - p < 4 = omega arith in rw (lt-leb 4 (length s - p) l)

  pub word_made : {v : ℕ} → 4 ≤ n → v ≡ word_of s p → WordRead.TheVariants.Word v ≡ word_answer (word_at s p)
  unfolding word_answer word_at
  word_made h e = let l : 4 ≤ length s - p = omega arith in rw (le-leb 4 (length s - p) l, e)

-- ---- a constant

module _ (place next : ℕ) {width : ByteRead.ByteRead} (value : WordRead.WordRead) where
  pub constant-no-width : {n p : ℕ} → width ≡ ByteRead.TheVariants.Refused n p → ExprRead.TheVariants.Refused n p ≡ constant_from place next width value
  unfolding constant_from
  constant-no-width e = rw e

  module _ {w : ℕ} (e : width ≡ ByteRead.TheVariants.Byte w) where
    pub constant-no-value : {n p : ℕ} → value ≡ WordRead.TheVariants.Refused n p → ExprRead.TheVariants.Refused n p ≡ constant_from place next width value
    unfolding constant_from
    constant-no-value f = rw (e, f)

    module _ {v : ℕ} (f : value ≡ WordRead.TheVariants.Word v) where
      pub constant-fits : ltb v (2 ^ w) ≡ true → ExprRead.TheVariants.Read next w ≡ constant_from place next width value
      unfolding constant_from
      constant-fits t = rw (e, f, t)

      pub constant_wide : ltb v (2 ^ w) ≡ false → ExprRead.TheVariants.Refused 6 place ≡ constant_from place next width value
      unfolding constant_from
      constant_wide t = rw (e, f, t)

-- A width and a value are the constant.
pub constant-stages : (operand : ℕ → Res (Parsed Expr)) (c : Scope) (s : List ℕ) (p : ℕ)
    → constant_at s (p + 1) (p + 2) (p + 6) ≡ expr_answer (node operand c s p a_constant)
unfolding constant_from byte_answer word_answer expr_answer node
constant-stages operand c s p = by (within 1 32 6 s (p + 1)) (word_at s (p + 2))
  where
    judge : (b : Bool) (w v : ℕ)
        → pick b (ExprRead.TheVariants.Read (p + 6) w) (ExprRead.TheVariants.Refused 6 (p + 2))
        ≡ expr_answer (check b 6 (p + 2) >> ok (record { item = constant w v; width = w; next = p + 6 }))
    judge true w v = refl
    judge false w v = refl

    by : (x y : Res ℕ)
        → constant_from (p + 2) (p + 6) (byte_answer x) (word_answer y)
        ≡ expr_answer (x >>= λ w. y >>= λ v. check (ltb v (2 ^ w)) 6 (p + 2) >> ok (record { item = constant w v; width = w; next = p + 6 }))
    by (no n q) y = refl
    by (ok w) (no n q) = refl
    by (ok w) (ok v) = judge (ltb v (2 ^ w)) w v

-- ---- the counts

module _ (s : List ℕ) (p : ℕ) where
  pub counts-long : 8192 < length s → HeadRead.TheVariants.Refused 1 8192 ≡ counts_from s p
  unfolding read_counts sized counts_answer
  counts-long l = rw (lt-leb (length s) 8192 l)

  module _ (small : length s ≤ 8192) where
    pub counts-inputs : {n q : ℕ} → first_at s p ≡ no n q → HeadRead.TheVariants.Refused n q ≡ counts_from s p
    unfolding read_counts sized counts_answer
    counts-inputs i = rw (le-leb (length s) 8192 small, i)

    pub counts-registers : {b n q : ℕ} → first_at s p ≡ ok b → within 1 32 3 s (p + 1) ≡ no n q → HeadRead.TheVariants.Refused n q ≡ counts_from s p
    unfolding read_counts sized counts_answer
    counts-registers i r = rw (le-leb (length s) 8192 small, i, r)

    pub counts-wires : {b r n q : ℕ} → first_at s p ≡ ok b → within 1 32 3 s (p + 1) ≡ ok r → within 0 32 3 s (p + 2) ≡ no n q
        → HeadRead.TheVariants.Refused n q ≡ counts_from s p
    unfolding read_counts sized counts_answer
    counts-wires i r w = rw (le-leb (length s) 8192 small, i, r, w)

    pub counts-threads : {b r w n q : ℕ} → first_at s p ≡ ok b → within 1 32 3 s (p + 1) ≡ ok r → within 0 32 3 s (p + 2) ≡ ok w
        → within 1 8 3 s (p + 3) ≡ no n q → HeadRead.TheVariants.Refused n q ≡ counts_from s p
    unfolding read_counts sized counts_answer
    counts-threads i r w t = rw (le-leb (length s) 8192 small, i, r, w, t)

    pub counts-made : {b r w t : ℕ} → first_at s p ≡ ok b → within 1 32 3 s (p + 1) ≡ ok r → within 0 32 3 s (p + 2) ≡ ok w
        → within 1 8 3 s (p + 3) ≡ ok t → counts_answer (read_clock s p b r w t) ≡ counts_from s p
    unfolding read_counts sized
    counts-made i r w t = rw (le-leb (length s) 8192 small, i, r, w, t)

-- The count of functions and the clock's width.
module _ (s : List ℕ) (p b r w t : ℕ) where
  pub clock-count : {n q : ℕ} → function_count b s (p + 4) ≡ no n q → HeadRead.TheVariants.Refused n q ≡ counts_answer (read_clock s p b r w t)
  unfolding read_clock counts_answer
  clock-count f = rw f

  pub clock-width : {k a n q : ℕ} → function_count b s (p + 4) ≡ ok k → a ≡ widths_at k → within 1 1 4 s (p + a) ≡ no n q
      → HeadRead.TheVariants.Refused n q ≡ counts_answer (read_clock s p b r w t)
  unfolding read_clock counts_answer
  clock-width f e c = rw (f, ← e, c)

  pub clock-made : {i k a c : ℕ} → function_count b s (p + 4) ≡ ok k → a ≡ widths_at k → within 1 1 4 s (p + a) ≡ ok c → i ≡ inputs_of b
      → HeadRead.TheVariants.Read i r w t k ≡ counts_answer (read_clock s p b r w t)
  unfolding read_clock counts_answer
  clock-made f e c i = rw (f, ← e, c, i)

-- ---- where a head ends, and the widths up to there

widths-most : (n : ℕ) → widths_at n ≤ 5
unfolding widths_at
widths-most n = by (ltb 0 n)
  where
    by : (b : Bool) → pick b 5 4 ≤ 5
    by true = omega arith
    by false = omega arith

pub widths-bound : (n : ℕ) {a : ℕ} → a ≡ widths_at n → a ≤ 5
widths-bound n e = let m = widths-most n in omega arith

pub head-end : {h : HeadRead.HeadRead} {i r w t n a : ℕ} → h ≡ HeadRead.TheVariants.Read i r w t n → a ≡ widths_at n → a + i + r + w ≡ head_end h
unfolding head_end
head-end e f = rw (e, f)

pub head-end-refused : {h : HeadRead.HeadRead} {n p : ℕ} → h ≡ HeadRead.TheVariants.Refused n p → 0 ≡ head_end h
unfolding head_end
head-end-refused e = rw e

pub other-widths : {h : HeadRead.HeadRead} {i r w t n a : ℕ} → h ≡ HeadRead.TheVariants.Read i r w t n → a ≡ widths_at n → a + 1 ≡ other_widths h
unfolding other_widths
other-widths e f = rw (e, f)

pub other-widths-refused : {h : HeadRead.HeadRead} {n p : ℕ} → h ≡ HeadRead.TheVariants.Refused n p → 0 ≡ other_widths h
unfolding other_widths
other-widths-refused e = rw e

module _ (s : List ℕ) (p : ℕ) (h : HeadRead.HeadRead) {k : ℕ} (end : k ≡ head_end h) where
  pub widths-after-no : {n q : ℕ} → read_widths (k - p) s p ≡ no n q → HeadRead.TheVariants.Refused n q ≡ widths_from s p h
  unfolding judged
  widths-after-no e = rw (← end, e)

  pub widths-after-fine : {ws : List ℕ} → read_widths (k - p) s p ≡ ok ws → h ≡ widths_from s p h
  unfolding judged
  widths-after-fine e = rw (← end, e)

-- The head of these counts, with these widths; and its widths, behind what was counted.
abbrev made : ℕ → ℕ → ℕ → ℕ → ℕ → ℕ → List ℕ → Head
made i r w t n c ws =
    record { scope = record { inputs = i; registers = r; widths = c ∷ ws; declared = n; functions = [] }; wires = w; threads = t; next = widths_at n + (i + r + w) }

abbrev stage : List ℕ → HeadRead.HeadRead → HeadRead.HeadRead
stage s h = widths_from s (other_widths h) h

-- The counts and the widths are the head.
pub head-stages : (s : List ℕ) → widths_from s (other_widths (counts_from s 0)) (counts_from s 0) ≡ head_read s
unfolding sheet_head sized read_counts read_clock counts_answer read_head head_answer other_widths head_end judged read_widths
head-stages s = by (leb (length s) 8192) (first_at s 0) (within 1 32 3 s 1) (within 0 32 3 s 2) (within 1 8 3 s 3)
  where
    last : (h : Res (List ℕ)) (i r w t n c : ℕ) → judged (HeadRead.TheVariants.Read i r w t n) h ≡ head_answer (h >>= λ ws. ok (made i r w t n c ws))
    last (ok ws) i r w t n c = refl
    last (no m p) i r w t n c = refl

    clock : (b r w t n : ℕ) (x : Res ℕ)
        → stage s (counts_answer (x >>= λ c. ok (HeadRead.TheVariants.Read (inputs_of b) r w t n)))
        ≡ head_answer (x >>= λ c. read_widths (inputs_of b + r + w - 1) s (widths_at n + 1) >>= λ ws. ok (made (inputs_of b) r w t n c ws))
    clock b r w t n (no m p) = refl
    clock b r w t n (ok c) =
        let e : widths_at n + inputs_of b + r + w - (widths_at n + 1) ≡ inputs_of b + r + w - 1 = omega arith in
        ap (λ (k : ℕ). judged (HeadRead.TheVariants.Read (inputs_of b) r w t n) (read_widths k s (widths_at n + 1))) e
        ∙ last (read_widths (inputs_of b + r + w - 1) s (widths_at n + 1)) (inputs_of b) r w t n c

    counted : (b r w t : ℕ) (x : Res ℕ)
        → stage s (counts_answer (x >>= λ n. within 1 1 4 s (0 + widths_at n) >>= λ c. ok (HeadRead.TheVariants.Read (inputs_of b) r w t n)))
        ≡ head_answer (x >>= λ n. within 1 1 4 s (widths_at n) >>= λ c. read_widths (inputs_of b + r + w - 1) s (widths_at n + 1) >>= λ ws. ok (made (inputs_of b) r w t n c ws))
    counted b r w t (no m p) = refl
    counted b r w t (ok n) = let z : 0 + widths_at n ≡ widths_at n = omega arith in rw z (clock b r w t n (within 1 1 4 s (widths_at n)))

    by : (l : Bool) (b r w t : Res ℕ)
        → stage s (counts_answer (check l 1 8192 >> (b >>= λ b. r >>= λ r. w >>= λ w. t >>= λ t. read_clock s 0 b r w t)))
        ≡ head_answer (check l 1 8192 >> (b >>= λ b. r >>= λ r. w >>= λ w. t >>= λ t. function_count b s 4 >>= λ n. within 1 1 4 s (widths_at n) >>= λ c. read_widths (inputs_of b + r + w - 1) s (widths_at n + 1) >>= λ ws. ok (made (inputs_of b) r w t n c ws)))
    by false b r w t = refl
    by true (no n p) r w t = refl
    by true (ok b) (no n p) w t = refl
    by true (ok b) (ok r) (no n p) t = refl
    by true (ok b) (ok r) (ok w) (no n p) = refl
    by true (ok b) (ok r) (ok w) (ok t) = counted b r w t (function_count b s 4)

-- ---- the head of a sheet

pub sheet-headed : (s : List ℕ) {h : Head} → sheet_head s ≡ ok h → (length s ≤ 8192) × (read_head s ≡ ok h)
unfolding sheet_head sized
sheet-headed s e =
    let c = check-ok (leb (length s) 8192) 1 8192 (read_head s) e in
    (leb-true (length s) 8192 c.0, c.1)

pub stage-head : (s : List ℕ) {a : HeadRead.HeadRead} {i r w t n : ℕ} → a ≡ head_read s → a ≡ HeadRead.TheVariants.Read i r w t n
    → sheet_head s ≡ ok (head_of s i r w t n)
unfolding sheet_head sized head_answer
stage-head s {a = a} {i = i} {r = r} {w = w} {t = t} {n = n} p q = by (leb (length s) 8192) p
  where
    by : (b : Bool) → a ≡ head_answer (check b 1 8192 >> read_head s) → (check b 1 8192 >> read_head s) ≡ ok (head_of s i r w t n)
    by true h = head-read s h q
    by false h = cc

-- ---- the functions

pub functions-after-no : (s : List ℕ) (p : ℕ) {n q : ℕ} → sheet_head s ≡ no n q
    → record { read = PlaceRead.TheVariants.Refused n q; definitions = replicate 8 0 } ≡ functions_answer (functions_from s p)
unfolding functions_from defined
functions-after-no s p e = rw e

pub functions-after-head : (s : List ℕ) (p : ℕ) {i r w t n : ℕ} → sheet_head s ≡ ok (head_of s i r w t n) → read_functions n n [] s p ≡ functions_from s p
unfolding functions_from
functions-after-head s p e = rw e

pub functions-none : (s : List ℕ) {n q : ℕ} → sheet_head s ≡ no n q → functions_read s ≡ no n q
unfolding functions_read functions_from
functions-none s e = rw e

pub functions-stage : (s : List ℕ) → functions_answer (functions_from s (head_end (head_read s))) ≡ functions_answer (functions_read s)
unfolding functions_read
functions-stage s = refl

-- The functions of the sheet are those whose definitions stand at the places that were kept.
module _ (s : List ℕ) {i r w t n : ℕ} (head : sheet_head s ≡ ok (head_of s i r w t n)) (few : n ≤ 8) {d : Defined} (defs : functions_read s ≡ ok d) where
  pub told : Similar (outlines s (definitions_of d.places) n) d.functions
  unfolding functions_read outlines definitions_of
  told =
      let f : read_functions n n [] s (head_end (head_read s)) ≡ ok d = functions-after-head s (head_end (head_read s)) head ∙ defs in
      let e : n ≡ 0 + n = omega arith in
      ap (λ (k : ℕ). map outline (outlines s (definitions_of d.places) k)) e
      ∙ sym (functions-told n n [] s (head_end (head_read s)) (replicate 8 0) 0 refl (omega arith) refl f)

-- ---- the wires

-- The widths are lent as the part of the sheet that the counts give.
widths-part : (s : List ℕ) (i r w a : ℕ) → take (a + i + r + w - a) (drop a s) ≡ take (i + r + w) (drop a s)
widths-part s i r w a = let e : a + i + r + w - a ≡ i + r + w = omega arith in ap (λ (k : ℕ). take k (drop a s)) e

pub wires-after-no : (s : List ℕ) (p : ℕ) {n q : ℕ} → functions_read s ≡ no n q
    → record { read = PlaceRead.TheVariants.Refused n q; starts = replicate 32 0 } ≡ wires_answer (wires_from s p)
unfolding wires_from filled
wires-after-no s p e = rw e

module _ (s : List ℕ) {i r w t n : ℕ} (head : sheet_head s ≡ ok (head_of s i r w t n)) (few : n ≤ 8) {d : Defined} (defs : functions_read s ≡ ok d)
    {ds : List ℕ} (same : ds ≡ definitions_of d.places) {a : ℕ} (first : a ≡ widths_at n) where
  abbrev lent : List ℕ
  lent = take (a + i + r + w - a) (drop a s)

  lent_is : lent ≡ take (i + r + w) (drop (widths_at n) s)
  lent_is = widths-part s i r w a ∙ ap (λ (k : ℕ). take (i + r + w) (drop k s)) first

  pub wires-after-head : (p : ℕ) → read_wires (located s) (scope_of i r lent n (outlines s ds n)) s w (i + r) p ≡ wires_from s p
  unfolding wires_from
  wires-after-head p = rw (defs, head, same, lent_is) (wires-similar s (take (i + r + w) (drop (widths_at n) s)) n _ _ (told s head few defs) i r w (i + r) p)

  pub threads-after-head : (p : ℕ) {es : Listed ℕ} → wires_read s ≡ ok es → read_threads (located s) (scope_of i r lent n (outlines s ds n)) s t p ≡ threads_from s p
  unfolding threads_from
  threads-after-head p e = rw (e, defs, head, same, lent_is) (threads-similar s (take (i + r + w) (drop (widths_at n) s)) n _ _ (told s head few defs) i r t p)

wires-none : (s : List ℕ) {n q : ℕ} → functions_read s ≡ no n q → wires_read s ≡ no n q
unfolding wires_read wires_from
wires-none s e = rw e

-- Where the wires were read, the functions were.
pub wires-told : (s : List ℕ) {es : Listed ℕ} → wires_read s ≡ ok es → (d : Defined) × (functions_read s ≡ ok d)
unfolding wires_read wires_from
wires-told s h = let d = bind_ok (functions_read s) _ h in (d.0, d.1)

pub definitions-same : {x : Res Defined} {r : FunctionsRead} {d : Defined} → r ≡ functions_answer x → x ≡ ok d → r.definitions ≡ definitions_of d.places
unfolding defined definitions_of
definitions-same p e = ap (λ (f : FunctionsRead). f.definitions) (p ∙ ap functions_answer e)

pub wires-stage : (s : List ℕ) → wires_answer (wires_from s (functions_end (functions_answer (functions_read s)))) ≡ wires_answer (wires_read s)
unfolding wires_read
wires-stage s = refl

-- ---- where the wires end

pub row-end : {x : PlaceRead.PlaceRead} {n : ℕ} → x ≡ PlaceRead.TheVariants.At n → n ≡ place_end x
unfolding place_end
row-end e = rw e

pub row-end-refused : {x : PlaceRead.PlaceRead} {n p : ℕ} → x ≡ PlaceRead.TheVariants.Refused n p → 0 ≡ place_end x
unfolding place_end
row-end-refused e = rw e

-- ---- the threads

pub threads-after-row : (s : List ℕ) (p : ℕ) {n q : ℕ} → wires_read s ≡ no n q → PlaceRead.TheVariants.Refused n q ≡ place_answer (threads_from s p)
unfolding threads_from place_answer
threads-after-row s p e = rw e

pub threads-after-no : (s : List ℕ) (p : ℕ) {n q : ℕ} → functions_read s ≡ no n q → PlaceRead.TheVariants.Refused n q ≡ place_answer (threads_from s p)
threads-after-no s p e = threads-after-row s p (wires-none s e)

-- ---- the answer

module _ (head : HeadRead.HeadRead) (all : FunctionsRead) (row : WiresRead) (body size : ℕ) {threads : PlaceRead.PlaceRead} where
  pub finished-threads : {a : SheetRead} {n p : ℕ} → threads ≡ PlaceRead.TheVariants.Refused n p → a ≡ sheet_answer (no n p)
      → a ≡ finished_of head all row body threads size
  unfolding finished_of
  finished-threads e f = rw (e, f)

  module _ {end : ℕ} (e : threads ≡ PlaceRead.TheVariants.At end) where
    pub finished-over : {a : SheetRead} → (end ≡ size → ⊥) → a ≡ sheet_answer (no 10 end) → a ≡ finished_of head all row body threads size
    unfolding finished_of
    finished-over o f = rw (e, ne_eqb end size o, f)

    pub finished-head : {a : SheetRead} {n p : ℕ} → end ≡ size → head ≡ HeadRead.TheVariants.Refused n p → a ≡ sheet_answer (no n p)
        → a ≡ finished_of head all row body threads size
    unfolding finished_of
    finished-head o h f = rw (e, eq-eqb end size o, h, f)

    pub finished-made : {i r w t n a : ℕ} → end ≡ size → head ≡ HeadRead.TheVariants.Read i r w t n → a ≡ widths_at n
        → record {
          number = 0;
          place = 0;
          layout =
              record {
                inputs = i;
                registers = r;
                wires = w;
                threads = t;
                functions = n;
                widths = a;
                definitions = all.definitions;
                starts = row.starts;
                body = body;
              };
        }
        ≡ finished_of head all row body threads size
    unfolding finished_of
    finished-made o h f = rw (e, eq-eqb end size o, h, f)

-- ---- the stages together

-- what is left at the start is the whole sheet
pub all_left : (s : List ℕ) → length s - 0 ≡ length s
all_left s = omega arith

module _ (s : List ℕ) where
  -- what the functions' and the wires' stages give, where these end, and what the threads' stage gives there
  abbrev all : FunctionsRead
  all = functions_answer (functions_read s)

  abbrev row : WiresRead
  row = wires_answer (wires_read s)

  abbrev body : ℕ
  body = row_end row

  abbrev threads : PlaceRead.PlaceRead
  threads = place_answer (threads_from s body)

  abbrev Whole : Type 0
  Whole = finished_of (head_read s) all row body threads (length s) ≡ sheet_answer (whole_sheet (located s) s)

  -- a refusal of a stage is the answer
  refused : {n p : ℕ} → PlaceRead.TheVariants.Refused n p ≡ threads → whole_sheet (located s) s ≡ no n p → Whole
  refused {n} {p} t r = sym (finished-threads (head_read s) all row body (length s) {a = sheet_answer (no n p)} (sym t) refl) ∙ sym (ap sheet_answer r)

  module _ (small : length s ≤ 8192) {h : Head} (head : read_head s ≡ ok h) (at : sheet_head s ≡ ok h) where
    -- the head's answer, and where it ends
    head-is : head_read s ≡ HeadRead.TheVariants.Read h.scope.inputs h.scope.registers h.wires h.threads h.scope.declared
    unfolding head_answer
    head-is = rw at

    end_is : head_end (head_read s) ≡ h.next
    end_is =
        let e : h.next ≡ widths_at h.scope.declared + (h.scope.inputs + h.scope.registers + h.wires) = ap (λ (k : Head). k.next) (headed s head).same in
        let f = head-end head-is refl in
        omega arith

    functions-at : functions_read s ≡ read_functions h.scope.declared h.scope.declared [] s h.next
    unfolding functions_read functions_from
    functions-at = rw (end_is, at)

    module _ {d : Defined} (defs : functions_read s ≡ ok d) where
      given : read_functions h.scope.declared h.scope.declared [] s h.next ≡ ok d
      given = sym functions-at ∙ defs

      abbrev scope : Scope
      scope = with_functions h.scope d.functions

      wires-at : wires_read s ≡ read_wires (located s) scope s h.wires (h.scope.inputs + h.scope.registers) d.next
      unfolding wires_read wires_from defined place_end
      wires-at = rw (defs, at)

      threads-at : (p : ℕ) {es : Listed ℕ} → wires_read s ≡ ok es → threads_from s p ≡ read_threads (located s) scope s h.threads p
      unfolding threads_from
      threads-at p e = rw (e, defs, at)

      body_at : {es : Listed ℕ} → wires_read s ≡ ok es → (row ≡ record { read = PlaceRead.TheVariants.At es.next; starts = starts_of es.items }) × (body ≡ es.next)
      unfolding filled starts_of place_end
      body_at e = (rw e, rw e)

      places-at : all.definitions ≡ definitions_of d.places
      unfolding defined definitions_of
      places-at = rw defs

      ended : {es : Listed ℕ} {bs : Listed (Stmt ℕ)} (b : Bool) → eqb bs.next (length s) ≡ b → wires_read s ≡ ok es → threads_from s body ≡ ok bs
          → read_threads (located s) scope s h.threads es.next ≡ ok bs → Whole
      unfolding place_answer
      ended {es} {bs} true b e f g =
          let same = eqb-true bs.next (length s) b in
          let at-end : threads ≡ PlaceRead.TheVariants.At bs.next = rw f in
          let made = body-made s small head given (sym wires-at ∙ e) g same in
          let row_is = body_at e in
          sym (finished-made (head_read s) all row body (length s) at-end same head-is refl)
          ∙ (λ j. record {
            number = 0;
            place = 0;
            layout =
                record {
                  inputs = h.scope.inputs;
                  registers = h.scope.registers;
                  wires = h.wires;
                  threads = h.threads;
                  functions = h.scope.declared;
                  widths = widths_at h.scope.declared;
                  definitions = places-at j;
                  starts = row.starts;
                  body = row_is.1 j;
                };
          })
          ∙ answer-sheet made (wires-count _ _ _ _ _ _ (sym wires-at ∙ e)) (threads-count _ _ _ _ _ g) (ap (λ (x : WiresRead). x.starts) row_is.0)
      ended {es} {bs} false b e f g =
          let apart : bs.next ≡ length s → ⊥ = eqb-false bs.next (length s) b in
          let at-end : threads ≡ PlaceRead.TheVariants.At bs.next = rw f in
          sym (finished-over (head_read s) all row body (length s) at-end {a = sheet_answer (no 10 bs.next)} apart refl)
          ∙ sym (ap sheet_answer (body-over s small head given (sym wires-at ∙ e) g apart))

      threaded : {es : Listed ℕ} (x : Res (Listed (Stmt ℕ))) → threads_from s body ≡ x → wires_read s ≡ ok es → Whole
      unfolding place_answer
      threaded {es} (no n p) f e =
          let g : read_threads (located s) scope s h.threads es.next ≡ no n p = ap (λ (b : ℕ). read_threads (located s) scope s h.threads b) (sym (body_at e).1) ∙ sym (threads-at body e) ∙ f in
          refused (sym (ap place_answer f)) (body-threads s small head given (sym wires-at ∙ e) g)
      threaded {es} (ok bs) f e =
          let g : read_threads (located s) scope s h.threads es.next ≡ ok bs = ap (λ (b : ℕ). read_threads (located s) scope s h.threads b) (sym (body_at e).1) ∙ sym (threads-at body e) ∙ f in
          ended (eqb bs.next (length s)) refl e f g

      wired : (x : Res (Listed ℕ)) → wires_read s ≡ x → Whole
      wired (no n p) e = refused (threads-after-row s body e) (body-wires s small head given (sym wires-at ∙ e))
      wired (ok es) e = threaded (threads_from s body) refl e

    functioned : (x : Res Defined) → functions_read s ≡ x → Whole
    functioned (no n p) f = refused (threads-after-no s body f) (whole-functions s small head (sym functions-at ∙ f))
    functioned (ok d) f = wired f (wires_read s) refl

  pub stages : Whole
  unfolding sheet_head sized
  stages = by (leb (length s) 8192) refl (read_head s) refl
    where
      by : (b : Bool) → leb (length s) 8192 ≡ b → (x : Res Head) → read_head s ≡ x → Whole
      by false l x h = refused (threads-after-no s body (functions-none s (rw l))) (whole_long s (leb-false (length s) 8192 l))
      by true l (no n p) h = refused (threads-after-no s body (functions-none s (rw (l, h)))) (whole-head s (leb-true (length s) 8192 l) h)
      by true l (ok hd) h = functioned (leb-true (length s) 8192 l) h (rw (l, h)) (functions_read s) refl
