-- The ways through the reader of the sheet: one law for each; and what a head, a row of wires and a row of threads are.
use mathlib.Core.Path.{◌≡◌, refl, sym, ap, ◌∙◌}
use Prim.Native.Nat.{ℕ, zero, suc, ◌+◌, ◌-◌, ◌≤◌, ◌<◌}
use native.Mathlib.Omega.{arith}
use native.Mathlib.Numerals.{add-one, sub-one}
use mathlib.Core.List.{List, [], ◌∷◌}
use mathlib.Core.Bool.{Bool, true, false}
use lib.ListN.{length, get_or, take, drop, set, replicate}
use lib.Dec.{ltb, leb, eqb}
use lib.Seq.{drop-cons}
use borrow.Author.Tests.{lt-ltb, le-ltb, le-leb, lt-leb, leb-true, eq-eqb, ne_eqb}
use Rattle.values.specs.Values.{pick}
use Rattle.sheet.specs.Reading.{Res, ok, no, ◌>>=◌, byte_at, within}
use Rattle.sheet.specs.Expression.{Scope, Parsed, located}
use Rattle.sheet.specs.Statement.{Stmt, Body, size, read_stmt}
use Rattle.sheet.specs.Functions.{read_widths, Defined, read_functions}
use Rattle.sheet.specs.Module.{Listed, inputs_of, first_at, function_count, widths_at, Head, with_functions, Sheet, read_head, read_wires, read_threads, whole_sheet}
use Rattle.sheet.specs.Answers.{starts_of, definitions_of, layout_of, sheet_answer}
use Rattle.sheet.specs.Parts.{widths_answer, head_answer, head_of, place_answer, filled, wires_answer, defined, functions_answer}
use Rattle.sheet.specs.declared.WidthsRead as WidthsRead
use Rattle.sheet.specs.declared.HeadRead as HeadRead
use Rattle.sheet.specs.declared.PlaceRead as PlaceRead
use Rattle.sheet.specs.declared.WiresRead.{WiresRead}
use Rattle.sheet.specs.declared.FunctionsRead.{FunctionsRead}
use Rattle.sheet.specs.declared.SheetRead.{SheetRead}
use Rattle.sheet.proofs.Reading.{ok-injective, bind_ok, check-ok, byte-ok, byte-at, byte-end, within-ok}

-- ---- one of the turns that are left

one_more : (n k : ℕ) → k < n → n - k ≡ suc (n - (k + 1))
one_more n k h = omega arith

-- ---- read_widths

module _ (s : List ℕ) (end at : ℕ) where
  pub widths-done : end ≤ at → WidthsRead.TheVariants.Fine ≡ widths_answer (read_widths (end - at) s at)
  unfolding read_widths widths_answer
  widths-done h = let e : end - at ≡ 0 = omega arith in rw e

  pub widths-refused : {n p : ℕ} → at < end → within 1 32 4 s at ≡ no n p
      → WidthsRead.TheVariants.Refused n p ≡ widths_answer (read_widths (end - at) s at)
  unfolding read_widths widths_answer
  widths-refused h e = rw (one_more end at h, e)

  pub widths-more : {w : ℕ} → at < end → within 1 32 4 s at ≡ ok w
      → widths_answer (read_widths (end - at) s at) ≡ widths_answer (read_widths (end - (at + 1)) s (at + 1))
  unfolding read_widths widths_answer
  widths-more {w} h e = rw (one_more end at h, e) (by (read_widths (end - (at + 1)) s (at + 1)))
    where
      by : (x : Res (List ℕ)) → widths_answer (x >>= λ ws. ok (w ∷ ws)) ≡ widths_answer x
      by (ok ws) = refl
      by (no n p) = refl

-- The widths are a part of the sheet.
pub widths-part : (n : ℕ) (s : List ℕ) (at : ℕ) {ws : List ℕ} → at ≤ length s → read_widths n s at ≡ ok ws
    → (ws ≡ take n (drop at s)) × (at + n ≤ length s)
unfolding read_widths
widths-part zero s at l h = (sym (ok-injective h), omega arith)
widths-part (suc n) s at l h =
    let w = bind_ok (within 1 32 4 s at) _ h in
    let ws = bind_ok (read_widths n s (at + 1)) _ w.2 in
    let x = within-ok 1 32 4 s at w.1 in
    let r = widths-part n s (at + 1) (omega arith) ws.1 in
    (sym (ok-injective ws.2) ∙ simp (drop-cons s at 0 x.below, x.same, ← add-one at, r.0), omega arith)

pub widths-read : {x : Res (List ℕ)} {r : WidthsRead.WidthsRead} → r ≡ widths_answer x → r ≡ WidthsRead.TheVariants.Fine
    → (ws : List ℕ) × (x ≡ ok ws)
unfolding widths_answer
widths-read {x = ok ws} p q = (ws, refl)
widths-read {x = no n a} p q = let z : ◌≡◌ {A = ℕ} 0 1 = cc in absurd (omega arith)

pub widths-no : {x : Res (List ℕ)} {r : WidthsRead.WidthsRead} {n p : ℕ} → r ≡ widths_answer x → r ≡ WidthsRead.TheVariants.Refused n p → x ≡ no n p
unfolding widths_answer
widths-no {x = ok ws} p q = cc
widths-no {x = no n a} p q = cc

-- ---- read_wires

module _ (c : Scope) (s : List ℕ) (starts : List ℕ) (n k v p : ℕ) where
  pub wires-done : n ≤ k
      → record { read = PlaceRead.TheVariants.At p; starts = starts } ≡ filled starts k (read_wires (located s) c s (n - k) v p)
  unfolding read_wires filled
  wires-done h = let e : n - k ≡ 0 = omega arith in rw e

  pub wires-expr : {m q : ℕ} → k < n → located s c p ≡ no m q
      → record { read = PlaceRead.TheVariants.Refused m q; starts = replicate 32 0 } ≡ filled starts k (read_wires (located s) c s (n - k) v p)
  unfolding read_wires filled
  wires-expr h e = rw (one_more n k h, e)

  pub wires-apart : {e : Parsed ℕ} → k < n → located s c p ≡ ok e → (e.width ≡ get_or c.widths v 0 → ⊥)
      → record { read = PlaceRead.TheVariants.Refused 8 p; starts = replicate 32 0 } ≡ filled starts k (read_wires (located s) c s (n - k) v p)
  unfolding read_wires filled
  wires-apart h e w = rw (one_more n k h, e, ne_eqb _ _ w)

  pub wires-more : {e : Parsed ℕ} → k < n → located s c p ≡ ok e → e.item ≡ p → e.width ≡ get_or c.widths v 0
      → filled starts k (read_wires (located s) c s (n - k) v p)
      ≡ filled (set starts k p) (k + 1) (read_wires (located s) c s (n - (k + 1)) (v + 1) e.next)
  unfolding read_wires filled
  wires-more {e} h f i w =
      rw (one_more n k h, f, eq-eqb _ _ w, i, add-one k) (by (read_wires (located s) c s (n - suc k) (v + 1) e.next))
    where
      by : (x : Res (Listed ℕ))
          → filled starts k (x >>= λ es. ok (record { items = p ∷ es.items; next = es.next })) ≡ filled (set starts k p) (suc k) x
      by (ok es) = refl
      by (no m q) = refl

-- A place for each wire.
pub wires-count : {E : Type 0} (expr : Scope → ℕ → Res (Parsed E)) (c : Scope) (s : List ℕ) (n v p : ℕ) {l : Listed E}
    → read_wires expr c s n v p ≡ ok l → n ≡ length l.items
unfolding read_wires
wires-count expr c s zero v p h = rw (← ok-injective h) refl
wires-count expr c s (suc n) v p h =
    let e = bind_ok (expr c p) _ h in
    let w = check-ok (eqb e.0.width (get_or c.widths v 0)) 8 p _ e.2 in
    let es = bind_ok (read_wires expr c s n (v + 1) e.0.next) _ w.1 in
    rw (← ok-injective es.2) (ap suc (wires-count expr c s n (v + 1) e.0.next es.1))

pub record Placed (x : Res (Listed ℕ)) (starts : List ℕ) (n : ℕ) : Type 0 where
  pub items : List ℕ
  pub read : x ≡ ok (record { items = items; next = n })
  pub same : starts ≡ starts_of items

pub wires-read : {x : Res (Listed ℕ)} {r : WiresRead} {n : ℕ} → r ≡ wires_answer x → r.read ≡ PlaceRead.TheVariants.At n → Placed x r.starts n
unfolding filled starts_of
wires-read {x = ok l} {r = r} {n = n} p q =
    let h : PlaceRead.TheVariants.At l.next ≡ PlaceRead.TheVariants.At n = sym (ap (λ (w : WiresRead). w.read) p) ∙ q in
    let e : l.next ≡ n = cc in
    record {
      items = l.items;
      read = λ i. ok (record { items = l.items; next = e i });
      same = ap (λ (w : WiresRead). w.starts) p;
    }
wires-read {x = no m a} {n = n} p q =
    let h : PlaceRead.TheVariants.Refused m a ≡ PlaceRead.TheVariants.At n = sym (ap (λ (w : WiresRead). w.read) p) ∙ q in
    let z : ◌≡◌ {A = ℕ} 0 1 = cc in
    absurd (omega arith)

pub wires-no : {x : Res (Listed ℕ)} {r : WiresRead} {n a : ℕ} → r ≡ wires_answer x → r.read ≡ PlaceRead.TheVariants.Refused n a → x ≡ no n a
unfolding filled
wires-no {x = ok l} {n = n} {a = a} p q =
    let h : PlaceRead.TheVariants.At l.next ≡ PlaceRead.TheVariants.Refused n a = sym (ap (λ (w : WiresRead). w.read) p) ∙ q in
    cc
wires-no {x = no m b} {n = n} {a = a} p q =
    let h : PlaceRead.TheVariants.Refused m b ≡ PlaceRead.TheVariants.Refused n a = sym (ap (λ (w : WiresRead). w.read) p) ∙ q in
    cc

-- ---- the functions' answer

pub record Told (x : Res Defined) (places : List ℕ) (n : ℕ) : Type 0 where
  pub definitions : Defined
  pub read : x ≡ ok definitions
  pub end : definitions.next ≡ n
  pub same : places ≡ definitions_of definitions.places

pub functions-read : {x : Res Defined} {r : FunctionsRead} {n : ℕ} → r ≡ functions_answer x → r.read ≡ PlaceRead.TheVariants.At n → Told x r.definitions n
unfolding defined definitions_of
functions-read {x = ok d} {r = r} {n = n} p q =
    let h : PlaceRead.TheVariants.At d.next ≡ PlaceRead.TheVariants.At n = sym (ap (λ (f : FunctionsRead). f.read) p) ∙ q in
    record { definitions = d; read = refl; end = cc; same = ap (λ (f : FunctionsRead). f.definitions) p }
functions-read {x = no m a} {n = n} p q =
    let h : PlaceRead.TheVariants.Refused m a ≡ PlaceRead.TheVariants.At n = sym (ap (λ (f : FunctionsRead). f.read) p) ∙ q in
    let z : ◌≡◌ {A = ℕ} 0 1 = cc in
    absurd (omega arith)

pub functions-no : {x : Res Defined} {r : FunctionsRead} {n a : ℕ} → r ≡ functions_answer x → r.read ≡ PlaceRead.TheVariants.Refused n a → x ≡ no n a
unfolding defined
functions-no {x = ok d} {n = n} {a = a} p q =
    let h : PlaceRead.TheVariants.At d.next ≡ PlaceRead.TheVariants.Refused n a = sym (ap (λ (f : FunctionsRead). f.read) p) ∙ q in
    cc
functions-no {x = no m b} {n = n} {a = a} p q =
    let h : PlaceRead.TheVariants.Refused m b ≡ PlaceRead.TheVariants.Refused n a = sym (ap (λ (f : FunctionsRead). f.read) p) ∙ q in
    cc

-- ---- read_threads

module _ {E : Type 0} (expr : Scope → ℕ → Res (Parsed E)) (c : Scope) (s : List ℕ) (n k p : ℕ) where
  pub threads-done : n ≤ k → PlaceRead.TheVariants.At p ≡ place_answer (read_threads expr c s (n - k) p)
  unfolding read_threads place_answer
  threads-done h = let e : n - k ≡ 0 = omega arith in rw e

  pub threads-stmt : {m q : ℕ} → k < n → read_stmt expr c s 64 p ≡ no m q
      → PlaceRead.TheVariants.Refused m q ≡ place_answer (read_threads expr c s (n - k) p)
  unfolding read_threads place_answer
  threads-stmt h e = rw (one_more n k h, e)

  pub threads-long : {b : Body E} → k < n → read_stmt expr c s 64 p ≡ ok b → 256 ≤ size b.stmt
      → PlaceRead.TheVariants.Refused 11 p ≡ place_answer (read_threads expr c s (n - k) p)
  unfolding read_threads place_answer
  threads-long {b} h e l = rw (one_more n k h, e, lt-leb (size b.stmt + 1) 256 (omega arith))

  pub threads_more : {b : Body E} → k < n → read_stmt expr c s 64 p ≡ ok b → size b.stmt < 256
      → place_answer (read_threads expr c s (n - k) p) ≡ place_answer (read_threads expr c s (n - (k + 1)) b.next)
  unfolding read_threads place_answer
  threads_more {b} h e l =
      rw (one_more n k h, e, le-leb (size b.stmt + 1) 256 (omega arith)) (by (read_threads expr c s (n - (k + 1)) b.next))
    where
      by : (x : Res (Listed (Stmt E)))
          → place_answer (x >>= λ bs. ok (record { items = b.stmt ∷ bs.items; next = bs.next })) ≡ place_answer x
      by (ok bs) = refl
      by (no m q) = refl

-- A statement for each thread.
pub threads-count : {E : Type 0} (expr : Scope → ℕ → Res (Parsed E)) (c : Scope) (s : List ℕ) (n p : ℕ) {l : Listed (Stmt E)}
    → read_threads expr c s n p ≡ ok l → n ≡ length l.items
unfolding read_threads
threads-count expr c s zero p h = rw (← ok-injective h) refl
threads-count expr c s (suc n) p h =
    let b = bind_ok (read_stmt expr c s 64 p) _ h in
    let z = check-ok (leb (size b.0.stmt + 1) 256) 11 p _ b.2 in
    let bs = bind_ok (read_threads expr c s n b.0.next) _ z.1 in
    rw (← ok-injective bs.2) (ap suc (threads-count expr c s n b.0.next bs.1))

module _ {A : Type 0} where
  pub place_read : {x : Res (Listed A)} {r : PlaceRead.PlaceRead} {n : ℕ} → r ≡ place_answer x → r ≡ PlaceRead.TheVariants.At n
      → (l : List A) × (x ≡ ok (record { items = l; next = n }))
  unfolding place_answer
  place_read {x = ok l} {n = n} p q = let e : l.next ≡ n = cc in (l.items, λ i. ok (record { items = l.items; next = e i }))
  place_read {x = no m a} p q = let z : ◌≡◌ {A = ℕ} 0 1 = cc in absurd (omega arith)

  pub place-refused : {x : Res (Listed A)} {r : PlaceRead.PlaceRead} {n a : ℕ} → r ≡ place_answer x → r ≡ PlaceRead.TheVariants.Refused n a → x ≡ no n a
  unfolding place_answer
  place-refused {x = ok l} p q = cc
  place-refused {x = no m b} p q = cc

-- ---- read_head

pub head-refused : {x : Res Head} {r : HeadRead.HeadRead} {n p : ℕ} → r ≡ head_answer x → r ≡ HeadRead.TheVariants.Refused n p → x ≡ no n p
unfolding head_answer
head-refused {x = ok h} p q = cc
head-refused {x = no m a} p q = cc

-- The clock's width and the others are one part of the sheet.
all-widths : (s : List ℕ) (at n : ℕ) {c : ℕ} {ws : List ℕ} → 0 < n → at < length s → get_or s at 0 ≡ c → ws ≡ take (n - 1) (drop (at + 1) s)
    → c ∷ ws ≡ take n (drop at s)
all-widths s at zero h b e f = absurd (omega arith)
all-widths s at (suc n) h b e f = simp (drop-cons s at 0 b, e, ← add-one at, f, sub-one)

pub first-ok : (s : List ℕ) (at : ℕ) {b : ℕ} → first_at s at ≡ ok b → (at < length s) × (1 ≤ inputs_of b) × (inputs_of b ≤ 16)
unfolding first_at
first-ok s at {b} h =
    let x = bind_ok (byte_at s at) _ h in
    let y = check-ok (leb 1 (inputs_of x.0)) 3 at _ x.2 in
    let z = check-ok (leb (inputs_of x.0) 16) 3 at _ y.1 in
    rw (← ok-injective z.1) ((byte-ok s at x.1).0, leb-true 1 (inputs_of x.0) y.0, leb-true (inputs_of x.0) 16 z.0)

module _ (s : List ℕ) (at : ℕ) where
  pub first-end : length s ≤ at → first_at s at ≡ no 2 (length s)
  unfolding first_at
  first-end h = simp (byte-end s at h)

  module _ (h : at < length s) {i : ℕ} (e : i ≡ inputs_of (get_or s at 0)) where
    pub first-none : i < 1 → first_at s at ≡ no 3 at
    unfolding first_at
    first-none l = simp (byte-at s at h, ← e, lt-leb 1 i l)

    pub first-many : 16 < i → first_at s at ≡ no 3 at
    unfolding first_at
    first-many l = simp (byte-at s at h, ← e, le-leb 1 i (omega arith), lt-leb i 16 l)

    pub first_made : 1 ≤ i → i ≤ 16 → first_at s at ≡ ok (get_or s at 0)
    unfolding first_at
    first_made l m = simp (byte-at s at h, ← e, le-leb 1 i l, le-leb i 16 m)

pub count_none : (b : ℕ) (s : List ℕ) (at : ℕ) → b < 128 → function_count b s at ≡ ok 0
unfolding function_count
count_none b s at h = simp (lt-ltb b 128 h)

pub count-given : (b : ℕ) (s : List ℕ) (at : ℕ) → 128 ≤ b → function_count b s at ≡ within 1 8 3 s at
unfolding function_count
count-given b s at h = simp (le-ltb b 128 h)

pub count-ok : (b : ℕ) (s : List ℕ) (at : ℕ) {n : ℕ} → function_count b s at ≡ ok n → n ≤ 8
unfolding function_count
count-ok b s at {n} h = by (ltb b 128) h
  where
    by : (t : Bool) → pick t (ok 0) (within 1 8 3 s at) ≡ ok n → n ≤ 8
    by true g = rw (← ok-injective g) (omega arith)
    by false g = (within-ok 1 8 3 s at g).most

-- the numbers of a head
some-widths : (i r w : ℕ) → 1 ≤ i → 0 < i + r + w
some-widths i r w h = omega arith

next-inside : (a l : ℕ) → a < l → a + 1 ≤ l
next-inside a l h = omega arith

all-inside : (a i r w l : ℕ) → 1 ≤ i → a + 1 + (i + r + w - 1) ≤ l → a + (i + r + w) ≤ l
all-inside a i r w l h g = omega arith

-- A head that was read: its counts are within range, and it is the head of these counts.
pub record Headed (s : List ℕ) (h : Head) : Type 0 where
  pub inputs-most : h.scope.inputs ≤ 16
  pub registers-most : h.scope.registers ≤ 32
  pub wires-most : h.wires ≤ 32
  pub threads-most : h.threads ≤ 8
  pub functions-most : h.scope.declared ≤ 8
  pub inside : widths_at h.scope.declared + (h.scope.inputs + h.scope.registers + h.wires) ≤ length s
  pub same : h ≡ head_of s h.scope.inputs h.scope.registers h.wires h.threads h.scope.declared

pub headed : (s : List ℕ) {h : Head} → read_head s ≡ ok h → Headed s h
unfolding read_head
headed s e =
    let b = bind_ok (first_at s 0) _ e in
    let r = bind_ok (within 1 32 3 s 1) _ b.2 in
    let w = bind_ok (within 0 32 3 s 2) _ r.2 in
    let t = bind_ok (within 1 8 3 s 3) _ w.2 in
    let n = bind_ok (function_count b.0 s 4) _ t.2 in
    let c = bind_ok (within 1 1 4 s (widths_at n.0)) _ n.2 in
    let ws = bind_ok (read_widths (inputs_of b.0 + r.0 + w.0 - 1) s (widths_at n.0 + 1)) _ c.2 in
    let hb = first-ok s 0 b.1 in
    let hr = within-ok 1 32 3 s 1 r.1 in
    let hw = within-ok 0 32 3 s 2 w.1 in
    let ht = within-ok 1 8 3 s 3 t.1 in
    let hc = within-ok 1 1 4 s (widths_at n.0) c.1 in
    let part = widths-part (inputs_of b.0 + r.0 + w.0 - 1) s (widths_at n.0 + 1) (next-inside _ _ hc.below) ws.1 in
    let all = all-widths s (widths_at n.0) (inputs_of b.0 + r.0 + w.0) (some-widths _ r.0 w.0 hb.1) hc.below hc.same part.0 in
    rw (← ok-injective ws.2)
    (record {
      inputs-most = hb.2;
      registers-most = hr.most;
      wires-most = hw.most;
      threads-most = ht.most;
      functions-most = count-ok b.0 s 4 n.1;
      inside = all-inside (widths_at n.0) (inputs_of b.0) r.0 w.0 (length s) hb.1 part.1;
      same =
          ap
          (λ (l : List ℕ). record {
            scope = record { inputs = inputs_of b.0; registers = r.0; widths = l; declared = n.0; functions = [] };
            wires = w.0;
            threads = t.0;
            next = widths_at n.0 + (inputs_of b.0 + r.0 + w.0);
          })
          all;
    })

pub head-read : (s : List ℕ) {a : HeadRead.HeadRead} {i r w t n : ℕ} → a ≡ head_answer (read_head s) → a ≡ HeadRead.TheVariants.Read i r w t n
    → read_head s ≡ ok (head_of s i r w t n)
unfolding head_answer
head-read s {i = i} {r = r} {w = w} {t = t} {n = n} p q = by (read_head s) refl (sym p ∙ q)
  where
    by : (x : Res Head) → read_head s ≡ x → head_answer x ≡ HeadRead.TheVariants.Read i r w t n → x ≡ ok (head_of s i r w t n)
    by (ok h) e g =
        let hi : h.scope.inputs ≡ i = cc in
        let hr : h.scope.registers ≡ r = cc in
        let hw : h.wires ≡ w = cc in
        let ht : h.threads ≡ t = cc in
        let hn : h.scope.declared ≡ n = cc in
        ap ok (headed s e).same ∙ (λ j. ok (head_of s (hi j) (hr j) (hw j) (ht j) (hn j)))
    by (no m a) e g = cc

-- ---- whole_sheet

module _ (s : List ℕ) where
  pub whole_long : 8192 < length s → whole_sheet (located s) s ≡ no 1 8192
  unfolding whole_sheet
  whole_long l = simp (lt-leb (length s) 8192 l)

  pub whole-head : {n p : ℕ} → length s ≤ 8192 → read_head s ≡ no n p → whole_sheet (located s) s ≡ no n p
  unfolding whole_sheet
  whole-head l h = simp (le-leb (length s) 8192 l, h)

-- Behind the head.
module _ (s : List ℕ) (small : length s ≤ 8192) {h : Head} (head : read_head s ≡ ok h) where
  abbrev all_of : Res Defined
  all_of = read_functions h.scope.declared h.scope.declared [] s h.next

  pub whole-functions : {n p : ℕ} → all_of ≡ no n p → whole_sheet (located s) s ≡ no n p
  unfolding whole_sheet
  whole-functions f = rw (le-leb (length s) 8192 small, head, f)

  module _ {d : Defined} (defs : all_of ≡ ok d) where
    abbrev wires-of : Res (Listed ℕ)
    wires-of = read_wires (located s) (with_functions h.scope d.functions) s h.wires (h.scope.inputs + h.scope.registers) d.next

    abbrev threads-of : ℕ → Res (Listed (Stmt ℕ))
    threads-of p = read_threads (located s) (with_functions h.scope d.functions) s h.threads p

    pub body-wires : {n p : ℕ} → wires-of ≡ no n p → whole_sheet (located s) s ≡ no n p
    unfolding whole_sheet
    body-wires e = rw (le-leb (length s) 8192 small, head, defs, e)

    pub body-threads : {es : Listed ℕ} {n p : ℕ} → wires-of ≡ ok es → threads-of es.next ≡ no n p → whole_sheet (located s) s ≡ no n p
    unfolding whole_sheet
    body-threads e b = rw (le-leb (length s) 8192 small, head, defs, e, b)

    pub body-over : {es : Listed ℕ} {bs : Listed (Stmt ℕ)} → wires-of ≡ ok es → threads-of es.next ≡ ok bs → (bs.next ≡ length s → ⊥)
        → whole_sheet (located s) s ≡ no 10 bs.next
    unfolding whole_sheet
    body-over {bs = bs} e b o = rw (le-leb (length s) 8192 small, head, defs, e, b, ne_eqb bs.next (length s) o)

    pub body-made : {es : Listed ℕ} {bs : Listed (Stmt ℕ)} → wires-of ≡ ok es → threads-of es.next ≡ ok bs → bs.next ≡ length s
        → whole_sheet (located s) s
        ≡ ok
        (record {
          contents = record { scope = with_functions h.scope d.functions; wires = es.items; threads = bs.items };
          definitions = d.places;
          body = es.next;
        })
    unfolding whole_sheet
    body-made {bs = bs} e b o = rw (le-leb (length s) 8192 small, head, defs, e, b, eq-eqb bs.next (length s) o)

pub answer-sheet-refused : {x : Res (Sheet ℕ)} {r : SheetRead} {n p : ℕ} → x ≡ no n p → r ≡ sheet_answer (no n p) → r ≡ sheet_answer x
answer-sheet-refused h e = e ∙ sym (ap sheet_answer h)

pub answer-sheet : {x : Res (Sheet ℕ)} {r : Sheet ℕ} {w t : ℕ} {starts : List ℕ} → x ≡ ok r → w ≡ length r.contents.wires
    → t ≡ length r.contents.threads → starts ≡ starts_of r.contents.wires
    → record {
      number = 0;
      place = 0;
      layout =
          record {
            inputs = r.contents.scope.inputs;
            registers = r.contents.scope.registers;
            wires = w;
            threads = t;
            functions = r.contents.scope.declared;
            widths = widths_at r.contents.scope.declared;
            definitions = definitions_of r.definitions;
            starts = starts;
            body = r.body;
          };
    }
    ≡ sheet_answer x
unfolding sheet_answer layout_of
answer-sheet h w t e = rw (h, w, t, e)
