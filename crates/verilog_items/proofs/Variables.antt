-- Declarations: the reader on the tables follows the grammar's. Assumes nothing.
use mathlib.Core.Path.{◌≡◌, refl, sym, ap, ◌∙◌, subst}
use mathlib.Core.Bool.{Bool, true, false, ◌&&◌}
use mathlib.Core.List.{List, [], ◌∷◌, ◌++◌, map}
use Prim.Native.Nat.{ℕ, zero, suc, ◌+◌, ◌-◌, ◌<◌, ◌≤◌}
use native.Mathlib.Omega.{arith}
use lib.Dec.{eqb}
use lib.ListN.{length}
use Rattle.values.specs.Values.{pick}
use Rattle.writing.specs.Ascii.{ascii}
use Rattle.naming.specs.Naming.{same_text}
use Rattle.verilog_tokens.specs.Tokens.{Token, terminal, name, number, known, unknown, broken, Name}
use Rattle.verilog_tokens.specs.Table.{terminals, number_from, up_to255}
use Rattle.verilog_grammar.specs.Meaning.{up_to, Kind, Part, declares}
use Rattle.verilog_grammar.specs.Reader.{Res, ok, no, Reader as Reads, bind, give, starts, if_next, expect, list}
use Rattle.verilog_grammar.specs.Reader
use Rattle.verilog_source.specs.Names.{of_width}
use Rattle.verilog_exprs.specs.declared.Put.{Put}
use Rattle.verilog_exprs.specs.Rows.{row_at, wrote, expected}
use Rattle.verilog_exprs.specs.Following.{Tabled, From, Stopped}
use Rattle.verilog_exprs.proofs.Table.{expected-no}
use Rattle.verilog_exprs.proofs.Marks.{Numbered, colon-mark}
use Rattle.verilog_exprs.proofs.Follows.{starts_none, expect-first}
use Rattle.verilog_stmts.specs.Steps.{refused, after, is_next}
use Rattle.verilog_stmts.proofs.Signs.{semicolon-mark}
use Rattle.verilog_names.specs.Entries.{Entry, variable, entries_of, role_of}
use Rattle.verilog_items.specs.Notes.{Marks, marks}
use Rattle.verilog_items.specs.Items.{stay, passed, is_number, unsigned, naught, bounds, range, range_width, names, name_list, declaration}
use Rattle.verilog_items.specs.Following.{Good, Tells}
use Rattle.verilog_items.proofs.Taking.{Took, Still, expected-as, good-after, took-tells, tells-then, next-starts, expect-took}
use Rattle.verilog_items.proofs.Taking.{unsigned-took, naught-took, value-is, width-kept}
use Rattle.verilog_items.proofs.Declaring.{variable-noted, list_tells}

-- ---- marks

pub left-mark : Numbered (ascii "[") 22
unfolding number_from terminals ascii same_text
left-mark = (refl, omega arith)

pub right-mark : Numbered (ascii "]") 23
unfolding number_from terminals ascii same_text
right-mark = (refl, omega arith)

-- ---- a refusal stays

abbrev pub Stays : (Marks → Marks) → Type 0
Stays f = (m : Marks) → m.put.ok ≡ false → ((f m).put.ok ≡ false) × ((f m).put.next ≡ m.put.next)

pub stays_then : (f g : Marks → Marks) → Stays f → Stays g → Stays (λ m. g (f m))
stays_then f g a b m h =
    let x = a m h in
    let y = b (f m) x.0 in
    (y.0, y.1 ∙ x.1)

pub still-of : (ts : List Token) (f : Marks → Marks) → Stays f → (m : Marks) (n : ℕ) → Stopped ts (wrote m.put []) n
    → Stopped ts (wrote (f m).put []) n
still-of ts f a m n s = record { not = (a m s.not).0; at = ap (λ x. x + n) (a m s.not).1 ∙ s.at }

pub not-next : (ks : List ℕ) (k : ℕ) (p : Put) → p.ok ≡ false → is_next ks k p ≡ false
unfolding is_next
not-next ks k p h = rw h refl

pub stays-expected : (ks : List ℕ) (k : ℕ) → Stays (passed (expected ks k))
stays-expected ks k m h = rw (expected-no ks k m.put h) (refl, refl)

stays-naught : (ks ns : List ℕ) → Stays (passed (naught ks ns))
unfolding naught is_number refused
stays-naught ks ns m h = rw (not-next ks 65 m.put h, not-next ks 66 m.put h) (refl, refl)

pub stays-names : (ks : List ℕ) (role width g : ℕ) → Stays (names ks role width g)
unfolding names refused
stays-names ks role width zero m h = (refl, refl)
stays-names ks role width (suc g) m h = rw (not-next ks 64 m.put h) (refl, refl)

pub stays-list : (ks : List ℕ) (count role width : ℕ) → Stays (name_list ks count role width)
unfolding name_list
stays-list ks count role width m h = stays-names ks role width (count - m.put.next) m h

-- ---- what a reader of several things read

record Bound {A B : Type 0} (r : Res A) (g : A → Reads B) (b : B) (vs : List Token) : Type 0 where
  value : A
  rest : List Token
  first : r ≡ ok value rest
  behind : g value rest ≡ ok b vs

unfoldable is_ok : {A : Type 0} → Res A → ℕ
is_ok (ok a us) = 1
is_ok (no n) = 0

bound : {A B : Type 0} (r : Res A) (g : A → Reads B) (b : B) (vs : List Token) → bind r g ≡ ok b vs → Bound r g b vs
unfolding is_ok
bound (ok a us) g b vs e = record { value = a; rest = us; first = refl; behind = e }
bound (no n) g b vs e = let z : ◌≡◌ {A = ℕ} 0 1 = ap is_ok e in absurd (omega arith)

unfoldable value_of : Res ℕ → ℕ
value_of (ok a us) = a
value_of (no n) = 0

module _ (index numbered : List ℕ → ℕ) (ts : List Token) (ks ns : List ℕ) (tab : Tabled numbered ts ks ns) where
  -- A mark that is asked for.
  pub asked : {B : Type 0} (w : List ℕ) (k : ℕ) → Numbered w k → 1 ≤ k → (f : Marks → Marks) → Stays f → (e_b : B → List Entry)
      (g : Unit {0} → Reads B) (m : Marks) (us : List Token) (es : List Entry) → Good index ts us m es
      → ((vs : List Token) → Good index ts vs (passed (expected ks k) m) es → Tells index ts e_b (f (passed (expected ks k) m)) (g tt vs))
      → Tells index ts e_b (f (passed (expected ks k) m)) (bind (expect w us) g)
  asked w k mark one f st e_b g m us es h c =
      tells-then index ts tab.few f (λ u. es) e_b (passed (expected ks k) m) (expect w us) g
      (rw (expected-as ks k m.put one)
      (took-tells index ts tab.few (λ u. es) (expect w us) h (λ u. refl)
      (expect-took numbered ts ks ns tab m.put h.yes w k mark one us h.to)))
      (still-of ts f st) (λ u vs q j. c vs j)

  -- ---- `[n:0]`, or nothing

  bounds-tell : (m : Marks) (us : List Token) (es : List Entry) → Good index ts us m es → starts (ascii "[") us ≡ true
      → Tells index ts (λ w. es) (passed (bounds ks ns) m) (Reader.bounds index us)
  unfolding bounds unsigned naught Reader.bounds Tells
  bounds-tell m [] es h z = absurd (starts_none (ascii "[") z)
  bounds-tell m (t ∷ us) es h z =
      let a = passed after m in
      let h1 : Good index ts us a es = good-after index ts tab.few {m = m} h in
      let b = passed (unsigned ks) a in
      rw (expect-first (ascii "[") t us z)
      (tells-then index ts tab.few (λ x. passed (expected ks 23) (passed (naught ks ns) (passed (expected ks 24) x))) (λ n. es) (λ w. es) b
      (Reader.unsigned us) _ (number a us h1)
      (still-of ts (λ x. passed (expected ks 23) (passed (naught ks ns) (passed (expected ks 24) x)))
      (stays_then (passed (expected ks 24)) (λ x. passed (expected ks 23) (passed (naught ks ns) x)) (stays-expected ks 24)
      (stays_then (passed (naught ks ns)) (passed (expected ks 23)) (stays-naught ks ns) (stays-expected ks 23))))
      (λ n vs q h2. asked (ascii ":") 24 colon-mark (omega arith) (λ x. passed (expected ks 23) (passed (naught ks ns) x))
      (stays_then (passed (naught ks ns)) (passed (expected ks 23)) (stays-naught ks ns) (stays-expected ks 23)) (λ w. es) _ b vs es h2
      (λ vs3 h3. tells-then index ts tab.few (passed (expected ks 23)) (λ u. es) (λ w. es) (passed (naught ks ns) (passed (expected ks 24) b))
      (Reader.naught vs3) _ (none (passed (expected ks 24) b) vs3 h3) (still-of ts (passed (expected ks 23)) (stays-expected ks 23))
      (λ u vs4 q4 h4. asked (ascii "]") 23 right-mark (omega arith) (λ x. x) (λ x e. (e, refl)) (λ w. es) (λ u. give (n + 1))
      (passed (naught ks ns) (passed (expected ks 24) b)) vs4 es h4 (λ vs5 h5. given (n + 1) _ vs5 h5)))))
    where
      number : (m : Marks) (us : List Token) → Good index ts us m es → Tells index ts (λ n. es) (passed (unsigned ks) m) (Reader.unsigned us)
      number m us h =
          took-tells index ts tab.few (λ n. es) (Reader.unsigned us) h (λ n. refl) (unsigned-took numbered ts ks ns tab m.put h.yes us h.to)

      none : (m : Marks) (us : List Token) → Good index ts us m es → Tells index ts (λ u. es) (passed (naught ks ns) m) (Reader.naught us)
      none m us h =
          took-tells index ts tab.few (λ u. es) (Reader.naught us) h (λ u. refl) (naught-took numbered ts ks ns tab m.put h.yes us h.to)

      given : (w : ℕ) (m : Marks) (us : List Token) → Good index ts us m es → Tells index ts (λ w. es) m (give w us)
      given w m us h = h

  pub range-tells : (m : Marks) (us : List Token) (es : List Entry) → Good index ts us m es
      → Tells index ts (λ w. es) (passed (range ks ns) m) (Reader.range index us)
  unfolding range Reader.range if_next Tells
  range-tells m us es h =
      by (starts (ascii "[") us) refl (next-starts numbered ts ks ns tab m.put us h.yes h.to (ascii "[") 22 left-mark (omega arith))
    where
      by : (b : Bool) → starts (ascii "[") us ≡ b → is_next ks 22 m.put ≡ starts (ascii "[") us
          → Tells index ts (λ w. es) (passed (range ks ns) m) (Reader.range index us)
      by true z n = rw (n, z) (bounds-tell m us es h z)
      by false z n = rw (n, z) h

  -- ---- the width that stands there

  width_read : (p : Put) (us : List Token) → p.ok ≡ true → From ts p.next us → (n : ℕ) (vs : List Token) → Reader.unsigned us ≡ ok n vs
      → up_to 32 (row_at ns p.next + 1) ≡ up_to 32 (n + 1)
  unfolding Reader.unsigned is_ok value_of
  width_read p [] o f n vs e = let z : ◌≡◌ {A = ℕ} 0 1 = ap is_ok e in absurd (omega arith)
  width_read p (terminal w ∷ us) o f n vs e = let z : ◌≡◌ {A = ℕ} 0 1 = ap is_ok e in absurd (omega arith)
  width_read p (name w ∷ us) o f n vs e = let z : ◌≡◌ {A = ℕ} 0 1 = ap is_ok e in absurd (omega arith)
  width_read p (number b k ∷ us) o f n vs e =
      ap (λ x. up_to 32 (x + 1)) (value-is numbered ts ks ns tab p o b k us f) ∙ width-kept k ∙ ap (λ r. up_to 32 (value_of r + 1)) e
  width_read p (known v ∷ us) o f n vs e = let z : ◌≡◌ {A = ℕ} 0 1 = ap is_ok e in absurd (omega arith)
  width_read p (unknown ∷ us) o f n vs e = let z : ◌≡◌ {A = ℕ} 0 1 = ap is_ok e in absurd (omega arith)
  width_read p (broken ∷ us) o f n vs e = let z : ◌≡◌ {A = ℕ} 0 1 = ap is_ok e in absurd (omega arith)

  bounds-width : (m : Marks) (us : List Token) (es : List Entry) → Good index ts us m es → starts (ascii "[") us ≡ true
      → (w : ℕ) (vs : List Token) → Reader.bounds index us ≡ ok w vs → up_to 32 (row_at ns (after m.put).next + 1) ≡ up_to 32 w
  unfolding Reader.bounds value_of
  bounds-width m [] es h z w vs e = absurd (starts_none (ascii "[") z)
  bounds-width m (t ∷ us) es h z w vs e =
      let g = good-after index ts tab.few {m = m} h in
      let a = bound (expect (ascii "[") (t ∷ us)) _ w vs e in
      let f = sym (expect-first (ascii "[") t us z) ∙ a.first in
      let b = bound (Reader.unsigned a.rest) _ w vs a.behind in
      let c = bound (expect (ascii ":") b.rest) _ w vs b.behind in
      let d = bound (Reader.naught c.rest) _ w vs c.behind in
      let x = bound (expect (ascii "]") d.rest) _ w vs d.behind in
      width_read (after m.put) us g.yes g.to b.value b.rest (ap (λ l. Reader.unsigned l) (ap rest_of f) ∙ b.first)
      ∙ ap (λ r. up_to 32 (value_of r)) x.behind
    where
      rest_of : Res (Unit {0}) → List Token
      rest_of (ok u l) = l
      rest_of (no n) = []

  pub range-width : (m : Marks) (us : List Token) (es : List Entry) → Good index ts us m es → (w : ℕ) (vs : List Token)
      → Reader.range index us ≡ ok w vs → range_width ks ns m.put ≡ up_to 32 w
  unfolding range_width Reader.range if_next value_of up_to
  range-width m us es h w vs e =
      by (starts (ascii "[") us) refl (next-starts numbered ts ks ns tab m.put us h.yes h.to (ascii "[") 22 left-mark (omega arith))
    where
      by : (b : Bool) → starts (ascii "[") us ≡ b → is_next ks 22 m.put ≡ starts (ascii "[") us → range_width ks ns m.put ≡ up_to 32 w
      by true z n = rw (n, z) (bounds-width m us es h z w vs (rw z at e))
      by false z n = rw (n, z) (ap (λ r. up_to 32 (value_of r)) (rw z at e))

  -- ---- `input`, `reg` or `wire`

  pub declaration-tells : (s : List ℕ) (k : Kind) (m : Marks) (us : List Token) (es : List Entry) → Good index ts us m es
      → starts s us ≡ true
      → Tells index ts (λ q. es ++ entries_of q) (declaration ks ns (length ts) (role_of k) m) (Reader.declaration index s k us)
  unfolding declaration Reader.declaration entries_of of_width Tells
  declaration-tells s k m [] es h z = absurd (starts_none s z)
  declaration-tells s k m (t ∷ us) es h z =
      let a = passed after m in
      let h1 : Good index ts us a es = good-after index ts tab.few {m = m} h in
      let v = range_width ks ns a.put in
      rw (expect-first s t us z)
      (tells-then index ts tab.few (λ x. passed (expected ks 25) (name_list ks (length ts) (role_of k) v x)) (λ w. es) (λ q. es ++ entries_of q)
      (passed (range ks ns) a) (Reader.range index us) _ (range-tells a us es h1)
      (still-of ts (λ x. passed (expected ks 25) (name_list ks (length ts) (role_of k) v x))
      (stays_then (name_list ks (length ts) (role_of k) v) (passed (expected ks 25)) (stays-list ks (length ts) (role_of k) v) (stays-expected ks 25)))
      (λ w vs q h2. tells-then index ts tab.few (passed (expected ks 25)) (λ l. es ++ map (variable k) (of_width w l)) (λ q. es ++ entries_of q)
      (name_list ks (length ts) (role_of k) v (passed (range ks ns) a)) (list Reader.ident vs) _
      (list_tells index numbered ts ks ns tab (role_of k) v (λ n. variable k (record { named = n; width = w }) ∷ []) (λ l. map (variable k) (of_width w l)) refl (λ n l. refl)
      (variable-noted index numbered ts ks ns tab k w v (range-width a us es h1 w vs q))
      (passed (range ks ns) a) vs es h2)
      (still-of ts (passed (expected ks 25)) (stays-expected ks 25))
      (λ l vs3 q3 h3. asked (ascii ";") 25 semicolon-mark (omega arith) (λ x. x) (λ x e. (e, refl)) (λ q. es ++ entries_of q) (λ u. give (declares k w l))
      (name_list ks (length ts) (role_of k) v (passed (range ks ns) a)) vs3 (es ++ map (variable k) (of_width w l)) h3 (λ vs4 h4. given w l _ vs4 h4))))
    where
      given : (w : ℕ) (l : List Name) (m : Marks) (us : List Token) → Good index ts us m (es ++ map (variable k) (of_width w l))
          → Tells index ts (λ q. es ++ entries_of q) m (give (declares k w l) us)
      given w l m us h = h
