-- One token of the table beside the grammar's readers of one token. Assumes nothing.
use mathlib.Core.Path.{◌≡◌, refl, sym, ap, ◌∙◌, subst}
use mathlib.Core.Bool.{Bool, true, false, ◌&&◌, ◌||◌}
use mathlib.Core.List.{List, [], ◌∷◌, ◌++◌}
use Prim.Native.Nat.{ℕ, zero, suc, ◌+◌, ◌-◌, ◌<◌, ◌≤◌}
use native.Mathlib.Omega.{arith}
use lib.Dec.{ltb, leb, eqb}
use lib.ListN.{length, get_or}
use borrow.Author.Tests.{lt-ltb, ltb-true, ltb-false, eq-eqb, ne_eqb, lt-leb}
use Rattle.values.specs.Values.{pick}
use Rattle.verilog_tokens.specs.Tokens.{Token, terminal, name, number, known, unknown, broken, Name}
use Rattle.verilog_tokens.specs.Table.{kind_of, number_in, up_to255}
use Rattle.verilog_grammar.specs.Meaning.{up_to}
use Rattle.verilog_grammar.specs.Reader.{Res, ok, no, Reader, bind, give, starts, expect}
use Rattle.verilog_grammar.specs.Reader
use Rattle.verilog_exprs.specs.declared.Put.{Put}
use Rattle.verilog_exprs.specs.Rows.{row_at, answer, wrote, is_at, expected}
use Rattle.verilog_exprs.specs.Following.{Tabled, From, Stopped}
use Rattle.verilog_exprs.proofs.Marks.{Numbered, terminal-other, kind_front, starts_is}
use Rattle.verilog_exprs.proofs.Follows.{from_next, kind-is, number_is, starts_none, expect-first, expect-other}
use Rattle.verilog_stmts.specs.Steps.{refused, after, is_next}
use Rattle.verilog_names.specs.Entries.{Entry}
use Rattle.verilog_items.specs.Notes.{Marks, marks}
use Rattle.verilog_items.specs.Items.{passed, is_number, unsigned, naught, ident}
use Rattle.verilog_items.specs.Following.{Good, Tells}
use Rattle.verilog_items.proofs.Noting.{good-on}

-- ---- readers of one token: it is taken, or they refuse there

pub data Took {A : Type 0} (us : List Token) (b : Bool) : Res A → Type 0 where
  takes : {a : A} {t : Token} {vs : List Token} → us ≡ t ∷ vs → b ≡ true → Took us b (ok a vs)
  leaves : b ≡ false → Took us b (no (length us))

-- A name.
pub data Named (us : List Token) (b : Bool) : Res Name → Type 0 where
  named : {n : Name} {vs : List Token} → us ≡ name n ∷ vs → b ≡ true → Named us b (ok n vs)
  unnamed : b ≡ false → Named us b (no (length us))

pub took-name : {us : List Token} {b : Bool} {r : Res Name} → Named us b r → Took us b r
took-name (named e h) = takes e h
took-name (unnamed h) = leaves h

-- A mark that is asked for, by its test.
pub expected-as : (ks : List ℕ) (k : ℕ) (p : Put) → 1 ≤ k → expected ks k p ≡ pick (is_next ks k p) after refused p
unfolding expected is_at is_next row_at after refused
expected-as ks k p one = by p.ok refl (ltb p.next 16385) refl (eqb (get_or ks p.next 0) k) refl
  where
    by : (o : Bool) → p.ok ≡ o → (b : Bool) → ltb p.next 16385 ≡ b → (c : Bool) → eqb (get_or ks p.next 0) k ≡ c
        → expected ks k p ≡ pick (is_next ks k p) after refused p
    by false x b y c z = rw x refl
    by true x false y c z = rw (x, y, ne_eqb 0 k (λ e. omega arith)) refl
    by true x true y true z = rw (x, y, z) (rw y refl)
    by true x true y false z = rw (x, y, z) refl

module _ (index : List ℕ → ℕ) (ts : List Token) (few : length ts ≤ 16384) where
  pub good-after : {t : Token} {us : List Token} {m : Marks} {es : List Entry} → Good index ts (t ∷ us) m es
      → Good index ts us (passed after m) es
  unfolding after
  good-after {t} {us} {m} g =
      let i = m.put.next in
      let h : i < 16385 = omega (arith, g.to.count) in
      rw (lt-ltb i 16385 h) (good-on index ts g (answer m.put.ok (i + 1) m.put.pos) g.yes (from_next ts i t us g.to) (omega arith))

  pub took-tells : {A : Type 0} (e : A → List Entry) {us : List Token} {b : Bool} (r : Res A) {m : Marks} {es : List Entry}
      → Good index ts us m es → ((a : A) → es ≡ e a) → Took us b r
      → Tells index ts e (marks (pick b after refused m.put) m.roles m.widths) r
  unfolding Tells refused
  took-tells e (ok a vs) {m} {es} g same (takes x h) =
      rw (h, ← same a) (good-after {m = m} (subst (λ l. Good index ts l m es) x g))
  took-tells e (no n) g same (leaves h) = rw h (record { not = refl; at = g.to.count })

  -- One reader behind another; a refusal stays.
  abbrev pub Still : (Marks → Marks) → Type 0
  Still f = (m : Marks) (n : ℕ) → Stopped ts (wrote m.put []) n → Stopped ts (wrote (f m).put []) n

  pub tells-then : {A B : Type 0} (f : Marks → Marks) (e_a : A → List Entry) (e_b : B → List Entry) (m : Marks) (r : Res A) (g : A → Reader B)
      → Tells index ts e_a m r → Still f
      → ((a : A) (us : List Token) → r ≡ ok a us → Good index ts us m (e_a a) → Tells index ts e_b (f m) (g a us))
      → Tells index ts e_b (f m) (bind r g)
  unfolding Tells
  tells-then f e_a e_b m (ok a us) g h st k = k a us refl h
  tells-then f e_a e_b m (no n) g h st k = st m n h

  pub tells-map : {A B : Type 0} (e_a : A → List Entry) (e_b : B → List Entry) (x : A → B) (m : Marks) (r : Res A) → Tells index ts e_a m r
      → ((a : A) → e_a a ≡ e_b (x a)) → Tells index ts e_b m (bind r (λ a. give (x a)))
  unfolding Tells
  tells-map e_a e_b x m (ok a us) h same = rw (← same a) h
  tells-map e_a e_b x m (no n) h same = h

-- ---- the readers of one token

module _ (numbered : List ℕ → ℕ) (ts : List Token) (ks ns : List ℕ) (tab : Tabled numbered ts ks ns) (p : Put) (us : List Token)
    (o : p.ok ≡ true) (f : From ts p.next us) where
  pub next-kind : (k : ℕ) → is_next ks k p ≡ eqb (kind_front us) k
  unfolding is_next
  next-kind k = rw o (ap (λ x. eqb x k) (kind-is numbered ts ks ns tab p.next us f))

  pub next-starts : (w : List ℕ) (k : ℕ) → Numbered w k → 1 ≤ k → is_next ks k p ≡ starts w us
  next-starts w k mark one = next-kind k ∙ sym (starts_is w k mark one us)

module _ (numbered : List ℕ → ℕ) (ts : List Token) (ks ns : List ℕ) (tab : Tabled numbered ts ks ns) (p : Put) (o : p.ok ≡ true) where
  pub expect-took : (w : List ℕ) (k : ℕ) → Numbered w k → 1 ≤ k → (us : List Token) → From ts p.next us
      → Took us (is_next ks k p) (expect w us)
  expect-took w k mark one us f = by us (starts w us) refl (next-starts numbered ts ks ns tab p us o f w k mark one)
    where
      by : (us : List Token) (b : Bool) → starts w us ≡ b → is_next ks k p ≡ starts w us → Took us (is_next ks k p) (expect w us)
      by us false q j = rw (expect-other w us q) (leaves (j ∙ q))
      by [] true q j = absurd (starts_none w q)
      by (t ∷ us) true q j = rw (expect-first w t us q) (takes refl (j ∙ q))

  no_name : (us : List Token) → From ts p.next us → (kind_front us ≡ 64 → ⊥) → Named us (is_next ks 64 p) (no (length us))
  no_name us f h = unnamed (next-kind numbered ts ks ns tab p us o f 64 ∙ ne_eqb (kind_front us) 64 h)

  pub ident-named : (us : List Token) → From ts p.next us → Named us (is_next ks 64 p) (Reader.ident us)
  unfolding Reader.ident kind_front kind_of
  ident-named [] f = no_name [] f (λ e. omega arith)
  ident-named (terminal w ∷ us) f = no_name (terminal w ∷ us) f (terminal-other w 64 (omega arith) (omega arith))
  ident-named (name n ∷ us) f = named refl (next-kind numbered ts ks ns tab p (name n ∷ us) o f 64 ∙ eq-eqb 64 64 refl)
  ident-named (number true n ∷ us) f = no_name (number true n ∷ us) f (λ e. omega arith)
  ident-named (number false n ∷ us) f = no_name (number false n ∷ us) f (λ e. omega arith)
  ident-named (known v ∷ us) f = no_name (known v ∷ us) f (λ e. omega arith)
  ident-named (unknown ∷ us) f = no_name (unknown ∷ us) f (λ e. omega arith)
  ident-named (broken ∷ us) f = no_name (broken ∷ us) f (λ e. omega arith)

  -- ---- numbers

  number-test : (us : List Token) → From ts p.next us → is_number ks p ≡ (eqb (kind_front us) 65 || eqb (kind_front us) 66)
  unfolding is_number
  number-test us f = rw (next-kind numbered ts ks ns tab p us o f 65, next-kind numbered ts ks ns tab p us o f 66) refl

  no_number : (us : List Token) → From ts p.next us → (kind_front us ≡ 65 → ⊥) → (kind_front us ≡ 66 → ⊥) → is_number ks p ≡ false
  no_number us f g h = number-test us f ∙ rw (ne_eqb (kind_front us) 65 g, ne_eqb (kind_front us) 66 h) refl

  a-number : (b : Bool) (n : ℕ) (us : List Token) → From ts p.next (number b n ∷ us) → is_number ks p ≡ true
  unfolding kind_front kind_of
  a-number true n us f = number-test (number true n ∷ us) f
  a-number false n us f = number-test (number false n ∷ us) f

  pub unsigned-took : (us : List Token) → From ts p.next us → Took us (is_number ks p) (Reader.unsigned us)
  unfolding Reader.unsigned kind_front kind_of
  unsigned-took [] f = leaves (no_number [] f (λ e. omega arith) (λ e. omega arith))
  unsigned-took (terminal w ∷ us) f =
      leaves (no_number (terminal w ∷ us) f (terminal-other w 65 (omega arith) (omega arith)) (terminal-other w 66 (omega arith) (omega arith)))
  unsigned-took (name n ∷ us) f = leaves (no_number (name n ∷ us) f (λ e. omega arith) (λ e. omega arith))
  unsigned-took (number b n ∷ us) f = takes refl (a-number b n us f)
  unsigned-took (known v ∷ us) f = leaves (no_number (known v ∷ us) f (λ e. omega arith) (λ e. omega arith))
  unsigned-took (unknown ∷ us) f = leaves (no_number (unknown ∷ us) f (λ e. omega arith) (λ e. omega arith))
  unsigned-took (broken ∷ us) f = leaves (no_number (broken ∷ us) f (λ e. omega arith) (λ e. omega arith))

  pub value-is : (b : Bool) (n : ℕ) (us : List Token) → From ts p.next (number b n ∷ us) → row_at ns p.next ≡ up_to255 n
  unfolding number_in
  value-is b n us f = number_is numbered ts ks ns tab p.next (number b n) us f

  naught-not : (us : List Token) → is_number ks p ≡ false → Took {A = Unit {0}} us (is_number ks p && eqb (row_at ns p.next) 0) (no (length us))
  naught-not us h = leaves (rw h refl)

  pub naught-took : (us : List Token) → From ts p.next us
      → Took us (is_number ks p && eqb (row_at ns p.next) 0) (Reader.naught us)
  unfolding Reader.naught kind_front kind_of up_to255
  naught-took [] f = naught-not [] (no_number [] f (λ e. omega arith) (λ e. omega arith))
  naught-took (terminal w ∷ us) f =
      naught-not (terminal w ∷ us)
      (no_number (terminal w ∷ us) f (terminal-other w 65 (omega arith) (omega arith)) (terminal-other w 66 (omega arith) (omega arith)))
  naught-took (name n ∷ us) f = naught-not (name n ∷ us) (no_number (name n ∷ us) f (λ e. omega arith) (λ e. omega arith))
  naught-took (number b zero ∷ us) f = takes refl (rw (a-number b 0 us f, value-is b 0 us f) refl)
  naught-took (number b (suc n) ∷ us) f =
      leaves (rw (a-number b (suc n) us f, value-is b (suc n) us f) (ne_eqb (up_to255 (suc n)) 0 (λ e. some (ltb (suc n) 255) e)))
    where
      some : (c : Bool) → pick c (suc n) 255 ≡ 0 → ⊥
      some true e = omega arith
      some false e = omega arith
  naught-took (known v ∷ us) f = naught-not (known v ∷ us) (no_number (known v ∷ us) f (λ e. omega arith) (λ e. omega arith))
  naught-took (unknown ∷ us) f = naught-not (unknown ∷ us) (no_number (unknown ∷ us) f (λ e. omega arith) (λ e. omega arith))
  naught-took (broken ∷ us) f = naught-not (broken ∷ us) (no_number (broken ∷ us) f (λ e. omega arith) (λ e. omega arith))

-- ---- widths

pub width-kept : (n : ℕ) → up_to 32 (up_to255 n + 1) ≡ up_to 32 (n + 1)
unfolding up_to up_to255
width-kept n = by (ltb n 255) refl
  where
    by : (b : Bool) → ltb n 255 ≡ b → pick (leb (pick b n 255 + 1) 32) (pick b n 255 + 1) 255 ≡ pick (leb (n + 1) 32) (n + 1) 255
    by true q = refl
    by false q = rw (lt-leb (n + 1) 32 (omega (arith, ltb-false n 255 q))) refl
