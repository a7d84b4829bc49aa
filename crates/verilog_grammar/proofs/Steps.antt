-- Laws of the readers' steps: what a part that was read says of the tokens it was read from.
-- Assumes nothing.
use mathlib.Core.Path.{◌≡◌, refl, ap, subst}
use mathlib.Core.Bool.{Bool, true, false}
use mathlib.Core.List.{List, [], ◌∷◌}
use Prim.Native.Nat.{ℕ, zero, suc}
use lib.ListN.{length}
use Rattle.values.specs.Values.{pick}
use Rattle.naming.specs.Naming.{same_text}
use Rattle.naming.proofs.Naming.{same_text-refl, same_text→≡}
use Rattle.verilog_tokens.specs.Tokens.{Token, terminal, name, number, known, unknown, broken, Name}
use Rattle.verilog_grammar.specs.AnnexA.{Number, spell_number}
use Rattle.verilog_grammar.specs.Reader.{Res, ok, no, Reader, bind, is_mark, starts, if_next, expect, ident, size, unsigned, naught, valued, known_value}

-- ---- what was read is one thing

pub no≢ok : {A : Type 0} {n : ℕ} {a : A} {ts : List Token} → no n ≡ ok a ts → ⊥
no≢ok {A} h = subst is_no h tt
  where
    is_no : Res A → Type 0
    is_no (no n) = Unit {0}
    is_no (ok a ts) = ⊥

pub ok-item : {A : Type 0} {a b : A} {ts us : List Token} → ok a ts ≡ ok b us → a ≡ b
ok-item {A} {a} h = ap item h
  where
    item : Res A → A
    item (ok x ts) = x
    item (no n) = a

pub ok-rest : {A : Type 0} {a b : A} {ts us : List Token} → ok a ts ≡ ok b us → ts ≡ us
ok-rest {A} h = ap rest h
  where
    rest : Res A → List Token
    rest (ok a ts) = ts
    rest (no n) = []

-- What was read in two steps, step by step.
pub stepped : {A B P : Type 0} (r : Res A) (f : A → Reader B) {b : B} {rest : List Token} → bind r f ≡ ok b rest
    → ((a : A) (us : List Token) → r ≡ ok a us → f a us ≡ ok b rest → P) → P
stepped (ok a us) f h k = k a us refl h
stepped (no n) f h k = absurd (no≢ok h)

-- ---- a keyword or a sign

pub expect-ok : (s : List ℕ) (ts : List Token) {u : Unit {0}} {us : List Token} → expect s ts ≡ ok u us → ts ≡ terminal s ∷ us
unfolding expect is_mark
expect-ok s [] h = absurd (no≢ok h)
expect-ok s (terminal t ∷ ts) {u} {us} h = by (same_text s t) refl h
  where
    by : (b : Bool) → same_text s t ≡ b → pick b (ok tt ts) (no (suc (length ts))) ≡ ok u us → terminal t ∷ ts ≡ terminal s ∷ us
    by true q j = rw (← ok-rest j, same_text→≡ s t q) refl
    by false q j = absurd (no≢ok j)
expect-ok s (name n ∷ ts) h = absurd (no≢ok h)
expect-ok s (number b n ∷ ts) h = absurd (no≢ok h)
expect-ok s (known v ∷ ts) h = absurd (no≢ok h)
expect-ok s (unknown ∷ ts) h = absurd (no≢ok h)
expect-ok s (broken ∷ ts) h = absurd (no≢ok h)

pub after : {B P : Type 0} (s : List ℕ) (ts : List Token) (f : Unit {0} → Reader B) {b : B} {rest : List Token}
    → bind (expect s ts) f ≡ ok b rest → ((us : List Token) → ts ≡ terminal s ∷ us → f tt us ≡ ok b rest → P) → P
after s ts f h k = stepped (expect s ts) f h (λ u us e g. k us (expect-ok s ts e) g)

pub expected : (s : List ℕ) (ts : List Token) → expect s (terminal s ∷ ts) ≡ ok tt ts
unfolding expect is_mark
expected s ts = rw (same_text-refl s) refl

-- ---- by what stands in front

pub next-ok : {A P : Type 0} (s : List ℕ) (a b : Reader A) (ts : List Token) {x : A} {rest : List Token}
    → (a ts ≡ ok x rest → P) → (starts s ts ≡ false → b ts ≡ ok x rest → P) → if_next s a b ts ≡ ok x rest → P
unfolding if_next
next-ok {A} {P} s a b ts {x} {rest} f g h = by (starts s ts) refl h
  where
    by : (t : Bool) → starts s ts ≡ t → pick t a b ts ≡ ok x rest → P
    by true q j = f j
    by false q j = g q j

pub next-is : {A : Type 0} (s : List ℕ) (a b : Reader A) (ts : List Token) → if_next s a b (terminal s ∷ ts) ≡ a (terminal s ∷ ts)
unfolding if_next starts is_mark
next-is s a b ts = rw (same_text-refl s) refl

pub next-not : {A : Type 0} (s : List ℕ) (a b : Reader A) (ts : List Token) → starts s ts ≡ false → if_next s a b ts ≡ b ts
unfolding if_next
next-not s a b ts h = rw h refl

-- ---- names and numbers

pub ident-ok : (ts : List Token) {n : Name} {us : List Token} → ident ts ≡ ok n us → ts ≡ name n ∷ us
unfolding ident
ident-ok [] h = absurd (no≢ok h)
ident-ok (terminal s ∷ ts) h = absurd (no≢ok h)
ident-ok (name n ∷ ts) h = rw (ok-item h, ok-rest h) refl
ident-ok (number b n ∷ ts) h = absurd (no≢ok h)
ident-ok (known v ∷ ts) h = absurd (no≢ok h)
ident-ok (unknown ∷ ts) h = absurd (no≢ok h)
ident-ok (broken ∷ ts) h = absurd (no≢ok h)

pub size_ok : (ts : List Token) {w : ℕ} {us : List Token} → size ts ≡ ok w us → ts ≡ number true w ∷ us
unfolding size
size_ok [] h = absurd (no≢ok h)
size_ok (terminal s ∷ ts) h = absurd (no≢ok h)
size_ok (name n ∷ ts) h = absurd (no≢ok h)
size_ok (number true n ∷ ts) h = rw (ok-item h, ok-rest h) refl
size_ok (number false n ∷ ts) h = absurd (no≢ok h)
size_ok (known v ∷ ts) h = absurd (no≢ok h)
size_ok (unknown ∷ ts) h = absurd (no≢ok h)
size_ok (broken ∷ ts) h = absurd (no≢ok h)

pub unsigned-ok : (ts : List Token) {n : ℕ} {us : List Token} → unsigned ts ≡ ok n us → (b : Bool) × (ts ≡ number b n ∷ us)
unfolding unsigned
unsigned-ok [] h = absurd (no≢ok h)
unsigned-ok (terminal s ∷ ts) h = absurd (no≢ok h)
unsigned-ok (name n ∷ ts) h = absurd (no≢ok h)
unsigned-ok (number b n ∷ ts) h = (b, rw (ok-item h, ok-rest h) refl)
unsigned-ok (known v ∷ ts) h = absurd (no≢ok h)
unsigned-ok (unknown ∷ ts) h = absurd (no≢ok h)
unsigned-ok (broken ∷ ts) h = absurd (no≢ok h)

pub naught-ok : (ts : List Token) {u : Unit {0}} {us : List Token} → naught ts ≡ ok u us → (b : Bool) × (ts ≡ number b 0 ∷ us)
unfolding naught
naught-ok [] h = absurd (no≢ok h)
naught-ok (terminal s ∷ ts) h = absurd (no≢ok h)
naught-ok (name n ∷ ts) h = absurd (no≢ok h)
naught-ok (number b zero ∷ ts) h = (b, rw (ok-rest h) refl)
naught-ok (number b (suc n) ∷ ts) h = absurd (no≢ok h)
naught-ok (known v ∷ ts) h = absurd (no≢ok h)
naught-ok (unknown ∷ ts) h = absurd (no≢ok h)
naught-ok (broken ∷ ts) h = absurd (no≢ok h)

pub valued-ok : (w : ℕ) (ts : List Token) {n : Number} {us : List Token} → valued w ts ≡ ok n us
    → spell_number n us ≡ number true w ∷ ts
unfolding valued spell_number
valued-ok w [] h = absurd (no≢ok h)
valued-ok w (terminal s ∷ ts) h = absurd (no≢ok h)
valued-ok w (name n ∷ ts) h = absurd (no≢ok h)
valued-ok w (number b n ∷ ts) h = absurd (no≢ok h)
valued-ok w (known v ∷ ts) h = rw (← ok-item h, ← ok-rest h) refl
valued-ok w (unknown ∷ ts) h = rw (← ok-item h, ← ok-rest h) refl
valued-ok w (broken ∷ ts) h = absurd (no≢ok h)

pub known_value-ok : (ts : List Token) {v : ℕ} {us : List Token} → known_value ts ≡ ok v us → ts ≡ known v ∷ us
unfolding known_value
known_value-ok [] h = absurd (no≢ok h)
known_value-ok (terminal s ∷ ts) h = absurd (no≢ok h)
known_value-ok (name n ∷ ts) h = absurd (no≢ok h)
known_value-ok (number b n ∷ ts) h = absurd (no≢ok h)
known_value-ok (known v ∷ ts) h = rw (ok-item h, ok-rest h) refl
known_value-ok (unknown ∷ ts) h = absurd (no≢ok h)
known_value-ok (broken ∷ ts) h = absurd (no≢ok h)

pub named : {B P : Type 0} (ts : List Token) (f : Name → Reader B) {b : B} {rest : List Token}
    → bind (ident ts) f ≡ ok b rest → ((n : Name) (us : List Token) → ts ≡ name n ∷ us → f n us ≡ ok b rest → P) → P
named ts f h k = stepped (ident ts) f h (λ n us e g. k n us (ident-ok ts e) g)
