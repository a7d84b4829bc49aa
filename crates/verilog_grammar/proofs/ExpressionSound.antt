-- What the reader makes of a list of tokens is an expression that yields them, at table 5-4's precedence and association.
-- Assumes nothing.
use mathlib.Core.Path.{◌≡◌, refl, sym, ap, ◌∙◌}
use mathlib.Core.Bool.{Bool, true, false}
use mathlib.Core.List.{List, ◌∷◌}
use mathlib.Core.Option.{Option, none as nothing, some as just}
use Prim.Native.Nat.{ℕ, zero, suc, ◌+◌, ◌≤◌, ◌<◌}
use native.Mathlib.Omega.{arith}
use lib.Dec.{leb}
use lib.ListN.{length}
use borrow.Author.Tests.{leb-true, leb-false}
use Rattle.values.specs.Values.{pick}
use Rattle.writing.specs.Ascii.{ascii}
use Rattle.verilog_tokens.specs.Tokens.{Token, terminal}
use Rattle.verilog_grammar.specs.AnnexA.{mark, Unary, negation, complement, Binary, unary_sign, binary_sign, Expression, Primary, joined, spell, spell_primary}
use Rattle.verilog_grammar.specs.Conditions.{precedence, level, Grouped, GroupedPrimary}
use Rattle.verilog_grammar.specs.Reader.{ok, Reader, bind, give, refuse, if_next, is_name, size, valued, identifier, constant, brackets, atom, primary, prefix, plain, operand, operator, join, turn, climb, choice, arms, start, reader, expression}
use Rattle.verilog_grammar.proofs.Steps.{no≢ok, ok-item, ok-rest, stepped, after, named, next-ok, size_ok, valued-ok}
use Rattle.verilog_grammar.proofs.Operators.{leads, binds, binds_by, precedence-from, precedence-to, leads-to, binds-leads, leads-query, leads-closer}

-- ---- what is shown of each part

pub record Whole (k : ℕ) (ts : List Token) (e : Expression) (rest : List Token) : Type 0 where
  pub spelled : spell e rest ≡ ts
  pub grouped : Grouped e
  pub closer : k ≤ level e
  pub stopped : leads rest < k

abbrev pub Inner : (ℕ → Reader Expression) → Type 0
Inner inner = (k : ℕ) (ts : List Token) (e : Expression) (rest : List Token) → 1 ≤ k → k ≤ 8 → inner k ts ≡ ok e rest → Whole k ts e rest

pub record Operand (ts : List Token) (e : Expression) (rest : List Token) : Type 0 where
  pub spelled : spell e rest ≡ ts
  pub grouped : Grouped e
  pub closest : level e ≡ 8

pub record Looped (k : ℕ) (ts : List Token) (e : Expression) (rest : List Token) : Type 0 where
  pub spelled : spell e rest ≡ ts
  pub grouped : Grouped e
  pub closer : k ≤ level e
  pub above : 2 ≤ level e
  pub stopped : binds rest < k

-- What is needed of the tree so far.
pub record Ready (k : ℕ) (l : Expression) (ts : List Token) : Type 0 where
  pub grouped : Grouped l
  pub closer : k ≤ level l
  pub above : 2 ≤ level l
  pub bound : binds ts ≤ level l

-- ---- names and constants

identifier-sound : (ts : List Token) {p : Primary} {rest : List Token} → identifier ts ≡ ok p rest
    → (spell_primary p rest ≡ ts) × GroupedPrimary p
unfolding identifier spell_primary GroupedPrimary
identifier-sound ts h = named ts _ h (λ n us e g. rw (← ok-item g, ← ok-rest g) (sym e, tt))

constant-sound : (ts : List Token) {p : Primary} {rest : List Token} → constant ts ≡ ok p rest
    → (spell_primary p rest ≡ ts) × GroupedPrimary p
unfolding constant spell_primary GroupedPrimary
constant-sound ts h =
    stepped (size ts) _ h λ w us d g.
    stepped (valued w us) _ g λ n vs e k.
    rw (← ok-item k, ← ok-rest k) (valued-ok w us e ∙ sym (size_ok ts d), tt)

atom-sound : (ts : List Token) {p : Primary} {rest : List Token} → atom ts ≡ ok p rest → (spell_primary p rest ≡ ts) × GroupedPrimary p
unfolding atom
atom-sound ts {p} {rest} h = by (is_name ts) h
  where
    by : (t : Bool) → pick t identifier constant ts ≡ ok p rest → (spell_primary p rest ≡ ts) × GroupedPrimary p
    by true j = identifier-sound ts j
    by false j = constant-sound ts j

module _ (inner : ℕ → Reader Expression) (sound : Inner inner) where
  -- ---- primaries

  brackets-sound : (ts : List Token) {p : Primary} {rest : List Token} → brackets (inner 1) ts ≡ ok p rest
      → (spell_primary p rest ≡ ts) × GroupedPrimary p
  unfolding brackets spell_primary GroupedPrimary
  brackets-sound ts h =
      after (ascii "(") ts _ h λ us a g.
      stepped (inner 1 us) _ g λ e vs b k.
      after (ascii ")") vs _ k λ ws c m.
      let i = sound 1 us e vs (omega arith) (omega arith) b in
      rw (← ok-item m, ← ok-rest m)
      (ap (λ (x : List Token). mark "(" ∷ x) (ap (spell e) (sym c) ∙ i.spelled) ∙ sym a, i.grouped)

  primary-sound : (ts : List Token) {p : Primary} {rest : List Token} → primary (inner 1) ts ≡ ok p rest
      → (spell_primary p rest ≡ ts) × GroupedPrimary p
  unfolding primary
  primary-sound ts h = next-ok (ascii "(") (brackets (inner 1)) atom ts (brackets-sound ts) (λ q j. atom-sound ts j) h

  -- ---- operands

  plain-sound : (ts : List Token) {e : Expression} {rest : List Token} → plain (inner 1) ts ≡ ok e rest → Operand ts e rest
  unfolding plain
  plain-sound ts h =
      stepped (primary (inner 1) ts) _ h λ p us a g.
      let s = primary-sound ts a in
      rw (← ok-item g, ← ok-rest g)
      (record { spelled = unfold spell in s.0; grouped = unfold Grouped in s.1; closest = unfold level in refl })

  prefix-sound : (u : Unary) (ts : List Token) {e : Expression} {rest : List Token} → prefix u (inner 1) ts ≡ ok e rest → Operand ts e rest
  unfolding prefix
  prefix-sound u ts h =
      after (unary_sign u) ts _ h λ us a g.
      stepped (primary (inner 1) us) _ g λ p vs b k.
      let s = primary-sound us b in
      rw (← ok-item k, ← ok-rest k)
      (record {
        spelled = unfold spell in ap (λ (x : List Token). terminal (unary_sign u) ∷ x) s.0 ∙ sym a;
        grouped = unfold Grouped in s.1;
        closest = unfold level in refl;
      })

  operand_sound : (ts : List Token) {e : Expression} {rest : List Token} → operand (inner 1) ts ≡ ok e rest → Operand ts e rest
  unfolding operand
  operand_sound ts h =
      next-ok (ascii "~") (prefix complement (inner 1)) _ ts (prefix-sound complement ts)
      (λ q j. next-ok (ascii "!") (prefix negation (inner 1)) (plain (inner 1)) ts (prefix-sound negation ts) (λ p i. plain-sound ts i) j)
      h

  -- ---- the loop

  rests : (k : ℕ) (l : Expression) (ts : List Token) {e : Expression} {rest : List Token} → Ready k l ts → binds ts < k
      → ok l ts ≡ ok e rest → Looped k (spell l ts) e rest
  rests k l ts r b h =
      rw (← ok-item h, ← ok-rest h)
      (record { spelled = refl; grouped = r.grouped; closer = r.closer; above = r.above; stopped = b })

  join-sound : (again : Expression → Reader Expression) (k : ℕ) (l : Expression) (o : Binary) (ts : List Token) {e : Expression}
      {rest : List Token}
      → k ≤ precedence o → precedence o ≤ level l → Grouped l
      → ((x : Expression) (us : List Token) → Ready k x us → again x us ≡ ok e rest → Looped k (spell x us) e rest)
      → join inner again l o ts ≡ ok e rest → Looped k (spell l ts) e rest
  unfolding join
  join-sound again k l o ts {e} {rest} c b w more h =
      after (binary_sign o) ts _ h λ us a g.
      stepped (inner (precedence o + 1) us) _ g λ x vs d m.
      let n = precedence-from o in
      let t = precedence-to o in
      let i = sound (precedence o + 1) us x vs (omega arith) (omega arith) d in
      let ic = i.closer in
      let is = i.stopped in
      let gs = binds-leads vs in
      let r : Ready k (joined l o x) vs =
      record {
        grouped = unfold Grouped in (w, i.grouped, b, (omega arith));
        closer = unfold level in c;
        above = unfold level in n;
        bound = unfold level in omega arith;
      }
      in
      let q = more (joined l o x) vs r m in
      let z : spell (joined l o x) vs ≡ spell l (terminal (binary_sign o) ∷ us) =
      unfold spell in ap (λ (y : List Token). spell l (terminal (binary_sign o) ∷ y)) i.spelled
      in
      record {
        spelled = q.spelled ∙ z ∙ ap (spell l) (sym a);
        grouped = q.grouped;
        closer = q.closer;
        above = q.above;
        stopped = q.stopped;
      }

  turn-sound : (again : Expression → Reader Expression) (k : ℕ) (l : Expression) (o : Option Binary) (ts : List Token) {e : Expression}
      {rest : List Token}
      → 1 ≤ k → operator ts ≡ o → Ready k l ts
      → ((x : Expression) (us : List Token) → Ready k x us → again x us ≡ ok e rest → Looped k (spell x us) e rest)
      → turn inner again k l o ts ≡ ok e rest → Looped k (spell l ts) e rest
  unfolding turn binds binds_by
  turn-sound again k l nothing ts p q r more h = rests k l ts r (rw q p) h
  turn-sound again k l (just o) ts {e} {rest} p q r more h = by (leb k (precedence o)) refl h
    where
      bo : binds ts ≡ precedence o
      bo = rw q refl

      by : (t : Bool) → leb k (precedence o) ≡ t → pick t (join inner again l o) (give l) ts ≡ ok e rest → Looped k (spell l ts) e rest
      by true z j = join-sound again k l o ts (leb-true k (precedence o) z) (rw bo at r.bound) r.grouped more j
      by false z j = rests k l ts r (rw bo (leb-false k (precedence o) z)) j

  climb-sound : (g k : ℕ) (l : Expression) (ts : List Token) {e : Expression} {rest : List Token} → 1 ≤ k → Ready k l ts
      → climb inner g k l ts ≡ ok e rest → Looped k (spell l ts) e rest
  unfolding climb refuse
  climb-sound zero k l ts p r h = absurd (no≢ok h)
  climb-sound (suc g) k l ts p r h =
      turn-sound (climb inner g k) k l (operator ts) ts p refl r (λ x us. climb-sound g k x us p) h

  -- ---- ?:

  plain_end : (k : ℕ) (c : Expression) (ts us : List Token) {e : Expression} {rest : List Token} → Looped k us c ts → leads ts < k
      → ok c ts ≡ ok e rest → Whole k us e rest
  plain_end k c ts us q b h =
      rw (← ok-item h, ← ok-rest h) (record { spelled = q.spelled; grouped = q.grouped; closer = q.closer; stopped = b })

  choice-sound : (k : ℕ) (c : Expression) (ts us : List Token) {e : Expression} {rest : List Token} → 1 ≤ k → k ≤ 1 → Looped k us c ts
      → choice (inner 1) c ts ≡ ok e rest → Whole k us e rest
  unfolding choice
  choice-sound k c ts us p l q h =
      after (ascii "?") ts _ h λ vs a g.
      stepped (inner 1 vs) _ g λ x ws d m.
      after (ascii ":") ws _ m λ xs b n.
      stepped (inner 1 xs) _ n λ y ys f r.
      let i = sound 1 vs x ws (omega arith) (omega arith) d in
      let j = sound 1 xs y ys (omega arith) (omega arith) f in
      let u = q.above in
      let v = j.stopped in
      rw (← ok-item r, ← ok-rest r)
      (record {
        spelled = unfold spell in
            (ap (λ (z : List Token). spell c (mark "?" ∷ spell x (mark ":" ∷ z))) j.spelled
            ∙ ap (λ (z : List Token). spell c (mark "?" ∷ spell x z)) (sym b)
            ∙ ap (λ (z : List Token). spell c (mark "?" ∷ z)) i.spelled
            ∙ ap (spell c) (sym a)
            ∙ q.spelled);
        grouped = unfold Grouped in (q.grouped, i.grouped, j.grouped, (omega arith));
        closer = unfold level in l;
        stopped = omega arith;
      })

  arms-sound : (k : ℕ) (c : Expression) (ts us : List Token) {e : Expression} {rest : List Token} → 1 ≤ k → Looped k us c ts
      → arms (inner 1) k c ts ≡ ok e rest → Whole k us e rest
  unfolding arms
  arms-sound k c ts us {e} {rest} p q h = by (leb k 1) refl h
    where
      by : (t : Bool) → leb k 1 ≡ t → pick t (if_next (ascii "?") (choice (inner 1) c) (give c)) (give c) ts ≡ ok e rest → Whole k us e rest
      by true z j =
          next-ok (ascii "?") (choice (inner 1) c) (give c) ts (choice-sound k c ts us p (leb-true k 1 z) q)
          (λ n i. plain_end k c ts us q (leads-query ts k p q.stopped n) i)
          j
      by false z j = plain_end k c ts us q (leads-closer ts k (leb-false k 1 z) q.stopped) j

-- ---- the reader

pub reader-sound : (f : ℕ) → Inner (reader f)
unfolding reader start refuse
reader-sound zero k ts e rest p m h = absurd (no≢ok h)
reader-sound (suc f) k ts e rest p m h =
    stepped (bind (operand (reader f 1) ts) (climb (reader f) (suc f) k)) _ h λ c us a g.
    stepped (operand (reader f 1) ts) _ a λ x vs b d.
    let o = operand_sound (reader f) (reader-sound f) ts b in
    let q = o.closest in
    let n = binds-leads vs in
    let t = leads-to vs in
    let r : Ready k x vs = record { grouped = o.grouped; closer = omega arith; above = omega arith; bound = omega arith } in
    let l = climb-sound (reader f) (reader-sound f) (suc f) k x vs p r d in
    arms-sound (reader f) (reader-sound f) k c us ts p (rw o.spelled at l) g

-- An expression as a statement has it.
pub record Found (ts : List Token) (e : Expression) (rest : List Token) : Type 0 where
  pub spelled : spell e rest ≡ ts
  pub grouped : Grouped e

pub expression-sound : (ts : List Token) {e : Expression} {rest : List Token} → expression ts ≡ ok e rest → Found ts e rest
unfolding expression
expression-sound ts {e} {rest} h =
    let w = reader-sound (length ts) 1 ts e rest (omega arith) (omega arith) h in
    record { spelled = w.spelled; grouped = w.grouped }
