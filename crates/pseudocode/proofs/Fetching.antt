-- Laws of fetching: what two words stand for, and the terms of a wait that was read.
use mathlib.Core.Path.{◌≡◌, refl, sym, ap, ◌∙◌}
use Prim.Native.Nat.{ℕ, zero, suc, ◌+◌, ◌*◌, ◌/◌, ◌%◌, ◌≤◌, ◌<◌}
use native.Mathlib.Omega.{arith}
use mathlib.Core.Bool.{Bool, true, false}
use mathlib.Core.List.{List, [], ◌∷◌}
use mathlib.Core.Logic.{◌⊎◌, inl, inr}
use lib.ListN.{length, get_or, get_or-eq_default}
use lib.Dec.{ltb}
use borrow.Author.Tests.{lt-ltb, le-ltb, ltb-true, ltb-false, ne_eqb}
use Rattle.values.specs.Values.{pick}
use Rattle.values.specs.Edges.{edge_of}
use Rattle.sheet.specs.declared.EdgeTerm.{EdgeTerm}
use Rattle.sheet.proofs.Statements.{ReadsTerms, no-terms, a-term, terms-length}
use Rattle.pseudocode.specs.declared.EdgeTerms.{EdgeTerms}
use Rattle.pseudocode.specs.declared.Action.TheVariants.{Set, Later, Go, IfNot}
use Rattle.pseudocode.specs.declared.Instruction.TheVariants.{Wait, Act}
use Rattle.pseudocode.specs.Instruction.{no_term, terms_of}
use Rattle.pseudocode.specs.Filling.{cell, first_word, wait_kind, set_kind, later_kind, go_kind, ifnot_kind}
use Rattle.pseudocode.specs.Fetching.{term_from, terms_from, terms_at, term_at, decode, fetch_at}

-- ---- decode, by the kind

module _ (s : List ℕ) (w x : ℕ) where
  pub decode-wait : w % 8 ≡ wait_kind → decode s w x ≡ Wait (terms_at s (w / 8))
  unfolding decode
  decode-wait e = simp e

  pub decode-set : w % 8 ≡ set_kind → decode s w x ≡ Act (Set (x % 256) (w / 8))
  unfolding decode
  decode-set e = simp e

  pub decode-later : w % 8 ≡ later_kind → decode s w x ≡ Act (Later (x % 256) (w / 8))
  unfolding decode
  decode-later e = simp e

  pub decode-go : w % 8 ≡ go_kind → decode s w x ≡ Act (Go x)
  unfolding decode
  decode-go e = simp e

  pub decode-rest : (w % 8 ≡ wait_kind → ⊥) → (w % 8 ≡ set_kind → ⊥) → (w % 8 ≡ later_kind → ⊥) → (w % 8 ≡ go_kind → ⊥)
      → decode s w x ≡ Act (IfNot x (w / 8))
  unfolding decode
  decode-rest a b c d = simp (ne_eqb _ _ a, ne_eqb _ _ b, ne_eqb _ _ c, ne_eqb _ _ d)

  pub decode-ifnot : w % 8 ≡ ifnot_kind → decode s w x ≡ Act (IfNot x (w / 8))
  decode-ifnot e = decode-rest (λ a. omega arith) (λ a. omega arith) (λ a. omega arith) (λ a. omega arith)

-- ---- first_word holds a kind and a place

pub word-kind : (kind at : ℕ) → kind < 8 → first_word kind at % 8 ≡ kind
unfolding first_word
word-kind kind at h = omega arith

pub word-place : (kind at : ℕ) → kind < 8 → at < 8192 → first_word kind at / 8 ≡ at
unfolding first_word
word-place kind at h l = omega arith

-- ---- the terms of a wait that was read

module _ {ws s : List ℕ} where
  pub term-read : {n at : ℕ} {ts : List EdgeTerm} → ReadsTerms ws s n at ts → (k : ℕ) → k < n
      → record { edge = edge_of (get_or s (at + 2 * k) 0); variable = get_or s (at + 2 * k + 1) 0 } ≡ get_or ts k no_term
  term-read no-terms k h = absurd (omega arith)
  term-read {at = at} (a-term {e = e} {v = v} w l x b ts) zero h =
      let i : at + 2 * 0 ≡ at = omega arith in
      let j : at + 2 * 0 + 1 ≡ at + 1 = omega arith in
      let p = ap (λ (m : ℕ). get_or s m 0) i ∙ w.same in
      let q = ap (λ (m : ℕ). get_or s m 0) j ∙ x in
      λ u. record { edge = edge_of (p u); variable = q u }
  term-read {at = at} (a-term w l x b ts) (suc k) h =
      let i : at + 2 * suc k ≡ at + 2 + 2 * k = omega arith in
      rw i (term-read ts k (omega arith))

  pub terms-from : (at : ℕ) {n : ℕ} {ts : List EdgeTerm} → ReadsTerms ws s n (at + 1) ts → (k : ℕ) → term_from s at n k ≡ get_or ts k no_term
  unfolding term_from
  terms-from at {n} {ts} r k = by (ltb k n) refl
    where
      at-k : EdgeTerm
      at-k = record { edge = edge_of (get_or s (at + 1 + 2 * k) 0); variable = get_or s (at + 1 + 2 * k + 1) 0 }

      by : (t : Bool) → ltb k n ≡ t → pick t at-k no_term ≡ get_or ts k no_term
      by true e = term-read r k (ltb-true k n e)
      by false e = sym (get_or-eq_default ts no_term (rw (terms-length r) (ltb-false k n e)))

  pub terms-at : (at : ℕ) {n : ℕ} {ts : List EdgeTerm} → get_or s at 0 ≡ n → ReadsTerms ws s n (at + 1) ts → terms_at s at ≡ terms_of ts
  unfolding terms_at terms_from terms_of
  terms-at at e r =
      ap (terms_from s at) e
      ∙ λ i. record {
        count = sym (terms-length r) i;
        t0 = terms-from at r 0 i;
        t1 = terms-from at r 1 i;
        t2 = terms-from at r 2 i;
        t3 = terms-from at r 3 i;
        t4 = terms-from at r 4 i;
        t5 = terms-from at r 5 i;
        t6 = terms-from at r 6 i;
        t7 = terms-from at r 7 i;
      }

-- ---- term_at: the terms of a list of at most eight, one by one

pub term_of : (ts : List EdgeTerm) (k : ℕ) → length ts ≤ 8 → term_at (terms_of ts) k ≡ get_or ts k no_term
unfolding term_at terms_of
term_of ts zero h = refl
term_of ts (suc zero) h = refl
term_of ts (suc (suc zero)) h = refl
term_of ts (suc (suc (suc zero))) h = refl
term_of ts (suc (suc (suc (suc zero)))) h = refl
term_of ts (suc (suc (suc (suc (suc zero))))) h = refl
term_of ts (suc (suc (suc (suc (suc (suc zero)))))) h = refl
term_of ts (suc (suc (suc (suc (suc (suc (suc zero))))))) h = refl
term_of ts (suc (suc (suc (suc (suc (suc (suc (suc k)))))))) h = sym (get_or-eq_default ts no_term (omega arith))

-- Past the eight there is none.
pub term-past : (t : EdgeTerms) (k : ℕ) → (k ≡ 0 → ⊥) → (k ≡ 1 → ⊥) → (k ≡ 2 → ⊥) → (k ≡ 3 → ⊥)
    → (k ≡ 4 → ⊥) → (k ≡ 5 → ⊥) → (k ≡ 6 → ⊥) → (k ≡ 7 → ⊥) → term_at t k ≡ no_term
unfolding term_at
term-past t k a b c d e f g h =
    get_or-eq_default (t.t0 ∷ t.t1 ∷ t.t2 ∷ t.t3 ∷ t.t4 ∷ t.t5 ∷ t.t6 ∷ t.t7 ∷ []) no_term
    (to8 k (from4 k a b c d) e f g h)
  where
    from4 : (k : ℕ) → (k ≡ 0 → ⊥) → (k ≡ 1 → ⊥) → (k ≡ 2 → ⊥) → (k ≡ 3 → ⊥) → 4 ≤ k
    from4 k a b c d = omega arith

    to8 : (k : ℕ) → 4 ≤ k → (k ≡ 4 → ⊥) → (k ≡ 5 → ⊥) → (k ≡ 6 → ⊥) → (k ≡ 7 → ⊥) → 8 ≤ k
    to8 k l a b c d = omega arith

-- ---- fetch_at

module _ (s code : List ℕ) (t n : ℕ) where
  pub fetch-in : t < 8 → n < 256 → fetch_at s code t n ≡ decode s (get_or code (cell t n) 0) (get_or code (cell t n + 1) 0)
  unfolding fetch_at
  fetch-in h l = simp (lt-ltb t 8 h, lt-ltb n 256 l)

  pub fetch-thread : 8 ≤ t → fetch_at s code t n ≡ Act (Go 0)
  unfolding fetch_at
  fetch-thread h = simp (le-ltb t 8 h)

  pub fetch-place : t < 8 → 256 ≤ n → fetch_at s code t n ≡ Act (Go 0)
  unfolding fetch_at
  fetch-place h l = simp (lt-ltb t 8 h, le-ltb n 256 l)

  pub fetch-outside : (8 ≤ t) ⊎ ((t < 8) × (256 ≤ n)) → fetch_at s code t n ≡ Act (Go 0)
  fetch-outside (inl h) = fetch-thread h
  fetch-outside (inr h) = fetch-place h.0 h.1

  -- The same two words are the same instruction.
  pub fetch-same : (code' : List ℕ) → get_or code' (cell t n) 0 ≡ get_or code (cell t n) 0
      → get_or code' (cell t n + 1) 0 ≡ get_or code (cell t n + 1) 0 → fetch_at s code' t n ≡ fetch_at s code t n
  unfolding fetch_at
  fetch-same code' e f = simp (e, f)
