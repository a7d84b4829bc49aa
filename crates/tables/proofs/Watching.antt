-- A variable that a wait names is marked as watched. Assumes nothing.
use mathlib.Core.Path.{◌≡◌, refl, sym, ap, ◌∙◌}
use mathlib.Core.Bool.{Bool, true, false}
use mathlib.Core.List.{List, [], ◌∷◌}
use Prim.Native.Nat.{ℕ, zero, suc, ◌<◌}
use native.Mathlib.Nat.{not-suc-le-zero}
use native.Mathlib.Omega.{arith}
use borrow.Author.Tests.{eqb-true, eqb-false}
use lib.Dec.{ltb, eqb}
use lib.ListN.{length, get_or, set, length-set}
use lib.Seq.{get_or-set_same}
use Rattle.values.specs.Values.{pick}
use Rattle.pseudocode.specs.declared.EdgeTerms.{EdgeTerms}
use Rattle.pseudocode.specs.declared.Instruction.{Instruction}
use Rattle.pseudocode.specs.declared.Instruction.TheVariants.{Wait, Act}
use Rattle.pseudocode.specs.Fetching.{term_at, fetch_at}
use Rattle.tables.specs.Readers.{at_most, watch_variable, watch_terms, watch_instr, watch_thread, watched_below}
use Rattle.tables.proofs.Readers.{watch_variable-in}

-- ---- Keeps: what was watched still is

pub record Keeps (ws vs : List Bool) : Type 0 where
  pub long : length vs ≡ length ws
  pub kept : (v : ℕ) → get_or ws v false ≡ true → get_or vs v false ≡ true

keeps-none : (ws : List Bool) → Keeps ws ws
keeps-none ws = record { long = refl; kept = λ v h. h }

keeps_then : {ws vs us : List Bool} → Keeps ws vs → Keeps vs us → Keeps ws us
keeps_then a b = record { long = b.long ∙ a.long; kept = λ v h. b.kept v (a.kept v h) }

set-kept : (ws : List Bool) (u v : ℕ) → get_or ws v false ≡ true → get_or (set ws u true) v false ≡ true
set-kept [] u v h = h
set-kept (w ∷ ws) zero zero h = refl
set-kept (w ∷ ws) zero (suc v) h = h
set-kept (w ∷ ws) (suc u) zero h = h
set-kept (w ∷ ws) (suc u) (suc v) h = set-kept ws u v h

variable-keeps : (u : ℕ) (ws : List Bool) → Keeps ws (watch_variable u ws)
unfolding watch_variable
variable-keeps u ws = by (ltb u 80)
  where
    by : (t : Bool) → Keeps ws (pick t (set ws u true) ws)
    by true = record { long = length-set ws u true; kept = set-kept ws u }
    by false = keeps-none ws

terms-keeps : (t : EdgeTerms) (n : ℕ) (ws : List Bool) → Keeps ws (watch_terms t n ws)
unfolding watch_terms
terms-keeps t zero ws = keeps-none ws
terms-keeps t (suc n) ws = keeps_then (terms-keeps t n ws) (variable-keeps (term_at t n).variable (watch_terms t n ws))

instr-keeps : (i : Instruction) (ws : List Bool) → Keeps ws (watch_instr i ws)
unfolding watch_instr
instr-keeps (Wait t) ws = terms-keeps t (at_most 8 t.count) ws
instr-keeps (Act a) ws = keeps-none ws

module _ (s code : List ℕ) where
  thread-keeps : (i n : ℕ) (ws : List Bool) → Keeps ws (watch_thread s code i n ws)
  unfolding watch_thread
  thread-keeps i zero ws = keeps-none ws
  thread-keeps i (suc n) ws = keeps_then (thread-keeps i n ws) (instr-keeps (fetch_at s code i n) (watch_thread s code i n ws))

  watched-keeps : (sizes : List ℕ) (n : ℕ) (ws : List Bool) → Keeps ws (watched_below s code sizes n ws)
  unfolding watched_below
  watched-keeps sizes zero ws = keeps-none ws
  watched-keeps sizes (suc n) ws =
      keeps_then (watched-keeps sizes n ws) (thread-keeps n (at_most 256 (get_or sizes n 0)) (watched_below s code sizes n ws))

-- ---- what is named is watched

-- One of the numbers up to n is below n, or n.
up-to : {Q : Type 0} (k n : ℕ) → k < suc n → (k < n → Q) → (k ≡ n → Q) → Q
up-to {Q} k n l f g = by (eqb k n) refl
  where
    by : (t : Bool) → eqb k n ≡ t → Q
    by true e = g (eqb-true k n e)
    by false e = let q = eqb-false k n e in f (omega arith)

variable-named : (u : ℕ) (ws : List Bool) → u < 80 → length ws ≡ 80 → get_or (watch_variable u ws) u false ≡ true
variable-named u ws h long = rw (watch_variable-in u ws h) (get_or-set_same ws u true false (omega arith))

module _ (t : EdgeTerms) (k : ℕ) (h : (term_at t k).variable < 80) where
  abbrev v : ℕ
  v = (term_at t k).variable

  terms-named : (n : ℕ) (ws : List Bool) → k < n → length ws ≡ 80 → get_or (watch_terms t n ws) v false ≡ true
  unfolding watch_terms
  terms-named zero ws l long = absurd (not-suc-le-zero l)
  terms-named (suc n) ws l long =
      let vs = watch_terms t n ws in
      up-to k n l (λ m. (variable-keeps (term_at t n).variable vs).kept v (terms-named n ws m long))
      (λ e. ap (λ (j : ℕ). get_or (watch_variable (term_at t j).variable vs) v false) (sym e)
      ∙ variable-named v vs h ((terms-keeps t n ws).long ∙ long))

  -- Term k of the wait at place p of thread i.
  module _ (few : k < at_most 8 t.count) (s code : List ℕ) (i p : ℕ) (f : fetch_at s code i p ≡ Wait t) where
    instr-named : (ws : List Bool) → length ws ≡ 80 → get_or (watch_instr (fetch_at s code i p) ws) v false ≡ true
    unfolding watch_instr
    instr-named ws long = rw f (terms-named (at_most 8 t.count) ws few long)

    thread-named : (n : ℕ) (ws : List Bool) → p < n → length ws ≡ 80 → get_or (watch_thread s code i n ws) v false ≡ true
    unfolding watch_thread
    thread-named zero ws l long = absurd (not-suc-le-zero l)
    thread-named (suc n) ws l long =
        let vs = watch_thread s code i n ws in
        up-to p n l (λ m. (instr-keeps (fetch_at s code i n) vs).kept v (thread-named n ws m long))
        (λ e. ap (λ (j : ℕ). get_or (watch_instr (fetch_at s code i j) vs) v false) (sym e)
        ∙ instr-named vs ((thread-keeps s code i n ws).long ∙ long))

    pub watched-named : (sizes : List ℕ) (n : ℕ) (ws : List Bool) → i < n → p < at_most 256 (get_or sizes i 0) → length ws ≡ 80
        → get_or (watched_below s code sizes n ws) v false ≡ true
    unfolding watched_below
    watched-named sizes zero ws l q long = absurd (not-suc-le-zero l)
    watched-named sizes (suc n) ws l q long =
        let vs = watched_below s code sizes n ws in
        up-to i n l (λ m. (thread-keeps s code n (at_most 256 (get_or sizes n 0)) vs).kept v (watched-named sizes n ws m q long))
        (λ e. ap (λ (j : ℕ). get_or (watch_thread s code j (at_most 256 (get_or sizes j 0)) vs) v false) (sym e)
        ∙ thread-named (at_most 256 (get_or sizes i 0)) vs q ((watched-keeps s code sizes n ws).long ∙ long))
