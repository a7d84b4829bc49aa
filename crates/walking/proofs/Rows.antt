-- Where the row of a wait lies in extraction's tables, and which walk it comes from. Assumes nothing.
use mathlib.Core.Path.{◌≡◌, refl, sym, ap, ◌∙◌, subst}
use mathlib.Core.Bool.{Bool, true, false}
use mathlib.Core.List.{List, [], ◌∷◌, ◌++◌, append_assoc, append-nil}
use Prim.Native.Nat.{ℕ, zero, suc, ◌+◌, ◌*◌, ◌≤◌, ◌<◌}
use native.Mathlib.Omega.{arith}
use lib.ListN.{length, get_or, length-append, get_or-append}
use lib.Seq.{get_or-append-add, get_or_at}
use lib.Dec.{eqb}
use Rattle.values.specs.Values.{pick}
use Rattle.sheet.specs.Reading.{ok}
use Rattle.sheet.specs.Expression.{Expr}
use Rattle.sheet.specs.Module.{Module}
use Rattle.sheet.proofs.Reading.{ok-injective, bind_ok, check-ok}
use Rattle.events.specs.Cycle.{code_of, instr_at, is_wait}
use Rattle.events.proofs.Cycle.{Below, at-end, before, below_suc, absurd-bool}
use Rattle.nextstate.specs.Rules.{one, rule, waits_before, waits_below}
use Rattle.nextstate.specs.Nodes.{Node}
use Rattle.nextstate.specs.Walk.{Walked, own_rows, walk}
use Rattle.nextstate.specs.Extraction.{Tables, variable_nodes, walk_from, walks_below, threads_below, extracted}
use Rattle.nextstate.specs.Book.{row_of, entry}
use Rattle.walking.proofs.Growing.{Grows, grows_same, grows-refl, grows-trans, walk-grows, walk-length, length-own_row}

-- ---- tables that were added to

pub record Adds (T U : Tables) : Type 0 where
  pub nodes : Grows T.nodes U.nodes
  pub more : List ℕ
  pub rows : U.rows ≡ T.rows ++ more

adds-refl : (T : Tables) → Adds T T
adds-refl T = record { nodes = grows-refl T.nodes; more = []; rows = sym (append-nil T.rows) }

adds-trans : {T U X : Tables} → Adds T U → Adds U X → Adds T X
adds-trans {T} a b =
    record {
      nodes = grows-trans a.nodes b.nodes;
      more = a.more ++ b.more;
      rows = b.rows ∙ ap (λ (l : List ℕ). l ++ b.more) a.rows ∙ append_assoc T.rows a.more b.more;
    }

-- ---- the row of thread i's wait at p, which begins at entry `start`

abbrev entries : Walked → List ℕ
entries w = w.registers ++ (w.place ∷ [])

record RowAt (m : Module Expr) (T : Tables) (i p start : ℕ) : Type 0 where
  pub before : List Node
  pub walked : Walked
  pub is : walk m i (length (code_of m i)) (p + 1) (own_rows m) before ≡ ok walked
  pub nodes : Grows walked.nodes T.nodes
  pub begins : Grows (variable_nodes m) before
  pub room : start + 33 ≤ length T.rows
  pub entry_at : (c : ℕ) → c < 33 → get_or T.rows (start + c) 0 ≡ get_or (entries walked) c 0

module _ (m : Module Expr) (i : ℕ) where
  -- One walk more.
  record WalksFrom (p : ℕ) (T U : Tables) : Type 0 where
    pub walked : Walked
    pub is : walk m i (length (code_of m i)) (p + 1) (own_rows m) T.nodes ≡ ok walked
    pub nodes : U.nodes ≡ walked.nodes
    pub rows : U.rows ≡ T.rows ++ entries walked

  walk_from-ok : (p : ℕ) (T : Tables) {U : Tables} → walk_from m i p T ≡ ok U → WalksFrom p T U
  unfolding walk_from
  walk_from-ok p T h =
      let w = bind_ok (walk m i (length (code_of m i)) (p + 1) (own_rows m) T.nodes) _ h in
      let q = ok-injective w.2 in
      record {
        walked = w.0;
        is = w.1;
        nodes = sym (ap (λ (u : Tables). u.nodes) q);
        rows = sym (ap (λ (u : Tables). u.rows) q);
      }

  length-row : {p : ℕ} {T U : Tables} (w : WalksFrom p T U) → length (entries w.walked) ≡ 33
  unfolding own_rows
  length-row {p} w =
      let l = walk-length m i (length (code_of m i)) (p + 1) (own_rows m) _ (length-own_row m) w.is in
      let e = length-append w.walked.registers (w.walked.place ∷ []) in
      omega arith

  walks-adds : {p : ℕ} {T U : Tables} → WalksFrom p T U → Adds T U
  walks-adds {p} {T} {U} w =
      record {
        nodes = grows-trans (walk-grows m i (length (code_of m i)) (p + 1) (own_rows m) T.nodes w.is) (grows_same w.nodes);
        more = entries w.walked;
        rows = w.rows;
      }

  walks-length : {p : ℕ} {T U : Tables} → WalksFrom p T U → length U.rows ≡ length T.rows + 33
  walks-length {p} {T} w =
      let e = length-append T.rows (entries w.walked) in
      ap length w.rows ∙ omega (arith, length-row w)

  walks-row : {p : ℕ} {T U : Tables} → Grows (variable_nodes m) T.nodes → WalksFrom p T U → RowAt m U i p (length T.rows)
  walks-row {p} {T} {U} b w =
      record {
        before = T.nodes;
        walked = w.walked;
        is = w.is;
        nodes = grows_same w.nodes;
        begins = b;
        room = omega (arith, walks-length w);
        entry_at = λ c l.
            ap (λ (r : List ℕ). get_or r (length T.rows + c) 0) w.rows ∙ get_or-append-add T.rows (entries w.walked) c 0;
      }

  row_stays : {p start : ℕ} {T U : Tables} → Adds T U → RowAt m T i p start → RowAt m U i p start
  row_stays {p} {start} {T} {U} a r =
      record {
        before = r.before;
        walked = r.walked;
        is = r.is;
        nodes = grows-trans r.nodes a.nodes;
        begins = r.begins;
        room = let e = ap length a.rows ∙ length-append T.rows a.more in omega (arith, r.room);
        entry_at = λ c l.
            ap (λ (s : List ℕ). get_or s (start + c) 0) a.rows
            ∙ get_or-append T.rows a.more 0 (start + c) (omega (arith, r.room)) ∙ r.entry_at c l;
      }

  -- ---- the walks of one thread

  -- One place more: a walk if it holds a wait.
  step_ok : {A : Type 0} (p : ℕ) (T : Tables) {U : Tables} →
      pick (is_wait (instr_at (code_of m i) p)) (walk_from m i p T) (ok T) ≡ ok U →
      (is_wait (instr_at (code_of m i) p) ≡ true → WalksFrom p T U → A) → (is_wait (instr_at (code_of m i) p) ≡ false → T ≡ U → A) → A
  step_ok {A} p T {U} h yes-wait no-wait = by (is_wait (instr_at (code_of m i) p)) refl h
    where
      by : (t : Bool) → is_wait (instr_at (code_of m i) p) ≡ t → pick t (walk_from m i p T) (ok T) ≡ ok U → A
      by true e k = yes-wait e (walk_from-ok p T k)
      by false e k = no-wait e (ok-injective k)

  record WalksBelow (n : ℕ) (T U : Tables) : Type 0 where
    pub adds : Adds T U
    pub size : length U.rows ≡ length T.rows + 33 * waits_before (code_of m i) n

  waits-more : (p : ℕ) → is_wait (instr_at (code_of m i) p) ≡ true → waits_before (code_of m i) (suc p) ≡ waits_before (code_of m i) p + 1
  unfolding waits_before one instr_at
  waits-more p e = rw e

  waits-same : (p : ℕ) → is_wait (instr_at (code_of m i) p) ≡ false → waits_before (code_of m i) (suc p) ≡ waits_before (code_of m i) p
  unfolding waits_before one instr_at
  waits-same p e = rw e (omega arith)

  waits-none : waits_before (code_of m i) 0 ≡ 0
  unfolding waits_before
  waits-none = refl

  below-ok : (n : ℕ) (T : Tables) {U : Tables} → walks_below m i n T ≡ ok U → WalksBelow n T U
  unfolding walks_below
  below-ok zero T h =
      let q = ok-injective h in
      record {
        adds = subst (λ (X : Tables). Adds T X) q (adds-refl T);
        size = ap (λ (X : Tables). length X.rows) (sym q) ∙ omega (arith, waits-none);
      }
  below-ok (suc p) T h =
      let x = bind_ok (walks_below m i p T) _ h in
      let s = below-ok p T x.1 in
      step_ok p x.0 x.2
      (λ e w. record {
        adds = adds-trans s.adds (walks-adds w);
        size = omega (arith, s.size, walks-length w, waits-more p e);
      })
      (λ e q. record {
        adds = subst (λ (X : Tables). Adds T X) q s.adds;
        size = ap (λ (X : Tables). length X.rows) (sym q) ∙ omega (arith, s.size, waits-same p e);
      })

  below_row : (n : ℕ) (T : Tables) {U : Tables} → Grows (variable_nodes m) T.nodes → walks_below m i n T ≡ ok U → (p : ℕ) → p < n →
      is_wait (instr_at (code_of m i) p) ≡ true → RowAt m U i p (length T.rows + 33 * waits_before (code_of m i) p)
  unfolding walks_below
  below_row zero T b h p l w = absurd (omega arith)
  below_row (suc n) T {U} b h p l w =
      let x = bind_ok (walks_below m i n T) _ h in
      let s = below-ok n T x.1 in
      by x.0 x.2 s (λ k. below_row n T b x.1 p k w) (below_suc n p l)
    where
      start : ℕ
      start = length T.rows + 33 * waits_before (code_of m i) p

      by : (X : Tables) → pick (is_wait (instr_at (code_of m i) n)) (walk_from m i n X) (ok X) ≡ ok U → WalksBelow n T X →
          (p < n → RowAt m X i p start) → Below n p → RowAt m U i p start
      by X k s ih (at-end e) =
          step_ok n X k
          (λ q v. subst (λ (a : ℕ). RowAt m U i a (length T.rows + 33 * waits_before (code_of m i) a)) (sym e)
          (subst (λ (a : ℕ). RowAt m U i n a) s.size (walks-row (grows-trans b s.adds.nodes) v)))
          (λ q v. absurd-bool (subst (λ (a : ℕ). is_wait (instr_at (code_of m i) a) ≡ true) e w) q)
      by X k s ih (before a) =
          step_ok n X k (λ q v. row_stays (walks-adds v) (ih a)) (λ q v. subst (λ (X : Tables). RowAt m X i p start) v (ih a))

-- ---- the walks of all threads

module _ (m : Module Expr) where
  pub record ThreadsBelow (n : ℕ) (U : Tables) : Type 0 where
    pub begins : Grows (variable_nodes m) U.nodes
    pub size : length U.rows ≡ 33 * waits_below m n

  waits_below-suc : (n : ℕ) → waits_below m (suc n) ≡ waits_below m n + waits_before (code_of m n) (length (code_of m n))
  unfolding waits_below
  waits_below-suc n = refl

  threads-ok : (n : ℕ) {U : Tables} → threads_below m n ≡ ok U → ThreadsBelow n U
  unfolding threads_below waits_below
  threads-ok zero h =
      let q = ok-injective h in
      record { begins = grows_same (sym (ap (λ (u : Tables). u.nodes) q)); size = sym (ap (λ (u : Tables). length u.rows) q) }
  threads-ok (suc n) h =
      let x = bind_ok (threads_below m n) _ h in
      let s = threads-ok n x.1 in
      let y = below-ok m n (length (code_of m n)) x.0 x.2 in
      record { begins = grows-trans s.begins y.adds.nodes; size = omega (arith, y.size, s.size) }

  threads-row : (n : ℕ) {U : Tables} → threads_below m n ≡ ok U → (i p : ℕ) → i < n → p < length (code_of m i) →
      is_wait (instr_at (code_of m i) p) ≡ true → RowAt m U i p (33 * (waits_below m i + waits_before (code_of m i) p))
  unfolding threads_below
  threads-row zero h i p l k w = absurd (omega arith)
  threads-row (suc n) {U} h i p l k w =
      let x = bind_ok (threads_below m n) _ h in
      by x.0 (threads-ok n x.1) x.2 (λ a. threads-row n x.1 i p a k w) (below_suc n i l)
    where
      start : ℕ → ℕ
      start j = 33 * (waits_below m j + waits_before (code_of m j) p)

      by : (X : Tables) → ThreadsBelow n X → walks_below m n (length (code_of m n)) X ≡ ok U → (i < n → RowAt m X i p (start i)) →
          Below n i → RowAt m U i p (start i)
      by X s y ih (at-end e) =
          let e' = sym e in
          let z : length X.rows + 33 * waits_before (code_of m n) p ≡ start n = omega (arith, s.size) in
          subst (λ (j : ℕ). RowAt m U j p (start j)) e'
          (subst (λ (a : ℕ). RowAt m U n p a) z
          (below_row m n (length (code_of m n)) X s.begins y p (subst (λ (j : ℕ). p < length (code_of m j)) e k)
          (subst (λ (j : ℕ). is_wait (instr_at (code_of m j) p) ≡ true) e w)))
      by X s y ih (before a) = row_stays m i (below-ok m n (length (code_of m n)) X y).adds (ih a)

  extracted-ok : {T : Tables} → extracted m ≡ ok T → threads_below m (length m.threads) ≡ ok T
  unfolding extracted
  extracted-ok h = (check-ok (eqb (rule m) 0) (rule m) 0 _ h).1

-- ---- extraction's tables

-- The walk that the row of thread i's wait at p comes from, and its entries.
pub record RowOf (m : Module Expr) (T : Tables) (i p : ℕ) : Type 0 where
  pub before : List Node
  pub walked : Walked
  pub is : walk m i (length (code_of m i)) (p + 1) (own_rows m) before ≡ ok walked
  pub later : List Node
  pub nodes : T.nodes ≡ walked.nodes ++ later
  pub begins : Grows (variable_nodes m) before
  pub registers : (c : ℕ) → c < 32 → entry m T i p c ≡ get_or walked.registers c 0
  pub place : entry m T i p 32 ≡ walked.place

module _ (m : Module Expr) (T : Tables) where
  pub rows-length : extracted m ≡ ok T → length T.rows ≡ 33 * waits_below m (length m.threads)
  rows-length h = (threads-ok m (length m.threads) (extracted-ok m h)).size

  -- The first nodes are the variables'.
  pub nodes-begin : extracted m ≡ ok T → Grows (variable_nodes m) T.nodes
  nodes-begin h = (threads-ok m (length m.threads) (extracted-ok m h)).begins

  pub row-of : extracted m ≡ ok T → (i p : ℕ) → i < length m.threads → p < length (code_of m i) →
      is_wait (instr_at (code_of m i) p) ≡ true → RowOf m T i p
  unfolding entry row_of own_rows
  row-of h i p l k w =
      let r = threads-row m (length m.threads) (extracted-ok m h) i p l k w in
      let e = walk-length m i (length (code_of m i)) (p + 1) (own_rows m) r.before (length-own_row m) r.is in
      record {
        before = r.before;
        walked = r.walked;
        is = r.is;
        later = r.nodes.more;
        nodes = r.nodes.is;
        begins = r.begins;
        registers = λ c b.
            r.entry_at c (omega arith) ∙ get_or-append r.walked.registers (r.walked.place ∷ []) 0 c (omega arith);
        place = r.entry_at 32 (omega arith) ∙ get_or_at r.walked.registers r.walked.place [] 0 32 e;
      }
