-- All wires, all instructions of a thread, all threads: each lies in the plan when its stage is done. Assumes nothing.
use mathlib.Core.Path.{◌≡◌, ap, ◌∙◌}
use mathlib.Core.List.{List}
use Prim.Native.Nat.{ℕ, suc, ◌+◌, ◌≤◌, ◌<◌}
use native.Mathlib.Nat.{le_refl}
use native.Mathlib.Omega.{arith}
use lib.ListN.{length, get_or, set, length-set}
use lib.Seq.{get_or-set_same, get_or-set_other}
use Rattle.sheet.specs.Expression.{Expr, Scope, Parsed}
use Rattle.pseudocode.specs.Translation.{Instr, go}
use Rattle.pseudocode.specs.Fetching.{fetch_at}
use Rattle.plan.specs.Sections.{code_place, wire_place}
use Rattle.plan_exprs.specs.Flatten.{Adding, add_at}
use Rattle.plan_exprs.proofs.Flatten.{count, Laid, add-flat}
use Rattle.tables.specs.Readers.{at_most}
use Rattle.tables.proofs.Marking.{ReadAt}
use Rattle.tables.proofs.Placing.{Coded}
use Rattle.plan_fill.specs.Filling.{up_to, Filling, filling, fill_wire, fill_place, fill_thread}
use Rattle.plan_fill.proofs.Kept.{Kept, kept_then, kept-wider, sum_below, Stepped, Ran, run}
use Rattle.plan_fill.proofs.Room.{nodes_of}
use Rattle.plan_fill.proofs.Laying.{Ready, ready-kept, laid_kept, laid-lies, PutIn, put-stays, Filled, instr-filled}
use Rattle.plan_fill.proofs.Laying.{WireIn, wire-stays}

-- ---- two words of a wire

module _ (n at a b : ℕ) (ws : List ℕ) (h : n ≤ 4176) (l : 16704 ≤ at) where
  abbrev two : List ℕ
  two = set (set ws at a) (at + 1) b

  two-other : (i : ℕ) → (i ≡ at → ⊥) → (i ≡ at + 1 → ⊥) → get_or two i 0 ≡ get_or ws i 0
  two-other i p q = get_or-set_other (set ws at a) (at + 1) i b 0 q ∙ get_or-set_other ws at i a 0 p

  two-kept : Kept n at (at + 2) ws two
  two-kept =
      record {
        below = λ i u. two-other i (λ q. omega arith) (λ q. omega arith);
        before = λ i u v. two-other i (λ q. omega arith) (λ q. omega arith);
        after = λ i u. two-other i (λ q. omega arith) (λ q. omega arith);
        long = length-set (set ws at a) (at + 1) b ∙ length-set ws at a;
      }

  two-0 : at + 1 < length ws → get_or two at 0 ≡ a
  two-0 u = get_or-set_other (set ws at a) (at + 1) at b 0 (λ q. omega arith) ∙ get_or-set_same ws at a 0 (omega arith)

  two-1 : at + 1 < length ws → get_or two (at + 1) 0 ≡ b
  two-1 u = get_or-set_same (set ws at a) (at + 1) b 0 (simp length-set u)

-- ---- wires

module _ (c : Scope) (alone : c.declared ≡ 0) (s : List ℕ) (short : length s ≤ 8192) (few : length c.widths ≤ 80)
    (starts : List ℕ) (wire : ℕ → Expr) (N : ℕ) (most : N ≤ 32) (read : (k : ℕ) → k < N → ReadAt c s (wire k) (get_or starts k 0)) where
  abbrev pub WireMade : ℕ → ℕ → List ℕ → Type 0
  WireMade k m ws = WireIn (length c.widths) m ws k (wire k)

  abbrev pub wire_cost : ℕ → ℕ
  wire_cost k = count (wire k)

  -- A wire that was laid out, with its two words.
  wire-laid : (k : ℕ) → k < 32 → (f : Filling) → 80 ≤ f.free → Ready c.widths f.words → f.free + wire_cost k ≤ 4175
      → (q : Parsed Expr) (a : Adding) → Laid (length c.widths) f.free f.words q a → q.item ≡ wire k
      → Stepped WireMade (Ready c.widths) (fill_wire s starts) wire_cost wire_place k f
      (filling a.added.free (set (set a.words (wire_place k) f.free) (wire_place k + 1) a.added.root))
  wire-laid k h f some x r q a y same =
      let at = wire_place k in
      let m = f.free + count (wire k) in
      let us = set (set a.words at f.free) (at + 1) a.added.root in
      let d : a.added.free ≡ m = y.free ∙ ap (λ (e : Expr). f.free + count e) same in
      let l : length a.words ≡ 25212 = y.long ∙ x.long in
      let k2 = two-kept m at f.free a.added.root a.words (omega arith) (omega arith) in
      let k1 : Kept f.free at (wire_place (suc k)) f.words us =
      kept-wider
      (kept_then (laid_kept (length c.widths) f.free f.words q a y at at (omega arith)) k2
      (omega arith) (omega arith) (omega arith))
      (omega arith) (omega arith) (omega arith) in
      record {
        free = d;
        kept = k1;
        made = record {
          first = f.free;
          root = a.added.root;
          at_first = two-0 m at f.free a.added.root a.words (omega arith) (omega arith) (omega arith);
          at-root = two-1 m at f.free a.added.root a.words (omega arith) (omega arith) (omega arith);
          lies = rw d (laid-lies (length c.widths) f.free f.words q a y us (wire k) same few some k2.below);
        };
        ready = ready-kept c.widths f.words us (omega arith) k1 x;
      }

  wire-stepped : (k : ℕ) → k < N → (f : Filling) → 80 ≤ f.free → Ready c.widths f.words → f.free + wire_cost k ≤ 4175
      → Stepped WireMade (Ready c.widths) (fill_wire s starts) wire_cost wire_place k f (fill_wire s starts k f)
  unfolding fill_wire
  wire-stepped k h f some x r =
      let z = read k h in
      wire-laid k (omega arith) f some x r z.0 (add_at 16 s (get_or starts k 0) f.free f.words)
      (add-flat c alone s short f.free f.words x.widths (rw z.2 (omega arith)) z.1) z.2

  pub wires-ran : (f : Filling) → 80 ≤ f.free → Ready c.widths f.words → f.free + sum_below wire_cost N ≤ 4175
      → Ran WireMade (Ready c.widths) (fill_wire s starts) wire_cost wire_place N f (up_to (fill_wire s starts) N f)
  wires-ran =
      run WireMade (Ready c.widths) (fill_wire s starts) wire_cost wire_place N (λ k n h. omega arith)
      (λ k m n a b ws us h l y x. wire-stays h l y x) wire-stepped N (le_refl N)

-- ---- instructions

module _ (c : Scope) (alone : c.declared ≡ 0) (s : List ℕ) (short : length s ≤ 8192) (few : length c.widths ≤ 80) (code : List ℕ) where
  module _ (i : ℕ) (hi : i < 8) (is : List (Instr Expr)) (most : length is ≤ 256)
      (coded : (p : ℕ) → p < length is → Coded c s (get_or is p (go 0)) (fetch_at s code i p)) where
    abbrev pub PlaceMade : ℕ → ℕ → List ℕ → Type 0
    PlaceMade p m ws = PutIn (length c.widths) m ws (code_place i p) (get_or is p (go 0))

    abbrev pub place_cost : ℕ → ℕ
    place_cost p = nodes_of (get_or is p (go 0))

    place-step : (p : ℕ) → p < 256 → (f g : Filling) → Ready c.widths f.words
        → Filled (length c.widths) (get_or is p (go 0)) (code_place i p) f g
        → Stepped PlaceMade (Ready c.widths) (fill_place s code i) place_cost (code_place i) p f g
    place-step p h f g x y =
        let k : Kept f.free (code_place i p) (code_place i (suc p)) f.words g.words =
        kept-wider y.kept (omega arith) (omega arith) (omega arith) in
        record { free = y.free; kept = k; made = y.put; ready = ready-kept c.widths f.words g.words (omega arith) k x }

    place-stepped : (p : ℕ) → p < length is → (f : Filling) → 80 ≤ f.free → Ready c.widths f.words → f.free + place_cost p ≤ 4175
        → Stepped PlaceMade (Ready c.widths) (fill_place s code i) place_cost (code_place i) p f (fill_place s code i p f)
    unfolding fill_place
    place-stepped p h f some x r =
        place-step p (omega arith) f _ x
        (instr-filled c alone s short few (code_place i p) f (omega arith) (omega arith) some x (coded p h) r)

    pub places-ran : (f : Filling) → 80 ≤ f.free → Ready c.widths f.words → f.free + sum_below place_cost (length is) ≤ 4175
        → Ran PlaceMade (Ready c.widths) (fill_place s code i) place_cost (code_place i) (length is) f
        (up_to (fill_place s code i) (length is) f)
    places-ran =
        run PlaceMade (Ready c.widths) (fill_place s code i) place_cost (code_place i) (length is) (λ k n h. omega arith)
        (λ k m n a b ws us h l y x. put-stays h (omega arith) (omega arith) y x) place-stepped (length is) (le_refl (length is))

  -- ---- threads

  module _ (sizes : List ℕ) (is : ℕ → List (Instr Expr)) (N : ℕ) (few-threads : N ≤ 8) (most : (i : ℕ) → i < N → length (is i) ≤ 256)
      (coded : (i p : ℕ) → i < N → p < length (is i) → Coded c s (get_or (is i) p (go 0)) (fetch_at s code i p))
      (sized : (i : ℕ) → i < N → at_most 256 (get_or sizes i 0) ≡ length (is i)) where
    abbrev pub ThreadMade : ℕ → ℕ → List ℕ → Type 0
    ThreadMade i m ws = (p : ℕ) → p < length (is i) → p < 256 → PutIn (length c.widths) m ws (code_place i p) (get_or (is i) p (go 0))

    abbrev pub thread_cost : ℕ → ℕ
    thread_cost i = sum_below (λ p. nodes_of (get_or (is i) p (go 0))) (length (is i))

    abbrev pub thread_place : ℕ → ℕ
    thread_place i = code_place i 0

    thread-stepped : (i : ℕ) → i < N → (f : Filling) → 80 ≤ f.free → Ready c.widths f.words → f.free + thread_cost i ≤ 4175
        → Stepped ThreadMade (Ready c.widths) (fill_thread s code sizes) thread_cost thread_place i f (fill_thread s code sizes i f)
    unfolding fill_thread
    thread-stepped i h f some x r =
        let l = most i h in
        let y = places-ran i (omega arith) (is i) l (λ p. coded i p h) f some x r in
        rw (sized i h) (record {
          free = y.free;
          kept = kept-wider y.kept (omega arith) (omega arith) (omega arith);
          made = λ p u v. y.made p u;
          ready = y.ready;
        })

    pub threads-ran : (f : Filling) → 80 ≤ f.free → Ready c.widths f.words → f.free + sum_below thread_cost N ≤ 4175
        → Ran ThreadMade (Ready c.widths) (fill_thread s code sizes) thread_cost thread_place N f (up_to (fill_thread s code sizes) N f)
    threads-ran =
        run ThreadMade (Ready c.widths) (fill_thread s code sizes) thread_cost thread_place N (λ k n h. omega arith)
        (λ k m n a b ws us h l y x p u v. put-stays h (omega arith) (omega arith) y (x p u v)) thread-stepped N (le_refl N)
