-- What each branch and each turn of a loop owes, on plain values. Assumes nothing.
use mathlib.Core.Path.{◌≡◌, refl, sym, ap, ◌∙◌}
use mathlib.Core.List.{List}
use Prim.Native.Nat.{ℕ, ◌+◌, ◌<◌}
use native.Mathlib.Decide.{dec_lt}
use native.Mathlib.Numerals.{add-one}
use native.Mathlib.Omega.{arith}
use borrow.Author.Tests.{lt-ltb, le-ltb}
use lib.Dec.{ltb}
use lib.ListN.{get_or, set, replicate}
use Rattle.std.specs.Prelude.{min}
use Rattle.std.proofs.Math.Nat.{min-eq_left, min-eq_right}
use Rattle.values.specs.Values.{pick}
use Rattle.plan.specs.Sections.{slot_of}
use Rattle.plan.specs.Plan.{Node, Plan}
use Rattle.clock_steps.specs.Settling.{put_cell, settle_wire, settle_to, settle}
use Rattle.clock_steps.specs.Taking.{take_register, take_registers, Taking, taking, take_thread, take_below, load_to, store_to, Stand}
use Rattle.clock_steps.specs.Taking.{stand, at_most, rise}

-- ---- settle_to, settle

module _ (q : Plan) where
  pub settle-none : (cs : List ℕ) → cs ≡ settle_to q 0 cs
  unfolding settle_to
  settle-none cs = refl

  pub settle-more : (k : ℕ) (cs : List ℕ) {ds es : List ℕ} → ds ≡ settle_to q k cs → es ≡ settle_wire q k ds → es ≡ settle_to q (k + 1) cs
  unfolding settle_to
  settle-more k cs p r = rw (add-one k, ← p) r

  pub settle-all : (k : ℕ) (cs : List ℕ) {ds : List ℕ} {n : ℕ} → n ≡ q.wires → k ≡ n → ds ≡ settle_to q k cs → ds ≡ settle q cs
  unfolding settle
  settle-all k cs e p r = r ∙ ap (λ (j : ℕ). settle_to q j cs) (p ∙ e)

-- ---- take_registers

module _ (ts : List ℕ) (row : ℕ) (cs : List ℕ) where
  pub registers-none : (news : List ℕ) → news ≡ take_registers ts row cs 0 news
  unfolding take_registers
  registers-none news = refl

  pub registers-more :
      (r : ℕ) (news : List ℕ) {ds es : List ℕ} → ds ≡ take_registers ts row cs r news → es ≡ take_register ts row cs r ds →
      es ≡ take_registers ts row cs (r + 1) news
  unfolding take_registers
  registers-more r news p e = rw (add-one r, ← p) e

-- ---- take_below

module _ (f : ℕ → Node) (ts numbers : List ℕ) (count : ℕ) where
  pub threads-none : (t : Taking) → t ≡ take_below f ts numbers count 0 t
  unfolding take_below
  threads-none t = refl

  pub threads_more :
      (i : ℕ) (t : Taking) {u v : Taking} → u ≡ take_below f ts numbers count i t → v ≡ take_thread f ts numbers count i u →
      v ≡ take_below f ts numbers count (i + 1) t
  unfolding take_below
  threads_more i t p e = rw (add-one i, ← p) e

-- ---- load_to, store_to

pub load-none : (cs : List ℕ) (first : ℕ) (news : List ℕ) → news ≡ load_to cs first 0 news
unfolding load_to
load-none cs first news = refl

pub load-more :
    (cs : List ℕ) (first r : ℕ) (news : List ℕ) {ds : List ℕ} {s : ℕ} → ds ≡ load_to cs first r news → s ≡ slot_of (first + r) →
    set ds r (get_or cs s 0) ≡ load_to cs first (r + 1) news
unfolding load_to
load-more cs first r news p e = rw (add-one r, ← p, e)

pub store-none : (news : List ℕ) (first : ℕ) (cs : List ℕ) → cs ≡ store_to news first 0 cs
unfolding store_to
store-none news first cs = refl

pub store-more :
    (news : List ℕ) (first r : ℕ) (cs : List ℕ) {ds es : List ℕ} → ds ≡ store_to news first r cs →
    es ≡ put_cell (first + r) (get_or news r 0) ds → es ≡ store_to news first (r + 1) cs
unfolding store_to
store-more news first r cs p e = rw (add-one r, ← p) e

-- ---- at_most

pub most-min : (most n : ℕ) → min n most ≡ at_most most n
unfolding at_most
most-min most n = by (dec_lt n most)
  where
    by : Dec (n < most) → min n most ≡ pick (ltb n most) n most
    by (yes l) = rw (lt-ltb n most l) (min-eq_left (omega arith))
    by (no l) = rw (le-ltb n most (omega arith)) (min-eq_right (omega arith))

-- ---- rise

module _ (f : ℕ → Node) (ts numbers cs ps : List ℕ) where
  -- What the threads leave, and the rise on plain numbers.
  abbrev left : ℕ → ℕ → ℕ → Taking
  left first count threads = take_below f ts numbers count threads (taking cs (load_to cs first count (replicate 32 0)) ps)

  abbrev put : ℕ → ℕ → Taking → Stand
  put first count t = stand (store_to t.news first count t.cells) t.places

  module _ (q : Plan) where
    pub risen : rise q f ts numbers (stand cs ps)
        ≡ put q.inputs (at_most 32 q.registers) (left q.inputs (at_most 32 q.registers) (at_most 8 q.threads))
    unfolding rise
    risen = refl

    same-rise : {i j n m k l : ℕ} → i ≡ j → n ≡ m → k ≡ l → put i n (left i n k) ≡ put j m (left j m l)
    same-rise a b c = rw (a, b, c)

    pub rises :
        {first count threads registers all : ℕ} {n0 n1 n2 c1 c2 p1 : List ℕ} →
        first ≡ q.inputs → registers ≡ q.registers → all ≡ q.threads →
        count ≡ at_most 32 registers → threads ≡ at_most 8 all → n0 ≡ replicate 32 0 → n1 ≡ load_to cs first count n0 →
        taking c1 n2 p1 ≡ take_below f ts numbers count threads (taking cs n1 ps) → c2 ≡ store_to n2 first count c1 →
        stand c2 p1 ≡ rise q f ts numbers (stand cs ps)
    rises {first} {count} {threads} {p1 = p1} a b c d e z l t s =
        let u = t ∙ ap (λ (n : List ℕ). take_below f ts numbers count threads (taking cs n ps)) (l ∙ ap (load_to cs first count) z) in
        let y = ap (λ (x : List ℕ). stand x p1) s ∙ ap (put first count) u in
        let x = same-rise a (d ∙ ap (at_most 32) b) (e ∙ ap (at_most 8) c) in
        y ∙ x ∙ sym risen
