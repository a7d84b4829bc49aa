-- The sections of a plan that are put word by word: counts, widths, readers, watchers and sizes. Assumes nothing.
use mathlib.Core.Path.{◌≡◌, refl, ◌∙◌}
use mathlib.Core.List.{List}
use Prim.Native.Nat.{ℕ, zero, suc, ◌+◌, ◌≤◌, ◌<◌}
use native.Mathlib.Nat.{not-suc-le-zero}
use native.Mathlib.Omega.{arith}
use lib.ListN.{length, get_or, set, length-set}
use lib.Seq.{get_or-set_same, get_or-set_other}
use Rattle.plan.specs.Sections.{readers_place, watchers_place, width_place, count_place, size_place}
use Rattle.plan_fill.specs.Filling.{up_to}
use Rattle.plan_fill.proofs.Kept.{up-to, Kept}
use Rattle.plan_fill.proofs.Laying.{Four}

-- ---- Put: n words from a base on are those of g, all others stay

pub record Put (base n : ℕ) (g : ℕ → ℕ) (ws us : List ℕ) : Type 0 where
  pub own : (k : ℕ) → k < n → get_or us (base + k) 0 ≡ g k
  pub before : (i : ℕ) → i < base → get_or us i 0 ≡ get_or ws i 0
  pub after : (i : ℕ) → base + n ≤ i → get_or us i 0 ≡ get_or ws i 0
  pub long : length us ≡ length ws

put-more : (base n : ℕ) (g : ℕ → ℕ) (ws us : List ℕ) → base + n < length ws → Put base n g ws us
    → Put base (suc n) g ws (set us (base + n) (g n))
put-more base n g ws us h y =
    let l = y.long in
    record {
      own = λ k u. up-to k n u (λ j. get_or-set_other us (base + n) (base + k) (g n) 0 (λ q. omega arith) ∙ y.own k j)
          (λ j. rw j (get_or-set_same us (base + n) (g n) 0 (omega arith)));
      before = λ i u. get_or-set_other us (base + n) i (g n) 0 (λ q. omega arith) ∙ y.before i u;
      after = λ i u. get_or-set_other us (base + n) i (g n) 0 (λ q. omega arith) ∙ y.after i (omega arith);
      long = length-set us (base + n) (g n) ∙ l;
    }

module _ (step : ℕ → List ℕ → List ℕ) (base : ℕ) (g : ℕ → ℕ) (sets : (k : ℕ) (ws : List ℕ) → step k ws ≡ set ws (base + k) (g k)) where
  pub put_up : (n : ℕ) (ws : List ℕ) → base + n ≤ length ws → Put base n g ws (up_to step n ws)
  unfolding up_to
  put_up zero ws h = record { own = λ k u. absurd (not-suc-le-zero u); before = λ i u. refl; after = λ i u. refl; long = refl }
  put_up (suc n) ws h =
      rw (sets n (up_to step n ws)) (put-more base n g ws (up_to step n ws) (omega arith) (put_up n ws (omega arith)))

-- ---- Tabled: all five sections stand in the plan

pub record Tabled (a b c d n : ℕ) (widths readers watchers sizes : ℕ → ℕ) (ws : List ℕ) : Type 0 where
  pub inputs : get_or ws (count_place 0) 0 ≡ a
  pub registers : get_or ws (count_place 1) 0 ≡ b
  pub wires : get_or ws (count_place 2) 0 ≡ c
  pub threads : get_or ws (count_place 3) 0 ≡ d
  pub width : (v : ℕ) → v < n → get_or ws (width_place v) 0 ≡ widths v
  pub readers-at : (v : ℕ) → v < 80 → get_or ws (readers_place v) 0 ≡ readers v
  pub watchers-at : (v : ℕ) → v < 80 → get_or ws (watchers_place v) 0 ≡ watchers v
  pub size : (i : ℕ) → i < 8 → get_or ws (size_place i) 0 ≡ sizes i
  pub long : length ws ≡ 25212

module _ {a b c d n : ℕ} {widths readers watchers sizes : ℕ → ℕ} where
  pub tabled : (us vs ws xs ys : List ℕ) → length us ≡ 25212 → n ≤ 80 → Four us 25200 a b c d → Put 25120 n widths us vs
      → Put 24960 80 readers vs ws → Put 25040 80 watchers ws xs → Put 25204 8 sizes xs ys
      → Tabled a b c d n widths readers watchers sizes ys
  tabled us vs ws xs ys l h f p q r t =
      let count : (i : ℕ) → 25200 ≤ i → i < 25204 → get_or ys i 0 ≡ get_or us i 0 =
      λ i x y. t.before i (omega arith) ∙ r.after i (omega arith) ∙ q.after i (omega arith) ∙ p.after i (omega arith) in
      record {
        inputs = count 25200 (omega arith) (omega arith) ∙ f.kind;
        registers = count 25201 (omega arith) (omega arith) ∙ f.number;
        wires = count 25202 (omega arith) (omega arith) ∙ f.first;
        threads = count 25203 (omega arith) (omega arith) ∙ f.root;
        width = λ v u. t.before (25120 + v) (omega arith) ∙ r.after (25120 + v) (omega arith)
            ∙ q.after (25120 + v) (omega arith) ∙ p.own v u;
        readers-at = λ v u. t.before (24960 + v) (omega arith) ∙ r.before (24960 + v) (omega arith) ∙ q.own v u;
        watchers-at = λ v u. t.before (25040 + v) (omega arith) ∙ r.own v u;
        size = t.own;
        long = t.long ∙ r.long ∙ q.long ∙ p.long ∙ l;
      }

  pub tabled-kept : {m x y : ℕ} {us ws : List ℕ} → y ≤ 24960 → Kept m x y us ws → Tabled a b c d n widths readers watchers sizes us
      → Tabled a b c d n widths readers watchers sizes ws
  tabled-kept h k t =
      record {
        inputs = k.after 25200 (omega arith) ∙ t.inputs;
        registers = k.after 25201 (omega arith) ∙ t.registers;
        wires = k.after 25202 (omega arith) ∙ t.wires;
        threads = k.after 25203 (omega arith) ∙ t.threads;
        width = λ v u. k.after (25120 + v) (omega arith) ∙ t.width v u;
        readers-at = λ v u. k.after (24960 + v) (omega arith) ∙ t.readers-at v u;
        watchers-at = λ v u. k.after (25040 + v) (omega arith) ∙ t.watchers-at v u;
        size = λ i u. k.after (25204 + i) (omega arith) ∙ t.size i u;
        long = k.long ∙ t.long;
      }
