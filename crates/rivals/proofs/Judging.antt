-- How far four runs came, and the verdict cycle by cycle and chunk by chunk. Assumes nothing.
use mathlib.Core.Path.{◌≡◌, refl}
use mathlib.Core.Logic.{◌≢◌}
use mathlib.Core.List.{List, [], ◌∷◌}
use mathlib.Core.Bool.{Bool, true, false}
use Prim.Native.Nat.{ℕ, suc, ◌+◌, ◌-◌, ◌/◌, ◌≤◌, ◌<◌}
use native.Mathlib.Omega.{arith}
use borrow.Author.Tests.{lt-ltb, le-ltb, eq-eqb, ne_eqb, ltb-true, ltb-false}
use lib.Dec.{ltb}
use lib.ListN.{length}
use Rattle.std.specs.Prelude.{Some, None}
use Rattle.values.specs.Values.{pick}
use Rattle.comparison.specs.declared.Finding.{Finding}
use Rattle.comparison.specs.declared.Verdict.{Verdict}
use Rattle.comparison.specs.Verdicts.{after, after_all}
use Rattle.rivals.specs.declared.Halt.TheVariants.{Plain, First, Second, Expressed}
use Rattle.rivals.specs.Judging.{Progress, lesser, comparable, cycles_in, halted, findings, ByChunks}

-- ---- lesser

module _ (a b : ℕ) where
  pub lesser-first : a < b → lesser a b ≡ a
  unfolding lesser
  lesser-first h = rw (lt-ltb a b h)

  pub lesser-second : b ≤ a → lesser a b ≡ b
  unfolding lesser
  lesser-second h = rw (le-ltb a b h)

pub lesser-≤ : (a b : ℕ) → (lesser a b ≤ a) × (lesser a b ≤ b)
unfolding lesser
lesser-≤ a b = by (ltb a b) refl
  where
    by : (x : Bool) → ltb a b ≡ x → (pick x a b ≤ a) × (pick x a b ≤ b)
    by true q = let h = ltb-true a b q in (omega arith, omega arith)
    by false q = let h = ltb-false a b q in (omega arith, omega arith)

-- No more cycles than the plain run's trace has.
pub cycles-plain : (p a b e : List ℕ) → cycles_in p a b e ≤ length p / 176
unfolding cycles_in comparable
cycles-plain p a b e =
    let l = (lesser-≤ (length p / 176) (length a / 176)).0 in
    let k = (lesser-≤ (lesser (length p / 176) (length a / 176)) (lesser (length b / 176) (length e / 176))).0 in
    omega arith

-- ---- halted, case by case

module _ (cycles : ℕ) (p : Progress) (n : ℕ) (e : n ≡ comparable p) where
  pub halted-nobody : cycles ≤ n → None ≡ halted cycles p
  unfolding halted
  halted-nobody h = rw (← e, le-ltb n cycles h)

  module _ (h : n < cycles) where
    pub halted-plain : p.plain ≡ n → Some Plain ≡ halted cycles p
    unfolding halted
    halted-plain k = rw (← e, lt-ltb n cycles h, eq-eqb p.plain n k)

    module _ (k : p.plain ≢ n) where
      pub halted-first : p.first ≡ n → Some First ≡ halted cycles p
      unfolding halted
      halted-first l = rw (← e, lt-ltb n cycles h, ne_eqb p.plain n k, eq-eqb p.first n l)

      module _ (l : p.first ≢ n) where
        pub halted-second : p.second ≡ n → Some Second ≡ halted cycles p
        unfolding halted
        halted-second q =
            rw (← e, lt-ltb n cycles h, ne_eqb p.plain n k, ne_eqb p.first n l, eq-eqb p.second n q)

        pub halted-expressed : p.second ≢ n → Some Expressed ≡ halted cycles p
        unfolding halted
        halted-expressed q =
            rw (← e, lt-ltb n cycles h, ne_eqb p.plain n k, ne_eqb p.first n l, ne_eqb p.second n q)

-- ---- one cycle judged, and the rest to come

module _ (f : ℕ → Finding) (n c : ℕ) (v : Verdict) where
  pub judged-next : {g : Finding} {w : Verdict} → c < n → g ≡ f c → w ≡ after v g
      → after_all w (findings f (n - (c + 1)) (c + 1)) ≡ after_all v (findings f (n - c) c)
  unfolding findings after_all
  judged-next h e k =
      let l : n - c ≡ suc (n - (c + 1)) = omega arith in
      rw (k, e, l)

  pub judged-end : n ≤ c → after_all v (findings f (n - c) c) ≡ v
  unfolding findings after_all
  judged-end h = let l : n - c ≡ 0 = omega arith in rw l

-- ---- chunk by chunk

pub by-chunks : ByChunks
unfolding after_all
by-chunks v [] gs = refl
by-chunks v (f ∷ fs) gs = by-chunks (after v f) fs gs
