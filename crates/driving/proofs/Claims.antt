-- The claim of driven cycles on a plan. Assumes nothing.
use mathlib.Core.Path.{◌≡◌, refl, ap, ◌∙◌}
use mathlib.Core.Bool.{Bool, true, false}
use mathlib.Core.List.{List}
use Prim.Native.Nat.{ℕ, ◌-◌, ◌^◌, ◌<◌}
use native.Mathlib.Omega.{arith}
use lib.Dec.{ltb}
use lib.Pow.{ones_lt}
use lib.ListN.{length, get_or, replicate, length-replicate, get_or-replicate, get_or-eq_default}
use borrow.Author.Tests.{ltb-true, ltb-false}
use Rattle.values.specs.Values.{pick, ones}
use Rattle.values.proofs.Values.{below_wider}
use Rattle.state.specs.declared.State.{State}
use Rattle.state.specs.State.{Bounded}
use Rattle.state.proofs.Rows.{list_of-below}
use Rattle.events.specs.Calls.{started}
use Rattle.events.proofs.Fits.{shaped-started}
use Rattle.plan.specs.Plan.{plan_of}
use Rattle.prepared.specs.Prepared.{prepared_plan, start_at}
use Rattle.prepared.specs.Claims as prepared
use Rattle.prepared.proofs.Claims as preparing
use Rattle.prepared_cycles.specs.declared.Driven.{Driven}
use Rattle.prepared_cycles.specs.Claims as cycling
use Rattle.prepared_cycles.proofs.Claims as cycles
use Rattle.prepared_cycles.specs.Drives.{settled}
use Rattle.driving.specs.Plans.{seed_of, is_drawn, rest_of, traced, resumed_at, begun_at, traced_at, rows_at}
use Rattle.driving.specs.Plans.{resumed_on, begun_on, traced_on, rows_on}
use Rattle.driving.specs.Claims.{OnTheSheet}

small : (n v k : ℕ) → 0 < k → get_or (replicate n 0) v 0 < k
small n v k h = by (ltb v n) refl
  where
    by : (t : Bool) → ltb v n ≡ t → get_or (replicate n 0) v 0 < k
    by true e = rw (get_or-replicate {A = ℕ} n v 0 0 (ltb-true v n e)) h
    by false e =
        let l = ltb-false v n e in
        let m = length-replicate {A = ℕ} n 0 in
        rw (get_or-eq_default {A = ℕ} (replicate n 0) 0 {n = v} (omega arith)) h

-- No value has more than 32 bits.
ones_small : (w : ℕ) → ones w < 2 ^ 32
unfolding ones
ones_small w = by (ltb w 32) refl
  where
    by : (t : Bool) → ltb w 32 ≡ t → pick t (2 ^ w - 1) (2 ^ 32 - 1) < 2 ^ 32
    by true e = below_wider {u = w} {w = 32} (ones_lt w) (omega (arith, ltb-true w 32 e))
    by false e = ones_lt 32

bounded-started : (vs : List ℕ) (n : ℕ) (allowances : List ℕ) → ((v : ℕ) → get_or allowances v 0 < 2 ^ 32)
    → Bounded (started vs n allowances)
unfolding started
bounded-started vs n allowances h =
    record {
      value = λ v. small 80 v (2 ^ 32) (omega arith);
      unknown = list_of-below (λ v. ones (get_or vs v 32)) 80 (2 ^ 32) (omega arith) (λ v. ones_small (get_or vs v 32));
      pending = λ r. small 32 r (2 ^ 32) (omega arith);
      unsure = λ r. small 32 r (2 ^ 32) (omega arith);
      places = λ i. small 8 i (2 ^ 8) (omega arith);
      time = omega arith;
      counts = λ u. small 4 u (2 ^ 64) (omega arith);
      allowances = h;
    }

pub on-the-sheet : OnTheSheet
unfolding OnTheSheet prepared.OnTheSheet cycling.OnTheSheet resumed_at resumed_on begun_at begun_on traced_at traced_on rows_at rows_on start_at
on-the-sheet s ws m e l =
    let p = preparing.on-the-sheet s ws m e l in
    record {
      begin =
          λ allowances k h u way.
          ap (rest_of u way)
          ((cycles.on-the-sheet s ws m e l (start_at (plan_of (prepared_plan s ws)) allowances) (shaped-started _ _ allowances k)
          (bounded-started _ _ allowances h)).settle (is_drawn way) (seed_of way) u
          ∙ ap (λ (st : State). settled s (is_drawn way) (seed_of way) st u) (p.start allowances));
      resume = λ st h b u way. ap (rest_of u way) ((cycles.on-the-sheet s ws m e l st h b).settle (is_drawn way) (seed_of way) u);
      trace =
          λ r h b u ns xs w.
          ap (λ (d : Driven). pick (ltb (length ns) 16) (traced 0 r) (traced d.phases (rest_of u r.way d)))
          ((cycles.on-the-sheet s ws m e l r.state h b).drive (is_drawn r.way) r.seed u ns xs w);
      rows =
          λ r h b u ns xs w.
          ap (λ (v : List ℕ). pick (ltb (length ns) 16) w v)
          ((cycles.on-the-sheet s ws m e l r.state h b).driven (is_drawn r.way) r.seed u ns xs w);
    }
