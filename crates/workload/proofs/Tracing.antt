-- The laws by which the code goes: a turn of each loop on plain values. Assumes nothing.
use mathlib.Core.Path.{◌≡◌, refl, sym, ap, ◌∙◌}
use mathlib.Core.Bool.{Bool, true, false}
use mathlib.Core.List.{List}
use Prim.Native.Nat.{ℕ, suc, ◌+◌, ◌-◌, ◌*◌, ◌<◌, ◌≤◌}
use native.Mathlib.Omega.{arith}
use borrow.Author.Tests.{eq-eqb, ne_eqb, lt-ltb, le-ltb}
use lib.ListN.{length}
use Rattle.values.specs.Values.{pick}
use Rattle.state.specs.declared.State.{State}
use Rattle.events.specs.declared.Inputs.{Inputs}
use Rattle.events.specs.declared.Chosen.{Chosen}
use Rattle.plan.specs.Plan.{Plan}
use Rattle.prepared.specs.Prepared.{choose_at, instant_at}
use Rattle.counted.specs.declared.Worked.{Worked}
use Rattle.counted.specs.Counted.{work_at, readers_at}
use Rattle.driving.specs.declared.Rest.{Rest}
use Rattle.driving.specs.declared.Traced.{Traced}
use Rattle.driving.specs.Plans.{traced}
use Rattle.workload.specs.declared.Tally.{Tally}
use Rattle.workload.specs.Workload.{tally, summed, driven, inputs_at}
use Rattle.workload.specs.Workload.{stretched, committed, is_over, to_rest, cycled, after, written, traced_from, rows_from}

first : {A : Type 0} (t : Bool) (a b : A) → t ≡ true → pick t a b ≡ a
first t a b e = rw e refl

second : {A : Type 0} (t : Bool) (a b : A) → t ≡ false → pick t a b ≡ b
second t a b e = rw e refl

-- ---- a stretch, the commit behind it, an instant

module _ (q : Plan) (u : ℕ) (t : Tally) where
  pub stretched-is : (before : State) (w : Worked) → w ≡ work_at q t.state u 65535 → (n : ℕ)
      → n ≡ readers_at q before w.state q.wires → (k : ℕ) → k ≡ w.stores → (a b : ℕ) → a ≡ summed t.stores k → b ≡ summed t.readers n →
      tally w.number false a b w.state ≡ stretched q u before t
  unfolding stretched
  stretched-is before w e n f k i a b g h = rw (g, h, f, i, e)

  module _ (c : Chosen) (e : c ≡ choose_at q t.state u 255) where
    pub committed-quiet : c.number ≡ 35 → tally 0 true t.stores t.readers c.state ≡ committed q u t
    unfolding committed
    committed-quiet h = rw (← e, eq-eqb c.number 35 h)

    pub committed-on : (c.number ≡ 35 → ⊥) → tally c.number false t.stores t.readers c.state ≡ committed q u t
    unfolding committed
    committed-on h = rw (← e, ne_eqb c.number 35 h)

  module _ (a : Inputs) (c : Chosen) (e : c ≡ instant_at q t.state a) where
    pub driven-refused : (c.number ≡ 0 → ⊥) → tally c.number false t.stores t.readers c.state ≡ driven q u a t
    unfolding driven
    driven-refused h = rw (← e, ne_eqb c.number 0 h)

    pub driven-on : c.number ≡ 0 → (r : Tally) →
        r ≡ to_rest q u 65535 t.state (tally c.number false t.stores t.readers c.state) → r ≡ driven q u a t
    unfolding driven
    driven-on h r f = rw (← e, eq-eqb c.number 0 h) f

-- ---- a cycle

module _ (q : Plan) (u : ℕ) (ns xs : List ℕ) (at : ℕ) (st : State) (a : Inputs) (e : a ≡ inputs_at q ns xs at 0) (low : Tally)
    (f : low ≡ driven q u a (tally 0 true 0 0 st))
  where
    pub cycled-low : low.rested ≡ false → low ≡ cycled q u ns xs at st
    unfolding cycled
    cycled-low h = rw (← e, ← f, h)

    pub cycled-whole : low.rested ≡ true → (b : Inputs) → b ≡ inputs_at q ns xs at 1 → (r : Tally) → r ≡ driven q u b low →
        r ≡ cycled q u ns xs at st
    unfolding cycled
    cycled-whole h b g r i = rw (← e, ← f, ← g) (i ∙ sym (first low.rested (driven q u b low) low h))

-- ---- to rest

module _ (q : Plan) (u : ℕ) (before : State) (t : Tally) (n : ℕ) where
  pub rest-none : n ≤ 0 → to_rest q u n before t ≡ t
  unfolding to_rest
  rest-none l =
      let k : n ≡ 0 = omega arith in
      rw k refl

  module _ (l : 0 < n) (w : Tally) (e : w ≡ stretched q u before t) where
    pub rest-stopped : (w.number ≡ 0 → ⊥) → to_rest q u n before t ≡ w
    unfolding to_rest
    rest-stopped h =
        let k : n ≡ suc (n - 1) = omega arith in
        rw (k, ← e, ne_eqb w.number 0 h) refl

    module _ (z : w.number ≡ 0) (c : Tally) (f : c ≡ committed q u w) where
      pub rest_over : is_over c ≡ true → to_rest q u n before t ≡ c
      unfolding to_rest
      rest_over h =
          let k : n ≡ suc (n - 1) = omega arith in
          rw (k, ← e, eq-eqb w.number 0 z, ← f, h) refl

      pub rest_more : is_over c ≡ false → to_rest q u n before t ≡ to_rest q u (n - 1) w.state c
      unfolding to_rest
      rest_more h = more (n - 1) (omega arith)
        where
          more : (m : ℕ) → n ≡ suc m → to_rest q u n before t ≡ to_rest q u m w.state c
          more m k = rw (k, ← e, eq-eqb w.number 0 z, ← f, h) refl

-- ---- a trace

rested-after : (r : Rest) (t : Tally) (e : Rest) → e ≡ after r t → e.rested ≡ t.rested
unfolding after
rested-after r t e g = ap (λ (x : Rest). x.rested) g

module _ (q : Plan) (u : ℕ) (ns xs : List ℕ) (k : ℕ) (r : Rest) (w : List ℕ) (n : ℕ) where
  abbrev Gives : Traced → List ℕ → Type 0
  Gives t v = (traced_from q u ns xs n k r ≡ t) × (rows_from q u ns xs n k r w ≡ v)

  pub trace-end : n ≤ 0 → Gives (traced (2 * k) r) w
  unfolding traced_from rows_from
  trace-end l =
      let e : n ≡ 0 = omega arith in
      (rw e refl, rw e refl)

  module _ (l : 0 < n) where
    pub trace-short : length ns < 16 * k + 16 → Gives (traced (2 * k) r) w
    unfolding traced_from rows_from
    trace-short h =
        let e : n ≡ suc (n - 1) = omega arith in
        (rw (e, lt-ltb (length ns) (16 * k + 16) h) refl, rw (e, lt-ltb (length ns) (16 * k + 16) h) refl)

    module _ (h : 16 * k + 16 ≤ length ns) (t : Tally) (c : t ≡ cycled q u ns xs (16 * k) r.state) where
      pub trace-stopped : (e : Rest) → e ≡ after r t → e.rested ≡ false → Gives (traced (2 * k) e) w
      unfolding traced_from rows_from
      trace-stopped e g i =
          let f : t.rested ≡ false = sym (rested-after r t e g) ∙ i in
          let m : n ≡ suc (n - 1) = omega arith in (
            rw (m, le-ltb (length ns) (16 * k + 16) h, ← c) (second t.rested _ _ f ∙ ap (λ (x : Rest). traced (2 * k) x) (sym g)),
            rw (m, le-ltb (length ns) (16 * k + 16) h, ← c) (second t.rested _ _ f),
          )

      pub trace-more : (e : Rest) → e ≡ after r t → e.rested ≡ true → (v : List ℕ) → v ≡ written k t w → (m : ℕ) → n ≡ suc m →
          (traced_from q u ns xs n k r ≡ traced_from q u ns xs m (k + 1) e)
          × (rows_from q u ns xs n k r w ≡ rows_from q u ns xs m (k + 1) e v)
      unfolding traced_from rows_from
      trace-more e g j v i m o =
          let f : t.rested ≡ true = sym (rested-after r t e g) ∙ j in (
            rw (o, le-ltb (length ns) (16 * k + 16) h, ← c)
                (first t.rested _ _ f ∙ ap (λ (x : Rest). traced_from q u ns xs m (k + 1) x) (sym g)),
            rw (o, le-ltb (length ns) (16 * k + 16) h, ← c)
                (first t.rested _ _ f
                ∙ ap (λ (x : Rest). rows_from q u ns xs m (k + 1) x (written k t w)) (sym g)
                ∙ ap (λ (x : List ℕ). rows_from q u ns xs m (k + 1) e x) (sym i)),
          )
