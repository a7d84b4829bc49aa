-- A list of calls, call by call. Whatever holds of a state and a book where steps, low and high instants keep it, holds at the list's
-- end with the book fed the accepted instants (`every`).
use mathlib.Core.Path.{◌≡◌, refl, sym, subst, ◌∙◌}
use mathlib.Core.Logic.{◌≢◌}
use mathlib.Core.Bool.{true}
use mathlib.Core.List.{List, [], ◌∷◌}
use Prim.Native.Nat.{ℕ, zero, suc, ◌+◌, ◌<◌}
use native.Mathlib.Omega.{arith}
use lib.ListN.{length}
use borrow.Author.Tests.{eqb-true}
use Rattle.values.specs.declared.Value.{Value}
use Rattle.values.specs.Values.{known}
use Rattle.sheet.specs.Reading.{ok}
use Rattle.sheet.specs.Expression.{Expr}
use Rattle.sheet.specs.Module.{Module, read}
use Rattle.state.specs.declared.State.{State}
use Rattle.state.specs.State.{users}
use Rattle.soundness.specs.Soundness.{Sound}
use Rattle.events.specs.declared.Inputs.{Inputs}
use Rattle.events.specs.Calls.{input_of, inputs_fit}
use Rattle.events.specs.Steps.{Step, Instant}
use Rattle.events.proofs.Cycle.{and_left}
use Rattle.events.proofs.Fits.{Fits, CountsFit, fits-step}
use Rattle.events.proofs.Runs.{Chain, done, after, count-chain, allowance-chain}
use Rattle.nextstate.specs.Extraction.{Tables}
use Rattle.nextstate.specs.Book.{Book, turned, turned_all}
use Rattle.order.specs.Calls.{Call, Outcome, called, final, before, instants, onwards, since, SameButClock, Cycles}
use Rattle.order.proofs.Outcomes.{Did, nothing, chose, was-fed, Standing, did, standing}

-- ---- cycles, one instant at a time

-- After a low clock: the list ends, or the clock rises and nothing else changes.
unfoldable pub Rises : Inputs → List Inputs → Type 0
Rises low [] = Unit {0}
Rises low (high ∷ l) = (input_of high 0 ≡ known 1) × SameButClock high low × Cycles l

pub falls : (low : Inputs) (l : List Inputs) → Cycles (low ∷ l) → (input_of low 0 ≡ known 0) × Rises low l
unfolding Cycles Rises
falls low [] h = (h, tt)
falls low (high ∷ l) h = (h.0, (h.1, h.2, h.3))

-- ---- what is kept along the list

pub count-inputs : (m : Module Expr) (a : Inputs) → inputs_fit m a ≡ true → a.count ≡ m.scope.inputs
unfolding inputs_fit
count-inputs m a h = eqb-true a.count m.scope.inputs (and_left _ _ h)

module _ (s : List ℕ) (m : Module Expr) (e : read s ≡ ok m) (w : Sound m) (T : Tables)
    (Holds : Book → State → ℕ → Type 0)
    (step : (b : Book) (old new : State) (who c n : ℕ) → Fits m old → Step m old new who c → Holds b old n → Holds b new (n + 1))
    (low : (b : Book) (old new : State) (n : ℕ) (a : ℕ → Value) → Fits m old → Instant m old new a → a 0 ≡ known 0 →
    Holds b old n → Holds (turned m T a b) new 0)
    (high : (b : Book) (old new : State) (n : ℕ) (a : ℕ → Value) → Fits m old → Instant m old new a → a 0 ≡ known 1 →
    b.values 0 ≡ known 0 → ((v : ℕ) → v ≢ 0 → v < m.scope.inputs → a v ≡ b.values v) →
    Holds b old n → Holds (turned m T a b) new 0)
    (takes-in : (b : Book) (a : ℕ → Value) (v : ℕ) → a 0 ≡ known 0 → v < m.scope.inputs → (turned m T a b).values v ≡ a v)
  where
    -- The book holds the inputs of the low instant before.
    abbrev Has : Inputs → Book → Type 0
    Has a b = (v : ℕ) → v < m.scope.inputs → b.values v ≡ input_of a v

    pub data Next (b : Book) (l : List Inputs) : Type 0 where
      to-fall : Cycles l → Next b l
      to-rise : (a : Inputs) → input_of a 0 ≡ known 0 → Has a b → Rises a l → Next b l

    -- Counts only rise, so that every step of accepted choices has room where the last has.
    chain : (who : ℕ) → who < users → (b : Book) (old new : State) (cs : List ℕ) (n k : ℕ) → k ≡ n + length cs → Fits m old →
        CountsFit new → Chain m who old cs new → Holds b old n → Holds b new k
    chain who l b old new [] n k q f most done h = subst (λ (j : ℕ). Holds b old j) (omega arith) h
    chain who l b old new (c ∷ cs) n k q f most (after {mid = mid} s t) h =
        let a = count-chain m who (after s t) in
        let z = allowance-chain m who (after s t) who in
        let x = most who l in
        chain who l b mid new cs (n + 1) k (omega arith) (fits-step m w old mid f who c s (omega arith)) most t
        (step b old mid who c n f s h)

    -- The low instant's inputs but the clock are the high one's.
    rise-inputs : (b : Book) (a high : Inputs) → inputs_fit m high ≡ true → Has a b → SameButClock high a →
        (v : ℕ) → v ≢ 0 → v < m.scope.inputs → input_of high v ≡ b.values v
    rise-inputs b a high f has same zero ne l = absurd (ne refl)
    rise-inputs b a high f has same (suc v) ne l =
        let z : v + 1 ≡ suc v = omega arith in
        let c = count-inputs m high f in
        (subst (λ (u : ℕ). input_of high u ≡ input_of a u) z (same v (omega arith))) ∙ sym (has (suc v) l)

    -- An accepted instant, whichever is next.
    instant-next : (b : Book) (old new : State) (n : ℕ) (a : Inputs) (l : List Inputs) → Fits m old → inputs_fit m a ≡ true →
        Instant m old new (input_of a) → Next b (a ∷ l) → Holds b old n →
        Holds (turned m T (input_of a) b) new 0 × Next (turned m T (input_of a) b) l
    unfolding Rises
    instant-next b old new n a l f fa i (to-fall cy) h =
        let c = falls a l cy in (
          low b old new n (input_of a) f i c.0 h,
          to-rise a c.0 (λ v lv. takes-in b (input_of a) v c.0 lv) c.1,
        )
    instant-next b old new n a l f fa i (to-rise u z has r) h = (
      high b old new n (input_of a) f i r.0 (has 0 w.inputs-some ∙ z) (rise-inputs b u a fa has r.1) h,
      to-fall r.2,
    )

    -- One call, and what the rest of the list keeps.
    one : (ks : List Call) (st : State) (b : Book) (n : ℕ) (k : Call) (o : Outcome) → Fits m st → CountsFit o.state → Did m st k o →
        ((b : Book) (n : ℕ) → Next b (instants s ks o.state) → Holds b o.state n →
        Holds (turned_all m T (instants s ks o.state) b) (final s ks o.state) (since s ks o.state n)) →
        Next b (before s o.fed (instants s ks o.state)) → Holds b st n →
        Holds (turned_all m T (before s o.fed (instants s ks o.state)) b) (final s ks o.state)
        (since s ks o.state (onwards s o.fed (n + o.accepted)))
    unfolding before onwards turned_all
    one ks st b n k o f most (nothing same a z) rest next h =
        let x : Next b (instants s ks o.state) = rw z at next in
        let e : n ≡ n + o.accepted = omega arith in
        let y : Holds b o.state (n + o.accepted) =
        subst (λ (j : ℕ). Holds b o.state j) e (subst (λ (u : State). Holds b u n) (sym same) h) in
        rw z (rest b (n + o.accepted) x y)
    one ks st b n k o f most (chose who l by cs c a z) rest next h =
        let x : Next b (instants s ks o.state) = rw z at next in
        let y = chain who l b st o.state cs n (n + o.accepted) (omega arith) f most c h in
        rw z (rest b (n + o.accepted) x y)
    one ks st b n k o f most (was-fed a fa i y z) rest next h =
        let x : Next b (a ∷ instants s ks o.state) = rw z at next in
        let r = instant-next b st o.state n a (instants s ks o.state) f fa i x h in
        rw z (rest (turned m T (input_of a) b) 0 r.1 r.0)

    pub every : (ks : List Call) (st : State) (b : Book) (n : ℕ) → Standing m st → Next b (instants s ks st) → Holds b st n →
        Holds (turned_all m T (instants s ks st) b) (final s ks st) (since s ks st n)
    unfolding final instants since turned_all
    every [] st b n h c p = p
    every (k ∷ ks) st b n h c p =
        let next = standing s m e w st h k in
        one ks st b n k (called s st k) h.fits next.fits.counts (did s m e w st h k)
        (λ b n. every ks (called s st k).state b n next) c p
