-- The calls by what `prepare` answers: a refused sheet's number, or the call on the plan that it filled. Assumes nothing.
use mathlib.Core.Path.{◌≡◌, refl, sym, ap, ◌∙◌}
use mathlib.Core.Bool.{Bool, true, false}
use mathlib.Core.List.{List, [], ◌∷◌}
use Prim.Native.Nat.{ℕ, ◌<◌}
use native.Mathlib.Omega.{arith}
use borrow.Author.Rules.{rules}
use borrow.Author.Tests.{ne_eqb}
use mir.Syntax.{w32}
use mir.Val.{Fits}
use denote.Laws.{Is}
use denote.Struct.Laws.{val}
use lib.Dec.{ltb}
use lib.ListN.{length, get_or, replicate, length-replicate, get_or-replicate}
use Rattle.values.specs.Values.{pick}
use Rattle.values.specs.Planes.{value_at}
use Rattle.values.specs.Cells.{small}
use Rattle.values.proofs.Operators.{is-small}
use Rattle.sheet.specs.Expression.{Expr}
use Rattle.sheet.specs.Module.{Module, read}
use Rattle.state.specs.declared.State.{State}
use Rattle.state.specs.State.{users}
use Rattle.state.specs.Rows.{list_of}
use Rattle.state.proofs.Accessors.{Good, shaped-good, bounded-good}
use Rattle.events.specs.declared.Inputs.{Inputs}
use Rattle.events.specs.declared.Ran.{Ran}
use Rattle.events.specs.declared.Rested.{Rested}
use Rattle.events.specs.declared.Verdict.TheVariants.{Refused}
use Rattle.events.specs.Calls.{started, start_of, start, judged, choose_in, choose, run_in, run_list, run_by, plain_choice, run_plain}
use Rattle.events.specs.Calls.{input_of, instant_in, instant}
use Rattle.events.specs.contracts.Inputs.{the_type, the_row}
use Rattle.events.proofs.Inputs.TheLaws.{the_laws}
use Rattle.plan.specs.Sections.{count_place}
use Rattle.plan.specs.Plan.{plan_of}
use Rattle.prepared.specs.declared.Prepared.{Prepared}
use Rattle.prepared.specs.Prepared.{read_of, prepared_plan, widths_of, start_at}
use Rattle.prepared.specs.Claims.{Same, OnTheSheet}
use Rattle.prepared.proofs.Answered.{Answered, accepted, refused, answered}
use Rattle.prepared.proofs.Claims.{on-the-sheet}

-- ---- inputs passed by value are numbers of 32 bits, and so are their marks

abbrev pub GoodInputs : Inputs → Type 0
GoodInputs a = Is the_row a (val the_type the_laws a ∷ [])

pub inputs-small : (a : Inputs) → GoodInputs a → (v : ℕ) → small (input_of a v) ≡ true
unfolding input_of value_at
inputs-small a g v =
    let n : Fits w32 (get_or a.value v 0) = search rules in
    let u : Fits w32 (get_or a.unknown v 0) = search rules in
    is-small _ n.fits u.fits

-- ---- start: a plan of zeros has no variables and no wires

abbrev zeros : List ℕ
zeros = replicate 25212 0

no-count : (k : ℕ) → k < 4 → get_or zeros (count_place k) 0 ≡ 0
no-count k h = get_or-replicate {A = ℕ} 25212 (count_place k) 0 0 (omega arith)

start-zeros : (allowances : List ℕ) → start_at (plan_of zeros) allowances ≡ started [] 0 allowances
unfolding start_at widths_of list_of
start-zeros allowances =
    rw (no-count 0 (omega arith), no-count 1 (omega arith), no-count 2 (omega arith)) refl

module _ (s : List ℕ) (allowances : List ℕ) where
  -- what lies in the plan after `prepare`
  start-state : start_at (plan_of (prepared_plan s zeros)) allowances ≡ (start s allowances).state
  unfolding OnTheSheet prepared_plan start start_of
  start-state = by (answered s)
    where
      by : Answered s → start_at (plan_of (prepared_plan s zeros)) allowances ≡ (start s allowances).state
      by (accepted m g z) = (on-the-sheet s zeros m g (length-replicate {A = ℕ} 25212 0)).start allowances
      by (refused n p g z d) = rw (z, ne_eqb n 0 d, g) (start-zeros allowances)

  start-number : (read_of s).number ≡ (start s allowances).number
  unfolding start start_of
  start-number = by (answered s)
    where
      by : Answered s → (read_of s).number ≡ (start s allowances).number
      by (accepted m g z) = rw (z, g)
      by (refused n p g z d) = rw (z, g)

  pub start-answer : (r : Prepared) → r ≡ record { number = (read_of s).number; place = (read_of s).place } → (vs : List ℕ)
      → vs ≡ prepared_plan s zeros → (st : State) → st ≡ start_at (plan_of vs) allowances
      → record { number = r.number; state = st } ≡ start s allowances
  start-answer r e vs p st f =
      let n = ap (λ (x : Prepared). x.number) e ∙ start-number in
      let g = f ∙ ap (λ (ws : List ℕ). start_at (plan_of ws) allowances) p ∙ start-state in
      λ i. record { number = n i; state = g i }

module _ (s : List ℕ) (r : Prepared) (e : r ≡ record { number = (read_of s).number; place = (read_of s).place }) (st : State) where
  number_same : r.number ≡ (read_of s).number
  number_same = ap (λ (x : Prepared). x.number) e

  -- ---- a sheet that is refused

  module _ (d : r.number ≡ 0 → ⊥) where
    judged-refused : {A : Type 0} (bad : ℕ → A) (good : Module Expr → A) → bad r.number ≡ judged (read s) st bad good
    unfolding judged
    judged-refused bad good = by (answered s)
      where
        by : Answered s → bad r.number ≡ judged (read s) st bad good
        by (accepted m g z) = absurd (d (number_same ∙ z))
        by (refused n p g z b) = rw (number_same, g, z) refl

    pub choose-refused : (u c : ℕ) → record { number = r.number; state = st } ≡ choose s st u c
    unfolding choose
    choose-refused u c = judged-refused (λ k. record { number = k; state = st }) (λ m. choose_in m st u c)

    pub run-refused : (u : ℕ) (cs : List ℕ) → record { accepted = 0; number = r.number; state = st } ≡ run_list s st u cs
    unfolding run_list
    run-refused u cs =
        let refused : ℕ → Ran = λ k. record { accepted = 0; number = k; state = st } in
        judged-refused refused (λ m. pick (ltb u users) (run_in m u cs st) (refused 46))

    pub plain-refused : (u n : ℕ) → record { accepted = 0; verdict = Refused r.number; state = st } ≡ run_plain s st u n
    unfolding run_plain
    plain-refused u n =
        let refused : ℕ → Rested = λ k. record { accepted = 0; verdict = Refused k; state = st } in
        judged-refused refused (λ m. pick (ltb u users) (run_by m u (plain_choice m) n st) (refused 46))

    pub instant-refused : (a : Inputs) → record { number = r.number; state = st } ≡ instant s st a
    unfolding instant
    instant-refused a = judged-refused (λ k. record { number = k; state = st }) (λ m. instant_in m st a)

  -- ---- a sheet that is accepted, and the plan that was filled from it, whatever it held before

  pub calls_same : r.number ≡ 0 → (ws vs : List ℕ) → length ws ≡ 25212 → vs ≡ prepared_plan s ws → Good st → Same s (plan_of vs) st
  unfolding OnTheSheet
  calls_same z ws vs l p h = by (answered s)
    where
      by : Answered s → Same s (plan_of vs) st
      by (accepted m g o) = rw p ((on-the-sheet s ws m g l).calls st (shaped-good st h) (bounded-good st h))
      by (refused n q g o d) = absurd (d (sym o ∙ sym number_same ∙ z))
