-- Laws of the whole call: the ways through it, that the first eight records settle it, and the store that it asks for.
-- Assumes nothing.
use mathlib.Core.Path.{◌≡◌, refl, sym, ap, ◌∙◌}
use Prim.Native.Nat.{ℕ, zero, suc, ◌+◌, ◌-◌, ◌≤◌, ◌<◌}
use native.Mathlib.Omega.{arith}
use mathlib.Core.Bool.{Bool, true, false}
use mathlib.Core.List.{List, []}
use lib.ListN.{length}
use lib.Seq.{set_out}
use lib.Dec.{eqb, ltb, leb}
use borrow.Author.Tests.{eq-eqb, ne_eqb, lt-ltb, le-ltb, le-leb, lt-leb, eqb-true, eqb-false, ltb-true, ltb-false, leb-true, leb-false}
use Rattle.values.specs.Values.{pick}
use Rattle.dispatch.specs.declared.Record.{Record}
use Rattle.std.specs.Prelude.{Option, None, Some}
use Rattle.dispatch.specs.declared.Dispatched.{Dispatched}
use Rattle.dispatch.specs.declared.Dispatched.TheVariants.{Picked, Nothing, Refused}
use Rattle.dispatch.specs.declared.Turn.{Turn}
use Rattle.dispatch.specs.Dispatch.{record_at, first_busy, next, answer_at, dispatched_among, dispatched, given, records_after}
use Rattle.dispatch.specs.Turn.{first_eight, turn_of, turn_among}
use Rattle.dispatch.proofs.Circle.{Busy, next-found}

-- ---- the ways through the call

module _ (rs : List Record) (n last : ℕ) where
  pub among_none : n ≡ 0 → dispatched_among rs n last ≡ Refused 48
  unfolding dispatched_among
  among_none e = rw (eq-eqb n 0 e)

  pub among-many : 8 < n → dispatched_among rs n last ≡ Refused 48
  unfolding dispatched_among
  among-many l = let ne : n ≡ 0 → ⊥ = λ e. omega arith in rw (ne_eqb n 0 ne, lt-ltb 8 n l)

  module _ (some : 0 < n) (few : n ≤ 8) where
    pub among-outside : n ≤ last → dispatched_among rs n last ≡ Refused 49
    unfolding dispatched_among
    among-outside l = let ne : n ≡ 0 → ⊥ = λ e. omega arith in rw (ne_eqb n 0 ne, le-ltb 8 n few, le-leb n last l)

    pub among_next : last < n → dispatched_among rs n last ≡ answer_at rs (next rs n last)
    unfolding dispatched_among
    among_next l = let ne : n ≡ 0 → ⊥ = λ e. omega arith in rw (ne_eqb n 0 ne, le-ltb 8 n few, lt-leb n last l)

pub answer-full : (rs : List Record) (i : ℕ) → (record_at rs i).turns ≡ 4294967295 → answer_at rs (Some i) ≡ Refused 36
unfolding answer_at
answer-full rs i e = rw (eq-eqb (record_at rs i).turns 4294967295 e)

pub answer-room : (rs : List Record) (i : ℕ) → ((record_at rs i).turns ≡ 4294967295 → ⊥) → answer_at rs (Some i) ≡ Picked i
unfolding answer_at
answer-room rs i ne = rw (ne_eqb (record_at rs i).turns 4294967295 ne)

-- The turn of each way, as the code makes it.
module _ (rs : List Record) (n : ℕ) {f : Option ℕ} where
  pub turn-nowhere : f ≡ None → turn_of [] n Nothing ≡ turn_of rs n (answer_at rs f)
  unfolding turn_of answer_at
  turn-nowhere e = rw e

  pub turn-full : {i : ℕ} → f ≡ Some i → (record_at rs i).turns ≡ 4294967295 → turn_of [] n (Refused 36) ≡ turn_of rs n (answer_at rs f)
  unfolding turn_of
  turn-full {i} e h = rw (e, answer-full rs i h)

  pub turn-picked : {i : ℕ} → f ≡ Some i → ((record_at rs i).turns ≡ 4294967295 → ⊥)
      → record { answer = Picked i; at = i; turns = (record_at rs i).turns + 1 } ≡ turn_of rs n (answer_at rs f)
  unfolding turn_of
  turn-picked {i} e h = rw (e, answer-room rs i h)

module _ (rs : List Record) (n last : ℕ) where
  pub refused_none : n ≡ 0 → turn_of [] n (Refused 48) ≡ turn_among rs n last
  unfolding turn_among turn_of
  refused_none e = rw (among_none rs n last e)

  pub refused-many : 8 < n → turn_of [] n (Refused 48) ≡ turn_among rs n last
  unfolding turn_among turn_of
  refused-many l = rw (among-many rs n last l)

  module _ (some : 0 < n) (few : n ≤ 8) where
    pub refused-outside : n ≤ last → turn_of [] n (Refused 49) ≡ turn_among rs n last
    unfolding turn_among turn_of
    refused-outside l = rw (among-outside rs n last some few l)

    pub turn-next : last < n → turn_of rs n (answer_at rs (next rs n last)) ≡ turn_among rs n last
    unfolding turn_among
    turn-next l = ap (turn_of rs n) (sym (among_next rs n last some few l))

    pub turn-found : last < n → {f : Option ℕ} → f ≡ next rs n last → turn_of rs n (answer_at rs f) ≡ turn_among rs n last
    turn-found l e = ap (λ (g : Option ℕ). turn_of rs n (answer_at rs g)) e ∙ turn-next l

  -- The one found is one of the eight.
  pub next_small : n ≤ 8 → (l : last < n) → {f : Option ℕ} → f ≡ next rs n last → (i : ℕ) → f ≡ Some i → i < 8
  next_small few l {f} e i at = let b : Busy rs n last l i = next-found rs n last l (sym e ∙ at) in let h : i < n = b.below in omega arith

-- What a way through the call was, told by the numbers.
pub data Way (rs : List Record) (n last : ℕ) : Type 0 where
  by-none : n ≡ 0 → Way rs n last
  by-many : 8 < n → Way rs n last
  by-outside : 0 < n → n ≤ 8 → n ≤ last → Way rs n last
  by-inside : 0 < n → n ≤ 8 → last < n → Way rs n last

pub way : (rs : List Record) (n last : ℕ) → Way rs n last
way rs n last = by (eqb n 0) refl (ltb 8 n) refl (leb n last) refl
  where
    by : (a : Bool) → eqb n 0 ≡ a → (b : Bool) → ltb 8 n ≡ b → (c : Bool) → leb n last ≡ c → Way rs n last
    by true e b f c g = by-none (eqb-true n 0 e)
    by false e true f c g = by-many (ltb-true 8 n f)
    by false e false f true g = let ne : n ≡ 0 → ⊥ = eqb-false n 0 e in by-outside (omega (arith, ne)) (ltb-false 8 n f) (leb-true n last g)
    by false e false f false g = let ne : n ≡ 0 → ⊥ = eqb-false n 0 e in by-inside (omega (arith, ne)) (ltb-false 8 n f) (leb-false n last g)

-- ---- two lists that agree in their first eight records answer alike

module _ (rs qs : List Record) (agree : (i : ℕ) → i < 8 → record_at rs i ≡ record_at qs i) where
  first-same : (i n : ℕ) → i + n ≤ 8 → first_busy rs i n ≡ first_busy qs i n
  unfolding first_busy
  first-same i zero l = refl
  first-same i (suc n) l =
      let h : i < 8 = omega arith in
      let t : suc i + n ≤ 8 = omega arith in
      rw (agree i h, first-same (suc i) n t)

  next-same : (n last : ℕ) → n ≤ 8 → last < n → next rs n last ≡ next qs n last
  unfolding next
  next-same n last few l =
      let a : (last + 1) + (n - (last + 1)) ≤ 8 = omega arith in
      let b : 0 + (last + 1) ≤ 8 = omega arith in
      rw (first-same (last + 1) (n - (last + 1)) a, first-same 0 (last + 1) b)

  answer-same : (f : Option ℕ) → ((i : ℕ) → f ≡ Some i → i < 8) → answer_at rs f ≡ answer_at qs f
  unfolding answer_at
  answer-same None l = refl
  answer-same (Some i) l = let h : i < 8 = l i refl in rw (agree i h)

  turn-same : (n : ℕ) (d : Dispatched) → ((i : ℕ) → d ≡ Picked i → i < 8) → turn_of rs n d ≡ turn_of qs n d
  unfolding turn_of
  turn-same n (Picked i) l = let h : i < 8 = l i refl in rw (agree i h)
  turn-same n Nothing l = refl
  turn-same n (Refused k) l = refl

-- What is picked stands in the list and is busy, with room for a turn.
pub record PickIn (rs : List Record) (n i : ℕ) : Type 0 where
  pub below : i < n
  pub busy : (record_at rs i).busy ≡ true
  pub room : (record_at rs i).turns ≡ 4294967295 → ⊥

pub answer-pick : (rs : List Record) (f : Option ℕ) (i : ℕ) → answer_at rs f ≡ Picked i → (f ≡ Some i) × ((record_at rs i).turns ≡ 4294967295 → ⊥)
unfolding answer_at
answer-pick rs None i e = absurd (nothing-picked e)
  where
    nothing-picked : Nothing ≡ Picked i → ⊥
    nothing-picked e = let z : ◌≡◌ {A = ℕ} 0 1 = cc in omega arith
answer-pick rs (Some j) i e = by (eqb (record_at rs j).turns 4294967295) refl e
  where
    by : (t : Bool) → eqb (record_at rs j).turns 4294967295 ≡ t → pick t (Refused 36) (Picked j) ≡ Picked i → (Some j ≡ Some i) × ((record_at rs i).turns ≡ 4294967295 → ⊥)
    by true h p = let z : ◌≡◌ {A = ℕ} 0 1 = cc in absurd (omega arith)
    by false h p =
        let s : j ≡ i = cc in
        (ap Some s, rw (← s) (eqb-false (record_at rs j).turns 4294967295 h))

refused-picked : {k i : ℕ} → Refused k ≡ Picked i → ⊥
refused-picked {k} {i} e = let z : ◌≡◌ {A = ℕ} 0 1 = cc in omega arith

pub among-pick : (rs : List Record) (n last i : ℕ) → dispatched_among rs n last ≡ Picked i → PickIn rs n i
among-pick rs n last i e = by (way rs n last)
  where
    by : Way rs n last → PickIn rs n i
    by (by-none z) = absurd (refused-picked (sym (among_none rs n last z) ∙ e))
    by (by-many l) = absurd (refused-picked (sym (among-many rs n last l) ∙ e))
    by (by-outside s f l) = absurd (refused-picked (sym (among-outside rs n last s f l) ∙ e))
    by (by-inside s f l) =
        let p = answer-pick rs (next rs n last) i (sym (among_next rs n last s f l) ∙ e) in
        let b : Busy rs n last l i = next-found rs n last l p.0 in
        record { below = b.below; busy = b.busy; room = p.1 }

module _ (rs qs : List Record) (agree : (i : ℕ) → i < 8 → record_at rs i ≡ record_at qs i) (n last : ℕ) where
  among_same : dispatched_among rs n last ≡ dispatched_among qs n last
  among_same = by (way rs n last)
    where
      by : Way rs n last → dispatched_among rs n last ≡ dispatched_among qs n last
      by (by-none z) = among_none rs n last z ∙ sym (among_none qs n last z)
      by (by-many l) = among-many rs n last l ∙ sym (among-many qs n last l)
      by (by-outside s f l) = among-outside rs n last s f l ∙ sym (among-outside qs n last s f l)
      by (by-inside s f l) =
          among_next rs n last s f l
          ∙ answer-same rs qs agree (next rs n last) (λ i e. let b : Busy rs n last l i = next-found rs n last l e in below-eight i b.below f)
          ∙ ap (answer_at qs) (next-same rs qs agree n last f l)
          ∙ sym (among_next qs n last s f l)
        where
          below-eight : (i : ℕ) → i < n → n ≤ 8 → i < 8
          below-eight i a b = omega arith

  turn-among-same : turn_among rs n last ≡ turn_among qs n last
  unfolding turn_among
  turn-among-same =
      turn-same rs qs agree n (dispatched_among rs n last) (λ i e. picked-small i (among-pick rs n last i e) (way rs n last) e)
      ∙ ap (turn_of qs n) among_same
    where
      picked-small : (i : ℕ) → PickIn rs n i → Way rs n last → dispatched_among rs n last ≡ Picked i → i < 8
      picked-small i p (by-none z) e = let b : i < n = p.below in omega arith
      picked-small i p (by-many l) e = absurd (refused-picked (sym (among-many rs n last l) ∙ e))
      picked-small i p (by-outside s f l) e = let b : i < n = p.below in omega arith
      picked-small i p (by-inside s f l) e = let b : i < n = p.below in omega arith

-- ---- the first eight

pub eight-at : (rs : List Record) (i : ℕ) → i < 8 → record_at (first_eight rs) i ≡ record_at rs i
unfolding first_eight
eight-at rs zero l = refl
eight-at rs (suc zero) l = refl
eight-at rs (suc (suc zero)) l = refl
eight-at rs (suc (suc (suc zero))) l = refl
eight-at rs (suc (suc (suc (suc zero)))) l = refl
eight-at rs (suc (suc (suc (suc (suc zero))))) l = refl
eight-at rs (suc (suc (suc (suc (suc (suc zero)))))) l = refl
eight-at rs (suc (suc (suc (suc (suc (suc (suc zero))))))) l = refl
eight-at rs (suc (suc (suc (suc (suc (suc (suc (suc i)))))))) l = absurd (omega arith)

pub eight-turn : (rs : List Record) (n last : ℕ) → turn_among (first_eight rs) n last ≡ turn_among rs n last
eight-turn rs n last = turn-among-same (first_eight rs) rs (eight-at rs) n last

-- ---- the store that a turn asks for

pub turn-answer : (rs : List Record) (n : ℕ) (d : Dispatched) → (turn_of rs n d).answer ≡ d
unfolding turn_of
turn-answer rs n (Picked i) = refl
turn-answer rs n Nothing = refl
turn-answer rs n (Refused k) = refl

pub given-past : (rs : List Record) (i t : ℕ) → length rs ≤ i → given rs i t ≡ rs
unfolding given
given-past rs i t l = set_out rs i _ l

pub turn-given : (rs : List Record) (d : Dispatched) → given rs (turn_of rs (length rs) d).at (turn_of rs (length rs) d).turns ≡ records_after rs d
unfolding turn_of records_after
turn-given rs (Picked i) = refl
turn-given rs Nothing = given-past rs (length rs) 0 (omega arith)
turn-given rs (Refused k) = given-past rs (length rs) 0 (omega arith)

-- What the dispatcher does with the turn of the first eight is what the definitions say.
module _ (rs : List Record) (last : ℕ) where
  abbrev pub turned : Turn
  turned = turn_among (first_eight rs) (length rs) last

  pub turned-answer : turned.answer ≡ dispatched rs last
  unfolding turn_among dispatched
  turned-answer = ap (λ (t : Turn). t.answer) (eight-turn rs (length rs) last) ∙ turn-answer rs (length rs) (dispatched_among rs (length rs) last)

  pub turned-given : given rs turned.at turned.turns ≡ records_after rs turned.answer
  unfolding turn_among
  turned-given =
      ap (λ (t : Turn). given rs t.at t.turns) (eight-turn rs (length rs) last)
      ∙ turn-given rs (dispatched_among rs (length rs) last)
      ∙ ap (records_after rs) (sym (ap (λ (t : Turn). t.answer) (eight-turn rs (length rs) last) ∙ turn-answer rs (length rs) (dispatched_among rs (length rs) last)))
