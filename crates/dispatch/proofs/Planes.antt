-- Laws of the call on two plain lists: the records that they make, and the store. Assumes nothing.
use mathlib.Core.Path.{◌≡◌, refl, sym, ap, ◌∙◌}
use Prim.Native.Nat.{ℕ, zero, suc, ◌≤◌, ◌<◌}
use native.Mathlib.Omega.{arith}
use mathlib.Core.Bool.{Bool, false}
use mathlib.Core.List.{List, [], ◌∷◌}
use lib.ListN.{length, get_or, set}
use lib.Seq.{set_out}
use borrow.Author.Tests.{eq-eqb, ne_eqb}
use Rattle.dispatch.specs.declared.Record.{Record}
use Rattle.dispatch.specs.declared.Dispatched.{Dispatched}
use Rattle.dispatch.specs.declared.Dispatched.TheVariants.{Picked, Nothing, Refused}
use Rattle.dispatch.specs.declared.Turn.{Turn}
use Rattle.dispatch.specs.Dispatch.{record_at, dispatched_among, dispatched, given}
use Rattle.dispatch.specs.Turn.{first_eight, turn_of, turn_among}
use Rattle.dispatch.specs.Planes.{records_of, dispatched_planes, turns_after}
use Rattle.dispatch.proofs.Turns.{PickIn, among-pick, turn-answer, eight-turn}

-- ---- the records of two lists

pub planes-length : (bs : List Bool) (ts : List ℕ) → length bs ≡ length ts → length (records_of bs ts) ≡ length bs
unfolding records_of
planes-length [] ts e = refl
planes-length (b ∷ bs) [] e = absurd (omega arith)
planes-length (b ∷ bs) (t ∷ ts) e = let r : length bs ≡ length ts = omega arith in ap suc (planes-length bs ts r)

pub planes-at : (bs : List Bool) (ts : List ℕ) (i : ℕ) → i < length bs → i < length ts
    → record { busy = get_or bs i false; turns = get_or ts i 0 } ≡ record_at (records_of bs ts) i
unfolding records_of
planes-at [] ts i l m = absurd (omega arith)
planes-at (b ∷ bs) [] i l m = absurd (omega arith)
planes-at (b ∷ bs) (t ∷ ts) zero l m = refl
planes-at (b ∷ bs) (t ∷ ts) (suc i) l m = planes-at bs ts i (omega arith) (omega arith)

pub planes-past-flags : (bs : List Bool) (ts : List ℕ) (i : ℕ) → length bs ≤ i → record { busy = false; turns = 0 } ≡ record_at (records_of bs ts) i
unfolding records_of
planes-past-flags [] ts i l = refl
planes-past-flags (b ∷ bs) [] i l = refl
planes-past-flags (b ∷ bs) (t ∷ ts) zero l = absurd (omega arith)
planes-past-flags (b ∷ bs) (t ∷ ts) (suc i) l = planes-past-flags bs ts i (omega arith)

pub planes-past-turns : (bs : List Bool) (ts : List ℕ) (i : ℕ) → length ts ≤ i → record { busy = false; turns = 0 } ≡ record_at (records_of bs ts) i
unfolding records_of
planes-past-turns [] ts i l = refl
planes-past-turns (b ∷ bs) [] i l = refl
planes-past-turns (b ∷ bs) (t ∷ ts) zero l = absurd (omega arith)
planes-past-turns (b ∷ bs) (t ∷ ts) (suc i) l = planes-past-turns bs ts i (omega arith)

pub planes-turns : (bs : List Bool) (ts : List ℕ) (i : ℕ) → length bs ≡ length ts → i < length ts → (record_at (records_of bs ts) i).turns ≡ get_or ts i 0
planes-turns bs ts i e l = let m : i < length bs = omega arith in ap (λ (r : Record). r.turns) (sym (planes-at bs ts i m l))

-- Eight records, each at its place, are the first eight.
pub eight-made : (rs : List Record) {a b c d e f g h : Record} → a ≡ record_at rs 0 → b ≡ record_at rs 1 → c ≡ record_at rs 2 → d ≡ record_at rs 3
    → e ≡ record_at rs 4 → f ≡ record_at rs 5 → g ≡ record_at rs 6 → h ≡ record_at rs 7 → a ∷ b ∷ c ∷ d ∷ e ∷ f ∷ g ∷ h ∷ [] ≡ first_eight rs
unfolding first_eight
eight-made rs p₀ p₁ p₂ p₃ p₄ p₅ p₆ p₇ = rw (p₀, p₁, p₂, p₃, p₄, p₅, p₆, p₇)

-- A store of turns is a store in the record.
pub planes-given : (bs : List Bool) (ts : List ℕ) (i t : ℕ) → records_of bs (set ts i t) ≡ given (records_of bs ts) i t
unfolding records_of given
planes-given [] ts i t = refl
planes-given (b ∷ bs) [] i t = refl
planes-given (b ∷ bs) (u ∷ ts) zero t = refl
planes-given (b ∷ bs) (u ∷ ts) (suc i) t = ap (λ (rs : List Record). record { busy = b; turns = u } ∷ rs) (planes-given bs ts i t)

-- ---- the call

pub planes-uneven : (bs : List Bool) (ts : List ℕ) (last : ℕ) → (length bs ≡ length ts → ⊥) → Refused 48 ≡ dispatched_planes bs ts last
unfolding dispatched_planes
planes-uneven bs ts last ne = rw (ne_eqb (length bs) (length ts) ne)

module _ (bs : List Bool) (ts : List ℕ) (last : ℕ) (even : length bs ≡ length ts) where
  pub planes-even : dispatched_planes bs ts last ≡ dispatched (records_of bs ts) last
  unfolding dispatched_planes
  planes-even = rw (eq-eqb (length bs) (length ts) even)

  abbrev pub planes_turn : Turn
  planes_turn = turn_among (first_eight (records_of bs ts)) (length bs) last

  abbrev Answer : Dispatched
  Answer = dispatched_among (records_of bs ts) (length bs) last

  turn_is : planes_turn ≡ turn_of (records_of bs ts) (length bs) Answer
  unfolding turn_among
  turn_is = eight-turn (records_of bs ts) (length bs) last

  pub planes-answer : planes_turn.answer ≡ dispatched_planes bs ts last
  unfolding dispatched
  planes-answer =
      ap (λ (t : Turn). t.answer) turn_is
      ∙ turn-answer (records_of bs ts) (length bs) Answer
      ∙ ap (λ (n : ℕ). dispatched_among (records_of bs ts) n last) (sym (planes-length bs ts even))
      ∙ sym planes-even

  stored : (d : Dispatched) → ((i : ℕ) → d ≡ Picked i → i < length ts)
      → set ts (turn_of (records_of bs ts) (length bs) d).at (turn_of (records_of bs ts) (length bs) d).turns ≡ turns_after ts d
  unfolding turn_of turns_after
  stored (Picked i) l = let h : i < length ts = l i refl in rw (planes-turns bs ts i even h)
  stored Nothing l = set_out ts (length bs) 0 (omega arith)
  stored (Refused k) l = set_out ts (length bs) 0 (omega arith)

  pub planes-stored : set ts planes_turn.at planes_turn.turns ≡ turns_after ts planes_turn.answer
  planes-stored =
      ap (λ (t : Turn). set ts t.at t.turns) turn_is
      ∙ stored Answer (λ i e. small i (among-pick (records_of bs ts) (length bs) last i e))
      ∙ ap (turns_after ts) (sym (ap (λ (t : Turn). t.answer) turn_is ∙ turn-answer (records_of bs ts) (length bs) Answer))
    where
      small : (i : ℕ) → PickIn (records_of bs ts) (length bs) i → i < length ts
      small i p = let b : i < length bs = p.below in omega arith

  -- What the call does with its turn: it stores, or past the list it doesn't.
  module _ {t : Turn} {l : List Record} (e : t ≡ turn_among l (length bs) last) (f : l ≡ first_eight (records_of bs ts)) where
    is-turn : t ≡ planes_turn
    is-turn = e ∙ ap (λ (k : List Record). turn_among k (length bs) last) f

    pub planes-turned : (t.answer ≡ dispatched_planes bs ts last) × (set ts t.at t.turns ≡ turns_after ts t.answer)
    planes-turned = (
      ap (λ (k : Turn). k.answer) is-turn ∙ planes-answer,
      ap (λ (k : Turn). set ts k.at k.turns) is-turn ∙ planes-stored ∙ ap (λ (k : Turn). turns_after ts k.answer) (sym is-turn),
    )

    pub planes-kept : length ts ≤ t.at → (t.answer ≡ dispatched_planes bs ts last) × (ts ≡ turns_after ts t.answer)
    planes-kept past = (planes-turned.0, sym (set_out ts t.at t.turns past) ∙ planes-turned.1)
