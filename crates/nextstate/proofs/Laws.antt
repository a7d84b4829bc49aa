-- The laws of the nodes and the cycle book (`laws`; specs/Laws). Assumes nothing.
use Prim.Native.Nat.{ℕ, zero, suc, ◌-◌, ◌<◌}
use mathlib.Core.Path.{◌≡◌, refl}
use mathlib.Core.Logic.{◌≢◌}
use mathlib.Core.Bool.{true, false}
use mathlib.Core.List.{List, [], ◌∷◌, ◌++◌}
use native.Mathlib.Decide.{ℕ_discrete}
use native.Mathlib.Omega.{arith}
use lib.ListN.{length}
use Rattle.values.specs.declared.Value.{Value}
use Rattle.values.specs.Values.{pick, known, all_unknown, holds, same}
use Rattle.sheet.specs.Expression.{Expr}
use Rattle.sheet.specs.Module.{Module}
use Rattle.events.specs.declared.Inputs.{Inputs}
use Rattle.events.specs.Calls.{input_of}
use Rattle.nextstate.specs.Rules.{writes}
use Rattle.nextstate.specs.Nodes.{node_value}
use Rattle.nextstate.specs.Extraction.{Tables}
use Rattle.nextstate.specs.Book.{Book, settled, fed, entry, worth, taken, rise, opening, turned, turned_all, book}
use Rattle.nextstate.specs.Laws.{BranchLaw, RiseLaw, TurnLaw, InTurn, Laws}

branch : (us : List ℕ) (f : ℕ → Value) (vs : List Value) (c a b : ℕ) → BranchLaw us f vs c a b
unfolding node_value holds all_unknown
branch us f vs c a b = record { first = λ h. rw h refl; other = λ h. rw h refl; unknown = λ w h. rw h refl }

module _ (m : Module Expr) (T : Tables) where
  module _ (b : Book) (v : ℕ) where
    -- As the threads below n leave it.
    taken-written :
        (i n : ℕ) → i < n → writes m i v ≡ true → ((j : ℕ) → j ≢ i → writes m j v ≡ false) →
        taken m T b n v ≡ worth m T b.values (entry m T i (b.places i) (v - m.scope.inputs))
    unfolding taken
    taken-written i zero l w others = absurd (omega arith)
    taken-written i (suc n) l w others = by (ℕ_discrete n i) (taken-written i n)
      where
        by : Dec (n ≡ i) →
            (i < n → writes m i v ≡ true → ((j : ℕ) → j ≢ i → writes m j v ≡ false) →
            taken m T b n v ≡ worth m T b.values (entry m T i (b.places i) (v - m.scope.inputs))) →
            pick (writes m n v) (worth m T b.values (entry m T n (b.places n) (v - m.scope.inputs))) (taken m T b n v)
            ≡ worth m T b.values (entry m T i (b.places i) (v - m.scope.inputs))
        by (yes e) ih = rw (e, w) refl
        by (no d) ih = rw (others n d) (ih (omega arith) w others)

    taken-kept : (n : ℕ) → ((j : ℕ) → writes m j v ≡ false) → taken m T b n v ≡ b.values v
    unfolding taken
    taken-kept zero none = refl
    taken-kept (suc n) none = rw (none n) (taken-kept n none)

    rising : RiseLaw m T b v
    unfolding rise
    rising =
        record {
          written = λ i l w others. taken-written i (length m.threads) l w others;
          kept = λ none. taken-kept (length m.threads) none;
        }

  settling : (a : ℕ → Value) (b : Book) → TurnLaw m T a b
  unfolding turned settled
  settling a b = record { before = (pick (same (a 0) (known 1)) (rise m T (fed m a b)) (fed m a b)).values; settles = refl }

  in-turn : (l : List Inputs) (a : Inputs) (b : Book) → turned_all m T (l ++ (a ∷ [])) b ≡ turned m T (input_of a) (turned_all m T l b)
  unfolding turned_all
  in-turn [] a b = refl
  in-turn (c ∷ l) a b = in-turn l a (turned m T (input_of c) b)

  turning : (l : List Inputs) (a : Inputs) → InTurn m T l a
  unfolding book
  turning l a = in-turn l a (opening m T)

pub laws : Laws
laws = record { branch = branch; rising = rising; settling = settling; turning = turning }
