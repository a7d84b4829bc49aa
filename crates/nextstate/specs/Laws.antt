-- What holds of the nodes and the cycle book for every module, table and book, in document 01's words ("Extraction and the cycle run").
-- Each of its misreadings that a book can have breaks one of these. proofs/Laws proves them.
use Rattle.std.specs.Prelude.{ℕ, ◌-◌, ◌<◌, ◌≡◌, ◌≢◌, true, false, List, [], ◌∷◌, ◌++◌, length, get_or}
use Rattle.values.specs.declared.Value.{Value}
use Rattle.values.specs.Values.{all_unknown, nowhere, holds}
use Rattle.sheet.specs.Expression.{Expr}
use Rattle.sheet.specs.Module.{Module}
use Rattle.events.specs.declared.Inputs.{Inputs}
use Rattle.events.specs.Calls.{input_of}
use Rattle.nextstate.specs.Rules.{writes}
use Rattle.nextstate.specs.Nodes.{a_branch, node_value}
use Rattle.nextstate.specs.Extraction.{Tables}
use Rattle.nextstate.specs.Book.{Book, settle, entry, worth, rise, turned, book}

-- "A branch node takes its first arm only if the condition holds, x included among the failures."
pub record BranchLaw (us : List ℕ) (f : ℕ → Value) (vs : List Value) (c a b : ℕ) : Type 0 where
  pub first : holds (get_or vs c nowhere) ≡ true → node_value us f vs (a_branch c a b) ≡ get_or vs a nowhere
  pub other : holds (get_or vs c nowhere) ≡ false → node_value us f vs (a_branch c a b) ≡ get_or vs b nowhere
  pub unknown : (w : ℕ) → get_or vs c nowhere ≡ all_unknown w → node_value us f vs (a_branch c a b) ≡ get_or vs b nowhere

module _ (m : Module Expr) (T : Tables) where
  -- "then each thread's written registers .. take the values of the nodes in its place's row, all worked out on the values before"
  pub record RiseLaw (b : Book) (v : ℕ) : Type 0 where
    pub written :
        (i : ℕ) → i < length m.threads → writes m i v ≡ true → ((j : ℕ) → j ≢ i → writes m j v ≡ false) →
        (rise m T b).values v ≡ worth m T b.values (entry m T i (b.places i) (v - m.scope.inputs))
    pub kept : ((j : ℕ) → writes m j v ≡ false) → (rise m T b).values v ≡ b.values v

  -- "it takes the inputs and settles", "then it settles": whatever the clock, the book's values are settled ones.
  pub record TurnLaw (a : ℕ → Value) (b : Book) : Type 0 where
    pub before : ℕ → Value
    pub settles : (turned m T a b).values ≡ settle m before

  -- "in turn, the inputs of the list's accepted instants": each instant turns the book that those before it left.
  abbrev pub InTurn : List Inputs → Inputs → Type 0
  InTurn l a = book m T (l ++ (a ∷ [])) ≡ turned m T (input_of a) (book m T l)

pub record Laws : Type 0 where
  pub branch : (us : List ℕ) (f : ℕ → Value) (vs : List Value) (c a b : ℕ) → BranchLaw us f vs c a b
  pub rising : (m : Module Expr) (T : Tables) (b : Book) (v : ℕ) → RiseLaw m T b v
  pub settling : (m : Module Expr) (T : Tables) (a : ℕ → Value) (b : Book) → TurnLaw m T a b
  pub turning : (m : Module Expr) (T : Tables) (l : List Inputs) (a : Inputs) → InTurn m T l a
