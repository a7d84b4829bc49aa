-- Exact work of the plain run (document 02, [9]): "in an extractable module, after a change of inputs on a quiet state or after a
-- commit, a plain run long enough to reach quiet or the next commit stores up to there exactly those wires that read a variable whose
-- value changed, lower wires included, each once." proofs/Work proves it.
use Rattle.std.specs.Prelude.{ℕ, zero, suc, ◌+◌, ◌-◌, ◌<◌, ◌≡◌, ◌⊎◌, Bool, true, false, ◌||◌, List, [], ◌∷◌, ◌++◌, length, ltb, eqb}
use Rattle.values.specs.declared.Value.{Value}
use Rattle.values.specs.Values.{pick}
use Rattle.sheet.specs.Reading.{ok}
use Rattle.sheet.specs.Expression.{Expr}
use Rattle.sheet.specs.Module.{Module, read}
use Rattle.state.specs.declared.State.{State}
use Rattle.state.specs.State.{Shaped, users, count_of, allowance_of, value_of}
use Rattle.events.specs.declared.Inputs.{Inputs}
use Rattle.events.specs.declared.Verdict.TheVariants.{Quiet}
use Rattle.events.specs.Cycle.{wire_expr, touched}
use Rattle.events.specs.Calls.{choose, choices_by, plain_choice, run_plain, instant}
use Rattle.nextstate.specs.Rules.{one}
use Rattle.nextstate.specs.Extraction.{extract}
use Rattle.phases.specs.Phases.{all_instructions}

-- ---- choices: the commit is 255, a wire's number follows the threads'

unfoldable pub has_commit : List ℕ → Bool
has_commit [] = false
has_commit (c ∷ cs) = eqb c 255 || has_commit cs

-- Those before the first commit.
unfoldable pub up_to_commit : List ℕ → List ℕ
up_to_commit [] = []
up_to_commit (c ∷ cs) = pick (eqb c 255) [] (c ∷ up_to_commit cs)

module _ (m : Module Expr) where
  -- The wires that choices store, one after the other.
  unfoldable pub wires_of : List ℕ → List ℕ
  wires_of [] = []
  wires_of (c ∷ cs) = pick (ltb c (length m.threads)) (wires_of cs) ((c - length m.threads) ∷ wires_of cs)

  -- ---- "those wires that read a variable whose value changed", from f to g: of the wires below n, rising, each once

  unfoldable pub readers_below : ℕ → (ℕ → Value) → (ℕ → Value) → List ℕ
  readers_below zero f g = []
  readers_below (suc k) f g = readers_below k f g ++ pick (touched m (wire_expr m k) f g) (k ∷ []) []

  unfoldable pub readers : (ℕ → Value) → (ℕ → Value) → List ℕ
  readers f g = readers_below (length m.wires) f g

  -- How many they are.
  unfoldable pub reader_count : ℕ → (ℕ → Value) → (ℕ → Value) → ℕ
  reader_count zero f g = 0
  reader_count (suc k) f g = reader_count k f g + one (touched m (wire_expr m k) f g)

-- ---- the plain run of at most n choices of user u from a state

module _ (s : List ℕ) (m : Module Expr) (u : ℕ) (st : State) (n : ℕ) where
  abbrev pub taken : List ℕ
  taken = choices_by m u (plain_choice m) n st

  -- "long enough to reach quiet or the next commit"
  abbrev pub LongEnough : Type 0
  LongEnough = ((run_plain s st u n).verdict ≡ Quiet) ⊎ (has_commit taken ≡ true)

  -- What it "stores up to there", and the state there.
  abbrev pub stores : List ℕ
  stores = wires_of m (up_to_commit taken)

  abbrev pub there : State
  there = (run_plain s st u (length (up_to_commit taken))).state

-- ---- the claim. "changed" counts from before the instant or the commit that the run follows.

pub record Exact (s : List ℕ) (m : Module Expr) (u : ℕ) (before after : State) : Type 0 where
  pub exact : (n : ℕ) → LongEnough s m u after n → stores s m u after n ≡ readers m (value_of before) (value_of (there s m u after n))
  -- "Setters plan desk runs by wire stores": so many.
  pub count : (n : ℕ) → LongEnough s m u after n →
      length (stores s m u after n) ≡ reader_count m (length m.wires) (value_of before) (value_of (there s m u after n))
  -- All threads' instructions, the wires and the commit are long enough, while the user's allowance lasts.
  pub enough : (n : ℕ) → all_instructions m + length m.wires < n →
      count_of after u + all_instructions m + length m.wires < allowance_of after u → LongEnough s m u after n

pub record WorkOf (s : List ℕ) : Type 0 where
  pub m : Module Expr
  pub reads : read s ≡ ok m
  -- "after a change of inputs on a quiet state": an accepted instant
  pub instants : (st : State) → Shaped st → (a : Inputs) → (instant s st a).number ≡ 0 → (u : ℕ) → u < users →
      Exact s m u st (instant s st a).state
  -- "or after a commit": an accepted one, of any user
  pub commits : (st : State) → Shaped st → (v : ℕ) → (choose s st v 255).number ≡ 0 → (u : ℕ) → u < users →
      Exact s m u st (choose s st v 255).state

abbrev pub Work : Type 0
Work = (s ns rs : List ℕ) → (extract s ns rs).number ≡ 0 → WorkOf s
