-- "each number stands exactly on its condition above": the numbers of a choice and of an instant, each with its condition. Those of
-- one call shut each other out, in the order "Choice: 1 to 11, 31, 22, 33 to 35, 36" and "Instant: 1 to 11, 31, 25, 32, 36", where a
-- choice has "a user above 3 (46), after 22" and "a user whose allowance is used up (47), last, where 36 stood".
-- `Exactly` is the claim on the calls; proofs/Numbers proves it.
use Rattle.std.specs.Prelude.{ℕ, ◌≤◌, ◌<◌, ◌≡◌, ◌≢◌, ◌⊎◌, true, false, List}
use Rattle.sheet.specs.Expression.{Expr}
use Rattle.sheet.specs.Module.{Module}
use Rattle.state.specs.declared.State.{State}
use Rattle.state.specs.State.{full, users, count_of, allowance_of}
use Rattle.events.specs.declared.Inputs.{Inputs}
use Rattle.events.specs.Cycle.{items, enabled, any_enabled, any_pending, quiet}
use Rattle.events.specs.Calls.{choose, inputs_fit, instant}
use Rattle.events.specs.Runs.{Refuses, Accepts}

module _ (m : Module Expr) (st : State) where
  -- A byte that names an item or the commit.
  abbrev pub Names : ℕ → Type 0
  Names c = (c < items m) ⊎ (c ≡ 255)

  pub data ChoiceNumber (u c : ℕ) : ℕ → Type 0 where
    -- "22 choice names no item"
    no_item : items m ≤ c → c ≢ 255 → ChoiceNumber u c 22
    -- "a user above 3 (46), after 22"
    no-user : Names c → users ≤ u → ChoiceNumber u c 46
    -- "33 item not enabled", then 47
    not-enabled : c < items m → u < users → enabled m st c ≡ false → ChoiceNumber u c 33
    item-used-up : c < items m → u < users → enabled m st c ≡ true → allowance_of st u ≤ count_of st u → ChoiceNumber u c 47
    item-taken : c < items m → u < users → enabled m st c ≡ true → count_of st u < allowance_of st u → ChoiceNumber u c 0
    -- "34 commit while one is. 35 commit with none pending", then 47
    one-enabled : items m ≤ c → c ≡ 255 → u < users → any_enabled m st ≡ true → ChoiceNumber u c 34
    none-pending : items m ≤ c → c ≡ 255 → u < users → any_enabled m st ≡ false → any_pending m st ≡ false → ChoiceNumber u c 35
    commit-used-up : items m ≤ c → c ≡ 255 → u < users → any_enabled m st ≡ false → any_pending m st ≡ true →
        allowance_of st u ≤ count_of st u → ChoiceNumber u c 47
    commit-taken : items m ≤ c → c ≡ 255 → u < users → any_enabled m st ≡ false → any_pending m st ≡ true →
        count_of st u < allowance_of st u → ChoiceNumber u c 0

  pub data InstantNumber (a : Inputs) : ℕ → Type 0 where
    -- "25 input values of wrong number or too wide"
    ill-fitting : inputs_fit m a ≡ false → InstantNumber a 25
    -- "32 instant when not quiet"
    not-quiet : inputs_fit m a ≡ true → quiet m st ≡ false → InstantNumber a 32
    time-full : inputs_fit m a ≡ true → quiet m st ≡ true → st.counters.time ≡ full → InstantNumber a 36
    instant-taken : inputs_fit m a ≡ true → quiet m st ≡ true → st.counters.time ≢ full → InstantNumber a 0

pub record Exactly : Type 0 where
  pub refused-choice : (s : List ℕ) (st : State) (u c n : ℕ) → Refuses s st n → (choose s st u c).number ≡ n
  pub choice : (s : List ℕ) (st : State) (u c : ℕ) (m : Module Expr) → Accepts s st m → ChoiceNumber m st u c (choose s st u c).number
  pub refused-instant : (s : List ℕ) (st : State) (a : Inputs) (n : ℕ) → Refuses s st n → (instant s st a).number ≡ n
  pub instant-on : (s : List ℕ) (st : State) (a : Inputs) (m : Module Expr) → Accepts s st m →
      InstantNumber m st a (instant s st a).number
