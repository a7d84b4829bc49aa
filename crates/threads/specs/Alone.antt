-- A thread run alone, from a wait to the next, and the book's rise of the clock told by it.
use Rattle.std.specs.Prelude.{ℕ, zero, suc, ◌+◌, ◌-◌, length, ltb, eqb}
use Rattle.std.proofs.Math.Option.{Option, none, some}
use Rattle.values.specs.declared.Value.{Value}
use Rattle.values.specs.Values.{pick, holds}
use Rattle.sheet.specs.Expression.{Expr}
use Rattle.sheet.specs.Module.{Module}
use Rattle.evaluation.specs.Evaluation.{eval}
use Rattle.pseudocode.specs.Translation.{Instr, wait!, set!, later!, go, ifnot}
use Rattle.events.specs.Cycle.{code_of, instr_at}
use Rattle.events.specs.Steps.{latest}
use Rattle.nextstate.specs.Rules.{plain_writes, writes}
use Rattle.nextstate.specs.Book.{Book, put}

-- A thread's place, and the values and pending values that it sees.
pub record Local : Type 0 where
  pub place : ℕ
  pub values : ℕ → Value
  pub pending : ℕ → Option Value

unfoldable pub put_pending : (ℕ → Option Value) → ℕ → Value → ℕ → Option Value
put_pending f r a q = pick (eqb q r) (some a) (f q)

module _ (m : Module Expr) where
  -- One instruction.
  unfoldable pub exec : Instr Expr → Local → Local
  exec (wait! ts) L = L
  exec (set! t e) L =
      record { place = L.place + 1; values = put L.values t (eval L.values e); pending = L.pending }
  exec (later! t e) L =
      record {
        place = L.place + 1;
        values = L.values;
        pending = put_pending L.pending (t - m.scope.inputs) (eval L.values e);
      }
  exec (go g) L = record { place = g; values = L.values; pending = L.pending }
  exec (ifnot e g) L =
      record { place = pick (holds (eval L.values e)) (L.place + 1) g; values = L.values; pending = L.pending }

  module _ (i : ℕ) where
    unfoldable pub turn : Local → Local
    turn L = exec (instr_at (code_of m i) L.place) L

    -- So many instructions of thread i.
    unfoldable pub alone : ℕ → Local → Local
    alone zero L = L
    alone (suc n) L = turn (alone n L)

    -- From a wait at p that has fired, on the values f.
    unfoldable pub begin : (ℕ → Value) → ℕ → Local
    begin f p = record { place = p + 1; values = f; pending = λ r. none }

    -- At the next wait.
    unfoldable pub end_of : (ℕ → Value) → ℕ → Local
    end_of f p = alone (length (code_of m i)) (begin f p)

    -- Variable v, which thread i writes, after the commit.
    unfoldable pub value_after : (ℕ → Value) → Local → ℕ → Value
    value_after f L v = pick (plain_writes m i v) (L.values v) (latest (L.pending (v - m.scope.inputs)) (f v))

  -- ---- the rise of the clock, by the threads alone

  unfoldable pub taken_alone : Book → ℕ → ℕ → Value
  taken_alone b zero v = b.values v
  taken_alone b (suc i) v =
      pick (writes m i v) (value_after i b.values (end_of i b.values (b.places i)) v) (taken_alone b i v)

  unfoldable pub place_alone : Book → ℕ → ℕ
  place_alone b i = pick (ltb i (length m.threads)) (end_of i b.values (b.places i)).place (b.places i)

  unfoldable pub rise_alone : Book → Book
  rise_alone b = record { values = taken_alone b (length m.threads); places = place_alone b }
