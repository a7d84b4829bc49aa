-- The work of clock cycles on a plan: how many wires the plain run stores, and how many read a variable whose value changed, from each
-- instant or commit up to quiet or the next commit, summed over a cycle (document 02, [9]: "Setters plan desk runs by wire stores").
-- Defined for plans of any contents; crates/work proves the two equal in a module that extraction accepts.
use Rattle.std.specs.Prelude.{ℕ, zero, suc, ◌+◌, ◌*◌, ◌%◌, Bool, true, false, not, ◌||◌, List, ltb, eqb, length, get_or, set}
use Rattle.values.specs.Values.{pick, ◌is◌then◌else◌}
use Rattle.state.specs.declared.State.{State}
use Rattle.state.specs.Rows.{list_of}
use Rattle.events.specs.declared.Inputs.{Inputs}
use Rattle.plan.specs.Plan.{Plan}
use Rattle.prepared.specs.Prepared.{choose_at, instant_at}
use Rattle.counted.specs.Counted.{work_at, readers_at}
use Rattle.driving.specs.declared.Rest.{Rest}
use Rattle.driving.specs.declared.Traced.{Traced}
use Rattle.driving.specs.Plans.{rest, traced}
use Rattle.workload.specs.declared.Tally.{Tally}

abbrev pub tally : ℕ → Bool → ℕ → ℕ → State → Tally
tally n t stores readers st = record { number = n; rested = t; stores = stores; readers = readers; state = st }

-- A sum of 32 bits.
unfoldable pub summed : ℕ → ℕ → ℕ
summed a b = (a + b % 4294967296) % 4294967296

-- Quiet, or stopped by a number.
unfoldable pub is_over : Tally → Bool
is_over t = t.rested || not (eqb t.number 0)

-- A row of 16 from a place on, with another number in the clock's place.
unfoldable pub row_of : List ℕ → ℕ → ℕ → List ℕ
row_of ns at first = set (list_of 16 (λ k. get_or ns (at + k) 0)) 0 first

unfoldable pub inputs_at : Plan → List ℕ → List ℕ → ℕ → ℕ → Inputs
inputs_at q ns xs at clock = record { count = q.inputs; value = row_of ns at clock; unknown = row_of xs at 0 }

-- How a run goes on behind a cycle.
unfoldable pub after : Rest → Tally → Rest
after r t = rest r.way t.number t.rested t.state r.seed

-- The stores and the readers of cycle k stand in front of its second row of 88 words.
unfoldable pub written : ℕ → Tally → List ℕ → List ℕ
written k t w = set (set w (176 * k + 88) t.stores) (176 * k + 89) t.readers

module _ (q : Plan) (u : ℕ) where
  -- ---- an instant or a commit, and the plain run of user u up to quiet or the next commit

  -- "after a change of inputs on a quiet state or after a commit": `before` is the state in front of it.
  unfoldable pub stretched : State → Tally → Tally
  stretched before t =
      let w = work_at q t.state u 65535 in
      tally w.number false (summed t.stores w.stores) (summed t.readers (readers_at q before w.state q.wires)) w.state

  -- The commit. One that is refused with 35, "commit with none pending", says that all is quiet.
  unfoldable pub committed : Tally → Tally
  committed t =
      let c = choose_at q t.state u 255 in
      c.number is 35 then tally 0 true t.stores t.readers c.state else
      tally c.number false t.stores t.readers c.state

  -- ---- to_rest: at most so many commits

  unfoldable pub to_rest : ℕ → State → Tally → Tally
  to_rest zero before t = t
  to_rest (suc n) before t =
      let w = stretched before t in
      let c = committed w in
      w.number is 0 then pick (is_over c) c (to_rest n w.state c) else w

  -- ---- driven: an instant, and then to rest; a refused one leaves its number

  unfoldable pub driven : Inputs → Tally → Tally
  driven a t =
      let c = instant_at q t.state a in
      let e = tally c.number false t.stores t.readers c.state in
      c.number is 0 then to_rest 65535 t.state e else e

  -- ---- cycled: an instant with the clock low and one with the clock high

  module _ (ns xs : List ℕ) where
    unfoldable pub cycled : ℕ → State → Tally
    cycled at st =
        let low = driven (inputs_at q ns xs at 0) (tally 0 true 0 0 st) in
        pick low.rested (driven (inputs_at q ns xs at 1) low) low

    -- ---- traced_from, rows_from: at most n rows of 16 inputs, from cycle k on

    unfoldable pub traced_from : ℕ → ℕ → Rest → Traced
    traced_from zero k r = traced (2 * k) r
    traced_from (suc n) k r =
        let t = cycled (16 * k) r.state in
        pick (ltb (length ns) (16 * k + 16)) (traced (2 * k) r)
        (pick t.rested (traced_from n (k + 1) (after r t)) (traced (2 * k) (after r t)))

    unfoldable pub rows_from : ℕ → ℕ → Rest → List ℕ → List ℕ
    rows_from zero k r w = w
    rows_from (suc n) k r w =
        let t = cycled (16 * k) r.state in
        pick (ltb (length ns) (16 * k + 16)) w
        (pick t.rested (rows_from n (k + 1) (after r t) (written k t w)) w)
