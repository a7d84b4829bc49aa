-- One choice on a plan, with its number: 0 where it is accepted. `room` is how many choices may still be accepted.
use Rattle.std.specs.Prelude.{ℕ, ◌+◌, ◌-◌, false, ◌||◌, get_or, ltb, eqb}
use Rattle.values.specs.Values.{pick}
use Rattle.masks.specs.Masks.{any_mark}
use Rattle.plan.specs.declared.Instruction.{Instruction}
use Rattle.plan.specs.declared.Instruction.TheVariants.{Wait, Act}
use Rattle.plan.specs.Plan.{Plan}
use Rattle.plan_engine.specs.Live.{Live, scene_of, with_scene}
use Rattle.plan_engine.specs.Acting.{act, settle, commit}

pub record Taken : Type 0 where
  pub number : ℕ
  pub left : Live

abbrev pub taken : ℕ → Live → Taken
taken n l = record { number = n; left = l }

-- 47 where no room is left, judged last: then nothing is done.
unfoldable pub unless : ℕ → Live → Live → Taken
unless room l done = pick (eqb room 0) (taken 47 l) (taken 0 done)

-- "A choice that finds its thread at a wait is refused, else the instruction is taken apart and run."
unfoldable pub take_instruction : Plan → ℕ → ℕ → ℕ → Instruction → Live → Taken
take_instruction q room i p (Wait t) l = taken 33 l
take_instruction q room i p (Act a) l = unless room l (act q i p a l)

-- There is no ninth thread to choose.
unfoldable pub take_thread : Plan → ℕ → ℕ → Live → Taken
take_thread q room i l =
    let p = get_or l.places i 0 in
    pick (ltb i 8) (take_instruction q room i p (q.instruction i p) l) (taken 22 l)

unfoldable pub take_wire : Plan → ℕ → ℕ → Live → Taken
take_wire q room k l =
    pick (get_or l.due k false) (unless room l (with_scene (settle q k (scene_of l)) l)) (taken 33 l)

unfoldable pub take_commit : Plan → ℕ → Live → Taken
take_commit q room l =
    pick (any_mark l.ready || any_mark l.due) (taken 34 l)
    (pick (any_mark l.held) (unless room l (commit q l))
    (taken 35 l))

-- The threads by their numbers, then the wires; 255 is the commit.
unfoldable pub take_choice : Plan → ℕ → ℕ → Live → Taken
take_choice q room c l =
    pick (ltb c q.threads) (take_thread q room c l)
    (pick (ltb c (q.threads + q.wires)) (take_wire q room (c - q.threads) l)
    (pick (eqb c 255) (take_commit q room l)
    (taken 22 l)))
