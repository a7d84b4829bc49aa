-- Runs on a plan: over a list of choices, and the plain run.
use Rattle.std.specs.Prelude.{ℕ, zero, suc, ◌+◌, ◌-◌, Bool, true, ◌||◌, List, [], ◌∷◌, ltb, eqb}
use Rattle.std.specs.declared.option.Option.{Option}
use Rattle.std.specs.declared.option.Option.TheVariants.{Some, None}
use Rattle.values.specs.Values.{pick}
use Rattle.masks.specs.Masks.{first, any_mark}
use Rattle.plan.specs.Plan.{Plan}
use Rattle.plan_engine.specs.Live.{Live}
use Rattle.plan_engine.specs.Taking.{Taken, take_choice}

-- How many choices were accepted, the number that stopped the run, and what it leaves.
pub record Run : Type 0 where
  pub accepted : ℕ
  pub number : ℕ
  pub left : Live

abbrev pub run : ℕ → ℕ → Live → Run
run a n l = record { accepted = a; number = n; left = l }

-- A run that goes on once a choice was taken.
unfoldable pub onward : Taken → Run → Run
onward t rest = pick (eqb t.number 0) (run (rest.accepted + 1) rest.number rest.left) (run 0 t.number t.left)

-- ---- over a list: it ends at the first refused choice

unfoldable pub run_list : Plan → List ℕ → ℕ → Live → Run
run_list q [] room l = run 0 0 l
run_list q (c ∷ cs) room l = onward (take_choice q room c l) (run_list q cs (room - 1) (take_choice q room c l).left)

-- ---- the plain run: "takes the lowest enabled item, else the commit"

-- Is something enabled or held?
unfoldable pub busy : Live → Bool
busy l = any_mark l.ready || any_mark l.due || any_mark l.held

unfoldable pub plain_choice : Plan → Live → ℕ
plain_choice q l =
    pick (any_mark l.ready) (first l.ready)
    (pick (any_mark l.due) (q.threads + first l.due)
    255)

-- At most n choices, as long as there is something to do.
unfoldable pub run_plain : Plan → ℕ → ℕ → Live → Run
run_plain q zero room l = run 0 0 l
run_plain q (suc n) room l =
    pick (busy l)
    (onward (take_choice q room (plain_choice q l) l) (run_plain q n (room - 1) (take_choice q room (plain_choice q l) l).left))
    (run 0 0 l)

-- The number of a turn's choice: that of one that is given, else one past every item's.
abbrev pub given : Option ℕ → ℕ
given None = 65536
given (Some c) = c

-- ---- turns: at most n of them, each with the choice that is given, or with the plain one where its number is past every item's

-- A choice that is given is taken in any case, the plain one as long as there is something to do.
unfoldable pub turns_on : ℕ → Live → Bool
turns_on c l = pick (ltb c 65536) true (busy l)

unfoldable pub turn_choice : Plan → ℕ → Live → ℕ
turn_choice q c l = pick (ltb c 65536) c (plain_choice q l)

unfoldable pub turns : Plan → ℕ → ℕ → ℕ → Live → Run
turns q c zero room l = run 0 0 l
turns q c (suc n) room l =
    pick (turns_on c l)
    (onward (take_choice q room (turn_choice q c l) l) (turns q c n (room - 1) (take_choice q room (turn_choice q c l) l).left))
    (run 0 0 l)
