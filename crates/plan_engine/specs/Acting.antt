-- What one choice does on a plan: an action of a thread, a due wire, the commit; and the inputs of an instant. Defined for plans
-- and states of any contents.
use Rattle.std.specs.Prelude.{ℕ, zero, suc, ◌+◌, ◌-◌, Bool, true, false, List, get_or, set, ltb}
use Rattle.values.specs.declared.Value.{Value}
use Rattle.values.specs.Values.{pick, holds}
use Rattle.masks.specs.Masks.{bits}
use Rattle.values.specs.Cells.{cell_of, value_of}
use Rattle.plan.specs.declared.Action.{Action}
use Rattle.plan.specs.declared.Action.TheVariants.{Set, Later, Go, IfNot}
use Rattle.plan.specs.Plan.{Plan}
use Rattle.plan_changes.specs.Scene.{Changing, Scene, scene}
use Rattle.plan_changes.specs.Changes.{after, placed, put, opened, finish, store}
use Rattle.plan_engine.specs.Live.{Live, alive, stand_of, with_stand, scene_of, with_scene, with_cells, evaluate, worth}

-- ---- act: an action of thread i, which stands at place p

unfoldable pub goes : Plan → ℕ → ℕ → Live → Live
goes q i p l = with_stand (placed q i p (stand_of l)) l

-- A later assignment to variable v: the cell is held for the commit, and replaces one that its register holds already.
unfoldable pub pending_with : Plan → ℕ → ℕ → List ℕ → List ℕ
pending_with q v c ns = pick (ltb (v - q.inputs) 32) (set ns (v - q.inputs) (cell_of (value_of c))) ns

unfoldable pub held_with : Plan → ℕ → List Bool → List Bool
held_with q v hs = pick (ltb (v - q.inputs) 32) (set hs (v - q.inputs) true) hs

abbrev pub defer : Plan → ℕ → ℕ → Live → Live
defer q v c l = alive l.cells (pending_with q v c l.pending) l.places l.due l.ready (held_with q v l.held)

-- Where an `ifnot` at place p goes: "x included among the failures".
unfoldable pub leg : ℕ → ℕ → ℕ → ℕ
leg c p g = pick (holds (value_of c)) (after p) g

unfoldable pub act : Plan → ℕ → ℕ → Action → Live → Live
act q i p (Set v e) l =
    let m = with_cells (evaluate q e l.cells) l in
    goes q i (after p) (with_scene (store q v (worth q e l.cells) (scene_of m)) m)
act q i p (Later v e) l = goes q i (after p) (defer q v (worth q e l.cells) (with_cells (evaluate q e l.cells) l))
act q i p (Go g) l = goes q i g l
act q i p (IfNot g e) l = goes q i (leg (worth q e l.cells) p g) (with_cells (evaluate q e l.cells) l)

-- ---- settle: a due wire, its mark cleared and its expression stored

unfoldable pub settle : Plan → ℕ → Scene → Scene
settle q k s =
    store q (q.inputs + q.registers + k) (worth q (q.wire k) s.cells)
    (scene (evaluate q (q.wire k) s.cells) s.places (set s.due k false) s.ready)

-- ---- commit: all cells that are held put, and then one change

-- The cell of register n put, if it holds one.
unfoldable pub put_register : Plan → List ℕ → List Bool → List ℕ → ℕ → Changing → Changing
put_register q ps hs ns n k = pick (get_or hs n false) (put q ps (q.inputs + n) (get_or ns n 0) k) k

unfoldable pub put_pending : Plan → List ℕ → List Bool → List ℕ → ℕ → Changing → Changing
put_pending q ps hs ns zero k = k
put_pending q ps hs ns (suc n) k = put_register q ps hs ns n (put_pending q ps hs ns n k)

-- The change that puts them.
abbrev pub committed : Plan → Live → Changing
committed q l = put_pending q l.places l.held l.pending q.registers (opened l.cells l.due)

unfoldable pub commit : Plan → Live → Live
commit q l =
    let s = finish q (committed q l) (stand_of l) in
    alive s.cells l.pending s.places s.due s.ready (bits 0)

-- ---- feed: all inputs put, and then one change

unfoldable pub put_inputs : Plan → List ℕ → (ℕ → Value) → ℕ → Changing → Changing
put_inputs q ps f zero k = k
put_inputs q ps f (suc n) k = put q ps n (cell_of (f n)) (put_inputs q ps f n k)

unfoldable pub feed : Plan → (ℕ → Value) → Live → Live
feed q f l =
    with_scene (finish q (put_inputs q l.places f q.inputs (opened l.cells l.due)) (stand_of l)) l
