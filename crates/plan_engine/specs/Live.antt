-- What a choice works on: the state as its parts lie in flat arrays and masks. The cells of nodes are a part of it, and scratch:
-- a state's variables are the cells below the first node.
use Rattle.std.specs.Prelude.{ℕ, ◌+◌, Bool, List, get_or}
use Rattle.masks.specs.Masks.{bits}
use Rattle.plan.specs.declared.Expression.{Expression}
use Rattle.plan.specs.Sections.{slot_of}
use Rattle.plan.specs.Plan.{Plan}
use Rattle.plan_nodes.specs.Nodes.{work}
use Rattle.plan_changes.specs.declared.Marks.{Marks}
use Rattle.plan_changes.specs.Scene.{Stand, stand, Scene, scene}

-- The cells of variables and nodes, the cells that registers hold for the commit, the threads' places, the wires that are due,
-- the threads that stand off a wait, and the registers that hold a cell.
pub record Live : Type 0 where
  pub cells : List ℕ
  pub pending : List ℕ
  pub places : List ℕ
  pub due : List Bool
  pub ready : List Bool
  pub held : List Bool

abbrev pub alive : List ℕ → List ℕ → List ℕ → List Bool → List Bool → List Bool → Live
alive cs ns ps ds rs hs = record { cells = cs; pending = ns; places = ps; due = ds; ready = rs; held = hs }

-- The state as the code keeps it, each set of marks as a mask.
abbrev pub live : List ℕ → List ℕ → List ℕ → Marks → Live
live cs ns ps m = alive cs ns ps (bits m.due) (bits m.ready) (bits m.held)

-- ---- parts of it

abbrev pub stand_of : Live → Stand
stand_of l = stand l.places l.ready

abbrev pub with_stand : Stand → Live → Live
with_stand s l = alive l.cells l.pending s.places l.due s.ready l.held

abbrev pub scene_of : Live → Scene
scene_of l = scene l.cells l.places l.due l.ready

abbrev pub with_scene : Scene → Live → Live
with_scene s l = alive s.cells l.pending s.places s.due s.ready l.held

abbrev pub with_cells : List ℕ → Live → Live
with_cells cs l = alive cs l.pending l.places l.due l.ready l.held

-- ---- an expression: its nodes are worked out, and its root's cell has its value

unfoldable pub root_of : Expression → ℕ
root_of e = slot_of e.root

unfoldable pub evaluate : Plan → Expression → List ℕ → List ℕ
evaluate q e cs = work q.node e.first (root_of e + 1) cs

unfoldable pub worth : Plan → Expression → List ℕ → ℕ
worth q e cs = get_or (evaluate q e cs) (root_of e) 0
