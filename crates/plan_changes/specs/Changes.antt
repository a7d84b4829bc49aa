-- A change of values on a plan: cells are put, the wires that read a changed variable are due, the waits fire. A change puts a
-- variable at most once, so that what it fires is told by each variable alone, from its value before to its value after.
-- Defined for plans, cells and places of any contents.
use Rattle.std.specs.Prelude.{ℕ, zero, suc, ◌+◌, Bool, true, false, not, ◌&&◌, List, ltb, eqb, get_or, set}
use Rattle.values.specs.declared.Value.{Value}
use Rattle.values.specs.Values.{pick, same}
use Rattle.values.specs.Edges.{fires}
use Rattle.pseudocode.specs.declared.EdgeTerms.{EdgeTerms}
use Rattle.pseudocode.specs.Fetching.{term_at}
use Rattle.masks.specs.Masks.{bits, either, any_mark}
use Rattle.events.specs.Cycle.{any_below}
use Rattle.values.specs.Cells.{cell_of, value_of, cell_at}
use Rattle.plan.specs.declared.Instruction.{Instruction}
use Rattle.plan.specs.declared.Instruction.TheVariants.{Wait, Act}
use Rattle.plan.specs.Plan.{Plan}
use Rattle.plan_changes.specs.Scene.{Stand, stand, Changing, changing, Scene, scene}

-- At most eight: threads, and a wait's terms.
unfoldable pub eight : ℕ → ℕ
eight n = pick (ltb n 8) n 8

-- ---- wakes: variable v going from a to b, does one of the wait's terms fire?

unfoldable pub term_wakes : EdgeTerms → ℕ → Value → Value → ℕ → Bool
term_wakes t v a b k = eqb (term_at t k).variable v && fires (term_at t k).edge a b

unfoldable pub wakes : Instruction → ℕ → Value → Value → Bool
wakes (Wait t) v a b = any_below (eight t.count) (term_wakes t v a b)
wakes (Act x) v a b = false

-- ---- wake: the threads that the change of variable v wakes, of those that watch it

unfoldable pub wake_thread : Plan → List ℕ → ℕ → Value → Value → ℕ → List Bool → List Bool
wake_thread q ps v a b i ws =
    pick (get_or (q.watchers v) i false && wakes (q.instruction i (get_or ps i 0)) v a b) (set ws i true) ws

unfoldable pub wake_below : Plan → List ℕ → ℕ → Value → Value → ℕ → List Bool → List Bool
wake_below q ps v a b zero ws = ws
wake_below q ps v a b (suc n) ws = wake_thread q ps v a b n (wake_below q ps v a b n ws)

unfoldable pub wake : Plan → List ℕ → ℕ → Value → Value → List Bool → List Bool
wake q ps v a b ws = pick (any_mark (q.watchers v)) (wake_below q ps v a b (eight q.threads) ws) ws

-- ---- put: the value of a cell stored into variable v; ps are the places before the change

-- "Storing an equal value is no change": it is stored all the same. There are 80 variables at most.
unfoldable pub put : Plan → List ℕ → ℕ → ℕ → Changing → Changing
put q ps v c k =
    pick (ltb v 80)
    (pick (same old (value_of c)) (changing stored k.due k.woken)
    (changing stored (either k.due (q.readers v)) (wake q ps v old (value_of c) k.woken)))
    k
  where
    old : Value
    old = cell_at k.cells v

    stored : List ℕ
    stored = set k.cells v (cell_of (value_of c))

-- ---- move: the woken threads go on to the next place

-- The next place of a thread; there is none after 255.
unfoldable pub after : ℕ → ℕ
after p = pick (ltb p 255) (p + 1) p

-- A thread put at a place, and whether it is ready there. A thread past the eighth has no place.
unfoldable pub placed : Plan → ℕ → ℕ → Stand → Stand
placed q i p s = pick (ltb i 8) (stand (set s.places i p) (set s.ready i (not (q.waits i p)))) s

unfoldable pub move_thread : Plan → List Bool → ℕ → Stand → Stand
move_thread q ws i s = pick (get_or ws i false) (placed q i (after (get_or s.places i 0)) s) s

unfoldable pub move_below : Plan → List Bool → ℕ → Stand → Stand
move_below q ws zero s = s
move_below q ws (suc n) s = move_thread q ws n (move_below q ws n s)

unfoldable pub move : Plan → List Bool → Stand → Stand
move q ws s = pick (any_mark ws) (move_below q ws (eight q.threads) s) s

-- ---- a change: opened, cells put, and then finished

abbrev pub opened : List ℕ → List Bool → Changing
opened cs ds = changing cs ds (bits 0)

unfoldable pub finish : Plan → Changing → Stand → Scene
finish q k s = scene k.cells (move q k.woken s).places k.due (move q k.woken s).ready

-- ---- store: one cell stored as one change

unfoldable pub store : Plan → ℕ → ℕ → Scene → Scene
store q v c s = finish q (put q s.places v c (opened s.cells s.due)) (stand s.places s.ready)
