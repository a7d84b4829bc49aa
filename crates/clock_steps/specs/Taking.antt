-- The rise of the clock on a plane of cells: "each thread's written registers and its place take the values of the nodes in its place's
-- row, all worked out on the values before". Defined for tables, cells and places of any contents.
use Rattle.std.specs.Prelude.{false, List, ℕ, zero, suc, ◌+◌, ◌*◌, ◌%◌, ltb, get_or, set, replicate}
use Rattle.values.specs.Values.{pick}
use Rattle.values.specs.Planes.{number_of}
use Rattle.masks.specs.Masks.{bits}
use Rattle.values.specs.Cells.{value_of, cell_of, cell_at}
use Rattle.plan.specs.Sections.{slot_of}
use Rattle.plan.specs.Plan.{Node, Plan}
use Rattle.plan_nodes.specs.Nodes.{work}
use Rattle.clock_nodes.specs.Rows.{row_place}
use Rattle.clock_steps.specs.Settling.{put_cell}

-- ---- a row

-- The row of thread i's wait at p: there are 32.
unfoldable pub row_in : List ℕ → ℕ → ℕ → ℕ
row_in numbers i p = get_or numbers (256 * i + p) 0 % 32

-- The cell of entry c.
unfoldable pub entry_cell : List ℕ → ℕ → ℕ → ℕ
entry_cell ts row c = slot_of (get_or ts (row_place row + c) 0)

-- Its nodes worked out.
unfoldable pub work_row : (ℕ → Node) → List ℕ → ℕ → List ℕ → List ℕ
work_row f ts row cs = work f (get_or ts (row_place row + 33) 0) (get_or ts (row_place row + 34) 0) cs

-- Register r, if the row's thread writes it, takes its entry's value.
unfoldable pub take_register : List ℕ → ℕ → List ℕ → ℕ → List ℕ → List ℕ
take_register ts row cs r news =
    pick (get_or (bits (get_or ts (row_place row + 35) 0)) r false) (set news r (cell_of (cell_at cs (entry_cell ts row r)))) news

-- The registers below r.
unfoldable pub take_registers : List ℕ → ℕ → List ℕ → ℕ → List ℕ → List ℕ
take_registers ts row cs zero news = news
take_registers ts row cs (suc r) news = take_register ts row cs r (take_registers ts row cs r news)

-- ---- threads: the plane, the registers' new cells, the places

pub record Taking : Type 0 where
  pub cells : List ℕ
  pub news : List ℕ
  pub places : List ℕ

abbrev pub taking : List ℕ → List ℕ → List ℕ → Taking
taking cs news ps = record { cells = cs; news = news; places = ps }

-- A cell as a place, which is a byte.
unfoldable pub place_of : ℕ → ℕ
place_of c = number_of (value_of c) % 256

-- A row's values taken from the plane that has them.
unfoldable pub take_row : List ℕ → ℕ → ℕ → ℕ → List ℕ → Taking → Taking
take_row ts row count i cs t =
    taking cs (take_registers ts row cs count t.news) (set t.places i (place_of (get_or cs (entry_cell ts row 32) 0)))

module _ (f : ℕ → Node) (ts numbers : List ℕ) (count : ℕ) where
  unfoldable pub take_thread : ℕ → Taking → Taking
  take_thread i t =
      let row = row_in numbers i (get_or t.places i 0) in
      take_row ts row count i (work_row f ts row t.cells) t

  -- The threads below i.
  unfoldable pub take_below : ℕ → Taking → Taking
  take_below zero t = t
  take_below (suc i) t = take_thread i (take_below i t)

-- ---- the registers' cells, copied out and put back: the first n, from variable `first` on

unfoldable pub load_to : List ℕ → ℕ → ℕ → List ℕ → List ℕ
load_to cs first zero news = news
load_to cs first (suc r) news = set (load_to cs first r news) r (get_or cs (slot_of (first + r)) 0)

unfoldable pub store_to : List ℕ → ℕ → ℕ → List ℕ → List ℕ
store_to news first zero cs = cs
store_to news first (suc r) cs = put_cell (first + r) (get_or news r 0) (store_to news first r cs)

-- ---- the rise

pub record Stand : Type 0 where
  pub cells : List ℕ
  pub places : List ℕ

abbrev pub stand : List ℕ → List ℕ → Stand
stand cs ps = record { cells = cs; places = ps }

unfoldable pub at_most : ℕ → ℕ → ℕ
at_most most n = pick (ltb n most) n most

-- The registers' cells are copied, each thread takes its own, and they are put back.
unfoldable pub rise : Plan → (ℕ → Node) → List ℕ → List ℕ → Stand → Stand
rise q f ts numbers b =
    let count = at_most 32 q.registers in
    let t =
    take_below f ts numbers count (at_most 8 q.threads)
    (taking b.cells (load_to b.cells q.inputs count (replicate 32 0)) b.places) in
    stand (store_to t.news q.inputs count t.cells) t.places
