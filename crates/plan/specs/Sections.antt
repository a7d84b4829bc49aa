-- The words of a plan, section by section. Only this crate knows the layout.
use Rattle.std.specs.Prelude.{ℕ, ◌+◌, ◌*◌, ltb}
use Rattle.values.specs.Values.{pick}

-- ---- cells: one for each of 80 variables, then one for each of 4,096 nodes. Node n is worked out into cell n.

abbrev pub variables : ℕ
variables = 80

abbrev pub cells : ℕ
cells = 4176

-- A word as the number of a cell; a word that names none is cell 0.
unfoldable pub slot_of : ℕ → ℕ
slot_of w = pick (ltb w cells) w 0

-- ---- where each section begins

-- Nodes: four words each, by the number of their cell.
abbrev pub node_place : ℕ → ℕ
node_place n = 4 * n

-- Instructions: four words each, 256 to a thread.
abbrev pub code_place : ℕ → ℕ → ℕ
code_place i p = 16704 + 1024 * i + 4 * p

-- Wires: two words each.
abbrev pub wire_place : ℕ → ℕ
wire_place k = 24896 + 2 * k

-- A word for each variable: the wires that read it, the threads that wait for it, its width.
abbrev pub readers_place : ℕ → ℕ
readers_place v = 24960 + v

abbrev pub watchers_place : ℕ → ℕ
watchers_place v = 25040 + v

abbrev pub width_place : ℕ → ℕ
width_place v = 25120 + v

-- The counts of inputs, registers, wires and threads.
abbrev pub count_place : ℕ → ℕ
count_place n = 25200 + n

-- How many instructions each thread has.
abbrev pub size_place : ℕ → ℕ
size_place i = 25204 + i

abbrev pub words : ℕ
words = 25212
