-- Where a text has what a refusal of extraction concerns: a variable where it is declared, a wire where it is assigned, a thread at its
-- `always`, a wait at its `@`. Tokens go by their tables; roles are those of `verilog_names`.
use Rattle.std.specs.Prelude.{List, ℕ, ◌+◌, ltb, get_or}
use Rattle.values.specs.Values.{pick}
use Rattle.verilog_tokens.specs.Table.{kinds, numbers}
use Rattle.verilog_scan.specs.Scan.{starts}
use Rattle.verilog_exprs.specs.Rows.{row_at}
use Rattle.verilog_names.specs.Chosen.{capped, chosen, has_role}
use Rattle.verilog_names.specs.Order.{target_of}
use Rattle.verilog_items.specs.Notes.{Notes}
use Rattle.verilog_items.specs.Items.{read_in}
use Rattle.verilog_origins.specs.declared.Item.{Item}
use Rattle.verilog_origins.specs.declared.Item.TheVariants.{Variable, Assign, Thread, Wait}
use Rattle.verilog_origins.specs.Origins.{zeros, declared, table, count_of}

-- Token k of those among the first n that a table has such an entry for; n where there are fewer.
unfoldable pub nth_of : List ℕ → ℕ → ℕ → ℕ → ℕ
nth_of row n v k = get_or (chosen (has_role row v) n 0) k n

-- The target of the `assign` to wire k: wires are declared with the role 3.
unfoldable pub target_for : List ℕ → List ℕ → ℕ → ℕ → ℕ
target_for ids roles n k = target_of ids roles n (row_at ids (nth_of roles n 3 k))

-- The widths of the variables stand behind the four counts of the head.
unfoldable pub variable_place : List ℕ → ℕ → ℕ
variable_place text v = pick (ltb v 80) (declared text (v + 4)) 0

-- By the tables of the text. The word `always` has the role 5; `@` is a token of kind 27.
unfoldable pub item_in : List ℕ → List ℕ → List ℕ → List ℕ → List ℕ → ℕ → Item → ℕ
item_in text ks ids places roles count (Variable v) = variable_place text v
item_in text ks ids places roles count (Assign k) = row_at places (target_for ids roles (capped count) k)
item_in text ks ids places roles count (Thread k) = row_at places (nth_of roles (capped count) 5 k)
item_in text ks ids places roles count (Wait k) = row_at places (nth_of ks (capped count) 27 k)

-- With what is noted of the text's tokens while its module is read.
unfoldable pub item_by : List ℕ → Item → Notes → ℕ
item_by text item s =
    item_in text (table text (kinds text)) (table text (numbers text)) (table text (starts text)) s.roles (count_of text) item

unfoldable pub place_of : List ℕ → Item → ℕ
place_of text item =
    item_by text item
    (read_in (table text (kinds text)) (table text (numbers text)) (count_of text) (zeros 65536) (zeros 16385) (zeros 16385))
