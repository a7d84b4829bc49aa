-- The rows of lent tables, copied: the cells of a row's entries, and the range of cells that are worked out for it. Defined for words of
-- any contents.
use Rattle.std.specs.Prelude.{Bool, false, List, ℕ, zero, suc, ◌+◌, ◌*◌, ltb, get_or, set}
use Rattle.values.specs.Values.{pick, ◌is◌then◌else◌}
use Rattle.masks.specs.Masks.{bits}
use Rattle.clock_nodes.specs.Copying.{cell_in, lower}

-- "Rows, by thread and wait: 32 register nodes .., then the place."
unfoldable pub entry_at : List ℕ → ℕ → ℕ → ℕ
entry_at rs row c = get_or rs (33 * row + c) 0

-- ---- a row of the table has 36 words: the cells of the 33 entries, then lo and hi, then the mask of the registers that are written

abbrev pub row_place : ℕ → ℕ
row_place row = 36 * row

-- The entries below c.
unfoldable pub put_entries : List ℕ → List ℕ → ℕ → ℕ → List ℕ → List ℕ
put_entries ns rs row zero ts = ts
put_entries ns rs row (suc c) ts = set (put_entries ns rs row c ts) (row_place row + c) (cell_in ns (entry_at rs row c))

-- ---- the range: from the lowest node that the place or a written register needs, to the highest of them

-- Entry e, if it counts.
unfoldable pub low_by : List ℕ → List ℕ → Bool → ℕ → ℕ → ℕ
low_by ns ls counts e x = pick counts (lower ns ls e x) x

-- The place and the registers below r; `written` says which of them count.
unfoldable pub low_to : List ℕ → List ℕ → List ℕ → ℕ → List Bool → ℕ → ℕ
low_to ns ls rs row written zero = lower ns ls (entry_at rs row 32) 4096
low_to ns ls rs row written (suc r) = low_by ns ls (get_or written r false) (entry_at rs row r) (low_to ns ls rs row written r)

-- The higher of x and the cell after node n's; a variable needs no node.
unfoldable pub higher : List ℕ → ℕ → ℕ → ℕ
higher ns n x = get_or ns (4 * n) 0 is 0 then x else pick (ltb x (81 + n)) (81 + n) x

unfoldable pub high_by : List ℕ → Bool → ℕ → ℕ → ℕ
high_by ns counts e x = pick counts (higher ns e x) x

unfoldable pub high_to : List ℕ → List ℕ → ℕ → List Bool → ℕ → ℕ
high_to ns rs row written zero = higher ns (entry_at rs row 32) 0
high_to ns rs row written (suc r) = high_by ns (get_or written r false) (entry_at rs row r) (high_to ns rs row written r)

-- ---- a row

unfoldable pub fill_row : List ℕ → List ℕ → List ℕ → ℕ → ℕ → List ℕ → List ℕ
fill_row ns ls rs row mask ts =
    pick (ltb row 32)
    (set
    (set (set (put_entries ns rs row 33 ts) (row_place row + 33) (80 + low_to ns ls rs row (bits mask) 32)) (row_place row + 34)
    (high_to ns rs row (bits mask) 32))
    (row_place row + 35)
    mask)
    ts
