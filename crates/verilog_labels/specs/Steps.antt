-- The same as the code makes it, from the tables of the text's tokens.
use Rattle.std.specs.Prelude.{List, [], ◌∷◌, ℕ, ◌+◌, ltb, length, get_or, set, replicate}
use Rattle.values.specs.Values.{pick}
use Rattle.verilog_tokens.specs.Tokens.{tokens}
use Rattle.verilog_tokens.specs.Table.{kinds, numbers}
use Rattle.verilog_scan.specs.Scan.{stored, starts, spelled_at}
use Rattle.verilog_names.specs.declared.Fault.{Fault}
use Rattle.verilog_names.specs.Chosen.{capped}
use Rattle.verilog_names.specs.Faults.{fault_of}
use Rattle.verilog_names.specs.Numbers.{ordered, numbered}
use Rattle.verilog_items.specs.Notes.{Notes}
use Rattle.verilog_items.specs.Items.{read_in}
use Rattle.verilog_labels.specs.Labels.{Labels, told}

abbrev pub zeros : ℕ → List ℕ
zeros n = replicate n 0

-- An entry stored where the table has one; entries stored from one on.
unfoldable pub put : List ℕ → ℕ → ℕ → List ℕ
put table k x = pick (ltb k 80) (set table k x) table

unfoldable pub laid : List ℕ → ℕ → List ℕ → List ℕ
laid table k [] = table
laid table k (x ∷ xs) = laid (put table k x) (k + 1) xs

-- Where tokens begin, and how long the words are that stand there.
unfoldable pub places_at : List ℕ → List ℕ → List ℕ
places_at begun [] = []
places_at begun (t ∷ ts) = get_or begun t 0 ∷ places_at begun ts

unfoldable pub lengths_at : List ℕ → List ℕ → List ℕ → List ℕ
lengths_at text begun [] = []
lengths_at text begun (t ∷ ts) = length (spelled_at text (get_or begun t 0)) ∷ lengths_at text begun ts

module _ (text ks ids begun : List ℕ) (count : ℕ) where
  unfoldable pub rows_in : List ℕ → Labels
  rows_in roles =
      let ts = ordered roles (capped count) in
      told 0 (laid (zeros 80) 0 (places_at begun ts)) (laid (zeros 80) 0 (lengths_at text begun ts))

  module _ (places lengths : List ℕ) where
    unfoldable pub fault_in : List ℕ → Fault → Labels
    fault_in roles f = pick f.found (told 43 places lengths) (rows_in roles)

    unfoldable pub noted_in : Notes → Labels
    noted_in s =
        pick s.text.put.ok (fault_in s.roles (fault_of ks ids begun s.roles (capped count))) (told 42 places lengths)

    -- Before anything is declared each name has the number 0.
    unfoldable pub derived_in : Labels
    derived_in =
        noted_in (read_in ks (numbered ks ids (zeros 16385) (capped count) (zeros 16385)) count (zeros 65536) (zeros 16385) (zeros 16385))

-- A text that is not too long has at most 16,384 tokens.
unfoldable pub few : ℕ → ℕ
few n = pick (ltb n 65536) n 65535

unfoldable pub scanned_in : List ℕ → List ℕ → List ℕ → Labels
scanned_in text =
    derived_in
    text
    (stored (kinds text) (zeros 16385))
    (stored (numbers text) (zeros 16385))
    (stored (starts text) (zeros 16385))
    (few (length (tokens text)))
