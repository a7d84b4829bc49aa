-- An instruction built from the code table and the sheet: document 01's one value, that holds its kind and a wait its edges.
-- Defined for any bytes and words; proofs/Compiling says that for a sheet that is accepted it is the one at that place of the translation.
use Rattle.std.specs.Prelude.{ℕ, ◌+◌, ◌*◌, ◌/◌, ◌%◌, List, [], ◌∷◌, get_or, ltb}
use Rattle.values.specs.Values.{pick, ◌is◌then◌else◌}
use Rattle.values.specs.Edges.{edge_of}
use Rattle.sheet.specs.declared.EdgeTerm.{EdgeTerm}
use Rattle.pseudocode.specs.declared.EdgeTerms.{EdgeTerms}
use Rattle.pseudocode.specs.declared.Action.TheVariants.{Set, Later, Go, IfNot}
use Rattle.pseudocode.specs.declared.Instruction.{Instruction}
use Rattle.pseudocode.specs.declared.Instruction.TheVariants.{Wait, Act}
use Rattle.pseudocode.specs.Instruction.{no_term}
use Rattle.pseudocode.specs.Filling.{cell, wait_kind, set_kind, later_kind, go_kind}

-- ---- the terms of a wait: "a count (1 to 8) and so many pairs of edge (0 any change, 1 posedge, 2 negedge) and variable"

-- Term k of the wait whose count stands at `at`.
unfoldable pub term_from : List ℕ → ℕ → ℕ → ℕ → EdgeTerm
term_from s at count k =
    pick (ltb k count) (record { edge = edge_of (get_or s (at + 1 + 2 * k) 0); variable = get_or s (at + 1 + 2 * k + 1) 0 }) no_term

unfoldable pub terms_from : List ℕ → ℕ → ℕ → EdgeTerms
terms_from s at n =
    record {
      count = n;
      t0 = term_from s at n 0;
      t1 = term_from s at n 1;
      t2 = term_from s at n 2;
      t3 = term_from s at n 3;
      t4 = term_from s at n 4;
      t5 = term_from s at n 5;
      t6 = term_from s at n 6;
      t7 = term_from s at n 7;
    }

unfoldable pub terms_at : List ℕ → ℕ → EdgeTerms
terms_at s at = terms_from s at (get_or s at 0)

-- ---- term_at: term k, past the eight none

unfoldable pub term_at : EdgeTerms → ℕ → EdgeTerm
term_at t k = get_or (t.t0 ∷ t.t1 ∷ t.t2 ∷ t.t3 ∷ t.t4 ∷ t.t5 ∷ t.t6 ∷ t.t7 ∷ []) k no_term

-- ---- fetch_at: the instruction at a place of a thread

-- The instruction that two words stand for.
unfoldable pub decode : List ℕ → ℕ → ℕ → Instruction
decode s w x =
    w % 8 is wait_kind then Wait (terms_at s (w / 8)) else
    w % 8 is set_kind then Act (Set (x % 256) (w / 8)) else
    w % 8 is later_kind then Act (Later (x % 256) (w / 8)) else
    w % 8 is go_kind then Act (Go x) else
    Act (IfNot x (w / 8))

-- Outside the table it is `go 0`.
unfoldable pub fetch_at : List ℕ → List ℕ → ℕ → ℕ → Instruction
fetch_at s code thread n =
    pick (ltb thread 8)
    (pick (ltb n 256) (decode s (get_or code (cell thread n) 0) (get_or code (cell thread n + 1) 0)) (Act (Go 0)))
    (Act (Go 0))
