-- The code table of all functions, filled once from a sheet that was accepted, and the instruction at a place of it.
-- Defined for any bytes; proofs/Laying says that for a sheet that is accepted it holds the instructions of each function's body.
use Rattle.std.specs.Prelude.{ℕ, zero, suc, ◌+◌, ◌*◌, ◌/◌, ◌%◌, List, get_or, set, replicate, ltb}
use Rattle.values.specs.Values.{pick, ◌is◌then◌else◌}
use Rattle.pseudocode.specs.Filling.{set_kind, go_kind, filling}
use Rattle.bodies.specs.declared.Move.{Move}
use Rattle.bodies.specs.declared.Move.TheVariants.{Set, Go, IfNot}
use Rattle.bodies.specs.Filling.{fill_at}

-- The next place, for each function where its instructions begin and end, and the table.
pub record Laid : Type 0 where
  pub place : ℕ
  pub starts : List ℕ
  pub ends : List ℕ
  pub code : List ℕ

abbrev pub laid : ℕ → List ℕ → List ℕ → List ℕ → Laid
laid place starts ends code = record { place = place; starts = starts; ends = ends; code = code }

-- ---- the body of the function whose definition stands at d: behind its parameter count, their widths and the result's.
-- "At most 8,192 bytes": past them there is none.

unfoldable pub body_at : List ℕ → ℕ → ℕ
body_at s d = pick (ltb d 8192) (d + 2 + get_or s d 0) d

-- ---- lay_from: n functions in turn, the first with number k. "Depth at most 64".

unfoldable pub lay_one : List ℕ → List ℕ → ℕ → Laid → Laid
lay_one s ds k c =
    let f = fill_at s ds 64 (filling (body_at s (get_or ds k 0)) c.place c.code) in
    laid f.place (set c.starts k c.place) (set c.ends k f.place) f.code

unfoldable pub lay_from : List ℕ → List ℕ → ℕ → ℕ → Laid → Laid
lay_from s ds zero k c = c
lay_from s ds (suc n) k c = lay_from s ds n (k + 1) (lay_one s ds k c)

-- ---- lay_at: all of them. "a count of functions (1 to 8)"

unfoldable pub function_count : ℕ → ℕ
function_count functions = pick (ltb functions 8) functions 8

unfoldable pub lay_at : List ℕ → List ℕ → ℕ → List ℕ → Laid
lay_at s ds functions code = lay_from s ds (function_count functions) 0 (laid 0 (replicate 8 0) (replicate 8 0) code)

-- ---- fetch_at: the instruction at a place

-- The instruction that two words stand for.
unfoldable pub decode : ℕ → ℕ → Move
decode w x =
    w % 8 is set_kind then Set (w / 8) else
    w % 8 is go_kind then Go x else
    IfNot x (w / 8)

-- Outside the table it is `go 0`.
unfoldable pub fetch_at : List ℕ → ℕ → Move
fetch_at code n = pick (ltb n 4096) (decode (get_or code (2 * n) 0) (get_or code (2 * n + 1) 0)) (Go 0)
