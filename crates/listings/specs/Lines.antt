-- The lines of the listing as the code prints them: from the code table and each thread's size. Defined for any table;
-- proofs/Lines says that for a sheet that was read they are the listing's.
use Rattle.std.specs.Prelude.{ℕ, zero, suc, ◌+◌, List, [], ◌++◌, get_or, replicate}
use Rattle.pseudocode.specs.Compiling.{compile_at}
use Rattle.pseudocode.specs.Fetching.{fetch_at}
use Rattle.text.specs.Listing.{show_line, show_head}
use Rattle.text.specs.Printing.{text_at, instr_of}

-- n instructions of a thread, the first at this place. The functions' definitions stand at the places ds.
unfoldable pub code_lines : List ℕ → List ℕ → List ℕ → ℕ → ℕ → ℕ → List ℕ
code_lines s ds code thread zero place = []
code_lines s ds code thread (suc n) place =
    show_line (text_at s ds) thread place (instr_of (fetch_at s code thread place)) ++ code_lines s ds code thread n (place + 1)

-- n threads, the first with this number.
unfoldable pub thread_lines : List ℕ → List ℕ → List ℕ → List ℕ → ℕ → ℕ → List ℕ
thread_lines s ds code sizes zero thread = []
thread_lines s ds code sizes (suc n) thread =
    code_lines s ds code thread (get_or sizes thread 0) 0 ++ thread_lines s ds code sizes n (thread + 1)

-- The listing by the code table that `compile` fills from an empty one.
unfoldable pub table_listing : List ℕ → List ℕ → ℕ → ℕ → List ℕ
table_listing s ds threads body =
    let c = compile_at s ds threads body (replicate 4096 0) in
    show_head threads ++ thread_lines s ds c.code c.sizes threads 0
