-- How the statements of a sheet wait, found from their bytes: extraction's numbers 16 and 17.
-- Defined for any bytes; proofs/Walking says that of a statement that was read it is what its tree says.
use Rattle.std.specs.Prelude.{ℕ, zero, suc, ◌+◌, ◌*◌, Bool, true, false, not, ◌&&◌, ◌||◌, List, get_or, ltb}
use Rattle.values.specs.Values.{pick}
use Rattle.sheet.specs.Reading.{Res, ok, no}
use Rattle.sheet.specs.Statement.{Form, an_empty, an_assign, a_later, a_sequence, an_if, an_if_else, a_while, a_forever, a_wait, form_of}
use Rattle.pseudocode.specs.Skipping.{skip_at}
use Rattle.rules.specs.declared.Waiting.{Waiting}

-- ---- the forms: does the statement start with a wait, does it surely wait, and do the bodies of all its loops surely wait?
-- `next` is the place after it.

-- The empty statement and assignments.
unfoldable pub running : ℕ → Waiting
running p = record { next = p; starts = false; surely = false; loops = true }

unfoldable pub waits : ℕ → Waiting
waits p = record { next = p; starts = true; surely = true; loops = true }

unfoldable pub in_sequence : Waiting → Waiting → Waiting
in_sequence a b = record { next = b.next; starts = a.starts; surely = a.surely || b.surely; loops = a.loops && b.loops }

unfoldable pub in_if : Waiting → Waiting
in_if a = record { next = a.next; starts = false; surely = false; loops = a.loops }

unfoldable pub in_if_else : Waiting → Waiting → Waiting
in_if_else a b = record { next = b.next; starts = false; surely = a.surely && b.surely; loops = a.loops && b.loops }

unfoldable pub in_while : Waiting → Waiting
in_while a = record { next = a.next; starts = false; surely = false; loops = a.surely && a.loops }

unfoldable pub in_forever : Waiting → Waiting
in_forever a = record { next = a.next; starts = a.starts; surely = true; loops = a.surely && a.loops }

-- ---- walk_at: the statement at p, with so many levels left

-- The statement of a form whose map stands at p. `inner` walks over a statement in it. What is no map is no statement.
-- The functions' definitions stand at the places ds.
unfoldable pub walk_form : (ℕ → Waiting) → List ℕ → List ℕ → ℕ → Res Form → Waiting
walk_form inner s ds p (ok an_empty) = running (p + 1)
walk_form inner s ds p (ok an_assign) = running (skip_at 16 s ds (p + 2))
walk_form inner s ds p (ok a_later) = running (skip_at 16 s ds (p + 2))
walk_form inner s ds p (ok a_sequence) = let a = inner (p + 1) in in_sequence a (inner a.next)
walk_form inner s ds p (ok an_if) = in_if (inner (skip_at 16 s ds (p + 1)))
walk_form inner s ds p (ok an_if_else) = let a = inner (skip_at 16 s ds (p + 1)) in in_if_else a (inner a.next)
walk_form inner s ds p (ok a_while) = in_while (inner (skip_at 16 s ds (p + 1)))
walk_form inner s ds p (ok a_forever) = in_forever (inner (p + 1))
walk_form inner s ds p (ok a_wait) = waits (p + 2 + 2 * get_or s (p + 1) 0)
walk_form inner s ds p (no n q) = running p

-- Past 8,192 bytes there is no statement.
unfoldable pub walk_at : ℕ → List ℕ → List ℕ → ℕ → Waiting
walk_at zero s ds p = running p
walk_at (suc d) s ds p = pick (ltb p 8192) (walk_form (walk_at d s ds) s ds p (form_of (get_or s p 0) p)) (running p)

-- ---- n threads, one after the other, the first at p. "Depth at most 64".

-- A test on how a thread's statement waits holds of one of them.
unfoldable pub some_from : (Waiting → Bool) → List ℕ → List ℕ → ℕ → ℕ → Bool
some_from f s ds zero p = false
some_from f s ds (suc n) p = let w = walk_at 64 s ds p in f w || some_from f s ds n w.next

-- 16: "a thread that doesn't start with a wait"
unfoldable pub starts_running_from : List ℕ → List ℕ → ℕ → ℕ → Bool
starts_running_from s ds zero p = false
starts_running_from s ds (suc n) p = let w = walk_at 64 s ds p in not w.starts || starts_running_from s ds n w.next

-- 17: "a loop or thread body that doesn't surely wait"
unfoldable pub runs_away_from : List ℕ → List ℕ → ℕ → ℕ → Bool
runs_away_from s ds zero p = false
runs_away_from s ds (suc n) p = let w = walk_at 64 s ds p in not (w.surely && w.loops) || runs_away_from s ds n w.next
