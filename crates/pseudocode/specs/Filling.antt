-- The code table: 512 words a thread, two words an instruction. A statement of the sheet fills a part of it.
-- Defined for any bytes; proofs/Holding says that a statement that was read fills in its translation.
use Rattle.std.specs.Prelude.{ℕ, zero, suc, ◌+◌, ◌*◌, ◌%◌, List, get_or, set, ltb}
use Rattle.values.specs.Values.{pick}
use Rattle.sheet.specs.Reading.{Res, ok, no}
use Rattle.sheet.specs.Statement.{Form, an_empty, an_assign, a_later, a_sequence, an_if, an_if_else, a_while, a_forever, a_wait, form_of}
use Rattle.pseudocode.specs.declared.Filled.{Filled}
use Rattle.pseudocode.specs.declared.Kind as Kind
use Rattle.pseudocode.specs.Skipping.{skip_at}

-- ---- kinds of instructions

abbrev pub wait_kind : ℕ
wait_kind = 0

abbrev pub set_kind : ℕ
set_kind = 1

abbrev pub later_kind : ℕ
later_kind = 2

abbrev pub go_kind : ℕ
go_kind = 3

abbrev pub ifnot_kind : ℕ
ifnot_kind = 4

-- The number of a kind as the code names it.
abbrev pub kind_number : Kind.Kind → ℕ
kind_number Kind.TheVariants.Wait = wait_kind
kind_number Kind.TheVariants.Set = set_kind
kind_number Kind.TheVariants.Later = later_kind
kind_number Kind.TheVariants.Go = go_kind
kind_number Kind.TheVariants.IfNot = ifnot_kind

-- ---- store: the table with an instruction at place n of a thread

-- The first of an instruction's two words.
abbrev pub cell : ℕ → ℕ → ℕ
cell thread n = 512 * thread + 2 * n

-- The kind, and the place of the operands in the sheet: an expression's map, or a wait's count.
-- A sheet's places are below 8,192, so that the word is below 65,536.
unfoldable pub first_word : ℕ → ℕ → ℕ
first_word kind at = kind % 8 + 8 * (at % 8192)

-- The second word is the target or the goal. "threads (1 to 8)", "at most 256 instructions": outside nothing is stored.
unfoldable pub store : ℕ → ℕ → ℕ → ℕ → ℕ → List ℕ → List ℕ
store thread n kind at goal code =
    pick (ltb thread 8)
    (pick (ltb n 256)
    (set (set code (cell thread n) (first_word kind at)) (cell thread n + 1) (goal % 65536))
    code)
    code

-- ---- filling: how far the sheet was taken, the thread's next place, and the table

pub record Filling : Type 0 where
  pub next : ℕ
  pub place : ℕ
  pub code : List ℕ

abbrev pub filling : ℕ → ℕ → List ℕ → Filling
filling next n code = record { next = next; place = n; code = code }

-- The code's answer, with the table that it leaves.
abbrev pub filled : Filled → List ℕ → Filling
filled r code = filling r.next r.place code

-- The place after n; there is none after 256.
unfoldable pub after : ℕ → ℕ
after n = pick (ltb n 256) (n + 1) n

-- One instruction at the next place; `next` is the place in the sheet after its operands.
unfoldable pub emit : ℕ → ℕ → ℕ → ℕ → ℕ → Filling → Filling
emit thread kind at goal next f = filling next (after f.place) (store thread f.place kind at goal f.code)

-- ---- the forms, in the shapes of `translate`. `inner` fills a body; f stands at the first operand. The functions' definitions
-- stand at the places ds.

module _ (s ds : List ℕ) (thread : ℕ) where
  -- An assignment's expression at `at`.
  unfoldable pub fill_assign : ℕ → ℕ → ℕ → Filling → Filling
  fill_assign kind target at f = emit thread kind at target (skip_at 16 s ds at) f

  module _ (inner : Filling → Filling) where
    unfoldable pub fill_sequence : Filling → Filling
    fill_sequence f = inner (inner f)

    -- A body after a condition leaves room for the `ifnot`, whose goal is known when the body is filled.
    unfoldable pub fill_body : Filling → Filling
    fill_body f = inner (filling (skip_at 16 s ds f.next) (after f.place) f.code)

    unfoldable pub fill_if : Filling → Filling
    fill_if f =
        let a = fill_body f in
        filling a.next a.place (store thread f.place ifnot_kind f.next a.place a.code)

    unfoldable pub fill_if_else : Filling → Filling
    fill_if_else f =
        let a = fill_body f in
        let b = inner (filling a.next (after a.place) a.code) in
        filling b.next b.place
        (store thread f.place ifnot_kind f.next (after a.place)
        (store thread a.place go_kind 0 b.place b.code))

    unfoldable pub fill_while : Filling → Filling
    fill_while f =
        let a = fill_body f in
        let b = emit thread go_kind 0 f.place a.next a in
        filling b.next b.place (store thread f.place ifnot_kind f.next b.place b.code)

    unfoldable pub fill_forever : Filling → Filling
    fill_forever f = let a = inner f in emit thread go_kind 0 f.place a.next a

    -- The statement whose map stands at f's next byte. What is no map fills nothing.
    unfoldable pub fill_form : Filling → Res Form → Filling
    fill_form f (ok an_empty) = filling (f.next + 1) f.place f.code
    fill_form f (ok an_assign) = fill_assign set_kind (get_or s (f.next + 1) 0) (f.next + 2) f
    fill_form f (ok a_later) = fill_assign later_kind (get_or s (f.next + 1) 0) (f.next + 2) f
    fill_form f (ok a_sequence) = fill_sequence (filling (f.next + 1) f.place f.code)
    fill_form f (ok an_if) = fill_if (filling (f.next + 1) f.place f.code)
    fill_form f (ok an_if_else) = fill_if_else (filling (f.next + 1) f.place f.code)
    fill_form f (ok a_while) = fill_while (filling (f.next + 1) f.place f.code)
    fill_form f (ok a_forever) = fill_forever (filling (f.next + 1) f.place f.code)
    fill_form f (ok a_wait) = emit thread wait_kind (f.next + 1) 0 (f.next + 2 + 2 * get_or s (f.next + 1) 0) f
    fill_form f (no n p) = f

  -- With so many levels left. Past 8,192 bytes or 256 places nothing is filled.
  unfoldable pub fill_at : ℕ → Filling → Filling
  fill_at zero f = f
  fill_at (suc d) f =
      pick (ltb f.next 8192)
      (pick (ltb f.place 256) (fill_form (fill_at d) f (form_of (get_or s f.next 0) f.next)) f)
      f
