-- The code table of the bodies: two words an instruction, the functions' one after the other. A statement of a body fills a part of it.
-- Defined for any bytes; proofs/Holding says that a body that was read fills in its instructions.
-- There are 4,096 of them at most: in the sheet an assignment takes four bytes or more, an if three beside its body, an if-else three
-- beside its two, and the least body is one byte, so that n instructions take 2n + 1 bytes or more, of at most 8,192.
use Rattle.std.specs.Prelude.{ℕ, zero, suc, ◌+◌, ◌*◌, ◌%◌, List, get_or, set, ltb}
use Rattle.values.specs.Values.{pick}
use Rattle.sheet.specs.Reading.{Res, ok, no}
use Rattle.sheet.specs.Statement.{Form, an_empty, an_assign, a_later, a_sequence, an_if, an_if_else, a_while, a_forever, a_wait, form_of}
use Rattle.pseudocode.specs.Skipping.{skip_at}
use Rattle.pseudocode.specs.Filling.{set_kind, go_kind, ifnot_kind, first_word, Filling, filling}

-- ---- store: the table with an instruction at place n

-- The second word is the goal. Past the table nothing is stored.
unfoldable pub store : ℕ → ℕ → ℕ → ℕ → List ℕ → List ℕ
store n kind at goal code =
    pick (ltb n 4096) (set (set code (2 * n) (first_word kind at)) (2 * n + 1) (goal % 65536)) code

-- The place after n; there is none after 4,096.
unfoldable pub after : ℕ → ℕ
after n = pick (ltb n 4096) (n + 1) n

-- ---- the forms, in the shapes of `lay_out`. `inner` fills a body; f stands at the first operand.

module _ (s ds : List ℕ) where
  -- The expression of an assignment to the result.
  unfoldable pub fill_result : Filling → Filling
  fill_result f = filling (skip_at 16 s ds f.next) (after f.place) (store f.place set_kind f.next 0 f.code)

  module _ (inner : Filling → Filling) where
    unfoldable pub fill_in_turn : Filling → Filling
    fill_in_turn f = inner (inner f)

    -- A body after a condition leaves room for the `ifnot`, whose goal is known when the body is filled.
    unfoldable pub fill_inside : Filling → Filling
    fill_inside f = inner (filling (skip_at 16 s ds f.next) (after f.place) f.code)

    unfoldable pub fill_if : Filling → Filling
    fill_if f =
        let a = fill_inside f in
        filling a.next a.place (store f.place ifnot_kind f.next a.place a.code)

    unfoldable pub fill_if_else : Filling → Filling
    fill_if_else f =
        let a = fill_inside f in
        let b = inner (filling a.next (after a.place) a.code) in
        filling b.next b.place
        (store f.place ifnot_kind f.next (after a.place) (store a.place go_kind 0 b.place b.code))

    -- The statement whose map stands at f's next byte. What no body has fills nothing.
    unfoldable pub fill_form : Filling → Res Form → Filling
    fill_form f (ok an_empty) = filling (f.next + 1) f.place f.code
    fill_form f (ok an_assign) = fill_result (filling (f.next + 2) f.place f.code)
    fill_form f (ok a_later) = f
    fill_form f (ok a_sequence) = fill_in_turn (filling (f.next + 1) f.place f.code)
    fill_form f (ok an_if) = fill_if (filling (f.next + 1) f.place f.code)
    fill_form f (ok an_if_else) = fill_if_else (filling (f.next + 1) f.place f.code)
    fill_form f (ok a_while) = f
    fill_form f (ok a_forever) = f
    fill_form f (ok a_wait) = f
    fill_form f (no n p) = f

  -- With so many levels left. Past 8,192 bytes or 4,096 places nothing is filled.
  unfoldable pub fill_at : ℕ → Filling → Filling
  fill_at zero f = f
  fill_at (suc d) f =
      pick (ltb f.next 8192)
      (pick (ltb f.place 4096) (fill_form (fill_at d) f (form_of (get_or s f.next 0) f.next)) f)
      f
