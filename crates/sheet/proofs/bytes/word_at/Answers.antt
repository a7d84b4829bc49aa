-- `sheet::bytes::word_at` meets its contract: past the end all four bytes are 0. Assumes nothing.
use mathlib.Core.Path.{sym}
use Prim.Native.Nat.{◌+◌, ◌≤◌}
use native.Mathlib.Omega.{arith}
use lib.ListN.{length, get_or-eq_default}
use Rattle.sheet.specs.Reading.{word, word_of}
use Rattle.sheet.proofs.bytes.word_at.Goals as goal

pub returns-then-s-at : goal.returns-then-s-at
unfolding word word_of
returns-then-s-at c =
    let s = c.args.s.now in
    let p = c.args.at in
    let h : length s ≤ p = c.if-s-at.true in
    sym (simp (get_or-eq_default s 0 h, get_or-eq_default s 0 {n = p + 1} (omega arith), get_or-eq_default s 0 {n = p + 2} (omega arith), get_or-eq_default s 0 {n = p + 3} (omega arith)))

pub returns : goal.returns
unfolding word_of
returns c =
    simp (c.word.ensures, c.byte_at.ensures, c.byte_at-2.ensures, c.byte_at-3.ensures, c.byte_at-4.ensures)
