-- `verilog_scan::fill` meets its contract. The loop's invariant: what is still to be stored gives the whole. Assumes nothing.
use borrow.Author.Rules.{rules}
use native.Mathlib.Omega.{arith}
use Rattle.verilog_scan.specs.Scan.{gap_from}
use Rattle.verilog_scan.proofs.Rest.{lex-few, next-after}
use Rattle.verilog_scan.proofs.Filling.{stands-first, stands-next, stands-last, size_is, next-is}
use Rattle.verilog_scan.proofs.fill.Goals as goal

pub loop-at-init : goal.loop-at-init
unfolding gap_from
loop-at-init c =
    let a = c.args in
    let r-gap-end = c.gap_end-at in
    stands-first a.text.now a.kinds.now a.numbers.now a.places.now _ _ r-gap-end.ensures (search rules)

pub bounds-kinds-n : goal.bounds-kinds-n
bounds-kinds-n c =
    let l = c.loop-at in
    let t = c.loop-at-test in
    let p = c.requires in
    omega (arith, l.invariant.few, t.true, p)

pub number_of-requires : goal.number_of-requires
number_of-requires c =
    let v = c.loop-at.invariant in
    let p = c.requires in
    let t = c.loop-at-test.true in
    let a = v.few in
    let b = v.few-names in
    let r = v.room in
    (omega arith, omega arith, omega arith)

pub offset_bounds-numbers-n : goal.offset_bounds-numbers-n
offset_bounds-numbers-n c =
    let l = c.loop-at in
    let t = c.loop-at-test in
    let p = c.requires in
    omega (arith, l.invariant.few, t.true, p)

pub bounds-numbers-n : goal.bounds-numbers-n
bounds-numbers-n c =
    let l = c.loop-at in
    let t = c.loop-at-test in
    let p = c.requires in
    omega (arith, l.invariant.few, t.true, p)

pub overflow_cast-places : goal.overflow_cast-places
overflow_cast-places c =
    let t = c.loop-at-test in
    let p = c.requires in
    omega (arith, t.true, p)

pub offset_bounds-places-n : goal.offset_bounds-places-n
offset_bounds-places-n c =
    let l = c.loop-at in
    let t = c.loop-at-test in
    let p = c.requires in
    omega (arith, l.invariant.few, t.true, p)

pub bounds-places-n : goal.bounds-places-n
bounds-places-n c =
    let l = c.loop-at in
    let t = c.loop-at-test in
    let p = c.requires in
    omega (arith, l.invariant.few, t.true, p)

pub overflow_cast-starts : goal.overflow_cast-starts
overflow_cast-starts c =
    let t = c.loop-at-test in
    let p = c.requires in
    omega (arith, t.true, p)

pub offset_bounds-starts-names : goal.offset_bounds-starts-names
offset_bounds-starts-names c =
    let l = c.loop-at in
    let t = c.loop-at-test in
    let p = c.requires in
    omega (arith, l.invariant.few, l.invariant.few-names, t.true, p)

pub bounds-starts-names : goal.bounds-starts-names
bounds-starts-names c =
    let l = c.loop-at in
    let t = c.loop-at-test in
    let p = c.requires in
    omega (arith, l.invariant.few, l.invariant.few-names, t.true, p)

pub more-names-requires : goal.more-names-requires
more-names-requires c =
    let l = c.loop-at in
    let t = c.loop-at-test in
    let p = c.requires in
    omega (arith, l.invariant.few, l.invariant.few-names, t.true, p)

pub overflow_add-n : goal.overflow_add-n
overflow_add-n c =
    let l = c.loop-at in
    let t = c.loop-at-test in
    let p = c.requires in
    omega (arith, l.invariant.few, t.true, p)

pub next_at-at-requires : goal.next_at-at-requires
next_at-at-requires c =
    let a = c.args in
    let l = c.loop-at in
    let t = c.loop-at-test in
    let r-token-at = c.token_at-t in
    let e = size_is a.text.now l.at t.true _ r-token-at.ensures in
    omega (arith, lex-few a.text.now l.at t.true)

pub loop-at-smaller : goal.loop-at-smaller
loop-at-smaller c =
    let a = c.args in
    let l = c.loop-at in
    let t = c.loop-at-test in
    let r-token-at = c.token_at-t in
    let r-next-at = c.next_at-at in
    let e = next-is a.text.now l.at t.true _ r-token-at.ensures _ r-next-at.ensures in
    omega (arith, next-after a.text.now l.at t.true, t.true)

pub loop-at-preserved : goal.loop-at-preserved
loop-at-preserved c =
    let a = c.args in
    let l = c.loop-at in
    let t = c.loop-at-test in
    let p = c.requires in
    let r-token-at = c.token_at-t in
    let r-number-of = c.number_of in
    let r-more = c.more-names in
    let r-next-at = c.next_at-at in
    stands-next a.text.now a.kinds.now a.numbers.now a.places.now _ _ _ _ _ _ _ l.invariant t.true (p) _
    r-token-at.ensures _ _ _ r-number-of.ensures r-more.ensures r-next-at.ensures

pub bounds-kinds-n-2 : goal.bounds-kinds-n-2
bounds-kinds-n-2 c =
    omega (arith, c.loop-at.invariant.few, c.loop-at.invariant.inside, c.requires)

pub offset_bounds-numbers-n-2 : goal.offset_bounds-numbers-n-2
offset_bounds-numbers-n-2 c =
    omega (arith, c.loop-at.invariant.few, c.loop-at.invariant.inside, c.requires)

pub bounds-numbers-n-2 : goal.bounds-numbers-n-2
bounds-numbers-n-2 c =
    omega (arith, c.loop-at.invariant.few, c.loop-at.invariant.inside, c.requires)

pub overflow_cast-places-2 : goal.overflow_cast-places-2
overflow_cast-places-2 c =
    omega (arith, c.requires)

pub offset_bounds-places-n-2 : goal.offset_bounds-places-n-2
offset_bounds-places-n-2 c =
    omega (arith, c.loop-at.invariant.few, c.loop-at.invariant.inside, c.requires)

pub bounds-places-n-2 : goal.bounds-places-n-2
bounds-places-n-2 c =
    omega (arith, c.loop-at.invariant.few, c.loop-at.invariant.inside, c.requires)

pub returns : goal.returns
returns c =
    let a = c.args in
    let l = c.loop-at in
    let t = c.loop-at-test in
    stands-last a.text.now a.kinds.now a.numbers.now a.places.now _ _ _ _ _ _ _ l.invariant t.false
