-- The claim of specs/Claims, shown. Assumes nothing.
use mathlib.Core.Path.{◌≡◌}
use mathlib.Core.List.{List}
use Prim.Native.Nat.{ℕ, ◌≤◌}
use native.Mathlib.Omega.{arith}
use borrow.Author.Tests.{le-leb}
use lib.ListN.{length}
use Rattle.sheet.specs.Expression.{Expr}
use Rattle.sheet.specs.Module.{Module}
use Rattle.plan.specs.Plan as plan
use Rattle.nextstate.specs.Book.{row_of}
use Rattle.nextstate.specs.CycleRun.{tables_in}
use Rattle.clock_nodes.specs.Copying.{copy_to, copy_all, lows_to, low_all}
use Rattle.clock_nodes.proofs.Lows.{copied_at}
use Rattle.clock_nodes.proofs.Ranges.{Copies}
use Rattle.clock_nodes.specs.Reach.{Counted}
use Rattle.clock_steps.specs.Claims.{Wired, Coded, Lent, Room, RiseIsTheBooks}
use Rattle.clock_steps.specs.Numbers.{number_rows, fill_rows}
use Rattle.clock_steps.proofs.Rows.{row-filled}
use Rattle.clock_steps.proofs.RowNumbers.{row_inside, row_small, row_from, rows_is, thread-waits, threads-is, number-row}
use Rattle.clock_steps.proofs.Entries.{nodes-fit}
use Rattle.clock_steps.proofs.Rising.{Filled, rise-same}

-- At most 4,096 are copied.
copy-all : (ns us : List ℕ) (count : ℕ) (ws : List ℕ) → count ≤ 4096 → copy_all ns us count ws ≡ copy_to ns us count ws
unfolding copy_all
copy-all ns us count ws h = rw (le-leb count 4096 h)

low-all : (ns : List ℕ) (count : ℕ) (ls : List ℕ) → count ≤ 4096 → low_all ns count ls ≡ lows_to ns count ls
unfolding low_all
low-all ns count ls h = rw (le-leb count 4096 h)

module _ (m : Module Expr) (q : plan.Plan) (w : Wired m q) (c : Coded m q) (ns us rs written : List ℕ) (l : Lent m ns us rs written)
    (count : ℕ) (k : Counted rs count) (ws ls ts ms : List ℕ) (r : Room ws ls ts ms) where
  copies : Copies m ns us ls (plan.node_at (copy_to ns us count ws)) count
  copies =
      record {
        fit = record { nodes = nodes-fit m ns us rs written l; narrow = l.narrow };
        few = w.few;
        most = k.most;
        sizes = l.sizes;
        lows = r.lows;
        laid = λ n o. copied_at ns us ws count n k.most o (omega (arith, r.plan));
      }

  filled : Filled m ns (lows_to ns count ls) rs written (fill_rows ns (lows_to ns count ls) rs q written ts) (number_rows q ms)
  unfolding fill_rows
  filled =
      record {
        number = λ i p o h. number-row m q c (tables_in ns rs) l.few ms r.numbers i p o h;
        row =
            λ i p o h.
            let a = row_from m (tables_in ns rs) l.few i p o h in
            let b = row_inside m (tables_in ns rs) l.few i p o h in
            let e = rows_is m q c i (omega arith) in
            let f = thread-waits m q c i o in
            rw (threads-is m q c)
            (row-filled ns (lows_to ns count ls) rs q written (length m.threads) ts r.rows i (row_of m (tables_in ns rs) i p) o
            (omega arith) (omega arith) (row_small m (tables_in ns rs) l.few i p o h));
      }

pub rise-is-the-books : RiseIsTheBooks
unfolding RiseIsTheBooks
rise-is-the-books m q w c ns us rs written l count k ws ls ts ms r b s st wt =
    rw (copy-all ns us count ws k.most, low-all ns count ls k.most)
    (rise-same m q w c ns us rs written l count k ls (plan.node_at (copy_to ns us count ws))
    (copies m q w c ns us rs written l count k ws ls ts ms r)
    (fill_rows ns (lows_to ns count ls) rs q written ts) (number_rows q ms) (filled m q w c ns us rs written l count k ws ls ts ms r) b s
    st wt)
