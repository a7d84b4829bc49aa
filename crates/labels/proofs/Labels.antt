-- The definitions from what the calls answer, row by row. Assumes nothing.
use mathlib.Core.Path.{◌≡◌, sym}
use mathlib.Core.Bool.{Bool, true, false}
use mathlib.Core.List.{List}
use Prim.Native.Nat.{ℕ, zero, suc, ◌+◌, ◌-◌, ◌<◌, ◌≤◌}
use native.Mathlib.Omega.{arith}
use borrow.Author.Tests.{eq-eqb, ne_eqb, lt-ltb, le-ltb}
use lib.ListN.{length}
use lib.Dec.{ltb}
use Rattle.values.specs.Values.{pick}
use Rattle.naming.specs.Naming.{renamed}
use Rattle.stimulus.specs.declared.Class.TheVariants.{Blank, Word, Name}
use Rattle.stimulus.specs.declared.NameLine.{NameLine}
use Rattle.stimulus.specs.Counting.{counted, first_from}
use Rattle.stimulus.specs.Words.{run_end, ended}
use Rattle.stimulus.specs.Lines.{word_at}
use Rattle.stimulus.specs.Waiting.{is_line_end, line_end}
use Rattle.stimulus.specs.Names.{name_line, name_error, name_after, variable_of, name_of as line_names}
use Rattle.stimulus.proofs.Runs.{run-after, run_inside}
use Rattle.labels.specs.declared.Mark.{Mark}
use Rattle.labels.specs.Labels.{is_other, is_taken, mark, right, labelled, named, noted, line_taken, lines_from}

-- ---- a name stands within its line

name_in :
    (t u : Bool) (l p from end a b c d e : ℕ) → p ≤ l → from ≤ end → end ≤ l →
    let n = pick t (name_line 1 a 0 p p) (pick u (name_line b c d from end) (name_line 2 e 0 from end)) in
    (n.from ≤ n.to) × (n.to ≤ l)
name_in true u l p from end a b c d e h i j = (omega arith, h)
name_in false true l p from end a b c d e h i j = (i, j)
name_in false false l p from end a b c d e h i j = (i, j)

pub name-inside :
    (line : List ℕ) (inputs registers wires : ℕ) →
    let n = line_names line inputs registers wires in
    (n.from ≤ n.to) × (n.to ≤ length line)
unfolding line_names name_after
name-inside line inputs registers wires =
    let p = run_end Blank line 0 in
    let to = run_end Word line p in
    let from = run_end Blank line to in
    let end = run_end Name line from in
    let h : p ≤ length line = run_inside Blank line 0 (omega arith) in
    let i : to ≤ length line = run_inside Word line p h in
    let j : from ≤ length line = run_inside Blank line to i in
    let v = variable_of (word_at line p to) inputs registers wires in
    name_in (ended line p) (ltb v 256) (length line) p from end (p + 1) (name_error line from end) (from + 1) v (p + 1)
    h (run-after Name line from) (run_inside Name line from j)

-- ---- a line ends within its file

pub first-inside : (f : ℕ → Bool) (n k : ℕ) → (k ≤ first_from f n k) × (first_from f n k ≤ k + n)
unfolding first_from
first-inside f zero k = (omega arith, omega arith)
first-inside f (suc n) k = by (f k) (first-inside f n (k + 1))
  where
    by : (t : Bool) → (k + 1 ≤ first_from f n (k + 1)) × (first_from f n (k + 1) ≤ k + 1 + n) →
        (k ≤ pick t k (first_from f n (k + 1))) × (pick t k (first_from f n (k + 1)) ≤ k + suc n)
    by true x = (omega arith, omega arith)
    by false x = (omega arith, omega arith)

pub line-inside : (bytes : List ℕ) (from to : ℕ) → from < to → (from ≤ line_end bytes from to) × (line_end bytes from to ≤ to)
unfolding line_end
line-inside bytes from to h =
    let x = first-inside (is_line_end bytes) (to - from) from in
    (x.0, omega (arith, x.1))

-- ---- is_taken

module _ (names : List ℕ) (v : ℕ) (name : List ℕ) where
  pub taken-found : (u : ℕ) → u < 80 → first_from (is_other names v name) 80 0 ≡ u → true ≡ is_taken names v name
  unfolding is_taken
  taken-found u l e = rw e (sym (lt-ltb u 80 l))

  pub taken_not : (u : ℕ) → 80 ≤ u → first_from (is_other names v name) 80 0 ≡ u → false ≡ is_taken names v name
  unfolding is_taken
  taken_not u l e = rw e (sym (le-ltb u 80 l))

  -- ---- named

  module _ (number column : ℕ) (t : Bool) (e : t ≡ is_taken names v name) (m : Mark) where
    pub named-taken : t ≡ true → m ≡ mark 4 number column → labelled names m ≡ named names v name number column
    unfolding named
    named-taken h k = rw (← e, h, k)

    pub named-right :
        (after : List ℕ) → t ≡ false → after ≡ renamed names v name → m ≡ right → labelled after m ≡ named names v name number column
    unfolding named
    named-right after h i k = rw (← e, h, i, k)

-- ---- line_taken

module _ (inputs registers wires : ℕ) (line : List ℕ) (number : ℕ) (names : List ℕ) (p : NameLine)
    (e : p ≡ line_names line inputs registers wires)
  where
    pub line-blank : p.error ≡ 1 → (m : Mark) → m ≡ right → labelled names m ≡ line_taken inputs registers wires line number names
    unfolding line_taken noted
    line-blank h m k = rw (← e, eq-eqb p.error 1 h, k)

    module _ (some : p.error ≡ 1 → ⊥) where
      pub line-wrong :
          (p.error ≡ 0 → ⊥) → (m : Mark) → m ≡ mark p.error number p.column →
          labelled names m ≡ line_taken inputs registers wires line number names
      unfolding line_taken noted
      line-wrong h m k = rw (← e, ne_eqb p.error 1 some, ne_eqb p.error 0 h, k)

      pub line-named :
          p.error ≡ 0 →
          named names p.variable (word_at line p.from p.to) number p.column
          ≡ line_taken inputs registers wires line number names
      unfolding line_taken noted
      line-named h = rw (← e, ne_eqb p.error 1 some, eq-eqb p.error 0 h)

-- ---- lines_from

module _ (inputs registers wires : ℕ) (bytes : List ℕ) (n from number : ℕ) (names : List ℕ) where
  pub lines_none : n ≤ 0 → labelled names right ≡ lines_from inputs registers wires bytes n from number names
  unfolding lines_from
  lines_none l = let k : n ≡ 0 = omega arith in rw k

  module _ (l : 0 < n) where
    pub lines-over : length bytes ≤ from → labelled names right ≡ lines_from inputs registers wires bytes n from number names
    unfolding lines_from
    lines-over h = let k : n ≡ suc (n - 1) = omega arith in rw (k, le-ltb from (length bytes) h)

    module _ (h : from < length bytes) (end : ℕ) (q : end ≡ line_end bytes from (length bytes)) (after : List ℕ) (m : Mark)
        (e : labelled after m ≡ line_taken inputs registers wires (word_at bytes from end) number names)
      where
        pub lines-stopped : (m.error ≡ 0 → ⊥) → labelled after m ≡ lines_from inputs registers wires bytes n from number names
        unfolding lines_from
        lines-stopped d =
            let k : n ≡ suc (n - 1) = omega arith in
            rw (k, lt-ltb from (length bytes) h, ← q, ← e, ne_eqb m.error 0 d)

        pub lines_more :
            m.error ≡ 0 → (i f t : ℕ) → n ≡ suc i → f ≡ counted end → t ≡ counted number →
            lines_from inputs registers wires bytes n from number names ≡ lines_from inputs registers wires bytes i f t after
        unfolding lines_from
        lines_more z i f t k u w = rw (k, lt-ltb from (length bytes) h, ← q, ← e, eq-eqb m.error 0 z, ← u, ← w)
