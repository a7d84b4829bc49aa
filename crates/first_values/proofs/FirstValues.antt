-- The definitions from what the calls answer, row by row. Assumes nothing.
use Rattle.std.proofs.Common.{◌≡◌, ℕ, suc, ◌+◌, ◌-◌, ◌%◌, ◌^◌, ◌<◌, ◌≤◌, Bool, true, false, List, length, get_or, arith, le-ltb, lt-ltb, eq-eqb, ne_eqb}
use Rattle.stimulus.specs.declared.Line.{Line}
use Rattle.stimulus.specs.Counting.{counted}
use Rattle.stimulus.specs.Lines.{word_at}
use Rattle.stimulus.specs.Waiting.{line_end}
use Rattle.labels.proofs.Labels.{first-inside}
use Rattle.state.specs.declared.State.{State}
use Rattle.first_values.specs.declared.Marked.{Marked}
use Rattle.first_values.specs.FirstValues.{ends, run_end, register_of, value_in, marked, with_value, valued}
use Rattle.first_values.specs.FirstValues.{word_taken, line_taken, lines_from}

-- ---- a run ends within its line

pub run_inside : (blank : Bool) (line : List ℕ) (from : ℕ) → from ≤ length line
    → (from ≤ run_end blank line from) × (run_end blank line from ≤ length line)
unfolding run_end
run_inside blank line from h =
    let x = first-inside (ends blank line) (length line - from) from in
    (x.0, omega (arith, x.1))

-- ---- valued

module _ (st : State) (v number to : ℕ) (p : Line) where
  pub valued-wrong : (p.error ≡ 0 → ⊥) → (k : ℕ) → k ≡ (to + p.column) % 2 ^ 64 → (m : Marked) → m ≡ marked p.error number k st →
      m ≡ valued st v number to p
  unfolding valued
  valued-wrong h k e m f = rw (ne_eqb p.error 0 h, ← e) f

  pub valued-right : p.error ≡ 0 → (s : State) → s ≡ with_value st v (get_or p.value 1 0) (get_or p.unknown 1 0) → (m : Marked) →
      m ≡ marked 0 0 0 s → m ≡ valued st v number to p
  unfolding valued
  valued-right h s e m f = rw (eq-eqb p.error 0 h, ← e) f

module _ (inputs registers : ℕ) (widths names : List ℕ) where
  -- ---- word_taken

  module _ (line : List ℕ) (number from to : ℕ) (st : State) {a b : ℕ} (i : a ≡ inputs) (j : b ≡ registers) (v : ℕ)
      (e : v ≡ register_of names a (a + b) (word_at line from to))
    where
      pub word_none : a + b ≤ v → (k : ℕ) → k ≡ counted from → (m : Marked) → m ≡ marked 8 number k st →
          m ≡ word_taken inputs registers widths names line number from to st
      unfolding word_taken
      word_none h k f m g = rw (← i, ← j, ← e, le-ltb v (a + b) h, ← f) g

      pub word-valued : v < a + b → (w : ℕ) → w ≡ get_or widths v 0 → (p : Line) → p ≡ value_in w (word_at line to (length line)) →
          (m : Marked) → m ≡ valued st v number to p → m ≡ word_taken inputs registers widths names line number from to st
      unfolding word_taken
      word-valued h w f p g m o = rw (← i, ← j, ← e, lt-ltb v (a + b) h, ← f, ← g) o

  -- ---- line_taken

  module _ (line : List ℕ) (number : ℕ) (st : State) (p : Line) (e : p ≡ value_in 32 line) where
    pub line-blank : p.error ≡ 1 → marked 0 0 0 st ≡ line_taken inputs registers widths names line number st
    unfolding line_taken
    line-blank h = rw (← e, eq-eqb p.error 1 h)

    pub line_word : (p.error ≡ 1 → ⊥) → (from to : ℕ) → from ≡ run_end true line 0 → to ≡ run_end false line from →
        word_taken inputs registers widths names line number from to st ≡ line_taken inputs registers widths names line number st
    unfolding line_taken
    line_word h from to f g = rw (← e, ne_eqb p.error 1 h, ← f, ← g)

  -- ---- lines_from

  module _ (bytes : List ℕ) (n from number : ℕ) (st : State) where
    pub lines_none : n ≤ 0 → marked 0 0 0 st ≡ lines_from inputs registers widths names bytes n from number st
    unfolding lines_from
    lines_none l = let k : n ≡ 0 = omega arith in rw k

    module _ (l : 0 < n) where
      pub lines-over : length bytes ≤ from → marked 0 0 0 st ≡ lines_from inputs registers widths names bytes n from number st
      unfolding lines_from
      lines-over h = let k : n ≡ suc (n - 1) = omega arith in rw (k, le-ltb from (length bytes) h)

      module _ (h : from < length bytes) (end : ℕ) (q : end ≡ line_end bytes from (length bytes)) (m : Marked)
          (e : m ≡ line_taken inputs registers widths names (word_at bytes from end) number st)
        where
          pub lines-stopped : (m.error ≡ 0 → ⊥) → m ≡ lines_from inputs registers widths names bytes n from number st
          unfolding lines_from
          lines-stopped d =
              let k : n ≡ suc (n - 1) = omega arith in
              rw (k, lt-ltb from (length bytes) h, ← q, ← e, ne_eqb m.error 0 d)

          pub lines_more :
              m.error ≡ 0 → (i f t : ℕ) → n ≡ suc i → f ≡ counted end → t ≡ counted number →
              lines_from inputs registers widths names bytes n from number st
              ≡ lines_from inputs registers widths names bytes i f t m.state
          unfolding lines_from
          lines_more z i f t k u w = rw (k, lt-ltb from (length bytes) h, ← q, ← e, eq-eqb m.error 0 z, ← u, ← w)
