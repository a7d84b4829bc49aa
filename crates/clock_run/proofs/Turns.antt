-- What each branch and each turn of a loop owes, on plain values. Assumes nothing.
use mathlib.Core.Path.{◌≡◌, refl, sym, ap, ◌∙◌}
use mathlib.Core.Bool.{Bool, true, false}
use mathlib.Core.List.{List}
use Prim.Native.Nat.{ℕ, zero, suc, ◌+◌, ◌-◌, ◌*◌, ◌/◌, ◌≤◌, ◌<◌}
use native.Mathlib.Numerals.{add-one}
use native.Mathlib.Omega.{arith}
use borrow.Author.Tests.{eq-eqb, ne_eqb, lt-ltb, le-ltb}
use lib.ListN.{length, get_or, set, replicate, length-set}
use Rattle.values.specs.declared.Value.{Value}
use Rattle.values.specs.Planes.{value_at, number_of, marks_of}
use Rattle.values.specs.Cells.{cell_of, value_of, cell_at}
use Rattle.events.specs.declared.Inputs.{Inputs}
use Rattle.events.specs.Rows.{whole_rows}
use Rattle.plan.specs.Plan.{Node, Plan}
use Rattle.nextstate.specs.declared.Registers.{Registers}
use Rattle.nextstate.specs.declared.Clocked.{Clocked}
use Rattle.nextstate.specs.CycleRun.{refused}
use Rattle.clock_steps.specs.Settling.{put_cell, settle}
use Rattle.clock_steps.specs.Taking.{Stand, stand, at_most, rise}
use Rattle.clock_run.specs.Running.{values_fit, upper_of, registers_fit_on, inputs_fit_on, blank, put_values, hand_on, numbers_to}
use Rattle.clock_run.specs.Running.{marks_to, answer_on, turn_on, settled_on, clocked_on, cycle_on}
use Rattle.clock_run.specs.declared.Rounds.{Rounds}
use Rattle.clock_run.specs.Traces.{word_of, put_words, row_word, put_both, TurnTraced, turn_traced, high_on, trace_turn, traced}
use Rattle.clock_run.specs.Traces.{taken_on, trace_from, trace_rows, trace_on}
use Rattle.clock_run.specs.Rounds.{last_on, ended_at, row_at, row_fits, row_on, rounds_from, rounds_on}

-- ---- upper_of

pub upper-none : (q : Plan) {n : ℕ} → n ≡ q.inputs → n ≡ 0 → 0 ≡ upper_of q
unfolding upper_of at_most
upper-none q e z = rw (← e, z)

pub upper-some : (q : Plan) {n r : ℕ} → n ≡ q.inputs → r ≡ at_most 15 (n - 1) → r ≡ upper_of q
unfolding upper_of
upper-some q e h = rw (← e) h

-- ---- put_values

module _ (ns us : List ℕ) (first at : ℕ) where
  pub values-none : (cs : List ℕ) → cs ≡ put_values ns us first at 0 cs
  unfolding put_values
  values-none cs = refl

  pub values-more :
      (v : ℕ) (cs : List ℕ) {ds es : List ℕ} {b : Value} {a : ℕ} → ds ≡ put_values ns us first at v cs → b ≡ value_at ns us (at + v) →
      a ≡ cell_of b → es ≡ put_cell (first + v) a ds → es ≡ put_values ns us first at (v + 1) cs
  unfolding put_values
  values-more v cs p b e s = rw (add-one v, ← p, ← b, ← e) s

-- ---- numbers_to, marks_to

module _ (cs : List ℕ) (first : ℕ) where
  pub numbers-none : (ns : List ℕ) → ns ≡ numbers_to cs first 0 ns
  unfolding numbers_to
  numbers-none ns = refl

  pub numbers_more :
      (r : ℕ) (ns : List ℕ) {ms : List ℕ} {b : Value} {a : ℕ} → ms ≡ numbers_to cs first r ns → b ≡ value_of (get_or cs (first + r) 0) →
      a ≡ number_of b → set ms r a ≡ numbers_to cs first (r + 1) ns
  unfolding numbers_to cell_at
  numbers_more r ns p b e = rw (add-one r, ← p, ← b, ← e)

  pub marks-none : (us : List ℕ) → us ≡ marks_to cs first 0 us
  unfolding marks_to
  marks-none us = refl

  pub marks-more :
      (r : ℕ) (us : List ℕ) {ms : List ℕ} {b : Value} {a : ℕ} → ms ≡ marks_to cs first r us → b ≡ value_of (get_or cs (first + r) 0) →
      a ≡ marks_of b → set ms r a ≡ marks_to cs first (r + 1) us
  unfolding marks_to cell_at
  marks-more r us p b e = rw (add-one r, ← p, ← b, ← e)

-- ---- registers_fit_on

pub values-judged :
    (q : Plan) (g : Registers) {i n : ℕ} {x t : Bool} → i ≡ q.inputs → n ≡ q.registers → x
    ≡ values_fit q i g.value g.unknown 0 n → x ≡ t →
    values_fit q q.inputs g.value g.unknown 0 q.registers ≡ t
values-judged q g {n = n} a b e h =
    sym
    (e
    ∙ ap (λ (k : ℕ). values_fit q k g.value g.unknown 0 n) a
    ∙ ap (values_fit q q.inputs g.value g.unknown 0) b)
    ∙ h

-- ---- cycle_on

module _ (q : Plan) (f : ℕ → Node) (ts numbers : List ℕ) where
  pub turn_is : {c3 c4 p : List ℕ} (cs ps : List ℕ) → c3 ≡ settle q cs → stand c4 p ≡ rise q f ts numbers (stand c3 ps) →
      stand c4 p ≡ turn_on q f ts numbers (stand cs ps)
  unfolding turn_on
  turn_is cs ps e h = h ∙ ap (λ (x : List ℕ). rise q f ts numbers (stand x ps)) e

  settled_is : {c5 : List ℕ} (c4 p : List ℕ) → c5 ≡ settle q c4 → stand c5 p ≡ settled_on q f ts numbers (stand c4 p)
  unfolding settled_on
  settled_is c4 p e = ap (λ (x : List ℕ). stand x p) e

  pub cycled :
      (g : Registers) (a : Inputs) {n : ℕ} {c1 c2 c3 c4 c5 p : List ℕ} {r : Clocked} → registers_fit_on q g ≡ true → inputs_fit_on q a ≡ true →
      n ≡ upper_of q → c1 ≡ hand_on q g (replicate 4176 blank) → c2 ≡ put_values a.value a.unknown 1 0 n c1 → c3 ≡ settle q c2 →
      stand c4 p ≡ rise q f ts numbers (stand c3 g.places) → c5 ≡ settle q c4 → r ≡ answer_on q g (stand c5 p) →
      r ≡ cycle_on q f ts numbers g a
  unfolding cycle_on clocked_on
  cycled g a {n} {c1} {c2} {c4 = c4} {p = p} t u e h1 h2 h3 h4 h5 h6 =
      let x = h2 ∙ ap (λ (m : ℕ). put_values a.value a.unknown 1 0 m c1) e ∙ ap (put_values a.value a.unknown 1 0 (upper_of q)) h1 in
      let y = turn_is c2 g.places h3 h4 ∙ ap (λ (cs : List ℕ). turn_on q f ts numbers (stand cs g.places)) x in
      rw (t, u) (h6 ∙ ap (answer_on q g) (settled_is c4 p h5 ∙ ap (settled_on q f ts numbers) y))

-- ---- last_on

pub last_none : (q : Plan) (g : Registers) (r : ℕ) (b : Stand) {c : Clocked} → r ≡ 0 → c ≡ refused 0 g → c ≡ last_on q g r b
unfolding last_on
last_none q g r b e h = rw (eq-eqb r 0 e) h

pub last_some :
    (q : Plan) (g : Registers) (r : ℕ) (cs ps : List ℕ) {ds : List ℕ} {c : Clocked} → (r ≡ 0 → ⊥) → ds ≡ settle q cs →
    c ≡ answer_on q g (stand ds ps) → c ≡ last_on q g r (stand cs ps)
unfolding last_on
last_some q g r cs ps d e h = rw (ne_eqb r 0 d) (h ∙ ap (λ (x : List ℕ). answer_on q g (stand x ps)) e)

-- ---- rounds_from: the rows that are left end where all of them do

module _ (q : Plan) (f : ℕ → Node) (ts numbers : List ℕ) (g : Registers) (ns xs : List ℕ) where
  abbrev pub first : Stand
  first = stand (hand_on q g (replicate 4176 blank)) g.places

  abbrev pub Rest : ℕ → ℕ → Stand → Type 0
  Rest n r b = rounds_from q f ts numbers g ns xs (n - r) r b ≡ rounds_from q f ts numbers g ns xs n 0 first

  pub rest-first : (n : ℕ) {cs : List ℕ} → cs ≡ hand_on q g (replicate 4176 blank) → Rest n 0 (stand cs g.places)
  rest-first n e =
      let k : n - 0 ≡ n = omega arith in
      rw (k, e)

  module _ (n r : ℕ) (b : Stand) (rest : Rest n r b) where
    pub rest_end : (c : Clocked) (x : Rounds) → n ≤ r → c ≡ last_on q g r b → x ≡ ended_at r 0 c → n ≡ length ns / 16 →
        x ≡ rounds_on q f ts numbers g ns xs
    unfolding rounds_on rounds_from
    rest_end c x h e k l =
        let z : n - r ≡ 0 = omega arith in
        k ∙ ap (ended_at r 0) e ∙ (rw z at rest) ∙ ap (λ (j : ℕ). rounds_from q f ts numbers g ns xs j 0 first) l

    module _ (h : r < n) (s : n - r ≡ suc (n - (r + 1))) {u : ℕ} (up : u ≡ upper_of q) where
      pub rest-off : (c : Clocked) (x : Rounds) → values_fit q 1 ns xs (row_at r) u ≡ false → c ≡ last_on q g r b → x ≡ ended_at r 25 c →
          n ≡ length ns / 16 → x ≡ rounds_on q f ts numbers g ns xs
      unfolding rounds_on rounds_from row_fits
      rest-off c x t e k l =
          k
          ∙ ap (ended_at r 25) e
          ∙ (rw (s, rw up at t) at rest)
          ∙ ap (λ (j : ℕ). rounds_from q f ts numbers g ns xs j 0 first) l

      pub rest-on : {ds es os : List ℕ} → values_fit q 1 ns xs (row_at r) u ≡ true → ds ≡ put_values ns xs 1 (row_at r) u b.cells →
          stand es os ≡ turn_on q f ts numbers (stand ds b.places) → Rest n (r + 1) (stand es os)
      unfolding rounds_from row_fits row_on
      rest-on t d v =
          let a =
          v
          ∙ ap (λ (x : List ℕ). turn_on q f ts numbers (stand x b.places))
          (d ∙ ap (λ (j : ℕ). put_values ns xs 1 (row_at r) j b.cells) up) in
          ap (rounds_from q f ts numbers g ns xs (n - (r + 1)) (r + 1)) a ∙ (rw (s, rw up at t) at rest)

-- ---- put_words

module _ (word : ℕ → ℕ) (at : ℕ) where
  pub words-none : (ws : List ℕ) → ws ≡ put_words word at 0 ws
  unfolding put_words
  words-none ws = refl

  pub words_more : (k : ℕ) (ws : List ℕ) {us : List ℕ} {a : ℕ} → us ≡ put_words word at k ws → a ≡ word k →
      set us (at + k) a ≡ put_words word at (k + 1) ws
  unfolding put_words
  words_more k ws p e = rw (add-one k, ← p, ← e)

  pub words-length : (n : ℕ) (ws : List ℕ) → length (put_words word at n ws) ≡ length ws
  unfolding put_words
  words-length zero ws = refl
  words-length (suc n) ws = length-set (put_words word at n ws) (at + n) _ ∙ words-length n ws

-- ---- word_of, by the kinds of words

module _ (end clock : ℕ) (cs ps : List ℕ) (k : ℕ) where
  pub word-clock : k ≡ 0 → clock ≡ word_of end clock cs ps k
  unfolding word_of
  word-clock e = rw (eq-eqb k 0 e)

  module _ (d : k ≡ 0 → ⊥) where
    pub word-place : 80 ≤ k → {a : ℕ} → a ≡ get_or ps (k - 80) 0 → a ≡ word_of end clock cs ps k
    unfolding word_of
    word-place l e = rw (ne_eqb k 0 d, le-ltb k 80 l) e

    module _ (l : k < 80) where
      pub word_cell : k < end → {a : Value} {b : ℕ} → a ≡ value_of (get_or cs k 0) → b ≡ cell_of a → b ≡ word_of end clock cs ps k
      unfolding word_of cell_at
      word_cell u e h = rw (ne_eqb k 0 d, lt-ltb k 80 l, lt-ltb k end u) (h ∙ ap cell_of e)

      pub word-past : end ≤ k → blank ≡ word_of end clock cs ps k
      unfolding word_of
      word-past u = rw (ne_eqb k 0 d, lt-ltb k 80 l, le-ltb k end u)

-- ---- trace_turn

module _ (q : Plan) (f : ℕ → Node) (ts numbers : List ℕ) (at : ℕ) (cs ps ws : List ℕ) where
  pub turn-traced :
      {i r w : ℕ} {ds us es os hs vs : List ℕ} → i ≡ q.inputs → r ≡ q.registers → w ≡ q.wires → ds ≡ settle q cs →
      us ≡ put_words (word_of (i + r + w) 0 ds ps) at 88 ws → stand es os ≡ rise q f ts numbers (stand ds ps) → hs ≡ settle q es →
      vs ≡ put_words (word_of (i + r + w) 1 hs os) (at + 88) 88 us →
      turn_traced (stand hs os) vs ≡ trace_turn q f ts numbers at (stand cs ps) ws
  unfolding trace_turn high_on settled_on put_both row_word
  turn-traced {i} {r} {w} {ds} {us} {es} {os} {hs} {vs} a b c d e u h v =
      let low : Stand = stand (settle q cs) ps in
      let n = q.inputs + q.registers + q.wires in
      let word : ℕ → Stand → ℕ → ℕ = λ clock b. word_of n clock b.cells b.places in
      let put : Stand → List ℕ = λ b. put_words (word 1 b) (at + 88) 88 (put_words (word 0 low) at 88 ws) in
      let high : stand hs os ≡ stand (settle q (rise q f ts numbers low).cells) (rise q f ts numbers low).places =
      ap (λ (l : List ℕ). stand l os) h
      ∙ ap (λ (b : Stand). stand (settle q b.cells) b.places) (u ∙ ap (λ (l : List ℕ). rise q f ts numbers (stand l ps)) d) in
      let one : us ≡ put_words (word 0 low) at 88 ws = e ∙ rw (a, b, c, d) in
      let two : vs ≡ put (stand hs os) = v ∙ rw (a, b, c, one) in
      ap (turn_traced (stand hs os)) two ∙ ap (λ (b : Stand). turn_traced b (put b)) high

  pub turn-length : {b : Stand} {vs : List ℕ} → turn_traced b vs ≡ trace_turn q f ts numbers at (stand cs ps) ws → length vs ≡ length ws
  unfolding trace_turn put_both
  turn-length e = ap (λ (t : TurnTraced). length t.words) e ∙ words-length _ (at + 88) 88 _ ∙ words-length _ at 88 ws

-- ---- taken_on

module _ (q : Plan) (g : Registers) (r : ℕ) (b : Stand) where
  pub taken_none : r ≡ 0 → {c : Clocked} → c ≡ refused 0 g → c ≡ taken_on q g r b
  unfolding taken_on
  taken_none e h = rw (eq-eqb r 0 e) h

  pub taken-some : (r ≡ 0 → ⊥) → {c : Clocked} → c ≡ answer_on q g b → c ≡ taken_on q g r b
  unfolding taken_on
  taken-some d h = rw (ne_eqb r 0 d) h

-- ---- trace_from: the rows that are left end where all of them do

module _ (q : Plan) (f : ℕ → Node) (ts numbers : List ℕ) (g : Registers) (ns xs ws : List ℕ) where
  abbrev start : Stand
  start = stand (hand_on q g (replicate 4176 blank)) g.places

  abbrev pub Left : ℕ → ℕ → Stand → List ℕ → Type 0
  Left n r b us = trace_from q f ts numbers g ns xs (n - r) r b us ≡ trace_from q f ts numbers g ns xs n 0 start ws

  pub left-first : (n : ℕ) {cs : List ℕ} → cs ≡ hand_on q g (replicate 4176 blank) → Left n 0 (stand cs g.places) ws
  left-first n e =
      let k : n - 0 ≡ n = omega arith in
      rw (k, e)

  module _ (n r : ℕ) (b : Stand) (us : List ℕ) (left : Left n r b us) where
    pub left_end : {c : Clocked} (x : Rounds) → n ≤ r → c ≡ taken_on q g r b → x ≡ ended_at r 0 c → n ≡ length ns / 16 →
        traced x us ≡ trace_rows q f ts numbers g ns xs ws
    unfolding trace_rows trace_from
    left_end x h e k l =
        let z : n - r ≡ 0 = omega arith in
        ap (λ (y : Rounds). traced y us) (k ∙ ap (ended_at r 0) e)
        ∙ (rw z at left)
        ∙ ap (λ (j : ℕ). trace_from q f ts numbers g ns xs j 0 start ws) l

    module _ (h : r < n) (s : n - r ≡ suc (n - (r + 1))) {u : ℕ} (up : u ≡ upper_of q) where
      pub left-off : {c : Clocked} (x : Rounds) → values_fit q 1 ns xs (row_at r) u ≡ false → c ≡ taken_on q g r b → x ≡ ended_at r 25 c →
          n ≡ length ns / 16 → traced x us ≡ trace_rows q f ts numbers g ns xs ws
      unfolding trace_rows trace_from row_fits
      left-off x t e k l =
          ap (λ (y : Rounds). traced y us) (k ∙ ap (ended_at r 25) e)
          ∙ (rw (s, rw up at t) at left)
          ∙ ap (λ (j : ℕ). trace_from q f ts numbers g ns xs j 0 start ws) l

      pub left-on :
          {ds vs : List ℕ} {o : Stand} → values_fit q 1 ns xs (row_at r) u ≡ true → ds ≡ put_values ns xs 1 (row_at r) u b.cells →
          turn_traced o vs ≡ trace_turn q f ts numbers (176 * r) (stand ds b.places) us → Left n (r + 1) o vs
      unfolding trace_from row_fits
      left-on t e v =
          let x =
          v
          ∙ ap (λ (l : List ℕ). trace_turn q f ts numbers (176 * r) (stand l b.places) us)
          (e ∙ ap (λ (j : ℕ). put_values ns xs 1 (row_at r) j b.cells) up) in
          ap (λ (z : TurnTraced). trace_from q f ts numbers g ns xs (n - (r + 1)) (r + 1) z.stood z.words) x
          ∙ (rw (s, rw up at t) at left)

-- ---- trace_on

module _ (q : Plan) (f : ℕ → Node) (ts numbers : List ℕ) (g : Registers) (ns xs ws : List ℕ) where
  abbrev Trace : Rounds → List ℕ → Type 0
  Trace x us = traced x us ≡ trace_on q f ts numbers g ns xs ws

  pub trace-23 : {c : Clocked} {x : Rounds} → length ws / 88 < 2 * (length ns / 16) → c ≡ refused 23 g → x ≡ ended_at 0 23 c → Trace x ws
  unfolding trace_on
  trace-23 l e h = rw (lt-ltb (length ws / 88) (2 * (length ns / 16)) l) (ap (λ (y : Rounds). traced y ws) (h ∙ ap (ended_at 0 23) e))

  module _ (l : 2 * (length ns / 16) ≤ length ws / 88) where
    pub trace-31 : {c : Clocked} {x : Rounds} → registers_fit_on q g ≡ false → c ≡ refused 31 g → x ≡ ended_at 0 31 c → Trace x ws
    unfolding trace_on
    trace-31 t e h =
        rw (le-ltb (length ws / 88) (2 * (length ns / 16)) l, t) (ap (λ (y : Rounds). traced y ws) (h ∙ ap (ended_at 0 31) e))

    pub trace-25 : {c : Clocked} {x : Rounds} → registers_fit_on q g ≡ true → whole_rows ns xs ≡ false → c ≡ refused 25 g → x
        ≡ ended_at 0 25 c → Trace x ws
    unfolding trace_on
    trace-25 t u e h =
        rw (le-ltb (length ws / 88) (2 * (length ns / 16)) l, t, u) (ap (λ (y : Rounds). traced y ws) (h ∙ ap (ended_at 0 25) e))

    pub trace-all :
        {x : Rounds} {us : List ℕ} → registers_fit_on q g ≡ true → whole_rows ns xs ≡ true →
        traced x us ≡ trace_rows q f ts numbers g ns xs ws → Trace x us
    unfolding trace_on
    trace-all t u e = rw (le-ltb (length ws / 88) (2 * (length ns / 16)) l, t, u) e
