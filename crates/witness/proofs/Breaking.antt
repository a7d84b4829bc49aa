-- The witness of a module that extraction refuses breaks the rule whose number it has (`breaks`), and the number is extraction's
-- (`number-law`). Assumes nothing.
use mathlib.Core.Path.{◌≡◌, refl, sym, ap, ◌∙◌}
use mathlib.Core.Bool.{Bool, true, false, not, ◌&&◌, ◌||◌}
use mathlib.Core.Logic.{◌≢◌}
use mathlib.Core.List.{List}
use Prim.Native.Nat.{ℕ, suc, ◌+◌, ◌≤◌, ◌<◌}
use native.Mathlib.Omega.{arith}
use borrow.Author.Tests.{eqb-true, eqb-false, ltb-true, ltb-false, leb-true, le-ltb, ne_eqb, not-true}
use lib.Dec.{ltb, leb, eqb}
use lib.ListN.{length, get_or}
use Rattle.values.specs.Values.{pick}
use Rattle.sheet.specs.Reading.{Res, ok, no, ◌>>=◌, ◌>>◌, check}
use Rattle.sheet.specs.Expression.{Expr}
use Rattle.sheet.specs.Statement.{forever}
use Rattle.sheet.specs.Module.{Module, read}
use Rattle.pseudocode.specs.Translation.{Instr, go}
use Rattle.events.specs.Cycle.{code_of, instr_at, is_wait, wire_variable}
use Rattle.events.proofs.Cycle.{absurd-bool, and_left, and_right, any-below, none_below}
use Rattle.nextstate.specs.Rules.{reads_at, any_instr, plain_writes, defers, writes, thread_reads, wire_reads, some_thread, some_wire, some_register, read_elsewhere}
use Rattle.nextstate.specs.Rules.{other_wait_at, starts_waiting, body_of, loops_wait, one, waits_before, waits_below}
use Rattle.nextstate.specs.Rules.{two_writers, both_ways, plainly_shared, other_wait, starts_running, runs_away, clock_read, reads_upward, many_waits, rule}
use Rattle.nextstate.specs.Extraction.{Tables, walk_from, walks_below, threads_below, extracted, expressions, filled, right_lengths, extract}
use Rattle.rules.proofs.Tests.{any-instr}
use Rattle.witness.specs.declared.Witness.{Witness}
use Rattle.witness.specs.Witness.{lowest, bare, refuses, first_register, first_thread, first_wire, first_place}
use Rattle.witness.specs.Witness.{double_written, written_both_ways, shared_register, odd_wait, running_thread, runaway_thread, clock_reader, upward_wire, surplus_wait, overflowing_walk}
use Rattle.witness.specs.Witness.{higher_witness, witness, witness_in, witnessed}
use Rattle.witness.specs.Breaks.{Breaks, written_twice, written-both-ways, read-by-thread, read-by-wire, other-wait, starts-running, runs-away}
use Rattle.witness.specs.Breaks.{clock-in-thread, clock-in-wire, reads-upward, waits-over, nodes-over, number_in}
use Rattle.witness.proofs.Lowest.{lowest-holds, lowest-least, turns}
use Rattle.witness.proofs.Refusals.{from-full, threads-full, refused_full, accepted}

-- ---- Bool

or-other : (s t : Bool) → (s || t) ≡ true → s ≡ false → t ≡ true
or-other true t h e = absurd-bool refl e
or-other false t h e = h

module _ (m : Module Expr) where
  -- ---- the lowest of which a test holds, where it holds of some

  some-register : (f : ℕ → Bool) → some_register m f ≡ true
      → let r = first_register m f in (r < m.scope.registers) × (f (m.scope.inputs + r) ≡ true)
  unfolding some_register
  some-register f h = lowest-holds (λ r. f (m.scope.inputs + r)) m.scope.registers h

  some-thread : (f : ℕ → Bool) → some_thread m f ≡ true → let i = first_thread m f in (i < length m.threads) × (f i ≡ true)
  unfolding some_thread
  some-thread f h = lowest-holds f (length m.threads) h

  some-wire : (f : ℕ → Bool) → some_wire m f ≡ true → let k = first_wire m f in (k < length m.wires) × (f k ≡ true)
  unfolding some_wire
  some-wire f h = lowest-holds f (length m.wires) h

  some-place : (i : ℕ) (f : Instr Expr → Bool) → any_instr f (code_of m i) ≡ true
      → let p = first_place m i f in (p < length (code_of m i)) × (f (instr_at (code_of m i) p) ≡ true)
  unfolding instr_at
  some-place i f h =
      lowest-holds (λ p. f (get_or (code_of m i) p (go 0))) (length (code_of m i)) (sym (any-instr f (code_of m i)) ∙ h)

  thread-some : (f : ℕ → Bool) (i : ℕ) → i < length m.threads → f i ≡ true → some_thread m f ≡ true
  unfolding some_thread
  thread-some f i l h = any-below f (length m.threads) i l h

  -- ---- 12

  record Two (v i j : ℕ) : Type 0 where
    rising : i < j
    inside : j < length m.threads
    first : writes m i v ≡ true
    second : writes m j v ≡ true

  -- The lowest writer, and the lowest other.
  two : (v : ℕ) → some_thread m (λ i. some_thread m (λ j. not (eqb i j) && (writes m i v && writes m j v))) ≡ true
      → let i = first_thread m (λ i. writes m i v) in Two v i (first_thread m (λ j. not (eqb i j) && writes m j v))
  two v h =
      let a = some-thread (λ i. some_thread m (λ j. not (eqb i j) && (writes m i v && writes m j v))) h in
      let x = first_thread m (λ i. some_thread m (λ j. not (eqb i j) && (writes m i v && writes m j v))) in
      let b = some-thread (λ j. not (eqb x j) && (writes m x v && writes m j v)) a.1 in
      let y = first_thread m (λ j. not (eqb x j) && (writes m x v && writes m j v)) in
      let apart = eqb-false x y (not-true (eqb x y) (and_left (not (eqb x y)) (writes m x v && writes m y v) b.1)) in
      let w = and_right (not (eqb x y)) (writes m x v && writes m y v) b.1 in
      let wx = and_left (writes m x v) (writes m y v) w in
      let wy = and_right (writes m x v) (writes m y v) w in
      let c = some-thread (λ i. writes m i v) (thread-some (λ i. writes m i v) x a.0 wx) in
      let i = first_thread m (λ i. writes m i v) in
      let d = some-thread (λ j. not (eqb i j) && writes m j v) (other i x y a.0 b.0 apart wx wy (eqb i x) refl) in
      let j = first_thread m (λ j. not (eqb i j) && writes m j v) in
      let wj = and_right (not (eqb i j)) (writes m j v) d.1 in
      let ne = eqb-false i j (not-true (eqb i j) (and_left (not (eqb i j)) (writes m j v) d.1)) in
      record { rising = after i j refl wj ne (ltb j i) refl; inside = d.0; first = c.1; second = wj }
    where
      other : (i x y : ℕ) → x < length m.threads → y < length m.threads → x ≢ y → writes m x v ≡ true → writes m y v ≡ true
          → (t : Bool) → eqb i x ≡ t → some_thread m (λ j. not (eqb i j) && writes m j v) ≡ true
      other i x y lx ly ne wx wy true e =
          let q = eqb-true i x e in
          thread-some (λ j. not (eqb i j) && writes m j v) y ly (rw (ne_eqb i y (λ z. ne (sym q ∙ z)), wy))
      other i x y lx ly ne wx wy false e =
          thread-some (λ j. not (eqb i j) && writes m j v) x lx (rw (e, wx))

      after : (i j : ℕ) → first_thread m (λ i. writes m i v) ≡ i → writes m j v ≡ true → i ≢ j → (t : Bool) → ltb j i ≡ t → i < j
      after i j e w ne true h =
          absurd-bool w
          (none_below (λ i. writes m i v) (first_thread m (λ i. writes m i v)) (lowest-least (λ i. writes m i v) (length m.threads)) j
          (omega (arith, ltb-true j i h)))
      after i j e w ne false h = let l = ltb-false j i h in apart-less i j l ne
        where
          apart-less : (i j : ℕ) → i ≤ j → i ≢ j → i < j
          apart-less i j l ne = by (ltb i j) refl
            where
              by : (t : Bool) → ltb i j ≡ t → i < j
              by true e = ltb-true i j e
              by false e = absurd (ne (omega (arith, ltb-false i j e)))

  twice : two_writers m ≡ true → Breaks m (double_written m)
  unfolding two_writers double_written
  twice h =
      let a = some-register (λ v. some_thread m (λ i. some_thread m (λ j. not (eqb i j) && (writes m i v && writes m j v)))) h in
      let t = two (m.scope.inputs + first_register m (λ v. some_thread m (λ i. some_thread m (λ j. not (eqb i j) && (writes m i v && writes m j v))))) a.1 in
      written_twice refl a.0 t.rising t.inside t.first t.second

  -- ---- 13

  both : both_ways m ≡ true → Breaks m (written_both_ways m)
  unfolding both_ways written_both_ways
  both h =
      let f : ℕ → Bool = λ v. some_thread m (λ i. plain_writes m i v) && some_thread m (λ i. defers m i v) in
      let a = some-register f h in
      let v = m.scope.inputs + first_register m f in
      let b = some-thread (λ i. plain_writes m i v) (and_left (some_thread m (λ i. plain_writes m i v)) (some_thread m (λ i. defers m i v)) a.1) in
      let c = some-thread (λ i. defers m i v) (and_right (some_thread m (λ i. plain_writes m i v)) (some_thread m (λ i. defers m i v)) a.1) in
      written-both-ways refl a.0 b.0 c.0 b.1 c.1

  -- ---- 14

  shared : plainly_shared m ≡ true → Breaks m (shared_register m)
  unfolding plainly_shared shared_register read_elsewhere
  shared h =
      let f : ℕ → Bool = λ v. some_thread m (λ i. plain_writes m i v && read_elsewhere m i v) in
      let a = some-register f h in
      let v = m.scope.inputs + first_register m f in
      let b = some-thread (λ i. plain_writes m i v && read_elsewhere m i v) a.1 in
      let i = first_thread m (λ i. plain_writes m i v && read_elsewhere m i v) in
      by (first_register m f) i a.0 b.0 (and_left (plain_writes m i v) (read_elsewhere m i v) b.1) (and_right (plain_writes m i v) (read_elsewhere m i v) b.1)
      (some_thread m (λ j. not (eqb i j) && thread_reads m j v)) refl
    where
      by : (r i : ℕ) → r < m.scope.registers → i < length m.threads → let v = m.scope.inputs + r in plain_writes m i v ≡ true
          → (some_thread m (λ j. not (eqb i j) && thread_reads m j v) || some_wire m (λ k. wire_reads m k v)) ≡ true
          → (t : Bool) → some_thread m (λ j. not (eqb i j) && thread_reads m j v) ≡ t
          → Breaks m
          (record {
            number = 14;
            thread = i;
            other = pick t (first_thread m (λ j. not (eqb i j) && thread_reads m j v)) 0;
            register = r;
            wired = not t;
            wire = pick t 0 (first_wire m (λ k. wire_reads m k v));
            above = 0;
            place = 0;
          })
      by r i lr li s e true h =
          let v = m.scope.inputs + r in
          let c = some-thread (λ j. not (eqb i j) && thread_reads m j v) h in
          let j = first_thread m (λ j. not (eqb i j) && thread_reads m j v) in
          let ne = eqb-false i j (not-true (eqb i j) (and_left (not (eqb i j)) (thread_reads m j v) c.1)) in
          read-by-thread refl refl lr li c.0 ne s (and_right (not (eqb i j)) (thread_reads m j v) c.1)
      by r i lr li s e false h =
          let v = m.scope.inputs + r in
          let c = some-wire (λ k. wire_reads m k v) (or-other (some_thread m (λ j. not (eqb i j) && thread_reads m j v)) (some_wire m (λ k. wire_reads m k v)) e h) in
          read-by-wire refl refl lr li c.0 s c.1

  -- ---- 15, 16, 17

  odd : other_wait m ≡ true → Breaks m (odd_wait m)
  unfolding other_wait odd_wait
  odd h =
      let a = some-thread (λ i. any_instr other_wait_at (code_of m i)) h in
      let b = some-place (first_thread m (λ i. any_instr other_wait_at (code_of m i))) other_wait_at a.1 in
      other-wait refl a.0 b.0 b.1

  running : starts_running m ≡ true → Breaks m (running_thread m)
  unfolding starts_running running_thread
  running h =
      let f : ℕ → Bool = λ i. not (starts_waiting (body_of m i)) in
      let a = some-thread f h in
      starts-running refl a.0 (not-true (starts_waiting (body_of m (first_thread m f))) a.1)

  runaway : runs_away m ≡ true → Breaks m (runaway_thread m)
  unfolding runs_away runaway_thread
  runaway h =
      let f : ℕ → Bool = λ i. not (loops_wait (forever (body_of m i))) in
      let a = some-thread f h in
      runs-away refl a.0 (not-true (loops_wait (forever (body_of m (first_thread m f)))) a.1)

  -- ---- 18

  clock : clock_read m ≡ true → Breaks m (clock_reader m)
  unfolding clock_read clock_reader thread_reads
  clock h = by (some_thread m (λ i. thread_reads m i 0)) refl h
    where
      by : (t : Bool) → some_thread m (λ i. thread_reads m i 0) ≡ t → (t || some_wire m (λ k. wire_reads m k 0)) ≡ true
          → let i = first_thread m (λ i. thread_reads m i 0) in
          Breaks m
          (record {
            number = 18;
            thread = pick t i 0;
            other = 0;
            register = 0;
            wired = not t;
            wire = pick t 0 (first_wire m (λ k. wire_reads m k 0));
            above = 0;
            place = pick t (first_place m i (reads_at 0)) 0;
          })
      by true e g =
          let a = some-thread (λ i. thread_reads m i 0) e in
          let b = some-place (first_thread m (λ i. thread_reads m i 0)) (reads_at 0) a.1 in
          clock-in-thread refl refl a.0 b.0 b.1
      by false e g = let a = some-wire (λ k. wire_reads m k 0) g in clock-in-wire refl refl a.0 a.1

  -- ---- 19

  upward : reads_upward m ≡ true → Breaks m (upward_wire m)
  unfolding reads_upward upward_wire
  upward h =
      let f : ℕ → Bool = λ k. some_wire m (λ j. leb k j && wire_reads m k (wire_variable m j)) in
      let a = some-wire f h in
      let k = first_wire m f in
      let b = some-wire (λ j. leb k j && wire_reads m k (wire_variable m j)) a.1 in
      let j = first_wire m (λ j. leb k j && wire_reads m k (wire_variable m j)) in
      reads-upward refl a.0 b.0 (leb-true k j (and_left (leb k j) (wire_reads m k (wire_variable m j)) b.1))
      (and_right (leb k j) (wire_reads m k (wire_variable m j)) b.1)

  -- ---- 20

  -- The wait that takes a count past 32.
  last-wait : (w n : ℕ) (t : Bool) → ltb 32 (w + n) ≡ false → ltb 32 (w + (n + one t)) ≡ true → (t ≡ true) × (w + n ≡ 32)
  unfolding one
  last-wait w n true h k = (refl, omega (arith, ltb-false 32 (w + n) h, ltb-true 32 (w + (n + 1)) k))
  last-wait w n false h k = absurd (omega (arith, ltb-false 32 (w + n) h, ltb-true 32 (w + (n + 0)) k))

  surplus : many_waits m ≡ true → Breaks m (surplus_wait m)
  unfolding many_waits surplus_wait waits_below waits_before instr_at
  surplus h =
      let a = turns (λ i. ltb 32 (waits_below m i)) refl (length m.threads) h in
      let i = first_thread m (λ i. ltb 32 (waits_below m (suc i))) in
      let c = code_of m i in
      let g : ℕ → Bool = λ p. ltb 32 (waits_below m i + waits_before c p) in
      let start : g 0 ≡ false = le-ltb 32 (waits_below m i + 0) (omega (arith, ltb-false 32 (waits_below m i) a.fails)) in
      let b = turns g start (length c) a.holds in
      let p = lowest (length c) (λ p. g (suc p)) in
      let z = last-wait (waits_below m i) (waits_before c p) (is_wait (get_or c p (go 0))) b.fails b.holds in
      waits-over refl a.inside b.inside z.0 z.1

  -- ---- 21

  -- A walk that is refused: it starts at a wait, and is refused with 21.
  refused-walk : (i p : ℕ) (T : Tables) → refuses (pick (is_wait (instr_at (code_of m i) p)) (walk_from m i p T) (ok T)) ≡ true
      → (is_wait (instr_at (code_of m i) p) ≡ true) × (walk_from m i p T ≡ no 21 0)
  unfolding refuses
  refused-walk i p T h = by (is_wait (instr_at (code_of m i) p)) h
    where
      by : (t : Bool) → refuses (pick t (walk_from m i p T) (ok T)) ≡ true → (t ≡ true) × (walk_from m i p T ≡ no 21 0)
      by true k = (refl, refused_full (from-full m i p T) k)
      by false k = absurd-bool k refl

  record Over (i p : ℕ) : Type 0 where
    tables : Tables
    waits : is_wait (instr_at (code_of m i) p) ≡ true
    before : (threads_below m i >>= walks_below m i p) ≡ ok tables
    refused : walk_from m i p tables ≡ no 21 0

  over : (i p : ℕ) → refuses (threads_below m i >>= walks_below m i p) ≡ false → refuses (threads_below m i >>= walks_below m i (suc p)) ≡ true
      → Over i p
  unfolding walks_below refuses
  over i p f h = by (threads_below m i) refl
    where
      step : (T : Tables) → threads_below m i ≡ ok T → (x : Res Tables) → walks_below m i p T ≡ x → Over i p
      step T e (ok U) q =
          let z = refused-walk i p U (rw (e, q) at h) in
          record { tables = U; waits = z.0; before = rw (e, q) refl; refused = z.1 }
      step T e (no n k) q = absurd-bool refl (rw (e, q) at f)

      by : (x : Res Tables) → threads_below m i ≡ x → Over i p
      by (ok T) e = step T e (walks_below m i p T) refl
      by (no n k) e = absurd-bool refl (rw e at f)

  none-walked : (i : ℕ) → refuses (threads_below m i) ≡ false → refuses (threads_below m i >>= walks_below m i 0) ≡ false
  unfolding walks_below refuses
  none-walked i f = let t = accepted (threads_below m i) f in rw t.1

  overflow : refuses (threads_below m (length m.threads)) ≡ true → Breaks m (overflowing_walk m)
  unfolding overflowing_walk threads_below refuses
  overflow h =
      let a = turns (λ i. refuses (threads_below m i)) refl (length m.threads) h in
      let i = first_thread m (λ i. refuses (threads_below m (suc i))) in
      let g : ℕ → Bool = λ p. refuses (threads_below m i >>= walks_below m i p) in
      let b = turns g (none-walked i a.fails) (length (code_of m i)) a.holds in
      let o = over i (lowest (length (code_of m i)) (λ p. g (suc p))) b.fails b.holds in
      nodes-over {T = o.tables} refl a.inside b.inside o.waits o.before o.refused

  -- ---- the lowest rule that is broken

  step : (t : Bool) (x y : Witness) → (t ≡ true → Breaks m x) → ((y.number ≡ 0 → ⊥) → Breaks m y)
      → ((pick t x y).number ≡ 0 → ⊥) → Breaks m (pick t x y)
  step true x y f g n = f refl
  step false x y f g n = g n

  higher-breaks : ((higher_witness m).number ≡ 0 → ⊥) → Breaks m (higher_witness m)
  unfolding higher_witness
  higher-breaks =
      step (other_wait m) (odd_wait m) _ odd
      (step (starts_running m) (running_thread m) _ running
      (step (runs_away m) (runaway_thread m) _ runaway
      (step (clock_read m) (clock_reader m) _ clock
      (step (reads_upward m) (upward_wire m) _ upward
      (step (many_waits m) (surplus_wait m) _ surplus
      (step (refuses (threads_below m (length m.threads))) (overflowing_walk m) (bare 0) overflow (λ n. absurd (n refl))))))))

  -- A witness with a number breaks that rule.
  pub breaks : ((witness m).number ≡ 0 → ⊥) → Breaks m (witness m)
  unfolding witness
  breaks =
      step (two_writers m) (double_written m) _ twice
      (step (both_ways m) (written_both_ways m) _ both
      (step (plainly_shared m) (shared_register m) _ shared higher-breaks))

  -- ---- the number is extraction's

  walks-number : (x : Res Tables) → (refuses x ≡ true → x ≡ no 21 0) → (pick (refuses x) (overflowing_walk m) (bare 0)).number ≡ number_in x
  unfolding refuses number_in overflowing_walk
  walks-number (ok T) h = refl
  walks-number (no n p) h = sym (ap (λ (x : Res Tables). number_in x) (h refl))

  -- The number of a rule, or where none is broken that of the walks.
  abbrev numbered : ℕ → Res Tables → ℕ
  numbered n x = number_in (check (eqb n 0) n 0 >> x)

  next : (t : Bool) (x y : Witness) (k n : ℕ) (z : Res Tables) → x.number ≡ numbered k z → y.number ≡ numbered n z
      → (pick t x y).number ≡ numbered (pick t k n) z
  next true x y k n z p q = p
  next false x y k n z p q = q

  counted : (b12 b13 b14 b15 b16 b17 b18 b19 b20 : Bool) (x : Res Tables) (w : Witness) → w.number ≡ number_in x
      → (pick b12 (double_written m)
      (pick b13 (written_both_ways m)
      (pick b14 (shared_register m)
      (pick b15 (odd_wait m)
      (pick b16 (running_thread m)
      (pick b17 (runaway_thread m)
      (pick b18 (clock_reader m)
      (pick b19 (upward_wire m)
      (pick b20 (surplus_wait m) w))))))))).number
      ≡ numbered
      (pick b12 12 (pick b13 13 (pick b14 14 (pick b15 15 (pick b16 16 (pick b17 17 (pick b18 18 (pick b19 19 (pick b20 20 0)))))))))
      x
  unfolding number_in double_written written_both_ways shared_register odd_wait running_thread runaway_thread clock_reader upward_wire surplus_wait
  counted b12 b13 b14 b15 b16 b17 b18 b19 b20 x w h =
      next b12 _ _ 12 _ x refl
      (next b13 _ _ 13 _ x refl
      (next b14 _ _ 14 _ x refl
      (next b15 _ _ 15 _ x refl
      (next b16 _ _ 16 _ x refl
      (next b17 _ _ 17 _ x refl
      (next b18 _ _ 18 _ x refl
      (next b19 _ _ 19 _ x refl
      (next b20 _ _ 20 0 x refl h))))))))

  pub number-law : (witness m).number ≡ number_in (extracted m)
  unfolding witness higher_witness extracted rule
  number-law =
      counted (two_writers m) (both_ways m) (plainly_shared m) (other_wait m) (starts_running m) (runs_away m) (clock_read m) (reads_upward m) (many_waits m)
      (threads_below m (length m.threads)) _
      (walks-number (threads_below m (length m.threads)) (refused_full (threads-full m (length m.threads))))

-- ---- of a sheet

-- The number is the one with which `extract` refuses the sheet, 0 where it accepts; lent words of the right lengths given.
pub number-of-sheet : (s : List ℕ) → (witnessed s).number ≡ number_in (expressions s)
unfolding witnessed witness_in expressions number_in
number-of-sheet s = by (read s)
  where
    by : (x : Res (Module Expr)) → (witness_in x).number ≡ number_in (x >>= extracted)
    by (ok m) = number-law m
    by (no n p) = refl

pub number-of-extract : (s ns rs : List ℕ) → right_lengths ns rs ≡ true → (witnessed s).number ≡ (extract s ns rs).number
unfolding extract filled number_in
number-of-extract s ns rs h = number-of-sheet s ∙ rw h (by (expressions s))
  where
    by : (x : Res Tables) → number_in x ≡ (filled x ns rs).number
    by (ok T) = refl
    by (no n p) = refl

-- A sheet that is read and refused: its witness breaks the rule.
pub sheet-breaks : (s : List ℕ) (m : Module Expr) → read s ≡ ok m → ((witnessed s).number ≡ 0 → ⊥) → Breaks m (witnessed s)
unfolding witnessed witness_in
sheet-breaks s m h = rw h (breaks m)
