-- The same text over any bytes, as the code puts it: one walk over a statement, in which the wait is still looked for, what is met is
-- said, or the thread has stopped. Where the sheet was read, it is the thread's (proofs/Walking.antt, proofs/Reading.antt).
use Rattle.std.specs.Prelude.{ℕ, zero, suc, ◌+◌, ◌*◌, Bool, true, not, ◌&&◌, ◌||◌, List, get_or, ltb, eqb}
use Rattle.values.specs.Values.{pick}
use Rattle.sheet.specs.Reading.{Res, ok, no}
use Rattle.sheet.specs.Statement.{Form, an_empty, an_assign, a_later, a_sequence, an_if, an_if_else, a_while, a_forever, a_wait, form_of}
use Rattle.pseudocode.specs.Skipping.{skip_at}
use Rattle.pseudocode.specs.Filling.{after}
use Rattle.rules.specs.Walking.{walk_at}
use Rattle.writing.specs.Ascii.{ascii}
use Rattle.writing.specs.Numbers.{decimal}
use Rattle.writing.specs.Buffer.{Text, filled, puts}
use Rattle.verilog.specs.Verilog.{◌&◌, indent}
use Rattle.verilog.specs.Printing.{shown_at, terms_at}
use Rattle.explaining.specs.declared.Walked.{Walked}
use Rattle.explaining.specs.Explaining.{heading_text}

-- ---- a stage of the walk: the next place in the sheet, the number of the last wait before it, whether the wait that is looked for
-- was seen, whether what is met is said, and the buffer

pub record Stage : Type 0 where
  pub next : ℕ
  pub waits : ℕ
  pub seen : Bool
  pub on : Bool
  pub text : Text

abbrev pub stage : ℕ → ℕ → Bool → Bool → Text → Stage
stage next waits seen on text = record { next = next; waits = waits; seen = seen; on = on; text = text }

-- The code's answer, with the buffer's bytes.
abbrev pub told : Walked → List ℕ → Stage
told r bytes = stage r.next r.waits r.seen r.on (filled bytes r.pos)

-- A text that is said, or isn't.
unfoldable pub said : Bool → Text → List ℕ → Text
said on t x = pick on (puts t x) t

-- The level of a body.
unfoldable pub deeper : Bool → ℕ → ℕ
deeper on level = pick on (level + 1) level

-- One byte on.
unfoldable pub inside : Stage → Stage
inside w = stage (w.next + 1) w.waits w.seen w.on w.text

-- ---- loops

-- Does a loop come round? Where the wait was seen in its body and the thread goes on behind it; w stands in front of the body, and
-- a behind it.
unfoldable pub round_at : Stage → Stage → Bool
round_at w a = not w.seen && a.on

-- The loop anew, with what was said before.
unfoldable pub anew : Stage → Stage → Stage
anew w a = stage w.next w.waits true true a.text

-- ---- bodies. `inner` walks over a statement at a level, `condition` over a condition; w stands behind the statement's map.

module _ (inner : ℕ → Stage → Stage) (level : ℕ) where
  unfoldable pub sequence_at : Stage → Stage
  sequence_at w = inner level (inner level w)

  unfoldable pub forever_at : Stage → Stage
  forever_at w = let a = inner level w in pick (round_at w a) (inner level (anew w a)) a

module _ (level : ℕ) where
  -- The end of an if, and of its first leg. Behind it the thread goes on where it does behind one of its legs; without `else` where it
  -- went on in front of it.
  unfoldable pub closed : Bool → Bool → Stage → Stage
  closed on first b =
      stage b.next b.waits b.seen (first || b.on) (said on b.text (indent level & ascii "end\n"))

  unfoldable pub switched : Bool → Stage → Stage
  switched on a = stage a.next a.waits a.seen on (said on a.text (indent level & ascii "end else begin\n"))

module _ (condition inner : ℕ → Stage → Stage) (level : ℕ) where
  unfoldable pub if_at : Stage → Stage
  if_at w = closed level w.on w.on (inner (deeper w.on level) (condition level w))

  unfoldable pub if_else_at : Stage → Stage
  if_else_at w =
      let a = inner (deeper w.on level) (condition level w) in
      closed level w.on a.on (inner (deeper w.on level) (switched level w.on a))

  unfoldable pub while_at : Stage → Stage
  while_at w = let a = if_at w in pick (round_at w a) (if_at (anew w a)) a

-- ---- waits of a sheet s, by names; w stands behind the map

module _ (name : ℕ → List ℕ) (s : List ℕ) where
  -- Wait k, whose count stands at p.
  unfoldable pub wait_line : ℕ → ℕ → ℕ → List ℕ
  wait_line k level p =
      indent level & ascii "@(" & terms_at name s (get_or s p 0) 0 (p + 1) & ascii "); // wait " & decimal k & ascii "\n"

  -- Wait k is looked for. At a wait the thread stops; from the one that is looked for it goes on.
  unfoldable pub wait_at : ℕ → ℕ → Stage → Stage
  wait_at k level w =
      let n = after w.waits in
      stage (w.next + 1 + 2 * get_or s w.next 0) n (w.seen || eqb n k) (not w.seen && eqb n k)
      (said w.on w.text (wait_line n level w.next))

-- ---- the parts of a sheet s whose functions' definitions stand at ds, by names

module _ (name : ℕ → List ℕ) (s ds : List ℕ) where
  -- ---- lines

  -- An assignment whose target stands at p.
  unfoldable pub assign_line : List ℕ → ℕ → ℕ → List ℕ
  assign_line sign level p = indent level & name (get_or s p 0) & sign & (shown_at name s ds 16 (p + 1)).text & ascii ";\n"

  -- A condition at p.
  unfoldable pub condition_line : ℕ → ℕ → List ℕ
  condition_line level p = indent level & ascii "if (" & (shown_at name s ds 16 p).text & ascii ") begin\n"

  -- ---- statements; w stands behind the map

  unfoldable pub assign_at : List ℕ → ℕ → Stage → Stage
  assign_at sign level w =
      stage (skip_at 16 s ds (w.next + 1)) w.waits w.seen w.on (said w.on w.text (assign_line sign level w.next))

  unfoldable pub condition_at : ℕ → Stage → Stage
  condition_at level w =
      stage (skip_at 16 s ds w.next) w.waits w.seen w.on (said w.on w.text (condition_line level w.next))

  -- The statement of a form whose map stands at w's next byte. What is no map is no statement.
  unfoldable pub form_at : ℕ → (ℕ → Stage → Stage) → ℕ → Stage → Res Form → Stage
  form_at k inner level w (ok an_empty) = inside w
  form_at k inner level w (ok an_assign) = assign_at (ascii " = ") level (inside w)
  form_at k inner level w (ok a_later) = assign_at (ascii " <= ") level (inside w)
  form_at k inner level w (ok a_sequence) = sequence_at inner level (inside w)
  form_at k inner level w (ok an_if) = if_at condition_at inner level (inside w)
  form_at k inner level w (ok an_if_else) = if_else_at condition_at inner level (inside w)
  form_at k inner level w (ok a_while) = while_at condition_at inner level (inside w)
  form_at k inner level w (ok a_forever) = forever_at inner level (inside w)
  form_at k inner level w (ok a_wait) = wait_at name s k level (inside w)
  form_at k inner level w (no n p) = w

  -- With so many levels left. Past 8,192 bytes there is no statement.
  unfoldable pub stmt_at : ℕ → ℕ → ℕ → Stage → Stage
  stmt_at k zero level w = w
  stmt_at k (suc d) level w =
      pick (ltb w.next 8192) (form_at k (stmt_at k d) level w (form_of (get_or s w.next 0) w.next)) w

  -- ---- a thread, whose statement stands at p

  -- From its wait k on, from its start for 0.
  unfoldable pub point_at : ℕ → ℕ → Text → Stage
  point_at k p t =
      forever_at (stmt_at k 64) 2 (stage p 0 (eqb k 0) (eqb k 0) (puts t (heading_text k)))

  -- n points, from the kth on.
  unfoldable pub points_at : ℕ → ℕ → ℕ → Text → Text
  points_at zero k p t = t
  points_at (suc n) k p t = points_at n (k + 1) p (point_at k p t).text

  -- Thread i: its start, where its waits are counted, and then each of its waits.
  unfoldable pub thread_at : ℕ → ℕ → Text → Text
  thread_at i p t =
      let w = point_at 0 p (puts t (ascii "thread " & decimal i & ascii "\n")) in
      points_at w.waits 1 p w.text

-- The place of thread i's statement, the first thread's being at p.
unfoldable pub body_at : List ℕ → List ℕ → ℕ → ℕ → ℕ
body_at s ds zero p = p
body_at s ds (suc i) p = body_at s ds i (walk_at 64 s ds p).next
