-- A thread run alone by choices does what it means (as_written, the claim of specs/Thread): a path of the thread is a run of choices
-- that are all accepted while the user's allowance lasts (run-path), and from its start or behind any of its waits it has a path as its
-- statement means (goes). Assumes nothing.
use Prim.Native.Nat.{ℕ, suc, ◌+◌, ◌*◌, ◌-◌, ◌≤◌, ◌<◌}
use mathlib.Core.Path.{◌≡◌, refl, sym, ap, ◌∙◌, subst}
use mathlib.Core.Bool.{Bool, true, false, not}
use mathlib.Core.List.{List, ◌++◌}
use mathlib.Core.Option.{Option, some}
use native.Mathlib.Numerals.{add-one}
use native.Mathlib.Decide.{dec_lt}
use native.Mathlib.Omega.{arith}
use lib.ListN.{length, get_or, replicate, get_or-eq_default}
use lib.Dec.{eqb}
use borrow.Author.Tests.{eqb-true, eqb-false, lt-ltb, not-false}
use Rattle.values.specs.declared.Value.{Value}
use Rattle.values.specs.Values.{pick}
use Rattle.sheet.specs.Reading.{ok}
use Rattle.sheet.specs.Expression.{Expr}
use Rattle.sheet.specs.Statement.{Stmt, empty, forever, size}
use Rattle.sheet.specs.Module.{Module, read}
use Rattle.evaluation.specs.Evaluation.{eval}
use Rattle.pseudocode.specs.Translation.{wait!, go, thread_code}
use Rattle.pseudocode.proofs.Translation.{thread_code-size}
use Rattle.state.specs.declared.State.{State}
use Rattle.state.specs.State.{Shaped, users, count_of, allowance_of, value_of, pending_of, place_of}
use Rattle.soundness.specs.Soundness.{Sound}
use Rattle.soundness.proofs.Soundness.{sound}
use Rattle.events.specs.declared.Ran.{Ran}
use Rattle.events.specs.Cycle.{code_of, instr_at, current, is_wait, items}
use Rattle.events.specs.Calls.{state_fits, judged, refusal, choose_in, choose, run_in, run_list}
use Rattle.events.specs.Steps.{Acts, assigns, defers, jumps, goes_in, passes-by, settles, commits}
use Rattle.events.proofs.Cycle.{absurd-bool, none_below}
use Rattle.events.proofs.Choices.{by_user-below, spend-zero, enabled-thread, thread-ready, refusal-ready, number-choose_in, shaped-choose_in}
use Rattle.events.proofs.Steps.{step-choose_in}
use Rattle.events.proofs.Fits.{Fits, fits-state, state-fits}
use Rattle.events.proofs.Runs.{onward-accepted, fits-run_in}
use Rattle.nextstate.specs.Rules.{some_thread, body_of, surely_waits, loops_wait, runs_away}
use Rattle.nextstate.specs.Book.{put}
use Rattle.threads.specs.Alone.{Local, put_pending, exec, turn}
use Rattle.threads.proofs.View.{seen}
use Rattle.meaning.specs.Meaning.{Write, values_after, Course, stops, meaning}
use Rattle.meaning.specs.Thread.{behind, pending_after, held, shown, writes_of, Lasts, whole, Stands, at-start, behind-wait, Along, Arrived, Goes, AsWritten}
use Rattle.meaning.proofs.Paths.{moved, wrote, Path, here, onward, path-moved, path-cut}
use Rattle.meaning.proofs.Statements.{Stops, followed-next, sure-stops, stand-whole, Reaches, to_end, to-wait, within, Done, done}

-- ---- one choice of a thread that is at no wait

same-local : (L M : Local) → L.place ≡ M.place → ((v : ℕ) → L.values v ≡ M.values v) → ((r : ℕ) → L.pending r ≡ M.pending r) →
    L ≡ M
same-local L M p f g = λ y. record { place = p y; values = λ v. f v y; pending = λ r. g r y }

put-stored : (f g : ℕ → Value) (t : ℕ) (a : Value) → g t ≡ a → ((v : ℕ) → (v ≡ t → ⊥) → g v ≡ f v) → (v : ℕ) → g v ≡ put f t a v
unfolding put
put-stored f g t a x others v = by (eqb v t) refl
  where
    by : (b : Bool) → eqb v t ≡ b → g v ≡ pick b a (f v)
    by true d = rw (eqb-true v t d) x
    by false d = others v (eqb-false v t d)

put-deferred : (f g : ℕ → Option Value) (t : ℕ) (a : Value) → g t ≡ some a → ((r : ℕ) → (r ≡ t → ⊥) → g r ≡ f r) → (r : ℕ) →
    g r ≡ put_pending f t a r
unfolding put_pending
put-deferred f g t a x others r = by (eqb r t) refl
  where
    by : (b : Bool) → eqb r t ≡ b → g r ≡ pick b (some a) (f r)
    by true d = rw (eqb-true r t d) x
    by false d = others r (eqb-false r t d)

-- What thread i has before it after its step is what its instruction makes of what it had; the state shows what it wrote.
record Acted (m : Module Expr) (old new : State) (i : ℕ) : Type 0 where
  local : seen new i ≡ exec m (current m old i) (seen old i)
  writes : shown m (current m old i) new ≡ wrote (current m old i) (seen old i)

module _ (m : Module Expr) (w : Sound m) (old new : State) where
  acted : {i : ℕ} → i < length m.threads → Acts m old new i → Acted m old new i
  unfolding exec seen shown wrote held
  acted l (assigns {i = i} {t = t} {e = e} b h x others p r s) =
      record {
        local = rw h
            (same-local _ _ p (put-stored (value_of old) (value_of new) t (eval (value_of old) e) x others) s);
        writes = rw (h, x) refl;
      }
  acted l (defers {i = i} {t = t} {e = e} b h x others p c) =
      record {
        local = rw h
            (same-local _ _ p c.values
            (put-deferred (pending_of old) (pending_of new) (t - m.scope.inputs) (eval (value_of old) e) x others));
        writes = rw (h, x) refl;
      }
  acted l (jumps b h p c s) = record { local = rw h (same-local _ _ p c.values s); writes = rw h refl }
  acted l (goes_in b h x p c s) = record { local = rw (h, x) (same-local _ _ p c.values s); writes = rw h refl }
  acted l (passes-by b h x p c s) = record { local = rw (h, x) (same-local _ _ p c.values s); writes = rw h refl }
  acted l (settles b h x o r s) = absurd (omega arith)
  acted l (commits h q b p x o y z r) = absurd (omega (arith, w.threads-most))

module _ (m : Module Expr) (w : Sound m) (u : ℕ) (b : u < users) (i : ℕ) (l : i < length m.threads) where
  -- ---- a path is a run of choices that are all accepted, while the user's allowance lasts

  record Chose (st : State) : Type 0 where
    number : (choose_in m st u i).number ≡ 0
    count : count_of (choose_in m st u i).state u ≡ count_of st u + 1
    allowance : allowance_of (choose_in m st u i).state u ≡ allowance_of st u
    acts : Acted m st (choose_in m st u i).state i

  chose : (st : State) → Shaped st → is_wait (current m st i) ≡ false → count_of st u + 1 ≤ allowance_of st u → Chose st
  chose st s h room =
      let z : (choose_in m st u i).number ≡ 0 =
      number-choose_in m st u i ∙ refusal-ready m st u w b (thread-ready l h) ∙ spend-zero st u (omega arith) in
      let x = step-choose_in m w st s u i z in
      record {
        number = z;
        count = x.count;
        allowance = x.allowances u;
        acts = acted m w st (choose_in m st u i).state l x.acts;
      }

  pub record Runs (st : State) (n : ℕ) (ws : List Write) (M : Local) : Type 0 where
    pub end : State
    pub run : run_in m u (replicate n i) st ≡ record { accepted = n; number = 0; state = end }
    pub local : seen end i ≡ M
    pub writes : writes_of m u i n st ≡ ws

  pub run-path : {n : ℕ} {L M : Local} {ws : List Write} → Path m i n L ws M → (st : State) → Shaped st → seen st i ≡ L → Lasts u n st →
      Runs st n ws M
  unfolding run_in writes_of current seen turn
  run-path here st s e room = record { end = st; run = refl; local = e; writes = refl }
  run-path (onward {n = n} {L = L} {M = M} {ws = ws} h x) st s e room =
      by (run-path x new (shaped-choose_in m st u i s) (c.acts.local ∙ ap (turn m i) e) (omega (arith, c.count, c.allowance)))
    where
      new : State
      new = (choose_in m st u i).state

      c : Chose st
      c = chose st s (ap (λ P. is_wait (instr_at (code_of m i) P.place)) e ∙ h) (omega arith)

      wrote-here : shown m (current m st i) new ≡ wrote (instr_at (code_of m i) L.place) L
      wrote-here = c.acts.writes ∙ ap (λ P. wrote (instr_at (code_of m i) P.place) P) e

      by : Runs new n ws M → Runs st (suc n) (wrote (instr_at (code_of m i) L.place) L ++ ws) M
      by r =
          record {
            end = r.end;
            run = onward-accepted (choose_in m st u i) (run_in m u (replicate n i) new) c.number
                ∙ ap (λ q. record { accepted = q.accepted + 1; number = q.number; state = q.state }) r.run
                ∙ ap (λ k. record { accepted = k; number = 0; state = r.end }) (add-one n);
            local = r.local;
            writes = ap (λ y. y ++ writes_of m u i n new) wrote-here
                ∙ ap (λ y. wrote (instr_at (code_of m i) L.place) L ++ y) r.writes;
          }

-- ---- the thread as a whole

module _ (m : Module Expr) (i : ℕ) (loops : loops_wait (forever (body_of m i)) ≡ true) where
  thread-done : Done m i (forever (body_of m i)) 0
  unfolding code_of thread_code body_of
  thread-done = done m i (forever (body_of m i)) 0 (stand-whole (code_of m i)) loops

  -- A wait stands inside the thread.
  wait-inside : (p : ℕ) → is_wait (instr_at (code_of m i) p) ≡ true → p < size (forever (body_of m i))
  unfolding instr_at is_wait code_of body_of size
  wait-inside p h = by (dec_lt p (length (code_of m i)))
    where
      by : Dec (p < length (code_of m i)) → p < size (body_of m i) + 1
      by (yes l) = omega (arith, thread_code-size (get_or m.threads i empty))
      by (no d) = absurd-bool h (rw (get_or-eq_default (code_of m i) (go 0) {n = p} (omega arith)))

  stands-reaches : {p : ℕ} {what : Stmt Expr} → Stands m i p what → (L : Local) → L.place ≡ p →
      Reaches m i L (whole m i) 0 (size (whole m i)) (2 * size (whole m i)) (meaning what L.values)
  stands-reaches at-start L h =
      within m i (size (whole m i)) (2 * size (whole m i)) (omega arith) (omega arith) (thread-done.start L h)
  stands-reaches (behind-wait p t) L h =
      thread-done.waits p (wait-inside p t) (ap (λ q. is_wait (instr_at (code_of m i) q)) (omega arith) ∙ t) L (omega arith)

  stands-stops : {p : ℕ} {what : Stmt Expr} → Stands m i p what → (f : ℕ → Value) → Stops (meaning what f)
  unfolding behind meaning surely_waits
  stands-stops at-start f = sure-stops (whole m i) refl loops f
  stands-stops (behind-wait p t) f =
      followed-next (meaning (behind (body_of m i) p) f) (whole m i) (λ ws. meaning (whole m i) (values_after f ws))
      (λ ws. sure-stops (whole m i) refl loops (values_after f ws))

-- ---- the claim, of a path to a wait

-- The call is the run, in a module that was read.
run-sheet : (s : List ℕ) (m : Module Expr) → read s ≡ ok m → (st : State) → state_fits m st ≡ true → (u : ℕ) → u < users →
    (cs : List ℕ) → run_list s st u cs ≡ run_in m u cs st
unfolding run_list judged
run-sheet s m r st f u b cs = rw (r, f, lt-ltb u users b)

choose-sheet : (s : List ℕ) (m : Module Expr) → read s ≡ ok m → (st : State) → state_fits m st ≡ true → (u c : ℕ) →
    choose s st u c ≡ choose_in m st u c
unfolding choose judged
choose-sheet s m r st f u c = rw (r, f)

-- "33 item not enabled": a thread at a wait.
refused-wait : (m : Module Expr) (st : State) (u i : ℕ) → u < users → i < length m.threads → is_wait (current m st i) ≡ true →
    (choose_in m st u i).number ≡ 33
unfolding refusal items
refused-wait m st u i b l h =
    number-choose_in m st u i
    ∙ rw (lt-ltb i (length m.threads + length m.wires) (omega arith), enabled-thread m st i l, h) (by_user-below u 33 b)

module _ (s : List ℕ) (m : Module Expr) (r : read s ≡ ok m) (u : ℕ) (b : u < users) (i : ℕ) (l : i < length m.threads) (st : State)
    (shaped : Shaped st) (f : state_fits m st ≡ true) where
  abbrev w : Sound m
  w = sound s r

  module _ {n : ℕ} {ws : List Write} {M : Local} (path : Path m i n (seen st i) ws M) where
    along-path : (k : ℕ) → k ≤ n → Lasts u k st → Along s m u i st ws k
    unfolding seen moved
    along-path k c room =
        let C = path-cut m i k path c in
        let R = run-path m w u b i l C.path st shaped refl room in
        let e = run-sheet s m r st f u b (replicate k i) ∙ R.run in
        let local = R.local ∙ path-moved m i C.path in
        record {
          accepted = ap (λ x. x.accepted) e;
          number = ap (λ x. x.number) e;
          still = C.rest;
          writes = C.writes ∙ ap (λ y. y ++ C.rest) (sym R.writes);
          values = λ v. ap (λ x. value_of x.state v) e ∙ ap (λ x. x.values v) local
              ∙ ap (λ y. values_after (value_of st) y v) (sym R.writes);
          pending = λ q. ap (λ x. pending_of x.state q) e ∙ ap (λ x. x.pending q) local
              ∙ ap (λ y. pending_after m (pending_of st) y q) (sym R.writes);
        }

    arrives-path : (q : ℕ) → M.place ≡ q → is_wait (instr_at (code_of m i) q) ≡ true → Lasts u n st → Arrived s m u i st ws q n
    unfolding seen current
    arrives-path q at-q h room =
        let R = run-path m w u b i l path st shaped refl room in
        let e = run-sheet s m r st f u b (replicate n i) ∙ R.run in
        let there : place_of R.end i ≡ q = ap (λ x. x.place) R.local ∙ at-q in
        let fits = fits-run_in m u w (replicate n i) st shaped (fits-state m st shaped f) in
        let end_fits : state_fits m R.end ≡ true = state-fits m R.end (subst (λ (x : Ran). Fits m x.state) R.run fits) in
        record {
          writes = R.writes;
          place = ap (λ x. place_of x.state i) e ∙ there;
          waits = ap (λ x. (choose s x.state u i).number) e ∙ ap (λ x. x.number) (choose-sheet s m r R.end end_fits u i)
              ∙ refused-wait m R.end u i b l (ap (λ p. is_wait (instr_at (code_of m i) p)) there ∙ h);
        }

  goes : (loops : loops_wait (whole m i) ≡ true) (what : Stmt Expr) (X : Course) → meaning what (value_of st) ≡ X → Stops X →
      Reaches m i (seen st i) (whole m i) 0 (size (whole m i)) (2 * size (whole m i)) X → Goes s m u i st what
  unfolding moved is_wait code_of body_of size
  goes loops what X e h (to_end k c x) = absurd h
  goes loops what X e h (to-wait {ws = ws} {ts = ts} k q c d stands rest x) =
      let z : 0 + q ≡ q = omega arith in
      let stands-q : instr_at (code_of m i) q ≡ wait! ts = ap (instr_at (code_of m i)) (sym z) ∙ stands in
      record {
        writes = ws;
        terms = ts;
        place = q;
        wait = stands-q;
        means = e ∙ ap (stops ws ts) rest;
        count = k;
        most = omega (arith, thread_code-size (get_or m.threads i empty));
        along = along-path x;
        arrives = arrives-path x q z (ap is_wait stands-q);
      }

pub as_written : AsWritten
unfolding seen
as_written s m r u b i l loops st shaped f what h =
    goes s m r u b i l st shaped f loops what (meaning what (value_of st)) refl (stands-stops m i loops h (value_of st))
    (stands-reaches m i loops h (seen st i) refl)

-- A sheet that meets rule 17 has only such threads.
pub rule-17 : (m : Module Expr) → runs_away m ≡ false → (i : ℕ) → i < length m.threads → loops_wait (forever (body_of m i)) ≡ true
unfolding runs_away some_thread
rule-17 m h i l =
    not-false (loops_wait (forever (body_of m i))) (none_below (λ j. not (loops_wait (forever (body_of m j)))) (length m.threads) h i l)
