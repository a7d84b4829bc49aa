-- A thread from wait to wait (from-wait-to-wait, of-a-sheet, the claims of specs/Waking): the claim of specs/Thread told by what it
-- waits for, and what a choice or an instant leaves of a thread at a wait. Assumes nothing.
use Prim.Native.Nat.{ℕ, ◌+◌}
use mathlib.Core.Path.{◌≡◌, refl, sym, ap, ◌∙◌, subst}
use mathlib.Core.Bool.{true, false}
use mathlib.Core.List.{List}
use Rattle.values.specs.declared.Edge.TheVariants.{Change}
use Rattle.sheet.specs.declared.EdgeTerm.{EdgeTerm}
use Rattle.sheet.specs.Expression.{Expr}
use Rattle.sheet.specs.Statement.{Stmt}
use Rattle.sheet.specs.Module.{Module}
use Rattle.pseudocode.specs.Translation.{Instr, wait! }
use Rattle.state.specs.declared.State.{State}
use Rattle.state.specs.State.{value_of, place_of}
use Rattle.events.specs.Cycle.{code_of, instr_at, current, is_wait, wait_fires}
use Rattle.events.specs.Steps.{Calm, Fired, goes_on, stays, Acts, assigns, defers, jumps, goes_in, passes-by, settles, commits}
use Rattle.events.proofs.Cycle.{absurd-bool, terms-quiet, current-place}
use Rattle.meaning.specs.Thread.{behind, whole, Stands, at-start, behind-wait, Goes}
use Rattle.meaning.specs.Waking.{Doing, Waiting, Leg, Woken, WaitToWait, FromWaitToWait, OfASheet}
use Rattle.meaning.specs.Waking as waking
use Rattle.meaning.proofs.Thread.{as_written, rule-17}

module _ (m : Module Expr) (i : ℕ) where
  -- ---- a thread at a wait

  module _ (old new : State) (ts : List EdgeTerm) (rest : Stmt Expr) (w : Waiting m i old ts rest) where
    -- A change fires its wait or doesn't.
    by-firing : Fired m old new i → Woken m i old new ts rest
    unfolding current is_wait wait_fires
    by-firing (goes_on h p) =
        let t : is_wait (instr_at (code_of m i) (place_of old i)) ≡ true = ap is_wait w.wait in
        waking.goes_on (rw w.wait at h)
        (subst (λ (q : ℕ). Stands m i q rest) (sym p)
        (subst (λ (x : Stmt Expr). Stands m i (place_of old i + 1) x) (sym w.remains) (behind-wait (place_of old i) t)))
    by-firing (stays h p) =
        waking.waits-on (rw w.wait at h)
        (record {
          wait = current-place m new old i p ∙ w.wait;
          remains = w.remains ∙ ap (behind (whole m i)) (sym p);
        })

    -- Where no value changes and it isn't run, it waits on.
    by-calm : (j : ℕ) → (i ≡ j → ⊥) → Calm m old new j → Woken m i old new ts rest
    by-calm j d c =
        let p = c.places i d in
        waking.waits-on
        (terms-quiet (value_of old) (value_of new) ts (record { edge = Change; variable = 0 }) (λ k l. c.values _))
        (record {
          wait = current-place m new old i p ∙ w.wait;
          remains = w.remains ∙ ap (behind (whole m i)) (sym p);
        })

    -- It isn't the one that is run.
    other : {j : ℕ} {x : Instr Expr} → current m old j ≡ x → is_wait x ≡ false → i ≡ j → ⊥
    unfolding is_wait
    other {j} {x} h n e =
        let z : is_wait {E = Expr} (wait! ts) ≡ false = ap is_wait (sym w.wait ∙ ap (current m old) e ∙ h) ∙ n in
        absurd-bool refl z

    by-acts : {c : ℕ} → Acts m old new c → Woken m i old new ts rest
    unfolding is_wait
    by-acts (assigns b h x o p r q) = by-firing (r.threads i (other h refl))
    by-acts (defers {i = j} b h x o p c) = by-calm j (other h refl) c
    by-acts (jumps {i = j} b h p c q) = by-calm j (other h refl) c
    by-acts (goes_in {i = j} b h x p c q) = by-calm j (other h refl) c
    by-acts (passes-by {i = j} b h x p c q) = by-calm j (other h refl) c
    by-acts (settles b h x o r q) = by-firing (r.threads i (λ z. z))
    by-acts (commits h q b p x o y z r) = by-firing (r.threads i (λ u. u))

-- ---- a thread that has something to do

module _ (s : List ℕ) (m : Module Expr) (i : ℕ) where
  leg : (u : ℕ) (st : State) (what : Stmt Expr) → Goes s m u i st what → Leg s m i u st what
  unfolding current
  leg u st what g =
      record {
        writes = g.writes;
        terms = g.terms;
        rest = behind (whole m i) g.place;
        means = g.means;
        count = g.count;
        most = g.most;
        along = g.along;
        wrote = λ l. (g.arrives l).writes;
        waits = λ l. record {
          wait = ap (instr_at (code_of m i)) (g.arrives l).place ∙ g.wait;
          remains = ap (behind (whole m i)) (sym (g.arrives l).place);
        };
      }

pub from-wait-to-wait : FromWaitToWait
from-wait-to-wait s m r i l loops =
    record {
      begins = λ st e. rw e at-start;
      goes = λ u b st h f what d. leg s m i u st what (as_written s m r u b i l loops st h f what d);
      by-choice = λ old new c x ts rest w. by-acts m i old new ts rest w x;
      by-instant = λ old new a x ts rest w. by-firing m i old new ts rest w (x.reacted.threads i (λ z. z));
    }

pub of-a-sheet : OfASheet
of-a-sheet s m r h i l = from-wait-to-wait s m r i l (rule-17 m h i l)
