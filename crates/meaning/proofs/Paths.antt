-- Paths of a thread alone: instructions one after the other, none of them a wait, with what they write. Two paths make one
-- (path-then), and a path has a first part of any length (path-cut). Assumes nothing.
use Prim.Native.Nat.{ℕ, zero, suc, ◌+◌, ◌-◌, ◌≤◌}
use mathlib.Core.Path.{◌≡◌, refl, sym, ap, ◌∙◌, subst}
use mathlib.Core.Bool.{false}
use mathlib.Core.List.{List, [], ◌∷◌, ◌++◌, append-nil, append_assoc}
use mathlib.Core.Option.{Option}
use native.Mathlib.Omega.{arith}
use Rattle.values.specs.declared.Value.{Value}
use Rattle.sheet.specs.Expression.{Expr}
use Rattle.sheet.specs.Module.{Module}
use Rattle.evaluation.specs.Evaluation.{eval}
use Rattle.pseudocode.specs.Translation.{Instr, wait!, set!, later!, go, ifnot}
use Rattle.events.specs.Cycle.{code_of, instr_at, is_wait}
use Rattle.threads.specs.Alone.{Local, exec, turn, put_pending}
use Rattle.nextstate.specs.Book.{put}
use Rattle.meaning.specs.Meaning.{Write, stored, deferred, values_after}
use Rattle.meaning.specs.Thread.{pending_after}

-- ---- writes one after the other

pub values-append : (f : ℕ → Value) (ws us : List Write) → values_after f (ws ++ us) ≡ values_after (values_after f ws) us
unfolding values_after
values-append f [] us = refl
values-append f (stored t a ∷ ws) us = values-append (put f t a) ws us
values-append f (deferred t a ∷ ws) us = values-append f ws us

pub pending-append : (m : Module Expr) (o : ℕ → Option Value) (ws us : List Write) →
    pending_after m o (ws ++ us) ≡ pending_after m (pending_after m o ws) us
unfolding pending_after
pending-append m o [] us = refl
pending-append m o (stored t a ∷ ws) us = pending-append m o ws us
pending-append m o (deferred t a ∷ ws) us = pending-append m (put_pending o (t - m.scope.inputs) a) ws us

-- ---- moved: at another place, with writes made

unfoldable pub moved : Module Expr → ℕ → List Write → Local → Local
moved m q ws L =
    record { place = q; values = values_after L.values ws; pending = pending_after m L.pending ws }

pub moved-moved : (m : Module Expr) (p q : ℕ) (ws us : List Write) (L : Local) →
    moved m q us (moved m p ws L) ≡ moved m q (ws ++ us) L
unfolding moved
moved-moved m p q ws us L = rw (values-append L.values ws us, pending-append m L.pending ws us)

pub moved-place : (m : Module Expr) (q : ℕ) (ws : List Write) (L : Local) → (moved m q ws L).place ≡ q
unfolding moved
moved-place m q ws L = refl

pub moved-values : (m : Module Expr) (q : ℕ) (ws : List Write) (L : Local) → (moved m q ws L).values ≡ values_after L.values ws
unfolding moved
moved-values m q ws L = refl

pub moved_none : (m : Module Expr) (q : ℕ) (L : Local) → L.place ≡ q → L ≡ moved m q [] L
unfolding moved values_after pending_after
moved_none m q L e = ap (λ p. record { place = p; values = L.values; pending = L.pending }) e

-- ---- what an instruction writes

unfoldable pub wrote : Instr Expr → Local → List Write
wrote (wait! ts) L = []
wrote (set! t e) L = stored t (eval L.values e) ∷ []
wrote (later! t e) L = deferred t (eval L.values e) ∷ []
wrote (go g) L = []
wrote (ifnot e g) L = []

module _ (m : Module Expr) (i : ℕ) where
  pub data Path : ℕ → Local → List Write → Local → Type 0 where
    here : {L : Local} → Path 0 L [] L
    onward : {n : ℕ} {L M : Local} {ws : List Write} → is_wait (instr_at (code_of m i) L.place) ≡ false →
        Path n (turn m i L) ws M → Path (suc n) L (wrote (instr_at (code_of m i) L.place) L ++ ws) M

  pub path-as : {n k : ℕ} {L M N : Local} {ws us : List Write} → Path n L ws M → n ≡ k → ws ≡ us → M ≡ N → Path k L us N
  path-as {k = k} {L} {M} {N} {ws} {us} x e f g =
      subst (λ P. Path k L us P) g (subst (λ vs. Path k L vs M) f (subst (λ j. Path j L ws M) e x))

  pub path-then : {a b : ℕ} {L M N : Local} {ws us : List Write} → Path a L ws M → Path b M us N → Path (a + b) L (ws ++ us) N
  path-then {b = b} here y = path-as y (omega arith) refl refl
  path-then {b = b} {N = N} {us = us} (onward {n = n} {L = L} {M = M} {ws = ws} h x) y =
      path-as (onward h (path-then x y)) (omega arith) (sym (append_assoc (wrote (instr_at (code_of m i) L.place) L) ws us)) refl

  pub path-none : {L : Local} {q : ℕ} → L.place ≡ q → Path 0 L [] (moved m q [] L)
  path-none {L} {q} e = path-as here refl refl (moved_none m q L e)

  -- One instruction, at place p.
  pub path-one : {L : Local} {p : ℕ} (q : ℕ) (j : Instr Expr) (ws : List Write) → L.place ≡ p → instr_at (code_of m i) p ≡ j →
      is_wait j ≡ false → wrote j L ≡ ws → exec m j L ≡ moved m q ws L → Path 1 L ws (moved m q ws L)
  unfolding turn
  path-one {L} {p} q j ws e h k w x =
      let here-j : instr_at (code_of m i) L.place ≡ j = ap (instr_at (code_of m i)) e ∙ h in
      path-as (onward (ap is_wait here-j ∙ k) here) refl
      (append-nil (wrote (instr_at (code_of m i) L.place) L) ∙ ap (λ y. wrote y L) here-j ∙ w)
      (ap (λ y. exec m y L) here-j ∙ x)

  -- One after the other, each told by where it leads.
  pub path-on : {a b : ℕ} (L : Local) (p q : ℕ) {ws us : List Write} → Path a L ws (moved m p ws L) →
      Path b (moved m p ws L) us (moved m q us (moved m p ws L)) → Path (a + b) L (ws ++ us) (moved m q (ws ++ us) L)
  path-on L p q {ws} {us} x y = path-as (path-then x y) refl refl (moved-moved m p q ws us L)

  -- The same where the second writes nothing.
  pub path-quiet : {a b : ℕ} (L : Local) (p q : ℕ) {ws : List Write} → Path a L ws (moved m p ws L) →
      Path b (moved m p ws L) [] (moved m q [] (moved m p ws L)) → Path (a + b) L ws (moved m q ws L)
  path-quiet {a} {b} L p q {ws} x y =
      subst (λ us. Path (a + b) L us (moved m q us L)) (append-nil ws) (path-on L p q x y)

  -- A path to a place, as a path to an equal one.
  pub path-to : {a : ℕ} (L : Local) (p q : ℕ) {ws : List Write} → p ≡ q → Path a L ws (moved m p ws L) → Path a L ws (moved m q ws L)
  path-to L p q {ws} e x = path-as x refl refl (ap (λ r. moved m r ws L) e)

  -- A path changes what its instructions write, and nothing else.
  exec-moved : (j : Instr Expr) (L : Local) → exec m j L ≡ moved m (exec m j L).place (wrote j L) L
  unfolding exec moved wrote values_after pending_after
  exec-moved (wait! ts) L = refl
  exec-moved (set! t e) L = refl
  exec-moved (later! t e) L = refl
  exec-moved (go g) L = refl
  exec-moved (ifnot e g) L = refl

  pub path-moved : {n : ℕ} {L M : Local} {ws : List Write} → Path n L ws M → M ≡ moved m M.place ws L
  unfolding turn
  path-moved (here {L = L}) = moved_none m L.place L refl
  path-moved (onward {L = L} {M = M} {ws = ws} h x) =
      let j = instr_at (code_of m i) L.place in
      path-moved x ∙ ap (moved m M.place ws) (exec-moved j L) ∙ moved-moved m (exec m j L).place M.place (wrote j L) ws L

  -- The first k instructions of a path.
  pub record Cut (k : ℕ) (L : Local) (ws : List Write) : Type 0 where
    pub reached : Local
    pub first : List Write
    pub rest : List Write
    pub path : Path k L first reached
    pub writes : ws ≡ first ++ rest

  pub path-cut : (k : ℕ) {n : ℕ} {L M : Local} {ws : List Write} → Path n L ws M → k ≤ n → Cut k L ws
  path-cut zero {L = L} {ws = ws} x l = record { reached = L; first = []; rest = ws; path = here; writes = refl }
  path-cut (suc k) here l = absurd (omega arith)
  path-cut (suc k) (onward {L = L} {ws = ws} h x) l =
      let c = path-cut k x (omega arith) in
      let w = wrote (instr_at (code_of m i) L.place) L in
      record {
        reached = c.reached;
        first = w ++ c.first;
        rest = c.rest;
        path = onward h c.path;
        writes = ap (λ y. w ++ y) c.writes ∙ sym (append_assoc w c.first c.rest);
      }
