-- The steps of statements beside the grammar's readers: what each does to what was read and written so far.
-- Assumes nothing.
use mathlib.Core.Path.{◌≡◌, refl, sym, ap, ◌∙◌}
use mathlib.Core.Bool.{Bool, true, false}
use mathlib.Core.List.{List, [], ◌∷◌, ◌++◌, append-nil}
use Prim.Native.Nat.{ℕ, suc, ◌+◌, ◌≤◌, ◌<◌, min}
use native.Mathlib.Omega.{arith}
use lib.Dec.{ltb}
use lib.ListN.{length, take, set, length-append, length-set}
use lib.Seq.{take-set-lt, set_at}
use borrow.Author.Tests.{lt-ltb, ltb-false}
use Rattle.values.specs.Values.{pick}
use Rattle.verilog_tokens.specs.Tokens.{Token}
use Rattle.verilog_grammar.specs.Reader.{Res, ok, no, Reader, bind, give, starts, if_next, expect}
use Rattle.verilog_bytes.specs.Turning.{behind}
use Rattle.verilog_bytes.specs.Held.{place_of, Held}
use Rattle.verilog_bytes.proofs.Held.{held-puts, held-turned, held-fronted}
use Rattle.verilog_exprs.specs.declared.Put.{Put}
use Rattle.verilog_exprs.specs.Rows.{expected}
use Rattle.verilog_exprs.specs.Following.{Tabled, Passed, Stopped, Follows}
use Rattle.verilog_exprs.proofs.Table.{expected-no}
use Rattle.verilog_exprs.proofs.Marks.{Numbered}
use Rattle.verilog_exprs.proofs.Follows.{from_next, mark-at, starts_none, expect-first, closed-follows}
use Rattle.verilog_stmts.specs.Steps.{State, moved, refused, after, is_next, write, front, stamped, stamp_at, last}

-- ---- a refusal stays where it was met

abbrev pub Still : List Token → (State → State) → Type 0
Still ts f = (s : State) (n : ℕ) → Stopped ts s n → Stopped ts (f s) n

pub not-next : (ks : List ℕ) (k : ℕ) (p : Put) → p.ok ≡ false → is_next ks k p ≡ false
unfolding is_next
not-next ks k p h = rw h refl

module _ (ts : List Token) where
  pub still-write : (bs : List ℕ) → Still ts (write bs)
  unfolding write
  still-write bs s n h = record { not = h.not; at = h.at }

  pub still-stamp : (b place : ℕ) → Still ts (stamp_at b place)
  unfolding stamp_at
  still-stamp b place s n h = record { not = h.not; at = h.at }

  pub still-refused : Still ts (moved refused)
  unfolding refused
  still-refused s n h = record { not = refl; at = h.at }

  pub still-expected : (ks : List ℕ) (k : ℕ) → Still ts (moved (expected ks k))
  still-expected ks k s n h = rw (expected-no ks k s.put h.not) (record { not = refl; at = h.at })

  pub still-next : (ks : List ℕ) (k : ℕ) (f g : State → State) → Still ts g → Still ts (λ s. pick (is_next ks k s.put) f g s)
  still-next ks k f g e s n h = rw (not-next ks k s.put h.not) (e s n h)

  -- ---- one step behind another

  pub then-follows : {A B : Type 0} (f : State → State) (l m : List ℕ) (bytes_a : A → List ℕ) (bytes_b : B → List ℕ) (w : State)
      (r : Res A) (g : A → Reader B) → Follows ts l bytes_a w r → Still ts f
      → ((a : A) (us : List Token) → Passed ts w us (l ++ bytes_a a) → Follows ts m bytes_b (f w) (g a us))
      → Follows ts m bytes_b (f w) (bind r g)
  unfolding Follows
  then-follows f l m bytes_a bytes_b w (ok a us) g h e k = k a us h
  then-follows f l m bytes_a bytes_b w (no n) g h e k = e w n h

  -- By a test that is known.
  pub yes-follows : {B : Type 0} (m : List ℕ) (bytes_b : B → List ℕ) (b : Bool) (f g : State → State) (s : State) (r : Res B) → b ≡ true
      → Follows ts m bytes_b (f s) r → Follows ts m bytes_b (pick b f g s) r
  yes-follows m bytes_b b f g s r e h = rw e h

  pub no-still : (b : Bool) (f g : State → State) (s : State) (n : ℕ) → b ≡ false → Stopped ts (g s) n → Stopped ts (pick b f g s) n
  no-still b f g s n e h = rw e h

  -- No turn is left.
  pub none_left : {B : Type 0} (m : List ℕ) (bytes_b : B → List ℕ) {l : List ℕ} (s : State) (us : List Token) → Passed ts s us l
      → Follows ts m bytes_b (moved refused s) (no (length us))
  unfolding Follows refused
  none_left m bytes_b s us h = record { not = refl; at = h.to.count }

  pub given : {B : Type 0} (m l : List ℕ) (bytes_b : B → List ℕ) (w : State) (us : List Token) (b : B) → Passed ts w us l → l ≡ m ++ bytes_b b
      → Follows ts m bytes_b w (give b us)
  unfolding Follows
  given m l bytes_b w us b h e = rw e at h

  -- ---- bytes

  pub passed-write : {l : List ℕ} (xs : List ℕ) (s : State) (us : List Token) → Passed ts s us l → Passed ts (write xs s) us (l ++ xs)
  unfolding write
  passed-write xs s us h = record { yes = h.yes; to = h.to; holds = held-puts xs h.holds }

  -- A byte in place of another.
  held-stamped : {bs : List ℕ} {p : ℕ} (l r : List ℕ) (x y from : ℕ) → from ≡ place_of l → Held bs p (l ++ (x ∷ r))
      → Held (stamped y from bs) p (l ++ (y ∷ r))
  unfolding stamped
  held-stamped {bs} {p} l r x y from e held = by (ltb from 65536) refl
    where
      old : length (l ++ (x ∷ r)) ≡ length l + suc (length r)
      old = length-append l (x ∷ r)

      new : length (l ++ (y ∷ r)) ≡ length l + suc (length r)
      new = length-append l (y ∷ r)

      at : p ≡ place_of (l ++ (y ∷ r))
      at = held.place ∙ ap (λ n. min n 65536) (old ∙ sym new)

      by : (b : Bool) → ltb from 65536 ≡ b → Held (pick b (set bs from y) bs) p (l ++ (y ∷ r))
      by true q = record {
        room = length-set bs from y ∙ held.room;
        place = at;
        front = λ h.
            let m : length l + suc (length r) ≤ 65536 = omega (arith, new) in
            let n : length l ≡ from = omega (arith, e) in
            rw new (take-set-lt (length l + suc (length r)) bs from y (omega arith)
            ∙ ap (λ z. set z from y) (ap (λ j. take j bs) (sym old) ∙ held.front (omega (arith, old)))
            ∙ set_at l x r y from n);
      }
      by false q =
          let f = ltb-false from 65536 q in
          record { room = held.room; place = at; front = λ h. absurd (omega (arith, new, e)) }

  pub passed-stamp : (l r : List ℕ) (x y from : ℕ) (s : State) (us : List Token) → from ≡ place_of l → Passed ts s us (l ++ (x ∷ r))
      → Passed ts (stamp_at y from s) us (l ++ (y ∷ r))
  unfolding stamp_at
  passed-stamp l r x y from s us e h = record { yes = h.yes; to = h.to; holds = held-stamped l r x y from e h.holds }

  pub passed-front : (b from : ℕ) (l a : List ℕ) (s : State) (us : List Token) → from ≡ place_of l → Passed ts s us (l ++ a)
      → Passed ts (front b from s) us (l ++ (b ∷ a))
  unfolding front
  passed-front b from l a s us e h = record { yes = h.yes; to = h.to; holds = held-fronted from l a (b ∷ []) e h.holds }

  pub passed-last : (from mid : ℕ) (l a b : List ℕ) (s : State) (us : List Token) → from ≡ place_of l → mid ≡ place_of (l ++ a)
      → Passed ts s us (l ++ (a ++ b)) → Passed ts (last from mid s) us (l ++ (b ++ a))
  unfolding last behind
  passed-last from mid l a b s us e f h = record { yes = h.yes; to = h.to; holds = rw (e, f) (held-turned l a b h.holds) }

-- ---- tokens

unbound : {B : Type 0} (r : Res (Unit {0})) (g : Unit {0} → Reader B) → bind (bind r (λ u. give (tt {0}))) g ≡ bind r g
unbound (ok u us) g = refl
unbound (no n) g = refl

module _ (index : List ℕ → ℕ) (ts : List Token) (ks ns : List ℕ) (tab : Tabled index ts ks ns) where
  -- Behind the token that is next.
  pub passed-after : {l : List ℕ} (s : State) (t : Token) (us : List Token) → Passed ts s (t ∷ us) l → Passed ts (moved after s) us l
  unfolding after
  passed-after s t us h =
      let i : s.put.next < 16385 = omega (arith, h.to.count, tab.few) in
      rw (lt-ltb s.put.next 16385 i) (record { yes = h.yes; to = from_next ts s.put.next t us h.to; holds = h.holds })

  module _ (w : List ℕ) (k : ℕ) (mark : Numbered w k) (one : 1 ≤ k) where
    pub next-starts : {l : List ℕ} (s : State) (us : List Token) → Passed ts s us l → is_next ks k s.put ≡ starts w us
    unfolding is_next
    next-starts s us h = rw h.yes (mark-at index ts ks ns tab w k mark one s.put.next us h.to)

    pub by_next : {B : Type 0} {l : List ℕ} (m : List ℕ) (bytes_b : B → List ℕ) (f g : State → State) (a b : Reader B) (s : State)
        (us : List Token) → Passed ts s us l → (starts w us ≡ true → Follows ts m bytes_b (f s) (a us))
        → (starts w us ≡ false → Follows ts m bytes_b (g s) (b us))
        → Follows ts m bytes_b (pick (is_next ks k s.put) f g s) (if_next w a b us)
    unfolding if_next
    by_next m bytes_b f g a b s us h x y = rw (next-starts s us h) (by (starts w us) x y)
      where
        by : (t : Bool) → (t ≡ true → Follows ts m bytes_b (f s) (a us)) → (t ≡ false → Follows ts m bytes_b (g s) (b us))
            → Follows ts m bytes_b (pick t f g s) (pick t a b us)
        by true u v = u refl
        by false u v = v refl

    -- A mark that is known to be next.
    pub over : {B : Type 0} {l : List ℕ} (m : List ℕ) (bytes_b : B → List ℕ) (x : State) (f : Unit {0} → Reader B) (s : State)
        (us : List Token) → Passed ts s us l → starts w us ≡ true
        → ((vs : List Token) → Passed ts (moved after s) vs l → Follows ts m bytes_b x (f tt vs))
        → Follows ts m bytes_b x (bind (expect w us) f)
    over m bytes_b x f s [] h e g = absurd (starts_none w e)
    over m bytes_b x f s (t ∷ us) h e g = rw (expect-first w t us e) (g us (passed-after s t us h))

    expected-follows : {l : List ℕ} (s : State) (us : List Token) → Passed ts s us l
        → Follows ts l (λ u. []) (moved (expected ks k) s) (bind (expect w us) (λ u. give (tt {0})))
    unfolding Follows
    expected-follows {l} s us h =
        closed-follows index ts ks ns tab w k mark one l l (λ u. []) (λ u. []) s (ok (tt {0}) us) (λ u. tt {0}) (rw (append-nil l) h)
        (λ u. refl)

    -- A mark that is asked for.
    pub asked : {B : Type 0} {l : List ℕ} (m : List ℕ) (bytes_b : B → List ℕ) (f : State → State) (g : Unit {0} → Reader B) (s : State)
        (us : List Token) → Passed ts s us l → Still ts f
        → ((vs : List Token) → Passed ts (moved (expected ks k) s) vs l → Follows ts m bytes_b (f (moved (expected ks k) s)) (g tt vs))
        → Follows ts m bytes_b (f (moved (expected ks k) s)) (bind (expect w us) g)
    asked {l = l} m bytes_b f g s us h e x =
        rw (unbound (expect w us) g) at
        (then-follows ts f l m (λ u. []) bytes_b (moved (expected ks k) s) (bind (expect w us) (λ u. give (tt {0}))) g
        (expected-follows s us h) e (λ u vs j. x vs (rw (append-nil l) at j)))
