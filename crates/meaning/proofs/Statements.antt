-- A statement that stands in a thread's code does what it means: from its first place (reach) and from behind any of its waits
-- (reach-behind). Assumes nothing.
use Prim.Native.Nat.{ℕ, suc, ◌+◌, ◌*◌, ◌-◌, ◌≤◌, ◌<◌}
use mathlib.Core.Path.{◌≡◌, refl, sym, ap, ◌∙◌, subst}
use mathlib.Core.Bool.{Bool, true, false}
use mathlib.Core.List.{List, [], ◌∷◌, ◌++◌}
use native.Mathlib.Decide.{dec_lt}
use native.Mathlib.Omega.{arith}
use lib.ListN.{length}
use lib.Dec.{ltb}
use borrow.Author.Tests.{lt-ltb, le-ltb, ltb-true, ltb-false}
use Rattle.values.specs.declared.Value.{Value}
use Rattle.values.specs.Values.{pick, holds}
use Rattle.sheet.specs.declared.EdgeTerm.{EdgeTerm}
use Rattle.sheet.specs.Expression.{Expr}
use Rattle.sheet.specs.Statement.{Stmt, empty, assign, later, sequence, if_then, if_else, while, forever, wait, size}
use Rattle.sheet.specs.Module.{Module}
use Rattle.evaluation.specs.Evaluation.{eval}
use Rattle.pseudocode.specs.Translation.{Instr, wait!, set!, later!, go, ifnot, translate}
use Rattle.pseudocode.proofs.Translation.{translate-size}
use Rattle.events.specs.Cycle.{code_of, instr_at, is_wait}
use Rattle.events.proofs.Cycle.{absurd-bool, and_left, and_right}
use Rattle.nextstate.specs.Rules.{surely_waits, loops_wait}
use Rattle.threads.specs.Alone.{Local, exec}
use Rattle.nextstate.proofs.Ruled.{or-either}
use Rattle.meaning.specs.Meaning.{Write, stored, deferred, values_after, Course, ends, stops, prefixed, followed, nothing, meaning, SureStop}
use Rattle.meaning.specs.Thread.{behind, pending_after}
use Rattle.meaning.proofs.Paths.{moved, moved-place, wrote, Path, path-none, path-one, path-on, path-quiet, path-to}

-- ---- what surely waits stops

abbrev pub Stops : Course → Type 0
Stops (ends ws) = ⊥
Stops (stops ws ts r) = Unit {0}

followed-first : (X : Course) (b : Stmt Expr) (next : List Write → Course) → Stops X → Stops (followed X b next)
unfolding followed
followed-first (ends ws) b next h = absurd h
followed-first (stops ws ts r) b next h = tt

prefixed-stops : (ws : List Write) (X : Course) → Stops X → Stops (prefixed ws X)
unfolding prefixed
prefixed-stops ws (ends us) h = absurd h
prefixed-stops ws (stops us ts r) h = tt

pub followed-next : (X : Course) (b : Stmt Expr) (next : List Write → Course) → ((ws : List Write) → Stops (next ws)) →
    Stops (followed X b next)
unfolding followed
followed-next (ends ws) b next h = prefixed-stops ws (next ws) (h ws)
followed-next (stops ws ts r) b next h = tt

pick-stops : (t : Bool) (X Y : Course) → Stops X → Stops Y → Stops (pick t X Y)
pick-stops true X Y h k = h
pick-stops false X Y h k = k

pub sure-stops : (s : Stmt Expr) → surely_waits s ≡ true → loops_wait s ≡ true → (f : ℕ → Value) → Stops (meaning s f)
unfolding surely_waits loops_wait meaning
sure-stops empty h l f = absurd-bool h refl
sure-stops (assign t e) h l f = absurd-bool h refl
sure-stops (later t e) h l f = absurd-bool h refl
sure-stops (sequence a b) h l f =
    or-either (surely_waits a) (surely_waits b) h
    (λ k. followed-first (meaning a f) b _ (sure-stops a k (and_left (loops_wait a) (loops_wait b) l) f))
    (λ k. followed-next (meaning a f) b _ (λ ws. sure-stops b k (and_right (loops_wait a) (loops_wait b) l) (values_after f ws)))
sure-stops (if_then e a) h l f = absurd-bool h refl
sure-stops (if_else e a b) h l f =
    pick-stops (holds (eval f e)) (meaning a f) (meaning b f)
    (sure-stops a (and_left (surely_waits a) (surely_waits b) h) (and_left (loops_wait a) (loops_wait b) l) f)
    (sure-stops b (and_right (surely_waits a) (surely_waits b) h) (and_right (loops_wait a) (loops_wait b) l) f)
sure-stops (while e a) h l f = absurd-bool h refl
sure-stops (forever a) h l f =
    followed-first (meaning a f) (forever a) nothing
    (sure-stops a (and_left (surely_waits a) (loops_wait a) l) (and_right (surely_waits a) (loops_wait a) l) f)
sure-stops (wait ts) h l f = tt

pub sure-stop : SureStop
sure-stop s h l f ws e = subst (λ (X : Course). Stops X) e (sure-stops s h l f)

-- ---- the instructions l stand in the code c from place n on (as in threads/proofs/Resting)

abbrev pub Stand : List (Instr Expr) → ℕ → List (Instr Expr) → Type 0
Stand c n [] = Unit {0}
Stand c n (i ∷ l) = (instr_at c n ≡ i) × Stand c (n + 1) l

stand-left : (c : List (Instr Expr)) (n : ℕ) (l k : List (Instr Expr)) → Stand c n (l ++ k) → Stand c n l
stand-left c n [] k h = tt
stand-left c n (i ∷ l) k h = (h.0, stand-left c (n + 1) l k h.1)

stand-right : (c : List (Instr Expr)) (n p : ℕ) (l k : List (Instr Expr)) → n + length l ≡ p → Stand c n (l ++ k) → Stand c p k
stand-right c n p [] k e h = let z : n ≡ p = omega arith in rw z at h
stand-right c n p (i ∷ l) k e h = stand-right c (n + 1) p l k (omega arith) h.1

stand-behind : (j : Instr Expr) (c : List (Instr Expr)) (n : ℕ) (l : List (Instr Expr)) → Stand c n l → Stand (j ∷ c) (n + 1) l
unfolding instr_at
stand-behind j c n [] h = tt
stand-behind j c n (i ∷ l) h =
    let e : n + 1 ≡ suc n = omega arith in
    (rw e h.0, stand-behind j c (n + 1) l h.1)

pub stand-whole : (c : List (Instr Expr)) → Stand c 0 c
unfolding instr_at
stand-whole [] = tt
stand-whole (i ∷ c) = (refl, stand-behind i c 0 c (stand-whole c))

module _ (m : Module Expr) (i : ℕ) where
  abbrev c : List (Instr Expr)
  c = code_of m i

  -- Statement s, which stands from place n on, is done from L on as a course says: to the place behind it, within e instructions, or
  -- to one of its waits, within w, behind which that remains which the course leaves.
  pub data Reaches (L : Local) (s : Stmt Expr) (n e w : ℕ) : Course → Type 0 where
    to_end : {ws : List Write} (k : ℕ) → k ≤ e → Path m i k L ws (moved m (n + size s) ws L) → Reaches L s n e w (ends ws)
    to-wait : {ws : List Write} {ts : List EdgeTerm} {r : Stmt Expr} (k q : ℕ) → k ≤ w → q < size s →
        instr_at c (n + q) ≡ wait! ts → r ≡ behind s q → Path m i k L ws (moved m (n + q) ws L) → Reaches L s n e w (stops ws ts r)

  pub within : {L : Local} {s : Stmt Expr} {n e w : ℕ} {X : Course} (f v : ℕ) → e ≤ f → w ≤ v → Reaches L s n e w X → Reaches L s n f v X
  within f v a b (to_end k l x) = to_end k (omega arith) x
  within f v a b (to-wait k q l h stands r x) = to-wait k q (omega arith) h stands r x

  -- ---- a path, and then the statement

  along : {L : Local} {s : Stmt Expr} {n e w k : ℕ} {ws : List Write} {X : Course} (p : ℕ) → Path m i k L ws (moved m p ws L) →
      Reaches (moved m p ws L) s n e w X → Reaches L s n (k + e) (k + w) (prefixed ws X)
  unfolding prefixed
  along {L} {s} {n} {k = k} p x (to_end j l y) = to_end (k + j) (omega arith) (path-on m i L p (n + size s) x y)
  along {L} {s} {n} {k = k} p x (to-wait j q l h stands r y) =
      to-wait (k + j) q (omega arith) h stands r (path-on m i L p (n + q) x y)

  prefixed-none : (X : Course) → prefixed [] X ≡ X
  unfolding prefixed
  prefixed-none (ends us) = refl
  prefixed-none (stops us ts r) = refl

  -- The same where the path writes nothing.
  quietly : {L : Local} {s : Stmt Expr} {n e w k : ℕ} {X : Course} (p : ℕ) → Path m i k L [] (moved m p [] L) →
      Reaches (moved m p [] L) s n e w X → Reaches L s n (k + e) (k + w) X
  quietly {L} {s} {n} {e} {w} {k} {X} p x y =
      subst (λ Y. Reaches L s n (k + e) (k + w) Y) (prefixed-none X) (along p x y)

  -- ---- a part a, at place d of statement s, from whose end `out` leads to the end of s in j instructions

  module _ {L : Local} (a s : Stmt Expr) (n p d j : ℕ) (at-d : p ≡ n + d) (room : d + size a ≤ size s)
      (same : (q : ℕ) → q < size a → behind s (d + q) ≡ behind a q)
      (out : (M : Local) → M.place ≡ p + size a → Path m i j M [] (moved m (n + size s) [] M)) where
    part : {e w : ℕ} {X : Course} → Reaches L a p e w X → Reaches L s n (e + j) w X
    part (to_end {ws = ws} k l x) =
        to_end (k + j) (omega arith)
        (path-quiet m i L (p + size a) (n + size s) x (out (moved m (p + size a) ws L) (moved-place m (p + size a) ws L)))
    part (to-wait {ws = ws} k q l h stands r x) =
        let e : p + q ≡ n + (d + q) = omega arith in
        to-wait k (d + q) l (omega arith) (ap (instr_at c) (sym e) ∙ stands) (r ∙ sym (same q h)) (path-to m i L (p + q) (n + (d + q)) e x)

  stay : (p q : ℕ) → p ≡ q → (M : Local) → M.place ≡ p → Path m i 0 M [] (moved m q [] M)
  stay p q e M h = path-none m i (h ∙ e)

  -- ---- the instructions

  module _ {L : Local} (n : ℕ) (h : L.place ≡ n) where
    goes : (g : ℕ) → instr_at c n ≡ go g → Path m i 1 L [] (moved m g [] L)
    unfolding exec moved wrote is_wait values_after pending_after
    goes g x = path-one m i g (go g) [] h x refl refl refl

    goes_in : (e : Expr) (g : ℕ) → instr_at c n ≡ ifnot e g → holds (eval L.values e) ≡ true → Path m i 1 L [] (moved m (n + 1) [] L)
    unfolding exec moved wrote is_wait values_after pending_after
    goes_in e g x t = path-one m i (n + 1) (ifnot e g) [] h x refl refl (rw (t, h) refl)

    passes-by : (e : Expr) (g : ℕ) → instr_at c n ≡ ifnot e g → holds (eval L.values e) ≡ false → Path m i 1 L [] (moved m g [] L)
    unfolding exec moved wrote is_wait values_after pending_after
    passes-by e g x t = path-one m i g (ifnot e g) [] h x refl refl (rw t refl)

    assigns : (t : ℕ) (e : Expr) → instr_at c n ≡ set! t e →
        Path m i 1 L (stored t (eval L.values e) ∷ []) (moved m (n + 1) (stored t (eval L.values e) ∷ []) L)
    unfolding exec moved wrote is_wait values_after pending_after
    assigns t e x = path-one m i (n + 1) (set! t e) (stored t (eval L.values e) ∷ []) h x refl refl (rw h refl)

    defers : (t : ℕ) (e : Expr) → instr_at c n ≡ later! t e →
        Path m i 1 L (deferred t (eval L.values e) ∷ []) (moved m (n + 1) (deferred t (eval L.values e) ∷ []) L)
    unfolding exec moved wrote is_wait values_after pending_after
    defers t e x = path-one m i (n + 1) (later! t e) (deferred t (eval L.values e) ∷ []) h x refl refl (rw h refl)

  -- An instruction that is no wait stands at no wait's place.
  not_at : {j : Instr Expr} (q p : ℕ) → instr_at c q ≡ j → is_wait j ≡ false → is_wait (instr_at c p) ≡ true → p ≡ q → ⊥
  not_at q p x f t e = absurd-bool t (ap (λ r. is_wait (instr_at c r)) e ∙ ap is_wait x ∙ f)

  -- ---- a statement at place n, from its first place and from behind each of its waits

  abbrev FromStart : Stmt Expr → ℕ → Type 0
  FromStart s n = (L : Local) → L.place ≡ n → Reaches L s n (size s) (size s) (meaning s L.values)

  abbrev FromWaits : Stmt Expr → ℕ → Type 0
  FromWaits s n = (p : ℕ) → p < size s → is_wait (instr_at c (n + p)) ≡ true → (L : Local) → L.place ≡ n + p + 1 →
      Reaches L s n (size s) (2 * size s) (meaning (behind s p) L.values)

  pub record Done (s : Stmt Expr) (n : ℕ) : Type 0 where
    pub start : FromStart s n
    pub waits : FromWaits s n

  -- ---- sequence

  module _ (a b : Stmt Expr) (n : ℕ) where
    second-part : {L : Local} {e w : ℕ} {X : Course} → Reaches L b (n + size a) e w X → Reaches L (sequence a b) n (e + 0) w X
    unfolding size behind
    second-part x =
        part b (sequence a b) n (n + size a) (size a) 0 refl (omega arith)
        (λ q l. let d : size a + q - size a ≡ q = omega arith in rw (le-ltb (size a + q) (size a) (omega arith), d) refl)
        (stay (n + size a + size b) (n + (size a + size b)) (omega arith)) x

    in-turn : {L : Local} {e w : ℕ} {X : Course} (v : ℕ) (next : List Write → Course) → e ≤ size a → w ≤ v → size a + size b ≤ v →
        Reaches L a n e w X → ((ws : List Write) → Reaches (moved m (n + size a) ws L) b (n + size a) (size b) (size b) (next ws)) →
        Reaches L (sequence a b) n (size a + size b) v (followed X b next)
    unfolding followed size behind
    in-turn v next le lw lv (to_end {ws = ws} k l x) y =
        within (size a + size b) v (omega arith) (omega arith) (along (n + size a) x (second-part (y ws)))
    in-turn v next le lw lv (to-wait {r = u} k q l h stands r x) y =
        to-wait {r = sequence u b} k q (omega arith) (omega arith) stands
        (rw (lt-ltb q (size a) h) (ap (λ (z : Stmt Expr). sequence z b) r)) x

    module _ (A : Done a n) (B : Done b (n + size a)) where
      next-part : (L : Local) (ws : List Write) →
          Reaches (moved m (n + size a) ws L) b (n + size a) (size b) (size b) (meaning b (values_after L.values ws))
      unfolding moved
      next-part L ws = B.start (moved m (n + size a) ws L) refl

      sequence-start : FromStart (sequence a b) n
      unfolding meaning size
      sequence-start L h =
          in-turn (size a + size b) (λ ws. meaning b (values_after L.values ws)) (omega arith) (omega arith) (omega arith)
          (A.start L h) (next-part L)

      sequence-waits : FromWaits (sequence a b) n
      unfolding meaning size behind
      sequence-waits p l t L h = by (ltb p (size a)) refl
        where
          by : (x : Bool) → ltb p (size a) ≡ x →
              Reaches L (sequence a b) n (size a + size b) (2 * (size a + size b))
              (meaning (pick x (sequence (behind a p) b) (behind b (p - size a))) L.values)
          by true x =
              in-turn (2 * (size a + size b)) (λ ws. meaning b (values_after L.values ws)) (omega arith) (omega arith) (omega arith)
              (A.waits p (ltb-true p (size a) x) t L h) (next-part L)
          by false x =
              let d = ltb-false p (size a) x in
              let e : n + p ≡ n + size a + (p - size a) = omega arith in
              within (size a + size b) (2 * (size a + size b)) (omega arith) (omega arith)
              (second-part (B.waits (p - size a) (omega arith) (ap (λ q. is_wait (instr_at c q)) (sym e) ∙ t) L (omega arith)))

  -- ---- if

  -- Behind a statement's first instruction.
  after-head : {j : Instr Expr} (n p : ℕ) → instr_at c n ≡ j → is_wait j ≡ false → is_wait (instr_at c (n + p)) ≡ true → 0 < p
  after-head n p x f t = by (dec_lt 0 p)
    where
      by : Dec (0 < p) → 0 < p
      by (yes l) = l
      by (no d) = absurd (not_at n (n + p) x f t (omega arith))

  module _ (e : Expr) (a : Stmt Expr) (n : ℕ) (head : instr_at c n ≡ ifnot e (n + 1 + size a)) (A : Done a (n + 1)) where
    if-part : {L : Local} {y w : ℕ} {X : Course} → Reaches L a (n + 1) y w X → Reaches L (if_then e a) n (y + 0) w X
    unfolding size behind
    if-part x =
        part a (if_then e a) n (n + 1) 1 0 refl (omega arith) (λ q l. ap (behind a) (omega arith))
        (stay (n + 1 + size a) (n + (size a + 1)) (omega arith)) x

    if-start : FromStart (if_then e a) n
    unfolding meaning size moved values_after
    if-start L h = by (holds (eval L.values e)) refl
      where
        by : (t : Bool) → holds (eval L.values e) ≡ t →
            Reaches L (if_then e a) n (size a + 1) (size a + 1) (pick t (meaning a L.values) (ends []))
        by true t =
            within (size a + 1) (size a + 1) (omega arith) (omega arith)
            (quietly (n + 1) (goes_in n h e (n + 1 + size a) head t) (if-part (A.start (moved m (n + 1) [] L) refl)))
        by false t =
            to_end 1 (omega arith)
            (path-to m i L (n + 1 + size a) (n + (size a + 1)) (omega arith) (passes-by n h e (n + 1 + size a) head t))

    if-waits : FromWaits (if_then e a) n
    unfolding size behind is_wait
    if-waits p l t L h =
        let d = after-head n p head refl t in
        let q : n + p ≡ n + 1 + (p - 1) = omega arith in
        within (size a + 1) (2 * (size a + 1)) (omega arith) (omega arith)
        (if-part (A.waits (p - 1) (omega arith) (ap (λ q. is_wait (instr_at c q)) (sym q) ∙ t) L (omega arith)))

  -- ---- if-else

  module _ (e : Expr) (a b : Stmt Expr) (n : ℕ) (head : instr_at c n ≡ ifnot e (n + 2 + size a))
      (jump : instr_at c (n + 1 + size a) ≡ go (n + 2 + size a + size b)) (A : Done a (n + 1)) (B : Done b (n + 2 + size a)) where
    held-part : {L : Local} {y w : ℕ} {X : Course} → Reaches L a (n + 1) y w X → Reaches L (if_else e a b) n (y + 1) w X
    unfolding size behind
    held-part x =
        part a (if_else e a b) n (n + 1) 1 1 refl (omega arith)
        (λ q l. let d : 1 + q - 1 ≡ q = omega arith in rw (lt-ltb (1 + q) (1 + size a) (omega arith), d) refl)
        (λ M h. path-to m i M (n + 2 + size a + size b) (n + (size a + size b + 2)) (omega arith)
        (goes (n + 1 + size a) h (n + 2 + size a + size b) jump)) x

    other-part : {L : Local} {y w : ℕ} {X : Course} → Reaches L b (n + 2 + size a) y w X → Reaches L (if_else e a b) n (y + 0) w X
    unfolding size behind
    other-part x =
        part b (if_else e a b) n (n + 2 + size a) (2 + size a) 0 (omega arith) (omega arith)
        (λ q l.
        let d : 2 + size a + q - (2 + size a) ≡ q = omega arith in
        rw (le-ltb (2 + size a + q) (1 + size a) (omega arith), d) refl)
        (stay (n + 2 + size a + size b) (n + (size a + size b + 2)) (omega arith)) x

    if-else-start : FromStart (if_else e a b) n
    unfolding meaning size moved values_after
    if-else-start L h = by (holds (eval L.values e)) refl
      where
        by : (t : Bool) → holds (eval L.values e) ≡ t →
            Reaches L (if_else e a b) n (size a + size b + 2) (size a + size b + 2) (pick t (meaning a L.values) (meaning b L.values))
        by true t =
            within (size a + size b + 2) (size a + size b + 2) (omega arith) (omega arith)
            (quietly (n + 1) (goes_in n h e (n + 2 + size a) head t) (held-part (A.start (moved m (n + 1) [] L) refl)))
        by false t =
            within (size a + size b + 2) (size a + size b + 2) (omega arith) (omega arith)
            (quietly (n + 2 + size a) (passes-by n h e (n + 2 + size a) head t)
            (other-part (B.start (moved m (n + 2 + size a) [] L) refl)))

    if-else-waits : FromWaits (if_else e a b) n
    unfolding meaning size behind is_wait
    if-else-waits p l t L h = by (ltb p (1 + size a)) refl
      where
        by : (x : Bool) → ltb p (1 + size a) ≡ x →
            Reaches L (if_else e a b) n (size a + size b + 2) (2 * (size a + size b + 2))
            (meaning (pick x (behind a (p - 1)) (behind b (p - (2 + size a)))) L.values)
        by true x =
            let u = ltb-true p (1 + size a) x in
            let d = after-head n p head refl t in
            let q : n + p ≡ n + 1 + (p - 1) = omega arith in
            within (size a + size b + 2) (2 * (size a + size b + 2)) (omega arith) (omega arith)
            (held-part (A.waits (p - 1) (omega arith) (ap (λ q. is_wait (instr_at c q)) (sym q) ∙ t) L (omega arith)))
        by false x =
            let u = ltb-false p (1 + size a) x in
            let v : p ≡ 1 + size a → ⊥ = λ z. not_at (n + 1 + size a) (n + p) jump refl t (omega arith) in
            let q : n + p ≡ n + 2 + size a + (p - (2 + size a)) = omega arith in
            within (size a + size b + 2) (2 * (size a + size b + 2)) (omega arith) (omega arith)
            (other-part
            (B.waits (p - (2 + size a)) (omega arith) (ap (λ q. is_wait (instr_at c q)) (sym q) ∙ t) L (omega arith)))

  -- ---- a loop s, whose body a stands d places behind its first

  module _ (a s : Stmt Expr) (n p d : ℕ) (at-d : p ≡ n + d) (room : d + size a ≤ size s)
      (same : (q : ℕ) → q < size a → behind s (d + q) ≡ sequence (behind a q) s) where
    -- A body that stops leaves the loop to do.
    in_body : {L : Local} {e w : ℕ} {ws : List Write} {ts : List EdgeTerm} {r : Stmt Expr} (k q : ℕ) → k ≤ w → q < size a →
        instr_at c (p + q) ≡ wait! ts → r ≡ behind a q → Path m i k L ws (moved m (p + q) ws L) →
        Reaches L s n e w (stops ws ts (sequence r s))
    in_body {L} k q l h stands r x =
        let e : p + q ≡ n + (d + q) = omega arith in
        to-wait k (d + q) l (omega arith) (ap (instr_at c) (sym e) ∙ stands) (ap (λ u. sequence u s) r ∙ sym (same q h))
        (path-to m i L (p + q) (n + (d + q)) e x)

    first_round : {L : Local} {e w f : ℕ} {X : Course} → Reaches L a p e w X → Stops X → Reaches L s n f w (followed X s nothing)
    unfolding followed
    first_round (to_end k l x) h = absurd h
    first_round (to-wait k q l b stands r x) h = in_body k q l b stands r x

    -- From inside the body to its end, back by the `go`, and the loop anew.
    next-round : {L : Local} {e w f v : ℕ} {X : Course} (y : ℕ) (next : List Write → Course) → instr_at c (p + size a) ≡ go n →
        e + 1 + v ≤ y → w ≤ y → Reaches L a p e w X → ((ws : List Write) → Reaches (moved m n ws L) s n f v (next ws)) →
        Reaches L s n (e + 1 + f) y (followed X s next)
    unfolding followed
    next-round {L} {e} {f = f} y next back lv lw (to_end {ws = ws} k l x) z =
        within (e + 1 + f) y (omega arith) (omega arith)
        (along n
        (path-quiet m i L (p + size a) n x (goes (p + size a) (moved-place m (p + size a) ws L) n back)) (z ws))
    next-round y next back lv lw (to-wait k q l h stands r x) z = in_body k q (omega arith) h stands r x

  -- ---- while

  module _ (e : Expr) (a : Stmt Expr) (n : ℕ) (head : instr_at c n ≡ ifnot e (n + size a + 2))
      (back : instr_at c (n + 1 + size a) ≡ go n) (sure : surely_waits a ≡ true) (loops : loops_wait a ≡ true) (A : Done a (n + 1)) where
    while-same : (q : ℕ) → q < size a → behind (while e a) (1 + q) ≡ sequence (behind a q) (while e a)
    unfolding behind
    while-same q l = let d : 1 + q - 1 ≡ q = omega arith in rw d refl

    -- Its course, by whether its condition holds.
    abbrev tested : Local → Bool → Course
    tested L x = pick x (followed (meaning a L.values) (while e a) nothing) (ends [])

    -- The condition fails: the loop is over, and its body isn't done.
    while-passed : (L : Local) → L.place ≡ n → holds (eval L.values e) ≡ false →
        Reaches L (while e a) n 1 (size a + 1) (meaning (while e a) L.values)
    unfolding meaning size
    while-passed L h t =
        subst (λ (x : Bool). Reaches L (while e a) n 1 (size a + 1) (tested L x)) (sym t)
        (to_end 1 (omega arith)
        (path-to m i L (n + size a + 2) (n + (size a + 2)) (omega arith) (passes-by n h e (n + size a + 2) head t)))

    while-held : (L : Local) → L.place ≡ n → holds (eval L.values e) ≡ true →
        Reaches L (while e a) n 1 (size a + 1) (meaning (while e a) L.values)
    unfolding meaning size moved values_after
    while-held L h t =
        subst (λ (x : Bool). Reaches L (while e a) n 1 (size a + 1) (tested L x)) (sym t)
        (within 1 (size a + 1) (omega arith) (omega arith)
        (quietly {e = 0} (n + 1) (goes_in n h e (n + size a + 2) head t)
        (first_round a (while e a) n (n + 1) 1 refl (omega arith) while-same (A.start (moved m (n + 1) [] L) refl)
        (sure-stops a sure loops L.values))))

    while-tests : (L : Local) → L.place ≡ n → Reaches L (while e a) n 1 (size a + 1) (meaning (while e a) L.values)
    while-tests L h = by (holds (eval L.values e)) refl
      where
        by : (t : Bool) → holds (eval L.values e) ≡ t → Reaches L (while e a) n 1 (size a + 1) (meaning (while e a) L.values)
        by true t = while-held L h t
        by false t = while-passed L h t

    while-waits : FromWaits (while e a) n
    unfolding meaning size behind is_wait moved
    while-waits p l t L h =
        let d = after-head n p head refl t in
        let v : p ≡ 1 + size a → ⊥ = λ z. not_at (n + 1 + size a) (n + p) back refl t (omega arith) in
        let q : n + p ≡ n + 1 + (p - 1) = omega arith in
        within (size a + 2) (2 * (size a + 2)) (omega arith) (omega arith)
        (next-round a (while e a) n (n + 1) 1 refl (omega arith) while-same (2 * (size a + 2))
        (λ ws. meaning (while e a) (values_after L.values ws)) back (omega arith) (omega arith)
        (A.waits (p - 1) (omega arith) (ap (λ q. is_wait (instr_at c q)) (sym q) ∙ t) L (omega arith))
        (λ ws. while-tests (moved m n ws L) refl))

  -- ---- forever

  module _ (a : Stmt Expr) (n : ℕ) (back : instr_at c (n + size a) ≡ go n) (sure : surely_waits a ≡ true) (loops : loops_wait a ≡ true)
      (A : Done a n) where
    forever-same : (q : ℕ) → q < size a → behind (forever a) (0 + q) ≡ sequence (behind a q) (forever a)
    unfolding behind
    forever-same q l = let d : 0 + q ≡ q = omega arith in rw d refl

    forever-starts : (L : Local) → L.place ≡ n → Reaches L (forever a) n 0 (size a) (meaning (forever a) L.values)
    unfolding meaning size
    forever-starts L h =
        first_round a (forever a) n n 0 (omega arith) (omega arith) forever-same (A.start L h) (sure-stops a sure loops L.values)

    forever-waits : FromWaits (forever a) n
    unfolding meaning size behind is_wait moved
    forever-waits p l t L h =
        let v : p ≡ size a → ⊥ = λ z. not_at (n + size a) (n + p) back refl t (omega arith) in
        within (size a + 1) (2 * (size a + 1)) (omega arith) (omega arith)
        (next-round a (forever a) n n 0 (omega arith) (omega arith) forever-same (2 * (size a + 1))
        (λ ws. meaning (forever a) (values_after L.values ws)) back (omega arith) (omega arith)
        (A.waits p (omega arith) t L h)
        (λ ws. forever-starts (moved m n ws L) refl))

  -- ---- every statement

  pub done : (s : Stmt Expr) (n : ℕ) → Stand c n (translate s n) → loops_wait s ≡ true → Done s n
  unfolding translate loops_wait size meaning behind is_wait
  done empty n h l =
      record {
        start = λ L q. to_end 0 (omega arith) (path-none m i (omega arith));
        waits = λ p b t L q. absurd (omega arith);
      }
  done (assign t e) n h l =
      record {
        start = λ L q. to_end 1 (omega arith) (assigns n q t e h.0);
        waits = λ p b w L q. absurd (not_at n (n + p) h.0 refl w (omega arith));
      }
  done (later t e) n h l =
      record {
        start = λ L q. to_end 1 (omega arith) (defers n q t e h.0);
        waits = λ p b w L q. absurd (not_at n (n + p) h.0 refl w (omega arith));
      }
  done (sequence a b) n h l =
      let A = done a n (stand-left c n (translate a n) _ h) (and_left (loops_wait a) (loops_wait b) l) in
      let B =
      done b (n + size a) (stand-right c n (n + size a) (translate a n) _ (ap (λ k. n + k) (translate-size a n)) h)
      (and_right (loops_wait a) (loops_wait b) l) in
      record { start = sequence-start a b n A B; waits = sequence-waits a b n A B }
  done (if_then e a) n h l =
      let A = done a (n + 1) h.1 l in
      record { start = if-start e a n h.0 A; waits = if-waits e a n h.0 A }
  done (if_else e a b) n h l =
      let k = stand-right c (n + 1) (n + 1 + size a) (translate a (n + 1)) _ (ap (λ k. n + 1 + k) (translate-size a (n + 1))) h.1 in
      let q : n + 1 + size a + 1 ≡ n + 2 + size a = omega arith in
      let A = done a (n + 1) (stand-left c (n + 1) (translate a (n + 1)) _ h.1) (and_left (loops_wait a) (loops_wait b) l) in
      let B =
      done b (n + 2 + size a) (subst (λ (p : ℕ). Stand c p (translate b (n + 2 + size a))) q k.1)
      (and_right (loops_wait a) (loops_wait b) l) in
      record { start = if-else-start e a b n h.0 k.0 A B; waits = if-else-waits e a b n h.0 k.0 A B }
  done (while e a) n h l =
      let k = stand-right c (n + 1) (n + 1 + size a) (translate a (n + 1)) _ (ap (λ k. n + 1 + k) (translate-size a (n + 1))) h.1 in
      let sure = and_left (surely_waits a) (loops_wait a) l in
      let loops = and_right (surely_waits a) (loops_wait a) l in
      let A = done a (n + 1) (stand-left c (n + 1) (translate a (n + 1)) _ h.1) loops in
      record {
        start = λ L q. within (size a + 2) (size a + 2) (omega arith) (omega arith) (while-tests e a n h.0 k.0 sure loops A L q);
        waits = while-waits e a n h.0 k.0 sure loops A;
      }
  done (forever a) n h l =
      let k = stand-right c n (n + size a) (translate a n) _ (ap (λ k. n + k) (translate-size a n)) h in
      let sure = and_left (surely_waits a) (loops_wait a) l in
      let loops = and_right (surely_waits a) (loops_wait a) l in
      let A = done a n (stand-left c n (translate a n) _ h) loops in
      record {
        start = λ L q. within (size a + 1) (size a + 1) (omega arith) (omega arith) (forever-starts a n k.0 sure loops A L q);
        waits = forever-waits a n k.0 sure loops A;
      }
  done (wait ts) n h l =
      record {
        start = λ L q. to-wait 0 0 (omega arith) (omega arith) (ap (instr_at c) (omega arith) ∙ h.0) refl (path-none m i (omega arith));
        waits = λ p b t L q. to_end 0 (omega arith) (path-none m i (omega arith));
      }
