-- Rule 17 makes a thread come to rest: from every place of its code each way comes to a wait (thread-rests), never leaves the code
-- (way-inside) and never meets a place twice, so that it has fewer steps than the code has instructions (way-bound). Assumes
-- nothing.
use Prim.Native.Nat.{ℕ, zero, suc, ◌+◌, ◌≤◌, ◌<◌}
use mathlib.Core.Path.{◌≡◌, refl, sym, ap, ◌∙◌, subst}
use mathlib.Core.Logic.{◌⊎◌, inl, inr}
use mathlib.Core.Bool.{Bool, true, false}
use mathlib.Core.List.{List, [], ◌∷◌, ◌++◌}
use native.Mathlib.Decide.{dec_lt, ℕ_discrete}
use native.Mathlib.Omega.{arith}
use lib.ListN.{length, get_or, set, length-set, replicate, length-replicate}
use lib.Seq.{get_or-set_other}
use Rattle.sheet.specs.declared.EdgeTerm.{EdgeTerm}
use Rattle.sheet.specs.Expression.{Expr, Scope}
use Rattle.sheet.specs.Statement.{Stmt, empty, assign, later, sequence, if_then, if_else, while, forever, wait, size}
use Rattle.sheet.specs.Module.{Module}
use Rattle.pseudocode.specs.Translation.{Instr, wait!, set!, later!, go, ifnot, translate, thread_code}
use Rattle.pseudocode.proofs.Translation.{translate-size, thread_code-size}
use Rattle.soundness.specs.Soundness.{Sound, SoundInstr, sound-wait, sound-set, sound-later, sound-go, sound-ifnot}
use Rattle.events.specs.Cycle.{code_of, instr_at}
use Rattle.events.proofs.Cycle.{absurd-bool, and_left, and_right}
use Rattle.nextstate.specs.Rules.{body_of, surely_waits, loops_wait}
use Rattle.nextstate.specs.Ruled.{Ruled}
use Rattle.threads.specs.Resting.{Leads, Rests, rests, Way, here, step}
use Rattle.nextstate.proofs.Ruled.{or-either, sound-instr}

-- ---- ways

pub onward : {c : List (Instr Expr)} {p : ℕ} → Rests c p → (q : ℕ) → Leads (instr_at c p) p q → Rests c q
onward (rests f) = f

pub way-snoc : {c : List (Instr Expr)} {p n q r : ℕ} → Way c p n q → Leads (instr_at c q) q r → Way c p (suc n) r
way-snoc here l = step l here
way-snoc (step k w) l = step k (way-snoc w l)

pub way-rests : {c : List (Instr Expr)} {p n q : ℕ} → Way c p n q → Rests c p → Rests c q
way-rests here h = h
way-rests (step {q = q} l w) h = way-rests w (onward h q l)

-- ---- the instructions l stand in the code c from place n on

abbrev Stand : List (Instr Expr) → ℕ → List (Instr Expr) → Type 0
Stand c n [] = Unit {0}
Stand c n (i ∷ l) = (instr_at c n ≡ i) × Stand c (n + 1) l

stand-left : (c : List (Instr Expr)) (n : ℕ) (l k : List (Instr Expr)) → Stand c n (l ++ k) → Stand c n l
stand-left c n [] k h = tt
stand-left c n (i ∷ l) k h = (h.0, stand-left c (n + 1) l k h.1)

stand-right : (c : List (Instr Expr)) (n p : ℕ) (l k : List (Instr Expr)) → n + length l ≡ p → Stand c n (l ++ k) → Stand c p k
stand-right c n p [] k e h = let z : n ≡ p = omega arith in rw z at h
stand-right c n p (i ∷ l) k e h = stand-right c (n + 1) p l k (omega arith) h.1

stand-behind : (j : Instr Expr) (c : List (Instr Expr)) (n : ℕ) (l : List (Instr Expr)) → Stand c n l → Stand (j ∷ c) (n + 1) l
unfolding instr_at
stand-behind j c n [] h = tt
stand-behind j c n (i ∷ l) h =
    let e : n + 1 ≡ suc n = omega arith in
    (rw e h.0, stand-behind j c (n + 1) l h.1)

stand-whole : (c : List (Instr Expr)) → Stand c 0 c
unfolding instr_at
stand-whole [] = tt
stand-whole (i ∷ c) = (refl, stand-behind i c 0 c (stand-whole c))

-- ---- a place rests if those rest to which its instruction leads

module _ (c : List (Instr Expr)) where
  rest_at : (i : Instr Expr) (p : ℕ) → instr_at c p ≡ i → ((q : ℕ) → Leads i p q → Rests c q) → Rests c p
  rest_at i p e f = rests (λ q l. f q (subst (λ (j : Instr Expr). Leads j p q) e l))

  rest-to : (p q : ℕ) → p ≡ q → Rests c p → Rests c q
  rest-to p q e h = rw e at h

  rest-set : (t : ℕ) (e : Expr) (p : ℕ) → instr_at c p ≡ set! t e → Rests c (p + 1) → Rests c p
  rest-set t e p h k = rest_at (set! t e) p h (λ q l. rest-to (p + 1) q (sym l) k)

  rest-later : (t : ℕ) (e : Expr) (p : ℕ) → instr_at c p ≡ later! t e → Rests c (p + 1) → Rests c p
  rest-later t e p h k = rest_at (later! t e) p h (λ q l. rest-to (p + 1) q (sym l) k)

  rest-go : (p g : ℕ) → instr_at c p ≡ go g → Rests c g → Rests c p
  rest-go p g h k = rest_at (go g) p h (λ q l. rest-to g q (sym l) k)

  rest-wait : (ts : List EdgeTerm) (p : ℕ) → instr_at c p ≡ wait! ts → Rests c p
  rest-wait ts p h = rest_at (wait! ts) p h (λ q l. absurd l)

  rest-if : (e : Expr) (p g : ℕ) → instr_at c p ≡ ifnot e g → Rests c (p + 1) → Rests c g → Rests c p
  rest-if e p g h k j = rest_at (ifnot e g) p h by
    where
      by : (q : ℕ) → (q ≡ p + 1) ⊎ (q ≡ g) → Rests c q
      by q (inl l) = rest-to (p + 1) q (sym l) k
      by q (inr l) = rest-to g q (sym l) j

-- ---- a statement at place n of the code c: if the place behind it rests, so do its first and all its places; and its first rests
-- in any case if it surely waits

record Restful (c : List (Instr Expr)) (s : Stmt Expr) (n : ℕ) : Type 0 where
  enter : Rests c (n + size s) → Rests c n
  sure : surely_waits s ≡ true → Rests c n
  inside : Rests c (n + size s) → (p : ℕ) → n ≤ p → p < n + size s → Rests c p

module _ (c : List (Instr Expr)) where
  only : (n p : ℕ) → Rests c n → n ≤ p → p < n + 1 → Rests c p
  only n p h low high = rest-to c n p (omega arith) h

  restful-sequence : (a b : Stmt Expr) (n : ℕ) → Restful c a n → Restful c b (n + size a) → Restful c (sequence a b) n
  unfolding size surely_waits
  restful-sequence a b n A B =
      record {
        enter = λ x. A.enter (B.enter (out x));
        sure = λ h. or-either (surely_waits a) (surely_waits b) h A.sure (λ k. A.enter (B.sure k));
        inside = λ x p low high. by x p low high (dec_lt p (n + size a));
      }
    where
      out : Rests c (n + (size a + size b)) → Rests c (n + size a + size b)
      out x = rest-to c _ _ (omega arith) x

      by : Rests c (n + (size a + size b)) → (p : ℕ) → n ≤ p → p < n + (size a + size b) → Dec (p < n + size a) → Rests c p
      by x p low high (yes l) = A.inside (B.enter (out x)) p low l
      by x p low high (no d) = B.inside (out x) p (omega arith) (omega arith)

  restful-if : (e : Expr) (a : Stmt Expr) (n : ℕ) → instr_at c n ≡ ifnot e (n + 1 + size a) → Restful c a (n + 1) →
      Restful c (if_then e a) n
  unfolding size surely_waits
  restful-if e a n h A =
      record {
        enter = head;
        sure = λ k. absurd-bool k refl;
        inside = λ x p low high. by x p low high (dec_lt n p);
      }
    where
      out : Rests c (n + (size a + 1)) → Rests c (n + 1 + size a)
      out x = rest-to c _ _ (omega arith) x

      head : Rests c (n + (size a + 1)) → Rests c n
      head x = rest-if c e n (n + 1 + size a) h (A.enter (out x)) (out x)

      by : Rests c (n + (size a + 1)) → (p : ℕ) → n ≤ p → p < n + (size a + 1) → Dec (n < p) → Rests c p
      by x p low high (yes l) = A.inside (out x) p (omega arith) (omega arith)
      by x p low high (no d) = rest-to c n p (omega arith) (head x)

  restful-if-else : (e : Expr) (a b : Stmt Expr) (n : ℕ) → instr_at c n ≡ ifnot e (n + 2 + size a) →
      instr_at c (n + 1 + size a) ≡ go (n + 2 + size a + size b) → Restful c a (n + 1) → Restful c b (n + 2 + size a) →
      Restful c (if_else e a b) n
  unfolding size surely_waits
  restful-if-else e a b n h g A B =
      record {
        enter = λ x. head (A.enter (jump x)) (B.enter (out x));
        sure = λ k. head (A.sure (and_left (surely_waits a) (surely_waits b) k)) (B.sure (and_right (surely_waits a) (surely_waits b) k));
        inside = λ x p low high. by x p low high (dec_lt n p) (dec_lt p (n + 1 + size a)) (dec_lt p (n + 2 + size a));
      }
    where
      out : Rests c (n + (size a + size b + 2)) → Rests c (n + 2 + size a + size b)
      out x = rest-to c _ _ (omega arith) x

      jump : Rests c (n + (size a + size b + 2)) → Rests c (n + 1 + size a)
      jump x = rest-go c (n + 1 + size a) (n + 2 + size a + size b) g (out x)

      head : Rests c (n + 1) → Rests c (n + 2 + size a) → Rests c n
      head y z = rest-if c e n (n + 2 + size a) h y z

      by : Rests c (n + (size a + size b + 2)) → (p : ℕ) → n ≤ p → p < n + (size a + size b + 2) → Dec (n < p) →
          Dec (p < n + 1 + size a) → Dec (p < n + 2 + size a) → Rests c p
      by x p low high (no d) y z = rest-to c n p (omega arith) (head (A.enter (jump x)) (B.enter (out x)))
      by x p low high (yes l) (yes y) z = A.inside (jump x) p (omega arith) y
      by x p low high (yes l) (no y) (yes z) = rest-to c (n + 1 + size a) p (omega arith) (jump x)
      by x p low high (yes l) (no y) (no z) = B.inside (out x) p (omega arith) (omega arith)

  restful-while : (e : Expr) (a : Stmt Expr) (n : ℕ) → instr_at c n ≡ ifnot e (n + size a + 2) → instr_at c (n + 1 + size a) ≡ go n →
      surely_waits a ≡ true → Restful c a (n + 1) → Restful c (while e a) n
  unfolding size surely_waits
  restful-while e a n h g s A =
      record {
        enter = head;
        sure = λ k. absurd-bool k refl;
        inside = λ x p low high. by x p low high (dec_lt n p) (dec_lt p (n + 1 + size a));
      }
    where
      head : Rests c (n + (size a + 2)) → Rests c n
      head x = rest-if c e n (n + size a + 2) h (A.sure s) (rest-to c _ _ (omega arith) x)

      jump : Rests c (n + (size a + 2)) → Rests c (n + 1 + size a)
      jump x = rest-go c (n + 1 + size a) n g (head x)

      by : Rests c (n + (size a + 2)) → (p : ℕ) → n ≤ p → p < n + (size a + 2) → Dec (n < p) → Dec (p < n + 1 + size a) → Rests c p
      by x p low high (no d) y = rest-to c n p (omega arith) (head x)
      by x p low high (yes l) (yes y) = A.inside (jump x) p (omega arith) y
      by x p low high (yes l) (no y) = rest-to c (n + 1 + size a) p (omega arith) (jump x)

  -- All places of a forever, whatever stands behind it.
  forever-rests : (a : Stmt Expr) (n : ℕ) → instr_at c (n + size a) ≡ go n → surely_waits a ≡ true → Restful c a n → (p : ℕ) → n ≤ p →
      p < n + size a + 1 → Rests c p
  forever-rests a n g s A p low high = by (dec_lt p (n + size a))
    where
      jump : Rests c (n + size a)
      jump = rest-go c (n + size a) n g (A.sure s)

      by : Dec (p < n + size a) → Rests c p
      by (yes l) = A.inside jump p low l
      by (no d) = rest-to c (n + size a) p (omega arith) jump

  restful-forever : (a : Stmt Expr) (n : ℕ) → instr_at c (n + size a) ≡ go n → surely_waits a ≡ true → Restful c a n →
      Restful c (forever a) n
  unfolding size surely_waits
  restful-forever a n g s A =
      record {
        enter = λ x. A.sure s;
        sure = λ k. A.sure s;
        inside = λ x p low high. forever-rests a n g s A p low (omega arith);
      }

  restful : (s : Stmt Expr) (n : ℕ) → Stand c n (translate s n) → loops_wait s ≡ true → Restful c s n
  unfolding translate loops_wait size surely_waits
  restful empty n h l =
      record {
        enter = λ x. rest-to c _ _ (omega arith) x;
        sure = λ k. absurd-bool k refl;
        inside = λ x p low high. absurd (omega arith);
      }
  restful (assign t e) n h l =
      record {
        enter = rest-set c t e n h.0;
        sure = λ k. absurd-bool k refl;
        inside = λ x p low high. only n p (rest-set c t e n h.0 x) low high;
      }
  restful (later t e) n h l =
      record {
        enter = rest-later c t e n h.0;
        sure = λ k. absurd-bool k refl;
        inside = λ x p low high. only n p (rest-later c t e n h.0 x) low high;
      }
  restful (sequence a b) n h l =
      restful-sequence a b n
      (restful a n (stand-left c n (translate a n) _ h) (and_left (loops_wait a) (loops_wait b) l))
      (restful b (n + size a) (stand-right c n (n + size a) (translate a n) _ (ap (λ k. n + k) (translate-size a n)) h)
      (and_right (loops_wait a) (loops_wait b) l))
  restful (if_then e a) n h l = restful-if e a n h.0 (restful a (n + 1) h.1 l)
  restful (if_else e a b) n h l =
      let k = stand-right c (n + 1) (n + 1 + size a) (translate a (n + 1)) _ (ap (λ k. n + 1 + k) (translate-size a (n + 1))) h.1 in
      let q : n + 1 + size a + 1 ≡ n + 2 + size a = omega arith in
      restful-if-else e a b n h.0 k.0
      (restful a (n + 1) (stand-left c (n + 1) (translate a (n + 1)) _ h.1) (and_left (loops_wait a) (loops_wait b) l))
      (restful b (n + 2 + size a) (subst (λ (p : ℕ). Stand c p (translate b (n + 2 + size a))) q k.1)
      (and_right (loops_wait a) (loops_wait b) l))
  restful (while e a) n h l =
      let k = stand-right c (n + 1) (n + 1 + size a) (translate a (n + 1)) _ (ap (λ k. n + 1 + k) (translate-size a (n + 1))) h.1 in
      restful-while e a n h.0 k.0 (and_left (surely_waits a) (loops_wait a) l)
      (restful a (n + 1) (stand-left c (n + 1) (translate a (n + 1)) _ h.1) (and_right (surely_waits a) (loops_wait a) l))
  restful (forever a) n h l =
      let k = stand-right c n (n + size a) (translate a n) _ (ap (λ k. n + k) (translate-size a n)) h in
      restful-forever a n k.0 (and_left (surely_waits a) (loops_wait a) l)
      (restful a n (stand-left c n (translate a n) _ h) (and_right (surely_waits a) (loops_wait a) l))
  restful (wait ts) n h l =
      record {
        enter = λ x. rest-wait c ts n h.0;
        sure = λ k. rest-wait c ts n h.0;
        inside = λ x p low high. only n p (rest-wait c ts n h.0) low high;
      }

-- ---- every place of a thread rests

code-rests : (s : Stmt Expr) → loops_wait (forever s) ≡ true → (p : ℕ) → p < length (thread_code s) → Rests (thread_code s) p
unfolding thread_code translate loops_wait
code-rests s h p l =
    forever-rests c s 0 (stand-right c 0 (0 + size s) (translate s 0) (go 0 ∷ []) (ap (λ k. 0 + k) (translate-size s 0)) whole).0
    (and_left (surely_waits s) (loops_wait s) h)
    (restful c s 0 (stand-left c 0 (translate s 0) (go 0 ∷ []) whole) (and_right (surely_waits s) (loops_wait s) h))
    p (omega arith) (omega (arith, thread_code-size s))
  where
    c : List (Instr Expr)
    c = translate s 0 ++ (go 0 ∷ [])

    whole : Stand c 0 c
    whole = stand-whole c

pub thread-rests : (m : Module Expr) → Sound m → Ruled m → (i p : ℕ) → i < length m.threads → p < length (code_of m i) →
    Rests (code_of m i) p
unfolding code_of body_of
thread-rests m w u i p l h = code-rests (get_or m.threads i empty) (u.loops i l) p h

-- ---- no way leads out of a thread

sound-leads : {c : Scope} {k p : ℕ} {i : Instr Expr} (q : ℕ) → SoundInstr c k p i → Leads i p q → q < k
sound-leads q (sound-wait l t) h = absurd h
sound-leads q (sound-set l t) h = omega arith
sound-leads q (sound-later l t) h = omega arith
sound-leads q (sound-go l) h = omega arith
sound-leads q (sound-ifnot w l g e) (inl h) = omega arith
sound-leads q (sound-ifnot w l g e) (inr h) = omega arith

pub leads-inside : (m : Module Expr) → Sound m → (i : ℕ) → i < length m.threads → (p q : ℕ) → p < length (code_of m i) →
    Leads (instr_at (code_of m i) p) p q → q < length (code_of m i)
leads-inside m w i l p q h k = sound-leads q (sound-instr m w i p l h) k

pub way-inside : (m : Module Expr) → Sound m → (i : ℕ) → i < length m.threads → {p n q : ℕ} → p < length (code_of m i) →
    Way (code_of m i) p n q → q < length (code_of m i)
way-inside m w i l h here = h
way-inside m w i l h (step {p = p} {q = q} k y) = way-inside m w i l (leads-inside m w i l p q h k) y

-- ---- a way from a place that rests never comes back to it

-- From one place to another by at least one step.
data Reach (c : List (Instr Expr)) : ℕ → ℕ → Type 0 where
  once : {p q : ℕ} → Leads (instr_at c p) p q → Reach c p q
  more : {p q r : ℕ} → Leads (instr_at c p) p q → Reach c q r → Reach c p r

reach-snoc : {c : List (Instr Expr)} {p q r : ℕ} → Reach c p q → Leads (instr_at c q) q r → Reach c p r
reach-snoc (once k) l = more k (once l)
reach-snoc (more k r) l = more k (reach-snoc r l)

no_return : {c : List (Instr Expr)} {p : ℕ} → Rests c p → Reach c p p → ⊥
no_return (rests f) (once l) = no_return (f _ l) (once l)
no_return (rests f) (more l r) = no_return (f _ l) (reach-snoc r l)

-- ---- marks on the places met

unfoldable count : List Bool → ℕ
count [] = 0
count (true ∷ l) = suc (count l)
count (false ∷ l) = count l

count_most : (l : List Bool) → count l ≤ length l
unfolding count
count_most [] = omega arith
count_most (true ∷ l) = let h = count_most l in omega arith
count_most (false ∷ l) = let h = count_most l in omega arith

count_set : (l : List Bool) (p : ℕ) → p < length l → get_or l p false ≡ false → count (set l p true) ≡ suc (count l)
unfolding count
count_set [] p h e = absurd (omega arith)
count_set (true ∷ l) zero h e = absurd-bool refl e
count_set (false ∷ l) zero h e = refl
count_set (true ∷ l) (suc p) h e = ap suc (count_set l p (omega arith) e)
count_set (false ∷ l) (suc p) h e = count_set l p (omega arith) e

count_none : (n : ℕ) → count (replicate n false) ≡ 0
unfolding count
count_none zero = refl
count_none (suc n) = count_none n

none-met : (n q : ℕ) → get_or (replicate n false) q false ≡ false
none-met zero q = refl
none-met (suc n) zero = refl
none-met (suc n) (suc q) = none-met n q

-- ---- the places of a way are distinct: with those met before it they are no more than the code has

-- Place p is not among those from which p was reached.
unmet : {c : List (Instr Expr)} {p : ℕ} (met : List Bool) → Rests c p → ((q : ℕ) → get_or met q false ≡ true → Reach c q p) →
    get_or met p false ≡ false
unmet {p = p} met h old = by (get_or met p false) refl
  where
    by : (t : Bool) → get_or met p false ≡ t → t ≡ false
    by true e = absurd (no_return h (old p e))
    by false e = refl

module _ (c : List (Instr Expr)) (inside : (p q : ℕ) → p < length c → Leads (instr_at c p) p q → q < length c) where
  way-most : {p n r : ℕ} → Way c p n r → Rests c p → p < length c → (met : List Bool) → length met ≡ length c →
      ((q : ℕ) → get_or met q false ≡ true → Reach c q p) → count met + n < length c
  way-most {p = p} here h l met len old =
      omega (arith, count_set met p (rw len l) (unmet met h old), count_most (set met p true), length-set met p true)
  way-most (step {p = p} {q = q} {n = n} k y) h l met len old =
      let a = way-most y (onward h q k) (inside p q l k) (set met p true) (length-set met p true ∙ len)
      (λ u e. by u e (ℕ_discrete u p)) in
      omega (arith, count_set met p (rw len l) (unmet met h old))
    where
      by : (u : ℕ) → get_or (set met p true) u false ≡ true → Dec (u ≡ p) → Reach c u q
      by u e (yes d) = rw d (once k)
      by u e (no d) = reach-snoc (old u (sym (get_or-set_other met p u true false d) ∙ e)) k

  fewer : {p n r : ℕ} → Way c p n r → Rests c p → p < length c → n < length c
  fewer y h l =
      let k = length c in
      let a = way-most y h l (replicate k false) (length-replicate k false) (λ q e. absurd-bool e (none-met k q)) in
      omega (arith, count_none k)

pub way-bound : (m : Module Expr) → Sound m → Ruled m → (i : ℕ) → i < length m.threads → {p n q : ℕ} → p < length (code_of m i) →
    Way (code_of m i) p n q → n < length (code_of m i)
way-bound m w u i l {p} h y = fewer (code_of m i) (leads-inside m w i l) y (thread-rests m w u i p l h) h
