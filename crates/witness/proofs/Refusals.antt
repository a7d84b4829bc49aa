-- The walks are refused with 21 and nothing else, and refused walks stay refused. Assumes nothing.
use mathlib.Core.Path.{◌≡◌, refl}
use mathlib.Core.Bool.{Bool, true, false}
use mathlib.Core.List.{List, [], ◌∷◌, ◌++◌}
use Prim.Native.Nat.{ℕ, zero, suc, ◌+◌}
use lib.ListN.{length}
use lib.Dec.{ltb}
use Rattle.values.specs.Values.{pick}
use Rattle.sheet.specs.Reading.{Res, ok, no, ◌>>=◌, ◌>>◌, check}
use Rattle.sheet.specs.Expression.{Expr, variable, constant, unknown, unary, binary, conditional, call, Arguments, no_more, argument}
use Rattle.sheet.specs.Expression.{Body, nothing, result, in_turn, if_then, if_else}
use Rattle.sheet.specs.Module.{Module}
use Rattle.pseudocode.specs.Translation.{Instr, wait!, set!, later!, go, ifnot}
use Rattle.events.specs.Cycle.{code_of, instr_at, is_wait}
use Rattle.events.proofs.Cycle.{absurd-bool}
use Rattle.nextstate.specs.Rules.{writes}
use Rattle.nextstate.specs.Nodes.{Node}
use Rattle.nextstate.specs.Walk.{Emitted, emit, held_in, ends, express, express_all, follow}
use Rattle.nextstate.specs.Walk.{Held, Walked, merge_one, merge, visit, walk}
use Rattle.nextstate.specs.Extraction.{Tables, walk_from, walks_below, threads_below}
use Rattle.witness.specs.Witness.{refuses}

-- ---- Full: accepted, or refused with 21

pub data Full {A : Type 0} : Res A → Type 0 where
  taken : (a : A) → Full (ok a)
  full : Full (no 21 0)

-- What follows keeps to it.
bind : {A B : Type 0} {x : Res A} (f : A → Res B) → Full x → ((a : A) → Full (f a)) → Full (x >>= f)
bind f (taken a) g = g a
bind f full g = full

picked : {A : Type 0} (t : Bool) {x y : Res A} → Full x → Full y → Full (pick t x y)
picked true h g = h
picked false h g = g

emit-full : (t : List Node) (n : Node) → Full (emit t n)
unfolding emit
emit-full t n = by (record { nodes = t ++ (n ∷ []); node = length t }) (ltb (length t) 4096)
  where
    by : (a : Emitted) (b : Bool) → Full (check b 21 0 >> ok a)
    by a true = taken a
    by a false = full

mutual
  unfolding express

  express-full : (held : ℕ → ℕ) (e : Expr) (t : List Node) → Full (express held e t)
  express-full held (variable v) t = taken _
  express-full held (constant w n) t = emit-full t _
  express-full held (unknown w) t = emit-full t _
  express-full held (unary o w a) t = bind _ (express-full held a t) (λ x. emit-full x.nodes _)
  express-full held (binary o w a b) t =
      bind _ (express-full held a t) (λ x. bind _ (express-full held b x.nodes) (λ y. emit-full y.nodes _))
  express-full held (conditional c a b) t =
      bind _ (express-full held c t)
      (λ x. bind _ (express-full held a x.nodes) (λ y. bind _ (express-full held b y.nodes) (λ z. emit-full z.nodes _)))
  express-full held (call n w ys b) t =
      bind _ (all-full held ys t)
      (λ x. bind _ (emit-full x.nodes _) (λ y. follow-full x.all b ends (λ r u. taken _) y.node y.nodes))

  all-full : (held : ℕ → ℕ) (ys : Arguments) (t : List Node) → Full (express_all held ys t)
  all-full held no_more t = taken _
  all-full held (argument e ys) t = bind _ (express-full held e t) (λ x. bind _ (all-full held ys x.nodes) (λ y. taken _))

  follow-full : (ys : List ℕ) (b : Body) (next : ℕ → List Node → Res Emitted) → ((r : ℕ) (t : List Node) → Full (next r t)) →
      (r : ℕ) (t : List Node) → Full (follow ys b next r t)
  follow-full ys nothing next on r t = on r t
  follow-full ys (result e) next on r t = bind _ (express-full (held_in ys r) e t) (λ x. on x.node x.nodes)
  follow-full ys (in_turn a b) next on r t = follow-full ys a (follow ys b next) (λ s u. follow-full ys b next on s u) r t
  follow-full ys (if_then e a) next on r t =
      bind _ (express-full (held_in ys r) e t)
      (λ c. bind _ (follow-full ys a next on r c.nodes) (λ x. bind _ (on r x.nodes) (λ y. emit-full y.nodes _)))
  follow-full ys (if_else e a b) next on r t =
      bind _ (express-full (held_in ys r) e t)
      (λ c. bind _ (follow-full ys a next on r c.nodes)
      (λ x. bind _ (follow-full ys b next on r x.nodes) (λ y. emit-full y.nodes _)))

module _ (m : Module Expr) (i : ℕ) where
  merge-full : (c : ℕ) (a b : List ℕ) (n : ℕ) (t : List Node) → Full (merge m i c a b n t)
  unfolding merge merge_one
  merge-full c a b zero t = taken _
  merge-full c a b (suc n) t =
      bind _ (merge-full c a b n t)
      (λ x. picked (writes m i (m.scope.inputs + n)) (bind _ (emit-full x.nodes _) (λ y. taken _)) (taken _))

  visit-full : (next : ℕ → Held → List Node → Res Walked) → ((p : ℕ) (h : Held) (t : List Node) → Full (next p h t)) →
      (p : ℕ) (h : Held) (t : List Node) (q : Instr Expr) → Full (visit m i next p h t q)
  unfolding visit
  visit-full next on p h t (wait! ts) = bind _ (emit-full t _) (λ y. taken _)
  visit-full next on p h t (set! v e) = bind _ (express-full _ e t) (λ x. on _ _ _)
  visit-full next on p h t (later! v e) = bind _ (express-full _ e t) (λ x. on _ _ _)
  visit-full next on p h t (go g) = on g h t
  visit-full next on p h t (ifnot e g) =
      bind _ (express-full _ e t)
      (λ c. bind _ (on _ _ _)
      (λ a. bind _ (on _ _ _) (λ b. bind _ (merge-full _ _ _ 32 _) (λ x. bind _ (emit-full x.nodes _) (λ y. taken _)))))

  walk-full : (n p : ℕ) (h : Held) (t : List Node) → Full (walk m i n p h t)
  unfolding walk
  walk-full zero p h t = taken _
  walk-full (suc n) p h t = visit-full (walk m i n) (walk-full n) p h t (instr_at (code_of m i) p)

module _ (m : Module Expr) where
  pub from-full : (i p : ℕ) (T : Tables) → Full (walk_from m i p T)
  unfolding walk_from
  from-full i p T = bind _ (walk-full m i _ _ _ T.nodes) (λ w. taken _)

  walks-full : (i n : ℕ) (T : Tables) → Full (walks_below m i n T)
  unfolding walks_below
  walks-full i zero T = taken T
  walks-full i (suc p) T = bind _ (walks-full i p T) (λ U. picked (is_wait (instr_at (code_of m i) p)) (from-full i p U) (taken U))

  pub threads-full : (n : ℕ) → Full (threads_below m n)
  unfolding threads_below
  threads-full zero = taken _
  threads-full (suc n) = bind _ (threads-full n) (λ T. walks-full n _ T)

-- ---- refuses

pub refused_full : {A : Type 0} {x : Res A} → Full x → refuses x ≡ true → x ≡ no 21 0
unfolding refuses
refused_full (taken a) h = absurd-bool h refl
refused_full full h = refl

-- Not refused, it is accepted.
pub accepted : {A : Type 0} (x : Res A) → refuses x ≡ false → (a : A) × (x ≡ ok a)
unfolding refuses
accepted (ok a) h = (a, refl)
accepted (no n p) h = absurd-bool refl h

pub refuses-bind : {A B : Type 0} (x : Res A) (f : A → Res B) → refuses x ≡ true → refuses (x >>= f) ≡ true
unfolding refuses
refuses-bind (ok a) f h = absurd-bool h refl
refuses-bind (no n p) f h = refl
