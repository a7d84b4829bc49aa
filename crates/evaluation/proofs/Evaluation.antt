-- What the code works out on bytes is `eval` of the tree wherever the sheet's reader accepted; `eval` stays within
-- the widths, and depends on no variable that doesn't stand in the expression. Assumes nothing.
use mathlib.Core.Path.{◌≡◌, refl, ap, ◌∙◌}
use mathlib.Core.Bool.{Bool, true, false, ◌||◌, ◌&&◌}
use mathlib.Core.List.{List, [], ◌∷◌, ◌++◌}
use Prim.Native.Nat.{ℕ, zero, suc, ◌≤◌, ◌<◌}
use native.Mathlib.Omega.{arith}
use native.Mathlib.Decide.{dec_lt}
use lib.ListN.{length, get_or, length-append, get_or-append}
use lib.Seq.{get_or_at}
use lib.Dec.{eqb}
use borrow.Author.Tests.{eq-eqb, eqb-true}
use Rattle.values.specs.declared.Value.{Value}
use Rattle.values.specs.Values.{fits, holds, all_unknown, nowhere}
use Rattle.values.specs.Operators as operators
use Rattle.values.proofs.Values.{fits-known, fits-unknown, pick-fits}
use Rattle.values.proofs.Operators.{unary-fits, binary-fits, choice-fits}
use Rattle.sheet.specs.Reading.{ok}
use Rattle.sheet.specs.Expression.{Expr, variable, constant, unknown, unary, binary, conditional, call, Arguments, no_more, argument, Function, no_function, Scope, Parsed, Passed, same_widths, read_expr}
use Rattle.sheet.specs.Expression.{Body, nothing, result, in_turn, if_then, if_else}
use Rattle.sheet.proofs.Expression.{Reads, a-variable, a-constant, an-unknown, a-unary, a-binary, a-conditional, a-call, ReadsAll, no_arguments, an-argument, derive}
use Rattle.evaluation.specs.declared.Evaluated.{Evaluated}
use Rattle.evaluation.specs.Evaluation.{frame, eval, eval_all, run, reads, reads_all}
use Rattle.evaluation.specs.Widths.{Typed, AllTyped, BodyTyped}
use Rattle.evaluation.specs.Bytes.{variable_node, unary_node, binary_node, conditional_node, inner_node, node_at, work_at, eval_at}

-- ---- eval_at is eval

-- What the code is to answer where an expression was read.
abbrev pub worth : (ℕ → Value) → Parsed Expr → Evaluated
worth env q = record { value = eval env q.item; width = q.width; next = q.next }

-- By the depth, in a sheet without functions.
plain-eval : {c : Scope} {s : List ℕ} (d : ℕ) {p : ℕ} {q : Parsed Expr} (env : ℕ → Value) → c.declared ≡ 0 → Reads c s d p q →
    eval_at d s c.widths env p ≡ worth env q
unfolding eval_at work_at node_at inner_node variable_node unary_node binary_node conditional_node eval
plain-eval {c = c} {s = s} zero {p = p} {q = q} env z x'' = elim x'' [ ]
plain-eval (suc d) env z (a-variable m h e l) = rw (m, e) refl
plain-eval (suc d) env z (a-constant m w h e l) = rw (m, w.same, e) refl
plain-eval (suc d) env z (an-unknown m w) = rw (m, w.same) refl
plain-eval (suc d) env z (a-unary m o a) = rw (m, o.same, plain-eval d env z a) refl
plain-eval (suc d) env z (a-binary m o a b e) = rw (m, o.same, plain-eval d env z a, plain-eval d env z b) refl
plain-eval (suc d) env z (a-conditional m o q a b e) = rw (m, plain-eval d env z q, plain-eval d env z a, plain-eval d env z b) refl
plain-eval (suc d) env z (a-call m h e l f es w) = absurd (omega (arith, z))

pub eval_at-eval : {c : Scope} {s : List ℕ} {d p : ℕ} {q : Parsed Expr} (env : ℕ → Value) → c.declared ≡ 0 → Reads c s d p q →
    eval_at d s c.widths env p ≡ worth env q
eval_at-eval {d = d} env z r = plain-eval d env z r

pub eval_at-read : (d : ℕ) (c : Scope) (s : List ℕ) (env : ℕ → Value) (p : ℕ) {q : Parsed Expr} → c.declared ≡ 0 →
    read_expr d c s p ≡ ok q → eval_at d s c.widths env p ≡ worth env q
eval_at-read d c s env p z h = eval_at-eval env z (derive c s d p h)

-- ---- an expression that was read has its width

-- Of a function: its result has a width, and its body assigns that width.
pub record TypedFunction (f : Function) : Type 0 where
  pub some : 1 ≤ f.result
  pub most : f.result ≤ 32
  pub assigns : BodyTyped (f.parameters ++ (f.result ∷ [])) f.body f.result

abbrev pub TypedFunctions : List Function → Type 0
TypedFunctions fs = (n : ℕ) → n < length fs → TypedFunction (get_or fs n no_function)

same_first : (u v : ℕ) (us vs : List ℕ) → same_widths (u ∷ us) (v ∷ vs) ≡ true → (u ≡ v) × (same_widths us vs ≡ true)
unfolding same_widths
same_first u v us vs h = by (eqb u v) refl h
  where
    by : (t : Bool) → eqb u v ≡ t → (t && same_widths us vs) ≡ true → (u ≡ v) × (same_widths us vs ≡ true)
    by true e g = (eqb-true u v e, g)
    by false e g = let z : ◌≡◌ {A = ℕ} 0 1 = cc in absurd (omega arith)

module _ {c : Scope} {s : List ℕ} {d : ℕ} (inner : (p : ℕ) (q : Parsed Expr) → Reads c s d p q → Typed c.widths q.item q.width) where
  pub all_typed : {n p : ℕ} {es : Passed} (ps : List ℕ) → ReadsAll c s d n p es → same_widths ps es.widths ≡ true →
      AllTyped c.widths es.items ps
  unfolding Typed same_widths
  all_typed [] no_arguments h = tt
  all_typed (p ∷ ps) no_arguments h = let z : ◌≡◌ {A = ℕ} 0 1 = cc in absurd (omega arith)
  all_typed [] (an-argument x es) h = let z : ◌≡◌ {A = ℕ} 0 1 = cc in absurd (omega arith)
  all_typed (p ∷ ps) (an-argument {e = e} {es = r} x es) h =
      let y = same_first p e.width ps r.widths h in
      (rw y.0 (inner _ e x), all_typed ps es y.1)

depth-typed : {c : Scope} {s : List ℕ} (d : ℕ) {p : ℕ} {q : Parsed Expr} → TypedFunctions c.functions → Reads c s d p q →
    Typed c.widths q.item q.width
unfolding Typed
depth-typed {c = c} {s = s} zero {p = p} {q = q} t x'' = elim x'' [ ]
depth-typed (suc d) t (a-variable m h e l) = (l, refl)
depth-typed (suc d) t (a-constant m w h e l) = (w.least, w.most, l, refl)
depth-typed (suc d) t (an-unknown m w) = (w.least, w.most, refl)
depth-typed (suc d) t (a-unary m o a) = (o.least, o.most, depth-typed d t a, refl)
depth-typed (suc d) t (a-binary m o a b e) = (o.least, o.most, depth-typed d t a, rw e (depth-typed d t b), refl)
depth-typed (suc d) t (a-conditional m o q a b e) = ((_, depth-typed d t q), depth-typed d t a, rw e (depth-typed d t b))
depth-typed {c} (suc d) t (a-call {n = n} m h e l f es w) =
    let x = t n f in
    (x.some, x.most, ((get_or c.functions n no_function).parameters, all_typed (λ p q r. depth-typed d t r) _ es w, x.assigns), refl)

pub read-typed : {c : Scope} {s : List ℕ} {d p : ℕ} {q : Parsed Expr} → TypedFunctions c.functions → Reads c s d p q →
    Typed c.widths q.item q.width
read-typed {d = d} t r = depth-typed d t r

-- ---- values that fit widths, one by one

pub record FitAll (ps : List ℕ) (vs : List Value) : Type 0 where
  pub long : length vs ≡ length ps
  pub fit : (v : ℕ) → v < length ps → fits (get_or ps v 0) (get_or vs v nowhere) ≡ true

fit-first : {p : ℕ} {ps : List ℕ} {a : Value} {vs : List Value} → fits p a ≡ true → FitAll ps vs → FitAll (p ∷ ps) (a ∷ vs)
fit-first {p} {ps} {a} {vs} h s = record { long = ap suc s.long; fit = at }
  where
    at : (v : ℕ) → v < suc (length ps) → fits (get_or (p ∷ ps) v 0) (get_or (a ∷ vs) v nowhere) ≡ true
    at zero l = h
    at (suc v) l = s.fit v (omega arith)

-- With the result's value they are the values of a body's variables.
pub frame-fits : (ps : List ℕ) (vs : List Value) (k : ℕ) (r : Value) → FitAll ps vs → fits k r ≡ true → (v : ℕ) →
    v < length (ps ++ (k ∷ [])) → fits (get_or (ps ++ (k ∷ [])) v 0) (frame vs r v) ≡ true
frame-fits ps vs k r s h v l = by (dec_lt v (length ps))
  where
    by : Dec (v < length ps) → fits (get_or (ps ++ (k ∷ [])) v 0) (get_or (vs ++ (r ∷ [])) v nowhere) ≡ true
    by (yes q) =
        rw (get_or-append ps (k ∷ []) 0 v q, get_or-append vs (r ∷ []) nowhere v (omega (arith, s.long))) (s.fit v q)
    by (no q) =
        let e : length ps ≡ v = omega (arith, length-append ps (k ∷ [])) in
        rw (get_or_at ps k [] 0 v e, get_or_at vs r [] nowhere v (s.long ∙ e)) h

-- ---- eval stays within the width

mutual
  unfolding eval Typed

  pub eval-fits : (ws : List ℕ) (env : ℕ → Value) → ((v : ℕ) → v < length ws → fits (get_or ws v 0) (env v) ≡ true) →
      (e : Expr) (w : ℕ) → Typed ws e w → fits w (eval env e) ≡ true
  eval-fits ws env f (variable v) w t = rw t.1 (f v t.0)
  eval-fits ws env f (constant k n) w t = rw t.3 (fits-known k n t.2)
  eval-fits ws env f (unknown k) w t = rw t.2 (fits-unknown k)
  eval-fits ws env f (unary o k a) w t = rw t.3 (unary-fits o k (eval env a) (eval-fits ws env f a k t.2))
  eval-fits ws env f (binary o k a b) w t =
      rw t.4 (binary-fits o k (eval env a) (eval env b) (eval-fits ws env f a k t.2) (eval-fits ws env f b k t.3))
  eval-fits ws env f (conditional c a b) w t =
      choice-fits w (eval env c) (eval env a) (eval env b) (eval-fits ws env f a w t.1) (eval-fits ws env f b w t.2)
  eval-fits ws env f (call n k ys b) w t =
      rw t.3
      (run_fits t.2.0 (eval_all env ys) k (all_fit ws env f ys t.2.0 t.2.1) b (all_unknown k) t.2.2 (fits-unknown k))

  pub all_fit : (ws : List ℕ) (env : ℕ → Value) → ((v : ℕ) → v < length ws → fits (get_or ws v 0) (env v) ≡ true) →
      (ys : Arguments) (ps : List ℕ) → AllTyped ws ys ps → FitAll ps (eval_all env ys)
  all_fit ws env f no_more [] t = record { long = refl; fit = λ v l. absurd (omega arith) }
  all_fit ws env f no_more (p ∷ ps) t = absurd t
  all_fit ws env f (argument e ys) [] t = absurd t
  all_fit ws env f (argument e ys) (p ∷ ps) t = fit-first (eval-fits ws env f e p t.0) (all_fit ws env f ys ps t.1)

  pub run_fits : (ps : List ℕ) (vs : List Value) (k : ℕ) → FitAll ps vs → (b : Body) (r : Value) → BodyTyped (ps ++ (k ∷ [])) b k →
      fits k r ≡ true → fits k (run vs b r) ≡ true
  run_fits ps vs k s nothing r t h = h
  run_fits ps vs k s (result e) r t h = eval-fits (ps ++ (k ∷ [])) (frame vs r) (frame-fits ps vs k r s h) e k t
  run_fits ps vs k s (in_turn a b) r t h = run_fits ps vs k s b (run vs a r) t.1 (run_fits ps vs k s a r t.0 h)
  run_fits ps vs k s (if_then e a) r t h =
      pick-fits k (holds (eval (frame vs r) e)) (run vs a r) r (run_fits ps vs k s a r t.1 h) h
  run_fits ps vs k s (if_else e a b) r t h =
      pick-fits k (holds (eval (frame vs r) e)) (run vs a r) (run vs b r) (run_fits ps vs k s a r t.1 h) (run_fits ps vs k s b r t.2 h)

-- ---- eval goes by the variables that the expression reads

||-left : (a b : Bool) → a ≡ true → (a || b) ≡ true
||-left a b e = rw e refl

||-right : (a b : Bool) → b ≡ true → (a || b) ≡ true
||-right true b e = refl
||-right false b e = e

mutual
  unfolding eval reads

  pub eval-same : (f g : ℕ → Value) (e : Expr) → ((v : ℕ) → reads e v ≡ true → f v ≡ g v) → eval f e ≡ eval g e
  eval-same f g (variable v) h = h v (eq-eqb v v refl)
  eval-same f g (constant w n) h = refl
  eval-same f g (unknown w) h = refl
  eval-same f g (unary o w a) h = ap (operators.unary o w) (eval-same f g a h)
  eval-same f g (binary o w a b) h =
      rw (eval-same f g a (λ v r. h v (||-left _ _ r)), eval-same f g b (λ v r. h v (||-right (reads a v) _ r))) refl
  eval-same f g (conditional c a b) h =
      rw (
        eval-same f g c (λ v r. h v (||-left _ _ (||-left _ _ r))),
        eval-same f g a (λ v r. h v (||-left _ _ (||-right (reads c v) _ r))),
        eval-same f g b (λ v r. h v (||-right (reads c v || reads a v) _ r)),
      )
      refl
  eval-same f g (call n w ys b) h = ap (λ (zs : List Value). run zs b (all_unknown w)) (all_same f g ys h)

  all_same : (f g : ℕ → Value) (ys : Arguments) → ((v : ℕ) → reads_all ys v ≡ true → f v ≡ g v) → eval_all f ys ≡ eval_all g ys
  all_same f g no_more h = refl
  all_same f g (argument e ys) h =
      rw (eval-same f g e (λ v r. h v (||-left _ _ r)), all_same f g ys (λ v r. h v (||-right (reads e v) _ r))) refl
