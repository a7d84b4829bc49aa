-- Extraction's nodes are at most 4,096 (`nodes-short`): a walk that asked for one more was refused with 21.
use mathlib.Core.Path.{◌≡◌, sym, ap}
use mathlib.Core.Bool.{Bool, true, false}
use mathlib.Core.List.{List, [], ◌∷◌, ◌++◌}
use Prim.Native.Nat.{ℕ, zero, suc, ◌+◌, ◌-◌, ◌≤◌}
use native.Mathlib.Omega.{arith}
use lib.ListN.{length, get_or, length-append}
use Rattle.values.specs.Values.{pick}
use Rattle.sheet.specs.Reading.{Res, ok, ◌>>=◌}
use Rattle.sheet.specs.Expression.{Expr, variable, constant, unknown, unary, binary, conditional, call, Arguments, no_more, argument}
use Rattle.sheet.specs.Expression.{Body, nothing, result, in_turn, if_then, if_else}
use Rattle.sheet.specs.Module.{Module}
use Rattle.sheet.proofs.Reading.{ok-injective, bind_ok}
use Rattle.pseudocode.specs.Translation.{Instr, wait!, set!, later!, go, ifnot}
use Rattle.state.proofs.Rows.{length-list_of}
use Rattle.soundness.specs.Soundness.{Sound}
use Rattle.events.specs.Cycle.{variables, code_of, instr_at, is_wait}
use Rattle.nextstate.specs.Rules.{writes}
use Rattle.nextstate.specs.Nodes.{Node, a_variable, a_constant, a_branch}
use Rattle.nextstate.specs.Walk.{Emitted, emit, held_in, ends, express, express_all, follow}
use Rattle.nextstate.specs.Walk.{Held, Walked, Merged, own_rows, held_node, merge_one, merge, visit, walk}
use Rattle.nextstate.specs.Extraction.{Tables, variable_nodes, walk_from, walks_below, threads_below, extracted}
use Rattle.nextstate.proofs.Numbers.{extracted-walks}
use Rattle.walking.proofs.Growing.{emit-ok, ok-walked}

Short : List Node → Type 0
Short t = length t ≤ 4096

emit-short : (t : List Node) (n : Node) (y : Emitted) → emit t n ≡ ok y → Short y.nodes
unfolding Short
emit-short t n y h = let s = emit-ok t n h in omega (arith, s.room, ap length s.nodes, length-append t (n ∷ []))

-- What a body's walk goes on to, from nodes that are short.
abbrev Stays : (ℕ → List Node → Res Emitted) → Type 0
Stays next = (r : ℕ) (t : List Node) (y : Emitted) → Short t → next r t ≡ ok y → Short y.nodes

mutual
  unfolding express

  express-short : (held : ℕ → ℕ) (e : Expr) (t : List Node) (y : Emitted) → Short t → express held e t ≡ ok y → Short y.nodes
  express-short held (variable v) t y s h = rw (sym (ap (λ (u : Emitted). u.nodes) (ok-injective h))) s
  express-short held (constant w n) t y s h = emit-short t _ y h
  express-short held (unknown w) t y s h = emit-short t _ y h
  express-short held (unary o w a) t y s h = let x = bind_ok (express held a t) _ h in emit-short _ _ y x.2
  express-short held (binary o w a b) t y s h =
      let x = bind_ok (express held a t) _ h in
      let z = bind_ok (express held b x.0.nodes) _ x.2 in
      emit-short _ _ y z.2
  express-short held (conditional c a b) t y s h =
      let x = bind_ok (express held c t) _ h in
      let z = bind_ok (express held a x.0.nodes) _ x.2 in
      let u = bind_ok (express held b z.0.nodes) _ z.2 in
      emit-short _ _ y u.2
  express-short held (call n w ys b) t y s h =
      let x = bind_ok (express_all held ys t) _ h in
      let z = bind_ok (emit x.0.nodes _) _ x.2 in
      follow-short x.0.all b ends (λ r u v k e. rw (sym (ap (λ (i : Emitted). i.nodes) (ok-injective e))) k)
      z.0.node z.0.nodes y (emit-short x.0.nodes _ z.0 z.1) z.2

  follow-short : (ys : List ℕ) (b : Body) (next : ℕ → List Node → Res Emitted) → Stays next → Stays (follow ys b next)
  follow-short ys nothing next on r t y s h = on r t y s h
  follow-short ys (result e) next on r t y s h =
      let x = bind_ok (express (held_in ys r) e t) _ h in
      on x.0.node x.0.nodes y (express-short (held_in ys r) e t x.0 s x.1) x.2
  follow-short ys (in_turn a b) next on r t y s h =
      follow-short ys a (follow ys b next) (λ q u z k e. follow-short ys b next on q u z k e) r t y s h
  follow-short ys (if_then e a) next on r t y s h =
      let c = bind_ok (express (held_in ys r) e t) _ h in
      let x = bind_ok (follow ys a next r c.0.nodes) _ c.2 in
      let z = bind_ok (next r x.0.nodes) _ x.2 in
      emit-short z.0.nodes _ y z.2
  follow-short ys (if_else e a b) next on r t y s h =
      let c = bind_ok (express (held_in ys r) e t) _ h in
      let x = bind_ok (follow ys a next r c.0.nodes) _ c.2 in
      let z = bind_ok (follow ys b next r x.0.nodes) _ x.2 in
      emit-short z.0.nodes _ y z.2

module _ (m : Module Expr) (i : ℕ) where
  one-short : (c : ℕ) (a b : List ℕ) (r : ℕ) (x y : Merged) → Short x.nodes → merge_one m i c a b r x ≡ ok y → Short y.nodes
  unfolding merge_one
  one-short c a b r x y s h = by (writes m i (m.scope.inputs + r)) h
    where
      new : Node
      new = a_branch c (get_or a r 0) (get_or b r 0)

      by : (t : Bool) →
          pick t
          (emit x.nodes new >>= λ z. ok (record { nodes = z.nodes; registers = x.registers ++ (z.node ∷ []) }))
          (ok (record { nodes = x.nodes; registers = x.registers ++ (get_or a r 0 ∷ []) }))
          ≡ ok y → Short y.nodes
      by true k =
          let z = bind_ok (emit x.nodes new) _ k in
          rw (sym (ap (λ (u : Merged). u.nodes) (ok-injective z.2))) (emit-short x.nodes new z.0 z.1)
      by false k = rw (sym (ap (λ (u : Merged). u.nodes) (ok-injective k))) s

  merge-short : (c : ℕ) (a b : List ℕ) (n : ℕ) (t : List Node) (x : Merged) → Short t → merge m i c a b n t ≡ ok x → Short x.nodes
  unfolding merge
  merge-short c a b zero t x s h = rw (sym (ap (λ (u : Merged). u.nodes) (ok-injective h))) s
  merge-short c a b (suc n) t x s h =
      let y = bind_ok (merge m i c a b n t) _ h in
      one-short c a b n y.0 x (merge-short c a b n t y.0 s y.1) y.2

  visit-short : (next : ℕ → Held → List Node → Res Walked) →
      ((q : ℕ) (g : Held) (u : List Node) (w : Walked) → Short u → next q g u ≡ ok w → Short w.nodes) →
      (p : ℕ) (h : Held) (t : List Node) (j : Instr Expr) (w : Walked) → Short t → visit m i next p h t j ≡ ok w → Short w.nodes
  unfolding visit
  visit-short next on p h t (wait! ts) w s k =
      let y = bind_ok (emit t (a_constant 8 p)) _ k in
      rw (ok-walked y.2).0 (emit-short t _ y.0 y.1)
  visit-short next on p h t (set! v e) w s k =
      let x = bind_ok (express (held_node m h.current) e t) _ k in
      on _ _ _ w (express-short _ e t x.0 s x.1) x.2
  visit-short next on p h t (later! v e) w s k =
      let x = bind_ok (express (held_node m h.current) e t) _ k in
      on _ _ _ w (express-short _ e t x.0 s x.1) x.2
  visit-short next on p h t (go g) w s k = on g h t w s k
  visit-short next on p h t (ifnot e g) w s k =
      let c = bind_ok (express (held_node m h.current) e t) _ k in
      let a = bind_ok (next (p + 1) h c.0.nodes) _ c.2 in
      let b = bind_ok (next g h a.0.nodes) _ a.2 in
      let x = bind_ok (merge m i c.0.node a.0.registers b.0.registers 32 b.0.nodes) _ b.2 in
      let y = bind_ok (emit x.0.nodes (a_branch c.0.node a.0.place b.0.place)) _ x.2 in
      rw (ok-walked y.2).0 (emit-short x.0.nodes _ y.0 y.1)

  walk-short : (n p : ℕ) (h : Held) (t : List Node) (w : Walked) → Short t → walk m i n p h t ≡ ok w → Short w.nodes
  unfolding walk
  walk-short zero p h t w s k = rw (ok-walked k).0 s
  walk-short (suc n) p h t w s k = visit-short (walk m i n) (walk-short n) p h t (instr_at (code_of m i) p) w s k

module _ (m : Module Expr) where
  from-short : (i p : ℕ) (T U : Tables) → Short T.nodes → walk_from m i p T ≡ ok U → Short U.nodes
  unfolding walk_from
  from-short i p T U s h =
      let w = bind_ok (walk m i (length (code_of m i)) (p + 1) (own_rows m) T.nodes) _ h in
      rw (sym (ap (λ (u : Tables). u.nodes) (ok-injective w.2))) (walk-short m i _ _ _ T.nodes w.0 s w.1)

  walks-short : (i n : ℕ) (T U : Tables) → Short T.nodes → walks_below m i n T ≡ ok U → Short U.nodes
  unfolding walks_below
  walks-short i zero T U s h = rw (sym (ap (λ (u : Tables). u.nodes) (ok-injective h))) s
  walks-short i (suc p) T U s h =
      let y = bind_ok (walks_below m i p T) _ h in
      by (is_wait (instr_at (code_of m i) p)) y.0 (walks-short i p T y.0 s y.1) y.2
    where
      by : (b : Bool) (X : Tables) → Short X.nodes → pick b (walk_from m i p X) (ok X) ≡ ok U → Short U.nodes
      by true X k z = from-short i p X U k z
      by false X k z = rw (sym (ap (λ (u : Tables). u.nodes) (ok-injective z))) k

  threads-short : Sound m → (i : ℕ) (T : Tables) → threads_below m i ≡ ok T → Short T.nodes
  unfolding threads_below variable_nodes variables Short
  threads-short w zero T h =
      rw (sym (ap (λ (u : Tables). u.nodes) (ok-injective h)))
      (omega (arith, length-list_of a_variable (length m.scope.widths), w.variables, w.inputs-most, w.registers-most, w.wires-most))
  threads-short w (suc i) T h =
      let y = bind_ok (threads_below m i) _ h in
      walks-short i _ y.0 T (threads-short w i y.0 y.1) y.2

  pub nodes-short : Sound m → (T : Tables) → extracted m ≡ ok T → length T.nodes ≤ 4096
  unfolding Short
  nodes-short w T h = threads-short w (length m.threads) T (extracted-walks m h)
