-- The walk only adds nodes: expressions, merges and walks leave the nodes before them as they were, and a walk's row has 32
-- registers' nodes. Assumes nothing.
use mathlib.Core.Path.{◌≡◌, refl, sym, ap, ◌∙◌}
use mathlib.Core.Bool.{Bool, true, false}
use mathlib.Core.List.{List, [], ◌∷◌, ◌++◌, append_assoc, append-nil}
use Prim.Native.Nat.{ℕ, zero, suc, ◌+◌, ◌≤◌, ◌<◌}
use native.Mathlib.Omega.{arith}
use lib.ListN.{length, get_or, length-set, length-append}
use lib.Dec.{ltb}
use borrow.Author.Tests.{ltb-true}
use Rattle.values.specs.Values.{pick}
use Rattle.sheet.specs.Reading.{Res, ok, ◌>>=◌}
use Rattle.sheet.specs.Expression.{Expr, variable, constant, unknown, unary, binary, conditional, call, Arguments, no_more, argument}
use Rattle.sheet.specs.Expression.{Body, nothing, result, in_turn, if_then, if_else}
use Rattle.sheet.specs.Module.{Module}
use Rattle.sheet.proofs.Reading.{ok-injective, bind_ok, check-ok}
use Rattle.pseudocode.specs.Translation.{Instr, wait!, set!, later!, go, ifnot}
use Rattle.state.proofs.Rows.{length-list_of}
use Rattle.events.specs.Cycle.{code_of, instr_at}
use Rattle.nextstate.specs.Rules.{writes}
use Rattle.nextstate.specs.Nodes.{Node, a_constant, an_unknown, a_binary, a_conditional, a_branch}
use Rattle.nextstate.specs.Walk.{Emitted, emit, EmittedAll, held_in, ends, express, express_all, follow}
use Rattle.nextstate.specs.Walk.{Held, Walked, Merged, own_row, held_node, landed, merge_one, merge, visit, walk}

-- ---- nodes that were added to

pub record Grows (t u : List Node) : Type 0 where
  pub more : List Node
  pub is : u ≡ t ++ more

pub grows_same : {t u : List Node} → u ≡ t → Grows t u
grows_same {t} e = record { more = []; is = e ∙ sym (append-nil t) }

pub grows-refl : (t : List Node) → Grows t t
grows-refl t = grows_same refl

pub grows-by : {t u : List Node} (more : List Node) → u ≡ t ++ more → Grows t u
grows-by more e = record { more = more; is = e }

pub grows-trans : {t u v : List Node} → Grows t u → Grows u v → Grows t v
grows-trans {t} a b =
    record {
      more = a.more ++ b.more;
      is = b.is ∙ ap (λ (l : List Node). l ++ b.more) a.is ∙ append_assoc t a.more b.more;
    }

pub grows-length : {t u : List Node} → Grows t u → length t ≤ length u
grows-length {t} a = let e = ap length a.is ∙ length-append t a.more in omega arith

-- ---- one node more

pub record Emits (t : List Node) (n : Node) (y : Emitted) : Type 0 where
  pub room : length t < 4096
  pub nodes : y.nodes ≡ t ++ (n ∷ [])
  pub node : y.node ≡ length t

pub emit-ok : (t : List Node) (n : Node) {y : Emitted} → emit t n ≡ ok y → Emits t n y
unfolding emit
emit-ok t n h =
    let c = check-ok (ltb (length t) 4096) 21 0 _ h in
    let e = ok-injective c.1 in
    record {
      room = ltb-true (length t) 4096 c.0;
      nodes = sym (ap (λ (y : Emitted). y.nodes) e);
      node = sym (ap (λ (y : Emitted). y.node) e);
    }

pub emit-grows : (t : List Node) (n : Node) {y : Emitted} → emit t n ≡ ok y → Grows t y.nodes
emit-grows t n h = grows-by (n ∷ []) (emit-ok t n h).nodes

-- ---- an expression's nodes

-- What a body's walk goes on to only adds nodes.
abbrev pub Adds : (ℕ → List Node → Res Emitted) → Type 0
Adds next = (r : ℕ) (t : List Node) (y : Emitted) → next r t ≡ ok y → Grows t y.nodes

pub ends-adds : Adds ends
ends-adds r t y h = grows_same (sym (ap (λ (u : Emitted). u.nodes) (ok-injective h)))

mutual
  unfolding express

  pub express-grows : (held : ℕ → ℕ) (e : Expr) (t : List Node) {y : Emitted} → express held e t ≡ ok y → Grows t y.nodes
  express-grows held (variable v) t h = grows_same (sym (ap (λ (y : Emitted). y.nodes) (ok-injective h)))
  express-grows held (constant w n) t h = emit-grows t (a_constant w n) h
  express-grows held (unknown w) t h = emit-grows t (an_unknown w) h
  express-grows held (unary o w a) t h =
      let x = bind_ok (express held a t) _ h in
      grows-trans (express-grows held a t x.1) (emit-grows x.0.nodes _ x.2)
  express-grows held (binary o w a b) t h =
      let x = bind_ok (express held a t) _ h in
      let y = bind_ok (express held b x.0.nodes) _ x.2 in
      grows-trans {u = x.0.nodes} (express-grows held a t x.1)
      (grows-trans {u = y.0.nodes} (express-grows held b x.0.nodes y.1)
      (emit-grows y.0.nodes (a_binary o x.0.node y.0.node) y.2))
  express-grows held (conditional c a b) t h =
      let x = bind_ok (express held c t) _ h in
      let y = bind_ok (express held a x.0.nodes) _ x.2 in
      let z = bind_ok (express held b y.0.nodes) _ y.2 in
      grows-trans {u = x.0.nodes} (express-grows held c t x.1)
      (grows-trans {u = y.0.nodes} (express-grows held a x.0.nodes y.1)
      (grows-trans {u = z.0.nodes} (express-grows held b y.0.nodes z.1)
      (emit-grows z.0.nodes (a_conditional x.0.node y.0.node z.0.node) z.2)))
  express-grows held (call n w ys b) t {y} h =
      let x = bind_ok (express_all held ys t) _ h in
      let z = bind_ok (emit x.0.nodes (an_unknown w)) _ x.2 in
      grows-trans {u = x.0.nodes} (all-grows held ys t x.0 x.1)
      (grows-trans {u = z.0.nodes} (emit-grows x.0.nodes (an_unknown w) z.1)
      (follow-grows x.0.all b ends ends-adds z.0.node z.0.nodes y z.2))

  pub all-grows : (held : ℕ → ℕ) (ys : Arguments) (t : List Node) (y : EmittedAll) → express_all held ys t ≡ ok y → Grows t y.nodes
  all-grows held no_more t y h = grows_same (sym (ap (λ (u : EmittedAll). u.nodes) (ok-injective h)))
  all-grows held (argument e ys) t y h =
      let x = bind_ok (express held e t) _ h in
      let z = bind_ok (express_all held ys x.0.nodes) _ x.2 in
      grows-trans {u = x.0.nodes} (express-grows held e t x.1)
      (grows-trans {u = z.0.nodes} (all-grows held ys x.0.nodes z.0 z.1)
      (grows_same (sym (ap (λ (u : EmittedAll). u.nodes) (ok-injective z.2)))))

  pub follow-grows : (ys : List ℕ) (b : Body) (next : ℕ → List Node → Res Emitted) → Adds next → Adds (follow ys b next)
  follow-grows ys nothing next on r t y h = on r t y h
  follow-grows ys (result e) next on r t y h =
      let x = bind_ok (express (held_in ys r) e t) _ h in
      grows-trans {u = x.0.nodes} (express-grows (held_in ys r) e t x.1) (on x.0.node x.0.nodes y x.2)
  follow-grows ys (in_turn a b) next on r t y h =
      follow-grows ys a (follow ys b next) (λ s u z k. follow-grows ys b next on s u z k) r t y h
  follow-grows ys (if_then e a) next on r t y h =
      let c = bind_ok (express (held_in ys r) e t) _ h in
      let x = bind_ok (follow ys a next r c.0.nodes) _ c.2 in
      let z = bind_ok (next r x.0.nodes) _ x.2 in
      grows-trans {u = c.0.nodes} (express-grows (held_in ys r) e t c.1)
      (grows-trans {u = x.0.nodes} (follow-grows ys a next on r c.0.nodes x.0 x.1)
      (grows-trans {u = z.0.nodes} (on r x.0.nodes z.0 z.1) (emit-grows z.0.nodes _ z.2)))
  follow-grows ys (if_else e a b) next on r t y h =
      let c = bind_ok (express (held_in ys r) e t) _ h in
      let x = bind_ok (follow ys a next r c.0.nodes) _ c.2 in
      let z = bind_ok (follow ys b next r x.0.nodes) _ x.2 in
      grows-trans {u = c.0.nodes} (express-grows (held_in ys r) e t c.1)
      (grows-trans {u = x.0.nodes} (follow-grows ys a next on r c.0.nodes x.0 x.1)
      (grows-trans {u = z.0.nodes} (follow-grows ys b next on r x.0.nodes z.0 z.1) (emit-grows z.0.nodes _ z.2)))

-- ---- two legs put together

module _ (m : Module Expr) (i c : ℕ) (a b : List ℕ) where
  -- One register: what merge_one leaves of the registers before it.
  pub data MergesOne (r : ℕ) (x y : Merged) : Type 0 where
    written : writes m i (m.scope.inputs + r) ≡ true → y.nodes ≡ x.nodes ++ (a_branch c (get_or a r 0) (get_or b r 0) ∷ []) →
        y.registers ≡ x.registers ++ (length x.nodes ∷ []) → MergesOne r x y
    unwritten : writes m i (m.scope.inputs + r) ≡ false → y.nodes ≡ x.nodes →
        y.registers ≡ x.registers ++ (get_or a r 0 ∷ []) → MergesOne r x y

  pub merge_one-ok : (r : ℕ) (x : Merged) {y : Merged} → merge_one m i c a b r x ≡ ok y → MergesOne r x y
  unfolding merge_one
  merge_one-ok r x {y} h = by (writes m i (m.scope.inputs + r)) refl h
    where
      new : Node
      new = a_branch c (get_or a r 0) (get_or b r 0)

      by : (t : Bool) → writes m i (m.scope.inputs + r) ≡ t →
          pick t
          (emit x.nodes new >>= λ z. ok (record { nodes = z.nodes; registers = x.registers ++ (z.node ∷ []) }))
          (ok (record { nodes = x.nodes; registers = x.registers ++ (get_or a r 0 ∷ []) }))
          ≡ ok y → MergesOne r x y
      by true e k =
          let z = bind_ok (emit x.nodes new) _ k in
          let s = emit-ok x.nodes new z.1 in
          let q = ok-injective z.2 in
          written e
          (sym (ap (λ (u : Merged). u.nodes) q) ∙ s.nodes)
          (sym (ap (λ (u : Merged). u.registers) q) ∙ ap (λ (n : ℕ). x.registers ++ (n ∷ [])) s.node)
      by false e k =
          let q = ok-injective k in
          unwritten e (sym (ap (λ (u : Merged). u.nodes) q)) (sym (ap (λ (u : Merged). u.registers) q))

  pub merges-grows : {r : ℕ} {x y : Merged} → MergesOne r x y → Grows x.nodes y.nodes
  merges-grows (written w n g) = grows-by _ n
  merges-grows (unwritten w n g) = grows_same n

  pub merges-length : {r : ℕ} {x y : Merged} → MergesOne r x y → length y.registers ≡ suc (length x.registers)
  merges-length {x = x} (written w n g) = let e = ap length g ∙ length-append x.registers _ in omega arith
  merges-length {x = x} (unwritten w n g) = let e = ap length g ∙ length-append x.registers _ in omega arith

  pub merge-grows : (n : ℕ) (t : List Node) {x : Merged} → merge m i c a b n t ≡ ok x → Grows t x.nodes
  unfolding merge
  merge-grows zero t h = grows_same (sym (ap (λ (u : Merged). u.nodes) (ok-injective h)))
  merge-grows (suc n) t h =
      let x = bind_ok (merge m i c a b n t) _ h in
      grows-trans (merge-grows n t x.1) (merges-grows (merge_one-ok n x.0 x.2))

  pub merge-length : (n : ℕ) (t : List Node) {x : Merged} → merge m i c a b n t ≡ ok x → length x.registers ≡ n
  unfolding merge
  merge-length zero t h = sym (ap (λ (u : Merged). length u.registers) (ok-injective h))
  merge-length (suc n) t h =
      let x = bind_ok (merge m i c a b n t) _ h in
      merges-length (merge_one-ok n x.0 x.2) ∙ ap suc (merge-length n t x.1)

-- ---- a walk

pub ok-walked : {t : List Node} {row : List ℕ} {n : ℕ} {w : Walked} →
    ◌≡◌ {A = Res Walked} (ok (record { nodes = t; registers = row; place = n })) (ok w) →
    (w.nodes ≡ t) × (w.registers ≡ row) × (w.place ≡ n)
ok-walked k =
    let q = ok-injective k in
    (sym (ap (λ (u : Walked). u.nodes) q), sym (ap (λ (u : Walked). u.registers) q), sym (ap (λ (u : Walked). u.place) q))

-- A walk ends with the node of its place.
emitted : (t : List Node) (n : Node) (row : List ℕ) {w : Walked} →
    (emit t n >>= λ y. ok (record { nodes = y.nodes; registers = row; place = y.node })) ≡ ok w →
    (w.nodes ≡ t ++ (n ∷ [])) × (w.registers ≡ row) × (w.place ≡ length t)
emitted t n row k =
    let y = bind_ok (emit t n) _ k in
    let s = emit-ok t n y.1 in
    let q = ok-walked y.2 in
    (q.0 ∙ s.nodes, q.1, q.2 ∙ s.node)

module _ (m : Module Expr) where
  pub length-own_row : length (own_row m) ≡ 32
  unfolding own_row
  length-own_row = length-list_of _ 32

module _ (m : Module Expr) (i : ℕ) where
  pub length-landed : (h : Held) → length (landed m i h) ≡ 32
  unfolding landed
  length-landed h = length-list_of _ 32

  -- What the instruction at a branch leaves, step by step.
  pub record Branches (next : ℕ → Held → List Node → Res Walked) (p : ℕ) (h : Held) (t : List Node) (e : Expr) (g : ℕ)
      (w : Walked) : Type 0 where
    pub condition : Emitted
    pub condition-is : express (held_node m h.current) e t ≡ ok condition
    pub held : Walked
    pub held-is : next (p + 1) h condition.nodes ≡ ok held
    pub other : Walked
    pub other-is : next g h held.nodes ≡ ok other
    pub merged : Merged
    pub merged-is : merge m i condition.node held.registers other.registers 32 other.nodes ≡ ok merged
    pub nodes : w.nodes ≡ merged.nodes ++ (a_branch condition.node held.place other.place ∷ [])
    pub registers : w.registers ≡ merged.registers
    pub place : w.place ≡ length merged.nodes

  module _ (next : ℕ → Held → List Node → Res Walked) (p : ℕ) (h : Held) (t : List Node) where
    pub visit-branches : (e : Expr) (g : ℕ) {w : Walked} → visit m i next p h t (ifnot e g) ≡ ok w → Branches next p h t e g w
    unfolding visit
    visit-branches e g k =
        let c = bind_ok (express (held_node m h.current) e t) _ k in
        let a = bind_ok (next (p + 1) h c.0.nodes) _ c.2 in
        let b = bind_ok (next g h a.0.nodes) _ a.2 in
        let x = bind_ok (merge m i c.0.node a.0.registers b.0.registers 32 b.0.nodes) _ b.2 in
        let z = emitted x.0.nodes (a_branch c.0.node a.0.place b.0.place) x.0.registers x.2 in
        record {
          condition = c.0;
          condition-is = c.1;
          held = a.0;
          held-is = a.1;
          other = b.0;
          other-is = b.1;
          merged = x.0;
          merged-is = x.1;
          nodes = z.0;
          registers = z.1;
          place = z.2;
        }

    pub visit-wait : (ts : List _) {w : Walked} → visit m i next p h t (wait! ts) ≡ ok w →
        (w.nodes ≡ t ++ (a_constant 8 p ∷ [])) × (w.registers ≡ landed m i h) × (w.place ≡ length t)
    unfolding visit
    visit-wait ts k = emitted t (a_constant 8 p) (landed m i h) k

    pub visit-grows : ((q : ℕ) (g : Held) (u : List Node) (w : Walked) → next q g u ≡ ok w → Grows u w.nodes) →
        (j : Instr Expr) {w : Walked} → visit m i next p h t j ≡ ok w → Grows t w.nodes
    unfolding visit
    visit-grows ih (wait! ts) k = grows-by _ (visit-wait ts k).0
    visit-grows ih (set! v e) k =
        let x = bind_ok (express (held_node m h.current) e t) _ k in
        grows-trans (express-grows _ e t x.1) (ih _ _ _ _ x.2)
    visit-grows ih (later! v e) k =
        let x = bind_ok (express (held_node m h.current) e t) _ k in
        grows-trans (express-grows _ e t x.1) (ih _ _ _ _ x.2)
    visit-grows ih (go g) k = ih g h t _ k
    visit-grows ih (ifnot e g) k =
        let b = visit-branches e g k in
        grows-trans (express-grows _ e t b.condition-is)
        (grows-trans (ih _ _ _ _ b.held-is)
        (grows-trans (ih _ _ _ _ b.other-is)
        (grows-trans (merge-grows m i _ _ _ 32 _ b.merged-is) (grows-by _ b.nodes))))

    pub visit-length :
        ((q : ℕ) (g : Held) (u : List Node) (w : Walked) → length g.current ≡ 32 → next q g u ≡ ok w →
        length w.registers ≡ 32) →
        length h.current ≡ 32 → (j : Instr Expr) {w : Walked} → visit m i next p h t j ≡ ok w → length w.registers ≡ 32
    unfolding visit
    visit-length ih l (wait! ts) k = ap length (visit-wait ts k).1 ∙ length-landed h
    visit-length ih l (set! v e) k =
        let x = bind_ok (express (held_node m h.current) e t) _ k in
        ih _ _ _ _ (length-set h.current _ _ ∙ l) x.2
    visit-length ih l (later! v e) k =
        let x = bind_ok (express (held_node m h.current) e t) _ k in
        ih _ _ _ _ l x.2
    visit-length ih l (go g) k = ih g h t _ l k
    visit-length ih l (ifnot e g) k =
        let b = visit-branches e g k in
        ap length b.registers ∙ merge-length m i _ _ _ 32 _ b.merged-is

  pub walk-grows : (n p : ℕ) (h : Held) (t : List Node) {w : Walked} → walk m i n p h t ≡ ok w → Grows t w.nodes
  unfolding walk
  walk-grows zero p h t k = grows_same (ok-walked k).0
  walk-grows (suc n) p h t k = visit-grows (walk m i n) p h t (λ q g u w. walk-grows n q g u) (instr_at (code_of m i) p) k

  pub walk-length : (n p : ℕ) (h : Held) (t : List Node) {w : Walked} → length h.current ≡ 32 → walk m i n p h t ≡ ok w →
      length w.registers ≡ 32
  unfolding walk
  walk-length zero p h t l k = ap length (ok-walked k).1 ∙ l
  walk-length (suc n) p h t l k = visit-length (walk m i n) p h t (λ q g u w. walk-length n q g u) l (instr_at (code_of m i) p) k
