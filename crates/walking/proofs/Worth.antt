-- What a node is worth, its width and its value, while nodes are added behind it; the nodes of an expression are worth what the
-- expression is. Assumes nothing.
use mathlib.Core.Path.{◌≡◌, refl, sym, ap, ◌∙◌, subst}
use mathlib.Core.Bool.{Bool, true, false}
use mathlib.Core.List.{List, [], ◌∷◌, ◌++◌}
use Prim.Native.Nat.{ℕ, zero, suc, ◌+◌, ◌<◌}
use native.Mathlib.Omega.{arith}
use native.Mathlib.Decide.{dec_lt}
use lib.ListN.{length, get_or, length-append, get_or-append}
use lib.Seq.{get_or_at}
use Rattle.values.specs.declared.Value.{Value}
use Rattle.values.specs.Values.{pick, known, all_unknown, nowhere, holds}
use Rattle.values.specs.Operators.{choice}
use Rattle.sheet.specs.Reading.{Res, ok}
use Rattle.sheet.specs.Expression.{Expr, variable, constant, unknown, unary, binary, conditional, call, Arguments, no_more, argument}
use Rattle.sheet.specs.Expression.{Body, nothing, result, in_turn, if_then, if_else}
use Rattle.sheet.proofs.Reading.{ok-injective, bind_ok}
use Rattle.evaluation.specs.Evaluation.{frame, eval, eval_all, run}
use Rattle.evaluation.specs.Widths.{Typed, AllTyped, BodyTyped}
use Rattle.nextstate.specs.Nodes.{Node, a_variable, a_constant, an_unknown, a_unary, a_binary, a_conditional, a_branch, node_width, node_value, Worked, work_out, worked}
use Rattle.nextstate.specs.Walk.{Emitted, emit, EmittedAll, held_in, ends, express, express_all, follow}
use Rattle.walking.proofs.Growing.{Grows, grows-refl, grows-trans, grows-length, emit-ok, emit-grows, express-grows, all-grows}

module _ (ws : List ℕ) (f : ℕ → Value) where
  -- ---- nodes worked out after others

  work_out-append : (t u : List Node) (x : Worked) → work_out ws f (t ++ u) x ≡ work_out ws f u (work_out ws f t x)
  unfolding work_out
  work_out-append [] u x = refl
  work_out-append (n ∷ t) u x = work_out-append t u _

  work_out-widths : (u : List Node) (x : Worked) → length (work_out ws f u x).widths ≡ length x.widths + length u
  unfolding work_out
  work_out-widths [] x = omega arith
  work_out-widths (n ∷ u) x =
      let e = length-append x.widths (node_width ws x.widths n ∷ []) in
      work_out-widths u _ ∙ omega arith

  work_out-values : (u : List Node) (x : Worked) → length (work_out ws f u x).values ≡ length x.values + length u
  unfolding work_out
  work_out-values [] x = omega arith
  work_out-values (n ∷ u) x =
      let e = length-append x.values (node_value x.widths f x.values n ∷ []) in
      work_out-values u _ ∙ omega arith

  work_out-width-old : (u : List Node) (x : Worked) (n : ℕ) → n < length x.widths →
      get_or (work_out ws f u x).widths n 0 ≡ get_or x.widths n 0
  unfolding work_out
  work_out-width-old [] x n l = refl
  work_out-width-old (k ∷ u) x n l =
      let new = node_width ws x.widths k ∷ [] in
      work_out-width-old u _ n (omega (arith, length-append x.widths new)) ∙ get_or-append x.widths new 0 n l

  work_out-value-old : (u : List Node) (x : Worked) (n : ℕ) → n < length x.values →
      get_or (work_out ws f u x).values n nowhere ≡ get_or x.values n nowhere
  unfolding work_out
  work_out-value-old [] x n l = refl
  work_out-value-old (k ∷ u) x n l =
      let new = node_value x.widths f x.values k ∷ [] in
      work_out-value-old u _ n (omega (arith, length-append x.values new)) ∙ get_or-append x.values new nowhere n l

  -- ---- one node's width and value

  -- Node n of t has the value a.
  pub record Has (t : List Node) (n : ℕ) (a : Value) : Type 0 where
    pub within : n < length t
    pub value : get_or (worked ws f t).values n nowhere ≡ a

  -- Node n of t has the width w and the value a.
  pub record Is (t : List Node) (n w : ℕ) (a : Value) : Type 0 where
    pub within : n < length t
    pub width : get_or (worked ws f t).widths n 0 ≡ w
    pub value : get_or (worked ws f t).values n nowhere ≡ a

  pub is-has : {t : List Node} {n w : ℕ} {a : Value} → Is t n w a → Has t n a
  is-has s = record { within = s.within; value = s.value }

  -- ---- more nodes behind it

  value_grows : (t u : List Node) (n : ℕ) → Grows t u → n < length t →
      get_or (worked ws f u).values n nowhere ≡ get_or (worked ws f t).values n nowhere
  unfolding worked
  value_grows t u n g l =
      let start : Worked = record { widths = []; values = [] } in
      ap (λ (k : List Node). get_or (work_out ws f k start).values n nowhere) g.is
      ∙ ap (λ (x : Worked). get_or x.values n nowhere) (work_out-append t g.more start)
      ∙ work_out-value-old g.more (work_out ws f t start) n (omega (arith, work_out-values t start))

  width-grows : (t u : List Node) (n : ℕ) → Grows t u → n < length t →
      get_or (worked ws f u).widths n 0 ≡ get_or (worked ws f t).widths n 0
  unfolding worked
  width-grows t u n g l =
      let start : Worked = record { widths = []; values = [] } in
      ap (λ (k : List Node). get_or (work_out ws f k start).widths n 0) g.is
      ∙ ap (λ (x : Worked). get_or x.widths n 0) (work_out-append t g.more start)
      ∙ work_out-width-old g.more (work_out ws f t start) n (omega (arith, work_out-widths t start))

  pub has-grows : {t u : List Node} {n : ℕ} {a : Value} → Grows t u → Has t n a → Has u n a
  has-grows {t} {u} {n} g s =
      record { within = omega (arith, grows-length g, s.within); value = value_grows t u n g s.within ∙ s.value }

  pub is-grows : {t u : List Node} {n w : ℕ} {a : Value} → Grows t u → Is t n w a → Is u n w a
  is-grows {t} {u} {n} g s =
      record {
        within = omega (arith, grows-length g, s.within);
        width = width-grows t u n g s.within ∙ s.width;
        value = value_grows t u n g s.within ∙ s.value;
      }

  -- ---- a new node

  new-width : (t : List Node) (n : Node) →
      get_or (worked ws f (t ++ (n ∷ []))).widths (length t) 0 ≡ node_width ws (worked ws f t).widths n
  unfolding worked work_out
  new-width t n =
      let start : Worked = record { widths = []; values = [] } in
      ap (λ (x : Worked). get_or x.widths (length t) 0) (work_out-append t (n ∷ []) start)
      ∙ get_or_at (work_out ws f t start).widths _ [] 0 (length t) (work_out-widths t start ∙ omega arith)

  new-value : (t : List Node) (n : Node) →
      get_or (worked ws f (t ++ (n ∷ []))).values (length t) nowhere ≡ node_value (worked ws f t).widths f (worked ws f t).values n
  unfolding worked work_out
  new-value t n =
      let start : Worked = record { widths = []; values = [] } in
      ap (λ (x : Worked). get_or x.values (length t) nowhere) (work_out-append t (n ∷ []) start)
      ∙ get_or_at (work_out ws f t start).values _ [] nowhere (length t) (work_out-values t start ∙ omega arith)

  new-has : (t : List Node) (n : Node) {a : Value} → node_value (worked ws f t).widths f (worked ws f t).values n ≡ a →
      Has (t ++ (n ∷ [])) (length t) a
  new-has t n e = record { within = omega (arith, length-append t (n ∷ [])); value = new-value t n ∙ e }

  new_is : (t : List Node) (n : Node) {w : ℕ} {a : Value} → node_width ws (worked ws f t).widths n ≡ w →
      node_value (worked ws f t).widths f (worked ws f t).values n ≡ a → Is (t ++ (n ∷ [])) (length t) w a
  new_is t n d e = record { within = omega (arith, length-append t (n ∷ [])); width = new-width t n ∙ d; value = new-value t n ∙ e }

  pub new-variable : (t : List Node) (v : ℕ) → Is (t ++ (a_variable v ∷ [])) (length t) (get_or ws v 0) (f v)
  unfolding node_width node_value
  new-variable t v = new_is t (a_variable v) refl refl

  pub new-constant : (t : List Node) (w n : ℕ) → Is (t ++ (a_constant w n ∷ [])) (length t) w (known n)
  unfolding node_width node_value
  new-constant t w n = new_is t (a_constant w n) refl refl

  -- "A branch node takes its first arm only if the condition holds": it has the value of the arm taken.
  pub new-branch : (t : List Node) (c j k : ℕ) {b a : Value} (h : Bool) → Has t c b → holds b ≡ h → Has t (pick h j k) a →
      Has (t ++ (a_branch c j k ∷ [])) (length t) a
  unfolding node_value
  new-branch t c j k true s e q = new-has t (a_branch c j k) (rw (s.value, e) q.value)
  new-branch t c j k false s e q = new-has t (a_branch c j k) (rw (s.value, e) q.value)

  emit-is : (t : List Node) (n : Node) {y : Emitted} {w : ℕ} {a : Value} → emit t n ≡ ok y →
      node_width ws (worked ws f t).widths n ≡ w → node_value (worked ws f t).widths f (worked ws f t).values n ≡ a →
      Is y.nodes y.node w a
  emit-is t n h d e = let s = emit-ok t n h in rw (s.nodes, s.node) (new_is t n d e)

  conditional-is : (t : List Node) (i j k : ℕ) {y : Emitted} {u w : ℕ} {a b c : Value} →
      Is t i u c → Is t j w a → Is t k w b → emit t (a_conditional i j k) ≡ ok y → Is y.nodes y.node w (choice c a b)
  unfolding node_width node_value
  conditional-is t i j k p q r h = emit-is t (a_conditional i j k) h q.width (rw (p.value, q.value, r.value))

  -- A branch node has the width of its arms, and the value of the leg taken.
  branch-is : (t : List Node) (c j k : ℕ) {y : Emitted} {u w : ℕ} {d : Value} (p q : Value) → Is t c u d → Is t j w p → Is t k w q →
      emit t (a_branch c j k) ≡ ok y → Is y.nodes y.node w (pick (holds d) p q)
  unfolding node_width node_value
  branch-is t c j k p q a b e h =
      emit-is t (a_branch c j k) h b.width (rw (a.value, b.value, e.value))

  -- ---- expressions

  -- The held nodes stand for the values g of the variables of widths us.
  abbrev pub Stand : List ℕ → List Node → (ℕ → ℕ) → (ℕ → Value) → Type 0
  Stand us t held g = (v : ℕ) → v < length us → Is t (held v) (get_or us v 0) (g v)

  pub stand-grows : (us : List ℕ) {t u : List Node} (held : ℕ → ℕ) (g : ℕ → Value) → Grows t u → Stand us t held g → Stand us u held g
  stand-grows us held g x s v l = is-grows x (s v l)

  -- Nodes, widths and values of a call's arguments, one by one.
  record Each (t : List Node) (ns ps : List ℕ) (vs : List Value) : Type 0 where
    nodes : length ns ≡ length ps
    values : length vs ≡ length ps
    is : (i : ℕ) → i < length ps → Is t (get_or ns i 0) (get_or ps i 0) (get_or vs i nowhere)

  each-grows : {t u : List Node} {ns ps : List ℕ} {vs : List Value} → Grows t u → Each t ns ps vs → Each u ns ps vs
  each-grows g s = record { nodes = s.nodes; values = s.values; is = λ i l. is-grows g (s.is i l) }

  each_first : {t : List Node} {n p : ℕ} {ns ps : List ℕ} {a : Value} {vs : List Value} → Is t n p a → Each t ns ps vs →
      Each t (n ∷ ns) (p ∷ ps) (a ∷ vs)
  each_first {t} {n} {p} {ns} {ps} {a} {vs} h s =
      record { nodes = ap suc s.nodes; values = ap suc s.values; is = at }
    where
      at : (i : ℕ) → i < suc (length ps) → Is t (get_or (n ∷ ns) i 0) (get_or (p ∷ ps) i 0) (get_or (a ∷ vs) i nowhere)
      at zero l = h
      at (suc i) l = s.is i (omega arith)

  -- With the result's node they stand for a body's variables.
  framed : {t : List Node} {ns ps : List ℕ} {vs : List Value} {r k : ℕ} {a : Value} → Each t ns ps vs → Is t r k a →
      Stand (ps ++ (k ∷ [])) t (held_in ns r) (frame vs a)
  framed {t} {ns} {ps} {vs} {r} {k} {a} s h v l = by (dec_lt v (length ps))
    where
      by : Dec (v < length ps) → Is t (get_or (ns ++ (r ∷ [])) v 0) (get_or (ps ++ (k ∷ [])) v 0) (get_or (vs ++ (a ∷ [])) v nowhere)
      by (yes q) =
          rw (
            get_or-append ns (r ∷ []) 0 v (omega (arith, s.nodes)),
            get_or-append ps (k ∷ []) 0 v q,
            get_or-append vs (a ∷ []) nowhere v (omega (arith, s.values)),
          )
          (s.is v q)
      by (no q) =
          let e : length ps ≡ v = omega (arith, length-append ps (k ∷ [])) in
          rw (get_or_at ns r [] 0 v (s.nodes ∙ e), get_or_at ps k [] 0 v e, get_or_at vs a [] nowhere v (s.values ∙ e)) h

  -- What was put: nodes were added, and one of them has the width and the value.
  record Put (t : List Node) (y : Emitted) (w : ℕ) (a : Value) : Type 0 where
    grows : Grows t y.nodes
    is : Is y.nodes y.node w a

  -- What a body's walk goes on to: behind t, where the result's node has the width k and the value a, it puts a node of the value K a.
  abbrev Goes : List Node → (ℕ → List Node → Res Emitted) → ℕ → (Value → Value) → Type 0
  Goes t next k K = (u : List Node) (n : ℕ) (y : Emitted) (a : Value) → Grows t u → Is u n k a → next n u ≡ ok y → Put u y k (K a)

  goes_later : {t u : List Node} (next : ℕ → List Node → Res Emitted) (k : ℕ) (K : Value → Value) → Grows t u → Goes t next k K →
      Goes u next k K
  goes_later next k K g go v n y a h = go v n y a (grows-trans g h)

  goes_end : (t : List Node) (k : ℕ) → Goes t ends k (λ a. a)
  goes_end t k u n y a g h e =
      subst (λ (z : Emitted). Put u z k a) (ok-injective e) (record { grows = grows-refl u; is = h })

  -- Both legs of an if, from behind its condition, and the branch node.
  legs : {t : List Node} {c j w : ℕ} {d : Value} {y : Emitted} (x z : Emitted) (p q : Value) → Is t c j d → Put t x w p →
      Put x.nodes z w q → emit z.nodes (a_branch c x.node z.node) ≡ ok y → Put t y w (pick (holds d) p q)
  legs {c = c} x z p q hc a b e =
      record {
        grows = grows-trans a.grows (grows-trans b.grows (emit-grows z.nodes _ e));
        is =
            branch-is z.nodes c x.node z.node p q (is-grows (grows-trans a.grows b.grows) hc)
            (is-grows b.grows a.is) b.is e;
      }

  put-after : {t u : List Node} {y : Emitted} {w : ℕ} {a : Value} → Grows t u → Put u y w a → Put t y w a
  put-after g p = record { grows = grows-trans g p.grows; is = p.is }

  -- A choice between two values that go on.
  on-pick : (K : Value → Value) (h : Bool) (p q : Value) → pick h (K p) (K q) ≡ K (pick h p q)
  on-pick K true p q = refl
  on-pick K false p q = refl

  mutual
    unfolding Typed express eval node_width node_value

    pub express-is : (us : List ℕ) (held : ℕ → ℕ) (g : ℕ → Value) (e : Expr) (t : List Node) (w : ℕ) {y : Emitted} → Typed us e w →
        Stand us t held g → express held e t ≡ ok y → Is y.nodes y.node w (eval g e)
    express-is us held g (variable v) t w ty s h =
        let q = ok-injective h in
        subst (λ (y : Emitted). Is y.nodes y.node w (g v)) q (rw ty.1 (s v ty.0))
    express-is us held g (constant k n) t w ty s h = emit-is t (a_constant k n) h (sym ty.3) refl
    express-is us held g (unknown k) t w ty s h = emit-is t (an_unknown k) h (sym ty.2) refl
    express-is us held g (unary o k a) t w ty s h =
        let x = bind_ok (express held a t) _ h in
        let p = express-is us held g a t k ty.2 s x.1 in
        emit-is x.0.nodes (a_unary o x.0.node) x.2 (rw p.width (sym ty.3)) (rw (p.width, p.value) refl)
    express-is us held g (binary o k a b) t w ty s h =
        let x = bind_ok (express held a t) _ h in
        let y = bind_ok (express held b x.0.nodes) _ x.2 in
        let gx = express-grows held a t x.1 in
        let gy = express-grows held b x.0.nodes y.1 in
        let p = is-grows gy (express-is us held g a t k ty.2 s x.1) in
        let q = express-is us held g b x.0.nodes k ty.3 (stand-grows us held g gx s) y.1 in
        emit-is y.0.nodes (a_binary o x.0.node y.0.node) y.2 (rw p.width (sym ty.4))
        (rw (p.width, p.value, q.value) refl)
    express-is us held g (conditional c a b) t w ty s h =
        let x = bind_ok (express held c t) _ h in
        let y = bind_ok (express held a x.0.nodes) _ x.2 in
        let z = bind_ok (express held b y.0.nodes) _ y.2 in
        let gx = express-grows held c t x.1 in
        let gy = express-grows held a x.0.nodes y.1 in
        let gz = express-grows held b y.0.nodes z.1 in
        let p = is-grows (grows-trans gy gz) (express-is us held g c t ty.0.0 ty.0.1 s x.1) in
        let q = is-grows {n = y.0.node} gz (express-is us held g a x.0.nodes w ty.1 (stand-grows us held g gx s) y.1) in
        let r = express-is us held g b y.0.nodes w ty.2 (stand-grows us held g (grows-trans gx gy) s) z.1 in
        conditional-is z.0.nodes x.0.node y.0.node z.0.node p q r z.2
    express-is us held g (call n k ys b) t w {y} ty s h =
        let x = bind_ok (express_all held ys t) _ h in
        let z = bind_ok (emit x.0.nodes (an_unknown k)) _ x.2 in
        let p = all-is us held g ys ty.2.0 t x.0 ty.2.1 s x.1 in
        let q : Is z.0.nodes z.0.node k (all_unknown k) = emit-is x.0.nodes (an_unknown k) z.1 refl refl in
        let r =
        follow-put b x.0.all ty.2.0 (eval_all g ys) k ends (λ a. a) z.0.node (all_unknown k) z.0.nodes y ty.2.2
        (each-grows (emit-grows x.0.nodes (an_unknown k) z.1) p) q (goes_end z.0.nodes k) z.2 in
        rw ty.3 r.is

    all-is : (us : List ℕ) (held : ℕ → ℕ) (g : ℕ → Value) (ys : Arguments) (ps : List ℕ) (t : List Node) (y : EmittedAll) →
        AllTyped us ys ps → Stand us t held g → express_all held ys t ≡ ok y → Each y.nodes y.all ps (eval_all g ys)
    all-is us held g no_more [] t y ty s h =
        subst (λ (z : EmittedAll). Each z.nodes z.all [] []) (ok-injective h)
        (record { nodes = refl; values = refl; is = λ i l. absurd (omega arith) })
    all-is us held g no_more (p ∷ ps) t y ty s h = absurd ty
    all-is us held g (argument e ys) [] t y ty s h = absurd ty
    all-is us held g (argument e ys) (p ∷ ps) t y ty s h =
        let x = bind_ok (express held e t) _ h in
        let z = bind_ok (express_all held ys x.0.nodes) _ x.2 in
        let a = express-is us held g e t p ty.0 s x.1 in
        let b = all-is us held g ys ps x.0.nodes z.0 ty.1 (stand-grows us held g (express-grows held e t x.1) s) z.1 in
        subst (λ (u : EmittedAll). Each u.nodes u.all (p ∷ ps) (eval g e ∷ eval_all g ys)) (ok-injective z.2)
        (each_first (is-grows (all-grows held ys x.0.nodes z.0 z.1) a) b)

    follow-put : (b : Body) (ns ps : List ℕ) (vs : List Value) (k : ℕ) (next : ℕ → List Node → Res Emitted) (K : Value → Value)
        (r : ℕ) (a : Value) (t : List Node) (y : Emitted) → BodyTyped (ps ++ (k ∷ [])) b k → Each t ns ps vs → Is t r k a →
        Goes t next k K → follow ns b next r t ≡ ok y → Put t y k (K (run vs b a))
    follow-put nothing ns ps vs k next K r a t y ty s h go e = go t r y a (grows-refl t) h e
    follow-put (result x) ns ps vs k next K r a t y ty s h go e =
        let z = bind_ok (express (held_in ns r) x t) _ e in
        let g = express-grows (held_in ns r) x t z.1 in
        let p = express-is (ps ++ (k ∷ [])) (held_in ns r) (frame vs a) x t k ty (framed s h) z.1 in
        put-after g (go z.0.nodes z.0.node y (eval (frame vs a) x) g p z.2)
    follow-put (in_turn b c) ns ps vs k next K r a t y ty s h go e =
        follow-put b ns ps vs k (follow ns c next) (λ v. K (run vs c v)) r a t y ty.0 s h
        (λ u n z v g i q. follow-put c ns ps vs k next K n v u z ty.1 (each-grows g s) i (goes_later next k K g go) q)
        e
    follow-put (if_then x b) ns ps vs k next K r a t y ty s h go e =
        let c = bind_ok (express (held_in ns r) x t) _ e in
        let u = bind_ok (follow ns b next r c.0.nodes) _ c.2 in
        let v = bind_ok (next r u.0.nodes) _ u.2 in
        let g = express-grows (held_in ns r) x t c.1 in
        let p = express-is (ps ++ (k ∷ [])) (held_in ns r) (frame vs a) x t ty.0.0 ty.0.1 (framed s h) c.1 in
        let q =
        follow-put b ns ps vs k next K r a c.0.nodes u.0 ty.1 (each-grows g s) (is-grows g h) (goes_later next k K g go) u.1 in
        let f = grows-trans g q.grows in
        let o = go u.0.nodes r v.0 a f (is-grows f h) v.1 in
        rw (← on-pick K (holds (eval (frame vs a) x)) (run vs b a) a)
        (put-after g (legs u.0 v.0 (K (run vs b a)) (K a) p q o v.2))
    follow-put (if_else x b c) ns ps vs k next K r a t y ty s h go e =
        let d = bind_ok (express (held_in ns r) x t) _ e in
        let u = bind_ok (follow ns b next r d.0.nodes) _ d.2 in
        let v = bind_ok (follow ns c next r u.0.nodes) _ u.2 in
        let g = express-grows (held_in ns r) x t d.1 in
        let p = express-is (ps ++ (k ∷ [])) (held_in ns r) (frame vs a) x t ty.0.0 ty.0.1 (framed s h) d.1 in
        let q =
        follow-put b ns ps vs k next K r a d.0.nodes u.0 ty.1 (each-grows g s) (is-grows g h) (goes_later next k K g go) u.1 in
        let f = grows-trans g q.grows in
        let o =
        follow-put c ns ps vs k next K r a u.0.nodes v.0 ty.2 (each-grows f s) (is-grows f h) (goes_later next k K f go) v.1 in
        rw (← on-pick K (holds (eval (frame vs a) x)) (run vs b a) (run vs c a))
        (put-after g (legs u.0 v.0 (K (run vs b a)) (K (run vs c a)) p q o v.2))
