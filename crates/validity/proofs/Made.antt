-- Nodes as extraction makes them (`Made`): each passes the cycle run's check beside those before it, and is read from its four words
-- as it was written. An expression that has width w leaves a node of width w (`express-made`).
use mathlib.Core.Path.{◌≡◌, refl, sym, ap, subst, ◌∙◌}
use mathlib.Core.Bool.{true}
use mathlib.Core.List.{List, [], ◌∷◌, ◌++◌}
use Prim.Native.Nat.{ℕ, zero, suc, ◌+◌, ◌-◌, ◌*◌, ◌^◌, ◌/◌, ◌%◌, ◌≤◌, ◌<◌}
use native.Mathlib.Omega.{arith}
use native.Mathlib.Nat.{div-add-mod}
use native.Mathlib.Decide.{dec_lt}
use lib.ListN.{length, get_or, length-append, get_or-append}
use lib.Seq.{get_or_at, get_or-append_seam}
use borrow.Author.Tests.{lt-ltb, le-leb, lt-leb, ne_eqb, eq-eqb}
use Rattle.values.specs.Operators.{unary_width, binary_width}
use Rattle.sheet.specs.Reading.{Res, ok}
use Rattle.sheet.proofs.Reading.{ok-injective, bind_ok}
use Rattle.sheet.specs.Expression.{Expr, variable, constant, unknown, unary, binary, conditional, call, Arguments, no_more, argument}
use Rattle.sheet.specs.Expression.{Body, nothing, result, in_turn, if_then, if_else}
use Rattle.sheet.specs.Module.{Module}
use Rattle.evaluation.specs.Widths.{Typed, AllTyped, BodyTyped}
use Rattle.nextstate.specs.Nodes.{Node, a_variable, a_constant, an_unknown, a_unary, a_binary, a_conditional, a_branch, four_words, node_words, node_from, node_at, node_width}
use Rattle.nextstate.specs.Walk.{Emitted, emit, EmittedAll, held_in, ends, express, express_all, follow}
use Rattle.nextstate.specs.CycleRun.{width?, node_fits, nodes_fit, widths_from}
use Rattle.walking.proofs.Growing.{Grows, grows-refl, grows-trans, grows-length, emit-ok, emit-grows, express-grows, all-grows}
use Rattle.validity.proofs.Folds.{widths-length, widths-grow, widths-new, fit-snoc, fit-prefix}

-- ---- a node is read from its words as it was written

unfoldable pub Coded : Node → Type 0
Coded n = node_at (node_words n) 0 ≡ n

halves : (n : ℕ) → n % 65536 + 65536 * (n / 65536) ≡ n
halves n = omega (arith, div-add-mod n 65536)

pub coded-variable : (v : ℕ) → Coded (a_variable v)
unfolding Coded node_at node_from node_words four_words
coded-variable v = refl

pub coded-constant : (w n : ℕ) → Coded (a_constant w n)
unfolding Coded node_at node_from node_words four_words
coded-constant w n = ap (a_constant w) (halves n)

pub coded-unknown : (w : ℕ) → Coded (an_unknown w)
unfolding Coded node_at node_from node_words four_words
coded-unknown w = refl

pub coded-conditional : (c a b : ℕ) → Coded (a_conditional c a b)
unfolding Coded node_at node_from node_words four_words
coded-conditional c a b = refl

pub coded-branch : (c a b : ℕ) → Coded (a_branch c a b)
unfolding Coded node_at node_from node_words four_words
coded-branch c a b = refl

pub coded-unary : (o a : ℕ) → 1 ≤ o → o ≤ 2 → Coded (a_unary o a)
unfolding Coded node_at node_from node_words four_words
coded-unary o a l h =
    rw (
      ne_eqb (10 + o) 0 (λ z. omega arith),
      ne_eqb (10 + o) 1 (λ z. omega arith),
      ne_eqb (10 + o) 2 (λ z. omega arith),
      ne_eqb (10 + o) 20 (λ z. omega arith),
      ne_eqb (10 + o) 40 (λ z. omega arith),
      le-leb 11 (10 + o) (omega arith),
      le-leb (10 + o) 12 (omega arith),
    )
    (let e : (10 + o) - 10 ≡ o = omega arith in ap (λ x. a_unary x a) e)

pub coded-binary : (o a b : ℕ) → 3 ≤ o → o ≤ 9 → Coded (a_binary o a b)
unfolding Coded node_at node_from node_words four_words
coded-binary o a b l h =
    rw (
      ne_eqb (10 + o) 0 (λ z. omega arith),
      ne_eqb (10 + o) 1 (λ z. omega arith),
      ne_eqb (10 + o) 2 (λ z. omega arith),
      ne_eqb (10 + o) 20 (λ z. omega arith),
      ne_eqb (10 + o) 40 (λ z. omega arith),
      le-leb 11 (10 + o) (omega arith),
      lt-leb (10 + o) 12 (omega arith),
      le-leb (10 + o) 19 (omega arith),
    )
    (let e : (10 + o) - 10 ≡ o = omega arith in ap (λ x. a_binary x a b) e)

-- ---- Made

module _ (m : Module Expr) where
  pub record Made (t : List Node) : Type 0 where
    pub fit : nodes_fit m t [] ≡ true
    pub coded : (n : ℕ) → n < length t → Coded (get_or t n (a_variable 0))

  -- Node n of t has width w.
  abbrev pub Has : List Node → ℕ → ℕ → Type 0
  Has t n w = (n < length t) × (get_or (widths_from m t []) n 0 ≡ w)

  pub has-grows : {t u : List Node} {n w : ℕ} → Grows t u → Has t n w → Has u n w
  has-grows {t} {u} {n} {w} g h =
      (omega (arith, grows-length g, h.0), ap (λ (l : List Node). get_or (widths_from m l []) n 0) g.is ∙ widths-grow m t g.more n h.0 ∙ h.1)

  pub made_nothing : Made []
  unfolding nodes_fit
  made_nothing = record { fit = refl; coded = λ n l. absurd (omega arith) }

  pub made-snoc : (t : List Node) (n : Node) → Made t → node_fits m (widths_from m t []) n ≡ true → Coded n → Made (t ++ (n ∷ []))
  unfolding Coded
  made-snoc t n d f c = record { fit = fit-snoc m t n d.fit f; coded = λ k l. by k l (dec_lt k (length t)) }
    where
      by : (k : ℕ) → k < length (t ++ (n ∷ [])) → Dec (k < length t) → Coded (get_or (t ++ (n ∷ [])) k (a_variable 0))
      by k l (yes h) = rw (get_or-append t (n ∷ []) (a_variable 0) k h) (d.coded k h)
      by k l (no h) =
          let e : k ≡ length t = omega (arith, length-append t (n ∷ [])) in
          rw (e, get_or-append_seam t n [] (a_variable 0)) c

  pub made-prefix : (t u : List Node) → Made (t ++ u) → Made t
  unfolding Coded
  made-prefix t u d =
      record {
        fit = fit-prefix m t u [] d.fit;
        coded = λ n l. rw (get_or-append t u (a_variable 0) n l) at (d.coded n (omega (arith, length-append t u)));
      }

  -- One node more has its width.
  pub emit-made : (t : List Node) (n : Node) {y : Emitted} → Made t → node_fits m (widths_from m t []) n ≡ true → Coded n → emit t n ≡ ok y →
      Made y.nodes × Has y.nodes y.node (node_width m.scope.widths (widths_from m t []) n)
  emit-made t n {y} d f c h =
      let s = emit-ok t n h in (
        subst Made (sym s.nodes) (made-snoc t n d f c),
        (
          omega (arith, s.node, ap length s.nodes, length-append t (n ∷ [])),
          rw (s.nodes, s.node) (widths-new m t n),
        ),
      )

  -- ---- what a node's operands have to be

  fits-binary : (t : List Node) (o a b w : ℕ) → Has t a w → Has t b w → node_fits m (widths_from m t []) (a_binary o a b) ≡ true
  unfolding node_fits
  fits-binary t o a b w h k =
      let l = widths-length m t [] in
      rw (lt-ltb a (length (widths_from m t [])) (omega (arith, h.0)), lt-ltb b (length (widths_from m t [])) (omega (arith, k.0)))
      (eq-eqb (get_or (widths_from m t []) a 0) (get_or (widths_from m t []) b 0) (h.1 ∙ sym k.1))

  pub fits-branch : (t : List Node) (c a b w : ℕ) → c < length t → Has t a w → Has t b w → node_fits m (widths_from m t []) (a_branch c a b) ≡ true
  unfolding node_fits
  fits-branch t c a b w q h k =
      let l = widths-length m t [] in
      rw (lt-ltb c (length (widths_from m t [])) (omega arith), lt-ltb a (length (widths_from m t [])) (omega (arith, h.0)), lt-ltb b (length (widths_from m t [])) (omega (arith, k.0)))
      (eq-eqb (get_or (widths_from m t []) a 0) (get_or (widths_from m t []) b 0) (h.1 ∙ sym k.1))

  fits-conditional : (t : List Node) (c a b w : ℕ) → c < length t → Has t a w → Has t b w → node_fits m (widths_from m t []) (a_conditional c a b) ≡ true
  unfolding node_fits
  fits-conditional t c a b w q h k =
      let l = widths-length m t [] in
      rw (lt-ltb c (length (widths_from m t [])) (omega arith), lt-ltb a (length (widths_from m t [])) (omega (arith, h.0)), lt-ltb b (length (widths_from m t [])) (omega (arith, k.0)))
      (eq-eqb (get_or (widths_from m t []) a 0) (get_or (widths_from m t []) b 0) (h.1 ∙ sym k.1))

  fits-unary : (t : List Node) (o a w : ℕ) → Has t a w → node_fits m (widths_from m t []) (a_unary o a) ≡ true
  unfolding node_fits
  fits-unary t o a w h = let l = widths-length m t [] in lt-ltb a (length (widths_from m t [])) (omega (arith, h.0))

  is-width : (w : ℕ) → 1 ≤ w → w ≤ 32 → width? m w ≡ true
  unfolding width?
  is-width w l h = rw (le-leb 1 w l, le-leb w 32 h) refl

  pub fits-constant : (us : List ℕ) (w n : ℕ) → 1 ≤ w → w ≤ 32 → n < 2 ^ w → node_fits m us (a_constant w n) ≡ true
  unfolding node_fits
  fits-constant us w n l h k = rw (is-width w l h, lt-ltb n (2 ^ w) k) refl

  fits-unknown : (us : List ℕ) (w : ℕ) → 1 ≤ w → w ≤ 32 → node_fits m us (an_unknown w) ≡ true
  unfolding node_fits
  fits-unknown us w l h = is-width w l h

  -- ---- an expression of width w leaves a node of width w

  -- The held nodes have the widths us of the variables.
  abbrev pub Holds : List ℕ → List Node → (ℕ → ℕ) → Type 0
  Holds us t held = (v : ℕ) → v < length us → Has t (held v) (get_or us v 0)

  holds-grows : (us : List ℕ) {t u : List Node} (held : ℕ → ℕ) → Grows t u → Holds us t held → Holds us u held
  holds-grows us held g s v l = has-grows g (s v l)

  -- Nodes and widths of a call's arguments, one by one.
  record Each (t : List Node) (ns ps : List ℕ) : Type 0 where
    nodes : length ns ≡ length ps
    has : (i : ℕ) → i < length ps → Has t (get_or ns i 0) (get_or ps i 0)

  each-grows : {t u : List Node} {ns ps : List ℕ} → Grows t u → Each t ns ps → Each u ns ps
  each-grows g s = record { nodes = s.nodes; has = λ i l. has-grows g (s.has i l) }

  each_first : {t : List Node} {n p : ℕ} {ns ps : List ℕ} → Has t n p → Each t ns ps → Each t (n ∷ ns) (p ∷ ps)
  each_first {t} {n} {p} {ns} {ps} h s = record { nodes = ap suc s.nodes; has = at }
    where
      at : (i : ℕ) → i < suc (length ps) → Has t (get_or (n ∷ ns) i 0) (get_or (p ∷ ps) i 0)
      at zero l = h
      at (suc i) l = s.has i (omega arith)

  -- With the result's node they are a body's variables.
  framed : {t : List Node} {ns ps : List ℕ} {r k : ℕ} → Each t ns ps → Has t r k → Holds (ps ++ (k ∷ [])) t (held_in ns r)
  framed {t} {ns} {ps} {r} {k} s h v l = by (dec_lt v (length ps))
    where
      by : Dec (v < length ps) → Has t (get_or (ns ++ (r ∷ [])) v 0) (get_or (ps ++ (k ∷ [])) v 0)
      by (yes q) =
          rw (get_or-append ns (r ∷ []) 0 v (omega (arith, s.nodes)), get_or-append ps (k ∷ []) 0 v q) (s.has v q)
      by (no q) =
          let e : length ps ≡ v = omega (arith, length-append ps (k ∷ [])) in
          rw (get_or_at ns r [] 0 v (s.nodes ∙ e), get_or_at ps k [] 0 v e) h

  -- What was put: nodes were added, made as all are, and one of them has the width.
  record Put (t : List Node) (y : Emitted) (w : ℕ) : Type 0 where
    grows : Grows t y.nodes
    made : Made y.nodes
    has : Has y.nodes y.node w

  put-after : {t u : List Node} {y : Emitted} {w : ℕ} → Grows t u → Put u y w → Put t y w
  put-after g p = record { grows = grows-trans g p.grows; made = p.made; has = p.has }

  -- What a body's walk goes on to behind t, where the result's node has width k.
  abbrev Goes : List Node → (ℕ → List Node → Res Emitted) → ℕ → Type 0
  Goes t next k = (u : List Node) (n : ℕ) (y : Emitted) → Grows t u → Made u → Has u n k → next n u ≡ ok y → Put u y k

  goes_later : {t u : List Node} (next : ℕ → List Node → Res Emitted) (k : ℕ) → Grows t u → Goes t next k → Goes u next k
  goes_later next k g go v n y h = go v n y (grows-trans g h)

  goes_end : (t : List Node) (k : ℕ) → Goes t ends k
  goes_end t k u n y g d h e =
      subst (λ (z : Emitted). Put u z k) (ok-injective e) (record { grows = grows-refl u; made = d; has = h })

  -- Both legs of an if, from behind its condition, and the branch node.
  legs : {t : List Node} {c j w : ℕ} {y : Emitted} (x z : Emitted) → Has t c j → Put t x w → Put x.nodes z w →
      emit z.nodes (a_branch c x.node z.node) ≡ ok y → Put t y w
  unfolding node_width
  legs {c = c} {w = w} x z hc a b e =
      let n = z.nodes in
      let ra = has-grows b.grows a.has in
      let r =
      emit-made n (a_branch c x.node z.node) b.made
      (fits-branch n c x.node z.node w (has-grows (grows-trans a.grows b.grows) hc).0 ra b.has)
      (coded-branch c x.node z.node) e in
      record {
        grows = grows-trans a.grows (grows-trans b.grows (emit-grows n _ e));
        made = r.0;
        has = (r.1.0, r.1.1 ∙ ra.1);
      }

  mutual
    unfolding Typed express node_width

    pub express-made : (us : List ℕ) (held : ℕ → ℕ) (e : Expr) (w : ℕ) (t : List Node) {y : Emitted} → Typed us e w → Holds us t held →
        Made t → express held e t ≡ ok y → Made y.nodes × Has y.nodes y.node w
    express-made us held (variable v) w t {y} wt hs d h =
        let q = ok-injective h in
        let n : y.nodes ≡ t = sym (ap (λ (u : Emitted). u.nodes) q) in
        let j : y.node ≡ held v = sym (ap (λ (u : Emitted). u.node) q) in
        let z = hs v wt.0 in
        (rw n d, rw (n, j, wt.1) z)
    express-made us held (constant c n) w t wt hs d h =
        let r = emit-made t (a_constant c n) d (fits-constant (widths_from m t []) c n wt.0 wt.1 wt.2) (coded-constant c n) h in
        (r.0, (r.1.0, r.1.1 ∙ sym wt.3))
    express-made us held (unknown c) w t wt hs d h =
        let r = emit-made t (an_unknown c) d (fits-unknown (widths_from m t []) c wt.0 wt.1) (coded-unknown c) h in
        (r.0, (r.1.0, r.1.1 ∙ sym wt.2))
    express-made us held (unary o c a) w t wt hs d h =
        let x = bind_ok (express held a t) _ h in
        let r = express-made us held a c t wt.2 hs d x.1 in
        let n = x.0.nodes in
        let z = emit-made n (a_unary o x.0.node) r.0 (fits-unary n o x.0.node c r.1) (coded-unary o x.0.node wt.0 wt.1) x.2 in
        (z.0, (z.1.0, z.1.1 ∙ ap (unary_width o) r.1.1 ∙ sym wt.3))
    express-made us held (binary o c a b) w t wt hs d h =
        let x = bind_ok (express held a t) _ h in
        let y = bind_ok (express held b x.0.nodes) _ x.2 in
        let r = express-made us held a c t wt.2 hs d x.1 in
        let g = express-grows held a t x.1 in
        let s = express-made us held b c x.0.nodes wt.3 (holds-grows us held g hs) r.0 y.1 in
        let ra = has-grows (express-grows held b x.0.nodes y.1) r.1 in
        let n = y.0.nodes in
        let z = emit-made n (a_binary o x.0.node y.0.node) s.0 (fits-binary n o x.0.node y.0.node c ra s.1)
        (coded-binary o x.0.node y.0.node wt.0 wt.1) y.2 in
        (z.0, (z.1.0, z.1.1 ∙ ap (binary_width o) ra.1 ∙ sym wt.4))
    express-made us held (conditional c a b) w t wt hs d h =
        let x = bind_ok (express held c t) _ h in
        let y = bind_ok (express held a x.0.nodes) _ x.2 in
        let u = bind_ok (express held b y.0.nodes) _ y.2 in
        let q = express-made us held c wt.0.0 t wt.0.1 hs d x.1 in
        let g = express-grows held c t x.1 in
        let r = express-made us held a w x.0.nodes wt.1 (holds-grows us held g hs) q.0 y.1 in
        let f = grows-trans g (express-grows held a x.0.nodes y.1) in
        let s = express-made us held b w y.0.nodes wt.2 (holds-grows us held f hs) r.0 u.1 in
        let e = express-grows held b y.0.nodes u.1 in
        let rc = has-grows (grows-trans (express-grows held a x.0.nodes y.1) e) q.1 in
        let ra = has-grows e r.1 in
        let n = u.0.nodes in
        let z = emit-made n (a_conditional x.0.node y.0.node u.0.node) s.0
        (fits-conditional n x.0.node y.0.node u.0.node w rc.0 ra s.1)
        (coded-conditional x.0.node y.0.node u.0.node) u.2 in
        (z.0, (z.1.0, z.1.1 ∙ ra.1))
    express-made us held (call n c ys b) w t {y} wt hs d h =
        let x = bind_ok (express_all held ys t) _ h in
        let z = bind_ok (emit x.0.nodes (an_unknown c)) _ x.2 in
        let p = all_made us held ys wt.2.0 t x.0 wt.2.1 hs d x.1 in
        let r =
        emit-made x.0.nodes (an_unknown c) p.0 (fits-unknown (widths_from m x.0.nodes []) c wt.0 wt.1) (coded-unknown c) z.1 in
        let s =
        follow-made b x.0.all wt.2.0 c ends z.0.node z.0.nodes y wt.2.2
        (each-grows (emit-grows x.0.nodes (an_unknown c) z.1) p.1) r.0 r.1 (goes_end z.0.nodes c) z.2 in
        (s.made, rw wt.3 s.has)

    all_made : (us : List ℕ) (held : ℕ → ℕ) (ys : Arguments) (ps : List ℕ) (t : List Node) (y : EmittedAll) → AllTyped us ys ps →
        Holds us t held → Made t → express_all held ys t ≡ ok y → Made y.nodes × Each y.nodes y.all ps
    all_made us held no_more [] t y wt hs d h =
        subst (λ (z : EmittedAll). Made z.nodes × Each z.nodes z.all []) (ok-injective h)
        (d, record { nodes = refl; has = λ i l. absurd (omega arith) })
    all_made us held no_more (p ∷ ps) t y wt hs d h = absurd wt
    all_made us held (argument e ys) [] t y wt hs d h = absurd wt
    all_made us held (argument e ys) (p ∷ ps) t y wt hs d h =
        let x = bind_ok (express held e t) _ h in
        let z = bind_ok (express_all held ys x.0.nodes) _ x.2 in
        let a = express-made us held e p t wt.0 hs d x.1 in
        let b = all_made us held ys ps x.0.nodes z.0 wt.1 (holds-grows us held (express-grows held e t x.1) hs) a.0 z.1 in
        subst (λ (u : EmittedAll). Made u.nodes × Each u.nodes u.all (p ∷ ps)) (ok-injective z.2)
        (b.0, each_first (has-grows (all-grows held ys x.0.nodes z.0 z.1) a.1) b.1)

    follow-made : (b : Body) (ns ps : List ℕ) (k : ℕ) (next : ℕ → List Node → Res Emitted) (r : ℕ) (t : List Node) (y : Emitted) →
        BodyTyped (ps ++ (k ∷ [])) b k → Each t ns ps → Made t → Has t r k → Goes t next k → follow ns b next r t ≡ ok y → Put t y k
    follow-made nothing ns ps k next r t y wt s d h go e = go t r y (grows-refl t) d h e
    follow-made (result x) ns ps k next r t y wt s d h go e =
        let z = bind_ok (express (held_in ns r) x t) _ e in
        let g = express-grows (held_in ns r) x t z.1 in
        let p = express-made (ps ++ (k ∷ [])) (held_in ns r) x k t wt (framed s h) d z.1 in
        put-after g (go z.0.nodes z.0.node y g p.0 p.1 z.2)
    follow-made (in_turn b c) ns ps k next r t y wt s d h go e =
        follow-made b ns ps k (follow ns c next) r t y wt.0 s d h
        (λ u n z g i j q. follow-made c ns ps k next n u z wt.1 (each-grows g s) i j (goes_later next k g go) q)
        e
    follow-made (if_then x b) ns ps k next r t y wt s d h go e =
        let c = bind_ok (express (held_in ns r) x t) _ e in
        let u = bind_ok (follow ns b next r c.0.nodes) _ c.2 in
        let v = bind_ok (next r u.0.nodes) _ u.2 in
        let g = express-grows (held_in ns r) x t c.1 in
        let p = express-made (ps ++ (k ∷ [])) (held_in ns r) x wt.0.0 t wt.0.1 (framed s h) d c.1 in
        let q =
        follow-made b ns ps k next r c.0.nodes u.0 wt.1 (each-grows g s) p.0 (has-grows g h) (goes_later next k g go) u.1 in
        let f = grows-trans g q.grows in
        put-after g (legs u.0 v.0 p.1 q (go u.0.nodes r v.0 f q.made (has-grows f h) v.1) v.2)
    follow-made (if_else x b c) ns ps k next r t y wt s d h go e =
        let i = bind_ok (express (held_in ns r) x t) _ e in
        let u = bind_ok (follow ns b next r i.0.nodes) _ i.2 in
        let v = bind_ok (follow ns c next r u.0.nodes) _ u.2 in
        let g = express-grows (held_in ns r) x t i.1 in
        let p = express-made (ps ++ (k ∷ [])) (held_in ns r) x wt.0.0 t wt.0.1 (framed s h) d i.1 in
        let q =
        follow-made b ns ps k next r i.0.nodes u.0 wt.1 (each-grows g s) p.0 (has-grows g h) (goes_later next k g go) u.1 in
        let f = grows-trans g q.grows in
        let o =
        follow-made c ns ps k next r u.0.nodes v.0 wt.2 (each-grows f s) q.made (has-grows f h) (goes_later next k f go) v.1 in
        put-after g (legs u.0 v.0 p.1 q o v.2)
