-- The walk keeps what the cycle run's check asks (`walk-made`): its nodes are Made, each register's node has the register's width, and
-- the place's branch arms all end in waits of the thread.
use mathlib.Core.Path.{◌≡◌, refl, sym, ap, subst, ◌∙◌}
use mathlib.Core.Logic.{inl, inr}
use mathlib.Core.Bool.{Bool, true, false}
use mathlib.Core.List.{List, [], ◌∷◌, ◌++◌}
use Prim.Native.Nat.{ℕ, zero, suc, ◌+◌, ◌-◌, ◌≤◌, ◌<◌}
use native.Mathlib.Omega.{arith}
use native.Mathlib.Decide.{ℕ_discrete, dec_lt}
use lib.ListN.{length, get_or, set, length-set, length-append, get_or-append}
use lib.Seq.{get_or-set_same, get_or-set_other, get_or_at}
use borrow.Author.Tests.{lt-ltb, le-leb, lt-leb, le-ltb}
use Rattle.values.specs.Values.{pick}
use Rattle.sheet.specs.Reading.{Res, ok}
use Rattle.sheet.specs.Expression.{Expr}
use Rattle.sheet.specs.Statement.{is_register}
use Rattle.sheet.specs.Module.{Module}
use Rattle.sheet.proofs.Reading.{ok-injective, bind_ok}
use Rattle.pseudocode.specs.Translation.{Instr}
use Rattle.state.proofs.Rows.{get_d-list_of}
use Rattle.soundness.specs.Soundness.{Sound, SoundExpr, SoundInstr, sound-wait, sound-set, sound-later, sound-go, sound-ifnot}
use Rattle.events.specs.Cycle.{code_of, instr_at, is_wait}
use Rattle.nextstate.specs.Rules.{defers}
use Rattle.nextstate.specs.Nodes.{Node, a_constant, a_branch, node_width}
use Rattle.nextstate.specs.Walk.{Emitted, Held, Walked, Merged, held_node, landed, express, merge, visit, walk}
use Rattle.nextstate.specs.CycleRun.{lands, landings, widths_from}
use Rattle.threads.specs.Resting.{Leads, Way, here, step}
use Rattle.nextstate.proofs.Ruled.{writes-register, sound-instr}
use Rattle.threads.proofs.Resting.{leads-inside}
use Rattle.walking.proofs.Growing.{Grows, grows_same, grows-trans, grows-length, grows-by, Branches, express-grows, MergesOne, written, unwritten, merge_one-ok, merge-grows, merge-length, visit-branches, visit-wait, walk-grows}
use Rattle.validity.proofs.Folds.{landings-grow, landings-new, widths-new}
use Rattle.validity.proofs.Made.{Made, Has, has-grows, made-snoc, express-made, fits-branch, fits-constant, coded-branch, coded-constant}

module _ (m : Module Expr) where
  -- Each register's node has the register's width.
  abbrev pub RowHas : List Node → List ℕ → Type 0
  RowHas t row = (r : ℕ) → r < m.scope.registers → Has m t (get_or row r 0) (get_or m.scope.widths (m.scope.inputs + r) 0)

  -- Each variable's own node has the variable's width.
  abbrev pub OwnNodes : List Node → Type 0
  OwnNodes t = (v : ℕ) → v < length m.scope.widths → Has m t v (get_or m.scope.widths v 0)

  row-grows : {t u : List Node} (row : List ℕ) → Grows t u → RowHas t row → RowHas u row
  row-grows row g h r l = has-grows m g (h r l)

  own-grows : {t u : List Node} → Grows t u → OwnNodes t → OwnNodes u
  own-grows g h v l = has-grows m g (h v l)

  pub record HeldHas (t : List Node) (h : Held) : Type 0 where
    pub current : RowHas t h.current
    pub later : RowHas t h.later
    pub current-length : length h.current ≡ 32
    pub later-length : length h.later ≡ 32

  held-grows : {t u : List Node} {h : Held} → Grows t u → HeldHas t h → HeldHas u h
  held-grows {h = h} g k =
      record {
        current = row-grows h.current g k.current;
        later = row-grows h.later g k.later;
        current-length = k.current-length;
        later-length = k.later-length;
      }

  -- A row with one register's node set anew.
  row-set : (t : List Node) (row : List ℕ) (q n : ℕ) → m.scope.registers ≤ 32 → length row ≡ 32 → q < m.scope.registers →
      Has m t n (get_or m.scope.widths (m.scope.inputs + q) 0) → RowHas t row → RowHas t (set row q n)
  row-set t row q n most len l new h r k = by (ℕ_discrete r q)
    where
      by : Dec (r ≡ q) → Has m t (get_or (set row q n) r 0) (get_or m.scope.widths (m.scope.inputs + r) 0)
      by (yes e) = rw (e, get_or-set_same row q n 0 (omega arith)) new
      by (no ne) = rw (get_or-set_other row q r n 0 ne) (h r k)

  -- The node that stands for a variable has its width.
  held-has : (t : List Node) (row : List ℕ) → OwnNodes t → RowHas t row → (v : ℕ) → v < length m.scope.widths →
      Has m t (held_node m row v) (get_or m.scope.widths v 0)
  unfolding held_node is_register
  held-has t row own h v l = by (dec_lt v m.scope.inputs) (dec_lt v (m.scope.inputs + m.scope.registers))
    where
      by : Dec (v < m.scope.inputs) → Dec (v < m.scope.inputs + m.scope.registers) →
          Has m t (held_node m row v) (get_or m.scope.widths v 0)
      by (yes a) b = rw (lt-leb m.scope.inputs v a) (own v l)
      by (no a) (no b) = rw (le-leb m.scope.inputs v (omega arith), le-ltb v (m.scope.inputs + m.scope.registers) (omega arith)) (own v l)
      by (no a) (yes b) =
          let e : m.scope.inputs + (v - m.scope.inputs) ≡ v = omega arith in
          rw (le-leb m.scope.inputs v (omega arith), lt-ltb v (m.scope.inputs + m.scope.registers) b)
          (subst (λ (x : ℕ). Has m t (get_or row (v - m.scope.inputs) 0) (get_or m.scope.widths x 0)) e (h (v - m.scope.inputs) (omega arith)))

-- ---- places

module _ (m : Module Expr) (i : ℕ) where
  abbrev pub Lands : List Node → ℕ → Type 0
  Lands t n = (n < length t) × (get_or (landings m i t []) n false ≡ true)

  pub lands-grows : {t u : List Node} {n : ℕ} → Grows t u → Lands t n → Lands u n
  lands-grows {t} {u} {n} g h =
      (omega (arith, grows-length g, h.0), ap (λ (l : List Node). get_or (landings m i l []) n false) g.is ∙ landings-grow m i t g.more n h.0 ∙ h.1)

  lands-wait : (t : List Node) (p : ℕ) → is_wait (instr_at (code_of m i) p) ≡ true → Lands (t ++ (a_constant 8 p ∷ [])) (length t)
  unfolding lands
  lands-wait t p h =
      (omega (arith, length-append t (a_constant 8 p ∷ [])), landings-new m i t (a_constant 8 p) ∙ h)

  lands-branch : (t : List Node) (c a b : ℕ) → Lands t a → Lands t b → Lands (t ++ (a_branch c a b ∷ [])) (length t)
  unfolding lands
  lands-branch t c a b h k =
      (omega (arith, length-append t (a_branch c a b ∷ [])), landings-new m i t (a_branch c a b) ∙ rw (h.1, k.1) refl)

  -- Places have known 8-bit widths.
  -- Every way on from place p has less than n steps.
  abbrev pub Within : ℕ → ℕ → Type 0
  Within n p = (k q : ℕ) → Way (code_of m i) p k q → k < n

  within_step : {n p q : ℕ} → Within (suc n) p → Leads (instr_at (code_of m i) p) p q → Within n q
  within_step w l k r way = omega (arith, w (suc k) r (step l way))

  -- ---- two legs put together

  -- The registers below n.
  pub record MergeMade (n : ℕ) (x : Merged) : Type 0 where
    pub made : Made m x.nodes
    pub registers : (r : ℕ) → r < n → r < m.scope.registers → Has m x.nodes (get_or x.registers r 0) (get_or m.scope.widths (m.scope.inputs + r) 0)

  module _ (w : Sound m) (c : ℕ) (a b : List ℕ) where
    -- One register more, whose node is `new`.
    more-made : (n : ℕ) (x y : Merged) (new : ℕ) → length x.registers ≡ n → Grows x.nodes y.nodes → Made m y.nodes →
        y.registers ≡ x.registers ++ (new ∷ []) →
        (n < m.scope.registers → Has m y.nodes new (get_or m.scope.widths (m.scope.inputs + n) 0)) →
        MergeMade n x → MergeMade (suc n) y
    more-made n x y new len g mk rs h d = record { made = mk; registers = λ r l k. by r l k (ℕ_discrete r n) }
      where
        by : (r : ℕ) → r < suc n → r < m.scope.registers → Dec (r ≡ n) →
            Has m y.nodes (get_or y.registers r 0) (get_or m.scope.widths (m.scope.inputs + r) 0)
        by r l k (yes e) = rw (e, rs, get_or_at x.registers new [] 0 n len) (h (omega arith))
        by r l k (no ne) = rw (rs, get_or-append x.registers (new ∷ []) 0 r (omega arith)) (has-grows m g (d.registers r (omega arith) k))

    one-made : (n : ℕ) (x y : Merged) → length x.registers ≡ n → c < length x.nodes → RowHas m x.nodes a → RowHas m x.nodes b →
        MergeMade n x → MergesOne m i c a b n x y → MergeMade (suc n) y
    unfolding node_width
    one-made n x y len lc ha hb d (written wr ns rs) =
        let q = writes-register m w i (m.scope.inputs + n) wr in
        let l : n < m.scope.registers = omega (arith, q) in
        let new = a_branch c (get_or a n 0) (get_or b n 0) in
        let mk = made-snoc m x.nodes new d.made (fits-branch m x.nodes c (get_or a n 0) (get_or b n 0) _ lc (ha n l) (hb n l)) (coded-branch c (get_or a n 0) (get_or b n 0)) in
        more-made n x y (length x.nodes) len (grows-by (new ∷ []) ns) (subst (Made m) (sym ns) mk) rs
        (λ k. (omega (arith, ap length ns, length-append x.nodes (new ∷ [])), rw ns (widths-new m x.nodes new) ∙ (ha n l).1))
        d
    one-made n x y len lc ha hb d (unwritten wr ns rs) =
        let g = grows_same ns in
        more-made n x y (get_or a n 0) len g (subst (Made m) (sym ns) d.made) rs (λ k. has-grows m g (ha n k)) d

    pub merge-made : (n : ℕ) (t : List Node) {x : Merged} → c < length t → RowHas m t a → RowHas m t b → Made m t →
        merge m i c a b n t ≡ ok x → MergeMade n x
    unfolding merge
    merge-made zero t {x} lc ha hb d h =
        record { made = subst (Made m) (ap (λ (u : Merged). u.nodes) (ok-injective h)) d; registers = λ r l k. absurd (omega arith) }
    merge-made (suc n) t lc ha hb d h =
        let x = bind_ok (merge m i c a b n t) _ h in
        let g = merge-grows m i c a b n t x.1 in
        one-made n x.0 _ (merge-length m i c a b n t x.1) (omega (arith, grows-length g)) (row-grows m a g ha) (row-grows m b g hb)
        (merge-made n t lc ha hb d x.1) (merge_one-ok m i c a b n x.0 x.2)

  -- ---- the walk

  pub record WalkMade (x : Walked) : Type 0 where
    pub made : Made m x.nodes
    pub registers : RowHas m x.nodes x.registers
    pub place : Lands x.nodes x.place
    pub place-width : Has m x.nodes x.place 8

  -- The nodes before a walk.
  pub record Ready (t : List Node) (h : Held) : Type 0 where
    pub made : Made m t
    pub own : OwnNodes m t
    pub held : HeldHas m t h

  module _ (w : Sound m) where
    landed-has : (t : List Node) (h : Held) → HeldHas m t h → RowHas m t (landed m i h)
    unfolding landed
    landed-has t h k r l =
        let most = w.registers-most in
        rw (get_d-list_of (λ r. pick (defers m i (m.scope.inputs + r)) (get_or h.later r 0) (get_or h.current r 0)) 32 r 0 (omega arith))
        (by (defers m i (m.scope.inputs + r)))
      where
        by : (b : Bool) → Has m t (pick b (get_or h.later r 0) (get_or h.current r 0)) (get_or m.scope.widths (m.scope.inputs + r) 0)
        by true = k.later r l
        by false = k.current r l

    wait-made : (p : ℕ) (h : Held) (t : List Node) (x : Walked) → p < 256 → is_wait (instr_at (code_of m i) p) ≡ true → Ready t h →
        (x.nodes ≡ t ++ (a_constant 8 p ∷ [])) × (x.registers ≡ landed m i h) × (x.place ≡ length t) → WalkMade x
    unfolding node_width
    wait-made p h t x l q k e =
        let g = grows-by (a_constant 8 p ∷ []) e.0 in
        record {
          made = subst (Made m) (sym e.0) (made-snoc m t (a_constant 8 p) k.made (fits-constant m (widths_from m t []) 8 p (omega arith) (omega arith) (omega arith)) (coded-constant 8 p));
          registers = rw e.1 (row-grows m (landed m i h) g (landed-has t h k.held));
          place = rw (e.0, e.2) (lands-wait t p q);
          place-width = rw (e.0, e.2) ((lands-wait t p q).0, widths-new m t (a_constant 8 p));
        }

    -- An expression's node, and all that was before it.
    expressed : (e : Expr) (v : ℕ) (h : Held) (t : List Node) (y : Emitted) → SoundExpr m.scope v e → Ready t h →
        express (held_node m h.current) e t ≡ ok y → Ready y.nodes h × Has m y.nodes y.node v
    expressed e v h t y s k q =
        let r = express-made m m.scope.widths (held_node m h.current) e v t s.typed (held-has m t h.current k.own k.held.current) k.made q in
        let g = express-grows (held_node m h.current) e t q in
        (record { made = r.0; own = own-grows m g k.own; held = held-grows m g k.held }, r.1)

    -- A register assigned plainly, or later.
    register-at : (v : ℕ) → m.scope.inputs ≤ v → m.scope.inputs + (v - m.scope.inputs) ≡ v
    register-at v l = omega arith

    set-current : (t : List Node) (h : Held) (v n : ℕ) → m.scope.inputs ≤ v → v < m.scope.inputs + m.scope.registers →
        Has m t n (get_or m.scope.widths v 0) → Ready t h → Ready t (record { current = set h.current (v - m.scope.inputs) n; later = h.later })
    set-current t h v n low high new k =
        record {
          made = k.made;
          own = k.own;
          held = record {
            current = row-set m t h.current (v - m.scope.inputs) n w.registers-most k.held.current-length (omega arith)
                (rw (register-at v low) new) k.held.current;
            later = k.held.later;
            current-length = length-set h.current (v - m.scope.inputs) n ∙ k.held.current-length;
            later-length = k.held.later-length;
          };
        }

    set-later : (t : List Node) (h : Held) (v n : ℕ) → m.scope.inputs ≤ v → v < m.scope.inputs + m.scope.registers →
        Has m t n (get_or m.scope.widths v 0) → Ready t h → Ready t (record { current = h.current; later = set h.later (v - m.scope.inputs) n })
    set-later t h v n low high new k =
        record {
          made = k.made;
          own = k.own;
          held = record {
            current = k.held.current;
            later = row-set m t h.later (v - m.scope.inputs) n w.registers-most k.held.later-length (omega arith)
                (rw (register-at v low) new) k.held.later;
            current-length = k.held.current-length;
            later-length = length-set h.later (v - m.scope.inputs) n ∙ k.held.later-length;
          };
        }

    module _ (li : i < length m.threads) where
      Goes : (ℕ → Held → List Node → Res Walked) → ℕ → Type 0
      Goes next q = (h : Held) (t : List Node) (x : Walked) → Ready t h → next q h t ≡ ok x → WalkMade x × Grows t x.nodes

      branch-made : (next : ℕ → Held → List Node → Res Walked) (p g v : ℕ) (e : Expr) (h : Held) (t : List Node) (x : Walked) →
          SoundExpr m.scope v e → Goes next (p + 1) → Goes next g → Ready t h → Branches m i next p h t e g x → WalkMade x
      unfolding Goes node_width
      branch-made next p g v e h t x s on over k b =
          let c = expressed e v h t b.condition s k b.condition-is in
          let A = on h b.condition.nodes b.held c.0 b.held-is in
          let ready : Ready b.held.nodes h = record { made = A.0.made; own = own-grows m A.1 c.0.own; held = held-grows m A.1 c.0.held } in
          let B = over h b.held.nodes b.other ready b.other-is in
          let cond = has-grows m (grows-trans A.1 B.1) c.1 in
          let M = merge-made w b.condition.node b.held.registers b.other.registers 32 b.other.nodes cond.0
          (row-grows m b.held.registers B.1 A.0.registers) B.0.registers B.0.made b.merged-is in
          let mg = merge-grows m i b.condition.node b.held.registers b.other.registers 32 b.other.nodes b.merged-is in
          let pa = lands-grows (grows-trans B.1 mg) A.0.place in
          let pb = lands-grows mg B.0.place in
          let wa = has-grows m (grows-trans B.1 mg) A.0.place-width in
          let wb = has-grows m mg B.0.place-width in
          let wc = has-grows m mg cond in
          let u = b.merged.nodes in
          let new = a_branch b.condition.node b.held.place b.other.place in
          let last = grows-by (new ∷ []) b.nodes in
          let at = lands-branch u b.condition.node b.held.place b.other.place pa pb in
          record {
            made = subst (Made m) (sym b.nodes) (made-snoc m u new M.made (fits-branch m u b.condition.node b.held.place b.other.place 8 wc.0 wa wb) (coded-branch b.condition.node b.held.place b.other.place));
            registers = λ r l. rw b.registers (has-grows m last (M.registers r (omega (arith, w.registers-most)) l));
            place = rw (b.nodes, b.place) at;
            place-width = rw (b.nodes, b.place) (at.0, widths-new m u new ∙ wa.1);
          }

      short : length (code_of m i) ≤ 256
      unfolding code_of
      short = (w.code i li).most

      visit-made : (next : ℕ → Held → List Node → Res Walked) (p : ℕ) (h : Held) (t : List Node) (x : Walked) (q : Instr Expr) →
          q ≡ instr_at (code_of m i) p → p < length (code_of m i) → SoundInstr m.scope (length (code_of m i)) p q →
          ((r : ℕ) → Leads q p r → Goes next r) → Ready t h → visit m i next p h t q ≡ ok x → WalkMade x
      unfolding visit Goes is_wait
      visit-made next p h t x q e l (sound-wait {ts = ts} a b) on k v =
          wait-made p h t x (omega (arith, short)) (ap is_wait (sym e)) k (visit-wait m i next p h t ts v)
      visit-made next p h t x q e l (sound-set {t = tg} {e = ex} a s) on k v =
          let y = bind_ok (express (held_node m h.current) ex t) _ v in
          let r = expressed ex (get_or m.scope.widths tg 0) h t y.0 s.expression k y.1 in
          (on (p + 1) refl _ _ x (set-current y.0.nodes h tg y.0.node s.not-input s.register r.1 r.0) y.2).0
      visit-made next p h t x q e l (sound-later {t = tg} {e = ex} a s) on k v =
          let y = bind_ok (express (held_node m h.current) ex t) _ v in
          let r = expressed ex (get_or m.scope.widths tg 0) h t y.0 s.expression k y.1 in
          (on (p + 1) refl _ _ x (set-later y.0.nodes h tg y.0.node s.not-input s.register r.1 r.0) y.2).0
      visit-made next p h t x q e l (sound-go {g = g} a) on k v = (on g refl h t x k v).0
      visit-made next p h t x q e l (sound-ifnot {e = ex} {g = g} wd a b s) on k v =
          branch-made next p g wd ex h t x s (on (p + 1) (inl refl)) (on g (inr refl)) k (visit-branches m i next p h t ex g v)

      pub walk-made : (n p : ℕ) (h : Held) (t : List Node) (x : Walked) → Within n p → p < length (code_of m i) → Ready t h →
          walk m i n p h t ≡ ok x → WalkMade x
      unfolding walk Goes
      walk-made zero p h t x b l k v = absurd (omega (arith, b 0 p here))
      walk-made (suc n) p h t x b l k v =
          visit-made (walk m i n) p h t x (instr_at (code_of m i) p) refl l (sound-instr m w i p li l)
          (λ r ld g u y d z. (walk-made n r g u y (within_step b ld) (leads-inside m w i li p r l ld) d z, walk-grows m i n r g u z))
          k v
