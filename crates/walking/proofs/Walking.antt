-- The walk from a wait to the next: on any values its nodes are worth what the thread alone comes to, in a sound module in which
-- the thread writes no register both ways.
use mathlib.Core.Path.{◌≡◌, refl, sym, ap, ◌∙◌, subst}
use mathlib.Core.Logic.{◌≢◌}
use mathlib.Core.Bool.{Bool, true, false, ◌&&◌}
use mathlib.Core.List.{List, [], ◌∷◌, ◌++◌}
use Prim.Native.Nat.{ℕ, zero, suc, ◌+◌, ◌-◌, ◌≤◌, ◌<◌}
use native.Mathlib.Omega.{arith}
use native.Mathlib.Decide.{dec_lt, ℕ_discrete}
use lib.ListN.{length, get_or, set, length-set, get_or-append, get_or-eq_default}
use lib.Seq.{get_or-set_same, get_or-set_other, get_or_at}
use lib.Dec.{ltb, leb}
use borrow.Author.Tests.{leb-true, ltb-true, lt-ltb, le-leb, eq-eqb, ne_eqb}
use Rattle.values.specs.declared.Value.{Value}
use Rattle.values.specs.Values.{pick, known, holds}
use Rattle.sheet.specs.declared.EdgeTerm.{EdgeTerm}
use Rattle.sheet.specs.Reading.{Res, ok}
use Rattle.sheet.specs.Expression.{Expr}
use Rattle.sheet.specs.Statement.{is_register}
use Rattle.sheet.specs.Module.{Module}
use Rattle.sheet.proofs.Reading.{bind_ok}
use Rattle.evaluation.specs.Widths.{Typed}
use Rattle.evaluation.specs.Evaluation.{eval}
use Rattle.pseudocode.specs.Translation.{Instr, wait!, set!, later!, go, ifnot}
use Rattle.state.specs.Rows.{list_of}
use Rattle.state.proofs.Rows.{length-list_of, get_d-list_of}
use Rattle.soundness.specs.Soundness.{SoundExpr, SoundTarget, SoundInstr, sound-wait, sound-set, sound-later, sound-go, sound-ifnot, Sound}
use Rattle.events.specs.Cycle.{variables, code_of, instr_at, is_wait}
use Rattle.events.specs.Steps.{latest}
use Rattle.events.proofs.Cycle.{Below, at-end, before, below_suc, absurd-bool, and_left, and_right}
use Rattle.nextstate.specs.Rules.{plain_writes, defers, writes}
use Rattle.nextstate.specs.Nodes.{Node, a_variable, a_constant}
use Rattle.nextstate.specs.Walk.{Emitted, express, Held, Walked, Merged, own_row, own_rows, held_node, landed, merge, visit, walk}
use Rattle.nextstate.specs.Extraction.{variable_nodes}
use Rattle.nextstate.specs.Book.{put}
use Rattle.threads.proofs.Alone.{alone-stays, alone-shift}
use Rattle.threads.specs.Alone.{Local, put_pending, exec, turn, alone, begin, value_after}
use Rattle.walking.proofs.Growing.{Grows, grows-trans, grows-by, express-grows, MergesOne, written, unwritten, merge_one-ok, merges-grows, merge-grows, merge-length, length-own_row, Branches, visit-branches, visit-wait, walk-grows}
use Rattle.walking.proofs.Worth.{Has, Is, is-has, has-grows, is-grows, new-variable, new-constant, new-branch, Stand, stand-grows, express-is}

-- ---- the node held for a variable

module _ (m : Module Expr) where
  pub held-register : (row : List ℕ) (v : ℕ) → m.scope.inputs ≤ v → v < m.scope.inputs + m.scope.registers →
      held_node m row v ≡ get_or row (v - m.scope.inputs) 0
  unfolding held_node is_register
  held-register row v h k = rw (le-leb m.scope.inputs v h, lt-ltb v (m.scope.inputs + m.scope.registers) k) refl

  -- By whether v is a register.
  pub by_register : {A : Type 0} (v : ℕ) → (m.scope.inputs ≤ v → v < m.scope.inputs + m.scope.registers → A) →
      (is_register m.scope v ≡ false → A) → A
  unfolding is_register
  by_register {A} v in-it out = by (is_register m.scope v) refl
    where
      by : (t : Bool) → (leb m.scope.inputs v && ltb v (m.scope.inputs + m.scope.registers)) ≡ t → A
      by true e =
          let low = leb m.scope.inputs v in
          let high = ltb v (m.scope.inputs + m.scope.registers) in
          in-it (leb-true m.scope.inputs v (and_left low high e))
          (ltb-true v (m.scope.inputs + m.scope.registers) (and_right low high e))
      by false e = out e

  pub held-set-other : (row : List ℕ) (v n u : ℕ) → m.scope.inputs ≤ v → u ≢ v →
      held_node m (set row (v - m.scope.inputs) n) u ≡ held_node m row u
  unfolding held_node
  held-set-other row v n u h ne =
      by_register u
      (λ a b. rw (get_or-set_other row (v - m.scope.inputs) (u - m.scope.inputs) n 0 (omega arith)) refl)
      (λ e. rw e refl)

  pub own_held : Sound m → (v : ℕ) → held_node m (own_row m) v ≡ v
  unfolding own_row held_node
  own_held sound v =
      by_register v
      (λ a b.
      let l : v - m.scope.inputs < m.scope.registers = omega arith in
      held-register (own_row m) v a b
      ∙ get_d-list_of _ 32 (v - m.scope.inputs) 0 (omega (arith, sound.registers-most))
      ∙ rw (lt-ltb (v - m.scope.inputs) m.scope.registers l) (omega arith))
      (λ e. rw e refl)

  pub own-entry : Sound m → (r : ℕ) → r < m.scope.registers → get_or (own_row m) r 0 ≡ m.scope.inputs + r
  unfolding own_row
  own-entry sound r l =
      get_d-list_of _ 32 r 0 (omega (arith, sound.registers-most)) ∙ rw (lt-ltb r m.scope.registers l) refl

-- ---- the variables' nodes

variables-are : (ws : List ℕ) (f : ℕ → Value) (n v : ℕ) → v < n → Is ws f (list_of n a_variable) v (get_or ws v 0) (f v)
unfolding list_of
variables-are ws f zero v l = absurd (omega arith)
variables-are ws f (suc n) v l = by (below_suc n v l) (λ k. variables-are ws f n v k)
  where
    by : Below n v → (v < n → Is ws f (list_of n a_variable) v (get_or ws v 0) (f v)) →
        Is ws f (list_of n a_variable ++ (a_variable n ∷ [])) v (get_or ws v 0) (f v)
    by (at-end e) ih =
        let z : length (list_of n a_variable) ≡ n = length-list_of a_variable n in
        rw e (subst (λ (k : ℕ). Is ws f (list_of n a_variable ++ (a_variable n ∷ [])) k (get_or ws n 0) (f n)) z
        (new-variable ws f (list_of n a_variable) n))
    by (before k) ih = is-grows ws f (grows-by (a_variable n ∷ []) refl) (ih k)

-- ---- what an instruction needs

-- A target is a register, and expressions have widths.
abbrev pub Fits : Module Expr → Instr Expr → Type 0
Fits m (wait! ts) = Unit {0}
Fits m (set! t e) = SoundTarget m.scope t e
Fits m (later! t e) = SoundTarget m.scope t e
Fits m (go g) = Unit {0}
Fits m (ifnot e g) = (w : ℕ) × SoundExpr m.scope w e

pub instr-fits : (m : Module Expr) {n p : ℕ} {j : Instr Expr} → SoundInstr m.scope n p j → Fits m j
instr-fits m (sound-wait a b) = tt
instr-fits m (sound-set a t) = t
instr-fits m (sound-later a t) = t
instr-fits m (sound-go a) = tt
instr-fits m (sound-ifnot w a b e) = (w, e)

pub fits-at : (m : Module Expr) → Sound m → (i : ℕ) → i < length m.threads → (p : ℕ) → Fits m (instr_at (code_of m i) p)
unfolding code_of instr_at
fits-at m sound i l p =
    elim (dec_lt p (length (code_of m i))) [
      | yes k ↦ instr-fits m ((sound.code i l).instruction p k)
      | no k ↦ subst (λ (j : Instr Expr). Fits m j) (sym (get_or-eq_default (code_of m i) (go 0) {n = p} (omega arith))) tt
    ]

-- By whether an instruction is a wait.
pub by-wait : {A : Type 0} (j : Instr Expr) → ((ts : List EdgeTerm) → j ≡ wait! ts → A) → (is_wait j ≡ false → A) → A
unfolding is_wait
by-wait (wait! ts) a b = a ts refl
by-wait (set! v e) a b = b refl
by-wait (later! v e) a b = b refl
by-wait (go g) a b = b refl
by-wait (ifnot e g) a b = b refl

module _ (m : Module Expr) (i : ℕ) (f : ℕ → Value) where
  -- ---- two legs put together

  merge-has : (c : ℕ) (a b : List ℕ) (n : ℕ) (t : List Node) {x : Merged} → merge m i c a b n t ≡ ok x → (h : Bool) (d : Value) →
      Has m.scope.widths f t c d → holds d ≡ h → (r : ℕ) (v : Value) → r < n → writes m i (m.scope.inputs + r) ≡ true →
      Has m.scope.widths f t (pick h (get_or a r 0) (get_or b r 0)) v → Has m.scope.widths f x.nodes (get_or x.registers r 0) v
  unfolding merge
  merge-has c a b zero t k h d s e r v l w q = absurd (omega arith)
  merge-has c a b (suc n) t {x} k h d s e r v l w q =
      let y = bind_ok (merge m i c a b n t) _ k in
      by y.0 (merge-grows m i c a b n t y.1) (merge-length m i c a b n t y.1) (merge_one-ok m i c a b n y.0 y.2)
      (λ u. merge-has c a b n t y.1 h d s e r v u w q) (below_suc n r l)
    where
      ws : List ℕ
      ws = m.scope.widths

      by : (y : Merged) → Grows t y.nodes → length y.registers ≡ n → MergesOne m i c a b n y x →
          (r < n → Has ws f y.nodes (get_or y.registers r 0) v) → Below n r → Has ws f x.nodes (get_or x.registers r 0) v
      by y g z (written o nodes regs) ih (at-end z') =
          let new = new-branch ws f y.nodes c (get_or a n 0) (get_or b n 0) h (has-grows ws f g s) e
          (has-grows ws f g (subst (λ (u : ℕ). Has ws f t (pick h (get_or a u 0) (get_or b u 0)) v) z' q)) in
          rw (nodes, regs, z', get_or_at y.registers (length y.nodes) [] 0 n z) new
      by y g z (unwritten o nodes regs) ih (at-end z') =
          absurd-bool (subst (λ (u : ℕ). writes m i (m.scope.inputs + u) ≡ true) z' w) o
      by y g z (written o nodes regs) ih (before u) =
          rw (regs, get_or-append y.registers (length y.nodes ∷ []) 0 r (omega arith))
          (has-grows ws f (merges-grows m i c a b {x = y} {y = x} (written o nodes regs)) (ih u))
      by y g z (unwritten o nodes regs) ih (before u) =
          rw (regs, get_or-append y.registers (get_or a n 0 ∷ []) 0 r (omega arith))
          (has-grows ws f (merges-grows m i c a b {x = y} {y = x} (unwritten o nodes regs)) (ih u))

  -- ---- the rows stand for what the thread sees

  pub record Good (t : List Node) (L : Local) (h : Held) : Type 0 where
    pub current-length : length h.current ≡ 32
    pub later-length : length h.later ≡ 32
    pub values : Stand m.scope.widths f m.scope.widths t (held_node m h.current) L.values
    pub pending : (r : ℕ) → r < m.scope.registers →
        Is m.scope.widths f t (get_or h.later r 0) (get_or m.scope.widths (m.scope.inputs + r) 0)
        (latest (L.pending r) (f (m.scope.inputs + r)))

  -- What a walk leaves, where the thread ends as E.
  pub record Leaves (w : Walked) (E : Local) : Type 0 where
    pub place : Has m.scope.widths f w.nodes w.place (known E.place)
    pub registers : (r : ℕ) → r < m.scope.registers → writes m i (m.scope.inputs + r) ≡ true →
        Has m.scope.widths f w.nodes (get_or w.registers r 0) (value_after m i f E (m.scope.inputs + r))

  good-grows : {t u : List Node} {L : Local} {h : Held} → Grows t u → Good t L h → Good u L h
  good-grows {L = L} {h = h} g s =
      record {
        current-length = s.current-length;
        later-length = s.later-length;
        values = stand-grows m.scope.widths f m.scope.widths (held_node m h.current) L.values g s.values;
        pending = λ r l. is-grows m.scope.widths f g (s.pending r l);
      }

  -- The same values and pending values at another place.
  good-moves : {t : List Node} {L : Local} {h : Held} (p : ℕ) → Good t L h →
      Good t (record { place = p; values = L.values; pending = L.pending }) h
  good-moves p s =
      record { current-length = s.current-length; later-length = s.later-length; values = s.values; pending = s.pending }

  -- A plain assignment.
  good-set : Sound m → {t : List Node} (L : Local) (h : Held) (v n p : ℕ) (a : Value) → m.scope.inputs ≤ v →
      v < m.scope.inputs + m.scope.registers → Is m.scope.widths f t n (get_or m.scope.widths v 0) a → Good t L h →
      Good t (record { place = p; values = put L.values v a; pending = L.pending })
      (record { current = set h.current (v - m.scope.inputs) n; later = h.later })
  unfolding put
  good-set sound {t} L h v n p a low high s g =
      record {
        current-length = length-set h.current _ n ∙ g.current-length;
        later-length = g.later-length;
        values = λ u l. elim (ℕ_discrete u v) [
          | yes e ↦
              rw (
                e,
                eq-eqb v v refl,
                held-register m (set h.current (v - m.scope.inputs) n) v low high,
                get_or-set_same h.current (v - m.scope.inputs) n 0 (omega (arith, g.current-length, sound.registers-most)),
              ) s
          | no ne ↦ rw (ne_eqb u v ne, held-set-other m h.current v n u low ne) (g.values u l)
        ];
        pending = g.pending;
      }

  -- A later one.
  good-later : Sound m → {t : List Node} (L : Local) (h : Held) (v n p : ℕ) (a : Value) → m.scope.inputs ≤ v →
      v < m.scope.inputs + m.scope.registers → Is m.scope.widths f t n (get_or m.scope.widths v 0) a → Good t L h →
      Good t (record { place = p; values = L.values; pending = put_pending L.pending (v - m.scope.inputs) a })
      (record { current = h.current; later = set h.later (v - m.scope.inputs) n })
  unfolding put_pending latest
  good-later sound {t} L h v n p a low high s g =
      record {
        current-length = g.current-length;
        later-length = length-set h.later _ n ∙ g.later-length;
        values = g.values;
        pending = λ r l. elim (ℕ_discrete r (v - m.scope.inputs)) [
          | yes e ↦
              let z : m.scope.inputs + (v - m.scope.inputs) ≡ v = omega arith in
              rw (
                e,
                z,
                eq-eqb (v - m.scope.inputs) (v - m.scope.inputs) refl,
                get_or-set_same h.later (v - m.scope.inputs) n 0 (omega (arith, g.later-length, sound.registers-most)),
              ) s
          | no ne ↦
              rw (ne_eqb r (v - m.scope.inputs) ne, get_or-set_other h.later (v - m.scope.inputs) r n 0 ne) (g.pending r l)
        ];
      }

  -- ---- the walk's end

  -- Rule 13 for this thread.
  abbrev pub OneWay : Type 0
  OneWay = (v : ℕ) → defers m i v ≡ true → plain_writes m i v ≡ false

  writes_later : (v : ℕ) → writes m i v ≡ true → plain_writes m i v ≡ false → defers m i v ≡ true
  unfolding writes
  writes_later v w e = rw e at w

  plain-only : OneWay → (v : ℕ) → plain_writes m i v ≡ true → defers m i v ≡ false
  plain-only one v e = by (defers m i v) refl
    where
      by : (t : Bool) → defers m i v ≡ t → defers m i v ≡ false
      by true d = absurd-bool e (one v d)
      by false d = d

  end_leaves : Sound m → OneWay → {t : List Node} (L : Local) (h : Held) {w : Walked} → Good t L h →
      w.nodes ≡ t ++ (a_constant 8 L.place ∷ []) → w.registers ≡ landed m i h → w.place ≡ length t → Leaves w L
  unfolding value_after landed
  end_leaves sound one {t} L h {w} g nodes registers place =
      record {
        place = rw (nodes, place) (is-has m.scope.widths f (new-constant m.scope.widths f t 8 L.place));
        registers = λ r l o.
            has-grows m.scope.widths f {t = t} (grows-by _ nodes)
            (rw (registers, get_d-list_of node 32 r 0 (omega (arith, sound.registers-most)))
            (by r l (plain_writes m i (m.scope.inputs + r)) refl o));
      }
    where
      node : ℕ → ℕ
      node r = pick (defers m i (m.scope.inputs + r)) (get_or h.later r 0) (get_or h.current r 0)

      by : (r : ℕ) → r < m.scope.registers → (b : Bool) → plain_writes m i (m.scope.inputs + r) ≡ b →
          writes m i (m.scope.inputs + r) ≡ true →
          Has m.scope.widths f t (node r)
          (pick (plain_writes m i (m.scope.inputs + r)) (L.values (m.scope.inputs + r))
          (latest (L.pending ((m.scope.inputs + r) - m.scope.inputs)) (f (m.scope.inputs + r))))
      by r l true e o =
          let z : (m.scope.inputs + r) - m.scope.inputs ≡ r = omega arith in
          let s = g.values (m.scope.inputs + r) (omega (arith, sound.variables)) in
          rw (e, plain-only one (m.scope.inputs + r) e)
          (is-has m.scope.widths f
          (rw (held-register m h.current (m.scope.inputs + r) (omega arith) (omega arith), z) at s))
      by r l false e o =
          let z : (m.scope.inputs + r) - m.scope.inputs ≡ r = omega arith in
          rw (e, writes_later (m.scope.inputs + r) o e, z) (is-has m.scope.widths f (g.pending r l))

  -- ---- one instruction

  module _ (next : ℕ → Held → List Node → Res Walked) (L E : Local) where
    -- The walk goes on from where the instruction j leads.
    abbrev Onward : Instr Expr → Type 0
    Onward j = (h : Held) (t : List Node) (w : Walked) → Good t (exec m j L) h → next (exec m j L).place h t ≡ ok w → Leaves w E

    -- A branch, where the condition is worth d, so that it holds or not, and the leg taken ends as E.
    joined : Sound m → (h : Held) (t : List Node) (e : Expr) (g : ℕ) {w : Walked} (b : Branches m i next L.place h t e g w)
        (hold : Bool) (d : Value) →
        Has m.scope.widths f b.other.nodes b.condition.node d → holds d ≡ hold →
        Has m.scope.widths f b.other.nodes (pick hold b.held.place b.other.place) (known E.place) →
        ((r : ℕ) → r < m.scope.registers → writes m i (m.scope.inputs + r) ≡ true →
        Has m.scope.widths f b.other.nodes (pick hold (get_or b.held.registers r 0) (get_or b.other.registers r 0))
        (value_after m i f E (m.scope.inputs + r))) →
        Leaves w E
    joined sound h t e g {w} b hold d s k place registers =
        let ws = m.scope.widths in
        let x =
        merge-grows m i b.condition.node b.held.registers b.other.registers 32 b.other.nodes b.merged-is in
        record {
          place =
              rw (b.nodes, b.place)
              (new-branch ws f b.merged.nodes b.condition.node b.held.place b.other.place hold (has-grows ws f x s) k
              (has-grows ws f x place));
          registers = λ r l o.
              has-grows ws f {t = b.merged.nodes} (grows-by _ b.nodes)
              (rw b.registers
              (merge-has b.condition.node b.held.registers b.other.registers 32 b.other.nodes b.merged-is hold d s
              k r (value_after m i f E (m.scope.inputs + r)) (omega (arith, sound.registers-most)) o (registers r l o)));
        }

    -- The nodes of its expression.
    expressed : (h : Held) (t : List Node) → Good t L h → (e : Expr) (w : ℕ) {y : Emitted} → Typed m.scope.widths e w →
        express (held_node m h.current) e t ≡ ok y → Is m.scope.widths f y.nodes y.node w (eval L.values e)
    expressed h t g e w ty k = express-is m.scope.widths f m.scope.widths (held_node m h.current) L.values e t w ty g.values k

    visit-leaves : Sound m → ((q : ℕ) (g : Held) (u : List Node) (w : Walked) → next q g u ≡ ok w → Grows u w.nodes) →
        (j : Instr Expr) → Fits m j → is_wait j ≡ false → Onward j → (h : Held) (t : List Node) {w : Walked} → Good t L h →
        visit m i next L.place h t j ≡ ok w → Leaves w E
    unfolding visit exec is_wait
    visit-leaves sound grow (wait! ts) ft nw on h t g k = absurd-bool refl nw
    visit-leaves sound grow (set! v e) ft nw on h t g k =
        let x = bind_ok (express (held_node m h.current) e t) _ k in
        let s = expressed h t g e _ ft.expression.typed x.1 in
        on _ _ _ (good-set sound L h v x.0.node _ (eval L.values e) ft.not-input ft.register s
        (good-grows (express-grows _ e t x.1) g)) x.2
    visit-leaves sound grow (later! v e) ft nw on h t g k =
        let x = bind_ok (express (held_node m h.current) e t) _ k in
        let s = expressed h t g e _ ft.expression.typed x.1 in
        on _ _ _ (good-later sound L h v x.0.node _ (eval L.values e) ft.not-input ft.register s
        (good-grows (express-grows _ e t x.1) g)) x.2
    visit-leaves sound grow (go q) ft nw on h t g k = on h t _ (good-moves q g) k
    visit-leaves sound grow (ifnot e q) ft nw on h t {w} g k =
        let b = visit-branches m i next L.place h t e q k in
        branch b (holds (eval L.values e)) refl
        (grow _ _ _ _ b.held-is) (grow _ _ _ _ b.other-is) (express-grows _ e t b.condition-is)
        (expressed h t g e ft.0 ft.1.typed b.condition-is)
      where
        ws : List ℕ
        ws = m.scope.widths

        branch : (b : Branches m i next L.place h t e q w) (hold : Bool) → holds (eval L.values e) ≡ hold →
            Grows b.condition.nodes b.held.nodes → Grows b.held.nodes b.other.nodes → Grows t b.condition.nodes →
            Is ws f b.condition.nodes b.condition.node ft.0 (eval L.values e) → Leaves w E
        branch b true o gh go' gc s =
            let l : Leaves b.held E =
            on h b.condition.nodes b.held (good-moves _ (good-grows gc g)) (rw o b.held-is) in
            joined sound h t e q b true (eval L.values e) (has-grows ws f (grows-trans gh go') (is-has ws f s)) o
            (has-grows ws f go' l.place) (λ r a z. has-grows ws f go' (l.registers r a z))
        branch b false o gh go' gc s =
            let l : Leaves b.other E =
            on h b.held.nodes b.other (good-moves _ (good-grows (grows-trans gc gh) g)) (rw o b.other-is) in
            joined sound h t e q b false (eval L.values e) (has-grows ws f (grows-trans gh go') (is-has ws f s)) o l.place
            l.registers

  -- ---- the walk

  -- At a wait the walk ends.
  wait-leaves : Sound m → OneWay → (next : ℕ → Held → List Node → Res Walked) (L : Local) (h : Held) (t : List Node) {w : Walked}
      (j : Instr Expr) (ts : List EdgeTerm) → j ≡ wait! ts → Good t L h → visit m i next L.place h t j ≡ ok w → Leaves w L
  wait-leaves sound one next L h t {w} j ts e g k =
      let x = visit-wait m i next L.place h t ts (subst (λ (j : Instr Expr). visit m i next L.place h t j ≡ ok w) e k) in
      end_leaves sound one L h g x.0 x.1 x.2

  -- A walk of more than n instructions, where the thread alone stands at a wait after n.
  pub walk-leaves : Sound m → OneWay → i < length m.threads → (k n : ℕ) (L : Local) (h : Held) (t : List Node) {w : Walked} →
      n < k → is_wait (instr_at (code_of m i) (alone m i n L).place) ≡ true → Good t L h → walk m i k L.place h t ≡ ok w →
      Leaves w (alone m i n L)
  unfolding walk alone is_wait exec turn
  walk-leaves sound one l zero n L h t b at-wait g x = absurd (omega arith)
  walk-leaves sound one l (suc k) zero L h t {w} b at-wait g x =
      by-wait (instr_at (code_of m i) L.place)
      (λ ts e. wait-leaves sound one (walk m i k) L h t (instr_at (code_of m i) L.place) ts e g x)
      (λ e. absurd-bool at-wait e)
  walk-leaves sound one l (suc k) (suc n) L h t {w} b at-wait g x =
      by-wait (instr_at (code_of m i) L.place)
      (λ ts e.
      let z : 0 + suc n ≡ suc n = omega arith in
      let stays : alone m i (suc n) L ≡ L =
      ap (λ (u : ℕ). alone m i u L) (sym z) ∙ alone-stays m i 0 (suc n) L (ap is_wait e) in
      subst (λ (E : Local). Leaves w E) (sym stays)
      (wait-leaves sound one (walk m i k) L h t (instr_at (code_of m i) L.place) ts e g x))
      (λ e.
      let shift = alone-shift m i n L in
      subst (λ (E : Local). Leaves w E) (sym shift)
      (visit-leaves (walk m i k) L (alone m i n (turn m i L)) sound (λ q h' u v. walk-grows m i k q h' u)
      (instr_at (code_of m i) L.place) (fits-at m sound i l L.place) e
      (λ h' u v. walk-leaves sound one l k n (turn m i L) h' u (omega arith)
      (subst (λ (E : Local). is_wait (instr_at (code_of m i) E.place) ≡ true) shift at-wait))
      h t g x))

  -- ---- from a wait on

  -- The rows that a walk begins with, on nodes that begin with the variables'.
  pub begin-good : Sound m → (p : ℕ) (t : List Node) → Grows (variable_nodes m) t → Good t (begin m i f p) (own_rows m)
  unfolding begin own_rows variable_nodes variables latest
  begin-good sound p t b =
      record {
        current-length = length-own_row m;
        later-length = length-own_row m;
        values = λ v l. rw (own_held m sound v) (is-grows m.scope.widths f b (variables-are m.scope.widths f _ v l));
        pending = λ r l.
            rw (own-entry m sound r l)
            (is-grows m.scope.widths f b
            (variables-are m.scope.widths f _ (m.scope.inputs + r) (omega (arith, sound.variables))));
      }
