-- A change of values on a plan: an invariant in the midst of it, kept by each cell put; at its end stands the simulation cycle's
-- change. Assumes nothing.
use mathlib.Core.Path.{◌≡◌, refl, sym, ap, ◌∙◌}
use mathlib.Core.Bool.{Bool, true, false, not, ◌&&◌, ◌||◌, and-true, and-false, or-false, or_assoc}
use mathlib.Core.List.{List}
use Prim.Native.Nat.{ℕ, ◌<◌}
use native.Mathlib.Omega.{arith}
use lib.ListN.{length, get_or, set, length-set}
use lib.Dec.{eqb}
use borrow.Author.Tests.{lt-ltb}
use Rattle.values.specs.declared.Value.{Value}
use Rattle.values.specs.Values.{pick, same}
use Rattle.values.proofs.Edges.{fires-same}
use Rattle.sheet.specs.Expression.{Expr}
use Rattle.sheet.specs.Module.{Module}
use Rattle.evaluation.specs.Evaluation.{reads}
use Rattle.pseudocode.specs.Translation.{Instr, wait!, set!, later!, go, ifnot}
use Rattle.pseudocode.specs.Instruction.{no_term}
use Rattle.pseudocode.specs.Fetching.{term_at}
use Rattle.masks.specs.Masks.{bits, either}
use Rattle.masks.proofs.Masks.{length-bits, length-either, get_d-either, flags-same, any_none, any-bits}
use Rattle.state.specs.declared.State.{State}
use Rattle.state.specs.State.{Shaped, value_of, with_value, with_planes, place_of, with_place, with_places, is_due, with_due, with_marks}
use Rattle.state.proofs.Accessors.{value-with_value-same, value-with_value-other, due-with_value, place-with_value}
use Rattle.events.specs.Cycle.{variables, current, wire_expr, wait_fires}
use Rattle.events.specs.Cycle.{fire_below, touched, react}
use Rattle.events.proofs.Cycle.{below_none, touched_none, terms-quiet, kept-mark_below, kept-react, shaped-react, due-react}
use Rattle.refinement.proofs.Kept.{Kept, kept-with_value}
use Rattle.refinement.proofs.Ready.{ready-places}
use Rattle.refinement.proofs.Changing.{touched-put}
use Rattle.values.specs.Cells as cell
use Rattle.values.specs.Cells.{cell_of}
use Rattle.values.proofs.Cells.{value-small}
use Rattle.plan.specs.declared.Instruction.{Instruction}
use Rattle.plan.specs.declared.Instruction.TheVariants.{Wait, Act}
use Rattle.plan.specs.Plan.{Plan}
use Rattle.plan_changes.specs.Scene.{Changing, changing, Scene}
use Rattle.plan_changes.specs.Changes.{eight, term_wakes, wakes, wake, put, opened, move, finish, store}
use Rattle.plan_changes.proofs.Changes.{eight-most}
use Rattle.plan_state.specs.Planes.{Planes}
use Rattle.plan_state.proofs.Planes.{planes-value, planes-set}
use Rattle.plan_refinement.specs.Refinement.{Holds, Seen, PlanOf}
use Rattle.plan_refinement.proofs.Waking.{eight-same, wait-put, length-wake, wake-at, watch-woken}
use Rattle.plan_refinement.proofs.Moving.{stand_in, move-stand}

-- ---- what an equal value does not do

-- No wait fires where nothing changed.
wait-quiet : (f g : ℕ → Value) (x : Instr Expr) → ((v : ℕ) → g v ≡ f v) → wait_fires x f g ≡ false
unfolding wait_fires
wait-quiet f g (wait! ts) h = terms-quiet f g ts no_term (λ k l. h (get_or ts k no_term).variable)
wait-quiet f g (set! t e) h = refl
wait-quiet f g (later! t e) h = refl
wait-quiet f g (go n) h = refl
wait-quiet f g (ifnot e n) h = refl

wakes-same : (y : Instruction) (v : ℕ) (a b : Value) → same a b ≡ true → wakes y v a b ≡ false
unfolding wakes term_wakes
wakes-same (Wait t) v a b h =
    below_none (term_wakes t v a b) (eight t.count)
    (λ k l. rw (fires-same (term_at t k).edge a b h) (and-false (eqb (term_at t k).variable v)))
wakes-same (Act x) v a b h = refl

-- ---- a cell put

-- The values of a state, from its planes.
pub planes-values : (st : State) {cs : List ℕ} → Planes st.value st.unknown 80 cs → Holds cs (value_of st)
unfolding value_of
planes-values st p v h = planes-value p v h

planes-put : (cs : List ℕ) (u : State) (v c : ℕ) → v < 80 → length cs ≡ 4176 → Planes u.value u.unknown 80 cs
    → Planes (with_value u v (cell.value_of c)).value (with_value u v (cell.value_of c)).unknown 80
    (set cs v (cell_of (cell.value_of c)))
unfolding with_value with_planes
planes-put cs u v c h l p = planes-set p v (cell.value_of c) h (omega arith) (value-small c)

-- ---- Midway: in the midst of a change

-- f are the values before it; u is the state before it, with the values that were put since. A wire is due if it was or reads a
-- changed variable; a thread is woken if its wait fires on what has changed.
pub record Midway (m : Module Expr) (f : ℕ → Value) (u : State) (k : Changing) : Type 0 where
  pub kept : Kept m u
  pub long : length k.cells ≡ 4176
  pub planes : Planes u.value u.unknown 80 k.cells
  pub length-due : length k.due ≡ 32
  pub due : (j : ℕ) → get_or k.due j false ≡ (is_due u j || touched m (wire_expr m j) f (value_of u))
  pub length-woken : length k.woken ≡ 32
  pub woken : (i : ℕ) → i < length m.threads → get_or k.woken i false ≡ wait_fires (current m u i) f (value_of u)

-- It begins with a state that holds the values before.
pub midway_start : (m : Module Expr) (f : ℕ → Value) (u : State) (cs : List ℕ) → Kept m u → ((v : ℕ) → value_of u v ≡ f v)
    → length cs ≡ 4176 → Planes u.value u.unknown 80 cs → Midway m f u (opened cs u.due)
unfolding is_due
midway_start m f u cs k e l h =
    record {
      kept = k;
      long = l;
      planes = h;
      length-due = k.shaped.due;
      due = λ j. rw (touched_none m (wire_expr m j) f (value_of u) (λ v n r. e v)) (sym (or-false (get_or u.due j false)));
      length-woken = length-bits 0;
      woken =
          λ i n. any_none (bits 0) (any-bits 0 (omega arith)) i ∙ sym (wait-quiet f (value_of u) (current m u i) e);
    }

current-with_value : (m : Module Expr) (u : State) (v : ℕ) (a : Value) (i : ℕ) → current m (with_value u v a) i ≡ current m u i
unfolding current
current-with_value m u v a i = rw (place-with_value u v a i)

module _ {m : Module Expr} {q : Plan} (w : PlanOf m q) (f : ℕ → Value) where
  pub variable-byte : (v : ℕ) → v < variables m → v < 80
  unfolding variables
  variable-byte v h =
      omega (arith, w.sound.variables, w.sound.inputs-most, w.sound.registers-most, w.sound.wires-most)

  module _ (u : State) (v c : ℕ) (k : Changing) (g : Midway m f u k) (h : v < variables m) (e : value_of u v ≡ f v) where
    abbrev a : Value
    a = cell.value_of c

    abbrev n : State
    n = with_value u v a

    byte : v < 80
    byte = variable-byte v h

    abbrev stored : List ℕ
    stored = set k.cells v (cell_of a)

    put-changed : Changing
    put-changed = changing stored (either k.due (q.readers v)) (wake q u.places v (f v) a k.woken)

    put_is : put q u.places v c k ≡ pick (same (f v) a) (changing stored k.due k.woken) put-changed
    unfolding put put-changed
    put_is = rw (lt-ltb v 80 byte, planes-values u g.planes v byte, e)

    planes-stored : Planes n.value n.unknown 80 stored
    planes-stored = planes-put k.cells u v c byte g.long g.planes

    long-stored : length stored ≡ 4176
    long-stored = length-set k.cells v (cell_of a) ∙ g.long

    due-put : (j : ℕ) (t : Bool) → same (f v) a ≡ t
        → (is_due n j || touched m (wire_expr m j) f (value_of n))
        ≡ (is_due u j || (touched m (wire_expr m j) f (value_of u) || (reads (wire_expr m j) v && not t)))
    due-put j t p =
        rw (due-with_value u v a j, touched-put m f u v a (wire_expr m j) g.kept.shaped h byte e, p)

    fires-put : (i : ℕ) → i < length m.threads
        → wait_fires (current m n i) f (value_of n)
        ≡ (wait_fires (current m u i) f (value_of u) || wakes (q.instruction i (place_of u i)) v (f v) a)
    unfolding current
    fires-put i l =
        rw (current-with_value m u v a i)
        (wait-put f (value_of u) (value_of n) v a e (value-with_value-same u v a g.kept.shaped byte)
        (λ x d. value-with_value-other u v a x d)
        (w.instruction i (place_of u i) l (g.kept.places i l)))

    midway-same : same (f v) a ≡ true → Midway m f n (changing stored k.due k.woken)
    midway-same p =
        record {
          kept = kept-with_value g.kept v a;
          long = long-stored;
          planes = planes-stored;
          length-due = g.length-due;
          due = λ j. g.due j ∙ ap (λ b. is_due u j || b) (quiet j) ∙ sym (due-put j true p);
          length-woken = g.length-woken;
          woken =
              λ i l. g.woken i l ∙ sym (or-false (wait_fires (current m u i) f (value_of u)))
              ∙ ap (λ b. wait_fires (current m u i) f (value_of u) || b)
              (sym (wakes-same (q.instruction i (place_of u i)) v (f v) a p))
              ∙ sym (fires-put i l);
        }
      where
        quiet : (j : ℕ) → touched m (wire_expr m j) f (value_of u)
            ≡ (touched m (wire_expr m j) f (value_of u) || (reads (wire_expr m j) v && false))
        quiet j =
            sym
            (ap (λ b. touched m (wire_expr m j) f (value_of u) || b) (and-false (reads (wire_expr m j) v))
            ∙ or-false (touched m (wire_expr m j) f (value_of u)))

    midway-changed : same (f v) a ≡ false → Midway m f n put-changed
    unfolding put-changed place_of
    midway-changed p =
        record {
          kept = kept-with_value g.kept v a;
          long = long-stored;
          planes = planes-stored;
          length-due = length-either k.due (q.readers v) (g.length-due ∙ sym (w.length-readers v)) ∙ g.length-due;
          due =
              λ j. get_d-either k.due (q.readers v) j
              ∙ ap (λ b. b || get_or (q.readers v) j false) (g.due j)
              ∙ or_assoc (is_due u j) (touched m (wire_expr m j) f (value_of u)) (get_or (q.readers v) j false)
              ∙ ap (λ b. is_due u j || (touched m (wire_expr m j) f (value_of u) || b))
              (w.read_by v j byte ∙ sym (and-true (reads (wire_expr m j) v)))
              ∙ sym (due-put j false p);
          length-woken = length-wake q u.places v (f v) a k.woken ∙ g.length-woken;
          woken = λ i l. woken-at i l ∙ sym (fires-put i l);
        }
      where
        eight-threads : eight q.threads ≡ length m.threads
        eight-threads = ap eight w.threads ∙ eight-same (length m.threads) w.sound.threads-most

        woken-at : (i : ℕ) → i < length m.threads
            → get_or (wake q u.places v (f v) a k.woken) i false
            ≡ (wait_fires (current m u i) f (value_of u) || wakes (q.instruction i (place_of u i)) v (f v) a)
        woken-at i l =
            wake-at q u.places v (f v) a k.woken i (rw eight-threads l)
            (omega (arith, g.length-woken, eight-most q.threads))
            ∙ ap (λ b. get_or k.woken i false || b) (watch-woken w i (place_of u i) l (g.kept.places i l) v (f v) a)
            ∙ ap (λ b. b || wakes (q.instruction i (place_of u i)) v (f v) a) (g.woken i l)

    -- A cell put for a variable that none was put for.
    pub midway-put : Midway m f n (put q u.places v c k)
    midway-put = rw put_is (by (same (f v) a) refl)
      where
        by : (t : Bool) → same (f v) a ≡ t → Midway m f n (pick t (changing stored k.due k.woken) put-changed)
        by true p = midway-same p
        by false p = midway-changed p

  -- ---- the end of the change

  pub midway-finish : (u : State) (k : Changing) → Midway m f u k → Seen m (react m f u) (finish q k (stand_in m u))
  unfolding finish react value_of with_place with_places with_due with_marks is_due
  midway-finish u k g =
      record {
        long = g.long;
        planes =
            rw (
              kept-react m f (λ t. t.value) (λ t i p. refl) (λ t j. refl) u,
              kept-react m f (λ t. t.unknown) (λ t i p. refl) (λ t j. refl) u,
            )
            g.planes;
        places = ap (λ s. s.places) moved ∙ sym placed;
        due =
            flags-same k.due (react m f u).due (g.length-due ∙ sym (shaped-react m f u g.kept.shaped).due)
            (λ j. g.due j ∙ sym (due-react m f u w.sound g.kept.shaped j));
        ready = ap (λ s. s.ready) moved ∙ sym (ready-places m (react m f u) fired placed);
      }
    where
      fired : State
      fired = fire_below m f (value_of u) (length m.threads) u

      moved : move q k.woken (stand_in m u) ≡ stand_in m fired
      moved = move-stand w f (value_of u) k.woken u g.kept g.woken

      placed : (react m f u).places ≡ fired.places
      placed = kept-mark_below m f (value_of u) (λ t. t.places) (λ t j. refl) (length m.wires) fired

-- ---- store: one cell stored as one change

module _ {m : Module Expr} {q : Plan} (w : PlanOf m q) where
  pub store-seen : (v c : ℕ) (st : State) (s : Scene) → Kept m st → v < variables m → Seen m st s
      → Seen m (react m (value_of st) (with_value st v (cell.value_of c))) (store q v c s)
  unfolding store with_value with_planes
  store-seen v c st s k h z =
      rw (z.places, z.due, z.ready ∙ ready-places m st (with_value st v (cell.value_of c)) refl)
      (midway-finish w (value_of st) (with_value st v (cell.value_of c)) (put q st.places v c (opened s.cells st.due))
      (midway-put w (value_of st) st v c (opened s.cells st.due)
      (midway_start m (value_of st) st s.cells k (λ x. refl) z.long z.planes) h refl))
