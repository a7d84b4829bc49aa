-- Extraction's nodes are Made (`nodes-made`), and the row of each wait has what the cycle run's check asks (`row_made`).
use mathlib.Core.Path.{◌≡◌, refl, sym, ap, subst, ◌∙◌}
use mathlib.Core.Bool.{Bool, true, false}
use mathlib.Core.List.{List, [], ◌∷◌, ◌++◌}
use Prim.Native.Nat.{ℕ, zero, suc, ◌+◌, ◌-◌, ◌≤◌, ◌<◌}
use native.Mathlib.Omega.{arith}
use native.Mathlib.Decide.{ℕ_discrete}
use lib.ListN.{length, get_or, length-append}
use lib.Dec.{ltb}
use borrow.Author.Tests.{lt-ltb}
use Rattle.values.specs.Values.{pick}
use Rattle.sheet.specs.Reading.{ok}
use Rattle.sheet.specs.Expression.{Expr}
use Rattle.sheet.specs.Module.{Module}
use Rattle.sheet.proofs.Reading.{ok-injective, bind_ok}
use Rattle.pseudocode.specs.Translation.{Instr}
use Rattle.state.specs.Rows.{list_of}
use Rattle.state.proofs.Rows.{length-list_of, get_d-list_of}
use Rattle.soundness.specs.Soundness.{Sound, SoundInstr, sound-wait, sound-set, sound-later, sound-go, sound-ifnot}
use Rattle.events.specs.Cycle.{variables, code_of, instr_at, is_wait}
use Rattle.events.proofs.Cycle.{absurd-bool}
use Rattle.nextstate.specs.Nodes.{Node, a_variable, node_width}
use Rattle.nextstate.specs.Walk.{Walked, own_row, own_rows, walk}
use Rattle.nextstate.specs.Extraction.{Tables, variable_nodes, walk_from, walks_below, threads_below, extracted}
use Rattle.nextstate.specs.Book.{entry}
use Rattle.nextstate.specs.CycleRun.{node_fits, widths_from}
use Rattle.nextstate.proofs.Numbers.{extracted-walks}
use Rattle.nextstate.specs.Ruled.{Ruled}
use Rattle.nextstate.proofs.Ruled.{sound-instr}
use Rattle.threads.proofs.Resting.{way-bound}
use Rattle.walking.proofs.Growing.{Grows, grows-refl, grows-trans, grows-by, length-own_row, walk-grows}
use Rattle.walking.proofs.Rows.{row-of}
use Rattle.validity.proofs.Folds.{widths-new}
use Rattle.validity.proofs.Made.{Made, Has, has-grows, made_nothing, made-snoc, made-prefix, coded-variable}
use Rattle.validity.proofs.Walks.{RowHas, OwnNodes, HeldHas, Lands, WalkMade, Ready, walk-made, lands-grows}

module _ (m : Module Expr) (w : Sound m) where
  -- ---- the variables' nodes

  record OwnBelow (n : ℕ) : Type 0 where
    made : Made m (list_of n a_variable)
    own : (v : ℕ) → v < n → Has m (list_of n a_variable) v (get_or m.scope.widths v 0)

  variable-fits : (us : List ℕ) (v : ℕ) → v < variables m → node_fits m us (a_variable v) ≡ true
  unfolding node_fits
  variable-fits us v l = lt-ltb v (variables m) l

  own_below : (n : ℕ) → n ≤ variables m → OwnBelow n
  unfolding list_of node_width
  own_below zero l = record { made = made_nothing m; own = λ v k. absurd (omega arith) }
  own_below (suc n) l = let h = own_below n (omega arith) in by h
    where
      t : List Node
      t = list_of n a_variable

      by : OwnBelow n → OwnBelow (suc n)
      by h = record {
        made = made-snoc m (list_of n a_variable) (a_variable n) h.made (variable-fits _ n (omega arith)) (coded-variable n);
        own = λ v k. each v k (ℕ_discrete v n);
      }
        where
          each : (v : ℕ) → v < suc n → Dec (v ≡ n) → Has m (list_of n a_variable ++ (a_variable n ∷ [])) v (get_or m.scope.widths v 0)
          each v k (yes e) =
              let len = length-list_of a_variable n in
              let last : get_or (widths_from m (list_of n a_variable ++ (a_variable n ∷ [])) []) (length (list_of n a_variable)) 0 ≡ get_or m.scope.widths n 0
              = widths-new m (list_of n a_variable) (a_variable n) in
              (omega (arith, length-append (list_of n a_variable) (a_variable n ∷ [])), rw (e ∙ sym len) (last ∙ ap (λ (x : ℕ). get_or m.scope.widths x 0) (sym len)))
          each v k (no ne) = has-grows m (grows-by (a_variable n ∷ []) refl) (h.own v (omega arith))

  variables-made : Made m (variable_nodes m)
  unfolding variable_nodes
  variables-made = (own_below (variables m) (omega arith)).made

  variables-own : OwnNodes m (variable_nodes m)
  unfolding variable_nodes variables
  variables-own v l = (own_below (variables m) (omega arith)).own v l

  -- ---- a walk begins with each register's own variable

  own_held : (t : List Node) → OwnNodes m t → HeldHas m t (own_rows m)
  unfolding own_rows own_row
  own_held t own = record { current = row; later = row; current-length = length-own_row m; later-length = length-own_row m }
    where
      row : RowHas m t (own_row m)
      row r l =
          rw (get_d-list_of (λ r. pick (ltb r m.scope.registers) (m.scope.inputs + r) 0) 32 r 0 (omega (arith, w.registers-most)), lt-ltb r m.scope.registers l)
          (own (m.scope.inputs + r) (omega (arith, w.variables)))

  ready : (i : ℕ) (t : List Node) → Made m t → Grows (variable_nodes m) t → Ready m i t (own_rows m)
  ready i t d g =
      let own : OwnNodes m t = λ v l. has-grows m g (variables-own v l) in
      record { made = d; own = own; held = own_held t own }

  module _ (u : Ruled m) where
    -- A wait is not a thread's last instruction.
    after-wait : (i p : ℕ) → i < length m.threads → p < length (code_of m i) → is_wait (instr_at (code_of m i) p) ≡ true → p + 1 < length (code_of m i)
    unfolding is_wait
    after-wait i p li lp h = by (instr_at (code_of m i) p) (sound-instr m w i p li lp) h
      where
        by : (q : Instr Expr) → SoundInstr m.scope (length (code_of m i)) p q → is_wait q ≡ true → p + 1 < length (code_of m i)
        by q (sound-wait l t) k = l
        by q (sound-set l t) k = absurd-bool k refl
        by q (sound-later l t) k = absurd-bool k refl
        by q (sound-go l) k = absurd-bool k refl
        by q (sound-ifnot v l g e) k = absurd-bool k refl

    from-made : (i p : ℕ) → i < length m.threads → p < length (code_of m i) → is_wait (instr_at (code_of m i) p) ≡ true →
        (t : List Node) (x : Walked) → Made m t → Grows (variable_nodes m) t → walk m i (length (code_of m i)) (p + 1) (own_rows m) t ≡ ok x → WalkMade m i x
    from-made i p li lp h t x d g k =
        let l = after-wait i p li lp h in
        walk-made m i w li (length (code_of m i)) (p + 1) (own_rows m) t x (λ n q way. way-bound m w u i li l way) l (ready i t d g) k

    -- ---- every walk so far

    walks-made : (i n : ℕ) → i < length m.threads → n ≤ length (code_of m i) → (T U : Tables) → Made m T.nodes → Grows (variable_nodes m) T.nodes →
        walks_below m i n T ≡ ok U → Made m U.nodes × Grows (variable_nodes m) U.nodes
    unfolding walks_below walk_from
    walks-made i zero li ln T U d g h = let e = ap (λ (x : Tables). x.nodes) (ok-injective h) in (rw (sym e) d, rw (sym e) g)
    walks-made i (suc p) li ln T U d g h =
        let y = bind_ok (walks_below m i p T) _ h in
        let r = walks-made i p li (omega arith) T y.0 d g y.1 in
        by (is_wait (instr_at (code_of m i) p)) refl y.0 r.0 r.1 y.2
      where
        by : (b : Bool) → is_wait (instr_at (code_of m i) p) ≡ b → (X : Tables) → Made m X.nodes → Grows (variable_nodes m) X.nodes →
            pick b (walk_from m i p X) (ok X) ≡ ok U → Made m U.nodes × Grows (variable_nodes m) U.nodes
        by true e X k gx z =
            let x = bind_ok (walk m i (length (code_of m i)) (p + 1) (own_rows m) X.nodes) _ z in
            let q = ap (λ (x : Tables). x.nodes) (ok-injective x.2) in
            let wm = from-made i p li (omega arith) e X.nodes x.0 k gx x.1 in
            (rw (sym q) wm.made, rw (sym q) (grows-trans gx (walk-grows m i _ _ _ X.nodes x.1)))
        by false e X k gx z = let q = ap (λ (x : Tables). x.nodes) (ok-injective z) in (rw (sym q) k, rw (sym q) gx)

    threads-made : (i : ℕ) → i ≤ length m.threads → (T : Tables) → threads_below m i ≡ ok T → Made m T.nodes × Grows (variable_nodes m) T.nodes
    unfolding threads_below
    threads-made zero l T h =
        let q = ap (λ (x : Tables). x.nodes) (ok-injective h) in
        (rw (sym q) variables-made, rw (sym q) (grows-refl (variable_nodes m)))
    threads-made (suc i) l T h =
        let y = bind_ok (threads_below m i) _ h in
        let r = threads-made i (omega arith) y.0 y.1 in
        walks-made i (length (code_of m i)) (omega arith) (omega arith) y.0 T r.0 r.1 y.2

    pub nodes-made : (T : Tables) → extracted m ≡ ok T → Made m T.nodes
    nodes-made T h = (threads-made (length m.threads) (omega arith) T (extracted-walks m h)).0

    -- ---- the row of a wait

    pub record RowMade (T : Tables) (i p : ℕ) : Type 0 where
      pub registers : (r : ℕ) → r < m.scope.registers → Has m T.nodes (entry m T i p r) (get_or m.scope.widths (m.scope.inputs + r) 0)
      pub place : Lands m i T.nodes (entry m T i p 32)

    pub row_made : (T : Tables) → extracted m ≡ ok T → (i p : ℕ) → i < length m.threads → p < length (code_of m i) →
        is_wait (instr_at (code_of m i) p) ≡ true → RowMade T i p
    row_made T h i p li lp e =
        let r = row-of m T h i p li lp e in
        let all : Made m (r.walked.nodes ++ r.later) = subst (Made m) r.nodes (nodes-made T h) in
        let d = made-prefix m r.walked.nodes r.later all in
        let g = walk-grows m i (length (code_of m i)) (p + 1) (own_rows m) r.before r.is in
        let wm = from-made i p li lp e r.before r.walked (made-prefix m r.before g.more (subst (Made m) g.is d)) r.begins r.is in
        let up : Grows r.walked.nodes T.nodes = grows-by r.later r.nodes in
        record {
          registers = λ q l. rw (r.registers q (omega (arith, w.registers-most))) (has-grows m up (wm.registers q l));
          place = rw r.place (lands-grows m i up wm.place);
        }
