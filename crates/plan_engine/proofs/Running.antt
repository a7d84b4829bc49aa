-- Laws of runs: a run is its first choice and then the rest; and it accepts no more choices than there is room for. Assumes nothing.
use mathlib.Core.Path.{◌≡◌, refl, sym, ap, ◌∙◌}
use Prim.Native.Nat.{ℕ, zero, suc, ◌+◌, ◌-◌, ◌≤◌, ◌<◌}
use native.Mathlib.Omega.{arith}
use native.Mathlib.Numerals.{add-one}
use native.Mathlib.Nat.{zero-add, add-zero}
use mathlib.Core.Bool.{Bool, true, false, or-true}
use mathlib.Core.List.{List, [], ◌∷◌}
use lib.ListN.{length, drop, get_or, drop_of_length-le}
use lib.Seq.{drop-cons}
use lib.Dec.{eqb}
use borrow.Author.Tests.{lt-ltb, le-ltb, ne_eqb, eqb-true}
use Rattle.values.specs.Values.{pick}
use Rattle.masks.specs.Masks.{first, any_mark}
use Rattle.plan.specs.Plan.{Plan}
use Rattle.plan_engine.specs.Live.{Live}
use Rattle.plan_engine.specs.Taking.{Taken, taken, take_choice}
use Rattle.plan_engine.proofs.Taking.{choice-room}
use Rattle.plan_engine.specs.Running.{Run, run, onward, run_list, busy, plain_choice, run_plain, turns_on, turn_choice, turns}

-- ---- ahead: a run with k choices accepted before it

abbrev pub ahead : ℕ → Run → Run
ahead k r = run (r.accepted + k) r.number r.left

pub ahead-zero : (r : Run) → ahead 0 r ≡ r
ahead-zero r = ap (λ (m : ℕ). run m r.number r.left) (add-zero r.accepted)

ahead-one : (k : ℕ) (r : Run) → ahead k (run (r.accepted + 1) r.number r.left) ≡ ahead (k + 1) r
ahead-one k r =
    let e : r.accepted + 1 + k ≡ r.accepted + (k + 1) = omega arith in
    ap (λ (m : ℕ). run m r.number r.left) e

ahead_none : (k n : ℕ) (l : Live) → ahead k (run 0 n l) ≡ run k n l
ahead_none k n l = ap (λ (m : ℕ). run m n l) (zero-add k)

-- ---- onward

module _ (i n : ℕ) (d : Live) (t : Taken) (r : Run) (e : taken n d ≡ t) where
  onward-on : n ≡ 0 → ahead i (onward t r) ≡ ahead (i + 1) r
  unfolding onward
  onward-on h = rw (← e, h) (ahead-one i r)

  onward-off : (n ≡ 0 → ⊥) → ahead i (onward t r) ≡ run i n d
  unfolding onward
  onward-off h = rw (← e, ne_eqb n 0 h) (ahead_none i n d)

module _ (q : Plan) (room : ℕ) (l : Live) (i n : ℕ) (d : Live) where
  -- ---- run_list

  module _ (cs : List ℕ) where
    list-first : i < length cs → run_list q (drop i cs) room l
        ≡ onward (take_choice q room (get_or cs i 0) l)
        (run_list q (drop (i + 1) cs) (room - 1) (take_choice q room (get_or cs i 0) l).left)
    unfolding run_list
    list-first h = rw (drop-cons cs i 0 h, add-one i)

    pub list_on : i < length cs → taken n d ≡ take_choice q room (get_or cs i 0) l → n ≡ 0
        → ahead i (run_list q (drop i cs) room l) ≡ ahead (i + 1) (run_list q (drop (i + 1) cs) (room - 1) d)
    list_on h e z =
        rw (list-first h)
        (onward-on i n d _ _ e z
        ∙ ap (λ (t : Taken). ahead (i + 1) (run_list q (drop (i + 1) cs) (room - 1) t.left)) (sym e))

    pub list-off : i < length cs → taken n d ≡ take_choice q room (get_or cs i 0) l → (n ≡ 0 → ⊥)
        → ahead i (run_list q (drop i cs) room l) ≡ run i n d
    list-off h e z = rw (list-first h) (onward-off i n d _ _ e z)

-- ---- turns

module _ (q : Plan) (c room : ℕ) (l : Live) (i n : ℕ) (d : Live) (limit : ℕ) where
  turns-first : i < limit → turns_on c l ≡ true → turns q c (limit - i) room l
      ≡ onward (take_choice q room (turn_choice q c l) l)
      (turns q c (limit - (i + 1)) (room - 1) (take_choice q room (turn_choice q c l) l).left)
  unfolding turns
  turns-first h b =
      let e : limit - i ≡ suc (limit - (i + 1)) = omega arith in
      rw (e, b)

  pub turns-on : i < limit → turns_on c l ≡ true → taken n d ≡ take_choice q room (turn_choice q c l) l → n ≡ 0
      → ahead i (turns q c (limit - i) room l) ≡ ahead (i + 1) (turns q c (limit - (i + 1)) (room - 1) d)
  turns-on h b e z =
      rw (turns-first h b)
      (onward-on i n d _ _ e z
      ∙ ap (λ (t : Taken). ahead (i + 1) (turns q c (limit - (i + 1)) (room - 1) t.left)) (sym e))

  pub turns-off : i < limit → turns_on c l ≡ true → taken n d ≡ take_choice q room (turn_choice q c l) l → (n ≡ 0 → ⊥)
      → ahead i (turns q c (limit - i) room l) ≡ run i n d
  turns-off h b e z = rw (turns-first h b) (onward-off i n d _ _ e z)

-- ---- runs that start and end

pub list-end : (q : Plan) (room : ℕ) (l : Live) (i : ℕ) (cs : List ℕ) → length cs ≤ i
    → ahead i (run_list q (drop i cs) room l) ≡ run i 0 l
unfolding run_list
list-end q room l i cs h = rw (drop_of_length-le cs h) (ahead_none i 0 l)

pub turns-whole : (q : Plan) (c room : ℕ) (l : Live) (limit : ℕ)
    → ahead 0 (turns q c (limit - 0) room l) ≡ turns q c limit room l
turns-whole q c room l limit =
    let e : limit - 0 ≡ limit = omega arith in
    rw e (ahead-zero (turns q c limit room l))

module _ (q : Plan) (c room : ℕ) (l : Live) (i limit : ℕ) where
  pub turns-end : limit ≤ i → ahead i (turns q c (limit - i) room l) ≡ run i 0 l
  unfolding turns
  turns-end h =
      let e : limit - i ≡ zero = omega arith in
      rw e (ahead_none i 0 l)

  pub turns-quiet : turns_on c l ≡ false → ahead i (turns q c (limit - i) room l) ≡ run i 0 l
  unfolding turns
  turns-quiet b = by (limit - i)
    where
      by : (m : ℕ) → ahead i (turns q c m room l) ≡ run i 0 l
      by zero = ahead_none i 0 l
      by (suc m) = rw b (ahead_none i 0 l)

-- ---- turns past every item's number are the plain run's, and one turn with a choice takes it

module _ (l : Live) where
  pub turn-given : (c : ℕ) → c < 65536 → true ≡ turns_on c l
  unfolding turns_on
  turn-given c h = rw (lt-ltb c 65536 h)

  pub turn-busy : (c : ℕ) → 65536 ≤ c → busy l ≡ turns_on c l
  unfolding turns_on
  turn-busy c h = rw (le-ltb c 65536 h)

module _ (q : Plan) where
  pub choice-given : (l : Live) (c : ℕ) → c < 65536 → c ≡ turn_choice q c l
  unfolding turn_choice
  choice-given l c h = rw (lt-ltb c 65536 h)

  pub choice-plain : (l : Live) (c : ℕ) → 65536 ≤ c → plain_choice q l ≡ turn_choice q c l
  unfolding turn_choice
  choice-plain l c h = rw (le-ltb c 65536 h)

  pub turns-plain : (n room : ℕ) (l : Live) → turns q 65536 n room l ≡ run_plain q n room l
  unfolding turns run_plain
  turns-plain zero room l = refl
  turns-plain (suc n) room l =
      rw (← turn-busy l 65536 (omega arith), ← choice-plain l 65536 (omega arith), turns-plain n)

  pub turn_one : (c room a n : ℕ) (l d : Live) → c < 65536 → run a n d ≡ turns q c 1 room l → taken n d ≡ take_choice q room c l
  unfolding turns onward
  turn_one c room a n l d h e =
      by (eqb t.number 0) refl (rw (← turn-given l c h, ← choice-given l c h) at e)
    where
      t : Taken
      t = take_choice q room c l

      by : (b : Bool) → eqb t.number 0 ≡ b → run a n d ≡ pick b (run 1 0 t.left) (run 0 t.number t.left)
          → taken n d ≡ t
      by true z u =
          ap (λ (r : Run). taken r.number r.left) u ∙ ap (λ (m : ℕ). taken m t.left) (sym (eqb-true t.number 0 z))
      by false z u = ap (λ (r : Run). taken r.number r.left) u

-- ---- a run accepts no more choices than there is room for

module _ (t : Taken) (rest : Run) (room : ℕ) where
  onward-room : (t.number ≡ 0 → room ≡ 0 → ⊥) → rest.accepted ≤ room - 1 → (onward t rest).accepted ≤ room
  unfolding onward
  onward-room h k = by (eqb t.number 0) refl
    where
      by : (b : Bool) → eqb t.number 0 ≡ b
          → (pick b (run (rest.accepted + 1) rest.number rest.left) (run 0 t.number t.left)).accepted ≤ room
      by true e =
          let n : room ≡ 0 → ⊥ = h (eqb-true t.number 0 e) in
          omega arith
      by false e = omega arith

either_room : (b : Bool) (r s : Run) (room : ℕ) → r.accepted ≤ room → s.accepted ≤ room → (pick b r s).accepted ≤ room
either_room true r s room h k = h
either_room false r s room h k = k

module _ (q : Plan) where
  pub list-room : (cs : List ℕ) (room : ℕ) (l : Live) → (run_list q cs room l).accepted ≤ room
  unfolding run_list
  list-room [] room l = omega arith
  list-room (c ∷ cs) room l =
      onward-room (take_choice q room c l) _ room (λ e u. choice-room q room u c l e)
      (list-room cs (room - 1) (take_choice q room c l).left)

  pub plain-room : (limit room : ℕ) (l : Live) → (run_plain q limit room l).accepted ≤ room
  unfolding run_plain
  plain-room zero room l = omega arith
  plain-room (suc n) room l =
      let t = take_choice q room (plain_choice q l) l in
      either_room (busy l) (onward t (run_plain q n (room - 1) t.left)) (run 0 0 l) room
      (onward-room t _ room (λ e u. choice-room q room u (plain_choice q l) l e) (plain-room n (room - 1) t.left))
      (omega arith)

-- ---- busy

module _ (l : Live) where
  pub busy-thread : any_mark l.ready ≡ true → true ≡ busy l
  unfolding busy
  busy-thread e = rw e

  pub busy-wire : any_mark l.due ≡ true → true ≡ busy l
  unfolding busy
  busy-wire e = rw (e, or-true (any_mark l.ready))

  pub busy-held : any_mark l.ready ≡ false → any_mark l.due ≡ false → any_mark l.held ≡ busy l
  unfolding busy
  busy-held e u = rw (e, u)

-- ---- plain_choice

module _ (q : Plan) (l : Live) where
  pub choice-thread : any_mark l.ready ≡ true → first l.ready ≡ plain_choice q l
  unfolding plain_choice
  choice-thread e = rw e

  pub choice-wire : any_mark l.ready ≡ false → any_mark l.due ≡ true
      → q.threads + first l.due ≡ plain_choice q l
  unfolding plain_choice
  choice-wire e u = rw (e, u)

  pub choice-commit : any_mark l.ready ≡ false → any_mark l.due ≡ false → 255 ≡ plain_choice q l
  unfolding plain_choice
  choice-commit e u = rw (e, u)
