-- Laws of the counted run and of the wires that read a changed variable, as the code meets them. Assumes nothing.
use Prim.Native.Nat.{ℕ, zero, suc, ◌+◌, ◌-◌, ◌≤◌, ◌<◌}
use native.Mathlib.Omega.{arith}
use native.Mathlib.Numerals.{add-one}
use native.Mathlib.Nat.{zero-add, add-zero}
use mathlib.Core.Path.{◌≡◌, refl, sym, ap, ◌∙◌}
use mathlib.Core.Bool.{Bool, true, false, not}
use lib.ListN.{get_or}
use borrow.Author.Tests.{eq-eqb, ne_eqb, lt-ltb, le-ltb}
use Rattle.values.specs.declared.Value.{Value}
use Rattle.values.specs.Values.{same}
use Rattle.values.specs.Planes.{value_at}
use Rattle.masks.specs.Masks.{bits}
use Rattle.state.specs.declared.Counters.{Counters}
use Rattle.state.specs.declared.State.{State}
use Rattle.state.specs.State.{users, value_of}
use Rattle.events.specs.Cycle.{changed}
use Rattle.std.specs.Int.{from_bool}
use Rattle.nextstate.specs.Rules.{one}
use Rattle.plan.specs.Plan.{Plan}
use Rattle.plan_engine.specs.Live.{Live}
use Rattle.plan_engine.specs.Taking.{Taken, taken, take_choice}
use Rattle.plan_engine.specs.Running.{plain_choice}
use Rattle.plan_state.specs.Packing.{unpacked, packed}
use Rattle.plan_fitting.specs.Fitting.{plan_fits}
use Rattle.prepared.specs.Prepared.{room_in, raised}
use Rattle.counted.specs.Counted.{Stretch, stretch, stores_at, following, up_to, worked, work_at, reads_at, reads_changed, readers_at}

-- ---- stores_at

module _ (q : Plan) (c : ℕ) where
  pub stores-thread : c < q.threads → 0 ≡ stores_at q c
  unfolding stores_at
  stores-thread h = rw (lt-ltb c q.threads h) refl

  pub stores-wire : q.threads ≤ c → 1 ≡ stores_at q c
  unfolding stores_at
  stores-wire h = rw (le-ltb c q.threads h) refl

-- ---- a stretch with i choices and k stores before it

abbrev pub ahead : ℕ → ℕ → Stretch → Stretch
ahead i k r = stretch (r.accepted + i) (r.stores + k) r.number r.left

ahead_none : (i k n : ℕ) (l : Live) → ahead i k (stretch 0 0 n l) ≡ stretch i k n l
ahead_none i k n l = λ j. stretch (zero-add i j) (zero-add k j) n l

ahead-one : (i k s : ℕ) (r : Stretch) →
    ahead i k (stretch (r.accepted + 1) (r.stores + s) r.number r.left) ≡ ahead (i + 1) (k + s) r
ahead-one i k s r =
    let e : r.accepted + 1 + i ≡ r.accepted + (i + 1) = omega arith in
    let f : r.stores + s + k ≡ r.stores + (k + s) = omega arith in
    λ j. stretch (e j) (f j) r.number r.left

pub up-whole : (q : Plan) (room : ℕ) (l : Live) (limit : ℕ) → ahead 0 0 (up_to q (limit - 0) room l) ≡ up_to q limit room l
up-whole q room l limit =
    let e : limit - 0 ≡ limit = omega arith in
    let r = up_to q limit room l in
    ap (λ (n : ℕ). ahead 0 0 (up_to q n room l)) e
    ∙ (λ j. stretch (add-zero r.accepted j) (add-zero r.stores j) r.number r.left)

module _ (q : Plan) (room : ℕ) (l : Live) (i k limit : ℕ) where
  pub up-end : limit ≤ i → ahead i k (up_to q (limit - i) room l) ≡ stretch i k 0 l
  unfolding up_to
  up-end h =
      let e : limit - i ≡ zero = omega arith in
      rw e (ahead_none i k 0 l)

  pub up-stop : (c : ℕ) → c ≡ plain_choice q l → 255 ≤ c → ahead i k (up_to q (limit - i) room l) ≡ stretch i k 0 l
  unfolding up_to
  up-stop c e h = by (limit - i)
    where
      by : (n : ℕ) → ahead i k (up_to q n room l) ≡ stretch i k 0 l
      by zero = ahead_none i k 0 l
      by (suc n) = rw (← e, le-ltb c 255 h) (ahead_none i k 0 l)

  module _ (c n : ℕ) (d : Live) (e : c ≡ plain_choice q l) (small : c < 255) (more : i < limit)
      (t : taken n d ≡ take_choice q room c l) where
    up_first : up_to q (limit - i) room l
        ≡ following q c (take_choice q room c l) (up_to q (limit - (i + 1)) (room - 1) (take_choice q room c l).left)
    unfolding up_to
    up_first =
        let x : limit - i ≡ suc (limit - (i + 1)) = omega arith in
        rw (x, ← e, lt-ltb c 255 small) refl

    pub up-on : n ≡ 0 → (s : ℕ) → s ≡ stores_at q c →
        ahead i k (up_to q (limit - i) room l) ≡ ahead (i + 1) (k + s) (up_to q (limit - (i + 1)) (room - 1) d)
    unfolding following
    up-on z s f =
        ap (ahead i k) up_first
        ∙ ap (λ (x : Taken). ahead i k (following q c x (up_to q (limit - (i + 1)) (room - 1) x.left))) (sym t)
        ∙ (rw (eq-eqb n 0 z) (ahead-one i k (stores_at q c) (up_to q (limit - (i + 1)) (room - 1) d)))
        ∙ ap (λ (x : ℕ). ahead (i + 1) (k + x) (up_to q (limit - (i + 1)) (room - 1) d)) (sym f)

    pub up-off : (n ≡ 0 → ⊥) → ahead i k (up_to q (limit - i) room l) ≡ stretch i k n d
    unfolding following
    up-off z =
        ap (ahead i k) up_first
        ∙ ap (λ (x : Taken). ahead i k (following q c x (up_to q (limit - (i + 1)) (room - 1) x.left))) (sym t)
        ∙ (rw (ne_eqb n 0 z) (ahead_none i k n d))

-- ---- the wires that read a changed variable

pub differs-law : (a b : State) (v : ℕ) {x y : Value} {r : Bool} → x ≡ value_at a.value a.unknown v
    → y ≡ value_at b.value b.unknown v → r ≡ same x y → not r ≡ changed (value_of a) (value_of b) v
unfolding changed value_of
differs-law a b v e f g = ap not (g ∙ (λ i. same (e i) (f i)))

module _ (q : Plan) (a b : State) (k : ℕ) where
  module _ (v mask : ℕ) (e : bits mask ≡ q.readers v) {t : Bool} (h : t ≡ get_or (bits mask) k false) where
    pub reads-not : t ≡ false → false ≡ reads_at q a b k v
    unfolding reads_at
    reads-not f = rw (← e, ← h, f) refl

    pub reads-it : t ≡ true → {r : Bool} → r ≡ changed (value_of a) (value_of b) v → r ≡ reads_at q a b k v
    unfolding reads_at
    reads-it f g = rw (← e, ← h, f) g

  reads_more : (v d : ℕ) → reads_changed q a b k v ≡ true → reads_changed q a b k (d + v) ≡ true
  unfolding reads_changed
  reads_more v zero h = rw (zero-add v) h
  reads_more v (suc d) h = let e : suc d + v ≡ suc (d + v) = omega arith in rw (e, reads_more v d h) refl

  pub reads-found : (v : ℕ) → v < 80 → reads_changed q a b k v ≡ false → reads_at q a b k v ≡ true → true ≡ reads_changed q a b k 80
  unfolding reads_changed
  reads-found v l h r =
      let here : reads_changed q a b k (suc v) ≡ true = rw (h, r) refl in
      let e : 80 - suc v + suc v ≡ 80 = omega arith in
      sym (rw e at (reads_more (suc v) (80 - suc v) here))

  pub reads-next : (v : ℕ) → reads_changed q a b k v ≡ false → reads_at q a b k v ≡ false → reads_changed q a b k (v + 1) ≡ false
  unfolding reads_changed
  reads-next v h r = rw (add-one v, h, r) refl

pub reads_first : (q : Plan) (a b : State) (k : ℕ) → reads_changed q a b k 0 ≡ false
unfolding reads_changed
reads_first q a b k = refl

pub readers-first : (q : Plan) (a b : State) → 0 ≡ readers_at q a b 0
unfolding readers_at
readers-first q a b = refl

from-one : (t : Bool) → from_bool t ≡ one t
unfolding one
from-one true = refl
from-one false = refl

pub from-small : (t : Bool) → from_bool t ≤ 1
from-small true = omega arith
from-small false = omega arith

pub readers-next : (q : Plan) (a b : State) (k n s : ℕ) {t : Bool} → n ≡ readers_at q a b k → t ≡ reads_changed q a b k 80 → s ≡ from_bool t
    → n + s ≡ readers_at q a b (k + 1)
unfolding readers_at
readers-next q a b k n s {t} e f g = rw (add-one k, ← e, ← f) (ap (λ (x : ℕ). n + x) (g ∙ from-one t))

-- ---- each way through the code of `work`

module _ (q : Plan) (st : State) (u n : ℕ) where
  pub work-unfit : plan_fits q st ≡ false → worked 0 0 31 st ≡ work_at q st u n
  unfolding work_at
  work-unfit f = rw f refl

  module _ (f : plan_fits q st ≡ true) where
    pub work-userless : users ≤ u → worked 0 0 46 st ≡ work_at q st u n
    unfolding work_at
    work-userless h = rw (f, le-ltb u users h) refl

    pub work-fit : u < users → (l : Live) → l ≡ unpacked q st → (a s k room : ℕ) (d : Live) (x : Counters) (v : State)
        → room ≡ room_in st.counters u → stretch a s k d ≡ up_to q n room l → x ≡ raised a u st.counters → v ≡ packed d x
        → worked a s k v ≡ work_at q st u n
    unfolding work_at
    work-fit h l e a s k room d x v r t y p = rw (f, lt-ltb u users h, ← e, ← r, ← t, p, y) refl
