-- The claims of specs/Claims.antt, proved, and that the bound of a series is met. Assumes nothing.
use mathlib.Core.Path.{◌≡◌, refl, sym, ap, ◌∙◌}
use Prim.Native.Nat.{ℕ, zero, suc, ◌+◌, ◌-◌, ◌≤◌, ◌<◌}
use native.Mathlib.Omega.{arith}
use mathlib.Core.Bool.{Bool, true, false}
use mathlib.Core.List.{List, [], ◌∷◌}
use mathlib.Core.Logic.{◌⊎◌, inl, inr, ⊎_elim}
use lib.ListN.{length, length-set}
use lib.Seq.{get_or-set_same, get_or-set_other}
use lib.Dec.{ltb, eqb}
use borrow.Author.Tests.{ltb-true, ltb-false}
use native.Mathlib.Nat.{zero-add}
use Rattle.values.specs.Values.{pick}
use Rattle.dispatch.specs.declared.Record.{Record}
use Rattle.std.specs.Prelude.{Option, None, Some}
use Rattle.dispatch.specs.declared.Dispatched.{Dispatched}
use Rattle.dispatch.specs.declared.Dispatched.TheVariants.{Picked, Nothing, Refused}
use Rattle.dispatch.specs.Dispatch.{idle, record_at, first_busy, next, or_else, answer_at, dispatched_among, dispatched, given, records_after, number_of, served_after}
use Rattle.dispatch.specs.Planes.{records_of, dispatched_planes, turns_after}
use Rattle.dispatch.specs.Claims.{NoneExactly, PicksOne, LeavesAll, flagged, series, AllBusy, NoneRefused, SomePicks, Fair, Planes, PlanesKept, BoundMet}
use Rattle.dispatch.proofs.Circle.{nowhere-at, idle-none, next-found, next-ahead, Near, Nearer, next-nearer, Busy}
use Rattle.dispatch.proofs.Turns.{Way, by-none, by-many, by-outside, by-inside, way, among_none, among-many, among-outside, among_next, PickIn, among-pick}
use Rattle.dispatch.proofs.Planes.{planes-even, planes-given, planes-turns, planes-length}

-- ---- a call that isn't refused

pub record Accepted (rs : List Record) (last : ℕ) : Type 0 where
  pub some : 0 < length rs
  pub few : length rs ≤ 8
  pub inside : last < length rs
  pub answer : dispatched rs last ≡ answer_at rs (next rs (length rs) last)

-- A refused call has its number; none of them is 0.
refuses : {d : Dispatched} {k : ℕ} → d ≡ Refused k → number_of d ≡ 0 → k ≡ 0
refuses {d} {k} e z = sym (ap number_of e) ∙ z

accepted : (rs : List Record) (last : ℕ) → number_of (dispatched rs last) ≡ 0 → Accepted rs last
unfolding dispatched
accepted rs last z = by (way rs (length rs) last)
  where
    by : Way rs (length rs) last → Accepted rs last
    by (by-none e) = let f : ◌≡◌ {A = ℕ} 48 0 = refuses (among_none rs (length rs) last e) z in absurd (omega arith)
    by (by-many l) = let f : ◌≡◌ {A = ℕ} 48 0 = refuses (among-many rs (length rs) last l) z in absurd (omega arith)
    by (by-outside s f l) = let g : ◌≡◌ {A = ℕ} 49 0 = refuses (among-outside rs (length rs) last s f l) z in absurd (omega arith)
    by (by-inside s f l) = record { some = s; few = f; inside = l; answer = among_next rs (length rs) last s f l }

-- ---- 'none' exactly when no record is busy

-- In a circle of n each one is at most n places after any other.
near-start : (n a m d : ℕ) → m < n → a < n → n ≤ d → Near n a m d
near-start n a m d below inside l = by (ltb a m) refl
  where
    by : (t : Bool) → ltb a m ≡ t → Near n a m d
    by true e = let h : a < m = ltb-true a m e in inl (h, omega arith)
    by false e = let h : m ≤ a = ltb-false a m e in inr (h, omega arith)

next-none : (rs : List Record) (n last : ℕ) → last < n → ((i : ℕ) → i < n → (record_at rs i).busy ≡ false) → next rs n last ≡ None
next-none rs n last l idle =
    next-ahead rs n last l (idle-none rs (last + 1) (n - (last + 1)) (λ j low high. let h : j < n = omega arith in idle j h))
    ∙ idle-none rs 0 (last + 1) (λ j low high. let h : j < n = omega arith in idle j h)

none-next : (rs : List Record) (n last : ℕ) → last < n → next rs n last ≡ None → (i : ℕ) → i < n → (record_at rs i).busy ≡ false
none-next rs n last l e i below = by (record_at rs i).busy refl
  where
    start : Near n last i (suc n)
    start = near-start n last i (suc n) below l (omega arith)

    by : (t : Bool) → (record_at rs i).busy ≡ t → t ≡ false
    by false h = refl
    by true h =
        let k : Nearer rs n last i n l below h = next-nearer rs n last i n l below h start in
        absurd (nowhere-at (sym e ∙ k.found))

answer-none : (rs : List Record) (f : Option ℕ) → answer_at rs f ≡ Nothing → f ≡ None
unfolding answer_at
answer-none rs None e = refl
answer-none rs (Some i) e = by (eqb (record_at rs i).turns 4294967295) e
  where
    by : (t : Bool) → pick t (Refused 36) (Picked i) ≡ Nothing → Some i ≡ None
    by true p = let z : ◌≡◌ {A = ℕ} 0 1 = cc in absurd (omega arith)
    by false p = let z : ◌≡◌ {A = ℕ} 0 1 = cc in absurd (omega arith)

none_found : (rs : List Record) {f : Option ℕ} → f ≡ None → answer_at rs f ≡ Nothing
unfolding answer_at
none_found rs e = rw e

pub none-exactly : NoneExactly
none-exactly rs last z =
    let a : Accepted rs last = accepted rs last z in (
      λ e. none-next rs (length rs) last a.inside (answer-none rs (next rs (length rs) last) (sym a.answer ∙ e)),
      λ idle. a.answer ∙ none_found rs (next-none rs (length rs) last a.inside idle),
    )

-- ---- one record is picked, the others stay

pub picks-one : PicksOne
unfolding dispatched records_after given
picks-one rs last i e =
    let p : PickIn rs (length rs) i = among-pick rs (length rs) last i e in
    record {
      inside = p.below;
      busy = p.busy;
      room = p.room;
      same_length = length-set rs i _;
      turned = get_or-set_same rs i _ idle p.below ∙ ap (λ (b : Bool). record { busy = b; turns = (record_at rs i).turns + 1 }) p.busy;
      others = λ j ne. get_or-set_other rs i j _ idle ne;
    }

pub leaves_all : LeavesAll
unfolding records_after
leaves_all rs last unpicked = by (dispatched rs last) unpicked
  where
    by : (d : Dispatched) → ((i : ℕ) → d ≡ Picked i → ⊥) → records_after rs d ≡ rs
    by (Picked i) np = absurd (np i refl)
    by Nothing np = refl
    by (Refused k) np = refl

-- ---- a series of calls

flagged-length : (f : ℕ → Bool) (i : ℕ) (rs : List Record) → length (flagged f i rs) ≡ length rs
unfolding flagged
flagged-length f i [] = refl
flagged-length f i (r ∷ rs) = ap suc (flagged-length f (suc i) rs)

flagged-busy : (f : ℕ → Bool) (i : ℕ) (rs : List Record) (j : ℕ) → j < length rs → (record_at (flagged f i rs) j).busy ≡ f (j + i)
unfolding flagged
flagged-busy f i [] j l = absurd (omega arith)
flagged-busy f i (r ∷ rs) zero l = ap f (sym (zero-add i))
flagged-busy f i (r ∷ rs) (suc j) l = flagged-busy f (suc i) rs j (omega arith) ∙ ap f (omega arith)

after-length : (rs : List Record) (d : Dispatched) → length (records_after rs d) ≡ length rs
unfolding records_after given
after-length rs (Picked i) = length-set rs i _
after-length rs Nothing = refl
after-length rs (Refused k) = refl

-- The one found is picked, unless its record is full.
taken : (rs : List Record) (i : ℕ) → number_of (answer_at rs (Some i)) ≡ 0 → answer_at rs (Some i) ≡ Picked i
unfolding answer_at
taken rs i z = by (eqb (record_at rs i).turns 4294967295) z
  where
    by : (t : Bool) → number_of (pick t (Refused 36) (Picked i)) ≡ 0 → pick t (Refused 36) (Picked i) ≡ Picked i
    by true e = absurd (omega arith)
    by false e = refl

served-picked : {d : Dispatched} {i : ℕ} (last : ℕ) → d ≡ Picked i → served_after last d ≡ i
unfolding served_after
served-picked last e = ap (served_after last) e

-- One call of the series, where m is busy and at most suc d places away: it picks m, or one from which m is at most d away.
module _ (rs : List Record) (last m d : ℕ) (below : m < length rs) (busy : (record_at rs m).busy ≡ true) (fine : number_of (dispatched rs last) ≡ 0) where
  record Called : Type 0 where
    at : ℕ
    picked : dispatched rs last ≡ Picked at
    inside : at < length rs
    near : (at ≡ m) ⊎ Near (length rs) at m d

  called : Near (length rs) last m (suc d) → Called
  called w =
      let a : Accepted rs last = accepted rs last fine in
      let k : Nearer rs (length rs) last m d a.inside below busy = next-nearer rs (length rs) last m d a.inside below busy w in
      let e : dispatched rs last ≡ answer_at rs (Some k.at) = a.answer ∙ ap (answer_at rs) k.found in
      let b : Busy rs (length rs) last a.inside k.at = next-found rs (length rs) last a.inside k.found in
      record { at = k.at; picked = e ∙ taken rs k.at (sym (ap number_of e) ∙ fine); inside = b.below; near = k.near }

-- From any call on.
abbrev Goes : ℕ → List (ℕ → Bool) → Type 0
Goes m fs = (rs : List Record) (last : ℕ) → last < length rs → m < length rs → Near (length rs) last m (length fs)
    → NoneRefused (series rs last fs) → SomePicks m (series rs last fs)

module _ (m : ℕ) (f : ℕ → Bool) (fs : List (ℕ → Bool)) (rs : List Record) (last : ℕ) where
  abbrev Now : List Record
  Now = flagged f 0 rs

  abbrev Answer : Dispatched
  Answer = dispatched Now last

  -- The calls after this one, where it picked k.
  goes_on : (k : ℕ) → Answer ≡ Picked k → k < length Now → m < length rs → Near (length Now) k m (length fs) → Goes m fs
      → NoneRefused (series (records_after Now Answer) (served_after last Answer) fs) → SomePicks m (series (records_after Now Answer) (served_after last Answer) fs)
  goes_on k e inside below near rest none =
      let s : served_after last Answer ≡ k = served-picked last e in
      let n : length (records_after Now Answer) ≡ length Now = after-length Now Answer in
      let g : length Now ≡ length rs = flagged-length f 0 rs in
      rest (records_after Now Answer) (served_after last Answer) (omega arith) (omega arith) (rw (n, s) near) none

  fair-step : m < length rs → Near (length rs) last m (suc (length fs)) → f m ≡ true → Goes m fs
      → number_of Answer ≡ 0 → NoneRefused (series (records_after Now Answer) (served_after last Answer) fs)
      → (Answer ≡ Picked m) ⊎ SomePicks m (series (records_after Now Answer) (served_after last Answer) fs)
  fair-step below near busy rest fine none =
      let g : length Now ≡ length rs = flagged-length f 0 rs in
      let l : m < length Now = omega arith in
      let b : (record_at Now m).busy ≡ true = flagged-busy f 0 rs m below ∙ ap f (omega arith) ∙ busy in
      let c : Called Now last m (length fs) l b fine = called Now last m (length fs) l b fine (rw g near) in
      ⊎_elim (λ s. inl (c.picked ∙ ap Picked s)) (λ w. inr (goes_on c.at c.picked c.inside below w rest none)) c.near

goes : (m : ℕ) (fs : List (ℕ → Bool)) → AllBusy m fs → Goes m fs
unfolding AllBusy NoneRefused series SomePicks
goes m [] busy rs last inside below near none = ⊎_elim (λ p. let a : last < m = p.0 in let b : m ≤ last + 0 = p.1 in omega arith) (λ p. let b : length rs + m ≤ last + 0 = p.1 in omega arith) near
goes m (f ∷ fs) busy rs last inside below near none = fair-step m f fs rs last below near busy.0 (goes m fs busy.1) none.0 none.1

pub fair : Fair
unfolding NoneRefused series
fair rs last m [] e below busy none = absurd (omega arith)
fair rs last m (f ∷ fs) e below busy none =
    let g : length (flagged f 0 rs) ≡ length rs = flagged-length f 0 rs in
    let a : Accepted (flagged f 0 rs) last = accepted (flagged f 0 rs) last none.0 in
    let inside : last < length rs = rw g at a.inside in
    goes m (f ∷ fs) busy rs last inside below (near-start (length rs) last m (length (f ∷ fs)) below inside (omega arith)) none

-- Eight busy modules, number 3 served last: the eighth call is the first that picks it.
pub bound-met : BoundMet
unfolding series flagged dispatched dispatched_among answer_at next or_else first_busy records_after given served_after
bound-met = refl

-- ---- the two plain lists are the records

planes-after : (bs : List Bool) (ts : List ℕ) → length bs ≡ length ts → (d : Dispatched) → ((i : ℕ) → d ≡ Picked i → i < length ts)
    → records_of bs (turns_after ts d) ≡ records_after (records_of bs ts) d
unfolding turns_after records_after
planes-after bs ts even (Picked i) l =
    planes-given bs ts i _ ∙ ap (λ (t : ℕ). given (records_of bs ts) i (t + 1)) (sym (planes-turns bs ts i even (l i refl)))
planes-after bs ts even Nothing l = refl
planes-after bs ts even (Refused k) l = refl

turns-kept : (ts : List ℕ) (d : Dispatched) → (number_of d ≡ 0 → ⊥) → turns_after ts d ≡ ts
unfolding turns_after
turns-kept ts (Picked i) refused = absurd (refused refl)
turns-kept ts Nothing refused = refl
turns-kept ts (Refused k) refused = refl

pub planes-kept : PlanesKept
planes-kept bs ts last refused = turns-kept ts (dispatched_planes bs ts last) refused

pub planes : Planes
unfolding dispatched
planes bs ts last even =
    let e : dispatched_planes bs ts last ≡ dispatched (records_of bs ts) last = planes-even bs ts last even in
    record {
      answer = e;
      records = ap (λ (d : Dispatched). records_of bs (turns_after ts d)) e
          ∙ planes-after bs ts even (dispatched (records_of bs ts) last) (λ i p. inside i (among-pick (records_of bs ts) (length (records_of bs ts)) last i p));
    }
  where
    inside : (i : ℕ) → PickIn (records_of bs ts) (length (records_of bs ts)) i → i < length ts
    inside i p = let n : length (records_of bs ts) ≡ length bs = planes-length bs ts even in let b : i < length (records_of bs ts) = p.below in omega arith
