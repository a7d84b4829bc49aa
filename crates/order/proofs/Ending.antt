-- Wherever a list of calls ends, in a module that extraction accepts (`at-the-end`): the first five of the claim's sentences.
use mathlib.Core.Path.{◌≡◌, refl, sym, ap, subst, ◌∙◌}
use mathlib.Core.Logic.{◌≢◌}
use mathlib.Core.Bool.{Bool, true, false}
use mathlib.Core.List.{List}
use Prim.Native.Nat.{ℕ, ◌≤◌, ◌<◌}
use native.Mathlib.Omega.{arith}
use lib.ListN.{length}
use lib.Dec.{ltb}
use borrow.Author.Tests.{lt-ltb}
use Rattle.values.specs.declared.Value.{Value}
use Rattle.values.specs.Values.{pick, known, same}
use Rattle.sheet.specs.Reading.{ok}
use Rattle.sheet.specs.Expression.{Expr}
use Rattle.sheet.specs.Module.{Module, read}
use Rattle.state.specs.declared.State.{State}
use Rattle.state.specs.State.{users, count_of, allowance_of}
use Rattle.soundness.specs.Soundness.{Sound}
use Rattle.events.specs.Cycle.{variables, code_of, instr_at, is_wait, items, any_enabled}
use Rattle.events.specs.Calls.{start, plain_choice}
use Rattle.events.specs.Steps.{Instant}
use Rattle.events.proofs.Choices.{spend-zero}
use Rattle.events.proofs.Fits.{Fits}
use Rattle.events.proofs.Runs.{plain-lowest, plain-commit, plain-refusal}
use Rattle.nextstate.specs.Extraction.{Tables, extracted}
use Rattle.nextstate.specs.Book.{Book, settled, fed, rise, opening, turned, book}
use Rattle.nextstate.specs.Ruled.{Ruled}
use Rattle.threads.specs.Alone.{rise_alone}
use Rattle.settling.proofs.Settle.{settle-below}
use Rattle.walking.proofs.Rising.{rise-alone}
use Rattle.validity.proofs.Valid.{some-variables}
use Rattle.phases.specs.Phases.{turned_alone, Phase}
use Rattle.phases.proofs.Phases.{phase-start, phase-step, phase-bound, phase-quiet, phase-low, phase-high, phase-places}
use Rattle.order.specs.Calls.{Call, final, instants, since, Cycles}
use Rattle.order.specs.Claim.{Bounded, Progress, BookValues, BookPlaces, AtTheEnd}
use Rattle.order.proofs.Outcomes.{choose-in}
use Rattle.order.proofs.Users.{all-standing, from_start, standing-start, tallied}
use Rattle.order.proofs.List.{every, to-fall}

module _ (s : List ℕ) (m : Module Expr) (e : read s ≡ ok m) (w : Sound m) (u : Ruled m) (T : Tables) (x : extracted m ≡ ok T) where
  -- The book of the claim is the one that the phases speak of, wherever its places are waits.
  pub turned-alone : (a : ℕ → Value) (b : Book) →
      ((i : ℕ) → i < length m.threads → (b.places i < length (code_of m i)) × (is_wait (instr_at (code_of m i) (b.places i)) ≡ true)) →
      turned m T a b ≡ turned_alone m a b
  unfolding turned turned_alone fed rise rise_alone
  turned-alone a b waits =
      let r = rise-alone m w u T x (fed m a b) waits in
      λ i. settled m (pick (same (a 0) (known 1)) (record { values = λ v. r.0 v i; places = λ j. r.1 j i }) (fed m a b))

  low : (b : Book) (old new : State) (n : ℕ) (a : ℕ → Value) → Fits m old → Instant m old new a → a 0 ≡ known 0 →
      Phase m b old n → Phase m (turned m T a b) new 0
  low b old new n a f i z p =
      subst (λ (c : Book). Phase m c new 0) (sym (turned-alone a b (phase-places m w u b old n p)))
      (phase-low m w u b old new n a i.rest p i z)

  within : (v : ℕ) → v < m.scope.inputs → v < variables m
  unfolding variables
  within v l = omega (arith, w.variables)

  high : (b : Book) (old new : State) (n : ℕ) (a : ℕ → Value) → Fits m old → Instant m old new a → a 0 ≡ known 1 →
      b.values 0 ≡ known 0 → ((v : ℕ) → v ≢ 0 → v < m.scope.inputs → a v ≡ b.values v) →
      Phase m b old n → Phase m (turned m T a b) new 0
  high b old new n a f i z clock same p =
      let q = (phase-quiet m w u b old n i.rest p).0 in
      subst (λ (c : Book). Phase m c new 0) (sym (turned-alone a b (phase-places m w u b old n p)))
      (phase-high m w u b old new n a i.rest p (q 0 (some-variables m w) ∙ clock) i z
      (λ v ne l. same v ne l ∙ sym (q v (within v l))))

  takes-in : (b : Book) (a : ℕ → Value) (v : ℕ) → a 0 ≡ known 0 → v < m.scope.inputs → (turned m T a b).values v ≡ a v
  unfolding turned settled fed same known
  takes-in b a v z l =
      rw z (settle-below m (λ v. pick (ltb v m.scope.inputs) (a v) (b.values v)) v (omega arith) ∙ rw (lt-ltb v m.scope.inputs l) refl)

  -- The plain choice is a byte: an item, of which there are 40 at most, or the commit.
  plain_byte : (st : State) → plain_choice m st < 256
  unfolding items
  plain_byte st = by (any_enabled m st) refl
    where
      by : (t : Bool) → any_enabled m st ≡ t → plain_choice m st < 256
      by true h = omega (arith, (plain-lowest m st h).0, w.threads-most, w.wires-most)
      by false h = rw (plain-commit m st h) (omega arith)

  -- ---- the list, from the start with these allowances

  module _ (allowances : List ℕ) (right : length allowances ≡ users) where
    abbrev begins : State
    begins = (start s allowances).state

    -- The phase at the list's end.
    reached : (calls : List Call) → Cycles (instants s calls begins) →
        Phase m (book m T (instants s calls begins)) (final s calls begins) (since s calls begins 0)
    unfolding book
    reached calls cy =
        every s m e w T (Phase m) (λ b old new who c n f st p. phase-step m w u b old new n c st p) low high takes-in
        calls begins (opening m T) 0 (standing-start s m e w allowances right) (to-fall cy)
        (subst (λ (st : State). Phase m (opening m T) st 0) (sym (from_start s m e w allowances right)) (phase-start m w u T allowances))

    bounded : (calls : List Call) → Cycles (instants s calls begins) → Bounded s m T allowances calls
    bounded calls cy =
        phase-bound m w u (book m T (instants s calls begins)) (final s calls begins) (since s calls begins 0) (reached calls cy)

    goes_on : (calls : List Call) → Progress s m T allowances calls
    goes_on calls q v l room =
        let st = final s calls begins in
        let stands = all-standing s m e w calls begins (standing-start s m e w allowances right) in
        let most : count_of st v ≤ allowance_of st v = stands.fits.counts v l in
        let some : count_of st v < allowance_of st v = omega arith in (
          plain_choice m st,
          plain_byte st,
          ap (λ r. r.number) (choose-in s m e w st stands v (plain_choice m st)) ∙ plain-refusal m st v w l q ∙ spend-zero st v some,
        )

    book-values : (calls : List Call) → Cycles (instants s calls begins) → BookValues s m T allowances calls
    book-values calls cy q =
        (phase-quiet m w u (book m T (instants s calls begins)) (final s calls begins) (since s calls begins 0) q (reached calls cy)).0

    book-places : (calls : List Call) → Cycles (instants s calls begins) → BookPlaces s m T allowances calls
    book-places calls cy q =
        (phase-quiet m w u (book m T (instants s calls begins)) (final s calls begins) (since s calls begins 0) q (reached calls cy)).1

    pub at-the-end : (calls : List Call) → Cycles (instants s calls begins) → AtTheEnd s m T allowances calls
    at-the-end calls cy =
        record {
          tallied = tallied s m e w allowances right calls;
          bound = bounded calls cy;
          progress = goes_on calls;
          values = book-values calls cy;
          places = book-places calls cy;
        }
