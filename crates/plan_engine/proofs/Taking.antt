-- Laws of a choice: by the tests of the code, and that an accepted choice found room. Assumes nothing.
use mathlib.Core.Path.{◌≡◌, ap, ◌∙◌}
use Prim.Native.Nat.{ℕ, ◌+◌, ◌-◌, ◌≤◌, ◌<◌}
use native.Mathlib.Omega.{arith}
use mathlib.Core.Bool.{Bool, true, false, ◌||◌, or-true}
use lib.ListN.{get_or}
use lib.Dec.{ltb, eqb}
use borrow.Author.Tests.{lt-ltb, le-ltb, eq-eqb, ne_eqb}
use Rattle.values.specs.Values.{pick}
use Rattle.masks.specs.Masks.{any_mark}
use Rattle.plan.specs.declared.Instruction.{Instruction}
use Rattle.plan.specs.declared.Instruction.TheVariants.{Wait, Act}
use Rattle.plan.specs.Plan.{Plan}
use Rattle.plan_engine.specs.Live.{Live}
use Rattle.plan_engine.specs.Acting.{act, commit}
use Rattle.plan_engine.specs.Taking.{Taken, taken, unless, take_instruction, take_thread, take_wire, take_commit, take_choice}

-- ---- unless

module _ (room : ℕ) (l d : Live) where
  pub unless-full : room ≡ 0 → taken 47 l ≡ unless room l d
  unfolding unless
  unless-full e = rw (eq-eqb room 0 e)

  pub unless-free : (room ≡ 0 → ⊥) → taken 0 d ≡ unless room l d
  unfolding unless
  unless-free h = rw (ne_eqb room 0 h)

module _ (q : Plan) (room : ℕ) where
  -- ---- take_commit

  module _ (l : Live) where
    pub commit-thread : any_mark l.ready ≡ true → taken 34 l ≡ take_commit q room l
    unfolding take_commit
    commit-thread e = rw e

    pub commit-wire : any_mark l.due ≡ true → taken 34 l ≡ take_commit q room l
    unfolding take_commit
    commit-wire e = rw (e, or-true (any_mark l.ready))

    module _ (r : any_mark l.ready ≡ false) (w : any_mark l.due ≡ false) where
      pub commit-none : any_mark l.held ≡ false → taken 35 l ≡ take_commit q room l
      unfolding take_commit
      commit-none e = rw (r, w, e)

      pub commit-full : any_mark l.held ≡ true → room ≡ 0 → taken 47 l ≡ take_commit q room l
      unfolding take_commit
      commit-full e h = rw (r, w, e) (unless-full room l _ h)

      pub commit-all : (d : Live) → any_mark l.held ≡ true → (room ≡ 0 → ⊥) → d ≡ commit q l
          → taken 0 d ≡ take_commit q room l
      unfolding take_commit
      commit-all d e h u = rw (r, w, e, u) (unless-free room l _ h)

  -- ---- take_choice

  module _ (c : ℕ) (l : Live) where
    pub choice-thread : (t : Taken) → c < q.threads → t ≡ take_thread q room c l → t ≡ take_choice q room c l
    unfolding take_choice
    choice-thread t h e = rw (lt-ltb c q.threads h, e)

    module _ (p : q.threads ≤ c) where
      pub choice-wire : (t : Taken) → c < q.threads + q.wires
          → t ≡ take_wire q room (c - q.threads) l → t ≡ take_choice q room c l
      unfolding take_choice
      choice-wire t h e = rw (le-ltb c q.threads p, lt-ltb c (q.threads + q.wires) h, e)

      module _ (h : q.threads + q.wires ≤ c) where
        pub choice-commit : (t : Taken) → c ≡ 255 → t ≡ take_commit q room l → t ≡ take_choice q room c l
        unfolding take_choice
        choice-commit t s e = rw (le-ltb c q.threads p, le-ltb c (q.threads + q.wires) h, eq-eqb c 255 s, e)

        pub choice-none : (c ≡ 255 → ⊥) → taken 22 l ≡ take_choice q room c l
        unfolding take_choice
        choice-none s = rw (le-ltb c q.threads p, le-ltb c (q.threads + q.wires) h, ne_eqb c 255 s)

-- ---- a choice past the number of every item

pub choice-past : (q : Plan) (room c : ℕ) (l : Live) → q.threads < 256 → q.wires < 256 → 65536 ≤ c → taken 22 l ≡ take_choice q room c l
choice-past q room c l t w h = choice-none q room c l (omega arith) (omega arith) (omega arith)

-- ---- an accepted choice found room

either : (b : Bool) (t u : Taken) → (t.number ≡ 0 → ⊥) → (u.number ≡ 0 → ⊥) → (pick b t u).number ≡ 0 → ⊥
either true t u h k = h
either false t u h k = k

module _ (q : Plan) (room : ℕ) (full : room ≡ 0) where
  room-unless : (l d : Live) → (unless room l d).number ≡ 0 → ⊥
  room-unless l d e =
      let z : ◌≡◌ {A = ℕ} 47 0 = ap (λ (t : Taken). t.number) (unless-full room l d full) ∙ e in
      omega arith

  room-instruction : (i p : ℕ) (a : Instruction) (l : Live) → (take_instruction q room i p a l).number ≡ 0 → ⊥
  unfolding take_instruction
  room-instruction i p (Wait t) l e = omega arith
  room-instruction i p (Act a) l e = room-unless l (act q i p a l) e

  room-thread : (i : ℕ) (l : Live) → (take_thread q room i l).number ≡ 0 → ⊥
  unfolding take_thread
  room-thread i l = either (ltb i 8) _ _ (room-instruction i _ _ l) (λ e. omega arith)

  room-wire : (k : ℕ) (l : Live) → (take_wire q room k l).number ≡ 0 → ⊥
  unfolding take_wire
  room-wire k l = either (get_or l.due k false) _ _ (room-unless l _) (λ e. omega arith)

  room-commit : (l : Live) → (take_commit q room l).number ≡ 0 → ⊥
  unfolding take_commit
  room-commit l =
      either (any_mark l.ready || any_mark l.due) _ _ (λ e. omega arith)
      (either (any_mark l.held) _ _ (room-unless l _) (λ e. omega arith))

  pub choice-room : (c : ℕ) (l : Live) → (take_choice q room c l).number ≡ 0 → ⊥
  unfolding take_choice
  choice-room c l =
      either (ltb c q.threads) _ _ (room-thread c l)
      (either (ltb c (q.threads + q.wires)) _ _ (room-wire (c - q.threads) l)
      (either (eqb c 255) _ _ (room-commit l) (λ e. omega arith)))
