-- Laws of what the code works out on bytes: each way through the definitions. Assumes nothing.
use mathlib.Core.Path.{◌≡◌, refl, sym, ap, ◌∙◌}
use mathlib.Core.Bool.{Bool, true, false}
use mathlib.Core.List.{List}
use mathlib.Core.Logic.{◌⊎◌, inl, inr}
use Prim.Native.Nat.{ℕ, zero, suc, ◌+◌, ◌-◌, ◌≤◌, ◌<◌}
use native.Mathlib.Omega.{arith}
use native.Mathlib.Numerals.{sub-one}
use native.Mathlib.Decide.{dec_lt}
use lib.Seq.{get_or-drop}
use lib.ListN.{length, get_or, drop, set, replicate, get_or-eq_default}
use lib.Dec.{ltb}
use borrow.Author.Tests.{lt-ltb, le-ltb, eq-eqb, ne_eqb}
use Rattle.values.specs.declared.Value.{Value}
use Rattle.values.specs.Values.{pick, all_unknown, holds}
use Rattle.values.specs.Cells.{cell_of, value_of, cell_at}
use Rattle.sheet.specs.Parts.{definition_at}
use Rattle.evaluation.specs.declared.Evaluated.{Evaluated}
use Rattle.evaluation.specs.declared.Frame.{Frame}
use Rattle.evaluation.specs.Bytes.{nothing, Calling, inner_node, node_at, work_at, passed, operands_of, skip_node, skip_at, skip_form, skip_body, result_form, turn_form, if_form, else_form, form_at, run_at, arguments_at, call_node, calls_at}

-- ---- a map past those of a case

pub inner_node-none : (calling : Calling) (operand : ℕ → Evaluated) (m o p : ℕ) → (m ≡ 0x04 → ⊥) → (m ≡ 0x11 → ⊥) → (m ≡ 0x31 → ⊥) →
    (m ≡ 0x71 → ⊥) → (m ≡ 0x80 → ⊥) → inner_node calling operand m o p ≡ nothing
unfolding inner_node
inner_node-none calling operand m o p a b c d e = simp (ne_eqb _ _ a, ne_eqb _ _ b, ne_eqb _ _ c, ne_eqb _ _ d, ne_eqb _ _ e)

pub node_at-inner : (calling : Calling) (operand : ℕ → Evaluated) (s ws : List ℕ) (env : ℕ → Value) (m p : ℕ) → (m ≡ 0x02 → ⊥) → (m ≡ 0x0C → ⊥) →
    node_at calling operand s ws env m p ≡ inner_node calling operand m (get_or s (p + 1) 0) (p + 2)
unfolding node_at
node_at-inner calling operand s ws env m p a b = simp (ne_eqb _ _ a, ne_eqb _ _ b)

-- A width among those that stand from a place on.
pub width-inside : (s : List ℕ) (w v : ℕ) → get_or s (w + v) 0 ≡ get_or (drop w s) v 0
width-inside s w v = sym (get_or-drop w s v 0)

pub width-outside : (s : List ℕ) (w v : ℕ) → length s ≤ w → 0 ≡ get_or (drop w s) v 0
width-outside s w v l = let h : length s ≤ w + v = omega arith in sym (get_or-eq_default s 0 h) ∙ width-inside s w v

pub cell-outside : (cs : List ℕ) (v : ℕ) → length cs ≤ v → value_of 0 ≡ cell_at cs v
unfolding cell_at
cell-outside cs v l = ap value_of (sym (get_or-eq_default cs 0 l))

pub operands_of-none : (s ds : List ℕ) (m o : ℕ) → (m ≡ 0x11 → ⊥) → (m ≡ 0x31 → ⊥) → (m ≡ 0x71 → ⊥) → (m ≡ 0x80 → ⊥) → operands_of s ds m o ≡ 0
unfolding operands_of
operands_of-none s ds m o a b c d = simp (ne_eqb _ _ a, ne_eqb _ _ b, ne_eqb _ _ c, ne_eqb _ _ d)

pub skip_form-other : (skip pass : ℕ → ℕ) (m p : ℕ) → (m ≡ 0x03 → ⊥) → (m ≡ 0x0C → ⊥) → (m ≡ 0x06 → ⊥) → (m ≡ 0x0E → ⊥) →
    skip_form skip pass m p ≡ p + 1
unfolding skip_form
skip_form-other skip pass m p a b c d = simp (ne_eqb _ _ a, ne_eqb _ _ b, ne_eqb _ _ c, ne_eqb _ _ d)

pub form_at-other : (work : List ℕ → ℕ → Evaluated) (run : List ℕ → ℕ → Frame) (skip : ℕ → ℕ) (cs : List ℕ) (p m t : ℕ) →
    (m ≡ 0x03 → ⊥) → (m ≡ 0x0C → ⊥) → (m ≡ 0x06 → ⊥) → (m ≡ 0x0E → ⊥) →
    form_at work run skip cs p m t ≡ record { cells = cs; next = p + 1 }
unfolding form_at
form_at-other work run skip cs p m t a b c d = simp (ne_eqb _ _ a, ne_eqb _ _ b, ne_eqb _ _ c, ne_eqb _ _ d)

-- ---- work_at: no level left, a level left, no byte left

module _ (calling : Calling) (s ws : List ℕ) (env : ℕ → Value) (p : ℕ) where
  pub work_at-deep : (d : ℕ) → d ≡ 0 → work_at calling d s ws env p ≡ nothing
  unfolding work_at
  work_at-deep d e = rw e refl

  pub work_at-node : (d : ℕ) {m : ℕ} → (d ≡ 0 → ⊥) → get_or s p 0 ≡ m →
      work_at calling d s ws env p ≡ node_at calling (work_at calling (d - 1) s ws env) s ws env m p
  unfolding work_at
  work_at-node zero h e = absurd (h refl)
  work_at-node (suc d) h e = rw (sub-one, e) refl

  pub work_at-end : (d : ℕ) → (d ≡ 0 → ⊥) → length s ≤ p → work_at calling d s ws env p ≡ nothing
  unfolding node_at inner_node
  work_at-end d h l = work_at-node d h (get_or-eq_default s 0 l)

  pub work_at-stop : (d : ℕ) → (d ≡ 0) ⊎ ((d ≡ 0 → ⊥) × (length s ≤ p)) → work_at calling d s ws env p ≡ nothing
  work_at-stop d (inl e) = work_at-deep d e
  work_at-stop d (inr e) = work_at-end d e.0 e.1

-- ---- what isn't run

module _ (skip : ℕ → ℕ) (n p : ℕ) where
  pub passed_none : n ≡ 0 → p ≡ passed skip n p
  unfolding passed
  passed_none e = rw e

  pub passed-more : (n ≡ 0 → ⊥) → passed skip (n - 1) (skip p) ≡ passed skip n p
  unfolding passed
  passed-more h = by n h
    where
      by : (k : ℕ) → (k ≡ 0 → ⊥) → passed skip (k - 1) (skip p) ≡ passed skip k p
      by zero h = absurd (h refl)
      by (suc k) h = rw sub-one refl

module _ (s ds : List ℕ) (p : ℕ) where
  pub skip_at-deep : (d : ℕ) → d ≡ 0 → p ≡ skip_at d s ds p
  unfolding skip_at
  skip_at-deep d e = rw e

  pub skip_at-end : (d : ℕ) → length s ≤ p → p ≡ skip_at d s ds p
  unfolding skip_at
  skip_at-end zero l = refl
  skip_at-end (suc d) l = rw (le-ltb p (length s) l)

  pub skip_at-stop : (d : ℕ) → (d ≡ 0) ⊎ ((d ≡ 0 → ⊥) × (length s ≤ p)) → p ≡ skip_at d s ds p
  skip_at-stop d (inl e) = skip_at-deep d e
  skip_at-stop d (inr e) = skip_at-end d e.1

  skip_at-node : (d : ℕ) → (d ≡ 0 → ⊥) → p < length s → skip_at d s ds p ≡ skip_node (skip_at (d - 1) s ds) s ds (get_or s p 0) p
  unfolding skip_at
  skip_at-node zero h l = absurd (h refl)
  skip_at-node (suc d) h l = rw (sub-one, lt-ltb p (length s) l) refl

  pub skip_at-constant : (d : ℕ) → (d ≡ 0 → ⊥) → p < length s → get_or s p 0 ≡ 0x0C →
      skip_at d s ds p ≡ passed (skip_at (d - 1) s ds) (operands_of s ds (get_or s p 0) (get_or s (p + 1) 0)) (p + 6)
  unfolding skip_node
  skip_at-constant d h l e = skip_at-node d h l ∙ (rw e refl)

  pub skip_at-other : (d : ℕ) → (d ≡ 0 → ⊥) → p < length s → (get_or s p 0 ≡ 0x0C → ⊥) →
      skip_at d s ds p ≡ passed (skip_at (d - 1) s ds) (operands_of s ds (get_or s p 0) (get_or s (p + 1) 0)) (p + 2)
  unfolding skip_node
  skip_at-other d h l e = skip_at-node d h l ∙ (rw (ne_eqb _ _ e) refl)

  pub skip_body-deep : (d : ℕ) → d ≡ 0 → p ≡ skip_body d s ds p
  unfolding skip_body
  skip_body-deep d e = rw e

  pub skip_body-end : (d : ℕ) → length s ≤ p → p ≡ skip_body d s ds p
  unfolding skip_body
  skip_body-end zero l = refl
  skip_body-end (suc d) l = rw (le-ltb p (length s) l)

  pub skip_body-stop : (d : ℕ) → (d ≡ 0) ⊎ ((d ≡ 0 → ⊥) × (length s ≤ p)) → p ≡ skip_body d s ds p
  skip_body-stop d (inl e) = skip_body-deep d e
  skip_body-stop d (inr e) = skip_body-end d e.1

  pub skip_body-form : (d : ℕ) {m : ℕ} → (d ≡ 0 → ⊥) → p < length s → get_or s p 0 ≡ m →
      skip_body d s ds p ≡ skip_form (skip_body (d - 1) s ds) (skip_at 16 s ds) m p
  unfolding skip_body
  skip_body-form zero h l e = absurd (h refl)
  skip_body-form (suc d) h l e = rw (sub-one, lt-ltb p (length s) l, e) refl

-- ---- run_at: no level left, no byte left, a level left

module _ (calling : Calling) (s ds ws cs : List ℕ) (p : ℕ) where
  pub run_at-deep : (d : ℕ) → d ≡ 0 → record { cells = cs; next = p } ≡ run_at calling d s ds ws cs p
  unfolding run_at
  run_at-deep d e = rw e

  pub run_at-end : (d : ℕ) → length s ≤ p → record { cells = cs; next = p } ≡ run_at calling d s ds ws cs p
  unfolding run_at
  run_at-end zero l = refl
  run_at-end (suc d) l = rw (le-ltb p (length s) l)

  pub run_at-stop : (d : ℕ) → (d ≡ 0) ⊎ ((d ≡ 0 → ⊥) × (length s ≤ p)) → record { cells = cs; next = p } ≡ run_at calling d s ds ws cs p
  run_at-stop d (inl e) = run_at-deep d e
  run_at-stop d (inr e) = run_at-end d e.1

  pub run_at-form : (d : ℕ) {m : ℕ} → (d ≡ 0 → ⊥) → p < length s → get_or s p 0 ≡ m →
      run_at calling d s ds ws cs p
      ≡ form_at (λ c q. work_at calling 16 s ws (cell_at c) q) (run_at calling (d - 1) s ds ws) (skip_body (d - 1) s ds) cs p m (get_or s (p + 1) 0)
  unfolding run_at
  run_at-form zero h l e = absurd (h refl)
  run_at-form (suc d) h l e = rw (sub-one, lt-ltb p (length s) l, e) refl

-- ---- arguments, calls

module _ (operand : ℕ → Evaluated) (k n : ℕ) (f : Frame) where
  pub arguments-done : n ≤ k → f ≡ arguments_at operand k (n - k) f
  unfolding arguments_at
  arguments-done l = let e : n - k ≡ 0 = omega arith in rw e

  pub arguments-more : {e : Evaluated} → k < n → e ≡ operand f.next →
      arguments_at operand (k + 1) (n - (k + 1)) (record { cells = set f.cells k (cell_of e.value); next = e.next })
      ≡ arguments_at operand k (n - k) f
  unfolding arguments_at
  arguments-more l e = let i : n - k ≡ suc (n - (k + 1)) = omega arith in rw (i, e) refl

module _ (s ds : List ℕ) (operand : ℕ → Evaluated) (n p : ℕ) where
  pub calls-none : (k : ℕ) → k ≤ n → calls_at k s ds operand n p ≡ nothing
  unfolding calls_at
  calls-none zero l = refl
  calls-none (suc k) l = simp (ne_eqb n k (λ e. omega (arith, e)), calls-none k (omega arith))

  unfoldable defined-here : Evaluated
  defined-here = pick (ltb (definition_at ds n) (length s)) (call_node (calls_at n s ds) s ds (definition_at ds n) operand p) nothing

  calls-step : (k : ℕ) → Dec (n < k) → n < suc k → (n < k → calls_at k s ds operand n p ≡ defined-here) →
      calls_at (suc k) s ds operand n p ≡ defined-here
  unfolding calls_at defined-here
  calls-step k (yes h) l earlier = rw (ne_eqb n k (λ e. omega (arith, e))) (earlier h)
  calls-step k (no h) l earlier = let e : k ≡ n = omega arith in rw (e, eq-eqb n n refl) refl

  calls-here : (k : ℕ) → n < k → calls_at k s ds operand n p ≡ defined-here
  calls-here zero l = absurd (omega arith)
  calls-here (suc k) l = calls-step k (dec_lt n k) l (calls-here k)

  pub calls-below : (k : ℕ) → n < k → calls_at k s ds operand n p
      ≡ pick (ltb (definition_at ds n) (length s)) (call_node (calls_at n s ds) s ds (definition_at ds n) operand p) nothing
  unfolding defined-here
  calls-below k l = calls-here k l

  pub calls-nowhere : (k : ℕ) → n < k → length s ≤ definition_at ds n → calls_at k s ds operand n p ≡ nothing
  calls-nowhere k l h = calls-below k l ∙ (rw (le-ltb _ _ h) refl)

  pub calls-defined : (k : ℕ) → n < k → definition_at ds n < length s →
      calls_at k s ds operand n p ≡ call_node (calls_at n s ds) s ds (definition_at ds n) operand p
  calls-defined k l h = calls-below k l ∙ (rw (lt-ltb _ _ h) refl)

-- ---- what the code has put together is the form, the call

pub result-made : (work : List ℕ → ℕ → Evaluated) (cs : List ℕ) (p t : ℕ) {c : ℕ} {row : List ℕ} {e : Evaluated} → e ≡ work cs (p + 2) →
    c ≡ cell_of e.value → row ≡ set cs t c → record { cells = row; next = e.next } ≡ result_form work cs p t
unfolding result_form
result-made work cs p t h c r = rw (r, c, ← h) refl

pub turn-made : (run : List ℕ → ℕ → Frame) (cs : List ℕ) (p : ℕ) {a : Frame} → a ≡ run cs (p + 1) → run a.cells a.next ≡ turn_form run cs p
unfolding turn_form
turn-made run cs p h = rw (← h) refl

module _ (work : List ℕ → ℕ → Evaluated) (run : List ℕ → ℕ → Frame) (skip : ℕ → ℕ) (cs : List ℕ) (p : ℕ) {e : Evaluated} where
  module _ (worked : e ≡ work cs (p + 1)) {t : Bool} (told : t ≡ holds e.value) where
    pub if-taken : t ≡ true → run cs e.next ≡ if_form work run skip cs p
    unfolding if_form
    if-taken h = rw (← worked, ← told, h) refl

    pub if-left : t ≡ false → record { cells = cs; next = skip e.next } ≡ if_form work run skip cs p
    unfolding if_form
    if-left h = rw (← worked, ← told, h) refl

    pub else-taken : {a : Frame} → t ≡ true → a ≡ run cs e.next → record { cells = a.cells; next = skip a.next } ≡ else_form work run skip cs p
    unfolding else_form
    else-taken h a = rw (← worked, ← told, h, a) refl

    pub else-left : t ≡ false → run cs (skip e.next) ≡ else_form work run skip cs p
    unfolding else_form
    else-left h = rw (← worked, ← told, h) refl

module _ (calling : Calling) (s ds : List ℕ) (d : ℕ) (operand : ℕ → Evaluated) (p : ℕ) where
  pub call-made : {n w c : ℕ} {a r : Frame} {start : List ℕ} {x u : Value} → n ≡ get_or s d 0 → w ≡ get_or s (d + 1 + n) 0 →
      a ≡ arguments_at operand 0 (n - 0) (record { cells = replicate 5 0; next = p }) → u ≡ all_unknown w → c ≡ cell_of u →
      start ≡ set a.cells n c → r ≡ run_at calling 64 s ds (drop (d + 1) s) start (d + 2 + n) → x ≡ cell_at r.cells n →
      record { value = x; width = w; next = a.next } ≡ call_node calling s ds d operand p
  unfolding call_node
  call-made {n} e w a u c b r x =
      let z : n - 0 ≡ n = omega arith in
      rw (x, r, b, c, u, a, z, w, e) refl

pub call-answer : (s ds : List ℕ) (operand : ℕ → Evaluated) (n p k : ℕ) {d : ℕ} {x : Evaluated} → d ≡ definition_at ds n → n < k → d < length s →
    x ≡ call_node (calls_at n s ds) s ds d operand p → x ≡ calls_at k s ds operand n p
call-answer s ds operand n p k e l h x =
    x ∙ (λ i. call_node (calls_at n s ds) s ds (e i) operand p) ∙ sym (calls-defined s ds operand n p k l (rw (← e) h))

pub call-nowhere : (s ds : List ℕ) (operand : ℕ → Evaluated) (n p k : ℕ) {d : ℕ} → d ≡ definition_at ds n → n < k → length s ≤ d →
    nothing ≡ calls_at k s ds operand n p
call-nowhere s ds operand n p k e l h = sym (calls-nowhere s ds operand n p k l (rw (← e) h))

pub call-stop : (s ds : List ℕ) (operand : ℕ → Evaluated) (n p k : ℕ) {d : ℕ} → d ≡ definition_at ds n
    → (k ≤ n) ⊎ ((n < k) × (length s ≤ d)) → nothing ≡ calls_at k s ds operand n p
call-stop s ds operand n p k e (inl l) = sym (calls-none s ds operand n p k l)
call-stop s ds operand n p k e (inr l) = call-nowhere s ds operand n p k e l.0 l.1
