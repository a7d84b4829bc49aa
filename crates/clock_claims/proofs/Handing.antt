-- The cells before a cycle hold the book's values before it: registers, inputs and 1 for the clock, and x in all else. Assumes nothing.
use mathlib.Core.Path.{◌≡◌, refl, sym, ap, ◌∙◌}
use mathlib.Core.Logic.{◌≢◌}
use mathlib.Core.Bool.{true}
use mathlib.Core.List.{List}
use Prim.Native.Nat.{ℕ, zero, suc, ◌+◌, ◌-◌, ◌≤◌, ◌<◌}
use native.Mathlib.Decide.{ℕ_discrete, dec_lt}
use native.Mathlib.Omega.{arith}
use borrow.Author.Tests.{lt-ltb, le-ltb, le-leb, ne_eqb}
use lib.Dec.{eqb}
use lib.ListN.{length, get_or, set, replicate, length-set, length-replicate}
use lib.Seq.{get_or-set_same, get_or-set_other}
use Rattle.values.specs.declared.Value.{Value}
use Rattle.values.specs.Values.{known, nowhere, fits}
use Rattle.values.specs.Planes.{value_at}
use Rattle.values.proofs.Values.{fits-known, fits-unknown}
use Rattle.values.proofs.Operators.{fits-small}
use Rattle.sheet.specs.Expression.{Expr}
use Rattle.sheet.specs.Statement.{is_register}
use Rattle.sheet.specs.Module.{Module}
use Rattle.soundness.specs.Soundness.{Sound}
use Rattle.events.specs.declared.Inputs.{Inputs}
use Rattle.events.specs.Cycle.{variables, all_below}
use Rattle.events.specs.Calls.{width_of, input_of}
use Rattle.events.proofs.Cycle.{and_right, all-below}
use Rattle.values.specs.Cells.{small, cell_of, value_of, cell_at}
use Rattle.values.proofs.Cells.{value_cell}
use Rattle.plan.specs.Plan.{Plan}
use Rattle.plan_fill.specs.Holding.{Holds}
use Rattle.nextstate.specs.declared.Registers.{Registers}
use Rattle.nextstate.specs.CycleRun.{upper_inputs_fit, handed}
use Rattle.clock_steps.specs.Taking.{at_most}
use Rattle.clock_steps.proofs.RowNumbers.{most-same}
use Rattle.clock_run.specs.Running.{upper_of, blank, put_values, hand_on}
use Rattle.clock_claims.specs.Claims.{Whole}
use Rattle.clock_claims.proofs.Lists.{put_from, put_is, put-length, put_other, put-at}
use Rattle.clock_claims.proofs.Holding.{upper_is}
use Rattle.clock_claims.proofs.Rows.{blank-cell}

-- ---- one word

filled_at : (n k x : ℕ) → k < n → get_or (replicate n x) k 0 ≡ x
filled_at zero k x h = absurd (omega arith)
filled_at (suc n) zero x h = refl
filled_at (suc n) (suc k) x h = filled_at n k x (omega arith)

pub blank-value : value_of blank ≡ nowhere
unfolding nowhere
blank-value = ap value_of blank-cell ∙ value_cell nowhere (fits-small 32 nowhere (omega arith) (fits-unknown 32))

one_cell : 1 ≡ cell_of (known 1)
unfolding cell_of known
one_cell = refl

pub clock-value : value_of 1 ≡ known 1
clock-value = ap value_of one_cell ∙ value_cell (known 1) (fits-small 32 (known 1) (omega arith) (fits-known 32 1 (omega arith)))

pub values-are : (ns us : List ℕ) (first at n : ℕ) (cs : List ℕ) →
    put_values ns us first at n cs ≡ put_from (λ v. cell_of (value_at ns us (at + v))) first n cs
unfolding put_values put_from
values-are ns us first at zero cs = refl
values-are ns us first at (suc n) cs = rw (values-are ns us first at n cs)

-- A cell that is a small value's has that value.
pub cell-value : (cs : List ℕ) (v : ℕ) (a : Value) → small a ≡ true → get_or cs v 0 ≡ cell_of a → cell_at cs v ≡ a
unfolding cell_at
cell-value cs v a s e = ap value_of e ∙ value_cell a s

-- ---- what is handed, by the kinds of variable

module _ (m : Module Expr) (g : Registers) (a : Inputs) where
  abbrev I : ℕ
  I = m.scope.inputs

  abbrev R : ℕ
  R = m.scope.registers

  pub handed-clock : (handed m g a).values 0 ≡ known 1
  unfolding handed
  handed-clock = refl

  pub handed-input : (v : ℕ) → v ≢ 0 → v < I → (handed m g a).values v ≡ input_of a (v - 1)
  unfolding handed
  handed-input v d l = rw (ne_eqb v 0 d, lt-ltb v I l)

  pub handed-register : (v : ℕ) → v ≢ 0 → I ≤ v → v < I + R → (handed m g a).values v ≡ value_at g.value g.unknown (v - I)
  unfolding handed is_register
  handed-register v d l u = rw (ne_eqb v 0 d, le-ltb v I l, le-leb I v l, lt-ltb v (I + R) u)

  pub handed-past : (v : ℕ) → v ≢ 0 → I ≤ v → I + R ≤ v → (handed m g a).values v ≡ nowhere
  unfolding handed is_register
  handed-past v d l u = rw (ne_eqb v 0 d, le-ltb v I l, le-leb I v l, le-ltb v (I + R) u)

-- ---- the cells before the first cycle

module _ (m : Module Expr) (z : Sound m) (q : Plan) (h : Holds m q) (g : Registers) where
  abbrev J : ℕ
  J = m.scope.inputs

  abbrev K : ℕ
  K = m.scope.registers

  abbrev mark : ℕ → ℕ
  mark r = cell_of (value_at g.value g.unknown (0 + r))

  abbrev pub base : List ℕ
  base = replicate 4176 blank

  abbrev first : List ℕ
  first = put_from mark J K base

  abbrev pub clocked : List ℕ
  clocked = set first 0 1

  pub hand-are : hand_on q g base ≡ clocked
  unfolding hand_on
  hand-are =
      put_is 0 1 (put_values g.value g.unknown q.inputs 0 (at_most 32 q.registers) base) (omega arith)
      ∙ ap (λ (cs : List ℕ). set cs 0 1)
      (ap (λ (n : ℕ). put_values g.value g.unknown n 0 (at_most 32 q.registers) base) h.inputs
      ∙ ap (λ (n : ℕ). put_values g.value g.unknown J 0 (at_most 32 n) base) h.registers
      ∙ ap (λ (n : ℕ). put_values g.value g.unknown J 0 n base) (most-same 32 K z.registers-most)
      ∙ values-are g.value g.unknown J 0 K base)

  few : J + K ≤ 80
  few = omega (arith, z.inputs-most, z.registers-most)

  base-long : length base ≡ 4176
  base-long = length-replicate {A = ℕ} 4176 blank

  first-long : length first ≡ 4176
  first-long = put-length mark J base K few ∙ base-long

  pub hand-long : length clocked ≡ 4176
  hand-long = length-set first 0 1 ∙ first-long

  pub hand-clock : get_or clocked 0 0 ≡ 1
  hand-clock = get_or-set_same first 0 1 0 (omega (arith, first-long))

  pub hand-register : (r : ℕ) → r < K → get_or clocked (J + r) 0 ≡ cell_of (value_at g.value g.unknown r)
  hand-register r o =
      let e : 0 + r ≡ r = omega arith in
      get_or-set_other first 0 (J + r) 1 0 (λ e. omega (arith, z.inputs-some))
      ∙ put-at mark J base K few (omega (arith, base-long)) r o
      ∙ ap (λ (n : ℕ). cell_of (value_at g.value g.unknown n)) e

  pub hand-past : (v : ℕ) → J + K ≤ v → v < 4176 → get_or clocked v 0 ≡ blank
  hand-past v o l =
      get_or-set_other first 0 v 1 0 (λ e. omega (arith, z.inputs-some))
      ∙ put_other mark J base K few v (λ r u e. omega arith)
      ∙ filled_at 4176 v blank l

-- An input fits its width, and so 32 bits.
pub input-small : (m : Module Expr) → Sound m → (a : Inputs) → upper_inputs_fit m a ≡ true → (v : ℕ) → v < m.scope.inputs - 1 →
    small (input_of a v) ≡ true
unfolding upper_inputs_fit width_of
input-small m z a fit v o =
    let x = all-below (λ v. fits (get_or m.scope.widths (v + 1) 0) (input_of a v)) (m.scope.inputs - 1)
    (and_right (eqb (a.count + 1) m.scope.inputs)
    (all_below (m.scope.inputs - 1) (λ v. fits (get_or m.scope.widths (v + 1) 0) (input_of a v))) fit) v o in
    fits-small (get_or m.scope.widths (v + 1) 0) (input_of a v) (z.widths-most (v + 1) (omega (arith, z.variables))) x

-- ---- inputs put into any cells

module _ (m : Module Expr) (z : Sound m) (ns xs : List ℕ) (at : ℕ) (cs : List ℕ) (long : length cs ≡ 4176) where
  abbrev pub item : ℕ → ℕ
  item v = cell_of (value_at ns xs (at + v))

  abbrev pub fed : List ℕ
  fed = put_from item 1 (m.scope.inputs - 1) cs

  upper : 1 + (m.scope.inputs - 1) ≤ 80
  upper = omega (arith, z.inputs-most)

  pub fed-are : (q : Plan) → Holds m q → put_values ns xs 1 at (upper_of q) cs ≡ fed
  fed-are q h = values-are ns xs 1 at (upper_of q) cs ∙ ap (λ (n : ℕ). put_from item 1 n cs) (upper_is m z q h)

  pub fed-long : length fed ≡ 4176
  fed-long = put-length item 1 cs (m.scope.inputs - 1) upper ∙ long

  pub fed-clock : get_or fed 0 0 ≡ get_or cs 0 0
  fed-clock = put_other item 1 cs (m.scope.inputs - 1) upper 0 (λ v u e. omega arith)

  pub fed-input : (v : ℕ) → v < m.scope.inputs - 1 → get_or fed (1 + v) 0 ≡ item v
  fed-input v o = put-at item 1 cs (m.scope.inputs - 1) upper (omega (arith, long)) v o

  pub fed-past : (v : ℕ) → m.scope.inputs ≤ v → get_or fed v 0 ≡ get_or cs v 0
  fed-past v o = put_other item 1 cs (m.scope.inputs - 1) upper v (λ r u e. omega (arith, z.inputs-some))

-- ---- what they hold, where the cells held the clock and the registers

module _ (m : Module Expr) (z : Sound m) (g : Registers) (w : Whole g) (a : Inputs) (fit : upper_inputs_fit m a ≡ true)
    (ns xs : List ℕ) (at : ℕ) (items : (v : ℕ) → v < m.scope.inputs - 1 → input_of a v ≡ value_at ns xs (at + v))
    (cs : List ℕ) (long : length cs ≡ 4176) (clock : get_or cs 0 0 ≡ 1)
    (mine : (r : ℕ) → r < m.scope.registers → get_or cs (m.scope.inputs + r) 0 ≡ cell_of (value_at g.value g.unknown r))
  where
    abbrev ds : List ℕ
    ds = fed m z ns xs at cs long

    pub fed-value : (v : ℕ) → v < m.scope.inputs + m.scope.registers → cell_at ds v ≡ (handed m g a).values v
    unfolding cell_at
    fed-value v o = by (ℕ_discrete v 0) (dec_lt v m.scope.inputs)
      where
        by : Dec (v ≡ 0) → Dec (v < m.scope.inputs) → value_of (get_or ds v 0) ≡ (handed m g a).values v
        by (yes e) x =
            ap (λ (u : ℕ). value_of (get_or ds u 0)) e
            ∙ ap value_of (fed-clock m z ns xs at cs long ∙ clock)
            ∙ clock-value
            ∙ sym (ap (handed m g a).values e ∙ handed-clock m g a)
        by (no d) (yes x) =
            let e : 1 + (v - 1) ≡ v = omega arith in
            let u : v - 1 < m.scope.inputs - 1 = omega arith in
            ap (λ (u : ℕ). value_of (get_or ds u 0)) (sym e)
            ∙ ap value_of (fed-input m z ns xs at cs long (v - 1) u)
            ∙ ap (λ (b : Value). value_of (cell_of b)) (sym (items (v - 1) u))
            ∙ value_cell (input_of a (v - 1)) (input-small m z a fit (v - 1) u)
            ∙ sym (handed-input m g a v d x)
        by (no d) (no x) =
            let e : m.scope.inputs + (v - m.scope.inputs) ≡ v = omega arith in
            ap value_of (fed-past m z ns xs at cs long v (omega arith))
            ∙ ap (λ (u : ℕ). value_of (get_or cs u 0)) (sym e)
            ∙ ap value_of (mine (v - m.scope.inputs) (omega arith))
            ∙ value_cell (value_at g.value g.unknown (v - m.scope.inputs)) (w.words (v - m.scope.inputs))
            ∙ sym (handed-register m g a v d (omega arith) o)

-- ---- the cells before a single cycle

module _ (m : Module Expr) (z : Sound m) (q : Plan) (h : Holds m q) (g : Registers) (w : Whole g) (a : Inputs)
    (fit : upper_inputs_fit m a ≡ true) where
  abbrev start : List ℕ
  start = clocked m z q h g

  abbrev cells : List ℕ
  cells = fed m z a.value a.unknown 0 start (hand-long m z q h g)

  pub cells_are : put_values a.value a.unknown 1 0 (upper_of q) (hand_on q g (base m z q h g)) ≡ cells
  cells_are =
      ap (put_values a.value a.unknown 1 0 (upper_of q)) (hand-are m z q h g)
      ∙ fed-are m z a.value a.unknown 0 start (hand-long m z q h g) q h

  pub cells-long : length cells ≡ 4176
  cells-long = fed-long m z a.value a.unknown 0 start (hand-long m z q h g)

  pub register-cell : (r : ℕ) → r < m.scope.registers → get_or cells (m.scope.inputs + r) 0 ≡ cell_of (value_at g.value g.unknown r)
  register-cell r o =
      fed-past m z a.value a.unknown 0 start (hand-long m z q h g) (m.scope.inputs + r) (omega arith) ∙ hand-register m z q h g r o

  pub cells-value : (v : ℕ) → v < variables m → cell_at cells v ≡ (handed m g a).values v
  unfolding cell_at variables input_of
  cells-value v o = by (dec_lt v (m.scope.inputs + m.scope.registers))
    where
      by : Dec (v < m.scope.inputs + m.scope.registers) → value_of (get_or cells v 0) ≡ (handed m g a).values v
      by (yes u) =
          fed-value m z g w a fit a.value a.unknown 0
          (λ v u. let e : 0 + v ≡ v = omega arith in ap (value_at a.value a.unknown) (sym e)) start (hand-long m z q h g)
          (hand-clock m z q h g) (hand-register m z q h g) v u
      by (no d) =
          ap value_of
          (fed-past m z a.value a.unknown 0 start (hand-long m z q h g) v (omega arith)
          ∙ hand-past m z q h g v (omega arith) (omega (arith, z.variables, z.inputs-most, z.registers-most, z.wires-most)))
          ∙ blank-value
          ∙ sym (handed-past m g a v (λ e. omega (arith, z.inputs-some)) (omega arith) (omega arith))
