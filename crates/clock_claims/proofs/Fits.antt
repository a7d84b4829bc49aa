-- What is handed fits its widths, and so does what the rise leaves. Assumes nothing.
use mathlib.Core.Path.{◌≡◌, refl, ap, ◌∙◌}
use mathlib.Core.Logic.{◌≢◌}
use mathlib.Core.Bool.{Bool, true, false}
use mathlib.Core.List.{List, []}
use Prim.Native.Nat.{ℕ, zero, suc, ◌+◌, ◌-◌, ◌≤◌, ◌<◌}
use native.Mathlib.Decide.{ℕ_discrete, dec_lt}
use native.Mathlib.Omega.{arith}
use borrow.Author.Tests.{ltb-true, eqb-true}
use lib.Dec.{ltb, eqb}
use lib.Pow.{pow-lt}
use lib.ListN.{length, get_or}
use Rattle.values.specs.Values.{pick, fits}
use Rattle.values.specs.Planes.{value_at}
use Rattle.values.proofs.Values.{fits-known}
use Rattle.sheet.specs.Expression.{Expr}
use Rattle.sheet.specs.Module.{Module}
use Rattle.state.specs.Rows.{list_of}
use Rattle.state.proofs.Rows.{length-list_of}
use Rattle.soundness.specs.Soundness.{Fitting, Sound}
use Rattle.events.specs.declared.Inputs.{Inputs}
use Rattle.events.specs.Cycle.{code_of, instr_at, is_wait, all_below}
use Rattle.events.specs.Calls.{width_of, input_of}
use Rattle.events.proofs.Cycle.{and_left, and_right, all-below}
use Rattle.nextstate.specs.declared.Registers.{Registers}
use Rattle.nextstate.specs.Rules.{writes}
use Rattle.nextstate.specs.Nodes.{node_at}
use Rattle.nextstate.specs.Extraction.{Tables}
use Rattle.nextstate.specs.Book.{Book, entry, worth, taken, rise}
use Rattle.nextstate.specs.CycleRun.{widths_from, register_fits, tables_in, registers_fit, upper_inputs_fit, handed}
use Rattle.clock_claims.proofs.Worth.{worth-fits}
use Rattle.clock_steps.specs.Claims.{Lent}
use Rattle.clock_steps.proofs.Entries.{nodes-fit, register-fits}
use Rattle.clock_claims.proofs.Handing.{handed-clock, handed-input, handed-register}

module _ (m : Module Expr) (z : Sound m) (g : Registers) (a : Inputs) (right : registers_fit m g ≡ true)
    (fit : upper_inputs_fit m a ≡ true) where
  abbrev I : ℕ
  I = m.scope.inputs

  abbrev R : ℕ
  R = m.scope.registers

  abbrev ws : List ℕ
  ws = m.scope.widths

  input : (v : ℕ) → v ≢ 0 → v < I → fits (get_or ws v 0) (input_of a (v - 1)) ≡ true
  unfolding width_of upper_inputs_fit
  input v d o =
      let e : v - 1 + 1 ≡ v = omega arith in
      let k : v - 1 < I - 1 = omega arith in
      rw e at
      (all-below (λ v. fits (get_or ws (v + 1) 0) (input_of a v)) (I - 1)
      (and_right (eqb (a.count + 1) I) (all_below (I - 1) (λ v. fits (get_or ws (v + 1) 0) (input_of a v))) fit) (v - 1) k)

  register : (v : ℕ) → I ≤ v → v < I + R → fits (get_or ws v 0) (value_at g.value g.unknown (v - I)) ≡ true
  unfolding width_of registers_fit
  register v d o =
      let e : I + (v - I) ≡ v = omega arith in
      let k : v - I < R = omega arith in
      rw e at
      (all-below (λ r. fits (get_or ws (I + r) 0) (value_at g.value g.unknown r)) R
      (and_left (all_below R (λ r. fits (get_or ws (I + r) 0) (value_at g.value g.unknown r)))
      (all_below (length m.threads) (λ i. is_wait (instr_at (code_of m i) (get_or g.places i 0)))) right) (v - I) k)

  pub handed-fits : (v : ℕ) → v < I + R → fits (width_of m v) ((handed m g a).values v) ≡ true
  unfolding width_of
  handed-fits v l = by (ℕ_discrete v 0) (dec_lt v I)
    where
      by : Dec (v ≡ 0) → Dec (v < I) → fits (get_or ws v 0) ((handed m g a).values v) ≡ true
      by (yes e) d =
          let b = z.widths-some v (omega (arith, z.variables)) in
          let p = pow-lt {i = 0} {j = get_or ws v 0} b in
          ap (λ (u : ℕ). fits (get_or ws v 0) ((handed m g a).values u)) e ∙ rw (handed-clock m g a) (fits-known (get_or ws v 0) 1 p)
      by (no d) (yes l) = rw (handed-input m g a v d l) (input v d l)
      by (no d) (no k) = rw (handed-register m g a v d (omega arith) l) (register v (omega arith) l)

  pub first-waits : (i : ℕ) → i < length m.threads → is_wait (instr_at (code_of m i) (get_or g.places i 0)) ≡ true
  unfolding registers_fit
  first-waits i o =
      all-below (λ i. is_wait (instr_at (code_of m i) (get_or g.places i 0))) (length m.threads)
      (and_right (all_below R (λ r. fits (width_of m (I + r)) (value_at g.value g.unknown r)))
      (all_below (length m.threads) (λ i. is_wait (instr_at (code_of m i) (get_or g.places i 0)))) right)
      i o

-- ---- the rise

module _ (m : Module Expr) (ns us rs written : List ℕ) (l : Lent m ns us rs written) (b : Book) (q : Fitting m.scope b.values)
    (waits : (i : ℕ) → i < length m.threads → is_wait (instr_at (code_of m i) (b.places i)) ≡ true) where
  abbrev T : Tables
  T = tables_in ns rs

  written-fits : (i u : ℕ) → i < length m.threads → writes m i u ≡ true →
      fits (get_or m.scope.widths u 0) (worth m T b.values (entry m T i (b.places i) (u - m.scope.inputs))) ≡ true
  unfolding register_fits width_of tables_in
  written-fits i u o e =
      let x = l.only i u o e in
      let r = u - m.scope.inputs in
      let same : m.scope.inputs + r ≡ u = omega (arith, x.0) in
      let below : r < m.scope.registers = omega (arith, x.0, x.1) in
      let on : writes m i (m.scope.inputs + r) ≡ true = rw same e in
      let n = entry m T i (b.places i) r in
      let f = register-fits m ns us rs written l i (b.places i) o (waits i o) r below on in
      let wide = eqb (get_or (widths_from m (list_of 4096 (node_at ns)) []) n 0) (get_or m.scope.widths (m.scope.inputs + r) 0) in
      let inside = and_left (ltb n (length (list_of 4096 (node_at ns)))) wide f in
      let w =
      eqb-true (get_or (widths_from m (list_of 4096 (node_at ns)) []) n 0) (get_or m.scope.widths (m.scope.inputs + r) 0)
      (and_right (ltb n (length (list_of 4096 (node_at ns)))) wide f) in
      let k =
      worth-fits m ns rs b.values q (nodes-fit m ns us rs written l) n
      (omega (arith, ltb-true n (length (list_of 4096 (node_at ns))) inside, length-list_of (node_at ns) 4096)) in
      rw (w, same) at k

  taken-fits : (n u : ℕ) → n ≤ length m.threads → u < length m.scope.widths →
      fits (get_or m.scope.widths u 0) (taken m T b n u) ≡ true
  unfolding taken
  taken-fits zero u h o = q u o
  taken-fits (suc i) u h o = by (writes m i u) refl (taken-fits i u (omega arith) o)
    where
      by :
          (t : Bool) → writes m i u ≡ t → fits (get_or m.scope.widths u 0) (taken m T b i u) ≡ true →
          fits (get_or m.scope.widths u 0)
          (pick t (worth m T b.values (entry m T i (b.places i) (u - m.scope.inputs))) (taken m T b i u)) ≡ true
      by true e x = written-fits i u h e
      by false e x = x

  pub rise-fits : Fitting m.scope (rise m T b).values
  unfolding rise
  rise-fits u o = taken-fits (length m.threads) u (omega arith) o
