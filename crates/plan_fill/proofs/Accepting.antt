-- What is known of a sheet that was accepted: its head's bytes, its code, and the room for its nodes. Assumes nothing.
use mathlib.Core.Path.{◌≡◌, sym, ap, ◌∙◌, subst}
use mathlib.Core.Bool.{Bool, true, false}
use mathlib.Core.List.{List, ◌∷◌}
use Prim.Native.Nat.{ℕ, zero, suc, ◌+◌, ◌-◌, ◌≤◌, ◌<◌}
use native.Mathlib.Nat.{not-suc-le-zero, le_of_suc-le-suc}
use native.Mathlib.Omega.{arith}
use lib.Dec.{ltb}
use lib.ListN.{length, get_or, take, drop, length-take, length-drop}
use lib.Seq.{get_or-take, get_or-drop}
use Rattle.values.specs.Values.{pick}
use Rattle.sheet.specs.Reading.{ok, within}
use Rattle.sheet.specs.Expression.{Scope, located, expr_at}
use Rattle.sheet.specs.Statement.{map_stmt}
use Rattle.sheet.specs.Functions.{read_widths}
use Rattle.sheet.specs.Module.{inputs_of, first_at, function_count, widths_at, Head, read_head, Sheet, read_sheet}
use Rattle.sheet.proofs.Reading.{bind_ok, ok-injective, within-ok}
use Rattle.sheet.proofs.Sections.{wires-count, headed}
use Rattle.sheet.proofs.Closed.{parts}
use Rattle.pseudocode.specs.Translation.{thread_code}
use Rattle.plan_exprs.proofs.Flatten.{count}
use Rattle.plan_fill.proofs.Kept.{sum_over}
use Rattle.plan_fill.proofs.Room.{total, wires-room, threads-room}

-- ---- widths: "one width byte for each variable (1 to 32)"

widths-narrow : (n : ℕ) (s : List ℕ) (at : ℕ) {ws : List ℕ} → read_widths n s at ≡ ok ws → (v : ℕ) → v < length ws → get_or ws v 0 ≤ 32
unfolding read_widths
widths-narrow zero s at h v = rw (← ok-injective h) (λ l. absurd (not-suc-le-zero l))
widths-narrow (suc n) s at h v =
    let w = bind_ok (within 1 32 4 s at) _ h in
    let ws = bind_ok (read_widths n s (at + 1)) _ w.2 in
    let x = within-ok 1 32 4 s at w.1 in
    rw (← ok-injective ws.2) (by w.0 ws.0 x.most (widths-narrow n s (at + 1) ws.1) v)
  where
    by : (a : ℕ) (bs : List ℕ) → a ≤ 32 → ((j : ℕ) → j < length bs → get_or bs j 0 ≤ 32)
        → (j : ℕ) → j < length (a ∷ bs) → get_or (a ∷ bs) j 0 ≤ 32
    by a bs x y zero l = x
    by a bs x y (suc j) l = y j (le_of_suc-le-suc l)

head-narrow : (s : List ℕ) {h : Head} → read_head s ≡ ok h → (v : ℕ) → v < length h.scope.widths → get_or h.scope.widths v 0 ≤ 32
unfolding read_head
head-narrow s e v =
    let b = bind_ok (first_at s 0) _ e in
    let r = bind_ok (within 1 32 3 s 1) _ b.2 in
    let w = bind_ok (within 0 32 3 s 2) _ r.2 in
    let t = bind_ok (within 1 8 3 s 3) _ w.2 in
    let n = bind_ok (function_count b.0 s 4) _ t.2 in
    let c = bind_ok (within 1 1 4 s (widths_at n.0)) _ n.2 in
    let m = inputs_of b.0 + r.0 + w.0 - 1 in
    let ws = bind_ok (read_widths m s (widths_at n.0 + 1)) _ c.2 in
    let x = within-ok 1 1 4 s (widths_at n.0) c.1 in
    rw (← ok-injective ws.2) (by c.0 ws.0 x.most (widths-narrow m s (widths_at n.0 + 1) ws.1) v)
  where
    by : (a : ℕ) (bs : List ℕ) → a ≤ 1 → ((j : ℕ) → j < length bs → get_or bs j 0 ≤ 32)
        → (j : ℕ) → j < length (a ∷ bs) → get_or (a ∷ bs) j 0 ≤ 32
    by a bs x y zero l = omega arith
    by a bs x y (suc j) l = y j (le_of_suc-le-suc l)

-- ---- the head's widths are the bytes after the counts

pub record Head-bytes (s : List ℕ) (c : Scope) (wires : ℕ) : Type 0 where
  pub inputs : c.inputs ≤ 16
  pub registers : c.registers ≤ 32
  pub long : length c.widths ≡ c.inputs + c.registers + wires
  pub same : (v : ℕ) → v < length c.widths → get_or s (widths_at c.declared + v) 0 ≡ get_or c.widths v 0
  pub narrow : (v : ℕ) → v < length c.widths → get_or c.widths v 0 ≤ 32

head_bytes : (s : List ℕ) {h : Head} → read_head s ≡ ok h → Head-bytes s h.scope h.wires
head_bytes s {h} e =
    let x = headed s e in
    let n = h.scope.inputs + h.scope.registers + h.wires in
    let at = widths_at h.scope.declared in
    let y : h.scope.widths ≡ take n (drop at s) = ap (λ (g : Head). g.scope.widths) x.same in
    let i = x.inside in
    let l : length h.scope.widths ≡ n = ap length y ∙ length-take n (drop at s) ∙ omega (arith, length-drop at s) in
    record {
      inputs = x.inputs-most;
      registers = x.registers-most;
      long = l;
      same = λ v u. sym (get_or-drop at s v 0) ∙ sym (get_or-take n (drop at s) v 0 (omega arith)) ∙ ap (λ (ws : List ℕ). get_or ws v 0) (sym y);
      narrow = head-narrow s e;
    }

bytes_count : (s : List ℕ) (c : Scope) (a b : ℕ) → a ≡ b → Head-bytes s c a → Head-bytes s c b
bytes_count s c a b e = subst (Head-bytes s c) e

-- The widths stand behind four counts or five.
pub counts-first : (n : ℕ) → (4 ≤ widths_at n) × (widths_at n ≤ 5)
unfolding widths_at
counts-first n = by (ltb 0 n)
  where
    by : (t : Bool) → (4 ≤ pick t 5 4) × (pick t 5 4 ≤ 5)
    by true = (omega arith, omega arith)
    by false = (omega arith, omega arith)

-- ---- an accepted sheet

pub record Sheeted (s : List ℕ) (r : Sheet ℕ) : Type 0 where
  pub short : length s ≤ 8192
  pub bytes : Head-bytes s r.contents.scope (length r.contents.wires)
  pub room : 80 + sum_over (λ p. count (expr_at s r.contents.scope p)) r.contents.wires
      + sum_over (λ a. total (thread_code (map_stmt (expr_at s r.contents.scope) a))) r.contents.threads ≤ 4175

pub sheeted : (s : List ℕ) (r : Sheet ℕ) → read_sheet (located s) s ≡ ok r → Sheeted s r
sheeted s r h =
    let p = parts (located s) s h in
    let hd = p.head in
    let c = hd.scope in
    let short = p.short in
    let end = p.ended in
    let x = headed s p.head-read in
    let y = head_bytes s p.head-read in
    let n = ap (λ (g : Head). g.next) x.same in
    let f = (counts-first c.declared).0 in
    let w = wires-count (located s) c s hd.wires (c.inputs + c.registers) hd.next p.row_read in
    let a = wires-room c s hd.wires (c.inputs + c.registers) hd.next p.row_read in
    let b = threads-room c s hd.threads p.row.next p.rest_read in
    rw p.made
    (record {
      short = short;
      bytes = bytes_count s c hd.wires (length p.row.items) w y;
      room = omega arith;
    })
