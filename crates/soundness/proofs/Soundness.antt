-- Every module that was read is sound. Assumes nothing.
use mathlib.Core.Path.{◌≡◌, refl}
use mathlib.Core.List.{List, []}
use Prim.Native.Nat.{ℕ, ◌+◌}
use lib.ListN.{length}
use lib.Dec.{leb, eqb}
use Rattle.sheet.specs.Reading.{ok}
use Rattle.sheet.specs.Expression.{Expr, Scope, tree}
use Rattle.sheet.specs.Functions.{read_functions}
use Rattle.sheet.specs.Module.{Module, Head, with_functions, read_head, read_wires, read_threads, Sheet, whole_sheet, read_sheet, read}
use Rattle.sheet.proofs.Reading.{ok-injective, bind_ok, check-ok}
use Rattle.sheet.proofs.Closed.{whole}
use Rattle.evaluation.proofs.Functions.{functions-typed, none-typed}
use Rattle.soundness.specs.Soundness.{Sound}
use Rattle.soundness.proofs.Module.{with-ok, SoundHead, head-sound, WiresSound, wires-sound, ThreadsSound, threads-sound}

-- ---- read_sheet

-- A head, and the wires and threads that it counts.
sound-of : (h : Head) (m : Module Expr) → m.scope.inputs ≡ h.scope.inputs → m.scope.registers ≡ h.scope.registers →
    m.scope.widths ≡ h.scope.widths → SoundHead h →
    (length m.wires ≡ h.wires) × WiresSound m.scope (m.scope.inputs + m.scope.registers) m.wires →
    (length m.threads ≡ h.threads) × ThreadsSound m.scope m.threads → Sound m
sound-of h m e f g a x y =
    let k = x.0 in
    let l = y.0 in
    record {
      inputs-some = rw e a.inputs-some;
      inputs-most = rw e a.inputs-most;
      registers-some = rw f a.registers-some;
      registers-most = rw f a.registers-most;
      wires-most = rw k a.wires-most;
      threads-some = rw l a.threads-some;
      threads-most = rw l a.threads-most;
      variables = rw (k, e, f, g) a.variables;
      widths-some = λ v b. rw g (a.widths v (rw g at b)).0;
      widths-most = λ v b. rw g (a.widths v (rw g at b)).1;
      wire = x.1;
      code = y.1;
    }

pub sheet-sound : (s : List ℕ) {r : Sheet Expr} → read_sheet (tree s) s ≡ ok r → Sound r.contents
unfolding whole_sheet
sheet-sound s e =
    let l = check-ok (leb (length s) 8192) 1 8192 _ (whole (tree s) s e) in
    with-ok (read_head s) _ l.1 (λ h x e₁.
    with-ok (read_functions h.scope.declared h.scope.declared [] s h.next) _ e₁ (λ fs f e₂.
    let t = functions-typed h.scope.declared h.scope.declared [] s h.next none-typed f in
    let c : Scope = with_functions h.scope fs.functions in
    with-ok (read_wires (tree s) c s h.wires (h.scope.inputs + h.scope.registers) fs.next) _ e₂ (λ es y e₃.
    with-ok (read_threads (tree s) c s h.threads es.next) _ e₃ (λ ts z e₄.
    let k = check-ok (eqb ts.next (length s)) 10 ts.next _ e₄ in
    rw (← ok-injective k.1)
    (sound-of h _ refl refl refl (head-sound s x) (wires-sound c s h.wires _ fs.next t y)
    (threads-sound c s h.threads es.next t z))))))

-- ---- THE THEOREM: what is read is sound

pub sound : (s : List ℕ) {m : Module Expr} → read s ≡ ok m → Sound m
unfolding read
sound s h =
    let r = bind_ok (read_sheet (tree s) s) _ h in
    rw (← ok-injective r.2) (sheet-sound s r.1)
