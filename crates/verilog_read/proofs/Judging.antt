-- A sheet judged and copied is what `verilog_source` has of it. Assumes nothing.
use mathlib.Core.Path.{◌≡◌, refl, sym, ◌∙◌, ap}
use mathlib.Core.Bool.{Bool, true, false}
use mathlib.Core.List.{List, [], ◌∷◌, ◌++◌, append-nil}
use Prim.Native.Nat.{ℕ, zero, suc, ◌+◌, ◌-◌, ◌<◌, ◌≤◌}
use native.Mathlib.Nat.{sub-zero}
use native.Mathlib.Numerals.{add-one}
use native.Mathlib.Omega.{arith}
use borrow.Author.Tests.{ne_eqb, leb-true, leb-false}
use lib.Dec.{leb}
use lib.ListN.{length, get_or, replicate, drop}
use lib.Seq.{drop-length}
use Rattle.sheet.specs.Reading as Sheet
use Rattle.sheet.specs.Expression.{located}
use Rattle.sheet.specs.Module as Mod
use Rattle.sheet.specs.Module.{read_sheet, read}
use Rattle.sheet.specs.Answers.{sheet_answer}
use Rattle.sheet.proofs.Numbers.{numbered-no, located-numbered, sheet-numbered}
use Rattle.sheet.proofs.Closed.{sheet-long}
use Rattle.sheet.proofs.Trees.{map_res, trees, read-located}
use Rattle.verilog_scan.specs.Scan.{stored, overwritten}
use Rattle.verilog_scan.proofs.Filling.{stored-front}
use Rattle.verilog_source.specs.Compiled.{Compiled, refused, accepted, judged}
use Rattle.verilog_read.specs.Read.{gave, padded, copied, accepted_in, answered, judged_in}

-- ---- zeros behind a sheet

padded-tail : (b : ℕ) (s : List ℕ) (n i : ℕ) → padded (b ∷ s) n (i + 1) ≡ padded s n i
unfolding padded
padded-tail b s zero i = refl
padded-tail b s (suc n) i =
    ap (λ k. get_or (b ∷ s) k 0 ∷ padded (b ∷ s) n (i + 1 + 1)) (add-one i) ∙ ap (λ l. get_or s i 0 ∷ l) (padded-tail b s n (i + 1))

padded-zeros : (n i : ℕ) → padded [] n i ≡ replicate n 0
unfolding padded
padded-zeros zero i = refl
padded-zeros (suc n) i = ap (λ l. 0 ∷ l) (padded-zeros n (i + 1))

pub padded-all : (s : List ℕ) (n : ℕ) → length s ≤ n → padded s n 0 ≡ s ++ replicate (n - length s) 0
unfolding padded
padded-all [] n h = padded-zeros n 0 ∙ ap (λ k. replicate k 0) (sym (sub-zero n))
padded-all (b ∷ s) zero h = absurd (omega arith)
padded-all (b ∷ s) (suc n) h =
    let k : n - length s ≡ suc n - suc (length s) = omega arith in
    ap (λ l. b ∷ l) (padded-tail b s n 0 ∙ padded-all s n (omega arith) ∙ ap (λ m. s ++ replicate m 0) k)

padded-length : (s : List ℕ) (n i : ℕ) → length (padded s n i) ≡ n
unfolding padded
padded-length s zero i = refl
padded-length s (suc n) i = ap suc (padded-length s n (i + 1))

pub copied_is : (s lent : List ℕ) → length s ≤ length lent → copied s lent ≡ s ++ replicate (length lent - length s) 0
unfolding copied stored overwritten
copied_is s lent h =
    stored-front (padded s (length lent) 0) lent (omega (arith, padded-length s (length lent) 0))
    ∙ ap (λ k. padded s (length lent) 0 ++ drop k lent) (padded-length s (length lent) 0)
    ∙ ap (λ l. padded s (length lent) 0 ++ l) (drop-length lent)
    ∙ append-nil (padded s (length lent) 0)
    ∙ padded-all s (length lent) h

-- ---- judged

-- A sheet that is read has at most 8,192 bytes.
sheet-few : (s : List ℕ) {r : Mod.Sheet ℕ} → read_sheet (located s) s ≡ Sheet.ok r → length s ≤ 8192
sheet-few s {r} e = by (leb (length s) 8192) refl
  where
    by : (t : Bool) → leb (length s) 8192 ≡ t → length s ≤ 8192
    by true f = omega (arith, leb-true (length s) 8192 f)
    by false f =
        let l : 8192 < length s = omega (arith, leb-false (length s) 8192 f) in
        let z : ◌≡◌ {A = ℕ} 0 1 = cc (sheet-long s l, e) in
        omega arith

pub judged-is : (s lent : List ℕ) → length lent ≡ 8192 → judged_in s lent ≡ judged lent s (read s)
unfolding judged_in answered sheet_answer map_res judged accepted_in accepted
judged-is s lent h = by (read_sheet (located s) s) refl ∙ sym (ap (judged lent s) (read-located s))
  where
    by : (x : Sheet.Res (Mod.Sheet ℕ)) → read_sheet (located s) s ≡ x
        → answered s (sheet_answer (read_sheet (located s) s)) lent
        ≡ judged lent s (map_res (λ r. (trees s r).contents) (read_sheet (located s) s))
    by (Sheet.ok r) e =
        let few : length s ≤ length lent = omega (arith, sheet-few s e) in
        rw e
        (ap (λ l. gave (record { number = 0; place = 0; length = length s }) l)
        (copied_is s lent few ∙ ap (λ n. s ++ replicate (n - length s) 0) h))
    by (Sheet.no n p) e =
        let many = numbered-no (sheet-numbered (located s) (located-numbered s) s) e in
        rw (e, ne_eqb n 0 (λ z. omega (arith, many.0, z)))
