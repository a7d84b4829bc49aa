-- The heads of a sheet that is read stand over their own rows. Assumes nothing.
use mathlib.Core.Path.{◌≡◌, refl, sym, ap, ◌∙◌, subst}
use mathlib.Core.Bool.{Bool, true, false}
use mathlib.Core.List.{List, [], ◌∷◌, ◌++◌, append_assoc, append-nil}
use Prim.Native.Nat.{ℕ, zero, suc, ◌+◌, ◌*◌, ◌≤◌, ◌<◌}
use native.Mathlib.Nat.{le_refl, add-zero, zero-add}
use native.Mathlib.Omega.{arith}
use borrow.Author.Tests.{lt-ltb, ltb-true, ltb-false}
use lib.Dec.{ltb}
use lib.ListN.{length, get_or, set, length-append, length-set}
use lib.Seq.{get_or_at, get_or-set_same, get_or-set_other}
use Rattle.values.specs.Values.{pick}
use Rattle.sheet.specs.Reading.{ok}
use Rattle.sheet.specs.Expression.{Expr, located}
use Rattle.sheet.specs.Module.{Module, Sheet, read_sheet, read}
use Rattle.sheet.specs.Answers.{definitions_of, layout_of}
use Rattle.pseudocode.specs.declared.Instruction.{Instruction}
use Rattle.pseudocode.specs.declared.Instruction.TheVariants.{Wait, Act}
use Rattle.pseudocode.specs.Translation.{Instr}
use Rattle.pseudocode.specs.Fetching.{fetch_at}
use Rattle.pseudocode.specs.Compiling.{compile_at}
use Rattle.soundness.specs.Soundness.{Sound}
use Rattle.soundness.proofs.Soundness.{sound}
use Rattle.events.specs.Cycle.{code_of, instr_at, is_wait}
use Rattle.nextstate.specs.Rules.{waits_below}
use Rattle.nextstate.specs.Extraction.{Tables}
use Rattle.nextstate.specs.Book.{row_of}
use Rattle.tables.specs.Holding.{Holding, Fetched, a-wait, a-set, a-later, a-go, an-ifnot}
use Rattle.tables.proofs.Holding.{holding-filled}
use Rattle.rules.specs.Judging.{size_of}
use Rattle.rules.proofs.Writing.{size-of}
use Rattle.rules.proofs.Expressions.{Expressions, expressed}
use Rattle.rules.proofs.Rules.{size_of-at, threads-same, low, waits-in, waits-law}
use Rattle.overview.specs.Heads.{Noted, noted, note, notes, head_of, heads_in, heads_of}
use Rattle.overview.specs.Claims.{headed, Headed, HeadsStand}
use Rattle.overview.proofs.Noting.{notes-count, in-length, of_length}

-- ---- a list, of which another is the beginning

record Begins (a l : List ℕ) : Type 0 where
  pub rest : List ℕ
  pub split : l ≡ a ++ rest

begins-more : {a l : List ℕ} (b : List ℕ) → Begins a l → Begins a (l ++ b)
begins-more {a} {l} b h =
    record { rest = h.rest ++ b; split = ap (λ (y : List ℕ). y ++ b) h.split ∙ append_assoc a h.rest b }

begins-same : {a l : List ℕ} → l ≡ a → Begins a l
begins-same {a} {l} e = record { rest = []; split = e ∙ sym (append-nil a) }

-- ---- those of the places and the threads before come first

module _ (s code : List ℕ) where
  in-begins : (i p n : ℕ) → p ≤ n → Begins (heads_in s code i p) (heads_in s code i n)
  unfolding heads_in
  in-begins i p zero l =
      let e : 0 ≡ p = omega arith in
      begins-same (ap (heads_in s code i) e)
  in-begins i p (suc n) l = by (ltb n p) refl (λ k. in-begins i p n k)
    where
      by : (t : Bool) → ltb n p ≡ t → (p ≤ n → Begins (heads_in s code i p) (heads_in s code i n))
          → Begins (heads_in s code i p) (heads_in s code i (suc n))
      by true q more =
          let e : suc n ≡ p = omega (arith, ltb-true n p q) in
          begins-same (ap (heads_in s code i) e)
      by false q more = begins-more _ (more (ltb-false n p q))

  of-begins : (sizes : List ℕ) (i n : ℕ) → i ≤ n → Begins (heads_of s code sizes i) (heads_of s code sizes n)
  unfolding heads_of
  of-begins sizes i zero l =
      let e : 0 ≡ i = omega arith in
      begins-same (ap (heads_of s code sizes) e)
  of-begins sizes i (suc n) l = by (ltb n i) refl (λ k. of-begins sizes i n k)
    where
      by : (t : Bool) → ltb n i ≡ t → (i ≤ n → Begins (heads_of s code sizes i) (heads_of s code sizes n))
          → Begins (heads_of s code sizes i) (heads_of s code sizes (suc n))
      by true q more =
          let e : suc n ≡ i = omega (arith, ltb-true n i q) in
          begins-same (ap (heads_of s code sizes) e)
      by false q more = begins-more _ (more (ltb-false n i q))

  -- A head stands behind those of the threads before, and of the places before in its own.
  behind : (sizes : List ℕ) (i p n h : ℕ) → i < n → p < size_of sizes i → head_of (fetch_at s code i p) i p ≡ h ∷ []
      → Begins ((heads_of s code sizes i ++ heads_in s code i p) ++ (h ∷ [])) (heads_of s code sizes n)
  unfolding heads_in heads_of
  behind sizes i p n h l k e =
      let x = of-begins sizes (suc i) n l in
      let y = in-begins i (suc p) (size_of sizes i) k in
      let a = y.split ∙ ap (λ (z : List ℕ). (heads_in s code i p ++ z) ++ y.rest) e in
      record {
        rest = y.rest ++ x.rest;
        split = x.split ∙ ap (λ (z : List ℕ). (heads_of s code sizes i ++ z) ++ x.rest) a ∙ simp append_assoc;
      }

  pub at_own : (sizes : List ℕ) (i p n h : ℕ) → i < n → p < size_of sizes i → head_of (fetch_at s code i p) i p ≡ h ∷ []
      → get_or (heads_of s code sizes n) (length (heads_of s code sizes i) + length (heads_in s code i p)) 0 ≡ h
  at_own sizes i p n h l k e =
      let x = behind sizes i p n h l k e in
      let before = heads_of s code sizes i ++ heads_in s code i p in
      ap (λ (z : List ℕ). get_or z (length (heads_of s code sizes i) + length (heads_in s code i p)) 0)
      (x.split ∙ append_assoc before (h ∷ []) x.rest)
      ∙ get_or_at before h x.rest 0 _ (length-append (heads_of s code sizes i) (heads_in s code i p))

  -- There are more than stand before it.
  pub own_below : (sizes : List ℕ) (i p n h : ℕ) → i < n → p < size_of sizes i → head_of (fetch_at s code i p) i p ≡ h ∷ []
      → length (heads_of s code sizes i) + length (heads_in s code i p) < length (heads_of s code sizes n)
  own_below sizes i p n h l k e =
      let x = behind sizes i p n h l k e in
      let before = heads_of s code sizes i ++ heads_in s code i p in
      omega (
        arith,
        ap length x.split,
        length-append (before ++ (h ∷ [])) x.rest,
        length-append before (h ∷ []),
        length-append (heads_of s code sizes i) (heads_in s code i p),
      )

-- ---- what is noted stands in the table

kept : (l hs : List ℕ) (k j : ℕ) → j < k → get_or (notes (noted hs k) l).heads j 0 ≡ get_or hs j 0
unfolding notes note
kept [] hs k j o = refl
kept (x ∷ l) hs k j o = kept l (pick (ltb k 32) (set hs k x) hs) (k + 1) j (omega arith) ∙ by (ltb k 32)
  where
    by : (t : Bool) → get_or (pick t (set hs k x) hs) j 0 ≡ get_or hs j 0
    by true = get_or-set_other hs k j x 0 (λ e. omega arith)
    by false = refl

note_step : (x : ℕ) (l hs : List ℕ) (k : ℕ) → k < 32 → notes (noted hs k) (x ∷ l) ≡ notes (noted (set hs k x) (k + 1)) l
unfolding notes note
note_step x l hs k o = simp (lt-ltb k 32 o)

stored : (l hs : List ℕ) (k j : ℕ) → length hs ≡ 32 → j < length l → k + j < 32
    → get_or (notes (noted hs k) l).heads (k + j) 0 ≡ get_or l j 0
stored [] hs k j e o r = omega arith
stored (x ∷ l) hs k zero e o r =
    let first : k < 32 = omega arith in
    rw (note_step x l hs k first, add-zero k)
    (kept l (set hs k x) (k + 1) k (omega arith) ∙ get_or-set_same hs k x 0 (omega arith))
stored (x ∷ l) hs k (suc j) e o r =
    let first : k < 32 = omega arith in
    let next : k + suc j ≡ (k + 1) + j = omega arith in
    rw (note_step x l hs k first, next)
    (stored l (set hs k x) (k + 1) j (length-set hs k x ∙ e) (omega arith) (omega arith))

-- ---- a sheet that is read

head-fetched : {s ws : List ℕ} {x : Instr Expr} {y : Instruction} → Fetched s ws x y → is_wait x ≡ true → (i p : ℕ)
    → head_of y i p ≡ (256 * i + p) ∷ []
unfolding head_of is_wait
head-fetched (a-wait h) e i p = refl
head-fetched (a-set q) e i p = cc
head-fetched (a-later q) e i p = cc
head-fetched a-go e i p = cc
head-fetched (an-ifnot q) e i p = cc

module _ {s ds : List ℕ} {m : Module Expr} {starts sizes code readers : List ℕ} {watched : List Bool}
    (z : Sound m) (h : Holding s m starts sizes code readers watched) (e : Expressions s ds m code) where
  abbrev all : List ℕ
  all = heads_of s code sizes (length m.threads)

  all-length : length all ≡ waits_below m (length m.threads)
  all-length = of_length s code sizes (length m.threads) ∙ waits-law z h e (length m.threads) (le_refl (length m.threads))

  row-length : (T : Tables) (i p : ℕ) → i < length m.threads → p < length (code_of m i)
      → length (heads_of s code sizes i) + length (heads_in s code i p) ≡ row_of m T i p
  unfolding row_of
  row-length T i p l k =
      let o : i ≤ length m.threads = omega arith in
      let q : p ≤ length (code_of m i) = omega arith in
      λ j. (of_length s code sizes i ∙ waits-law z h e i o) j + (in-length s code i p ∙ waits-in z h e i l p q) j

  all-headed : (heads : List ℕ) → length heads ≡ 32 → Headed m (notes (noted heads 0) all)
  unfolding code_of instr_at
  all-headed heads long =
      record {
        count = notes-count (noted heads 0) all ∙ zero-add (length all) ∙ all-length;
        own = λ T i p l k w small.
            let f = head-fetched (h.fetched i p l k) w i p in
            let room : p < size_of sizes i = rw (size_of-at sizes i (low z h e i l), size-of z h i l) k in
            let r = row-length T i p l k in
            let inside = own_below s code sizes i p (length m.threads) (256 * i + p) l room f in
            ap (λ (n : ℕ). get_or (notes (noted heads 0) all).heads n 0) (sym (zero-add (row_of m T i p)))
            ∙ stored all heads 0 (row_of m T i p) long (rw (← r) inside) (omega arith)
            ∙ ap (λ (n : ℕ). get_or all n 0) (sym r)
            ∙ at_own s code sizes i p (length m.threads) (256 * i + p) l room f;
      }

pub heads-stand : HeadsStand
unfolding HeadsStand headed layout_of
heads-stand s x m h e code heads long room =
    let c = compile_at s (definitions_of x.definitions) (length x.contents.threads) x.body code in
    subst (λ (n : ℕ). Headed m (notes (noted heads 0) (heads_of s c.code c.sizes n))) (sym (threads-same s x m h e))
    (all-headed (sound s e) (holding-filled s x m h e code long) (expressed s code x m h e long) heads room)
