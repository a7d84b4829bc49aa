-- The claims of specs/Claims.antt: which text has which number, in which order, and which sheet.
-- Assumes nothing.
use mathlib.Core.Path.{◌≡◌, refl, sym, ap, ◌∙◌}
use mathlib.Core.Logic.{◌≢◌}
use mathlib.Core.Bool.{Bool, true, false}
use mathlib.Core.List.{List, [], ◌∷◌}
use Prim.Native.Nat.{ℕ, ◌≤◌, ◌<◌}
use native.Mathlib.Omega.{arith}
use lib.Dec.{leb, eqb}
use lib.ListN.{length}
use borrow.Author.Tests.{eq-eqb, ne_eqb, le-leb, lt-leb}
use Rattle.sheet.specs.Reading as Sheet
use Rattle.sheet.specs.Expression.{Expr, tree}
use Rattle.sheet.specs.Module.{Module, read_sheet, read}
use Rattle.sheet.proofs.Numbers.{Numbered, accepted as fine, refused as low, later-call, no_body, numbered-no, sheet-numbered, tree-numbered}
use Rattle.encoding.proofs.Bytes.{all-bytes}
use Rattle.encoding.proofs.Encoding.{read-encode}
use Rattle.verilog_tokens.specs.Tokens.{Token, Name, tokens}
use Rattle.verilog_grammar.specs.AnnexA.{ModuleDeclaration}
use Rattle.verilog_grammar.specs.Meaning.{Part, Source, meaning}
use Rattle.verilog_grammar.specs.Reader.{Res, ok, no, read_module}
use Rattle.verilog_grammar.specs.Claims.{OnlyDerived, AllDerived, OneMeaning}
use Rattle.verilog_grammar.proofs.Module.{only-derived, all-derived, one-meaning}
use Rattle.verilog_source.specs.Names.{number_of, faults}
use Rattle.verilog_source.specs.Written.{written}
use Rattle.verilog_source.specs.Compiled.{refused, accepted, unnumbered, parts_of, sheet_of, judged, named, derived, short, lent_right, compiled}
use Rattle.verilog_source.specs.Claims.{Derives, declared_by, sheet_by, FirstTheLent, ThenTheLength, ThenTheGrammar, ThenTheNames, ThenTheSheet, OneSheet, LeftAlone, Accepted, OnlySheets}
use Rattle.verilog_source.proofs.Bytes.{sheet-bytes}

-- ---- the sheet's own numbers are 1 to 11, 44 and 45: none is 42 or 43

not-between : {A : Type 0} {x : Sheet.Res A} {n p : ℕ} → Numbered x → x ≡ Sheet.no n p → (b : ℕ) → 11 < b → b < 44 → n ≢ b
not-between {n = n} (fine a) h b l m z = let z : ◌≡◌ {A = ℕ} 0 1 = cc in absurd (omega arith)
not-between {n = n} (low k q i j) h b l m z = let e : k ≡ n = cc in absurd (omega arith)
not-between {n = n} (later-call q) h b l m z = let e : 44 ≡ n = cc in absurd (omega arith)
not-between {n = n} (no_body q) h b l m z = let e : 45 ≡ n = cc in absurd (omega arith)

own-number : (s : List ℕ) {n p : ℕ} → read s ≡ Sheet.no n p → (1 ≤ n) × ((b : ℕ) → 11 < b → b < 44 → n ≢ b)
unfolding read
own-number s {n} {p} h = by (read_sheet (tree s) s) refl h
  where
    by : (r : Sheet.Res (Rattle.sheet.specs.Module.Sheet Expr)) → read_sheet (tree s) s ≡ r
        → Sheet.◌>>=◌ r (λ x. Sheet.ok x.contents) ≡ Sheet.no n p → (1 ≤ n) × ((b : ℕ) → 11 < b → b < 44 → n ≢ b)
    by (Sheet.ok m) q j = let z : ◌≡◌ {A = ℕ} 0 1 = cc in absurd (omega arith)
    by (Sheet.no k l) q j =
        let e : k ≡ n = cc in
        let f = sheet-numbered (tree s) (tree-numbered s) s in
        let w = numbered-no f q in
        (omega arith, λ b l m z. not-between f q b l m (e ∙ z))

-- ---- the two lengths

pub first-the-lent : FirstTheLent
unfolding FirstTheLent compiled lent_right refused
first-the-lent text lent h = rw (ne_eqb (length lent) 8192 h) refl

pub then-the-length : ThenTheLength
unfolding ThenTheLength compiled lent_right short refused
then-the-length text lent h l = rw (eq-eqb (length lent) 8192 h, lt-leb (length text) 16384 l) refl

fitting : (text lent : List ℕ) → length lent ≡ 8192 → length text ≤ 16384
    → compiled text lent ≡ derived text lent (read_module unnumbered (tokens text))
unfolding compiled lent_right short
fitting text lent h l = rw (eq-eqb (length lent) 8192 h, le-leb (length text) 16384 l) refl

-- ---- a text that is derived

read_by : (index : List ℕ → ℕ) (text : List ℕ) (m : ModuleDeclaration) → Derives text m
    → read_module index (tokens text) ≡ ok (meaning index m) []
unfolding AllDerived
read_by index text m d =
    all-derived index (tokens text) (meaning index m) (record { tree = m; counts = d.counts; yields = d.yields; means = refl })

to-names : (text lent : List ℕ) (m : ModuleDeclaration) → length lent ≡ 8192 → length text ≤ 16384 → Derives text m
    → compiled text lent ≡ named lent (tokens text) (declared_by m) (faults (tokens text) (declared_by m))
unfolding derived declared_by
to-names text lent m h l d = fitting text lent h l ∙ rw (read_by unnumbered text m d) refl

sheet-by : (text : List ℕ) (m : ModuleDeclaration) → Derives text m → sheet_of (tokens text) (declared_by m) ≡ sheet_by m
unfolding sheet_of sheet_by parts_of
sheet-by text m d = rw (read_by (number_of (declared_by m)) text m d) refl

-- ---- 42

judged-number : (lent s : List ℕ) (r : Sheet.Res (Module Expr)) → read s ≡ r → (b : ℕ) → 11 < b → b < 44 → (judged lent s r).answer.number ≢ b
unfolding judged accepted refused
judged-number lent s (Sheet.ok m) h b l k = λ e. absurd (omega arith)
judged-number lent s (Sheet.no n p) h b l k = (own-number s h).1 b l k

not-42 : (lent : List ℕ) (ts : List Token) (ps : List Part) (fs : List Name) → (named lent ts ps fs).answer.number ≢ 42
unfolding named refused
not-42 lent ts ps (n ∷ ns) = λ e. absurd (omega arith)
not-42 lent ts ps [] = judged-number lent (sheet_of ts ps) (read (sheet_of ts ps)) refl 42 (omega arith) (omega arith)

underived : (text lent : List ℕ) (r : Res Source) → read_module unnumbered (tokens text) ≡ r → ((m : ModuleDeclaration) → Derives text m → ⊥)
    → (derived text lent r).answer.number ≡ 42
unfolding derived refused OnlyDerived
underived text lent (no n) h k = refl
underived text lent (ok s rest) h k =
    let d = only-derived unnumbered (tokens text) s rest h in
    absurd (k d.tree (record { counts = d.counts; yields = d.yields }))

pub then-the-grammar : ThenTheGrammar
unfolding ThenTheGrammar
then-the-grammar text lent h l = (
  λ k. rw (fitting text lent h l) (underived text lent (read_module unnumbered (tokens text)) refl k),
  λ e m d. not-42 lent (tokens text) (declared_by m) (faults (tokens text) (declared_by m)) (rw (to-names text lent m h l d) at e),
)

-- ---- 43

faulty : (lent : List ℕ) (ts : List Token) (ps : List Part) (fs : List Name) → fs ≢ [] → (named lent ts ps fs).answer.number ≡ 43
unfolding named refused
faulty lent ts ps (n ∷ ns) k = refl
faulty lent ts ps [] k = absurd (k refl)

not-43 : (lent : List ℕ) (ts : List Token) (ps : List Part) (fs : List Name) → (named lent ts ps fs).answer.number ≡ 43 → fs ≢ []
unfolding named refused
not-43 lent ts ps (n ∷ ns) e = λ q. let z : ◌≡◌ {A = ℕ} 0 1 = cc in absurd (omega arith)
not-43 lent ts ps [] e = absurd (judged-number lent (sheet_of ts ps) (read (sheet_of ts ps)) refl 43 (omega arith) (omega arith) e)

pub then-the-names : ThenTheNames
unfolding ThenTheNames
then-the-names text lent m h l d =
    let ts = tokens text in
    let ps = declared_by m in (
      λ k. rw (to-names text lent m h l d) (faulty lent ts ps (faults ts ps) k),
      λ e. not-43 lent ts ps (faults ts ps) (rw (to-names text lent m h l d) at e),
    )

-- ---- the sheet's own numbers

to-sheet : (text lent : List ℕ) (m : ModuleDeclaration) → length lent ≡ 8192 → length text ≤ 16384 → Derives text m
    → faults (tokens text) (declared_by m) ≡ [] → compiled text lent ≡ judged lent (sheet_by m) (read (sheet_by m))
unfolding named
to-sheet text lent m h l d f = to-names text lent m h l d ∙ rw (f, sheet-by text m d) refl

pub then-the-sheet : ThenTheSheet
unfolding ThenTheSheet judged refused accepted
then-the-sheet text lent m h l d f =
    let e = to-sheet text lent m h l d f in
    (λ n p r. rw (e, r) refl, λ x r. (rw (e, r) refl, rw (e, r) refl, rw (e, r) refl))

-- ---- one sheet

pub one-sheet : OneSheet
unfolding OneSheet sheet_by declared_by OneMeaning
one-sheet text m n d e =
    let y = d.yields ∙ sym e.yields in
    let p : meaning unnumbered m ≡ meaning unnumbered n = one-meaning unnumbered m n d.counts e.counts y in
    let i = number_of (meaning unnumbered n).parts in
    ap (λ (s : Source). written (meaning (number_of s.parts) m).parts) p
    ∙ ap (λ (s : Source). written s.parts) (one-meaning i m n d.counts e.counts y)

-- ---- the lent bytes

judged-left : (lent s : List ℕ) (r : Sheet.Res (Module Expr)) → (judged lent s r).answer.number ≢ 0 → (judged lent s r).lent ≡ lent
unfolding judged refused accepted
judged-left lent s (Sheet.ok m) h = absurd (h refl)
judged-left lent s (Sheet.no n p) h = refl

named-left : (lent : List ℕ) (ts : List Token) (ps : List Part) (fs : List Name) → (named lent ts ps fs).answer.number ≢ 0
    → (named lent ts ps fs).lent ≡ lent
unfolding named refused
named-left lent ts ps (n ∷ ns) h = refl
named-left lent ts ps [] h = judged-left lent (sheet_of ts ps) (read (sheet_of ts ps)) h

derived-left : (text lent : List ℕ) (r : Res Source) → (derived text lent r).answer.number ≢ 0 → (derived text lent r).lent ≡ lent
unfolding derived refused
derived-left text lent (no n) h = refl
derived-left text lent (ok s rest) h = named-left lent (tokens text) s.parts (faults (tokens text) s.parts) h

short-left : (text lent : List ℕ) (b : Bool) → (short text lent b).answer.number ≢ 0 → (short text lent b).lent ≡ lent
unfolding short refused
short-left text lent false h = refl
short-left text lent true h = derived-left text lent (read_module unnumbered (tokens text)) h

lent-left : (text lent : List ℕ) (b : Bool) → (lent_right text lent b).answer.number ≢ 0 → (lent_right text lent b).lent ≡ lent
unfolding lent_right refused
lent-left text lent false h = refl
lent-left text lent true h = short-left text lent (leb (length text) 16384) h

pub left_alone : LeftAlone
unfolding LeftAlone compiled
left_alone text lent h = lent-left text lent (eqb (length lent) 8192) h

-- ---- what is accepted

accepted-names : (text lent : List ℕ) (m : ModuleDeclaration) (fs : List Name) → faults (tokens text) (declared_by m) ≡ fs → Derives text m
    → (named lent (tokens text) (declared_by m) fs).answer.number ≡ 0 → compiled text lent ≡ named lent (tokens text) (declared_by m) fs
    → Accepted text lent
unfolding named refused
accepted-names text lent m (n ∷ ns) f d e q = absurd (omega arith)
accepted-names text lent m [] f d e q = by (read (sheet_by m)) refl (rw (sheet-by text m d) at e) (rw (sheet-by text m d) at q)
  where
    by : (r : Sheet.Res (Module Expr)) → read (sheet_by m) ≡ r → (judged lent (sheet_by m) r).answer.number ≡ 0
        → compiled text lent ≡ judged lent (sheet_by m) (read (sheet_by m)) → Accepted text lent
    by (Sheet.ok x) r j k =
        let bs = all-bytes (sheet-bytes m) in
        let w = read-encode (sheet_by m) bs r in
        record {
          tree = m;
          derives = d;
          faultless = f;
          holds = x;
          reads = r;
          bytes = bs;
          formed = w.0;
          encoded = w.1;
          stored = unfold judged accepted in rw (k, r) refl;
        }
    by (Sheet.no n p) r j k = let z : n ≡ 0 = unfold judged refused in j in let y = (own-number (sheet_by m) r).0 in absurd (omega arith)

accepted-derived : (text lent : List ℕ) (r : Res Source) → read_module unnumbered (tokens text) ≡ r → (derived text lent r).answer.number ≡ 0
    → compiled text lent ≡ derived text lent r → Accepted text lent
unfolding derived refused OnlyDerived declared_by
accepted-derived text lent (no n) h e q = absurd (omega arith)
accepted-derived text lent (ok s rest) h e q =
    let d = only-derived unnumbered (tokens text) s rest h in
    let m = d.tree in
    let p : (meaning unnumbered m).parts ≡ s.parts = ap (λ (x : Source). x.parts) d.means in
    accepted-names text lent m (faults (tokens text) (declared_by m)) refl (record { counts = d.counts; yields = d.yields })
    (rw p e) (rw p q)

accepted-short : (text lent : List ℕ) (b : Bool) → (short text lent b).answer.number ≡ 0 → compiled text lent ≡ short text lent b
    → Accepted text lent
unfolding short refused
accepted-short text lent false e q = absurd (omega arith)
accepted-short text lent true e q = accepted-derived text lent (read_module unnumbered (tokens text)) refl e q

accepted-lent : (text lent : List ℕ) (b : Bool) → (lent_right text lent b).answer.number ≡ 0 → compiled text lent ≡ lent_right text lent b
    → Accepted text lent
unfolding lent_right refused
accepted-lent text lent false e q = absurd (omega arith)
accepted-lent text lent true e q = accepted-short text lent (leb (length text) 16384) e q

pub only-sheets : OnlySheets
unfolding OnlySheets compiled
only-sheets text lent h = accepted-lent text lent (eqb (length lent) 8192) h refl
