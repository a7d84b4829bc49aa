-- The sheet that the tables give is that of the parts. Assumes nothing.
use mathlib.Core.Path.{◌≡◌, refl, sym}
use mathlib.Core.Bool.{Bool, true, false}
use mathlib.Core.List.{List, [], ◌∷◌, ◌++◌, append_assoc, append-nil}
use Prim.Native.Nat.{ℕ, zero, suc, ◌+◌, ◌-◌, ◌<◌, ◌≤◌}
use native.Mathlib.Omega.{arith}
use borrow.Author.Tests.{ltb-true, ltb-false, leb-true, leb-false}
use lib.Dec.{ltb, leb}
use lib.ListN.{length, get_or, drop, drop_of_length-le}
use Rattle.values.specs.Values.{pick}
use Rattle.sheet.specs.Expression.{Expr}
use Rattle.sheet.specs.Statement.{Stmt}
use Rattle.encoding.specs.Encoding.{encode_expr}
use Rattle.writing.specs.Buffer.{Text, puts}
use Rattle.verilog_tokens.specs.Tokens.{Token}
use Rattle.verilog_grammar.specs.Meaning.{a_wire, Driven, Part}
use Rattle.verilog_grammar.specs.Reader.{ok, no, refuse, reader, expression, statement}
use Rattle.verilog_source.specs.Names.{Variable, variables, driven, threads, faults}
use Rattle.verilog_source.specs.Written.{value_for, written_stmt, written_wires, written_threads, written}
use Rattle.verilog_bytes.specs.Held.{Held}
use Rattle.verilog_bytes.proofs.Held.{held-nil, held-puts}
use Rattle.verilog_exprs.specs.Following.{Tabled}
use Rattle.verilog_names.specs.Chosen.{capped, here, chosen, has_role}
use Rattle.verilog_names.specs.Head.{head_of}
use Rattle.verilog_names.specs.Order.{target_of}
use Rattle.verilog_names.specs.Tables.{Along, none, next, Drives, Runs, Scanned, Noted}
use Rattle.verilog_names.specs.Claims.{Found, SameHead, WiresFound}
use Rattle.verilog_names.proofs.Chosen.{capped-below}
use Rattle.verilog_names.proofs.Claims.{same_head, wires-found}
use Rattle.verilog_read.specs.Read.{each, wire_at, thread_at, sheet_in}
use Rattle.verilog_read.proofs.Bodies.{statement-held, value-held}

abbrev pub HeldIn : Text → List ℕ → Type 0
HeldIn t l = Held t.bytes t.at l

-- ---- token by token: where a test takes a token its bytes come behind, else all stays

module _ {A : Type 0} (R : ℕ → A → Type 0) (bytes : A → List ℕ) (all : List A → List ℕ) (test : ℕ → Bool) (step : ℕ → Text → Text)
    (empty : all [] ≡ []) (more : (a : A) (xs : List A) → all (a ∷ xs) ≡ bytes a ++ all xs)
    (stays : (i : ℕ) (t : Text) → test i ≡ false → step i t ≡ t)
    (adds : (i : ℕ) (a : A) (t : Text) (l : List ℕ) → test i ≡ true → R i a → HeldIn t l → HeldIn (step i t) (l ++ bytes a)) where
  pub each-held : (n i : ℕ) (xs : List A) (t : Text) (l : List ℕ) → Along R (chosen test n i) xs → HeldIn t l
      → HeldIn (each step n i t) (l ++ all xs)
  unfolding each chosen here
  each-held zero i (_ ∷ _) t l p h = elim p [ ]
  each-held zero i [] t l none h = rw (empty, append-nil) h
  each-held (suc n) i xs t l p h = by (test i) refl xs p (each-held n (i + 1))
    where
      by : (b : Bool) → test i ≡ b → (xs : List A) → Along R (pick b (i ∷ []) [] ++ chosen test n (i + 1)) xs
          → ((xs : List A) (t : Text) (l : List ℕ) → Along R (chosen test n (i + 1)) xs → HeldIn t l
          → HeldIn (each step n (i + 1) t) (l ++ all xs))
          → HeldIn (each step n (i + 1) (step i t)) (l ++ all xs)
      by false e xs p go = rw (stays i t e) (go xs t l p h)
      by true e [] p go = elim p [ ]
      by true e (a ∷ xs) (next r p) go =
          rw (more a xs, ← append_assoc l (bytes a) (all xs)) (go xs (step i t) (l ++ bytes a) p (adds i a t l e r h))

-- ---- what is read has tokens

no_ok : {A : Type 0} {a : A} {n : ℕ} {us : List Token} → no n ≡ ok a us → ⊥
no_ok e = let z : ◌≡◌ {A = ℕ} 0 1 = cc in omega arith

module _ (index : List ℕ → ℕ) (ts : List Token) where
  drives-inside : {i : ℕ} {d : Driven} → Drives index ts i d → i + 2 ≤ length ts
  unfolding expression reader refuse
  drives-inside {i} r = by (leb (i + 2) (length ts)) refl
    where
      by : (b : Bool) → leb (i + 2) (length ts) ≡ b → i + 2 ≤ length ts
      by true e = leb-true (i + 2) (length ts) e
      by false e =
          let past : drop (i + 2) ts ≡ [] = drop_of_length-le ts {i = i + 2} (omega (arith, leb-false (i + 2) (length ts) e)) in
          absurd (no_ok (rw past at r.reads))

  runs-inside : {i : ℕ} {s : Stmt Expr} → Runs index ts i s → i < length ts
  unfolding statement refuse
  runs-inside {i} r = by (ltb i (length ts)) refl
    where
      by : (b : Bool) → ltb i (length ts) ≡ b → i < length ts
      by true e = ltb-true i (length ts) e
      by false e =
          let past : drop (i + 1) ts ≡ [] = drop_of_length-le ts {i = i + 1} (omega (arith, ltb-false i (length ts) e)) in
          absurd (no_ok (rw past at r.reads))

-- ---- the sheet

module _ (index : List ℕ → ℕ) (ts : List Token) (ps : List Part) (ks ids places table roles widths : List ℕ)
    (sc : Scanned ts ks ids places) (nt : Noted index ts ps roles widths) (tab : Tabled index ts ks table)
    (small : (s : List ℕ) → index s < 256) (right : faults ts ps ≡ []) where
  capped_is : capped (length ts) ≡ length ts
  capped_is = sym (capped-below (length ts) (omega (arith, tab.few)))

  abbrev FoundAt : ℕ → Variable → Type 0
  FoundAt t v = Found index ts ps (target_of ids roles (length ts) (get_or ids t 0)) v.named.spelled

  abbrev value_of : Variable → List ℕ
  value_of v = encode_expr (value_for (driven ps) v.named.spelled)

  wire-adds : (i : ℕ) (v : Variable) (t : Text) (l : List ℕ) → has_role roles 3 i ≡ true → FoundAt i v → HeldIn t l
      → HeldIn (wire_at ks ids table roles (length ts) i t) (l ++ value_of v)
  unfolding wire_at
  wire-adds i v t l e f h =
      rw (e, capped_is, f.value)
      (value-held index ts ks table tab small (target_of ids roles (length ts) (get_or ids i 0)) t.at t.bytes l
      (drives-inside index ts f.drives) h f.drives)

  wires-held : (t : Text) (l : List ℕ) → HeldIn t l
      → HeldIn (each (wire_at ks ids table roles (length ts)) (length ts) 0 t) (l ++ written_wires (driven ps) (variables a_wire ps))
  unfolding written_wires WiresFound
  wires-held t l h =
      each-held FoundAt value_of (written_wires (driven ps)) (has_role roles 3) (wire_at ks ids table roles (length ts)) refl (λ a xs. refl)
      (λ i t e. unfold wire_at in rw e) wire-adds (length ts) 0 (variables a_wire ps) t l
      (wires-found index ts ps ks ids places roles widths sc nt right) h

  thread-adds : (i : ℕ) (s : Stmt Expr) (t : Text) (l : List ℕ) → has_role roles 5 i ≡ true → Runs index ts i s → HeldIn t l
      → HeldIn (thread_at ks table roles (length ts) i t) (l ++ written_stmt s)
  unfolding thread_at
  thread-adds i s t l e r h =
      rw e (statement-held index ts ks table tab small i t.at t.bytes l (runs-inside index ts r) h r)

  threads-held : (t : Text) (l : List ℕ) → HeldIn t l
      → HeldIn (each (thread_at ks table roles (length ts)) (length ts) 0 t) (l ++ written_threads (threads ps))
  unfolding written_threads
  threads-held t l h =
      each-held (Runs index ts) written_stmt written_threads (has_role roles 5) (thread_at ks table roles (length ts)) refl (λ a xs. refl)
      (λ i t e. unfold thread_at in rw e) thread-adds (length ts) 0 (threads ps) t l nt.runs h

  pub sheet-held : (bs : List ℕ) → length bs ≡ 65536 → HeldIn (sheet_in ks ids table roles widths (length ts) bs) (written ps)
  unfolding sheet_in SameHead
  sheet-held bs room =
      let head = head_of roles widths (length ts) in
      rw (capped_is, ← same_head index ts ps roles widths nt)
      (threads-held _ (head ++ written_wires (driven ps) (variables a_wire ps))
      (wires-held _ head (held-puts head (held-nil bs room))))
