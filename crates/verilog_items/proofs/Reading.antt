-- A module: the reader on the tables follows the grammar's. Assumes nothing; what is asked of statements is a premise.
use mathlib.Core.Path.{◌≡◌, refl, sym, ap, ◌∙◌, subst}
use mathlib.Core.Bool.{Bool, true, false}
use mathlib.Core.List.{List, [], ◌∷◌, ◌++◌, append_assoc, append-nil}
use Prim.Native.Nat.{ℕ, zero, suc, ◌+◌, ◌-◌, ◌<◌, ◌≤◌}
use native.Mathlib.Omega.{arith}
use lib.Dec.{eqb}
use lib.ListN.{length, drop, get_or}
use borrow.Author.Tests.{ne_eqb}
use Rattle.values.specs.Values.{pick}
use Rattle.sheet.specs.Expression.{Expr}
use Rattle.sheet.specs.Statement.{Stmt}
use Rattle.writing.specs.Ascii.{ascii}
use Rattle.naming.specs.Naming.{same_text}
use Rattle.verilog_tokens.specs.Tokens.{Token, terminal, name, number, known, unknown, broken, Name}
use Rattle.verilog_tokens.specs.Table.{terminals, number_from, kind_of}
use Rattle.verilog_grammar.specs.AnnexA.{spell_statement}
use Rattle.verilog_grammar.specs.Meaning.{Kind, an_input, a_register, a_wire, Part, runs, Source}
use Rattle.verilog_grammar.specs.Reader.{Res, ok, no, Reader as Reads, bind, give, refuse, starts, if_next, expect, list, statement}
use Rattle.verilog_grammar.specs.Reader
use Rattle.verilog_grammar.specs.Claims.{OnlyDerived, AllDerived}
use Rattle.verilog_grammar.proofs.Module.{only-derived, all-derived}
use Rattle.verilog_grammar.proofs.StatementSound.{statement-sound}
use Rattle.verilog_grammar.proofs.StatementComplete.{longer-statement}
use Rattle.verilog_exprs.specs.declared.Put.{Put}
use Rattle.verilog_exprs.specs.Rows.{row_at, Wrote, wrote, answer, expected}
use Rattle.verilog_exprs.specs.Following.{Tabled, From, Stopped}
use Rattle.verilog_exprs.proofs.Marks.{Numbered, kind_front, open-mark, close-mark}
use Rattle.verilog_exprs.proofs.Follows.{starts_none, expect-first, expect-other, mark-at}
use Rattle.verilog_stmts.specs.Steps.{refused, after, is_next}
use Rattle.verilog_stmts.specs.Written.{statement_in}
use Rattle.verilog_stmts.proofs.Signs.{semicolon-mark}
use Rattle.verilog_names.specs.Entries
use Rattle.verilog_names.specs.Entries.{Entry, entries_of, entries, role_of, running, FromEntries}
use Rattle.verilog_names.specs.Chosen.{chosen}
use Rattle.verilog_names.specs.Tables.{none}
use Rattle.verilog_names.proofs.Noting.{from_entries}
use Rattle.verilog_items.specs.Notes.{marked, Marks, marks, Notes, notes}
use Rattle.verilog_items.specs.Items.{stay, passed, plainly, moved, rewound, in_text, refused_in, declaration, statement_from, thread, assigns, item_by, item}
use Rattle.verilog_items.specs.Items.{end_or, items, ident, ended, name_list, heading, item_list, module_in, read_in}
use Rattle.verilog_items.specs.Following.{Good, GoodIn, Tells, TellsIn, Reached, Ends, StatementsEnd, Said, ModulesRead}
use Rattle.verilog_items.proofs.Noting.{marked-here, good-on, good-marked, noted_here}
use Rattle.verilog_items.proofs.Taking.{good-after, next-kind, next-starts, took-name, took-tells, ident-named}
use Rattle.verilog_items.proofs.Variables.{not-next, Stays, stays-expected, stays-list, declaration-tells}
use Rattle.verilog_items.proofs.Driving.{after_next, StaysIn, tells_in-then, tells_in-map, lifted, assigns-tell, asked_in}
use Rattle.verilog_items.proofs.Declaring.{port-noted, list_tells}

-- ---- marks

input-mark : Numbered (ascii "input") 3
unfolding number_from terminals ascii same_text
input-mark = (refl, omega arith)

reg-mark : Numbered (ascii "reg") 4
unfolding number_from terminals ascii same_text
reg-mark = (refl, omega arith)

wire-mark : Numbered (ascii "wire") 5
unfolding number_from terminals ascii same_text
wire-mark = (refl, omega arith)

assign-mark : Numbered (ascii "assign") 6
unfolding number_from terminals ascii same_text
assign-mark = (refl, omega arith)

always-mark : Numbered (ascii "always") 7
unfolding number_from terminals ascii same_text
always-mark = (refl, omega arith)

endmodule-mark : Numbered (ascii "endmodule") 2
unfolding number_from terminals ascii same_text
endmodule-mark = (refl, omega arith)

statement-shorter : (index : List ℕ → ℕ) (us : List Token) (c : Stmt Expr) (rest : List Token) → statement index (length us) us ≡ ok c rest
    → length rest ≤ length us
statement-shorter index us c rest h =
    let f = statement-sound index (length us) us c rest h in
    let l = longer-statement f.tree rest in
    let s : length (spell_statement f.tree rest) ≡ length us = ap (λ x. length x) f.spelled in
    omega arith

module _ (index numbered : List ℕ → ℕ) (ts : List Token) (ks ns : List ℕ) (tab : Tabled numbered ts ks ns)
    (ends : StatementsEnd index ts ks ns) where
  -- ---- always statement

  run : (t : Token) (us : List Token) (s : Notes) (es : List Entry) → GoodIn index ts (t ∷ us) s es → drop (s.text.put.next + 1) ts ≡ us
      → (w : Wrote) (r : Res (Stmt Expr)) → statement index (length us) us ≡ r → Ends ts w r
      → TellsIn index ts (λ q. es ++ entries_of q) (notes w (marked s.text.put.next 5 s.roles) s.widths) (bind r (λ a. give (runs a)))
  unfolding Ends TellsIn entries_of
  run t us s es g d w (no k) q h = h
  run t us s es g d w (ok a rest) q h =
      let i = s.text.put.next in
      let c : i < 16385 = omega (arith, g.good.to.count, tab.few) in
      let role = marked-here i 5 s.roles c g.good.room_of_roles in
      let m = marks s.text.put s.roles s.widths in
      let x = good-marked index ts tab.few {m = m} g.good 5 s.widths g.good.room_of_widths (λ k j. refl)
      (noted_here index ts (marked i 5 s.roles) s.widths (rw role (omega arith))
      (running role (record { rest = rest; reads = ap (λ l. statement index (length l) l) d ∙ q }))) in
      let y = statement-shorter index us a rest q in
      let z = after_next s.text.put c in
      record {
        good = good-on index ts x w.put h.yes h.to (omega (arith, g.good.to.count, h.to.count));
        room = h.room;
      }

  thread-tells : (s : Notes) (us : List Token) (es : List Entry) → GoodIn index ts us s es → starts (ascii "always") us ≡ true
      → TellsIn index ts (λ q. es ++ entries_of q) (thread ks ns (length ts) s) (Reader.always_construct index us)
  unfolding thread statement_from rewound Reader.always_construct StatementsEnd
  thread-tells s [] es h z = absurd (starts_none (ascii "always") z)
  thread-tells s (t ∷ us) es h z =
      let m = marks s.text.put s.roles s.widths in
      let g1 = good-after index ts tab.few {m = m} h.good in
      let i = s.text.put.next in
      let c : i < 16385 = omega (arith, h.good.to.count, tab.few) in
      let a1 = after_next s.text.put c in
      let w = wrote (answer (after s.text.put).ok (after s.text.put).next 0) s.text.bytes in
      let n : length ts - (after s.text.put).next ≡ length us = omega (arith, g1.to.count) in
      rw (expect-first (ascii "always") t us z, n)
      (run t us s es h (ap (λ k. drop k ts) (sym a1) ∙ g1.to.rest) (statement_in ks ns (length ts) (length us) w) (statement index (length us) us) refl
      (ends w us (record { yes = g1.yes; to = g1.to; room = h.room }) refl))

  -- ---- an item by its first word

  by-mark : {B : Type 0} (w : List ℕ) (k : ℕ) → Numbered w k → 1 ≤ k → (e : B → List Entry) (f g : Notes → Notes) (a b : Reads B) (s : Notes)
      (us : List Token) (es : List Entry) → GoodIn index ts us s es → (starts w us ≡ true → TellsIn index ts e (f s) (a us))
      → (starts w us ≡ false → TellsIn index ts e (g s) (b us))
      → TellsIn index ts e (pick (eqb (row_at ks s.text.put.next) k) f g s) (if_next w a b us)
  unfolding if_next
  by-mark w k mark one e f g a b s us es h x y =
      rw (mark-at numbered ts ks ns tab w k mark one s.text.put.next us h.good.to) (by (starts w us) x y)
    where
      by : (t : Bool) → (t ≡ true → TellsIn index ts e (f s) (a us)) → (t ≡ false → TellsIn index ts e (g s) (b us))
          → TellsIn index ts e (pick t f g s) (pick t a b us)
      by true u v = u refl
      by false u v = v refl

  declares-tell : (w : List ℕ) (k : Kind) (s : Notes) (us : List Token) (es : List Entry) → GoodIn index ts us s es → starts w us ≡ true
      → TellsIn index ts (λ q. es ++ entries_of q) (plainly (declaration ks ns (length ts) (role_of k)) s) (Reader.declaration index w k us)
  declares-tell w k s us es h z =
      let m = marks s.text.put s.roles s.widths in
      lifted index ts (λ q. es ++ entries_of q) (declaration ks ns (length ts) (role_of k) m) s.text.bytes (Reader.declaration index w k us) h.room
      (declaration-tells index numbered ts ks ns tab w k m us es h.good z)

  last-tells : (s : Notes) (us : List Token) (es : List Entry) → GoodIn index ts us s es
      → TellsIn index ts (λ q. es ++ entries_of q) (pick (eqb (row_at ks s.text.put.next) 7) (thread ks ns (length ts)) refused_in s)
      (Reader.always_construct index us)
  unfolding Reader.always_construct TellsIn refused
  last-tells s us es h =
      by (starts (ascii "always") us) refl (mark-at numbered ts ks ns tab (ascii "always") 7 always-mark (omega arith) s.text.put.next us h.good.to)
    where
      by : (b : Bool) → starts (ascii "always") us ≡ b → eqb (row_at ks s.text.put.next) 7 ≡ starts (ascii "always") us
          → TellsIn index ts (λ q. es ++ entries_of q) (pick (eqb (row_at ks s.text.put.next) 7) (thread ks ns (length ts)) refused_in s)
          (Reader.always_construct index us)
      by true z n = rw (n, z) (thread-tells s us es h z)
      by false z n = rw (n, z, expect-other (ascii "always") us z) (record { not = refl; at = h.good.to.count })

  item-tells : (s : Notes) (us : List Token) (es : List Entry) → GoodIn index ts us s es
      → TellsIn index ts (λ q. es ++ entries_of q) (item ks ns (length ts) s) (Reader.module_item index us)
  unfolding item item_by Reader.module_item role_of
  item-tells s us es h =
      let e : Part → List Entry = λ q. es ++ entries_of q in
      by-mark (ascii "input") 3 input-mark (omega arith) e _ _ _ _ s us es h (λ z. declares-tell (ascii "input") an_input s us es h z)
      (λ z. by-mark (ascii "reg") 4 reg-mark (omega arith) e _ _ _ _ s us es h (λ z. declares-tell (ascii "reg") a_register s us es h z)
      (λ z. by-mark (ascii "wire") 5 wire-mark (omega arith) e _ _ _ _ s us es h (λ z. declares-tell (ascii "wire") a_wire s us es h z)
      (λ z. by-mark (ascii "assign") 6 assign-mark (omega arith) e _ _ _ _ s us es h
      (λ z. assigns-tell index numbered ts ks ns tab s us es h z) (λ z. last-tells s us es h))))

  -- ---- items up to `endmodule`

  stays-items : (g : ℕ) → StaysIn (items ks ns (length ts) g)
  unfolding items refused
  stays-items zero s h = (refl, refl)
  stays-items (suc g) s h = rw h (refl, refl)

  module _ (rest : Notes → Notes) (rd : Reads (List Part)) (st : StaysIn rest)
      (ih : (s : Notes) (us : List Token) (es : List Entry) → GoodIn index ts us s es → TellsIn index ts (λ l. es ++ entries l) (rest s) (rd us)) where
    end-tells : (s : Notes) (us : List Token) (es : List Entry) → GoodIn index ts us s es → (b : Bool) → starts (ascii "endmodule") us ≡ b
        → TellsIn index ts (λ l. es ++ entries l) (end_or ks ns (length ts) rest s)
        (if_next (ascii "endmodule") (Reader.module_end index) (Reader.module_more index rd) us)
    unfolding end_or if_next Reader.module_end Reader.module_more TellsIn entries
    end-tells s [] es h true z = absurd (starts_none (ascii "endmodule") z)
    end-tells s (t ∷ us) es h true z =
        rw (next-starts numbered ts ks ns tab s.text.put (t ∷ us) h.good.yes h.good.to (ascii "endmodule") 2 endmodule-mark (omega arith), z, expect-first (ascii "endmodule") t us z, append-nil es)
        (record { good = good-after index ts tab.few {m = marks s.text.put s.roles s.widths} h.good; room = h.room })
    end-tells s us es h false z =
        rw (next-starts numbered ts ks ns tab s.text.put us h.good.yes h.good.to (ascii "endmodule") 2 endmodule-mark (omega arith), z)
        (tells_in-then index ts rest (λ q. es ++ entries_of q) (λ l. es ++ entries l) (item ks ns (length ts) s) (Reader.module_item index us)
        (λ q vs. bind (rd vs) (λ l. give (q ∷ l))) (item-tells s us es h) st
        (λ q vs j k. tells_in-map index ts (λ l. (es ++ entries_of q) ++ entries l) (λ l. es ++ entries l) (λ l. q ∷ l) (rest (item ks ns (length ts) s)) (rd vs)
        (ih (item ks ns (length ts) s) vs (es ++ entries_of q) k) (λ l. append_assoc es (entries_of q) (entries l))))

  yes-tells : {B : Type 0} (b : Bool) → b ≡ true → (f : Notes → Notes) (s : Notes) (e : B → List Entry) (r : Res B) → TellsIn index ts e (f s) r
      → TellsIn index ts e (pick b f stay s) r
  yes-tells b q f s e r h = rw q h

  pub items-tell : (g : ℕ) (s : Notes) (us : List Token) (es : List Entry) → GoodIn index ts us s es
      → TellsIn index ts (λ l. es ++ entries l) (items ks ns (length ts) g s) (Reader.module_items index g us)
  unfolding items refuse TellsIn refused Reader.module_items
  items-tell zero s us es h = record { not = refl; at = h.good.to.count }
  items-tell (suc g) s us es h =
      yes-tells s.text.put.ok h.good.yes (end_or ks ns (length ts) (items ks ns (length ts) g)) s (λ l. es ++ entries l)
      (Reader.module_items index (suc g) us)
      (end-tells (items ks ns (length ts) g) (Reader.module_items index g) (stays-items g) (items-tell g) s us es h (starts (ascii "endmodule") us) refl)

-- ---- a module

module-mark : Numbered (ascii "module") 1
unfolding number_from terminals ascii same_text
module-mark = (refl, omega arith)

some_number : (n : ℕ) (ws : List (List ℕ)) (s : List ℕ) → 1 ≤ n → 1 ≤ number_from n ws s
unfolding number_from
some_number n [] s h = omega arith
some_number n (w ∷ ws) s h = by (same_text w s) (some_number (suc n) ws s (omega arith))
  where
    by : (b : Bool) → 1 ≤ number_from (suc n) ws s → 1 ≤ pick b n (number_from (suc n) ws s)
    by true k = h
    by false k = k

kind-some : (t : Token) → kind_of t ≡ 0 → ⊥
unfolding kind_of
kind-some (terminal s) e = omega (arith, some_number 1 terminals s (omega arith))
kind-some (name n) e = omega arith
kind-some (number true n) e = omega arith
kind-some (number false n) e = omega arith
kind-some (known v) e = omega arith
kind-some unknown e = omega arith
kind-some broken e = omega arith

stays-in : (f : Marks → Marks) → Stays f → StaysIn (plainly f)
stays-in f st s h = st (marks s.text.put s.roles s.widths) h

stays_in-then : (f g : Notes → Notes) → StaysIn f → StaysIn g → StaysIn (λ s. g (f s))
stays_in-then f g a b s h =
    let x = a s h in
    let y = b (f s) x.0 in
    (y.0, y.1 ∙ x.1)

stays-ident : (ks : List ℕ) → Stays (passed (ident ks))
unfolding ident refused
stays-ident ks m h = rw (not-next ks 64 m.put h) (refl, refl)

stays-ended : (ks : List ℕ) → StaysIn (in_text (moved (ended ks)))
unfolding ended refused
stays-ended ks s h = rw (not-next ks 0 s.text.put h) (refl, refl)

module _ (index numbered : List ℕ → ℕ) (ts : List Token) (ks ns : List ℕ) (tab : Tabled numbered ts ks ns)
    (ends : StatementsEnd index ts ks ns) where
  stays-item_list : StaysIn (item_list ks ns (length ts))
  unfolding item_list
  stays-item_list s h = stays-items index numbered ts ks ns tab ends (length ts - s.text.put.next) s h

  ended-tells : (e : Source → List Entry) (q : Source) (s : Notes) (us : List Token) → GoodIn index ts us s (e q)
      → TellsIn index ts e (in_text (moved (ended ks)) s) (bind (Reader.ended index us) (λ u. give q))
  unfolding ended Reader.ended TellsIn refused kind_front
  ended-tells e q s [] h = rw (next-kind numbered ts ks ns tab s.text.put [] h.good.yes h.good.to 0) h
  ended-tells e q s (t ∷ us) h =
      rw (next-kind numbered ts ks ns tab s.text.put (t ∷ us) h.good.yes h.good.to 0, ne_eqb (kind_of t) 0 (kind-some t))
      (record { not = refl; at = h.good.to.count })

  -- What is done behind each part of the head.
  abbrev to_end : Notes → Notes
  to_end s = in_text (moved (ended ks)) s

  abbrev to_items : Notes → Notes
  to_items s = to_end (item_list ks ns (length ts) s)

  abbrev to_semicolon : Notes → Notes
  to_semicolon s = to_items (in_text (moved (expected ks 25)) s)

  abbrev to_close : Notes → Notes
  to_close s = to_semicolon (in_text (moved (expected ks 21)) s)

  abbrev to_ports : Notes → Notes
  to_ports s = to_close (plainly (name_list ks (length ts) 0 0) s)

  abbrev to_open : Notes → Notes
  to_open s = to_ports (in_text (moved (expected ks 20)) s)

  abbrev to_name : Notes → Notes
  to_name s = to_open (plainly (passed (ident ks)) s)

  stays-mark : (k : ℕ) → StaysIn (in_text (moved (expected ks k)))
  stays-mark k s h = stays-in (passed (expected ks k)) (stays-expected ks k) s h

  stays-to_items : StaysIn to_items
  stays-to_items = stays_in-then (item_list ks ns (length ts)) to_end stays-item_list (stays-ended ks)

  stays-to_semicolon : StaysIn to_semicolon
  stays-to_semicolon = stays_in-then (in_text (moved (expected ks 25))) to_items (stays-mark 25) stays-to_items

  stays-to_close : StaysIn to_close
  stays-to_close = stays_in-then (in_text (moved (expected ks 21))) to_semicolon (stays-mark 21) stays-to_semicolon

  stays-to_ports : StaysIn to_ports
  stays-to_ports =
      stays_in-then (plainly (name_list ks (length ts) 0 0)) to_close
      (stays-in (name_list ks (length ts) 0 0) (stays-list ks (length ts) 0 0)) stays-to_close

  stays-to_open : StaysIn to_open
  stays-to_open = stays_in-then (in_text (moved (expected ks 20))) to_ports (stays-mark 20) stays-to_ports

  stays-to_name : StaysIn to_name
  stays-to_name = stays_in-then (plainly (passed (ident ks))) to_open (stays-in (passed (ident ks)) (stays-ident ks)) stays-to_open

  abbrev parts_of : Source → List Entry
  parts_of q = entries q.parts

  -- From the items on.
  from-items : (n : Name) (l : List Name) (s : Notes) (us : List Token) → GoodIn index ts us s []
      → TellsIn index ts parts_of (to_items s)
      (bind (Reader.module_items index (length us) us) (λ ps vs. bind (Reader.ended index vs) (λ u. give (record { title = n; ports = l; parts = ps }))))
  unfolding item_list
  from-items n l s us h =
      let c : length ts - s.text.put.next ≡ length us = omega (arith, h.good.to.count) in
      rw c (tells_in-then index ts to_end (λ ps. [] ++ entries ps) parts_of (items ks ns (length ts) (length us) s) (Reader.module_items index (length us) us)
      (λ ps vs. bind (Reader.ended index vs) (λ u. give (record { title = n; ports = l; parts = ps })))
      (items-tell index numbered ts ks ns tab ends (length us) s us [] h) (stays-ended ks)
      (λ ps vs q j. ended-tells parts_of (record { title = n; ports = l; parts = ps }) (items ks ns (length ts) (length us) s) vs j))

  -- From the ports on.
  from-ports : (n : Name) (s : Notes) (us : List Token) → GoodIn index ts us s []
      → TellsIn index ts parts_of (to_ports s)
      (bind (list Reader.ident us) (λ l vs. bind (expect (ascii ")") vs) (λ u ws. bind (expect (ascii ";") ws) (λ u xs.
      bind (Reader.module_items index (length xs) xs) (λ ps ys. bind (Reader.ended index ys) (λ u. give (record { title = n; ports = l; parts = ps })))))))
  from-ports n s us h =
      let m = marks s.text.put s.roles s.widths in
      let a = plainly (name_list ks (length ts) 0 0) s in
      let b = in_text (moved (expected ks 21)) a in
      tells_in-then index ts to_close (λ l. []) parts_of a (list Reader.ident us)
      (λ l vs. bind (expect (ascii ")") vs) (λ u ws. bind (expect (ascii ";") ws) (λ u xs.
      bind (Reader.module_items index (length xs) xs) (λ ps ys. bind (Reader.ended index ys) (λ u. give (record { title = n; ports = l; parts = ps }))))))
      (lifted index ts (λ l. []) (name_list ks (length ts) 0 0 m) s.text.bytes (list Reader.ident us) h.room
      (list_tells index numbered ts ks ns tab 0 0 (λ n. []) (λ l. []) refl (λ n l. refl) (port-noted index numbered ts ks ns tab) m us [] h.good))
      stays-to_close
      (λ l vs q j. asked_in index numbered ts ks ns tab (ascii ")") 21 close-mark (omega arith) to_semicolon stays-to_semicolon parts_of
      (λ u ws. bind (expect (ascii ";") ws) (λ u xs.
      bind (Reader.module_items index (length xs) xs) (λ ps ys. bind (Reader.ended index ys) (λ u. give (record { title = n; ports = l; parts = ps })))))
      a vs [] j
      (λ ws k. asked_in index numbered ts ks ns tab (ascii ";") 25 semicolon-mark (omega arith) to_items stays-to_items parts_of
      (λ u xs. bind (Reader.module_items index (length xs) xs) (λ ps ys. bind (Reader.ended index ys) (λ u. give (record { title = n; ports = l; parts = ps }))))
      b ws [] k (λ xs o. from-items n l (in_text (moved (expected ks 25)) b) xs o)))

  module-tells : (s : Notes) (us : List Token) → GoodIn index ts us s []
      → TellsIn index ts parts_of (module_in ks ns (length ts) s) (Reader.read_module index us)
  unfolding module_in heading Reader.read_module ident
  module-tells s us h =
      let a = in_text (moved (expected ks 1)) s in
      let b = plainly (passed (ident ks)) a in
      asked_in index numbered ts ks ns tab (ascii "module") 1 module-mark (omega arith) to_name stays-to_name parts_of _ s us [] h
      (λ vs j. tells_in-then index ts to_open (λ n. []) parts_of b (Reader.ident vs) _
      (lifted index ts (λ n. []) (passed (ident ks) (marks a.text.put a.roles a.widths)) a.text.bytes (Reader.ident vs) j.room
      (took-tells index ts tab.few (λ n. []) (Reader.ident vs) {m = marks a.text.put a.roles a.widths} j.good (λ n. refl)
      (took-name (ident-named numbered ts ks ns tab a.text.put j.good.yes vs j.good.to))))
      stays-to_open
      (λ n ws q k. asked_in index numbered ts ks ns tab (ascii "(") 20 open-mark (omega arith) to_ports stays-to_ports parts_of _ b ws [] k
      (λ xs o. from-ports n (in_text (moved (expected ks 20)) b) xs o)))

-- ---- the claim

all_read : (index : List ℕ → ℕ) (ts : List Token) (m : Source) (us : List Token) → Reader.read_module index ts ≡ ok m us
    → Reader.read_module index ts ≡ ok m []
unfolding OnlyDerived AllDerived
all_read index ts m us q = all-derived index ts m (only-derived index ts m us q)

module _ (index : List ℕ → ℕ) (ts : List Token) (s : Notes) where
  no-said : (n : ℕ) → TellsIn index ts (λ (q : Source). entries q.parts) s (no n) → Said index ts s (no n)
  unfolding TellsIn Said
  no-said n h = h

  ok-said : (m : Source) (us : List Token) → us ≡ [] → TellsIn index ts (λ (q : Source). entries q.parts) s (ok m us)
      → Said index ts s (ok m us)
  unfolding TellsIn Said FromEntries
  ok-said m us z h =
      let c : s.text.put.next ≡ length ts = omega (arith, h.good.to.count, ap (λ l. length l) z) in
      (h.good.yes, from_entries index ts m.parts s.roles s.widths (rw c at h.good.along))

pub modules-read : ModulesRead
unfolding ModulesRead read_in chosen
modules-read index numbered ts ks ns tab ends bs rs ws lb lr lw clear =
    said (Reader.read_module index ts) refl (module-tells index numbered ts ks ns tab ends start ts begun)
  where
    start : Notes
    start = notes (wrote (answer true 0 0) bs) rs ws

    begun : GoodIn index ts ts start []
    begun = record {
      good = record {
        yes = refl;
        to = record { rest = refl; count = omega arith };
        room_of_roles = lr;
        room_of_widths = lw;
        clear = λ k h. clear k;
        along = none;
      };
      room = lb;
    }

    end : Notes
    end = module_in ks ns (length ts) start

    rest_of : Res Source → List Token
    rest_of (ok q us) = us
    rest_of (no n) = []

    said : (r : Res Source) → Reader.read_module index ts ≡ r
        → TellsIn index ts (parts_of index numbered ts ks ns tab ends) end r → Said index ts end r
    said (no n) q h = no-said index ts end n h
    said (ok m us) q h =
        let z : us ≡ [] = ap rest_of (sym q ∙ all_read index ts m us q) in
        ok-said index ts end m us z h
