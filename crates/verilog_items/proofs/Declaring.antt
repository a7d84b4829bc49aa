-- Names and their declarations: the reader on the tables follows the grammar's. Assumes nothing.
use mathlib.Core.Path.{◌≡◌, refl, sym, ap, ◌∙◌, subst}
use mathlib.Core.Bool.{Bool, true, false, ◌&&◌}
use mathlib.Core.List.{List, [], ◌∷◌, ◌++◌, map, append_assoc, append-nil}
use Prim.Native.Nat.{ℕ, zero, suc, ◌+◌, ◌-◌, ◌<◌, ◌≤◌}
use native.Mathlib.Omega.{arith}
use lib.Dec.{eqb}
use lib.ListN.{length, get_or}
use Rattle.values.specs.Values.{pick}
use Rattle.writing.specs.Ascii.{ascii}
use Rattle.verilog_tokens.specs.Tokens.{Token, name, number, Name}
use Rattle.verilog_tokens.specs.Table.{terminals, number_from}
use Rattle.verilog_grammar.specs.Meaning.{up_to, Kind}
use Rattle.verilog_grammar.specs.Reader.{Res, ok, no, Reader, bind, give, refuse, starts, if_next, expect, listed, list, further_listed}
use Rattle.verilog_grammar.specs.Reader
use Rattle.verilog_source.specs.Names.{Variable, of_width}
use Rattle.verilog_exprs.specs.declared.Put.{Put}
use Rattle.verilog_exprs.specs.Rows.{row_at, wrote, expected}
use Rattle.verilog_exprs.specs.Following.{Tabled, From, Stopped}
use Rattle.verilog_exprs.proofs.Marks.{Numbered}
use Rattle.verilog_exprs.proofs.Follows.{starts_none, expect-first}
use Rattle.verilog_stmts.specs.Steps.{refused, after, is_next}
use Rattle.verilog_stmts.proofs.Signs.{comma-mark}
use Rattle.verilog_names.specs.Chosen.{here}
use Rattle.verilog_names.specs.Tables.{Along}
use Rattle.verilog_names.specs.Entries
use Rattle.verilog_names.specs.Entries.{Entry, variable, role_of, is_noted, declaring}
use Rattle.verilog_items.specs.Notes.{marked, Marks, marks}
use Rattle.verilog_items.specs.Items.{stay, passed, note_name, name_and, further_names, names, name_list}
use Rattle.verilog_items.specs.Following.{Good, Tells}
use Rattle.verilog_items.proofs.Noting.{marked-long, marked-here, marked_other, good-marked, noted_here, unnoted-here, role-some}
use Rattle.verilog_items.proofs.Taking.{Named, named, unnamed, good-after, ident-named, next-starts, tells-map}

module _ (index numbered : List ℕ → ℕ) (ts : List Token) (ks ns : List ℕ) (tab : Tabled numbered ts ks ns) where
  -- ---- one name

  note-tells : (role width : ℕ) (fs : List Entry) (n : Name) (us : List Token) (m : Marks) (es : List Entry)
      → Good index ts (name n ∷ us) m es
      → (get_or (marked m.put.next role m.roles) m.put.next 0 ≡ role
      → get_or (marked m.put.next width m.widths) m.put.next 0 ≡ width
      → Along (Entries.Notes index ts (marked m.put.next role m.roles) (marked m.put.next width m.widths))
      (here (is_noted (marked m.put.next role m.roles)) m.put.next) fs)
      → Good index ts us (note_name role width m) (es ++ fs)
  unfolding note_name
  note-tells role width fs n us m es g h =
      let i = m.put.next in
      let l : i < 16385 = omega (arith, g.to.count, tab.few) in
      good-marked index ts tab.few {m = m} g role (marked i width m.widths) (marked-long i width m.widths ∙ g.room_of_widths)
      (λ k q. marked_other i width m.widths k (λ e. omega arith))
      (h (marked-here i role m.roles l g.room_of_roles) (marked-here i width m.widths l g.room_of_widths))

  -- A port.
  pub port-noted : (n : Name) (us : List Token) (m : Marks) (es : List Entry) → Good index ts (name n ∷ us) m es
      → Good index ts us (note_name 0 0 m) (es ++ [])
  port-noted n us m es g = note-tells 0 0 [] n us m es g (λ a b. unnoted-here index ts m.put.next _ _ a)

  -- A variable.
  pub variable-noted : (k : Kind) (w v : ℕ) → v ≡ up_to 32 w → (n : Name) (us : List Token) (m : Marks) (es : List Entry)
      → Good index ts (name n ∷ us) m es
      → Good index ts us (note_name (role_of k) v m) (es ++ variable k (record { named = n; width = w }) ∷ [])
  variable-noted k w v e n us m es g =
      note-tells (role_of k) v (variable k (record { named = n; width = w }) ∷ []) n us m es g
      (λ a b. noted_here index ts _ _ (rw a (role-some k))
      (declaring a (record { named = record { behind = us; stands = g.to.rest }; width = b ∙ e })))

  -- ---- name { , name }

  module _ (role width : ℕ) (e : Name → List Entry) (E : List Name → List Entry) (nil : E [] ≡ [])
      (cons : (n : Name) (l : List Name) → E (n ∷ l) ≡ e n ++ E l)
      (step : (n : Name) (us : List Token) (m : Marks) (es : List Entry) → Good index ts (name n ∷ us) m es
      → Good index ts us (note_name role width m) (es ++ e n)) where
    module _ (rest : Marks → Marks) (rd : Reader (List Name))
        (ih : (m : Marks) (us : List Token) (es : List Entry) → Good index ts us m es → Tells index ts (λ l. es ++ E l) (rest m) (rd us)) where
      more-tell : (n : Name) (es : List Entry) (q : Marks) (vs : List Token) → Good index ts vs q (es ++ e n)
          → Tells index ts (λ l. es ++ E l) (name_and ks rest q) (if_next (ascii ",") (further_listed rd n) (give (n ∷ [])) vs)
      unfolding name_and further_names if_next further_listed Tells
      more-tell n es q vs k = by vs k (starts (ascii ",") vs) refl
        where
          by : (vs : List Token) → Good index ts vs q (es ++ e n) → (b : Bool) → starts (ascii ",") vs ≡ b
              → Tells index ts (λ l. es ++ E l) (name_and ks rest q) (if_next (ascii ",") (further_listed rd n) (give (n ∷ [])) vs)
          by vs k false z =
              rw (next-starts numbered ts ks ns tab q.put vs k.yes k.to (ascii ",") 26 comma-mark (omega arith), z, cons n [], nil, append-nil (e n)) k
          by [] k true z = absurd (starts_none (ascii ",") z)
          by (t ∷ vs) k true z =
              rw (next-starts numbered ts ks ns tab q.put (t ∷ vs) k.yes k.to (ascii ",") 26 comma-mark (omega arith), z, expect-first (ascii ",") t vs z)
              (tells-map index ts tab.few (λ l. (es ++ e n) ++ E l) (λ l. es ++ E l) (λ l. n ∷ l) (rest (passed after q)) (rd vs)
              (ih (passed after q) vs (es ++ e n) (good-after index ts tab.few k))
              (λ l. append_assoc es (e n) (E l) ∙ ap (λ x. es ++ x) (sym (cons n l))))

      name-tells : (m : Marks) (us : List Token) (es : List Entry) → Good index ts us m es → (r : Res Name) → Named us (is_next ks 64 m.put) r
          → Tells index ts (λ l. es ++ E l)
          (pick (is_next ks 64 m.put) (λ t. name_and ks rest (note_name role width t)) (passed refused) m)
          (bind r (λ n. if_next (ascii ",") (further_listed rd n) (give (n ∷ []))))
      unfolding Tells refused
      name-tells m us es h (ok n vs) (named x y) =
          rw y (more-tell n es (note_name role width m) vs (step n vs m es (subst (λ l. Good index ts l m es) x h)))
      name-tells m us es h (no n) (unnamed y) = rw y (record { not = refl; at = h.to.count })

    pub names-tell : (g : ℕ) (m : Marks) (us : List Token) (es : List Entry) → Good index ts us m es
        → Tells index ts (λ l. es ++ E l) (names ks role width g m) (listed Reader.ident g us)
    unfolding names listed refuse Tells refused
    names-tell zero m us es h = record { not = refl; at = h.to.count }
    names-tell (suc g) m us es h =
        name-tells (names ks role width g) (listed Reader.ident g) (names-tell g) m us es h (Reader.ident us)
        (ident-named numbered ts ks ns tab m.put h.yes us h.to)

    pub list_tells : (m : Marks) (us : List Token) (es : List Entry) → Good index ts us m es
        → Tells index ts (λ l. es ++ E l) (name_list ks (length ts) role width m) (list Reader.ident us)
    unfolding name_list list
    list_tells m us es h =
        let n : length ts - m.put.next ≡ length us = omega (arith, h.to.count) in
        rw n (names-tell (length us) m us es h)
