-- A module read from the table of its text's tokens: what `verilog_grammar`'s reader does with tokens, with notes in place of parts.
-- For tables of any contents. A refusal stays at the token where it was met.
use Rattle.std.specs.Prelude.{Bool, true, false, ◌&&◌, ◌||◌, List, ℕ, zero, suc, ◌+◌, ◌-◌, eqb}
use Rattle.values.specs.Values.{pick, ◌is◌then◌else◌}
use Rattle.verilog_grammar.specs.Meaning.{up_to}
use Rattle.verilog_exprs.specs.declared.Put.{Put}
use Rattle.verilog_exprs.specs.Rows.{row_at, answer, Wrote, wrote, expected}
use Rattle.verilog_stmts.specs.Steps.{refused, after, is_next}
use Rattle.verilog_stmts.specs.Stmts.{value}
use Rattle.verilog_stmts.specs.Written.{statement_in}
use Rattle.verilog_items.specs.Notes.{marked, Marks, marks, Notes, notes}

abbrev pub stay : {A : Type 0} → A → A
stay s = s

abbrev pub passed : (Put → Put) → Marks → Marks
passed f s = marks (f s.put) s.roles s.widths

-- The token that is next, noted with a role and a width.
unfoldable pub note_name : ℕ → ℕ → Marks → Marks
note_name role width s =
    marks (after s.put) (marked s.put.next role s.roles) (marked s.put.next width s.widths)

-- The same token, at the buffer's beginning.
unfoldable pub rewound : Put → Put
rewound p = answer p.ok p.next 0

abbrev pub moved : (Put → Put) → Wrote → Wrote
moved f t = wrote (f t.put) t.bytes

-- ---- one token

module _ (ks : List ℕ) where
  unfoldable pub ident : Put → Put
  ident p = pick (is_next ks 64 p) after refused p

  -- A number (65, 66).
  unfoldable pub is_number : Put → Bool
  is_number p = is_next ks 65 p || is_next ks 66 p

  unfoldable pub unsigned : Put → Put
  unsigned p = pick (is_number p) after refused p

  -- ---- name { , name }: each is noted with a role and a width. A comma is 26

  unfoldable pub further_names : (Marks → Marks) → Marks → Marks
  further_names rest s = rest (passed after s)

  unfoldable pub name_and : (Marks → Marks) → Marks → Marks
  name_and rest s = pick (is_next ks 26 s.put) (further_names rest) stay s

  unfoldable pub names : ℕ → ℕ → ℕ → Marks → Marks
  names role width zero s = passed refused s
  names role width (suc g) s =
      pick (is_next ks 64 s.put) (λ t. name_and (names role width g) (note_name role width t)) (passed refused) s

  -- Nothing stands behind.
  unfoldable pub ended : Put → Put
  ended p = pick (is_next ks 0 p) stay refused p

-- ---- `[n:0]`, or nothing: [ 22, : 24, ] 23

module _ (ks ns : List ℕ) where
  unfoldable pub naught : Put → Put
  naught p = pick (is_number ks p && eqb (row_at ns p.next) 0) after refused p

  unfoldable pub bounds : Put → Put
  bounds p = expected ks 23 (naught (expected ks 24 (unsigned ks (after p))))

  unfoldable pub range : Put → Put
  range p = pick (is_next ks 22 p) bounds stay p

  -- The width that stands there, as it is written.
  unfoldable pub range_width : Put → ℕ
  range_width p = pick (is_next ks 22 p) (up_to 32 (row_at ns (after p).next + 1)) 1

abbrev pub plainly : (Marks → Marks) → Notes → Notes
plainly f s =
    let m = f (marks s.text.put s.roles s.widths) in
    notes (wrote m.put s.text.bytes) m.roles m.widths

abbrev pub in_text : (Wrote → Wrote) → Notes → Notes
in_text f s = notes (f s.text) s.roles s.widths

-- The token that is next, noted with a role.
abbrev pub note_role : ℕ → Notes → Notes
note_role role s = notes s.text (marked s.text.put.next role s.roles) s.widths

abbrev pub refused_in : Notes → Notes
refused_in s = in_text (moved refused) s

-- ---- where so many tokens are

module _ (ks : List ℕ) (count : ℕ) where
  unfoldable pub name_list : ℕ → ℕ → Marks → Marks
  name_list role width s = names ks role width (count - s.put.next) s

  -- module name ( names ) ;: module 1, ( 20, ) 21

  unfoldable pub heading : Marks → Marks
  heading s =
      let t = passed (λ p. expected ks 20 (ident ks (expected ks 1 p))) s in
      passed (λ p. expected ks 25 (expected ks 21 p)) (name_list 0 0 t)

-- ---- items

module _ (ks ns : List ℕ) (count : ℕ) where
  -- `input`, `reg` or `wire`, then a range, names and ; (25)
  unfoldable pub declaration : ℕ → Marks → Marks
  declaration role s =
      let p = after s.put in
      passed (expected ks 25) (name_list ks count role (range_width ks ns p) (passed (λ q. range ks ns p) s))

  -- ---- name = expression { , name = expression }

  unfoldable pub target : Notes → Notes
  target s = in_text (λ t. value ks ns count (moved (λ p. rewound (expected ks 28 (after p))) t)) (note_role 4 s)

  unfoldable pub further_targets : (Notes → Notes) → Notes → Notes
  further_targets rest s = rest (in_text (moved after) s)

  unfoldable pub target_and : (Notes → Notes) → Notes → Notes
  target_and rest s = pick (is_next ks 26 s.text.put) (further_targets rest) stay s

  unfoldable pub targets : ℕ → Notes → Notes
  targets zero s = refused_in s
  targets (suc g) s = pick (is_next ks 64 s.text.put) (λ t. target_and (targets g) (target t)) refused_in s

  unfoldable pub assigns : Notes → Notes
  assigns s =
      let t = in_text (moved after) s in
      in_text (moved (expected ks 25)) (targets (count - t.text.put.next) t)

  -- ---- always statement

  unfoldable pub statement_from : Wrote → Wrote
  statement_from t = statement_in ks ns count (count - t.put.next) t

  unfoldable pub thread : Notes → Notes
  thread s = in_text (λ t. statement_from (moved (λ p. rewound (after p)) t)) (note_role 5 s)

  -- ---- an item by its first word: input 3, reg 4, wire 5, assign 6, always 7

  unfoldable pub item_by : ℕ → Notes → Notes
  item_by k =
      k is 3 then plainly (declaration 1) else
      k is 4 then plainly (declaration 2) else
      k is 5 then plainly (declaration 3) else
      k is 6 then assigns else
      k is 7 then thread else
      refused_in

  unfoldable pub item : Notes → Notes
  item s = item_by (row_at ks s.text.put.next) s

  -- ---- items up to `endmodule` (2)

  unfoldable pub end_or : (Notes → Notes) → Notes → Notes
  end_or rest s =
      pick (is_next ks 2 s.text.put) (in_text (moved after)) (λ t. rest (item t)) s

  unfoldable pub items : ℕ → Notes → Notes
  items zero s = refused_in s
  items (suc g) s = pick s.text.put.ok (end_or (items g)) stay s

  -- ---- a module

  unfoldable pub item_list : Notes → Notes
  item_list s = items (count - s.text.put.next) s

  unfoldable pub module_in : Notes → Notes
  module_in s = in_text (moved (ended ks)) (item_list (plainly (heading ks count) s))

  -- From the first token on.
  unfoldable pub read_in : List ℕ → List ℕ → List ℕ → Notes
  read_in bs rs ws = module_in (notes (wrote (answer true 0 0) bs) rs ws)
