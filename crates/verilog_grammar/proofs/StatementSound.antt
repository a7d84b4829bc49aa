-- What the reader makes of a list of tokens is what a statement of Annex A means that yields them, with each `else` at the nearest
-- `if` and one default a case.
-- Assumes nothing.
use mathlib.Core.Path.{◌≡◌, refl, sym, ap, ◌∙◌}
use mathlib.Core.Bool.{Bool, true, false, true≢false}
use mathlib.Core.List.{List, [], ◌∷◌}
use Prim.Native.Nat.{ℕ, zero, suc, ◌+◌, ◌≤◌}
use native.Mathlib.Nat.{add-zero}
use native.Mathlib.Omega.{arith}
use lib.Dec.{eqb}
use lib.ListN.{length}
use borrow.Author.Tests.{ne_eqb}
use Rattle.values.specs.Values.{pick}
use Rattle.values.specs.declared.Edge.TheVariants.{Change, Posedge, Negedge}
use Rattle.sheet.specs.declared.EdgeTerm.{EdgeTerm}
use Rattle.sheet.specs.Expression.{Expr}
use Rattle.sheet.specs.Statement.{Stmt, if_then, while, forever}
use Rattle.writing.specs.Ascii.{ascii}
use Rattle.naming.specs.Naming.{same_text}
use Rattle.verilog_tokens.specs.Tokens.{Token, name, number, known, Name}
use Rattle.verilog_grammar.specs.AnnexA.{mark, sized, Expression, spell, Event, changes, rises, falls, or_else as or_event, comma, spell_event, Control, bare, among, spell_control, spell_condition}
use Rattle.verilog_grammar.specs.AnnexA.{Statement, blocking, nonblocking, selects, whether, either, endless, repeats, after as after_tree, block as block_tree, OrNull, some, null, Statements, none, more, CaseItem, labelled, default, default_colon, CaseItems, last_item, item, spell_statement, spell_or_null, spell_all, spell_item, spell_items}
use Rattle.verilog_grammar.specs.Conditions.{Grouped, is_open, is_open_or_null, defaults_of, defaults, Settled, SettledOrNull, SettledAll, SettledItem, SettledItems}
use Rattle.verilog_grammar.specs.Meaning.{Arm, on, otherwise, case_of, block_of, number_expr, expr_of, term_of, terms_of, control_of, stmt_of, or_null_of, stmts_of, arm_of, arms_of}
use Rattle.verilog_grammar.specs.Reader.{ok, Reader, give, refuse, is_mark, starts, expect, size, known_value, expression, condition, edge, change, event, further_events, more_events, events, event_list, event_name, control, blocking_to, nonblocking_to, assignment, null_statement, or_null, else_part, or_else, conditional, while_loop, forever_loop, timing, block_end, block_more, statements, block, colon, default_item, labelled_item, items_end, items_more, items_behind, default_first, label_first, case_items, case_statement, statement_by, statement}
use Rattle.verilog_grammar.proofs.Steps.{no≢ok, ok-item, ok-rest, stepped, after, named, next-ok, expect-ok, size_ok, known_value-ok}
use Rattle.verilog_grammar.proofs.ExpressionSound.{expression-sound}
use Rattle.verilog_grammar.proofs.StatementComplete.{Clear}

-- What stands before an `else` doesn't end in an `if` without one.
closed : (b : Bool) (ts : List Token) → Clear b (mark "else" ∷ ts) → b ≡ false
unfolding Clear starts is_mark ascii same_text
closed true ts h = absurd (true≢false h)
closed false ts h = refl

condition-sound : (ts : List Token) {e : Expression} {rest : List Token} → condition ts ≡ ok e rest
    → (spell_condition e rest ≡ ts) × Grouped e
unfolding condition spell_condition
condition-sound ts h =
    after (ascii "(") ts _ h λ us a g.
    stepped (expression us) _ g λ x vs b k.
    after (ascii ")") vs _ k λ ws c m.
    let i = expression-sound us b in
    rw (← ok-item m, ← ok-rest m) (ap (λ (z : List Token). mark "(" ∷ z) (ap (spell x) (sym c) ∙ i.spelled) ∙ sym a, i.grouped)

module _ (index : List ℕ → ℕ) where
  -- ---- events

  pub record FoundEvents (ts : List Token) (es : List EdgeTerm) (rest : List Token) : Type 0 where
    pub tree : Event
    pub spelled : spell_event tree rest ≡ ts
    pub means : terms_of index tree ≡ es

  change-sound : (ts : List Token) {t : EdgeTerm} {rest : List Token} → change index ts ≡ ok t rest
      → (n : Name) × (name n ∷ rest ≡ ts) × (term_of index Change n ≡ t)
  unfolding change
  change-sound ts h = named ts _ h λ n us a g. rw (← ok-item g, ← ok-rest g) (n, sym a, refl)

  rises-sound : (ts : List Token) {t : EdgeTerm} {rest : List Token} → edge index (ascii "posedge") Posedge ts ≡ ok t rest
      → FoundEvents ts (t ∷ []) rest
  unfolding edge spell_event terms_of
  rises-sound ts h =
      after (ascii "posedge") ts _ h λ us a g.
      named us _ g λ n vs b k.
      rw (← ok-item k, ← ok-rest k)
      (record { tree = rises n; spelled = ap (λ (z : List Token). mark "posedge" ∷ z) (sym b) ∙ sym a; means = refl })

  falls-sound : (ts : List Token) {t : EdgeTerm} {rest : List Token} → edge index (ascii "negedge") Negedge ts ≡ ok t rest
      → FoundEvents ts (t ∷ []) rest
  unfolding edge spell_event terms_of
  falls-sound ts h =
      after (ascii "negedge") ts _ h λ us a g.
      named us _ g λ n vs b k.
      rw (← ok-item k, ← ok-rest k)
      (record { tree = falls n; spelled = ap (λ (z : List Token). mark "negedge" ∷ z) (sym b) ∙ sym a; means = refl })

  changes-sound : (ts : List Token) {t : EdgeTerm} {rest : List Token} → change index ts ≡ ok t rest → FoundEvents ts (t ∷ []) rest
  unfolding spell_event terms_of
  changes-sound ts h =
      let i = change-sound ts h in
      record { tree = changes i.0; spelled = i.1; means = ap (λ (z : EdgeTerm). z ∷ []) i.2 }

  event-sound : (ts : List Token) {t : EdgeTerm} {rest : List Token} → event index ts ≡ ok t rest → FoundEvents ts (t ∷ []) rest
  unfolding event
  event-sound ts h =
      next-ok (ascii "posedge") (edge index (ascii "posedge") Posedge) _ ts (rises-sound ts)
      (λ p j. next-ok (ascii "negedge") (edge index (ascii "negedge") Negedge) (change index) ts (falls-sound ts)
      (λ q i. changes-sound ts i) j)
      h

  -- An event, a separator and further ones.
  with-or : (ts us vs rest : List Token) (t : EdgeTerm) (es : List EdgeTerm) → FoundEvents ts (t ∷ []) us → us ≡ mark "or" ∷ vs
      → FoundEvents vs es rest
      → FoundEvents ts (t ∷ es) rest
  unfolding spell_event terms_of
  with-or ts us vs rest t es f a g =
      record {
        tree = or_event f.tree g.tree;
        spelled =
            ap (λ (z : List Token). spell_event f.tree (mark "or" ∷ z)) g.spelled ∙ ap (spell_event f.tree) (sym a) ∙ f.spelled;
        means = rw (f.means, g.means) refl;
      }

  with-comma : (ts us vs rest : List Token) (t : EdgeTerm) (es : List EdgeTerm) → FoundEvents ts (t ∷ []) us → us ≡ mark "," ∷ vs
      → FoundEvents vs es rest
      → FoundEvents ts (t ∷ es) rest
  unfolding spell_event terms_of
  with-comma ts us vs rest t es f a g =
      record {
        tree = comma f.tree g.tree;
        spelled =
            ap (λ (z : List Token). spell_event f.tree (mark "," ∷ z)) g.spelled ∙ ap (spell_event f.tree) (sym a) ∙ f.spelled;
        means = rw (f.means, g.means) refl;
      }

  InnerEvents : Reader (List EdgeTerm) → Type 0
  InnerEvents inner = (ts : List Token) (es : List EdgeTerm) (rest : List Token) → inner ts ≡ ok es rest → FoundEvents ts es rest

  more-sound : (inner : Reader (List EdgeTerm)) → InnerEvents inner
      → (ts us : List Token) (t : EdgeTerm) {es : List EdgeTerm} {rest : List Token}
      → FoundEvents ts (t ∷ []) us → more_events index inner t us ≡ ok es rest → FoundEvents ts es rest
  unfolding InnerEvents more_events further_events
  more-sound inner sound ts us t f h =
      next-ok (ascii "or") (further_events index inner t (ascii "or")) _ us
      (λ j. after (ascii "or") us _ j λ vs a g. stepped (inner vs) _ g λ xs ys b k.
      rw (← ok-item k, ← ok-rest k) (with-or ts us vs ys t xs f a (sound vs xs ys b)))
      (λ p j. next-ok (ascii ",") (further_events index inner t (ascii ",")) (give (t ∷ [])) us
      (λ j. after (ascii ",") us _ j λ vs a g. stepped (inner vs) _ g λ xs ys b k.
      rw (← ok-item k, ← ok-rest k) (with-comma ts us vs ys t xs f a (sound vs xs ys b)))
      (λ q i. rw (← ok-item i, ← ok-rest i) f)
      j)
      h

  events-sound : (g : ℕ) → InnerEvents (events index g)
  unfolding InnerEvents events refuse
  events-sound zero ts es rest h = absurd (no≢ok h)
  events-sound (suc g) ts es rest h =
      stepped (event index ts) _ h λ t us a k. more-sound (events index g) (events-sound g) ts us t (event-sound ts a) k

  pub record FoundControl (ts : List Token) (es : List EdgeTerm) (rest : List Token) : Type 0 where
    pub tree : Control
    pub spelled : spell_control tree rest ≡ ts
    pub means : control_of index tree ≡ es

  list-sound : (ts : List Token) {es : List EdgeTerm} {rest : List Token} → event_list index ts ≡ ok es rest
      → FoundControl (mark "@" ∷ ts) es rest
  unfolding event_list spell_control control_of InnerEvents
  list-sound ts h =
      after (ascii "(") ts _ h λ us a g.
      stepped (events index (length us) us) _ g λ xs vs b k.
      after (ascii ")") vs _ k λ ws c m.
      let i = events-sound (length us) us xs vs b in
      rw (← ok-item m, ← ok-rest m)
      (record {
        tree = among i.tree;
        spelled = ap (λ (z : List Token). mark "@" ∷ z)
            (ap (λ (z : List Token). mark "(" ∷ z) (ap (spell_event i.tree) (sym c) ∙ i.spelled) ∙ sym a);
        means = i.means;
      })

  bare-sound : (ts : List Token) {es : List EdgeTerm} {rest : List Token} → event_name index ts ≡ ok es rest
      → FoundControl (mark "@" ∷ ts) es rest
  unfolding event_name spell_control control_of
  bare-sound ts h =
      stepped (change index ts) _ h λ t us a g.
      let i = change-sound ts a in
      rw (← ok-item g, ← ok-rest g)
      (record {
        tree = bare i.0;
        spelled = ap (λ (z : List Token). mark "@" ∷ z) i.1;
        means = ap (λ (z : EdgeTerm). z ∷ []) i.2;
      })

  control-sound : (ts : List Token) {es : List EdgeTerm} {rest : List Token} → control index ts ≡ ok es rest → FoundControl ts es rest
  unfolding control
  control-sound ts h =
      after (ascii "@") ts _ h λ us a g.
      rw a (next-ok (ascii "(") (event_list index) (event_name index) us (list-sound us) (λ q j. bare-sound us j) g)

  -- ---- what is found

  pub record Found (ts : List Token) (c : Stmt Expr) (rest : List Token) : Type 0 where
    pub tree : Statement
    pub spelled : spell_statement tree rest ≡ ts
    pub means : stmt_of index tree ≡ c
    pub settled : Settled tree
    pub free : Clear (is_open tree) rest

  pub record FoundOrNull (ts : List Token) (c : Stmt Expr) (rest : List Token) : Type 0 where
    pub tree : OrNull
    pub spelled : spell_or_null tree rest ≡ ts
    pub means : or_null_of index tree ≡ c
    pub settled : SettledOrNull tree
    pub free : Clear (is_open_or_null tree) rest

  pub record FoundAll (ts : List Token) (cs : List (Stmt Expr)) (rest : List Token) : Type 0 where
    pub trees : Statements
    pub spelled : spell_all trees rest ≡ ts
    pub means : stmts_of index trees ≡ cs
    pub settled : SettledAll trees

  pub record FoundItem (ts : List Token) (d : ℕ) (i : Arm) (rest : List Token) : Type 0 where
    pub tree : CaseItem
    pub spelled : spell_item tree rest ≡ ts
    pub means : arm_of index tree ≡ i
    pub settled : SettledItem tree
    pub counted : defaults_of tree ≡ d

  pub record FoundItems (n : ℕ) (ts : List Token) (is : List Arm) (rest : List Token) : Type 0 where
    pub trees : CaseItems
    pub spelled : spell_items trees rest ≡ ts
    pub means : arms_of index trees ≡ is
    pub settled : SettledItems trees
    pub once : n + defaults trees ≤ 1

  abbrev pub Inner : Reader (Stmt Expr) → Type 0
  Inner inner = (ts : List Token) (c : Stmt Expr) (rest : List Token) → inner ts ≡ ok c rest → Found ts c rest

  -- ---- assignments

  blocking-sound : (n : Name) (ts : List Token) {c : Stmt Expr} {rest : List Token} → blocking_to index n ts ≡ ok c rest
      → Found (name n ∷ ts) c rest
  unfolding blocking_to spell_statement stmt_of Settled is_open Clear
  blocking-sound n ts h =
      after (ascii "=") ts _ h λ us a g.
      stepped (expression us) _ g λ e vs b k.
      after (ascii ";") vs _ k λ ws d m.
      let i = expression-sound us b in
      rw (← ok-item m, ← ok-rest m)
      (record {
        tree = blocking n e;
        spelled = ap (λ (z : List Token). name n ∷ z) (ap (λ (z : List Token). mark "=" ∷ z) (ap (spell e) (sym d) ∙ i.spelled) ∙ sym a);
        means = refl;
        settled = i.grouped;
        free = tt;
      })

  nonblocking-sound : (n : Name) (ts : List Token) {c : Stmt Expr} {rest : List Token} → nonblocking_to index n ts ≡ ok c rest
      → Found (name n ∷ ts) c rest
  unfolding nonblocking_to spell_statement stmt_of Settled is_open Clear
  nonblocking-sound n ts h =
      after (ascii "<=") ts _ h λ us a g.
      stepped (expression us) _ g λ e vs b k.
      after (ascii ";") vs _ k λ ws d m.
      let i = expression-sound us b in
      rw (← ok-item m, ← ok-rest m)
      (record {
        tree = nonblocking n e;
        spelled = ap (λ (z : List Token). name n ∷ z) (ap (λ (z : List Token). mark "<=" ∷ z) (ap (spell e) (sym d) ∙ i.spelled) ∙ sym a);
        means = refl;
        settled = i.grouped;
        free = tt;
      })

  assignment-sound : (ts : List Token) {c : Stmt Expr} {rest : List Token} → assignment index ts ≡ ok c rest → Found ts c rest
  unfolding assignment
  assignment-sound ts h =
      named ts _ h λ n us a g.
      rw a (next-ok (ascii "=") (blocking_to index n) (nonblocking_to index n) us (blocking-sound n us) (λ q j. nonblocking-sound n us j) g)

  module _ (inner : Reader (Stmt Expr)) (sound : Inner inner) where
    -- ---- statement_or_null

    null-sound : (ts : List Token) {c : Stmt Expr} {rest : List Token} → null_statement index ts ≡ ok c rest → FoundOrNull ts c rest
    unfolding null_statement spell_or_null or_null_of SettledOrNull is_open_or_null Clear
    null-sound ts h =
        after (ascii ";") ts _ h λ us a g.
        rw (← ok-item g, ← ok-rest g) (record { tree = null; spelled = sym a; means = refl; settled = tt; free = tt })

    some-sound : (ts : List Token) {c : Stmt Expr} {rest : List Token} → Found ts c rest → FoundOrNull ts c rest
    some-sound ts f =
        record {
          tree = some f.tree;
          spelled = unfold spell_or_null in f.spelled;
          means = unfold or_null_of in f.means;
          settled = unfold SettledOrNull in f.settled;
          free = unfold is_open_or_null in f.free;
        }

    or_null-sound : (ts : List Token) {c : Stmt Expr} {rest : List Token} → or_null index inner ts ≡ ok c rest → FoundOrNull ts c rest
    unfolding or_null
    or_null-sound ts {c} {rest} h =
        next-ok (ascii ";") (null_statement index) inner ts (null-sound ts) (λ q j. some-sound ts (sound ts c rest j)) h

    -- ---- if, with and without else

    without-else : (e : Expression) (ts us : List Token) (a : Stmt Expr) {c : Stmt Expr} {rest : List Token} → Grouped e
        → FoundOrNull ts a us
        → starts (ascii "else") us ≡ false → ok (if_then (expr_of index e) a) us ≡ ok c rest → Found (mark "if" ∷ spell_condition e ts) c rest
    unfolding spell_statement stmt_of Settled is_open Clear
    without-else e ts us a w f k h =
        rw (← ok-item h, ← ok-rest h)
        (record {
          tree = whether e f.tree;
          spelled = ap (λ (z : List Token). mark "if" ∷ spell_condition e z) f.spelled;
          means = ap (if_then (expr_of index e)) f.means;
          settled = (w, f.settled);
          free = k;
        })

    with-else : (e : Expression) (ts us : List Token) (a : Stmt Expr) {c : Stmt Expr} {rest : List Token} → Grouped e → FoundOrNull ts a us
        → else_part index inner (expr_of index e) a us ≡ ok c rest → Found (mark "if" ∷ spell_condition e ts) c rest
    unfolding else_part spell_statement stmt_of Settled is_open
    with-else e ts us a w f h =
        after (ascii "else") us _ h λ vs p g.
        stepped (or_null index inner vs) _ g λ b ws d k.
        let j = or_null-sound vs d in
        rw (← ok-item k, ← ok-rest k)
        (record {
          tree = either e f.tree j.tree;
          spelled = ap (λ (z : List Token). mark "if" ∷ spell_condition e z)
              (ap (λ (z : List Token). spell_or_null f.tree (mark "else" ∷ z)) j.spelled ∙ ap (spell_or_null f.tree)
              (sym p) ∙ f.spelled);
          means = rw (f.means, j.means) refl;
          settled = (w, f.settled, j.settled, closed (is_open_or_null f.tree) vs (rw p at f.free));
          free = j.free;
        })

    conditional-sound : (ts : List Token) {c : Stmt Expr} {rest : List Token} → conditional index inner ts ≡ ok c rest → Found ts c rest
    unfolding conditional or_else
    conditional-sound ts h =
        after (ascii "if") ts _ h λ us p g.
        stepped (condition us) _ g λ e vs q k.
        stepped (or_null index inner vs) _ k λ a ws r m.
        let i = condition-sound us q in
        let f = or_null-sound vs r in
        rw (p, ← i.0)
        (next-ok (ascii "else") (else_part index inner (expr_of index e) a) (give (if_then (expr_of index e) a)) ws
        (with-else e vs ws a i.1 f)
        (λ n j. without-else e vs ws a i.1 f n j) m)

    -- ---- loops and waits

    while-sound : (ts : List Token) {c : Stmt Expr} {rest : List Token} → while_loop index inner ts ≡ ok c rest → Found ts c rest
    unfolding while_loop spell_statement stmt_of Settled is_open
    while-sound ts h =
        after (ascii "while") ts _ h λ us p g.
        stepped (condition us) _ g λ e vs q k.
        stepped (inner vs) _ k λ a ws r m.
        let i = condition-sound us q in
        let f = sound vs a ws r in
        rw (← ok-item m, ← ok-rest m)
        (record {
          tree = repeats e f.tree;
          spelled = ap (λ (z : List Token). mark "while" ∷ z) (ap (spell_condition e) f.spelled ∙ i.0) ∙ sym p;
          means = ap (while (expr_of index e)) f.means;
          settled = (i.1, f.settled);
          free = f.free;
        })

    forever-sound : (ts : List Token) {c : Stmt Expr} {rest : List Token} → forever_loop index inner ts ≡ ok c rest → Found ts c rest
    unfolding forever_loop spell_statement stmt_of Settled is_open
    forever-sound ts h =
        after (ascii "forever") ts _ h λ us p g.
        stepped (inner us) _ g λ a vs r m.
        let f = sound us a vs r in
        rw (← ok-item m, ← ok-rest m)
        (record {
          tree = endless f.tree;
          spelled = ap (λ (z : List Token). mark "forever" ∷ z) f.spelled ∙ sym p;
          means = ap forever f.means;
          settled = f.settled;
          free = f.free;
        })

    timing-sound : (ts : List Token) {c : Stmt Expr} {rest : List Token} → timing index inner ts ≡ ok c rest → Found ts c rest
    unfolding timing spell_statement stmt_of Settled is_open
    timing-sound ts h =
        stepped (control index ts) _ h λ es us p g.
        stepped (or_null index inner us) _ g λ a vs r m.
        let i = control-sound ts p in
        let f = or_null-sound us r in
        rw (← ok-item m, ← ok-rest m)
        (record {
          tree = after_tree i.tree f.tree;
          spelled = ap (spell_control i.tree) f.spelled ∙ i.spelled;
          means = rw (i.means, f.means) refl;
          settled = f.settled;
          free = f.free;
        })

    -- ---- blocks

    InnerAll : Reader (List (Stmt Expr)) → Type 0
    InnerAll rest = (ts : List Token) (cs : List (Stmt Expr)) (us : List Token) → rest ts ≡ ok cs us → FoundAll ts cs us

    end-sound : (ts : List Token) {cs : List (Stmt Expr)} {rest : List Token} → block_end index ts ≡ ok cs rest → FoundAll ts cs rest
    unfolding block_end spell_all stmts_of SettledAll
    end-sound ts h =
        after (ascii "end") ts _ h λ us a g.
        rw (← ok-item g, ← ok-rest g) (record { trees = none; spelled = sym a; means = refl; settled = tt })

    all_sound : (g : ℕ) → InnerAll (statements index inner g)
    unfolding InnerAll statements block_more spell_all stmts_of SettledAll refuse
    all_sound zero ts cs rest h = absurd (no≢ok h)
    all_sound (suc g) ts cs rest h =
        next-ok (ascii "end") (block_end index) (block_more index inner (statements index inner g)) ts (end-sound ts)
        (λ q j.
        stepped (inner ts) _ j λ a us p k.
        stepped (statements index inner g us) _ k λ xs vs r m.
        let f = sound ts a us p in
        let i = all_sound g us xs vs r in
        rw (← ok-item m, ← ok-rest m)
        (record {
          trees = more f.tree i.trees;
          spelled = ap (spell_statement f.tree) i.spelled ∙ f.spelled;
          means = rw (f.means, i.means) refl;
          settled = (f.settled, i.settled);
        }))
        h

    block-sound : (ts : List Token) {c : Stmt Expr} {rest : List Token} → block index inner ts ≡ ok c rest → Found ts c rest
    unfolding block spell_statement stmt_of Settled is_open Clear InnerAll
    block-sound ts h =
        after (ascii "begin") ts _ h λ us p g.
        stepped (statements index inner (length us) us) _ g λ xs vs r m.
        let i = all_sound (length us) us xs vs r in
        rw (← ok-item m, ← ok-rest m)
        (record {
          tree = block_tree i.trees;
          spelled = ap (λ (z : List Token). mark "begin" ∷ z) i.spelled ∙ sym p;
          means = ap block_of i.means;
          settled = i.settled;
          free = tt;
        })

    -- ---- case

    label-sound : (ts : List Token) {i : Arm} {rest : List Token} → labelled_item index inner ts ≡ ok i rest → FoundItem ts 0 i rest
    unfolding labelled_item spell_item arm_of SettledItem defaults_of
    label-sound ts h =
        stepped (size ts) _ h λ w us p g.
        stepped (known_value us) _ g λ v vs q k.
        after (ascii ":") vs _ k λ ws r m.
        stepped (or_null index inner ws) _ m λ a xs d n.
        let f = or_null-sound ws d in
        rw (← ok-item n, ← ok-rest n)
        (record {
          tree = labelled w v f.tree;
          spelled =
              ap (λ (z : List Token). number true w ∷ known v ∷ mark ":" ∷ z) f.spelled
              ∙ ap (λ (z : List Token). number true w ∷ known v ∷ z) (sym r)
              ∙ ap (λ (z : List Token). number true w ∷ z) (sym (known_value-ok us q))
              ∙ sym (size_ok ts p);
          means = ap (on (number_expr (sized w v))) f.means;
          settled = f.settled;
          counted = refl;
        })

    -- `default`, with or without its colon
    default-plain : (us : List Token) {i : Arm} {rest : List Token} (a : Stmt Expr) → FoundOrNull us a rest → otherwise a ≡ i
        → FoundItem (mark "default" ∷ us) 1 i rest
    unfolding spell_item arm_of SettledItem defaults_of
    default-plain us a f e =
        record {
          tree = default f.tree;
          spelled = ap (λ (z : List Token). mark "default" ∷ z) f.spelled;
          means = ap otherwise f.means ∙ e;
          settled = f.settled;
          counted = refl;
        }

    default-with-colon : (us : List Token) {i : Arm} {rest : List Token} (a : Stmt Expr) → FoundOrNull us a rest → otherwise a ≡ i
        → FoundItem (mark "default" ∷ mark ":" ∷ us) 1 i rest
    unfolding spell_item arm_of SettledItem defaults_of
    default-with-colon us a f e =
        record {
          tree = default_colon f.tree;
          spelled = ap (λ (z : List Token). mark "default" ∷ mark ":" ∷ z) f.spelled;
          means = ap otherwise f.means ∙ e;
          settled = f.settled;
          counted = refl;
        }

    colon-sound : {P : Type 0} (ts us : List Token) {u : Unit {0}} → (ts ≡ mark ":" ∷ us → P) → (ts ≡ us → P) → colon index ts ≡ ok u us → P
    unfolding colon
    colon-sound ts us f g h =
        next-ok (ascii ":") (expect (ascii ":")) (give tt) ts (λ j. f (expect-ok (ascii ":") ts j)) (λ q j. g (ok-rest j)) h

    default-sound : (ts : List Token) {i : Arm} {rest : List Token} → default_item index inner ts ≡ ok i rest → FoundItem ts 1 i rest
    unfolding default_item
    default-sound ts h =
        after (ascii "default") ts _ h λ us p g.
        stepped (colon index us) _ g λ t vs q k.
        stepped (or_null index inner vs) _ k λ a ws r m.
        let f = or_null-sound vs r in
        rw (p, ← ok-rest m)
        (colon-sound us vs (λ e. rw e (default-with-colon vs a f (ok-item m))) (λ e. rw e (default-plain vs a f (ok-item m))) q)

    InnerItems : ℕ → Reader (List Arm) → Type 0
    InnerItems n rest = (ts : List Token) (is : List Arm) (us : List Token) → rest ts ≡ ok is us → FoundItems n ts is us

    behind-sound : (n d : ℕ) (rest : Reader (List Arm)) → n + d ≤ 1 → InnerItems (n + d) rest
        → (ts us : List Token) (i : Arm) {is : List Arm} {end : List Token}
        → FoundItem ts d i us → items_behind index rest i us ≡ ok is end → FoundItems n ts is end
    unfolding InnerItems items_behind items_end items_more spell_items arms_of SettledItems defaults
    behind-sound n d rest o inside ts us i {is} {end} f h =
        next-ok (ascii "endcase") (items_end index i) (items_more index rest i) us
        (λ j.
        after (ascii "endcase") us _ j λ vs p g.
        rw (← ok-item g, ← ok-rest g)
        (record {
          trees = last_item f.tree;
          spelled = ap (spell_item f.tree) (sym p) ∙ f.spelled;
          means = ap (λ (z : Arm). z ∷ []) f.means;
          settled = f.settled;
          once = rw f.counted o;
        }))
        (λ q j.
        stepped (rest us) _ j λ xs vs p g.
        let r = inside us xs vs p in
        rw (← ok-item g, ← ok-rest g)
        (record {
          trees = item f.tree r.trees;
          spelled = ap (spell_item f.tree) r.spelled ∙ f.spelled;
          means = rw (f.means, r.means) refl;
          settled = (f.settled, r.settled);
          once = let z = r.once in let y = f.counted in omega arith;
        }))
        h

    by_default : (g n : ℕ) → InnerItems 1 (case_items index inner g 1) → (ts : List Token) {is : List Arm} {rest : List Token}
        → pick (eqb n 0) (default_first index inner (case_items index inner g (suc n))) refuse ts ≡ ok is rest → FoundItems n ts is rest
    unfolding default_first refuse
    by_default g zero inside ts h =
        stepped (default_item index inner ts) _ h λ i us p k.
        behind-sound 0 1 (case_items index inner g 1) (omega arith) inside ts us i (default-sound ts p) k
    by_default g (suc n) inside ts h = absurd (no≢ok (rw (ne_eqb (suc n) 0 (omega arith)) at h))

    by-label : (g n : ℕ) → n ≤ 1 → InnerItems n (case_items index inner g n) → (ts : List Token) {is : List Arm} {rest : List Token}
        → label_first index inner (case_items index inner g n) ts ≡ ok is rest → FoundItems n ts is rest
    unfolding label_first
    by-label g n o inside ts h =
        stepped (labelled_item index inner ts) _ h λ i us p k.
        behind-sound n 0 (case_items index inner g n) (rw (add-zero n) o) (rw (add-zero n) inside) ts us i (label-sound ts p) k

    items-sound : (g n : ℕ) → n ≤ 1 → InnerItems n (case_items index inner g n)
    unfolding InnerItems case_items refuse
    items-sound zero n o ts is rest h = absurd (no≢ok h)
    items-sound (suc g) n o ts is rest h =
        next-ok (ascii "default") (pick (eqb n 0) (default_first index inner (case_items index inner g (suc n))) refuse)
        (label_first index inner (case_items index inner g n)) ts
        (by_default g n (items-sound g 1 (omega arith)) ts)
        (λ q j. by-label g n o (items-sound g n o) ts j)
        h

    case-sound : (ts : List Token) {c : Stmt Expr} {rest : List Token} → case_statement index inner ts ≡ ok c rest → Found ts c rest
    unfolding case_statement spell_statement stmt_of Settled is_open Clear InnerItems
    case-sound ts h =
        after (ascii "case") ts _ h λ us p g.
        stepped (condition us) _ g λ e vs q k.
        stepped (case_items index inner (length vs) 0 vs) _ k λ is ws r m.
        let i = condition-sound us q in
        let f = items-sound (length vs) 0 (omega arith) vs is ws r in
        let o = f.once in
        rw (← ok-item m, ← ok-rest m)
        (record {
          tree = selects e f.trees;
          spelled = ap (λ (z : List Token). mark "case" ∷ z) (ap (spell_condition e) f.spelled ∙ i.0) ∙ sym p;
          means = ap (case_of (expr_of index e)) f.means;
          settled = (i.1, f.settled, (omega arith));
          free = tt;
        })

    -- ---- the statement in front of a list

    by-sound : Inner (statement_by index inner)
    unfolding statement_by
    by-sound ts c rest h =
        next-ok (ascii "if") (conditional index inner) _ ts (conditional-sound ts) (λ p1 h1.
        next-ok (ascii "case") (case_statement index inner) _ ts (case-sound ts) (λ p2 h2.
        next-ok (ascii "while") (while_loop index inner) _ ts (while-sound ts) (λ p3 h3.
        next-ok (ascii "forever") (forever_loop index inner) _ ts (forever-sound ts) (λ p4 h4.
        next-ok (ascii "@") (timing index inner) _ ts (timing-sound ts) (λ p5 h5.
        next-ok (ascii "begin") (block index inner) (assignment index) ts (block-sound ts) (λ p6 h6. assignment-sound ts h6)
        h5) h4) h3) h2) h1) h

  pub statement-sound : (f : ℕ) → Inner (statement index f)
  unfolding statement refuse
  statement-sound zero ts c rest h = absurd (no≢ok h)
  statement-sound (suc f) ts c rest h = by-sound (statement index f) (statement-sound f) ts c rest h
