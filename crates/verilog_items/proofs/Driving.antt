-- Assigns: the reader on the tables follows the grammar's. Assumes nothing.
use mathlib.Core.Path.{◌≡◌, refl, sym, ap, ◌∙◌, subst}
use mathlib.Core.Bool.{Bool, true, false}
use mathlib.Core.List.{List, [], ◌∷◌, ◌++◌, map, append_assoc}
use Prim.Native.Nat.{ℕ, zero, suc, ◌+◌, ◌-◌, ◌<◌, ◌≤◌}
use native.Mathlib.Omega.{arith}
use lib.ListN.{length, drop}
use borrow.Author.Tests.{lt-ltb}
use Rattle.values.specs.Values.{pick}
use Rattle.writing.specs.Ascii.{ascii}
use Rattle.verilog_tokens.specs.Tokens.{Token, name, Name}
use Rattle.verilog_grammar.specs.AnnexA.{Expression, spell}
use Rattle.verilog_grammar.specs.Meaning.{Driven, Part, drives, expr_of}
use Rattle.verilog_grammar.specs.Reader.{Res, ok, no, Reader as Reads, bind, give, refuse, starts, if_next, expect, expression, listed, further_listed}
use Rattle.verilog_grammar.specs.Reader
use Rattle.verilog_grammar.proofs.ExpressionSound.{expression-sound}
use Rattle.verilog_grammar.proofs.ExpressionComplete.{longer}
use Rattle.verilog_bytes.specs.Held.{Held}
use Rattle.verilog_exprs.specs.declared.Put.{Put}
use Rattle.verilog_exprs.specs.Rows.{Wrote, wrote, answer, expected}
use Rattle.verilog_exprs.specs.Exprs.{expr_at}
use Rattle.verilog_exprs.specs.Claims.{LevelsFollow, bytes_of}
use Rattle.verilog_exprs.specs.Following.{Tabled, From, Stopped, Follows, byte_of}
use Rattle.verilog_exprs.proofs.Table.{expected-no}
use Rattle.verilog_exprs.proofs.Marks.{Numbered}
use Rattle.verilog_exprs.proofs.Reading.{levels-follow}
use Rattle.verilog_exprs.proofs.Follows.{starts_none, expect-first}
use Rattle.verilog_stmts.specs.Steps.{refused, after, is_next}
use Rattle.verilog_stmts.specs.Stmts.{value, value_at}
use Rattle.verilog_stmts.proofs.Signs.{comma-mark, gets-mark, semicolon-mark}
use Rattle.verilog_names.specs.Tables.{Along}
use Rattle.verilog_names.specs.Entries
use Rattle.verilog_names.specs.Entries.{Entry, entries_of, driving}
use Rattle.verilog_items.specs.Notes.{marked, Marks, marks, Notes, notes}
use Rattle.verilog_items.specs.Items.{passed, moved, rewound, in_text, refused_in, target, target_and, further_targets, targets, assigns}
use Rattle.verilog_items.specs.Following.{Good, GoodIn, Tells, TellsIn, Reached, Ends}
use Rattle.verilog_items.proofs.Noting.{marked-here, good-on, good-marked, noted_here}
use Rattle.verilog_items.proofs.Variables.{not-next}
use Rattle.verilog_items.proofs.Taking.{took-tells, Took, takes, leaves, Named, named, unnamed, expected-as, good-after, ident-named, expect-took, next-starts}

-- ---- expressions end where the grammar's do

pub after_next : (p : Put) → p.next < 16385 → (after p).next ≡ p.next + 1
unfolding after
after_next p h = rw (lt-ltb p.next 16385 h) refl

module _ (numbered : List ℕ → ℕ) (ts : List Token) (ks ns : List ℕ) (tab : Tabled numbered ts ks ns) where
  pub value-ends : (w : Wrote) (us : List Token) → Reached ts us w → w.put.pos ≡ 0 → Ends ts (value ks ns (length ts) w) (expression us)
  unfolding value value_at expression Follows Ends LevelsFollow
  value-ends w us h z =
      let n : length ts - w.put.next ≡ length us = omega (arith, h.to.count) in
      rw (h.yes, n, z) (weak _ (reader-is us) (levels-follow numbered ts us ks ns tab (length us) 1 w.put.next 0 w.bytes [] h.to held))
    where
      held : Held w.bytes 0 []
      held = record { room = h.room; place = refl; front = λ l. refl }

      reader-is : (us : List Token) → Res Expression
      reader-is us = Reader.reader (length us) 1 us

      weak : (v : Wrote) (r : Res Expression) → Follows ts [] (bytes_of (byte_of numbered)) v r → Ends ts v r
      weak v (ok e vs) f = record { yes = f.yes; to = f.to; room = f.holds.room }
      weak v (no n) f = f

expression-shorter : (us : List Token) (e : Expression) (rest : List Token) → expression us ≡ ok e rest → length rest ≤ length us
expression-shorter us e rest h =
    let f = expression-sound us h in
    let l = longer e rest in
    let s : length (spell e rest) ≡ length us = ap (λ x. length x) f.spelled in
    omega arith

module _ (index numbered : List ℕ → ℕ) (ts : List Token) (ks ns : List ℕ) (tab : Tabled numbered ts ks ns) where
  -- ---- a target, = and its expression

  abbrev pub driven_by : Name → Expression → Driven
  driven_by n e = record { target = n; value = expr_of index e }

  module _ (n : Name) (us : List Token) (s : Notes) (es : List Entry) (g : GoodIn index ts (name n ∷ us) s es) where
    -- Behind =, where the expression was read.
    noted : (vs : List Token) → drop (s.text.put.next + 2) ts ≡ vs → length vs ≤ length us → (w : Wrote) (r : Res Expression)
        → expression vs ≡ r → Ends ts w r
        → TellsIn index ts (λ d. es ++ Entries.target d ∷ []) (notes w (marked s.text.put.next 4 s.roles) s.widths)
        (bind r (λ e. give (driven_by n e)))
    unfolding Ends TellsIn
    noted vs d l w (no k) q h = h
    noted vs d l w (ok e rest) q h =
        let i = s.text.put.next in
        let c : i < 16385 = omega (arith, g.good.to.count, tab.few) in
        let role = marked-here i 4 s.roles c g.good.room_of_roles in
        let m = marks s.text.put s.roles s.widths in
        let x = good-marked index ts tab.few {m = m} g.good 4 s.widths g.good.room_of_widths (λ k j. refl)
        (noted_here index ts (marked i 4 s.roles) s.widths (rw role (omega arith))
        (driving role (record {
          target = record { behind = us; stands = g.good.to.rest };
          tree = e;
          rest = rest;
          reads = ap (λ l. expression l) d ∙ q;
          value = refl;
        }))) in
        let y = expression-shorter vs e rest q in
        let a = after_next s.text.put c in
        record {
          good = good-on index ts x w.put h.yes h.to (omega (arith, g.good.to.count, h.to.count));
          room = h.room;
        }

    behind : (r : Res (Unit {0})) → Took us (is_next ks 28 (after s.text.put)) r
        → TellsIn index ts (λ d. es ++ Entries.target d ∷ [])
        (notes (value ks ns (length ts) (wrote (rewound (pick (is_next ks 28 (after s.text.put)) after refused (after s.text.put))) s.text.bytes))
        (marked s.text.put.next 4 s.roles) s.widths)
        (bind r (λ u vs. bind (expression vs) (λ e. give (driven_by n e))))
    unfolding TellsIn rewound refused value
    behind (no k) (leaves y) =
        let m = marks s.text.put s.roles s.widths in
        let g1 = good-after index ts tab.few {m = m} g.good in
        rw y (record { not = refl; at = g1.to.count })
    behind (ok u vs) (takes {t = t} x y) =
        let m = marks s.text.put s.roles s.widths in
        let g1 = good-after index ts tab.few {m = m} g.good in
        let g2 = good-after index ts tab.few {m = passed after m} (subst (λ l. Good index ts l (passed after m) es) x g1) in
        let i = s.text.put.next in
        let c : i < 16385 = omega (arith, g.good.to.count, tab.few) in
        let a1 = after_next s.text.put c in
        let a2 = after_next (after s.text.put) (omega (arith, g1.to.count, tab.few)) in
        let j : (after (after s.text.put)).next ≡ i + 2 = omega (arith, a1, a2) in
        rw y (noted vs (ap (λ k. drop k ts) (sym j) ∙ g2.to.rest) (omega (arith, ap (λ l. length l) x)) _ (expression vs) refl
        (value-ends numbered ts ks ns tab (wrote (rewound (after (after s.text.put))) s.text.bytes) vs
        (record { yes = g2.yes; to = g2.to; room = g.room }) refl))

    pub target-tells : TellsIn index ts (λ d. es ++ Entries.target d ∷ []) (target ks ns (length ts) s)
        (bind (expect (ascii "=") us) (λ u vs. bind (expression vs) (λ e. give (driven_by n e))))
    unfolding target
    target-tells =
        let m = marks s.text.put s.roles s.widths in
        let g1 = good-after index ts tab.few {m = m} g.good in
        rw (expected-as ks 28 (after s.text.put) (omega arith))
        (behind (expect (ascii "=") us) (expect-took numbered ts ks ns tab (after s.text.put) g1.yes (ascii "=") 28 gets-mark (omega arith) us g1.to))

-- ---- readers one behind another, with the buffer

abbrev pub StaysIn : (Notes → Notes) → Type 0
StaysIn f = (s : Notes) → s.text.put.ok ≡ false → ((f s).text.put.ok ≡ false) × ((f s).text.put.next ≡ s.text.put.next)

module _ (index : List ℕ → ℕ) (ts : List Token) where
  pub tells_in-then : {A B : Type 0} (f : Notes → Notes) (e_a : A → List Entry) (e_b : B → List Entry) (s : Notes) (r : Res A) (g : A → Reads B)
      → TellsIn index ts e_a s r → StaysIn f
      → ((a : A) (us : List Token) → r ≡ ok a us → GoodIn index ts us s (e_a a) → TellsIn index ts e_b (f s) (g a us))
      → TellsIn index ts e_b (f s) (bind r g)
  unfolding TellsIn
  tells_in-then f e_a e_b s (ok a us) g h st k = k a us refl h
  tells_in-then f e_a e_b s (no n) g h st k =
      let x = st s h.not in
      record { not = x.0; at = ap (λ j. j + n) x.1 ∙ h.at }

  pub tells_in-map : {A B : Type 0} (e_a : A → List Entry) (e_b : B → List Entry) (x : A → B) (s : Notes) (r : Res A) → TellsIn index ts e_a s r
      → ((a : A) → e_a a ≡ e_b (x a)) → TellsIn index ts e_b s (bind r (λ a. give (x a)))
  unfolding TellsIn
  tells_in-map e_a e_b x s (ok a us) h same = rw (← same a) h
  tells_in-map e_a e_b x s (no n) h same = h

  -- What was read without the buffer.
  pub lifted : {A : Type 0} (e : A → List Entry) (m : Marks) (bs : List ℕ) (r : Res A) → length bs ≡ 65536 → Tells index ts e m r
      → TellsIn index ts e (notes (wrote m.put bs) m.roles m.widths) r
  unfolding Tells TellsIn
  lifted e m bs (ok a us) l h = record { good = h; room = l }
  lifted e m bs (no n) l h = record { not = h.not; at = h.at }

-- ---- target = expression { , target = expression }

module _ (index numbered : List ℕ → ℕ) (ts : List Token) (ks ns : List ℕ) (tab : Tabled numbered ts ks ns) where
  module _ (rest : Notes → Notes) (rd : Reads (List Driven))
      (ih : (s : Notes) (us : List Token) (es : List Entry) → GoodIn index ts us s es
      → TellsIn index ts (λ l. es ++ map Entries.target l) (rest s) (rd us)) where
    more-tell : (d : Driven) (es : List Entry) (s : Notes) (vs : List Token) → GoodIn index ts vs s (es ++ Entries.target d ∷ [])
        → TellsIn index ts (λ l. es ++ map Entries.target l) (target_and ks ns (length ts) rest s)
        (if_next (ascii ",") (further_listed rd d) (give (d ∷ [])) vs)
    unfolding target_and further_targets if_next further_listed TellsIn
    more-tell d es s vs k = by vs k (starts (ascii ",") vs) refl
      where
        by : (vs : List Token) → GoodIn index ts vs s (es ++ Entries.target d ∷ []) → (b : Bool) → starts (ascii ",") vs ≡ b
            → TellsIn index ts (λ l. es ++ map Entries.target l) (target_and ks ns (length ts) rest s)
            (if_next (ascii ",") (further_listed rd d) (give (d ∷ [])) vs)
        by vs k false z =
            rw (next-starts numbered ts ks ns tab s.text.put vs k.good.yes k.good.to (ascii ",") 26 comma-mark (omega arith), z) k
        by [] k true z = absurd (starts_none (ascii ",") z)
        by (t ∷ vs) k true z =
            rw (next-starts numbered ts ks ns tab s.text.put (t ∷ vs) k.good.yes k.good.to (ascii ",") 26 comma-mark (omega arith), z, expect-first (ascii ",") t vs z)
            (tells_in-map index ts (λ l. (es ++ Entries.target d ∷ []) ++ map Entries.target l) (λ l. es ++ map Entries.target l) (λ l. d ∷ l)
            (rest (in_text (moved after) s)) (rd vs)
            (ih (in_text (moved after) s) vs (es ++ Entries.target d ∷ [])
            (record { good = good-after index ts tab.few {m = marks s.text.put s.roles s.widths} k.good; room = k.room }))
            (λ l. append_assoc es (Entries.target d ∷ []) (map Entries.target l)))

    stays-and : StaysIn (target_and ks ns (length ts) rest)
    unfolding target_and
    stays-and s h = rw (not-next ks 26 s.text.put h) (h, refl)

    target-then : (s : Notes) (us : List Token) (es : List Entry) → GoodIn index ts us s es → (r : Res Name) → Named us (is_next ks 64 s.text.put) r
        → TellsIn index ts (λ l. es ++ map Entries.target l)
        (pick (is_next ks 64 s.text.put) (λ t. target_and ks ns (length ts) rest (target ks ns (length ts) t)) refused_in s)
        (bind (bind r (λ n vs. bind (expect (ascii "=") vs) (λ u xs. bind (expression xs) (λ e. give (driven_by index numbered ts ks ns tab n e)))))
        (λ d. if_next (ascii ",") (further_listed rd d) (give (d ∷ []))))
    unfolding TellsIn refused
    target-then s us es h (ok n vs) (named x y) =
        rw y (tells_in-then index ts (target_and ks ns (length ts) rest) (λ d. es ++ Entries.target d ∷ []) (λ l. es ++ map Entries.target l)
        (target ks ns (length ts) s)
        (bind (expect (ascii "=") vs) (λ u xs. bind (expression xs) (λ e. give (driven_by index numbered ts ks ns tab n e))))
        (λ d. if_next (ascii ",") (further_listed rd d) (give (d ∷ [])))
        (target-tells index numbered ts ks ns tab n vs s es (subst (λ l. GoodIn index ts l s es) x h)) stays-and
        (λ d xs q j. more-tell d es (target ks ns (length ts) s) xs j))
    target-then s us es h (no n) (unnamed y) = rw y (record { not = refl; at = h.good.to.count })

  pub targets-tell : (g : ℕ) (s : Notes) (us : List Token) (es : List Entry) → GoodIn index ts us s es
      → TellsIn index ts (λ l. es ++ map Entries.target l) (targets ks ns (length ts) g s) (listed (Reader.net_assignment index) g us)
  unfolding targets listed refuse TellsIn refused Reader.net_assignment
  targets-tell zero s us es h = record { not = refl; at = h.good.to.count }
  targets-tell (suc g) s us es h =
      target-then (targets ks ns (length ts) g) (listed (Reader.net_assignment index) g) (targets-tell g) s us es h (Reader.ident us)
      (ident-named numbered ts ks ns tab s.text.put h.good.yes us h.good.to)

  stays-targets : (g : ℕ) → StaysIn (targets ks ns (length ts) g)
  unfolding targets refused
  stays-targets zero s h = (refl, refl)
  stays-targets (suc g) s h = rw (not-next ks 64 s.text.put h) (refl, refl)

  -- A mark that is asked for.
  pub asked_in : {B : Type 0} (w : List ℕ) (k : ℕ) → Numbered w k → 1 ≤ k → (f : Notes → Notes) → StaysIn f → (e_b : B → List Entry)
      (g : Unit {0} → Reads B) (s : Notes) (us : List Token) (es : List Entry) → GoodIn index ts us s es
      → ((vs : List Token) → GoodIn index ts vs (in_text (moved (expected ks k)) s) es → TellsIn index ts e_b (f (in_text (moved (expected ks k)) s)) (g tt vs))
      → TellsIn index ts e_b (f (in_text (moved (expected ks k)) s)) (bind (expect w us) g)
  asked_in w k mark one f st e_b g s us es h c =
      tells_in-then index ts f (λ u. es) e_b (in_text (moved (expected ks k)) s) (expect w us) g
      (lifted index ts (λ u. es) (passed (expected ks k) (marks s.text.put s.roles s.widths)) s.text.bytes (expect w us) h.room
      (rw (expected-as ks k s.text.put one)
      (took-tells index ts tab.few (λ u. es) (expect w us) {m = marks s.text.put s.roles s.widths} h.good (λ u. refl)
      (expect-took numbered ts ks ns tab s.text.put h.good.yes w k mark one us h.good.to))))
      st (λ u vs q j. c vs j)

  pub stays-mark : (k : ℕ) → StaysIn (in_text (moved (expected ks k)))
  stays-mark k s h = rw (expected-no ks k s.text.put h) (refl, refl)

  pub assigns-tell : (s : Notes) (us : List Token) (es : List Entry) → GoodIn index ts us s es → starts (ascii "assign") us ≡ true
      → TellsIn index ts (λ q. es ++ entries_of q) (assigns ks ns (length ts) s) (Reader.continuous_assign index us)
  unfolding assigns Reader.continuous_assign Reader.list entries_of TellsIn
  assigns-tell s [] es h z = absurd (starts_none (ascii "assign") z)
  assigns-tell s (t ∷ us) es h z =
      let a = in_text (moved after) s in
      let g1 = good-after index ts tab.few {m = marks s.text.put s.roles s.widths} h.good in
      let h1 : GoodIn index ts us a es = record { good = g1; room = h.room } in
      let n : length ts - a.text.put.next ≡ length us = omega (arith, g1.to.count) in
      let b = targets ks ns (length ts) (length us) a in
      rw (expect-first (ascii "assign") t us z, n)
      (tells_in-then index ts (in_text (moved (expected ks 25))) (λ l. es ++ map Entries.target l) (λ q. es ++ entries_of q) b
      (listed (Reader.net_assignment index) (length us) us) (λ l vs. bind (expect (ascii ";") vs) (λ u. give (drives l)))
      (targets-tell (length us) a us es h1) (stays-mark 25)
      (λ l vs q j. asked_in (ascii ";") 25 semicolon-mark (omega arith) (λ x. x) (λ x e. (e, refl)) (λ q. es ++ entries_of q) (λ u. give (drives l)) b vs
      (es ++ map Entries.target l) j (λ xs k. k)))
