-- The claims: what is read has a derivation, what has one is read, and all derivations of the same tokens mean the same.
-- Assumes nothing.
use mathlib.Core.Path.{◌≡◌, refl, sym, ap, ◌∙◌}
use mathlib.Core.List.{List, [], ◌∷◌}
use Prim.Native.Nat.{ℕ, zero, suc}
use Prim.Native.String.{String}
use lib.ListN.{length}
use Rattle.writing.specs.Ascii.{ascii}
use Rattle.verilog_tokens.specs.Tokens.{Token, name, number, Name}
use Rattle.verilog_grammar.specs.AnnexA.{mark, Listed, one, also, spell_listed, spell_name, Range, no_range, down_to, spell_range, spell_net, Item, input, reg, wire, assign, always, spell_declared, spell_part, spell_parts, yield}
use Rattle.verilog_grammar.specs.Conditions.{Every, GroupedNet, SettledPart, SettledParts, Counts}
use Rattle.verilog_grammar.specs.Meaning.{Kind, an_input, a_register, a_wire, Driven, Part, declares, drives, runs, Source, width_of, list_of, same, driven_of, part_of, parts_of, meaning}
use Rattle.verilog_grammar.specs.Reader.{ok, Reader, give, refuse, ident, unsigned, naught, expression, further_listed, listed, list, statement, bounds, range, declaration, net_assignment, continuous_assign, always_construct, module_item, module_end, module_more, module_items, ended, read_module}
use Rattle.verilog_grammar.specs.Claims.{Derivation, OnlyDerived, AllDerived, OneMeaning}
use Rattle.verilog_grammar.proofs.Steps.{no≢ok, ok-item, ok-rest, stepped, after, named, next-ok, ident-ok, unsigned-ok, naught-ok}
use Rattle.verilog_grammar.proofs.ExpressionSound.{expression-sound}
use Rattle.verilog_grammar.proofs.StatementSound.{statement-sound}
use Rattle.verilog_grammar.proofs.ModuleComplete.{module-read}

-- ---- lists

pub record FoundList {T A : Type 0} (sp : T → List Token → List Token) (f : T → A) (P : T → Type 0) (ts : List Token) (xs : List A)
    (rest : List Token) : Type 0 where
  pub trees : Listed T
  pub spelled : spell_listed sp trees rest ≡ ts
  pub means : list_of f trees ≡ xs
  pub each : Every P trees

pub record FoundOne {T A : Type 0} (sp : T → List Token → List Token) (f : T → A) (P : T → Type 0) (ts : List Token) (a : A)
    (rest : List Token) : Type 0 where
  pub tree : T
  pub spelled : sp tree rest ≡ ts
  pub means : f tree ≡ a
  pub fits : P tree

module _ {T A : Type 0} (thing : Reader A) (sp : T → List Token → List Token) (f : T → A) (P : T → Type 0)
    (sound : (ts : List Token) (a : A) (rest : List Token) → thing ts ≡ ok a rest → FoundOne sp f P ts a rest) where
  single : (ts us : List Token) (a : A) → FoundOne sp f P ts a us → FoundList sp f P ts (a ∷ []) us
  unfolding spell_listed list_of Every
  single ts us a i =
      record { trees = one i.tree; spelled = i.spelled; means = ap (λ (z : A). z ∷ []) i.means; each = i.fits }

  several : (ts us vs rest : List Token) (a : A) (xs : List A) → FoundOne sp f P ts a us → us ≡ mark "," ∷ vs → FoundList sp f P vs xs rest
      → FoundList sp f P ts (a ∷ xs) rest
  unfolding spell_listed list_of Every
  several ts us vs rest a xs i p g =
      record {
        trees = also i.tree g.trees;
        spelled = ap (λ (z : List Token). sp i.tree (mark "," ∷ z)) g.spelled ∙ ap (sp i.tree) (sym p) ∙ i.spelled;
        means = rw (i.means, g.means) refl;
        each = (i.fits, g.each);
      }

  listed-sound : (g : ℕ) (ts : List Token) (xs : List A) (rest : List Token) → listed thing g ts ≡ ok xs rest → FoundList sp f P ts xs rest
  unfolding listed further_listed refuse
  listed-sound zero ts xs rest h = absurd (no≢ok h)
  listed-sound (suc g) ts xs rest h =
      stepped (thing ts) _ h λ a us p k.
      next-ok (ascii ",") (further_listed (listed thing g) a) (give (a ∷ [])) us
      (λ j.
      after (ascii ",") us _ j λ vs q m.
      stepped (listed thing g vs) _ m λ ys ws r n.
      rw (← ok-item n, ← ok-rest n) (several ts us vs ws a ys (sound ts a us p) q (listed-sound g vs ys ws r)))
      (λ q j. rw (← ok-item j, ← ok-rest j) (single ts us a (sound ts a us p)))
      k

  list-sound : (ts : List Token) {xs : List A} {rest : List Token} → list thing ts ≡ ok xs rest → FoundList sp f P ts xs rest
  unfolding list
  list-sound ts {xs} {rest} h = listed-sound (length ts) ts xs rest h

AnyName : Name → Type 0
AnyName n = Unit {0}

name-sound : (ts : List Token) (n : Name) (rest : List Token) → ident ts ≡ ok n rest → FoundOne spell_name same AnyName ts n rest
unfolding spell_name AnyName
name-sound ts n rest h =
    record { tree = n; spelled = sym (ident-ok ts h); means = refl; fits = tt }

abbrev FoundNames : List Token → List Name → List Token → Type 0
FoundNames ts ns rest = FoundList spell_name same AnyName ts ns rest

names-sound : (ts : List Token) {ns : List Name} {rest : List Token} → list ident ts ≡ ok ns rest → FoundNames ts ns rest
names-sound ts h = list-sound ident spell_name same AnyName name-sound ts h

module _ (index : List ℕ → ℕ) where
  -- ---- declarations

  pub record FoundRange (ts : List Token) (w : ℕ) (rest : List Token) : Type 0 where
    pub tree : Range
    pub spelled : spell_range tree rest ≡ ts
    pub means : width_of tree ≡ w

  bounds-sound : (ts : List Token) {w : ℕ} {rest : List Token} → bounds index ts ≡ ok w rest → FoundRange ts w rest
  unfolding bounds spell_range width_of
  bounds-sound ts h =
      after (ascii "[") ts _ h λ us p g.
      stepped (unsigned us) _ g λ n vs q k.
      after (ascii ":") vs _ k λ ws r m.
      stepped (naught ws) _ m λ u xs s l.
      after (ascii "]") xs _ l λ ys t o.
      let a = unsigned-ok us q in
      let b = naught-ok ws s in
      rw (← ok-item o, ← ok-rest o)
      (record {
        tree = down_to a.0 n b.0;
        spelled =
            ap (λ (z : List Token). mark "[" ∷ number a.0 n ∷ mark ":" ∷ number b.0 0 ∷ z) (sym t)
            ∙ ap (λ (z : List Token). mark "[" ∷ number a.0 n ∷ mark ":" ∷ z) (sym b.1)
            ∙ ap (λ (z : List Token). mark "[" ∷ number a.0 n ∷ z) (sym r)
            ∙ ap (λ (z : List Token). mark "[" ∷ z) (sym a.1)
            ∙ sym p;
        means = refl;
      })

  bit-sound : (ts : List Token) {w : ℕ} {rest : List Token} → ok 1 ts ≡ ok w rest → FoundRange ts w rest
  unfolding spell_range width_of
  bit-sound ts h = rw (← ok-item h, ← ok-rest h) (record { tree = no_range; spelled = refl; means = refl })

  range-sound : (ts : List Token) {w : ℕ} {rest : List Token} → range index ts ≡ ok w rest → FoundRange ts w rest
  unfolding range
  range-sound ts h = next-ok (ascii "[") (bounds index) (give 1) ts (bounds-sound ts) (λ q j. bit-sound ts j) h

  pub record FoundDeclared (s : String) (k : Kind) (ts : List Token) (p : Part) (rest : List Token) : Type 0 where
    pub bits : Range
    pub names : Listed Name
    pub spelled : spell_declared s bits names rest ≡ ts
    pub means : declares k (width_of bits) (list_of same names) ≡ p

  declaration-sound : (s : String) (k : Kind) (ts : List Token) {p : Part} {rest : List Token}
      → declaration index (ascii s) k ts ≡ ok p rest
      → FoundDeclared s k ts p rest
  unfolding declaration spell_declared
  declaration-sound s k ts h =
      after (ascii s) ts _ h λ us p g.
      stepped (range index us) _ g λ w vs q m.
      stepped (list ident vs) _ m λ ns ws r n.
      after (ascii ";") ws _ n λ xs t o.
      let i = range-sound us q in
      let j = names-sound vs r in
      rw (← ok-item o, ← ok-rest o)
      (record {
        bits = i.tree;
        names = j.trees;
        spelled =
            ap (λ (z : List Token). mark s ∷ z)
            (ap (spell_range i.tree) (ap (spell_listed spell_name j.trees) (sym t) ∙ j.spelled) ∙ i.spelled)
            ∙ sym p;
        means = rw (i.means, j.means) refl;
      })

  -- ---- assign and always

  net-sound : (ts : List Token) (d : Driven) (rest : List Token) → net_assignment index ts ≡ ok d rest
      → FoundOne spell_net (driven_of index) GroupedNet ts d rest
  unfolding net_assignment spell_net driven_of GroupedNet
  net-sound ts d rest h =
      named ts _ h λ n us p g.
      after (ascii "=") us _ g λ vs q k.
      stepped (expression vs) _ k λ e ws r m.
      let i = expression-sound vs r in
      rw (← ok-item m, ← ok-rest m)
      (record {
        tree = record { target = n; value = e };
        spelled = ap (λ (z : List Token). name n ∷ mark "=" ∷ z) i.spelled ∙ ap (λ (z : List Token). name n ∷ z) (sym q) ∙ sym p;
        means = refl;
        fits = i.grouped;
      })

  pub record FoundPart (ts : List Token) (p : Part) (rest : List Token) : Type 0 where
    pub tree : Item
    pub spelled : spell_part tree rest ≡ ts
    pub means : part_of index tree ≡ p
    pub settled : SettledPart tree

  assign-sound : (ts : List Token) {p : Part} {rest : List Token} → continuous_assign index ts ≡ ok p rest → FoundPart ts p rest
  unfolding continuous_assign spell_part part_of SettledPart
  assign-sound ts h =
      after (ascii "assign") ts _ h λ us p g.
      stepped (list (net_assignment index) us) _ g λ xs vs q k.
      after (ascii ";") vs _ k λ ws r m.
      let i = list-sound (net_assignment index) spell_net (driven_of index) GroupedNet net-sound us q in
      rw (← ok-item m, ← ok-rest m)
      (record {
        tree = assign i.trees;
        spelled = ap (λ (z : List Token). mark "assign" ∷ z) (ap (spell_listed spell_net i.trees) (sym r) ∙ i.spelled) ∙ sym p;
        means = ap drives i.means;
        settled = i.each;
      })

  always-sound : (ts : List Token) {p : Part} {rest : List Token} → always_construct index ts ≡ ok p rest → FoundPart ts p rest
  unfolding always_construct spell_part part_of SettledPart
  always-sound ts h =
      after (ascii "always") ts _ h λ us p g.
      stepped (statement index (length us) us) _ g λ c vs q k.
      let i = statement-sound index (length us) us c vs q in
      rw (← ok-item k, ← ok-rest k)
      (record {
        tree = always i.tree;
        spelled = ap (λ (z : List Token). mark "always" ∷ z) i.spelled ∙ sym p;
        means = ap runs i.means;
        settled = i.settled;
      })

  input-sound : (ts : List Token) {p : Part} {rest : List Token} → FoundDeclared "input" an_input ts p rest → FoundPart ts p rest
  unfolding spell_part part_of SettledPart
  input-sound ts i = record { tree = input i.bits i.names; spelled = i.spelled; means = i.means; settled = tt }

  reg-sound : (ts : List Token) {p : Part} {rest : List Token} → FoundDeclared "reg" a_register ts p rest → FoundPart ts p rest
  unfolding spell_part part_of SettledPart
  reg-sound ts i = record { tree = reg i.bits i.names; spelled = i.spelled; means = i.means; settled = tt }

  wire-sound : (ts : List Token) {p : Part} {rest : List Token} → FoundDeclared "wire" a_wire ts p rest → FoundPart ts p rest
  unfolding spell_part part_of SettledPart
  wire-sound ts i = record { tree = wire i.bits i.names; spelled = i.spelled; means = i.means; settled = tt }

  part_sound : (ts : List Token) {p : Part} {rest : List Token} → module_item index ts ≡ ok p rest → FoundPart ts p rest
  unfolding module_item
  part_sound ts h =
      next-ok (ascii "input") (declaration index (ascii "input") an_input) _ ts
      (λ j. input-sound ts (declaration-sound "input" an_input ts j)) (λ p1 h1.
      next-ok (ascii "reg") (declaration index (ascii "reg") a_register) _ ts (λ j. reg-sound ts (declaration-sound "reg" a_register ts j))
      (λ p2 h2.
      next-ok (ascii "wire") (declaration index (ascii "wire") a_wire) _ ts (λ j. wire-sound ts (declaration-sound "wire" a_wire ts j))
      (λ p3 h3.
      next-ok (ascii "assign") (continuous_assign index) (always_construct index) ts (assign-sound ts) (λ p4 h4. always-sound ts h4)
      h3) h2) h1) h

  -- ---- items

  pub record FoundParts (ts : List Token) (ps : List Part) (rest : List Token) : Type 0 where
    pub trees : List Item
    pub spelled : spell_parts trees rest ≡ ts
    pub means : parts_of index trees ≡ ps
    pub settled : SettledParts trees

  end-sound : (ts : List Token) {ps : List Part} {rest : List Token} → module_end index ts ≡ ok ps rest → FoundParts ts ps rest
  unfolding module_end spell_parts parts_of SettledParts
  end-sound ts h =
      after (ascii "endmodule") ts _ h λ us p g.
      rw (← ok-item g, ← ok-rest g) (record { trees = []; spelled = sym p; means = refl; settled = tt })

  parts-sound : (g : ℕ) (ts : List Token) (ps : List Part) (rest : List Token) → module_items index g ts ≡ ok ps rest → FoundParts ts ps rest
  unfolding module_items module_more spell_parts parts_of SettledParts refuse
  parts-sound zero ts ps rest h = absurd (no≢ok h)
  parts-sound (suc g) ts ps rest h =
      next-ok (ascii "endmodule") (module_end index) (module_more index (module_items index g)) ts (end-sound ts)
      (λ q j.
      stepped (module_item index ts) _ j λ a us p k.
      stepped (module_items index g us) _ k λ xs vs r m.
      let f = part_sound ts p in
      let i = parts-sound g us xs vs r in
      rw (← ok-item m, ← ok-rest m)
      (record {
        trees = f.tree ∷ i.trees;
        spelled = ap (spell_part f.tree) i.spelled ∙ f.spelled;
        means = rw (f.means, i.means) refl;
        settled = (f.settled, i.settled);
      }))
      h

  ended-ok : (ts : List Token) {u : Unit {0}} {us : List Token} → ended index ts ≡ ok u us → (ts ≡ []) × (us ≡ [])
  unfolding ended
  ended-ok [] h = (refl, sym (ok-rest h))
  ended-ok (t ∷ ts) h = absurd (no≢ok h)

  -- ---- the module

  module-sound : (ts : List Token) (s : Source) (rest : List Token) → read_module index ts ≡ ok s rest → Derivation index ts s
  unfolding read_module yield meaning Counts
  module-sound ts s rest h =
      after (ascii "module") ts _ h λ t1 p1 h1.
      named t1 _ h1 λ n t2 p2 h2.
      after (ascii "(") t2 _ h2 λ t3 p3 h3.
      stepped (list ident t3) _ h3 λ ns t4 p4 h4.
      after (ascii ")") t4 _ h4 λ t5 p5 h5.
      after (ascii ";") t5 _ h5 λ t6 p6 h6.
      stepped (module_items index (length t6) t6) _ h6 λ ps t7 p7 h7.
      stepped (ended index t7) _ h7 λ u t8 p8 h8.
      let i = names-sound t3 p4 in
      let j = parts-sound (length t6) t6 ps t7 p7 in
      let e : spell_parts j.trees [] ≡ t6 = ap (spell_parts j.trees) (sym (ended-ok t7 p8).0) ∙ j.spelled in
      rw (← ok-item h8)
      (record {
        tree = record { title = n; ports = i.trees; items = j.trees };
        counts = j.settled;
        yields =
            ap (λ (z : List Token). mark "module" ∷ name n ∷ mark "(" ∷ spell_listed spell_name i.trees (mark ")" ∷ mark ";" ∷ z)) e
            ∙ ap (λ (z : List Token). mark "module" ∷ name n ∷ mark "(" ∷ spell_listed spell_name i.trees (mark ")" ∷ z)) (sym p6)
            ∙ ap (λ (z : List Token). mark "module" ∷ name n ∷ mark "(" ∷ spell_listed spell_name i.trees z) (sym p5)
            ∙ ap (λ (z : List Token). mark "module" ∷ name n ∷ mark "(" ∷ z) i.spelled
            ∙ ap (λ (z : List Token). mark "module" ∷ name n ∷ z) (sym p3)
            ∙ ap (λ (z : List Token). mark "module" ∷ z) (sym p2)
            ∙ sym p1;
        means = rw (i.means, j.means) refl;
      })

-- ---- the claims

pub only-derived : OnlyDerived
unfolding OnlyDerived
only-derived index ts s rest h = module-sound index ts s rest h

pub all-derived : AllDerived
unfolding AllDerived
all-derived index ts s d = rw (← d.yields, ← d.means) (module-read index d.tree d.counts)

pub one-meaning : OneMeaning
unfolding OneMeaning
one-meaning index m n v w e =
    let p = module-read index m v in
    let q : read_module index (yield m) ≡ ok (meaning index n) [] = rw e (module-read index n w) in
    ok-item (sym p ∙ q)
