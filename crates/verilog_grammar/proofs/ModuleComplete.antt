-- Every module whose parts count means what the reader makes of its tokens.
-- Assumes nothing.
use mathlib.Core.Path.{◌≡◌, refl, ◌∙◌}
use mathlib.Core.Bool.{Bool, false}
use mathlib.Core.List.{List, [], ◌∷◌}
use Prim.Native.Nat.{ℕ, zero, suc, ◌+◌, ◌≤◌, ◌<◌}
use Prim.Native.String.{String}
use native.Mathlib.Omega.{arith}
use lib.ListN.{length}
use Rattle.writing.specs.Ascii.{ascii}
use Rattle.naming.specs.Naming.{same_text}
use Rattle.verilog_tokens.specs.Tokens.{Token, name, number, Name}
use Rattle.verilog_grammar.specs.AnnexA.{mark, spell, Statement, spell_statement, Listed, one, also, spell_listed, spell_name, Range, no_range, down_to, spell_range, NetAssignment, spell_net, Item, input, reg, wire, assign, always, spell_declared, spell_part, spell_parts, ModuleDeclaration, yield}
use Rattle.verilog_grammar.specs.Conditions.{Every, GroupedNet, SettledPart, SettledParts, Counts}
use Rattle.verilog_grammar.specs.Meaning.{Kind, an_input, a_register, a_wire, Part, declares, drives, runs, width_of, list_of, same, stmt_of, driven_of, part_of, parts_of, meaning}
use Rattle.verilog_grammar.specs.Reader.{ok, Reader, give, is_mark, starts, if_next, ident, unsigned, naught, further_listed, listed, list, bounds, range, declaration, net_assignment, continuous_assign, always_construct, module_item, module_end, module_more, module_items, ended, read_module}
use Rattle.verilog_grammar.proofs.Steps.{expected, next-is, next-not}
use Rattle.verilog_grammar.proofs.Operators.{leads}
use Rattle.verilog_grammar.proofs.ExpressionComplete.{longer, leads-close, leads-semicolon, leads-comma, expression-read}
use Rattle.verilog_grammar.proofs.StatementComplete.{longer-statement, statement-read}

-- ---- lists

further-step : {A : Type 0} (inner : Reader (List A)) (a : A) (xs : List A) (ts rest : List Token) → inner ts ≡ ok xs rest
    → further_listed inner a (mark "," ∷ ts) ≡ ok (a ∷ xs) rest
unfolding further_listed
further-step inner a xs ts rest e = rw (expected (ascii ",") ts, e) refl

module _ {T A : Type 0} (thing : Reader A) (sp : T → List Token → List Token) (f : T → A) (P : T → Type 0)
    (each : (a : T) (rest : List Token) → P a → leads rest < 1 → thing (sp a rest) ≡ ok (f a) rest)
    (longer-each : (a : T) (rest : List Token) → length rest < length (sp a rest)) where
  longer-listed : (xs : Listed T) (rest : List Token) → length rest < length (spell_listed sp xs rest)
  unfolding spell_listed
  longer-listed (one a) rest = longer-each a rest
  longer-listed (also a xs) rest =
      let h = longer-each a (mark "," ∷ spell_listed sp xs rest) in
      let g = longer-listed xs rest in
      omega arith

  listed-read : (xs : Listed T) (g : ℕ) (rest : List Token) → Every P xs → leads rest < 1 → starts (ascii ",") rest ≡ false
      → length (spell_listed sp xs rest) ≤ g → listed thing g (spell_listed sp xs rest) ≡ ok (list_of f xs) rest
  unfolding listed spell_listed list_of Every
  listed-read (one a) zero rest p h c l = let n = longer-each a rest in absurd (omega arith)
  listed-read (one a) (suc g) rest p h c l =
      rw (each a rest p h) (next-not (ascii ",") (further_listed (listed thing g) (f a)) (give (f a ∷ [])) rest c)
  listed-read (also a xs) zero rest p h c l = let n = longer-each a (mark "," ∷ spell_listed sp xs rest) in absurd (omega arith)
  listed-read (also a xs) (suc g) rest p h c l =
      let ts = spell_listed sp xs rest in
      let n = longer-each a (mark "," ∷ ts) in
      rw (each a (mark "," ∷ ts) p.0 (rw (leads-comma ts) (omega arith)))
      (next-is (ascii ",") (further_listed (listed thing g) (f a)) (give (f a ∷ [])) ts
      ∙ further-step (listed thing g) (f a) (list_of f xs) ts rest (listed-read xs g rest p.1 h c (omega arith)))

  list_read : (xs : Listed T) (rest : List Token) → Every P xs → leads rest < 1 → starts (ascii ",") rest ≡ false
      → list thing (spell_listed sp xs rest) ≡ ok (list_of f xs) rest
  unfolding list
  list_read xs rest p h c = listed-read xs (length (spell_listed sp xs rest)) rest p h c (omega arith)

-- ---- names

AnyName : Name → Type 0
AnyName n = Unit {0}

any-names : (ns : Listed Name) → Every AnyName ns
unfolding Every AnyName
any-names (one n) = tt
any-names (also n ns) = (tt, any-names ns)

name-read : (n : Name) (rest : List Token) → AnyName n → leads rest < 1 → ident (spell_name n rest) ≡ ok (same n) rest
unfolding ident spell_name
name-read n rest p h = refl

longer-name : (n : Name) (rest : List Token) → length rest < length (spell_name n rest)
unfolding spell_name
longer-name n rest = omega arith

names-read : (ns : Listed Name) (rest : List Token) → leads rest < 1 → starts (ascii ",") rest ≡ false
    → list ident (spell_listed spell_name ns rest) ≡ ok (list_of same ns) rest
names-read ns rest h c = list_read ident spell_name same AnyName name-read longer-name ns rest (any-names ns) h c

longer-names : (ns : Listed Name) (rest : List Token) → length rest < length (spell_listed spell_name ns rest)
longer-names ns rest = longer-listed ident spell_name same AnyName name-read longer-name ns rest

names-open : (ns : Listed Name) (rest : List Token) → starts (ascii "[") (spell_listed spell_name ns rest) ≡ false
unfolding spell_listed spell_name starts is_mark
names-open (one n) rest = refl
names-open (also n ns) rest = refl

-- ---- what stands behind a list

no-comma-close : (ts : List Token) → starts (ascii ",") (mark ")" ∷ ts) ≡ false
unfolding starts is_mark ascii same_text
no-comma-close ts = refl

no-comma-semicolon : (ts : List Token) → starts (ascii ",") (mark ";" ∷ ts) ≡ false
unfolding starts is_mark ascii same_text
no-comma-semicolon ts = refl

longer-range : (r : Range) (rest : List Token) → length rest ≤ length (spell_range r rest)
unfolding spell_range
longer-range no_range rest = omega arith
longer-range (down_to a n b) rest = omega arith

longer-net : (a : NetAssignment) (rest : List Token) → length rest < length (spell_net a rest)
unfolding spell_net
longer-net a rest = let h = longer a.value rest in omega arith

module _ (index : List ℕ → ℕ) where
  -- ---- declarations

  bounds-read : (a b : Bool) (n : ℕ) (rest : List Token)
      → bounds index (mark "[" ∷ number a n ∷ mark ":" ∷ number b 0 ∷ mark "]" ∷ rest) ≡ ok (n + 1) rest
  unfolding bounds unsigned naught
  bounds-read a b n rest =
      rw (
        expected (ascii "[") (number a n ∷ mark ":" ∷ number b 0 ∷ mark "]" ∷ rest),
        expected (ascii ":") (number b 0 ∷ mark "]" ∷ rest),
        expected (ascii "]") rest,
      ) refl

  range-read : (r : Range) (rest : List Token) → starts (ascii "[") rest ≡ false → range index (spell_range r rest) ≡ ok (width_of r) rest
  unfolding range spell_range width_of
  range-read no_range rest h = next-not (ascii "[") (bounds index) (give 1) rest h
  range-read (down_to a n b) rest h =
      next-is (ascii "[") (bounds index) (give 1) (number a n ∷ mark ":" ∷ number b 0 ∷ mark "]" ∷ rest) ∙ bounds-read a b n rest

  declaration-read : (s : String) (k : Kind) (r : Range) (ns : Listed Name) (rest : List Token)
      → declaration index (ascii s) k (spell_declared s r ns rest) ≡ ok (declares k (width_of r) (list_of same ns)) rest
  unfolding declaration spell_declared
  declaration-read s k r ns rest =
      let ts = spell_listed spell_name ns (mark ";" ∷ rest) in
      rw (
        expected (ascii s) (spell_range r ts),
        range-read r ts (names-open ns (mark ";" ∷ rest)),
        names-read ns (mark ";" ∷ rest) (rw (leads-semicolon rest) (omega arith)) (no-comma-semicolon rest),
        expected (ascii ";") rest,
      )
      refl

  -- ---- assign and always

  net-read : (a : NetAssignment) (rest : List Token) → GroupedNet a → leads rest < 1
      → net_assignment index (spell_net a rest) ≡ ok (driven_of index a) rest
  unfolding net_assignment spell_net driven_of GroupedNet ident
  net-read a rest w h = rw (expected (ascii "=") (spell a.value rest), expression-read a.value rest w h) refl

  assign-read : (xs : Listed NetAssignment) (rest : List Token) → Every GroupedNet xs
      → continuous_assign index (mark "assign" ∷ spell_listed spell_net xs (mark ";" ∷ rest)) ≡ ok (drives (list_of (driven_of index) xs)) rest
  unfolding continuous_assign
  assign-read xs rest w =
      let ts = spell_listed spell_net xs (mark ";" ∷ rest) in
      rw (
        expected (ascii "assign") ts,
        list_read (net_assignment index) spell_net (driven_of index) GroupedNet net-read longer-net xs (mark ";" ∷ rest) w
            (rw (leads-semicolon rest) (omega arith)) (no-comma-semicolon rest),
        expected (ascii ";") rest,
      )
      refl

  always-read : (a : Statement) (rest : List Token) → unfold SettledPart in SettledPart (always a) → starts (ascii "else") rest ≡ false
      → always_construct index (mark "always" ∷ spell_statement a rest) ≡ ok (runs (stmt_of index a)) rest
  unfolding always_construct SettledPart
  always-read a rest w h = rw (expected (ascii "always") (spell_statement a rest), statement-read index a rest w h) refl

  -- ---- items

  module _ (ts : List Token) where
    by-input : module_item index (mark "input" ∷ ts) ≡ declaration index (ascii "input") an_input (mark "input" ∷ ts)
    unfolding module_item if_next starts is_mark ascii same_text
    by-input = refl

    by-reg : module_item index (mark "reg" ∷ ts) ≡ declaration index (ascii "reg") a_register (mark "reg" ∷ ts)
    unfolding module_item if_next starts is_mark ascii same_text
    by-reg = refl

    by-wire : module_item index (mark "wire" ∷ ts) ≡ declaration index (ascii "wire") a_wire (mark "wire" ∷ ts)
    unfolding module_item if_next starts is_mark ascii same_text
    by-wire = refl

    by-assign : module_item index (mark "assign" ∷ ts) ≡ continuous_assign index (mark "assign" ∷ ts)
    unfolding module_item if_next starts is_mark ascii same_text
    by-assign = refl

    by-always : module_item index (mark "always" ∷ ts) ≡ always_construct index (mark "always" ∷ ts)
    unfolding module_item if_next starts is_mark ascii same_text
    by-always = refl

  part-read : (i : Item) (rest : List Token) → SettledPart i → starts (ascii "else") rest ≡ false
      → module_item index (spell_part i rest) ≡ ok (part_of index i) rest
  unfolding spell_part part_of SettledPart spell_declared
  part-read (input r ns) rest w h =
      by-input (spell_range r (spell_listed spell_name ns (mark ";" ∷ rest))) ∙ declaration-read "input" an_input r ns rest
  part-read (reg r ns) rest w h =
      by-reg (spell_range r (spell_listed spell_name ns (mark ";" ∷ rest))) ∙ declaration-read "reg" a_register r ns rest
  part-read (wire r ns) rest w h =
      by-wire (spell_range r (spell_listed spell_name ns (mark ";" ∷ rest))) ∙ declaration-read "wire" a_wire r ns rest
  part-read (assign xs) rest w h = by-assign (spell_listed spell_net xs (mark ";" ∷ rest)) ∙ assign-read xs rest w
  part-read (always a) rest w h = by-always (spell_statement a rest) ∙ always-read a rest w h

  longer-part : (i : Item) (rest : List Token) → length rest < length (spell_part i rest)
  unfolding spell_part spell_declared
  longer-part (input r ns) rest =
      let h = longer-names ns (mark ";" ∷ rest) in
      let g = longer-range r (spell_listed spell_name ns (mark ";" ∷ rest)) in
      omega arith
  longer-part (reg r ns) rest =
      let h = longer-names ns (mark ";" ∷ rest) in
      let g = longer-range r (spell_listed spell_name ns (mark ";" ∷ rest)) in
      omega arith
  longer-part (wire r ns) rest =
      let h = longer-names ns (mark ";" ∷ rest) in
      let g = longer-range r (spell_listed spell_name ns (mark ";" ∷ rest)) in
      omega arith
  longer-part (assign xs) rest =
      let h = longer-listed (net_assignment index) spell_net (driven_of index) GroupedNet net-read longer-net xs (mark ";" ∷ rest) in
      omega arith
  longer-part (always a) rest = let h = longer-statement a rest in omega arith

  part-open : (i : Item) (rest : List Token)
      → (starts (ascii "endmodule") (spell_part i rest) ≡ false) × (starts (ascii "else") (spell_part i rest) ≡ false)
  unfolding spell_part spell_declared starts is_mark ascii same_text
  part-open (input r ns) rest = (refl, refl)
  part-open (reg r ns) rest = (refl, refl)
  part-open (wire r ns) rest = (refl, refl)
  part-open (assign xs) rest = (refl, refl)
  part-open (always a) rest = (refl, refl)

  parts-clear : (is : List Item) (rest : List Token) → starts (ascii "else") (spell_parts is rest) ≡ false
  unfolding spell_parts starts is_mark ascii same_text
  parts-clear [] rest = refl
  parts-clear (i ∷ is) rest = (part-open i (spell_parts is rest)).1

  more-step : (inner : Reader (List Part)) (p : Part) (ps : List Part) (ts us rest : List Token) → module_item index ts ≡ ok p us
      → inner us ≡ ok ps rest → module_more index inner ts ≡ ok (p ∷ ps) rest
  unfolding module_more
  more-step inner p ps ts us rest d e = rw (d, e) refl

  parts-read : (is : List Item) (g : ℕ) (rest : List Token) → SettledParts is → length (spell_parts is rest) ≤ g
      → module_items index g (spell_parts is rest) ≡ ok (parts_of index is) rest
  unfolding module_items module_end spell_parts parts_of SettledParts
  parts-read [] zero rest w l = absurd (omega arith)
  parts-read [] (suc g) rest w l =
      next-is (ascii "endmodule") (module_end index) (module_more index (module_items index g)) rest
      ∙ rw (expected (ascii "endmodule") rest) refl
  parts-read (i ∷ is) zero rest w l = let n = longer-part i (spell_parts is rest) in absurd (omega arith)
  parts-read (i ∷ is) (suc g) rest w l =
      let ts = spell_parts is rest in
      let n = longer-part i ts in
      next-not (ascii "endmodule") (module_end index) (module_more index (module_items index g)) (spell_part i ts) (part-open i ts).0
      ∙ more-step (module_items index g) (part_of index i) (parts_of index is) (spell_part i ts) ts rest
      (part-read i ts w.0 (parts-clear is rest))
      (parts-read is g rest w.1 (omega arith))

  -- ---- the module

  pub module-read : (m : ModuleDeclaration) → Counts m → read_module index (yield m) ≡ ok (meaning index m) []
  unfolding read_module yield meaning Counts ident ended
  module-read m w =
      let ps = spell_parts m.items [] in
      let ts = mark ")" ∷ mark ";" ∷ ps in
      let ns = spell_listed spell_name m.ports ts in
      rw (
        expected (ascii "module") (name m.title ∷ mark "(" ∷ ns),
        expected (ascii "(") ns,
        names-read m.ports ts (rw (leads-close (mark ";" ∷ ps)) (omega arith)) (no-comma-close (mark ";" ∷ ps)),
        expected (ascii ")") (mark ";" ∷ ps),
        expected (ascii ";") ps,
        parts-read m.items (length ps) [] w (omega arith),
      )
      refl
