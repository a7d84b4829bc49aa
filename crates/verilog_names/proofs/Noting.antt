-- From one list of all tokens with a role to those of each role. Assumes nothing.
use mathlib.Core.Path.{◌≡◌, refl, sym, ◌∙◌, ap}
use mathlib.Core.Logic.{◌≢◌}
use mathlib.Core.Bool.{Bool, true, false, not}
use mathlib.Core.List.{List, [], ◌∷◌, ◌++◌, map, append_assoc}
use Prim.Native.Nat.{ℕ, ◌<◌}
use native.Mathlib.Omega.{arith}
use borrow.Author.Tests.{eqb-true, ne_eqb}
use lib.Dec.{eqb, ltb}
use lib.ListN.{length, get_or}
use Rattle.values.specs.Values.{pick}
use Rattle.sheet.specs.Expression.{Expr}
use Rattle.sheet.specs.Statement.{Stmt}
use Rattle.verilog_tokens.specs.Tokens.{Token, Name}
use Rattle.verilog_grammar.specs.Meaning.{Kind, an_input, a_register, a_wire, Driven, Part, declares, drives, runs}
use Rattle.verilog_source.specs.Names.{Variable, kind_number, of_width, variables, declared, driven, threads}
use Rattle.verilog_names.specs.Chosen.{here, chosen, has_role, is_declared}
use Rattle.verilog_names.specs.Tables.{Along, none, next, Stands, Declares, Drives, Runs}
use Rattle.verilog_names.specs.Entries.{Entry, variable, target, thread, entries_of, entries}
use Rattle.verilog_names.specs.Entries.{role_of, is_noted, Notes, declaring, driving, running, FromEntries}
use Rattle.verilog_names.proofs.Kept.{kept, kept-chosen, chosen-same}
use Rattle.verilog_names.proofs.Standing.{along-append}

-- ---- what each entry gives, one after the other

unfoldable flat : {B : Type 0} → (Entry → List B) → List Entry → List B
flat f [] = []
flat f (e ∷ es) = f e ++ flat f es

module _ {B : Type 0} (f : Entry → List B) where
  flat_append : (xs ys : List Entry) → flat f (xs ++ ys) ≡ flat f xs ++ flat f ys
  unfolding flat
  flat_append [] ys = refl
  flat_append (e ∷ xs) ys = ap (λ l. f e ++ l) (flat_append xs ys) ∙ sym (append_assoc (f e) (flat f xs) (flat f ys))

  flat-nothing : {A : Type 0} (g : A → Entry) → ((a : A) → f (g a) ≡ []) → (xs : List A) → flat f (map g xs) ≡ []
  unfolding flat
  flat-nothing g e [] = refl
  flat-nothing g e (x ∷ xs) = rw (e x) (flat-nothing g e xs)

  flat-all : (g : B → Entry) → ((a : B) → f (g a) ≡ a ∷ []) → (xs : List B) → flat f (map g xs) ≡ xs
  unfolding flat
  flat-all g e [] = refl
  flat-all g e (x ∷ xs) = rw (e x) (ap (λ l. x ∷ l) (flat-all g e xs))

unfoldable of_kind : Kind → Entry → List Variable
of_kind k (variable j v) = pick (eqb (kind_number j) (kind_number k)) (v ∷ []) []
of_kind k (target d) = []
of_kind k (thread s) = []

unfoldable any_kind : Entry → List Name
any_kind (variable j v) = v.named ∷ []
any_kind (target d) = []
any_kind (thread s) = []

unfoldable targets : Entry → List Driven
targets (variable j v) = []
targets (target d) = d ∷ []
targets (thread s) = []

unfoldable bodies : Entry → List (Stmt Expr)
bodies (variable j v) = []
bodies (target d) = []
bodies (thread s) = s ∷ []

-- ---- the parts' lists are these

kinds-flat : (k j : Kind) (vs : List Variable) → flat (of_kind k) (map (variable j) vs) ≡ pick (eqb (kind_number j) (kind_number k)) vs []
unfolding of_kind
kinds-flat k j vs = by (eqb (kind_number j) (kind_number k)) refl
  where
    by : (b : Bool) → eqb (kind_number j) (kind_number k) ≡ b → flat (of_kind k) (map (variable j) vs) ≡ pick b vs []
    by true e = flat-all (of_kind k) (variable j) (λ v. rw e) vs
    by false e = flat-nothing (of_kind k) (variable j) (λ v. rw e) vs

variables-flat : (k : Kind) (ps : List Part) → flat (of_kind k) (entries ps) ≡ variables k ps
unfolding flat of_kind entries entries_of variables
variables-flat k [] = refl
variables-flat k (declares j w ns ∷ ps) =
    flat_append (of_kind k) (map (variable j) (of_width w ns)) (entries ps) ∙ rw (kinds-flat k j (of_width w ns), variables-flat k ps)
variables-flat k (drives ds ∷ ps) =
    flat_append (of_kind k) (map target ds) (entries ps) ∙ rw (flat-nothing (of_kind k) target (λ d. refl) ds, variables-flat k ps)
variables-flat k (runs s ∷ ps) = variables-flat k ps

names-flat : (j : Kind) (w : ℕ) (ns : List Name) → flat any_kind (map (variable j) (of_width w ns)) ≡ ns
unfolding flat any_kind of_width
names-flat j w [] = refl
names-flat j w (n ∷ ns) = ap (λ l. n ∷ l) (names-flat j w ns)

declared-flat : (ps : List Part) → flat any_kind (entries ps) ≡ declared ps
unfolding flat any_kind entries entries_of declared
declared-flat [] = refl
declared-flat (declares j w ns ∷ ps) =
    flat_append any_kind (map (variable j) (of_width w ns)) (entries ps) ∙ rw (names-flat j w ns, declared-flat ps)
declared-flat (drives ds ∷ ps) =
    flat_append any_kind (map target ds) (entries ps) ∙ rw (flat-nothing any_kind target (λ d. refl) ds, declared-flat ps)
declared-flat (runs s ∷ ps) = declared-flat ps

driven-flat : (ps : List Part) → flat targets (entries ps) ≡ driven ps
unfolding flat targets entries entries_of driven
driven-flat [] = refl
driven-flat (declares j w ns ∷ ps) =
    flat_append targets (map (variable j) (of_width w ns)) (entries ps)
    ∙ rw (flat-nothing targets (variable j) (λ v. refl) (of_width w ns), driven-flat ps)
driven-flat (drives ds ∷ ps) =
    flat_append targets (map target ds) (entries ps) ∙ rw (flat-all targets target (λ d. refl) ds, driven-flat ps)
driven-flat (runs s ∷ ps) = driven-flat ps

threads-flat : (ps : List Part) → flat bodies (entries ps) ≡ threads ps
unfolding flat bodies entries entries_of threads
threads-flat [] = refl
threads-flat (declares j w ns ∷ ps) =
    flat_append bodies (map (variable j) (of_width w ns)) (entries ps)
    ∙ rw (flat-nothing bodies (variable j) (λ v. refl) (of_width w ns), threads-flat ps)
threads-flat (drives ds ∷ ps) =
    flat_append bodies (map target ds) (entries ps) ∙ rw (flat-nothing bodies target (λ d. refl) ds, threads-flat ps)
threads-flat (runs s ∷ ps) = ap (λ l. s ∷ l) (threads-flat ps)

-- ---- tokens of a role are those of all with a role

module _ (roles : List ℕ) where
  role_kept : (r n i : ℕ) → r ≢ 0 → kept (has_role roles r) (chosen (is_noted roles) n i) ≡ chosen (has_role roles r) n i
  unfolding is_noted has_role
  role_kept r n i f =
      sym (kept-chosen (is_noted roles) (has_role roles r) n i)
      ∙ chosen-same (λ k. pick (is_noted roles k) (has_role roles r k) false) (has_role roles r) (λ k. by k (eqb (get_or roles k 0) 0) refl) n i
    where
      by : (k : ℕ) (b : Bool) → eqb (get_or roles k 0) 0 ≡ b
          → pick (not (eqb (get_or roles k 0) 0)) (eqb (get_or roles k 0) r) false ≡ eqb (get_or roles k 0) r
      by k true e = rw (e, eqb-true (get_or roles k 0) 0 e) (sym (ne_eqb 0 r (λ z. f (sym z))))
      by k false e = rw e

  declared-kept : (n i : ℕ) → kept (is_declared roles) (chosen (is_noted roles) n i) ≡ chosen (is_declared roles) n i
  unfolding is_noted is_declared
  declared-kept n i =
      sym (kept-chosen (is_noted roles) (is_declared roles) n i)
      ∙ chosen-same (λ k. pick (is_noted roles k) (is_declared roles k) false) (is_declared roles)
      (λ k. by (eqb (get_or roles k 0) 0) (ltb (get_or roles k 0) 4)) n i
    where
      by : (b c : Bool) → pick (not b) (pick b false c) false ≡ pick b false c
      by true c = refl
      by false c = refl

-- ---- along

module _ (index : List ℕ → ℕ) (ts : List Token) (roles widths : List ℕ) where
  kept-along : {B : Type 0} {S : ℕ → B → Type 0} (test : ℕ → Bool) (f : Entry → List B)
      → ((t : ℕ) (e : Entry) → Notes index ts roles widths t e → Along S (here test t) (f e))
      → {xs : List ℕ} {es : List Entry} → Along (Notes index ts roles widths) xs es → Along S (kept test xs) (flat f es)
  unfolding kept flat
  kept-along test f g none = none
  kept-along test f g (next {a = t} {b = e} {xs = xs} {ys = es} r p) = along-append (g t e r) (kept-along test f g {xs = xs} {es = es} p)

  -- Of a token whose role is known.
  by-role : {B : Type 0} {S : ℕ → B → Type 0} (r q t : ℕ) (b : B) → get_or roles t 0 ≡ q → S t b
      → Along S (here (has_role roles r) t) (pick (eqb q r) (b ∷ []) [])
  unfolding here has_role
  by-role {S = S} r q t b e s = rw e (by (eqb q r))
    where
      by : (c : Bool) → Along S (pick c (t ∷ []) []) (pick c (b ∷ []) [])
      by true = next s none
      by false = none

  outside : {B : Type 0} {S : ℕ → B → Type 0} (r q t : ℕ) → get_or roles t 0 ≡ q → eqb q r ≡ false → Along S (here (has_role roles r) t) []
  unfolding here has_role
  outside r q t e f = rw (e, f) none

  kind-role : (j k : Kind) → eqb (role_of j) (role_of k) ≡ eqb (kind_number j) (kind_number k)
  unfolding role_of kind_number
  kind-role an_input an_input = refl
  kind-role an_input a_register = refl
  kind-role an_input a_wire = refl
  kind-role a_register an_input = refl
  kind-role a_register a_register = refl
  kind-role a_register a_wire = refl
  kind-role a_wire an_input = refl
  kind-role a_wire a_register = refl
  kind-role a_wire a_wire = refl

  not-role : (k : Kind) (q : ℕ) → 3 < q → eqb q (role_of k) ≡ false
  unfolding role_of
  not-role an_input q h = ne_eqb q 1 (λ e. omega arith)
  not-role a_register q h = ne_eqb q 2 (λ e. omega arith)
  not-role a_wire q h = ne_eqb q 3 (λ e. omega arith)

  note-kind : (k : Kind) (t : ℕ) (e : Entry) → Notes index ts roles widths t e
      → Along (Declares ts widths) (here (has_role roles (role_of k)) t) (of_kind k e)
  unfolding of_kind
  note-kind k t (variable j v) (declaring q d) = rw (sym (kind-role j k)) (by-role (role_of k) (role_of j) t v q d)
  note-kind k t (target d) (driving q r) = outside (role_of k) 4 t q (not-role k 4 (omega arith))
  note-kind k t (thread s) (running q r) = outside (role_of k) 5 t q (not-role k 5 (omega arith))

  note-name : (t : ℕ) (e : Entry) → Notes index ts roles widths t e → Along (Stands ts) (here (is_declared roles) t) (any_kind e)
  unfolding here is_declared any_kind role_of
  note-name t (variable an_input v) (declaring q d) = rw q (next d.named none)
  note-name t (variable a_register v) (declaring q d) = rw q (next d.named none)
  note-name t (variable a_wire v) (declaring q d) = rw q (next d.named none)
  note-name t (target d) (driving q r) = rw q none
  note-name t (thread s) (running q r) = rw q none

  note-target : (t : ℕ) (e : Entry) → Notes index ts roles widths t e → Along (Drives index ts) (here (has_role roles 4) t) (targets e)
  unfolding targets role_of
  note-target t (variable an_input v) (declaring q d) = outside 4 1 t q refl
  note-target t (variable a_register v) (declaring q d) = outside 4 2 t q refl
  note-target t (variable a_wire v) (declaring q d) = outside 4 3 t q refl
  note-target t (target d) (driving q r) = by-role 4 4 t d q r
  note-target t (thread s) (running q r) = outside 4 5 t q refl

  note-thread : (t : ℕ) (e : Entry) → Notes index ts roles widths t e → Along (Runs index ts) (here (has_role roles 5) t) (bodies e)
  unfolding bodies role_of
  note-thread t (variable an_input v) (declaring q d) = outside 5 1 t q refl
  note-thread t (variable a_register v) (declaring q d) = outside 5 2 t q refl
  note-thread t (variable a_wire v) (declaring q d) = outside 5 3 t q refl
  note-thread t (target d) (driving q r) = outside 5 4 t q refl
  note-thread t (thread s) (running q r) = by-role 5 5 t s q r

-- ---- all six

pub from_entries : FromEntries
unfolding FromEntries role_of
from_entries index ts ps roles widths p =
    let n = length ts in
    record {
      inputs = rw (sym (role_kept roles 1 n 0 (λ e. omega arith)), sym (variables-flat an_input ps))
          (kept-along index ts roles widths (has_role roles 1) (of_kind an_input) (note-kind index ts roles widths an_input) p);
      registers = rw (sym (role_kept roles 2 n 0 (λ e. omega arith)), sym (variables-flat a_register ps))
          (kept-along index ts roles widths (has_role roles 2) (of_kind a_register) (note-kind index ts roles widths a_register) p);
      wires = rw (sym (role_kept roles 3 n 0 (λ e. omega arith)), sym (variables-flat a_wire ps))
          (kept-along index ts roles widths (has_role roles 3) (of_kind a_wire) (note-kind index ts roles widths a_wire) p);
      names = rw (sym (declared-kept roles n 0), sym (declared-flat ps))
          (kept-along index ts roles widths (is_declared roles) any_kind (note-name index ts roles widths) p);
      drives = rw (sym (role_kept roles 4 n 0 (λ e. omega arith)), sym (driven-flat ps))
          (kept-along index ts roles widths (has_role roles 4) targets (note-target index ts roles widths) p);
      runs = rw (sym (role_kept roles 5 n 0 (λ e. omega arith)), sym (threads-flat ps))
          (kept-along index ts roles widths (has_role roles 5) bodies (note-thread index ts roles widths) p);
    }
