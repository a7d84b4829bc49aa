-- Every expression at table 5-4's precedence and association is what the reader makes of its tokens.
-- Assumes nothing.
use mathlib.Core.Path.{◌≡◌, refl, ◌∙◌}
use mathlib.Core.Bool.{Bool, true, false}
use mathlib.Core.List.{List, ◌∷◌}
use mathlib.Core.Option.{Option, none as nothing, some as just}
use Prim.Native.Nat.{ℕ, zero, suc, ◌+◌, ◌≤◌, ◌<◌}
use native.Mathlib.Omega.{arith}
use lib.Dec.{leb}
use lib.ListN.{length}
use borrow.Author.Tests.{le-leb, lt-leb, leb-true}
use Rattle.values.specs.Values.{pick}
use Rattle.writing.specs.Ascii.{ascii}
use Rattle.naming.specs.Naming.{same_text}
use Rattle.verilog_tokens.specs.Tokens.{Token, terminal, name, number, known, unknown, Name}
use Rattle.verilog_grammar.specs.AnnexA.{mark, Unary, negation, complement, Binary, unary_sign, binary_sign, Number, sized, sized_x, spell_number, Expression, Primary, only, prefixed, joined, chosen, identified, numbered, bracketed, spell, spell_primary}
use Rattle.verilog_grammar.specs.Conditions.{precedence, level, Grouped, GroupedPrimary}
use Rattle.verilog_grammar.specs.Reader.{ok, Reader, give, is_mark, starts, if_next, is_name, ident, size, valued, identifier, constant, brackets, atom, primary, prefix, plain, operand, operator, join, turn, climb, choice, arms, start, reader, expression}
use Rattle.verilog_grammar.proofs.Steps.{expected, next-is, next-not}
use Rattle.verilog_grammar.proofs.Operators.{leads, leads_by, binds, binds_by, precedence-from, level-from, binds-leads, operator-sign}

-- ---- every tree yields a token

mutual
  unfolding spell spell_primary spell_number

  pub longer : (e : Expression) (rest : List Token) → length rest < length (spell e rest)
  longer (only p) rest = longer-primary p rest
  longer (prefixed u p) rest = let h = longer-primary p rest in omega arith
  longer (joined a o b) rest =
      let h = longer a (terminal (binary_sign o) ∷ spell b rest) in
      let g = longer b rest in
      omega arith
  longer (chosen c a b) rest =
      let h = longer c (mark "?" ∷ spell a (mark ":" ∷ spell b rest)) in
      let g = longer a (mark ":" ∷ spell b rest) in
      let d = longer b rest in
      omega arith

  longer-primary : (p : Primary) (rest : List Token) → length rest < length (spell_primary p rest)
  longer-primary (identified n) rest = omega arith
  longer-primary (numbered (sized w v)) rest = omega arith
  longer-primary (numbered (sized_x w)) rest = omega arith
  longer-primary (bracketed e) rest = let h = longer e (mark ")" ∷ rest) in omega arith

-- ---- what stands behind an expression leads to no operator

pub leads-sign : (o : Binary) (ts : List Token) → leads (terminal (binary_sign o) ∷ ts) ≡ precedence o
unfolding leads leads_by
leads-sign o ts = rw (operator-sign o ts) refl

pub leads-query : (ts : List Token) → leads (mark "?" ∷ ts) ≡ 1
unfolding leads leads_by operator starts is_mark ascii same_text
leads-query ts = refl

pub binds-query : (ts : List Token) → binds (mark "?" ∷ ts) ≡ 0
unfolding binds binds_by operator starts is_mark ascii same_text
binds-query ts = refl

pub leads-close : (ts : List Token) → leads (mark ")" ∷ ts) ≡ 0
unfolding leads leads_by operator starts is_mark ascii same_text
leads-close ts = refl

pub leads-colon : (ts : List Token) → leads (mark ":" ∷ ts) ≡ 0
unfolding leads leads_by operator starts is_mark ascii same_text
leads-colon ts = refl

pub leads-semicolon : (ts : List Token) → leads (mark ";" ∷ ts) ≡ 0
unfolding leads leads_by operator starts is_mark ascii same_text
leads-semicolon ts = refl

pub leads-comma : (ts : List Token) → leads (mark "," ∷ ts) ≡ 0
unfolding leads leads_by operator starts is_mark ascii same_text
leads-comma ts = refl

no-query : (ts : List Token) → leads ts < 1 → starts (ascii "?") ts ≡ false
unfolding leads leads_by
no-query ts h = by (operator ts) (starts (ascii "?") ts) h
  where
    by : (o : Option Binary) (q : Bool) → leads_by o q < 1 → q ≡ false
    by (just o) q l = absurd (let p = precedence-from o in omega arith)
    by nothing true l = absurd (omega arith)
    by nothing false l = refl

-- ---- the loop stops in front of a looser operator, and ?: is left alone where there is none

stops : (inner : ℕ → Reader Expression) (g k : ℕ) (l : Expression) (rest : List Token) → binds rest < k
    → climb inner (suc g) k l rest ≡ ok l rest
unfolding climb turn binds binds_by
stops inner g k l rest h = by (operator rest) h
  where
    by : (o : Option Binary) → binds_by o < k → turn inner (climb inner g k) k l o rest ≡ ok l rest
    by nothing j = refl
    by (just o) j = rw (lt-leb k (precedence o) j) refl

no-arms : (inner : Reader Expression) (k : ℕ) (c : Expression) (rest : List Token) → leads rest < k → arms inner k c rest ≡ ok c rest
unfolding arms
no-arms inner k c rest h = by (leb k 1) refl
  where
    by : (t : Bool) → leb k 1 ≡ t → pick t (if_next (ascii "?") (choice inner c) (give c)) (give c) rest ≡ ok c rest
    by true q = next-not (ascii "?") (choice inner c) (give c) rest (no-query rest (let z = leb-true k 1 q in omega arith))
    by false q = refl

-- ---- what is shown of each tree

-- Over its tokens the loop comes to the tree, with the rest still to come and a turn left for each of its tokens.
Reached : Expression → Type 0
Reached e = (f k : ℕ) (rest : List Token) → 2 ≤ level e → k ≤ level e → leads rest ≤ level e → length (spell e rest) ≤ suc f
    → (g : ℕ) × (length rest ≤ g) × (start (reader f) f k (spell e rest) ≡ climb (reader f) (suc g) k e rest)

Read : Expression → Type 0
Read e = (f k : ℕ) (rest : List Token) → k ≤ level e → leads rest < k → length (spell e rest) ≤ f → reader f k (spell e rest) ≡ ok e rest

ReadPrimary : Primary → Type 0
ReadPrimary p = (f : ℕ) (rest : List Token) → length (spell_primary p rest) ≤ suc f
    → primary (reader f 1) (spell_primary p rest) ≡ ok p rest

by_loop : (e : Expression) → 2 ≤ level e → Reached e → Read e
unfolding Reached Read reader
by_loop e h r zero k rest a b c = let s = longer e rest in absurd (omega arith)
by_loop e h r (suc f) k rest a b c =
    let q = r f k rest h a (omega arith) c in
    let n = binds-leads rest in
    rw (q.2, stops (reader f) q.0 k e rest (omega arith)) (no-arms (reader f 1) k e rest b)

-- ---- operands

no-tilde : (p : Primary) (rest : List Token) → starts (ascii "~") (spell_primary p rest) ≡ false
unfolding starts is_mark spell_primary spell_number ascii same_text
no-tilde (identified n) rest = refl
no-tilde (numbered (sized w v)) rest = refl
no-tilde (numbered (sized_x w)) rest = refl
no-tilde (bracketed e) rest = refl

no-bang : (p : Primary) (rest : List Token) → starts (ascii "!") (spell_primary p rest) ≡ false
unfolding starts is_mark spell_primary spell_number ascii same_text
no-bang (identified n) rest = refl
no-bang (numbered (sized w v)) rest = refl
no-bang (numbered (sized_x w)) rest = refl
no-bang (bracketed e) rest = refl

plain_step : (inner : Reader Expression) (p : Primary) (ts rest : List Token) → primary inner ts ≡ ok p rest
    → plain inner ts ≡ ok (only p) rest
unfolding plain
plain_step inner p ts rest e = rw e refl

operand-only : (inner : Reader Expression) (p : Primary) (rest : List Token) → primary inner (spell_primary p rest) ≡ ok p rest
    → operand inner (spell_primary p rest) ≡ ok (only p) rest
unfolding operand
operand-only inner p rest e =
    next-not (ascii "~") (prefix complement inner) (if_next (ascii "!") (prefix negation inner) (plain inner)) (spell_primary p rest)
    (no-tilde p rest)
    ∙ next-not (ascii "!") (prefix negation inner) (plain inner) (spell_primary p rest) (no-bang p rest)
    ∙ plain_step inner p (spell_primary p rest) rest e

prefix-step : (inner : Reader Expression) (u : Unary) (p : Primary) (ts rest : List Token) → primary inner ts ≡ ok p rest
    → prefix u inner (terminal (unary_sign u) ∷ ts) ≡ ok (prefixed u p) rest
unfolding prefix
prefix-step inner u p ts rest e = rw (expected (unary_sign u) ts, e) refl

bang-tilde : (ts : List Token) → starts (ascii "~") (mark "!" ∷ ts) ≡ false
unfolding starts is_mark ascii same_text
bang-tilde ts = refl

operand_prefix : (inner : Reader Expression) (u : Unary) (ts : List Token)
    → operand inner (terminal (unary_sign u) ∷ ts) ≡ prefix u inner (terminal (unary_sign u) ∷ ts)
unfolding operand unary_sign
operand_prefix inner complement ts =
    next-is (ascii "~") (prefix complement inner) (if_next (ascii "!") (prefix negation inner) (plain inner)) ts
operand_prefix inner negation ts =
    next-not (ascii "~") (prefix complement inner) (if_next (ascii "!") (prefix negation inner) (plain inner)) (mark "!" ∷ ts)
    (bang-tilde ts)
    ∙ next-is (ascii "!") (prefix negation inner) (plain inner) ts

reached-only : (p : Primary) → ReadPrimary p → Reached (only p)
unfolding Reached ReadPrimary spell start
reached-only p r f k rest h a b c =
    let s = longer-primary p rest in
    (f, omega arith, rw (operand-only (reader f 1) p rest (r f rest c)) refl)

reached-prefixed : (u : Unary) (p : Primary) → ReadPrimary p → Reached (prefixed u p)
unfolding Reached ReadPrimary spell start
reached-prefixed u p r f k rest h a b c =
    let s = longer-primary p rest in (
      f,
      omega arith,
      rw (
        operand_prefix (reader f 1) u (spell_primary p rest),
        prefix-step (reader f 1) u p (spell_primary p rest) rest
            (r f rest (omega arith)),
      ) refl,
    )

-- ---- binary operators

turn_step : (inner : ℕ → Reader Expression) (g k : ℕ) (a b : Expression) (o : Binary) (ts rest : List Token) → k ≤ precedence o
    → inner (precedence o + 1) ts ≡ ok b rest → climb inner (suc g) k a (terminal (binary_sign o) ∷ ts) ≡ climb inner g k (joined a o b) rest
unfolding climb turn join
turn_step inner g k a b o ts rest h e = rw (operator-sign o ts, le-leb k (precedence o) h, expected (binary_sign o) ts, e) refl

reached-joined : (a b : Expression) (o : Binary) → precedence o ≤ level a → precedence o < level b → Reached a → Read b
    → Reached (joined a o b)
unfolding Reached Read level spell
reached-joined a b o ha hb ra rb f k rest h x y z = go q.0 q.1 q.2
  where
    ts : List Token
    ts = terminal (binary_sign o) ∷ spell b rest

    lb : length rest < length (spell b rest)
    lb = longer b rest

    la : suc (length (spell b rest)) < length (spell a ts)
    la = longer a ts

    q : (g : ℕ) × (suc (length (spell b rest)) ≤ g) × (start (reader f) f k (spell a ts) ≡ climb (reader f) (suc g) k a ts)
    q = ra f k ts (let t = precedence-from o in omega arith) (omega arith) (rw (leads-sign o (spell b rest)) ha) z

    go : (g : ℕ) → suc (length (spell b rest)) ≤ g → start (reader f) f k (spell a ts) ≡ climb (reader f) (suc g) k a ts
        → (g : ℕ) × (length rest ≤ g) × (start (reader f) f k (spell a ts) ≡ climb (reader f) (suc g) k (joined a o b) rest)
    go zero l e = absurd (omega arith)
    go (suc g) l e =
        let fits : length (spell a ts) ≤ suc f = z in
        let r = rb f (precedence o + 1) rest (omega arith) (omega arith) (omega (arith, la)) in
        (g, omega (arith, lb), e ∙ turn_step (reader f) (suc g) k a b o (spell b rest) rest x r)

-- ---- ?:

choice-step : (inner : Reader Expression) (c a b : Expression) (ts us rest : List Token) → inner ts ≡ ok a (mark ":" ∷ us)
    → inner us ≡ ok b rest
    → choice inner c (mark "?" ∷ ts) ≡ ok (chosen c a b) rest
unfolding choice
choice-step inner c a b ts us rest d e = rw (expected (ascii "?") ts, d, expected (ascii ":") us, e) refl

arms_step : (inner : Reader Expression) (k : ℕ) (c e : Expression) (ts rest : List Token) → k ≤ 1
    → choice inner c (mark "?" ∷ ts) ≡ ok e rest
    → arms inner k c (mark "?" ∷ ts) ≡ ok e rest
unfolding arms
arms_step inner k c e ts rest h d = rw (le-leb k 1 h) (next-is (ascii "?") (choice inner c) (give c) ts ∙ d)

read-chosen : (c a b : Expression) → 1 < level c → Reached c → Read a → Read b → Read (chosen c a b)
unfolding Reached Read level spell reader
read-chosen c a b h rc ra rb zero k rest x y z =
    let l = longer c (mark "?" ∷ spell a (mark ":" ∷ spell b rest)) in absurd (omega arith)
read-chosen c a b h rc ra rb (suc f) k rest x y z =
    let us = mark ":" ∷ spell b rest in
    let ts = mark "?" ∷ spell a us in
    let lc = longer c ts in
    let la = longer a us in
    let q = rc f k ts h (omega arith) (rw (leads-query (spell a us)) (omega arith)) z in
    let ea = ra f 1 us (level-from a) (rw (leads-colon (spell b rest)) (omega arith)) (omega arith) in
    let eb = rb f 1 rest (level-from b) (omega arith) (omega arith) in
    rw (q.2, stops (reader f) q.0 k c ts (rw (binds-query (spell a us)) (omega arith)))
    (arms_step (reader f 1) k c (chosen c a b) (spell a us) rest x (choice-step (reader f 1) c a b (spell a us) (spell b rest) rest ea eb))

-- ---- primaries

identified-read : (n : Name) (f : ℕ) (rest : List Token) → primary (reader f 1) (name n ∷ rest) ≡ ok (identified n) rest
unfolding primary if_next starts is_mark atom is_name identifier ident
identified-read n f rest = refl

sized-read : (w v f : ℕ) (rest : List Token) → primary (reader f 1) (number true w ∷ known v ∷ rest) ≡ ok (numbered (sized w v)) rest
unfolding primary if_next starts is_mark atom is_name constant size valued
sized-read w v f rest = refl

sized_x-read : (w f : ℕ) (rest : List Token) → primary (reader f 1) (number true w ∷ unknown ∷ rest) ≡ ok (numbered (sized_x w)) rest
unfolding primary if_next starts is_mark atom is_name constant size valued
sized_x-read w f rest = refl

brackets-step : (inner : Reader Expression) (e : Expression) (ts rest : List Token) → inner ts ≡ ok e (mark ")" ∷ rest)
    → primary inner (mark "(" ∷ ts) ≡ ok (bracketed e) rest
unfolding primary brackets
brackets-step inner e ts rest d =
    next-is (ascii "(") (brackets inner) atom ts ∙ rw (expected (ascii "(") ts, d, expected (ascii ")") rest) refl

read-brackets : (e : Expression) → Read e → ReadPrimary (bracketed e)
unfolding Read ReadPrimary spell_primary
read-brackets e r f rest h =
    brackets-step (reader f 1) e (spell e (mark ")" ∷ rest)) rest
    (r f 1 (mark ")" ∷ rest) (level-from e) (rw (leads-close rest) (omega arith)) (omega arith))

read_number : (n : Number) → ReadPrimary (numbered n)
unfolding ReadPrimary spell_primary spell_number
read_number (sized a v) f rest h = sized-read a v f rest
read_number (sized_x a) f rest h = sized_x-read a f rest

read_name : (n : Name) → ReadPrimary (identified n)
unfolding ReadPrimary spell_primary
read_name n f rest h = identified-read n f rest

never-reached : (c a b : Expression) → Reached (chosen c a b)
unfolding Reached level
never-reached c a b f k rest h = absurd (omega arith)

-- ---- all trees

mutual
  unfolding Grouped GroupedPrimary level

  read-both : (e : Expression) → Grouped e → Reached e × Read e
  read-both (only p) w = let r = reached-only p (read-primary p w) in (r, by_loop (only p) (omega arith) r)
  read-both (prefixed u p) w = let r = reached-prefixed u p (read-primary p w) in (r, by_loop (prefixed u p) (omega arith) r)
  read-both (joined a o b) w =
      let r = reached-joined a b o w.2 w.3 (read-both a w.0).0 (read-both b w.1).1 in
      (r, by_loop (joined a o b) (precedence-from o) r)
  read-both (chosen c a b) w =
      (never-reached c a b, read-chosen c a b w.3 (read-both c w.0).0 (read-both a w.1).1 (read-both b w.2).1)

  read-primary : (p : Primary) → GroupedPrimary p → ReadPrimary p
  read-primary (identified n) w = read_name n
  read-primary (numbered n) w = read_number n
  read-primary (bracketed e) w = read-brackets e (read-both e w).1

pub expression-read : (e : Expression) (rest : List Token) → Grouped e → leads rest < 1 → expression (spell e rest) ≡ ok e rest
unfolding expression Read
expression-read e rest w h = (read-both e w).1 (length (spell e rest)) 1 rest (level-from e) h (omega arith)
