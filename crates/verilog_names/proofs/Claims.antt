-- What is claimed of a text's tables (specs/Claims). Assumes nothing.
use mathlib.Core.Path.{◌≡◌, refl, sym, ◌∙◌, ap}
use mathlib.Core.Logic.{◌≢◌}
use mathlib.Core.Bool.{Bool, true, false}
use mathlib.Core.List.{List, [], ◌∷◌, ◌++◌, map}
use Prim.Native.Nat.{ℕ, suc, ◌+◌, ◌<◌, ◌≤◌}
use native.Mathlib.Nat.{zero-add}
use native.Mathlib.Omega.{arith}
use borrow.Author.Tests.{lt-ltb, ne_eqb}
use lib.Dec.{ltb, eqb}
use lib.ListN.{length, get_or, drop, length-map}
use lib.Seq.{sets, sets-eq, drop-drop}
use Rattle.values.specs.Values.{pick}
use Rattle.naming.specs.Naming.{same_text}
use Rattle.verilog_tokens.specs.Tokens.{Token, terminal, name, number, known, unknown, broken, Name}
use Rattle.verilog_tokens.specs.Table.{kind_of, name_in, names_in, id_of, number_in}
use Rattle.verilog_tokens.specs.Table as Table
use Rattle.verilog_grammar.specs.Meaning.{up_to, a_wire, Driven, Part}
use Rattle.verilog_source.specs.Names as Source
use Rattle.verilog_source.specs.Names.{Variable, variables, in_order, driven}
use Rattle.verilog_source.specs.Names.{name_of, used, faults, lower, lowest, number_of}
use Rattle.verilog_source.specs.Written.{written_widths, value_for, written}
use Rattle.verilog_names.specs.Chosen.{here, chosen, has_role, is_used, is_in}
use Rattle.verilog_names.specs.Faults.{is_among, missing, repeated, nearest, faults_in, fault_at, fault_of}
use Rattle.verilog_names.specs.Numbers.{ordered, place_of, number_at, numbers_from, numbered}
use Rattle.verilog_names.specs.Head.{widths_of, head_of}
use Rattle.verilog_names.specs.Order.{first_or, is_target, target_of}
use Rattle.verilog_names.specs.Tables.{Along, none, next, Stands, Declares, Drives, Scanned, Noted}
use Rattle.verilog_names.specs.Claims.{SameIds, fault_by, SameFaults, Faultless, SameNumbers, SameHead, Found, SameTarget, WiresFound}
use Rattle.verilog_names.proofs.Chosen.{here_in, here_out, chosen_none, chosen-suc}
use Rattle.verilog_names.proofs.AtFault.{lower-most, lower-few}
use Rattle.verilog_names.proofs.Kept.{kept, kept-chosen}
use Rattle.verilog_names.proofs.Standing.{along-append, along-length, along-map, entry_at, same-ids, terminal-kind}

-- ---- the first of some tokens that a test takes

first-same : (test : ℕ → Bool) (n t : ℕ) (xs : List ℕ) → test t ≡ true → first_or n (kept test (t ∷ xs)) ≡ t
unfolding kept first_or
first-same test n t xs e = rw (here_in test t e)

first-other : (test : ℕ → Bool) (n t : ℕ) (xs : List ℕ) → test t ≡ false → first_or n (kept test (t ∷ xs)) ≡ first_or n (kept test xs)
unfolding kept
first-other test n t xs e = rw (here_out test t e)

-- ---- over the tables of tokens

module _ (ts : List Token) (kinds ids places : List ℕ) (sc : Scanned ts kinds ids places) where
  kind_at : (t : ℕ) (x : Token) (behind : List Token) → drop t ts ≡ x ∷ behind → get_or kinds t 0 ≡ kind_of x
  kind_at t x behind d = entry_at kind_of ts kinds t x behind sc.kinded d

  number-at : (t : ℕ) (x : Token) (behind : List Token) → drop t ts ≡ x ∷ behind → get_or ids t 0 ≡ number_in (id_of ts) x
  number-at t x behind d = entry_at (number_in (id_of ts)) ts ids t x behind sc.numbered d

  id-at : (t : ℕ) (n : Name) → Stands ts t n → get_or ids t 0 ≡ id_of ts n.spelled
  unfolding number_in
  id-at t n st = number-at t (name n) st.behind st.stands

  -- Two tokens have one id exactly where their names are spelled alike.
  alike : (t u : ℕ) (m n : Name) → Stands ts t m → Stands ts u n → eqb (get_or ids t 0) (get_or ids u 0) ≡ same_text m.spelled n.spelled
  unfolding SameIds
  alike t u m n s r = rw (id-at t m s, id-at u n r) (same-ids ts t m n.spelled s)

  -- ---- faults

  module _ (u : ℕ) (m : Name) (r : Stands ts u m) where
    among_same : {xs : List ℕ} {ns : List Name} → Along (Stands ts) xs ns → is_among ids xs (get_or ids u 0) ≡ Source.is_among ns m
    unfolding is_among Source.is_among
    among_same none = refl
    among_same (next {a = t} {b = n} {xs = xs} {ys = ns} s p) =
        rw (alike t u n m s r, among_same {xs = xs} {ns = ns} p)

    place_same : {xs : List ℕ} {ns : List Name} → Along (Stands ts) xs ns → place_of ids xs (get_or ids u 0) ≡ Table.place_of ns m.spelled
    unfolding place_of Table.place_of
    place_same none = refl
    place_same (next {a = t} {b = n} {xs = xs} {ys = ns} s p) =
        rw (alike t u n m s r, place_same {xs = xs} {ns = ns} p)

  -- A token and its name, or neither.
  either : (b : Bool) {t : ℕ} {n : Name} → Stands ts t n → Along (Stands ts) (pick b (t ∷ []) []) (pick b (n ∷ []) [])
  either true s = next s none
  either false s = none

  or-not : (b : Bool) {t : ℕ} {n : Name} → Stands ts t n → Along (Stands ts) (pick b [] (t ∷ [])) (pick b [] (n ∷ []))
  or-not true s = none
  or-not false s = next s none

  missing-along : {xs ms : List ℕ} {ns ks : List Name} → Along (Stands ts) xs ns → Along (Stands ts) ms ks
      → Along (Stands ts) (missing ids xs ms) (Source.missing ns ks)
  unfolding missing Source.missing
  missing-along none q = none
  missing-along {ms = ms} {ks = ks} (next {a = t} {b = n} {xs = xs} {ys = ns} s p) q =
      rw (among_same t n s {xs = ms} {ns = ks} q)
      (along-append (or-not (Source.is_among ks n) s) (missing-along {xs = xs} {ns = ns} p q))

  repeated-along : {xs seen : List ℕ} {ns ks : List Name} → Along (Stands ts) xs ns → Along (Stands ts) seen ks
      → Along (Stands ts) (repeated ids seen xs) (Source.repeated ks ns)
  unfolding repeated Source.repeated
  repeated-along none q = none
  repeated-along {seen = seen} {ks = ks} (next {a = t} {b = n} {xs = xs} {ys = ns} s p) q =
      rw (among_same t n s {xs = seen} {ns = ks} q)
      (along-append (either (Source.is_among ks n) s) (repeated-along {xs = xs} {ns = ns} p (next s q)))

  nearest-lowest : (t : ℕ) (n : Name) {xs : List ℕ} {ns : List Name} → Stands ts t n → Along (Stands ts) xs ns
      → nearest places (t ∷ xs) ≡ lowest n ns
  unfolding nearest lowest
  nearest-lowest t n s none = rw (sc.placed t n s) (lower-most n.place 65536 (omega (arith, sc.below t n s)))
  nearest-lowest t n s (next {a = u} {b = m} {xs = xs} {ys = ms} r p) =
      rw (sc.placed t n s) (ap (lower n.place) (nearest-lowest u m {xs = xs} {ns = ms} r p))

  lowest-below : (n : Name) (ns : List Name) → n.place < 65536 → lowest n ns < 65536
  unfolding lowest
  lowest-below n [] h = h
  lowest-below n (m ∷ ms) h = omega (arith, lower-few n.place (lowest m ms) n.place (omega arith))

  nearest-along : {xs : List ℕ} {ns : List Name} → Along (Stands ts) xs ns → fault_at (nearest places xs) ≡ fault_by ns
  unfolding nearest fault_by fault_at
  nearest-along none = refl
  nearest-along (next {a = t} {b = n} {xs = xs} {ys = ns} s p) =
      rw (nearest-lowest t n {xs = xs} {ns = ns} s p, lt-ltb (lowest n ns) 65536 (lowest-below n ns (sc.below t n s)))

  -- ---- names in use

  used-name : (i : ℕ) (n : Name) → Stands ts i n → 2 ≤ i → is_used kinds i ≡ true
  unfolding is_used kind_of
  used-name i n s h = rw (kind_at i (name n) s.behind s.stands) (lt-ltb 1 i (omega arith))

  used-other : (i k : ℕ) → get_or kinds i 0 ≡ k → k ≢ 64 → is_used kinds i ≡ false
  unfolding is_used
  used-other i k e f = rw (e, ne_eqb k 64 f)

  after : (i : ℕ) (x : Token) (us : List Token) → drop i ts ≡ x ∷ us → drop (i + 1) ts ≡ us
  after i x us d = sym (drop-drop 1 i ts) ∙ ap (drop 1) d

  -- Of a token that is no name.
  passed : (i k : ℕ) → get_or kinds i 0 ≡ k → k ≢ 64 → Along (Stands ts) (here (is_used kinds) i) []
  passed i k e f = rw (here_out (is_used kinds) i (used-other i k e f)) none

  used-here : (u : Token) (us : List Token) (i : ℕ) → 2 ≤ i → drop i ts ≡ u ∷ us → Along (Stands ts) (here (is_used kinds) i) (name_in u)
  unfolding name_in kind_of
  used-here (terminal x) us i h d = passed i _ (kind_at i _ us d) (terminal-kind x)
  used-here (name n) us i h d =
      let s : Stands ts i n = record { behind = us; stands = d } in
      rw (here_in (is_used kinds) i (used-name i n s h)) (next s none)
  used-here (number true x) us i h d = passed i _ (kind_at i _ us d) (λ e. omega arith)
  used-here (number false x) us i h d = passed i _ (kind_at i _ us d) (λ e. omega arith)
  used-here (known x) us i h d = passed i _ (kind_at i _ us d) (λ e. omega arith)
  used-here unknown us i h d = passed i _ (kind_at i _ us d) (λ e. omega arith)
  used-here broken us i h d = passed i _ (kind_at i _ us d) (λ e. omega arith)

  used-along : (us : List Token) (i : ℕ) → 2 ≤ i → drop i ts ≡ us → Along (Stands ts) (chosen (is_used kinds) (length us) i) (names_in us)
  unfolding names_in
  used-along [] i h d = rw (chosen_none (is_used kinds) i) none
  used-along (u ∷ us) i h d =
      rw (chosen-suc (is_used kinds) (length us) i)
      (along-append (used-here u us i h d) (used-along us (i + 1) (omega arith) (after i u us d)))

  -- The module's own name is no name in use.
  early : (i n : ℕ) (ns : List Name) → ltb 1 i ≡ false → Along (Stands ts) (chosen (is_used kinds) n (i + 1)) ns
      → Along (Stands ts) (chosen (is_used kinds) (suc n) i) ns
  unfolding is_used
  early i n ns e p = rw (chosen-suc (is_used kinds) n i, here_out (is_used kinds) i (by (eqb (get_or kinds i 0) 64))) p
    where
      by : (b : Bool) → pick b (ltb 1 i) false ≡ false
      by true = e
      by false = refl

  used-of : (vs : List Token) → ts ≡ vs → Along (Stands ts) (chosen (is_used kinds) (length vs) 0) (names_in (drop 2 vs))
  unfolding names_in
  used-of [] e = rw (chosen_none (is_used kinds) 0) none
  used-of (x ∷ []) e = early 0 0 [] refl (rw (chosen_none (is_used kinds) 1) none)
  used-of (x ∷ y ∷ us) e =
      early 0 (suc (length us)) (names_in us) refl
      (early 1 (length us) (names_in us) refl (used-along us 2 (omega arith) (ap (drop 2) e)))

  -- ---- over the roles, too

  module _ (index : List ℕ → ℕ) (ps : List Part) (roles widths : List ℕ) (nt : Noted index ts ps roles widths) where
    wires-along : Along (Stands ts) (chosen (has_role roles 3) (length ts) 0) (map name_of (variables a_wire ps))
    unfolding name_of
    wires-along = along-map name_of (λ t v r. r.named) nt.wires

    targets-along : Along (Stands ts) (chosen (has_role roles 4) (length ts) 0) (map Source.target_of (driven ps))
    unfolding Source.target_of
    targets-along = along-map Source.target_of (λ t d r. r.target) nt.drives

    faults-along : Along (Stands ts) (faults_in kinds ids roles (length ts)) (faults ts ps)
    unfolding faults_in faults is_in used
    faults-along =
        along-append (along-append (along-append (along-append
        (missing-along (used-of ts refl) nt.names)
        (repeated-along nt.names none))
        (missing-along targets-along wires-along))
        (repeated-along targets-along none))
        (missing-along wires-along targets-along)

    -- ---- numbers

    ordered-along : Along (Stands ts) (ordered roles (length ts)) (map name_of (in_order ps))
    unfolding ordered in_order name_of
    ordered-along =
        along-map name_of (λ t v r. r.named) (along-append (along-append nt.inputs nt.registers) nt.wires)

    name-number : (i : ℕ) (n : Name) → Stands ts i n → number_at kinds ids roles (length ts) i ≡ number_of ps n.spelled
    unfolding number_at number_of kind_of
    name-number i n s =
        rw (kind_at i (name n) s.behind s.stands) (ap (up_to 255) (place_same i n s ordered-along))

    other-number : (i k v : ℕ) → get_or kinds i 0 ≡ k → k ≢ 64 → get_or ids i 0 ≡ v → number_at kinds ids roles (length ts) i ≡ v
    unfolding number_at
    other-number i k v e f g = rw (e, ne_eqb k 64 f) g

    token-number : (u : Token) (us : List Token) (i : ℕ) → drop i ts ≡ u ∷ us
        → number_at kinds ids roles (length ts) i ≡ number_in (number_of ps) u
    unfolding number_in kind_of
    token-number (terminal x) us i d = other-number i _ _ (kind_at i _ us d) (terminal-kind x) (number-at i _ us d)
    token-number (name n) us i d = name-number i n record { behind = us; stands = d }
    token-number (number true x) us i d = other-number i _ _ (kind_at i _ us d) (λ e. omega arith) (number-at i _ us d)
    token-number (number false x) us i d = other-number i _ _ (kind_at i _ us d) (λ e. omega arith) (number-at i _ us d)
    token-number (known x) us i d = other-number i _ _ (kind_at i _ us d) (λ e. omega arith) (number-at i _ us d)
    token-number unknown us i d = other-number i _ _ (kind_at i _ us d) (λ e. omega arith) (number-at i _ us d)
    token-number broken us i d = other-number i _ _ (kind_at i _ us d) (λ e. omega arith) (number-at i _ us d)

    numbers-along : (us : List Token) (i : ℕ) → drop i ts ≡ us
        → numbers_from kinds ids roles (length ts) (length us) i ≡ map (number_in (number_of ps)) us
    unfolding numbers_from
    numbers-along [] i d = refl
    numbers-along (u ∷ us) i d =
        let e = token-number u us i d in
        let f = numbers-along us (i + 1) (after i u us d) in
        cc

    -- ---- targets

    module _ (u : ℕ) (m : Name) (r : Stands ts u m) (n : ℕ) where
      abbrev same : ℕ → Bool
      same t = eqb (get_or ids t 0) (get_or ids u 0)

      target-along : {xs : List ℕ} {ds : List Driven} → Along (Drives index ts) xs ds → Source.is_among (map Source.target_of ds) m ≡ true
          → (d : Driven) × Drives index ts (first_or n (kept same xs)) d × (value_for ds m.spelled ≡ d.value)
      unfolding Source.is_among Source.target_of value_for
      target-along none e = let z : ◌≡◌ {A = ℕ} 0 1 = ap (λ b. pick b 1 0) e in absurd (omega arith)
      target-along (next {a = t} {b = d} {xs = xs} {ys = ds} s p) e =
          by (same_text d.target.spelled m.spelled) (alike t u d.target m s.target r) e (target-along {xs = xs} {ds = ds} p)
        where
          by : (b : Bool) → same t ≡ b → pick b true (Source.is_among (map Source.target_of ds) m) ≡ true
              → (Source.is_among (map Source.target_of ds) m ≡ true
              → (d : Driven) × Drives index ts (first_or n (kept same xs)) d × (value_for ds m.spelled ≡ d.value))
              → (c : Driven) × Drives index ts (first_or n (kept same (t ∷ xs))) c
              × (pick b d.value (value_for ds m.spelled) ≡ c.value)
          by true q e f = (d, rw (first-same same n t xs q) s, refl)
          by false q e f = rw (first-other same n t xs q) (f e)

pub same-faults : SameFaults
unfolding SameFaults fault_of
same-faults index ts ps kinds ids places roles widths sc nt =
    nearest-along ts kinds ids places sc (faults-along ts kinds ids places sc index ps roles widths nt)

pub faultless : Faultless
unfolding Faultless fault_by
faultless [] e = refl
faultless (n ∷ ns) e = cc

pub same_numbers : SameNumbers
unfolding SameNumbers numbered
same_numbers index ts ps kinds ids places roles widths table sc nt h =
    ap (sets table 0) (numbers-along ts kinds ids places sc index ps roles widths nt ts 0 refl)
    ∙ sets-eq (map (number_in (number_of ps)) ts) table 0 (rw length-map (omega arith))
    ∙ rw (zero-add, length-map)

-- ---- the head

widths-along : (ts : List Token) (widths : List ℕ) {xs : List ℕ} {vs : List Variable} → Along (Declares ts widths) xs vs
    → widths_of widths xs ≡ written_widths vs
unfolding widths_of written_widths
widths-along ts widths none = refl
widths-along ts widths (next {xs = xs} {ys = vs} r p) = rw (r.width, widths-along ts widths {xs = xs} {vs = vs} p)

pub same_head : SameHead
unfolding SameHead head_of written ordered in_order
same_head index ts ps roles widths nt =
    rw (
      along-length nt.inputs,
      along-length nt.registers,
      along-length nt.wires,
      along-length nt.runs,
      widths-along ts widths (along-append (along-append nt.inputs nt.registers) nt.wires),
    )

-- ---- a wire's target

pub same_target : SameTarget
unfolding SameTarget target_of is_target
same_target index ts ps kinds ids places roles widths sc nt t n r e =
    let f = target-along ts kinds ids places sc index ps roles widths nt t n r (length ts) nt.drives e in
    let same : ℕ → Bool = λ k. eqb (get_or ids k 0) (get_or ids t 0) in
    record {
      driven = f.0;
      drives = rw (kept-chosen (has_role roles 4) same (length ts) 0) f.1;
      value = f.2;
    }

-- ---- all wires

right-empty : {A : Type 0} (xs ys : List A) → xs ++ ys ≡ [] → ys ≡ []
right-empty [] ys e = e
right-empty (x ∷ xs) ys e = cc

-- The first of some names is among others, and so are the rest.
all_among : (ms : List Name) (n : Name) (ns : List Name) → Source.missing (n ∷ ns) ms ≡ []
    → (Source.is_among ms n ≡ true) × (Source.missing ns ms ≡ [])
unfolding Source.missing
all_among ms n ns e = by (Source.is_among ms n) refl e
  where
    by : (b : Bool) → Source.is_among ms n ≡ b → pick b [] (n ∷ []) ++ Source.missing ns ms ≡ []
        → (Source.is_among ms n ≡ true) × (Source.missing ns ms ≡ [])
    by true q e = (q, e)
    by false q e = let z : ◌≡◌ {A = ℕ} 0 1 = cc in absurd (omega arith)

module _ (index : List ℕ → ℕ) (ts : List Token) (ps : List Part) (kinds ids places roles widths : List ℕ)
    (sc : Scanned ts kinds ids places) (nt : Noted index ts ps roles widths) where
  found-along : {xs : List ℕ} {vs : List Variable} → Along (Declares ts widths) xs vs
      → Source.missing (map name_of vs) (map Source.target_of (driven ps)) ≡ []
      → Along (λ (t : ℕ) (v : Variable). Found index ts ps (target_of ids roles (length ts) (get_or ids t 0)) v.named.spelled) xs vs
  unfolding SameTarget name_of
  found-along none e = none
  found-along (next {a = t} {b = v} {xs = xs} {ys = vs} r p) e =
      let f = all_among (map Source.target_of (driven ps)) v.named (map name_of vs) e in
      next
      (same_target index ts ps kinds ids places roles widths sc nt t v.named r.named f.0)
      (found-along {xs = xs} {vs = vs} p f.1)

pub wires-found : WiresFound
unfolding WiresFound faults
wires-found index ts ps kinds ids places roles widths sc nt e =
    let ds = map Source.target_of (driven ps) in
    let ws = map name_of (variables a_wire ps) in
    let vs = Source.declared ps in
    let others = Source.missing (used ts) vs ++ Source.repeated [] vs ++ Source.missing ds ws ++ Source.repeated [] ds in
    found-along index ts ps kinds ids places roles widths sc nt nt.wires (right-empty others (Source.missing ws ds) e)
