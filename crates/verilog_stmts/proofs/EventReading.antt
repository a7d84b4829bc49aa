-- Event controls: the table's reader follows the grammar's.
-- Assumes nothing.
use mathlib.Core.Path.{◌≡◌, refl, ap, ◌∙◌}
use mathlib.Core.Bool.{Bool, true, false}
use mathlib.Core.List.{List, [], ◌∷◌, ◌++◌, append_assoc}
use Prim.Native.Nat.{ℕ, zero, suc, ◌+◌, ◌-◌, ◌%◌, ◌≤◌, ◌<◌, min}
use native.Mathlib.Nat.{mod-eq_of_lt, zero-add}
use native.Mathlib.Omega.{arith}
use lib.Dec.{eqb, ltb, leb}
use lib.ListN.{length}
use borrow.Author.Tests.{ne_eqb, ltb-true, ltb-false, lt-leb}
use Rattle.values.specs.Values.{pick}
use Rattle.values.specs.Edges.{edge_number}
use Rattle.values.specs.declared.Edge.{Edge}
use Rattle.values.specs.declared.Edge.TheVariants.{Change, Posedge, Negedge}
use Rattle.sheet.specs.declared.EdgeTerm.{EdgeTerm}
use Rattle.writing.specs.Ascii.{ascii}
use Rattle.encoding.specs.Encoding.{encode_terms}
use Rattle.verilog_tokens.specs.Tokens.{Token, terminal, name, number, known, unknown, broken, Name}
use Rattle.verilog_tokens.specs.Table.{kind_of, number_in}
use Rattle.verilog_grammar.specs.Meaning.{up_to, term_of}
use Rattle.verilog_grammar.specs.Reader.{Res, ok, no, Reader, bind, give, refuse, starts, ident}
use Rattle.verilog_grammar.specs.Reader
use Rattle.verilog_bytes.specs.Held.{place_of}
use Rattle.verilog_exprs.specs.Rows.{row_at, expected}
use Rattle.verilog_exprs.specs.Following.{Tabled, Passed, Follows}
use Rattle.verilog_exprs.proofs.Marks.{Numbered, terminal-other, kind_front, open-mark, close-mark}
use Rattle.verilog_exprs.proofs.Follows.{kind-is, number_is, map-follows, closed-follows}
use Rattle.verilog_stmts.specs.Steps.{State, moved, refused, after, is_next, write, name as name_at, named}
use Rattle.verilog_stmts.specs.Events
use Rattle.verilog_stmts.proofs.Passing
use Rattle.verilog_stmts.proofs.Passing.{Still, not-next, none_left, still-write, still-stamp, still-refused, still-expected}
use Rattle.verilog_stmts.proofs.Passing.{still-next, then-follows, given, passed-write, passed-stamp}
use Rattle.verilog_stmts.proofs.Signs.{at_mark, posedge-mark, negedge-mark, or-mark, comma-mark}

-- ---- counts

-- Counts up to 9 say enough.
more-law : (c : ℕ) → Events.one_more (min c 9) ≡ min (c + 1) 9
unfolding Events.one_more
more-law c = by (ltb (min c 9) 9) refl
  where
    by : (t : Bool) → ltb (min c 9) 9 ≡ t → pick t (min c 9 + 1) 9 ≡ min (c + 1) 9
    by true q = let l = ltb-true (min c 9) 9 q in omega arith
    by false q = let l = ltb-false (min c 9) 9 q in omega arith

count_law : (c : ℕ) → Events.counted (min c 9) ≡ up_to 8 c
unfolding Events.counted up_to
count_law c = by (ltb c 9) refl
  where
    by : (t : Bool) → ltb c 9 ≡ t → pick (leb (min c 9) 8) (min c 9) 255 ≡ pick (leb c 8) c 255
    by true q =
        let l = ltb-true c 9 q in
        let e : min c 9 ≡ c = omega arith in
        rw e refl
    by false q =
        let l = ltb-false c 9 q in
        rw (lt-leb (min c 9) 8 (omega arith), lt-leb c 8 (omega arith)) refl

-- ---- a refusal stays

module _ (ts : List Token) (ks ns : List ℕ) where
  pub still-named : Still ts (named ks ns)
  unfolding named
  still-named = still-next ts ks 64 (name_at ns) (moved refused) (still-refused ts)

  still-behind : (rest : State → State) (from n : ℕ) → Still ts (Events.events_behind ks ns rest from n)
  unfolding Events.events_behind
  still-behind rest from n s m h =
      rw (not-next ks 19 s.put h.not, not-next ks 26 s.put h.not) (still-stamp ts (Events.counted n) from s m h)

  still-term : (e : ℕ) → Still ts (Events.term ks ns e)
  unfolding Events.term
  still-term e s m h = still-named (write (e ∷ []) s) m (still-write ts (e ∷ []) s m h)

  module _ (count : ℕ) where
    still-waits : (from : ℕ) → Still ts (Events.waits ks ns count from)
    unfolding Events.waits
    still-waits from = still-next ts ks 20 (Events.event_list ks ns count from) (Events.term ks ns 0) (still-term 0)

    still-counting : Still ts (λ w. Events.counting ks ns count (write (0x0C ∷ 0x10 ∷ []) w))
    unfolding Events.counting
    still-counting s m h =
        let w = write (0x0C ∷ 0x10 ∷ []) s in
        still-waits w.put.pos (write (1 ∷ []) w) m (still-write ts (1 ∷ []) w m (still-write ts (0x0C ∷ 0x10 ∷ []) s m h))

    pub still-control : Still ts (Events.control ks ns count)
    unfolding Events.control
    still-control s m h = still-counting (moved (expected ks 27) s) m (still-expected ts ks 27 s m h)

-- The bytes of one event, and of a name.
abbrev pub term_bytes : EdgeTerm → List ℕ
term_bytes t = encode_terms (t ∷ [])

module _ (index : List ℕ → ℕ) (small : (s : List ℕ) → index s < 256) (ts : List Token) (ks ns : List ℕ) (tab : Tabled index ts ks ns) where
  abbrev pub name_bytes : Name → List ℕ
  name_bytes n = index n.spelled ∷ []

  -- ---- names

  pub next-kind : (k : ℕ) {l : List ℕ} (s : State) (us : List Token) → Passed ts s us l → is_next ks k s.put ≡ eqb (kind_front us) k
  unfolding is_next
  next-kind k s us h = rw h.yes (ap (λ x. eqb x k) (kind-is index ts ks ns tab s.put.next us h.to))

  name-refused : {l : List ℕ} (s : State) (us : List Token) → Passed ts s us l → (kind_front us ≡ 64 → ⊥)
      → Follows ts l name_bytes (named ks ns s) (no (length us))
  unfolding Follows named refused
  name-refused s us h e =
      rw (next-kind 64 s us h, ne_eqb (kind_front us) 64 e) (record { not = refl; at = h.to.count })

  name-read : (m : List ℕ) (s : State) (n : Name) (us : List Token) → Passed ts s (name n ∷ us) m
      → Follows ts m name_bytes (named ks ns s) (ok n us)
  unfolding Follows named name_at kind_front kind_of number_in
  name-read m s n us h =
      let e : row_at ns s.put.next % 256 ≡ index n.spelled =
      ap (λ x. x % 256) (number_is index ts ks ns tab s.put.next (name n) us h.to) ∙ mod-eq_of_lt (small n.spelled) in
      rw (next-kind 64 s (name n ∷ us) h, e)
      (passed-write ts (index n.spelled ∷ []) (moved after s) us (Passing.passed-after index ts ks ns tab s (name n) us h))

  pub named-follows : {l : List ℕ} (s : State) (us : List Token) → Passed ts s us l → Follows ts l name_bytes (named ks ns s) (ident us)
  unfolding ident kind_front kind_of
  named-follows s [] h = name-refused s [] h (λ e. omega arith)
  named-follows s (terminal w ∷ us) h = name-refused s (terminal w ∷ us) h (terminal-other w 64 (omega arith) (omega arith))
  named-follows {l} s (name n ∷ us) h = name-read l s n us h
  named-follows s (number true n ∷ us) h = name-refused s (number true n ∷ us) h (λ e. omega arith)
  named-follows s (number false n ∷ us) h = name-refused s (number false n ∷ us) h (λ e. omega arith)
  named-follows s (known v ∷ us) h = name-refused s (known v ∷ us) h (λ e. omega arith)
  named-follows s (unknown ∷ us) h = name-refused s (unknown ∷ us) h (λ e. omega arith)
  named-follows s (broken ∷ us) h = name-refused s (broken ∷ us) h (λ e. omega arith)

  -- ---- events

  term-follows : (e : Edge) {l : List ℕ} (s : State) (us : List Token) → Passed ts s us l
      → Follows ts l term_bytes (Events.term ks ns (edge_number e) s) (bind (ident us) (λ n. give (term_of index e n)))
  unfolding Events.term term_of encode_terms
  term-follows e {l} s us h =
      map-follows ts (l ++ (edge_number e ∷ [])) l name_bytes term_bytes (named ks ns (write (edge_number e ∷ []) s)) (ident us)
      (λ n. term_of index e n)
      (named-follows (write (edge_number e ∷ []) s) us (passed-write ts (edge_number e ∷ []) s us h))
      (λ n. append_assoc l (edge_number e ∷ []) (index n.spelled ∷ []))

  event-follows : {l : List ℕ} (s : State) (us : List Token) → Passed ts s us l → Follows ts l term_bytes (Events.event ks ns s)
      (Reader.event index us)
  unfolding Events.event Reader.event Events.edge Reader.edge Reader.change edge_number
  event-follows {l} s us h =
      Passing.by_next index ts ks ns tab (ascii "posedge") 17 posedge-mark (omega arith) l term_bytes (Events.edge ks ns 1) _
      (Reader.edge index (ascii "posedge") Posedge) _ s us h
      (λ e. Passing.over index ts ks ns tab (ascii "posedge") 17 posedge-mark (omega arith) l term_bytes _ _ s us h e
      (λ vs j. term-follows Posedge (moved after s) vs j))
      (λ e. Passing.by_next index ts ks ns tab (ascii "negedge") 18 negedge-mark (omega arith) l term_bytes (Events.edge ks ns 2)
      (Events.term ks ns 0)
      (Reader.edge index (ascii "negedge") Negedge) (Reader.change index) s us h
      (λ f. Passing.over index ts ks ns tab (ascii "negedge") 18 negedge-mark (omega arith) l term_bytes _ _ s us h f
      (λ vs j. term-follows Negedge (moved after s) vs j))
      (λ f. term-follows Change s us h))

  -- ---- lists: c events were read, and r are their bytes behind the byte of their count

  abbrev counting : ℕ → List ℕ → List EdgeTerm → List ℕ
  counting c r es = up_to 8 (c + length es) ∷ (r ++ encode_terms es)

  -- One event more.
  one-event : (l r : List ℕ) (x : ℕ) (t : EdgeTerm) → (l ++ (x ∷ r)) ++ term_bytes t ≡ l ++ (x ∷ (r ++ term_bytes t))
  one-event l r x t = append_assoc l (x ∷ r) (term_bytes t)

  count-one : (c : ℕ) (r : List ℕ) (t : EdgeTerm) (es : List EdgeTerm) → counting (c + 1) (r ++ term_bytes t) es ≡ counting c r (t ∷ es)
  unfolding encode_terms
  count-one c r t es =
      let e : c + 1 + length es ≡ c + suc (length es) = omega arith in
      rw (e, append_assoc r (term_bytes t) (encode_terms es)) refl

  count-last : (c : ℕ) (r : List ℕ) (t : EdgeTerm) → Events.counted (min (c + 1) 9) ∷ (r ++ term_bytes t) ≡ counting c r (t ∷ [])
  count-last c r t = ap (λ n. n ∷ (r ++ term_bytes t)) (count_law (c + 1))

  more-follow : (g from c : ℕ) (l r : List ℕ) (x : ℕ) (t : EdgeTerm) (s : State) (us : List Token) (w : List ℕ) (k : ℕ) (m : Numbered w k)
      (o : 1 ≤ k)
      → ((v : State) (vs : List Token) → Passed ts v vs (l ++ (x ∷ (r ++ term_bytes t)))
      → Follows ts l (counting (c + 1) (r ++ term_bytes t)) (Events.events ks ns g from (min (c + 1) 9) v) (Reader.events index g vs))
      → Passed ts s us (l ++ (x ∷ (r ++ term_bytes t))) → starts w us ≡ true
      → Follows ts l (counting c r) (Events.onward ks ns (Events.events ks ns g from (min (c + 1) 9)) s)
      (Reader.further_events index (Reader.events index g) t w us)
  unfolding Events.onward Reader.further_events
  more-follow g from c l r x t s us w k m o ih h e =
      Passing.over index ts ks ns tab w k m o l (counting c r) _ _ s us h e
      (λ vs j. map-follows ts l l (counting (c + 1) (r ++ term_bytes t)) (counting c r)
      (Events.events ks ns g from (min (c + 1) 9) (moved after s))
      (Reader.events index g vs) (λ es. t ∷ es) (ih (moved after s) vs j) (λ es. ap (λ z. l ++ z) (count-one c r t es)))

  behind-follows : (g from c : ℕ) (l r : List ℕ) (x : ℕ) (t : EdgeTerm) (v : State) (vs : List Token) → from ≡ place_of l
      → ((w : State) (ws : List Token) → Passed ts w ws (l ++ (x ∷ (r ++ term_bytes t)))
      → Follows ts l (counting (c + 1) (r ++ term_bytes t)) (Events.events ks ns g from (min (c + 1) 9) w) (Reader.events index g ws))
      → Passed ts v vs (l ++ (x ∷ (r ++ term_bytes t)))
      → Follows ts l (counting c r) (Events.events_behind ks ns (Events.events ks ns g from (min (c + 1) 9)) from (min (c + 1) 9) v)
      (Reader.more_events index (Reader.events index g) t vs)
  unfolding Reader.more_events Events.events_behind
  behind-follows g from c l r x t v vs e ih j =
      Passing.by_next index ts ks ns tab (ascii "or") 19 or-mark (omega arith) l (counting c r) _ _ _ _ v vs j
      (λ q. more-follow g from c l r x t v vs (ascii "or") 19 or-mark (omega arith) ih j q)
      (λ q. Passing.by_next index ts ks ns tab (ascii ",") 26 comma-mark (omega arith) l (counting c r) _ _ _ _ v vs j
      (λ z. more-follow g from c l r x t v vs (ascii ",") 26 comma-mark (omega arith) ih j z)
      (λ z. given ts l _ (counting c r) _ vs (t ∷ []) (passed-stamp ts l (r ++ term_bytes t) x (Events.counted (min (c + 1) 9)) from
      _ vs e j)
      (ap (λ y. l ++ y) (count-last c r t))))

  pub events-follow : (g from c x : ℕ) (l r : List ℕ) (s : State) (us : List Token) → from ≡ place_of l → Passed ts s us (l ++ (x ∷ r))
      → Follows ts l (counting c r) (Events.events ks ns g from (min c 9) s) (Reader.events index g us)
  unfolding Events.events Reader.events refuse
  events-follow zero from c x l r s us e h = none_left ts l (counting c r) s us h
  events-follow (suc g) from c x l r s us e h =
      rw (more-law c)
      (then-follows ts (Events.events_behind ks ns (Events.events ks ns g from (min (c + 1) 9)) from (min (c + 1) 9)) (l ++ (x ∷ r)) l
      term_bytes (counting c r) (Events.event ks ns s) (Reader.event index us) (λ t. Reader.more_events index (Reader.events index g) t)
      (event-follows s us h) (still-behind ts ks ns (Events.events ks ns g from (min (c + 1) 9)) from (min (c + 1) 9))
      (λ t vs j. behind-follows g from c l r x t (Events.event ks ns s) vs e
      (λ w ws p. events-follow g from (c + 1) x l (r ++ term_bytes t) w ws e p) (rw (one-event l r x t) at j)))

  -- ---- controls

  abbrev pub control_bytes : List EdgeTerm → List ℕ
  control_bytes es = 0x0C ∷ 0x10 ∷ up_to 8 (length es) ∷ encode_terms es

  all-counted : (l : List ℕ) (es : List EdgeTerm) → (l ++ (0x0C ∷ 0x10 ∷ [])) ++ counting 0 [] es ≡ l ++ control_bytes es
  all-counted l es = rw (zero-add (length es)) (append_assoc l (0x0C ∷ 0x10 ∷ []) _)

  one-counted : (l : List ℕ) (t : EdgeTerm) → ((l ++ (0x0C ∷ 0x10 ∷ [])) ++ (1 ∷ [])) ++ term_bytes t ≡ l ++ control_bytes (t ∷ [])
  unfolding up_to
  one-counted l t = simp append_assoc

  module _ (count : ℕ) (all : count ≡ length ts) where
    list-follows : (from : ℕ) (l : List ℕ) (s : State) (us : List Token) → from ≡ place_of (l ++ (0x0C ∷ 0x10 ∷ []))
        → Passed ts s us ((l ++ (0x0C ∷ 0x10 ∷ [])) ++ (1 ∷ [])) → starts (ascii "(") us ≡ true
        → Follows ts l control_bytes (Events.event_list ks ns count from s) (Reader.event_list index us)
    unfolding Events.event_list Events.listed Reader.event_list
    list-follows from l s us e h q =
        Passing.over index ts ks ns tab (ascii "(") 20 open-mark (omega arith) l control_bytes _ _ s us h q
        (λ vs j.
        let n : count - (moved after s).put.next ≡ length vs = omega (arith, all, j.to.count) in
        rw n (closed-follows index ts ks ns tab (ascii ")") 21 close-mark (omega arith) (l ++ (0x0C ∷ 0x10 ∷ [])) l
        (counting 0 []) control_bytes
        (Events.events ks ns (length vs) from 0 (moved after s)) (Reader.events index (length vs) vs) (λ es. es)
        (events-follow (length vs) from 0 1 (l ++ (0x0C ∷ 0x10 ∷ [])) [] (moved after s) vs e j) (λ es. all-counted l es)))

    pub control-follows : {l : List ℕ} (s : State) (us : List Token) → Passed ts s us l
        → Follows ts l control_bytes (Events.control ks ns count s) (Reader.control index us)
    unfolding Events.control Events.counting Events.waits Reader.control Reader.event_name Reader.change edge_number
    control-follows {l} s us h =
        Passing.asked index ts ks ns tab (ascii "@") 27 at_mark (omega arith) l control_bytes
        (λ w. Events.counting ks ns count (write (0x0C ∷ 0x10 ∷ []) w)) _ s us h (still-counting ts ks ns count)
        (λ vs j.
        let w = write (0x0C ∷ 0x10 ∷ []) (moved (expected ks 27) s) in
        let k = passed-write ts (0x0C ∷ 0x10 ∷ []) (moved (expected ks 27) s) vs j in
        let z = passed-write ts (1 ∷ []) w vs k in
        Passing.by_next index ts ks ns tab (ascii "(") 20 open-mark (omega arith) l control_bytes _ _ _ _ (write (1 ∷ []) w) vs z
        (λ q. list-follows w.put.pos l (write (1 ∷ []) w) vs k.holds.place z q)
        (λ q. map-follows ts ((l ++ (0x0C ∷ 0x10 ∷ [])) ++ (1 ∷ [])) l term_bytes control_bytes (Events.term ks ns 0 (write (1 ∷ []) w))
        (Reader.change index vs) (λ t. t ∷ []) (term-follows Change (write (1 ∷ []) w) vs z) (λ t. one-counted l t)))
