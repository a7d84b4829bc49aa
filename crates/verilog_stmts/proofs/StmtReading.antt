-- Statements but case: the table's reader follows the grammar's.
-- Assumes nothing.
use mathlib.Core.Path.{◌≡◌, refl}
use mathlib.Core.Bool.{true}
use mathlib.Core.List.{List, [], ◌∷◌, ◌++◌, append_assoc}
use Prim.Native.Nat.{ℕ, zero, suc, ◌-◌, ◌<◌}
use native.Mathlib.Omega.{arith}
use lib.ListN.{length}
use Rattle.sheet.specs.declared.EdgeTerm.{EdgeTerm}
use Rattle.sheet.specs.Expression.{Expr}
use Rattle.sheet.specs.Statement.{Stmt, empty, assign, later, sequence, if_then, if_else, while, forever, wait}
use Rattle.writing.specs.Ascii.{ascii}
use Rattle.verilog_tokens.specs.Tokens.{Token, Name}
use Rattle.verilog_grammar.specs.AnnexA.{Expression}
use Rattle.verilog_grammar.specs.Meaning.{nested, block_of, expr_of}
use Rattle.verilog_grammar.specs.Reader.{Res, ok, no, Reader as Reads, bind, give, refuse, starts, ident, expression}
use Rattle.verilog_grammar.specs.Reader
use Rattle.verilog_source.specs.Written.{written_stmt}
use Rattle.verilog_bytes.specs.Held.{place_of}
use Rattle.verilog_exprs.specs.Rows.{expected}
use Rattle.verilog_exprs.specs.Following.{Tabled, Passed, Follows}
use Rattle.verilog_exprs.specs.Claims.{bytes_of}
use Rattle.verilog_exprs.proofs.Marks.{open-mark, close-mark}
use Rattle.verilog_exprs.proofs.Follows.{map-follows, closed-follows}
use Rattle.verilog_exprs.proofs.Reading.{expressions-follow}
use Rattle.verilog_exprs.specs.Claims.{ExpressionsFollow}
use Rattle.verilog_stmts.specs.Steps.{State, moved, after, write, front, stamp_at, named}
use Rattle.verilog_stmts.specs.Events
use Rattle.verilog_stmts.specs.Stmts
use Rattle.verilog_stmts.specs.Stmts.{value, value_at, label_at, stay}
use Rattle.verilog_stmts.proofs.Passing
use Rattle.verilog_stmts.proofs.Passing.{Still, none_left, still-write, still-stamp, still-refused, still-expected, still-next}
use Rattle.verilog_stmts.proofs.Passing.{then-follows}
use Rattle.verilog_stmts.proofs.Passing.{yes-follows, no-still, given, passed-write, passed-stamp, passed-front}
use Rattle.verilog_stmts.proofs.EventReading.{name_bytes, named-follows, control_bytes, control-follows}
use Rattle.verilog_stmts.proofs.Signs.{begin-mark, end_mark, if-mark, else-mark, while-mark, forever-mark, semicolon-mark}
use Rattle.verilog_stmts.proofs.Signs.{gets-mark, arrow-mark}

-- ---- a refusal stays

module _ (ts : List Token) (ks ns : List ℕ) (count : ℕ) where
  pub still-value : Still ts (value ks ns count)
  unfolding value
  still-value s n h = no-still ts s.put.ok (value_at ks ns count) stay s n h.not h

  pub still-condition : Still ts (Stmts.condition ks ns count (value ks ns count) (label_at ks ns))
  unfolding Stmts.condition
  still-condition s n h =
      still-expected ts ks 21 (value ks ns count (moved (expected ks 20) s)) n
      (still-value (moved (expected ks 20) s) n (still-expected ts ks 20 s n h))

  still-closed : Still ts (Stmts.closed ks ns count (value ks ns count) (label_at ks ns))
  unfolding Stmts.closed
  still-closed s n h = still-expected ts ks 25 (value ks ns count s) n (still-value s n h)

  still-assigned : (from : ℕ) → Still ts (Stmts.assigned ks ns count (value ks ns count) (label_at ks ns) from)
  unfolding Stmts.assigned Stmts.later
  still-assigned from =
      still-next ts ks 28 (Stmts.now ks ns count (value ks ns count) (label_at ks ns))
      (Stmts.later ks ns count (value ks ns count) (label_at ks ns) from)
      (λ s n h. still-closed (moved (expected ks 30) (stamp_at 0x23 from s)) n
      (still-expected ts ks 30 (stamp_at 0x23 from s) n (still-stamp ts 0x23 from s n h)))

  module _ (inner : State → State) (st : Still ts inner) where
    pub still-or_null : Still ts (Stmts.or_null ks ns count (value ks ns count) (label_at ks ns) inner)
    unfolding Stmts.or_null
    still-or_null = still-next ts ks 25 (Stmts.null ks ns count (value ks ns count) (label_at ks ns)) inner st

    pub still-or_else : (from : ℕ) → Still ts (Stmts.or_else ks ns count (value ks ns count) (label_at ks ns) inner from)
    unfolding Stmts.or_else
    still-or_else from = still-next ts ks 11 (Stmts.else_part ks ns count (value ks ns count) (label_at ks ns) inner from) stay (λ s n h. h)

    pub still-rest : (g from : ℕ) → Still ts (Stmts.block_rest ks ns count (value ks ns count) (label_at ks ns) inner g from)
    unfolding Stmts.block_rest
    still-rest zero from s n h = still-refused ts s n h
    still-rest (suc g) from s n h = no-still ts s.put.ok (Stmts.block_by ks ns count (value ks ns count) (label_at ks ns) inner
        (Stmts.block_rest ks ns count (value ks ns count) (label_at ks ns) inner g) from) stay s n h.not h

module _ (index : List ℕ → ℕ) (small : (s : List ℕ) → index s < 256) (ts : List Token) (ks ns : List ℕ) (tab : Tabled index ts ks ns)
    (count : ℕ) (all : count ≡ length ts) where
  -- ---- expressions

  pub value-follows : {l : List ℕ} (s : State) (us : List Token) → Passed ts s us l
      → Follows ts l (bytes_of index) (value ks ns count s) (expression us)
  unfolding value value_at ExpressionsFollow
  value-follows {l} s us h =
      let n : count - s.put.next ≡ length us = omega (arith, all, h.to.count) in
      yes-follows ts l (bytes_of index) s.put.ok (value_at ks ns count) stay s (expression us) h.yes
      (rw n (expressions-follow index ts us ks ns tab small s.put.next s.put.pos s.bytes l h.to h.holds))

  pub condition-follows : {l : List ℕ} (s : State) (us : List Token) → Passed ts s us l
      → Follows ts l (bytes_of index) (Stmts.condition ks ns count (value ks ns count) (label_at ks ns) s) (Reader.condition us)
  unfolding Stmts.condition Reader.condition
  condition-follows {l} s us h =
      Passing.asked index ts ks ns tab
      (ascii "(") 20 open-mark (omega arith) l (bytes_of index) (λ w. moved (expected ks 21) (value ks ns count w)) _ s us h
      (λ w n k. still-expected ts ks 21 (value ks ns count w) n (still-value ts ks ns count w n k))
      (λ vs j. closed-follows index ts ks ns tab (ascii ")") 21 close-mark (omega arith) l l (bytes_of index) (bytes_of index)
      (value ks ns count (moved (expected ks 20) s))
      (expression vs) (λ e. e) (value-follows (moved (expected ks 20) s) vs j) (λ e. refl))

  -- ---- assignments

  closed-law : {l : List ℕ} (m : List ℕ) (x : Expression → Stmt Expr) (s : State) (us : List Token) → Passed ts s us l
      → ((e : Expression) → l ++ bytes_of index e ≡ m ++ written_stmt (x e))
      → Follows ts m written_stmt (Stmts.closed ks ns count (value ks ns count) (label_at ks ns) s)
      (bind (expression us) (λ e vs. bind (Reader.expect (ascii ";") vs) (λ u. give (x e))))
  unfolding Stmts.closed
  closed-law {l} m x s us h e =
      closed-follows index ts ks ns tab (ascii ";") 25 semicolon-mark (omega arith) l m (bytes_of index) written_stmt (value ks ns count s)
      (expression us) x
      (value-follows s us h) e

  now-law : (l : List ℕ) (n : Name) (e : Expression) → ((l ++ (0x03 ∷ [])) ++ name_bytes index small ts ks ns tab n) ++ bytes_of index e
      ≡ l ++ written_stmt (assign (index n.spelled) (expr_of index e))
  unfolding written_stmt bytes_of
  now-law l n e = simp append_assoc

  later-law : (l : List ℕ) (n : Name) (e : Expression) → (l ++ (0x23 ∷ name_bytes index small ts ks ns tab n)) ++ bytes_of index e
      ≡ l ++ written_stmt (later (index n.spelled) (expr_of index e))
  unfolding written_stmt bytes_of
  later-law l n e = simp append_assoc

  pub assignment-follows : {l : List ℕ} (s : State) (us : List Token) → Passed ts s us l
      → Follows ts l written_stmt (Stmts.assignment ks ns count (value ks ns count) (label_at ks ns) s) (Reader.assignment index us)
  unfolding Stmts.assignment Stmts.assigned Stmts.now Stmts.later Reader.assignment Reader.blocking_to Reader.nonblocking_to
  assignment-follows {l} s us h =
      let a = write (0x03 ∷ []) s in
      then-follows ts (Stmts.assigned ks ns count (value ks ns count) (label_at ks ns) s.put.pos) (l ++ (0x03 ∷ [])) l
      (name_bytes index small ts ks ns tab) written_stmt (named ks ns a) (ident us) _
      (named-follows index small ts ks ns tab a us (passed-write ts (0x03 ∷ []) s us h)) (still-assigned ts ks ns count s.put.pos)
      (λ n vs j. Passing.by_next index ts ks ns tab (ascii "=") 28 gets-mark (omega arith) l written_stmt
      (Stmts.now ks ns count (value ks ns count) (label_at ks ns)) (Stmts.later ks ns count (value ks ns count) (label_at ks ns)
      s.put.pos) _ _ (named ks ns a) vs j
      (λ q. Passing.over index ts ks ns tab (ascii "=") 28 gets-mark (omega arith) l written_stmt _ _ (named ks ns a) vs j q
      (λ ws k. closed-law l (λ e. assign (index n.spelled) (expr_of index e)) (moved after (named ks ns a)) ws k (λ e. now-law l n e)))
      (λ q. Passing.asked index ts ks ns tab (ascii "<=") 30 arrow-mark (omega arith) l written_stmt
      (Stmts.closed ks ns count (value ks ns count) (label_at ks ns)) _ (stamp_at 0x23 s.put.pos (named ks ns a)) vs
      (passed-stamp ts l (name_bytes index small ts ks ns tab n) 0x03 0x23 s.put.pos (named ks ns a) vs h.holds.place
      (rw (append_assoc l (0x03 ∷ []) (name_bytes index small ts ks ns tab n)) at j)) (still-closed ts ks ns count)
      (λ ws k. closed-law l (λ e. later (index n.spelled) (expr_of index e))
      (moved (expected ks 30) (stamp_at 0x23 s.put.pos (named ks ns a))) ws k (λ e. later-law l n e))))

  -- ---- statements within statements

  module _ (inner : State → State) (reads : Reads (Stmt Expr)) (st : Still ts inner)
      (ih : (l : List ℕ) (s : State) (us : List Token) → Passed ts s us l → Follows ts l written_stmt (inner s) (reads us)) where
    null-follows : {l : List ℕ} (s : State) (us : List Token) → Passed ts s us l → starts (ascii ";") us ≡ true
        → Follows ts l written_stmt (Stmts.null ks ns count (value ks ns count) (label_at ks ns) s) (Reader.null_statement index us)
    unfolding Stmts.null Reader.null_statement written_stmt
    null-follows {l} s us h q =
        Passing.over index ts ks ns tab (ascii ";") 25 semicolon-mark (omega arith) l written_stmt _ _ s us h q
        (λ vs j. given ts l _ written_stmt _ vs empty (passed-write ts (0x00 ∷ []) (moved after s) vs j) refl)

    pub or_null-follows : (l : List ℕ) (s : State) (us : List Token) → Passed ts s us l
        → Follows ts l written_stmt (Stmts.or_null ks ns count (value ks ns count) (label_at ks ns) inner s) (Reader.or_null index reads us)
    unfolding Stmts.or_null Reader.or_null
    or_null-follows l s us h =
        Passing.by_next index ts ks ns tab (ascii ";") 25 semicolon-mark (omega arith) l written_stmt
        (Stmts.null ks ns count (value ks ns count) (label_at ks ns)) inner (Reader.null_statement index) reads s us h
        (λ q. null-follows s us h q) (λ q. ih l s us h)

    -- ---- loops and waits

    while-law : (l : List ℕ) (e : Expression) (a : Stmt Expr)
        → ((l ++ (0x46 ∷ [])) ++ bytes_of index e) ++ written_stmt a ≡ l ++ written_stmt (while (expr_of index e) a)
    unfolding written_stmt bytes_of
    while-law l e a = simp append_assoc

    pub while-follows : (l : List ℕ) (s : State) (us : List Token) → Passed ts s us l → starts (ascii "while") us ≡ true
        → Follows ts l written_stmt (Stmts.while_loop ks ns count (value ks ns count) (label_at ks ns) inner s)
        (Reader.while_loop index reads us)
    unfolding Stmts.while_loop Reader.while_loop
    while-follows l s us h q =
        Passing.over index ts ks ns tab (ascii "while") 15 while-mark (omega arith) l written_stmt _ _ s us h q
        (λ vs j. let w = write (0x46 ∷ []) (moved after s) in
        then-follows ts inner (l ++ (0x46 ∷ [])) l (bytes_of index) written_stmt
        (Stmts.condition ks ns count (value ks ns count) (label_at ks ns) w) (Reader.condition vs) _
        (condition-follows w vs (passed-write ts (0x46 ∷ []) (moved after s) vs j)) st
        (λ e ws k. map-follows ts ((l ++ (0x46 ∷ [])) ++ bytes_of index e) l written_stmt written_stmt
        (inner (Stmts.condition ks ns count (value ks ns count) (label_at ks ns) w)) (reads ws)
        (λ a. while (expr_of index e) a) (ih _ (Stmts.condition ks ns count (value ks ns count) (label_at ks ns) w) ws k)
        (λ a. while-law l e a)))

    forever-law : (l : List ℕ) (a : Stmt Expr) → (l ++ (0x44 ∷ [])) ++ written_stmt a ≡ l ++ written_stmt (forever a)
    unfolding written_stmt
    forever-law l a = simp append_assoc

    pub forever-follows : (l : List ℕ) (s : State) (us : List Token) → Passed ts s us l → starts (ascii "forever") us ≡ true
        → Follows ts l written_stmt (Stmts.forever_loop ks ns count (value ks ns count) (label_at ks ns) inner s)
        (Reader.forever_loop index reads us)
    unfolding Stmts.forever_loop Reader.forever_loop
    forever-follows l s us h q =
        Passing.over index ts ks ns tab (ascii "forever") 16 forever-mark (omega arith) l written_stmt _ _ s us h q
        (λ vs j. let w = write (0x44 ∷ []) (moved after s) in
        map-follows ts (l ++ (0x44 ∷ [])) l written_stmt written_stmt (inner w) (reads vs) (λ a. forever a)
        (ih _ w vs (passed-write ts (0x44 ∷ []) (moved after s) vs j)) (λ a. forever-law l a))

    wait-law : (l : List ℕ) (es : List EdgeTerm) (a : Stmt Expr)
        → (l ++ control_bytes index small ts ks ns tab es) ++ written_stmt a ≡ l ++ written_stmt (sequence (wait es) a)
    unfolding written_stmt
    wait-law l es a = simp append_assoc

    pub timing-follows : (l : List ℕ) (s : State) (us : List Token) → Passed ts s us l
        → Follows ts l written_stmt (Stmts.timing ks ns count (value ks ns count) (label_at ks ns) inner s) (Reader.timing index reads us)
    unfolding Stmts.timing Reader.timing
    timing-follows l s us h =
        then-follows ts (Stmts.or_null ks ns count (value ks ns count) (label_at ks ns) inner) l l
        (control_bytes index small ts ks ns tab) written_stmt (Events.control ks ns count s) (Reader.control index us) _
        (control-follows index small ts ks ns tab count all s us h) (still-or_null ts ks ns count inner st)
        (λ es vs j. map-follows ts (l ++ control_bytes index small ts ks ns tab es) l written_stmt written_stmt
        (Stmts.or_null ks ns count (value ks ns count) (label_at ks ns) inner (Events.control ks ns count s))
        (Reader.or_null index reads vs) (λ a. sequence (wait es) a) (or_null-follows _ (Events.control ks ns count s) vs j)
        (λ a. wait-law l es a))

    -- ---- if

    if-law : (l : List ℕ) (e : Expression) (a : Stmt Expr)
        → ((l ++ (0x06 ∷ [])) ++ bytes_of index e) ++ written_stmt a ≡ l ++ (0x06 ∷ (bytes_of index e ++ written_stmt a))
    if-law l e a = simp append_assoc

    else-law : (l : List ℕ) (e : Expression) (a b : Stmt Expr)
        → (l ++ (0x0E ∷ (bytes_of index e ++ written_stmt a))) ++ written_stmt b ≡ l ++ written_stmt (if_else (expr_of index e) a b)
    unfolding written_stmt bytes_of
    else-law l e a b = simp append_assoc

    or_else-follows : (l : List ℕ) (from : ℕ) (e : Expression) (a : Stmt Expr) (s : State) (us : List Token) → from ≡ place_of l
        → Passed ts s us (l ++ (0x06 ∷ (bytes_of index e ++ written_stmt a)))
        → Follows ts l written_stmt (Stmts.or_else ks ns count (value ks ns count) (label_at ks ns) inner from s)
        (Reader.or_else index reads (expr_of index e) a us)
    unfolding Stmts.or_else Stmts.else_part Reader.or_else Reader.else_part written_stmt bytes_of
    or_else-follows l from e a s us f h =
        Passing.by_next index ts ks ns tab (ascii "else") 11 else-mark (omega arith) l written_stmt
        (Stmts.else_part ks ns count (value ks ns count) (label_at ks ns) inner from) stay _ _ s us h
        (λ q. let k = passed-stamp ts l (bytes_of index e ++ written_stmt a) 0x06 0x0E from s us f h in
        Passing.over index ts ks ns tab (ascii "else") 11 else-mark (omega arith) l written_stmt _ _ (stamp_at 0x0E from s) us k q
        (λ vs j. map-follows ts (l ++ (0x0E ∷ (bytes_of index e ++ written_stmt a))) l written_stmt written_stmt
        (Stmts.or_null ks ns count (value ks ns count) (label_at ks ns) inner (moved after (stamp_at 0x0E from s)))
        (Reader.or_null index reads vs) (λ b. if_else (expr_of index e) a b)
        (or_null-follows _ (moved after (stamp_at 0x0E from s)) vs j) (λ b. else-law l e a b)))
        (λ q. given ts l _ written_stmt s us (if_then (expr_of index e) a) h refl)

    pub conditional-follows : (l : List ℕ) (s : State) (us : List Token) → Passed ts s us l → starts (ascii "if") us ≡ true
        → Follows ts l written_stmt (Stmts.conditional ks ns count (value ks ns count) (label_at ks ns) inner s)
        (Reader.conditional index reads us)
    unfolding Stmts.conditional Reader.conditional
    conditional-follows l s us h q =
        let w = write (0x06 ∷ []) (moved after s) in
        let c = Stmts.condition ks ns count (value ks ns count) (label_at ks ns) w in
        Passing.over index ts ks ns tab (ascii "if") 10 if-mark (omega arith) l written_stmt _ _ s us h q
        (λ vs j. then-follows ts (λ v. Stmts.or_else ks ns count (value ks ns count) (label_at ks ns) inner s.put.pos
        (Stmts.or_null ks ns count (value ks ns count) (label_at ks ns) inner v)) (l ++ (0x06 ∷ [])) l (bytes_of index) written_stmt c
        (Reader.condition vs) _ (condition-follows w vs (passed-write ts (0x06 ∷ []) (moved after s) vs j))
        (λ v n k. still-or_else ts ks ns count inner st s.put.pos
        (Stmts.or_null ks ns count (value ks ns count) (label_at ks ns) inner v) n (still-or_null ts ks ns count inner st v n k))
        (λ e ws k. then-follows ts (Stmts.or_else ks ns count (value ks ns count) (label_at ks ns) inner s.put.pos)
        ((l ++ (0x06 ∷ [])) ++ bytes_of index e) l written_stmt written_stmt
        (Stmts.or_null ks ns count (value ks ns count) (label_at ks ns) inner c)
        (Reader.or_null index reads ws) (λ a. Reader.or_else index reads (expr_of index e) a) (or_null-follows _ c ws k)
        (still-or_else ts ks ns count inner st s.put.pos)
        (λ a xs p. or_else-follows l s.put.pos e a (Stmts.or_null ks ns count (value ks ns count) (label_at ks ns) inner c) xs
        h.holds.place (rw (if-law l e a) at p))))

    -- ---- blocks

    block-law : (l : List ℕ) (a b : Stmt Expr) (xs : List (Stmt Expr))
        → (l ++ (0x0C ∷ written_stmt a)) ++ written_stmt (nested b xs) ≡ l ++ written_stmt (nested a (b ∷ xs))
    unfolding written_stmt nested
    block-law l a b xs = append_assoc l (0x0C ∷ written_stmt a) (written_stmt (nested b xs))

    rest-follows : (g from : ℕ) (l : List ℕ) (a : Stmt Expr) (s : State) (us : List Token) → from ≡ place_of l → Passed ts s us
        (l ++ written_stmt a)
        → Follows ts l (λ xs. written_stmt (nested a xs)) (Stmts.block_rest ks ns count (value ks ns count) (label_at ks ns) inner g from s)
        (Reader.statements index reads g us)
    unfolding Stmts.block_rest Stmts.block_by Stmts.block_more Stmts.block_next Reader.statements Reader.block_end Reader.block_more refuse nested
    rest-follows zero from l a s us f h = none_left ts l (λ xs. written_stmt (nested a xs)) s us h
    rest-follows (suc g) from l a s us f h =
        let w = front 0x0C from s in
        let k = passed-front ts 0x0C from l (written_stmt a) s us f h in
        yes-follows ts l (λ xs. written_stmt (nested a xs)) s.put.ok
        (Stmts.block_by ks ns count (value ks ns count) (label_at ks ns) inner
        (Stmts.block_rest ks ns count (value ks ns count) (label_at ks ns) inner g) from) stay s _ h.yes
        (Passing.by_next index ts ks ns tab (ascii "end") 9 end_mark (omega arith) l (λ xs. written_stmt (nested a xs)) (moved after)
        (Stmts.block_more ks ns count (value ks ns count) (label_at ks ns) inner
        (Stmts.block_rest ks ns count (value ks ns count) (label_at ks ns) inner g) from)
        (Reader.block_end index) (Reader.block_more index reads (Reader.statements index reads g)) s us h
        (λ q. Passing.over index ts ks ns tab (ascii "end") 9 end_mark (omega arith) l (λ xs. written_stmt (nested a xs)) _ _ s us h q
        (λ vs j. given ts l _ (λ xs. written_stmt (nested a xs)) _ vs [] j refl))
        (λ q. then-follows ts (Stmts.block_rest ks ns count (value ks ns count) (label_at ks ns) inner g w.put.pos)
        (l ++ (0x0C ∷ written_stmt a)) l written_stmt (λ xs. written_stmt (nested a xs))
        (inner w) (reads us) _ (ih _ w us k) (still-rest ts ks ns count inner st g w.put.pos)
        (λ b vs p. map-follows ts (l ++ (0x0C ∷ written_stmt a)) l (λ xs. written_stmt (nested b xs)) (λ xs. written_stmt (nested a xs))
        (Stmts.block_rest ks ns count (value ks ns count) (label_at ks ns) inner g w.put.pos (inner w))
        (Reader.statements index reads g vs) (λ xs. b ∷ xs)
        (rest-follows g w.put.pos (l ++ (0x0C ∷ written_stmt a)) b (inner w) vs k.holds.place p) (λ xs. block-law l a b xs))))

    first-follows : (g : ℕ) (l : List ℕ) (s : State) (us : List Token) → Passed ts s us l
        → Follows ts l (λ xs. written_stmt (block_of xs)) (Stmts.block_first ks ns count (value ks ns count) (label_at ks ns) inner g s)
        (Reader.statements index reads g us)
    unfolding Stmts.block_first Stmts.block_next Stmts.null Reader.statements Reader.block_end Reader.block_more refuse block_of written_stmt
    first-follows zero l s us h = none_left ts l (λ xs. written_stmt (block_of xs)) s us h
    first-follows (suc g) l s us h =
        Passing.by_next index ts ks ns tab (ascii "end") 9 end_mark (omega arith) l (λ xs. written_stmt (block_of xs))
        (Stmts.null ks ns count (value ks ns count) (label_at ks ns))
        (Stmts.block_next ks ns count (value ks ns count) (label_at ks ns) inner
        (Stmts.block_rest ks ns count (value ks ns count) (label_at ks ns) inner g))
        (Reader.block_end index) (Reader.block_more index reads (Reader.statements index reads g)) s us h
        (λ q. Passing.over index ts ks ns tab (ascii "end") 9 end_mark (omega arith) l (λ xs. written_stmt (block_of xs)) _ _ s us h q
        (λ vs j. given ts l _ (λ xs. written_stmt (block_of xs)) _ vs [] (passed-write ts (0x00 ∷ []) (moved after s) vs j) refl))
        (λ q. then-follows ts (Stmts.block_rest ks ns count (value ks ns count) (label_at ks ns) inner g s.put.pos) l l written_stmt
        (λ xs. written_stmt (block_of xs)) (inner s) (reads us) _
        (ih l s us h) (still-rest ts ks ns count inner st g s.put.pos)
        (λ b vs p. map-follows ts l l (λ xs. written_stmt (nested b xs)) (λ xs. written_stmt (block_of xs))
        (Stmts.block_rest ks ns count (value ks ns count) (label_at ks ns) inner g s.put.pos (inner s))
        (Reader.statements index reads g vs) (λ xs. b ∷ xs) (rest-follows g s.put.pos l b (inner s) vs h.holds.place p)
        (λ xs. refl)))

    pub block-follows : (l : List ℕ) (s : State) (us : List Token) → Passed ts s us l → starts (ascii "begin") us ≡ true
        → Follows ts l written_stmt (Stmts.block ks ns count (value ks ns count) (label_at ks ns) inner (moved after s))
        (Reader.block index reads us)
    unfolding Stmts.block Reader.block
    block-follows l s us h q =
        Passing.over index ts ks ns tab (ascii "begin") 8 begin-mark (omega arith) l written_stmt _ _ s us h q
        (λ vs j. let n : count - (moved after s).put.next ≡ length vs = omega (arith, all, j.to.count) in
        rw n (map-follows ts l l (λ xs. written_stmt (block_of xs)) written_stmt
        (Stmts.block_first ks ns count (value ks ns count) (label_at ks ns) inner (length vs) (moved after s))
        (Reader.statements index reads (length vs) vs) (λ xs. block_of xs) (first-follows (length vs) l (moved after s) vs j) (λ xs. refl)))
