-- The table's reader of expressions follows the grammar's: they take and refuse together, and what is read lies in the buffer as a
-- sheet has it.
-- Assumes nothing.
use mathlib.Core.Path.{◌≡◌, refl, sym, ap, ◌∙◌, subst, fun_ext}
use mathlib.Core.Bool.{Bool, true, false}
use mathlib.Core.List.{List, [], ◌∷◌, ◌++◌, append_assoc}
use mathlib.Core.Option.{Option, none as nothing, some as just}
use Prim.Native.Nat.{ℕ, zero, suc, ◌+◌, ◌%◌}
use native.Mathlib.Nat.{mod-eq_of_lt}
use native.Mathlib.Omega.{arith}
use lib.Dec.{leb, eqb}
use lib.ListN.{length}
use borrow.Author.Tests.{ne_eqb}
use Rattle.values.specs.Values.{pick}
use Rattle.writing.specs.Ascii.{ascii}
use Rattle.encoding.specs.Encoding.{encode_expr}
use Rattle.verilog_tokens.specs.Tokens.{Token, terminal, name, number, known, unknown, broken}
use Rattle.verilog_tokens.specs.Table.{kind_of, up_to255, number_in}
use Rattle.verilog_grammar.specs.AnnexA.{Unary, negation, complement, Binary, plus, minus, equals, less, conjunction, disjunction}
use Rattle.verilog_grammar.specs.AnnexA.{exclusive, unary_sign, binary_sign, Number, Expression, Primary, only, prefixed, joined, chosen}
use Rattle.verilog_grammar.specs.AnnexA.{numbered, bracketed}
use Rattle.verilog_grammar.specs.Conditions.{precedence}
use Rattle.verilog_grammar.specs.Meaning.{up_to, cut, number_expr, unary_number, binary_number, expr_of, primary_of}
use Rattle.verilog_grammar.specs.Reader.{no, Reader, bind, give, refuse, starts, if_next, is_name, ident, size, valued, identifier}
use Rattle.verilog_grammar.specs.Reader.{constant, brackets, atom, primary, prefix, plain, operand, operator, join, turn, climb, choice}
use Rattle.verilog_grammar.specs.Reader.{arms, start, reader, expression}
use Rattle.verilog_grammar.proofs.Operators.{precedence-from}
use Rattle.verilog_bytes.specs.Held.{place_of, Held}
use Rattle.verilog_bytes.proofs.Held.{held-puts, held-fronted}
use Rattle.verilog_exprs.specs.Rows.{row_at, Step, passed}
use Rattle.verilog_exprs.specs.Constants.{constant_bytes}
use Rattle.verilog_exprs.specs.Exprs.{precedence_of, operator_of, binds, value_at, atom_at, brackets_at, primary_at, prefix_at, operand_at}
use Rattle.verilog_exprs.specs.Exprs.{join_at, climb_at, choice_at, arms_at, expr_at}
use Rattle.verilog_exprs.specs.Following.{Tabled, byte_of, From, Follows}
use Rattle.verilog_exprs.specs.Claims.{bytes_of, LevelsFollow, ExpressionsFollow}
use Rattle.verilog_exprs.proofs.Values.{width-capped, cut-width, cut-remainder}
use Rattle.verilog_exprs.proofs.Exprs.{value-known, value-unknown, value_none, atom-name, atom-size, atom-none}
use Rattle.verilog_exprs.proofs.Marks.{terminal-other, kind_front, starts_is, open-mark, close-mark, colon-mark, query-mark}
use Rattle.verilog_exprs.proofs.Marks.{tilde-mark, bang-mark, plus-mark, minus-mark, less-mark, equals-mark, and-mark, caret-mark}
use Rattle.verilog_exprs.proofs.Marks.{bar-mark}
use Rattle.verilog_exprs.proofs.Follows.{from_next, kind-is, number_is, starts_none, expect-first, bind-follows, map-follows}
use Rattle.verilog_exprs.proofs.Follows.{refused-follows, next-follows, closed-follows, rebind}

-- ---- operators: the sign in front, by the reader and by its kind

-- An operator's precedence and number, and its sign in front.
Agrees : List Token → Option Binary → ℕ → ℕ → Type 0
Agrees us nothing p n = p ≡ 0
Agrees us (just o) p n = (p ≡ precedence o) × (n ≡ binary_number o) × (starts (binary_sign o) us ≡ true)

operator-agrees : (us : List Token) → Agrees us (operator us) (precedence_of (kind_front us)) (operator_of (kind_front us))
unfolding operator precedence_of operator_of Agrees precedence binary_number binary_sign
operator-agrees us =
    rw (
      ← starts_is (ascii "+") 38 plus-mark (omega arith) us,
      ← starts_is (ascii "-") 39 minus-mark (omega arith) us,
      ← starts_is (ascii "<") 31 less-mark (omega arith) us,
      ← starts_is (ascii "==") 29 equals-mark (omega arith) us,
      ← starts_is (ascii "&") 35 and-mark (omega arith) us,
      ← starts_is (ascii "^") 37 caret-mark (omega arith) us,
      ← starts_is (ascii "|") 36 bar-mark (omega arith) us,
    )
    (by (starts (ascii "+") us) refl (starts (ascii "-") us) refl (starts (ascii "<") us) refl (starts (ascii "==") us) refl
    (starts (ascii "&") us) refl (starts (ascii "^") us) refl (starts (ascii "|") us) refl)
  where
    by : (a : Bool) → starts (ascii "+") us ≡ a → (b : Bool) → starts (ascii "-") us ≡ b → (c : Bool) → starts (ascii "<") us ≡ c
        → (d : Bool) → starts (ascii "==") us ≡ d → (e : Bool) → starts (ascii "&") us ≡ e → (f : Bool) → starts (ascii "^") us ≡ f
        → (g : Bool) → starts (ascii "|") us ≡ g
        → Agrees us (pick a (just plus) (pick b (just minus) (pick c (just less) (pick d (just equals) (pick e (just conjunction)
        (pick f (just exclusive) (pick g (just disjunction) nothing)))))))
        (pick a 7 (pick b 7 (pick c 6 (pick d 5 (pick e 4 (pick f 3 (pick g 2 0)))))))
        (pick a 6 (pick b 7 (pick c 9 (pick d 8 (pick e 3 (pick f 5 4))))))
    by true p b q c r d s e t f u g v = (refl, refl, p)
    by false p true q c r d s e t f u g v = (refl, refl, q)
    by false p false q true r d s e t f u g v = (refl, refl, r)
    by false p false q false r true s e t f u g v = (refl, refl, s)
    by false p false q false r false s true t f u g v = (refl, refl, t)
    by false p false q false r false s false t true u g v = (refl, refl, u)
    by false p false q false r false s false t false u true v = (refl, refl, v)
    by false p false q false r false s false t false u false v = refl

module _ (index : List ℕ → ℕ) (ts : List Token) (kinds numbers : List ℕ) (tab : Tabled index ts kinds numbers) where
  abbrev bytes_of_number : Number → List ℕ
  bytes_of_number n = encode_expr (number_expr n)

  abbrev bytes_of_primary : Primary → List ℕ
  bytes_of_primary p = encode_expr (primary_of (byte_of index) p)

  abbrev bytes_of_expression : Expression → List ℕ
  bytes_of_expression e = bytes_of (byte_of index) e

  -- ---- the table's rows

  kind_at : (i : ℕ) (us : List Token) → From ts i us → kind_front us ≡ row_at kinds i
  kind_at i us f = sym (kind-is index ts kinds numbers tab i us f)

  number-at : (i : ℕ) (t : Token) (us : List Token) → From ts i (t ∷ us) → number_in index t ≡ row_at numbers i
  number-at i t us f = sym (number_is index ts kinds numbers tab i t us f)

  -- ---- primaries

  value-refused : (w i p : ℕ) (bs l : List ℕ) (us : List Token) → From ts i us → (kind_front us ≡ 67 → ⊥) → (kind_front us ≡ 68 → ⊥)
      → Follows ts l bytes_of_number (value_at kinds numbers w i p bs) (no (length us))
  value-refused w i p bs l us f a b =
      rw (← value_none kinds numbers (kind_front us) i p bs (kind_at i us f) w a b)
      (refused-follows ts l bytes_of_number i p bs us f)

  value-follows : (w i p : ℕ) (bs l : List ℕ) (us : List Token) → From ts i us → Held bs p l
      → Follows ts l bytes_of_number (value_at kinds numbers (up_to 32 w) i p bs) (valued w us)
  unfolding valued kind_front kind_of number_in Follows number_expr encode_expr constant_bytes
  value-follows w i p bs l [] f h = value-refused (up_to 32 w) i p bs l [] f (λ e. omega arith) (λ e. omega arith)
  value-follows w i p bs l (terminal s ∷ us) f h =
      value-refused (up_to 32 w) i p bs l (terminal s ∷ us) f (terminal-other s 67 (omega arith) (omega arith))
      (terminal-other s 68 (omega arith) (omega arith))
  value-follows w i p bs l (name n ∷ us) f h =
      value-refused (up_to 32 w) i p bs l (name n ∷ us) f (λ e. omega arith) (λ e. omega arith)
  value-follows w i p bs l (number true n ∷ us) f h =
      value-refused (up_to 32 w) i p bs l (number true n ∷ us) f (λ e. omega arith) (λ e. omega arith)
  value-follows w i p bs l (number false n ∷ us) f h =
      value-refused (up_to 32 w) i p bs l (number false n ∷ us) f (λ e. omega arith) (λ e. omega arith)
  value-follows w i p bs l (known v ∷ us) f h =
      let cuts : cut (up_to 32 w) (v % 4294967296) ≡ cut w v = cut-width w (v % 4294967296) ∙ cut-remainder w v in
      rw (← value-known kinds numbers 67 i p bs (kind_at i (known v ∷ us) f) (up_to 32 w)
      (v % 4294967296) _ refl
      (number-at i (known v) us f) refl)
      (record { yes = refl; to = from_next ts i (known v) us f; holds = rw cuts (held-puts _ h) })
  value-follows w i p bs l (unknown ∷ us) f h =
      rw (← value-unknown kinds numbers 68 i p bs (kind_at i (unknown ∷ us) f) (up_to 32 w) _ refl refl)
      (record { yes = refl; to = from_next ts i unknown us f; holds = held-puts _ h })
  value-follows w i p bs l (broken ∷ us) f h =
      value-refused (up_to 32 w) i p bs l (broken ∷ us) f (λ e. omega arith) (λ e. omega arith)

  atom-refused : (i p : ℕ) (bs l : List ℕ) (us : List Token) → From ts i us → (kind_front us ≡ 64 → ⊥) → (kind_front us ≡ 65 → ⊥)
      → Follows ts l bytes_of_primary (atom_at kinds numbers i p bs) (no (length us))
  atom-refused i p bs l us f a b =
      rw (← atom-none kinds numbers (kind_front us) i p bs (kind_at i us f) a b)
      (refused-follows ts l bytes_of_primary i p bs us f)

  atom-follows : (i p : ℕ) (bs l : List ℕ) (us : List Token) → From ts i us → Held bs p l
      → Follows ts l bytes_of_primary (atom_at kinds numbers i p bs) (atom us)
  unfolding atom is_name identifier ident constant size kind_front kind_of number_in Follows primary_of encode_expr byte_of
  atom-follows i p bs l [] f h = atom-refused i p bs l [] f (λ e. omega arith) (λ e. omega arith)
  atom-follows i p bs l (terminal s ∷ us) f h =
      atom-refused i p bs l (terminal s ∷ us) f (terminal-other s 64 (omega arith) (omega arith))
      (terminal-other s 65 (omega arith) (omega arith))
  atom-follows i p bs l (name n ∷ us) f h =
      rw (← atom-name kinds numbers 64 i p bs (kind_at i (name n ∷ us) f) (index n.spelled) _
      (number-at i (name n) us f) refl refl)
      (record { yes = refl; to = from_next ts i (name n) us f; holds = held-puts _ h })
  atom-follows i p bs l (number true w ∷ us) f h =
      rw (← atom-size kinds numbers 65 i p bs (kind_at i (number true w ∷ us) f) (up_to255 w) (up_to 32 w)
      (number-at i (number true w) us f) refl (sym (width-capped w)))
      (map-follows ts l l bytes_of_number bytes_of_primary _ (valued w us) numbered
      (value-follows w (i + 1) p bs l us (from_next ts i (number true w) us f) h) (λ n. refl))
  atom-follows i p bs l (number false n ∷ us) f h =
      atom-refused i p bs l (number false n ∷ us) f (λ e. omega arith) (λ e. omega arith)
  atom-follows i p bs l (known v ∷ us) f h = atom-refused i p bs l (known v ∷ us) f (λ e. omega arith) (λ e. omega arith)
  atom-follows i p bs l (unknown ∷ us) f h = atom-refused i p bs l (unknown ∷ us) f (λ e. omega arith) (λ e. omega arith)
  atom-follows i p bs l (broken ∷ us) f h = atom-refused i p bs l (broken ∷ us) f (λ e. omega arith) (λ e. omega arith)

  -- ---- over readers of an expression of each level that follow each other

  module _ (inner : ℕ → Step) (expr : ℕ → Reader Expression)
      (follow : (k i p : ℕ) (bs l : List ℕ) (us : List Token) → From ts i us → Held bs p l → Follows ts l bytes_of_expression
      (inner k i p bs) (expr k us))
    where
      -- ---- brackets

      brackets-follow : (i p : ℕ) (bs l : List ℕ) (us : List Token) → From ts i us → Held bs p l → starts (ascii "(") us ≡ true
          → Follows ts l bytes_of_primary (brackets_at kinds numbers inner i p bs) (brackets (expr 1) us)
      unfolding brackets brackets_at primary_of bytes_of
      brackets-follow i p bs l [] f h q = absurd (starts_none (ascii "(") q)
      brackets-follow i p bs l (t ∷ us) f h q =
          rw (expect-first (ascii "(") t us q)
          (closed-follows index ts kinds numbers tab (ascii ")") 21 close-mark (omega arith) l l bytes_of_expression bytes_of_primary _
          (expr 1 us) bracketed
          (follow 1 (i + 1) p bs l us (from_next ts i t us f) h) (λ e. refl))

      primary-follows : (i p : ℕ) (bs l : List ℕ) (us : List Token) → From ts i us → Held bs p l
          → Follows ts l bytes_of_primary (primary_at kinds numbers inner i p bs) (primary (expr 1) us)
      unfolding primary primary_at
      primary-follows i p bs l us f h =
          next-follows index ts kinds numbers tab (ascii "(") 20 open-mark (omega arith) l bytes_of_primary (brackets_at kinds numbers inner)
          (atom_at kinds numbers) (brackets (expr 1)) atom i p bs us f (brackets-follow i p bs l us f h) (λ q. atom-follows i p bs l us f h)

      -- ---- unary operators

      prefix-follows : (u : Unary) (i p : ℕ) (bs l : List ℕ) (us : List Token) → From ts i us → Held bs p l → starts (unary_sign u) us ≡ true
          → Follows ts l bytes_of_expression (prefix_at kinds numbers inner (unary_number u) i p bs) (prefix u (expr 1) us)
      unfolding prefix prefix_at bytes_of expr_of encode_expr
      prefix-follows u i p bs l [] f h q = absurd (starts_none (unary_sign u) q)
      prefix-follows u i p bs l (t ∷ us) f h q =
          let o : List ℕ = 0x11 ∷ unary_number u ∷ [] in
          rw (expect-first (unary_sign u) t us q)
          (map-follows ts (l ++ o) l bytes_of_primary bytes_of_expression _ (primary (expr 1) us) (prefixed u)
          (primary-follows (i + 1) _ _ (l ++ o) us (from_next ts i t us f) (held-puts o h)) (λ a. append_assoc l o (bytes_of_primary a)))

      plain_follows : (i p : ℕ) (bs l : List ℕ) (us : List Token) → From ts i us → Held bs p l
          → Follows ts l bytes_of_expression (primary_at kinds numbers inner i p bs) (plain (expr 1) us)
      unfolding plain bytes_of expr_of
      plain_follows i p bs l us f h =
          map-follows ts l l bytes_of_primary bytes_of_expression _ (primary (expr 1) us) only (primary-follows i p bs l us f h) (λ a. refl)

      operand-follows : (i p : ℕ) (bs l : List ℕ) (us : List Token) → From ts i us → Held bs p l
          → Follows ts l bytes_of_expression (operand_at kinds numbers inner i p bs) (operand (expr 1) us)
      unfolding operand operand_at unary_sign unary_number
      operand-follows i p bs l us f h =
          next-follows index ts kinds numbers tab (ascii "~") 33 tilde-mark (omega arith) l bytes_of_expression
          (prefix_at kinds numbers inner 1) _
          (prefix complement (expr 1)) _ i p bs us f (prefix-follows complement i p bs l us f h)
          (λ q. next-follows index ts kinds numbers tab (ascii "!") 34 bang-mark (omega arith) l bytes_of_expression
          (prefix_at kinds numbers inner 2)
          (primary_at kinds numbers inner) (prefix negation (expr 1)) (plain (expr 1)) i p bs us f (prefix-follows negation i p bs l us f h)
          (λ r. plain_follows i p bs l us f h))

      -- ---- binary operators; `again` reads what follows

      join-follows : (o : Binary) (again : Step) (more : Expression → Reader Expression) (from : ℕ) (e : Expression) (i p : ℕ)
          (bs l : List ℕ)
          (us : List Token) → from ≡ place_of l → From ts i us → Held bs p (l ++ bytes_of_expression e)
          → Agrees us (just o) (precedence_of (kind_front us)) (operator_of (kind_front us))
          → ((x : Expression) (j q : ℕ) (cs : List ℕ) (vs : List Token) → From ts j vs → Held cs q (l ++ bytes_of_expression x)
          → Follows ts l bytes_of_expression (again j q cs) (more x vs))
          → Follows ts l bytes_of_expression (join_at kinds numbers inner again from i p bs) (join expr more e o us)
      unfolding Agrees join join_at bytes_of expr_of encode_expr
      join-follows o again more from e i p bs l [] w f h a k = absurd (starts_none (binary_sign o) a.2)
      join-follows o again more from e i p bs l (t ∷ us) w f h a k =
          let x : List ℕ = 0x31 ∷ binary_number o ∷ [] in
          let front : List ℕ = x ++ bytes_of_expression e in
          rw (kind-is index ts kinds numbers tab i (t ∷ us) f, a.0, a.1, expect-first (binary_sign o) t us a.2)
          (bind-follows ts (l ++ front) l bytes_of_expression bytes_of_expression _ (expr (precedence o + 1) us) again
          (λ r. more (joined e o r))
          (follow (precedence o + 1) (i + 1) _ _ (l ++ front) us (from_next ts i t us f) (held-fronted from l (bytes_of_expression e) x w h))
          (λ r vs j q cs g m. k (joined e o r) j q cs vs g (rw (append_assoc l front (bytes_of_expression r)) at m)))

      turn-follows : (o : Option Binary) (again : Step) (more : Expression → Reader Expression) (k from : ℕ) (e : Expression) (i p : ℕ)
          (bs l : List ℕ) (us : List Token) → from ≡ place_of l → From ts i us → Held bs p (l ++ bytes_of_expression e)
          → Agrees us o (precedence_of (kind_front us)) (operator_of (kind_front us))
          → ((x : Expression) (j q : ℕ) (cs : List ℕ) (vs : List Token) → From ts j vs → Held cs q (l ++ bytes_of_expression x)
          → Follows ts l bytes_of_expression (again j q cs) (more x vs))
          → Follows ts l bytes_of_expression (pick (binds k (kind_front us)) (join_at kinds numbers inner again from) passed i p bs)
          (turn expr more k e o us)
      unfolding turn binds Agrees Follows
      turn-follows nothing again more k from e i p bs l us w f h a m = rw a (record { yes = refl; to = f; holds = h })
      turn-follows (just o) again more k from e i p bs l us w f h a m =
          rw (a.0, ne_eqb (precedence o) 0 (λ z. omega (arith, precedence-from o))) (by (leb k (precedence o)))
        where
          by : (b : Bool) → Follows ts l bytes_of_expression (pick b (join_at kinds numbers inner again from) passed i p bs)
              (pick b (join expr more e o) (give e) us)
          by true = join-follows o again more from e i p bs l us w f h a m
          by false = record { yes = refl; to = f; holds = h }

      climb-follows : (g k from : ℕ) (e : Expression) (i p : ℕ) (bs l : List ℕ) (us : List Token) → from ≡ place_of l → From ts i us
          → Held bs p (l ++ bytes_of_expression e) → Follows ts l bytes_of_expression (climb_at kinds numbers inner g k from i p bs)
          (climb expr g k e us)
      unfolding climb climb_at refuse
      climb-follows zero k from e i p bs l us w f h = refused-follows ts l bytes_of_expression i p bs us f
      climb-follows (suc g) k from e i p bs l us w f h =
          rw (kind-is index ts kinds numbers tab i us f)
          (turn-follows (operator us) (climb_at kinds numbers inner g k from) (climb expr g k) k from e i p bs l us w f h
          (operator-agrees us)
          (λ x j q cs vs c m. climb-follows g k from x j q cs l vs w c m))

      -- ---- the arms of ?:

      choice-follows : (from : ℕ) (c : Expression) (i p : ℕ) (bs l : List ℕ) (us : List Token) → from ≡ place_of l → From ts i us
          → Held bs p (l ++ bytes_of_expression c) → starts (ascii "?") us ≡ true
          → Follows ts l bytes_of_expression (choice_at kinds numbers inner from i p bs) (choice (expr 1) c us)
      unfolding choice choice_at bytes_of expr_of encode_expr
      choice-follows from c i p bs l [] w f h q = absurd (starts_none (ascii "?") q)
      choice-follows from c i p bs l (t ∷ us) w f h q =
          let x : List ℕ = 0x71 ∷ 10 ∷ [] in
          let front : List ℕ = x ++ bytes_of_expression c in
          let arm = closed-follows index ts kinds numbers tab (ascii ":") 24 colon-mark (omega arith) (l ++ front)
          (l ++ front) bytes_of_expression
          bytes_of_expression _ (expr 1 us) (λ a. a)
          (follow 1 (i + 1) _ _ (l ++ front) us (from_next ts i t us f) (held-fronted from l (bytes_of_expression c) x w h)) (λ a. refl) in
          rw (expect-first (ascii "?") t us q, ← rebind (expr 1 us) (ascii ":") (λ a vs. bind (expr 1 vs) (λ b. give (chosen c a b))))
          (bind-follows ts (l ++ front) l bytes_of_expression bytes_of_expression _ _ (inner 1)
          (λ a vs. bind (expr 1 vs) (λ b. give (chosen c a b))) arm
          (λ a vs j r cs g m. map-follows ts ((l ++ front) ++ bytes_of_expression a) l bytes_of_expression bytes_of_expression _ (expr 1 vs)
          (chosen c a)
          (follow 1 j r cs ((l ++ front) ++ bytes_of_expression a) vs g m)
          (λ b. ap (λ z. z ++ bytes_of_expression b) (append_assoc l front (bytes_of_expression a))
          ∙ append_assoc l (front ++ bytes_of_expression a) (bytes_of_expression b))))

      arms-follow : (k from : ℕ) (c : Expression) (i p : ℕ) (bs l : List ℕ) (us : List Token) → from ≡ place_of l → From ts i us
          → Held bs p (l ++ bytes_of_expression c) → Follows ts l bytes_of_expression (arms_at kinds numbers inner k from i p bs)
          (arms (expr 1) k c us)
      unfolding arms arms_at Follows
      arms-follow k from c i p bs l us w f h = by (leb k 1)
        where
          stays : Follows ts l bytes_of_expression (passed i p bs) (give c us)
          stays = record { yes = refl; to = f; holds = h }

          by : (a : Bool) → Follows ts l bytes_of_expression
              (pick a (pick (eqb (row_at kinds i) 32) (choice_at kinds numbers inner from) passed) passed i p bs)
              (pick a (if_next (ascii "?") (choice (expr 1) c) (give c)) (give c) us)
          by true =
              next-follows index ts kinds numbers tab (ascii "?") 32 query-mark (omega arith) l bytes_of_expression
              (choice_at kinds numbers inner from) passed
              (choice (expr 1) c) (give c) i p bs us f (choice-follows from c i p bs l us w f h) (λ q. stays)
          by false = stays

  -- ---- expressions

  expr-follows : (f k i p : ℕ) (bs l : List ℕ) (us : List Token) → From ts i us → Held bs p l
      → Follows ts l bytes_of_expression (expr_at kinds numbers f k i p bs) (reader f k us)
  unfolding expr_at reader start refuse
  expr-follows zero k i p bs l us m h = refused-follows ts l bytes_of_expression i p bs us m
  expr-follows (suc f) k i p bs l us m h =
      let inner = expr_at kinds numbers f in
      let same = expr-follows f in
      bind-follows ts l l bytes_of_expression bytes_of_expression _ _ (arms_at kinds numbers inner k p) (arms (reader f 1) k)
      (bind-follows ts l l bytes_of_expression bytes_of_expression _ _ (climb_at kinds numbers inner (suc f) k p) (climb (reader f) (suc f) k)
      (operand-follows inner (reader f) same i p bs l us m h)
      (λ e vs j q cs g n. climb-follows inner (reader f) same (suc f) k p e j q cs l vs h.place g n))
      (λ c vs j q cs g n. arms-follow inner (reader f) same k p c j q cs l vs h.place g n)

-- ---- the claims

pub levels-follow : LevelsFollow
unfolding LevelsFollow
levels-follow index ts us kinds numbers tab f k i p bs l m h = expr-follows index ts kinds numbers tab f k i p bs l us m h

pub expressions-follow : ExpressionsFollow
unfolding ExpressionsFollow expression byte_of
expressions-follow index ts us kinds numbers tab few i p bs l m h =
    let same : byte_of index ≡ index = fun_ext (λ s. mod-eq_of_lt (few s)) in
    subst (λ ix. Follows ts l (bytes_of ix) (expr_at kinds numbers (length us) 1 i p bs) (reader (length us) 1 us)) same
    (expr-follows index ts kinds numbers tab (length us) 1 i p bs l us m h)
