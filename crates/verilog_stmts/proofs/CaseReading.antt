-- Case: the table's reader follows the grammar's.
-- Assumes nothing.
use mathlib.Core.Path.{◌≡◌, refl, sym, ap, ◌∙◌}
use mathlib.Core.Bool.{Bool, true, false}
use mathlib.Core.List.{List, [], ◌∷◌, ◌++◌, append_assoc, append-nil}
use mathlib.Core.Option.{none as nothing, some as just}
use Prim.Native.Nat.{ℕ, zero, suc, ◌-◌, ◌%◌, ◌<◌}
use native.Mathlib.Omega.{arith}
use lib.ListN.{length}
use lib.Seq.{take-length}
use borrow.Author.Tests.{ne_eqb}
use Rattle.values.specs.Values.{pick}
use Rattle.sheet.specs.Expression.{Expr}
use Rattle.sheet.specs.Statement.{Stmt}
use Rattle.writing.specs.Ascii.{ascii}
use Rattle.encoding.specs.Encoding.{encode_expr}
use Rattle.verilog_tokens.specs.Tokens.{Token, terminal, name, number, known, unknown, broken}
use Rattle.verilog_tokens.specs.Table.{kind_of, number_in}
use Rattle.verilog_grammar.specs.AnnexA.{Expression, Number, sized}
use Rattle.verilog_grammar.specs.Meaning.{up_to, cut, number_expr, Arm, on, otherwise, fallback, test, tests, or_empty, case_of, expr_of}
use Rattle.verilog_grammar.specs.Reader.{Res, ok, no, Reader as Reads, bind, give, refuse, starts, expect, size, known_value, expression}
use Rattle.verilog_grammar.specs.Reader
use Rattle.verilog_grammar.proofs.Steps
use Rattle.verilog_source.specs.Written.{written_stmt}
use Rattle.verilog_bytes.specs.Held.{place_of, Held}
use Rattle.verilog_exprs.specs.Rows.{expected}
use Rattle.verilog_exprs.specs.Constants.{constant_bytes}
use Rattle.verilog_exprs.specs.Exprs.{expr_at}
use Rattle.verilog_exprs.specs.Following.{Tabled, From, Passed, Follows}
use Rattle.verilog_exprs.specs.Claims.{bytes_of}
use Rattle.verilog_exprs.proofs.Values.{width-capped, cut-width, cut-remainder}
use Rattle.verilog_exprs.proofs.Marks.{terminal-other, kind_front, colon-mark}
use Rattle.verilog_exprs.proofs.Follows.{number_is, map-follows}
use Rattle.verilog_stmts.specs.declared.Case.{Case}
use Rattle.verilog_stmts.specs.Steps.{State, moved, refused, after, write, stamp_at, last}
use Rattle.verilog_stmts.specs.Stmts
use Rattle.verilog_stmts.specs.Stmts.{value, value_at, label_at, stay, at_token, at_place, opened, tested, closed_at, case_end}
use Rattle.verilog_stmts.proofs.Passing
use Rattle.verilog_stmts.proofs.Passing.{Still, none_left, still-refused, still-expected, still-next, then-follows, yes-follows}
use Rattle.verilog_stmts.proofs.Passing.{no-still}
use Rattle.verilog_stmts.proofs.Passing.{given, passed-write, passed-stamp, passed-last}
use Rattle.verilog_stmts.proofs.Full.{Quiet, calm-at, expected-pos, calm-expr}
use Rattle.verilog_stmts.proofs.EventReading.{next-kind}
use Rattle.verilog_stmts.proofs.StmtReading.{still-or_null, value-follows, condition-follows, or_null-follows}
use Rattle.verilog_stmts.proofs.Signs.{case-mark, endcase-mark, default-mark}

-- ---- a label

abbrev label_bytes : Number → List ℕ
label_bytes n = encode_expr (number_expr n)

abbrev pair_of : Number → Stmt Expr → Number × Stmt Expr
pair_of n a = (n, a)

lab : Reads Number
lab us = bind (size us) (λ w vs. bind (known_value vs) (λ v. give (sized w v)))

module _ (index : List ℕ → ℕ) (small : (s : List ℕ) → index s < 256) (ts : List Token) (ks ns : List ℕ) (tab : Tabled index ts ks ns) where
  known-refused : (m : List ℕ) (w : ℕ) {l : List ℕ} (s : State) (us : List Token) → Passed ts s us l → (kind_front us ≡ 67 → ⊥)
      → Follows ts m label_bytes (Stmts.label_value ks ns w s) (no (length us))
  unfolding Follows Stmts.label_value refused
  known-refused m w s us h e =
      rw (next-kind index small ts ks ns tab 67 s us h, ne_eqb (kind_front us) 67 e) (record { not = refl; at = h.to.count })

  known_read : (w v : ℕ) (l : List ℕ) (s : State) (us : List Token) → Passed ts s (known v ∷ us) l
      → Follows ts l label_bytes (Stmts.label_value ks ns (up_to 32 w) s) (ok (sized w v) us)
  unfolding Follows Stmts.label_value Stmts.known kind_front kind_of number_in number_expr encode_expr constant_bytes
  known_read w v l s us h =
      let cuts : cut (up_to 32 w) (v % 4294967296) ≡ cut w v = cut-width w (v % 4294967296) ∙ cut-remainder w v in
      rw (next-kind index small ts ks ns tab 67 s (known v ∷ us) h, number_is index ts ks ns tab s.put.next (known v) us h.to, cuts)
      (passed-write ts _ (moved after s) us (Passing.passed-after index ts ks ns tab s (known v) us h))

  label_value-follows : (w : ℕ) (l : List ℕ) (s : State) (us : List Token) → Passed ts s us l
      → Follows ts l label_bytes (Stmts.label_value ks ns (up_to 32 w) s) (bind (known_value us) (λ v. give (sized w v)))
  unfolding known_value kind_front kind_of
  label_value-follows w l s [] h = known-refused l (up_to 32 w) s [] h (λ e. omega arith)
  label_value-follows w l s (terminal x ∷ us) h = known-refused l (up_to 32 w) s (terminal x ∷ us) h
      (terminal-other x 67 (omega arith) (omega arith))
  label_value-follows w l s (name n ∷ us) h = known-refused l (up_to 32 w) s (name n ∷ us) h (λ e. omega arith)
  label_value-follows w l s (number true n ∷ us) h = known-refused l (up_to 32 w) s (number true n ∷ us) h (λ e. omega arith)
  label_value-follows w l s (number false n ∷ us) h = known-refused l (up_to 32 w) s (number false n ∷ us) h (λ e. omega arith)
  label_value-follows w l s (known v ∷ us) h = known_read w v l s us h
  label_value-follows w l s (unknown ∷ us) h = known-refused l (up_to 32 w) s (unknown ∷ us) h (λ e. omega arith)
  label_value-follows w l s (broken ∷ us) h = known-refused l (up_to 32 w) s (broken ∷ us) h (λ e. omega arith)

  size-refused : {l : List ℕ} (s : State) (us : List Token) → Passed ts s us l → (kind_front us ≡ 65 → ⊥)
      → Follows ts l label_bytes (label_at ks ns s) (no (length us))
  unfolding Follows label_at refused
  size-refused s us h e =
      rw (next-kind index small ts ks ns tab 65 s us h, ne_eqb (kind_front us) 65 e) (record { not = refl; at = h.to.count })

  size-read : (w : ℕ) (l : List ℕ) (s : State) (us : List Token) → Passed ts s (number true w ∷ us) l
      → Follows ts l label_bytes (label_at ks ns s) (bind (known_value us) (λ v. give (sized w v)))
  unfolding label_at Stmts.sized kind_front kind_of number_in
  size-read w l s us h =
      rw (
        next-kind index small ts ks ns tab 65 s (number true w ∷ us) h,
        number_is index ts ks ns tab s.put.next (number true w) us
            h.to,
        width-capped w,
      )
      (label_value-follows w l (moved after s) us (Passing.passed-after index ts ks ns tab s (number true w) us h))

  label-follows : (l : List ℕ) (s : State) (us : List Token) → Passed ts s us l → Follows ts l label_bytes (label_at ks ns s) (lab us)
  unfolding lab size kind_front kind_of
  label-follows l s [] h = size-refused s [] h (λ e. omega arith)
  label-follows l s (terminal x ∷ us) h = size-refused s (terminal x ∷ us) h (terminal-other x 65 (omega arith) (omega arith))
  label-follows l s (name n ∷ us) h = size-refused s (name n ∷ us) h (λ e. omega arith)
  label-follows l s (number true n ∷ us) h = size-read n l s us h
  label-follows l s (number false n ∷ us) h = size-refused s (number false n ∷ us) h (λ e. omega arith)
  label-follows l s (known v ∷ us) h = size-refused s (known v ∷ us) h (λ e. omega arith)
  label-follows l s (unknown ∷ us) h = size-refused s (unknown ∷ us) h (λ e. omega arith)
  label-follows l s (broken ∷ us) h = size-refused s (broken ∷ us) h (λ e. omega arith)

-- ---- the subject

full-held : (bs : List ℕ) → length bs ≡ 65536 → Held bs 65536 bs
full-held bs n = record { room = n; place = omega arith; front = λ h. take-length bs }

module _ (ks ns : List ℕ) (count : ℕ) (bs : List ℕ) where
  quiet_by : (b : Bool) (f g : State → State) (w : State) → Quiet bs (f w) → Quiet bs (g w) → Quiet bs (pick b f g w)
  quiet_by true f g w x y = x
  quiet_by false f g w x y = y

  quiet-value : (w : State) → Quiet bs w → Quiet bs (value ks ns count w)
  unfolding value value_at
  quiet-value w h =
      quiet_by w.put.ok (value_at ks ns count) stay w
      (calm-at bs (expr_at ks ns (count - w.put.next) 1) (calm-expr bs ks ns (count - w.put.next) 1) w.put.next w.put.pos
      w.bytes h.stays h.same) h

  quiet-condition : (w : State) → Quiet bs w → Quiet bs (Stmts.condition ks ns count (value ks ns count) (label_at ks ns) w)
  unfolding Stmts.condition
  quiet-condition w h =
      expected-pos bs ks ns 21 (value ks ns count (moved (expected ks 20) w))
      (quiet-value (moved (expected ks 20) w) (expected-pos bs ks ns 20 w h))

-- What was read of a subject can be read again.
record Read (index : List ℕ → ℕ) (ts : List Token) (i : ℕ) (e : Expression) : Type 0 where
  from : List Token
  to : List Token
  stands : From ts i from
  reads : expression from ≡ ok e to

condition-read : {P : Type 0} (us : List Token) (e : Expression) (ws : List Token) → Reader.condition us ≡ ok e ws
    → ((vs xs : List Token) → us ≡ terminal (ascii "(") ∷ vs → expression vs ≡ ok e xs → P) → P
unfolding Reader.condition
condition-read us e ws h k =
    Steps.after (ascii "(") us _ h (λ vs f g. Steps.stepped (expression vs) _ g
    (λ d xs r z. Steps.after (ascii ")") xs _ z (λ ys w o. k vs xs f (rw (Steps.ok-item o) at r))))

module _ (ts : List Token) where
  then-known : {A B : Type 0} (f : State → State) (l m : List ℕ) (bytes_a : A → List ℕ) (bytes_b : B → List ℕ) (w : State)
      (r : Res A) (g : A → Reads B) → Follows ts l bytes_a w r → Still ts f
      → ((a : A) (us : List Token) → r ≡ ok a us → Passed ts w us (l ++ bytes_a a) → Follows ts m bytes_b (f w) (g a us))
      → Follows ts m bytes_b (f w) (bind r g)
  unfolding Follows
  then-known f l m bytes_a bytes_b w (ok a us) g h e k = k a us refl h
  then-known f l m bytes_a bytes_b w (no n) g h e k = e w n h

module _ (index : List ℕ → ℕ) (small : (s : List ℕ) → index s < 256) (ts : List Token) (ks ns : List ℕ) (tab : Tabled index ts ks ns)
    (count : ℕ) (all : count ≡ length ts) where
  none : Expression → List ℕ
  none e = []

  subject-by : (l : List ℕ) (s c : State) (r : Res Expression) → Held s.bytes s.put.pos l → Quiet s.bytes c
      → Follows ts s.bytes (bytes_of index) c r → Follows ts l none (at_place s.put.pos c) r
  unfolding Follows none
  subject-by l s c (ok e vs) h q j = record { yes = j.yes; to = j.to; holds = rw (q.same, append-nil l) h }
  subject-by l s c (no n) h q j = record { not = j.not; at = j.at }

  subject-follows : (l : List ℕ) (s : State) (us : List Token) → Passed ts s us l → Follows ts l none
      (Stmts.subject ks ns count (value ks ns count) (label_at ks ns) s) (Reader.condition us)
  unfolding Stmts.subject
  subject-follows l s us h =
      subject-by l s (Stmts.condition ks ns count (value ks ns count) (label_at ks ns) (at_place 65536 s)) (Reader.condition us) h.holds
      (quiet-condition ks ns count s.bytes (at_place 65536 s) (record { same = refl; stays = refl }))
      (condition-follows index small ts ks ns tab count all (at_place 65536 s) us
      (record { yes = h.yes; to = h.to; holds = full-held s.bytes h.holds.room }))

  heading-law : (l : List ℕ) (e : Expression) → ((l ++ (0x0E ∷ [])) ++ (0x31 ∷ 0x08 ∷ [])) ++ bytes_of index e ≡ l ++
      (0x0E ∷ 0x31 ∷ 0x08 ∷ bytes_of index e)
  heading-law l e = simp append_assoc

  ok-passed : (l : List ℕ) (w : State) (r : Res Expression) (e : Expression) (vs : List Token) → r ≡ ok e vs → Follows ts l
      (bytes_of index) w r
      → Passed ts w vs (l ++ bytes_of index e)
  unfolding Follows
  ok-passed l w r e vs q h = rw q at h

  heading-passed : (i : ℕ) (e : Expression) → Read index ts i e → (l : List ℕ) (s : State) (us : List Token) → Passed ts s us l
      → Passed ts (Stmts.heading ks ns count (value ks ns count) (label_at ks ns) i s) us (l ++ (0x0E ∷ 0x31 ∷ 0x08 ∷ bytes_of index e))
  unfolding Stmts.heading
  heading-passed i e r l s us h =
      let w = write (0x31 ∷ 0x08 ∷ []) (write (0x0E ∷ []) s) in
      let p = passed-write ts (0x31 ∷ 0x08 ∷ []) (write (0x0E ∷ []) s) us (passed-write ts (0x0E ∷ []) s us h) in
      let v = ok-passed ((l ++ (0x0E ∷ [])) ++ (0x31 ∷ 0x08 ∷ [])) (value ks ns count (at_token i w)) (expression r.from) e r.to
      r.reads
      (value-follows index small ts ks ns tab count all (at_token i w) r.from
      (record { yes = p.yes; to = r.stands; holds = p.holds })) in
      record { yes = v.yes; to = h.to; holds = rw (heading-law l e) at v.holds }

  module _ (inner : State → State) (reads : Reads (Stmt Expr)) (st : Still ts inner)
      (ih : (l : List ℕ) (s : State) (us : List Token) → Passed ts s us l → Follows ts l written_stmt (inner s) (reads us)) where
    -- ---- items

    lab_arm : Reads (Number × Stmt Expr)
    lab_arm us = bind (lab us) (λ n vs. bind (expect (ascii ":") vs) (λ u ws. bind (Reader.or_null index reads ws) (λ a. give (pair_of n a))))

    split-label : {B : Type 0} (us : List Token) (g : Arm → Reads B)
        → bind (Reader.labelled_item index reads us) g ≡ bind (lab_arm us) (λ p. g (on (number_expr p.0) p.1))
    unfolding Reader.labelled_item lab_arm lab
    split-label us g = by_size (size us)
      where
        by_null : (n : Number) (r : Res (Stmt Expr))
            → bind (bind r (λ a. give (on (number_expr n) a))) g ≡ bind (bind r (λ a. give (pair_of n a)))
            (λ p. g (on (number_expr p.0) p.1))
        by_null n (ok a us) = refl
        by_null n (no k) = refl

        by_colon : (n : Number) (r : Res (Unit {0}))
            → bind (bind r (λ u ws. bind (Reader.or_null index reads ws) (λ a. give (on (number_expr n) a)))) g
            ≡ bind (bind r (λ u ws. bind (Reader.or_null index reads ws) (λ a. give (pair_of n a)))) (λ p. g (on (number_expr p.0) p.1))
        by_colon n (ok u us) = by_null n (Reader.or_null index reads us)
        by_colon n (no k) = refl

        by_value : (w : ℕ) (r : Res ℕ)
            → bind (bind r (λ v vs. bind (expect (ascii ":") vs)
            (λ u ws. bind (Reader.or_null index reads ws) (λ a. give (on (number_expr (sized w v)) a))))) g
            ≡ bind (bind (bind r (λ v. give (sized w v)))
            (λ n vs. bind (expect (ascii ":") vs) (λ u ws. bind (Reader.or_null index reads ws) (λ a. give (pair_of n a)))))
            (λ p. g (on (number_expr p.0) p.1))
        by_value w (ok v us) = by_colon (sized w v) (expect (ascii ":") us)
        by_value w (no k) = refl

        by_size : (r : Res ℕ)
            → bind (bind r (λ w vs. bind (known_value vs)
            (λ v vs. bind (expect (ascii ":") vs)
            (λ u ws. bind (Reader.or_null index reads ws) (λ a. give (on (number_expr (sized w v)) a)))))) g
            ≡ bind (bind (bind r (λ w vs. bind (known_value vs) (λ v. give (sized w v))))
            (λ n vs. bind (expect (ascii ":") vs) (λ u ws. bind (Reader.or_null index reads ws) (λ a. give (pair_of n a)))))
            (λ p. g (on (number_expr p.0) p.1))
        by_size (ok w us) = by_value w (known_value us)
        by_size (no k) = refl

    def_arm : Reads (Stmt Expr)
    def_arm us = bind (expect (ascii "default") us) (λ u vs. bind (Reader.colon index vs) (λ u ws. Reader.or_null index reads ws))

    split-default : {B : Type 0} (us : List Token) (g : Arm → Reads B)
        → bind (Reader.default_item index reads us) g ≡ bind (def_arm us) (λ a. g (otherwise a))
    unfolding Reader.default_item def_arm
    split-default us g = by_word (expect (ascii "default") us)
      where
        by_null : (r : Res (Stmt Expr)) → bind (bind r (λ a. give (otherwise a))) g ≡ bind r (λ a. g (otherwise a))
        by_null (ok a us) = refl
        by_null (no k) = refl

        by_colon : (r : Res (Unit {0})) → bind (bind r (λ u ws. bind (Reader.or_null index reads ws) (λ a. give (otherwise a)))) g
            ≡ bind (bind r (λ u ws. Reader.or_null index reads ws)) (λ a. g (otherwise a))
        by_colon (ok u us) = by_null (Reader.or_null index reads us)
        by_colon (no k) = refl

        by_word : (r : Res (Unit {0}))
            → bind (bind r (λ u vs. bind (Reader.colon index vs) (λ u ws. bind (Reader.or_null index reads ws) (λ a. give (otherwise a))))) g
            ≡ bind (bind r (λ u vs. bind (Reader.colon index vs) (λ u ws. Reader.or_null index reads ws))) (λ a. g (otherwise a))
        by_word (ok u us) = by_colon (Reader.colon index us)
        by_word (no k) = refl

    default-by : (l : List ℕ) (s : State) (us : List Token) (b : Bool) → Passed ts s us l → starts (ascii ":") us ≡ b
        → Follows ts l written_stmt (Stmts.or_null ks ns count (value ks ns count) (label_at ks ns) inner
        (moved (Stmts.colon ks ns count (value ks ns count) (label_at ks ns)) s))
        (bind (Reader.colon index us) (λ u ws. Reader.or_null index reads ws))
    unfolding Stmts.colon Reader.colon Reader.if_next
    default-by l s us true h q =
        rw (Passing.next-starts index ts ks ns tab (ascii ":") 24 colon-mark (omega arith) s us h, q)
        (Passing.over index ts ks ns tab (ascii ":") 24 colon-mark (omega arith) l written_stmt _ _ s us h q
        (λ vs j. or_null-follows index small ts ks ns tab count all inner reads st ih l (moved after s) vs j))
    default-by l s us false h q =
        rw (Passing.next-starts index ts ks ns tab (ascii ":") 24 colon-mark (omega arith) s us h, q)
        (or_null-follows index small ts ks ns tab count all inner reads st ih l s us h)

    default-follows : (l : List ℕ) (s : State) (us : List Token) → Passed ts s us l → starts (ascii "default") us ≡ true
        → Follows ts l written_stmt (Stmts.defaulted ks ns count (value ks ns count) (label_at ks ns) inner s) (def_arm us)
    unfolding Stmts.defaulted def_arm
    default-follows l s us h q =
        Passing.over index ts ks ns tab (ascii "default") 14 default-mark (omega arith) l written_stmt _ _ s us h q
        (λ vs j. default-by l (moved after s) vs (starts (ascii ":") vs) j refl)

    -- ---- behind an item

    tail : ℕ → ℕ → Reads (List Arm)
    tail g n = Reader.if_next (ascii "endcase") (λ us. bind (expect (ascii "endcase") us) (λ u. give [])) (Reader.case_items index reads g n)

    split-behind : (g n : ℕ) (i : Arm) (us : List Token)
        → Reader.items_behind index (Reader.case_items index reads g n) i us ≡ bind (tail g n us) (λ is. give (i ∷ is))
    unfolding Reader.items_behind Reader.items_end Reader.items_more tail Reader.if_next
    split-behind g n i us = by (starts (ascii "endcase") us)
      where
        by_end : (r : Res (Unit {0})) → bind r (λ u. give (i ∷ [])) ≡ bind (bind r (λ u. give [])) (λ is. give (i ∷ is))
        by_end (ok u us) = refl
        by_end (no k) = refl

        by : (b : Bool) → pick b (Reader.items_end index i) (Reader.items_more index (Reader.case_items index reads g n) i) us
            ≡ bind (pick b (λ us. bind (expect (ascii "endcase") us) (λ u. give [])) (Reader.case_items index reads g n) us)
            (λ is. give (i ∷ is))
        by true = by_end (expect (ascii "endcase") us)
        by false = refl

    still-items : (g : ℕ) (c : Case) → Still ts (Stmts.case_items ks ns count (value ks ns count) (label_at ks ns) inner g c)
    unfolding Stmts.case_items
    still-items zero c s n h = still-refused ts s n h
    still-items (suc g) c s n h = no-still ts s.put.ok (Stmts.case_item ks ns count (value ks ns count) (label_at ks ns) inner
        (Stmts.case_items ks ns count (value ks ns count) (label_at ks ns) inner g) c) stay s n h.not h

    still-behind : (g : ℕ) (c : Case) → Still ts (Stmts.items_behind ks ns count (value ks ns count) (label_at ks ns) inner
        (Stmts.case_items ks ns count (value ks ns count) (label_at ks ns) inner g) c)
    unfolding Stmts.items_behind
    still-behind g c = still-next ts ks 13 (case_end c) (Stmts.case_items ks ns count (value ks ns count) (label_at ks ns) inner g c)
        (still-items g c)

    -- ---- the tests' bytes

    module _ (e : Expression) where
      abbrev test_bytes : Expr → Stmt Expr → List ℕ
      test_bytes b a = 0x31 ∷ 0x08 ∷ (bytes_of index e ++ (encode_expr b ++ written_stmt a))

      abbrev pair_bytes : Number × Stmt Expr → List ℕ
      pair_bytes p = 0x0E ∷ test_bytes (number_expr p.0) p.1

      abbrev closed_bytes : Stmt Expr → List ℕ → List Arm → List ℕ
      closed_bytes d t xs = t ++ written_stmt (or_empty (tests (expr_of index e) xs (just d)))

      abbrev open_bytes : Expr → Stmt Expr → List Arm → List ℕ
      open_bytes b a xs = written_stmt (test (expr_of index e) b a (tests (expr_of index e) xs (fallback xs)))

      test-only : (b : Expr) (a : Stmt Expr) → written_stmt (test (expr_of index e) b a nothing) ≡ 0x06 ∷ test_bytes b a
      unfolding test written_stmt encode_expr bytes_of
      test-only b a = simp append_assoc

      test-else : (b : Expr) (a t : Stmt Expr) → written_stmt (test (expr_of index e) b a (just t)) ≡ 0x0E ∷ (test_bytes b a ++ written_stmt t)
      unfolding test written_stmt encode_expr bytes_of
      test-else b a t = simp append_assoc

      tests-just : (xs : List Arm) (d : Stmt Expr) → tests (expr_of index e) xs (just d) ≡ just
          (or_empty (tests (expr_of index e) xs (just d)))
      unfolding tests or_empty
      tests-just [] d = refl
      tests-just (on b a ∷ xs) d = refl
      tests-just (otherwise a ∷ xs) d = tests-just xs d

      test-more : (b : Expr) (a d : Stmt Expr) (xs : List Arm) → written_stmt
          (test (expr_of index e) b a (tests (expr_of index e) xs (just d)))
          ≡ 0x0E ∷ (test_bytes b a ++ written_stmt (or_empty (tests (expr_of index e) xs (just d))))
      test-more b a d xs = ap (λ o. written_stmt (test (expr_of index e) b a o)) (tests-just xs d) ∙ test-else b a _

      label-law : (l : List ℕ) (n : Number) (a : Stmt Expr)
          → ((l ++ (0x0E ∷ 0x31 ∷ 0x08 ∷ bytes_of index e)) ++ label_bytes n) ++ written_stmt a ≡ l ++ pair_bytes (pair_of n a)
      label-law l n a = simp append_assoc

      labelled-follows : (i : ℕ) → Read index ts i e → (l : List ℕ) (s : State) (us : List Token) → Passed ts s us l
          → Follows ts l pair_bytes (Stmts.labelled ks ns count (value ks ns count) (label_at ks ns) inner i s) (lab_arm us)
      unfolding Stmts.labelled lab_arm
      labelled-follows i r l s us h =
          let w = Stmts.heading ks ns count (value ks ns count) (label_at ks ns) i s in
          then-follows ts (λ v. Stmts.or_null ks ns count (value ks ns count) (label_at ks ns) inner (moved (expected ks 24) v))
          (l ++ (0x0E ∷ 0x31 ∷ 0x08 ∷ bytes_of index e)) l label_bytes pair_bytes
          (label_at ks ns w) (lab us) _
          (label-follows index small ts ks ns tab (l ++ (0x0E ∷ 0x31 ∷ 0x08 ∷ bytes_of index e)) w us (heading-passed i e r l s us h))
          (λ v n k. still-or_null ts ks ns count inner st (moved (expected ks 24) v) n (still-expected ts ks 24 v n k))
          (λ n vs j. Passing.asked index ts ks ns tab (ascii ":") 24 colon-mark (omega arith) l pair_bytes
          (Stmts.or_null ks ns count (value ks ns count) (label_at ks ns) inner) _ (label_at ks ns w) vs j
          (still-or_null ts ks ns count inner st)
          (λ ws k. map-follows ts ((l ++ (0x0E ∷ 0x31 ∷ 0x08 ∷ bytes_of index e)) ++ label_bytes n) l written_stmt pair_bytes
          (Stmts.or_null ks ns count (value ks ns count) (label_at ks ns) inner (moved (expected ks 24) (label_at ks ns w)))
          (Reader.or_null index reads ws) (λ a. pair_of n a)
          (or_null-follows index small ts ks ns tab count all inner reads st ih _ (moved (expected ks 24) (label_at ks ns w)) ws k)
          (λ a. label-law l n a)))

      no-follows : {B : Type 0} (m : List ℕ) (bytes_b : B → List ℕ) (b : Bool) (f g : State → State) (s : State) (r : Res B) → b ≡ false
          → Follows ts m bytes_b (g s) r → Follows ts m bytes_b (pick b f g s) r
      no-follows m bytes_b b f g s r q h = rw q h

      -- ---- behind the default

      module _ (g : ℕ) (c : Case) (l t : List ℕ) (d : Stmt Expr) (shut : c.closed ≡ true) (from : c.from ≡ place_of l)
          (mid : c.mid ≡ place_of (l ++ written_stmt d)) where
        closed_after : ((s : State) (us : List Token) → Passed ts s us (l ++ (written_stmt d ++ t))
            → Follows ts l (closed_bytes d t) (Stmts.case_items ks ns count (value ks ns count) (label_at ks ns) inner g c s)
            (Reader.case_items index reads g 1 us))
            → (v : State) (vs : List Token) → Passed ts v vs (l ++ (written_stmt d ++ t))
            → Follows ts l (closed_bytes d t) (Stmts.items_behind ks ns count (value ks ns count) (label_at ks ns) inner
            (Stmts.case_items ks ns count (value ks ns count) (label_at ks ns) inner g) c v) (tail g 1 vs)
        unfolding Stmts.items_behind case_end tail tests or_empty
        closed_after hyp v vs h =
            Passing.by_next index ts ks ns tab (ascii "endcase") 13 endcase-mark (omega arith) l (closed_bytes d t) (case_end c)
            (Stmts.case_items ks ns count (value ks ns count) (label_at ks ns) inner g c) _ _ v vs h
            (λ q. Passing.over index ts ks ns tab (ascii "endcase") 13 endcase-mark (omega arith) l (closed_bytes d t) _ _ v vs h q
            (λ ws k. yes-follows ts l (closed_bytes d t) c.closed (last c.from c.mid) (stamp_at 0x06 c.last) (moved after v)
            _ shut
            (given ts l _ (closed_bytes d t) _ ws []
            (passed-last ts c.from c.mid l (written_stmt d) t (moved after v) ws from mid k) refl)))
            (λ q. hyp v vs h)

      shift-law : (l w t p : List ℕ) → (l ++ (w ++ t)) ++ p ≡ l ++ (w ++ (t ++ p))
      shift-law l w t p = simp append_assoc

      closed-law : (t : List ℕ) (d : Stmt Expr) (n : Number) (a : Stmt Expr) (xs : List Arm)
          → closed_bytes d (t ++ pair_bytes (pair_of n a)) xs ≡ closed_bytes d t (on (number_expr n) a ∷ xs)
      unfolding tests or_empty
      closed-law t d n a xs =
          append_assoc t (pair_bytes (pair_of n a)) _ ∙ ap (λ x. t ++ x) (sym (test-more (number_expr n) a d xs))

      closed-items : (g : ℕ) (c : Case) (l t : List ℕ) (d : Stmt Expr) → c.closed ≡ true → Read index ts c.subject e → c.from
          ≡ place_of l
          → c.mid ≡ place_of (l ++ written_stmt d) → (s : State) (us : List Token) → Passed ts s us (l ++ (written_stmt d ++ t))
          → Follows ts l (closed_bytes d t) (Stmts.case_items ks ns count (value ks ns count) (label_at ks ns) inner g c s)
          (Reader.case_items index reads g 1 us)
      unfolding Stmts.case_items Stmts.case_item Stmts.case_default Stmts.case_label Reader.case_items Reader.label_first refuse
      closed-items zero c l t d shut r from mid s us h = none_left ts l (closed_bytes d t) s us h
      closed-items (suc g) c l t d shut r from mid s us h =
          yes-follows ts l (closed_bytes d t) s.put.ok (Stmts.case_item ks ns count (value ks ns count) (label_at ks ns) inner
          (Stmts.case_items ks ns count (value ks ns count) (label_at ks ns) inner g) c) stay s _ h.yes
          (Passing.by_next index ts ks ns tab (ascii "default") 14 default-mark (omega arith) l (closed_bytes d t)
          (Stmts.case_default ks ns count (value ks ns count) (label_at ks ns) inner
          (Stmts.case_items ks ns count (value ks ns count) (label_at ks ns) inner g) c)
          (Stmts.case_label ks ns count (value ks ns count) (label_at ks ns) inner
          (Stmts.case_items ks ns count (value ks ns count) (label_at ks ns) inner g) c) _ _ s us h
          (λ q. yes-follows ts l (closed_bytes d t) c.closed (moved refused)
          (Stmts.first_default ks ns count (value ks ns count) (label_at ks ns) inner
          (Stmts.case_items ks ns count (value ks ns count) (label_at ks ns) inner g) c) s _ shut
          (none_left ts l (closed_bytes d t) s us h))
          (λ q. rw (split-label us (λ i. Reader.items_behind index (Reader.case_items index reads g 1) i))
          (then-follows ts (Stmts.items_behind ks ns count (value ks ns count) (label_at ks ns) inner
          (Stmts.case_items ks ns count (value ks ns count) (label_at ks ns) inner g) (tested c s.put.pos))
          (l ++ (written_stmt d ++ t)) l pair_bytes (closed_bytes d t)
          (Stmts.labelled ks ns count (value ks ns count) (label_at ks ns) inner c.subject s) (lab_arm us) _
          (labelled-follows c.subject r (l ++ (written_stmt d ++ t)) s us h)
          (still-behind g (tested c s.put.pos))
          (λ p vs j. rw (split-behind g 1 (on (number_expr p.0) p.1) vs)
          (map-follows ts l l (closed_bytes d (t ++ pair_bytes p)) (closed_bytes d t) _ (tail g 1 vs)
          (λ xs. on (number_expr p.0) p.1 ∷ xs)
          (closed_after g (tested c s.put.pos) l (t ++ pair_bytes p) d shut from mid
          (closed-items g (tested c s.put.pos) l (t ++ pair_bytes p) d shut r from mid)
          (Stmts.labelled ks ns count (value ks ns count) (label_at ks ns) inner c.subject s) vs
          (rw (shift-law l (written_stmt d) t (pair_bytes p)) at j))
          (λ xs. ap (λ x. l ++ x) (closed-law t d p.0 p.1 xs)))))))

      -- ---- without a default so far

      module _ (g : ℕ) (c : Case) (l : List ℕ) (b : Expr) (a : Stmt Expr) (shut : c.closed ≡ false) (at : c.last ≡ place_of l) where
        open_after : ((s : State) (us : List Token) → Passed ts s us (l ++ (0x0E ∷ test_bytes b a))
            → Follows ts l (open_bytes b a) (Stmts.case_items ks ns count (value ks ns count) (label_at ks ns) inner g c s)
            (Reader.case_items index reads g 0 us))
            → (v : State) (vs : List Token) → Passed ts v vs (l ++ (0x0E ∷ test_bytes b a))
            → Follows ts l (open_bytes b a) (Stmts.items_behind ks ns count (value ks ns count) (label_at ks ns) inner
            (Stmts.case_items ks ns count (value ks ns count) (label_at ks ns) inner g) c v) (tail g 0 vs)
        unfolding Stmts.items_behind case_end tail tests fallback
        open_after hyp v vs h =
            Passing.by_next index ts ks ns tab (ascii "endcase") 13 endcase-mark (omega arith) l (open_bytes b a) (case_end c)
            (Stmts.case_items ks ns count (value ks ns count) (label_at ks ns) inner g c) _ _ v vs h
            (λ q. Passing.over index ts ks ns tab (ascii "endcase") 13 endcase-mark (omega arith) l (open_bytes b a) _ _ v vs h q
            (λ ws k. no-follows l (open_bytes b a) c.closed (last c.from c.mid) (stamp_at 0x06 c.last) (moved after v) _ shut
            (given ts l _ (open_bytes b a) _ ws [] (passed-stamp ts l (test_bytes b a) 0x0E 0x06 c.last (moved after v) ws at k)
            (ap (λ x. l ++ x) (sym (test-only b a))))))
            (λ q. hyp v vs h)

      abbrev Open : ℕ → Type 0
      Open g = (c : Case) (l : List ℕ) (b : Expr) (a : Stmt Expr) → c.closed ≡ false → Read index ts c.subject e → c.last ≡ place_of l
          → (s : State) (us : List Token) → Passed ts s us (l ++ (0x0E ∷ test_bytes b a))
          → Follows ts l (open_bytes b a) (Stmts.case_items ks ns count (value ks ns count) (label_at ks ns) inner g c s)
          (Reader.case_items index reads g 0 us)

      module _ (g : ℕ) (c : Case) (m k : List ℕ) (bytes_b : List Arm → List ℕ) (shut : c.closed ≡ false) (r : Read index ts c.subject e)
          (on_label : (b : Expr) (a : Stmt Expr) (xs : List Arm) → k ++ open_bytes b a xs ≡ m ++ bytes_b (on b a ∷ xs))
          (on_default : (d : Stmt Expr) (xs : List Arm) → k ++ closed_bytes d [] xs ≡ m ++ bytes_b (otherwise d ∷ xs)) (again : Open g) where
        by_default : (s : State) (us : List Token) → Passed ts s us k → starts (ascii "default") us ≡ true
            → Follows ts m bytes_b (Stmts.first_default ks ns count (value ks ns count) (label_at ks ns) inner
            (Stmts.case_items ks ns count (value ks ns count) (label_at ks ns) inner g) c s)
            (Reader.default_first index reads (Reader.case_items index reads g 1) us)
        unfolding Stmts.first_default Stmts.closing Reader.default_first
        by_default s us h q =
            let v = Stmts.defaulted ks ns count (value ks ns count) (label_at ks ns) inner s in
            rw (split-default us (λ i. Reader.items_behind index (Reader.case_items index reads g 1) i))
            (then-follows ts (Stmts.closing ks ns count (value ks ns count) (label_at ks ns) inner
            (Stmts.case_items ks ns count (value ks ns count) (label_at ks ns) inner g) c s.put.pos) k m written_stmt bytes_b v
            (def_arm us) _
            (default-follows k s us h q) (λ w n z. still-behind g (closed_at c s.put.pos w.put.pos) w n z)
            (λ d vs j. rw (split-behind g 1 (otherwise d) vs)
            (map-follows ts k m (closed_bytes d []) bytes_b _ (tail g 1 vs) (λ xs. otherwise d ∷ xs)
            (closed_after g (closed_at c s.put.pos v.put.pos) k [] d refl h.holds.place j.holds.place
            (closed-items g (closed_at c s.put.pos v.put.pos) k [] d refl r h.holds.place j.holds.place)
            v vs (rw (append-nil (written_stmt d)) j)) (λ xs. on_default d xs))))

        by-label : (s : State) (us : List Token) → Passed ts s us k
            → Follows ts m bytes_b (Stmts.case_label ks ns count (value ks ns count) (label_at ks ns) inner
            (Stmts.case_items ks ns count (value ks ns count) (label_at ks ns) inner g) c s)
            (Reader.label_first index reads (Reader.case_items index reads g 0) us)
        unfolding Stmts.case_label Reader.label_first
        by-label s us h =
            rw (split-label us (λ i. Reader.items_behind index (Reader.case_items index reads g 0) i))
            (then-follows ts (Stmts.items_behind ks ns count (value ks ns count) (label_at ks ns) inner
            (Stmts.case_items ks ns count (value ks ns count) (label_at ks ns) inner g) (tested c s.put.pos)) k m pair_bytes bytes_b
            (Stmts.labelled ks ns count (value ks ns count) (label_at ks ns) inner c.subject s) (lab_arm us) _
            (labelled-follows c.subject r k s us h) (still-behind g (tested c s.put.pos))
            (λ p vs j. rw (split-behind g 0 (on (number_expr p.0) p.1) vs)
            (map-follows ts k m (open_bytes (number_expr p.0) p.1) bytes_b _ (tail g 0 vs) (λ xs. on (number_expr p.0) p.1 ∷ xs)
            (open_after g (tested c s.put.pos) k (number_expr p.0) p.1 shut h.holds.place
            (again (tested c s.put.pos) k (number_expr p.0) p.1 shut r h.holds.place)
            (Stmts.labelled ks ns count (value ks ns count) (label_at ks ns) inner c.subject s) vs j)
            (λ xs. on_label (number_expr p.0) p.1 xs))))

        items-by : (s : State) (us : List Token) → Passed ts s us k
            → Follows ts m bytes_b (Stmts.case_items ks ns count (value ks ns count) (label_at ks ns) inner (suc g) c s)
            (Reader.case_items index reads (suc g) 0 us)
        unfolding Stmts.case_items Stmts.case_item Stmts.case_default Reader.case_items
        items-by s us h =
            yes-follows ts m bytes_b s.put.ok (Stmts.case_item ks ns count (value ks ns count) (label_at ks ns) inner
            (Stmts.case_items ks ns count (value ks ns count) (label_at ks ns) inner g) c) stay s _ h.yes
            (Passing.by_next index ts ks ns tab (ascii "default") 14 default-mark (omega arith) m bytes_b
            (Stmts.case_default ks ns count (value ks ns count) (label_at ks ns) inner
            (Stmts.case_items ks ns count (value ks ns count) (label_at ks ns) inner g) c)
            (Stmts.case_label ks ns count (value ks ns count) (label_at ks ns) inner
            (Stmts.case_items ks ns count (value ks ns count) (label_at ks ns) inner g) c) _ _ s us h
            (λ q. no-follows m bytes_b c.closed (moved refused)
            (Stmts.first_default ks ns count (value ks ns count) (label_at ks ns) inner
            (Stmts.case_items ks ns count (value ks ns count) (label_at ks ns) inner g) c) s _ shut (by_default s us h q))
            (λ q. by-label s us h))

      open-items : (g : ℕ) → Open g
      unfolding Stmts.case_items Reader.case_items refuse tests fallback
      open-items zero c l b a shut r at s us h = none_left ts l (open_bytes b a) s us h
      open-items (suc g) c l b a shut r at s us h =
          items-by g c l (l ++ (0x0E ∷ test_bytes b a)) (open_bytes b a) shut r
          (λ y z xs. append_assoc l (0x0E ∷ test_bytes b a) _ ∙ ap (λ x. l ++ x) (sym (test-else b a _)))
          (λ d xs. append_assoc l (0x0E ∷ test_bytes b a) _ ∙ ap (λ x. l ++ x) (sym (test-more b a d xs)))
          (open-items g) s us h

      start-items : (g i : ℕ) → Read index ts i e → (l : List ℕ) (s : State) (us : List Token) → Passed ts s us l
          → Follows ts l (λ xs. written_stmt (case_of (expr_of index e) xs))
          (Stmts.case_items ks ns count (value ks ns count) (label_at ks ns) inner g (opened i) s) (Reader.case_items index reads g 0 us)
      unfolding Stmts.case_items Reader.case_items refuse case_of tests fallback or_empty
      start-items zero i r l s us h = none_left ts l (λ xs. written_stmt (case_of (expr_of index e) xs)) s us h
      start-items (suc g) i r l s us h =
          items-by g (opened i) l l (λ xs. written_stmt (case_of (expr_of index e) xs)) refl r (λ b a xs. refl) (λ d xs. refl)
          (open-items g) s us h

    body-follows : (l : List ℕ) (i : ℕ) (e : Expression) (s : State) (us : List Token) → Read index ts i e → Passed ts s us l
        → Follows ts l written_stmt (Stmts.case_body ks ns count (value ks ns count) (label_at ks ns) inner i s)
        (bind (Reader.case_items index reads (length us) 0 us) (λ xs. give (case_of (expr_of index e) xs)))
    unfolding Stmts.case_body
    body-follows l i e s us r h =
        let n : count - s.put.next ≡ length us = omega (arith, all, h.to.count) in
        rw n (map-follows ts l l (λ xs. written_stmt (case_of (expr_of index e) xs)) written_stmt
        (Stmts.case_items ks ns count (value ks ns count) (label_at ks ns) inner (length us) (opened i) s)
        (Reader.case_items index reads (length us) 0 us) (λ xs. case_of (expr_of index e) xs) (start-items e (length us) i r l s us h)
        (λ xs. refl))

    still-body : (i : ℕ) → Still ts (Stmts.case_body ks ns count (value ks ns count) (label_at ks ns) inner i)
    unfolding Stmts.case_body
    still-body i s n h = still-items (count - s.put.next) (opened i) s n h

    pub case-follows : (l : List ℕ) (s : State) (us : List Token) → Passed ts s us l → starts (ascii "case") us ≡ true
        → Follows ts l written_stmt (Stmts.case_statement ks ns count (value ks ns count) (label_at ks ns) inner s)
        (Reader.case_statement index reads us)
    unfolding Stmts.case_statement Reader.case_statement none
    case-follows l s us h q =
        Passing.over index ts ks ns tab (ascii "case") 12 case-mark (omega arith) l written_stmt _ _ s us h q
        (λ vs j. then-known ts (Stmts.case_body ks ns count (value ks ns count) (label_at ks ns) inner
        (after (after s.put)).next) l l none written_stmt (Stmts.subject ks ns count (value ks ns count) (label_at ks ns)
        (moved after s)) (Reader.condition vs) _
        (subject-follows l (moved after s) vs j) (still-body (after (after s.put)).next)
        (λ e ws z k. condition-read vs e ws z
        (λ xs ys f y. body-follows l (after (after s.put)).next e (Stmts.subject ks ns count (value ks ns count) (label_at ks ns)
        (moved after s)) ws
        (record {
          from = xs;
          to = ys;
          stands = (Passing.passed-after index ts ks ns tab (moved after s)
              (terminal (ascii "(")) xs (rw f at j)).to;
          reads = y;
        })
        (rw (append-nil l) at k))))
