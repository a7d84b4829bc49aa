-- The table's reader of statements follows the grammar's: they take and refuse together, and what is read lies in the buffer as a
-- sheet has it.
-- Assumes nothing.
use mathlib.Core.Path.{◌≡◌, refl}
use mathlib.Core.Bool.{Bool, true, false}
use mathlib.Core.List.{List}
use Prim.Native.Nat.{ℕ, zero, suc, ◌≤◌, ◌<◌}
use native.Mathlib.Omega.{arith}
use lib.Dec.{eqb}
use lib.ListN.{length}
use Rattle.values.specs.Values.{pick}
use Rattle.sheet.specs.Expression.{Expr}
use Rattle.sheet.specs.Statement.{Stmt}
use Rattle.writing.specs.Ascii.{ascii}
use Rattle.verilog_tokens.specs.Tokens.{Token}
use Rattle.verilog_grammar.specs.Reader.{Reader as Reads, refuse, starts, if_next}
use Rattle.verilog_grammar.specs.Reader
use Rattle.verilog_source.specs.Written.{written_stmt}
use Rattle.verilog_exprs.specs.Rows.{row_at, wrote, answer}
use Rattle.verilog_exprs.specs.Following.{Tabled, Passed, Follows}
use Rattle.verilog_exprs.proofs.Marks.{Numbered}
use Rattle.verilog_exprs.proofs.Follows.{mark-at}
use Rattle.verilog_stmts.specs.Steps.{State}
use Rattle.verilog_stmts.specs.Stmts
use Rattle.verilog_stmts.specs.Stmts.{value, label_at, stay}
use Rattle.verilog_stmts.specs.Claims.{StatementsFollow}
use Rattle.verilog_stmts.proofs.Passing.{Still, none_left, still-refused, yes-follows, no-still}
use Rattle.verilog_stmts.proofs.StmtReading.{assignment-follows, while-follows, forever-follows, timing-follows, conditional-follows}
use Rattle.verilog_stmts.proofs.StmtReading.{block-follows}
use Rattle.verilog_stmts.proofs.CaseReading.{case-follows}
use Rattle.verilog_stmts.proofs.Signs.{begin-mark, if-mark, case-mark, while-mark, forever-mark, at_mark}

still-statement : (ts : List Token) (ks ns : List ℕ) (count f : ℕ) → Still ts
    (Stmts.statement_at ks ns count (value ks ns count) (label_at ks ns) f)
unfolding Stmts.statement_at
still-statement ts ks ns count zero s n h = still-refused ts s n h
still-statement ts ks ns count (suc f) s n h =
    no-still ts s.put.ok (Stmts.statement_by ks ns count (value ks ns count) (label_at ks ns)
    (Stmts.statement_at ks ns count (value ks ns count) (label_at ks ns) f) (row_at ks s.put.next)) stay s n h.not h

module _ (index : List ℕ → ℕ) (small : (s : List ℕ) → index s < 256) (ts : List Token) (ks ns : List ℕ) (tab : Tabled index ts ks ns)
    (count : ℕ) (all : count ≡ length ts) where
  by_kind : (w : List ℕ) (k : ℕ) → Numbered w k → 1 ≤ k → {l : List ℕ} (f g : State → State) (a b : Reads (Stmt Expr)) (s : State)
      (us : List Token) → Passed ts s us l → (starts w us ≡ true → Follows ts l written_stmt (f s) (a us))
      → (starts w us ≡ false → Follows ts l written_stmt (g s) (b us))
      → Follows ts l written_stmt (pick (eqb (row_at ks s.put.next) k) f g s) (if_next w a b us)
  unfolding if_next
  by_kind w k m o {l} f g a b s us h x y = rw (mark-at index ts ks ns tab w k m o s.put.next us h.to) (by (starts w us) x y)
    where
      by : (t : Bool) → (t ≡ true → Follows ts l written_stmt (f s) (a us)) → (t ≡ false → Follows ts l written_stmt (g s) (b us))
          → Follows ts l written_stmt (pick t f g s) (pick t a b us)
      by true u v = u refl
      by false u v = v refl

  module _ (inner : State → State) (reads : Reads (Stmt Expr)) (st : Still ts inner)
      (ih : (l : List ℕ) (s : State) (us : List Token) → Passed ts s us l → Follows ts l written_stmt (inner s) (reads us)) where
    statement_by-follows : (l : List ℕ) (s : State) (us : List Token) → Passed ts s us l
        → Follows ts l written_stmt (Stmts.statement_by ks ns count (value ks ns count) (label_at ks ns) inner (row_at ks s.put.next) s)
        (Reader.statement_by index reads us)
    unfolding Stmts.statement_by Reader.statement_by
    statement_by-follows l s us h =
        by_kind (ascii "if") 10 if-mark (omega arith) _ _ _ _ s us h
        (λ q. conditional-follows index small ts ks ns tab count all inner reads st ih l s us h q)
        (λ q1. by_kind (ascii "case") 12 case-mark (omega arith) _ _ _ _ s us h
        (λ q. case-follows index small ts ks ns tab count all inner reads st ih l s us h q)
        (λ q2. by_kind (ascii "while") 15 while-mark (omega arith) _ _ _ _ s us h
        (λ q. while-follows index small ts ks ns tab count all inner reads st ih l s us h q)
        (λ q3. by_kind (ascii "forever") 16 forever-mark (omega arith) _ _ _ _ s us h
        (λ q. forever-follows index small ts ks ns tab count all inner reads st ih l s us h q)
        (λ q4. by_kind (ascii "@") 27 at_mark (omega arith) _ _ _ _ s us h
        (λ q. timing-follows index small ts ks ns tab count all inner reads st ih l s us h)
        (λ q5. by_kind (ascii "begin") 8 begin-mark (omega arith) _ _ _ _ s us h
        (λ q. block-follows index small ts ks ns tab count all inner reads st ih l s us h q)
        (λ q6. assignment-follows index small ts ks ns tab count all s us h))))))

  pub statement-follows : (f : ℕ) (l : List ℕ) (s : State) (us : List Token) → Passed ts s us l
      → Follows ts l written_stmt (Stmts.statement_at ks ns count (value ks ns count) (label_at ks ns) f s) (Reader.statement index f us)
  unfolding Stmts.statement_at Reader.statement refuse
  statement-follows zero l s us h = none_left ts l written_stmt s us h
  statement-follows (suc f) l s us h =
      yes-follows ts l written_stmt s.put.ok (Stmts.statement_by ks ns count (value ks ns count) (label_at ks ns)
      (Stmts.statement_at ks ns count (value ks ns count) (label_at ks ns) f) (row_at ks s.put.next)) stay s _ h.yes
      (statement_by-follows (Stmts.statement_at ks ns count (value ks ns count) (label_at ks ns) f) (Reader.statement index f)
      (still-statement ts ks ns count f) (statement-follows f) l s us h)

pub statements-follow : StatementsFollow
unfolding StatementsFollow
statements-follow index ts us ks ns tab small f i p bs l g h =
    statement-follows index small ts ks ns tab (length ts) refl f l (wrote (answer true i p) bs) us
    (record { yes = refl; to = g; holds = h })
