-- What comes back has the same pseudo-code, and is the module itself where every wait opens a sequence.
-- Assumes nothing.
use mathlib.Core.Path.{◌≡◌, refl}
use mathlib.Core.Bool.{Bool, true, false}
use mathlib.Core.List.{List, [], ◌∷◌, map}
use Prim.Native.Nat.{ℕ, ◌+◌}
use native.Mathlib.Omega.{arith}
use Rattle.values.specs.Values.{pick}
use Rattle.sheet.specs.Expression.{Expr}
use Rattle.sheet.specs.Statement.{Stmt, empty, assign, later, sequence, if_then, if_else, while, forever, wait, size}
use Rattle.sheet.specs.Module.{Module}
use Rattle.encoding.proofs.Statements.{and_both}
use Rattle.pseudocode.specs.Translation.{translate, thread_code}
use Rattle.verilog_back.specs.Returned.{is_wait, returned, returned_module, opens, all_open, code_of}

-- ---- sizes

picked-size : (t : Bool) (a b : Stmt Expr) → size b ≡ size a → size (pick t a b) ≡ size a
picked-size true a b h = refl
picked-size false a b h = h

pub returned-size : (a : Stmt Expr) → size (returned a) ≡ size a
unfolding returned size
returned-size empty = refl
returned-size (assign t e) = refl
returned-size (later t e) = refl
returned-size (sequence a b) = rw (picked-size (is_wait a) a (returned a) (returned-size a), returned-size b)
returned-size (if_then e a) = rw (returned-size a)
returned-size (if_else e a b) = rw (returned-size a, returned-size b)
returned-size (while e a) = rw (returned-size a)
returned-size (forever a) = rw (returned-size a)
returned-size (wait ts) = refl

-- ---- instructions

picked-code : (t : Bool) (a b : Stmt Expr) (n : ℕ) → translate b n ≡ translate a n → translate (pick t a b) n ≡ translate a n
picked-code true a b n h = refl
picked-code false a b n h = h

pub returned-code : (a : Stmt Expr) (n : ℕ) → translate (returned a) n ≡ translate a n
unfolding returned translate
returned-code empty n = refl
returned-code (assign t e) n = refl
returned-code (later t e) n = refl
returned-code (sequence a b) n =
    rw (
      picked-size (is_wait a) a (returned a) (returned-size a),
      picked-code (is_wait a) a (returned a) n (returned-code a n),
      returned-code b (n + size a),
    )
returned-code (if_then e a) n = rw (returned-size a, returned-code a (n + 1))
returned-code (if_else e a b) n =
    rw (returned-size a, returned-size b, returned-code a (n + 1), returned-code b (n + 2 + size a))
returned-code (while e a) n = rw (returned-size a, returned-code a (n + 1))
returned-code (forever a) n = rw (returned-code a n)
returned-code (wait ts) n = refl

thread-code : (a : Stmt Expr) → thread_code (returned a) ≡ thread_code a
unfolding thread_code translate
thread-code a = rw (returned-code a 0)

threads-code : (bs : List (Stmt Expr)) → map thread_code (map returned bs) ≡ map thread_code bs
threads-code [] = refl
threads-code (a ∷ bs) = rw (thread-code a, threads-code bs)

pub same_code : (m : Module Expr) → code_of (returned_module m) ≡ code_of m
unfolding code_of returned_module
same_code m = threads-code m.threads

-- ---- where every wait opens a sequence

first-kept : (t : Bool) (a b : Stmt Expr) → (pick t true (opens a)) ≡ true → (opens a ≡ true → b ≡ a) → pick t a b ≡ a
first-kept true a b h k = refl
first-kept false a b h k = k h

kept : (a : Stmt Expr) → opens a ≡ true → returned a ≡ a
unfolding returned opens
kept empty h = refl
kept (assign t e) h = refl
kept (later t e) h = refl
kept (sequence a b) h =
    let x = and_both (pick (is_wait a) true (opens a)) (opens b) h in
    rw (first-kept (is_wait a) a (returned a) x.0 (kept a), kept b x.1)
kept (if_then e a) h = rw (kept a h)
kept (if_else e a b) h = let x = and_both (opens a) (opens b) h in rw (kept a x.0, kept b x.1)
kept (while e a) h = rw (kept a h)
kept (forever a) h = rw (kept a h)
kept (wait ts) h = absurd (let z : ◌≡◌ {A = ℕ} 0 1 = cc in omega arith)

all-kept : (bs : List (Stmt Expr)) → all_open bs ≡ true → map returned bs ≡ bs
unfolding all_open
all-kept [] h = refl
all-kept (a ∷ bs) h = let x = and_both (opens a) (all_open bs) h in rw (kept a x.0, all-kept bs x.1)

pub module-kept : (m : Module Expr) → all_open m.threads ≡ true → returned_module m ≡ m
unfolding returned_module
module-kept m h = rw (all-kept m.threads h)
