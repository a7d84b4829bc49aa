-- A sheet read with its expressions kept as places is the sheet read with its expressions kept as trees:
-- the same refusals, and the same module once the tree at each place is put for the place.
use mathlib.Core.Path.{◌≡◌, refl, ap}
use Prim.Native.Nat.{ℕ, zero, suc, ◌+◌}
use mathlib.Core.List.{List, [], map}
use mathlib.Core.Bool.{Bool, true, false}
use lib.ListN.{length, get_or}
use lib.Dec.{ltb, leb, eqb}
use Rattle.sheet.specs.Reading.{Res, ok, no, ◌>>=◌, ◌>>◌, check, byte_at, within}
use Rattle.sheet.specs.Expression.{Expr, Scope, Parsed, tree, located, tree_of, expr_at}
use Rattle.sheet.specs.Statement.{Stmt, empty, assign, later, sequence, if_then, if_else, while, forever, wait, size, map_stmt, is_register, Body, read_terms, narrow_all, Form, an_empty, an_assign, a_later, a_sequence, an_if, an_if_else, a_while, a_forever, a_wait, form_of, assignment, form, read_stmt}
use Rattle.sheet.specs.Functions.{Defined, read_functions}
use Rattle.sheet.specs.Module.{map_module, Listed, Head, read_head, with_functions, read_wires, read_threads, Sheet, whole_sheet, read_sheet, read}

-- ---- a function under a reading

unfoldable pub map_res : {A B : Type 0} → (A → B) → Res A → Res B
map_res f (ok a) = ok (f a)
map_res f (no n p) = no n p

bind-map : {A A' B B' : Type 0} (f : A → A') (g : B → B') (x : Res A) {y : Res A'} (k : A → Res B) (l : A' → Res B')
    → y ≡ map_res f x → ((a : A) → l (f a) ≡ map_res g (k a)) → (y >>= l) ≡ map_res g (x >>= k)
unfolding map_res
bind-map f g (ok a) k l e h = rw e (h a)
bind-map f g (no n p) k l e h = rw e refl

bind-same : {A B B' : Type 0} (g : B → B') (x : Res A) (k : A → Res B) (l : A → Res B')
    → ((a : A) → l a ≡ map_res g (k a)) → (x >>= l) ≡ map_res g (x >>= k)
unfolding map_res
bind-same g (ok a) k l h = h a
bind-same g (no n p) k l h = refl

check-map : {B B' : Type 0} (g : B → B') (t : Bool) (n p : ℕ) (r : Res B) (q : Res B') → q ≡ map_res g r → (check t n p >> q) ≡ map_res g (check t n p >> r)
unfolding map_res
check-map g true n p r q h = h
check-map g false n p r q h = refl

-- ---- one expression

abbrev parsed : {D E : Type 0} → (D → E) → Parsed D → Parsed E
parsed f e = record { item = f e.item; width = e.width; next = e.next }

pub expr-at : (s : List ℕ) (c : Scope) (p : ℕ) {e : Parsed Expr} → tree s c p ≡ ok e → expr_at s c p ≡ e.item
unfolding expr_at tree_of
expr-at s c p h = ap tree_of h

pub tree-located : (s : List ℕ) (c : Scope) (p : ℕ) → tree s c p ≡ map_res (parsed (expr_at s c)) (located s c p)
unfolding located map_res
tree-located s c p = by (tree s c p) refl
  where
    by : (x : Res (Parsed Expr)) → tree s c p ≡ x → tree s c p ≡ map_res (parsed (expr_at s c)) (located s c p)
    by (ok e) h = rw (h, expr-at s c p h) refl
    by (no n q) h = rw h refl

-- ---- statements

abbrev body : {D E : Type 0} → (D → E) → Body D → Body E
body f b = record { stmt = map_stmt f b.stmt; next = b.next }

pub size-map : {D E : Type 0} (f : D → E) (a : Stmt D) → size (map_stmt f a) ≡ size a
unfolding size map_stmt
size-map f empty = refl
size-map f (assign t e) = refl
size-map f (later t e) = refl
size-map f (sequence a b) = rw (size-map f a, size-map f b) refl
size-map f (if_then e a) = rw (size-map f a) refl
size-map f (if_else e a b) = rw (size-map f a, size-map f b) refl
size-map f (while e a) = rw (size-map f a) refl
size-map f (forever a) = rw (size-map f a) refl
size-map f (wait ts) = refl

module _ (c : Scope) (s : List ℕ) where
  abbrev at_place : ℕ → Expr
  at_place = expr_at s c

  assignment-located : (make : ℕ → Expr → Stmt Expr) (keep : ℕ → ℕ → Stmt ℕ) → ((t e : ℕ) → make t (at_place e) ≡ map_stmt at_place (keep t e))
      → (p : ℕ) → assignment (tree s) c s make p ≡ map_res (body at_place) (assignment (located s) c s keep p)
  unfolding assignment map_res
  assignment-located make keep h p =
      bind-same (body at_place) (byte_at s (p + 1)) _ _
      (λ t. check-map (body at_place) (is_register c t) 9 (p + 1) _ _
      (bind-map (parsed at_place) (body at_place) (located s c (p + 2)) _ _ (tree-located s c (p + 2))
      (λ e. check-map (body at_place) (eqb e.width (get_or c.widths t 0)) 8 p _ _
      (ap (λ (a : Stmt Expr). ok (record { stmt = a; next = e.next })) (h t e.item)))))

  module _ (d : ℕ) (inner : (p : ℕ) → read_stmt (tree s) c s d p ≡ map_res (body at_place) (read_stmt (located s) c s d p)) where
    form-located : (p : ℕ) (k : Form) → form (tree s) c s (read_stmt (tree s) c s d) p k ≡ map_res (body at_place) (form (located s) c s (read_stmt (located s) c s d) p k)
    unfolding form map_res map_stmt
    form-located p an_empty = refl
    form-located p an_assign = assignment-located assign assign (λ t e. refl) p
    form-located p a_later = assignment-located later later (λ t e. refl) p
    form-located p a_sequence =
        bind-map (body at_place) (body at_place) (read_stmt (located s) c s d (p + 1)) _ _ (inner (p + 1))
        (λ a. bind-map (body at_place) (body at_place) (read_stmt (located s) c s d a.next) _ _ (inner a.next) (λ b. refl))
    form-located p an_if =
        bind-map (parsed at_place) (body at_place) (located s c (p + 1)) _ _ (tree-located s c (p + 1))
        (λ e. bind-map (body at_place) (body at_place) (read_stmt (located s) c s d e.next) _ _ (inner e.next) (λ a. refl))
    form-located p an_if_else =
        bind-map (parsed at_place) (body at_place) (located s c (p + 1)) _ _ (tree-located s c (p + 1))
        (λ e. bind-map (body at_place) (body at_place) (read_stmt (located s) c s d e.next) _ _ (inner e.next)
        (λ a. bind-map (body at_place) (body at_place) (read_stmt (located s) c s d a.next) _ _ (inner a.next) (λ b. refl)))
    form-located p a_while =
        bind-map (parsed at_place) (body at_place) (located s c (p + 1)) _ _ (tree-located s c (p + 1))
        (λ e. bind-map (body at_place) (body at_place) (read_stmt (located s) c s d e.next) _ _ (inner e.next) (λ a. refl))
    form-located p a_forever =
        bind-map (body at_place) (body at_place) (read_stmt (located s) c s d (p + 1)) _ _ (inner (p + 1)) (λ a. refl)
    form-located p a_wait =
        bind-same (body at_place) (within 1 8 6 s (p + 1)) _ _
        (λ n. bind-same (body at_place) (read_terms n c.widths s (p + 2)) _ _
        (λ ts. check-map (body at_place) (narrow_all c.widths ts) 8 p _ _ refl))

  pub stmt-located : (d p : ℕ) → read_stmt (tree s) c s d p ≡ map_res (body at_place) (read_stmt (located s) c s d p)
  unfolding read_stmt map_res
  stmt-located zero p = bind-same (body at_place) (byte_at s p) _ _ (λ m. refl)
  stmt-located (suc d) p =
      bind-same (body at_place) (byte_at s p) _ _
      (λ m. bind-same (body at_place) (form_of m p) _ _ (λ k. form-located d (stmt-located d) p k))

  -- ---- wires and threads

  abbrev listed : {A B : Type 0} → (A → B) → Listed A → Listed B
  listed f l = record { items = map f l.items; next = l.next }

  pub wires-located : (n v p : ℕ) → read_wires (tree s) c s n v p ≡ map_res (listed at_place) (read_wires (located s) c s n v p)
  unfolding read_wires map_res
  wires-located zero v p = refl
  wires-located (suc n) v p =
      bind-map (parsed at_place) (listed at_place) (located s c p) _ _ (tree-located s c p)
      (λ e. check-map (listed at_place) (eqb e.width (get_or c.widths v 0)) 8 p _ _
      (bind-map (listed at_place) (listed at_place) (read_wires (located s) c s n (v + 1) e.next) _ _ (wires-located n (v + 1) e.next) (λ es. refl)))

  pub threads-located : (n p : ℕ) → read_threads (tree s) c s n p ≡ map_res (listed (map_stmt at_place)) (read_threads (located s) c s n p)
  unfolding read_threads map_res
  threads-located zero p = refl
  threads-located (suc n) p =
      bind-map (body at_place) (listed (map_stmt at_place)) (read_stmt (located s) c s 64 p) _ _ (stmt-located 64 p)
      (λ b. rw (size-map at_place b.stmt)
      (check-map (listed (map_stmt at_place)) (leb (size b.stmt + 1) 256) 11 p _ _
      (bind-map (listed (map_stmt at_place)) (listed (map_stmt at_place)) (read_threads (located s) c s n b.next) _ _ (threads-located n b.next) (λ bs. refl))))

-- ---- the sheet

-- The module of a sheet whose expressions are kept as places, with their trees.
unfoldable pub trees : List ℕ → Sheet ℕ → Sheet Expr
trees s r = record { contents = map_module (expr_at s r.contents.scope) r.contents; definitions = r.definitions; body = r.body }

abbrev scope : Head → Defined → Scope
scope h fs = with_functions h.scope fs.functions

pub whole-located : (s : List ℕ) → whole_sheet (tree s) s ≡ map_res (trees s) (whole_sheet (located s) s)
unfolding whole_sheet map_res trees map_module
whole-located s =
    check-map (trees s) (leb (length s) 8192) 1 8192 _ _
    (bind-same (trees s) (read_head s) _ _
    (λ h. bind-same (trees s) (read_functions h.scope.declared h.scope.declared [] s h.next) _ _
    (λ fs. bind-map (listed (scope h fs) s (at_place (scope h fs) s)) (trees s) (read_wires (located s) (scope h fs) s h.wires (h.scope.inputs + h.scope.registers) fs.next) _ _
    (wires-located (scope h fs) s h.wires (h.scope.inputs + h.scope.registers) fs.next)
    (λ es. bind-map (listed (scope h fs) s (map_stmt (at_place (scope h fs) s))) (trees s) (read_threads (located s) (scope h fs) s h.threads es.next) _ _
    (threads-located (scope h fs) s h.threads es.next)
    (λ ts. check-map (trees s) (eqb ts.next (length s)) 10 ts.next _ _ refl)))))

pub sheet-located : (s : List ℕ) → read_sheet (tree s) s ≡ map_res (trees s) (read_sheet (located s) s)
unfolding read_sheet
sheet-located s =
    check-map (trees s) (leb (length s) 8192) 1 8192 _ _ (check-map (trees s) (ltb (get_or s 0 0) 128) 3 0 _ _ (whole-located s))

-- What `read` gives, by the places that the code keeps.
pub read-located : (s : List ℕ) → read s ≡ map_res (λ r. (trees s r).contents) (read_sheet (located s) s)
unfolding read map_res
read-located s = rw (sheet-located s) (by (read_sheet (located s) s))
  where
    by : (x : Res (Sheet ℕ)) → (map_res (trees s) x >>= λ r. ok r.contents) ≡ map_res (λ r. (trees s r).contents) x
    by (ok r) = refl
    by (no n p) = refl
