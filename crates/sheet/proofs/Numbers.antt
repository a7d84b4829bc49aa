-- Every refusal of a sheet has one of document 01's numbers 1 to 11 or document 02's 44 and 45, so 0 is free to say "accepted".
use mathlib.Core.Path.{◌≡◌}
use Prim.Native.Nat.{ℕ, zero, suc, ◌+◌, ◌-◌, ◌^◌, ◌≤◌}
use native.Mathlib.Omega.{arith}
use mathlib.Core.List.{List, [], ◌∷◌, ◌++◌}
use mathlib.Core.Bool.{Bool, true, false, ◌&&◌}
use lib.ListN.{length, get_or}
use lib.Dec.{ltb, leb, eqb}
use Rattle.values.specs.Values.{pick}
use Rattle.sheet.specs.Reading.{Res, ok, no, ◌>>=◌, ◌>>◌, check, byte_at, within, word_at}
use Rattle.sheet.specs.Expression.{Expr, Function, Scope, no_function, Parsed, Kind, a_variable, a_constant, an_unknown, a_unary, a_binary, a_conditional, a_call, kind_of, variable_at, function_at, arguments_at, same_widths, node, read_expr, tree, located}
use Rattle.sheet.specs.Statement.{Stmt, assign, later, is_register, Body, size, read_terms, narrow_all, Form, an_empty, an_assign, a_later, a_sequence, an_if, an_if_else, a_while, a_forever, a_wait, form_of, assignment, form, read_stmt}
use Rattle.sheet.specs.Functions.{Bodied, body_form, read_body, body_scope, read_function, read_functions, read_widths}
use Rattle.sheet.specs.Module.{inputs_of, first_at, function_count, widths_at, with_functions, read_head, read_wires, read_threads, whole_sheet, read_sheet}

-- ---- Numbered: refused, if at all, with a number from 1 to 11, or with 44 or 45

pub data Numbered {A : Type 0} : Res A → Type 0 where
  accepted : (a : A) → Numbered (ok a)
  refused : (n p : ℕ) → 1 ≤ n → n ≤ 11 → Numbered (no n p)
  later-call : (p : ℕ) → Numbered (no 44 p)
  no_body : (p : ℕ) → Numbered (no 45 p)

pub numbered-no : {A : Type 0} {x : Res A} {n p : ℕ} → Numbered x → x ≡ no n p → (1 ≤ n) × (n ≤ 45)
numbered-no {n = n} (accepted a) h = let z : ◌≡◌ {A = ℕ} 0 1 = cc in absurd (omega arith)
numbered-no {n = n} (refused k q l m) h = let e : k ≡ n = cc in (omega arith, omega arith)
numbered-no {n = n} (later-call q) h = let e : 44 ≡ n = cc in (omega arith, omega arith)
numbered-no {n = n} (no_body q) h = let e : 45 ≡ n = cc in (omega arith, omega arith)

numbered-again : {A B : Type 0} {n p : ℕ} → Numbered {A = A} (no n p) → Numbered {A = B} (no n p)
numbered-again (refused n p l m) = refused n p l m
numbered-again (later-call p) = later-call p
numbered-again (no_body p) = no_body p

numbered-bind : {A B : Type 0} (x : Res A) (f : A → Res B) → Numbered x → ((a : A) → Numbered (f a)) → Numbered (x >>= f)
numbered-bind (ok a) f h g = g a
numbered-bind (no n p) f h g = numbered-again h

numbered-44 : {B : Type 0} (t : Bool) (p : ℕ) (r : Res B) → Numbered r → Numbered (check t 44 p >> r)
numbered-44 true p r h = h
numbered-44 false p r h = later-call p

numbered-check : {B : Type 0} (t : Bool) (n p : ℕ) (r : Res B) → 1 ≤ n → n ≤ 11 → Numbered r → Numbered (check t n p >> r)
numbered-check true n p r l m h = h
numbered-check false n p r l m h = refused n p l m

numbered-pick : {A : Type 0} (t : Bool) (x y : Res A) → Numbered x → Numbered y → Numbered (pick t x y)
numbered-pick true x y h g = h
numbered-pick false x y h g = g

-- ---- bytes

byte-numbered : (s : List ℕ) (at : ℕ) → Numbered (byte_at s at)
unfolding byte_at
byte-numbered s at = numbered-check (ltb at (length s)) 2 (length s) _ (omega arith) (omega arith) (accepted _)

within-numbered : (low high n : ℕ) (s : List ℕ) (at : ℕ) → 1 ≤ n → n ≤ 11 → Numbered (within low high n s at)
unfolding within
within-numbered low high n s at l m =
    numbered-bind (byte_at s at) _ (byte-numbered s at)
    (λ b. numbered-check (leb low b) n at _ l m (numbered-check (leb b high) n at _ l m (accepted b)))

word-numbered : (s : List ℕ) (at : ℕ) → Numbered (word_at s at)
unfolding word_at
word-numbered s at = numbered-check (leb 4 (length s - at)) 2 (length s) _ (omega arith) (omega arith) (accepted _)

variable-numbered : (ws s : List ℕ) (at : ℕ) → Numbered (variable_at ws s at)
unfolding variable_at
variable-numbered ws s at =
    numbered-bind (byte_at s at) _ (byte-numbered s at) (λ v. numbered-check (ltb v (length ws)) 6 at _ (omega arith) (omega arith) (accepted v))

-- ---- expressions

kind-numbered : (c : Scope) (m p : ℕ) → Numbered (kind_of c m p)
unfolding kind_of
kind-numbered c m p =
    numbered-pick (eqb m 0x02) _ _ (accepted a_variable)
    (numbered-pick (eqb m 0x0C) _ _ (accepted a_constant)
    (numbered-pick (eqb m 0x04) _ _ (accepted an_unknown)
    (numbered-pick (eqb m 0x11) _ _ (accepted a_unary)
    (numbered-pick (eqb m 0x31) _ _ (accepted a_binary)
    (numbered-pick (eqb m 0x71) _ _ (accepted a_conditional)
    (numbered-pick (eqb m 0x80 && ltb 0 c.declared) _ _ (accepted a_call) (refused 5 p (omega arith) (omega arith))))))))

function-numbered : (c : Scope) (s : List ℕ) (at : ℕ) → Numbered (function_at c s at)
unfolding function_at
function-numbered c s at =
    numbered-bind (byte_at s at) _ (byte-numbered s at)
    (λ n. numbered-check (ltb n c.declared) 6 at _ (omega arith) (omega arith) (numbered-44 (ltb n (length c.functions)) at _ (accepted n)))

module _ (operand : ℕ → Res (Parsed Expr)) (inner : (p : ℕ) → Numbered (operand p)) where
  arguments-numbered : (n p : ℕ) → Numbered (arguments_at operand n p)
  unfolding arguments_at
  arguments-numbered zero p = accepted _
  arguments-numbered (suc n) p =
      numbered-bind (operand p) _ (inner p) (λ e. numbered-bind (arguments_at operand n e.next) _ (arguments-numbered n e.next) (λ es. accepted _))

module _ (operand : ℕ → Res (Parsed Expr)) (inner : (p : ℕ) → Numbered (operand p)) (c : Scope) (s : List ℕ) (p : ℕ) where
  node-numbered : (k : Kind) → Numbered (node operand c s p k)
  unfolding node
  node-numbered a_variable = numbered-bind (variable_at c.widths s (p + 1)) _ (variable-numbered c.widths s (p + 1)) (λ v. accepted _)
  node-numbered a_constant =
      numbered-bind (within 1 32 6 s (p + 1)) _ (within-numbered 1 32 6 s (p + 1) (omega arith) (omega arith))
      (λ w. numbered-bind (word_at s (p + 2)) _ (word-numbered s (p + 2))
      (λ v. numbered-check (ltb v (2 ^ w)) 6 (p + 2) _ (omega arith) (omega arith) (accepted _)))
  node-numbered an_unknown =
      numbered-bind (within 1 32 6 s (p + 1)) _ (within-numbered 1 32 6 s (p + 1) (omega arith) (omega arith)) (λ w. accepted _)
  node-numbered a_unary =
      numbered-bind (within 1 2 6 s (p + 1)) _ (within-numbered 1 2 6 s (p + 1) (omega arith) (omega arith))
      (λ o. numbered-bind (operand (p + 2)) _ (inner (p + 2)) (λ a. accepted _))
  node-numbered a_binary =
      numbered-bind (within 3 9 6 s (p + 1)) _ (within-numbered 3 9 6 s (p + 1) (omega arith) (omega arith))
      (λ o. numbered-bind (operand (p + 2)) _ (inner (p + 2))
      (λ a. numbered-bind (operand a.next) _ (inner a.next)
      (λ b. numbered-check (eqb a.width b.width) 8 p _ (omega arith) (omega arith) (accepted _))))
  node-numbered a_conditional =
      numbered-bind (within 10 10 6 s (p + 1)) _ (within-numbered 10 10 6 s (p + 1) (omega arith) (omega arith))
      (λ o. numbered-bind (operand (p + 2)) _ (inner (p + 2))
      (λ q. numbered-bind (operand q.next) _ (inner q.next)
      (λ a. numbered-bind (operand a.next) _ (inner a.next)
      (λ b. numbered-check (eqb a.width b.width) 8 p _ (omega arith) (omega arith) (accepted _)))))
  node-numbered a_call =
      numbered-bind (function_at c s (p + 1)) _ (function-numbered c s (p + 1))
      (λ n. numbered-bind (arguments_at operand (length (get_or c.functions n no_function).parameters) (p + 2)) _ (arguments-numbered operand inner _ (p + 2))
      (λ es. numbered-check (same_widths (get_or c.functions n no_function).parameters es.widths) 8 p _ (omega arith) (omega arith) (accepted _)))

pub expr-numbered : (d : ℕ) (c : Scope) (s : List ℕ) (p : ℕ) → Numbered (read_expr d c s p)
unfolding read_expr
expr-numbered zero c s p = numbered-bind (byte_at s p) _ (byte-numbered s p) (λ m. refused 7 p (omega arith) (omega arith))
expr-numbered (suc d) c s p =
    numbered-bind (byte_at s p) _ (byte-numbered s p)
    (λ m. numbered-bind (kind_of c m p) _ (kind-numbered c m p)
    (λ k. node-numbered (read_expr d c s) (expr-numbered d c s) c s p k))

pub tree-numbered : (s : List ℕ) (c : Scope) (p : ℕ) → Numbered (tree s c p)
unfolding tree
tree-numbered s c p = expr-numbered 16 c s p

pub located-numbered : (s : List ℕ) (c : Scope) (p : ℕ) → Numbered (located s c p)
unfolding located
located-numbered s c p = numbered-bind (tree s c p) _ (tree-numbered s c p) (λ e. accepted _)

-- ---- statements

terms-numbered : (n : ℕ) (ws s : List ℕ) (at : ℕ) → Numbered (read_terms n ws s at)
unfolding read_terms
terms-numbered zero ws s at = accepted []
terms-numbered (suc n) ws s at =
    numbered-bind (within 0 2 6 s at) _ (within-numbered 0 2 6 s at (omega arith) (omega arith))
    (λ e. numbered-bind (variable_at ws s (at + 1)) _ (variable-numbered ws s (at + 1))
    (λ v. numbered-bind (read_terms n ws s (at + 2)) _ (terms-numbered n ws s (at + 2)) (λ ts. accepted _)))

form-of-numbered : (m p : ℕ) → Numbered (form_of m p)
unfolding form_of
form-of-numbered m p =
    numbered-pick (eqb m 0x00) _ _ (accepted an_empty)
    (numbered-pick (eqb m 0x03) _ _ (accepted an_assign)
    (numbered-pick (eqb m 0x23) _ _ (accepted a_later)
    (numbered-pick (eqb m 0x0C) _ _ (accepted a_sequence)
    (numbered-pick (eqb m 0x06) _ _ (accepted an_if)
    (numbered-pick (eqb m 0x0E) _ _ (accepted an_if_else)
    (numbered-pick (eqb m 0x46) _ _ (accepted a_while)
    (numbered-pick (eqb m 0x44) _ _ (accepted a_forever)
    (numbered-pick (eqb m 0x10) _ _ (accepted a_wait) (refused 5 p (omega arith) (omega arith))))))))))

module _ {E : Type 0} (expr : Scope → ℕ → Res (Parsed E)) (exprs : (c : Scope) (p : ℕ) → Numbered (expr c p)) (c : Scope) (s : List ℕ) where
  assignment-numbered : (make : ℕ → E → Stmt E) (p : ℕ) → Numbered (assignment expr c s make p)
  unfolding assignment
  assignment-numbered make p =
      numbered-bind (byte_at s (p + 1)) _ (byte-numbered s (p + 1))
      (λ t. numbered-check (is_register c t) 9 (p + 1) _ (omega arith) (omega arith)
      (numbered-bind (expr c (p + 2)) _ (exprs c (p + 2))
      (λ e. numbered-check (eqb e.width (get_or c.widths t 0)) 8 p _ (omega arith) (omega arith) (accepted _))))

  form-numbered : (inner : ℕ → Res (Body E)) (h : (p : ℕ) → Numbered (inner p)) (p : ℕ) (k : Form) → Numbered (form expr c s inner p k)
  unfolding form
  form-numbered inner h p an_empty = accepted _
  form-numbered inner h p an_assign = assignment-numbered assign p
  form-numbered inner h p a_later = assignment-numbered later p
  form-numbered inner h p a_sequence =
      numbered-bind (inner (p + 1)) _ (h (p + 1)) (λ a. numbered-bind (inner a.next) _ (h a.next) (λ b. accepted _))
  form-numbered inner h p an_if =
      numbered-bind (expr c (p + 1)) _ (exprs c (p + 1)) (λ e. numbered-bind (inner e.next) _ (h e.next) (λ a. accepted _))
  form-numbered inner h p an_if_else =
      numbered-bind (expr c (p + 1)) _ (exprs c (p + 1))
      (λ e. numbered-bind (inner e.next) _ (h e.next) (λ a. numbered-bind (inner a.next) _ (h a.next) (λ b. accepted _)))
  form-numbered inner h p a_while =
      numbered-bind (expr c (p + 1)) _ (exprs c (p + 1)) (λ e. numbered-bind (inner e.next) _ (h e.next) (λ a. accepted _))
  form-numbered inner h p a_forever = numbered-bind (inner (p + 1)) _ (h (p + 1)) (λ a. accepted _)
  form-numbered inner h p a_wait =
      numbered-bind (within 1 8 6 s (p + 1)) _ (within-numbered 1 8 6 s (p + 1) (omega arith) (omega arith))
      (λ n. numbered-bind (read_terms n c.widths s (p + 2)) _ (terms-numbered n c.widths s (p + 2))
      (λ ts. numbered-check (narrow_all c.widths ts) 8 p _ (omega arith) (omega arith) (accepted _)))

  pub stmt-numbered : (d p : ℕ) → Numbered (read_stmt expr c s d p)
  unfolding read_stmt
  stmt-numbered zero p = numbered-bind (byte_at s p) _ (byte-numbered s p) (λ m. refused 7 p (omega arith) (omega arith))
  stmt-numbered (suc d) p =
      numbered-bind (byte_at s p) _ (byte-numbered s p)
      (λ m. numbered-bind (form_of m p) _ (form-of-numbered m p) (λ k. form-numbered (read_stmt expr c s d) (stmt-numbered d) p k))

  wires-numbered : (n v p : ℕ) → Numbered (read_wires expr c s n v p)
  unfolding read_wires
  wires-numbered zero v p = accepted _
  wires-numbered (suc n) v p =
      numbered-bind (expr c p) _ (exprs c p)
      (λ e. numbered-check (eqb e.width (get_or c.widths v 0)) 8 p _ (omega arith) (omega arith)
      (numbered-bind (read_wires expr c s n (v + 1) e.next) _ (wires-numbered n (v + 1) e.next) (λ es. accepted _)))

  threads-numbered : (n p : ℕ) → Numbered (read_threads expr c s n p)
  unfolding read_threads
  threads-numbered zero p = accepted _
  threads-numbered (suc n) p =
      numbered-bind (read_stmt expr c s 64 p) _ (stmt-numbered 64 p)
      (λ b. numbered-check (leb (size b.stmt + 1) 256) 11 p _ (omega arith) (omega arith)
      (numbered-bind (read_threads expr c s n b.next) _ (threads-numbered n b.next) (λ bs. accepted _)))

-- ---- the sheet

widths-numbered : (n : ℕ) (s : List ℕ) (at : ℕ) → Numbered (read_widths n s at)
unfolding read_widths
widths-numbered zero s at = accepted []
widths-numbered (suc n) s at =
    numbered-bind (within 1 32 4 s at) _ (within-numbered 1 32 4 s at (omega arith) (omega arith))
    (λ w. numbered-bind (read_widths n s (at + 1)) _ (widths-numbered n s (at + 1)) (λ ws. accepted _))

-- ---- functions

module _ (c : Scope) (s : List ℕ) where
  body-form-numbered : (inner : ℕ → Res Bodied) (h : (p : ℕ) → Numbered (inner p)) (p : ℕ) (k : Form) → Numbered (body_form inner c s p k)
  unfolding body_form
  body-form-numbered inner h p an_empty = accepted _
  body-form-numbered inner h p an_assign =
      numbered-bind (byte_at s (p + 1)) _ (byte-numbered s (p + 1))
      (λ t. numbered-check (is_register c t) 9 (p + 1) _ (omega arith) (omega arith)
      (numbered-bind (read_expr 16 c s (p + 2)) _ (expr-numbered 16 c s (p + 2))
      (λ e. numbered-check (eqb e.width (get_or c.widths t 0)) 8 p _ (omega arith) (omega arith) (accepted _))))
  body-form-numbered inner h p a_later = no_body p
  body-form-numbered inner h p a_sequence =
      numbered-bind (inner (p + 1)) _ (h (p + 1)) (λ a. numbered-bind (inner a.next) _ (h a.next) (λ b. accepted _))
  body-form-numbered inner h p an_if =
      numbered-bind (read_expr 16 c s (p + 1)) _ (expr-numbered 16 c s (p + 1)) (λ e. numbered-bind (inner e.next) _ (h e.next) (λ a. accepted _))
  body-form-numbered inner h p an_if_else =
      numbered-bind (read_expr 16 c s (p + 1)) _ (expr-numbered 16 c s (p + 1))
      (λ e. numbered-bind (inner e.next) _ (h e.next) (λ a. numbered-bind (inner a.next) _ (h a.next) (λ b. accepted _)))
  body-form-numbered inner h p a_while = no_body p
  body-form-numbered inner h p a_forever = no_body p
  body-form-numbered inner h p a_wait = no_body p

  body-numbered : (d p : ℕ) → Numbered (read_body d c s p)
  unfolding read_body
  body-numbered zero p = numbered-bind (byte_at s p) _ (byte-numbered s p) (λ m. refused 7 p (omega arith) (omega arith))
  body-numbered (suc d) p =
      numbered-bind (byte_at s p) _ (byte-numbered s p)
      (λ m. numbered-bind (form_of m p) _ (form-of-numbered m p) (λ k. body-form-numbered (read_body d c s) (body-numbered d) p k))

one-numbered : (declared : ℕ) (earlier : List Function) (s : List ℕ) (p : ℕ) → Numbered (read_function declared earlier s p)
unfolding read_function
one-numbered declared earlier s p =
    numbered-bind (within 1 4 3 s p) _ (within-numbered 1 4 3 s p (omega arith) (omega arith))
    (λ k. numbered-bind (read_widths (k + 1) s (p + 1)) _ (widths-numbered (k + 1) s (p + 1))
    (λ ws. numbered-bind (read_body 64 (body_scope declared earlier k ws) s (p + 2 + k)) _
    (body-numbered (body_scope declared earlier k ws) s 64 (p + 2 + k)) (λ b. accepted _)))

functions-numbered : (declared n : ℕ) (earlier : List Function) (s : List ℕ) (p : ℕ) → Numbered (read_functions declared n earlier s p)
unfolding read_functions
functions-numbered declared zero earlier s p = accepted _
functions-numbered declared (suc n) earlier s p =
    numbered-bind (read_function declared earlier s p) _ (one-numbered declared earlier s p)
    (λ f. numbered-bind (read_functions declared n (earlier ++ (f.function ∷ [])) s f.next) _
    (functions-numbered declared n (earlier ++ (f.function ∷ [])) s f.next) (λ fs. accepted _))

-- ---- the head and the sheet

first-numbered : (s : List ℕ) (at : ℕ) → Numbered (first_at s at)
unfolding first_at
first-numbered s at =
    numbered-bind (byte_at s at) _ (byte-numbered s at)
    (λ b. numbered-check (leb 1 (inputs_of b)) 3 at _ (omega arith) (omega arith)
    (numbered-check (leb (inputs_of b) 16) 3 at _ (omega arith) (omega arith) (accepted b)))

count-numbered : (b : ℕ) (s : List ℕ) (at : ℕ) → Numbered (function_count b s at)
unfolding function_count
count-numbered b s at = numbered-pick (ltb b 128) _ _ (accepted 0) (within-numbered 1 8 3 s at (omega arith) (omega arith))

head-numbered : (s : List ℕ) → Numbered (read_head s)
unfolding read_head
head-numbered s =
    numbered-bind (first_at s 0) _ (first-numbered s 0)
    (λ b. numbered-bind (within 1 32 3 s 1) _ (within-numbered 1 32 3 s 1 (omega arith) (omega arith))
    (λ r. numbered-bind (within 0 32 3 s 2) _ (within-numbered 0 32 3 s 2 (omega arith) (omega arith))
    (λ w. numbered-bind (within 1 8 3 s 3) _ (within-numbered 1 8 3 s 3 (omega arith) (omega arith))
    (λ t. numbered-bind (function_count b s 4) _ (count-numbered b s 4)
    (λ n. numbered-bind (within 1 1 4 s (widths_at n)) _ (within-numbered 1 1 4 s (widths_at n) (omega arith) (omega arith))
    (λ c. numbered-bind (read_widths (inputs_of b + r + w - 1) s (widths_at n + 1)) _
    (widths-numbered (inputs_of b + r + w - 1) s (widths_at n + 1)) (λ ws. accepted _)))))))

pub whole-numbered : {E : Type 0} (expr : Scope → ℕ → Res (Parsed E)) → ((c : Scope) (p : ℕ) → Numbered (expr c p))
    → (s : List ℕ) → Numbered (whole_sheet expr s)
unfolding whole_sheet
whole-numbered expr exprs s =
    numbered-check (leb (length s) 8192) 1 8192 _ (omega arith) (omega arith)
    (numbered-bind (read_head s) _ (head-numbered s)
    (λ h. numbered-bind (read_functions h.scope.declared h.scope.declared [] s h.next) _
    (functions-numbered h.scope.declared h.scope.declared [] s h.next)
    (λ fs. let c : Scope = with_functions h.scope fs.functions in
    numbered-bind (read_wires expr c s h.wires (c.inputs + c.registers) fs.next) _
    (wires-numbered expr exprs c s h.wires (c.inputs + c.registers) fs.next)
    (λ es. numbered-bind (read_threads expr c s h.threads es.next) _
    (threads-numbered expr exprs c s h.threads es.next)
    (λ ts. numbered-check (eqb ts.next (length s)) 10 ts.next _ (omega arith) (omega arith) (accepted _))))))

pub sheet-numbered : {E : Type 0} (expr : Scope → ℕ → Res (Parsed E)) → ((c : Scope) (p : ℕ) → Numbered (expr c p))
    → (s : List ℕ) → Numbered (read_sheet expr s)
unfolding read_sheet
sheet-numbered expr exprs s =
    numbered-check (leb (length s) 8192) 1 8192 _ (omega arith) (omega arith)
    (numbered-check (ltb (get_or s 0 0) 128) 3 0 _ (omega arith) (omega arith) (whole-numbered expr exprs s))
