-- No answer of a reader depends on a function's body; and the functions that the code knows by the places of their
-- definitions are those of the sheet, but for their bodies.
use mathlib.Core.Path.{◌≡◌, refl, sym, ap, ◌∙◌}
use Prim.Native.Nat.{ℕ, zero, suc, ◌+◌, ◌-◌, ◌^◌, ◌≤◌, ◌<◌}
use native.Mathlib.Omega.{arith}
use native.Mathlib.Numerals.{add-one}
use mathlib.Core.List.{List, [], ◌∷◌, ◌++◌, map}
use mathlib.Core.Bool.{Bool, true, false}
use lib.ListN.{length, get_or, take, drop, set, replicate, length-append, length-set, get_or-append}
use lib.Seq.{sets, get_or_at, get_or-set_same, get_or-set_other, take-take, get_or-take, get_or-drop}
use lib.Dec.{ltb, leb, eqb}
use borrow.Author.Tests.{lt-ltb, le-leb, lt-leb, leb-true, leb-false, ltb-true, ltb-false}
use Rattle.values.specs.Values.{pick}
use Rattle.values.specs.Operators.{unary_width, binary_width}
use Rattle.sheet.specs.Reading.{Res, ok, no, ◌>>=◌, ◌>>◌, check, byte_at, within, word_at}
use Rattle.sheet.specs.Expression.{nothing, Expr, Function, no_function, Scope, Parsed, Kind, a_variable, a_constant, an_unknown, a_unary, a_binary, a_conditional, a_call, kind_of, variable_at, function_at, Passed, arguments_at, same_widths, node, read_expr, tree, located}
use Rattle.sheet.specs.Statement.{Stmt, assign, later, sequence, if_then, if_else, while, forever, is_register, Body, size, Form, an_empty, an_assign, a_later, a_sequence, an_if, an_if_else, a_while, a_forever, a_wait, form_of, assignment, form, read_stmt}
use Rattle.sheet.specs.Functions.{read_widths, Bodied, body_form, read_body, body_scope, function_of, Made, read_function, Defined, read_functions}
use Rattle.sheet.specs.Module.{read_wires, read_threads}
use Rattle.sheet.specs.Parts.{scope_of, least, definition_at, parameters_at, result_at, outline_at, outlines, function_answer, defined}
use Rattle.sheet.specs.declared.PlaceRead as PlaceRead
use Rattle.sheet.proofs.Reading.{ok-injective, bind_ok, within-ok}
use Rattle.sheet.proofs.Sections.{widths-part}

-- ---- two readings that are alike: the same refusal, or two things that are related

pub data Alike {A B : Type 0} (R : A → B → Type 0) : Res A → Res B → Type 0 where
  both : {a : A} {b : B} → R a b → Alike R (ok a) (ok b)
  neither : {n p : ℕ} → Alike R (no n p) (no n p)

module _ {A B C D : Type 0} {R : A → B → Type 0} {S : C → D → Type 0} where
  alike-bind : {x : Res A} {y : Res B} {f : A → Res C} {g : B → Res D} → Alike R x y
      → ((a : A) (b : B) → R a b → Alike S (f a) (g b)) → Alike S (x >>= f) (y >>= g)
  alike-bind (both r) h = h _ _ r
  alike-bind neither h = neither

module _ {A C D : Type 0} {S : C → D → Type 0} where
  alike_same : (x : Res A) {f : A → Res C} {g : A → Res D} → ((a : A) → Alike S (f a) (g a)) → Alike S (x >>= f) (x >>= g)
  alike_same (ok a) h = h a
  alike_same (no n p) h = neither

module _ {C D : Type 0} {S : C → D → Type 0} where
  alike-check : (t : Bool) (n p : ℕ) {x : Res C} {y : Res D} → Alike S x y → Alike S (check t n p >> x) (check t n p >> y)
  alike-check true n p h = h
  alike-check false n p h = neither

  alike-checks : (t u : Bool) (n p : ℕ) {x : Res C} {y : Res D} → t ≡ u → Alike S x y → Alike S (check t n p >> x) (check u n p >> y)
  alike-checks t u n p {y = y} e h = rw (← e) (alike-check t n p h)

-- ---- functions that are similar: but for their bodies they are the same

abbrev pub outline : Function → Function
outline f = record { parameters = f.parameters; result = f.result; body = nothing }

abbrev pub Similar : List Function → List Function → Type 0
Similar fs gs = map outline fs ≡ map outline gs

similar-length : (fs : List Function) → length (map outline fs) ≡ length fs
similar-length [] = refl
similar-length (f ∷ fs) = ap suc (similar-length fs)

similar-at : (fs : List Function) (n : ℕ) → get_or (map outline fs) n no_function ≡ outline (get_or fs n no_function)
unfolding no_function
similar-at [] n = refl
similar-at (f ∷ fs) zero = refl
similar-at (f ∷ fs) (suc n) = similar-at fs n

map_snoc : (fs : List Function) (f : Function) → map outline (fs ++ (f ∷ [])) ≡ map outline fs ++ (outline f ∷ [])
map_snoc [] f = refl
map_snoc (g ∷ fs) f = ap (λ (l : List Function). outline g ∷ l) (map_snoc fs f)

pub similar-next : (fs gs : List Function) (f g : Function) → Similar fs gs → outline f ≡ outline g → Similar (fs ++ (f ∷ [])) (gs ++ (g ∷ []))
similar-next fs gs f g h e = map_snoc fs f ∙ (λ i. h i ++ (e i ∷ [])) ∙ sym (map_snoc gs g)

-- ---- expressions

-- Of the same width, up to the same place.
pub record SameParsed (a b : Parsed Expr) : Type 0 where
  pub width_is : a.width ≡ b.width
  pub next-is : a.next ≡ b.next

pub record SamePassed (a b : Passed) : Type 0 where
  pub widths-are : a.widths ≡ b.widths
  pub next-is : a.next ≡ b.next

-- Of the same next place.
abbrev pub SameNext : Bodied → Bodied → Type 0
SameNext a b = a.next ≡ b.next

-- The place of an expression, for its tree.
abbrev keep : ℕ → Parsed Expr → Res (Parsed ℕ)
keep p e = ok (record { item = p; width = e.width; next = e.next })

keeps : (p : ℕ) {x y : Res (Parsed Expr)} → Alike SameParsed x y → (x >>= keep p) ≡ (y >>= keep p)
keeps p (both r) = λ m. ok (record { item = p; width = r.width_is m; next = r.next-is m })
keeps p neither = refl

module _ (s : List ℕ) (ws : List ℕ) (n : ℕ) (fs gs : List Function) (similar : Similar fs gs) where
  counts : length fs ≡ length gs
  counts = sym (similar-length fs) ∙ ap length similar ∙ similar-length gs

  each : (k : ℕ) → outline (get_or fs k no_function) ≡ outline (get_or gs k no_function)
  each k = sym (similar-at fs k) ∙ ap (λ (l : List Function). get_or l k no_function) similar ∙ similar-at gs k

  module _ (i g j h : ℕ) where
    abbrev one : Scope
    one = scope_of i g ws n fs

    abbrev two : Scope
    two = scope_of j h ws n gs

    module _ (d : ℕ) (inner : (p : ℕ) → Alike SameParsed (read_expr d one s p) (read_expr d two s p)) where
      -- from two places that are the same
      inner-at : {p q : ℕ} → p ≡ q → Alike SameParsed (read_expr d one s p) (read_expr d two s q)
      inner-at {p} e = rw (← e) (inner p)

      arguments-alike : (k p q : ℕ) → p ≡ q → Alike SamePassed (arguments_at (read_expr d one s) k p) (arguments_at (read_expr d two s) k q)
      unfolding arguments_at
      arguments-alike zero p q e = both (record { widths-are = refl; next-is = e })
      arguments-alike (suc k) p q e =
          alike-bind (inner-at e)
          (λ a b r. alike-bind (arguments-alike k a.next b.next r.next-is)
          (λ x y rs. both (record { widths-are = λ t. r.width_is t ∷ rs.widths-are t; next-is = rs.next-is })))

      node_alike : (p : ℕ) (k : Kind) → Alike SameParsed (node (read_expr d one s) one s p k) (node (read_expr d two s) two s p k)
      unfolding node function_at
      node_alike p a_variable = alike_same (variable_at ws s (p + 1)) (λ v. both (record { width_is = refl; next-is = refl }))
      node_alike p a_constant =
          alike_same (within 1 32 6 s (p + 1)) (λ w. alike_same (word_at s (p + 2))
          (λ v. alike-check (ltb v (2 ^ w)) 6 (p + 2) (both (record { width_is = refl; next-is = refl }))))
      node_alike p an_unknown = alike_same (within 1 32 6 s (p + 1)) (λ w. both (record { width_is = refl; next-is = refl }))
      node_alike p a_unary =
          alike_same (within 1 2 6 s (p + 1))
          (λ o. alike-bind (inner (p + 2)) (λ a b r. both (record { width_is = ap (unary_width o) r.width_is; next-is = r.next-is })))
      node_alike p a_binary =
          alike_same (within 3 9 6 s (p + 1))
          (λ o. alike-bind (inner (p + 2))
          (λ a b r. alike-bind (inner-at r.next-is)
          (λ x y t. alike-checks (eqb a.width x.width) (eqb b.width y.width) 8 p (λ m. eqb (r.width_is m) (t.width_is m))
          (both (record { width_is = ap (binary_width o) r.width_is; next-is = t.next-is })))))
      node_alike p a_conditional =
          alike_same (within 10 10 6 s (p + 1))
          (λ o. alike-bind (inner (p + 2))
          (λ c k q. alike-bind (inner-at q.next-is)
          (λ a b r. alike-bind (inner-at r.next-is)
          (λ x y t. alike-checks (eqb a.width x.width) (eqb b.width y.width) 8 p (λ m. eqb (r.width_is m) (t.width_is m))
          (both (record { width_is = r.width_is; next-is = t.next-is }))))))
      node_alike p a_call =
          alike-bind {R = ◌≡◌ {A = ℕ}} called
          (λ a b e. alike-bind (arguments-of a b e)
          (λ x y rs. alike-checks _ _ 8 p (λ m. same_widths (each_of a b e m).parameters (rs.widths-are m))
          (both (record { width_is = λ m. (each_of a b e m).result; next-is = rs.next-is }))))
        where
          called : Alike (◌≡◌ {A = ℕ}) (function_at one s (p + 1)) (function_at two s (p + 1))
          called =
              alike_same (byte_at s (p + 1))
              (λ m. alike-check (ltb m n) 6 (p + 1)
              (alike-checks (ltb m (length fs)) (ltb m (length gs)) 44 (p + 1) (ap (ltb m) counts) (both refl)))

          each_of : (a b : ℕ) → a ≡ b → outline (get_or fs a no_function) ≡ outline (get_or gs b no_function)
          each_of a b e = each a ∙ ap (λ (k : ℕ). outline (get_or gs k no_function)) e

          arguments-of : (a b : ℕ) → a ≡ b → Alike SamePassed (arguments_at (read_expr d one s) (length (get_or fs a no_function).parameters) (p + 2)) (arguments_at (read_expr d two s) (length (get_or gs b no_function).parameters) (p + 2))
          arguments-of a b e =
              let k : length (get_or fs a no_function).parameters ≡ length (get_or gs b no_function).parameters = λ m. length (each_of a b e m).parameters in
              rw (← k) (arguments-alike (length (get_or fs a no_function).parameters) (p + 2) (p + 2) refl)

    pub expr-alike : (d p : ℕ) → Alike SameParsed (read_expr d one s p) (read_expr d two s p)
    unfolding read_expr kind_of
    expr-alike zero p = alike_same (byte_at s p) (λ m. neither)
    expr-alike (suc d) p = alike_same (byte_at s p) (λ m. alike_same (kind_of one m p) (λ k. node_alike d (expr-alike d) p k))

    pub located-similar : (p : ℕ) → located s one p ≡ located s two p
    unfolding located tree
    located-similar p = keeps p (expr-alike 16 p)

  -- ---- statements, wires and threads

  module _ (i g : ℕ) where
    abbrev this : Scope
    this = scope_of i g ws n fs

    abbrev that : Scope
    that = scope_of i g ws n gs

    assignment-similar : (make : ℕ → ℕ → Stmt ℕ) (p : ℕ) → assignment (located s) this s make p ≡ assignment (located s) that s make p
    unfolding assignment is_register
    assignment-similar make p = λ m.
        byte_at s (p + 1) >>= λ t. check (is_register this t) 9 (p + 1) >> (located-similar i g i g (p + 2) m
        >>= λ e. check (eqb e.width (get_or ws t 0)) 8 p >> ok (record { stmt = make t e.item; next = e.next }))

    form-similar : (one two : ℕ → Res (Body ℕ)) → ((p : ℕ) → one p ≡ two p) → (p : ℕ) (f : Form)
        → form (located s) this s one p f ≡ form (located s) that s two p f
    unfolding form
    form-similar one two h p an_empty = refl
    form-similar one two h p an_assign = assignment-similar assign p
    form-similar one two h p a_later = assignment-similar later p
    form-similar one two h p a_sequence = λ m.
        h (p + 1) m >>= λ a. h a.next m >>= λ b. ok (record { stmt = sequence a.stmt b.stmt; next = b.next })
    form-similar one two h p an_if = λ m.
        located-similar i g i g (p + 1) m >>= λ e. h e.next m >>= λ a. ok (record { stmt = if_then e.item a.stmt; next = a.next })
    form-similar one two h p an_if_else = λ m.
        located-similar i g i g (p + 1) m >>= λ e. h e.next m
        >>= λ a. h a.next m >>= λ b. ok (record { stmt = if_else e.item a.stmt b.stmt; next = b.next })
    form-similar one two h p a_while = λ m.
        located-similar i g i g (p + 1) m >>= λ e. h e.next m >>= λ a. ok (record { stmt = while e.item a.stmt; next = a.next })
    form-similar one two h p a_forever = λ m. h (p + 1) m >>= λ a. ok (record { stmt = forever a.stmt; next = a.next })
    form-similar one two h p a_wait = refl

    pub stmt-similar : (d p : ℕ) → read_stmt (located s) this s d p ≡ read_stmt (located s) that s d p
    unfolding read_stmt
    stmt-similar zero p = refl
    stmt-similar (suc d) p = λ m. byte_at s p >>= λ b. form_of b p
        >>= λ f. form-similar (read_stmt (located s) this s d) (read_stmt (located s) that s d) (stmt-similar d) p f m

    pub wires-similar : (k v p : ℕ) → read_wires (located s) this s k v p ≡ read_wires (located s) that s k v p
    unfolding read_wires
    wires-similar zero v p = refl
    wires-similar (suc k) v p = λ m. located-similar i g i g p m
        >>= λ e. check (eqb e.width (get_or ws v 0)) 8 p >> (wires-similar k (v + 1) e.next m
        >>= λ es. ok (record { items = e.item ∷ es.items; next = es.next }))

    pub threads-similar : (k p : ℕ) → read_threads (located s) this s k p ≡ read_threads (located s) that s k p
    unfolding read_threads
    threads-similar zero p = refl
    threads-similar (suc k) p = λ m. stmt-similar 64 p m
        >>= λ b. check (leb (size b.stmt + 1) 256) 11 p >> (threads-similar k b.next m
        >>= λ bs. ok (record { items = b.stmt ∷ bs.items; next = bs.next }))

    -- ---- bodies

    module _ (d : ℕ) (inner : (p : ℕ) → Alike SameNext (read_body d this s p) (read_body d that s p)) where
      body_at : {p q : ℕ} → p ≡ q → Alike SameNext (read_body d this s p) (read_body d that s q)
      body_at {p} e = rw (← e) (inner p)

      body-form-alike : (p : ℕ) (f : Form) → Alike SameNext (body_form (read_body d this s) this s p f) (body_form (read_body d that s) that s p f)
      unfolding body_form is_register
      body-form-alike p an_empty = both refl
      body-form-alike p an_assign =
          alike_same (byte_at s (p + 1))
          (λ t. alike-check (is_register this t) 9 (p + 1)
          (alike-bind (expr-alike i g i g 16 (p + 2))
          (λ a b r. alike-checks _ _ 8 p (λ m. eqb (r.width_is m) (get_or ws t 0)) (both r.next-is))))
      body-form-alike p a_later = neither
      body-form-alike p a_sequence = alike-bind (inner (p + 1)) (λ a b r. alike-bind (body_at r) (λ x y t. both t))
      body-form-alike p an_if = alike-bind (expr-alike i g i g 16 (p + 1)) (λ a b r. alike-bind (body_at r.next-is) (λ x y t. both t))
      body-form-alike p an_if_else =
          alike-bind (expr-alike i g i g 16 (p + 1))
          (λ a b r. alike-bind (body_at r.next-is) (λ x y t. alike-bind (body_at t) (λ v w u. both u)))
      body-form-alike p a_while = neither
      body-form-alike p a_forever = neither
      body-form-alike p a_wait = neither

    pub body_alike : (d p : ℕ) → Alike SameNext (read_body d this s p) (read_body d that s p)
    unfolding read_body
    body_alike zero p = alike_same (byte_at s p) (λ m. neither)
    body_alike (suc d) p = alike_same (byte_at s p) (λ m. alike_same (form_of m p) (λ f. body-form-alike d (body_alike d) p f))

-- ---- functions

pub record SameMade (a b : Made) : Type 0 where
  pub function-is : outline a.function ≡ outline b.function
  pub next-is : a.next ≡ b.next

pub record SameDefined (a b : Defined) : Type 0 where
  pub places-are : a.places ≡ b.places
  pub next-is : a.next ≡ b.next

module _ (s : List ℕ) (declared : ℕ) where
  one_alike : (fs gs : List Function) → Similar fs gs → (p : ℕ) → Alike SameMade (read_function declared fs s p) (read_function declared gs s p)
  unfolding read_function body_scope function_of
  one_alike fs gs similar p =
      alike_same (within 1 4 3 s p)
      (λ k. alike_same (read_widths (k + 1) s (p + 1))
      (λ ws. alike-bind (body_alike s ws declared fs gs similar k 1 64 (p + 2 + k)) (λ a b r. both (record { function-is = refl; next-is = r }))))

  pub functions-alike : (n : ℕ) (fs gs : List Function) → Similar fs gs → (p q : ℕ) → p ≡ q
      → Alike SameDefined (read_functions declared n fs s p) (read_functions declared n gs s q)
  unfolding read_functions
  functions-alike zero fs gs similar p q e = both (record { places-are = refl; next-is = e })
  functions-alike (suc n) fs gs similar p q e =
      rw (← e) (alike-bind (one_alike fs gs similar p)
      (λ f g r. alike-bind (functions-alike n (fs ++ (f.function ∷ [])) (gs ++ (g.function ∷ [])) (similar-next fs gs f.function g.function similar r.function-is) f.next g.next r.next-is)
      (λ x y t. both (record { places-are = λ m. p ∷ t.places-are m; next-is = t.next-is }))))

pub defined-alike : (ds : List ℕ) (k : ℕ) {x y : Res Defined} → Alike SameDefined x y → defined ds k x ≡ defined ds k y
unfolding defined
defined-alike ds k (both r) = λ m. record { read = PlaceRead.TheVariants.At (r.next-is m); definitions = sets ds k (r.places-are m) }
defined-alike ds k neither = refl

-- ---- outlines

module _ (s : List ℕ) where
  pub outlines-length : (ds : List ℕ) (k : ℕ) → length (outlines s ds k) ≡ k
  unfolding outlines
  outlines-length ds zero = refl
  outlines-length ds (suc k) =
      let h = outlines-length ds k in
      let e = length-append (outlines s ds k) (outline_at s (definition_at ds k) ∷ []) in
      omega arith

  pub outlines-at : (ds : List ℕ) (k n : ℕ) → n < k → get_or (outlines s ds k) n no_function ≡ outline_at s (definition_at ds n)
  unfolding outlines
  outlines-at ds zero n h = absurd (omega arith)
  outlines-at ds (suc k) n h = by (ltb n k) refl (outlines-at ds k n)
    where
      by : (b : Bool) → ltb n k ≡ b → (n < k → get_or (outlines s ds k) n no_function ≡ outline_at s (definition_at ds n))
          → get_or (outlines s ds k ++ (outline_at s (definition_at ds k) ∷ [])) n no_function ≡ outline_at s (definition_at ds n)
      by true e inner =
          let l = ltb-true n k e in
          let m = outlines-length ds k in
          get_or-append (outlines s ds k) _ no_function n (omega arith) ∙ inner l
      by false e inner =
          let l = ltb-false n k e in
          let m : n ≡ k = omega arith in
          rw m (get_or_at (outlines s ds k) (outline_at s (definition_at ds k)) [] no_function k (outlines-length ds k))

  -- a place that is put behind the first j is not one of theirs
  outlines-set : (ds : List ℕ) (k p j : ℕ) → j ≤ k → outlines s (set ds k p) j ≡ outlines s ds j
  unfolding outlines definition_at
  outlines-set ds k p zero h = refl
  outlines-set ds k p (suc j) h =
      let e = get_or-set_other ds k j p 0 (λ q. absurd (omega arith)) in
      rw (outlines-set ds k p j (omega arith), e) refl

  pub outlines-next : (ds : List ℕ) (k p : ℕ) → k < 8 → k < length ds → outlines s (set ds k p) (suc k) ≡ outlines s ds k ++ (outline_at s p ∷ [])
  unfolding outlines definition_at
  outlines-next ds k p few h = rw (outlines-set ds k p k (omega arith), lt-ltb k 8 few, get_or-set_same ds k p 0 h) refl

-- ---- where a definition's parameters and its result stand

least-is : (a b : ℕ) → (least a b ≤ a) × (least a b ≤ b) × ((c : ℕ) → c ≤ a → c ≤ b → c ≤ least a b)
unfolding least
least-is a b = by (leb a b) refl
  where
    by : (t : Bool) → leb a b ≡ t → (pick t a b ≤ a) × (pick t a b ≤ b) × ((c : ℕ) → c ≤ a → c ≤ b → c ≤ pick t a b)
    by true e = let l = leb-true a b e in (omega arith, omega arith, λ c h g. h)
    by false e = let l = leb-false a b e in (omega arith, omega arith, λ c h g. g)

module _ (s : List ℕ) (d : ℕ) where
  pub parameters-inside : parameters_at s d ≤ length s
  unfolding parameters_at
  parameters-inside = (least-is (d + 1) (length s)).1

  pub parameters-next : d < length s → d + 1 ≡ parameters_at s d
  unfolding parameters_at least
  parameters-next h = rw (le-leb (d + 1) (length s) (omega arith)) refl

  pub parameters-none : length s ≤ d → length s ≡ parameters_at s d
  unfolding parameters_at least
  parameters-none h = rw (lt-leb (d + 1) (length s) (omega arith)) refl

  module _ {f c : ℕ} (first : f ≡ parameters_at s d) (count : c ≡ get_or s d 0) where
    pub result-short : c ≤ length s - f → f + c ≡ result_at s d
    unfolding result_at least
    result-short h =
        let i = parameters-inside in
        rw (← first, ← count, le-leb (f + c) (length s) (omega arith)) refl

    pub result-cut : length s - f < c → length s ≡ result_at s d
    unfolding result_at least
    result-cut h =
        let i = parameters-inside in
        rw (← first, ← count, lt-leb (f + c) (length s) (omega arith)) refl

  pub result-inside : result_at s d ≤ length s
  unfolding result_at
  result-inside = (least-is (parameters_at s d + get_or s d 0) (length s)).1

  pub result-behind : parameters_at s d ≤ result_at s d
  unfolding result_at
  result-behind = (least-is (parameters_at s d + get_or s d 0) (length s)).2 (parameters_at s d) (omega arith) parameters-inside

  pub result-near : result_at s d ≤ parameters_at s d + get_or s d 0
  unfolding result_at
  result-near = (least-is (parameters_at s d + get_or s d 0) (length s)).0

-- ---- a function that was read is the one whose definition stands at its place

module _ (s : List ℕ) (p k : ℕ) (count : get_or s p 0 ≡ k) (inside : p + 1 + k < length s) where
  first-is : parameters_at s p ≡ p + 1
  unfolding parameters_at least
  first-is = rw (le-leb (p + 1) (length s) (omega arith)) refl

  last-is : result_at s p ≡ p + 1 + k
  unfolding result_at least
  last-is = rw (first-is, count, le-leb (p + 1 + k) (length s) (omega arith)) refl

pub function-outline : (declared : ℕ) (earlier : List Function) (s : List ℕ) (p : ℕ) {f : Made} → read_function declared earlier s p ≡ ok f
    → outline f.function ≡ outline (outline_at s p)
unfolding read_function function_of outline_at
function-outline declared earlier s p {f} h =
    let k = bind_ok (within 1 4 3 s p) _ h in
    let ws = bind_ok (read_widths (k.0 + 1) s (p + 1)) _ k.2 in
    let b = bind_ok (read_body 64 (body_scope declared earlier k.0 ws.0) s (p + 2 + k.0)) _ ws.2 in
    let x = within-ok 1 4 3 s p k.1 in
    let below = x.below in
    let part = widths-part (k.0 + 1) s (p + 1) (omega arith) ws.1 in
    let first = first-is s p k.0 x.same (omega arith) in
    let last = last-is s p k.0 x.same (omega arith) in
    let n : result_at s p - parameters_at s p ≡ k.0 = omega arith in
    let ps : take k.0 ws.0 ≡ take (result_at s p - parameters_at s p) (drop (parameters_at s p) s) =
    ap (take k.0) part.0 ∙ take-take k.0 (k.0 + 1) (drop (p + 1) s) (omega arith) ∙ sym (λ m. take (n m) (drop (first m) s)) in
    let w : get_or ws.0 k.0 0 ≡ get_or s (result_at s p) 0 =
    ap (λ (l : List ℕ). get_or l k.0 0) part.0 ∙ get_or-take (k.0 + 1) (drop (p + 1) s) k.0 0 (omega arith) ∙ get_or-drop (p + 1) s k.0 0
    ∙ ap (λ (m : ℕ). get_or s m 0) (sym last) in
    rw (← ok-injective b.2) (λ m. record { parameters = ps m; result = w m; body = nothing })

-- The functions that were read are those whose definitions stand at their places.
pub functions-told : (declared n : ℕ) (earlier : List Function) (s : List ℕ) (p : ℕ) (ds : List ℕ) (k : ℕ) {d : Defined}
    → Similar earlier (outlines s ds k) → k + n ≤ 8 → length ds ≡ 8 → read_functions declared n earlier s p ≡ ok d
    → Similar d.functions (outlines s (sets ds k d.places) (k + n))
unfolding read_functions
functions-told declared zero earlier s p ds k {d} told l m h =
    let e : k + 0 ≡ k = omega arith in
    rw (← ok-injective h, e) told
functions-told declared (suc n) earlier s p ds k {d} told l m h =
    let f = bind_ok (read_function declared earlier s p) _ h in
    let fs = bind_ok (read_functions declared n (earlier ++ (f.0.function ∷ [])) s f.0.next) _ f.2 in
    let next : Similar (earlier ++ (f.0.function ∷ [])) (outlines s (set ds k p) (suc k)) =
    rw (outlines-next s ds k p (omega arith) (omega arith)) (similar-next earlier (outlines s ds k) f.0.function (outline_at s p) told (function-outline declared earlier s p f.1)) in
    let size = length-set ds k p in
    let e : k + suc n ≡ suc k + n = omega arith in
    rw (← ok-injective fs.2, e) (functions-told declared n (earlier ++ (f.0.function ∷ [])) s f.0.next (set ds k p) (suc k) next (omega arith) (size ∙ m) fs.1)

-- ---- one turn of reading the functions: the next may call those whose definitions stand in the table

module _ (s : List ℕ) (declared : ℕ) (ds : List ℕ) (n k p : ℕ) where
  pub functions-done : n ≤ k
      → record { read = PlaceRead.TheVariants.At p; definitions = ds } ≡ defined ds k (read_functions declared (n - k) (outlines s ds k) s p)
  unfolding read_functions defined
  functions-done h = let e : n - k ≡ 0 = omega arith in rw e

  pub functions-refused : {m q : ℕ} → k < n → read_function declared (outlines s ds k) s p ≡ no m q
      → record { read = PlaceRead.TheVariants.Refused m q; definitions = replicate 8 0 } ≡ defined ds k (read_functions declared (n - k) (outlines s ds k) s p)
  unfolding read_functions defined
  functions-refused h e = let i : n - k ≡ suc (n - (k + 1)) = omega arith in rw (i, e)

  pub functions_more : {f : Made} → k < n → k < 8 → length ds ≡ 8 → read_function declared (outlines s ds k) s p ≡ ok f
      → defined ds k (read_functions declared (n - k) (outlines s ds k) s p)
      ≡ defined (set ds k p) (k + 1) (read_functions declared (n - (k + 1)) (outlines s (set ds k p) (k + 1)) s f.next)
  unfolding read_functions defined
  functions_more {f} h l m e =
      let i : n - k ≡ suc (n - suc k) = omega arith in
      let fs : List Function = outlines s ds k ++ (f.function ∷ []) in
      let next : Similar fs (outlines s (set ds k p) (suc k)) =
      rw (outlines-next s ds k p l (omega arith)) (similar-next (outlines s ds k) (outlines s ds k) f.function (outline_at s p) refl (function-outline declared (outlines s ds k) s p e)) in
      rw (i, e, add-one k) (by (read_functions declared (n - suc k) fs s f.next) ∙ defined-alike (set ds k p) (suc k) (functions-alike s declared (n - suc k) fs (outlines s (set ds k p) (suc k)) next f.next f.next refl))
    where
      by : (x : Res Defined)
          → defined ds k (x >>= λ d. ok (record { functions = d.functions; places = p ∷ d.places; next = d.next })) ≡ defined (set ds k p) (suc k) x
      by (ok d) = refl
      by (no m q) = refl

pub function-read : {x : Res Made} {r : PlaceRead.PlaceRead} {n : ℕ} → r ≡ function_answer x → r ≡ PlaceRead.TheVariants.At n
    → (f : Made) × (x ≡ ok f) × (f.next ≡ n)
unfolding function_answer
function-read {x = ok f} {n = n} p q = let e : f.next ≡ n = cc in (f, refl, e)
function-read {x = no m a} p q = let z : ◌≡◌ {A = ℕ} 0 1 = cc in absurd (omega arith)

pub function-refused : {x : Res Made} {r : PlaceRead.PlaceRead} {n a : ℕ} → r ≡ function_answer x → r ≡ PlaceRead.TheVariants.Refused n a → x ≡ no n a
unfolding function_answer
function-refused {x = ok f} p q = cc
function-refused {x = no m b} p q = cc
