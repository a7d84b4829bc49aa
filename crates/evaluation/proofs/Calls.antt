-- What the code works out on bytes is `eval` of the tree wherever the sheet's reader accepted, calls included. Assumes nothing.
use mathlib.Core.Path.{◌≡◌, refl, sym, ap, subst, ◌∙◌}
use mathlib.Core.Bool.{Bool, true, false}
use mathlib.Core.List.{List, [], ◌∷◌, ◌++◌, map}
use Prim.Native.Nat.{ℕ, zero, suc, ◌+◌, ◌≤◌, ◌<◌}
use native.Mathlib.Omega.{arith}
use lib.ListN.{length, get_or, take, drop, set, replicate, length-append}
use lib.Seq.{append_snoc, set_at, get_or_at, drop-cons, length-take-le, get_or-take, get_or-drop}
use lib.Dec.{eqb}
use borrow.Author.Tests.{lt-ltb}
use Rattle.values.specs.declared.Value.{Value}
use Rattle.values.specs.Values.{pick, fits, holds, all_unknown, nowhere}
use Rattle.values.specs.Cells.{small, cell_of, value_of, cell_at}
use Rattle.values.proofs.Values.{fits-unknown}
use Rattle.values.proofs.Operators.{fits-small}
use Rattle.values.proofs.Cells.{value_cell}
use Rattle.sheet.specs.Reading.{ok, byte_at, within}
use Rattle.sheet.specs.Expression.{Expr, Function, no_function, Scope, Parsed, Passed, same_widths, read_expr}
use Rattle.sheet.specs.Statement.{is_register, Form, an_empty, an_assign, a_later, a_sequence, an_if, an_if_else, a_while, a_forever, a_wait, form_of}
use Rattle.sheet.specs.Functions.{read_widths, Bodied, body_form, read_body, body_scope, function_of, Made, read_function, Defined, read_functions}
use Rattle.sheet.specs.Answers.{definitions_of}
use Rattle.sheet.specs.Parts.{definition_at}
use Rattle.sheet.proofs.Reading.{no≢ok, ok-injective, bind_ok, check-ok, byte-ok, within-ok}
use Rattle.sheet.proofs.Expression.{Reads, a-variable, a-constant, an-unknown, a-unary, a-binary, a-conditional, a-call, ReadsAll, no_arguments, an-argument, derive}
use Rattle.sheet.proofs.Statements.{form_map, form-map}
use Rattle.sheet.proofs.Sections.{widths-part}
use Rattle.evaluation.specs.declared.Evaluated.{Evaluated}
use Rattle.evaluation.specs.declared.Frame.{Frame}
use Rattle.evaluation.specs.Evaluation.{frame, eval, eval_all, run}
use Rattle.evaluation.specs.Widths.{BodyTyped}
use Rattle.evaluation.specs.Bytes.{variable_node, unary_node, binary_node, conditional_node, inner_node, node_at, work_at, skip_body, result_form, turn_form, if_form, else_form, form_at, run_at, arguments_at, call_node, calls_at}
use Rattle.evaluation.proofs.Bytes.{calls-defined}
use Rattle.evaluation.proofs.Evaluation.{worth, FitAll, frame-fits, all_fit, run_fits, TypedFunctions, all_typed, read-typed}
use Rattle.evaluation.proofs.Functions.{widths-sound, only-target, body_typed, all-widths, functions-typed, none-typed}
use Rattle.evaluation.proofs.Skipping.{Standing, standing-take, functions-standing, skip-body}

-- ---- the cells of a frame

abbrev framed : List Value → Value → List ℕ → List ℕ
framed ys r t = map cell_of ys ++ (cell_of r ∷ t)

cells-length : (ys : List Value) → length (map cell_of ys) ≡ length ys
cells-length [] = refl
cells-length (y ∷ ys) = ap suc (cells-length ys)

framed_at : (ys : List Value) (r : Value) (t : List ℕ) → ((v : ℕ) → v < length ys → small (get_or ys v nowhere) ≡ true) → small r ≡ true →
    (v : ℕ) → v < length ys + 1 → cell_at (framed ys r t) v ≡ frame ys r v
unfolding cell_at
framed_at [] r t h k zero l = value_cell r k
framed_at [] r t h k (suc v) l = absurd (omega arith)
framed_at (y ∷ ys) r t h k zero l = value_cell y (h 0 (omega arith))
framed_at (y ∷ ys) r t h k (suc v) l = framed_at ys r t (λ u b. h (suc u) (omega arith)) k v (omega arith)

framed-set : (ys : List Value) (r a : Value) (t : List ℕ) (n : ℕ) → length ys ≡ n → set (framed ys r t) n (cell_of a) ≡ framed ys a t
framed-set ys r a t n e = set_at (map cell_of ys) (cell_of r) t (cell_of a) n (cells-length ys ∙ e)

-- ---- two environments that agree on the variables of these widths, and fit them

pub record Agree (ws : List ℕ) (f g : ℕ → Value) : Type 0 where
  pub same : (v : ℕ) → v < length ws → f v ≡ g v
  pub fit : (v : ℕ) → v < length ws → fits (get_or ws v 0) (g v) ≡ true

-- The widths ws stand in front of others.
abbrev pub Leading : List ℕ → List ℕ → Type 0
Leading ws vs = (v : ℕ) → v < length ws → get_or vs v 0 ≡ get_or ws v 0

-- ---- arguments

module _ {c : Scope} {s : List ℕ} {d : ℕ} (operand : ℕ → Evaluated) (g : ℕ → Value)
    (inner : (p : ℕ) (q : Parsed Expr) → Reads c s d p q → operand p ≡ worth g q) where
  arguments-worth : {n p : ℕ} {es : Passed} (done zs : List ℕ) (k : ℕ) → length done ≡ k → n ≤ length zs → ReadsAll c s d n p es →
      arguments_at operand k n (record { cells = done ++ zs; next = p })
      ≡ record { cells = done ++ (map cell_of (eval_all g es.items) ++ drop n zs); next = es.next }
  unfolding arguments_at eval
  arguments-worth done zs k e l no_arguments = refl
  arguments-worth done [] k e l (an-argument x es) = absurd (omega arith)
  arguments-worth done (z ∷ zs) k e l (an-argument {n = n} {e = a} {es = r} x es) =
      let v : ℕ = cell_of (eval g a.item) in
      let more : List ℕ = done ++ (v ∷ []) in
      let size : length more ≡ k + 1 = omega (arith, length-append done (v ∷ [])) in
      let rest : List ℕ = map cell_of (eval_all g r.items) ++ drop n zs in
      let here : set (done ++ (z ∷ zs)) k v ≡ more ++ zs = set_at done z zs v k e ∙ sym (append_snoc done v zs) in
      rw (inner _ a x, here) (rw (append_snoc done v rest) at (arguments-worth more zs (k + 1) size (omega arith) es))

-- ---- expressions and bodies

module _ (s ds : List ℕ) where
  -- Of every scope with n functions that stand at ds.
  abbrev Right : ℕ → Type 0
  Right n =
      (c : Scope) → length c.functions ≡ n → Standing s ds c.declared c.functions → TypedFunctions c.functions →
      ((v : ℕ) → v < length c.widths → get_or c.widths v 0 ≤ 32) → (ws : List ℕ) → Leading c.widths ws →
      (f g : ℕ → Value) → Agree c.widths f g → (d p : ℕ) (q : Parsed Expr) → Reads c s d p q →
      work_at (calls_at n s ds) d s ws f p ≡ worth g q

  -- ---- a body, in a scope whose expressions are right

  module _ (n : ℕ) (c : Scope) (standing : Standing s ds c.declared c.functions) (typed : TypedFunctions c.functions)
      (one : c.registers ≡ 1) (ps : List ℕ) (w : ℕ) (widths-are : c.widths ≡ ps ++ (w ∷ [])) (inputs_are : c.inputs ≡ length ps)
      (ws : List ℕ) (ys : List Value) (fit : FitAll ps ys) (t : List ℕ)
      (right : (r : Value) → fits w r ≡ true → (p : ℕ) (e : Parsed Expr) → read_expr 16 c s p ≡ ok e →
      work_at (calls_at n s ds) 16 s ws (cell_at (framed ys r t)) p ≡ worth (frame ys r) e) where
    abbrev after : Value → Bodied → Frame
    after r b = record { cells = framed ys (run ys b.body r) t; next = b.next }

    abbrev working : List ℕ → ℕ → Evaluated
    working cs p = work_at (calls_at n s ds) 16 s ws (cell_at cs) p

    target-width : get_or c.widths c.inputs 0 ≡ w
    target-width = rw (widths-are, inputs_are) (get_or_at ps w [] 0 (length ps) refl)

    -- The result fits after a statement.
    still-fits : (d p : ℕ) (b : Bodied) (r : Value) → fits w r ≡ true → read_body d c s p ≡ ok b → fits w (run ys b.body r) ≡ true
    still-fits d p b r h e =
        let x : BodyTyped c.widths b.body w = rw target-width at (body_typed c s typed one d p e) in
        run_fits ps ys w fit b.body r (rw widths-are at x) h

    form-worth : (d : ℕ) → ((p : ℕ) (b : Bodied) (r : Value) → fits w r ≡ true → read_body d c s p ≡ ok b →
        run_at (calls_at n s ds) d s ds ws (framed ys r t) p ≡ after r b) → (p : ℕ) (f : Form) (b : Bodied) (r : Value) → fits w r ≡ true →
        body_form (read_body d c s) c s p f ≡ ok b →
        form_at working (run_at (calls_at n s ds) d s ds ws) (skip_body d s ds) (framed ys r t) p (form_map f) (get_or s (p + 1) 0) ≡ after r b
    unfolding body_form form_at form_map result_form turn_form if_form else_form eval
    form-worth d inner p an_empty o r h e = rw (← ok-injective e) refl
    form-worth d inner p an_assign o r h e =
        let b = bind_ok (byte_at s (p + 1)) _ e in
        let g = check-ok (is_register c b.0) 9 (p + 1) _ b.2 in
        let a = bind_ok (read_expr 16 c s (p + 2)) _ g.1 in
        let z = check-ok (eqb a.0.width (get_or c.widths b.0 0)) 8 p _ a.2 in
        let i : get_or s (p + 1) 0 ≡ length ps = (byte-ok s (p + 1) b.1).1 ∙ only-target c b.0 one g.0 ∙ inputs_are in
        rw (← ok-injective z.1, right r h (p + 2) a.0 a.1, i) (λ m. record { cells = framed-set ys r (eval (frame ys r) a.0.item) t (length ps) fit.long m; next = a.0.next })
    form-worth d inner p a_later o r h e = absurd (no≢ok e)
    form-worth d inner p a_sequence o r h e =
        let a = bind_ok (read_body d c s (p + 1)) _ e in
        let b = bind_ok (read_body d c s a.0.next) _ a.2 in
        rw (← ok-injective b.2, inner (p + 1) a.0 r h a.1)
        (inner _ b.0 (run ys a.0.body r) (still-fits d (p + 1) a.0 r h a.1) b.1)
    form-worth d inner p an_if o r h e =
        let a = bind_ok (read_expr 16 c s (p + 1)) _ e in
        let b = bind_ok (read_body d c s a.0.next) _ a.2 in
        let x = inner _ b.0 r h b.1 in
        let y = skip-body c s ds standing d _ b.1 in
        rw (← ok-injective b.2, right r h (p + 1) a.0 a.1, x, y) (by (holds (eval (frame ys r) a.0.item)) (run ys b.0.body r) b.0.next)
      where
        by : (k : Bool) (u : Value) (q : ℕ) →
            ◌≡◌ {A = Frame} (pick k (record { cells = framed ys u t; next = q }) (record { cells = framed ys r t; next = q })) (record { cells = framed ys (pick k u r) t; next = q })
        by true u q = refl
        by false u q = refl
    form-worth d inner p an_if_else o r h e =
        let a = bind_ok (read_expr 16 c s (p + 1)) _ e in
        let b = bind_ok (read_body d c s a.0.next) _ a.2 in
        let z = bind_ok (read_body d c s b.0.next) _ b.2 in
        let x = inner _ b.0 r h b.1 in
        let y = skip-body c s ds standing d _ b.1 in
        let u = inner _ z.0 r h z.1 in
        let v = skip-body c s ds standing d _ z.1 in
        rw (← ok-injective z.2, right r h (p + 1) a.0 a.1, x, y, u, v)
        (by (holds (eval (frame ys r) a.0.item)) (run ys b.0.body r) (run ys z.0.body r) z.0.next)
      where
        by : (k : Bool) (u v : Value) (q : ℕ) →
            ◌≡◌ {A = Frame} (pick k (record { cells = framed ys u t; next = q }) (record { cells = framed ys v t; next = q })) (record { cells = framed ys (pick k u v) t; next = q })
        by true u v q = refl
        by false u v q = refl
    form-worth d inner p a_while o r h e = absurd (no≢ok e)
    form-worth d inner p a_forever o r h e = absurd (no≢ok e)
    form-worth d inner p a_wait o r h e = absurd (no≢ok e)

    body-worth : (d p : ℕ) (b : Bodied) (r : Value) → fits w r ≡ true → read_body d c s p ≡ ok b →
        run_at (calls_at n s ds) d s ds ws (framed ys r t) p ≡ after r b
    unfolding read_body run_at
    body-worth zero p b r h e = absurd (no≢ok (bind_ok (byte_at s p) _ e).2)
    body-worth (suc d) p b r h e =
        let m = bind_ok (byte_at s p) _ e in
        let f = bind_ok (form_of m.0 p) _ m.2 in
        let x = byte-ok s p m.1 in
        let i : get_or s p 0 ≡ form_map f.0 = x.1 ∙ form-map m.0 p f.1 in
        rw (lt-ltb p (length s) x.0, i) (form-worth d (λ q b u k g. body-worth d q b u k g) p f.0 b r h f.2)

  -- ---- a call, in a scope with n functions, where the expressions of bodies are right

  module _ (n : ℕ) (earlier : (m : ℕ) → m < n → Right m) (c : Scope) (count : length c.functions ≡ n)
      (standing : Standing s ds c.declared c.functions) (typed : TypedFunctions c.functions)
      (ws : List ℕ) (leading : Leading c.widths ws) (f g : ℕ → Value) (agree : Agree c.widths f g) where
    abbrev fs : List Function
    fs = c.functions

    typed-take : (k : ℕ) → k ≤ length fs → TypedFunctions (take k fs)
    typed-take k l m h =
        let b : m < k = rw (length-take-le k fs l) at h in
        rw (get_or-take k fs m no_function b) (typed m (omega arith))

    -- Function k, whose definition stands at D: it has so many parameters, these widths, this body.
    module _ (k D size : ℕ) (wl : List ℕ) (b : Bodied) (below : k < length fs) (some : D < length s) (few : size ≤ 4)
        (counted : get_or s D 0 ≡ size) (wide : read_widths (size + 1) s (D + 1) ≡ ok wl)
        (body : read_body 64 (body_scope c.declared (take k fs) size wl) s (D + 2 + size) ≡ ok b) where
      abbrev scope : Scope
      scope = body_scope c.declared (take k fs) size wl

      abbrev ps : List ℕ
      ps = take size wl

      abbrev w : ℕ
      w = get_or wl size 0

      abbrev tail : List ℕ
      tail = drop (suc size) (replicate 5 0)

      wl-length : length wl ≡ size + 1
      wl-length = (widths-sound (size + 1) s (D + 1) wide).0

      wl-most : (v : ℕ) → v < length wl → get_or wl v 0 ≤ 32
      wl-most v l = ((widths-sound (size + 1) s (D + 1) wide).1 v l).1

      ps-length : length ps ≡ size
      ps-length = let e = wl-length in length-take-le size wl (omega arith)

      wl-is : wl ≡ ps ++ (w ∷ [])
      wl-is = sym (all-widths size wl wl-length)

      wl-leads : Leading wl (drop (D + 1) s)
      wl-leads v l =
          let e = wl-length in
          let x = (widths-part (size + 1) s (D + 1) (omega arith) wide).0 in
          sym (ap (λ (u : List ℕ). get_or u v 0) x ∙ get_or-take (size + 1) (drop (D + 1) s) v 0 (omega arith))

      result-width : get_or s (D + 1 + size) 0 ≡ w
      result-width = let e = wl-length in sym (get_or-drop (D + 1) s size 0) ∙ wl-leads size (omega arith)

      w-most : w ≤ 32
      w-most = let e = wl-length in wl-most size (omega arith)

      module _ (ys : List Value) (fit : FitAll ps ys) where
        ys-length : length ys ≡ size
        ys-length = fit.long ∙ ps-length

        ys-small : (v : ℕ) → v < length ys → small (get_or ys v nowhere) ≡ true
        ys-small v l =
            let e = ys-length in
            let i = wl-length in
            let j = ps-length in
            let h : get_or ps v 0 ≤ 32 = rw (get_or-take size wl v 0 (omega arith)) (wl-most v (omega arith)) in
            fits-small (get_or ps v 0) (get_or ys v nowhere) h (fit.fit v (omega arith))

        frame-agrees : (r : Value) → fits w r ≡ true → Agree wl (cell_at (framed ys r tail)) (frame ys r)
        frame-agrees r h =
            let e = ys-length in
            let i = wl-length in
            record {
              same = λ v l. framed_at ys r tail ys-small (fits-small w r w-most h) v (omega arith);
              fit = λ v l.
                  subst (λ (u : List ℕ). fits (get_or u v 0) (frame ys r v) ≡ true) (sym wl-is)
                  (frame-fits ps ys w r fit h v (subst (λ (u : List ℕ). v < length u) wl-is l));
            }

        expr-right : (r : Value) → fits w r ≡ true → (p : ℕ) (e : Parsed Expr) → read_expr 16 scope s p ≡ ok e →
            work_at (calls_at k s ds) 16 s (drop (D + 1) s) (cell_at (framed ys r tail)) p ≡ worth (frame ys r) e
        unfolding body_scope
        expr-right r h p q e =
            earlier k (omega (arith, count)) scope (length-take-le k fs (omega arith)) (standing-take s ds c.declared fs k (omega arith) standing)
            (typed-take k (omega arith)) wl-most (drop (D + 1) s) wl-leads (cell_at (framed ys r tail)) (frame ys r) (frame-agrees r h) 16 p q
            (derive scope s 16 p e)

        -- The body from its start on, where the result is unknown.
        ran : run_at (calls_at k s ds) 64 s ds (drop (D + 1) s) (framed ys (all_unknown w) tail) (D + 2 + size)
            ≡ record { cells = framed ys (run ys b.body (all_unknown w)) tail; next = b.next }
        unfolding body_scope
        ran =
            body-worth k scope (standing-take s ds c.declared fs k (omega arith) standing) (typed-take k (omega arith)) refl ps w wl-is
            (sym ps-length) (drop (D + 1) s) ys fit tail expr-right 64 (D + 2 + size) b (all_unknown w) (fits-unknown w) body

        result_fits : fits w (run ys b.body (all_unknown w)) ≡ true
        unfolding body_scope
        result_fits =
            still-fits k scope (standing-take s ds c.declared fs k (omega arith) standing) (typed-take k (omega arith)) refl ps w wl-is
            (sym ps-length) (drop (D + 1) s) ys fit tail expr-right 64 (D + 2 + size) b (all_unknown w) (fits-unknown w) body

        result-is : cell_at (framed ys (run ys b.body (all_unknown w)) tail) size ≡ run ys b.body (all_unknown w)
        unfolding cell_at
        result-is =
            ap value_of (get_or_at (map cell_of ys) (cell_of (run ys b.body (all_unknown w))) tail 0 size (cells-length ys ∙ ys-length))
            ∙ value_cell _ (fits-small w _ w-most result_fits)

        started : set (map cell_of ys ++ drop size (replicate 5 0)) size (cell_of (all_unknown w)) ≡ framed ys (all_unknown w) tail
        started =
            ap (λ (l : List ℕ). set (map cell_of ys ++ l) size (cell_of (all_unknown w))) (drop-cons (replicate 5 0) size 0 (omega arith))
            ∙ set_at (map cell_of ys) _ tail (cell_of (all_unknown w)) size (cells-length ys ∙ ys-length)

      call-of : (operand : ℕ → Evaluated) (p : ℕ) (es : Passed) → FitAll ps (eval_all g es.items) →
          arguments_at operand 0 size (record { cells = replicate 5 0; next = p })
          ≡ record { cells = map cell_of (eval_all g es.items) ++ drop size (replicate 5 0); next = es.next } →
          call_node (calls_at k s ds) s ds D operand p
          ≡ record { value = run (eval_all g es.items) b.body (all_unknown w); width = w; next = es.next }
      unfolding call_node
      call-of operand p es fit passed =
          let ys = eval_all g es.items in
          rw (counted, result-width, passed, started ys fit, ran ys fit, result-is ys fit) refl

    abbrev function : ℕ → Function
    function k = get_or fs k no_function

    module _ (d p : ℕ) (inner : (i : ℕ) (q : Parsed Expr) → Reads c s d i q → work_at (calls_at n s ds) d s ws f i ≡ worth g q) (k : ℕ) (es : Passed) where
      -- A call of this function is worth what its body gives.
      abbrev Worth : Function → Type 0
      Worth fn =
          ReadsAll c s d (length fn.parameters) p es → same_widths fn.parameters es.widths ≡ true →
          call_node (calls_at k s ds) s ds (definition_at ds k) (work_at (calls_at n s ds) d s ws f) p
          ≡ record { value = run (eval_all g es.items) fn.body (all_unknown fn.result); width = fn.result; next = es.next }

      made-worth : k < length fs → (made : Made) → read_function c.declared (take k fs) s (definition_at ds k) ≡ ok made → Worth made.function
      unfolding read_function function_of
      made-worth l made read =
          let D = definition_at ds k in
          let size = bind_ok (within 1 4 3 s D) _ read in
          let wl = bind_ok (read_widths (size.0 + 1) s (D + 1)) _ size.2 in
          let b = bind_ok (read_body 64 (body_scope c.declared (take k fs) size.0 wl.0) s (D + 2 + size.0)) _ wl.2 in
          let x = within-ok 1 4 3 s D size.1 in
          let e = ps-length k D size.0 wl.0 b.0 l x.below x.most x.same wl.1 b.1 in
          subst Worth (ap (λ (m : Made). m.function) (ok-injective b.2))
          (λ all wide.
          let fit = all_fit c.widths g agree.fit es.items (take size.0 wl.0) (all_typed (λ i q r. read-typed typed r) _ all wide) in
          let i : length (take size.0 wl.0) ≤ 5 = omega (arith, x.most) in
          call-of k D size.0 wl.0 b.0 l x.below x.most x.same wl.1 b.1 (work_at (calls_at n s ds) d s ws f) p es fit
          (rw e at (arguments-worth (work_at (calls_at n s ds) d s ws f) g inner [] (replicate 5 0) 0 refl i all)))

      call-worth : k < length fs → Worth (function k)
      call-worth l = let x = standing k l in subst Worth x.same (made-worth l x.made x.reads)

    inside : (k : ℕ) → k < length fs → definition_at ds k < length s
    unfolding read_function
    inside k l = let x = bind_ok (within 1 4 3 s (definition_at ds k)) _ (standing k l).reads in (within-ok 1 4 3 s (definition_at ds k) x.1).below

    step : (d p : ℕ) {q : Parsed Expr} → Reads c s d p q → work_at (calls_at n s ds) d s ws f p ≡ worth g q
    unfolding work_at node_at inner_node variable_node unary_node binary_node conditional_node eval
    step zero p {q = q} x' = elim x' [ ]
    step (suc d) p (a-variable {v = v} m h e l) = rw (m, e) (λ i. record { value = agree.same v l i; width = leading v l i; next = p + 2 })
    step (suc d) p (a-constant m w h e l) = rw (m, w.same, e) refl
    step (suc d) p (an-unknown m w) = rw (m, w.same) refl
    step (suc d) p (a-unary m o a) = rw (m, o.same, step d _ a) refl
    step (suc d) p (a-binary m o a b e) = rw (m, o.same, step d _ a, step d _ b) refl
    step (suc d) p (a-conditional m o q a b e) = rw (m, step d _ q, step d _ a, step d _ b) refl
    step (suc d) p (a-call {n = k} {es = r} m h e l b es w) =
        rw (m, e)
        (calls-defined s ds (work_at (calls_at n s ds) d s ws f) k (p + 2) n (omega (arith, count)) (inside k b)
        ∙ call-worth d (p + 2) (λ i q x. step d i x) k r b es w)

  -- By the number of functions, then by the depth.
  right : (k n : ℕ) → n < k → Right n
  right zero n l = absurd (omega arith)
  right (suc k) n l = λ c count standing typed narrow ws leading f g agree d p q r.
      step n (λ m h. right k m (omega arith)) c count standing typed ws leading f g agree d p r

  -- THE LAW: where an expression was read in a scope whose functions stand at ds, its value is `eval` of its tree, and the next place is the reader's.
  pub works : {c : Scope} {d p : ℕ} {q : Parsed Expr} → Standing s ds c.declared c.functions → TypedFunctions c.functions →
      ((v : ℕ) → v < length c.widths → get_or c.widths v 0 ≤ 32) → (ws : List ℕ) → Leading c.widths ws →
      (env : ℕ → Value) → ((v : ℕ) → v < length c.widths → fits (get_or c.widths v 0) (env v) ≡ true) →
      Reads c s d p q → work_at (calls_at (length c.functions) s ds) d s ws env p ≡ worth env q
  works {c} {d} {p} {q} standing typed narrow ws leading env fit r =
      right (suc (length c.functions)) (length c.functions) (omega arith) c refl standing typed narrow ws leading env env
      (record { same = λ v l. refl; fit = fit }) d p q r

-- Where the functions were read from a place on: their definitions stand at the places that the reader tells.
pub works-read : {c : Scope} {d p : ℕ} {q : Parsed Expr} (s : List ℕ) (n at : ℕ) (read : Defined) → n ≤ 8 →
    read_functions c.declared n [] s at ≡ ok read → c.functions ≡ read.functions →
    ((v : ℕ) → v < length c.widths → get_or c.widths v 0 ≤ 32) → (ws : List ℕ) → Leading c.widths ws →
    (env : ℕ → Value) → ((v : ℕ) → v < length c.widths → fits (get_or c.widths v 0) (env v) ≡ true) → Reads c s d p q →
    work_at (calls_at (length c.functions) s (definitions_of read.places)) d s ws env p ≡ worth env q
unfolding definitions_of
works-read {c} s n at read few h e narrow ws leading env fit r =
    let standing = functions-standing c.declared n [] s at (replicate 8 0) (λ k l. absurd (omega arith)) (omega arith) refl h in
    let typed = functions-typed c.declared n [] s at none-typed h in
    works s (definitions_of read.places) (rw e standing) (rw e typed) narrow ws leading env fit r
