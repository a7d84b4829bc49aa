-- What the nodes of lent tables are worth: what stands for a wait is worth a wait's place, and what all nodes in order are worth fits their
-- widths. Assumes nothing.
use mathlib.Core.Path.{◌≡◌, refl, sym, ap, ◌∙◌}
use mathlib.Core.Bool.{Bool, true, false, ◌&&◌}
use mathlib.Core.List.{List, [], ◌∷◌, ◌++◌}
use Prim.Native.Nat.{ℕ, zero, suc, ◌+◌, ◌^◌, ◌≤◌, ◌<◌}
use native.Mathlib.Nat.{not-suc-le-zero}
use native.Mathlib.Numerals.{add-one}
use native.Mathlib.Omega.{arith}
use borrow.Author.Tests.{eqb-true, ltb-true, ltb-false}
use lib.ListN.{length, get_or, length-append, get_or-append, get_or-eq_default}
use lib.Seq.{get_or_at}
use lib.Dec.{ltb, eqb}
use Rattle.values.specs.declared.Value.{Value}
use Rattle.values.specs.Values.{pick, known, nowhere, holds, fits}
use Rattle.values.proofs.Values.{fits-known, fits-unknown, pick-fits}
use Rattle.values.proofs.Operators.{unary-fits, binary-fits, choice-fits}
use Rattle.sheet.specs.Expression.{Expr}
use Rattle.sheet.specs.Module.{Module}
use Rattle.state.specs.Rows.{list_of}
use Rattle.soundness.specs.Soundness.{Fitting}
use Rattle.events.specs.Cycle.{variables, code_of, instr_at, is_wait}
use Rattle.events.proofs.Cycle.{absurd-bool, and_left, and_right, Below, at-end, before, below_suc}
use Rattle.nextstate.specs.Nodes.{Node, a_variable, a_constant, an_unknown, a_unary, a_binary, a_conditional, a_branch, node_at}
use Rattle.nextstate.specs.Nodes.{node_width, node_value, Worked, work_out, worked}
use Rattle.nextstate.specs.Book.{worth}
use Rattle.nextstate.specs.CycleRun.{width?, node_fits, nodes_fit, widths_from, lands, landings, tables_in}
use Rattle.nodes.proofs.FirstNodes.{widths_to, widths-next, length-widths, fit-first, fit-node, landings-next, length-landings}

-- ---- one node more at the end

module _ (ws : List ℕ) (f : ℕ → Value) where
  abbrev more : Worked → Node → Worked
  more u d =
      record {
        widths = u.widths ++ (node_width ws u.widths d ∷ []);
        values = u.values ++ (node_value u.widths f u.values d ∷ []);
      }

  work-snoc : (xs : List Node) (d : Node) (w : Worked) → work_out ws f (xs ++ (d ∷ [])) w ≡ more (work_out ws f xs w) d
  unfolding work_out
  work-snoc [] d w = refl
  work-snoc (x ∷ xs) d w = work-snoc xs d (more w x)

  abbrev pub worked_to : (ℕ → Node) → ℕ → Worked
  worked_to g n = worked ws f (list_of n g)

  work-next : (g : ℕ → Node) (n : ℕ) → worked_to g (suc n) ≡ more (worked_to g n) (g n)
  unfolding list_of worked
  work-next g n = work-snoc (list_of n g) (g n) (record { widths = []; values = [] })

  pub length-worked : (g : ℕ → Node) (n : ℕ) → length (worked_to g n).values ≡ n
  unfolding list_of worked work_out
  length-worked g zero = refl
  length-worked g (suc n) =
      ap (λ (w : Worked). length w.values) (work-next g n)
      ∙ length-append (worked_to g n).values _
      ∙ rw (length-worked g n) (add-one n)

  -- The last one, and those before it.
  value-last :
      (g : ℕ → Node) (n : ℕ) →
      get_or (worked_to g (suc n)).values n nowhere ≡ node_value (worked_to g n).widths f (worked_to g n).values (g n)
  value-last g n =
      ap (λ (w : Worked). get_or w.values n nowhere) (work-next g n)
      ∙ get_or_at (worked_to g n).values _ [] nowhere n (length-worked g n)

  value_before : (g : ℕ → Node) (n a : ℕ) → a < n → get_or (worked_to g (suc n)).values a nowhere ≡ get_or (worked_to g n).values a nowhere
  value_before g n a h =
      ap (λ (w : Worked). get_or w.values a nowhere) (work-next g n)
      ∙ get_or-append (worked_to g n).values _ nowhere a (omega (arith, length-worked g n))

module _ (m : Module Expr) (g : ℕ → Node) where
  widths-worked : (f : ℕ → Value) (n : ℕ) → (worked_to m.scope.widths f g n).widths ≡ widths_to m g n
  unfolding list_of worked work_out widths_from
  widths-worked f zero = refl
  widths-worked f (suc n) =
      ap (λ (w : Worked). w.widths) (work-next m.scope.widths f g n)
      ∙ rw (widths-worked f n) (sym (widths-next m g n))

  width-before : (n a : ℕ) → a < n → get_or (widths_to m g (suc n)) a 0 ≡ get_or (widths_to m g n) a 0
  width-before n a h =
      ap (λ (w : List ℕ). get_or w a 0) (widths-next m g n)
      ∙ get_or-append (widths_to m g n) _ 0 a (omega (arith, length-widths m g n))

-- ---- what stands for a wait of thread i is worth its place

module _ (m : Module Expr) (ns : List ℕ) (f : ℕ → Value) (i : ℕ) where
  abbrev value : ℕ → ℕ → Value
  value n a = get_or (worked_to m.scope.widths f (node_at ns) n).values a nowhere

  abbrev Lands : Value → Type 0
  Lands v = (p : ℕ) × (v ≡ known p) × (is_wait (instr_at (code_of m i) p) ≡ true)

  abbrev mark : ℕ → ℕ → Bool
  mark n a = get_or (landings m i (list_of n (node_at ns)) []) a false

  pub mark-below : (n a : ℕ) → mark n a ≡ true → a < n
  mark-below n a h = by (ltb a n) refl
    where
      by : (t : Bool) → ltb a n ≡ t → a < n
      by true e = ltb-true a n e
      by false e =
          absurd-bool h
          (get_or-eq_default (landings m i (list_of n (node_at ns)) []) false
          (omega (arith, ltb-false a n e, length-landings m (node_at ns) i n)))

  picked : (t : Bool) (a b : Value) → Lands a → Lands b → Lands (pick t a b)
  picked true a b x y = x
  picked false a b x y = y

  node-lands :
      (n : ℕ) → ((a : ℕ) → mark n a ≡ true → Lands (value n a)) → (d : Node) →
      lands m i (landings m i (list_of n (node_at ns)) []) d ≡ true →
      Lands (node_value (widths_to m (node_at ns) n) f (worked_to m.scope.widths f (node_at ns) n).values d)
  unfolding lands node_value
  node-lands n r (a_variable v) h = absurd-bool h refl
  node-lands n r (a_constant w p) h = (p, refl, and_right (eqb w 8) (is_wait (instr_at (code_of m i) p)) h)
  node-lands n r (an_unknown w) h = absurd-bool h refl
  node-lands n r (a_unary o a) h = absurd-bool h refl
  node-lands n r (a_binary o a b) h = absurd-bool h refl
  node-lands n r (a_conditional c a b) h = absurd-bool h refl
  node-lands n r (a_branch c a b) h =
      picked (holds (value n c)) (value n a) (value n b) (r a (and_left (mark n a) (mark n b) h)) (r b (and_right (mark n a) (mark n b) h))

  mark-last : (n : ℕ) → mark (suc n) n ≡ lands m i (landings m i (list_of n (node_at ns)) []) (node_at ns n)
  mark-last n =
      ap (λ (l : List Bool). get_or l n false) (landings-next m (node_at ns) i n)
      ∙ get_or_at (landings m i (list_of n (node_at ns)) []) _ [] false n (length-landings m (node_at ns) i n)

  mark-before : (n a : ℕ) → a < n → mark (suc n) a ≡ mark n a
  mark-before n a h =
      ap (λ (l : List Bool). get_or l a false) (landings-next m (node_at ns) i n)
      ∙ get_or-append (landings m i (list_of n (node_at ns)) []) _ false a (omega (arith, length-landings m (node_at ns) i n))

  pub lands-worth : (n a : ℕ) → mark n a ≡ true → Lands (value n a)
  lands-worth zero a h = absurd (not-suc-le-zero (mark-below zero a h))
  lands-worth (suc n) a h = by (λ b. lands-worth n b) (below_suc n a (mark-below (suc n) a h))
    where
      last : ((b : ℕ) → mark n b ≡ true → Lands (value n b)) → mark (suc n) n ≡ true → Lands (value (suc n) n)
      last r k =
          rw (value-last m.scope.widths f (node_at ns) n, widths-worked m (node_at ns) f n)
          (node-lands n r (node_at ns n) (sym (mark-last n) ∙ k))

      by : ((b : ℕ) → mark n b ≡ true → Lands (value n b)) → Below n a → Lands (value (suc n) a)
      by r (at-end e) = rw e (last r (rw e at h))
      by r (before l) =
          rw (value_before m.scope.widths f (node_at ns) n a l) (r a (sym (mark-before n a l) ∙ h))

  -- A node that stands for a wait, as the book takes it.
  pub place-worth :
      (rs : List ℕ) (n : ℕ) → get_or (landings m i (list_of 4096 (node_at ns)) []) n false ≡ true → Lands (worth m (tables_in ns rs) f n)
  unfolding worth tables_in
  place-worth rs n h = lands-worth 4096 n h

-- ---- where the variables' values fit their widths, what a node is worth fits the node's

arms-fit :
    (us : List ℕ) (vs : List Value) → ((a : ℕ) → a < length us → fits (get_or us a 0) (get_or vs a nowhere) ≡ true) → (a b : ℕ) →
    (ltb a (length us) && (ltb b (length us) && eqb (get_or us a 0) (get_or us b 0))) ≡ true →
    (fits (get_or us a 0) (get_or vs a nowhere) ≡ true) × (fits (get_or us a 0) (get_or vs b nowhere) ≡ true)
arms-fit us vs k a b e =
    let both = and_right (ltb a (length us)) (ltb b (length us) && eqb (get_or us a 0) (get_or us b 0)) e in
    let w = eqb-true (get_or us a 0) (get_or us b 0) (and_right (ltb b (length us)) (eqb (get_or us a 0) (get_or us b 0)) both) in (
      k a (ltb-true a (length us) (and_left (ltb a (length us)) (ltb b (length us) && eqb (get_or us a 0) (get_or us b 0)) e)),
      rw w (k b (ltb-true b (length us) (and_left (ltb b (length us)) (eqb (get_or us a 0) (get_or us b 0)) both))),
    )

value-fits :
    (m : Module Expr) (us : List ℕ) (f : ℕ → Value) (vs : List Value) → Fitting m.scope f →
    ((a : ℕ) → a < length us → fits (get_or us a 0) (get_or vs a nowhere) ≡ true) → (d : Node) → node_fits m us d ≡ true →
    fits (node_width m.scope.widths us d) (node_value us f vs d) ≡ true
unfolding node_fits node_width node_value variables
value-fits m us f vs h k (a_variable v) e = h v (ltb-true v (length m.scope.widths) e)
value-fits m us f vs h k (a_constant w n) e = fits-known w n (ltb-true n (2 ^ w) (and_right (width? m w) (ltb n (2 ^ w)) e))
value-fits m us f vs h k (an_unknown w) e = fits-unknown w
value-fits m us f vs h k (a_unary o a) e = unary-fits o (get_or us a 0) (get_or vs a nowhere) (k a (ltb-true a (length us) e))
value-fits m us f vs h k (a_binary o a b) e =
    let p = arms-fit us vs k a b e in
    binary-fits o (get_or us a 0) (get_or vs a nowhere) (get_or vs b nowhere) p.0 p.1
value-fits m us f vs h k (a_conditional c a b) e =
    let p = arms-fit us vs k a b (and_right (ltb c (length us)) _ e) in
    choice-fits (get_or us a 0) (get_or vs c nowhere) (get_or vs a nowhere) (get_or vs b nowhere) p.0 p.1
value-fits m us f vs h k (a_branch c a b) e =
    let p = arms-fit us vs k a b (and_right (ltb c (length us)) _ e) in
    pick-fits (get_or us a 0) (holds (get_or vs c nowhere)) (get_or vs a nowhere) (get_or vs b nowhere) p.0 p.1

module _ (m : Module Expr) (g : ℕ → Node) (f : ℕ → Value) (h : Fitting m.scope f) where
  abbrev Fit : ℕ → ℕ → Type 0
  Fit n a = fits (get_or (widths_to m g n) a 0) (get_or (worked_to m.scope.widths f g n).values a nowhere) ≡ true

  width-last : (n : ℕ) → get_or (widths_to m g (suc n)) n 0 ≡ node_width m.scope.widths (widths_to m g n) (g n)
  width-last n =
      ap (λ (w : List ℕ). get_or w n 0) (widths-next m g n) ∙ get_or_at (widths_to m g n) _ [] 0 n (length-widths m g n)

  last_fits : (n : ℕ) → node_fits m (widths_to m g n) (g n) ≡ true → ((a : ℕ) → a < n → Fit n a) → Fit (suc n) n
  last_fits n e r =
      rw (width-last n, value-last m.scope.widths f g n, widths-worked m g f n)
      (value-fits m (widths_to m g n) f (worked_to m.scope.widths f g n).values h
      (λ a o. r a (omega (arith, length-widths m g n))) (g n) e)

  worked-fits : (n : ℕ) → nodes_fit m (list_of n g) [] ≡ true → (a : ℕ) → a < n → Fit n a
  worked-fits zero e a l = absurd (not-suc-le-zero l)
  worked-fits (suc n) e a l = by (λ b o. worked-fits n (fit-first m g (suc n) n (omega arith) e) b o) (below_suc n a l)
    where
      by : ((b : ℕ) → b < n → Fit n b) → Below n a → Fit (suc n) a
      by r (at-end u) = rw u (last_fits n (fit-node m g (suc n) n (omega arith) e) r)
      by r (before o) = rw (width-before m g n a o, value_before m.scope.widths f g n a o) (r a o)

pub worth-fits :
    (m : Module Expr) (ns rs : List ℕ) (f : ℕ → Value) → Fitting m.scope f → nodes_fit m (list_of 4096 (node_at ns)) [] ≡ true →
    (n : ℕ) → n < 4096 → fits (get_or (widths_from m (list_of 4096 (node_at ns)) []) n 0) (worth m (tables_in ns rs) f n) ≡ true
unfolding worth tables_in
worth-fits m ns rs f h fit n l = worked-fits m (node_at ns) f h 4096 fit n l
