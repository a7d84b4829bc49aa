-- Laws of the lists of a module by the tests of the code. Assumes nothing.
use mathlib.Core.Path.{◌≡◌, refl, sym, ap, ◌∙◌}
use mathlib.Core.Bool.{Bool, true, false}
use mathlib.Core.List.{List}
use Prim.Native.Nat.{ℕ, zero, suc, ◌-◌, ◌<◌, ◌≤◌}
use borrow.Author.Tests.{ne_eqb}
use native.Mathlib.Numerals.{sub-one}
use native.Mathlib.Omega.{arith}
use Rattle.values.specs.Values.{pick}
use Rattle.verilog_exprs.specs.declared.Put.{Put}
use Rattle.verilog_exprs.specs.Rows.{row_at, answer, wrote, expected}
use Rattle.verilog_stmts.specs.Steps.{refused, after, is_next}
use Rattle.verilog_stmts.specs.Stmts.{value}
use Rattle.verilog_stmts.specs.Written.{statement_in}
use Rattle.verilog_stmts.proofs.Picks.{taken, left}
use Rattle.verilog_items.specs.Notes.{marked, Marks, marks, Notes, notes}
use Rattle.verilog_items.specs.Items.{stay, passed, refused_in, note_name, name_and, further_names, names, in_text, moved, declaration, heading, ended}
use Rattle.verilog_items.specs.Items.{rewound, target, target_and, further_targets, targets, assigns, statement_from, thread, item, item_by, end_or, items, item_list, module_in, read_in}

-- ---- names

names-step : (ks : List ℕ) (role width t : ℕ) (s : Marks) → 0 < t
    → names ks role width t s
    ≡ pick (is_next ks 64 s.put) (λ u. name_and ks (names ks role width (t - 1)) (note_name role width u)) (passed refused) s
unfolding names
names-step ks role width zero s l = absurd (omega (arith, l))
names-step ks role width (suc t) s l = rw sub-one refl

module _ (ks : List ℕ) (role width t : ℕ) (p : Put) (rs ws : List ℕ) where
  pub names-none : t ≤ 0 → {q : Put} → q ≡ refused p → marks q rs ws ≡ names ks role width t (marks p rs ws)
  unfolding names
  names-none l e = let k : t ≡ 0 = omega arith in rw (k, e) refl

  module _ (l : 0 < t) {r : Bool} (x : r ≡ is_next ks 64 p) where
    pub names-stop : r ≡ false → {q : Put} → q ≡ refused p → marks q rs ws ≡ names ks role width t (marks p rs ws)
    unfolding names
    names-stop f e = let k : t ≡ suc (t - 1) = omega arith in rw (k, sym x ∙ f, e) refl

    module _ (h : r ≡ true) {q : Put} {us vs : List ℕ} (a : us ≡ marked p.next role rs) (b : vs ≡ marked p.next width ws)
        (e : q ≡ after p) {c : Bool} (y : c ≡ is_next ks 26 q) where
      pub names-last : c ≡ false → marks q us vs ≡ names ks role width t (marks p rs ws)
      unfolding names name_and note_name
      names-last f =
          let k : t ≡ suc (t - 1) = omega arith in
          let z : is_next ks 26 (after p) ≡ false = ap (λ m. is_next ks 26 m) (sym e) ∙ sym y ∙ f in
          rw (k, sym x ∙ h, z, a, b, e) refl

      pub names_more : c ≡ true → {n : Put} → n ≡ after q → names ks role width (t - 1) (marks n us vs) ≡ names ks role width t (marks p rs ws)
      unfolding name_and note_name further_names
      names_more f d =
          let z : is_next ks 26 (after p) ≡ true = ap (λ m. is_next ks 26 m) (sym e) ∙ sym y ∙ f in
          rw (d, e, a, b) (rw (names-step ks role width t (marks p rs ws) l, sym x ∙ h, z) refl)

-- ---- targets

module _ (ks ns : List ℕ) (count : ℕ) (p : Put) (bs rs ws : List ℕ) {us : List ℕ} where
  pub target-whole : us ≡ marked p.next 4 rs → {a b c q : Put} {cs : List ℕ} → a ≡ after p → b ≡ expected ks 28 a → c ≡ rewound b
      → wrote q cs ≡ value ks ns count (wrote c bs)
      → notes (wrote q cs) us ws ≡ target ks ns count (notes (wrote p bs) rs ws)
  unfolding target
  target-whole u e f g v = rw u (ap (λ t. notes t (marked p.next 4 rs) ws) (rw (g, f, e) at v))

  pub thread-whole : us ≡ marked p.next 5 rs → {a c q : Put} {cs : List ℕ} {m n : ℕ} → a ≡ after p → c ≡ rewound a
      → m ≡ count - c.next → n ≡ m → wrote q cs ≡ statement_in ks ns count n (wrote c bs)
      → notes (wrote q cs) us ws ≡ thread ks ns count (notes (wrote p bs) rs ws)
  unfolding thread statement_from
  thread-whole u e f g h v = rw u (ap (λ t. notes t (marked p.next 5 rs) ws) (rw (h, g, f, e) at v))

targets-step : (ks ns : List ℕ) (count t : ℕ) (s : Notes) → 0 < t
    → targets ks ns count t s
    ≡ pick (is_next ks 64 s.text.put) (λ u. target_and ks ns count (targets ks ns count (t - 1)) (target ks ns count u)) refused_in s
unfolding targets
targets-step ks ns count zero s l = absurd (omega (arith, l))
targets-step ks ns count (suc t) s l = rw sub-one refl

module _ (ks ns : List ℕ) (count t : ℕ) (p : Put) (bs rs ws : List ℕ) where
  pub targets-none : t ≤ 0 → {q : Put} → q ≡ refused p → notes (wrote q bs) rs ws ≡ targets ks ns count t (notes (wrote p bs) rs ws)
  unfolding targets
  targets-none l e = let k : t ≡ 0 = omega arith in rw (k, e) refl

  module _ (l : 0 < t) {r : Bool} (x : r ≡ is_next ks 64 p) where
    pub targets-stop : r ≡ false → {q : Put} → q ≡ refused p
        → notes (wrote q bs) rs ws ≡ targets ks ns count t (notes (wrote p bs) rs ws)
    unfolding targets
    targets-stop f e = let k : t ≡ suc (t - 1) = omega arith in rw (k, sym x ∙ f, e) refl

    module _ (h : r ≡ true) {q : Put} {cs us : List ℕ} (e : notes (wrote q cs) us ws ≡ target ks ns count (notes (wrote p bs) rs ws))
        {c : Bool} (y : c ≡ is_next ks 26 q) where
      pub targets-last : c ≡ false → notes (wrote q cs) us ws ≡ targets ks ns count t (notes (wrote p bs) rs ws)
      unfolding targets target_and
      targets-last f = let k : t ≡ suc (t - 1) = omega arith in rw (k, sym x ∙ h, ← e, sym y ∙ f) refl

      pub targets-more : c ≡ true → {n : Put} → n ≡ after q
          → targets ks ns count (t - 1) (notes (wrote n cs) us ws) ≡ targets ks ns count t (notes (wrote p bs) rs ws)
      unfolding target_and further_targets
      targets-more f d = rw d (rw (targets-step ks ns count t (notes (wrote p bs) rs ws) l, sym x ∙ h, ← e, sym y ∙ f) refl)

module _ (ks ns : List ℕ) (count : ℕ) (p : Put) (bs rs ws : List ℕ) {q : Put} (d : q ≡ after p) (m : Put) {cs us : List ℕ} where
  pub assigns-whole : notes (wrote m cs) us ws ≡ targets ks ns count (count - q.next) (notes (wrote q bs) rs ws)
      → {n : Put} → n ≡ expected ks 25 m → notes (wrote n cs) us ws ≡ assigns ks ns count (notes (wrote p bs) rs ws)
  unfolding assigns
  assigns-whole e f =
      rw f (ap (λ s. in_text (moved (expected ks 25)) s)
      (e ∙ ap (λ x. targets ks ns count (count - x.next) (notes (wrote x bs) rs ws)) d))

  -- A refusal stays where it was met.
  pub assigns-refused : notes (wrote (refused m) cs) us ws ≡ targets ks ns count (count - q.next) (notes (wrote q bs) rs ws)
      → {n : Put} → n ≡ refused m → notes (wrote n cs) us ws ≡ assigns ks ns count (notes (wrote p bs) rs ws)
  unfolding assigns refused expected
  assigns-refused e f =
      rw f (ap (λ s. in_text (moved (expected ks 25)) s)
      (e ∙ ap (λ x. targets ks ns count (count - x.next) (notes (wrote x bs) rs ws)) d))

-- ---- an item by its first word

module _ (ks ns : List ℕ) (count : ℕ) (p : Put) (bs rs ws : List ℕ) {m : ℕ} (t : m ≡ row_at ks p.next) where
  pub item-input : m ≡ 3 → {q : Put} {us vs : List ℕ} → marks q us vs ≡ declaration ks ns count 1 (marks p rs ws)
      → notes (wrote q bs) us vs ≡ item ks ns count (notes (wrote p bs) rs ws)
  unfolding item item_by
  item-input e x = rw (← t, e) (ap (λ y. notes (wrote y.put bs) y.roles y.widths) x)

  pub item-register : m ≡ 4 → {q : Put} {us vs : List ℕ} → marks q us vs ≡ declaration ks ns count 2 (marks p rs ws)
      → notes (wrote q bs) us vs ≡ item ks ns count (notes (wrote p bs) rs ws)
  unfolding item item_by
  item-register e x = rw (← t, e) (ap (λ y. notes (wrote y.put bs) y.roles y.widths) x)

  pub item-wire : m ≡ 5 → {q : Put} {us vs : List ℕ} → marks q us vs ≡ declaration ks ns count 3 (marks p rs ws)
      → notes (wrote q bs) us vs ≡ item ks ns count (notes (wrote p bs) rs ws)
  unfolding item item_by
  item-wire e x = rw (← t, e) (ap (λ y. notes (wrote y.put bs) y.roles y.widths) x)

  pub item-assign : m ≡ 6 → {z : Notes} → z ≡ assigns ks ns count (notes (wrote p bs) rs ws)
      → z ≡ item ks ns count (notes (wrote p bs) rs ws)
  unfolding item item_by
  item-assign e x = rw (← t, e) x

  pub item-always : m ≡ 7 → {z : Notes} → z ≡ thread ks ns count (notes (wrote p bs) rs ws)
      → z ≡ item ks ns count (notes (wrote p bs) rs ws)
  unfolding item item_by
  item-always e x = rw (← t, e) x

  pub item-none : (m ≡ 3 → ⊥) → (m ≡ 4 → ⊥) → (m ≡ 5 → ⊥) → (m ≡ 6 → ⊥) → (m ≡ 7 → ⊥) → {q : Put} → q ≡ refused p
      → notes (wrote q bs) rs ws ≡ item ks ns count (notes (wrote p bs) rs ws)
  unfolding item item_by
  item-none a b c d e x = rw (← t, ne_eqb _ _ a, ne_eqb _ _ b, ne_eqb _ _ c, ne_eqb _ _ d, ne_eqb _ _ e, x) refl

-- ---- items

items-step : (ks ns : List ℕ) (count t : ℕ) (s : Notes) → 0 < t
    → items ks ns count t s ≡ pick s.text.put.ok (end_or ks ns count (items ks ns count (t - 1))) stay s
unfolding items
items-step ks ns count zero s l = absurd (omega (arith, l))
items-step ks ns count (suc t) s l = rw sub-one refl

module _ (ks ns : List ℕ) (count t : ℕ) (p : Put) (bs rs ws : List ℕ) where
  pub items-none : t ≤ 0 → {q : Put} → q ≡ refused p → notes (wrote q bs) rs ws ≡ items ks ns count t (notes (wrote p bs) rs ws)
  unfolding items
  items-none l e = let k : t ≡ 0 = omega arith in rw (k, e) refl

  module _ (l : 0 < t) where
    pub items-failed : p.ok ≡ false → notes (wrote p bs) rs ws ≡ items ks ns count t (notes (wrote p bs) rs ws)
    items-failed f = rw (items-step ks ns count t (notes (wrote p bs) rs ws) l) (left _ stay refl f refl)

    module _ (h : p.ok ≡ true) {r : Bool} (x : r ≡ is_next ks 2 p) where
      pub items-end : r ≡ true → {q : Put} → q ≡ after p → notes (wrote q bs) rs ws ≡ items ks ns count t (notes (wrote p bs) rs ws)
      unfolding end_or
      items-end f e =
          rw (items-step ks ns count t (notes (wrote p bs) rs ws) l)
          (taken _ stay refl h (taken (in_text (moved after)) _ x f (rw e refl)))

      pub items_more : r ≡ false → {q : Put} {cs us vs : List ℕ}
          → notes (wrote q cs) us vs ≡ item ks ns count (notes (wrote p bs) rs ws)
          → items ks ns count (t - 1) (notes (wrote q cs) us vs) ≡ items ks ns count t (notes (wrote p bs) rs ws)
      unfolding end_or
      items_more f e =
          rw (items-step ks ns count t (notes (wrote p bs) rs ws) l)
          (taken _ stay refl h (left (in_text (moved after)) _ x f (ap (λ s. items ks ns count (t - 1) s) e)))

-- ---- a module

module _ (ks ns : List ℕ) (count : ℕ) (bs rs ws : List ℕ) {h : Put} {us vs : List ℕ}
    (e : marks h us vs ≡ heading ks count (marks (answer true 0 0) rs ws)) where
  pub read_whole : {m : Put} {cs xs ys : List ℕ} → notes (wrote m cs) xs ys ≡ item_list ks ns count (notes (wrote h bs) us vs)
      → {q : Put} → q ≡ ended ks m → notes (wrote q cs) xs ys ≡ read_in ks ns count bs rs ws
  unfolding read_in module_in
  read_whole f g =
      rw g (ap (λ s. in_text (moved (ended ks)) s)
      (f ∙ ap (λ y. item_list ks ns count (notes (wrote y.put bs) y.roles y.widths)) e))
