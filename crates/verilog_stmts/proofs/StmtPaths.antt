-- Laws of the statements' definitions by the tests of the code.
-- Assumes nothing.
use mathlib.Core.Path.{◌≡◌, refl}
use mathlib.Core.Bool.{Bool, true, false}
use mathlib.Core.List.{List, [], ◌∷◌}
use Prim.Native.Nat.{ℕ, zero, suc, ◌-◌}
use native.Mathlib.Numerals.{sub-one}
use borrow.Author.Tests.{ne_eqb}
use Rattle.values.specs.Values.{pick}
use Rattle.verilog_exprs.specs.declared.Put.{Put}
use Rattle.verilog_exprs.specs.Rows.{row_at, wrote, expected}
use Rattle.verilog_stmts.specs.declared.Case.{Case}
use Rattle.verilog_stmts.specs.Steps.{State, moved, refused, after, is_next, write, front, stamped, stamp_at}
use Rattle.verilog_stmts.specs.Events.{control}
use Rattle.verilog_stmts.specs.Stmts
use Rattle.verilog_stmts.specs.Stmts.{stay, opened, tested, closed_at, case_end}
use Rattle.verilog_stmts.proofs.Picks.{taken, left, behind, onward}

module _ (ks ns : List ℕ) (count : ℕ) (expr label : State → State) where
  first : (inner : State → State) (p : Put) (bs : List ℕ) {q a c b : Put} {bs1 bs2 bs3 : List ℕ} → q ≡ after p
      → wrote a bs1 ≡ write (0x06 ∷ []) (wrote q bs) → wrote c bs2 ≡ Stmts.condition ks ns count expr label (wrote a bs1)
      → wrote b bs3 ≡ Stmts.or_null ks ns count expr label inner (wrote c bs2)
      → wrote b bs3 ≡ Stmts.or_null ks ns count expr label inner
      (Stmts.condition ks ns count expr label (write (0x06 ∷ []) (wrote (after p) bs)))
  first inner p bs e w d o = behind (λ s. Stmts.or_null ks ns count expr label inner s)
      (behind (λ s. Stmts.condition ks ns count expr label s) (rw e at w) d) o

  module _ (inner : State → State) (p : Put) (bs : List ℕ) {z : State} where
    -- ---- a statement or `;`

    pub null-taken : {r : Bool} {q : Put} → r ≡ is_next ks 25 p → r ≡ true → q ≡ after p → z ≡ write (0x00 ∷ []) (wrote q bs)
        → z ≡ Stmts.or_null ks ns count expr label inner (wrote p bs)
    unfolding Stmts.or_null Stmts.null
    null-taken t h e x = taken (Stmts.null ks ns count expr label) inner t h (rw e at x)

    pub null-left : {r : Bool} → r ≡ is_next ks 25 p → r ≡ false → z ≡ inner (wrote p bs)
        → z ≡ Stmts.or_null ks ns count expr label inner (wrote p bs)
    unfolding Stmts.or_null
    null-left t h x = left (Stmts.null ks ns count expr label) inner t h x

    -- ---- if

    module _ {q a c b : Put} {bs1 bs2 bs3 : List ℕ} (e : q ≡ after p) (w : wrote a bs1 ≡ write (0x06 ∷ []) (wrote q bs))
        (d : wrote c bs2 ≡ Stmts.condition ks ns count expr label (wrote a bs1))
        (o : wrote b bs3 ≡ Stmts.or_null ks ns count expr label inner (wrote c bs2)) {r : Bool} (t : r ≡ is_next ks 11 b) where
      pub if-else : {u : Put} {bs4 : List ℕ} → r ≡ true → bs4 ≡ stamped 0x0E p.pos bs3 → u ≡ after b
          → z ≡ Stmts.or_null ks ns count expr label inner (wrote u bs4)
          → z ≡ Stmts.conditional ks ns count expr label inner (wrote p bs)
      unfolding Stmts.conditional Stmts.or_else Stmts.else_part stamp_at
      if-else h f g x = behind (λ s. Stmts.or_else ks ns count expr label inner p.pos s) (first inner p bs e w d o)
          (taken (Stmts.else_part ks ns count expr label inner p.pos) stay t h (rw (← f, ← g) x))

      pub if-only : r ≡ false → z ≡ wrote b bs3 → z ≡ Stmts.conditional ks ns count expr label inner (wrote p bs)
      unfolding Stmts.conditional Stmts.or_else
      if-only h x = behind (λ s. Stmts.or_else ks ns count expr label inner p.pos s) (first inner p bs e w d o)
          (left (Stmts.else_part ks ns count expr label inner p.pos) stay t h x)

    -- ---- blocks

    module _ (g from : ℕ) where
      pub rest-none : g ≡ 0 → z ≡ wrote (refused p) bs → z ≡ Stmts.block_rest ks ns count expr label inner g from (wrote p bs)
      unfolding Stmts.block_rest
      rest-none e x = rw e x

      rest_more : (n : ℕ) → (n ≡ 0 → ⊥)
          → z ≡ pick p.ok (Stmts.block_by ks ns count expr label inner (Stmts.block_rest ks ns count expr label inner (n - 1)) from) stay
          (wrote p bs)
          → z ≡ Stmts.block_rest ks ns count expr label inner n from (wrote p bs)
      unfolding Stmts.block_rest
      rest_more zero k x = absurd (k refl)
      rest_more (suc n) k x = rw sub-one at x

      pub rest-failed : (g ≡ 0 → ⊥) → p.ok ≡ false → z ≡ wrote p bs
          → z ≡ Stmts.block_rest ks ns count expr label inner g from (wrote p bs)
      rest-failed k f x = rest_more g k (left _ stay refl f x)

      module _ (k : g ≡ 0 → ⊥) (f : p.ok ≡ true) {r : Bool} (t : r ≡ is_next ks 9 p) where
        pub rest_end : r ≡ true → z ≡ wrote (after p) bs → z ≡ Stmts.block_rest ks ns count expr label inner g from (wrote p bs)
        unfolding Stmts.block_by
        rest_end h x = rest_more g k (taken _ stay refl f (taken (moved after) _ t h x))

        pub rest-again : {a b : Put} {bs1 bs2 : List ℕ} → r ≡ false → wrote a bs1 ≡ front 0x0C from (wrote p bs) → wrote b bs2 ≡ inner
            (wrote a bs1)
            → z ≡ Stmts.block_rest ks ns count expr label inner (g - 1) a.pos (wrote b bs2)
            → z ≡ Stmts.block_rest ks ns count expr label inner g from (wrote p bs)
        unfolding Stmts.block_by Stmts.block_more Stmts.block_next
        rest-again {a} h w y x = rest_more g k (taken _ stay refl f (left (moved after) _ t h
            (behind (λ s. Stmts.block_next ks ns count expr label inner (Stmts.block_rest ks ns count expr label inner (g - 1)) s) w
            (behind (λ s. Stmts.block_rest ks ns count expr label inner (g - 1) a.pos s) y x))))

    module _ {g : ℕ} (e : g ≡ count - p.next) where
      pub block_none : g ≡ 0 → z ≡ wrote (refused p) bs → z ≡ Stmts.block ks ns count expr label inner (wrote p bs)
      unfolding Stmts.block Stmts.block_first
      block_none h x = rw (← e, h) x

      block-more : (n : ℕ) → (n ≡ 0 → ⊥)
          → z ≡ pick (is_next ks 9 p) (Stmts.null ks ns count expr label)
          (Stmts.block_next ks ns count expr label inner (Stmts.block_rest ks ns count expr label inner (n - 1))) (wrote p bs)
          → z ≡ Stmts.block_first ks ns count expr label inner n (wrote p bs)
      unfolding Stmts.block_first
      block-more zero k x = absurd (k refl)
      block-more (suc n) k x = rw sub-one at x

      module _ (k : g ≡ 0 → ⊥) {r : Bool} (t : r ≡ is_next ks 9 p) where
        pub block-empty : {q : Put} → r ≡ true → q ≡ after p → z ≡ write (0x00 ∷ []) (wrote q bs) → z
            ≡ Stmts.block ks ns count expr label inner (wrote p bs)
        unfolding Stmts.block Stmts.null
        block-empty h w x = rw (← e) (block-more g k (taken (Stmts.null ks ns count expr label) _ t h (rw w at x)))

        pub block-first : {b : Put} {bs1 : List ℕ} → r ≡ false → wrote b bs1 ≡ inner (wrote p bs)
            → z ≡ Stmts.block_rest ks ns count expr label inner (g - 1) p.pos (wrote b bs1)
            → z ≡ Stmts.block ks ns count expr label inner (wrote p bs)
        unfolding Stmts.block Stmts.block_next
        block-first h w x = rw (← e) (block-more g k (left (Stmts.null ks ns count expr label) _ t h
            (behind (λ s. Stmts.block_rest ks ns count expr label inner (g - 1) p.pos s) w x)))

    -- ---- case

    module _ {a : Put} (e : a ≡ after p) {r : Bool} (t : r ≡ is_next ks 24 a) where
      pub default-colon : {q : Put} → r ≡ true → q ≡ after a → z ≡ Stmts.or_null ks ns count expr label inner (wrote q bs)
          → z ≡ Stmts.defaulted ks ns count expr label inner (wrote p bs)
      unfolding Stmts.defaulted Stmts.colon
      default-colon h f x = rw (← e, ← t, h, ← f) x

      pub default-plain : r ≡ false → z ≡ Stmts.or_null ks ns count expr label inner (wrote a bs)
          → z ≡ Stmts.defaulted ks ns count expr label inner (wrote p bs)
      unfolding Stmts.defaulted Stmts.colon
      default-plain h x = rw (← e, ← t, h) x

    pub label-path : (i : ℕ) {a l b : Put} {bs1 bs2 : List ℕ} → wrote a bs1 ≡ Stmts.heading ks ns count expr label i (wrote p bs)
        → wrote l bs2 ≡ label (wrote a bs1)
        → b ≡ expected ks 24 l → z ≡ Stmts.or_null ks ns count expr label inner (wrote b bs2)
        → z ≡ Stmts.labelled ks ns count expr label inner i (wrote p bs)
    unfolding Stmts.labelled
    label-path i w y e x = behind (λ s. Stmts.or_null ks ns count expr label inner s)
        (onward (expected ks 24) e (behind (λ s. label s) w y)) x

    module _ (rest : Case → State → State) (c : Case) {r : Bool} (t : r ≡ is_next ks 13 p) where
      pub items-end : r ≡ true → z ≡ case_end c (wrote p bs) → z ≡ Stmts.items_behind ks ns count expr label inner rest c (wrote p bs)
      unfolding Stmts.items_behind
      items-end h x = taken (case_end c) (rest c) t h x

      pub items_more : r ≡ false → z ≡ rest c (wrote p bs) → z ≡ Stmts.items_behind ks ns count expr label inner rest c (wrote p bs)
      unfolding Stmts.items_behind
      items_more h x = left (case_end c) (rest c) t h x

    module _ (g : ℕ) (c : Case) where
      pub items-none : g ≡ 0 → z ≡ wrote (refused p) bs → z ≡ Stmts.case_items ks ns count expr label inner g c (wrote p bs)
      unfolding Stmts.case_items
      items-none e x = rw e x

      items-step : (n : ℕ) → (n ≡ 0 → ⊥)
          → z ≡ pick p.ok (Stmts.case_item ks ns count expr label inner (Stmts.case_items ks ns count expr label inner (n - 1)) c) stay
          (wrote p bs)
          → z ≡ Stmts.case_items ks ns count expr label inner n c (wrote p bs)
      unfolding Stmts.case_items
      items-step zero k x = absurd (k refl)
      items-step (suc n) k x = rw sub-one at x

      pub items-failed : (g ≡ 0 → ⊥) → p.ok ≡ false → z ≡ wrote p bs → z ≡ Stmts.case_items ks ns count expr label inner g c (wrote p bs)
      items-failed k f x = items-step g k (left _ stay refl f x)

      module _ (k : g ≡ 0 → ⊥) (f : p.ok ≡ true) {r : Bool} (t : r ≡ is_next ks 14 p) where
        pub item-second : r ≡ true → c.closed ≡ true → z ≡ wrote (refused p) bs → z ≡ Stmts.case_items ks ns count expr label inner g c
            (wrote p bs)
        unfolding Stmts.case_item Stmts.case_default
        item-second h d x = items-step g k
            (taken _ stay refl f (taken
            (Stmts.case_default ks ns count expr label inner (Stmts.case_items ks ns count expr label inner (g - 1)) c) _ t h (rw d x)))

        pub item-default : {d : Put} {bs1 : List ℕ} → r ≡ true → c.closed ≡ false → wrote d bs1
            ≡ Stmts.defaulted ks ns count expr label inner (wrote p bs)
            → z ≡ Stmts.items_behind ks ns count expr label inner (Stmts.case_items ks ns count expr label inner (g - 1))
            (closed_at c p.pos d.pos) (wrote d bs1)
            → z ≡ Stmts.case_items ks ns count expr label inner g c (wrote p bs)
        unfolding Stmts.case_item Stmts.case_default Stmts.first_default Stmts.closing
        item-default h d w x = items-step g k
            (taken _ stay refl f (taken
            (Stmts.case_default ks ns count expr label inner (Stmts.case_items ks ns count expr label inner (g - 1)) c) _ t h
            (rw d (behind (λ s. Stmts.closing ks ns count expr label inner (Stmts.case_items ks ns count expr label inner (g - 1)) c
            p.pos s) w x))))

        pub item-label : {l : Put} {bs1 : List ℕ} → r ≡ false → wrote l bs1 ≡ Stmts.labelled ks ns count expr label inner c.subject
            (wrote p bs)
            → z ≡ Stmts.items_behind ks ns count expr label inner (Stmts.case_items ks ns count expr label inner (g - 1))
            (tested c p.pos) (wrote l bs1)
            → z ≡ Stmts.case_items ks ns count expr label inner g c (wrote p bs)
        unfolding Stmts.case_item Stmts.case_label
        item-label h w x = items-step g k
            (taken _ stay refl f (left
            (Stmts.case_default ks ns count expr label inner (Stmts.case_items ks ns count expr label inner (g - 1)) c) _ t h
            (behind (λ s. Stmts.items_behind ks ns count expr label inner (Stmts.case_items ks ns count expr label inner (g - 1))
            (tested c p.pos) s) w x)))

    pub case-path : {a b c : Put} {bs1 : List ℕ} {g : ℕ} → a ≡ after p → b ≡ after a → wrote c bs1 ≡ Stmts.subject ks ns count expr label
        (wrote a bs)
        → g ≡ count - c.next → z ≡ Stmts.case_items ks ns count expr label inner g (opened b.next) (wrote c bs1)
        → z ≡ Stmts.case_statement ks ns count expr label inner (wrote p bs)
    unfolding Stmts.case_statement Stmts.case_body
    case-path {b = b} e f w h x = rw (← e, ← f) (behind (λ s. Stmts.case_body ks ns count expr label inner b.next s) w (rw h at x))

  -- ---- statements

  module _ (p : Put) (bs : List ℕ) {z : State} (f : ℕ) where
    pub stmt-none : f ≡ 0 → z ≡ wrote (refused p) bs → z ≡ Stmts.statement_at ks ns count expr label f (wrote p bs)
    unfolding Stmts.statement_at
    stmt-none e x = rw e x

    stmt-step : (n : ℕ) → (n ≡ 0 → ⊥)
        → z ≡ pick p.ok (Stmts.statement_by ks ns count expr label (Stmts.statement_at ks ns count expr label (n - 1))
        (row_at ks p.next)) stay (wrote p bs)
        → z ≡ Stmts.statement_at ks ns count expr label n (wrote p bs)
    unfolding Stmts.statement_at
    stmt-step zero k x = absurd (k refl)
    stmt-step (suc n) k x = rw sub-one at x

    pub stmt-failed : (f ≡ 0 → ⊥) → p.ok ≡ false → z ≡ wrote p bs → z ≡ Stmts.statement_at ks ns count expr label f (wrote p bs)
    stmt-failed k o x = stmt-step f k (left _ stay refl o x)

    module _ (k : f ≡ 0 → ⊥) (o : p.ok ≡ true) {m : ℕ} (t : m ≡ row_at ks p.next) where
      by_kind : z ≡ Stmts.statement_by ks ns count expr label (Stmts.statement_at ks ns count expr label (f - 1)) m (wrote p bs)
          → z ≡ Stmts.statement_at ks ns count expr label f (wrote p bs)
      by_kind x = stmt-step f k (taken _ stay refl o (rw (← t) x))

      pub stmt-if : m ≡ 10 → z ≡ Stmts.conditional ks ns count expr label (Stmts.statement_at ks ns count expr label (f - 1)) (wrote p bs)
          → z ≡ Stmts.statement_at ks ns count expr label f (wrote p bs)
      unfolding Stmts.statement_by
      stmt-if e x = by_kind (rw e x)

      pub stmt-case : m ≡ 12 → z ≡ Stmts.case_statement ks ns count expr label (Stmts.statement_at ks ns count expr label (f - 1))
          (wrote p bs)
          → z ≡ Stmts.statement_at ks ns count expr label f (wrote p bs)
      unfolding Stmts.statement_by
      stmt-case e x = by_kind (rw e x)

      pub stmt-while : {q a c : Put} {bs1 bs2 : List ℕ} → m ≡ 15 → q ≡ after p → wrote a bs1 ≡ write (0x46 ∷ []) (wrote q bs)
          → wrote c bs2 ≡ Stmts.condition ks ns count expr label (wrote a bs1)
          → z ≡ Stmts.statement_at ks ns count expr label (f - 1) (wrote c bs2)
          → z ≡ Stmts.statement_at ks ns count expr label f (wrote p bs)
      unfolding Stmts.statement_by Stmts.while_loop
      stmt-while e i w d x = by_kind (rw e (behind (λ s. Stmts.statement_at ks ns count expr label (f - 1) s)
          (behind (λ s. Stmts.condition ks ns count expr label s) (rw i at w) d) x))

      pub stmt-forever : {q a : Put} {bs1 : List ℕ} → m ≡ 16 → q ≡ after p → wrote a bs1 ≡ write (0x44 ∷ []) (wrote q bs)
          → z ≡ Stmts.statement_at ks ns count expr label (f - 1) (wrote a bs1)
          → z ≡ Stmts.statement_at ks ns count expr label f (wrote p bs)
      unfolding Stmts.statement_by Stmts.forever_loop
      stmt-forever e i w x = by_kind (rw e (behind (λ s. Stmts.statement_at ks ns count expr label (f - 1) s) (rw i at w) x))

      pub stmt-wait : {c : Put} {bs1 : List ℕ} → m ≡ 27 → wrote c bs1 ≡ control ks ns count (wrote p bs)
          → z ≡ Stmts.or_null ks ns count expr label (Stmts.statement_at ks ns count expr label (f - 1)) (wrote c bs1)
          → z ≡ Stmts.statement_at ks ns count expr label f (wrote p bs)
      unfolding Stmts.statement_by Stmts.timing
      stmt-wait e w x = by_kind
          (rw e (behind (λ s. Stmts.or_null ks ns count expr label (Stmts.statement_at ks ns count expr label (f - 1)) s) w x))

      pub stmt-block : {q : Put} → m ≡ 8 → q ≡ after p → z ≡ Stmts.block ks ns count expr label
          (Stmts.statement_at ks ns count expr label (f - 1)) (wrote q bs)
          → z ≡ Stmts.statement_at ks ns count expr label f (wrote p bs)
      unfolding Stmts.statement_by
      stmt-block e i x = by_kind (rw (e, ← i) x)

      pub stmt-assign : (m ≡ 10 → ⊥) → (m ≡ 12 → ⊥) → (m ≡ 15 → ⊥) → (m ≡ 16 → ⊥) → (m ≡ 27 → ⊥) → (m ≡ 8 → ⊥)
          → z ≡ Stmts.assignment ks ns count expr label (wrote p bs) → z ≡ Stmts.statement_at ks ns count expr label f (wrote p bs)
      unfolding Stmts.statement_by
      stmt-assign a b c d e g x =
          by_kind (rw (ne_eqb _ _ a, ne_eqb _ _ b, ne_eqb _ _ c, ne_eqb _ _ d, ne_eqb _ _ e, ne_eqb _ _ g) x)
