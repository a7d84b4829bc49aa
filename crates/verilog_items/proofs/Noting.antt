-- Laws of what the tables of roles and widths note: over a token that is noted, and over tokens that aren't. Assumes nothing.
use mathlib.Core.Path.{◌≡◌, refl, sym, ap, ◌∙◌, subst}
use mathlib.Core.Bool.{Bool, true, false}
use mathlib.Core.List.{List, [], ◌∷◌, ◌++◌, append-nil}
use Prim.Native.Nat.{ℕ, zero, suc, ◌+◌, ◌-◌, ◌<◌, ◌≤◌}
use native.Mathlib.Omega.{arith}
use lib.Dec.{ltb, eqb}
use lib.ListN.{length, get_or, set, length-set}
use lib.Seq.{get_or-set_same, get_or-set_other}
use borrow.Author.Tests.{lt-ltb, ltb-true, ltb-false, ne_eqb}
use Rattle.values.specs.Values.{pick}
use Rattle.verilog_tokens.specs.Tokens.{Token}
use Rattle.verilog_grammar.specs.Meaning.{Kind, an_input, a_register, a_wire}
use Rattle.verilog_exprs.specs.declared.Put.{Put}
use Rattle.verilog_exprs.specs.Following.{From}
use Rattle.verilog_exprs.proofs.Follows.{from_next}
use Rattle.verilog_stmts.specs.Steps.{after}
use Rattle.verilog_names.specs.Chosen.{here, chosen}
use Rattle.verilog_names.specs.Tables.{Along, none, next}
use Rattle.verilog_names.specs.Entries
use Rattle.verilog_names.specs.Entries.{Entry, variable, target, thread, role_of, is_noted, declaring, driving, running}
use Rattle.verilog_names.proofs.Chosen.{here_in, here_out, chosen-next}
use Rattle.verilog_names.proofs.Standing.{along-append}
use Rattle.verilog_items.specs.Notes.{marked, Marks, marks}
use Rattle.verilog_items.specs.Following.{Good}

-- ---- marked

module _ (i b : ℕ) (xs : List ℕ) where
  pub marked-long : length (marked i b xs) ≡ length xs
  unfolding marked
  marked-long = by (ltb i 16385)
    where
      by : (t : Bool) → length (pick t (set xs i b) xs) ≡ length xs
      by true = length-set xs i b
      by false = refl

  pub marked-here : i < 16385 → length xs ≡ 16385 → get_or (marked i b xs) i 0 ≡ b
  unfolding marked
  marked-here h e = rw (lt-ltb i 16385 h) (get_or-set_same xs i b 0 (omega arith))

  pub marked_other : (k : ℕ) → (k ≡ i → ⊥) → get_or (marked i b xs) k 0 ≡ get_or xs k 0
  unfolding marked
  marked_other k f = by (ltb i 16385)
    where
      by : (t : Bool) → get_or (pick t (set xs i b) xs) k 0 ≡ get_or xs k 0
      by true = get_or-set_other xs i k b 0 f
      by false = refl

-- ---- chosen

chosen-agree : (f g : ℕ → Bool) (n j : ℕ) → ((k : ℕ) → k < j + n → f k ≡ g k) → chosen f n j ≡ chosen g n j
unfolding chosen here
chosen-agree f g zero j e = refl
chosen-agree f g (suc n) j e = rw (e j (omega arith), chosen-agree f g n (j + 1) (λ k h. e k (omega arith)))

-- Where no more are taken.
chosen-clear : (f : ℕ → Bool) (i d : ℕ) → ((k : ℕ) → i ≤ k → f k ≡ false) → chosen f (i + d) 0 ≡ chosen f i 0
chosen-clear f i zero e = ap (λ k. chosen f k 0) {x = i + 0} {y = i} (omega arith)
chosen-clear f i (suc d) e =
    ap (λ k. chosen f k 0) {x = i + suc d} {y = i + d + 1} (omega arith) ∙ chosen-next f (i + d)
    ∙ ap (λ l. chosen f (i + d) 0 ++ l) (here_out f (i + d) (e (i + d) (omega arith))) ∙ append-nil (chosen f (i + d) 0)
    ∙ chosen-clear f i d e

along-map : {R S : ℕ → Entry → Type 0} → ((t : ℕ) (e : Entry) → R t e → S t e) → {xs : List ℕ} {es : List Entry} → Along R xs es → Along S xs es
along-map f none = none
along-map f (next {xs = xs} {ys = ys} r p) = next (f _ _ r) (along-map f {xs = xs} {es = ys} p)

pub noted-not : (rs : List ℕ) (k : ℕ) → get_or rs k 0 ≡ 0 → is_noted rs k ≡ false
unfolding is_noted
noted-not rs k e = rw e refl

pub role-some : (k : Kind) → 1 ≤ role_of k
unfolding role_of
role-some an_input = omega arith
role-some a_register = omega arith
role-some a_wire = omega arith

module _ (index : List ℕ → ℕ) (ts : List Token) where
  -- ---- tables that agree below a token, behind which nothing was noted

  module _ (rs ws us vs : List ℕ) (i : ℕ) (clear : (k : ℕ) → i ≤ k → get_or rs k 0 ≡ 0)
      (same : (k : ℕ) → k < i → get_or us k 0 ≡ get_or rs k 0) (wide : (k : ℕ) → k < i → get_or vs k 0 ≡ get_or ws k 0) where
    below : (t : ℕ) → 1 ≤ get_or rs t 0 → t < i
    below t h = by (ltb t i) refl
      where
        by : (b : Bool) → ltb t i ≡ b → t < i
        by true q = ltb-true t i q
        by false q = absurd (omega (arith, clear t (ltb-false t i q)))

    note-kept : (t : ℕ) (e : Entry) → Entries.Notes index ts rs ws t e → Entries.Notes index ts us vs t e
    note-kept t (variable k v) (declaring q d) =
        let h = below t (rw q (role-some k)) in
        declaring (same t h ∙ q) (record { named = d.named; width = wide t h ∙ d.width })
    note-kept t (target d) (driving q r) = driving (same t (below t (rw q (omega arith))) ∙ q) r
    note-kept t (thread s) (running q r) = running (same t (below t (rw q (omega arith))) ∙ q) r

    along-kept : {es : List Entry} → Along (Entries.Notes index ts rs ws) (chosen (is_noted rs) i 0) es
        → Along (Entries.Notes index ts us vs) (chosen (is_noted us) i 0) es
    unfolding is_noted
    along-kept p =
        rw (chosen-agree (is_noted us) (is_noted rs) i 0 (λ k h. rw (same k (omega arith)) refl)) (along-map note-kept p)

  -- ---- tokens without a role

  pub good-on : {us vs : List Token} {m : Marks} {es : List Entry} → Good index ts us m es → (p : Put) → p.ok ≡ true
      → From ts p.next vs → m.put.next ≤ p.next → Good index ts vs (marks p m.roles m.widths) es
  good-on {m = m} {es = es} g p o f h = record {
    yes = o;
    to = f;
    room_of_roles = g.room_of_roles;
    room_of_widths = g.room_of_widths;
    clear = λ k l. g.clear k (omega arith);
    along =
        let i = m.put.next in
        let e : i + (p.next - i) ≡ p.next = omega arith in
        let c = ap (λ k. chosen (is_noted m.roles) k 0) (sym e) ∙ chosen-clear (is_noted m.roles) i (p.next - i) (λ k l. noted-not m.roles k (g.clear k l)) in
        subst (λ l. Along (Entries.Notes index ts m.roles m.widths) l es) (sym c) g.along;
  }

  -- ---- a token that gets a role

  pub good-marked : length ts ≤ 16384 → {t : Token} {us : List Token} {m : Marks} {es fs : List Entry} → Good index ts (t ∷ us) m es
      → (r : ℕ) (vs : List ℕ) → length vs ≡ 16385 → ((k : ℕ) → k < m.put.next → get_or vs k 0 ≡ get_or m.widths k 0)
      → Along (Entries.Notes index ts (marked m.put.next r m.roles) vs) (here (is_noted (marked m.put.next r m.roles)) m.put.next) fs
      → Good index ts us (marks (after m.put) (marked m.put.next r m.roles) vs) (es ++ fs)
  unfolding after
  good-marked few {t} {us} {m} {es} {fs} g r vs long wide here =
      let i = m.put.next in
      let h : i < 16385 = omega (arith, g.to.count) in
      let rs = marked i r m.roles in
      rw (lt-ltb i 16385 h)
      (record {
        yes = g.yes;
        to = from_next ts i t us g.to;
        room_of_roles = marked-long i r m.roles ∙ g.room_of_roles;
        room_of_widths = long;
        clear = λ k l. marked_other i r m.roles k (λ e. omega arith) ∙ g.clear k (omega arith);
        along =
            subst (λ l. Along (Entries.Notes index ts rs vs) l (es ++ fs)) (sym (chosen-next (is_noted rs) i))
            (along-append
            (along-kept m.roles m.widths rs vs i g.clear (λ k l. marked_other i r m.roles k (λ e. omega arith)) wide g.along) here);
      })

  -- A role that is one.
  pub noted_here : {t : ℕ} {e : Entry} (rs vs : List ℕ) → 1 ≤ get_or rs t 0 → Entries.Notes index ts rs vs t e
      → Along (Entries.Notes index ts rs vs) (here (is_noted rs) t) (e ∷ [])
  unfolding is_noted
  noted_here {t} {e} rs vs h n =
      subst (λ l. Along (Entries.Notes index ts rs vs) l (e ∷ [])) (sym (here_in (is_noted rs) t (rw (ne_eqb (get_or rs t 0) 0 (λ z. omega arith)) refl))) (next n none)

  -- No role.
  pub unnoted-here : (t : ℕ) (rs vs : List ℕ) → get_or rs t 0 ≡ 0 → Along (Entries.Notes index ts rs vs) (here (is_noted rs) t) []
  unnoted-here t rs vs e =
      subst (λ l. Along (Entries.Notes index ts rs vs) l []) (sym (here_out (is_noted rs) t (noted-not rs t e))) none
