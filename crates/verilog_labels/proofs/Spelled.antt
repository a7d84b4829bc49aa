-- A name of a text is spelled as the word at its place; names along the tokens that declare them. Assumes nothing.
use mathlib.Core.Path.{◌≡◌, refl, sym, ap, ◌∙◌, subst}
use mathlib.Core.Bool.{Bool, true, false}
use mathlib.Core.List.{List, [], ◌∷◌, map}
use Prim.Native.Nat.{ℕ, zero, suc, ◌+◌, ◌<◌, ◌≤◌}
use native.Mathlib.Omega.{arith}
use borrow.Author.Tests.{ltb-true, ltb-false}
use lib.Dec.{ltb}
use lib.ListN.{length, get_or, drop}
use Rattle.verilog_tokens.specs.Tokens.{Token, name, Name, Located, tokens, located}
use Rattle.verilog_tokens.specs.Table.{kind_of, name_in}
use Rattle.verilog_scan.specs.Scan.{spelled_at, name_at, gap_from}
use Rattle.verilog_scan.proofs.Rest.{rest_at, lex_at, next_at, rest-past, rest-first, rest-next, next-after, lex-named}
use Rattle.verilog_source.specs.Names.{Variable}
use Rattle.verilog_names.specs.Tables.{Along, none, next, Stands, Declares}
use Rattle.verilog_labels.specs.Labels.{place_of, length_of}
use Rattle.verilog_labels.specs.Steps.{places_at, lengths_at}

data Spelled (text : List ℕ) : List Located → Type 0 where
  empty : Spelled text []
  more : {l : Located} {ls : List Located} → ((n : Name) → l.token ≡ name n → n.spelled ≡ spelled_at text n.place) → Spelled text ls
      → Spelled text (l ∷ ls)

module _ (text : List ℕ) where
  name-is : (at : ℕ) → at < length text → (n : Name) → (lex_at text at).token ≡ name n → n ≡ name_at text at
  unfolding name_in kind_of
  name-is at l n e = let k = rw e at (lex-named text at l).name-known in cc

  name-spelled : (at : ℕ) → at < length text → (n : Name) → (lex_at text at).token ≡ name n → n.spelled ≡ spelled_at text n.place
  unfolding name_at
  name-spelled at l n e =
      let k = name-is at l n e in
      ap (λ (m : Name). m.spelled) k ∙ ap (spelled_at text) (sym (ap (λ (m : Name). m.place) k))

  spelled-past : (at : ℕ) → length text ≤ at → Spelled text (rest_at text at)
  spelled-past at l = subst (Spelled text) (sym (rest-past text at l)) empty

  spelled-rest : (f at : ℕ) → length text ≤ at + f → Spelled text (rest_at text at)
  spelled-rest zero at h = spelled-past at (omega arith)
  spelled-rest (suc f) at h = by (ltb at (length text)) refl (λ l. spelled-rest f (next_at text at) (omega (arith, h, next-after text at l)))
    where
      by : (b : Bool) → ltb at (length text) ≡ b → (at < length text → Spelled text (rest_at text (next_at text at)))
          → Spelled text (rest_at text at)
      by false q g = spelled-past at (ltb-false at (length text) q)
      by true q g =
          let l = ltb-true at (length text) q in
          subst (Spelled text) (sym (rest-next text at l)) (more (name-spelled at l) (g l))

  spelled-entry : (ls : List Located) (t : ℕ) (n : Name) (behind : List Token) → Spelled text ls
      → drop t (map (λ (l : Located). l.token) ls) ≡ name n ∷ behind → n.spelled ≡ spelled_at text n.place
  spelled-entry [] zero n behind p d = let z : ◌≡◌ {A = ℕ} 0 1 = cc in absurd (omega arith)
  spelled-entry [] (suc t) n behind p d = let z : ◌≡◌ {A = ℕ} 0 1 = cc in absurd (omega arith)
  spelled-entry (l ∷ ls) zero n behind (more r p) d = r n (cc)
  spelled-entry (l ∷ ls) (suc t) n behind (more r p) d = spelled-entry ls t n behind p d

  pub stands-spelled : (t : ℕ) (n : Name) → Stands (tokens text) t n → n.spelled ≡ spelled_at text n.place
  unfolding tokens
  stands-spelled t n s =
      let all = subst (Spelled text) (sym (rest-first text)) (spelled-rest (length text) (gap_from text 0) (omega arith)) in
      spelled-entry (located text) t n s.behind all s.stands

-- ---- along the tokens that declare variables

module _ (text begun widths : List ℕ) (placed : (t : ℕ) (n : Name) → Stands (tokens text) t n → get_or begun t 0 ≡ n.place) where
  pub along-places : {ks : List ℕ} {vs : List Variable} → Along (Declares (tokens text) widths) ks vs → places_at begun ks ≡ map place_of vs
  unfolding places_at
  along-places none = refl
  along-places (next {a = t} {b = v} {xs = xs} {ys = ys} r p) =
      let e = placed t v.named r.named in
      let f = along-places {ks = xs} {vs = ys} p in
      cc

  pub along-lengths : {ks : List ℕ} {vs : List Variable} → Along (Declares (tokens text) widths) ks vs
      → lengths_at text begun ks ≡ map length_of vs
  unfolding lengths_at
  along-lengths none = refl
  along-lengths (next {a = t} {b = v} {xs = xs} {ys = ys} r p) =
      let e : length (spelled_at text (get_or begun t 0)) ≡ length v.named.spelled =
      ap (λ q. length (spelled_at text q)) (placed t v.named r.named)
      ∙ ap length (sym (stands-spelled text t v.named r.named)) in
      let f = along-lengths {ks = xs} {vs = ys} p in
      cc
