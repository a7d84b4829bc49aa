-- Laws of a sheet's head: widths put one after the other, and the whole. Assumes nothing.
use mathlib.Core.Path.{◌≡◌, refl, sym, ◌∙◌, ap}
use mathlib.Core.Bool.{Bool, true, false}
use mathlib.Core.List.{List, [], ◌∷◌, ◌++◌}
use Prim.Native.Nat.{ℕ, ◌+◌, ◌-◌, ◌<◌, ◌≤◌}
use lib.ListN.{get_or}
use Rattle.writing.specs.Buffer.{Text, puts}
use Rattle.writing.proofs.Buffer.{puts-nil, puts-append, both}
use Rattle.verilog_grammar.specs.Meaning.{up_to}
use Rattle.verilog_names.specs.Chosen.{capped, here, chosen, has_role, count_of}
use Rattle.verilog_names.specs.Numbers.{ordered}
use Rattle.verilog_names.specs.Head.{widths_of, head_of}
use Rattle.verilog_names.proofs.Chosen.{here_in, here_out, chosen-step, chosen-done}

pub count-put : (t u : Text) (most n m b : ℕ) → n ≡ m → b ≡ up_to most n → u ≡ puts t (b ∷ []) → u ≡ puts t (up_to most m ∷ [])
count-put t u most n m b e f g = g ∙ ap (λ k. puts t (k ∷ [])) (f ∙ ap (up_to most) e)

module _ (widths : List ℕ) where
  pub widths-append : (xs ys : List ℕ) → widths_of widths (xs ++ ys) ≡ widths_of widths xs ++ widths_of widths ys
  unfolding widths_of
  widths-append [] ys = refl
  widths-append (t ∷ xs) ys = ap (λ l. get_or widths t 0 ∷ l) (widths-append xs ys)

  module _ (test : ℕ → Bool) where
    pub width-in : (t u : Text) (i : ℕ) → test i ≡ true → u ≡ puts t (get_or widths i 0 ∷ []) → u ≡ puts t (widths_of widths (here test i))
    unfolding widths_of
    width-in t u i e f = rw (here_in test i e) f

    pub width-out : (t : Text) (i : ℕ) → test i ≡ false → t ≡ puts t (widths_of widths (here test i))
    unfolding widths_of
    width-out t i e = rw (here_out test i e) (sym (puts-nil t))

    pub widths-turn : (t u whole : Text) (n i : ℕ) → i < n → u ≡ puts t (widths_of widths (here test i))
        → puts t (widths_of widths (chosen test (n - i) i)) ≡ whole
        → puts u (widths_of widths (chosen test (n - (i + 1)) (i + 1))) ≡ whole
    widths-turn t u whole n i h e f =
        ap (λ v. puts v (widths_of widths rest)) e
        ∙ sym (puts-append t (widths_of widths (here test i)) (widths_of widths rest))
        ∙ ap (puts t) (sym (widths-append (here test i) rest) ∙ ap (widths_of widths) (sym (chosen-step test n i h)))
        ∙ f
      where
        rest : List ℕ
        rest = chosen test (n - (i + 1)) (i + 1)

    pub widths-over : (t whole : Text) (n i : ℕ) → n ≤ i → puts t (widths_of widths (chosen test (n - i) i)) ≡ whole → t ≡ whole
    unfolding widths_of
    widths-over t whole n i h e = sym (puts-nil t) ∙ (rw (chosen-done test n i h) at e)

-- Four counts and three lists of widths, one behind the other.
module _ (roles widths : List ℕ) (count n : ℕ) (e : n ≡ capped count) where
  pub head-put : (t a b c d f g u : Text)
      → a ≡ puts t (up_to 16 (count_of roles n 1) ∷ []) → b ≡ puts a (up_to 32 (count_of roles n 2) ∷ [])
      → c ≡ puts b (up_to 32 (count_of roles n 3) ∷ []) → d ≡ puts c (up_to 8 (count_of roles n 5) ∷ [])
      → f ≡ puts d (widths_of widths (chosen (has_role roles 1) n 0)) → g ≡ puts f (widths_of widths (chosen (has_role roles 2) n 0))
      → u ≡ puts g (widths_of widths (chosen (has_role roles 3) n 0))
      → u ≡ puts t (head_of roles widths (capped count))
  unfolding head_of ordered
  head-put t a b c d f g u p q r s v w z =
      both t d u _ _ (both t c d _ _ (both t b c _ _ (both t a b _ _ p q) r) s) (both d g u _ _ (both d f g _ _ v w) z)
      ∙ ap (λ l. puts t (counts ++ l))
      (simp widths-append)
      ∙ ap (λ k. puts t (head_of roles widths k)) e
    where
      counts : List ℕ
      counts =
          up_to 16 (count_of roles n 1) ∷ up_to 32 (count_of roles n 2) ∷ up_to 32 (count_of roles n 3) ∷ up_to 8 (count_of roles n 5) ∷ []
