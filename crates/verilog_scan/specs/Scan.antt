-- How lent tables of 16,385 entries come to hold a text's tokens.
use Rattle.std.specs.Prelude.{◌≡◌, Bool, false, not, List, [], ◌∷◌, ◌++◌, map, ℕ, ◌+◌, ltb, eqb, length, get_or, take, drop}
use Rattle.std.proofs.lemmas.List.Edits.{sets}
use Rattle.values.specs.Values.{pick}
use Rattle.verilog_tokens.specs.declared.Class.TheVariants.{Word}
use Rattle.verilog_tokens.specs.Characters.{span}
use Rattle.verilog_tokens.specs.Tokens.{Name, gap, tokens, places}
use Rattle.verilog_tokens.specs.Table.{kinds, numbers}

-- ---- a list stored into a table from its first entry on; the rest of it stays. A table with room for it becomes `overwritten`.

unfoldable pub stored : List ℕ → List ℕ → List ℕ
stored xs ys = sets ys 0 xs

unfoldable pub overwritten : List ℕ → List ℕ → List ℕ
overwritten xs ys = xs ++ drop (length xs) ys

-- Where each token begins, and the text's end behind the last.
unfoldable pub starts : List ℕ → List ℕ
starts text = places text ++ length text ∷ []

-- ---- what becomes of the tables of kinds, numbers and places, and the answer

pub record Filled (text kinds₀ kinds₁ numbers₀ numbers₁ places₀ places₁ : List ℕ) (count : ℕ) : Type 0 where
  pub kinds-filled : kinds₁ ≡ stored (kinds text) kinds₀
  pub numbers-filled : numbers₁ ≡ stored (numbers text) numbers₀
  pub places-filled : places₁ ≡ stored (starts text) places₀
  pub counted : count ≡ length (tokens text)

-- A text of over 16,384 bytes leaves the tables.
unfoldable pub overlong : List ℕ → Bool
overlong text = ltb 16384 (length text)

pub record Scanned (text kinds₀ kinds₁ numbers₀ numbers₁ places₀ places₁ : List ℕ) (count : ℕ) : Type 0 where
  pub kinds-scanned : kinds₁ ≡ pick (overlong text) kinds₀ (stored (kinds text) kinds₀)
  pub numbers-scanned : numbers₁ ≡ pick (overlong text) numbers₀ (stored (numbers text) numbers₀)
  pub places-scanned : places₁ ≡ pick (overlong text) places₀ (stored (starts text) places₀)
  pub counted : count ≡ pick (overlong text) 0 (length (tokens text))

-- ---- words and names by their places

unfoldable pub spelled_at : List ℕ → ℕ → List ℕ
spelled_at text p = take (span Word (drop p text)) (drop p text)

-- A word that begins with another byte is another.
unfoldable pub differs : List ℕ → ℕ → List ℕ → Bool
differs text p word = pick (eqb (length word) 0) false (not (eqb (get_or text p 0) (get_or word 0 0)))

unfoldable pub name_at : List ℕ → ℕ → Name
name_at text p = record { place = p; spelled = spelled_at text p }

unfoldable pub names_at : List ℕ → List ℕ → List Name
names_at text ps = map (name_at text) ps

-- Where the gap at a place ends.
unfoldable pub gap_from : List ℕ → ℕ → ℕ
gap_from text p = p + gap (drop p text)
