-- What is said of a run that does not come to rest.
use Rattle.std.specs.Prelude.{List, [], ◌∷◌, ◌++◌, ℕ, ◌/◌, ◌%◌, ltb}
use Rattle.values.specs.Values.{pick}
use Rattle.writing.specs.Ascii.{byte, ascii}
use Rattle.writing.specs.Numbers.{digit, decimal}

-- ---- grouped: a number with its thousands and millions apart, as 4,000,000

unfoldable pub three : ℕ → List ℕ
three n = byte "," ∷ digit (n / 100 % 10) ∷ digit (n / 10 % 10) ∷ digit (n % 10) ∷ []

unfoldable pub thousands : ℕ → List ℕ
thousands n = pick (ltb n 1000) (decimal n) (decimal (n / 1000) ++ three n)

unfoldable pub grouped : ℕ → List ℕ
grouped n = pick (ltb n 1000000) (thousands n) (thousands (n / 1000000) ++ three (n / 1000) ++ three n)

-- ---- restless_words

unfoldable pub restless_words : ℕ → List ℕ
restless_words n = ascii "not at rest after " ++ grouped n ++ ascii " choices"
