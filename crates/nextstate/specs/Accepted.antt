-- When extraction accepts, both ways (document 01: "refusing everything (each number stands exactly on its condition above)").
-- proofs/Numbers proves it.
use Rattle.std.specs.Prelude.{ℕ, ◌≡◌, ◌↔◌, true, List, length}
use Rattle.sheet.specs.Reading.{ok}
use Rattle.sheet.specs.Expression.{Expr}
use Rattle.sheet.specs.Module.{Module, read}
use Rattle.nextstate.specs.Rules.{rule}
use Rattle.nextstate.specs.Extraction.{Tables, threads_below, right_lengths, extract}

-- The lent tables have their lengths, the sheet is read, no rule of 12 to 20 is broken, and the walks find room for their nodes.
pub record Acceptable (s ns rs : List ℕ) : Type 0 where
  pub lengths : right_lengths ns rs ≡ true
  pub contents : Module Expr
  pub reads : read s ≡ ok contents
  pub unbroken : rule contents ≡ 0
  pub tables : Tables
  pub walks : threads_below contents (length contents.threads) ≡ ok tables

abbrev pub AcceptsExactly : Type 0
AcceptsExactly = (s ns rs : List ℕ) → ((extract s ns rs).number ≡ 0) ↔ Acceptable s ns rs
