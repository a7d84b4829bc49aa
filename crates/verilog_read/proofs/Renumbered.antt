-- What a module declares and drives is the same over all numbers of its names: a text that is read over some is read over any, with the
-- same names at fault. Assumes nothing.
use mathlib.Core.Path.{◌≡◌, refl, sym, ◌∙◌, ap}
use mathlib.Core.List.{List, [], ◌∷◌, ◌++◌, map, map-append}
use Prim.Native.Nat.{ℕ}
use Rattle.verilog_tokens.specs.Tokens.{Token, Name}
use Rattle.verilog_grammar.specs.AnnexA.{Listed, one, also, NetAssignment, Item, input, reg, wire, assign, always}
use Rattle.verilog_grammar.specs.Meaning.{a_wire, Part, Source, list_of, same, driven_of, part_of, parts_of, meaning}
use Rattle.verilog_grammar.specs.Reader.{ok, read_module}
use Rattle.verilog_grammar.specs.Claims.{OnlyDerived, AllDerived}
use Rattle.verilog_grammar.proofs.Module.{only-derived, all-derived}
use Rattle.verilog_source.specs.Names.{variables, declared, driven, target_of, faults}

module _ (i j : List ℕ → ℕ) where
  listed-targets : (xs : Listed NetAssignment) → map target_of (list_of (driven_of i) xs) ≡ map target_of (list_of (driven_of j) xs)
  unfolding list_of driven_of target_of
  listed-targets (one a) = refl
  listed-targets (also a xs) = ap (λ (l : List Name). a.target ∷ l) (listed-targets xs)

  same-declared : (is : List Item) → declared (parts_of i is) ≡ declared (parts_of j is)
  unfolding declared parts_of part_of
  same-declared [] = refl
  same-declared (input r ns ∷ is) = ap (λ l. list_of same ns ++ l) (same-declared is)
  same-declared (reg r ns ∷ is) = ap (λ l. list_of same ns ++ l) (same-declared is)
  same-declared (wire r ns ∷ is) = ap (λ l. list_of same ns ++ l) (same-declared is)
  same-declared (assign xs ∷ is) = same-declared is
  same-declared (always a ∷ is) = same-declared is

  same-wires : (is : List Item) → variables a_wire (parts_of i is) ≡ variables a_wire (parts_of j is)
  unfolding variables parts_of part_of
  same-wires [] = refl
  same-wires (input r ns ∷ is) = rw (same-wires is)
  same-wires (reg r ns ∷ is) = rw (same-wires is)
  same-wires (wire r ns ∷ is) = rw (same-wires is)
  same-wires (assign xs ∷ is) = same-wires is
  same-wires (always a ∷ is) = same-wires is

  same-targets : (is : List Item) → map target_of (driven (parts_of i is)) ≡ map target_of (driven (parts_of j is))
  unfolding driven parts_of part_of
  same-targets [] = refl
  same-targets (input r ns ∷ is) = same-targets is
  same-targets (reg r ns ∷ is) = same-targets is
  same-targets (wire r ns ∷ is) = same-targets is
  same-targets (assign xs ∷ is) =
      map-append target_of (list_of (driven_of i) xs) (driven (parts_of i is))
      ∙ ap (λ l. l ++ map target_of (driven (parts_of i is))) (listed-targets xs)
      ∙ ap (λ l. map target_of (list_of (driven_of j) xs) ++ l) (same-targets is)
      ∙ sym (map-append target_of (list_of (driven_of j) xs) (driven (parts_of j is)))
  same-targets (always a ∷ is) = same-targets is

  same-faulty : (ts : List Token) (is : List Item) → faults ts (parts_of i is) ≡ faults ts (parts_of j is)
  unfolding faults
  same-faulty ts is = rw (same-declared is, same-wires is, same-targets is)

-- A second reading.
pub record Again (j : List ℕ → ℕ) (ts : List Token) (ps : List Part) : Type 0 where
  pub source : Source
  pub reads : read_module j ts ≡ ok source []
  pub faulty : faults ts source.parts ≡ faults ts ps

pub read_again : (i j : List ℕ → ℕ) (ts : List Token) (s : Source) (rest : List Token) → read_module i ts ≡ ok s rest
    → Again j ts s.parts
unfolding OnlyDerived AllDerived meaning
read_again i j ts s rest e =
    let d = only-derived i ts s rest e in
    let m = d.tree in
    record {
      source = meaning j m;
      reads = all-derived j ts (meaning j m) (record { tree = m; counts = d.counts; yields = d.yields; means = refl });
      faulty = same-faulty j i ts m.items ∙ ap (λ (x : Source). faults ts x.parts) d.means;
    }
