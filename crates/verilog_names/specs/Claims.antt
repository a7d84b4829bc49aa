-- What is claimed of a text whose tables hold what `Tables` says. proofs/ shows it: ids in Standing, a text's tables in Scanning, the
-- rest in Claims.
use Rattle.std.specs.Prelude.{◌≡◌, true, false, List, [], ◌∷◌, ◌++◌, map, ℕ, ◌≤◌, ◌<◌, eqb, length, get_or, drop}
use Rattle.std.proofs.lemmas.List.Edits.{sets}
use Rattle.naming.specs.Naming.{same_text}
use Rattle.verilog_tokens.specs.Tokens.{Token, Name, tokens, places}
use Rattle.verilog_tokens.specs.Table.{kinds, numbers, number_in, id_of}
use Rattle.verilog_grammar.specs.Meaning.{a_wire, Driven, Part}
use Rattle.verilog_source.specs.Names as Source
use Rattle.verilog_source.specs.Names.{Variable, variables, driven, threads, number_of, faults, lowest}
use Rattle.verilog_source.specs.Written.{value_for, written_wires, written_threads, written}
use Rattle.verilog_names.specs.declared.Fault.{Fault}
use Rattle.verilog_names.specs.Chosen.{chosen, has_role}
use Rattle.verilog_names.specs.Faults.{fault_of}
use Rattle.verilog_names.specs.Numbers.{numbered}
use Rattle.verilog_names.specs.Head.{head_of}
use Rattle.verilog_names.specs.Order.{target_of}
use Rattle.verilog_names.specs.Tables.{Along, Stands, Drives, Scanned, Noted}

-- ---- ids are equal exactly where the spellings are

unfoldable pub SameIds : Type 0
SameIds = (ts : List Token) (t : ℕ) (m : Name) (s : List ℕ) → Stands ts t m
    → eqb (id_of ts m.spelled) (id_of ts s) ≡ same_text m.spelled s

-- ---- the tables of a text, in front of anything

unfoldable pub OfText : Type 0
OfText = (text ks is qs : List ℕ) → length text ≤ 16384 → Scanned (tokens text) (kinds text ++ ks) (numbers text ++ is) (places text ++ qs)

-- The same where they are stored into tables with room for them, the text's end behind the last place.
unfoldable pub OfStored : Type 0
OfStored = (text ks is qs : List ℕ) → length text ≤ 16384 → length (tokens text) < length ks → length (tokens text) < length is
    → length (tokens text) < length qs
    → Scanned (tokens text) (sets ks 0 (kinds text)) (sets is 0 (numbers text)) (sets qs 0 (places text ++ length text ∷ []))

-- ---- 43: a fault is found exactly where `faults` has one, and then its place is the lowest

unfoldable pub fault_by : List Name → Fault
fault_by [] = record { found = false; place = 65536 }
fault_by (n ∷ ns) = record { found = true; place = lowest n ns }

unfoldable pub SameFaults : Type 0
SameFaults = (index : List ℕ → ℕ) (ts : List Token) (ps : List Part) (kinds ids places roles widths : List ℕ)
    → Scanned ts kinds ids places → Noted index ts ps roles widths
    → fault_of kinds ids places roles (length ts) ≡ fault_by (faults ts ps)

-- None is found exactly where there is none.
unfoldable pub Faultless : Type 0
Faultless = (ns : List Name) → (fault_by ns).found ≡ false → ns ≡ []

-- ---- numbers: each name has its variable's

unfoldable pub SameNumbers : Type 0
SameNumbers = (index : List ℕ → ℕ) (ts : List Token) (ps : List Part) (kinds ids places roles widths table : List ℕ)
    → Scanned ts kinds ids places → Noted index ts ps roles widths → length ts ≤ length table
    → numbered kinds ids roles (length ts) table ≡ map (number_in (number_of ps)) ts ++ drop (length ts) table

-- ---- the head: what stands in front of the wires and the threads

unfoldable pub SameHead : Type 0
SameHead = (index : List ℕ → ℕ) (ts : List Token) (ps : List Part) (roles widths : List ℕ) → Noted index ts ps roles widths
    → head_of roles widths (length ts) ++ written_wires (driven ps) (variables a_wire ps) ++ written_threads (threads ps) ≡ written ps

-- ---- a wire's expression is read two tokens behind the target that is found for its name

pub record Found (index : List ℕ → ℕ) (ts : List Token) (ps : List Part) (t : ℕ) (s : List ℕ) : Type 0 where
  pub driven : Driven
  pub drives : Drives index ts t driven
  pub value : value_for (Source.driven ps) s ≡ driven.value

unfoldable pub SameTarget : Type 0
SameTarget = (index : List ℕ → ℕ) (ts : List Token) (ps : List Part) (kinds ids places roles widths : List ℕ)
    → Scanned ts kinds ids places → Noted index ts ps roles widths
    → (t : ℕ) (n : Name) → Stands ts t n → Source.is_among (map Source.target_of (driven ps)) n ≡ true
    → Found index ts ps (target_of ids roles (length ts) (get_or ids t 0)) n.spelled

-- Where no name is at fault, each wire's declaration finds its target.
unfoldable pub WiresFound : Type 0
WiresFound = (index : List ℕ → ℕ) (ts : List Token) (ps : List Part) (kinds ids places roles widths : List ℕ)
    → Scanned ts kinds ids places → Noted index ts ps roles widths → faults ts ps ≡ []
    → Along (λ (t : ℕ) (v : Variable). Found index ts ps (target_of ids roles (length ts) (get_or ids t 0)) v.named.spelled)
    (chosen (has_role roles 3) (length ts) 0)
    (variables a_wire ps)
