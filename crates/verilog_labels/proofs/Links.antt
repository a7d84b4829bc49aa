-- On a text's tables the steps of the code are the definition. Assumes nothing.
use mathlib.Core.Path.{◌≡◌, refl, sym, ap, ◌∙◌}
use mathlib.Core.Bool.{Bool, false}
use mathlib.Core.List.{List, [], ◌∷◌, ◌++◌, map, append_assoc}
use Prim.Native.Nat.{ℕ, zero, suc, ◌+◌, ◌<◌, ◌≤◌}
use native.Mathlib.Omega.{arith}
use borrow.Author.Tests.{le-leb, lt-leb}
use lib.Dec.{eqb}
use lib.ListN.{length, get_or, drop, length-replicate}
use Rattle.values.specs.Values.{pick}
use Rattle.verilog_tokens.specs.Tokens.{Token, Name, tokens, places}
use Rattle.verilog_tokens.specs.Table as Table
use Rattle.verilog_tokens.specs.Table.{kind_of, number_in, kinds, numbers}
use Rattle.verilog_grammar.specs.Meaning.{up_to, Part, Source}
use Rattle.verilog_grammar.specs.Reader.{Res, ok, no, read_module}
use Rattle.verilog_source.specs.Names.{variables, declared, driven, threads, in_order, number_of, faults}
use Rattle.verilog_source.specs.Compiled.{unnumbered}
use Rattle.verilog_scan.specs.Scan.{stored, overwritten, starts}
use Rattle.verilog_scan.proofs.Rest.{tokens-few}
use Rattle.verilog_scan.proofs.Filling.{kinds-front}
use Rattle.verilog_exprs.specs.Following.{Tabled}
use Rattle.verilog_names.specs.Chosen.{capped, chosen, has_role, is_declared}
use Rattle.verilog_names.specs.Faults.{fault_of}
use Rattle.verilog_names.specs.Numbers.{ordered, numbered}
use Rattle.verilog_names.specs.Tables.{none, Scanned, Noted}
use Rattle.verilog_names.specs.Claims.{OfStored, SameFaults, SameNumbers, fault_by}
use Rattle.verilog_names.proofs.Chosen.{capped-below, here_out}
use Rattle.verilog_names.proofs.Standing.{along-append}
use Rattle.verilog_names.proofs.Scanning.{of-stored}
use Rattle.verilog_names.proofs.Claims.{same-faults, same_numbers}
use Rattle.verilog_items.specs.Notes.{Notes}
use Rattle.verilog_items.specs.Items.{read_in}
use Rattle.verilog_items.specs.Following.{Said, ModulesFollow}
use Rattle.verilog_items.proofs.Claims.{modules-follow}
use Rattle.verilog_labels.specs.Labels.{Labels, told, row, place_of, labelled, named, derived, short, labels}
use Rattle.verilog_labels.specs.Steps.{zeros, laid, places_at, lengths_at, rows_in, fault_in, noted_in, derived_in, few, scanned_in}
use Rattle.verilog_labels.proofs.Rowed.{zeros-at, laid-zeros}
use Rattle.verilog_labels.proofs.Laying.{few-below}
use Rattle.verilog_labels.proofs.Spelled.{along-places, along-lengths}

-- ---- nothing is noted yet

none-chosen : (test : ℕ → Bool) → ((i : ℕ) → test i ≡ false) → (n i : ℕ) → chosen test n i ≡ []
unfolding chosen
none-chosen test h zero i = refl
none-chosen test h (suc n) i = ap (λ l. l ++ chosen test n (i + 1)) (here_out test i (h i)) ∙ none-chosen test h n (i + 1)

module _ (room : List ℕ) (clear : (k : ℕ) → get_or room k 0 ≡ 0) where
  no-role : (r : ℕ) → eqb 0 r ≡ false → (i : ℕ) → has_role room r i ≡ false
  unfolding has_role
  no-role r h i = rw (clear i) h

  not-declared : (i : ℕ) → is_declared room i ≡ false
  unfolding is_declared
  not-declared i = rw (clear i)

  noted-none : (ts : List Token) → Noted unnumbered ts [] room room
  unfolding variables declared driven threads
  noted-none ts = record {
    inputs = rw (none-chosen (has_role room 1) (no-role 1 refl) (length ts) 0) none;
    registers = rw (none-chosen (has_role room 2) (no-role 2 refl) (length ts) 0) none;
    wires = rw (none-chosen (has_role room 3) (no-role 3 refl) (length ts) 0) none;
    names = rw (none-chosen (is_declared room) not-declared (length ts) 0) none;
    drives = rw (none-chosen (has_role room 4) (no-role 4 refl) (length ts) 0) none;
    runs = rw (none-chosen (has_role room 5) (no-role 5 refl) (length ts) 0) none;
  }

-- Before anything is declared each name has the number 0.
nothing-numbered : number_of [] ≡ unnumbered
unfolding number_of in_order variables up_to Table.place_of unnumbered
nothing-numbered = refl

-- ---- the tables of a text that isn't too long

module _ (text : List ℕ) (h : length text ≤ 16384) (room : List ℕ) (long : length room ≡ 16385) (clear : (k : ℕ) → get_or room k 0 ≡ 0) where
  abbrev ts : List Token
  ts = tokens text

  abbrev ks : List ℕ
  ks = stored (kinds text) room

  abbrev ids : List ℕ
  ids = stored (numbers text) room

  abbrev begun : List ℕ
  begun = stored (starts text) room

  few-tokens : length ts ≤ 16384
  few-tokens = omega (arith, tokens-few text)

  scanned-tables : Scanned ts ks ids begun
  unfolding OfStored stored starts
  scanned-tables =
      let n = few-tokens in
      of-stored text room room room h (omega (arith, n, long)) (omega (arith, n, long)) (omega (arith, n, long))

  table_is : numbered ks ids room (length ts) room ≡ map (number_in unnumbered) ts ++ drop (length ts) room
  unfolding SameNumbers
  table_is =
      same_numbers unnumbered ts [] ks ids begun room room room scanned-tables (noted-none room clear ts) (omega (arith, few-tokens, long))
      ∙ ap (λ i. map (number_in i) ts ++ drop (length ts) room) nothing-numbered

  kinds-are : ks ≡ map kind_of ts ++ 0 ∷ drop (length (kinds text)) room
  unfolding overwritten kinds
  kinds-are = kinds-front text room h long ∙ append_assoc (map kind_of ts) (0 ∷ []) (drop (length (kinds text)) room)

  tabled : Tabled unnumbered ts ks (numbered ks ids room (length ts) room)
  tabled = record {
    few = few-tokens;
    other_kinds = drop (length (kinds text)) room;
    other_numbers = drop (length ts) room;
    kinds_are = kinds-are;
    numbers_are = table_is;
  }

  module _ (buffer : List ℕ) (wide : length buffer ≡ 65536) (places₀ lengths₀ : List ℕ) where
    abbrev read-in : Notes
    read-in = read_in ks (numbered ks ids room (length ts) room) (length ts) buffer room room

    said : Said unnumbered ts read-in (read_module unnumbered ts)
    unfolding ModulesFollow unnumbered
    said = modules-follow unnumbered ts ks _ tabled (λ s. omega arith) buffer room room wide long long clear

    -- The rows of the tokens that declare variables are those of the parts.
    abbrev laid_in : List ℕ → ℕ → Labels
    laid_in roles n =
        told 0 (laid (zeros 80) 0 (places_at begun (ordered roles n))) (laid (zeros 80) 0 (lengths_at text begun (ordered roles n)))

    rows-link : (ps : List Part) (roles widths : List ℕ) → Noted unnumbered ts ps roles widths
        → laid_in roles (length ts) ≡ labelled ps
    unfolding ordered labelled in_order
    rows-link ps roles widths n =
        let all = along-append (along-append n.inputs n.registers) n.wires in
        let p = scanned-tables.placed in
        rw (laid-zeros (places_at begun (ordered roles (length ts))), laid-zeros (lengths_at text begun (ordered roles (length ts))))
        (ap (λ l. told 0 (row l) (row (lengths_at text begun (ordered roles (length ts))))) (along-places text begun widths p all)
        ∙ ap (λ l. told 0 (row (map place_of (in_order ps))) (row l)) (along-lengths text begun widths p all))

    fault-link : (ps : List Part) (roles widths : List ℕ) → Noted unnumbered ts ps roles widths
        → pick (fault_of ks ids begun roles (length ts)).found (told 43 places₀ lengths₀)
        (laid_in roles (length ts))
        ≡ named places₀ lengths₀ ps (faults ts ps)
    unfolding SameFaults named fault_by
    fault-link ps roles widths n =
        rw (same-faults unnumbered ts ps ks ids begun roles widths scanned-tables n, rows-link ps roles widths n) (by (faults ts ps))
      where
        by : (fs : List Name) → pick (fault_by fs).found (told 43 places₀ lengths₀) (labelled ps) ≡ named places₀ lengths₀ ps fs
        by [] = refl
        by (f ∷ fs) = refl

    -- What was read, or refused.
    read-link : (s : Notes) (r : Res Source) → Said unnumbered ts s r
        → pick s.text.put.ok
        (pick (fault_of ks ids begun s.roles (length ts)).found (told 43 places₀ lengths₀)
        (laid_in s.roles (length ts)))
        (told 42 places₀ lengths₀)
        ≡ derived places₀ lengths₀ ts r
    unfolding Said derived
    read-link s (ok m us) g = rw g.0 (fault-link m.parts s.roles s.widths g.1)
    read-link s (no n) g = rw g.not

    pub noted-link : capped (length ts) ≡ length ts
        → noted_in text ks ids begun (length ts) places₀ lengths₀ read-in ≡ derived places₀ lengths₀ ts (read_module unnumbered ts)
    unfolding noted_in fault_in rows_in
    noted-link e =
        ap (λ m. pick read-in.text.put.ok
        (pick (fault_of ks ids begun read-in.roles m).found (told 43 places₀ lengths₀)
        (laid_in read-in.roles m))
        (told 42 places₀ lengths₀)) e
        ∙ read-link read-in (read_module unnumbered ts) said

pub labels-long : (text places lengths : List ℕ) → 16384 < length text → told 41 places lengths ≡ labels text places lengths
unfolding labels short
labels-long text places lengths h = rw (lt-leb (length text) 16384 h)

module _ (text : List ℕ) (h : length text ≤ 16384) (places₀ lengths₀ : List ℕ) where
  count-few : few (length (tokens text)) ≡ length (tokens text)
  count-few = sym (few-below (length (tokens text)) (omega (arith, tokens-few text)))

  count-capped : capped (length (tokens text)) ≡ length (tokens text)
  count-capped = sym (capped-below (length (tokens text)) (omega (arith, tokens-few text)))

  -- Over any tables of zeros.
  module _ (room buffer : List ℕ) (long : length room ≡ 16385) (clear : (k : ℕ) → get_or room k 0 ≡ 0) (wide : length buffer ≡ 65536) where
    abbrev steps : ℕ → ℕ → Labels
    steps m n =
        let ks = stored (kinds text) room in
        let ids = stored (numbers text) room in
        noted_in text ks ids (stored (starts text) room) m places₀ lengths₀ (read_in ks (numbered ks ids room n room) m buffer room room)

    steps-link : steps (few (length (tokens text))) (capped (few (length (tokens text))))
        ≡ derived places₀ lengths₀ (tokens text) (read_module unnumbered (tokens text))
    steps-link =
        ap (λ m. steps m (capped m)) count-few
        ∙ ap (steps (length (tokens text))) count-capped
        ∙ noted-link text h room long clear buffer wide places₀ lengths₀ count-capped

  pub labels-short : scanned_in text places₀ lengths₀ ≡ labels text places₀ lengths₀
  unfolding labels short scanned_in derived_in
  labels-short =
      steps-link (zeros 16385) (zeros 65536) (length-replicate {A = ℕ} 16385 0) (zeros-at 16385) (length-replicate {A = ℕ} 65536 0)
      ∙ sym (ap (short text places₀ lengths₀) (le-leb (length text) 16384 h))
