-- The tables of a text's tokens, as they are stored, are what the readers ask for. Assumes nothing.
use mathlib.Core.Path.{◌≡◌, refl, sym, ◌∙◌, ap}
use mathlib.Core.Bool.{Bool, true, false}
use mathlib.Core.List.{List, [], ◌∷◌, ◌++◌, map, append_assoc}
use Prim.Native.Nat.{ℕ, zero, suc, ◌+◌, ◌-◌, ◌<◌, ◌≤◌}
use native.Mathlib.Omega.{arith}
use borrow.Author.Tests.{lt-ltb, leb-true}
use lib.Dec.{leb}
use lib.ListN.{length, get_or, drop, replicate, length-map}
use Rattle.values.specs.Values.{pick}
use Rattle.verilog_tokens.specs.Tokens.{Token, Located, tokens, places, located}
use Rattle.verilog_tokens.specs.Table as Table
use Rattle.verilog_tokens.specs.Table.{kind_of, kinds, numbers}
use Rattle.verilog_grammar.specs.Meaning.{up_to, Part}
use Rattle.verilog_source.specs.Names.{variables, declared, driven, threads, in_order, name_of, number_of}
use Rattle.verilog_source.specs.Compiled.{unnumbered, spot}
use Rattle.verilog_scan.specs.Scan.{stored, overwritten, starts}
use Rattle.verilog_scan.proofs.Rest.{tokens-few}
use Rattle.verilog_scan.proofs.Filling.{kinds-front, places-front}
use Rattle.verilog_exprs.specs.Rows.{row_at}
use Rattle.verilog_exprs.specs.Following.{Tabled}
use Rattle.verilog_names.specs.Chosen.{chosen, has_role, is_declared}
use Rattle.verilog_names.specs.Numbers.{numbered}
use Rattle.verilog_names.specs.Tables.{none, Scanned, Noted}
use Rattle.verilog_names.specs.Claims.{OfStored, SameNumbers}
use Rattle.verilog_names.proofs.Chosen.{here_out}
use Rattle.verilog_names.proofs.Scanning.{of-stored}
use Rattle.verilog_names.proofs.Claims.{same_numbers}

-- ---- numbers of names

up_small : (n : ℕ) → up_to 255 n < 256
unfolding up_to
up_small n = by (leb n 255) refl
  where
    by : (t : Bool) → leb n 255 ≡ t → pick t n 255 < 256
    by true e = omega (arith, leb-true n 255 e)
    by false e = omega arith

pub number_small : (ps : List Part) (s : List ℕ) → number_of ps s < 256
unfolding number_of
number_small ps s = up_small (Table.place_of (map name_of (in_order ps)) s)

-- Nothing is declared yet.
pub none-numbered : number_of [] ≡ unnumbered
unfolding number_of in_order variables Table.place_of up_to unnumbered
none-numbered = refl

-- ---- no token has a role

pub zero-at : (n i : ℕ) → ◌≡◌ {A = ℕ} (get_or (replicate n 0) i 0) 0
zero-at zero i = refl
zero-at (suc n) zero = refl
zero-at (suc n) (suc i) = zero-at n i

chosen-never : (test : ℕ → Bool) → ((k : ℕ) → test k ≡ false) → (n i : ℕ) → chosen test n i ≡ []
unfolding chosen
chosen-never test h zero i = refl
chosen-never test h (suc n) i = rw (here_out test i (h i)) (chosen-never test h n (i + 1))

pub none-noted : (index : List ℕ → ℕ) (ts : List Token) (m : ℕ) (widths : List ℕ) → Noted index ts [] (replicate m 0) widths
unfolding variables declared driven threads
none-noted index ts m widths =
    let role : (r : ℕ) → ((k : ℕ) → has_role (replicate m 0) r k ≡ false) → chosen (has_role (replicate m 0) r) (length ts) 0 ≡ [] =
    λ r h. chosen-never (has_role (replicate m 0) r) h (length ts) 0 in
    record {
      inputs = rw (role 1 (λ k. unfold has_role in rw (zero-at m k))) none;
      registers = rw (role 2 (λ k. unfold has_role in rw (zero-at m k))) none;
      wires = rw (role 3 (λ k. unfold has_role in rw (zero-at m k))) none;
      names = rw (chosen-never (is_declared (replicate m 0)) (λ k. unfold is_declared in rw (zero-at m k)) (length ts) 0) none;
      drives = rw (role 4 (λ k. unfold has_role in rw (zero-at m k))) none;
      runs = rw (role 5 (λ k. unfold has_role in rw (zero-at m k))) none;
    }

-- ---- a text that isn't too long, stored into tables of 16,385 entries

pub count-few : (text : List ℕ) → length text ≤ 16384 → length (tokens text) ≤ 16384
count-few text h = omega (arith, tokens-few text)

module _ (text ks is qs : List ℕ) (h : length text ≤ 16384) (a : length ks ≡ 16385) (b : length is ≡ 16385) (c : length qs ≡ 16385) where
  pub text-scanned : Scanned (tokens text) (stored (kinds text) ks) (stored (numbers text) is) (stored (starts text) qs)
  unfolding OfStored stored starts
  text-scanned =
      let few = count-few text h in
      of-stored text ks is qs h (omega arith) (omega arith) (omega arith)

  -- The numbers that a module's parts give.
  pub text-tabled : (index : List ℕ → ℕ) (ps : List Part) (roles widths table : List ℕ) → Noted index (tokens text) ps roles widths
      → length table ≡ 16385
      → Tabled (number_of ps) (tokens text) (stored (kinds text) ks)
      (numbered (stored (kinds text) ks) (stored (numbers text) is) roles (length (tokens text)) table)
  unfolding SameNumbers overwritten kinds
  text-tabled index ps roles widths table nt d =
      let few = count-few text h in
      let ts = tokens text in
      record {
        few = few;
        other_kinds = drop (length (map kind_of ts ++ 0 ∷ [])) ks;
        other_numbers = drop (length ts) table;
        kinds_are = kinds-front text ks h a ∙ append_assoc (map kind_of ts) (0 ∷ []) (drop (length (map kind_of ts ++ 0 ∷ [])) ks);
        numbers_are = same_numbers index ts ps _ _ _ roles widths table text-scanned nt (omega arith);
      }

-- ---- the place of a token, behind the last the text's end

ended_at : (xs : List ℕ) (b : ℕ) (rest : List ℕ) (k : ℕ) → k ≤ length xs → get_or (xs ++ b ∷ rest) k 0 ≡ get_or xs k b
ended_at [] b rest zero h = refl
ended_at [] b rest (suc k) h = absurd (omega arith)
ended_at (x ∷ xs) b rest zero h = refl
ended_at (x ∷ xs) b rest (suc k) h = ended_at xs b rest k (omega arith)

places_count : (text : List ℕ) → length (places text) ≡ length (tokens text)
unfolding places tokens
places_count text =
    length-map (located text) (λ (l : Located). l.place) ∙ sym (length-map (located text) (λ (l : Located). l.token))

pub spot-at : (text qs : List ℕ) (i n : ℕ) → length text ≤ 16384 → length qs ≡ 16385 → i + n ≡ length (tokens text)
    → row_at (stored (starts text) qs) i ≡ spot text n
unfolding row_at spot overwritten starts
spot-at text qs i n h c e =
    let few = count-few text h in
    let same = places_count text in
    let k : i ≡ length (places text) - n = omega arith in
    rw (lt-ltb i 16385 (omega arith))
    (ap (λ l. get_or l i 0) (places-front text qs h c ∙ append_assoc (places text) (length text ∷ []) _)
    ∙ ended_at (places text) (length text) _ i (omega arith)
    ∙ ap (λ m. get_or (places text) m (length text)) k)
