-- Laws of the listing for printing it line by line: what is written, and the rest to come, is the whole.
use mathlib.Core.Path.{◌≡◌, sym, ap, ◌∙◌}
use Prim.Native.Nat.{ℕ, ◌+◌, ◌≤◌, ◌<◌}
use native.Mathlib.Numerals.{add-one}
use mathlib.Core.List.{List}
use lib.ListN.{length, get_or, drop, drop_of_length-le}
use lib.Seq.{drop-cons}
use Rattle.sheet.specs.Statement.{Stmt}
use Rattle.sheet.specs.Module.{Module}
use Rattle.pseudocode.specs.Translation.{Instr, thread_code}
use Rattle.writing.specs.Buffer.{Text, puts}
use Rattle.text.specs.Listing.{show_line, show_code, show_threads, show_head, show_module}
use Rattle.writing.proofs.Buffer.{puts-nil, puts-append}

module _ {E : Type 0} (expr : E → List ℕ) where
  -- ---- show_code

  -- One line written, that of instruction k.
  pub code_step : (thread k : ℕ) (is : List (Instr E)) (d : Instr E) (t u : Text) → k < length is
      → u ≡ puts t (show_line expr thread k (get_or is k d))
      → puts u (show_code expr thread (k + 1) (drop (k + 1) is)) ≡ puts t (show_code expr thread k (drop k is))
  unfolding show_code
  code_step thread k is d t u h e =
      ap (λ x. puts x (show_code expr thread (k + 1) (drop (k + 1) is))) e
      ∙ sym (puts-append t (show_line expr thread k (get_or is k d)) (show_code expr thread (k + 1) (drop (k + 1) is)))
      ∙ rw (drop-cons is k d h, add-one k)

  -- All lines written.
  pub code-end : (thread k : ℕ) (is : List (Instr E)) (t : Text) → length is ≤ k
      → puts t (show_code expr thread k (drop k is)) ≡ t
  unfolding show_code
  code-end thread k is t h = ap (λ x. puts t (show_code expr thread k x)) (drop_of_length-le is h) ∙ puts-nil t

  -- ---- show_threads

  -- One thread written, the kth.
  pub threads-step : (k : ℕ) (bs : List (Stmt E)) (d : Stmt E) (t u : Text) → k < length bs
      → u ≡ puts t (show_code expr k 0 (thread_code (get_or bs k d)))
      → puts u (show_threads expr (k + 1) (drop (k + 1) bs)) ≡ puts t (show_threads expr k (drop k bs))
  unfolding show_threads
  threads-step k bs d t u h e =
      ap (λ x. puts x (show_threads expr (k + 1) (drop (k + 1) bs))) e
      ∙ sym (puts-append t (show_code expr k 0 (thread_code (get_or bs k d))) (show_threads expr (k + 1) (drop (k + 1) bs)))
      ∙ rw (drop-cons bs k d h, add-one k)

  -- All threads written.
  pub threads_end : (k : ℕ) (bs : List (Stmt E)) (t : Text) → length bs ≤ k
      → puts t (show_threads expr k (drop k bs)) ≡ t
  unfolding show_threads
  threads_end k bs t h = ap (λ x. puts t (show_threads expr k x)) (drop_of_length-le bs h) ∙ puts-nil t

  -- ---- show_module

  -- The first line written.
  pub module-step : (m : Module E) (t u : Text) → u ≡ puts t (show_head (length m.threads))
      → puts u (show_threads expr 0 m.threads) ≡ puts t (show_module expr m)
  unfolding show_module
  module-step m t u e =
      ap (λ x. puts x (show_threads expr 0 m.threads)) e
      ∙ sym (puts-append t (show_head (length m.threads)) (show_threads expr 0 m.threads))
