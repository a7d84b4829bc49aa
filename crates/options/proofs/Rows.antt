-- The rows of the definitions that a number and a command go by. Assumes nothing.
use mathlib.Core.Path.{◌≡◌}
use mathlib.Core.Bool.{true, false}
use mathlib.Core.List.{List}
use Prim.Native.Nat.{ℕ, ◌<◌, ◌≤◌}
use borrow.Author.Tests.{lt-ltb, le-ltb, eq-eqb, ne_eqb}
use lib.ListN.{length}
use Rattle.stimulus.specs.declared.Number.{Number}
use Rattle.stimulus.specs.Numbers.{number_of}
use Rattle.options.specs.declared.Options.{Options}
use Rattle.options.specs.declared.Command.TheVariants.{Run, Extract}
use Rattle.options.specs.Options.{noted, valued, misplaced, least_of, numbered}
use Rattle.options.specs.declared.Command.{Command}
use Rattle.options.specs.declared.Request.TheVariants.{Wrong, Asked}
use Rattle.options.specs.Requests.{word_of, is_given, misfit, clashing, based, kind_of, fault_of, run_of, commanded, paired}

-- ---- numbered

module _ (o : Options) (slot : ℕ) (word : List ℕ) where
  pub numbered-empty : length word ≡ 0 → misplaced o 3 ≡ numbered o slot word
  unfolding numbered
  numbered-empty h = rw (eq-eqb (length word) 0 h)

  module _ (h : length word ≡ 0 → ⊥) (a : Number) (e : a ≡ number_of false word) where
    pub numbered-bad : a.good ≡ false → misplaced o 3 ≡ numbered o slot word
    unfolding numbered
    numbered-bad g = rw (ne_eqb (length word) 0 h, ← e, g)

    pub numbered-long : a.good ≡ true → 4294967296 ≤ a.n → misplaced o 3 ≡ numbered o slot word
    unfolding numbered
    numbered-long g l = rw (ne_eqb (length word) 0 h, ← e, g, le-ltb a.n 4294967296 l)

    pub numbered-small : a.good ≡ true → a.n < 4294967296 → a.n < least_of slot → misplaced o 3 ≡ numbered o slot word
    unfolding numbered
    numbered-small g l k = rw (ne_eqb (length word) 0 h, ← e, g, lt-ltb a.n 4294967296 l, lt-ltb a.n (least_of slot) k)

    pub numbered_is : a.good ≡ true → a.n < 4294967296 → least_of slot ≤ a.n → valued (noted o slot) slot a.n ≡ numbered o slot word
    unfolding numbered
    numbered_is g l k = rw (ne_eqb (length word) 0 h, ← e, g, lt-ltb a.n 4294967296 l, le-ltb a.n (least_of slot) k)

-- ---- commanded, where the options of a command are made first

module _ (o : Options) where
  pub commanded-run : o.command ≡ 3 → Run (run_of o) ≡ commanded o
  unfolding commanded
  commanded-run e = rw e

  pub commanded-extract :
      o.command ≡ 4 → Extract (record { sheet = word_of o 30; names = word_of o 2; dot = is_given o 23 }) ≡ commanded o
  unfolding commanded
  commanded-extract e = rw e

-- ---- paired, where neither two ways nor two bases are given

module _ (o : Options) (a : clashing o ≡ false) (b : based o ≡ false) {k n : ℕ} (e : k ≡ kind_of o) (f : n ≡ misfit k 0 o.at) where
  pub paired-beside : (n ≡ 0 → ⊥) → {m : ℕ} → m ≡ fault_of k → Wrong n m ≡ paired o
  unfolding paired
  paired-beside h g = rw (a, b, g, ← e, ← f, ne_eqb n 0 h)

  pub paired-asked : n ≡ 0 → {c : Command} → c ≡ commanded o → Asked c ≡ paired o
  unfolding paired
  paired-asked h g = rw (a, b, g, ← e, ← f, eq-eqb n 0 h)
