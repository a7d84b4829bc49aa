-- `stimulus::numbers::grown` meets its contract, row by row. Assumes nothing.
use native.Mathlib.Omega.{arith}
use mathlib.Core.Bool.{true, false}
use Rattle.stimulus.proofs.Digits.{grown-bad, grown-more, grown-full}
use Rattle.stimulus.proofs.numbers.grown.Goals as goal

pub returns-then-d-ge16 : goal.returns-then-d-ge16
returns-then-d-ge16 c =
    grown-bad _ true (cc) _ _ (omega arith)

pub returns-then-n-lt4294967296 : goal.returns-then-n-lt4294967296
returns-then-n-lt4294967296 c =
    grown-more _ true (cc) _ _ _ (omega arith) (omega arith) (omega arith)

pub returns-then-hex : goal.returns-then-hex
returns-then-hex c =
    grown-full _ true (cc) _ _ (omega arith) (omega arith)

pub returns-then-d-ge10 : goal.returns-then-d-ge10
returns-then-d-ge10 c =
    grown-bad _ false (cc) _ _ (omega arith)

pub returns-then-n-lt4294967296-2 : goal.returns-then-n-lt4294967296-2
returns-then-n-lt4294967296-2 c =
    grown-more _ false (cc) _ _ _ (omega arith) (omega arith) (omega arith)

pub returns : goal.returns
returns c =
    grown-full _ false (cc) _ _ (omega arith) (omega arith)
