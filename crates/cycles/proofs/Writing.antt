-- What the code notes of the registers that threads write is what the threads of the sheet's module write. Assumes nothing.
use mathlib.Core.Path.{◌≡◌, sym, ap, ◌∙◌}
use mathlib.Core.Bool.{false, ◌||◌}
use mathlib.Core.List.{List}
use Prim.Native.Nat.{ℕ, ◌+◌, ◌^◌, ◌<◌}
use native.Mathlib.Omega.{arith}
use lib.ListN.{length, get_or, replicate, length-map, length-replicate}
use Rattle.sheet.specs.Reading.{ok}
use Rattle.sheet.specs.Expression.{Expr, expr_at, located}
use Rattle.sheet.specs.Statement.{map_stmt}
use Rattle.sheet.specs.Module.{Module, map_module, Sheet, read_sheet, read}
use Rattle.sheet.specs.Answers.{definitions_of, layout_of}
use Rattle.sheet.specs.declared.Layout.{Layout}
use Rattle.sheet.proofs.Trees.{trees}
use Rattle.pseudocode.specs.Compiling.{Compiled, compile_at}
use Rattle.masks.specs.Masks.{bits}
use Rattle.soundness.proofs.Soundness.{sound}
use Rattle.nextstate.specs.Rules.{writes}
use Rattle.tables.specs.Readers.{at_most}
use Rattle.tables.proofs.Readers.{at_most-same}
use Rattle.tables.proofs.Holding.{module-same, holding-filled}
use Rattle.rules.specs.Writers.{plain_below, later_below}
use Rattle.rules.proofs.Writing.{plain-law, later-law}
use Rattle.cycles.specs.Written.{Written}

module _ (s : List ℕ) (y : Layout) (code lengths plain later written : List ℕ)
    (same_code : code ≡ (compile_at s y.definitions y.threads y.body (replicate 4096 0)).code)
    (same-lengths : lengths ≡ (compile_at s y.definitions y.threads y.body (replicate 4096 0)).sizes)
    (same-plain : plain ≡ plain_below s code lengths y.inputs (at_most 8 y.threads) (replicate 8 0))
    (same-later : later ≡ later_below s code lengths y.inputs (at_most 8 y.threads) (replicate 8 0))
    (joined : (i r : ℕ) → i < 8 → get_or (bits (get_or written i 0)) r false
    ≡ (get_or (bits (get_or plain i 0)) r false || get_or (bits (get_or later i 0)) r false))
    (small : (i : ℕ) → get_or written i 0 < 2 ^ 32) (x : Sheet ℕ) (m : Module Expr) (h : read_sheet (located s) s ≡ ok x) (e : read s ≡ ok m)
    (o : y ≡ layout_of x)
  where
    abbrev c : Compiled
    c = compile_at s (definitions_of x.definitions) (length x.contents.threads) x.body (replicate 4096 0)

    abbrev N : ℕ
    N = length m.threads

    same-scope : x.contents.scope ≡ m.scope
    unfolding trees map_module
    same-scope = ap (λ (n : Module Expr). n.scope) (module-same s x m h e)

    same-threads : length x.contents.threads ≡ N
    unfolding trees map_module
    same-threads =
        sym (length-map x.contents.threads (map_stmt (expr_at s x.contents.scope)))
        ∙ ap (λ (n : Module Expr). length n.threads) (module-same s x m h e)

    eight : at_most 8 (length x.contents.threads) ≡ N
    eight = ap (at_most 8) same-threads ∙ at_most-same 8 N (sound s e).threads-most

    plain-is : plain ≡ plain_below s c.code c.sizes m.scope.inputs N (replicate 8 0)
    unfolding layout_of
    plain-is = (rw (same_code, same-lengths, o) at same-plain) ∙ rw (eight, same-scope)

    later-is : later ≡ later_below s c.code c.sizes m.scope.inputs N (replicate 8 0)
    unfolding layout_of
    later-is = (rw (same_code, same-lengths, o) at same-later) ∙ rw (eight, same-scope)

    writers : (i r : ℕ) → i < N → get_or (bits (get_or written i 0)) r false ≡ writes m i (m.scope.inputs + r)
    unfolding writes
    writers i r l =
        let z = sound s e in
        let n = length-replicate {A = ℕ} 8 0 in
        let all = holding-filled s x m h e (replicate 4096 0) (length-replicate {A = ℕ} 4096 0) in
        joined i r (omega (arith, z.threads-most))
        ∙ rw (plain-is, later-is, plain-law z all (replicate 8 0) n i r l, later-law z all (replicate 8 0) n i r l)

    pub written_is : Written m written
    written_is = record { small = small; writers = writers }
