-- What is claimed of a module's reader over tables whose names' numbers are bytes. Assumes nothing.
use mathlib.Core.Path.{◌≡◌, refl, sym, ap, ◌∙◌, subst}
use mathlib.Core.Bool.{Bool, true}
use mathlib.Core.List.{List, []}
use Prim.Native.Nat.{ℕ, ◌<◌}
use lib.ListN.{length}
use Rattle.sheet.specs.Expression.{Expr}
use Rattle.sheet.specs.Statement.{Stmt}
use Rattle.verilog_tokens.specs.Tokens.{Token}
use Rattle.verilog_grammar.specs.Reader.{Res, ok, no, statement}
use Rattle.verilog_source.specs.Written.{written_stmt}
use Rattle.verilog_bytes.specs.Held.{Held}
use Rattle.verilog_exprs.specs.Rows.{Wrote, wrote, answer}
use Rattle.verilog_exprs.specs.Following.{Tabled, Follows}
use Rattle.verilog_stmts.specs.Claims.{StatementsFollow}
use Rattle.verilog_stmts.specs.Written.{statement_in}
use Rattle.verilog_stmts.proofs.Following.{statements-follow}
use Rattle.verilog_items.specs.Following.{Reached, Ends, StatementsEnd, ModulesRead, ModulesFollow}
use Rattle.verilog_items.proofs.Reading.{modules-read}

module _ (index : List ℕ → ℕ) (ts : List Token) (ks ns : List ℕ) (tab : Tabled index ts ks ns) (small : (s : List ℕ) → index s < 256) where
  ends-from : (w : Wrote) (r : Res (Stmt Expr)) → Follows ts [] written_stmt w r → Ends ts w r
  unfolding Follows Ends
  ends-from w (ok a us) f = record { yes = f.yes; to = f.to; room = f.holds.room }
  ends-from w (no n) f = f

  pub statements-end : StatementsEnd index ts ks ns
  unfolding StatementsEnd StatementsFollow
  statements-end w us h z =
      let e : wrote (answer true w.put.next 0) w.bytes ≡ w =
      ap (λ b. wrote (answer b w.put.next 0) w.bytes) (sym h.yes) ∙ ap (λ p. wrote (answer w.put.ok w.put.next p) w.bytes) (sym z) in
      subst (λ v. Ends ts (statement_in ks ns (length ts) (length us) v) (statement index (length us) us)) e
      (ends-from _ (statement index (length us) us)
      (statements-follow index ts us ks ns tab small (length us) w.put.next 0 w.bytes [] h.to
      (record { room = h.room; place = refl; front = λ l. refl })))

pub modules-follow : ModulesFollow
unfolding ModulesFollow ModulesRead
modules-follow index ts ks ns tab small bs rs ws lb lr lw clear =
    modules-read index index ts ks ns tab (statements-end index ts ks ns tab small) bs rs ws lb lr lw clear
