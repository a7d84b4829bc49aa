-- `verilog_tokens::tokens::sign` meets its contract. Assumes nothing.
use mathlib.Core.Path.{refl}
use native.Mathlib.Omega.{arith}
use Rattle.verilog_tokens.proofs.Pieces.{sign-few, sign-none, sign-some}
use Rattle.verilog_tokens.proofs.tokens.sign.Goals as goal

pub returns-then-n-eq0 : goal.returns-then-n-eq0
returns-then-n-eq0 c =
    let a = c.args in
    let r-sign-size = c.sign_size-n in
    let i1 = c.if-n-eq0 in
    sign-none a.text.now a.at _ r-sign-size.ensures i1.true

pub overflow_add-end : goal.overflow_add-end
overflow_add-end c =
    let a = c.args in
    let r-sign-size = c.sign_size-n in
    let p = c.requires in
    omega (arith, sign-few a.text.now a.at _ r-sign-size.ensures, p)

pub slice_bounds-terminal_kind-count : goal.slice_bounds-terminal_kind-count
slice_bounds-terminal_kind-count c =
    let a = c.args in
    let r-sign-size = c.sign_size-n in
    let p = c.requires in
    omega (arith, sign-few a.text.now a.at _ r-sign-size.ensures, p)

pub slice_bounds-terminal_kind-start : goal.slice_bounds-terminal_kind-start
slice_bounds-terminal_kind-start c =
    let a = c.args in
    let r-sign-size = c.sign_size-n in
    let p = c.requires in
    omega (arith, sign-few a.text.now a.at _ r-sign-size.ensures, p)

pub slice_bounds-terminal_kind-end : goal.slice_bounds-terminal_kind-end
slice_bounds-terminal_kind-end c =
    let a = c.args in
    let r-sign-size = c.sign_size-n in
    let p = c.requires in
    omega (arith, sign-few a.text.now a.at _ r-sign-size.ensures, p)

pub returns : goal.returns
returns c =
    let a = c.args in
    let r-sign-size = c.sign_size-n in
    let i1 = c.if-n-eq0 in
    let r-terminal-kind = c.terminal_kind-kind in
    sign-some a.text.now a.at _ r-sign-size.ensures i1.false _ _ refl r-terminal-kind.ensures
