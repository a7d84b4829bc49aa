-- `verilog_bytes::put_front` meets its contract. Assumes nothing.
use mathlib.Core.Path.{sym, ap, ◌∙◌}
use mathlib.Core.List.{◌∷◌, []}
use native.Mathlib.Omega.{arith}
use Rattle.writing.specs.Buffer.{filled}
use Rattle.verilog_bytes.specs.Turning.{behind}
use Rattle.verilog_bytes.proofs.Moving.{room_after, room_fits, fronted-else, fronted-room}
use Rattle.verilog_bytes.proofs.put_front.Goals as goal

pub shift-requires : goal.shift-requires
shift-requires c =
    let a = c.args in
    let e = sym c.has_room.ensures ∙ c.if-has_room.true in
    (omega (arith, room_after a.from a.pos 1 e), room_fits a.from a.pos 1 e)

pub bounds-out-from : goal.bounds-out-from
bounds-out-from c =
    let a = c.args in
    let e = sym c.has_room.ensures ∙ c.if-has_room.true in
    omega (arith, room_after a.from a.pos 1 e, room_fits a.from a.pos 1 e)

pub overflow_add-result : goal.overflow_add-result
overflow_add-result c =
    let a = c.args in
    let e = sym c.has_room.ensures ∙ c.if-has_room.true in
    omega (arith, room_fits a.from a.pos 1 e)

pub returns-then-has_room : goal.returns-then-has_room
returns-then-has_room c =
    let a = c.args in
    let e = sym c.has_room.ensures ∙ c.if-has_room.true in
    fronted-room a.from (a.a ∷ []) a.out.now a.pos _ e c.shift.ensures

pub returns : goal.returns
unfolding behind
returns c =
    let a = c.args in
    let p = c.put_byte-p.result in
    let e = sym c.has_room.ensures ∙ c.if-has_room.false in
    ap (λ l. filled l p) c.turn.ensures
    ∙ ap (λ t. behind a.from a.pos t) c.put_byte-p.ensures
    ∙ sym (fronted-else a.from (a.a ∷ []) a.out.now a.pos e)
