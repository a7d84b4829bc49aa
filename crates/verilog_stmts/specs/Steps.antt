-- The steps of which reading and writing are wrote, on the tables of a text's tokens and a buffer of 65,536 bytes.
use Rattle.std.specs.Prelude.{Bool, false, ◌&&◌, List, [], ◌∷◌, ℕ, ◌+◌, ◌%◌, ltb, eqb, set}
use Rattle.values.specs.Values.{pick}
use Rattle.writing.specs.Buffer.{Text, filled, puts}
use Rattle.verilog_bytes.specs.Turning.{behind, fronted}
use Rattle.verilog_exprs.specs.declared.Put.{Put}
use Rattle.verilog_exprs.specs.Rows.{row_at, answer, Wrote, wrote}

-- ---- where reading and writing are, and what was written

abbrev pub State : Type 0
State = Wrote

abbrev pub moved : (Put → Put) → State → State
moved f s = wrote (f s.put) s.bytes

-- ---- one token

-- Refused at the token that is next.
unfoldable pub refused : Put → Put
refused p = answer false p.next p.pos

-- Behind the token that is next. The table has 16,385.
unfoldable pub after : Put → Put
after p = answer p.ok (pick (ltb p.next 16385) (p.next + 1) p.next) p.pos

unfoldable pub is_next : List ℕ → ℕ → Put → Bool
is_next ks k p = p.ok && eqb (row_at ks p.next) k

-- ---- bytes

abbrev pub placed : Put → Text → State
placed p t = wrote (answer p.ok p.next t.at) t.bytes

unfoldable pub write : List ℕ → State → State
write bs s = placed s.put (puts (filled s.bytes s.put.pos) bs)

-- A byte in front of all that stands from a place on.
unfoldable pub front : ℕ → ℕ → State → State
front b from s = placed s.put (fronted from (b ∷ []) (filled s.bytes s.put.pos))

-- A byte in place of another.
unfoldable pub stamped : ℕ → ℕ → List ℕ → List ℕ
stamped b place bs = pick (ltb place 65536) (set bs place b) bs

unfoldable pub stamp_at : ℕ → ℕ → State → State
stamp_at b place s = wrote s.put (stamped b place s.bytes)

-- What stands from a place up to another, behind all.
unfoldable pub last : ℕ → ℕ → State → State
last from mid s = placed s.put (behind from mid (filled s.bytes s.put.pos))

-- A name, whose number is written.
unfoldable pub name : List ℕ → State → State
name ns s = write (row_at ns s.put.next % 256 ∷ []) (moved after s)

unfoldable pub named : List ℕ → List ℕ → State → State
named ks ns s = pick (is_next ks 64 s.put) (name ns) (moved refused) s
