-- `waveform::put_declarations` meets its contract. The loop's invariant: what is still to be put gives the whole.
-- Assumes nothing.
use Prim.Native.Nat.{◌≤◌, ◌-◌}
use mathlib.Core.Path.{◌≡◌, sym, ◌∙◌, ap}
use native.Mathlib.Omega.{arith}
use Rattle.writing.specs.Buffer.{filled, puts}
use Rattle.naming.specs.Naming.{texts, within}
use Rattle.naming.proofs.Naming.{texts-next, texts-done, within-80}
use Rattle.waveform.specs.Waveform.{declaration, declarations}
use borrow.Author.Rules.{rules}
use Rattle.waveform.proofs.put_declarations.Given as goal

abbrev pub invariant-loop-v : goal.invariant-loop-v
invariant-loop-v l =
    (l.v ≤ l.end) × (l.end ≤ 80) × (puts (filled l.text l.p) (texts (declaration l.widths l.names l.inputs l.registers) (l.end - l.v) l.v)
    ≡ puts (filled l.initial.text l.pos) (declarations l.widths l.names l.inputs l.registers l.n))
