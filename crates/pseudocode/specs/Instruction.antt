-- The instruction in document 01's form: "An instruction holds its kind, and a wait its edges, inside one value."
use Rattle.std.specs.Prelude.{ℕ, List, length, get_or}
use Rattle.values.specs.declared.Edge.TheVariants.{Change}
use Rattle.sheet.specs.declared.EdgeTerm.{EdgeTerm}
use Rattle.pseudocode.specs.declared.EdgeTerms.{EdgeTerms}
use Rattle.pseudocode.specs.declared.Action.TheVariants.{Set, Later, Go, IfNot}
use Rattle.pseudocode.specs.declared.Instruction.{Instruction}
use Rattle.pseudocode.specs.declared.Instruction.TheVariants.{Wait, Act}
use Rattle.pseudocode.specs.Translation.{Instr, wait!, set!, later!, go, ifnot}

-- What stands in the fields past a wait's last term.
unfoldable pub no_term : EdgeTerm
no_term = record { edge = Change; variable = 0 }

unfoldable pub terms_of : List EdgeTerm → EdgeTerms
terms_of ts =
    record {
      count = length ts;
      t0 = get_or ts 0 no_term;
      t1 = get_or ts 1 no_term;
      t2 = get_or ts 2 no_term;
      t3 = get_or ts 3 no_term;
      t4 = get_or ts 4 no_term;
      t5 = get_or ts 5 no_term;
      t6 = get_or ts 6 no_term;
      t7 = get_or ts 7 no_term;
    }

unfoldable pub instruction_of : Instr ℕ → Instruction
instruction_of (wait! ts) = Wait (terms_of ts)
instruction_of (set! t e) = Act (Set t e)
instruction_of (later! t e) = Act (Later t e)
instruction_of (go g) = Act (Go g)
instruction_of (ifnot e g) = Act (IfNot g e)
