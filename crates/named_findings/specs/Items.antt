-- Which item of a Verilog text breaks a rule of extraction (`witness`).
use Rattle.std.specs.Prelude.{List, ℕ, ◌+◌, ltb, replicate}
use Rattle.values.specs.Values.{pick, ◌is◌then◌else◌}
use Rattle.sheet.specs.declared.Layout.{Layout}
use Rattle.sheet.specs.Expression.{located}
use Rattle.sheet.specs.Module.{read_sheet}
use Rattle.sheet.specs.Answers.{sheet_answer}
use Rattle.pseudocode.specs.Compiling.{compile_at}
use Rattle.tables.specs.Readers.{at_most}
use Rattle.rules.specs.Judging.{size_of, waits_in, waits_of}
use Rattle.witness.specs.declared.Witness.{Witness}
use Rattle.verilog_origins.specs.declared.Item.{Item}
use Rattle.verilog_origins.specs.declared.Item.TheVariants.{Variable, Assign, Thread, Wait}
use Rattle.named_findings.specs.Findings.{variable}

-- How many waits there are in the threads before one, and before a place in it, by the code that `compile` leaves. There are eight
-- threads at most.
unfoldable pub waits_with : List ℕ → ℕ → ℕ → List ℕ → List ℕ → ℕ
waits_with s i p code sizes = waits_of s code sizes (at_most 8 i) + waits_in s code i (at_most (size_of sizes i) p)

unfoldable pub waits_under : List ℕ → ℕ → ℕ → Layout → ℕ
waits_under s i p l =
    let c = compile_at s l.definitions l.threads l.body (replicate 4096 0) in
    waits_with s i p c.code c.sizes

unfoldable pub waits_at : List ℕ → ℕ → ℕ → ℕ
waits_at s i p = waits_under s i p (sheet_answer (read_sheet (located s) s)).layout

-- 12 to 14 a register, 18 and 19 a wire where one is named; 15, 20 and 21 a wait; else a thread. Registers begin with this variable.
unfoldable pub item_of : ℕ → ℕ → Witness → Item
item_of registers waits w =
    pick (ltb w.number 15) (Variable (variable registers w.register))
    (pick w.wired (Assign w.wire)
    (w.number is 15 then Wait waits else
    pick (ltb w.number 20) (Thread w.thread) (Wait waits)))
